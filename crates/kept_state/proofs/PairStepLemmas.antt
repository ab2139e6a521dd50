-- A refresh goes from a node under a pattern to the next, and comes to its end.
use Rattle.std.proofs.Common.{◌≡◌, ◌≢◌, ◌∙◌, ℕ, ◌+◌, ◌<◌, ◌≤◌, ◌⊎◌, true, false, length, refl, sym, ap, subst, inl, inr, ⊎_elim, arith}
use Rattle.std.proofs.lemmas.Bool.{cases_Bool, cases_eq, cases_lt, false≢true}
use Rattle.doc_tree.specs.Laws.{WellFormed}
use Rattle.doc_tree.specs.Table.{Table, is_live}
use Rattle.xp_meaning.specs.Evaluation.{Lets}
use Rattle.xp_locality_laws.specs.Locality.{Changed}
use Rattle.sch_compiled.specs.declared.plan.Plan.{Plan}
use Rattle.sch_compiled.specs.Soundness.{IsSound}
use Rattle.sch_units.specs.Laws.{LetsStandInOrder}
use Rattle.sch_units.specs.Units.{lets_of}
use Rattle.edit_costs.specs.Locality.{GivenLetsAreLocal, RulesTyped}
use Rattle.edit_costs.specs.Laws.{LetsNeedThoseBefore, SameOutcomesAreEqual}
use Rattle.edit_costs.specs.Units.{ValidationUnit, in_force, under}
use Rattle.kept_state.specs.Kept.{IsUnit, Keeps, Kept}
use Rattle.kept_state.specs.Refreshing.{ComesBefore, PairsGoOn, Reached}
use Rattle.kept_state.specs.Running.{GoesOn, IsDone, IsFresh, is_run, is_stale}
use Rattle.kept_state.specs.Steps.{RunsPair, StaysAs, differs, unless_changed}
use Rattle.kept_state.proofs.EditLemmas.{live_made}
use Rattle.kept_state.proofs.LetStepLemmas.{done_on, given_on, stays_on}
use Rattle.kept_state.proofs.LiveLemmas.{nothing}
use Rattle.kept_state.proofs.PairLemmas.{cases_unit, pairs_keep}
use Rattle.kept_state.proofs.ReachedLemmas.{cases_before, kept_before, let_here, not_run_stays, not_stale_stays, told}
use Rattle.kept_state.proofs.RightLemmas.{lets_right, not_stale, stands_right, unit_right}

module _ (local : GivenLetsAreLocal) (changed_of : (T : Table) → WellFormed T → Changed T T nothing) (need : LetsNeedThoseBefore) (equal : SameOutcomesAreEqual)
    (order : LetsStandInOrder) (plan : Plan) (T : Table) (sound : IsSound plan) (formed : WellFormed T) where
  module _ (p n : ℕ) (old now : Kept) (reached : Reached plan T (under p n) old now) where
    tells : (q m : ℕ) → (ComesBefore (under q m) (under p n) → ⊥) → is_run plan T old (under q m) ≡ is_stale now (under q m)
    tells q m ahead = told equal order plan T (under p n) old now reached (under q m) ahead (λ _ _ _ _. tt)

    -- the kept lets are those of the tree
    lets_here : now.lets ≡ lets_of plan T
    lets_here = lets_right need order plan T sound local (changed_of T formed) now reached.keeps (λ slot _. let_here equal order plan T (under p n) old now reached slot tt)

    before_more : (next : ℕ) → n ≤ next → (unit : ValidationUnit) → ComesBefore unit (under p n) → ComesBefore unit (under p next)
    before_more next later (in_force slot) before = tt
    before_more next later (under q m) before =
        ⊎_elim (λ (below : q < p). inl below) (λ (both : (q ≡ p) × (m < n)). inr (both.0, omega (arith, both.1, later))) before

    -- of what comes before a later node of the pattern all came before but the nodes between
    before_of : (P : ValidationUnit → Type 0) (next : ℕ) → ((unit : ValidationUnit) → IsUnit plan T unit → ComesBefore unit (under p n) → P unit) →
        ((m : ℕ) → n ≤ m → m < next → IsUnit plan T (under p m) → P (under p m)) → (unit : ValidationUnit) → IsUnit plan T unit → ComesBefore unit (under p next) → P unit
    before_of P next earlier here (in_force slot) is before = earlier (in_force slot) is tt
    before_of P next earlier here (under q m) is before =
        ⊎_elim (λ (below : q < p). earlier (under q m) is (inl below))
        (λ (both : (q ≡ p) × (m < next)).
        ⊎_elim (λ (less : m < n). earlier (under q m) is (inr (both.0, less)))
        (λ (more : n ≤ m). subst (λ (k : ℕ). P (under k m)) (sym both.0) (here m more both.1 (subst (λ (k : ℕ). IsUnit plan T (under k m)) both.0 is)))
        (cases_lt m n))
        before

    ahead_from : (m : ℕ) → n ≤ m → ComesBefore (under p m) (under p n) → ⊥
    ahead_from m more before = ⊎_elim (λ (below : p < p). omega (arith, below)) (λ (both : (p ≡ p) × (m < n)). omega (arith, both.1, more)) before

    left : (next : ℕ) → RulesTyped plan p → n ≤ next → ((m : ℕ) → n ≤ m → m < next → is_live T m ≡ true → is_stale now (under p m) ≡ false) → Reached plan T (under p next) old now
    left next typed later fresh = record {
      kept = reached.kept;
      keeps = reached.keeps;
      done = before_of (λ unit. IsDone plan T now unit) next reached.done (λ m more less is.
          let entry = not_stale now (under p m) (fresh m more less is.1) in
          record {
            held = entry.0;
            is = entry.1;
            right = unit_right need order plan T sound local (changed_of T formed) now reached.keeps lets_here (under p m) entry.0 is typed entry.1;
          });
      stays = before_of (λ unit. is_run plan T old unit ≡ false → StaysAs old now unit) next reached.stays
          (λ m more less is _. not_stale_stays equal order plan T (under p n) old now reached (under p m) (ahead_from m more) (fresh m more less is.1));
      given = λ unit ahead. reached.given unit (λ before. ahead (before_more next later unit before));
      reads = λ unit ahead. reached.reads unit (λ before. ahead (before_more next later unit before));
    }

    next_pattern : length T ≤ n → Reached plan T (under (p + 1) 0) old now
    next_pattern past = record {
      kept = reached.kept;
      keeps = reached.keeps;
      done = λ unit is before. reached.done unit is (earlier unit is before);
      stays = λ unit is before. reached.stays unit is (earlier unit is before);
      given = λ unit ahead. reached.given unit (λ before. ahead (further unit before));
      reads = λ unit ahead. reached.reads unit (λ before. ahead (further unit before));
    }
      where
        earlier : (unit : ValidationUnit) → IsUnit plan T unit → ComesBefore unit (under (p + 1) 0) → ComesBefore unit (under p n)
        earlier (in_force slot) is before = tt
        earlier (under q m) is before =
            ⊎_elim
            (λ (below : q < p + 1).
            ⊎_elim (λ (same : q ≡ p). inr (same, let made = live_made T T nothing (changed_of T formed) m is.1 in omega (arith, made, past)))
            (λ (differ : q ≢ p). inl (omega (arith, below, differ))) (cases_eq q p))
            (λ (both : (q ≡ p + 1) × (m < 0)). absurd (omega (arith, both.1))) before

        further : (unit : ValidationUnit) → ComesBefore unit (under p n) → ComesBefore unit (under (p + 1) 0)
        further (in_force slot) before = tt
        further (under q m) before = ⊎_elim (λ (below : q < p). inl (omega (arith, below))) (λ (both : (q ≡ p) × (m < n)). inl (omega (arith, both.0))) before

    over : length plan.patterns ≤ p → IsFresh plan T now
    over past = record { keeps = reached.keeps; done = λ unit is. reached.done unit is (before unit is) }
      where
        before : (unit : ValidationUnit) → IsUnit plan T unit → ComesBefore unit (under p n)
        before (in_force slot) is = tt
        before (under q m) is = inl (omega (arith, is.0, past))

    module _ (new : Kept) (made : n < length T) (stale : is_stale now (under p n) ≡ true) (runs : RunsPair plan T p n now new) where
      keeps_new : Keeps plan T new
      keeps_new = pairs_keep plan T p n now new made reached.keeps runs

      not_to_run : is_run plan T old (under p n) ≡ false → ⊥
      not_to_run not_run = false≢true (sym not_run ∙ tells p n (ahead_from n (omega arith)) ∙ stale)

      not_itself : (unit : ValidationUnit) → ComesBefore unit (under p n) → unit ≢ under p n
      not_itself unit before e = ahead_from n (omega arith) (subst (λ (u : ValidationUnit). ComesBefore u (under p n)) e before)

      earlier_stays : (unit : ValidationUnit) → ComesBefore unit (under p n) → StaysAs now new unit
      earlier_stays unit before = runs.others unit (not_itself unit before)

      done_here : is_stale new (under p n) ≡ false → IsDone plan T new (under p n)
      done_here fresh =
          let entry = not_stale new (under p n) fresh in
          record {
            held = entry.0;
            is = entry.1;
            right = stands_right need order plan T sound new (under p n) entry.0 (runs.lets ∙ lets_here) (runs.stands entry.0 entry.1);
          }

      reads_new : (unit : ValidationUnit) → unit ≢ under p n → (ComesBefore unit (under p n) → ⊥) → new.reads unit ≡ unless_changed (differs old.lets new.lets) (old.reads unit)
      reads_new unit differ ahead =
          (runs.others unit differ).reads ∙ reached.reads unit ahead ∙ ap (λ (L : Lets). unless_changed (differs old.lets L) (old.reads unit)) (sym runs.lets)

      ran : is_stale new (under p n) ≡ false → Reached plan T (under p (n + 1)) old new
      ran fresh = record {
        kept = reached.kept;
        keeps = keeps_new;
        done = before_of (λ unit. IsDone plan T new unit) (n + 1) (λ unit is before. done_on plan T now new unit (earlier_stays unit before) (reached.done unit is before))
            (λ m more less is. let same : n ≡ m = omega (arith, more, less) in subst (λ (k : ℕ). IsDone plan T new (under p k)) same (done_here fresh));
        stays = before_of (λ unit. is_run plan T old unit ≡ false → StaysAs old new unit) (n + 1)
            (λ unit is before not_run. stays_on old now new unit (reached.stays unit is before not_run) (earlier_stays unit before))
            (λ m more less is not_run. absurd (let same : m ≡ n = omega (arith, more, less) in
            not_to_run (subst (λ (k : ℕ). is_run plan T old (under p k) ≡ false) same not_run)));
        given = λ unit ahead. given_on old now new unit (reached.given unit (further unit ahead)) (runs.others unit (not_here unit ahead)).given;
        reads = λ unit ahead. reads_new unit (not_here unit ahead) (further unit ahead);
      }
        where
          further : (unit : ValidationUnit) → (ComesBefore unit (under p (n + 1)) → ⊥) → ComesBefore unit (under p n) → ⊥
          further unit ahead before = ahead (before_more (n + 1) (omega arith) unit before)

          not_here : (unit : ValidationUnit) → (ComesBefore unit (under p (n + 1)) → ⊥) → unit ≢ under p n
          not_here unit ahead e = ahead (subst (λ (u : ValidationUnit). ComesBefore u (under p (n + 1))) (sym e) (inr (refl, omega arith)))

      stops : GoesOn plan T old new
      stops = record { keeps = keeps_new; some = some; others = others }
        where
          others : (unit : ValidationUnit) → IsUnit plan T unit → is_run plan T old unit ≡ false → StaysAs old new unit
          others unit is not_run =
              stays_on old now new unit (not_run_stays equal order plan T (under p n) old now reached unit is not_run)
              (runs.others unit (λ e. not_to_run (subst (λ (u : ValidationUnit). is_run plan T old u ≡ false) e not_run)))

          some : (unit : ValidationUnit) → IsUnit plan T unit → is_run plan T old unit ≡ true → IsDone plan T new unit ⊎ ((is_stale new unit ≡ true) ⊎ StaysAs old new unit)
          some unit is run =
              ⊎_elim (λ (before : ComesBefore unit (under p n)). inl (done_on plan T now new unit (earlier_stays unit before) (reached.done unit is before)))
              (λ (ahead : ComesBefore unit (under p n) → ⊥).
              ⊎_elim (λ (stale_now : is_stale new unit ≡ true). inr (inl stale_now))
              (λ (fresh : is_stale new unit ≡ false).
              ⊎_elim
              (λ (same : unit ≡ under p n).
              inl (subst (λ (u : ValidationUnit). IsDone plan T new u) (sym same) (done_here (subst (λ (u : ValidationUnit). is_stale new u ≡ false) same fresh))))
              (λ (differ : unit ≢ under p n).
              inr (inr (record {
                given = given_on old now new unit (reached.given unit ahead) (runs.others unit differ).given;
                reads = kept_before equal old.lets new.lets (old.reads unit) (new.reads unit) (reads_new unit differ ahead) fresh;
              })))
              (cases_unit unit (under p n)))
              (cases_Bool (is_stale new unit)))
              (cases_before unit (under p n))

  pub pairs_go_on : PairsGoOn plan T
  pairs_go_on = record {
    tells = λ p n q m old now reached ahead. tells p n old now reached q m ahead;
    left = λ p n next old now reached typed later fresh. left p n old now reached next typed later fresh;
    ran = λ p n old now new reached made stale runs fresh. ran p n old now reached new made stale runs fresh;
    stops = λ p n old now new reached made stale runs. stops p n old now reached new made stale runs;
    next = λ p n old now reached past. next_pattern p n old now reached past;
    over = λ p n old now reached past. over p n old now reached past;
  }
