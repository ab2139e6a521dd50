-- Chains of survivors end at a node where there is a way to it.
use Rattle.std.proofs.Common.{◌≡◌, ℕ, Bool, true, false, cond, ◌||◌, List, [], ◌∷◌, Ok, eqb, refl, sym, ◌∙◌, ap, true≢false, eqb-true, eq-eqb}
use Rattle.std.specs.Prelude.{filter, if◌then◌else◌}
use Rattle.std.specs.List.{list_any}
use Rattle.doc_tree.specs.Laws.{WellFormed}
use Rattle.doc_tree.specs.Lists.{mem}
use Rattle.doc_tree.specs.Table.{Table}
use Rattle.doc_tree.specs.Walks.{order}
use Rattle.xp_typed_tree.specs.TypedTree.{TypedPatternStepTree}
use Rattle.xp_typed_tree.specs.WellTyped.{is_pattern_axis, PatternStepsTyped}
use Rattle.xp_meaning.specs.Evaluation.{Lets}
use Rattle.xp_meaning.proofs.Choices.{came_before}
use Rattle.xslt_match.specs.Matching.{leads, led_to, reaches, standing, survives, survivors, chains}
use Rattle.xslt_match.proofs.Filters.{found, kept-passes, kept-listed, or-false}
use Rattle.xslt_match_laws.specs.inner.Fitted.{AllFitted, StepsFitted}
use Rattle.xslt_match_laws.proofs.Gathering.{answered-done, in-filter, any-at, Drawn, given, drawn}
use Rattle.xslt_match_laws.proofs.Choosing.{selected-candidate, survives-selected}
use Rattle.xslt_match_laws.proofs.Ways.{Selects, Looks, Leg, Way, Clean, looks-leads, leads-looks, way-reaches, Begun}

-- a node where it survives
abbrev pub where_true : ℕ → Bool → List ℕ
where_true k b = if b then k ∷ [] else []

-- a node that survived
pub record Survived (T : Table) (L : Lets) (n : ℕ) (s : TypedPatternStepTree) (ks : List ℕ) (k : ℕ) : Type 0 where
  pub stands : mem k ks ≡ true
  pub tested : (survives T L s n k).answer ≡ Ok true

survived : (T : Table) (L : Lets) (n : ℕ) (s : TypedPatternStepTree) (ks : List ℕ) (k : ℕ) → Drawn (survives T L s n) where_true ks k → Survived T L n s ks k
survived T L n s ks k d = by d.value refl d.drawn
  where
    by : (b : Bool) → d.value ≡ b → mem k (cond b (d.at ∷ []) []) ≡ true → Survived T L n s ks k
    by true e h =
        let same : k ≡ d.at = eqb-true k d.at (sym (or-false (eqb k d.at)) ∙ h) in
        record { stands = ap (λ j. mem j ks) same ∙ d.listed; tested = ap (λ j. (survives T L s n j).answer) same ∙ d.answer ∙ ap Ok e }
    by false e h = absurd (true≢false (sym h))

-- a node that survived and is reached from one that is alive
pub record Came (T : Table) (L : Lets) (n : ℕ) (s : TypedPatternStepTree) (ss : List TypedPatternStepTree) (ks alive : List ℕ) (k : ℕ) : Type 0 where
  pub node : ℕ
  pub listed : mem node alive ≡ true
  pub at : ℕ
  pub looks : Looks T s.join node at
  pub selects : Selects T L n s at k
  pub stands : mem k ks ≡ true
  pub clean : Clean T L n ss k

-- what the test of chains tells
pub record Chained (T : Table) (L : Lets) (n : ℕ) (ss : List TypedPatternStepTree) (alive : List ℕ) (b : Bool) : Type 0 where
  pub way : b ≡ true → Begun T L n ss alive
  pub member : (m : ℕ) → mem m alive ≡ true → Way T L n ss m → b ≡ true

module _ (T : Table) (form : WellFormed T) (L : Lets) (n : ℕ) where
  abbrev led_from : TypedPatternStepTree → List ℕ → ℕ → Bool
  led_from s alive k = list_any (λ m. leads T s m k) alive

  came : (s : TypedPatternStepTree) (ss : List TypedPatternStepTree) (ms alive left : List ℕ) → is_pattern_axis s.axis ≡ true → AllFitted L s.predicates →
      ((m : ℕ) → mem m alive ≡ true → Clean T L n (s ∷ ss) m) → (survivors T L s n (standing T s ss ms n)).answer ≡ Ok left → (k : ℕ) →
      mem k (filter (led_from s alive) left) ≡ true → Came T L n s ss (standing T s ss ms n) alive k
  came s ss ms alive left axis fits clean is k h =
      let f = found (λ m. leads T s m k) alive (kept-passes (led_from s alive) k left h) in
      let l = leads-looks T s f.at k f.passes in
      let c = clean f.at f.listed l.at l.looks in
      let v = survived T L n s (standing T s ss ms n) k (drawn (survives T L s n) where_true 1 (standing T s ss ms n) left is k (kept-listed (led_from s alive) k left h)) in
      let live : mem k (order T) ≡ true =
      kept-listed (λ j. list_any (λ m. leads T s m j) ms) k (order T) (kept-listed (λ j. reaches T ss (j ∷ []) n) k (led_to T s ms) v.stands) in
      let among : mem k c.nodes ≡ true = survives-selected T L n s form axis fits l.at k c.nodes true c.answer l.candidate live v.tested in
      record {
        node = f.at;
        listed = f.listed;
        at = l.at;
        looks = l.looks;
        selects = record { nodes = c.nodes; answer = c.answer; among = among };
        stands = v.stands;
        clean = c.rest k among;
      }

  -- the next node of a way is alive too
  goes-on : (s : TypedPatternStepTree) (ss : List TypedPatternStepTree) (ms alive left : List ℕ) → is_pattern_axis s.axis ≡ true → AllFitted L s.predicates →
      ((m : ℕ) → mem m alive ≡ true → mem m ms ≡ true) → (survivors T L s n (standing T s ss ms n)).answer ≡ Ok left → (m : ℕ) → mem m alive ≡ true →
      (leg : Leg T L n s m (λ k. Way T L n ss k)) → mem leg.to (filter (led_from s alive) left) ≡ true
  goes-on s ss ms alive left axis fits among is m h leg =
      let q = selected-candidate T L n s leg.at leg.to leg.selects.nodes leg.selects.answer leg.selects.among in
      let l : leads T s m leg.to ≡ true = looks-leads T s m leg.at leg.to leg.looks q.0 in
      let stands : mem leg.to (standing T s ss ms n) ≡ true =
      in-filter (λ k. reaches T ss (k ∷ []) n) leg.to (led_to T s ms)
      (in-filter (λ k. list_any (λ j. leads T s j k) ms) leg.to (order T) q.1 (any-at (λ j. leads T s j leg.to) m ms (among m h) l))
      (way-reaches T L n ss leg.to leg.rest) in
      let g = given (survives T L s n) where_true 1 (standing T s ss ms n) left is leg.to stands in
      let alone : g.value ≡ true =
      sym (survives-selected T L n s form axis fits leg.at leg.to leg.selects.nodes g.value leg.selects.answer q.0 q.1 g.answer) ∙ leg.selects.among in
      in-filter (led_from s alive) leg.to left
      (g.keeps leg.to (ap (λ b. mem leg.to (cond b (leg.to ∷ []) [])) alone ∙ ap (λ b. b || false) (eq-eqb leg.to leg.to refl)))
      (any-at (λ j. leads T s j leg.to) m alive h l)

  pub chained : (ss : List TypedPatternStepTree) (ms alive : List ℕ) (b : Bool) → PatternStepsTyped ss → StepsFitted L ss → ((m : ℕ) → mem m alive ≡ true → mem m ms ≡ true) →
      ((m : ℕ) → mem m alive ≡ true → Clean T L n ss m) → (chains T L n ss ms alive).answer ≡ Ok b → Chained T L n ss alive b
  chained [] ms alive b typed fits among clean is =
      let same : mem n alive ≡ b = answered-done (mem n alive) b is in
      record {
        way = λ h. record { node = n; listed = same ∙ h; way = refl };
        member = λ m h e. sym same ∙ (ap (λ k. mem k alive) e ∙ h);
      }
  chained (s ∷ ss) ms alive b typed fits among clean is =
      let stand : List ℕ = standing T s ss ms n in
      let one = came_before (survivors T L s n stand) (λ ks. chains T L n ss stand (filter (led_from s alive) ks)) b is in
      let next : List ℕ = filter (led_from s alive) one.first in
      let back : (k : ℕ) → mem k next ≡ true → Came T L n s ss stand alive k = λ k h. came s ss ms alive one.first typed.0 fits.0 clean one.is k h in
      let rest = chained ss stand next b typed.2 fits.1 (λ k h. (back k h).stands) (λ k h. (back k h).clean) one.then in
      record {
        way = λ h. first alive next (rest.way h) back;
        member = λ m h leg. rest.member leg.to (goes-on s ss ms alive one.first typed.0 fits.0 among one.is m h leg) leg.rest;
      }
    where
      first : (alive next : List ℕ) → Begun T L n ss next → ((k : ℕ) → mem k next ≡ true → Came T L n s ss (standing T s ss ms n) alive k) → Begun T L n (s ∷ ss) alive
      first alive next w back =
          let c = back w.node w.listed in
          record { node = c.node; listed = c.listed; way = record { at = c.at; to = w.node; looks = c.looks; selects = c.selects; rest = w.way } }
