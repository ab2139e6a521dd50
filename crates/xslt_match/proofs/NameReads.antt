-- Names that are recorded one after another.
use Rattle.std.proofs.Common.{◌≡◌, ℕ, zero, suc, ◌+◌, ◌<◌, ◌≤◌, drop, get_or, length, Bool, true, false, cond, List, [], ◌∷◌, ◌++◌, map, filter, Result, Ok, Err, refl, sym, ap, ◌∙◌, append_assoc, append-nil}
use Rattle.std.proofs.lemmas.List.{map-append, nil_from_length}
use Rattle.std.specs.Prelude.{OnErr, OnOk}
use Rattle.std.specs.declared.alloc.AllocError.{AllocError}
use Rattle.doc_tree.specs.cell.Cell.TheVariants.{Name}
use Rattle.doc_tree.specs.declared.axes.Axis.{Axis}
use Rattle.doc_tree.specs.declared.axes.NodeTest.{NodeTest}
use Rattle.doc_tree.specs.Table.{Table, kind_of}
use Rattle.doc_tree.specs.Walks.{above, ancestors}
use Rattle.doc_axes.specs.NodeTests.{is_principal}
use Rattle.xp_typed_tree.specs.declared.pattern.TypedPath.{TypedPath}
use Rattle.xp_typed_tree.specs.declared.pattern.TypedPatternStep.{TypedPatternStep}
use Rattle.xp_typed_tree.specs.TypedView.{path_seen, paths_seen, pattern_step_seen}
use Rattle.xp_outcome.specs.Cells.{names_on}
use Rattle.xp_outcome.specs.Evaluation.{Read, Evaluation, done, bind, all_reading, cell}
use Rattle.xp_outcome.specs.Recorded.{Recorded, note}
use Rattle.xp_outcome.specs.Running.{Stop, Ran}
use Rattle.xp_outcome.proofs.Outcomes.{behind-behind, behind-nothing, bind-all_reading, bind-done}
use Rattle.xp_outcome.proofs.Runs.{next_item, no_item, ran_alike, ran_all_reading, ran_bind, ran_done, ran_late, ran_moved, ran_stop}
use Rattle.xp_values.specs.declared.values.EvalFault.{EvalFault}
use Rattle.xp_meaning.specs.Reads.{is_by_name}
use Rattle.xp_meaning.specs.Results.{shown_alloc}
use Rattle.xslt_match.specs.Names.{pattern_names, place_names, standing_places, step_names}

module _ {A B : Type 0} (xs : List Read) (v : A) where
  reads_then : (next : A → Evaluation EvalFault B) → bind (all_reading xs (done v)) next ≡ all_reading xs (next v)
  reads_then next = bind-all_reading xs (done v) next ∙ ap (λ m. all_reading xs m) (bind-done v next)

  module _ (m : Evaluation EvalFault B) {held now : Recorded} {before mid : ℕ} where
    -- the reads were recorded, and then the rest
    pub read_ok : {u : A} {r : Result B (Stop EvalFault)} {last : Recorded} {after : ℕ} →
        Ran (all_reading xs (done {F = EvalFault} v)) (Ok u) held now before mid → Ran m r now last mid after → Ran (all_reading xs m) r held last before after
    read_ok {u} first rest = ran_alike (sym (reads_then (λ _. m))) (ran_bind (λ _. m) {v = u} first rest)

    -- not all were recorded
    pub read_err : (e : Stop EvalFault) → Ran (all_reading xs (done {F = EvalFault} v)) (Err e) held now before mid →
        Ran (all_reading xs m) (Err e) held now before mid
    read_err e h = ran_alike (sym (reads_then (λ _. m))) (ran_stop (λ _. m) e h)

-- some reads and then others
pub reads-append : {A : Type 0} (xs ys : List Read) (m : Evaluation EvalFault A) → all_reading (xs ++ ys) m ≡ all_reading xs (all_reading ys m)
unfolding all_reading
reads-append xs ys m = sym (behind-behind xs ys 0 0 m)

pub no_reads : {A : Type 0} (m : Evaluation EvalFault A) → all_reading [] m ≡ m
unfolding all_reading
no_reads m = behind-nothing m

module _ (T : Table) (axis : Axis) where
  -- the names of a node and of others
  names_on-cons : (n : ℕ) (ns : List ℕ) → names_on T axis (n ∷ ns) ≡ names_on T axis (n ∷ []) ++ names_on T axis ns
  names_on-cons n ns = by (is_principal axis (kind_of T n))
    where
      by : (b : Bool) → map Name (cond b (n ∷ filter (λ k. is_principal axis (kind_of T k)) ns) (filter (λ k. is_principal axis (kind_of T k)) ns))
          ≡ map Name (cond b (n ∷ []) []) ++ map Name (filter (λ k. is_principal axis (kind_of T k)) ns)
      by true = refl
      by false = refl

  pub names-cons : (n : ℕ) (ns : List ℕ) → map cell (names_on T axis (n ∷ ns)) ≡ map cell (names_on T axis (n ∷ [])) ++ map cell (names_on T axis ns)
  names-cons n ns = ap (λ cs. map cell cs) (names_on-cons n ns) ∙ map-append cell (names_on T axis (n ∷ [])) (names_on T axis ns)

  pub name-alone : (n : ℕ) → is_principal axis (kind_of T n) ≡ true → map cell (names_on T axis (n ∷ [])) ≡ cell (Name n) ∷ []
  name-alone n h = ap (λ b. map cell (map Name (cond b (n ∷ []) []))) h

  pub no-name : (n : ℕ) → is_principal axis (kind_of T n) ≡ false → map cell (names_on T axis (n ∷ [])) ≡ []
  no-name n h = ap (λ b. map cell (map Name (cond b (n ∷ []) []))) h

-- one read more, or none for want of memory
pub added : (x : Read) (xs : List Read) (r : Result (Unit {0}) AllocError) {held now : Recorded} →
    xs ≡ x ∷ [] → OnOk r (now ≡ note held x) → OnErr r (now ≡ held) → (count : ℕ) →
    Ran (all_reading xs (done {F = EvalFault} {A = Unit {0}} tt)) (shown_alloc r) held now count count
added x xs (Ok u) alone noted same count =
    ran_alike (ap (λ rs. all_reading rs (done tt)) alone) (ran_all_reading (x ∷ []) (ran_moved refl noted refl refl (ran_done u _ _)))
added x xs (Err e) alone noted same count = ran_moved refl same refl refl (ran_late _ _ _)

-- the names of a node and of those above it
pub upwards : (T : Table) (axis : Axis) (m : ℕ) →
    all_reading (map cell (names_on T axis (above T m))) (done {F = EvalFault} {A = Unit {0}} tt)
    ≡ all_reading (map cell (names_on T axis (m ∷ []))) (all_reading (map cell (names_on T axis (ancestors T m))) (done tt))
upwards T axis m =
    ap (λ rs. all_reading rs (done tt)) (names-cons T axis m (ancestors T m))
    ∙ reads-append (map cell (names_on T axis (m ∷ []))) (map cell (names_on T axis (ancestors T m))) (done tt)

-- the names of some nodes, where a test looks at them or not
pub names_looked_at : (T : Table) (axis : Axis) (node_test : NodeTest) (ns : List ℕ) (m : Evaluation EvalFault (Unit {0})) → is_by_name node_test ≡ true →
    all_reading (place_names T axis node_test ns) m ≡ all_reading (map cell (names_on T axis ns)) m
names_looked_at T axis node_test ns m h = ap (λ (b : Bool). all_reading (cond b (map cell (names_on T axis ns)) []) m) h

pub no_names_looked_at : (T : Table) (axis : Axis) (node_test : NodeTest) (ns : List ℕ) (m : Evaluation EvalFault (Unit {0})) → is_by_name node_test ≡ false →
    all_reading (place_names T axis node_test ns) m ≡ m
no_names_looked_at T axis node_test ns m h = ap (λ (b : Bool). all_reading (cond b (map cell (names_on T axis ns)) []) m) h ∙ no_reads m

module _ (T : Table) (n : ℕ) where
  -- the names of the last steps of a path, and then those of the step before them
  pub steps-next : (later : List TypedPatternStep) (step : TypedPatternStep) (rest : List TypedPatternStep) → later ≡ step ∷ rest →
      all_reading (step_names T n (map pattern_step_seen later)) (done {F = EvalFault} {A = Unit {0}} tt)
      ≡ all_reading (step_names T n (map pattern_step_seen rest))
      (all_reading (place_names T (pattern_step_seen step).axis (pattern_step_seen step).test (standing_places T (map pattern_step_seen rest) n)) (done tt))
  steps-next later step rest is =
      ap (λ xs. all_reading (step_names T n (map pattern_step_seen xs)) (done tt)) is
      ∙ reads-append (step_names T n (map pattern_step_seen rest))
      (place_names T (pattern_step_seen step).axis (pattern_step_seen step).test (standing_places T (map pattern_step_seen rest) n)) (done tt)

  -- those of the last steps come first
  pub steps-first : (steps : List TypedPatternStep) (k : ℕ) →
      (ys : List Read) × (step_names T n (map pattern_step_seen steps) ≡ step_names T n (map pattern_step_seen (drop k steps)) ++ ys)
  steps-first steps zero = ([], sym (append-nil (step_names T n (map pattern_step_seen steps))))
  steps-first [] (suc k) = ([], refl)
  steps-first (step ∷ steps) (suc k) =
      let later = steps-first steps k in
      let own = place_names T (pattern_step_seen step).axis (pattern_step_seen step).test (standing_places T (map pattern_step_seen steps) n) in
      (later.0 ++ own, ap (λ rs. rs ++ own) later.1 ∙ append_assoc (step_names T n (map pattern_step_seen (drop k steps))) later.0 own)

  -- no steps are left
  pub steps-end : (later : List TypedPatternStep) → length later ≡ 0 →
      all_reading (step_names T n (map pattern_step_seen later)) (done {F = EvalFault} {A = Unit {0}} tt) ≡ done tt
  steps-end later none =
      ap (λ xs. all_reading (step_names T n (map pattern_step_seen xs)) (done tt)) (nil_from_length later none) ∙ no_reads (done tt)

  -- the names of a path pattern, and then those of the others
  pub paths-next : (paths : List TypedPath) (i : ℕ) (path : TypedPath) (path_steps : List TypedPatternStep) →
      i < length paths → path ≡ get_or paths i path → path_steps ≡ path.steps.items →
      all_reading (pattern_names T n (paths_seen (drop i paths))) (done {F = EvalFault} {A = Unit {0}} tt)
      ≡ all_reading (step_names T n (map pattern_step_seen path_steps)) (all_reading (pattern_names T n (paths_seen (drop (i + 1) paths))) (done tt))
  paths-next paths i path path_steps below is same =
      let others = pattern_names T n (paths_seen (drop (i + 1) paths)) in
      ap (λ ps. all_reading (pattern_names T n (paths_seen ps)) (done tt)) (next_item paths i path below is)
      ∙ reads-append (step_names T n (path_seen path).steps) others (done tt)
      ∙ ap (λ ss. all_reading (step_names T n (map pattern_step_seen ss)) (all_reading others (done tt))) (sym same)

  pub paths-end : (paths : List TypedPath) (i : ℕ) → length paths ≤ i →
      all_reading (pattern_names T n (paths_seen (drop i paths))) (done {F = EvalFault} {A = Unit {0}} tt) ≡ done tt
  paths-end paths i past = ap (λ ps. all_reading (pattern_names T n (paths_seen ps)) (done tt)) (no_item paths i past) ∙ no_reads (done tt)
