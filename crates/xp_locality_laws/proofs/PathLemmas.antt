-- Steps and predicates stand where their reads were kept: candidates, what predicates leave of them, and what a step from a node-set selects.
use Rattle.std.proofs.Common.{◌≡◌, ℕ, ◌+◌, Bool, true, false, cond, List, [], ◌∷◌, length, sym, ap, ◌∙◌, true≢false}
use Rattle.std.specs.List.{list_any}
use Rattle.std.specs.Prelude.{filter}
use Rattle.doc_tree.specs.cell.Cell.{Cell}
use Rattle.doc_tree.specs.declared.axes.Axis.{Axis}
use Rattle.doc_tree.specs.declared.axes.NodeTest.{NodeTest}
use Rattle.doc_tree.specs.Table.{Table}
use Rattle.doc_axes.specs.Axes.{axis_nodes}
use Rattle.doc_axes.specs.NodeTests.{passes}
use Rattle.doc_axes.specs.Sets.{in_order}
use Rattle.doc_edit_laws.specs.Agreement.{AllStay, Stays}
use Rattle.xp_outcome.specs.Evaluation.{Evaluation, all_reading, done, gather, names_along, visits}
use Rattle.xp_outcome.specs.Cells.{names_on}
use Rattle.xp_values.specs.declared.values.EvalFault.{EvalFault}
use Rattle.xp_values.specs.declared.values.Value.{Value}
use Rattle.xp_meaning.specs.Conversions.{nodes_of}
use Rattle.xp_meaning.specs.declared.context.Context.{Context}
use Rattle.xp_meaning.specs.Evaluation.{Lets}
use Rattle.xp_meaning.specs.Paths.{Meaning, Step, candidates, chosen, filtered, holds_at, kept, placed, step_at, step_from}
use Rattle.xp_meaning.specs.Reads.{axis_reads, is_by_name, names_tested}
use Rattle.xp_locality_laws.specs.Locality.{AllKept, Changed, ContextStays}
use Rattle.xp_locality_laws.proofs.AxisLemmas.{same-axis, same-in_order, same-reads}
use Rattle.xp_locality_laws.proofs.StandLemmas.{Same, same-all_reading, same-bind, same-done, same-equal, same-gather, same-made, same-visits}
use Rattle.xp_locality_laws.proofs.NameLemmas.{name-kept, same-test}
use Rattle.xp_locality_laws.proofs.TestLemmas.{filter-alike, stay-filter}

-- meanings that stand in each context whose nodes live in both trees
pub record Local (T U : Table) (touched : Cell → Bool) (L M : Lets) (before after : Meaning) : Type 0 where
  pub at : (c : Context) → ContextStays T U c → Same T U touched L M nodes_of (before c) (after c)

abbrev pub AllLocal : Table → Table → (Cell → Bool) → Lets → Lets → List Meaning → List Meaning → Type 0
AllLocal T U touched L M [] [] = Unit {0}
AllLocal T U touched L M [] (n ∷ ns) = ⊥
AllLocal T U touched L M (m ∷ ms) [] = ⊥
AllLocal T U touched L M (m ∷ ms) (n ∷ ns) = Local T U touched L M m n × AllLocal T U touched L M ms ns

module _ (T U : Table) (touched : Cell → Bool) (L M : Lets) (changed : Changed T U touched) where
  -- names along an axis that a test looks at
  tested-kept : (b : Bool) (axis : Axis) (n : ℕ) → AllKept T U touched L M (cond b (names_along axis n ∷ []) []) → b ≡ true →
      list_any touched (names_on T axis (axis_nodes T axis n)) ≡ false
  tested-kept true axis n k e = k.0
  tested-kept false axis n k e = absurd (true≢false (sym e))

  same-candidates : (axis : Axis) (node_test : NodeTest) (n : ℕ) → Stays T U n →
      Same T U touched L M (λ ns. ns) (candidates T axis node_test n) (candidates U axis node_test n)
  unfolding candidates
  same-candidates axis node_test n stays =
      let visited : Table → Evaluation EvalFault (List ℕ) =
      λ V. visits (1 + length (axis_nodes V axis n)) (done (filter (passes V axis node_test) (axis_nodes V axis n))) in
      let found : Table → Evaluation EvalFault (List ℕ) = λ V. all_reading (names_tested axis node_test n) (visited V) in
      same-equal T U touched L M (λ ns. ns) _ (all_reading (axis_reads T axis n) (found U)) _ (ap (λ reads. all_reading reads (found U)) (same-reads T U touched L M changed axis n stays))
      (same-all_reading T U touched L M (λ ns. ns) (axis_reads T axis n) (found T) (found U) (λ k.
      same-all_reading T U touched L M (λ ns. ns) (names_tested axis node_test n) (visited T) (visited U) (λ names.
      let s = same-axis T U touched L M changed axis n stays k in
      let nodes = s.0 in
      let left : filter (passes T axis node_test) (axis_nodes T axis n) ≡ filter (passes U axis node_test) (axis_nodes U axis n) =
      filter-alike T U (passes T axis node_test) (passes U axis node_test) (axis_nodes T axis n)
      (λ m here stay. same-test T U touched L M changed axis node_test m stay
      (λ by_name principal. name-kept T touched axis (axis_nodes T axis n)
      (tested-kept (is_by_name node_test) axis n names by_name) m here principal)) s.1
      ∙ ap (filter (passes U axis node_test)) nodes in
      same-equal T U touched L M (λ ns. ns) (visited T) (visited T) (visited U) (λ i. visits (1 + length (nodes i)) (done (left i)))
      (same-visits T U touched L M (λ ns. ns) (1 + length (axis_nodes T axis n)) _ _
      (same-done T U touched L M (λ ns. ns) (filter (passes T axis node_test) (axis_nodes T axis n))
      (stay-filter T U (passes T axis node_test) (axis_nodes T axis n) s.1))))))

  -- predicates
  chosen-stay : (position n : ℕ) (v : Value) → Stays T U n → AllStay T U (chosen position n v)
  chosen-stay position n v stays = by (holds_at position v)
    where
      by : (b : Bool) → AllStay T U (cond b (n ∷ []) [])
      by true = (stays, tt)
      by false = tt

  same-kept : (m w : Meaning) (current : ℕ) (ns : List ℕ) → Local T U touched L M m w → Stays T U current → AllStay T U ns →
      Same T U touched L M (λ ms. ms) (kept m current ns) (kept w current ns)
  same-kept m w current ns h here stay =
      same-gather T U touched L M nodes_of (λ position n. m (placed current (length ns) position n)) (λ position n. w (placed current (length ns) position n)) chosen
      (λ position n stays. h.at (placed current (length ns) position n) (record { node = stays; current = here }))
      (λ position n v stays _. chosen-stay position n v stays) 1 ns stay

  pub same-filtered : (ms ws : List Meaning) (current : ℕ) (ns : List ℕ) → AllLocal T U touched L M ms ws → Stays T U current → AllStay T U ns →
      Same T U touched L M (λ left. left) (filtered ms current ns) (filtered ws current ns)
  same-filtered [] [] current ns h here stay = same-done T U touched L M (λ left. left) ns stay
  same-filtered [] (w ∷ ws) current ns h here stay = absurd h
  same-filtered (m ∷ ms) [] current ns h here stay = absurd h
  same-filtered (m ∷ ms) (w ∷ ws) current ns h here stay =
      same-bind T U touched L M (λ left. left) (λ left. left) (kept m current ns) (kept w current ns) (λ left. filtered ms current left) (λ left. filtered ws current left)
      (same-kept m w current ns h.0 here stay) (λ left stays. same-filtered ms ws current left h.1 here stays)

  -- a step at a node, and from some nodes
  module _ (axis : Axis) (node_test : NodeTest) (ms ws : List Meaning) (h : AllLocal T U touched L M ms ws) where
    before : Step
    before = record { axis = axis; test = node_test; predicates = ms }

    after : Step
    after = record { axis = axis; test = node_test; predicates = ws }

    pub same-step_at : (current n : ℕ) → Stays T U current → Stays T U n →
        Same T U touched L M (λ left. left) (step_at T (record { axis = axis; test = node_test; predicates = ms }) current n)
        (step_at U (record { axis = axis; test = node_test; predicates = ws }) current n)
    same-step_at current n here stays =
        same-bind T U touched L M (λ left. left) (λ left. left) (candidates T axis node_test n) (candidates U axis node_test n)
        (λ left. filtered ms current left) (λ left. filtered ws current left)
        (same-candidates axis node_test n stays) (λ left stay. same-filtered ms ws current left h here stay)

    pub same-step_from : (current : ℕ) (ns : List ℕ) → Stays T U current → AllStay T U ns →
        Same T U touched L M (λ left. left) (step_from T (record { axis = axis; test = node_test; predicates = ms }) current ns)
        (step_from U (record { axis = axis; test = node_test; predicates = ws }) current ns)
    unfolding before after
    same-step_from current ns here stay =
        same-made T U touched L M (λ left. left) (λ left. left)
        (gather (λ _ n. step_at T before current n) (λ _ _ left. left) 1 ns) (gather (λ _ n. step_at U after current n) (λ _ _ left. left) 1 ns) (in_order T) (in_order U)
        (same-gather T U touched L M (λ left. left) (λ _ n. step_at T before current n) (λ _ n. step_at U after current n) (λ _ _ left. left)
        (λ _ n stays. same-step_at current n here stays) (λ _ n left stays more. more) 1 ns stay)
        (λ left stays. same-in_order T U touched L M changed left stays)
