-- Steps and predicates where the nodes of a tree are renumbered.
use Rattle.std.proofs.Common.{◌≡◌, ℕ, ◌+◌, Bool, true, false, cond, List, [], ◌∷◌, length, map, refl, sym, ap, ◌∙◌}
use Rattle.std.proofs.lemmas.List.{length-map}
use Rattle.std.specs.Prelude.{filter}
use Rattle.doc_tree.specs.declared.axes.Axis.{Axis}
use Rattle.doc_tree.specs.declared.axes.NodeTest.{NodeTest}
use Rattle.doc_tree.specs.Table.{Table}
use Rattle.doc_axes.specs.Axes.{axis_nodes}
use Rattle.doc_axes.specs.NodeTests.{passes}
use Rattle.doc_axes.specs.Sets.{in_order}
use Rattle.tree_iso.specs.Renumbering.{Hangs, Renumbers}
use Rattle.tree_iso.proofs.NumberLemmas.{filter-moved}
use Rattle.xp_outcome.specs.Evaluation.{gather, names_along}
use Rattle.xp_values.specs.declared.values.Value.{Value}
use Rattle.xp_values.specs.declared.values.Value.TheVariants.{NodeSet, Truth, Number, Chars}
use Rattle.xp_meaning.specs.declared.context.Context.{Context}
use Rattle.xp_meaning.specs.Paths.{Meaning, Step, candidates, chosen, filtered, holds_at, kept, placed, step_at, step_from}
use Rattle.xp_meaning.specs.Reads.{axis_reads, is_by_name, names_tested}
use Rattle.xp_iso_laws.specs.Moved.{moved_context, moved_read, moved_value}
use Rattle.xp_iso_laws.specs.Moves.{Moves}
use Rattle.xp_iso_laws.proofs.AxisLemmas.{axis_nodes-moved, axis_reads-moved, in_order-moved, passes-moved}
use Rattle.xp_iso_laws.proofs.MoveLemmas.{moves-all_reading, moves-bind, moves-done, moves-equal, moves-gather, moves-made, moves-visits}
use Rattle.xp_iso_laws.proofs.ValueLemmas.{truth-moved}

-- meanings that move in each context
pub record MovesAlong (f : ℕ → ℕ) (before after : Meaning) : Type 0 where
  pub at : (c : Context) → Moves f (moved_value f) (before c) (after (moved_context f c))

abbrev pub AllMove : (ℕ → ℕ) → List Meaning → List Meaning → Type 0
AllMove f [] [] = Unit {0}
AllMove f [] (n ∷ ns) = ⊥
AllMove f (m ∷ ms) [] = ⊥
AllMove f (m ∷ ms) (n ∷ ns) = MovesAlong f m n × AllMove f ms ns

module _ (f : ℕ → ℕ) where
  holds-moved : (position : ℕ) (v : Value) → holds_at position (moved_value f v) ≡ holds_at position v
  holds-moved position (NodeSet ns) = truth-moved f (NodeSet ns)
  holds-moved position (Truth b) = refl
  holds-moved position (Number n) = refl
  holds-moved position (Chars s) = refl

  chosen-moved : (position n : ℕ) (v : Value) → chosen position (f n) (moved_value f v) ≡ map f (chosen position n v)
  chosen-moved position n v = ap (λ b. cond b (f n ∷ []) []) (holds-moved position v) ∙ by (holds_at position v)
    where
      by : (b : Bool) → cond b (f n ∷ []) [] ≡ map f (cond b (n ∷ []) [])
      by true = refl
      by false = refl

  moves-kept : (m w : Meaning) (current : ℕ) (ns : List ℕ) → MovesAlong f m w → Moves f (map f) (kept m current ns) (kept w (f current) (map f ns))
  moves-kept m w current ns along =
      moves-equal f (map f) (kept m current ns) (gather (λ position n. w (placed (f current) (length ns) position n)) chosen 1 (map f ns)) (kept w (f current) (map f ns))
      (ap (λ size. gather (λ position n. w (placed (f current) size position n)) chosen 1 (map f ns)) (sym (length-map ns f)))
      (moves-gather f (moved_value f) (λ position n. m (placed current (length ns) position n)) (λ position n. w (placed (f current) (length ns) position n)) chosen chosen
      (λ position n. along.at (placed current (length ns) position n)) chosen-moved 1 ns)

  pub moves-filtered : (ms ws : List Meaning) (current : ℕ) (ns : List ℕ) → AllMove f ms ws → Moves f (map f) (filtered ms current ns) (filtered ws (f current) (map f ns))
  moves-filtered [] [] current ns h = moves-done f (map f) ns (map f ns) refl
  moves-filtered [] (w ∷ ws) current ns h = absurd h
  moves-filtered (m ∷ ms) [] current ns h = absurd h
  moves-filtered (m ∷ ms) (w ∷ ws) current ns h =
      moves-bind f (map f) (map f) (kept m current ns) (kept w (f current) (map f ns)) (λ left. filtered ms current left) (λ left. filtered ws (f current) left)
      (moves-kept m w current ns h.0) (λ left. moves-filtered ms ws current left h.1)

module _ (f : ℕ → ℕ) (T U : Table) (r : Renumbers f T U) (h : Hangs f T U) where
  names-moved : (axis : Axis) (node_test : NodeTest) (n : ℕ) → names_tested axis node_test (f n) ≡ map (moved_read f) (names_tested axis node_test n)
  names-moved axis node_test n = by (is_by_name node_test)
    where
      by : (b : Bool) → cond b (names_along axis (f n) ∷ []) [] ≡ map (moved_read f) (cond b (names_along axis n ∷ []) [])
      by true = refl
      by false = refl

  moves-candidates : (axis : Axis) (node_test : NodeTest) (n : ℕ) → Moves f (map f) (candidates T axis node_test n) (candidates U axis node_test (f n))
  unfolding candidates
  moves-candidates axis node_test n =
      let nodes : axis_nodes U axis (f n) ≡ map f (axis_nodes T axis n) = axis_nodes-moved f T U r h axis n in
      moves-all_reading f (map f) (axis_reads T axis n) (axis_reads U axis (f n)) _ _ (axis_reads-moved f T U r h axis n)
      (moves-all_reading f (map f) (names_tested axis node_test n) (names_tested axis node_test (f n)) _ _ (names-moved axis node_test n)
      (moves-visits f (map f) (1 + length (axis_nodes T axis n)) (1 + length (axis_nodes U axis (f n))) _ _
      (ap (λ k. 1 + k) (ap length nodes ∙ length-map (axis_nodes T axis n) f))
      (moves-done f (map f) (filter (passes T axis node_test) (axis_nodes T axis n)) (filter (passes U axis node_test) (axis_nodes U axis (f n)))
      (ap (filter (passes U axis node_test)) nodes
      ∙ filter-moved f (passes T axis node_test) (passes U axis node_test) (passes-moved f T U r h axis node_test) (axis_nodes T axis n)))))

  -- a step at a node, and from some nodes
  module _ (axis : Axis) (node_test : NodeTest) (ms ws : List Meaning) (all : AllMove f ms ws) where
    pub moves-step_at : (current n : ℕ) →
        Moves f (map f) (step_at T (record { axis = axis; test = node_test; predicates = ms }) current n)
        (step_at U (record { axis = axis; test = node_test; predicates = ws }) (f current) (f n))
    moves-step_at current n =
        moves-bind f (map f) (map f) (candidates T axis node_test n) (candidates U axis node_test (f n))
        (λ left. filtered ms current left) (λ left. filtered ws (f current) left)
        (moves-candidates axis node_test n) (λ left. moves-filtered f ms ws current left all)

    pub moves-step_from : (current : ℕ) (ns : List ℕ) →
        Moves f (map f) (step_from T (record { axis = axis; test = node_test; predicates = ms }) current ns)
        (step_from U (record { axis = axis; test = node_test; predicates = ws }) (f current) (map f ns))
    moves-step_from current ns =
        let before : Step = record { axis = axis; test = node_test; predicates = ms } in
        let after : Step = record { axis = axis; test = node_test; predicates = ws } in
        moves-made f (map f) (map f)
        (gather (λ _ n. step_at T before current n) (λ _ _ left. left) 1 ns) (gather (λ _ n. step_at U after (f current) n) (λ _ _ left. left) 1 (map f ns)) (in_order T) (in_order U)
        (moves-gather f (map f) (λ _ n. step_at T before current n) (λ _ n. step_at U after (f current) n) (λ _ _ left. left) (λ _ _ left. left)
        (λ _ n. moves-step_at current n) (λ _ n left. refl) 1 ns)
        (λ left. in_order-moved f T U r h left)
