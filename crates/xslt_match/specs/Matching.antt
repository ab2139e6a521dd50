-- Matching (XSLT 1.0, section 5.2): chains of nodes that the steps of a path pattern lead along to a node, and the
-- tests of the nodes in them.
use Rattle.std.specs.Prelude.{ℕ, Bool, true, false, ◌&&◌, ◌||◌, List, [], ◌∷◌, Option, None, Some, filter, if◌then◌else◌}
use Rattle.std.specs.List.{list_any}
use Rattle.doc_tree.specs.declared.axes.Axis.TheVariants.{AncestorOrSelf, DescendantOrSelf}
use Rattle.doc_tree.specs.Lists.{mem}
use Rattle.doc_tree.specs.Table.{Table, parent_of}
use Rattle.doc_tree.specs.Walks.{order}
use Rattle.doc_axes.specs.Axes.{on_axis}
use Rattle.doc_axes.specs.NodeTests.{passes}
use Rattle.xp_typed_tree.specs.TypedTree.{TypedPatternStepTree, TypedPathTree}
use Rattle.xp_outcome.specs.Evaluation.{Evaluation, done, bind, visit, all_reading, gather}
use Rattle.xp_values.specs.declared.values.EvalFault.{EvalFault}
use Rattle.xp_meaning.specs.Paths.{Step, step_at, placed}
use Rattle.xp_meaning.specs.Evaluation.{Lets, meanings, all_true}
use Rattle.xslt_ways.specs.Ways.{is_anywhere}
use Rattle.xslt_match.specs.Names.{pattern_names}
use Rattle.xslt_match.specs.Positional.{some_positional}

-- a step as expressions have it
abbrev pub step_of : Table → Lets → TypedPatternStepTree → Step
step_of T L s = record { axis = s.axis; test = s.test; predicates = meanings T L s.predicates }

-- a node is a candidate of a step at another one, the step's predicates left out
abbrev pub is_candidate : Table → TypedPatternStepTree → ℕ → ℕ → Bool
is_candidate T s m k = on_axis T s.axis m k && passes T s.axis s.test k

-- a step leads from a node to its candidates there, and after `//` to its candidates at the nodes of the node's axis
-- descendant-or-self
abbrev pub leads : Table → TypedPatternStepTree → ℕ → ℕ → Bool
leads T s m k =
    if is_anywhere s.join then list_any (λ x. on_axis T DescendantOrSelf m x && is_candidate T s x k) (order T) else is_candidate T s m k

-- the nodes that a step leads to from some nodes, in document order
abbrev pub led_to : Table → TypedPatternStepTree → List ℕ → List ℕ
led_to T s ms = filter (λ k. list_any (λ m. leads T s m k) ms) (order T)

-- whether the steps, one after another, lead from some nodes to the node
abbrev pub reaches : Table → List TypedPatternStepTree → List ℕ → ℕ → Bool
reaches T [] ms n = mem n ms
reaches T (s ∷ ss) ms n = reaches T ss (led_to T s ms) n

-- where chains to a node begin: at the root, or at the node or an ancestor
abbrev pub starts : Table → Bool → ℕ → List ℕ
starts T true n = 0 ∷ []
starts T false n = filter (on_axis T AncestorOrSelf n) (order T)

-- the nodes that stand at a step in some chain to n, by those that stand before it: the step leads to them, and the
-- later steps lead on to n
abbrev pub standing : Table → TypedPatternStepTree → List TypedPatternStepTree → List ℕ → ℕ → List ℕ
standing T s ss ms n = filter (λ k. reaches T ss (k ∷ []) n) (led_to T s ms)

-- the step at the parent of a node, where it has one: whether the node is left
abbrev pub is_left : Table → Step → ℕ → ℕ → Option ℕ → Evaluation EvalFault Bool
is_left T s n k None = done false
is_left T s n k (Some p) = bind (step_at T s n p) (λ ms. done (mem k ms))

-- whether a node that stands at a step survives its test: by its place among the step's nodes where a predicate is
-- positional, else by the predicates at the node alone, as position 1 of 1
abbrev pub survives : Table → Lets → TypedPatternStepTree → ℕ → ℕ → Evaluation EvalFault Bool
survives T L s n k =
    if some_positional s.predicates then is_left T (step_of T L s) n k (parent_of T k)
    else visit (all_true (meanings T L s.predicates) (placed n 1 1 k))

-- the nodes that survive, tested from the root downwards
abbrev pub survivors : Table → Lets → TypedPatternStepTree → ℕ → List ℕ → Evaluation EvalFault (List ℕ)
survivors T L s n ks = gather (λ _ k. survives T L s n k) (λ _ k b. if b then k ∷ [] else []) 1 ks

-- step by step from the left, with the nodes that stand before the step, and those of them to which a chain leads whose
-- nodes all survived
abbrev pub chains : Table → Lets → ℕ → List TypedPatternStepTree → List ℕ → List ℕ → Evaluation EvalFault Bool
chains T L n [] ms alive = done (mem n alive)
chains T L n (s ∷ ss) ms alive =
    bind (survivors T L s n (standing T s ss ms n)) (λ ks.
    chains T L n ss (standing T s ss ms n) (filter (λ k. list_any (λ m. leads T s m k) alive) ks))

abbrev pub path_matches : Table → Lets → ℕ → TypedPathTree → Evaluation EvalFault Bool
path_matches T L n p = chains T L n p.steps (starts T p.from_root n) (starts T p.from_root n)

-- all path patterns are tested, also after one that matches, since the first fault is the answer
abbrev pub some_path : Table → Lets → ℕ → List TypedPathTree → Evaluation EvalFault Bool
some_path T L n [] = done false
some_path T L n (p ∷ ps) = bind (path_matches T L n p) (λ b. bind (some_path T L n ps) (λ c. done (b || c)))

-- whether a node matches a pattern: one visit, the names that its steps look at, and then the tests
abbrev pub matching : Table → Lets → List TypedPathTree → ℕ → Evaluation EvalFault Bool
matching T L ps n = visit (all_reading (pattern_names T n ps) (some_path T L n ps))
