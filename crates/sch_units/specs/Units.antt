-- The units of a validation: a let in force, and a node under an active pattern. What each gives, reads and costs is one
-- evaluation.
use Rattle.std.specs.Prelude.{ℕ, Bool, true, nat_lt, List, [], ◌∷◌, ◌++◌, length, filter, Some}
use Rattle.doc_tree.specs.Table.{Table}
use Rattle.xp_typed_tree.specs.TypedTree.{TypedTree}
use Rattle.xp_outcome.specs.Evaluation.{Read, cell, names_along, variable, Evaluation, visit}
use Rattle.xp_values.specs.declared.values.Value.{Value}
use Rattle.xp_values.specs.declared.values.EvalFault.{EvalFault}
use Rattle.xp_meaning.specs.Evaluation.{Lets, meaning}
use Rattle.sch_compiled.specs.declared.parts.LetInForce.{LetInForce}
use Rattle.sch_compiled.specs.declared.plan.Plan.{Plan}
use Rattle.sch_compiled.specs.Plan.{rules_of}
use Rattle.sch_compiled.specs.declared.findings.Outcome.{Outcome}
use Rattle.sch_units.specs.Messages.{alone}
use Rattle.sch_units.specs.Firing.{first_rule}

-- whether a unit keeps a read: a cell, names, or a let in force, whose slot is below their number
abbrev pub is_kept : ℕ → Read → Bool
is_kept count (cell c) = true
is_kept count (names_along axis n) = true
is_kept count (variable slot) = nat_lt slot count

-- an evaluation that keeps only such reads
unfoldable pub keeping : {F A : Type 0} → ℕ → Evaluation F A → Evaluation F A
keeping count m = record { answer = m.answer; reads = filter (is_kept count) m.reads; work = m.work }

-- a let in force: its value at the root, as one visit more
abbrev pub unit_let : Table → Lets → TypedTree → Evaluation EvalFault Value
unit_let T L expr = visit (meaning T L expr (alone 0))

-- a node under a pattern: the first of the pattern's rules that matches fires, as one visit more; what the rule's own lets
-- are read for isn't kept
abbrev pub unit_pair : Plan → Table → Lets → ℕ → ℕ → Evaluation EvalFault Outcome
unit_pair plan T L p n = keeping (length plan.lets) (visit (first_rule T (length plan.lets) L n 0 (rules_of plan p)))

-- the outcomes of lets, each under those before it, after the outcomes of others
abbrev pub lets_from : Table → Lets → List LetInForce → Lets
lets_from T L [] = L
lets_from T L (t ∷ lets) = lets_from T (L ++ Some (unit_let T L t.expr).answer ∷ []) lets

-- the outcomes of the lets in force, each in the slot of its place
abbrev pub lets_of : Plan → Table → Lets
lets_of plan T = lets_from T [] plan.lets
