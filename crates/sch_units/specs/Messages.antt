-- The texts of messages, of diagnostics and of properties (ISO/IEC 19757-3, clauses 5.4 and 5.5).
use Rattle.std.specs.Prelude.{ℕ, List, [], ◌∷◌, Option, None, Some, slice_get}
use Rattle.doc_tree.specs.QNames.{written_in}
use Rattle.doc_tree.specs.Table.{Table}
use Rattle.xp_typed_tree.specs.TypedTree.{TypedTree}
use Rattle.xp_outcome.specs.Evaluation.{Evaluation, done, given, bind, gather}
use Rattle.xp_values.specs.declared.values.EvalFault.{EvalFault}
use Rattle.xp_values.specs.Texts.{concat}
use Rattle.xp_meaning.specs.declared.context.Context.{Context}
use Rattle.xp_meaning.specs.Conversions.{nodes_of, text_in}
use Rattle.xp_meaning.specs.Names.{of_name}
use Rattle.xp_meaning.specs.Evaluation.{Lets, meaning}
use Rattle.sch_compiled.specs.declared.parts.PlanPart.{PlanPart}
use Rattle.sch_compiled.specs.declared.parts.PlanPart.TheVariants.{Chars, ValueOf, Name}
use Rattle.sch_compiled.specs.declared.parts.PlanDiagnostic.{PlanDiagnostic}

-- a node as the context node, alone: the first of one, and the current node
abbrev pub alone : ℕ → Context
alone n = record { node = n; position = 1; size = 1; current = n }

-- the name of a node as it is written, which is read; empty for no node, and for a node without a name
abbrev pub written_name : Table → Option ℕ → Evaluation EvalFault (List ℕ)
written_name T n = of_name T n (λ name. written_in name)

-- the name of a path's first node; of the node itself where there is no path
abbrev pub name_text : Table → Lets → ℕ → Option TypedTree → Evaluation EvalFault (List ℕ)
name_text T L n None = written_name T (Some n)
name_text T L n (Some path) = bind (meaning T L path (alone n)) (λ v. written_name T (slice_get (nodes_of v) 0))

-- what a part of a message says of a node: characters as they are written, the text of a value, or a name
abbrev pub part_text : Table → Lets → ℕ → PlanPart → Evaluation EvalFault (List ℕ)
part_text T L n (Chars characters) = done characters
part_text T L n (ValueOf expr) = bind (meaning T L expr (alone n)) (λ v. text_in T v)
part_text T L n (Name path) = name_text T L n path

-- parts joined to the text before them, each before the next one is evaluated; a text that would be too long is a fault
abbrev pub joined : Table → Lets → ℕ → List ℕ → List PlanPart → Evaluation EvalFault (List ℕ)
joined T L n text [] = done text
joined T L n text (part ∷ parts) =
    bind (part_text T L n part) (λ s. bind (given (concat text s)) (λ more. joined T L n more parts))

-- the text of a message
abbrev pub message : Table → Lets → ℕ → List PlanPart → Evaluation EvalFault (List ℕ)
message T L n parts = joined T L n [] parts

-- the texts of diagnostics, or of properties, in order
abbrev pub diagnostic_texts : Table → Lets → ℕ → List PlanDiagnostic → Evaluation EvalFault (List (List ℕ))
diagnostic_texts T L n diagnostics = gather (λ _ d. message T L n d.message) (λ _ _ text. text ∷ []) 0 diagnostics
