-- A finding, part after part.
use Rattle.std.proofs.Common.{ℕ, List}
use Rattle.doc_tree.specs.Table.{Table}
use Rattle.xp_outcome.specs.Evaluation.{Evaluation, bind, done}
use Rattle.xp_values.specs.declared.values.EvalFault.{EvalFault}
use Rattle.xp_meaning.specs.Evaluation.{Lets}
use Rattle.sch_compiled.specs.declared.findings.Finding.{Finding}
use Rattle.sch_compiled.specs.declared.parts.PlanAssert.{PlanAssert}
use Rattle.sch_units.specs.Messages.{diagnostic_texts, message}

abbrev pub finding_of : ℕ → ℕ → List (List ℕ) → List (List ℕ) → List ℕ → Finding
finding_of i place texts properties text = record { assertion = i; at = place; diagnostics = texts; properties = properties; message = text }

module _ (T : Table) (L : Lets) (n i : ℕ) (a : PlanAssert) (place : ℕ) where
  -- what comes when all but its message is known
  abbrev pub with_message : List (List ℕ) → List (List ℕ) → Evaluation EvalFault Finding
  with_message texts properties = bind (message T L n a.message) (λ text. done (finding_of i place texts properties text))

  -- and when its properties are not known either
  abbrev pub with_properties : List (List ℕ) → Evaluation EvalFault Finding
  with_properties texts = bind (diagnostic_texts T L n a.properties) (with_message texts)

  -- and when its place alone is known
  abbrev pub with_texts : Evaluation EvalFault Finding
  with_texts = bind (diagnostic_texts T L n a.diagnostics) with_properties
