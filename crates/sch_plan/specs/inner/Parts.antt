-- Assertions and rules, put together of what their expressions are compiled to.
use Rattle.std.specs.Prelude.{ℕ, List, Option, Result, Ok, Err}
use Rattle.sch_model.specs.declared.flat.FlatRule.{FlatRule}
use Rattle.sch_model.specs.declared.parts.Assertion.{Assertion}
use Rattle.sch_model.specs.declared.parts.LetDecl.{LetDecl}
use Rattle.sch_compiled.specs.declared.parts.PlanAssert.{PlanAssert}
use Rattle.sch_compiled.specs.declared.parts.PlanRule.{PlanRule}
use Rattle.sch_plan.specs.declared.walker.AssertionParts.{AssertionParts}
use Rattle.sch_plan.specs.declared.walker.RuleParts.{RuleParts}

abbrev pub asserted : {E : Type 0} → Assertion → Result AssertionParts E → Result PlanAssert E
asserted a (Ok its) = Ok (record {
  report = a.report;
  id = a.id;
  role = a.role;
  flag = a.flag;
  test_text = a.test;
  test = its.test;
  subject = its.subject;
  diagnostics = its.texts.diagnostics;
  properties = its.texts.properties;
  message = its.texts.message;
})
asserted a (Err e) = Err e

abbrev pub written_rule : ℕ → List ℕ → Option (List ℕ) → List LetDecl → List Assertion → Option (List ℕ) → Option (List ℕ) → Option (List ℕ) → FlatRule
written_rule node text subject lets assertions id role flag =
    record { node = node; id = id; context = text; subject = subject; role = role; flag = flag; lets = lets; assertions = assertions }

abbrev pub ruled : {E : Type 0} → List ℕ → Option (List ℕ) → Option (List ℕ) → Option (List ℕ) → Result RuleParts E → Result PlanRule E
ruled text id role flag (Ok its) =
    Ok (record { id = id; context_text = text; context = its.context; subject = its.subject; role = role; flag = flag; lets = its.lets; assertions = its.assertions })
ruled text id role flag (Err e) = Err e
