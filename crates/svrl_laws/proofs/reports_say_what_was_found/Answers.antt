-- The report is the lines of its value, which are read back.
use Rattle.std.proofs.Common.{ℕ, List, subst, sym, ap, ◌∙◌}
use Rattle.name_scopes.specs.DocFaults.{doc_fault}
use Rattle.name_scopes.specs.ScopedTree.{Scoped}
use Rattle.pyx_core.specs.declared.mode.Mode.TheVariants.{Document}
use Rattle.pyx_core.specs.Nesting.{bare}
use Rattle.pyx_core.specs.Reading.{events_of}
use Rattle.svrl_laws.specs.PlanReport.{report_said}
use Rattle.svrl_laws.proofs.PlanLines.{report_is}
use Rattle.svrl_laws.proofs.reports_say_what_was_found.Goals as goal

pub returns : goal.returns
returns c = λ plan T U outcome good scoped.
    let same = report_is plan T outcome in
    c.reports_are_read_back.ensures (report_said plan T outcome) U (ap doc_fault same ∙ good)
    (subst (λ (bytes : List ℕ). Scoped (bare (events_of Document bytes)) U) (sym same) scoped)
