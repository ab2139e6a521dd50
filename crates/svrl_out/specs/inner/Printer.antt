-- What the writer of reports asks for and writes.
use Rattle.std.specs.Prelude.{◌≡◌, ℕ, true, List, ◌++◌, codes}
use Rattle.std.specs.List.{flat_map, enumerate_from}
use Rattle.pyx_write.specs.Written.{end_line}
use Rattle.doc_tree.specs.Lists.{mem}
use Rattle.doc_tree.specs.Table.{Table, is_live}
use Rattle.doc_locations.specs.Locations.{location_of}
use Rattle.sch_compiled.specs.Findings.{ToldInOrder, outcome_at}
use Rattle.sch_compiled.specs.declared.parts.PlanRule.{PlanRule}
use Rattle.svrl_out.specs.declared.report.Place.{Place}
use Rattle.svrl_out.specs.declared.report.Printer.{Printer}
use Rattle.svrl_out.specs.Report.{IsOutcomeOf, IsReportable, node_lines, ns_lines, pattern_lines, report}

-- the nodes that fire a rule and a locator are at hand, and what was found can be told
pub record IsReady (p : Printer) : Type 0 where
  pub nodes : ToldInOrder p.tree.now.nodes p.found.now p.nodes.now
  pub live : (n : ℕ) → mem n p.nodes.now ≡ true → is_live p.tree.now.nodes n ≡ true
  pub locator : p.locator.now ≡ p.tree.now.nodes
  pub found : IsReportable p.plan.now p.tree.now.nodes p.found.now

-- each live node has an outcome under a pattern, and it names what is in these rules
abbrev pub HasOutcomes : Printer → ℕ → List PlanRule → Type 0
HasOutcomes p pattern rules = (n : ℕ) → is_live p.tree.now.nodes n ≡ true → IsOutcomeOf p.tree.now.nodes rules (outcome_at p.found.now pattern n)

-- the report
abbrev pub printed : Printer → List ℕ
printed p = report p.plan.now p.tree.now.nodes (outcome_at p.found.now)

-- what the output holds
abbrev pub held_lines : Printer → List ℕ
held_lines p = flat_map ns_lines p.plan.now.namespaces
    ++ flat_map (pattern_lines p.tree.now.nodes (outcome_at p.found.now)) (enumerate_from 0 p.plan.now.patterns)

-- what stands behind the output's opening
abbrev pub held_and_end : Printer → List ℕ
held_and_end p = held_lines p ++ end_line (codes "svrl:schematron-output")

-- the lines of a node under a pattern with these rules
abbrev pub node_text : Printer → ℕ → List PlanRule → ℕ → List ℕ
node_text p pattern rules n = node_lines p.tree.now.nodes rules (outcome_at p.found.now pattern) n

-- a node, and the location that finds it
abbrev pub IsPlace : Table → Place → Type 0
IsPlace T place = place.location ≡ location_of T place.node

-- the place of a node
abbrev pub IsPlaceOf : Table → ℕ → Place → Type 0
IsPlaceOf T n place = (place.node ≡ n) × (place.location ≡ location_of T n)
