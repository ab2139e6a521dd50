-- Rules, with their contexts, lets, subjects and assertions (ISO/IEC 19757-3, sections 5.4.1, 5.4.3, 5.4.14 and 6.5).
use Rattle.std.specs.Prelude.{ℕ, List, [], ◌∷◌, Option, None, Some, if◌then◌else◌}
use Rattle.std.specs.List.{flat_map}
use Rattle.std.specs.Option.{option_to_list}
use Rattle.std.specs.Str.{bytes_eq}
use Rattle.sch_model.specs.declared.flat.FlatRule.{FlatRule}
use Rattle.sch_model.specs.declared.flat.FlatPattern.{FlatPattern}
use Rattle.sch_model.specs.declared.parts.Assertion.{Assertion}
use Rattle.sch_model.specs.declared.parts.Diagnostic.{Diagnostic}
use Rattle.sch_model.specs.declared.parts.Part.{Part}
use Rattle.sch_model.specs.declared.parts.Part.TheVariants as written
use Rattle.sch_compiled.specs.declared.parts.PlanPart.{PlanPart}
use Rattle.sch_compiled.specs.declared.parts.PlanPart.TheVariants as planned
use Rattle.sch_compiled.specs.declared.parts.PlanDiagnostic.{PlanDiagnostic}
use Rattle.sch_compiled.specs.declared.parts.PlanAssert.{PlanAssert}
use Rattle.sch_compiled.specs.declared.parts.PlanRule.{PlanRule}
use Rattle.xp_typed_tree.specs.TypedTree.{TypedTree}
use Rattle.sch_plan.specs.declared.walker.AssertionTexts.{AssertionTexts}
use Rattle.sch_plan.specs.declared.walker.PatternParts.{PatternParts}
use Rattle.sch_plan.specs.Expressions.{expression, match_pattern, path}
use Rattle.sch_plan.specs.Lets.{Seen, all_lets, pattern_scope, scope}
use Rattle.sch_phases.specs.Walk.{Stretch, Then, every, each, goes}

-- the path of a name, or a subject, where there is one: a node-set
abbrev pub optional_path : Seen → ℕ → Option (List ℕ) → Stretch (Option TypedTree)
optional_path seen node None = goes None
optional_path seen node (Some text) = Then (path (scope seen) node text) (λ t. goes (Some t))

-- a part of a message
abbrev pub name_part : Seen → ℕ → Option (List ℕ) → Stretch PlanPart
name_part seen node text = Then (optional_path seen node text) (λ path. goes (planned.Name path))

abbrev pub value_part : Seen → ℕ → List ℕ → Stretch PlanPart
value_part seen node select = Then (expression (scope seen) node select) (λ t. goes (planned.ValueOf t))

abbrev pub one_part : Seen → Part → Stretch PlanPart
one_part seen (written.Chars text) = goes (planned.Chars text)
one_part seen (written.ValueOf node select) = value_part seen node select
one_part seen (written.Name node text) = name_part seen node text

abbrev pub message : Seen → List Part → Stretch (List PlanPart)
message seen = every (one_part seen)

-- the diagnostic, or the property, of an id: the first one
abbrev pub diagnostic_of : List Diagnostic → List ℕ → Option Diagnostic
diagnostic_of [] id = None
diagnostic_of (d ∷ ds) id = if bytes_eq id d.id then Some d else diagnostic_of ds id

-- those that an assertion names, in the order in which it names them
abbrev pub diagnostics_of : (List ℕ → Option Diagnostic) → List (List ℕ) → List Diagnostic
diagnostics_of find ids = flat_map (λ id. option_to_list (find id)) ids

abbrev pub one_diagnostic : Seen → Diagnostic → Stretch PlanDiagnostic
one_diagnostic seen d = Then (message seen d.message) (λ parts. goes (record { id = d.id; message = parts }))

abbrev pub named : Seen → (List ℕ → Option Diagnostic) → List (List ℕ) → Stretch (List PlanDiagnostic)
named seen find ids = every (one_diagnostic seen) (diagnostics_of find ids)

-- the diagnostics and the properties of a schema, by their ids
pub record Notes : Type 0 where
  pub diagnostic : List ℕ → Option Diagnostic
  pub property : List ℕ → Option Diagnostic

abbrev pub notes_of : List Diagnostic → List Diagnostic → Notes
notes_of diagnostics properties = record { diagnostic = diagnostic_of diagnostics; property = diagnostic_of properties }

-- the texts of an assertion: its diagnostics, its properties, its message
abbrev pub texts : Notes → Seen → Assertion → Stretch AssertionTexts
texts notes seen a =
    Then (named seen notes.diagnostic a.diagnostics) (λ ds.
    Then (named seen notes.property a.properties) (λ ps.
    Then (message seen a.message) (λ parts.
    goes (record { diagnostics = ds; properties = ps; message = parts }))))

-- its test, its subject, its texts
abbrev pub one_assertion : Notes → Seen → Assertion → Stretch PlanAssert
one_assertion notes seen a =
    Then (expression (scope seen) a.node a.test) (λ t.
    Then (optional_path seen a.node a.subject) (λ subject.
    Then (texts notes seen a) (λ its.
    goes (record {
      report = a.report;
      id = a.id;
      role = a.role;
      flag = a.flag;
      test_text = a.test;
      test = t;
      subject = subject;
      diagnostics = its.diagnostics;
      properties = its.properties;
      message = its.message;
    }))))

-- its context, which sees none of its lets; its lets, whose slots begin after those of all lets in force; its subject; its assertions
abbrev pub one_rule : Notes → ℕ → Seen → FlatRule → Stretch PlanRule
one_rule notes count seen rule =
    Then (match_pattern (pattern_scope seen) rule.node rule.context) (λ context.
    Then (all_lets (record seen { next = count }) rule.lets) (λ lets.
    Then (optional_path lets.0 rule.node rule.subject) (λ subject.
    Then (every (one_assertion notes lets.0) rule.assertions) (λ assertions.
    goes (record {
      id = rule.id;
      context_text = rule.context;
      context = context;
      subject = subject;
      role = rule.role;
      flag = rule.flag;
      lets = lets.1;
      assertions = assertions;
    })))))

-- its lets and its rules; a later pattern sees its lets no more, and numbers its own after them
abbrev pub one_pattern : Notes → ℕ → Seen → FlatPattern → Stretch (Seen × PatternParts)
one_pattern notes count seen pattern =
    Then (all_lets seen pattern.lets) (λ lets.
    Then (every (one_rule notes count lets.0) pattern.rules) (λ rules.
    goes (record seen { next = lets.0.next }, record { id = pattern.id; lets = lets.1; rules = rules })))

abbrev pub all_patterns : Notes → ℕ → Seen → List FlatPattern → Stretch (Seen × List PatternParts)
all_patterns notes count = each (one_pattern notes count)
