-- The slots that rules name are those of lets that they see.
use Rattle.std.proofs.Common.{ℕ, List, [], ◌∷◌, ◌++◌, Option, None, Some, Ok, sym, subst}
use Rattle.std.specs.List.{All, Contains, flat_map}
use Rattle.std.specs.Option.{option_to_list}
use Rattle.std.proofs.lemmas.List.Elements.{All-nil, All-cons, All-append, All-same, All-weaker}
use Rattle.sch_compiled.specs.declared.parts.PlanPart.{PlanPart}
use Rattle.sch_compiled.specs.declared.parts.PlanPart.TheVariants as planned
use Rattle.sch_compiled.specs.declared.parts.PlanDiagnostic.{PlanDiagnostic}
use Rattle.sch_compiled.specs.declared.parts.PlanAssert.{PlanAssert}
use Rattle.sch_compiled.specs.declared.parts.PlanLet.{PlanLet}
use Rattle.sch_compiled.specs.declared.parts.PlanRule.{PlanRule}
use Rattle.sch_compiled.specs.Soundness.{AreSeen, expressions_in, expressions_of, parts_of, paths_in, slots_from, subjects_of}
use Rattle.sch_model.specs.declared.flat.FlatRule.{FlatRule}
use Rattle.sch_model.specs.declared.parts.Assertion.{Assertion}
use Rattle.sch_model.specs.declared.parts.Diagnostic.{Diagnostic}
use Rattle.sch_model.specs.declared.parts.Part.{Part}
use Rattle.sch_model.specs.declared.parts.Part.TheVariants as written
use Rattle.xp_typed_tree.specs.declared.value_type.ValueType.{ValueType}
use Rattle.xp_typed_tree.specs.TypedTree.{TypedPathTree, TypedTree}
use Rattle.xp_typed_tree.specs.Slots.{slots_in, slots_in_paths}
use Rattle.xp_types.specs.Laws.{PatternSlotsAreInScope, SlotsAreInScope}
use Rattle.sch_plan.specs.declared.walker.AssertionTexts.{AssertionTexts}
use Rattle.sch_plan.specs.Expressions.{expression, match_pattern, path}
use Rattle.sch_plan.specs.Lets.{Seen, all_lets, pattern_scope, scope}
use Rattle.sch_plan.specs.Rules.{Notes, diagnostics_of, message, named, one_assertion, one_diagnostic, one_part, one_rule, optional_path, texts}
use Rattle.sch_phases.specs.Walk.{Then, every, goes}
use Rattle.sch_plan.proofs.Inversions.{every-all, same-value, then-ok}
use Rattle.sch_plan.proofs.LetLemmas.{AfterLets, LetsSeen, after-lets}
use Rattle.sch_plan.proofs.SlotLemmas.{IsPath, all-flat, all-flat-twice, expression-seen, flat_map-append, path-seen, pattern-seen, places}

-- the expressions of a part see what they name, and its path is one
pub record PartSeen (base : List (ℕ × ValueType)) (part : PlanPart) : Type 0 where
  pub slots : AreSeen base (flat_map slots_in (expressions_in part))
  pub paths : All IsPath (paths_in part)

-- a path sees what it names, where there is one
pub record PathSeen (base : List (ℕ × ValueType)) (path : Option TypedTree) : Type 0 where
  pub slots : AreSeen base (flat_map slots_in (option_to_list path))
  pub paths : All IsPath (option_to_list path)

pub record AssertSeen (base : List (ℕ × ValueType)) (its : PlanAssert) : Type 0 where
  pub slots : AreSeen base (flat_map slots_in (expressions_of its))
  pub subject : All IsPath (option_to_list its.subject)
  pub paths : All IsPath (flat_map paths_in (parts_of its))

pub record RuleSeen (base : List (ℕ × ValueType)) (count : ℕ) (rule : PlanRule) : Type 0 where
  pub context : AreSeen base (slots_in_paths rule.context)
  pub lets : LetsSeen base count rule.lets
  pub assertions : AreSeen (base ++ slots_from count rule.lets) (flat_map slots_in (flat_map expressions_of rule.assertions))
  pub subject : AreSeen (base ++ slots_from count rule.lets) (flat_map slots_in (option_to_list rule.subject))
  pub subjects : All IsPath (subjects_of rule)
  pub paths : All IsPath (flat_map paths_in (flat_map parts_of rule.assertions))

module _ (base : List (ℕ × ValueType)) where
  alone-seen : (t : TypedTree) → AreSeen base (slots_in t) → AreSeen base (flat_map slots_in (t ∷ []))
  alone-seen t h = All-append (Contains base) (slots_in t) [] h (All-nil (Contains base))

  chars-seen : (text : List ℕ) → PartSeen base (planned.Chars text)
  chars-seen text = record { slots = All-nil (Contains base); paths = All-nil IsPath }

  value-seen : (t : TypedTree) → AreSeen base (slots_in t) → PartSeen base (planned.ValueOf t)
  value-seen t h = record { slots = alone-seen t h; paths = All-nil IsPath }

  nothing-seen : PathSeen base None
  nothing-seen = record { slots = All-nil (Contains base); paths = All-nil IsPath }

  one-seen : (t : TypedTree) → AreSeen base (slots_in t) × IsPath t → PathSeen base (Some t)
  one-seen t h = record { slots = alone-seen t h.0; paths = All-cons IsPath t [] h.1 (All-nil IsPath) }

  name-seen : (path : Option TypedTree) → PathSeen base path → PartSeen base (planned.Name path)
  name-seen path h = record { slots = h.slots; paths = h.paths }

module _ (law : SlotsAreInScope) (seen : Seen) where
  optional_path-seen : (node : ℕ) (text : Option (List ℕ)) (out : Option TypedTree) → optional_path seen node text (Ok out) → PathSeen (places seen.variables) out
  optional_path-seen node None out h = subst (PathSeen (places seen.variables)) (sym (same-value out None h)) (nothing-seen (places seen.variables))
  optional_path-seen node (Some text) out h =
      let t = then-ok (path (scope seen) node text) (λ t. goes (Some t)) out h in
      subst (PathSeen (places seen.variables)) (sym (same-value out (Some t.0) t.2)) (one-seen (places seen.variables) t.0 (path-seen law seen node text t.0 t.1))

  part-seen : (part : Part) (out : PlanPart) → one_part seen part (Ok out) → PartSeen (places seen.variables) out
  part-seen (written.Chars text) out h = subst (PartSeen (places seen.variables)) (sym (same-value out (planned.Chars text) h)) (chars-seen (places seen.variables) text)
  part-seen (written.ValueOf node select) out h =
      let t = then-ok (expression (scope seen) node select) (λ t. goes (planned.ValueOf t)) out h in
      subst (PartSeen (places seen.variables)) (sym (same-value out (planned.ValueOf t.0) t.2)) (value-seen (places seen.variables) t.0 (expression-seen law seen node select t.0 t.1))
  part-seen (written.Name node text) out h =
      let t = then-ok (optional_path seen node text) (λ path. goes (planned.Name path)) out h in
      subst (PartSeen (places seen.variables)) (sym (same-value out (planned.Name t.0) t.2)) (name-seen (places seen.variables) t.0 (optional_path-seen node text t.0 t.1))

  message-seen : (parts : List Part) (out : List PlanPart) → message seen parts (Ok out) → All (PartSeen (places seen.variables)) out
  message-seen = every-all (one_part seen) (PartSeen (places seen.variables)) part-seen

  diagnostic-seen : (d : Diagnostic) (out : PlanDiagnostic) → one_diagnostic seen d (Ok out) → All (PartSeen (places seen.variables)) out.message
  diagnostic-seen d out h =
      let parts = then-ok (message seen d.message) (λ parts. goes (record { id = d.id; message = parts })) out h in
      subst (λ o. All (PartSeen (places seen.variables)) o.message) (sym (same-value out (record { id = d.id; message = parts.0 }) parts.2)) (message-seen d.message parts.0 parts.1)

  -- the messages of those that are named
  named-seen : (find : List ℕ → Option Diagnostic) (ids : List (List ℕ)) (out : List PlanDiagnostic) → named seen find ids (Ok out) → All (λ d. All (PartSeen (places seen.variables)) d.message) out
  named-seen find ids = every-all (one_diagnostic seen) (λ d. All (PartSeen (places seen.variables)) d.message) diagnostic-seen (diagnostics_of find ids)

  texts-seen : (notes : Notes) (a : Assertion) (out : AssertionTexts) → texts notes seen a (Ok out) →
      All (PartSeen (places seen.variables)) (flat_map (λ d. d.message) (out.diagnostics ++ out.properties) ++ out.message)
  texts-seen notes a out h =
      let made = λ (ds ps : List PlanDiagnostic) (parts : List PlanPart).
      let made : AssertionTexts = record { diagnostics = ds; properties = ps; message = parts } in made in
      let ds = then-ok (named seen notes.diagnostic a.diagnostics) (λ ds. Then (named seen notes.property a.properties) (λ ps. Then (message seen a.message) (λ parts. goes (made ds ps parts)))) out h in
      let ps = then-ok (named seen notes.property a.properties) (λ ps. Then (message seen a.message) (λ parts. goes (made ds.0 ps parts))) out ds.2 in
      let parts = then-ok (message seen a.message) (λ parts. goes (made ds.0 ps.0 parts)) out ps.2 in
      let Seen-part = PartSeen (places seen.variables) in
      subst (λ (its : AssertionTexts). All Seen-part (flat_map (λ d. d.message) (its.diagnostics ++ its.properties) ++ its.message)) (sym (same-value out (made ds.0 ps.0 parts.0) parts.2))
      (All-append Seen-part (flat_map (λ d. d.message) (ds.0 ++ ps.0)) parts.0
      (all-flat Seen-part (λ d. d.message) (ds.0 ++ ps.0)
      (All-append (λ d. All Seen-part d.message) ds.0 ps.0 (named-seen notes.diagnostic a.diagnostics ds.0 ds.1) (named-seen notes.property a.properties ps.0 ps.1)))
      (message-seen a.message parts.0 parts.1))

-- an assertion whose test, subject and parts see what they name
assert-whole : (base : List (ℕ × ValueType)) (its : PlanAssert) → AreSeen base (slots_in its.test) → PathSeen base its.subject → All (PartSeen base) (parts_of its) → AssertSeen base its
assert-whole base its test subject parts =
    let exprs = flat_map expressions_in (parts_of its) in
    let parts-seen = all-flat-twice (Contains base) slots_in expressions_in (parts_of its) (All-weaker (PartSeen base) (λ p. AreSeen base (flat_map slots_in (expressions_in p))) (λ p h. h.slots) (parts_of its) parts) in
    record {
      slots = All-append (Contains base) (slots_in its.test) (flat_map slots_in (option_to_list its.subject ++ exprs)) test
          (All-same (Contains base) (flat_map slots_in (option_to_list its.subject ++ exprs)) (flat_map slots_in (option_to_list its.subject) ++ flat_map slots_in exprs) (flat_map-append slots_in (option_to_list its.subject) exprs)
          (All-append (Contains base) (flat_map slots_in (option_to_list its.subject)) (flat_map slots_in exprs) subject.slots parts-seen));
      subject = subject.paths;
      paths = all-flat IsPath paths_in (parts_of its) (All-weaker (PartSeen base) (λ p. All IsPath (paths_in p)) (λ p h. h.paths) (parts_of its) parts);
    }

module _ (law : SlotsAreInScope) (notes : Notes) (seen : Seen) where
  pub assertion-seen : (a : Assertion) (out : PlanAssert) → one_assertion notes seen a (Ok out) → AssertSeen (places seen.variables) out
  assertion-seen a out h =
      let made = λ (t : TypedTree) (subject : Option TypedTree) (its : AssertionTexts).
      let made : PlanAssert = record {
        report = a.report;
        id = a.id;
        role = a.role;
        flag = a.flag;
        test_text = a.test;
        test = t;
        subject = subject;
        diagnostics = its.diagnostics;
        properties = its.properties;
        message = its.message;
      } in made in
      let t = then-ok (expression (scope seen) a.node a.test) (λ t. Then (optional_path seen a.node a.subject) (λ subject. Then (texts notes seen a) (λ its. goes (made t subject its)))) out h in
      let subject = then-ok (optional_path seen a.node a.subject) (λ subject. Then (texts notes seen a) (λ its. goes (made t.0 subject its))) out t.2 in
      let its = then-ok (texts notes seen a) (λ its. goes (made t.0 subject.0 its)) out subject.2 in
      subst (AssertSeen (places seen.variables)) (sym (same-value out (made t.0 subject.0 its.0) its.2))
      (assert-whole (places seen.variables) (made t.0 subject.0 its.0) (expression-seen law seen a.node a.test t.0 t.1) (optional_path-seen law seen a.node a.subject subject.0 subject.1)
      (texts-seen law seen notes a its.0 its.1))

-- a rule whose context, lets, subject and assertions see what they name
rule-whole : (base : List (ℕ × ValueType)) (count : ℕ) (rule : PlanRule) → AreSeen base (slots_in_paths rule.context) → LetsSeen base count rule.lets →
    PathSeen (base ++ slots_from count rule.lets) rule.subject → All (AssertSeen (base ++ slots_from count rule.lets)) rule.assertions → RuleSeen base count rule
rule-whole base count rule context lets subject assertions =
    let all = base ++ slots_from count rule.lets in
    record {
      context = context;
      lets = lets;
      assertions = all-flat-twice (Contains all) slots_in expressions_of rule.assertions (All-weaker (AssertSeen all) (λ a. AreSeen all (flat_map slots_in (expressions_of a))) (λ a h. h.slots) rule.assertions assertions);
      subject = subject.slots;
      subjects = All-append IsPath (option_to_list rule.subject) (flat_map (λ a. option_to_list a.subject) rule.assertions) subject.paths
          (all-flat IsPath (λ a. option_to_list a.subject) rule.assertions (All-weaker (AssertSeen all) (λ a. All IsPath (option_to_list a.subject)) (λ a h. h.subject) rule.assertions assertions));
      paths = all-flat-twice IsPath paths_in parts_of rule.assertions (All-weaker (AssertSeen all) (λ a. All IsPath (flat_map paths_in (parts_of a))) (λ a h. h.paths) rule.assertions assertions);
    }

module _ (law : SlotsAreInScope) (patterns : PatternSlotsAreInScope) (notes : Notes) (count : ℕ) (seen : Seen) where
  pub rule-seen : (rule : FlatRule) (out : PlanRule) → one_rule notes count seen rule (Ok out) → RuleSeen (places seen.variables) count out
  rule-seen rule out h =
      let made = λ (context : List TypedPathTree) (lets : List PlanLet) (subject : Option TypedTree) (assertions : List PlanAssert).
      let made : PlanRule = record {
        id = rule.id;
        context_text = rule.context;
        context = context;
        subject = subject;
        role = rule.role;
        flag = rule.flag;
        lets = lets;
        assertions = assertions;
      } in made in
      let at_rule : Seen = record seen { next = count } in
      let context = then-ok (match_pattern (pattern_scope seen) rule.node rule.context) (λ context. Then (all_lets at_rule rule.lets) (λ lets. Then (optional_path lets.0 rule.node rule.subject) (λ subject. Then (every (one_assertion notes lets.0) rule.assertions) (λ assertions. goes (made context lets.1 subject assertions))))) out h in
      let lets = then-ok (all_lets at_rule rule.lets) (λ lets. Then (optional_path lets.0 rule.node rule.subject) (λ subject. Then (every (one_assertion notes lets.0) rule.assertions) (λ assertions. goes (made context.0 lets.1 subject assertions)))) out context.2 in
      let subject = then-ok (optional_path lets.0.0 rule.node rule.subject) (λ subject. Then (every (one_assertion notes lets.0.0) rule.assertions) (λ assertions. goes (made context.0 lets.0.1 subject assertions))) out lets.2 in
      let assertions = then-ok (every (one_assertion notes lets.0.0) rule.assertions) (λ assertions. goes (made context.0 lets.0.1 subject.0 assertions)) out subject.2 in
      let base = places seen.variables in
      let after : AfterLets at_rule rule.lets lets.0.0 lets.0.1 = after-lets law at_rule rule.lets lets.0.0 lets.0.1 lets.1 in
      subst (RuleSeen base count) (sym (same-value out (made context.0 lets.0.1 subject.0 assertions.0) assertions.2))
      (rule-whole base count (made context.0 lets.0.1 subject.0 assertions.0) (pattern-seen patterns seen rule.node rule.context context.0 context.1) after.lets
      (subst (λ b. PathSeen b subject.0) after.slots (optional_path-seen law lets.0.0 rule.node rule.subject subject.0 subject.1))
      (subst (λ b. All (AssertSeen b) assertions.0) after.slots
      (every-all (one_assertion notes lets.0.0) (AssertSeen (places lets.0.0.variables)) (assertion-seen law notes lets.0.0) rule.assertions assertions.0 assertions.1)))
