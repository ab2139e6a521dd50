-- The parts of the walk have one outcome each.
use Rattle.std.proofs.Common.{◌≡◌, ℕ, Bool, true, false, not, List, Option, None, Some, Result, Ok, Err, sym, ap, ap₂, ◌∙◌}
use Rattle.sch_base.specs.declared.limits.TheConstants.{MAX_NESTING}
use Rattle.sch_model.specs.declared.fault.SchemaFault.{SchemaFault}
use Rattle.sch_model.specs.declared.flat.FlatPattern.{FlatPattern}
use Rattle.sch_model.specs.declared.flat.FlatRule.{FlatRule}
use Rattle.sch_model.specs.declared.flat.FlatSchema.{FlatSchema}
use Rattle.sch_model.specs.declared.parts.Assertion.{Assertion}
use Rattle.sch_model.specs.declared.parts.Diagnostic.{Diagnostic}
use Rattle.sch_model.specs.declared.parts.Head.{Head}
use Rattle.sch_model.specs.declared.parts.LetDecl.{LetDecl}
use Rattle.sch_model.specs.declared.parts.Ns.{Ns}
use Rattle.sch_model.specs.declared.parts.Part.{Part}
use Rattle.sch_model.specs.declared.parts.Part.TheVariants as written
use Rattle.sch_model.specs.declared.parts.Phase.{Phase}
use Rattle.xp_tree.specs.Tree.{Tree}
use Rattle.xp_tree.specs.PatternTree.{PathTree}
use Rattle.xp_typed_tree.specs.TypedTree.{TypedTree}
use Rattle.xp_typed_tree.specs.WellTyped.{type_of}
use Rattle.xp_syntax.specs.Laws.{OneSpelling, OnePatternSpelling, FirstFaultsAreUnique, FirstPatternFaultsAreUnique, FaultyTextsSpellNothing, FaultyTextsSpellNoPattern}
use Rattle.xp_types.specs.Scope.{Scope}
use Rattle.xp_types.specs.Laws.{TypesAreUnique, TypedHaveNoFault, FirstTypeFaultsAreUnique, PatternTypesAreUnique, TypedPatternsHaveNoFault, FirstPatternTypeFaultsAreUnique}
use Rattle.sch_phases.specs.declared.phases.Choice.{Choice}
use Rattle.sch_plan.specs.Broken.{no_path, second_let, syntax_fault, too_long, too_many_patterns, type_fault}
use Rattle.sch_plan.specs.Compiled.{are_too_many, compiled, global_lets, let_count, walk}
use Rattle.sch_plan.specs.Expressions.{expression, is_node_set, is_too_long, match_pattern, path, pattern_spelled, pattern_typed_in, short_expression, short_pattern, spelled, typed_in}
use Rattle.sch_plan.specs.Lets.{Seen, all_lets, is_seen, nothing_before, one_let, pattern_scope, scope}
use Rattle.sch_phases.specs.Phases.{chosen, chosen_by, chosen_name, of_phase, phase_of}
use Rattle.sch_plan.specs.Rules.{Notes, all_patterns, diagnostics_of, message, named, notes_of, one_assertion, one_diagnostic, one_part, one_pattern, one_rule, optional_path, texts}
use Rattle.sch_phases.specs.Walk.{Unless, every, goes}
use Rattle.sch_plan.proofs.One.{IsOne, each-one, every-one, goes-one, stops-one, then-one, unless-one}

-- the laws of the lower floors
pub record Unique : Type 0 where
  pub spelling : OneSpelling
  pub first_fault : FirstFaultsAreUnique
  pub faulty : FaultyTextsSpellNothing
  pub pattern_spelling : OnePatternSpelling
  pub first_pattern_fault : FirstPatternFaultsAreUnique
  pub faulty_pattern : FaultyTextsSpellNoPattern
  pub types : TypesAreUnique
  pub typed : TypedHaveNoFault
  pub type_fault : FirstTypeFaultsAreUnique
  pub pattern_types : PatternTypesAreUnique
  pub typed_pattern : TypedPatternsHaveNoFault
  pub pattern_type_fault : FirstPatternTypeFaultsAreUnique

module _ (u : Unique) where
  spelled-same : (node : ℕ) (text : List ℕ) (r s : Result Tree SchemaFault) → spelled node text r → spelled node text s → r ≡ s
  spelled-same node text (Ok e) (Ok d) h k = ap Ok (u.spelling MAX_NESTING MAX_NESTING text e d h k)
  spelled-same node text (Ok e) (Err f) h k = absurd (u.faulty MAX_NESTING text k.0 k.1 e k.2 h)
  spelled-same node text (Err f) (Ok e) h k = absurd (u.faulty MAX_NESTING text h.0 h.1 e h.2 k)
  spelled-same node text (Err f) (Err g) h k =
      let same = u.first_fault MAX_NESTING text h.0 k.0 h.1 k.1 h.2 k.2 in
      ap Err (h.3 ∙ ap₂ (syntax_fault node) same.0 same.1 ∙ sym k.3)

  pattern_spelled-same : (node : ℕ) (text : List ℕ) (r s : Result (List PathTree) SchemaFault) → pattern_spelled node text r → pattern_spelled node text s → r ≡ s
  pattern_spelled-same node text (Ok e) (Ok d) h k = ap Ok (u.pattern_spelling MAX_NESTING MAX_NESTING text e d h k)
  pattern_spelled-same node text (Ok e) (Err f) h k = absurd (u.faulty_pattern MAX_NESTING text k.0 k.1 e k.2 h)
  pattern_spelled-same node text (Err f) (Ok e) h k = absurd (u.faulty_pattern MAX_NESTING text h.0 h.1 e h.2 k)
  pattern_spelled-same node text (Err f) (Err g) h k =
      let same = u.first_pattern_fault MAX_NESTING text h.0 k.0 h.1 k.1 h.2 k.2 in
      ap Err (h.3 ∙ ap₂ (syntax_fault node) same.0 same.1 ∙ sym k.3)

  typed-same : (S : Scope) (node : ℕ) (e : Tree) (r s : Result TypedTree SchemaFault) → typed_in S node e r → typed_in S node e s → r ≡ s
  typed-same S node e (Ok t) (Ok v) h k = ap Ok (u.types S e t v h k)
  typed-same S node e (Ok t) (Err f) h k = absurd (u.typed S e t k.1.place k.0 h k.1.stands)
  typed-same S node e (Err f) (Ok t) h k = absurd (u.typed S e t h.1.place h.0 k h.1.stands)
  typed-same S node e (Err f) (Err g) h k = ap Err (h.2 ∙ ap (type_fault node) (u.type_fault S e h.0 k.0 h.1 k.1) ∙ sym k.2)

  pattern_typed-same : (S : Scope) (node : ℕ) (ps : List PathTree) → (r s : Result _ SchemaFault) → pattern_typed_in S node ps r → pattern_typed_in S node ps s → r ≡ s
  pattern_typed-same S node ps (Ok t) (Ok v) h k = ap Ok (u.pattern_types S ps t v h k)
  pattern_typed-same S node ps (Ok t) (Err f) h k = absurd (u.typed_pattern S ps t k.1.place k.0 h k.1.stands)
  pattern_typed-same S node ps (Err f) (Ok t) h k = absurd (u.typed_pattern S ps t h.1.place h.0 k h.1.stands)
  pattern_typed-same S node ps (Err f) (Err g) h k = ap Err (h.2 ∙ ap (type_fault node) (u.pattern_type_fault S ps h.0 k.0 h.1 k.1) ∙ sym k.2)

  expression-one : (S : Scope) (node : ℕ) (text : List ℕ) → IsOne (expression S node text)
  expression-one S node text =
      unless-one (is_too_long text) (too_long node) (short_expression S node text)
      (then-one (spelled node text) (typed_in S node) (record { same = spelled-same node text }) (λ e. record { same = typed-same S node e }))

  match_pattern-one : (S : Scope) (node : ℕ) (text : List ℕ) → IsOne (match_pattern S node text)
  match_pattern-one S node text =
      unless-one (is_too_long text) (too_long node) (short_pattern S node text)
      (then-one (pattern_spelled node text) (pattern_typed_in S node) (record { same = pattern_spelled-same node text }) (λ e. record { same = pattern_typed-same S node e }))

  path-one : (S : Scope) (node : ℕ) (text : List ℕ) → IsOne (path S node text)
  path-one S node text =
      then-one (expression S node text) (λ t. Unless (not (is_node_set (type_of t))) (no_path node) (goes t)) (expression-one S node text)
      (λ t. unless-one (not (is_node_set (type_of t))) (no_path node) (goes t) (goes-one t))

  one_let-one : (seen : Seen) (its : LetDecl) → IsOne (one_let seen its)
  one_let-one seen its =
      unless-one (is_seen seen its.name) (second_let its.node its.name) _
      (then-one (expression (scope seen) its.node its.value) _ (expression-one (scope seen) its.node its.value) (λ t. goes-one _))

  all_lets-one : (seen : Seen) (lets : List LetDecl) → IsOne (all_lets seen lets)
  all_lets-one = each-one one_let one_let-one

  optional_path-one : (seen : Seen) (node : ℕ) (text : Option (List ℕ)) → IsOne (optional_path seen node text)
  optional_path-one seen node None = goes-one _
  optional_path-one seen node (Some text) = then-one (path (scope seen) node text) _ (path-one (scope seen) node text) (λ t. goes-one _)

  part-one : (seen : Seen) (part : Part) → IsOne (one_part seen part)
  part-one seen (written.Chars text) = goes-one _
  part-one seen (written.ValueOf node select) = then-one (expression (scope seen) node select) _ (expression-one (scope seen) node select) (λ t. goes-one _)
  part-one seen (written.Name node text) = then-one (optional_path seen node text) _ (optional_path-one seen node text) (λ path. goes-one _)

  message-one : (seen : Seen) (parts : List Part) → IsOne (message seen parts)
  message-one seen = every-one (one_part seen) (part-one seen)

  diagnostic-one : (seen : Seen) (d : Diagnostic) → IsOne (one_diagnostic seen d)
  diagnostic-one seen d = then-one (message seen d.message) _ (message-one seen d.message) (λ parts. goes-one _)

  named-one : (seen : Seen) (find : List ℕ → Option Diagnostic) (ids : List (List ℕ)) → IsOne (named seen find ids)
  named-one seen find ids = every-one (one_diagnostic seen) (diagnostic-one seen) (diagnostics_of find ids)

  texts-one : (notes : Notes) (seen : Seen) (a : Assertion) → IsOne (texts notes seen a)
  texts-one notes seen a =
      then-one (named seen notes.diagnostic a.diagnostics) _ (named-one seen notes.diagnostic a.diagnostics)
      (λ ds. then-one (named seen notes.property a.properties) _ (named-one seen notes.property a.properties)
      (λ ps. then-one (message seen a.message) _ (message-one seen a.message) (λ parts. goes-one _)))

  assertion-one : (notes : Notes) (seen : Seen) (a : Assertion) → IsOne (one_assertion notes seen a)
  assertion-one notes seen a =
      then-one (expression (scope seen) a.node a.test) _ (expression-one (scope seen) a.node a.test)
      (λ t. then-one (optional_path seen a.node a.subject) _ (optional_path-one seen a.node a.subject)
      (λ subject. then-one (texts notes seen a) _ (texts-one notes seen a) (λ its. goes-one _)))

  rule-one : (notes : Notes) (count : ℕ) (seen : Seen) (rule : FlatRule) → IsOne (one_rule notes count seen rule)
  rule-one notes count seen rule =
      then-one (match_pattern (pattern_scope seen) rule.node rule.context) _ (match_pattern-one (pattern_scope seen) rule.node rule.context)
      (λ context. then-one (all_lets (record seen { next = count }) rule.lets) _ (all_lets-one (record seen { next = count }) rule.lets)
      (λ lets. then-one (optional_path lets.0 rule.node rule.subject) _ (optional_path-one lets.0 rule.node rule.subject)
      (λ subject. then-one (every (one_assertion notes lets.0) rule.assertions) _ (every-one (one_assertion notes lets.0) (assertion-one notes lets.0) rule.assertions)
      (λ assertions. goes-one _))))

  pattern-one : (notes : Notes) (count : ℕ) (seen : Seen) (pattern : FlatPattern) → IsOne (one_pattern notes count seen pattern)
  pattern-one notes count seen pattern =
      then-one (all_lets seen pattern.lets) _ (all_lets-one seen pattern.lets)
      (λ lets. then-one (every (one_rule notes count lets.0) pattern.rules) _ (every-one (one_rule notes count lets.0) (rule-one notes count lets.0) pattern.rules)
      (λ rules. goes-one _))

  global_lets-one : (seen : Seen) (lets more : List LetDecl) → IsOne (global_lets seen lets more)
  global_lets-one seen lets more =
      then-one (all_lets seen lets) _ (all_lets-one seen lets)
      (λ own. then-one (all_lets own.0 more) _ (all_lets-one own.0 more) (λ its. goes-one _))

  of_phase-one : (node : ℕ) (name : List ℕ) (patterns : List FlatPattern) (phase : Option Phase) → IsOne (of_phase node name patterns phase)
  of_phase-one node name patterns None = stops-one _
  of_phase-one node name patterns (Some phase) = goes-one _

  chosen_by-one : (b : Bool) (head : Head) (phases : List Phase) (patterns : List FlatPattern) (name : List ℕ) → IsOne (chosen_by b head phases patterns name)
  chosen_by-one true head phases patterns name = goes-one _
  chosen_by-one false head phases patterns name = of_phase-one head.node name patterns (phase_of phases name)

  walk-one : (head : Head) (ns : List Ns) (lets : List LetDecl) (notes : Notes) (choice : Choice) → IsOne (walk head ns lets notes choice)
  walk-one head ns lets notes choice =
      then-one (global_lets (nothing_before ns) lets choice.lets) _ (global_lets-one (nothing_before ns) lets choice.lets)
      (λ globals. then-one (all_patterns notes (let_count lets choice) globals.0 choice.patterns) _
      (each-one (one_pattern notes (let_count lets choice)) (pattern-one notes (let_count lets choice)) globals.0 choice.patterns)
      (λ patterns. goes-one _))

  pub compiled-one : (schema : FlatSchema) (phase : List ℕ) → IsOne (compiled schema phase)
  compiled-one schema phase =
      then-one (chosen schema.head schema.phases schema.patterns phase) _ (chosen_by-one _ schema.head schema.phases schema.patterns (chosen_name schema.head phase))
      (λ choice. unless-one (are_too_many choice.patterns) (too_many_patterns schema.head.node) _ (walk-one schema.head schema.ns schema.lets (notes_of schema.diagnostics schema.properties) choice))
