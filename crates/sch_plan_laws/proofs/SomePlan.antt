-- The parts of the walk have an outcome each.
use Rattle.std.proofs.Common.{◌≡◌, ◌⊎◌, ℕ, Bool, true, false, not, List, length, Option, None, Some, Ok, Err, refl, subst, inl, inr}
use Rattle.sch_base.specs.declared.limits.TheConstants.{MAX_NESTING}
use Rattle.sch_model.specs.declared.flat.FlatPattern.{FlatPattern}
use Rattle.sch_model.specs.declared.flat.FlatRule.{FlatRule}
use Rattle.sch_model.specs.declared.flat.FlatSchema.{FlatSchema}
use Rattle.sch_model.specs.declared.parts.Assertion.{Assertion}
use Rattle.sch_model.specs.declared.parts.Diagnostic.{Diagnostic}
use Rattle.sch_model.specs.declared.parts.Head.{Head}
use Rattle.sch_model.specs.declared.parts.LetDecl.{LetDecl}
use Rattle.sch_model.specs.declared.parts.Ns.{Ns}
use Rattle.sch_model.specs.declared.parts.Part.{Part}
use Rattle.sch_model.specs.declared.parts.Part.TheVariants as written
use Rattle.sch_model.specs.declared.parts.Phase.{Phase}
use Rattle.xp_tree.specs.Tree.{Tree}
use Rattle.xp_tree.specs.PatternTree.{PathTree}
use Rattle.xp_grammar.specs.Faults.{DerivesOrFails, EachDerivesAPatternOrFails, EachDerivesOrFails}
use Rattle.xp_grammar.specs.Grammar.{Derives}
use Rattle.xp_grammar.specs.PatternGrammar.{DerivesPattern}
use Rattle.xp_grammar.specs.declared.token.Placed.{Placed}
use Rattle.xp_lexicon.specs.Laws.{WholeTextsEnd}
use Rattle.xp_lexicon.specs.Lexicon.{Tokenized}
use Rattle.xp_lexicon_laws.specs.EachRead.{EachTextIsRead}
use Rattle.xp_typed_tree.specs.TypedTree.{TypedPathTree, TypedTree}
use Rattle.xp_typed_tree.specs.WellTyped.{type_of}
use Rattle.xp_types.specs.declared.faults.TypeFault.{TypeFault}
use Rattle.xp_types.specs.HasType.{HasType}
use Rattle.xp_types.specs.PatternFaults.{IsFirstPatternTypeFault}
use Rattle.xp_types.specs.PatternTypes.{PatternHasType}
use Rattle.xp_types.specs.Scope.{Scope}
use Rattle.xp_types.specs.TypeFaults.{IsFirstTypeFault}
use Rattle.xp_types.specs.Laws.{EachIsTypedOrRefused, EachPatternIsTypedOrRefused}
use Rattle.sch_phases.specs.declared.phases.Choice.{Choice}
use Rattle.sch_plan.specs.Broken.{no_path, second_let, syntax_fault, too_long, too_many_patterns, type_fault}
use Rattle.sch_plan.specs.Compiled.{are_too_many, compiled, global_lets, let_count, walk}
use Rattle.sch_plan.specs.Expressions.{expression, is_node_set, is_too_long, match_pattern, path, pattern_spelled, pattern_typed_in, short_expression, short_pattern, spelled, typed_in}
use Rattle.sch_plan.specs.Lets.{Seen, all_lets, is_seen, nothing_before, one_let, pattern_scope, scope}
use Rattle.sch_phases.specs.Phases.{chosen, chosen_by, chosen_name, of_phase, phase_of}
use Rattle.sch_plan.specs.Rules.{Notes, all_patterns, diagnostics_of, message, named, notes_of, one_assertion, one_diagnostic, one_part, one_pattern, one_rule, optional_path, texts}
use Rattle.sch_phases.specs.Walk.{Unless, every, goes}
use Rattle.sch_plan_laws.proofs.Outcomes.{IsSome, each-some, every-some, goes-some, stops-some, then-some, unless-some}

-- the laws of the lower floors
pub record Judged : Type 0 where
  pub read : EachTextIsRead
  pub ends : WholeTextsEnd
  pub derives : EachDerivesOrFails
  pub derives_pattern : EachDerivesAPatternOrFails
  pub types : EachIsTypedOrRefused
  pub pattern_types : EachPatternIsTypedOrRefused

module _ (j : Judged) where
  -- the tokens of a text that was read to its end
  to-the-end : (text : List ℕ) (tokens : List Placed) (whole : Bool) (end : ℕ) → whole ≡ true → Tokenized text tokens whole end → Tokenized text tokens true (length text)
  to-the-end text tokens whole end is found =
      let all : Tokenized text tokens true end = subst (λ (w : Bool). Tokenized text tokens w end) is found in
      subst (λ (n : ℕ). Tokenized text tokens true n) (j.ends text tokens end all) all

  spelled-some : (node : ℕ) (text : List ℕ) → IsSome (spelled node text)
  spelled-some node text = let found = j.read text in by found.0 found.1 found.2 found.3 (j.derives MAX_NESTING found.0 found.1 found.2)
    where
      by : (tokens : List Placed) (whole : Bool) (end : ℕ) → Tokenized text tokens whole end → DerivesOrFails Tree Derives MAX_NESTING tokens whole end → IsSome (spelled node text)
      by tokens whole end found (inl x) = record {
        outcome = Ok x.1;
        comes = record { tokens = tokens; tokenized = to-the-end text tokens whole end x.0 found; derived = x.2 };
      }
      by tokens whole end found (inr x) = record {
        outcome = Err (syntax_fault node x.0 x.1);
        comes = (x.0, x.1, record { tokens = tokens; whole = whole; end = end; tokenized = found; first = x.2 }, refl);
      }

  pattern_spelled-some : (node : ℕ) (text : List ℕ) → IsSome (pattern_spelled node text)
  pattern_spelled-some node text = let found = j.read text in by found.0 found.1 found.2 found.3 (j.derives_pattern MAX_NESTING found.0 found.1 found.2)
    where
      by : (tokens : List Placed) (whole : Bool) (end : ℕ) → Tokenized text tokens whole end → DerivesOrFails (List PathTree) DerivesPattern MAX_NESTING tokens whole end → IsSome (pattern_spelled node text)
      by tokens whole end found (inl x) = record {
        outcome = Ok x.1;
        comes = record { tokens = tokens; tokenized = to-the-end text tokens whole end x.0 found; derived = x.2 };
      }
      by tokens whole end found (inr x) = record {
        outcome = Err (syntax_fault node x.0 x.1);
        comes = (x.0, x.1, record { tokens = tokens; whole = whole; end = end; tokenized = found; first = x.2 }, refl);
      }

  typed-some : (S : Scope) (node : ℕ) (e : Tree) → IsSome (typed_in S node e)
  typed-some S node e = by (j.types S e)
    where
      by : ((t : TypedTree) × HasType S e t) ⊎ ((f : TypeFault) × IsFirstTypeFault S e f) → IsSome (typed_in S node e)
      by (inl x) = record { outcome = Ok x.0; comes = x.1 }
      by (inr x) = record { outcome = Err (type_fault node x.0); comes = (x.0, x.1, refl) }

  pattern_typed-some : (S : Scope) (node : ℕ) (ps : List PathTree) → IsSome (pattern_typed_in S node ps)
  pattern_typed-some S node ps = by (j.pattern_types S ps)
    where
      by : ((ts : List TypedPathTree) × PatternHasType S ps ts) ⊎ ((f : TypeFault) × IsFirstPatternTypeFault S ps f) → IsSome (pattern_typed_in S node ps)
      by (inl x) = record { outcome = Ok x.0; comes = x.1 }
      by (inr x) = record { outcome = Err (type_fault node x.0); comes = (x.0, x.1, refl) }

  expression-some : (S : Scope) (node : ℕ) (text : List ℕ) → IsSome (expression S node text)
  expression-some S node text =
      unless-some (is_too_long text) (too_long node) (short_expression S node text)
      (then-some (spelled node text) (typed_in S node) (spelled-some node text) (typed-some S node))

  match_pattern-some : (S : Scope) (node : ℕ) (text : List ℕ) → IsSome (match_pattern S node text)
  match_pattern-some S node text =
      unless-some (is_too_long text) (too_long node) (short_pattern S node text)
      (then-some (pattern_spelled node text) (pattern_typed_in S node) (pattern_spelled-some node text) (pattern_typed-some S node))

  path-some : (S : Scope) (node : ℕ) (text : List ℕ) → IsSome (path S node text)
  path-some S node text =
      then-some (expression S node text) (λ t. Unless (not (is_node_set (type_of t))) (no_path node) (goes t)) (expression-some S node text)
      (λ t. unless-some (not (is_node_set (type_of t))) (no_path node) (goes t) (goes-some t))

  one_let-some : (seen : Seen) (its : LetDecl) → IsSome (one_let seen its)
  one_let-some seen its =
      unless-some (is_seen seen its.name) (second_let its.node its.name) _
      (then-some (expression (scope seen) its.node its.value) _ (expression-some (scope seen) its.node its.value) (λ t. goes-some _))

  all_lets-some : (seen : Seen) (lets : List LetDecl) → IsSome (all_lets seen lets)
  all_lets-some = each-some one_let one_let-some

  optional_path-some : (seen : Seen) (node : ℕ) (text : Option (List ℕ)) → IsSome (optional_path seen node text)
  optional_path-some seen node None = goes-some _
  optional_path-some seen node (Some text) = then-some (path (scope seen) node text) _ (path-some (scope seen) node text) (λ t. goes-some _)

  part-some : (seen : Seen) (part : Part) → IsSome (one_part seen part)
  part-some seen (written.Chars text) = goes-some _
  part-some seen (written.ValueOf node select) = then-some (expression (scope seen) node select) _ (expression-some (scope seen) node select) (λ t. goes-some _)
  part-some seen (written.Name node text) = then-some (optional_path seen node text) _ (optional_path-some seen node text) (λ path. goes-some _)

  message-some : (seen : Seen) (parts : List Part) → IsSome (message seen parts)
  message-some seen = every-some (one_part seen) (part-some seen)

  diagnostic-some : (seen : Seen) (d : Diagnostic) → IsSome (one_diagnostic seen d)
  diagnostic-some seen d = then-some (message seen d.message) _ (message-some seen d.message) (λ parts. goes-some _)

  named-some : (seen : Seen) (find : List ℕ → Option Diagnostic) (ids : List (List ℕ)) → IsSome (named seen find ids)
  named-some seen find ids = every-some (one_diagnostic seen) (diagnostic-some seen) (diagnostics_of find ids)

  texts-some : (notes : Notes) (seen : Seen) (a : Assertion) → IsSome (texts notes seen a)
  texts-some notes seen a =
      then-some (named seen notes.diagnostic a.diagnostics) _ (named-some seen notes.diagnostic a.diagnostics)
      (λ ds. then-some (named seen notes.property a.properties) _ (named-some seen notes.property a.properties)
      (λ ps. then-some (message seen a.message) _ (message-some seen a.message) (λ parts. goes-some _)))

  assertion-some : (notes : Notes) (seen : Seen) (a : Assertion) → IsSome (one_assertion notes seen a)
  assertion-some notes seen a =
      then-some (expression (scope seen) a.node a.test) _ (expression-some (scope seen) a.node a.test)
      (λ t. then-some (optional_path seen a.node a.subject) _ (optional_path-some seen a.node a.subject)
      (λ subject. then-some (texts notes seen a) _ (texts-some notes seen a) (λ its. goes-some _)))

  rule-some : (notes : Notes) (count : ℕ) (seen : Seen) (rule : FlatRule) → IsSome (one_rule notes count seen rule)
  rule-some notes count seen rule =
      then-some (match_pattern (pattern_scope seen) rule.node rule.context) _ (match_pattern-some (pattern_scope seen) rule.node rule.context)
      (λ context. then-some (all_lets (record seen { next = count }) rule.lets) _ (all_lets-some (record seen { next = count }) rule.lets)
      (λ lets. then-some (optional_path lets.0 rule.node rule.subject) _ (optional_path-some lets.0 rule.node rule.subject)
      (λ subject. then-some (every (one_assertion notes lets.0) rule.assertions) _ (every-some (one_assertion notes lets.0) (assertion-some notes lets.0) rule.assertions)
      (λ assertions. goes-some _))))

  pattern-some : (notes : Notes) (count : ℕ) (seen : Seen) (pattern : FlatPattern) → IsSome (one_pattern notes count seen pattern)
  pattern-some notes count seen pattern =
      then-some (all_lets seen pattern.lets) _ (all_lets-some seen pattern.lets)
      (λ lets. then-some (every (one_rule notes count lets.0) pattern.rules) _ (every-some (one_rule notes count lets.0) (rule-some notes count lets.0) pattern.rules)
      (λ rules. goes-some _))

  global_lets-some : (seen : Seen) (lets more : List LetDecl) → IsSome (global_lets seen lets more)
  global_lets-some seen lets more =
      then-some (all_lets seen lets) _ (all_lets-some seen lets)
      (λ own. then-some (all_lets own.0 more) _ (all_lets-some own.0 more) (λ its. goes-some _))

  of_phase-some : (node : ℕ) (name : List ℕ) (patterns : List FlatPattern) (phase : Option Phase) → IsSome (of_phase node name patterns phase)
  of_phase-some node name patterns None = stops-some _
  of_phase-some node name patterns (Some phase) = goes-some _

  chosen_by-some : (b : Bool) (head : Head) (phases : List Phase) (patterns : List FlatPattern) (name : List ℕ) → IsSome (chosen_by b head phases patterns name)
  chosen_by-some true head phases patterns name = goes-some _
  chosen_by-some false head phases patterns name = of_phase-some head.node name patterns (phase_of phases name)

  walk-some : (head : Head) (ns : List Ns) (lets : List LetDecl) (notes : Notes) (choice : Choice) → IsSome (walk head ns lets notes choice)
  walk-some head ns lets notes choice =
      then-some (global_lets (nothing_before ns) lets choice.lets) _ (global_lets-some (nothing_before ns) lets choice.lets)
      (λ globals. then-some (all_patterns notes (let_count lets choice) globals.0 choice.patterns) _
      (each-some (one_pattern notes (let_count lets choice)) (pattern-some notes (let_count lets choice)) globals.0 choice.patterns)
      (λ patterns. goes-some _))

  pub compiled-some : (schema : FlatSchema) (phase : List ℕ) → IsSome (compiled schema phase)
  compiled-some schema phase =
      then-some (chosen schema.head schema.phases schema.patterns phase) _ (chosen_by-some _ schema.head schema.phases schema.patterns (chosen_name schema.head phase))
      (λ choice. unless-some (are_too_many choice.patterns) (too_many_patterns schema.head.node) _ (walk-some schema.head schema.ns schema.lets (notes_of schema.diagnostics schema.properties) choice))
