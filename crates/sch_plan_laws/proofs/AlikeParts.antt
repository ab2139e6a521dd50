-- The parts of a schema go on as before where their places are forgotten.
use Rattle.std.proofs.Common.{◌≡◌, ℕ, ◌+◌, Bool, true, false, ◌||◌, not, List, [], ◌∷◌, ◌++◌, Option, None, Some, map, cond, Ok, refl, sym, ap, ap₂, ◌∙◌, subst}
use Rattle.std.specs.Option.{option_to_list}
use Rattle.std.specs.Prelude.{codes, nat_lt, option_map}
use Rattle.std.specs.Str.{bytes_eq}
use Rattle.std.proofs.lemmas.List.{length-map}
use Rattle.sch_model.specs.Placeless.{placeless_active, placeless_assertion, placeless_diagnostic, placeless_flat, placeless_flat_pattern, placeless_flat_rule, placeless_let, placeless_ns, placeless_part, placeless_phase}
use Rattle.sch_model.specs.declared.flat.FlatPattern.{FlatPattern}
use Rattle.sch_model.specs.declared.flat.FlatRule.{FlatRule}
use Rattle.sch_model.specs.declared.flat.FlatSchema.{FlatSchema}
use Rattle.sch_model.specs.declared.parts.Active.{Active}
use Rattle.sch_model.specs.declared.parts.Assertion.{Assertion}
use Rattle.sch_model.specs.declared.parts.Diagnostic.{Diagnostic}
use Rattle.sch_model.specs.declared.parts.Head.{Head}
use Rattle.sch_model.specs.declared.parts.LetDecl.{LetDecl}
use Rattle.sch_model.specs.declared.parts.Ns.{Ns}
use Rattle.sch_model.specs.declared.parts.Part.{Part}
use Rattle.sch_model.specs.declared.parts.Part.TheVariants as written
use Rattle.sch_model.specs.declared.parts.Phase.{Phase}
use Rattle.xp_typed_tree.specs.WellTyped.{type_of}
use Rattle.xp_types.specs.Scope.{Binding, Scope}
use Rattle.sch_base.specs.declared.limits.TheConstants.{MAX_ACTIVE_PATTERNS}
use Rattle.sch_compiled.specs.declared.parts.LetInForce.{LetInForce}
use Rattle.sch_compiled.specs.declared.plan.Plan.{Plan}
use Rattle.sch_plan.specs.Broken.{no_path, second_let, too_long, too_many_patterns}
use Rattle.sch_plan.specs.Compiled.{are_too_many, compiled, global_lets, let_count, lets_of_patterns, plan_ns, plan_of, plan_pattern, walk}
use Rattle.sch_plan.specs.Expressions.{expression, is_node_set, is_too_long, match_pattern, path, pattern_spelled, pattern_typed_in, short_expression, short_pattern, spelled, typed_in}
use Rattle.sch_plan.specs.Lets.{Seen, all_lets, is_seen, nothing_before, one_let, pattern_scope, scope, with_prefix, with_prefixes}
use Rattle.sch_phases.specs.Phases.{active_patterns, all_chosen, choice_of, chosen_by, chosen_name, is_active, is_named, no_phase, of_phase, phase_of}
use Rattle.sch_plan.specs.Rules.{Notes, all_patterns, diagnostic_of, diagnostics_of, message, named, notes_of, one_assertion, one_diagnostic, one_part, one_pattern, one_rule, optional_path, texts}
use Rattle.sch_phases.specs.Walk.{Stretch, Then, Unless, every, goes}
use Rattle.sch_plan_laws.specs.Places.{PlansNeedNoPlaces}
use Rattle.sch_plan_laws.proofs.Alike.{Alike, alike-each, alike-every, alike-goes, alike-same, alike-stops, alike-then, alike-unless}

-- what a phase chooses, and the parts of a pattern: the types that these functions take or give
abbrev GivenBy : {A B : Type 0} → (A → B) → Type 0
GivenBy {B = B} f = B

abbrev TakenBy : {A B : Type 0} → (A → B) → Type 0
TakenBy {A = A} f = A

abbrev Choice : Type 0
Choice = GivenBy all_chosen

abbrev PatternParts : Type 0
PatternParts = TakenBy plan_pattern

-- expressions at two elements
spelled-alike : (a b : ℕ) (text : List ℕ) → Alike (spelled a text) (spelled b text)
spelled-alike a b text = record { there = λ e h. h; back = λ e h. h }

pattern_spelled-alike : (a b : ℕ) (text : List ℕ) → Alike (pattern_spelled a text) (pattern_spelled b text)
pattern_spelled-alike a b text = record { there = λ e h. h; back = λ e h. h }

expression-alike : (S : Scope) (a b : ℕ) (text : List ℕ) → Alike (expression S a text) (expression S b text)
expression-alike S a b text =
    alike-unless (is_too_long text) (too_long a) (too_long b) (short_expression S a text) (short_expression S b text)
    (alike-then (spelled a text) (spelled b text) (typed_in S a) (typed_in S b) (spelled-alike a b text)
    (λ e. record { there = λ t h. h; back = λ t h. h }))

match_pattern-alike : (S : Scope) (a b : ℕ) (text : List ℕ) → Alike (match_pattern S a text) (match_pattern S b text)
match_pattern-alike S a b text =
    alike-unless (is_too_long text) (too_long a) (too_long b) (short_pattern S a text) (short_pattern S b text)
    (alike-then (pattern_spelled a text) (pattern_spelled b text) (pattern_typed_in S a) (pattern_typed_in S b) (pattern_spelled-alike a b text)
    (λ e. record { there = λ t h. h; back = λ t h. h }))

path-alike : (S : Scope) (a b : ℕ) (text : List ℕ) → Alike (path S a text) (path S b text)
path-alike S a b text =
    alike-then (expression S a text) (expression S b text) _ _ (expression-alike S a b text)
    (λ t. alike-unless (not (is_node_set (type_of t))) (no_path a) (no_path b) (goes t) (goes t) (alike-same (goes t)))

-- lets
let-alike : (seen : Seen) (decl : LetDecl) → Alike (one_let seen decl) (one_let seen (placeless_let decl))
let-alike seen decl =
    alike-unless (is_seen seen decl.name) (second_let decl.node decl.name) (second_let 0 decl.name) _ _
    (alike-then (expression (scope seen) decl.node decl.value) (expression (scope seen) 0 decl.value) _ _ (expression-alike (scope seen) decl.node 0 decl.value) (λ t. alike-same _))

lets-alike : (seen : Seen) (lets : List LetDecl) → Alike (all_lets seen lets) (all_lets seen (map placeless_let lets))
lets-alike = alike-each one_let one_let placeless_let let-alike

-- paths of names, and subjects
optional_path-alike : (seen : Seen) (a b : ℕ) (text : Option (List ℕ)) → Alike (optional_path seen a text) (optional_path seen b text)
optional_path-alike seen a b None = alike-same _
optional_path-alike seen a b (Some text) =
    alike-then (path (scope seen) a text) (path (scope seen) b text) _ _ (path-alike (scope seen) a b text) (λ t. alike-same _)

-- messages
part-alike : (seen : Seen) (part : Part) → Alike (one_part seen part) (one_part seen (placeless_part part))
part-alike seen (written.Chars text) = alike-same _
part-alike seen (written.ValueOf node select) =
    alike-then (expression (scope seen) node select) (expression (scope seen) 0 select) _ _ (expression-alike (scope seen) node 0 select) (λ t. alike-same _)
part-alike seen (written.Name node text) =
    alike-then (optional_path seen node text) (optional_path seen 0 text) _ _ (optional_path-alike seen node 0 text) (λ path. alike-same _)

message-alike : (seen : Seen) (parts : List Part) → Alike (message seen parts) (message seen (map placeless_part parts))
message-alike seen = alike-every (one_part seen) (one_part seen) placeless_part (part-alike seen)

diagnostic-alike : (seen : Seen) (d : Diagnostic) → Alike (one_diagnostic seen d) (one_diagnostic seen (placeless_diagnostic d))
diagnostic-alike seen d =
    alike-then (message seen d.message) (message seen (map placeless_part d.message)) _ _ (message-alike seen d.message) (λ parts. alike-same _)

-- the diagnostics, or the properties, that are found
diagnostic-found-if : (b : Bool) (d : Diagnostic) (found : Option Diagnostic) → cond b (Some (placeless_diagnostic d)) (option_map placeless_diagnostic found) ≡ option_map placeless_diagnostic (cond b (Some d) found)
diagnostic-found-if true d found = refl
diagnostic-found-if false d found = refl

diagnostic-found : (ds : List Diagnostic) (id : List ℕ) → diagnostic_of (map placeless_diagnostic ds) id ≡ option_map placeless_diagnostic (diagnostic_of ds id)
diagnostic-found [] id = refl
diagnostic-found (d ∷ ds) id =
    ap (cond (bytes_eq id d.id) (Some (placeless_diagnostic d))) (diagnostic-found ds id)
    ∙ diagnostic-found-if (bytes_eq id d.id) d (diagnostic_of ds id)

listed : (found : Option Diagnostic) → option_to_list (option_map placeless_diagnostic found) ≡ map placeless_diagnostic (option_to_list found)
listed None = refl
listed (Some d) = refl

map-append : {A B : Type 0} (f : A → B) (xs ys : List A) → map f xs ++ map f ys ≡ map f (xs ++ ys)
map-append f [] ys = refl
map-append f (x ∷ xs) ys = ap (λ l. f x ∷ l) (map-append f xs ys)

diagnostics-found : (ds : List Diagnostic) (ids : List (List ℕ)) → diagnostics_of (diagnostic_of (map placeless_diagnostic ds)) ids ≡ map placeless_diagnostic (diagnostics_of (diagnostic_of ds) ids)
diagnostics-found ds [] = refl
diagnostics-found ds (id ∷ ids) =
    ap₂ (λ l m. l ++ m) (ap option_to_list (diagnostic-found ds id) ∙ listed (diagnostic_of ds id)) (diagnostics-found ds ids)
    ∙ map-append placeless_diagnostic (option_to_list (diagnostic_of ds id)) (diagnostics_of (diagnostic_of ds) ids)

named-alike : (ds : List Diagnostic) (seen : Seen) (ids : List (List ℕ)) → Alike (named seen (diagnostic_of ds) ids) (named seen (diagnostic_of (map placeless_diagnostic ds)) ids)
named-alike ds seen ids =
    subst (λ found. Alike (named seen (diagnostic_of ds) ids) (every (one_diagnostic seen) found)) (sym (diagnostics-found ds ids))
    (alike-every (one_diagnostic seen) (one_diagnostic seen) placeless_diagnostic (diagnostic-alike seen) (diagnostics_of (diagnostic_of ds) ids))

module _ (ds ps : List Diagnostic) where
  abbrev notes : Notes
  notes = notes_of ds ps

  abbrev forgotten : Notes
  forgotten = notes_of (map placeless_diagnostic ds) (map placeless_diagnostic ps)

  texts-alike : (seen : Seen) (a : Assertion) → Alike (texts notes seen a) (texts forgotten seen (placeless_assertion a))
  texts-alike seen a =
      alike-then (named seen notes.diagnostic a.diagnostics) (named seen forgotten.diagnostic a.diagnostics) _ _ (named-alike ds seen a.diagnostics)
      (λ found. alike-then (named seen notes.property a.properties) (named seen forgotten.property a.properties) _ _ (named-alike ps seen a.properties)
      (λ more. alike-then (message seen a.message) (message seen (map placeless_part a.message)) _ _ (message-alike seen a.message) (λ parts. alike-same _)))

  assertion-alike : (seen : Seen) (a : Assertion) → Alike (one_assertion notes seen a) (one_assertion forgotten seen (placeless_assertion a))
  assertion-alike seen a =
      alike-then (expression (scope seen) a.node a.test) (expression (scope seen) 0 a.test) _ _ (expression-alike (scope seen) a.node 0 a.test)
      (λ t. alike-then (optional_path seen a.node a.subject) (optional_path seen 0 a.subject) _ _ (optional_path-alike seen a.node 0 a.subject)
      (λ subject. alike-then (texts notes seen a) (texts forgotten seen (placeless_assertion a)) _ _ (texts-alike seen a) (λ its. alike-same _)))

  rule-alike : (count : ℕ) (seen : Seen) (rule : FlatRule) → Alike (one_rule notes count seen rule) (one_rule forgotten count seen (placeless_flat_rule rule))
  rule-alike count seen rule =
      alike-then (match_pattern (pattern_scope seen) rule.node rule.context) (match_pattern (pattern_scope seen) 0 rule.context) _ _ (match_pattern-alike (pattern_scope seen) rule.node 0 rule.context)
      (λ context. alike-then (all_lets (record seen { next = count }) rule.lets) (all_lets (record seen { next = count }) (map placeless_let rule.lets)) _ _ (lets-alike (record seen { next = count }) rule.lets)
      (λ lets. alike-then (optional_path lets.0 rule.node rule.subject) (optional_path lets.0 0 rule.subject) _ _ (optional_path-alike lets.0 rule.node 0 rule.subject)
      (λ subject. alike-then (every (one_assertion notes lets.0) rule.assertions) (every (one_assertion forgotten lets.0) (map placeless_assertion rule.assertions)) _ _
      (alike-every (one_assertion notes lets.0) (one_assertion forgotten lets.0) placeless_assertion (assertion-alike lets.0) rule.assertions)
      (λ assertions. alike-same _))))

  pattern-alike : (count : ℕ) (seen : Seen) (pattern : FlatPattern) → Alike (one_pattern notes count seen pattern) (one_pattern forgotten count seen (placeless_flat_pattern pattern))
  pattern-alike count seen pattern =
      alike-then (all_lets seen pattern.lets) (all_lets seen (map placeless_let pattern.lets)) _ _ (lets-alike seen pattern.lets)
      (λ lets. alike-then (every (one_rule notes count lets.0) pattern.rules) (every (one_rule forgotten count lets.0) (map placeless_flat_rule pattern.rules)) _ _
      (alike-every (one_rule notes count lets.0) (one_rule forgotten count lets.0) placeless_flat_rule (rule-alike count lets.0) pattern.rules)
      (λ rules. alike-same _))

  patterns-alike : (count : ℕ) (seen : Seen) (patterns : List FlatPattern) → Alike (all_patterns notes count seen patterns) (all_patterns forgotten count seen (map placeless_flat_pattern patterns))
  patterns-alike count = alike-each (one_pattern notes count) (one_pattern forgotten count) placeless_flat_pattern (pattern-alike count)

-- the schema as a whole
abbrev placeless_choice : Choice → Choice
placeless_choice choice = record { phase = choice.phase; lets = map placeless_let choice.lets; patterns = map placeless_flat_pattern choice.patterns }

lets-counted : (patterns : List FlatPattern) → lets_of_patterns (map placeless_flat_pattern patterns) ≡ lets_of_patterns patterns
lets-counted [] = refl
lets-counted (p ∷ ps) = ap₂ (λ n m. n + m) (length-map p.lets placeless_let) (lets-counted ps)

all-counted : (lets : List LetDecl) (choice : Choice) → let_count (map placeless_let lets) (placeless_choice choice) ≡ let_count lets choice
all-counted lets choice =
    ap₂ (λ n m. n + m) (length-map lets placeless_let)
    (ap₂ (λ n m. n + m) (length-map choice.lets placeless_let) (lets-counted choice.patterns))

same-prefixes : (bindings : List Binding) (ns : List Ns) → with_prefixes bindings (map placeless_ns ns) ≡ with_prefixes bindings ns
same-prefixes bindings [] = refl
same-prefixes bindings (n ∷ ns) = same-prefixes (with_prefix bindings n) ns

same-seen : (ns : List Ns) → nothing_before (map placeless_ns ns) ≡ nothing_before ns
same-seen ns = ap (λ prefixes. record { prefixes = prefixes; variables = []; next = 0 }) (same-prefixes [] ns)

same-namespaces : (ns : List Ns) → map plan_ns (map placeless_ns ns) ≡ map plan_ns ns
same-namespaces [] = refl
same-namespaces (n ∷ ns) = ap (λ l. plan_ns n ∷ l) (same-namespaces ns)

global-alike : (seen : Seen) (lets more : List LetDecl) → Alike (global_lets seen lets more) (global_lets seen (map placeless_let lets) (map placeless_let more))
global-alike seen lets more =
    alike-then (all_lets seen lets) (all_lets seen (map placeless_let lets)) _ _ (lets-alike seen lets)
    (λ own. alike-then (all_lets own.0 more) (all_lets own.0 (map placeless_let more)) _ _ (lets-alike own.0 more) (λ its. alike-same _))

abbrev placeless_head : Head → Head
placeless_head head = record head { node = 0 }

-- the patterns that a phase makes active
same-active : (active : List Active) (id : List ℕ) → is_active (map placeless_active active) id ≡ is_active active id
same-active [] id = refl
same-active (a ∷ active) id = ap (λ b. bytes_eq id a.pattern || b) (same-active active id)

same-named : (active : List Active) (id : Option (List ℕ)) → is_named (is_active (map placeless_active active)) id ≡ is_named (is_active active) id
same-named active None = refl
same-named active (Some id) = same-active active id

kept-if : (b : Bool) (p : FlatPattern) (kept : List FlatPattern) → map placeless_flat_pattern (cond b (p ∷ kept) kept) ≡ cond b (placeless_flat_pattern p ∷ map placeless_flat_pattern kept) (map placeless_flat_pattern kept)
kept-if true p kept = refl
kept-if false p kept = refl

active-kept : (active : List Active) (patterns : List FlatPattern) → map placeless_flat_pattern (active_patterns active patterns) ≡ active_patterns (map placeless_active active) (map placeless_flat_pattern patterns)
active-kept active [] = refl
active-kept active (p ∷ patterns) =
    kept-if (is_named (is_active active) p.id) p (active_patterns active patterns)
    ∙ ap₂ (λ b kept. cond b (placeless_flat_pattern p ∷ kept) kept) (sym (same-named active p.id)) (active-kept active patterns)

-- the phase of a name
phase-found-if : (b : Bool) (p : Phase) (found : Option Phase) → cond b (Some (placeless_phase p)) (option_map placeless_phase found) ≡ option_map placeless_phase (cond b (Some p) found)
phase-found-if true p found = refl
phase-found-if false p found = refl

phase-found : (phases : List Phase) (name : List ℕ) → phase_of (map placeless_phase phases) name ≡ option_map placeless_phase (phase_of phases name)
phase-found [] name = refl
phase-found (p ∷ phases) name =
    ap (cond (bytes_eq name p.id) (Some (placeless_phase p))) (phase-found phases name)
    ∙ phase-found-if (bytes_eq name p.id) p (phase_of phases name)

same-choice : (patterns : List FlatPattern) (phase : Phase) → placeless_choice (choice_of patterns phase) ≡ choice_of (map placeless_flat_pattern patterns) (placeless_phase phase)
same-choice patterns phase =
    ap (λ kept. record { phase = Some phase.id; lets = map placeless_let phase.lets; patterns = kept }) (active-kept phase.active patterns)

-- what comes behind the choice of a phase
module _ (next after : Choice → Stretch Plan) (alike : (choice : Choice) → Alike (next choice) (after (placeless_choice choice))) where
  of_phase-alike : (a b : ℕ) (name : List ℕ) (patterns : List FlatPattern) (found : Option Phase) → Alike (Then (of_phase a name patterns found) next) (Then (of_phase b name (map placeless_flat_pattern patterns) (option_map placeless_phase found)) after)
  of_phase-alike a b name patterns None = alike-stops (no_phase a name) (no_phase b name) next after
  of_phase-alike a b name patterns (Some phase) =
      alike-goes (choice_of patterns phase) (choice_of (map placeless_flat_pattern patterns) (placeless_phase phase)) next after
      (subst (λ choice. Alike (next (choice_of patterns phase)) (after choice)) (same-choice patterns phase) (alike (choice_of patterns phase)))

  chosen-alike : (is_all : Bool) (head : Head) (phases : List Phase) (patterns : List FlatPattern) (name : List ℕ) → Alike (Then (chosen_by is_all head phases patterns name) next) (Then (chosen_by is_all (placeless_head head) (map placeless_phase phases) (map placeless_flat_pattern patterns) name) after)
  chosen-alike true head phases patterns name = alike-goes (all_chosen patterns) (all_chosen (map placeless_flat_pattern patterns)) next after (alike (all_chosen patterns))
  chosen-alike false head phases patterns name =
      subst (λ found. Alike (Then (of_phase head.node name patterns (phase_of phases name)) next) (Then (of_phase 0 name (map placeless_flat_pattern patterns) found) after))
      (sym (phase-found phases name)) (of_phase-alike head.node 0 name patterns (phase_of phases name))

module _ (head : Head) (ns : List Ns) (lets : List LetDecl) (ds ps : List Diagnostic) (choice : Choice) where
  first-alike : Alike (global_lets (nothing_before ns) lets choice.lets) (global_lets (nothing_before (map placeless_ns ns)) (map placeless_let lets) (map placeless_let choice.lets))
  first-alike =
      subst (λ seen. Alike (global_lets (nothing_before ns) lets choice.lets) (global_lets seen (map placeless_let lets) (map placeless_let choice.lets)))
      (sym (same-seen ns)) (global-alike (nothing_before ns) lets choice.lets)

  then-alike : (seen : Seen) → Alike (all_patterns (notes ds ps) (let_count lets choice) seen choice.patterns) (all_patterns (forgotten ds ps) (let_count (map placeless_let lets) (placeless_choice choice)) seen (map placeless_flat_pattern choice.patterns))
  then-alike seen =
      subst (λ count. Alike (all_patterns (notes ds ps) (let_count lets choice) seen choice.patterns) (all_patterns (forgotten ds ps) count seen (map placeless_flat_pattern choice.patterns)))
      (sym (all-counted lets choice)) (patterns-alike ds ps (let_count lets choice) seen choice.patterns)

  same-plan : (forced : List LetInForce) (parts : List PatternParts) → plan_of head ns choice.phase forced parts ≡ plan_of (placeless_head head) (map placeless_ns ns) choice.phase forced parts
  same-plan forced parts = ap (λ namespaces. record (plan_of head ns choice.phase forced parts) { namespaces = namespaces }) (sym (same-namespaces ns))

  walk-alike : Alike (walk head ns lets (notes ds ps) choice) (walk (placeless_head head) (map placeless_ns ns) (map placeless_let lets) (forgotten ds ps) (placeless_choice choice))
  walk-alike =
      alike-then (global_lets (nothing_before ns) lets choice.lets) (global_lets (nothing_before (map placeless_ns ns)) (map placeless_let lets) (map placeless_let choice.lets)) _ _ first-alike
      (λ globals. alike-then (all_patterns (notes ds ps) (let_count lets choice) globals.0 choice.patterns) (all_patterns (forgotten ds ps) (let_count (map placeless_let lets) (placeless_choice choice)) globals.0 (map placeless_flat_pattern choice.patterns)) _ _ (then-alike globals.0)
      (λ parts. subst (λ plan. Alike (goes (plan_of head ns choice.phase globals.1 parts.1)) (goes plan)) (same-plan globals.1 parts.1) (alike-same _)))

  few-alike : Alike (Unless (are_too_many choice.patterns) (too_many_patterns head.node) (walk head ns lets (notes ds ps) choice)) (Unless (are_too_many (map placeless_flat_pattern choice.patterns)) (too_many_patterns 0) (walk (placeless_head head) (map placeless_ns ns) (map placeless_let lets) (forgotten ds ps) (placeless_choice choice)))
  few-alike =
      subst (λ n. Alike (Unless (are_too_many choice.patterns) (too_many_patterns head.node) (walk head ns lets (notes ds ps) choice)) (Unless (nat_lt MAX_ACTIVE_PATTERNS n) (too_many_patterns 0) (walk (placeless_head head) (map placeless_ns ns) (map placeless_let lets) (forgotten ds ps) (placeless_choice choice))))
      (sym (length-map choice.patterns placeless_flat_pattern))
      (alike-unless (are_too_many choice.patterns) (too_many_patterns head.node) (too_many_patterns 0) _ _ walk-alike)

compiled-alike : (schema : FlatSchema) (phase : List ℕ) → Alike (compiled schema phase) (compiled (placeless_flat schema) phase)
compiled-alike schema phase =
    chosen-alike _ _ (few-alike schema.head schema.ns schema.lets schema.diagnostics schema.properties)
    (bytes_eq (chosen_name schema.head phase) (codes "#ALL")) schema.head schema.phases schema.patterns (chosen_name schema.head phase)

pub same-plans : PlansNeedNoPlaces
same-plans flat other phase plan same h =
    (compiled-alike other phase).back plan
    (subst (λ schema. compiled schema phase (Ok plan)) same ((compiled-alike flat phase).there plan h))
