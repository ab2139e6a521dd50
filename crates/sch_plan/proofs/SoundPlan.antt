-- A plan that comes of a walk is sound, where its counts fit.
use Rattle.std.proofs.Common.{◌≡◌, ℕ, ◌+◌, ◌<◌, ◌≤◌, zero, suc, List, [], ◌∷◌, ◌++◌, map, length, take, slice_get, Option, None, Some, IfSome, Ok, refl, sym, ap, ◌∙◌, subst, append_assoc, append-nil, length-append, zero-add, arith}
use Rattle.std.proofs.lemmas.List.{length-map}
use Rattle.std.specs.List.{All}
use Rattle.std.proofs.lemmas.List.Elements.{All-nil, All-cons, All-append, All-head, All-tail}
use Rattle.sch_compiled.specs.declared.parts.LetInForce.{LetInForce}
use Rattle.sch_compiled.specs.declared.parts.PlanLet.{PlanLet}
use Rattle.sch_compiled.specs.declared.parts.PlanRule.{PlanRule}
use Rattle.sch_compiled.specs.declared.plan.Plan.{Plan}
use Rattle.sch_compiled.specs.Soundness.{AreSeen, HasRule, IsCounted, IsOwned, IsSound, seen_in, slots_from}
use Rattle.sch_compiled.specs.Patterns.{rules_at}
use Rattle.sch_model.specs.declared.flat.FlatSchema.{FlatSchema}
use Rattle.sch_model.specs.declared.parts.LetDecl.{LetDecl}
use Rattle.sch_model.specs.declared.parts.Head.{Head}
use Rattle.sch_model.specs.declared.parts.Ns.{Ns}
use Rattle.xp_typed_tree.specs.declared.value_type.ValueType.{ValueType}
use Rattle.xp_typed_tree.specs.Slots.{slots_in}
use Rattle.xp_typed_tree.specs.WellTyped.{type_of}
use Rattle.xp_types.specs.Laws.{PatternSlotsAreInScope, SlotsAreInScope}
use Rattle.sch_phases.specs.declared.phases.Choice.{Choice}
use Rattle.sch_plan.specs.declared.walker.PatternParts.{PatternParts}
use Rattle.sch_plan.specs.Broken.{too_many_patterns}
use Rattle.sch_plan.specs.Compiled.{are_too_many, compiled, global_lets, in_force, let_count, pattern_lets, plan_of, plan_pattern, walk}
use Rattle.sch_plan.specs.Lets.{Seen, all_lets, nothing_before}
use Rattle.sch_phases.specs.Phases.{chosen}
use Rattle.sch_plan.specs.Rules.{Notes, all_patterns, notes_of}
use Rattle.sch_phases.specs.Walk.{Then, Unless, goes}
use Rattle.sch_plan.proofs.Inversions.{same-value, then-ok, unless-ok}
use Rattle.sch_plan.proofs.LetLemmas.{AfterLets, LetsSeen, after-lets}
use Rattle.sch_plan.proofs.RuleSlots.{RuleSeen}
use Rattle.sch_plan.proofs.PatternSlots.{PatternsSeen, all-patterns, lets-counted, lets_of_parts}
use Rattle.sch_plan.proofs.SlotLemmas.{places}
use Rattle.sch_plan.proofs.ForceLemmas.{EachBehind, behind-append, behind-at, lets-behind, seen-behind, seen-global, seen-later, seen-past, seen_from-append, sees-own}

-- ---- lists

all-get : {X : Type 0} (P : X → Type 0) (xs : List X) (k : ℕ) (x : X) → All P xs → slice_get xs k ≡ Some x → P x
all-get P [] k x h e = absurd (cc)
all-get P (y ∷ ys) zero x h e = let same : y ≡ x = cc in subst P same (All-head P y ys h)
all-get P (y ∷ ys) (suc k) x h e = all-get P ys k x (All-tail P y ys h) e

slots_from-append : (slot : ℕ) (xs ys : List PlanLet) → slots_from slot (xs ++ ys) ≡ slots_from slot xs ++ slots_from (slot + length xs) ys
slots_from-append slot [] ys = let same : slot ≡ slot + 0 = omega arith in ap (λ s. slots_from s ys) same
slots_from-append slot (t ∷ xs) ys =
    let same : suc slot + length xs ≡ slot + suc (length xs) = omega arith in
    ap (λ l. (slot, type_of t.expr) ∷ l) (slots_from-append (suc slot) xs ys ∙ ap (λ s. slots_from (suc slot) xs ++ slots_from s ys) same)

lets-append : (base : List (ℕ × ValueType)) (slot : ℕ) (xs ys : List PlanLet) → LetsSeen base slot xs → LetsSeen (base ++ slots_from slot xs) (slot + length xs) ys →
    LetsSeen base slot (xs ++ ys)
lets-append base slot [] ys h k =
    let same : slot + 0 ≡ slot = omega arith in
    subst (λ b. LetsSeen b slot ys) (append-nil base) (subst (λ s. LetsSeen (base ++ []) s ys) same k)
lets-append base slot (t ∷ xs) ys h k =
    let same : slot + suc (length xs) ≡ suc slot + length xs = omega arith in (
      h.0,
      lets-append (base ++ (slot, type_of t.expr) ∷ []) (suc slot) xs ys h.1
          (subst (λ b. LetsSeen b (suc slot + length xs) ys) (sym (append_assoc base ((slot, type_of t.expr) ∷ []) (slots_from (suc slot) xs))) (subst (λ s. LetsSeen (base ++ (slot, type_of t.expr) ∷ slots_from (suc slot) xs) s ys) same k)),
    )

lets-at : (base : List (ℕ × ValueType)) (slot : ℕ) (ts : List PlanLet) (k : ℕ) (t : PlanLet) → LetsSeen base slot ts → slice_get ts k ≡ Some t →
    AreSeen (base ++ slots_from slot (take k ts)) (slots_in t.expr)
lets-at base slot [] k t h e = absurd (cc)
lets-at base slot (x ∷ ts) zero t h e =
    let same : x ≡ t = cc in
    subst (λ b. AreSeen b (slots_in t.expr)) (sym (append-nil base)) (subst (λ y. AreSeen base (slots_in y.expr)) same h.0)
lets-at base slot (x ∷ ts) (suc k) t h e =
    subst (λ b. AreSeen b (slots_in t.expr)) (append_assoc base ((slot, type_of x.expr) ∷ []) (slots_from (suc slot) (take k ts))) (lets-at (base ++ (slot, type_of x.expr) ∷ []) (suc slot) ts k t h.1 e)

-- ---- patterns

abbrev SeenFrom : ℕ → List LetInForce → List (ℕ × ValueType) → Type 0
SeenFrom place before base = (q : ℕ) → place ≤ q → seen_in (Some q) before ≡ base

from-next : (place : ℕ) (before : List LetInForce) (base : List (ℕ × ValueType)) (ts : List PlanLet) → SeenFrom place before base →
    SeenFrom (suc place) (before ++ map (in_force (Some place)) ts) base
from-next place before base ts seen q least = seen-past q place before base ts (λ e. omega (arith, e, least)) (seen q (omega arith))

more-before : (place : ℕ) (before : List LetInForce) (ts : List PlanLet) → length before + length ts ≡ length (before ++ map (in_force (Some place)) ts)
more-before place before ts = omega (arith, length-append before (map (in_force (Some place)) ts), length-map ts (in_force (Some place)))

patterns-behind : (place : ℕ) (before : List LetInForce) (base : List (ℕ × ValueType)) (count : ℕ) (ps : List PatternParts) → SeenFrom place before base →
    PatternsSeen base count (length before) ps → EachBehind before (pattern_lets place ps)
patterns-behind place before base count [] seen h = tt
patterns-behind place before base count (p ∷ ps) seen h =
    let own = map (in_force (Some place)) p.lets in
    behind-append before own (pattern_lets (suc place) ps) (lets-behind (Some place) before base p.lets (sees-own place) (seen place (omega arith)) h.0.lets)
    (patterns-behind (suc place) (before ++ own) base count ps (from-next place before base p.lets seen) (subst (λ n. PatternsSeen base count n ps) (more-before place before p.lets) h.1))

-- what a pattern's rules see of all lets in force
pattern-sees : (place : ℕ) (before : List LetInForce) (base : List (ℕ × ValueType)) (p : PatternParts) (ps : List PatternParts) → SeenFrom place before base →
    base ++ slots_from (length before) p.lets ≡ seen_in (Some place) (before ++ pattern_lets place (p ∷ ps))
pattern-sees place before base p ps seen =
    let own = map (in_force (Some place)) p.lets in
    sym (ap (λ l. seen_in (Some place) l) (sym (append_assoc before own (pattern_lets (suc place) ps)))
    ∙ seen_from-append 0 (Some place) (before ++ own) (pattern_lets (suc place) ps)
    ∙ (λ i. seen-behind (Some place) (Some place) before base p.lets (sees-own place) (seen place (omega arith)) i ++ seen-later place (suc place) (0 + length (before ++ own)) ps (omega arith) i)
    ∙ append-nil _)

rules-at : (place : ℕ) (before : List LetInForce) (base : List (ℕ × ValueType)) (count : ℕ) (ps : List PatternParts) (k : ℕ) (parts : PatternParts) → SeenFrom place before base →
    PatternsSeen base count (length before) ps → slice_get ps k ≡ Some parts → All (RuleSeen (seen_in (Some (place + k)) (before ++ pattern_lets place ps)) count) parts.rules
rules-at place before base count [] k parts seen h e = absurd (cc)
rules-at place before base count (p ∷ ps) zero parts seen h e =
    let same : p ≡ parts = cc in
    let here : place ≡ place + 0 = omega arith in
    subst (λ q. All (RuleSeen (seen_in (Some q) (before ++ pattern_lets place (p ∷ ps))) count) parts.rules) here
    (subst (λ x. All (RuleSeen (seen_in (Some place) (before ++ pattern_lets place (p ∷ ps))) count) x.rules) same
    (subst (λ b. All (RuleSeen b count) p.rules) (pattern-sees place before base p ps seen) h.0.rules))
rules-at place before base count (p ∷ ps) (suc k) parts seen h e =
    let own = map (in_force (Some place)) p.lets in
    let here : suc place + k ≡ place + suc k = omega arith in
    subst (λ q. All (RuleSeen (seen_in (Some q) (before ++ pattern_lets place (p ∷ ps))) count) parts.rules) here
    (subst (λ l. All (RuleSeen (seen_in (Some (suc place + k)) l) count) parts.rules) (append_assoc before own (pattern_lets (suc place) ps))
    (rules-at (suc place) (before ++ own) base count ps k parts (from-next place before base p.lets seen) (subst (λ n. PatternsSeen base count n ps) (more-before place before p.lets) h.1) e))

-- a rule of the plan is one of a pattern
has-rule : (ps : List PatternParts) (p r : ℕ) (rule : PlanRule) → slice_get (rules_at (map plan_pattern ps) p) r ≡ Some rule →
    (parts : PatternParts) × (slice_get ps p ≡ Some parts) × (slice_get parts.rules r ≡ Some rule)
has-rule [] p r rule e = absurd (cc)
has-rule (x ∷ ps) zero r rule e = (x, refl, e)
has-rule (x ∷ ps) (suc p) r rule e = has-rule ps p r rule e

-- ---- owners and counts

abbrev Owned : ℕ → LetInForce → Type 0
Owned n t = IfSome t.pattern (λ pattern. pattern < n)

globals-owned : (n : ℕ) (ts : List PlanLet) → All (Owned n) (map (in_force None) ts)
globals-owned n [] = All-nil (Owned n)
globals-owned n (t ∷ ts) = All-cons (Owned n) (in_force None t) (map (in_force None) ts) tt (globals-owned n ts)

own-owned : (n place : ℕ) (ts : List PlanLet) → place < n → All (Owned n) (map (in_force (Some place)) ts)
own-owned n place [] less = All-nil (Owned n)
own-owned n place (t ∷ ts) less = All-cons (Owned n) (in_force (Some place) t) (map (in_force (Some place)) ts) less (own-owned n place ts less)

patterns-owned : (n place : ℕ) (ps : List PatternParts) → place + length ps ≤ n → All (Owned n) (pattern_lets place ps)
patterns-owned n place [] few = All-nil (Owned n)
patterns-owned n place (p ∷ ps) few =
    All-append (Owned n) (map (in_force (Some place)) p.lets) (pattern_lets (suc place) ps) (own-owned n place p.lets (omega arith)) (patterns-owned n (suc place) ps (omega arith))

length-pattern_lets : (place : ℕ) (ps : List PatternParts) → length (pattern_lets place ps) ≡ lets_of_parts ps
length-pattern_lets place [] = refl
length-pattern_lets place (p ∷ ps) =
    length-append (map (in_force (Some place)) p.lets) (pattern_lets (suc place) ps)
    ∙ (λ i. length-map p.lets (in_force (Some place)) i + length-pattern_lets (suc place) ps i)

-- ---- the plan

-- what is known of a plan's lets and patterns
pub record Walked (own its : List PlanLet) (ps : List PatternParts) (count : ℕ) : Type 0 where
  pub globals : LetsSeen [] 0 (own ++ its)
  pub patterns : PatternsSeen (slots_from 0 (own ++ its)) count (length (own ++ its)) ps
  pub counts : count ≡ length (own ++ its) + lets_of_parts ps

module _ (head : Head) (ns : List Ns) (phase : Option (List ℕ)) (own its : List PlanLet) (ps : List PatternParts) (count : ℕ) (w : Walked own its ps count) where
  abbrev globals : List LetInForce
  globals = map (in_force None) (own ++ its)

  abbrev base : List (ℕ × ValueType)
  base = slots_from 0 (own ++ its)

  abbrev the_plan : Plan
  the_plan = plan_of head ns phase globals ps

  from-all : SeenFrom 0 globals base
  from-all q least = seen-global (Some q) 0 (own ++ its)

  the-patterns : PatternsSeen base count (length globals) ps
  the-patterns = subst (λ n. PatternsSeen base count n ps) (sym (length-map (own ++ its) (in_force None))) w.patterns

  all-behind : EachBehind [] (globals ++ pattern_lets 0 ps)
  all-behind = behind-append [] globals (pattern_lets 0 ps) (lets-behind None [] [] (own ++ its) refl refl w.globals) (patterns-behind 0 globals base count ps from-all the-patterns)

  total : count ≡ length (globals ++ pattern_lets 0 ps)
  total = w.counts ∙ sym (length-append globals (pattern_lets 0 ps) ∙ (λ i. length-map (own ++ its) (in_force None) i + length-pattern_lets 0 ps i))

  rule-at : (p r : ℕ) (rule : PlanRule) → HasRule the_plan p r rule → RuleSeen (seen_in (Some p) the_plan.lets) (length the_plan.lets) rule
  rule-at p r rule e =
      let x = has-rule ps p r rule e in
      subst (λ c. RuleSeen (seen_in (Some p) the_plan.lets) c rule) total
      (all-get (RuleSeen (seen_in (Some p) the_plan.lets) count) x.0.rules r rule
      (subst (λ q. All (RuleSeen (seen_in (Some q) the_plan.lets) count) x.0.rules) (zero-add p) (rules-at 0 globals base count ps p x.0 from-all the-patterns x.1)) x.2)

  sound-from : IsCounted the_plan → IsSound the_plan
  sound-from counted = record {
    counted = counted;
    patterns = All-append (IsOwned the_plan) globals (pattern_lets 0 ps) (globals-owned (length the_plan.patterns) (own ++ its)) (patterns-owned (length the_plan.patterns) 0 ps (omega (arith, length-map ps plan_pattern)));
    let_slots = λ l t e. behind-at [] the_plan.lets l t all-behind e;
    context_slots = λ p r rule e. (rule-at p r rule e).context;
    rule_let_slots = λ p r k rule t e f. lets-at (seen_in (Some p) the_plan.lets) (length the_plan.lets) rule.lets k t (rule-at p r rule e).lets f;
    assertion_slots = λ p r rule e. (rule-at p r rule e).assertions;
    subject_slots = λ p r rule e. (rule-at p r rule e).subject;
    subjects = λ p r rule e. (rule-at p r rule e).subjects;
    paths = λ p r rule e. (rule-at p r rule e).paths;
  }

-- what comes of a walk
module _ (law : SlotsAreInScope) (patterns : PatternSlotsAreInScope) where
  walked : (ns : List Ns) (lets : List LetDecl) (notes : Notes) (choice : Choice) (first second : Seen) (own its : List PlanLet) (now : Seen) (ps : List PatternParts) →
      all_lets (nothing_before ns) lets (Ok (first, own)) → all_lets first choice.lets (Ok (second, its)) → all_patterns notes (let_count lets choice) second choice.patterns (Ok (now, ps)) →
      Walked own its ps (let_count lets choice)
  walked ns lets notes choice first second own its now ps h k j =
      let a : AfterLets (nothing_before ns) lets first own = after-lets law (nothing_before ns) lets first own h in
      let b : AfterLets first choice.lets second its = after-lets law first choice.lets second its k in
      let slots : places second.variables ≡ slots_from 0 (own ++ its) = b.slots ∙ (λ i. a.slots i ++ slots_from (a.next i) its) ∙ sym (slots_from-append 0 own its) in
      let next : second.next ≡ length (own ++ its) = omega (arith, a.next, b.next, length-append own its) in
      record {
        globals = lets-append [] 0 own its a.lets (subst (λ (p : List (ℕ × ValueType) × ℕ). LetsSeen p.0 p.1 its) (λ i. (a.slots i, a.next i)) b.lets);
        patterns = subst (λ (p : List (ℕ × ValueType) × ℕ). PatternsSeen p.0 (let_count lets choice) p.1 ps) (λ i. (slots i, next i)) (all-patterns law patterns notes (let_count lets choice) second choice.patterns now ps j);
        counts = omega (arith, a.many, b.many, length-append own its, lets-counted law patterns notes (let_count lets choice) second choice.patterns now ps j);
      }

  walk-sound : (head : Head) (ns : List Ns) (lets : List LetDecl) (notes : Notes) (choice : Choice) (plan : Plan) → walk head ns lets notes choice (Ok plan) → IsCounted plan → IsSound plan
  walk-sound head ns lets notes choice plan h =
      let count = let_count lets choice in
      let g = then-ok (global_lets (nothing_before ns) lets choice.lets) (λ globals. Then (all_patterns notes count globals.0 choice.patterns) (λ ps. goes (plan_of head ns choice.phase globals.1 ps.1))) plan h in
      let ps = then-ok (all_patterns notes count g.0.0 choice.patterns) (λ ps. goes (plan_of head ns choice.phase g.0.1 ps.1)) plan g.2 in
      let own = then-ok (all_lets (nothing_before ns) lets) (λ own. Then (all_lets own.0 choice.lets) (λ its. goes (its.0, map (in_force None) (own.1 ++ its.1)))) g.0 g.1 in
      let its = then-ok (all_lets own.0.0 choice.lets) (λ its. goes (its.0, map (in_force None) (own.0.1 ++ its.1))) g.0 own.2 in
      let same = same-value g.0 (its.0.0, map (in_force None) (own.0.1 ++ its.0.1)) its.2 in
      let w = walked ns lets notes choice own.0.0 its.0.0 own.0.1 its.0.1 ps.0.0 ps.0.1 own.1 its.1 (subst (λ x. all_patterns notes count x.0 choice.patterns (Ok ps.0)) same ps.1) in
      let is : plan ≡ plan_of head ns choice.phase (map (in_force None) (own.0.1 ++ its.0.1)) ps.0.1 = same-value plan _ ps.2 ∙ ap (λ x. plan_of head ns choice.phase x.1 ps.0.1) same in
      subst (λ p. IsCounted p → IsSound p) (sym is) (sound-from head ns choice.phase own.0.1 its.0.1 ps.0.1 count w)

  pub compiled-sound : (schema : FlatSchema) (phase : List ℕ) (plan : Plan) → compiled schema phase (Ok plan) → IsCounted plan → IsSound plan
  compiled-sound schema phase plan h =
      let go : Choice → _ = λ choice. walk schema.head schema.ns schema.lets (notes_of schema.diagnostics schema.properties) choice in
      let c = then-ok (chosen schema.head schema.phases schema.patterns phase) (λ choice. Unless (are_too_many choice.patterns) (too_many_patterns schema.head.node) (go choice)) plan h in
      let w = unless-ok (are_too_many c.0.patterns) (too_many_patterns schema.head.node) (go c.0) plan c.2 in
      walk-sound schema.head schema.ns schema.lets (notes_of schema.diagnostics schema.properties) c.0 plan w.1
