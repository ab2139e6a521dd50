-- The slots that expressions name are those of variables that are seen.
use Rattle.std.proofs.Common.{◌≡◌, ℕ, Bool, true, false, not, cond, List, [], ◌∷◌, ◌++◌, Some, Ok, unwrap_or, option_map, refl, sym, ap, ◌∙◌, subst, append_assoc}
use Rattle.std.specs.List.{All, Contains, flat_map}
use Rattle.std.specs.Str.{bytes_eq}
use Rattle.std.proofs.lemmas.List.Elements.{All-nil, All-cons, All-append, All-head, All-tail, All-same, Contains-append_left, Contains-append_right, Contains-push}
use Rattle.sch_compiled.specs.Soundness.{AreSeen}
use Rattle.xp_typed_tree.specs.declared.value_type.ValueType.{ValueType}
use Rattle.xp_typed_tree.specs.declared.value_type.ValueType.TheVariants as values
use Rattle.xp_typed_tree.specs.TypedTree.{TypedTree, TypedPathTree}
use Rattle.xp_typed_tree.specs.Slots.{slots_in, slots_in_paths}
use Rattle.xp_typed_tree.specs.WellTyped.{type_of}
use Rattle.xp_types.specs.declared.env.Variable.{Variable}
use Rattle.xp_types.specs.Scope.{Named, Scope, variable_of}
use Rattle.xp_types.specs.SlotsInScope.{AreVariables}
use Rattle.xp_types.specs.Laws.{PatternSlotsAreInScope, SlotsAreInScope}
use Rattle.sch_plan.specs.Broken.{no_path, too_long}
use Rattle.sch_plan.specs.Expressions.{expression, is_node_set, is_too_long, match_pattern, path, pattern_spelled, pattern_typed_in, short_expression, short_pattern, spelled, typed_in}
use Rattle.sch_plan.specs.Lets.{Seen, pattern_scope, scope}
use Rattle.sch_phases.specs.Walk.{Unless, goes}
use Rattle.sch_plan.proofs.Inversions.{same-value, then-ok, unless-ok}

-- the slots of variables, with their types
abbrev pub places : List Named → List (ℕ × ValueType)
places [] = []
places (v ∷ vs) = (v.place, v.type) ∷ places vs

pub places-append : (vs ws : List Named) → places (vs ++ ws) ≡ places vs ++ places ws
places-append [] ws = refl
places-append (v ∷ vs) ws = ap (λ l. (v.place, v.type) ∷ l) (places-append vs ws)

contained : (w : Named) (ws : List Named) (name : List ℕ) (v : Variable) → (variable_of ws name ≡ Some v → Contains (places ws) (v.slot, v.ty)) →
    (b : Bool) → cond b (Some (record { slot = w.place; ty = w.type })) (variable_of ws name) ≡ Some v → Contains ((w.place, w.type) ∷ places ws) (v.slot, v.ty)
contained w ws name v rest true e =
    let slot : w.place ≡ v.slot = ap (λ o. unwrap_or (option_map (λ x. x.slot) o) 0) e in
    let type : w.type ≡ v.ty = ap (λ o. unwrap_or (option_map (λ x. x.ty) o) values.NodeSet) e in
    subst (Contains ((w.place, w.type) ∷ places ws)) (λ i. (slot i, type i)) (Contains-append_left ((w.place, w.type) ∷ []) (places ws) (w.place, w.type) (Contains-push [] (w.place, w.type)))
contained w ws name v rest false e = Contains-append_right ((w.place, w.type) ∷ []) (places ws) (v.slot, v.ty) (rest e)

variable-contained : (vs : List Named) (name : List ℕ) (v : Variable) → variable_of vs name ≡ Some v → Contains (places vs) (v.slot, v.ty)
variable-contained [] name v e = absurd (cc)
variable-contained (w ∷ ws) name v e = contained w ws name v (variable-contained ws name v) (bytes_eq name w.name) e

are-seen : (S : Scope) (slots : List (ℕ × ValueType)) → AreVariables S slots → AreSeen (places S.variables) slots
are-seen S [] h = All-nil (Contains (places S.variables))
are-seen S (s ∷ slots) h =
    All-cons (Contains (places S.variables)) s slots (variable-contained S.variables h.0.0 (record { slot = s.0; ty = s.1 }) h.0.1) (are-seen S slots h.1)

pub expression-seen : SlotsAreInScope → (seen : Seen) (node : ℕ) (text : List ℕ) (t : TypedTree) → expression (scope seen) node text (Ok t) → AreSeen (places seen.variables) (slots_in t)
expression-seen law seen node text t h =
    let short = unless-ok (is_too_long text) (too_long node) (short_expression (scope seen) node text) t h in
    let e = then-ok (spelled node text) (typed_in (scope seen) node) t short.1 in
    are-seen (scope seen) (slots_in t) (law (scope seen) e.0 t e.2)

pub pattern-seen : PatternSlotsAreInScope → (seen : Seen) (node : ℕ) (text : List ℕ) (ts : List TypedPathTree) → match_pattern (pattern_scope seen) node text (Ok ts) →
    AreSeen (places seen.variables) (slots_in_paths ts)
pattern-seen law seen node text ts h =
    let short = unless-ok (is_too_long text) (too_long node) (short_pattern (pattern_scope seen) node text) ts h in
    let e = then-ok (pattern_spelled node text) (pattern_typed_in (pattern_scope seen) node) ts short.1 in
    are-seen (pattern_scope seen) (slots_in_paths ts) (law (pattern_scope seen) e.0 ts e.2)

node-set : (v : ValueType) → not (is_node_set v) ≡ false → v ≡ values.NodeSet
node-set values.NodeSet e = refl
node-set values.Truth e = absurd (cc)
node-set values.Number e = absurd (cc)
node-set values.Chars e = absurd (cc)

abbrev pub IsPath : TypedTree → Type 0
IsPath t = type_of t ≡ values.NodeSet

pub path-seen : SlotsAreInScope → (seen : Seen) (node : ℕ) (text : List ℕ) (t : TypedTree) → path (scope seen) node text (Ok t) → AreSeen (places seen.variables) (slots_in t) × IsPath t
path-seen law seen node text t h =
    let u = then-ok (expression (scope seen) node text) (λ u. Unless (not (is_node_set (type_of u))) (no_path node) (goes u)) t h in
    let k = unless-ok (not (is_node_set (type_of u.0))) (no_path node) (goes u.0) t u.2 in
    let same : u.0 ≡ t = sym (same-value t u.0 k.1) in
    subst (λ v. AreSeen (places seen.variables) (slots_in v) × IsPath v) same (expression-seen law seen node text u.0 u.1, node-set (type_of u.0) k.0)

-- ---- lists of lists

pub flat_map-append : {X Y : Type 0} (f : X → List Y) (xs ys : List X) → flat_map f (xs ++ ys) ≡ flat_map f xs ++ flat_map f ys
flat_map-append f [] ys = refl
flat_map-append f (x ∷ xs) ys = ap (λ l. f x ++ l) (flat_map-append f xs ys) ∙ sym (append_assoc (f x) (flat_map f xs) (flat_map f ys))

pub all-flat : {Y Z : Type 0} (P : Z → Type 0) (g : Y → List Z) (ys : List Y) → All (λ y. All P (g y)) ys → All P (flat_map g ys)
all-flat P g [] h = All-nil P
all-flat P g (y ∷ ys) h =
    All-append P (g y) (flat_map g ys) (All-head (λ y. All P (g y)) y ys h) (all-flat P g ys (All-tail (λ y. All P (g y)) y ys h))

pub all-flat-twice : {X Y Z : Type 0} (P : Z → Type 0) (f : X → List Z) (g : Y → List X) (ys : List Y) → All (λ y. All P (flat_map f (g y))) ys → All P (flat_map f (flat_map g ys))
all-flat-twice P f g [] h = All-nil P
all-flat-twice P f g (y ∷ ys) h =
    All-same P (flat_map f (g y ++ flat_map g ys)) (flat_map f (g y) ++ flat_map f (flat_map g ys)) (flat_map-append f (g y) (flat_map g ys))
    (All-append P (flat_map f (g y)) (flat_map f (flat_map g ys)) (All-head (λ y. All P (flat_map f (g y))) y ys h)
    (all-flat-twice P f g ys (All-tail (λ y. All P (flat_map f (g y))) y ys h)))
