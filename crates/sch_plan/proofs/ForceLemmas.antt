-- The lets in force that are seen from the schema, and from a pattern.
use Rattle.std.proofs.Common.{◌≡◌, ℕ, ◌+◌, ◌<◌, ◌==◌, zero, suc, Bool, true, false, cond, List, [], ◌∷◌, ◌++◌, map, length, take, slice_get, Option, None, Some, refl, sym, ap, ◌∙◌, subst, append_assoc, append-nil, add-zero, zero-add, length-append, eq-eqb, arith}
use Rattle.std.proofs.lemmas.Bool.{eqb-true}
use Rattle.sch_compiled.specs.declared.parts.LetInForce.{LetInForce}
use Rattle.sch_compiled.specs.declared.parts.PlanLet.{PlanLet}
use Rattle.sch_compiled.specs.Soundness.{AreSeen, seen_from, seen_in, sees, slots_from}
use Rattle.xp_typed_tree.specs.declared.value_type.ValueType.{ValueType}
use Rattle.xp_typed_tree.specs.Slots.{slots_in}
use Rattle.xp_typed_tree.specs.WellTyped.{type_of}
use Rattle.sch_plan.specs.declared.walker.PatternParts.{PatternParts}
use Rattle.sch_plan.specs.Compiled.{in_force, pattern_lets}
use Rattle.sch_plan.proofs.LetLemmas.{LetsSeen}

pub seen_from-append : (slot : ℕ) (here : Option ℕ) (xs ys : List LetInForce) →
    seen_from slot here (xs ++ ys) ≡ seen_from slot here xs ++ seen_from (slot + length xs) here ys
seen_from-append slot here [] ys = ap (λ s. seen_from s here ys) (sym (add-zero slot))
seen_from-append slot here (t ∷ xs) ys =
    let one : List (ℕ × ValueType) = cond (sees here t.pattern) ((slot, type_of t.expr) ∷ []) [] in
    let same : suc slot + length xs ≡ slot + suc (length xs) = omega arith in
    ap (λ l. one ++ l) (seen_from-append (suc slot) here xs ys)
    ∙ sym (append_assoc one (seen_from (suc slot) here xs) (seen_from (suc slot + length xs) here ys))
    ∙ ap (λ s. (one ++ seen_from (suc slot) here xs) ++ seen_from s here ys) same

sees-global : (here : Option ℕ) → sees here None ≡ true
sees-global None = refl
sees-global (Some p) = refl

pub sees-own : (p : ℕ) → sees (Some p) (Some p) ≡ true
sees-own p = eq-eqb p p refl

-- lets of one owner, where they are seen and where they aren't
pub seen-lets : (here owner : Option ℕ) (slot : ℕ) (ts : List PlanLet) → sees here owner ≡ true → seen_from slot here (map (in_force owner) ts) ≡ slots_from slot ts
seen-lets here owner slot [] e = refl
seen-lets here owner slot (t ∷ ts) e = λ i. cond (e i) ((slot, type_of t.expr) ∷ []) [] ++ seen-lets here owner (suc slot) ts e i

pub unseen-lets : (here owner : Option ℕ) (slot : ℕ) (ts : List PlanLet) → sees here owner ≡ false → seen_from slot here (map (in_force owner) ts) ≡ []
unseen-lets here owner slot [] e = refl
unseen-lets here owner slot (t ∷ ts) e = λ i. cond (e i) ((slot, type_of t.expr) ∷ []) [] ++ unseen-lets here owner (suc slot) ts e i

pub seen-global : (here : Option ℕ) (slot : ℕ) (ts : List PlanLet) → seen_from slot here (map (in_force None) ts) ≡ slots_from slot ts
seen-global here slot ts = seen-lets here None slot ts (sees-global here)

sees-other : (p q : ℕ) → (p ≡ q → ⊥) → sees (Some p) (Some q) ≡ false
sees-other p q other = by (p == q) refl
  where
    by : (b : Bool) → (p == q) ≡ b → b ≡ false
    by true e = absurd (other (eqb-true p q e))
    by false e = refl

seen-other : (p q slot : ℕ) (ts : List PlanLet) → (p ≡ q → ⊥) → seen_from slot (Some p) (map (in_force (Some q)) ts) ≡ []
seen-other p q slot ts other = unseen-lets (Some p) (Some q) slot ts (sees-other p q other)

-- those of later patterns aren't seen
pub seen-later : (p q slot : ℕ) (ps : List PatternParts) → p < q → seen_from slot (Some p) (pattern_lets q ps) ≡ []
seen-later p q slot [] less = refl
seen-later p q slot (x ∷ ps) less =
    let own = map (in_force (Some q)) x.lets in
    let other : p ≡ q → ⊥ = λ e. omega (arith, e, less) in
    seen_from-append slot (Some p) own (pattern_lets (suc q) ps)
    ∙ (λ i. seen-other p q slot x.lets other i ++ seen-later p (suc q) (slot + length own) ps (omega arith) i)

-- what is seen behind more lets of one owner
pub seen-behind : (here owner : Option ℕ) (before : List LetInForce) (base : List (ℕ × ValueType)) (ts : List PlanLet) → sees here owner ≡ true → seen_in here before ≡ base →
    seen_in here (before ++ map (in_force owner) ts) ≡ base ++ slots_from (length before) ts
seen-behind here owner before base ts own e =
    seen_from-append 0 here before (map (in_force owner) ts)
    ∙ (λ i. e i ++ seen_from (zero-add (length before) i) here (map (in_force owner) ts))
    ∙ ap (λ l. base ++ l) (seen-lets here owner (length before) ts own)

pub seen-past : (p q : ℕ) (before : List LetInForce) (base : List (ℕ × ValueType)) (ts : List PlanLet) → (p ≡ q → ⊥) → seen_in (Some p) before ≡ base →
    seen_in (Some p) (before ++ map (in_force (Some q)) ts) ≡ base
seen-past p q before base ts other e =
    seen_from-append 0 (Some p) before (map (in_force (Some q)) ts)
    ∙ (λ i. e i ++ seen-other p q (0 + length before) ts other i)
    ∙ append-nil base

-- ---- each let sees those before it

abbrev pub SeesBehind : List LetInForce → LetInForce → Type 0
SeesBehind before t = AreSeen (seen_in t.pattern before) (slots_in t.expr)

abbrev pub EachBehind : List LetInForce → List LetInForce → Type 0
EachBehind before [] = Unit {0}
EachBehind before (t ∷ ts) = SeesBehind before t × EachBehind (before ++ t ∷ []) ts

pub behind-at : (before ts : List LetInForce) (l : ℕ) (t : LetInForce) → EachBehind before ts → slice_get ts l ≡ Some t → SeesBehind (before ++ take l ts) t
behind-at before [] l t h e = absurd (cc)
behind-at before (x ∷ ts) zero t h e =
    let same : x ≡ t = cc in
    subst (λ b. SeesBehind b t) (sym (append-nil before)) (subst (SeesBehind before) same h.0)
behind-at before (x ∷ ts) (suc l) t h e = subst (λ b. SeesBehind b t) (append_assoc before (x ∷ []) (take l ts)) (behind-at (before ++ x ∷ []) ts l t h.1 e)

pub behind-append : (before xs ys : List LetInForce) → EachBehind before xs → EachBehind (before ++ xs) ys → EachBehind before (xs ++ ys)
behind-append before [] ys h k = subst (λ b. EachBehind b ys) (append-nil before) k
behind-append before (x ∷ xs) ys h k =
    (h.0, behind-append (before ++ x ∷ []) xs ys h.1 (subst (λ b. EachBehind b ys) (sym (append_assoc before (x ∷ []) xs)) k))

pub lets-behind : (here : Option ℕ) (before : List LetInForce) (base : List (ℕ × ValueType)) (ts : List PlanLet) → sees here here ≡ true → seen_in here before ≡ base →
    LetsSeen base (length before) ts → EachBehind before (map (in_force here) ts)
lets-behind here before base [] own e h = tt
lets-behind here before base (t ∷ ts) own e h =
    let x : LetInForce = in_force here t in
    let longer : suc (length before) ≡ length (before ++ x ∷ []) = omega (arith, length-append before (x ∷ [])) in (
      subst (λ b. AreSeen b (slots_in t.expr)) (sym e) h.0,
      lets-behind here (before ++ x ∷ []) (base ++ (length before, type_of t.expr) ∷ []) ts own (seen-behind here here before base (t ∷ []) own e)
          (subst (λ n. LetsSeen (base ++ (length before, type_of t.expr) ∷ []) n ts) longer h.1),
    )
