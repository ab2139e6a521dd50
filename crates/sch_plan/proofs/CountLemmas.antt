-- Facts of each item of a list, by its place.
use Rattle.std.specs.Option.{option_map_or}
use Rattle.std.proofs.Common.{◌≡◌, ℕ, ◌+◌, ◌<◌, ◌≤◌, zero, suc, List, [], ◌∷◌, length, get_or, Option, None, Some, slice_get, refl, sym, ap, ◌∙◌, subst, below_more, arith, ◌^◌, Bool, true, false, nat_lt}
use Rattle.std.proofs.lemmas.Bool.{ltb-false, ltb-true}
use Rattle.sch_base.specs.declared.limits.TheConstants.{MAX_ACTIVE_PATTERNS}
use Rattle.sch_compiled.specs.declared.parts.PlanPattern.{PlanPattern}
use Rattle.sch_compiled.specs.declared.parts.PlanRule.{PlanRule}
use Rattle.sch_compiled.specs.declared.plan.Plan.{Plan}
use Rattle.sch_compiled.specs.Soundness.{IsCounted}
use Rattle.sch_compiled.specs.Patterns.{rules_at}
use Rattle.sch_model.specs.declared.flat.FlatPattern.{FlatPattern}
use Rattle.sch_plan.specs.Compiled.{are_too_many}
use Rattle.sch_plan.specs.inner.Counts.{ArePatternsCounted, IsPatternCounted, IsRuleCounted}

get-at : {X : Type 0} (xs : List X) (i : ℕ) (x : X) → i < length xs → x ≡ get_or xs i x → slice_get xs i ≡ Some x
get-at [] i x less is = absurd (omega arith)
get-at (y ∷ ys) zero x less is = ap Some (sym is)
get-at (y ∷ ys) (suc i) x less is = get-at ys i x (omega arith) is

pub get-less : {X : Type 0} (xs : List X) (i : ℕ) (x : X) → slice_get xs i ≡ Some x → i < length xs
get-less [] i x e = absurd (cc)
get-less (y ∷ ys) zero x e = omega arith
get-less (y ∷ ys) (suc i) x e = let less : i < length ys = get-less ys i x e in omega arith

-- one more
pub one-more : {X : Type 0} (P : X → Type 0) (xs : List X) (i : ℕ) (x : X) → i < length xs → x ≡ get_or xs i x →
    ((k : ℕ) → k < i → (y : X) → slice_get xs k ≡ Some y → P y) → P x → (k : ℕ) → k < i + 1 → (y : X) → slice_get xs k ≡ Some y → P y
one-more P xs i x less is so_far here =
    below_more (λ k. (y : _) → slice_get xs k ≡ Some y → P y) i so_far
    (λ y e. let same : Some x ≡ Some y = sym (get-at xs i x less is) ∙ e in let equal : x ≡ y = cc in subst P equal here)

pub too-many : (ps : List FlatPattern) (n : ℕ) → n ≡ length ps → MAX_ACTIVE_PATTERNS < n → are_too_many ps ≡ true
too-many ps n is more = by (nat_lt MAX_ACTIVE_PATTERNS (length ps)) refl
  where
    by : (b : Bool) → nat_lt MAX_ACTIVE_PATTERNS (length ps) ≡ b → b ≡ true
    by true e = refl
    by false e = let few : length ps ≤ MAX_ACTIVE_PATTERNS = ltb-false MAX_ACTIVE_PATTERNS (length ps) e in absurd (omega (arith, few, is, more))

pub not-too-many : (ps : List FlatPattern) (n : ℕ) → n ≡ length ps → n ≤ MAX_ACTIVE_PATTERNS → are_too_many ps ≡ false
not-too-many ps n is few = by (nat_lt MAX_ACTIVE_PATTERNS (length ps)) refl
  where
    by : (b : Bool) → nat_lt MAX_ACTIVE_PATTERNS (length ps) ≡ b → b ≡ false
    by false e = refl
    by true e = let more : MAX_ACTIVE_PATTERNS < length ps = ltb-true MAX_ACTIVE_PATTERNS (length ps) e in absurd (omega (arith, few, is, more))

few-at : (lets : ℕ) (ps : List PlanPattern) (p : ℕ) → ArePatternsCounted lets ps → length (rules_at ps p) < 2 ^ 32
few-at lets ps p h = by (slice_get ps p) refl
  where
    by : (o : Option PlanPattern) → slice_get ps p ≡ o → length (option_map_or (λ pattern. pattern.rules) o []) < 2 ^ 32
    by None e = omega arith
    by (Some x) e = (h.each p x e).few

rule-at : (lets : ℕ) (ps : List PlanPattern) (p r : ℕ) (rule : PlanRule) → ArePatternsCounted lets ps → slice_get (rules_at ps p) r ≡ Some rule → IsRuleCounted lets rule
rule-at lets ps p r rule h = by (slice_get ps p) refl
  where
    by : (o : Option PlanPattern) → slice_get ps p ≡ o → slice_get (option_map_or (λ pattern. pattern.rules) o []) r ≡ Some rule → IsRuleCounted lets rule
    by None e k = absurd (cc)
    by (Some x) e k = (h.each p x e).rules r rule k

pub counted-from : (plan : Plan) (lets : ℕ) → lets ≡ length plan.lets → lets < 2 ^ 32 → length plan.namespaces < 2 ^ 32 → ArePatternsCounted lets plan.patterns → IsCounted plan
counted-from plan lets is few prefixes h = record {
  prefixes_few = prefixes;
  lets_few = subst (λ n. n < 2 ^ 32) is few;
  patterns_few = h.few;
  rules_few = λ p. few-at lets plan.patterns p h;
  asserts_few = λ p r rule e. (rule-at lets plan.patterns p r rule h e).assertions;
  slots_few = λ p r rule e. subst (λ n. n + length rule.lets < 2 ^ 32) is (rule-at lets plan.patterns p r rule h e).slots;
}

pub pattern-counted : (lets : ℕ) (pattern : PlanPattern) (rules : List PlanRule) (i : ℕ) → rules ≡ pattern.rules → length rules < 2 ^ 32 → length rules ≤ i →
    ((r : ℕ) → r < i → (rule : PlanRule) → slice_get rules r ≡ Some rule → IsRuleCounted lets rule) → IsPatternCounted lets pattern
pattern-counted lets pattern rules i is few least all = record {
  few = subst (λ l. length l < 2 ^ 32) is few;
  rules = λ r rule e.
      let there : slice_get rules r ≡ Some rule = ap (λ l. slice_get l r) is ∙ e in
      let less : r < length rules = get-less rules r rule there in
      all r (omega (arith, less, least)) rule there;
}

pub patterns-counted : (lets : ℕ) (patterns : List PlanPattern) (i : ℕ) → length patterns < 2 ^ 32 → length patterns ≤ i →
    ((p : ℕ) → p < i → (pattern : PlanPattern) → slice_get patterns p ≡ Some pattern → IsPatternCounted lets pattern) → ArePatternsCounted lets patterns
patterns-counted lets patterns i few least all = record {
  few = few;
  each = λ p pattern e.
      let less : p < length patterns = get-less patterns p pattern e in
      all p (omega (arith, less, least)) pattern e;
}
