-- What stands before in an order does not lead to what stands after.
use Rattle.std.proofs.Common.{◌≡◌, ℕ, ◌<◌, suc, zero, Bool, true, false, not, ◌&&◌, ◌||◌, List, [], ◌∷◌, ◌++◌, Option, None, Some, length, slice_get, take, refl, sym, ap, ◌∙◌, subst, true≢false, arith, append_assoc}
use Rattle.std.specs.List.{flat_map, list_all}
use Rattle.std.specs.Str.{bytes_eq}
use Rattle.sch_model.specs.declared.raw.RawRule.{RawRule}
use Rattle.sch_references.specs.Cycles.{leads_to}
use Rattle.sch_model.specs.Items.{extended_in}
use Rattle.sch_references.specs.Extends.{is_id, is_named}
use Rattle.sch_references.specs.Placed.{IsPlaceOf}
use Rattle.sch_references.specs.inner.Order.{Found, Sorted, StandsBefore, is_settled, is_sorted_among, settles}
use Rattle.sch_references.specs.inner.Ways.{Each, Own, follows, is_followed}
use Rattle.sch_references.proofs.LeadsLemmas.{closed-leads}
use Rattle.sch_references.proofs.NamedLemmas.{bytes-same, each-map, look-up, named-front, or-left, or-right, same-bytes}
use Rattle.sch_references.proofs.ReachLemmas.{each-both}
use Rattle.sch_references.proofs.SortLemmas.{settled-kept}

named-before : (rules : List RawRule) (i n : ℕ) (name : List ℕ) (rule : RawRule) → slice_get rules i ≡ Some rule → rule.id ≡ Some name → i < n → is_named (take n rules) name ≡ true
named-before [] i n name rule at id less = absurd (cc)
named-before (r ∷ rules) i zero name rule at id less = absurd (omega arith)
named-before (r ∷ rules) zero (suc n) name rule at id less =
    let same : r ≡ rule = (cc) in
    or-left (is_id name r.id) _ (ap (λ (x : RawRule). is_id name x.id) same ∙ ap (is_id name) id ∙ bytes-same name)
named-before (r ∷ rules) (suc i) (suc n) name rule at id less = or-right (is_id name r.id) _ (named-before rules i n name rule at id (omega (arith, less)))

get-some : {A : Type 0} (xs : List A) (i : ℕ) → i < length xs → (x : A) × (slice_get xs i ≡ Some x)
get-some [] i h = absurd (omega arith)
get-some (x ∷ xs) zero h = (x, refl)
get-some (x ∷ xs) (suc i) h = get-some xs i (omega (arith, h))

pub stands : (rules : List RawRule) (name id : List ℕ) (i j : ℕ) → IsPlaceOf rules name i → IsPlaceOf rules id j → is_named rules id ≡ true → i < j → StandsBefore rules name id
stands rules name id i j p q known less =
    let it = get-some rules i p.within in
    record { count = j; there = named-before rules i j name it.0 it.1 (p.id it.0 it.1) less; later = q.first; known = known }

each-taken : {A : Type 0} (P : A → Type 0) (n : ℕ) (xs : List A) → Each P xs → Each P (take n xs)
each-taken P zero xs each = tt
each-taken P (suc n) [] each = tt
each-taken P (suc n) (x ∷ xs) each = (each.0, each-taken P n xs each.1)

-- each rule of the front extends only rules of the front
front : (rules before order : List RawRule) (n : ℕ) → is_sorted_among rules before order ≡ true → Each (λ rule. settles rules (before ++ take n order) rule.items ≡ true) (take n order)
front rules before order zero h = tt
front rules before [] (suc n) h = tt
front rules before (r ∷ order) (suc n) h = by (settles rules before r.items) refl h (front rules (before ++ r ∷ []) order n)
  where
    by : (b : Bool) → settles rules before r.items ≡ b → (b && is_sorted_among rules (before ++ r ∷ []) order) ≡ true →
        (is_sorted_among rules (before ++ r ∷ []) order ≡ true → Each (λ rule. settles rules ((before ++ r ∷ []) ++ take n order) rule.items ≡ true) (take n order)) →
        Each (λ rule. settles rules (before ++ r ∷ take n order) rule.items ≡ true) (r ∷ take n order)
    by true e h more = (
      settled-kept rules before (before ++ r ∷ take n order) (λ m k. named-front before (r ∷ take n order) m k) (flat_map extended_in r.items) e,
      subst (λ (o : List RawRule). Each (λ rule. settles rules o rule.items ≡ true) (take n order)) (append_assoc before (r ∷ []) (take n order)) (more h),
    )
    by false e h more = absurd (cc)

-- where the id is not found, what is settled is followed
settled-followed : (rules found : List RawRule) (id : List ℕ) → is_named rules id ≡ true → is_named found id ≡ false → (names : List (List ℕ)) →
    list_all (is_settled rules found) names ≡ true → list_all (is_followed rules found id) names ≡ true
settled-followed rules found id known later [] h = refl
settled-followed rules found id known later (n ∷ names) h =
    by (bytes_eq n id) (is_named rules n) (is_named found n) refl refl refl h (settled-followed rules found id known later names)
  where
    by : (a b c : Bool) → bytes_eq n id ≡ a → is_named rules n ≡ b → is_named found n ≡ c → ((not b || c) && list_all (is_settled rules found) names) ≡ true →
        (list_all (is_settled rules found) names ≡ true → list_all (is_followed rules found id) names ≡ true) → ((not a && (not b || c)) && list_all (is_followed rules found id) names) ≡ true
    by true b true e f g h more = absurd (true≢false (sym g ∙ ap (is_named found) (same-bytes n id e) ∙ later))
    by true true false e f g h more = absurd (cc)
    by true false false e f g h more = absurd (true≢false (sym known ∙ sym (ap (is_named rules) (same-bytes n id e)) ∙ f))
    by false true true e f g h more = more h
    by false true false e f g h more = absurd (cc)
    by false false c e f g h more = more h

pub before-leads : (rules order : List RawRule) (name id : List ℕ) → Sorted rules order → StandsBefore order name id → leads_to rules name id ≡ false
before-leads rules order name id s b =
    let it = look-up (Own rules) order id b.known s.each in
    let same : id ≡ it.1.1.id = (let e : Some id ≡ Some it.1.1.id = sym it.1.0 ∙ it.1.1.is in cc) in
    let known : is_named rules id ≡ true = ap (is_named rules) same ∙ it.1.1.named in
    closed-leads rules (take b.count order) id
    (each-both (Own rules) (λ rule. follows rules (take b.count order) id rule.items ≡ true) (take b.count order) (each-taken (Own rules) b.count order s.each)
    (each-map (λ rule. settles rules (take b.count order) rule.items ≡ true) (λ rule. follows rules (take b.count order) id rule.items ≡ true)
    (λ rule k. settled-followed rules (take b.count order) id known b.later (flat_map extended_in rule.items) k) (take b.count order) (front rules [] order b.count s.sorted)))
    (length rules) name b.there (other (bytes_eq name id) refl)
  where
    other : (t : Bool) → bytes_eq name id ≡ t → t ≡ false
    other true e = absurd (true≢false (sym b.there ∙ ap (is_named (take b.count order)) (same-bytes name id e) ∙ b.later))
    other false e = refl

pub before-found : (rules : List RawRule) (found : Option (List RawRule)) (order : List RawRule) (name id : List ℕ) → Found rules found → found ≡ Some order → StandsBefore order name id → leads_to rules name id ≡ false
before-found rules None order name id f e b = absurd (cc)
before-found rules (Some o) order name id f e b = let same : o ≡ order = cc in before-leads rules order name id (subst (Sorted rules) same f.0) b
