-- Amounts, their sums, and their caps.
use Rattle.std.proofs.Common.{arith, ◌≡◌, ℕ, ◌+◌, ◌-◌, ◌^◌, ◌<◌, Bool, true, false, cond, not, List, [], ◌∷◌, ◌++◌, filter, map, min, take, length, slice_index_or, refl, sym, ap, ap₂, ◌∙◌}
use Rattle.sch_base.proofs.Lists.{take-next}
use Rattle.sch_flat.specs.FlatSize.{capped}
use Rattle.sch_sizes.specs.declared.amount.Amount.{Amount}
use Rattle.pyx_core.specs.declared.event.Event.{Event}
use Rattle.sch_flat.specs.declared.size.FlatSize.{FlatSize}
use Rattle.sch_flat.specs.FlatSize.{size_of}
use Rattle.sch_sizes.specs.inner.Amounts.{cap, many, nothing, of_events, plus, sized_amount, sum_all}

abbrev build : ℕ → ℕ → ℕ → ℕ → ℕ → Amount
build r a l b n = record { rule_count = r; assertion_count = a; let_count = l; byte_count = b; node_count = n }

-- amounts are equal if their counts are
pub same : (x y : Amount) → x.rule_count ≡ y.rule_count → x.assertion_count ≡ y.assertion_count → x.let_count ≡ y.let_count →
    x.byte_count ≡ y.byte_count → x.node_count ≡ y.node_count → x ≡ y
same x y r a l b n =
    ap (λ k. build k x.assertion_count x.let_count x.byte_count x.node_count) r
    ∙ ap (λ k. build y.rule_count k x.let_count x.byte_count x.node_count) a
    ∙ ap (λ k. build y.rule_count y.assertion_count k x.byte_count x.node_count) l
    ∙ ap (λ k. build y.rule_count y.assertion_count y.let_count k x.node_count) b
    ∙ ap (build y.rule_count y.assertion_count y.let_count y.byte_count) n

min_twice : (x m : ℕ) → min (min x m) m ≡ min x m
min_twice x m = omega arith

min_left : (x y m : ℕ) → min (min x m + y) m ≡ min (x + y) m
min_left x y m = omega arith

min_both : (x y m : ℕ) → min (min x m + min y m) m ≡ min (x + y) m
min_both x y m = omega arith

pub one_cap : (x : ℕ) → capped (capped x) ≡ capped x
one_cap x = min_twice x (2 ^ 64 - 1)

left_cap : (x y : ℕ) → capped (capped x + y) ≡ capped (x + y)
left_cap x y = min_left x y (2 ^ 64 - 1)

both_caps : (x y : ℕ) → capped (capped x + capped y) ≡ capped (x + y)
both_caps x y = min_both x y (2 ^ 64 - 1)

pub plus-nothing : (x : Amount) → plus x nothing ≡ x
unfolding plus nothing
plus-nothing x = same (plus x nothing) x (omega arith) (omega arith) (omega arith) (omega arith) (omega arith)

pub nothing-plus : (x : Amount) → plus nothing x ≡ x
unfolding plus nothing
nothing-plus x = same (plus nothing x) x (omega arith) (omega arith) (omega arith) (omega arith) (omega arith)

pub plus_assoc : (x y z : Amount) → plus (plus x y) z ≡ plus x (plus y z)
unfolding plus
plus_assoc x y z = same (plus (plus x y) z) (plus x (plus y z)) (omega arith) (omega arith) (omega arith) (omega arith) (omega arith)

pub plus_comm : (x y : Amount) → plus x y ≡ plus y x
unfolding plus
plus_comm x y = same (plus x y) (plus y x) (omega arith) (omega arith) (omega arith) (omega arith) (omega arith)

-- the first of three goes past the second
pub plus_past : (x y z : Amount) → plus x (plus y z) ≡ plus y (plus x z)
plus_past x y z = sym (plus_assoc x y z) ∙ ap (λ w. plus w z) (plus_comm x y) ∙ plus_assoc y x z

pub cap-nothing : cap nothing ≡ nothing
unfolding cap nothing
cap-nothing = same (cap nothing) nothing (omega arith) (omega arith) (omega arith) (omega arith) (omega arith)

pub cap-cap : (x : Amount) → cap (cap x) ≡ cap x
unfolding cap
cap-cap x = same (cap (cap x)) (cap x) (one_cap _) (one_cap _) (one_cap _) (one_cap _) (one_cap _)

pub cap-left : (x y : Amount) → cap (plus (cap x) y) ≡ cap (plus x y)
unfolding cap plus
cap-left x y = same (cap (plus (cap x) y)) (cap (plus x y))
    (left_cap x.rule_count y.rule_count) (left_cap x.assertion_count y.assertion_count) (left_cap x.let_count y.let_count)
    (left_cap x.byte_count y.byte_count) (left_cap x.node_count y.node_count)

pub cap-both : (x y : Amount) → cap (plus (cap x) (cap y)) ≡ cap (plus x y)
unfolding cap plus
cap-both x y = same (cap (plus (cap x) (cap y))) (cap (plus x y))
    (both_caps x.rule_count y.rule_count) (both_caps x.assertion_count y.assertion_count) (both_caps x.let_count y.let_count)
    (both_caps x.byte_count y.byte_count) (both_caps x.node_count y.node_count)

-- under a cap only what stands under the caps of the parts counts
pub cap_parts : (x y z w : Amount) → cap x ≡ cap z → cap y ≡ cap w → cap (plus x y) ≡ cap (plus z w)
cap_parts x y z w h k = sym (cap-both x y) ∙ ap₂ (λ a b. cap (plus a b)) h k ∙ cap-both z w

-- sums
pub sum-append : {A : Type 0} (f : A → Amount) (xs ys : List A) → sum_all f (xs ++ ys) ≡ plus (sum_all f xs) (sum_all f ys)
sum-append f [] ys = sym (nothing-plus (sum_all f ys))
sum-append f (x ∷ xs) ys = ap (plus (f x)) (sum-append f xs ys) ∙ sym (plus_assoc (f x) (sum_all f xs) (sum_all f ys))

pub sum_next : {A : Type 0} (f : A → Amount) (xs : List A) (i : ℕ) (x : A) (sum : Amount) → x ≡ slice_index_or xs i x → i < length xs →
    sum ≡ cap (sum_all f (take i xs)) → cap (plus sum (f x)) ≡ cap (sum_all f (take (i + 1) xs))
sum_next f xs i x sum is less so_far =
    ap (λ s. cap (plus s (f x))) so_far
    ∙ cap-left (sum_all f (take i xs)) (f x)
    ∙ ap cap (ap (plus (sum_all f (take i xs))) (sym (plus-nothing (f x)))
    ∙ sym (sum-append f (take i xs) (x ∷ []))
    ∙ ap (sum_all f) (sym (take-next xs i x is less)))

pub sum_same : {A : Type 0} (f g : A → Amount) (xs : List A) → ((x : A) → f x ≡ g x) → sum_all f xs ≡ sum_all g xs
sum_same f g [] h = refl
sum_same f g (x ∷ xs) h = ap₂ plus (h x) (sum_same f g xs h)

pub sum_same_cap : {A : Type 0} (f g : A → Amount) (xs : List A) → ((x : A) → cap (f x) ≡ cap (g x)) → cap (sum_all f xs) ≡ cap (sum_all g xs)
sum_same_cap f g [] h = refl
sum_same_cap f g (x ∷ xs) h = cap_parts (f x) (sum_all f xs) (g x) (sum_all g xs) (h x) (sum_same_cap f g xs h)

pub sum-map : {A B : Type 0} (f : B → Amount) (g : A → B) (xs : List A) → sum_all f (map g xs) ≡ sum_all (λ x. f (g x)) xs
sum-map f g [] = refl
sum-map f g (x ∷ xs) = ap (plus (f (g x))) (sum-map f g xs)

pub sum-filter : {A : Type 0} (f : A → Amount) (p : A → Bool) (xs : List A) → sum_all f (filter p xs) ≡ sum_all (λ x. cond (p x) (f x) nothing) xs
sum-filter f p [] = refl
sum-filter f p (x ∷ xs) = by (p x) (sum-filter f p xs)
  where
    by : (b : Bool) → sum_all f (filter p xs) ≡ sum_all (λ y. cond (p y) (f y) nothing) xs →
        sum_all f (cond b (x ∷ filter p xs) (filter p xs)) ≡ plus (cond b (f x) nothing) (sum_all (λ y. cond (p y) (f y) nothing) xs)
    by true rest = ap (plus (f x)) rest
    by false rest = rest ∙ sym (nothing-plus (sum_all (λ y. cond (p y) (f y) nothing) xs))

pub turned : (b : Bool) (x y : Amount) → cond (not b) x y ≡ cond b y x
turned true x y = refl
turned false x y = refl

-- amounts that no cap changes
pub many_cap : (r a l : ℕ) → r ≡ capped r → a ≡ capped a → l ≡ capped l → many r a l ≡ cap (many r a l)
unfolding cap
many_cap r a l hr ha hl = same (many r a l) (cap (many r a l)) hr ha hl refl refl

pub sized_cap : (events : List Event) → sized_amount (size_of events) ≡ cap (of_events events)
unfolding cap
sized_cap events = same (sized_amount (size_of events)) (cap (of_events events)) refl refl refl refl refl

abbrev size_in : Amount → FlatSize
size_in amount = record { bytes = amount.byte_count; nodes = amount.node_count }

pub size_back : (amount : Amount) (events : List Event) → amount ≡ cap (of_events events) → size_in amount ≡ size_of events
unfolding cap
size_back amount events is = ap size_in is

-- the counts of an amount under its cap
pub rule_count_is : (amount : Amount) (r a l : ℕ) → amount ≡ cap (many r a l) → amount.rule_count ≡ capped r
unfolding cap
rule_count_is amount r a l is = ap (λ x. x.rule_count) is

pub assertion_count_is : (amount : Amount) (r a l : ℕ) → amount ≡ cap (many r a l) → amount.assertion_count ≡ capped a
unfolding cap
assertion_count_is amount r a l is = ap (λ x. x.assertion_count) is

pub let_count_is : (amount : Amount) (r a l : ℕ) → amount ≡ cap (many r a l) → amount.let_count ≡ capped l
unfolding cap
let_count_is amount r a l is = ap (λ x. x.let_count) is
