-- Searches through lists of nodes.
use Rattle.std.proofs.Common.{◌≡◌, ◌∙◌, ℕ, ◌<◌, ◌==◌, zero, suc, Bool, true, false, ◌||◌, List, [], ◌∷◌, length, slice_index_or, Option, None, Some, refl, sym, ap, arith}
use Rattle.std.proofs.lemmas.Bool.{eqb-true, eq-eqb}
use Rattle.std.specs.Option.{option_or}
use Rattle.doc_tree.specs.Lists.{mem}
use Rattle.sch_units.specs.Validity.{first_with}

pub or_right : (b c : Bool) → c ≡ true → (b || c) ≡ true
or_right true c is = refl
or_right false c is = is

-- an item of a list stands in it
pub mem_item : (ns : List ℕ) (i n d : ℕ) → i < length ns → slice_index_or ns i d ≡ n → mem n ns ≡ true
mem_item [] i n d within is = absurd (omega arith)
mem_item (m ∷ ns) zero n d within is = ap (λ (b : Bool). b || mem n ns) (eq-eqb n m (sym is))
mem_item (m ∷ ns) (suc i) n d within is = or_right (n == m) (mem n ns) (mem_item ns i n d (omega arith) is)

-- what gives nothing has nothing that gives something, and the other way round
pub option_none : {B : Type 0} (a b : Option B) → option_or a b ≡ None → (a ≡ None) × (b ≡ None)
option_none None b is = (refl, is)
option_none (Some y) b is = absurd (cc)

pub with_none : {B : Type 0} (f : ℕ → Option B) (ns : List ℕ) → first_with f ns ≡ None → (n : ℕ) → mem n ns ≡ true → f n ≡ None
with_none f [] is n there = absurd (cc)
with_none f (m ∷ ns) is n there =
    let none = option_none (f m) (first_with f ns) is in
    by_first (n == m) refl none.0 (with_none f ns none.1 n) there
  where
    by_first : (b : Bool) → (n == m) ≡ b → f m ≡ None → (mem n ns ≡ true → f n ≡ None) → (b || mem n ns) ≡ true → f n ≡ None
    by_first true same none rest there = ap f (eqb-true n m same) ∙ none
    by_first false other none rest there = rest there

pub with_some : {B : Type 0} (f : ℕ → Option B) (ns : List ℕ) (y : B) → first_with f ns ≡ Some y → (n : ℕ) × (mem n ns ≡ true) × (f n ≡ Some y)
with_some f [] y is = absurd (cc)
with_some {B} f (m ∷ ns) y is = by_first (f m) refl (with_some f ns y) is
  where
    by_first : (o : Option B) → f m ≡ o → (first_with f ns ≡ Some y → (n : ℕ) × (mem n ns ≡ true) × (f n ≡ Some y)) → option_or o (first_with f ns) ≡ Some y →
        (n : ℕ) × (mem n (m ∷ ns) ≡ true) × (f n ≡ Some y)
    by_first None none rest is = let found = rest is in (found.0, or_right (found.0 == m) (mem found.0 ns) found.1, found.2)
    by_first (Some z) some rest is = (m, ap (λ (b : Bool). b || mem m ns) (eq-eqb m m refl), some ∙ is)
