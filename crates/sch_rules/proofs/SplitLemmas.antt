-- Lists cut at a place.
use Rattle.std.proofs.Common.{◌≡◌, ℕ, true, List, [], ◌∷◌, ◌++◌, refl, ap, arith}
use Rattle.doc_tree.specs.Lists.{mem, Distinct}
use Rattle.doc_tree.proofs.ListLemmas.{mem-In, In-mem, occurs-append, occurs-head}

-- the first list is the second with this item and more behind it
pub record Beyond {A : Type 0} (long short : List A) (x : A) : Type 0 where
  pub more : List A
  pub is : long ≡ short ++ x ∷ more

-- two cuts of a list are at the same place, or one is beyond the other
pub record SameCut {A : Type 0} (a c : List A) (x y : A) : Type 0 where
  pub before : a ≡ c
  pub item : x ≡ y

pub data Cuts {A : Type 0} (a c : List A) (x y : A) : Type 0 where
  same : SameCut a c x y → Cuts a c x y
  later : Beyond c a x → Cuts a c x y
  earlier : Beyond a c y → Cuts a c x y

cuts-cons : {A : Type 0} (z z' : A) (a c : List A) (x y : A) → z ≡ z' → Cuts a c x y → Cuts (z ∷ a) (z' ∷ c) x y
cuts-cons z z' a c x y e (same s) = same (record { before = let h : a ≡ c = s.before in cc; item = s.item })
cuts-cons z z' a c x y e (later l) = later (record { more = l.more; is = let h : c ≡ a ++ x ∷ l.more = l.is in cc })
cuts-cons z z' a c x y e (earlier l) = earlier (record { more = l.more; is = let h : a ≡ c ++ y ∷ l.more = l.is in cc })

pub cuts : {A : Type 0} (a b c d : List A) (x y : A) → a ++ x ∷ b ≡ c ++ y ∷ d → Cuts a c x y
cuts [] b [] d x y e = same (record { before = refl; item = cc })
cuts [] b (z ∷ c) d x y e = later (record { more = c; is = let h : z ≡ x = cc in ap (λ w. w ∷ c) h })
cuts (z ∷ a) b [] d x y e = earlier (record { more = a; is = let h : z ≡ y = cc in ap (λ w. w ∷ a) h })
cuts (z ∷ a) b (z' ∷ c) d x y e =
    let head : z ≡ z' = cc in
    let tail : a ++ x ∷ b ≡ c ++ y ∷ d = cc in
    cuts-cons z z' a c x y head (cuts a b c d x y tail)

-- in a list without repetition an item does not stand before itself
pub not_before : (before after : List ℕ) (n : ℕ) → Distinct (before ++ n ∷ after) → mem n before ≡ true → ⊥
not_before before after n once h =
    absurd (omega (arith, once n, occurs-append n before (n ∷ after), occurs-head n after, mem-In n before h))

-- what stands in a list stands in a longer one, as does what was put behind it
pub mem-beyond : (long short : List ℕ) (x n : ℕ) → Beyond long short x → mem n short ≡ true → mem n long ≡ true
mem-beyond long short x n b h =
    rw b.is (In-mem n (short ++ x ∷ b.more) (omega (arith, occurs-append n short (x ∷ b.more), mem-In n short h)))

pub mem-cut : (long short : List ℕ) (x : ℕ) → Beyond long short x → mem x long ≡ true
mem-cut long short x b =
    rw b.is (In-mem x (short ++ x ∷ b.more) (omega (arith, occurs-append x short (x ∷ b.more), occurs-head x b.more)))
