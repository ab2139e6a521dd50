-- Nodes that are looked up by number.
use Rattle.std.proofs.Common.{◌≡◌, ℕ, Bool, true, false, cond, ◌||◌, List, [], ◌∷◌, ◌++◌, eqb, eqb-true, refl, sym, ◌∙◌, ap}
use Rattle.std.specs.List.{list_any}
use Rattle.doc_tree.specs.Lists.{mem}
use Rattle.indexmap.specs.IndexSet.{insert_key}
use Rattle.xslt_match.proofs.Filters.{or-false}

pub any_is : (n : ℕ) (xs : List ℕ) → list_any (eqb n) xs ≡ mem n xs
any_is n [] = refl
any_is n (x ∷ xs) = ap (λ (b : Bool). eqb n x || b) (any_is n xs)

or_again : (a b c : Bool) → (b ≡ true → a ≡ true) → (a || c) ≡ (a || (b || c))
or_again true b c same = refl
or_again false true c same = absurd (let e : false ≡ true = same refl in cc)
or_again false false c same = refl

or_last : (a b c : Bool) → ((a || b) || c) ≡ (a || (b || c))
or_last true b c = refl
or_last false b c = refl

mem_last : (q x : ℕ) (ks : List ℕ) → mem q (ks ++ x ∷ []) ≡ (mem q ks || eqb q x)
mem_last q x [] = or-false (eqb q x)
mem_last q x (k ∷ ks) = ap (λ (b : Bool). eqb q k || b) (mem_last q x ks) ∙ sym (or_last (eqb q k) (mem q ks) (eqb q x))

-- a number that is put in is there, before others
pub put_on : (q x : ℕ) (ks rest : List ℕ) → (mem q (insert_key eqb ks x) || mem q rest) ≡ (mem q ks || (eqb q x || mem q rest))
put_on q x ks rest = by (list_any (eqb x) ks) refl
  where
    by : (b : Bool) → list_any (eqb x) ks ≡ b → (mem q (cond b ks (ks ++ x ∷ [])) || mem q rest) ≡ (mem q ks || (eqb q x || mem q rest))
    by true there = or_again (mem q ks) (eqb q x) (mem q rest) (λ same. ap (λ (n : ℕ). mem n ks) (eqb-true q x same) ∙ sym (any_is x ks) ∙ there)
    by false absent = ap (λ (b : Bool). b || mem q rest) (mem_last q x ks) ∙ or_last (mem q ks) (eqb q x) (mem q rest)
