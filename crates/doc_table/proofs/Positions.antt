-- Positions in a list whose numbers are all different, and runs of numbers that stand in it from some position on.
use Rattle.std.proofs.Common.{◌≡◌, ◌≢◌, ℕ, ◌+◌, ◌<◌, ◌≤◌, suc, zero, Bool, true, false, cond, eqb, List, [], ◌∷◌, ◌++◌, length, Option, None, Some, ◌⊎◌, refl, sym, ap, ◌∙◌, subst, inl, inr, ⊎_elim, true≢false, arith, append-nil, append_assoc, length-append, eq-eqb, eqb-true}
use Rattle.std.specs.Prelude.{option_map}
use Rattle.doc_table.specs.Lists.{occurs, Distinct, upto}
use Rattle.doc_table.specs.SameTree.{position_in}
use Rattle.doc_table.proofs.ListLemmas.{In, eq_or, occurs-append, occurs-same}
use Rattle.doc_table.proofs.ByNumber.{upto-length, upto-past}

-- what stands after a number's first place doesn't matter
position-front : (n : ℕ) (lead tail : List ℕ) → occurs n lead ≡ 0 → position_in n (lead ++ n ∷ tail) ≡ Some (length lead)
position-front n [] tail none = ap (λ b. cond b (Some 0) (option_map (λ i. suc i) (position_in n tail))) (eq-eqb n n refl)
position-front n (m ∷ lead) tail none = by (eqb n m) refl none (λ less. position-front n lead tail less)
  where
    by : (b : Bool) → eqb n m ≡ b → cond b 1 0 + occurs n lead ≡ 0 → (occurs n lead ≡ 0 → position_in n (lead ++ n ∷ tail) ≡ Some (length lead)) →
        cond b (Some 0) (option_map (λ i. suc i) (position_in n (lead ++ n ∷ tail))) ≡ Some (suc (length lead))
    by true e h more = absurd (omega (arith, h))
    by false e h more = ap (option_map (λ i. suc i)) (more (omega (arith, h)))

-- the numbers stand in the list one after another, from a position on
pub record Stands (all : List ℕ) (at : ℕ) (ns : List ℕ) : Type 0 where
  pub lead : List ℕ
  pub tail : List ℕ
  pub is : all ≡ lead ++ (ns ++ tail)
  pub long : length lead ≡ at

pub stands-all : (all : List ℕ) → Stands all 0 all
stands-all all = record { lead = []; tail = []; is = sym (append-nil all); long = refl }

pub stands-left : (all : List ℕ) (at : ℕ) (ns ms : List ℕ) → Stands all at (ns ++ ms) → Stands all at ns
stands-left all at ns ms s = record { lead = s.lead; tail = ms ++ s.tail; is = s.is ∙ ap (λ l. s.lead ++ l) (append_assoc ns ms s.tail); long = s.long }

pub stands-right : (all : List ℕ) (at : ℕ) (ns ms : List ℕ) → Stands all at (ns ++ ms) → Stands all (at + length ns) ms
stands-right all at ns ms s = record {
  lead = s.lead ++ ns;
  tail = s.tail;
  is = s.is ∙ (ap (λ l. s.lead ++ l) (append_assoc ns ms s.tail) ∙ sym (append_assoc s.lead ns (ms ++ s.tail)));
  long = omega (arith, length-append s.lead ns, s.long);
}

pub stands-next : (all : List ℕ) (at n : ℕ) (ns : List ℕ) → Stands all at (n ∷ ns) → Stands all (suc at) ns
stands-next all at n ns s = record {
  lead = s.lead ++ n ∷ [];
  tail = s.tail;
  is = s.is ∙ sym (append_assoc s.lead (n ∷ []) (ns ++ s.tail));
  long = omega (arith, length-append s.lead (n ∷ []), s.long);
}

-- the first of them has that position
pub stands-at : (all : List ℕ) (at n : ℕ) (ns : List ℕ) → Distinct all → Stands all at (n ∷ ns) → position_in n all ≡ Some at
stands-at all at n ns once s =
    let none : occurs n s.lead ≡ 0 = omega (arith, once n, ap (occurs n) s.is, occurs-append n s.lead (n ∷ (ns ++ s.tail)), occurs-same n (ns ++ s.tail)) in
    ap (position_in n) s.is ∙ (position-front n s.lead (ns ++ s.tail) none ∙ ap Some s.long)

-- a longer list has the number at the same position
position-append : (n i : ℕ) (ms more : List ℕ) → position_in n ms ≡ Some i → position_in n (ms ++ more) ≡ Some i
position-append n i [] more e = absurd (cc)
position-append n i (m ∷ ms) more e = by (eqb n m) (position_in n ms) refl e (λ j h. position-append n j ms more h)
  where
    by : (b : Bool) (o : Option ℕ) → position_in n ms ≡ o → cond b (Some 0) (option_map (λ k. suc k) o) ≡ Some i → ((j : ℕ) → position_in n ms ≡ Some j → position_in n (ms ++ more) ≡ Some j) →
        cond b (Some 0) (option_map (λ k. suc k) (position_in n (ms ++ more))) ≡ Some i
    by true o at e go = e
    by false None at e go = absurd (cc)
    by false (Some j) at e go = ap (option_map (λ k. suc k)) (go j at) ∙ e

-- a number's position among the numbers below another is the number itself
pub position-upto : (n k : ℕ) → n < k → position_in n (upto k) ≡ Some n
position-upto n zero less = absurd (omega arith)
position-upto n (suc k) less = ⊎_elim
    (λ (same : n ≡ k). subst (λ m. position_in m (upto k ++ k ∷ []) ≡ Some m) (sym same) (position-front k (upto k) [] (upto-past k k (omega arith)) ∙ ap Some (upto-length k)))
    (λ (ne : n ≢ k). position-append n n (upto k) (k ∷ []) (position-upto n k (omega (arith, less, ne))))
    (eq_or n k)

-- the positions of two numbers in lists that begin with two others
pub position-cases : (n x m y : ℕ) (ns ms : List ℕ) → position_in n (x ∷ ns) ≡ position_in m (y ∷ ms) → ((n ≡ x) × (m ≡ y)) ⊎ ((n ≢ x) × (position_in n ns ≡ position_in m ms))
position-cases n x m y ns ms e = by (eqb n x) (eqb m y) refl refl (position_in n ns) (position_in m ms) refl refl e
  where
    by : (a b : Bool) → eqb n x ≡ a → eqb m y ≡ b → (o p : Option ℕ) → position_in n ns ≡ o → position_in m ms ≡ p →
        cond a (Some 0) (option_map (λ k. suc k) o) ≡ cond b (Some 0) (option_map (λ k. suc k) p) → ((n ≡ x) × (m ≡ y)) ⊎ ((n ≢ x) × (position_in n ns ≡ position_in m ms))
    by true true ea eb o p eo ep h = inl (eqb-true n x ea, eqb-true m y eb)
    by true false ea eb o None eo ep h = absurd (cc)
    by true false ea eb o (Some j) eo ep h = absurd (let at : 0 ≡ suc j = (cc) in omega (arith, at))
    by false true ea eb None p eo ep h = absurd (cc)
    by false true ea eb (Some i) p eo ep h = absurd (let at : suc i ≡ 0 = (cc) in omega (arith, at))
    by false false ea eb None None eo ep h = inr (λ same. true≢false (sym (eq-eqb n x same) ∙ ea), eo ∙ sym ep)
    by false false ea eb None (Some j) eo ep h = absurd (cc)
    by false false ea eb (Some i) None eo ep h = absurd (cc)
    by false false ea eb (Some i) (Some j) eo ep h =
        let at : i ≡ j = (let next : suc i ≡ suc j = (cc) in omega (arith, next)) in
        inr (λ same. true≢false (sym (eq-eqb n x same) ∙ ea), eo ∙ (ap Some at ∙ sym ep))

-- a number that stands in a list has a position there
pub has-position : (n : ℕ) (ms : List ℕ) → In n ms → (i : ℕ) × (position_in n ms ≡ Some i)
has-position n [] h = absurd (omega arith)
has-position n (m ∷ ms) h = by (eqb n m) refl h (λ k. has-position n ms k)
  where
    by : (b : Bool) → eqb n m ≡ b → 1 ≤ cond b 1 0 + occurs n ms → (In n ms → (i : ℕ) × (position_in n ms ≡ Some i)) → (i : ℕ) × (cond b (Some 0) (option_map (λ k. suc k) (position_in n ms)) ≡ Some i)
    by true e k more = (0, refl)
    by false e k more = let r : (i : ℕ) × (position_in n ms ≡ Some i) = more (omega (arith, k)) in (suc r.0, ap (option_map (λ j. suc j)) r.1)
