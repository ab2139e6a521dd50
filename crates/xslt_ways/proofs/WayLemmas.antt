-- Nodes that stand above others, and nodes on one way.
use Rattle.std.proofs.Common.{◌≡◌, ℕ, ◌≤◌, zero, suc, Bool, true, false, ◌||◌, ◌∷◌, length, Option, None, Some, IfSome, refl, sym, ap, ◌∙◌, subst, ⊎_elim, true≢false, arith}
use Rattle.std.proofs.Math.Bool.{or_comm}
use Rattle.doc_tree.specs.Lists.{mem}
use Rattle.doc_tree.specs.Table.{Table, parent_of}
use Rattle.doc_tree.specs.Walks.{ancestors, above}
use Rattle.doc_tree.specs.Laws.{WellFormed, Ordered, HasWaysUp}
use Rattle.doc_tree.proofs.ListLemmas.{In, In-mem, mem-In, In-cons, In-length, mem-tail}

pub or-false : (b : Bool) → (b || false) ≡ b
or-false true = refl
or-false false = refl

-- what holds of the value, if there is one, in other words
pub some_weaker : (o : Option ℕ) (P Q : ℕ → Type 0) → ((m : ℕ) → P m → Q m) → IfSome o P → IfSome o Q
some_weaker None P Q f h = h
some_weaker (Some m) P Q f h = f m h

-- where a is above p, so is all above a
covered : (T : Table) (a p m : ℕ) → (mem m (above T a) ≡ true → mem m (above T p) ≡ true) → mem m (above T p) ≡ (mem m (above T a) || mem m (above T p))
covered T a p m h = by (mem m (above T a)) h
  where
    by : (b : Bool) → (b ≡ true → mem m (above T p) ≡ true) → mem m (above T p) ≡ (b || mem m (above T p))
    by true g = g refl
    by false g = refl

or-second : (a b : Bool) → (a || b) ≡ true → a ≡ false → b ≡ true
or-second true b h e = absurd (true≢false e)
or-second false b h e = h

or-first : (a b : Bool) → a ≡ true → (a || b) ≡ true
or-first true b e = refl
or-first false b e = absurd (true≢false (sym e))

or-last : (a b : Bool) → b ≡ true → (a || b) ≡ true
or-last true b e = refl
or-last false b e = e

module _ (T : Table) (form : WellFormed T) (ord : Ordered T) (up : HasWaysUp T) where
  -- what is above a node is above all for which that node is above
  pub above_above : (d k j n : ℕ) → length (ancestors T n) ≤ d → mem k (above T j) ≡ true → mem j (above T n) ≡ true → mem k (above T n) ≡ true
  above_above zero k j n short hk hj =
      ⊎_elim (λ (e : j ≡ n). subst (λ q. mem k (above T q) ≡ true) e hk)
      (λ (g : In j (ancestors T n)). absurd (let l : 1 ≤ length (ancestors T n) = In-length j (ancestors T n) g in omega (arith, l, short)))
      (In-cons j n (ancestors T n) (mem-In j (above T n) hj))
  above_above (suc d) k j n short hk hj =
      ⊎_elim (λ (e : j ≡ n). subst (λ q. mem k (above T q) ≡ true) e hk)
      (λ (g : In j (ancestors T n)). deeper (parent_of T n) refl (In-mem j (ancestors T n) g) (λ q l i. above_above d k j q l hk i))
      (In-cons j n (ancestors T n) (mem-In j (above T n) hj))
    where
      deeper : (o : Option ℕ) → parent_of T n ≡ o → mem j (ancestors T n) ≡ true →
          ((q : ℕ) → length (ancestors T q) ≤ d → mem j (above T q) ≡ true → mem k (above T q) ≡ true) → mem k (above T n) ≡ true
      deeper None e g more = absurd (true≢false (sym g ∙ ap (mem j) (up.no_ancestors n e)))
      deeper (Some q) e g more =
          let way : ancestors T n ≡ q ∷ ancestors T q = up.ancestors_at n q e in
          mem-tail k n (ancestors T n) (ap (mem k) way ∙ more q (omega (arith, short, ap length way)) (sym (ap (mem j) way) ∙ g))

  -- below a node that isn't above another no node is above that
  pub not_above : (a m p : ℕ) → mem a (above T p) ≡ false → mem a (above T m) ≡ true → false ≡ mem m (above T p)
  not_above a m p no_a h = by (mem m (above T p)) refl
    where
      by : (b : Bool) → mem m (above T p) ≡ b → false ≡ b
      by true e = sym no_a ∙ above_above (length (ancestors T p)) a m p (omega arith) h e
      by false e = refl

  -- of two nodes above another one is above the other
  pub one_way : (d a b n : ℕ) → length (ancestors T n) ≤ d → mem a (above T n) ≡ true → mem b (above T n) ≡ true → (mem a (above T b) || mem b (above T a)) ≡ true
  one_way zero a b n short ha hb =
      ⊎_elim (λ (e : a ≡ n). or-last (mem a (above T b)) (mem b (above T a)) (subst (λ q. mem b (above T q) ≡ true) (sym e) hb))
      (λ (g : In a (ancestors T n)). absurd (let l : 1 ≤ length (ancestors T n) = In-length a (ancestors T n) g in omega (arith, l, short)))
      (In-cons a n (ancestors T n) (mem-In a (above T n) ha))
  one_way (suc d) a b n short ha hb =
      ⊎_elim (λ (e : a ≡ n). or-last (mem a (above T b)) (mem b (above T a)) (subst (λ q. mem b (above T q) ≡ true) (sym e) hb))
      (λ (g : In a (ancestors T n)). ⊎_elim
      (λ (e : b ≡ n). or-first (mem a (above T b)) (mem b (above T a)) (subst (λ q. mem a (above T q) ≡ true) (sym e) ha))
      (λ (f : In b (ancestors T n)). higher (parent_of T n) refl (In-mem a (ancestors T n) g) (In-mem b (ancestors T n) f) (λ q l i j. one_way d a b q l i j))
      (In-cons b n (ancestors T n) (mem-In b (above T n) hb)))
      (In-cons a n (ancestors T n) (mem-In a (above T n) ha))
    where
      higher : (o : Option ℕ) → parent_of T n ≡ o → mem a (ancestors T n) ≡ true → mem b (ancestors T n) ≡ true →
          ((q : ℕ) → length (ancestors T q) ≤ d → mem a (above T q) ≡ true → mem b (above T q) ≡ true → (mem a (above T b) || mem b (above T a)) ≡ true) →
          (mem a (above T b) || mem b (above T a)) ≡ true
      higher None e ga gb more = absurd (true≢false (sym ga ∙ ap (mem a) (up.no_ancestors n e)))
      higher (Some q) e ga gb more =
          let way : ancestors T n ≡ q ∷ ancestors T q = up.ancestors_at n q e in
          more q (omega (arith, short, ap length way)) (sym (ap (mem a) way) ∙ ga) (sym (ap (mem b) way) ∙ gb)

  -- the deeper of two nodes on one way has all above it that is above one of them
  pub deeper_below : (a p m : ℕ) → mem a (above T p) ≡ true → mem m (above T p) ≡ (mem m (above T a) || mem m (above T p))
  deeper_below a p m h = covered T a p m (λ g. above_above (length (ancestors T p)) m a p (omega arith) g h)

  pub deeper_above : (a p m : ℕ) → (mem a (above T p) || mem p (above T a)) ≡ true → mem a (above T p) ≡ false →
      mem m (above T a) ≡ (mem m (above T a) || mem m (above T p))
  deeper_above a p m h e =
      deeper_below p a m (or-second (mem a (above T p)) (mem p (above T a)) h e) ∙ or_comm (mem m (above T p)) (mem m (above T a))
