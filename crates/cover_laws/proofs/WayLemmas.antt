-- What is above a node that is above another is above that one too.
use Rattle.std.proofs.Common.{◌≡◌, ℕ, ◌≤◌, suc, zero, true, List, [], ◌∷◌, length, Option, None, Some, refl, sym, ap, subst, ⊎_elim, arith}
use Rattle.doc_tree.specs.Laws.{HasWaysUp}
use Rattle.doc_tree.specs.Lists.{mem}
use Rattle.doc_tree.specs.Table.{Table, parent_of}
use Rattle.doc_tree.specs.Walks.{above, ancestors}
use Rattle.doc_tree.proofs.ListLemmas.{In, In-cons, In-length, In-mem, mem-In}

module _ (T : Table) (ways : HasWaysUp T) where
  higher : (steps a b n : ℕ) → length (ancestors T n) ≤ steps → In a (above T b) → In b (above T n) → In a (above T n)
  higher zero a b n short h k =
      ⊎_elim (λ (e : b ≡ n). subst (λ q. In a (above T q)) e h)
      (λ (g : In b (ancestors T n)). absurd (omega (arith, short, In-length b (ancestors T n) g)))
      (In-cons b n (ancestors T n) k)
  higher (suc steps) a b n short h k =
      ⊎_elim (λ (e : b ≡ n). subst (λ q. In a (above T q)) e h)
      (λ (g : In b (ancestors T n)). by (parent_of T n) refl g (λ q s r. higher steps a b q s h r))
      (In-cons b n (ancestors T n) k)
    where
      by : (o : Option ℕ) → parent_of T n ≡ o → In b (ancestors T n) → ((q : ℕ) → length (ancestors T q) ≤ steps → In b (above T q) → In a (above T q)) → In a (above T n)
      by None e g more = absurd (let f : In b [] = subst (In b) (ways.no_ancestors n e) g in omega arith)
      by (Some q) e g more =
          let way : ancestors T n ≡ q ∷ ancestors T q = ways.ancestors_at n q e in
          let f : In a (above T q) = more q (omega (arith, short, ap length way)) (subst (In b) way g) in
          rw way (omega (arith, f))

  pub above-above : (a b n : ℕ) → mem a (above T b) ≡ true → mem b (above T n) ≡ true → mem a (above T n) ≡ true
  above-above a b n h k =
      In-mem a (above T n) (higher (length (ancestors T n)) a b n (omega arith) (mem-In a (above T b) h) (mem-In b (above T n) k))

  pub above-ancestors : (a b n : ℕ) → mem a (above T b) ≡ true → mem b (ancestors T n) ≡ true → mem a (ancestors T n) ≡ true
  above-ancestors a b n h k = by (parent_of T n) refl
    where
      by : (o : Option ℕ) → parent_of T n ≡ o → mem a (ancestors T n) ≡ true
      by None e = absurd (let f : In b [] = subst (In b) (ways.no_ancestors n e) (mem-In b (ancestors T n) k) in omega arith)
      by (Some q) e =
          let way : ancestors T n ≡ q ∷ ancestors T q = ways.ancestors_at n q e in
          subst (λ (l : List ℕ). mem a l ≡ true) (sym way) (above-above a b q h (subst (λ (l : List ℕ). mem b l ≡ true) way k))
