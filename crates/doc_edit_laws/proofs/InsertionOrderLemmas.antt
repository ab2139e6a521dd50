-- Document order where a piece was put in: as before, with the new numbers at one place of it.
use Rattle.std.proofs.Common.{◌≡◌, ℕ, Bool, true, false, cond, List, [], ◌∷◌, ◌++◌, map, refl, sym, ap, ap₂, ◌∙◌, subst, arith}
use Rattle.std.specs.Prelude.{filter}
use Rattle.std.proofs.lemmas.List.Elements.{filter-append}
use Rattle.doc_table.specs.inner.Sound.{Formed}
use Rattle.doc_table.specs.Table.{Table, is_live}
use Rattle.doc_table.specs.Walks.{order}
use Rattle.doc_table.proofs.ListLemmas.{In, occurs-head, occurs-append}
use Rattle.doc_table.proofs.Telling.{order-flat}
use Rattle.doc_table.proofs.Ways.{In-live}
use Rattle.doc_edits.specs.Changes.{given_number, inserted, nodes_in}
use Rattle.doc_edits.specs.Fitting.{MayTake}
use Rattle.doc_edits.proofs.SeamLemmas.{Joined, order-inserted}

pub filter-same : (p q : ℕ → Bool) (ns : List ℕ) → ((n : ℕ) → In n ns → p n ≡ q n) → filter p ns ≡ filter q ns
filter-same p q [] same = refl
filter-same p q (n ∷ ns) same =
    ap₂ (λ b l. cond b (n ∷ l) l) (same n (occurs-head n ns)) (filter-same p q ns (λ m h. same m (omega (arith, h))))

filter-none : (q : ℕ → Bool) (number : ℕ → ℕ) (ns : List ℕ) → ((n : ℕ) → In n ns → q (number n) ≡ false) → filter q (map number ns) ≡ []
filter-none q number [] out = refl
filter-none q number (n ∷ ns) out = rw (out n (occurs-head n ns)) (filter-none q number ns (λ m h. out m (omega (arith, h))))

module _ (T : Table) (p before : ℕ) (P : Table) (t : Formed T) (f : Formed P) (m : MayTake T p before P) where
  -- a test that stays for old nodes and passes no new one filters as before
  pub filter-kept : (here there : ℕ → Bool) → ((n : ℕ) → is_live T n ≡ true → here n ≡ there n) → ((n : ℕ) → In n (nodes_in P) → there (given_number T P n) ≡ false) →
      filter here (order T) ≡ filter there (order (inserted T p before P))
  filter-kept here there same out =
      let j : Joined T (inserted T p before P) p before (map (given_number T P) (nodes_in P)) = order-inserted T p before P t f m in
      let live : (n : ℕ) → In n (j.front ++ j.back) → is_live T n ≡ true =
      λ n h. In-live T t.forest t.whole n (subst (In n) (sym j.seam.whole ∙ order-flat T t.forest t.whole) h) in
      let ahead : filter here j.front ≡ filter there j.front = filter-same here there j.front (λ n h. same n (live n (omega (arith, h, occurs-append n j.front j.back)))) in
      let behind : filter here j.back ≡ filter there j.back = filter-same here there j.back (λ n h. same n (live n (omega (arith, h, occurs-append n j.front j.back)))) in
      ap (filter here) j.seam.whole
      ∙ (filter-append here j.front j.back
      ∙ (ap₂ (λ a b. a ++ b) ahead behind
      ∙ sym (ap (filter there) j.after
      ∙ (filter-append there j.front (map (given_number T P) (nodes_in P) ++ j.back)
      ∙ ap (λ l. filter there j.front ++ l) (filter-append there (map (given_number T P) (nodes_in P)) j.back
      ∙ ap (λ l. l ++ filter there j.back) (filter-none there (given_number T P) (nodes_in P) out))))))
