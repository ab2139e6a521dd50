-- How many nodes and how much text a table with a piece put in has.
use Rattle.std.proofs.Common.{◌≡◌, ℕ, ◌+◌, ◌≤◌, List, [], ◌∷◌, ◌++◌, length, map, Option, None, Some, refl, sym, ap, ◌∙◌, arith, sum_by}
use Rattle.std.proofs.lemmas.List.Sums.{sum_by-cons}
use Rattle.doc_table.specs.Table.{Table, Facts, entry_at, content_at, value_at, value_of}
use Rattle.doc_table.specs.Walks.{text_bytes}
use Rattle.doc_table.specs.inner.Sound.{Formed, table_sum, count_live, text_in, text_held}
use Rattle.doc_table.proofs.Counts.{sum-set}
use Rattle.doc_table.proofs.Telling.{order-flat}
use Rattle.doc_edits.specs.Changes.{changed_at, nodes_in, given_number, given, with_kid, inserted}
use Rattle.doc_edits.proofs.InsertionLemmas.{nodes-flat}

sum-append : (g : Facts → ℕ) (T U : Table) → table_sum g (T ++ U) ≡ table_sum g T + table_sum g U
sum-append g [] U = omega arith
sum-append g (None ∷ T) U = sum-append g T U
sum-append g (Some node ∷ T) U = omega (arith, sum-append g T U)

module _ (f : ℕ → ℕ) (p : ℕ) where
  count-given : (P : Table) (ns : List ℕ) → count_live (map (λ m. given f p (entry_at P m)) ns) ≤ length ns
  count-given P [] = omega arith
  count-given P (n ∷ ns) = by (entry_at P n) (map (λ m. given f p (entry_at P m)) ns) (count-given P ns)
    where
      by : (o : Option Facts) (U : Table) → count_live U ≤ length ns → count_live (given f p o ∷ U) ≤ length (n ∷ ns)
      by None U h = omega (arith, h)
      by (Some node) U h = omega (arith, h)

  pub text-given : (P : Table) (ns : List ℕ) → text_held (map (λ m. given f p (entry_at P m)) ns) ≡ sum_by (λ m. length (value_of P m)) ns
  text-given P [] = refl
  text-given P (n ∷ ns) =
      by (entry_at P n) (map (λ m. given f p (entry_at P m)) ns)
      ∙ (ap (λ k. length (value_of P n) + k) (text-given P ns)
      ∙ omega (arith, sum_by-cons (λ m. length (value_of P m)) n ns))
    where
      by : (o : Option Facts) (U : Table) → text_held (given f p o ∷ U) ≡ length (value_at (content_at o)) + text_held U
      by None U = omega arith
      by (Some node) U = refl

module _ (T P : Table) (p before : ℕ) where
  pub sum-inserted : (g : Facts → ℕ) → table_sum g (changed_at p (with_kid before (length T)) T) ≡ table_sum g T →
      table_sum g (inserted T p before P) ≡ table_sum g T + table_sum g (map (λ m. given (given_number T P) p (entry_at P m)) (nodes_in P))
  sum-inserted g same =
      sum-append g (changed_at p (with_kid before (length T)) T) (map (λ m. given (given_number T P) p (entry_at P m)) (nodes_in P))
      ∙ ap (λ k. k + table_sum g (map (λ m. given (given_number T P) p (entry_at P m)) (nodes_in P))) same

  pub count-inserted : count_live (inserted T p before P) ≤ count_live T + length (nodes_in P)
  count-inserted =
      omega (
        arith,
        sum-inserted (λ _. 1) (sum-set (λ _. 1) T p (with_kid before (length T)) refl (λ node. refl)),
        count-given (given_number T P) p P (nodes_in P),
      )

  pub text-inserted : Formed P → text_held (inserted T p before P) ≤ text_held T + text_bytes P
  text-inserted f =
      let all : text_bytes P ≡ length (value_of P 0) + sum_by (λ m. length (value_of P m)) (nodes_in P) =
      ap (sum_by (λ m. length (value_of P m))) (order-flat P f.forest f.whole ∙ ap (λ l. 0 ∷ l) (sym (nodes-flat P f)))
      ∙ sum_by-cons (λ m. length (value_of P m)) 0 (nodes_in P) in
      omega (
        arith,
        sum-inserted text_in (sum-set text_in T p (with_kid before (length T)) refl (λ node. refl)),
        text-given (given_number T P) p P (nodes_in P),
        all,
      )
