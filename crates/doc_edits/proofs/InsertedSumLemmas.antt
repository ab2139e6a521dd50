-- All nodes of a piece that comes into a table live there, and all its text.
use Rattle.std.proofs.Common.{◌≡◌, ℕ, ◌+◌, true, List, [], ◌∷◌, length, map, Option, None, Some, is_some, refl, sym, ap, ◌∙◌, true≢false, arith, sum_by}
use Rattle.std.proofs.lemmas.List.Sums.{sum_by-cons}
use Rattle.doc_table.specs.declared.kind.Kind.TheVariants.{Root}
use Rattle.doc_table.specs.Table.{Table, Facts, Content, root, element, attribute, text, comment, instruction, entry_at, content_at, kind_at, kind_in, value_at, value_in, value_of, is_live}
use Rattle.doc_table.specs.Walks.{text_bytes}
use Rattle.doc_table.specs.inner.Sound.{Formed, count_live, text_in, text_held}
use Rattle.doc_table.proofs.Counts.{sum-set, text-count}
use Rattle.doc_table.proofs.ListLemmas.{In, occurs-head}
use Rattle.doc_table.proofs.Telling.{order-flat}
use Rattle.doc_edits.specs.Changes.{nodes_in, given_number, given, with_kid, inserted}
use Rattle.doc_edits.proofs.InsertionLemmas.{nodes-flat, nodes-live}
use Rattle.doc_edits.proofs.InsertionSumLemmas.{sum-inserted, text-given}

count-all : (f : ℕ → ℕ) (p : ℕ) (P : Table) (ns : List ℕ) → ((m : ℕ) → In m ns → is_live P m ≡ true) → count_live (map (λ m. given f p (entry_at P m)) ns) ≡ length ns
count-all f p P [] live = refl
count-all f p P (n ∷ ns) live =
    by (entry_at P n) (map (λ m. given f p (entry_at P m)) ns) (live n (occurs-head n ns)) (count-all f p P ns (λ m h. live m (omega (arith, h))))
  where
    by : (o : Option Facts) (U : Table) → is_some o ≡ true → count_live U ≡ length ns → count_live (given f p o ∷ U) ≡ length (n ∷ ns)
    by None U h e = absurd (true≢false (sym h))
    by (Some node) U h e = omega (arith, e)

silent : (c : Content) → kind_in c ≡ Root → length (value_in c) ≡ 0
silent root h = refl
silent (element name decls) h = absurd (cc)
silent (attribute name value) h = absurd (cc)
silent (text characters) h = absurd (cc)
silent (comment characters) h = absurd (cc)
silent (instruction name characters) h = absurd (cc)

root-silent : (o : Option Facts) → kind_at (content_at o) ≡ Some Root → length (value_at (content_at o)) ≡ 0
root-silent None h = absurd (cc)
root-silent (Some node) h = silent node.content (let e : kind_in node.content ≡ Root = (cc) in e)

module _ (T P : Table) (p before : ℕ) (f : Formed P) where
  pub count-exact : count_live (inserted T p before P) ≡ count_live T + length (nodes_in P)
  count-exact =
      sum-inserted T P p before (λ _. 1) (sum-set (λ _. 1) T p (with_kid before (length T)) refl (λ node. refl))
      ∙ ap (λ k. count_live T + k) (count-all (given_number T P) p P (nodes_in P) (nodes-live P f.forest f.whole (nodes-flat P f)))

  pub text-exact : text_held (inserted T p before P) ≡ text_held T + text_held P
  text-exact =
      let all : text_bytes P ≡ length (value_of P 0) + sum_by (λ m. length (value_of P m)) (nodes_in P) =
      ap (sum_by (λ m. length (value_of P m))) (order-flat P f.forest f.whole ∙ ap (λ l. 0 ∷ l) (sym (nodes-flat P f)))
      ∙ sum_by-cons (λ m. length (value_of P m)) 0 (nodes_in P) in
      omega (
        arith,
        sum-inserted T P p before text_in (sum-set text_in T p (with_kid before (length T)) refl (λ node. refl)),
        text-given (given_number T P) p P (nodes_in P),
        all,
        text-count P f.forest f.whole,
        root-silent (entry_at P 0) f.root_kind,
      )
