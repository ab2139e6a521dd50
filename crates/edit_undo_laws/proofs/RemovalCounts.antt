-- What is left where a node went with all below it: as many nodes fewer, and as many bytes of text.
use Rattle.std.proofs.Common.{◌≡◌, ◌≢◌, ℕ, ◌+◌, ◌≤◌, true, List, [], ◌∷◌, ◌++◌, length, Option, None, Some, is_some, refl, sym, ap, ◌∙◌, subst, true≢false, arith}
use Rattle.std.specs.Prelude.{sum_by}
use Rattle.std.proofs.lemmas.List.Sums.{sum_by-cons}
use Rattle.doc_table.proofs.Counts.{sum-set}
use Rattle.doc_table.proofs.ListLemmas.{In, In-mem, occurs-append, occurs-head, occurs-same, sum_by-same}
use Rattle.doc_table.proofs.TreeLaws.{ordered}
use Rattle.doc_table.specs.inner.Sound.{Formed, count_live, table_sum, text_held, text_in}
use Rattle.doc_table.specs.Lists.{occurs}
use Rattle.doc_table.specs.Table.{Facts, Table, content_at, entry_at, is_live, parent_of, value_at, value_of}
use Rattle.doc_table.specs.Walks.{below, order}
use Rattle.doc_edits.specs.Changes.{changed_at, cleared, removed, removed_from, without_link}
use Rattle.doc_edits.proofs.ClearLemmas.{cleared-kept, sum-taken}
use Rattle.doc_edits.proofs.RemovalLemmas.{cutting}
use Rattle.doc_edits.proofs.TableLemmas.{changed-other}

-- what a node weighs
abbrev weight : (Facts → ℕ) → Option Facts → ℕ
weight f None = 0
weight f (Some node) = f node

-- entries that are cleared, each once, take what their nodes weigh
sum-cleared : (f : Facts → ℕ) (ns : List ℕ) (T : Table) → ((m : ℕ) → occurs m ns ≤ 1) → ((m : ℕ) → In m ns → is_live T m ≡ true) →
    table_sum f (cleared ns T) + sum_by (λ m. weight f (entry_at T m)) ns ≡ table_sum f T
sum-cleared f [] T once live = omega arith
sum-cleared f (n ∷ ns) T once live =
    let rest : table_sum f (cleared ns T) + sum_by (λ m. weight f (entry_at T m)) ns ≡ table_sum f T =
    sum-cleared f ns T (λ m. omega (arith, once m)) (λ m h. live m (omega (arith, h))) in
    let kept : entry_at (cleared ns T) n ≡ entry_at T n = cleared-kept ns T n (omega (arith, once n, occurs-same n ns)) in
    sum-here (entry_at T n) refl kept (live n (occurs-head n ns)) rest
  where
    sum-here : (o : Option Facts) → entry_at T n ≡ o → entry_at (cleared ns T) n ≡ entry_at T n → is_some (entry_at T n) ≡ true →
        table_sum f (cleared ns T) + sum_by (λ m. weight f (entry_at T m)) ns ≡ table_sum f T →
        table_sum f (cleared (n ∷ ns) T) + sum_by (λ m. weight f (entry_at T m)) (n ∷ ns) ≡ table_sum f T
    sum-here None e kept lives rest = absurd (true≢false (sym lives ∙ ap is_some e))
    sum-here (Some node) e kept lives rest =
        let first : weight f (entry_at T n) ≡ f node = ap (weight f) e in
        omega (arith, sum-taken f (cleared ns T) n node (kept ∙ e), rest, first, sum_by-cons (λ m. weight f (entry_at T m)) n ns)

module _ (T : Table) (n p : ℕ) (t : Formed T) (up : parent_of T n ≡ Some p) (live : is_live T n ≡ true) where
  abbrev linked : Table
  linked = changed_at p (without_link n) T

  place : (front : List ℕ) × (back : List ℕ) × (order T ≡ front ++ (below T n ++ back))
  place = let at = (ordered T t).below_in_order n live in (at.0, at.1, at.2)

  once : (m : ℕ) → occurs m (below T n) ≤ 1
  once m =
      omega (
        arith,
        (ordered T t).once m,
        ap (occurs m) place.2,
        occurs-append m place.0 (below T n ++ place.1),
        occurs-append m (below T n) place.1,
      )

  alive : (m : ℕ) → In m (below T n) → is_live T m ≡ true
  alive m h =
      (ordered T t).live_in_order m
      ∙ In-mem m (order T) (omega (arith, h, ap (occurs m) place.2, occurs-append m place.0 (below T n ++ place.1), occurs-append m (below T n) place.1))

  -- the parent is none of them
  other : (m : ℕ) → In m (below T n) → m ≢ p
  other m h e = absurd (omega (arith, (cutting T n p t up).apart, subst (λ k. In k (below T n)) e h))

  same-entry : (m : ℕ) → In m (below T n) → entry_at linked m ≡ entry_at T m
  same-entry m h = changed-other T p (without_link n) m (other m h)

  taken : (f : Facts → ℕ) → ((node : Facts) → table_sum f (without_link n (Some node) ∷ []) ≡ f node + 0) →
      table_sum f (removed T n) + sum_by (λ m. weight f (entry_at T m)) (below T n) ≡ table_sum f T
  taken f same =
      let all : table_sum f (cleared (below T n) linked) + sum_by (λ m. weight f (entry_at linked m)) (below T n) ≡ table_sum f linked =
      sum-cleared f (below T n) linked once (λ m h. ap is_some (same-entry m h) ∙ alive m h) in
      let weights : sum_by (λ m. weight f (entry_at linked m)) (below T n) ≡ sum_by (λ m. weight f (entry_at T m)) (below T n) =
      sum_by-same (λ m. weight f (entry_at linked m)) (λ m. weight f (entry_at T m)) (below T n) (λ m h. ap (weight f) (same-entry m h)) in
      let is : table_sum f (removed T n) ≡ table_sum f (cleared (below T n) linked) = ap (λ o. table_sum f (removed_from T n o)) up in
      omega (arith, all, weights, is, sum-set f T p (without_link n) refl same)

  ones : (ns : List ℕ) → ((m : ℕ) → In m ns → is_live T m ≡ true) → sum_by (λ m. weight (λ _. 1) (entry_at T m)) ns ≡ length ns
  ones [] lives = refl
  ones (m ∷ ns) lives =
      let one : weight (λ _. 1) (entry_at T m) ≡ 1 = by (entry_at T m) (lives m (occurs-head m ns)) in
      omega (arith, sum_by-cons (λ k. weight (λ _. 1) (entry_at T k)) m ns, one, ones ns (λ k h. lives k (omega (arith, h))))
    where
      by : (o : Option Facts) → is_some o ≡ true → weight (λ _. 1) o ≡ 1
      by None h = absurd (true≢false (sym h))
      by (Some node) h = refl

  weighs-text : (o : Option Facts) → weight text_in o ≡ length (value_at (content_at o))
  weighs-text None = refl
  weighs-text (Some node) = refl

  pub nodes-left : count_live (removed T n) + length (below T n) ≡ count_live T
  nodes-left = omega (arith, taken (λ _. 1) (λ node. refl), ones (below T n) alive)

  pub text-left : text_held (removed T n) + sum_by (λ m. length (value_of T m)) (below T n) ≡ text_held T
  text-left =
      let same : sum_by (λ m. weight text_in (entry_at T m)) (below T n) ≡ sum_by (λ m. length (value_of T m)) (below T n) =
      sum_by-same (λ m. weight text_in (entry_at T m)) (λ m. length (value_of T m)) (below T n) (λ m h. weighs-text (entry_at T m)) in
      omega (arith, taken text_in (λ node. refl), same)
