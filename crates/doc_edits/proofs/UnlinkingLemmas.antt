-- The kept nodes where one lost a number from its lists.
use Rattle.std.proofs.Common.{◌≡◌, ◌≢◌, ℕ, ◌+◌, ◌<◌, ◌≤◌, zero, suc, List, [], ◌∷◌, ◌++◌, length, get_or, set, take, drop, Option, None, Some, refl, sym, ap, ◌∙◌, arith}
use Rattle.std.proofs.lemmas.List.{take_more, take-append-drop}
use Rattle.doc_table.specs.declared.node.Node.{Node}
use Rattle.doc_table.specs.Lists.{occurs}
use Rattle.doc_table.specs.Table.{Name}
use Rattle.doc_table.specs.inner.Kept.{depth_at, rank_at}
use Rattle.doc_table.specs.inner.Views.{node_seen, table_seen}
use Rattle.doc_table.proofs.ListLemmas.{occurs-append, occurs-other, occurs-same}
use Rattle.doc_table.proofs.SoundLemmas.{seen-entry}
use Rattle.doc_edits.specs.Changes.{changed_at, without, without_link}
use Rattle.doc_edits.specs.inner.Copies.{NameIsKnown}
use Rattle.doc_edits.specs.inner.Removing.{kept_without}
use Rattle.doc_edits.proofs.ClearLemmas.{without-split}
use Rattle.doc_edits.proofs.ClearingLemmas.{seen-set}

-- a number at its first place in a list, in which it stands once at most
pub without-found : (n i : ℕ) (xs : List ℕ) → xs ≡ take i xs ++ n ∷ drop (suc i) xs → occurs n (take i xs) ≡ 0 → occurs n xs ≤ 1 → take i xs ++ drop (suc i) xs ≡ without n xs
without-found n i xs is none once =
    sym (ap (without n) is
    ∙ without-split n (take i xs) (drop (suc i) xs) none
    (omega (arith, once, ap (occurs n) is, occurs-append n (take i xs) (n ∷ drop (suc i) xs), occurs-same n (drop (suc i) xs))))

-- the list splits there
pub split-found : (n i x : ℕ) (xs : List ℕ) → i < length xs → x ≡ get_or xs i x → x ≡ n → xs ≡ take i xs ++ n ∷ drop (suc i) xs
split-found n i x xs h is e =
    sym (take-append-drop i xs) ∙ ap (λ l. take i xs ++ l) (at-place xs i x h is ∙ ap (λ k. k ∷ drop (suc i) xs) e)
  where
    at-place : (xs : List ℕ) (i x : ℕ) → i < length xs → x ≡ get_or xs i x → drop i xs ≡ x ∷ drop (suc i) xs
    at-place [] i x h is = absurd (omega arith)
    at-place (y ∷ xs) zero x h is = ap (λ k. k ∷ xs) (sym is)
    at-place (y ∷ xs) (suc i) x h is = at-place xs i x (omega arith) is

-- up to one place more it stands nowhere either
pub none-more : (n i x : ℕ) (xs : List ℕ) → i < length xs → x ≡ get_or xs i x → x ≢ n → occurs n (take i xs) ≡ 0 → occurs n (take (i + 1) xs) ≡ 0
none-more n i x xs h is ne none =
    ap (occurs n) (take_more xs i x h ∙ ap (λ k. take i xs ++ k ∷ []) (sym is))
    ∙ omega (arith, none, occurs-append n (take i xs) (x ∷ []), occurs-other n x [] (λ e. ne (sym e)))

-- the node in a slot
pub slot-kept : (nodes : List (Option Node)) (i p : ℕ) (slot : Option Node) (node : Node) → i ≡ p → p < length nodes → slot ≡ get_or nodes i slot → slot ≡ Some node → get_or nodes p None ≡ Some node
slot-kept nodes i p slot node at h is some = by nodes p (omega arith) (ap (get_or nodes p) (sym some) ∙ (ap (λ k. get_or nodes k slot) (sym at) ∙ (sym is ∙ some)))
  where
    by : (nodes : List (Option Node)) (p : ℕ) → p < length nodes → get_or nodes p (Some node) ≡ Some node → get_or nodes p None ≡ Some node
    by [] p h e = absurd (omega arith)
    by (o ∷ nodes) zero h e = e
    by (o ∷ nodes) (suc p) h e = by nodes p (omega arith) e

seen-less : (names : List Name) (n : ℕ) (o : Option Node) → node_seen names (kept_without n o) ≡ without_link n (node_seen names o)
seen-less names n None = refl
seen-less names n (Some node) = refl

-- what is seen then
pub seen-unlinked : (names : List Name) (nodes : List (Option Node)) (p n : ℕ) →
    table_seen names (set nodes p (kept_without n (get_or nodes p None))) ≡ changed_at p (without_link n) (table_seen names nodes)
seen-unlinked names nodes p n =
    seen-set names nodes p (kept_without n (get_or nodes p None))
    ∙ ap (set (table_seen names nodes) p) (seen-less names n (get_or nodes p None) ∙ ap (without_link n) (sym (seen-entry names nodes p)))

-- what is kept beside stays
pub depth-less : (n : ℕ) (o : Option Node) → depth_at (kept_without n o) ≡ depth_at o
depth-less n None = refl
depth-less n (Some node) = refl

pub rank-less : (n : ℕ) (o : Option Node) → rank_at (kept_without n o) ≡ rank_at o
rank-less n None = refl
rank-less n (Some node) = refl

pub known-less : (count n : ℕ) (o : Option Node) → NameIsKnown count o → NameIsKnown count (kept_without n o)
known-less count n None h = tt
known-less count n (Some node) h = h
