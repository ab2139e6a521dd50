-- The kept nodes of a table into which a piece comes: what contracts see of them, and what is kept beside.
use Rattle.std.proofs.Common.{◌≡◌, ℕ, zero, suc, List, [], ◌∷◌, ◌++◌, map, get_or, set, Option, None, Some, refl, sym, ap, ◌∙◌}
use Rattle.std.proofs.lemmas.List.{map-append, map-set}
use Rattle.doc_table.specs.declared.node.Node.{Node}
use Rattle.doc_table.specs.Table.{Name}
use Rattle.doc_table.specs.inner.Kept.{NamesAreBelow, depth_at, rank_at}
use Rattle.doc_table.specs.inner.Views.{node_seen, table_seen}
use Rattle.doc_table.proofs.SoundLemmas.{seen-entry}
use Rattle.doc_edits.specs.Changes.{changed_at, with_kid}
use Rattle.doc_edits.specs.inner.Copies.{NameIsKnown}
use Rattle.doc_edits.specs.inner.Grafts.{grafted, kept_kid}
use Rattle.doc_edits.proofs.CopyLemmas.{names-both, names-changed}

-- a word on nodes, read along a list of them
pub word-at : {A : Type 0} (f : Option Node → A) (nodes : List (Option Node)) (n : ℕ) → get_or (map f nodes) n (f None) ≡ f (get_or nodes n None)
word-at f [] n = refl
word-at f (o ∷ nodes) zero = refl
word-at f (o ∷ nodes) (suc n) = word-at f nodes n

known-kid : (count before k : ℕ) (o : Option Node) → NameIsKnown count o → NameIsKnown count (kept_kid before k o)
known-kid count before k None h = tt
known-kid count before k (Some node) h = h

pub names-grafted : (count p before k : ℕ) (copies nodes : List (Option Node)) → NamesAreBelow count nodes → NamesAreBelow count copies → NamesAreBelow count (grafted p before k copies nodes)
names-grafted count p before k copies nodes h g =
    names-both count (set nodes p (kept_kid before k (get_or nodes p None))) copies (names-changed count (kept_kid before k) (known-kid count before k) nodes p h) g

-- what is kept beside a node with a kid more
pub kid-depth : (before k : ℕ) (o : Option Node) → depth_at (kept_kid before k o) ≡ depth_at o
kid-depth before k None = refl
kid-depth before k (Some node) = refl

pub kid-rank : (before k : ℕ) (o : Option Node) → rank_at (kept_kid before k o) ≡ rank_at o
kid-rank before k None = refl
kid-rank before k (Some node) = refl

kid-seen : (names : List Name) (before k : ℕ) (o : Option Node) → node_seen names (kept_kid before k o) ≡ with_kid before k (node_seen names o)
kid-seen names before k None = refl
kid-seen names before k (Some node) = refl

-- the table that is seen
pub seen-grafted : (names : List Name) (p before k : ℕ) (copies nodes : List (Option Node)) →
    table_seen names (grafted p before k copies nodes) ≡ changed_at p (with_kid before k) (table_seen names nodes) ++ table_seen names copies
seen-grafted names p before k copies nodes =
    map-append (node_seen names) (set nodes p (kept_kid before k (get_or nodes p None))) copies
    ∙ ap (λ l. l ++ table_seen names copies)
    (map-set (node_seen names) nodes p (kept_kid before k (get_or nodes p None))
    ∙ ap (set (table_seen names nodes) p) (kid-seen names before k (get_or nodes p None) ∙ ap (with_kid before k) (sym (seen-entry names nodes p))))
