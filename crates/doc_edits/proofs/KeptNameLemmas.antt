-- The kept nodes, one of which has another name.
use Rattle.std.proofs.Common.{◌≡◌, ℕ, ◌<◌, List, length, get_or, set, Option, None, refl, sym, ◌∙◌, subst}
use Rattle.doc_table.specs.declared.node.Node.{Node}
use Rattle.doc_table.specs.declared.node.NodeContent.{NodeContent}
use Rattle.doc_table.specs.declared.node.NodeContent.TheVariants as kept
use Rattle.doc_table.specs.Table.{Table, Name, numbered}
use Rattle.doc_table.specs.inner.Kept.{NameIsBelow}
use Rattle.doc_table.specs.inner.Parts.{Parts, IsSound, table_of}
use Rattle.doc_table.specs.inner.Sound.{Sound}
use Rattle.doc_table.specs.inner.Views.{content_seen, table_seen}
use Rattle.doc_edits.specs.Changes.{renaming, renamed}
use Rattle.doc_edits.specs.Fitting.{MayRename}
use Rattle.doc_edits.specs.inner.KeptContents.{content_renaming, kept_holding}
use Rattle.doc_edits.proofs.KeptContentLemmas.{IsSeenAs, sound-put, table-put}
use Rattle.doc_edits.proofs.RecontentLemmas.{same-held}
use Rattle.doc_edits.proofs.RenamingLemmas.{renaming-kind, renaming-value, renames-keep-trees}

content-renamed : (names : List Name) (id : ℕ) (c : NodeContent) → content_seen names (content_renaming id c) ≡ renaming (numbered names id) (content_seen names c)
content-renamed names id kept.Root = refl
content-renamed names id (kept.Element _ decls) = refl
content-renamed names id (kept.Attribute _ value) = refl
content-renamed names id (kept.Text characters) = refl
content-renamed names id (kept.Comment characters) = refl
content-renamed names id (kept.Pi _ characters) = refl

name-known : (count id : ℕ) → id < count → (c : NodeContent) → NameIsBelow count c → NameIsBelow count (content_renaming id c)
name-known count id below kept.Root h = h
name-known count id below (kept.Element _ decls) h = below
name-known count id below (kept.Attribute _ value) h = below
name-known count id below (kept.Text characters) h = h
name-known count id below (kept.Comment characters) h = h
name-known count id below (kept.Pi _ characters) h = h

module _ (names : List Name) (nodes : List (Option Node)) (n id : ℕ) (below : id < length names) where
  abbrev after : List (Option Node)
  after = set nodes n (kept_holding (content_renaming id) (get_or nodes n None))

  abbrev T : Table
  T = table_seen names nodes

  abbrev name : Name
  name = numbered names id

  as-renamed : IsSeenAs names (renaming name) (content_renaming id)
  as-renamed = record { seen = content-renamed names id; known = name-known (length names) id below }

  -- a sound tree stays so, and has the name
  sound-renamed : (live bytes : ℕ) → Sound nodes names live bytes → MayRename T n name → Sound after names live bytes × (table_seen names after ≡ renamed T n name)
  sound-renamed live bytes s may = (
    sound-put names (renaming name) (content_renaming id) as-renamed nodes n (renaming-kind name) live bytes bytes s
        (renames-keep-trees T n name may s.formed)
        (s.bytes_is ∙ sym (same-held (renaming name) (renaming-value name) T n)),
    table-put names (renaming name) (content_renaming id) as-renamed nodes n,
  )

-- the same, from the parts of a table
pub renaming-sound : (old : Parts) (names : List Name) (nodes : List (Option Node)) (live bytes cap n id : ℕ)
    → record { nodes = nodes; names = names; live = live; text_bytes = bytes; pair_cap = cap } ≡ old → IsSound old → id < length old.names
    → MayRename (table_of old) n (numbered old.names id) → (after : List (Option Node)) → after ≡ set nodes n (kept_holding (content_renaming id) (get_or nodes n None))
    → Sound after names live bytes × (table_seen names after ≡ renamed (table_of old) n (numbered old.names id))
renaming-sound old names nodes live bytes cap n id view sound known may after is =
    rw is
    (subst (λ (old : Parts). IsSound old → id < length old.names → MayRename (table_of old) n (numbered old.names id) →
    Sound (set nodes n (kept_holding (content_renaming id) (get_or nodes n None))) names live bytes
    × (table_seen names (set nodes n (kept_holding (content_renaming id) (get_or nodes n None))) ≡ renamed (table_of old) n (numbered old.names id))) view
    (λ s below may. sound-renamed names nodes n id below live bytes s may) sound known may)
