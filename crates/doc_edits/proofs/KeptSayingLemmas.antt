-- The kept nodes, one of which says another text.
use Rattle.std.proofs.Common.{◌≡◌, ℕ, ◌+◌, ◌-◌, ◌≤◌, List, length, get_or, set, Option, None, refl, subst, arith}
use Rattle.doc_table.specs.declared.node.Node.{Node}
use Rattle.doc_table.specs.declared.node.NodeContent.{NodeContent}
use Rattle.doc_table.specs.declared.node.NodeContent.TheVariants as kept
use Rattle.doc_table.specs.Table.{Table, Name, value_of}
use Rattle.doc_table.specs.inner.Kept.{NameIsBelow}
use Rattle.doc_table.specs.inner.Parts.{Parts, IsSound, table_of}
use Rattle.doc_table.specs.inner.Sound.{Sound}
use Rattle.doc_table.specs.inner.Views.{content_seen, table_seen}
use Rattle.doc_edits.specs.Changes.{saying, said}
use Rattle.doc_edits.specs.Fitting.{MaySay}
use Rattle.doc_edits.specs.inner.KeptContents.{content_saying, kept_holding}
use Rattle.doc_edits.proofs.KeptContentLemmas.{IsSeenAs, sound-put, table-put}
use Rattle.doc_edits.proofs.SayingLemmas.{saying-kind, held-less, held-said, sayings-keep-trees}

content-said : (names : List Name) (new : List ℕ) (c : NodeContent) → content_seen names (content_saying new c) ≡ saying new (content_seen names c)
content-said names new kept.Root = refl
content-said names new (kept.Element id decls) = refl
content-said names new (kept.Attribute id value) = refl
content-said names new (kept.Text characters) = refl
content-said names new (kept.Comment characters) = refl
content-said names new (kept.Pi id characters) = refl

name-kept : (count : ℕ) (new : List ℕ) (c : NodeContent) → NameIsBelow count c → NameIsBelow count (content_saying new c)
name-kept count new kept.Root h = h
name-kept count new (kept.Element id decls) h = h
name-kept count new (kept.Attribute id value) h = h
name-kept count new (kept.Text characters) h = h
name-kept count new (kept.Comment characters) h = h
name-kept count new (kept.Pi id characters) h = h

as-said : (names : List Name) (new : List ℕ) → IsSeenAs names (saying new) (content_saying new)
as-said names new = record { seen = content-said names new; known = name-kept (length names) new }

module _ (names : List Name) (nodes : List (Option Node)) (n : ℕ) (new : List ℕ) where
  abbrev after : List (Option Node)
  after = set nodes n (kept_holding (content_saying new) (get_or nodes n None))

  abbrev T : Table
  T = table_seen names nodes

  -- a sound tree stays so, and says the text
  sound-said : (live bytes : ℕ) → Sound nodes names live bytes → MaySay T n new
      → Sound after names live ((bytes - length (value_of T n)) + length new) × (table_seen names after ≡ said T n new)
  sound-said live bytes s may = (
    sound-put names (saying new) (content_saying new) (as-said names new) nodes n (saying-kind new) live bytes ((bytes - length (value_of T n)) + length new) s
        (sayings-keep-trees T n new s.formed may)
        (omega (arith, s.bytes_is, held-said T n new may.lives may.has_text, held-less T n may.lives)),
    table-put names (saying new) (content_saying new) (as-said names new) nodes n,
  )

-- the same, from the parts of a table
module _ (old : Parts) (names : List Name) (nodes : List (Option Node)) (live bytes cap n : ℕ) (new : List ℕ)
    (view : record { nodes = nodes; names = names; live = live; text_bytes = bytes; pair_cap = cap } ≡ old) (sound : IsSound old) (may : MaySay (table_of old) n new) where
  -- no text is longer than all together
  pub value-short : length (value_of (table_of old) n) ≤ bytes
  value-short =
      subst (λ old. IsSound old → MaySay (table_of old) n new → length (value_of (table_of old) n) ≤ bytes) view
      (λ s may. omega (arith, s.bytes_is, held-less (table_seen names nodes) n may.lives)) sound may

  pub saying-sound : (after : List (Option Node)) (old_length new_length : ℕ) → after ≡ set nodes n (kept_holding (content_saying new) (get_or nodes n None))
      → old_length ≡ length (value_of (table_of old) n) → new_length ≡ length new
      → Sound after names live ((bytes - old_length) + new_length) × (table_seen names after ≡ said (table_of old) n new)
  saying-sound after old_length new_length is_after is_old is_new =
      rw (is_after, is_old, is_new)
      (subst (λ old. IsSound old → MaySay (table_of old) n new →
      Sound (set nodes n (kept_holding (content_saying new) (get_or nodes n None))) names live ((bytes - length (value_of (table_of old) n)) + length new)
      × (table_seen names (set nodes n (kept_holding (content_saying new) (get_or nodes n None))) ≡ said (table_of old) n new)) view
      (λ s may. sound-said names nodes n new live bytes s may) sound may)
