-- Names that get numbers, and lose them again where memory is wanting.
use Rattle.std.proofs.Common.{◌≡◌, ℕ, List, [], ◌∷◌, ◌++◌, length, take, Option, refl, sym, ap, ◌∙◌, ⊎_elim, append-nil}
use Rattle.std.proofs.lemmas.List.{take_at}
use Rattle.doc_names.specs.Numbering.{Numbered}
use Rattle.doc_table.specs.declared.node.Node.{Node}
use Rattle.doc_table.specs.inner.Parts.{Parts}
use Rattle.doc_table.specs.Table.{Name}
use Rattle.doc_edits.specs.Keeping.{NamesGrow}

-- a use of a name leaves the names before it where they are
pub names-grow : (before after : List Name) (name : Name) (number : ℕ) → Numbered before after name number → NamesGrow before after
names-grow before after name number n =
    ⊎_elim (λ (e : after ≡ before). let r : NamesGrow before after = ([], e ∙ sym (append-nil before)) in r)
    (λ (e : (after ≡ before ++ name ∷ []) × (number ≡ length before)). let r : NamesGrow before after = (name ∷ [], e.0) in r) n.added

-- parts of which only the names grew are those before, once the new names are forgotten
pub cut-parts : (old new : Parts) (nodes : List (Option Node)) (names after : List Name) (live bytes cap count : ℕ) →
    record { nodes = nodes; names = names; live = live; text_bytes = bytes; pair_cap = cap } ≡ new → new ≡ record old { names = new.names } → NamesGrow old.names new.names →
    count ≡ length old.names → after ≡ take count names →
    record { nodes = nodes; names = after; live = live; text_bytes = bytes; pair_cap = cap } ≡ old
cut-parts old new nodes names after live bytes cap count view kept grow counted cut =
    let back : after ≡ old.names =
    cut ∙ (ap (λ n. take n names) counted ∙ (ap (λ (parts : Parts). take (length old.names) parts.names) view
    ∙ (ap (take (length old.names)) grow.1 ∙ take_at old.names grow.0 (length old.names) refl))) in
    ap (λ (parts : Parts). record parts { names = after }) view
    ∙ (ap (λ (parts : Parts). record parts { names = after }) kept ∙ ap (λ ns. record old { names = ns }) back)
