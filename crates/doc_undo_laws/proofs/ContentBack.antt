-- A text or a name that is given back: the very table stands again.
use Rattle.std.proofs.Common.{◌≡◌, ℕ, zero, suc, List, [], ◌∷◌, Option, None, Some, refl, sym, ap}
use Rattle.doc_table.specs.Table.{Content, Facts, Name, Table, attribute, comment, content_at, element, entry_at, instruction, name_at, name_in, name_of, root, text, value_at, value_in, value_of}
use Rattle.doc_edits.specs.Changes.{changed_at, renamed, renaming, said, saying, with_name, with_text}

-- an entry that is changed and changed back
pub changed-back : (first back : Option Facts → Option Facts) (T : Table) (n : ℕ) → back (first (entry_at T n)) ≡ entry_at T n → changed_at n back (changed_at n first T) ≡ T
changed-back first back [] n same = refl
changed-back first back (e ∷ T) zero same = ap (λ (o : Option Facts). o ∷ T) same
changed-back first back (e ∷ T) (suc n) same = ap (λ (rest : Table). e ∷ rest) (changed-back first back T n same)

said-again : (new : List ℕ) (c : Content) → saying (value_in c) (saying new c) ≡ c
said-again new root = refl
said-again new (element name decls) = refl
said-again new (attribute name value) = refl
said-again new (text characters) = refl
said-again new (comment characters) = refl
said-again new (instruction name characters) = refl

text-again : (new : List ℕ) (o : Option Facts) → with_text (value_at (content_at o)) (with_text new o) ≡ o
text-again new None = refl
text-again new (Some node) = ap (λ (c : Content). Some (record node { content = c })) (said-again new node.content)

pub said-back : (T : Table) (n : ℕ) (new : List ℕ) → said (said T n new) n (value_of T n) ≡ T
said-back T n new = changed-back (with_text new) (with_text (value_of T n)) T n (text-again new (entry_at T n))

renamed-again : (name new : Name) (c : Content) → name_in c ≡ Some name → renaming name (renaming new c) ≡ c
renamed-again name new root h = absurd (cc)
renamed-again name new (element old decls) h = let same : old ≡ name = (cc) in ap (λ (k : Name). element k decls) (sym same)
renamed-again name new (attribute old value) h = let same : old ≡ name = (cc) in ap (λ (k : Name). attribute k value) (sym same)
renamed-again name new (text characters) h = absurd (cc)
renamed-again name new (comment characters) h = absurd (cc)
renamed-again name new (instruction target characters) h = refl

name-again : (name new : Name) (o : Option Facts) → name_at (content_at o) ≡ Some name → with_name name (with_name new o) ≡ o
name-again name new None h = absurd (cc)
name-again name new (Some node) h = ap (λ (c : Content). Some (record node { content = c })) (renamed-again name new node.content h)

pub renamed-back : (T : Table) (n : ℕ) (name new : Name) → name_of T n ≡ Some name → renamed (renamed T n new) n name ≡ T
renamed-back T n name new h = changed-back (with_name new) (with_name name) T n (name-again name new (entry_at T n) h)
