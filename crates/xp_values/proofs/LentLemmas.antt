-- An element that holds one text alone.
use Rattle.std.proofs.Common.{◌≡◌, ℕ, true, List, [], ◌∷◌, ◌++◌, Option, None, Some, refl, sym, ap, ◌∙◌, true≢false, append-nil}
use Rattle.std.specs.List.{flat_map}
use Rattle.doc_tree.specs.kind.Kind.TheVariants as kinds
use Rattle.doc_tree.specs.Kinds.{holds_kids}
use Rattle.doc_tree.specs.Laws.{WellFormed, Walks}
use Rattle.doc_tree.specs.Lists.{mem}
use Rattle.doc_tree.specs.Table.{Table, Content, root, element, attribute, text, comment, instruction, content_of, kind_at, kind_of, kids_of, value_at, value_of}
use Rattle.doc_tree.specs.Walks.{characters_in, joined_text, string_value_in, string_value_of}
use Rattle.doc_tree.proofs.ListLemmas.{mem-head}

-- a holder of kids has no characters of its own, and its string-value is the text below it
silent : (o : Option Content) → holds_kids (kind_at o) ≡ true → characters_in o ≡ []
silent None holds = refl
silent (Some root) holds = refl
silent (Some (element name decls)) holds = refl
silent (Some (attribute name value)) holds = refl
silent (Some (text characters)) holds = absurd (cc)
silent (Some (comment characters)) holds = refl
silent (Some (instruction name characters)) holds = refl

holder_value : (T : Table) (n : ℕ) (o : Option Content) → holds_kids (kind_at o) ≡ true → string_value_in T n o ≡ joined_text T n
holder_value T n None holds = absurd (cc)
holder_value T n (Some root) holds = refl
holder_value T n (Some (element name decls)) holds = refl
holder_value T n (Some (attribute name value)) holds = absurd (cc)
holder_value T n (Some (text characters)) holds = absurd (cc)
holder_value T n (Some (comment characters)) holds = absurd (cc)
holder_value T n (Some (instruction name characters)) holds = absurd (cc)

-- the characters of a text are its value
spoken : (o : Option Content) → kind_at o ≡ Some kinds.Text → characters_in o ≡ value_at o
spoken None is = refl
spoken (Some root) is = refl
spoken (Some (element name decls)) is = refl
spoken (Some (attribute name value)) is = absurd (cc)
spoken (Some (text characters)) is = refl
spoken (Some (comment characters)) is = absurd (cc)
spoken (Some (instruction name characters)) is = absurd (cc)

-- a list without members is empty
no_members : (ns : List ℕ) → ((n : ℕ) → mem n ns ≡ true → ⊥) → ns ≡ []
no_members [] none = refl
no_members (n ∷ ns) none = absurd (none n (mem-head n ns))

-- the text's value is the string-value of what holds it alone
pub value_of_holder : (T : Table) (n kid : ℕ) → WellFormed T → Walks T → holds_kids (kind_of T n) ≡ true → kids_of T n ≡ kid ∷ [] → kind_of T kid ≡ Some kinds.Text →
    value_of T kid ≡ string_value_of T n
value_of_holder T n kid formed walks holds alone is =
    let no_kids : kids_of T kid ≡ [] = no_members (kids_of T kid) (λ k h. true≢false (sym (formed.holder_kind kid k h) ∙ ap holds_kids is)) in
    let below_kid : joined_text T kid ≡ value_of T kid =
    walks.text_at kid
    ∙ (ap (λ ks. characters_in (content_of T kid) ++ flat_map (joined_text T) ks) no_kids
    ∙ (append-nil (characters_in (content_of T kid)) ∙ spoken (content_of T kid) is)) in
    let below : joined_text T n ≡ value_of T kid =
    walks.text_at n
    ∙ (ap (λ ks. characters_in (content_of T n) ++ flat_map (joined_text T) ks) alone
    ∙ (ap (λ cs. cs ++ (joined_text T kid ++ [])) (silent (content_of T n) holds)
    ∙ (append-nil (joined_text T kid) ∙ below_kid))) in
    sym (holder_value T n (content_of T n) holds ∙ below)
