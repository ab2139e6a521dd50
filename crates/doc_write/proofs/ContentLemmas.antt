-- What the kind of a node says of its name and its text.
use Rattle.std.proofs.Common.{◌≡◌, ◌≢◌, ℕ, true, List, [], ◌++◌, Option, None, Some, refl, ap, ◌∙◌, append-nil}
use Rattle.std.specs.List.{flat_map}
use Rattle.std.proofs.lemmas.List.Folds.{flat_map-map}
use Rattle.pyx_core.specs.Written.{start_line, attr_line, end_line, chars_line, pi_line, comment_line}
use Rattle.doc_tree.specs.kind.Kind.TheVariants.{Root, Element, Attribute, Text, Comment, Pi}
use Rattle.doc_tree.specs.Lines.{declares, first_lines, last_lines, lines_at}
use Rattle.doc_tree.specs.Table.{Table, Name, Content, root, element, attribute, text, comment, instruction, content_of, kind_of, kind_at, name_of, name_at, decls_of, decls_at, value_of, value_at}
use Rattle.doc_tree.specs.QNames.{qname_of, written_in}
use Rattle.doc_write.specs.TreeText.{line_text}
use Rattle.doc_write.specs.inner.Parts.{closing_text, decl_text, has_name, opening_text}

abbrev opening : Option Content → List ℕ
opening content = flat_map line_text (lines_at first_lines content)

abbrev closing : Option Content → List ℕ
closing content = flat_map line_text (lines_at last_lines content)

-- a node of a kind with names has a name
pub named : (T : Table) (n : ℕ) → has_name (kind_of T n) ≡ true → name_of T n ≢ None
named T n is = by (content_of T n) is
  where
    by : (content : Option Content) → has_name (kind_at content) ≡ true → name_at content ≢ None
    by None is none = absurd (cc)
    by (Some root) is none = absurd (cc)
    by (Some (element name decls)) is none = absurd (cc)
    by (Some (attribute name value)) is none = absurd (cc)
    by (Some (text characters)) is none = absurd (cc)
    by (Some (comment characters)) is none = absurd (cc)
    by (Some (instruction name body)) is none = absurd (cc)

pub element-opens : (T : Table) (n : ℕ) → kind_of T n ≡ Some Element →
    opening_text T n ≡ start_line (written_in (name_of T n)) ++ flat_map decl_text (decls_of T n)
element-opens T n is = by (content_of T n) is
  where
    by : (content : Option Content) → kind_at content ≡ Some Element →
        opening content ≡ start_line (written_in (name_at content)) ++ flat_map decl_text (decls_at content)
    by None is = absurd (cc)
    by (Some root) is = absurd (cc)
    by (Some (element name decls)) is = ap (λ l. start_line (qname_of name) ++ l) (flat_map-map line_text declares decls)
    by (Some (attribute name value)) is = absurd (cc)
    by (Some (text characters)) is = absurd (cc)
    by (Some (comment characters)) is = absurd (cc)
    by (Some (instruction name body)) is = absurd (cc)

pub element-closes : (T : Table) (n : ℕ) → kind_of T n ≡ Some Element → closing_text T n ≡ end_line (written_in (name_of T n))
element-closes T n is = by (content_of T n) is
  where
    by : (content : Option Content) → kind_at content ≡ Some Element → closing content ≡ end_line (written_in (name_at content))
    by None is = absurd (cc)
    by (Some root) is = absurd (cc)
    by (Some (element name decls)) is = append-nil (end_line (qname_of name))
    by (Some (attribute name value)) is = absurd (cc)
    by (Some (text characters)) is = absurd (cc)
    by (Some (comment characters)) is = absurd (cc)
    by (Some (instruction name body)) is = absurd (cc)

-- no other node has a closing line
pub others-close : (T : Table) (n : ℕ) → kind_of T n ≢ Some Element → closing_text T n ≡ []
others-close T n other = by (content_of T n) other
  where
    by : (content : Option Content) → kind_at content ≢ Some Element → closing content ≡ []
    by None other = refl
    by (Some root) other = refl
    by (Some (element name decls)) other = absurd (other refl)
    by (Some (attribute name value)) other = refl
    by (Some (text characters)) other = refl
    by (Some (comment characters)) other = refl
    by (Some (instruction name body)) other = refl

pub root-opens : (T : Table) (n : ℕ) → kind_of T n ≡ Some Root → opening_text T n ≡ []
root-opens T n is = by (content_of T n) is
  where
    by : (content : Option Content) → kind_at content ≡ Some Root → opening content ≡ []
    by None is = refl
    by (Some root) is = refl
    by (Some (element name decls)) is = absurd (cc)
    by (Some (attribute name value)) is = absurd (cc)
    by (Some (text characters)) is = absurd (cc)
    by (Some (comment characters)) is = absurd (cc)
    by (Some (instruction name body)) is = absurd (cc)

pub attribute-opens : (T : Table) (n : ℕ) (name : Name) → kind_of T n ≡ Some Attribute → name_of T n ≡ Some name →
    opening_text T n ≡ attr_line (qname_of name) (value_of T n)
attribute-opens T n name is called = by (content_of T n) is called
  where
    by : (content : Option Content) → kind_at content ≡ Some Attribute → name_at content ≡ Some name → opening content ≡ attr_line (qname_of name) (value_at content)
    by None is called = absurd (cc)
    by (Some root) is called = absurd (cc)
    by (Some (element _ decls)) is called = absurd (cc)
    by (Some (attribute own value)) is called = append-nil (attr_line (qname_of own) value) ∙ ap (λ (c : Option Name). attr_line (written_in c) value) called
    by (Some (text characters)) is called = absurd (cc)
    by (Some (comment characters)) is called = absurd (cc)
    by (Some (instruction _ body)) is called = absurd (cc)

pub text-opens : (T : Table) (n : ℕ) → kind_of T n ≡ Some Text → opening_text T n ≡ chars_line (value_of T n)
text-opens T n is = by (content_of T n) is
  where
    by : (content : Option Content) → kind_at content ≡ Some Text → opening content ≡ chars_line (value_at content)
    by None is = absurd (cc)
    by (Some root) is = absurd (cc)
    by (Some (element name decls)) is = absurd (cc)
    by (Some (attribute name value)) is = absurd (cc)
    by (Some (text characters)) is = append-nil (chars_line characters)
    by (Some (comment characters)) is = absurd (cc)
    by (Some (instruction name body)) is = absurd (cc)

pub comment-opens : (T : Table) (n : ℕ) → kind_of T n ≡ Some Comment → opening_text T n ≡ comment_line (value_of T n)
comment-opens T n is = by (content_of T n) is
  where
    by : (content : Option Content) → kind_at content ≡ Some Comment → opening content ≡ comment_line (value_at content)
    by None is = absurd (cc)
    by (Some root) is = absurd (cc)
    by (Some (element name decls)) is = absurd (cc)
    by (Some (attribute name value)) is = absurd (cc)
    by (Some (text characters)) is = absurd (cc)
    by (Some (comment characters)) is = append-nil (comment_line characters)
    by (Some (instruction name body)) is = absurd (cc)

pub instruction-opens : (T : Table) (n : ℕ) (name : Name) → kind_of T n ≡ Some Pi → name_of T n ≡ Some name →
    opening_text T n ≡ pi_line name.local (value_of T n)
instruction-opens T n name is called = by (content_of T n) is called
  where
    local_at : Option Name → List ℕ
    local_at None = []
    local_at (Some name) = name.local

    by : (content : Option Content) → kind_at content ≡ Some Pi → name_at content ≡ Some name → opening content ≡ pi_line name.local (value_at content)
    by None is called = absurd (cc)
    by (Some root) is called = absurd (cc)
    by (Some (element _ decls)) is called = absurd (cc)
    by (Some (attribute _ value)) is called = absurd (cc)
    by (Some (text characters)) is called = absurd (cc)
    by (Some (comment characters)) is called = absurd (cc)
    by (Some (instruction own body)) is called =
        let e : own ≡ name = cc in
        append-nil (pi_line own.local body) ∙ ap (λ (c : Name). pi_line c.local body) e
