-- The text of items is that of their events.
use Rattle.std.proofs.Common.{◌≡◌, ℕ, List, [], ◌∷◌, ◌++◌, map, refl, sym, ap, ap₂, ◌∙◌, append_assoc}
use Rattle.std.specs.List.{flat_map}
use Rattle.std.proofs.lemmas.Grind.{flat_map-append}
use Rattle.pyx_core.specs.declared.event.Attr.{Attr}
use Rattle.pyx_core.specs.declared.event.Event.{Event}
use Rattle.pyx_core.specs.declared.event.Event.TheVariants as event
use Rattle.pyx_core.specs.Written.{attr_line, attr_lines, end_line, event_lines, start_line, text_of, chars_line, comment_line, pi_line}
use Rattle.doc_tree.specs.Lines.{Line, declares, ends, starts}
use Rattle.doc_tree.specs.Scope.{Decl}
use Rattle.doc_tree.specs.Table.{Name}
use Rattle.doc_tree.specs.QNames.{qname_of}
use Rattle.doc_write.specs.TreeText.{line_text}
use Rattle.name_scopes.proofs.Items.{Items, nothing, an_element, a_text, a_comment, an_instruction, Pair, pair_line, decl_attr, pair_attr, start_attrs, item_lines, item_events}

pub text_of-append : (xs ys : List Event) → text_of (xs ++ ys) ≡ text_of xs ++ text_of ys
text_of-append [] ys = refl
text_of-append (x ∷ xs) ys = ap (λ l. event_lines x ++ l) (text_of-append xs ys) ∙ sym (append_assoc (event_lines x) (text_of xs) (text_of ys))

attr_lines-append : (xs ys : List Attr) → attr_lines (xs ++ ys) ≡ attr_lines xs ++ attr_lines ys
attr_lines-append [] ys = refl
attr_lines-append (x ∷ xs) ys = ap (λ l. attr_line x.name x.value ++ l) (attr_lines-append xs ys) ∙ sym (append_assoc (attr_line x.name x.value) (attr_lines xs) (attr_lines ys))

decl_texts : (decls : List Decl) → attr_lines (map decl_attr decls) ≡ flat_map line_text (map declares decls)
decl_texts [] = refl
decl_texts (d ∷ decls) = ap (λ l. attr_line (decl_attr d).name d.1 ++ l) (decl_texts decls)

pair_texts : (attrs : List Pair) → attr_lines (map pair_attr attrs) ≡ flat_map line_text (map pair_line attrs)
pair_texts [] = refl
pair_texts (a ∷ attrs) = ap (λ l. attr_line (qname_of a.0) a.1 ++ l) (pair_texts attrs)

tag_texts : (decls : List Decl) (attrs : List Pair) → attr_lines (start_attrs decls attrs) ≡ flat_map line_text (map declares decls) ++ flat_map line_text (map pair_line attrs)
tag_texts decls attrs = attr_lines-append (map decl_attr decls) (map pair_attr attrs) ∙ ap₂ (λ x y. x ++ y) (decl_texts decls) (pair_texts attrs)

-- what stands after a start tag
inside : (name : Name) (kids rest : Items) → flat_map line_text (item_lines kids) ≡ text_of (item_events kids) → flat_map line_text (item_lines rest) ≡ text_of (item_events rest) →
    flat_map line_text (item_lines kids ++ ends name ∷ item_lines rest) ≡ text_of (item_events kids ++ event.End (qname_of name) ∷ item_events rest)
inside name kids rest within later =
    flat_map-append line_text (item_lines kids) (ends name ∷ item_lines rest)
    ∙ ap₂ (λ x y. x ++ (end_line (qname_of name) ++ y)) within later
    ∙ sym (text_of-append (item_events kids) (event.End (qname_of name) ∷ item_events rest))

-- a start tag, and what stands after it
tag : (name : Name) (decls : List Decl) (attrs : List Pair) (lines : List Line) (events : List Event) → flat_map line_text lines ≡ text_of events →
    flat_map line_text (starts name ∷ (map declares decls ++ (map pair_line attrs ++ lines))) ≡ text_of (event.Start (qname_of name) (start_attrs decls attrs) ∷ events)
tag name decls attrs lines events behind =
    let declared : List ℕ = flat_map line_text (map declares decls) in
    let others : List ℕ = flat_map line_text (map pair_line attrs) in
    let start : List ℕ = start_line (qname_of name) in
    ap (λ l. start ++ l) (
    flat_map-append line_text (map declares decls) (map pair_line attrs ++ lines)
    ∙ ap (λ l. declared ++ l) (flat_map-append line_text (map pair_line attrs) lines ∙ ap (λ l. others ++ l) behind)
    ∙ sym (append_assoc declared others (text_of events))
    ∙ ap (λ l. l ++ text_of events) (sym (tag_texts decls attrs)))
    ∙ sym (append_assoc start (attr_lines (start_attrs decls attrs)) (text_of events))

pub item_text : (items : Items) → flat_map line_text (item_lines items) ≡ text_of (item_events items)
item_text nothing = refl
item_text (an_element name decls attrs kids rest) =
    tag name decls attrs (item_lines kids ++ ends name ∷ item_lines rest) (item_events kids ++ event.End (qname_of name) ∷ item_events rest)
    (inside name kids rest (item_text kids) (item_text rest))
item_text (a_text characters rest) = ap (λ l. chars_line characters ++ l) (item_text rest)
item_text (a_comment characters rest) = ap (λ l. comment_line characters ++ l) (item_text rest)
item_text (an_instruction name body rest) = ap (λ l. pi_line name.local body ++ l) (item_text rest)
