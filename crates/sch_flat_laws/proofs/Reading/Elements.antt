-- What an element is that tells the lines of an element's events.
use Rattle.std.proofs.Common.{◌≡◌, ℕ, true, false, List, [], ◌∷◌, ◌++◌, map, Option, None, Some, refl, sym, ap, ◌∙◌}
use Rattle.std.specs.List.{flat_map, list_all}
use Rattle.std.proofs.lemmas.Bool.{and_from, and_parts}
use Rattle.std.proofs.lemmas.List.{append_cancel_right}
use Rattle.std.proofs.lemmas.List.Folds.{list_all-append}
use Rattle.doc_tree.specs.Laws.{HasWaysUp, Walks, WellFormed}
use Rattle.doc_tree.specs.Lines.{Line, starts, declares, ends, first_lines, last_lines, lines_at}
use Rattle.doc_tree.specs.Kinds.{can_be_kid}
use Rattle.doc_tree.specs.Scope.{Decl}
use Rattle.doc_tree.specs.Table.{Table, Name, Content, root, element, attribute, text, comment, instruction, content_of, kids_of, kind_at, kind_of}
use Rattle.name_scopes.specs.Declarations.{declarations, plain_attrs}
use Rattle.name_scopes.specs.QNames.{as_written}
use Rattle.name_scopes.specs.ScopedTree.{attribute_line, unscoped, written}
use Rattle.pyx_core.specs.declared.event.Attr.{Attr}
use Rattle.pyx_core.specs.declared.event.Event.{Event}
use Rattle.pyx_core.specs.declared.event.Event.TheVariants as event
use Rattle.sch_flat_laws.proofs.Reading.Blocks.{is_attribute, is_loud, is_quiet, split_quiet}
use Rattle.sch_flat_laws.proofs.Reading.EventBlocks.{Holds, head_lines, quiet_head, said, said_element}
use Rattle.sch_flat_laws.proofs.Reading.Kids.{Items, items_inner}
use Rattle.sch_flat_laws.proofs.Reading.TreeBlocks.{attributes_told, quiet_attributes, quiet_decls, plain_attributes, told, told_at}

-- an element with this name, these attributes, and kids that tell what it holds
pub record IsElement (T : Table) (n : ℕ) (name : List ℕ) (attrs : List Attr) (held : List Event) : Type 0 where
  pub its : Name
  pub decls : List Decl
  pub content : content_of T n ≡ Some (element its decls)
  pub named : as_written its ≡ written name
  pub declared : decls ≡ declarations attrs
  pub attributes : attributes_told T n ≡ map attribute_line (plain_attrs attrs)
  pub kids : flat_map (told T) (kids_of T n) ≡ said held

attribute-lines : (attrs : List Attr) → list_all is_attribute (map attribute_line attrs) ≡ true
unfolding is_attribute
attribute-lines [] = refl
attribute-lines (a ∷ attrs) = attribute-lines attrs

no-declaration : (decl : Decl) (lines more : List Line) → list_all is_attribute lines ≡ true → lines ≡ declares decl ∷ more → ⊥
unfolding is_attribute
no-declaration decl [] more h same = absurd (cc)
no-declaration decl (line ∷ lines) more h same =
    let is : line ≡ declares decl = cc in
    let yes : is_attribute line ≡ true = (and_parts (is_attribute line) (list_all is_attribute lines) h).0 in
    let no : is_attribute line ≡ false = ap is_attribute is in absurd (cc)

split-declared : (ds es : List Decl) (xs ys : List Line) → list_all is_attribute xs ≡ true → list_all is_attribute ys ≡ true →
    map unscoped (map declares ds) ++ xs ≡ map declares es ++ ys → (ds ≡ es) × (xs ≡ ys)
split-declared [] [] xs ys h k same = (refl, same)
split-declared [] (e ∷ es) xs ys h k same = absurd (no-declaration e xs (map declares es ++ ys) h same)
split-declared (d ∷ ds) [] xs ys h k same = absurd (no-declaration d ys (map unscoped (map declares ds) ++ xs) k (sym same))
split-declared (d ∷ ds) (e ∷ es) xs ys h k same =
    let head : declares d ≡ declares e = cc in
    let rest : map unscoped (map declares ds) ++ xs ≡ map declares es ++ ys = cc in
    let one : d ≡ e = cc in
    let parts = split-declared ds es xs ys h k rest in
    (ap (λ x. x ∷ ds) one ∙ ap (λ l. e ∷ l) parts.0, parts.1)

loud-end : (x : Name) → is_loud (ends x ∷ []) ≡ true
unfolding is_loud
loud-end x = refl

module _ (T : Table) (formed : WellFormed T) (ways : HasWaysUp T) (walks : Walks T) where
  pub told_as : (n : ℕ) (content : Option Content) → content_of T n ≡ content →
      told T n ≡ (map unscoped (lines_at first_lines content) ++ attributes_told T n) ++ (flat_map (told T) (kids_of T n) ++ map unscoped (lines_at last_lines content))
  told_as n content is =
      told_at T formed ways walks n
      ∙ ap (λ (c : Option Content). (map unscoped (lines_at first_lines c) ++ attributes_told T n) ++ (flat_map (told T) (kids_of T n) ++ map unscoped (lines_at last_lines c))) is

  pub is_element : (n : ℕ) (name : List ℕ) (attrs : List Attr) (held : List Event) → Holds held → Items T (kids_of T n) → can_be_kid (kind_of T n) ≡ true →
      told T n ≡ said (event.Start name attrs ∷ (held ++ event.End name ∷ [])) → IsElement T n name attrs held
  is_element n name attrs held holds items kid same = by (content_of T n) refl kid
    where
      lines : told T n ≡ starts (written name) ∷ (head_lines attrs ++ (said held ++ ends (written name) ∷ []))
      lines = same ∙ said_element name attrs held

      by : (content : Option Content) → content_of T n ≡ content → can_be_kid (kind_at content) ≡ true → IsElement T n name attrs held
      by None is kid = absurd (cc)
      by (Some root) is kid = absurd (cc)
      by (Some (attribute its value)) is kid = absurd (cc)
      by (Some (text characters)) is kid =
          let e = sym (told_as n (Some (text characters)) is) ∙ lines in absurd (cc)
      by (Some (comment characters)) is kid =
          let e = sym (told_as n (Some (comment characters)) is) ∙ lines in absurd (cc)
      by (Some (instruction its body)) is kid =
          let e = sym (told_as n (Some (instruction its body)) is) ∙ lines in absurd (cc)
      by (Some (element its decls)) is kid =
          let K = flat_map (told T) (kids_of T n) in
          let A = attributes_told T n in
          let e : starts (as_written its) ∷ ((map unscoped (map declares decls) ++ A) ++ (K ++ ends (as_written its) ∷ []))
          ≡ starts (written name) ∷ (head_lines attrs ++ (said held ++ ends (written name) ∷ [])) =
          sym (told_as n (Some (element its decls)) is) ∙ lines in
          let named : as_written its ≡ written name = cc in
          let tails : (map unscoped (map declares decls) ++ A) ++ (K ++ ends (as_written its) ∷ []) ≡ head_lines attrs ++ (said held ++ ends (written name) ∷ []) = cc in
          let quiet : list_all is_quiet (map unscoped (map declares decls) ++ A) ≡ true =
          list_all-append is_quiet (map unscoped (map declares decls)) A ∙ and_from _ _ (quiet_decls decls) (quiet_attributes T formed ways walks n) in
          let split = split_quiet (map unscoped (map declares decls) ++ A) (head_lines attrs) (K ++ ends (as_written its) ∷ []) (said held ++ ends (written name) ∷ [])
          quiet (quiet_head attrs) ((items_inner T (kids_of T n) items).loud (ends (as_written its) ∷ []) (loud-end (as_written its)))
          (holds.inner.loud (ends (written name) ∷ []) (loud-end (written name))) tails in
          let heads = split-declared decls (declarations attrs) A (map attribute_line (plain_attrs attrs)) (plain_attributes T formed ways walks n) (attribute-lines (plain_attrs attrs)) split.0 in
          record {
            its = its;
            decls = decls;
            content = is;
            named = named;
            declared = heads.0;
            attributes = heads.1;
            kids = append_cancel_right K (said held) (ends (written name) ∷ []) (ap (λ x. K ++ ends x ∷ []) (sym named) ∙ split.1);
          }
