-- Names that were read are the same in both trees: that of a node, and those along an axis.
use Rattle.std.proofs.Common.{◌≡◌, ℕ, Bool, true, false, cond, ◌&&◌, eqb, List, [], ◌∷◌, Option, None, Some, map, refl, sym, ap, ◌∙◌}
use Rattle.std.proofs.Common.{subst, true≢false, eqb-true}
use Rattle.std.specs.List.{list_any}
use Rattle.std.specs.Prelude.{bytes_eq, filter, slice_get}
use Rattle.doc_tree.specs.cell.Cell.{Cell}
use Rattle.doc_tree.specs.cell.Cell.TheVariants.{Name as NameOf}
use Rattle.doc_tree.specs.kind.Kind.{Kind}
use Rattle.doc_tree.specs.kind.Kind.TheVariants as kinds
use Rattle.doc_tree.specs.declared.axes.Axis.{Axis}
use Rattle.doc_tree.specs.declared.axes.Axis.TheVariants as axes
use Rattle.doc_tree.specs.declared.axes.NodeTest.{NodeTest}
use Rattle.doc_tree.specs.declared.axes.NodeTest.TheVariants.{Any, Star, InNamespace, Named, Text, Comment, Pi, PiNamed}
use Rattle.doc_tree.specs.Kinds.{has_own_name, is_element, is_text}
use Rattle.doc_tree.specs.Lists.{mem}
use Rattle.doc_tree.specs.Table.{Name, Table, kind_of, name_of}
use Rattle.doc_axes.specs.Axes.{is_attribute_kind}
use Rattle.doc_axes.specs.NodeTests.{is_comment, is_instruction, is_principal, named, passes}
use Rattle.doc_edit_laws.specs.Agreement.{AllStay, Stays}
use Rattle.doc_edit_laws.proofs.Composing.{neither}
use Rattle.xp_outcome.specs.Cells.{names_on}
use Rattle.xp_outcome.specs.Evaluation.{all_reading, done}
use Rattle.xp_values.specs.declared.values.EvalFault.{EvalFault}
use Rattle.xp_meaning.specs.Evaluation.{Lets}
use Rattle.xp_meaning.specs.Names.{of_name}
use Rattle.xp_meaning.specs.Reads.{is_by_name, name_read, read_if}
use Rattle.xp_locality_laws.specs.Locality.{AllKept, Changed}
use Rattle.xp_locality_laws.proofs.StandLemmas.{Same, same-all_reading, same-done, same-equal}
use Rattle.xp_locality_laws.proofs.TestLemmas.{either}

-- kinds whose names are cells
element-named : (k : Option Kind) → is_element k ≡ true → has_own_name k ≡ true
element-named None h = absurd (true≢false (sym h))
element-named (Some kinds.Root) h = absurd (true≢false (sym h))
element-named (Some kinds.Element) h = refl
element-named (Some kinds.Attribute) h = refl
element-named (Some kinds.Text) h = absurd (true≢false (sym h))
element-named (Some kinds.Comment) h = absurd (true≢false (sym h))
element-named (Some kinds.Pi) h = absurd (true≢false (sym h))

attribute-named : (k : Option Kind) → is_attribute_kind k ≡ true → has_own_name k ≡ true
attribute-named None h = absurd (true≢false (sym h))
attribute-named (Some kinds.Root) h = absurd (true≢false (sym h))
attribute-named (Some kinds.Element) h = refl
attribute-named (Some kinds.Attribute) h = refl
attribute-named (Some kinds.Text) h = absurd (true≢false (sym h))
attribute-named (Some kinds.Comment) h = absurd (true≢false (sym h))
attribute-named (Some kinds.Pi) h = absurd (true≢false (sym h))

pub principal-named : (axis : Axis) (k : Option Kind) → is_principal axis k ≡ true → has_own_name k ≡ true
principal-named axes.Attribute k h = attribute-named k h
principal-named axis k h = element-named k h

instruction-unnamed : (k : Option Kind) → is_instruction k ≡ true → has_own_name k ≡ false
instruction-unnamed None h = refl
instruction-unnamed (Some kinds.Root) h = refl
instruction-unnamed (Some kinds.Element) h = absurd (true≢false (sym h))
instruction-unnamed (Some kinds.Attribute) h = absurd (true≢false (sym h))
instruction-unnamed (Some kinds.Text) h = refl
instruction-unnamed (Some kinds.Comment) h = refl
instruction-unnamed (Some kinds.Pi) h = refl

-- a second test that counts where the first one passes
guarded : (a b x y : Bool) → a ≡ b → (a ≡ true → x ≡ y) → (a && x) ≡ (b && y)
guarded true b x y e h = h refl ∙ ap (λ c. c && y) e
guarded false b x y e h = ap (λ c. c && y) e

module _ (T : Table) (touched : Cell → Bool) (axis : Axis) where
  -- none of the names of some nodes was touched, and so not that of one of them
  pub name-kept : (ns : List ℕ) → list_any touched (names_on T axis ns) ≡ false →
      (m : ℕ) → mem m ns ≡ true → is_principal axis (kind_of T m) ≡ true → touched (NameOf m) ≡ false
  name-kept [] h m here principal = absurd (true≢false (sym here))
  name-kept (n ∷ ns) h m here principal = by (is_principal axis (kind_of T n)) refl h (λ k more. name-kept ns k m more principal)
    where
      by : (b : Bool) → is_principal axis (kind_of T n) ≡ b →
          list_any touched (map NameOf
          (cond b (n ∷ filter (λ k. is_principal axis (kind_of T k)) ns) (filter (λ k. is_principal axis (kind_of T k)) ns))) ≡ false →
          (list_any touched (names_on T axis ns) ≡ false → mem m ns ≡ true → touched (NameOf m) ≡ false) → touched (NameOf m) ≡ false
      by true e k rest =
          let parts = neither (touched (NameOf n)) (list_any touched (names_on T axis ns)) k in
          either (eqb m n) (mem m ns) here (λ same. ap (λ j. touched (NameOf j)) (eqb-true m n same) ∙ parts.0) (λ more. rest parts.1 more)
      by false e k rest =
          either (eqb m n) (mem m ns) here
          (λ same. absurd (true≢false (sym principal ∙ ap (λ j. is_principal axis (kind_of T j)) (eqb-true m n same) ∙ e))) (λ more. rest k more)

module _ (T U : Table) (touched : Cell → Bool) (L M : Lets) (changed : Changed T U touched) where
  -- a node's name, where its kind has none that is a cell, or it was not touched
  pub same-name : (n : ℕ) → Stays T U n → (has_own_name (kind_of T n) ≡ true → touched (NameOf n) ≡ false) → name_of T n ≡ name_of U n
  same-name n stays h = by (has_own_name (kind_of T n)) refl
    where
      by : (b : Bool) → has_own_name (kind_of T n) ≡ b → name_of T n ≡ name_of U n
      by true e = changed.agree.name n stays e (h e)
      by false e = changed.agree.target n stays e

  -- a test of a node whose name is the same where the test looks at it
  pub same-test : (axis : Axis) (node_test : NodeTest) (n : ℕ) → Stays T U n →
      (is_by_name node_test ≡ true → is_principal axis (kind_of T n) ≡ true → touched (NameOf n) ≡ false) →
      passes T axis node_test n ≡ passes U axis node_test n
  same-test axis Any n stays h = refl
  same-test axis Star n stays h = ap (is_principal axis) (changed.agree.kind n stays)
  same-test axis (InNamespace uri) n stays h =
      guarded (is_principal axis (kind_of T n)) (is_principal axis (kind_of U n)) _ _ (ap (is_principal axis) (changed.agree.kind n stays))
      (λ principal. ap (λ name. named name (λ held. bytes_eq held.uri uri)) (same-name n stays (λ _. h refl principal)))
  same-test axis (Named uri local) n stays h =
      guarded (is_principal axis (kind_of T n)) (is_principal axis (kind_of U n)) _ _ (ap (is_principal axis) (changed.agree.kind n stays))
      (λ principal. ap (λ name. named name (λ held. bytes_eq held.uri uri && bytes_eq held.local local)) (same-name n stays (λ _. h refl principal)))
  same-test axis Text n stays h = ap is_text (changed.agree.kind n stays)
  same-test axis Comment n stays h = ap is_comment (changed.agree.kind n stays)
  same-test axis Pi n stays h = ap is_instruction (changed.agree.kind n stays)
  same-test axis (PiNamed target) n stays h =
      guarded (is_instruction (kind_of T n)) (is_instruction (kind_of U n)) _ _ (ap is_instruction (changed.agree.kind n stays))
      (λ e. ap (λ name. named name (λ held. bytes_eq held.local target)) (changed.agree.target n stays (instruction-unnamed (kind_of T n) e)))

  -- a part of the name that was read
  own-kept : (b : Bool) (n : ℕ) → AllKept T U touched L M (read_if b (NameOf n)) → b ≡ true → touched (NameOf n) ≡ false
  own-kept true n k e = k.0
  own-kept false n k e = absurd (true≢false (sym e))

  pub same-of_name : {A : Type 0} (nodes : A → List ℕ) (n : Option ℕ) (part : Option Name → A) → ((m : ℕ) → n ≡ Some m → Stays T U m) →
      ((name : Option Name) → AllStay T U (nodes (part name))) → Same T U touched L M nodes (of_name T n part) (of_name U n part)
  same-of_name nodes None part h stay =
      same-all_reading T U touched L M nodes [] (done (part None)) (done (part None))
      (λ _. same-done T U touched L M {F = EvalFault} nodes (part None) (stay None))
  same-of_name nodes (Some n) part h stay =
      let stays = h n refl in
      same-equal T U touched L M nodes (of_name T (Some n) part) (all_reading (name_read T (Some n)) (done (part (name_of U n))))
      (of_name U (Some n) part)
      (ap (λ kind. all_reading (read_if (has_own_name kind) (NameOf n)) (done (part (name_of U n)))) (changed.agree.kind n stays))
      (same-all_reading T U touched L M nodes (name_read T (Some n)) (done (part (name_of T n))) (done (part (name_of U n)))
      (λ k. same-equal T U touched L M {F = EvalFault} nodes (done (part (name_of T n))) (done (part (name_of T n))) (done (part (name_of U n)))
      (ap (λ name. done (part name)) (same-name n stays (own-kept (has_own_name (kind_of T n)) n k)))
      (same-done T U touched L M nodes (part (name_of T n)) (stay (name_of T n)))))

  -- the first of some nodes
  pub first-stays : (ns : List ℕ) → AllStay T U ns → (m : ℕ) → slice_get ns 0 ≡ Some m → Stays T U m
  first-stays [] h m e = cc
  first-stays (n ∷ ns) h m e = let same : n ≡ m = cc in subst (λ k. Stays T U k) same h.0
