-- Axes, node tests and node-sets where the nodes of a tree are renumbered.
use Rattle.std.proofs.Common.{◌≡◌, ℕ, Bool, true, false, cond, not, ◌&&◌, ◌||◌, List, [], ◌∷◌, ◌++◌, map, Option, None, Some, refl, sym, ap, ap₂, ◌∙◌}
use Rattle.std.proofs.lemmas.List.{map-append}
use Rattle.std.specs.Prelude.{bytes_eq, filter, option_map}
use Rattle.doc_tree.specs.cell.Cell.{Cell}
use Rattle.doc_tree.specs.cell.Cell.TheVariants as cells
use Rattle.doc_tree.specs.kind.Kind.{Kind}
use Rattle.doc_tree.specs.declared.axes.Axis.{Axis}
use Rattle.doc_tree.specs.declared.axes.Axis.TheVariants.{Ancestor, AncestorOrSelf, Attribute, Child, Descendant, DescendantOrSelf, Following, FollowingSibling, Parent, Preceding, PrecedingSibling, SelfNode}
use Rattle.doc_tree.specs.declared.axes.NodeTest.{NodeTest}
use Rattle.doc_tree.specs.declared.axes.NodeTest.TheVariants as tests
use Rattle.doc_tree.specs.Kinds.{has_own_name, holds_kids, is_element, is_text}
use Rattle.doc_tree.specs.Lists.{mem}
use Rattle.doc_tree.specs.Order.{after}
use Rattle.doc_tree.specs.Table.{Name, Table, attrs_of, kids_above, kids_of, kind_at, kind_of, name_at, name_of, parent_of, value_at, value_of}
use Rattle.doc_tree.specs.Walks.{ancestors, order}
use Rattle.doc_axes.specs.Axes.{axis_nodes, axis_order, backwards, is_after, is_ancestor, is_attribute, is_attribute_kind, is_descendant, is_one, is_reverse, is_sibling, kids_beside, on_axis}
use Rattle.doc_axes.specs.NodeTests.{is_comment, is_instruction, is_principal, named, passes}
use Rattle.doc_axes.specs.Sets.{in_order}
use Rattle.tree_iso.specs.Renumbering.{Hangs, Renumbers}
use Rattle.tree_iso.proofs.NumberLemmas.{after-moved, eqb-moved, filter-moved, mem-moved}
use Rattle.xp_outcome.specs.Cells.{cells_of, names_on}
use Rattle.xp_outcome.specs.Evaluation.{Read, cell, names_along, variable}
use Rattle.xp_meaning.specs.Reads.{axis_reads, kids_of_parent, name_read, read_if, sibling_reads}
use Rattle.xp_iso_laws.specs.Moved.{moved_cell, moved_read}

backwards-moved : (f : ℕ → ℕ) (ns : List ℕ) → backwards (map f ns) ≡ map f (backwards ns)
backwards-moved f [] = refl
backwards-moved f (n ∷ ns) = ap (λ (l : List ℕ). l ++ f n ∷ []) (backwards-moved f ns) ∙ sym (map-append f (backwards ns) (n ∷ []))

module _ (f : ℕ → ℕ) (T U : Table) (r : Renumbers f T U) (h : Hangs f T U) where
  pub kind-moved : (n : ℕ) → kind_of U (f n) ≡ kind_of T n
  kind-moved n = ap kind_at (r.content n)

  pub name-moved : (n : ℕ) → name_of U (f n) ≡ name_of T n
  name-moved n = ap name_at (r.content n)

  pub value-moved : (n : ℕ) → value_of U (f n) ≡ value_of T n
  value-moved n = ap value_at (r.content n)

  pub ancestor-moved : (n m : ℕ) → is_ancestor U (f n) (f m) ≡ is_ancestor T n m
  ancestor-moved n m = ap (mem (f m)) (h.ancestors_go n) ∙ mem-moved f r.apart m (ancestors T n)

  pub is_attribute-moved : (n : ℕ) → is_attribute U (f n) ≡ is_attribute T n
  is_attribute-moved n = ap is_attribute_kind (kind-moved n)

  pub is_after-moved : (n m : ℕ) → is_after U (f n) (f m) ≡ is_after T n m
  is_after-moved n m =
      ap (λ (l : List ℕ). mem (f m) (after (f n) l)) r.in_order
      ∙ (ap (mem (f m)) (after-moved f r.apart n (order T)) ∙ mem-moved f r.apart m (after n (order T)))

  is_one-moved : (o : Option ℕ) (m : ℕ) → is_one (option_map f o) (f m) ≡ is_one o m
  is_one-moved None m = refl
  is_one-moved (Some p) m = eqb-moved f r.apart m p

  kids_above-moved : (o : Option ℕ) → kids_above U (option_map f o) ≡ map f (kids_above T o)
  kids_above-moved None = refl
  kids_above-moved (Some p) = r.kids p

  beside-moved : (n : ℕ) → kids_beside U (f n) ≡ map f (kids_beside T n)
  beside-moved n =
      ap₂ (λ (b : Bool) (ns : List ℕ). cond b [] ns) (is_attribute-moved n) (ap (kids_above U) (r.parent n) ∙ kids_above-moved (parent_of T n)) ∙ by (is_attribute T n)
    where
      by : (b : Bool) → cond b [] (map f (kids_above T (parent_of T n))) ≡ map f (cond b [] (kids_above T (parent_of T n)))
      by true = refl
      by false = refl

  sibling-moved : (n m : ℕ) → is_sibling U (f n) (f m) ≡ is_sibling T n m
  sibling-moved n m = ap (mem (f m)) (beside-moved n) ∙ mem-moved f r.apart m (kids_beside T n)

  descendant-moved : (n m : ℕ) → is_descendant U (f n) (f m) ≡ is_descendant T n m
  descendant-moved n m = ap₂ (λ x y. x && not y) (ancestor-moved m n) (is_attribute-moved m)

  -- another node's test, and that it is no attribute
  beyond-moved : (n m a b : ℕ) → (is_after U (f n) (f m) && not (is_ancestor U (f a) (f b))) ≡ (is_after T n m && not (is_ancestor T a b))
  beyond-moved n m a b = ap₂ (λ x y. x && not y) (is_after-moved n m) (ancestor-moved a b)

  pub on_axis-moved : (axis : Axis) (n m : ℕ) → on_axis U axis (f n) (f m) ≡ on_axis T axis n m
  on_axis-moved Ancestor n m = ancestor-moved n m
  on_axis-moved AncestorOrSelf n m = ap₂ (λ x y. x || y) (ancestor-moved n m) (eqb-moved f r.apart m n)
  on_axis-moved Attribute n m = ap (mem (f m)) (r.attributes n) ∙ mem-moved f r.apart m (attrs_of T n)
  on_axis-moved Child n m = ap (mem (f m)) (r.kids n) ∙ mem-moved f r.apart m (kids_of T n)
  on_axis-moved Descendant n m = descendant-moved n m
  on_axis-moved DescendantOrSelf n m = ap₂ (λ x y. x || y) (descendant-moved n m) (eqb-moved f r.apart m n)
  on_axis-moved Following n m = ap₂ (λ x y. x && not y) (beyond-moved n m m n) (is_attribute-moved m)
  on_axis-moved FollowingSibling n m = ap₂ (λ x y. x && y) (sibling-moved n m) (is_after-moved n m)
  on_axis-moved Parent n m = ap (λ (o : Option ℕ). is_one o (f m)) (r.parent n) ∙ is_one-moved (parent_of T n) m
  on_axis-moved Preceding n m = ap₂ (λ x y. x && not y) (beyond-moved m n n m) (is_attribute-moved m)
  on_axis-moved PrecedingSibling n m = ap₂ (λ x y. x && y) (sibling-moved n m) (is_after-moved m n)
  on_axis-moved SelfNode n m = eqb-moved f r.apart m n

  -- two tests that a number and its image pass alike
  pub filtered-moved : (p q : ℕ → Bool) → ((n : ℕ) → q (f n) ≡ p n) → filter q (order U) ≡ map f (filter p (order T))
  filtered-moved p q agree = ap (filter q) r.in_order ∙ filter-moved f p q agree (order T)

  pub axis_nodes-moved : (axis : Axis) (n : ℕ) → axis_nodes U axis (f n) ≡ map f (axis_nodes T axis n)
  axis_nodes-moved axis n =
      ap (λ (ns : List ℕ). cond (is_reverse axis) (backwards ns) ns) (filtered-moved (on_axis T axis n) (on_axis U axis (f n)) (on_axis-moved axis n))
      ∙ by (is_reverse axis) (axis_order T axis n)
    where
      by : (b : Bool) (ns : List ℕ) → cond b (backwards (map f ns)) (map f ns) ≡ map f (cond b (backwards ns) ns)
      by true ns = backwards-moved f ns
      by false ns = refl

  pub in_order-moved : (ns : List ℕ) → in_order U (map f ns) ≡ map f (in_order T ns)
  in_order-moved ns = filtered-moved (λ m. mem m ns) (λ m. mem m (map f ns)) (λ m. mem-moved f r.apart m ns)

  -- node tests
  pub passes-moved : (axis : Axis) (node_test : NodeTest) (n : ℕ) → passes U axis node_test (f n) ≡ passes T axis node_test n
  passes-moved axis tests.Any n = refl
  passes-moved axis tests.Star n = ap (is_principal axis) (kind-moved n)
  passes-moved axis (tests.InNamespace uri) n =
      ap₂ (λ (kind : Option Kind) (name : Option Name). is_principal axis kind && named name (λ held. bytes_eq held.uri uri)) (kind-moved n) (name-moved n)
  passes-moved axis (tests.Named uri local) n =
      ap₂ (λ (kind : Option Kind) (name : Option Name). is_principal axis kind && named name (λ held. bytes_eq held.uri uri && bytes_eq held.local local)) (kind-moved n) (name-moved n)
  passes-moved axis tests.Text n = ap is_text (kind-moved n)
  passes-moved axis tests.Comment n = ap is_comment (kind-moved n)
  passes-moved axis tests.Pi n = ap is_instruction (kind-moved n)
  passes-moved axis (tests.PiNamed target) n =
      ap₂ (λ (kind : Option Kind) (name : Option Name). is_instruction kind && named name (λ held. bytes_eq held.local target)) (kind-moved n) (name-moved n)

  -- what a step along an axis reads
  read_if-moved : (b other : Bool) (c d : Cell) → other ≡ b → d ≡ moved_cell f c → read_if other d ≡ map (moved_read f) (read_if b c)
  read_if-moved true other c d e g = ap₂ (λ (b : Bool) (x : Cell). read_if b x) e g
  read_if-moved false other c d e g = ap (λ (b : Bool). read_if b d) e

  pub name_read-moved : (o : Option ℕ) → name_read U (option_map f o) ≡ map (moved_read f) (name_read T o)
  name_read-moved None = refl
  name_read-moved (Some n) =
      read_if-moved (has_own_name (kind_of T n)) (has_own_name (kind_of U (f n))) (cells.Name n) (cells.Name (f n))
      (ap has_own_name (kind-moved n)) refl

  siblings-read : (n : ℕ) → sibling_reads U (f n) ≡ map (moved_read f) (sibling_reads T n)
  siblings-read n =
      ap₂ (λ (b : Bool) (o : Option ℕ). cond b [] (kids_of_parent o)) (is_attribute-moved n) (r.parent n) ∙ by (is_attribute T n) (parent_of T n)
    where
      by : (b : Bool) (o : Option ℕ) → cond b [] (kids_of_parent (option_map f o)) ≡ map (moved_read f) (cond b [] (kids_of_parent o))
      by true o = refl
      by false None = refl
      by false (Some p) = refl

  whole-read : (cell (cells.Shape 0) ∷ []) ≡ map (moved_read f) (cell (cells.Shape 0) ∷ [])
  whole-read = ap (λ n. cell (cells.Shape n) ∷ []) (sym h.root)

  pub axis_reads-moved : (axis : Axis) (n : ℕ) → axis_reads U axis (f n) ≡ map (moved_read f) (axis_reads T axis n)
  axis_reads-moved Ancestor n = refl
  axis_reads-moved AncestorOrSelf n = refl
  axis_reads-moved Attribute n = read_if-moved (is_element (kind_of T n)) (is_element (kind_of U (f n))) (cells.Attrs n) (cells.Attrs (f n)) (ap is_element (kind-moved n)) refl
  axis_reads-moved Child n = read_if-moved (holds_kids (kind_of T n)) (holds_kids (kind_of U (f n))) (cells.Kids n) (cells.Kids (f n)) (ap holds_kids (kind-moved n)) refl
  axis_reads-moved Descendant n = read_if-moved (holds_kids (kind_of T n)) (holds_kids (kind_of U (f n))) (cells.Shape n) (cells.Shape (f n)) (ap holds_kids (kind-moved n)) refl
  axis_reads-moved DescendantOrSelf n = read_if-moved (holds_kids (kind_of T n)) (holds_kids (kind_of U (f n))) (cells.Shape n) (cells.Shape (f n)) (ap holds_kids (kind-moved n)) refl
  axis_reads-moved Following n = whole-read
  axis_reads-moved FollowingSibling n = siblings-read n
  axis_reads-moved Parent n = refl
  axis_reads-moved Preceding n = whole-read
  axis_reads-moved PrecedingSibling n = siblings-read n
  axis_reads-moved SelfNode n = refl

  -- the cells that reads stand for
  names-named : (ns : List ℕ) → map cells.Name (map f ns) ≡ map (moved_cell f) (map cells.Name ns)
  names-named [] = refl
  names-named (n ∷ ns) = ap (λ (rest : List Cell). cells.Name (f n) ∷ rest) (names-named ns)

  names_on-moved : (axis : Axis) (ns : List ℕ) → names_on U axis (map f ns) ≡ map (moved_cell f) (names_on T axis ns)
  names_on-moved axis ns =
      let is_named : Table → ℕ → Bool = λ V n. is_principal axis (kind_of V n) in
      ap (map cells.Name) (filter-moved f (is_named T) (is_named U) (λ n. ap (is_principal axis) (kind-moved n)) ns)
      ∙ names-named (filter (is_named T) ns)

  pub cells_of-moved : (x : Read) → cells_of U (moved_read f x) ≡ map (moved_cell f) (cells_of T x)
  cells_of-moved (cell c) = refl
  cells_of-moved (names_along axis n) = ap (names_on U axis) (axis_nodes-moved axis n) ∙ names_on-moved axis (axis_nodes T axis n)
  cells_of-moved (variable slot) = refl
