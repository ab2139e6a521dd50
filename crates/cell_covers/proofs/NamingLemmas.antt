-- What noting names along axes makes of the three sets: cells for upward axes, and names along the others.
use Rattle.std.proofs.Common.{◌≡◌, ℕ, Bool, true, false, not, ◌||◌, cond, List, [], ◌∷◌, Option, refl, ap, ◌∙◌}
use Rattle.std.specs.Prelude.{filter, map}
use Rattle.std.specs.FinSet.{contains, contains-insert}
use Rattle.std.specs.List.{list_any}
use Rattle.std.specs.Ordering.{eq_by_cmp}
use Rattle.std.proofs.lemmas.Bool.{false≢true}
use Rattle.doc_tree.specs.cell.Cell.{Cell}
use Rattle.doc_tree.specs.cell.Cell.TheVariants.{Name}
use Rattle.doc_tree.specs.declared.axes.Axis.{Axis}
use Rattle.doc_tree.specs.declared.axes.Axis.TheVariants.{Ancestor, AncestorOrSelf, Parent, SelfNode}
use Rattle.doc_tree.specs.kind.Kind.{Kind}
use Rattle.doc_tree.specs.Kinds.{is_element}
use Rattle.doc_tree.specs.Table.{Table, kind_of}
use Rattle.doc_axes.specs.Axes.{axis_nodes}
use Rattle.doc_axes.specs.NodeTests.{is_principal}
use Rattle.xp_outcome.specs.Evaluation.{cell, names_along}
use Rattle.xp_outcome.specs.Recorded.{NamesSet, Recorded, cell_cmp, names_cmp, note}
use Rattle.xp_outcome.specs.declared.names_along.NamesAlong.{NamesAlong}
use Rattle.xp_outcome.proofs.Sets.{cell_cmp_total, names_cmp_total}
use Rattle.cover_laws.specs.Covering.{is_upward, names_at}
use Rattle.cell_covers.specs.inner.Naming.{with_along, with_each_name, with_names}

or-nothing : (a : Bool) → a ≡ (a || false)
or-nothing true = refl
or-nothing false = refl

or-grouped : (a b c : Bool) → ((a || b) || c) ≡ (a || (b || c))
or-grouped true b c = refl
or-grouped false b c = refl

or-turned : (a b c : Bool) → ((a || b) || c) ≡ (b || (a || c))
or-turned true true c = refl
or-turned true false c = refl
or-turned false true c = refl
or-turned false false c = refl

-- on an upward axis names test elements
elements : (axis : Axis) → is_upward axis ≡ true → (kind : Option Kind) → is_element kind ≡ is_principal axis kind
elements SelfNode up kind = refl
elements Parent up kind = refl
elements Ancestor up kind = refl
elements AncestorOrSelf up kind = refl
elements _ up kind = absurd (false≢true up)

module _ (T : Table) where
  -- the names of nodes

  each-cells : (held : Recorded) (ns : List ℕ) (c : Cell) →
      contains (with_each_name T held ns).cells c ≡
      (contains held.cells c || list_any (eq_by_cmp cell_cmp c) (map Name (filter (λ n. is_element (kind_of T n)) ns)))
  each-cells held [] c = or-nothing (contains held.cells c)
  each-cells held (n ∷ ns) c = by (is_element (kind_of T n)) (λ h. each-cells h ns c)
    where
      rest : List ℕ
      rest = filter (λ m. is_element (kind_of T m)) ns

      by : (b : Bool) →
          ((h : Recorded) → contains (with_each_name T h ns).cells c ≡ (contains h.cells c || list_any (eq_by_cmp cell_cmp c) (map Name rest))) →
          contains (with_each_name T (cond b (note held (cell (Name n))) held) ns).cells c ≡
          (contains held.cells c || list_any (eq_by_cmp cell_cmp c) (map Name (cond b (n ∷ rest) rest)))
      by true more =
          more (note held (cell (Name n)))
          ∙ ap (λ (b : Bool). b || list_any (eq_by_cmp cell_cmp c) (map Name rest)) (contains-insert cell_cmp_total held.cells (Name n) c)
          ∙ or-turned (eq_by_cmp cell_cmp c (Name n)) (contains held.cells c) (list_any (eq_by_cmp cell_cmp c) (map Name rest))
      by false more = more held

  each-names : (held : Recorded) (ns : List ℕ) → (with_each_name T held ns).names ≡ held.names
  each-names held [] = refl
  each-names held (n ∷ ns) = by (is_element (kind_of T n)) (λ h. each-names h ns)
    where
      by : (b : Bool) → ((h : Recorded) → (with_each_name T h ns).names ≡ h.names) →
          (with_each_name T (cond b (note held (cell (Name n))) held) ns).names ≡ held.names
      by true more = more (note held (cell (Name n)))
      by false more = more held

  each-lets : (held : Recorded) (ns : List ℕ) → (with_each_name T held ns).lets ≡ held.lets
  each-lets held [] = refl
  each-lets held (n ∷ ns) = by (is_element (kind_of T n)) (λ h. each-lets h ns)
    where
      by : (b : Bool) → ((h : Recorded) → (with_each_name T h ns).lets ≡ h.lets) →
          (with_each_name T (cond b (note held (cell (Name n))) held) ns).lets ≡ held.lets
      by true more = more (note held (cell (Name n)))
      by false more = more held

  -- the names along an axis

  module _ (held : Recorded) (a : NamesAlong) where
    along-cells : (c : Cell) →
        contains (with_along T held a).cells c ≡
        (contains held.cells c || list_any (eq_by_cmp cell_cmp c) (cond (is_upward a.axis) (names_at T a) []))
    along-cells c = by (is_upward a.axis) refl
      where
        by : (up : Bool) → is_upward a.axis ≡ up →
            contains (cond up (with_each_name T held (axis_nodes T a.axis a.node)) (note held (names_along a.axis a.node))).cells c ≡
            (contains held.cells c || list_any (eq_by_cmp cell_cmp c) (cond up (names_at T a) []))
        by true e =
            each-cells held (axis_nodes T a.axis a.node) c
            ∙ ap (λ (p : ℕ → Bool). contains held.cells c || list_any (eq_by_cmp cell_cmp c) (map Name (filter p (axis_nodes T a.axis a.node))))
            (λ i n. elements a.axis e (kind_of T n) i)
        by false e = or-nothing (contains held.cells c)

    along-names : (rest : List NamesAlong) (b : NamesAlong) →
        (contains (with_along T held a).names b || list_any (eq_by_cmp names_cmp b) rest) ≡
        (contains held.names b || list_any (eq_by_cmp names_cmp b) (cond (not (is_upward a.axis)) (a ∷ rest) rest))
    along-names rest b = by (is_upward a.axis)
      where
        by : (up : Bool) →
            (contains (cond up (with_each_name T held (axis_nodes T a.axis a.node)) (note held (names_along a.axis a.node))).names b
            || list_any (eq_by_cmp names_cmp b) rest) ≡
            (contains held.names b || list_any (eq_by_cmp names_cmp b) (cond (not up) (a ∷ rest) rest))
        by true = ap (λ (s : NamesSet). contains s b || list_any (eq_by_cmp names_cmp b) rest) (each-names held (axis_nodes T a.axis a.node))
        by false =
            ap (λ (v : Bool). v || list_any (eq_by_cmp names_cmp b) rest) (contains-insert names_cmp_total held.names a b)
            ∙ or-turned (eq_by_cmp names_cmp b a) (contains held.names b) (list_any (eq_by_cmp names_cmp b) rest)

    along-lets : (with_along T held a).lets ≡ held.lets
    along-lets = by (is_upward a.axis)
      where
        by : (up : Bool) → (cond up (with_each_name T held (axis_nodes T a.axis a.node)) (note held (names_along a.axis a.node))).lets ≡ held.lets
        by true = each-lets held (axis_nodes T a.axis a.node)
        by false = refl

  -- all of them

  pub names-cells : (held : Recorded) (rest : List NamesAlong) (c : Cell) →
      contains (with_names T held rest).cells c ≡
      (contains held.cells c || list_any (λ a. list_any (eq_by_cmp cell_cmp c) (cond (is_upward a.axis) (names_at T a) [])) rest)
  names-cells held [] c = or-nothing (contains held.cells c)
  names-cells held (a ∷ rest) c =
      names-cells (with_along T held a) rest c
      ∙ ap (λ (b : Bool). b || list_any (λ x. list_any (eq_by_cmp cell_cmp c) (cond (is_upward x.axis) (names_at T x) [])) rest)
      (along-cells held a c)
      ∙ or-grouped (contains held.cells c) (list_any (eq_by_cmp cell_cmp c) (cond (is_upward a.axis) (names_at T a) []))
      (list_any (λ x. list_any (eq_by_cmp cell_cmp c) (cond (is_upward x.axis) (names_at T x) [])) rest)

  pub names-names : (held : Recorded) (rest : List NamesAlong) (b : NamesAlong) →
      contains (with_names T held rest).names b ≡
      (contains held.names b || list_any (eq_by_cmp names_cmp b) (filter (λ a. not (is_upward a.axis)) rest))
  names-names held [] b = or-nothing (contains held.names b)
  names-names held (a ∷ rest) b = names-names (with_along T held a) rest b ∙ along-names held a (filter (λ x. not (is_upward x.axis)) rest) b

  pub names-lets : (held : Recorded) (rest : List NamesAlong) → (with_names T held rest).lets ≡ held.lets
  names-lets held [] = refl
  names-lets held (a ∷ rest) = names-lets (with_along T held a) rest ∙ along-lets held a
