-- How the logic stores what was read.
use Rattle.std.specs.Prelude.{◌≡◌, ℕ, zero, suc, refl}
use Rattle.std.specs.FinSet as set
use Rattle.std.specs.Coded.{Coded, code_by, coded×, coded_ℕ}
use Rattle.doc_tree.specs.cell.Cell.{Cell}
use Rattle.doc_tree.specs.cell.Cell.TheVariants.{Kids, Shape, Attrs, Value, Text, Name}
use Rattle.doc_tree.specs.declared.axes.Axis.{Axis}
use Rattle.doc_tree.specs.declared.axes.Axis.TheVariants.{Ancestor, AncestorOrSelf, Attribute, Child, Descendant, DescendantOrSelf, Following, FollowingSibling, Parent, Preceding, PrecedingSibling, SelfNode}
use Rattle.xp_outcome.specs.declared.names_along.NamesAlong.{NamesAlong}
use Rattle.xp_outcome.specs.Recorded.{kind_number, node_of, axis_number, CellSet, NamesSet, LetSet, Recorded}

-- the cell of a kind and a node
abbrev pub cell_of : ℕ → ℕ → Cell
cell_of zero n = Kids n
cell_of (suc zero) n = Shape n
cell_of (suc (suc zero)) n = Attrs n
cell_of (suc (suc (suc zero))) n = Value n
cell_of (suc (suc (suc (suc zero)))) n = Text n
cell_of (suc (suc (suc (suc (suc k))))) n = Name n

pub cell_again : (c : Cell) → cell_of (kind_number c) (node_of c) ≡ c
cell_again (Kids n) = refl
cell_again (Shape n) = refl
cell_again (Attrs n) = refl
cell_again (Value n) = refl
cell_again (Text n) = refl
cell_again (Name n) = refl

-- a cell is stored as its kind and its node
abbrev pub cell_code : Coded Cell
cell_code = code_by (ℕ × ℕ) (coded× coded_ℕ coded_ℕ) (λ c. (kind_number c, node_of c)) (λ p. cell_of p.0 p.1) cell_again

-- the axis at a place
abbrev pub axis_of : ℕ → Axis
axis_of zero = Ancestor
axis_of (suc zero) = AncestorOrSelf
axis_of (suc (suc zero)) = Attribute
axis_of (suc (suc (suc zero))) = Child
axis_of (suc (suc (suc (suc zero)))) = Descendant
axis_of (suc (suc (suc (suc (suc zero))))) = DescendantOrSelf
axis_of (suc (suc (suc (suc (suc (suc zero)))))) = Following
axis_of (suc (suc (suc (suc (suc (suc (suc zero))))))) = FollowingSibling
axis_of (suc (suc (suc (suc (suc (suc (suc (suc zero)))))))) = Parent
axis_of (suc (suc (suc (suc (suc (suc (suc (suc (suc zero))))))))) = Preceding
axis_of (suc (suc (suc (suc (suc (suc (suc (suc (suc (suc zero)))))))))) = PrecedingSibling
axis_of (suc (suc (suc (suc (suc (suc (suc (suc (suc (suc (suc k))))))))))) = SelfNode

pub axis_again : (a : Axis) → axis_of (axis_number a) ≡ a
axis_again Ancestor = refl
axis_again AncestorOrSelf = refl
axis_again Attribute = refl
axis_again Child = refl
axis_again Descendant = refl
axis_again DescendantOrSelf = refl
axis_again Following = refl
axis_again FollowingSibling = refl
axis_again Parent = refl
axis_again Preceding = refl
axis_again PrecedingSibling = refl
axis_again SelfNode = refl

pub names_again : (a : NamesAlong) → record { axis = axis_of (axis_number a.axis); node = a.node } ≡ a
names_again a = λ i. record { axis = axis_again a.axis i; node = a.node }

-- names along an axis are stored as the place of the axis and the node
abbrev pub names_code : Coded NamesAlong
names_code =
    code_by (ℕ × ℕ) (coded× coded_ℕ coded_ℕ) (λ a. (axis_number a.axis, a.node)) (λ p. record { axis = axis_of p.0; node = p.1 }) names_again

-- what a recorder holds is stored as the triple of its sets
abbrev pub recorded_code : Coded Recorded
recorded_code =
    code_by (CellSet × (NamesSet × LetSet)) (coded× (set.code cell_code) (coded× (set.code names_code) (set.code coded_ℕ)))
    (λ r. (r.cells, (r.names, r.lets))) (λ p. record { cells = p.0; names = p.1.0; lets = p.1.1 }) (λ _. refl)
