-- Two trees of one document (XPath 1.0, section 5): what they have in common outside the cells that were touched between them.
use Rattle.std.specs.Prelude.{◌≡◌, ℕ, ◌<◌, ◌≤◌, Bool, true, false, ◌&&◌, ◌||◌, List, [], ◌∷◌, length, filter}
use Rattle.doc_tree.specs.cell.Cell.{Cell}
use Rattle.doc_tree.specs.cell.Cell.TheVariants.{Kids, Shape, Attrs, Value, Text, Name}
use Rattle.doc_tree.specs.Kinds.{has_own_name, holds_kids}
use Rattle.doc_tree.specs.Laws.{HasWaysUp, Ordered, WellFormed}
use Rattle.doc_tree.specs.Table.{Table, attrs_of, is_live, kids_of, kind_of, name_of, parent_of, value_of}
use Rattle.doc_tree.specs.Walks.{joined_text, order}
use Rattle.doc_axes.specs.Axes.{is_descendant}

-- a table that hangs together, as every tree's does
pub record IsTree (T : Table) : Type 0 where
  pub well_formed : WellFormed T
  pub ordered : Ordered T
  pub ways_up : HasWaysUp T

abbrev pub lives_in_both : Table → Table → ℕ → Bool
lives_in_both T U n = is_live T n && is_live U n

-- a node that lives in both trees
abbrev pub Stays : Table → Table → ℕ → Type 0
Stays T U n = lives_in_both T U n ≡ true

abbrev pub AllStay : Table → Table → List ℕ → Type 0
AllStay T U [] = Unit {0}
AllStay T U (n ∷ ns) = Stays T U n × AllStay T U ns

-- the descendants of a node in document order, attributes left out
abbrev pub descendants : Table → ℕ → List ℕ
descendants T n = filter (is_descendant T n) (order T)

pub record Agree (T U : Table) (touched : Cell → Bool) : Type 0 where
  -- the nodes that live in both keep their kind and their parent, an instruction its target, and their relative order
  pub kind : (n : ℕ) → Stays T U n → kind_of T n ≡ kind_of U n
  pub target : (n : ℕ) → Stays T U n → has_own_name (kind_of T n) ≡ false → name_of T n ≡ name_of U n
  pub parent : (n : ℕ) → Stays T U n → parent_of T n ≡ parent_of U n
  pub in_order : filter (lives_in_both T U) (order T) ≡ filter (lives_in_both T U) (order U)
  -- and what their cells hold that weren't touched
  pub name : (n : ℕ) → Stays T U n → has_own_name (kind_of T n) ≡ true → touched (Name n) ≡ false → name_of T n ≡ name_of U n
  pub kids : (n : ℕ) → Stays T U n → touched (Kids n) ≡ false → kids_of T n ≡ kids_of U n
  pub shape : (n : ℕ) → Stays T U n → touched (Shape n) ≡ false → descendants T n ≡ descendants U n
  pub attributes : (n : ℕ) → Stays T U n → touched (Attrs n) ≡ false → attrs_of T n ≡ attrs_of U n
  pub value : (n : ℕ) → Stays T U n → touched (Value n) ≡ false → value_of T n ≡ value_of U n
  pub text : (n : ℕ) → Stays T U n → holds_kids (kind_of T n) ≡ true → touched (Text n) ≡ false → joined_text T n ≡ joined_text U n
  -- no number of a deleted node is used again
  pub numbers : length T ≤ length U
  pub no_return : (n : ℕ) → n < length T → is_live U n ≡ true → is_live T n ≡ true

abbrev pub AgreementComposes : Type 0
AgreementComposes =
    (T U V : Table) (touched later : Cell → Bool) → IsTree T → Agree T U touched → Agree U V later → Agree T V (λ c. touched c || later c)
