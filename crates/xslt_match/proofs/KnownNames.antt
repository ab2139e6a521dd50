-- A node test by the node's name.
use Rattle.std.proofs.Common.{◌≡◌, ℕ, true, ◌&&◌, refl, sym, true≢false}
use Rattle.doc_tree.specs.Table.{Table, kind_of, name_of}
use Rattle.doc_tree.specs.declared.axes.Axis.{Axis}
use Rattle.doc_tree.specs.declared.axes.NodeTest.{NodeTest}
use Rattle.doc_tree.specs.declared.axes.NodeTest.TheVariants.{Any, Star, InNamespace, Named, Text, Comment, Pi, PiNamed}
use Rattle.doc_axes.specs.Judging.{accepts}
use Rattle.doc_axes.specs.NodeTests.{is_principal, named, passes}
use Rattle.xp_meaning.specs.Reads.{is_by_name}

-- a test that looks at names lets a node of the principal kind pass whose name it accepts
pub by_its_name : (T : Table) (n : ℕ) (axis : Axis) (t : NodeTest) → is_by_name t ≡ true →
    passes T axis t n ≡ (is_principal axis (kind_of T n) && named (name_of T n) (accepts t))
by_its_name T n axis Any h = absurd (true≢false (sym h))
by_its_name T n axis Star h = absurd (true≢false (sym h))
by_its_name T n axis (InNamespace uri) h = refl
by_its_name T n axis (Named uri local) h = refl
by_its_name T n axis Text h = absurd (true≢false (sym h))
by_its_name T n axis Comment h = absurd (true≢false (sym h))
by_its_name T n axis Pi h = absurd (true≢false (sym h))
by_its_name T n axis (PiNamed target) h = absurd (true≢false (sym h))
