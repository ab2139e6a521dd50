-- What is known of the names that a node test accepts.
use Rattle.std.specs.Prelude.{◌≡◌, ℕ, true, List, IfSome, slice_index_or, None}
use Rattle.doc_tree.specs.Table.{Name, numbered}
use Rattle.doc_tree.specs.declared.axes.NodeTest.{NodeTest}
use Rattle.doc_axes.specs.Judging.{accepts}
use Rattle.xp_meaning.specs.Reads.{is_by_name}
use Rattle.xslt_match.specs.declared.known_test.KnownName.{KnownName}
use Rattle.xslt_match.specs.declared.known_test.KnownTest.{KnownTest}

-- a test that looks at names accepts the one with a number, or refuses it
pub record IsKnownName (names : List Name) (node_test : NodeTest) (known : KnownName) : Type 0 where
  pub by_name : is_by_name node_test ≡ true
  pub accepted : accepts node_test (numbered names known.number) ≡ known.accepted

-- what is known of names holds
abbrev pub IsKnownTest : List Name → NodeTest → KnownTest → Type 0
IsKnownTest names node_test known = (i : ℕ) → IfSome (slice_index_or known.names i None) (IsKnownName names node_test)
