-- What is known of the names that a node test accepts.
use Rattle.std.specs.Prelude.{◌≡◌, Bool, true, false, ◌&&◌, List, IfSome, bytes_eq}
use Rattle.doc_tree.specs.declared.axes.NodeTest.{NodeTest}
use Rattle.doc_tree.specs.declared.axes.NodeTest.TheVariants.{InNamespace, Named}
use Rattle.doc_tree.specs.Table.{Name, numbered}
use Rattle.doc_axes.specs.declared.judged.Judged.{Judged}

-- whether a test that looks at names accepts one
abbrev pub accepts : NodeTest → Name → Bool
accepts (InNamespace uri) name = bytes_eq name.uri uri
accepts (Named uri local) name = bytes_eq name.uri uri && bytes_eq name.local local
accepts node_test name = false

-- what is known of two names holds
pub record IsJudged (names : List Name) (node_test : NodeTest) (judged : Judged) : Type 0 where
  pub accepted : IfSome judged.accepted (λ id. accepts node_test (numbered names id) ≡ true)
  pub refused : IfSome judged.refused (λ id. accepts node_test (numbered names id) ≡ false)
