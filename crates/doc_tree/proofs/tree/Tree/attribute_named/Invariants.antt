use Rattle.std.proofs.Common.{◌≡◌, drop, find}
use Rattle.doc_tree.specs.NameTests.{attribute_named, has_name}
use Rattle.doc_tree.proofs.tree.Tree.attribute_named.Given as goal

-- no attribute so far has the name
abbrev pub invariant-loop-a : goal.invariant-loop-a
invariant-loop-a l = attribute_named l.self.nodes l.fn.n l.uri l.local ≡ find (λ a. has_name l.self.nodes a l.uri l.local) (drop l.a-index l.a-items)
