use Rattle.std.proofs.Common.{◌≡◌, take}
use Rattle.std.specs.List.{flat_map}
use Rattle.doc_table.specs.Lines.{opens}
use Rattle.tree_same.proofs.same.same_attributes.Given as goal

-- what the attributes passed have told
abbrev pub invariant-loop-i : goal.invariant-loop-i
invariant-loop-i l = flat_map (opens l.b.nodes) (take l.i l.others) ≡ flat_map (opens l.a.nodes) (take l.i l.attributes)
