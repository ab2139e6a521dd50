use Rattle.std.proofs.Common.{◌≡◌, drop}
use Rattle.std.specs.List.{list_any}
use Rattle.name_scopes.specs.DocFaults.{same_qname}
use Rattle.name_scopes.proofs.own_names.share_qname.Given as goal

-- no attribute so far has the QName
abbrev pub invariant-loop-other : goal.invariant-loop-other
invariant-loop-other l = list_any (same_qname l.attr) l.others ≡ list_any (same_qname l.attr) (drop l.other-index l.others)
