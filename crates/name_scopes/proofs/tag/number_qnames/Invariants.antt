use Rattle.std.proofs.Common.{◌≡◌, false, map, take}
use Rattle.name_scopes.specs.DocFaults.{has_pair, same_qname}
use Rattle.name_scopes.proofs.TagLemmas.{qname_key}
use Rattle.name_scopes.proofs.tag.number_qnames.Given as goal

-- the names so far differ, and each has its number
abbrev pub invariant-loop-attr : goal.invariant-loop-attr
invariant-loop-attr l = record {
  counted : l.count ≡ l.attr-index;
  named : l.names ≡ map qname_key (take l.attr-index l.attrs);
  apart : has_pair same_qname (take l.attr-index l.attrs) ≡ false;
}
