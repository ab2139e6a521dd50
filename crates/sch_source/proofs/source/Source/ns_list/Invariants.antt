-- The kids so far were read.
use Rattle.std.proofs.Common.{◌≡◌, take}
use Rattle.std.specs.List.{flat_map}
use Rattle.sch_rules.specs.declared.word.Word.TheVariants as word
use Rattle.sch_rules.specs.RawSchema.{ns_of, read_if}
use Rattle.sch_source.proofs.source.Source.ns_list.Given as goal

abbrev pub invariant-loop-kid : goal.invariant-loop-kid
invariant-loop-kid l = l.list ≡ flat_map (read_if l.self.tree.now.nodes word.Ns (ns_of l.self.tree.now.nodes)) (take l.kid-index l.kid-items)
