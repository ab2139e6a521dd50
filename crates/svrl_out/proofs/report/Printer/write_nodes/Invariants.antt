-- The lines of the nodes so far were written, but for those on the page; what is laid out are lines of rules.
use Rattle.std.proofs.Common.{take}
use Rattle.std.specs.List.{flat_map}
use Rattle.svrl_out.specs.inner.Laid.{AreLaid}
use Rattle.svrl_out.specs.inner.Printer.{node_text}
use Rattle.svrl_out.proofs.PageLemmas.{WrittenBut}
use Rattle.svrl_out.proofs.report.Printer.write_nodes.Given as goal

abbrev pub invariant-loop-n : goal.invariant-loop-n
invariant-loop-n g l = AreLaid l.fn.rules l.laid
    × WrittenBut (g.O.Sink.log l.initial.sink) (g.O.Sink.log l.sink) l.page.bytes.items (flat_map (node_text l.fn.self l.fn.p l.fn.rules) (take l.n-index l.fn.self.nodes.now))
