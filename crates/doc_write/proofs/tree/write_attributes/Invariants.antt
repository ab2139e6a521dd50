-- The attributes so far were written.
use Rattle.std.proofs.Common.{take, Ok}
use Rattle.std.specs.List.{flat_map}
use Rattle.sch_io.specs.Wrote.{Wrote}
use Rattle.sch_io.specs.declared.error.Failed.{Failed}
use Rattle.doc_write.specs.inner.Parts.{opening_text}
use Rattle.doc_write.proofs.tree.write_attributes.Given as goal

abbrev pub invariant-loop-attr : goal.invariant-loop-attr
invariant-loop-attr g l =
    Wrote {T = Unit {0}} {E = Failed} (g.O.Sink.log l.initial.sink) (g.O.Sink.log l.sink)
    (flat_map (opening_text l.fn.tree.nodes) (take l.attr-index l.attrs)) (Ok tt)
