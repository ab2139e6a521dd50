-- The declarations so far were written.
use Rattle.std.proofs.Common.{take, Ok}
use Rattle.std.specs.List.{flat_map}
use Rattle.sch_io.specs.Wrote.{Wrote}
use Rattle.sch_io.specs.declared.error.Failed.{Failed}
use Rattle.doc_tree.specs.Table.{decls_of}
use Rattle.doc_write.specs.inner.Parts.{decl_text}
use Rattle.doc_write.proofs.tree.write_declarations.Given as goal

abbrev pub invariant-loop-i : goal.invariant-loop-i
invariant-loop-i g l =
    Wrote {T = Unit {0}} {E = Failed} (g.O.Sink.log l.initial.sink) (g.O.Sink.log l.sink)
    (flat_map decl_text (take l.i (decls_of l.tree.nodes l.n))) (Ok tt)
