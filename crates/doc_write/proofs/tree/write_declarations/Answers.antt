-- A declaration that was not written whole leaves a front of all.
use Rattle.std.proofs.Common.{[]}
use Rattle.doc_tree.specs.Table.{decls_of}
use Rattle.doc_write.specs.inner.Parts.{decl_text}
use Rattle.sch_io.proofs.Writes.{wrote_cut_or}
use Rattle.doc_write.proofs.tree.write_declarations.Goals as goal

pub returns-in_err-write_declaration : goal.returns-in_err-write_declaration
returns-in_err-write_declaration g c =
    wrote_cut_or decl_text (decls_of c.args.tree.now.nodes c.args.n) c.loop-i.i ([], []) c.from_residual.result c.from_residual.ensures.0
    (rw c.decl_count-i-end.ensures at c.loop-i-test.true) c.loop-i.invariant (rw (c.decl_prefix.ensures, c.decl_uri.ensures) at c.in_err-write_declaration.ensures)
