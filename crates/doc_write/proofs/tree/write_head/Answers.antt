-- A node begins, and then its attributes stand.
use Rattle.std.proofs.Common.{refl}
use Rattle.std.specs.List.{flat_map}
use Rattle.sch_io.proofs.Writes.{wrote_then, wrote_stopped}
use Rattle.doc_tree.specs.Table.{attrs_of}
use Rattle.doc_write.specs.inner.Parts.{opening_text}
use Rattle.doc_write.proofs.tree.write_head.Goals as goal

pub returns-in_err-write_opening : goal.returns-in_err-write_opening
returns-in_err-write_opening g c =
    wrote_stopped (flat_map (opening_text c.args.tree.now.nodes) (attrs_of c.args.tree.now.nodes c.args.n)) c.in_err-write_opening.ensures refl c.from_residual.ensures.0

pub returns : goal.returns
returns g c = rw (← c.attrs.ensures) (wrote_then c.in_ok-write_opening.ensures c.write_attributes.ensures)
