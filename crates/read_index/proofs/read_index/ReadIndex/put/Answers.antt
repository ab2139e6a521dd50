-- Where memory ends, the other units have what they had.
use Rattle.cell_index.proofs.SharingLemmas.{ok_then}
use Rattle.read_index.proofs.FilingLemmas.{nothing_else}
use Rattle.read_index.proofs.ReadLemmas.{adds_all}
use Rattle.read_index.proofs.read_index.ReadIndex.put.Goals as goal

pub returns-in_err-add_cells-clause-others : goal.returns-in_err-add_cells-clause-others
returns-in_err-add_cells-clause-others c = record {
  cells = c.add_cells.ensures.others;
  named = c.add_cells.ensures.named_others;
  near = nothing_else c.args.unit c.args.self.now.near;
  far = nothing_else c.args.unit c.args.self.now.far;
}

pub returns-in_err-add_names-clause-others : goal.returns-in_err-add_names-clause-others
returns-in_err-add_names-clause-others c = record {
  cells = c.add_cells.ensures.others;
  named = c.add_cells.ensures.named_others;
  near = c.add_names.ensures.others;
  far = nothing_else c.args.unit c.args.self.now.far;
}

pub returns-clause-others : goal.returns-clause-others
returns-clause-others c = record {
  cells = c.add_cells.ensures.others;
  named = c.add_cells.ensures.named_others;
  near = c.add_names.ensures.others;
  far = c.add_names-2.ensures.others;
}

pub returns-clause-added : goal.returns-clause-added
returns-clause-added c =
    let old = c.args.self.now in
    ok_then c.add_names-2.result
    (λ far. adds_all c.args.unit c.args.cells.now c.args.names.now old
    (record { cells = c.add_cells.new.index; named = c.add_cells.new.named; near = c.add_names.new.index; far = c.add_names-2.new.index })
    c.in_ok-add_cells.ensures.added c.in_ok-add_names.ensures.added far)
    c.add_names-2.ensures.added
