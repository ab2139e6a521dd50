-- The cell is put where it is of the part.
use Rattle.std.proofs.Common.{rules, ◌≡◌}
use Rattle.read_index.specs.inner.Parting.{is_name}
use Rattle.read_index.proofs.PartingLemmas.{pushed}
use Rattle.read_index.proofs.parting.push_for.Goals as goal

pub returns-in_ok-push : goal.returns-in_ok-push
returns-in_ok-push c =
    let kind : is_name c.args.cell.now ≡ c.args.names = search rules in
    pushed c.args.names c.args.part.now.items c.push.new.self.items c.args.cell.now kind c.in_ok-push.ensures.items
