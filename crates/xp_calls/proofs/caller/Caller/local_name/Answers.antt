use Rattle.std.proofs.Common.{refl}
use Rattle.xp_meaning.specs.Names.{local_in}
use Rattle.xp_outcome.proofs.Runs.{ran_late, ran_moved}
use Rattle.xp_values.specs.declared.values.Value.TheVariants as values
use Rattle.xp_meaning.proofs.Exits.{exit_memory}
use Rattle.xp_calls.proofs.NameParts.{name_told}
use Rattle.xp_calls.proofs.caller.Caller.local_name.Goals as goal

pub returns-in_err-read_name : goal.returns-in_err-read_name
returns-in_err-read_name c = λ count.
    exit_memory c.from_residual.result c.from_residual.ensures.1 (ran_moved refl c.in_err-read_name.ensures.unchanged refl refl (ran_late _ _ _))

pub returns : goal.returns
returns c = λ count.
    name_told c.args.self.now.tree.now.nodes (λ name. values.Chars (local_in name)) _ _ count _ _ c.as_chars.result c.named_node-named.ensures c.in_ok-read_name.ensures.read
    (c.as_chars.ensures _ c.local_part.ensures)
