-- A node that a path names is live.
use Rattle.std.proofs.Common.{sym, ◌∙◌}
use Rattle.edit_commands.specs.Commands.{path_of}
use Rattle.undo_entries.proofs.TreeLemmas.{named-live}
use Rattle.undo_entries.proofs.making.entry_for.Goals as goal

pub entry_at-requires-clause-lives : goal.entry_at-requires-clause-lives
entry_at-requires-clause-lives c =
    named-live c.args.tree.now.nodes c.laws.ensures.well_formed (path_of c.args.command.now) c.in-Some.n (sym c.node_of.ensures ∙ c.in-Some.is)
