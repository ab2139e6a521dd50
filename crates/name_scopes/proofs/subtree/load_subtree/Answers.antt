-- What is left is not refused; memory is wanted for the names of tags, and behind all tests.
use Rattle.std.proofs.Common.{sym, ◌∙◌}
use Rattle.name_scopes.proofs.PieceTests.{wanting-none, wanting-tags}
use Rattle.name_scopes.proofs.PieceWhole.{acceptable}
use Rattle.name_scopes.proofs.subtree.load_subtree.Goals as goal

pub build_piece-requires : goal.build_piece-requires
build_piece-requires c = rw c.as_slice-2.ensures
    (acceptable c.args.tree.now.nodes c.args.parent c.args.events.now (rw c.as_slice.ensures at (sym c.in_ok-refusal.ensures.found ∙ c.in_default.is)) c.laws.ensures.ordered.root_first.0 c.laws.ensures.ordered.root_first.1 c.requires.fragment c.requires.names c.requires.text)

pub returns-in_err-refusal-clause-refused : goal.returns-in_err-refusal-clause-refused
returns-in_err-refusal-clause-refused c =
    wanting-tags c.from_residual.result c.args.events.now _ (rw c.as_slice.ensures at c.in_err-refusal.ensures.memory) c.from_residual.ensures.1

pub returns-in_err-piece-clause-refused : goal.returns-in_err-piece-clause-refused
returns-in_err-piece-clause-refused c =
    wanting-none c.from_residual-in_err-piece.result c.args.events.now _ (rw c.as_slice.ensures at (sym c.in_ok-refusal.ensures.found ∙ c.in_default.is))
    c.from_residual-in_err-piece.ensures.1
