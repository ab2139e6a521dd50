-- A node's name with these three parts is the name.
use Rattle.std.proofs.Common.{sym, ◌∙◌}
use Rattle.name_scopes.proofs.NumberLemmas.{numbered_again}
use Rattle.name_scopes.proofs.recent_names.number_at.Goals as goal

pub returns-then-is_same-3 : goal.returns-then-is_same-3
returns-then-is_same-3 c =
    numbered_again c.args.tree.now.names c.in_ok-id.id c.args.name.prefix.now c.args.name.local.now c.args.uri.now c.in_ok-id.ensures.known
    (rw c.prefix_of.ensures at (sym c.if-is_same-2.true ∙ c.is_same-then-is_same.ensures)) (rw c.local_of.ensures at (sym c.if-is_same.true ∙ c.is_same.ensures))
    (rw c.uri_of.ensures at (sym c.if-is_same-3.true ∙ c.is_same-then-is_same-2.ensures))
