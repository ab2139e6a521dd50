-- Of a text, the texts above it.
use Rattle.std.proofs.Common.{◌≡◌, true, false}
use Rattle.edit_commands.specs.Touched.{holds_cell}
use Rattle.kept_reads.specs.inner.Dropping.{IsAroundAbove}
use Rattle.kept_reads.proofs.DroppingLemmas.{drops_where}
use Rattle.kept_reads.proofs.kept_reads.KeptReads.mark_texts_above.Goals as goal

pub returns-then-is_text : goal.returns-then-is_text
returns-then-is_text c =
    let T = c.args.at.now.tree.now.nodes in
    drops_where T (holds_cell c.args.at.now.tree.now.nodes c.args.at.now.touched.now) c.args.at.now.width (IsAroundAbove T c.args.node false)
    (λ k. (c.args.is_text ≡ true) × IsAroundAbove T c.args.node false k)
    c.args.self.now c.mark_above.new.self (λ k up. (c.if-is_text.true, up)) (λ k both. both.1) c.mark_above.ensures
