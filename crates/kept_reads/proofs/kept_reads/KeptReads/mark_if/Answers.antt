-- It stands there, or it does not.
use Rattle.std.proofs.Common.{◌≡◌, ◌∙◌, sym}
use Rattle.std.proofs.lemmas.Bool.{false≢true}
use Rattle.edit_commands.specs.Touched.{holds_cell}
use Rattle.xp_outcome.specs.Evaluation.{names_along}
use Rattle.kept_reads.specs.inner.Naming.{IsAlongFrom}
use Rattle.kept_reads.proofs.DroppingLemmas.{drops_none, drops_where}
use Rattle.kept_reads.proofs.kept_reads.KeptReads.mark_if.Goals as goal

pub returns-then-stands : goal.returns-then-stands
returns-then-stands c =
    let T = c.args.at.now.tree.now.nodes in
    drops_where T (holds_cell c.args.at.now.tree.now.nodes c.args.at.now.touched.now) c.args.at.now.width (λ r. r ≡ names_along c.args.axis c.args.n)
    (IsAlongFrom T c.args.node c.args.axis c.args.n) c.args.self.now c.mark_names.new.self (λ r is. (
      sym c.requires
          ∙ c.if-stands.true,
      is,
    )) (λ r along. along.1)
    c.mark_names.ensures

pub returns-else-stands : goal.returns-else-stands
returns-else-stands c =
    let T = c.args.at.now.tree.now.nodes in
    drops_none T (holds_cell c.args.at.now.tree.now.nodes c.args.at.now.touched.now) c.args.at.now.width
    (IsAlongFrom T c.args.node c.args.axis c.args.n)
    c.args.self.now (λ r along. false≢true (sym c.if-stands.false ∙ c.requires ∙ along.0))
