-- Against the piece speaks just what speaks against the fragment.
use Rattle.std.proofs.Common.{refl, ap, sym, ◌∙◌, List}
use Rattle.edit_script.specs.declared.command.Command.TheVariants.{Insert}
use Rattle.edit_script.specs.declared.command.PathStep.{PathStep}
use Rattle.edit_commands.specs.Commands.{top_kind}
use Rattle.edit_commands.specs.Refusals.{of_edit, of_piece}
use Rattle.edit_commands.specs.inner.Done.{NotDone}
use Rattle.edit_commands.proofs.InsertLemmas.{insert-done, insert-refused, on-error, piece-refused}
use Rattle.edit_commands.proofs.inserting.insert_piece.Goals as goal

pub returns-in_err-insert-clause-not_done : goal.returns-in_err-insert-clause-not_done
returns-in_err-insert-clause-not_done c =
    on-error c.from_residual-in_err-insert.result (of_edit c.in_err-insert.field-0.0)
    (λ error. (path : List PathStep) → NotDone c.args.tree.now c.insert.new.self (Insert path c.args.at c.args.events.now) c.args.n error)
    c.from_residual-in_err-insert.ensures.1
    (λ path. record {
      refused =
          insert-refused c.args.tree.now c.args.n c.args.at c.args.events.now c.in_ok-piece.piece.nodes c.top_kind.result
          c.laws-2.ensures.well_formed c.laws-2.ensures.ordered c.laws-2.ensures.ways_up c.laws-2.ensures.walks
          c.in_ok-piece.ensures.loaded c.in_ok-piece.ensures.nodes c.in_ok-piece.ensures.text (ap top_kind (sym c.as_slice.ensures) ∙ c.top_kind.ensures.kind)
          c.in_default.ensures.good c.in_ok-piece.ensures.within c.in_err-insert.field-0.0 c.in_err-insert.ensures.refused path;
      unchanged = c.in_err-insert.ensures.unchanged;
    })

pub returns-in_err-piece-clause-not_done : goal.returns-in_err-piece-clause-not_done
returns-in_err-piece-clause-not_done c =
    on-error c.from_residual.result (of_piece c.in_err-piece.field-0.0)
    (λ error. (path : List PathStep) → NotDone c.args.tree.now c.args.tree.now (Insert path c.args.at c.args.events.now) c.args.n error)
    c.from_residual.ensures.1
    (λ path. record {
      refused =
          piece-refused c.args.tree.now c.args.n c.args.at c.args.events.now c.top_kind.result (ap top_kind (sym c.as_slice.ensures) ∙ c.top_kind.ensures.kind)
          c.in_default.ensures.good c.in_err-piece.field-0.0 c.in_err-piece.ensures.refused path;
      unchanged = refl;
    })

pub returns-clause-done : goal.returns-clause-done
returns-clause-done c =
    insert-done c.args.tree.now c.args.n c.args.at c.args.events.now c.in_ok-piece.piece.nodes c.top_kind.result
    c.laws-2.ensures.well_formed c.laws-2.ensures.ordered c.laws-2.ensures.ways_up c.laws-2.ensures.walks
    c.in_ok-piece.ensures.loaded c.in_ok-piece.ensures.nodes c.in_ok-piece.ensures.text (ap top_kind (sym c.as_slice.ensures) ∙ c.top_kind.ensures.kind)
    c.in_default.ensures.good c.in_ok-piece.ensures.within c.edits_keep_scope.ensures.additions c.insert.new.self
    c.laws.ensures.well_formed c.in_ok-insert.ensures.within c.in_ok-insert.ensures.edited
