-- One piece more.
use Rattle.std.proofs.Common.{◌≡◌, ◌++◌, ◌∙◌, ap, sym, rules}
use Rattle.sch_expansion.specs.Filled.{filled}
use Rattle.sch_expansion.specs.Pieces.{piece_text}
use Rattle.sch_flat.specs.FlatSize.{capped}
use Rattle.sch_expansion.proofs.FillLemmas.{filled-nil}
use Rattle.sch_sizes.proofs.AmountLemmas.{one_cap}
use Rattle.sch_sizes.proofs.TextLemmas.{last_step, piece_step}
use Rattle.sch_sizes.proofs.filled_len.FilledLen.len.Goals as goal

pub loop-piece-preserved : goal.loop-piece-preserved
loop-piece-preserved c =
    let params = c.args.self.now in
    let same : c.self.inside.filling ≡ params = cc in
    let piece = piece_text params c.in-Some.piece in
    let behind = c.in-Some.behind.now in
    let split = ap (λ f. filled f c.loop-piece.rest.now) (sym same)
    ∙ c.in-Some.ensures.filled ∙ ap (λ f. piece_text f c.in-Some.piece ++ filled f behind) same in (
      search rules,
      c.saturating_add-len.ensures ∙ sym (ap capped c.saturating_add-len.ensures ∙ one_cap _),
      piece_step c.loop-piece.len c.piece_len.result c.saturating_add-len.result _ (filled params c.loop-piece.rest.now) piece (filled params behind)
          c.loop-piece.invariant.2 split c.piece_len.ensures c.saturating_add-len.ensures,
    )

pub returns : goal.returns
returns c =
    let params = c.args.self.now in
    last_step c.loop-piece.len _ (filled params c.loop-piece.rest.now) c.loop-piece.invariant.1 c.loop-piece.invariant.2
    (ap (filled params) c.in_default.ensures ∙ filled-nil params)
