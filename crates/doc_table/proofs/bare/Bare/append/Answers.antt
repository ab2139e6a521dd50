-- The limits are checked before anything changes, and a sound table with the node behind all others is sound, and has grown.
use Rattle.std.proofs.Common.{length, refl, sym, ◌∙◌, subst}
use Rattle.std.proofs.lemmas.Result.{IfOk-from_err}
use Rattle.doc_names.proofs.NameLemmas.{on_err}
use Rattle.doc_table.specs.Growth.{Grew}
use Rattle.doc_table.specs.Table.{Content}
use Rattle.doc_table.specs.inner.Labels.{content_labelled}
use Rattle.doc_table.specs.inner.Parts.{Parts, IsSound, table_of}
use Rattle.doc_table.proofs.SoundLemmas.{grown-sound, seen-length}
use Rattle.doc_table.proofs.bare.Bare.append.Goals as goal

pub returns-clause-sound : goal.returns-clause-sound
returns-clause-sound c =
    subst IsSound (sym c.in_ok-number.ensures.grown)
    (grown-sound c.args.self.now c.args.parent c.depth_under-depth.result c.next_rank-rank.result c.args.label.now c.args.text.now c.requires.sound c.requires.holder c.requires.fits c.requires.name
    c.requires.last c.requires.all_live c.in_ok-check_limits.ensures.within c.depth_under-depth.ensures c.next_rank-rank.ensures c.requires.text).0

pub returns-clause-grew : goal.returns-clause-grew
returns-clause-grew c =
    let content : Content = content_labelled c.args.self.now.names c.args.label.now c.args.text.now in
    subst (λ n. Grew (table_of c.args.self.now) (table_of c.grow.new.self) c.args.parent n content)
    (sym (c.in_ok-number.ensures.number ∙ seen-length c.args.self.now.names c.args.self.now.nodes))
    (subst (λ (parts : Parts). Grew (table_of c.args.self.now) (table_of parts) c.args.parent (length c.args.self.now.nodes) content) (sym c.in_ok-number.ensures.grown)
    (grown-sound c.args.self.now c.args.parent c.depth_under-depth.result c.next_rank-rank.result c.args.label.now c.args.text.now c.requires.sound c.requires.holder c.requires.fits c.requires.name
    c.requires.last c.requires.all_live c.in_ok-check_limits.ensures.within c.depth_under-depth.ensures c.next_rank-rank.ensures c.requires.text).1)

pub returns-in_err-check_limits-clause-grew : goal.returns-in_err-check_limits-clause-grew
returns-in_err-check_limits-clause-grew c = IfOk-from_err c.from_residual.result _ c.from_residual.ensures.0

pub returns-in_err-check_limits-clause-within : goal.returns-in_err-check_limits-clause-within
returns-in_err-check_limits-clause-within c = IfOk-from_err c.from_residual.result _ c.from_residual.ensures.0

pub returns-in_err-check_limits-clause-unchanged : goal.returns-in_err-check_limits-clause-unchanged
returns-in_err-check_limits-clause-unchanged c = on_err c.from_residual.result _ refl
