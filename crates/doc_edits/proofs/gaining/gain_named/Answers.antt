-- A sound table with one attribute more is sound, and has it.
use Rattle.std.proofs.Common.{◌∙◌, ap, sym, subst}
use Rattle.doc_table.specs.inner.Parts.{Parts, IsSound, table_of}
use Rattle.doc_table.specs.inner.Sound.{Formed}
use Rattle.doc_edits.specs.inner.Ranking.{reranked}
use Rattle.doc_edits.proofs.KeptGainLemmas.{anew, formed-new, roomy, table-gained}
use Rattle.doc_edits.proofs.gaining.gain_named.Goals as goal

pub settle-requires : goal.settle-requires
settle-requires c = record {
  formed = subst (λ (parts : Parts). Formed (table_of parts)) (sym c.in_ok-number.ensures.grown)
      (formed-new c.args.bare.now c.args.n c.args.name c.depth_under-depth.result c.args.value.now c.spread_at-spread.result c.requires.sound c.requires.known c.requires.may c.depth_under-depth.ensures);
  roomy = λ some. subst IsSound (sym c.in_ok-number.ensures.grown)
      (roomy c.args.bare.now c.args.n c.args.name c.depth_under-depth.result c.args.value.now c.spread_at-spread.result c.requires.sound c.requires.known c.requires.may c.depth_under-depth.ensures
      c.spread_at-spread.ensures.room some);
  anew = subst (λ parts. IsSound (reranked parts)) (sym c.in_ok-number.ensures.grown)
      (anew c.args.bare.now c.args.n c.args.name c.depth_under-depth.result c.args.value.now c.spread_at-spread.result c.requires.sound c.requires.known c.requires.may c.depth_under-depth.ensures);
}

pub returns-clause-gained : goal.returns-clause-gained
returns-clause-gained c =
    c.settle.ensures.table
    ∙ (ap table_of c.in_ok-number.ensures.grown
    ∙ table-gained c.args.bare.now c.args.n c.args.name c.depth_under-depth.result c.args.value.now c.spread_at-spread.result c.requires.sound c.requires.known c.requires.may
    c.depth_under-depth.ensures)
