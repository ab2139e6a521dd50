-- A number that stands once among others is first found where it stands.
use Rattle.std.proofs.Common.{◌≡◌, sym, ◌∙◌}
use Rattle.std.proofs.lemmas.Bool.{eqb-true}
use Rattle.doc_axes.proofs.SiblingLemmas.{placed_once}
use Rattle.doc_axes.proofs.siblings.place_among.Goals as goal

pub returns-then-eq : goal.returns-then-eq
returns-then-eq c =
    let n = c.args.n in
    let kid = c.index-kids-likely.result in
    let same : kid ≡ n = eqb-true kid n (sym c.eq.ensures ∙ c.if-eq.true) in
    sym (placed_once n c.args.kids.now c.partition_point-likely.result kid (c.requires n) c.if-likely-kids.true (sym c.index-kids-likely.is ∙ same))
