-- The node of the next mark is listed; with no mark left all are.
use Rattle.std.proofs.Common.{◌≡◌, ◌∙◌, ◌++◌, ◌∷◌, [], ◌+◌, ◌*◌, ◌/◌, List, ℕ, ap, arith, subst, sym}
use Rattle.std.proofs.lemmas.Bool.{false≢true}
use Rattle.doc_tree.specs.Lists.{mem}
use Rattle.sch_compiled.proofs.MarkLemmas.{AreMarkedTo, marked-all, marked-next}
use Rattle.sch_compiled.proofs.marks.marked_nodes.Goals as goal

pub loop-place-init : goal.loop-place-init
loop-place-init c = record {
  all = λ p n low under marked. absurd (omega (arith, under));
  alone = λ n there. absurd (false≢true (sym (ap (mem n) c.new-nodes.ensures) ∙ there));
}

pub loop-place-preserved : goal.loop-place-preserved
loop-place-preserved c =
    let pushed : c.push.new.self ≡ c.loop-place.nodes ++ (c.in-Some.place / c.args.patterns) ∷ [] =
    c.in_ok-push.ensures.pushed ∙ ap (λ (n : ℕ). c.loop-place.nodes ++ n ∷ []) c.from_number.ensures in
    subst (λ (l : List ℕ). AreMarkedTo c.args.patterns c.args.marks.now l ((c.in-Some.place / c.args.patterns + 1) * c.args.patterns)) (sym pushed)
    (marked-next c.args.patterns c.args.marks.now c.loop-place.nodes c.loop-place.from c.in-Some.place c.requires c.in-Some.ensures c.loop-place.invariant)

pub returns : goal.returns
returns c = marked-all c.args.patterns c.args.marks.now c.loop-place.nodes c.loop-place.from c.in_default.ensures c.loop-place.invariant
