-- The next node comes last, where the step looks for candidates from it.
use Rattle.std.proofs.Common.{◌≡◌, ℕ, ◌+◌, ◌++◌, ◌∷◌, [], List, Bool, cond, take, get_or, filter, sym, ap, ap₂, ◌∙◌}
use Rattle.std.proofs.lemmas.List.Elements.{filter_more}
use Rattle.std.specs.List.{list_any}
use Rattle.xslt_ways.specs.Ways.{looks_at}
use Rattle.xslt_ways.proofs.looking.looking_at.Goals as goal

pub loop-m-preserved : goal.loop-m-preserved
loop-m-preserved c =
    let p : ℕ → Bool = λ m. list_any (looks_at c.args.tree.now.nodes c.args.join m) c.args.nodes.now in
    let xs : List ℕ = c.args.way.now in
    let m : ℕ = c.m-item.result in
    let found : List ℕ = filter p (take c.loop-m.m-index xs) in
    let here : p (get_or xs c.loop-m.m-index m) ≡ c.looks_at_some-looks.result = ap p (sym c.m-item.is) ∙ sym c.looks_at_some-looks.ensures in
    let next : filter p (take (c.loop-m.m-index + 1) xs) ≡ found ++ cond c.looks_at_some-looks.result (m ∷ []) [] =
    filter_more p xs c.loop-m.m-index m c.loop-m-test.true ∙ ap₂ (λ b x. found ++ cond b (x ∷ []) []) here (sym c.m-item.is) in
    c.in_ok-push_if.ensures.pushed ∙ (ap (λ l. l ++ cond c.looks_at_some-looks.result (m ∷ []) []) c.loop-m.invariant ∙ sym next)
