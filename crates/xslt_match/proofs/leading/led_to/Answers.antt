-- The next node comes last, where the step leads to it.
use Rattle.std.proofs.Common.{◌≡◌, ℕ, ◌+◌, ◌++◌, ◌∷◌, [], List, Bool, cond, take, get_or, filter, sym, ap, ap₂, ◌∙◌}
use Rattle.std.proofs.lemmas.List.Elements.{filter_more}
use Rattle.std.specs.List.{list_any}
use Rattle.xp_typed_tree.specs.TypedView.{pattern_step_seen}
use Rattle.xslt_match.specs.Matching.{leads}
use Rattle.xslt_match.proofs.leading.led_to.Goals as goal

pub loop-k-preserved : goal.loop-k-preserved
loop-k-preserved c =
    let p : ℕ → Bool = λ k. list_any (λ m. leads c.args.tree.now.nodes (pattern_step_seen c.args.step.now) m k) c.args.nodes.now in
    let xs : List ℕ = c.args.among.now in
    let k : ℕ = c.k-item.result in
    let found : List ℕ = filter p (take c.loop-k.k-index xs) in
    let here : p (get_or xs c.loop-k.k-index k) ≡ c.is_led_to-leads.result = ap p (sym c.k-item.is) ∙ sym c.is_led_to-leads.ensures in
    let next : filter p (take (c.loop-k.k-index + 1) xs) ≡ found ++ cond c.is_led_to-leads.result (k ∷ []) [] =
    filter_more p xs c.loop-k.k-index k c.loop-k-test.true ∙ ap₂ (λ b x. found ++ cond b (x ∷ []) []) here (sym c.k-item.is) in
    c.in_ok-push_if.ensures.pushed ∙ (ap (λ l. l ++ cond c.is_led_to-leads.result (k ∷ []) []) c.loop-k.invariant ∙ sym next)
