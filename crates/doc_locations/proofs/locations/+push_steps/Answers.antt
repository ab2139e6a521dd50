-- The steps of the way up, then the node's own.
use Rattle.std.proofs.Common.{◌≡◌, ◌∙◌, ◌++◌, length, sym, ap, arith, append-nil, string_bytes}
use Rattle.doc_tree.specs.Walks.{ancestors}
use Rattle.doc_locations.specs.Locations.{step_of, steps_of}
use Rattle.doc_locations.proofs.LocationLemmas.{step-behind, steps-above, no_steps-above}
use Rattle.doc_locations.proofs.locations.+push_steps.Goals as goal
use Rattle.doc_locations.proofs.locations.+push_steps.Goals.{in-Some+in_ok-push_steps, in_default}

pub returns : goal.returns
returns t c =
    let T = c.args.tree.now.nodes in
    let n = c.args.n in
    let ways = c.laws.ensures.ways_up in
    let before : string_bytes c.match-parent.text ≡ string_bytes c.args.text.now ++ steps_of T (ancestors T n) = elim c.match-parent.branch [
      | in-Some+in_ok-push_steps w ↦ ap string_bytes w.text-is ∙ (w.in_ok-push_steps.ensures ∙ ap (λ steps. string_bytes c.args.text.now ++ steps) (steps-above T ways n w.in-Some.parent (sym w.in-Some.ensures)))
      | in_default w ↦ ap string_bytes w.text-is ∙ sym (ap (λ steps. string_bytes c.args.text.now ++ steps) (no_steps-above T ways n (sym c.parent.ensures ∙ w.in_default.is)) ∙ append-nil (string_bytes c.args.text.now))
    ] in
    step-behind c.push_step.result _ _ _ (steps_of T (ancestors T n)) (step_of T n) before c.push_step.ensures

pub push_steps-requires : goal.push_steps-requires
push_steps-requires t c =
    let up = sym c.in-Some.ensures in
    let way = ap length (c.laws.ensures.ways_up.ancestors_at c.args.n c.in-Some.parent up) in
    (omega (arith, way), (c.laws.ensures.ways_up.parent_live c.args.n c.in-Some.parent up, c.requires.places))
