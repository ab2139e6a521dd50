-- One item more, and the end behind the last one.
use Rattle.std.proofs.Common.{◌≡◌, ◌∙◌, ◌++◌, List, ℕ, append_assoc, codes, ap, arith}
use Rattle.std.specs.List.{flat_map, range_with_len}
use Rattle.sch_measure.specs.Texts.{item_lines}
use Rattle.sch_measure.proofs.TextLemmas.{pieces-all, pieces-next}
use Rattle.sch_measure.proofs.texts.document_text.Goals as goal

pub loop-before-preserved : goal.loop-before-preserved
loop-before-preserved c = pieces-next item_lines (codes "(list\n") _ _ c.loop-before.before c.loop-before.invariant c.in_ok-push_item.ensures

pub returns : goal.returns
returns c =
    let end : c.loop-before.before ≡ c.args.items = omega (arith, c.loop-before-test.false, c.loop-before.auto.before-end) in
    let all = pieces-all item_lines (codes "(list\n") _ c.loop-before.before c.args.items c.loop-before.invariant end in
    c.in_ok-push_str.ensures.bytes ∙ ap (λ (text : List ℕ). text ++ codes ")list\n") all ∙ append_assoc (codes "(list\n") (flat_map item_lines (range_with_len 1 c.args.items)) (codes ")list\n")
