-- The map's entry is put in its place.
use Rattle.std.proofs.Common.{◌∙◌, ◌≡◌, ◌+◌, ℕ, unwrap_or, ap, rules}
use Rattle.std.specs.BTreeMap.{get_by}
use Rattle.std.specs.Cmp.Lexicographic.{slice_cmp}
use Rattle.std.specs.Ordering.{nat_cmp}
use Rattle.svrl_summary.proofs.LabelLemmas.{counted-here}
use Rattle.svrl_summary.proofs.label.Labels.count.Goals as goal

pub returns-clause-counted : goal.returns-clause-counted
returns-clause-counted c =
    let before : c.unwrap_or-before.result ≡ unwrap_or (get_by (λ x. slice_cmp nat_cmp c.args.text.now x.now) c.args.self.now.counts) 0 = search rules in
    counted-here c.args.self.now.counts c.insert.new.self c.args.text _ c.in_ok-insert.ensures.entries (c.in_ok-plus.ensures ∙ ap (λ (n : ℕ). n + 1) before)
