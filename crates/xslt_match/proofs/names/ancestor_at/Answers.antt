use Rattle.std.proofs.Common.{◌≡◌, ◌∙◌, ◌+◌, ◌-◌, ℕ, None, arith, ap, add-one, sym}
use Rattle.std.specs.Prelude.{option_and_then}
use Rattle.doc_tree.specs.Table.{parent_of}
use Rattle.xslt_match.specs.Names.{ancestor_at}
use Rattle.xslt_match.proofs.Recording.{none_above}
use Rattle.xslt_match.proofs.names.ancestor_at.Goals as goal

pub returns-in-None : goal.returns-in-None
returns-in-None c =
    let T = c.args.tree.now.nodes in
    let k = c.loop-k.k in
    let end : ancestor_at T (k + 1) c.args.n ≡ None =
    ap (λ (j : ℕ). ancestor_at T j c.args.n) (add-one k) ∙ ap (option_and_then (parent_of T)) c.loop-k.invariant.at ∙ sym c.parent.ensures ∙ c.in-None.is in
    let more : c.args.levels - (k + 1) + (k + 1) ≡ c.args.levels = omega (arith, c.loop-k-test.true) in
    sym (none_above T c.args.n (k + 1) (c.args.levels - (k + 1)) end) ∙ ap (λ (j : ℕ). ancestor_at T j c.args.n) more
