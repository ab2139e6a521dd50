use Rattle.std.proofs.Common.{◌+◌, ◌||◌, List, ℕ, ◌∙◌, ap, sym, drop, eqb}
use Rattle.doc_tree.specs.Lists.{mem}
use Rattle.xp_outcome.proofs.Runs.{next_item, no_item}
use Rattle.indexmap.specs.IndexSet.{insert_key}
use Rattle.xslt_match.proofs.Filters.{or-false}
use Rattle.xslt_match.proofs.Indexed.{put_on}
use Rattle.xslt_match.proofs.nodes.NodeIndex.of.Goals as goal

pub loop-n-preserved : goal.loop-n-preserved
loop-n-preserved c = λ q.
    let keys : List ℕ = c.loop-n.numbers.keys in
    let rest : List ℕ = drop (c.loop-n.n-index + 1) c.args.nodes.now in
    ap (λ (ks : List ℕ). mem q ks || mem q rest) (c.in_ok-insert.ensures.keys ∙ ap (insert_key eqb keys) c.index.ensures.value)
    ∙ put_on q c.n-item.result keys rest
    ∙ ap (λ (ns : List ℕ). mem q keys || mem q ns) (sym (next_item c.args.nodes.now c.loop-n.n-index c.n-item.result c.loop-n-test.true c.n-item.is))
    ∙ c.loop-n.invariant q

pub returns : goal.returns
returns c = λ q.
    let keys : List ℕ = c.loop-n.numbers.keys in
    sym (or-false (mem q keys))
    ∙ ap (λ (ns : List ℕ). mem q keys || mem q ns) (sym (no_item c.args.nodes.now c.loop-n.n-index c.loop-n-test.false))
    ∙ c.loop-n.invariant q
