-- The file is a tree that is not too large for the plan, or the document is refused.
use Rattle.std.proofs.Common.{◌∙◌, [], ◌∷◌, Err, Ok, ap, refl, subst, sym}
use Rattle.std.proofs.lemmas.Result.{err_from_is_err_and}
use Rattle.doc_tree.specs.Table.{Contents}
use Rattle.name_scopes.specs.Scoping.{InScope}
use Rattle.sch_undo.specs.Pairs.{has_too_many_pairs, pair_cap_for}
use Rattle.sch_stops.specs.declared.refusal.DocumentRefusal.TheVariants.{TooManyPairs}
use Rattle.sch_stops.specs.declared.stop.Stop.TheVariants.{DocumentRefused, Memory}
use Rattle.sch_loading.specs.Reads.{file}
use Rattle.sch_commands.specs.Behaviours.{too_many_pairs, tree_under}
use Rattle.sch_loading.specs.Loading.{Loading}
use Rattle.sch_loading.specs.Stages.{Is, halt_if}
use Rattle.sch_commands.specs.inner.Followers.{treed_by}
use Rattle.sch_loading.proofs.FileLemmas.{document_inner, memory_inner}
use Rattle.sch_commands.proofs.FollowLemmas.{opened_under}
use Rattle.sch_commands.proofs.SessionLemmas.{unevaluated-opened}
use Rattle.sch_loading.proofs.PartLemmas.{reads_on, reads_stopped}
use Rattle.sch_loading.proofs.SchemaLemmas.{halted_there}
use Rattle.sch_commands.proofs.validation.load_under.Goals as goal

pub returns-in_err-tree-clause-reads : goal.returns-in_err-tree-clause-reads
returns-in_err-tree-clause-reads g c =
    let error = err_from_is_err_and c.from_residual.result c.from_residual.ensures.1 in
    reads_stopped _ _ (file c.args.name ∷ []) [] (λ files. Loading files c.args.name) (λ files T. Is (halt_if (has_too_many_pairs c.args.plan T) too_many_pairs (tree_under c.args.plan T)))
    (λ (tree : Contents). tree.nodes) treed_by c.in_err-tree.field-0.0 c.from_residual.result (error.1 ∙ ap Err error.2) c.in_err-tree.ensures.reads

pub returns-in-Ok-clause-reads : goal.returns-in-Ok-clause-reads
returns-in-Ok-clause-reads g c =
    reads_on _ _ (file c.args.name ∷ []) (λ files. Loading files c.args.name) (λ T. Is (halt_if (has_too_many_pairs c.args.plan T) too_many_pairs (tree_under c.args.plan T))) (λ (tree : Contents). tree.nodes) treed_by c.in_ok-tree.tree (Ok c.in-Ok.session) c.in_ok-tree.ensures.reads
    (opened_under c.args.plan c.in_ok-tree.tree c.in-Ok.session c.in-Ok.ensures.plan (ap (λ (tree : Contents). tree.nodes) c.in-Ok.ensures.tree) c.in-Ok.ensures.within) tt

pub returns-in-Ok-clause-cap : goal.returns-in-Ok-clause-cap
returns-in-Ok-clause-cap g c = ap (λ (tree : Contents). tree.pair_cap) c.in-Ok.ensures.tree ∙ ap pair_cap_for (sym c.in-Ok.ensures.plan)

pub returns-in-Ok-clause-scoped : goal.returns-in-Ok-clause-scoped
returns-in-Ok-clause-scoped g c = subst (λ (tree : Contents). InScope tree.nodes) (sym c.in-Ok.ensures.tree) c.in_ok-tree.ensures.scoped

pub returns-in-Ok-clause-unevaluated : goal.returns-in-Ok-clause-unevaluated
returns-in-Ok-clause-unevaluated g c =
    unevaluated-opened c.args.plan c.in_ok-tree.tree c.in-Ok.session c.in-Ok.ensures.plan (ap (λ (tree : Contents). tree.nodes) c.in-Ok.ensures.tree) c.in-Ok.ensures.unrun

pub returns-in-Err-TooManyPairs-clause-reads : goal.returns-in-Err-TooManyPairs-clause-reads
returns-in-Err-TooManyPairs-clause-reads g c =
    let T = c.in_ok-tree.tree.nodes in
    reads_on _ _ (file c.args.name ∷ []) (λ files. Loading files c.args.name) (λ T. Is (halt_if (has_too_many_pairs c.args.plan T) too_many_pairs (tree_under c.args.plan T))) (λ (tree : Contents). tree.nodes) treed_by c.in_ok-tree.tree (Err (DocumentRefused TooManyPairs)) c.in_ok-tree.ensures.reads
    (refl, halted_there (has_too_many_pairs c.args.plan T) too_many_pairs (tree_under c.args.plan T) (rw c.in-Err-TooManyPairs.field-0-is at c.in-Err-TooManyPairs.ensures.refused))
    (document_inner (DocumentRefused TooManyPairs) TooManyPairs refl tt)

pub returns-in-Err-Memory-clause-reads : goal.returns-in-Err-Memory-clause-reads
returns-in-Err-Memory-clause-reads g c =
    reads_on _ _ (file c.args.name ∷ []) (λ files. Loading files c.args.name) (λ T. Is (halt_if (has_too_many_pairs c.args.plan T) too_many_pairs (tree_under c.args.plan T))) (λ (tree : Contents). tree.nodes) treed_by c.in_ok-tree.tree (Err Memory) c.in_ok-tree.ensures.reads
    tt (memory_inner Memory refl)
