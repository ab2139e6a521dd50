-- The file is a document, or it is refused.
use Rattle.std.proofs.Common.{◌∙◌, [], ◌∷◌, Err, Ok, ap, refl}
use Rattle.std.proofs.lemmas.Result.{err_from_is_err_and}
use Rattle.doc_tree.specs.Table.{Contents}
use Rattle.sch_stops.specs.declared.stop.Stop.TheVariants.{Memory}
use Rattle.sch_loading.specs.Reads.{file}
use Rattle.sch_commands.specs.Behaviours.{watched_on}
use Rattle.sch_loading.specs.Loading.{Loading}
use Rattle.sch_loading.specs.Stages.{Is, goes}
use Rattle.sch_commands.specs.inner.Followers.{watched_by}
use Rattle.sch_loading.proofs.FileLemmas.{memory_inner}
use Rattle.sch_loading.proofs.PartLemmas.{reads_on, reads_stopped}
use Rattle.sch_commands.proofs.WatchLemmas.{opened_with, unevaluated-watched}
use Rattle.sch_commands.proofs.watching.load_with.Goals as goal

pub returns-in_err-tree-clause-reads : goal.returns-in_err-tree-clause-reads
returns-in_err-tree-clause-reads g c =
    let error = err_from_is_err_and c.from_residual.result c.from_residual.ensures.1 in
    reads_stopped _ _ (file c.args.name ∷ []) [] (λ files. Loading files c.args.name) (λ files T. Is (goes (watched_on c.args.list T)))
    (λ (tree : Contents). tree.nodes) watched_by c.in_err-tree.field-0.0 c.from_residual.result (error.1 ∙ ap Err error.2) c.in_err-tree.ensures.reads

pub returns-in-Ok-clause-reads : goal.returns-in-Ok-clause-reads
returns-in-Ok-clause-reads g c =
    reads_on _ _ (file c.args.name ∷ []) (λ files. Loading files c.args.name) (λ T. Is (goes (watched_on c.args.list T))) (λ (tree : Contents). tree.nodes) watched_by c.in_ok-tree.tree (Ok c.in-Ok.watch) c.in_ok-tree.ensures.reads
    (opened_with c.args.list c.in_ok-tree.tree c.in-Ok.watch c.in-Ok.ensures.expressions (ap (λ (tree : Contents). tree.nodes) c.in-Ok.ensures.tree)) tt

pub returns-in-Ok-clause-cap : goal.returns-in-Ok-clause-cap
returns-in-Ok-clause-cap g c = ap (λ (tree : Contents). tree.pair_cap) c.in-Ok.ensures.tree

pub returns-in-Ok-clause-unevaluated : goal.returns-in-Ok-clause-unevaluated
returns-in-Ok-clause-unevaluated g c = unevaluated-watched c.in-Ok.watch c.in-Ok.ensures.stale

pub returns-in-Err-clause-reads : goal.returns-in-Err-clause-reads
returns-in-Err-clause-reads g c =
    reads_on _ _ (file c.args.name ∷ []) (λ files. Loading files c.args.name) (λ T. Is (goes (watched_on c.args.list T))) (λ (tree : Contents). tree.nodes) watched_by c.in_ok-tree.tree (Err Memory) c.in_ok-tree.ensures.reads
    tt (memory_inner Memory refl)
