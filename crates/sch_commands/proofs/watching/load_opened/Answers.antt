-- The watched expressions are read, and the document is opened with them.
use Rattle.std.proofs.Common.{◌∙◌, [], ◌∷◌, List, Err, ap}
use Rattle.std.proofs.lemmas.Result.{err_from_is_err_and}
use Rattle.xp_typed_tree.specs.TypedTree.{TypedTree}
use Rattle.sch_commands.specs.Behaviours.{OpeningWatch, WatchingOn}
use Rattle.sch_loading.specs.Reads.{file}
use Rattle.sch_loading.specs.Loading.{Watching}
use Rattle.sch_commands.specs.inner.Followers.{watched_by}
use Rattle.sch_loading.proofs.PartLemmas.{reads_nothing, reads_stopped, reads_then}
use Rattle.sch_commands.proofs.watching.load_opened.Goals as goal

pub returns-in_err-document-clause-reads : goal.returns-in_err-document-clause-reads
returns-in_err-document-clause-reads g c =
    let error = err_from_is_err_and c.from_residual.result c.from_residual.ensures.1 in
    let asked = c.args.asked in
    reads_nothing _ (file asked.watches.now ∷ file asked.document.now ∷ []) (λ files. OpeningWatch files asked.watches.now asked.document.now) watched_by
    c.from_residual.result error.0 error.1 error.2

pub returns-in_err-list-clause-reads : goal.returns-in_err-list-clause-reads
returns-in_err-list-clause-reads g c =
    let error = err_from_is_err_and c.from_residual-in_err-list.result c.from_residual-in_err-list.ensures.1 in
    let asked = c.args.asked in
    reads_stopped _ _ (file asked.watches.now ∷ []) (file asked.document.now ∷ []) (λ files. Watching files asked.watches.now) (λ files exprs. WatchingOn files exprs asked.document.now)
    (λ (exprs : List TypedTree). exprs) watched_by c.in_err-list.field-0.0 c.from_residual-in_err-list.result (error.1 ∙ ap Err error.2) c.in_err-list.ensures

pub returns-clause-reads : goal.returns-clause-reads
returns-clause-reads g c =
    let asked = c.args.asked in
    reads_then _ _ _ (file asked.watches.now ∷ []) (file asked.document.now ∷ []) (λ files. Watching files asked.watches.now) (λ files exprs. WatchingOn files exprs asked.document.now)
    (λ (exprs : List TypedTree). exprs) watched_by c.in_ok-list.list c.load_with.result c.in_ok-list.ensures (rw (c.in_ok-document.ensures, c.as_str.ensures) at c.load_with.ensures.reads)
