-- The document is opened with the watched expressions, and the script is read.
use Rattle.std.proofs.Common.{◌∙◌, [], ◌∷◌, ℕ, List, Err, Ok, ap, refl}
use Rattle.std.proofs.lemmas.Result.{err_from_is_err_and}
use Rattle.sch_commands.specs.declared.watching.Watched.{Watched as Borrowed}
use Rattle.sch_commands.specs.Behaviours.{OpeningWatch, WatchedScript, WatchingAll}
use Rattle.sch_loading.specs.Reads.{file}
use Rattle.sch_loading.specs.Loading.{Scripting}
use Rattle.sch_loading.specs.Stages.{Is, Then, goes}
use Rattle.sch_commands.specs.inner.Followers.{watched_by, watched_script}
use Rattle.sch_loading.proofs.PartLemmas.{reads_as, reads_nothing, reads_stopped, reads_then}
use Rattle.sch_commands.proofs.watching.load_watched.Goals as goal

pub returns-in_err-name-clause-reads : goal.returns-in_err-name-clause-reads
returns-in_err-name-clause-reads g c =
    let error = err_from_is_err_and c.from_residual.result c.from_residual.ensures.1 in
    let asked = c.args.asked in
    reads_nothing _ (file asked.watches.now ∷ file asked.document.now ∷ file asked.script.now ∷ [])
    (λ files. WatchingAll files asked.watches.now asked.document.now asked.script.now) watched_script c.from_residual.result error.0 error.1 error.2

pub returns-in_err-watch-clause-reads : goal.returns-in_err-watch-clause-reads
returns-in_err-watch-clause-reads g c =
    let error = err_from_is_err_and c.from_residual-in_err-watch.result c.from_residual-in_err-watch.ensures.1 in
    let asked = c.args.asked in
    reads_stopped _ _ (file asked.watches.now ∷ file asked.document.now ∷ []) (file asked.script.now ∷ []) (λ files. OpeningWatch files asked.watches.now asked.document.now)
    (λ files watched. Then (Scripting files asked.script.now) (λ bytes. Is (goes (record { watched = watched; script = bytes })))) watched_by watched_script
    c.in_err-watch.field-0.0 c.from_residual-in_err-watch.result (error.1 ∙ ap Err error.2) c.in_err-watch.ensures.reads

pub returns-in-Ok-clause-reads : goal.returns-in-Ok-clause-reads
returns-in-Ok-clause-reads g c =
    let asked = c.args.asked in
    let watch = c.in_ok-watch.watch in
    let both : Borrowed = record { watch = watch; script = c.in-Ok.script } in
    reads_then _ _ _ (file asked.watches.now ∷ file asked.document.now ∷ []) (file asked.script.now ∷ []) (λ files. OpeningWatch files asked.watches.now asked.document.now)
    (λ files watched. Then (Scripting files asked.script.now) (λ bytes. Is (goes (record { watched = watched; script = bytes })))) watched_by watched_script watch (Ok both)
    c.in_ok-watch.ensures.reads
    (reads_as _ _ (file asked.script.now ∷ []) (λ files. Scripting files asked.script.now) (λ (bytes : List ℕ). let made : WatchedScript = record { watched = watched_by watch; script = bytes } in made)
    (λ (bytes : List ℕ). bytes) watched_script c.in-Ok.script both refl (rw (c.in_ok-name.ensures, c.as_str.ensures) at c.in-Ok.ensures.reads))

pub returns-in-Err-clause-reads : goal.returns-in-Err-clause-reads
returns-in-Err-clause-reads g c =
    let asked = c.args.asked in
    let watch = c.in_ok-watch.watch in
    reads_then _ _ _ (file asked.watches.now ∷ file asked.document.now ∷ []) (file asked.script.now ∷ []) (λ files. OpeningWatch files asked.watches.now asked.document.now)
    (λ files watched. Then (Scripting files asked.script.now) (λ bytes. Is (goes (record { watched = watched; script = bytes })))) watched_by watched_script watch (Err c.in-Err.stop)
    c.in_ok-watch.ensures.reads
    (reads_stopped _ _ (file asked.script.now ∷ []) [] (λ files. Scripting files asked.script.now)
    (λ files bytes. Is (goes (let made : WatchedScript = record { watched = watched_by watch; script = bytes } in made))) (λ (bytes : List ℕ). bytes) watched_script
    c.in-Err.stop (Err c.in-Err.stop) refl (rw (c.in_ok-name.ensures, c.as_str.ensures) at c.in-Err.ensures.reads))
