-- The document is opened under its plan, and the script is read.
use Rattle.std.proofs.Common.{◌∙◌, [], ◌∷◌, ℕ, List, Err, Ok, ap, refl}
use Rattle.std.proofs.lemmas.Result.{err_from_is_err_and}
use Rattle.sch_commands.specs.declared.following.Scripted.{Scripted as Borrowed}
use Rattle.sch_commands.specs.Behaviours.{Opening, OpeningAll, Scripted}
use Rattle.sch_loading.specs.Reads.{file, schema_file}
use Rattle.sch_loading.specs.Loading.{Scripting}
use Rattle.sch_loading.specs.Stages.{Is, Then, goes}
use Rattle.sch_commands.specs.inner.Followers.{scripted_by, treed_by}
use Rattle.sch_loading.proofs.PartLemmas.{reads_as, reads_nothing, reads_stopped, reads_then}
use Rattle.sch_commands.proofs.following.load_scripted.Goals as goal

pub returns-in_err-name-clause-reads : goal.returns-in_err-name-clause-reads
returns-in_err-name-clause-reads g c =
    let error = err_from_is_err_and c.from_residual.result c.from_residual.ensures.1 in
    let asked = c.args.asked.validation in
    reads_nothing _ (schema_file asked.schema.now ∷ file asked.document.now ∷ file c.args.asked.script.now ∷ [])
    (λ files. OpeningAll files asked.phase.now asked.schema.now asked.document.now c.args.asked.script.now) scripted_by c.from_residual.result error.0 error.1 error.2

pub returns-in_err-session-clause-reads : goal.returns-in_err-session-clause-reads
returns-in_err-session-clause-reads g c =
    let error = err_from_is_err_and c.from_residual-in_err-session.result c.from_residual-in_err-session.ensures.1 in
    let asked = c.args.asked.validation in
    reads_stopped _ _ (schema_file asked.schema.now ∷ file asked.document.now ∷ []) (file c.args.asked.script.now ∷ []) (λ files. Opening files asked.phase.now asked.schema.now asked.document.now)
    (λ files treed. Then (Scripting files c.args.asked.script.now) (λ bytes. Is (goes (record { treed = treed; script = bytes })))) treed_by scripted_by
    c.in_err-session.field-0.0 c.from_residual-in_err-session.result (error.1 ∙ ap Err error.2) c.in_err-session.ensures.reads

pub returns-in-Ok-clause-reads : goal.returns-in-Ok-clause-reads
returns-in-Ok-clause-reads g c =
    let asked = c.args.asked.validation in
    let session = c.in_ok-session.session in
    let both : Borrowed = record { session = session; script = c.in-Ok.script } in
    reads_then _ _ _ (schema_file asked.schema.now ∷ file asked.document.now ∷ []) (file c.args.asked.script.now ∷ []) (λ files. Opening files asked.phase.now asked.schema.now asked.document.now)
    (λ files treed. Then (Scripting files c.args.asked.script.now) (λ bytes. Is (goes (record { treed = treed; script = bytes })))) treed_by scripted_by session (Ok both)
    c.in_ok-session.ensures.reads
    (reads_as _ _ (file c.args.asked.script.now ∷ []) (λ files. Scripting files c.args.asked.script.now) (λ (bytes : List ℕ). let made : Scripted = record { treed = treed_by session; script = bytes } in made)
    (λ (bytes : List ℕ). bytes) scripted_by c.in-Ok.script both refl (rw (c.in_ok-name.ensures, c.as_str.ensures) at c.in-Ok.ensures.reads))

pub returns-in-Err-clause-reads : goal.returns-in-Err-clause-reads
returns-in-Err-clause-reads g c =
    let asked = c.args.asked.validation in
    let session = c.in_ok-session.session in
    reads_then _ _ _ (schema_file asked.schema.now ∷ file asked.document.now ∷ []) (file c.args.asked.script.now ∷ []) (λ files. Opening files asked.phase.now asked.schema.now asked.document.now)
    (λ files treed. Then (Scripting files c.args.asked.script.now) (λ bytes. Is (goes (record { treed = treed; script = bytes })))) treed_by scripted_by session (Err c.in-Err.stop)
    c.in_ok-session.ensures.reads
    (reads_stopped _ _ (file c.args.asked.script.now ∷ []) [] (λ files. Scripting files c.args.asked.script.now)
    (λ files bytes. Is (goes (let made : Scripted = record { treed = treed_by session; script = bytes } in made))) (λ (bytes : List ℕ). bytes) scripted_by
    c.in-Err.stop (Err c.in-Err.stop) refl (rw (c.in_ok-name.ensures, c.as_str.ensures) at c.in-Err.ensures.reads))
