-- The file has the bytes of a script, or the script is not read.
use Rattle.std.proofs.Common.{◌∙◌, ℕ, List, [], ◌∷◌, Option, Err, Ok, ap}
use Rattle.std.proofs.lemmas.Result.{err_from_is_err_and}
use Rattle.sch_io.specs.ReadThrough.{all_but_last}
use Rattle.sch_io.specs.declared.reading.TheConstants.{MAX_FILE_BYTES}
use Rattle.sch_stops.specs.declared.refusal.ScriptRefusal.TheVariants.{TooLarge}
use Rattle.sch_stops.specs.declared.stop.Stop.TheVariants.{ScriptRefused}
use Rattle.sch_loading.specs.Reads.{file}
use Rattle.sch_loading.specs.Loading.{Fetching, as_script}
use Rattle.sch_loading.specs.Stages.{Is}
use Rattle.sch_loading.proofs.FileLemmas.{found_none, found_whole, script_inside, script_read, script_too_long}
use Rattle.sch_loading.proofs.PartLemmas.{reads_ended, reads_on, reads_stopped}
use Rattle.sch_loading.proofs.loading.read_script.Goals as goal

pub returns-in_err-found-clause-reads : goal.returns-in_err-found-clause-reads
returns-in_err-found-clause-reads g c =
    let error = err_from_is_err_and c.from_residual.result c.from_residual.ensures.1 in
    reads_stopped _ _ (file c.args.name ∷ []) [] (λ files. Fetching files c.args.name MAX_FILE_BYTES) (λ files found. Is (as_script found)) (λ (found : Option (List ℕ)). found) (λ (bytes : List ℕ). bytes)
    c.in_err-found.field-0.0 c.from_residual.result (error.1 ∙ ap Err error.2) c.in_err-found.ensures.reads

pub returns-in-Some-clause-reads : goal.returns-in-Some-clause-reads
returns-in-Some-clause-reads g c =
    reads_on _ _ (file c.args.name ∷ []) (λ files. Fetching files c.args.name MAX_FILE_BYTES) (λ found. Is (as_script found)) (λ (found : Option (List ℕ)). found) (λ (bytes : List ℕ). bytes) c.in_ok-found.found (Ok c.in-Some.bytes)
    (found_whole _ _ (file c.args.name ∷ []) (λ files. Fetching files c.args.name MAX_FILE_BYTES) (λ (found : Option (List ℕ)). found) c.in_ok-found.found c.in-Some.bytes c.in-Some.is c.in_ok-found.ensures.reads)
    (script_read c.in_ok-found.found c.in-Some.bytes c.in-Some.is) tt

pub returns-in-None-clause-reads : goal.returns-in-None-clause-reads
returns-in-None-clause-reads g c =
    let one = found_none _ _ (file c.args.name ∷ []) (λ files. Fetching files c.args.name MAX_FILE_BYTES) (λ (found : Option (List ℕ)). found) c.in_ok-found.found c.in-None.is c.in_ok-found.ensures.reads in
    reads_ended all_but_last _ _ (file c.args.name ∷ []) (λ files. Fetching files c.args.name MAX_FILE_BYTES) (λ found. Is (as_script found)) (λ (found : Option (List ℕ)). found) (λ (bytes : List ℕ). bytes) c.in_ok-found.found (ScriptRefused TooLarge)
    one (script_too_long c.in_ok-found.found c.in-None.is) script_inside one.through
