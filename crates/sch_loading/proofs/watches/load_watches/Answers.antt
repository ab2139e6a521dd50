-- The file holds watched expressions, or it is refused.
use Rattle.std.proofs.Common.{◌∙◌, ℕ, List, [], ◌∷◌, Option, Err, Ok, ap, refl}
use Rattle.std.proofs.lemmas.Result.{err_from_is_err_and}
use Rattle.sch_io.specs.ReadThrough.{all_but_last}
use Rattle.sch_io.specs.declared.reading.TheConstants.{MAX_FILE_BYTES}
use Rattle.xp_typed_tree.specs.TypedTree.{TypedTree}
use Rattle.sch_stops.specs.declared.refusal.SchemaRefusal.TheVariants.{Watches}
use Rattle.sch_stops.specs.declared.watches.WatchesRefusal.TheVariants.{Faulted, TooLarge}
use Rattle.sch_stops.specs.declared.stop.Stop.TheVariants.{SchemaRefused, Memory}
use Rattle.sch_loading.specs.Reads.{file}
use Rattle.sch_loading.specs.Loading.{Fetching, Expressing}
use Rattle.sch_loading.proofs.FileLemmas.{found_large, found_whole, memory_inner, stopped_there}
use Rattle.sch_loading.proofs.PartLemmas.{reads_ended, reads_on, reads_stopped}
use Rattle.sch_loading.proofs.WatchLemmas.{watches_faulted, watches_inner, watches_inside, watches_loaded, watches_too_large}
use Rattle.sch_loading.proofs.watches.load_watches.Goals as goal

pub returns-in_err-bytes : goal.returns-in_err-bytes
returns-in_err-bytes g c =
    let error = err_from_is_err_and c.from_residual.result c.from_residual.ensures.1 in
    reads_stopped _ _ (file c.args.name ∷ []) [] (λ files. Fetching files c.args.name MAX_FILE_BYTES) (λ files. Expressing) (λ (found : Option (List ℕ)). found) (λ (exprs : List TypedTree). exprs)
    c.in_err-bytes.field-0.0 c.from_residual.result (error.1 ∙ ap Err error.2) c.in_err-bytes.ensures.reads

pub returns-in_default : goal.returns-in_default
returns-in_default g c =
    let one = found_large _ _ (file c.args.name ∷ []) (λ files. Fetching files c.args.name MAX_FILE_BYTES) (λ (found : Option (List ℕ)). found) c.in_ok-bytes.field-0 c.in_default.not-Some c.in_ok-bytes.ensures.reads in
    reads_ended all_but_last _ _ (file c.args.name ∷ []) (λ files. Fetching files c.args.name MAX_FILE_BYTES) Expressing (λ (found : Option (List ℕ)). found) (λ (exprs : List TypedTree). exprs) c.in_ok-bytes.field-0 c.refused_watches.result
    one (watches_too_large c.in_ok-bytes.field-0 c.refused_watches.result c.in_default.not-Some c.refused_watches.ensures)
    (watches_inside c.refused_watches.result TooLarge c.refused_watches.ensures) (stopped_there _ _ c.refused_watches.result (SchemaRefused (Watches TooLarge)) c.refused_watches.ensures one.through)

pub returns-in-Ok : goal.returns-in-Ok
returns-in-Ok g c =
    reads_on _ _ (file c.args.name ∷ []) (λ files. Fetching files c.args.name MAX_FILE_BYTES) Expressing (λ (found : Option (List ℕ)). found) (λ (exprs : List TypedTree). exprs) c.in_ok-bytes.field-0 (Ok c.in-Ok.list)
    (found_whole _ _ (file c.args.name ∷ []) (λ files. Fetching files c.args.name MAX_FILE_BYTES) (λ (found : Option (List ℕ)). found) c.in_ok-bytes.field-0 c.in-Some.bytes c.in-Some.is c.in_ok-bytes.ensures.reads)
    (watches_loaded c.in_ok-bytes.field-0 c.in-Some.bytes c.as_slice.result.now c.in-Ok.list c.in-Some.is c.as_slice.ensures c.in-Ok.ensures.watches) tt

pub returns-in-Err-Fault : goal.returns-in-Err-Fault
returns-in-Err-Fault g c =
    let stop = c.refused_watches-in-Err-Fault.result in
    reads_on _ _ (file c.args.name ∷ []) (λ files. Fetching files c.args.name MAX_FILE_BYTES) Expressing (λ (found : Option (List ℕ)). found) (λ (exprs : List TypedTree). exprs) c.in_ok-bytes.field-0 (Err stop)
    (found_whole _ _ (file c.args.name ∷ []) (λ files. Fetching files c.args.name MAX_FILE_BYTES) (λ (found : Option (List ℕ)). found) c.in_ok-bytes.field-0 c.in-Some.bytes c.in-Some.is c.in_ok-bytes.ensures.reads)
    (watches_faulted c.in_ok-bytes.field-0 c.in-Some.bytes c.as_slice.result.now c.in-Err-Fault.fault stop c.in-Some.is c.as_slice.ensures
    (rw c.in-Err-Fault.field-0-is at c.in-Err-Fault.ensures.fault) c.refused_watches-in-Err-Fault.ensures)
    (watches_inner stop (Faulted c.in-Err-Fault.fault) c.refused_watches-in-Err-Fault.ensures tt)

pub returns : goal.returns
returns g c =
    reads_on _ _ (file c.args.name ∷ []) (λ files. Fetching files c.args.name MAX_FILE_BYTES) Expressing (λ (found : Option (List ℕ)). found) (λ (exprs : List TypedTree). exprs) c.in_ok-bytes.field-0 (Err Memory)
    (found_whole _ _ (file c.args.name ∷ []) (λ files. Fetching files c.args.name MAX_FILE_BYTES) (λ (found : Option (List ℕ)). found) c.in_ok-bytes.field-0 c.in-Some.bytes c.in-Some.is c.in_ok-bytes.ensures.reads)
    tt (memory_inner Memory refl)
