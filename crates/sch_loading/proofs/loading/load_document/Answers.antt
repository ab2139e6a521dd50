-- The file is a document, or the document is refused.
use Rattle.std.proofs.Common.{◌∙◌, ℕ, List, [], ◌∷◌, Option, Err, Ok, ap, refl}
use Rattle.std.proofs.lemmas.Result.{err_from_is_err_and}
use Rattle.sch_io.specs.ReadThrough.{all_but_last}
use Rattle.sch_io.specs.declared.reading.TheConstants.{MAX_FILE_BYTES}
use Rattle.doc_tree.specs.Table.{Contents}
use Rattle.sch_stops.specs.declared.refusal.DocumentRefusal.TheVariants.{File}
use Rattle.sch_stops.specs.declared.refusal.FileRefusal.TheVariants.{Faulted, TooLarge}
use Rattle.sch_stops.specs.declared.stop.Stop.TheVariants.{DocumentRefused, Memory}
use Rattle.sch_loading.specs.Reads.{file}
use Rattle.sch_loading.specs.Loading.{Fetching, Parsing}
use Rattle.sch_loading.proofs.FileLemmas.{document_faulted, document_inner, document_inside, document_loaded, document_too_large, found_large, found_whole, memory_inner, stopped_there}
use Rattle.sch_loading.proofs.PartLemmas.{reads_ended, reads_on, reads_stopped}
use Rattle.sch_loading.proofs.loading.load_document.Goals as goal

pub returns-in_err-bytes-clause-reads : goal.returns-in_err-bytes-clause-reads
returns-in_err-bytes-clause-reads g c =
    let error = err_from_is_err_and c.from_residual.result c.from_residual.ensures.1 in
    reads_stopped _ _ (file c.args.name ∷ []) [] (λ files. Fetching files c.args.name MAX_FILE_BYTES) (λ files. Parsing) (λ (found : Option (List ℕ)). found) (λ (tree : Contents). tree.nodes)
    c.in_err-bytes.field-0.0 c.from_residual.result (error.1 ∙ ap Err error.2) c.in_err-bytes.ensures.reads

pub returns-in_default-clause-reads : goal.returns-in_default-clause-reads
returns-in_default-clause-reads g c =
    let one = found_large _ _ (file c.args.name ∷ []) (λ files. Fetching files c.args.name MAX_FILE_BYTES) (λ (found : Option (List ℕ)). found) c.in_ok-bytes.field-0 c.in_default.not-Some c.in_ok-bytes.ensures.reads in
    reads_ended all_but_last _ _ (file c.args.name ∷ []) (λ files. Fetching files c.args.name MAX_FILE_BYTES) Parsing (λ (found : Option (List ℕ)). found) (λ (tree : Contents). tree.nodes) c.in_ok-bytes.field-0 c.refused_document.result
    one (document_too_large c.in_ok-bytes.field-0 c.refused_document.result c.in_default.not-Some c.refused_document.ensures)
    (document_inside c.refused_document.result (File TooLarge) c.refused_document.ensures) (stopped_there _ _ c.refused_document.result (DocumentRefused (File TooLarge)) c.refused_document.ensures one.through)

pub returns-in-Ok-clause-reads : goal.returns-in-Ok-clause-reads
returns-in-Ok-clause-reads g c =
    reads_on _ _ (file c.args.name ∷ []) (λ files. Fetching files c.args.name MAX_FILE_BYTES) Parsing (λ (found : Option (List ℕ)). found) (λ (tree : Contents). tree.nodes) c.in_ok-bytes.field-0 (Ok c.in-Ok.tree)
    (found_whole _ _ (file c.args.name ∷ []) (λ files. Fetching files c.args.name MAX_FILE_BYTES) (λ (found : Option (List ℕ)). found) c.in_ok-bytes.field-0 c.in-Some.bytes c.in-Some.is c.in_ok-bytes.ensures.reads)
    (document_loaded c.in_ok-bytes.field-0 c.in-Some.bytes c.as_slice.result.now c.in-Ok.tree c.in-Some.is c.as_slice.ensures c.in-Ok.ensures.good c.in-Ok.ensures.loaded) tt

pub returns-in-Err-Fault-clause-reads : goal.returns-in-Err-Fault-clause-reads
returns-in-Err-Fault-clause-reads g c =
    let stop = c.refused_document-in-Err-Fault.result in
    reads_on _ _ (file c.args.name ∷ []) (λ files. Fetching files c.args.name MAX_FILE_BYTES) Parsing (λ (found : Option (List ℕ)). found) (λ (tree : Contents). tree.nodes) c.in_ok-bytes.field-0 (Err stop)
    (found_whole _ _ (file c.args.name ∷ []) (λ files. Fetching files c.args.name MAX_FILE_BYTES) (λ (found : Option (List ℕ)). found) c.in_ok-bytes.field-0 c.in-Some.bytes c.in-Some.is c.in_ok-bytes.ensures.reads)
    (document_faulted c.in_ok-bytes.field-0 c.in-Some.bytes c.as_slice.result.now c.in-Err-Fault.fault stop c.in-Some.is c.as_slice.ensures
    (rw c.in-Err-Fault.field-0-is at c.in-Err-Fault.ensures.refused) c.refused_document-in-Err-Fault.ensures)
    (document_inner stop (File (Faulted c.in-Err-Fault.fault)) c.refused_document-in-Err-Fault.ensures tt)

pub returns-clause-reads : goal.returns-clause-reads
returns-clause-reads g c =
    reads_on _ _ (file c.args.name ∷ []) (λ files. Fetching files c.args.name MAX_FILE_BYTES) Parsing (λ (found : Option (List ℕ)). found) (λ (tree : Contents). tree.nodes) c.in_ok-bytes.field-0 (Err Memory)
    (found_whole _ _ (file c.args.name ∷ []) (λ files. Fetching files c.args.name MAX_FILE_BYTES) (λ (found : Option (List ℕ)). found) c.in_ok-bytes.field-0 c.in-Some.bytes c.in-Some.is c.in_ok-bytes.ensures.reads)
    tt (memory_inner Memory refl)
