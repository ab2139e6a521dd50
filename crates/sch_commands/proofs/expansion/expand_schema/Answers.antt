-- The parts end as the whole.
use Rattle.std.proofs.Common.{◌∙◌, ◌≡◌, [], ◌∷◌, false, Err, ap, refl, arith}
use Rattle.std.proofs.lemmas.Result.{err_from_is_err_and}
use Rattle.sch_model.specs.declared.flat.FlatSchema.{FlatSchema}
use Rattle.sch_undo.specs.shown.Shown.TheVariants as shown
use Rattle.sch_loading.specs.Reads.{schema_file}
use Rattle.sch_loading.specs.Loading.{Expanding}
use Rattle.sch_commands.specs.Output.{expanded}
use Rattle.sch_loading.specs.Stages.{Is, Then, goes}
use Rattle.sch_commands.proofs.CarryLemmas.{accepted, carried, refused_early, stopped_before}
use Rattle.sch_commands.proofs.EndLemmas.{text_behind}
use Rattle.sch_loading.proofs.PartLemmas.{reads_as, reads_stopped}
use Rattle.sch_commands.proofs.StepLemmas.{none_counted}
use Rattle.sch_commands.proofs.expansion.expand_schema.Goals as goal

pub returns-in_err-flat-clause-carried : goal.returns-in_err-flat-clause-carried
returns-in_err-flat-clause-carried g c = λ count.
    let error = err_from_is_err_and c.from_residual.result c.from_residual.ensures.1 in
    let schema = c.args.name.now in
    stopped_before (schema_file schema ∷ []) (λ files. Then (Expanding files schema) (λ flat. Is (goes (expanded flat)))) (λ (flat : FlatSchema). expanded flat)
    (λ written output. output ≡ written) (λ written text. text ≡ written.out) (λ written cost. cost ≡ 0) false _ _ _ count c.in_err-flat.field-0.0 c.from_residual.result (error.1 ∙ ap Err error.2)
    (reads_stopped _ _ (schema_file schema ∷ []) [] (λ files. Expanding files schema) (λ files flat. Is (goes (expanded flat))) (λ (flat : FlatSchema). flat) (λ (flat : FlatSchema). expanded flat)
    c.in_err-flat.field-0.0 (Err c.in_err-flat.field-0.0) refl c.in_err-flat.ensures)

pub returns-in_err-flat-clause-accepted : goal.returns-in_err-flat-clause-accepted
returns-in_err-flat-clause-accepted g c =
    let error = err_from_is_err_and c.from_residual.result c.from_residual.ensures.1 in
    refused_early c.in_err-flat.field-0.0 c.from_residual.result (error.1 ∙ ap Err error.2) c.in_err-flat.ensures.no_usage

pub returns-clause-carried : goal.returns-clause-carried
returns-clause-carried g c = λ count.
    let schema = c.args.name.now in
    let flat = c.in_ok-flat.flat in
    carried (schema_file schema ∷ []) (λ files. Then (Expanding files schema) (λ f. Is (goes (expanded f)))) (λ (f : FlatSchema). expanded f)
    (λ written output. output ≡ written) (λ written text. text ≡ written.out) (λ written cost. cost ≡ 0) false _ _ _ _ count count flat c.write_expanded-written.result
    (reads_as _ _ (schema_file schema ∷ []) (λ files. Expanding files schema) expanded (λ (f : FlatSchema). f) (λ (f : FlatSchema). expanded f) flat flat refl c.in_ok-flat.ensures)
    (text_behind (λ written output. output ≡ written) (λ written text. text ≡ written.out) (expanded flat) _ _ (expanded flat).out shown.Clean refl refl c.write_expanded-written.result
    c.write_expanded-written.ensures.wrote c.write_expanded-written.ensures.shown (λ written cost. cost ≡ 0) false count count (none_counted count c.write_expanded-written.result) (λ idle. refl) (omega arith))

pub returns-clause-accepted : goal.returns-clause-accepted
returns-clause-accepted g c = accepted c.write_expanded-written.result c.write_expanded-written.ensures.wrote.writing
