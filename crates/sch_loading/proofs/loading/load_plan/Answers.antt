-- The tree of the schema gives the plan.
use Rattle.std.proofs.Common.{◌∙◌, [], ◌∷◌, Err, Ok, ap}
use Rattle.std.proofs.lemmas.Result.{err_from_is_err_and}
use Rattle.doc_tree.specs.Table.{Contents}
use Rattle.sch_compiled.specs.declared.plan.Plan.{Plan}
use Rattle.sch_loading.specs.Reads.{schema_file}
use Rattle.sch_loading.specs.Loading.{Compiling, Inclusion, Reading}
use Rattle.sch_loading.specs.Stages.{Then}
use Rattle.sch_loading.proofs.PartLemmas.{reads_on, reads_stopped}
use Rattle.sch_loading.proofs.loading.load_plan.Goals as goal

pub returns-in_err-tree-clause-reads : goal.returns-in_err-tree-clause-reads
returns-in_err-tree-clause-reads g c =
    let error = err_from_is_err_and c.from_residual.result c.from_residual.ensures.1 in
    reads_stopped _ _ (schema_file c.args.name.now ∷ []) [] (λ files. Inclusion files c.args.name.now) (λ files T. Then (Reading T) (Compiling T c.args.phase.now)) (λ (tree : Contents). tree.nodes) (λ (plan : Plan). plan)
    c.in_err-tree.field-0.0 c.from_residual.result (error.1 ∙ ap Err error.2) c.in_err-tree.ensures.reads

pub returns-clause-reads : goal.returns-clause-reads
returns-clause-reads g c =
    reads_on _ _ (schema_file c.args.name.now ∷ []) (λ files. Inclusion files c.args.name.now) (λ T. Then (Reading T) (Compiling T c.args.phase.now)) (λ (tree : Contents). tree.nodes) (λ (plan : Plan). plan)
    c.in_ok-tree.tree c.plan_of.result c.in_ok-tree.ensures.reads c.plan_of.ensures.ends c.plan_of.ensures.inner
