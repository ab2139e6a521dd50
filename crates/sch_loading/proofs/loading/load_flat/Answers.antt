-- The tree of the schema gives the schema without abstract parts.
use Rattle.std.proofs.Common.{◌∙◌, [], ◌∷◌, Err, Ok, ap}
use Rattle.std.proofs.lemmas.Result.{err_from_is_err_and}
use Rattle.doc_tree.specs.Table.{Contents}
use Rattle.sch_model.specs.declared.flat.FlatSchema.{FlatSchema}
use Rattle.sch_loading.specs.Reads.{schema_file}
use Rattle.sch_loading.specs.Loading.{Inclusion, Reading}
use Rattle.sch_loading.proofs.PartLemmas.{reads_on, reads_stopped}
use Rattle.sch_loading.proofs.loading.load_flat.Goals as goal

pub returns-in_err-tree : goal.returns-in_err-tree
returns-in_err-tree g c =
    let error = err_from_is_err_and c.from_residual.result c.from_residual.ensures.1 in
    reads_stopped _ _ (schema_file c.args.name.now ∷ []) [] (λ files. Inclusion files c.args.name.now) (λ files. Reading) (λ (tree : Contents). tree.nodes) (λ (flat : FlatSchema). flat)
    c.in_err-tree.field-0.0 c.from_residual.result (error.1 ∙ ap Err error.2) c.in_err-tree.ensures.reads

pub returns : goal.returns
returns g c =
    reads_on _ _ (schema_file c.args.name.now ∷ []) (λ files. Inclusion files c.args.name.now) Reading (λ (tree : Contents). tree.nodes) (λ (flat : FlatSchema). flat) c.in_ok-tree.tree c.read_flat.result
    c.in_ok-tree.ensures.reads c.read_flat.ensures.ends c.read_flat.ensures.inner
