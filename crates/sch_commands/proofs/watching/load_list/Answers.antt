-- The file is read by the copy of its name.
use Rattle.std.proofs.Common.{[], ◌∷◌, List}
use Rattle.std.proofs.lemmas.Result.{err_from_is_err_and}
use Rattle.xp_typed_tree.specs.TypedTree.{TypedTree}
use Rattle.sch_loading.specs.Reads.{file}
use Rattle.sch_loading.specs.Loading.{Watching}
use Rattle.sch_loading.proofs.PartLemmas.{reads_nothing}
use Rattle.sch_commands.proofs.watching.load_list.Goals as goal

pub returns-in_err-name : goal.returns-in_err-name
returns-in_err-name g c =
    let error = err_from_is_err_and c.from_residual.result c.from_residual.ensures.1 in
    reads_nothing _ (file c.args.name.now ∷ []) (λ files. Watching files c.args.name.now) (λ (exprs : List TypedTree). exprs) c.from_residual.result error.0 error.1 error.2

pub returns : goal.returns
returns g c = rw (c.in_ok-name.ensures, c.as_str.ensures) at c.load_watches.ensures
