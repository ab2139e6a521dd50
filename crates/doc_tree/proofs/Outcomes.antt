-- What an edit answers where it finds no memory.
use Rattle.std.proofs.Common.{◌≡◌, Option, None, Err, Ok, sym, subst}
use Rattle.std.specs.Prelude.{Result, IfErr, IsErrAnd}
use Rattle.doc_tree.specs.declared.refusal.EditRefusal.{EditRefusal}
use Rattle.doc_tree.specs.declared.refusal.EditError.{EditError}
use Rattle.doc_tree.specs.declared.refusal.EditError.TheVariants.{Memory}
use Rattle.doc_tree.specs.Refusals.{RefusesFor}

-- want of memory comes where there is no reason
pub wanting : {T : Type 0} (r : Result T EditError) (reason : Option EditRefusal) → reason ≡ None → IsErrAnd r (λ error. error ≡ Memory) → IfErr r (RefusesFor reason)
wanting (Ok x) reason none h = tt
wanting (Err e) reason none h = subst (RefusesFor reason) (sym h) none
