-- The first argument, where there is one.
use Rattle.std.proofs.Common.{◌≡◌, List, [], ◌∷◌, Some, ap, slice_get}
use Rattle.doc_tree.specs.Table.{Table}
use Rattle.xp_outcome.specs.Evaluation.{done}
use Rattle.xp_values.specs.declared.values.Value.{Value}
use Rattle.xp_meaning.specs.declared.context.Context.{Context}
use Rattle.xp_meaning.specs.Functions.{text_of, number_of, text_or_own, number_or_own, in_place}

pub text_first : (T : Table) (c : Context) (vs : List Value) (v : Value) → slice_get vs 0 ≡ Some v → text_or_own T c vs ≡ done (text_of v)
text_first T c [] v is = cc
text_first T c (w ∷ ws) v is = ap (λ o. done (text_of (in_place o))) is

pub number_first : (T : Table) (c : Context) (vs : List Value) (v : Value) → slice_get vs 0 ≡ Some v → number_or_own T c vs ≡ done (number_of v)
number_first T c [] v is = cc
number_first T c (w ∷ ws) v is = ap (λ o. done (number_of (in_place o))) is
