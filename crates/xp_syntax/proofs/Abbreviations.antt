-- Each abbreviation of a step, wherever it stands, is short for the longer form.
use Rattle.std.proofs.Common.{◌≡◌, ℕ, Bool, false, List, [], ◌∷◌, ◌++◌, Some, refl, sym, ◌∙◌, ap, subst}
use Rattle.xp_tree.specs.Tree.{Tree}
use Rattle.xp_tree.specs.declared.terms.Level.TheVariants as level
use Rattle.xp_grammar.specs.declared.token.Placed.{Placed}
use Rattle.xp_grammar.specs.declared.token.Token.{Token}
use Rattle.xp_grammar.specs.Grammar.{IsChain, Derives}
use Rattle.xp_syntax.specs.Laws.{placed_at, ends_axis, axis_named, IsShortFor, ChildIsTheDefaultAxis, AbbreviationsAreWrittenOut}
use Rattle.xp_syntax.proofs.WrittenOut.{child_axis, long_form, Out, ended, kept, written, child, out_chain}

whole : (b : Bool) (s : List Placed) → Out b s s
whole b [] = ended b
whole b (p ∷ s) = kept b p s s (whole (ends_axis p.token) s)

-- after tokens that stay
behind : (b : Bool) (before s t : List Placed) → Out (axis_named b before) s t → Out b (before ++ s) (before ++ t)
behind b [] s t M = M
behind b (p ∷ before) s t M = kept b p (before ++ s) (before ++ t) (behind (ends_axis p.token) before s t M)

-- nothing follows where nothing followed
ends : {b : Bool} {v : List Placed} → Out b [] v → v ≡ []
ends (ended b) = refl

derives : (limit : ℕ) {b : Bool} {s t : List Placed} {e : Tree} → Derives limit s e → Out b s t → Derives limit t e
derives limit {t = t} {e = e} D M =
    let (c, v, N, E) = out_chain limit D M in subst (λ z. IsChain limit level.Or 0 t z e) (ends N) E

short_for : (x : Token) (long : List Token) → long_form x ≡ Some long → IsShortFor x long
short_for x long short limit before after p e is D =
    derives limit D (behind false before (p ∷ after) (placed_at p.offset long ++ after)
    (written (axis_named false before) p after after long (ap long_form is ∙ short) (whole (ends_axis p.token) after)))

default_axis : ChildIsTheDefaultAxis
default_axis limit before after p e test none D =
    let named : List Placed = placed_at p.offset child_axis ++ (p ∷ after) in
    let M : Out false (p ∷ after) named = child p after after test (whole (ends_axis p.token) after) in
    derives limit D (behind false before (p ∷ after) named (subst (λ b. Out b (p ∷ after) named) (sym none) M))

pub all_written_out : AbbreviationsAreWrittenOut
all_written_out = record {
  child = default_axis;
  at_sign = short_for _ _ refl;
  double_slash = short_for _ _ refl;
  dot = short_for _ _ refl;
  double_dot = short_for _ _ refl;
}
