-- Words that have the same rank are the same.
use Rattle.std.proofs.Common.{◌≡◌, ℕ, true, eqb-true, List, [], ◌∷◌, Option, None, Some, refl, sym, ap, ◌∙◌}
use Rattle.std.specs.Prelude.{slice_index_or}
use Rattle.sch_rules.specs.declared.word.Word.{Word}
use Rattle.sch_rules.specs.declared.word.Word.TheVariants.{Schema, Title, Ns, P, Let, Phase, Active, Pattern, Param, Rule, Extends, Assert, Report, Diagnostics, Diagnostic, Properties, Property, Dir, Emph, Span, ValueOf, Name}
use Rattle.sch_rules.specs.Words.{is_word, rank}

words : List Word
words = Schema ∷ Title ∷ Ns ∷ P ∷ Let ∷ Phase ∷ Active ∷ Pattern ∷ Param ∷ Rule ∷ Extends ∷ Assert ∷ Report ∷ Diagnostics ∷ Diagnostic ∷ Properties ∷ Property ∷ Dir ∷ Emph ∷ Span ∷ ValueOf ∷ Name ∷ []

ranked : ℕ → Word
ranked k = slice_index_or words k Schema

ranked-rank : (w : Word) → ranked (rank w) ≡ w
unfolding ranked words
ranked-rank Schema = refl
ranked-rank Title = refl
ranked-rank Ns = refl
ranked-rank P = refl
ranked-rank Let = refl
ranked-rank Phase = refl
ranked-rank Active = refl
ranked-rank Pattern = refl
ranked-rank Param = refl
ranked-rank Rule = refl
ranked-rank Extends = refl
ranked-rank Assert = refl
ranked-rank Report = refl
ranked-rank Diagnostics = refl
ranked-rank Diagnostic = refl
ranked-rank Properties = refl
ranked-rank Property = refl
ranked-rank Dir = refl
ranked-rank Emph = refl
ranked-rank Span = refl
ranked-rank ValueOf = refl
ranked-rank Name = refl

pub the_word : (w : Word) (v : Option Word) → is_word w v ≡ true → v ≡ Some w
the_word w None h = absurd (cc)
the_word w (Some other) h = ap (λ (x : Word). Some x) (sym (ranked-rank other) ∙ ap ranked (sym (eqb-true (rank w) (rank other) h)) ∙ ranked-rank w)
