-- A file says one thing at most: so does each of its lines.
use Rattle.std.proofs.Common.{◌≡◌, ◌∙◌, ℕ, suc, Bool, true, false, List, [], ◌∷◌, length, Option, None, Some, Result, Ok, Err, ap, ap₂, refl, sym, subst}
use Rattle.std.specs.Bool.{MatchBool}
use Rattle.std.specs.List.{list_any, before_first, after_first}
use Rattle.std.specs.Prelude.{nat_le, nat_lt}
use Rattle.sch_base.specs.Lists.{is_nil}
use Rattle.sch_base.specs.declared.limits.TheConstants.{MAX_EXPRESSION_BYTES, MAX_NESTING}
use Rattle.pyx_core.specs.LineTable.{is_space}
use Rattle.pyx_core.specs.Nesting.{of_chars}
use Rattle.edit_script.specs.Script.{lines_of}
use Rattle.xp_tree.specs.Tree.{Tree}
use Rattle.xp_grammar.specs.declared.fault.SyntaxFault.{SyntaxFault}
use Rattle.xp_grammar.specs.declared.fault.SyntaxKind.{SyntaxKind}
use Rattle.xp_typed_tree.specs.TypedTree.{TypedTree}
use Rattle.xp_syntax.specs.Laws.{FaultyTextsSpellNothing, FirstFaultsAreUnique, OneSpelling}
use Rattle.xp_types.specs.Laws.{FirstTypeFaultsAreUnique, TypedHaveNoFault, TypesAreUnique}
use Rattle.xp_types.specs.Scope.{Scope}
use Rattle.watch_lines.specs.Watches.{ExpressionSays, GoesOn, JudgesText, LineSays, LinesGive, Said, SpacedSays, WatchSays, WordSays, binds, list_after, namespace_said, plain_scope, scope_after, watches, word_of}
use Rattle.watch_lines.specs.declared.fault.WatchFault.{WatchFault}
use Rattle.watch_lines.specs.declared.fault.WatchKind.{WatchKind}
use Rattle.watch_lines.specs.declared.fault.WatchKind.TheVariants.{BadChar, BadWord, TooLong, TooMany, Syntax, Types}
use Rattle.watch_lines.specs.declared.reading.LineWord.{LineWord}
use Rattle.watch_lines.specs.declared.reading.LineWord.TheVariants.{Namespace, Expression}
use Rattle.watch_lines.specs.declared.reading.TheConstants.{MAX_WATCHES}
use Rattle.watch_lines_laws.specs.Reading.{OneReading}
use Rattle.watch_lines_laws.proofs.Judged.{IsJudged, IsTyped, has_fault, has_type, is-judged, misspelled, spelled}

-- one thing alone of which something holds
abbrev IsOne : {A : Type 0} → (A → Type 0) → Type 0
IsOne {A = A} P = (a b : A) → P a → P b → a ≡ b

-- one by a test
match-one : {A : Type 0} (b : Bool) (P Q : A → Type 0) → IsOne P → IsOne Q → IsOne (λ a. MatchBool b (P a) (Q a))
match-one true P Q one other = one
match-one false P Q one other = other

is-one : {A : Type 0} (x : A) → IsOne (λ a. a ≡ x)
is-one x a b p q = p ∙ sym q

-- the laws of the lower floors
pub record Unique : Type 0 where
  pub spelling : OneSpelling
  pub first_fault : FirstFaultsAreUnique
  pub faulty : FaultyTextsSpellNothing
  pub types : TypesAreUnique
  pub typed : TypedHaveNoFault
  pub type_fault : FirstTypeFaultsAreUnique

abbrev Judgement : Type 0
Judgement = Result TypedTree WatchKind

abbrev syntax : SyntaxKind → ℕ → Judgement
syntax kind offset = Err (Syntax (record { kind = kind; offset = offset }))

-- what the lines behind one give, by what it says
abbrev Gives : Type 0
Gives = Result (List TypedTree) WatchFault

abbrev Onward : Scope → List TypedTree → ℕ → List (List ℕ) → Gives → Result Said WatchKind → Type 0
Onward S before number lines given said = GoesOn S before number (λ S' before'. LinesGive S' before' (suc number) lines given) given said

abbrev Behind : Scope → List TypedTree → ℕ → List ℕ → List (List ℕ) → Gives → Type 0
Behind S before number line lines given = (said : Result Said WatchKind) × LineSays S (length before) line said × Onward S before number lines given said

-- an expression as what a line says
abbrev as-said : Judgement → Result Said WatchKind
as-said (Ok t) = Ok (watches t)
as-said (Err kind) = Err kind

module _ (u : Unique) where
  typed-one : (S : Scope) (e : Tree) (r s : Judgement) → IsTyped S e r → IsTyped S e s → r ≡ s
  typed-one S e _ _ (has_type t h) (has_type v k) = ap Ok (u.types S e t v h k)
  typed-one S e _ _ (has_type t h) (has_fault f k) = absurd (u.typed S e t k.place f h k.stands)
  typed-one S e _ _ (has_fault f h) (has_type t k) = absurd (u.typed S e t h.place f k h.stands)
  typed-one S e _ _ (has_fault f h) (has_fault g k) = ap (λ x. Err (Types x)) (u.type_fault S e f g h k)

  judged-one : (S : Scope) (text : List ℕ) (r s : Judgement) → IsJudged S text r → IsJudged S text s → r ≡ s
  judged-one S text _ _ (misspelled f h) (misspelled g k) =
      let same = u.first_fault MAX_NESTING text f.kind g.kind f.offset g.offset h k in ap₂ syntax same.0 same.1
  judged-one S text _ _ (misspelled f h) (spelled e s sp t) = absurd (u.faulty MAX_NESTING text f.kind f.offset e h sp)
  judged-one S text _ _ (spelled e r sp t) (misspelled f h) = absurd (u.faulty MAX_NESTING text f.kind f.offset e h sp)
  judged-one S text _ _ (spelled e r sp t) (spelled d s sd v) =
      typed-one S e r s t (subst (λ (x : Tree). IsTyped S x s) (u.spelling MAX_NESTING MAX_NESTING text d e sd sp) v)

  -- a line
  of-judgement : (S : Scope) (text : List ℕ) (said : Result Said WatchKind) → ExpressionSays S text said → (r : Judgement) × JudgesText S text r × (said ≡ as-said r)
  of-judgement S text (Ok (watches t)) h = (Ok t, h, refl)
  of-judgement S text (Ok (binds b)) h = absurd h
  of-judgement S text (Err kind) h = (Err kind, h, refl)

  expression-one : (S : Scope) (text : List ℕ) → IsOne (ExpressionSays S text)
  expression-one S text a b p q =
      let x = of-judgement S text a p in
      let y = of-judgement S text b q in
      x.2 ∙ ap as-said (judged-one S text x.0 y.0 (is-judged S text x.0 x.1) (is-judged S text y.0 y.1)) ∙ sym y.2

  watch-one : (S : Scope) (count : ℕ) (text : List ℕ) → IsOne (WatchSays S count text)
  watch-one S count text =
      match-one (nat_lt MAX_EXPRESSION_BYTES (length text)) (λ said. said ≡ Err TooLong) (λ said. MatchBool (nat_le MAX_WATCHES count) (said ≡ Err TooMany) (ExpressionSays S text said)) (is-one (Err TooLong))
      (match-one (nat_le MAX_WATCHES count) (λ said. said ≡ Err TooMany) (ExpressionSays S text) (is-one (Err TooMany)) (expression-one S text))

  word-one : (S : Scope) (count : ℕ) (word : Option LineWord) (text : List ℕ) → IsOne (WordSays S count word text)
  word-one S count (Some Namespace) text = is-one (namespace_said S.prefixes text)
  word-one S count (Some Expression) text = watch-one S count text
  word-one S count None text = is-one (Err BadWord)

  line-one : (S : Scope) (count : ℕ) (line : List ℕ) → IsOne (LineSays S count line)
  line-one S count line =
      match-one (of_chars line) (SpacedSays S count line) (λ said. said ≡ Err BadChar)
      (match-one (list_any is_space line) (WordSays S count (word_of (before_first is_space line)) (after_first is_space line)) (λ said. said ≡ Err BadWord)
      (word-one S count (word_of (before_first is_space line)) (after_first is_space line)) (is-one (Err BadWord)))
      (is-one (Err BadChar))

  -- what comes of what a line says
  goes-one : (S : Scope) (before : List TypedTree) (number : ℕ) (lines : List (List ℕ)) → ((T : Scope) (known : List TypedTree) → IsOne (LinesGive T known (suc number) lines)) →
      (said : Result Said WatchKind) (a b : Gives) → Onward S before number lines a said → Onward S before number lines b said → a ≡ b
  goes-one S before number lines rest (Err what) a b p q = p ∙ sym q
  goes-one S before number lines rest (Ok said) a b p q = rest (scope_after S said) (list_after before said) a b p q

  behind-one : (S : Scope) (before : List TypedTree) (number : ℕ) (line : List ℕ) (lines : List (List ℕ)) →
      ((T : Scope) (known : List TypedTree) → IsOne (LinesGive T known (suc number) lines)) → IsOne (Behind S before number line lines)
  behind-one S before number line lines rest a b p q =
      goes-one S before number lines rest p.0 a b p.2
      (subst (λ (said : Result Said WatchKind). Onward S before number lines b said) (line-one S (length before) line q.0 p.0 q.1 p.1) q.2)

  -- and the lines one after another
  lines-one : (lines : List (List ℕ)) (S : Scope) (before : List TypedTree) (number : ℕ) → IsOne (LinesGive S before number lines)
  lines-one [] S before number = is-one (Ok before)
  lines-one (line ∷ lines) S before number =
      match-one (is_nil line) (LinesGive S before (suc number) lines) (Behind S before number line lines) (lines-one lines S before (suc number))
      (behind-one S before number line lines (λ T known. lines-one lines T known (suc number)))

  pub one-reading : OneReading
  one-reading bytes = lines-one (lines_of bytes) plain_scope [] 1
