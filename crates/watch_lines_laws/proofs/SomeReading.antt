-- A file says one thing at least: so does each of its lines.
use Rattle.std.proofs.Common.{◌≡◌, ◌⊎◌, inl, inr, ℕ, suc, Bool, true, false, List, [], ◌∷◌, length, Option, None, Some, Result, Ok, Err, refl, subst}
use Rattle.std.specs.Bool.{MatchBool}
use Rattle.std.specs.List.{list_any, before_first, after_first}
use Rattle.std.specs.Prelude.{nat_le, nat_lt}
use Rattle.sch_base.specs.Lists.{is_nil}
use Rattle.sch_base.specs.declared.limits.TheConstants.{MAX_EXPRESSION_BYTES, MAX_NESTING}
use Rattle.pyx_core.specs.LineTable.{is_space}
use Rattle.pyx_core.specs.Nesting.{of_chars}
use Rattle.edit_script.specs.Script.{lines_of}
use Rattle.xp_tree.specs.Tree.{Tree}
use Rattle.xp_grammar.specs.Faults.{DerivesOrFails, EachDerivesOrFails}
use Rattle.xp_grammar.specs.Grammar.{Derives}
use Rattle.xp_grammar.specs.declared.token.Placed.{Placed}
use Rattle.xp_lexicon.specs.Laws.{WholeTextsEnd}
use Rattle.xp_lexicon.specs.Lexicon.{Tokenized}
use Rattle.xp_lexicon_laws.specs.EachRead.{EachTextIsRead}
use Rattle.xp_typed_tree.specs.TypedTree.{TypedTree}
use Rattle.xp_syntax.specs.Syntax.{Spells}
use Rattle.xp_types.specs.HasType.{HasType}
use Rattle.xp_types.specs.Laws.{EachIsTypedOrRefused}
use Rattle.xp_types.specs.Scope.{Scope}
use Rattle.xp_types.specs.TypeFaults.{IsFirstTypeFault}
use Rattle.xp_types.specs.declared.faults.TypeFault.{TypeFault}
use Rattle.watch_lines.specs.Watches.{ExpressionSays, GoesOn, JudgesText, LineSays, LinesGive, Said, SpacedSays, WatchSays, WordSays, list_after, namespace_said, plain_scope, scope_after, watches, word_of}
use Rattle.watch_lines.specs.declared.fault.WatchFault.{WatchFault}
use Rattle.watch_lines.specs.declared.fault.WatchKind.{WatchKind}
use Rattle.watch_lines.specs.declared.fault.WatchKind.TheVariants.{BadChar, BadWord, TooLong, TooMany, Syntax, Types}
use Rattle.watch_lines.specs.declared.reading.LineWord.{LineWord}
use Rattle.watch_lines.specs.declared.reading.LineWord.TheVariants.{Namespace, Expression}
use Rattle.watch_lines.specs.declared.reading.TheConstants.{MAX_WATCHES}
use Rattle.watch_lines_laws.specs.Reading.{EachFileIsRead}

-- something of which this holds
abbrev IsSome : {A : Type 0} → (A → Type 0) → Type 0
IsSome {A = A} P = (a : A) × P a

-- by a test
match-some : {A : Type 0} (b : Bool) (P Q : A → Type 0) → IsSome P → IsSome Q → IsSome (λ a. MatchBool b (P a) (Q a))
match-some true P Q some other = some
match-some false P Q some other = other

is-some : {A : Type 0} (x : A) → IsSome (λ a. a ≡ x)
is-some x = (x, refl)

-- the laws of the lower floors
pub record Judged : Type 0 where
  pub read : EachTextIsRead
  pub ends : WholeTextsEnd
  pub derives : EachDerivesOrFails
  pub types : EachIsTypedOrRefused

-- what the lines behind one give, by what it says
abbrev Gives : Type 0
Gives = Result (List TypedTree) WatchFault

abbrev Behind : Scope → List TypedTree → ℕ → List ℕ → List (List ℕ) → Gives → Type 0
Behind S before number line lines given = (said : Result Said WatchKind) × LineSays S (length before) line said
    × GoesOn S before number (λ S' before'. LinesGive S' before' (suc number) lines given) given said

module _ (j : Judged) where
  -- the tokens of a text that was read to its end
  to-the-end : (text : List ℕ) (tokens : List Placed) (whole : Bool) (end : ℕ) → whole ≡ true → Tokenized text tokens whole end → Tokenized text tokens true (length text)
  to-the-end text tokens whole end is found =
      let all : Tokenized text tokens true end = subst (λ (w : Bool). Tokenized text tokens w end) is found in
      subst (λ (n : ℕ). Tokenized text tokens true n) (j.ends text tokens end all) all

  typed-some : (S : Scope) (text : List ℕ) (e : Tree) → Spells MAX_NESTING text e → IsSome (ExpressionSays S text)
  typed-some S text e spells = by (j.types S e)
    where
      by : ((t : TypedTree) × HasType S e t) ⊎ ((f : TypeFault) × IsFirstTypeFault S e f) → IsSome (ExpressionSays S text)
      by (inl x) = (Ok (watches x.0), (e, spells, x.1))
      by (inr x) = (Err (Types x.0), (e, spells, x.1))

  expression-some : (S : Scope) (text : List ℕ) → IsSome (ExpressionSays S text)
  expression-some S text = let found = j.read text in by found.0 found.1 found.2 found.3 (j.derives MAX_NESTING found.0 found.1 found.2)
    where
      by : (tokens : List Placed) (whole : Bool) (end : ℕ) → Tokenized text tokens whole end → DerivesOrFails Tree Derives MAX_NESTING tokens whole end → IsSome (ExpressionSays S text)
      by tokens whole end found (inl x) = typed-some S text x.1 (record { tokens = tokens; tokenized = to-the-end text tokens whole end x.0 found; derived = x.2 })
      by tokens whole end found (inr x) =
          (Err (Syntax (record { kind = x.0; offset = x.1 })), record { tokens = tokens; whole = whole; end = end; tokenized = found; first = x.2 })

  -- a line
  watch-some : (S : Scope) (count : ℕ) (text : List ℕ) → IsSome (WatchSays S count text)
  watch-some S count text =
      match-some (nat_lt MAX_EXPRESSION_BYTES (length text)) (λ said. said ≡ Err TooLong) (λ said. MatchBool (nat_le MAX_WATCHES count) (said ≡ Err TooMany) (ExpressionSays S text said)) (is-some (Err TooLong))
      (match-some (nat_le MAX_WATCHES count) (λ said. said ≡ Err TooMany) (ExpressionSays S text) (is-some (Err TooMany)) (expression-some S text))

  word-some : (S : Scope) (count : ℕ) (word : Option LineWord) (text : List ℕ) → IsSome (WordSays S count word text)
  word-some S count (Some Namespace) text = is-some (namespace_said S.prefixes text)
  word-some S count (Some Expression) text = watch-some S count text
  word-some S count None text = is-some (Err BadWord)

  line-some : (S : Scope) (count : ℕ) (line : List ℕ) → IsSome (LineSays S count line)
  line-some S count line =
      match-some (of_chars line) (SpacedSays S count line) (λ said. said ≡ Err BadChar)
      (match-some (list_any is_space line) (WordSays S count (word_of (before_first is_space line)) (after_first is_space line)) (λ said. said ≡ Err BadWord)
      (word-some S count (word_of (before_first is_space line)) (after_first is_space line)) (is-some (Err BadWord)))
      (is-some (Err BadChar))

  -- what comes of what a line says
  behind-some : (S : Scope) (before : List TypedTree) (number : ℕ) (line : List ℕ) (lines : List (List ℕ)) →
      ((T : Scope) (known : List TypedTree) → IsSome (LinesGive T known (suc number) lines)) →
      (said : Result Said WatchKind) → LineSays S (length before) line said → IsSome (Behind S before number line lines)
  behind-some S before number line lines rest (Err what) says = (Err (record { line = number; kind = what }), (Err what, says, refl))
  behind-some S before number line lines rest (Ok said) says = let more = rest (scope_after S said) (list_after before said) in (more.0, (Ok said, says, more.1))

  -- and the lines one after another
  lines-some : (lines : List (List ℕ)) (S : Scope) (before : List TypedTree) (number : ℕ) → IsSome (LinesGive S before number lines)
  lines-some [] S before number = is-some (Ok before)
  lines-some (line ∷ lines) S before number =
      match-some (is_nil line) (LinesGive S before (suc number) lines) (Behind S before number line lines) (lines-some lines S before (suc number))
      (let found = line-some S (length before) line in
      behind-some S before number line lines (λ T known. lines-some lines T known (suc number)) found.0 found.1)

  pub some-reading : EachFileIsRead
  some-reading bytes = lines-some (lines_of bytes) plain_scope [] 1
