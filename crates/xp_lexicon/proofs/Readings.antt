-- A text is read in one way.
use Rattle.std.proofs.Common.{◌≡◌, ℕ, suc, ◌+◌, Bool, true, false, not, List, [], ◌∷◌, ◌++◌, length, Option, Some, refl, sym, ap, ap₂, subst, ◌∙◌, arith, length-append}
use Rattle.std.specs.List.{list_all}
use Rattle.std.proofs.lemmas.Bool.{both_ways, not-true}
use Rattle.std.proofs.lemmas.Bool.Decides.{nat_tests}
use Rattle.std.proofs.lemmas.Str.{encode_ascii}
use Rattle.sch_base.specs.Characters.{is_whitespace, is_name_start}
use Rattle.xp_grammar.specs.declared.token.Placed.{Placed}
use Rattle.xp_grammar.specs.declared.token.Token.{Token}
use Rattle.xp_lexicon.specs.declared.lexeme.Lexeme.{Lexeme}
use Rattle.xp_lexicon.specs.declared.lexeme.Form.TheVariants as form
use Rattle.xp_lexicon.specs.Lexicon.{symbols, token_of, ends_operand, IsLexeme, IsRead, TokensFrom, at_end, whitespace, one_token, bad_token}
use Rattle.xp_lexicon.specs.Laws.{WholeTextsEnd, IsSameReading, TextsReadOnce}
use Rattle.xp_lexicon.specs.inner.Scanning.{form_of, fits}
use Rattle.xp_lexicon.proofs.Forms.{symbolic}
use Rattle.xp_lexicon.proofs.Symbols.{in_table}
use Rattle.xp_lexicon.proofs.Firsts.{form_fits, begins_symbol, sign_passes, signs}
use Rattle.xp_lexicon.proofs.Same.{lexeme_takes}
use Rattle.xp_lexicon.proofs.Tokens.{whitespace_is_low, longest_once}

end_of : (behind_operand : Bool) (offset : ℕ) (text : List ℕ) (tokens : List Placed) (whole : Bool) (end : ℕ) →
    TokensFrom behind_operand offset text tokens whole end → whole ≡ true → end ≡ offset + length text
end_of _ _ _ _ _ _ (at_end behind_operand offset) h = omega arith
end_of _ _ _ _ _ _ (whitespace behind_operand offset b text tokens whole end space from) h =
    omega (arith, end_of behind_operand (suc offset) text tokens whole end from h)
end_of _ _ _ _ _ _ (one_token behind_operand offset text bytes rest t tokens whole end read from) h =
    omega (arith, end_of (ends_operand t) (offset + length bytes) rest tokens whole end from h, ap length read.longest.at_front, length-append bytes rest)
end_of _ _ _ _ _ _ (bad_token behind_operand offset b text solid none) h = absurd (cc)

pub whole_end : WholeTextsEnd
whole_end text tokens end from = omega (arith, end_of false 0 text tokens true end from refl)

-- no lexeme begins with whitespace
space_form : (b : ℕ) → is_whitespace b ≡ true → form_of b ≡ form.Symbol
unfolding is_whitespace is_name_start
space_form b h = grind (arith, nat_tests)

signs_are_solid : list_all (λ c. not (is_whitespace c)) signs ≡ true
unfolding is_whitespace
signs_are_solid = refl

first_same : (a b : ℕ) (xs ys : List ℕ) → a ∷ xs ≡ b ∷ ys → a ≡ b
first_same a b xs ys e = cc

symbol_solid : (b : ℕ) (text bytes rest : List ℕ) → is_whitespace b ≡ true → begins_symbol bytes ≡ true → b ∷ text ≡ bytes ++ rest → ⊥
symbol_solid b text [] rest space begins e = absurd (cc)
symbol_solid b text (c ∷ bytes) rest space begins e =
    both_ways (is_whitespace c) (not-true _ (sign_passes (λ x. not (is_whitespace x)) c signs signs_are_solid begins))
    (subst (λ x. is_whitespace x ≡ true) (first_same b c text (bytes ++ rest) e) space)

no_lexeme_in_space : (b : ℕ) (text bytes rest : List ℕ) (l : Lexeme) → is_whitespace b ≡ true → b ∷ text ≡ bytes ++ rest → IsLexeme bytes l → ⊥
no_lexeme_in_space b text bytes rest l space e is =
    let fit = form_fits b text rest bytes l is (ap (λ x. x ++ text) (encode_ascii b (whitespace_is_low b space)) ∙ e) in
    symbolic (λ bs _. b ∷ text ≡ bs ++ rest → ⊥)
    (λ bs t known e. symbol_solid b text bs rest space (in_table begins_symbol symbols bs t refl known) e) bytes l
    (subst (λ f. fits f l ≡ true) (space_form b space) fit) is e

no_read_in_space : (behind_operand : Bool) (b : ℕ) (text bytes rest : List ℕ) (t : Token) → is_whitespace b ≡ true →
    IsRead behind_operand (b ∷ text) bytes rest t → ⊥
no_read_in_space behind_operand b text bytes rest t space read =
    no_lexeme_in_space b text bytes rest read.lexeme space read.longest.at_front read.longest.is

no_read_at_end : (behind_operand : Bool) (bytes rest : List ℕ) (t : Token) → IsRead behind_operand [] bytes rest t → ⊥
no_read_at_end behind_operand bytes rest t read =
    omega (arith, ap length read.longest.at_front, length-append bytes rest, lexeme_takes bytes read.lexeme read.longest.is)

pub record SameRead (bytes rest other after : List ℕ) (t u : Token) : Type 0 where
  pub bytes_same : other ≡ bytes
  pub rest_same : after ≡ rest
  pub token_same : t ≡ u

some_same : {A : Type 0} (o : Option A) (x y : A) → o ≡ Some x → o ≡ Some y → x ≡ y
some_same o x y e f = cc

read_once : (behind_operand : Bool) (text bytes rest other after : List ℕ) (t u : Token) → IsRead behind_operand text bytes rest t →
    IsRead behind_operand text other after u → SameRead bytes rest other after t u
read_once behind_operand text bytes rest other after t u a b =
    let s = longest_once text bytes rest other after a.lexeme b.lexeme a.longest b.longest in
    record {
      bytes_same = s.bytes_same;
      rest_same = s.rest_same;
      token_same = some_same (token_of behind_operand a.lexeme rest) t u a.token
          (subst (λ x. token_of behind_operand x rest ≡ Some u) s.lexeme_same
          (subst (λ x. token_of behind_operand b.lexeme x ≡ Some u) s.rest_same b.token));
    }

more_same : (offset : ℕ) (t u : Token) (tokens others : List Placed) (whole other_whole : Bool) (end other_end : ℕ) → t ≡ u →
    IsSameReading tokens others whole other_whole end other_end →
    IsSameReading (record { offset = offset; token = t } ∷ tokens) (record { offset = offset; token = u } ∷ others) whole other_whole end other_end
more_same offset t u tokens others whole other_whole end other_end e s = record {
  tokens_same = ap₂ (λ (x : Token) (l : List Placed). record { offset = offset; token = x } ∷ l) e s.tokens_same;
  whole_same = s.whole_same;
  end_same = s.end_same;
}

-- what comes after a token is read from the same place
moved : (offset : ℕ) (bytes rest other after : List ℕ) (t u : Token) (tokens : List Placed) (whole : Bool) (end : ℕ) → SameRead bytes rest other after t u →
    TokensFrom (ends_operand u) (offset + length other) after tokens whole end → TokensFrom (ends_operand t) (offset + length bytes) rest tokens whole end
moved offset bytes rest other after t u tokens whole end s from =
    subst (λ x. TokensFrom (ends_operand x) (offset + length bytes) rest tokens whole end) (sym s.token_same)
    (subst (λ x. TokensFrom (ends_operand u) (offset + length bytes) x tokens whole end) s.rest_same
    (subst (λ x. TokensFrom (ends_operand u) (offset + length x) after tokens whole end) s.bytes_same from))

same_end : (tokens : List Placed) (whole : Bool) (end : ℕ) → IsSameReading tokens tokens whole whole end end
same_end tokens whole end = record { tokens_same = refl; whole_same = refl; end_same = refl }

once : (behind_operand : Bool) (offset : ℕ) (text : List ℕ) (tokens : List Placed) (whole : Bool) (end : ℕ) →
    TokensFrom behind_operand offset text tokens whole end → (others : List Placed) (other_whole : Bool) (other_end : ℕ) →
    TokensFrom behind_operand offset text others other_whole other_end → IsSameReading tokens others whole other_whole end other_end
once _ _ _ _ _ _ (at_end behind_operand offset) _ _ _ (at_end _ _) = same_end [] true offset
once _ _ _ _ _ _ (at_end behind_operand offset) _ _ _ (one_token _ _ _ bytes rest t tokens whole end read from) =
    absurd (no_read_at_end behind_operand bytes rest t read)
once _ _ _ _ _ _ (whitespace behind_operand offset b text tokens whole end space from) _ _ _ (whitespace _ _ _ _ others other_whole other_end space2 from2) =
    once behind_operand (suc offset) text tokens whole end from others other_whole other_end from2
once _ _ _ _ _ _ (whitespace behind_operand offset b text tokens whole end space from) _ _ _ (one_token _ _ _ bytes rest t others other_whole other_end read from2) =
    absurd (no_read_in_space behind_operand b text bytes rest t space read)
once _ _ _ _ _ _ (whitespace behind_operand offset b text tokens whole end space from) _ _ _ (bad_token _ _ _ _ solid none) =
    absurd (both_ways (is_whitespace b) solid space)
once _ _ _ _ _ _ (one_token behind_operand offset text bytes rest t tokens whole end read from) _ _ _ (at_end _ _) =
    absurd (no_read_at_end behind_operand bytes rest t read)
once _ _ _ _ _ _ (one_token behind_operand offset text bytes rest t tokens whole end read from) _ _ _ (whitespace _ _ b text2 others other_whole other_end space from2) =
    absurd (no_read_in_space behind_operand b text2 bytes rest t space read)
once _ _ _ _ _ _ (one_token behind_operand offset text bytes rest t tokens whole end read from) _ _ _ (one_token _ _ _ other after u others other_whole other_end read2 from2) =
    let s = read_once behind_operand text bytes rest other after t u read read2 in
    more_same offset t u tokens others whole other_whole end other_end s.token_same
    (once (ends_operand t) (offset + length bytes) rest tokens whole end from others other_whole other_end
    (moved offset bytes rest other after t u others other_whole other_end s from2))
once _ _ _ _ _ _ (one_token behind_operand offset text bytes rest t tokens whole end read from) _ _ _ (bad_token _ _ b text2 solid none) =
    absurd (none bytes rest t read)
once _ _ _ _ _ _ (bad_token behind_operand offset b text solid none) _ _ _ (whitespace _ _ _ _ others other_whole other_end space from2) =
    absurd (both_ways (is_whitespace b) solid space)
once _ _ _ _ _ _ (bad_token behind_operand offset b text solid none) _ _ _ (one_token _ _ _ bytes rest t others other_whole other_end read from2) =
    absurd (none bytes rest t read)
once _ _ _ _ _ _ (bad_token behind_operand offset b text solid none) _ _ _ (bad_token _ _ _ _ solid2 none2) = same_end [] false offset

pub read_once_whole : TextsReadOnce
read_once_whole text tokens others whole other_whole end other_end a b = once false 0 text tokens whole end a others other_whole other_end b
