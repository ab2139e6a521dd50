-- Filled texts, from piece to piece.
use Rattle.std.proofs.Common.{◌≡◌, ℕ, ◌<◌, zero, cond, List, [], ◌∷◌, ◌++◌, length, None, Some, refl, sym, ap, subst, ◌∙◌, append_assoc, append-nil, take, drop, get_or, lit<}
use Rattle.std.specs.Prelude.{encode_utf8, encode_utf8_all, IsUtf8}
use Rattle.std.specs.Str.{chars, NonePass, NoCharPasses}
use Rattle.std.specs.Str.Pattern.{FindsChar}
use Rattle.std.proofs.lemmas.Str.{chars-nil, chars-append, chars_from_encodes, encode_ascii, IsUtf8-take, IsCharBoundary-before_ascii}
use Rattle.std.proofs.lemmas.List.{take-append-drop}
use Rattle.sch_model.specs.declared.raw.Param.{Param}
use Rattle.sch_expansion.specs.Filled.{dollar_filled, filled, filled_after, is_dollar, value_of}
use Rattle.sch_texts.specs.Names.{longest_name}
use Rattle.sch_texts.specs.Fronts.{IsAfter}

-- characters without a `$` stay
kept-chars : (params : List Param) (cs ds : List ℕ) → NonePass is_dollar cs → filled_after params zero (cs ++ ds) ≡ encode_utf8_all cs ++ filled_after params zero ds
kept-chars params [] ds none = refl
kept-chars params (c ∷ cs) ds none =
    ap (λ b. cond b (dollar_filled (value_of params (encode_utf8_all (longest_name (cs ++ ds)))) (filled_after params zero (cs ++ ds)) (filled_after params (length (longest_name (cs ++ ds))) (cs ++ ds))) (encode_utf8 c ++ filled_after params zero (cs ++ ds))) none.0
    ∙ ap (λ l. encode_utf8 c ++ l) (kept-chars params cs ds none.1)
    ∙ sym (append_assoc (encode_utf8 c) (encode_utf8_all cs) (filled_after params zero ds))

pub kept-front : (params : List Param) (text front rest : List ℕ) → text ≡ front ++ rest → IsUtf8 front → NoCharPasses is_dollar front →
    filled params text ≡ front ++ filled params rest
kept-front params text front rest split utf8 none =
    ap (filled params) split
    ∙ ap (filled_after params zero) (chars-append front rest utf8)
    ∙ ap (λ l. filled_after params zero (l ++ chars rest)) (sym (chars_from_encodes none.0 front utf8 none.1))
    ∙ kept-chars params none.0 (chars rest) none.2
    ∙ ap (λ l. l ++ filled params rest) none.1

pub filled-nil : (params : List Param) → filled params [] ≡ []
filled-nil params = ap (filled_after params zero) chars-nil

pub kept-whole : (params : List Param) (text : List ℕ) → IsUtf8 text → NoCharPasses is_dollar text → filled params text ≡ text ++ filled params []
kept-whole params text utf8 none = kept-front params text text [] (sym (append-nil text)) utf8 none

-- the front up to a `$`
pub split-front : (params : List Param) (text front rest : List ℕ) (i j : ℕ) → IsUtf8 text → FindsChar 36 text (Some (i, j)) → front ≡ take i text → i < length text →
    rest ≡ drop i text → filled params text ≡ front ++ filled params rest
split-front params text front rest i j utf8 finds is less after =
    let low : get_or text i 0 < 128 = subst (λ b. b < 128) (sym (finds.1.byte (lit< tt))) (lit< tt) in
    let cut : IsUtf8 (take i text) = IsUtf8-take text i utf8 (IsCharBoundary-before_ascii text i less low) in
    kept-front params text front rest
    (sym (take-append-drop i text) ∙ ap (λ l. l ++ drop i text) (sym is) ∙ ap (λ l. front ++ l) (sym after))
    (subst IsUtf8 (sym is) cut) (subst (NoCharPasses is_dollar) (sym is) finds.0)

-- a `$`
one-dollar : chars (36 ∷ []) ≡ 36 ∷ []
unfolding chars
one-dollar = refl

dollar-chars : (behind : List ℕ) → chars (36 ∷ behind) ≡ 36 ∷ chars behind
dollar-chars behind = chars-append (36 ∷ []) behind (36 ∷ [], (refl, ap (λ l. l ++ []) (encode_ascii 36 (lit< tt)))) ∙ ap (λ l. l ++ chars behind) one-dollar

dollar-is : (params : List Param) (behind : List ℕ) → filled params (36 ∷ behind)
    ≡ dollar_filled (value_of params (encode_utf8_all (longest_name (chars behind)))) (filled params behind) (filled_after params (length (longest_name (chars behind))) (chars behind))
dollar-is params behind = ap (filled_after params zero) (dollar-chars behind)

passed : (params : List Param) (cs ds : List ℕ) → filled_after params (length cs) (cs ++ ds) ≡ filled_after params zero ds
passed params [] ds = refl
passed params (c ∷ cs) ds = passed params cs ds

-- where no parameter is named behind a `$`, it stays
pub dollar-stays : (params : List Param) (behind name : List ℕ) → encode_utf8_all (longest_name (chars behind)) ≡ name → value_of params name ≡ None →
    filled params (36 ∷ behind) ≡ 36 ∷ filled params behind
dollar-stays params behind name is none =
    dollar-is params behind
    ∙ ap (λ o. dollar_filled o (filled params behind) (filled_after params (length (longest_name (chars behind))) (chars behind))) (ap (value_of params) is ∙ none)

pub dollar-goes : (params : List Param) (behind rest name value : List ℕ) → IsAfter longest_name behind rest → encode_utf8_all (longest_name (chars behind)) ≡ name →
    value_of params name ≡ Some value → filled params (36 ∷ behind) ≡ value ++ filled params rest
dollar-goes params behind rest name value after is some =
    dollar-is params behind
    ∙ ap (λ o. dollar_filled o (filled params behind) (filled_after params (length (longest_name (chars behind))) (chars behind))) (ap (value_of params) is ∙ some)
    ∙ ap (λ l. value ++ filled_after params (length (longest_name (chars behind))) l) after.characters
    ∙ ap (λ l. value ++ l) (passed params (longest_name (chars behind)) (chars rest))
