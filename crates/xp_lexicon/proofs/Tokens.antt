-- The token that a lexeme is.
use Rattle.std.proofs.Common.{◌≡◌, ℕ, suc, ◌+◌, ◌<◌, ◌≤◌, Bool, true, false, ◌&&◌, cond, nat_eq, List, [], ◌∷◌, ◌++◌, length, get_or, Option, Some, None, refl, sym, ap, subst, ◌∙◌, append_assoc, append-nil, arith, length-append}
use Rattle.std.specs.Prelude.{codes, encode_utf8_all, if◌then◌else◌}
use Rattle.std.specs.Bool.{Decides}
use Rattle.std.specs.List.{list_all, starts_with}
use Rattle.std.specs.Option.{option_map}
use Rattle.std.proofs.lemmas.Bool.{and_parts, and_left, both_ways, ne_eqb}
use Rattle.std.proofs.lemmas.Bool.Decides.{nat_tests}
use Rattle.std.proofs.lemmas.List.{append_cancel_left}
use Rattle.std.proofs.lemmas.Str.{encode_ascii}
use Rattle.sch_base.specs.Fronts.{IsEnd}
use Rattle.sch_base.specs.Characters.{is_whitespace}
use Rattle.xp_grammar.specs.declared.token.Placed.{Placed}
use Rattle.xp_grammar.specs.declared.token.Token.{Token}
use Rattle.xp_grammar.specs.declared.token.Token.TheVariants as token
use Rattle.xp_lexicon.specs.declared.lexeme.Lexeme.{Lexeme}
use Rattle.xp_lexicon.specs.Lexicon.{node_types, trimmed, goes_on, called, name_token, starred_token, token_of, ends_operand, IsLexeme, IsLongest, TokensFrom, at_end, whitespace, one_token, bad_token, Tokenized}
use Rattle.sch_base.specs.Named.{named}
use Rattle.xp_tree.specs.AxisNames.{axis_names}
use Rattle.xp_lexicon.specs.inner.Scanning.{Stops, Ran, LongestAt, NoToken, ReadAt}
use Rattle.xp_lexicon.proofs.Same.{same_lexeme, lexeme_takes}

pub whitespace_is_low : (c : ℕ) → is_whitespace c ≡ true → c < 128
unfolding is_whitespace
whitespace_is_low c h = grind (arith, nat_tests)

-- whitespace is its own bytes
pub spaces_spell : (run : List ℕ) → list_all is_whitespace run ≡ true → encode_utf8_all run ≡ run
spaces_spell [] h = refl
spaces_spell (c ∷ run) h =
    let p = and_parts (is_whitespace c) (list_all is_whitespace run) h in
    ap (λ l. l ++ encode_utf8_all run) (encode_ascii c (whitespace_is_low c p.0)) ∙ ap (λ l. c ∷ l) (spaces_spell run p.1)

pub space_free : (b : ℕ) (text : List ℕ) → Stops is_whitespace (b ∷ text) → (v : Bool) → is_whitespace b ≡ v → v ≡ false
space_free b text stops true e =
    absurd (both_ways (is_whitespace b) (stops b text (ap (λ l. l ++ text) (sym (encode_ascii b (whitespace_is_low b e))))) e)
space_free b text stops false e = refl

pub no_space : (b : ℕ) (text : List ℕ) → Stops is_whitespace (b ∷ text) → is_whitespace b ≡ false
no_space b text stops = space_free b text stops (is_whitespace b) refl

trimmed_stops : (text : List ℕ) → Stops is_whitespace text → trimmed text ≡ text
trimmed_stops [] stops = refl
trimmed_stops (b ∷ text) stops = ap (λ v. cond v (trimmed text) (b ∷ text)) (no_space b text stops)

trimmed_run : (run rest : List ℕ) → list_all is_whitespace run ≡ true → Stops is_whitespace rest → trimmed (run ++ rest) ≡ rest
trimmed_run [] rest h stops = trimmed_stops rest stops
trimmed_run (c ∷ run) rest h stops =
    let p = and_parts (is_whitespace c) (list_all is_whitespace run) h in
    ap (λ v. cond v (trimmed (run ++ rest)) (c ∷ (run ++ rest))) p.0 ∙ trimmed_run run rest p.1 stops

pub trimmed_ran : (text rest : List ℕ) → Ran is_whitespace text rest → trimmed text ≡ rest
trimmed_ran text rest r =
    ap trimmed (r.split ∙ ap (λ l. l ++ rest) (spaces_spell r.run r.pass)) ∙ trimmed_run r.run rest r.pass r.stops

-- a name's token by the marks after it
abbrev chosen : Bool → Bool → List ℕ → Option Token
chosen paren colons name =
    if paren then Some (called name (named node_types name))
    else (if colons then option_map token.Axis (named axis_names name) else Some (token.Name name))

mark_first : (b : ℕ) (r : Bool) → Decides r (b ≡ 40) → (nat_eq 40 b && true) ≡ r
mark_first b true d = subst (λ x. (nat_eq 40 x && true) ≡ true) (sym (d.0 refl)) refl
mark_first b false d = and_left (nat_eq 40 b) true (ne_eqb 40 b (λ e. both_ways false refl (d.1 (sym e))))

starts_paren : (bs : List ℕ) (r : Bool) → Decides r (get_or bs 0 0 ≡ 40) → starts_with nat_eq bs (codes "(") ≡ r
starts_paren [] true d = absurd (omega (arith, d.0 refl))
starts_paren [] false d = refl
starts_paren (b ∷ bs) r d = mark_first b r d

pub paren_behind : (rest follows : List ℕ) (r : Bool) → Ran is_whitespace rest follows → Decides r (get_or follows 0 0 ≡ 40) → goes_on (codes "(") rest ≡ r
paren_behind rest follows r ran d = ap (λ l. starts_with nat_eq l (codes "(")) (trimmed_ran rest follows ran) ∙ starts_paren follows r d

pub colons_behind : (rest follows : List ℕ) (r : Bool) → Ran is_whitespace rest follows → r ≡ starts_with nat_eq follows (codes "::") →
    goes_on (codes "::") rest ≡ r
colons_behind rest follows r ran e = ap (λ l. starts_with nat_eq l (codes "::")) (trimmed_ran rest follows ran) ∙ sym e

pub before_paren : (name rest : List ℕ) (t : Token) → goes_on (codes "(") rest ≡ true → t ≡ called name (named node_types name) →
    Some t ≡ name_token name rest
before_paren name rest t paren is = ap Some is ∙ ap (λ b. chosen b (goes_on (codes "::") rest) name) (sym paren)

pub before_colons : (name rest : List ℕ) (o : Option Token) → goes_on (codes "(") rest ≡ false → goes_on (codes "::") rest ≡ true →
    o ≡ option_map token.Axis (named axis_names name) → o ≡ name_token name rest
before_colons name rest o paren colons is =
    is ∙ ap (λ b. chosen false b name) (sym colons) ∙ ap (λ b. chosen b (goes_on (codes "::") rest) name) (sym paren)

pub before_others : (name rest : List ℕ) → goes_on (codes "(") rest ≡ false → goes_on (codes "::") rest ≡ false →
    Some (token.Name name) ≡ name_token name rest
before_others name rest paren colons =
    ap (λ b. chosen false b name) (sym colons) ∙ ap (λ b. chosen b (goes_on (codes "::") rest) name) (sym paren)

pub starred_before_colons : (prefix rest : List ℕ) → goes_on (codes "::") rest ≡ true → None ≡ starred_token prefix rest
starred_before_colons prefix rest colons = ap (λ b. if b then None else Some (token.PrefixStar prefix)) (sym colons)

pub starred_before_others : (prefix rest : List ℕ) → goes_on (codes "::") rest ≡ false →
    Some (token.PrefixStar prefix) ≡ starred_token prefix rest
starred_before_others prefix rest colons = ap (λ b. if b then None else Some (token.PrefixStar prefix)) (sym colons)

-- fronts of one length are the same
fronts_same : (xs ys us vs : List ℕ) → length xs ≡ length ys → xs ++ us ≡ ys ++ vs → xs ≡ ys
fronts_same [] [] us vs len e = refl
fronts_same [] (y ∷ ys) us vs len e = absurd (omega arith)
fronts_same (x ∷ xs) [] us vs len e = absurd (omega arith)
fronts_same (x ∷ xs) (y ∷ ys) us vs len e =
    let head : x ≡ y = cc in
    let tail : xs ++ us ≡ ys ++ vs = cc in
    let rest : xs ≡ ys = fronts_same xs ys us vs (omega arith) tail in
    cc

-- one lexeme is the longest
pub record Same (bytes rest other after : List ℕ) (l m : Lexeme) : Type 0 where
  pub bytes_same : other ≡ bytes
  pub rest_same : after ≡ rest
  pub lexeme_same : m ≡ l

pub longest_once : (text bytes rest other after : List ℕ) (l m : Lexeme) → IsLongest text bytes rest l → IsLongest text other after m →
    Same bytes rest other after l m
longest_once text bytes rest other after l m a b =
    let up = a.longest other after m b.at_front b.is in
    let down = b.longest bytes rest l a.at_front a.is in
    let same : other ≡ bytes = fronts_same other bytes after rest (omega arith) (sym b.at_front ∙ a.at_front) in
    record {
      bytes_same = same;
      rest_same = append_cancel_left bytes after rest (ap (λ x. x ++ after) (sym same) ∙ sym b.at_front ∙ a.at_front);
      lexeme_same = same_lexeme bytes m l (subst (λ x. IsLexeme x m) same b.is) a.is;
    }

none_is_not_some : {A : Type 0} (o : Option A) (x : A) → None ≡ o → o ≡ Some x → ⊥
none_is_not_some o x none some = cc

pub no_token : (behind_operand : Bool) (text rest : List ℕ) (l : Lexeme) → LongestAt text rest l → None ≡ token_of behind_operand l rest →
    NoToken behind_operand text
no_token behind_operand text rest l at none = λ bytes after t read.
    let s = longest_once text at.bytes rest bytes after l read.lexeme at.longest read.longest in
    none_is_not_some (token_of behind_operand l rest) t none
    (subst (λ x. token_of behind_operand x rest ≡ Some t) s.lexeme_same
    (subst (λ x. token_of behind_operand read.lexeme x ≡ Some t) s.rest_same read.token))

-- whitespace before the tokens
spaces_of : (run rest : List ℕ) (behind_operand : Bool) (offset : ℕ) (tokens : List Placed) (whole : Bool) (end : ℕ) → list_all is_whitespace run ≡ true →
    TokensFrom behind_operand (offset + length run) rest tokens whole end → TokensFrom behind_operand offset (run ++ rest) tokens whole end
spaces_of [] rest behind_operand offset tokens whole end h from =
    let same : offset + 0 ≡ offset = omega arith in
    subst (λ n. TokensFrom behind_operand n rest tokens whole end) same from
spaces_of (c ∷ run) rest behind_operand offset tokens whole end h from =
    let p = and_parts (is_whitespace c) (list_all is_whitespace run) h in
    let same : offset + length (c ∷ run) ≡ suc offset + length run = omega arith in
    whitespace behind_operand offset c (run ++ rest) tokens whole end p.0
    (spaces_of run rest behind_operand (suc offset) tokens whole end p.1
    (subst (λ n. TokensFrom behind_operand n rest tokens whole end) same from))

pub spaces : (text rest : List ℕ) (behind_operand : Bool) (offset next : ℕ) (tokens : List Placed) (whole : Bool) (end : ℕ) → Ran is_whitespace text rest →
    next + length rest ≡ offset + length text → TokensFrom behind_operand next rest tokens whole end →
    TokensFrom behind_operand offset text tokens whole end
spaces text rest behind_operand offset next tokens whole end r sum from =
    let split = r.split ∙ ap (λ l. l ++ rest) (spaces_spell r.run r.pass) in
    let same : next ≡ offset + length r.run = omega (arith, ap length split, length-append r.run rest) in
    subst (λ l. TokensFrom behind_operand offset l tokens whole end) (sym split)
    (spaces_of r.run rest behind_operand offset tokens whole end r.pass
    (subst (λ n. TokensFrom behind_operand n rest tokens whole end) same from))

no_lead : (n : ℕ) → 0 + n ≡ n
no_lead n = omega arith

-- what was read of a text: whoever reads the rest has read the whole
pub record Reading (text : List ℕ) (tokens : List Placed) (behind_operand : Bool) (rest : List ℕ) : Type 0 where
  pub left : IsEnd text rest
  pub stops : Stops is_whitespace rest
  pub goes_on : (offset : ℕ) (more : List Placed) (whole : Bool) (end : ℕ) → offset + length rest ≡ length text →
      TokensFrom behind_operand offset rest more whole end → TokensFrom false 0 text (tokens ++ more) whole end

pub ends_shorter : (text rest : List ℕ) → IsEnd text rest → length rest ≤ length text
ends_shorter text rest e = omega (arith, ap length e.split, length-append e.front rest)

pub ran_end : (text rest : List ℕ) → Ran is_whitespace text rest → IsEnd text rest
ran_end text rest r = record { front = encode_utf8_all r.run; split = r.split }

end_within : (text middle rest front : List ℕ) → IsEnd text middle → middle ≡ front ++ rest → IsEnd text rest
end_within text middle rest front e split = record {
  front = e.front ++ front;
  split = e.split ∙ ap (λ l. e.front ++ l) split ∙ sym (append_assoc e.front front rest);
}

pub begun : (text rest : List ℕ) → Ran is_whitespace text rest → Reading text [] false rest
begun text rest r = record {
  left = ran_end text rest r;
  stops = r.stops;
  goes_on = λ offset more whole end sum from. spaces text rest false 0 offset more whole end r (sum ∙ sym (no_lead (length text))) from;
}

pub gone_on : (text rest behind next : List ℕ) (tokens : List Placed) (behind_operand : Bool) (offset : ℕ) (t : Token) → Reading text tokens behind_operand rest →
    ReadAt behind_operand rest behind t → Ran is_whitespace behind next → offset + length rest ≡ length text →
    Reading text (tokens ++ record { offset = offset; token = t } ∷ []) (ends_operand t) next
gone_on text rest behind next tokens behind_operand offset t r read ran at = record {
  left = end_within text behind next (encode_utf8_all ran.run) (end_within text rest behind read.bytes r.left read.read.longest.at_front) ran.split;
  stops = ran.stops;
  goes_on = λ after more whole end sum from.
      let size : length rest ≡ length read.bytes + length behind = ap length read.read.longest.at_front ∙ length-append read.bytes behind in
      let total : after + length next ≡ offset + length read.bytes + length behind = omega arith in
      subst (λ l. TokensFrom false 0 text l whole end) (sym (append_assoc tokens (record { offset = offset; token = t } ∷ []) more))
      (r.goes_on offset (record { offset = offset; token = t } ∷ more) whole end at
      (one_token behind_operand offset rest read.bytes behind t more whole end read.read
      (spaces behind next (ends_operand t) (offset + length read.bytes) after more whole end ran total from)));
}

pub read_takes : (behind_operand : Bool) (text rest : List ℕ) (t : Token) → ReadAt behind_operand text rest t → length rest < length text
read_takes behind_operand text rest t read =
    omega (
      arith,
      ap length read.read.longest.at_front,
      length-append read.bytes rest,
      lexeme_takes read.bytes read.read.lexeme read.read.longest.is,
    )

bad_here : (behind_operand : Bool) (offset : ℕ) (rest : List ℕ) → 0 < length rest → Stops is_whitespace rest → NoToken behind_operand rest →
    TokensFrom behind_operand offset rest [] false offset
bad_here behind_operand offset [] some stops none = absurd (omega arith)
bad_here behind_operand offset (b ∷ rest) some stops none = bad_token behind_operand offset b rest (no_space b rest stops) none

pub stopped : (text rest : List ℕ) (tokens : List Placed) (behind_operand : Bool) (offset : ℕ) → Reading text tokens behind_operand rest →
    0 < length rest → NoToken behind_operand rest → offset + length rest ≡ length text → Tokenized text tokens false offset
stopped text rest tokens behind_operand offset r some none at =
    subst (λ l. TokensFrom false 0 text l false offset) (append-nil tokens)
    (r.goes_on offset [] false offset at (bad_here behind_operand offset rest some r.stops none))

end_here : (behind_operand : Bool) (offset : ℕ) (rest : List ℕ) → length rest ≡ 0 → TokensFrom behind_operand offset rest [] true offset
end_here behind_operand offset [] none = at_end behind_operand offset
end_here behind_operand offset (b ∷ rest) none = absurd (omega arith)

pub finished : (text rest : List ℕ) (tokens : List Placed) (behind_operand : Bool) → Reading text tokens behind_operand rest → length rest ≡ 0 →
    Tokenized text tokens true (length text)
finished text rest tokens behind_operand r none =
    subst (λ l. TokensFrom false 0 text l true (length text)) (append-nil tokens)
    (r.goes_on (length text) [] true (length text) (omega arith) (end_here behind_operand (length text) rest none))
