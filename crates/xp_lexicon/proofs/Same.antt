-- A lexeme's bytes tell which one it is.
use Rattle.std.proofs.Common.{◌≡◌, ℕ, ◌<◌, Bool, true, false, not, List, [], ◌∷◌, ◌++◌, length, Option, Some, refl, sym, ap, subst, ◌∙◌, append_assoc, append-nil, arith, lit<, length-append}
use Rattle.std.specs.Prelude.{codes, encode_utf8, encode_utf8_all}
use Rattle.std.specs.Char.{is_ascii_digit}
use Rattle.std.specs.List.{list_any, list_all}
use Rattle.sch_base.specs.Characters.{is_name_start}
use Rattle.std.specs.Str.{all_ascii_digits}
use Rattle.std.proofs.lemmas.Bool.{and_parts, both_ways, or_left, or_right, not-true}
use Rattle.std.proofs.lemmas.List.{append_cancel_right}
use Rattle.std.proofs.lemmas.Str.{encode_ascii}
use Rattle.xp_grammar.specs.declared.token.Token.{Token}
use Rattle.xp_lexicon.specs.declared.lexeme.Lexeme.{Lexeme}
use Rattle.xp_lexicon.specs.declared.lexeme.Lexeme.TheVariants as lexeme
use Rattle.xp_lexicon.specs.declared.lexeme.Form.{Form}
use Rattle.xp_lexicon.specs.declared.lexeme.Form.TheVariants as form
use Rattle.xp_lexicon.specs.Lexicon.{symbols, are_digits, IsNumber, whole_number, ending_point, inner_point, leading_point, IsNcname, IsPrefixed, IsLexeme, symbol_lexeme, star_lexeme, literal_lexeme, number_lexeme, variable_lexeme, prefixed_variable_lexeme, name_lexeme, prefixed_name_lexeme, prefix_star_lexeme}
use Rattle.sch_base.specs.Named.{named}
use Rattle.xp_lexicon.specs.inner.Scanning.{form_of, fits, is_symbol, is_literal, is_number, is_pointed, is_variable, is_name, IsHead}
use Rattle.xp_lexicon.proofs.Runs.{stops_at_end, stops_at_ascii}
use Rattle.xp_lexicon.proofs.Names.{name_parts, name_takes, before_colon, colon_stops, no_name}
use Rattle.xp_lexicon.proofs.Symbols.{in_table}
use Rattle.xp_lexicon.proofs.LongNumbers.{digit_is_low}
use Rattle.xp_lexicon.proofs.Literals.{quote_is_low}
use Rattle.xp_lexicon.proofs.Forms.{names, variables, literals, pointed, stars}
use Rattle.xp_lexicon.proofs.Firsts.{form_fits, begins_symbol, sign_passes, signs, sign_is_low, is_literal_at, is_digit_at, is_name_at, no_start_42}

other_fits : (d : ℕ) (behind bytes : List ℕ) (m : Lexeme) → IsLexeme bytes m → bytes ≡ encode_utf8 d ++ behind → fits (form_of d) m ≡ true
other_fits d behind bytes m is e = form_fits d behind [] bytes m is (sym e ∙ sym (append-nil bytes))

other_is : (d : ℕ) (f : Form) (behind bytes : List ℕ) (m : Lexeme) → IsLexeme bytes m → bytes ≡ encode_utf8 d ++ behind → form_of d ≡ f → fits f m ≡ true
other_is d f behind bytes m is e at = subst (λ x. fits x m ≡ true) at (other_fits d behind bytes m is e)

ascii : (b : ℕ) (bytes : List ℕ) → b < 128 → b ∷ bytes ≡ encode_utf8 b ++ bytes
ascii b bytes low = ap (λ l. l ++ bytes) (sym (encode_ascii b low))

-- symbols hold no digit, and numbers one
abbrev has_digit : List ℕ → Bool
has_digit bytes = list_any is_ascii_digit bytes

abbrev has_no_digit : List ℕ → Bool
has_no_digit bytes = not (has_digit bytes)

digits_have : (ds after : List ℕ) → are_digits ds ≡ true → has_digit (ds ++ after) ≡ true
digits_have [] after are = absurd (cc)
digits_have (d ∷ ds) after are =
    or_left (is_ascii_digit d) (has_digit (ds ++ after)) (and_parts (is_ascii_digit d) (all_ascii_digits ds) are).0

digits_have_one : (ds : List ℕ) → are_digits ds ≡ true → has_digit ds ≡ true
digits_have_one ds are = subst (λ l. has_digit l ≡ true) (append-nil ds) (digits_have ds [] are)

number_has : (bytes : List ℕ) → IsNumber bytes → has_digit bytes ≡ true
number_has bytes (whole_number _ are) = digits_have_one bytes are
number_has bytes (ending_point _ ds joined are) = subst (λ l. has_digit l ≡ true) (sym joined) (digits_have ds (46 ∷ []) are)
number_has bytes (inner_point _ ds f joined are are2) = subst (λ l. has_digit l ≡ true) (sym joined) (digits_have ds (46 ∷ f) are)
number_has bytes (leading_point f are) = or_right (is_ascii_digit 46) (has_digit f) (digits_have_one f are)

no_symbol_is_number : (bytes : List ℕ) (t : Token) → named symbols bytes ≡ Some t → IsNumber bytes → ⊥
no_symbol_is_number bytes t known n =
    both_ways (has_digit bytes) (not-true _ (in_table has_no_digit symbols bytes t refl known)) (number_has bytes n)

same_some : {A : Type 0} (o : Option A) (x y : A) → o ≡ Some x → o ≡ Some y → x ≡ y
same_some o x y e f = cc

no_cons : (a : ℕ) (xs : List ℕ) → a ∷ xs ≡ [] → ⊥
no_cons a xs e = cc

tail_of : (a : ℕ) (xs ys : List ℕ) → a ∷ xs ≡ a ∷ ys → xs ≡ ys
tail_of a xs ys e = cc

heads : (a b : ℕ) (xs ys : List ℕ) → a ∷ xs ≡ b ∷ ys → (a ≡ b) × (xs ≡ ys)
heads a b xs ys e = (cc, cc)

same_quoted : (quote q : ℕ) (value other : List ℕ) → quote ∷ (value ++ quote ∷ []) ≡ q ∷ (other ++ q ∷ []) → value ≡ other
same_quoted quote q value other e =
    let same = heads quote q (value ++ quote ∷ []) (other ++ q ∷ []) e in
    append_cancel_right value other (quote ∷ []) (same.1 ∙ ap (λ x. other ++ x ∷ []) (sym same.0))

-- names
head_alone : (n : List ℕ) → IsNcname n → IsHead n n []
head_alone n is = record { split = sym (append-nil n); is = is; stops = stops_at_end _ [] refl }

no_colon : (n p u : List ℕ) → IsNcname n → IsNcname p → n ≡ p ++ 58 ∷ u → ⊥
no_colon n p u is prefix e =
    let same = before_colon n n [] p u (head_alone n is) e prefix in
    no_cons 58 u same.1

head_colon : (bytes p u : List ℕ) → IsNcname p → bytes ≡ p ++ 58 ∷ u → IsHead bytes p (58 ∷ u)
head_colon bytes p u is e = record { split = e; is = is; stops = colon_stops u }

no_star_name : IsNcname (42 ∷ []) → ⊥
no_star_name is = no_name (42 ∷ []) (stops_at_ascii _ [] 42 (lit< tt) no_start_42) (42 ∷ []) [] refl is

no_star_local : (bytes p l q : List ℕ) → IsNcname p → IsNcname l → IsNcname q → bytes ≡ p ++ 58 ∷ l → bytes ≡ q ++ codes ":*" → ⊥
no_star_local bytes p l q prefix local starred e f =
    let same = before_colon bytes p (58 ∷ l) q (42 ∷ []) (head_colon bytes p l prefix e) f starred in
    no_star_name (subst IsNcname (tail_of 58 l (42 ∷ []) (sym same.1)) local)

same_star : (bytes p q : List ℕ) → IsNcname p → IsNcname q → bytes ≡ p ++ codes ":*" → bytes ≡ q ++ codes ":*" → p ≡ q
same_star bytes p q prefix other e f =
    sym (before_colon bytes p (58 ∷ 42 ∷ []) q (42 ∷ []) (head_colon bytes p (42 ∷ []) prefix e) f other).0

same_as_name : (bytes : List ℕ) (m : Lexeme) → IsNcname bytes → is_name m ≡ true → IsLexeme bytes m → lexeme.Name bytes ≡ m
same_as_name bytes m n fit is =
    names (λ bs x. IsNcname bs → lexeme.Name bs ≡ x)
    (λ bs _ _. refl)
    (λ bs p n. absurd (no_colon bs p.prefix p.local n p.prefix_name p.joined))
    (λ bs p starred q n. absurd (no_colon bs p (42 ∷ []) n q starred))
    bytes m fit is n

same_as_prefixed : (bytes : List ℕ) (m : Lexeme) → IsPrefixed bytes → is_name m ≡ true → IsLexeme bytes m → lexeme.PrefixedName bytes ≡ m
same_as_prefixed bytes m n fit is =
    names (λ bs x. IsPrefixed bs → lexeme.PrefixedName bs ≡ x)
    (λ bs q n. absurd (no_colon bs n.prefix n.local q n.prefix_name n.joined))
    (λ bs p _. refl)
    (λ bs p starred q n. absurd (no_star_local bs n.prefix n.local p n.prefix_name n.local_name q n.joined starred))
    bytes m fit is n

same_as_star : (bytes prefix : List ℕ) (m : Lexeme) → IsNcname prefix → bytes ≡ prefix ++ codes ":*" → is_name m ≡ true → IsLexeme bytes m →
    lexeme.PrefixStar prefix ≡ m
same_as_star bytes prefix m n e fit is =
    names (λ bs x. bs ≡ prefix ++ codes ":*" → lexeme.PrefixStar prefix ≡ x)
    (λ bs q e. absurd (no_colon bs prefix (42 ∷ []) q n e))
    (λ bs p e. absurd (no_star_local bs p.prefix p.local prefix p.prefix_name p.local_name n p.joined e))
    (λ bs p starred q e. ap lexeme.PrefixStar (same_star bs prefix p n q e starred))
    bytes m fit is e

same_as_variable : (bytes name : List ℕ) (m : Lexeme) → bytes ≡ 36 ∷ name → is_variable m ≡ true → IsLexeme bytes m → lexeme.Variable name ≡ m
same_as_variable bytes name m e fit is =
    variables (λ bs x. bs ≡ 36 ∷ name → lexeme.Variable name ≡ x)
    (λ other _ e. ap lexeme.Variable (sym (tail_of 36 other name e)))
    (λ other _ e. ap lexeme.Variable (sym (tail_of 36 other name e)))
    bytes m fit is e

same_as_literal : (bytes value : List ℕ) (quote : ℕ) (m : Lexeme) → bytes ≡ quote ∷ (value ++ quote ∷ []) → is_literal m ≡ true → IsLexeme bytes m →
    lexeme.Literal value ≡ m
same_as_literal bytes value quote m e fit is =
    literals (λ bs x. bs ≡ quote ∷ (value ++ quote ∷ []) → lexeme.Literal value ≡ x)
    (λ bs other q _ _ joined e. ap lexeme.Literal (same_quoted quote q value other (sym e ∙ joined)))
    bytes m fit is e

same_as_symbol : (bytes : List ℕ) (t : Token) (m : Lexeme) → named symbols bytes ≡ Some t → is_pointed m ≡ true → IsLexeme bytes m → lexeme.Symbol t ≡ m
same_as_symbol bytes t m known fit is =
    pointed (λ bs x. named symbols bs ≡ Some t → lexeme.Symbol t ≡ x)
    (λ bs u known2 known. ap lexeme.Symbol (same_some (named symbols bs) t u known known2))
    (λ bs n known. absurd (no_symbol_is_number bs t known n))
    bytes m fit is known

same_as_number : (bytes : List ℕ) (m : Lexeme) → IsNumber bytes → is_pointed m ≡ true → IsLexeme bytes m → lexeme.Number bytes ≡ m
same_as_number bytes m n fit is =
    pointed (λ bs x. IsNumber bs → lexeme.Number bs ≡ x)
    (λ bs t known n. absurd (no_symbol_is_number bs t known n))
    (λ bs _ _. refl)
    bytes m fit is n

-- digits, points and symbols
abbrev is_pointed_form : Form → Bool
is_pointed_form form.Digit = true
is_pointed_form form.Point = true
is_pointed_form form.Symbol = true
is_pointed_form _ = false

symbol_is_pointed : (m : Lexeme) → is_symbol m ≡ true → is_pointed m ≡ true
symbol_is_pointed (lexeme.Symbol t) h = refl
symbol_is_pointed lexeme.Star h = absurd (cc)
symbol_is_pointed (lexeme.Literal value) h = absurd (cc)
symbol_is_pointed (lexeme.Number digits) h = absurd (cc)
symbol_is_pointed (lexeme.Variable name) h = absurd (cc)
symbol_is_pointed (lexeme.Name name) h = absurd (cc)
symbol_is_pointed (lexeme.PrefixedName name) h = absurd (cc)
symbol_is_pointed (lexeme.PrefixStar prefix) h = absurd (cc)

number_is_pointed : (m : Lexeme) → is_number m ≡ true → is_pointed m ≡ true
number_is_pointed (lexeme.Symbol t) h = absurd (cc)
number_is_pointed lexeme.Star h = absurd (cc)
number_is_pointed (lexeme.Literal value) h = absurd (cc)
number_is_pointed (lexeme.Number digits) h = refl
number_is_pointed (lexeme.Variable name) h = absurd (cc)
number_is_pointed (lexeme.Name name) h = absurd (cc)
number_is_pointed (lexeme.PrefixedName name) h = absurd (cc)
number_is_pointed (lexeme.PrefixStar prefix) h = absurd (cc)

pointed_fits : (f : Form) (m : Lexeme) → is_pointed_form f ≡ true → fits f m ≡ true → is_pointed m ≡ true
pointed_fits form.Variable m h fit = absurd (cc)
pointed_fits form.Literal m h fit = absurd (cc)
pointed_fits form.Star m h fit = absurd (cc)
pointed_fits form.Digit m h fit = number_is_pointed m fit
pointed_fits form.Point m h fit = fit
pointed_fits form.Name m h fit = absurd (cc)
pointed_fits form.Symbol m h fit = symbol_is_pointed m fit

pointed_at : (d : ℕ) (behind bytes : List ℕ) (m : Lexeme) → is_pointed_form (form_of d) ≡ true → bytes ≡ encode_utf8 d ++ behind → IsLexeme bytes m →
    is_pointed m ≡ true
pointed_at d behind bytes m h e is = pointed_fits (form_of d) m h (other_fits d behind bytes m is e)

signs_pointed : list_all (λ c. is_pointed_form (form_of c)) signs ≡ true
unfolding is_name_start
signs_pointed = refl

symbol_other : (bytes : List ℕ) (t : Token) (m : Lexeme) → named symbols bytes ≡ Some t → begins_symbol bytes ≡ true → IsLexeme bytes m → lexeme.Symbol t ≡ m
symbol_other [] t m known begins is = absurd (cc)
symbol_other (b ∷ bytes) t m known begins is =
    same_as_symbol (b ∷ bytes) t m known
    (pointed_at b bytes (b ∷ bytes) m (sign_passes (λ c. is_pointed_form (form_of c)) b signs signs_pointed begins) (ascii b bytes (sign_is_low b begins)) is) is

digit_pointed : (d : ℕ) → is_ascii_digit d ≡ true → is_pointed_form (form_of d) ≡ true
digit_pointed d h = ap is_pointed_form (is_digit_at d h)

digits_pointed : (ds after bytes : List ℕ) (m : Lexeme) → are_digits ds ≡ true → bytes ≡ ds ++ after → IsLexeme bytes m → is_pointed m ≡ true
digits_pointed [] after bytes m are e is = absurd (cc)
digits_pointed (d ∷ ds) after bytes m are e is =
    let p = and_parts _ _ are in
    pointed_at d (ds ++ after) bytes m (digit_pointed d p.0) (e ∙ ascii d (ds ++ after) (digit_is_low d p.0)) is

number_pointed : (bytes : List ℕ) (m : Lexeme) → IsNumber bytes → IsLexeme bytes m → is_pointed m ≡ true
number_pointed bytes m (whole_number _ are) is = digits_pointed bytes [] bytes m are (sym (append-nil bytes)) is
number_pointed bytes m (ending_point _ ds joined are) is = digits_pointed ds (46 ∷ []) bytes m are joined is
number_pointed bytes m (inner_point _ ds f joined are are2) is = digits_pointed ds (46 ∷ f) bytes m are joined is
number_pointed bytes m (leading_point f are) is = pointed_at 46 f (46 ∷ f) m refl (ascii 46 f (lit< tt)) is

name_other : (name after bytes : List ℕ) (m : Lexeme) → IsNcname name → bytes ≡ name ++ after → IsLexeme bytes m → is_name m ≡ true
name_other name after bytes m n e is =
    let p = name_parts name n in
    other_is p.first form.Name (encode_utf8_all p.others ++ after) bytes m is
    (e ∙ ap (λ l. l ++ after) (sym p.spelled) ∙ append_assoc (encode_utf8 p.first) (encode_utf8_all p.others) after)
    (is_name_at p.first p.start)

-- the bytes of a lexeme are those of no other
pub same_lexeme : (bytes : List ℕ) (l m : Lexeme) → IsLexeme bytes l → IsLexeme bytes m → l ≡ m
same_lexeme bytes l m (symbol_lexeme _ t known) is =
    symbol_other bytes t m known (in_table begins_symbol symbols bytes t refl known) is
same_lexeme bytes l m star_lexeme is =
    stars (λ bs x. lexeme.Star ≡ x) refl bytes m (other_is 42 form.Star [] bytes m is (ascii 42 [] (lit< tt)) refl) is
same_lexeme bytes l m (literal_lexeme _ value quote quoted none joined) is =
    same_as_literal bytes value quote m joined
    (other_is quote form.Literal (value ++ quote ∷ []) bytes m is (joined ∙ ascii quote (value ++ quote ∷ []) (quote_is_low quote quoted)) (is_literal_at quote quoted)) is
same_lexeme bytes l m (number_lexeme _ n) is = same_as_number bytes m n (number_pointed bytes m n is) is
same_lexeme bytes l m (variable_lexeme name n) is =
    same_as_variable bytes name m refl (other_is 36 form.Variable name bytes m is (ascii 36 name (lit< tt)) refl) is
same_lexeme bytes l m (prefixed_variable_lexeme name n) is =
    same_as_variable bytes name m refl (other_is 36 form.Variable name bytes m is (ascii 36 name (lit< tt)) refl) is
same_lexeme bytes l m (name_lexeme _ n) is = same_as_name bytes m n (name_other bytes [] bytes m n (sym (append-nil bytes)) is) is
same_lexeme bytes l m (prefixed_name_lexeme _ n) is =
    same_as_prefixed bytes m n (name_other n.prefix (58 ∷ n.local) bytes m n.prefix_name n.joined is) is
same_lexeme bytes l m (prefix_star_lexeme _ prefix joined n) is =
    same_as_star bytes prefix m n joined (name_other prefix (58 ∷ 42 ∷ []) bytes m n joined is) is

some_byte : (bytes : List ℕ) → begins_symbol bytes ≡ true → 0 < length bytes
some_byte [] h = absurd (cc)
some_byte (b ∷ bytes) h = omega arith

digits_take : (ds : List ℕ) → are_digits ds ≡ true → 0 < length ds
digits_take [] h = absurd (cc)
digits_take (d ∷ ds) h = omega arith

number_takes : (bytes : List ℕ) → IsNumber bytes → 0 < length bytes
number_takes bytes (whole_number _ are) = digits_take bytes are
number_takes bytes (ending_point _ ds joined are) = omega (arith, ap length joined, length-append ds (46 ∷ []))
number_takes bytes (inner_point _ ds f joined are are2) = omega (arith, ap length joined, length-append ds (46 ∷ f))
number_takes bytes (leading_point f are) = omega arith

-- a lexeme takes a byte or more
pub lexeme_takes : (bytes : List ℕ) (l : Lexeme) → IsLexeme bytes l → 0 < length bytes
lexeme_takes bytes l (symbol_lexeme _ t known) = some_byte bytes (in_table begins_symbol symbols bytes t refl known)
lexeme_takes bytes l star_lexeme = omega arith
lexeme_takes bytes l (literal_lexeme _ value quote quoted none joined) = omega (arith, ap length joined)
lexeme_takes bytes l (number_lexeme _ n) = number_takes bytes n
lexeme_takes bytes l (variable_lexeme name n) = omega arith
lexeme_takes bytes l (prefixed_variable_lexeme name n) = omega arith
lexeme_takes bytes l (name_lexeme _ n) = name_takes bytes n
lexeme_takes bytes l (prefixed_name_lexeme _ n) = omega (arith, ap length n.joined, length-append n.prefix (58 ∷ n.local))
lexeme_takes bytes l (prefix_star_lexeme _ prefix joined n) = omega (arith, ap length joined, length-append prefix (58 ∷ 42 ∷ []))
