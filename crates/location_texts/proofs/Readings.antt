-- The text of a step in front of what it ends before, and the tokens of both (XPath 1.0, section 3.7).
use Rattle.std.proofs.Common.{◌≡◌, ℕ, ◌≤◌, Bool, true, false, ◌==◌, ◌&&◌, ◌||◌, if◌then◌else◌, List, [], ◌∷◌, ◌++◌, codes, None, inl, refl, sym, subst, ap, ◌∙◌, append_assoc}
use Rattle.std.specs.Char.{encode_utf8}
use Rattle.std.specs.Fmt.{decimal}
use Rattle.std.specs.List.{list_any, list_all}
use Rattle.std.specs.Str.{chars, is_utf8}
use Rattle.sch_base.specs.Characters.{is_name_start, is_name_char}
use Rattle.sch_base.specs.Named.{named}
use Rattle.doc_locations.specs.Locations.{kid_step, named_step, quotes_of}
use Rattle.xp_tree.specs.declared.numbers.TheConstants.{MAX_WHOLE}
use Rattle.xp_tree.specs.declared.terms.Operator.TheVariants as operators
use Rattle.xp_grammar.specs.declared.token.Token.{Token}
use Rattle.xp_grammar.specs.declared.token.Token.TheVariants as token
use Rattle.xp_lexicon.specs.Lexicon.{node_types, IsNcname}
use Rattle.xp_print_laws.proofs.Fits.{fits_star, fits_chars, fits_comment, fits_pi}
use Rattle.xp_print_laws.proofs.Fronts.{both, is_equal}
use Rattle.xp_print_laws.proofs.NameBytes.{is_name_byte, name-bytes}
use Rattle.xp_print_laws.proofs.Longest.{no_pair}
use Rattle.xp_print_laws.proofs.Lexed.{IsQuotable}
use Rattle.xp_print_laws.proofs.Words.{and-is-name, word}
use Rattle.xp_print_laws.proofs.Texts.{around_by, ReadsAs, reads_none, reads_space, sign_reads, star_reads, literal_reads, number_reads, name_reads, function_reads, word_reads}
use Rattle.xp_print_laws.proofs.Behind.{After, Behind, text_joined, open_reads, close_reads, bracket_reads, nothing_behind, close_bracket_behind, bracket_behind, slash_behind, test_reads}
use Rattle.location_texts.specs.LocationSteps.{KidKind, elements, texts, comments, instructions, LocationStep, to_kid, to_attribute, test_written, step_text, steps_text, holds_both_quotes, IsSpellable, AllSpellable}
use Rattle.location_texts.specs.StepTokens.{kind_tokens, place_tokens, equation_tokens, name_tokens, step_tokens, steps_tokens}
use Rattle.location_texts.specs.Laws.{TextsHaveTheirTokens}
use Rattle.location_texts.proofs.Numerals.{place-is_number}

-- ---- kids

-- `[place]` behind a node test
place_after : (place : ℕ) (rest : List ℕ) (ts : List Token) → place ≤ MAX_WHOLE → ReadsAs true rest ts →
    After ((codes "[" ++ (decimal place ++ codes "]")) ++ rest) (place_tokens place ++ ts)
place_after place rest ts few on =
    let closing = (close_bracket_behind {base = true} rest ts on).after in
    (bracket_behind ((decimal place ++ codes "]") ++ rest) (token.Number (decimal place) ∷ token.CloseBracket ∷ ts)
    (text_joined (decimal place) (codes "]") rest
    (number_reads false (decimal place) (93 ∷ rest) (token.CloseBracket ∷ ts) (place-is_number place few) closing.stops closing.reads))).after

-- a node test and a place behind a slash
abbrev kid_rest : ℕ → List ℕ → List ℕ
kid_rest place rest = (codes "[" ++ (decimal place ++ codes "]")) ++ rest

kid_behind : (kind : KidKind) (place : ℕ) (rest : List ℕ) (ts : List Token) → place ≤ MAX_WHOLE → ReadsAs true rest ts →
    Behind false true (kid_step (test_written kind) place ++ rest) (step_tokens (to_kid kind place) ++ ts)
kid_behind elements place rest ts few on =
    slash_behind (codes "*" ++ kid_rest place rest) (kind_tokens elements ++ (place_tokens place ++ ts)) refl
    (test_reads fits_star (kid_rest place rest) (place_tokens place ++ ts) (place_after place rest ts few on))
kid_behind texts place rest ts few on =
    slash_behind (codes "text()" ++ kid_rest place rest) (kind_tokens texts ++ (place_tokens place ++ ts)) refl
    (test_reads fits_chars (kid_rest place rest) (place_tokens place ++ ts) (place_after place rest ts few on))
kid_behind comments place rest ts few on =
    slash_behind (codes "comment()" ++ kid_rest place rest) (kind_tokens comments ++ (place_tokens place ++ ts)) refl
    (test_reads fits_comment (kid_rest place rest) (place_tokens place ++ ts) (place_after place rest ts few on))
kid_behind instructions place rest ts few on =
    slash_behind (codes "processing-instruction()" ++ kid_rest place rest) (kind_tokens instructions ++ (place_tokens place ++ ts)) refl
    (test_reads fits_pi (kid_rest place rest) (place_tokens place ++ ts) (place_after place rest ts few on))

-- ---- names and texts in quotes

-- a byte that no name has stands in none
pub name_lacks : (stop : ℕ) → is_name_byte stop ≡ false → (name : List ℕ) → list_all is_name_byte name ≡ true → list_any (λ c. c == stop) name ≡ false
name_lacks stop none [] all = refl
name_lacks stop none (c ∷ name) all = by (c == stop) refl (name_lacks stop none name (both (is_name_byte c) (list_all is_name_byte name) all).1)
  where
    by : (b : Bool) → (c == stop) ≡ b → list_any (λ c. c == stop) name ≡ false → (b || list_any (λ c. c == stop) name) ≡ false
    by true is rest =
        let passed = (both (is_name_byte c) (list_all is_name_byte name) all).0 in
        absurd (let here : is_name_byte stop ≡ true = subst (λ x. is_name_byte x ≡ true) (is_equal c stop is) passed in cc)
    by false is rest = rest

quote-ends : is_name_byte 39 ≡ false
unfolding is_name_char is_name_start
quote-ends = refl

quotable : (uri : List ℕ) → holds_both_quotes uri ≡ false → IsQuotable uri
quotable uri not_both = by (list_any (λ b. b == 39) uri) refl not_both
  where
    by : (b : Bool) → list_any (λ c. c == 39) uri ≡ b → (b && list_any (λ c. c == 34) uri) ≡ false → IsQuotable uri
    by true is none = record { quote = 34; is = refl; none = none }
    by false is none = record { quote = 39; is = refl; none = is }

-- a text between single quotes, which it doesn't hold
single_reads : (b : Bool) (value rest : List ℕ) (ts : List Token) → list_any (λ c. c == 39) value ≡ false → ReadsAs true rest ts →
    ReadsAs b (39 ∷ (value ++ (39 ∷ rest))) (token.Literal value ∷ ts)
single_reads b value rest ts none on =
    subst (λ t. ReadsAs b (39 ∷ t) (token.Literal value ∷ ts)) (append_assoc value (39 ∷ []) rest)
    (subst (λ q. ReadsAs b ((around_by q ++ (value ++ around_by q)) ++ rest) (token.Literal value ∷ ts)) none
    (literal_reads b value rest ts (record { quote = 39; is = refl; none = none }) on))

-- a namespace between its quotes
uri_reads : (uri rest : List ℕ) (ts : List Token) → holds_both_quotes uri ≡ false → ReadsAs true rest ts →
    ReadsAs false (quotes_of uri ++ (uri ++ (quotes_of uri ++ rest))) (token.Literal uri ∷ ts)
uri_reads uri rest ts not_both on =
    subst (λ t. ReadsAs false t (token.Literal uri ∷ ts))
    (append_assoc (quotes_of uri) (uri ++ quotes_of uri) rest ∙ ap (λ t. quotes_of uri ++ t) (append_assoc uri (quotes_of uri) rest))
    (literal_reads false uri rest ts (quotable uri not_both) on)

-- ---- expanded names

local_name-is_name : IsNcname (codes "local-name")
unfolding chars is_utf8 encode_utf8 is_name_char is_name_start
local_name-is_name = word (codes "local-name") refl refl

namespace_uri-is_name : IsNcname (codes "namespace-uri")
unfolding chars is_utf8 encode_utf8 is_name_char is_name_start
namespace_uri-is_name = word (codes "namespace-uri") refl refl

alone-61 : (rest : List ℕ) → no_pair 61 rest ≡ true
alone-61 [] = refl
alone-61 (c ∷ r) = refl

alone-64 : (rest : List ℕ) → no_pair 64 rest ≡ true
alone-64 [] = refl
alone-64 (c ∷ r) = refl

-- a function's name and `()=` in front of a literal
called_reads : (name rest : List ℕ) (value : List ℕ) (ts : List Token) → IsNcname name → named node_types name ≡ None →
    ReadsAs false rest (token.Literal value ∷ ts) →
    ReadsAs false (name ++ (40 ∷ 41 ∷ 61 ∷ rest)) (equation_tokens name value ++ ts)
called_reads name rest value ts is none on =
    function_reads name (41 ∷ 61 ∷ rest) (token.OpenParen ∷ token.CloseParen ∷ token.Operator operators.Equal ∷ token.Literal value ∷ ts) (inl is) none
    (open_reads true (41 ∷ 61 ∷ rest) (token.CloseParen ∷ token.Operator operators.Equal ∷ token.Literal value ∷ ts)
    (close_reads false (61 ∷ rest) (token.Operator operators.Equal ∷ token.Literal value ∷ ts)
    (sign_reads true 61 (token.Operator operators.Equal) rest (token.Literal value ∷ ts) refl refl (alone-61 rest) on)))

-- the second equation, behind `and`
uri_equation : List ℕ → List ℕ → List ℕ
uri_equation uri rest = codes " and namespace-uri()=" ++ (quotes_of uri ++ (uri ++ (quotes_of uri ++ rest)))

uri_equation_reads : (uri rest : List ℕ) (ts : List Token) → holds_both_quotes uri ≡ false → ReadsAs true rest ts →
    ReadsAs true (uri_equation uri rest) (token.Operator operators.And ∷ (equation_tokens (codes "namespace-uri") uri ++ ts))
unfolding uri_equation
uri_equation_reads uri rest ts not_both on =
    let text : List ℕ = codes "namespace-uri()=" ++ (quotes_of uri ++ (uri ++ (quotes_of uri ++ rest))) in
    let more : List Token = equation_tokens (codes "namespace-uri") uri ++ ts in
    reads_space true (codes "and" ++ (32 ∷ text)) (token.Operator operators.And ∷ more)
    (word_reads (codes "and") text (token.Operator operators.And) more and-is-name refl
    (reads_space false text more
    (called_reads (codes "namespace-uri") (quotes_of uri ++ (uri ++ (quotes_of uri ++ rest))) uri ts namespace_uri-is_name refl (uri_reads uri rest ts not_both on))))

both_reads : (local uri rest : List ℕ) (ts : List Token) → IsNcname local → holds_both_quotes uri ≡ false → ReadsAs true rest ts →
    ReadsAs false (codes "local-name()='" ++ (local ++ (39 ∷ uri_equation uri rest))) (name_tokens local uri ++ ts)
both_reads local uri rest ts name not_both on =
    let more : List Token = token.Operator operators.And ∷ (equation_tokens (codes "namespace-uri") uri ++ ts) in
    called_reads (codes "local-name") (39 ∷ (local ++ (39 ∷ uri_equation uri rest))) local more local_name-is_name refl
    (single_reads false local (uri_equation uri rest) more
    (name_lacks 39 quote-ends local (name-bytes local name).all)
    (uri_equation_reads uri rest ts not_both on))

-- the text of a step with both parts of a name, in front of a text, taken apart
expanded_spread : (local uri rest : List ℕ) →
    (local ++ (codes "' and namespace-uri()=" ++ (quotes_of uri ++ (uri ++ (quotes_of uri ++ codes "]"))))) ++ rest
    ≡ local ++ (39 ∷ uri_equation uri (93 ∷ rest))
unfolding uri_equation
expanded_spread local uri rest =
    append_assoc local (codes "' and namespace-uri()=" ++ (quotes_of uri ++ (uri ++ (quotes_of uri ++ codes "]")))) rest
    ∙ ap (λ t. local ++ (codes "' and namespace-uri()=" ++ t))
    (append_assoc (quotes_of uri) (uri ++ (quotes_of uri ++ codes "]")) rest
    ∙ ap (λ t. quotes_of uri ++ t) (append_assoc uri (quotes_of uri ++ codes "]") rest
    ∙ ap (λ t. uri ++ t) (append_assoc (quotes_of uri) (codes "]") rest)))

-- ---- attributes

attribute_behind : (local uri rest : List ℕ) (ts : List Token) → IsNcname local → holds_both_quotes uri ≡ false → After rest ts →
    Behind false true (named_step local uri ++ rest) (step_tokens (to_attribute local uri) ++ ts)
attribute_behind local [] rest ts name not_both a =
    slash_behind (64 ∷ (local ++ rest)) (token.At ∷ token.Name local ∷ ts) refl
    (sign_reads false 64 token.At (local ++ rest) (token.Name local ∷ ts) refl refl (alone-64 (local ++ rest))
    (name_reads local rest ts (inl name) a.stops a.not_called a.not_axis a.reads))
attribute_behind local (b ∷ uri) rest ts name not_both a =
    let closing : ReadsAs true (93 ∷ rest) (token.CloseBracket ∷ ts) = (close_bracket_behind {base = true} rest ts a.reads).after.reads in
    let names : List Token = name_tokens local (b ∷ uri) ++ (token.CloseBracket ∷ ts) in
    let text : List ℕ = codes "local-name()='" ++ (local ++ (39 ∷ uri_equation (b ∷ uri) (93 ∷ rest))) in
    let spread : Behind false true (47 ∷ 64 ∷ 42 ∷ 91 ∷ text) (token.Slash ∷ token.At ∷ token.Star ∷ token.OpenBracket ∷ names) =
    slash_behind (64 ∷ 42 ∷ 91 ∷ text) (token.At ∷ token.Star ∷ token.OpenBracket ∷ names) refl
    (sign_reads false 64 token.At (42 ∷ 91 ∷ text) (token.Star ∷ token.OpenBracket ∷ names) refl refl refl
    (star_reads (91 ∷ text) (token.OpenBracket ∷ names)
    (bracket_reads true text names (both_reads local (b ∷ uri) (93 ∷ rest) (token.CloseBracket ∷ ts) name not_both closing)))) in
    subst (λ t. Behind false true (codes "/@*[local-name()='" ++ t) (token.Slash ∷ token.At ∷ token.Star ∷ token.OpenBracket ∷ names))
    (sym (expanded_spread local (b ∷ uri) rest)) spread

-- ---- steps

step_behind : (s : LocationStep) → IsSpellable s → (rest : List ℕ) (ts : List Token) → After rest ts →
    Behind false true (step_text s ++ rest) (step_tokens s ++ ts)
step_behind (to_kid kind place) few rest ts a = kid_behind kind place rest ts few a.reads
step_behind (to_attribute local uri) is rest ts a = attribute_behind local uri rest ts is.0 is.1 a

steps_after : (ss : List LocationStep) → AllSpellable ss → After (steps_text ss) (steps_tokens ss)
steps_after [] all = (nothing_behind {base = true} false).after
steps_after (s ∷ ss) all = (step_behind s all.0 (steps_text ss) (steps_tokens ss) (steps_after ss all.1)).after

steps_read : (ss : List LocationStep) → AllSpellable ss → ReadsAs false (steps_text ss) (steps_tokens ss)
steps_read [] all = reads_none false
steps_read (s ∷ ss) all = (step_behind s all.0 (steps_text ss) (steps_tokens ss) (steps_after ss all.1)).root refl

pub texts_have_tokens : TextsHaveTheirTokens
texts_have_tokens steps all = steps_read steps all 0
