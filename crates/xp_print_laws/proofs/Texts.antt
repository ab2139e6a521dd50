-- Texts of tokens, one token in front of the others.
use Rattle.std.proofs.Common.{◌≡◌, ℕ, suc, ◌+◌, Bool, true, false, ◌==◌, if◌then◌else◌, ◌||◌, List, [], ◌∷◌, ◌++◌, length, map, codes, Some, None, inl, inr, refl, subst, ap, ◌∙◌}
use Rattle.std.specs.List.{list_any}
use Rattle.std.specs.Char.{is_ascii_digit}
use Rattle.std.specs.Option.{option_map}
use Rattle.sch_base.specs.Characters.{is_name_start, is_name_char, is_whitespace}
use Rattle.xp_tree.specs.declared.terms.AxisName.{AxisName}
use Rattle.xp_tree.specs.declared.terms.Operator.TheVariants as operators
use Rattle.xp_grammar.specs.declared.token.NodeType.{NodeType}
use Rattle.xp_grammar.specs.declared.token.Placed.{Placed}
use Rattle.xp_grammar.specs.declared.token.Token.{Token}
use Rattle.xp_grammar.specs.declared.token.Token.TheVariants as token
use Rattle.xp_lexicon.specs.declared.lexeme.Lexeme.TheVariants as lexeme
use Rattle.xp_lexicon.specs.Lexicon.{symbols, operator_names, node_types, IsNumber, IsNcname, is_quote, IsLexeme, symbol_lexeme, star_lexeme, literal_lexeme, number_lexeme, variable_lexeme, prefixed_variable_lexeme, name_lexeme, prefixed_name_lexeme, prefix_star_lexeme, goes_on, called, name_token, token_of, ends_operand, IsRead, TokensFrom, at_end, whitespace, one_token}
use Rattle.sch_base.specs.Named.{named}
use Rattle.xp_tree.specs.AxisNames.{axis_names}
use Rattle.xp_print.specs.Printed.{quoted}
use Rattle.xp_tree.specs.AxisNames.{axis_text}
use Rattle.xp_print_laws.proofs.Fronts.{is_equal}
use Rattle.xp_print_laws.proofs.NameBytes.{is_start_byte, name-bytes}
use Rattle.xp_print_laws.proofs.Leads.{Sign, First, number-first}
use Rattle.xp_print_laws.proofs.Longest.{no_pair, sign-longest, pair-longest, star-longest, single-longest, double-longest, stops, IsQname, qname-longest, starred-longest, variable-longest, is_number_byte, number-longest, fails-of-any}
use Rattle.xp_print_laws.proofs.Lexed.{IsQuotable}
use Rattle.xp_print_laws.proofs.Words.{axis-is-name, axis-named, type_text, type-is-name, type-named}

-- the whole text has these tokens, from any offset on
abbrev pub ReadsAs : Bool → List ℕ → List Token → Type 0
ReadsAs b text ts = (offset : ℕ) → (s : List Placed) × (end : ℕ) × TokensFrom b offset text s true end × (map (λ p. p.token) s ≡ ts)

pub reads_none : (b : Bool) → ReadsAs b [] []
reads_none b offset = ([], offset, at_end b offset, refl)

pub reads_space : (b : Bool) (text : List ℕ) (ts : List Token) → ReadsAs b text ts → ReadsAs b (32 ∷ text) ts
unfolding is_whitespace
reads_space b text ts on offset =
    let (s, end, T, is) = on (suc offset) in (s, end, whitespace b offset 32 text s true end refl T, is)

pub reads_token : (b : Bool) (text bytes rest : List ℕ) (t : Token) (ts : List Token) → IsRead b text bytes rest t → ReadsAs (ends_operand t) rest ts → ReadsAs b text (t ∷ ts)
reads_token b text bytes rest t ts r on offset =
    let (s, end, T, is) = on (offset + length bytes) in
    (record { offset = offset; token = t } ∷ s, end, one_token b offset text bytes rest t s true end r T, ap (λ l. t ∷ l) is)

-- ---- symbols

abbrev pub plain_signs : List ℕ
plain_signs = 40 ∷ 41 ∷ 91 ∷ 93 ∷ 64 ∷ 44 ∷ 58 ∷ 47 ∷ 124 ∷ 43 ∷ 45 ∷ 61 ∷ 33 ∷ 60 ∷ 62 ∷ []

pub plain-sign : (c : ℕ) → list_any (λ x. c == x) plain_signs ≡ true → Sign c
unfolding is_name_start
plain-sign c h = record {
  star = fails-of-any (λ b. b == 42) c plain_signs refl h;
  quote = fails-of-any is_quote c plain_signs refl h;
  digit = fails-of-any (λ b. is_ascii_digit b || b == 46) c plain_signs refl h;
  dollar = fails-of-any (λ b. b == 36) c plain_signs refl h;
  start = fails-of-any is_start_byte c plain_signs refl h;
}

pub sign_reads : (b : Bool) (c : ℕ) (t : Token) (rest : List ℕ) (ts : List Token) → named symbols (c ∷ []) ≡ Some t → list_any (λ x. c == x) plain_signs ≡ true →
    no_pair c rest ≡ true → ReadsAs (ends_operand t) rest ts → ReadsAs b (c ∷ rest) (t ∷ ts)
sign_reads b c t rest ts is sign none on =
    let r : IsRead b (c ∷ rest) (c ∷ []) rest t = record {
      lexeme = lexeme.Symbol t;
      longest = record { at_front = refl; is = symbol_lexeme (c ∷ []) t is; longest = λ more after l e L. sign-longest c rest (plain-sign c sign) none more after l e L };
      token = refl;
    } in
    reads_token b (c ∷ rest) (c ∷ []) rest t ts r on

pub pair_reads : (b : Bool) (c d : ℕ) (t : Token) (rest : List ℕ) (ts : List Token) → named symbols (c ∷ d ∷ []) ≡ Some t → list_any (λ x. c == x) plain_signs ≡ true →
    ReadsAs (ends_operand t) rest ts → ReadsAs b (c ∷ d ∷ rest) (t ∷ ts)
pair_reads b c d t rest ts is sign on =
    let r : IsRead b (c ∷ d ∷ rest) (c ∷ d ∷ []) rest t = record {
      lexeme = lexeme.Symbol t;
      longest = record { at_front = refl; is = symbol_lexeme (c ∷ d ∷ []) t is; longest = λ more after l e L. pair-longest c (d ∷ rest) (plain-sign c sign) more after l e L };
      token = refl;
    } in
    reads_token b (c ∷ d ∷ rest) (c ∷ d ∷ []) rest t ts r on

pub star_reads : (rest : List ℕ) (ts : List Token) → ReadsAs true rest ts → ReadsAs false (42 ∷ rest) (token.Star ∷ ts)
star_reads rest ts on =
    let r : IsRead false (42 ∷ rest) (42 ∷ []) rest token.Star = record {
      lexeme = lexeme.Star;
      longest = record { at_front = refl; is = star_lexeme; longest = λ more after l e L. star-longest rest more after l e L };
      token = refl;
    } in
    reads_token false (42 ∷ rest) (42 ∷ []) rest token.Star ts r on

pub times_reads : (rest : List ℕ) (ts : List Token) → ReadsAs false rest ts → ReadsAs true (42 ∷ rest) (token.Operator operators.Times ∷ ts)
times_reads rest ts on =
    let r : IsRead true (42 ∷ rest) (42 ∷ []) rest (token.Operator operators.Times) = record {
      lexeme = lexeme.Star;
      longest = record { at_front = refl; is = star_lexeme; longest = λ more after l e L. star-longest rest more after l e L };
      token = refl;
    } in
    reads_token true (42 ∷ rest) (42 ∷ []) rest (token.Operator operators.Times) ts r on

-- ---- literals and numbers

quote-by : (value : List ℕ) (q : ℕ) → list_any (λ b. b == q) value ≡ false → list_any (λ b. b == 39) value ≡ true →
    (t : Bool) → (q == 39) ≡ t → (t || q == 34) ≡ true → list_any (λ b. b == 34) value ≡ false
quote-by value q none has true is h =
    let fails : list_any (λ b. b == 39) value ≡ false = subst (λ x. list_any (λ b. b == x) value ≡ false) (is_equal q 39 is) none in absurd (cc)
quote-by value q none has false is h = subst (λ x. list_any (λ b. b == x) value ≡ false) (is_equal q 34 h) none

quote-value : (value : List ℕ) (q : ℕ) → is_quote q ≡ true → list_any (λ b. b == q) value ≡ false → list_any (λ b. b == 39) value ≡ true →
    list_any (λ b. b == 34) value ≡ false
quote-value value q is none has = quote-by value q none has (q == 39) refl is

-- the quotes round a literal
abbrev pub around_by : Bool → List ℕ
around_by t = if t then 34 ∷ [] else 39 ∷ []

quoted-by : (b : Bool) (value rest : List ℕ) (ts : List Token) → IsQuotable value → ReadsAs true rest ts → (t : Bool) → list_any (λ c. c == 39) value ≡ t →
    ReadsAs b ((around_by t ++ (value ++ around_by t)) ++ rest) (token.Literal value ∷ ts)
quoted-by b value rest ts q on true has =
    let r : IsRead b (34 ∷ ((value ++ 34 ∷ []) ++ rest)) (34 ∷ (value ++ 34 ∷ [])) rest (token.Literal value) = record {
      lexeme = lexeme.Literal value;
      longest = record {
        at_front = refl;
        is = literal_lexeme (34 ∷ (value ++ 34 ∷ [])) value 34 refl (quote-value value q.quote q.is q.none has) refl;
        longest = λ more after l e L. double-longest value rest more after l e L;
      };
      token = refl;
    } in
    reads_token b (34 ∷ ((value ++ 34 ∷ []) ++ rest)) (34 ∷ (value ++ 34 ∷ [])) rest (token.Literal value) ts r on
quoted-by b value rest ts q on false none =
    let r : IsRead b (39 ∷ ((value ++ 39 ∷ []) ++ rest)) (39 ∷ (value ++ 39 ∷ [])) rest (token.Literal value) = record {
      lexeme = lexeme.Literal value;
      longest = record {
        at_front = refl;
        is = literal_lexeme (39 ∷ (value ++ 39 ∷ [])) value 39 refl none refl;
        longest = λ more after l e L. single-longest value rest more after l e L;
      };
      token = refl;
    } in
    reads_token b (39 ∷ ((value ++ 39 ∷ []) ++ rest)) (39 ∷ (value ++ 39 ∷ [])) rest (token.Literal value) ts r on

pub literal_reads : (b : Bool) (value rest : List ℕ) (ts : List Token) → IsQuotable value → ReadsAs true rest ts → ReadsAs b (quoted value ++ rest) (token.Literal value ∷ ts)
literal_reads b value rest ts q on = quoted-by b value rest ts q on (list_any (λ c. c == 39) value) refl

record Head (p : ℕ → Bool) (bytes : List ℕ) : Type 0 where
  first : ℕ
  others : List ℕ
  is : bytes ≡ first ∷ others
  passes : p first ≡ true

head-of : (p : ℕ → Bool) (bytes : List ℕ) → First p bytes → Head p bytes
head-of p [] f = absurd f
head-of p (b ∷ bs) f = record { first = b; others = bs; is = refl; passes = f }

pub number_reads : (b : Bool) (digits rest : List ℕ) (ts : List Token) → IsNumber digits → stops rest ≡ true → ReadsAs true rest ts →
    ReadsAs b (digits ++ rest) (token.Number digits ∷ ts)
number_reads b digits rest ts n stop on =
    let h = head-of is_number_byte digits (number-first digits n) in
    let r : IsRead b (digits ++ rest) digits rest (token.Number digits) = record {
      lexeme = lexeme.Number digits;
      longest = record {
        at_front = refl;
        is = number_lexeme digits n;
        longest = λ more after l e L. number-longest digits rest n h.first h.others h.is h.passes stop more after l e L;
      };
      token = refl;
    } in
    reads_token b (digits ++ rest) digits rest (token.Number digits) ts r on

-- ---- names

variable-lexeme : (name : List ℕ) → IsQname name → IsLexeme (36 ∷ name) (lexeme.Variable name)
variable-lexeme name (inl n) = variable_lexeme name n
variable-lexeme name (inr n) = prefixed_variable_lexeme name n

pub variable_reads : (b : Bool) (name rest : List ℕ) (ts : List Token) → IsQname name → stops rest ≡ true → ReadsAs true rest ts →
    ReadsAs b ((36 ∷ name) ++ rest) (token.Variable name ∷ ts)
variable_reads b name rest ts n stop on =
    let r : IsRead b (36 ∷ (name ++ rest)) (36 ∷ name) rest (token.Variable name) = record {
      lexeme = lexeme.Variable name;
      longest = record { at_front = refl; is = variable-lexeme name n; longest = λ more after l e L. variable-longest name rest n stop more after l e L };
      token = refl;
    } in
    reads_token b (36 ∷ (name ++ rest)) (36 ∷ name) rest (token.Variable name) ts r on

qname-head : (name : List ℕ) → IsQname name → Head is_start_byte name
qname-head name (inl n) = let m = name-bytes name n in record { first = m.first; others = m.others; is = m.is; passes = m.start }
qname-head name (inr n) =
    let m = name-bytes n.prefix n.prefix_name in
    record { first = m.first; others = m.others ++ 58 ∷ n.local; is = n.joined ∙ ap (λ x. x ++ 58 ∷ n.local) m.is; passes = m.start }

-- a name, as the longest lexeme
qname-read : (b : Bool) (name rest : List ℕ) (t : Token) → IsQname name → stops rest ≡ true → token_of b (lexeme.Name name) rest ≡ Some t →
    token_of b (lexeme.PrefixedName name) rest ≡ Some t → IsRead b (name ++ rest) name rest t
qname-read b name rest t (inl n) stop is other =
    let h = qname-head name (inl n) in
    record {
      lexeme = lexeme.Name name;
      longest = record { at_front = refl; is = name_lexeme name n; longest = λ more after l e L. qname-longest name rest (inl n) h.first h.others h.is h.passes stop more after l e L };
      token = is;
    }
qname-read b name rest t (inr n) stop is other =
    let h = qname-head name (inr n) in
    record {
      lexeme = lexeme.PrefixedName name;
      longest = record { at_front = refl; is = prefixed_name_lexeme name n; longest = λ more after l e L. qname-longest name rest (inr n) h.first h.others h.is h.passes stop more after l e L };
      token = other;
    }

pub name_reads : (name rest : List ℕ) (ts : List Token) → IsQname name → stops rest ≡ true → goes_on (codes "(") rest ≡ false → goes_on (codes "::") rest ≡ false →
    ReadsAs true rest ts → ReadsAs false (name ++ rest) (token.Name name ∷ ts)
name_reads name rest ts n stop not_called not_axis on =
    let is : name_token name rest ≡ Some (token.Name name) =
    ap (λ t. if t then Some (called name (named node_types name)) else (if goes_on (codes "::") rest then option_map token.Axis (named axis_names name) else Some (token.Name name))) not_called
    ∙ ap (λ t. if t then option_map token.Axis (named axis_names name) else Some (token.Name name)) not_axis in
    reads_token false (name ++ rest) name rest (token.Name name) ts (qname-read false name rest (token.Name name) n stop is is) on

pub function_reads : (name rest : List ℕ) (ts : List Token) → IsQname name → named node_types name ≡ None → ReadsAs true (40 ∷ rest) ts →
    ReadsAs false (name ++ (40 ∷ rest)) (token.Function name ∷ ts)
unfolding is_name_char is_name_start is_whitespace
function_reads name rest ts n none on =
    let is : name_token name (40 ∷ rest) ≡ Some (token.Function name) = ap (λ k. Some (called name k)) none in
    reads_token false (name ++ (40 ∷ rest)) name (40 ∷ rest) (token.Function name) ts (qname-read false name (40 ∷ rest) (token.Function name) n refl is is) on

pub type_reads : (k : NodeType) (rest : List ℕ) (ts : List Token) → ReadsAs true (40 ∷ rest) ts →
    ReadsAs false (type_text k ++ (40 ∷ rest)) (token.NodeType k ∷ ts)
unfolding is_name_char is_name_start is_whitespace
type_reads k rest ts on =
    let is : name_token (type_text k) (40 ∷ rest) ≡ Some (token.NodeType k) = ap (λ x. Some (called (type_text k) x)) (type-named k) in
    reads_token false (type_text k ++ (40 ∷ rest)) (type_text k) (40 ∷ rest) (token.NodeType k) ts
    (qname-read false (type_text k) (40 ∷ rest) (token.NodeType k) (inl (type-is-name k)) refl is is) on

pub axis_reads : (a : AxisName) (rest : List ℕ) (ts : List Token) → ReadsAs true (58 ∷ 58 ∷ rest) ts →
    ReadsAs false (axis_text a ++ (58 ∷ 58 ∷ rest)) (token.Axis a ∷ ts)
unfolding is_name_char is_name_start is_whitespace
axis_reads a rest ts on =
    let is : name_token (axis_text a) (58 ∷ 58 ∷ rest) ≡ Some (token.Axis a) = ap (option_map token.Axis) (axis-named a) in
    reads_token false (axis_text a ++ (58 ∷ 58 ∷ rest)) (axis_text a) (58 ∷ 58 ∷ rest) (token.Axis a) ts
    (qname-read false (axis_text a) (58 ∷ 58 ∷ rest) (token.Axis a) (inl (axis-is-name a)) refl is is) on

pub starred_reads : (prefix rest : List ℕ) (ts : List Token) → IsNcname prefix → goes_on (codes "::") rest ≡ false → ReadsAs true rest ts →
    ReadsAs false ((prefix ++ 58 ∷ 42 ∷ []) ++ rest) (token.PrefixStar prefix ∷ ts)
starred_reads prefix rest ts n not_axis on =
    let r : IsRead false ((prefix ++ 58 ∷ 42 ∷ []) ++ rest) (prefix ++ 58 ∷ 42 ∷ []) rest (token.PrefixStar prefix) = record {
      lexeme = lexeme.PrefixStar prefix;
      longest = record {
        at_front = refl;
        is = prefix_star_lexeme (prefix ++ 58 ∷ 42 ∷ []) prefix refl n;
        longest = λ more after l e L. starred-longest (prefix ++ 58 ∷ 42 ∷ []) prefix rest refl (name-bytes prefix n) more after l e L;
      };
      token = ap (λ c. if c then None else Some (token.PrefixStar prefix)) not_axis;
    } in
    reads_token false ((prefix ++ 58 ∷ 42 ∷ []) ++ rest) (prefix ++ 58 ∷ 42 ∷ []) rest (token.PrefixStar prefix) ts r on

-- a name that is an operator after an operand, before a space
pub word_reads : (name rest : List ℕ) (t : Token) (ts : List Token) → IsNcname name → named operator_names name ≡ Some t → ReadsAs (ends_operand t) (32 ∷ rest) ts →
    ReadsAs true (name ++ (32 ∷ rest)) (t ∷ ts)
unfolding is_name_char is_name_start
word_reads name rest t ts n is on =
    let h = qname-head name (inl n) in
    let r : IsRead true (name ++ (32 ∷ rest)) name (32 ∷ rest) t = record {
      lexeme = lexeme.Name name;
      longest = record {
        at_front = refl;
        is = name_lexeme name n;
        longest = λ more after l e L. qname-longest name (32 ∷ rest) (inl n) h.first h.others h.is h.passes refl more after l e L;
      };
      token = is;
    } in
    reads_token true (name ++ (32 ∷ rest)) name (32 ∷ rest) t ts r on
