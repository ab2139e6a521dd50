-- What the tokens of a text are made of: XPath 1.0, section 3.7.
use Rattle.std.proofs.Common.{◌≡◌, ℕ, Bool, true, false, ◌==◌, if◌then◌else◌, List, codes, Option, Some, None, inl, inr, refl, subst, ap, ◌∙◌}
use Rattle.std.specs.List.{list_any}
use Rattle.std.specs.Option.{option_map}
use Rattle.xp_tree.specs.declared.terms.AxisName.{AxisName}
use Rattle.xp_grammar.specs.declared.token.NodeType.{NodeType}
use Rattle.xp_grammar.specs.declared.token.Placed.{Placed}
use Rattle.xp_grammar.specs.declared.token.Token.{Token}
use Rattle.xp_grammar.specs.declared.token.Token.TheVariants as token
use Rattle.xp_lexicon.specs.declared.lexeme.Lexeme.{Lexeme}
use Rattle.xp_lexicon.specs.Lexicon.{symbols, operator_names, node_types, IsNumber, IsNcname, is_quote, IsLexeme, symbol_lexeme, star_lexeme, literal_lexeme, number_lexeme, variable_lexeme, prefixed_variable_lexeme, name_lexeme, prefixed_name_lexeme, prefix_star_lexeme, goes_on, called, name_token, starred_token, token_of, ends_operand, IsRead, TokensFrom, at_end, whitespace, one_token, bad_token}
use Rattle.sch_base.specs.Named.{named}
use Rattle.xp_tree.specs.AxisNames.{axis_names}
use Rattle.xp_print.specs.Printed.{is_name_like}
use Rattle.xp_print_laws.specs.Reprinted.{BeginsNameLike}
use Rattle.xp_print_laws.proofs.Fitting.{Sound}
use Rattle.xp_print_laws.proofs.Leads.{Each, named-each, some-same}
use Rattle.xp_print_laws.proofs.Longest.{IsQname}

-- a text without one of the quotes
pub record IsQuotable (value : List ℕ) : Type 0 where
  pub quote : ℕ
  pub is : is_quote quote ≡ true
  pub none : list_any (λ b. b == quote) value ≡ false

-- what a token's text is made of
abbrev pub Lexed : Token → Type 0
Lexed (token.PrefixStar prefix) = IsNcname prefix
Lexed (token.Name name) = IsQname name
Lexed (token.Function name) = IsQname name × (named node_types name ≡ None)
Lexed (token.Variable name) = IsQname name
Lexed (token.Literal value) = IsQuotable value
Lexed (token.Number digits) = IsNumber digits
Lexed _ = Unit {0}

-- an operator that would be read as a name test after `/`
abbrev name_like_token : Token → Bool
name_like_token (token.Operator o) = is_name_like o
name_like_token _ = false

-- ---- names

data NameToken (name : List ℕ) : Token → Type 0 where
  is_function : named node_types name ≡ None → NameToken name (token.Function name)
  is_node_type : (k : NodeType) → NameToken name (token.NodeType k)
  is_axis : (a : AxisName) → NameToken name (token.Axis a)
  is_name : NameToken name (token.Name name)

called-token : (name : List ℕ) (k : Option NodeType) → named node_types name ≡ k → NameToken name (called name k)
called-token name None is = is_function is
called-token name (Some k) is = is_node_type k

axis-token : (name : List ℕ) (a : Option AxisName) (t : Token) → option_map token.Axis a ≡ Some t → NameToken name t
axis-token name None t e = absurd (cc)
axis-token name (Some a) t e = subst (NameToken name) (some-same (token.Axis a) t e) (is_axis a)

name-token : (name rest : List ℕ) (t : Token) → name_token name rest ≡ Some t → NameToken name t
name-token name rest t e = by_test (goes_on (codes "(") rest) (goes_on (codes "::") rest) e
  where
    by_test : (b c : Bool) → (if b then Some (called name (named node_types name)) else (if c then option_map token.Axis (named axis_names name) else Some (token.Name name))) ≡ Some t → NameToken name t
    by_test true c found = subst (NameToken name) (some-same (called name (named node_types name)) t found) (called-token name (named node_types name) refl)
    by_test false true found = axis-token name (named axis_names name) t found
    by_test false false found = subst (NameToken name) (some-same (token.Name name) t found) is_name

starred-token : (prefix rest : List ℕ) (t : Token) → starred_token prefix rest ≡ Some t → token.PrefixStar prefix ≡ t
starred-token prefix rest t e = by_test (goes_on (codes "::") rest) e
  where
    by_test : (b : Bool) → (if b then None else Some (token.PrefixStar prefix)) ≡ Some t → token.PrefixStar prefix ≡ t
    by_test true found = absurd (cc)
    by_test false found = some-same (token.PrefixStar prefix) t found

name-lexed : {name : List ℕ} {t : Token} → NameToken name t → IsQname name → Lexed t
name-lexed (is_function none) n = (n, none)
name-lexed (is_node_type k) n = tt
name-lexed (is_axis a) n = tt
name-lexed is_name n = n

name-no-operator : {name : List ℕ} {t : Token} → NameToken name t → name_like_token t ≡ false
name-no-operator (is_function none) = refl
name-no-operator (is_node_type k) = refl
name-no-operator (is_axis a) = refl
name-no-operator is_name = refl

-- ---- symbols

symbols-lexed : Each (λ text t. Lexed t) symbols
symbols-lexed = (tt, (tt, (tt, (tt, (tt, (tt, (tt, (tt, (tt, (tt, (tt, (tt, (tt, (tt, (tt, (tt, (tt, (tt, (tt, (tt, tt))))))))))))))))))))

symbols-no-operator : Each (λ text t. name_like_token t ≡ false) symbols
symbols-no-operator =
    (refl, (refl, (refl, (refl, (refl, (refl, (refl, (refl, (refl, (refl, (refl, (refl, (refl, (refl, (refl, (refl, (refl, (refl, (refl, (refl, tt))))))))))))))))))))

operator-names-lexed : Each (λ text t. Lexed t) operator_names
operator-names-lexed = (tt, (tt, (tt, (tt, tt))))

-- ---- tokens

token-lexed : (b : Bool) {bytes : List ℕ} {l : Lexeme} → IsLexeme bytes l → (rest : List ℕ) (t : Token) → token_of b l rest ≡ Some t → Lexed t
token-lexed b (symbol_lexeme bytes s h) rest t e =
    subst Lexed (some-same s t e) (named-each (λ text x. Lexed x) symbols symbols-lexed bytes s h)
token-lexed true star_lexeme rest t e = subst Lexed (some-same _ t e) tt
token-lexed false star_lexeme rest t e = subst Lexed (some-same token.Star t e) tt
token-lexed b (literal_lexeme bytes value q is none h) rest t e =
    subst Lexed (some-same (token.Literal value) t e) (record { quote = q; is = is; none = none })
token-lexed b (number_lexeme bytes n) rest t e = subst Lexed (some-same (token.Number bytes) t e) n
token-lexed b (variable_lexeme name n) rest t e = subst Lexed (some-same (token.Variable name) t e) (inl n)
token-lexed b (prefixed_variable_lexeme name n) rest t e = subst Lexed (some-same (token.Variable name) t e) (inr n)
token-lexed true (name_lexeme bytes n) rest t e = named-each (λ text x. Lexed x) operator_names operator-names-lexed bytes t e
token-lexed false (name_lexeme bytes n) rest t e = name-lexed (name-token bytes rest t e) (inl n)
token-lexed true (prefixed_name_lexeme bytes n) rest t e = subst Lexed (some-same (token.Name bytes) t e) (inr n)
token-lexed false (prefixed_name_lexeme bytes n) rest t e = name-lexed (name-token bytes rest t e) (inr n)
token-lexed true (prefix_star_lexeme bytes prefix h n) rest t e = subst Lexed (some-same (token.PrefixStar prefix) t e) n
token-lexed false (prefix_star_lexeme bytes prefix h n) rest t e = subst Lexed (starred-token prefix rest t e) n

abbrev IsNoOperator : Token → Type 0
IsNoOperator t = name_like_token t ≡ false

token-no-operator : {bytes : List ℕ} {l : Lexeme} → IsLexeme bytes l → (rest : List ℕ) (t : Token) → token_of false l rest ≡ Some t → name_like_token t ≡ false
token-no-operator (symbol_lexeme bytes s h) rest t e =
    subst IsNoOperator (some-same s t e) (named-each (λ text x. name_like_token x ≡ false) symbols symbols-no-operator bytes s h)
token-no-operator star_lexeme rest t e = subst IsNoOperator (some-same token.Star t e) refl
token-no-operator (literal_lexeme bytes value q is none h) rest t e = subst IsNoOperator (some-same (token.Literal value) t e) refl
token-no-operator (number_lexeme bytes n) rest t e = subst IsNoOperator (some-same (token.Number bytes) t e) refl
token-no-operator (variable_lexeme name n) rest t e = subst IsNoOperator (some-same (token.Variable name) t e) refl
token-no-operator (prefixed_variable_lexeme name n) rest t e = subst IsNoOperator (some-same (token.Variable name) t e) refl
token-no-operator (name_lexeme bytes n) rest t e = name-no-operator (name-token bytes rest t e)
token-no-operator (prefixed_name_lexeme bytes n) rest t e = name-no-operator (name-token bytes rest t e)
token-no-operator (prefix_star_lexeme bytes prefix h n) rest t e = subst IsNoOperator (starred-token prefix rest t e) refl

read-no-operator : (b : Bool) (text bytes rest : List ℕ) (t : Token) → IsRead b text bytes rest t → b ≡ false → name_like_token t ≡ false
read-no-operator b text bytes rest t r is =
    token-no-operator r.longest.is rest t (subst (λ x. token_of x r.lexeme rest ≡ Some t) is r.token)

first-no-operator : {b : Bool} {offset : ℕ} {text : List ℕ} {s : List Placed} {whole : Bool} {end : ℕ} → TokensFrom b offset text s whole end →
    b ≡ false → BeginsNameLike s → ⊥
first-no-operator (at_end b offset) is begins = absurd begins
first-no-operator (whitespace b offset c text tokens whole end space T) is begins = first-no-operator T is begins
first-no-operator (one_token b offset text bytes rest t tokens whole end r T) is (o, same, named) =
    let none = read-no-operator b text bytes rest t r is in
    let like : name_like_token t ≡ true = ap name_like_token same ∙ named in cc
first-no-operator (bad_token b offset c text space none) is begins = absurd begins

-- the tokens of a text are made as lexemes are, and none of them is misread after `/`
pub tokens-sound : {b : Bool} {offset : ℕ} {text : List ℕ} {s : List Placed} {whole : Bool} {end : ℕ} → TokensFrom b offset text s whole end → Sound Lexed s
tokens-sound (at_end b offset) = tt
tokens-sound (whitespace b offset c text tokens whole end space T) = tokens-sound T
tokens-sound (one_token b offset text bytes rest t tokens whole end r T) =
    (token-lexed b r.longest.is rest t r.token, λ slash begins. first-no-operator T (ap ends_operand slash) begins, tokens-sound T)
tokens-sound (bad_token b offset c text space none) = tt
