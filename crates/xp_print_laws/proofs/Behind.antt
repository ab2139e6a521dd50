-- What may stand after a printed operand, and the tokens of it.
use Rattle.std.proofs.Common.{◌≡◌, ℕ, zero, suc, Bool, true, false, List, [], ◌∷◌, ◌++◌, codes, replicate, ◌==◌, Some, refl, sym, subst, append_assoc}
use Rattle.sch_base.specs.Characters.{is_name_start, is_name_char, is_whitespace}
use Rattle.xp_tree.specs.declared.terms.AxisName.{AxisName}
use Rattle.xp_tree.specs.declared.terms.AxisName.TheVariants as axes
use Rattle.xp_tree.specs.declared.terms.Operator.{Operator}
use Rattle.xp_tree.specs.declared.terms.Operator.TheVariants as operators
use Rattle.xp_tree.specs.declared.terms.StepTest.{StepTest}
use Rattle.xp_tree.specs.declared.terms.StepTest.TheVariants as test
use Rattle.xp_grammar.specs.declared.token.NodeType.{NodeType}
use Rattle.xp_grammar.specs.declared.token.NodeType.TheVariants as node_type
use Rattle.xp_grammar.specs.declared.token.Token.{Token}
use Rattle.xp_grammar.specs.declared.token.Token.TheVariants as token
use Rattle.std.specs.List.{list_any}
use Rattle.xp_lexicon.specs.Lexicon.{symbols, ends_operand, goes_on}
use Rattle.sch_base.specs.Named.{named}
use Rattle.xp_print.specs.Printed.{operator_text, is_name_like, test_text, quoted}
use Rattle.xp_tree.specs.AxisNames.{axis_text}
use Rattle.xp_print_laws.specs.PrintedTokens.{test_tokens}
use Rattle.xp_print_laws.proofs.Fits.{FitsTest, fits_star, fits_prefix, fits_named, fits_node, fits_chars, fits_comment, fits_pi, fits_target}
use Rattle.xp_print_laws.proofs.Longest.{no_pair, stops}
use Rattle.xp_print_laws.proofs.Lexed.{Lexed}
use Rattle.xp_print_laws.proofs.Words.{type_text, or-is-name, and-is-name, div-is-name, mod-is-name}
use Rattle.xp_print_laws.proofs.Texts.{ReadsAs, plain_signs, reads_none, reads_space, sign_reads, pair_reads, star_reads, times_reads, literal_reads, name_reads, type_reads, starred_reads, word_reads}

-- a text after an operand goes on with none of its bytes, and has these tokens
pub record After (rest : List ℕ) (ts : List Token) : Type 0 where
  pub stops : stops rest ≡ true
  pub not_called : goes_on (codes "(") rest ≡ false
  pub not_axis : goes_on (codes "::") rest ≡ false
  pub reads : ReadsAs true rest ts

-- the same, with what `/` alone asks of it, if it can stand there
pub record Behind (named base : Bool) (rest : List ℕ) (ts : List Token) : Type 0 where
  pub after : After rest ts
  pub root : named ≡ false → ReadsAs false rest ts
  pub slash : base ≡ false → no_pair 47 rest ≡ true

-- ---- sums of texts and of tokens

pub text_joined : {b : Bool} (x y z : List ℕ) {ts : List Token} → ReadsAs b (x ++ (y ++ z)) ts → ReadsAs b ((x ++ y) ++ z) ts
text_joined {b} x y z {ts} on = subst (λ t. ReadsAs b t ts) (sym (append_assoc x y z)) on

pub tokens_joined : {b : Bool} {text : List ℕ} (x y z : List Token) → ReadsAs b text (x ++ (y ++ z)) → ReadsAs b text ((x ++ y) ++ z)
tokens_joined {b} {text} x y z on = subst (λ t. ReadsAs b text t) (sym (append_assoc x y z)) on

pub joined : {b : Bool} (x y z : List ℕ) (u v w : List Token) → ReadsAs b (x ++ (y ++ z)) (u ++ (v ++ w)) → ReadsAs b ((x ++ y) ++ z) ((u ++ v) ++ w)
joined {b} x y z u v w on = tokens_joined u v w (text_joined x y z on)

-- ---- signs that no other sign follows

pub alone-40 : (rest : List ℕ) → no_pair 40 rest ≡ true
alone-40 [] = refl
alone-40 (c ∷ r) = refl

pub alone-41 : (rest : List ℕ) → no_pair 41 rest ≡ true
alone-41 [] = refl
alone-41 (c ∷ r) = refl

pub alone-91 : (rest : List ℕ) → no_pair 91 rest ≡ true
alone-91 [] = refl
alone-91 (c ∷ r) = refl

pub alone-93 : (rest : List ℕ) → no_pair 93 rest ≡ true
alone-93 [] = refl
alone-93 (c ∷ r) = refl

pub alone-45 : (rest : List ℕ) → no_pair 45 rest ≡ true
alone-45 [] = refl
alone-45 (c ∷ r) = refl

pub slash-before-axis : (a : AxisName) (rest : List ℕ) → no_pair 47 (axis_text a ++ rest) ≡ true
slash-before-axis axes.Ancestor rest = refl
slash-before-axis axes.AncestorOrSelf rest = refl
slash-before-axis axes.Attribute rest = refl
slash-before-axis axes.Child rest = refl
slash-before-axis axes.Descendant rest = refl
slash-before-axis axes.DescendantOrSelf rest = refl
slash-before-axis axes.Following rest = refl
slash-before-axis axes.FollowingSibling rest = refl
slash-before-axis axes.Namespace rest = refl
slash-before-axis axes.Parent rest = refl
slash-before-axis axes.Preceding rest = refl
slash-before-axis axes.PrecedingSibling rest = refl
slash-before-axis axes.SelfNode rest = refl

-- ---- brackets and commas

pub open_reads : (b : Bool) (rest : List ℕ) (ts : List Token) → ReadsAs false rest ts → ReadsAs b (40 ∷ rest) (token.OpenParen ∷ ts)
open_reads b rest ts on = sign_reads b 40 token.OpenParen rest ts refl refl (alone-40 rest) on

pub close_reads : (b : Bool) (rest : List ℕ) (ts : List Token) → ReadsAs true rest ts → ReadsAs b (41 ∷ rest) (token.CloseParen ∷ ts)
close_reads b rest ts on = sign_reads b 41 token.CloseParen rest ts refl refl (alone-41 rest) on

pub bracket_reads : (b : Bool) (rest : List ℕ) (ts : List Token) → ReadsAs false rest ts → ReadsAs b (91 ∷ rest) (token.OpenBracket ∷ ts)
bracket_reads b rest ts on = sign_reads b 91 token.OpenBracket rest ts refl refl (alone-91 rest) on

pub signs_read : (count : ℕ) (text : List ℕ) (ts : List Token) → ReadsAs false text ts →
    ReadsAs false (replicate count 45 ++ text) (replicate count (token.Operator operators.Minus) ++ ts)
signs_read zero text ts on = on
signs_read (suc count) text ts on =
    sign_reads false 45 (token.Operator operators.Minus) (replicate count 45 ++ text) (replicate count (token.Operator operators.Minus) ++ ts) refl refl
    (alone-45 (replicate count 45 ++ text)) (signs_read count text ts on)

pub nothing_behind : {base : Bool} (named : Bool) → Behind named base [] []
nothing_behind named = record {
  after = record { stops = refl; not_called = refl; not_axis = refl; reads = reads_none true };
  root = λ _. reads_none false;
  slash = λ _. refl;
}

pub close_behind : {base : Bool} (rest : List ℕ) (ts : List Token) → ReadsAs true rest ts → Behind false base (41 ∷ rest) (token.CloseParen ∷ ts)
unfolding is_name_char is_name_start is_whitespace
close_behind rest ts on = record {
  after = record { stops = refl; not_called = refl; not_axis = refl; reads = close_reads true rest ts on };
  root = λ _. close_reads false rest ts on;
  slash = λ _. refl;
}

pub close_bracket_behind : {base : Bool} (rest : List ℕ) (ts : List Token) → ReadsAs true rest ts → Behind false base (93 ∷ rest) (token.CloseBracket ∷ ts)
unfolding is_name_char is_name_start is_whitespace
close_bracket_behind rest ts on = record {
  after = record { stops = refl; not_called = refl; not_axis = refl; reads = sign_reads true 93 token.CloseBracket rest ts refl refl (alone-93 rest) on };
  root = λ _. sign_reads false 93 token.CloseBracket rest ts refl refl (alone-93 rest) on;
  slash = λ _. refl;
}

pub comma_behind : {base : Bool} (rest : List ℕ) (ts : List Token) → ReadsAs false rest ts → Behind false base (44 ∷ 32 ∷ rest) (token.Comma ∷ ts)
unfolding is_name_char is_name_start is_whitespace
comma_behind rest ts on = record {
  after = record { stops = refl; not_called = refl; not_axis = refl; reads = sign_reads true 44 token.Comma (32 ∷ rest) ts refl refl refl (reads_space false rest ts on) };
  root = λ _. sign_reads false 44 token.Comma (32 ∷ rest) ts refl refl refl (reads_space false rest ts on);
  slash = λ _. refl;
}

pub bracket_behind : (rest : List ℕ) (ts : List Token) → ReadsAs false rest ts → Behind false true (91 ∷ rest) (token.OpenBracket ∷ ts)
unfolding is_name_char is_name_start is_whitespace
bracket_behind rest ts on = record {
  after = record { stops = refl; not_called = refl; not_axis = refl; reads = bracket_reads true rest ts on };
  root = λ _. bracket_reads false rest ts on;
  slash = λ h. refl;
}

pub slash_behind : (rest : List ℕ) (ts : List Token) → no_pair 47 rest ≡ true → ReadsAs false rest ts → Behind false true (47 ∷ rest) (token.Slash ∷ ts)
unfolding is_name_char is_name_start is_whitespace
slash_behind rest ts single on = record {
  after = record { stops = refl; not_called = refl; not_axis = refl; reads = sign_reads true 47 token.Slash rest ts refl refl single on };
  root = λ _. sign_reads false 47 token.Slash rest ts refl refl single on;
  slash = λ h. absurd (cc);
}

-- ---- operators

-- signs between spaces
spaced_behind : {named : Bool} (text : List ℕ) (ts : List Token) → ((b : Bool) → ReadsAs b (32 ∷ text) ts) →
    goes_on (codes "(") (32 ∷ text) ≡ false → goes_on (codes "::") (32 ∷ text) ≡ false → Behind named false (32 ∷ text) ts
unfolding is_name_char is_name_start
spaced_behind text ts on called axis = record {
  after = record { stops = refl; not_called = called; not_axis = axis; reads = on true };
  root = λ _. on false;
  slash = λ _. refl;
}

-- a word between spaces, or `*`, which only an operand may stand before
named_behind : (text : List ℕ) (ts : List Token) → ReadsAs true (32 ∷ text) ts →
    goes_on (codes "(") (32 ∷ text) ≡ false → goes_on (codes "::") (32 ∷ text) ≡ false → Behind true false (32 ∷ text) ts
unfolding is_name_char is_name_start
named_behind text ts on called axis = record {
  after = record { stops = refl; not_called = called; not_axis = axis; reads = on };
  root = λ h. absurd (cc);
  slash = λ _. refl;
}

sign_spaced : (c : ℕ) (t : Token) (rest : List ℕ) (ts : List Token) → named symbols (c ∷ []) ≡ Some t → list_any (λ x. c == x) plain_signs ≡ true →
    no_pair c (32 ∷ rest) ≡ true → ends_operand t ≡ false → ReadsAs false rest ts → (b : Bool) → ReadsAs b (32 ∷ c ∷ 32 ∷ rest) (t ∷ ts)
sign_spaced c t rest ts is plain single ends on b =
    reads_space b (c ∷ 32 ∷ rest) (t ∷ ts)
    (sign_reads b c t (32 ∷ rest) ts is plain single (subst (λ e. ReadsAs e (32 ∷ rest) ts) (sym ends) (reads_space false rest ts on)))

pair_spaced : (c d : ℕ) (t : Token) (rest : List ℕ) (ts : List Token) → named symbols (c ∷ d ∷ []) ≡ Some t → list_any (λ x. c == x) plain_signs ≡ true →
    ends_operand t ≡ false → ReadsAs false rest ts → (b : Bool) → ReadsAs b (32 ∷ c ∷ d ∷ 32 ∷ rest) (t ∷ ts)
pair_spaced c d t rest ts is plain ends on b =
    reads_space b (c ∷ d ∷ 32 ∷ rest) (t ∷ ts)
    (pair_reads b c d t (32 ∷ rest) ts is plain (subst (λ e. ReadsAs e (32 ∷ rest) ts) (sym ends) (reads_space false rest ts on)))

pub operator_behind : (o : Operator) (rest : List ℕ) (ts : List Token) → ReadsAs false rest ts → Behind (is_name_like o) false (operator_text o ++ rest) (token.Operator o ∷ ts)
unfolding is_whitespace
operator_behind operators.Or rest ts on =
    named_behind (codes "or" ++ (32 ∷ rest)) (token.Operator operators.Or ∷ ts)
    (reads_space true (codes "or" ++ (32 ∷ rest)) (token.Operator operators.Or ∷ ts) (word_reads (codes "or") rest (token.Operator operators.Or) ts or-is-name refl (reads_space false rest ts on))) refl refl
operator_behind operators.And rest ts on =
    named_behind (codes "and" ++ (32 ∷ rest)) (token.Operator operators.And ∷ ts)
    (reads_space true (codes "and" ++ (32 ∷ rest)) (token.Operator operators.And ∷ ts) (word_reads (codes "and") rest (token.Operator operators.And) ts and-is-name refl (reads_space false rest ts on))) refl refl
operator_behind operators.Div rest ts on =
    named_behind (codes "div" ++ (32 ∷ rest)) (token.Operator operators.Div ∷ ts)
    (reads_space true (codes "div" ++ (32 ∷ rest)) (token.Operator operators.Div ∷ ts) (word_reads (codes "div") rest (token.Operator operators.Div) ts div-is-name refl (reads_space false rest ts on))) refl refl
operator_behind operators.Mod rest ts on =
    named_behind (codes "mod" ++ (32 ∷ rest)) (token.Operator operators.Mod ∷ ts)
    (reads_space true (codes "mod" ++ (32 ∷ rest)) (token.Operator operators.Mod ∷ ts) (word_reads (codes "mod") rest (token.Operator operators.Mod) ts mod-is-name refl (reads_space false rest ts on))) refl refl
operator_behind operators.Times rest ts on =
    named_behind (42 ∷ 32 ∷ rest) (token.Operator operators.Times ∷ ts)
    (reads_space true (42 ∷ 32 ∷ rest) (token.Operator operators.Times ∷ ts) (times_reads (32 ∷ rest) ts (reads_space false rest ts on))) refl refl
operator_behind operators.Equal rest ts on =
    spaced_behind (61 ∷ 32 ∷ rest) (token.Operator operators.Equal ∷ ts) (sign_spaced 61 (token.Operator operators.Equal) rest ts refl refl refl refl on) refl refl
operator_behind operators.NotEqual rest ts on =
    spaced_behind (33 ∷ 61 ∷ 32 ∷ rest) (token.Operator operators.NotEqual ∷ ts) (pair_spaced 33 61 (token.Operator operators.NotEqual) rest ts refl refl refl on) refl refl
operator_behind operators.Less rest ts on =
    spaced_behind (60 ∷ 32 ∷ rest) (token.Operator operators.Less ∷ ts) (sign_spaced 60 (token.Operator operators.Less) rest ts refl refl refl refl on) refl refl
operator_behind operators.AtMost rest ts on =
    spaced_behind (60 ∷ 61 ∷ 32 ∷ rest) (token.Operator operators.AtMost ∷ ts) (pair_spaced 60 61 (token.Operator operators.AtMost) rest ts refl refl refl on) refl refl
operator_behind operators.Greater rest ts on =
    spaced_behind (62 ∷ 32 ∷ rest) (token.Operator operators.Greater ∷ ts) (sign_spaced 62 (token.Operator operators.Greater) rest ts refl refl refl refl on) refl refl
operator_behind operators.AtLeast rest ts on =
    spaced_behind (62 ∷ 61 ∷ 32 ∷ rest) (token.Operator operators.AtLeast ∷ ts) (pair_spaced 62 61 (token.Operator operators.AtLeast) rest ts refl refl refl on) refl refl
operator_behind operators.Plus rest ts on =
    spaced_behind (43 ∷ 32 ∷ rest) (token.Operator operators.Plus ∷ ts) (sign_spaced 43 (token.Operator operators.Plus) rest ts refl refl refl refl on) refl refl
operator_behind operators.Minus rest ts on =
    spaced_behind (45 ∷ 32 ∷ rest) (token.Operator operators.Minus ∷ ts) (sign_spaced 45 (token.Operator operators.Minus) rest ts refl refl refl refl on) refl refl
operator_behind operators.Union rest ts on =
    spaced_behind (124 ∷ 32 ∷ rest) (token.Operator operators.Union ∷ ts) (sign_spaced 124 (token.Operator operators.Union) rest ts refl refl refl refl on) refl refl

-- ---- node tests

-- a node type without a literal
type_alone : (k : NodeType) (rest : List ℕ) (ts : List Token) → ReadsAs true rest ts →
    ReadsAs false (type_text k ++ (40 ∷ 41 ∷ rest)) (token.NodeType k ∷ token.OpenParen ∷ token.CloseParen ∷ ts)
type_alone k rest ts on =
    type_reads k (41 ∷ rest) (token.OpenParen ∷ token.CloseParen ∷ ts) (open_reads true (41 ∷ rest) (token.CloseParen ∷ ts) (close_reads false rest ts on))

pub test_reads : {k : StepTest} → FitsTest Lexed k → (rest : List ℕ) (ts : List Token) → After rest ts → ReadsAs false (test_text k ++ rest) (test_tokens k ++ ts)
test_reads fits_star rest ts a = star_reads rest ts a.reads
test_reads (fits_prefix prefix known) rest ts a = starred_reads prefix rest ts known a.not_axis a.reads
test_reads (fits_named prefix local known is) rest ts a =
    name_reads (test_text (test.Named prefix local)) rest ts known a.stops a.not_called a.not_axis a.reads
test_reads fits_node rest ts a = type_alone node_type.Node rest ts a.reads
test_reads fits_chars rest ts a = type_alone node_type.Chars rest ts a.reads
test_reads fits_comment rest ts a = type_alone node_type.Comment rest ts a.reads
test_reads fits_pi rest ts a = type_alone node_type.Pi rest ts a.reads
test_reads (fits_target target known) rest ts a =
    type_reads node_type.Pi ((quoted target ++ (41 ∷ [])) ++ rest) (token.OpenParen ∷ token.Literal target ∷ token.CloseParen ∷ ts)
    (open_reads true ((quoted target ++ (41 ∷ [])) ++ rest) (token.Literal target ∷ token.CloseParen ∷ ts)
    (text_joined (quoted target) (41 ∷ []) rest (literal_reads false target (41 ∷ rest) (token.CloseParen ∷ ts) known (close_reads true rest ts a.reads))))
