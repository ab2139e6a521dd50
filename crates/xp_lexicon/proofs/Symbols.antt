-- Symbols in front of a text.
use Rattle.std.proofs.Common.{◌≡◌, ℕ, ◌<◌, ◌≤◌, Bool, true, false, ◌&&◌, cond, ltb, List, [], ◌∷◌, ◌++◌, length, Option, Some, None, refl, sym, ap, subst, ◌∙◌, arith}
use Rattle.std.specs.Prelude.{encode_utf8}
use Rattle.std.specs.List.{list_all}
use Rattle.std.specs.Str.{bytes_eq}
use Rattle.std.proofs.lemmas.Bool.{and_parts, ltb-true}
use Rattle.std.proofs.lemmas.Slice.Eq.{bytes_eq-Decides}
use Rattle.std.proofs.lemmas.Str.{encode_ascii, encode_same}
use Rattle.xp_grammar.specs.declared.token.Token.{Token}
use Rattle.xp_lexicon.specs.declared.lexeme.Lexeme.TheVariants as lexeme
use Rattle.xp_lexicon.specs.Lexicon.{symbols, symbol_lexeme}
use Rattle.sch_base.specs.Named.{named}
use Rattle.xp_lexicon.specs.inner.Scanning.{LongestOf, NoneOf, is_symbol}
use Rattle.xp_lexicon.proofs.Runs.{no_character}
use Rattle.xp_lexicon.proofs.Forms.{symbolic}

entry_passes : {A : Type 0} (test : List ℕ → Bool) (text key : List ℕ) (v t : A) (rest : Option A) (b : Bool) → bytes_eq text key ≡ b →
    cond b (Some v) rest ≡ Some t → test key ≡ true → (rest ≡ Some t → test text ≡ true) → test text ≡ true
entry_passes test text key v t rest true same found pass later =
    subst (λ k. test k ≡ true) (sym ((bytes_eq-Decides text key).0 same)) pass
entry_passes test text key v t rest false same found pass later = later found

-- what holds of each key of a table holds of each text that the table has
pub in_table : {A : Type 0} (test : List ℕ → Bool) (table : List (List ℕ × A)) (text : List ℕ) (t : A) →
    list_all (λ e. test e.0) table ≡ true → named table text ≡ Some t → test text ≡ true
in_table test [] text t pass found = absurd (cc)
in_table test (e ∷ table) text t pass found =
    let p = and_parts (test e.0) (list_all (λ e. test e.0) table) pass in
    entry_passes test text e.0 e.1 t (named table text) (bytes_eq text e.0) refl found p.0 (in_table test table text t p.1)

-- one or two ASCII characters
abbrev pub is_short : List ℕ → Bool
is_short [] = false
is_short (b ∷ []) = ltb b 128
is_short (b ∷ d ∷ []) = ltb b 128 && ltb d 128
is_short (b ∷ d ∷ e ∷ more) = false

pub symbols_are_short : (text : List ℕ) (t : Token) → named symbols text ≡ Some t → is_short text ≡ true
symbols_are_short text t found = in_table is_short symbols text t refl found

short_length : (text : List ℕ) → is_short text ≡ true → length text ≤ 2
short_length [] h = omega arith
short_length (b ∷ []) h = omega arith
short_length (b ∷ d ∷ []) h = omega arith
short_length (b ∷ d ∷ e ∷ more) h = absurd (cc)

pub symbols_take_two : (text : List ℕ) (t : Token) → named symbols text ≡ Some t → length text ≤ 2
symbols_take_two text t found = short_length text (symbols_are_short text t found)

-- no symbol of two signs stands in front
abbrev pub NoDouble : ℕ → List ℕ → Type 0
NoDouble first behind = (second : ℕ) (after : List ℕ) → behind ≡ encode_utf8 second ++ after → named symbols (first ∷ second ∷ []) ≡ None

pub no_double_at_end : (first : ℕ) (behind : List ℕ) → length behind ≡ 0 → NoDouble first behind
no_double_at_end first [] none = λ second after e. absurd (no_character second after e)
no_double_at_end first (b ∷ behind) none = absurd (omega arith)

pub no_double : (first second : ℕ) (behind rest : List ℕ) → behind ≡ encode_utf8 second ++ rest → None ≡ named symbols (first ∷ second ∷ []) →
    NoDouble first behind
no_double first second behind rest split none = λ d after e.
    subst (λ x. named symbols (first ∷ x ∷ []) ≡ None) (encode_same second d rest after (sym split ∙ e)).0 (sym none)

some_is_not : {A : Type 0} (x : A) (o : Option A) → o ≡ Some x → o ≡ None → ⊥
some_is_not x o is none = cc

two_refused : (first b d : ℕ) (behind after : List ℕ) (t : Token) → NoDouble first behind → b < 128 → d < 128 →
    encode_utf8 first ++ behind ≡ b ∷ d ∷ after → named symbols (b ∷ d ∷ []) ≡ Some t → ⊥
two_refused first b d behind after t none low low2 e found =
    let same = encode_same first b behind (d ∷ after) (e ∙ ap (λ l. l ++ d ∷ after) (sym (encode_ascii b low))) in
    some_is_not t (named symbols (b ∷ d ∷ [])) found
    (subst (λ x. named symbols (x ∷ d ∷ []) ≡ None) same.0 (none d after (same.1 ∙ ap (λ l. l ++ after) (sym (encode_ascii d low2)))))

one_refused : (first b : ℕ) (behind after : List ℕ) (t : Token) → named symbols (first ∷ []) ≡ None → b < 128 →
    encode_utf8 first ++ behind ≡ b ∷ after → named symbols (b ∷ []) ≡ Some t → ⊥
one_refused first b behind after t none low e found =
    let same = encode_same first b behind after (e ∙ ap (λ l. l ++ after) (sym (encode_ascii b low))) in
    some_is_not t (named symbols (b ∷ [])) found (subst (λ x. named symbols (x ∷ []) ≡ None) same.0 none)

takes_one : (first : ℕ) (behind text after : List ℕ) (t : Token) → NoDouble first behind → is_short text ≡ true → named symbols text ≡ Some t →
    encode_utf8 first ++ behind ≡ text ++ after → length text ≤ 1
takes_one first behind [] after t none short found e = omega arith
takes_one first behind (b ∷ []) after t none short found e = omega arith
takes_one first behind (b ∷ d ∷ []) after t none short found e =
    let p = and_parts _ _ short in
    absurd (two_refused first b d behind after t none (ltb-true b 128 p.0) (ltb-true d 128 p.1) e found)
takes_one first behind (b ∷ d ∷ x ∷ more) after t none short found e = absurd (cc)

takes_none : (first : ℕ) (behind text after : List ℕ) (t : Token) → NoDouble first behind → named symbols (first ∷ []) ≡ None →
    is_short text ≡ true → named symbols text ≡ Some t → encode_utf8 first ++ behind ≡ text ++ after → ⊥
takes_none first behind [] after t none none1 short found e = absurd (cc)
takes_none first behind (b ∷ []) after t none none1 short found e = one_refused first b behind after t none1 (ltb-true b 128 short) e found
takes_none first behind (b ∷ d ∷ []) after t none none1 short found e =
    let p = and_parts _ _ short in
    two_refused first b d behind after t none (ltb-true b 128 p.0) (ltb-true d 128 p.1) e found
takes_none first behind (b ∷ d ∷ x ∷ more) after t none none1 short found e = absurd (cc)

pub longest_double : (first second : ℕ) (behind rest : List ℕ) (t : Token) → behind ≡ encode_utf8 second ++ rest →
    Some t ≡ named symbols (first ∷ second ∷ []) → LongestOf is_symbol (encode_utf8 first ++ behind) rest (lexeme.Symbol t)
longest_double first second behind rest t split found =
    let p = and_parts _ _ (symbols_are_short (first ∷ second ∷ []) t (sym found)) in
    record {
      bytes = first ∷ second ∷ [];
      at_front = ap (λ l. l ++ behind) (encode_ascii first (ltb-true first 128 p.0))
          ∙ ap (λ l. first ∷ l) (split ∙ ap (λ l. l ++ rest) (encode_ascii second (ltb-true second 128 p.1)));
      is = symbol_lexeme (first ∷ second ∷ []) t (sym found);
      longest = λ more after m form e is. symbolic (λ bs _. length bs ≤ 2) (λ bs u known. symbols_take_two bs u known) more m form is;
    }

pub longest_single : (first : ℕ) (behind : List ℕ) (t : Token) → NoDouble first behind → Some t ≡ named symbols (first ∷ []) →
    LongestOf is_symbol (encode_utf8 first ++ behind) behind (lexeme.Symbol t)
longest_single first behind t none found =
    let low = symbols_are_short (first ∷ []) t (sym found) in
    record {
      bytes = first ∷ [];
      at_front = ap (λ l. l ++ behind) (encode_ascii first (ltb-true first 128 low));
      is = symbol_lexeme (first ∷ []) t (sym found);
      longest = λ more after m form e is.
          symbolic (λ bs _. encode_utf8 first ++ behind ≡ bs ++ after → length bs ≤ 1)
          (λ bs u known e. takes_one first behind bs after u none (symbols_are_short bs u known) known e) more m form is e;
    }

pub no_symbols : (first : ℕ) (behind : List ℕ) → NoDouble first behind → None ≡ named symbols (first ∷ []) →
    NoneOf is_symbol (encode_utf8 first ++ behind)
no_symbols first behind none none1 = λ more after m form e is.
    symbolic (λ bs _. encode_utf8 first ++ behind ≡ bs ++ after → ⊥)
    (λ bs u known e. takes_none first behind bs after u none (sym none1) (symbols_are_short bs u known) known e) more m form is e
