-- Escapes undone: of an escaped text, and of a text cut at its first backslash.
use Rattle.std.proofs.Common.{◌≡◌, ◌≢◌, ℕ, suc, ◌+◌, ◌<◌, Bool, true, false, cond, not, nat_eq, nat_lt, subst, ◌≤◌, List, [], ◌∷◌, ◌++◌, length, take, drop, refl, sym, ap, ◌∙◌, append_assoc, arith}
use Rattle.std.specs.List.{position_or_len, before_first, after_first, All}
use Rattle.std.proofs.lemmas.Bool.{eqb-true, eq-eqb, ltb-true, ltb-false}
use Rattle.std.proofs.lemmas.Str.{encode_ascii, inside_one, len_utf8_bounds, length-encode}
use Rattle.std.specs.Char.{encode_utf8, len_utf8}
use Rattle.std.proofs.lemmas.Bool.Decides.{nat_tests}
use Rattle.std.proofs.lemmas.List.Elements.{All-nil, All-cons, All-append}
use Rattle.pyx_core.specs.Escapes.{escape_of, escaped, undone, unescaped, unescaped_after}

-- one byte written and undone
undone_byte : (byte : ℕ) (rest : List ℕ) → unescaped (escape_of byte ++ rest) ≡ byte ∷ unescaped rest
undone_byte byte rest =
    elim (nat_eq byte 10) as (λ v. nat_eq byte 10 ≡ v → unescaped ((cond v (92 ∷ 110 ∷ []) (cond (nat_eq byte 9) (92 ∷ 116 ∷ []) (cond (nat_eq byte 13) (92 ∷ 114 ∷ []) (cond (nat_eq byte 92) (92 ∷ 92 ∷ []) (byte ∷ []))))) ++ rest) ≡ byte ∷ unescaped rest) [
      | true ↦ λ e. ap (λ n. n ∷ unescaped rest) (sym (eqb-true byte 10 e))
      | false ↦ λ _. elim (nat_eq byte 9) as (λ v. nat_eq byte 9 ≡ v → unescaped ((cond v (92 ∷ 116 ∷ []) (cond (nat_eq byte 13) (92 ∷ 114 ∷ []) (cond (nat_eq byte 92) (92 ∷ 92 ∷ []) (byte ∷ [])))) ++ rest) ≡ byte ∷ unescaped rest) [
        | true ↦ λ e. ap (λ n. n ∷ unescaped rest) (sym (eqb-true byte 9 e))
        | false ↦ λ _. elim (nat_eq byte 13) as (λ v. nat_eq byte 13 ≡ v → unescaped ((cond v (92 ∷ 114 ∷ []) (cond (nat_eq byte 92) (92 ∷ 92 ∷ []) (byte ∷ []))) ++ rest) ≡ byte ∷ unescaped rest) [
          | true ↦ λ e. ap (λ n. n ∷ unescaped rest) (sym (eqb-true byte 13 e))
          | false ↦ λ _. elim (nat_eq byte 92) as (λ v. nat_eq byte 92 ≡ v → unescaped ((cond v (92 ∷ 92 ∷ []) (byte ∷ [])) ++ rest) ≡ byte ∷ unescaped rest) [
            | true ↦ λ e. ap (λ n. n ∷ unescaped rest) (sym (eqb-true byte 92 e))
            | false ↦ λ e. ap (λ v. cond v (unescaped_after true rest) (byte ∷ unescaped rest)) e
          ] refl
        ] refl
      ] refl
    ] refl

pub unescaped-escaped : (text : List ℕ) → unescaped (escaped text) ≡ text
unescaped-escaped [] = refl
unescaped-escaped (byte ∷ text) = undone_byte byte (escaped text) ∙ ap (λ l. byte ∷ l) (unescaped-escaped text)

-- one byte more before the first backslash, or the backslash
split_step : (byte : ℕ) (text : List ℕ) (n : ℕ) (v : Bool) → v ≡ nat_eq byte 92 →
    (n < length text → unescaped text ≡ take n text ++ unescaped_after true (drop (n + 1) text)) →
    cond (not v) (1 + n) 0 < length (byte ∷ text) →
    unescaped (byte ∷ text) ≡ take (cond (not v) (1 + n) 0) (byte ∷ text) ++ unescaped_after true (drop (cond (not v) (1 + n) 0 + 1) (byte ∷ text))
split_step byte text n true e rest h = ap (λ v. cond v (unescaped_after true text) (byte ∷ unescaped text)) (sym e)
split_step byte text n false e rest h =
    let one : 1 + n ≡ suc n = omega arith in
    let two : suc n + 1 ≡ suc (n + 1) = omega arith in
    let less : n < length text = omega arith in
    ap (λ v. cond v (unescaped_after true text) (byte ∷ unescaped text)) (sym e) ∙ rw (one, two) (ap (λ l. byte ∷ l) (rest less))

-- a text up to its first backslash, and from there on
pub unescaped_split : (text : List ℕ) → position_or_len (λ byte. nat_eq byte 92) text < length text →
    unescaped text ≡ before_first (λ byte. nat_eq byte 92) text ++ unescaped_after true (after_first (λ byte. nat_eq byte 92) text)
unescaped_split [] h = absurd (omega arith)
unescaped_split (byte ∷ text) h = split_step byte text (position_or_len (λ b. nat_eq b 92) text) (nat_eq byte 92) refl (unescaped_split text) h

whole_step : (byte : ℕ) (text : List ℕ) (n : ℕ) (v : Bool) → v ≡ nat_eq byte 92 → (n ≡ length text → unescaped text ≡ text) →
    cond (not v) (1 + n) 0 ≡ length (byte ∷ text) → unescaped (byte ∷ text) ≡ byte ∷ text
whole_step byte text n true e rest h = absurd (omega arith)
whole_step byte text n false e rest h =
    let all : n ≡ length text = omega arith in
    ap (λ v. cond v (unescaped_after true text) (byte ∷ unescaped text)) (sym e) ∙ ap (λ l. byte ∷ l) (rest all)

-- a text without a backslash
pub unescaped_whole : (text : List ℕ) → position_or_len (λ byte. nat_eq byte 92) text ≡ length text → unescaped text ≡ text
unescaped_whole [] h = refl
unescaped_whole (byte ∷ text) h = whole_step byte text (position_or_len (λ b. nat_eq b 92) text) (nat_eq byte 92) refl (unescaped_whole text) h

one : (a : ℕ) → a ≢ 10 → All (λ b. b ≢ 10) (a ∷ [])
one a p = All-cons (λ b. b ≢ 10) a [] p (All-nil (λ b. b ≢ 10))

two : (a c : ℕ) → a ≢ 10 → c ≢ 10 → All (λ b. b ≢ 10) (a ∷ c ∷ [])
two a c p q = All-cons (λ b. b ≢ 10) a (c ∷ []) p (one c q)

not_same : (a : ℕ) → a ≡ 10 → nat_eq a 10 ≡ false → ⊥
not_same a same e = let yes_it_is : nat_eq a 10 ≡ true = eq-eqb a 10 same in cc

-- no byte is written with a line end
no_line_end_of : (byte : ℕ) → All (λ b. b ≢ 10) (escape_of byte)
no_line_end_of byte =
    elim (nat_eq byte 10) as (λ v. nat_eq byte 10 ≡ v → All (λ b. b ≢ 10) (cond v (92 ∷ 110 ∷ []) (cond (nat_eq byte 9) (92 ∷ 116 ∷ []) (cond (nat_eq byte 13) (92 ∷ 114 ∷ []) (cond (nat_eq byte 92) (92 ∷ 92 ∷ []) (byte ∷ [])))))) [
      | true ↦ λ _. two 92 110 (λ e. absurd (omega (arith, e))) (λ e. absurd (omega (arith, e)))
      | false ↦ λ e. elim (nat_eq byte 9) as (λ v. All (λ b. b ≢ 10) (cond v (92 ∷ 116 ∷ []) (cond (nat_eq byte 13) (92 ∷ 114 ∷ []) (cond (nat_eq byte 92) (92 ∷ 92 ∷ []) (byte ∷ []))))) [
        | true ↦ two 92 116 (λ e. absurd (omega (arith, e))) (λ e. absurd (omega (arith, e)))
        | false ↦ elim (nat_eq byte 13) as (λ v. All (λ b. b ≢ 10) (cond v (92 ∷ 114 ∷ []) (cond (nat_eq byte 92) (92 ∷ 92 ∷ []) (byte ∷ [])))) [
          | true ↦ two 92 114 (λ e. absurd (omega (arith, e))) (λ e. absurd (omega (arith, e)))
          | false ↦ elim (nat_eq byte 92) as (λ v. All (λ b. b ≢ 10) (cond v (92 ∷ 92 ∷ []) (byte ∷ []))) [
            | true ↦ two 92 92 (λ e. absurd (omega (arith, e))) (λ e. absurd (omega (arith, e)))
            | false ↦ one byte (λ same. not_same byte same e)
          ]
        ]
      ]
    ] refl

pub no_line_end : (text : List ℕ) → All (λ byte. byte ≢ 10) (escaped text)
no_line_end [] = All-nil (λ b. b ≢ 10)
no_line_end (byte ∷ text) = All-append (λ b. b ≢ 10) (escape_of byte) (escaped text) (no_line_end_of byte) (no_line_end text)

is_escape : (byte : ℕ) → byte ≡ 92 → undone byte ≡ 92 ∷ byte ∷ [] → ⊥
is_escape byte is e = let f : ◌≡◌ {A = List ℕ} (92 ∷ []) (92 ∷ 92 ∷ []) = subst (λ n. undone n ≡ 92 ∷ n ∷ []) is e in cc

differs : (a b : ℕ) → b < a → nat_eq a b ≡ false
differs a b less = grind (arith, nat_tests)

-- bytes past ASCII stand in no escape
pub past_ascii : (byte : ℕ) → 128 ≤ byte → undone byte ≡ 92 ∷ byte ∷ []
past_ascii byte high =
    let a : nat_eq byte 110 ≡ false = differs byte 110 (omega arith) in
    let b : nat_eq byte 116 ≡ false = differs byte 116 (omega arith) in
    let c : nat_eq byte 114 ≡ false = differs byte 114 (omega arith) in
    let d : nat_eq byte 92 ≡ false = differs byte 92 (omega arith) in
    rw (a, b, c, d) refl

-- a byte that no escape has
no_escape : (byte : ℕ) (rest : List ℕ) → undone byte ≡ 92 ∷ byte ∷ [] → unescaped_after true (byte ∷ rest) ≡ 92 ∷ unescaped (byte ∷ rest)
no_escape byte rest e =
    ap (λ l. l ++ unescaped rest) e ∙ elim (nat_eq byte 92) as (λ v. nat_eq byte 92 ≡ v → 92 ∷ byte ∷ unescaped rest ≡ 92 ∷ cond v (unescaped_after true rest) (byte ∷ unescaped rest)) [
      | true ↦ λ same. absurd (is_escape byte (eqb-true byte 92 same) e)
      | false ↦ λ _. refl
    ] refl

no_escape_of_char : (mark : ℕ) (byte : ℕ) (bytes rest : List ℕ) (v : Bool) → nat_lt byte 128 ≡ v → byte ∷ bytes ≡ encode_utf8 mark → undone mark ≡ 92 ∷ mark ∷ [] → undone byte ≡ 92 ∷ byte ∷ []
no_escape_of_char mark byte bytes rest true low is e =
    let less : byte < 128 = ltb-true byte 128 low in
    let some : 0 < length (encode_utf8 mark) = subst (λ l. 0 < length l) is (omega arith) in
    let same : mark ≡ byte = inside_one mark rest ((byte ∷ bytes) ++ rest) 0 (ap (λ l. l ++ rest) is) some less in
    subst (λ n. undone n ≡ 92 ∷ n ∷ []) same e
no_escape_of_char mark byte bytes rest false high is e = past_ascii byte (ltb-false byte 128 high)

no_escape_in : (mark : ℕ) (bytes rest : List ℕ) → bytes ≡ encode_utf8 mark → undone mark ≡ 92 ∷ mark ∷ [] → unescaped_after true (bytes ++ rest) ≡ 92 ∷ unescaped (bytes ++ rest)
no_escape_in mark [] rest is e =
    let none : 0 ≡ len_utf8 mark = ap length is ∙ length-encode mark in
    absurd (omega (arith, len_utf8_bounds mark))
no_escape_in mark (byte ∷ bytes) rest is e = no_escape byte (bytes ++ rest) (no_escape_of_char mark byte bytes rest (nat_lt byte 128) refl is e)

-- before a character that is no escape's a backslash stands for itself
pub kept_backslash : (mark : ℕ) (text rest : List ℕ) → text ≡ encode_utf8 mark ++ rest → undone mark ≡ 92 ∷ mark ∷ [] → unescaped_after true text ≡ 92 ∷ unescaped text
kept_backslash mark text rest is e =
    let P : List ℕ → Type 0 = λ l. unescaped_after true l ≡ 92 ∷ unescaped l in
    subst P (sym is) (no_escape_in mark (encode_utf8 mark) rest refl e)

-- a character that makes an escape
pub escape_undone : (mark : ℕ) (text rest plain : List ℕ) → text ≡ encode_utf8 mark ++ rest → mark < 128 → plain ≡ undone mark → unescaped_after true text ≡ plain ++ unescaped rest
escape_undone mark text rest plain is low e =
    ap (unescaped_after true) (is ∙ ap (λ l. l ++ rest) (encode_ascii mark low)) ∙ ap (λ l. l ++ unescaped rest) (sym e)

-- one escape more is undone
pub unescaped_more : (text rest run after undoing later old mid new : List ℕ) → unescaped text ≡ old ++ unescaped rest →
    position_or_len (λ byte. nat_eq byte 92) rest < length rest → run ≡ before_first (λ byte. nat_eq byte 92) rest → after ≡ after_first (λ byte. nat_eq byte 92) rest →
    unescaped_after true after ≡ undoing ++ unescaped later → mid ≡ old ++ run → new ≡ mid ++ undoing → unescaped text ≡ new ++ unescaped later
unescaped_more text rest run after undoing later old mid new so_far found front back undone_is pushed pushed_more =
    so_far ∙ ap (λ l. old ++ l) (unescaped_split rest found ∙ ap (λ l. l ++ unescaped_after true (after_first (λ byte. nat_eq byte 92) rest)) (sym front)
    ∙ ap (λ l. run ++ l) (ap (unescaped_after true) (sym back) ∙ undone_is))
    ∙ sym (append_assoc old run (undoing ++ unescaped later)) ∙ ap (λ l. l ++ (undoing ++ unescaped later)) (sym pushed)
    ∙ sym (append_assoc mid undoing (unescaped later)) ∙ ap (λ l. l ++ unescaped later) (sym pushed_more)

-- a backslash at the end stands for itself
pub kept_at_end : (text : List ℕ) → length text ≡ 0 → unescaped_after true text ≡ 92 ∷ unescaped text
kept_at_end [] e = refl
kept_at_end (byte ∷ text) e = absurd (omega arith)
