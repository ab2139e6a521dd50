-- The longest number in front of a text.
use Rattle.std.proofs.Common.{◌≡◌, ℕ, suc, ◌+◌, ◌<◌, ◌≤◌, true, List, [], ◌∷◌, ◌++◌, length, refl, sym, ap, subst, ◌∙◌, append_assoc, append-nil, arith, length-append, lit<}
use Rattle.std.specs.Prelude.{encode_utf8, encode_utf8_all}
use Rattle.std.specs.Char.{is_ascii_digit}
use Rattle.std.specs.List.{list_all}
use Rattle.std.specs.Str.{all_ascii_digits}
use Rattle.std.proofs.lemmas.Bool.{and_parts, and_from, both_ways}
use Rattle.std.proofs.lemmas.Bool.Decides.{nat_tests}
use Rattle.std.proofs.lemmas.List.{append_cancel_right}
use Rattle.std.proofs.lemmas.Str.{encode_ascii}
use Rattle.sch_base.specs.Fronts.{IsEnd}
use Rattle.xp_lexicon.specs.declared.lexeme.Lexeme.TheVariants as lexeme
use Rattle.xp_lexicon.specs.Lexicon.{are_digits, IsNumber, whole_number, ending_point, inner_point, leading_point, number_lexeme}
use Rattle.xp_lexicon.specs.inner.Scanning.{Stops, Ran, StartsWith, EndsNumber, with_point, without_point, NumberAt, LongestOf, NoneOf, is_number, is_pointed}
use Rattle.xp_lexicon.proofs.Runs.{stops_at_ascii}
use Rattle.xp_lexicon.proofs.Names.{Within, run_within}
use Rattle.xp_lexicon.proofs.Forms.{numbers, pointed}
use Rattle.xp_lexicon.proofs.Symbols.{symbols_take_two}

pub digit_is_low : (c : ℕ) → is_ascii_digit c ≡ true → c < 128
digit_is_low c h = grind (arith, nat_tests)

-- digits are their own bytes
pub digits_spell : (ds : List ℕ) → all_ascii_digits ds ≡ true → encode_utf8_all ds ≡ ds
digits_spell [] h = refl
digits_spell (d ∷ ds) h =
    let p = and_parts _ _ h in
    ap (λ l. l ++ encode_utf8_all ds) (encode_ascii d (digit_is_low d p.0)) ∙ ap (λ l. d ∷ l) (digits_spell ds p.1)

all_digits : (ds : List ℕ) → list_all is_ascii_digit ds ≡ true → all_ascii_digits ds ≡ true
all_digits [] h = refl
all_digits (d ∷ ds) h = let p = and_parts _ _ h in and_from _ _ p.0 (all_digits ds p.1)

digits_all : (ds : List ℕ) → all_ascii_digits ds ≡ true → list_all is_ascii_digit ds ≡ true
digits_all [] h = refl
digits_all (d ∷ ds) h = let p = and_parts _ _ h in and_from _ _ p.0 (digits_all ds p.1)

-- digits that a text begins with, perhaps none, and what is after them begins with none
pub record Digits (text digits rest : List ℕ) : Type 0 where
  pub split : text ≡ digits ++ rest
  pub are : all_ascii_digits digits ≡ true
  pub stops : Stops is_ascii_digit rest

pub digits_ran : (text rest : List ℕ) → (r : Ran is_ascii_digit text rest) → Digits text r.run rest
digits_ran text rest r =
    let are = all_digits r.run r.pass in
    record { split = r.split ∙ ap (λ l. l ++ rest) (digits_spell r.run are); are = are; stops = r.stops }

some_are : (ds : List ℕ) → are_digits ds ≡ true → (all_ascii_digits ds ≡ true) × (0 < length ds)
some_are [] h = absurd (cc)
some_are (d ∷ ds) h = (h, omega arith)

are_some : (ds : List ℕ) → all_ascii_digits ds ≡ true → 0 < length ds → are_digits ds ≡ true
are_some [] h more = absurd (omega arith)
are_some (d ∷ ds) h more = h

digits_within : (text digits rest more after : List ℕ) → Digits text digits rest → text ≡ more ++ after → all_ascii_digits more ≡ true →
    Within more digits after rest
digits_within text digits rest more after d e are =
    run_within is_ascii_digit more digits after rest (digits_all more are) d.stops
    (ap (λ l. l ++ after) (digits_spell more are) ∙ sym e ∙ d.split ∙ ap (λ l. l ++ rest) (sym (digits_spell digits d.are)))

pub no_longer : (text digits rest more after : List ℕ) → Digits text digits rest → text ≡ more ++ after → all_ascii_digits more ≡ true →
    length more ≤ length digits
no_longer text digits rest more after d e are =
    let w = digits_within text digits rest more after d e are in
    omega (arith, ap length w.whole, length-append more w.extra)

point_stops : (behind : List ℕ) → Stops is_ascii_digit (46 ∷ behind)
point_stops behind = stops_at_ascii is_ascii_digit behind 46 (lit< tt) refl

front_digit : (more : List ℕ) (d : ℕ) (ds : List ℕ) → all_ascii_digits (more ++ d ∷ ds) ≡ true → is_ascii_digit d ≡ true
front_digit [] d ds h = (and_parts _ _ h).0
front_digit (x ∷ more) d ds h = front_digit more d ds (and_parts _ _ h).1

exact_of : (extra more digits behind rest : List ℕ) → digits ≡ more ++ extra → 46 ∷ behind ≡ encode_utf8_all extra ++ rest →
    all_ascii_digits digits ≡ true → (more ≡ digits) × (46 ∷ behind ≡ rest)
exact_of [] more digits behind rest is left are = (sym (is ∙ append-nil more), left)
exact_of (d ∷ ds) more digits behind rest is left are =
    absurd (both_ways (is_ascii_digit d)
    (point_stops behind d (encode_utf8_all ds ++ rest) (left ∙ append_assoc (encode_utf8 d) (encode_utf8_all ds) rest))
    (front_digit more d ds (subst (λ l. all_ascii_digits l ≡ true) is are)))

-- before a point all digits stand
before_point : (text digits rest more behind : List ℕ) → Digits text digits rest → text ≡ more ++ 46 ∷ behind → all_ascii_digits more ≡ true →
    (more ≡ digits) × (46 ∷ behind ≡ rest)
before_point text digits rest more behind d e are =
    let w = digits_within text digits rest more (46 ∷ behind) d e are in
    exact_of w.extra more digits behind rest w.whole w.left d.are

tail_same : (a : ℕ) (xs ys : List ℕ) → a ∷ xs ≡ a ∷ ys → xs ≡ ys
tail_same a xs ys e = cc

point_split : (text ds f bytes after : List ℕ) → text ≡ bytes ++ after → bytes ≡ ds ++ 46 ∷ f → text ≡ ds ++ 46 ∷ (f ++ after)
point_split text ds f bytes after e joined = e ∙ ap (λ x. x ++ after) joined ∙ append_assoc ds (46 ∷ f) after

length_joined : (ds f : List ℕ) → length (ds ++ 46 ∷ f) ≡ length ds + suc (length f)
length_joined ds f = length-append ds (46 ∷ f)

-- no number begins with a point and has digits before it
no_digits : (ds behind after : List ℕ) → are_digits ds ≡ true → 46 ∷ behind ≡ ds ++ after → ⊥
no_digits [] behind after are e = absurd (cc)
no_digits (d ∷ ds) behind after are e =
    let same : 46 ≡ d = cc in
    both_ways (is_ascii_digit 46) refl (subst (λ x. is_ascii_digit x ≡ true) (sym same) (and_parts _ _ are).0)

no_leading_point : (text f after : List ℕ) → StartsWith is_ascii_digit text → text ≡ 46 ∷ (f ++ after) → ⊥
no_leading_point text f after s e =
    both_ways (is_ascii_digit s.first) (point_stops (f ++ after) s.first s.behind (sym e ∙ s.split)) s.pass

fits_with_point : (text digits middle behind run rest : List ℕ) → StartsWith is_ascii_digit text → Digits text digits middle → middle ≡ 46 ∷ behind →
    Digits behind run rest → (after more : List ℕ) → IsNumber more → text ≡ more ++ after → length more ≤ length digits + suc (length run)
fits_with_point text digits middle behind run rest s d point r after more (whole_number _ are) e =
    omega (arith, no_longer text digits middle more after d e (some_are more are).0)
fits_with_point text digits middle behind run rest s d point r after more (ending_point _ ds joined are) e =
    let same = before_point text digits middle ds after d (point_split text ds [] more after e joined) (some_are ds are).0 in
    omega (arith, ap length joined, length_joined ds [], ap length same.0)
fits_with_point text digits middle behind run rest s d point r after more (inner_point _ ds f joined are are2) e =
    let same = before_point text digits middle ds (f ++ after) d (point_split text ds f more after e joined) (some_are ds are).0 in
    omega (
      arith,
      ap length joined,
      length_joined ds f,
      ap length same.0,
      no_longer behind run rest f after r (tail_same 46 behind (f ++ after) (sym point ∙ sym same.1)) (some_are f are2).0,
    )
fits_with_point text digits middle behind run rest s d point r after more (leading_point f are) e = absurd (no_leading_point text f after s e)

fits_without_point : (text digits middle : List ℕ) → StartsWith is_ascii_digit text → Digits text digits middle →
    ((behind : List ℕ) → middle ≡ 46 ∷ behind → ⊥) → (after more : List ℕ) → IsNumber more → text ≡ more ++ after → length more ≤ length digits
fits_without_point text digits middle s d none after more (whole_number _ are) e = no_longer text digits middle more after d e (some_are more are).0
fits_without_point text digits middle s d none after more (ending_point _ ds joined are) e =
    let same = before_point text digits middle ds after d (point_split text ds [] more after e joined) (some_are ds are).0 in
    absurd (none after (sym same.1))
fits_without_point text digits middle s d none after more (inner_point _ ds f joined are are2) e =
    let same = before_point text digits middle ds (f ++ after) d (point_split text ds f more after e joined) (some_are ds are).0 in
    absurd (none (f ++ after) (sym same.1))
fits_without_point text digits middle s d none after more (leading_point f are) e = absurd (no_leading_point text f after s e)

digit_first : (text digits rest : List ℕ) → StartsWith is_ascii_digit text → Digits text digits rest → 0 < length digits
digit_first text [] rest s d =
    absurd (both_ways (is_ascii_digit s.first) (d.stops s.first s.behind (sym d.split ∙ s.split)) s.pass)
digit_first text (x ∷ digits) rest s d = omega arith

number_of : (bytes digits run : List ℕ) → bytes ≡ digits ++ 46 ∷ run → are_digits digits ≡ true → all_ascii_digits run ≡ true → IsNumber bytes
number_of bytes digits [] joined are are2 = ending_point bytes digits joined are
number_of bytes digits (x ∷ run) joined are are2 = inner_point bytes digits (x ∷ run) joined are are2

joined_of : (text bytes digits middle behind run rest : List ℕ) → text ≡ bytes ++ rest → Digits text digits middle → middle ≡ 46 ∷ behind →
    Digits behind run rest → bytes ≡ digits ++ 46 ∷ run
joined_of text bytes digits middle behind run rest e d point r =
    append_cancel_right bytes (digits ++ 46 ∷ run) rest
    (sym e ∙ d.split ∙ ap (λ l. digits ++ l) (point ∙ ap (λ l. 46 ∷ l) r.split) ∙ sym (append_assoc digits (46 ∷ run) rest))

longest_of : (text bytes middle rest : List ℕ) → text ≡ bytes ++ rest → StartsWith is_ascii_digit text → Ran is_ascii_digit text middle →
    EndsNumber middle rest → LongestOf is_number text rest (lexeme.Number bytes)
longest_of text bytes middle rest e s ran (with_point _ behind _ point ran2) =
    let d = digits_ran text middle ran in
    let r = digits_ran behind rest ran2 in
    let joined = joined_of text bytes ran.run middle behind ran2.run rest e d point r in
    let size : length bytes ≡ length ran.run + suc (length ran2.run) = ap length joined ∙ length_joined ran.run ran2.run in
    record {
      bytes = bytes;
      at_front = e;
      is = number_lexeme bytes (number_of bytes ran.run ran2.run joined (are_some ran.run d.are (digit_first text ran.run middle s d)) r.are);
      longest = λ more after m form split is.
          numbers (λ bs _. text ≡ bs ++ after → length bs ≤ length bytes)
          (λ bs n split. omega (arith, fits_with_point text ran.run middle behind ran2.run rest s d point r after bs n split)) more m form is split;
    }
longest_of text bytes middle rest e s ran (without_point _ none) =
    let d = digits_ran text middle ran in
    let same : bytes ≡ ran.run = append_cancel_right bytes ran.run middle (sym e ∙ d.split) in
    record {
      bytes = bytes;
      at_front = e;
      is = number_lexeme bytes (whole_number bytes (subst (λ l. are_digits l ≡ true) (sym same) (are_some ran.run d.are (digit_first text ran.run middle s d))));
      longest = λ more after m form split is.
          numbers (λ bs _. text ≡ bs ++ after → length bs ≤ length bytes)
          (λ bs n split. omega (arith, fits_without_point text ran.run middle s d none after bs n split, ap length same)) more m form is split;
    }

pub longest_number : (text bytes rest : List ℕ) → text ≡ bytes ++ rest → StartsWith is_ascii_digit text → NumberAt text rest →
    LongestOf is_number text rest (lexeme.Number bytes)
longest_number text bytes rest e s n = longest_of text bytes n.middle rest e s n.digits n.second

end_of : (text middle rest : List ℕ) → Ran is_ascii_digit text middle → EndsNumber middle rest → IsEnd text rest
end_of text middle rest ran (with_point _ behind _ point ran2) = record {
  front = encode_utf8_all ran.run ++ 46 ∷ encode_utf8_all ran2.run;
  split = ran.split ∙ ap (λ l. encode_utf8_all ran.run ++ l) (point ∙ ap (λ l. 46 ∷ l) ran2.split)
      ∙ sym (append_assoc (encode_utf8_all ran.run) (46 ∷ encode_utf8_all ran2.run) rest);
}
end_of text middle rest ran (without_point _ none) = record { front = encode_utf8_all ran.run; split = ran.split }

pub number_end : (text rest : List ℕ) → NumberAt text rest → IsEnd text rest
number_end text rest n = end_of text n.middle rest n.digits n.second

pub fraction_end : (text behind rest : List ℕ) → text ≡ 46 ∷ behind → Ran is_ascii_digit behind rest → IsEnd text rest
fraction_end text behind rest point ran = record {
  front = 46 ∷ encode_utf8_all ran.run;
  split = point ∙ ap (λ l. 46 ∷ l) ran.split;
}

none_taken : (behind run rest : List ℕ) → Digits behind run rest → length rest ≡ length behind → Stops is_ascii_digit behind
none_taken behind [] rest d same = subst (Stops is_ascii_digit) (sym d.split) d.stops
none_taken behind (x ∷ run) rest d same = absurd (omega (arith, ap length d.split, length-append (x ∷ run) rest))

some_run : (behind run rest : List ℕ) → Digits behind run rest → (length rest ≡ length behind → ⊥) → 0 < length run
some_run behind [] rest d some = absurd (some (ap length (sym d.split)))
some_run behind (x ∷ run) rest d some = omega arith

no_fraction_of : (behind f after : List ℕ) → Stops is_ascii_digit behind → are_digits f ≡ true → behind ≡ f ++ after → ⊥
no_fraction_of behind [] after stops are e = absurd (cc)
no_fraction_of behind (x ∷ f) after stops are e =
    let p = and_parts _ _ are in
    both_ways (is_ascii_digit x)
    (stops x (f ++ after) (e ∙ ap (λ l. l ++ (f ++ after)) (sym (encode_ascii x (digit_is_low x p.0))))) p.0

none_fits : (text behind : List ℕ) → text ≡ 46 ∷ behind → Stops is_ascii_digit behind → (after more : List ℕ) → IsNumber more → text ≡ more ++ after → ⊥
none_fits text behind point stops after more (whole_number _ are) e = no_digits more behind after are (sym point ∙ e)
none_fits text behind point stops after more (ending_point _ ds joined are) e =
    no_digits ds behind (46 ∷ after) are (sym point ∙ point_split text ds [] more after e joined)
none_fits text behind point stops after more (inner_point _ ds f joined are are2) e =
    no_digits ds behind (46 ∷ (f ++ after)) are (sym point ∙ point_split text ds f more after e joined)
none_fits text behind point stops after more (leading_point f are) e =
    no_fraction_of behind f after stops are (tail_same 46 behind (f ++ after) (sym point ∙ e))

pub no_fraction : (text behind rest : List ℕ) → text ≡ 46 ∷ behind → Ran is_ascii_digit behind rest → length rest ≡ length behind → NoneOf is_number text
no_fraction text behind rest point ran same =
    let stops = none_taken behind ran.run rest (digits_ran behind rest ran) same in
    λ more after m form e is. numbers (λ bs _. text ≡ bs ++ after → ⊥) (λ bs n e. none_fits text behind point stops after bs n e) more m form is e

fraction_fits : (text behind run rest : List ℕ) → text ≡ 46 ∷ behind → Digits behind run rest → (after more : List ℕ) → IsNumber more → text ≡ more ++ after →
    length more ≤ suc (length run)
fraction_fits text behind run rest point d after more (whole_number _ are) e = absurd (no_digits more behind after are (sym point ∙ e))
fraction_fits text behind run rest point d after more (ending_point _ ds joined are) e =
    absurd (no_digits ds behind (46 ∷ after) are (sym point ∙ point_split text ds [] more after e joined))
fraction_fits text behind run rest point d after more (inner_point _ ds f joined are are2) e =
    absurd (no_digits ds behind (46 ∷ (f ++ after)) are (sym point ∙ point_split text ds f more after e joined))
fraction_fits text behind run rest point d after more (leading_point f are) e =
    omega (arith, no_longer behind run rest f after d (tail_same 46 behind (f ++ after) (sym point ∙ e)) (some_are f are).0)

pub longest_fraction : (text behind bytes rest : List ℕ) → text ≡ 46 ∷ behind → text ≡ bytes ++ rest → Ran is_ascii_digit behind rest →
    (length rest ≡ length behind → ⊥) → LongestOf is_pointed text rest (lexeme.Number bytes)
longest_fraction text behind bytes rest point e ran some =
    let d = digits_ran behind rest ran in
    let same : bytes ≡ 46 ∷ ran.run = append_cancel_right bytes (46 ∷ ran.run) rest (sym e ∙ point ∙ ap (λ l. 46 ∷ l) d.split) in
    let more_than_none : 0 < length ran.run = some_run behind ran.run rest d some in
    record {
      bytes = bytes;
      at_front = e;
      is = number_lexeme bytes (subst IsNumber (sym same) (leading_point ran.run (are_some ran.run d.are more_than_none)));
      longest = λ more after m form split is.
          pointed (λ bs _. text ≡ bs ++ after → length bs ≤ length bytes)
          (λ bs u known split. omega (arith, symbols_take_two bs u known, ap length same))
          (λ bs n split. omega (arith, fraction_fits text behind ran.run rest point d after bs n split, ap length same)) more m form is split;
    }
