-- Names in front of a text.
use Rattle.std.proofs.Common.{◌≡◌, ℕ, ◌<◌, ◌≤◌, Bool, true, List, [], ◌∷◌, ◌++◌, length, refl, sym, ap, ap₂, subst, ◌∙◌, append_assoc, append-nil, arith, length-append, lit<}
use Rattle.std.specs.Prelude.{encode_utf8, encode_utf8_all, IsUtf8}
use Rattle.std.specs.List.{list_all}
use Rattle.std.specs.Str.{chars, all_scalars}
use Rattle.std.proofs.lemmas.Bool.{and_parts, and_from, both_ways, or_left}
use Rattle.std.proofs.lemmas.Str.{encode_same, encodes-append, encodes-chars, chars-encodes, length-encode, len_utf8_bounds}
use Rattle.sch_base.specs.Characters.{is_name_start, is_name_char}
use Rattle.sch_base.specs.Names.{is_ncname_of}
use Rattle.xp_lexicon.specs.Lexicon.{IsNcname}
use Rattle.xp_lexicon.specs.inner.Scanning.{Stops, Ran, IsHead, NameAt, NoName}
use Rattle.xp_lexicon.proofs.Runs.{stops_at_ascii, first_is_scalar}

-- a run that goes on to other characters is the front of a run that can't go on
pub record Within (ds cs after rest : List ℕ) : Type 0 where
  pub extra : List ℕ
  pub whole : cs ≡ ds ++ extra
  pub left : after ≡ encode_utf8_all extra ++ rest

pub run_within : (test : ℕ → Bool) (ds cs after rest : List ℕ) → list_all test ds ≡ true → Stops test rest →
    encode_utf8_all ds ++ after ≡ encode_utf8_all cs ++ rest → Within ds cs after rest
run_within test [] cs after rest pass stops e = record { extra = cs; whole = refl; left = e }
run_within test (d ∷ ds) [] after rest pass stops e =
    absurd (both_ways (test d)
    (stops d (encode_utf8_all ds ++ after) (sym e ∙ append_assoc (encode_utf8 d) (encode_utf8_all ds) after)) (and_parts _ _ pass).0)
run_within test (d ∷ ds) (c ∷ cs) after rest pass stops e =
    let same = encode_same d c (encode_utf8_all ds ++ after) (encode_utf8_all cs ++ rest)
    (sym (append_assoc (encode_utf8 d) (encode_utf8_all ds) after) ∙ e ∙ append_assoc (encode_utf8 c) (encode_utf8_all cs) rest) in
    let w = run_within test ds cs after rest (and_parts _ _ pass).1 stops same.1 in
    record { extra = w.extra; whole = ap₂ (λ (x : ℕ) (l : List ℕ). x ∷ l) (sym same.0) w.whole; left = w.left }

start_is_char : (c : ℕ) → is_name_start c ≡ true → is_name_char c ≡ true
unfolding is_name_char
start_is_char c h = or_left _ _ h

-- the characters of a name
pub record NameParts (name : List ℕ) : Type 0 where
  pub first : ℕ
  pub others : List ℕ
  pub spelled : encode_utf8_all (first ∷ others) ≡ name
  pub start : is_name_start first ≡ true
  pub pass : list_all is_name_char (first ∷ others) ≡ true

parts_of : (cs name : List ℕ) → encode_utf8_all cs ≡ name → is_ncname_of cs ≡ true → NameParts name
parts_of [] name spelled h = absurd (cc)
parts_of (c ∷ cs) name spelled h =
    let p = and_parts (is_name_start c) (list_all is_name_char cs) h in
    record { first = c; others = cs; spelled = spelled; start = p.0; pass = and_from _ _ (start_is_char c p.0) p.1 }

pub name_parts : (name : List ℕ) → IsNcname name → NameParts name
name_parts name n = parts_of (chars name) name (encodes-chars name n.utf8) n.name

-- a name takes a byte or more
pub name_takes : (name : List ℕ) → IsNcname name → 0 < length name
name_takes name n =
    let p = name_parts name n in
    omega (arith, ap length p.spelled, length-append (encode_utf8 p.first) (encode_utf8_all p.others), length-encode p.first, len_utf8_bounds p.first)

name_of : (c : ℕ) (cs : List ℕ) → all_scalars (c ∷ cs) ≡ true → is_name_start c ≡ true → list_all is_name_char cs ≡ true →
    IsNcname (encode_utf8_all (c ∷ cs))
name_of c cs scalars start pass = record {
  utf8 = (c ∷ cs, (scalars, refl));
  name = rw (chars-encodes (c ∷ cs) scalars) (and_from _ _ start pass);
}

pub name_at : (text behind rest : List ℕ) (c : ℕ) → IsUtf8 text → text ≡ encode_utf8 c ++ behind → is_name_start c ≡ true →
    Ran is_name_char behind rest → NameAt text rest
name_at text behind rest c utf8 split start r = record {
  name = encode_utf8_all (c ∷ r.run);
  head = record {
    split = split ∙ ap (λ l. encode_utf8 c ++ l) r.split ∙ sym (append_assoc (encode_utf8 c) (encode_utf8_all r.run) rest);
    is = name_of c r.run (and_from _ _ (and_parts _ _ (first_is_scalar text behind c utf8 split)).0 r.scalars) start r.pass;
    stops = r.stops;
  };
}

-- where no character begins a name, none stands
pub no_name : (text : List ℕ) → Stops is_name_start text → NoName text
no_name text stops = λ name after e n.
    let p = name_parts name n in
    both_ways (is_name_start p.first)
    (stops p.first (encode_utf8_all p.others ++ after)
    (e ∙ ap (λ l. l ++ after) (sym p.spelled) ∙ append_assoc (encode_utf8 p.first) (encode_utf8_all p.others) after))
    p.start

-- another name in front is a front of the name
pub record PartOf (more name after rest : List ℕ) : Type 0 where
  pub extra : List ℕ
  pub name_is : name ≡ more ++ encode_utf8_all extra
  pub left : after ≡ encode_utf8_all extra ++ rest
  pub pass : list_all is_name_char extra ≡ true

back_pass : (test : ℕ → Bool) (ds es : List ℕ) → list_all test (ds ++ es) ≡ true → list_all test es ≡ true
back_pass test [] es h = h
back_pass test (d ∷ ds) es h = back_pass test ds es (and_parts _ _ h).1

pub part_of : (text name rest more after : List ℕ) → IsHead text name rest → text ≡ more ++ after → IsNcname more →
    PartOf more name after rest
part_of text name rest more after head e n =
    let p = name_parts more n in
    let q = name_parts name head.is in
    let w = run_within is_name_char (p.first ∷ p.others) (q.first ∷ q.others) after rest p.pass head.stops
    (ap (λ l. l ++ after) p.spelled ∙ sym e ∙ head.split ∙ ap (λ l. l ++ rest) (sym q.spelled)) in
    record {
      extra = w.extra;
      name_is = sym q.spelled ∙ ap encode_utf8_all w.whole ∙ encodes-append (p.first ∷ p.others) w.extra
          ∙ ap (λ l. l ++ encode_utf8_all w.extra) p.spelled;
      left = w.left;
      pass = back_pass is_name_char (p.first ∷ p.others) w.extra (subst (λ l. list_all is_name_char l ≡ true) w.whole q.pass);
    }

pub no_longer : (text name rest more after : List ℕ) → IsHead text name rest → text ≡ more ++ after → IsNcname more →
    length more ≤ length name
no_longer text name rest more after head e n =
    let w = part_of text name rest more after head e n in
    omega (arith, ap length w.name_is, length-append more (encode_utf8_all w.extra))

exact_of : (extra more name after rest : List ℕ) → name ≡ more ++ encode_utf8_all extra → after ≡ encode_utf8_all extra ++ rest →
    list_all is_name_char extra ≡ true → Stops is_name_char after → (more ≡ name) × (after ≡ rest)
exact_of [] more name after rest is left pass stops = (sym (is ∙ append-nil more), left)
exact_of (d ∷ ds) more name after rest is left pass stops =
    absurd (both_ways (is_name_char d)
    (stops d (encode_utf8_all ds ++ rest) (left ∙ append_assoc (encode_utf8 d) (encode_utf8_all ds) rest)) (and_parts _ _ pass).0)

pub colon_stops : (behind : List ℕ) → Stops is_name_char (58 ∷ behind)
unfolding is_name_char is_name_start
colon_stops behind = stops_at_ascii is_name_char behind 58 (lit< tt) refl

-- before a colon the whole name stands
pub before_colon : (text name rest more behind : List ℕ) → IsHead text name rest → text ≡ more ++ 58 ∷ behind → IsNcname more →
    (more ≡ name) × (58 ∷ behind ≡ rest)
before_colon text name rest more behind head e n =
    let w = part_of text name rest more (58 ∷ behind) head e n in
    exact_of w.extra more name (58 ∷ behind) rest w.name_is w.left w.pass (colon_stops behind)
