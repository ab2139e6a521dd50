-- Texts made of Chars (XML 1.0, section 2.2), of which a document is made.
use Rattle.std.proofs.Common.{arith, ◌≡◌, ℕ, zero, suc, ◌<◌, ltb, get_or, Bool, true, false, ◌&&◌, cond, find, List, [], ◌∷◌, ◌++◌, Option, None, Some, map, refl, ap, ◌∙◌}
use Rattle.std.specs.List.{flat_map, list_all}
use Rattle.std.specs.Option.{option_map_or}
use Rattle.std.specs.Prelude.{chars, codes, encode_utf8_all, option_map}
use Rattle.std.specs.Str.{is_utf8}
use Rattle.std.proofs.Math.Utf8.{scalar, scalars}
use Rattle.std.proofs.lemmas.Bool.{and_from, and_parts, ltb-true}
use Rattle.std.proofs.lemmas.Str.{IsUtf8-from_ascii, IsUtf8-nil, chars-IsAscii, chars-encodes, chars-nil, scalars-chars}
use Rattle.doc_tree.specs.Table.{Table, Content, root, element, attribute, text, comment, instruction, attrs_of, content_of, value_at, value_of}
use Rattle.doc_tree.specs.Walks.{characters_in}
use Rattle.pyx_core.proofs.TextLemmas.{made_of, of_chars_append, utf8_of}
use Rattle.pyx_core.specs.Nesting.{of_chars}
use Rattle.sch_base.specs.Characters.{is_whitespace, is_xml_char}
use Rattle.sch_rules.specs.Attributes.{is_called, said, said_text}
use Rattle.sch_rules.specs.RawSchema.{ids_in, pieces, with_character, without_empty}
use Rattle.sch_texts.specs.Ids.{spaced}
use Rattle.sch_flat_laws.specs.Readable.{Each}
use Rattle.sch_flat_laws.specs.Accepted.{MadeContent, MadeOfChars}

abbrev pub Made : List ℕ → Type 0
Made value = of_chars value ≡ true

-- where there is a text, it is made so
abbrev pub MadeIfAny : Option (List ℕ) → Type 0
MadeIfAny None = Unit {0}
MadeIfAny (Some value) = Made value

pub made_nil : Made []
made_nil = made_of [] IsUtf8-nil (ap (list_all is_xml_char) chars-nil)

made-if : (b : Bool) (value : List ℕ) → Made value → Made (cond b value [])
made-if true value h = h
made-if false value h = made_nil

pub made_flat : {A : Type 0} (f : A → List ℕ) → ((x : A) → Made (f x)) → (xs : List A) → Made (flat_map f xs)
made_flat f each [] = made_nil
made_flat f each (x ∷ xs) = of_chars_append (f x) (flat_map f xs) (each x) (made_flat f each xs)

-- the characters of pieces are those of the text
pub is-good : ℕ → Bool
is-good c = is_xml_char c && scalar c

pub all-good : (cs : List ℕ) → list_all is_xml_char cs ≡ true → scalars cs ≡ true → list_all is-good cs ≡ true
unfolding is-good
all-good [] h k = refl
all-good (c ∷ cs) h k =
    let made = and_parts (is_xml_char c) (list_all is_xml_char cs) h in
    let encoded = and_parts (scalar c) (scalars cs) k in
    and_from (is_xml_char c && scalar c) (list_all (λ c. is_xml_char c && scalar c) cs) (and_from (is_xml_char c) (scalar c) made.0 encoded.0) (all-good cs made.1 encoded.1)

good-made : (cs : List ℕ) → list_all is-good cs ≡ true → (list_all is_xml_char cs ≡ true) × (scalars cs ≡ true)
unfolding is-good
good-made [] h = (refl, refl)
good-made (c ∷ cs) h =
    let parts = and_parts (is_xml_char c && scalar c) (list_all (λ c. is_xml_char c && scalar c) cs) h in
    let own = and_parts (is_xml_char c) (scalar c) parts.0 in
    let rest = good-made cs parts.1 in
    (and_from (is_xml_char c) (list_all is_xml_char cs) own.0 rest.0, and_from (scalar c) (scalars cs) own.1 rest.1)

abbrev pub GoodPiece : List ℕ → Type 0
GoodPiece cs = list_all is-good cs ≡ true

good-with : (c : ℕ) (ps : List (List ℕ)) → is-good c ≡ true → Each GoodPiece ps → Each GoodPiece (with_character c ps)
good-with c [] is h = (and_from (is-good c) true is refl, tt)
good-with c (p ∷ ps) is h = (and_from (is-good c) (list_all is-good p) is h.0, h.1)

good-pieces : (cs : List ℕ) → list_all is-good cs ≡ true → Each GoodPiece (pieces cs)
good-pieces [] h = (refl, tt)
good-pieces (c ∷ cs) h =
    let parts = and_parts (is-good c) (list_all is-good cs) h in by (is_whitespace c) parts.0 (good-pieces cs parts.1)
  where
    by : (b : Bool) → is-good c ≡ true → Each GoodPiece (pieces cs) → Each GoodPiece (cond b ([] ∷ pieces cs) (with_character c (pieces cs)))
    by true is rest = (refl, rest)
    by false is rest = good-with c (pieces cs) is rest

pub made-encoded : (cs : List ℕ) → GoodPiece cs → Made (encode_utf8_all cs)
made-encoded cs h =
    let parts = good-made cs h in
    made_of (encode_utf8_all cs) (cs, (parts.1, refl)) (ap (list_all is_xml_char) (chars-encodes cs parts.1) ∙ parts.0)

made-pieces : (ps : List (List ℕ)) → Each GoodPiece ps → Each Made (map encode_utf8_all ps)
made-pieces [] h = tt
made-pieces (p ∷ ps) h = (made-encoded p h.0, made-pieces ps h.1)

made-kept : (texts : List (List ℕ)) → Each Made texts → Each Made (without_empty texts)
made-kept [] h = tt
made-kept ([] ∷ texts) h = made-kept texts h.1
made-kept ((b ∷ value) ∷ texts) h = (h.0, made-kept texts h.1)

-- ASCII
ascii-below : (bytes : List ℕ) → list_all (λ (b : ℕ). ltb b 128) bytes ≡ true → (i : ℕ) → get_or bytes i 0 < 128
ascii-below [] h i = omega arith
ascii-below (b ∷ bytes) h zero = ltb-true b 128 (and_parts (ltb b 128) (list_all (λ (b : ℕ). ltb b 128) bytes) h).0
ascii-below (b ∷ bytes) h (suc i) = ascii-below bytes (and_parts (ltb b 128) (list_all (λ (b : ℕ). ltb b 128) bytes) h).1 i

pub made-ascii : (bytes : List ℕ) → list_all (λ (b : ℕ). ltb b 128) bytes ≡ true → list_all is_xml_char bytes ≡ true → Made bytes
made-ascii bytes low made =
    made_of bytes (IsUtf8-from_ascii bytes (ascii-below bytes low)) (ap (list_all is_xml_char) (chars-IsAscii bytes (ascii-below bytes low)) ∙ made)

made-space : Made (codes " ")
unfolding is_xml_char
made-space = made-ascii (codes " ") refl refl

pub made_namespace : Made (codes "http://purl.oclc.org/dsdl/schematron")
unfolding is_xml_char
made_namespace = made-ascii (codes "http://purl.oclc.org/dsdl/schematron") refl refl

pub made_binding : Made (codes "xslt")
unfolding is_xml_char
made_binding = made-ascii (codes "xslt") refl refl

made-spaced : (ids : List (List ℕ)) → Each Made ids → Made (spaced ids)
made-spaced [] h = made_nil
made-spaced (id ∷ []) h = h.0
made-spaced (id ∷ next ∷ ids) h =
    of_chars_append id (codes " " ++ spaced (next ∷ ids)) h.0
    (of_chars_append (codes " ") (spaced (next ∷ ids)) made-space (made-spaced (next ∷ ids) h.1))

-- ids that a text lists, listed again
pub made_ids : (value : List ℕ) → Made value → Made (spaced (ids_in value))
made_ids value h =
    let characters = (and_parts (is_utf8 value) (list_all is_xml_char (chars value)) h).1 in
    let good = all-good (chars value) characters (scalars-chars value (utf8_of value h)) in
    made-spaced (ids_in value) (made-kept (map encode_utf8_all (pieces (chars value))) (made-pieces (pieces (chars value)) (good-pieces (chars value) good)))

-- what a document says is made of Chars
module _ (T : Table) (made : MadeOfChars T) where
  made-value : (a : ℕ) → Made (value_of T a)
  made-value a = by (content_of T a) (made a)
    where
      by : (content : Option Content) → MadeContent content → Made (value_at content)
      by None here = made_nil
      by (Some root) here = made_nil
      by (Some (element its decls)) here = made_nil
      by (Some (attribute its value)) here = here
      by (Some (text characters)) here = here
      by (Some (comment characters)) here = here
      by (Some (instruction its body)) here = here

  pub made_characters : (n : ℕ) → Made (characters_in (content_of T n))
  made_characters n = by (content_of T n) (made n)
    where
      by : (content : Option Content) → MadeContent content → Made (characters_in content)
      by None here = made_nil
      by (Some root) here = made_nil
      by (Some (element its decls)) here = made_nil
      by (Some (attribute its value)) here = made_nil
      by (Some (text characters)) here = here
      by (Some (comment characters)) here = made_nil
      by (Some (instruction its body)) here = made_nil

  pub made_said : (n : ℕ) (name : List ℕ) → MadeIfAny (said T n name)
  made_said n name = by (find (is_called T name) (attrs_of T n))
    where
      by : (a : Option ℕ) → MadeIfAny (option_map (value_of T) a)
      by None = tt
      by (Some a) = made-value a

  pub made_text : (n : ℕ) (name : List ℕ) → Made (said_text T n name)
  made_text n name = by (said T n name) (made_said n name)
    where
      by : (value : Option (List ℕ)) → MadeIfAny value → Made (option_map_or (λ (x : List ℕ). x) value [])
      by None h = made_nil
      by (Some value) h = h
