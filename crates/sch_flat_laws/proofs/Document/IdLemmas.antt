-- Lists of ids, written with single spaces and read again.
use Rattle.std.proofs.Common.{arith, ◌≡◌, ◌≤◌, ℕ, suc, Bool, true, false, cond, not, ◌&&◌, List, [], ◌∷◌, ◌++◌, length, map, refl, sym, ap, ◌∙◌, append-nil}
use Rattle.std.specs.Prelude.{IsUtf8, chars, codes, encode_utf8_all}
use Rattle.std.specs.List.{list_all}
use Rattle.std.proofs.lemmas.Bool.{and_from, and_parts}
use Rattle.std.proofs.lemmas.Str.{chars-encodes, encode_ascii, encodes-append, length-le-encodes, scalars-chars}
use Rattle.std.proofs.Math.Utf8.{scalar, scalars}
use Rattle.sch_base.specs.Characters.{is_whitespace}
use Rattle.sch_rules.specs.RawSchema.{ids_in, pieces, with_character, without_empty}
use Rattle.sch_texts.specs.Ids.{spaced}

-- a character of an id
abbrev is_word : ℕ → Bool
is_word c = not (is_whitespace c) && scalar c

-- characters of ids, of which there are some in each
abbrev is_id : List ℕ → Bool
is_id [] = false
is_id (c ∷ word) = list_all is_word (c ∷ word)

space-parts : is_whitespace 32 ≡ true
unfolding is_whitespace
space-parts = refl

-- pieces
glued : List ℕ → List (List ℕ) → List (List ℕ)
glued word [] = word ∷ []
glued word (piece ∷ ps) = (word ++ piece) ∷ ps

glued-nil : (c : ℕ) (cs : List ℕ) → glued [] (pieces (c ∷ cs)) ≡ pieces (c ∷ cs)
unfolding glued
glued-nil c cs = by (is_whitespace c) (pieces cs)
  where
    by : (b : Bool) (ps : List (List ℕ)) → glued [] (cond b ([] ∷ ps) (with_character c ps)) ≡ cond b ([] ∷ ps) (with_character c ps)
    by true ps = refl
    by false [] = refl
    by false (p ∷ ps) = refl

glued-pieces : (cs : List ℕ) → glued [] (pieces cs) ≡ pieces cs
unfolding glued
glued-pieces [] = refl
glued-pieces (c ∷ cs) = glued-nil c cs

with-glued : (c : ℕ) (word : List ℕ) (ps : List (List ℕ)) → with_character c (glued word ps) ≡ glued (c ∷ word) ps
unfolding glued
with-glued c word [] = refl
with-glued c word (p ∷ ps) = refl

not-true : (b : Bool) → not b ≡ true → b ≡ false
not-true true h = absurd (cc)
not-true false h = refl

pieces-word : (word rest : List ℕ) → list_all is_word word ≡ true → pieces (word ++ rest) ≡ glued word (pieces rest)
pieces-word [] rest h = sym (glued-pieces rest)
pieces-word (c ∷ word) rest h =
    let parts = and_parts (is_word c) (list_all is_word word) h in
    let plain = not-true (is_whitespace c) (and_parts (not (is_whitespace c)) (scalar c) parts.0).0 in
    ap (λ (b : Bool). cond b ([] ∷ pieces (word ++ rest)) (with_character c (pieces (word ++ rest)))) plain
    ∙ ap (with_character c) (pieces-word word rest parts.1)
    ∙ with-glued c word (pieces rest)

pieces-space : (cs : List ℕ) → pieces (32 ∷ cs) ≡ [] ∷ pieces cs
pieces-space cs = ap (λ (b : Bool). cond b ([] ∷ pieces cs) (with_character 32 (pieces cs))) space-parts

id-words : (id : List ℕ) → is_id id ≡ true → list_all is_word id ≡ true
id-words [] h = absurd (cc)
id-words (c ∷ id) h = h

pieces-spaced : (id : List ℕ) (ids : List (List ℕ)) → list_all is_id (id ∷ ids) ≡ true → pieces (spaced (id ∷ ids)) ≡ id ∷ ids
unfolding glued
pieces-spaced id [] h =
    ap pieces (sym (append-nil id))
    ∙ pieces-word id [] (id-words id (and_parts (is_id id) true h).0)
    ∙ ap (λ w. w ∷ []) (append-nil id)
pieces-spaced id (next ∷ ids) h =
    let parts = and_parts (is_id id) (list_all is_id (next ∷ ids)) h in
    pieces-word id (32 ∷ spaced (next ∷ ids)) (id-words id parts.0)
    ∙ ap (glued id) (pieces-space (spaced (next ∷ ids)) ∙ ap (λ ps. [] ∷ ps) (pieces-spaced next ids parts.1))
    ∙ ap (λ w. w ∷ next ∷ ids) (append-nil id)

-- the pieces of characters are ids where they aren't empty
with-words : (c : ℕ) (ps : List (List ℕ)) → is_word c ≡ true → list_all (list_all is_word) ps ≡ true → list_all (list_all is_word) (with_character c ps) ≡ true
with-words c [] is h = rw is refl
with-words c (p ∷ ps) is h = rw is h

pieces-words : (cs : List ℕ) → scalars cs ≡ true → list_all (list_all is_word) (pieces cs) ≡ true
pieces-words [] h = refl
pieces-words (c ∷ cs) h =
    let parts = and_parts (scalar c) (scalars cs) h in
    by (is_whitespace c) refl parts.0 (pieces-words cs parts.1)
  where
    by : (b : Bool) → is_whitespace c ≡ b → scalar c ≡ true → list_all (list_all is_word) (pieces cs) ≡ true →
        list_all (list_all is_word) (cond b ([] ∷ pieces cs) (with_character c (pieces cs))) ≡ true
    by true e s rest = rest
    by false e s rest = with-words c (pieces cs) (rw (e, s) refl) rest

kept-ids : (ps : List (List ℕ)) → list_all (list_all is_word) ps ≡ true → list_all is_id (without_empty ps) ≡ true
kept-ids [] h = refl
kept-ids ([] ∷ ps) h = kept-ids ps h
kept-ids ((c ∷ word) ∷ ps) h =
    let parts = and_parts (list_all is_word (c ∷ word)) (list_all (list_all is_word) ps) h in
    and_from (is_id (c ∷ word)) (list_all is_id (without_empty ps)) parts.0 (kept-ids ps parts.1)

-- ids are kept
all-kept : (ids : List (List ℕ)) → list_all is_id ids ≡ true → without_empty ids ≡ ids
all-kept [] h = refl
all-kept ([] ∷ ids) h = absurd (cc)
all-kept ((c ∷ id) ∷ ids) h = ap (λ l. (c ∷ id) ∷ l) (all-kept ids (and_parts (is_id (c ∷ id)) (list_all is_id ids) h).1)

-- bytes
some-bytes : (bytes : List ℕ) (ts : List (List ℕ)) → suc 0 ≤ length bytes → without_empty (bytes ∷ ts) ≡ bytes ∷ without_empty ts
some-bytes [] ts h = absurd (omega (arith, h))
some-bytes (b ∷ bytes) ts h = refl

encoded-kept : (ps : List (List ℕ)) → without_empty (map encode_utf8_all ps) ≡ map encode_utf8_all (without_empty ps)
encoded-kept [] = refl
encoded-kept ([] ∷ ps) = encoded-kept ps
encoded-kept ((c ∷ word) ∷ ps) =
    some-bytes (encode_utf8_all (c ∷ word)) (map encode_utf8_all ps) (omega (arith, length-le-encodes (c ∷ word)))
    ∙ ap (λ l. encode_utf8_all (c ∷ word) ∷ l) (encoded-kept ps)

one-space : (cs : List ℕ) → encode_utf8_all (32 ∷ cs) ≡ 32 ∷ encode_utf8_all cs
one-space cs = ap (λ l. l ++ encode_utf8_all cs) (encode_ascii 32 (omega arith))

spaced-encoded : (ids : List (List ℕ)) → spaced (map encode_utf8_all ids) ≡ encode_utf8_all (spaced ids)
spaced-encoded [] = refl
spaced-encoded (id ∷ []) = refl
spaced-encoded (id ∷ next ∷ ids) =
    ap (λ l. encode_utf8_all id ++ (codes " " ++ l)) (spaced-encoded (next ∷ ids))
    ∙ ap (λ l. encode_utf8_all id ++ l) (sym (one-space (spaced (next ∷ ids))))
    ∙ sym (encodes-append id (codes " " ++ spaced (next ∷ ids)))

-- all characters of the text
words-scalars : (word : List ℕ) → list_all is_word word ≡ true → scalars word ≡ true
words-scalars [] h = refl
words-scalars (c ∷ word) h =
    let parts = and_parts (is_word c) (list_all is_word word) h in
    and_from (scalar c) (scalars word) (and_parts (not (is_whitespace c)) (scalar c) parts.0).1 (words-scalars word parts.1)

scalars-append : (xs ys : List ℕ) → scalars xs ≡ true → scalars ys ≡ true → scalars (xs ++ ys) ≡ true
scalars-append [] ys h k = k
scalars-append (x ∷ xs) ys h k =
    let parts = and_parts (scalar x) (scalars xs) h in and_from (scalar x) (scalars (xs ++ ys)) parts.0 (scalars-append xs ys parts.1 k)

spaced-scalars : (ids : List (List ℕ)) → list_all is_id ids ≡ true → scalars (spaced ids) ≡ true
spaced-scalars [] h = refl
spaced-scalars (id ∷ []) h = words-scalars id (id-words id (and_parts (is_id id) true h).0)
spaced-scalars (id ∷ next ∷ ids) h =
    let parts = and_parts (is_id id) (list_all is_id (next ∷ ids)) h in
    scalars-append id (32 ∷ spaced (next ∷ ids)) (words-scalars id (id-words id parts.0))
    (scalars-append (32 ∷ []) (spaced (next ∷ ids)) refl (spaced-scalars (next ∷ ids) parts.1))

read-again : (ids : List (List ℕ)) → list_all is_id ids ≡ true → without_empty (pieces (spaced ids)) ≡ ids
read-again [] h = refl
read-again (id ∷ ids) h = ap without_empty (pieces-spaced id ids h) ∙ all-kept (id ∷ ids) h

pub ids_read_back : (text : List ℕ) → IsUtf8 text → ids_in (spaced (ids_in text)) ≡ ids_in text
ids_read_back text utf8 =
    let ids = without_empty (pieces (chars text)) in
    let are : list_all is_id ids ≡ true = kept-ids (pieces (chars text)) (pieces-words (chars text) (scalars-chars text utf8)) in
    let read : ids_in text ≡ map encode_utf8_all ids = encoded-kept (pieces (chars text)) in
    ap (λ l. ids_in (spaced l)) read
    ∙ ap ids_in (spaced-encoded ids)
    ∙ ap (λ cs. without_empty (map encode_utf8_all (pieces cs))) (chars-encodes (spaced ids) (spaced-scalars ids are))
    ∙ encoded-kept (pieces (spaced ids))
    ∙ ap (map encode_utf8_all) (read-again ids are)
    ∙ sym read
