-- Lists of ids, character by character.
use Rattle.std.proofs.Common.{◌≡◌, ℕ, Bool, true, false, cond, List, [], ◌∷◌, ◌++◌, map, refl, sym, ap, ◌∙◌, append-nil, append_assoc}
use Rattle.std.specs.Prelude.{chars, encode_utf8, encode_utf8_all}
use Rattle.sch_base.specs.Characters.{is_whitespace}
use Rattle.sch_rules.specs.RawSchema.{ids_in, pieces, with_character, without_empty}
use Rattle.sch_source.specs.inner.Ids.{IdsRead, id_list, ids_after, onto}

abbrev texts : List ℕ → List (List ℕ)
texts characters = map encode_utf8_all (pieces characters)

onto-character : (c : ℕ) (ps : List (List ℕ)) → onto [] (map encode_utf8_all (with_character c ps)) ≡ map encode_utf8_all (with_character c ps)
onto-character c [] = refl
onto-character c (p ∷ ps) = refl

onto-cases : (c : ℕ) (b : Bool) (ps : List (List ℕ)) →
    onto [] (map encode_utf8_all (cond b ([] ∷ ps) (with_character c ps))) ≡ map encode_utf8_all (cond b ([] ∷ ps) (with_character c ps))
onto-cases c true ps = refl
onto-cases c false ps = onto-character c ps

-- nothing before the first text
onto-nothing : (characters : List ℕ) → onto [] (texts characters) ≡ texts characters
onto-nothing [] = refl
onto-nothing (c ∷ characters) = onto-cases c (is_whitespace c) (pieces characters)

without_empty-cons : (text : List ℕ) (ts : List (List ℕ)) → without_empty ((text ++ []) ∷ ts) ≡ id_list text ++ without_empty ts
without_empty-cons [] ts = refl
without_empty-cons (b ∷ text) ts = ap (λ t. (b ∷ t) ∷ without_empty ts) (append-nil text)

ended : (ids : List (List ℕ)) (current : List ℕ) (c : ℕ) (rest : List ℕ) → is_whitespace c ≡ true →
    ids_after ids current (c ∷ rest) ≡ ids_after (ids ++ id_list current) [] rest
ended ids current c rest is =
    ap (λ (b : Bool). ids ++ without_empty (onto current (map encode_utf8_all (cond b ([] ∷ pieces rest) (with_character c (pieces rest)))))) is
    ∙ ap (λ l. ids ++ l) (without_empty-cons current (texts rest) ∙ ap (λ (ts : List (List ℕ)). id_list current ++ without_empty ts) (sym (onto-nothing rest)))
    ∙ sym (append_assoc ids (id_list current) (without_empty (onto [] (texts rest))))

onto-longer : (current : List ℕ) (c : ℕ) (ps : List (List ℕ)) →
    onto current (map encode_utf8_all (with_character c ps)) ≡ onto (current ++ encode_utf8 c) (map encode_utf8_all ps)
onto-longer current c [] = ap (λ t. (current ++ t) ∷ []) (append-nil (encode_utf8 c))
onto-longer current c (p ∷ ps) = ap (λ t. t ∷ map encode_utf8_all ps) (sym (append_assoc current (encode_utf8 c) (encode_utf8_all p)))

longer : (ids : List (List ℕ)) (current : List ℕ) (c : ℕ) (rest : List ℕ) → is_whitespace c ≡ false →
    ids_after ids current (c ∷ rest) ≡ ids_after ids (current ++ encode_utf8 c) rest
longer ids current c rest is =
    ap (λ (b : Bool). ids ++ without_empty (onto current (map encode_utf8_all (cond b ([] ∷ pieces rest) (with_character c (pieces rest)))))) is
    ∙ ap (λ (ts : List (List ℕ)). ids ++ without_empty ts) (onto-longer current c (pieces rest))

-- one character more
pub read-next : (read current new_current : List ℕ) (ids new_ids : List (List ℕ)) (c : ℕ) → IdsRead read ids current →
    (is_whitespace c ≡ true → (new_ids ≡ ids ++ id_list current) × (new_current ≡ [])) →
    (is_whitespace c ≡ false → (new_ids ≡ ids) × (new_current ≡ current ++ encode_utf8 c)) → IdsRead (read ++ c ∷ []) new_ids new_current
read-next read current new_current ids new_ids c so_far space word = by (is_whitespace c) refl
  where
    first : (rest : List ℕ) → ids_after [] [] ((read ++ c ∷ []) ++ rest) ≡ ids_after ids current (c ∷ rest)
    first rest = ap (ids_after [] []) (append_assoc read (c ∷ []) rest) ∙ so_far.goes_on (c ∷ rest)

    by : (b : Bool) → is_whitespace c ≡ b → IdsRead (read ++ c ∷ []) new_ids new_current
    by true e = let h = space e in record { goes_on = λ rest. first rest ∙ ended ids current c rest e ∙ rw (h.0, h.1) refl }
    by false e = let h = word e in record { goes_on = λ rest. first rest ∙ longer ids current c rest e ∙ rw (h.0, h.1) refl }

-- all characters
pub read-all : (text current : List ℕ) (ids : List (List ℕ)) → IdsRead (chars text) ids current → ids ++ id_list current ≡ ids_in text
read-all text current ids so_far =
    ap (λ l. ids ++ l) (sym (append-nil (id_list current)) ∙ sym (without_empty-cons current []))
    ∙ sym (so_far.goes_on [])
    ∙ ap (ids_after [] []) (append-nil (chars text))
    ∙ ap without_empty (onto-nothing (chars text))
