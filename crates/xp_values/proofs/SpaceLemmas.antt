-- Whitespace in a text that grows by one character.
use Rattle.std.proofs.Common.{◌≡◌, ℕ, ◌≤◌, Bool, true, false, not, cond, List, [], ◌∷◌, ◌++◌, length, eqb, eqb-true, refl, sym, ap, ap₂, ◌∙◌, arith}
use Rattle.std.specs.Prelude.{encode_utf8_all}
use Rattle.std.proofs.lemmas.Str.{encodes-append, length-le-encodes}
use Rattle.sch_base.specs.Characters.{is_whitespace}
use Rattle.xp_values.specs.Texts.{begins_word, without_front_spaces, squeezed, added}

-- whether characters end in whitespace
abbrev pub ends_in_space : List ℕ → Bool
ends_in_space [] = false
ends_in_space (c ∷ []) = is_whitespace c
ends_in_space (c ∷ d ∷ characters) = ends_in_space (d ∷ characters)

squeezed-space : (xs : List ℕ) (c : ℕ) → is_whitespace c ≡ true → squeezed (xs ++ c ∷ []) ≡ squeezed xs
squeezed-space [] c w = rw w refl
squeezed-space (x ∷ []) c w = by (is_whitespace x)
  where
    by : (b : Bool) → cond b (cond (not (is_whitespace c)) (32 ∷ squeezed (c ∷ [])) (squeezed (c ∷ []))) (x ∷ squeezed (c ∷ [])) ≡ cond b [] (x ∷ [])
    by true = rw w refl
    by false = rw w refl
squeezed-space (x ∷ y ∷ xs) c w = rw (squeezed-space (y ∷ xs) c w) refl

squeezed-word : (xs : List ℕ) (c : ℕ) → is_whitespace c ≡ false → squeezed (xs ++ c ∷ []) ≡ squeezed xs ++ added (ends_in_space xs) c
squeezed-word [] c w = rw w refl
squeezed-word (x ∷ []) c w = by (is_whitespace x)
  where
    by : (b : Bool) → cond b (cond (not (is_whitespace c)) (32 ∷ squeezed (c ∷ [])) (squeezed (c ∷ []))) (x ∷ squeezed (c ∷ [])) ≡ cond b [] (x ∷ []) ++ added b c
    by true = rw w refl
    by false = rw w refl
squeezed-word (x ∷ y ∷ xs) c w = by (is_whitespace x) (not (is_whitespace y)) (squeezed-word (y ∷ xs) c w)
  where
    by : (b d : Bool) → squeezed ((y ∷ xs) ++ c ∷ []) ≡ squeezed (y ∷ xs) ++ added (ends_in_space (y ∷ xs)) c →
        cond b (cond d (32 ∷ squeezed ((y ∷ xs) ++ c ∷ [])) (squeezed ((y ∷ xs) ++ c ∷ []))) (x ∷ squeezed ((y ∷ xs) ++ c ∷ []))
        ≡ cond b (cond d (32 ∷ squeezed (y ∷ xs)) (squeezed (y ∷ xs))) (x ∷ squeezed (y ∷ xs)) ++ added (ends_in_space (y ∷ xs)) c
    by true true e = ap (λ l. 32 ∷ l) e
    by true false e = e
    by false d e = ap (λ l. x ∷ l) e

-- the characters so far, without whitespace at the front, with one more
abbrev fronted : List ℕ → List ℕ
fronted xs = without_front_spaces xs

front-more : (xs : List ℕ) (c : ℕ) → fronted (xs ++ c ∷ []) ≡ cond (is_whitespace c) (cond (begins_word (fronted xs)) (fronted xs ++ c ∷ []) []) (fronted xs ++ c ∷ [])
front-more [] c = by (is_whitespace c)
  where
    by : (b : Bool) → cond b [] (c ∷ []) ≡ cond b [] (c ∷ [])
    by b = refl
front-more (x ∷ xs) c = by (is_whitespace x) refl (front-more xs c)
  where
    by : (b : Bool) → is_whitespace x ≡ b → fronted (xs ++ c ∷ []) ≡ cond (is_whitespace c) (cond (begins_word (fronted xs)) (fronted xs ++ c ∷ []) []) (fronted xs ++ c ∷ []) →
        fronted ((x ∷ xs) ++ c ∷ []) ≡ cond (is_whitespace c) (cond (begins_word (fronted (x ∷ xs))) (fronted (x ∷ xs) ++ c ∷ []) []) (fronted (x ∷ xs) ++ c ∷ [])
    by true e rest = rw e rest
    by false e rest = rw (e, e) (same (is_whitespace c))
      where
        same : (d : Bool) → x ∷ (xs ++ c ∷ []) ≡ cond d (x ∷ (xs ++ c ∷ [])) (x ∷ (xs ++ c ∷ []))
        same true = refl
        same false = refl

front-word : (xs : List ℕ) (y : ℕ) (ys : List ℕ) → fronted xs ≡ y ∷ ys → is_whitespace y ≡ false
front-word [] y ys e = absurd (cc)
front-word (x ∷ xs) y ys e = by (is_whitespace x) refl e (λ h. front-word xs y ys h)
  where
    by : (b : Bool) → is_whitespace x ≡ b → cond b (fronted xs) (x ∷ xs) ≡ y ∷ ys → (fronted xs ≡ y ∷ ys → is_whitespace y ≡ false) → is_whitespace y ≡ false
    by true w h more = more h
    by false w h more = let same : y ≡ x = (cc) in rw same w

ends-push : (xs : List ℕ) (c : ℕ) → ends_in_space (xs ++ c ∷ []) ≡ is_whitespace c
ends-push [] c = refl
ends-push (x ∷ []) c = refl
ends-push (x ∷ y ∷ xs) c = ends-push (y ∷ xs) c

-- a text normalized so far, and whether a space is pending
pub record Normalized (xs bytes : List ℕ) (pending : Bool) : Type 0 where
  pub text_so_far : bytes ≡ encode_utf8_all (squeezed (without_front_spaces xs))
  pub is_pending : pending ≡ ends_in_space (without_front_spaces xs)

some-bytes : (x : ℕ) (xs : List ℕ) → is_whitespace x ≡ false → not (eqb (length (encode_utf8_all (squeezed (x ∷ xs)))) 0) ≡ true
some-bytes x xs w =
    let longer : 1 ≤ length (squeezed (x ∷ xs)) = rw w (omega arith) in
    by (eqb (length (encode_utf8_all (squeezed (x ∷ xs)))) 0) refl (omega (arith, longer, length-le-encodes (squeezed (x ∷ xs))))
  where
    by : (b : Bool) → eqb (length (encode_utf8_all (squeezed (x ∷ xs)))) 0 ≡ b → 1 ≤ length (encode_utf8_all (squeezed (x ∷ xs))) → not b ≡ true
    by true e h = absurd (omega (arith, h, eqb-true (length (encode_utf8_all (squeezed (x ∷ xs)))) 0 e))
    by false e h = refl

pub normalized_space : (xs bytes : List ℕ) (pending : Bool) (c : ℕ) → Normalized xs bytes pending → is_whitespace c ≡ true →
    Normalized (xs ++ c ∷ []) bytes (not (eqb (length bytes) 0))
normalized_space xs bytes pending c n w = by (fronted xs) refl
  where
    by : (ys : List ℕ) → fronted xs ≡ ys → Normalized (xs ++ c ∷ []) bytes (not (eqb (length bytes) 0))
    by [] e =
        let nothing : fronted (xs ++ c ∷ []) ≡ [] = rw (w, e) at (front-more xs c) in
        let empty : bytes ≡ [] = n.text_so_far ∙ ap (λ l. encode_utf8_all (squeezed l)) e in
        record { text_so_far = rw nothing empty; is_pending = rw (nothing, empty) refl }
    by (y ∷ ys) e =
        let word : is_whitespace y ≡ false = front-word xs y ys e in
        let more : fronted (xs ++ c ∷ []) ≡ (y ∷ ys) ++ c ∷ [] = rw (w, e, word) at (front-more xs c) in
        let same : bytes ≡ encode_utf8_all (squeezed (y ∷ ys)) = n.text_so_far ∙ ap (λ l. encode_utf8_all (squeezed l)) e in
        record {
          text_so_far = same ∙ ap encode_utf8_all (sym (ap squeezed more ∙ squeezed-space (y ∷ ys) c w));
          is_pending = ap (λ l. not (eqb (length l) 0)) same ∙ (some-bytes y ys word ∙ sym (ap ends_in_space more ∙ (ends-push (y ∷ ys) c ∙ w)));
        }

pub normalized_word : (xs bytes : List ℕ) (pending : Bool) (c : ℕ) → Normalized xs bytes pending → is_whitespace c ≡ false →
    Normalized (xs ++ c ∷ []) (bytes ++ encode_utf8_all (added pending c)) false
normalized_word xs bytes pending c n w =
    let more : fronted (xs ++ c ∷ []) ≡ fronted xs ++ c ∷ [] = rw w at (front-more xs c) in
    record {
      text_so_far =
          ap₂ (λ l b. l ++ encode_utf8_all (added b c)) n.text_so_far n.is_pending
          ∙ (sym (encodes-append (squeezed (fronted xs)) (added (ends_in_space (fronted xs)) c))
          ∙ ap encode_utf8_all (sym (ap squeezed more ∙ squeezed-word (fronted xs) c w)));
      is_pending = sym (ap ends_in_space more ∙ (ends-push (fronted xs) c ∙ w));
    }

pub normalized_more : (xs old new : List ℕ) (pending next : Bool) (c : ℕ) → Normalized xs old pending
    → (is_whitespace c ≡ true → (new ≡ old) × (next ≡ not (eqb (length old) 0)))
    → (is_whitespace c ≡ false → (new ≡ old ++ encode_utf8_all (added pending c)) × (next ≡ false)) → Normalized (xs ++ c ∷ []) new next
normalized_more xs old new pending next c n space word = by (is_whitespace c) refl
  where
    by : (b : Bool) → is_whitespace c ≡ b → Normalized (xs ++ c ∷ []) new next
    by true w = let h = space w in rw (h.0, h.1) (normalized_space xs old pending c n w)
    by false w = let h = word w in rw (h.0, h.1) (normalized_word xs old pending c n w)
