-- Characters and their counterparts, and a text that grows up to its limit.
use Rattle.std.proofs.Common.{◌≡◌, ℕ, ◌+◌, ◌<◌, ◌≤◌, Bool, true, false, cond, List, [], ◌∷◌, ◌++◌, length, drop, chars, slice_get, eqb, eqb-true, is_some, Option, None, Some, Ok, Err, refl, sym, ap, ◌∙◌, true≢false, arith, length-append, append-nil, append_assoc}
use Rattle.std.specs.Option.{option_or}
use Rattle.std.specs.Prelude.{encode_utf8_all, nat_le, IsUtf8}
use Rattle.std.specs.Str.Iter.{chars_rest, chars_steps}
use Rattle.std.specs.declared.str.Chars.{Chars}
use Rattle.std.specs.List.{flat_map}
use Rattle.std.proofs.lemmas.List.{nil_from_length}
use Rattle.std.proofs.lemmas.Str.{chars-nil, encodes-append, chars_past_char, IsUtf8-past_char}
use Rattle.std.proofs.lemmas.Bool.{leb-true, leb-false}
use Rattle.sch_base.specs.declared.limits.TheConstants.{MAX_TEXT_BYTES}
use Rattle.xp_values.specs.declared.values.EvalFault.TheVariants.{TextLimit}
use Rattle.xp_values.specs.Texts.{counterpart, limited}

-- one character more in `from`
pub counterpart-push : (from to : List ℕ) (f q : ℕ) → counterpart (from ++ f ∷ []) to q ≡ option_or (counterpart from to q) (cond (eqb f q) (Some (slice_get to (length from))) None)
counterpart-push [] [] f q = refl
counterpart-push [] (t ∷ to) f q = refl
counterpart-push (x ∷ from) [] f q = by (eqb x q) (counterpart-push from [] f q)
  where
    by : (b : Bool) → counterpart (from ++ f ∷ []) [] q ≡ option_or (counterpart from [] q) (cond (eqb f q) (Some None) None) →
        cond b (Some None) (counterpart (from ++ f ∷ []) [] q) ≡ option_or (cond b (Some None) (counterpart from [] q)) (cond (eqb f q) (Some None) None)
    by true e = refl
    by false e = e
counterpart-push (x ∷ from) (t ∷ to) f q = by (eqb x q) (counterpart-push from to f q)
  where
    by : (b : Bool) → counterpart (from ++ f ∷ []) to q ≡ option_or (counterpart from to q) (cond (eqb f q) (Some (slice_get to (length from))) None) →
        cond b (Some (Some t)) (counterpart (from ++ f ∷ []) to q) ≡ option_or (cond b (Some (Some t)) (counterpart from to q)) (cond (eqb f q) (Some (slice_get to (length from))) None)
    by true e = refl
    by false e = e

-- so many characters of `to` are passed over as there are in `from`, and the rest is a text
pub record Beside (from to rest : List ℕ) : Type 0 where
  pub utf8 : IsUtf8 rest
  pub left : chars rest ≡ drop (length from) to

pub beside_start : (to : List ℕ) → IsUtf8 to → Beside [] (chars to) to
beside_start to u = record { utf8 = u; left = refl }

drop_more : (from to : List ℕ) (f : ℕ) → drop (length (from ++ f ∷ [])) to ≡ drop 1 (drop (length from) to)
drop_more [] [] f = refl
drop_more [] (t ∷ to) f = refl
drop_more (x ∷ from) [] f = refl
drop_more (x ∷ from) (t ∷ to) f = drop_more from to f

-- one character more of each, where there is one
pub beside_more : (from to : List ℕ) (f : ℕ) (s t : Chars) (o : Option ℕ) → Beside from to (chars_rest s) → chars_steps s o t → Beside (from ++ f ∷ []) to (chars_rest t)
beside_more from to f s t None b steps =
    let empty : chars_rest s ≡ [] = nil_from_length (chars_rest s) steps.0.0 in
    let same : chars_rest t ≡ chars_rest s = ap chars_rest steps.0.1 in
    let none : chars (chars_rest s) ≡ [] = ap chars empty ∙ chars-nil in
    record {
      utf8 = rw same b.utf8;
      left = ap chars same ∙ (none ∙ sym (drop_more from to f ∙ ap (drop 1) (sym b.left ∙ none)));
    }
beside_more from to f s t (Some c) b steps = record {
  utf8 = IsUtf8-past_char (chars_rest s) (chars_rest t) c b.utf8 steps.0;
  left = ap (drop 1) (sym (chars_past_char (chars_rest s) (chars_rest t) c b.utf8 steps.0) ∙ b.left) ∙ sym (drop_more from to f);
}

pick_past : (from to : List ℕ) → slice_get (drop (length from) to) 0 ≡ slice_get to (length from)
pick_past [] to = refl
pick_past (x ∷ from) [] = refl
pick_past (x ∷ from) (t ∷ to) = pick_past from to

beside_here : (from to rest : List ℕ) → Beside from to rest → slice_get (chars rest) 0 ≡ slice_get to (length from)
beside_here from to rest b = ap (λ l. slice_get l 0) b.left ∙ pick_past from to

-- a character takes the one beside it, unless it was there before
pub one_counterpart : (from to rest : List ℕ) (f : ℕ) (o : Option ℕ) → Beside from to rest → o ≡ slice_get (chars rest) 0 → (q : ℕ) →
    counterpart (from ++ f ∷ []) to q ≡ option_or (counterpart from to q) (cond (eqb f q) (Some o) None)
one_counterpart from to rest f o b here q =
    counterpart-push from to f q ∙ ap (λ x. option_or (counterpart from to q) (cond (eqb f q) (Some x) None)) (sym (here ∙ beside_here from to rest b))

or-none : (o : Option (Option ℕ)) → option_or o None ≡ o
or-none None = refl
or-none (Some x) = refl

or-some : (o other : Option (Option ℕ)) → is_some o ≡ true → o ≡ option_or o other
or-some None other h = absurd (true≢false (sym h))
or-some (Some x) other h = refl

or-other : (o other : Option (Option ℕ)) → is_some o ≡ false → other ≡ option_or o other
or-other None other h = refl
or-other (Some x) other h = absurd (true≢false h)

-- what is kept of each character, where one is kept that was not kept before, and where one is kept already
module _ (kept : ℕ → Option (Option ℕ)) (f : ℕ) (o : Option ℕ) where
  pub kept_anew : is_some (kept f) ≡ false → (q : ℕ) → cond (eqb f q) (Some o) (kept q) ≡ option_or (kept q) (cond (eqb f q) (Some o) None)
  kept_anew none q = by (eqb f q) refl
    where
      by : (b : Bool) → eqb f q ≡ b → cond b (Some o) (kept q) ≡ option_or (kept q) (cond b (Some o) None)
      by true e = or-other (kept q) (Some o) (ap (λ k. is_some (kept k)) (sym (eqb-true f q e)) ∙ none)
      by false e = sym (or-none (kept q))

  pub kept_already : is_some (kept f) ≡ true → (q : ℕ) → kept q ≡ option_or (kept q) (cond (eqb f q) (Some o) None)
  kept_already some q = by (eqb f q) refl
    where
      by : (b : Bool) → eqb f q ≡ b → kept q ≡ option_or (kept q) (cond b (Some o) None)
      by true e = or-some (kept q) (Some o) (ap (λ k. is_some (kept k)) (sym (eqb-true f q e)) ∙ some)
      by false e = sym (or-none (kept q))

-- a text so far, which stays within its limit or was found to pass it
pub record Limited (f : ℕ → List ℕ) (xs bytes : List ℕ) (fits : Bool) : Type 0 where
  pub small : length bytes ≤ MAX_TEXT_BYTES
  pub so_far : fits ≡ true → bytes ≡ encode_utf8_all (flat_map f xs)
  pub past : fits ≡ false → MAX_TEXT_BYTES < length (encode_utf8_all (flat_map f xs))

flat_map-push : (f : ℕ → List ℕ) (xs : List ℕ) (c : ℕ) → flat_map f (xs ++ c ∷ []) ≡ flat_map f xs ++ f c
flat_map-push f [] c = append-nil (f c)
flat_map-push f (x ∷ xs) c = ap (λ l. f x ++ l) (flat_map-push f xs c) ∙ simp append_assoc

bytes-push : (f : ℕ → List ℕ) (xs : List ℕ) (c : ℕ) → encode_utf8_all (flat_map f (xs ++ c ∷ [])) ≡ encode_utf8_all (flat_map f xs) ++ encode_utf8_all (f c)
bytes-push f xs c = ap encode_utf8_all (flat_map-push f xs c) ∙ encodes-append (flat_map f xs) (f c)

pub limited_past : (f : ℕ → List ℕ) (xs bytes : List ℕ) (c : ℕ) → Limited f xs bytes false → Limited f (xs ++ c ∷ []) bytes false
limited_past f xs bytes c l = record {
  small = l.small;
  so_far = λ e. absurd (true≢false (sym e));
  past = λ e. rw bytes-push (omega (arith, l.past refl, length-append (encode_utf8_all (flat_map f xs)) (encode_utf8_all (f c))));
}

pub limited_more : (f : ℕ → List ℕ) (xs old new : List ℕ) (c : ℕ) (next : Bool) → Limited f xs old true → length new ≤ MAX_TEXT_BYTES
    → (next ≡ true → new ≡ old ++ encode_utf8_all (f c)) → (next ≡ false → MAX_TEXT_BYTES < length old + length (encode_utf8_all (f c))) → Limited f (xs ++ c ∷ []) new next
limited_more f xs old new c next l small pushed past = record {
  small = small;
  so_far = λ e. pushed e ∙ (ap (λ b. b ++ encode_utf8_all (f c)) (l.so_far refl) ∙ sym (bytes-push f xs c));
  past = λ e. rw bytes-push (omega (arith, past e, ap length (l.so_far refl), length-append (encode_utf8_all (flat_map f xs)) (encode_utf8_all (f c))));
}

pub limited_none : (f : ℕ → List ℕ) (bytes : List ℕ) → bytes ≡ [] → Limited f [] bytes true
limited_none f bytes e = record { small = rw e (omega arith); so_far = λ h. e; past = λ h. absurd (true≢false h) }

pub limited_fits : (f : ℕ → List ℕ) (xs bytes : List ℕ) → Limited f xs bytes true → limited (encode_utf8_all (flat_map f xs)) ≡ Ok bytes
limited_fits f xs bytes l = by (nat_le (length (encode_utf8_all (flat_map f xs))) MAX_TEXT_BYTES) refl
  where
    by : (b : Bool) → nat_le (length (encode_utf8_all (flat_map f xs))) MAX_TEXT_BYTES ≡ b → cond b (Ok (encode_utf8_all (flat_map f xs))) (Err TextLimit) ≡ Ok bytes
    by true e = ap Ok (sym (l.so_far refl))
    by false e = absurd (omega (arith, leb-false (length (encode_utf8_all (flat_map f xs))) MAX_TEXT_BYTES e, l.small, ap length (l.so_far refl)))

pub limited_fault : (f : ℕ → List ℕ) (xs bytes : List ℕ) → Limited f xs bytes false → limited (encode_utf8_all (flat_map f xs)) ≡ Err TextLimit
limited_fault f xs bytes l = by (nat_le (length (encode_utf8_all (flat_map f xs))) MAX_TEXT_BYTES) refl
  where
    by : (b : Bool) → nat_le (length (encode_utf8_all (flat_map f xs))) MAX_TEXT_BYTES ≡ b → cond b (Ok (encode_utf8_all (flat_map f xs))) (Err TextLimit) ≡ Err TextLimit
    by true e = absurd (omega (arith, leb-true (length (encode_utf8_all (flat_map f xs))) MAX_TEXT_BYTES e, l.past refl))
    by false e = refl
