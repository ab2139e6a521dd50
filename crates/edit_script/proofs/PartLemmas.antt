-- How a text is parted at a byte.
use Rattle.std.proofs.Common.{◌≡◌, ℕ, ◌+◌, ◌<◌, Bool, true, false, List, [], ◌∷◌, length, All, arith, refl, length-drop}
use Rattle.std.specs.List.{list_any, before_first, after_first, position_or_len, slice_split}
use Rattle.std.proofs.lemmas.Bool.{or_parts}
use Rattle.std.proofs.lemmas.Grind.{common_steps}
use Rattle.std.proofs.lemmas.List.Elements.{All-cons, All-nil}
use Rattle.std.proofs.lemmas.List.Splits.{slice_split_first, slice_split_none}
use Rattle.pyx_core.proofs.LineTableLemmas.{after_none}
use Rattle.edit_script.specs.inner.Parts.{Parted, Whole}

place_none : (test : ℕ → Bool) (text : List ℕ) → list_any test text ≡ false → position_or_len test text ≡ length text
place_none test [] none = refl
place_none test (b ∷ text) none = grind (arith, common_steps, place_none test text)

all_none : (test : ℕ → Bool) (text : List ℕ) → list_any test text ≡ false → All (λ b. test b ≡ false) text
all_none test [] none = All-nil (λ b. test b ≡ false)
all_none test (b ∷ text) none =
    let parts = or_parts (test b) (list_any test text) none in All-cons (λ x. test x ≡ false) b text parts.0 (all_none test text parts.1)

place_by : (test : ℕ → Bool) (b : ℕ) (text : List ℕ) (v : Bool) → test b ≡ v → (list_any test text ≡ true → position_or_len test text < length text) →
    list_any test (b ∷ text) ≡ true → position_or_len test (b ∷ text) < length (b ∷ text)
place_by test b text true is rest some = rw is (omega arith)
place_by test b text false is rest some =
    let less = rest (rw is at some) in rw is (omega (arith, less))

place_some : (test : ℕ → Bool) (text : List ℕ) → list_any test text ≡ true → position_or_len test text < length text
place_some test [] some = absurd (cc)
place_some test (b ∷ text) some = place_by test b text (test b) refl (place_some test text) some

some_place : (test : ℕ → Bool) (text : List ℕ) (v : Bool) → list_any test text ≡ v → position_or_len test text < length text → list_any test text ≡ true
some_place test text true is less = is
some_place test text false is less = absurd (omega (arith, place_none test text is))

none_place : (test : ℕ → Bool) (text : List ℕ) (v : Bool) → list_any test text ≡ v → position_or_len test text ≡ length text → list_any test text ≡ false
none_place test text true is same = absurd (omega (arith, place_some test text is))
none_place test text false is same = is

-- no byte passes
pub none_parted : (test : ℕ → Bool) (text : List ℕ) → list_any test text ≡ false → Whole test text
none_parted test text none = record {
  none = none;
  parts = slice_split_none test text (all_none test text none);
  behind = after_none test text (place_none test text none);
}

-- a byte passes
pub some_parted : (test : ℕ → Bool) (text : List ℕ) → list_any test text ≡ true →
    Parted test text (before_first test text) (after_first test text)
some_parted test text some =
    let less = place_some test text some in
    record {
      some = some;
      front_is = refl;
      back_is = refl;
      parts = slice_split_first test text 0 less;
      shorter = omega (arith, length-drop (position_or_len test text + 1) text);
    }

-- the same by the place of the first that passes
pub whole_at : (test : ℕ → Bool) (text : List ℕ) → position_or_len test text ≡ length text → Whole test text
whole_at test text same = none_parted test text (none_place test text (list_any test text) refl same)

pub parted_at : (test : ℕ → Bool) (text front back : List ℕ) → front ≡ before_first test text → back ≡ after_first test text →
    position_or_len test text < length text → Parted test text front back
parted_at test text front back front_is back_is less =
    let some = some_place test text (list_any test text) refl less in
    rw (front_is, back_is) (some_parted test text some)

abbrev pub SomePart : List (List ℕ) → Type 0
SomePart parts = (first : List ℕ) × (others : List (List ℕ)) × (parts ≡ first ∷ others)

parts_by : (test : ℕ → Bool) (text : List ℕ) (v : Bool) → list_any test text ≡ v → SomePart (slice_split test text)
parts_by test text true is =
    (before_first test text, slice_split test (after_first test text), (some_parted test text is).parts)
parts_by test text false is = (text, [], (none_parted test text is).parts)

-- there is a first part
pub some_part : (test : ℕ → Bool) (text : List ℕ) → SomePart (slice_split test text)
some_part test text = parts_by test text (list_any test text) refl
