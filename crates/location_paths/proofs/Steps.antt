-- The step to a kid, read as a step of a path.
use Rattle.std.proofs.Common.{◌∙◌, ◌≡◌, ℕ, ◌<◌, ◌≤◌, ◌^◌, ◌==◌, nat_le, Bool, true, false, ◌&&◌, ◌||◌, List, [], ◌∷◌, ◌++◌, get_or, Option, None, Some, codes, refl, ap, sym, arith}
use Rattle.std.specs.Fmt.{decimal}
use Rattle.std.specs.List.{list_any}
use Rattle.std.specs.Str.{all_ascii_digits}
use Rattle.std.specs.Str.Parse.{AllDigits, digits_value}
use Rattle.std.proofs.lemmas.Bool.Decides.{nat_tests}
use Rattle.std.proofs.lemmas.Fmt.{decimal_is_IsNumeral, digits_decimal, digits_value-decimal, first_decimal}
use Rattle.std.proofs.lemmas.Str.Parse.{IsNumeralModel, digit_at, digit_from_value, numerals_by_value, tells_all_ascii_digits}
use Rattle.std.proofs.lemmas.Fmt.{decimal_nonempty}
use Rattle.sch_base.specs.Characters.{is_slash}
use Rattle.sch_base.specs.Lists.{is_nil}
use Rattle.sch_base.specs.Numbers.{is_leading, number_up_to}
use Rattle.doc_tree.specs.Kinds.{can_be_kid}
use Rattle.doc_tree.specs.kind.Kind.{Kind}
use Rattle.doc_tree.specs.kind.Kind.TheVariants.{Root, Element, Attribute, Text, Comment, Pi}
use Rattle.edit_script.specs.Paths.{bracketed, is_close, is_open, kind_of, number_of, step_of, step_with}
use Rattle.edit_script.specs.declared.command.PathStep.{PathStep}
use Rattle.edit_script.specs.declared.limits.TheConstants.{MAX_PLACE}
use Rattle.location_paths.proofs.Texts.{after, before, lacks-append, passes}

-- the test of a kind of kid
abbrev pub test_of : Kind → List ℕ
test_of Root = []
test_of Element = codes "*"
test_of Attribute = []
test_of Text = codes "text()"
test_of Comment = codes "comment()"
test_of Pi = codes "processing-instruction()"

-- the step without its slash
abbrev pub step_text : Kind → ℕ → List ℕ
step_text kind place = test_of kind ++ 91 ∷ (decimal place ++ 93 ∷ [])

abbrev pub step : Kind → ℕ → PathStep
step kind place = record { kind = kind; index = place }

numerals : IsNumeralModel (λ ds. all_ascii_digits ds ≡ true) (digits_value 10)
numerals = numerals_by_value _ tells_all_ascii_digits

-- digits are none of the other bytes
digits_lack : (p : ℕ → Bool) → ((c : ℕ) → 48 ≤ c → c ≤ 57 → p c ≡ false) → (ds : List ℕ) → AllDigits 10 ds → list_any p ds ≡ false
digits_lack p other [] all = refl
digits_lack p other (d ∷ ds) all =
    let range = digit_from_value d all.0 in
    ap (λ (b : Bool). b || list_any p ds) (other d (omega (arith, range)) (omega (arith, range))) ∙ digits_lack p other ds all.1

number_lacks : (p : ℕ → Bool) → ((c : ℕ) → 48 ≤ c → c ≤ 57 → p c ≡ false) → (n : ℕ) → n < 2 ^ 64 → list_any p (decimal n) ≡ false
number_lacks p other n small = digits_lack p other (decimal n) (decimal_is_IsNumeral n small).0.1

no_close : (c : ℕ) → 48 ≤ c → c ≤ 57 → is_close c ≡ false
no_close c low high = grind (arith, nat_tests, low, high)

no_slash : (c : ℕ) → 48 ≤ c → c ≤ 57 → is_slash c ≡ false
no_slash c low high = grind (arith, nat_tests, low, high)

-- a place is read
leads : (n : ℕ) → 0 < n → n < 2 ^ 64 → is_leading (get_or (decimal n) 0 0) ≡ true
leads n some small =
    let first = first_decimal n some small in
    let range = digit_at (decimal n) 0 (decimal_is_IsNumeral n small).0.1 (decimal_nonempty n small) in
    grind (arith, nat_tests, first, range)

few : (n : ℕ) → n ≤ 262144 → nat_le n MAX_PLACE ≡ true
few n less = grind (arith, nat_tests, less)

number_read : (n : ℕ) → 0 < n → n ≤ 262144 → number_of (decimal n) ≡ Some n
number_read n some less =
    let small : n < 2 ^ 64 = omega (arith, less) in
    rw (leads n some small, digits_decimal numerals n small, digits_value-decimal numerals n small, few n less) refl

bracket_read : (n : ℕ) → 0 < n → n ≤ 262144 → bracketed (decimal n ++ 93 ∷ []) ≡ Some n
bracket_read n some less =
    let small : n < 2 ^ 64 = omega (arith, less) in
    let none = number_lacks is_close no_close n small in
    rw (passes is_close (decimal n) 93 [] refl, after is_close (decimal n) 93 [] none refl, before is_close (decimal n) 93 [] none refl) (number_read n some less)

-- so is a test
test_read : (kind : Kind) → can_be_kid (Some kind) ≡ true → (kind_of (test_of kind) ≡ Some kind) × (list_any is_open (test_of kind) ≡ false) × (list_any is_slash (test_of kind) ≡ false)
unfolding kind_of
test_read Root kid = absurd (cc)
test_read Element kid = (refl, refl, refl)
test_read Attribute kid = absurd (cc)
test_read Text kid = (refl, refl, refl)
test_read Comment kid = (refl, refl, refl)
test_read Pi kid = (refl, refl, refl)

pub step_read : (kind : Kind) (place : ℕ) → can_be_kid (Some kind) ≡ true → 0 < place → place ≤ 262144 → step_of (step_text kind place) ≡ Some (step kind place)
step_read kind place kid some less =
    let test = test_read kind kid in
    let behind : List ℕ = decimal place ++ 93 ∷ [] in
    rw (passes is_open (test_of kind) 91 behind refl, before is_open (test_of kind) 91 behind test.1 refl, after is_open (test_of kind) 91 behind test.1 refl, test.0, bracket_read place some less) refl

pub step_unslashed : (kind : Kind) (place : ℕ) → can_be_kid (Some kind) ≡ true → place ≤ 262144 → list_any is_slash (step_text kind place) ≡ false
step_unslashed kind place kid less =
    let small : place < 2 ^ 64 = omega (arith, less) in
    lacks-append is_slash (test_of kind) (91 ∷ (decimal place ++ 93 ∷ [])) (test_read kind kid).2 (lacks-append is_slash (decimal place) (93 ∷ []) (number_lacks is_slash no_slash place small) refl)
