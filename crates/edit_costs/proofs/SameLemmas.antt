-- Outcomes of lets that pass the test of sameness are equal, and an outcome passes it with itself.
use Rattle.std.proofs.Common.{◌≡◌, Bool, true, false, Option, None, Some, Result, Ok, Err, refl, ap, sym, subst}
use Rattle.std.proofs.lemmas.Bool.{false≢true}
use Rattle.std.proofs.lemmas.Bool.Decides.{Decides-int_eq}
use Rattle.std.proofs.lemmas.Slice.Eq.{bytes_eq-Decides}
use Rattle.xp_values.specs.declared.numbers.Num.{Num}
use Rattle.xp_values.specs.declared.numbers.Num.TheVariants.{NaN, Whole}
use Rattle.xp_values.specs.declared.values.EvalFault.{EvalFault}
use Rattle.xp_values.specs.declared.values.EvalFault.TheVariants.{NotWhole, NumberRange, TextLimit}
use Rattle.xp_values.specs.declared.values.Value.{Value}
use Rattle.xp_values.specs.declared.values.Value.TheVariants.{NodeSet, Truth, Number, Chars}
use Rattle.edit_costs.specs.SameOutcome.{same_fault, same_number, same_outcome, same_result, same_truth, same_value}

truth-equal : (a b : Bool) → same_truth a b ≡ true → a ≡ b
truth-equal true b h = sym h
truth-equal false true h = h
truth-equal false false h = refl

truth-itself : (a : Bool) → same_truth a a ≡ true
truth-itself true = refl
truth-itself false = refl

number-equal : (x y : Num) → same_number x y ≡ true → x ≡ y
number-equal NaN NaN h = refl
number-equal (Whole x) (Whole y) h = ap Whole ((Decides-int_eq x y).0 h)
number-equal _ _ h = absurd (false≢true h)

number-itself : (x : Num) → same_number x x ≡ true
number-itself NaN = refl
number-itself (Whole x) = (Decides-int_eq x x).1 refl

value-equal : (v w : Value) → same_value v w ≡ true → v ≡ w
value-equal (NodeSet nodes) (NodeSet others) h = ap NodeSet ((bytes_eq-Decides nodes others).0 h)
value-equal (Truth a) (Truth b) h = ap Truth (truth-equal a b h)
value-equal (Number x) (Number y) h = ap Number (number-equal x y h)
value-equal (Chars text) (Chars other) h = ap Chars ((bytes_eq-Decides text other).0 h)
value-equal _ _ h = absurd (false≢true h)

value-itself : (v : Value) → same_value v v ≡ true
value-itself (NodeSet nodes) = (bytes_eq-Decides nodes nodes).1 refl
value-itself (Truth a) = truth-itself a
value-itself (Number x) = number-itself x
value-itself (Chars text) = (bytes_eq-Decides text text).1 refl

fault-equal : (f g : EvalFault) → same_fault f g ≡ true → f ≡ g
fault-equal NotWhole NotWhole h = refl
fault-equal NumberRange NumberRange h = refl
fault-equal TextLimit TextLimit h = refl
fault-equal _ _ h = absurd (false≢true h)

fault-itself : (f : EvalFault) → same_fault f f ≡ true
fault-itself NotWhole = refl
fault-itself NumberRange = refl
fault-itself TextLimit = refl

result-equal : (r s : Result Value EvalFault) → same_result r s ≡ true → r ≡ s
result-equal (Ok v) (Ok w) h = ap Ok (value-equal v w h)
result-equal (Err f) (Err g) h = ap Err (fault-equal f g h)
result-equal _ _ h = absurd (false≢true h)

result-itself : (r : Result Value EvalFault) → same_result r r ≡ true
result-itself (Ok v) = value-itself v
result-itself (Err f) = fault-itself f

pub outcome-equal : (a b : Option (Result Value EvalFault)) → same_outcome a b ≡ true → a ≡ b
outcome-equal None None h = refl
outcome-equal (Some r) (Some s) h = ap Some (result-equal r s h)
outcome-equal _ _ h = absurd (false≢true h)

outcome-itself : (a : Option (Result Value EvalFault)) → same_outcome a a ≡ true
outcome-itself None = refl
outcome-itself (Some r) = result-itself r

pub equal-same : (a b : Option (Result Value EvalFault)) → a ≡ b → same_outcome a b ≡ true
equal-same a b e = subst (λ other. same_outcome a other ≡ true) e (outcome-itself a)
