-- Values are bounded where all that they are made of is.
use Rattle.std.proofs.Common.{◌≡◌, ℕ, zero, suc, ◌≤◌, Bool, true, false, cond, List, [], ◌∷◌, length, Result, Ok, Err, refl, sym, subst, arith as numbers, leb, leb-true, ℤ, pos, negsuc, ◌+ℤ◌, ◌-ℤ◌, ◌*ℤ◌, int_rem, unsigned_abs, codes}
use Rattle.std.specs.Prelude.{filter, map}
use Rattle.std.specs.List.{AllByRecursion as Each}
use Rattle.std.specs.Ordering.{int_eq}
use Rattle.std.specs.Fmt.{signed_decimal}
use Rattle.std.proofs.lemmas.Fmt.{IsAscii-signed, length_signed_le}
use Rattle.std.proofs.lemmas.Str.{IsUtf8-from_ascii}
use Rattle.doc_tree.specs.Lists.{mem}
use Rattle.doc_tree.specs.Table.{Table}
use Rattle.doc_tree.specs.Walks.{order, string_value_of}
use Rattle.doc_axes.specs.Sets.{in_order, IsNodeSet}
use Rattle.doc_axes.proofs.SubLists as subs
use Rattle.doc_axes.proofs.SubLists.{Sub}
use Rattle.xp_tree.specs.declared.numbers.TheConstants.{MAX_WHOLE}
use Rattle.xp_tree.specs.declared.operators.ArithOp.{ArithOp}
use Rattle.xp_tree.specs.declared.operators.ArithOp.TheVariants as ops
use Rattle.xp_tree.specs.declared.operators.Comparison.{Comparison}
use Rattle.xp_tree.specs.Decimals.{decimal_value}
use Rattle.xp_outcome.specs.Evaluation.{Read, Evaluation, done, given, bind, visits, all_reading, gather}
use Rattle.xp_values.specs.declared.values.Value.{Value}
use Rattle.xp_values.specs.declared.values.Value.TheVariants.{NodeSet, Truth, Number, Chars}
use Rattle.xp_values.specs.declared.values.EvalFault.{EvalFault}
use Rattle.xp_values.specs.declared.values.EvalFault.TheVariants.{NumberRange, NotWhole}
use Rattle.xp_values.specs.declared.numbers.Num.{Num}
use Rattle.xp_values.specs.declared.numbers.Num.TheVariants.{NaN, Whole}
use Rattle.xp_values.specs.Numbers.{InRange, whole_number, combined as joined, arith}
use Rattle.xp_values.specs.Numerals.{is_space, is_digit, front, past, has_minus, past_minus, fraction, past_fraction, are_zeros, signed, number_written, number_ended, text_to_number}
use Rattle.xp_values.specs.Conversions.{first_text, to_text, truth_number, to_number}
use Rattle.xp_values.specs.Outcomes.{then_of}
use Rattle.xp_meaning.specs.declared.want.Want.{Want}
use Rattle.xp_meaning.specs.declared.want.Want.TheVariants.{AsItIs, AsText, AsNumber}
use Rattle.xp_meaning.specs.declared.context.Context.{Context}
use Rattle.xp_meaning.specs.Reads.{text_read, taking}
use Rattle.xp_meaning.specs.Conversions.{nodes_of, first_of, text_in, number_in, compare_in, sum_from, sum_in, as_wanted}
use Rattle.xp_meaning.specs.Operators.{negated}
use Rattle.xp_meaning.specs.Paths.{Meaning, Step, filtered, step_at, step_from, path}
use Rattle.xp_meaning.specs.Evaluation.{Operand, compared, combined, values}
use Rattle.xp_meaning.proofs.Choices.{same_ok, filtered-sub}
use Rattle.xp_meaning_laws.specs.Bounds.{IsText, IsBounded, IsPlacedInRange}
use Rattle.xp_meaning_laws.proofs.EachLemmas.{each-all}
use Rattle.xp_meaning_laws.proofs.Parts.{Any}
use Rattle.xp_meaning_laws.proofs.Sound.{Sound, sound_done, sound_given, sound_behind, sound_bind, sound_gather}
use Rattle.xp_meaning_laws.proofs.TextBounds.{no_text}

-- results whose numbers are in range
abbrev pub Ranged : Result Num EvalFault → Type 0
Ranged r = (x : Num) → r ≡ Ok x → InRange x

ranged-ok : (n : Num) → InRange n → Ranged (Ok n)
ranged-ok n h x e = subst InRange (same_ok {F = EvalFault} n x e) h

ranged-err : (f : EvalFault) → Ranged (Err f)
ranged-err f x e = cc

ranged-cond : (b : Bool) (r q : Result Num EvalFault) → Ranged r → Ranged q → Ranged (cond b r q)
ranged-cond true r q h k = h
ranged-cond false r q h k = k

ranged-then : {A : Type 0} (r : Result A EvalFault) (next : A → Result Num EvalFault) → ((v : A) → r ≡ Ok v → Ranged (next v)) → Ranged (then_of r next)
ranged-then (Ok v) next h = h v refl
ranged-then (Err f) next h = ranged-err f

whole-ranged : (z : ℤ) → Ranged (whole_number z)
whole-ranged z = by (leb (unsigned_abs z) MAX_WHOLE) refl
  where
    by : (b : Bool) → leb (unsigned_abs z) MAX_WHOLE ≡ b → Ranged (cond b (Ok (Whole z)) (Err NumberRange))
    by true e = ranged-ok (Whole z) (leb-true (unsigned_abs z) MAX_WHOLE e)
    by false e = ranged-err NumberRange

joined-ranged : (op : ArithOp) (x y : ℤ) → Ranged (joined op x y)
joined-ranged ops.Add x y = whole-ranged (x +ℤ y)
joined-ranged ops.Sub x y = whole-ranged (x -ℤ y)
joined-ranged ops.Mul x y = whole-ranged (x *ℤ y)
joined-ranged ops.Mod x y = ranged-cond (int_eq y (pos 0)) (Ok NaN) (whole_number (int_rem x y)) (ranged-ok NaN tt) (whole-ranged (int_rem x y))

arith-ranged : (op : ArithOp) (a b : Num) → Ranged (arith op a b)
arith-ranged op NaN b = ranged-ok NaN tt
arith-ranged op (Whole x) NaN = ranged-ok NaN tt
arith-ranged op (Whole x) (Whole y) = joined-ranged op x y

pub negated-ranged : (signs : ℕ) (n : Num) → InRange n → Ranged (negated signs n)
negated-ranged zero n h = ranged-ok n h
negated-ranged (suc signs) n h =
    ranged-then (arith ops.Sub (Whole (pos 0)) n) (λ m. negated signs m) (λ m e. negated-ranged signs m (arith-ranged ops.Sub (Whole (pos 0)) n m e))

written-ranged : (negative : Bool) (digits more : List ℕ) → Ranged (number_written negative digits more)
written-ranged negative digits more = ranged-cond (are_zeros more) (whole_number (signed negative (decimal_value digits))) (Err NotWhole) (whole-ranged (signed negative (decimal_value digits))) (ranged-err NotWhole)

ended-ranged : (negative : Bool) (digits more rest : List ℕ) → Ranged (number_ended negative digits more rest)
ended-ranged negative digits more rest = ranged-cond _ (number_written negative digits more) (Ok NaN) (written-ranged negative digits more) (ranged-ok NaN tt)

text-ranged : (s : List ℕ) → Ranged (text_to_number s)
text-ranged s =
    let t : List ℕ = past_minus (past is_space s) in
    let u : List ℕ = past is_digit t in
    ended-ranged (has_minus (past is_space s)) (front is_digit t) (fraction u) (past_fraction u)

truth-ranged : (b : Bool) → InRange (truth_number b)
truth-ranged true = omega numbers
truth-ranged false = omega numbers

number-text : (z : ℤ) → InRange (Whole z) → IsText (signed_decimal z)
number-text (pos n) h =
    let most : n ≤ 9007199254740991 = h in
    (IsUtf8-from_ascii (signed_decimal (pos n)) (IsAscii-signed (pos n) (omega (numbers, most))), omega (numbers, length_signed_le 17 (pos n) (omega (numbers, most)) (omega (numbers, most))))
number-text (negsuc n) h =
    let most : suc n ≤ 9007199254740991 = h in
    (IsUtf8-from_ascii (signed_decimal (negsuc n)) (IsAscii-signed (negsuc n) (omega (numbers, most))), omega (numbers, length_signed_le 17 (negsuc n) (omega (numbers, most)) (omega (numbers, most))))

-- shorter lists
pub filter-shorter : (p : ℕ → Bool) (xs : List ℕ) → length (filter p xs) ≤ length xs
filter-shorter p [] = omega numbers
filter-shorter p (x ∷ xs) =
    elim (p x) as (λ b. length (cond b (x ∷ filter p xs) (filter p xs)) ≤ length (x ∷ xs)) [
      | true ↦ omega (numbers, filter-shorter p xs)
      | false ↦ omega (numbers, filter-shorter p xs)
    ]

sub-shorter : {xs ys : List ℕ} → Sub xs ys → length xs ≤ length ys
sub-shorter subs.done = omega numbers
sub-shorter (subs.skip s) = omega (numbers, sub-shorter s)
sub-shorter (subs.keep s) = omega (numbers, sub-shorter s)

-- of these evaluations any may read what it does
abbrev pub AnyRead : Read → Type 0
AnyRead r = Unit {0}

pub by_answer : {A : Type 0} (P : A → Type 0) (m : Evaluation EvalFault A) → ((v : A) → m.answer ≡ Ok v → P v) → Sound AnyRead P m
by_answer P m h = record { reads = each-all AnyRead (λ r. tt) m.reads; answer = λ v e. h v e }

-- the string-values of a tree are texts
abbrev pub StringsFit : Table → Type 0
StringsFit T = (n : ℕ) → IsText (string_value_of T n)

module _ (T : Table) (strings : StringsFit T) (some : 1 ≤ length (order T)) where
  -- no more nodes than the tree has
  abbrev pub Few : List ℕ → Type 0
  Few ns = length ns ≤ length (order T)

  -- bounded, with few nodes
  abbrev pub Small : Value → Type 0
  Small (NodeSet ns) = Few ns
  Small (Truth b) = Unit {0}
  Small (Number n) = InRange n
  Small (Chars s) = IsText s

  pub bounded : (v : Value) → Small v → IsBounded v
  bounded (NodeSet ns) h = tt
  bounded (Truth b) h = tt
  bounded (Number n) h = h
  bounded (Chars s) h = h

  pub small : (v : Value) → IsBounded v → ((ns : List ℕ) → v ≡ NodeSet ns → IsNodeSet T ns) → Small v
  small (NodeSet ns) h k = subst Few (sym (k ns refl)) (filter-shorter (λ m. mem m ns) (order T))
  small (Truth b) h k = tt
  small (Number n) h k = h
  small (Chars s) h k = h

  pub few_nodes : (v : Value) → Small v → Few (nodes_of v)
  few_nodes (NodeSet ns) h = h
  few_nodes (Truth b) h = omega numbers
  few_nodes (Number n) h = omega numbers
  few_nodes (Chars s) h = omega numbers

  -- conversions
  to_text-fits : (v : Value) → Small v → IsText (to_text T v)
  unfolding lib.Utf8.encode
  to_text-fits (NodeSet []) h = no_text
  to_text-fits (NodeSet (n ∷ ns)) h = strings n
  to_text-fits (Truth true) h = ((codes "true", (refl, refl)), omega numbers)
  to_text-fits (Truth false) h = ((codes "false", (refl, refl)), omega numbers)
  to_text-fits (Number NaN) h = ((codes "NaN", (refl, refl)), omega numbers)
  to_text-fits (Number (Whole z)) h = number-text z h
  to_text-fits (Chars s) h = h

  to_number-ranged : (v : Value) → Small v → Ranged (to_number T v)
  to_number-ranged (NodeSet ns) h = text-ranged (first_text T ns)
  to_number-ranged (Truth b) h = ranged-ok (truth_number b) (truth-ranged b)
  to_number-ranged (Number n) h = ranged-ok n h
  to_number-ranged (Chars s) h = text-ranged s

  sum-ranged : (total : Num) (ns : List ℕ) → InRange total → Ranged (sum_from T total ns)
  sum-ranged total [] h = ranged-ok total h
  sum-ranged total (n ∷ ns) h =
      ranged-then (text_to_number (string_value_of T n)) (λ number. then_of (arith ops.Add total number) (λ sum. sum_from T sum ns))
      (λ number e. ranged-then (arith ops.Add total number) (λ sum. sum_from T sum ns) (λ sum k. sum-ranged sum ns (arith-ranged ops.Add total number sum k)))

  taking_fits : {A : Type 0} (P : A → Type 0) (ns : List ℕ) (m : Evaluation EvalFault A) → Sound AnyRead P m → Sound AnyRead P (taking T ns m)
  unfolding taking all_reading visits
  taking_fits P ns m k =
      sound_behind AnyRead P (map (text_read T) ns) 0 (visits (length ns) m) (each-all AnyRead (λ r. tt) (map (text_read T) ns)) (sound_behind AnyRead P [] (length ns) m tt k)

  pub text_fits : (v : Value) → Small v → Sound AnyRead IsText (text_in T v)
  unfolding text_in
  text_fits v h = taking_fits IsText (first_of (nodes_of v)) (done (to_text T v)) (sound_done AnyRead IsText (to_text T v) (to_text-fits v h))

  pub number_fits : (v : Value) → Small v → Sound AnyRead InRange (number_in T v)
  unfolding number_in
  number_fits v h = taking_fits InRange (first_of (nodes_of v)) (given (to_number T v)) (sound_given AnyRead InRange (to_number T v) (λ x e. to_number-ranged v h x e))

  pub sum_fits : (ns : List ℕ) → Sound AnyRead InRange (sum_in T ns)
  unfolding sum_in
  sum_fits ns =
      taking_fits InRange ns (given (sum_from T (Whole (pos 0)) ns))
      (sound_given AnyRead InRange (sum_from T (Whole (pos 0)) ns) (λ x e. sum-ranged (Whole (pos 0)) ns (omega numbers) x e))

  wanted_fits : (w : Want) (v : Value) → Small v → Sound AnyRead Small (as_wanted T w v)
  wanted_fits AsItIs v h = sound_done AnyRead Small v h
  wanted_fits AsText v h = sound_bind AnyRead IsText Small (text_in T v) (λ s. done (Chars s)) (text_fits v h) (λ s k. sound_done AnyRead Small (Chars s) k)
  wanted_fits AsNumber v h = sound_bind AnyRead InRange Small (number_in T v) (λ n. done (Number n)) (number_fits v h) (λ n k. sound_done AnyRead Small (Number n) k)

  -- predicates keep some nodes, and a path selects nodes of the tree
  pub filtered_few : (ps : List Meaning) (current : ℕ) (ns : List ℕ) → Few ns → Sound AnyRead Few (filtered ps current ns)
  filtered_few ps current ns h =
      by_answer Few (filtered ps current ns) (λ ms e. let s = sub-shorter (filtered-sub ps current ns ms e) in omega (numbers, s, h))

  pub path_few : (ss : List Step) (current : ℕ) (ns : List ℕ) → Few ns → Sound AnyRead Few (path T ss current ns)
  path_few [] current ns h = sound_done AnyRead Few ns h
  path_few (s ∷ ss) current ns h =
      sound_bind AnyRead Few Few (step_from T s current ns) (λ ms. path T ss current ms)
      (sound_bind AnyRead Any Few (gather (λ _ n. step_at T s current n) (λ _ _ ms. ms) 1 ns) (λ ms. done (in_order T ms))
      (by_answer Any (gather (λ _ n. step_at T s current n) (λ _ _ ms. ms) 1 ns) (λ ms e. tt))
      (λ ms e. sound_done AnyRead Few (in_order T ms) (filter-shorter (λ m. mem m ms) (order T))))
      (λ ms k. path_few ss current ms k)

  -- operands
  abbrev pub Fit : Meaning → Type 0
  Fit m = (c : Context) → IsPlacedInRange c → Sound AnyRead Small (m c)

  pub compared_fits : (ms : List (Operand Comparison)) (v : Value) (c : Context) → Small v → Sound AnyRead Small (compared T ms v c)
  compared_fits [] v c h = sound_done AnyRead Small v h
  compared_fits (m ∷ ms) v c h =
      sound_bind AnyRead Any Small (m.meaning c) (λ w. bind (compare_in T m.operator v w) (λ truth. compared T ms (Truth truth) c)) (by_answer Any (m.meaning c) (λ w e. tt))
      (λ w k. sound_bind AnyRead Any Small (compare_in T m.operator v w) (λ truth. compared T ms (Truth truth) c) (by_answer Any (compare_in T m.operator v w) (λ b e. tt))
      (λ b e. compared_fits ms (Truth b) c tt))

  pub combined_fits : (ms : List (Operand ArithOp)) (x : Num) (c : Context) → InRange x → Sound AnyRead InRange (combined T ms x c)
  combined_fits [] x c h = sound_done AnyRead InRange x h
  combined_fits (m ∷ ms) x c h =
      sound_bind AnyRead Any InRange (m.meaning c) (λ w. bind (number_in T w) (λ y. bind (given (arith m.operator x y)) (λ z. combined T ms z c))) (by_answer Any (m.meaning c) (λ w e. tt))
      (λ w k. sound_bind AnyRead Any InRange (number_in T w) (λ y. bind (given (arith m.operator x y)) (λ z. combined T ms z c)) (by_answer Any (number_in T w) (λ y e. tt))
      (λ y k. sound_bind AnyRead InRange InRange (given (arith m.operator x y)) (λ z. combined T ms z c)
      (sound_given AnyRead InRange (arith m.operator x y) (λ z e. arith-ranged m.operator x y z e)) (λ z e. combined_fits ms z c e)))

  pub values_fit : (want : ℕ → Want) (ms : List Meaning) (c : Context) → IsPlacedInRange c → Each Fit ms → Sound AnyRead (Each Small) (values T want ms c)
  values_fit want ms c at gs =
      sound_gather AnyRead Fit Small Small (λ i m. bind (m c) (λ v. as_wanted T (want i) v)) (λ _ _ v. v ∷ [])
      (λ i m g. sound_bind AnyRead Small Small (m c) (λ v. as_wanted T (want i) v) (g c at) (λ v h. wanted_fits (want i) v h))
      (λ i m v g h. (h, tt)) 0 ms gs
