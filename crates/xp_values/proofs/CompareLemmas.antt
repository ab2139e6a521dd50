-- Texts as numbers, one after another.
use Rattle.std.proofs.Common.{◌≡◌, ℕ, ◌+◌, ◌<◌, suc, zero, List, [], ◌∷◌, ◌++◌, length, take, map, get_or, Result, Ok, Err, refl, sym, ap, ap₂, subst, ◌∙◌, arith}
use Rattle.std.specs.Prelude.{IsErrAnd}
use Rattle.std.proofs.lemmas.List.{take_more, map-append}
use Rattle.xp_values.specs.declared.numbers.Num.{Num}
use Rattle.xp_values.specs.declared.values.EvalFault.{EvalFault}
use Rattle.xp_values.specs.Comparisons.{all_numbers}
use Rattle.xp_values.specs.Numerals.{text_to_number}
use Rattle.xp_values.specs.declared.values.EvalError.{EvalError}
use Rattle.xp_values.specs.declared.values.EvalError.TheVariants.{Fault, Memory}
use Rattle.xp_values.specs.Outcomes.{Gives, then_of}

-- one after another, whichever way they are grouped
regrouped : (r : Result Num EvalFault) (s t : Result (List Num) EvalFault) →
    then_of r (λ x. then_of (then_of s (λ xs. then_of t (λ ys. Ok (xs ++ ys)))) (λ all. Ok (x ∷ all)))
    ≡ then_of (then_of r (λ x. then_of s (λ xs. Ok (x ∷ xs)))) (λ xs. then_of t (λ ys. Ok (xs ++ ys)))
regrouped (Err fault) s t = refl
regrouped (Ok x) (Err fault) t = refl
regrouped (Ok x) (Ok xs) (Err fault) = refl
regrouped (Ok x) (Ok xs) (Ok ys) = refl

alone : (t : Result (List Num) EvalFault) → t ≡ then_of t (λ ys. Ok ys)
alone (Ok ys) = refl
alone (Err fault) = refl

-- the texts of two lists
numbers_append : (texts more : List (List ℕ)) → all_numbers (texts ++ more) ≡ then_of (all_numbers texts) (λ xs. then_of (all_numbers more) (λ ys. Ok (xs ++ ys)))
numbers_append [] more = alone (all_numbers more)
numbers_append (t ∷ texts) more =
    ap (λ r. then_of (text_to_number t) (λ x. then_of r (λ all. Ok (x ∷ all)))) (numbers_append texts more) ∙ regrouped (text_to_number t) (all_numbers texts) (all_numbers more)

-- one more text
numbers_more : (texts : List (List ℕ)) (text : List ℕ) (numbers : List Num) (number : Num) → all_numbers texts ≡ Ok numbers → text_to_number text ≡ Ok number →
    all_numbers (texts ++ text ∷ []) ≡ Ok (numbers ++ number ∷ [])
numbers_more texts text numbers number so e =
    numbers_append texts (text ∷ []) ∙ ap₂ (λ r t. then_of r (λ xs. then_of (then_of t (λ x. Ok (x ∷ []))) (λ ys. Ok (xs ++ ys)))) so e

-- a fault at one text is that of all
numbers_fault : (texts more : List (List ℕ)) (text : List ℕ) (numbers : List Num) (fault : EvalFault) → all_numbers texts ≡ Ok numbers → text_to_number text ≡ Err fault →
    all_numbers (texts ++ text ∷ more) ≡ Err fault
numbers_fault texts more text numbers fault so e =
    numbers_append texts (text ∷ more) ∙ ap₂ (λ r t. then_of r (λ xs. then_of (then_of t (λ x. then_of (all_numbers more) (λ rest. Ok (x ∷ rest)))) (λ ys. Ok (xs ++ ys)))) so e

-- the answer at one text is that of all, where it is a fault
pub error_of_all : (texts more : List (List ℕ)) (text : List ℕ) (numbers : List Num) (error : EvalError) → all_numbers texts ≡ Ok numbers →
    Gives {A = Num} (Err error) (text_to_number text) → Gives {A = List Num} (Err error) (all_numbers (texts ++ text ∷ more))
error_of_all texts more text numbers (Fault fault) so h = numbers_fault texts more text numbers fault so h
error_of_all texts more text numbers Memory so h = tt

-- a list split at a place
record SplitAt (items : List ℕ) (i n : ℕ) : Type 0 where
  rest : List ℕ
  is : items ≡ take i items ++ n ∷ rest

split_at : (items : List ℕ) (i n : ℕ) → i < length items → n ≡ get_or items i n → SplitAt items i n
split_at [] i n less e = absurd (omega arith)
split_at (x ∷ items) zero n less e = record { rest = items; is = ap (λ k. k ∷ items) (sym e) }
split_at (x ∷ items) (suc i) n less e =
    let s : SplitAt items i n = split_at items i n (omega arith) e in record { rest = s.rest; is = ap (λ l. x ∷ l) s.is }

module _ (text_of : ℕ → List ℕ) (items : List ℕ) (i n : ℕ) (less : i < length items) (here : n ≡ get_or items i n) where
  -- one item more is converted
  pub numbers_step : (numbers new : List Num) (number : Num) → all_numbers (map text_of (take i items)) ≡ Ok numbers → text_to_number (text_of n) ≡ Ok number
      → new ≡ numbers ++ number ∷ [] → all_numbers (map text_of (take (i + 1) items)) ≡ Ok new
  numbers_step numbers new number so e pushed =
      let more : take (i + 1) items ≡ take i items ++ n ∷ [] = take_more items i n less ∙ ap (λ k. take i items ++ k ∷ []) (sym here) in
      ap (λ l. all_numbers (map text_of l)) more
      ∙ (ap all_numbers (map-append text_of (take i items) (n ∷ []))
      ∙ (numbers_more (map text_of (take i items)) (text_of n) numbers number so e ∙ ap Ok (sym pushed)))

  -- a fault at one item is that of all
  pub error_step : (numbers : List Num) (error : EvalError) → all_numbers (map text_of (take i items)) ≡ Ok numbers → Gives {A = Num} (Err error) (text_to_number (text_of n)) →
      Gives {A = List Num} (Err error) (all_numbers (map text_of items))
  error_step numbers error so g =
      let s : SplitAt items i n = split_at items i n less here in
      let parts : map text_of items ≡ map text_of (take i items) ++ text_of n ∷ map text_of s.rest = ap (map text_of) s.is ∙ map-append text_of (take i items) (n ∷ s.rest) in
      rw parts (error_of_all (map text_of (take i items)) (map text_of s.rest) (text_of n) numbers error so g)

-- the way out of a call that failed
pub exit : {A : Type 0} (r : Result A EvalError) (error : EvalError) (meant : Result A EvalFault) → IsErrAnd r (λ e. e ≡ error) → Gives {A = A} (Err error) meant → Gives r meant
exit (Ok v) error meant h g = absurd h
exit {A} (Err e) error meant h g = subst (λ x. Gives {A = A} (Err x) meant) (sym h) g
