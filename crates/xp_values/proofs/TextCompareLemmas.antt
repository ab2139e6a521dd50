-- Comparisons with one text.
use Rattle.std.proofs.Common.{◌≡◌, ℕ, ◌+◌, ◌<◌, ◌≤◌, Bool, true, false, not, ◌||◌, if◌then◌else◌, List, [], ◌∷◌, length, map, take, get_or, Result, Ok, Err, refl, sym, ap, ap₂, ◌∙◌}
use Rattle.std.specs.Prelude.{bytes_eq}
use Rattle.std.specs.Bool.{Decides}
use Rattle.std.specs.List.{list_any}
use Rattle.std.proofs.Math.Bool.{or-false}
use Rattle.std.proofs.lemmas.Bool.Decides.{same_from_decides}
use Rattle.std.proofs.lemmas.List.{take_all}
use Rattle.std.proofs.lemmas.List.Folds.{list_any_at, list_any_more}
use Rattle.std.proofs.lemmas.Slice.Eq.{bytes_eq-Decides}
use Rattle.doc_tree.specs.Table.{Table}
use Rattle.doc_tree.specs.Walks.{string_value_of}
use Rattle.xp_tree.specs.declared.operators.Comparison.{Comparison}
use Rattle.xp_values.specs.declared.values.Value.{Value}
use Rattle.xp_values.specs.declared.numbers.Num.{Num}
use Rattle.xp_values.specs.declared.values.EvalFault.{EvalFault}
use Rattle.xp_values.specs.declared.values.Value.TheVariants.{NodeSet, Truth, Number, Chars}
use Rattle.xp_values.specs.Conversions.{to_number, truth_number}
use Rattle.xp_values.specs.Numerals.{text_to_number}
use Rattle.xp_values.specs.Outcomes.{then_of}
use Rattle.xp_values.specs.inner.Comparing.{number_compared}
use Rattle.xp_values.specs.Comparisons.{is_order, is_unequal, number_test, text_test, some_pair, texts_compared, compare}

-- a loop that stops at the first item that passes
module _ (p : ℕ → Bool) (items : List ℕ) (i : ℕ) where
  module _ (n : ℕ) (less : i < length items) (here : n ≡ get_or items i n) where
    pub some_here : p n ≡ true → true ≡ list_any p items
    some_here passes = sym (list_any_at p items i n less (ap p (sym here) ∙ passes))

    pub none_yet : list_any p (take i items) ≡ false → p n ≡ false → list_any p (take (i + 1) items) ≡ false
    none_yet before fails = list_any_more p items i n less ∙ ap₂ (λ a b. a || b) before (ap p (sym here) ∙ fails)

  pub none_at_all : length items ≤ i → list_any p (take i items) ≡ false → false ≡ list_any p items
  none_at_all past none = sym none ∙ ap (list_any p) (take_all i items past)

-- pairs with one thing at the right
pub pairs_right : {A : Type 0} (test : A → A → Bool) (f : ℕ → A) (ns : List ℕ) (y : A) → some_pair test (map f ns) (y ∷ []) ≡ list_any (λ n. test (f n) y) ns
pairs_right test f [] y = refl
pairs_right test f (n ∷ ns) y = ap₂ (λ a b. a || b) (or-false (test (f n) y)) (pairs_right test f ns y)

-- texts are compared alike from both sides
bytes_turned : (x y : List ℕ) → bytes_eq x y ≡ bytes_eq y x
bytes_turned x y =
    let there : Decides (bytes_eq y x) (y ≡ x) = bytes_eq-Decides y x in
    same_from_decides {P = x ≡ y} (bytes_eq x y) (bytes_eq y x) (bytes_eq-Decides x y) (λ e. sym (there.0 e), λ e. there.1 (sym e))

test_turned : (op : Comparison) (x y : List ℕ) → text_test op x y ≡ text_test op y x
test_turned op x y = ap (λ b. if is_unequal op then not b else b) (bytes_turned x y)

all_turned : (op : Comparison) (f : ℕ → List ℕ) (ns : List ℕ) (x : List ℕ) → list_any (text_test op x) (map f ns) ≡ list_any (λ n. text_test op (f n) x) ns
all_turned op f [] x = refl
all_turned op f (n ∷ ns) x = ap₂ (λ a b. a || b) (test_turned op x (f n)) (all_turned op f ns x)

-- pairs with one text at the left
pub pairs_left : (op : Comparison) (f : ℕ → List ℕ) (ns : List ℕ) (x : List ℕ) → some_pair (text_test op) (x ∷ []) (map f ns) ≡ list_any (λ n. text_test op (f n) x) ns
pairs_left op f ns x = or-false (list_any (text_test op x) (map f ns)) ∙ all_turned op f ns x

-- a node-set at the right of a text
pub text_then_set : (T : Table) (op : Comparison) (a b : Value) (ns text : List ℕ) → a ≡ Chars text → b ≡ NodeSet ns →
    list_any (λ n. text_test op (string_value_of T n) text) ns ≡ texts_compared T op a b
text_then_set T op a b ns text left right = rw (left, right) (sym (pairs_left op (string_value_of T) ns text))

-- a node-set at the left of a text, compared otherwise than by order
pub set_with_text : (T : Table) (op : Comparison) (a : Value) (ns text : List ℕ) → is_order op ≡ false → a ≡ NodeSet ns →
    compare T op a (Chars text) ≡ Ok (list_any (λ n. text_test op (string_value_of T n) text) ns)
set_with_text T op a ns text unordered is = rw (is, unordered) (ap Ok (pairs_right (text_test op) (string_value_of T) ns text))

-- a lone number beside another
lone_numbers : (op : Comparison) (left right : Result Num EvalFault) →
    then_of (then_of left (λ x. Ok (x ∷ []))) (λ xs. then_of (then_of right (λ y. Ok (y ∷ []))) (λ ys. Ok (some_pair (number_test op) xs ys))) ≡ number_compared op left right
lone_numbers op (Err fault) right = refl
lone_numbers op (Ok x) (Err fault) = refl
lone_numbers op (Ok x) (Ok y) = ap Ok (or-false (number_test op x y || false) ∙ or-false (number_test op x y))

-- a value that is no node-set at the left of a text, compared by numbers
pub truth_by_number : (T : Table) (op : Comparison) (a : Value) (truth : Bool) (text : List ℕ) → is_order op ≡ true → a ≡ Truth truth →
    compare T op a (Chars text) ≡ number_compared op (to_number T a) (text_to_number text)
truth_by_number T op a truth text ordered is = rw (is, ordered) (lone_numbers op (Ok (truth_number truth)) (text_to_number text))

pub text_by_number : (T : Table) (op : Comparison) (a : Value) (left text : List ℕ) → is_order op ≡ true → a ≡ Chars left →
    compare T op a (Chars text) ≡ number_compared op (to_number T a) (text_to_number text)
text_by_number T op a left text ordered is = rw (is, ordered) (lone_numbers op (text_to_number left) (text_to_number text))

number_by_number : (T : Table) (op : Comparison) (number : Num) (text : List ℕ) → compare T op (Number number) (Chars text) ≡ number_compared op (Ok number) (text_to_number text)
number_by_number T op number text = by (is_order op) refl
  where
    by : (ordered : Bool) → is_order op ≡ ordered → compare T op (Number number) (Chars text) ≡ number_compared op (Ok number) (text_to_number text)
    by true e = rw e (lone_numbers op (Ok number) (text_to_number text))
    by false e = rw e (lone_numbers op (Ok number) (text_to_number text))

pub lone_by_number : (T : Table) (op : Comparison) (a : Value) (number : Num) (text : List ℕ) → a ≡ Number number →
    compare T op a (Chars text) ≡ number_compared op (to_number T a) (text_to_number text)
lone_by_number T op a number text is = rw is (number_by_number T op number text)
