-- What conversions and comparisons make of values where the nodes of a tree are renumbered.
use Rattle.std.proofs.Common.{◌≡◌, ℕ, Bool, true, false, cond, not, ◌&&◌, ◌||◌, List, [], ◌∷◌, ◌++◌, map, length, Result, Ok, Err, Option, None, Some, refl, sym, ap, ap₂, ◌∙◌}
use Rattle.std.proofs.lemmas.List.{length-map, map-append}
use Rattle.std.specs.Prelude.{◌==◌, pos, option_map}
use Rattle.doc_tree.specs.cell.Cell.TheVariants.{Text as TextOf, Value as ValueOf}
use Rattle.doc_tree.specs.kind.Kind.{Kind}
use Rattle.doc_tree.specs.Kinds.{holds_kids}
use Rattle.doc_tree.specs.Table.{Table, Content, root, element, attribute, text, comment, instruction, content_of, kind_of}
use Rattle.doc_tree.specs.Walks.{string_value_in, string_value_of}
use Rattle.tree_iso.specs.Renumbering.{Hangs, Renumbers}
use Rattle.xp_tree.specs.declared.operators.ArithOp.TheVariants as ops
use Rattle.xp_tree.specs.declared.operators.Comparison.{Comparison}
use Rattle.xp_outcome.specs.Evaluation.{Evaluation, Read, cell, done, given, visits}
use Rattle.xp_values.specs.declared.values.Value.{Value}
use Rattle.xp_values.specs.declared.values.Value.TheVariants.{NodeSet, Truth, Number, Chars}
use Rattle.xp_values.specs.declared.values.EvalFault.{EvalFault}
use Rattle.xp_values.specs.declared.numbers.Num.{Num}
use Rattle.xp_values.specs.declared.numbers.Num.TheVariants.{Whole}
use Rattle.xp_values.specs.Comparisons.{all_numbers, compare, go_by_numbers, go_by_truths, is_node_set, is_number, is_order, is_truth, number_test, numbers_compared, numbers_of, some_pair, text_test, texts_compared, texts_of, truths_compared}
use Rattle.xp_values.specs.Conversions.{first_text, to_number, to_text, to_truth, truth_number}
use Rattle.xp_values.specs.Numbers.{arith}
use Rattle.xp_values.specs.Numerals.{text_to_number}
use Rattle.xp_values.specs.Outcomes.{then_of}
use Rattle.xp_meaning.specs.declared.want.Want.{Want}
use Rattle.xp_meaning.specs.declared.want.Want.TheVariants.{AsItIs, AsText, AsNumber}
use Rattle.xp_meaning.specs.Conversions.{nodes_of, first_of, text_in, number_in, compared_nodes, compare_in, sum_from, sum_in, as_wanted}
use Rattle.xp_meaning.specs.Names.{name_at}
use Rattle.xp_meaning.specs.Reads.{text_read, taking}
use Rattle.xp_iso_laws.specs.Moved.{answer_with, moved_read, moved_value}
use Rattle.xp_iso_laws.specs.Moves.{Moves}
use Rattle.xp_iso_laws.proofs.AxisLemmas.{kind-moved, name-moved}
use Rattle.xp_iso_laws.proofs.MoveLemmas.{moves-all_reading, moves-done, moves-equal, moves-given, moves-made, moves-visits}

-- a value that holds no nodes is as it is
abbrev pub as_is : {A : Type 0} → A → A
as_is v = v

pub nodes-moved : (f : ℕ → ℕ) (v : Value) → nodes_of (moved_value f v) ≡ map f (nodes_of v)
nodes-moved f (NodeSet ns) = refl
nodes-moved f (Truth b) = refl
nodes-moved f (Number n) = refl
nodes-moved f (Chars s) = refl

pub first-moved : (f : ℕ → ℕ) (v : Value) → first_of (nodes_of (moved_value f v)) ≡ map f (first_of (nodes_of v))
first-moved f (NodeSet []) = refl
first-moved f (NodeSet (n ∷ ns)) = refl
first-moved f (Truth b) = refl
first-moved f (Number n) = refl
first-moved f (Chars s) = refl

pub truth-moved : (f : ℕ → ℕ) (v : Value) → to_truth (moved_value f v) ≡ to_truth v
truth-moved f (NodeSet []) = refl
truth-moved f (NodeSet (n ∷ ns)) = ap (λ (k : ℕ). not (k == 0)) (length-map (n ∷ ns) f)
truth-moved f (Truth b) = refl
truth-moved f (Number n) = refl
truth-moved f (Chars s) = refl

truth-kind : (f : ℕ → ℕ) (v : Value) → is_truth (moved_value f v) ≡ is_truth v
truth-kind f (NodeSet ns) = refl
truth-kind f (Truth b) = refl
truth-kind f (Number n) = refl
truth-kind f (Chars s) = refl

number-kind : (f : ℕ → ℕ) (v : Value) → is_number (moved_value f v) ≡ is_number v
number-kind f (NodeSet ns) = refl
number-kind f (Truth b) = refl
number-kind f (Number n) = refl
number-kind f (Chars s) = refl

set-kind : (f : ℕ → ℕ) (v : Value) → is_node_set (moved_value f v) ≡ is_node_set v
set-kind f (NodeSet ns) = refl
set-kind f (Truth b) = refl
set-kind f (Number n) = refl
set-kind f (Chars s) = refl

module _ (f : ℕ → ℕ) (T U : Table) (r : Renumbers f T U) (h : Hangs f T U) where
  pub string_value-moved : (n : ℕ) → string_value_of U (f n) ≡ string_value_of T n
  string_value-moved n = ap (string_value_in U (f n)) (r.content n) ∙ by (content_of T n)
    where
      by : (c : Option Content) → string_value_in U (f n) c ≡ string_value_in T n c
      by None = refl
      by (Some root) = h.text n
      by (Some (element name decls)) = h.text n
      by (Some (attribute name value)) = refl
      by (Some (text characters)) = refl
      by (Some (comment characters)) = refl
      by (Some (instruction name characters)) = refl

  texts-moved : (ns : List ℕ) → map (string_value_of U) (map f ns) ≡ map (string_value_of T) ns
  texts-moved [] = refl
  texts-moved (n ∷ ns) = ap₂ (λ (x : List ℕ) (xs : List (List ℕ)). x ∷ xs) (string_value-moved n) (texts-moved ns)

  first_text-moved : (ns : List ℕ) → first_text U (map f ns) ≡ first_text T ns
  first_text-moved [] = refl
  first_text-moved (n ∷ ns) = string_value-moved n

  to_text-moved : (v : Value) → to_text U (moved_value f v) ≡ to_text T v
  to_text-moved (NodeSet ns) = first_text-moved ns
  to_text-moved (Truth b) = refl
  to_text-moved (Number n) = refl
  to_text-moved (Chars s) = refl

  to_number-moved : (v : Value) → to_number U (moved_value f v) ≡ to_number T v
  to_number-moved (NodeSet ns) = ap text_to_number (first_text-moved ns)
  to_number-moved (Truth b) = refl
  to_number-moved (Number n) = refl
  to_number-moved (Chars s) = refl

  texts_of-moved : (v : Value) → texts_of U (moved_value f v) ≡ texts_of T v
  texts_of-moved (NodeSet ns) = texts-moved ns
  texts_of-moved (Truth b) = refl
  texts_of-moved (Number n) = refl
  texts_of-moved (Chars s) = refl

  numbers_of-moved : (v : Value) → numbers_of U (moved_value f v) ≡ numbers_of T v
  numbers_of-moved (NodeSet ns) = ap all_numbers (texts-moved ns)
  numbers_of-moved (Truth b) = refl
  numbers_of-moved (Number n) = refl
  numbers_of-moved (Chars s) = refl

  pub compare-moved : (op : Comparison) (v w : Value) → compare U op (moved_value f v) (moved_value f w) ≡ compare T op v w
  compare-moved op v w =
      let truths : truths_compared op (moved_value f v) (moved_value f w) ≡ truths_compared op v w =
      ap₂ (λ (x y : Bool). number_test op (truth_number x) (truth_number y)) (truth-moved f v) (truth-moved f w) in
      let texts : texts_compared U op (moved_value f v) (moved_value f w) ≡ texts_compared T op v w =
      ap₂ (λ (xs ys : List (List ℕ)). some_pair (text_test op) xs ys) (texts_of-moved v) (texts_of-moved w) in
      let numbers : numbers_compared U op (moved_value f v) (moved_value f w) ≡ numbers_compared T op v w =
      ap₂ (λ (p q : Result (List Num) EvalFault). then_of p (λ xs. then_of q (λ ys. Ok (some_pair (number_test op) xs ys)))) (numbers_of-moved v) (numbers_of-moved w) in
      let by_truths : go_by_truths op (moved_value f v) (moved_value f w) ≡ go_by_truths op v w =
      λ i. cond (is_order op) ((set-kind f v i && truth-kind f w i) || (truth-kind f v i && set-kind f w i)) (truth-kind f v i || truth-kind f w i) in
      let by_numbers : go_by_numbers op (moved_value f v) (moved_value f w) ≡ go_by_numbers op v w =
      λ i. is_order op || number-kind f v i || number-kind f w i in
      λ i. cond (by_truths i) (Ok (truths i)) (cond (by_numbers i) (numbers i) (Ok (texts i)))

  sum_from-moved : (total : Num) (ns : List ℕ) → sum_from U total (map f ns) ≡ sum_from T total ns
  sum_from-moved total [] = refl
  sum_from-moved total (n ∷ ns) =
      ap (λ s. then_of (text_to_number s) (λ number. then_of (arith ops.Add total number) (λ sum. sum_from U sum (map f ns)))) (string_value-moved n)
      ∙ ap (λ (rest : Num → Result Num EvalFault). then_of (text_to_number (string_value_of T n)) (λ number. then_of (arith ops.Add total number) rest))
      (λ i sum. sum_from-moved sum ns i)

  -- reads of string-values
  pub text_read-moved : (n : ℕ) → text_read U (f n) ≡ moved_read f (text_read T n)
  text_read-moved n =
      ap (λ (kind : Option Kind). cell (cond (holds_kids kind) (TextOf (f n)) (ValueOf (f n)))) (kind-moved f T U r h n) ∙ by (holds_kids (kind_of T n))
    where
      by : (b : Bool) → cell (cond b (TextOf (f n)) (ValueOf (f n))) ≡ moved_read f (cell (cond b (TextOf n) (ValueOf n)))
      by true = refl
      by false = refl

  text_reads-moved : (ns : List ℕ) → map (text_read U) (map f ns) ≡ map (moved_read f) (map (text_read T) ns)
  text_reads-moved [] = refl
  text_reads-moved (n ∷ ns) = ap₂ (λ (x : Read) (xs : List Read). x ∷ xs) (text_read-moved n) (text_reads-moved ns)

  pub name_at-moved : (o : Option ℕ) → name_at U (option_map f o) ≡ name_at T o
  name_at-moved None = refl
  name_at-moved (Some n) = name-moved f T U r h n

  -- what is made of string-values that were taken
  pub moves-taking : {A B : Type 0} (change : A → B) (ns ms : List ℕ) (before : Evaluation EvalFault A) (after : Evaluation EvalFault B) → ms ≡ map f ns →
      Moves f change before after → Moves f change (taking T ns before) (taking U ms after)
  unfolding taking
  moves-taking change ns ms before after e m =
      moves-all_reading f change (map (text_read T) ns) (map (text_read U) ms) (visits (length ns) before) (visits (length ms) after)
      (ap (map (text_read U)) e ∙ text_reads-moved ns)
      (moves-visits f change (length ns) (length ms) before after (ap length e ∙ length-map ns f) m)

  -- an answer that holds no nodes
  pub plain_given : {A : Type 0} (p q : Result A EvalFault) → q ≡ p → Moves f {A = A} as_is (given p) (given q)
  plain_given p q e = moves-equal f as_is (given p) (given (answer_with as_is p)) (given q) (by p e) (moves-given f as_is p)
    where
      by : (p : Result _ EvalFault) → q ≡ p → given (answer_with as_is p) ≡ given q
      by (Ok v) e = ap given (sym e)
      by (Err x) e = ap given (sym e)

  pub moves-text_in : (v : Value) → Moves f {A = List ℕ} as_is (text_in T v) (text_in U (moved_value f v))
  unfolding text_in
  moves-text_in v =
      moves-taking as_is (first_of (nodes_of v)) (first_of (nodes_of (moved_value f v))) (done (to_text T v)) (done (to_text U (moved_value f v)))
      (first-moved f v) (moves-done f as_is (to_text T v) (to_text U (moved_value f v)) (to_text-moved v))

  pub moves-number_in : (v : Value) → Moves f {A = Num} as_is (number_in T v) (number_in U (moved_value f v))
  unfolding number_in
  moves-number_in v =
      moves-taking as_is (first_of (nodes_of v)) (first_of (nodes_of (moved_value f v))) (given (to_number T v)) (given (to_number U (moved_value f v)))
      (first-moved f v) (plain_given (to_number T v) (to_number U (moved_value f v)) (to_number-moved v))

  compared-moved : (v w : Value) → compared_nodes (moved_value f v) (moved_value f w) ≡ map f (compared_nodes v w)
  compared-moved v w =
      (λ i. cond (truth-kind f v i) [] (cond (truth-kind f w i) [] (nodes-moved f v i ++ nodes-moved f w i))) ∙ by (is_truth v) (is_truth w)
    where
      by : (a b : Bool) → cond a [] (cond b [] (map f (nodes_of v) ++ map f (nodes_of w))) ≡ map f (cond a [] (cond b [] (nodes_of v ++ nodes_of w)))
      by true b = refl
      by false true = refl
      by false false = sym (map-append f (nodes_of v) (nodes_of w))

  pub moves-compare_in : (op : Comparison) (v w : Value) → Moves f {A = Bool} as_is (compare_in T op v w) (compare_in U op (moved_value f v) (moved_value f w))
  unfolding compare_in
  moves-compare_in op v w =
      moves-taking as_is (compared_nodes v w) (compared_nodes (moved_value f v) (moved_value f w)) (given (compare T op v w)) (given (compare U op (moved_value f v) (moved_value f w)))
      (compared-moved v w) (plain_given (compare T op v w) (compare U op (moved_value f v) (moved_value f w)) (compare-moved op v w))

  pub moves-sum_in : (ns : List ℕ) → Moves f {A = Num} as_is (sum_in T ns) (sum_in U (map f ns))
  unfolding sum_in
  moves-sum_in ns =
      moves-taking as_is ns (map f ns) (given (sum_from T (Whole (pos 0)) ns)) (given (sum_from U (Whole (pos 0)) (map f ns))) refl
      (plain_given (sum_from T (Whole (pos 0)) ns) (sum_from U (Whole (pos 0)) (map f ns)) (sum_from-moved (Whole (pos 0)) ns))

  pub moves-as_wanted : (want : Want) (v : Value) → Moves f (moved_value f) (as_wanted T want v) (as_wanted U want (moved_value f v))
  moves-as_wanted AsItIs v = moves-done f (moved_value f) v (moved_value f v) refl
  moves-as_wanted AsText v =
      moves-made f as_is (moved_value f) (text_in T v) (text_in U (moved_value f v)) (λ s. Chars s) (λ s. Chars s) (moves-text_in v) (λ s. refl)
  moves-as_wanted AsNumber v =
      moves-made f as_is (moved_value f) (number_in T v) (number_in U (moved_value f v)) (λ n. Number n) (λ n. Number n) (moves-number_in v) (λ n. refl)
