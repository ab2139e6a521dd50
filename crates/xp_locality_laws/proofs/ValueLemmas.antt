-- What nodes that live in both trees have in common, and what conversions make of it.
use Rattle.std.proofs.Common.{◌≡◌, ℕ, Bool, true, false, cond, List, [], ◌∷◌, ◌++◌, map, length, Result, Ok, Option, None, Some, refl, sym, ap, ◌∙◌}
use Rattle.std.specs.Prelude.{pos}
use Rattle.doc_tree.specs.cell.Cell.{Cell}
use Rattle.doc_tree.specs.cell.Cell.TheVariants.{Text as TextOf, Value as ValueOf}
use Rattle.doc_tree.specs.Kinds.{holds_kids}
use Rattle.doc_tree.specs.Table.{Table, Content, root, element, attribute, text, comment, instruction, kind_of, kind_at, value_of, value_at, content_of}
use Rattle.doc_tree.specs.Walks.{joined_text, string_value_in, string_value_of}
use Rattle.doc_edit_laws.specs.Agreement.{AllStay, Stays}
use Rattle.xp_tree.specs.declared.operators.ArithOp.TheVariants as ops
use Rattle.xp_tree.specs.declared.operators.Comparison.{Comparison}
use Rattle.xp_outcome.specs.Evaluation.{Evaluation, cell, done, given, visits, all_reading}
use Rattle.xp_values.specs.declared.values.Value.{Value}
use Rattle.xp_values.specs.declared.values.Value.TheVariants.{NodeSet, Truth, Number, Chars}
use Rattle.xp_values.specs.declared.values.EvalFault.{EvalFault}
use Rattle.xp_values.specs.declared.numbers.Num.{Num}
use Rattle.xp_values.specs.declared.numbers.Num.TheVariants.{Whole}
use Rattle.xp_values.specs.Comparisons.{all_numbers, compare, go_by_numbers, go_by_truths, is_order, is_truth, number_test, numbers_compared, numbers_of, some_pair, text_test, texts_compared, texts_of, truths_compared}
use Rattle.xp_values.specs.Conversions.{first_text, to_number, to_text}
use Rattle.xp_values.specs.Numbers.{arith}
use Rattle.xp_values.specs.Numerals.{text_to_number}
use Rattle.xp_values.specs.Outcomes.{then_of}
use Rattle.xp_meaning.specs.declared.want.Want.{Want}
use Rattle.xp_meaning.specs.declared.want.Want.TheVariants.{AsItIs, AsText, AsNumber}
use Rattle.xp_meaning.specs.Conversions.{nodes_of, first_of, text_in, number_in, compared_nodes, compare_in, sum_from, sum_in, as_wanted}
use Rattle.xp_meaning.specs.Evaluation.{Lets}
use Rattle.xp_meaning.specs.Reads.{text_read, taking}
use Rattle.xp_locality_laws.specs.Locality.{AllKept, Changed, Kept}
use Rattle.xp_locality_laws.proofs.StandLemmas.{Same, no_nodes, same-all_reading, same-done, same-equal, same-given, same-made, same-visits, stay-append}

-- the string-value by the kind: the texts below a node that holds kids, and the value of another
chosen_text : (T : Table) (n : ℕ) (c : Option Content) → string_value_in T n c ≡ cond (holds_kids (kind_at c)) (joined_text T n) (value_at c)
chosen_text T n None = refl
chosen_text T n (Some root) = refl
chosen_text T n (Some (element name decls)) = refl
chosen_text T n (Some (attribute name value)) = refl
chosen_text T n (Some (text characters)) = refl
chosen_text T n (Some (comment characters)) = refl
chosen_text T n (Some (instruction name characters)) = refl

-- some nodes have the same string-values in both trees
abbrev pub TextsAgree : Table → Table → List ℕ → Type 0
TextsAgree T U [] = Unit {0}
TextsAgree T U (n ∷ ns) = (string_value_of T n ≡ string_value_of U n) × TextsAgree T U ns

-- what conversions make of nodes that have the same string-values
module _ (T U : Table) where
  texts-front : (ns ms : List ℕ) → TextsAgree T U (ns ++ ms) → TextsAgree T U ns
  texts-front [] ms h = tt
  texts-front (n ∷ ns) ms h = (h.0, texts-front ns ms h.1)

  texts-back : (ns ms : List ℕ) → TextsAgree T U (ns ++ ms) → TextsAgree T U ms
  texts-back [] ms h = h
  texts-back (n ∷ ns) ms h = texts-back ns ms h.1

  all-texts : (ns : List ℕ) → TextsAgree T U ns → map (string_value_of T) ns ≡ map (string_value_of U) ns
  all-texts [] h = refl
  all-texts (n ∷ ns) h = let here = h.0 in let rest = all-texts ns h.1 in λ i. here i ∷ rest i

  same-first : (ns : List ℕ) → TextsAgree T U (first_of ns) → first_text T ns ≡ first_text U ns
  same-first [] h = refl
  same-first (n ∷ ns) h = h.0

  same-text : (v : Value) → TextsAgree T U (first_of (nodes_of v)) → to_text T v ≡ to_text U v
  same-text (NodeSet ns) h = same-first ns h
  same-text (Truth b) h = refl
  same-text (Number n) h = refl
  same-text (Chars s) h = refl

  same-number : (v : Value) → TextsAgree T U (first_of (nodes_of v)) → to_number T v ≡ to_number U v
  same-number (NodeSet ns) h = ap text_to_number (same-first ns h)
  same-number (Truth b) h = refl
  same-number (Number n) h = refl
  same-number (Chars s) h = refl

  same-texts : (v : Value) → TextsAgree T U (nodes_of v) → texts_of T v ≡ texts_of U v
  same-texts (NodeSet ns) h = all-texts ns h
  same-texts (Truth b) h = refl
  same-texts (Number n) h = refl
  same-texts (Chars s) h = refl

  same-numbers : (v : Value) → TextsAgree T U (nodes_of v) → numbers_of T v ≡ numbers_of U v
  same-numbers (NodeSet ns) h = ap all_numbers (all-texts ns h)
  same-numbers (Truth b) h = refl
  same-numbers (Number n) h = refl
  same-numbers (Chars s) h = refl

  -- a comparison of two values, where the nodes of both have the same string-values
  same-sides : (op : Comparison) (v w : Value) → TextsAgree T U (nodes_of v ++ nodes_of w) → compare T op v w ≡ compare U op v w
  same-sides op v w h =
      let left : TextsAgree T U (nodes_of v) = texts-front (nodes_of v) (nodes_of w) h in
      let right : TextsAgree T U (nodes_of w) = texts-back (nodes_of v) (nodes_of w) h in
      let texts : texts_compared T op v w ≡ texts_compared U op v w = λ i. some_pair (text_test op) (same-texts v left i) (same-texts w right i) in
      let numbers : numbers_compared T op v w ≡ numbers_compared U op v w =
      λ i. then_of (same-numbers v left i) (λ xs. then_of (same-numbers w right i) (λ ys. Ok (some_pair (number_test op) xs ys))) in
      λ i. cond (go_by_truths op v w) (Ok (truths_compared op v w)) (cond (go_by_numbers op v w) (numbers i) (Ok (texts i)))

  -- a node-set and a boolean are compared as booleans
  both-ways : {A : Type 0} (b : Bool) (x y : A) → cond (cond b true true) x y ≡ x
  both-ways true x y = refl
  both-ways false x y = refl

  same-compare : (op : Comparison) (v w : Value) → TextsAgree T U (compared_nodes v w) → compare T op v w ≡ compare U op v w
  same-compare op (Truth b) (NodeSet ms) h = both-ways (is_order op) _ _ ∙ sym (both-ways (is_order op) _ _)
  same-compare op (NodeSet ns) (Truth b) h = both-ways (is_order op) _ _ ∙ sym (both-ways (is_order op) _ _)
  same-compare op (Truth b) (Truth other) h = refl
  same-compare op (Truth b) (Number n) h = refl
  same-compare op (Truth b) (Chars s) h = refl
  same-compare op (Number n) (Truth b) h = refl
  same-compare op (Chars s) (Truth b) h = refl
  same-compare op v w h = same-sides op v w h

  same-sum_from : (total : Num) (ns : List ℕ) → TextsAgree T U ns → sum_from T total ns ≡ sum_from U total ns
  same-sum_from total [] h = refl
  same-sum_from total (n ∷ ns) h =
      let here = h.0 in
      ap (λ s. then_of (text_to_number s) (λ number. then_of (arith ops.Add total number) (λ sum. sum_from T sum ns))) here
      ∙ ap (λ (rest : Num → Result Num EvalFault). then_of (text_to_number (string_value_of U n)) (λ number. then_of (arith ops.Add total number) rest))
      (λ i sum. same-sum_from sum ns h.1 i)

module _ (T U : Table) (touched : Cell → Bool) (L M : Lets) (changed : Changed T U touched) where
  -- nodes that live in both trees
  pub same-kind : (n : ℕ) → Stays T U n → kind_of T n ≡ kind_of U n
  same-kind n h = changed.agree.kind n h

  pub same-text_read : (n : ℕ) → Stays T U n → text_read T n ≡ text_read U n
  same-text_read n h = ap (λ kind. cell (cond (holds_kids kind) (TextOf n) (ValueOf n))) (same-kind n h)

  pub same-string_value : (n : ℕ) → Stays T U n → Kept T U touched L M (text_read T n) → string_value_of T n ≡ string_value_of U n
  same-string_value n stays kept =
      chosen_text T n (content_of T n)
      ∙ (by (holds_kids (kind_of T n)) refl kept
      ∙ (ap (λ kind. cond (holds_kids kind) (joined_text U n) (value_of U n)) (same-kind n stays) ∙ sym (chosen_text U n (content_of U n))))
    where
      by : (b : Bool) → holds_kids (kind_of T n) ≡ b → touched (cond b (TextOf n) (ValueOf n)) ≡ false → cond b (joined_text T n) (value_of T n) ≡ cond b (joined_text U n) (value_of U n)
      by true holds k = changed.agree.text n stays holds k
      by false holds k = changed.agree.value n stays k

  same-text_reads : (ns : List ℕ) → AllStay T U ns → map (text_read T) ns ≡ map (text_read U) ns
  same-text_reads [] h = refl
  same-text_reads (n ∷ ns) h = let here = same-text_read n h.0 in let rest = same-text_reads ns h.1 in λ i. here i ∷ rest i

  pub texts-kept : (ns : List ℕ) → AllStay T U ns → AllKept T U touched L M (map (text_read T) ns) → TextsAgree T U ns
  texts-kept [] h k = tt
  texts-kept (n ∷ ns) h k = (same-string_value n h.0 k.0, texts-kept ns h.1 k.1)

  -- what is made of string-values that were taken
  pub same-taking : {A : Type 0} (nodes : A → List ℕ) (ns : List ℕ) (before after : Evaluation EvalFault A) → AllStay T U ns →
      (TextsAgree T U ns → Same T U touched L M nodes before after) → Same T U touched L M nodes (taking T ns before) (taking U ns after)
  unfolding taking
  same-taking nodes ns before after stay h =
      same-equal T U touched L M nodes (taking T ns before) (all_reading (map (text_read T) ns) (visits (length ns) after)) (taking U ns after)
      (ap (λ reads. all_reading reads (visits (length ns) after)) (same-text_reads ns stay))
      (same-all_reading T U touched L M nodes (map (text_read T) ns) (visits (length ns) before) (visits (length ns) after)
      (λ kept. same-visits T U touched L M nodes (length ns) before after (h (texts-kept ns stay kept))))

  -- an answer that holds no nodes
  pub plain_done : {A : Type 0} (v w : A) → v ≡ w → Same T U touched L M {F = EvalFault} no_nodes (done v) (done w)
  plain_done v w e = same-equal T U touched L M no_nodes (done v) (done v) (done w) (ap done e) (same-done T U touched L M no_nodes v tt)

  plain_given : {A : Type 0} (r q : Result A EvalFault) → r ≡ q → Same T U touched L M no_nodes (given r) (given q)
  plain_given r q e = same-equal T U touched L M no_nodes (given r) (given r) (given q) (ap given e) (same-given T U touched L M no_nodes r (λ v _. tt))

  first-stays : (ns : List ℕ) → AllStay T U ns → AllStay T U (first_of ns)
  first-stays [] h = tt
  first-stays (n ∷ ns) h = (h.0, tt)

  pub same-text_in : (v : Value) → AllStay T U (nodes_of v) → Same T U touched L M no_nodes (text_in T v) (text_in U v)
  unfolding text_in
  same-text_in v h =
      same-taking no_nodes (first_of (nodes_of v)) (done (to_text T v)) (done (to_text U v)) (first-stays (nodes_of v) h)
      (λ agree. plain_done (to_text T v) (to_text U v) (same-text T U v agree))

  pub same-number_in : (v : Value) → AllStay T U (nodes_of v) → Same T U touched L M no_nodes (number_in T v) (number_in U v)
  unfolding number_in
  same-number_in v h =
      same-taking no_nodes (first_of (nodes_of v)) (given (to_number T v)) (given (to_number U v)) (first-stays (nodes_of v) h)
      (λ agree. plain_given (to_number T v) (to_number U v) (same-number T U v agree))

  stays-cond : (b : Bool) (ns : List ℕ) → AllStay T U ns → AllStay T U (cond b [] ns)
  stays-cond true ns h = tt
  stays-cond false ns h = h

  pub same-compare_in : (op : Comparison) (v w : Value) → AllStay T U (nodes_of v) → AllStay T U (nodes_of w) →
      Same T U touched L M no_nodes (compare_in T op v w) (compare_in U op v w)
  unfolding compare_in
  same-compare_in op v w h k =
      same-taking no_nodes (compared_nodes v w) (given (compare T op v w)) (given (compare U op v w))
      (stays-cond (is_truth v) _ (stays-cond (is_truth w) _ (stay-append T U (nodes_of v) (nodes_of w) h k)))
      (λ agree. plain_given (compare T op v w) (compare U op v w) (same-compare T U op v w agree))

  pub same-sum_in : (ns : List ℕ) → AllStay T U ns → Same T U touched L M no_nodes (sum_in T ns) (sum_in U ns)
  unfolding sum_in
  same-sum_in ns h =
      same-taking no_nodes ns (given (sum_from T (Whole (pos 0)) ns)) (given (sum_from U (Whole (pos 0)) ns)) h
      (λ agree. plain_given (sum_from T (Whole (pos 0)) ns) (sum_from U (Whole (pos 0)) ns) (same-sum_from T U (Whole (pos 0)) ns agree))

  pub same-as_wanted : (want : Want) (v : Value) → AllStay T U (nodes_of v) → Same T U touched L M nodes_of (as_wanted T want v) (as_wanted U want v)
  same-as_wanted AsItIs v h = same-done T U touched L M nodes_of v h
  same-as_wanted AsText v h =
      same-made T U touched L M no_nodes nodes_of (text_in T v) (text_in U v) (λ s. Chars s) (λ s. Chars s) (same-text_in v h) (λ s _. (refl, tt))
  same-as_wanted AsNumber v h =
      same-made T U touched L M no_nodes nodes_of (number_in T v) (number_in U v) (λ n. Number n) (λ n. Number n) (same-number_in v h) (λ n _. (refl, tt))
