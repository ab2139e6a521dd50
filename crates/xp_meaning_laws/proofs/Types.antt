-- The type of an expression's value: its outermost part decides.
use Rattle.std.proofs.Common.{◌≡◌, ℕ, Bool, List, [], ◌∷◌, Option, None, Some, Result, Ok, Err, refl, sym, ◌∙◌, ap}
use Rattle.std.specs.Prelude.{flat_map}
use Rattle.doc_tree.specs.QNames.{written_in}
use Rattle.doc_tree.specs.Table.{Name, Table}
use Rattle.doc_axes.specs.Sets.{in_order}
use Rattle.xp_tree.specs.declared.operators.Comparison.{Comparison}
use Rattle.xp_typed_tree.specs.declared.value_type.ValueType.{ValueType}
use Rattle.xp_typed_tree.specs.declared.value_type.ValueType.TheVariants as types
use Rattle.xp_typed_tree.specs.declared.function.Function.{Function}
use Rattle.xp_typed_tree.specs.declared.function.Function.TheVariants as functions
use Rattle.xp_typed_tree.specs.TypedTree.{TypedTree, Comparands, disjunction, conjunction, comparison, arithmetic, negation, union, location, selection, slot, text, whole, application, no_comparands, comparand}
use Rattle.xp_typed_tree.specs.WellTyped.{WellTyped, Compares, type_of, result_type}
use Rattle.xp_typed_tree.specs.Slots.{slots_in}
use Rattle.xp_outcome.specs.Evaluation.{Evaluation, done, given, fault, bind, behind, visit, reading, all_reading}
use Rattle.xp_outcome.specs.Slots.{in_slot}
use Rattle.xp_values.specs.declared.values.Value.{Value}
use Rattle.xp_values.specs.declared.values.Value.TheVariants.{NodeSet, Truth, Number, Chars}
use Rattle.xp_values.specs.declared.values.EvalFault.{EvalFault}
use Rattle.xp_values.specs.declared.numbers.Num.TheVariants.{Whole}
use Rattle.xp_values.specs.Texts.{limited, string_length, normalize_space, translate}
use Rattle.xp_meaning.specs.declared.want.Want.TheVariants.{AsItIs}
use Rattle.xp_meaning.specs.Conversions.{nodes_of, number_in, compare_in, sum_in}
use Rattle.xp_meaning.specs.declared.context.Context.{Context}
use Rattle.xp_meaning.specs.Operators.{negated}
use Rattle.xp_meaning.specs.Paths.{filtered, path}
use Rattle.xp_meaning.specs.Functions.{applied, as_chars, named_node, nodes_at, text_at, text_of, text_or_own, number_or_own, wanted}
use Rattle.xp_meaning.specs.Names.{local_in, name_at, of_name, uri_in}
use Rattle.xp_meaning.specs.Language.{in_language}
use Rattle.xp_meaning.specs.Evaluation.{Lets, Operand, meaning, meanings, some_true, all_true, compared, combined, values, slot_value, start_nodes, steps_meant, comparands_meant, combinands_meant}
use Rattle.xp_meaning.proofs.Choices.{came_before, same_ok}
use Rattle.xp_meaning_laws.specs.Slots.{type_in, IsSetAs, SlotsFit}
use Rattle.xp_meaning_laws.specs.Types.{ValuesHaveTypes}

done_typed : (w v : Value) → (done {F = EvalFault} w).answer ≡ Ok v → type_in v ≡ type_in w
unfolding done
done_typed w v is = ap type_in (sym (same_ok {F = EvalFault} w v is))

made_typed : {A : Type 0} (type : ValueType) (m : Evaluation EvalFault A) (f : A → Value) (v : Value) → ((x : A) → type_in (f x) ≡ type) →
    (bind m (λ x. done (f x))).answer ≡ Ok v → type_in v ≡ type
made_typed type m f v all is = let b = came_before m (λ x. done (f x)) v is in done_typed (f b.first) v b.then ∙ all b.first

chars_typed : (r : Result (List ℕ) EvalFault) (v : Value) → (given (as_chars r)).answer ≡ Ok v → type_in v ≡ types.Chars
unfolding done fault
chars_typed (Ok s) v is = ap type_in (sym (same_ok {F = EvalFault} (Chars s) v is))
chars_typed (Err f) v is = cc

slot_typed : (o : Option (Result Value EvalFault)) (type : ValueType) (v : Value) → IsSetAs type o → (slot_value o).answer ≡ Ok v → type_in v ≡ type
unfolding done fault
slot_typed None type v fits is = absurd fits
slot_typed (Some (Ok w)) type v fits is = ap type_in (sym (same_ok {F = EvalFault} w v is)) ∙ fits
slot_typed (Some (Err f)) type v fits is = cc

name_typed : (T : Table) (n : Option ℕ) (part : Option Name → List ℕ) (v : Value) → (of_name T n (λ name. Chars (part name))).answer ≡ Ok v → type_in v ≡ types.Chars
unfolding all_reading behind done
name_typed T n part v is = ap type_in (sym (same_ok {F = EvalFault} (Chars (part (name_at T n))) v is))

module _ (T : Table) where
  function_typed : (f : Function) (c : Context) (vs : List Value) (v : Value) → (applied T f c vs).answer ≡ Ok v → type_in v ≡ result_type f
  function_typed functions.Last c vs v is = done_typed _ v is
  function_typed functions.Position c vs v is = done_typed _ v is
  function_typed functions.Current c vs v is = done_typed _ v is
  function_typed functions.Count c vs v is = done_typed _ v is
  function_typed functions.Sum c vs v is = made_typed types.Number (sum_in T (nodes_at vs 0)) (λ n. Number n) v (λ n. refl) is
  function_typed functions.LocalName c vs v is = name_typed T (named_node c vs) (λ name. local_in name) v is
  function_typed functions.NamespaceUri c vs v is = name_typed T (named_node c vs) (λ name. uri_in name) v is
  function_typed functions.Name c vs v is = name_typed T (named_node c vs) (λ name. written_in name) v is
  function_typed functions.String c vs v is = made_typed types.Chars (text_or_own T c vs) (λ s. Chars s) v (λ s. refl) is
  function_typed functions.Number c vs v is = made_typed types.Number (number_or_own T c vs) (λ n. Number n) v (λ n. refl) is
  function_typed functions.Boolean c vs v is = done_typed _ v is
  function_typed functions.Not c vs v is = done_typed _ v is
  function_typed functions.True c vs v is = done_typed _ v is
  function_typed functions.False c vs v is = done_typed _ v is
  function_typed functions.Concat c vs v is = chars_typed (limited (flat_map text_of vs)) v is
  function_typed functions.StartsWith c vs v is = done_typed _ v is
  function_typed functions.Contains c vs v is = done_typed _ v is
  function_typed functions.SubstringBefore c vs v is = done_typed _ v is
  function_typed functions.SubstringAfter c vs v is = done_typed _ v is
  function_typed functions.Substring c vs v is = done_typed _ v is
  function_typed functions.StringLength c vs v is = made_typed types.Number (text_or_own T c vs) (λ s. Number (string_length s)) v (λ s. refl) is
  function_typed functions.NormalizeSpace c vs v is = made_typed types.Chars (text_or_own T c vs) (λ s. Chars (normalize_space s)) v (λ s. refl) is
  function_typed functions.Translate c vs v is = chars_typed (translate (text_at vs 0) (text_at vs 1) (text_at vs 2)) v is
  function_typed functions.Lang c vs v is = made_typed types.Truth (in_language T c.node (text_at vs 0)) (λ b. Truth b) v (λ b. refl) is
  function_typed functions.Floor c vs v is = done_typed _ v is
  function_typed functions.Ceiling c vs v is = done_typed _ v is
  function_typed functions.Round c vs v is = done_typed _ v is

  compared_typed : (ms : List (Operand Comparison)) (b : Bool) (c : Context) (v : Value) → (compared T ms (Truth b) c).answer ≡ Ok v → type_in v ≡ types.Truth
  compared_typed [] b c v is = done_typed (Truth b) v is
  compared_typed (m ∷ ms) b c v is =
      let one = came_before (m.meaning c) (λ x. bind (compare_in T m.operator (Truth b) x) (λ t. compared T ms (Truth t) c)) v is in
      let two = came_before (compare_in T m.operator (Truth b) one.first) (λ t. compared T ms (Truth t) c) v one.then in
      compared_typed ms two.first c v two.then

  module _ (L : Lets) where
    comparison_typed : (rest : Comparands) (w : Value) (c : Context) (v : Value) → Compares rest → (compared T (comparands_meant T L rest) w c).answer ≡ Ok v → type_in v ≡ types.Truth
    comparison_typed no_comparands w c v h is = absurd h
    comparison_typed (comparand operator operand rest) w c v h is =
        let one = came_before (meaning T L operand c) (λ x. bind (compare_in T operator w x) (λ t. compared T (comparands_meant T L rest) (Truth t) c)) v is in
        let two = came_before (compare_in T operator w one.first) (λ t. compared T (comparands_meant T L rest) (Truth t) c) v one.then in
        compared_typed (comparands_meant T L rest) two.first c v two.then

    typed : (p : Bool) (t : TypedTree) (c : Context) (v : Value) → WellTyped p t → SlotsFit L (slots_in t) → (meaning T L t c).answer ≡ Ok v → type_in v ≡ type_of t
    unfolding visit behind reading done
    typed p (disjunction ts) c v sound fits is = made_typed types.Truth (some_true (meanings T L ts) c) (λ b. Truth b) v (λ b. refl) is
    typed p (conjunction ts) c v sound fits is = made_typed types.Truth (all_true (meanings T L ts) c) (λ b. Truth b) v (λ b. refl) is
    typed p (comparison first rest) c v sound fits is =
        let one = came_before (meaning T L first c) (λ w. compared T (comparands_meant T L rest) w c) v is in
        comparison_typed rest one.first c v sound.0 one.then
    typed p (arithmetic first rest) c v sound fits is =
        let one = came_before (meaning T L first c) (λ w. bind (number_in T w) (λ x. bind (combined T (combinands_meant T L rest) x c) (λ y. done (Number y)))) v is in
        let two = came_before (number_in T one.first) (λ x. bind (combined T (combinands_meant T L rest) x c) (λ y. done (Number y))) v one.then in
        made_typed types.Number (combined T (combinands_meant T L rest) two.first c) (λ y. Number y) v (λ y. refl) two.then
    typed p (negation signs operand) c v sound fits is =
        let one = came_before (meaning T L operand c) (λ w. bind (number_in T w) (λ x. bind (given (negated signs x)) (λ y. done (Number y)))) v is in
        let two = came_before (number_in T one.first) (λ x. bind (given (negated signs x)) (λ y. done (Number y))) v one.then in
        made_typed types.Number (given (negated signs two.first)) (λ y. Number y) v (λ y. refl) two.then
    typed p (union ts) c v sound fits is =
        made_typed types.NodeSet (values T (λ _. AsItIs) (meanings T L ts) c) (λ vs. NodeSet (in_order T (flat_map nodes_of vs))) v (λ vs. refl) is
    typed p (location place steps) c v sound fits is =
        let one = came_before (start_nodes T L place c) (λ ns. bind (path T (steps_meant T L steps) c.current ns) (λ ms. done (NodeSet ms))) v is in
        made_typed types.NodeSet (path T (steps_meant T L steps) c.current one.first) (λ ms. NodeSet ms) v (λ ms. refl) one.then
    typed p (selection base predicates) c v sound fits is =
        let one = came_before (meaning T L base c) (λ w. bind (filtered (meanings T L predicates) c.current (nodes_of w)) (λ ms. done (NodeSet ms))) v is in
        made_typed types.NodeSet (filtered (meanings T L predicates) c.current (nodes_of one.first)) (λ ms. NodeSet ms) v (λ ms. refl) one.then
    typed p (slot place type) c v sound fits is = slot_typed (in_slot L place) type v fits.0 is
    typed p (text characters) c v sound fits is = done_typed (Chars characters) v is
    typed p (whole number) c v sound fits is = done_typed (Number (Whole number)) v is
    typed p (application f ts) c v sound fits is =
        let one = came_before (values T (wanted f) (meanings T L ts) c) (λ vs. applied T f c vs) v is in
        function_typed f c one.first v one.then

pub values_have_types : (T : Table) → ValuesHaveTypes T
values_have_types T p L t c v sound fits is = typed T L p t c v sound fits is
