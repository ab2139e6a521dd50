-- The node-sets among values are node-sets of the tree.
use Rattle.std.proofs.Common.{◌≡◌, ℕ, true, List, [], ◌∷◌, Option, None, Some, Result, Ok, Err, refl, sym, ◌∙◌, subst}
use Rattle.std.specs.Prelude.{flat_map}
use Rattle.doc_tree.specs.Laws.{Ordered}
use Rattle.doc_tree.specs.Lists.{mem}
use Rattle.doc_tree.specs.QNames.{written_in}
use Rattle.doc_tree.specs.Table.{Name, Table, is_live}
use Rattle.doc_tree.specs.Walks.{order}
use Rattle.doc_tree.proofs.ListLemmas.{mem-In}
use Rattle.doc_axes.specs.Sets.{in_order, IsNodeSet}
use Rattle.doc_axes.proofs.SubLists as subs
use Rattle.doc_axes.proofs.SubLists.{Sub, sub-none, sub-one, filter-sub}
use Rattle.xp_tree.specs.declared.operators.Comparison.{Comparison}
use Rattle.xp_typed_tree.specs.declared.function.Function.{Function}
use Rattle.xp_typed_tree.specs.declared.function.Function.TheVariants as functions
use Rattle.xp_typed_tree.specs.TypedTree.{TypedTree, TypedPlace, disjunction, conjunction, comparison, arithmetic, negation, union, location, selection, slot, text, whole, application, at_root, at_context, at_nodes}
use Rattle.xp_outcome.specs.Evaluation.{Evaluation, done, given, fault, bind, behind, visit, reading, all_reading, gather}
use Rattle.xp_outcome.specs.Slots.{in_slot}
use Rattle.xp_values.specs.declared.values.Value.{Value}
use Rattle.xp_values.specs.declared.values.Value.TheVariants.{NodeSet, Truth, Number, Chars}
use Rattle.xp_values.specs.declared.values.EvalFault.{EvalFault}
use Rattle.xp_values.specs.declared.numbers.Num.TheVariants.{Whole}
use Rattle.xp_values.specs.Texts.{limited, string_length, normalize_space, translate}
use Rattle.xp_meaning.specs.declared.want.Want.TheVariants.{AsItIs}
use Rattle.xp_meaning.specs.Conversions.{nodes_of, number_in, compare_in, sum_in}
use Rattle.xp_meaning.specs.declared.context.Context.{Context}
use Rattle.xp_meaning.specs.Operators.{negated}
use Rattle.xp_meaning.specs.Paths.{Step, filtered, path, step_at, step_from}
use Rattle.xp_meaning.specs.Functions.{applied, as_chars, named_node, nodes_at, text_at, text_of, text_or_own, number_or_own, wanted}
use Rattle.xp_meaning.specs.Language.{in_language}
use Rattle.xp_meaning.specs.Names.{local_in, name_at, of_name, uri_in}
use Rattle.xp_meaning.specs.Evaluation.{Lets, Operand, meaning, meanings, some_true, all_true, compared, combined, values, slot_value, start_nodes, steps_meant, comparands_meant, combinands_meant}
use Rattle.xp_meaning.specs.Laws.{IsProper, LetsAreProper, ValuesAreProper}
use Rattle.xp_meaning.proofs.Choices.{came_before, same_ok, filter-keeps, filtered-sub, sub-trans}

module _ (T : Table) (ord : Ordered T) where
  of_sub : (v : List ℕ) → Sub v (order T) → IsNodeSet T v
  of_sub v s = sym (filter-sub (λ m. mem m v) s ord.once (λ m h. refl))

  to_sub : (v : List ℕ) → IsNodeSet T v → Sub v (order T)
  to_sub v is = subst (λ k. Sub k (order T)) (sym is) (filter-keeps (λ m. mem m v) (order T))

  of_order : (ns : List ℕ) → IsNodeSet T (in_order T ns)
  of_order ns = of_sub (in_order T ns) (filter-keeps (λ m. mem m ns) (order T))

  alone : (n : ℕ) → is_live T n ≡ true → IsNodeSet T (n ∷ [])
  alone n live = of_sub (n ∷ []) (sub-one n (order T) (mem-In n (order T) (sym (ord.live_in_order n) ∙ live)))

  root_alone : IsNodeSet T (0 ∷ [])
  root_alone = of_sub (0 ∷ []) (subst (λ k. Sub (0 ∷ []) k) (sym ord.root_first.1) (subs.keep (sub-none ord.root_first.0)))

  nodes_proper : (v : Value) → IsProper T v → IsNodeSet T (nodes_of v)
  nodes_proper (NodeSet ns) h = h
  nodes_proper (Truth b) h = of_sub [] (sub-none (order T))
  nodes_proper (Number n) h = of_sub [] (sub-none (order T))
  nodes_proper (Chars s) h = of_sub [] (sub-none (order T))

  -- an answer of a proper value, and an answer that is made of another one
  done_proper : (w v : Value) → IsProper T w → (done {F = EvalFault} w).answer ≡ Ok v → IsProper T v
  unfolding done
  done_proper w v h is = subst (IsProper T) (same_ok {F = EvalFault} w v is) h

  made_proper : {A : Type 0} (m : Evaluation EvalFault A) (f : A → Value) (v : Value) → ((x : A) → IsProper T (f x)) →
      (bind m (λ x. done (f x))).answer ≡ Ok v → IsProper T v
  made_proper m f v all is = let b = came_before m (λ x. done (f x)) v is in done_proper (f b.first) v (all b.first) b.then

  chars_proper : (r : Result (List ℕ) EvalFault) (v : Value) → (given (as_chars r)).answer ≡ Ok v → IsProper T v
  unfolding done fault
  chars_proper (Ok s) v is = subst (IsProper T) (same_ok {F = EvalFault} (Chars s) v is) tt
  chars_proper (Err f) v is = cc

  -- an answer that is a part of a name
  name_proper : (n : Option ℕ) (part : Option Name → List ℕ) (v : Value) → (of_name T n (λ name. Chars (part name))).answer ≡ Ok v → IsProper T v
  unfolding all_reading behind done
  name_proper n part v is = subst (IsProper T) (same_ok {F = EvalFault} (Chars (part (name_at T n))) v is) tt

  function_proper : (f : Function) (c : Context) (vs : List Value) (v : Value) → is_live T c.current ≡ true → (applied T f c vs).answer ≡ Ok v → IsProper T v
  function_proper functions.Last c vs v live is = done_proper _ v tt is
  function_proper functions.Position c vs v live is = done_proper _ v tt is
  function_proper functions.Current c vs v live is = done_proper _ v (alone c.current live) is
  function_proper functions.Count c vs v live is = done_proper _ v tt is
  function_proper functions.Sum c vs v live is = made_proper (sum_in T (nodes_at vs 0)) (λ n. Number n) v (λ n. tt) is
  function_proper functions.LocalName c vs v live is = name_proper (named_node c vs) (λ name. local_in name) v is
  function_proper functions.NamespaceUri c vs v live is = name_proper (named_node c vs) (λ name. uri_in name) v is
  function_proper functions.Name c vs v live is = name_proper (named_node c vs) (λ name. written_in name) v is
  function_proper functions.String c vs v live is = made_proper (text_or_own T c vs) (λ s. Chars s) v (λ s. tt) is
  function_proper functions.Number c vs v live is = made_proper (number_or_own T c vs) (λ n. Number n) v (λ n. tt) is
  function_proper functions.Boolean c vs v live is = done_proper _ v tt is
  function_proper functions.Not c vs v live is = done_proper _ v tt is
  function_proper functions.True c vs v live is = done_proper _ v tt is
  function_proper functions.False c vs v live is = done_proper _ v tt is
  function_proper functions.Concat c vs v live is = chars_proper (limited (flat_map text_of vs)) v is
  function_proper functions.StartsWith c vs v live is = done_proper _ v tt is
  function_proper functions.Contains c vs v live is = done_proper _ v tt is
  function_proper functions.SubstringBefore c vs v live is = done_proper _ v tt is
  function_proper functions.SubstringAfter c vs v live is = done_proper _ v tt is
  function_proper functions.Substring c vs v live is = done_proper _ v tt is
  function_proper functions.StringLength c vs v live is = made_proper (text_or_own T c vs) (λ s. Number (string_length s)) v (λ s. tt) is
  function_proper functions.NormalizeSpace c vs v live is = made_proper (text_or_own T c vs) (λ s. Chars (normalize_space s)) v (λ s. tt) is
  function_proper functions.Translate c vs v live is = chars_proper (translate (text_at vs 0) (text_at vs 1) (text_at vs 2)) v is
  function_proper functions.Lang c vs v live is = made_proper (in_language T c.node (text_at vs 0)) (λ b. Truth b) v (λ b. tt) is
  function_proper functions.Floor c vs v live is = done_proper _ v tt is
  function_proper functions.Ceiling c vs v live is = done_proper _ v tt is
  function_proper functions.Round c vs v live is = done_proper _ v tt is

  compared_proper : (ms : List (Operand Comparison)) (w : Value) (c : Context) (v : Value) → IsProper T w → (compared T ms w c).answer ≡ Ok v → IsProper T v
  compared_proper [] w c v h is = done_proper w v h is
  compared_proper (m ∷ ms) w c v h is =
      let one = came_before (m.meaning c) (λ x. bind (compare_in T m.operator w x) (λ b. compared T ms (Truth b) c)) v is in
      let two = came_before (compare_in T m.operator w one.first) (λ b. compared T ms (Truth b) c) v one.then in
      compared_proper ms (Truth two.first) c v tt two.then

  path_proper : (ss : List Step) (current : ℕ) (ns ms : List ℕ) → IsNodeSet T ns → (path T ss current ns).answer ≡ Ok ms → IsNodeSet T ms
  unfolding done
  path_proper [] current ns ms h is = subst (IsNodeSet T) (same_ok {F = EvalFault} ns ms is) h
  path_proper (s ∷ ss) current ns ms h is =
      let one = came_before (step_from T s current ns) (λ ks. path T ss current ks) ms is in
      let set = came_before (gather (λ _ n. step_at T s current n) (λ _ _ ks. ks) 1 ns) (λ ks. done (in_order T ks)) one.first one.is in
      path_proper ss current one.first ms (subst (IsNodeSet T) (same_ok {F = EvalFault} (in_order T set.first) one.first set.then) (of_order set.first)) one.then

  slot_proper : (o : Option (Result Value EvalFault)) (v : Value) → ((w : Value) → o ≡ Some (Ok w) → IsProper T w) → (slot_value o).answer ≡ Ok v → IsProper T v
  unfolding done fault
  slot_proper None v all is = subst (IsProper T) (same_ok {F = EvalFault} (NodeSet []) v is) (of_sub [] (sub-none (order T)))
  slot_proper (Some (Ok w)) v all is = subst (IsProper T) (same_ok {F = EvalFault} w v is) (all w refl)
  slot_proper (Some (Err f)) v all is = cc

module _ (T : Table) (ord : Ordered T) (L : Lets) (lets : LetsAreProper T L) where
  mutual
    unfolding visit behind reading done

    proper : (t : TypedTree) (c : Context) (v : Value) → is_live T c.node ≡ true → is_live T c.current ≡ true → (meaning T L t c).answer ≡ Ok v → IsProper T v
    proper (disjunction ts) c v node current is = made_proper T ord (some_true (meanings T L ts) c) (λ b. Truth b) v (λ b. tt) is
    proper (conjunction ts) c v node current is = made_proper T ord (all_true (meanings T L ts) c) (λ b. Truth b) v (λ b. tt) is
    proper (comparison first rest) c v node current is =
        let one = came_before (meaning T L first c) (λ w. compared T (comparands_meant T L rest) w c) v is in
        compared_proper T ord (comparands_meant T L rest) one.first c v (proper first c one.first node current one.is) one.then
    proper (arithmetic first rest) c v node current is =
        let one = came_before (meaning T L first c) (λ w. bind (number_in T w) (λ x. bind (combined T (combinands_meant T L rest) x c) (λ y. done (Number y)))) v is in
        let two = came_before (number_in T one.first) (λ x. bind (combined T (combinands_meant T L rest) x c) (λ y. done (Number y))) v one.then in
        made_proper T ord (combined T (combinands_meant T L rest) two.first c) (λ y. Number y) v (λ y. tt) two.then
    proper (negation signs operand) c v node current is =
        let one = came_before (meaning T L operand c) (λ w. bind (number_in T w) (λ x. bind (given (negated signs x)) (λ y. done (Number y)))) v is in
        let two = came_before (number_in T one.first) (λ x. bind (given (negated signs x)) (λ y. done (Number y))) v one.then in
        made_proper T ord (given (negated signs two.first)) (λ y. Number y) v (λ y. tt) two.then
    proper (union ts) c v node current is =
        made_proper T ord (values T (λ _. AsItIs) (meanings T L ts) c) (λ vs. NodeSet (in_order T (flat_map nodes_of vs))) v (λ vs. of_order T ord (flat_map nodes_of vs)) is
    proper (location place steps) c v node current is =
        let one = came_before (start_nodes T L place c) (λ ns. bind (path T (steps_meant T L steps) c.current ns) (λ ms. done (NodeSet ms))) v is in
        let two = came_before (path T (steps_meant T L steps) c.current one.first) (λ ms. done (NodeSet ms)) v one.then in
        done_proper T ord (NodeSet two.first) v
        (path_proper T ord (steps_meant T L steps) c.current one.first two.first (proper_start place c one.first node current one.is) two.is) two.then
    proper (selection base predicates) c v node current is =
        let one = came_before (meaning T L base c) (λ w. bind (filtered (meanings T L predicates) c.current (nodes_of w)) (λ ms. done (NodeSet ms))) v is in
        let two = came_before (filtered (meanings T L predicates) c.current (nodes_of one.first)) (λ ms. done (NodeSet ms)) v one.then in
        done_proper T ord (NodeSet two.first) v
        (of_sub T ord two.first (sub-trans (filtered-sub (meanings T L predicates) c.current (nodes_of one.first) two.first two.is)
        (to_sub T ord (nodes_of one.first) (nodes_proper T ord one.first (proper base c one.first node current one.is))))) two.then
    proper (slot place type) c v node current is = slot_proper T ord (in_slot L place) v (λ w e. lets place w e) is
    proper (text characters) c v node current is = done_proper T ord (Chars characters) v tt is
    proper (whole number) c v node current is = done_proper T ord (Number (Whole number)) v tt is
    proper (application f ts) c v node current is =
        let one = came_before (values T (wanted f) (meanings T L ts) c) (λ vs. applied T f c vs) v is in
        function_proper T ord f c one.first v current one.then

    proper_start : (p : TypedPlace) (c : Context) (ns : List ℕ) → is_live T c.node ≡ true → is_live T c.current ≡ true → (start_nodes T L p c).answer ≡ Ok ns → IsNodeSet T ns
    proper_start at_root c ns node current is = subst (IsNodeSet T) (same_ok {F = EvalFault} (0 ∷ []) ns is) (root_alone T ord)
    proper_start at_context c ns node current is = subst (IsNodeSet T) (same_ok {F = EvalFault} (c.node ∷ []) ns is) (alone T ord c.node node)
    proper_start (at_nodes base) c ns node current is =
        let one = came_before (meaning T L base c) (λ w. done (nodes_of w)) ns is in
        subst (IsNodeSet T) (same_ok {F = EvalFault} (nodes_of one.first) ns one.then) (nodes_proper T ord one.first (proper base c one.first node current one.is))

pub values_are_proper : (T : Table) → Ordered T → ValuesAreProper T
values_are_proper T ord L t c v lets node current is = proper T ord L lets t c v node current is
