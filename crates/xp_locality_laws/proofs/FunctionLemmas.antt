-- A function gives the same in both trees, where the nodes of its arguments and of the context live in both.
use Rattle.std.proofs.Common.{◌≡◌, ℕ, Bool, true, false, not, cond, ◌&&◌, List, [], ◌∷◌, ◌++◌, length, Option, None, Some, Result, Ok, Err, refl, sym, ap, ◌∙◌, subst}
use Rattle.std.specs.List.{list_any}
use Rattle.std.specs.Prelude.{bytes_eq, codes, find, flat_map}
use Rattle.doc_tree.specs.QNames.{written_in}
use Rattle.doc_tree.specs.cell.Cell.{Cell}
use Rattle.doc_tree.specs.cell.Cell.TheVariants.{Attrs, Value as ValueOf}
use Rattle.doc_tree.specs.Kinds.{is_element}
use Rattle.doc_tree.specs.Lists.{mem}
use Rattle.doc_tree.specs.NameTests.{named}
use Rattle.doc_tree.specs.Scope.{xml_namespace}
use Rattle.doc_tree.specs.declared.axes.Axis.TheVariants.{Attribute}
use Rattle.doc_tree.specs.Table.{Name, Table, attrs_of, is_live, kind_of, parent_of, value_of}
use Rattle.doc_tree.specs.Walks.{above, ancestors, order}
use Rattle.doc_axes.specs.Axes.{axis_nodes, is_attribute_kind}
use Rattle.doc_tree.proofs.ListLemmas.{mem-head, mem-tail}
use Rattle.doc_edit_laws.specs.Agreement.{AllStay, Stays}
use Rattle.xp_typed_tree.specs.declared.function.Function.{Function}
use Rattle.xp_typed_tree.specs.declared.function.Function.TheVariants as functions
use Rattle.xp_outcome.specs.Evaluation.{Evaluation, bind, cell, done, given, names_along, reading}
use Rattle.xp_outcome.specs.Cells.{names_on}
use Rattle.xp_values.specs.declared.values.EvalFault.{EvalFault}
use Rattle.xp_values.specs.declared.values.Value.{Value}
use Rattle.xp_values.specs.declared.values.Value.TheVariants.{NodeSet, Truth, Number, Chars}
use Rattle.xp_values.specs.Conversions.{to_truth}
use Rattle.xp_values.specs.Texts.{begins_with, contains, limited, normalize_space, string_length, substring, substring_after, substring_before, translate}
use Rattle.xp_meaning.specs.declared.context.Context.{Context}
use Rattle.xp_meaning.specs.Conversions.{nodes_of, sum_in}
use Rattle.xp_meaning.specs.Evaluation.{Lets}
use Rattle.xp_meaning.specs.Functions.{applied, argument, as_chars, counted, length_in, named_node, nodes_at, number_at, number_of, number_or_own, text_at, text_of, text_or_own}
use Rattle.xp_meaning.specs.Language.{decided_by, in_language, is_lang, is_language, lang_among, language_along, or_else, own_language}
use Rattle.xp_meaning.specs.Names.{local_in, of_name, uri_in}
use Rattle.xp_locality_laws.specs.Locality.{Changed, ContextStays}
use Rattle.xp_locality_laws.proofs.StandLemmas.{Same, no_nodes, same-bind, same-cond, same-done, same-equal, same-fault, same-made, same-reading}
use Rattle.xp_locality_laws.proofs.ValueLemmas.{plain_done, same-number_in, same-sum_in, same-text_in}
use Rattle.xp_locality_laws.proofs.NameLemmas.{first-stays, name-kept, same-name, same-of_name}
use Rattle.xp_locality_laws.proofs.TestLemmas.{mem-filter}

-- the first that passes two tests that agree on a list
same-found : (test other : ℕ → Bool) (xs : List ℕ) → ((x : ℕ) → mem x xs ≡ true → test x ≡ other x) → find test xs ≡ find other xs
same-found test other [] h = refl
same-found test other (x ∷ xs) h =
    let here = h x (mem-head x xs) in
    let rest = same-found test other xs (λ y is. h y (mem-tail y x xs is)) in
    λ i. cond (here i) (Some x) (rest i)

found-listed : (test : ℕ → Bool) (xs : List ℕ) (found : ℕ) → find test xs ≡ Some found → mem found xs ≡ true
found-listed test [] found e = cc
found-listed test (x ∷ xs) found e = by (test x) e (found-listed test xs found)
  where
    by : (b : Bool) → cond b (Some x) (find test xs) ≡ Some found → (find test xs ≡ Some found → mem found xs ≡ true) → mem found (x ∷ xs) ≡ true
    by true is rest = let same : x ≡ found = cc in subst (λ y. mem y (x ∷ xs) ≡ true) same (mem-head x xs)
    by false is rest = mem-tail found x xs (rest is)

module _ (T U : Table) where
  stay-front : (ns ms : List ℕ) → AllStay T U (ns ++ ms) → AllStay T U ns
  stay-front [] ms h = tt
  stay-front (n ∷ ns) ms h = (h.0, stay-front ns ms h.1)

  first-nodes_stay : (vs : List Value) → AllStay T U (flat_map nodes_of vs) → AllStay T U (nodes_at vs 0)
  first-nodes_stay [] h = tt
  first-nodes_stay (v ∷ vs) h = stay-front (nodes_of v) (flat_map nodes_of vs) h

module _ (T U : Table) (touched : Cell → Bool) (L M : Lets) (changed : Changed T U touched) where
  both-live : (n : ℕ) → is_live T n ≡ true → is_live U n ≡ true → Stays T U n
  both-live n h k = ap (λ b. b && is_live U n) h ∙ k

  -- the parent of a node that lives in both trees
  same-parent : (n p : ℕ) → Stays T U n → parent_of T n ≡ Some p → (parent_of U n ≡ Some p) × Stays T U p
  same-parent n p h is =
      let other : parent_of U n ≡ Some p = sym (changed.agree.parent n h) ∙ is in
      (other, both-live p (changed.before.ways_up.parent_live n p is) (changed.after.ways_up.parent_live n p other))

  -- the ways up from a node that lives in both trees are the same, and each node on them lives in both
  same-way_up : (ns : List ℕ) (n : ℕ) → ancestors T n ≡ ns → Stays T U n → (ancestors T n ≡ ancestors U n) × AllStay T U ns
  same-way_up [] n e h = by (parent_of T n) refl
    where
      by : (parent : Option ℕ) → parent_of T n ≡ parent → (ancestors T n ≡ ancestors U n) × Unit {0}
      by None is = (e ∙ sym (changed.after.ways_up.no_ancestors n (sym (changed.agree.parent n h) ∙ is)), tt)
      by (Some p) is = let bad : [] ≡ p ∷ ancestors T p = sym e ∙ changed.before.ways_up.ancestors_at n p is in cc
  same-way_up (q ∷ qs) n e h = by (parent_of T n) refl (λ m. same-way_up qs m)
    where
      by : (parent : Option ℕ) → parent_of T n ≡ parent →
          ((m : ℕ) → ancestors T m ≡ qs → Stays T U m → (ancestors T m ≡ ancestors U m) × AllStay T U qs) → (ancestors T n ≡ ancestors U n) × AllStay T U (q ∷ qs)
      by None is rest = let bad : [] ≡ q ∷ qs = sym (changed.before.ways_up.no_ancestors n is) ∙ e in cc
      by (Some p) is rest =
          let up : ancestors T n ≡ p ∷ ancestors T p = changed.before.ways_up.ancestors_at n p is in
          let split : p ∷ ancestors T p ≡ q ∷ qs = sym up ∙ e in
          let first : p ≡ q = cc split in
          let others : ancestors T p ≡ qs = cc split in
          let parent = same-parent n p h is in
          let more = rest p others parent.1 in
          (up ∙ (ap (λ ms. p ∷ ms) more.0 ∙ sym (changed.after.ways_up.ancestors_at n p parent.0)), (subst (λ m. Stays T U m) first parent.1, more.1))

  pub same-ancestors : (n : ℕ) → Stays T U n → (ancestors T n ≡ ancestors U n) × AllStay T U (ancestors T n)
  same-ancestors n h = same-way_up (ancestors T n) n refl h

  -- the attributes of an element
  attribute-stays : (n : ℕ) → Stays T U n → touched (Attrs n) ≡ false → (a : ℕ) → mem a (attrs_of T n) ≡ true → Stays T U a
  attribute-stays n h k a is =
      both-live a (changed.before.ways_up.attribute_live n a is)
      (changed.after.ways_up.attribute_live n a (subst (λ attributes. mem a attributes ≡ true) (changed.agree.attributes n h k) is))

  -- an attribute stands on the attribute axis
  on-attribute_axis : (n a : ℕ) → mem a (attrs_of T n) ≡ true → mem a (axis_nodes T Attribute n) ≡ true
  on-attribute_axis n a is =
      mem-filter (λ m. mem m (attrs_of T n)) a is (order T)
      ∙ sym (changed.before.ordered.live_in_order a) ∙ changed.before.ways_up.attribute_live n a is

  same-lang_among : (n : ℕ) → Stays T U n → touched (Attrs n) ≡ false → list_any touched (names_on T Attribute (axis_nodes T Attribute n)) ≡ false →
      lang_among T (attrs_of T n) ≡ lang_among U (attrs_of U n)
  same-lang_among n h k names =
      same-found (is_lang T) (is_lang U) (attrs_of T n)
      (λ a is. ap (λ name. named name (λ given. bytes_eq given.uri xml_namespace && bytes_eq given.local (codes "lang")))
      (same-name T U touched L M changed a (attribute-stays n h k a is)
      (λ _. name-kept T touched Attribute (axis_nodes T Attribute n) names a (on-attribute_axis n a is)
      (ap is_attribute_kind (changed.before.well_formed.attribute_kind n a is)))))
      ∙ ap (lang_among U) (changed.agree.attributes n h k)

  -- what decides the language of a node
  same-decided_by : (wanted : List ℕ) (found : Option ℕ) → ((a : ℕ) → found ≡ Some a → Stays T U a) → Same T U touched L M no_nodes (decided_by T wanted found) (decided_by U wanted found)
  same-decided_by wanted None h = same-done T U touched L M no_nodes None tt
  same-decided_by wanted (Some a) h =
      same-reading T U touched L M no_nodes (cell (ValueOf a)) (done (Some (is_language (value_of T a) wanted))) (done (Some (is_language (value_of U a) wanted)))
      (λ k. plain_done T U touched L M changed (Some (is_language (value_of T a) wanted)) (Some (is_language (value_of U a) wanted))
      (ap (λ s. Some (is_language s wanted)) (changed.agree.value a (h a refl) k)))

  same-own_language : (wanted : List ℕ) (n : ℕ) → Stays T U n → Same T U touched L M no_nodes (own_language T wanted n) (own_language U wanted n)
  same-own_language wanted n h =
      let before : Evaluation EvalFault (Option Bool) = decided_by T wanted (lang_among T (attrs_of T n)) in
      let after : Evaluation EvalFault (Option Bool) = decided_by U wanted (lang_among U (attrs_of U n)) in
      let read : Evaluation EvalFault (Option Bool) → Evaluation EvalFault (Option Bool) =
      λ m. reading (cell (Attrs n)) (reading (names_along Attribute n) m) in
      same-equal T U touched L M no_nodes (own_language T wanted n)
      (cond (is_element (kind_of T n)) (read after) (done None)) (own_language U wanted n)
      (ap (λ kind. cond (is_element kind) (read after) (done None)) (changed.agree.kind n h))
      (same-cond T U touched L M no_nodes (is_element (kind_of T n)) (read before) (done None) (read after) (done None)
      (same-reading T U touched L M no_nodes (cell (Attrs n)) (reading (names_along Attribute n) before) (reading (names_along Attribute n) after)
      (λ k. same-reading T U touched L M no_nodes (names_along Attribute n) before after
      (λ names. same-equal T U touched L M no_nodes before (decided_by U wanted (lang_among T (attrs_of T n))) after
      (ap (decided_by U wanted) (same-lang_among n h k names))
      (same-decided_by wanted (lang_among T (attrs_of T n)) (λ a is. attribute-stays n h k a (found-listed (is_lang T) (attrs_of T n) a is))))))
      (same-done T U touched L M no_nodes None tt))

  same-or_else : (found : Option Bool) (before after : Evaluation EvalFault Bool) → Same T U touched L M no_nodes before after →
      Same T U touched L M no_nodes (or_else found before) (or_else found after)
  same-or_else None before after h = h
  same-or_else (Some truth) before after h = same-done T U touched L M no_nodes truth tt

  same-language_along : (wanted ns : List ℕ) → AllStay T U ns → Same T U touched L M no_nodes (language_along T wanted ns) (language_along U wanted ns)
  same-language_along wanted [] h = same-done T U touched L M no_nodes false tt
  same-language_along wanted (n ∷ ns) h =
      let rest : Same T U touched L M no_nodes (language_along T wanted ns) (language_along U wanted ns) = same-language_along wanted ns h.1 in
      same-bind T U touched L M no_nodes no_nodes (own_language T wanted n) (own_language U wanted n)
      (λ found. or_else found (language_along T wanted ns)) (λ found. or_else found (language_along U wanted ns)) (same-own_language wanted n h.0)
      (λ found _. same-or_else found (language_along T wanted ns) (language_along U wanted ns) rest)

  pub same-in_language : (n : ℕ) (wanted : List ℕ) → Stays T U n → Same T U touched L M no_nodes (in_language T n wanted) (in_language U n wanted)
  unfolding in_language
  same-in_language n wanted h =
      let up = same-ancestors n h in
      same-equal T U touched L M no_nodes (language_along T wanted (above T n)) (language_along U wanted (above T n)) (language_along U wanted (above U n))
      (ap (λ ns. language_along U wanted (n ∷ ns)) up.0) (same-language_along wanted (above T n) (h, up.1))

  -- an answer that looks at no tree
  plain : (v : Value) → nodes_of v ≡ [] → Same T U touched L M {F = EvalFault} nodes_of (done v) (done v)
  plain v e = same-done T U touched L M nodes_of v (subst (λ ns. AllStay T U ns) (sym e) tt)

  chars_given : (r : Result (List ℕ) EvalFault) → Same T U touched L M nodes_of (given (as_chars r)) (given (as_chars r))
  chars_given (Ok text) = plain (Chars text) refl
  chars_given (Err f) = same-fault T U touched L M nodes_of f

  -- the context node, or the argument
  same-text_or_own : (c : Context) (vs : List Value) → ContextStays T U c → Same T U touched L M no_nodes (text_or_own T c vs) (text_or_own U c vs)
  same-text_or_own c [] h = same-text_in T U touched L M changed (NodeSet (c.node ∷ [])) (h.node, tt)
  same-text_or_own c (v ∷ vs) h = same-done T U touched L M no_nodes (text_of v) tt

  same-number_or_own : (c : Context) (vs : List Value) → ContextStays T U c → Same T U touched L M no_nodes (number_or_own T c vs) (number_or_own U c vs)
  same-number_or_own c [] h = same-number_in T U touched L M changed (NodeSet (c.node ∷ [])) (h.node, tt)
  same-number_or_own c (v ∷ vs) h = same-done T U touched L M no_nodes (number_of v) tt

  -- the node whose name is asked for
  named-stays : (c : Context) (vs : List Value) → ContextStays T U c → AllStay T U (flat_map nodes_of vs) →
      (m : ℕ) → named_node c vs ≡ Some m → Stays T U m
  named-stays c [] h k m e = let same : c.node ≡ m = cc in subst (λ n. Stays T U n) same h.node
  named-stays c (v ∷ vs) h k m e = first-stays T U touched L M changed (nodes_of v) (stay-front T U (nodes_of v) (flat_map nodes_of vs) k) m e

  same-named : (part : Option Name → List ℕ) (c : Context) (vs : List Value) → ContextStays T U c → AllStay T U (flat_map nodes_of vs) →
      Same T U touched L M nodes_of (of_name T (named_node c vs) (λ name. Chars (part name)))
      (of_name U (named_node c vs) (λ name. Chars (part name)))
  same-named part c vs h k =
      same-of_name T U touched L M changed nodes_of (named_node c vs) (λ name. Chars (part name)) (named-stays c vs h k) (λ _. tt)

  -- an answer made of one that holds no nodes, in the same way in both trees
  made : {A : Type 0} (f : A → Value) → ((v : A) → nodes_of (f v) ≡ []) → (before after : Evaluation EvalFault A) → Same T U touched L M no_nodes before after →
      Same T U touched L M nodes_of (bind before (λ v. done (f v))) (bind after (λ v. done (f v)))
  made f e before after h = same-made T U touched L M no_nodes nodes_of before after f f h (λ v _. (refl, subst (λ ns. AllStay T U ns) (sym (e v)) tt))

  pub same-applied : (f : Function) (c : Context) (vs : List Value) → ContextStays T U c → AllStay T U (flat_map nodes_of vs) →
      Same T U touched L M nodes_of (applied T f c vs) (applied U f c vs)
  same-applied functions.Last c vs h k = plain (counted c.size) refl
  same-applied functions.Position c vs h k = plain (counted c.position) refl
  same-applied functions.Current c vs h k = same-done T U touched L M nodes_of (NodeSet (c.current ∷ [])) (h.current, tt)
  same-applied functions.Count c vs h k = plain (counted (length (nodes_at vs 0))) refl
  same-applied functions.Sum c vs h k =
      made (λ n. Number n) (λ n. refl) (sum_in T (nodes_at vs 0)) (sum_in U (nodes_at vs 0))
      (same-sum_in T U touched L M changed (nodes_at vs 0) (first-nodes_stay T U vs k))
  same-applied functions.LocalName c vs h k = same-named (λ name. local_in name) c vs h k
  same-applied functions.NamespaceUri c vs h k = same-named (λ name. uri_in name) c vs h k
  same-applied functions.Name c vs h k = same-named (λ name. written_in name) c vs h k
  same-applied functions.String c vs h k = made (λ s. Chars s) (λ s. refl) (text_or_own T c vs) (text_or_own U c vs) (same-text_or_own c vs h)
  same-applied functions.Number c vs h k = made (λ n. Number n) (λ n. refl) (number_or_own T c vs) (number_or_own U c vs) (same-number_or_own c vs h)
  same-applied functions.Boolean c vs h k = plain (Truth (to_truth (argument vs 0))) refl
  same-applied functions.Not c vs h k = plain (Truth (not (to_truth (argument vs 0)))) refl
  same-applied functions.True c vs h k = plain (Truth true) refl
  same-applied functions.False c vs h k = plain (Truth false) refl
  same-applied functions.Concat c vs h k = chars_given (limited (flat_map text_of vs))
  same-applied functions.StartsWith c vs h k = plain (Truth (begins_with (text_at vs 0) (text_at vs 1))) refl
  same-applied functions.Contains c vs h k = plain (Truth (contains (text_at vs 0) (text_at vs 1))) refl
  same-applied functions.SubstringBefore c vs h k = plain (Chars (substring_before (text_at vs 0) (text_at vs 1))) refl
  same-applied functions.SubstringAfter c vs h k = plain (Chars (substring_after (text_at vs 0) (text_at vs 1))) refl
  same-applied functions.Substring c vs h k = plain (Chars (substring (text_at vs 0) (number_at vs 1) (length_in vs))) refl
  same-applied functions.StringLength c vs h k =
      made (λ text. Number (string_length text)) (λ text. refl) (text_or_own T c vs) (text_or_own U c vs) (same-text_or_own c vs h)
  same-applied functions.NormalizeSpace c vs h k =
      made (λ text. Chars (normalize_space text)) (λ text. refl) (text_or_own T c vs) (text_or_own U c vs) (same-text_or_own c vs h)
  same-applied functions.Translate c vs h k = chars_given (translate (text_at vs 0) (text_at vs 1) (text_at vs 2))
  same-applied functions.Lang c vs h k =
      made (λ truth. Truth truth) (λ truth. refl) (in_language T c.node (text_at vs 0)) (in_language U c.node (text_at vs 0))
      (same-in_language c.node (text_at vs 0) h.node)
  same-applied functions.Floor c vs h k = plain (Number (number_at vs 0)) refl
  same-applied functions.Ceiling c vs h k = plain (Number (number_at vs 0)) refl
  same-applied functions.Round c vs h k = plain (Number (number_at vs 0)) refl
