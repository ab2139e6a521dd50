-- What a function gives where the nodes of a tree are renumbered.
use Rattle.std.proofs.Common.{◌≡◌, ℕ, Bool, true, false, not, cond, ◌&&◌, List, [], ◌∷◌, ◌++◌, length, map, Option, None, Some, Result, Ok, Err, refl, sym, ap, ap₂, ◌∙◌}
use Rattle.std.proofs.lemmas.List.{length-map}
use Rattle.std.proofs.lemmas.Option.{slice_get-map}
use Rattle.std.specs.Prelude.{bytes_eq, codes, find, flat_map, option_map, slice_get}
use Rattle.doc_tree.specs.QNames.{written_in}
use Rattle.doc_tree.specs.cell.Cell.TheVariants.{Attrs, Value as ValueOf}
use Rattle.doc_tree.specs.kind.Kind.{Kind}
use Rattle.doc_tree.specs.Kinds.{is_element}
use Rattle.doc_tree.specs.NameTests.{named}
use Rattle.doc_tree.specs.Scope.{xml_namespace}
use Rattle.doc_tree.specs.declared.axes.Axis.TheVariants.{Attribute}
use Rattle.doc_tree.specs.Table.{Name, Table, attrs_of, kind_of, value_of}
use Rattle.doc_tree.specs.Walks.{above}
use Rattle.tree_iso.specs.Renumbering.{Hangs, Renumbers}
use Rattle.xp_typed_tree.specs.declared.function.Function.{Function}
use Rattle.xp_typed_tree.specs.declared.function.Function.TheVariants as functions
use Rattle.xp_outcome.specs.Evaluation.{Evaluation, bind, cell, done, given, names_along, reading}
use Rattle.xp_values.specs.declared.numbers.Num.{Num}
use Rattle.xp_values.specs.declared.values.EvalFault.{EvalFault}
use Rattle.xp_values.specs.declared.values.Value.{Value}
use Rattle.xp_values.specs.declared.values.Value.TheVariants.{NodeSet, Truth, Number, Chars}
use Rattle.xp_values.specs.Conversions.{to_truth}
use Rattle.xp_values.specs.Texts.{begins_with, contains, limited, normalize_space, string_length, substring, substring_after, substring_before, translate}
use Rattle.xp_meaning.specs.declared.context.Context.{Context}
use Rattle.xp_meaning.specs.Conversions.{nodes_of, sum_in}
use Rattle.xp_meaning.specs.Functions.{applied, argument, as_chars, counted, in_place, length_in, named_node, nodes_at, number_at, number_of, number_or_own, text_at, text_of, text_or_own}
use Rattle.xp_meaning.specs.Language.{decided_by, in_language, is_lang, is_language, lang_among, language_along, or_else, own_language}
use Rattle.xp_meaning.specs.Names.{local_in, name_at, of_name, uri_in}
use Rattle.xp_meaning.specs.Reads.{name_read}
use Rattle.xp_iso_laws.specs.Moved.{moved_context, moved_value}
use Rattle.xp_iso_laws.specs.Moves.{Moves}
use Rattle.xp_iso_laws.proofs.AxisLemmas.{kind-moved, name-moved, name_read-moved, value-moved}
use Rattle.xp_iso_laws.proofs.MoveLemmas.{moves-all_reading, moves-bind, moves-cond, moves-done, moves-equal, moves-given, moves-made, moves-reading}
use Rattle.xp_iso_laws.proofs.ValueLemmas.{as_is, moves-number_in, moves-sum_in, moves-text_in, name_at-moved, nodes-moved, truth-moved}

-- the first that passes, among numbers and among their images
found-moved : (f : ℕ → ℕ) (p q : ℕ → Bool) → ((n : ℕ) → q (f n) ≡ p n) → (ns : List ℕ) → find q (map f ns) ≡ option_map f (find p ns)
found-moved f p q agree [] = refl
found-moved f p q agree (n ∷ ns) = by (p n) (agree n) (found-moved f p q agree ns)
  where
    by : (b : Bool) → q (f n) ≡ b → find q (map f ns) ≡ option_map f (find p ns) → cond (q (f n)) (Some (f n)) (find q (map f ns)) ≡ option_map f (cond b (Some n) (find p ns))
    by true e more = ap (λ c. cond c (Some (f n)) (find q (map f ns))) e
    by false e more = ap (λ c. cond c (Some (f n)) (find q (map f ns))) e ∙ more

-- parts of a value
module _ (f : ℕ → ℕ) where
  text_of-moved : (v : Value) → text_of (moved_value f v) ≡ text_of v
  text_of-moved (NodeSet ns) = refl
  text_of-moved (Truth b) = refl
  text_of-moved (Number n) = refl
  text_of-moved (Chars s) = refl

  number_of-moved : (v : Value) → number_of (moved_value f v) ≡ number_of v
  number_of-moved (NodeSet ns) = refl
  number_of-moved (Truth b) = refl
  number_of-moved (Number n) = refl
  number_of-moved (Chars s) = refl

  in_place-moved : (o : Option Value) → in_place (option_map (moved_value f) o) ≡ moved_value f (in_place o)
  in_place-moved None = refl
  in_place-moved (Some v) = refl

  argument-moved : (vs : List Value) (i : ℕ) → argument (map (moved_value f) vs) i ≡ moved_value f (argument vs i)
  argument-moved vs i = ap in_place (slice_get-map (moved_value f) vs i) ∙ in_place-moved (slice_get vs i)

  nodes_at-moved : (vs : List Value) (i : ℕ) → nodes_at (map (moved_value f) vs) i ≡ map f (nodes_at vs i)
  nodes_at-moved vs i = ap nodes_of (argument-moved vs i) ∙ nodes-moved f (argument vs i)

  text_at-moved : (vs : List Value) (i : ℕ) → text_at (map (moved_value f) vs) i ≡ text_at vs i
  text_at-moved vs i = ap text_of (argument-moved vs i) ∙ text_of-moved (argument vs i)

  number_at-moved : (vs : List Value) (i : ℕ) → number_at (map (moved_value f) vs) i ≡ number_at vs i
  number_at-moved vs i = ap number_of (argument-moved vs i) ∙ number_of-moved (argument vs i)

  length_in-moved : (vs : List Value) → length_in (map (moved_value f) vs) ≡ length_in vs
  length_in-moved vs = ap (option_map number_of) (slice_get-map (moved_value f) vs 2) ∙ by (slice_get vs 2)
    where
      by : (o : Option Value) → option_map number_of (option_map (moved_value f) o) ≡ option_map number_of o
      by None = refl
      by (Some v) = ap (λ (n : Num). Some n) (number_of-moved v)

  texts-joined : (vs : List Value) → flat_map text_of (map (moved_value f) vs) ≡ flat_map text_of vs
  texts-joined [] = refl
  texts-joined (v ∷ vs) = ap₂ (λ (x y : List ℕ). x ++ y) (text_of-moved v) (texts-joined vs)

  first_node-moved : (v : Value) → slice_get (nodes_of (moved_value f v)) 0 ≡ option_map f (slice_get (nodes_of v) 0)
  first_node-moved v = ap (λ (ns : List ℕ). slice_get ns 0) (nodes-moved f v) ∙ slice_get-map f (nodes_of v) 0

  named_node-moved : (c : Context) (vs : List Value) → named_node (moved_context f c) (map (moved_value f) vs) ≡ option_map f (named_node c vs)
  named_node-moved c [] = refl
  named_node-moved c (v ∷ vs) = first_node-moved v

module _ (f : ℕ → ℕ) (T U : Table) (r : Renumbers f T U) (h : Hangs f T U) where
  is_lang-moved : (a : ℕ) → is_lang U (f a) ≡ is_lang T a
  is_lang-moved a =
      ap (λ (name : Option Name). named name (λ given. bytes_eq given.uri xml_namespace && bytes_eq given.local (codes "lang"))) (name-moved f T U r h a)

  lang_among-moved : (n : ℕ) → lang_among U (attrs_of U (f n)) ≡ option_map f (lang_among T (attrs_of T n))
  lang_among-moved n = ap (lang_among U) (r.attributes n) ∙ found-moved f (is_lang T) (is_lang U) is_lang-moved (attrs_of T n)

  -- an answer that holds no nodes
  plain_done : {A : Type 0} (v w : A) → w ≡ v → Moves f {F = EvalFault} {A = A} as_is (done v) (done w)
  plain_done v w e = moves-done f as_is v w e

  moves-decided_by : (wanted : List ℕ) (o : Option ℕ) → Moves f {A = Option Bool} as_is (decided_by T wanted o) (decided_by U wanted (option_map f o))
  moves-decided_by wanted None = plain_done None None refl
  moves-decided_by wanted (Some a) =
      moves-reading f as_is (cell (ValueOf a)) (cell (ValueOf (f a))) (done (Some (is_language (value_of T a) wanted))) (done (Some (is_language (value_of U (f a)) wanted))) refl
      (plain_done (Some (is_language (value_of T a) wanted)) (Some (is_language (value_of U (f a)) wanted)) (ap (λ s. Some (is_language s wanted)) (value-moved f T U r h a)))

  moves-own_language : (wanted : List ℕ) (n : ℕ) → Moves f {A = Option Bool} as_is (own_language T wanted n) (own_language U wanted (f n))
  moves-own_language wanted n =
      let before : Evaluation EvalFault (Option Bool) = decided_by T wanted (lang_among T (attrs_of T n)) in
      let after : Evaluation EvalFault (Option Bool) = decided_by U wanted (option_map f (lang_among T (attrs_of T n))) in
      let read : ℕ → Evaluation EvalFault (Option Bool) → Evaluation EvalFault (Option Bool) =
      λ m rest. reading (cell (Attrs m)) (reading (names_along Attribute m) rest) in
      let same : cond (is_element (kind_of T n)) (read (f n) after) (done None) ≡ own_language U wanted (f n) =
      ap₂ (λ (kind : Option Kind) (o : Option ℕ). cond (is_element kind) (read (f n) (decided_by U wanted o)) (done None))
      (sym (kind-moved f T U r h n)) (sym (lang_among-moved n)) in
      moves-equal f as_is (own_language T wanted n) (cond (is_element (kind_of T n)) (read (f n) after) (done None))
      (own_language U wanted (f n)) same
      (moves-cond f as_is (is_element (kind_of T n)) (read n before) (done None) (read (f n) after) (done None)
      (moves-reading f as_is (cell (Attrs n)) (cell (Attrs (f n))) (reading (names_along Attribute n) before)
      (reading (names_along Attribute (f n)) after) refl
      (moves-reading f as_is (names_along Attribute n) (names_along Attribute (f n)) before after refl
      (moves-decided_by wanted (lang_among T (attrs_of T n)))))
      (plain_done None None refl))

  moves-or_else : (found : Option Bool) (before after : Evaluation EvalFault Bool) → Moves f {A = Bool} as_is before after → Moves f {A = Bool} as_is (or_else found before) (or_else found after)
  moves-or_else None before after m = m
  moves-or_else (Some truth) before after m = plain_done truth truth refl

  moves-language_along : (wanted ns : List ℕ) → Moves f {A = Bool} as_is (language_along T wanted ns) (language_along U wanted (map f ns))
  moves-language_along wanted [] = plain_done false false refl
  moves-language_along wanted (n ∷ ns) =
      moves-bind f as_is as_is (own_language T wanted n) (own_language U wanted (f n))
      (λ found. or_else found (language_along T wanted ns)) (λ found. or_else found (language_along U wanted (map f ns))) (moves-own_language wanted n)
      (λ found. moves-or_else found (language_along T wanted ns) (language_along U wanted (map f ns)) (moves-language_along wanted ns))

  moves-in_language : (n : ℕ) (wanted other : List ℕ) → other ≡ wanted → Moves f {A = Bool} as_is (in_language T n wanted) (in_language U (f n) other)
  unfolding in_language
  moves-in_language n wanted other e =
      moves-equal f as_is (language_along T wanted (above T n)) (language_along U wanted (map f (above T n))) (language_along U other (above U (f n)))
      (ap₂ (λ (s ns : List ℕ). language_along U s (f n ∷ ns)) (sym e) (sym (h.ancestors_go n))) (moves-language_along wanted (above T n))

  value_done : (v w : Value) → w ≡ moved_value f v → Moves f {F = EvalFault} (moved_value f) (done v) (done w)
  value_done v w e = moves-done f (moved_value f) v w e

  chars_given : (p q : Result (List ℕ) EvalFault) → q ≡ p → Moves f (moved_value f) (given (as_chars p)) (given (as_chars q))
  chars_given p q e = moves-equal f (moved_value f) (given (as_chars p)) (given (as_chars p)) (given (as_chars q)) (ap (λ x. given (as_chars x)) (sym e)) (by p)
    where
      by : (p : Result (List ℕ) EvalFault) → Moves f (moved_value f) (given (as_chars p)) (given (as_chars p))
      by (Ok text) = moves-given f (moved_value f) (Ok (Chars text))
      by (Err x) = moves-given f (moved_value f) (Err x)

  -- the context node, or the argument
  moves-text_or_own : (c : Context) (vs : List Value) → Moves f {A = List ℕ} as_is (text_or_own T c vs) (text_or_own U (moved_context f c) (map (moved_value f) vs))
  moves-text_or_own c [] = moves-text_in f T U r h (NodeSet (c.node ∷ []))
  moves-text_or_own c (v ∷ vs) = plain_done (text_of v) (text_of (moved_value f v)) (text_of-moved f v)

  moves-number_or_own : (c : Context) (vs : List Value) → Moves f {A = Num} as_is (number_or_own T c vs) (number_or_own U (moved_context f c) (map (moved_value f) vs))
  moves-number_or_own c [] = moves-number_in f T U r h (NodeSet (c.node ∷ []))
  moves-number_or_own c (v ∷ vs) = plain_done (number_of v) (number_of (moved_value f v)) (number_of-moved f v)

  -- a part of the name of the node that is asked for
  moves-named : (part : Option Name → List ℕ) (c : Context) (vs : List Value) →
      Moves f (moved_value f) (of_name T (named_node c vs) (λ name. Chars (part name)))
      (of_name U (named_node (moved_context f c) (map (moved_value f) vs)) (λ name. Chars (part name)))
  moves-named part c vs =
      moves-equal f (moved_value f) (of_name T (named_node c vs) (λ name. Chars (part name)))
      (of_name U (option_map f (named_node c vs)) (λ name. Chars (part name))) _
      (ap (λ o. of_name U o (λ name. Chars (part name))) (sym (named_node-moved f c vs)))
      (moves-all_reading f (moved_value f) (name_read T (named_node c vs)) (name_read U (option_map f (named_node c vs))) _ _
      (name_read-moved f T U r h (named_node c vs))
      (value_done (Chars (part (name_at T (named_node c vs)))) (Chars (part (name_at U (option_map f (named_node c vs)))))
      (ap (λ name. Chars (part name)) (name_at-moved f T U r h (named_node c vs)))))

  -- an answer made of one that holds no nodes
  made : {A : Type 0} (p : A → Value) → ((v : A) → p v ≡ moved_value f (p v)) → (before after : Evaluation EvalFault A) → Moves f {A = A} as_is before after →
      Moves f (moved_value f) (bind before (λ v. done (p v))) (bind after (λ v. done (p v)))
  made p e before after m = moves-made f as_is (moved_value f) before after p p m e

  pub moves-applied : (g : Function) (c : Context) (vs : List Value) → Moves f (moved_value f) (applied T g c vs) (applied U g (moved_context f c) (map (moved_value f) vs))
  moves-applied functions.Last c vs = value_done (counted c.size) (counted c.size) refl
  moves-applied functions.Position c vs = value_done (counted c.position) (counted c.position) refl
  moves-applied functions.Current c vs = value_done (NodeSet (c.current ∷ [])) (NodeSet (f c.current ∷ [])) refl
  moves-applied functions.Count c vs =
      value_done (counted (length (nodes_at vs 0))) (counted (length (nodes_at (map (moved_value f) vs) 0)))
      (ap counted (ap length (nodes_at-moved f vs 0) ∙ length-map (nodes_at vs 0) f))
  moves-applied functions.Sum c vs =
      made (λ n. Number n) (λ n. refl) (sum_in T (nodes_at vs 0)) (sum_in U (nodes_at (map (moved_value f) vs) 0))
      (moves-equal f as_is (sum_in T (nodes_at vs 0)) (sum_in U (map f (nodes_at vs 0))) (sum_in U (nodes_at (map (moved_value f) vs) 0))
      (ap (sum_in U) (sym (nodes_at-moved f vs 0))) (moves-sum_in f T U r h (nodes_at vs 0)))
  moves-applied functions.LocalName c vs = moves-named (λ name. local_in name) c vs
  moves-applied functions.NamespaceUri c vs = moves-named (λ name. uri_in name) c vs
  moves-applied functions.Name c vs = moves-named (λ name. written_in name) c vs
  moves-applied functions.String c vs = made (λ s. Chars s) (λ s. refl) _ _ (moves-text_or_own c vs)
  moves-applied functions.Number c vs = made (λ n. Number n) (λ n. refl) _ _ (moves-number_or_own c vs)
  moves-applied functions.Boolean c vs = value_done (Truth _) (Truth _) (ap (λ b. Truth b) (ap to_truth (argument-moved f vs 0) ∙ truth-moved f (argument vs 0)))
  moves-applied functions.Not c vs = value_done (Truth _) (Truth _) (ap (λ b. Truth (not b)) (ap to_truth (argument-moved f vs 0) ∙ truth-moved f (argument vs 0)))
  moves-applied functions.True c vs = value_done (Truth true) (Truth true) refl
  moves-applied functions.False c vs = value_done (Truth false) (Truth false) refl
  moves-applied functions.Concat c vs = chars_given _ _ (ap limited (texts-joined f vs))
  moves-applied functions.StartsWith c vs = value_done (Truth _) (Truth _) (ap₂ (λ (x y : List ℕ). Truth (begins_with x y)) (text_at-moved f vs 0) (text_at-moved f vs 1))
  moves-applied functions.Contains c vs = value_done (Truth _) (Truth _) (ap₂ (λ (x y : List ℕ). Truth (contains x y)) (text_at-moved f vs 0) (text_at-moved f vs 1))
  moves-applied functions.SubstringBefore c vs = value_done (Chars _) (Chars _) (ap₂ (λ (x y : List ℕ). Chars (substring_before x y)) (text_at-moved f vs 0) (text_at-moved f vs 1))
  moves-applied functions.SubstringAfter c vs = value_done (Chars _) (Chars _) (ap₂ (λ (x y : List ℕ). Chars (substring_after x y)) (text_at-moved f vs 0) (text_at-moved f vs 1))
  moves-applied functions.Substring c vs =
      value_done (Chars _) (Chars _) (λ i. Chars (substring (text_at-moved f vs 0 i) (number_at-moved f vs 1 i) (length_in-moved f vs i)))
  moves-applied functions.StringLength c vs = made (λ text. Number (string_length text)) (λ text. refl) _ _ (moves-text_or_own c vs)
  moves-applied functions.NormalizeSpace c vs = made (λ text. Chars (normalize_space text)) (λ text. refl) _ _ (moves-text_or_own c vs)
  moves-applied functions.Translate c vs = chars_given _ _ (λ i. translate (text_at-moved f vs 0 i) (text_at-moved f vs 1 i) (text_at-moved f vs 2 i))
  moves-applied functions.Lang c vs =
      made (λ truth. Truth truth) (λ truth. refl) (in_language T c.node (text_at vs 0)) (in_language U (f c.node) (text_at (map (moved_value f) vs) 0))
      (moves-in_language c.node (text_at vs 0) (text_at (map (moved_value f) vs) 0) (text_at-moved f vs 0))
  moves-applied functions.Floor c vs = value_done (Number _) (Number _) (ap (λ n. Number n) (number_at-moved f vs 0))
  moves-applied functions.Ceiling c vs = value_done (Number _) (Number _) (ap (λ n. Number n) (number_at-moved f vs 0))
  moves-applied functions.Round c vs = value_done (Number _) (Number _) (ap (λ n. Number n) (number_at-moved f vs 0))
