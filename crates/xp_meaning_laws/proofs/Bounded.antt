-- The values of functions and of all expressions are bounded.
use Rattle.std.proofs.Common.{◌≡◌, ℕ, zero, suc, ◌≤◌, Bool, ℤ, pos, negsuc, ◌≤ℤ◌, leb→le, List, [], ◌∷◌, length, Option, None, Some, Result, Ok, Err, refl, sym, subst, arith, IsUtf8, slice_get}
use Rattle.std.specs.Prelude.{flat_map}
use Rattle.std.specs.List.{AllByRecursion as Each}
use Rattle.std.proofs.lemmas.Str.{IsUtf8-nil, IsUtf8-append}
use Rattle.doc_tree.specs.QNames.{written_in}
use Rattle.doc_tree.specs.Laws.{WellFormed, Ordered}
use Rattle.doc_tree.specs.Lists.{mem}
use Rattle.doc_tree.specs.Table.{Table, Name, name_of}
use Rattle.doc_tree.specs.Walks.{order}
use Rattle.doc_axes.specs.Sets.{in_order}
use Rattle.xp_tree.specs.declared.numbers.TheConstants.{MAX_WHOLE}
use Rattle.xp_typed_tree.specs.declared.function.Function.{Function}
use Rattle.xp_typed_tree.specs.declared.function.Function.TheVariants as functions
use Rattle.xp_typed_tree.specs.TypedTree.{TypedTree, TypedPlace, TypedTrees, disjunction, conjunction, comparison, arithmetic, negation, union, location, selection, slot, text, whole, application, at_root, at_context, at_nodes, no_typed, typed}
use Rattle.xp_typed_tree.specs.WellTyped.{WellTyped, PlaceTyped, AllTyped, wants_nodes}
use Rattle.xp_outcome.specs.Evaluation.{Evaluation, done, given, bind, all_reading, variable}
use Rattle.xp_outcome.specs.Slots.{in_slot}
use Rattle.xp_values.specs.declared.values.Value.{Value}
use Rattle.xp_values.specs.declared.values.Value.TheVariants.{NodeSet, Truth, Number, Chars}
use Rattle.xp_values.specs.declared.values.EvalFault.{EvalFault}
use Rattle.xp_values.specs.declared.numbers.Num.TheVariants.{Whole}
use Rattle.xp_values.specs.Numbers.{InRange}
use Rattle.xp_values.specs.Texts.{limited, substring, substring_before, substring_after, string_length, normalize_space, translate}
use Rattle.xp_meaning.specs.declared.want.Want.TheVariants.{AsItIs}
use Rattle.xp_meaning.specs.declared.context.Context.{Context}
use Rattle.xp_meaning.specs.Conversions.{nodes_of, number_in, sum_in}
use Rattle.xp_meaning.specs.Operators.{negated}
use Rattle.xp_meaning.specs.Names.{name_at, local_in, of_name, uri_in}
use Rattle.xp_meaning.specs.Reads.{name_read}
use Rattle.xp_meaning.specs.Paths.{filtered, path}
use Rattle.xp_meaning.specs.Functions.{applied, as_chars, in_place, argument, nodes_at, text_at, text_of, number_at, number_of, length_in, named_node, text_or_own, number_or_own, wanted}
use Rattle.xp_meaning.specs.Language.{in_language}
use Rattle.xp_meaning.specs.Evaluation.{Lets, meaning, meanings, some_true, all_true, compared, combined, values, slot_value, start_nodes, steps_meant, comparands_meant, combinands_meant}
use Rattle.xp_meaning.specs.Laws.{IsProper}
use Rattle.xp_meaning_laws.specs.Bounds.{IsText, literals_in, literals_in_all, literals_in_place, literals_in_steps, literals_in_comparands, literals_in_combinands, NamesFit, IsPlacedInRange, ValuesAreBounded}
use Rattle.xp_meaning_laws.proofs.EachLemmas.{each-all, each-back, each-front}
use Rattle.xp_meaning_laws.proofs.Parts.{Any}
use Rattle.xp_meaning_laws.proofs.Sound.{Sound, sound_done, sound_given, sound_behind, sound_visit, sound_reading, sound_bind}
use Rattle.xp_meaning_laws.proofs.StringLengths.{string-le}
use Rattle.xp_meaning_laws.proofs.TextBounds.{no_text, few_chars, substring_text, normalized_text, before_text, after_text, limited_text, translated_text}
use Rattle.xp_meaning_laws.proofs.Bounding.{StringsFit, AnyRead, by_answer, Few, Small, bounded, small, few_nodes, filter-shorter, negated-ranged, text_fits, number_fits, sum_fits, filtered_few, path_few, Fit, compared_fits, combined_fits, values_fit}

number_written : (z : ℤ) → pos 0 ≤ℤ z → z ≤ℤ pos MAX_WHOLE → InRange (Whole z)
number_written (pos n) h k = leb→le n MAX_WHOLE k.le
number_written (negsuc n) h k = absurd h.le

module _ (T : Table) (strings : StringsFit T) (names : NamesFit T) (some : 1 ≤ length (order T)) (few : length (order T) ≤ MAX_WHOLE) where
  abbrev Held : Value → Type 0
  Held v = Small T strings some v

  -- arguments by their places
  place_small : (o : Option Value) → ((v : Value) → o ≡ Some v → Held v) → Held (in_place o)
  place_small None h = tt
  place_small (Some v) h = h v refl

  got_small : (vs : List Value) (i : ℕ) (v : Value) → Each Held vs → slice_get vs i ≡ Some v → Held v
  got_small [] i v h e = cc
  got_small (w ∷ vs) zero v h e = let same : w ≡ v = (cc) in subst Held same h.0
  got_small (w ∷ vs) (suc i) v h e = got_small vs i v h.1 e

  argument_small : (vs : List Value) (i : ℕ) → Each Held vs → Held (argument vs i)
  argument_small vs i h = place_small (slice_get vs i) (λ v e. got_small vs i v h e)

  text_small : (v : Value) → Held v → IsText (text_of v)
  text_small (NodeSet ns) h = no_text
  text_small (Truth b) h = no_text
  text_small (Number n) h = no_text
  text_small (Chars s) h = h

  number_small : (v : Value) → Held v → InRange (number_of v)
  number_small (NodeSet ns) h = tt
  number_small (Truth b) h = tt
  number_small (Number n) h = h
  number_small (Chars s) h = tt

  text_at-fits : (vs : List Value) (i : ℕ) → Each Held vs → IsText (text_at vs i)
  text_at-fits vs i h = text_small (argument vs i) (argument_small vs i h)

  number_at-fits : (vs : List Value) (i : ℕ) → Each Held vs → InRange (number_at vs i)
  number_at-fits vs i h = number_small (argument vs i) (argument_small vs i h)

  count_fits : (vs : List Value) → Each Held vs → length (nodes_at vs 0) ≤ MAX_WHOLE
  count_fits vs h = omega (arith, few_nodes T strings some (argument vs 0) (argument_small vs 0 h), few)

  -- names
  local_fits : (o : Option Name) → ((name : Name) → o ≡ Some name → IsText name.local) → IsText (local_in o)
  local_fits None h = no_text
  local_fits (Some name) h = h name refl

  uri_fits : (o : Option Name) → ((name : Name) → o ≡ Some name → IsText name.uri) → IsText (uri_in o)
  uri_fits None h = no_text
  uri_fits (Some name) h = h name refl

  written_fits : (o : Option ℕ) → IsText (written_in (name_at T o))
  written_fits None = no_text
  written_fits (Some n) = by (name_of T n) (λ name e. (names n name e).2)
    where
      by : (o : Option Name) → ((name : Name) → o ≡ Some name → IsText (written_in (Some name))) → IsText (written_in o)
      by None h = no_text
      by (Some name) h = h name refl

  local_at-fits : (o : Option ℕ) → IsText (local_in (name_at T o))
  local_at-fits None = no_text
  local_at-fits (Some n) = local_fits (name_of T n) (λ name e. (names n name e).0)

  uri_at-fits : (o : Option ℕ) → IsText (uri_in (name_at T o))
  uri_at-fits None = no_text
  uri_at-fits (Some n) = uri_fits (name_of T n) (λ name e. (names n name e).1)

  name_fits : (n : Option ℕ) (part : Option Name → List ℕ) → IsText (part (name_at T n)) → Sound AnyRead Held (of_name T n (λ name. Chars (part name)))
  unfolding all_reading
  name_fits n part h =
      sound_behind AnyRead Held (name_read T n) 0 (done (Chars (part (name_at T n)))) (each-all AnyRead (λ r. tt) (name_read T n))
      (sound_done AnyRead Held (Chars (part (name_at T n))) h)

  -- the functions
  own_text_fits : (c : Context) (vs : List Value) → Each Held vs → Sound AnyRead IsText (text_or_own T c vs)
  own_text_fits c [] h = text_fits T strings some (NodeSet (c.node ∷ [])) some
  own_text_fits c (v ∷ vs) h = sound_done AnyRead IsText (text_of v) (text_small v h.0)

  own_number_fits : (c : Context) (vs : List Value) → Each Held vs → Sound AnyRead InRange (number_or_own T c vs)
  own_number_fits c [] h = number_fits T strings some (NodeSet (c.node ∷ [])) some
  own_number_fits c (v ∷ vs) h = sound_done AnyRead InRange (number_of v) (number_small v h.0)

  made_fits : {A : Type 0} (P : A → Type 0) (m : Evaluation EvalFault A) (f : A → Value) → Sound AnyRead P m → ((x : A) → P x → Held (f x)) → Sound AnyRead Held (bind m (λ x. done (f x)))
  made_fits P m f h all = sound_bind AnyRead P Held m (λ x. done (f x)) h (λ x k. sound_done AnyRead Held (f x) (all x k))

  chars_fits : (r : Result (List ℕ) EvalFault) → ((s : List ℕ) → r ≡ Ok s → IsText s) → Sound AnyRead Held (given (as_chars r))
  chars_fits (Ok s) h = sound_done AnyRead Held (Chars s) (h s refl)
  chars_fits (Err f) h = sound_given AnyRead Held (Err f) (λ v e. cc)

  joined_utf8 : (vs : List Value) → Each Held vs → IsUtf8 (flat_map text_of vs)
  joined_utf8 [] h = IsUtf8-nil
  joined_utf8 (v ∷ vs) h = IsUtf8-append (text_of v) (flat_map text_of vs) (text_small v h.0).0 (joined_utf8 vs h.1)

  counted_chars : (s : List ℕ) → IsText s → InRange (string_length s)
  counted_chars s h = omega (arith, few_chars s h)

  function_fits : (f : Function) (c : Context) (vs : List Value) → IsPlacedInRange c → Each Held vs → Sound AnyRead Held (applied T f c vs)
  function_fits functions.Last c vs at e = sound_done AnyRead Held _ at.1
  function_fits functions.Position c vs at e = sound_done AnyRead Held _ at.0
  function_fits functions.Current c vs at e = sound_done AnyRead Held _ some
  function_fits functions.Count c vs at e = sound_done AnyRead Held _ (count_fits vs e)
  function_fits functions.Sum c vs at e = made_fits InRange (sum_in T (nodes_at vs 0)) (λ n. Number n) (sum_fits T strings some (nodes_at vs 0)) (λ n h. h)
  function_fits functions.LocalName c vs at e = name_fits (named_node c vs) (λ name. local_in name) (local_at-fits (named_node c vs))
  function_fits functions.NamespaceUri c vs at e = name_fits (named_node c vs) (λ name. uri_in name) (uri_at-fits (named_node c vs))
  function_fits functions.Name c vs at e = name_fits (named_node c vs) (λ name. written_in name) (written_fits (named_node c vs))
  function_fits functions.String c vs at e = made_fits IsText (text_or_own T c vs) (λ s. Chars s) (own_text_fits c vs e) (λ s h. h)
  function_fits functions.Number c vs at e = made_fits InRange (number_or_own T c vs) (λ n. Number n) (own_number_fits c vs e) (λ n h. h)
  function_fits functions.Boolean c vs at e = sound_done AnyRead Held _ tt
  function_fits functions.Not c vs at e = sound_done AnyRead Held _ tt
  function_fits functions.True c vs at e = sound_done AnyRead Held _ tt
  function_fits functions.False c vs at e = sound_done AnyRead Held _ tt
  function_fits functions.Concat c vs at e = chars_fits (limited (flat_map text_of vs)) (λ s k. limited_text (flat_map text_of vs) s (joined_utf8 vs e) k)
  function_fits functions.StartsWith c vs at e = sound_done AnyRead Held _ tt
  function_fits functions.Contains c vs at e = sound_done AnyRead Held _ tt
  function_fits functions.SubstringBefore c vs at e =
      sound_done AnyRead Held (Chars (substring_before (text_at vs 0) (text_at vs 1))) (before_text (text_at vs 0) (text_at vs 1) (text_at-fits vs 0 e) (text_at-fits vs 1 e))
  function_fits functions.SubstringAfter c vs at e =
      sound_done AnyRead Held (Chars (substring_after (text_at vs 0) (text_at vs 1))) (after_text (text_at vs 0) (text_at vs 1) (text_at-fits vs 0 e) (text_at-fits vs 1 e))
  function_fits functions.Substring c vs at e =
      sound_done AnyRead Held (Chars (substring (text_at vs 0) (number_at vs 1) (length_in vs))) (substring_text (text_at vs 0) (number_at vs 1) (length_in vs) (text_at-fits vs 0 e))
  function_fits functions.StringLength c vs at e = made_fits IsText (text_or_own T c vs) (λ s. Number (string_length s)) (own_text_fits c vs e) (λ s h. counted_chars s h)
  function_fits functions.NormalizeSpace c vs at e = made_fits IsText (text_or_own T c vs) (λ s. Chars (normalize_space s)) (own_text_fits c vs e) (λ s h. normalized_text s h)
  function_fits functions.Translate c vs at e =
      chars_fits (translate (text_at vs 0) (text_at vs 1) (text_at vs 2))
      (λ s k. translated_text (text_at vs 0) (text_at vs 1) (text_at vs 2) s (text_at-fits vs 0 e) (text_at-fits vs 2 e) k)
  function_fits functions.Lang c vs at e = made_fits Any (in_language T c.node (text_at vs 0)) (λ b. Truth b) (by_answer Any (in_language T c.node (text_at vs 0)) (λ b k. tt)) (λ b h. tt)
  function_fits functions.Floor c vs at e = sound_done AnyRead Held _ (number_at-fits vs 0 e)
  function_fits functions.Ceiling c vs at e = sound_done AnyRead Held _ (number_at-fits vs 0 e)
  function_fits functions.Round c vs at e = sound_done AnyRead Held _ (number_at-fits vs 0 e)

  module _ (p : Bool) (L : Lets) (lets : (place : ℕ) (v : Value) → in_slot L place ≡ Some (Ok v) → Held v) where
    slot_fits : (o : Option (Result Value EvalFault)) → ((v : Value) → o ≡ Some (Ok v) → Held v) → Sound AnyRead Held (slot_value o)
    slot_fits None h = sound_done AnyRead Held (NodeSet []) (omega arith)
    slot_fits (Some (Ok v)) h = sound_done AnyRead Held v (h v refl)
    slot_fits (Some (Err f)) h = sound_given AnyRead Held (Err f) (λ v e. cc)

    mutual
      fit : (t : TypedTree) → WellTyped p t → Each IsText (literals_in t) → Fit T strings some (meaning T L t)
      fit (disjunction ts) s h c at =
          sound_visit AnyRead Held _ (made_fits Any (some_true (meanings T L ts) c) (λ b. Truth b) (by_answer Any (some_true (meanings T L ts) c) (λ b k. tt)) (λ b k. tt))
      fit (conjunction ts) s h c at =
          sound_visit AnyRead Held _ (made_fits Any (all_true (meanings T L ts) c) (λ b. Truth b) (by_answer Any (all_true (meanings T L ts) c) (λ b k. tt)) (λ b k. tt))
      fit (comparison first rest) s h c at =
          sound_visit AnyRead Held _ (sound_bind AnyRead Held Held (meaning T L first c) (λ v. compared T (comparands_meant T L rest) v c)
          (fit first s.1 (each-front IsText (literals_in first) (literals_in_comparands rest) h) c at)
          (λ v k. compared_fits T strings some (comparands_meant T L rest) v c k))
      fit (arithmetic first rest) s h c at =
          sound_visit AnyRead Held _ (sound_bind AnyRead Held Held (meaning T L first c)
          (λ v. bind (number_in T v) (λ x. bind (combined T (combinands_meant T L rest) x c) (λ y. done (Number y))))
          (fit first s.0 (each-front IsText (literals_in first) (literals_in_combinands rest) h) c at)
          (λ v k. sound_bind AnyRead InRange Held (number_in T v) (λ x. bind (combined T (combinands_meant T L rest) x c) (λ y. done (Number y))) (number_fits T strings some v k)
          (λ x e. made_fits InRange (combined T (combinands_meant T L rest) x c) (λ y. Number y) (combined_fits T strings some (combinands_meant T L rest) x c e) (λ y q. q))))
      fit (negation signs operand) s h c at =
          sound_visit AnyRead Held _ (sound_bind AnyRead Held Held (meaning T L operand c) (λ v. bind (number_in T v) (λ x. bind (given (negated signs x)) (λ y. done (Number y))))
          (fit operand s h c at)
          (λ v k. sound_bind AnyRead InRange Held (number_in T v) (λ x. bind (given (negated signs x)) (λ y. done (Number y))) (number_fits T strings some v k)
          (λ x e. made_fits InRange (given (negated signs x)) (λ y. Number y) (sound_given AnyRead InRange (negated signs x) (λ y q. negated-ranged signs x e y q)) (λ y q. q))))
      fit (union ts) s h c at =
          sound_visit AnyRead Held _ (made_fits Any (values T (λ _. AsItIs) (meanings T L ts) c) (λ vs. NodeSet (in_order T (flat_map nodes_of vs)))
          (by_answer Any (values T (λ _. AsItIs) (meanings T L ts) c) (λ vs k. tt)) (λ vs k. filter-shorter (λ m. mem m (flat_map nodes_of vs)) (order T)))
      fit (location place steps) s h c at =
          sound_visit AnyRead Held _ (sound_bind AnyRead (Few T strings some) Held (start_nodes T L place c) (λ ns. bind (path T (steps_meant T L steps) c.current ns) (λ ms. done (NodeSet ms)))
          (fit_start place s.0 (each-front IsText (literals_in_place place) (literals_in_steps steps) h) c at)
          (λ ns k. made_fits (Few T strings some) (path T (steps_meant T L steps) c.current ns) (λ ms. NodeSet ms) (path_few T strings some (steps_meant T L steps) c.current ns k) (λ ms q. q)))
      fit (selection base predicates) s h c at =
          sound_visit AnyRead Held _ (sound_bind AnyRead Held Held (meaning T L base c) (λ v. bind (filtered (meanings T L predicates) c.current (nodes_of v)) (λ ms. done (NodeSet ms)))
          (fit base s.0 (each-front IsText (literals_in base) (literals_in_all predicates) h) c at)
          (λ v k. made_fits (Few T strings some) (filtered (meanings T L predicates) c.current (nodes_of v)) (λ ms. NodeSet ms)
          (filtered_few T strings some (meanings T L predicates) c.current (nodes_of v) (few_nodes T strings some v k)) (λ ms q. q)))
      fit (slot place type) s h c at =
          sound_visit AnyRead Held _ (sound_reading AnyRead Held (variable place) (slot_value (in_slot L place)) tt (slot_fits (in_slot L place) (λ v e. lets place v e)))
      fit (text characters) s h c at = sound_visit AnyRead Held _ (sound_done AnyRead Held (Chars characters) h.0)
      fit (whole number) s h c at = sound_visit AnyRead Held _ (sound_done AnyRead Held (Number (Whole number)) (number_written number s.0 s.1))
      fit (application f ts) s h c at =
          sound_visit AnyRead Held _ (sound_bind AnyRead (Each Held) Held (values T (wanted f) (meanings T L ts) c) (λ vs. applied T f c vs)
          (values_fit T strings some (wanted f) (meanings T L ts) c at (fits (wants_nodes f) ts s.2 h)) (λ vs k. function_fits f c vs at k))

      fit_start : (place : TypedPlace) → PlaceTyped p place → Each IsText (literals_in_place place) → (c : Context) → IsPlacedInRange c → Sound AnyRead (Few T strings some) (start_nodes T L place c)
      fit_start at_root s h c at = sound_done AnyRead (Few T strings some) (0 ∷ []) some
      fit_start at_context s h c at = sound_done AnyRead (Few T strings some) (c.node ∷ []) some
      fit_start (at_nodes base) s h c at =
          sound_bind AnyRead Held (Few T strings some) (meaning T L base c) (λ v. done (nodes_of v)) (fit base s.0 h c at)
          (λ v k. sound_done AnyRead (Few T strings some) (nodes_of v) (few_nodes T strings some v k))

      fits : (w : Bool) (ts : TypedTrees) → AllTyped p w ts → Each IsText (literals_in_all ts) → Each (Fit T strings some) (meanings T L ts)
      fits w no_typed s h = tt
      fits w (typed t ts) s h =
          (fit t s.0 (each-front IsText (literals_in t) (literals_in_all ts) h), fits w ts s.2 (each-back IsText (literals_in t) (literals_in_all ts) h))

pub values_are_bounded : (T : Table) → WellFormed T → Ordered T → ValuesAreBounded T
values_are_bounded T form ord p L t c v sound literals utf8 names proper lets at is =
    let strings : StringsFit T = λ n. (utf8 n, omega (arith, string-le T ord n, form.little_text)) in
    let some : 1 ≤ length (order T) = subst (λ ns. 1 ≤ length ns) (sym ord.root_first.1) (omega arith) in
    let few : length (order T) ≤ MAX_WHOLE = omega (arith, form.few_nodes) in
    let held : (place : ℕ) (w : Value) → in_slot L place ≡ Some (Ok w) → Small T strings some w =
    λ place w e. small T strings some w (lets place w e) (λ ns q. subst (IsProper T) q (proper place w e)) in
    bounded T strings some v ((fit T strings names some few p L held t sound literals c at).answer v is)
