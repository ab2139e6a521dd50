-- What meanings read: the lets in the slots that they name, and cells of nodes of a closed set.
use Rattle.std.proofs.Common.{◌≡◌, ℕ, Bool, true, false, ◌||◌, List, [], ◌∷◌, ◌++◌, Option, None, Some, Result, Ok, Err, eqb, eq-eqb, refl, ◌∙◌, ap}
use Rattle.std.specs.Prelude.{flat_map}
use Rattle.std.specs.List.{AllByRecursion as Each}
use Rattle.doc_tree.specs.Laws.{Ordered, HasWaysUp}
use Rattle.doc_tree.specs.Lists.{mem}
use Rattle.doc_tree.specs.Table.{Table, attrs_of, is_live}
use Rattle.doc_tree.specs.Walks.{order}
use Rattle.doc_tree.proofs.ListLemmas.{mem-head}
use Rattle.doc_axes.specs.Sets.{in_order}
use Rattle.xp_typed_tree.specs.declared.value_type.ValueType.{ValueType}
use Rattle.xp_typed_tree.specs.TypedTree.{TypedTree, TypedPlace, TypedSteps, Comparands, Combinands, TypedTrees, disjunction, conjunction, comparison, arithmetic, negation, union, location, selection, slot, text, whole, application, at_root, at_context, at_nodes, no_more_steps, typed_step, no_comparands, comparand, no_combinands, combinand, no_typed, typed}
use Rattle.xp_typed_tree.specs.Slots.{slots_in, slots_in_all, slots_in_place, slots_in_steps, slots_in_comparands, slots_in_combinands}
use Rattle.xp_outcome.specs.Evaluation.{Read, variable, done, given, bind}
use Rattle.xp_outcome.specs.Slots.{in_slot}
use Rattle.xp_values.specs.declared.values.Value.{Value}
use Rattle.xp_values.specs.declared.values.Value.TheVariants.{NodeSet, Truth, Number, Chars}
use Rattle.xp_values.specs.declared.values.EvalFault.{EvalFault}
use Rattle.xp_values.specs.declared.numbers.Num.TheVariants.{Whole}
use Rattle.xp_meaning.specs.declared.want.Want.TheVariants.{AsItIs}
use Rattle.xp_meaning.specs.Conversions.{nodes_of, number_in}
use Rattle.xp_meaning.specs.declared.context.Context.{Context}
use Rattle.xp_meaning.specs.Operators.{negated}
use Rattle.xp_meaning.specs.Paths.{filtered, path}
use Rattle.xp_meaning.specs.Functions.{applied, wanted}
use Rattle.xp_meaning.specs.Evaluation.{Lets, meaning, meanings, some_true, all_true, compared, combined, values, slot_value, start_nodes, steps_meant, comparands_meant, combinands_meant}
use Rattle.xp_meaning_laws.specs.KnownReads.{is_named, IsNamedRead, IsLiveRead, LetsReadAreNamed, CellsReadAreLive}
use Rattle.xp_meaning_laws.proofs.EachLemmas.{each-front, each-back, each-all, each-filter, each-listed}
use Rattle.xp_meaning_laws.proofs.Sound.{Sound, sound_done, sound_given, sound_visit, sound_reading, sound_bind}
use Rattle.xp_meaning_laws.proofs.Parts.{Closed, Any, Nodes, Good, GoodOperand, GoodStep, number_sound, filtered_sound, path_sound, some_sound, all_sound, compared_sound, combined_sound, values_sound, function_sound}

module _ (T : Table) (G : ℕ → Type 0) (may : Read → Type 0) (closed : Closed T G may) (L : Lets)
    (lets : (place : ℕ) (v : Value) → in_slot L place ≡ Some (Ok v) → Each G (nodes_of v)) where
  -- the lets in some slots may be read
  abbrev pub MayRead : List (ℕ × ValueType) → Type 0
  MayRead slots = Each (λ s. may (variable s.0)) slots

  front : (xs ys : List (ℕ × ValueType)) → MayRead (xs ++ ys) → MayRead xs
  front xs ys h = each-front (λ s. may (variable s.0)) xs ys h

  back : (xs ys : List (ℕ × ValueType)) → MayRead (xs ++ ys) → MayRead ys
  back xs ys h = each-back (λ s. may (variable s.0)) xs ys h

  abbrev Held : Value → Type 0
  Held v = Nodes T G may closed v

  slot_sound : (o : Option (Result Value EvalFault)) → ((v : Value) → o ≡ Some (Ok v) → Held v) → Sound may Held (slot_value o)
  slot_sound None h = sound_done may Held (NodeSet []) tt
  slot_sound (Some (Ok v)) h = sound_done may Held v (h v refl)
  slot_sound (Some (Err f)) h = sound_given may Held (Err f) (λ v e. cc)

  mutual
    pub good : (t : TypedTree) → MayRead (slots_in t) → Good T G may closed (meaning T L t)
    good (disjunction ts) h c a b =
        sound_visit may Held _ (sound_bind may Any Held (some_true (meanings T L ts) c) (λ truth. done (Truth truth))
        (some_sound T G may closed c a b (meanings T L ts) (goods ts h)) (λ x k. sound_done may Held (Truth x) tt))
    good (conjunction ts) h c a b =
        sound_visit may Held _ (sound_bind may Any Held (all_true (meanings T L ts) c) (λ truth. done (Truth truth))
        (all_sound T G may closed c a b (meanings T L ts) (goods ts h)) (λ x k. sound_done may Held (Truth x) tt))
    good (comparison first rest) h c a b =
        let gs = good_comparands rest (back (slots_in first) (slots_in_comparands rest) h) in
        sound_visit may Held _ (sound_bind may Held Held (meaning T L first c) (λ v. compared T (comparands_meant T L rest) v c)
        (good first (front (slots_in first) (slots_in_comparands rest) h) c a b)
        (λ v k. compared_sound T G may closed c a b (comparands_meant T L rest) v gs k))
    good (arithmetic first rest) h c a b =
        let gs = good_combinands rest (back (slots_in first) (slots_in_combinands rest) h) in
        sound_visit may Held _ (sound_bind may Held Held (meaning T L first c)
        (λ v. bind (number_in T v) (λ x. bind (combined T (combinands_meant T L rest) x c) (λ y. done (Number y))))
        (good first (front (slots_in first) (slots_in_combinands rest) h) c a b)
        (λ v k. sound_bind may Any Held (number_in T v) (λ x. bind (combined T (combinands_meant T L rest) x c) (λ y. done (Number y))) (number_sound T G may closed v k)
        (λ x e. sound_bind may Any Held (combined T (combinands_meant T L rest) x c) (λ y. done (Number y))
        (combined_sound T G may closed c a b (combinands_meant T L rest) x gs) (λ y e. sound_done may Held (Number y) tt))))
    good (negation signs operand) h c a b =
        sound_visit may Held _ (sound_bind may Held Held (meaning T L operand c) (λ v. bind (number_in T v) (λ x. bind (given (negated signs x)) (λ y. done (Number y))))
        (good operand h c a b)
        (λ v k. sound_bind may Any Held (number_in T v) (λ x. bind (given (negated signs x)) (λ y. done (Number y))) (number_sound T G may closed v k)
        (λ x e. sound_bind may Any Held (given (negated signs x)) (λ y. done (Number y)) (sound_given may Any (negated signs x) (λ y e. tt))
        (λ y e. sound_done may Held (Number y) tt))))
    good (union ts) h c a b =
        sound_visit may Held _ (sound_bind may (Each Held) Held (values T (λ _. AsItIs) (meanings T L ts) c) (λ vs. done (NodeSet (in_order T (flat_map nodes_of vs))))
        (values_sound T G may closed c a b (λ _. AsItIs) (meanings T L ts) (goods ts h))
        (λ vs k. sound_done may Held (NodeSet (in_order T (flat_map nodes_of vs))) (each-filter G (λ m. mem m (flat_map nodes_of vs)) (order T) closed.whole)))
    good (location place steps) h c a b =
        let gs = good_steps steps (back (slots_in_place place) (slots_in_steps steps) h) in
        sound_visit may Held _ (sound_bind may (Each G) Held (start_nodes T L place c) (λ ns. bind (path T (steps_meant T L steps) c.current ns) (λ ms. done (NodeSet ms)))
        (good_start place (front (slots_in_place place) (slots_in_steps steps) h) c a b)
        (λ ns k. sound_bind may (Each G) Held (path T (steps_meant T L steps) c.current ns) (λ ms. done (NodeSet ms))
        (path_sound T G may closed (steps_meant T L steps) c.current ns gs b k) (λ ms e. sound_done may Held (NodeSet ms) e)))
    good (selection base predicates) h c a b =
        let gs = goods predicates (back (slots_in base) (slots_in_all predicates) h) in
        sound_visit may Held _ (sound_bind may Held Held (meaning T L base c) (λ v. bind (filtered (meanings T L predicates) c.current (nodes_of v)) (λ ms. done (NodeSet ms)))
        (good base (front (slots_in base) (slots_in_all predicates) h) c a b)
        (λ v k. sound_bind may (Each G) Held (filtered (meanings T L predicates) c.current (nodes_of v)) (λ ms. done (NodeSet ms))
        (filtered_sound T G may closed (meanings T L predicates) c.current (nodes_of v) gs b k) (λ ms e. sound_done may Held (NodeSet ms) e)))
    good (slot place type) h c a b =
        sound_visit may Held _ (sound_reading may Held (variable place) (slot_value (in_slot L place)) h.0 (slot_sound (in_slot L place) (λ v e. lets place v e)))
    good (text characters) h c a b = sound_visit may Held _ (sound_done may Held (Chars characters) tt)
    good (whole number) h c a b = sound_visit may Held _ (sound_done may Held (Number (Whole number)) tt)
    good (application f ts) h c a b =
        sound_visit may Held _ (sound_bind may (Each Held) Held (values T (wanted f) (meanings T L ts) c) (λ vs. applied T f c vs)
        (values_sound T G may closed c a b (wanted f) (meanings T L ts) (goods ts h)) (λ vs k. function_sound T G may closed f c vs a b k))

    good_start : (place : TypedPlace) → MayRead (slots_in_place place) → (c : Context) → G c.node → G c.current → Sound may (Each G) (start_nodes T L place c)
    good_start at_root h c a b = sound_done may (Each G) (0 ∷ []) (closed.root, tt)
    good_start at_context h c a b = sound_done may (Each G) (c.node ∷ []) (a, tt)
    good_start (at_nodes base) h c a b =
        sound_bind may Held (Each G) (meaning T L base c) (λ v. done (nodes_of v)) (good base h c a b) (λ v k. sound_done may (Each G) (nodes_of v) k)

    good_steps : (steps : TypedSteps) → MayRead (slots_in_steps steps) → Each (GoodStep T G may closed) (steps_meant T L steps)
    good_steps no_more_steps h = tt
    good_steps (typed_step axis node_test predicates steps) h =
        (goods predicates (front (slots_in_all predicates) (slots_in_steps steps) h), good_steps steps (back (slots_in_all predicates) (slots_in_steps steps) h))

    good_comparands : (rest : Comparands) → MayRead (slots_in_comparands rest) → Each (GoodOperand T G may closed) (comparands_meant T L rest)
    good_comparands no_comparands h = tt
    good_comparands (comparand operator operand rest) h =
        (good operand (front (slots_in operand) (slots_in_comparands rest) h), good_comparands rest (back (slots_in operand) (slots_in_comparands rest) h))

    good_combinands : (rest : Combinands) → MayRead (slots_in_combinands rest) → Each (GoodOperand T G may closed) (combinands_meant T L rest)
    good_combinands no_combinands h = tt
    good_combinands (combinand operator operand rest) h =
        (good operand (front (slots_in operand) (slots_in_combinands rest) h), good_combinands rest (back (slots_in operand) (slots_in_combinands rest) h))

    pub goods : (ts : TypedTrees) → MayRead (slots_in_all ts) → Each (Good T G may closed) (meanings T L ts)
    goods no_typed h = tt
    goods (typed t ts) h = (good t (front (slots_in t) (slots_in_all ts) h), goods ts (back (slots_in t) (slots_in_all ts) h))

-- all nodes, of which any cell may be read
abbrev pub AnyNode : ℕ → Type 0
AnyNode n = Unit {0}

pub all_closed : (T : Table) (slots : List (ℕ × ValueType)) → Closed T AnyNode (IsNamedRead slots)
all_closed T slots =
    record {
      root = tt;
      whole = each-all AnyNode (λ n. tt) (order T);
      parent = λ n p e. tt;
      attributes = λ n. each-all AnyNode (λ a. tt) (attrs_of T n);
      may_read = λ c h. tt;
      may_name = λ axis n h. tt;
    }

later-named : (place : ℕ) (b : Bool) (more : Bool) → more ≡ true → (b || more) ≡ true
later-named place true more h = refl
later-named place false more h = h

-- each of some slots is among them
named-among : (slots xs : List (ℕ × ValueType)) → ((place : ℕ) → is_named xs place ≡ true → is_named slots place ≡ true) → Each (λ s. IsNamedRead slots (variable s.0)) xs
named-among slots [] among = tt
named-among slots (x ∷ xs) among = (
  among x.0 (ap (λ b. b || is_named xs x.0) (eq-eqb x.0 x.0 refl)),
  named-among slots xs (λ place h. among place (later-named place (eqb place x.0) (is_named xs place) h)),
)

pub all_named : (slots : List (ℕ × ValueType)) → Each (λ s. IsNamedRead slots (variable s.0)) slots
all_named slots = named-among slots slots (λ place h. h)

pub lets_read_are_named : LetsReadAreNamed
lets_read_are_named T L t c =
    (good T AnyNode (IsNamedRead (slots_in t)) (all_closed T (slots_in t)) L (λ place v e. each-all AnyNode (λ n. tt) (nodes_of v)) t (all_named (slots_in t)) c tt tt).reads

-- live nodes
pub live_closed : (T : Table) → Ordered T → HasWaysUp T → Closed T (λ n. is_live T n ≡ true) (IsLiveRead T)
live_closed T ord up =
    record {
      root = ord.live_in_order 0 ∙ ap (mem 0) ord.root_first.1 ∙ mem-head 0 ord.root_first.0;
      whole = each-listed (λ n. is_live T n ≡ true) (order T) (λ n h. ord.live_in_order n ∙ h);
      parent = λ n p e. up.parent_live n p e;
      attributes = λ n. each-listed (λ a. is_live T a ≡ true) (attrs_of T n) (λ a h. up.attribute_live n a h);
      may_read = λ c h. h;
      may_name = λ axis n h. h;
    }

pub cells_read_are_live : (T : Table) → Ordered T → HasWaysUp T → CellsReadAreLive T
cells_read_are_live T ord up L t c lets node current =
    (good T (λ n. is_live T n ≡ true) (IsLiveRead T) (live_closed T ord up) L lets t (each-all (λ s. IsLiveRead T (variable s.0)) (λ s. tt) (slots_in t)) c node current).reads
