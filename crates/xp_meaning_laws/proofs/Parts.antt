-- The parts of meanings read only what may be read: steps, predicates, conversions and functions, where the nodes that
-- they begin with belong to a set of nodes that is closed.
use Rattle.std.proofs.Common.{◌≡◌, ℕ, zero, suc, ◌+◌, Bool, true, false, cond, List, [], ◌∷◌, ◌++◌, length, Option, None, Some, Result, Ok, Err, refl}
use Rattle.std.specs.Prelude.{filter, find, map, flat_map, pos, slice_get, if◌then◌else◌}
use Rattle.std.specs.List.{AllByRecursion as Each}
use Rattle.doc_tree.specs.cell.Cell.{Cell}
use Rattle.doc_tree.specs.cell.Cell.TheVariants as cells
use Rattle.doc_tree.specs.declared.axes.Axis.{Axis}
use Rattle.doc_tree.specs.declared.axes.Axis.TheVariants as axes
use Rattle.doc_tree.specs.declared.axes.NodeTest.{NodeTest}
use Rattle.doc_tree.specs.Kinds.{has_own_name, holds_kids, is_element}
use Rattle.doc_tree.specs.Lists.{mem}
use Rattle.doc_tree.specs.QNames.{written_in}
use Rattle.doc_tree.specs.Table.{Name, Table, parent_of, attrs_of, kind_of}
use Rattle.doc_tree.specs.Walks.{order, above, climb}
use Rattle.doc_axes.specs.Axes.{on_axis, is_reverse, axis_order, axis_nodes, is_attribute, backwards}
use Rattle.doc_axes.specs.NodeTests.{passes}
use Rattle.doc_axes.specs.Sets.{in_order}
use Rattle.xp_tree.specs.declared.operators.Comparison.{Comparison}
use Rattle.xp_tree.specs.declared.operators.ArithOp.{ArithOp}
use Rattle.xp_typed_tree.specs.declared.function.Function.{Function}
use Rattle.xp_typed_tree.specs.declared.function.Function.TheVariants as functions
use Rattle.xp_outcome.specs.Evaluation.{Read, cell, names_along, Evaluation, done, given, bind, visits, reading, all_reading, gather}
use Rattle.xp_outcome.specs.Recorded.{node_of}
use Rattle.xp_values.specs.declared.values.Value.{Value}
use Rattle.xp_values.specs.declared.values.Value.TheVariants.{NodeSet, Truth, Number, Chars}
use Rattle.xp_values.specs.declared.values.EvalFault.{EvalFault}
use Rattle.xp_values.specs.declared.numbers.Num.{Num}
use Rattle.xp_values.specs.declared.numbers.Num.TheVariants.{Whole}
use Rattle.xp_values.specs.Numbers.{arith}
use Rattle.xp_values.specs.Conversions.{to_text, to_number, to_truth}
use Rattle.xp_values.specs.Comparisons.{compare, is_truth}
use Rattle.xp_values.specs.Texts.{limited, string_length, normalize_space, translate}
use Rattle.xp_meaning.specs.declared.want.Want.{Want}
use Rattle.xp_meaning.specs.declared.want.Want.TheVariants.{AsItIs, AsText, AsNumber}
use Rattle.xp_meaning.specs.declared.context.Context.{Context}
use Rattle.xp_meaning.specs.Reads.{read_if, kids_of_parent, sibling_reads, axis_reads, is_by_name, names_tested, name_read, text_read, taking}
use Rattle.xp_meaning.specs.Conversions.{nodes_of, first_of, text_in, number_in, compared_nodes, compare_in, sum_from, sum_in, as_wanted}
use Rattle.xp_meaning.specs.Paths.{Meaning, Step, holds_at, chosen, placed, kept, filtered, candidates, step_at, step_from, path}
use Rattle.xp_meaning.specs.Functions.{applied, as_chars, named_node, nodes_at, text_at, text_of, text_or_own, number_or_own}
use Rattle.xp_meaning.specs.Names.{local_in, name_at, of_name, uri_in}
use Rattle.xp_meaning.specs.Language.{is_lang, lang_among, decided_by, own_language, or_else, language_along, in_language}
use Rattle.xp_meaning.specs.Evaluation.{Operand, some_true, all_true, compared, combined, values}
use Rattle.xp_meaning_laws.proofs.EachLemmas.{each-append, each-cond, each-filter, each-backwards}
use Rattle.xp_meaning_laws.proofs.Sound.{Sound, sound_done, sound_given, sound_behind, sound_reading, sound_bind, sound_cond, sound_gather}

-- nodes from which no axis leads away, and from which cells and names may be read
pub record Closed (T : Table) (G : ℕ → Type 0) (may : Read → Type 0) : Type 0 where
  pub root : G 0
  pub whole : Each G (order T)
  pub parent : (n p : ℕ) → parent_of T n ≡ Some p → G p
  pub attributes : (n : ℕ) → Each G (attrs_of T n)
  pub may_read : (c : Cell) → G (node_of c) → may (cell c)
  pub may_name : (axis : Axis) (n : ℕ) → G n → may (names_along axis n)

-- of some answers nothing needs to be known
abbrev pub Any : {A : Type 0} → A → Type 0
Any v = Unit {0}

module _ (T : Table) (G : ℕ → Type 0) (may : Read → Type 0) (closed : Closed T G may) where
  abbrev pub Nodes : Value → Type 0
  Nodes v = Each G (nodes_of v)

  abbrev pub Good : Meaning → Type 0
  Good m = (c : Context) → G c.node → G c.current → Sound may Nodes (m c)

  abbrev pub GoodOperand : {O : Type 0} → Operand O → Type 0
  GoodOperand o = Good o.meaning

  abbrev pub GoodStep : Step → Type 0
  GoodStep s = Each Good s.predicates

  -- what axes read, and where they lead
  read_if_may : (b : Bool) (c : Cell) → may (cell c) → Each may (read_if b c)
  read_if_may true c h = (h, tt)
  read_if_may false c h = tt

  parent_may : (o : Option ℕ) → ((p : ℕ) → o ≡ Some p → G p) → Each may (kids_of_parent o)
  parent_may None h = tt
  parent_may (Some p) h = (closed.may_read (cells.Kids p) (h p refl), tt)

  sibling_may : (n : ℕ) → Each may (sibling_reads T n)
  sibling_may n = each-cond may (is_attribute T n) [] (kids_of_parent (parent_of T n)) tt (parent_may (parent_of T n) (λ p e. closed.parent n p e))

  axis_may : (axis : Axis) (n : ℕ) → G n → Each may (axis_reads T axis n)
  axis_may axes.Ancestor n h = tt
  axis_may axes.AncestorOrSelf n h = tt
  axis_may axes.Attribute n h = read_if_may (is_element (kind_of T n)) (cells.Attrs n) (closed.may_read (cells.Attrs n) h)
  axis_may axes.Child n h = read_if_may (holds_kids (kind_of T n)) (cells.Kids n) (closed.may_read (cells.Kids n) h)
  axis_may axes.Descendant n h = read_if_may (holds_kids (kind_of T n)) (cells.Shape n) (closed.may_read (cells.Shape n) h)
  axis_may axes.DescendantOrSelf n h = read_if_may (holds_kids (kind_of T n)) (cells.Shape n) (closed.may_read (cells.Shape n) h)
  axis_may axes.Following n h = (closed.may_read (cells.Shape 0) closed.root, tt)
  axis_may axes.FollowingSibling n h = sibling_may n
  axis_may axes.Parent n h = tt
  axis_may axes.Preceding n h = (closed.may_read (cells.Shape 0) closed.root, tt)
  axis_may axes.PrecedingSibling n h = sibling_may n
  axis_may axes.SelfNode n h = tt

  names_may : (axis : Axis) (node_test : NodeTest) (n : ℕ) → G n → Each may (names_tested axis node_test n)
  names_may axis node_test n h = each-cond may (is_by_name node_test) (names_along axis n ∷ []) [] (closed.may_name axis n h, tt) tt

  axis_good : (axis : Axis) (n : ℕ) → Each G (axis_nodes T axis n)
  axis_good axis n =
      let all : Each G (axis_order T axis n) = each-filter G (on_axis T axis n) (order T) closed.whole in
      each-cond G (is_reverse axis) (backwards (axis_order T axis n)) (axis_order T axis n) (each-backwards G (axis_order T axis n) all) all

  candidates_sound : (axis : Axis) (node_test : NodeTest) (n : ℕ) → G n → Sound may (Each G) (candidates T axis node_test n)
  unfolding candidates all_reading visits
  candidates_sound axis node_test n h =
      let found : List ℕ = filter (passes T axis node_test) (axis_nodes T axis n) in
      sound_behind may (Each G) (axis_reads T axis n) 0 (all_reading (names_tested axis node_test n) (visits (1 + length (axis_nodes T axis n)) (done found))) (axis_may axis n h)
      (sound_behind may (Each G) (names_tested axis node_test n) 0 (visits (1 + length (axis_nodes T axis n)) (done found)) (names_may axis node_test n h)
      (sound_behind may (Each G) [] (1 + length (axis_nodes T axis n)) (done found) tt
      (sound_done may (Each G) found (each-filter G (passes T axis node_test) (axis_nodes T axis n) (axis_good axis n)))))

  -- string-values that are taken, and conversions
  text_may : (n : ℕ) → G n → may (text_read T n)
  text_may n h = by (holds_kids (kind_of T n))
    where
      by : (b : Bool) → may (cell (cond b (cells.Text n) (cells.Value n)))
      by true = closed.may_read (cells.Text n) h
      by false = closed.may_read (cells.Value n) h

  texts_may : (ns : List ℕ) → Each G ns → Each may (map (text_read T) ns)
  texts_may [] h = tt
  texts_may (n ∷ ns) h = (text_may n h.0, texts_may ns h.1)

  taking_sound : {A : Type 0} (P : A → Type 0) (ns : List ℕ) (m : Evaluation EvalFault A) → Each G ns → Sound may P m → Sound may P (taking T ns m)
  unfolding taking all_reading visits
  taking_sound P ns m h k =
      sound_behind may P (map (text_read T) ns) 0 (visits (length ns) m) (texts_may ns h) (sound_behind may P [] (length ns) m tt k)

  first_good : (ns : List ℕ) → Each G ns → Each G (first_of ns)
  first_good [] h = tt
  first_good (n ∷ ns) h = (h.0, tt)

  text_sound : (v : Value) → Nodes v → Sound may Any (text_in T v)
  unfolding text_in
  text_sound v h = taking_sound Any (first_of (nodes_of v)) (done (to_text T v)) (first_good (nodes_of v) h) (sound_done may Any (to_text T v) tt)

  pub number_sound : (v : Value) → Nodes v → Sound may Any (number_in T v)
  unfolding number_in
  number_sound v h =
      taking_sound Any (first_of (nodes_of v)) (given (to_number T v)) (first_good (nodes_of v) h) (sound_given may Any (to_number T v) (λ x e. tt))

  compare_sound : (op : Comparison) (v w : Value) → Nodes v → Nodes w → Sound may Any (compare_in T op v w)
  unfolding compare_in
  compare_sound op v w h k =
      let both : Each G (nodes_of v ++ nodes_of w) = each-append G (nodes_of v) (nodes_of w) h k in
      taking_sound Any (compared_nodes v w) (given (compare T op v w))
      (each-cond G (is_truth v) [] (if is_truth w then [] else nodes_of v ++ nodes_of w) tt (each-cond G (is_truth w) [] (nodes_of v ++ nodes_of w) tt both))
      (sound_given may Any (compare T op v w) (λ b e. tt))

  sum_sound : (ns : List ℕ) → Each G ns → Sound may Any (sum_in T ns)
  unfolding sum_in
  sum_sound ns h = taking_sound Any ns (given (sum_from T (Whole (pos 0)) ns)) h (sound_given may Any (sum_from T (Whole (pos 0)) ns) (λ x e. tt))

  wanted_sound : (w : Want) (v : Value) → Nodes v → Sound may Nodes (as_wanted T w v)
  wanted_sound AsItIs v h = sound_done may Nodes v h
  wanted_sound AsText v h = sound_bind may Any Nodes (text_in T v) (λ s. done (Chars s)) (text_sound v h) (λ s k. sound_done may Nodes (Chars s) tt)
  wanted_sound AsNumber v h = sound_bind may Any Nodes (number_in T v) (λ n. done (Number n)) (number_sound v h) (λ n k. sound_done may Nodes (Number n) tt)

  -- steps, predicates and paths
  kept_sound : (p : Meaning) (current : ℕ) (ns : List ℕ) → Good p → G current → Each G ns → Sound may (Each G) (kept p current ns)
  kept_sound p current ns g here h =
      sound_gather may G Nodes G (λ position n. p (placed current (length ns) position n)) chosen
      (λ i n k. g (placed current (length ns) i n) k here)
      (λ i n v k e. each-cond G (holds_at i v) (n ∷ []) [] (k, tt) tt) 1 ns h

  pub filtered_sound : (ps : List Meaning) (current : ℕ) (ns : List ℕ) → Each Good ps → G current → Each G ns → Sound may (Each G) (filtered ps current ns)
  filtered_sound [] current ns gs here h = sound_done may (Each G) ns h
  filtered_sound (p ∷ ps) current ns gs here h =
      sound_bind may (Each G) (Each G) (kept p current ns) (λ ms. filtered ps current ms) (kept_sound p current ns gs.0 here h)
      (λ ms k. filtered_sound ps current ms gs.1 here k)

  pub step_sound : (s : Step) (current n : ℕ) → GoodStep s → G current → G n → Sound may (Each G) (step_at T s current n)
  step_sound s current n gs here h =
      sound_bind may (Each G) (Each G) (candidates T s.axis s.test n) (λ ms. filtered s.predicates current ms) (candidates_sound s.axis s.test n h)
      (λ ms k. filtered_sound s.predicates current ms gs here k)

  from_sound : (s : Step) (current : ℕ) (ns : List ℕ) → GoodStep s → G current → Each G ns → Sound may (Each G) (step_from T s current ns)
  from_sound s current ns gs here h =
      sound_bind may (Each G) (Each G) (gather (λ _ n. step_at T s current n) (λ _ _ ms. ms) 1 ns) (λ ms. done (in_order T ms))
      (sound_gather may G (Each G) G (λ _ n. step_at T s current n) (λ _ _ ms. ms) (λ i n k. step_sound s current n gs here k) (λ i n ms k e. e) 1 ns h)
      (λ ms k. sound_done may (Each G) (in_order T ms) (each-filter G (λ m. mem m ms) (order T) closed.whole))

  pub path_sound : (ss : List Step) (current : ℕ) (ns : List ℕ) → Each GoodStep ss → G current → Each G ns → Sound may (Each G) (path T ss current ns)
  path_sound [] current ns gs here h = sound_done may (Each G) ns h
  path_sound (s ∷ ss) current ns gs here h =
      sound_bind may (Each G) (Each G) (step_from T s current ns) (λ ms. path T ss current ms) (from_sound s current ns gs.0 here h)
      (λ ms k. path_sound ss current ms gs.1 here k)

  -- operands
  module _ (c : Context) (node : G c.node) (current : G c.current) where
    pub some_sound : (ms : List Meaning) → Each Good ms → Sound may Any (some_true ms c)
    some_sound [] gs = sound_done may Any false tt
    some_sound (m ∷ ms) gs =
        sound_bind may Nodes Any (m c) (λ v. if to_truth v then done true else some_true ms c) (gs.0 c node current)
        (λ v h. sound_cond may Any (to_truth v) (done true) (some_true ms c) (sound_done may Any true tt) (some_sound ms gs.1))

    pub all_sound : (ms : List Meaning) → Each Good ms → Sound may Any (all_true ms c)
    all_sound [] gs = sound_done may Any true tt
    all_sound (m ∷ ms) gs =
        sound_bind may Nodes Any (m c) (λ v. if to_truth v then all_true ms c else done false) (gs.0 c node current)
        (λ v h. sound_cond may Any (to_truth v) (all_true ms c) (done false) (all_sound ms gs.1) (sound_done may Any false tt))

    pub compared_sound : (ms : List (Operand Comparison)) (v : Value) → Each GoodOperand ms → Nodes v → Sound may Nodes (compared T ms v c)
    compared_sound [] v gs h = sound_done may Nodes v h
    compared_sound (m ∷ ms) v gs h =
        sound_bind may Nodes Nodes (m.meaning c) (λ w. bind (compare_in T m.operator v w) (λ truth. compared T ms (Truth truth) c)) (gs.0 c node current)
        (λ w k. sound_bind may Any Nodes (compare_in T m.operator v w) (λ truth. compared T ms (Truth truth) c) (compare_sound m.operator v w h k)
        (λ b e. compared_sound ms (Truth b) gs.1 tt))

    pub combined_sound : (ms : List (Operand ArithOp)) (x : Num) → Each GoodOperand ms → Sound may Any (combined T ms x c)
    combined_sound [] x gs = sound_done may Any x tt
    combined_sound (m ∷ ms) x gs =
        sound_bind may Nodes Any (m.meaning c) (λ w. bind (number_in T w) (λ y. bind (given (arith m.operator x y)) (λ z. combined T ms z c))) (gs.0 c node current)
        (λ w k. sound_bind may Any Any (number_in T w) (λ y. bind (given (arith m.operator x y)) (λ z. combined T ms z c)) (number_sound w k)
        (λ y e. sound_bind may Any Any (given (arith m.operator x y)) (λ z. combined T ms z c) (sound_given may Any (arith m.operator x y) (λ z e. tt))
        (λ z e. combined_sound ms z gs.1)))

    pub values_sound : (want : ℕ → Want) (ms : List Meaning) → Each Good ms → Sound may (Each Nodes) (values T want ms c)
    values_sound want ms gs =
        sound_gather may Good Nodes Nodes (λ i m. bind (m c) (λ v. as_wanted T (want i) v)) (λ _ _ v. v ∷ [])
        (λ i m g. sound_bind may Nodes Nodes (m c) (λ v. as_wanted T (want i) v) (g c node current) (λ v h. wanted_sound (want i) v h))
        (λ i m v g h. (h, tt)) 0 ms gs

  -- the language of a node
  decided_sound : (w ats : List ℕ) → Each G ats → Sound may Any (decided_by T w (lang_among T ats))
  decided_sound w [] h = sound_done may Any None tt
  decided_sound w (a ∷ ats) h = by (is_lang T a) (decided_sound w ats h.1)
    where
      by : (b : Bool) → Sound may Any (decided_by T w (find (is_lang T) ats)) → Sound may Any (decided_by T w (cond b (Some a) (find (is_lang T) ats)))
      by true more = sound_reading may Any (cell (cells.Value a)) _ (closed.may_read (cells.Value a) h.0) (sound_done may Any _ tt)
      by false more = more

  own_sound : (w : List ℕ) (n : ℕ) → G n → Sound may Any (own_language T w n)
  own_sound w n h =
      let decided : Evaluation EvalFault (Option Bool) = decided_by T w (lang_among T (attrs_of T n)) in
      sound_cond may Any (is_element (kind_of T n)) (reading (cell (cells.Attrs n)) (reading (names_along axes.Attribute n) decided)) (done None)
      (sound_reading may Any (cell (cells.Attrs n)) (reading (names_along axes.Attribute n) decided) (closed.may_read (cells.Attrs n) h)
      (sound_reading may Any (names_along axes.Attribute n) decided (closed.may_name axes.Attribute n h)
      (decided_sound w (attrs_of T n) (closed.attributes n)))) (sound_done may Any None tt)

  or_else_sound : (o : Option Bool) (m : Evaluation EvalFault Bool) → Sound may Any m → Sound may Any (or_else o m)
  or_else_sound None m h = h
  or_else_sound (Some b) m h = sound_done may Any b tt

  along_sound : (w ns : List ℕ) → Each G ns → Sound may Any (language_along T w ns)
  along_sound w [] h = sound_done may Any false tt
  along_sound w (n ∷ ns) h =
      sound_bind may Any Any (own_language T w n) (λ found. or_else found (language_along T w ns)) (own_sound w n h.0)
      (λ o k. or_else_sound o (language_along T w ns) (along_sound w ns h.1))

  pub climb_good : (steps : ℕ) (o : Option ℕ) → ((p : ℕ) → o ≡ Some p → G p) → Each G (climb T steps o)
  climb_good zero o h = tt
  climb_good (suc steps) None h = tt
  climb_good (suc steps) (Some p) h = (h p refl, climb_good steps (parent_of T p) (λ q e. closed.parent p q e))

  language_sound : (n : ℕ) (w : List ℕ) → G n → Sound may Any (in_language T n w)
  unfolding in_language
  language_sound n w h = along_sound w (above T n) (h, climb_good (length T) (parent_of T n) (λ p e. closed.parent n p e))

  -- the functions
  argument_good : (vs : List Value) → Each Nodes vs → Each G (nodes_at vs 0)
  argument_good [] h = tt
  argument_good (v ∷ vs) h = h.0

  own_text_sound : (c : Context) (vs : List Value) → G c.node → Sound may Any (text_or_own T c vs)
  own_text_sound c [] h = text_sound (NodeSet (c.node ∷ [])) (h, tt)
  own_text_sound c (v ∷ vs) h = sound_done may Any (text_of v) tt

  own_number_sound : (c : Context) (vs : List Value) → G c.node → Sound may Any (number_or_own T c vs)
  own_number_sound c [] h = number_sound (NodeSet (c.node ∷ [])) (h, tt)
  own_number_sound c (v ∷ vs) h = sound_done may Any _ tt

  made_sound : {A : Type 0} (m : Evaluation EvalFault A) (f : A → Value) → Sound may Any m → ((x : A) → Nodes (f x)) → Sound may Nodes (bind m (λ x. done (f x)))
  made_sound m f h all = sound_bind may Any Nodes m (λ x. done (f x)) h (λ x k. sound_done may Nodes (f x) (all x))

  -- the node whose name is asked for, and its name
  first_node : (ns : List ℕ) → Each G ns → Each may (name_read T (slice_get ns 0))
  first_node [] h = tt
  first_node (n ∷ ns) h = read_if_may (has_own_name (kind_of T n)) (cells.Name n) (closed.may_read (cells.Name n) h.0)

  named_may : (c : Context) (vs : List Value) → G c.node → Each Nodes vs → Each may (name_read T (named_node c vs))
  named_may c [] h e = read_if_may (has_own_name (kind_of T c.node)) (cells.Name c.node) (closed.may_read (cells.Name c.node) h)
  named_may c (v ∷ vs) h e = first_node (nodes_of v) e.0

  name_sound : (c : Context) (vs : List Value) (part : Option Name → List ℕ) → G c.node → Each Nodes vs → Sound may Nodes (of_name T (named_node c vs) (λ name. Chars (part name)))
  unfolding all_reading
  name_sound c vs part h e =
      sound_behind may Nodes (name_read T (named_node c vs)) 0 (done (Chars (part (name_at T (named_node c vs))))) (named_may c vs h e)
      (sound_done may Nodes (Chars (part (name_at T (named_node c vs)))) tt)

  chars_sound : (r : Result (List ℕ) EvalFault) → Sound may Nodes (given (as_chars r))
  chars_sound (Ok s) = sound_done may Nodes (Chars s) tt
  chars_sound (Err f) = sound_given may Nodes (Err f) (λ v e. cc)

  pub function_sound : (f : Function) (c : Context) (vs : List Value) → G c.node → G c.current → Each Nodes vs → Sound may Nodes (applied T f c vs)
  function_sound functions.Last c vs h k e = sound_done may Nodes _ tt
  function_sound functions.Position c vs h k e = sound_done may Nodes _ tt
  function_sound functions.Current c vs h k e = sound_done may Nodes (NodeSet (c.current ∷ [])) (k, tt)
  function_sound functions.Count c vs h k e = sound_done may Nodes _ tt
  function_sound functions.Sum c vs h k e = made_sound (sum_in T (nodes_at vs 0)) (λ n. Number n) (sum_sound (nodes_at vs 0) (argument_good vs e)) (λ n. tt)
  function_sound functions.LocalName c vs h k e = name_sound c vs (λ name. local_in name) h e
  function_sound functions.NamespaceUri c vs h k e = name_sound c vs (λ name. uri_in name) h e
  function_sound functions.Name c vs h k e = name_sound c vs (λ name. written_in name) h e
  function_sound functions.String c vs h k e = made_sound (text_or_own T c vs) (λ s. Chars s) (own_text_sound c vs h) (λ s. tt)
  function_sound functions.Number c vs h k e = made_sound (number_or_own T c vs) (λ n. Number n) (own_number_sound c vs h) (λ n. tt)
  function_sound functions.Boolean c vs h k e = sound_done may Nodes _ tt
  function_sound functions.Not c vs h k e = sound_done may Nodes _ tt
  function_sound functions.True c vs h k e = sound_done may Nodes _ tt
  function_sound functions.False c vs h k e = sound_done may Nodes _ tt
  function_sound functions.Concat c vs h k e = chars_sound (limited (flat_map text_of vs))
  function_sound functions.StartsWith c vs h k e = sound_done may Nodes _ tt
  function_sound functions.Contains c vs h k e = sound_done may Nodes _ tt
  function_sound functions.SubstringBefore c vs h k e = sound_done may Nodes _ tt
  function_sound functions.SubstringAfter c vs h k e = sound_done may Nodes _ tt
  function_sound functions.Substring c vs h k e = sound_done may Nodes _ tt
  function_sound functions.StringLength c vs h k e = made_sound (text_or_own T c vs) (λ s. Number (string_length s)) (own_text_sound c vs h) (λ s. tt)
  function_sound functions.NormalizeSpace c vs h k e = made_sound (text_or_own T c vs) (λ s. Chars (normalize_space s)) (own_text_sound c vs h) (λ s. tt)
  function_sound functions.Translate c vs h k e = chars_sound (translate (text_at vs 0) (text_at vs 1) (text_at vs 2))
  function_sound functions.Lang c vs h k e = made_sound (in_language T c.node (text_at vs 0)) (λ b. Truth b) (language_sound c.node (text_at vs 0) h) (λ b. tt)
  function_sound functions.Floor c vs h k e = sound_done may Nodes _ tt
  function_sound functions.Ceiling c vs h k e = sound_done may Nodes _ tt
  function_sound functions.Round c vs h k e = sound_done may Nodes _ tt
