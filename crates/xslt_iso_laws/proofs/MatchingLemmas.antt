-- Chains where the nodes of a tree are renumbered: the same nodes stand at each step but for their numbers, and the same survive.
use Rattle.std.proofs.Common.{◌≡◌, ℕ, Bool, true, false, cond, ◌&&◌, ◌||◌, List, [], ◌∷◌, ◌++◌, map, Option, None, Some, refl, sym, ap, ap₂, ◌∙◌}
use Rattle.std.proofs.lemmas.List.{map-append}
use Rattle.std.specs.Prelude.{filter, option_and_then, option_map}
use Rattle.std.specs.List.{list_any}
use Rattle.doc_tree.specs.declared.axes.Axis.TheVariants.{AncestorOrSelf, DescendantOrSelf}
use Rattle.doc_tree.specs.Laws.{WellFormed}
use Rattle.doc_tree.specs.Lists.{mem}
use Rattle.doc_tree.specs.cell.Cell.TheVariants.{Name}
use Rattle.doc_tree.specs.Table.{Table, kind_of, parent_of}
use Rattle.doc_tree.specs.Walks.{order}
use Rattle.doc_axes.specs.Axes.{on_axis}
use Rattle.doc_axes.specs.NodeTests.{is_principal}
use Rattle.tree_iso.specs.Renumbering.{Hangs, Renumbers, RenumberedTreesHang}
use Rattle.tree_iso.proofs.NumberLemmas.{any-moved, filter-moved, mem-moved}
use Rattle.xp_typed_tree.specs.TypedTree.{TypedPatternStepTree, TypedPathTree}
use Rattle.xp_outcome.specs.Evaluation.{Read, all_reading, bind, cell, done, visit}
use Rattle.xp_meaning.specs.Evaluation.{Lets, all_true, meanings}
use Rattle.xp_meaning.specs.Paths.{placed, step_at}
use Rattle.xp_meaning.specs.Reads.{is_by_name}
use Rattle.xp_iso_laws.specs.Moved.{moved_lets, moved_read}
use Rattle.xp_iso_laws.specs.Moves.{Moves, PredicatesMove, StepsMove}
use Rattle.xp_iso_laws.proofs.AxisLemmas.{filtered-moved, kind-moved, on_axis-moved, passes-moved}
use Rattle.xp_iso_laws.proofs.MoveLemmas.{moves-all_reading, moves-bind, moves-cond, moves-done, moves-equal, moves-gather, moves-made, moves-visit}
use Rattle.xp_iso_laws.proofs.ValueLemmas.{as_is}
use Rattle.xslt_ways.specs.Ways.{is_anywhere}
use Rattle.xslt_match.specs.Matching.{chains, is_candidate, is_left, leads, led_to, path_matches, reaches, some_path, standing, starts, step_of, survives, survivors}
use Rattle.xslt_match.specs.Names.{ancestor_over, pattern_names, place_names, places_from, some_anywhere, standing_places, step_names}
use Rattle.xslt_match.specs.Positional.{some_positional}
use Rattle.xslt_iso_laws.specs.Moves.{PatternsMove}

module _ (f : ℕ → ℕ) (T U : Table) (r : Renumbers f T U) (h : Hangs f T U) where
  candidate-moved : (s : TypedPatternStepTree) (m k : ℕ) → is_candidate U s (f m) (f k) ≡ is_candidate T s m k
  candidate-moved s m k = ap₂ (λ x y. x && y) (on_axis-moved f T U r h s.axis m k) (passes-moved f T U r h s.axis s.test k)

  leads-moved : (s : TypedPatternStepTree) (m k : ℕ) → leads U s (f m) (f k) ≡ leads T s m k
  leads-moved s m k =
      ap₂ (λ x y. cond (is_anywhere s.join) x y)
      (ap (list_any (λ x. on_axis U DescendantOrSelf (f m) x && is_candidate U s x (f k))) r.in_order
      ∙ any-moved f (λ x. on_axis T DescendantOrSelf m x && is_candidate T s x k) (λ x. on_axis U DescendantOrSelf (f m) x && is_candidate U s x (f k))
      (λ x. ap₂ (λ a b. a && b) (on_axis-moved f T U r h DescendantOrSelf m x) (candidate-moved s x k)) (order T))
      (candidate-moved s m k)

  led-moved : (s : TypedPatternStepTree) (ms : List ℕ) (k : ℕ) → list_any (λ m. leads U s m (f k)) (map f ms) ≡ list_any (λ m. leads T s m k) ms
  led-moved s ms k = any-moved f (λ m. leads T s m k) (λ m. leads U s m (f k)) (λ m. leads-moved s m k) ms

  led_to-moved : (s : TypedPatternStepTree) (ms : List ℕ) → led_to U s (map f ms) ≡ map f (led_to T s ms)
  led_to-moved s ms = filtered-moved f T U r h (λ k. list_any (λ m. leads T s m k) ms) (λ k. list_any (λ m. leads U s m k) (map f ms)) (led-moved s ms)

  reaches-moved : (ss : List TypedPatternStepTree) (ms : List ℕ) (n : ℕ) → reaches U ss (map f ms) (f n) ≡ reaches T ss ms n
  reaches-moved [] ms n = mem-moved f r.apart n ms
  reaches-moved (s ∷ ss) ms n = ap (λ l. reaches U ss l (f n)) (led_to-moved s ms) ∙ reaches-moved ss (led_to T s ms) n

  starts-moved : (from_root : Bool) (n : ℕ) → starts U from_root (f n) ≡ map f (starts T from_root n)
  starts-moved true n = ap (λ m. m ∷ []) (sym h.root)
  starts-moved false n = filtered-moved f T U r h (on_axis T AncestorOrSelf n) (on_axis U AncestorOrSelf (f n)) (on_axis-moved f T U r h AncestorOrSelf n)

  standing-moved : (s : TypedPatternStepTree) (ss : List TypedPatternStepTree) (ms : List ℕ) (n : ℕ) → standing U s ss (map f ms) (f n) ≡ map f (standing T s ss ms n)
  standing-moved s ss ms n =
      ap (filter (λ k. reaches U ss (k ∷ []) (f n))) (led_to-moved s ms)
      ∙ filter-moved f (λ k. reaches T ss (k ∷ []) n) (λ k. reaches U ss (k ∷ []) (f n)) (λ k. reaches-moved ss (k ∷ []) n) (led_to T s ms)

  -- the names that are looked at
  over-moved : (ss : List TypedPatternStepTree) (n : ℕ) → ancestor_over U ss (f n) ≡ option_map f (ancestor_over T ss n)
  over-moved [] n = refl
  over-moved (s ∷ ss) n = ap (option_and_then (parent_of U)) (over-moved ss n) ∙ by (ancestor_over T ss n)
    where
      by : (o : Option ℕ) → option_and_then (parent_of U) (option_map f o) ≡ option_map f (option_and_then (parent_of T) o)
      by None = refl
      by (Some m) = r.parent m

  places-moved : (b : Bool) (o : Option ℕ) → places_from U b (option_map f o) ≡ map f (places_from T b o)
  places-moved b None = refl
  places-moved true (Some m) = ap (λ ns. f m ∷ ns) (h.ancestors_go m)
  places-moved false (Some m) = refl

  standing_places-moved : (ss : List TypedPatternStepTree) (n : ℕ) → standing_places U ss (f n) ≡ map f (standing_places T ss n)
  standing_places-moved ss n = ap (places_from U (some_anywhere ss)) (over-moved ss n) ∙ places-moved (some_anywhere ss) (ancestor_over T ss n)

  cells-moved : (ns : List ℕ) → map cell (map Name (map f ns)) ≡ map (moved_read f) (map cell (map Name ns))
  cells-moved [] = refl
  cells-moved (n ∷ ns) = ap (λ cs. cell (Name (f n)) ∷ cs) (cells-moved ns)

  place_names-moved : (s : TypedPatternStepTree) (ns : List ℕ) →
      place_names U s.axis s.test (map f ns) ≡ map (moved_read f) (place_names T s.axis s.test ns)
  place_names-moved s ns =
      ap (λ ms. cond (is_by_name s.test) (map cell (map Name ms)) [])
      (filter-moved f (λ k. is_principal s.axis (kind_of T k)) (λ k. is_principal s.axis (kind_of U k))
      (λ k. ap (is_principal s.axis) (kind-moved f T U r h k)) ns)
      ∙ by (is_by_name s.test)
    where
      left : List ℕ
      left = filter (λ k. is_principal s.axis (kind_of T k)) ns

      by : (b : Bool) → cond b (map cell (map Name (map f left))) [] ≡ map (moved_read f) (cond b (map cell (map Name left)) [])
      by true = cells-moved left
      by false = refl

  step_names-moved : (ss : List TypedPatternStepTree) (n : ℕ) → step_names U (f n) ss ≡ map (moved_read f) (step_names T n ss)
  step_names-moved [] n = refl
  step_names-moved (s ∷ ss) n =
      ap₂ (λ (x y : List Read). x ++ y) (step_names-moved ss n)
      (ap (place_names U s.axis s.test) (standing_places-moved ss n) ∙ place_names-moved s (standing_places T ss n))
      ∙ sym (map-append (moved_read f) (step_names T n ss) (place_names T s.axis s.test (standing_places T ss n)))

  pattern_names-moved : (ps : List TypedPathTree) (n : ℕ) → pattern_names U (f n) ps ≡ map (moved_read f) (pattern_names T n ps)
  pattern_names-moved [] n = refl
  pattern_names-moved (p ∷ ps) n =
      ap₂ (λ (x y : List Read). x ++ y) (step_names-moved p.steps n) (pattern_names-moved ps n)
      ∙ sym (map-append (moved_read f) (step_names T n p.steps) (pattern_names T n ps))

  module _ (one : WellFormed T) (other : WellFormed U) (steps : StepsMove) (predicates : PredicatesMove) (L : Lets) (n : ℕ) where
    abbrev M : Lets
    M = moved_lets f L

    moves-left : (s : TypedPatternStepTree) (k : ℕ) (o : Option ℕ) →
        Moves f {A = Bool} as_is (is_left T (step_of T L s) n k o) (is_left U (step_of U M s) (f n) (f k) (option_map f o))
    moves-left s k None = moves-done f as_is false false refl
    moves-left s k (Some p) =
        moves-made f (map f) as_is (step_at T (step_of T L s) n p) (step_at U (step_of U M s) (f n) (f p)) (λ ms. mem k ms) (λ ms. mem (f k) ms)
        (steps f T U L s.axis s.test s.predicates n p one other r) (λ ms. mem-moved f r.apart k ms)

    moves-survives : (s : TypedPatternStepTree) (k : ℕ) → Moves f {A = Bool} as_is (survives T L s n k) (survives U M s (f n) (f k))
    moves-survives s k =
        moves-cond f as_is (some_positional s.predicates)
        (is_left T (step_of T L s) n k (parent_of T k)) (visit (all_true (meanings T L s.predicates) (placed n 1 1 k)))
        (is_left U (step_of U M s) (f n) (f k) (parent_of U (f k))) (visit (all_true (meanings U M s.predicates) (placed (f n) 1 1 (f k))))
        (moves-equal f as_is (is_left T (step_of T L s) n k (parent_of T k)) (is_left U (step_of U M s) (f n) (f k) (option_map f (parent_of T k)))
        (is_left U (step_of U M s) (f n) (f k) (parent_of U (f k))) (ap (is_left U (step_of U M s) (f n) (f k)) (sym (r.parent k))) (moves-left s k (parent_of T k)))
        (moves-visit f as_is (all_true (meanings T L s.predicates) (placed n 1 1 k)) (all_true (meanings U M s.predicates) (placed (f n) 1 1 (f k)))
        (predicates f T U L s.predicates (placed n 1 1 k) one other r))

    moves-survivors : (s : TypedPatternStepTree) (ks : List ℕ) → Moves f (map f) (survivors T L s n ks) (survivors U M s (f n) (map f ks))
    moves-survivors s ks =
        moves-gather f as_is (λ _ k. survives T L s n k) (λ _ k. survives U M s (f n) k) (λ _ k b. cond b (k ∷ []) []) (λ _ k b. cond b (k ∷ []) [])
        (λ i k. moves-survives s k) (λ i k b. alone k b) 1 ks
      where
        alone : (k : ℕ) (b : Bool) → cond b (f k ∷ []) [] ≡ map f (cond b (k ∷ []) [])
        alone k true = refl
        alone k false = refl

    moves-chains : (ss : List TypedPatternStepTree) (ms alive : List ℕ) → Moves f {A = Bool} as_is (chains T L n ss ms alive) (chains U M (f n) ss (map f ms) (map f alive))
    moves-chains [] ms alive = moves-done f as_is (mem n alive) (mem (f n) (map f alive)) (mem-moved f r.apart n alive)
    moves-chains (s ∷ ss) ms alive =
        let nodes : List ℕ = standing T s ss ms n in
        let led : ℕ → Bool = λ k. list_any (λ m. leads T s m k) alive in
        let led_after : ℕ → Bool = λ k. list_any (λ m. leads U s m k) (map f alive) in
        moves-equal f as_is (chains T L n (s ∷ ss) ms alive)
        (bind (survivors U M s (f n) (map f nodes)) (λ ks. chains U M (f n) ss (map f nodes) (filter led_after ks)))
        (chains U M (f n) (s ∷ ss) (map f ms) (map f alive))
        (ap (λ others. bind (survivors U M s (f n) others) (λ ks. chains U M (f n) ss others (filter led_after ks))) (sym (standing-moved s ss ms n)))
        (moves-bind f (map f) as_is (survivors T L s n nodes) (survivors U M s (f n) (map f nodes))
        (λ ks. chains T L n ss nodes (filter led ks)) (λ ks. chains U M (f n) ss (map f nodes) (filter led_after ks)) (moves-survivors s nodes)
        (λ ks. moves-equal f as_is (chains T L n ss nodes (filter led ks)) (chains U M (f n) ss (map f nodes) (map f (filter led ks)))
        (chains U M (f n) ss (map f nodes) (filter led_after (map f ks)))
        (ap (chains U M (f n) ss (map f nodes)) (sym (filter-moved f led led_after (led-moved s alive) ks))) (moves-chains ss nodes (filter led ks))))

    moves-path : (p : TypedPathTree) → Moves f {A = Bool} as_is (path_matches T L n p) (path_matches U M (f n) p)
    moves-path p =
        moves-equal f as_is (path_matches T L n p) (chains U M (f n) p.steps (map f (starts T p.from_root n)) (map f (starts T p.from_root n))) (path_matches U M (f n) p)
        (ap (λ ms. chains U M (f n) p.steps ms ms) (sym (starts-moved p.from_root n))) (moves-chains p.steps (starts T p.from_root n) (starts T p.from_root n))

    moves-paths : (ps : List TypedPathTree) → Moves f {A = Bool} as_is (some_path T L n ps) (some_path U M (f n) ps)
    moves-paths [] = moves-done f as_is false false refl
    moves-paths (p ∷ ps) =
        moves-bind f as_is as_is (path_matches T L n p) (path_matches U M (f n) p)
        (λ b. bind (some_path T L n ps) (λ c. done (b || c))) (λ b. bind (some_path U M (f n) ps) (λ c. done (b || c))) (moves-path p)
        (λ b. moves-made f as_is as_is (some_path T L n ps) (some_path U M (f n) ps) (λ c. b || c) (λ c. b || c) (moves-paths ps) (λ c. refl))

pub patterns-move : RenumberedTreesHang → StepsMove → PredicatesMove → PatternsMove
patterns-move hang steps predicates f T U L ps n one other r =
    let h = hang f T U one other r in
    let names = pattern_names T n ps in
    let moved = pattern_names U (f n) ps in
    let rest = some_path T L n ps in
    let rest_moved = some_path U (moved_lets f L) (f n) ps in
    moves-visit f as_is (all_reading names rest) (all_reading moved rest_moved)
    (moves-all_reading f as_is names moved rest rest_moved (pattern_names-moved f T U r h ps n)
    (moves-paths f T U r h one other steps predicates L n ps))
