-- What matching reads: the lets in the slots that it names, and cells of nodes of a closed set.
use Rattle.std.proofs.Common.{◌≡◌, ℕ, Bool, true, false, ◌||◌, List, [], ◌∷◌, ◌++◌, length, map, Option, None, Some, Ok, refl, subst}
use Rattle.std.specs.Prelude.{filter, option_and_then, if◌then◌else◌}
use Rattle.std.specs.List.{list_any, AllByRecursion as Each}
use Rattle.doc_tree.specs.Laws.{Ordered, HasWaysUp}
use Rattle.doc_tree.specs.Lists.{mem}
use Rattle.doc_tree.specs.cell.Cell.TheVariants.{Name}
use Rattle.doc_tree.specs.Table.{Table, kind_of, parent_of, is_live}
use Rattle.doc_tree.specs.Walks.{order}
use Rattle.doc_axes.specs.NodeTests.{is_principal}
use Rattle.xp_typed_tree.specs.declared.value_type.ValueType.{ValueType}
use Rattle.xp_typed_tree.specs.TypedTree.{TypedPatternStepTree, TypedPathTree}
use Rattle.xp_typed_tree.specs.Slots.{slots_in_all, slots_in_pattern_steps, slots_in_paths}
use Rattle.xp_outcome.specs.Cells.{names_on}
use Rattle.xp_outcome.specs.Evaluation.{Read, cell, variable, done, all_reading, bind, visit}
use Rattle.xp_outcome.specs.Slots.{in_slot}
use Rattle.xp_values.specs.declared.values.Value.{Value}
use Rattle.xp_meaning.specs.Conversions.{nodes_of}
use Rattle.xp_meaning.specs.Paths.{placed, step_at}
use Rattle.xp_meaning.specs.Reads.{is_by_name}
use Rattle.xp_meaning.specs.Evaluation.{Lets, meanings, all_true}
use Rattle.xp_meaning_laws.specs.KnownReads.{IsNamedRead, IsLiveRead}
use Rattle.xp_meaning_laws.proofs.EachLemmas.{each-append, each-front, each-back, each-all, each-cond, each-filter}
use Rattle.xp_meaning_laws.proofs.Sound.{Sound, sound_behind, sound_done, sound_visit, sound_bind, sound_cond, sound_gather}
use Rattle.xp_meaning_laws.proofs.Parts.{Closed, Any, climb_good, step_sound, all_sound}
use Rattle.xp_meaning_laws.proofs.Knowing.{AnyNode, goods, all_closed, all_named, live_closed}
use Rattle.xslt_match.specs.Matching.{step_of, is_left, survives, survivors, standing, led_to, leads, reaches, starts, chains, path_matches, some_path, matching}
use Rattle.xslt_match.specs.Names.{ancestor_over, pattern_names, place_names, places_from, some_anywhere, standing_places, step_names}
use Rattle.xslt_match.specs.Positional.{some_positional}
use Rattle.xslt_match_laws.specs.KnownReads.{MatchingReadsNamedLets, MatchingReadsLiveCells}

module _ (T : Table) (G : ℕ → Type 0) (may : Read → Type 0) (closed : Closed T G may) (L : Lets)
    (lets : (place : ℕ) (v : Value) → in_slot L place ≡ Some (Ok v) → Each G (nodes_of v)) (n : ℕ) (here : G n) where
  abbrev MayRead : List (ℕ × ValueType) → Type 0
  MayRead slots = Each (λ s. may (variable s.0)) slots

  front : (xs ys : List (ℕ × ValueType)) → MayRead (xs ++ ys) → MayRead xs
  front xs ys h = each-front (λ s. may (variable s.0)) xs ys h

  back : (xs ys : List (ℕ × ValueType)) → MayRead (xs ++ ys) → MayRead ys
  back xs ys h = each-back (λ s. may (variable s.0)) xs ys h

  left_sound : (s : TypedPatternStepTree) (k : ℕ) (o : Option ℕ) → MayRead (slots_in_all s.predicates) → ((p : ℕ) → o ≡ Some p → G p) →
      Sound may Any (is_left T (step_of T L s) n k o)
  left_sound s k None h above = sound_done may Any false tt
  left_sound s k (Some p) h above =
      sound_bind may (Each G) Any (step_at T (step_of T L s) n p) (λ ms. done (mem k ms))
      (step_sound T G may closed (step_of T L s) n p (goods T G may closed L lets s.predicates h) here (above p refl)) (λ ms e. sound_done may Any (mem k ms) tt)

  survives_sound : (s : TypedPatternStepTree) (k : ℕ) → MayRead (slots_in_all s.predicates) → G k → Sound may Any (survives T L s n k)
  survives_sound s k h at =
      sound_cond may Any (some_positional s.predicates) (is_left T (step_of T L s) n k (parent_of T k)) (visit (all_true (meanings T L s.predicates) (placed n 1 1 k)))
      (left_sound s k (parent_of T k) h (λ p e. closed.parent k p e))
      (sound_visit may Any (all_true (meanings T L s.predicates) (placed n 1 1 k))
      (all_sound T G may closed (placed n 1 1 k) at here (meanings T L s.predicates) (goods T G may closed L lets s.predicates h)))

  survivors_sound : (s : TypedPatternStepTree) (ks : List ℕ) → MayRead (slots_in_all s.predicates) → Each G ks → Sound may (Each G) (survivors T L s n ks)
  survivors_sound s ks h all =
      sound_gather may G Any G (λ _ k. survives T L s n k) (λ _ k b. if b then k ∷ [] else []) (λ i k at. survives_sound s k h at)
      (λ i k b at e. each-cond G b (k ∷ []) [] (at, tt) tt) 1 ks all

  standing_good : (s : TypedPatternStepTree) (ss : List TypedPatternStepTree) (ms : List ℕ) → Each G (standing T s ss ms n)
  standing_good s ss ms =
      each-filter G (λ k. reaches T ss (k ∷ []) n) (led_to T s ms) (each-filter G (λ k. list_any (λ m. leads T s m k) ms) (order T) closed.whole)

  chains_sound : (ss : List TypedPatternStepTree) (ms alive : List ℕ) → MayRead (slots_in_pattern_steps ss) → Sound may Any (chains T L n ss ms alive)
  chains_sound [] ms alive h = sound_done may Any (mem n alive) tt
  chains_sound (s ∷ ss) ms alive h =
      sound_bind may (Each G) Any (survivors T L s n (standing T s ss ms n))
      (λ ks. chains T L n ss (standing T s ss ms n) (filter (λ k. list_any (λ m. leads T s m k) alive) ks))
      (survivors_sound s (standing T s ss ms n) (front (slots_in_all s.predicates) (slots_in_pattern_steps ss) h) (standing_good s ss ms))
      (λ ks e. chains_sound ss (standing T s ss ms n) (filter (λ k. list_any (λ m. leads T s m k) alive) ks) (back (slots_in_all s.predicates) (slots_in_pattern_steps ss) h))

  paths_sound : (ps : List TypedPathTree) → MayRead (slots_in_paths ps) → Sound may Any (some_path T L n ps)
  paths_sound [] h = sound_done may Any false tt
  paths_sound (p ∷ ps) h =
      sound_bind may Any Any (path_matches T L n p) (λ b. bind (some_path T L n ps) (λ c. done (b || c)))
      (chains_sound p.steps (starts T p.from_root n) (starts T p.from_root n) (front (slots_in_pattern_steps p.steps) (slots_in_paths ps) h))
      (λ b e. sound_bind may Any Any (some_path T L n ps) (λ c. done (b || c)) (paths_sound ps (back (slots_in_pattern_steps p.steps) (slots_in_paths ps) h))
      (λ c f. sound_done may Any (b || c) tt))

  -- the names that are looked at
  over_good : (ss : List TypedPatternStepTree) (m : ℕ) → ancestor_over T ss n ≡ Some m → G m
  over_good [] m e = let same : n ≡ m = cc in subst G same here
  over_good (s ∷ ss) m e = by (ancestor_over T ss n) e
    where
      by : (o : Option ℕ) → option_and_then (parent_of T) o ≡ Some m → G m
      by None e = absurd (cc)
      by (Some q) e = closed.parent q m e

  from_good : (b : Bool) (o : Option ℕ) → ((m : ℕ) → o ≡ Some m → G m) → Each G (places_from T b o)
  from_good b None h = tt
  from_good true (Some m) h = (h m refl, climb_good T G may closed (length T) (parent_of T m) (λ p e. closed.parent m p e))
  from_good false (Some m) h = (h m refl, tt)

  names_may : (ns : List ℕ) → Each G ns → Each may (map cell (map Name ns))
  names_may [] h = tt
  names_may (m ∷ ms) h = (closed.may_read (Name m) h.0, names_may ms h.1)

  place_may : (s : TypedPatternStepTree) (ns : List ℕ) → Each G ns → Each may (place_names T s.axis s.test ns)
  place_may s ns h =
      each-cond may (is_by_name s.test) (map cell (names_on T s.axis ns)) []
      (names_may (filter (λ m. is_principal s.axis (kind_of T m)) ns) (each-filter G (λ m. is_principal s.axis (kind_of T m)) ns h)) tt

  step_may : (ss : List TypedPatternStepTree) → Each may (step_names T n ss)
  step_may [] = tt
  step_may (s ∷ ss) =
      each-append may (step_names T n ss) (place_names T s.axis s.test (standing_places T ss n)) (step_may ss)
      (place_may s (standing_places T ss n) (from_good (some_anywhere ss) (ancestor_over T ss n) (over_good ss)))

  pattern_may : (ps : List TypedPathTree) → Each may (pattern_names T n ps)
  pattern_may [] = tt
  pattern_may (p ∷ ps) = each-append may (step_names T n p.steps) (pattern_names T n ps) (step_may p.steps) (pattern_may ps)

  pub matching_sound : (ps : List TypedPathTree) → MayRead (slots_in_paths ps) → Sound may Any (matching T L ps n)
  unfolding all_reading
  matching_sound ps h =
      sound_visit may Any (all_reading (pattern_names T n ps) (some_path T L n ps))
      (sound_behind may Any (pattern_names T n ps) 0 (some_path T L n ps) (pattern_may ps) (paths_sound ps h))

pub matching_reads_named_lets : MatchingReadsNamedLets
matching_reads_named_lets T L ps n =
    (matching_sound T AnyNode (IsNamedRead (slots_in_paths ps)) (all_closed T (slots_in_paths ps)) L
    (λ place v e. each-all AnyNode (λ k. tt) (nodes_of v)) n tt ps (all_named (slots_in_paths ps))).reads

pub matching_reads_live_cells : (T : Table) → Ordered T → HasWaysUp T → MatchingReadsLiveCells T
matching_reads_live_cells T ord up L ps n lets live =
    (matching_sound T (λ k. is_live T k ≡ true) (IsLiveRead T) (live_closed T ord up) L lets n live ps
    (each-all (λ s. IsLiveRead T (variable s.0)) (λ s. tt) (slots_in_paths ps))).reads
