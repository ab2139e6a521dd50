-- Chains step by step, and those of a path whose last node test refuses the node.
use Rattle.std.proofs.Common.{◌≡◌, ℕ, ◌+◌, ◌<◌, ◌≤◌, arith, Bool, true, false, ◌||◌, List, [], ◌∷◌, ◌++◌, length, drop, get_or, filter, map, refl, sym, ◌∙◌, ap, ap₂, subst, true≢false, Result}
use Rattle.std.specs.Prelude.{◌==◌, not, slice_get, option_map, IfSome, Some}
use Rattle.std.proofs.lemmas.Option.{slice_get-map, slice_get_read}
use Rattle.std.specs.List.{list_any}
use Rattle.doc_tree.specs.Lists.{mem}
use Rattle.doc_tree.specs.Table.{Table}
use Rattle.doc_tree.specs.Walks.{order}
use Rattle.doc_axes.specs.NodeTests.{passes}
use Rattle.doc_axes.proofs.SubLists.{filter-none}
use Rattle.xp_typed_tree.specs.declared.pattern.TypedPath.{TypedPath}
use Rattle.xp_typed_tree.specs.declared.pattern.TypedPatternStep.{TypedPatternStep}
use Rattle.xp_typed_tree.specs.TypedTree.{TypedPatternStepTree, TypedPathTree}
use Rattle.xp_typed_tree.specs.TypedView.{pattern_step_seen, path_seen, paths_seen}
use Rattle.xp_typed_tree.specs.WellTyped.{PatternStepsTyped, PathsTyped}
use Rattle.xp_outcome.specs.Recorded.{Recorded}
use Rattle.xp_outcome.specs.Running.{Stop, Ran}
use Rattle.xp_outcome.specs.Evaluation.{done, all_reading, bind}
use Rattle.xp_outcome.proofs.Outcomes.{bind-done, bind_assoc, bind_alike}
use Rattle.xp_outcome.proofs.Runs.{next_item, no_item}
use Rattle.xp_values.specs.declared.values.EvalFault.{EvalFault}
use Rattle.xp_meaning.proofs.Exits.{ran_ticked}
use Rattle.xp_meaning.specs.Evaluation.{Lets}
use Rattle.xslt_match.specs.inner.Ends.{ends_elsewhere}
use Rattle.xslt_match.specs.Kept.{last_step}
use Rattle.xslt_match.specs.Matching.{leads, reaches, led_to, standing, starts, survivors, chains, path_matches, some_path, matching}
use Rattle.xslt_match.specs.Names.{pattern_names}
use Rattle.xslt_match.proofs.Filters.{eqb-turned, or-false, or-left}
use Rattle.xslt_match.proofs.StepsAlong.{not_led, none_last}

-- a list has a number where some item is it
pub any_mem : (n : ℕ) (xs : List ℕ) → list_any (λ y. y == n) xs ≡ mem n xs
any_mem n [] = refl
any_mem n (x ∷ xs) =
    ap₂ (λ a b. a || b) (eqb-turned x n) (any_mem n xs)

not_true : (b : Bool) → not b ≡ true → b ≡ false
not_true true h = absurd (true≢false (sym h))
not_true false h = refl

module _ (T : Table) (n : ℕ) where
  -- a path whose last step's node test refuses the node ends elsewhere
  pub refused_ends : (ss : List TypedPatternStepTree) → 0 < length ss → IfSome (last_step ss) (λ s. passes T s.axis s.test n ≡ false) → ends_elsewhere T ss n ≡ true
  refused_ends [] some h = absurd (omega (arith, some))
  refused_ends (s ∷ []) some h = ap not h
  refused_ends (s ∷ r ∷ ss) some h = refused_ends (r ∷ ss) (omega arith) h

  -- no chain of a path ends at a node that its last node test refuses
  reaches_none : (ss : List TypedPatternStepTree) (ms : List ℕ) → ends_elsewhere T ss n ≡ true → reaches T ss ms n ≡ false
  reaches_none [] ms h = absurd (true≢false (sym h))
  reaches_none (s ∷ []) ms h = not_led T s ms n (not_true (passes T s.axis s.test n) h)
  reaches_none (s ∷ r ∷ ss) ms h = reaches_none (r ∷ ss) (led_to T s ms) h

  -- so that no node stands at a step
  standing_last : (s : TypedPatternStepTree) (ms : List ℕ) → ends_elsewhere T (s ∷ []) n ≡ true → standing T s [] ms n ≡ []
  standing_last s ms h = none_last T s ms n (not_true (passes T s.axis s.test n) h)

  standing_before : (s r : TypedPatternStepTree) (ss : List TypedPatternStepTree) (ms : List ℕ) → ends_elsewhere T (r ∷ ss) n ≡ true → standing T s (r ∷ ss) ms n ≡ []
  standing_before s r ss ms h = filter-none (λ k. reaches T (r ∷ ss) (k ∷ []) n) (led_to T s ms) (λ k _. reaches_none (r ∷ ss) (k ∷ []) h)

  module _ (L : Lets) where
    -- what is left of the chains where no node stands at a step
    pub chains_none : (s : TypedPatternStepTree) (ss : List TypedPatternStepTree) (ms alive : List ℕ) → standing T s ss ms n ≡ [] →
        chains T L n (s ∷ ss) ms alive ≡ chains T L n ss [] []
    chains_none s ss ms alive is =
        ap (λ ks. bind (survivors T L s n ks) (λ left. chains T L n ss ks (filter (λ k. list_any (λ m. leads T s m k) alive) left))) is
        ∙ bind-done [] (λ left. chains T L n ss [] (filter (λ k. list_any (λ m. leads T s m k) alive) left))

    pub chains_elsewhere : (ss : List TypedPatternStepTree) (ms alive : List ℕ) → ends_elsewhere T ss n ≡ true → chains T L n ss ms alive ≡ done false
    chains_elsewhere [] ms alive h = absurd (true≢false (sym h))
    chains_elsewhere (s ∷ []) ms alive h = chains_none s [] ms alive (standing_last s ms h)
    chains_elsewhere (s ∷ r ∷ ss) ms alive h = chains_none s (r ∷ ss) ms alive (standing_before s r ss ms h) ∙ chains_elsewhere (r ∷ ss) [] [] h

    -- nor is anything tested where no node stands before a step
    pub chains_nowhere : (ss : List TypedPatternStepTree) → chains T L n ss [] [] ≡ done false
    chains_nowhere [] = refl
    chains_nowhere (s ∷ ss) =
        chains_none s ss [] [] (ap (filter (λ k. reaches T ss (k ∷ []) n)) (filter-none (λ k. list_any (λ m. leads T s m k) []) (order T) (λ k _. refl)))
        ∙ chains_nowhere ss

    pub chains-empty : (later : List TypedPatternStep) (step : TypedPatternStep) (rest : List TypedPatternStep) (ms nodes alive : List ℕ) →
        later ≡ step ∷ rest → nodes ≡ standing T (pattern_step_seen step) (map pattern_step_seen rest) ms n → nodes ≡ [] →
        chains T L n (map pattern_step_seen later) ms alive ≡ done false
    chains-empty later step rest ms nodes alive is stand none =
        ap (λ ys. chains T L n (map pattern_step_seen ys) ms alive) is
        ∙ chains_none (pattern_step_seen step) (map pattern_step_seen rest) ms alive (sym stand ∙ none)
        ∙ chains_nowhere (map pattern_step_seen rest)

-- the first step of a path, by the lists that the program has
pub chains-begin : (T : Table) (L : Lets) (n : ℕ) (p : TypedPath) (later : List TypedPatternStep) (first : List ℕ) →
    later ≡ p.steps.items → first ≡ starts T p.from_root n → path_matches T L n (path_seen p) ≡ chains T L n (map pattern_step_seen later) first first
chains-begin T L n p later first steps begins =
    ap (λ ss. chains T L n (map pattern_step_seen ss) (starts T p.from_root n) (starts T p.from_root n)) (sym steps)
    ∙ ap (λ ms. chains T L n (map pattern_step_seen later) ms ms) (sym begins)

-- the next step of a path, by the nodes that the program has
pub chains-next : (T : Table) (L : Lets) (n : ℕ) (later : List TypedPatternStep) (step : TypedPatternStep) (rest : List TypedPatternStep) (ms nodes tested alive : List ℕ) →
    later ≡ step ∷ rest → nodes ≡ standing T (pattern_step_seen step) (map pattern_step_seen rest) ms n → tested ≡ nodes →
    chains T L n (map pattern_step_seen later) ms alive ≡ bind (survivors T L (pattern_step_seen step) n tested) (λ ks.
    chains T L n (map pattern_step_seen rest) nodes (filter (λ k. list_any (λ m. leads T (pattern_step_seen step) m k) alive) ks))
chains-next T L n later step rest ms nodes tested alive is stand slice =
    ap (λ ys. chains T L n (map pattern_step_seen ys) ms alive) is
    ∙ ap (λ l. bind (survivors T L (pattern_step_seen step) n l) (λ ks. chains T L n (map pattern_step_seen rest) l (filter (λ k. list_any (λ m. leads T (pattern_step_seen step) m k) alive) ks)))
    (sym stand)
    ∙ ap (λ l. bind (survivors T L (pattern_step_seen step) n l) (λ ks. chains T L n (map pattern_step_seen rest) nodes (filter (λ k. list_any (λ m. leads T (pattern_step_seen step) m k) alive) ks)))
    (sym slice)

-- the nodes to which a chain of survivors leads, by the lists that the program has
pub alive-next : (T : Table) (s : TypedPatternStepTree) (alive given left tested now : List ℕ) → given ≡ alive → tested ≡ left →
    now ≡ filter (λ k. list_any (λ m. leads T s m k) given) tested → filter (λ k. list_any (λ m. leads T s m k) alive) left ≡ now
alive-next T s alive given left tested now same slice is =
    ap (λ ms. filter (λ k. list_any (λ m. leads T s m k) ms) left) (sym same) ∙ ap (filter (λ k. list_any (λ m. leads T s m k) given)) (sym slice) ∙ sym is

-- a pattern's next step, and those after it
pub typed-next : (later : List TypedPatternStep) (step : TypedPatternStep) (rest : List TypedPatternStep) → later ≡ step ∷ rest → PatternStepsTyped (map pattern_step_seen later) →
    PatternStepsTyped (pattern_step_seen step ∷ map pattern_step_seen rest)
typed-next later step rest is typed = subst (λ ys. PatternStepsTyped (map pattern_step_seen ys)) is typed

-- a path ends where its last step does
pub ends-last : (T : Table) (n : ℕ) (front : List TypedPatternStep) (last : TypedPatternStep) →
    ends_elsewhere T (map pattern_step_seen (front ++ last ∷ [])) n ≡ not (passes T (pattern_step_seen last).axis (pattern_step_seen last).test n)
ends-last T n [] last = refl
ends-last T n (x ∷ []) last = refl
ends-last T n (x ∷ y ∷ front) last = ends-last T n (y ∷ front) last

module _ (T : Table) (L : Lets) (n : ℕ) where
  -- the next path pattern, after others of which some match or none
  pub paths-next : (paths : List TypedPath) (i : ℕ) (path : TypedPath) (matched : Bool) → i < length paths → path ≡ get_or paths i path →
      bind (some_path T L n (paths_seen (drop i paths))) (λ later. done (matched || later))
      ≡ bind (path_matches T L n (path_seen path)) (λ here. bind (some_path T L n (paths_seen (drop (i + 1) paths))) (λ later. done ((matched || here) || later)))
  paths-next paths i path matched below is =
      ap (λ ps. bind (some_path T L n (paths_seen ps)) (λ later. done (matched || later))) (next_item paths i path below is)
      ∙ bind_assoc (path_matches T L n (path_seen path)) (λ here. bind (some_path T L n (paths_seen (drop (i + 1) paths))) (λ later. done (here || later))) (λ later. done (matched || later))
      ∙ bind_alike (path_matches T L n (path_seen path)) _ _ (λ here.
      bind_assoc (some_path T L n (paths_seen (drop (i + 1) paths))) (λ later. done (here || later)) (λ later. done (matched || later))
      ∙ bind_alike (some_path T L n (paths_seen (drop (i + 1) paths))) _ _ (λ later.
      bind-done (here || later) (λ c. done (matched || c)) ∙ ap done (or-left matched here later)))

  pub paths-end : (paths : List TypedPath) (i : ℕ) (matched : Bool) → length paths ≤ i →
      bind (some_path T L n (paths_seen (drop i paths))) (λ later. done (matched || later)) ≡ done matched
  paths-end paths i matched past =
      ap (λ ps. bind (some_path T L n (paths_seen ps)) (λ later. done (matched || later))) (no_item paths i past)
      ∙ bind-done false (λ later. done (matched || later)) ∙ ap done (or-false matched)

-- a pattern's path patterns, by the slice that the program has
pub paths_typed : (seen paths : List TypedPathTree) → seen ≡ paths → PathsTyped paths → PathsTyped seen
paths_typed seen paths is typed = subst PathsTyped (sym is) typed

pub names_matched : (T : Table) (L : Lets) (n : ℕ) (paths : List TypedPathTree) {r : Result Bool (Stop EvalFault)}
    {held now : Recorded} {before ticked after : ℕ} → ticked ≡ before + 1 →
    Ran (all_reading (pattern_names T n paths) (some_path T L n paths)) r held now ticked after → Ran (matching T L paths n) r held now before after
names_matched T L n paths tick ran = ran_ticked tick ran

-- the path pattern of a pattern at a place
pub path_there : (ps : List TypedPathTree) (paths : List TypedPath) (i : ℕ) (path : TypedPath) → paths_seen paths ≡ ps → i < length paths → path ≡ get_or paths i path →
    slice_get ps i ≡ Some (path_seen path)
path_there ps paths i path seen below is =
    ap (λ qs. slice_get qs i) (sym seen) ∙ slice_get-map path_seen paths i ∙ ap (option_map path_seen) (slice_get_read paths (length paths) i path refl below is)
