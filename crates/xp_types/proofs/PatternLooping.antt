-- What the loops over a pattern keep: whoever types the rest has typed the whole.
use Rattle.std.proofs.Common.{◌≡◌, ℕ, ◌+◌, ◌<◌, ◌≤◌, Bool, false, Ok, Err, List, [], ◌∷◌, ◌++◌, length, drop, get_or, map, refl, sym, ap, ◌∙◌, subst}
use Rattle.std.specs.Prelude.{Vec}
use Rattle.std.specs.declared.alloc.Global.{Global}
use Rattle.doc_tree.specs.declared.axes.NodeTest.{NodeTest}
use Rattle.doc_tree.specs.declared.axes.Axis.{Axis}
use Rattle.xp_tree.specs.declared.pattern.PatternStep.{PatternStep}
use Rattle.xp_tree.specs.declared.pattern.PathPattern.{PathPattern}
use Rattle.xp_tree.specs.PatternTree.{StepTree, pattern_step_of, path_pattern_of}
use Rattle.xp_tree.specs.View.{trees_seen}
use Rattle.xp_typed_tree.specs.declared.expr.TypedExpr.{TypedExpr}
use Rattle.xp_typed_tree.specs.declared.pattern.TypedPath.{TypedPath}
use Rattle.xp_typed_tree.specs.declared.pattern.TypedPatternStep.{TypedPatternStep}
use Rattle.xp_typed_tree.specs.TypedTree.{TypedTrees, TypedPatternStepTree, TypedPathTree}
use Rattle.xp_typed_tree.specs.TypedView.{typed_seen, pattern_step_seen, path_seen, paths_seen}
use Rattle.xp_types.specs.declared.faults.CheckError.{CheckError}
use Rattle.xp_types.specs.Scope.{Scope}
use Rattle.xp_types.specs.inner.Checked.{Checked, after, ChecksAs}
use Rattle.xp_types.specs.Terms.{pattern_axis}
use Rattle.xp_types.specs.inner.PatternStep.{pattern_step_typed}
use Rattle.xp_types.specs.inner.Typing.{resolved, all_typed, pattern_start, pattern_steps_typed, pattern_typing}
use Rattle.xp_types.proofs.Giving.{goes, stops, gives-same, after-value}
use Rattle.xp_types.proofs.Looping.{drop-at, drop-end, unjoined, advance}

pub record PatternStepsOnto (S : Scope) (ss : List PatternStep) (i : ℕ) (done : List TypedPatternStep) : Type 0 where
  pub onto : pattern_steps_typed S (map pattern_step_of ss) ≡ after (pattern_steps_typed S (map pattern_step_of (drop i ss))) (λ ts. Ok (map pattern_step_seen done ++ ts))

pub record PathsOnto (S : Scope) (ps : List PathPattern) (i : ℕ) (done : List TypedPath) : Type 0 where
  pub onto : pattern_typing S (map path_pattern_of ps) ≡ after (pattern_typing S (map path_pattern_of (drop i ps))) (λ ts. Ok (paths_seen done ++ ts))

pushed : {A B : Type 0} (g : A → B) (done : List A) (d : A) (x : B) (ts : List B) → g d ≡ x → map g done ++ (x ∷ ts) ≡ map g (done ++ d ∷ []) ++ ts
pushed g [] d x ts is = ap (λ y. y ∷ ts) (sym is)
pushed g (e ∷ es) d x ts is = ap (λ l. g e ∷ l) (pushed g es d x ts is)

-- two checks, and what comes behind them
parted : {A B C D : Type 0} (m : Checked A) (k : Checked B) (f : A → B → C) (more : C → Checked D) →
    after m (λ a. after k (λ b. more (f a b))) ≡ after (after m (λ a. after k (λ b. Ok (f a b)))) more
unfolding after
parted (Ok a) (Ok b) f more = refl
parted (Ok a) (Err e) f more = refl
parted (Err e) k f more = refl

joined-none : {B : Type 0} (xs : List B) → xs ++ [] ≡ xs
joined-none [] = refl
joined-none (x ∷ xs) = ap (λ l. x ∷ l) (joined-none xs)

-- ---- a step

module _ (S : Scope) (s : PatternStep) where
  abbrev made : Axis → NodeTest → TypedTrees → TypedPatternStepTree
  made a n ps = record { join = s.join; axis = a; test = n; predicates = ps }

  abbrev step-left : NodeTest → Checked TypedPatternStepTree
  step-left n = after (all_typed S false (trees_seen s.predicates.items)) (λ ps. Ok (made (pattern_axis s.is_attribute) n ps))

  pub pattern-step-unresolved : (x : CheckError) → ChecksAs (resolved S s.test s.test_offset) (λ (n : NodeTest). n) (Err x) →
      ChecksAs (pattern_step_typed S (pattern_step_of s)) pattern_step_seen (Err x)
  pattern-step-unresolved x g = stops (resolved S s.test s.test_offset) step-left (λ (n : NodeTest). n) pattern_step_seen x g

  pub pattern-step-stop : (n : NodeTest) (x : CheckError) → ChecksAs (resolved S s.test s.test_offset) (λ (n : NodeTest). n) (Ok n) →
      ChecksAs (all_typed S false (trees_seen s.predicates.items)) (λ (v : Vec TypedExpr Global). typed_seen v.items) (Err x) →
      ChecksAs (pattern_step_typed S (pattern_step_of s)) pattern_step_seen (Err x)
  pattern-step-stop n x g k =
      goes (resolved S s.test s.test_offset) step-left (λ (n : NodeTest). n) pattern_step_seen n (Err x) g
      (stops _ _ (λ (v : Vec TypedExpr Global). typed_seen v.items) pattern_step_seen x k)

  pub pattern-step-made : (n : NodeTest) (ps : Vec TypedExpr Global) (a : Axis) (d : TypedPatternStep) → ChecksAs (resolved S s.test s.test_offset) (λ (n : NodeTest). n) (Ok n) →
      ChecksAs (all_typed S false (trees_seen s.predicates.items)) (λ (v : Vec TypedExpr Global). typed_seen v.items) (Ok ps) → a ≡ pattern_axis s.is_attribute →
      pattern_step_seen d ≡ made a n (typed_seen ps.items) → ChecksAs (pattern_step_typed S (pattern_step_of s)) pattern_step_seen (Ok d)
  pattern-step-made n ps a d g k axis seen = record {
    given = after-value (resolved S s.test s.test_offset) step-left n g.given
        ∙ after-value (all_typed S false (trees_seen s.predicates.items)) (λ qs. Ok (made (pattern_axis s.is_attribute) n qs)) (typed_seen ps.items) k.given
        ∙ ap Ok (sym (seen ∙ ap (λ b. made b n (typed_seen ps.items)) axis));
  }

  -- it comes before the others
  pub pattern-step-first : (ss : List StepTree) → pattern_steps_typed S (pattern_step_of s ∷ ss)
      ≡ after (pattern_step_typed S (pattern_step_of s)) (λ t. after (pattern_steps_typed S ss) (λ ts. Ok (t ∷ ts)))
  pattern-step-first ss =
      parted (resolved S s.test s.test_offset) (all_typed S false (trees_seen s.predicates.items)) (made (pattern_axis s.is_attribute))
      (λ t. after (pattern_steps_typed S ss) (λ ts. Ok (t ∷ ts)))

-- ---- steps

module _ (S : Scope) (ss : List PatternStep) where
  pub pattern-steps-begin : (done : List TypedPatternStep) → done ≡ [] → PatternStepsOnto S ss 0 done
  pattern-steps-begin done none = subst (PatternStepsOnto S ss 0) (sym none) (record { onto = unjoined (pattern_steps_typed S (map pattern_step_of ss)) })

  pub pattern-steps-end : (i : ℕ) (v : Vec TypedPatternStep Global) → length ss ≤ i → PatternStepsOnto S ss i v.items →
      ChecksAs (pattern_steps_typed S (map pattern_step_of ss)) (λ (w : Vec TypedPatternStep Global). map pattern_step_seen w.items) (Ok v)
  pattern-steps-end i v ge so = record {
    given = so.onto ∙ ap (λ r. after (pattern_steps_typed S (map pattern_step_of r)) (λ ts. Ok (map pattern_step_seen v.items ++ ts))) (drop-end ss i ge)
        ∙ after-value (Ok []) (λ ts. Ok (map pattern_step_seen v.items ++ ts)) [] refl ∙ ap Ok (joined-none (map pattern_step_seen v.items));
  }

  module _ (i : ℕ) (done : List TypedPatternStep) (s : PatternStep) (lt : i < length ss) (is : s ≡ get_or ss i s) (so : PatternStepsOnto S ss i done) where
    next : pattern_steps_typed S (map pattern_step_of ss)
        ≡ after (after (pattern_step_typed S (pattern_step_of s)) (λ t. after (pattern_steps_typed S (map pattern_step_of (drop (i + 1) ss))) (λ rest. Ok (t ∷ rest)))) (λ ts. Ok (map pattern_step_seen done ++ ts))
    next = so.onto ∙ ap (λ r. after (pattern_steps_typed S (map pattern_step_of r)) (λ ts. Ok (map pattern_step_seen done ++ ts))) (drop-at ss i s lt is)
        ∙ ap (λ m. after m (λ ts. Ok (map pattern_step_seen done ++ ts))) (pattern-step-first S s (map pattern_step_of (drop (i + 1) ss)))

    pub pattern-steps-stop : (x : CheckError) → ChecksAs (pattern_step_typed S (pattern_step_of s)) pattern_step_seen (Err x) →
        ChecksAs (pattern_steps_typed S (map pattern_step_of ss)) (λ (w : Vec TypedPatternStep Global). map pattern_step_seen w.items) (Err x)
    pattern-steps-stop x g = gives-same next (stops _ _ (λ (u : List TypedPatternStepTree). u) _ x (stops _ _ pattern_step_seen (λ (u : List TypedPatternStepTree). u) x g))

    pub pattern-steps-go : (all : List TypedPatternStep) (d : TypedPatternStep) → ChecksAs (pattern_step_typed S (pattern_step_of s)) pattern_step_seen (Ok d) →
        all ≡ done ++ d ∷ [] → PatternStepsOnto S ss (i + 1) all
    pattern-steps-go all d g grown = subst (PatternStepsOnto S ss (i + 1)) (sym grown) (record {
      onto = advance (pattern_steps_typed S (map pattern_step_of ss)) (pattern_step_typed S (pattern_step_of s)) (pattern_steps_typed S (map pattern_step_of (drop (i + 1) ss))) (λ t rest. t ∷ rest)
          (λ ts. map pattern_step_seen done ++ ts) (λ ts. map pattern_step_seen (done ++ d ∷ []) ++ ts) (pattern_step_seen d) g.given
          (λ ts. pushed pattern_step_seen done d (pattern_step_seen d) ts refl) next;
    })

-- ---- path patterns

module _ (S : Scope) (ps : List PathPattern) where
  pub paths-begin : (done : List TypedPath) → done ≡ [] → PathsOnto S ps 0 done
  paths-begin done none = subst (PathsOnto S ps 0) (sym none) (record { onto = unjoined (pattern_typing S (map path_pattern_of ps)) })

  pub paths-end : (i : ℕ) (v : Vec TypedPath Global) → length ps ≤ i → PathsOnto S ps i v.items → ChecksAs (pattern_typing S (map path_pattern_of ps)) (λ (w : Vec TypedPath Global). paths_seen w.items) (Ok v)
  paths-end i v ge so = record {
    given = so.onto ∙ ap (λ r. after (pattern_typing S (map path_pattern_of r)) (λ ts. Ok (paths_seen v.items ++ ts))) (drop-end ps i ge)
        ∙ after-value (Ok []) (λ ts. Ok (paths_seen v.items ++ ts)) [] refl ∙ ap Ok (joined-none (paths_seen v.items));
  }

  module _ (i : ℕ) (done : List TypedPath) (p : PathPattern) (lt : i < length ps) (is : p ≡ get_or ps i p) (so : PathsOnto S ps i done) where
    path-next : pattern_typing S (map path_pattern_of ps) ≡ after (pattern_typing S (path_pattern_of p ∷ map path_pattern_of (drop (i + 1) ps))) (λ ts. Ok (paths_seen done ++ ts))
    path-next = so.onto ∙ ap (λ r. after (pattern_typing S (map path_pattern_of r)) (λ ts. Ok (paths_seen done ++ ts))) (drop-at ps i p lt is)

    abbrev path-made : Bool → List TypedPatternStepTree → TypedPathTree
    path-made b steps = record { from_root = b; steps = steps }

    abbrev path-left : Bool → Checked (List TypedPathTree)
    path-left b = after (pattern_steps_typed S (map pattern_step_of p.steps.items)) (λ steps. after (pattern_typing S (map path_pattern_of (drop (i + 1) ps))) (λ rest. Ok (path-made b steps ∷ rest)))

    begun : (b : Bool) → ChecksAs (pattern_start p.start p.offset) (λ (x : Bool). x) (Ok b) → pattern_typing S (map path_pattern_of ps) ≡ after (path-left b) (λ ts. Ok (paths_seen done ++ ts))
    begun b g = path-next ∙ ap (λ m. after m (λ ts. Ok (paths_seen done ++ ts))) (after-value (pattern_start p.start p.offset) path-left b g.given)

    pub paths-refuse : (x : CheckError) → ChecksAs (pattern_start p.start p.offset) (λ (b : Bool). b) (Err x) → ChecksAs (pattern_typing S (map path_pattern_of ps)) (λ (w : Vec TypedPath Global). paths_seen w.items) (Err x)
    paths-refuse x g = gives-same path-next (stops _ _ (λ (u : List TypedPathTree). u) _ x (stops _ _ (λ (b : Bool). b) (λ (u : List TypedPathTree). u) x g))

    pub paths-stop : (b : Bool) (x : CheckError) → ChecksAs (pattern_start p.start p.offset) (λ (b : Bool). b) (Ok b) →
        ChecksAs (pattern_steps_typed S (map pattern_step_of p.steps.items)) (λ (w : Vec TypedPatternStep Global). map pattern_step_seen w.items) (Err x) → ChecksAs (pattern_typing S (map path_pattern_of ps)) (λ (w : Vec TypedPath Global). paths_seen w.items) (Err x)
    paths-stop b x g k = gives-same (begun b g) (stops _ _ (λ (u : List TypedPathTree). u) _ x (stops _ _ (λ (w : Vec TypedPatternStep Global). map pattern_step_seen w.items) (λ (u : List TypedPathTree). u) x k))

    pub paths-go : (all : List TypedPath) (b : Bool) (v : Vec TypedPatternStep Global) (d : TypedPath) → ChecksAs (pattern_start p.start p.offset) (λ (b : Bool). b) (Ok b) →
        ChecksAs (pattern_steps_typed S (map pattern_step_of p.steps.items)) (λ (w : Vec TypedPatternStep Global). map pattern_step_seen w.items) (Ok v) → d ≡ record { from_root = b; steps = v } → all ≡ done ++ d ∷ [] → PathsOnto S ps (i + 1) all
    paths-go all b v d g k seen grown = subst (PathsOnto S ps (i + 1)) (sym grown) (record {
      onto = advance (pattern_typing S (map path_pattern_of ps)) (pattern_steps_typed S (map pattern_step_of p.steps.items)) (pattern_typing S (map path_pattern_of (drop (i + 1) ps))) (λ steps rest. path-made b steps ∷ rest)
          (λ ts. paths_seen done ++ ts) (λ ts. paths_seen (done ++ d ∷ []) ++ ts) (map pattern_step_seen v.items) k.given
          (λ ts. pushed path_seen done d (path-made b (map pattern_step_seen v.items)) ts (ap path_seen seen)) (begun b g);
    })
