-- Two derivations of one form from the same place, neither of which can go on, are of the same tokens and one tree.
use Rattle.std.proofs.Common.{◌≡◌, ℕ, ◌<◌, ◌⊎◌, Bool, false, List, [], ◌∷◌, Option, None, Some, refl, sym, ◌∙◌, ap, subst, inl, inr, arith}
use Rattle.xp_tree.specs.declared.terms.AxisName.{AxisName}
use Rattle.xp_tree.specs.declared.terms.Operator.TheVariants as operator
use Rattle.xp_tree.specs.declared.terms.StepTest.{StepTest}
use Rattle.xp_tree.specs.declared.pattern.Join.{Join}
use Rattle.xp_tree.specs.declared.pattern.Join.TheVariants as join
use Rattle.xp_tree.specs.declared.pattern.PatternStart.{PatternStart}
use Rattle.xp_tree.specs.declared.pattern.PatternStart.TheVariants as start
use Rattle.xp_tree.specs.Tree.{Trees}
use Rattle.xp_tree.specs.PatternTree.{StepTree, PathTree}
use Rattle.xp_grammar.specs.declared.token.Placed.{Placed}
use Rattle.xp_grammar.specs.declared.token.Token.{Token}
use Rattle.xp_grammar.specs.declared.token.Token.TheVariants as token
use Rattle.xp_grammar.specs.Parts.{offset_at}
use Rattle.xp_grammar_laws.proofs.TokenKinds.{StepKind, tested_kind, Kind, step_kind, primary_kind, slash_kind, double_slash_kind, kind_of, head_kind, rest_of, Follows, NoBracket, at_token, looser, no_bracket}
use Rattle.xp_grammar_laws.proofs.NodeTests.{one_axis, one_test, tested_heads}
use Rattle.xp_grammar_laws.proofs.Alike.{moved_predicates, moved_test}
use Rattle.xp_grammar_laws.proofs.Unique.{Same, one_predicates}
use Rattle.xp_grammar.specs.PatternGrammar.{pattern_axis, step_tree, path_tree, IsStepPattern, step_pattern, IsRelative, relative, IsMoreSteps, no_more_steps, slash_steps, double_slash_steps, IsIdKey, by_id, by_key, IsPathPattern, root_alone, from_root, from_anywhere, from_here, from_id_key, IsPattern, pattern, IsMorePaths, no_more_paths, more_paths}

-- the same from an equal place
moved_more : {limit : ℕ} {m s v : List Placed} {f : List StepTree} → m ≡ s → IsMoreSteps limit m v f → IsMoreSteps limit s v f
moved_more {limit} {v = v} {f = f} is E = subst (λ z. IsMoreSteps limit z v f) is E

moved_paths : {limit : ℕ} {m s v : List Placed} {f : List PathTree} → m ≡ s → IsMorePaths limit m v f → IsMorePaths limit s v f
moved_paths {limit} {v = v} {f = f} is E = subst (λ z. IsMorePaths limit z v f) is E

abbrev axis_given : Option Bool → Bool
axis_given None = false
axis_given (Some b) = b

same_axis : {a b : AxisName} {x y : Bool} → a ≡ b → pattern_axis a ≡ Some x → pattern_axis b ≡ Some y → x ≡ y
same_axis names is also = ap axis_given (sym is ∙ ap pattern_axis names ∙ also)

same_step : (j : Join) (s : List Placed) {t u : List Placed} {x y : Bool} {k l : StepTest} {ps qs : Trees} →
    t ≡ u → x ≡ y → k ≡ l → ps ≡ qs →
    step_tree j (offset_at s) x k (offset_at t) ps ≡ step_tree j (offset_at s) y l (offset_at u) qs
same_step j s {t} {u} {x} {y} {k} {l} {ps} {qs} starts axes tests predicates =
    ap (λ z. step_tree j (offset_at s) x k (offset_at z) ps) starts
    ∙ ap (λ z. step_tree j (offset_at s) z k (offset_at u) ps) axes
    ∙ ap (λ z. step_tree j (offset_at s) y z (offset_at u) ps) tests
    ∙ ap (step_tree j (offset_at s) y l (offset_at u)) predicates

same_list : {A : Type 0} {e f : A} {es fs : List A} → e ≡ f → es ≡ fs → e ∷ es ≡ f ∷ fs
same_list {e = e} {f = f} {es = es} firsts rests = ap (λ x. x ∷ es) firsts ∙ ap (λ xs. f ∷ xs) rests

one_step : (limit higher : ℕ) {j : Join} {s u v : List Placed} {e f : StepTree} →
    IsStepPattern limit j s u e → IsStepPattern higher j s v f →
    NoBracket (head_kind u) → NoBracket (head_kind v) → Same u v e f
one_step limit higher (step_pattern j s t w u a x k ps A is T P) (step_pattern _ _ m y v b z l qs B also U Q) hu hv =
    let (starts, names) = one_axis A T B U in
    let (passed, tests) = one_test T (moved_test (sym starts) U) in
    let (over, predicates) = one_predicates limit higher P (moved_predicates (sym passed) Q) hu hv in
    (over, same_step j s starts (same_axis names is also) tests predicates)

-- predicates end before more steps
more_follow : {limit : ℕ} {m u : List Placed} {ss : List StepTree} → IsMoreSteps limit m u ss → Follows 7 (head_kind u) →
    NoBracket (head_kind m)
more_follow (no_more_steps s) h = no_bracket 7 (head_kind s) h
more_follow (slash_steps p s u ss is D) h = at_token NoBracket (sym is) tt
more_follow (double_slash_steps p s u ss is D) h = at_token NoBracket (sym is) tt

mutual
  one_relative : (limit higher : ℕ) {j : Join} {s u v : List Placed} {e f : List StepTree} →
      IsRelative limit j s u e → IsRelative higher j s v f →
      Follows 7 (head_kind u) → Follows 7 (head_kind v) → Same u v e f
  one_relative limit higher (relative j s m u it rest D M) (relative _ _ k v other others E N) hu hv =
      let (ends, same) = one_step limit higher D E (more_follow M hu) (more_follow N hv) in
      let (over, rests) = one_more limit higher M (moved_more (sym ends) N) hu hv in
      (over, same_list same rests)

  one_more : (limit higher : ℕ) {s u v : List Placed} {e f : List StepTree} →
      IsMoreSteps limit s u e → IsMoreSteps higher s v f →
      Follows 7 (head_kind u) → Follows 7 (head_kind v) → Same u v e f
  one_more limit higher (no_more_steps s) (no_more_steps _) hu hv = (refl, refl)
  one_more limit higher (no_more_steps _) (slash_steps p s v ss is E) hu hv = absurd (at_token (Follows 7) is hu)
  one_more limit higher (no_more_steps _) (double_slash_steps p s v ss is E) hu hv = absurd (at_token (Follows 7) is hu)
  one_more limit higher (slash_steps p s u ss is D) (no_more_steps _) hu hv = absurd (at_token (Follows 7) is hv)
  one_more limit higher (slash_steps p s u ss is D) (slash_steps _ _ v ts also E) hu hv = one_relative limit higher D E hu hv
  one_more limit higher (slash_steps p s u ss is D) (double_slash_steps _ _ v ts also E) hu hv =
      let bad : token.Slash ≡ token.DoubleSlash = sym is ∙ also in absurd (cc)
  one_more limit higher (double_slash_steps p s u ss is D) (no_more_steps _) hu hv = absurd (at_token (Follows 7) is hv)
  one_more limit higher (double_slash_steps p s u ss is D) (slash_steps _ _ v ts also E) hu hv =
      let bad : token.Slash ≡ token.DoubleSlash = sym also ∙ is in absurd (cc)
  one_more limit higher (double_slash_steps p s u ss is D) (double_slash_steps _ _ v ts also E) hu hv =
      one_relative limit higher D E hu hv

abbrev literal_given : Token → List ℕ
literal_given (token.Literal value) = value
literal_given _ = []

same_literal : (p : Placed) (x y : List ℕ) → p.token ≡ token.Literal x → p.token ≡ token.Literal y → x ≡ y
same_literal p x y is also = ap literal_given (sym is ∙ also)

one_id_key : {limit higher : ℕ} {s u v : List Placed} {e f : PatternStart} → IsIdKey limit s u e → IsIdKey higher s v f → Same u v e f
one_id_key (by_id p q l r s value is opens fits literal closes) (by_id _ _ _ _ _ other also opens2 room given ends) =
    (refl, ap start.Id (same_literal l value other literal given))
one_id_key (by_id p q l r _ value is opens fits literal closes) (by_key _ _ _ _ n m s name other also opens2 room given comma value_given ends) =
    let bad : token.CloseParen ≡ token.Comma = sym closes ∙ comma in absurd (cc)
one_id_key (by_key p q n c l r s name value is opens fits named comma literal closes) (by_id _ _ _ _ _ other also opens2 room given ends) =
    let bad : token.CloseParen ≡ token.Comma = sym ends ∙ comma in absurd (cc)
one_id_key (by_key p q n c l r s name value is opens fits named comma literal closes) (by_key _ _ _ _ _ _ _ other second also opens2 room given comma2 value_given ends) = (
  refl,
  ap (λ x. start.Key x value) (same_literal n name other named given)
      ∙ ap (start.Key other) (same_literal l value second literal value_given),
)

id_key_heads : {limit : ℕ} {s u : List Placed} {e : PatternStart} → IsIdKey limit s u e → head_kind s ≡ primary_kind
id_key_heads (by_id p q l r s value is opens fits literal closes) = ap kind_of is
id_key_heads (by_key p q n c l r s name value is opens fits named comma literal closes) = ap kind_of is

relative_heads : {limit : ℕ} {j : Join} {s u : List Placed} {e : List StepTree} → IsRelative limit j s u e →
    (k : StepKind) × (head_kind s ≡ step_kind k)
relative_heads (relative j s m u it rest (step_pattern _ _ t w _ a x k ps A is T P) M) =
    let (y, heads) = tested_heads A T in (tested_kind y, heads)

no_relative_follows : {limit : ℕ} {j : Join} {s u : List Placed} {e : List StepTree} → IsRelative limit j s u e →
    Follows 7 (head_kind s) → ⊥
no_relative_follows D h = let (k, is) = relative_heads D in subst (Follows 7) is h

-- a path pattern from a place: its steps after a join
abbrev FromAs : ℕ → PatternStart → Join → ℕ → List Placed → List Placed → PathTree → Type 0
FromAs limit begins j offset s v f =
    (ss : List StepTree) × IsRelative limit j s v ss × (path_tree offset begins ss ≡ f)

abbrev RootAs : ℕ → ℕ → List Placed → List Placed → PathTree → Type 0
RootAs limit offset s v f = ((s ≡ v) × (path_tree offset start.Root [] ≡ f)) ⊎ FromAs limit start.Root join.Slash offset s v f

-- `id(..)` or `key(..)`, with the steps after it
abbrev IdKeyAs : ℕ → List Placed → List Placed → PathTree → Type 0
IdKeyAs limit s v f =
    (m : List Placed) × (begins : PatternStart) × (ss : List StepTree) × IsIdKey limit s m begins × IsMoreSteps limit m v ss
    × (path_tree (offset_at s) begins ss ≡ f)

abbrev PathAs : ℕ → List Placed → List Placed → PathTree → Kind → Type 0
PathAs limit s v f (step_kind k) = FromAs limit start.Here join.Nothing (offset_at s) s v f
PathAs limit s v f primary_kind = IdKeyAs limit s v f
PathAs limit s v f slash_kind = RootAs limit (offset_at s) (rest_of s) v f
PathAs limit s v f double_slash_kind = FromAs limit start.Root join.DoubleSlash (offset_at s) (rest_of s) v f
PathAs limit s v f _ = ⊥

path_as : {limit : ℕ} {s v : List Placed} {f : PathTree} → IsPathPattern limit s v f → PathAs limit s v f (head_kind s)
path_as {limit} (root_alone p s is) =
    at_token (PathAs limit (p ∷ s) s (path_tree p.offset start.Root [])) (sym is) (inl (refl, refl))
path_as {limit} (from_root p s v ss is D) =
    at_token (PathAs limit (p ∷ s) v (path_tree p.offset start.Root ss)) (sym is) (inr (ss, D, refl))
path_as {limit} (from_anywhere p s v ss is D) =
    at_token (PathAs limit (p ∷ s) v (path_tree p.offset start.Root ss)) (sym is) (ss, D, refl)
path_as {limit} (from_here s v ss D) =
    let (k, is) = relative_heads D in subst (PathAs limit s v (path_tree (offset_at s) start.Here ss)) (sym is) (ss, D, refl)
path_as {limit} (from_id_key s m v begins ss D M) =
    subst (PathAs limit s v (path_tree (offset_at s) begins ss)) (sym (id_key_heads D)) (m, begins, ss, D, M, refl)

one_path : (limit higher : ℕ) {s u v : List Placed} {e f : PathTree} → IsPathPattern limit s u e → IsPathPattern higher s v f →
    Follows 7 (head_kind u) → Follows 7 (head_kind v) → Same u v e f
one_path limit higher {v = v} {f = f} (root_alone p s is) E hu hv =
    elim (at_token (PathAs higher (p ∷ s) v f) is (path_as E)) [
      | inl alone ↦ alone
      | inr steps ↦ absurd (no_relative_follows steps.1 hu)
    ]
one_path limit higher {v = v} {f = f} (from_root p s u ss is D) E hu hv =
    elim (at_token (PathAs higher (p ∷ s) v f) is (path_as E)) [
      | inl alone ↦ absurd (no_relative_follows D (subst (λ z. Follows 7 (head_kind z)) (sym alone.0) hv))
      | inr steps ↦
          let (over, same) = one_relative limit higher D steps.1 hu hv in
          (over, ap (path_tree p.offset start.Root) same ∙ steps.2)
    ]
one_path limit higher {v = v} {f = f} (from_anywhere p s u ss is D) E hu hv =
    let (ts, F, also) = at_token (PathAs higher (p ∷ s) v f) is (path_as E) in
    let (over, same) = one_relative limit higher D F hu hv in
    (over, ap (path_tree p.offset start.Root) same ∙ also)
one_path limit higher {v = v} {f = f} (from_here s u ss D) E hu hv =
    let (k, is) = relative_heads D in
    let (ts, F, also) = subst (PathAs higher s v f) is (path_as E) in
    let (over, same) = one_relative limit higher D F hu hv in
    (over, ap (path_tree (offset_at s) start.Here) same ∙ also)
one_path limit higher {v = v} {f = f} (from_id_key s m u begins ss D M) E hu hv =
    let (k, starts, ts, F, N, also) = subst (PathAs higher s v f) (id_key_heads D) (path_as E) in
    let (ends, same) = one_id_key D F in
    let (over, rests) = one_more limit higher M (moved_more (sym ends) N) hu hv in
    (over, ap (λ x. path_tree (offset_at s) x ss) same ∙ ap (path_tree (offset_at s) starts) rests ∙ also)

-- a path pattern ends before `|`
paths_follow : {limit : ℕ} {m u : List Placed} {ps : List PathTree} → IsMorePaths limit m u ps → Follows 6 (head_kind u) →
    Follows 7 (head_kind m)
paths_follow (no_more_paths s) h = looser 6 7 (head_kind s) (omega arith) h
paths_follow (more_paths p s u ps is D) h = let low : 6 < 7 = omega arith in at_token (Follows 7) (sym is) low

no_union : (p : Placed) → Follows 6 (kind_of p.token) → p.token ≡ token.Operator operator.Union → ⊥
no_union p h is = let low : 6 < 6 = at_token (Follows 6) is h in omega (arith, low)

mutual
  pub one_list : (limit higher : ℕ) {s u v : List Placed} {e f : List PathTree} →
      IsPattern limit s u e → IsPattern higher s v f →
      Follows 6 (head_kind u) → Follows 6 (head_kind v) → Same u v e f
  one_list limit higher (pattern s m u first rest D T) (pattern _ k v second others E F) hu hv =
      let (ends, same) = one_path limit higher D E (paths_follow T hu) (paths_follow F hv) in
      let (over, rests) = one_more_paths limit higher T (moved_paths (sym ends) F) hu hv in
      (over, same_list same rests)

  one_more_paths : (limit higher : ℕ) {s u v : List Placed} {e f : List PathTree} →
      IsMorePaths limit s u e → IsMorePaths higher s v f →
      Follows 6 (head_kind u) → Follows 6 (head_kind v) → Same u v e f
  one_more_paths limit higher (no_more_paths s) (no_more_paths _) hu hv = (refl, refl)
  one_more_paths limit higher (no_more_paths _) (more_paths p s v ps is E) hu hv = absurd (no_union p hu is)
  one_more_paths limit higher (more_paths p s u ps is D) (no_more_paths _) hu hv = absurd (no_union p hv is)
  one_more_paths limit higher (more_paths p s u ps is D) (more_paths _ _ v qs also E) hu hv = one_list limit higher D E hu hv
