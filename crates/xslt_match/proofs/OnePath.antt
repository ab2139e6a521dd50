-- A pattern of one path, and a path of one step.
use Rattle.std.proofs.Common.{◌≡◌, ℕ, ◌+◌, ◌-◌, ◌<◌, ◌≤◌, drop, Bool, true, false, cond, ◌||◌, ◌&&◌, List, [], ◌∷◌, length, get_or, map, refl, sym, ap, ap₂, ◌∙◌, append-nil, arith, true≢false}
use Rattle.std.specs.Prelude.{◌==◌, bytes_eq}
use Rattle.doc_tree.specs.declared.axes.Axis.{Axis}
use Rattle.doc_tree.specs.declared.axes.NodeTest.{NodeTest}
use Rattle.doc_tree.specs.declared.axes.NodeTest.TheVariants.{Any, Star, InNamespace, Named, Text, Comment, Pi, PiNamed}
use Rattle.doc_tree.specs.Table.{Table, kind_of, name_of}
use Rattle.doc_axes.specs.NodeTests.{is_principal, named, passes}
use Rattle.xp_typed_tree.specs.declared.pattern.TypedPath.{TypedPath}
use Rattle.xp_typed_tree.specs.TypedTree.{TypedPatternStepTree, TypedPathTree}
use Rattle.xp_typed_tree.specs.TypedView.{path_seen, paths_seen}
use Rattle.xp_outcome.specs.Cells.{names_on}
use Rattle.xp_outcome.specs.Evaluation.{done, bind, all_reading, cell}
use Rattle.xp_outcome.proofs.Outcomes.{bind_alike, bind-done, bind-right}
use Rattle.xp_outcome.proofs.Runs.{next_item, no_item}
use Rattle.xp_meaning.specs.Evaluation.{Lets}
use Rattle.xp_meaning.specs.Reads.{is_by_name}
use Rattle.xslt_match.specs.Matching.{path_matches, some_path}
use Rattle.xslt_match.specs.Names.{pattern_names, step_names}
use Rattle.xslt_match.proofs.Filters.{or-false}

-- a list of one item
pub one_item : {X : Type 0} (xs : List X) (x : X) → length xs ≡ 1 → x ≡ get_or xs 0 x → xs ≡ x ∷ []
one_item xs x one is = next_item xs 0 x (omega (arith, one)) is ∙ ap (λ ys. x ∷ ys) (no_item xs 1 (omega (arith, one)))

-- the item before some that are left, and they
pub item_before : {X : Type 0} (xs : List X) (left : ℕ) (x : X) → left ≤ length xs → 0 < left → x ≡ get_or xs (left - 1) x → drop (left - 1) xs ≡ x ∷ drop left xs
item_before xs left x within some is =
    let back : left - 1 + 1 ≡ left = omega (arith, some) in
    next_item xs (left - 1) x (omega (arith, within, some)) is ∙ ap (λ (i : ℕ). x ∷ drop i xs) back

-- no steps are behind one where their number is 0
pub none_behind : {X : Type 0} (xs : List X) → (length xs == 0) ≡ true → xs ≡ []
none_behind [] h = refl
none_behind (x ∷ xs) h = absurd (grind arith)

module _ (T : Table) (n : ℕ) where
  -- the last step of a path stands at the node itself
  pub names_alone : (s : TypedPatternStepTree) → is_by_name s.test ≡ true → step_names T n (s ∷ []) ≡ map cell (names_on T s.axis (n ∷ []))
  names_alone s by_name = ap (λ (b : Bool). cond b (map cell (names_on T s.axis (n ∷ []))) []) by_name

  -- a test that looks at names refuses a node of another kind
  pub not_principal : (axis : Axis) (node_test : NodeTest) → is_by_name node_test ≡ true → is_principal axis (kind_of T n) ≡ false → passes T axis node_test n ≡ false
  not_principal axis (InNamespace uri) by_name other = ap (λ b. b && named (name_of T n) (λ name. bytes_eq name.uri uri)) other
  not_principal axis (Named uri local) by_name other =
      ap (λ b. b && named (name_of T n) (λ name. bytes_eq name.uri uri && bytes_eq name.local local)) other
  not_principal axis Any by_name other = absurd (true≢false (sym by_name))
  not_principal axis Star by_name other = absurd (true≢false (sym by_name))
  not_principal axis Text by_name other = absurd (true≢false (sym by_name))
  not_principal axis Comment by_name other = absurd (true≢false (sym by_name))
  not_principal axis Pi by_name other = absurd (true≢false (sym by_name))
  not_principal axis (PiNamed target) by_name other = absurd (true≢false (sym by_name))

  module _ (L : Lets) where
    -- a pattern of one path reads and gives what the path does
    pub path_alone : (paths : List TypedPathTree) (seen : List TypedPath) (path : TypedPath) → paths_seen seen ≡ paths → seen ≡ path ∷ [] →
        all_reading (pattern_names T n paths) (some_path T L n paths)
        ≡ all_reading (step_names T n (path_seen path).steps) (path_matches T L n (path_seen path))
    path_alone paths seen path is one =
        ap (λ ps. all_reading (pattern_names T n ps) (some_path T L n ps)) (sym is ∙ ap paths_seen one)
        ∙ ap₂ all_reading (append-nil (step_names T n (path_seen path).steps))
        (bind_alike (path_matches T L n (path_seen path)) (λ b. bind (done false) (λ c. done (b || c))) done
        (λ b. bind-done false (λ c. done (b || c)) ∙ ap done (or-false b))
        ∙ bind-right (path_matches T L n (path_seen path)))
