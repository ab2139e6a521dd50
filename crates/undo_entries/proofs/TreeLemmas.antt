-- Nodes that commands name, and how many there are.
use Rattle.std.proofs.Common.{◌≡◌, ℕ, suc, ◌+◌, ◌-◌, ◌<◌, ◌≤◌, true, List, [], ◌∷◌, ◌++◌, length, take, drop, slice_index_or, Option, None, Some, is_some, refl, sym, ap, ap₂, ◌∙◌, subst, true≢false, arith, length-append, unwrap_or}
use Rattle.std.specs.List.{flat_map}
use Rattle.std.specs.Prelude.{count_by, slice_get}
use Rattle.sch_base.proofs.Lists.{flat_map-cut}
use Rattle.doc_table.proofs.Appending.{holder-live}
use Rattle.doc_table.proofs.Forests.{formed-of}
use Rattle.doc_table.proofs.ListLemmas.{In, In-mem, occurs-append, occurs-head}
use Rattle.doc_table.proofs.TreeLaws.{ordered, ways-up}
use Rattle.doc_edits.proofs.DeletionLemmas.{Met, met}
use Rattle.doc_tree.specs.Changes.{Meeting, meeting}
use Rattle.doc_tree.specs.kind.Kind.{Kind}
use Rattle.doc_tree.specs.kind.Kind.TheVariants.{Root, Element, Attribute, Text, Comment, Pi}
use Rattle.doc_tree.specs.Kinds.{holds_kids, is_kind}
use Rattle.doc_tree.specs.Laws.{HasWaysUp, Ordered, WellFormed}
use Rattle.doc_tree.specs.Lists.{place_in}
use Rattle.doc_tree.specs.limits.TheConstants.{MAX_LIVE_NODES}
use Rattle.doc_tree.specs.Table.{Table, attrs_of, is_live, kids_above, kids_of, kind_of, parent_of}
use Rattle.doc_tree.specs.Walks.{below}
use Rattle.edit_script.specs.declared.command.PathStep.{PathStep}
use Rattle.edit_commands.specs.Paths.{kids_of_kind, led_from, node_named}
use Rattle.edit_paths.specs.PathTo.{step_to}
use Rattle.edit_paths.proofs.PathsKept.{stepped-In}
use Rattle.undo_entries.proofs.PlaceLemmas.{place-kept}

pub same-kind : (kind : Kind) → is_kind kind (Some kind) ≡ true
same-kind Root = refl
same-kind Element = refl
same-kind Attribute = refl
same-kind Text = refl
same-kind Comment = refl
same-kind Pi = refl

abbrev one_step : Kind → ℕ → List PathStep
one_step kind index = record { kind = kind; index = index } ∷ []

-- a step counts the kids of its kind before the node
pub step-is : (T : Table) (n p : ℕ) (kind : Kind) (index : ℕ) → parent_of T n ≡ Some p → kind_of T n ≡ Some kind →
    index ≡ suc (count_by (λ k. is_kind kind (kind_of T k)) (take (place_in n (kids_of T p)) (kids_of T p))) → one_step kind index ≡ step_to T n (parent_of T n) (kind_of T n)
step-is T n p kind index up is counted =
    let pass : is_kind kind (kind_of T n) ≡ true = ap (is_kind kind) is ∙ same-kind kind in
    ap (one_step kind) (counted ∙ ap suc (sym (place-kept (λ k. is_kind kind (kind_of T k)) n (kids_of T p) pass))) ∙ sym (ap₂ (step_to T n) up is)

module _ (T : Table) (form : WellFormed T) where
  ways : HasWaysUp T
  ways = ways-up T (formed-of T form)

  kid-live : (p k : ℕ) → In k (kids_of T p) → is_live T k ≡ true
  kid-live p k h = ways.kid_live p k (In-mem k (kids_of T p) h)

  led-live : (steps : List PathStep) (m n : ℕ) → is_live T m ≡ true → led_from T (Some m) steps ≡ Some n → is_live T n ≡ true
  led-live [] m n live e = subst (λ k. is_live T k ≡ true) (ap (λ o. unwrap_or o 0) e) live
  led-live (step ∷ steps) m n live e = by (slice_get (kids_of_kind T m step.kind) (step.index - 1)) refl e (λ j alive h. led-live steps j n alive h)
    where
      gone : (steps : List PathStep) → led_from T None steps ≡ None
      gone [] = refl
      gone (step ∷ steps) = refl

      by : (o : Option ℕ) → slice_get (kids_of_kind T m step.kind) (step.index - 1) ≡ o → led_from T o steps ≡ Some n →
          ((j : ℕ) → is_live T j ≡ true → led_from T (Some j) steps ≡ Some n → is_live T n ≡ true) → is_live T n ≡ true
      by None g h rest = absurd (true≢false (sym (ap is_some (sym (gone steps) ∙ h))))
      by (Some j) g h rest = rest j (kid-live m j (stepped-In T m step j g)) h

  -- a node that a path names is live
  pub named-live : (path : List PathStep) (n : ℕ) → node_named T path ≡ Some n → is_live T n ≡ true
  named-live path n e = led-live path 0 n (holder-live T 0 (ap holds_kids form.root_kind)) e

  -- so is the right one of two texts that meet
  pub right-live : (n : ℕ) (texts : Meeting) → meeting T n (kids_above T (parent_of T n)) ≡ Some texts → is_live T texts.right ≡ true
  right-live n texts e = by (parent_of T n) e
    where
      by : (o : Option ℕ) → meeting T n (kids_above T o) ≡ Some texts → is_live T texts.right ≡ true
      by None h = absurd (true≢false (sym (ap is_some h)))
      by (Some p) h =
          let m : Met T n (kids_of T p) texts = met T n (kids_of T p) texts h in
          let last : In texts.right (texts.right ∷ m.back) = occurs-head texts.right m.back in
          let among : In texts.right (m.front ++ (texts.left ∷ n ∷ texts.right ∷ m.back)) =
          omega (arith, occurs-append texts.right m.front (texts.left ∷ n ∷ texts.right ∷ m.back), last) in
          kid-live p texts.right (subst (λ ks. In texts.right ks) (sym m.is) among)

module _ (T : Table) (form : WellFormed T) where
  ord : Ordered T
  ord = ordered T (formed-of T form)

  -- the node, its attributes, and what is below its kids
  pub below-count : (n : ℕ) → length (below T n) ≡ suc (length (attrs_of T n)) + length (flat_map (below T) (kids_of T n))
  below-count n = ap length (ord.below_at n) ∙ omega (arith, length-append (attrs_of T n) (flat_map (below T) (kids_of T n)))

  pub below-bound : (n : ℕ) → is_live T n ≡ true → length (below T n) ≤ MAX_LIVE_NODES
  below-bound n live =
      let at = ord.below_in_order n live in
      omega (arith, form.few_nodes, ap length at.2, length-append at.0 (below T n ++ at.1), length-append (below T n) at.1)

-- one kid more is no more than all
pub kid-bound : (T : Table) (n i kid : ℕ) → kid ≡ slice_index_or (kids_of T n) i kid → i < length (kids_of T n) →
    length (flat_map (below T) (take i (kids_of T n))) + length (below T kid) ≤ length (flat_map (below T) (kids_of T n))
kid-bound T n i kid is less =
    let front : List ℕ = flat_map (below T) (take i (kids_of T n)) in
    let back : List ℕ = flat_map (below T) (drop (suc i) (kids_of T n)) in
    omega (arith, ap length (flat_map-cut (below T) (kids_of T n) i kid is less), length-append (front ++ below T kid) back, length-append front (below T kid))
