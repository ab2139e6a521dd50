-- Places that do not count, and kids that do.
use Rattle.std.proofs.Common.{◌≡◌, ℕ, suc, ◌+◌, ◌≤◌, Bool, true, false, cond, ◌||◌, List, [], ◌∷◌, ◌++◌, length, Option, None, Some, Result, Ok, refl, sym, ap, ◌∙◌, subst, arith, eqb, eqb-true, true≢false}
use Rattle.std.specs.List.{flat_map, list_any}
use Rattle.doc_tree.specs.kind.Kind.TheVariants.{Attribute}
use Rattle.doc_tree.specs.Laws.{HasWaysUp, Ordered, WellFormed}
use Rattle.doc_tree.specs.Lists.{mem, occurs}
use Rattle.doc_tree.specs.Order.{Nested}
use Rattle.doc_tree.specs.Table.{Table, Content, root, element, attribute, text, comment, instruction, attrs_of, content_of, kids_of, kind_at, kind_of, is_live}
use Rattle.doc_tree.specs.Walks.{above, ancestors, below, order}
use Rattle.doc_tree.proofs.ListLemmas.{In-mem, mem-In, occurs-append, occurs-same}
use Rattle.sch_rules.specs.Elements.{element_name, is_foreign, is_ignored, word_at}

pub cond-same : {A : Type 0} (b : Bool) (x : A) → cond b x x ≡ x
cond-same true x = refl
cond-same false x = refl

-- no element
pub no_element : (T : Table) (n : ℕ) → kind_of T n ≡ Some Attribute → element_name (content_of T n) ≡ None
no_element T n is = by (content_of T n) is
  where
    by : (content : Option Content) → kind_at content ≡ Some Attribute → element_name content ≡ None
    by None is = absurd (cc)
    by (Some root) is = absurd (cc)
    by (Some (element name decls)) is = absurd (cc)
    by (Some (attribute name value)) is = refl
    by (Some (text characters)) is = absurd (cc)
    by (Some (comment characters)) is = absurd (cc)
    by (Some (instruction name body)) is = absurd (cc)

-- what passes in a list
list_any-cases : (p : ℕ → Bool) (n m : ℕ) (ns : List ℕ) (b : Bool) → eqb n m ≡ b → p n ≡ true → (mem n ns ≡ true → list_any p ns ≡ true) →
    (b || mem n ns) ≡ true → (p m || list_any p ns) ≡ true
list_any-cases p n m ns true e is rest h = let same : p m ≡ true = subst (λ k. p k ≡ true) (eqb-true n m e) is in rw same refl
list_any-cases p n m ns false e is rest h = or_true (p m) (rest h)
  where
    or_true : (b : Bool) → list_any p ns ≡ true → (b || list_any p ns) ≡ true
    or_true true e = refl
    or_true false e = e

list_any-mem : (p : ℕ → Bool) (n : ℕ) (ns : List ℕ) → p n ≡ true → mem n ns ≡ true → list_any p ns ≡ true
list_any-mem p n [] is h = absurd (true≢false (sym h))
list_any-mem p n (m ∷ ns) is h = list_any-cases p n m ns (eqb n m) refl is (list_any-mem p n ns is) h

module _ (T : Table) (ordered : Ordered T) (nested : Nested T) where
  -- what stands below a node, the node left out
  abbrev pub inside : ℕ → List ℕ
  inside n = attrs_of T n ++ flat_map (below T) (kids_of T n)

  -- what stands in an element of another namespace is ignored
  pub ignored-inside : (n m : ℕ) → is_live T n ≡ true → is_foreign T n ≡ true → mem m (inside n) ≡ true → is_ignored T m ≡ true
  ignored-inside n m live foreign h =
      let at = ordered.below_in_order n live in
      let parts : below T n ≡ n ∷ inside n = ordered.below_at n in
      let whole : order T ≡ at.0 ++ (below T n ++ at.1) = at.2 in
      let count : occurs n (order T) ≡ occurs n at.0 + (occurs n (below T n) + occurs n at.1) =
      ap (occurs n) whole ∙ occurs-append n at.0 (below T n ++ at.1) ∙ ap (λ k. occurs n at.0 + k) (occurs-append n (below T n) at.1) in
      let twice : occurs n (below T n) ≡ suc (occurs n (inside n)) = ap (occurs n) parts ∙ occurs-same n (inside n) in
      let once : occurs n (inside n) ≡ 0 = omega (arith, ordered.once n) in
      let below_n : mem m (below T n) ≡ true = rw parts (In-mem m (n ∷ inside n) (omega (arith, mem-In m (inside n) h))) in
      let in_order : mem m (order T) ≡ true =
      rw whole (In-mem m (at.0 ++ (below T n ++ at.1)) (omega (arith, mem-In m (below T n) below_n, occurs-append m at.0 (below T n ++ at.1), occurs-append m (below T n) at.1))) in
      let up : mem n (above T m) ≡ true = sym (nested n m (ordered.live_in_order m ∙ in_order)) ∙ below_n in
      by (eqb n m) refl once up
    where
      by : (b : Bool) → eqb n m ≡ b → occurs n (inside n) ≡ 0 → (b || mem n (ancestors T m)) ≡ true → is_ignored T m ≡ true
      by true e once up =
          let same : n ≡ m = eqb-true n m e in
          let there : 1 ≤ occurs n (inside n) = subst (λ k. 1 ≤ occurs k (inside n)) (sym same) (mem-In m (inside n) h) in
          absurd (omega arith)
      by false e once up = list_any-mem (is_foreign T) n (ancestors T m) foreign up

-- a kid stands one level below, and counts where its parent does
pub record StandsBelow (T : Table) (n kid : ℕ) : Type 0 where
  pub lives : is_live T kid ≡ true
  pub depth : length (ancestors T kid) ≡ suc (length (ancestors T n))
  pub counts : is_ignored T n ≡ false → is_foreign T n ≡ false → is_ignored T kid ≡ false

pub stands_below : (T : Table) → WellFormed T → HasWaysUp T → (n kid : ℕ) → mem kid (kids_of T n) ≡ true → StandsBelow T n kid
stands_below T formed ways n kid member =
    let up : ancestors T kid ≡ n ∷ ancestors T n = ways.ancestors_at kid n (formed.kid_parent n kid member) in
    record {
      lives = ways.kid_live n kid member;
      depth = ap length up;
      counts = λ counts own. ap (list_any (is_foreign T)) up ∙ ap (λ b. b || is_ignored T n) own ∙ counts;
    }
