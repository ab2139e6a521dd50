-- What follows of the root, of ways up, and of what is told from a node downwards: no way down is longer than the limit of depth.
use Rattle.std.proofs.Common.{◌≡◌, ℕ, ◌+◌, ◌≤◌, suc, zero, true, List, [], ◌∷◌, ◌++◌, length, map, Option, None, Some, refl, sym, ap, ap₂, ◌∙◌, arith, append-nil}
use Rattle.std.specs.Prelude.{option_map}
use Rattle.std.specs.List.{flat_map}
use Rattle.doc_table.specs.declared.limits.TheConstants.{MAX_DEPTH}
use Rattle.doc_table.specs.Lists.{mem}
use Rattle.doc_table.specs.Table.{Table, content_of, parent_of, kids_of, attrs_of}
use Rattle.doc_table.specs.Walks.{ancestors, joined_text, characters_in}
use Rattle.doc_table.specs.Lines.{Line, lines_at, first_lines, last_lines, opens, closes, lines_below}
use Rattle.doc_table.specs.Laws.{WellFormed, WellFormedIsEnough, HasWaysUp, Walks}
use Rattle.tree_iso.specs.Renumbering.{Renumbers, Hangs}
use Rattle.tree_iso.proofs.NumberLemmas.{told-moved}

module _ (enough : WellFormedIsEnough) (f : ℕ → ℕ) (T U : Table) (one : WellFormed T) (other : WellFormed U) (r : Renumbers f T U) where
  ways-before : HasWaysUp T
  ways-before = (enough T one).1

  ways-after : HasWaysUp U
  ways-after = (enough U other).1

  walks-before : Walks T
  walks-before = (enough T one).2

  walks-after : Walks U
  walks-after = (enough U other).2

  root-goes : f 0 ≡ 0
  root-goes =
      let here = (enough T one).0.root_first in
      let there = (enough U other).0.root_first in
      let both : f 0 ∷ map f here.0 ≡ 0 ∷ there.0 = ap (map f) (sym here.1) ∙ (sym r.in_order ∙ there.1) in
      (cc both)

  up : (ns : List ℕ) (n : ℕ) → ancestors T n ≡ ns → ancestors U (f n) ≡ map f ns
  up [] n e = by (parent_of T n) refl
    where
      by : (o : Option ℕ) → parent_of T n ≡ o → ancestors U (f n) ≡ []
      by None is = ways-after.no_ancestors (f n) (r.parent n ∙ ap (option_map f) is)
      by (Some p) is = absurd (let bad : [] ≡ p ∷ ancestors T p = sym e ∙ ways-before.ancestors_at n p is in (cc bad))
  up (q ∷ qs) n e = by (parent_of T n) refl (λ m. up qs m)
    where
      by : (o : Option ℕ) → parent_of T n ≡ o → ((m : ℕ) → ancestors T m ≡ qs → ancestors U (f m) ≡ map f qs) → ancestors U (f n) ≡ map f (q ∷ qs)
      by None is rest = absurd (let bad : [] ≡ q ∷ qs = sym (ways-before.no_ancestors n is) ∙ e in (cc bad))
      by (Some p) is rest =
          let split : p ∷ ancestors T p ≡ q ∷ qs = sym (ways-before.ancestors_at n p is) ∙ e in
          let first : p ≡ q = (cc split) in
          let others : ancestors T p ≡ qs = (cc split) in
          ways-after.ancestors_at (f n) (f p) (r.parent n ∙ ap (option_map f) is) ∙ ap₂ (λ (x : ℕ) (xs : List ℕ). x ∷ xs) (ap f first) (rest p others)

  -- a kid has one ancestor more
  deeper : (n k : ℕ) → mem k (kids_of T n) ≡ true → length (ancestors T k) ≡ suc (length (ancestors T n))
  deeper n k h = ap length (ways-before.ancestors_at k n (one.kid_parent n k h))

  -- what a node tells with all below it, where its own part and its end stay as they are
  module _ {A : Type 0} (before after head begin tail end : ℕ → List A)
      (at : (n : ℕ) → before n ≡ head n ++ (flat_map before (kids_of T n) ++ tail n))
      (then : (n : ℕ) → after n ≡ begin n ++ (flat_map after (kids_of U n) ++ end n))
      (heads : (n : ℕ) → begin (f n) ≡ head n) (tails : (n : ℕ) → end (f n) ≡ tail n) where
    told-kids : (n : ℕ) → ((k : ℕ) → mem k (kids_of T n) ≡ true → after (f k) ≡ before k) → after (f n) ≡ before n
    told-kids n same =
        then (f n)
        ∙ (ap₂ (λ (x y : List A). x ++ (flat_map after (kids_of U (f n)) ++ y)) (heads n) (tails n)
        ∙ (ap (λ (l : List A). head n ++ (l ++ tail n)) (ap (flat_map after) (r.kids n) ∙ told-moved f before after (kids_of T n) same)
        ∙ sym (at n)))

    told-below : (levels n : ℕ) → MAX_DEPTH + 1 ≤ levels + length (ancestors T n) → after (f n) ≡ before n
    told-below zero n deep = told-kids n (λ k h. absurd (omega (arith, deep, deeper n k h, ways-before.ancestors_bound k)))
    told-below (suc levels) n deep = told-kids n (λ k h. told-below levels k (omega (arith, deep, deeper n k h)))

  text-goes : (n : ℕ) → joined_text U (f n) ≡ joined_text T n
  text-goes n =
      told-below (joined_text T) (joined_text U) (λ m. characters_in (content_of T m)) (λ m. characters_in (content_of U m)) (λ _. []) (λ _. [])
      (λ m. walks-before.text_at m ∙ ap (λ (l : List ℕ). characters_in (content_of T m) ++ l) (sym (append-nil (flat_map (joined_text T) (kids_of T m)))))
      (λ m. walks-after.text_at m ∙ ap (λ (l : List ℕ). characters_in (content_of U m) ++ l) (sym (append-nil (flat_map (joined_text U) (kids_of U m)))))
      (λ m. ap characters_in (r.content m)) (λ _. refl) (MAX_DEPTH + 1) n (omega arith)

  opens-go : (n : ℕ) → opens U (f n) ≡ opens T n
  opens-go n = ap (lines_at first_lines) (r.content n)

  lines-go : (n : ℕ) → lines_below U (f n) ≡ lines_below T n
  lines-go n =
      told-below (lines_below T) (lines_below U) (λ m. opens T m ++ flat_map (opens T) (attrs_of T m)) (λ m. opens U m ++ flat_map (opens U) (attrs_of U m)) (closes T) (closes U)
      walks-before.lines_at walks-after.lines_at
      (λ m. ap₂ (λ (x y : List Line). x ++ y) (opens-go m)
      (ap (flat_map (opens U)) (r.attributes m) ∙ told-moved f (opens T) (opens U) (attrs_of T m) (λ a _. opens-go a)))
      (λ m. ap (lines_at last_lines) (r.content m)) (MAX_DEPTH + 1) n (omega arith)

  pub renumbered-hang : Hangs f T U
  renumbered-hang = record { root = root-goes; ancestors_go = λ n. up (ancestors T n) n refl; text = text-goes; lines = lines-go }
