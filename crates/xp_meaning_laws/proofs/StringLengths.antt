-- A string-value has no more bytes than the tree has text.
use Rattle.std.proofs.Common.{◌≡◌, ℕ, zero, suc, ◌≤◌, true, List, [], ◌∷◌, ◌++◌, length, Option, None, Some, is_some, refl, ap, subst, arith, sum_by}
use Rattle.std.specs.List.{flat_map}
use Rattle.std.proofs.lemmas.List.{length-append}
use Rattle.std.proofs.lemmas.List.Sums.{sum_by-append, sum_by-cons}
use Rattle.doc_tree.specs.Laws.{Ordered}
use Rattle.doc_tree.specs.Table.{Table, Facts, Content, root, element, attribute, text, comment, instruction, entry_at, content_at, content_of, value_at, value_of, attrs_of, kids_of, is_live}
use Rattle.doc_tree.specs.Walks.{order, below, walk, characters_in, joined_text, string_value_in, string_value_of, text_bytes}

module _ (T : Table) where
  abbrev size : ℕ → ℕ
  size m = length (value_of T m)

  abbrev characters : ℕ → List ℕ
  characters m = characters_in (content_of T m)

  abbrev itself : ℕ → List ℕ
  itself m = m ∷ []

  abbrev nothing : ℕ → List ℕ
  nothing m = []

  content-le : (o : Option Content) → length (characters_in o) ≤ length (value_at o)
  content-le None = omega arith
  content-le (Some root) = omega arith
  content-le (Some (element _ _)) = omega arith
  content-le (Some (attribute _ _)) = omega arith
  content-le (Some (text _)) = omega arith
  content-le (Some (comment _)) = omega arith
  content-le (Some (instruction _ _)) = omega arith

  pieces-le : (f g : ℕ → List ℕ) → ((m : ℕ) → length (f m) ≤ sum_by size (g m)) → (xs : List ℕ) → length (flat_map f xs) ≤ sum_by size (flat_map g xs)
  pieces-le f g h [] = omega arith
  pieces-le f g h (x ∷ xs) =
      omega (arith, h x, pieces-le f g h xs, length-append (f x) (flat_map f xs), sum_by-append size (g x) (flat_map g xs))

  one-le : (m : ℕ) → length (characters m) ≤ sum_by size (m ∷ [])
  one-le m = omega (arith, content-le (content_of T m), sum_by-cons size m [])

  -- what a walk tells of characters, against the values of the nodes that it passes
  walk-le : (levels n : ℕ) → length (walk T characters nothing levels n) ≤ sum_by size (walk T itself nothing levels n)
  walk-le zero n = omega arith
  walk-le (suc levels) n =
      let own = pieces-le characters itself one-le (n ∷ attrs_of T n) in
      let kids = pieces-le (λ k. walk T characters nothing levels k) (λ k. walk T itself nothing levels k) (λ k. walk-le levels k) (kids_of T n) in
      omega (
        arith,
        own,
        kids,
        length-append (flat_map characters (n ∷ attrs_of T n)) (flat_map (λ k. walk T characters nothing levels k) (kids_of T n) ++ []),
        length-append (flat_map (λ k. walk T characters nothing levels k) (kids_of T n)) [],
        sum_by-append size (flat_map itself (n ∷ attrs_of T n)) (flat_map (λ k. walk T itself nothing levels k) (kids_of T n) ++ []),
        sum_by-append size (flat_map (λ k. walk T itself nothing levels k) (kids_of T n)) [],
      )

  joined-le : (n : ℕ) → length (joined_text T n) ≤ sum_by size (below T n)
  joined-le n = walk-le (length T) n

  module _ (ord : Ordered T) where
    below-le : (n : ℕ) → is_live T n ≡ true → sum_by size (below T n) ≤ text_bytes T
    below-le n live =
        let p = ord.below_in_order n live in
        let whole : sum_by size (order T) ≡ sum_by size (p.0 ++ (below T n ++ p.1)) = ap (sum_by size) p.2 in
        omega (arith, whole, sum_by-append size p.0 (below T n ++ p.1), sum_by-append size (below T n) p.1)

    own-le : (n : ℕ) → is_live T n ≡ true → size n ≤ text_bytes T
    own-le n live =
        let rest : List ℕ = attrs_of T n ++ flat_map (below T) (kids_of T n) in
        let first : sum_by size (below T n) ≡ sum_by size (n ∷ rest) = ap (sum_by size) (ord.below_at n) in
        omega (arith, first, sum_by-cons size n rest, below-le n live)

    lives : (e : Option Facts) (content : Content) → content_at e ≡ Some content → is_some e ≡ true
    lives None content h = cc
    lives (Some facts) content h = refl

    pub string-le : (n : ℕ) → length (string_value_of T n) ≤ text_bytes T
    string-le n = by (content_of T n) refl (λ c e. lives (entry_at T n) c e)
      where
        by : (o : Option Content) → content_of T n ≡ o → ((c : Content) → content_of T n ≡ Some c → is_live T n ≡ true) → length (string_value_in T n o) ≤ text_bytes T
        by None e live = omega arith
        by (Some root) e live = omega (arith, joined-le n, below-le n (live root e))
        by (Some (element name decls)) e live = omega (arith, joined-le n, below-le n (live (element name decls) e))
        by (Some (attribute name value)) e live = subst (λ o. length (value_at o) ≤ text_bytes T) e (own-le n (live (attribute name value) e))
        by (Some (text value)) e live = subst (λ o. length (value_at o) ≤ text_bytes T) e (own-le n (live (text value) e))
        by (Some (comment value)) e live = subst (λ o. length (value_at o) ≤ text_bytes T) e (own-le n (live (comment value) e))
        by (Some (instruction name value)) e live = subst (λ o. length (value_at o) ≤ text_bytes T) e (own-le n (live (instruction name value) e))
