-- Well-formed tables whose numbers are in document order, and which are the same tree, are the same: each number is its position.
use Rattle.std.proofs.Common.{◌≡◌, ℕ, ◌<◌, List, [], ◌∷◌, length, map, Option, None, Some, refl, sym, ap, ap₂, ◌∙◌, arith}
use Rattle.std.proofs.lemmas.List.{ext_get_or}
use Rattle.doc_table.specs.Lists.{occurs}
use Rattle.doc_table.specs.Table.{Table, Facts, Content, entry_at, attrs_at, attrs_of, content_at, kids_at, kids_of, parent_at, parent_of}
use Rattle.doc_table.specs.Walks.{order}
use Rattle.doc_table.specs.Lines.{lines}
use Rattle.doc_table.specs.Laws.{WellFormed, HasWaysUp}
use Rattle.doc_table.specs.InOrder.{IsInOrder}
use Rattle.doc_table.specs.SameTree.{position, position_at, position_in, SameNode, SameTree}
use Rattle.doc_table.proofs.ListLemmas.{In, In-mem, occurs-head}
use Rattle.doc_table.proofs.Ways.{live-below}
use Rattle.doc_table.proofs.TreeLaws.{ways-up}
use Rattle.doc_table.proofs.Forests.{formed-of}
use Rattle.doc_table.proofs.ByNumber.{upto-length, upto-once}
use Rattle.doc_table.proofs.Positions.{position-upto}
use Rattle.doc_table.proofs.SameTreeLemmas.{all-length, same-at, same-lines-same-tree}

-- two entries with the same parts
entry-same : (a b : Option Facts) → parent_at a ≡ parent_at b → kids_at a ≡ kids_at b → attrs_at a ≡ attrs_at b → content_at a ≡ content_at b → a ≡ b
entry-same None None p k l c = refl
entry-same None (Some y) p k l c = absurd (cc)
entry-same (Some x) None p k l c = absurd (cc)
entry-same (Some x) (Some y) p k l c =
    let contents : x.content ≡ y.content = (cc) in
    ap₂ (λ (parent : Option ℕ) (kids : List ℕ). Some (record { parent = parent; kids = kids; attributes = x.attributes; content = x.content })) p k
    ∙ ap₂ (λ (attributes : List ℕ) (content : Content). Some (record { parent = y.parent; kids = y.kids; attributes = attributes; content = content })) l contents

module _ (T : Table) (form : WellFormed T) (numbered : IsInOrder T) where
  ways : HasWaysUp T
  ways = ways-up T (formed-of T form)

  in-order : (n : ℕ) → n < length T → In n (order T)
  in-order n below = omega (arith, ap (occurs n) numbered, upto-once n (length T) below)

  position-is : (n : ℕ) → n < length T → position T n ≡ Some n
  position-is n below = ap (position_in n) numbered ∙ position-upto n (length T) below

  parent-below : (n p : ℕ) → parent_of T n ≡ Some p → p < length T
  parent-below n p up = live-below T p (ways.parent_live n p up)

  kid-below : (n k : ℕ) → In k (kids_of T n) → k < length T
  kid-below n k h = live-below T k (ways.kid_live n k (In-mem k (kids_of T n) h))

  attribute-below : (n a : ℕ) → In a (attrs_of T n) → a < length T
  attribute-below n a h = live-below T a (ways.attribute_live n a (In-mem a (attrs_of T n) h))

module _ (T U : Table) (one : WellFormed T) (other : WellFormed U) (first : IsInOrder T) (second : IsInOrder U) where
  -- numbers at the same position are the same
  number-same : (n m : ℕ) → n < length T → m < length U → position U m ≡ position T n → n ≡ m
  number-same n m below above same =
      let both : Some m ≡ Some n = sym (position-is U other second m above) ∙ (same ∙ position-is T one first n below) in
      (cc)

  parent-same : (o p : Option ℕ) → ((n : ℕ) → o ≡ Some n → n < length T) → ((m : ℕ) → p ≡ Some m → m < length U) → position_at U p ≡ position_at T o → o ≡ p
  parent-same None None below above same = refl
  parent-same None (Some m) below above same = absurd (let at : Some m ≡ None = sym (position-is U other second m (above m refl)) ∙ same in cc)
  parent-same (Some n) None below above same = absurd (let at : None ≡ Some n = same ∙ position-is T one first n (below n refl) in cc)
  parent-same (Some n) (Some m) below above same = ap Some (number-same n m (below n refl) (above m refl) same)

  numbers-same : (ns ms : List ℕ) → ((n : ℕ) → In n ns → n < length T) → ((m : ℕ) → In m ms → m < length U) → map (position U) ms ≡ map (position T) ns → ns ≡ ms
  numbers-same [] [] below above same = refl
  numbers-same [] (m ∷ ms) below above same = absurd (cc)
  numbers-same (n ∷ ns) [] below above same = absurd (cc)
  numbers-same (n ∷ ns) (m ∷ ms) below above same =
      let head : position U m ≡ position T n = (cc) in
      let rest : map (position U) ms ≡ map (position T) ns = (cc) in
      ap₂ (λ (x : ℕ) (xs : List ℕ). x ∷ xs)
      (number-same n m (below n (occurs-head n ns)) (above m (occurs-head m ms)) head)
      (numbers-same ns ms (λ k h. below k (omega (arith, h))) (λ k h. above k (omega (arith, h))) rest)

  pub one-table : lines T ≡ lines U → T ≡ U
  one-table told =
      let same : SameTree T U = same-lines-same-tree T U one other told in
      let long : length T ≡ length U =
      omega (arith, all-length T U (order T) (order U) same, ap length first, ap length second, upto-length (length T), upto-length (length U)) in
      ext_get_or None T U long (λ m h.
      let alike : SameNode T U m m =
      same-at T U (order T) (order U) same m m (in-order T one first m h) (position-is T one first m h ∙ sym (position-is U other second m (omega (arith, h, long)))) in
      entry-same (entry_at T m) (entry_at U m)
      (parent-same (parent_of T m) (parent_of U m) (parent-below T one first m) (parent-below U other second m) alike.parent)
      (numbers-same (kids_of T m) (kids_of U m) (kid-below T one first m) (kid-below U other second m) alike.kids)
      (numbers-same (attrs_of T m) (attrs_of U m) (attribute-below T one first m) (attribute-below U other second m) alike.attributes)
      (sym alike.content))
