-- Document order in two tables of which each number has the same kids: it differs in the attributes alone.
use Rattle.std.proofs.Common.{◌≡◌, ℕ, ◌+◌, ◌≤◌, suc, zero, Bool, List, [], ◌∷◌, ◌++◌, length, refl, sym, ap, ap₂, ◌∙◌, arith, append-nil}
use Rattle.std.specs.Prelude.{filter}
use Rattle.std.specs.List.{flat_map}
use Rattle.std.proofs.lemmas.List.Elements.{filter-append}
use Rattle.doc_table.specs.inner.Forest.{Forest, flat, size, Whole}
use Rattle.doc_table.specs.inner.Sound.{Formed}
use Rattle.doc_table.proofs.Telling.{order-flat, told-flat, walk-shows}
use Rattle.doc_tree.specs.Table.{Table, attrs_of, kids_of}
use Rattle.doc_tree.specs.Walks.{order, walk}
use Rattle.doc_tree.proofs.ListLemmas.{singles}

-- the numbers that a walk meets, so many levels deep
abbrev pub numbers_to : Table → ℕ → ℕ → List ℕ
numbers_to T levels n = walk T (λ m. m ∷ []) (λ _. []) levels n

-- levels enough give document order
numbers-enough : (T : Table) (B : Forest) → Whole T B → (levels : ℕ) → 1 + size B ≤ levels → numbers_to T levels 0 ≡ 0 ∷ flat B
numbers-enough T B w zero h = absurd (omega arith)
numbers-enough T B w (suc levels) h =
    rw (w.root.no_attributes, w.root.kids_are, walk-shows (λ m. m ∷ []) (λ _. []) T 0 levels B (omega arith) w.shows, told-flat B)
    (ap (λ l. 0 ∷ l) (append-nil (flat B)))

pub numbers-next : (T : Table) (levels n : ℕ) → numbers_to T (suc levels) n ≡ n ∷ (attrs_of T n ++ flat_map (numbers_to T levels) (kids_of T n))
numbers-next T levels n =
    ap₂ (λ (x y : List ℕ). n ∷ (x ++ y)) (singles (attrs_of T n)) (append-nil (flat_map (numbers_to T levels) (kids_of T n)))

-- a test that lets the same through of what two functions give
filter-given : (p : ℕ → Bool) (f g : ℕ → List ℕ) → ((n : ℕ) → filter p (f n) ≡ filter p (g n)) → (ns : List ℕ) → filter p (flat_map f ns) ≡ filter p (flat_map g ns)
filter-given p f g same [] = refl
filter-given p f g same (n ∷ ns) =
    filter-append p (f n) (flat_map f ns)
    ∙ (ap₂ (λ l r. l ++ r) (same n) (filter-given p f g same ns) ∙ sym (filter-append p (g n) (flat_map g ns)))

module _ (T U : Table) (p : ℕ → Bool) (kids : (n : ℕ) → kids_of U n ≡ kids_of T n) (attributes : (n : ℕ) → filter p (attrs_of U n) ≡ filter p (attrs_of T n)) where
  numbers-alike : (levels n : ℕ) → filter p (numbers_to T levels n) ≡ filter p (numbers_to U levels n)
  numbers-alike zero n = refl
  numbers-alike (suc levels) n =
      let rest : filter p (attrs_of T n ++ flat_map (numbers_to T levels) (kids_of T n)) ≡ filter p (attrs_of U n ++ flat_map (numbers_to U levels) (kids_of U n)) =
      filter-append p (attrs_of T n) (flat_map (numbers_to T levels) (kids_of T n))
      ∙ (ap₂ (λ l r. l ++ r) (sym (attributes n))
      (filter-given p (numbers_to T levels) (numbers_to U levels) (numbers-alike levels) (kids_of T n) ∙ ap (λ ks. filter p (flat_map (numbers_to U levels) ks)) (sym (kids n)))
      ∙ sym (filter-append p (attrs_of U n) (flat_map (numbers_to U levels) (kids_of U n)))) in
      ap (filter p) (numbers-next T levels n)
      ∙ (filter-append p (n ∷ []) (attrs_of T n ++ flat_map (numbers_to T levels) (kids_of T n))
      ∙ (ap (λ l. filter p (n ∷ []) ++ l) rest
      ∙ (sym (filter-append p (n ∷ []) (attrs_of U n ++ flat_map (numbers_to U levels) (kids_of U n))) ∙ ap (filter p) (sym (numbers-next U levels n)))))

  -- a test that lets the same attributes through lets the same nodes through
  pub order-alike : Formed T → length T ≤ length U → filter p (order T) ≡ filter p (order U)
  order-alike t more =
      ap (filter p) (order-flat T t.forest t.whole ∙ sym (numbers-enough T t.forest t.whole (length U) (omega (arith, t.whole.few, more))))
      ∙ numbers-alike (length U) 0
