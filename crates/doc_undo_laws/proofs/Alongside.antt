-- Two trees of which the second has each node of the first under another number: they have the same lines.
use Rattle.std.proofs.Common.{◌≡◌, ℕ, ◌+◌, ◌<◌, zero, suc, List, [], ◌∷◌, ◌++◌, ◌⊎◌, append-nil, length, map, Option, None, Some, is_some, refl, sym, ap, ap₂, ◌∙◌, ⊎_elim, arith}
use Rattle.std.specs.List.{flat_map}
use Rattle.std.proofs.lemmas.List.{map-append}
use Rattle.doc_table.specs.declared.limits.TheConstants.{MAX_DEPTH}
use Rattle.doc_table.specs.Table.{Table, Facts, content_at, entry_at, attrs_of, content_of, is_live, kids_of}
use Rattle.doc_table.specs.Walks.{ancestors, below}
use Rattle.doc_table.specs.Lines.{Line, first_lines, last_lines, lines, lines_at, lines_below, opens}
use Rattle.doc_table.specs.SameTree.{SameTree}
use Rattle.doc_table.specs.inner.Sound.{Formed}
use Rattle.doc_table.proofs.ListLemmas.{In, In-mem, occurs-head}
use Rattle.doc_table.proofs.TreeLaws.{ordered, walks, ways-up, well-formed}
use Rattle.doc_table.proofs.SameTreeLemmas.{root-silent, same-lines-same-tree}

pub flat_map-moved : {A : Type 0} (g h : ℕ → List A) (f : ℕ → ℕ) (ks : List ℕ) → ((k : ℕ) → In k ks → g (f k) ≡ h k) → flat_map g (map f ks) ≡ flat_map h ks
flat_map-moved g h f [] same = refl
flat_map-moved g h f (k ∷ ks) same = ap₂ (λ a b. a ++ b) (same k (occurs-head k ks)) (flat_map-moved g h f ks (λ j i. same j (omega (arith, i))))

pub map-moved : (g f : ℕ → ℕ) (ks : List ℕ) → ((k : ℕ) → In k ks → g k ≡ f k) → map g ks ≡ map f ks
map-moved g f [] same = refl
map-moved g f (k ∷ ks) same = ap₂ (λ (a : ℕ) (b : List ℕ). a ∷ b) (same k (occurs-head k ks)) (map-moved g f ks (λ j i. same j (omega (arith, i))))

pub map-fixed : (f : ℕ → ℕ) (ks : List ℕ) → ((k : ℕ) → In k ks → f k ≡ k) → map f ks ≡ ks
map-fixed f [] same = refl
map-fixed f (k ∷ ks) same = ap₂ (λ (a : ℕ) (b : List ℕ). a ∷ b) (same k (occurs-head k ks)) (map-fixed f ks (λ j i. same j (omega (arith, i))))

-- a node lives where it has a content
pub live-content : (T : Table) (n : ℕ) → is_live T n ≡ is_some (content_of T n)
live-content T n = by (entry_at T n)
  where
    by : (o : Option Facts) → is_some o ≡ is_some (content_at o)
    by None = refl
    by (Some node) = refl

-- a node of the second tree says what one of the first says, and holds the same
pub record Says (f : ℕ → ℕ) (T U : Table) (Among : ℕ → Type 0) (n : ℕ) : Type 0 where
  pub content : content_of U (f n) ≡ content_of T n
  pub attributes : flat_map (opens U) (attrs_of U (f n)) ≡ flat_map (opens T) (attrs_of T n)
  pub kids : kids_of U (f n) ≡ map f (kids_of T n)
  pub inside : (k : ℕ) → In k (kids_of T n) → Among k

-- kids stand deeper
module _ (T : Table) (t : Formed T) where
  pub kid-deeper : (n k : ℕ) → In k (kids_of T n) → length (ancestors T k) ≡ suc (length (ancestors T n))
  kid-deeper n k h = ap length ((ways-up T t).ancestors_at k n ((well-formed T t).kid_parent n k (In-mem k (kids_of T n) h)))

  -- so that what a node has where all its kids have it, all have
  pub downwards : (Holds : ℕ → Type 0) → ((n : ℕ) → ((k : ℕ) → In k (kids_of T n) → Holds k) → Holds n) → (n : ℕ) → Holds n
  downwards Holds step n = from (suc (MAX_DEPTH + 1)) n (omega arith)
    where
      from : (levels m : ℕ) → MAX_DEPTH + 1 < length (ancestors T m) + levels → Holds m
      from zero m deep = absurd (omega (arith, deep, (ways-up T t).ancestors_bound m))
      from (suc levels) m deep = step m (λ k h. from levels k (omega (arith, deep, kid-deeper m k h)))

module _ (f : ℕ → ℕ) (T U : Table) (t : Formed T) (u : Formed U) where
  says-lines : (Among : ℕ → Type 0) (n : ℕ) → Says f T U Among n → ((k : ℕ) → In k (kids_of T n) → lines_below U (f k) ≡ lines_below T k) → lines_below U (f n) ≡ lines_below T n
  says-lines Among n says rec =
      (walks U u).lines_at (f n)
      ∙ (ap₂ (λ a b. a ++ b)
      (ap₂ (λ (a b : List Line). a ++ b) (ap (lines_at first_lines) says.content) says.attributes)
      (ap₂ (λ (a b : List Line). a ++ b) (ap (flat_map (lines_below U)) says.kids ∙ flat_map-moved (lines_below U) (lines_below T) f (kids_of T n) rec) (ap (lines_at last_lines) says.content))
      ∙ sym ((walks T t).lines_at n))

  -- where each node has the same lines, or says the same and holds the same, all have the same lines
  pub along : (Among : ℕ → Type 0) → ((n : ℕ) → Among n → (lines_below U (f n) ≡ lines_below T n) ⊎ Says f T U Among n) → (n : ℕ) → Among n → lines_below U (f n) ≡ lines_below T n
  along Among step n =
      downwards T t (λ m. Among m → lines_below U (f m) ≡ lines_below T m)
      (λ m rec here. ⊎_elim (λ (e : lines_below U (f m) ≡ lines_below T m). e)
      (λ (s : Says f T U Among m). says-lines Among m s (λ k h. rec k h (s.inside k h))) (step m here)) n

  -- where lists are the same under other numbers, so is document order
  pub below-along : ((n : ℕ) → attrs_of U (f n) ≡ map f (attrs_of T n)) → ((n : ℕ) → kids_of U (f n) ≡ map f (kids_of T n)) → (n : ℕ) → below U (f n) ≡ map f (below T n)
  below-along attributes kids n = downwards T t (λ m. below U (f m) ≡ map f (below T m)) step n
    where
      joined : (ks : List ℕ) → ((k : ℕ) → In k ks → below U (f k) ≡ map f (below T k)) → flat_map (below U) (map f ks) ≡ map f (flat_map (below T) ks)
      joined [] rec = refl
      joined (k ∷ ks) rec =
          ap₂ (λ (a b : List ℕ). a ++ b) (rec k (occurs-head k ks)) (joined ks (λ j i. rec j (omega (arith, i))))
          ∙ sym (map-append f (below T k) (flat_map (below T) ks))

      step : (m : ℕ) → ((k : ℕ) → In k (kids_of T m) → below U (f k) ≡ map f (below T k)) → below U (f m) ≡ map f (below T m)
      step m rec =
          (ordered U u).below_at (f m)
          ∙ (ap (λ (l : List ℕ). f m ∷ l) (ap₂ (λ (a b : List ℕ). a ++ b) (attributes m) (ap (flat_map (below U)) (kids m) ∙ joined (kids_of T m) rec) ∙ sym (map-append f (attrs_of T m) (flat_map (below T) (kids_of T m))))
          ∙ sym (ap (map f) ((ordered T t).below_at m)))

-- the lines of a tree with one node at the top
pub lines-top : (P : Table) (top : ℕ) → Formed P → kids_of P 0 ≡ top ∷ [] → lines P ≡ lines_below P top
lines-top P top f one =
    let silent = root-silent (content_of P 0) f.root_kind in
    (walks P f).lines_at 0
    ∙ (ap₂ (λ (a b : List Line). a ++ b)
    (ap₂ (λ (a b : List Line). a ++ b) silent.1 (ap (flat_map (opens P)) f.whole.root.no_attributes))
    (ap₂ (λ (a b : List Line). a ++ b) (ap (flat_map (lines_below P)) one) silent.2)
    ∙ (append-nil (lines_below P top ++ []) ∙ append-nil (lines_below P top)))

-- trees whose roots are at the same number
pub same-tree : (f : ℕ → ℕ) (T U : Table) → Formed T → Formed U → f 0 ≡ 0 → lines_below U (f 0) ≡ lines_below T 0 → SameTree T U
same-tree f T U t u root same = same-lines-same-tree T U (well-formed T t) (well-formed U u) (sym (ap (lines_below U) (sym root) ∙ same))
