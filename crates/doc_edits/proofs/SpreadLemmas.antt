-- Ranks for new nodes: those of the nodes round their place, and room between them.
use Rattle.std.proofs.Common.{◌≡◌, ℕ, ◌+◌, ◌-◌, ◌*◌, ◌<◌, ◌≤◌, zero, suc, Bool, true, false, List, [], ◌∷◌, ◌++◌, length, take, drop, get_or, Option, None, Some, refl, sym, ap, ◌∙◌, subst, ⊎_elim, true≢false, arith, append_assoc, append-nil}
use Rattle.std.specs.List.{flat_map}
use Rattle.std.specs.List.Sorted.{IsPartitionedBy}
use Rattle.std.specs.Option.{option_map}
use Rattle.std.specs.Prelude.{slice_get}
use Rattle.std.proofs.lemmas.Grind.{flat_map-append}
use Rattle.std.proofs.lemmas.List.{take_all}
use Rattle.doc_table.specs.Lists.{last_or, mem, occurs, Rise}
use Rattle.doc_table.specs.declared.node.Node.{Node}
use Rattle.doc_table.specs.declared.ranks.TheConstants.{RANK_STEP}
use Rattle.doc_table.specs.inner.Kept.{rank_at, ranks_of}
use Rattle.doc_table.specs.inner.Parts.{Parts, IsSound, table_of}
use Rattle.doc_table.specs.inner.Sound.{Formed}
use Rattle.doc_table.specs.Table.{Table, attrs_of, kids_of}
use Rattle.doc_table.specs.Walks.{below, order}
use Rattle.doc_table.proofs.ListLemmas.{In, In-mem, last-In, last-append, mem-In, mem-append, mem-get, mem-head, mem-one, mem-tail, occurs-append}
use Rattle.doc_table.proofs.Rising.{map-agree, ranks-append, ranks-before, ranks-begun, ranks-behind, ranks-ending, ranks-front, rise-within}
use Rattle.doc_table.proofs.SoundLemmas.{seen-length}
use Rattle.doc_table.proofs.TreeLaws.{ordered}
use Rattle.doc_edits.specs.declared.ranking.Spread.{Spread}
use Rattle.doc_edits.specs.inner.Ranking.{HasRoom, Seam}
use Rattle.doc_edits.proofs.SeamLemmas.{Above, Behind, Joined, younger-behind}

-- a list of two parts, of which the one passes a test and the other fails it
module _ (p : ℕ → Bool) where
  pub partitioned : (front back : List ℕ) → ((m : ℕ) → mem m front ≡ true → p m ≡ true) → ((m : ℕ) → mem m back ≡ true → p m ≡ false) → IsPartitionedBy p (front ++ back)
  partitioned [] back low high i j d h short passes = absurd (true≢false (sym passes ∙ high (get_or back j d) (mem-get back j d short)))
  partitioned (x ∷ front) back low high zero j d h short passes = low x (mem-head x front)
  partitioned (x ∷ front) back low high (suc i) zero d h short passes = absurd (omega arith)
  partitioned (x ∷ front) back low high (suc i) (suc j) d h short passes =
      partitioned front back (λ m g. low m (mem-tail m x front g)) high i j d (omega arith) (omega arith) passes

  pub at-point : (front back : List ℕ) (i : ℕ) → ((m : ℕ) → mem m front ≡ true → p m ≡ true) → ((m : ℕ) → mem m back ≡ true → p m ≡ false)
      → ((k : ℕ) → k < i → p (get_or (front ++ back) k 0) ≡ true) → ((k : ℕ) → i ≤ k → k < length (front ++ back) → p (get_or (front ++ back) k 0) ≡ false) →
      slice_get (front ++ back) i ≡ slice_get back 0
  at-point [] back zero low high passes fails = refl
  at-point [] [] (suc i) low high passes fails = refl
  at-point [] (b ∷ back) (suc i) low high passes fails = absurd (true≢false (sym (passes 0 (omega arith)) ∙ high b (mem-head b back)))
  at-point (x ∷ front) back zero low high passes fails = absurd (true≢false (sym (low x (mem-head x front)) ∙ fails 0 (omega arith) (omega arith)))
  at-point (x ∷ front) back (suc i) low high passes fails =
      at-point front back i (λ m g. low m (mem-tail m x front g)) high (λ k h. passes (suc k) (omega arith)) (λ k h g. fails (suc k) (omega arith) (omega arith))

abbrev rank_in : List (Option Node) → ℕ → ℕ
rank_in nodes m = rank_at (get_or nodes m None)

-- the last of a list
pub get-last_or : (x : ℕ) (xs : List ℕ) → slice_get (x ∷ xs) (length xs) ≡ Some (last_or x xs)
get-last_or x [] = refl
get-last_or x (y ∷ xs) = get-last_or y xs

pub last-is : (d k : ℕ) (xs : List ℕ) → Some k ≡ slice_get xs (length xs - 1) → k ≡ last_or d xs
last-is d k [] e = absurd (cc)
last-is d k (x ∷ xs) e =
    let both : Some k ≡ Some (last_or x xs) = e ∙ (ap (slice_get (x ∷ xs)) (omega arith) ∙ get-last_or x xs) in
    (cc)

pub last-listed : (k n : ℕ) (xs : List ℕ) → Some k ≡ slice_get (take n xs) (length (take n xs) - 1) → mem k xs ≡ true
last-listed k zero xs e = absurd (cc)
last-listed k (suc n) [] e = absurd (cc)
last-listed k (suc n) (x ∷ xs) e =
    let is : k ≡ last_or x (take n xs) = last-is 0 k (x ∷ take n xs) e in
    In-mem k (x ∷ xs) (subst (λ m. In m (x ∷ xs)) (sym is) (omega (arith, last-In x (take n xs), taken (last_or x (take n xs)) n xs)))
  where
    taken : (m n : ℕ) (xs : List ℕ) → occurs m (take n xs) ≤ occurs m xs
    taken m zero xs = omega arith
    taken m (suc n) [] = omega arith
    taken m (suc n) (x ∷ xs) = omega (arith, taken m n xs)

last-split : (x : ℕ) (xs : List ℕ) → (front : List ℕ) × (x ∷ xs ≡ front ++ last_or x xs ∷ [])
last-split x [] = let front : List ℕ = [] in (front, refl)
last-split x (y ∷ xs) = let r = last-split y xs in (x ∷ r.0, ap (λ l. x ∷ l) r.1)

-- down to the last kid: the last of all below it
pub last-inside : (T : Table) (formed : Formed T) (n k : ℕ) (ats ks : List ℕ) → Some k ≡ slice_get ks (length ks - 1) →
    last_or n (ats ++ flat_map (below T) ks) ≡ last_or k (attrs_of T k ++ flat_map (below T) (kids_of T k))
last-inside T formed n k ats [] e = absurd (cc)
last-inside T formed n k ats (x ∷ ks) e =
    let r = last-split x ks in
    let is : x ∷ ks ≡ r.0 ++ k ∷ [] = r.1 ∙ ap (λ m. r.0 ++ m ∷ []) (sym (last-is 0 k (x ∷ ks) e)) in
    let inner : List ℕ = attrs_of T k ++ flat_map (below T) (kids_of T k) in
    ap (λ l. last_or n (ats ++ flat_map (below T) l)) is
    ∙ (ap (λ l. last_or n (ats ++ l)) (flat_map-append (below T) r.0 (k ∷ []) ∙ ap (λ l. flat_map (below T) r.0 ++ (l ++ [])) ((ordered T formed).below_at k))
    ∙ (ap (last_or n) (sym (append_assoc ats (flat_map (below T) r.0) (k ∷ (inner ++ []))))
    ∙ (last-append n k (ats ++ flat_map (below T) r.0) (inner ++ []) ∙ ap (last_or k) (append-nil inner))))

pub last-all : (T : Table) (k before : ℕ) → before ≡ length (kids_of T k) →
    last_or k (attrs_of T k ++ flat_map (below T) (take before (kids_of T k))) ≡ last_or k (attrs_of T k ++ flat_map (below T) (kids_of T k))
last-all T k before e = ap (λ ks. last_or k (attrs_of T k ++ flat_map (below T) ks)) (take_all before (kids_of T k) (omega (arith, e)))

-- what stands first behind a place among the kids
module _ (T : Table) (formed : Formed T) (p before : ℕ) (back : List ℕ) (b : Behind T formed p before back) where
  pub first-kid : (k : ℕ) → before < length (kids_of T p) → k ≡ get_or (kids_of T p) before k → slice_get back 0 ≡ Some k
  first-kid k h e =
      ap (λ l. slice_get l 0) b.is ∙ by (kids_of T p) before h e
    where
      by : (ks : List ℕ) (i : ℕ) → i < length ks → k ≡ get_or ks i k → slice_get (flat_map (below T) (drop i ks) ++ b.rest) 0 ≡ Some k
      by [] i g f = absurd (omega arith)
      by (x ∷ ks) zero g f =
          ap (λ l. slice_get ((l ++ flat_map (below T) ks) ++ b.rest) 0) ((ordered T formed).below_at x) ∙ ap Some (sym f)
      by (x ∷ ks) (suc i) g f = by ks i (omega arith) f

  pub no-kid : length (kids_of T p) ≤ before → order T ≡ b.front ++ (below T p ++ back)
  no-kid h = b.whole ∙ ap (λ l. b.front ++ (below T p ++ l)) (sym (b.is ∙ ap (λ ks. flat_map (below T) ks ++ b.rest) (by (kids_of T p) before h)))
    where
      by : (ks : List ℕ) (i : ℕ) → length ks ≤ i → drop i ks ≡ []
      by [] zero g = refl
      by [] (suc i) g = refl
      by (x ∷ ks) zero g = absurd (omega arith)
      by (x ∷ ks) (suc i) g = by ks i (omega arith)

-- the kids up to one have no greater ranks, those behind it have
module _ (parts : Parts) (sound : IsSound parts) (n q : ℕ) (back : List ℕ) (a : Above (table_of parts) sound.formed n q back) where
  risen : Rise 0 (ranks_of parts.nodes (a.before ++ n ∷ ((attrs_of (table_of parts) n ++ flat_map (below (table_of parts)) (kids_of (table_of parts) n)) ++ back))) (RANK_STEP * length parts.nodes)
  risen = subst (λ ns. Rise 0 (ranks_of parts.nodes ns) (RANK_STEP * length parts.nodes)) a.here sound.ranks

  pub elder-low : (k : ℕ) → mem k (a.elder ++ n ∷ []) ≡ true → rank_in parts.nodes k ≤ rank_in parts.nodes n
  elder-low k h =
      ⊎_elim
      (λ (g : mem k a.elder ≡ true). omega (arith, ranks-before parts.nodes a.before n _ 0 _ k risen (a.elders_before k (mem-In k a.elder g))))
      (λ (g : mem k (n ∷ []) ≡ true). omega (arith, ap (rank_in parts.nodes) (mem-one k n g)))
      (mem-append k a.elder (n ∷ []) h)

  pub younger-high : (k : ℕ) → mem k a.younger ≡ true → rank_in parts.nodes n < rank_in parts.nodes k
  younger-high k h =
      ranks-behind parts.nodes a.before n _ 0 _ k risen (younger-behind (table_of parts) sound.formed n q k back a (mem-In k a.younger h))

-- what stands behind all below a kid begins with the next kid, or else stands behind all below the parent
module _ (T : Table) (formed : Formed T) (n q : ℕ) (back : List ℕ) (a : Above T formed n q back) where
  pub next-first : (k : ℕ) → Some k ≡ slice_get a.younger 0 → slice_get back 0 ≡ Some k
  next-first k e = ap (λ l. slice_get l 0) a.is ∙ by a.younger e
    where
      by : (ks : List ℕ) → Some k ≡ slice_get ks 0 → slice_get (flat_map (below T) ks ++ a.rest) 0 ≡ Some k
      by [] f = absurd (cc)
      by (x ∷ ks) f = ap (λ l. slice_get ((l ++ flat_map (below T) ks) ++ a.rest) 0) ((ordered T formed).below_at x) ∙ sym f

  pub none-next : None ≡ slice_get a.younger 0 → order T ≡ a.front ++ (below T q ++ back)
  none-next e = a.whole ∙ ap (λ l. a.front ++ (below T q ++ l)) (sym (a.is ∙ ap (λ ks. flat_map (below T) ks ++ a.rest) (by a.younger e)))
    where
      by : (ks : List ℕ) → None ≡ slice_get ks 0 → ks ≡ []
      by [] f = refl
      by (x ∷ ks) f = absurd (cc)

-- the first of a list
record Begins (xs : List ℕ) (r : Option ℕ) (f : ℕ → ℕ) : Type 0 where
  first : ℕ
  rest : List ℕ
  is : xs ≡ first ∷ rest
  value : r ≡ Some (f first)

begins : (f : ℕ → ℕ) (xs : List ℕ) (v : ℕ) → Some v ≡ option_map f (slice_get xs 0) → Begins xs (Some v) f
begins f [] v e = absurd (cc)
begins f (x ∷ xs) v e = record { first = x; rest = xs; is = refl; value = e }

ends : (f : ℕ → ℕ) (xs : List ℕ) → None ≡ option_map f (slice_get xs 0) → xs ≡ []
ends f [] e = refl
ends f (x ∷ xs) e = absurd (cc)

-- room at a seam
module _ (parts : Parts) (sound : IsSound parts) (p before : ℕ) (front back : List ℕ) (seam : Seam (table_of parts) p before front back) (left : ℕ)
    (left_is : left ≡ last_or p (attrs_of (table_of parts) p ++ flat_map (below (table_of parts)) (take before (kids_of (table_of parts) p)))) where
  abbrev inner : List ℕ
  inner = attrs_of (table_of parts) p ++ flat_map (below (table_of parts)) (take before (kids_of (table_of parts) p))

  whole : Rise 0 (ranks_of parts.nodes (front ++ back)) (RANK_STEP * length parts.nodes)
  whole = subst (λ ns. Rise 0 (ranks_of parts.nodes ns) (RANK_STEP * length parts.nodes)) seam.whole sound.ranks

  ahead : Rise 0 (ranks_of parts.nodes front) (suc (rank_in parts.nodes left))
  ahead =
      rw (seam.front_is, left_is)
      (ranks-ending parts.nodes seam.ahead p inner 0 _
      (subst (λ ns. Rise 0 (ranks_of parts.nodes ns) (RANK_STEP * length parts.nodes)) seam.front_is (ranks-front parts.nodes front back 0 _ whole)))

  left-in : In left front
  left-in =
      rw (seam.front_is, left_is) (omega (arith, last-In p inner, occurs-append (last_or p inner) seam.ahead (p ∷ inner)))

  pub left-less : (right : ℕ) → Some right ≡ option_map (rank_in parts.nodes) (slice_get back 0) → rank_in parts.nodes left < right
  left-less right e =
      let b : Begins back (Some right) (rank_in parts.nodes) = begins (rank_in parts.nodes) back right e in
      let value : right ≡ rank_in parts.nodes b.first = (cc (b.value)) in
      omega (
        arith,
        value,
        ranks-before parts.nodes front b.first b.rest 0 _ left
            (subst (λ l. Rise 0 (ranks_of parts.nodes (front ++ l)) (RANK_STEP * length parts.nodes)) b.is whole) left-in,
      )

  pub room-between : (count right : ℕ) (spread : Spread) → 0 < spread.step → spread.first ≡ rank_in parts.nodes left + spread.step → spread.first + count * spread.step ≤ right
      → Some right ≡ option_map (rank_in parts.nodes) (slice_get back 0) → HasRoom parts.nodes front back count spread
  room-between count right spread some first within e =
      let b : Begins back (Some right) (rank_in parts.nodes) = begins (rank_in parts.nodes) back right e in
      let value : right ≡ rank_in parts.nodes b.first = (cc (b.value)) in
      record {
        ahead = rise-within (ranks_of parts.nodes front) 0 0 (suc (rank_in parts.nodes left)) spread.first ahead (omega arith) (omega (arith, some, first));
        behind = subst (λ l. Rise (spread.first + count * spread.step) (ranks_of parts.nodes l) (RANK_STEP * (length parts.nodes + count))) (sym b.is)
            (rise-within (ranks_of parts.nodes (b.first ∷ b.rest)) (rank_in parts.nodes b.first) (spread.first + count * spread.step) (RANK_STEP * length parts.nodes) (RANK_STEP * (length parts.nodes + count))
            (ranks-begun parts.nodes front b.first b.rest 0 _ (subst (λ l. Rise 0 (ranks_of parts.nodes (front ++ l)) (RANK_STEP * length parts.nodes)) b.is whole))
            (omega (arith, within, value)) (omega arith));
      }

  pub room-behind : (count : ℕ) (spread : Spread) → spread.first ≡ RANK_STEP * length (table_of parts) → spread.step ≡ RANK_STEP
      → None ≡ option_map (rank_in parts.nodes) (slice_get back 0) → HasRoom parts.nodes front back count spread
  room-behind count spread first step e =
      let none : back ≡ [] = ends (rank_in parts.nodes) back e in
      let first_is : spread.first ≡ RANK_STEP * length parts.nodes = omega (arith, first, seen-length parts.names parts.nodes) in
      record {
        ahead = subst (Rise 0 (ranks_of parts.nodes front)) (sym first_is) (ranks-front parts.nodes front back 0 _ whole);
        behind = subst (λ l. Rise (spread.first + count * spread.step) (ranks_of parts.nodes l) (RANK_STEP * (length parts.nodes + count))) (sym none)
            (rw step (omega (arith, first_is)));
      }

-- ranks rise where new nodes come at a seam with room
pub joined-ranks : (T U : Table) (before after : List (Option Node)) (p place : ℕ) (new : List ℕ) (j : Joined T U p place new) (count : ℕ) (spread : Spread)
    → HasRoom before j.front j.back count spread → ((m : ℕ) → In m (order T) → rank_in after m ≡ rank_in before m)
    → Rise spread.first (ranks_of after new) (spread.first + count * spread.step) → length after ≡ length before + count → Rise 0 (ranks_of after (order U)) (RANK_STEP * length after)
joined-ranks T U before after p place new j count spread room same middle long =
    let in_front : (m : ℕ) → In m j.front → rank_in before m ≡ rank_in after m =
    λ m h. sym (same m (omega (arith, h, ap (occurs m) j.seam.whole, occurs-append m j.front j.back))) in
    let in_back : (m : ℕ) → In m j.back → rank_in before m ≡ rank_in after m =
    λ m h. sym (same m (omega (arith, h, ap (occurs m) j.seam.whole, occurs-append m j.front j.back))) in
    let high : RANK_STEP * (length before + count) ≡ RANK_STEP * length after = omega (arith, long) in
    rw j.after
    (ranks-append after j.front (new ++ j.back) 0 spread.first (RANK_STEP * length after)
    (subst (λ ranks. Rise 0 ranks spread.first) (map-agree (rank_in before) (rank_in after) j.front in_front) room.ahead)
    (ranks-append after new j.back spread.first (spread.first + count * spread.step) (RANK_STEP * length after) middle
    (subst (λ k. Rise (spread.first + count * spread.step) (ranks_of after j.back) k) high
    (subst (λ ranks. Rise (spread.first + count * spread.step) ranks (RANK_STEP * (length before + count))) (map-agree (rank_in before) (rank_in after) j.back in_back) room.behind))))
