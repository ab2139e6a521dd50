-- The kept nodes of a sound table into which a piece comes are sound again.
use Rattle.std.proofs.Common.{◌≡◌, ℕ, ◌+◌, ◌*◌, ◌<◌, ◌≤◌, true, List, [], ◌∷◌, ◌++◌, length, map, get_or, set, Option, None, Some, is_some, refl, sym, ap, ap₂, ◌∙◌, subst, ⊎_elim, true≢false, arith, length-append, length-set}
use Rattle.std.proofs.lemmas.List.{map-append, length-map, get_or_append_left}
use Rattle.doc_table.specs.declared.node.Node.{Node}
use Rattle.doc_table.specs.Lists.{occurs, place_in, Rise}
use Rattle.doc_table.specs.Table.{Table, Name, entry_at, is_live}
use Rattle.doc_table.specs.Walks.{ancestors, order}
use Rattle.doc_table.specs.inner.Kept.{NamesAreBelow, depth_at, rank_at, ranks_of}
use Rattle.doc_table.specs.inner.Sound.{Formed, Sound}
use Rattle.doc_table.specs.inner.Views.{node_seen, table_seen}
use Rattle.doc_table.proofs.Appending.{holder-live}
use Rattle.doc_table.proofs.ListLemmas.{In, In-mem}
use Rattle.doc_table.proofs.Rising.{rise-evenly}
use Rattle.doc_table.proofs.SoundLemmas.{names-more, number-set, seen-entry, seen-length, table-kept}
use Rattle.doc_table.proofs.TreeLaws.{ordered}
use Rattle.doc_table.proofs.Ways.{live-below}
use Rattle.doc_edits.specs.declared.copying.Placement.{Placement}
use Rattle.doc_edits.specs.declared.ranking.Spread.{Spread}
use Rattle.doc_edits.specs.Changes.{given, given_number, inserted, nodes_in, with_kid}
use Rattle.doc_edits.specs.Fitting.{MayTake}
use Rattle.doc_edits.specs.Keeping.{NamesGrow}
use Rattle.doc_edits.specs.inner.Copies.{AreCopies, IsPlacement, number_in, depth_copied, rank_copied, rank_given}
use Rattle.doc_edits.specs.inner.Grafts.{grafted, kept_kid}
use Rattle.doc_edits.specs.inner.Ranking.{HasRoom, Seam, ranked}
use Rattle.doc_edits.proofs.CopyLemmas.{grows-numbered, grows-longer}
use Rattle.doc_edits.proofs.GraftedLemmas.{kid-depth, kid-rank, names-grafted, seen-grafted, word-at}
use Rattle.doc_edits.proofs.InsertedSumLemmas.{count-exact, text-exact}
use Rattle.doc_edits.proofs.InsertionLemmas.{IsNew, IsOther, new-or, nodes-flat, nodes-live, nodes-once, live-kept}
use Rattle.doc_edits.proofs.InsertionTreeLemmas.{insertion}
use Rattle.doc_edits.proofs.InsertionWayLemmas.{way-new, way-old}
use Rattle.doc_edits.proofs.NumberingLemmas.{get-mapped}
use Rattle.doc_edits.proofs.RankingLemmas.{Standing, anew-sound, standing-sound}
use Rattle.doc_edits.proofs.SeamLemmas.{Joined, order-inserted}
use Rattle.doc_edits.proofs.SpreadLemmas.{joined-ranks}

-- lists got by two functions that agree
map-same : {A B : Type 0} (f g : A → B) (xs : List A) → ((x : A) → f x ≡ g x) → map f xs ≡ map g xs
map-same f g [] same = refl
map-same f g (x ∷ xs) same = ap₂ (λ y ys. y ∷ ys) (same x) (map-same f g xs same)

given-same : (f g : ℕ → ℕ) (p : ℕ) (names : List Name) (o : Option Node) → ((m : ℕ) → f m ≡ g m) → given f p (node_seen names o) ≡ given g p (node_seen names o)
given-same f g p names o same = let e : f ≡ g = λ t m. same m t in ap (λ h. given h p (node_seen names o)) e

-- what a copy has of a live node
depth-live : (names : List Name) (places : Placement) (o : Option Node) → is_some (node_seen names o) ≡ true → depth_copied places o ≡ places.depth + depth_at o
depth-live names places None h = absurd (true≢false (sym h))
depth-live names places (Some node) h = refl

rank-live : (names : List Name) (rank : ℕ) (o : Option Node) → is_some (node_seen names o) ≡ true → rank_copied rank o ≡ rank
rank-live names rank None h = absurd (true≢false (sym h))
rank-live names rank (Some node) h = refl

map-map : (f : ℕ → ℕ) (g : ℕ → ℕ) (xs : List ℕ) → map g (map f xs) ≡ map (λ m. g (f m)) xs
map-map f g [] = refl
map-map f g (x ∷ xs) = ap (λ l. g (f x) ∷ l) (map-map f g xs)

module _ (M after L : List Name) (N Q : List (Option Node)) (live bytes more_live more_bytes p before : ℕ) (spread : Spread) (places : Placement) (copies : List (Option Node)) (s : Sound N M live bytes)
    (v : Sound Q L more_live more_bytes) (grow : NamesGrow M after) (may : MayTake (table_seen M N) p before (table_seen L Q)) (is : IsPlacement (table_seen M N) p spread (table_seen L Q) places)
    (are : AreCopies after L places Q (nodes_in (table_seen L Q)) copies) where
  abbrev T : Table
  T = table_seen M N

  abbrev P : Table
  P = table_seen L Q

  abbrev U : Table
  U = inserted T p before P

  abbrev f : ℕ → ℕ
  f = given_number T P

  abbrev G : List (Option Node)
  G = grafted p before (length T) copies N

  -- the table that is seen
  copies-seen : table_seen after copies ≡ map (λ m. given f p (entry_at P m)) (nodes_in P)
  copies-seen =
      are.seen
      ∙ map-same (λ m. given (number_in places) places.parent (node_seen L (get_or Q m None))) (λ m. given f p (entry_at P m)) (nodes_in P)
      (λ m. ap (λ q. given (number_in places) q (node_seen L (get_or Q m None))) is.parent
      ∙ (given-same (number_in places) f p L (get_or Q m None) is.numbers ∙ ap (given f p) (sym (seen-entry L Q m))))

  pub seen-inserted : table_seen after G ≡ U
  seen-inserted =
      seen-grafted after p before (length T) copies N
      ∙ ap₂ (λ t r. set t p (with_kid before (length T) (entry_at t p)) ++ r) (table-kept M after N (grows-numbered M after grow) s.known) copies-seen

  known-inserted : NamesAreBelow (length after) G
  known-inserted = names-grafted (length after) p before (length T) copies N (names-more (length M) (length after) N (grows-longer M after grow) s.known) are.known

  u : Formed U
  u = insertion T p before P s.formed v.formed may

  alive : is_live T p ≡ true
  alive = holder-live T p may.under

  -- what is kept beside the nodes: of old ones it stays, of new ones it is that of their copies
  word-old : (w : Option Node → ℕ) → ((o : Option Node) → w (kept_kid before (length T) o) ≡ w o) → (n : ℕ) → n < length T → w (get_or G n None) ≡ w (get_or N n None)
  word-old w same n h =
      ap w (get_or_append_left (set N p (kept_kid before (length T) (get_or N p None))) copies None n
      (omega (arith, h, seen-length M N, length-set N p (kept_kid before (length T) (get_or N p None)))))
      ∙ number-set w N p n (kept_kid before (length T) (get_or N p None)) (same (get_or N p None))

  word-new : (w : Option Node → ℕ) (g : ℕ → ℕ) → map w copies ≡ map g (nodes_in P) → (m : ℕ) → In m (nodes_in P) → w (get_or G (f m) None) ≡ g m
  word-new w g are_mapped m h =
      let front : List (Option Node) = set N p (kept_kid before (length T) (get_or N p None)) in
      let as_long : length (map w front) ≡ length T =
      length-map front w ∙ (length-set N p (kept_kid before (length T) (get_or N p None)) ∙ sym (seen-length M N)) in
      sym (word-at w G (f m))
      ∙ (ap (λ l. get_or l (f m) (w None)) (map-append w front copies ∙ ap (λ l. map w front ++ l) are_mapped)
      ∙ subst (λ k. get_or (map w front ++ map g (nodes_in P)) (k + place_in m (nodes_in P)) (w None) ≡ g m) as_long
      (get-mapped g (map w front) (nodes_in P) m (w None) h))

  once : (n : ℕ) → occurs n (nodes_in P) ≤ 1
  once = nodes-once P v.formed.forest v.formed.whole (nodes-flat P v.formed)

  depths-inserted : (n : ℕ) → is_live U n ≡ true → depth_at (get_or G n None) ≡ length (ancestors U n)
  depths-inserted n h =
      ⊎_elim
      (λ (new : IsNew T P n).
      let m : ℕ = new.number in
      let lives : is_live P m ≡ true = nodes-live P v.formed.forest v.formed.whole (nodes-flat P v.formed) m new.here in
      ap (λ k. depth_at (get_or G k None)) new.is
      ∙ (word-new depth_at (λ m. depth_copied places (get_or Q m None)) are.depths m new.here
      ∙ (omega (
        arith,
        depth-live L places (get_or Q m None) (ap is_some (sym (seen-entry L Q m)) ∙ lives),
        v.depths m lives,
        is.depth,
        way-new T P p before alive s.formed.forest s.formed.whole u.forest u.whole v.formed m new.here,
      ) ∙ ap (λ k. length (ancestors U k)) (sym new.is))))
      (λ (other : IsOther T P n).
      let old : is_live T n ≡ true = sym (live-kept T P p before alive n other) ∙ h in
      word-old depth_at (kid-depth before (length T)) n (live-below T n old)
      ∙ (s.depths n old ∙ ap length (sym (way-old T P p before alive s.formed.forest s.formed.whole n old))))
      (new-or T P once n)

  long-inserted : length copies ≡ length (nodes_in P)
  long-inserted =
      sym (length-map copies depth_at) ∙ (ap length are.depths ∙ length-map (nodes_in P) (λ m. depth_copied places (get_or Q m None)))

  long-grafted : length G ≡ length N + length (nodes_in P)
  long-grafted =
      length-append (set N p (kept_kid before (length T) (get_or N p None))) copies
      ∙ omega (arith, long-inserted, length-set N p (kept_kid before (length T) (get_or N p None)))

  -- ranks of new nodes go by their places in the piece
  rank-new : (m : ℕ) → In m (nodes_in P) → rank_at (get_or G (f m) None) ≡ spread.first + place_in m (nodes_in P) * spread.step
  rank-new m h =
      word-new rank_at (λ m. rank_copied (rank_given places m) (get_or Q m None)) are.ranks m h
      ∙ (rank-live L (rank_given places m) (get_or Q m None)
      (ap is_some (sym (seen-entry L Q m)) ∙ nodes-live P v.formed.forest v.formed.whole (nodes-flat P v.formed) m h)
      ∙ ap₂ (λ (sp : Spread) k. sp.first + k * sp.step) is.spread_is (omega (arith, is.numbers m, is.first)))

  new-ranks : 0 < spread.step → Rise spread.first (ranks_of G (map f (nodes_in P))) (spread.first + length (nodes_in P) * spread.step)
  new-ranks some =
      rw (map-map f (λ n. rank_at (get_or G n None)) (nodes_in P))
      (rise-evenly (nodes_in P) (λ m. rank_at (get_or G (f m) None)) spread.first spread.step some once rank-new)

  pub standing-inserted : Standing G after (live + length (nodes_in P)) (bytes + more_bytes)
  standing-inserted = record {
    formed = rw seen-inserted u;
    known = known-inserted;
    depths = rw seen-inserted depths-inserted;
    live_is = rw seen-inserted (omega (arith, s.live_is, count-exact T P p before v.formed));
    bytes_is = rw seen-inserted (omega (arith, s.bytes_is, v.bytes_is, text-exact T P p before v.formed));
  }

  -- sound where there was room for the ranks of the piece
  pub roomy-inserted : (0 < spread.step → (front back : List ℕ) → Seam T p before front back → HasRoom N front back (length (nodes_in P)) spread) → 0 < spread.step →
      Sound G after (live + length (nodes_in P)) (bytes + more_bytes)
  roomy-inserted room some =
      let j : Joined T U p before (map f (nodes_in P)) = order-inserted T p before P s.formed v.formed may in
      standing-sound G after (live + length (nodes_in P)) (bytes + more_bytes) standing-inserted
      (rw seen-inserted
      (joined-ranks T U N G p before (map f (nodes_in P)) j (length (nodes_in P)) spread (room some j.front j.back j.seam)
      (λ m h. word-old rank_at (kid-rank before (length T)) m (live-below T m ((ordered T s.formed).live_in_order m ∙ In-mem m (order T) h)))
      (new-ranks some) long-grafted))

  -- and where ranks are given anew
  pub anew-inserted : Sound (ranked 0 (order (table_seen after G)) G) after (live + length (nodes_in P)) (bytes + more_bytes)
  anew-inserted = anew-sound G after (live + length (nodes_in P)) (bytes + more_bytes) standing-inserted
