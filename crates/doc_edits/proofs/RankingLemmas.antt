-- Nodes whose ranks are given anew: all else stays, and ranks are those of their places in document order.
use Rattle.std.proofs.Common.{◌≡◌, ◌≢◌, ℕ, ◌+◌, ◌*◌, ◌<◌, ◌≤◌, zero, suc, true, List, [], ◌∷◌, ◌++◌, length, take, drop, get_or, set, Option, None, Some, is_some, refl, sym, ap, ap₂, ◌∙◌, subst, ⊎_elim, true≢false, arith, append-nil, append_assoc, length-append, length-set, get_or-set_same, get_or-set_other}
use Rattle.std.specs.List.{flat_map}
use Rattle.std.proofs.lemmas.Grind.{flat_map-append}
use Rattle.std.proofs.lemmas.List.{length-take-le, take-append-drop, take_all, take_more}
use Rattle.std.proofs.Math.Seq.{map-set_same}
use Rattle.sch_base.proofs.Lists.{flat_map-next}
use Rattle.doc_table.specs.declared.node.Node.{Node}
use Rattle.doc_table.specs.declared.ranks.TheConstants.{RANK_STEP}
use Rattle.doc_table.specs.Lists.{Distinct, occurs, place_in, Rise}
use Rattle.doc_table.specs.Table.{Table, Name, attrs_of, is_live, kids_of}
use Rattle.doc_table.specs.Walks.{ancestors, below, order}
use Rattle.doc_table.specs.inner.Kept.{NamesAreBelow, depth_at, rank_at, ranks_of}
use Rattle.doc_table.specs.inner.Parts.{Parts, table_of}
use Rattle.doc_table.specs.inner.Sound.{Formed, Sound, count_live, text_held}
use Rattle.doc_table.specs.inner.Views.{node_seen, table_seen}
use Rattle.doc_table.proofs.Forests.{size-flat}
use Rattle.doc_table.proofs.ListLemmas.{In, In-mem, occurs-head, occurs-other, occurs-same, eq_or}
use Rattle.doc_table.proofs.Rising.{rise-evenly, rise-within}
use Rattle.doc_table.proofs.SoundLemmas.{number-set, seen-entry, seen-length}
use Rattle.doc_table.proofs.Telling.{order-flat}
use Rattle.doc_table.proofs.TreeLaws.{ordered}
use Rattle.doc_edits.specs.inner.Copies.{NameIsKnown}
use Rattle.doc_edits.specs.inner.Ranking.{ranked, with_rank}
use Rattle.doc_edits.proofs.CopyLemmas.{names-changed}
use Rattle.doc_edits.proofs.NumberingLemmas.{place-head, place-tail}

-- what a word says of a node that ignores its rank
abbrev IgnoresRank : (Option Node → ℕ) → Type 0
IgnoresRank f = (rank : ℕ) (o : Option Node) → f (with_rank rank o) ≡ f o

depth-ranked : IgnoresRank depth_at
depth-ranked rank None = refl
depth-ranked rank (Some node) = refl

node-ranked : (names : List Name) (rank : ℕ) (o : Option Node) → node_seen names (with_rank rank o) ≡ node_seen names o
node-ranked names rank None = refl
node-ranked names rank (Some node) = refl

known-ranked : (count rank : ℕ) (o : Option Node) → NameIsKnown count o → NameIsKnown count (with_rank rank o)
known-ranked count rank None h = tt
known-ranked count rank (Some node) h = h

pub seen-ranked : (names : List Name) (place : ℕ) (ns : List ℕ) (nodes : List (Option Node)) → table_seen names (ranked place ns nodes) ≡ table_seen names nodes
seen-ranked names place [] nodes = refl
seen-ranked names place (n ∷ ns) nodes =
    seen-ranked names (place + 1) ns (set nodes n (with_rank (RANK_STEP * place) (get_or nodes n None)))
    ∙ map-set_same (node_seen names) nodes n (with_rank (RANK_STEP * place) (get_or nodes n None)) None (node-ranked names (RANK_STEP * place) (get_or nodes n None))

length-ranked : (place : ℕ) (ns : List ℕ) (nodes : List (Option Node)) → length (ranked place ns nodes) ≡ length nodes
length-ranked place [] nodes = refl
length-ranked place (n ∷ ns) nodes =
    length-ranked (place + 1) ns (set nodes n (with_rank (RANK_STEP * place) (get_or nodes n None))) ∙ length-set nodes n (with_rank (RANK_STEP * place) (get_or nodes n None))

word-ranked : (f : Option Node → ℕ) → IgnoresRank f → (place : ℕ) (ns : List ℕ) (nodes : List (Option Node)) (m : ℕ) → f (get_or (ranked place ns nodes) m None) ≡ f (get_or nodes m None)
word-ranked f same place [] nodes m = refl
word-ranked f same place (n ∷ ns) nodes m =
    word-ranked f same (place + 1) ns (set nodes n (with_rank (RANK_STEP * place) (get_or nodes n None))) m
    ∙ number-set f nodes n m (with_rank (RANK_STEP * place) (get_or nodes n None)) (same (RANK_STEP * place) (get_or nodes n None))

names-ranked : (count place : ℕ) (ns : List ℕ) (nodes : List (Option Node)) → NamesAreBelow count nodes → NamesAreBelow count (ranked place ns nodes)
names-ranked count place [] nodes h = h
names-ranked count place (n ∷ ns) nodes h =
    names-ranked count (place + 1) ns (set nodes n (with_rank (RANK_STEP * place) (get_or nodes n None)))
    (names-changed count (with_rank (RANK_STEP * place)) (known-ranked count (RANK_STEP * place)) nodes n h)

-- one part of a list behind the other
pub ranked-append : (place : ℕ) (xs ys : List ℕ) (nodes : List (Option Node)) → ranked place (xs ++ ys) nodes ≡ ranked (place + length xs) ys (ranked place xs nodes)
ranked-append place [] ys nodes = ap (λ k. ranked k ys nodes) (omega arith)
ranked-append place (x ∷ xs) ys nodes =
    let changed : List (Option Node) = set nodes x (with_rank (RANK_STEP * place) (get_or nodes x None)) in
    ranked-append (place + 1) xs ys changed ∙ ap (λ k. ranked k ys (ranked (place + 1) xs changed)) (omega arith)

-- a node is kept below the length
kept-below : (names : List Name) (nodes : List (Option Node)) (n : ℕ) → is_some (node_seen names (get_or nodes n None)) ≡ true → n < length nodes
kept-below names [] n h = absurd (true≢false (sym h))
kept-below names (o ∷ nodes) zero h = omega arith
kept-below names (o ∷ nodes) (suc n) h = omega (arith, kept-below names nodes n h)

rank-put : (names : List Name) (rank : ℕ) (o : Option Node) → is_some (node_seen names o) ≡ true → rank_at (with_rank rank o) ≡ rank
rank-put names rank None h = absurd (true≢false (sym h))
rank-put names rank (Some node) h = refl

ranked-other : (place : ℕ) (ns : List ℕ) (nodes : List (Option Node)) (m : ℕ) → occurs m ns ≡ 0 → get_or (ranked place ns nodes) m None ≡ get_or nodes m None
ranked-other place [] nodes m h = refl
ranked-other place (n ∷ ns) nodes m h =
    ranked-other (place + 1) ns (set nodes n (with_rank (RANK_STEP * place) (get_or nodes n None))) m (omega (arith, h))
    ∙ get_or-set_other nodes n m (with_rank (RANK_STEP * place) (get_or nodes n None)) None
    (λ e. absurd (let k : In m (n ∷ ns) = subst (λ j. In m (j ∷ ns)) e (occurs-head m ns) in omega arith))

-- each number of a list, in which it stands once, has the rank of its place
ranked-here : (names : List Name) (place : ℕ) (ns : List ℕ) (nodes : List (Option Node)) (m : ℕ) → Distinct ns → In m ns → is_some (node_seen names (get_or nodes m None)) ≡ true →
    rank_at (get_or (ranked place ns nodes) m None) ≡ RANK_STEP * (place + place_in m ns)
ranked-here names place [] nodes m once h some = absurd (omega arith)
ranked-here names place (n ∷ ns) nodes m once h some =
    let changed : List (Option Node) = set nodes n (with_rank (RANK_STEP * place) (get_or nodes n None)) in
    ⊎_elim
    (λ (e : m ≡ n).
    let gone : occurs m ns ≡ 0 = omega (arith, once m, ap (λ k. occurs m (k ∷ ns)) (sym e), occurs-same m ns) in
    let short : n < length nodes = subst (λ k. k < length nodes) e (kept-below names nodes m some) in
    ap rank_at (ranked-other (place + 1) ns changed m gone
    ∙ (ap (λ k. get_or changed k None) e ∙ get_or-set_same nodes n (with_rank (RANK_STEP * place) (get_or nodes n None)) None short))
    ∙ (rank-put names (RANK_STEP * place) (get_or nodes n None) (subst (λ k. is_some (node_seen names (get_or nodes k None)) ≡ true) e some)
    ∙ omega (arith, place-head m n ns e)))
    (λ (ne : m ≢ n).
    ranked-here names (place + 1) ns changed m (λ k. omega (arith, once k)) (omega (arith, h, occurs-other m n ns ne))
    (ap (λ o. is_some (node_seen names o)) (get_or-set_other nodes n m (with_rank (RANK_STEP * place) (get_or nodes n None)) None ne) ∙ some)
    ∙ omega (arith, place-tail m n ns ne))
    (eq_or m n)

-- all that is asked of the kept nodes but of their ranks
pub record Standing (nodes : List (Option Node)) (names : List Name) (live bytes : ℕ) : Type 0 where
  pub formed : Formed (table_seen names nodes)
  pub known : NamesAreBelow (length names) nodes
  pub depths : (n : ℕ) → is_live (table_seen names nodes) n ≡ true → depth_at (get_or nodes n None) ≡ length (ancestors (table_seen names nodes) n)
  pub live_is : live ≡ count_live (table_seen names nodes)
  pub bytes_is : bytes ≡ text_held (table_seen names nodes)

module _ (nodes : List (Option Node)) (names : List Name) (live bytes : ℕ) (s : Standing nodes names live bytes) where
  pub standing-sound : Rise 0 (ranks_of nodes (order (table_seen names nodes))) (RANK_STEP * length nodes) → Sound nodes names live bytes
  standing-sound ranks = record { formed = s.formed; known = s.known; depths = s.depths; ranks = ranks; live_is = s.live_is; bytes_is = s.bytes_is }

  abbrev anew : List (Option Node)
  anew = ranked 0 (order (table_seen names nodes)) nodes

  same : table_seen names anew ≡ table_seen names nodes
  same = seen-ranked names 0 (order (table_seen names nodes)) nodes

  few : length (order (table_seen names nodes)) ≤ length anew
  few =
      omega (
        arith,
        ap length (order-flat (table_seen names nodes) s.formed.forest s.formed.whole),
        size-flat s.formed.forest,
        s.formed.whole.few,
        seen-length names nodes,
        length-ranked 0 (order (table_seen names nodes)) nodes,
      )

  anew-rank : (m : ℕ) → In m (order (table_seen names nodes)) → rank_at (get_or anew m None) ≡ 0 + place_in m (order (table_seen names nodes)) * RANK_STEP
  anew-rank m h =
      let ord = ordered (table_seen names nodes) s.formed in
      ranked-here names 0 (order (table_seen names nodes)) nodes m ord.once h
      (ap is_some (sym (seen-entry names nodes m)) ∙ (ord.live_in_order m ∙ In-mem m (order (table_seen names nodes)) h))
      ∙ omega arith

  anew-ranks : Rise 0 (ranks_of anew (order (table_seen names nodes))) (RANK_STEP * length anew)
  anew-ranks =
      rise-within _ 0 0 (0 + length (order (table_seen names nodes)) * RANK_STEP) (RANK_STEP * length anew)
      (rise-evenly (order (table_seen names nodes)) (λ m. rank_at (get_or anew m None)) 0 RANK_STEP (omega arith) (ordered (table_seen names nodes) s.formed).once anew-rank)
      (omega arith) (omega (arith, few))

  -- with ranks given anew they are sound
  pub anew-sound : Sound anew names live bytes
  anew-sound = record {
    formed = rw same s.formed;
    known = names-ranked (length names) 0 (order (table_seen names nodes)) nodes s.known;
    depths = λ n lives.
        word-ranked depth_at depth-ranked 0 (order (table_seen names nodes)) nodes n
        ∙ (s.depths n (ap (λ T. is_live T n) (sym same) ∙ lives) ∙ ap (λ T. length (ancestors T n)) (sym same));
    ranks = rw same anew-ranks;
    live_is = rw same s.live_is;
    bytes_is = rw same s.bytes_is;
  }

-- a node, its attributes, and all below its first so many kids
abbrev pub begun : Table → ℕ → ℕ → List ℕ
begun T n i = n ∷ (attrs_of T n ++ flat_map (below T) (take i (kids_of T n)))

-- the parts of a table whose nodes have ranks anew show the same table
pub table-ranked : (old now : Parts) (place : ℕ) (ns : List ℕ) → now ≡ record old { nodes = ranked place ns old.nodes } → table_of now ≡ table_of old
table-ranked old now place ns is = ap table_of is ∙ seen-ranked old.names place ns old.nodes

-- the parts of a table with other nodes
other-nodes : (old now : Parts) (nodes so_far after target : List (Option Node)) (names : List Name) (live bytes cap : ℕ) →
    record { nodes = nodes; names = names; live = live; text_bytes = bytes; pair_cap = cap } ≡ now → now ≡ record old { nodes = so_far } → after ≡ target →
    record { nodes = after; names = names; live = live; text_bytes = bytes; pair_cap = cap } ≡ record old { nodes = target }
other-nodes old now nodes so_far after target names live bytes cap view is after_is =
    ap (λ l. record { nodes = l; names = names; live = live; text_bytes = bytes; pair_cap = cap }) after_is
    ∙ ap (λ (parts : Parts). record parts { nodes = target }) (view ∙ is)

-- one node more gets the rank of its place
pub one-ranked : (old now : Parts) (nodes after : List (Option Node)) (names : List Name) (live bytes cap place i more next a : ℕ) (xs : List ℕ) →
    record { nodes = nodes; names = names; live = live; text_bytes = bytes; pair_cap = cap } ≡ now → now ≡ record old { nodes = ranked place (take i xs) old.nodes } → i < length xs
    → a ≡ get_or xs i a → more ≡ i + 1 → next ≡ place + i → after ≡ set nodes a (with_rank (RANK_STEP * next) (get_or nodes a None)) →
    record { nodes = after; names = names; live = live; text_bytes = bytes; pair_cap = cap } ≡ record old { nodes = ranked place (take more xs) old.nodes }
one-ranked old now nodes after names live bytes cap place i more next a xs view is short here more_is next_is after_is =
    let so_far : nodes ≡ ranked place (take i xs) old.nodes = ap (λ (parts : Parts). parts.nodes) (view ∙ is) in
    let at : next ≡ place + length (take i xs) = omega (arith, next_is, length-take-le i xs (omega arith)) in
    let taken : take i xs ++ a ∷ [] ≡ take more xs = sym (ap (λ k. take k xs) more_is ∙ (take_more xs i a short ∙ ap (λ k. take i xs ++ k ∷ []) (sym here))) in
    let ranked_more : after ≡ ranked place (take more xs) old.nodes =
    after_is
    ∙ (ap₂ (λ k l. ranked k (a ∷ []) l) at so_far
    ∙ (sym (ranked-append place (take i xs) (a ∷ []) old.nodes) ∙ ap (λ l. ranked place l old.nodes) taken)) in
    other-nodes old now nodes (ranked place (take i xs) old.nodes) after (ranked place (take more xs) old.nodes) names live bytes cap view is ranked_more

-- all below one kid more
module _ (T : Table) (formed : Formed T) (n i kid : ℕ) (short : i < length (kids_of T n)) (here : kid ≡ get_or (kids_of T n) i kid) where
  pub begun-more : begun T n (i + 1) ≡ begun T n i ++ below T kid
  begun-more =
      ap (λ l. n ∷ l) (ap (λ l. attrs_of T n ++ l) (flat_map-next (below T) (kids_of T n) i kid here short)
      ∙ sym (append_assoc (attrs_of T n) (flat_map (below T) (take i (kids_of T n))) (below T kid)))

  pub begun-few : length (begun T n i) + length (below T kid) ≤ length (below T n)
  begun-few =
      let all : below T n ≡ begun T n (i + 1) ++ flat_map (below T) (drop (i + 1) (kids_of T n)) =
      (ordered T formed).below_at n
      ∙ ap (λ l. n ∷ l) (ap (λ ks. attrs_of T n ++ flat_map (below T) ks) (sym (take-append-drop (i + 1) (kids_of T n)))
      ∙ (ap (λ l. attrs_of T n ++ l) (flat_map-append (below T) (take (i + 1) (kids_of T n)) (drop (i + 1) (kids_of T n)))
      ∙ sym (append_assoc (attrs_of T n) (flat_map (below T) (take (i + 1) (kids_of T n))) (flat_map (below T) (drop (i + 1) (kids_of T n)))))) in
      omega (
        arith,
        ap length all,
        length-append (begun T n (i + 1)) (flat_map (below T) (drop (i + 1) (kids_of T n))),
        ap length begun-more,
        length-append (begun T n i) (below T kid),
      )

pub begun-all : (T : Table) → Formed T → (n i : ℕ) → length (kids_of T n) ≤ i → begun T n i ≡ below T n
begun-all T formed n i h = ap (λ ks. n ∷ (attrs_of T n ++ flat_map (below T) ks)) (take_all i (kids_of T n) h) ∙ sym ((ordered T formed).below_at n)

pub begun-none : (T : Table) (n : ℕ) → n ∷ attrs_of T n ≡ begun T n 0
begun-none T n = ap (λ l. n ∷ l) (sym (append-nil (attrs_of T n)))

-- ranks for one part of a list and then for another
pub more-ranked : (old now after : Parts) (place next : ℕ) (xs ys : List ℕ) → now ≡ record old { nodes = ranked place xs old.nodes } → next ≡ place + length xs
    → after ≡ record now { nodes = ranked next ys now.nodes } → after ≡ record old { nodes = ranked place (xs ++ ys) old.nodes }
more-ranked old now after place next xs ys is next_is after_is =
    after_is
    ∙ (ap₂ (λ (parts : Parts) k. record parts { nodes = ranked k ys parts.nodes }) is next_is
    ∙ ap (λ l. record old { nodes = l }) (sym (ranked-append place xs ys old.nodes)))
