-- What an insert leaves of the parts of a table: names that grew, and the nodes with the piece.
use Rattle.std.proofs.Common.{◌≡◌, ℕ, ◌+◌, ◌-◌, ◌*◌, ◌<◌, ◌≤◌, ◌^◌, Bool, true, false, List, length, get_or, Option, None, Some, is_some, refl, sym, ap, ap₂, ◌∙◌, true≢false, arith}
use Rattle.std.proofs.Math.Nat.{mul-le-mul_right}
use Rattle.doc_table.specs.declared.limits.TheConstants.{MAX_DEPTH}
use Rattle.doc_table.specs.declared.node.Node.{Node}
use Rattle.doc_table.specs.Lists.{mem, place_in}
use Rattle.doc_table.specs.Table.{Name, Table, is_live}
use Rattle.doc_table.specs.Walks.{order}
use Rattle.doc_table.specs.inner.Kept.{depth_at}
use Rattle.doc_table.specs.inner.Parts.{Parts, IsSound, table_of}
use Rattle.doc_table.specs.inner.Sound.{Formed}
use Rattle.doc_table.specs.inner.Views.{node_seen}
use Rattle.doc_table.proofs.ListLemmas.{mem-In}
use Rattle.doc_table.proofs.SoundLemmas.{seen-entry, seen-length}
use Rattle.doc_table.proofs.Telling.{order-flat}
use Rattle.doc_table.proofs.TreeLaws.{ways-up}
use Rattle.doc_table.proofs.Ways.{live-below}
use Rattle.doc_edits.specs.declared.copying.Placement.{Placement}
use Rattle.doc_edits.specs.declared.ranking.Spread.{Spread}
use Rattle.doc_edits.specs.Changes.{inserted, nodes_in}
use Rattle.doc_edits.specs.Fitting.{MayTake}
use Rattle.doc_edits.specs.Keeping.{NamesGrow}
use Rattle.doc_edits.specs.inner.Copies.{IsCopied, IsPlacement, number_in, rank_given}
use Rattle.doc_edits.specs.inner.Grafts.{grafted}
use Rattle.doc_edits.specs.inner.Ranking.{HasRoom, Seam, reranked}
use Rattle.doc_edits.proofs.InsertedSoundLemmas.{anew-inserted, roomy-inserted, seen-inserted, standing-inserted}
use Rattle.doc_edits.proofs.InsertionLemmas.{nodes-flat, nodes-live}
use Rattle.doc_edits.proofs.NumberingLemmas.{place-most}

-- numbers are small
dead-depth : (names : List Name) (o : Option Node) → is_some (node_seen names o) ≡ false → depth_at o ≡ 0
dead-depth names None h = refl
dead-depth names (Some node) h = absurd (true≢false h)

pub depth-small : (parts : Parts) → IsSound parts → (n : ℕ) → depth_at (get_or parts.nodes n None) ≤ MAX_DEPTH + 1
depth-small parts s n = by (is_live (table_of parts) n) refl
  where
    by : (b : Bool) → is_live (table_of parts) n ≡ b → depth_at (get_or parts.nodes n None) ≤ MAX_DEPTH + 1
    by true e = omega (arith, s.depths n e, (ways-up (table_of parts) s.formed).ancestors_bound n)
    by false e =
        omega (arith, dead-depth parts.names (get_or parts.nodes n None) (ap is_some (sym (seen-entry parts.names parts.nodes n)) ∙ e))

pub node-short : (parts : Parts) → IsSound parts → (m : ℕ) → mem m (nodes_in (table_of parts)) ≡ true → m < length parts.nodes
node-short parts s m h =
    let lives : is_live (table_of parts) m ≡ true =
    nodes-live (table_of parts) s.formed.forest s.formed.whole (nodes-flat (table_of parts) s.formed) m (mem-In m (nodes_in (table_of parts)) h) in
    omega (arith, live-below (table_of parts) m lives, seen-length parts.names parts.nodes)

-- all nodes of a piece but its root are put in
pub piece-count : (P : Table) → (f : Formed P) → length (order P) ≡ 1 + length (nodes_in P)
piece-count P f = ap length (order-flat P f.forest f.whole) ∙ omega (arith, ap length (nodes-flat P f))

-- a rank that a node of the piece gets is small
pub rank-small : (T P : Table) (p : ℕ) (spread : Spread) (places : Placement) (m : ℕ) → IsPlacement T p spread P places → spread.first + length (nodes_in P) * spread.step < 2 ^ 64 →
    rank_given places m < 2 ^ 64
rank-small T P p spread places m is small =
    let place : number_in places m - places.first ≡ place_in m (nodes_in P) = omega (arith, is.numbers m, is.first) in
    let rank : rank_given places m ≡ spread.first + place_in m (nodes_in P) * spread.step = ap₂ (λ (sp : Spread) k. sp.first + k * sp.step) is.spread_is place in
    omega (arith, rank, small, place-most m (nodes_in P), mul-le-mul_right spread.step (place-most m (nodes_in P)))

-- a table with a piece: formed, and sound with ranks that have room or are given anew
pub record PutIn (old piece after : Parts) (p before : ℕ) (spread : Spread) : Type 0 where
  pub formed : Formed (table_of after)
  pub table : table_of after ≡ inserted (table_of old) p before (table_of piece)
  pub roomy : (0 < spread.step → (front back : List ℕ) → Seam (table_of old) p before front back → HasRoom old.nodes front back (length (nodes_in (table_of piece))) spread) → 0 < spread.step →
      IsSound after
  pub anew : IsSound (reranked after)

put-all : (old piece : Parts) (p before : ℕ) (spread : Spread) (names : List Name) (copies : List (Option Node)) → NamesGrow old.names names → IsSound old → IsSound piece
    → MayTake (table_of old) p before (table_of piece) → IsCopied names (table_of old) p spread piece copies →
    PutIn old piece (record {
      nodes = grafted p before (length (table_of old)) copies old.nodes;
      names = names;
      live = old.live + length (nodes_in (table_of piece));
      text_bytes = old.text_bytes + piece.text_bytes;
      pair_cap = old.pair_cap;
    }) p before spread
put-all old piece p before spread names copies grow s v may is =
    let standing = standing-inserted old.names names piece.names old.nodes piece.nodes old.live old.text_bytes piece.live piece.text_bytes p before spread is.places copies s v grow may is.placed is.copied in
    record {
      formed = standing.formed;
      table = seen-inserted old.names names piece.names old.nodes piece.nodes old.live old.text_bytes piece.live piece.text_bytes p before spread is.places copies s v grow may is.placed is.copied;
      roomy = roomy-inserted old.names names piece.names old.nodes piece.nodes old.live old.text_bytes piece.live piece.text_bytes p before spread is.places copies s v grow may is.placed is.copied;
      anew = anew-inserted old.names names piece.names old.nodes piece.nodes old.live old.text_bytes piece.live piece.text_bytes p before spread is.places copies s v grow may is.placed is.copied;
    }

-- the same, with each part by itself, where names grew first
pub put : (old named piece : Parts) (p before first count : ℕ) (spread : Spread) (copies nodes new : List (Option Node)) (names : List Name) (live bytes cap text : ℕ)
    → named ≡ record old { names = named.names } → record { nodes = nodes; names = names; live = live; text_bytes = bytes; pair_cap = cap } ≡ named → first ≡ length (table_of old)
    → text ≡ piece.text_bytes → count ≡ length (nodes_in (table_of piece)) → new ≡ grafted p before first copies nodes → NamesGrow old.names named.names
    → IsSound old → IsSound piece → MayTake (table_of old) p before (table_of piece) → IsCopied named.names (table_of old) p spread piece copies →
    PutIn old piece (record { nodes = new; names = names; live = live + count; text_bytes = bytes + text; pair_cap = cap }) p before spread
put old named piece p before first count spread copies nodes new names live bytes cap text named_is view is_first is_text is_count is_new grow s v may is =
    let parts = view ∙ named_is in
    let new_is : new ≡ grafted p before (length (table_of old)) copies old.nodes =
    is_new ∙ ap₂ (λ k l. grafted p before k copies l) is_first (ap (λ (all : Parts). all.nodes) parts) in
    let names_are : names ≡ named.names = ap (λ (all : Parts). all.names) view in
    let live_is : live ≡ old.live = ap (λ (all : Parts). all.live) parts in
    let bytes_are : bytes ≡ old.text_bytes = ap (λ (all : Parts). all.text_bytes) parts in
    let cap_is : cap ≡ old.pair_cap = ap (λ (all : Parts). all.pair_cap) parts in
    rw (new_is, names_are, live_is, bytes_are, cap_is, is_count, is_text) (put-all old piece p before spread named.names copies grow s v may is)
