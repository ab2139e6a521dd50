-- A sound table stays sound where a node is unlinked and cleared with all below it.
use Rattle.std.proofs.Common.{◌≡◌, ℕ, ◌*◌, ◌<◌, true, List, [], ◌∷◌, ◌++◌, length, get_or, set, Option, None, Some, refl, sym, ap, ap₂, ◌∙◌, subst, arith, length-set}
use Rattle.doc_table.specs.declared.node.Node.{Node}
use Rattle.doc_table.specs.declared.ranks.TheConstants.{RANK_STEP}
use Rattle.doc_table.specs.Lists.{Distinct, Rise}
use Rattle.doc_table.specs.Table.{Table, Name, entry_at, kids_at, attrs_at, parent_of, is_live}
use Rattle.doc_table.specs.Walks.{ancestors, below, order}
use Rattle.doc_table.specs.inner.Kept.{depth_at, rank_at, ranks_of, NamesAreBelow}
use Rattle.doc_table.specs.inner.Parts.{Parts, IsSound, table_of}
use Rattle.doc_table.specs.inner.Sound.{Formed, table_sum, text_in}
use Rattle.doc_table.specs.inner.Views.{node_seen, table_seen}
use Rattle.doc_table.proofs.Counts.{sum-set}
use Rattle.doc_table.proofs.ListLemmas.{In, In-mem, mem-In}
use Rattle.doc_table.proofs.Rising.{map-agree, ranks-less}
use Rattle.doc_table.proofs.SoundLemmas.{number-set, seen-entry, seen-length}
use Rattle.doc_table.proofs.TreeLaws.{ordered, well-formed}
use Rattle.doc_table.proofs.Ways.{live-below}
use Rattle.doc_edits.specs.Changes.{changed_at, cleared, removed, removed_from, without_link}
use Rattle.doc_edits.specs.Fitting.{MayGo}
use Rattle.doc_edits.specs.inner.Copies.{NameIsKnown}
use Rattle.doc_edits.specs.inner.Grafts.{kept_kids}
use Rattle.doc_edits.specs.inner.Removing.{Clears, Counted, HasBranch, emptied, kept_attributes, kept_without}
use Rattle.doc_edits.proofs.ClearLemmas.{cut}
use Rattle.doc_edits.proofs.ClearingLemmas.{emptied-kept, seen-emptied}
use Rattle.doc_edits.proofs.CopyLemmas.{names-changed}
use Rattle.doc_edits.proofs.RemovalLemmas.{removals-keep-trees, cutting, out, way-left, live-owner}
use Rattle.doc_edits.proofs.RemainderLemmas.{stays-cut}
use Rattle.doc_edits.proofs.TableLemmas.{changed-other}
use Rattle.doc_edits.proofs.UnlinkingLemmas.{depth-less, known-less, rank-less, seen-unlinked}

kids-seen : (names : List Name) (o : Option Node) → kids_at (node_seen names o) ≡ kept_kids o
kids-seen names None = refl
kids-seen names (Some node) = refl

attributes-seen : (names : List Name) (o : Option Node) → attrs_at (node_seen names o) ≡ kept_attributes o
attributes-seen names None = refl
attributes-seen names (Some node) = refl

-- names stay known, and no number is lost, where nodes are gone
names-emptied : (count : ℕ) (ns : List ℕ) (nodes : List (Option Node)) → NamesAreBelow count nodes → NamesAreBelow count (emptied ns nodes)
names-emptied count [] nodes h = h
names-emptied count (n ∷ ns) nodes h =
    let stays : (o : Option Node) → NameIsKnown count o → NameIsKnown count None = λ o k. tt in
    names-changed count (λ _. None) stays (emptied ns nodes) n (names-emptied count ns nodes h)

length-emptied : (ns : List ℕ) (nodes : List (Option Node)) → length (emptied ns nodes) ≡ length nodes
length-emptied [] nodes = refl
length-emptied (n ∷ ns) nodes = length-set (emptied ns nodes) n None ∙ length-emptied ns nodes

module _ (old : Parts) (sound : IsSound old) (n p : ℕ) (may : MayGo (table_of old) n) (up : parent_of (table_of old) n ≡ Some p) where
  abbrev T : Table
  T = table_of old

  formed : Formed T
  formed = sound.formed

  pub owner-kept : p < length old.nodes
  owner-kept = omega (arith, live-below T p (live-owner T n p formed up), seen-length old.names old.nodes)

  pub kids-once : Distinct (kept_kids (get_or old.nodes p None))
  kids-once =
      subst Distinct (ap kids_at (seen-entry old.names old.nodes p) ∙ kids-seen old.names (get_or old.nodes p None)) ((well-formed T formed).kids_once p)

  pub attributes-once : Distinct (kept_attributes (get_or old.nodes p None))
  attributes-once =
      subst Distinct (ap attrs_at (seen-entry old.names old.nodes p) ∙ attributes-seen old.names (get_or old.nodes p None)) ((well-formed T formed).attributes_once p)

  -- what is seen where the node is unlinked
  abbrev unlinked_now : List (Option Node)
  unlinked_now = set old.nodes p (kept_without n (get_or old.nodes p None))

  seen : table_seen old.names unlinked_now ≡ changed_at p (without_link n) T
  seen = seen-unlinked old.names old.nodes p n

  pub is-counted : Counted (record old { nodes = unlinked_now })
  is-counted = record {
    live_is = sound.live_is ∙ (sym (sum-set (λ _. 1) T p (without_link n) refl (λ node. refl)) ∙ ap (table_sum (λ _. 1)) (sym seen));
    bytes_is = sound.bytes_is ∙ (sym (sum-set text_in T p (without_link n) refl (λ node. refl)) ∙ ap (table_sum text_in) (sym seen));
  }

  branch : HasBranch T (table_seen old.names unlinked_now) n
  branch = record {
    formed = formed;
    lives = may.lives;
    same = λ m inside.
        ap (λ U. entry_at U m) seen
        ∙ changed-other T p (without_link n) m
        (λ e. absurd (let i : In p (below T n) = subst (λ q. In q (below T n)) e (mem-In m (below T n) inside) in omega (arith, i, (cutting T n p formed up).apart)));
  }

  -- and cleared
  abbrev left : List (Option Node)
  left = emptied (below T n) unlinked_now

  seen-left : table_seen old.names left ≡ cut T n p (below T n)
  seen-left = seen-emptied old.names (below T n) unlinked_now ∙ ap (cleared (below T n)) seen

  is-removed : removed T n ≡ cut T n p (below T n)
  is-removed = ap (removed_from T n) up

  abbrev U : Table
  U = cut T n p (below T n)

  formed-after : Formed U
  formed-after = subst Formed is-removed (removals-keep-trees T n formed may)

  -- what is kept beside what lives stays
  word-left : (f : Option Node → ℕ) → ((o : Option Node) → f (kept_without n o) ≡ f o) → (m : ℕ) → is_live U m ≡ true → f (get_or left m None) ≡ f (get_or old.nodes m None)
  word-left f same m live =
      ap f (emptied-kept (below T n) unlinked_now m (out T n p formed up m live))
      ∙ number-set f old.nodes p m (kept_without n (get_or old.nodes p None)) (same (get_or old.nodes p None))

  depths-left : (m : ℕ) → is_live U m ≡ true → depth_at (get_or left m None) ≡ length (ancestors U m)
  depths-left m live =
      word-left depth_at (depth-less n) m live
      ∙ (sound.depths m (stays-cut T n p (below T n) m live).live ∙ ap length (sym (way-left T n p formed up m live)))

  length-left : length left ≡ length old.nodes
  length-left = length-emptied (below T n) unlinked_now ∙ length-set old.nodes p (kept_without n (get_or old.nodes p None))

  ranks-left : Rise 0 (ranks_of left (order U)) (RANK_STEP * length left)
  ranks-left =
      let parts = (cutting T n p formed up).order_parts in
      let before : Rise 0 (ranks_of old.nodes (parts.front ++ (parts.gone ++ parts.back))) (RANK_STEP * length old.nodes) =
      subst (λ ns. Rise 0 (ranks_of old.nodes ns) (RANK_STEP * length old.nodes)) parts.was sound.ranks in
      let less : Rise 0 (ranks_of old.nodes (order U)) (RANK_STEP * length old.nodes) =
      subst (λ ns. Rise 0 (ranks_of old.nodes ns) (RANK_STEP * length old.nodes)) (sym parts.is) (ranks-less old.nodes parts.front parts.gone parts.back 0 _ before) in
      let same : ranks_of old.nodes (order U) ≡ ranks_of left (order U) =
      map-agree _ _ (order U) (λ m h. sym (word-left rank_at (rank-less n) m ((ordered U formed-after).live_in_order m ∙ In-mem m (order U) h))) in
      subst (λ k. Rise 0 (ranks_of left (order U)) (RANK_STEP * k)) (sym length-left) (subst (λ ranks. Rise 0 ranks (RANK_STEP * length old.nodes)) same less)

  known-left : NamesAreBelow (length old.names) left
  known-left =
      names-emptied (length old.names) (below T n) unlinked_now
      (names-changed (length old.names) (kept_without n) (known-less (length old.names) n) old.nodes p sound.known)

  -- what is left is sound, and the tree without the node
  pub outcome : (now new : Parts) → now ≡ record old { nodes = unlinked_now } → Clears now new n → new.names ≡ now.names → Counted new → IsSound new × (table_of new ≡ removed T n)
  outcome now new unlinked_is clears names_are counted =
      let is : new.nodes ≡ left =
      clears T (subst (λ (all : Parts). HasBranch T (table_of all) n) (sym unlinked_is) branch) ∙ ap (λ (all : Parts). emptied (below T n) all.nodes) unlinked_is in
      let same : new.names ≡ old.names = names_are ∙ ap (λ (all : Parts). all.names) unlinked_is in
      let table : table_of new ≡ U = ap₂ table_seen same is ∙ seen-left in (
        record {
          formed = subst Formed (sym table) formed-after;
          known = subst (λ ns. NamesAreBelow (length ns) new.nodes) (sym same) (subst (NamesAreBelow (length old.names)) (sym is) known-left);
          depths = subst (λ V. (m : ℕ) → is_live V m ≡ true → depth_at (get_or new.nodes m None) ≡ length (ancestors V m)) (sym table)
              (subst (λ nodes. (m : ℕ) → is_live U m ≡ true → depth_at (get_or nodes m None) ≡ length (ancestors U m)) (sym is) depths-left);
          ranks = subst (λ V. Rise 0 (ranks_of new.nodes (order V)) (RANK_STEP * length new.nodes)) (sym table)
              (subst (λ nodes. Rise 0 (ranks_of nodes (order U)) (RANK_STEP * length nodes)) (sym is) ranks-left);
          live_is = counted.live_is;
          bytes_is = counted.bytes_is;
        },
        table ∙ sym is-removed,
      )

-- the parts of which the nodes were unlinked
pub unlinked-parts : (now old : Parts) (n p : ℕ) (nodes : List (Option Node)) → now ≡ old → nodes ≡ set now.nodes p (kept_without n (get_or now.nodes p None)) →
    record now { nodes = nodes } ≡ record old { nodes = set old.nodes p (kept_without n (get_or old.nodes p None)) }
unlinked-parts now old n p nodes same is =
    ap (λ l. record now { nodes = l }) is ∙ ap (λ (all : Parts). record all { nodes = set all.nodes p (kept_without n (get_or all.nodes p None)) }) same
