-- The kept nodes, one of which holds another content of the same kind.
use Rattle.std.proofs.Common.{◌≡◌, ℕ, ◌*◌, suc, zero, List, [], ◌∷◌, length, length-set, get_or, set, Option, None, Some, true, refl, sym, ap, ◌∙◌}
use Rattle.std.proofs.lemmas.List.{map-set}
use Rattle.doc_table.specs.declared.node.Node.{Node}
use Rattle.doc_table.specs.declared.node.NodeContent.{NodeContent}
use Rattle.doc_table.specs.Lists.{Rise}
use Rattle.doc_table.specs.Table.{Table, Content, Name, is_live}
use Rattle.doc_table.specs.Walks.{ancestors, order}
use Rattle.doc_table.specs.declared.ranks.TheConstants.{RANK_STEP}
use Rattle.doc_table.specs.inner.Kept.{depth_at, rank_at, ranks_of, NameIsBelow, NamesAreBelow}
use Rattle.doc_table.specs.inner.Sound.{Formed, Sound, text_held}
use Rattle.doc_table.specs.inner.Views.{content_seen, node_seen, table_seen}
use Rattle.doc_table.proofs.Counts.{sum-set}
use Rattle.doc_table.proofs.SoundLemmas.{seen-entry, number-set, ranks-same}
use Rattle.doc_edits.specs.inner.KeptContents.{kept_holding}
use Rattle.doc_edits.proofs.RecontentLemmas.{KeepsKind, recontent, recontented, same-live, same-ancestors, same-order}

-- what is kept of a content changes as what is seen of it, and its name stays among the first so many
pub record IsSeenAs (names : List Name) (change : Content → Content) (put : NodeContent → NodeContent) : Type 0 where
  pub seen : (c : NodeContent) → content_seen names (put c) ≡ change (content_seen names c)
  pub known : (c : NodeContent) → NameIsBelow (length names) c → NameIsBelow (length names) (put c)

depth-kept : (put : NodeContent → NodeContent) (o : Option Node) → depth_at (kept_holding put o) ≡ depth_at o
depth-kept put None = refl
depth-kept put (Some node) = refl

rank-kept : (put : NodeContent → NodeContent) (o : Option Node) → rank_at (kept_holding put o) ≡ rank_at o
rank-kept put None = refl
rank-kept put (Some node) = refl

module _ (names : List Name) (change : Content → Content) (put : NodeContent → NodeContent) (put_as : IsSeenAs names change put) where
  node-put : (o : Option Node) → node_seen names (kept_holding put o) ≡ recontent change (node_seen names o)
  node-put None = refl
  node-put (Some node) = ap (λ c. Some (record { parent = node.parent; kids = node.kids; attributes = node.attributes; content = c })) (put_as.seen node.content)

  names-put : (nodes : List (Option Node)) (n : ℕ) → NamesAreBelow (length names) nodes → NamesAreBelow (length names) (set nodes n (kept_holding put (get_or nodes n None)))
  names-put [] n k = tt
  names-put (None ∷ nodes) zero k = k
  names-put (Some node ∷ nodes) zero k = (put_as.known node.content k.0, k.1)
  names-put (None ∷ nodes) (suc n) k = names-put nodes n k
  names-put (Some node ∷ nodes) (suc n) k = (k.0, names-put nodes n k.1)

  module _ (nodes : List (Option Node)) (n : ℕ) where
    abbrev T : Table
    T = table_seen names nodes

    abbrev U : Table
    U = recontented change T n

    abbrev after : List (Option Node)
    after = set nodes n (kept_holding put (get_or nodes n None))

    pub table-put : table_seen names after ≡ U
    table-put =
        map-set (node_seen names) nodes n (kept_holding put (get_or nodes n None))
        ∙ ap (set T n) (node-put (get_or nodes n None) ∙ ap (recontent change) (sym (seen-entry names nodes n)))

    -- a sound tree stays so where the table stays a tree's
    pub sound-put : KeepsKind change → (live bytes bytes_after : ℕ) → Sound nodes names live bytes → Formed U → bytes_after ≡ text_held U → Sound after names live bytes_after
    sound-put keeps live bytes bytes_after s formed counted =
        let depths : (m : ℕ) → is_live U m ≡ true → depth_at (get_or after m None) ≡ length (ancestors U m) =
        λ m h. number-set depth_at nodes n m _ (depth-kept put (get_or nodes n None))
        ∙ (s.depths m (sym (same-live change keeps T n m) ∙ h) ∙ ap length (sym (same-ancestors change keeps T n m))) in
        let ranks : Rise 0 (ranks_of after (order U)) (RANK_STEP * length after) =
        rw (same-order change keeps T n s.formed.forest s.formed.whole, length-set nodes n (kept_holding put (get_or nodes n None)))
        (ranks-same nodes n (kept_holding put (get_or nodes n None)) (order T) 0 (RANK_STEP * length nodes) (rank-kept put (get_or nodes n None)) s.ranks) in
        record {
          formed = rw table-put formed;
          known = names-put nodes n s.known;
          depths = rw table-put depths;
          ranks = rw table-put ranks;
          live_is = rw table-put (s.live_is ∙ sym (sum-set (λ _. 1) T n (recontent change) refl (λ node. refl)));
          bytes_is = rw table-put counted;
        }
