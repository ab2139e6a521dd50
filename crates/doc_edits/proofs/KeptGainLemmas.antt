-- The kept nodes with one attribute more.
use Rattle.std.proofs.Common.{◌≡◌, ◌≢◌, ℕ, ◌<◌, true, List, [], ◌∷◌, length, get_or, set, None, refl, sym, ap, ◌∙◌, ⊎_elim, arith}
use Rattle.doc_table.specs.declared.node.Label.TheVariants as label
use Rattle.doc_table.specs.Table.{Table, Name, attribute, parent_at, is_live, numbered}
use Rattle.doc_table.specs.Walks.{ancestors, above, order}
use Rattle.doc_table.specs.Growth.{with_node}
use Rattle.doc_table.specs.Kinds.{holds_kids}
use Rattle.doc_table.specs.inner.Growing.{grown}
use Rattle.doc_table.specs.inner.Kept.{depth_at, rank_at, kept_link}
use Rattle.doc_table.specs.inner.Parts.{Parts, IsSound, table_of}
use Rattle.doc_table.specs.inner.Sound.{Formed}
use Rattle.doc_table.proofs.Appending.{holder-live}
use Rattle.doc_table.proofs.Growing.{live-kept, old-number}
use Rattle.doc_table.proofs.Grown.{way-kept}
use Rattle.doc_table.proofs.ListLemmas.{In-mem, eq_or}
use Rattle.doc_table.proofs.SoundLemmas.{names-set, names-push, depth-linked, rank-linked, table-grown, kept-new, kept-others, length-grown_nodes}
use Rattle.doc_table.proofs.TreeLaws.{ordered, ways-up}
use Rattle.doc_edits.specs.declared.ranking.Spread.{Spread}
use Rattle.doc_edits.specs.Changes.{gained}
use Rattle.doc_edits.specs.Fitting.{MayGain}
use Rattle.doc_edits.specs.inner.Ranking.{HasRoom, Seam, reranked}
use Rattle.doc_edits.proofs.GainLemmas.{gained-with_node, newest, counted, held, formed-gained}
use Rattle.doc_edits.proofs.RankingLemmas.{Standing, standing-sound, anew-sound}
use Rattle.doc_edits.proofs.SeamLemmas.{Joined, order-gained}
use Rattle.doc_edits.proofs.SpreadLemmas.{joined-ranks}

module _ (old : Parts) (n id depth : ℕ) (value : List ℕ) (spread : Spread) (s : IsSound old) (known : id < length old.names)
    (may : MayGain (table_of old) n (numbered old.names id) value) (depth_is : depth ≡ length (above (table_of old) n)) where
  abbrev T : Table
  T = table_of old

  abbrev name : Name
  name = numbered old.names id

  abbrev U : Table
  U = with_node T n (attribute name value)

  abbrev new : Parts
  new = grown old n depth spread.first (label.Attribute id) value

  alive : is_live T n ≡ true
  alive = holder-live T n (ap holds_kids may.under)

  table : table_of new ≡ U
  table = table-grown old.names old.nodes n depth spread.first (label.Attribute id) value

  pub table-gained : table_of new ≡ gained T n name value
  table-gained = table ∙ sym (gained-with_node T n name value)

  way-old : (m : ℕ) → is_live T m ≡ true → ancestors U m ≡ ancestors T m
  way-old m lives = way-kept T n (attribute name value) s.formed.forest alive s.formed.whole m lives

  way-new : ancestors U (length T) ≡ above T n
  way-new =
      (ways-up U (formed-gained T n name value s.formed may)).ancestors_at (length T) n (ap parent_at (newest T n name value s.formed may))
      ∙ ap (λ l. n ∷ l) (way-old n alive)

  depths : (m : ℕ) → is_live U m ≡ true → depth_at (get_or new.nodes m None) ≡ length (ancestors U m)
  depths m h =
      ⊎_elim
      (λ (e : m ≡ length T).
      ap depth_at (kept-new old.names old.nodes n depth spread.first (label.Attribute id) value m e)
      ∙ (depth_is ∙ ap length (sym (ap (ancestors U) e ∙ way-new))))
      (λ (ne : m ≢ length T).
      let lives : is_live T m ≡ true = sym (live-kept T n (attribute name value) alive m ne) ∙ h in
      kept-others old.names old.nodes n depth spread.first (label.Attribute id) value depth_at (depth-linked (length old.nodes) true) m ne
      ∙ (s.depths m lives ∙ ap length (sym (way-old m lives))))
      (eq_or m (length T))

  standing : Standing new.nodes new.names new.live new.text_bytes
  standing = record {
    formed = rw table (formed-gained T n name value s.formed may);
    known = names-push (length old.names) (set old.nodes n (kept_link (length old.nodes) true (get_or old.nodes n None))) _ (names-set (length old.names) old.nodes n (length old.nodes) true s.known) known;
    depths = rw table depths;
    live_is = rw table (omega (arith, s.live_is, counted T n name value s.formed may));
    bytes_is = rw table (omega (arith, s.bytes_is, held T n name value s.formed may));
  }

  pub formed-new : Formed (table_of new)
  formed-new = standing.formed

  -- a sound table stays so where there was room for the rank of the attribute
  pub roomy : (0 < spread.step → (front back : List ℕ) → Seam T n 0 front back → HasRoom old.nodes front back 1 spread) → 0 < spread.step → IsSound new
  roomy room some =
      let j : Joined T (gained T n name value) n 0 (length T ∷ []) = order-gained T n name value s.formed may in
      let last : rank_at (get_or new.nodes (length T) None) ≡ spread.first =
      ap rank_at (kept-new old.names old.nodes n depth spread.first (label.Attribute id) value (length T) refl) in
      standing-sound new.nodes new.names new.live new.text_bytes standing
      (rw table-gained
      (joined-ranks T (gained T n name value) old.nodes new.nodes n 0 (length T ∷ []) j 1 spread (room some j.front j.back j.seam)
      (λ m h. kept-others old.names old.nodes n depth spread.first (label.Attribute id) value rank_at (rank-linked (length old.nodes) true) m
      (old-number T n (attribute name value) alive m ((ordered T s.formed).live_in_order m ∙ In-mem m (order T) h)))
      (omega (arith, last), omega (arith, last, some))
      (length-grown_nodes old.names old.nodes n depth spread.first (label.Attribute id) value)))

  -- and where ranks are given anew
  pub anew : IsSound (reranked new)
  anew = anew-sound new.nodes new.names new.live new.text_bytes standing
