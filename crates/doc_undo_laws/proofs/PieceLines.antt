-- The lines of a piece that stands in a table: they are those of the piece.
use Rattle.std.proofs.Common.{◌≡◌, ℕ, true, [], ◌∷◌, length, map, sym, ap, ◌∙◌, inr, subst, append-nil, arith}
use Rattle.std.specs.List.{flat_map}
use Rattle.doc_table.specs.Lists.{place_in}
use Rattle.doc_table.specs.Table.{Table, content_at, entry_at, kids_at, attrs_at, attrs_of, content_of, is_live, kids_of}
use Rattle.doc_table.specs.Walks.{below}
use Rattle.doc_table.specs.Lines.{first_lines, lines, lines_at, lines_below, opens}
use Rattle.doc_table.specs.inner.Sound.{Formed}
use Rattle.doc_table.proofs.ListLemmas.{In, In-mem, occurs-head}
use Rattle.doc_table.proofs.TreeLaws.{ordered, well-formed}
use Rattle.doc_edits.specs.Changes.{given_number, inserted, nodes_in}
use Rattle.doc_edits.proofs.InsertionLemmas.{entry-new, given-attributes, given-content, given-kids}
use Rattle.doc_edits.proofs.InsertionWayLemmas.{inside}
use Rattle.doc_edits.proofs.NumberingLemmas.{place-first}
use Rattle.doc_undo_laws.proofs.Alongside.{Says, along, flat_map-moved, lines-top}

-- a table shows the nodes of a piece under other numbers
pub record ShowsPiece (g : ℕ → ℕ) (P U : Table) (m : ℕ) : Type 0 where
  pub content : content_of U (g m) ≡ content_of P m
  pub attributes : attrs_of U (g m) ≡ map g (attrs_of P m)
  pub kids : kids_of U (g m) ≡ map g (kids_of P m)

module _ (P : Table) (p : Formed P) where
  pub nodes-top : (top : ℕ) → kids_of P 0 ≡ top ∷ [] → nodes_in P ≡ below P top
  nodes-top top one = ap (flat_map (below P)) one ∙ append-nil (below P top)

  pub top-in : (top : ℕ) → kids_of P 0 ≡ top ∷ [] → In top (nodes_in P)
  top-in top one = subst (In top) (sym (nodes-top top one ∙ (ordered P p).below_at top)) (occurs-head top _)

  -- its top gets the next number
  pub top-number : (T : Table) (top : ℕ) → kids_of P 0 ≡ top ∷ [] → given_number T P top ≡ length T
  top-number T top one =
      let first : place_in top (nodes_in P) ≡ 0 = ap (place_in top) (nodes-top top one ∙ (ordered P p).below_at top) ∙ place-first top _ in
      omega (arith, first)

  attribute-in : (m a : ℕ) → In a (attrs_of P m) → In a (nodes_in P)
  attribute-in m a h = inside P p a m ((well-formed P p).attribute_parent m a (In-mem a (attrs_of P m) h))

  pub kid-in : (m k : ℕ) → In k (kids_of P m) → In k (nodes_in P)
  kid-in m k h = inside P p k m ((well-formed P p).kid_parent m k (In-mem k (kids_of P m) h))

  pub piece-lines : (g : ℕ → ℕ) (U : Table) (top : ℕ) → Formed U → kids_of P 0 ≡ top ∷ [] → ((m : ℕ) → In m (nodes_in P) → ShowsPiece g P U m) → lines_below U (g top) ≡ lines P
  piece-lines g U top u one shows =
      along g P U p u (λ m. In m (nodes_in P))
      (λ m h.
      let s : ShowsPiece g P U m = shows m h in
      let says : Says g P U (λ k. In k (nodes_in P)) m = record {
        content = s.content;
        attributes = ap (flat_map (opens U)) s.attributes ∙ flat_map-moved (opens U) (opens P) g (attrs_of P m) (λ a i. ap (lines_at first_lines) (shows a (attribute-in m a i)).content);
        kids = s.kids;
        inside = λ k i. kid-in m k i;
      } in inr says)
      top (top-in top one)
      ∙ sym (lines-top P top p one)

  pub new-shown : (T : Table) (q before : ℕ) → is_live T q ≡ true → (m : ℕ) → In m (nodes_in P) → ShowsPiece (given_number T P) P (inserted T q before P) m
  new-shown T q before live m h = record {
    content = ap content_at (entry-new T P q before live m h) ∙ given-content (given_number T P) q (entry_at P m);
    attributes = ap attrs_at (entry-new T P q before live m h) ∙ given-attributes (given_number T P) q (entry_at P m);
    kids = ap kids_at (entry-new T P q before live m h) ∙ given-kids (given_number T P) q (entry_at P m);
  }

  -- where it came, its top has the lines of the piece
  pub new-lines : (T : Table) (q before top : ℕ) → is_live T q ≡ true → kids_of P 0 ≡ top ∷ [] → Formed (inserted T q before P) → lines_below (inserted T q before P) (length T) ≡ lines P
  new-lines T q before top live one u =
      ap (lines_below (inserted T q before P)) (sym (top-number T top one))
      ∙ piece-lines (given_number T P) (inserted T q before P) top u one (new-shown T q before live)
