-- A node that went comes again as the fragment of its events: nothing speaks against it at its place.
use Rattle.std.proofs.Common.{◌≡◌, ℕ, ◌+◌, ◌-◌, ◌≤◌, zero, suc, Bool, true, false, ◌&&◌, ◌||◌, ◌==◌, eqb-true, List, [], ◌∷◌, ◌++◌, length, take, Option, None, Some, refl, ap, ap₂, ◌∙◌, subst, arith, length-append}
use Rattle.std.proofs.Math.Seq.{drop-append_seam, take-append_seam}
use Rattle.std.specs.Prelude.{sum_by}
use Rattle.std.specs.List.{list_any}
use Rattle.std.specs.Option.{option_or}
use Rattle.pyx_core.specs.declared.event.Event.{Event}
use Rattle.doc_edits.specs.Fitting.{MayTake}
use Rattle.doc_tree.specs.limits.TheConstants.{MAX_LIVE_NODES, MAX_LIVE_TEXT_BYTES, MAX_NODE_NUMBERS}
use Rattle.doc_tree.specs.Growth.{ends_in_text}
use Rattle.doc_tree.specs.Kinds.{can_be_kid, holds_kids, is_element, is_text}
use Rattle.doc_tree.specs.Laws.{WellFormed}
use Rattle.doc_tree.specs.Lines.{lines, lines_below}
use Rattle.doc_tree.specs.Refusals.{is_beside_text, place_refusal}
use Rattle.doc_tree.specs.Scope.{Decl, scope_at}
use Rattle.doc_tree.specs.Table.{Content, Contents, Table, root, element, attribute, text, comment, instruction, content_of, kids_of, kind_at, kind_of, value_of}
use Rattle.doc_tree.specs.Walks.{above, below, order, text_bytes, walk}
use Rattle.name_scopes.specs.Fragments.{ScopedPiece, event_nodes, is_too_deep, piece_refusal, plain_text, some_tag, tag_doubles, tag_lacks_prefix}
use Rattle.name_scopes_laws.specs.Pieces.{FragmentsHavePieces}
use Rattle.subtree_events.specs.Events.{begin_events, end_events, events_below}
use Rattle.subtree_events.specs.Subtrees.{IsSubtree}
use Rattle.edit_commands.specs.Commands.{insertion_refusal, size_refusal, top_kind}
use Rattle.edit_iso_laws.proofs.CommandLemmas.{piece-may}
use Rattle.edit_undo_laws.proofs.GainingAttributes.{not-less}
use Rattle.edit_undo_laws.proofs.LosingAttributes.{with_nodes}

-- the kind of the first event is the node's
top-of : (T : Table) (n : ℕ) (c : Option Content) (A B : List Event) → can_be_kid (kind_at c) ≡ true → top_kind ((begin_events T n c ++ A) ++ B) ≡ kind_at c
top-of T n None A B can = absurd (cc)
top-of T n (Some root) A B can = absurd (cc)
top-of T n (Some (element name decls)) A B can = refl
top-of T n (Some (attribute name value)) A B can = absurd (cc)
top-of T n (Some (text characters)) A B can = refl
top-of T n (Some (comment characters)) A B can = refl
top-of T n (Some (instruction name body)) A B can = refl

top-walked : (T : Table) (levels n : ℕ) → 1 ≤ levels → can_be_kid (kind_of T n) ≡ true →
    top_kind (walk T (λ m. begin_events T m (content_of T m)) (λ m. end_events (content_of T m)) levels n) ≡ kind_of T n
top-walked T zero n some can = absurd (omega (arith, some))
top-walked T (suc levels) n some can = top-of T n (content_of T n) _ _ can

-- a place for the node, in a table that lacks it
pub record HasPlace (T : Table) (n p : ℕ) (front back : List ℕ) (R : Table) (base : Contents) : Type 0 where
  pub formed : WellFormed R
  pub holds : holds_kids (kind_of R p) ≡ true
  pub scope : scope_at R p ≡ scope_at T p
  pub way : length (above R p) ≡ length (above T p)
  pub kids : kids_of R p ≡ front ++ back
  pub apart : is_text (kind_of T n) ≡ true → (ends_in_text R front ≡ false) × (list_any (λ k. is_text (kind_of R k)) (take 1 back) ≡ false)
  pub inside : p ≡ 0 → (is_element (kind_of T n) ≡ false) × (is_text (kind_of T n) ≡ false)
  pub nodes : length (order R) + length (below T n) ≤ length (order T)
  pub bytes : text_bytes R + sum_by (λ m. length (value_of T m)) (below T n) ≤ text_bytes T
  pub numbers : length R + length (below T n) ≤ MAX_NODE_NUMBERS
  pub bound : length (order T) ≤ base.pair_cap

-- a piece of the fragment
pub record Comes (T : Table) (n p at : ℕ) (R : Table) : Type 0 where
  pub piece : Table
  pub formed : WellFormed piece
  pub scoped : ScopedPiece (scope_at R p) (events_below T n) piece
  pub same : lines piece ≡ lines_below T n
  pub may : MayTake R p (at - 1) piece

module _ (T : Table) (n p : ℕ) (front back : List ℕ) (R : Table) (base : Contents) (form : WellFormed T) (some : 1 ≤ length T) (can : can_be_kid (kind_of T n) ≡ true)
    (sub : IsSubtree T n p (events_below T n)) (h : HasPlace T n p front back R base) (at : ℕ) (is-at : at - 1 ≡ length front) where
  abbrev events : List Event
  events = events_below T n

  top : top_kind events ≡ kind_of T n
  top = top-walked T (length T) n some can

  among : at - 1 ≤ length (kids_of R p)
  among = omega (arith, is-at, ap length h.kids, length-append front back)

  rooted : ((p == 0) && (is_element (kind_of T n) || is_text (kind_of T n))) ≡ false
  rooted = by (p == 0) refl
    where
      by : (b : Bool) → (p == 0) ≡ b → (b && (is_element (kind_of T n) || is_text (kind_of T n))) ≡ false
      by false e = refl
      by true e = let neither = h.inside (eqb-true p 0 e) in rw (neither.0, neither.1) refl

  beside : (is_text (kind_of T n) && is_beside_text R (at - 1) (kids_of R p)) ≡ false
  beside = by (is_text (kind_of T n)) refl
    where
      by : (b : Bool) → is_text (kind_of T n) ≡ b → (b && is_beside_text R (at - 1) (kids_of R p)) ≡ false
      by false e = refl
      by true e =
          let apart = h.apart e in
          ap₂ (λ (i : ℕ) (ks : List ℕ). is_beside_text R i ks) is-at h.kids
          ∙ (ap₂ (λ (xs ys : List ℕ). ends_in_text R xs || list_any (λ k. is_text (kind_of R k)) (take 1 ys)) (take-append_seam front back) (drop-append_seam front back)
          ∙ ap₂ (λ (a b : Bool). a || b) apart.0 apart.1)

  place-free : place_refusal R p at (top_kind events) ≡ None
  place-free =
      ap (place_refusal R p at) top
      ∙ rw (h.holds, not-less (length (kids_of R p)) (at - 1) among, rooted, beside) refl

  piece-free : piece_refusal R p events ≡ None
  piece-free =
      rw (
        ap (λ (s : List Decl). some_tag tag_lacks_prefix (s ∷ []) events) h.scope ∙ sub.known,
        ap (λ (s : List Decl). some_tag tag_doubles (s ∷ []) events) h.scope ∙ sub.apart,
        not-less MAX_LIVE_NODES (length (order R) + sum_by event_nodes events) (omega (arith, sub.nodes, h.nodes, form.few_nodes)),
        ap (λ k. is_too_deep k events) h.way ∙ sub.shallow,
      ) refl

  size-free : size_refusal (with_nodes base R) events ≡ None
  size-free =
      rw (
        not-less MAX_LIVE_TEXT_BYTES (text_bytes R + sum_by plain_text events) (omega (arith, sub.text, h.bytes, form.little_text)),
        not-less MAX_NODE_NUMBERS (length R + sum_by event_nodes events) (omega (arith, sub.nodes, h.numbers)),
        not-less base.pair_cap (length (order R) + sum_by event_nodes events) (omega (arith, sub.nodes, h.nodes, h.bound)),
      ) refl

  pub comes-free : insertion_refusal (with_nodes base R) p at events ≡ None
  comes-free = ap₂ option_or place-free (ap₂ option_or piece-free size-free)

  pub comes-again : FragmentsHavePieces → Comes T n p at R
  comes-again pieces =
      let little : sum_by plain_text events ≤ MAX_LIVE_TEXT_BYTES = omega (arith, sub.text, h.bytes, form.little_text) in
      let it = pieces R p events h.formed sub.fragment sub.names little piece-free in
      let scoped : ScopedPiece (scope_at T p) events it.0 = subst (λ (s : List Decl). ScopedPiece s events it.0) h.scope it.2 in
      record {
        piece = it.0;
        formed = it.1;
        scoped = it.2;
        same = sub.again it.0 it.1 scoped;
        may = piece-may (with_nodes base R) p at events it.0 it.1 it.2 comes-free;
      }
