-- A fragment comes under a node: against its piece speaks just what speaks against the fragment.
use Rattle.std.proofs.Common.{◌≡◌, ℕ, ◌+◌, ◌-◌, Bool, true, false, ◌||◌, List, [], ◌∷◌, length, Option, None, Some, refl, sym, ap, ap₂, ◌∙◌, subst, arith}
use Rattle.std.specs.List.{list_any}
use Rattle.std.specs.Option.{option_or}
use Rattle.std.specs.Prelude.{IfErr, Result, Ok, Err, if◌then◌else◌, nat_lt, slice_index_or, sum_by}
use Rattle.std.specs.Result.{IsErrAnd}
use Rattle.pyx_core.specs.declared.event.Event.{Event}
use Rattle.doc_table.specs.Laws.{HasWaysUp, Ordered, Walks, WellFormed}
use Rattle.doc_table.proofs.Forests.{forest_of, whole-of}
use Rattle.doc_table.specs.declared.limits.TheConstants.{MAX_LIVE_NODES, MAX_LIVE_TEXT_BYTES, MAX_NODE_NUMBERS}
use Rattle.doc_table.proofs.Appending.{holder-live}
use Rattle.doc_tree.specs.declared.refusal.EditError.{EditError}
use Rattle.doc_tree.specs.declared.refusal.EditError.TheVariants as edits
use Rattle.doc_tree.specs.declared.refusal.EditRefusal.{EditRefusal}
use Rattle.doc_tree.specs.declared.refusal.EditRefusal.TheVariants.{NoPrefix, SameAttribute, TooManyNodes, TooDeep, TooMuchText, IdsSpent, TooManyPairs}
use Rattle.doc_tree.specs.kind.Kind.{Kind}
use Rattle.doc_tree.specs.Refusals as tree
use Rattle.doc_tree.specs.Refusals.{RefusesFor, is_too_deep_at, place_refusal, room_refusal, top_of}
use Rattle.doc_tree.specs.Scope.{scope_at}
use Rattle.doc_tree.specs.Table.{Contents, Table, is_live, kids_of, kind_of}
use Rattle.doc_tree.specs.Walks.{above, ancestors, order, text_bytes}
use Rattle.doc_tree.proofs.InsertLemmas.{may-take, nodes-brought}
use Rattle.doc_tree.proofs.RefusalLemmas.{none-of-four}
use Rattle.doc_edits.specs.Changes.{inserted, nodes_in}
use Rattle.doc_edits.specs.Fitting.{MayTake}
use Rattle.doc_edits.proofs.InsertionWayLemmas.{way-old}
use Rattle.doc_edit_laws.specs.Along.{Edit, inserts}
use Rattle.doc_edit_laws.specs.Touching.{touched_kids}
use Rattle.name_scopes.specs.Fragments.{Refuses, ScopedPiece, event_nodes, is_too_deep, piece_refusal, plain_text, some_tag, tag_doubles, tag_lacks_prefix}
use Rattle.name_scopes.specs.Scoping.{InScope}
use Rattle.name_scopes.specs.declared.refusal.PieceError.{PieceError}
use Rattle.name_scopes.specs.declared.refusal.PieceError.TheVariants as pieces
use Rattle.name_scopes_laws.specs.Scopes.{AdditionsKeepScope}
use Rattle.edit_script.specs.declared.command.Command.TheVariants.{Insert}
use Rattle.edit_script.specs.declared.command.PathStep.{PathStep}
use Rattle.edit_commands.specs.declared.refusal.ApplyError.{ApplyError}
use Rattle.edit_commands.specs.declared.touched.Touched.{Touched}
use Rattle.edit_commands.specs.declared.touched.Touched.TheVariants.{Below}
use Rattle.edit_commands.specs.Commands.{RefusesAt, insertion_refusal, size_refusal, top_kind}
use Rattle.edit_commands.specs.Refusals.{of_edit, of_piece}
use Rattle.edit_commands.specs.Touched.{holds_cell}
use Rattle.edit_commands.specs.inner.Done.{Done}
use Rattle.edit_commands.proofs.DeleteLemmas.{kids-hold}
use Rattle.edit_commands.proofs.DepthLemmas.{kind-of-top, none-too-deep}

or-nothing : (b : Bool) → (b || false) ≡ b
or-nothing true = refl
or-nothing false = refl

module _ (before : Contents) (n at : ℕ) (events : List Event) (P : Table) (top : Kind) (form : WellFormed P) (ord : Ordered P) (ways : HasWaysUp P) (walks : Walks P)
    (scoped : ScopedPiece (scope_at before.nodes n) events P) (nodes : length (order P) ≡ 1 + sum_by event_nodes events) (text : text_bytes P ≡ sum_by plain_text events)
    (kind : top_kind events ≡ Some top) (place : place_refusal before.nodes n at (Some top) ≡ None) (free : piece_refusal before.nodes n events ≡ None) where
  abbrev T : Table
  T = before.nodes

  parts : (some_tag tag_lacks_prefix (scope_at T n ∷ []) events ≡ false) × (some_tag tag_doubles (scope_at T n ∷ []) events ≡ false)
      × (nat_lt MAX_LIVE_NODES (length (order T) + sum_by event_nodes events) ≡ false) × (is_too_deep (length (above T n)) events ≡ false)
  parts =
      none-of-four (some_tag tag_lacks_prefix (scope_at T n ∷ []) events) (some_tag tag_doubles (scope_at T n ∷ []) events)
      (nat_lt MAX_LIVE_NODES (length (order T) + sum_by event_nodes events)) (is_too_deep (length (above T n)) events) NoPrefix SameAttribute TooManyNodes TooDeep free

  brought : length (nodes_in P) ≡ sum_by event_nodes events
  brought = omega (arith, nodes-brought P form ord, nodes)

  pub one : length (kids_of P 0) ≡ 1
  one = ap length scoped.one

  top-is : top_of P ≡ scoped.top
  top-is = ap (λ ks. slice_index_or ks 0 0) scoped.one

  kind-is : kind_of P (top_of P) ≡ Some top
  kind-is = ap (kind_of P) top-is ∙ (kind-of-top P form ord ways walks events scoped.lines_are scoped.top scoped.one ∙ kind)

  -- the room that the piece needs is that of the fragment
  room : room_refusal before n P ≡ size_refusal before events
  room =
      ap₂ (λ (b c : ℕ).
      if nat_lt MAX_LIVE_NODES (length (order T) + b) then Some TooManyNodes
      else if list_any (is_too_deep_at T n P) (order P) then Some TooDeep
      else if nat_lt MAX_LIVE_TEXT_BYTES (text_bytes T + c) then Some TooMuchText
      else if nat_lt MAX_NODE_NUMBERS (length T + b) then Some IdsSpent
      else if nat_lt before.pair_cap (length (order T) + b) then Some TooManyPairs
      else None) brought text
      ∙ ap₂ (λ (b c : Bool). if b then Some TooManyNodes else if c then Some TooDeep else size_refusal before events) parts.2
      (none-too-deep P form ord ways walks events scoped.lines_are T n parts.3)

  pub agrees : insertion_refusal before n at events ≡ tree.insertion_refusal before n at P
  agrees =
      ap₂ (λ (a b : Option EditRefusal). option_or a (option_or b (size_refusal before events))) (ap (place_refusal T n at) kind ∙ place) free
      ∙ sym (ap₂ option_or (ap (place_refusal T n at) kind-is ∙ place) room)

  module _ (scopes : AdditionsKeepScope) (after : Contents) (tree_form : WellFormed T)
      (within : tree.insertion_refusal before n at P ≡ None) (done : after.nodes ≡ inserted T n (at - 1) P) where
    may : MayTake T n (at - 1) P
    may = may-take before n at P within ord one

    live : is_live T n ≡ true
    live = holder-live T n may.under

    way : ancestors (inserted T n (at - 1) P) n ≡ ancestors T n
    way = way-old T P n (at - 1) live (forest_of T) (whole-of T tree_form) n live

    pub insert-done : (path : List PathStep) → Done before after (Insert path at events) n (Below n None)
    insert-done path = record {
      within = agrees ∙ within;
      edited = record { piece = P; well_formed = form; scoped = scoped; is = done };
      holds = λ c.
          ap (λ (U : Table). holds_cell U (Below n None) c) done
          ∙ (or-nothing (touched_kids (inserted T n (at - 1) P) n c) ∙ kids-hold T (inserted T n (at - 1) P) n way c);
      edit = subst (λ (U : Table). Edit T U (touched_kids T n)) (sym done) (inserts n (at - 1) P form may);
      scope = λ s. subst InScope (sym done) (scopes.insertion T n (at - 1) P tree_form form s may scoped.in_scope);
    }

  pub insert-refused : (e : EditError) → RefusesFor (tree.insertion_refusal before n at P) e → (path : List PathStep) → RefusesAt before (Insert path at events) n (of_edit e)
  insert-refused (edits.Refused found) h path = agrees ∙ h
  insert-refused edits.Memory h path = (ap (place_refusal T n at) kind ∙ place, λ plain. free)

-- what refuses the piece refuses the command, and want of memory for the piece is one of the command
pub piece-refused : (before : Contents) (n at : ℕ) (events : List Event) (top : Kind) → top_kind events ≡ Some top → place_refusal before.nodes n at (Some top) ≡ None →
    (e : PieceError) → Refuses events (piece_refusal before.nodes n events) e → (path : List PathStep) → RefusesAt before (Insert path at events) n (of_piece e)
piece-refused before n at events top kind place (pieces.Refused found) h path =
    ap₂ option_or (ap (place_refusal before.nodes n at) kind ∙ place) (ap (λ (o : Option EditRefusal). option_or o (size_refusal before events)) h)
piece-refused before n at events top kind place pieces.Memory h path = (ap (place_refusal before.nodes n at) kind ∙ place, h)

-- what holds of an error holds of an answer that is that error
pub on-error : (result : Result Touched ApplyError) (e : ApplyError) (F : ApplyError → Type 0) → IsErrAnd result (λ x. x ≡ e) → F e → IfErr result F
on-error (Ok touched) e F h f = tt
on-error (Err x) e F h f = subst F (sym h) f
