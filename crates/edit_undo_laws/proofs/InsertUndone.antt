-- A node that an insert brought goes again by a delete.
use Rattle.std.proofs.Common.{◌≡◌, ◌≢◌, ℕ, ◌-◌, ◌≤◌, Bool, true, false, ◌&&◌, eqb, suc, cond, List, [], ◌∷◌, ◌++◌, length, take, drop, Option, None, Some, refl, sym, ap, ◌∙◌, subst, true≢false, arith, eq-eqb, eqb-true}
use Rattle.std.specs.Prelude.{count_by, slice_index_or}
use Rattle.std.proofs.lemmas.List.{take-append-drop}
use Rattle.pyx_core.specs.declared.event.Event.{Event}
use Rattle.doc_table.proofs.Appending.{holder-live}
use Rattle.doc_table.proofs.Fitting.{texts-kept}
use Rattle.doc_table.proofs.Forests.{formed-of}
use Rattle.doc_table.proofs.ListLemmas.{occurs-append, sum_by-same}
use Rattle.doc_table.proofs.TreeLaws.{ordered, walks, ways-up}
use Rattle.doc_table.specs.inner.Sound.{Formed}
use Rattle.doc_edits.specs.Fitting.{MayTake}
use Rattle.doc_edits.proofs.DeletionLemmas.{meeting-on}
use Rattle.doc_edits.proofs.InsertionLemmas.{content-kept, entry-new, given-content, kids-parent, old-other}
use Rattle.doc_tree.specs.kind.Kind.{Kind}
use Rattle.doc_tree.specs.kind.Kind.TheVariants.{Root, Element, Attribute, Text, Comment, Pi}
use Rattle.doc_tree.specs.Changes.{deleted, deleted_by, given_number, inserted, meeting, removed}
use Rattle.doc_tree.specs.Kinds.{can_be_kid, holds_kids, is_document, is_element, is_kind}
use Rattle.doc_tree.specs.Laws.{TextsApart, WellFormed}
use Rattle.doc_tree.specs.Lists.{mem, occurs}
use Rattle.doc_tree.specs.Refusals.{deletion_refusal, top_of}
use Rattle.doc_tree.specs.SameTree.{SameTree}
use Rattle.doc_tree.specs.Table.{Contents, Table, content_at, entry_at, is_live, kids_above, kids_of, kind_at, kind_of, parent_of}
use Rattle.doc_tree.proofs.InsertLemmas.{not-under-root}
use Rattle.doc_tree.proofs.ListLemmas.{In, In-mem, occurs-head}
use Rattle.doc_undo_laws.specs.Undoing.{InsertionsAreUndone}
use Rattle.doc_undo_laws.proofs.DeletionUndone.{listed, not-before, not-behind}
use Rattle.doc_undo_laws.proofs.PieceLines.{top-in, top-number}
use Rattle.doc_undo_laws.proofs.Settling.{Stays, inserted-stays}
use Rattle.edit_script.specs.declared.command.Command.{Command}
use Rattle.edit_script.specs.declared.command.Command.TheVariants.{Insert, Delete}
use Rattle.edit_script.specs.declared.command.PathStep.{PathStep}
use Rattle.edit_commands.specs.Commands.{InsertedAt, IsEdited, command_refusal, insertion_refusal, refusal_where, top_kind}
use Rattle.edit_commands.specs.Paths.{led_from, node_named}
use Rattle.edit_commands.proofs.DepthLemmas.{kind-of-top}
use Rattle.edit_command_laws.specs.TreesKept.{EditsKeepTrees}
use Rattle.edit_command_laws.proofs.TreesKept.{fits}
use Rattle.edit_iso_laws.specs.CommandsMove.{none, then}
use Rattle.edit_iso_laws.proofs.CommandLemmas.{piece-may}
use Rattle.edit_paths.specs.Entries.{numbers_where, step_under, undoing_where}
use Rattle.edit_undo_laws.specs.Undoing.{InsertsAreUndone, TakesBack}
use Rattle.edit_paths.proofs.PathsKept.{led-on, path-kept, step-leads}
use Rattle.edit_iso_laws.proofs.GoingOnLemmas.{removed-length}

same-kind : (kind : Kind) → is_kind kind (Some kind) ≡ true
same-kind Root = refl
same-kind Element = refl
same-kind Attribute = refl
same-kind Text = refl
same-kind Comment = refl
same-kind Pi = refl

module _ (T : Table) (n : ℕ) where
  -- no texts meet where the number doesn't stand
  absent : (ks : List ℕ) → ((k : ℕ) → In k ks → k ≢ n) → meeting T n ks ≡ None
  absent [] others = refl
  absent (k ∷ []) others = refl
  absent (k ∷ l ∷ ks) others =
      meeting-on T n k l ks (others l (omega (arith, occurs-head l ks))) ∙ absent (l ∷ ks) (λ j h. others j (omega (arith, h)))

  -- nor where those beside it may stand side by side
  beside : (front back : List ℕ) → ((k : ℕ) → In k front → k ≢ n) → ((k : ℕ) → In k back → k ≢ n) → TextsApart T (front ++ back) → meeting T n (front ++ n ∷ back) ≡ None
  beside [] [] before behind apart = refl
  beside [] (r ∷ back) before behind apart = meeting-on T n n r back (behind r (occurs-head r back)) ∙ absent (r ∷ back) behind
  beside (l ∷ []) [] before behind apart = refl
  beside (l ∷ []) (r ∷ back) before behind apart = rw (eq-eqb n n refl, apart.0) refl
  beside (l ∷ m ∷ front) back before behind apart =
      meeting-on T n l m (front ++ n ∷ back) (before m (omega (arith, occurs-head m front)))
      ∙ beside (m ∷ front) back (λ j h. before j (omega (arith, h))) behind apart.1

-- the deletion of the node that came, in the table with the piece
module _ (before : Contents) (p at : ℕ) (events : List Event) (V : Table) (edited : InsertedAt before.nodes p at events V) (form : WellFormed before.nodes) (form-after : WellFormed V)
    (free : insertion_refusal before p at events ≡ None) where
  abbrev T : Table
  T = before.nodes

  abbrev P : Table
  P = edited.piece

  t : Formed T
  t = formed-of T form

  piece : Formed P
  piece = formed-of P edited.well_formed

  may : MayTake T p (at - 1) P
  may = piece-may before p at events P edited.well_formed edited.scoped free

  live : is_live T p ≡ true
  live = holder-live T p may.under

  abbrev front : List ℕ
  front = take (at - 1) (kids_of T p)

  abbrev back : List ℕ
  back = drop (at - 1) (kids_of T p)

  kids : kids_of V p ≡ front ++ length T ∷ back
  kids = ap (λ U. kids_of U p) edited.is ∙ kids-parent T P p (at - 1) live

  once : (k : ℕ) → occurs k (kids_of V p) ≤ 1
  once = form-after.kids_once p

  kid : mem (length T) (kids_of V p) ≡ true
  kid = In-mem (length T) (kids_of V p) (listed (length T) (kids_of V p) front back once kids)

  up : parent_of V (length T) ≡ Some p
  up = form-after.kid_parent p (length T) kid

  pub lives : is_live V (length T) ≡ true
  lives = (ways-up V (formed-of V form-after)).kid_live p (length T) kid

  pub other : kind_of V (length T) ≢ Some Attribute
  other e = true≢false (sym (form-after.kid_kind p (length T) kid) ∙ ap can_be_kid e)

  apart : TextsApart V (front ++ back)
  apart =
      subst (TextsApart V) (sym (take-append-drop (at - 1) (kids_of T p)))
      (texts-kept T V (kids_of T p)
      (λ k h. ap (λ U. kind_of U k) edited.is ∙ ap kind_at (content-kept T P p (at - 1) live k (old-other T P p (at - 1) live k ((ways-up T t).kid_live p k h))))
      (form.texts_apart p))

  none-meet : meeting V (length T) (kids_of V p) ≡ None
  none-meet =
      ap (meeting V (length T)) kids
      ∙ beside V (length T) front back (λ k h. not-before (length T) (kids_of V p) front back once kids k h) (λ k h. not-behind (length T) (kids_of V p) front back once kids k h) apart

  pub is-removed : deleted V (length T) ≡ removed V (length T)
  is-removed = ap (λ o. deleted_by V (length T) (meeting V (length T) (kids_above V o))) up ∙ ap (deleted_by V (length T)) none-meet

  -- it has the kind of the piece's top, which is no element under the root
  kind-top : kind_of V (length T) ≡ kind_of P (top_of P)
  kind-top =
      ap (λ U. kind_of U (length T)) edited.is
      ∙ (ap (kind_of (inserted T p (at - 1) P)) (sym (top-number P piece T may.top may.one))
      ∙ (ap (λ e. kind_at (content_at e)) (entry-new T P p (at - 1) live may.top (top-in P piece may.top may.one))
      ∙ (ap kind_at (given-content (given_number T P) p (entry_at P may.top)) ∙ ap (kind_of P) (sym (ap (λ ks. slice_index_or ks 0 0) may.one)))))

  no-root : (is_element (kind_of V (length T)) && eqb p 0) ≡ false
  no-root = by (eqb p 0) refl
    where
      by : (b : Bool) → eqb p 0 ≡ b → (is_element (kind_of V (length T)) && b) ≡ false
      by true e =
          ap (λ c. c && true) (ap is_element kind-top ∙ (not-under-root before p at P (fits before p at events P edited.well_formed piece edited.scoped free) (eqb-true p 0 e)).0)
      by false e = falsely (is_element (kind_of V (length T)))
        where
          falsely : (c : Bool) → (c && false) ≡ false
          falsely true = refl
          falsely false = refl

  pub free-after : deletion_refusal V (length T) ≡ None
  free-after = rw (form-after.kid_kind p (length T) kid, up, no-root) refl

  -- the step to it
  kids-live : (m k : ℕ) → In k (kids_of T m) → is_live T k ≡ true
  kids-live m k h = (ways-up T t).kid_live m k (In-mem k (kids_of T m) h)

  stays : (m : ℕ) → is_live T m ≡ true → Stays T V p m
  stays m alive = subst (λ U. Stays T U p m) (sym edited.is) (inserted-stays T P p (at - 1) live m alive)

  path-after : (path : List PathStep) → node_named T path ≡ Some p → node_named V path ≡ Some p
  path-after path named =
      path-kept T V form p (λ m. is_live T m ≡ true) (λ m alive ne. (stays m alive).kids ne) (λ m k alive ne h. ap kind_at (stays k (kids-live m k h)).content)
      (λ m k alive ne h. kids-live m k h) (holder-live T 0 (ap holds_kids form.root_kind)) path named

  counts-same : (kind : Kind) (ks : List ℕ) → ((k : ℕ) → In k ks → is_live T k ≡ true) → count_by (λ k. is_kind kind (kind_of T k)) ks ≡ count_by (λ k. is_kind kind (kind_of V k)) ks
  counts-same kind ks alive =
      sum_by-same (λ k. cond (is_kind kind (kind_of T k)) 1 0) (λ k. cond (is_kind kind (kind_of V k)) 1 0) ks
      (λ k h. ap (λ o. cond (is_kind kind (kind_at o)) 1 0) (sym (stays k (alive k h)).content))

  front-live : (k : ℕ) → In k front → is_live T k ≡ true
  front-live k h =
      kids-live p k (subst (In k) (take-append-drop (at - 1) (kids_of T p)) (omega (arith, h, occurs-append k front back)))

  kind-is : kind_of V (length T) ≡ top_kind events
  kind-is =
      kind-top ∙ (ap (kind_of P) (ap (λ ks. slice_index_or ks 0 0) edited.scoped.one)
      ∙ kind-of-top P edited.well_formed (ordered P piece) (ways-up P piece) (walks P piece) events edited.scoped.lines_are edited.scoped.top edited.scoped.one)

  pub stepped : (path : List PathStep) → node_named T path ≡ Some p → node_named V (path ++ step_under T p at (top_kind events)) ≡ Some (length T)
  stepped path named =
      led-on V (Some 0) path (step_under T p at (top_kind events))
      ∙ (ap (λ o. led_from V o (step_under T p at (top_kind events))) (path-after path named) ∙ by (top_kind events) kind-is)
    where
      by : (o : Option Kind) → kind_of V (length T) ≡ o → led_from V (Some p) (step_under T p at o) ≡ Some (length T)
      by None e = absurd (true≢false (sym (form-after.kid_kind p (length T) kid) ∙ ap can_be_kid e))
      by (Some kind) e =
          ap (λ c. led_from V (Some p) (record { kind = kind; index = suc c } ∷ [])) (counts-same kind front front-live)
          ∙ step-leads V p (length T) kind front back kids (ap (is_kind kind) e ∙ same-kind kind)

pub inserts-are-undone : EditsKeepTrees → InsertionsAreUndone → InsertsAreUndone
inserts-are-undone keeps undone before after path at events form document free edited =
    let p : ℕ = edited.node in
    let V : Table = after.nodes in
    let kept : WellFormed V × (is_document V ≡ true) = keeps before (Insert path at events) V form document free edited in
    let free-at : insertion_refusal before p at events ≡ None = ap (refusal_where before (Insert path at events)) (sym edited.named) ∙ free in
    let n : ℕ = length before.nodes in
    let way : List PathStep = path ++ step_under before.nodes p at (top_kind events) in
    let named : node_named V way ≡ Some n = stepped before p at events V edited.edited form kept.0 free-at path edited.named in
    let gone : SameTree before.nodes (removed V n) =
    subst (λ U. SameTree before.nodes (removed U n)) (sym edited.edited.is)
    (undone before.nodes edited.edited.piece p (at - 1) form edited.edited.well_formed
    (piece-may before p at events edited.edited.piece edited.edited.well_formed edited.edited.scoped free-at)) in
    let end : Contents = record after { nodes = deleted V n } in
    let command : Command = Delete way in
    let free2 : command_refusal after command ≡ None = ap (refusal_where after command) named ∙ free-after before p at events V edited.edited form kept.0 free-at in
    let done : IsEdited V command (deleted V n) = record { node = n; named = named; edited = refl } in
    subst (λ o. TakesBack before after (undoing_where before.nodes (Insert path at events) o) (numbers_where before.nodes (Insert path at events) o)) (sym edited.named) (record {
      end = end;
      done = then after end end command [] free2 done refl (none end);
      same = subst (SameTree before.nodes) (sym (is-removed before p at events V edited.edited form kept.0 free-at)) gone;
      numbers = omega (arith, ap length (is-removed before p at events V edited.edited form kept.0 free-at), removed-length V n);
    })
