-- A node is deleted.
use Rattle.std.proofs.Common.{◌≡◌, ℕ, Bool, true, false, not, ◌&&◌, ◌||◌, List, ◌∷◌, ◌++◌, Option, None, Some, refl, sym, ap, ap₂, ◌∙◌, subst}
use Rattle.doc_table.specs.Laws.{WellFormed}
use Rattle.doc_table.specs.inner.Sound.{Formed}
use Rattle.doc_table.proofs.Forests.{formed-of}
use Rattle.doc_table.proofs.TreeLaws.{ways-up}
use Rattle.doc_tree.specs.cell.Cell.{Cell}
use Rattle.doc_tree.specs.cell.Cell.TheVariants.{Kids, Shape, Attrs, Value, Text, Name}
use Rattle.doc_tree.specs.declared.refusal.EditRefusal.TheVariants.{WrongKind, RootElement}
use Rattle.doc_tree.specs.Kinds.{can_be_kid, is_element}
use Rattle.doc_tree.specs.Lists.{mem}
use Rattle.doc_tree.specs.Refusals.{deletion_refusal}
use Rattle.doc_tree.specs.Table.{Contents, Table, is_live, is_root, kids_above, kids_of, kind_of, parent_of, value_of}
use Rattle.doc_tree.specs.Walks.{ancestors, below}
use Rattle.doc_tree.proofs.RefusalLemmas.{none-of-two, not-true}
use Rattle.doc_edit_laws.proofs.Composing.{of-both}
use Rattle.doc_edits.specs.Changes.{Meeting, deleted, deleted_by, meeting, removed, removed_from, saying}
use Rattle.doc_edits.proofs.ClearLemmas.{live-kept}
use Rattle.doc_edits.proofs.DeletionLemmas.{Met, first, first-formed, first-up, is-first, met}
use Rattle.doc_edits.proofs.PruneLemmas.{cut_at}
use Rattle.doc_edits.proofs.RecontentLemmas.{same-live}
use Rattle.doc_edit_laws.specs.Along.{Edit, EditsLeave, Left, deletes, none, then}
use Rattle.doc_edit_laws.specs.Touching.{touched_deletion, touched_kids, touched_meeting}
use Rattle.doc_edits.proofs.SayingLemmas.{saying-kind}
use Rattle.doc_edit_laws.proofs.TextLemmas.{ways-alike}
use Rattle.name_scopes.specs.Scoping.{InScope}
use Rattle.name_scopes_laws.specs.Scopes.{DeletionsKeepScope}
use Rattle.edit_script.specs.declared.command.Command.TheVariants.{Delete}
use Rattle.edit_script.specs.declared.command.PathStep.{PathStep}
use Rattle.edit_commands.specs.declared.touched.Touched.TheVariants.{Below}
use Rattle.edit_commands.specs.Touched.{holds_cell, left_cell, left_of, touched_under}
use Rattle.edit_commands.specs.inner.Done.{Done}

-- the parent of a node that is removed lives on
parent-stays : (T : Table) (n p : ℕ) → Formed T → parent_of T n ≡ Some p → is_live (removed T n) p ≡ true
parent-stays T n p formed up =
    ap (λ o. is_live (removed_from T n o) p) up
    ∙ (live-kept T n p (below T n) ((ways-up T formed).parent_live n p up) p (cut_at T n p formed up).apart ∙ (ways-up T formed).parent_live n p up)

-- and so it does where the node is deleted
pub parent-lives : (T : Table) (n p : ℕ) → Formed T → parent_of T n ≡ Some p → is_live (deleted T n) p ≡ true
parent-lives T n p formed up =
    ap (λ o. is_live (deleted_by T n (meeting T n (kids_above T o))) p) up ∙ by (meeting T n (kids_of T p)) refl
  where
    by : (o : Option Meeting) → meeting T n (kids_of T p) ≡ o → is_live (deleted_by T n o) p ≡ true
    by None e = parent-stays T n p formed up
    by (Some texts) e =
        let m : Met T n (kids_of T p) texts = met T n (kids_of T p) texts e in
        let new : List ℕ = value_of T texts.left ++ value_of T texts.right in
        same-live (saying new) (saying-kind new) (removed (removed T texts.right) n) texts.left p
        ∙ (ap (λ V. is_live (removed V n) p) (is-first T n p texts.left texts.right m.front m.back formed up m.is m.left_text m.right_text)
        ∙ parent-stays (first T n p texts.left texts.right m.front m.back formed up m.is m.left_text m.right_text) n p
        (first-formed T n p texts.left texts.right m.front m.back formed up m.is m.left_text m.right_text)
        (first-up T n p texts.left texts.right m.front m.back formed up m.is m.left_text m.right_text))

-- nodes come or go under a node whose way up stays
pub kids-hold : (T U : Table) (p : ℕ) → ancestors U p ≡ ancestors T p → (c : Cell) → touched_kids U p c ≡ touched_kids T p c
kids-hold T U p same (Kids m) = refl
kids-hold T U p same (Shape m) = ap (λ (l : List ℕ). mem m (p ∷ l)) same
kids-hold T U p same (Text m) = ap (λ (l : List ℕ). mem m (p ∷ l)) same
kids-hold T U p same (Attrs m) = refl
kids-hold T U p same (Value m) = refl
kids-hold T U p same (Name m) = refl

-- the value of the left one of two texts that meet
left-holds : (o : Option Meeting) (c : Cell) → left_cell (left_of o) c ≡ touched_meeting o c
left-holds None c = refl
left-holds (Some texts) (Value m) = refl
left-holds (Some texts) (Kids m) = refl
left-holds (Some texts) (Shape m) = refl
left-holds (Some texts) (Attrs m) = refl
left-holds (Some texts) (Text m) = refl
left-holds (Some texts) (Name m) = refl

module _ (scopes : DeletionsKeepScope) (leaves : EditsLeave) (before after : Contents) (n p : ℕ) (left : Option ℕ) (form : WellFormed before.nodes)
    (up : parent_of before.nodes n ≡ Some p) (is : left ≡ left_of (meeting before.nodes n (kids_of before.nodes p)))
    (free : deletion_refusal before.nodes n ≡ None) (done : after.nodes ≡ deleted before.nodes n) where
  abbrev T : Table
  T = before.nodes

  formed : Formed T
  formed = formed-of T form

  kid : can_be_kid (kind_of T n) ≡ true
  kid = not-true (can_be_kid (kind_of T n)) (none-of-two (not (can_be_kid (kind_of T n))) (is_element (kind_of T n) && is_root (parent_of T n)) WrongKind RootElement free).0

  deletion : Edit T (deleted T n) (touched_deletion T n p)
  deletion = deletes n p kid up

  left_by : Left T (deleted T n) (λ c. false || touched_deletion T n p c)
  left_by = leaves T (deleted T n) (λ c. false || touched_deletion T n p c) form (then T (deleted T n) (λ _. false) (touched_deletion T n p) none deletion)

  way : ancestors (deleted T n) p ≡ ancestors T p
  way =
      sym (ways-alike T (deleted T n) formed (formed-of (deleted T n) left_by.after.well_formed) left_by.agree.parent p
      (of-both (is_live T p) (is_live (deleted T n) p) ((ways-up T formed).parent_live n p up) (parent-lives T n p formed up)))

  holds : (c : Cell) → holds_cell (deleted T n) (Below p left) c ≡ touched_deletion T n p c
  holds c =
      ap₂ (λ (a b : Bool). a || b) (kids-hold T (deleted T n) p way c)
      (ap (λ o. left_cell o c) is ∙ left-holds (meeting T n (kids_of T p)) c)

  pub delete-done : (path : List PathStep) → Done before after (Delete path) n (Below p left)
  delete-done path = record {
    within = free;
    edited = done;
    holds = λ c. ap (λ (U : Table). holds_cell U (Below p left) c) done ∙ (holds c ∙ ap (λ o. touched_under T n o c) (sym up));
    edit = subst (λ (U : Table). Edit T U (touched_under T n (parent_of T n))) (sym done) (subst (λ o. Edit T (deleted T n) (touched_under T n o)) (sym up) deletion);
    scope = λ s. subst InScope (sym done) (scopes.deletion T n form s);
  }
