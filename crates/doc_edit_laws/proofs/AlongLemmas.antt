-- Edits one after another leave what each of them leaves.
use Rattle.std.proofs.Common.{Bool, false, refl, arith}
use Rattle.doc_table.specs.Laws.{WellFormed}
use Rattle.doc_table.specs.inner.Sound.{Formed}
use Rattle.doc_table.proofs.Forests.{formed-of}
use Rattle.doc_table.proofs.TreeLaws.{ordered, ways-up, well-formed}
use Rattle.doc_tree.specs.cell.Cell.{Cell}
use Rattle.doc_tree.specs.Table.{Table}
use Rattle.doc_edit_laws.specs.Agreement.{Agree, AgreementComposes, IsTree}
use Rattle.doc_edits.specs.Changes.{inserted, removed, renamed, said}
use Rattle.doc_edits.specs.Keeping.{DeletionsKeepTrees, GainsKeepTrees, InsertionsKeepTrees, RemovalsKeepTrees, RenamesKeepTrees, SayingsKeepTrees}
use Rattle.doc_edit_laws.specs.Along.{Edit, EditsLeave, Left, deletes, gains, inserts, loses, none, renames, says, then}
use Rattle.doc_edit_laws.proofs.AttributeAgreement.{attributes-leave, loss-formed}
use Rattle.doc_edit_laws.proofs.DeletionAgreement.{deletions-leave}
use Rattle.doc_edit_laws.proofs.InsertionAgreement.{insertions-leave}
use Rattle.doc_edit_laws.proofs.RenamingAgreement.{renaming-leaves}
use Rattle.doc_edit_laws.proofs.SayingAgreement.{saying-leaves}

is-tree : (T : Table) → WellFormed T → IsTree T
is-tree T form = let t : Formed T = formed-of T form in record { well_formed = form; ordered = ordered T t; ways_up = ways-up T t }

-- no edit
agree-same : (T : Table) → Agree T T (λ _. false)
agree-same T = record {
  kind = λ n stays. refl;
  target = λ n stays other. refl;
  parent = λ n stays. refl;
  in_order = refl;
  name = λ n stays named out. refl;
  kids = λ n stays out. refl;
  shape = λ n stays out. refl;
  attributes = λ n stays out. refl;
  value = λ n stays out. refl;
  text = λ n stays holds out. refl;
  numbers = omega arith;
  no_return = λ n made lives. lives;
}

left : (T U : Table) (touched : Cell → Bool) → WellFormed T → WellFormed U → Agree T U touched → Left T U touched
left T U touched t u agree = record { before = is-tree T t; after = is-tree U u; agree = agree }

module _ (composes : AgreementComposes) (sayings : SayingsKeepTrees) (namings : RenamesKeepTrees) (removals : RemovalsKeepTrees) (deletions : DeletionsKeepTrees) (gaining : GainsKeepTrees) (insertions : InsertionsKeepTrees) where
  one : (T U : Table) (touched : Cell → Bool) → WellFormed T → Edit T U touched → Left T U touched
  one T _ _ t (says n new may) = left T _ _ t (sayings T n new t may) (saying-leaves T n new (formed-of T t) (formed-of (said T n new) (sayings T n new t may)))
  one T _ _ t (renames n name may) = left T _ _ t (namings T n name t may) (renaming-leaves T n name (formed-of T t) (formed-of (renamed T n name) (namings T n name t may)) may.named)
  one T _ _ t (gains n name value may) = left T _ _ t (gaining T n name value t may) ((attributes-leave gaining removals).gain T n name value t may)
  one T _ _ t (loses a n is up) = left T _ _ t (well-formed (removed T a) (loss-formed removals T a n (formed-of T t) is up)) ((attributes-leave gaining removals).loss T a n t is up)
  one T _ _ t (deletes n p kid up) = left T _ _ t (deletions T n t) (deletions-leave deletions T n p t kid up)
  one T _ _ t (inserts p before P f may) = left T _ _ t (insertions T p before P t f may) (insertions-leave T p before P (formed-of T t) (formed-of P f) may (formed-of (inserted T p before P) (insertions T p before P t f may)))

  pub along : EditsLeave
  along T _ _ t none = left T _ _ t t (agree-same T)
  along T _ _ t (then U V before last edits edit) =
      let here : Left T U before = along T U before t edits in
      let more : Left U V last = one U V last here.after.well_formed edit in
      left T _ _ t more.after.well_formed (composes T U V before last here.before here.agree more.agree)
