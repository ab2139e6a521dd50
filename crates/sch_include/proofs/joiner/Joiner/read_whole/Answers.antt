-- The kids of the root are walked below the root alone.
use Rattle.std.proofs.Common.{◌∙◌, ap, length, refl, List, ℕ, ◌++◌, ◌∷◌, []}
use Rattle.std.specs.Prelude.{Ok, Err}
use Rattle.doc_tree.specs.Walks.{below}
use Rattle.sch_include.specs.Taking.{text_below}
use Rattle.sch_include.proofs.FileLemmas.{is-err}
use Rattle.sch_include.proofs.WholeLemmas.{at-root, whole-can, whole-document, whole-passed, whole-reads}
use Rattle.sch_include.proofs.joiner.Joiner.read_whole.Goals as goal

pub walk_kids-requires : goal.walk_kids-requires
walk_kids-requires g c = record {
  can = rw (c.root-3.ensures, c.root-root.ensures)
      (whole-can c.args.self.now c.enter.new.self (record { tree = c.args.tree; name = c.args.name; above = 0 }) (c.in_ok-enter.ensures.tree ∙ c.requires.alone)
      (c.in_ok-enter.ensures.nodes ∙ (c.count_below-self.ensures ∙ ap (λ (n : ℕ). length (below c.args.tree.now.nodes n)) c.root.ensures))
      (c.in_ok-enter.ensures.text ∙ (c.text_below-self.ensures ∙ ap (text_below c.args.tree.now.nodes) c.root-2.ensures))
      (c.in_ok-enter.ensures.entered ∙ ap (λ (names : List (List ℕ)). names ++ c.args.name.now ∷ []) c.requires.unread)
      refl c.laws.ensures.well_formed c.laws.ensures.ordered c.requires.is_file c.laws.ensures.ways_up);
}

pub returns-in_err-walk_kids-clause-reads : goal.returns-in_err-walk_kids-clause-reads
returns-in_err-walk_kids-clause-reads g c =
    whole-passed c.args.self.now c.walk_kids.new.self c.args.tree.now.nodes c.args.name.now _ c.from_residual-in_err-walk_kids.result c.in_err-walk_kids.field-0.0
    (is-err c.from_residual-in_err-walk_kids.result c.in_err-walk_kids.field-0.0 c.from_residual-in_err-walk_kids.ensures.1)
    (whole-reads c.args.self.now c.enter.new.self (record { tree = c.args.tree; name = c.args.name; above = 0 }) (c.in_ok-enter.ensures.tree ∙ c.requires.alone)
    (c.in_ok-enter.ensures.nodes ∙ (c.count_below-self.ensures ∙ ap (λ (n : ℕ). length (below c.args.tree.now.nodes n)) c.root.ensures))
    (c.in_ok-enter.ensures.text ∙ (c.text_below-self.ensures ∙ ap (text_below c.args.tree.now.nodes) c.root-2.ensures))
    (c.in_ok-enter.ensures.entered ∙ ap (λ (names : List (List ℕ)). names ++ c.args.name.now ∷ []) c.requires.unread)
    refl c.laws.ensures.well_formed c.laws.ensures.ordered c.walk_kids.new.self _ (Err c.in_err-walk_kids.field-0.0)
    (at-root c.enter.new.self c.walk_kids.new.self (record { tree = c.args.tree; name = c.args.name; above = 0 }) c.root-3.result c.root-root.result _ (Err c.in_err-walk_kids.field-0.0) c.root-3.ensures c.root-root.ensures c.in_err-walk_kids.ensures.walks)
    c.requires.is_file.numbered c.in_ok-enter.ensures.opened)

pub returns-clause-document : goal.returns-clause-document
returns-clause-document g c =
    whole-document c.args.self.now c.enter.new.self (record { tree = c.args.tree; name = c.args.name; above = 0 }) (c.in_ok-enter.ensures.tree ∙ c.requires.alone)
    (c.in_ok-enter.ensures.nodes ∙ (c.count_below-self.ensures ∙ ap (λ (n : ℕ). length (below c.args.tree.now.nodes n)) c.root.ensures))
    (c.in_ok-enter.ensures.text ∙ (c.text_below-self.ensures ∙ ap (text_below c.args.tree.now.nodes) c.root-2.ensures))
    (c.in_ok-enter.ensures.entered ∙ ap (λ (names : List (List ℕ)). names ++ c.args.name.now ∷ []) c.requires.unread)
    refl c.laws.ensures.well_formed c.laws.ensures.ordered c.walk_kids.new.self _ (Ok tt)
    (at-root c.enter.new.self c.walk_kids.new.self (record { tree = c.args.tree; name = c.args.name; above = 0 }) c.root-3.result c.root-root.result _ (Ok tt) c.root-3.ensures c.root-root.ensures c.in_ok-walk_kids.ensures.walks)
    c.requires.is_file c.laws-2.ensures.well_formed refl

pub returns-clause-reads : goal.returns-clause-reads
returns-clause-reads g c =
    whole-reads c.args.self.now c.enter.new.self (record { tree = c.args.tree; name = c.args.name; above = 0 }) (c.in_ok-enter.ensures.tree ∙ c.requires.alone)
    (c.in_ok-enter.ensures.nodes ∙ (c.count_below-self.ensures ∙ ap (λ (n : ℕ). length (below c.args.tree.now.nodes n)) c.root.ensures))
    (c.in_ok-enter.ensures.text ∙ (c.text_below-self.ensures ∙ ap (text_below c.args.tree.now.nodes) c.root-2.ensures))
    (c.in_ok-enter.ensures.entered ∙ ap (λ (names : List (List ℕ)). names ++ c.args.name.now ∷ []) c.requires.unread)
    refl c.laws.ensures.well_formed c.laws.ensures.ordered c.walk_kids.new.self _ (Ok tt)
    (at-root c.enter.new.self c.walk_kids.new.self (record { tree = c.args.tree; name = c.args.name; above = 0 }) c.root-3.result c.root-root.result _ (Ok tt) c.root-3.ensures c.root-root.ensures c.in_ok-walk_kids.ensures.walks)
    c.requires.is_file.numbered c.in_ok-enter.ensures.opened
