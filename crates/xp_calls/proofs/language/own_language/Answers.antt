use Rattle.std.proofs.Common.{◌∙◌, ap, sym, refl, Some, None}
use Rattle.doc_tree.specs.cell.Cell.TheVariants.{Attrs, Value}
use Rattle.doc_tree.specs.declared.axes.Axis.TheVariants.{Attribute}
use Rattle.xp_outcome.specs.Evaluation.{cell, names_along}
use Rattle.xp_outcome.specs.Recorded.{note}
use Rattle.xp_outcome.proofs.Runs.{ran_alike, ran_done, ran_late, ran_moved, ran_reading}
use Rattle.xp_meaning.proofs.Exits.{exit_alloc, ran_done_at}
use Rattle.xp_meaning.specs.Language.{is_language, lang_among}
use Rattle.xp_calls.proofs.Languages.{not_element, of_element}
use Rattle.xp_calls.proofs.language.own_language.Goals as goal

pub returns-then-not-is_element : goal.returns-then-not-is_element
returns-then-not-is_element c = λ count. ran_alike (not_element c.args.tree.now.nodes c.args.wanted.now c.args.n (sym c.is_element.ensures ∙ c.if-not-is_element.true)) (ran_done _ _ _)

pub returns-in_err-add_names : goal.returns-in_err-add_names
returns-in_err-add_names c = λ count.
    let T = c.args.tree.now.nodes in
    exit_alloc _ c.from_residual-in_err-add_names.result c.from_residual-in_err-add_names.ensures.1
    (ran_alike (of_element T c.args.wanted.now c.args.n (lang_among T _) (sym c.is_element.ensures ∙ c.if-not-is_element.false) refl)
    (ran_reading (cell (Attrs c.args.n)) (ran_moved refl (c.in_err-add_names.ensures.unchanged ∙ c.in_ok-add.ensures.noted) refl refl (ran_late _ _ _))))

pub returns-in_err-add-in-Some : goal.returns-in_err-add-in-Some
returns-in_err-add-in-Some c = λ count.
    let T = c.args.tree.now.nodes in
    exit_alloc _ c.from_residual-in_err-add-in-Some.result c.from_residual-in_err-add-in-Some.ensures.1
    (ran_alike
    (of_element T c.args.wanted.now c.args.n (Some c.in-Some.attribute) (sym c.is_element.ensures ∙ c.if-not-is_element.false)
    (sym c.in-Some.is ∙ c.lang_among.ensures ∙ ap (lang_among T) c.attrs.ensures))
    (ran_reading (cell (Attrs c.args.n)) (ran_reading (names_along Attribute c.args.n)
    (ran_moved refl
    (c.in_err-add-in-Some.ensures.unchanged ∙ c.in_ok-add_names.ensures.noted ∙ ap (λ h. note h (names_along Attribute c.args.n)) c.in_ok-add.ensures.noted)
    refl refl (ran_late _ _ _)))))

pub returns-in_ok-add-in-Some : goal.returns-in_ok-add-in-Some
returns-in_ok-add-in-Some c = λ count.
    let T = c.args.tree.now.nodes in
    let names = c.in_ok-add_names.ensures.noted ∙ ap (λ h. note h (names_along Attribute c.args.n)) c.in_ok-add.ensures.noted in
    ran_alike
    (of_element T c.args.wanted.now c.args.n (Some c.in-Some.attribute) (sym c.is_element.ensures ∙ c.if-not-is_element.false)
    (sym c.in-Some.is ∙ c.lang_among.ensures ∙ ap (lang_among T) c.attrs.ensures))
    (ran_reading (cell (Attrs c.args.n)) (ran_reading (names_along Attribute c.args.n)
    (ran_reading (cell (Value c.in-Some.attribute))
    (ran_moved refl (c.in_ok-add-in-Some.ensures.noted ∙ ap (λ h. note h (cell (Value c.in-Some.attribute))) names) refl refl
    (ran_done_at _ _ _ (ap Some (c.is_language.ensures ∙ ap (λ v. is_language v c.args.wanted.now) c.value.ensures)))))))

pub returns-in-None : goal.returns-in-None
returns-in-None c = λ count.
    let T = c.args.tree.now.nodes in
    ran_alike
    (of_element T c.args.wanted.now c.args.n None (sym c.is_element.ensures ∙ c.if-not-is_element.false)
    (sym c.in-None.is ∙ c.lang_among.ensures ∙ ap (lang_among T) c.attrs.ensures))
    (ran_reading (cell (Attrs c.args.n)) (ran_reading (names_along Attribute c.args.n)
    (ran_moved refl (c.in_ok-add_names.ensures.noted ∙ ap (λ h. note h (names_along Attribute c.args.n)) c.in_ok-add.ensures.noted) refl refl (ran_done _ _ _))))
