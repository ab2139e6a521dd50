use Rattle.std.proofs.Common.{◌≡◌, ◌∷◌, [], ◌++◌, ◌∙◌, Some, true, arith, ap, length, map, subst, sym}
use Rattle.std.proofs.lemmas.List.{length-map}
use Rattle.xp_typed_tree.specs.TypedView.{path_seen, pattern_step_seen}
use Rattle.xslt_match.specs.Kept.{last_step}
use Rattle.xslt_match.specs.inner.Named.{all_named}
use Rattle.xslt_match.specs.inner.Refused.{PathRefuses, looks_at_kind}
use Rattle.xslt_match.proofs.Classes.{kind_refuses, name_refuses}
use Rattle.xslt_match.proofs.Keeping.{last_behind}
use Rattle.xslt_match.proofs.OnePath.{none_behind}
use Rattle.xslt_match.proofs.refusing.levels_of_path.Goals as goal

pub returns-then-looks_at_kind : goal.returns-then-looks_at_kind
returns-then-looks_at_kind c =
    let last = c.in_ok-last.last.now in
    let s = pattern_step_seen last in
    kind_refuses c.args.tree.now c.args.n (path_seen c.args.path.now) s
    (ap (map pattern_step_seen) (sym c.deref.ensures.value ∙ c.in_ok-last.ensures.cases.0 ∙ ap (λ xs. xs ++ last ∷ []) (none_behind c.in_ok-last.before.now (sym c.is_empty.ensures ∙ c.if-is_empty.true))))
    (ap (looks_at_kind s.axis s.test) c.kind.ensures ∙ sym c.looks_at_kind.ensures ∙ c.if-looks_at_kind.true) (sym c.passes.ensures ∙ c.if-passes.false)

pub returns-then-all_named : goal.returns-then-all_named
returns-then-all_named c =
    let p = path_seen c.args.path.now in
    let last = c.in_ok-last.last.now in
    let ends : last_step p.steps ≡ Some (pattern_step_seen last) =
    ap (λ xs. last_step (map pattern_step_seen xs)) (sym c.deref.ensures.value ∙ c.in_ok-last.ensures.cases.0) ∙ last_behind c.in_ok-last.before.now last in
    let all : all_named p.steps ≡ true = ap (λ xs. all_named (map pattern_step_seen xs)) (sym c.deref-2.ensures.value) ∙ sym c.all_named.ensures ∙ c.if-all_named.true in
    let levels : length p.steps ≡ c.len.result = omega (arith, c.len.ensures, length-map c.args.path.now.steps.items pattern_step_seen) in
    subst (PathRefuses c.args.tree.now p c.args.n) levels (name_refuses c.args.tree.now c.args.n p (pattern_step_seen last) ends all (sym c.passes.ensures ∙ c.if-passes.false))
