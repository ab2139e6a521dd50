use Rattle.std.proofs.Common.{lit<, ◌∙◌}
use Rattle.std.specs.Prelude.{codes}
use Rattle.std.proofs.lemmas.Str.Pattern.{starts_char, starts_text}
use Rattle.xp_lexicon.proofs.Tokens.{paren_behind, colons_behind, before_paren, before_colons, before_others}
use Rattle.xp_lexicon.proofs.token.name_token.Goals as goal

pub returns-then-starts_with : goal.returns-then-starts_with
returns-then-starts_with c =
    let paren = paren_behind c.args.rest.now c.after_run-follows.result.now c.starts_with.result c.after_run-follows.ensures
    (starts_char 40 c.after_run-follows.result.now c.starts_with.result c.starts_with.ensures.cases (lit< tt) (lit< tt)) in
    before_paren c.args.name c.args.rest.now c.called.result (paren ∙ c.if-starts_with.true) c.called.ensures

pub returns-then-starts_with-2 : goal.returns-then-starts_with-2
returns-then-starts_with-2 c =
    let paren = paren_behind c.args.rest.now c.after_run-follows.result.now c.starts_with.result c.after_run-follows.ensures
    (starts_char 40 c.after_run-follows.result.now c.starts_with.result c.starts_with.ensures.cases (lit< tt) (lit< tt)) in
    let colons = colons_behind c.args.rest.now c.after_run-follows.result.now c.starts_with-2.result c.after_run-follows.ensures
    (starts_text c.starts_with-2.result (codes "::") c.after_run-follows.result.now c.starts_with-2.ensures.cases) in
    before_colons c.args.name c.args.rest.now c.axis_token.result (paren ∙ c.if-starts_with.false) (colons ∙ c.if-starts_with-2.true) c.axis_token.ensures

pub returns : goal.returns
returns c =
    let paren = paren_behind c.args.rest.now c.after_run-follows.result.now c.starts_with.result c.after_run-follows.ensures
    (starts_char 40 c.after_run-follows.result.now c.starts_with.result c.starts_with.ensures.cases (lit< tt) (lit< tt)) in
    let colons = colons_behind c.args.rest.now c.after_run-follows.result.now c.starts_with-2.result c.after_run-follows.ensures
    (starts_text c.starts_with-2.result (codes "::") c.after_run-follows.result.now c.starts_with-2.ensures.cases) in
    before_others c.args.name c.args.rest.now (paren ∙ c.if-starts_with.false) (colons ∙ c.if-starts_with-2.false)
