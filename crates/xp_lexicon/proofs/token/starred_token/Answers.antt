use Rattle.std.proofs.Common.{◌∙◌}
use Rattle.std.specs.Prelude.{codes}
use Rattle.std.proofs.lemmas.Str.Pattern.{starts_text}
use Rattle.xp_lexicon.proofs.Tokens.{colons_behind, starred_before_colons, starred_before_others}
use Rattle.xp_lexicon.proofs.token.starred_token.Goals as goal

pub returns-then-starts_with : goal.returns-then-starts_with
returns-then-starts_with c =
    let colons = colons_behind c.args.rest.now c.after_run.result.now c.starts_with.result c.after_run.ensures
    (starts_text c.starts_with.result (codes "::") c.after_run.result.now c.starts_with.ensures.cases) in
    starred_before_colons c.args.prefix c.args.rest.now (colons ∙ c.if-starts_with.true)

pub returns : goal.returns
returns c =
    let colons = colons_behind c.args.rest.now c.after_run.result.now c.starts_with.result c.after_run.ensures
    (starts_text c.starts_with.result (codes "::") c.after_run.result.now c.starts_with.ensures.cases) in
    starred_before_others c.args.prefix c.args.rest.now (colons ∙ c.if-starts_with.false)
