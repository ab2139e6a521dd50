use Rattle.std.proofs.Common.{◌∙◌, ap, ap₂, min, length, take, drop}
use Rattle.std.specs.Str.{str_eq_ignore_ascii_case}
use Rattle.xp_calls.proofs.Languages.{ignoring_case, language_yes, language_no}
use Rattle.xp_calls.proofs.language.is_language.Goals as goal

pub returns-then-eq_ignore_ascii_case : goal.returns-then-eq_ignore_ascii_case
returns-then-eq_ignore_ascii_case c =
    let tag = c.as_bytes-tag.ensures.value in
    let wanted = c.as_bytes-wanted.ensures.value in
    c.ends_or_goes_on.ensures
    ∙ language_yes c.args.tag.now c.args.wanted.now c.split_at.result.0.now c.split_at.result.1.now c.min.result
    (c.min.ensures ∙ ap₂ (λ w t. min (length w) (length t)) wanted tag)
    (c.split_at.ensures.front ∙ ap (take c.min.result) tag) (c.split_at.ensures.back ∙ ap (drop c.min.result) tag)
    c.eq_ignore_ascii_case.result (ignoring_case _ _ _ c.eq_ignore_ascii_case.ensures.test ∙ ap (str_eq_ignore_ascii_case c.split_at.result.0.now) wanted)
    c.if-eq_ignore_ascii_case.true

pub returns-else-eq_ignore_ascii_case : goal.returns-else-eq_ignore_ascii_case
returns-else-eq_ignore_ascii_case c =
    let tag = c.as_bytes-tag.ensures.value in
    let wanted = c.as_bytes-wanted.ensures.value in
    language_no c.args.tag.now c.args.wanted.now c.split_at.result.0.now c.split_at.result.1.now c.min.result
    (c.min.ensures ∙ ap₂ (λ w t. min (length w) (length t)) wanted tag)
    (c.split_at.ensures.front ∙ ap (take c.min.result) tag) (c.split_at.ensures.back ∙ ap (drop c.min.result) tag)
    c.eq_ignore_ascii_case.result (ignoring_case _ _ _ c.eq_ignore_ascii_case.ensures.test ∙ ap (str_eq_ignore_ascii_case c.split_at.result.0.now) wanted)
    c.if-eq_ignore_ascii_case.false
