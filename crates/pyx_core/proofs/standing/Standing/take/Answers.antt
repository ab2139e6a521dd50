use Rattle.std.proofs.Common.{refl, sym, ◌∙◌}
use Rattle.std.proofs.lemmas.Result.{MatchResult-from_err}
use Rattle.pyx_core.proofs.EndLemmas.{good_named, end_good}
use Rattle.pyx_core.specs.declared.line_table.Line.TheVariants.{Start}
use Rattle.pyx_core.proofs.standing.Standing.take.Goals as goal

pub returns-in_err-end_innermost : goal.returns-in_err-end_innermost
returns-in_err-end_innermost c = λ mode taken before reads number.
    let ends = end_good mode before c.args.bytes.now reads.named
    (sym (c.ends_innermost.ensures mode taken before reads) ∙ c.if-ends_innermost.true) in
    rw ends.good
    (MatchResult-from_err c.from_residual.result _ _ c.from_residual.ensures.0
    (λ _. c.in_err-end_innermost.ensures mode taken before ends.name reads number ends.is))

pub returns-then-ends_innermost : goal.returns-then-ends_innermost
returns-then-ends_innermost c = λ mode taken before reads number.
    let ends = end_good mode before c.args.bytes.now reads.named
    (sym (c.ends_innermost.ensures mode taken before reads) ∙ c.if-ends_innermost.true) in
    rw ends.good (refl, c.in_ok-end_innermost.ensures mode taken before ends.name reads number ends.is)

pub returns-in_err-start : goal.returns-in_err-start
returns-in_err-start c = λ mode taken before reads number.
    let good = c.in-Some.ensures mode taken before reads in
    rw good
    (MatchResult-from_err c.from_residual-in_err-start.result _ _ c.from_residual-in_err-start.ensures.0
    (λ _. c.in_err-start.ensures mode taken before reads number
    (good_named mode before c.args.bytes.now (Start c.in-Some.name.now) good reads.named)))

pub returns-in-Some : goal.returns-in-Some
returns-in-Some c = λ mode taken before reads number.
    let good = c.in-Some.ensures mode taken before reads in
    rw good (
      refl,
      c.in_ok-start.ensures mode taken before reads number
          (good_named mode before c.args.bytes.now (Start c.in-Some.name.now) good reads.named),
    )

pub returns-in_err-chars : goal.returns-in_err-chars
returns-in_err-chars c = λ mode taken before reads number.
    let inside = c.in-Some-literal_chars.ensures mode taken before reads in
    rw inside.good
    (MatchResult-from_err c.from_residual-in_err-chars.result _ _ c.from_residual-in_err-chars.ensures.0
    (λ _. c.in_err-chars.ensures mode taken before reads number inside.inside))

pub returns-in-Some-literal_chars : goal.returns-in-Some-literal_chars
returns-in-Some-literal_chars c = λ mode taken before reads number.
    let inside = c.in-Some-literal_chars.ensures mode taken before reads in
    rw inside.good (refl, c.in_ok-chars.ensures mode taken before reads number inside.inside)

pub returns-in_err-attribute : goal.returns-in_err-attribute
returns-in_err-attribute c = λ mode taken before reads number.
    rw (c.in-Some-literal_attribute.ensures mode taken before reads)
    (MatchResult-from_err c.from_residual-in_err-attribute.result _ _ c.from_residual-in_err-attribute.ensures.0
    (λ _. c.in_err-attribute.ensures mode taken before reads))

pub returns-in-Some-literal_attribute : goal.returns-in-Some-literal_attribute
returns-in-Some-literal_attribute c = λ mode taken before reads number.
    rw (c.in-Some-literal_attribute.ensures mode taken before reads)
    (refl, c.in_ok-attribute.ensures mode taken before reads)
