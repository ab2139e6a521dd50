-- Each line is taken or stops the reading, and the rest is kept.
use Rattle.std.proofs.Common.{◌++◌, refl, arith}
use Rattle.std.proofs.lemmas.Result.{MatchResult-from_err}
use Rattle.pyx_core.proofs.CuttingLemmas.{FirstLine, feeds_start, feeds_line, feeds_fault, feeds_memory, feeds_end, feeds_none}
use Rattle.pyx_core.proofs.cutting.Cutting.feed.Goals as goal

pub loop-end-init : goal.loop-end-init
loop-end-init c = λ mode fed taken keeps few. feeds_start c.args.self.now mode taken fed c.args.piece.now keeps few

pub returns-in_err-fault : goal.returns-in_err-fault
returns-in_err-fault c = λ mode fed taken keeps few.
    let on = c.loop-end.invariant mode fed taken keeps few in
    let cut = c.in-Some.ensures.0 in
    let first : FirstLine c.loop-end.rest.now c.in-Some.end.at c.split_line.result.0.now c.split_line.result.1.now = record {
      less = cut.0.high;
      none = λ k less. cut.0.before k (omega arith) less;
      is = cut.1;
      line_is = c.split_line.ensures.line;
      later_is = c.split_line.ensures.rest;
    } in
    MatchResult-from_err c.from_residual.result _ _ c.from_residual.ensures.0
    (λ _. feeds_memory c.loop-end.self c.take_line.new.self mode taken (fed ++ c.args.piece.now) c.loop-end.rest.now _ _ _
    c.in_err-fault.field-0.0 on first
    (c.in_err-fault.ensures mode taken on.before on.half on.stands (omega (arith, on.few))))

pub returns-in-Some-2 : goal.returns-in-Some-2
returns-in-Some-2 c = λ mode fed taken keeps few.
    let on = c.loop-end.invariant mode fed taken keeps few in
    let cut = c.in-Some.ensures.0 in
    let first : FirstLine c.loop-end.rest.now c.in-Some.end.at c.split_line.result.0.now c.split_line.result.1.now = record {
      less = cut.0.high;
      none = λ k less. cut.0.before k (omega arith) less;
      is = cut.1;
      line_is = c.split_line.ensures.line;
      later_is = c.split_line.ensures.rest;
    } in
    feeds_fault c.loop-end.self c.take_line.new.self mode taken (fed ++ c.args.piece.now) c.loop-end.rest.now _ _ _
    c.in-Some-2.fault on first
    (rw c.in-Some-2.is at (c.in_ok-fault.ensures mode taken on.before on.half on.stands (omega (arith, on.few))))

pub loop-end-preserved : goal.loop-end-preserved
loop-end-preserved c = λ mode fed taken keeps few.
    let on = c.loop-end.invariant mode fed taken keeps few in
    let cut = c.in-Some.ensures.0 in
    let first : FirstLine c.loop-end.rest.now c.in-Some.end.at c.split_line.result.0.now c.split_line.result.1.now = record {
      less = cut.0.high;
      none = λ k less. cut.0.before k (omega arith) less;
      is = cut.1;
      line_is = c.split_line.ensures.line;
      later_is = c.split_line.ensures.rest;
    } in
    feeds_line c.loop-end.self c.take_line.new.self mode taken (fed ++ c.args.piece.now) c.loop-end.rest.now _ _ _ on first
    (rw c.in_default-2.is at (c.in_ok-fault.ensures mode taken on.before on.half on.stands (omega (arith, on.few))))

pub returns-in_err-keep : goal.returns-in_err-keep
returns-in_err-keep c = λ mode fed taken keeps few.
    let on = c.loop-end.invariant mode fed taken keeps few in
    MatchResult-from_err c.from_residual-in_err-keep.result _ _ c.from_residual-in_err-keep.ensures.0
    (λ _. feeds_none c.loop-end.self mode taken (fed ++ c.args.piece.now) c.loop-end.rest.now on)

pub returns : goal.returns
returns c = λ mode fed taken keeps few.
    let on = c.loop-end.invariant mode fed taken keeps few in
    feeds_end c.loop-end.self _ mode taken (fed ++ c.args.piece.now) c.loop-end.rest.now on
    (λ k less. c.in_default.ensures k (omega arith) less) refl refl c.in_ok-keep.ensures
