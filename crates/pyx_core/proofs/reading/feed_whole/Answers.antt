use Rattle.std.proofs.Common.{◌<◌, length, [], arith}
use Rattle.std.proofs.lemmas.Result.{err_from_is_err_and}
use Rattle.pyx_core.proofs.ReaderLemmas.{refused, read_all}
use Rattle.pyx_core.proofs.reading.feed_whole.Goals as goal

pub returns-in_err-feed : goal.returns-in_err-feed
returns-in_err-feed c = λ mode reads.
    let few : length c.args.bytes.now < 18446744073709551615 = omega arith in
    let p = err_from_is_err_and c.from_residual.result c.from_residual.ensures.1 in
    rw (p.1, p.2) (refused c.feed.new.self mode c.args.bytes.now c.in_err-feed.field-0.0 (c.in_err-feed.ensures.read mode [] [] reads few))

pub returns : goal.returns
returns c = λ mode reads.
    let few : length c.args.bytes.now < 18446744073709551615 = omega arith in
    read_all c.finish.new.self mode c.args.bytes.now c.finish.result
    (c.finish.ensures.read mode c.args.bytes.now [] (c.in_ok-feed.ensures.read mode [] [] reads few))
