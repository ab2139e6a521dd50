use Rattle.std.proofs.Common.{◌≡◌, ◌+◌, ◌++◌, ◌∙◌, ap, sym, Ok, drop, length, length-append, flat_map, string_bytes, arith}
use Rattle.xp_meaning.specs.Functions.{text_of}
use Rattle.xp_calls.proofs.JoinedTexts.{joined_more, joined_past, joined_end}
use Rattle.xp_calls.proofs.joining.join.Goals as goal

pub returns-then-part-len : goal.returns-then-part-len
returns-then-part-len c =
    let same = ap length c.text_of-part.ensures in
    joined_past c.args.args.now (string_bytes c.loop-arg.text) c.loop-arg.arg-index c.arg-item.result c.loop-arg-test.true c.arg-item.is c.loop-arg.invariant.rest
    (omega (arith, same, c.len.ensures, c.if-part-len.true))

pub loop-arg-preserved : goal.loop-arg-preserved
loop-arg-preserved c =
    let added = c.in_ok-push_str.ensures.bytes in
    let long : length (string_bytes c.push_str.new.self) ≡ length (string_bytes c.loop-arg.text) + length c.text_of-part.result.now = ap length added ∙ length-append _ _ in
    record {
      rest =
          joined_more c.args.args.now (string_bytes c.loop-arg.text) c.loop-arg.arg-index c.arg-item.result c.loop-arg-test.true c.arg-item.is c.loop-arg.invariant.rest
          ∙ ap (λ xs. xs ++ flat_map text_of (drop (c.loop-arg.arg-index + 1) c.args.args.now))
          (sym (added ∙ ap (λ part. string_bytes c.loop-arg.text ++ part) c.text_of-part.ensures));
      small = omega (arith, long, c.len.ensures, c.if-part-len.false, c.loop-arg.invariant.small);
    }

pub returns : goal.returns
returns c =
    joined_end c.args.args.now (string_bytes c.loop-arg.text) c.loop-arg.arg-index c.loop-arg.invariant.rest c.loop-arg-test.false c.loop-arg.invariant.small
    ∙ ap Ok (sym c.from.ensures)
