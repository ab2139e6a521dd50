-- A text has at most as many characters as bytes.
use Rattle.std.proofs.Common.{◌≤◌, length, chars, sym, ap, ◌∙◌, arith}
use Rattle.std.specs.Prelude.{encode_utf8_all}
use Rattle.std.proofs.lemmas.Str.{length-le-encodes, encodes-chars}
use Rattle.xp_values.proofs.texts.substring.Goals as goal

pub returns : goal.returns
returns c =
    let s = c.args.s.now in
    let few : length (chars s) ≤ length s = omega (arith, length-le-encodes (chars s), ap length (encodes-chars s c.utf8.s)) in
    c.from.ensures ∙ (c.in_ok-text.ensures ∙ ap encode_utf8_all (sym (c.kept_range-skipped.ensures (chars s) few)))
