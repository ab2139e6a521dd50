use Rattle.std.proofs.Common.{◌≡◌, ◌-◌, ap, length, subst, arith, length-append}
use Rattle.std.specs.Str.{IsCharBoundary}
use Rattle.std.proofs.lemmas.Str.{IsCharBoundary-at_seam}
use Rattle.sch_texts.proofs.names.before.Goals as goal

pub range-requires-clause-end_boundary : goal.range-requires-clause-end_boundary
range-requires-clause-end_boundary c =
    let len : length c.requires.front ≡ length c.args.text.now - length c.args.rest.now =
    omega (arith, ap length c.requires.split, length-append c.requires.front c.args.rest.now) in
    subst (λ n. IsCharBoundary c.args.text.now n) len
    (IsCharBoundary-at_seam c.args.text.now c.requires.front c.args.rest.now c.requires.split c.utf8.rest)
