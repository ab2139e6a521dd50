-- The declarations of the start tag are counted.
use Rattle.std.proofs.Common.{◌≡◌, ◌-◌, length, length-append, ap, arith}
use Rattle.name_scopes.specs.Declarations.{declarations}
use Rattle.name_scopes.proofs.PieceTests.{stands-start}
use Rattle.name_scopes.proofs.open_tags.OpenTags.start.Goals as goal

pub returns : goal.returns
returns c = λ scopes was.
    let counted : c.len.result - c.len-before.result ≡ length (declarations c.args.attrs.now) =
    omega (arith, c.len.ensures, c.len-before.ensures, ap length c.in_ok-declare.ensures, length-append (declarations c.args.attrs.now) c.args.self.now.scope) in
    stands-start scopes c.args.self.now _ was (declarations c.args.attrs.now) (c.len.result - c.len-before.result) c.in_ok-declare.ensures c.in_ok-push.ensures.items counted
