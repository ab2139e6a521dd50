-- The start, what is held, and the end.
use Rattle.std.proofs.Common.{[], ◌∷◌, map}
use Rattle.pyx_core.specs.declared.event.Event.TheVariants.{Start, End}
use Rattle.sch_flat.specs.FlatDocument.{only_given}
use Rattle.sch_flat.specs.inner.Given.{seen}
use Rattle.sch_flat.proofs.lines.element_size.Goals as goal

pub returns : goal.returns
returns c =
    let start = Start c.args.name.now (only_given (map seen c.args.attributes.now)) in
    let end = End c.args.name.now in
    λ events h. c.then-2.ensures (start ∷ events) (end ∷ []) (c.then.ensures (start ∷ []) events c.start_size.ensures h) c.end_size.ensures
