-- A text is cut at its first colon, or it has none.
use Rattle.std.proofs.Common.{◌≡◌, ◌∙◌, lit<, refl, Bool, true, false, cond, Some, None}
use Rattle.std.specs.Bool.{then_some}
use Rattle.std.proofs.lemmas.Str.Pattern.{split_once_first}
use Rattle.sch_base.specs.Names.{is_colon}
use Rattle.sch_base.proofs.Lists.{none_passes, one_passes}
use Rattle.sch_base.proofs.names.split_qname.Goals as goal

-- `then_some` as a choice
chosen : {T : Type 0} (is : Bool) (x : T) → then_some is x ≡ cond is (Some x) None
chosen true x = refl
chosen false x = refl

pub returns-in-Some : goal.returns-in-Some
returns-in-Some c =
    let cut = split_once_first 58 c.args.s.now (Some (c.in-Some.prefix, c.in-Some.local)) c.in-Some.ensures.cases (lit< tt) in
    rw (one_passes is_colon c.args.s.now cut.0) (rw (cut.1, cut.2) at c.split_at_colon.ensures)

pub returns-in-None : goal.returns-in-None
returns-in-None c =
    let none = split_once_first 58 c.args.s.now None c.in-None.ensures.cases (lit< tt) in
    rw (none_passes is_colon c.args.s.now none, ← c.is_ncname.ensures) (c.then_some.ensures ∙ chosen _ _)
