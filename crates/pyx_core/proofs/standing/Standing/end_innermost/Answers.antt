-- The name that is kept last becomes that of the event.
use Rattle.std.proofs.Common.{◌≡◌, length, vec_len, arith}
use Rattle.pyx_core.specs.declared.line_table.Line.TheVariants.{End}
use Rattle.pyx_core.specs.Before.{open_names}
use Rattle.pyx_core.proofs.EndLemmas.{last_name, some_name}
use Rattle.pyx_core.proofs.ReplayLemmas.{outer_named}
use Rattle.pyx_core.proofs.StandingLemmas.{settles, popped}
use Rattle.pyx_core.proofs.standing.Standing.end_innermost.Goals as goal

pub returns-in-Some : goal.returns-in-Some
returns-in-Some c = λ mode taken before name reads number opened.
    let count : vec_len c.args.self.now.opened ≡ length c.args.self.now.opened.items = omega (arith, c.args.self.now.opened.ok.0) in
    let rest = popped c.args.self.now.opened.items c.pop.new.self.items _ (open_names before) reads.opened count c.pop.ensures.rest in
    let top : c.in-Some.name ≡ name =
    last_name c.args.self.now.opened.items c.pop.new.self.items (open_names before) name c.in-Some.name reads.opened opened rest
    (rw c.in-Some.is at c.pop.ensures.items) in
    settles _ mode taken before (End name) c.whole.result reads.mode_is rest (outer_named (open_names before) reads.named) reads.item
    (rw (number, top) at (c.whole.ensures taken _ _ reads.told))

pub returns-in-None : goal.returns-in-None
returns-in-None c = λ mode taken before name reads number opened.
    let count : vec_len c.args.self.now.opened ≡ length c.args.self.now.opened.items = omega (arith, c.args.self.now.opened.ok.0) in
    let empty : (vec_len c.args.self.now.opened ≡ 0) × (vec_len c.pop.new.self ≡ 0) = rw c.in-None.is at c.pop.ensures.cases in
    let none : length c.args.self.now.opened.items ≡ 0 = omega (arith, count, empty.0) in
    absurd (some_name c.args.self.now.opened.items (open_names before) name reads.opened opened none)
