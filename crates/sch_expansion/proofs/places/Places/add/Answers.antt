use Rattle.std.proofs.Common.{sym, ◌∙◌}
use Rattle.sch_expansion.proofs.PlaceLemmas.{found-again, found-new, none-there}
use Rattle.sch_expansion.proofs.places.Places.add.Goals as goal

pub returns : goal.returns
returns c = λ its.
    found-new c.args.self.now.entries c.insert.new.self.entries c.in_ok-name.name c.args.name.now its c.args.place
    c.in_ok-name.ensures.ok (none-there _ (sym c.contains_key.ensures ∙ c.if-contains_key.false)) c.in_ok-insert.ensures.entries

pub returns-then-contains_key : goal.returns-then-contains_key
returns-then-contains_key c = λ its. found-again c.args.self.now.entries.entries c.args.name.now its c.args.place (sym c.contains_key.ensures ∙ c.if-contains_key.true)
