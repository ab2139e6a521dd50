use Rattle.std.proofs.Common.{sym, ap, length, ◌∙◌}
use Rattle.xp_lexicon.proofs.Symbols.{NoDouble, longest_double, longest_single, no_symbols, no_double, no_double_at_end}
use Rattle.xp_lexicon.proofs.symbol.symbol.Goals as goal
use Rattle.xp_lexicon.proofs.symbol.symbol.Goals.{in-Some+in_default-double, in_default}

pub returns-in-Some-double : goal.returns-in-Some-double
returns-in-Some-double c =
    longest_double c.args.first c.in-Some.second c.args.behind.now c.as_str.result.now c.in-Some-double.token
    (rw c.as_str.ensures (sym c.chars-chars.ensures.rest ∙ c.in-Some.ensures.steps.0)) c.in-Some-double.ensures

pub returns-in-Some-single : goal.returns-in-Some-single
returns-in-Some-single c =
    let none : NoDouble c.args.first c.args.behind.now = elim c.match-next.branch [
      | in-Some+in_default-double w ↦
          no_double c.args.first w.in-Some.second c.args.behind.now c.next.new.self.rest.now
          (sym c.chars-chars.ensures.rest ∙ w.in-Some.ensures.steps.0) w.in_default-double.ensures
      | in_default w ↦ no_double_at_end c.args.first c.args.behind.now (ap length (sym c.chars-chars.ensures.rest) ∙ w.in_default.ensures.steps.0.0)
    ] in
    longest_single c.args.first c.args.behind.now c.in-Some-single.token none c.in-Some-single.ensures

pub returns-in-None : goal.returns-in-None
returns-in-None c =
    let none : NoDouble c.args.first c.args.behind.now = elim c.match-next.branch [
      | in-Some+in_default-double w ↦
          no_double c.args.first w.in-Some.second c.args.behind.now c.next.new.self.rest.now
          (sym c.chars-chars.ensures.rest ∙ w.in-Some.ensures.steps.0) w.in_default-double.ensures
      | in_default w ↦ no_double_at_end c.args.first c.args.behind.now (ap length (sym c.chars-chars.ensures.rest) ∙ w.in_default.ensures.steps.0.0)
    ] in
    no_symbols c.args.first c.args.behind.now none c.in-None.ensures
