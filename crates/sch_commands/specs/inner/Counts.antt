-- What parts of a run count.
use Rattle.std.specs.Prelude.{◌≡◌, ℕ, ◌+◌, ◌≤◌, Result, Ok, Err}
use Rattle.sch_undo.specs.shown.Shown.{Shown}
use Rattle.sch_undo.specs.shown.Shown.TheVariants.{Fault}
use Rattle.sch_commands.specs.inner.Followers.{Place}
use Rattle.sch_stops.specs.declared.stop.Stop.{Stop}
use Rattle.sch_commands.specs.Steps.{CountsAtMost}
use Rattle.sch_commands.specs.inner.Sessions.{ScriptCost}

-- a count rose by an amount at most, and by exactly this where no fault is shown
pub record RoseFor (amount before after : ℕ) (shown : Shown) : Type 0 where
  pub at_most : after ≤ before + amount
  pub exactly : (shown ≡ Fault → ⊥) → after ≡ before + amount

-- what the result of a part of a run says of the count, by the visits of the states: at most these where it is stopped
abbrev pub CountsAlong : (ℕ → Type 0) → ℕ → ℕ → Result Shown Stop → Type 0
CountsAlong costs before after (Ok shown) = (cost : ℕ) × costs cost × RoseFor cost before after shown
CountsAlong costs before after (Err stop) = CountsAtMost costs before after

-- the way from one place to another costs visits, and what was counted before rose by these
pub record IsCosted (earlier later : Place) (before after : ℕ) : Type 0 where
  pub cost : ℕ
  pub led : (rest : ℕ) → ScriptCost later.session later.script rest → ScriptCost earlier.session earlier.script (cost + rest)
  pub rose : (first start : ℕ) → RoseFor first start before earlier.seen → RoseFor (first + cost) start after later.seen

-- the visits of what is to come at a place, with those before it
abbrev pub CostOn : Place → ℕ → ℕ → Type 0
CostOn at first cost = (later : ℕ) × ScriptCost at.session at.script later × (cost ≡ first + later)

-- what is to come at a place counts at most its visits
abbrev pub CountsAhead : Place → ℕ → ℕ → Type 0
CountsAhead at before after = CountsAtMost (ScriptCost at.session at.script) before after

-- what is to come at a place is counted with what was counted before
abbrev pub CountsOn : Place → ℕ → ℕ → Result Shown Stop → Type 0
CountsOn at before after result = (first start : ℕ) → RoseFor first start before at.seen → CountsAlong (CostOn at first) start after result
