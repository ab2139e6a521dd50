use Rattle.std.proofs.Common.{◌≡◌, drop}
use Rattle.name_scopes.specs.Fragments.{names_fault}
use Rattle.name_scopes.proofs.own_names.check_names.Given as goal

-- no event so far breaks a rule
abbrev pub invariant-loop-event : goal.invariant-loop-event
invariant-loop-event l = names_fault l.events ≡ names_fault (drop l.event-index l.events)
