use Rattle.xp_types.proofs.PatternLooping.{PatternStepsOnto}
use Rattle.xp_types.proofs.patterns.type_pattern_steps.Given as goal

abbrev pub invariant-loop-step : goal.invariant-loop-step
invariant-loop-step l = PatternStepsOnto l.env l.steps l.step-index l.typed.items
