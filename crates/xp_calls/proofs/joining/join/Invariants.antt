use Rattle.std.proofs.Common.{◌≡◌, ◌≤◌, ◌++◌, drop, length, flat_map, string_bytes}
use Rattle.sch_base.specs.declared.limits.TheConstants.{MAX_TEXT_BYTES}
use Rattle.xp_meaning.specs.Functions.{text_of}
use Rattle.xp_calls.proofs.joining.join.Given as goal

abbrev pub invariant-loop-arg : goal.invariant-loop-arg
invariant-loop-arg l = record {
  rest : flat_map text_of l.args ≡ string_bytes l.text ++ flat_map text_of (drop l.arg-index l.args);
  small : length (string_bytes l.text) ≤ MAX_TEXT_BYTES;
}
