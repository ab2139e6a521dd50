use Rattle.std.proofs.Common.{◌≡◌, ◌≤◌, take}
use Rattle.xp_tree.specs.declared.numbers.TheConstants.{MAX_WHOLE}
use Rattle.xp_tree.specs.Decimals.{decimal_value}
use Rattle.xp_values.proofs.numerals.bounded_value.Given as goal

abbrev pub invariant-loop-digit : goal.invariant-loop-digit
invariant-loop-digit l = record {
  value_so_far : l.value ≡ decimal_value (take l.digit-index l.digits);
  in_range : l.value ≤ MAX_WHOLE;
}
