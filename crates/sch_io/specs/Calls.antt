-- Calls that are counted, some of which are to fail.
use Rattle.std.specs.Prelude.{ℕ, ◌+◌, ◌-◌, ◌^◌, ◌&&◌, nat_lt, nat_eq, min, Bool, List}
use Rattle.std.specs.List.{list_any}

-- how many calls were made, and the numbers of those that fail
pub record CallPlan : Type 0 where
  pub made : ℕ
  pub failing : List ℕ

-- the next call has a number, and it is one of those that fail
abbrev pub fails_next : CallPlan → Bool
fails_next plan = nat_lt plan.made (2 ^ 64 - 1) && list_any (λ call. nat_eq call (plan.made + 1)) plan.failing

-- one more call, as far as a u64 counts
abbrev pub made_next : CallPlan → CallPlan
made_next plan = record plan { made = min (plan.made + 1) (2 ^ 64 - 1) }
