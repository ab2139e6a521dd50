-- Amounts, and their sums. A count of 64 bits stands still at the last value.
use Rattle.std.specs.Prelude.{ℕ, ◌+◌, List, [], ◌∷◌}
use Rattle.pyx_core.specs.declared.event.Event.{Event}
use Rattle.sch_flat.specs.declared.size.FlatSize.{FlatSize}
use Rattle.sch_flat.specs.FlatSize.{bytes_of, capped, nodes_of}
use Rattle.sch_sizes.specs.declared.amount.Amount.{Amount}

-- nothing
unfoldable pub nothing : Amount
nothing = record { rule_count = 0; assertion_count = 0; let_count = 0; byte_count = 0; node_count = 0 }

-- both together
unfoldable pub plus : Amount → Amount → Amount
plus a b = record {
  rule_count = a.rule_count + b.rule_count;
  assertion_count = a.assertion_count + b.assertion_count;
  let_count = a.let_count + b.let_count;
  byte_count = a.byte_count + b.byte_count;
  node_count = a.node_count + b.node_count;
}

-- an amount as the program carries it
unfoldable pub cap : Amount → Amount
cap a = record {
  rule_count = capped a.rule_count;
  assertion_count = capped a.assertion_count;
  let_count = capped a.let_count;
  byte_count = capped a.byte_count;
  node_count = capped a.node_count;
}

-- what all items amount to
abbrev pub sum_all : {A : Type 0} → (A → Amount) → List A → Amount
sum_all f [] = nothing
sum_all f (x ∷ xs) = plus (f x) (sum_all f xs)

-- so many of a kind
abbrev pub many : ℕ → ℕ → ℕ → Amount
many rule_count assertion_count let_count =
    record { rule_count = rule_count; assertion_count = assertion_count; let_count = let_count; byte_count = 0; node_count = 0 }

-- a size as an amount
abbrev pub sized_amount : FlatSize → Amount
sized_amount size = record { rule_count = 0; assertion_count = 0; let_count = 0; byte_count = size.bytes; node_count = size.nodes }

-- what events amount to
abbrev pub of_events : List Event → Amount
of_events events =
    record { rule_count = 0; assertion_count = 0; let_count = 0; byte_count = bytes_of events; node_count = nodes_of events }
