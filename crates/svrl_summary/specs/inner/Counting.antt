-- Labels that were counted so far.
use Rattle.std.specs.Prelude.{ℕ, List, map}
use Rattle.std.specs.BTreeMap.{BTreeMap}
use Rattle.std.specs.Borrow.{Bor}

-- each label with its count
abbrev pub shown : BTreeMap (Bor (List ℕ)) ℕ → List (List ℕ × ℕ)
shown labels = map (λ entry. (entry.0.now, entry.1)) labels.entries
