use Rattle.std.proofs.Common.{◌≡◌, map, length}
use Rattle.sch_base.specs.Named.{named}
use Rattle.svrl_read.proofs.words.named.Given as goal

-- the entries before these have other names
abbrev pub invariant-loop-table : goal.invariant-loop-table
invariant-loop-table l = named (map (λ entry. (entry.0.now, entry.1)) l.table) l.name ≡ named (map (λ entry. (entry.0.now, entry.1)) l.fn.table) l.name

abbrev pub decreases-loop-table : goal.decreases-loop-table
decreases-loop-table l = length l.table
