-- How a table of outcomes is kept: a list of cells, those of each node together, in the order of the patterns.
use Rattle.std.specs.Prelude.{ℕ, suc, ◌==◌, List, [], ◌∷◌, Option, None, Some, refl, if◌then◌else◌}
use Rattle.std.specs.Coded.{Coded, code_by, coded×, coded_ℕ}
use Rattle.std.specs.FinMap as map
use Rattle.sch_compiled.specs.declared.findings.Outcome.{Outcome}
use Rattle.sch_compiled.specs.Findings.{OutcomeTable, pair_cmp}

-- the pattern and the node of the next cell
abbrev pub next_pattern : ℕ → ℕ → ℕ
next_pattern count p = if suc p == count then 0 else suc p

abbrev pub next_node : ℕ → ℕ → ℕ → ℕ
next_node count p n = if suc p == count then suc n else n

-- the outcomes in the cells from those of a pattern and a node on
abbrev pub held : ℕ → ℕ → ℕ → List (Option Outcome) → map.FinMap pair_cmp Outcome
held count p n [] = map.empty
held count p n (None ∷ cells) = held count (next_pattern count p) (next_node count p n) cells
held count p n (Some outcome ∷ cells) = map.insert (held count (next_pattern count p) (next_node count p n) cells) (p, n) outcome

-- the table that the cells show
abbrev pub shown : ℕ → List (Option Outcome) → OutcomeTable
shown count cells = record { patterns = count; outcomes = held count 0 0 cells }

-- a table is stored as the pair of its fields
abbrev pub table_code : Coded Outcome → Coded OutcomeTable
table_code outcome = code_by (ℕ × map.FinMap pair_cmp Outcome) (coded× coded_ℕ (map.code (coded× coded_ℕ coded_ℕ) outcome)) (λ t. (t.patterns, t.outcomes)) (λ p. record { patterns = p.0; outcomes = p.1 }) (λ _. refl)
