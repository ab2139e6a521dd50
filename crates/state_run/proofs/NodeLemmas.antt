-- Nodes under patterns that are evaluated one after another.
use Rattle.std.proofs.Common.{◌≡◌, ◌≢◌, ◌∙◌, inl, inr, ◌⊎◌, ℕ, ◌+◌, ◌<◌, ◌≤◌, true, List, [], ◌∷◌, ◌++◌, length, map, Some, sym, ap, subst, arith}
use Rattle.std.proofs.lemmas.Bool.{cases_eq}
use Rattle.std.proofs.lemmas.List.{map-append}
use Rattle.std.proofs.lemmas.List.Elements.{filter-append}
use Rattle.std.specs.List.{filter, range_with_len}
use Rattle.doc_tree.specs.Laws.{Ordered}
use Rattle.doc_tree.specs.Table.{Table, is_live}
use Rattle.sch_compiled.specs.declared.plan.Plan.{Plan}
use Rattle.sch_compiled.specs.Findings.{OutcomeTable, outcome_at}
use Rattle.sch_units.specs.Validity.{pair_outcome}
use Rattle.edit_costs.specs.Evaluating.{nodes_below}
use Rattle.edit_costs.specs.Units.{under}
use Rattle.edit_costs.proofs.UnitLemmas.{number_more}
use Rattle.state_run.specs.Outcomes.{Holds}
use Rattle.state_run.specs.inner.Running.{HoldsTo, under_node}

pub node_more : (T : Table) (p n : ℕ) → nodes_below T p (n + 1) ≡ nodes_below T p n ++ under_node T p n
node_more T p n =
    ap (λ (ns : List ℕ). map (under p) (filter (is_live T) ns)) (number_more n)
    ∙ ap (map (under p)) (filter-append (is_live T) (range_with_len 0 n) (n ∷ []))
    ∙ map-append (under p) (filter (is_live T) (range_with_len 0 n)) (filter (is_live T) (n ∷ []))

-- Outcomes so far

pub holds_next : (plan : Plan) (T : Table) (p count : ℕ) (found : OutcomeTable) → Ordered T → length T ≤ count → HoldsTo plan T p count found →
    HoldsTo plan T (p + 1) 0 found
holds_next plan T p count found ordered all so_far = record {
  patterns = so_far.patterns;
  earlier = λ q n below live. by q n below live (cases_eq q p);
  here = λ n below live. absurd (omega (arith, below));
}
  where
    by : (q n : ℕ) → q < p + 1 → is_live T n ≡ true → (q ≡ p) ⊎ (q ≢ p) → outcome_at found q n ≡ Some (pair_outcome plan T q n)
    by q n below live (inl same) = subst (λ (k : ℕ). outcome_at found k n ≡ Some (pair_outcome plan T k n)) (sym same)
        (so_far.here n (omega (arith, ordered.made n (sym (ordered.live_in_order n) ∙ live), all)) live)
    by q n below live (inr differ) = so_far.earlier q n (omega (arith, below, differ)) live

pub holds_all : (plan : Plan) (T : Table) (count : ℕ) (found : OutcomeTable) → Ordered T → length plan.patterns ≤ count →
    HoldsTo plan T count 0 found → Holds plan T found
holds_all plan T count found ordered all so_far = record {
  patterns = so_far.patterns;
  outcomes = λ p n low there. so_far.earlier p n (omega (arith, low, all)) (ordered.live_in_order n ∙ there);
}
