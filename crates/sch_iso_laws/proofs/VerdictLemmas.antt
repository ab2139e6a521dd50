-- The first fault, and whether there is a finding, along document order and its renumbering.
use Rattle.std.proofs.Common.{◌≡◌, ℕ, ◌+◌, List, [], ◌∷◌, map, Result, Ok, Err, Option, None, Some, refl, ap, ap₂, ◌∙◌}
use Rattle.std.specs.Prelude.{◌==◌, not, option_map}
use Rattle.std.specs.List.{list_any}
use Rattle.std.proofs.lemmas.List.{length-map}
use Rattle.std.specs.Option.{option_or}
use Rattle.doc_tree.specs.Laws.{WellFormed}
use Rattle.doc_tree.specs.Table.{Table}
use Rattle.doc_tree.specs.Walks.{order}
use Rattle.tree_iso.specs.Renumbering.{Renumbers}
use Rattle.tree_iso.proofs.NumberLemmas.{any-moved}
use Rattle.xp_meaning.specs.Evaluation.{Lets}
use Rattle.xp_values.specs.declared.values.EvalFault.{EvalFault}
use Rattle.xp_values.specs.declared.values.Value.{Value}
use Rattle.xslt_match.proofs.Filters.{any-same}
use Rattle.xp_iso_laws.specs.Moved.{moved_lets, moved_outcome}
use Rattle.sch_compiled.specs.declared.findings.Outcome.{Outcome}
use Rattle.sch_compiled.specs.declared.findings.Outcome.TheVariants.{Fault, Fired, NoRule}
use Rattle.sch_compiled.specs.declared.plan.Plan.{Plan}
use Rattle.sch_compiled.specs.declared.state_fault.StateFault.{StateFault}
use Rattle.sch_units.specs.Units.{lets_of}
use Rattle.sch_units.specs.Validity.{finds, first_fault, first_let_fault, first_node_fault, first_with, has_finding, let_fault, pair_fault, pair_outcome, pattern_numbers}
use Rattle.sch_iso_laws.specs.Moves.{OwnLetsMove, VerdictsMove, moved_fault, moved_finding, moved_found}

or-moved : {A B : Type 0} (g : A → B) (o p : Option A) → option_or (option_map g o) (option_map g p) ≡ option_map g (option_or o p)
or-moved g None p = refl
or-moved g (Some x) p = refl

-- the first along a list and along its image
first-moved : {X Y A B : Type 0} (f : X → Y) (g : A → B) (p : X → Option A) (q : Y → Option B) → ((x : X) → q (f x) ≡ option_map g (p x)) → (xs : List X) →
    first_with q (map f xs) ≡ option_map g (first_with p xs)
first-moved f g p q agree [] = refl
first-moved {B = B} f g p q agree (x ∷ xs) =
    ap₂ (λ (a b : Option B). option_or a b) (agree x) (first-moved f g p q agree xs) ∙ or-moved g (p x) (first_with p xs)

-- and along one list, of two words that agree
first-same : {X A B : Type 0} (g : A → B) (p : X → Option A) (q : X → Option B) → ((x : X) → q x ≡ option_map g (p x)) → (xs : List X) →
    first_with q xs ≡ option_map g (first_with p xs)
first-same g p q agree [] = refl
first-same {B = B} g p q agree (x ∷ xs) =
    ap₂ (λ (a b : Option B). option_or a b) (agree x) (first-same g p q agree xs) ∙ or-moved g (p x) (first_with p xs)

module _ (f : ℕ → ℕ) where
  let-moved : (k : ℕ) (o : Option (Result Value EvalFault)) → let_fault k (option_map (moved_outcome f) o) ≡ option_map (moved_fault f) (let_fault k o)
  let-moved k None = refl
  let-moved k (Some (Ok v)) = refl
  let-moved k (Some (Err x)) = refl

  lets-fault : (k : ℕ) (L : Lets) → first_let_fault k (moved_lets f L) ≡ option_map (moved_fault f) (first_let_fault k L)
  lets-fault k [] = refl
  lets-fault k (o ∷ L) =
      ap₂ (λ (a b : Option StateFault). option_or a b) (let-moved k o) (lets-fault (k + 1) L) ∙ or-moved (moved_fault f) (let_fault k o) (first_let_fault (k + 1) L)

  pair-moved : (p n : ℕ) (o : Outcome) → pair_fault p (f n) (moved_found f o) ≡ option_map (moved_fault f) (pair_fault p n o)
  pair-moved p n NoRule = refl
  pair-moved p n (Fired rule findings) = refl
  pair-moved p n (Fault x) = refl

  has-moved : (o : Outcome) → has_finding (moved_found f o) ≡ has_finding o
  has-moved NoRule = refl
  has-moved (Fired rule findings) = ap (λ k. not (k == 0)) (length-map findings (moved_finding f))
  has-moved (Fault x) = refl

module _ (own : OwnLetsMove) (f : ℕ → ℕ) (plan : Plan) (T U : Table) (one : WellFormed T) (other : WellFormed U) (r : Renumbers f T U) where
  at-node : (p n : ℕ) → pair_fault p (f n) (pair_outcome plan U p (f n)) ≡ option_map (moved_fault f) (pair_fault p n (pair_outcome plan T p n))
  at-node p n = ap (pair_fault p (f n)) (own.outcomes f plan T U p n one other r) ∙ pair-moved f p n (pair_outcome plan T p n)

  in-pattern : (p : ℕ) → first_node_fault plan U p ≡ option_map (moved_fault f) (first_node_fault plan T p)
  in-pattern p =
      ap (first_with (λ n. pair_fault p n (pair_outcome plan U p n))) r.in_order
      ∙ first-moved f (moved_fault f) (λ n. pair_fault p n (pair_outcome plan T p n)) (λ n. pair_fault p n (pair_outcome plan U p n)) (at-node p) (order T)

  fault-moved : first_fault plan U ≡ option_map (moved_fault f) (first_fault plan T)
  fault-moved =
      ap₂ (λ (a b : Option StateFault). option_or a b)
      (ap (first_let_fault 0) (own.lets f plan T U one other r) ∙ lets-fault f 0 (lets_of plan T))
      (first-same (moved_fault f) (first_node_fault plan T) (first_node_fault plan U) in-pattern (pattern_numbers plan))
      ∙ or-moved (moved_fault f) (first_let_fault 0 (lets_of plan T)) (first_with (first_node_fault plan T) (pattern_numbers plan))

  found-moved : (p : ℕ) → list_any (λ n. has_finding (pair_outcome plan U p n)) (order U) ≡ list_any (λ n. has_finding (pair_outcome plan T p n)) (order T)
  found-moved p =
      ap (list_any (λ n. has_finding (pair_outcome plan U p n))) r.in_order
      ∙ any-moved f (λ n. has_finding (pair_outcome plan T p n)) (λ n. has_finding (pair_outcome plan U p n))
      (λ n. ap has_finding (own.outcomes f plan T U p n one other r) ∙ has-moved f (pair_outcome plan T p n)) (order T)

  finds-same : finds plan U ≡ finds plan T
  finds-same =
      any-same (λ p. list_any (λ n. has_finding (pair_outcome plan U p n)) (order U)) (λ p. list_any (λ n. has_finding (pair_outcome plan T p n)) (order T))
      (pattern_numbers plan) found-moved

pub verdicts-move : OwnLetsMove → VerdictsMove
verdicts-move own = record {
  faults = λ f plan T U one other r. fault-moved own f plan T U one other r;
  findings = λ f plan T U one other r. finds-same own f plan T U one other r;
}
