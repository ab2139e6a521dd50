-- How many units are stale: the count of entries, and that of the definition.
use Rattle.std.proofs.Common.{◌≡◌, ◌∙◌, ℕ, ◌+◌, ◌<◌, ◌≤◌, zero, suc, Bool, true, false, ◌&&◌, cond, List, [], ◌∷◌, length, map, is_none, refl, sym, ap, arith, zero-add}
use Rattle.std.proofs.lemmas.List.Sums.{length-filter, sum_by-append, sum_by-cons}
use Rattle.std.specs.List.{count_by, filter, flat_map, range_with_len, sum_by}
use Rattle.doc_tree.specs.Table.{Table, is_live}
use Rattle.sch_compiled.specs.declared.plan.Plan.{Plan}
use Rattle.sch_units.specs.Validity.{pattern_numbers}
use Rattle.edit_costs.specs.Units.{in_force, under, let_units, live_numbers, node_units, units_of}
use Rattle.kept_state.specs.Running.{is_stale}
use Rattle.kept_units.specs.declared.kept_units.KeptUnits.{KeptUnits}
use Rattle.kept_reads.specs.Counting.{is_stale_node}
use Rattle.kept_reads.specs.Reads.{reads_at}
use Rattle.kept_reads.proofs.CountingLemmas.{sum_more}
use Rattle.kept_units.specs.Keeping.{seen_in}
use Rattle.kept_units.proofs.SeenLemmas.{seen_pair}

-- Sums

-- one sum more
pub sum_on : (f : ℕ → ℕ) (n base old more : ℕ) → more ≡ f n → old ≡ base + sum_by f (range_with_len 0 n) →
    old + more ≡ base + sum_by f (range_with_len 0 (n + 1))
sum_on f n base old more is so_far = let next = sum_more f n in omega (arith, is, so_far, next)

-- what is the same of each of them has the same sum
sum_alike : (f g : ℕ → ℕ) (a n : ℕ) → ((k : ℕ) → a ≤ k → k < a + n → f k ≡ g k) → sum_by f (range_with_len a n) ≡ sum_by g (range_with_len a n)
sum_alike f g a zero alike = refl
sum_alike f g a (suc n) alike =
    let here = alike a (omega arith) (omega arith) in
    let rest = sum_alike f g (a + 1) n (λ k above below. alike k (omega (arith, above)) (omega (arith, below))) in
    sum_by-cons f a (range_with_len (a + 1) n) ∙ ap (λ (s : ℕ). s + sum_by f (range_with_len (a + 1) n)) here ∙ ap (λ (s : ℕ). g a + s) rest
    ∙ sym (sum_by-cons g a (range_with_len (a + 1) n))

-- Counts

module _ {X : Type 0} (f : X → ℕ) where
  sum_map : {Y : Type 0} (h : Y → X) (ys : List Y) → sum_by f (map h ys) ≡ sum_by (λ y. f (h y)) ys
  sum_map h [] = refl
  sum_map h (y ∷ ys) = sum_by-cons f (h y) (map h ys) ∙ ap (λ (s : ℕ). f (h y) + s) (sum_map h ys) ∙ sym (sum_by-cons (λ z. f (h z)) y ys)

  sum_flat_map : {Y : Type 0} (h : Y → List X) (ys : List Y) → sum_by f (flat_map h ys) ≡ sum_by (λ y. sum_by f (h y)) ys
  sum_flat_map h [] = refl
  sum_flat_map h (y ∷ ys) =
      sum_by-append f (h y) (flat_map h ys) ∙ ap (λ (s : ℕ). sum_by f (h y) + s) (sum_flat_map h ys)
      ∙ sym (sum_by-cons (λ z. sum_by f (h z)) y ys)

-- of those that pass a test so many pass another as pass both
count_filter : {X : Type 0} (p q : X → Bool) (xs : List X) → count_by p (filter q xs) ≡ count_by (λ x. q x && p x) xs
count_filter p q [] = refl
count_filter p q (x ∷ xs) =
    elim (q x) as (λ b. count_by p (cond b (x ∷ filter q xs) (filter q xs)) ≡ cond (b && p x) 1 0 + count_by (λ y. q y && p y) xs) [
      | true ↦ sum_by-cons (λ y. cond (p y) 1 0) x (filter q xs) ∙ ap (λ (s : ℕ). cond (p x) 1 0 + s) (count_filter p q xs)
      | false ↦ count_filter p q xs ∙ sym (zero-add (count_by (λ y. q y && p y) xs))
    ]
    ∙ sym (sum_by-cons (λ y. cond (q y && p y) 1 0) x xs)

-- Stale units

-- how many lets in force are stale
lets_counted : (plan : Plan) (kept : KeptUnits) →
    count_by (λ slot. is_none (reads_at kept.let_reads.entries slot)) (range_with_len 0 (length plan.lets))
    ≡ count_by (is_stale (seen_in kept)) (let_units plan)
lets_counted plan kept = sym (sum_map (λ unit. cond (is_stale (seen_in kept) unit) 1 0) in_force (range_with_len 0 (length plan.lets)))

-- how many live nodes are stale under a pattern
nodes_counted : (plan : Plan) (T : Table) (kept : KeptUnits) (p : ℕ) → kept.found.patterns ≡ length plan.patterns → p < length plan.patterns →
    count_by (is_stale_node T kept.reads.entries (length plan.patterns) p) (range_with_len 0 (length T))
    ≡ count_by (is_stale (seen_in kept)) (node_units T p)
nodes_counted plan T kept p patterns active =
    sum_alike (λ n. cond (is_stale_node T kept.reads.entries (length plan.patterns) p n) 1 0)
    (λ n. cond (is_live T n && is_stale (seen_in kept) (under p n)) 1 0) 0 (length T)
    (λ n above below. ap (λ (b : Bool). cond (is_live T n && b) 1 0) (ap is_none (sym (seen_pair plan p n kept patterns active))))
    ∙ sym (count_filter (λ n. is_stale (seen_in kept) (under p n)) (is_live T) (range_with_len 0 (length T)))
    ∙ sym (sum_map (λ unit. cond (is_stale (seen_in kept) unit) 1 0) (under p) (live_numbers T))

-- the count of all of them
all_counted : (plan : Plan) (T : Table) (kept : KeptUnits) → kept.found.patterns ≡ length plan.patterns →
    count_by (λ slot. is_none (reads_at kept.let_reads.entries slot)) (range_with_len 0 (length plan.lets))
    + sum_by (λ p. count_by (is_stale_node T kept.reads.entries (length plan.patterns) p) (range_with_len 0 (length T)))
    (range_with_len 0 (length plan.patterns))
    ≡ length (filter (is_stale (seen_in kept)) (units_of plan T))
all_counted plan T kept patterns =
    ap (λ (s : ℕ). s + sum_by (λ p. count_by (is_stale_node T kept.reads.entries (length plan.patterns) p) (range_with_len 0 (length T)))
    (range_with_len 0 (length plan.patterns)))
    (lets_counted plan kept)
    ∙ ap (λ (s : ℕ). count_by (is_stale (seen_in kept)) (let_units plan) + s)
    (under_all ∙ sym (sum_flat_map (λ unit. cond (is_stale (seen_in kept) unit) 1 0) (node_units T) (pattern_numbers plan)))
    ∙ sym (sum_by-append (λ unit. cond (is_stale (seen_in kept) unit) 1 0) (let_units plan) (flat_map (node_units T) (pattern_numbers plan)))
    ∙ sym (length-filter (is_stale (seen_in kept)) (units_of plan T))
  where
    under_all : sum_by (λ p. count_by (is_stale_node T kept.reads.entries (length plan.patterns) p) (range_with_len 0 (length T)))
        (range_with_len 0 (length plan.patterns))
        ≡ sum_by (λ p. count_by (is_stale (seen_in kept)) (node_units T p)) (pattern_numbers plan)
    under_all = sum_alike (λ p. count_by (is_stale_node T kept.reads.entries (length plan.patterns) p) (range_with_len 0 (length T)))
        (λ p. count_by (is_stale (seen_in kept)) (node_units T p)) 0 (length plan.patterns)
        (λ p above below. nodes_counted plan T kept p patterns (omega (arith, below)))

-- past the last pattern all are counted
pub count_ends : (plan : Plan) (T : Table) (kept : KeptUnits) (lets patterns p count : ℕ) → kept.found.patterns ≡ length plan.patterns →
    lets ≡ count_by (λ slot. is_none (reads_at kept.let_reads.entries slot)) (range_with_len 0 (length plan.lets)) → patterns ≡ length plan.patterns →
    p ≡ patterns →
    count ≡ lets + sum_by (λ q. count_by (is_stale_node T kept.reads.entries patterns q) (range_with_len 0 (length T))) (range_with_len 0 p) →
    count ≡ length (filter (is_stale (seen_in kept)) (units_of plan T))
count_ends plan T kept lets patterns p count kept_patterns lets_are patterns_are ends so_far =
    so_far
    ∙ ap (λ (k : ℕ). lets + sum_by (λ q. count_by (is_stale_node T kept.reads.entries patterns q) (range_with_len 0 (length T))) (range_with_len 0 k))
    ends
    ∙ ap (λ (k : ℕ). lets + sum_by (λ q. count_by (is_stale_node T kept.reads.entries k q) (range_with_len 0 (length T))) (range_with_len 0 k))
    patterns_are
    ∙ ap (λ (k : ℕ). k + sum_by (λ q. count_by (is_stale_node T kept.reads.entries (length plan.patterns) q) (range_with_len 0 (length T)))
    (range_with_len 0 (length plan.patterns))) lets_are
    ∙ all_counted plan T kept kept_patterns
