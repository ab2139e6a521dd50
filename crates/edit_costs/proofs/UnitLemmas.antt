-- One unit more, or those of one pattern more.
use Rattle.std.proofs.Common.{◌≡◌, ◌∙◌, ℕ, ◌+◌, List, [], ◌∷◌, ◌++◌, sym, ap, zero-add}
use Rattle.std.proofs.lemmas.List.{flat_map_more, map-id}
use Rattle.std.proofs.lemmas.List.FromFn.{map-range_with_len_more}
use Rattle.std.specs.List.{flat_map, range_with_len}
use Rattle.doc_tree.specs.Table.{Table}
use Rattle.edit_costs.specs.Evaluating.{lets_below, patterns_below}
use Rattle.edit_costs.specs.Units.{in_force, node_units}

-- one number more
pub number_more : (n : ℕ) → range_with_len 0 (n + 1) ≡ range_with_len 0 n ++ n ∷ []
number_more n =
    sym (map-id (range_with_len 0 (n + 1)))
    ∙ map-range_with_len_more (λ (k : ℕ). k) 0 n n (zero-add n)
    ∙ ap (λ (ns : List ℕ). ns ++ n ∷ []) (map-id (range_with_len 0 n))

pub let_more : (slot : ℕ) → lets_below (slot + 1) ≡ lets_below slot ++ in_force slot ∷ []
let_more slot = map-range_with_len_more in_force 0 slot slot (zero-add slot)

pub pattern_more : (T : Table) (p : ℕ) → patterns_below T (p + 1) ≡ patterns_below T p ++ node_units T p
pattern_more T p =
    ap (flat_map (node_units T)) (number_more p) ∙ sym (flat_map_more (node_units T) [] (range_with_len 0 p) p)
