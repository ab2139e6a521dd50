-- What asks for the position in a list of expressions, from a place on, and in each variant of an expression.
use Rattle.std.proofs.Common.{◌≡◌, ℕ, ◌+◌, ◌<◌, ◌≤◌, Bool, true, false, ◌||◌, List, length, drop, get_or, sym, ◌∙◌, ap}
use Rattle.xp_typed_tree.specs.declared.expr.TypedExpr.{TypedExpr}
use Rattle.xp_typed_tree.specs.declared.expr.Compared.{Compared, out-Compared}
use Rattle.xp_typed_tree.specs.declared.expr.Combined.{Combined, out-Combined}
use Rattle.xp_typed_tree.specs.TypedView.{typed_tree_of, typed_seen, compared_list_seen, combined_list_seen}
use Rattle.xp_typed_tree.proofs.TypedViewLemmas.{of-compared, of-combined}
use Rattle.xp_outcome.proofs.Runs.{next_item, no_item}
use Rattle.xslt_match.specs.Positional.{asks_position, comparands_ask, combinands_ask, some_asks, is_positional, some_positional}

-- a choice whose first part is known
pub or_yes : {a : Bool} (b : Bool) → a ≡ true → true ≡ (a || b)
or_yes b is = sym (ap (λ c. c || b) is)

pub or_no : {a : Bool} (b : Bool) → a ≡ false → (a || b) ≡ b
or_no b is = ap (λ c. c || b) is

module _ (xs : List TypedExpr) (i : ℕ) where
  module _ (x : TypedExpr) (below : i < length xs) (is : x ≡ get_or xs i x) where
    pub some_positional-next : some_positional (typed_seen (drop i xs)) ≡ (is_positional (typed_tree_of x) || some_positional (typed_seen (drop (i + 1) xs)))
    some_positional-next = ap (λ ys. some_positional (typed_seen ys)) (next_item xs i x below is)

    pub some_asks-next : some_asks (typed_seen (drop i xs)) ≡ (asks_position (typed_tree_of x) || some_asks (typed_seen (drop (i + 1) xs)))
    some_asks-next = ap (λ ys. some_asks (typed_seen ys)) (next_item xs i x below is)

  pub some_positional-end : length xs ≤ i → some_positional (typed_seen (drop i xs)) ≡ false
  some_positional-end past = ap (λ ys. some_positional (typed_seen ys)) (no_item xs i past)

  pub some_asks-end : length xs ≤ i → some_asks (typed_seen (drop i xs)) ≡ false
  some_asks-end past = ap (λ ys. some_asks (typed_seen ys)) (no_item xs i past)

module _ (xs : List Compared) (i : ℕ) where
  pub comparands-next : (x : Compared) → i < length xs → x ≡ get_or xs i x →
      comparands_ask (compared_list_seen (drop i xs)) ≡ (asks_position (typed_tree_of (out-Compared x).expr) || comparands_ask (compared_list_seen (drop (i + 1) xs)))
  comparands-next x below is =
      ap (λ ys. comparands_ask (compared_list_seen ys)) (next_item xs i x below is) ∙ ap comparands_ask (of-compared x (compared_list_seen (drop (i + 1) xs)))

  pub comparands-end : length xs ≤ i → comparands_ask (compared_list_seen (drop i xs)) ≡ false
  comparands-end past = ap (λ ys. comparands_ask (compared_list_seen ys)) (no_item xs i past)

module _ (xs : List Combined) (i : ℕ) where
  pub combinands-next : (x : Combined) → i < length xs → x ≡ get_or xs i x →
      combinands_ask (combined_list_seen (drop i xs)) ≡ (asks_position (typed_tree_of (out-Combined x).expr) || combinands_ask (combined_list_seen (drop (i + 1) xs)))
  combinands-next x below is =
      ap (λ ys. combinands_ask (combined_list_seen ys)) (next_item xs i x below is) ∙ ap combinands_ask (of-combined x (combined_list_seen (drop (i + 1) xs)))

  pub combinands-end : length xs ≤ i → combinands_ask (combined_list_seen (drop i xs)) ≡ false
  combinands-end past = ap (λ ys. combinands_ask (combined_list_seen ys)) (no_item xs i past)
