-- Matching under two tables of lets that agree on the slots named.
use Rattle.std.proofs.Common.{◌≡◌, ℕ, ◌||◌, List, [], ◌∷◌, ◌++◌, refl, ap}
use Rattle.std.specs.Prelude.{filter, if◌then◌else◌}
use Rattle.std.specs.List.{list_any}
use Rattle.doc_tree.specs.Table.{Table, parent_of}
use Rattle.xp_typed_tree.specs.declared.value_type.ValueType.{ValueType}
use Rattle.xp_typed_tree.specs.TypedTree.{TypedPatternStepTree, TypedPathTree}
use Rattle.xp_typed_tree.specs.Slots.{slots_in_all, slots_in_pattern_steps, slots_in_paths}
use Rattle.xp_outcome.specs.Evaluation.{done, bind, visit, all_reading, gather}
use Rattle.xp_outcome.specs.Slots.{in_slot}
use Rattle.xp_meaning.specs.Paths.{placed}
use Rattle.xp_meaning.specs.Evaluation.{Lets, all_true}
use Rattle.xp_meaning_laws.specs.Agreeing.{SlotsAgree}
use Rattle.xp_meaning_laws.proofs.EachLemmas.{each-front, each-back}
use Rattle.xp_meaning_laws.proofs.Agreeing.{sames}
use Rattle.xslt_match.specs.Matching.{is_left, survives, standing, leads, starts, chains, some_path}
use Rattle.xslt_match.specs.Names.{pattern_names}
use Rattle.xslt_match.specs.Positional.{some_positional}
use Rattle.xslt_match_laws.specs.Agreeing.{MatchingNeedsSlotsAlone}

module _ (T : Table) (L M : Lets) (n : ℕ) where
  front : (xs ys : List (ℕ × ValueType)) → SlotsAgree L M (xs ++ ys) → SlotsAgree L M xs
  front xs ys h = each-front (λ s. in_slot L s.0 ≡ in_slot M s.0) xs ys h

  back : (xs ys : List (ℕ × ValueType)) → SlotsAgree L M (xs ++ ys) → SlotsAgree L M ys
  back xs ys h = each-back (λ s. in_slot L s.0 ≡ in_slot M s.0) xs ys h

  survives_same : (s : TypedPatternStepTree) → SlotsAgree L M (slots_in_all s.predicates) → survives T L s n ≡ survives T M s n
  survives_same s h =
      ap (λ ms k. if some_positional s.predicates then is_left T (record { axis = s.axis; test = s.test; predicates = ms }) n k (parent_of T k) else visit (all_true ms (placed n 1 1 k)))
      (sames T L M s.predicates h)

  chains_same : (ss : List TypedPatternStepTree) (ms alive : List ℕ) → SlotsAgree L M (slots_in_pattern_steps ss) → chains T L n ss ms alive ≡ chains T M n ss ms alive
  chains_same [] ms alive h = refl
  chains_same (s ∷ ss) ms alive h =
      let test = survives_same s (front (slots_in_all s.predicates) (slots_in_pattern_steps ss) h) in
      let later : (next : List ℕ) → chains T L n ss (standing T s ss ms n) next ≡ chains T M n ss (standing T s ss ms n) next =
      λ next. chains_same ss (standing T s ss ms n) next (back (slots_in_all s.predicates) (slots_in_pattern_steps ss) h) in
      λ i. bind (gather (λ _ k. test i k) (λ _ k b. if b then k ∷ [] else []) 1 (standing T s ss ms n))
      (λ ks. later (filter (λ k. list_any (λ m. leads T s m k) alive) ks) i)

  paths_same : (ps : List TypedPathTree) → SlotsAgree L M (slots_in_paths ps) → some_path T L n ps ≡ some_path T M n ps
  paths_same [] h = refl
  paths_same (p ∷ ps) h =
      let one = chains_same p.steps (starts T p.from_root n) (starts T p.from_root n) (front (slots_in_pattern_steps p.steps) (slots_in_paths ps) h) in
      let more = paths_same ps (back (slots_in_pattern_steps p.steps) (slots_in_paths ps) h) in
      λ i. bind (one i) (λ b. bind (more i) (λ c. done (b || c)))

pub matching_needs_slots_alone : MatchingNeedsSlotsAlone
matching_needs_slots_alone T L M ps n h = ap (λ m. visit (all_reading (pattern_names T n ps) m)) (paths_same T L M n ps h)
