-- Meanings under two tables of lets are the same functions of the context, where the tables agree on the slots named.
use Rattle.std.proofs.Common.{◌≡◌, ℕ, List, ◌∷◌, ◌++◌, refl, ap}
use Rattle.std.specs.Prelude.{flat_map}
use Rattle.doc_tree.specs.Table.{Table}
use Rattle.doc_axes.specs.Sets.{in_order}
use Rattle.xp_typed_tree.specs.declared.value_type.ValueType.{ValueType}
use Rattle.xp_typed_tree.specs.TypedTree.{TypedTree, TypedPlace, TypedSteps, Comparands, Combinands, TypedTrees, disjunction, conjunction, comparison, arithmetic, negation, union, location, selection, slot, text, whole, application, at_root, at_context, at_nodes, no_more_steps, typed_step, no_comparands, comparand, no_combinands, combinand, no_typed, typed}
use Rattle.xp_typed_tree.specs.Slots.{slots_in, slots_in_all, slots_in_place, slots_in_steps, slots_in_comparands, slots_in_combinands}
use Rattle.xp_outcome.specs.Evaluation.{done, given, bind, visit, reading, variable}
use Rattle.xp_outcome.specs.Slots.{in_slot}
use Rattle.xp_values.specs.declared.values.Value.TheVariants.{NodeSet, Truth, Number}
use Rattle.xp_meaning.specs.declared.want.Want.TheVariants.{AsItIs}
use Rattle.xp_meaning.specs.Conversions.{nodes_of, number_in}
use Rattle.xp_meaning.specs.Operators.{negated}
use Rattle.xp_meaning.specs.Paths.{filtered, path}
use Rattle.xp_meaning.specs.Functions.{applied, wanted}
use Rattle.xp_meaning.specs.Evaluation.{Lets, meaning, meanings, some_true, all_true, compared, combined, values, slot_value, start_nodes, steps_meant, comparands_meant, combinands_meant}
use Rattle.xp_meaning_laws.specs.Agreeing.{SlotsAgree, MeaningNeedsSlotsAlone}
use Rattle.xp_meaning_laws.proofs.EachLemmas.{each-front, each-back}

module _ (T : Table) (L M : Lets) where
  front : (xs ys : List (ℕ × ValueType)) → SlotsAgree L M (xs ++ ys) → SlotsAgree L M xs
  front xs ys h = each-front (λ s. in_slot L s.0 ≡ in_slot M s.0) xs ys h

  back : (xs ys : List (ℕ × ValueType)) → SlotsAgree L M (xs ++ ys) → SlotsAgree L M ys
  back xs ys h = each-back (λ s. in_slot L s.0 ≡ in_slot M s.0) xs ys h

  mutual
    pub same : (t : TypedTree) → SlotsAgree L M (slots_in t) → meaning T L t ≡ meaning T M t
    same (disjunction ts) h = ap (λ ms c. visit (bind (some_true ms c) (λ truth. done (Truth truth)))) (sames ts h)
    same (conjunction ts) h = ap (λ ms c. visit (bind (all_true ms c) (λ truth. done (Truth truth)))) (sames ts h)
    same (comparison first rest) h =
        let m = same first (front (slots_in first) (slots_in_comparands rest) h) in
        let ms = same_comparands rest (back (slots_in first) (slots_in_comparands rest) h) in
        λ i c. visit (bind (m i c) (λ v. compared T (ms i) v c))
    same (arithmetic first rest) h =
        let m = same first (front (slots_in first) (slots_in_combinands rest) h) in
        let ms = same_combinands rest (back (slots_in first) (slots_in_combinands rest) h) in
        λ i c. visit (bind (m i c) (λ v. bind (number_in T v) (λ x. bind (combined T (ms i) x c) (λ y. done (Number y)))))
    same (negation signs operand) h =
        ap (λ m c. visit (bind (m c) (λ v. bind (number_in T v) (λ x. bind (given (negated signs x)) (λ y. done (Number y)))))) (same operand h)
    same (union ts) h =
        ap (λ ms c. visit (bind (values T (λ _. AsItIs) ms c) (λ vs. done (NodeSet (in_order T (flat_map nodes_of vs)))))) (sames ts h)
    same (location place steps) h =
        let m = same_start place (front (slots_in_place place) (slots_in_steps steps) h) in
        let ss = same_steps steps (back (slots_in_place place) (slots_in_steps steps) h) in
        λ i c. visit (bind (m i c) (λ ns. bind (path T (ss i) c.current ns) (λ ms. done (NodeSet ms))))
    same (selection base predicates) h =
        let m = same base (front (slots_in base) (slots_in_all predicates) h) in
        let ps = sames predicates (back (slots_in base) (slots_in_all predicates) h) in
        λ i c. visit (bind (m i c) (λ v. bind (filtered (ps i) c.current (nodes_of v)) (λ ms. done (NodeSet ms))))
    same (slot place type) h = ap (λ o c. visit (reading (variable place) (slot_value o))) h.0
    same (text characters) h = refl
    same (whole number) h = refl
    same (application f ts) h = ap (λ ms c. visit (bind (values T (wanted f) ms c) (λ vs. applied T f c vs))) (sames ts h)

    same_start : (place : TypedPlace) → SlotsAgree L M (slots_in_place place) → start_nodes T L place ≡ start_nodes T M place
    same_start at_root h = refl
    same_start at_context h = refl
    same_start (at_nodes base) h = ap (λ m c. bind (m c) (λ v. done (nodes_of v))) (same base h)

    same_steps : (steps : TypedSteps) → SlotsAgree L M (slots_in_steps steps) → steps_meant T L steps ≡ steps_meant T M steps
    same_steps no_more_steps h = refl
    same_steps (typed_step axis node_test predicates steps) h =
        let ps = sames predicates (front (slots_in_all predicates) (slots_in_steps steps) h) in
        let ss = same_steps steps (back (slots_in_all predicates) (slots_in_steps steps) h) in
        λ i. record { axis = axis; test = node_test; predicates = ps i } ∷ ss i

    same_comparands : (rest : Comparands) → SlotsAgree L M (slots_in_comparands rest) → comparands_meant T L rest ≡ comparands_meant T M rest
    same_comparands no_comparands h = refl
    same_comparands (comparand operator operand rest) h =
        let m = same operand (front (slots_in operand) (slots_in_comparands rest) h) in
        let ms = same_comparands rest (back (slots_in operand) (slots_in_comparands rest) h) in
        λ i. record { operator = operator; meaning = m i } ∷ ms i

    same_combinands : (rest : Combinands) → SlotsAgree L M (slots_in_combinands rest) → combinands_meant T L rest ≡ combinands_meant T M rest
    same_combinands no_combinands h = refl
    same_combinands (combinand operator operand rest) h =
        let m = same operand (front (slots_in operand) (slots_in_combinands rest) h) in
        let ms = same_combinands rest (back (slots_in operand) (slots_in_combinands rest) h) in
        λ i. record { operator = operator; meaning = m i } ∷ ms i

    pub sames : (ts : TypedTrees) → SlotsAgree L M (slots_in_all ts) → meanings T L ts ≡ meanings T M ts
    sames no_typed h = refl
    sames (typed t ts) h =
        let m = same t (front (slots_in t) (slots_in_all ts) h) in
        let ms = sames ts (back (slots_in t) (slots_in_all ts) h) in
        λ i. m i ∷ ms i

pub meaning_needs_slots_alone : MeaningNeedsSlotsAlone
meaning_needs_slots_alone T L M t c h = ap (λ m. m c) (same T L M t h)
