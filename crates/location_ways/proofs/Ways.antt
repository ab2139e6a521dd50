-- Ways down grow by a step at their end.
use Rattle.std.proofs.Common.{◌≡◌, ◌≢◌, ℕ, zero, suc, ◌≤◌, true, List, [], ◌∷◌, ◌++◌, length, append-nil, append_assoc, None, Some, ⊎_elim, refl, sym, ap, ap₂, subst, ◌∙◌, arith}
use Rattle.std.proofs.lemmas.Bool.{cases_eq}
use Rattle.std.proofs.lemmas.Grind.{flat_map-append}
use Rattle.doc_tree.specs.Laws.{WellFormed, Ordered, HasWaysUp}
use Rattle.doc_tree.specs.Table.{Table, is_live, kind_of, parent_of}
use Rattle.doc_tree.specs.Walks.{above, ancestors}
use Rattle.doc_tree.specs.kind.Kind.{Kind}
use Rattle.doc_tree.specs.kind.Kind.TheVariants as kinds
use Rattle.doc_axes.specs.AxesByCells.{AxesByCells}
use Rattle.doc_locations.specs.Locations.{step_by, step_of, steps_of}
use Rattle.doc_locations.proofs.ApartLemmas.{kinded, named}
use Rattle.xp_outcome.specs.Evaluation.{done}
use Rattle.xp_meaning.specs.Paths.{path, step_from}
use Rattle.xp_meaning.specs.Evaluation.{Lets, steps_meant}
use Rattle.xp_meaning.proofs.Answers.{answer_then}
use Rattle.location_texts.specs.LocationSteps.{elements, texts, comments, instructions, LocationStep, step_text, steps_text, IsSpellable, AllSpellable}
use Rattle.location_texts.specs.StepTypes.{typed_steps}
use Rattle.location_ways.specs.WayDown.{WayDown, HasSpellableAttributes, EachHasAWayDown}
use Rattle.location_ways.proofs.LastSteps.{step_meant, first_meant, LastStep, to_kid_last, to_attribute_last}

-- a way down, which may go on
record Way (T : Table) (n : ℕ) : Type 0 where
  steps : List LocationStep
  spellable : AllSpellable steps
  spelled : steps_of T (above T n) ≡ steps_text steps
  goes_on : (L : Lets) (current : ℕ) (more : List LocationStep) →
      (path T (steps_meant T L (typed_steps (steps ++ more))) current (0 ∷ [])).answer ≡ (path T (steps_meant T L (typed_steps more)) current (n ∷ [])).answer

-- one step more can be spelled too
spellable_more : (ss : List LocationStep) (s : LocationStep) → AllSpellable ss → IsSpellable s → AllSpellable (ss ++ s ∷ [])
spellable_more [] s all is = (is, tt)
spellable_more (x ∷ ss) s all is = (all.0, spellable_more ss s all.1 is)

text_more : (ss : List LocationStep) (s : LocationStep) → steps_text ss ++ step_text s ≡ steps_text (ss ++ s ∷ [])
text_more ss s = sym (flat_map-append step_text ss (s ∷ []) ∙ ap (λ (l : List ℕ). steps_text ss ++ l) (append-nil (step_text s)))

module _ (T : Table) (formed : WellFormed T) (ordered : Ordered T) (ways : HasWaysUp T) (cells : AxesByCells T) (spellable : HasSpellableAttributes T) where
  root_way : Way T 0
  root_way = record {
    steps = [];
    spellable = tt;
    spelled = ap (λ (l : List ℕ). steps_of T l ++ step_of T 0) (ways.no_ancestors 0 formed.root_parent) ∙ ap (step_by T 0) formed.root_kind;
    goes_on = λ L current more. refl;
  }

  grown : (p n : ℕ) → parent_of T n ≡ Some p → Way T p → LastStep T p n → Way T n
  grown p n up way s = record {
    steps = way.steps ++ s.last ∷ [];
    spellable = spellable_more way.steps s.last way.spellable s.spellable;
    spelled = ap (λ (l : List ℕ). steps_of T l ++ step_of T n) (ways.ancestors_at n p up)
        ∙ (ap₂ (λ (x y : List ℕ). x ++ y) way.spelled s.spelled ∙ text_more way.steps s.last);
    goes_on = λ L current more.
        ap (λ (ss : List LocationStep). (path T (steps_meant T L (typed_steps ss)) current (0 ∷ [])).answer) (append_assoc way.steps (s.last ∷ []) more)
        ∙ (way.goes_on L current (s.last ∷ more)
        ∙ (ap (λ ss. (path T ss current (p ∷ [])).answer) (first_meant T L s.last (typed_steps more))
        ∙ answer_then (step_from T (step_meant T L s.last) current (p ∷ [])) (λ ms. path T (steps_meant T L (typed_steps more)) current ms) (n ∷ []) (s.leads L current)));
  }

  last_step : (p n : ℕ) → is_live T n ≡ true → parent_of T n ≡ Some p → (kind : Kind) → kind_of T n ≡ Some kind → LastStep T p n
  last_step p n live up kinds.Root is =
      let none : parent_of T n ≡ None = ap (parent_of T) (formed.one_root n is) ∙ formed.root_parent in absurd (cc)
  last_step p n live up kinds.Element is = to_kid_last T formed ordered cells elements p n (ways.parent_live n p up) live up is
  last_step p n live up kinds.Attribute is =
      let name = named T n is in
      to_attribute_last T formed ordered cells p n name.0 spellable (ways.parent_live n p up) live up is name.1
  last_step p n live up kinds.Text is = to_kid_last T formed ordered cells texts p n (ways.parent_live n p up) live up is
  last_step p n live up kinds.Comment is = to_kid_last T formed ordered cells comments p n (ways.parent_live n p up) live up is
  last_step p n live up kinds.Pi is = to_kid_last T formed ordered cells instructions p n (ways.parent_live n p up) live up is

  longer : (n : ℕ) → is_live T n ≡ true → n ≢ 0 → ((p : ℕ) → parent_of T n ≡ Some p → Way T p) → Way T n
  longer n live some way_up =
      let up = ways.has_parent n live some in
      let kind = kinded T n up.0 up.1 in
      grown up.0 n up.1 (way_up up.0 up.1) (last_step up.0 n live up.1 kind.0 kind.1)

  -- a node's parent is nearer to the root
  nearer : (n p fuel : ℕ) → parent_of T n ≡ Some p → length (ancestors T n) ≤ suc fuel → length (ancestors T p) ≤ fuel
  nearer n p fuel up few = omega (arith, few, ap length (ways.ancestors_at n p up))

  way_within : (fuel n : ℕ) → is_live T n ≡ true → length (ancestors T n) ≤ fuel → Way T n
  way_within zero n live few = ⊎_elim (λ (e : n ≡ 0). subst (Way T) (sym e) root_way)
      (λ (some : n ≢ 0). let up = ways.has_parent n live some in absurd (omega (arith, few, ap length (ways.ancestors_at n up.0 up.1))))
      (cases_eq n 0)
  way_within (suc fuel) n live few = ⊎_elim (λ (e : n ≡ 0). subst (Way T) (sym e) root_way)
      (λ (some : n ≢ 0). longer n live some (λ p (up : parent_of T n ≡ Some p). way_within fuel p (ways.parent_live n p up) (nearer n p fuel up few)))
      (cases_eq n 0)

  -- at its end the way leads to the node
  way_ends : (n : ℕ) → Way T n → WayDown T n
  unfolding done
  way_ends n way = record {
    steps = way.steps;
    spellable = way.spellable;
    spelled = way.spelled;
    leads = λ L current.
        ap (λ (ss : List LocationStep). (path T (steps_meant T L (typed_steps ss)) current (0 ∷ [])).answer) (sym (append-nil way.steps)) ∙ way.goes_on L current [];
  }

pub each_has_a_way : (T : Table) → WellFormed T → Ordered T → HasWaysUp T → AxesByCells T → EachHasAWayDown T
each_has_a_way T formed ordered ways cells spellable n live =
    way_ends T formed ordered ways cells spellable n (way_within T formed ordered ways cells spellable (length (ancestors T n)) n live (omega arith))
