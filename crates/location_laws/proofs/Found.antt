-- What the location of a node selects.
use Rattle.std.proofs.Common.{◌≡◌, ℕ, ◌==◌, Bool, true, false, List, [], ◌∷◌, codes, if◌then◌else◌, Result, Ok, Err, refl, sym, ap, subst, ◌∙◌, eqb-true, eq-eqb}
use Rattle.sch_base.specs.declared.limits.TheConstants.{MAX_NESTING}
use Rattle.doc_tree.specs.Table.{Table}
use Rattle.doc_tree.specs.Walks.{above}
use Rattle.doc_locations.specs.Locations.{location_of, steps_of}
use Rattle.xp_tree.specs.Tree.{Tree}
use Rattle.xp_lexicon.specs.Laws.{WholeTextsEnd}
use Rattle.xp_syntax.specs.Laws.{OneSpelling}
use Rattle.xp_typed_tree.specs.TypedTree.{TypedTree, TypedSteps, location, at_root, no_more_steps}
use Rattle.xp_types.specs.HasType.{HasType}
use Rattle.xp_types.specs.Laws.{TypesAreUnique}
use Rattle.xp_outcome.specs.Evaluation.{done, bind}
use Rattle.xp_values.specs.declared.values.Value.TheVariants.{NodeSet}
use Rattle.xp_values.specs.declared.values.EvalFault.{EvalFault}
use Rattle.xp_meaning.specs.declared.context.Context.{Context}
use Rattle.xp_meaning.specs.Paths.{path}
use Rattle.xp_meaning.specs.Evaluation.{Lets, meaning, start_nodes, steps_meant}
use Rattle.xp_meaning.proofs.Answers.{answer_then, answer_visit}
use Rattle.location_texts.specs.LocationSteps.{LocationStep, AllSpellable, steps_text}
use Rattle.location_texts.specs.StepTypes.{typed_steps}
use Rattle.location_texts.specs.Laws.{TextsHaveTheirTokens, TokensDeriveTypedPaths}
use Rattle.location_ways.specs.WayDown.{WayDown, EachHasAWayDown}
use Rattle.location_laws.specs.Finds.{Finds, LocationsFindTheirNodes, LocationsFindNothingElse}
use Rattle.location_laws.proofs.Quotes.{attributes_spellable}
use Rattle.location_laws.proofs.Spelled.{SpellsTyped, root_spelled, steps_spelled}

-- where steps lead to nodes from the root, the path of these steps selects them
path_selects : (T : Table) (L : Lets) (c : Context) (steps : TypedSteps) (ns : List ℕ) → (path T (steps_meant T L steps) c.current (0 ∷ [])).answer ≡ Ok ns →
    (meaning T L (location at_root steps) c).answer ≡ Ok (NodeSet ns)
unfolding done
path_selects T L c steps ns is =
    answer_visit (bind (start_nodes T L at_root c) (λ ms. bind (path T (steps_meant T L steps) c.current ms) (λ ks. done (NodeSet ks))))
    ∙ answer_then (start_nodes T L at_root c) (λ ms. bind (path T (steps_meant T L steps) c.current ms) (λ ks. done (NodeSet ks))) (0 ∷ []) refl
    ∙ answer_then (path T (steps_meant T L steps) c.current (0 ∷ [])) (λ ks. done (NodeSet ks)) ns is

root_path : (T : Table) (L : Lets) (current : ℕ) → (path T (steps_meant T L no_more_steps) current (0 ∷ [])).answer ≡ Ok (0 ∷ [])
unfolding done
root_path T L current = refl

-- a text finds where a path of its type leads
text_finds : (T : Table) (text : List ℕ) (steps : TypedSteps) (n : ℕ) → SpellsTyped text (location at_root steps) →
    ((L : Lets) (current : ℕ) → (path T (steps_meant T L steps) current (0 ∷ [])).answer ≡ Ok (n ∷ [])) → Finds T text n
text_finds T text steps n s leads = record {
  expression = s.expression;
  spelled = s.spelled;
  typed = location at_root steps;
  has_type = s.has_type;
  finds = λ L c. path_selects T L c steps (n ∷ []) (leads L c.current);
}

-- the first of the nodes in an answer
abbrev first_answered : Result (List ℕ) EvalFault → ℕ
first_answered (Ok []) = 0
first_answered (Ok (n ∷ ns)) = n
first_answered (Err f) = 0

-- ways without a step lead to the root
no_steps_lead : (T : Table) (n : ℕ) → (way : WayDown T n) → way.steps ≡ [] → n ≡ 0
no_steps_lead T n way none =
    let leads : (path T (steps_meant T [] (typed_steps [])) 0 (0 ∷ [])).answer ≡ Ok (n ∷ []) =
    subst (λ (ss : List LocationStep). (path T (steps_meant T [] (typed_steps ss)) 0 (0 ∷ [])).answer ≡ Ok (n ∷ [])) none (way.leads [] 0) in
    ap first_answered (sym leads ∙ root_path T [] 0)

module _ (ends : WholeTextsEnd) (texts : TextsHaveTheirTokens) (derive : TokensDeriveTypedPaths) (T : Table) where
  way_finds : (n : ℕ) → (n == 0) ≡ false → (way : WayDown T n) → (ss : List LocationStep) → way.steps ≡ ss → Finds T (steps_of T (above T n)) n
  way_finds n some way [] is = absurd (let none : (n == 0) ≡ true = eq-eqb n 0 (no_steps_lead T n way is) in cc)
  way_finds n some way (s ∷ ss) is =
      subst (λ (text : List ℕ). Finds T text n) (sym (way.spelled ∙ ap steps_text is))
      (text_finds T (steps_text (s ∷ ss)) (typed_steps (s ∷ ss)) n (steps_spelled ends texts derive s ss (subst AllSpellable is way.spellable))
      (λ L current. subst (λ (ss : List LocationStep). (path T (steps_meant T L (typed_steps ss)) current (0 ∷ [])).answer ≡ Ok (n ∷ [])) is (way.leads L current)))

  node_finds : (n : ℕ) → WayDown T n → (b : Bool) → (n == 0) ≡ b → Finds T (if b then codes "/" else steps_of T (above T n)) n
  node_finds n way true is =
      text_finds T (codes "/") no_more_steps n (root_spelled ends)
      (λ L current. root_path T L current ∙ ap (λ (m : ℕ). Ok (m ∷ [])) (sym (eqb-true n 0 is)))
  node_finds n way false is = way_finds n is way way.steps refl

  pub locations_find : EachHasAWayDown T → LocationsFindTheirNodes T
  locations_find ways scoped n live = node_finds n (ways (attributes_spellable T scoped) n live) (n == 0) refl

pub nothing_else : (T : Table) → LocationsFindTheirNodes T → OneSpelling → TypesAreUnique → LocationsFindNothingElse T
nothing_else T find one unique scoped n live limit e spelled S t has_type L c =
    let F = find scoped n live in
    let same : e ≡ F.expression = one limit MAX_NESTING (location_of T n) e F.expression spelled F.spelled in
    let alike : t ≡ F.typed = unique S F.expression t F.typed (subst (λ (x : Tree). HasType S x t) same has_type) (F.has_type S) in
    subst (λ (u : TypedTree). (meaning T L u c).answer ≡ Ok (NodeSet (n ∷ []))) (sym alike) (F.finds L c)
