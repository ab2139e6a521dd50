-- The names of the last steps are recorded first.
use Rattle.std.proofs.Common.{◌≡◌, ℕ, ◌-◌, [], ◌||◌, Bool, List, Option, Result, drop, length, map, sym, ap, ap₂, ◌∙◌, arith}
use Rattle.std.specs.Prelude.{option_and_then}
use Rattle.doc_tree.specs.Table.{Table, parent_of}
use Rattle.xp_typed_tree.specs.declared.pattern.TypedPatternStep.{TypedPatternStep}
use Rattle.xp_typed_tree.specs.TypedView.{pattern_step_seen}
use Rattle.xp_outcome.specs.Evaluation.{Read, all_reading, done}
use Rattle.xp_outcome.specs.Recorded.{Recorded}
use Rattle.xp_outcome.specs.Running.{Ran, Stop, no_memory}
use Rattle.xp_outcome.proofs.Runs.{no_item, ran_alike, ran_done}
use Rattle.xp_values.specs.declared.values.EvalFault.{EvalFault}
use Rattle.xp_meaning.proofs.Exits.{exit_alloc}
use Rattle.xslt_ways.specs.Ways.{is_anywhere}
use Rattle.xslt_match.specs.Names.{ancestor_over, place_names, places_from, some_anywhere, standing_places, step_names}
use Rattle.xslt_match.proofs.NameReads.{read_err, read_ok, reads-append, steps-end, steps-first, steps-next}
use Rattle.xslt_match.proofs.OnePath.{item_before}
use Rattle.xslt_match.proofs.names.read_step_names.Goals as goal

module _ (T : Table) (n : ℕ) (step : TypedPatternStep) (rest : List TypedPatternStep) where
  -- the names that the step looks at
  abbrev own_names : List Read
  own_names = place_names T (pattern_step_seen step).axis (pattern_step_seen step).test (standing_places T (map pattern_step_seen rest) n)

  -- they are those at the places where the program has it stand
  own_read : {r : Result (Unit {0}) (Stop EvalFault)} {held now : Recorded} {count : ℕ} (higher : Bool) (place : Option ℕ) →
      place ≡ ancestor_over T (map pattern_step_seen rest) n → higher ≡ some_anywhere (map pattern_step_seen rest) →
      Ran (all_reading (place_names T (pattern_step_seen step).axis (pattern_step_seen step).test (places_from T higher place)) (done tt)) r held now count count →
      Ran (all_reading own_names (done tt)) r held now count count
  own_read higher place at above ran =
      ran_alike (ap (λ ns. all_reading (place_names T (pattern_step_seen step).axis (pattern_step_seen step).test ns) (done tt)) (sym (ap₂ (places_from T) above at))) ran

pub loop-left-init : goal.loop-left-init
loop-left-init c =
    let T = c.args.tree.now.nodes in
    let steps = c.args.path_steps.now in
    let none : drop (length steps) steps ≡ [] = no_item steps (length steps) (omega arith) in
    record {
      within = omega arith;
      node = c.at-at.ensures.node ∙ sym (ap (λ ss. ancestor_over T (map pattern_step_seen ss) c.args.n) none);
      higher = c.at-at.ensures.higher ∙ sym (ap (λ ss. some_anywhere (map pattern_step_seen ss)) none);
      read = λ count. ran_alike (steps-end T c.args.n (drop (length steps) steps) (ap length none)) (ran_done tt _ _);
    }

pub loop-left-preserved : goal.loop-left-preserved
loop-left-preserved c =
    let T = c.args.tree.now.nodes in
    let step = c.index-path_steps-left.result in
    let at = c.loop-left.invariant in
    let earlier = drop (c.loop-left.left - 1) c.args.path_steps.now in
    let rest = drop c.loop-left.left c.args.path_steps.now in
    let next = item_before c.args.path_steps.now c.loop-left.left step at.within c.loop-left-test.true c.index-path_steps-left.is in
    record {
      within = omega (arith, at.within);
      node = c.before-at.ensures.node ∙ ap (option_and_then (parent_of T)) at.node ∙ sym (ap (λ ss. ancestor_over T (map pattern_step_seen ss) c.args.n) next);
      higher = c.before-at.ensures.higher ∙ ap (λ (b : Bool). is_anywhere (pattern_step_seen step).join || b) at.higher ∙ sym (ap (λ ss. some_anywhere (map pattern_step_seen ss)) next);
      read = λ count.
          ran_alike (steps-next T c.args.n earlier step rest next)
          (read_ok (step_names T c.args.n (map pattern_step_seen rest)) tt _ (at.read count)
          (own_read T c.args.n step rest _ _ at.node at.higher (c.in_ok-read_names.ensures count)));
    }

pub returns-in_err-read_names : goal.returns-in_err-read_names
returns-in_err-read_names c = λ count.
    let T = c.args.tree.now.nodes in
    let step = c.index-path_steps-left.result in
    let at = c.loop-left.invariant in
    let earlier = drop (c.loop-left.left - 1) c.args.path_steps.now in
    let rest = drop c.loop-left.left c.args.path_steps.now in
    let next = item_before c.args.path_steps.now c.loop-left.left step at.within c.loop-left-test.true c.index-path_steps-left.is in
    let first = steps-first T c.args.n c.args.path_steps.now (c.loop-left.left - 1) in
    exit_alloc _ c.from_residual.result c.from_residual.ensures.1
    (ran_alike
    (ap (λ rs. all_reading rs (done tt)) first.1
    ∙ reads-append (step_names T c.args.n (map pattern_step_seen earlier)) first.0 (done tt)
    ∙ ap (λ ss. all_reading (step_names T c.args.n (map pattern_step_seen ss)) (all_reading first.0 (done tt))) next
    ∙ reads-append (step_names T c.args.n (map pattern_step_seen rest)) (own_names T c.args.n step rest) (all_reading first.0 (done tt)))
    (read_ok (step_names T c.args.n (map pattern_step_seen rest)) tt _ (at.read count)
    (read_err (own_names T c.args.n step rest) tt _ no_memory (own_read T c.args.n step rest _ _ at.node at.higher (c.in_err-read_names.ensures count)))))

pub returns : goal.returns
returns c = λ count.
    let none : 0 ≡ c.loop-left.left = omega (arith, c.loop-left-test.false) in
    ran_alike
    (ap (λ (i : ℕ). all_reading (step_names c.args.tree.now.nodes c.args.n (map pattern_step_seen (drop i c.args.path_steps.now))) (done tt)) none)
    (c.loop-left.invariant.read count)
