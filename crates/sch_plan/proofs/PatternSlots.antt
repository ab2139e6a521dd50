-- The slots that patterns name are those of lets that they see.
use Rattle.std.proofs.Common.{◌≡◌, ℕ, ◌+◌, List, [], ◌∷◌, ◌++◌, length, Ok, sym, ap, ◌∙◌, subst}
use Rattle.std.specs.List.{All}
use Rattle.sch_compiled.specs.declared.parts.PlanLet.{PlanLet}
use Rattle.sch_compiled.specs.declared.parts.PlanRule.{PlanRule}
use Rattle.sch_compiled.specs.Soundness.{slots_from}
use Rattle.sch_model.specs.declared.flat.FlatPattern.{FlatPattern}
use Rattle.xp_typed_tree.specs.declared.value_type.ValueType.{ValueType}
use Rattle.xp_types.specs.Laws.{PatternSlotsAreInScope, SlotsAreInScope}
use Rattle.sch_plan.specs.declared.walker.PatternParts.{PatternParts}
use Rattle.sch_plan.specs.Compiled.{lets_of_patterns}
use Rattle.sch_plan.specs.Lets.{Seen, all_lets}
use Rattle.sch_plan.specs.Rules.{Notes, all_patterns, one_pattern, one_rule}
use Rattle.sch_phases.specs.Walk.{Then, each, every, goes}
use Rattle.sch_plan.proofs.Inversions.{every-all, same-value, then-ok}
use Rattle.sch_plan.proofs.LetLemmas.{AfterLets, LetsSeen, after-lets}
use Rattle.sch_plan.proofs.RuleSlots.{RuleSeen, rule-seen}
use Rattle.sch_plan.proofs.SlotLemmas.{places}

pub record PatternSeen (base : List (ℕ × ValueType)) (count next : ℕ) (parts : PatternParts) : Type 0 where
  pub lets : LetsSeen base next parts.lets
  pub rules : All (RuleSeen (base ++ slots_from next parts.lets) count) parts.rules

-- patterns in order, each with its lets' slots after those of the patterns before it
abbrev pub PatternsSeen : List (ℕ × ValueType) → ℕ → ℕ → List PatternParts → Type 0
PatternsSeen base count next [] = Unit {0}
PatternsSeen base count next (p ∷ ps) = PatternSeen base count next p × PatternsSeen base count (next + length p.lets) ps

abbrev pub lets_of_parts : List PatternParts → ℕ
lets_of_parts [] = 0
lets_of_parts (p ∷ ps) = length p.lets + lets_of_parts ps

pub record OnePattern (seen : Seen) (count : ℕ) (pattern : FlatPattern) (now : Seen) (parts : PatternParts) : Type 0 where
  pub is : now ≡ record seen { next = seen.next + length parts.lets }
  pub many : length parts.lets ≡ length pattern.lets
  pub are_seen : PatternSeen (places seen.variables) count seen.next parts

module _ (law : SlotsAreInScope) (patterns : PatternSlotsAreInScope) (notes : Notes) (count : ℕ) where
  one-pattern : (seen : Seen) (pattern : FlatPattern) (now : Seen) (out : PatternParts) → one_pattern notes count seen pattern (Ok (now, out)) → OnePattern seen count pattern now out
  one-pattern seen pattern now out h =
      let made = λ (lets : List PlanLet) (rules : List PlanRule). let made : PatternParts = record { id = pattern.id; lets = lets; rules = rules } in made in
      let lets = then-ok (all_lets seen pattern.lets) (λ lets. Then (every (one_rule notes count lets.0) pattern.rules) (λ rules. goes (record seen { next = lets.0.next }, made lets.1 rules))) (now, out) h in
      let rules = then-ok (every (one_rule notes count lets.0.0) pattern.rules) (λ rules. goes (record seen { next = lets.0.0.next }, made lets.0.1 rules)) (now, out) lets.2 in
      let after : AfterLets seen pattern.lets lets.0.0 lets.0.1 = after-lets law seen pattern.lets lets.0.0 lets.0.1 lets.1 in
      let same = same-value (now, out) (record seen { next = lets.0.0.next }, made lets.0.1 rules.0) rules.2 in
      subst (λ p. OnePattern seen count pattern p.0 p.1) (sym same) (record {
        is = ap (λ n. record seen { next = n }) after.next;
        many = after.many;
        are_seen = record {
          lets = after.lets;
          rules = subst (λ b. All (RuleSeen b count) rules.0) after.slots
              (every-all (one_rule notes count lets.0.0) (RuleSeen (places lets.0.0.variables) count) (rule-seen law patterns notes count lets.0.0) pattern.rules rules.0 rules.1);
        };
      })

  pub all-patterns : (seen : Seen) (list : List FlatPattern) (now : Seen) (out : List PatternParts) → all_patterns notes count seen list (Ok (now, out)) →
      PatternsSeen (places seen.variables) count seen.next out
  all-patterns seen [] now out h = subst (PatternsSeen (places seen.variables) count seen.next) (sym (ap (λ p. p.1) (same-value (now, out) (seen, []) h))) tt
  all-patterns seen (p ∷ ps) now out h =
      let act = one_pattern notes count in
      let one = then-ok (act seen p) (λ one. Then (each act one.0 ps) (λ more. goes (more.0, one.1 ∷ more.1))) (now, out) h in
      let more = then-ok (each act one.0.0 ps) (λ more. goes (more.0, one.0.1 ∷ more.1)) (now, out) one.2 in
      let o : OnePattern seen count p one.0.0 one.0.1 = one-pattern seen p one.0.0 one.0.1 one.1 in
      let rest = all-patterns one.0.0 ps more.0.0 more.0.1 more.1 in
      subst (PatternsSeen (places seen.variables) count seen.next) (sym (ap (λ p. p.1) (same-value (now, out) (more.0.0, one.0.1 ∷ more.0.1) more.2)))
      (o.are_seen, subst (λ s. PatternsSeen (places s.variables) count s.next more.0.1) o.is rest)

  -- as many lets as the schema's patterns have
  pub lets-counted : (seen : Seen) (list : List FlatPattern) (now : Seen) (out : List PatternParts) → all_patterns notes count seen list (Ok (now, out)) →
      lets_of_parts out ≡ lets_of_patterns list
  lets-counted seen [] now out h = ap lets_of_parts (ap (λ p. p.1) (same-value (now, out) (seen, []) h))
  lets-counted seen (p ∷ ps) now out h =
      let act = one_pattern notes count in
      let one = then-ok (act seen p) (λ one. Then (each act one.0 ps) (λ more. goes (more.0, one.1 ∷ more.1))) (now, out) h in
      let more = then-ok (each act one.0.0 ps) (λ more. goes (more.0, one.0.1 ∷ more.1)) (now, out) one.2 in
      let o : OnePattern seen count p one.0.0 one.0.1 = one-pattern seen p one.0.0 one.0.1 one.1 in
      ap (λ p. lets_of_parts p.1) (same-value (now, out) (more.0.0, one.0.1 ∷ more.0.1) more.2)
      ∙ (λ i. o.many i + lets-counted one.0.0 ps more.0.0 more.0.1 more.1 i)
