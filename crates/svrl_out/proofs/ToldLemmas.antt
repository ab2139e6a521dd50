-- What is told of all nodes is told of those that fire a rule.
use Rattle.std.proofs.Common.{◌≡◌, ◌∙◌, ℕ, ◌<◌, ◌==◌, Bool, true, false, ◌||◌, List, [], ◌∷◌, ◌++◌, Option, None, Some, filter, if◌then◌else◌, refl, sym, ap}
use Rattle.std.proofs.lemmas.Bool.{false_from_ne_true}
use Rattle.std.specs.List.{flat_map}
use Rattle.doc_tree.specs.Laws.{Ordered}
use Rattle.doc_tree.specs.Lists.{mem}
use Rattle.doc_tree.specs.Table.{Table, is_live}
use Rattle.doc_tree.specs.Walks.{order}
use Rattle.sch_compiled.specs.declared.findings.Outcome.{Outcome}
use Rattle.sch_compiled.specs.declared.findings.Outcome.TheVariants.{NoRule, Fired, Fault}
use Rattle.sch_compiled.specs.declared.parts.PlanRule.{PlanRule}
use Rattle.sch_compiled.specs.Findings.{OutcomeTable, ToldInOrder, is_told, outcome_at}
use Rattle.svrl_out.specs.Report.{node_lines, outcome_lines}

-- what has no line may be left out
lines-filter : (f : ℕ → List ℕ) (among : ℕ → Bool) (ns : List ℕ) → ((n : ℕ) → among n ≡ false → f n ≡ []) → flat_map f (filter among ns) ≡ flat_map f ns
lines-filter f among [] none = refl
lines-filter f among (n ∷ ns) none = by (among n) refl (lines-filter f among ns none)
  where
    by : (b : Bool) → among n ≡ b → flat_map f (filter among ns) ≡ flat_map f ns → flat_map f (if b then n ∷ filter among ns else filter among ns) ≡ f n ++ flat_map f ns
    by true is rest = ap (λ (l : List ℕ). f n ++ l) rest
    by false is rest = rest ∙ sym (ap (λ (l : List ℕ). l ++ flat_map f ns) (none n is))

-- an outcome that tells nothing has no line
untold : (T : Table) (rules : List PlanRule) (o : Option Outcome) → is_told o ≡ false → outcome_lines T rules o ≡ []
untold T rules None not_so = refl
untold T rules (Some NoRule) not_so = refl
untold T rules (Some (Fired rule findings)) not_so = absurd (cc)
untold T rules (Some (Fault kind)) not_so = refl

-- the lines of all nodes
pub told-lines : (T : Table) (found : OutcomeTable) (nodes : List ℕ) (rules : List PlanRule) (p : ℕ) → ToldInOrder T found nodes → p < found.patterns →
    flat_map (node_lines T rules (outcome_at found p)) nodes ≡ flat_map (node_lines T rules (outcome_at found p)) (order T)
told-lines T found nodes rules p told low =
    ap (flat_map (node_lines T rules (outcome_at found p))) told.in_order
    ∙ lines-filter (node_lines T rules (outcome_at found p)) told.among (order T) (λ n out.
    untold T rules (outcome_at found p n) (false_from_ne_true (is_told (outcome_at found p n)) (λ (is : is_told (outcome_at found p n) ≡ true).
    let there : told.among n ≡ true = told.all p n low is in absurd (cc))))

pub mem-filter : (n : ℕ) (among : ℕ → Bool) (ns : List ℕ) → mem n (filter among ns) ≡ true → mem n ns ≡ true
mem-filter n among [] there = there
mem-filter n among (m ∷ ns) there = by (among m) (n == m) refl (mem-filter n among ns) there
  where
    by : (b c : Bool) → (n == m) ≡ c → (mem n (filter among ns) ≡ true → mem n ns ≡ true) → mem n (if b then m ∷ filter among ns else filter among ns) ≡ true → (c || mem n ns) ≡ true
    by b true e rest is = refl
    by true false e rest is = rest (sym (ap (λ (c : Bool). c || mem n (filter among ns)) e) ∙ is)
    by false false e rest is = rest is

-- the nodes live
pub told-live : (T : Table) (found : OutcomeTable) (nodes : List ℕ) → Ordered T → ToldInOrder T found nodes → (n : ℕ) → mem n nodes ≡ true → is_live T n ≡ true
told-live T found nodes ordered told n there = ordered.live_in_order n ∙ mem-filter n told.among (order T) (sym (ap (mem n) told.in_order) ∙ there)
