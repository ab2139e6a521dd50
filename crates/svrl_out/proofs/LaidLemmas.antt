-- Lines that are laid out by the numbers of rules.
use Rattle.std.proofs.Common.{◌≡◌, ◌≢◌, ℕ, ◌==◌, Bool, true, false, List, [], Option, Some, ap, subst, sym, ◌∙◌, refl, ◌+◌, ◌++◌, ◌<◌, length, take, slice_index_or, Result, Ok, Err, OnOk, append_assoc}
use Rattle.std.specs.List.{flat_map}
use Rattle.std.specs.Option.{option_map_or}
use Rattle.std.proofs.lemmas.Bool.{eqb-true, eq-eqb}
use Rattle.sch_io.proofs.Writes.{flat_map-next}
use Rattle.xp_outcome.specs.Slots.{in_slot, with_slot}
use Rattle.xp_outcome.proofs.SlotLemmas.{put_there, others_stay}
use Rattle.doc_tree.specs.Table.{Table}
use Rattle.sch_compiled.specs.declared.parts.PlanRule.{PlanRule}
use Rattle.sch_compiled.specs.declared.findings.Finding.{Finding}
use Rattle.sch_compiled.specs.declared.findings.Outcome.TheVariants.{Fired}
use Rattle.svrl_out.specs.declared.page.Page.{Page}
use Rattle.svrl_out.specs.Report.{fired_rule, outcome_lines, placed_lines, rule_lines}
use Rattle.svrl_out.specs.inner.Laid.{AreLaid, fired_text}
use Rattle.svrl_out.proofs.ReportLemmas.{at_place}

-- nothing is laid out
pub none_laid : (rules : List PlanRule) → AreLaid rules []
none_laid rules r lines there = absurd (cc)

-- the lines of one rule more
pub one_laid : (rules : List PlanRule) (laid : List (Option Page)) (r : ℕ) (lines : Page) → AreLaid rules laid → lines.bytes.items ≡ fired_text rules r → AreLaid rules (with_slot laid r lines)
one_laid rules laid r lines all is other held there = by (other == r) refl
  where
    here : other ≡ r → held.bytes.items ≡ fired_text rules other
    here same =
        let at : in_slot (with_slot laid r lines) other ≡ Some lines = ap (in_slot (with_slot laid r lines)) same ∙ put_there laid r lines in
        ap (λ (o : Option Page). option_map_or (λ (p : Page). p.bytes.items) o []) (sym there ∙ at) ∙ is ∙ ap (fired_text rules) (sym same)

    by : (b : Bool) → (other == r) ≡ b → held.bytes.items ≡ fired_text rules other
    by true e = here (eqb-true other r e)
    by false e =
        let apart : other ≢ r = λ same. let e2 : (other == r) ≡ true = eq-eqb other r same in absurd (cc) in
        all other held (sym (others_stay laid r other lines apart) ∙ there)

-- the same where the lines may have found no place
pub laid_by : {E : Type 0} (result : Result (Unit {0}) E) (rules : List PlanRule) (laid new : List (Option Page)) (r : ℕ) (lines : Page) → OnOk result (new ≡ with_slot laid r lines) → AreLaid rules laid → lines.bytes.items ≡ fired_text rules r → OnOk result (AreLaid rules new)
laid_by (Ok x) rules laid new r lines set all is = subst (AreLaid rules) (sym set) (one_laid rules laid r lines all is)
laid_by (Err e) rules laid new r lines set all is = tt

-- what a rule that fires says: its lines, then those of its findings
pub fired_and_found : (T : Table) (rules : List PlanRule) (r : ℕ) (rule : PlanRule) (findings : List Finding) → rule ≡ slice_index_or rules r rule → r < length rules →
    outcome_lines T rules (Some (Fired r findings)) ≡ fired_text rules r ++ flat_map (placed_lines T rule.assertions) findings
fired_and_found T rules r rule findings is less =
    at_place (rule_lines T findings) rules r rule [] is less
    ∙ ap (λ (l : List ℕ). l ++ flat_map (placed_lines T rule.assertions) findings) (sym (at_place fired_rule rules r rule [] is less))

-- a text was put behind another one
pub put_both : {E : Type 0} (result : Result (Unit {0}) E) (a b c front rest text : List ℕ) → b ≡ a ++ front → text ≡ front ++ rest → OnOk result (c ≡ b ++ rest) → OnOk result (c ≡ a ++ text)
put_both (Ok x) a b c front rest text first is next = next ∙ ap (λ (l : List ℕ). l ++ rest) first ∙ append_assoc a front rest ∙ ap (λ (l : List ℕ). a ++ l) (sym is)
put_both (Err e) a b c front rest text first is next = tt

-- one item more was put behind those so far
pub put_next : {A : Type 0} (f : A → List ℕ) (xs : List A) (i : ℕ) (x : A) → x ≡ slice_index_or xs i x → i < length xs → (first page after text : List ℕ) →
    page ≡ first ++ flat_map f (take i xs) → text ≡ f x → after ≡ page ++ text → after ≡ first ++ flat_map f (take (i + 1) xs)
put_next f xs i x is less first page after text so says put =
    put
    ∙ ap (λ (l : List ℕ). l ++ text) so
    ∙ append_assoc first (flat_map f (take i xs)) text
    ∙ ap (λ (l : List ℕ). first ++ (flat_map f (take i xs) ++ l)) says
    ∙ ap (λ (l : List ℕ). first ++ l) (sym (flat_map-next f xs i x is less))

-- what holds anyway
pub anyway : {E P : Type 0} (result : Result (Unit {0}) E) → P → OnOk result P
anyway (Ok x) holds = holds
anyway (Err e) holds = tt
