-- The nodes under patterns are refreshed one after another.
use Rattle.std.proofs.Common.{◌≡◌, ◌≢◌, ◌∙◌, inl, inr, ◌⊎◌, ⊎_elim, ℕ, zero, suc, ◌+◌, ◌-◌, ◌<◌, ◌≤◌, Bool, true, false, is_none, is_some, List, [], ◌∷◌, ◌++◌, length, map, Option, None, Some, refl, sym, ap, subst, arith, add-zero}
use Rattle.std.proofs.lemmas.Bool.{cases_eq, cases_lt, false≢true}
use Rattle.std.proofs.lemmas.List.{get_or-set_other, get_or-set_same, get_or_past, map-append}
use Rattle.std.proofs.lemmas.List.Concat.{flat_map-append}
use Rattle.std.proofs.lemmas.List.Elements.{filter-append}
use Rattle.std.specs.List.{filter, flat_map, range_with_len}
use Rattle.doc_tree.specs.Table.{Table, is_live}
use Rattle.xp_outcome.specs.Recorded.{Recorded}
use Rattle.xp_outcome.specs.Slots.{in_slot}
use Rattle.xp_meaning.specs.Evaluation.{Lets}
use Rattle.sch_compiled.specs.declared.plan.Plan.{Plan}
use Rattle.sch_compiled.specs.Findings.{outcome_at}
use Rattle.kept_state.specs.Locality.{RulesTyped}
use Rattle.sch_units.specs.Units.{unit_pair}
use Rattle.sch_units.specs.Validity.{outcome_of, pattern_numbers}
use Rattle.edit_costs.specs.Costs.{Raised}
use Rattle.edit_costs.specs.Evaluating.{SpentOn, nodes_below, patterns_below}
use Rattle.edit_costs.specs.Units.{ValidationUnit, in_force, under, node_units}
use Rattle.edit_costs.proofs.RaisedLemmas.{raised_none, raised_then, spent_raised}
use Rattle.edit_costs.proofs.UnitLemmas.{number_more, pattern_more}
use Rattle.cover_laws.specs.Covering.{HeldAlike}
use Rattle.kept_state.specs.Kept.{Kept, Stands, noted}
use Rattle.kept_state.specs.Refreshing.{ComesBefore, PairsGoOn, Reached}
use Rattle.kept_state.specs.Running.{is_run, is_stale}
use Rattle.kept_state.specs.Steps.{StaysAs}
use Rattle.kept_state.specs.Steps.{RunsPair as KeepsRun}
use Rattle.kept_reads.specs.declared.kept_reads.KeptReads.{KeptReads}
use Rattle.kept_reads.specs.Reads.{may_be_stale, reads_at}
use Rattle.kept_units.specs.declared.kept_units.KeptUnits.{KeptUnits}
use Rattle.kept_units.specs.Keeping.{IsHeld, held_by, place_of, reads_in, seen_in}
use Rattle.kept_units.specs.inner.Refreshing.{KeepsPair, Leaves, NodesCut, NodesRefreshed, PairStops, PairsAlone, PairsReady, PatternsCut, PatternsRefreshed, RefreshesPair, pair_dead, pair_left, pair_ran, StepsOn, steps_one, steps_past, pair_runs}
use Rattle.kept_units.proofs.ListLemmas.{last_in, last_out, range_split}
use Rattle.kept_units.proofs.RaisedLemmas.{raised_in, raised_pair, spent_in, spent_more, spent_one, spent_then}
use Rattle.kept_units.proofs.SeenLemmas.{other_place, seen_pair, seen_past}

-- a live node has been made
pub live_made : (T : Table) (n : ℕ) → is_live T n ≡ true → n < length T
live_made T n live = elim (cases_lt n (length T)) [
  | inl below ↦ below
  | inr past ↦ absurd (false≢true (ap is_some (sym (get_or_past T n None past)) ∙ live))
]

-- Nothing but nodes under patterns changes

pub alone_on : (old mid new : KeptUnits) → PairsAlone old mid → PairsAlone mid new → PairsAlone old new
alone_on old mid new first next = record {
  lets = next.lets ∙ first.lets;
  let_reads = next.let_reads ∙ first.let_reads;
  patterns = next.patterns ∙ first.patterns;
  places = next.places ∙ first.places;
  blocks = next.blocks ∙ first.blocks;
  stays = λ place had. next.stays place (first.stays place had);
}

pub alone_left : (old new : KeptUnits) → new ≡ old → PairsAlone old new
alone_left old new same = record {
  lets = ap (λ (k : KeptUnits). k.lets) same;
  let_reads = ap (λ (k : KeptUnits). k.let_reads) same;
  patterns = ap (λ (k : KeptUnits). k.found.patterns) same;
  places = ap (λ (k : KeptUnits). length k.reads.entries) same;
  blocks = ap (λ (k : KeptUnits). k.reads.stale_blocks) same;
  stays = λ place had. ap (λ (k : KeptUnits). is_none (reads_at k.reads.entries place)) same ∙ had;
}

-- the places stay those of the tree
pub held_alone : (plan : Plan) (T : Table) (old new : KeptUnits) → PairsAlone old new → IsHeld plan T old → IsHeld plan T new
held_alone plan T old new alone held = record {
  patterns = alone.patterns ∙ held.patterns;
  lets_short = omega (arith, ap (λ (k : KeptReads). length k.entries) alone.let_reads, held.lets_short);
  short = omega (arith, alone.places, held.short);
  blocks = omega (arith, ap (λ v. length v.items) alone.blocks, held.blocks);
  passed = λ p n low live clean. alone.stays (place_of plan p n)
      (held.passed p n low live (ap (λ v. may_be_stale v.items n) (sym alone.blocks) ∙ clean));
}

pub ready_alone : (plan : Plan) (T : Table) (old new : KeptUnits) → PairsAlone old new → PairsReady plan T old → PairsReady plan T new
ready_alone plan T old new alone ready = record {
  lets = alone.lets ∙ ready.lets;
  few = omega (arith, ap length alone.lets, ready.few);
  held = held_alone plan T old new alone ready.held;
}

-- what is kept of a node under a pattern, where all other entries stay
module _ (plan : Plan) (T : Table) (p n : ℕ) (old new : KeptUnits) (low : p < length plan.patterns)
    (patterns : old.found.patterns ≡ length plan.patterns) (alone : PairsAlone old new)
    (others : (q m : ℕ) → (q ≢ p) ⊎ (m ≢ n) → outcome_at new.found q m ≡ outcome_at old.found q m)
    (entries : (place : ℕ) → place ≢ place_of plan p n → reads_at new.reads.entries place ≡ reads_at old.reads.entries place) where
  differ : (q m : ℕ) → under q m ≢ under p n → (q ≢ p) ⊎ (m ≢ n)
  differ q m other = elim (cases_eq q p) [
    | inl same ↦ inr (λ (is : m ≡ n). other (ap (λ (k : ℕ). under k m) same ∙ ap (under p) is))
    | inr apart ↦ inl apart
  ]

  seen_stays : (unit : ValidationUnit) → unit ≢ under p n → StaysAs (seen_in old) (seen_in new) unit
  seen_stays (in_force slot) other = record {
    given = ap (λ (L : Lets). in_slot L slot) alone.lets;
    reads = ap (λ (k : KeptReads). reads_at k.entries slot) alone.let_reads;
  }
  seen_stays (under q m) other = record {
    given = others q m (differ q m other);
    reads = by (cases_lt q (length plan.patterns));
  }
    where
      by : (q < length plan.patterns) ⊎ (length plan.patterns ≤ q) → reads_in (held_by new) (under q m) ≡ reads_in (held_by old) (under q m)
      by (inl below) =
          seen_pair plan q m new (alone.patterns ∙ patterns) below ∙ entries (place_of plan q m)
          (other_place plan p n q m low below (differ q m other))
          ∙ sym (seen_pair plan q m old patterns below)
      by (inr past) = seen_past plan q m new (alone.patterns ∙ patterns) past ∙ sym (seen_past plan q m old patterns past)

  pub keeps_run : ((held : Recorded) → reads_at new.reads.entries (place_of plan p n) ≡ Some held → Stands plan T (seen_in new) (under p n) held) →
      KeepsRun plan T p n (seen_in old) (seen_in new)
  keeps_run stands = record {
    lets = alone.lets;
    stands = λ held is. stands held (sym (seen_pair plan p n new (alone.patterns ∙ patterns) low) ∙ is);
    others = seen_stays;
  }

-- Units

one_live : (T : Table) (p n : ℕ) → is_live T n ≡ true → nodes_below T p (n + 1) ≡ nodes_below T p n ++ under p n ∷ []
one_live T p n live =
    ap (λ (ns : List ℕ). map (under p) (filter (is_live T) ns)) (number_more n)
    ∙ ap (map (under p)) (last_in (is_live T) (range_with_len 0 n) n live)
    ∙ map-append (under p) (filter (is_live T) (range_with_len 0 n)) (n ∷ [])

one_dead : (T : Table) (p n : ℕ) → is_live T n ≡ false → nodes_below T p (n + 1) ≡ nodes_below T p n
one_dead T p n dead =
    ap (λ (ns : List ℕ). map (under p) (filter (is_live T) ns)) (number_more n)
    ∙ ap (map (under p)) (last_out (is_live T) (range_with_len 0 n) n dead)

-- nodes that don't pass a test add no unit
one_passed : (T : Table) (p n : ℕ) (run : ValidationUnit → Bool) → (is_live T n ≡ true → run (under p n) ≡ false) →
    filter run (nodes_below T p (n + 1)) ≡ filter run (nodes_below T p n)
one_passed T p n run none = by (is_live T n) refl
  where
    by : (b : Bool) → is_live T n ≡ b → filter run (nodes_below T p (n + 1)) ≡ filter run (nodes_below T p n)
    by true live = ap (filter run) (one_live T p n live) ∙ last_out run (nodes_below T p n) (under p n) (none live)
    by false dead = ap (filter run) (one_dead T p n dead)

units_passed : (T : Table) (p n count : ℕ) (run : ValidationUnit → Bool) →
    ((m : ℕ) → n ≤ m → m < n + count → is_live T m ≡ true → run (under p m) ≡ false) →
    filter run (nodes_below T p (n + count)) ≡ filter run (nodes_below T p n)
units_passed T p n zero run none = ap (λ (k : ℕ). filter run (nodes_below T p k)) (add-zero n)
units_passed T p n (suc count) run none =
    let place : n + suc count ≡ (n + count) + 1 = omega arith in
    ap (λ (k : ℕ). filter run (nodes_below T p k)) place
    ∙ one_passed T p (n + count) run (none (n + count) (omega arith) (omega arith))
    ∙ units_passed T p n count run (λ m above below. none m above (omega (arith, below)))

-- the nodes behind one more
rest_of : (T : Table) (p n : ℕ) → n < length T → is_live T n ≡ true →
    (rest : List ValidationUnit) × (node_units T p ≡ (nodes_below T p n ++ under p n ∷ []) ++ rest)
rest_of T p n within live =
    let count : length T ≡ (n + 1) + (length T - (n + 1)) = omega (arith, within) in
    let last = range_with_len (0 + (n + 1)) (length T - (n + 1)) in (
      map (under p) (filter (is_live T) last),
      ap (λ (ns : List ℕ). map (under p) (filter (is_live T) ns)) (ap (range_with_len 0) count ∙ range_split 0 (n + 1) (length T - (n + 1)))
          ∙ ap (map (under p)) (filter-append (is_live T) (range_with_len 0 (n + 1)) last)
          ∙ map-append (under p) (filter (is_live T) (range_with_len 0 (n + 1))) (filter (is_live T) last)
          ∙ ap (λ units. units ++ map (under p) (filter (is_live T) last)) (one_live T p n live),
    )

-- Steps

not_behind : (p n m : ℕ) → n ≤ m → ComesBefore (under p m) (under p n) → ⊥
not_behind p n m past before = ⊎_elim (λ (less : p < p). omega (arith, less)) (λ (both : (p ≡ p) × (m < n)). omega (arith, both.1, past)) before

module _ (plan : Plan) (T : Table) (go : PairsGoOn plan T) (p : ℕ) (low : p < length plan.patterns) (typed : RulesTyped plan p) (n : ℕ)
    (mid new : KeptUnits) (ready : PairsReady plan T mid) where
  -- a node is stale where nothing is kept at its place
  stale_seen : (m : ℕ) → is_stale (seen_in mid) (under p m) ≡ pair_runs plan p m mid
  stale_seen m = ap is_none (seen_pair plan p m mid ready.held.patterns low)

  told : (was : Kept) (m : ℕ) → n ≤ m → Reached plan T (under p n) was (seen_in mid) → is_run plan T was (under p m) ≡ pair_runs plan p m mid
  told was m past reached = go.tells p n p m was (seen_in mid) reached (not_behind p n m past) ∙ stale_seen m

  -- a node that was run
  module _ (alone : PairsAlone mid new) (place : place_of plan p n < length mid.reads.entries)
      (runs : KeepsPair plan T (outcome_of (unit_pair plan T mid.lets p n).answer) (noted (unit_pair plan T mid.lets p n).reads) p n mid new) where
    entry : reads_at new.reads.entries (place_of plan p n) ≡ Some runs.held
    entry =
        ap (λ (entries : List (Option Recorded)). reads_at entries (place_of plan p n)) runs.puts.entries ∙ get_or-set_same mid.reads.entries
        (place_of plan p n) (Some runs.held) None place

    stands : (held : Recorded) → reads_at new.reads.entries (place_of plan p n) ≡ Some held → Stands plan T (seen_in new) (under p n) held
    stands held is =
        let same : runs.held ≡ held = (let e = sym entry ∙ is in cc) in
        record {
          gave = runs.puts.found.there ∙ ap (λ (L : Lets). Some (outcome_of (unit_pair plan T L p n).answer)) (sym alone.lets);
          read = subst (λ (L : Lets). HeldAlike T held (noted (unit_pair plan T L p n).reads)) (sym alone.lets)
              (subst (λ (h : Recorded). HeldAlike T h (noted (unit_pair plan T mid.lets p n).reads)) same runs.alike);
        }

    run_kept : KeepsRun plan T p n (seen_in mid) (seen_in new)
    run_kept = keeps_run plan T p n mid new low ready.held.patterns alone runs.puts.found.others
        (λ at apart. ap (λ (entries : List (Option Recorded)). reads_at entries at) runs.puts.entries ∙ get_or-set_other mid.reads.entries
        (place_of plan p n) at (Some runs.held) None apart) stands

    reached_run : (was : Kept) → n < length T → pair_runs plan p n mid ≡ true → Reached plan T (under p n) was (seen_in mid) →
        Reached plan T (under p (n + 1)) was (seen_in new)
    reached_run was made stale reached = go.ran p n was (seen_in mid) (seen_in new) reached made (stale_seen n ∙ stale) run_kept
        (ap is_none (seen_pair plan p n new (alone.patterns ∙ ready.held.patterns) low ∙ entry))

module _ (plan : Plan) (T : Table) (go : PairsGoOn plan T) (p : ℕ) (low : p < length plan.patterns) (typed : RulesTyped plan p) where
  -- nodes that aren't stale are passed over
  pub passed_over : (n next : ℕ) (old mid : KeptUnits) (before middle : ℕ) → PairsReady plan T mid → NodesRefreshed plan T p n old mid before middle →
      n ≤ next →
      ((m : ℕ) → n ≤ m → m < next → is_live T m ≡ true → pair_runs plan p m mid ≡ false) → NodesRefreshed plan T p next old mid before middle
  passed_over n next old mid before middle ready so_far later clean = record {
    alone = so_far.alone;
    reached = λ was start. go.left p n next was (seen_in mid) (so_far.reached was start) typed later
        (λ m above below live. stale_seen plan T go p low typed n mid mid ready m ∙ clean m above below live);
    raised = λ was start. subst (λ (units : List ValidationUnit). Raised plan T units before middle)
        (sym (passed (is_run plan T was) (λ m above below live. told plan T go p low typed n mid mid ready was m above (so_far.reached was start)
        ∙ clean m above below live)))
        (so_far.raised was start);
  }
    where
      end : n + (next - n) ≡ next
      end = omega (arith, later)

      passed : (run : ValidationUnit → Bool) → ((m : ℕ) → n ≤ m → m < next → is_live T m ≡ true → run (under p m) ≡ false) →
          filter run (nodes_below T p next) ≡ filter run (nodes_below T p n)
      passed run none =
          ap (λ (k : ℕ). filter run (nodes_below T p k)) (sym end) ∙ units_passed T p n (next - n) run
          (λ m above below. none m above (omega (arith, below, end)))

  -- where all stays as it was
  left_over : (k : ℕ) (old mid new : KeptUnits) (before middle after : ℕ) → Leaves mid new middle after →
      NodesRefreshed plan T p k old mid before middle → NodesRefreshed plan T p k old new before after
  left_over k old mid new before middle after leaves refreshed =
      subst (λ (kept : KeptUnits). NodesRefreshed plan T p k old kept before after) (sym leaves.kept)
      (subst (λ (count : ℕ). NodesRefreshed plan T p k old mid before count) (sym leaves.count) refreshed)

  node_on : (n : ℕ) (old mid new : KeptUnits) (before middle after : ℕ) → place_of plan p n < length mid.reads.entries → PairsReady plan T mid →
      PairsAlone mid new →
      NodesRefreshed plan T p n old mid before middle → RefreshesPair plan T p n mid new middle after →
      NodesRefreshed plan T p (n + 1) old new before after
  node_on n old mid new before middle after place ready alone so_far (pair_ran live stale ran) = record {
    alone = alone_on old mid new so_far.alone alone;
    reached = λ was start. reached_run plan T go p low typed n mid new ready alone place ran.keeps was (live_made T n live) stale
        (so_far.reached was start);
    raised =
        λ was start. subst (λ (units : List ValidationUnit). Raised plan T (filter (is_run plan T was) units) before after)
        (sym (one_live T p n live))
        (raised_in plan T (is_run plan T was) (nodes_below T p n) (under p n) before middle after
        (told plan T go p low typed n mid new ready was n (omega arith) (so_far.reached was start) ∙ stale) (so_far.raised was start)
        (raised_pair plan T mid.lets p n middle after ready.lets ran.took));
  }
  node_on n old mid new before middle after place ready alone so_far (pair_left live had leaves) =
      left_over (n + 1) old mid new before middle after leaves (passed_over n (n + 1) old mid before middle ready so_far (omega arith)
      (λ m above below lives. let same : n ≡ m = omega (arith, above, below) in subst (λ (k : ℕ). pair_runs plan p k mid ≡ false) same had))
  node_on n old mid new before middle after place ready alone so_far (pair_dead dead leaves) =
      left_over (n + 1) old mid new before middle after leaves (passed_over n (n + 1) old mid before middle ready so_far (omega arith)
      (λ m above below lives. let same : n ≡ m = omega (arith, above, below) in
      absurd (false≢true (sym dead ∙ subst (λ (k : ℕ). is_live T k ≡ true) (sym same) lives))))

  pub goes_on : (n next : ℕ) (old mid new : KeptUnits) (before middle after : ℕ) → place_of plan p n < length mid.reads.entries →
      PairsReady plan T mid → PairsAlone mid new →
      NodesRefreshed plan T p n old mid before middle → StepsOn plan T p n next mid new middle after →
      NodesRefreshed plan T p next old new before after
  goes_on n next old mid new before middle after place ready alone so_far (steps_one is refreshes) =
      subst (λ (k : ℕ). NodesRefreshed plan T p k old new before after) (sym is)
      (node_on n old mid new before middle after place ready alone so_far refreshes)
  goes_on n next old mid new before middle after place ready alone so_far (steps_past later clean leaves) =
      left_over next old mid new before middle after leaves (passed_over n next old mid before middle ready so_far (omega (arith, later))
      (λ m above below live. ready.held.passed p m low live (clean m above below)))

  pub node_cut : (n : ℕ) (old mid new : KeptUnits) (before middle after : ℕ) → PairsReady plan T mid → PairsAlone mid new →
      NodesRefreshed plan T p n old mid before middle →
      PairStops plan T p n mid new middle after → NodesCut plan T p old new before after
  node_cut n old mid new before middle after ready alone so_far stops =
      let rest = rest_of T p n (live_made T n stops.live) stops.live in
      record {
        alone = alone_on old mid new so_far.alone alone;
        goes_on = λ was start. go.stops p n was (seen_in mid) (seen_in new) (so_far.reached was start) (live_made T n stops.live)
            (stale_seen plan T go p low typed n mid new ready n ∙ stops.runs)
            (keeps_run plan T p n mid new low ready.held.patterns alone stops.cuts.cut.others (λ place apart. stops.cuts.cut.entries place) unread);
        spent = λ was start.
            subst (λ (units : List ValidationUnit). SpentOn plan T (filter (is_run plan T was) units) before after) (sym rest.1)
            (spent_in plan T (is_run plan T was) (nodes_below T p n) rest.0 (under p n) before middle after
            (told plan T go p low typed n mid new ready was n (omega arith) (so_far.reached was start) ∙ stops.runs)
            (spent_raised plan T (filter (is_run plan T was) (nodes_below T p n)) before middle (so_far.raised was start))
            (spent_one plan T (under p n) middle after stops.cuts.spent.later
            (subst (λ (L : Lets). after ≤ middle + (unit_pair plan T L p n).work) ready.lets stops.cuts.spent.at_most)));
      }
    where
      unread : (held : Recorded) → reads_at new.reads.entries (place_of plan p n) ≡ Some held → Stands plan T (seen_in new) (under p n) held
      unread held is = absurd (false≢true (ap is_none (sym is ∙ stops.cuts.cut.entries (place_of plan p n)) ∙ stops.runs))

-- no node so far
pub nodes_begin : (plan : Plan) (T : Table) (p : ℕ) (kept : KeptUnits) (count : ℕ) → NodesRefreshed plan T p 0 kept kept count count
nodes_begin plan T p kept count =
    record { alone = alone_left kept kept refl; reached = λ was start. start; raised = λ was start. raised_none plan T count }

-- Patterns

-- the units under one pattern more
units_more : (T : Table) (p : ℕ) (run : ValidationUnit → Bool) → filter run (patterns_below T (p + 1)) ≡
    filter run (patterns_below T p) ++ filter run (node_units T p)
units_more T p run =
    ap (filter run) (pattern_more T p) ∙ filter-append run (patterns_below T p) (node_units T p)

-- one pattern more
pub pattern_on : (plan : Plan) (T : Table) → PairsGoOn plan T → (p : ℕ) (old mid new : KeptUnits) (before middle after : ℕ) →
    PatternsRefreshed plan T p old mid before middle → NodesRefreshed plan T p (length T) mid new middle after →
    PatternsRefreshed plan T (p + 1) old new before after
pattern_on plan T go p old mid new before middle after so_far nodes = record {
  alone = alone_on old mid new so_far.alone nodes.alone;
  reached = λ was start. go.next p (length T) was (seen_in new) (nodes.reached was (so_far.reached was start)) (omega arith);
  raised = λ was start. subst (λ (units : List ValidationUnit). Raised plan T units before after) (sym (units_more T p (is_run plan T was)))
      (raised_then plan T (filter (is_run plan T was) (patterns_below T p)) (filter (is_run plan T was) (node_units T p)) before middle after
      (so_far.raised was start) (nodes.raised was (so_far.reached was start)));
}

-- the units under some patterns, and then those under the others
units_split : (plan : Plan) (T : Table) (p : ℕ) (run : ValidationUnit → Bool) → p < length plan.patterns →
    filter run (flat_map (node_units T) (pattern_numbers plan)) ≡
    filter run (patterns_below T (p + 1)) ++ filter run (flat_map (node_units T) (range_with_len (0 + (p + 1)) (length plan.patterns - (p + 1))))
units_split plan T p run low =
    let count : length plan.patterns ≡ (p + 1) + (length plan.patterns - (p + 1)) = omega (arith, low) in
    let last = range_with_len (0 + (p + 1)) (length plan.patterns - (p + 1)) in
    ap (λ (ns : List ℕ). filter run (flat_map (node_units T) ns))
    (ap (range_with_len 0) count ∙ range_split 0 (p + 1) (length plan.patterns - (p + 1)))
    ∙ ap (filter run) (flat_map-append (node_units T) (range_with_len 0 (p + 1)) last)
    ∙ filter-append run (patterns_below T (p + 1)) (flat_map (node_units T) last)

pub pattern_cut : (plan : Plan) (T : Table) (p : ℕ) (old mid new : KeptUnits) (before middle after : ℕ) → p < length plan.patterns →
    PatternsRefreshed plan T p old mid before middle → NodesCut plan T p mid new middle after → PatternsCut plan T old new before after
pattern_cut plan T p old mid new before middle after low so_far nodes = record {
  alone = alone_on old mid new so_far.alone nodes.alone;
  goes_on = λ was start. nodes.goes_on was (so_far.reached was start);
  spent = λ was start.
      subst (λ (units : List ValidationUnit). SpentOn plan T units before after) (sym (units_split plan T p (is_run plan T was) low))
      (spent_more plan T (filter (is_run plan T was) (patterns_below T (p + 1)))
      (filter (is_run plan T was) (flat_map (node_units T) (range_with_len (0 + (p + 1)) (length plan.patterns - (p + 1))))) before after
      (subst (λ (units : List ValidationUnit). SpentOn plan T units before after) (sym (units_more T p (is_run plan T was)))
      (spent_then plan T (filter (is_run plan T was) (patterns_below T p)) (filter (is_run plan T was) (node_units T p)) before middle after
      (spent_raised plan T (filter (is_run plan T was) (patterns_below T p)) before middle (so_far.raised was start))
      (nodes.spent was (so_far.reached was start)))));
}

-- no pattern so far
pub patterns_begin : (plan : Plan) (T : Table) (kept : KeptUnits) (count : ℕ) → PatternsRefreshed plan T 0 kept kept count count
patterns_begin plan T kept count =
    record { alone = alone_left kept kept refl; reached = λ was start. start; raised = λ was start. raised_none plan T count }
