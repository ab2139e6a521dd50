-- A refresh, watch by watch.
use Rattle.std.proofs.Common.{◌≡◌, ◌≢◌, ◌∙◌, ◌⊎◌, inl, inr, ℕ, zero, suc, ◌+◌, ◌<◌, ◌≤◌, Bool, true, false, cond, List, ◌∷◌, length, get_or, Option, None, Some, IfSome, is_none, Result, Ok, Err, refl, sym, ap, subst, arith}
use Rattle.std.specs.Prelude.{slice_get, slice_index_or}
use Rattle.std.specs.List.{list_any}
use Rattle.std.specs.Option.{option_map_or}
use Rattle.std.specs.Result.{is_err}
use Rattle.std.proofs.lemmas.Bool.{cases_eq, cases_lt, or_parts, true≢false}
use Rattle.std.proofs.lemmas.List.{get_or-set_same, length-set}
use Rattle.std.proofs.lemmas.List.Sums.{sum_by-cons}
use Rattle.std.proofs.lemmas.Option.{slice_get_cases, slice_get_within}
use Rattle.doc_tree.specs.Table.{Table}
use Rattle.xp_typed_tree.specs.TypedTree.{TypedTree}
use Rattle.xp_outcome.specs.Recorded.{Recorded}
use Rattle.xp_values.specs.declared.values.EvalFault.{EvalFault}
use Rattle.xp_values.specs.declared.values.Value.{Value}
use Rattle.xp_watch.specs.Costs.{Raised, cost_of, has_fault, work_of}
use Rattle.xp_watch.specs.Kept.{GoesOn, IsDone, IsFresh, IsRight, Kept, StaysAs, is_stale, stale_watches}
use Rattle.kept_reads.specs.Reads.{reads_at}
use Rattle.xp_watch.specs.Watched.{watched}
use Rattle.xp_watch.specs.inner.Refreshing.{Keeps, Reached, ReachedAt, Refreshes, Runs, Stops, Took, stale_from, was_fresh, was_run, WatchesCut}
use Rattle.xp_watch.proofs.KeptLemmas.{puts_others, stays_self}

-- What stays

pub stays_then : (old mid new : Kept) (k : ℕ) → StaysAs old mid k → StaysAs mid new k → StaysAs old new k
stays_then old mid new k one other = record { given = other.given ∙ one.given; reads = other.reads ∙ one.reads }

stale_same : (old new : Kept) (k : ℕ) → StaysAs old new k → is_stale new k ≡ is_stale old k
stale_same old new k stays = ap is_none stays.reads

done_stays : (T : Table) (expr : TypedTree) (old new : Kept) (k : ℕ) → StaysAs old new k → IsDone T expr old k → IsDone T expr new k
done_stays T expr old new k stays done =
    record { gave = stays.given ∙ done.gave; held = done.held; is = stays.reads ∙ done.is; alike = done.alike }

-- a watch that was run is done
run_done : (T : Table) (expr : TypedTree) (k : ℕ) (old new : Kept) (before after : ℕ) → k < length old.values → k < length old.reads →
    Runs T expr k old new before after → IsDone T expr new k
run_done T expr k old new before after value place runs = record {
  gave = ap (λ (values : List (Option (Result Value EvalFault))). slice_index_or values k None) runs.puts.values
      ∙ get_or-set_same old.values k (Some (watched T expr).answer) None value;
  held = runs.held;
  is = ap (λ (entries : List (Option Recorded)). reads_at entries k) runs.puts.reads ∙ get_or-set_same old.reads k (Some runs.held) None place;
  alike = runs.alike;
}

-- Counts

module _ (T : Table) (exprs : List TypedTree) (k : ℕ) (expr : TypedTree) (there : slice_get exprs k ≡ Some expr) where
  pub work_is : work_of T exprs k ≡ (watched T expr).work
  work_is = ap (λ (o : Option TypedTree). option_map_or (λ e. (watched T e).work) o 0) there

  no_fault : has_fault T exprs k ≡ false → (v : Value) × ((watched T expr).answer ≡ Ok v)
  no_fault none = by (watched T expr).answer refl (sym (ap (λ (o : Option TypedTree). option_map_or (λ e. is_err (watched T e).answer) o false) there) ∙ none)
    where
      by : (answer : Result Value EvalFault) → (watched T expr).answer ≡ answer → is_err (watched T expr).answer ≡ false →
          (v : Value) × ((watched T expr).answer ≡ Ok v)
      by (Ok v) is none = (v, is)
      by (Err f) is none = absurd (true≢false (sym (ap is_err is) ∙ none))

  pub took_exactly : (before after : ℕ) → Took (watched T expr) before after → has_fault T exprs k ≡ false → after ≡ before + work_of T exprs k
  took_exactly before after took none =
      let ok = no_fault none in
      took.exactly ok.0 ok.1 ∙ ap (λ (w : ℕ). before + w) (sym work_is)

-- of the watches from one on the first is stale, or it isn't
from_stale : (kept : Kept) (k left : ℕ) → is_stale kept k ≡ true → stale_from kept k (suc left) ≡ k ∷ stale_from kept (k + 1) left
from_stale kept k left is = ap (λ (b : Bool). cond b (k ∷ stale_from kept (k + 1) left) (stale_from kept (k + 1) left)) is

from_fresh : (kept : Kept) (k left : ℕ) → is_stale kept k ≡ false → stale_from kept k (suc left) ≡ stale_from kept (k + 1) left
from_fresh kept k left is = ap (λ (b : Bool). cond b (k ∷ stale_from kept (k + 1) left) (stale_from kept (k + 1) left)) is

-- The refresh

pub reached_start : (T : Table) (exprs : List TypedTree) (kept : Kept) (count : ℕ) → Keeps T exprs kept → ReachedAt T exprs 0 kept kept count count
reached_start T exprs kept count keeps = (
  length exprs,
  record {
    whole = omega arith;
    values = keeps.values;
    reads = keeps.reads;
    done = λ j expr less there. absurd (omega (arith, less));
    rest = λ j from. stays_self kept j;
    others = λ j fresh. stays_self kept j;
    later = omega arith;
    at_most = omega arith;
    exactly = λ none. (none, refl);
  },
)

module _ (T : Table) (exprs : List TypedTree) (k : ℕ) (expr : TypedTree) (there : slice_get exprs k ≡ Some expr) (old mid new : Kept) (before count after : ℕ) where
  module _ (left : ℕ) (so_far : Reached T exprs k (suc left) old mid before count) where
    was : is_stale mid k ≡ is_stale old k
    was = stale_same old mid k (so_far.rest k (omega arith))

    ran_on : is_stale mid k ≡ true → Runs T expr k mid new count after → Reached T exprs (k + 1) left old new before after
    ran_on stale runs = record {
      whole = omega (arith, so_far.whole);
      values = ap length runs.puts.values ∙ length-set mid.values k (Some (watched T expr).answer) ∙ so_far.values;
      reads = ap length runs.puts.reads ∙ length-set mid.reads k (Some runs.held) ∙ so_far.reads;
      done = λ j e less get. done j e less get (cases_eq j k);
      rest = λ j from. stays_then old mid new j (so_far.rest j (omega (arith, from))) (others j (λ same. omega (arith, same, from)));
      others = λ j fresh.
          stays_then old mid new j (so_far.others j fresh)
          (others j (λ same. true≢false (sym (sym was ∙ stale) ∙ ap (is_stale old) (sym same) ∙ fresh)));
      later = omega (arith, so_far.later, runs.took.spent.later);
      at_most = omega (arith, so_far.at_most, head, runs.took.spent.at_most, work_is T exprs k expr there);
      exactly = λ none.
          let all = so_far.exactly none in
          let parts = or_parts (has_fault T exprs k) (list_any (has_fault T exprs) (stale_from old (k + 1) left))
          (sym (ap (list_any (has_fault T exprs)) first) ∙ all.0) in
          (parts.1, omega (arith, all.1, head, took_exactly T exprs k expr there count after runs.took parts.0));
    }
      where
        others : (j : ℕ) → j ≢ k → StaysAs mid new j
        others j other = puts_others (watched T expr).answer k (Some runs.held) mid new runs.puts j other

        first : stale_from old k (suc left) ≡ k ∷ stale_from old (k + 1) left
        first = from_stale old k left (sym was ∙ stale)

        head : cost_of T exprs (stale_from old k (suc left)) ≡ work_of T exprs k + cost_of T exprs (stale_from old (k + 1) left)
        head = ap (cost_of T exprs) first ∙ sum_by-cons (work_of T exprs) k (stale_from old (k + 1) left)

        within : k < length exprs
        within = slice_get_within exprs k expr there

        done : (j : ℕ) (e : TypedTree) → j < k + 1 → slice_get exprs j ≡ Some e → (j ≡ k) ⊎ (j ≢ k) → IsDone T e new j
        done j e less get (inl same) =
            subst (λ (n : ℕ). IsDone T e new n) (sym same)
            (subst (λ (f : TypedTree). IsDone T f new k) (one e (sym (ap (slice_get exprs) same) ∙ get))
            (run_done T expr k mid new count after (omega (arith, within, so_far.values)) (omega (arith, within, so_far.reads)) runs))
          where
            one : (e : TypedTree) → slice_get exprs k ≡ Some e → expr ≡ e
            one e get = let both : Some expr ≡ Some e = sym there ∙ get in (cc)
        done j e less get (inr other) =
            done_stays T e mid new j (others j other) (so_far.done j e (omega (arith, less, other)) get)

    left_on : IsRight T exprs old → is_stale mid k ≡ false → new ≡ mid → after ≡ count → Reached T exprs (k + 1) left old new before after
    left_on right fresh same steps =
        subst (λ (kept : Kept). Reached T exprs (k + 1) left old kept before after) (sym same)
        (subst (λ (n : ℕ). Reached T exprs (k + 1) left old mid before n) (sym steps) (record {
          whole = omega (arith, so_far.whole);
          values = so_far.values;
          reads = so_far.reads;
          done = λ j e less get. done right j e less get (cases_eq j k);
          rest = λ j from. so_far.rest j (omega (arith, from));
          others = so_far.others;
          later = so_far.later;
          at_most = omega (arith, so_far.at_most, head);
          exactly = λ none. let all = so_far.exactly none in (sym (ap (list_any (has_fault T exprs)) first) ∙ all.0, omega (arith, all.1, head));
        }))
      where
        first : stale_from old k (suc left) ≡ stale_from old (k + 1) left
        first = from_fresh old k left (sym was ∙ fresh)

        head : cost_of T exprs (stale_from old k (suc left)) ≡ cost_of T exprs (stale_from old (k + 1) left)
        head = ap (cost_of T exprs) first

        done : IsRight T exprs old → (j : ℕ) (e : TypedTree) → j < k + 1 → slice_get exprs j ≡ Some e → (j ≡ k) ⊎ (j ≢ k) → IsDone T e mid j
        done right j e less get (inl same) =
            let stays = so_far.rest j (omega (arith, same)) in
            done_stays T e old mid j stays
            (right j e get (sym (stale_same old mid j stays) ∙ ap (is_stale mid) same ∙ fresh))
        done right j e less get (inr other) = so_far.done j e (omega (arith, less, other)) get

  pub reached_on : IsRight T exprs old → ReachedAt T exprs k old mid before count → Refreshes T expr k mid new count after → ReachedAt T exprs (k + 1) old new before after
  reached_on right so_far refreshes = by so_far.0 so_far.1 refreshes
    where
      by : (left : ℕ) → Reached T exprs k left old mid before count → Refreshes T expr k mid new count after → ReachedAt T exprs (k + 1) old new before after
      by zero so_far refreshes = absurd (omega (arith, so_far.whole, slice_get_within exprs k expr there))
      by (suc left) so_far (was_run stale runs) = (left, ran_on left so_far stale runs)
      by (suc left) so_far (was_fresh fresh same steps) = (left, left_on left so_far right fresh same steps)

  -- where the refresh stops
  module _ (right : IsRight T exprs old) (so_far : ReachedAt T exprs k old mid before count) (stops : Stops T expr k mid new count after) where
    old_stale : is_stale old k ≡ true
    old_stale = sym (stale_same old mid k (so_far.1.rest k (omega arith))) ∙ stops.was_stale

    cut_right : (j : ℕ) (e : TypedTree) → slice_get exprs j ≡ Some e → is_stale new j ≡ false → (j ≡ k) ⊎ (j ≢ k) → (j < k) ⊎ (k ≤ j) → IsDone T e new j
    cut_right j e get fresh (inl same) side = absurd (true≢false (sym stops.cuts.cut.stale ∙ ap (is_stale new) (sym same) ∙ fresh))
    cut_right j e get fresh (inr other) (inl less) = done_stays T e mid new j (stops.cuts.cut.others j other) (so_far.1.done j e less get)
    cut_right j e get fresh (inr other) (inr from) =
        let stays = stays_then old mid new j (so_far.1.rest j from) (stops.cuts.cut.others j other) in
        done_stays T e old new j stays (right j e get (sym (stale_same old new j stays) ∙ fresh))

    cut_some : (j : ℕ) (e : TypedTree) → slice_get exprs j ≡ Some e → is_stale old j ≡ true → (j ≡ k) ⊎ (j ≢ k) → (j < k) ⊎ (k ≤ j) →
        IsDone T e new j ⊎ (is_stale new j ≡ true)
    cut_some j e get stale (inl same) side = inr (ap (is_stale new) same ∙ stops.cuts.cut.stale)
    cut_some j e get stale (inr other) (inl less) = inl (done_stays T e mid new j (stops.cuts.cut.others j other) (so_far.1.done j e less get))
    cut_some j e get stale (inr other) (inr from) =
        inr (stale_same old new j (stays_then old mid new j (so_far.1.rest j from) (stops.cuts.cut.others j other)) ∙ stale)

    stops_keep : Keeps T exprs new
    stops_keep = record {
      values = stops.cuts.cut.values ∙ so_far.1.values;
      reads = stops.cuts.cut.reads ∙ so_far.1.reads;
      right = λ j e get fresh. cut_right j e get fresh (cases_eq j k) (cases_lt j k);
    }

    stops_go : GoesOn T exprs old new
    stops_go = record {
      some = λ j e get stale. cut_some j e get stale (cases_eq j k) (cases_lt j k);
      others = λ j fresh.
          stays_then old mid new j (so_far.1.others j fresh)
          (stops.cuts.cut.others j (λ same. true≢false (sym old_stale ∙ ap (is_stale old) (sym same) ∙ fresh)));
    }

    stops_later : before ≤ after
    stops_later = omega (arith, so_far.1.later, stops.cuts.spent.later)

    stops_most : after ≤ before + cost_of T exprs (stale_watches old exprs)
    stops_most = by so_far.0 so_far.1
      where
        by : (left : ℕ) → Reached T exprs k left old mid before count → after ≤ before + cost_of T exprs (stale_watches old exprs)
        by zero reached = absurd (omega (arith, reached.whole, slice_get_within exprs k expr there))
        by (suc left) reached =
            let head : cost_of T exprs (stale_from old k (suc left)) ≡ work_of T exprs k + cost_of T exprs (stale_from old (k + 1) left) =
            ap (cost_of T exprs) (from_stale old k left old_stale) ∙ sum_by-cons (work_of T exprs) k (stale_from old (k + 1) left) in
            omega (arith, reached.at_most, head, stops.cuts.spent.at_most, work_is T exprs k expr there)

    pub stops_cut : WatchesCut T exprs old new before after
    stops_cut = record { keeps = stops_keep; goes_on = stops_go; later = stops_later; at_most = stops_most }

-- the refresh has come to the end
module _ (T : Table) (exprs : List TypedTree) (old new : Kept) (before after : ℕ) (so_far : ReachedAt T exprs (length exprs) old new before after) where
  pub ends_fresh : IsFresh T exprs new
  ends_fresh k expr there = so_far.1.done k expr (slice_get_within exprs k expr there) there

  pub ends_keep : Keeps T exprs new
  ends_keep = record { values = so_far.1.values; reads = so_far.1.reads; right = λ k expr there fresh. ends_fresh k expr there }

  pub ends_go : GoesOn T exprs old new
  ends_go = record { some = λ k expr there stale. inl (ends_fresh k expr there); others = so_far.1.others }

  pub ends_raised : Raised T exprs (stale_watches old exprs) before after
  ends_raised = record {
    at_most = omega (arith, so_far.1.at_most);
    exactly = λ none. by so_far.0 so_far.1 none;
  }
    where
      by : (left : ℕ) → Reached T exprs (length exprs) left old new before after → list_any (has_fault T exprs) (stale_watches old exprs) ≡ false →
          after ≡ before + cost_of T exprs (stale_watches old exprs)
      by zero reached none = let all = reached.exactly none in omega (arith, all.1)
      by (suc left) reached none = absurd (omega (arith, reached.whole))

  pub ends_later : before ≤ after
  ends_later = so_far.1.later

-- where the expression is there
pub if_there : (P : TypedTree → Type 0) (exprs : List TypedTree) (k : ℕ) → k < length exprs → IfSome (slice_get exprs k) P →
    (expr : TypedTree) × (slice_get exprs k ≡ Some expr) × P expr
if_there P exprs k less holds = by ((slice_get_cases exprs k).1)
  where
    by : ((expr : TypedTree) × (k < length exprs) × (slice_get exprs k ≡ Some expr) × (get_or exprs k expr ≡ expr))
        ⊎ ((length exprs ≤ k) × (slice_get exprs k ≡ None)) → (expr : TypedTree) × (slice_get exprs k ≡ Some expr) × P expr
    by (inl found) = (found.0, found.2, subst (λ (o : Option TypedTree). IfSome o P) found.2 holds)
    by (inr past) = absurd (omega (arith, less, past.0))
