-- What a refresh does, watch by watch.
use Rattle.std.specs.Prelude.{◌≡◌, ◌≢◌, ℕ, ◌+◌, ◌<◌, ◌≤◌, true, false, List, length, filter, Option, Some, Result, Ok, Err, IsErr, slice_get, slice_set}
use Rattle.std.specs.List.{list_any, range_with_len}
use Rattle.std.specs.declared.alloc.AllocError.{AllocError}
use Rattle.doc_tree.specs.Table.{Table}
use Rattle.xp_typed_tree.specs.TypedTree.{TypedTree}
use Rattle.xp_outcome.specs.Evaluation.{Evaluation}
use Rattle.xp_outcome.specs.Recorded.{Recorded, note_all, nothing_read}
use Rattle.xp_values.specs.declared.values.EvalFault.{EvalFault}
use Rattle.xp_values.specs.declared.values.Value.{Value}
use Rattle.cover_laws.specs.Covering.{HeldAlike}
use Rattle.xp_values.specs.declared.values.EvalError.{EvalError}
use Rattle.xp_values.specs.declared.values.EvalError.TheVariants.{Fault, Memory}
use Rattle.xp_watch.specs.declared.kept.Given.{Given}
use Rattle.xp_watch.specs.Costs.{cost_of, has_fault}
use Rattle.xp_watch.specs.Kept.{GoesOn, IsDone, IsRight, Kept, StaysAs, is_stale, stale_watches}
use Rattle.xp_watch.specs.Watched.{all_read, watched}

-- a count rose for one evaluation that may have been cut short
pub record Spent (m : Evaluation EvalFault Value) (before after : ℕ) : Type 0 where
  pub later : before ≤ after
  pub at_most : after ≤ before + m.work

-- a count rose for one evaluation: by its visits at most, and by exactly these where it meets no fault
pub record Took (m : Evaluation EvalFault Value) (before after : ℕ) : Type 0 where
  pub spent : Spent m before after
  pub exactly : (v : Value) → m.answer ≡ Ok v → after ≡ before + m.work

-- an expression was evaluated: its answer, and what it read
pub record Gives (m : Evaluation EvalFault Value) (answer : Result Value EvalFault) (reads : Recorded) : Type 0 where
  pub answer_is : m.answer ≡ answer
  pub reads_are : reads ≡ note_all nothing_read m.reads

-- a watch has a value, and of what it read this is kept
pub record Puts (given : Result Value EvalFault) (k : ℕ) (entry : Option Recorded) (old new : Kept) : Type 0 where
  pub values : new.values ≡ slice_set old.values k (Some given)
  pub reads : new.reads ≡ slice_set old.reads k entry

-- what an evaluation gave whose call ended so: its value or its fault, and what it read; nothing for want of memory
abbrev pub IsGivenBy : Result Value EvalError → Recorded → Result Given AllocError → Type 0
IsGivenBy (Ok v) reads result = result ≡ Ok (record { value = Ok v; reads = reads })
IsGivenBy (Err (Fault f)) reads result = result ≡ Ok (record { value = Err f; reads = reads })
IsGivenBy (Err Memory) reads result = IsErr result

-- what was given is kept, and what was read but for covered cells
pub record KeepsGiven (T : Table) (given : Result Value EvalFault) (reads : Recorded) (k : ℕ) (old new : Kept) : Type 0 where
  pub held : Recorded
  pub alike : HeldAlike T held reads
  pub puts : Puts given k (Some held) old new

-- a stale watch is still stale, and nothing else has changed
pub record IsCut (k : ℕ) (old new : Kept) : Type 0 where
  pub values : length new.values ≡ length old.values
  pub reads : length new.reads ≡ length old.reads
  pub stale : is_stale new k ≡ true
  pub others : (j : ℕ) → j ≢ k → StaysAs old new j

-- a stale watch was evaluated: what it gave is kept, and what it read but for covered cells
pub record Runs (T : Table) (expr : TypedTree) (k : ℕ) (old new : Kept) (before after : ℕ) : Type 0 where
  pub held : Recorded
  pub alike : HeldAlike T held (all_read T expr)
  pub puts : Puts (watched T expr).answer k (Some held) old new
  pub took : Took (watched T expr) before after

-- the evaluation of a stale watch was cut short
pub record Cuts (T : Table) (expr : TypedTree) (k : ℕ) (old new : Kept) (before after : ℕ) : Type 0 where
  pub cut : IsCut k old new
  pub spent : Spent (watched T expr) before after

-- a watch was evaluated where it was stale
pub data Refreshes (T : Table) (expr : TypedTree) (k : ℕ) (old new : Kept) (before after : ℕ) : Type 0 where
  was_run : is_stale old k ≡ true → Runs T expr k old new before after → Refreshes T expr k old new before after
  was_fresh : is_stale old k ≡ false → new ≡ old → after ≡ before → Refreshes T expr k old new before after

-- a stale watch was cut short
pub record Stops (T : Table) (expr : TypedTree) (k : ℕ) (old new : Kept) (before after : ℕ) : Type 0 where
  pub was_stale : is_stale old k ≡ true
  pub cuts : Cuts T expr k old new before after

-- each expression has its places, and what is kept is right
pub record Keeps (T : Table) (exprs : List TypedTree) (kept : Kept) : Type 0 where
  pub values : length kept.values ≡ length exprs
  pub reads : length kept.reads ≡ length exprs
  pub right : IsRight T exprs kept

-- of so many watches from one on the stale ones
abbrev pub stale_from : Kept → ℕ → ℕ → List ℕ
stale_from kept k count = filter (is_stale kept) (range_with_len k count)

-- the refresh has come to a watch, with so many left
pub record Reached (T : Table) (exprs : List TypedTree) (k left : ℕ) (old new : Kept) (before after : ℕ) : Type 0 where
  pub whole : k + left ≡ length exprs
  pub values : length new.values ≡ length exprs
  pub reads : length new.reads ≡ length exprs
  pub done : (j : ℕ) (expr : TypedTree) → j < k → slice_get exprs j ≡ Some expr → IsDone T expr new j
  pub rest : (j : ℕ) → k ≤ j → StaysAs old new j
  pub others : (j : ℕ) → is_stale old j ≡ false → StaysAs old new j
  pub later : before ≤ after
  pub at_most : after + cost_of T exprs (stale_from old k left) ≤ before + cost_of T exprs (stale_from old 0 (length exprs))
  pub exactly : list_any (has_fault T exprs) (stale_from old 0 (length exprs)) ≡ false →
      (list_any (has_fault T exprs) (stale_from old k left) ≡ false)
      × (after + cost_of T exprs (stale_from old k left) ≡ before + cost_of T exprs (stale_from old 0 (length exprs)))

-- the refresh has come to a watch
abbrev pub ReachedAt : Table → List TypedTree → ℕ → Kept → Kept → ℕ → ℕ → Type 0
ReachedAt T exprs k old new before after = (left : ℕ) × Reached T exprs k left old new before after

-- the watches were refreshed up to one of them
pub record WatchesCut (T : Table) (exprs : List TypedTree) (old new : Kept) (before after : ℕ) : Type 0 where
  pub keeps : Keeps T exprs new
  pub goes_on : GoesOn T exprs old new
  pub later : before ≤ after
  pub at_most : after ≤ before + cost_of T exprs (stale_watches old exprs)
