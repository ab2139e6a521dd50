-- What is kept of watches: what each gave and read when it was last evaluated, by its number. Of a stale watch no read is kept.
use Rattle.std.specs.Prelude.{◌≡◌, ℕ, ◌⊎◌, Bool, true, false, ◌||◌, is_none, if◌then◌else◌, List, filter, Option, None, Some, Result, slice_get, slice_index_or}
use Rattle.doc_tree.specs.cell.Cell.{Cell}
use Rattle.doc_tree.specs.Table.{Table}
use Rattle.xp_typed_tree.specs.TypedTree.{TypedTree}
use Rattle.xp_outcome.specs.Recorded.{Recorded}
use Rattle.xp_values.specs.declared.values.EvalFault.{EvalFault}
use Rattle.xp_values.specs.declared.values.Value.{Value}
use Rattle.cover_laws.specs.Covering.{HeldAlike}
use Rattle.kept_reads.specs.Marking.{reads_touched}
use Rattle.kept_reads.specs.Reads.{reads_at}
use Rattle.xp_watch.specs.Watched.{all_read, watched, watches_of}

pub record Kept : Type 0 where
  pub values : List (Option (Result Value EvalFault))
  pub reads : List (Option Recorded)

-- what a watch gave when it was last evaluated
abbrev pub given_by : Kept → ℕ → Option (Result Value EvalFault)
given_by kept k = slice_index_or kept.values k None

abbrev pub is_stale : Kept → ℕ → Bool
is_stale kept k = is_none (reads_at kept.reads k)

-- the stale ones of the watches
abbrev pub stale_watches : Kept → List TypedTree → List ℕ
stale_watches kept exprs = filter (is_stale kept) (watches_of exprs)

-- what a watch gave, where it isn't stale
abbrev pub value_of : Kept → ℕ → Option (Result Value EvalFault)
value_of kept k = if is_stale kept k then None else given_by kept k

-- a watch isn't stale: it gave what it does over the tree, and what is kept is alike to what it reads there
pub record IsDone (T : Table) (expr : TypedTree) (kept : Kept) (k : ℕ) : Type 0 where
  pub gave : given_by kept k ≡ Some (watched T expr).answer
  pub held : Recorded
  pub is : reads_at kept.reads k ≡ Some held
  pub alike : HeldAlike T held (all_read T expr)

-- all watches are done
abbrev pub IsFresh : Table → List TypedTree → Kept → Type 0
IsFresh T exprs kept = (k : ℕ) (expr : TypedTree) → slice_get exprs k ≡ Some expr → IsDone T expr kept k

-- each watch that isn't stale is done
abbrev pub IsRight : Table → List TypedTree → Kept → Type 0
IsRight T exprs kept = (k : ℕ) (expr : TypedTree) → slice_get exprs k ≡ Some expr → is_stale kept k ≡ false → IsDone T expr kept k

-- all that is kept of a watch is the same as before
pub record StaysAs (old new : Kept) (k : ℕ) : Type 0 where
  pub given : given_by new k ≡ given_by old k
  pub reads : reads_at new.reads k ≡ reads_at old.reads k

-- once cells were touched those are stale that were so before, or of which something kept was touched, as a tree tells; nothing else changes
pub record Marks (T : Table) (touched : Cell → Bool) (old new : Kept) : Type 0 where
  pub stale : (k : ℕ) → is_stale new k ≡ (is_stale old k || reads_touched T touched (reads_at old.reads k))
  pub values : new.values ≡ old.values
  pub reads : (k : ℕ) → is_stale new k ≡ false → reads_at new.reads k ≡ reads_at old.reads k

-- wherever a refresh stops, of the stale watches each is done, or still stale; the others are as they were
pub record GoesOn (T : Table) (exprs : List TypedTree) (old new : Kept) : Type 0 where
  pub some : (k : ℕ) (expr : TypedTree) → slice_get exprs k ≡ Some expr → is_stale old k ≡ true → IsDone T expr new k ⊎ (is_stale new k ≡ true)
  pub others : (k : ℕ) → is_stale old k ≡ false → StaysAs old new k
