-- How a run of code stands to the outcome that it computes: what it answers, what it has recorded, and how many steps
-- it has counted.
use Rattle.std.specs.Prelude.{◌≡◌, ℕ, ◌+◌, ◌≤◌, List, ◌++◌, Result, Ok, Err}
use Rattle.xp_outcome.specs.Evaluation.{Read, Evaluation}
use Rattle.xp_outcome.specs.Recorded.{Recorded, note_all}

-- why a run stopped before its answer: at a fault, or for want of memory
pub data Stop (F : Type 0) : Type 0 where
  faulted : F → Stop F
  no_memory : Stop F

-- the run answered: the answer and the reads are those of the outcome, and the steps rose by its work
pub record Answered {F A : Type 0} (m : Evaluation F A) (v : A) (held now : Recorded) (before after : ℕ) : Type 0 where
  pub answer : m.answer ≡ Ok v
  pub reads : now ≡ note_all held m.reads
  pub steps : after ≡ before + m.work

-- the run met a fault: it is the outcome's, and so are the reads; the steps rose by its work at most
pub record Faulted {F A : Type 0} (m : Evaluation F A) (f : F) (held now : Recorded) (before after : ℕ) : Type 0 where
  pub answer : m.answer ≡ Err f
  pub reads : now ≡ note_all held m.reads
  pub later : before ≤ after
  pub steps : after ≤ before + m.work

-- the run ended early: it recorded the first of the reads, and the steps rose by the work at most
pub record CutShort {F A : Type 0} (m : Evaluation F A) (held now : Recorded) (before after : ℕ) : Type 0 where
  pub recorded : List Read
  pub unread : List Read
  pub reads : m.reads ≡ recorded ++ unread
  pub first : now ≡ note_all held recorded
  pub later : before ≤ after
  pub steps : after ≤ before + m.work

abbrev pub Computes : {F A : Type 0} → Evaluation F A → Result A (Stop F) → Recorded → Recorded → ℕ → ℕ → Type 0
Computes m (Ok v) held now before after = Answered m v held now before after
Computes m (Err (faulted f)) held now before after = Faulted m f held now before after
Computes m (Err no_memory) held now before after = CutShort m held now before after

-- a run from the recorder `held` and the count `before` ended with the result, the recorder `now` and the count `after`
pub record Ran {F A : Type 0} (m : Evaluation F A) (result : Result A (Stop F)) (held now : Recorded) (before after : ℕ) : Type 0 where
  pub computes : Computes m result held now before after

-- a run of m that has come so far that the rest of it is a run of `rest`: whoever does the rest has done the whole
pub record Onto {F A : Type 0} (m : Evaluation F A) (held : Recorded) (before : ℕ) (rest : Evaluation F A) (now : Recorded) (after : ℕ) : Type 0 where
  pub go : (result : Result A (Stop F)) (last : Recorded) (end : ℕ) → Ran rest result now last after end → Ran m result held last before end
