-- What an evaluation gives: its answer or its first fault, what it reads, and its visits. They are the three parts of
-- one definition.
use Rattle.std.specs.Prelude.{ℕ, ◌+◌, List, [], ◌∷◌, ◌++◌, Result, Ok, Err}
use Rattle.doc_tree.specs.cell.Cell.{Cell}
use Rattle.doc_tree.specs.declared.axes.Axis.{Axis}

-- what is read: a cell of a node, the names along an axis from a node, or the let in a slot
pub data Read : Type 0 where
  cell : Cell → Read
  names_along : Axis → ℕ → Read
  variable : ℕ → Read

-- an answer or the first fault, what is read up to it, in order, and the visits up to it
pub record Evaluation (F A : Type 0) : Type 0 where
  pub answer : Result A F
  pub reads : List Read
  pub work : ℕ

-- an answer that nothing is read or visited for
unfoldable pub done : {F A : Type 0} → A → Evaluation F A
done v = record { answer = Ok v; reads = []; work = 0 }

-- a fault
unfoldable pub fault : {F A : Type 0} → F → Evaluation F A
fault f = record { answer = Err f; reads = []; work = 0 }

-- what is computed with no read and no visit
abbrev pub given : {F A : Type 0} → Result A F → Evaluation F A
given (Ok v) = done v
given (Err f) = fault f

-- some reads and visits more, before the rest
unfoldable pub behind : {F A : Type 0} → List Read → ℕ → Evaluation F A → Evaluation F A
behind xs n m = record { answer = m.answer; reads = xs ++ m.reads; work = n + m.work }

-- what follows an answer; nothing follows a fault
abbrev pub follow : {F A B : Type 0} → Result A F → (A → Evaluation F B) → Evaluation F B
follow (Ok v) next = next v
follow (Err f) next = fault f

-- one evaluation and then, with its answer, the next: evaluation stops at the first fault
unfoldable pub bind : {F A B : Type 0} → Evaluation F A → (A → Evaluation F B) → Evaluation F B
bind m next = behind m.reads m.work (follow m.answer next)

-- one visit, and then the rest
unfoldable pub visit : {F A : Type 0} → Evaluation F A → Evaluation F A
visit m = behind [] 1 m

-- so many visits, and then the rest
unfoldable pub visits : {F A : Type 0} → ℕ → Evaluation F A → Evaluation F A
visits n m = behind [] n m

-- one read, and then the rest
unfoldable pub reading : {F A : Type 0} → Read → Evaluation F A → Evaluation F A
reading x m = behind (x ∷ []) 0 m

-- some reads, and then the rest
unfoldable pub all_reading : {F A : Type 0} → List Read → Evaluation F A → Evaluation F A
all_reading xs m = behind xs 0 m

-- each item in turn, by its place, with the pieces of the answers joined; the first item has the place i
abbrev pub gather : {F X A B : Type 0} → (ℕ → X → Evaluation F A) → (ℕ → X → A → List B) → ℕ → List X → Evaluation F (List B)
gather act piece i [] = done []
gather act piece i (x ∷ xs) = bind (act i x) (λ v. bind (gather act piece (i + 1) xs) (λ rest. done (piece i x v ++ rest)))
