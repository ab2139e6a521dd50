-- The stages of a run in the order of the work: which files each opens, and how it ends. The first stage that does not go on ends the
-- run.
use Rattle.std.specs.Prelude.{◌≡◌, ℕ, Bool, true, false, List, [], ◌++◌, Option, None, Some}
use Rattle.sch_stops.specs.Output.{Output}

-- how a stage ends: it goes on with a value, or halts the run with its output, or the outside failed at the file of a name
pub data Came (A : Type 0) : Type 0 where
  goes : A → Came A
  halts : Output → Came A
  unread : List ℕ → Came A

-- a stage: the files that it opens, in their order, and how it ends
abbrev pub Stage : Type 0 → Type 1
Stage A = List (List ℕ) → Came A → Type 0

-- the next stage goes on from a value; any other end stays, and nothing more is opened
abbrev pub Onward : {A B : Type 0} → (A → Stage B) → Came A → Stage B
Onward next (goes value) opened came = next value opened came
Onward next (halts output) opened came = (opened ≡ []) × (came ≡ halts output)
Onward next (unread name) opened came = (opened ≡ []) × (came ≡ unread name)

-- two stages one after the other, which open the files of the first and then those of the second
pub record Then {A B : Type 0} (first : Stage A) (next : A → Stage B) (opened : List (List ℕ)) (came : Came B) : Type 0 where
  pub between : Came A
  pub before : List (List ℕ)
  pub after : List (List ℕ)
  pub begins : first before between
  pub goes_on : Onward next between after came
  pub in_order : opened ≡ before ++ after

-- a stage that opens no file, and ends by something of which this holds
abbrev pub By : {A B : Type 0} → (B → Type 0) → (B → Came A) → Stage A
By {B = B} holds came_of opened came = (opened ≡ []) × (found : B) × holds found × (came ≡ came_of found)

-- a stage that opens no file and is decided
abbrev pub Is : {A : Type 0} → Came A → Stage A
Is decided opened came = (opened ≡ []) × (came ≡ decided)

-- on with a value, and a halt where a test passes
abbrev pub halt_if : {A : Type 0} → Bool → Output → A → Came A
halt_if true output value = halts output
halt_if false output value = goes value

-- on with a value, and a halt where there is a fault
abbrev pub halt_at : {A F : Type 0} → Option F → (F → Output) → A → Came A
halt_at (Some fault) output value = halts (output fault)
halt_at None output value = goes value
