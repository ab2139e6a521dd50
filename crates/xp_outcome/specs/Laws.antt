-- Laws of outcomes, of runs and of slots.
use Rattle.std.specs.Prelude.{◌≡◌, ◌≢◌, ℕ, ◌+◌, ◌<◌, ◌≤◌, List, ◌++◌, length, Result, Ok, Err, Option, Some, None}
use Rattle.xp_outcome.specs.Evaluation.{Read, Evaluation, done, fault, bind, visit, reading, gather}
use Rattle.xp_outcome.specs.Recorded.{Recorded, note}
use Rattle.xp_outcome.specs.Running.{Stop, Ran}
use Rattle.xp_outcome.specs.Slots.{in_slot, with_slot, slots_below, IsTrimmed}

-- nothing before or after changes nothing, a fault ends all, and how evaluations are bracketed doesn't matter
pub record OutcomesCompose (F A B C : Type 0) : Type 0 where
  pub nothing_before : (v : A) (next : A → Evaluation F B) → bind (done v) next ≡ next v
  pub nothing_after : (m : Evaluation F A) → bind m done ≡ m
  pub fault_ends : (f : F) (next : A → Evaluation F B) → bind (fault f) next ≡ fault f
  pub brackets : (m : Evaluation F A) (next : A → Evaluation F B) (last : B → Evaluation F C) → bind (bind m next) last ≡ bind m (λ v. bind (next v) last)

-- what two lists give one after the other is gathered from the first and then from the second, in its places
abbrev pub GatherInParts : Type 0 → Type 0 → Type 0 → Type 0 → Type 0
GatherInParts F X A B =
    (act : ℕ → X → Evaluation F A) (piece : ℕ → X → A → List B) (i : ℕ) (xs ys : List X) →
    gather act piece i (xs ++ ys) ≡ bind (gather act piece i xs) (λ front. bind (gather act piece (i + length xs) ys) (λ back. done (front ++ back)))

-- the run of a part that answered and then a run of the rest make a run of both; where the part stopped, so did both
pub record RunsCompose (F A B : Type 0) : Type 0 where
  pub nothing : (v : A) (held : Recorded) (n : ℕ) → Ran {F = F} (done v) (Ok v) held held n n
  pub then : (m : Evaluation F A) (next : A → Evaluation F B) (v : A) (r : Result B (Stop F)) (held between now : Recorded) (before mid after : ℕ) →
      Ran m (Ok v) held between before mid → Ran (next v) r between now mid after → Ran (bind m next) r held now before after
  pub stopped : (m : Evaluation F A) (next : A → Evaluation F B) (e : Stop F) (held now : Recorded) (before after : ℕ) →
      Ran m (Err e) held now before after → Ran (bind m next) (Err e) held now before after
  pub visited : (m : Evaluation F A) (r : Result A (Stop F)) (held now : Recorded) (before after : ℕ) →
      Ran m r held now (before + 1) after → Ran (visit m) r held now before after
  pub recorded : (x : Read) (m : Evaluation F A) (r : Result A (Stop F)) (held now : Recorded) (before after : ℕ) →
      Ran m r (note held x) now before after → Ran (reading x m) r held now before after

-- a slot holds what was put there last, and nothing once it was cut; the others stay. A cut gives the slots back as
-- they were before those at and past it were set.
pub record SlotsKeep (V : Type 0) : Type 0 where
  pub put : (slots : List (Option V)) (slot : ℕ) (v : V) → in_slot (with_slot slots slot v) slot ≡ Some v
  pub others : (slots : List (Option V)) (slot other : ℕ) (v : V) → other ≢ slot → in_slot (with_slot slots slot v) other ≡ in_slot slots other
  pub kept : (slots : List (Option V)) (slot len : ℕ) → slot < len → in_slot (slots_below len slots) slot ≡ in_slot slots slot
  pub cut : (slots : List (Option V)) (slot len : ℕ) → len ≤ slot → in_slot (slots_below len slots) slot ≡ None
  pub undone : (slots : List (Option V)) (slot len : ℕ) (v : V) → len ≤ slot → slots_below len (with_slot slots slot v) ≡ slots_below len slots
  pub whole : (slots : List (Option V)) (len : ℕ) → IsTrimmed slots → length slots ≤ len → slots_below len slots ≡ slots
