-- What a check of the code gives: a value, or the first fault.
use Rattle.std.specs.Prelude.{◌≡◌, ℕ, Result, Ok, Err}
use Rattle.xp_types.specs.declared.faults.TypeKind.{TypeKind}
use Rattle.xp_types.specs.declared.faults.TypeFault.{TypeFault}
use Rattle.xp_types.specs.declared.faults.CheckError.{CheckError}
use Rattle.xp_types.specs.declared.faults.CheckError.TheVariants as errors

abbrev pub Checked : Type 0 → Type 0
Checked A = Result A TypeFault

-- what comes next is checked where nothing before it is at fault
unfoldable pub after : {A B : Type 0} → Checked A → (A → Checked B) → Checked B
after (Ok a) next = next a
after (Err fault) next = Err fault

abbrev pub fault : {A : Type 0} → TypeKind → ℕ → Checked A
fault kind offset = Err (record { kind = kind; offset = offset })

abbrev pub ChecksCases : {A B : Type 0} → Checked A → (B → A) → Result B CheckError → Type 0
ChecksCases meant seen (Ok b) = meant ≡ Ok (seen b)
ChecksCases meant seen (Err (errors.Fault fault)) = meant ≡ Err fault
ChecksCases meant seen (Err errors.Memory) = Unit {0}

-- a call gave what is meant: the value, or the first fault; only want of memory is free
pub record ChecksAs {A B : Type 0} (meant : Checked A) (seen : B → A) (result : Result B CheckError) : Type 0 where
  pub given : ChecksCases meant seen result

-- an error tells of the fault, where it doesn't tell of want of memory
abbrev pub Tells : TypeKind → ℕ → CheckError → Type 0
Tells kind offset (errors.Fault fault) = fault ≡ record { kind = kind; offset = offset }
Tells kind offset errors.Memory = Unit {0}
