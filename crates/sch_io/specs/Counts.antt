-- Counts of failures and of bytes, as a u64 carries them.
use Rattle.std.specs.Prelude.{◌≡◌, ℕ, ◌+◌, ◌-◌, ◌^◌, ◌≤◌, max, min, Result, Ok, Err, MatchResult}
use Rattle.sch_io.specs.declared.error.OpenError.{OpenError}
use Rattle.sch_io.specs.declared.error.OpenError.TheVariants.{Missing as NotHeld, Failed as NotOpened}
use Rattle.sch_io.specs.declared.error.ReadError.{ReadError}
use Rattle.sch_io.specs.declared.error.ReadError.TheVariants.{Missing, Failed, TooLarge, Memory}

-- one more, as far as a u64 counts: a count that rises stands still at the last value and never falls
unfoldable pub one_more : ℕ → ℕ
one_more before = max before (min (before + 1) (2 ^ 64 - 1))

-- the count is greater now, or stands at the last value of a u64
abbrev pub Rose : ℕ → ℕ → Type 0
Rose before now = min (before + 1) (2 ^ 64 - 1) ≤ now

-- a call that failed adds one to the faults, and a good one none
abbrev pub faults_after : {T E : Type 0} → Result T E → ℕ → ℕ
faults_after (Ok done) before = before
faults_after (Err failed) before = one_more before

-- opening a file adds one to the faults where the host failed
abbrev pub faults_of_open : {T : Type 0} → Result T OpenError → ℕ → ℕ
faults_of_open (Ok done) before = before
faults_of_open (Err NotHeld) before = before
faults_of_open (Err NotOpened) before = one_more before

-- opening a file adds one to the misses where the name wasn't held
abbrev pub misses_of_open : {T : Type 0} → Result T OpenError → ℕ → ℕ
misses_of_open (Ok done) before = before
misses_of_open (Err NotHeld) before = one_more before
misses_of_open (Err NotOpened) before = before

-- reading a file whole adds one to the faults where the host failed
abbrev pub faults_of_reading : {T : Type 0} → Result T ReadError → ℕ → ℕ
faults_of_reading (Ok bytes) before = before
faults_of_reading (Err Missing) before = before
faults_of_reading (Err Failed) before = one_more before
faults_of_reading (Err TooLarge) before = before
faults_of_reading (Err Memory) before = before

-- reading a file whole adds one to the misses where the name wasn't held
abbrev pub misses_of_reading : {T : Type 0} → Result T ReadError → ℕ → ℕ
misses_of_reading (Ok bytes) before = before
misses_of_reading (Err Missing) before = one_more before
misses_of_reading (Err Failed) before = before
misses_of_reading (Err TooLarge) before = before
misses_of_reading (Err Memory) before = before

-- a read that gave n bytes adds n to the bytes taken, and one that failed adds none
abbrev pub CountsTaken : {E : Type 0} → ℕ → ℕ → Result ℕ E → Type 0
CountsTaken before now result = MatchResult result (λ n. now ≡ min (before + n) (2 ^ 64 - 1)) (λ _. now ≡ before)
