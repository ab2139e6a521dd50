-- How far the files that were opened were read.
use Rattle.std.specs.Prelude.{◌≡◌, ◌⊎◌, ℕ, List, [], ◌∷◌, ◌++◌}
use Rattle.sch_io.specs.ShelfState.{ShelfState}

-- which of the opened files were read to their end and no further: all, or all but the one that was opened last, or one of both
pub data Extent : Type 0 where
  all_files : Extent
  all_but_last : Extent
  all_or_but_last : Extent

-- the names of the files that were opened, and of those whose end was told, both in their order: each end is told once
abbrev pub IsReadThrough : Extent → List (List ℕ) → List (List ℕ) → Type 0
IsReadThrough all_files opened ended = ended ≡ opened
IsReadThrough all_but_last opened ended = (last : List ℕ) × (opened ≡ ended ++ last ∷ [])
IsReadThrough all_or_but_last opened ended = (ended ≡ opened) ⊎ ((last : List ℕ) × (opened ≡ ended ++ last ∷ []))

-- the files that were opened from one state of a shelf to another were read so far
pub record ReadsThrough (extent : Extent) (old new : ShelfState) : Type 0 where
  pub opened : List (List ℕ)
  pub noted : new.opened ≡ old.opened ++ opened
  pub ended : List (List ℕ)
  pub told : new.ends ≡ old.ends ++ ended
  pub far : IsReadThrough extent opened ended
