-- What is answered of the rest of an open file, where the shelf tells it.
use Rattle.std.proofs.Common.{◌≡◌, ℕ, ◌+◌, ◌<◌, ◌≤◌, List, ◌++◌, length, take, Option, None, Some, Ok, Err, ap, ◌∙◌, arith, append-nil, length-append}
use Rattle.std.specs.Io.KnownBytes.{Consumes, IsAtEnd}
use Rattle.sch_io.specs.declared.error.ReadError.TheVariants.{Failed, TooLarge, Memory}
use Rattle.sch_io.specs.declared.reading.TheConstants.{MAX_FILE_BYTES}
use Rattle.sch_io.specs.Reading.{ReadsRest}

-- these causes show in no file
pub told_failed : (rest : Option (List ℕ)) → ReadsRest rest (Err Failed)
told_failed None = tt
told_failed (Some bytes) = tt

pub told_memory : (rest : Option (List ℕ)) → ReadsRest rest (Err Memory)
told_memory None = tt
told_memory (Some bytes) = tt

-- all bytes were read, and a last read gave none
pub told_whole : (rest left new : Option (List ℕ)) (bytes buf : List ℕ) (n : ℕ) → n ≡ 0 → Consumes rest left bytes →
    Consumes left new (take n buf) → IsAtEnd new → length bytes ≤ MAX_FILE_BYTES → ReadsRest rest (Ok bytes)
told_whole None left new bytes buf n none given more ends within = tt
told_whole (Some xs) None new bytes buf n none given more ends within = absurd given
told_whole (Some xs) (Some ys) None bytes buf n none given more ends within = absurd more
told_whole (Some xs) (Some ys) (Some zs) bytes buf n none given more ends within =
    (given ∙ (ap (λ l. bytes ++ l) ((rw none at more) ∙ ends) ∙ append-nil bytes), within)

-- a read gave more than there is room for
pub told_large : (rest left new : Option (List ℕ)) (bytes piece : List ℕ) → Consumes rest left bytes →
    Consumes left new piece → MAX_FILE_BYTES < length bytes + length piece → ReadsRest rest (Err TooLarge)
told_large None left new bytes piece given more large = tt
told_large (Some xs) None new bytes piece given more large = absurd given
told_large (Some xs) (Some ys) None bytes piece given more large = absurd more
told_large (Some xs) (Some ys) (Some zs) bytes piece given more large =
    omega (arith, ap length given, ap length more, length-append bytes ys, length-append piece zs)
