-- What a method answers that changes what is seen: what is seen now, and the value.
use Rattle.std.specs.Prelude.{Result, Ok, Err}

abbrev pub moved : {S A E : Type 0} → S → Result A E → Result (S × A) E
moved now (Ok a) = Ok (now, a)
moved now (Err e) = Err e
