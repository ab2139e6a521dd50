-- The faults of a parser that stopped.
use Rattle.std.specs.Prelude.{ℕ, Bool, true, false, List, [], ◌∷◌, Result, Ok, Err}
use Rattle.xp_grammar.specs.declared.token.Placed.{Placed}
use Rattle.xp_grammar.specs.declared.fault.SyntaxFault.{SyntaxFault}
use Rattle.xp_grammar.specs.declared.fault.SyntaxKind.TheVariants as kind
use Rattle.xp_grammar.specs.Parts.{offset_at}
use Rattle.xp_parse.specs.declared.stop.Stop.{Stop}
use Rattle.xp_parse.specs.declared.stop.Stop.TheVariants as stop
use Rattle.xp_parse.specs.declared.error.ParseError.{ParseError}
use Rattle.xp_parse.specs.declared.error.ParseError.TheVariants as error
use Rattle.xp_parse.specs.inner.Parsing.{IsNoMemory}

-- the fault where the tokens end: at the end of the text, or where no token can be read
abbrev pub at_end_fault : Bool → ℕ → SyntaxFault
at_end_fault true end = record { kind = kind.Unexpected; offset = end }
at_end_fault false end = record { kind = kind.BadToken; offset = end }

-- the fault of a parser that stopped at these tokens
abbrev pub stopped_fault : Stop → List Placed → Bool → ℕ → ParseError
stopped_fault stop.Memory rest whole end = error.Memory
stopped_fault stop.TooNested rest whole end = error.Fault (record { kind = kind.TooNested; offset = offset_at rest })
stopped_fault stop.Unexpected [] whole end = error.Fault (at_end_fault whole end)
stopped_fault stop.Unexpected (p ∷ s) whole end = error.Fault (record { kind = kind.Unexpected; offset = p.offset })

-- what comes of a parser's answer, where these tokens are left
abbrev pub finished : {T : Type 0} → Result T Stop → List Placed → Bool → ℕ → Result T ParseError
finished (Err why) rest whole end = Err (stopped_fault why rest whole end)
finished (Ok part) [] true end = Ok part
finished (Ok part) [] false end = Err (stopped_fault stop.Unexpected [] false end)
finished (Ok part) (p ∷ s) whole end = Err (stopped_fault stop.Unexpected (p ∷ s) whole end)

abbrev pub OnlyIfNoMemory : Stop → Type 0 → Type 0
OnlyIfNoMemory why P = IsNoMemory why → P
