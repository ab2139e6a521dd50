-- The line that tells why a file of watched expressions is refused.
use Rattle.std.specs.Prelude.{ℕ, List, [], ◌++◌, codes}
use Rattle.std.specs.Fmt.{decimal}
use Rattle.xp_grammar.specs.FaultNames.{kind_name as syntax_name}
use Rattle.xp_types.specs.FaultNames.{kind_name as type_name}
use Rattle.xp_types.specs.declared.faults.TypeFault.{TypeFault}
use Rattle.xp_types.specs.declared.faults.TypeKind.{TypeKind}
use Rattle.xp_types.specs.declared.faults.TypeKind.TheVariants.{UnknownFunction, Arity, NodeSetWanted, UnknownVariable, UnknownPrefix, Refused, NumberTooLarge}
use Rattle.watch_lines.specs.declared.fault.WatchFault.{WatchFault}
use Rattle.watch_lines.specs.declared.fault.WatchKind.{WatchKind}
use Rattle.watch_lines.specs.declared.fault.WatchKind.TheVariants.{BadChar, BadWord, BadPrefix, TooLong, TooMany, Syntax, Types}
use Rattle.sch_stops.specs.declared.watches.WatchesRefusal.{WatchesRefusal}
use Rattle.sch_stops.specs.declared.watches.WatchesRefusal.TheVariants.{TooLarge, Faulted}

-- the number of the line that has the fault, counted from 1
unfoldable pub watch_place : ℕ → List ℕ
watch_place line = codes "sch: watch refused: line " ++ (decimal line ++ codes " ")

-- the kind of a fault of an expression, and how many bytes of the expression stand before it
unfoldable pub offset_text : List ℕ → ℕ → List ℕ
offset_text kind offset = kind ++ (codes " " ++ decimal offset)

-- what is refused, where that is the fault, and the end of the line
abbrev pub thing_line : TypeKind → List ℕ
thing_line UnknownFunction = codes "\n"
thing_line Arity = codes "\n"
thing_line NodeSetWanted = codes "\n"
thing_line UnknownVariable = codes "\n"
thing_line UnknownPrefix = codes "\n"
thing_line (Refused thing) = codes " " ++ (thing ++ codes "\n")
thing_line NumberTooLarge = codes "\n"

abbrev pub type_line : TypeFault → List ℕ
type_line fault = offset_text (type_name fault.kind) fault.offset ++ thing_line fault.kind

-- what the fault of a line is, and the end of the line that tells it
abbrev pub kind_line : WatchKind → List ℕ
kind_line BadChar = codes "BadChar\n"
kind_line BadWord = codes "BadWord\n"
kind_line BadPrefix = codes "BadPrefix\n"
kind_line TooLong = codes "TooLong\n"
kind_line TooMany = codes "TooMany\n"
kind_line (Syntax fault) = offset_text (syntax_name fault.kind) fault.offset ++ codes "\n"
kind_line (Types fault) = type_line fault

abbrev pub watch_fault_line : WatchFault → List ℕ
watch_fault_line fault = watch_place fault.line ++ kind_line fault.kind

-- the line of a refused file of watched expressions
abbrev pub watches_refused_line : WatchesRefusal → List ℕ
watches_refused_line TooLarge = codes "sch: watch refused: TooLarge\n"
watches_refused_line (Faulted fault) = watch_fault_line fault
