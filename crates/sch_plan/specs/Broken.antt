-- The rules that the walk tests, each with the element where it is broken and the name that is told.
use Rattle.std.specs.Prelude.{ℕ, List, ◌++◌, Option, None, Some, codes}
use Rattle.std.specs.Fmt.{decimal}
use Rattle.sch_model.specs.declared.fault.SchemaFault.{SchemaFault}
use Rattle.xp_grammar.specs.declared.fault.SyntaxKind.{SyntaxKind}
use Rattle.xp_grammar.specs.FaultNames as syntax
use Rattle.xp_types.specs.declared.faults.TypeKind.{TypeKind}
use Rattle.xp_types.specs.declared.faults.TypeKind.TheVariants.{UnknownFunction, Arity, NodeSetWanted, UnknownVariable, UnknownPrefix, Refused, NumberTooLarge}
use Rattle.xp_types.specs.declared.faults.TypeFault.{TypeFault}
use Rattle.xp_types.specs.FaultNames as types

abbrev pub broken : ℕ → ℕ → List ℕ → SchemaFault
broken rule node name = record { rule = rule; node = node; name = name }

-- 21: too many patterns are active
abbrev pub too_many_patterns : ℕ → SchemaFault
too_many_patterns node = broken 21 node (codes "1024")

-- 22: a let's name is there already
abbrev pub second_let : ℕ → List ℕ → SchemaFault
second_let node name = broken 22 node name

-- 23: an expression is too long
abbrev pub too_long : ℕ → SchemaFault
too_long node = broken 23 node (codes "65536")

-- a kind of fault, its offset, and the thing that is refused where there is one
abbrev pub place_name : List ℕ → ℕ → Option (List ℕ) → List ℕ
place_name kind offset None = kind ++ (codes " " ++ decimal offset)
place_name kind offset (Some thing) = kind ++ (codes " " ++ (decimal offset ++ (codes " " ++ thing)))

-- 24: a text is no expression, or no match pattern
abbrev pub syntax_fault : ℕ → SyntaxKind → ℕ → SchemaFault
syntax_fault node kind offset = broken 24 node (place_name (syntax.kind_name kind) offset None)

-- 25 to 31: an expression has no type
abbrev pub rule_of : TypeKind → ℕ
rule_of UnknownFunction = 25
rule_of Arity = 26
rule_of NodeSetWanted = 27
rule_of UnknownVariable = 28
rule_of UnknownPrefix = 29
rule_of (Refused thing) = 30
rule_of NumberTooLarge = 31

abbrev pub thing_of : TypeKind → Option (List ℕ)
thing_of (Refused thing) = Some thing
thing_of _ = None

abbrev pub type_fault : ℕ → TypeFault → SchemaFault
type_fault node f = broken (rule_of f.kind) node (place_name (types.kind_name f.kind) f.offset (thing_of f.kind))

-- 27 too: the path of a name, or a subject, is no node-set
abbrev pub no_path : ℕ → SchemaFault
no_path node = broken 27 node (codes "NodeSetWanted 0")
