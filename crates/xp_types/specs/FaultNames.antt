-- The names of the kinds of faults.
use Rattle.std.specs.Prelude.{ℕ, List, codes}
use Rattle.xp_types.specs.declared.faults.TypeKind.{TypeKind}
use Rattle.xp_types.specs.declared.faults.TypeKind.TheVariants.{UnknownFunction, Arity, NodeSetWanted, UnknownVariable, UnknownPrefix, Refused, NumberTooLarge}

abbrev pub kind_name : TypeKind → List ℕ
kind_name UnknownFunction = codes "UnknownFunction"
kind_name Arity = codes "Arity"
kind_name NodeSetWanted = codes "NodeSetWanted"
kind_name UnknownVariable = codes "UnknownVariable"
kind_name UnknownPrefix = codes "UnknownPrefix"
kind_name (Refused thing) = codes "Refused"
kind_name NumberTooLarge = codes "NumberTooLarge"
