-- The names of the kinds of syntax faults.
use Rattle.std.specs.Prelude.{ℕ, List, codes}
use Rattle.xp_grammar.specs.declared.fault.SyntaxKind.{SyntaxKind}
use Rattle.xp_grammar.specs.declared.fault.SyntaxKind.TheVariants.{BadToken, Unexpected, TooNested}

abbrev pub kind_name : SyntaxKind → List ℕ
kind_name BadToken = codes "BadToken"
kind_name Unexpected = codes "Unexpected"
kind_name TooNested = codes "TooNested"
