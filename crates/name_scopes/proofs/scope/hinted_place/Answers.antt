-- The word with the number is the prefix.
use Rattle.std.proofs.Common.{[], get_or, sym}
use Rattle.std.proofs.lemmas.Slice.Eq.{bytes_eq-Decides}
use Rattle.name_scopes.proofs.scope.hinted_place.Goals as goal

pub returns-then-eq : goal.returns-then-eq
returns-then-eq c =
    ((bytes_eq-Decides (get_or c.args.prefixes.now c.args.number []) c.args.prefix.now).0 (sym (rw c.word.ensures at c.if-eq.ensures)), sym c.in_ok-place.ensures)
