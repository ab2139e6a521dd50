-- A name without a prefix is in no namespace.
use Rattle.std.proofs.Common.{rules}
use Rattle.name_scopes.proofs.tag.attribute_namespace.Goals as goal

pub returns-then-is_empty : goal.returns-then-is_empty
returns-then-is_empty c = search rules
