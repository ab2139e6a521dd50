-- The parent's own shape is touched, and so are those above it.
use Rattle.std.proofs.Common.{rules}
use Rattle.edit_commands.proofs.touched.kids_hold.Goals as goal

pub returns-in-Shape : goal.returns-in-Shape
returns-in-Shape c = search rules
