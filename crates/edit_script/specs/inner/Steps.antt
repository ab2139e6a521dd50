-- Steps that are read one after another.
use Rattle.std.specs.Prelude.{Bool, true, false, List, ◌++◌, Option, None, Some}
use Rattle.edit_script.specs.declared.command.PathStep.{PathStep}

-- steps that were read, in front of those that are left
abbrev pub before_steps : List PathStep → Option (List PathStep) → Option (List PathStep)
before_steps read None = None
before_steps read (Some steps) = Some (read ++ steps)

-- the steps that a call left, where it says that they are some
abbrev pub steps_if : Bool → List PathStep → Option (List PathStep)
steps_if true steps = Some steps
steps_if false steps = None
