-- The node that a path names, from the root of a tree.
use Rattle.std.specs.Prelude.{ℕ, ◌-◌, List, [], ◌∷◌, Option, None, Some, filter, slice_get}
use Rattle.doc_tree.specs.kind.Kind.{Kind}
use Rattle.doc_tree.specs.Kinds.{is_kind}
use Rattle.doc_tree.specs.Table.{Table, kids_of, kind_of}
use Rattle.edit_script.specs.declared.command.PathStep.{PathStep}

-- the kids of a node that are of a kind
abbrev pub kids_of_kind : Table → ℕ → Kind → List ℕ
kids_of_kind T n kind = filter (λ k. is_kind kind (kind_of T k)) (kids_of T n)

-- from a node to where a path leads from there; a step counts the kids of its kind from 1
abbrev pub led_from : Table → Option ℕ → List PathStep → Option ℕ
led_from T None steps = None
led_from T (Some n) [] = Some n
led_from T (Some n) (step ∷ steps) = led_from T (slice_get (kids_of_kind T n step.kind) (step.index - 1)) steps

-- the node that a path names; None where it names none
abbrev pub node_named : Table → List PathStep → Option ℕ
node_named T path = led_from T (Some 0) path
