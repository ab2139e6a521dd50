-- Paths, and numbers of places, as a script writes them.
use Rattle.std.specs.Prelude.{ℕ, Bool, ◌&&◌, ◌==◌, if◌then◌else◌, List, [], ◌∷◌, Option, None, Some, codes}
use Rattle.std.specs.List.{list_any, before_first, after_first, slice_split}
use Rattle.sch_base.specs.Lists.{is_nil}
use Rattle.sch_base.specs.Characters.{is_slash}
use Rattle.sch_base.specs.Named.{named}
use Rattle.sch_base.specs.Numbers.{number_up_to}
use Rattle.doc_tree.specs.kind.Kind.{Kind}
use Rattle.doc_tree.specs.kind.Kind.TheVariants as kinds
use Rattle.edit_script.specs.declared.command.PathStep.{PathStep}
use Rattle.edit_script.specs.declared.limits.TheConstants.{MAX_PLACE}

-- `[`
abbrev pub is_open : ℕ → Bool
is_open b = b == 91

-- `]`
abbrev pub is_close : ℕ → Bool
is_close b = b == 93

-- the number of a place
abbrev pub number_of : List ℕ → Option ℕ
number_of text = number_up_to MAX_PLACE text

-- how a step names a kind
abbrev pub step_names : List (List ℕ × Kind)
step_names = (codes "*", kinds.Element)
    ∷ (codes "text()", kinds.Text)
    ∷ (codes "comment()", kinds.Comment)
    ∷ (codes "processing-instruction()", kinds.Pi)
    ∷ []

-- the kind with a name; None where there is none
unfoldable pub kind_of : List ℕ → Option Kind
kind_of name = named step_names name

-- a number and a `]`, behind which nothing stands
abbrev pub bracketed : List ℕ → Option ℕ
bracketed text =
    if list_any is_close text && is_nil (after_first is_close text) then number_of (before_first is_close text) else None

-- a step of a kind and a place, where both are there
abbrev pub step_with : Option Kind → Option ℕ → Option PathStep
step_with (Some kind) (Some index) = Some (record { kind = kind; index = index })
step_with (Some kind) None = None
step_with None index = None

-- a step: `*[k]`, `text()[k]`, `comment()[k]` or `processing-instruction()[k]`
abbrev pub step_of : List ℕ → Option PathStep
step_of text =
    if list_any is_open text then step_with (kind_of (before_first is_open text)) (bracketed (after_first is_open text)) else None

-- a step in front of others, where all are there
abbrev pub onto_steps : Option PathStep → Option (List PathStep) → Option (List PathStep)
onto_steps (Some step) (Some steps) = Some (step ∷ steps)
onto_steps (Some step) None = None
onto_steps None steps = None

-- the steps that the texts are; None where one is none
abbrev pub steps_of : List (List ℕ) → Option (List PathStep)
steps_of [] = Some []
steps_of (text ∷ texts) = onto_steps (step_of text) (steps_of texts)

-- what stands behind the first `/`: nothing for the root, or steps parted by `/`
abbrev pub steps_behind : List ℕ → Option (List PathStep)
steps_behind [] = Some []
steps_behind (b ∷ text) = steps_of (slice_split is_slash (b ∷ text))

-- a path: `/` for the root, or steps with a `/` in front of each
abbrev pub path_of : List ℕ → Option (List PathStep)
path_of [] = None
path_of (b ∷ text) = if is_slash b then steps_behind text else None
