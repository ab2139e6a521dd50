-- What holds of each command of a script.
use Rattle.std.specs.Prelude.{◌≡◌, ℕ, ◌≤◌, Bool, true, false, List, sum_by, None, All}
use Rattle.pyx_core.specs.declared.event.Event.{Event}
use Rattle.pyx_core.specs.Nesting.{is_name, of_chars}
use Rattle.doc_tree.specs.kind.Kind.{Kind}
use Rattle.doc_tree.specs.kind.Kind.TheVariants as kinds
use Rattle.name_scopes.specs.Fragments.{IsFragment, names_fault, plain_text}
use Rattle.edit_script.specs.declared.command.Command.{Command}
use Rattle.edit_script.specs.declared.command.Command.TheVariants.{Insert, Delete, SetText, SetAttr, UnsetAttr, Rename, RenameAttr}
use Rattle.edit_script.specs.declared.command.PathStep.{PathStep}
use Rattle.edit_script.specs.declared.limits.TheConstants.{MAX_PLACE, MAX_SCRIPT_BYTES}

-- the kinds of kids
abbrev pub is_kid : Kind → Bool
is_kid kinds.Root = false
is_kid kinds.Element = true
is_kid kinds.Attribute = false
is_kid kinds.Text = true
is_kid kinds.Comment = true
is_kid kinds.Pi = true

-- the number of a place
pub record IsPlace (number : ℕ) : Type 0 where
  pub low : 1 ≤ number
  pub high : number ≤ MAX_PLACE

-- a step to a kid
pub record IsStep (step : PathStep) : Type 0 where
  pub kind : is_kid step.kind ≡ true
  pub place : IsPlace step.index

-- the steps of a path
abbrev pub IsPath : List PathStep → Type 0
IsPath path = All IsStep path

-- a fragment whose names break no rule, and whose text is no longer than a script
pub record IsPiece (events : List Event) : Type 0 where
  pub fragment : IsFragment events
  pub names : names_fault events ≡ None
  pub short : sum_by plain_text events ≤ MAX_SCRIPT_BYTES

-- a text made of Chars (XML 1.0, section 2.2)
abbrev pub IsText : List ℕ → Type 0
IsText text = of_chars text ≡ true

-- a QName (Namespaces in XML 1.0, section 4)
abbrev pub IsName : List ℕ → Type 0
IsName name = is_name name ≡ true

-- a command that a script can hold
abbrev pub WellFormedCommand : Command → Type 0
WellFormedCommand (Insert path at piece) = IsPath path × IsPlace at × IsPiece piece
WellFormedCommand (Delete path) = IsPath path
WellFormedCommand (SetText path text) = IsPath path × IsText text
WellFormedCommand (SetAttr path name value) = IsPath path × IsName name × IsText value
WellFormedCommand (UnsetAttr path name) = IsPath path × IsName name
WellFormedCommand (Rename path name) = IsPath path × IsName name
WellFormedCommand (RenameAttr path old name) = IsPath path × IsName old × IsName name
