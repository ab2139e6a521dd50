-- Ids as the program keeps them.
use Rattle.std.specs.Prelude.{ℕ, List, Option, String}
use Rattle.std.specs.Map.{lookup}
use Rattle.std.specs.Str.{bytes_eq}
use Rattle.std.specs.String.{string_bytes}
use Rattle.std.specs.declared.alloc.Global.{Global}
use Rattle.sch_model.specs.declared.parts.Diagnostic.{Diagnostic}
use Rattle.sch_plan.specs.declared.ids.NoteLists.{NoteLists}
use Rattle.sch_plan.specs.declared.ids.NotesById.{NotesById}
use Rattle.sch_plan.specs.Rules.{Notes, notes_of}

-- the diagnostic, or the property, of an id
abbrev pub found_in : List (String Global × Diagnostic) → List ℕ → Option Diagnostic
found_in entries id = lookup (λ k. bytes_eq id (string_bytes k)) entries

-- those that are kept, and those of lists
abbrev pub kept_in : NotesById → Notes
kept_in notes = record { diagnostic = found_in notes.diagnostics.entries; property = found_in notes.properties.entries }

abbrev pub listed_in : NoteLists → Notes
listed_in notes = notes_of notes.diagnostics notes.properties
