-- The shelf on which the texts of `measure N` stand.
use Rattle.std.specs.Prelude.{ℕ}
use Rattle.std.specs.FinMap.{empty, insert}
use Rattle.sch_io.specs.Files.{Files}
use Rattle.sch_measure.specs.declared.shelf.TheConstants.{SCHEMA_NAME, DOCUMENT_NAME, SCRIPT_NAME}
use Rattle.sch_measure.specs.Texts.{document_text, schema_text, script_text}

-- each of the three texts under its name
abbrev pub measure_files : ℕ → Files
measure_files items =
    insert (insert (insert empty SCHEMA_NAME.now schema_text) DOCUMENT_NAME.now (document_text items)) SCRIPT_NAME.now (script_text items)
