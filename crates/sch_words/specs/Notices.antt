-- What the program says of itself.
use Rattle.std.specs.Prelude.{ℕ, List, [], ◌∷◌, ◌++◌, codes}
use Rattle.std.specs.List.{flat_map}
use Rattle.sch_words.specs.declared.notice.Notice.{Notice}
use Rattle.sch_words.specs.declared.notice.Notice.TheVariants.{Help, Version}
use Rattle.sch_words.specs.declared.notice.TheConstants.{VERSION}

-- the accepted words, one line each, and what each status says, one line each
abbrev pub help_lines : List (List ℕ)
help_lines =
    codes "sch validate SCHEMA DOCUMENT"
    ∷ codes "sch validate --phase PHASE SCHEMA DOCUMENT"
    ∷ codes "sch follow SCHEMA DOCUMENT SCRIPT"
    ∷ codes "sch follow --phase PHASE SCHEMA DOCUMENT SCRIPT"
    ∷ codes "sch follow --undo COUNT SCHEMA DOCUMENT SCRIPT"
    ∷ codes "sch follow --phase PHASE --undo COUNT SCHEMA DOCUMENT SCRIPT"
    ∷ codes "sch watch WATCHES DOCUMENT SCRIPT"
    ∷ codes "sch expand SCHEMA"
    ∷ codes "sch measure COUNT"
    ∷ codes "sch summary REPORT"
    ∷ codes "sch --help"
    ∷ codes "sch --version"
    ∷ codes "status 0: done; the report, of `follow` the last one, has no finding"
    ∷ codes "status 1: the report, of `follow` the last one, has a finding"
    ∷ codes "status 2: the words are not accepted"
    ∷ codes "status 3: the schema is refused, or the watches are"
    ∷ codes "status 4: the document is refused"
    ∷ codes "status 5: the script is refused"
    ∷ codes "status 6: an evaluation faults, of `follow` and `watch` at any state"
    ∷ codes "status 7: a named or included file is not there"
    ∷ codes "status 8: a read failed"
    ∷ codes "status 9: a write failed"
    ∷ codes "status 10: memory ran out"
    ∷ []

abbrev pub help_text : List ℕ
help_text = flat_map (λ line. line ++ codes "\n") help_lines

-- the program's name and version
abbrev pub version_text : List ℕ
version_text = codes "sch " ++ (VERSION.now ++ codes "\n")

abbrev pub notice_text : Notice → List ℕ
notice_text Help = help_text
notice_text Version = version_text
