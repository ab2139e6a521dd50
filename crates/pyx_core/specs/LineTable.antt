-- What a line of PYX is by itself, without its line end: the table of lines by their first character.
use Rattle.std.specs.Prelude.{ℕ, Bool, not, ◌&&◌, ◌||◌, ◌==◌, if◌then◌else◌, List, [], ◌∷◌, Result, Ok, Err, codes}
use Rattle.std.specs.List.{list_all, before_first, after_first}
use Rattle.std.specs.Option.{is_some}
use Rattle.std.specs.Str.{chars, is_utf8, str_eq_ignore_ascii_case}
use Rattle.sch_base.specs.Characters.{is_xml_char}
use Rattle.sch_base.specs.Names.{is_ncname, split_qname}
use Rattle.pyx_core.specs.declared.fault.PyxKind.{PyxKind}
use Rattle.pyx_core.specs.declared.fault.PyxKind.TheVariants.{NotUtf8, BadChar, UnknownLine, EntityLine, BadName}
use Rattle.pyx_core.specs.declared.line_table.Line.{Line}
use Rattle.pyx_core.specs.declared.line_table.Line.TheVariants.{Skipped, Start, Attribute, End, Chars, Pi, Comment}
use Rattle.pyx_core.specs.Escapes.{unescaped}

-- whether a text is a QName: Namespaces in XML 1.0, section 4
abbrev pub is_qname : List ℕ → Bool
is_qname text = is_some (split_qname text)

-- whether a text is the target of a processing instruction: an NCName other than `xml` in any case (XML 1.0, section
-- 2.6; Namespaces in XML 1.0, section 7)
abbrev pub is_target : List ℕ → Bool
is_target text = is_ncname text && not (str_eq_ignore_ascii_case text (codes "xml"))

abbrev pub is_space : ℕ → Bool
is_space b = b == 32

-- a name ends at the first space or with the line, and what is after this space is escaped
abbrev pub name_part : List ℕ → List ℕ
name_part body = before_first is_space body

abbrev pub text_part : List ℕ → List ℕ
text_part body = unescaped (after_first is_space body)

-- each line after its mark
abbrev pub read_start : List ℕ → Result Line PyxKind
read_start body = if is_qname body then Ok (Start body) else Err BadName

abbrev pub read_end : List ℕ → Result Line PyxKind
read_end body = if is_qname body then Ok (End body) else Err BadName

abbrev pub read_attribute : List ℕ → Result Line PyxKind
read_attribute body = if is_qname (name_part body)
    then Ok (Attribute (record { name = name_part body; value = text_part body })) else Err BadName

abbrev pub read_pi : List ℕ → Result Line PyxKind
read_pi body = if is_target (name_part body) then Ok (Pi (name_part body) (text_part body)) else Err BadName

abbrev pub read_chars : List ℕ → Result Line PyxKind
read_chars body = Ok (Chars (unescaped body))

abbrev pub read_comment : List ℕ → Result Line PyxKind
read_comment body = Ok (Comment (unescaped body))

-- a line with its mark: `(` (40), `A` (65), `)` (41), `-` (45), `[` (91), `?` (63), `C` (67), `D` (68), `N` (78),
-- `U` (85), `&` (38)
abbrev pub read_marked : ℕ → List ℕ → Result Line PyxKind
read_marked mark body =
    if mark == 40 then read_start body
    else (if mark == 65 then read_attribute body
    else (if mark == 41 then read_end body
    else (if mark == 45 || mark == 91 then read_chars body
    else (if mark == 63 then read_pi body
    else (if mark == 67 then read_comment body
    else (if mark == 68 || mark == 78 || mark == 85 then Ok Skipped
    else (if mark == 38 then Err EntityLine
    else Err UnknownLine)))))))

-- a line of characters of a document
abbrev pub read_text : List ℕ → Result Line PyxKind
read_text [] = Ok Skipped
read_text (mark ∷ body) = read_marked mark body

-- a line by itself, or the first of the rules that it breaks: it is UTF-8, its characters are Chars (XML 1.0, section
-- 2.2), and it is one of the table
abbrev pub line_of : List ℕ → Result Line PyxKind
line_of bytes =
    if is_utf8 bytes then (if list_all is_xml_char (chars bytes) then read_text bytes else Err BadChar) else Err NotUtf8
