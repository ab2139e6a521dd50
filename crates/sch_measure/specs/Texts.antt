-- The texts that `measure N` follows: a schema, a document with N items, and a script of N commands.
use Rattle.std.specs.Prelude.{ℕ, ◌+◌, ◌-◌, ◌*◌, ◌%◌, nat_eq, List, [], ◌∷◌, ◌++◌, codes, if◌then◌else◌}
use Rattle.std.specs.List.{flat_map, range_with_len}
use Rattle.std.specs.Fmt.{decimal}

-- a line and its end
abbrev pub line : List ℕ → List ℕ
line text = text ++ codes "\n"

-- the schema: in one pattern each item is asserted to have an id, in the other an item is reported whose text is v0
abbrev pub schema_lines : List (List ℕ)
schema_lines =
    codes "(schema"
    ∷ codes "Axmlns http://purl.oclc.org/dsdl/schematron"
    ∷ codes "(pattern"
    ∷ codes "(rule"
    ∷ codes "Acontext item"
    ∷ codes "(assert"
    ∷ codes "Atest @id"
    ∷ codes "-id"
    ∷ codes ")assert"
    ∷ codes ")rule"
    ∷ codes ")pattern"
    ∷ codes "(pattern"
    ∷ codes "(rule"
    ∷ codes "Acontext item"
    ∷ codes "(report"
    ∷ codes "Atest . = 'v0'"
    ∷ codes "-v0"
    ∷ codes ")report"
    ∷ codes ")rule"
    ∷ codes ")pattern"
    ∷ codes ")schema"
    ∷ []

abbrev pub schema_text : List ℕ
schema_text = flat_map line schema_lines

-- the id of item i is i; it has none where 7 divides i
abbrev pub id_line : ℕ → List ℕ
id_line i = if nat_eq (i % 7) 0 then [] else codes "Aid " ++ (decimal i ++ codes "\n")

-- item i, whose text is v and the remainder of i by 5
abbrev pub item_lines : ℕ → List ℕ
item_lines i = codes "(item\n" ++ (id_line i ++ (codes "-v" ++ (decimal (i % 5) ++ codes "\n)item\n")))

-- the document: a list of the items, counted from 1
abbrev pub document_text : ℕ → List ℕ
document_text items = codes "(list\n" ++ (flat_map item_lines (range_with_len 1 items) ++ codes ")list\n")

-- the place among so many items at which command k works, counted from 1
abbrev pub place_of : ℕ → ℕ → ℕ
place_of items k = 13 * (k - 1) % items + 1

-- the text of the item at a place is set to v0
abbrev pub text_command : ℕ → List ℕ
text_command place = codes "text /*[1]/*[" ++ (decimal place ++ codes "]/text()[1] v0\n")

-- its id is set to k
abbrev pub id_command : ℕ → ℕ → List ℕ
id_command place k = codes "set /*[1]/*[" ++ (decimal place ++ (codes "] id " ++ (decimal k ++ codes "\n")))

-- an item without id is put there, whose text is v1
abbrev pub item_command : ℕ → List ℕ
item_command place = codes "insert /*[1] " ++ (decimal place ++ codes "\n(item\n-v1\n)item\n.\n")

-- command k for so many items, by the remainder of k by 3
abbrev pub command_lines : ℕ → ℕ → List ℕ
command_lines items k =
    if nat_eq (k % 3) 1 then text_command (place_of items k) else
    if nat_eq (k % 3) 2 then id_command (place_of items k) k else item_command (place_of items k)

-- the script: as many commands as there are items, counted from 1
abbrev pub script_text : ℕ → List ℕ
script_text items = flat_map (command_lines items) (range_with_len 1 items)
