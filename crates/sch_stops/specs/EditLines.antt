-- The lines between the states of an edit script that is followed.
use Rattle.std.specs.Prelude.{ℕ, List, ◌++◌, codes}
use Rattle.std.specs.Fmt.{decimal}
use Rattle.doc_tree.specs.declared.refusal.EditRefusal.{EditRefusal}
use Rattle.doc_tree.specs.declared.refusal.EditRefusal.TheVariants.{NoNode, WrongKind, NotInRange, RootElement, TextBeside, EmptyText, NoPrefix, XmlnsName, NoAttribute, TooManyNodes, TooDeep, TooMuchText, IdsSpent, TooManyPairs, SameAttribute}

-- the line in front of the state behind an accepted command, which tells its number
unfoldable pub edit_line : ℕ → List ℕ
edit_line number = codes "?edit " ++ (decimal number ++ codes "\n")

-- the names of the reasons against a command
abbrev pub refusal_words : EditRefusal → List ℕ
refusal_words NoNode = codes "NoNode"
refusal_words WrongKind = codes "WrongKind"
refusal_words NotInRange = codes "NotInRange"
refusal_words RootElement = codes "RootElement"
refusal_words TextBeside = codes "TextBeside"
refusal_words EmptyText = codes "EmptyText"
refusal_words NoPrefix = codes "NoPrefix"
refusal_words XmlnsName = codes "XmlnsName"
refusal_words NoAttribute = codes "NoAttribute"
refusal_words TooManyNodes = codes "TooManyNodes"
refusal_words TooDeep = codes "TooDeep"
refusal_words TooMuchText = codes "TooMuchText"
refusal_words IdsSpent = codes "IdsSpent"
refusal_words TooManyPairs = codes "TooManyPairs"
refusal_words SameAttribute = codes "SameAttribute"

-- the line of a refused command: its number, and the first reason against it
unfoldable pub refused_line : ℕ → EditRefusal → List ℕ
refused_line number reason = codes "?refused " ++ (decimal number ++ (codes " " ++ (refusal_words reason ++ codes "\n")))

-- the line in front of the state to which an undo goes back, which tells its number; commands and undos are numbered together
unfoldable pub undo_line : ℕ → List ℕ
undo_line number = codes "?undo " ++ (decimal number ++ codes "\n")

-- the line of an undo that is refused, since no edit is left that can be undone
unfoldable pub no_history_line : ℕ → List ℕ
no_history_line number = codes "?refused " ++ (decimal number ++ codes " NoHistory\n")
