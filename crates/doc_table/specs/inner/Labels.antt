-- Words on the label of a node to be made.
use Rattle.std.specs.Prelude.{ℕ, ◌<◌, Bool, true, false, List, []}
use Rattle.doc_table.specs.declared.node.Label.{Label}
use Rattle.doc_table.specs.declared.node.Label.TheVariants as label
use Rattle.doc_table.specs.declared.node.NodeContent.{NodeContent}
use Rattle.doc_table.specs.declared.node.NodeContent.TheVariants as kept
use Rattle.doc_table.specs.Table.{Name, Content, element, attribute, text, comment, instruction, numbered}

abbrev pub label_is_element : Label → Bool
label_is_element (label.Element _) = true
label_is_element (label.Attribute _) = false
label_is_element label.Text = false
label_is_element label.Comment = false
label_is_element (label.Pi _) = false

abbrev pub label_is_attribute : Label → Bool
label_is_attribute (label.Element _) = false
label_is_attribute (label.Attribute _) = true
label_is_attribute label.Text = false
label_is_attribute label.Comment = false
label_is_attribute (label.Pi _) = false

-- the content of a node with a label and a text; an element has no text
abbrev pub content_labelled : List Name → Label → List ℕ → Content
content_labelled names (label.Element id) characters = element (numbered names id) []
content_labelled names (label.Attribute id) characters = attribute (numbered names id) characters
content_labelled names label.Text characters = text characters
content_labelled names label.Comment characters = comment characters
content_labelled names (label.Pi id) characters = instruction (numbered names id) characters

-- what is kept of it
abbrev pub kept_labelled : Label → List ℕ → NodeContent
kept_labelled (label.Element id) characters = kept.Element id []
kept_labelled (label.Attribute id) characters = kept.Attribute id characters
kept_labelled label.Text characters = kept.Text characters
kept_labelled label.Comment characters = kept.Comment characters
kept_labelled (label.Pi id) characters = kept.Pi id characters

-- the name, where there is one, is among the first so many
abbrev pub LabelIsBelow : ℕ → Label → Type 0
LabelIsBelow count (label.Element id) = id < count
LabelIsBelow count (label.Attribute id) = id < count
LabelIsBelow count label.Text = Unit {0}
LabelIsBelow count label.Comment = Unit {0}
LabelIsBelow count (label.Pi id) = id < count
