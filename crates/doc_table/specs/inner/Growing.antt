-- The parts of a table with one node more, the last under its parent.
use Rattle.std.specs.Prelude.{ℕ, ◌+◌, List, [], ◌∷◌, ◌++◌, length, Option, None, Some, slice_index_or, slice_set}
use Rattle.doc_table.specs.declared.node.Label.{Label}
use Rattle.doc_table.specs.declared.node.Node.{Node}
use Rattle.doc_table.specs.inner.Kept.{kept_link}
use Rattle.doc_table.specs.inner.Labels.{kept_labelled, label_is_attribute}
use Rattle.doc_table.specs.inner.Parts.{Parts}

-- the node that is put in, and the kept nodes with it
abbrev pub new_node : ℕ → ℕ → ℕ → Label → List ℕ → Node
new_node p depth rank l characters = record { parent = Some p; depth = depth; rank = rank; kids = []; attributes = []; content = kept_labelled l characters }

abbrev pub grown_nodes : List (Option Node) → ℕ → ℕ → ℕ → Label → List ℕ → List (Option Node)
grown_nodes nodes p depth rank l characters =
    slice_set nodes p (kept_link (length nodes) (label_is_attribute l) (slice_index_or nodes p None)) ++ Some (new_node p depth rank l characters) ∷ []

-- all parts with it
abbrev pub grown : Parts → ℕ → ℕ → ℕ → Label → List ℕ → Parts
grown parts p depth rank l characters =
    record parts { nodes = grown_nodes parts.nodes p depth rank l characters; live = parts.live + 1; text_bytes = parts.text_bytes + length characters }
