-- What is kept of a node that holds another content of the same kind.
use Rattle.std.specs.Prelude.{ℕ, List, Option, None, Some}
use Rattle.doc_table.specs.declared.node.Node.{Node}
use Rattle.doc_table.specs.declared.node.NodeContent.{NodeContent}
use Rattle.doc_table.specs.declared.node.NodeContent.TheVariants as kept

abbrev pub kept_holding : (NodeContent → NodeContent) → Option Node → Option Node
kept_holding change None = None
kept_holding change (Some node) = Some (record node { content = change node.content })

-- it says another text
abbrev pub content_saying : List ℕ → NodeContent → NodeContent
content_saying new kept.Root = kept.Root
content_saying new (kept.Element id decls) = kept.Element id decls
content_saying new (kept.Attribute id value) = kept.Attribute id new
content_saying new (kept.Text characters) = kept.Text new
content_saying new (kept.Comment characters) = kept.Comment new
content_saying new (kept.Pi id characters) = kept.Pi id new

-- it has another name
abbrev pub content_renaming : ℕ → NodeContent → NodeContent
content_renaming new kept.Root = kept.Root
content_renaming new (kept.Element id decls) = kept.Element new decls
content_renaming new (kept.Attribute id value) = kept.Attribute new value
content_renaming new (kept.Text characters) = kept.Text characters
content_renaming new (kept.Comment characters) = kept.Comment characters
content_renaming new (kept.Pi id characters) = kept.Pi id characters
