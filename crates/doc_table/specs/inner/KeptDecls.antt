-- What is kept of a declaration more at an element.
use Rattle.std.specs.Prelude.{◌∷◌, [], ◌++◌, Option, None, Some}
use Rattle.doc_table.specs.declared.node.Node.{Node}
use Rattle.doc_table.specs.declared.node.NodeContent.{NodeContent}
use Rattle.doc_table.specs.declared.node.NodeContent.TheVariants as kept
use Rattle.doc_table.specs.Scope.{Decl}

abbrev pub content_declaring : Decl → NodeContent → NodeContent
content_declaring decl kept.Root = kept.Root
content_declaring decl (kept.Element id decls) = kept.Element id (decls ++ decl ∷ [])
content_declaring decl (kept.Attribute id value) = kept.Attribute id value
content_declaring decl (kept.Text characters) = kept.Text characters
content_declaring decl (kept.Comment characters) = kept.Comment characters
content_declaring decl (kept.Pi id characters) = kept.Pi id characters

abbrev pub kept_declaring : Decl → Node → Node
kept_declaring decl node = record node { content = content_declaring decl node.content }

abbrev pub kept_declaring_at : Decl → Option Node → Option Node
kept_declaring_at decl None = None
kept_declaring_at decl (Some node) = Some (kept_declaring decl node)
