-- What contracts see of the nodes that a tree keeps.
use Rattle.std.specs.Prelude.{List, map, Option, None, Some}
use Rattle.doc_table.specs.declared.node.Node.{Node}
use Rattle.doc_table.specs.declared.node.NodeContent.{NodeContent}
use Rattle.doc_table.specs.declared.node.NodeContent.TheVariants as kept
use Rattle.doc_table.specs.Table.{Table, Facts, Name, Content, root, element, attribute, text, comment, instruction, numbered}

abbrev pub content_seen : List Name → NodeContent → Content
content_seen names kept.Root = root
content_seen names (kept.Element id decls) = element (numbered names id) decls
content_seen names (kept.Attribute id value) = attribute (numbered names id) value
content_seen names (kept.Text characters) = text characters
content_seen names (kept.Comment characters) = comment characters
content_seen names (kept.Pi id characters) = instruction (numbered names id) characters

abbrev pub node_seen : List Name → Option Node → Option Facts
node_seen names None = None
node_seen names (Some node) = Some (record {
  parent = node.parent;
  kids = node.kids;
  attributes = node.attributes;
  content = content_seen names node.content;
})

abbrev pub table_seen : List Name → List (Option Node) → Table
table_seen names nodes = map (node_seen names) nodes
