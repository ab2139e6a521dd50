-- The attribute has the name that its number stands for.
use Rattle.std.proofs.Common.{◌≡◌}
use Rattle.std.proofs.lemmas.Option.{slice_get_within}
use Rattle.doc_tree.specs.Table.{numbered}
use Rattle.name_scopes.specs.inner.Build.{attribute_name}
use Rattle.name_scopes.proofs.NumberLemmas.{numbered-is}
use Rattle.name_scopes.proofs.build.append_attribute.Goals as goal

pub append_node-requires-clause-fits : goal.append_node-requires-clause-fits
append_node-requires-clause-fits c =
    let named : numbered c.number.new.tree.names c.in_ok-id.id ≡ attribute_name c.args.scope.now c.args.attr.now.name =
    rw (c.known_uri.ensures, c.split-parts.ensures.prefix, c.split-parts.ensures.local, c.as_str-name.ensures) at (numbered-is c.number.new.tree.names c.in_ok-id.id _ c.in_ok-id.ensures.numbered.given) in
    rw (c.number.ensures.nodes, named) c.requires.fits

pub append_node-requires-clause-name : goal.append_node-requires-clause-name
append_node-requires-clause-name c = slice_get_within c.number.new.tree.names c.in_ok-id.id _ c.in_ok-id.ensures.numbered.given

pub returns : goal.returns
returns c =
    let named : numbered c.number.new.tree.names c.in_ok-id.id ≡ attribute_name c.args.scope.now c.args.attr.now.name =
    rw (c.known_uri.ensures, c.split-parts.ensures.prefix, c.split-parts.ensures.local, c.as_str-name.ensures) at (numbered-is c.number.new.tree.names c.in_ok-id.id _ c.in_ok-id.ensures.numbered.given) in
    rw (c.in_ok-n.ensures, c.number.ensures.nodes, named, c.as_str.ensures) at c.append_node.ensures.grew
