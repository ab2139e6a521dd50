-- The number leaves its parent's lists, and all below it are cleared; what is left is the tree without it.
use Rattle.std.proofs.Common.{◌≡◌, sym, ap, subst, length, arith}
use Rattle.doc_table.specs.inner.Parts.{Parts, IsSound, table_of}
use Rattle.doc_edits.specs.Changes.{removed}
use Rattle.doc_edits.specs.inner.Removing.{Counted}
use Rattle.doc_edits.proofs.RemovingLemmas.{owner-kept, kids-once, attributes-once, is-counted, outcome, unlinked-parts}
use Rattle.doc_edits.proofs.removing.remove.Goals as goal

pub unlink-requires-clause-parent : goal.unlink-requires-clause-parent
unlink-requires-clause-parent c =
    omega (
      arith,
      owner-kept c.args.bare.now c.requires.sound c.args.n c.in-Some.parent c.requires.may (sym c.in-Some.ensures),
      ap (λ (parts : Parts). length parts.nodes) c.bare.view_is,
      c.bare.inside.nodes.ok,
    )

pub unlink-requires-clause-kids : goal.unlink-requires-clause-kids
unlink-requires-clause-kids c =
    rw (ap (λ (parts : Parts). parts.nodes) c.bare.view_is)
    (kids-once c.args.bare.now c.requires.sound c.args.n c.in-Some.parent c.requires.may (sym c.in-Some.ensures))

pub unlink-requires-clause-attributes : goal.unlink-requires-clause-attributes
unlink-requires-clause-attributes c =
    rw (ap (λ (parts : Parts). parts.nodes) c.bare.view_is)
    (attributes-once c.args.bare.now c.requires.sound c.args.n c.in-Some.parent c.requires.may (sym c.in-Some.ensures))

pub clear-requires : goal.clear-requires
clear-requires c = record {
  counted = subst Counted (sym (unlinked-parts _ c.args.bare.now c.args.n c.in-Some.parent c.unlink.new.nodes.items c.bare.view_is c.unlink.ensures))
      (is-counted c.args.bare.now c.requires.sound c.args.n c.in-Some.parent c.requires.may (sym c.in-Some.ensures));
}

after : (c : goal.After-clear) → IsSound c.clear.new.bare × (table_of c.clear.new.bare ≡ removed (table_of c.args.bare.now) c.args.n)
after c =
    outcome c.args.bare.now c.requires.sound c.args.n c.in-Some.parent c.requires.may (sym c.in-Some.ensures) _ c.clear.new.bare
    (unlinked-parts _ c.args.bare.now c.args.n c.in-Some.parent c.unlink.new.nodes.items c.bare.view_is c.unlink.ensures)
    c.clear.ensures.cleared c.clear.ensures.names c.clear.ensures.counted

pub returns-in-Some-clause-sound : goal.returns-in-Some-clause-sound
returns-in-Some-clause-sound c = (after c).0

pub returns-in-Some-clause-removed : goal.returns-in-Some-clause-removed
returns-in-Some-clause-removed c = (after c).1
