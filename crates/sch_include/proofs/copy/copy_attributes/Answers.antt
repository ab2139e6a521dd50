-- One attribute after the other.
use Rattle.std.proofs.Common.{◌∙◌, subst, arith}
use Rattle.doc_tree.specs.Table.{attrs_of}
use Rattle.sch_include.proofs.CopyLemmas.{Attributing, all-taken, attributing-more, next-bytes, next-fits, next-kind}
use Rattle.sch_include.proofs.copy.copy_attributes.Goals as goal

pub copy_attribute-requires-clause-is : goal.copy_attribute-requires-clause-is
copy_attribute-requires-clause-is c =
    next-kind c.args.tree.now.nodes c.loop-attr.tree.nodes c.args.to c.args.source.now.nodes c.args.n c.laws.ensures.well_formed c.loop-attr.attr-index c.attr-item.result
    (rw c.attrs-attr-items.ensures at c.attr-item.is) (rw c.attrs-attr-items.ensures at c.loop-attr-test.true) c.loop-attr.invariant.copied

pub copy_attribute-requires-clause-fits : goal.copy_attribute-requires-clause-fits
copy_attribute-requires-clause-fits c =
    next-fits c.args.tree.now.nodes c.loop-attr.tree.nodes c.args.to c.args.source.now.nodes c.args.n c.laws.ensures.well_formed c.loop-attr.attr-index c.attr-item.result
    (rw c.attrs-attr-items.ensures at c.attr-item.is) (rw c.attrs-attr-items.ensures at c.loop-attr-test.true) c.loop-attr.invariant.copied

pub copy_attribute-requires-clause-little : goal.copy_attribute-requires-clause-little
copy_attribute-requires-clause-little c =
    omega (
      arith,
      c.requires.little,
      c.loop-attr.invariant.copied.bytes,
      next-bytes c.args.tree.now.nodes c.loop-attr.tree.nodes c.args.to c.args.source.now.nodes c.args.n c.laws.ensures.well_formed c.loop-attr.attr-index c.attr-item.result
          (rw c.attrs-attr-items.ensures at c.attr-item.is) (rw c.attrs-attr-items.ensures at c.loop-attr-test.true) c.loop-attr.invariant.copied,
    )

pub loop-attr-preserved : goal.loop-attr-preserved
loop-attr-preserved c = record {
  copied =
      attributing-more c.args.tree.now.nodes c.loop-attr.tree.nodes c.args.to c.args.source.now.nodes c.args.n c.laws.ensures.well_formed c.loop-attr.attr-index c.attr-item.result
      (rw c.attrs-attr-items.ensures at c.attr-item.is) (rw c.attrs-attr-items.ensures at c.loop-attr-test.true) c.loop-attr.invariant.copied
      c.copy_attribute.new.tree.nodes c.in_ok-copy_attribute.field-0 c.in_ok-copy_attribute.ensures.grew.0 c.laws-in-loop-attr.ensures.ways_up c.in_ok-copy_attribute.ensures.grew.1 c.in_ok-copy_attribute.ensures.grew.2;
  cap = c.in_ok-copy_attribute.ensures.cap ∙ c.loop-attr.invariant.cap;
}

pub returns-clause-starts : goal.returns-clause-starts
returns-clause-starts c =
    (subst (Attributing c.args.tree.now.nodes c.loop-attr.tree.nodes c.args.to c.args.source.now.nodes)
    (all-taken (attrs_of c.args.source.now.nodes c.args.n) c.loop-attr.attr-index (rw c.attrs-attr-items.ensures at c.loop-attr-test.false) (rw c.attrs-attr-items.ensures at c.loop-attr.auto.attr-index-end)) c.loop-attr.invariant.copied).starts
