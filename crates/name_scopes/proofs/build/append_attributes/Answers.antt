-- One attribute after the other.
use Rattle.std.proofs.Common.{length, sym, ◌∙◌, arith}
use Rattle.std.proofs.lemmas.Bool.{lt-leb}
use Rattle.doc_tree.specs.limits.TheConstants.{MAX_LIVE_NODES}
use Rattle.doc_tree.specs.Walks.{order}
use Rattle.name_scopes.proofs.StartLemmas.{attributing-none, attributing-more, attributing-same, fits-next, kept-room, bytes-room}
use Rattle.name_scopes.proofs.build.append_attributes.Goals as goal
use Rattle.name_scopes.proofs.build.append_attributes.Goals.{then-is_plain+in_ok-append_attribute, else-is_plain}

pub loop-attr-init : goal.loop-attr-init
loop-attr-init c = attributing-none c.args.tree.now.nodes c.args.element c.args.scope.now c.requires.receives c.requires.under c.requires.no_kid c.requires.no_attribute

pub append_attribute-requires-clause-fits : goal.append_attribute-requires-clause-fits
append_attribute-requires-clause-fits c =
    fits-next c.args.tree.now.nodes c.loop-attr.tree.nodes c.args.element c.args.scope.now c.args.attrs.now c.loop-attr.attr-index c.attr-item.result c.loop-attr-test.true c.attr-item.is
    (sym c.is_plain.ensures ∙ c.if-is_plain.true) c.requires.differ c.loop-attr.invariant

pub append_attribute-requires-clause-room : goal.append_attribute-requires-clause-room
append_attribute-requires-clause-room c =
    lt-leb MAX_LIVE_NODES (length (order c.loop-attr.tree.nodes)) (omega (
      arith,
      c.requires.room,
      c.loop-attr.invariant.all.counted,
      kept-room c.args.attrs.now c.loop-attr.attr-index c.attr-item.result c.loop-attr-test.true c.attr-item.is (sym c.is_plain.ensures ∙ c.if-is_plain.true),
    ))

pub append_attribute-requires-clause-little : goal.append_attribute-requires-clause-little
append_attribute-requires-clause-little c =
    omega (arith, c.requires.little, c.loop-attr.invariant.all.more_text, bytes-room c.args.attrs.now c.loop-attr.attr-index c.attr-item.result c.loop-attr-test.true c.attr-item.is (sym c.is_plain.ensures ∙ c.if-is_plain.true))

pub loop-attr-preserved : goal.loop-attr-preserved
loop-attr-preserved c = elim c.if-is_plain.branch [
  | then-is_plain+in_ok-append_attribute w ↦
      rw w.tree-is (attributing-more c.args.tree.now.nodes c.loop-attr.tree.nodes w.append_attribute.new.tree.nodes c.args.element w.in_ok-append_attribute.field-0 c.args.scope.now c.args.attrs.now c.loop-attr.attr-index c.attr-item.result
      c.loop-attr-test.true c.attr-item.is (sym c.is_plain.ensures ∙ w.if-is_plain.true) w.in_ok-append_attribute.ensures w.laws.ensures.ways_up w.laws.ensures.well_formed w.laws.ensures.scopes
      c.requires.all_named c.requires.known c.loop-attr.invariant)
  | else-is_plain w ↦
      rw w.tree-is (attributing-same c.args.tree.now.nodes c.loop-attr.tree.nodes c.args.element c.args.scope.now c.args.attrs.now c.loop-attr.attr-index c.attr-item.result c.loop-attr-test.true c.attr-item.is
      (sym c.is_plain.ensures ∙ w.if-is_plain.false) c.loop-attr.invariant)
]
