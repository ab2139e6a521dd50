-- A place of the list is a node's, and a number is written at it.
use Rattle.std.proofs.Common.{◌≡◌, ℕ, ◌+◌, ◌<◌, ◌-◌, true, List, length, get_or, sym, ap, ◌∙◌, subst, arith, length-set}
use Rattle.doc_table.specs.Lists.{mem}
use Rattle.doc_table.proofs.ListLemmas.{mem-get}
use Rattle.doc_edits.proofs.CopyLemmas.{number-written}
use Rattle.doc_edits.proofs.copying.numbers_for.Goals as goal

same : (nodes : List ℕ) (i x y : ℕ) → x ≡ y → y ≡ get_or nodes i y → x ≡ get_or nodes i x
same nodes i x y e is = e ∙ (is ∙ ap (get_or nodes i) (sym e))

within : (nodes : List ℕ) (i x room : ℕ) → i < length nodes → x ≡ get_or nodes i x → ((m : ℕ) → mem m nodes ≡ true → m < room) → x < room
within nodes i x room here is fits = fits x (subst (λ m. mem m nodes ≡ true) (sym is) (mem-get nodes i x here))

pub index_mut-requires : goal.index_mut-requires
index_mut-requires c =
    let is : c.index.result ≡ get_or c.args.nodes.now (c.loop-i.i - 1) c.index.result =
    same c.args.nodes.now (c.loop-i.i - 1) c.index.result c.index-nodes-i.result c.index.ensures.value c.index-nodes-i.is in
    omega (arith, within c.args.nodes.now (c.loop-i.i - 1) c.index.result c.args.room (omega (arith, c.loop-i-test.true, c.loop-i.invariant.within)) is c.requires.room, c.loop-i.invariant.room, c.loop-i.numbers.ok)

pub loop-i-preserved : goal.loop-i-preserved
loop-i-preserved c =
    let is : c.index.result ≡ get_or c.args.nodes.now (c.loop-i.i - 1) c.index.result =
    same c.args.nodes.now (c.loop-i.i - 1) c.index.result c.index-nodes-i.result c.index.ensures.value c.index-nodes-i.is in
    let here : c.loop-i.i - 1 < length c.args.nodes.now = omega (arith, c.loop-i-test.true, c.loop-i.invariant.within) in
    record {
      within = omega arith;
      room = length-set c.loop-i.numbers.items c.index.result c.from_number.result ∙ c.loop-i.invariant.room;
      written = number-written c.loop-i.numbers.items c.args.nodes.now c.loop-i.i (c.loop-i.i - 1) c.args.first (c.args.first + length c.args.nodes.now) c.index.result c.from_number.result
          (omega (arith, c.loop-i-test.true)) here is (omega (arith, within c.args.nodes.now (c.loop-i.i - 1) c.index.result c.args.room here is c.requires.room, c.loop-i.invariant.room))
          c.from_number.ensures c.loop-i.invariant.written;
    }
