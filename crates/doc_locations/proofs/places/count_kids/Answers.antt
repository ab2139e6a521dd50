-- Each kid is counted in its turn.
use Rattle.std.proofs.Common.{◌<◌, length, suc, take, drop, ap, arith, length-append, ◌∷◌}
use Rattle.doc_locations.proofs.PlaceLemmas.{counted-next, counted-few, kind_numbered, mem-at, cut_at, take-next}
use Rattle.doc_locations.proofs.places.count_kids.Goals as goal

pub kind-requires : goal.kind-requires
kind-requires c = c.requires.live c.kid-item.result (mem-at c.args.kids.now c.loop-kid.kid-index c.kid-item.result c.kid-item.is c.loop-kid-test.true)

pub next-place-requires : goal.next-place-requires
next-place-requires c = record {
  room = λ k less.
      let kids = c.args.kids.now in
      let i = c.loop-kid.kid-index in
      let kid = c.kid-item.result in
      let kind = kind_numbered k less in
      let few = counted-few c.args.tree.now.nodes c.args.places.now kids (take i kids) c.loop-kid.places c.loop-kid.counts kind.0 c.loop-kid.invariant in
      let long = ap length (cut_at kids i kid c.kid-item.is c.loop-kid-test.true) in
      rw (← kind.1) (omega (arith, few, long, length-append (take i kids) (kid ∷ drop (suc i) kids)));
}

pub bounds-places-index : goal.bounds-places-index
bounds-places-index c =
    let room : c.kid-item.result < length c.args.places.now = c.requires.room c.kid-item.result (mem-at c.args.kids.now c.loop-kid.kid-index c.kid-item.result c.kid-item.is c.loop-kid-test.true) in omega arith

pub loop-kid-preserved : goal.loop-kid-preserved
loop-kid-preserved c =
    let kids = c.args.kids.now in
    let i = c.loop-kid.kid-index in
    let kid = c.kid-item.result in
    let room : kid < length c.loop-kid.places = rw c.loop-kid.auto.places (c.requires.room kid (mem-at kids i kid c.kid-item.is c.loop-kid-test.true)) in
    rw (take-next kids i kid c.kid-item.is c.loop-kid-test.true, c.index.ensures.value, c.next-place.ensures.place)
    (counted-next c.args.tree.now.nodes c.args.places.now kids (take i kids) (drop (suc i) kids) c.loop-kid.places kid c.kind.result c.loop-kid.counts c.next-place.new.self
    (cut_at kids i kid c.kid-item.is c.loop-kid-test.true) c.requires.once room c.kind.ensures c.next-place.ensures.counted c.loop-kid.invariant)
