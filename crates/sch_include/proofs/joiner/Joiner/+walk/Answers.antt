-- A node is copied and its kids below it, one after another; an include is what its file gives, which is opened, tested and walked.
use Rattle.std.proofs.Common.{◌≡◌, List, ℕ, refl, sym, ap, ◌∙◌, subst, arith, rules, length, ◌≤◌, ◌+◌, ◌-◌, [], ◌∷◌, Some, length-append}
use Rattle.std.specs.Prelude.{Ok, Err, Some}
use Rattle.sch_io.specs.Files.{Files}
use Rattle.doc_tree.specs.Kinds.{is_element}
use Rattle.doc_tree.specs.Table.{kids_of, Contents}
use Rattle.sch_include.specs.declared.fault.IncludeError.TheVariants as error
use Rattle.sch_include.specs.Taking.{fault_of}
use Rattle.sch_include.specs.inner.Joining.{WalksKids, source_of, standing_of, CanWalk, Keeps, Shows, TakesFile, Walks}
use Rattle.sch_include.proofs.CopyLemmas.{all-taken}
use Rattle.sch_include.proofs.EndLemmas.{kids-passed, on-err, on-ok, shows-end, shows-passed, walks-end, walks-passed, file-memory, file-passed, takes-passed}
use Rattle.sch_include.proofs.FileLemmas.{element-kind, is-err, node-shallow, above-include, element-depth, fitted-can, fitted-keeps, fitted-takes, judged-err, on-then, read≢memory, shows-error, shows-unfit, takes-memory, unfit-kind, unfit-takes, unopened-takes}
use Rattle.sch_include.proofs.KidLemmas.{kids-can, kids-more, kids-none, kids-stop, shows-none, shows-then}
use Rattle.sch_include.proofs.NodeLemmas.{kids-walk, node-keeps, node-walks, takes-node}
use Rattle.sch_include.proofs.TakeLemmas.{name-depth, refused-walks, shows-refused, take-walks, entered-can, file-keeps, file-stops, file-walks}
use Rattle.sch_include.proofs.WalkLemmas.{kid-depth}
use Rattle.sch_include.proofs.joiner.Joiner.+walk.Goals as goal
use Rattle.doc_tree.specs.limits.TheConstants.{MAX_LIVE_NODES, MAX_LIVE_TEXT_BYTES}
use Rattle.sch_rules.specs.Elements.{document_element}
use Rattle.sch_include.specs.declared.joiner.Joiner.{Joiner}

pub walk-take-requires : goal.walk-take-requires
walk-take-requires g t c lifetimes outlived =
    let is = sym c.is_include.ensures ∙ c.if-is_include.true in
    let shallow = node-shallow c.args.self.now c.args.source.now c.args.n c.args.parent c.requires.can c.laws.ensures.ordered (ap is_element (element-kind c.args.source.now.tree.now.nodes c.args.n is)) in
    (omega (arith, c.decreases, shallow), (outlived, (c.requires.can, is)))

pub walk-returns-then-is_include-clause-shows : goal.walk-returns-then-is_include-clause-shows
walk-returns-then-is_include-clause-shows g t c = c.take.ensures.shows

pub walk-returns-then-is_include-clause-cap : goal.walk-returns-then-is_include-clause-cap
walk-returns-then-is_include-clause-cap g t c = c.take.ensures.cap

pub walk-returns-then-is_include-clause-keeps : goal.walk-returns-then-is_include-clause-keeps
walk-returns-then-is_include-clause-keeps g t c = c.take.ensures.keeps

pub walk-returns-then-is_include-clause-walks : goal.walk-returns-then-is_include-clause-walks
walk-returns-then-is_include-clause-walks g t c = c.take.ensures.walks

pub walk-copy_node-requires-clause-takes : goal.walk-copy_node-requires-clause-takes
walk-copy_node-requires-clause-takes g t c =
    takes-node c.args.self.now c.args.source.now c.args.n c.args.parent c.requires.can c.laws.ensures.ordered
    (node-shallow c.args.self.now c.args.source.now c.args.n c.args.parent c.requires.can c.laws.ensures.ordered)

pub walk-copy_node-requires-clause-scoped : goal.walk-copy_node-requires-clause-scoped
walk-copy_node-requires-clause-scoped g t c = c.requires.can.is_file.in_scope

pub walk-returns-in_err-copy-clause-shows : goal.walk-returns-in_err-copy-clause-shows
walk-returns-in_err-copy-clause-shows g t c = shows-end _ _ c.from_residual.result (is-err c.from_residual.result error.Memory c.from_residual.ensures.1)

pub walk-returns-in_err-copy-clause-cap : goal.walk-returns-in_err-copy-clause-cap
walk-returns-in_err-copy-clause-cap g t c = c.in_err-copy.ensures.cap

pub walk-returns-in_err-copy-clause-keeps : goal.walk-returns-in_err-copy-clause-keeps
walk-returns-in_err-copy-clause-keeps g t c = on-err c.from_residual.result error.Memory _ (is-err c.from_residual.result error.Memory c.from_residual.ensures.1)

pub walk-returns-in_err-copy-clause-walks : goal.walk-returns-in_err-copy-clause-walks
walk-returns-in_err-copy-clause-walks g t c = walks-end _ _ _ _ _ _ c.from_residual.result (is-err c.from_residual.result error.Memory c.from_residual.ensures.1)

pub walk-walk_kids-walked-requires : goal.walk-walk_kids-walked-requires
walk-walk_kids-walked-requires g t c lifetimes outlived = (
  omega (arith, c.decreases),
  (outlived, kids-walk c.args.self.now c.args.source.now c.args.n c.args.parent c.requires.can c.laws.ensures.ordered c.copy_node.new.tree c.in_ok-copy.copy c.in_ok-copy.ensures.copied),
)

pub walk-returns-in_ok-copy-clause-shows : goal.walk-returns-in_ok-copy-clause-shows
walk-returns-in_ok-copy-clause-shows g t c = c.walk_kids-walked.ensures.shows

pub walk-returns-in_ok-copy-clause-cap : goal.walk-returns-in_ok-copy-clause-cap
walk-returns-in_ok-copy-clause-cap g t c = c.walk_kids-walked.ensures.cap ∙ c.in_ok-copy.ensures.cap

pub walk-returns-in_ok-copy-clause-keeps : goal.walk-returns-in_ok-copy-clause-keeps
walk-returns-in_ok-copy-clause-keeps g t c =
    on-ok c.walk_kids-walked.result _
    (node-keeps c.args.self.now c.args.source.now c.args.n c.args.parent c.requires.can c.laws.ensures.ordered c.copy_node.new.tree c.in_ok-copy.copy c.in_ok-copy.ensures.copied c.walk_kids-walked.new.self _ c.walk_kids-walked.result c.walk_kids-walked.ensures.walks)

pub walk-returns-in_ok-copy-clause-walks : goal.walk-returns-in_ok-copy-clause-walks
walk-returns-in_ok-copy-clause-walks g t c =
    node-walks c.args.self.now c.args.source.now c.args.n c.args.parent c.requires.can c.laws.ensures.ordered c.copy_node.new.tree c.in_ok-copy.copy c.in_ok-copy.ensures.copied c.walk_kids-walked.new.self _ c.walk_kids-walked.result c.walk_kids-walked.ensures.walks
    c.laws-else-is_include.ensures.ways_up (sym c.is_include.ensures ∙ c.if-is_include.false)

pub walk_kids-loop-kid-init : goal.walk_kids-loop-kid-init
walk_kids-loop-kid-init g t c = record {
  shows = shows-none _ _;
  cap = refl;
  walks = kids-none c.args.self.now c.args.source.now c.args.n c.args.copy _ c.requires.can;
}

pub walk_kids-offset_bounds-kid-items-kid-index : goal.walk_kids-offset_bounds-kid-items-kid-index
walk_kids-offset_bounds-kid-items-kid-index g t c = search rules

pub walk_kids-walk-requires : goal.walk_kids-walk-requires
walk_kids-walk-requires g t c lifetimes outlived =
    let T = c.args.source.now.tree.now.nodes in
    let is = rw c.kids-kid-items.ensures at c.kid-item.is in
    let less = rw c.kids-kid-items.ensures at c.loop-kid-test.true in
    let deeper = kid-depth T c.args.n c.loop-kid.kid-index c.kid-item.result is less c.laws.ensures.ways_up c.laws.ensures.well_formed in
    let same = ap length (c.loop-kid.invariant.walks.joins refl).reading in (
      omega (arith, c.decreases, deeper, same, c.laws.ensures.ways_up.ancestors_bound c.kid-item.result),
      (outlived, kids-can c.args.self.now c.loop-kid.self c.args.source.now c.args.n c.args.copy c.loop-kid.kid-index c.kid-item.result _ c.requires.can c.loop-kid.invariant.walks is less c.laws.ensures.well_formed c.laws.ensures.ordered c.laws.ensures.ways_up),
    )

pub walk_kids-returns-in_err-walk-clause-shows : goal.walk_kids-returns-in_err-walk-clause-shows
walk_kids-returns-in_err-walk-clause-shows g t c =
    shows-passed _ _ _ _ c.from_residual.result c.in_err-walk.field-0.0 (is-err c.from_residual.result c.in_err-walk.field-0.0 c.from_residual.ensures.1)
    (shows-then _ _ _ _ _ _ tt (Err c.in_err-walk.field-0.0) c.loop-kid.invariant.shows c.in_err-walk.ensures.shows)

pub walk_kids-returns-in_err-walk-clause-cap : goal.walk_kids-returns-in_err-walk-clause-cap
walk_kids-returns-in_err-walk-clause-cap g t c = c.in_err-walk.ensures.cap ∙ c.loop-kid.invariant.cap

pub walk_kids-returns-in_err-walk-clause-walks : goal.walk_kids-returns-in_err-walk-clause-walks
walk_kids-returns-in_err-walk-clause-walks g t c =
    kids-passed _ _ _ _ _ _ _ c.from_residual.result c.in_err-walk.field-0.0 (is-err c.from_residual.result c.in_err-walk.field-0.0 c.from_residual.ensures.1)
    (kids-stop c.args.self.now c.loop-kid.self c.args.source.now c.args.n c.args.copy c.loop-kid.kid-index c.kid-item.result _ c.requires.can c.loop-kid.invariant.walks (rw c.kids-kid-items.ensures at c.kid-item.is) (rw c.kids-kid-items.ensures at c.loop-kid-test.true) c.laws.ensures.well_formed c.laws.ensures.ordered c.laws.ensures.ways_up
    c.walk.new.self _ (λ files are. c.loop-kid.invariant.shows.held ∙ are) c.in_err-walk.field-0.0 c.in_err-walk.ensures.walks)

pub walk_kids-loop-kid-smaller : goal.walk_kids-loop-kid-smaller
walk_kids-loop-kid-smaller g t c = omega (arith, c.loop-kid-test.true)

pub walk_kids-loop-kid-preserved : goal.walk_kids-loop-kid-preserved
walk_kids-loop-kid-preserved g t c = record {
  shows = shows-then _ _ _ _ _ _ tt (Ok tt) c.loop-kid.invariant.shows c.in_ok-walk.ensures.shows;
  cap = c.in_ok-walk.ensures.cap ∙ c.loop-kid.invariant.cap;
  walks =
      kids-more c.args.self.now c.loop-kid.self c.args.source.now c.args.n c.args.copy c.loop-kid.kid-index c.kid-item.result _ c.requires.can c.loop-kid.invariant.walks (rw c.kids-kid-items.ensures at c.kid-item.is) (rw c.kids-kid-items.ensures at c.loop-kid-test.true) c.laws.ensures.well_formed c.laws.ensures.ordered c.laws.ensures.ways_up
      c.walk.new.self _ (λ files are. c.loop-kid.invariant.shows.held ∙ are) c.laws-in-loop-kid.ensures.ways_up c.in_ok-walk.ensures.keeps c.in_ok-walk.ensures.walks;
}

pub walk_kids-returns-clause-shows : goal.walk_kids-returns-clause-shows
walk_kids-returns-clause-shows g t c = c.loop-kid.invariant.shows

pub walk_kids-returns-clause-cap : goal.walk_kids-returns-clause-cap
walk_kids-returns-clause-cap g t c = c.loop-kid.invariant.cap

pub walk_kids-returns-clause-walks : goal.walk_kids-returns-clause-walks
walk_kids-returns-clause-walks g t c =
    subst (λ (kids : List ℕ). WalksKids c.args.self.now c.loop-kid.self c.args.source.now c.args.n kids c.args.copy (Ok tt) (λ (files : Files). (g.S.Shelf.state c.args.shelf.now).files ≡ Some files))
    (all-taken (kids_of c.args.source.now.tree.now.nodes c.args.n) c.loop-kid.kid-index (rw c.kids-kid-items.ensures at c.loop-kid-test.false) (rw c.kids-kid-items.ensures at c.loop-kid.auto.kid-index-end)) c.loop-kid.invariant.walks

pub take-returns-in_err-name-clause-shows : goal.take-returns-in_err-name-clause-shows
take-returns-in_err-name-clause-shows g t c =
    shows-passed _ _ _ _ c.from_residual.result c.in_err-name.field-0.0 (is-err c.from_residual.result c.in_err-name.field-0.0 c.from_residual.ensures.1)
    (shows-refused (source_of c.args.self.now c.args.source.now) (standing_of c.args.self.now) c.args.n _ _ c.in_err-name.field-0.0 c.in_err-name.ensures.named)

pub take-returns-in_err-name-clause-cap : goal.take-returns-in_err-name-clause-cap
take-returns-in_err-name-clause-cap g t c = refl

pub take-returns-in_err-name-clause-keeps : goal.take-returns-in_err-name-clause-keeps
take-returns-in_err-name-clause-keeps g t c = on-err c.from_residual.result c.in_err-name.field-0.0 _ (is-err c.from_residual.result c.in_err-name.field-0.0 c.from_residual.ensures.1)

pub take-returns-in_err-name-clause-walks : goal.take-returns-in_err-name-clause-walks
take-returns-in_err-name-clause-walks g t c =
    walks-passed _ _ _ _ _ _ c.from_residual.result c.in_err-name.field-0.0 (is-err c.from_residual.result c.in_err-name.field-0.0 c.from_residual.ensures.1)
    (refused-walks c.args.self.now c.args.source.now c.args.n c.args.parent c.in_err-name.field-0.0 _ c.requires.can c.laws.ensures.ordered c.requires.include c.in_err-name.ensures.named)

pub take-take_file-requires-text-name : goal.take-take_file-requires-text-name
take-take_file-requires-text-name g t c lifetimes outlived = c.as_str.utf8

pub take-take_file-requires : goal.take-take_file-requires
take-take_file-requires g t c lifetimes outlived = (
  omega (arith, c.decreases),
  (outlived, (c.requires.can, (c.requires.include, name-depth c.args.self.now c.args.source.now c.args.n c.in_ok-name.name c.in_ok-name.ensures.named))),
)

pub take-returns-clause-shows : goal.take-returns-clause-shows
take-returns-clause-shows g t c = c.take_file.ensures.shows

pub take-returns-clause-cap : goal.take-returns-clause-cap
take-returns-clause-cap g t c = c.take_file.ensures.cap

pub take-returns-clause-keeps : goal.take-returns-clause-keeps
take-returns-clause-keeps g t c = c.take_file.ensures.keeps

pub take-returns-clause-walks : goal.take-returns-clause-walks
take-returns-clause-walks g t c =
    take-walks c.args.self.now c.take_file.new.self c.args.source.now c.args.n c.args.parent c.as_str.result.now c.take_file.result _ c.requires.can c.laws.ensures.ordered c.requires.include (rw c.as_str.ensures c.in_ok-name.ensures.named) c.take_file.ensures.takes

pub take_file-copy-requires-text-s : goal.take_file-copy-requires-text-s
take_file-copy-requires-text-s g t c κs = search rules

pub take_file-returns-in_err-told-clause-shows : goal.take_file-returns-in_err-told-clause-shows
take_file-returns-in_err-told-clause-shows g t c =
    shows-end (g.S.Shelf.state c.args.shelf.now) c.args.self.now.opened c.from_residual.result (is-err c.from_residual.result error.Memory c.from_residual.ensures.1)

pub take_file-returns-in_err-told-clause-cap : goal.take_file-returns-in_err-told-clause-cap
take_file-returns-in_err-told-clause-cap g t c = refl

pub take_file-returns-in_err-told-clause-keeps : goal.take_file-returns-in_err-told-clause-keeps
take_file-returns-in_err-told-clause-keeps g t c =
    on-err c.from_residual.result error.Memory (Keeps c.args.self.now c.args.self.now c.args.source.now c.args.n) (is-err c.from_residual.result error.Memory c.from_residual.ensures.1)

pub take_file-returns-in_err-told-clause-takes : goal.take_file-returns-in_err-told-clause-takes
take_file-returns-in_err-told-clause-takes g t c =
    takes-passed c.args.self.now c.args.self.now c.args.source.now c.args.n c.args.parent c.args.name.now _ c.from_residual.result error.Memory
    (is-err c.from_residual.result error.Memory c.from_residual.ensures.1)
    (takes-memory c.args.self.now c.args.self.now c.args.source.now c.args.n c.args.parent c.args.name.now _)

pub take_file-open-requires-text-name : goal.take_file-open-requires-text-name
take_file-open-requires-text-name g t c κs within = search rules

pub take_file-returns-in_err-tree-clause-shows : goal.take_file-returns-in_err-tree-clause-shows
take_file-returns-in_err-tree-clause-shows g t c =
    shows-passed (g.S.Shelf.state c.args.shelf.now) (g.S.Shelf.state c.open.new.shelf) c.args.self.now.opened c.open.new.self.opened c.from_residual-in_err-tree.result c.in_err-tree.field-0.0
    (is-err c.from_residual-in_err-tree.result c.in_err-tree.field-0.0 c.from_residual-in_err-tree.ensures.1)
    (shows-error {A = Contents} (g.S.Shelf.state c.args.shelf.now) (g.S.Shelf.state c.open.new.shelf) c.args.self.now.opened c.open.new.self.opened c.in_err-tree.field-0.0 c.in_err-tree.ensures.shows)

pub take_file-returns-in_err-tree-clause-cap : goal.take_file-returns-in_err-tree-clause-cap
take_file-returns-in_err-tree-clause-cap g t c = ap (λ (j : Joiner). j.tree.pair_cap) c.in_err-tree.ensures.same

pub take_file-returns-in_err-tree-clause-keeps : goal.take_file-returns-in_err-tree-clause-keeps
take_file-returns-in_err-tree-clause-keeps g t c =
    on-err c.from_residual-in_err-tree.result c.in_err-tree.field-0.0 (Keeps c.args.self.now c.open.new.self c.args.source.now c.args.n)
    (is-err c.from_residual-in_err-tree.result c.in_err-tree.field-0.0 c.from_residual-in_err-tree.ensures.1)

pub take_file-returns-in_err-tree-clause-takes : goal.take_file-returns-in_err-tree-clause-takes
take_file-returns-in_err-tree-clause-takes g t c =
    takes-passed c.args.self.now c.open.new.self c.args.source.now c.args.n c.args.parent c.args.name.now _ c.from_residual-in_err-tree.result c.in_err-tree.field-0.0
    (is-err c.from_residual-in_err-tree.result c.in_err-tree.field-0.0 c.from_residual-in_err-tree.ensures.1)
    (unopened-takes c.args.self.now c.open.new.self c.args.source.now c.args.n c.args.parent c.args.name.now c.in_err-tree.field-0.0 _
    c.in_err-tree.ensures.told c.in_err-tree.ensures.same c.in_err-tree.ensures.opened)

pub take_file-depth-requires : goal.take_file-depth-requires
take_file-depth-requires g t c = c.requires.1.1.1.0.lives

pub take_file-overflow_add-above : goal.take_file-overflow_add-above
take_file-overflow_add-above g t c =
    let can = c.requires.1.1.1.0 in
    let is = c.requires.1.1.1.1.0 in
    omega (
      arith,
      c.depth.ensures,
      node-shallow c.args.self.now c.args.source.now c.args.n c.args.parent can c.laws.ensures.ordered (ap is_element (element-kind c.args.source.now.tree.now.nodes c.args.n is)),
    )

pub take_file-overflow_sub-above : goal.take_file-overflow_sub-above
take_file-overflow_sub-above g t c =
    let can = c.requires.1.1.1.0 in
    let is = c.requires.1.1.1.1.0 in
    omega (
      arith,
      c.depth.ensures,
      element-depth c.args.source.now.tree.now.nodes c.args.n c.laws.ensures.well_formed c.laws.ensures.ways_up can.lives (element-kind c.args.source.now.tree.now.nodes c.args.n is),
    )

pub take_file-judge-requires-clause-lives : goal.take_file-judge-requires-clause-lives
take_file-judge-requires-clause-lives g t c = c.requires.1.1.1.0.lives

pub take_file-judge-requires-clause-room : goal.take_file-judge-requires-clause-room
take_file-judge-requires-clause-room g t c = omega (arith, c.requires.1.1.1.0.room, ap (λ (j : Joiner). j.nodes) c.in_ok-tree.ensures.same)

pub take_file-judge-requires-clause-few : goal.take_file-judge-requires-clause-few
take_file-judge-requires-clause-few g t c = subst (λ (m : ℕ). m ≤ MAX_LIVE_NODES) (sym (ap (λ (j : Joiner). j.nodes) c.in_ok-tree.ensures.same)) c.requires.1.1.1.0.few

pub take_file-judge-requires-clause-bytes : goal.take_file-judge-requires-clause-bytes
take_file-judge-requires-clause-bytes g t c = omega (arith, c.requires.1.1.1.0.bytes, ap (λ (j : Joiner). j.text) c.in_ok-tree.ensures.same)

pub take_file-judge-requires-clause-little : goal.take_file-judge-requires-clause-little
take_file-judge-requires-clause-little g t c = subst (λ (m : ℕ). m ≤ MAX_LIVE_TEXT_BYTES) (sym (ap (λ (j : Joiner). j.text) c.in_ok-tree.ensures.same)) c.requires.1.1.1.0.little

pub take_file-judge-requires-clause-shallow : goal.take_file-judge-requires-clause-shallow
take_file-judge-requires-clause-shallow g t c =
    let can = c.requires.1.1.1.0 in
    let is = c.requires.1.1.1.1.0 in
    omega (
      arith,
      c.depth.ensures,
      node-shallow c.args.self.now c.args.source.now c.args.n c.args.parent can c.laws.ensures.ordered (ap is_element (element-kind c.args.source.now.tree.now.nodes c.args.n is)),
    )

pub take_file-fact_in-name : goal.take_file-fact_in-name
take_file-fact_in-name g t c = search rules

pub take_file-walk_included-requires : goal.take_file-walk_included-requires
take_file-walk_included-requires g t c κs within =
    let reading : length c.judge.new.self.reading.items ≡ length c.args.self.now.reading.items = ap (λ (j : Joiner). length j.reading.items) c.in_ok-judge.ensures.same ∙ ap (λ (j : Joiner). length j.reading.items) c.in_ok-tree.ensures.same in (
      omega (arith, c.requires.1.0, reading),
      (
        within,
        (
          fitted-can c.args.self.now c.open.new.self c.judge.new.self c.args.source.now _ c.args.n c.args.parent
              (record {
                can = c.requires.1.1.1.0;
                is = c.requires.1.1.1.1.0;
                formed = c.laws.ensures.well_formed;
                ordered = c.laws.ensures.ordered;
                ways = c.laws.ensures.ways_up;
                same = c.in_ok-tree.ensures.same;
                placed_is = c.in_ok-judge.ensures.same;
                nodes = c.in_ok-judge.ensures.nodes;
                text = c.in_ok-judge.ensures.text;
                fits = sym c.in_ok-judge.ensures.judged;
                above_is = ap (λ (depth : ℕ). (c.args.source.now.above + depth) - 1) c.depth.ensures;
                is_file = c.in_ok-tree.ensures.is_file;
                its_formed = c.laws-2.ensures.well_formed;
                its_ordered = c.laws-2.ensures.ordered;
                its_ways = c.laws-2.ensures.ways_up;
              }),
          omega (arith, reading, c.requires.1.1.1.1.1),
        ),
      ),
    )

pub take_file-returns-in_err-judge-clause-shows : goal.take_file-returns-in_err-judge-clause-shows
take_file-returns-in_err-judge-clause-shows g t c =
    let judged = c.in_err-judge.ensures.judged in
    shows-passed (g.S.Shelf.state c.args.shelf.now) (g.S.Shelf.state c.open.new.shelf) c.args.self.now.opened c.judge.new.self.opened c.from_residual-in_err-judge.result (error.Fault (fault_of judged.0 c.in_ok-told.told))
    (judged-err c.from_residual-in_err-judge.result c.in_err-judge.field-0.0 (error.Fault (fault_of judged.0 c.in_ok-told.told)) c.from_residual-in_err-judge.ensures.1 judged.2)
    (shows-unfit (g.S.Shelf.state c.args.shelf.now) (g.S.Shelf.state c.open.new.shelf) c.args.self.now.opened c.open.new.self.opened c.judge.new.self.opened c.in_ok-tree.tree judged.0 c.args.name.now c.in_ok-told.told
    c.in_ok-tree.ensures.shows (ap (λ (j : Joiner). j.opened) c.in_err-judge.ensures.same) (c.in_ok-tree.ensures.noted (read≢memory c.in_ok-tree.tree)) c.in_ok-told.ensures
    (unfit-kind c.args.source.now.tree.now.nodes c.args.n c.in_ok-tree.tree.nodes ((c.args.source.now.above + c.depth.result) - 1) (standing_of c.open.new.self) judged.0 (sym judged.1)))

pub take_file-returns-in_err-judge-clause-cap : goal.take_file-returns-in_err-judge-clause-cap
take_file-returns-in_err-judge-clause-cap g t c = ap (λ (j : Joiner). j.tree.pair_cap) c.in_err-judge.ensures.same ∙ ap (λ (j : Joiner). j.tree.pair_cap) c.in_ok-tree.ensures.same

pub take_file-returns-in_err-judge-clause-keeps : goal.take_file-returns-in_err-judge-clause-keeps
take_file-returns-in_err-judge-clause-keeps g t c =
    on-err c.from_residual-in_err-judge.result c.in_err-judge.field-0.0 (Keeps c.args.self.now c.judge.new.self c.args.source.now c.args.n)
    (is-err c.from_residual-in_err-judge.result c.in_err-judge.field-0.0 c.from_residual-in_err-judge.ensures.1)

pub take_file-returns-in_err-judge-clause-takes : goal.take_file-returns-in_err-judge-clause-takes
take_file-returns-in_err-judge-clause-takes g t c =
    let can = c.requires.1.1.1.0 in
    let is = c.requires.1.1.1.1.0 in
    let judged = c.in_err-judge.ensures.judged in
    takes-passed c.args.self.now c.judge.new.self c.args.source.now c.args.n c.args.parent c.args.name.now _ c.from_residual-in_err-judge.result (error.Fault (fault_of judged.0 c.in_ok-told.told))
    (judged-err c.from_residual-in_err-judge.result c.in_err-judge.field-0.0 (error.Fault (fault_of judged.0 c.in_ok-told.told)) c.from_residual-in_err-judge.ensures.1 judged.2)
    (subst (λ (name : List ℕ). TakesFile c.args.self.now c.judge.new.self c.args.source.now c.args.n c.args.parent c.args.name.now (Err (error.Fault (fault_of judged.0 name))) (λ (files : Files). (g.S.Shelf.state c.args.shelf.now).files ≡ Some files))
    (sym c.in_ok-told.ensures)
    (unfit-takes c.args.self.now c.open.new.self c.args.source.now c.args.n c.args.parent c.args.name.now c.in_ok-tree.tree.nodes ((c.args.source.now.above + c.depth.result) - 1) _
    c.in_ok-tree.ensures.told c.in_ok-tree.ensures.same (c.in_ok-tree.ensures.opened (read≢memory c.in_ok-tree.tree))
    (above-include c.args.self.now c.args.source.now c.args.n c.args.parent can is c.laws.ensures.well_formed c.laws.ensures.ways_up c.depth.result c.depth.ensures)
    c.judge.new.self judged.0 c.in_err-judge.ensures.kept (sym judged.1)))

pub take_file-returns-clause-shows : goal.take_file-returns-clause-shows
take_file-returns-clause-shows g t c =
    shows-then (g.S.Shelf.state c.args.shelf.now) (g.S.Shelf.state c.open.new.shelf) (g.S.Shelf.state c.walk_included.new.shelf) c.args.self.now.opened c.judge.new.self.opened c.walk_included.new.self.opened
    c.in_ok-tree.tree c.walk_included.result
    (subst (λ (names : List (List ℕ)). Shows {T = Contents} (g.S.Shelf.state c.args.shelf.now) (g.S.Shelf.state c.open.new.shelf) c.args.self.now.opened names (Ok c.in_ok-tree.tree)) (sym (ap (λ (j : Joiner). j.opened) c.in_ok-judge.ensures.same)) c.in_ok-tree.ensures.shows)
    c.walk_included.ensures.shows

pub take_file-returns-clause-cap : goal.take_file-returns-clause-cap
take_file-returns-clause-cap g t c =
    c.walk_included.ensures.cap ∙ (ap (λ (j : Joiner). j.tree.pair_cap) c.in_ok-judge.ensures.same ∙ ap (λ (j : Joiner). j.tree.pair_cap) c.in_ok-tree.ensures.same)

pub take_file-returns-clause-keeps : goal.take_file-returns-clause-keeps
take_file-returns-clause-keeps g t c =
    on-then c.walk_included.result _ (Keeps c.args.self.now c.walk_included.new.self c.args.source.now c.args.n)
    (fitted-keeps c.args.self.now c.open.new.self c.judge.new.self c.args.source.now _ c.args.n c.args.parent
    (record {
      can = c.requires.1.1.1.0;
      is = c.requires.1.1.1.1.0;
      formed = c.laws.ensures.well_formed;
      ordered = c.laws.ensures.ordered;
      ways = c.laws.ensures.ways_up;
      same = c.in_ok-tree.ensures.same;
      placed_is = c.in_ok-judge.ensures.same;
      nodes = c.in_ok-judge.ensures.nodes;
      text = c.in_ok-judge.ensures.text;
      fits = sym c.in_ok-judge.ensures.judged;
      above_is = ap (λ (depth : ℕ). (c.args.source.now.above + depth) - 1) c.depth.ensures;
      is_file = c.in_ok-tree.ensures.is_file;
      its_formed = c.laws-2.ensures.well_formed;
      its_ordered = c.laws-2.ensures.ordered;
      its_ways = c.laws-2.ensures.ways_up;
    })
    c.walk_included.new.self) c.walk_included.ensures.keeps

pub take_file-returns-clause-takes : goal.take_file-returns-clause-takes
take_file-returns-clause-takes g t c =
    fitted-takes c.args.self.now c.open.new.self c.judge.new.self c.args.source.now _ c.args.n c.args.parent
    (record {
      can = c.requires.1.1.1.0;
      is = c.requires.1.1.1.1.0;
      formed = c.laws.ensures.well_formed;
      ordered = c.laws.ensures.ordered;
      ways = c.laws.ensures.ways_up;
      same = c.in_ok-tree.ensures.same;
      placed_is = c.in_ok-judge.ensures.same;
      nodes = c.in_ok-judge.ensures.nodes;
      text = c.in_ok-judge.ensures.text;
      fits = sym c.in_ok-judge.ensures.judged;
      above_is = ap (λ (depth : ℕ). (c.args.source.now.above + depth) - 1) c.depth.ensures;
      is_file = c.in_ok-tree.ensures.is_file;
      its_formed = c.laws-2.ensures.well_formed;
      its_ordered = c.laws-2.ensures.ordered;
      its_ways = c.laws-2.ensures.ways_up;
    })
    c.walk_included.new.self c.args.name.now _ (λ (files : Files). (g.S.Shelf.state c.open.new.shelf).files ≡ Some files) c.walk_included.result c.walk_included.ensures.walks
    (λ files are. c.in_ok-tree.ensures.shows.held ∙ are) c.in_ok-tree.ensures.told (c.in_ok-tree.ensures.opened (read≢memory c.in_ok-tree.tree)) refl

pub walk_included-enter-requires-text-name : goal.walk_included-enter-requires-text-name
walk_included-enter-requires-text-name g t c κs = search rules

pub walk_included-returns-in_err-enter-clause-shows : goal.walk_included-returns-in_err-enter-clause-shows
walk_included-returns-in_err-enter-clause-shows g t c =
    subst (λ (names : List (List ℕ)). Shows {T = Unit {0}} (g.S.Shelf.state c.args.shelf.now) (g.S.Shelf.state c.args.shelf.now) c.args.self.now.opened names c.from_residual.result) (sym c.in_err-enter.ensures.opened)
    (shows-end (g.S.Shelf.state c.args.shelf.now) c.args.self.now.opened c.from_residual.result (is-err c.from_residual.result error.Memory c.from_residual.ensures.1))

pub walk_included-returns-in_err-enter-clause-cap : goal.walk_included-returns-in_err-enter-clause-cap
walk_included-returns-in_err-enter-clause-cap g t c = ap (λ (t : Contents). t.pair_cap) c.in_err-enter.ensures.tree

pub walk_included-returns-in_err-enter-clause-keeps : goal.walk_included-returns-in_err-enter-clause-keeps
walk_included-returns-in_err-enter-clause-keeps g t c =
    on-err c.from_residual.result error.Memory (Keeps c.args.self.now c.enter.new.self c.args.file.now (document_element c.args.file.now.tree.now.nodes)) (is-err c.from_residual.result error.Memory c.from_residual.ensures.1)

pub walk_included-returns-in_err-enter-clause-walks : goal.walk_included-returns-in_err-enter-clause-walks
walk_included-returns-in_err-enter-clause-walks g t c =
    file-passed c.args.self.now c.enter.new.self c.args.file.now c.args.parent _ c.from_residual.result error.Memory (is-err c.from_residual.result error.Memory c.from_residual.ensures.1)
    (file-memory c.args.self.now c.enter.new.self c.args.file.now c.args.parent _)

pub walk_included-walk-requires : goal.walk_included-walk-requires
walk_included-walk-requires g t c κs within = (
  omega (arith, c.decreases, c.requires.files, ap length c.in_ok-enter.ensures.entered, length-append c.args.self.now.reading.items (c.args.file.now.name.now ∷ [])),
  (
    within,
    subst (λ (m : ℕ). CanWalk c.enter.new.self c.args.file.now m c.args.parent) (sym c.document_element-element.ensures)
        (entered-can c.args.self.now c.enter.new.self c.args.file.now c.args.parent c.in_ok-enter.ensures.tree c.in_ok-enter.ensures.nodes c.in_ok-enter.ensures.text c.in_ok-enter.ensures.entered c.requires.files c.requires.can),
  ),
)

pub walk_included-returns-in_err-walk-clause-shows : goal.walk_included-returns-in_err-walk-clause-shows
walk_included-returns-in_err-walk-clause-shows g t c =
    shows-passed (g.S.Shelf.state c.args.shelf.now) (g.S.Shelf.state c.walk.new.shelf) c.args.self.now.opened c.walk.new.self.opened c.from_residual-in_err-walk.result c.in_err-walk.field-0.0
    (is-err c.from_residual-in_err-walk.result c.in_err-walk.field-0.0 c.from_residual-in_err-walk.ensures.1)
    (subst (λ (names : List (List ℕ)). Shows {T = Unit {0}} (g.S.Shelf.state c.args.shelf.now) (g.S.Shelf.state c.walk.new.shelf) names c.walk.new.self.opened (Err c.in_err-walk.field-0.0)) c.in_ok-enter.ensures.opened c.in_err-walk.ensures.shows)

pub walk_included-returns-in_err-walk-clause-cap : goal.walk_included-returns-in_err-walk-clause-cap
walk_included-returns-in_err-walk-clause-cap g t c = c.in_err-walk.ensures.cap ∙ ap (λ (t : Contents). t.pair_cap) c.in_ok-enter.ensures.tree

pub walk_included-returns-in_err-walk-clause-keeps : goal.walk_included-returns-in_err-walk-clause-keeps
walk_included-returns-in_err-walk-clause-keeps g t c =
    on-err c.from_residual-in_err-walk.result c.in_err-walk.field-0.0 (Keeps c.args.self.now c.walk.new.self c.args.file.now (document_element c.args.file.now.tree.now.nodes))
    (is-err c.from_residual-in_err-walk.result c.in_err-walk.field-0.0 c.from_residual-in_err-walk.ensures.1)

pub walk_included-returns-in_err-walk-clause-walks : goal.walk_included-returns-in_err-walk-clause-walks
walk_included-returns-in_err-walk-clause-walks g t c =
    file-passed c.args.self.now c.walk.new.self c.args.file.now c.args.parent _ c.from_residual-in_err-walk.result c.in_err-walk.field-0.0
    (is-err c.from_residual-in_err-walk.result c.in_err-walk.field-0.0 c.from_residual-in_err-walk.ensures.1)
    (file-stops c.args.self.now c.enter.new.self c.walk.new.self c.args.file.now c.args.parent c.in_ok-enter.ensures.tree c.in_ok-enter.ensures.nodes c.in_ok-enter.ensures.text c.in_ok-enter.ensures.opened
    c.in_ok-enter.ensures.entered c.laws.ensures.well_formed c.laws.ensures.ordered c.laws.ensures.ways_up c.requires.can.is_file _ (Err c.in_err-walk.field-0.0)
    (subst (λ (m : ℕ). Walks c.enter.new.self c.walk.new.self c.args.file.now m c.args.parent (Err c.in_err-walk.field-0.0) (λ (files : Files). (g.S.Shelf.state c.args.shelf.now).files ≡ Some files)) c.document_element-element.ensures c.in_err-walk.ensures.walks)
    c.in_err-walk.field-0.0 refl)

pub walk_included-returns-clause-shows : goal.walk_included-returns-clause-shows
walk_included-returns-clause-shows g t c =
    subst (λ (names : List (List ℕ)). Shows {T = Unit {0}} (g.S.Shelf.state c.args.shelf.now) (g.S.Shelf.state c.walk.new.shelf) c.args.self.now.opened names (Ok tt)) (sym c.leave.ensures.opened)
    (subst (λ (names : List (List ℕ)). Shows {T = Unit {0}} (g.S.Shelf.state c.args.shelf.now) (g.S.Shelf.state c.walk.new.shelf) names c.walk.new.self.opened (Ok tt)) c.in_ok-enter.ensures.opened c.in_ok-walk.ensures.shows)

pub walk_included-returns-clause-cap : goal.walk_included-returns-clause-cap
walk_included-returns-clause-cap g t c = ap (λ (t : Contents). t.pair_cap) c.leave.ensures.tree ∙ (c.in_ok-walk.ensures.cap ∙ ap (λ (t : Contents). t.pair_cap) c.in_ok-enter.ensures.tree)

pub walk_included-returns-clause-keeps : goal.walk_included-returns-clause-keeps
walk_included-returns-clause-keeps g t c =
    file-keeps c.args.self.now c.enter.new.self c.walk.new.self c.args.file.now c.args.parent c.in_ok-enter.ensures.tree c.in_ok-enter.ensures.nodes c.in_ok-enter.ensures.text c.in_ok-enter.ensures.opened
    c.in_ok-enter.ensures.entered c.laws.ensures.well_formed c.laws.ensures.ordered c.laws.ensures.ways_up c.requires.can.is_file _ (Ok tt)
    (subst (λ (m : ℕ). Walks c.enter.new.self c.walk.new.self c.args.file.now m c.args.parent (Ok tt) (λ (files : Files). (g.S.Shelf.state c.args.shelf.now).files ≡ Some files)) c.document_element-element.ensures c.in_ok-walk.ensures.walks)
    (subst (λ (m : ℕ). Keeps c.enter.new.self c.walk.new.self c.args.file.now m) c.document_element-element.ensures c.in_ok-walk.ensures.keeps) c.leave.new.self c.leave.ensures.tree c.leave.ensures.nodes c.leave.ensures.text
    (c.leave.ensures.left c.args.self.now.reading.items c.args.file.now.name.now (c.in_ok-walk.ensures.keeps.reading ∙ c.in_ok-enter.ensures.entered))

pub walk_included-returns-clause-walks : goal.walk_included-returns-clause-walks
walk_included-returns-clause-walks g t c =
    file-walks c.args.self.now c.enter.new.self c.walk.new.self c.args.file.now c.args.parent c.in_ok-enter.ensures.tree c.in_ok-enter.ensures.nodes c.in_ok-enter.ensures.text c.in_ok-enter.ensures.opened
    c.in_ok-enter.ensures.entered c.laws.ensures.well_formed c.laws.ensures.ordered c.laws.ensures.ways_up c.requires.can.is_file _ (Ok tt)
    (subst (λ (m : ℕ). Walks c.enter.new.self c.walk.new.self c.args.file.now m c.args.parent (Ok tt) (λ (files : Files). (g.S.Shelf.state c.args.shelf.now).files ≡ Some files)) c.document_element-element.ensures c.in_ok-walk.ensures.walks)
    c.leave.new.self c.leave.ensures.tree c.leave.ensures.nodes c.leave.ensures.text c.leave.ensures.opened
