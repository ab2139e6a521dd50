-- The step is the one at which the path ends.
use Rattle.std.proofs.Common.{refl, subst, sym}
use Rattle.std.specs.Prelude.{IfSome}
use Rattle.std.proofs.lemmas.Option.{slice_get_read}
use Rattle.xp_typed_tree.specs.TypedView.{path_seen}
use Rattle.xslt_match.specs.Kept.{IsKnown}
use Rattle.xslt_match.specs.KnownTests.{IsKnownTest}
use Rattle.xslt_match.proofs.Keeping.{known_replaced}
use Rattle.xslt_match.proofs.matching.Matcher.passes_last.Goals as goal

pub passes-requires-clause-known : goal.passes-requires-clause-known
passes-requires-clause-known c =
    subst (λ o. IfSome o (λ s. IsKnownTest c.args.self.now.evaluator.caller.tree.now.names s.test c.in-Some.known.now.test)) c.requires.last
    (c.requires.kept.paths c.args.at.now.number (path_seen c.args.at.now.path.now) c.in-Some.known.now c.requires.placed.there
    (slice_get_read c.args.kept.now.paths.items _ c.args.at.now.number c.in-Some.known.now refl c.in-Some.ensures.item.3.0 c.in-Some.ensures.value)).test

pub returns-in-Some-clause-kept : goal.returns-in-Some-clause-kept
returns-in-Some-clause-kept c =
    let m = c.args.self.now in
    let p = path_seen c.args.at.now.path.now in
    let before : IsKnown m.evaluator.caller.tree.now.names p c.in-Some.known.now =
    c.requires.kept.paths c.args.at.now.number p c.in-Some.known.now c.requires.placed.there
    (slice_get_read c.args.kept.now.paths.items _ c.args.at.now.number c.in-Some.known.now refl c.in-Some.ensures.item.3.0 c.in-Some.ensures.value) in
    record {
      selected = c.requires.kept.selected;
      paths = known_replaced m.evaluator.caller.tree.now.names m.pattern.now c.args.kept.now.paths.items _ c.args.at.now.number p
          (record { test = c.passes.new.self; named = c.in-Some.known.now.named }) c.requires.placed.there refl
          (record {
            test = subst (λ o. IfSome o (λ s. IsKnownTest m.evaluator.caller.tree.now.names s.test c.passes.new.self)) (sym c.requires.last) c.passes.ensures.known;
            named = before.named;
          }) c.requires.kept.paths;
    }
