-- The path at the end of those that are known.
use Rattle.std.proofs.Common.{◌≡◌, ◌<◌, ◌∙◌, ap, arith, get_or, length, map, subst}
use Rattle.xp_typed_tree.specs.TypedView.{path_seen, pattern_step_seen}
use Rattle.xslt_match.specs.Kept.{last_step}
use Rattle.xslt_match.specs.inner.Named.{all_named}
use Rattle.xslt_match.proofs.Chaining.{path_there}
use Rattle.xslt_match.proofs.Keeping.{if_all, known_pushed, known_still}
use Rattle.xslt_match.proofs.kept.KeptSteps.reach.Goals as goal

pub loop-paths-preserved : goal.loop-paths-preserved
loop-paths-preserved c = λ C L before.
    let kept = c.loop-paths.invariant C L before in
    let path = c.index-paths-len.result in
    let end = length c.loop-paths.self.paths.items in
    let count : c.len-in-loop-paths.result ≡ end = omega (arith, c.len-in-loop-paths.ensures, c.loop-paths.self.paths.ok.0) in
    let below : end < length c.paths-paths.result.now = omega (arith, c.loop-paths-test.true, c.len.ensures, c.loop-paths.self.paths.ok.0) in
    let is : path ≡ get_or c.paths-paths.result.now end path = subst (λ i. path ≡ get_or c.paths-paths.result.now i path) count c.index-paths-len.is in
    record {
      selected = kept.selected;
      paths = known_pushed C.names c.args.pattern.now c.loop-paths.self.paths.items c.push.new.self.items (path_seen path)
          (record { test = c.nothing.result; named = c.all_named.result }) c.in_ok-push.ensures.items
          (path_there c.args.pattern.now c.paths-paths.result.now end path c.paths-paths.ensures.paths below is)
          (record {
            test = if_all (last_step (path_seen path).steps) (λ s. c.nothing.ensures C.names s.test);
            named = c.all_named.ensures ∙ ap (λ ss. all_named (map pattern_step_seen ss)) c.deref.ensures.value;
          }) kept.paths;
    }

pub returns-in_err-push : goal.returns-in_err-push
returns-in_err-push c = λ C L before.
    let kept = c.loop-paths.invariant C L before in
    record {
      selected = kept.selected;
      paths = known_still C.names c.args.pattern.now c.loop-paths.self.paths.items c.push.new.self.items c.in_err-push.ensures.items kept.paths;
    }
