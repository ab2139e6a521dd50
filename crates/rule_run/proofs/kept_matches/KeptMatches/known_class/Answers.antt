use Rattle.std.proofs.Common.{◌≡◌, ◌∙◌, ◌<◌, length, get_or, None, Some, refl, subst, sym, arith}
use Rattle.std.specs.Prelude.{IfSome}
use Rattle.std.proofs.lemmas.List.{get_or_read}
use Rattle.xslt_match.specs.Refusing.{IsOfClass}
use Rattle.rule_run.specs.Classes.{AreRefused}
use Rattle.rule_run.specs.KeptMatches.{AreKept}
use Rattle.rule_run.proofs.ClassesKept.{known_replaced}
use Rattle.rule_run.proofs.kept_matches.KeptMatches.known_class.Goals as goal
use Rattle.rule_run.proofs.kept_matches.KeptMatches.known_class.Goals.{in-Some+else-is, in_default}

pub returns-then-is-clause-known : goal.returns-then-is-clause-known
returns-then-is-clause-known c = λ L kept.
    let below : c.slot-slot.result < length c.args.self.now.classes.items = omega (arith, c.slot-slot.ensures, c.requires.there) in
    let there : get_or c.args.self.now.classes.items c.slot-slot.result None ≡ Some c.in-Some.known =
    sym (get_or_read c.args.self.now.classes.items c.slot-slot.result c.index.result.now below c.index.ensures None) ∙ c.in-Some.is in (
      subst (λ class. IsOfClass c.args.tree.now class c.args.n) (sym (c.is.ensures c.if-is.true)) c.of-class.ensures,
      subst (λ o. IfSome o (AreRefused c.args.tree.now c.args.rules.now)) there (kept.classes c.slot-slot.result),
    )

pub returns-clause-kept : goal.returns-clause-kept
returns-clause-kept c = λ L kept.
    let same : c.args.self.now ≡ c.match-index.self = elim c.match-index.branch [ in-Some+else-is w ↦ sym w.self-is | in_default w ↦ sym w.self-is ] in
    let before : AreKept c.args.tree.now L c.args.rules.now c.match-index.self = subst (AreKept c.args.tree.now L c.args.rules.now) same kept in
    record {
      steps = before.steps;
      classes = known_replaced c.args.tree.now c.args.rules.now c.match-index.self.classes.items _ c.slot-slot.result c.learn-known.result refl c.learn-known.ensures.refused before.classes;
    }
