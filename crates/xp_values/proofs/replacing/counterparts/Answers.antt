-- One character more, which counts where it is new.
use Rattle.std.proofs.Common.{◌≡◌, chars, cond, eqb, None, Some, map-id, sym, ap, ◌∙◌, rules}
use Rattle.std.specs.Option.{option_or}
use Rattle.std.specs.Str.Iter.{chars_rest}
use Rattle.std.proofs.lemmas.Iterator.{YieldsList-from_chars}
use Rattle.std.proofs.lemmas.Iterator.Consumers.{YieldsList-end}
use Rattle.xp_values.specs.Texts.{counterpart}
use Rattle.xp_values.proofs.ReplaceLemmas.{one_counterpart, beside_start, beside_more}
use Rattle.xp_values.proofs.replacing.counterparts.Goals as goal

pub loop-c-init : goal.loop-c-init
loop-c-init c = record { map_so_far = λ q. search rules; beside = rw c.chars-others.ensures.rest (beside_start c.args.to.now c.utf8.to) }

pub loop-c-preserved : goal.loop-c-preserved
loop-c-preserved c =
    let to = chars c.args.to.now in
    let was = c.loop-c.invariant in
    record {
      map_so_far = λ q.
          c.in_ok-put_first.ensures q
          ∙ ap (λ kept. option_or kept (cond (eqb c.in-Some.c q) (Some c.next-in-loop-c.result) None)) (was.map_so_far q)
          ∙ sym (one_counterpart c.loop-c.yielded to (chars_rest c.loop-c.others) c.in-Some.c c.next-in-loop-c.result was.beside c.next-in-loop-c.ensures.steps.2 q);
      beside = beside_more c.loop-c.yielded to c.in-Some.c c.loop-c.others c.next-in-loop-c.new.self c.next-in-loop-c.result was.beside c.next-in-loop-c.ensures.steps;
    }

pub returns : goal.returns
returns c =
    let t = YieldsList-end (YieldsList-from_chars c.args.from.now c.utf8.from cc) c.loop-c.yielded _ c.loop-c.yielded_by _ _ c.in-None.is c.next.ensures.steps in
    let all : c.loop-c.yielded ≡ chars c.args.from.now = sym (map-id c.loop-c.yielded) ∙ t.0 in
    λ q. c.loop-c.invariant.map_so_far q ∙ ap (λ l. counterpart l (chars c.args.to.now) q) all
