-- One character more, up to all of them.
use Rattle.std.proofs.Common.{◌≡◌, string_bytes, chars, map-id, sym, ◌∙◌, subst}
use Rattle.std.proofs.lemmas.Result.{on_ok_weaker}
use Rattle.std.proofs.lemmas.Iterator.{YieldsList-from_chars}
use Rattle.std.proofs.lemmas.Iterator.Consumers.{YieldsList-end}
use Rattle.sch_source.specs.inner.Ids.{IdsRead}
use Rattle.sch_source.proofs.IdLemmas.{read-all, read-next}
use Rattle.sch_source.proofs.ids.push_ids.Goals as goal

pub loop-c-preserved : goal.loop-c-preserved
loop-c-preserved c =
    read-next c.loop-c.yielded (string_bytes c.loop-c.current) (string_bytes c.push_character.new.current) c.loop-c.ids c.push_character.new.ids c.in-Some.c
    c.loop-c.invariant c.in_ok-push_character.ensures.ended c.in_ok-push_character.ensures.longer

pub returns : goal.returns
returns c =
    let t = YieldsList-end (YieldsList-from_chars c.args.text.now c.utf8.text cc) c.loop-c.yielded _ c.loop-c.yielded_by _ _ c.in-None.is c.next.ensures.steps in
    let all : c.loop-c.yielded ≡ chars c.args.text.now = sym (map-id c.loop-c.yielded) ∙ t.0 in
    on_ok_weaker c.end_id.result
    (λ ended. ended.0 ∙ read-all c.args.text.now (string_bytes c.loop-c.current) c.loop-c.ids (subst (λ read. IdsRead read c.loop-c.ids (string_bytes c.loop-c.current)) all c.loop-c.invariant))
    c.end_id.ensures
