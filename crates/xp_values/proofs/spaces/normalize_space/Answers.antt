-- One character more, up to all of them.
use Rattle.std.proofs.Common.{◌≡◌, string_bytes, chars, map-id, sym, ap, ◌∙◌}
use Rattle.std.specs.Prelude.{encode_utf8_all}
use Rattle.std.proofs.lemmas.Iterator.{YieldsList-from_chars}
use Rattle.std.proofs.lemmas.Iterator.Consumers.{YieldsList-end}
use Rattle.xp_values.specs.Texts.{squeezed, without_front_spaces}
use Rattle.xp_values.proofs.SpaceLemmas.{normalized_more}
use Rattle.xp_values.proofs.spaces.normalize_space.Goals as goal

pub loop-c-preserved : goal.loop-c-preserved
loop-c-preserved c =
    normalized_more c.loop-c.yielded (string_bytes c.loop-c.text) (string_bytes c.push_normalized.new.text) c.loop-c.pending c.in_ok-pending.pending c.in-Some.c
    c.loop-c.invariant c.in_ok-pending.ensures.space c.in_ok-pending.ensures.word

pub returns : goal.returns
returns c =
    let t = YieldsList-end (YieldsList-from_chars c.args.s.now c.utf8.s cc) c.loop-c.yielded _ c.loop-c.yielded_by _ _ c.in-None.is c.next.ensures.steps in
    let all : c.loop-c.yielded ≡ chars c.args.s.now = sym (map-id c.loop-c.yielded) ∙ t.0 in
    c.from.ensures ∙ (c.loop-c.invariant.text_so_far ∙ ap (λ l. encode_utf8_all (squeezed (without_front_spaces l))) all)
