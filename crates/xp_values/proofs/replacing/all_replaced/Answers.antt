-- One character more, or the limit is passed.
use Rattle.std.proofs.Common.{◌≡◌, List, ℕ, string_bytes, chars, nat_eq, map-id, sym, ap, ◌∙◌}
use Rattle.std.specs.HashMap.{get}
use Rattle.std.specs.Prelude.{encode_utf8_all, option_to_list}
use Rattle.std.specs.List.{flat_map}
use Rattle.std.proofs.lemmas.Iterator.{YieldsList-from_chars}
use Rattle.std.proofs.lemmas.Iterator.Consumers.{YieldsList-end}
use Rattle.xp_values.specs.Texts.{limited}
use Rattle.xp_values.specs.inner.Replacing.{in_place}
use Rattle.xp_values.proofs.ReplaceLemmas.{limited_past, limited_more, limited_fits, limited_fault}
use Rattle.xp_values.proofs.replacing.all_replaced.Goals as goal

pub loop-c-preserved : goal.loop-c-preserved
loop-c-preserved c =
    rw c.if-fits.false (limited_past (in_place (get nat_eq c.args.counterparts.now)) c.loop-c.yielded (string_bytes c.loop-c.text) c.in-Some.c (rw c.if-fits.false at c.loop-c.invariant))

pub loop-c-preserved-then-fits : goal.loop-c-preserved-then-fits
loop-c-preserved-then-fits c =
    let piece : option_to_list c.replaced.result ≡ in_place (get nat_eq c.args.counterparts.now) c.in-Some.c = ap option_to_list c.replaced.ensures in
    limited_more (in_place (get nat_eq c.args.counterparts.now)) c.loop-c.yielded (string_bytes c.loop-c.text) (string_bytes c.push_limited.new.text) c.in-Some.c c.in_ok-fits.fits
    (rw c.if-fits.true at c.loop-c.invariant) c.in_ok-fits.ensures.small (rw piece at c.in_ok-fits.ensures.pushed) (rw piece at c.in_ok-fits.ensures.past)

pub returns-then-not-fits : goal.returns-then-not-fits
returns-then-not-fits c =
    let f : ℕ → List ℕ = in_place (get nat_eq c.args.counterparts.now) in
    let t = YieldsList-end (YieldsList-from_chars c.args.s.now c.utf8.s cc) c.loop-c.yielded _ c.loop-c.yielded_by _ _ c.in-None.is c.next.ensures.steps in
    let all : c.loop-c.yielded ≡ chars c.args.s.now = sym (map-id c.loop-c.yielded) ∙ t.0 in
    ap (λ l. limited (encode_utf8_all (flat_map f l))) (sym all)
    ∙ limited_fault f c.loop-c.yielded (string_bytes c.loop-c.text) (rw c.if-not-fits.true at c.loop-c.invariant)

pub returns : goal.returns
returns c =
    let f : ℕ → List ℕ = in_place (get nat_eq c.args.counterparts.now) in
    let t = YieldsList-end (YieldsList-from_chars c.args.s.now c.utf8.s cc) c.loop-c.yielded _ c.loop-c.yielded_by _ _ c.in-None.is c.next.ensures.steps in
    let all : c.loop-c.yielded ≡ chars c.args.s.now = sym (map-id c.loop-c.yielded) ∙ t.0 in
    rw c.from.ensures (ap (λ l. limited (encode_utf8_all (flat_map f l))) (sym all)
    ∙ limited_fits f c.loop-c.yielded (string_bytes c.loop-c.text) (rw c.if-not-fits.false at c.loop-c.invariant))
