-- One byte more.
use Rattle.std.proofs.Common.{ℕ, ◌+◌, add-one, length, slice_index_or, take, take-suc, ap, sym, ◌∙◌}
use Rattle.pyx_core.specs.Escapes.{escaped}
use Rattle.sch_flat.specs.FlatSize.{capped}
use Rattle.sch_flat.proofs.SizeLemmas.{escaped_next}
use Rattle.sch_flat.proofs.lines.escaped_len.Goals as goal

pub loop-byte-preserved : goal.loop-byte-preserved
loop-byte-preserved c =
    let bytes = c.as_bytes-byte-items.result.now in
    let i = c.loop-byte.byte-index in
    c.saturating_add-len.ensures
    ∙ ap (λ n. capped (c.loop-byte.len + n)) c.escape_len.ensures
    ∙ escaped_next c.loop-byte.len (take i bytes) (slice_index_or bytes i 0) c.loop-byte.invariant
    ∙ ap (λ l. capped (length (escaped l))) (sym (ap (λ (n : ℕ). take n bytes) (add-one i) ∙ take-suc bytes i 0 c.loop-byte-test.true))
