-- Each reference and its text in their turn; one that was not written whole leaves a front of all.
use Rattle.std.proofs.Common.{◌≡◌, ℕ, ◌<◌, List, ◌∷◌, [], length, length-append, arith}
use Rattle.std.specs.Borrow.{Bor}
use Rattle.std.specs.List.{zip}
use Rattle.std.specs.Iterator.Adapters.{zip_first, zip_second}
use Rattle.std.specs.Slice.Iter.{iter_rest}
use Rattle.std.proofs.Math.Seq.{take_all}
use Rattle.std.proofs.lemmas.Slice.Zip.{length-zip, zip_end, zip_turn}
use Rattle.sch_io.proofs.Writes.{wrote_cut, wrote_next}
use Rattle.sch_compiled.specs.declared.parts.PlanDiagnostic.{PlanDiagnostic}
use Rattle.svrl_out.specs.Report.{reference_lines}
use Rattle.svrl_out.proofs.ReportLemmas.{pair_at}
use Rattle.svrl_out.proofs.parts.write_references.Goals as goal

pub loop-item-preserved : goal.loop-item-preserved
loop-item-preserved g c =
    let ks = c.args.named.now in
    let vs = c.args.texts.now in
    let first : iter_rest (zip_first c.into_iter-item-iterator.result) ≡ ks = cc in
    let second : iter_rest (zip_second c.into_iter-item-iterator.result) ≡ vs = cc in
    let pair : Bor PlanDiagnostic × Bor (List ℕ) = (c.in-Some.item, c.in-Some.text) in
    let turn = zip_turn ks vs c.loop-item.yielded c.into_iter-item-iterator.result c.loop-item.item-iterator c.next.new.self c.next.result first second c.loop-item.yielded_by pair c.in-Some.is c.next.ensures.steps in
    let at = pair_at ks vs (length c.loop-item.yielded) c.in-Some.item.now c.in-Some.text.now turn.0 turn.1 (turn.2 c.in-Some.item.now) (turn.3 c.in-Some.text.now) in
    let less : length c.loop-item.yielded < length (zip ks vs) = omega (arith, length-zip ks vs, turn.0, turn.1) in
    rw (length-append c.loop-item.yielded (pair ∷ []))
    (wrote_next (reference_lines c.args.name.now c.args.attribute.now) (zip ks vs) (length c.loop-item.yielded) (c.in-Some.item.now, c.in-Some.text.now) at less c.loop-item.invariant c.in_ok-write_reference.ensures)

pub returns-in_err-write_reference : goal.returns-in_err-write_reference
returns-in_err-write_reference g c =
    let ks = c.args.named.now in
    let vs = c.args.texts.now in
    let first : iter_rest (zip_first c.into_iter-item-iterator.result) ≡ ks = cc in
    let second : iter_rest (zip_second c.into_iter-item-iterator.result) ≡ vs = cc in
    let pair : Bor PlanDiagnostic × Bor (List ℕ) = (c.in-Some.item, c.in-Some.text) in
    let turn = zip_turn ks vs c.loop-item.yielded c.into_iter-item-iterator.result c.loop-item.item-iterator c.next.new.self c.next.result first second c.loop-item.yielded_by pair c.in-Some.is c.next.ensures.steps in
    let at = pair_at ks vs (length c.loop-item.yielded) c.in-Some.item.now c.in-Some.text.now turn.0 turn.1 (turn.2 c.in-Some.item.now) (turn.3 c.in-Some.text.now) in
    let less : length c.loop-item.yielded < length (zip ks vs) = omega (arith, length-zip ks vs, turn.0, turn.1) in
    wrote_cut (reference_lines c.args.name.now c.args.attribute.now) (zip ks vs) (length c.loop-item.yielded) (c.in-Some.item.now, c.in-Some.text.now) c.from_residual.result c.from_residual.ensures.0 at less c.loop-item.invariant c.in_err-write_reference.ensures

pub returns : goal.returns
returns g c =
    let ks = c.args.named.now in
    let vs = c.args.texts.now in
    let first : iter_rest (zip_first c.into_iter-item-iterator.result) ≡ ks = cc in
    let second : iter_rest (zip_second c.into_iter-item-iterator.result) ≡ vs = cc in
    let whole = zip_end ks vs c.loop-item.yielded c.into_iter-item-iterator.result c.loop-item.item-iterator c.next.new.self c.next.result first second c.loop-item.yielded_by c.in-None.is c.next.ensures.steps in
    rw (take_all (length c.loop-item.yielded) (zip ks vs) (omega (arith, length-zip ks vs, whole))) at c.loop-item.invariant
