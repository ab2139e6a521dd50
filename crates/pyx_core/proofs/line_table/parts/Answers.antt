use Rattle.std.proofs.Common.{◌≡◌, ◌-◌, take, sym, ◌∙◌, ap, arith}
use Rattle.pyx_core.specs.LineTable.{is_space}
use Rattle.pyx_core.proofs.ByteLemmas.{none_found, found_parts, cut_behind}
use Rattle.pyx_core.proofs.LineTableLemmas.{before_none, after_none}
use Rattle.pyx_core.proofs.line_table.parts.Goals as goal

pub range_from-requires : goal.range_from-requires
range_from-requires c = λ _.
    let found = rw c.as_bytes.ensures.value at c.in-Some.ensures in
    cut_behind 32 c.args.body.now c.in-Some.at (omega arith) (rw c.as_bytes.ensures.value at c.as_bytes.ensures.utf8) found

pub returns-in-Some-clause-name : goal.returns-in-Some-clause-name
returns-in-Some-clause-name c =
    let found = rw c.as_bytes.ensures.value at c.in-Some.ensures in
    let front : c.in-Some.at - 0 ≡ c.in-Some.at = omega arith in
    c.range.ensures.value
    ∙ (ap (λ n. take n c.args.body.now) front ∙ sym (found_parts 32 c.args.body.now c.in-Some.at found).1)

pub returns-in-Some-clause-text : goal.returns-in-Some-clause-text
returns-in-Some-clause-text c =
    let found = rw c.as_bytes.ensures.value at c.in-Some.ensures in
    c.range_from.ensures.value ∙ sym (found_parts 32 c.args.body.now c.in-Some.at found).2

pub returns-in-None-clause-name : goal.returns-in-None-clause-name
returns-in-None-clause-name c =
    let none = none_found 32 c.args.body.now (rw c.as_bytes.ensures.value at c.in-None.ensures) in
    sym (before_none is_space c.args.body.now none)

pub returns-in-None-clause-text : goal.returns-in-None-clause-text
returns-in-None-clause-text c =
    let none = none_found 32 c.args.body.now (rw c.as_bytes.ensures.value at c.in-None.ensures) in
    sym (after_none is_space c.args.body.now none)
