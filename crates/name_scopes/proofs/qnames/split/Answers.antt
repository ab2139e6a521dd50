use Rattle.std.proofs.Common.{◌≡◌, ◌-◌, cond, [], take, sym, ◌∙◌, ap, arith}
use Rattle.std.specs.List.{before_first, after_first}
use Rattle.sch_base.proofs.Lists.{none_passes}
use Rattle.sch_base.specs.Names.{is_colon}
use Rattle.pyx_core.proofs.ByteLemmas.{none_found, found_parts, cut_behind}
use Rattle.name_scopes.proofs.qnames.split.Goals as goal

pub range_from-requires : goal.range_from-requires
range_from-requires c = λ _.
    let found = rw c.as_bytes.ensures.value at c.in-Some.ensures in
    cut_behind 58 c.args.name.now c.in-Some.at (omega arith) (rw c.as_bytes.ensures.value at c.as_bytes.ensures.utf8) found

pub returns-in-Some-clause-prefix : goal.returns-in-Some-clause-prefix
returns-in-Some-clause-prefix c =
    let found = rw c.as_bytes.ensures.value at c.in-Some.ensures in
    let parts = found_parts 58 c.args.name.now c.in-Some.at found in
    let front : c.in-Some.at - 0 ≡ c.in-Some.at = omega arith in
    c.range.ensures.value
    ∙ (ap (λ n. take n c.args.name.now) front
    ∙ sym (ap (λ v. cond v (before_first is_colon c.args.name.now) []) parts.0 ∙ parts.1))

pub returns-in-Some-clause-local : goal.returns-in-Some-clause-local
returns-in-Some-clause-local c =
    let found = rw c.as_bytes.ensures.value at c.in-Some.ensures in
    let parts = found_parts 58 c.args.name.now c.in-Some.at found in
    c.range_from.ensures.value ∙ sym (ap (λ v. cond v (after_first is_colon c.args.name.now) c.args.name.now) parts.0 ∙ parts.2)

pub returns-in-None-clause-prefix : goal.returns-in-None-clause-prefix
returns-in-None-clause-prefix c =
    let none = none_found 58 c.args.name.now (rw c.as_bytes.ensures.value at c.in-None.ensures) in
    sym (ap (λ v. cond v (before_first is_colon c.args.name.now) []) (none_passes is_colon c.args.name.now none))

pub returns-in-None-clause-local : goal.returns-in-None-clause-local
returns-in-None-clause-local c =
    let none = none_found 58 c.args.name.now (rw c.as_bytes.ensures.value at c.in-None.ensures) in
    sym (ap (λ v. cond v (after_first is_colon c.args.name.now) c.args.name.now) (none_passes is_colon c.args.name.now none))
