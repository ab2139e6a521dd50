-- The folder part ends with the last slash.
use Rattle.std.proofs.Common.{◌≡◌, ◌++◌, ◌+◌, ◌-◌, ℕ, suc, List, take, string_bytes, arith, sym, ap, ◌∙◌, append-nil}
use Rattle.std.proofs.lemmas.Str.Pattern.{rfind_char}
use Rattle.std.specs.Prelude.{None, Some, Ok, Err, OnOk, Result, if◌then◌else◌}
use Rattle.std.specs.Result.{is_ok}
use Rattle.sch_include.specs.Includes.{folder_of}
use Rattle.sch_include.proofs.FolderLemmas.{folder-none, folder-take}
use Rattle.sch_include.proofs.href.push_folder.Goals as goal

on-ok : {T E : Type 0} (result : Result T E) (old new range part : List ℕ) → new ≡ if is_ok result then old ++ range else old → range ≡ part → OnOk result (new ≡ old ++ part)
on-ok (Ok done) old new range part is same = is ∙ ap (λ (l : List ℕ). old ++ l) same
on-ok (Err error) old new range part is same = tt

pub returns-in-Some : goal.returns-in-Some
returns-in-Some c =
    let last = rfind_char 47 c.args.name.now (Some c.in-Some.last) c.in-Some.ensures.cases (omega arith) in
    let folder = folder-take c.args.name.now c.in-Some.last last.0 last.1 last.2 in
    let up_to : (c.in-Some.last + 1) - 0 ≡ suc c.in-Some.last = omega arith in
    on-ok c.push_str.result (string_bytes c.args.text.now) (string_bytes c.push_str.new.self) c.range.result.now (folder_of c.args.name.now) c.push_str.ensures.bytes
    (c.range.ensures.value ∙ (ap (λ n. take n c.args.name.now) up_to ∙ sym folder))

pub returns-in-None : goal.returns-in-None
returns-in-None c =
    let none = rfind_char 47 c.args.name.now None c.in-None.ensures.cases (omega arith) in
    sym (append-nil (string_bytes c.args.text.now)) ∙ ap (λ (l : List ℕ). string_bytes c.args.text.now ++ l) (sym (folder-none c.args.name.now none))
