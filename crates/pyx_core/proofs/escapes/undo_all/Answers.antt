use Rattle.std.proofs.Common.{lit<, None, Some, sym, ◌∙◌, ap, ◌++◌, string_bytes, rules}
use Rattle.std.proofs.lemmas.Str.Pattern.{split_once_first}
use Rattle.pyx_core.proofs.Undoing.{unescaped_more, unescaped_whole}
use Rattle.pyx_core.proofs.escapes.undo_all.Goals as goal

pub loop-run-preserved : goal.loop-run-preserved
loop-run-preserved c =
    let cut = split_once_first 92 c.loop-run.rest.now (Some (c.in-Some.run', c.in-Some.after)) c.in-Some.ensures.cases (lit< tt) in (
      search rules,
      unescaped_more c.args.text.now c.loop-run.rest.now c.in-Some.run'.now c.in-Some.after.now c.undo.result.0.now c.undo.result.1.now
          (string_bytes c.loop-run.plain) (string_bytes c.push_str.new.self) (string_bytes c.push_str-in-Some.new.self) c.loop-run.invariant.1
          cut.0 cut.1 cut.2 c.undo.ensures.undone c.in_ok-push_str.ensures.bytes c.in_ok-push_str-2.ensures.bytes,
    )

pub returns : goal.returns
returns c =
    let whole = unescaped_whole c.loop-run.rest.now (split_once_first 92 c.loop-run.rest.now None c.in_default.ensures.cases (lit< tt)) in
    c.from.ensures ∙ c.in_ok-push_str-3.ensures.bytes ∙ ap (λ l. string_bytes c.loop-run.plain ++ l) (sym whole) ∙ sym c.loop-run.invariant.1
