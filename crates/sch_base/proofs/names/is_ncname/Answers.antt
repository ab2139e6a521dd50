-- The first character is taken off, and the others are those of what is left.
use Rattle.std.proofs.Common.{refl, sym, ◌∙◌}
use Rattle.std.proofs.lemmas.Str.{chars_past_char}
use Rattle.sch_base.proofs.names.is_ncname.Goals as goal

pub returns-then-is_name_start : goal.returns-then-is_name_start
returns-then-is_name_start c =
    let split = c.in-Some.ensures.steps in
    rw (
      chars_past_char c.args.s.now c.as_str.result.now c.in-Some.first c.utf8.s
          (rw c.as_str.ensures (sym c.chars-chars.ensures.rest ∙ split.0)),
      c.are_name_chars.ensures,
      ← c.is_name_start.ensures,
      c.if-is_name_start.true,
    )
    refl
