-- How bytes are cut at their first line end.
use Rattle.std.proofs.Common.{◌≡◌, ℕ, suc, ◌+◌, ◌<◌, ◌≤◌, ◌==◌, true, false, None, List, [], ◌∷◌, ◌++◌, length, take, drop, get_or, arith, refl, sym, ◌∙◌, ap, add-one, append_assoc, length-append, length-drop, length-take}
use Rattle.std.proofs.Math.Seq.{split_at}
use Rattle.std.proofs.lemmas.Bool.{eqb-true}
use Rattle.sch_base.specs.Lists.{is_nil}
use Rattle.pyx_core.specs.Lines.{is_line_end}
use Rattle.pyx_core.proofs.LineLemmas.{NoEndBelow, first_line, behind_first, no_line, all_unended}
use Rattle.edit_script.specs.Script.{lines_of, script_at, with_end}
use Rattle.edit_script.specs.Undos.{past_undo}
use Rattle.edit_script.specs.inner.Lines.{Cuts, IsSpent, Reaches}

cut_at : (bytes : List ℕ) (end : ℕ) → end < length bytes → is_line_end (get_or bytes end 0) ≡ true →
    bytes ≡ with_end (take end bytes) ++ drop (suc end) bytes
cut_at bytes end less is =
    split_at bytes end 0 less
    ∙ ap (λ b. take end bytes ++ b ∷ drop (suc end) bytes) (eqb-true (get_or bytes end 0) 10 is)
    ∙ sym (append_assoc (take end bytes) (10 ∷ []) (drop (suc end) bytes))

lines_from : (bytes : List ℕ) (end : ℕ) → end < length bytes → NoEndBelow bytes end → is_line_end (get_or bytes end 0) ≡ true →
    lines_of bytes ≡ take end bytes ∷ lines_of (drop (suc end) bytes)
lines_from bytes end less none is =
    rw (first_line bytes end less none is, behind_first bytes end less none is) refl

-- a line that has its line end
pub cuts_ended : (bytes : List ℕ) (end : ℕ) (line rest : List ℕ) → end < length bytes → NoEndBelow bytes end →
    is_line_end (get_or bytes end 0) ≡ true → line ≡ take end bytes → rest ≡ drop (end + 1) bytes → Cuts bytes line rest
cuts_ended bytes end line rest less none is line_is rest_is =
    let later : rest ≡ drop (suc end) bytes = rest_is ∙ ap (λ n. drop n bytes) (add-one end) in
    record {
      lines = rw (line_is, later) (lines_from bytes end less none is);
      shorter = omega (arith, ap length later, length-drop (suc end) bytes);
      size = omega (arith, ap length later, length-drop (suc end) bytes, ap length line_is, length-take end bytes);
      ends = λ some. rw (line_is, later) (cut_at bytes end less is);
    }

-- the last line, which lacks it
pub cuts_last : (b : ℕ) (bytes : List ℕ) → NoEndBelow (b ∷ bytes) (length (b ∷ bytes)) → Cuts (b ∷ bytes) (b ∷ bytes) []
cuts_last b bytes none = record {
  lines = rw (no_line (b ∷ bytes) none, all_unended (b ∷ bytes) none) refl;
  shorter = omega arith;
  size = omega arith;
  ends = λ some. absurd (omega arith);
}

pub cuts_whole : (bytes : List ℕ) → (length bytes == 0) ≡ false → NoEndBelow bytes (length bytes) → Cuts bytes bytes []
cuts_whole [] some none = absurd (cc)
cuts_whole (b ∷ bytes) some none = cuts_last b bytes none

none_zero : (n : ℕ) → (suc n == 0) ≡ true → ⊥
none_zero n same = let is : suc n ≡ 0 = eqb-true (suc n) 0 same in omega arith

-- no line is left
pub no_lines : (bytes : List ℕ) → (length bytes == 0) ≡ true → lines_of bytes ≡ []
no_lines [] none = refl
no_lines (b ∷ bytes) none = absurd (none_zero (length bytes) none)

-- empty lines were skipped, from the line with a number on
pub record Skips (from : ℕ) (bytes : List ℕ) (number : ℕ) (rest : List ℕ) : Type 0 where
  pub empty : List (List ℕ)
  pub lines : lines_of bytes ≡ empty ++ lines_of rest
  pub number_is : number ≡ from + length empty
  pub script : (more : List (List ℕ)) → script_at None from (empty ++ more) ≡ script_at None number more
  pub undo : (more : List (List ℕ)) → past_undo from (empty ++ more) ≡ past_undo number more
  pub few : number + length rest ≤ from + length bytes

pub skips_start : (from : ℕ) (bytes : List ℕ) → Skips from bytes from bytes
skips_start from bytes = record { empty = []; lines = refl; number_is = omega arith; script = λ more. refl; undo = λ more. refl; few = omega arith }

empty_step : (number : ℕ) (line : List ℕ) (lines : List (List ℕ)) → (length line == 0) ≡ true →
    script_at None number (line ∷ lines) ≡ script_at None (number + 1) lines
empty_step number [] lines none = ap (λ n. script_at None n lines) (sym (add-one number))
empty_step number (b ∷ line) lines none = absurd (none_zero (length line) none)

undo_step : (number : ℕ) (line : List ℕ) (lines : List (List ℕ)) → (length line == 0) ≡ true →
    past_undo number (line ∷ lines) ≡ past_undo (number + 1) lines
undo_step number [] lines none = ap (λ n. past_undo n lines) (sym (add-one number))
undo_step number (b ∷ line) lines none = absurd (none_zero (length line) none)

pub skips_line : (from : ℕ) (bytes : List ℕ) (number : ℕ) (rest line after : List ℕ) → Skips from bytes number rest → Cuts rest line after →
    (length line == 0) ≡ true → Skips from bytes (number + 1) after
skips_line from bytes number rest line after on cut none = record {
  empty = on.empty ++ line ∷ [];
  lines = on.lines ∙ ap (λ l. on.empty ++ l) cut.lines ∙ sym (append_assoc on.empty (line ∷ []) (lines_of after));
  number_is = omega (arith, on.number_is, length-append on.empty (line ∷ []));
  script = λ more.
      ap (script_at None from) (append_assoc on.empty (line ∷ []) more)
      ∙ on.script (line ∷ more)
      ∙ empty_step number line more none;
  undo = λ more.
      ap (past_undo from) (append_assoc on.empty (line ∷ []) more)
      ∙ on.undo (line ∷ more)
      ∙ undo_step number line more none;
  few = omega (arith, on.few, cut.shorter);
}

some_line : (line : List ℕ) → (length line == 0) ≡ false → is_nil line ≡ false
some_line [] some = absurd (cc)
some_line (b ∷ line) some = refl

pub skips_found : (from : ℕ) (bytes : List ℕ) (number : ℕ) (rest line after : List ℕ) → Skips from bytes number rest → Cuts rest line after →
    (length line == 0) ≡ false → Reaches from bytes number line after
skips_found from bytes number rest line after on cut some = record {
  empty = on.empty;
  lines = on.lines ∙ ap (λ l. on.empty ++ l) cut.lines;
  number_is = on.number_is;
  script = on.script;
  undo = on.undo;
  some = some_line line some;
  few = omega (arith, on.few, cut.shorter);
}

pub skips_end : (from : ℕ) (bytes : List ℕ) (number : ℕ) (rest : List ℕ) → Skips from bytes number rest → lines_of rest ≡ [] →
    IsSpent from bytes
skips_end from bytes number rest on none =
    let lines : lines_of bytes ≡ on.empty ++ [] = on.lines ∙ ap (λ l. on.empty ++ l) none in
    record { script = ap (script_at None from) lines ∙ on.script []; undo = ap (past_undo from) lines ∙ on.undo [] }
