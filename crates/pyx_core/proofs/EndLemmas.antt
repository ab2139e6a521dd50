-- An end of the innermost open element is good, and good lines open elements with QNames.
use Rattle.std.proofs.Common.{◌≡◌, ℕ, suc, ◌++◌, true, cond, nat_eq, List, [], ◌∷◌, length, get_or, None, Some, Result, Ok, Err, arith, refl, sym, ◌∙◌, ap, subst}
use Rattle.std.proofs.Math.Seq.{get_or-append_seam}
use Rattle.std.proofs.lemmas.Bool.{eqb-true, and_parts, and_from}
use Rattle.pyx_core.specs.declared.fault.PyxKind.{PyxKind}
use Rattle.pyx_core.specs.declared.fault.PyxKind.TheVariants.{WrongEnd}
use Rattle.pyx_core.specs.declared.line_table.Line.{Line}
use Rattle.pyx_core.specs.declared.line_table.Line.TheVariants.{Skipped, Start, Attribute, End, Chars, Pi, Comment}
use Rattle.pyx_core.specs.declared.mode.Mode.{Mode}
use Rattle.pyx_core.specs.Before.{outer, outermost_first, open_names, is_innermost}
use Rattle.pyx_core.specs.LineTable.{line_of}
use Rattle.pyx_core.specs.Nesting.{is_name}
use Rattle.pyx_core.specs.Reading.{judge, judged, and_then, sound, fault_in}
use Rattle.pyx_core.specs.inner.Standing.{AreNamed, ends_innermost}
use Rattle.pyx_core.proofs.NestingLemmas.{WellMade, IfGood, line_made, good_placed, innermost}
use Rattle.pyx_core.proofs.ReplayLemmas.{judge_good, end_is, name_of, outer_named}
use Rattle.pyx_core.proofs.StandingLemmas.{length_outermost_first}

made_named : (line : Line) (before : List Line) → WellMade line → AreNamed before → AreNamed (line ∷ before)
made_named Skipped before made named = named
made_named (Start name) before made named = and_from (is_name name) _ made named
made_named (Attribute attr) before made named = named
made_named (End name) before made named = outer_named (open_names before) named
made_named (Chars text) before made named = named
made_named (Pi target body) before made named = named
made_named (Comment text) before made named = named

-- the elements have QNames after a good line too
pub good_named : (mode : Mode) (before : List Line) (bytes : List ℕ) (line : Line) → judge mode before bytes ≡ Ok line →
    AreNamed before → AreNamed (line ∷ before)
good_named mode before bytes line is named =
    let good : IfGood mode before (Ok line) = subst (IfGood mode before) is (good_placed mode before (line_of bytes) (line_made bytes)) in
    made_named line before good.0 named

-- so they have after all good lines
named_line : (mode : Mode) (before : List Line) (found : Result Line PyxKind) (lines : List (List ℕ)) (good : List Line) →
    ((line : Line) → found ≡ Ok line → judged mode (line ∷ before) lines ≡ sound good → AreNamed good) →
    and_then before found (λ line. judged mode (line ∷ before) lines) ≡ sound good → AreNamed good
named_line mode before (Ok line) lines good rest is = rest line refl is
named_line mode before (Err kind) lines good rest is =
    let f : Some (fault_in (suc (length before)) kind) ≡ None = ap (λ j. j.fault) is in absurd (cc)

pub named_good : (mode : Mode) (before : List Line) (lines : List (List ℕ)) (good : List Line) → AreNamed before →
    judged mode before lines ≡ sound good → AreNamed good
named_good mode before [] good named is = let same : before ≡ good = ap (λ j. j.before) is in subst AreNamed same named
named_good mode before (bytes ∷ lines) good named is =
    named_line mode before (judge mode before bytes) lines good
    (λ line found. named_good mode (line ∷ before) lines good (good_named mode before bytes line found named)) is

-- the innermost element and its end, which is good
pub record EndsInnermost (mode : Mode) (before : List Line) (bytes : List ℕ) : Type 0 where
  pub name : List ℕ
  pub is : open_names before ≡ name ∷ outer (open_names before)
  pub good : judge mode before bytes ≡ Ok (End name)

pub end_good : (mode : Mode) (before : List Line) (bytes : List ℕ) → AreNamed before →
    ends_innermost bytes (open_names before) ≡ true → EndsInnermost mode before bytes
end_good mode before [] named ends = absurd (cc)
end_good mode before (mark ∷ name) named ends =
    let both = and_parts (nat_eq mark 41) (is_innermost name (open_names before)) ends in
    let is = innermost name (open_names before) both.1 in
    let good : judge mode before (41 ∷ name) ≡ Ok (End name) =
    judge_good mode before (41 ∷ name) (End name) (end_is name (name_of name (open_names before) is named))
    (ap (λ v. cond v None (Some WrongEnd)) both.1) in
    record { name = name; is = is; good = ap (λ m. judge mode before (m ∷ name)) (eqb-true mark 41 both.0) ∙ good }

-- the name that is kept last is that of the innermost element
pub last_name : (items rest names : List (List ℕ)) (name top : List ℕ) → items ≡ outermost_first names →
    names ≡ name ∷ outer names → rest ≡ outermost_first (outer names) → items ≡ rest ++ top ∷ [] → top ≡ name
last_name items rest names name top is opened before pops =
    let same : outermost_first (outer names) ++ top ∷ [] ≡ outermost_first (outer names) ++ name ∷ [] =
    ap (λ l. l ++ top ∷ []) (sym before) ∙ (sym pops ∙ (is ∙ ap outermost_first opened)) in
    sym (get_or-append_seam (outermost_first (outer names)) top [] top)
    ∙ (ap (λ l. get_or l (length (outermost_first (outer names))) top) same
    ∙ get_or-append_seam (outermost_first (outer names)) name [] top)

-- one is kept
pub some_name : (items names : List (List ℕ)) (name : List ℕ) → items ≡ outermost_first names →
    names ≡ name ∷ outer names → length items ≡ 0 → ⊥
some_name items names name is opened none =
    let all : length items ≡ length names = ap length is ∙ length_outermost_first names in
    let more : length names ≡ suc (length (outer names)) = ap length opened in
    omega arith
