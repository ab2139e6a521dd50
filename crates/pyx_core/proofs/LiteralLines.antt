-- Literal lines that are good where they stand.
use Rattle.std.proofs.Common.{◌≡◌, ℕ, ◌&&◌, true, false, cond, List, [], ◌∷◌, None, Some, Ok, refl, sym, ◌∙◌, ap}
use Rattle.std.specs.List.{list_all, after_first}
use Rattle.pyx_core.specs.Escapes.{unescaped}
use Rattle.pyx_core.specs.declared.fault.PyxKind.TheVariants.{SecondRoot, AttributePlace}
use Rattle.pyx_core.specs.declared.line_table.Line.{Line}
use Rattle.pyx_core.specs.declared.line_table.Line.TheVariants.{Start, Chars}
use Rattle.pyx_core.specs.declared.mode.Mode.{Mode}
use Rattle.pyx_core.specs.declared.mode.Mode.TheVariants.{Document, Fragment}
use Rattle.pyx_core.specs.Before.{at_top, has_item, is_outside, kept, misplaced, takes_attribute}
use Rattle.pyx_core.specs.LineTable.{is_qname, is_space, name_part, read_attribute, read_text}
use Rattle.pyx_core.specs.Reading.{judge}
use Rattle.pyx_core.specs.inner.Plain.{is_literal, IsMarked}
use Rattle.pyx_core.specs.inner.Standing.{attribute_line, IsInside}
use Rattle.pyx_core.proofs.ByteLemmas.{literal_unescaped, literal_after}
use Rattle.pyx_core.proofs.PlainLemmas.{literal_line}
use Rattle.pyx_core.proofs.ReplayLemmas.{judge_good}
use Rattle.std.proofs.lemmas.Bool.{and_parts}

-- an element that is no second item
pub start_good : (mode : Mode) (before : List Line) (bytes name : List ℕ) → IsMarked 40 name bytes → (at_top before && has_item mode before) ≡ false → is_qname name ≡ true →
    judge mode before bytes ≡ Ok (Start name)
start_good mode before bytes name marked first qname =
    judge_good mode before bytes (Start name) (literal_line bytes marked.literal ∙ (ap read_text marked.is ∙ rw qname refl))
    (ap (λ v. cond v (Some SecondRoot) None) first)

-- characters within an element
pub inside_placed : (mode : Mode) (before : List Line) (text : List ℕ) → at_top before ≡ false →
    misplaced mode before (Chars text) ≡ None
inside_placed Document before text inside = rw inside refl
inside_placed Fragment before [] inside = refl
inside_placed Fragment before (b ∷ text) inside = rw inside refl

pub inside_kept : (mode : Mode) (before : List Line) (text : List ℕ) → at_top before ≡ false →
    kept (is_outside mode before) text ≡ text
inside_kept Document before text inside = rw inside refl
inside_kept Fragment before text inside = refl

pub inside_good : (mode : Mode) (before : List Line) (bytes text : List ℕ) → IsMarked 45 text bytes →
    at_top before ≡ false → IsInside mode before bytes text
inside_good mode before bytes text marked inside =
    let both : list_all is_literal (45 ∷ text) ≡ true = rw marked.is at marked.literal in
    let all : list_all is_literal text ≡ true = (and_parts (is_literal 45) _ both).1 in
    record {
      inside = inside;
      good = judge_good mode before bytes (Chars text)
          (literal_line bytes marked.literal ∙ (ap read_text marked.is ∙ ap (λ t. Ok (Chars t)) (literal_unescaped text all)))
          (inside_placed mode before text inside);
    }

-- an attribute where an element is begun
read_literal : (body name value : List ℕ) → list_all is_literal body ≡ true → name ≡ name_part body →
    value ≡ after_first is_space body → is_qname name ≡ true → read_attribute body ≡ Ok (attribute_line name value)
read_literal body name value literal name_is value_is qname =
    let named : is_qname (name_part body) ≡ true = rw name_is at qname in
    let plain : unescaped (after_first is_space body) ≡ after_first is_space body =
    literal_unescaped (after_first is_space body) (literal_after 32 body (after_first is_space body) literal refl) in
    rw named (ap (λ v. Ok (attribute_line (name_part body) v)) (plain ∙ sym value_is)
    ∙ ap (λ n. Ok (attribute_line n value)) (sym name_is))

pub attribute_good : (mode : Mode) (before : List Line) (bytes body name value : List ℕ) → IsMarked 65 body bytes →
    takes_attribute before ≡ true → name ≡ name_part body → value ≡ after_first is_space body → is_qname name ≡ true →
    judge mode before bytes ≡ Ok (attribute_line name value)
attribute_good mode before bytes body name value marked takes name_is value_is qname =
    let both : list_all is_literal (65 ∷ body) ≡ true = rw marked.is at marked.literal in
    let all : list_all is_literal body ≡ true = (and_parts (is_literal 65) _ both).1 in
    judge_good mode before bytes (attribute_line name value)
    (literal_line bytes marked.literal ∙ (ap read_text marked.is ∙ read_literal body name value all name_is value_is qname))
    (ap (λ v. cond v None (Some AttributePlace)) takes)
