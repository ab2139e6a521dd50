-- Facts on lines in their context.
use Rattle.std.proofs.Common.{◌≡◌, ℕ, suc, ◌-◌, ◌+◌, Bool, true, false, cond, List, [], ◌∷◌, length, length-append, take, Option, None, Some, Result, Ok, Err, arith, refl, ◌∙◌, ap}
use Rattle.std.proofs.lemmas.Grind.{common_steps}
use Rattle.pyx_core.specs.declared.event.Event.{Event}
use Rattle.pyx_core.specs.declared.event.Event.TheVariants as event
use Rattle.pyx_core.specs.declared.event.Attr.{Attr}
use Rattle.pyx_core.specs.declared.event.Located.{Located}
use Rattle.pyx_core.specs.declared.fault.PyxKind.{PyxKind}
use Rattle.pyx_core.specs.declared.fault.PyxKind.TheVariants.{SecondRoot}
use Rattle.pyx_core.specs.declared.line_table.Line.{Line}
use Rattle.pyx_core.specs.declared.line_table.Line.TheVariants.{Skipped, Start, Attribute, End, Chars, Pi, Comment}
use Rattle.pyx_core.specs.declared.mode.Mode.{Mode}
use Rattle.std.specs.Bool.{then_some}
use Rattle.std.specs.Option.{option_to_list}
use Rattle.std.specs.Result.{IsErr}
use Rattle.std.proofs.lemmas.Result.{MatchResult-from_err}
use Rattle.pyx_core.proofs.BegunLemmas.{front_of, front_all, front_more}
use Rattle.std.proofs.Math.Seq.{take-append_seam, take-nil}
use Rattle.pyx_core.specs.declared.standing.Standing.{Standing}
use Rattle.pyx_core.specs.declared.begun.Begun.{Begun}
use Rattle.pyx_core.specs.declared.begun.Begun.TheVariants as begun
use Rattle.pyx_core.specs.Before.{outer, outermost_first, open_names, has_item, closed, completed_by, lacking, takes_attribute, pending, is_outside, kept, attr_onto, with_attr, begin_text, text_onto, with_text}
use Rattle.pyx_core.specs.inner.Standing.{AreNamed, HasRead, Settles, TakesLine, TakesGoodLast, TakesLast}
use Rattle.pyx_core.specs.inner.Begun.{shown, Goes}

pub length_outermost_first : (names : List (List ℕ)) → length (outermost_first names) ≡ length names
length_outermost_first [] = refl
length_outermost_first (name ∷ names) = grind (arith, common_steps, length_outermost_first names)

-- whether an event is the start of an element
abbrev pub is_start : Event → Bool
is_start (event.Start name attrs) = true
is_start (event.End name) = false
is_start (event.Chars text) = false
is_start (event.Pi target body) = false
is_start (event.Comment text) = false

abbrev pub begins : Option Located → Bool
begins None = false
begins (Some p) = is_start p.event

start_onto : (attr : Attr) (e : Event) → is_start (attr_onto attr e) ≡ is_start e
start_onto attr (event.Start name attrs) = refl
start_onto attr (event.End name) = refl
start_onto attr (event.Chars text) = refl
start_onto attr (event.Pi target body) = refl
start_onto attr (event.Comment text) = refl

with_attr_begins : (attr : Attr) (p : Option Located) → begins (with_attr attr p) ≡ begins p
with_attr_begins attr None = refl
with_attr_begins attr (Some p) = start_onto attr p.event

text_begins : (n : ℕ) (text : List ℕ) → begins (begin_text n text) ≡ false
text_begins n [] = refl
text_begins n (b ∷ text) = refl

onto_begins : (n : ℕ) (text : List ℕ) (line : ℕ) (e : Event) → begins (text_onto n text line e) ≡ false
onto_begins n text line (event.Start name attrs) = text_begins n text
onto_begins n text line (event.End name) = text_begins n text
onto_begins n text line (event.Chars had) = refl
onto_begins n text line (event.Pi target body) = text_begins n text
onto_begins n text line (event.Comment comment) = text_begins n text

with_text_begins : (n : ℕ) (text : List ℕ) (p : Option Located) → begins (with_text n text p) ≡ false
with_text_begins n text None = text_begins n text
with_text_begins n text (Some p) = onto_begins n text p.line p.event

-- a start is begun exactly where attributes may follow
pub begins_takes : (mode : Mode) (before : List Line) → begins (pending mode before) ≡ takes_attribute before
begins_takes mode [] = refl
begins_takes mode (Skipped ∷ before) = begins_takes mode before
begins_takes mode (Start name ∷ before) = refl
begins_takes mode (Attribute attr ∷ before) = with_attr_begins attr (pending mode before) ∙ begins_takes mode before
begins_takes mode (End name ∷ before) = refl
begins_takes mode (Chars text ∷ before) =
    with_text_begins (suc (length before)) (kept (is_outside mode before) text) (pending mode before)
begins_takes mode (Pi target body ∷ before) = refl
begins_takes mode (Comment text ∷ before) = refl

pub not_element : (b : Begun) → ((line : ℕ) (name : List ℕ) (attrs : List Attr) → b ≡ begun.Element line name attrs → ⊥) →
    false ≡ begins (shown b)
not_element begun.Nothing no_start = refl
not_element (begun.Element line name attrs) no_start = absurd (no_start line name attrs refl)
not_element (begun.Text line text) no_start = refl

-- the names after an end
pub popped : (items rest : List (List ℕ)) (count : ℕ) (names : List (List ℕ)) → items ≡ outermost_first names →
    count ≡ length items → rest ≡ take (count - 1) items → rest ≡ outermost_first (outer names)
popped items rest count [] is counted pops = pops ∙ (ap (take (count - 1)) is ∙ take-nil (count - 1))
popped items rest count (name ∷ names) is counted pops =
    let all : length items ≡ length (outermost_first names) + 1 = rw is (length-append (outermost_first names) (name ∷ [])) in
    let less : count - 1 ≡ length (outermost_first names) = omega arith in
    pops ∙ (ap (λ n. take n items) less ∙ (ap (take (length (outermost_first names))) is ∙ take-append_seam (outermost_first names) (name ∷ [])))

-- a line that left its traces was read
pub settles : {T E : Type 0} (standing : Standing) (mode : Mode) (taken : List Located) (before : List Line) (line : Line)
    (result : Result T E) → standing.mode ≡ mode → standing.opened.items ≡ outermost_first (open_names (line ∷ before)) →
    AreNamed (line ∷ before) → standing.has_item ≡ has_item mode (line ∷ before) →
    Goes standing.events taken (closed mode before) (completed_by mode before line) (pending mode (line ∷ before)) result →
    Settles standing mode taken before line result
settles standing mode taken before line (Ok x) mode_is opened named item goes =
    record { mode_is = mode_is; opened = opened; named = named; item = item; told = goes }
settles standing mode taken before line (Err e) mode_is opened named item goes = goes

-- the rule that a second item at the top breaks
abbrev pub second : Bool → Option PyxKind
second is = cond is (Some SecondRoot) None

pub second_is : (is : Bool) → then_some is SecondRoot ≡ second is
second_is true = refl
second_is false = refl

-- without memory a line was not read
pub takes_none : {E : Type 0} (standing : Standing) (mode : Mode) (taken : List Located) (before : List Line)
    (found : Result Line PyxKind) (result : Result (Option PyxKind) E) → HasRead standing mode taken before → IsErr result →
    TakesLine standing mode taken before found result
takes_none standing mode taken before (Ok line) result reads err =
    MatchResult-from_err result _ _ err (λ _. front_of _ (closed mode before) (completed_by mode before line) reads.told.completed)
takes_none standing mode taken before (Err kind) result reads err =
    MatchResult-from_err result _ _ err (λ _. front_all _ (closed mode before) reads.told.completed)

ends_none_with : {E : Type 0} (standing : Standing) (mode : Mode) (taken : List Located) (before : List Line)
    (line : Line) (lacks : Option PyxKind) (result : Result (Option PyxKind) E) → HasRead standing mode taken before →
    IsErr result → TakesGoodLast standing mode taken before line lacks result
ends_none_with standing mode taken before line (Some kind) result reads err =
    MatchResult-from_err result _ _ err (λ _. front_all _ (closed mode before) reads.told.completed)
ends_none_with standing mode taken before line None result reads err =
    MatchResult-from_err result _ _ err
    (λ _. front_more _ (closed mode (line ∷ before)) (option_to_list (pending mode (line ∷ before)))
    (front_of _ (closed mode before) (completed_by mode before line) reads.told.completed))

pub ends_none : {E : Type 0} (standing : Standing) (mode : Mode) (taken : List Located) (before : List Line)
    (found : Result Line PyxKind) (result : Result (Option PyxKind) E) → HasRead standing mode taken before → IsErr result →
    TakesLast standing mode taken before found result
ends_none standing mode taken before (Ok line) result reads err =
    ends_none_with standing mode taken before line (lacking mode (line ∷ before)) result reads err
ends_none standing mode taken before (Err kind) result reads err =
    MatchResult-from_err result _ _ err (λ _. front_all _ (closed mode before) reads.told.completed)
