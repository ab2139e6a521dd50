-- The steps of paths.
use Rattle.std.proofs.Common.{◌≡◌, ℕ, Bool, true, false, ◌&&◌, cond, List, [], ◌∷◌, ◌++◌, Option, None, Some, arith, refl, sym, ◌∙◌, ap, append_assoc}
use Rattle.std.specs.List.{list_any, before_first, after_first, slice_split}
use Rattle.std.specs.Char.{encode_utf8}
use Rattle.std.specs.Str.{bytes_eq}
use Rattle.std.proofs.lemmas.Bool.{eqb-true}
use Rattle.std.proofs.lemmas.List.Elements.{All-cons, All-nil}
use Rattle.std.proofs.lemmas.Str.{encode_ascii}
use Rattle.sch_base.specs.Lists.{is_nil}
use Rattle.sch_base.specs.Characters.{is_slash}
use Rattle.sch_base.specs.Named.{named}
use Rattle.doc_tree.specs.kind.Kind.{Kind}
use Rattle.edit_script.specs.declared.command.PathStep.{PathStep}
use Rattle.edit_script.specs.Paths.{bracketed, is_close, is_open, kind_of, number_of, onto_steps, path_of, step_names, step_of, step_with, steps_behind, steps_of}
use Rattle.edit_script.specs.inner.Steps.{before_steps}
use Rattle.edit_script.specs.WellFormed.{IsPath, IsStep, is_kid}
use Rattle.edit_script.proofs.NumberLemmas.{IfPlace, number_made}

-- one step more was read
pub steps_next : (read : List PathStep) (step : PathStep) (steps : Option (List PathStep)) →
    before_steps read (onto_steps (Some step) steps) ≡ before_steps (read ++ step ∷ []) steps
steps_next read step None = refl
steps_next read step (Some steps) = ap (λ l. Some l) (sym (append_assoc read (step ∷ []) steps))

-- no step was read
pub steps_first : (read : List PathStep) (steps : Option (List PathStep)) → read ≡ [] → before_steps read steps ≡ steps
steps_first read None none = refl
steps_first read (Some steps) none = ap (λ l. Some (l ++ steps)) none

-- what is read is well formed
abbrev pub IfKid : Option Kind → Type 0
IfKid None = Unit {0}
IfKid (Some kind) = is_kid kind ≡ true

abbrev pub IfStep : Option PathStep → Type 0
IfStep None = Unit {0}
IfStep (Some step) = IsStep step

abbrev pub IfPath : Option (List PathStep) → Type 0
IfPath None = Unit {0}
IfPath (Some steps) = IsPath steps

kid_by : (v : Bool) (kind : Kind) (others : Option Kind) → is_kid kind ≡ true → IfKid others → IfKid (cond v (Some kind) others)
kid_by true kind others is rest = is
kid_by false kind others is rest = rest

abbrev pub kid_names : List (List ℕ × Kind) → Type 0
kid_names [] = Unit {0}
kid_names (entry ∷ table) = (is_kid entry.1 ≡ true) × kid_names table

all_kids : (name : List ℕ) (table : List (List ℕ × Kind)) → kid_names table → IfKid (named table name)
all_kids name [] all = tt
all_kids name (entry ∷ table) all = kid_by (bytes_eq name entry.0) entry.1 (named table name) all.0 (all_kids name table all.1)

all_steps : kid_names step_names
all_steps = (refl, (refl, (refl, (refl, tt))))

kind_made : (name : List ℕ) → IfKid (kind_of name)
unfolding kind_of
kind_made name = all_kids name step_names all_steps

place_by : (v : Bool) (number : Option ℕ) → IfPlace number → IfPlace (cond v number None)
place_by true number is = is
place_by false number is = tt

step_by : (v : Bool) (kind : Option Kind) (index : Option ℕ) → IfKid kind → IfPlace index → IfStep (cond v (step_with kind index) None)
step_by false kind index is place = tt
step_by true None index is place = tt
step_by true (Some kind) None is place = tt
step_by true (Some kind) (Some index) is place = record { kind = is; place = place }

step_made : (text : List ℕ) → IfStep (step_of text)
step_made text =
    step_by (list_any is_open text) (kind_of (before_first is_open text)) (bracketed (after_first is_open text))
    (kind_made (before_first is_open text))
    (place_by (list_any is_close (after_first is_open text) && is_nil (after_first is_close (after_first is_open text)))
    (number_of (before_first is_close (after_first is_open text))) (number_made (before_first is_close (after_first is_open text))))

onto_made : (step : Option PathStep) (steps : Option (List PathStep)) → IfStep step → IfPath steps → IfPath (onto_steps step steps)
onto_made None steps one rest = tt
onto_made (Some step) None one rest = tt
onto_made (Some step) (Some steps) one rest = All-cons IsStep step steps one rest

steps_made : (texts : List (List ℕ)) → IfPath (steps_of texts)
steps_made [] = All-nil IsStep
steps_made (text ∷ texts) = onto_made (step_of text) (steps_of texts) (step_made text) (steps_made texts)

behind_made : (text : List ℕ) → IfPath (steps_behind text)
behind_made [] = All-nil IsStep
behind_made (b ∷ text) = steps_made (slice_split is_slash (b ∷ text))

path_by : (v : Bool) (steps : Option (List PathStep)) → IfPath steps → IfPath (cond v steps None)
path_by true steps made = made
path_by false steps made = tt

pub path_made : (text : List ℕ) → IfPath (path_of text)
path_made [] = tt
path_made (b ∷ text) = path_by (is_slash b) (steps_behind text) (behind_made text)

slash_by : (b : ℕ) (text : List ℕ) (v : Bool) → is_slash b ≡ v → ((rest : List ℕ) → b ∷ text ≡ encode_utf8 47 ++ rest → ⊥) →
    path_of (b ∷ text) ≡ None
slash_by b text true is none =
    absurd (none text (ap (λ c. c ∷ text) (eqb-true b 47 is) ∙ ap (λ l. l ++ text) (sym (encode_ascii 47 (omega arith)))))
slash_by b text false is none = rw is refl

-- without a `/` in front a text is no path
pub path_none : (text : List ℕ) → ((rest : List ℕ) → text ≡ encode_utf8 47 ++ rest → ⊥) → path_of text ≡ None
path_none [] none = refl
path_none (b ∷ text) none = slash_by b text (is_slash b) refl none
