-- An element whose events are written one after another.
use Rattle.std.proofs.Common.{arith, ◌≡◌, ℕ, ◌==◌, true, false, List, [], ◌∷◌, ◌++◌, length, Result, OnOk, refl, ap, ◌∙◌, subst, append_assoc}
use Rattle.std.specs.List.{flat_map}
use Rattle.sch_model.specs.declared.parts.Diagnostic.{Diagnostic}
use Rattle.sch_flat.specs.FlatDocument.{element, note_events, notes_events}
use Rattle.pyx_core.specs.declared.event.Event.{Event}

around : (old held : List Event) (first last : Event) → ((old ++ first ∷ []) ++ held) ++ last ∷ [] ≡ old ++ (first ∷ (held ++ last ∷ []))
around old held first last = append_assoc (old ++ first ∷ []) held (last ∷ []) ∙ append_assoc old (first ∷ []) (held ++ last ∷ [])

-- what is held is written at once
pub around_one : {T E : Type 0} (result : Result T E) (old one two new held : List Event) (first last : Event) →
    one ≡ old ++ first ∷ [] → two ≡ one ++ held → OnOk result (new ≡ two ++ last ∷ []) → OnOk result (new ≡ old ++ (first ∷ (held ++ last ∷ [])))
around_one result old one two new held first last a b c =
    subst (λ (l : List Event). OnOk result (new ≡ l)) (ap (λ l. l ++ last ∷ []) (b ∙ ap (λ l. l ++ held) a) ∙ around old held first last) c

-- what is held is written in two parts
pub around_two : {T E : Type 0} (result : Result T E) (old one two three new held more : List Event) (first last : Event) →
    one ≡ old ++ first ∷ [] → two ≡ one ++ held → three ≡ two ++ more → OnOk result (new ≡ three ++ last ∷ []) →
    OnOk result (new ≡ old ++ (first ∷ ((held ++ more) ++ last ∷ [])))
around_two result old one two three new held more first last a b c d =
    around_one result old one three new (held ++ more) first last a (c ∙ ap (λ l. l ++ more) b ∙ append_assoc one held more) d

-- six parts one after another
pub in_order : {T E : Type 0} (result : Result T E) (old one two three four five new a b c d e f : List Event) →
    one ≡ old ++ a → two ≡ one ++ b → three ≡ two ++ c → four ≡ three ++ d → five ≡ four ++ e → OnOk result (new ≡ five ++ f) →
    OnOk result (new ≡ old ++ (a ++ (b ++ (c ++ (d ++ (e ++ f))))))
in_order result old one two three four five new a b c d e f h1 h2 h3 h4 h5 h6 =
    subst (λ (l : List Event). OnOk result (new ≡ l))
    (ap (λ l. l ++ f) h5
    ∙ append_assoc four e f
    ∙ ap (λ l. l ++ (e ++ f)) h4
    ∙ append_assoc three d (e ++ f)
    ∙ ap (λ l. l ++ (d ++ (e ++ f))) h3
    ∙ append_assoc two c (d ++ (e ++ f))
    ∙ ap (λ l. l ++ (c ++ (d ++ (e ++ f)))) h2
    ∙ append_assoc one b (c ++ (d ++ (e ++ f)))
    ∙ ap (λ l. l ++ (b ++ (c ++ (d ++ (e ++ f))))) h1
    ∙ append_assoc old a (b ++ (c ++ (d ++ (e ++ f)))))
    h6

-- two parts one after the other
pub two_in_order : {T E : Type 0} (result : Result T E) (old one new a b : List Event) →
    one ≡ old ++ a → OnOk result (new ≡ one ++ b) → OnOk result (new ≡ old ++ (a ++ b))
two_in_order result old one new a b h1 h2 =
    subst (λ (l : List Event). OnOk result (new ≡ l)) (ap (λ l. l ++ b) h1 ∙ append_assoc old a b) h2

-- what is written of a list is written of one that is the same
pub written : {A : Type 0} (f : List A → List Event) (old new : List Event) (xs ys : List A) → xs ≡ ys → new ≡ old ++ f xs → new ≡ old ++ f ys
written f old new xs ys same h = h ∙ ap (λ l. old ++ f l) same

pub no_notes : (group name : List ℕ) (notes : List Diagnostic) → (length notes == 0) ≡ true → notes_events group name notes ≡ []
no_notes group name [] h = refl
no_notes group name (d ∷ ds) h = absurd (grind arith)

pub some_notes : (group name : List ℕ) (notes : List Diagnostic) → (length notes == 0) ≡ false →
    notes_events group name notes ≡ element group [] (flat_map (note_events name) notes)
some_notes group name [] h = absurd (cc)
some_notes group name (d ∷ ds) h = refl
