-- Attributes that are there where they have to be, and have their forms.
use Rattle.std.proofs.Common.{◌≡◌, ℕ, Bool, true, false, not, ◌&&◌, cond, List, [], ◌∷◌, Option, None, Some, refl, ap, ◌∙◌}
use Rattle.std.specs.List.{list_all, list_any}
use Rattle.std.specs.Option.{is_none, is_some, option_or}
use Rattle.std.specs.Prelude.{codes}
use Rattle.std.specs.Str.{bytes_eq}
use Rattle.std.proofs.lemmas.Bool.{and_parts, not-true}
use Rattle.doc_tree.specs.Table.{Table, Name, Content, attrs_of, name_at, name_of, value_at, value_of}
use Rattle.name_scopes.proofs.ItemNames.{local-all}
use Rattle.pyx_core.specs.declared.event.Attr.{Attr}
use Rattle.sch_base.specs.Names.{is_colon}
use Rattle.sch_flat.specs.FlatDocument.{only_given}
use Rattle.sch_rules.specs.declared.word.Word.{Word}
use Rattle.sch_rules.specs.Attributes.{is_true, said as said_at}
use Rattle.sch_rules.specs.Rules.{bad_attribute, first_bad, first_missing, has_bad_form, ill_formed, missing, name_if}
use Rattle.sch_rules.specs.Words.{required}
use Rattle.sch_flat_laws.specs.Readable.{Each}
use Rattle.sch_flat_laws.proofs.Reading.Attributes.{SayAll, Says, all_plain, are_plain, given_in}

-- an attribute is not given, or has its form
abbrev pub FormOf : Table → ℕ → Word → List ℕ → Option (List ℕ) → Type 0
FormOf T n w name None = Unit {0}
FormOf T n w name (Some value) = has_bad_form T n w name value ≡ false

abbrev pub AllForms : Table → ℕ → Word → List (List ℕ × Option (List ℕ)) → Type 0
AllForms T n w [] = Unit {0}
AllForms T n w (a ∷ attributes) = FormOf T n w a.0 a.1 × AllForms T n w attributes

-- an attribute of which each value has its form
pub free_form : (T : Table) (n : ℕ) (w : Word) (name : List ℕ) → ((value : List ℕ) → has_bad_form T n w name value ≡ false) → (value : Option (List ℕ)) → FormOf T n w name value
free_form T n w name free None = tt
free_form T n w name free (Some value) = free value

abbrev HasForm : Table → ℕ → Word → Attr → Type 0
HasForm T n w attr = has_bad_form T n w attr.name attr.value ≡ false

given-forms : (T : Table) (n : ℕ) (w : Word) (attributes : List (List ℕ × Option (List ℕ))) → AllForms T n w attributes → Each (HasForm T n w) (only_given attributes)
given-forms T n w [] forms = tt
given-forms T n w ((name, None) ∷ attributes) forms = given-forms T n w attributes forms.1
given-forms T n w ((name, Some value) ∷ attributes) forms = (forms.0, given-forms T n w attributes forms.1)

never : (b : Bool) (name : List ℕ) → name_if (b && false) name ≡ None
never true name = refl
never false name = refl

abbrev is_colonless : Attr → Bool
is_colonless attr = not (list_any is_colon attr.name)

good-attribute : (T : Table) (n a : ℕ) (w : Word) (attr : Attr) → Says T a attr → list_any is_colon attr.name ≡ false → HasForm T n w attr →
    bad_attribute T n w (name_of T a) (value_of T a) ≡ None
good-attribute T n a w attr says plain form =
    let its = says.its in
    let local : its.local ≡ attr.name = ap (λ (x : Name). x.local) says.named ∙ local-all attr.name plain in
    ap (λ (c : Option Content). bad_attribute T n w (name_at c) (value_at c)) says.content
    ∙ ap (λ (l : List ℕ). name_if (bytes_eq its.uri [] && has_bad_form T n w l attr.value) its.local) local
    ∙ ap (λ (b : Bool). name_if (bytes_eq its.uri [] && b) its.local) form
    ∙ never (bytes_eq its.uri []) its.local

none-bad : (T : Table) (n : ℕ) (w : Word) (nodes : List ℕ) (attrs : List Attr) → SayAll T nodes attrs → list_all is_colonless attrs ≡ true → Each (HasForm T n w) attrs →
    first_bad T n w nodes ≡ None
none-bad T n w [] [] say plain forms = refl
none-bad T n w [] (attr ∷ attrs) say plain forms = absurd say
none-bad T n w (a ∷ nodes) [] say plain forms = absurd say
none-bad T n w (a ∷ nodes) (attr ∷ attrs) say plain forms =
    let parts = and_parts (is_colonless attr) (list_all is_colonless attrs) plain in
    ap (λ o. option_or o (first_bad T n w nodes)) (good-attribute T n a w attr say.0 (not-true (list_any is_colon attr.name) parts.0) forms.0)
    ∙ none-bad T n w nodes attrs say.1 parts.1 forms.1

-- no attribute of the element has a form that it may not have
pub well_formed : (T : Table) (n : ℕ) (w : Word) (attributes : List (List ℕ × Option (List ℕ))) → SayAll T (attrs_of T n) (only_given attributes) → are_plain attributes ≡ true →
    AllForms T n w attributes → ill_formed T n (Some w) ≡ None
well_formed T n w attributes own plain forms =
    none-bad T n w (attrs_of T n) (only_given attributes) own (all_plain attributes plain).no_colons (given-forms T n w attributes forms)

-- the element has the attributes that it has to have
has-all : (T : Table) (n : ℕ) (attributes : List (List ℕ × Option (List ℕ))) → ((name : List ℕ) → said_at T n name ≡ given_in attributes name) → (names : List (List ℕ)) →
    list_all (λ (name : List ℕ). is_some (given_in attributes name)) names ≡ true → first_missing T n names ≡ None
has-all T n attributes says [] all = refl
has-all T n attributes says (name ∷ names) all =
    let parts = and_parts (is_some (given_in attributes name)) (list_all (λ (name : List ℕ). is_some (given_in attributes name)) names) all in
    ap (λ (o : Option (List ℕ)). cond (is_none o) (Some name) (first_missing T n names)) (says name)
    ∙ by (given_in attributes name) parts.0
    ∙ has-all T n attributes says names parts.1
  where
    by : (o : Option (List ℕ)) → is_some o ≡ true → cond (is_none o) (Some name) (first_missing T n names) ≡ first_missing T n names
    by None h = absurd (cc)
    by (Some value) h = refl

pub none_missing : (T : Table) (n : ℕ) (w : Word) (attributes : List (List ℕ × Option (List ℕ))) → ((name : List ℕ) → said_at T n name ≡ given_in attributes name) →
    is_true (given_in attributes (codes "abstract")) ≡ false → list_all (λ (name : List ℕ). is_some (given_in attributes name)) (required w false) ≡ true →
    missing T n (Some w) ≡ None
none_missing T n w attributes says concrete all =
    ap (λ (b : Bool). first_missing T n (required w b)) (ap is_true (says (codes "abstract")) ∙ concrete)
    ∙ has-all T n attributes says (required w false) all
