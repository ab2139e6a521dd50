-- What the attributes of an element say, where their forms are not broken.
use Rattle.std.proofs.Common.{◌≡◌, ℕ, Bool, true, false, ◌&&◌, cond, find, List, [], ◌∷◌, Option, None, Some, refl, sym, ap, ◌∙◌, subst}
use Rattle.std.specs.Option.{is_none, option_map_or}
use Rattle.std.specs.Prelude.{IsUtf8, option_map}
use Rattle.std.specs.Str.{bytes_eq}
use Rattle.std.proofs.lemmas.Bool.{and_parts}
use Rattle.std.proofs.lemmas.Slice.Eq.{bytes_eq-Decides}
use Rattle.std.proofs.lemmas.Str.{IsUtf8-nil}
use Rattle.doc_tree.specs.NameTests.{named}
use Rattle.doc_tree.specs.Table.{Table, Name, Content, root, element, attribute, text, comment, instruction, attrs_of, content_of, name_of, value_at, value_of}
use Rattle.pyx_core.proofs.TextLemmas.{utf8_of}
use Rattle.sch_rules.specs.declared.word.Word.{Word}
use Rattle.sch_rules.specs.Attributes.{is_called, said, said_text}
use Rattle.sch_rules.specs.Rules.{bad_attribute, first_bad, first_missing, has_bad_form, ill_formed, name_if}
use Rattle.sch_flat_laws.specs.Accepted.{MadeContent, MadeOfChars}
use Rattle.sch_flat_laws.proofs.Rules.Unbroken.{or_none}

-- an attribute that is not missing
pub record Present (T : Table) (n : ℕ) (name : List ℕ) (names : List (List ℕ)) : Type 0 where
  pub says : said T n name ≡ Some (said_text T n name)
  pub others : first_missing T n names ≡ None

pub present : (T : Table) (n : ℕ) (name : List ℕ) (names : List (List ℕ)) → first_missing T n (name ∷ names) ≡ None → Present T n name names
present T n name names none = by (said T n name) refl none
  where
    by : (value : Option (List ℕ)) → said T n name ≡ value → cond (is_none value) (Some name) (first_missing T n names) ≡ None → Present T n name names
    by None e h = absurd (cc)
    by (Some value) e h = record {
      says = e ∙ ap (λ (v : Option (List ℕ)). Some (option_map_or (λ (x : List ℕ). x) v [])) (sym e);
      others = h;
    }

unnamed : (b : Bool) (name : List ℕ) → name_if b name ≡ None → b ≡ false
unnamed true name h = absurd (cc)
unnamed false name h = refl

-- an attribute of this name in no namespace has its form
named-form : (T : Table) (n : ℕ) (w : Word) (name value : List ℕ) (its : Option Name) → named its (λ (x : Name). bytes_eq x.uri [] && bytes_eq x.local name) ≡ true →
    bad_attribute T n w its value ≡ None → has_bad_form T n w name value ≡ false
named-form T n w name value None is good = absurd (cc)
named-form T n w name value (Some its) is good =
    let parts = and_parts (bytes_eq its.uri []) (bytes_eq its.local name) is in
    let same : its.local ≡ name = (bytes_eq-Decides its.local name).0 parts.1 in
    subst (λ (l : List ℕ). has_bad_form T n w l value ≡ false) same
    (ap (λ (b : Bool). b && has_bad_form T n w its.local value) (sym parts.0) ∙ unnamed (bytes_eq its.uri [] && has_bad_form T n w its.local value) its.local good)

form-over : (T : Table) (n : ℕ) (w : Word) (name value : List ℕ) (attrs : List ℕ) → first_bad T n w attrs ≡ None → option_map (value_of T) (find (is_called T name) attrs) ≡ Some value →
    has_bad_form T n w name value ≡ false
form-over T n w name value [] none says = absurd (cc)
form-over T n w name value (a ∷ attrs) none says =
    let parts = or_none (bad_attribute T n w (name_of T a) (value_of T a)) (first_bad T n w attrs) none in
    by (is_called T name a) refl says parts.0 (form-over T n w name value attrs parts.1)
  where
    by : (b : Bool) → is_called T name a ≡ b → option_map (value_of T) (cond b (Some a) (find (is_called T name) attrs)) ≡ Some value →
        bad_attribute T n w (name_of T a) (value_of T a) ≡ None → (option_map (value_of T) (find (is_called T name) attrs) ≡ Some value → has_bad_form T n w name value ≡ false) →
        has_bad_form T n w name value ≡ false
    by true e h good rest =
        let same : value_of T a ≡ value = cc in
        subst (λ (v : List ℕ). has_bad_form T n w name v ≡ false) same (named-form T n w name (value_of T a) (name_of T a) e good)
    by false e h good rest = rest h

pub form_said : (T : Table) (n : ℕ) (w : Word) (name value : List ℕ) → ill_formed T n (Some w) ≡ None → said T n name ≡ Some value → has_bad_form T n w name value ≡ false
form_said T n w name value none says = form-over T n w name value (attrs_of T n) none says

-- what is said is text
value-utf8 : (T : Table) → MadeOfChars T → (a : ℕ) → IsUtf8 (value_of T a)
value-utf8 T made a = by (content_of T a) (made a)
  where
    by : (content : Option Content) → MadeContent content → IsUtf8 (value_at content)
    by None here = IsUtf8-nil
    by (Some root) here = IsUtf8-nil
    by (Some (element its decls)) here = IsUtf8-nil
    by (Some (attribute its value)) here = utf8_of value here
    by (Some (text characters)) here = utf8_of characters here
    by (Some (comment characters)) here = utf8_of characters here
    by (Some (instruction its body)) here = utf8_of body here

pub said_utf8 : (T : Table) → MadeOfChars T → (n : ℕ) (name : List ℕ) → IsUtf8 (said_text T n name)
said_utf8 T made n name = by (find (is_called T name) (attrs_of T n))
  where
    by : (a : Option ℕ) → IsUtf8 (option_map_or (λ (value : List ℕ). value) (option_map (value_of T) a) [])
    by None = IsUtf8-nil
    by (Some a) = value-utf8 T made a
