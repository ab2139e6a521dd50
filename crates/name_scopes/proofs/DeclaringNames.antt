-- What a name declares, by what follows `xmlns` at its start.
use Rattle.std.proofs.Common.{arith, ◌≡◌, ◌≢◌, ◌==◌, ℕ, Bool, true, false, List, [], ◌∷◌, ◌++◌, length, get_or, Option, None, Some, MatchOption, Bor, refl, sym, ap, ◌∙◌, true≢false, append-nil}
use Rattle.std.specs.Prelude.{if◌then◌else◌}
use Rattle.std.specs.Bool.{Decides}
use Rattle.std.specs.List.{list_any, before_first, after_first}
use Rattle.std.specs.Str.{bytes_eq}
use Rattle.std.proofs.lemmas.Slice.Eq.{bytes_eq-Decides}
use Rattle.std.proofs.lemmas.Bool.{false_from_ne_true}
use Rattle.sch_base.specs.Names.{is_colon}
use Rattle.pyx_core.specs.declared.event.Attr.{Attr}
use Rattle.doc_tree.specs.Scope.{xmlns_prefix}
use Rattle.name_scopes.specs.QNames.{prefix_part, local_part}
use Rattle.name_scopes.specs.Declarations.{declaration_of, declares_namespace}
use Rattle.name_scopes.proofs.TagFacts.{at-colon, some-xmlns}
use Rattle.name_scopes.proofs.ItemNames.{colon_apart, local-at, prefix-at, xmlns-colon, xmlns-same}

pub empty : (text : List ℕ) → (length text == 0) ≡ true → text ≡ []
empty [] h = refl
empty (b ∷ text) h = absurd (grind arith)

not-empty : (text : List ℕ) → (length text == 0) ≡ false → text ≢ []
not-empty text h is = true≢false (ap (λ l. length l == 0) (sym is) ∙ h)

colon-first : (text : List ℕ) → get_or text 0 0 ≡ 58 → (rest : List ℕ) × (text ≡ 58 ∷ rest)
colon-first [] h = absurd (omega arith)
colon-first (b ∷ text) h = (text, ap (λ c. c ∷ text) h)

front-same : (front xs ys : List ℕ) → front ++ xs ≡ front ++ ys → xs ≡ ys
front-same [] xs ys h = h
front-same (f ∷ front) xs ys h = front-same front xs ys (cc)

-- the two tests of a name
module _ (name : List ℕ) where
  is-whole : name ≡ xmlns_prefix → bytes_eq name xmlns_prefix ≡ true
  is-whole is = (bytes_eq-Decides name xmlns_prefix).1 is

  not-whole : (local : List ℕ) → name ≡ xmlns_prefix ++ 58 ∷ local → bytes_eq name xmlns_prefix ≡ false
  not-whole local is = ap (λ q. bytes_eq q xmlns_prefix) is ∙ colon_apart xmlns_prefix local

  has-prefix : (local : List ℕ) → name ≡ xmlns_prefix ++ 58 ∷ local → bytes_eq (prefix_part name) xmlns_prefix ≡ true
  has-prefix local is = ap (λ p. bytes_eq p xmlns_prefix) (ap prefix_part is ∙ prefix-at xmlns_prefix local xmlns-colon) ∙ xmlns-same

  other-name : name ≢ xmlns_prefix → bytes_eq name xmlns_prefix ≡ false
  other-name other = false_from_ne_true (bytes_eq name xmlns_prefix) (λ (same : bytes_eq name xmlns_prefix ≡ true). other ((bytes_eq-Decides name xmlns_prefix).0 same))

  other-prefix : ((local : List ℕ) → name ≢ xmlns_prefix ++ 58 ∷ local) → bytes_eq (prefix_part name) xmlns_prefix ≡ false
  other-prefix parts = false_from_ne_true (bytes_eq (prefix_part name) xmlns_prefix)
      (λ (same : bytes_eq (prefix_part name) xmlns_prefix ≡ true). by (list_any is_colon name) refl ((bytes_eq-Decides (prefix_part name) xmlns_prefix).0 same))
    where
      by : (t : Bool) → list_any is_colon name ≡ t → prefix_part name ≡ xmlns_prefix → ⊥
      by true e prefix =
          let front : before_first is_colon name ≡ xmlns_prefix = sym (ap (λ t. if t then before_first is_colon name else []) e) ∙ prefix in
          parts (after_first is_colon name) (at-colon name e ∙ ap (λ p. p ++ 58 ∷ after_first is_colon name) front)
      by false e prefix = some-xmlns (sym prefix ∙ ap (λ t. if t then before_first is_colon name else []) e)

-- the name is `xmlns` and then this
module _ (name rest : List ℕ) (is : name ≡ xmlns_prefix ++ rest) where
  whole : rest ≡ [] → name ≡ xmlns_prefix
  whole none = is ∙ (ap (λ l. xmlns_prefix ++ l) none ∙ append-nil xmlns_prefix)

  not-whole-by : rest ≢ [] → name ≢ xmlns_prefix
  not-whole-by some same = some (front-same xmlns_prefix rest [] (sym is ∙ (same ∙ sym (append-nil xmlns_prefix))))

  no-colon-by : ((local : List ℕ) → rest ≢ 58 ∷ local) → (local : List ℕ) → name ≢ xmlns_prefix ++ 58 ∷ local
  no-colon-by other local same = other local (front-same xmlns_prefix rest (58 ∷ local) (sym is ∙ same))

-- whether a name declares something

pub names-default : (name rest : List ℕ) → name ≡ xmlns_prefix ++ rest → rest ≡ [] → declares_namespace name ≡ true
names-default name rest is none = rw (is-whole name (whole name rest is none)) refl

pub names-by : (name rest : List ℕ) (colon : Bool) → name ≡ xmlns_prefix ++ rest → (length rest == 0) ≡ false → Decides colon (get_or rest 0 0 ≡ 58) → colon ≡ declares_namespace name
names-by name rest true is some decides =
    let first = colon-first rest (decides.0 refl) in
    let parts : name ≡ xmlns_prefix ++ 58 ∷ first.0 = is ∙ ap (λ l. xmlns_prefix ++ l) first.1 in
    rw (not-whole name first.0 parts, has-prefix name first.0 parts) refl
names-by name rest false is some decides =
    let other : (local : List ℕ) → rest ≢ 58 ∷ local = λ local e. true≢false (sym (decides.1 (ap (λ l. get_or l 0 0) e))) in
    rw (other-name name (not-whole-by name rest is (not-empty rest some)), other-prefix name (no-colon-by name rest is other)) refl

pub names-none : (name : List ℕ) → ((rest : List ℕ) → name ≢ xmlns_prefix ++ rest) → declares_namespace name ≡ false
names-none name none =
    rw (other-name name (λ is. none [] (is ∙ sym (append-nil xmlns_prefix))), other-prefix name (λ local. none (58 ∷ local))) refl

-- what an attribute declares

pub declares-default : (attr : Attr) (rest : List ℕ) → attr.name ≡ xmlns_prefix ++ rest → rest ≡ [] → declaration_of attr ≡ Some (rest, attr.value)
declares-default attr rest is none = rw (is-whole attr.name (whole attr.name rest is none)) (ap (λ l. Some (l, attr.value)) (sym none))

pub declares-by : (attr : Attr) (rest : List ℕ) (found : Option (Bor (List ℕ))) → attr.name ≡ xmlns_prefix ++ rest → (length rest == 0) ≡ false →
    MatchOption found ((local : List ℕ) → rest ≢ 58 ∷ local) (λ prefix. rest ≡ 58 ∷ prefix.now) →
    MatchOption found (declaration_of attr ≡ None) (λ prefix. declaration_of attr ≡ Some (prefix.now, attr.value))
declares-by attr rest None is some other =
    rw (other-name attr.name (not-whole-by attr.name rest is (not-empty rest some)), other-prefix attr.name (no-colon-by attr.name rest is other)) refl
declares-by attr rest (Some prefix) is some at =
    let parts : attr.name ≡ xmlns_prefix ++ 58 ∷ prefix.now = is ∙ ap (λ l. xmlns_prefix ++ l) at in
    rw (not-whole attr.name prefix.now parts, has-prefix attr.name prefix.now parts, ap local_part parts ∙ local-at xmlns_prefix prefix.now xmlns-colon) refl

pub declares-none : (attr : Attr) → ((rest : List ℕ) → attr.name ≢ xmlns_prefix ++ rest) → declaration_of attr ≡ None
declares-none attr none =
    rw (other-name attr.name (λ is. none [] (is ∙ sym (append-nil xmlns_prefix))), other-prefix attr.name (λ local. none (58 ∷ local))) refl
