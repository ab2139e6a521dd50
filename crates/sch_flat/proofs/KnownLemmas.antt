-- How large an element is whose attribute has a text, by the element with the empty text in its place.
use Rattle.std.proofs.Common.{arith, ◌≡◌, ℕ, ◌+◌, List, [], ◌∷◌, ◌++◌, length, Option, None, Some, option_map, sym, ap, ◌∙◌, length-append}
use Rattle.std.proofs.lemmas.List.Elements.{filter-append}
use Rattle.std.specs.Option.{unwrap_or}
use Rattle.name_scopes.specs.Declarations.{is_plain, plain_attrs}
use Rattle.pyx_core.specs.declared.event.Attr.{Attr}
use Rattle.pyx_core.specs.declared.event.Event.{Event}
use Rattle.pyx_core.specs.declared.event.Event.TheVariants.{Start, End}
use Rattle.pyx_core.specs.Escapes.{escaped}
use Rattle.pyx_core.specs.Written.{attr_line, attr_lines, start_line, text_of}
use Rattle.sch_flat.specs.declared.size.FlatSize.{FlatSize}
use Rattle.sch_flat.specs.FlatDocument.{element, only_given}
use Rattle.sch_flat.specs.FlatSize.{bytes_of, escapes_len, nodes_of, size_of}
use Rattle.sch_flat.specs.inner.Sizes.{sum_of}
use Rattle.sch_flat.proofs.SizeLemmas.{attr_line-length, of_counts, plain-one, sized_is, sized_sum}

abbrev Attributes : Type 0
Attributes = List (List ℕ × Option (List ℕ))

abbrev attr_of : List ℕ → List ℕ → Attr
attr_of name value = record { name = name; value = value }

-- attributes with a value among them
abbrev with : Attributes → List ℕ → Attributes → List ℕ → List Attr
with before name after value = only_given (before ++ (name, Some value) ∷ after)

module _ (name : List ℕ) (value : List ℕ) (after : Attributes) where
  lines_apart : (before : Attributes) → length (attr_lines (with before name after value)) ≡ length (attr_lines (with before name after [])) + length (escaped value)
  lines_apart [] =
      length-append (attr_line name value) (attr_lines (only_given after))
      ∙ omega (arith, attr_line-length name value, attr_line-length name [], length-append (attr_line name []) (attr_lines (only_given after)))
  lines_apart ((other, None) ∷ before) = lines_apart before
  lines_apart ((other, Some its) ∷ before) =
      length-append (attr_line other its) (attr_lines (with before name after value))
      ∙ omega (arith, lines_apart before, length-append (attr_line other its) (attr_lines (with before name after [])))

  plain_apart : (before : Attributes) → length (plain_attrs (with before name after value)) ≡ length (plain_attrs (with before name after []))
  plain_apart [] = let one = attr_of name in
      ap length (filter-append is_plain (one value ∷ []) (only_given after))
      ∙ length-append (plain_attrs (one value ∷ [])) (plain_attrs (only_given after))
      ∙ ap (λ n. n + length (plain_attrs (only_given after))) (plain-one (one value) ∙ sym (plain-one (one [])))
      ∙ sym (ap length (filter-append is_plain (one [] ∷ []) (only_given after))
      ∙ length-append (plain_attrs (one [] ∷ [])) (plain_attrs (only_given after)))
  plain_apart ((other, None) ∷ before) = plain_apart before
  plain_apart ((other, Some its) ∷ before) = let one = attr_of other its in
      ap length (filter-append is_plain (one ∷ []) (with before name after value))
      ∙ length-append (plain_attrs (one ∷ [])) (plain_attrs (with before name after value))
      ∙ ap (λ n. length (plain_attrs (one ∷ [])) + n) (plain_apart before)
      ∙ sym (ap length (filter-append is_plain (one ∷ []) (with before name after []))
      ∙ length-append (plain_attrs (one ∷ [])) (plain_attrs (with before name after [])))

start_bytes : (name : List ℕ) (attrs : List Attr) (events : List Event) → bytes_of (Start name attrs ∷ events) ≡ (length (start_line name) + length (attr_lines attrs)) + bytes_of events
start_bytes name attrs events =
    length-append (start_line name ++ attr_lines attrs) (text_of events) ∙ ap (λ n. n + bytes_of events) (length-append (start_line name) (attr_lines attrs))

pub text_apart : (name key value : List ℕ) (before after : Attributes) (held : List Event) →
    sum_of (size_of (element name (before ++ (key, Some []) ∷ after) held)) (of_counts (escapes_len value) 0) ≡ size_of (element name (before ++ (key, Some value) ∷ after) held)
text_apart name key value before after held =
    let rest = held ++ End name ∷ [] in
    let bytes = start_bytes name (with before key after value) rest in
    let empty = start_bytes name (with before key after []) rest in
    let lines = lines_apart key value after before in
    sized_sum (bytes_of (element name (before ++ (key, Some []) ∷ after) held)) (length (escaped value)) (nodes_of (element name (before ++ (key, Some []) ∷ after) held)) 0
    ∙ sized_is (omega (arith, bytes, empty, lines)) (omega (arith, plain_apart key value after before))

-- the same of sizes that were found
pub known : (name key value : List ℕ) (before after : Attributes) (held : List Event) (len : ℕ) (size more result : FlatSize) →
    len ≡ escapes_len value → size ≡ size_of (element name (before ++ (key, Some []) ∷ after) held) → more ≡ of_counts len 0 → result ≡ sum_of size more →
    result ≡ size_of (element name (before ++ (key, Some value) ∷ after) held)
known name key value before after held len size more result l s m r =
    r ∙ ap (λ z. sum_of z more) s
    ∙ ap (sum_of (size_of (element name (before ++ (key, Some []) ∷ after) held))) (m ∙ ap (λ n. of_counts n 0) l)
    ∙ text_apart name key value before after held

-- an attribute that may be absent: nothing is added then
same_size : (events : List Event) → sum_of (size_of events) (of_counts 0 0) ≡ size_of events
same_size events = sized_sum (bytes_of events) 0 (nodes_of events) 0 ∙ sized_is (omega arith) (omega arith)

optional_apart : (name key : List ℕ) (value : Option (List ℕ)) (before after : Attributes) (held : List Event) →
    sum_of (size_of (element name (before ++ (key, option_map (λ _. []) value) ∷ after) held)) (of_counts (unwrap_or (option_map escapes_len value) 0) 0)
    ≡ size_of (element name (before ++ (key, value) ∷ after) held)
optional_apart name key None before after held = same_size (element name (before ++ (key, None) ∷ after) held)
optional_apart name key (Some value) before after held = text_apart name key value before after held

pub known_optional : (name key : List ℕ) (value : Option (List ℕ)) (before after : Attributes) (held : List Event) (len : Option ℕ) (more_len : ℕ) (size more result : FlatSize) →
    len ≡ option_map escapes_len value → more_len ≡ unwrap_or len 0 →
    size ≡ size_of (element name (before ++ (key, option_map (λ _. []) value) ∷ after) held) → more ≡ of_counts more_len 0 → result ≡ sum_of size more →
    result ≡ size_of (element name (before ++ (key, value) ∷ after) held)
known_optional name key value before after held len more_len size more result l u s m r =
    r ∙ ap (λ z. sum_of z more) s
    ∙ ap (sum_of (size_of (element name (before ++ (key, option_map (λ _. []) value) ∷ after) held)))
    (m ∙ ap (λ n. of_counts n 0) (u ∙ ap (λ o. unwrap_or o 0) l))
    ∙ optional_apart name key value before after held

-- the blank that stands in the place of a value, by its length
pub blank_is : (len : Option ℕ) (value : Option (List ℕ)) → len ≡ option_map escapes_len value → option_map {U = List ℕ} (λ _. []) len ≡ option_map {U = List ℕ} (λ _. []) value
blank_is len None is = ap (option_map (λ _. [])) is
blank_is len (Some value) is = ap (option_map (λ _. [])) is
