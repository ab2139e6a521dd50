-- Sizes of events in their parts, and sums that stand still at the last value.
use Rattle.std.proofs.Common.{arith, ◌≡◌, ◌==◌, ℕ, suc, ◌+◌, ◌-◌, ◌^◌, Bool, true, false, Option, cond, ◌||◌, List, [], ◌∷◌, ◌++◌, length, min, Some, None, refl, sym, ap, ◌∙◌, append-nil, length-append}
use Rattle.std.specs.Option.{is_none}
use Rattle.std.specs.Prelude.{codes}
use Rattle.std.specs.Str.{bytes_eq}
use Rattle.std.proofs.lemmas.List.Elements.{filter-append}
use Rattle.doc_tree.specs.Scope.{Decl, xmlns_prefix}
use Rattle.name_scopes.specs.Declarations.{declares_namespace, is_plain, plain_attrs}
use Rattle.name_scopes.specs.QNames.{local_part, prefix_part}
use Rattle.pyx_core.specs.declared.event.Attr.{Attr}
use Rattle.pyx_core.specs.declared.event.Event.{Event}
use Rattle.pyx_core.specs.declared.event.Event.TheVariants.{Start, End}
use Rattle.pyx_core.specs.Escapes.{escape_of, escaped}
use Rattle.pyx_core.specs.Written.{attr_line, attr_lines, chars_line, end_line, event_lines, start_line, text_of}
use Rattle.sch_flat.specs.declared.size.FlatSize.{FlatSize}
use Rattle.sch_flat.specs.FlatDocument.{characters}
use Rattle.sch_flat.specs.FlatSize.{bytes_of, capped, nodes_of, size_of}
use Rattle.sch_flat.specs.inner.Sizes.{attrs_size, sized, sum_of}

sum-capped : (a b m : ℕ) → min (min a m + min b m) m ≡ min (a + b) m
sum-capped a b m = omega arith

three-capped : (a b m : ℕ) → min (min (min a m + 1) m + min b m) m ≡ min (a + suc b) m
three-capped a b m = omega arith

left-capped : (a b m : ℕ) → min (min a m + b) m ≡ min (a + b) m
left-capped a b m = omega arith

pub capped_sum : (a b : ℕ) → capped (capped a + capped b) ≡ capped (a + b)
capped_sum a b = sum-capped a b (2 ^ 64 - 1)

pub capped_left : (a b : ℕ) → capped (capped a + b) ≡ capped (a + b)
capped_left a b = left-capped a b (2 ^ 64 - 1)

pub capped_next : (a b : ℕ) → capped (capped (capped a + 1) + capped b) ≡ capped (a + suc b)
capped_next a b = three-capped a b (2 ^ 64 - 1)

abbrev pub of_counts : ℕ → ℕ → FlatSize
of_counts bytes nodes = record { bytes = bytes; nodes = nodes }

pub sized_sum : (a b c d : ℕ) → sum_of (sized a c) (sized b d) ≡ sized (a + b) (c + d)
sized_sum a b c d =
    ap (λ n. of_counts n (capped (capped c + capped d))) (capped_sum a b) ∙ ap (of_counts (capped (a + b))) (capped_sum c d)

pub sized_is : {a b c d : ℕ} → a ≡ b → c ≡ d → sized a c ≡ sized b d
sized_is {a} {b} {c} {d} h k = ap (λ n. sized n c) h ∙ ap (sized b) k

-- events one after another
pub bytes-append : (xs ys : List Event) → bytes_of (xs ++ ys) ≡ bytes_of xs + bytes_of ys
bytes-append [] ys = omega arith
bytes-append (x ∷ xs) ys =
    length-append (event_lines x) (text_of (xs ++ ys))
    ∙ omega (arith, bytes-append xs ys, length-append (event_lines x) (text_of xs))

pub nodes-append : (xs ys : List Event) → nodes_of (xs ++ ys) ≡ nodes_of xs + nodes_of ys
nodes-append [] ys = omega arith
nodes-append (x ∷ xs) ys = omega (arith, nodes-append xs ys)

pub size_append : (xs ys : List Event) → size_of (xs ++ ys) ≡ sum_of (size_of xs) (size_of ys)
size_append xs ys =
    sized_is (bytes-append xs ys) (nodes-append xs ys) ∙ sym (sized_sum (bytes_of xs) (bytes_of ys) (nodes_of xs) (nodes_of ys))

pub size_then : (events more : List Event) (size next : FlatSize) → size ≡ size_of events → next ≡ size_of more → sum_of size next ≡ size_of (events ++ more)
size_then events more size next h k = ap (λ s. sum_of s next) h ∙ ap (sum_of (size_of events)) k ∙ sym (size_append events more)

-- attributes one after another
attr_bytes-append : (xs ys : List Attr) → length (attr_lines (xs ++ ys)) ≡ length (attr_lines xs) + length (attr_lines ys)
attr_bytes-append [] ys = omega arith
attr_bytes-append (x ∷ xs) ys =
    length-append (attr_line x.name x.value) (attr_lines (xs ++ ys))
    ∙ omega (arith, attr_bytes-append xs ys, length-append (attr_line x.name x.value) (attr_lines xs))

pub attrs_append : (xs ys : List Attr) → attrs_size (xs ++ ys) ≡ sum_of (attrs_size xs) (attrs_size ys)
attrs_append xs ys =
    sized_is (attr_bytes-append xs ys) (ap length (filter-append is_plain xs ys) ∙ length-append (plain_attrs xs) (plain_attrs ys))
    ∙ sym (sized_sum (length (attr_lines xs)) (length (attr_lines ys)) (length (plain_attrs xs)) (length (plain_attrs ys)))

-- lines
start_line-length : (name : List ℕ) → length (start_line name) ≡ length name + 2
unfolding start_line
start_line-length name = ap suc (length-append name (codes "\n")) ∙ omega arith

end_line-length : (name : List ℕ) → length (end_line name) ≡ length name + 2
unfolding end_line
end_line-length name = ap suc (length-append name (codes "\n")) ∙ omega arith

pub attr_line-length : (name value : List ℕ) → length (attr_line name value) ≡ (length name + 3) + length (escaped value)
unfolding attr_line
attr_line-length name value =
    ap suc (length-append name (codes " " ++ (escaped value ++ codes "\n")))
    ∙ ap (λ n. suc (length name + suc n)) (length-append (escaped value) (codes "\n"))
    ∙ omega arith

chars_line-length : (byte : ℕ) (text : List ℕ) → length (chars_line (byte ∷ text)) ≡ length (escaped (byte ∷ text)) + 2
unfolding chars_line
chars_line-length byte text = ap suc (length-append (escaped (byte ∷ text)) (codes "\n")) ∙ omega arith

pub start_size_is : (name : List ℕ) (attrs : List Attr) → sum_of (sized (length name + 2) 1) (attrs_size attrs) ≡ size_of (Start name attrs ∷ [])
start_size_is name attrs =
    sized_sum (length name + 2) (length (attr_lines attrs)) 1 (length (plain_attrs attrs))
    ∙ sized_is
    (ap (λ n. n + length (attr_lines attrs)) (sym (start_line-length name))
    ∙ sym (length-append (start_line name) (attr_lines attrs))
    ∙ ap length (sym (append-nil (start_line name ++ attr_lines attrs))))
    (omega arith)

pub end_size_is : (name : List ℕ) → sized (length name + 2) 0 ≡ size_of (End name ∷ [])
end_size_is name = sized_is {c = 0} {d = 0} (sym (end_line-length name) ∙ ap length (sym (append-nil (end_line name)))) refl

pub characters_size_is : (byte : ℕ) (text : List ℕ) → sized (length (escaped (byte ∷ text)) + 2) 1 ≡ size_of (characters (byte ∷ text))
characters_size_is byte text =
    sized_is {c = 1} {d = 1} (sym (chars_line-length byte text) ∙ ap length (sym (append-nil (chars_line (byte ∷ text))))) refl

pub start_is : (name : List ℕ) (attrs : List Attr) (bytes : ℕ) (size result : FlatSize) → bytes ≡ capped (length name + 2) → size ≡ attrs_size attrs →
    result ≡ sum_of (of_counts bytes 1) size → result ≡ size_of (Start name attrs ∷ [])
start_is name attrs bytes size result b s h =
    h ∙ ap (λ n. sum_of (of_counts n 1) size) b ∙ ap (sum_of (sized (length name + 2) 1)) s ∙ start_size_is name attrs

pub end_is : (name : List ℕ) (bytes : ℕ) → bytes ≡ capped (length name + 2) → of_counts bytes 0 ≡ size_of (End name ∷ [])
end_is name bytes b = ap (λ n. of_counts n 0) b ∙ end_size_is name

pub characters_is : (text : List ℕ) (len bytes : ℕ) → (length text == 0) ≡ false → len ≡ capped (length (escaped text)) → bytes ≡ capped (len + 2) →
    of_counts bytes 1 ≡ size_of (characters text)
characters_is [] len bytes some l b = absurd (cc)
characters_is (byte ∷ text) len bytes some l b =
    ap (λ n. of_counts n 1) (b ∙ ap (λ n. capped (n + 2)) l ∙ capped_left (length (escaped (byte ∷ text))) 2) ∙ characters_size_is byte text

pub no_characters : (text : List ℕ) → (length text == 0) ≡ true → size_of [] ≡ size_of (characters text)
no_characters [] h = refl
no_characters (byte ∷ text) h = absurd (grind arith)

abbrev declared : List ℕ → List ℕ → Option Decl
declared prefix value = Some (prefix, value)

-- whether an attribute declares lies in its name alone
pub plain-one : (attr : Attr) → length (plain_attrs (attr ∷ [])) ≡ cond (declares_namespace attr.name) 0 1
plain-one attr = by (bytes_eq attr.name xmlns_prefix) (bytes_eq (prefix_part attr.name) xmlns_prefix)
  where
    by : (x y : Bool) →
        length (cond (is_none (cond x (declared [] attr.value) (cond y (declared (local_part attr.name) attr.value) None))) (attr ∷ []) []) ≡ cond (x || y) 0 1
    by true y = refl
    by false true = refl
    by false false = refl

pub attr_size_is : (attr : Attr) (len : ℕ) → len ≡ capped (length (escaped attr.value)) →
    sized (capped (length attr.name + 3) + len) (cond (declares_namespace attr.name) 0 1) ≡ attrs_size (attr ∷ [])
attr_size_is attr len is =
    ap (λ n. of_counts n (capped (cond (declares_namespace attr.name) 0 1)))
    (ap (λ n. capped (capped (length attr.name + 3) + n)) is
    ∙ capped_sum (length attr.name + 3) (length (escaped attr.value))
    ∙ ap capped (sym (attr_line-length attr.name attr.value) ∙ ap length (sym (append-nil (attr_line attr.name attr.value)))))
    ∙ ap (λ n. of_counts (capped (length (attr_lines (attr ∷ [])))) (capped n)) (sym (plain-one attr))

pub attr_is : (attr : Attr) (some bytes len nodes : ℕ) → some ≡ capped (length attr.name + 3) → bytes ≡ capped (some + len) → nodes ≡ capped (cond (declares_namespace attr.name) 0 1) →
    len ≡ capped (length (escaped attr.value)) → of_counts bytes nodes ≡ attrs_size (attr ∷ [])
attr_is attr some bytes len nodes s b n is =
    ap (λ k. of_counts k nodes) (b ∙ ap (λ k. capped (k + len)) s) ∙ ap (of_counts (capped (capped (length attr.name + 3) + len))) n ∙ attr_size_is attr len is

-- escapes
pub escaped_append : (xs ys : List ℕ) → length (escaped (xs ++ ys)) ≡ length (escaped xs) + length (escaped ys)
escaped_append [] ys = omega arith
escaped_append (x ∷ xs) ys =
    length-append (escape_of x) (escaped (xs ++ ys))
    ∙ omega (arith, escaped_append xs ys, length-append (escape_of x) (escaped xs))

pub escaped_next : (len : ℕ) (xs : List ℕ) (x : ℕ) → len ≡ capped (length (escaped xs)) → capped (len + length (escape_of x)) ≡ capped (length (escaped (xs ++ x ∷ [])))
escaped_next len xs x is =
    ap (λ n. capped (n + length (escape_of x))) is
    ∙ capped_left (length (escaped xs)) (length (escape_of x))
    ∙ ap capped (ap (λ n. length (escaped xs) + n) (ap length (sym (append-nil (escape_of x)))) ∙ sym (escaped_append xs (x ∷ [])))

pub spaced_len_next : (len more : ℕ) (xs id : List ℕ) → len ≡ capped (length (escaped xs)) → more ≡ capped (length (escaped id)) →
    capped (capped (len + 1) + more) ≡ capped (length (escaped (xs ++ (codes " " ++ id))))
spaced_len_next len more xs id is also =
    ap (λ n. capped (capped (n + 1) + more)) is
    ∙ ap (λ n. capped (capped (capped (length (escaped xs)) + 1) + n)) also
    ∙ capped_next (length (escaped xs)) (length (escaped id))
    ∙ ap capped (sym (escaped_append xs (codes " " ++ id)))
