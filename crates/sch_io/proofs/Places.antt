-- The first file of a name, in the order in which a shelf in memory keeps its files.
use Rattle.std.proofs.Common.{◌≡◌, ℕ, suc, ◌+◌, ◌<◌, Bool, true, false, cond, List, [], ◌∷◌, length, map, drop, get_or, Some, refl, sym, ap, ◌∙◌, add-one, drop-cons}
use Rattle.std.proofs.lemmas.Option.{slice_get_read}
use Rattle.std.specs.Ordering.{nat_cmp}
use Rattle.std.specs.Cmp.Lexicographic.{slice_cmp, pointwise, texts_ties}
use Rattle.std.specs.Prelude.{nat_eq, string_bytes}
use Rattle.std.specs.Option.{option_map_or}
use Rattle.std.specs.FinMap.{find}
use Rattle.sch_io.specs.inner.NamedFiles.{entry_of, content_at}
use Rattle.sch_io.specs.declared.memory_shelf.NamedFile.{NamedFile}

-- what is found from a place on, by the test of the file there
from_place : (name : List ℕ) (files : List NamedFile) (i : ℕ) (x : NamedFile) (b : Bool) → i < length files → x ≡ get_or files i x →
    b ≡ pointwise nat_eq name (string_bytes x.name) →
    find (slice_cmp nat_cmp) name (map entry_of (drop i files)) ≡ cond b (Some x.content.items) (find (slice_cmp nat_cmp) name (map entry_of (drop (i + 1) files)))
from_place name files i x b less is e =
    ap (λ l. find (slice_cmp nat_cmp) name (map entry_of l)) (drop-cons files i x less ∙ ap (λ y. y ∷ drop (suc i) files) (sym is))
    ∙ ap (λ t. cond t (Some x.content.items) (find (slice_cmp nat_cmp) name (map entry_of (drop (suc i) files)))) (sym (texts_ties name (string_bytes x.name)) ∙ sym e)
    ∙ ap (λ n. cond b (Some x.content.items) (find (slice_cmp nat_cmp) name (map entry_of (drop n files)))) (sym (add-one i))

-- the file at the place has the name
pub found_here : (name : List ℕ) (files : List NamedFile) (i : ℕ) (x : NamedFile) → i < length files → x ≡ get_or files i x →
    true ≡ pointwise nat_eq name (string_bytes x.name) → find (slice_cmp nat_cmp) name (map entry_of (drop i files)) ≡ Some (content_at files i)
found_here name files i x less is e =
    from_place name files i x true less is e ∙ ap (λ o. Some (option_map_or (λ (file : NamedFile). file.content.items) o [])) (sym (slice_get_read files (length files) i x refl less is))

-- the file at the place has another name
pub found_later : (name : List ℕ) (files : List NamedFile) (i : ℕ) (x : NamedFile) → i < length files → x ≡ get_or files i x →
    false ≡ pointwise nat_eq name (string_bytes x.name) →
    find (slice_cmp nat_cmp) name (map entry_of (drop i files)) ≡ find (slice_cmp nat_cmp) name (map entry_of (drop (i + 1) files))
found_later name files i x less is e = from_place name files i x false less is e
