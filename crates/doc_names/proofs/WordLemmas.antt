-- Texts as keys: they are equal where their bytes are.
use Rattle.std.proofs.Common.{◌≡◌, ◌≢◌, ℕ, List, map, slice_get, Option, None, Some, is_some, sym, String, Global}
use Rattle.std.specs.Prelude.{IfSome, IfNone}
use Rattle.std.specs.List.{position, position_or_len, list_any}
use Rattle.std.specs.String.{string_bytes, string_eq}
use Rattle.std.specs.Str.{bytes_eq}
use Rattle.std.proofs.lemmas.Slice.Eq.{bytes_eq-Decides}
use Rattle.indexmap.specs.IndexSet.{insert_key}
use Rattle.doc_names.specs.Numbering.{EachOnce, Numbered}
use Rattle.doc_names.proofs.NumberLemmas.{searched, missing, inserted, inserted-once}

pub word-searched : (word : List ℕ) (keys : List (String Global)) (i : ℕ) → position (λ k. bytes_eq word (string_bytes k)) keys ≡ Some i →
    slice_get (map string_bytes keys) i ≡ Some word
word-searched word keys i h =
    searched (λ k. bytes_eq word (string_bytes k)) string_bytes word (λ k e. sym ((bytes_eq-Decides word (string_bytes k)).0 e))
    (λ k e. (bytes_eq-Decides word (string_bytes k)).1 (sym e)) keys i h

pub word-inserted : (word : String Global) (keys : List (String Global)) →
    Numbered (map string_bytes keys) (map string_bytes (insert_key string_eq keys word)) (string_bytes word) (position_or_len (string_eq word) keys)
word-inserted word keys =
    inserted string_eq string_bytes word (λ k e. sym ((bytes_eq-Decides (string_bytes word) (string_bytes k)).0 e))
    (λ k e. (bytes_eq-Decides (string_bytes word) (string_bytes k)).1 (sym e)) keys

pub word-once : (word : String Global) (keys : List (String Global)) → EachOnce (map string_bytes keys) → EachOnce (map string_bytes (insert_key string_eq keys word))
word-once word keys once =
    inserted-once string_eq string_bytes word (λ k e. sym ((bytes_eq-Decides (string_bytes word) (string_bytes k)).0 e))
    (λ k e. (bytes_eq-Decides (string_bytes word) (string_bytes k)).1 (sym e)) keys once

-- what a search for a word finds, and that it finds each word of the table
pub word-found : (word : List ℕ) (keys : List (String Global)) (r : Option ℕ) → r ≡ position (λ k. bytes_eq word (string_bytes k)) keys →
    IfSome r (λ i. slice_get (map string_bytes keys) i ≡ Some word)
word-found word keys None h = tt
word-found word keys (Some i) h = word-searched word keys i (sym h)

pub word-absent : (word : List ℕ) (keys : List (String Global)) (r : Option ℕ) → is_some r ≡ list_any (λ k. bytes_eq word (string_bytes k)) keys →
    IfNone r ((i : ℕ) → slice_get (map string_bytes keys) i ≢ Some word)
word-absent word keys None h =
    missing (λ k. bytes_eq word (string_bytes k)) string_bytes word (λ k e. sym ((bytes_eq-Decides word (string_bytes k)).0 e))
    (λ k e. (bytes_eq-Decides word (string_bytes k)).1 (sym e)) keys (sym h)
word-absent word keys (Some i) h = tt
