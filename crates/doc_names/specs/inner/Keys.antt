-- The numbering of names: a table of words, and each name as the numbers of its three words.
use Rattle.std.specs.Prelude.{◌≡◌, ℕ, ◌<◌, ◌≤◌, List, [], ◌∷◌, length, slice_index_or}
use Rattle.doc_names.specs.declared.names.NameKey.{NameKey}
use Rattle.doc_names.specs.Name.{Name}

-- the name that three words spell
abbrev pub spelled : List (List ℕ) → NameKey → Name
spelled words key = record {
  prefix = slice_index_or words key.prefix [];
  local = slice_index_or words key.local [];
  uri = slice_index_or words key.uri [];
}

-- the three words of a key are among the first so many
pub record KeyIsBelow (count : ℕ) (key : NameKey) : Type 0 where
  pub prefix : key.prefix < count
  pub local : key.local < count
  pub uri : key.uri < count

abbrev pub KeysAreBelow : ℕ → List NameKey → Type 0
KeysAreBelow count [] = Unit {0}
KeysAreBelow count (key ∷ keys) = KeyIsBelow count key × KeysAreBelow count keys

-- words that stay, with perhaps more after them
pub record Extends (before after : List (List ℕ)) : Type 0 where
  pub kept : (i : ℕ) → i < length before → slice_index_or after i [] ≡ slice_index_or before i []
  pub longer : length before ≤ length after

-- the key of a name among the words
pub record KeyOf (words : List (List ℕ)) (name : Name) (key : NameKey) : Type 0 where
  pub spells : spelled words key ≡ name
  pub is_below : KeyIsBelow (length words) key
