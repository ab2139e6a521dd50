-- Labels counted: each with how often it stands among them, in the order of their bytes.
use Rattle.std.specs.Prelude.{◌≡◌, ℕ, suc, List, [], ◌∷◌, count_by, unwrap_or}
use Rattle.std.specs.BTreeMap.{insert_entry, is_at}
use Rattle.std.specs.Cmp.Lexicographic.{slice_cmp}
use Rattle.std.specs.List.Sorted.{IsStrictlySortedBy}
use Rattle.std.specs.Map.{keys_of, lookup}
use Rattle.std.specs.Ordering.{nat_cmp}
use Rattle.std.specs.Str.{bytes_eq}
use Rattle.std.specs.declared.cmp.Ordering.{Ordering}

-- the order of texts by their bytes
abbrev pub text_cmp : List ℕ → List ℕ → Ordering
text_cmp = slice_cmp nat_cmp

-- how often a label was counted
abbrev pub count_in : List (List ℕ × ℕ) → List ℕ → ℕ
count_in counts label = unwrap_or (lookup (is_at (text_cmp label)) counts) 0

-- a label counted once more, in its place
abbrev pub counted_too : List (List ℕ × ℕ) → List ℕ → List (List ℕ × ℕ)
counted_too counts label = insert_entry text_cmp counts label (suc (count_in counts label))

-- labels counted, behind others
abbrev pub counted_behind : List (List ℕ × ℕ) → List (List ℕ) → List (List ℕ × ℕ)
counted_behind counts [] = counts
counted_behind counts (label ∷ labels) = counted_behind (counted_too counts label) labels

-- labels counted
abbrev pub counted : List (List ℕ) → List (List ℕ × ℕ)
counted labels = counted_behind [] labels

-- the labels stand in the order of their bytes, each once, with how often it stands among all
pub record AreCounts (labels : List (List ℕ)) (counts : List (List ℕ × ℕ)) : Type 0 where
  pub in_order : IsStrictlySortedBy text_cmp (keys_of counts)
  pub each : (label : List ℕ) → count_in counts label ≡ count_by (bytes_eq label) labels

-- so it is of all labels that are counted
abbrev pub LabelsAreCounted : Type 0
LabelsAreCounted = (labels : List (List ℕ)) → AreCounts labels (counted labels)
