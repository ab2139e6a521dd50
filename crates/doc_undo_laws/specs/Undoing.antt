-- What takes an edit back: the edits that make the same tree again (XPath 1.0, section 5), whatever the numbers of its nodes.
use Rattle.std.specs.Prelude.{◌≡◌, ℕ, ◌+◌, true, List, [], ◌∷◌, ◌++◌, length, map, Option, Some}
use Rattle.doc_table.specs.Kinds.{is_text}
use Rattle.doc_table.specs.Laws.{TextsApart, WellFormed}
use Rattle.doc_table.specs.Lines.{lines, lines_below}
use Rattle.doc_table.specs.SameTree.{SameTree}
use Rattle.doc_table.specs.Table.{Content, Name, Table, attribute, attrs_of, content_of, kids_of, kind_of, name_of, value_of}
use Rattle.doc_edits.specs.Changes.{deleted, gained, inserted, removed, renamed, said}
use Rattle.doc_edits.specs.Fitting.{MayGain, MayTake}

-- a node that went, with all below it, comes back as a piece with the same lines, behind as many kids
abbrev pub DeletionsAreUndone : Type 0
DeletionsAreUndone = (T P : Table) (n p : ℕ) (front back : List ℕ) → WellFormed T → WellFormed P → kids_of T p ≡ front ++ n ∷ back → TextsApart T (front ++ back) →
    lines P ≡ lines_below T n → MayTake (removed T n) p (length front) P → SameTree T (inserted (removed T n) p (length front) P)

-- a piece that came goes; its top got the next number
abbrev pub InsertionsAreUndone : Type 0
InsertionsAreUndone = (T P : Table) (p before : ℕ) → WellFormed T → WellFormed P → MayTake T p before P → SameTree T (removed (inserted T p before P) (length T))

-- attributes go, one after another
abbrev pub lost : List ℕ → Table → Table
lost [] T = T
lost (a ∷ ats) T = lost ats (removed T a)

-- an attribute by its name and its value
abbrev pub Pair : Type 0
Pair = Name × List ℕ

abbrev pub content_of_pair : Pair → Option Content
content_of_pair pair = Some (attribute pair.0 pair.1)

-- attributes come, one after another
abbrev pub regained : ℕ → List Pair → Table → Table
regained n [] T = T
regained n (pair ∷ pairs) T = regained n pairs (gained T n pair.0 pair.1)

-- and each may come when its turn is
abbrev pub MayRegain : ℕ → List Pair → Table → Type 0
MayRegain n [] T = Unit {0}
MayRegain n (pair ∷ pairs) T = MayGain T n pair.0 pair.1 × MayRegain n pairs (gained T n pair.0 pair.1)

-- other texts and names are given back: the very table stands again
pub record ContentsAreGivenBack : Type 0 where
  pub saying : (T : Table) (n : ℕ) (new : List ℕ) → said (said T n new) n (value_of T n) ≡ T
  pub renaming : (T : Table) (n : ℕ) (name new : Name) → name_of T n ≡ Some name → renamed (renamed T n new) n name ≡ T

-- an attribute that came goes; attributes that went, up to the last one, come again in their order
pub record AttributesAreGivenBack : Type 0 where
  pub gain : (T : Table) (n : ℕ) (name : Name) (value : List ℕ) → WellFormed T → MayGain T n name value → SameTree T (removed (gained T n name value) (length T))
  pub loss : (T : Table) (n : ℕ) (front ats : List ℕ) (pairs : List Pair) → WellFormed T → attrs_of T n ≡ front ++ ats → map (content_of T) ats ≡ map content_of_pair pairs →
      MayRegain n pairs (lost ats T) → SameTree T (regained n pairs (lost ats T))

-- where two texts met, the left one says its own text again, then the node comes back, and then the right one
abbrev pub MergesAreUndone : Type 0
MergesAreUndone = (T P Q : Table) (n p left right : ℕ) (front back : List ℕ) → WellFormed T → WellFormed P → WellFormed Q →
    kids_of T p ≡ front ++ left ∷ n ∷ right ∷ back → is_text (kind_of T left) ≡ true → is_text (kind_of T right) ≡ true →
    lines P ≡ lines_below T n → lines Q ≡ lines_below T right →
    MayTake (said (deleted T n) left (value_of T left)) p (length front + 1) P →
    MayTake (inserted (said (deleted T n) left (value_of T left)) p (length front + 1) P) p (length front + 2) Q →
    SameTree T (inserted (inserted (said (deleted T n) left (value_of T left)) p (length front + 1) P) p (length front + 2) Q)
