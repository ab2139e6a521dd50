-- The language of a node and its ancestors.
use Rattle.std.proofs.Common.{◌≡◌, ℕ, ◌<◌, ◌≤◌, ◌↔◌, ⊎_elim, min, leb, Bool, true, false, ◌&&◌, cond, IsTrue, map, length, take, drop, arith, List, Option, None, Some, refl, sym, ◌∙◌, ap}
use Rattle.std.specs.Bool.{one_answer}
use Rattle.std.specs.Char.{to_ascii_lowercase}
use Rattle.std.specs.Str.{str_eq_ignore_ascii_case}
use Rattle.std.proofs.lemmas.Slice.Eq.{bytes_eq-Decides}
use Rattle.std.proofs.lemmas.Bool.Decides.{leb_tells}
use Rattle.std.proofs.lemmas.List.{take_all, drop_all}
use Rattle.doc_tree.specs.cell.Cell.TheVariants.{Attrs}
use Rattle.doc_tree.specs.declared.axes.Axis.TheVariants.{Attribute}
use Rattle.doc_tree.specs.Kinds.{is_element}
use Rattle.doc_tree.specs.Laws.{HasWaysUp}
use Rattle.doc_tree.specs.Table.{Table, attrs_of, kind_of, parent_of}
use Rattle.doc_tree.specs.Walks.{ancestors}
use Rattle.xp_outcome.specs.Evaluation.{done, bind, reading, cell, names_along}
use Rattle.xp_meaning.specs.Language.{decided_by, ends_or_goes_on, in_language, is_language, lang_among, language_along, or_else, own_language}

module _ (T : Table) (wanted : List ℕ) (n : ℕ) where
  pub not_element : is_element (kind_of T n) ≡ false → own_language T wanted n ≡ done None
  not_element other = ap (λ b. cond b (reading (cell (Attrs n)) (reading (names_along Attribute n) (decided_by T wanted (lang_among T (attrs_of T n))))) (done None)) other

  pub of_element : (o : Option ℕ) → is_element (kind_of T n) ≡ true → o ≡ lang_among T (attrs_of T n) →
      own_language T wanted n ≡ reading (cell (Attrs n)) (reading (names_along Attribute n) (decided_by T wanted o))
  of_element o element is =
      ap (λ b. cond b (reading (cell (Attrs n)) (reading (names_along Attribute n) (decided_by T wanted (lang_among T (attrs_of T n))))) (done None)) element
      ∙ ap (λ a. reading (cell (Attrs n)) (reading (names_along Attribute n) (decided_by T wanted a))) (sym is)

  -- the node's own attribute, and then the ways up
  pub language_at : HasWaysUp T → (p : ℕ) → parent_of T n ≡ Some p →
      in_language T n wanted ≡ bind (own_language T wanted n) (λ found. or_else found (in_language T p wanted))
  unfolding in_language
  language_at up p is =
      ap (λ ns. bind (own_language T wanted n) (λ found. or_else found (language_along T wanted ns))) (up.ancestors_at n p is)

  pub language_alone : HasWaysUp T → parent_of T n ≡ None →
      in_language T n wanted ≡ bind (own_language T wanted n) (λ found. or_else found (done false))
  unfolding in_language
  language_alone up is =
      ap (λ ns. bind (own_language T wanted n) (λ found. or_else found (language_along T wanted ns))) (up.no_ancestors n is)

  pub language_first : in_language T n wanted ≡ bind (own_language T wanted n) (λ found. or_else found (language_along T wanted (ancestors T n)))
  unfolding in_language
  language_first = refl

-- a tag that is cut after as many bytes as the wanted language has, or at its end
pub split_same : (k m : ℕ) (xs : List ℕ) → m ≡ min k (length xs) → (take m xs ≡ take k xs) × (drop m xs ≡ drop k xs)
split_same k m xs is =
    ⊎_elim (λ (h : (leb k (length xs) ≡ true) × (k ≤ length xs)).
    let same : m ≡ k = omega (arith, is, h.1) in (ap (λ j. take j xs) same, ap (λ j. drop j xs) same))
    (λ (h : (leb k (length xs) ≡ false) × (length xs < k)).
    let all : length xs ≤ m = omega (arith, is, h.1) in let more : length xs ≤ k = omega (arith, h.1) in
    (take_all m xs all ∙ sym (take_all k xs more), drop_all m xs all ∙ sym (drop_all k xs more))) (leb_tells k (length xs))

-- the test of a method on bytes
pub ignoring_case : (r : Bool) (a b : List ℕ) → (IsTrue r ↔ (map to_ascii_lowercase a ≡ map to_ascii_lowercase b)) → r ≡ str_eq_ignore_ascii_case a b
ignoring_case r a b test = one_answer r (str_eq_ignore_ascii_case a b) test (bytes_eq-Decides (map to_ascii_lowercase a) (map to_ascii_lowercase b))

module _ (tag wanted front rest : List ℕ) (m : ℕ) (is : m ≡ min (length wanted) (length tag)) (front_is : front ≡ take m tag) (rest_is : rest ≡ drop m tag) where
  pub language_is : is_language tag wanted ≡ (str_eq_ignore_ascii_case front wanted && ends_or_goes_on rest)
  language_is =
      let cut = split_same (length wanted) m tag is in
      ap (λ f. str_eq_ignore_ascii_case f wanted && ends_or_goes_on (drop (length wanted) tag)) (sym (front_is ∙ cut.0))
      ∙ ap (λ r. str_eq_ignore_ascii_case front wanted && ends_or_goes_on r) (sym (rest_is ∙ cut.1))

  pub language_yes : (r : Bool) → r ≡ str_eq_ignore_ascii_case front wanted → r ≡ true → ends_or_goes_on rest ≡ is_language tag wanted
  language_yes r test holds = ap (λ b. b && ends_or_goes_on rest) (sym holds ∙ test) ∙ sym language_is

  pub language_no : (r : Bool) → r ≡ str_eq_ignore_ascii_case front wanted → r ≡ false → r ≡ is_language tag wanted
  language_no r test fails = fails ∙ ap (λ b. b && ends_or_goes_on rest) (sym fails ∙ test) ∙ sym language_is
