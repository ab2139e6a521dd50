-- A table of which one entry changes: its entries and sums, and the numbers that go on fitting.
use Rattle.std.proofs.Common.{◌≡◌, ◌≢◌, ℕ, ◌+◌, ◌<◌, ◌≤◌, suc, zero, true, [], ◌∷◌, length, set, Option, None, Some, refl, sym, ap, ◌∙◌, subst, arith, length-set, get_or-set_same, get_or-set_other}
use Rattle.doc_table.specs.declared.kind.Kind.TheVariants.{Element, Text}
use Rattle.doc_table.specs.declared.limits.TheConstants.{MAX_DEPTH}
use Rattle.doc_table.specs.Lists.{mem}
use Rattle.doc_table.specs.Table.{Table, Facts, entry_at, kids_of, attrs_of, kind_of, value_of, expanded_of, is_live}
use Rattle.doc_table.specs.Walks.{ancestors}
use Rattle.doc_table.specs.Kinds.{holds_kids, can_be_kid}
use Rattle.doc_table.specs.inner.Sound.{Fits, table_sum}
use Rattle.doc_table.proofs.Appending.{holder-live}
use Rattle.doc_table.proofs.Fitting.{texts-kept}
use Rattle.doc_table.proofs.Ways.{live-below}
use Rattle.doc_edits.specs.Changes.{changed_at}

module _ (T : Table) (n : ℕ) (change : Option Facts → Option Facts) where
  pub changed-length : length (changed_at n change T) ≡ length T
  changed-length = length-set T n (change (entry_at T n))

  pub changed-other : (m : ℕ) → m ≢ n → entry_at (changed_at n change T) m ≡ entry_at T m
  changed-other m ne = get_or-set_other T n m (change (entry_at T n)) None ne

  pub changed-here : is_live T n ≡ true → entry_at (changed_at n change T) n ≡ change (entry_at T n)
  changed-here live = let h : n < length T = live-below T n live in get_or-set_same T n (change (entry_at T n)) None h

-- a word that says the same of each changed entry says the same of all numbers
pub changed-word : {A : Type 0} (f : Option Facts → A) (change : Option Facts → Option Facts) → ((o : Option Facts) → f (change o) ≡ f o) →
    (T : Table) (n m : ℕ) → f (entry_at (changed_at n change T) m) ≡ f (entry_at T m)
changed-word f change stays [] n m = refl
changed-word f change stays (e ∷ T) zero zero = stays e
changed-word f change stays (e ∷ T) zero (suc m) = refl
changed-word f change stays (e ∷ T) (suc n) zero = refl
changed-word f change stays (e ∷ T) (suc n) (suc m) = changed-word f change stays T n m

-- a sum over a table of which an entry is another one
pub sum-replaced : (f : Facts → ℕ) (T : Table) (n : ℕ) (x : Option Facts) → n < length T →
    table_sum f (set T n x) + table_sum f (entry_at T n ∷ []) ≡ table_sum f T + table_sum f (x ∷ [])
sum-replaced f [] n x h = absurd (omega arith)
sum-replaced f (None ∷ T) zero None h = refl
sum-replaced f (None ∷ T) zero (Some new) h = omega arith
sum-replaced f (Some old ∷ T) zero None h = omega arith
sum-replaced f (Some old ∷ T) zero (Some new) h = omega arith
sum-replaced f (None ∷ T) (suc n) x h = sum-replaced f T n x (omega arith)
sum-replaced f (Some old ∷ T) (suc n) x h = omega (arith, sum-replaced f T n x (omega arith))

-- attributes of a node whose names differ have names that differ afterwards
abbrev pub NamesApart : Table → Table → ℕ → Type 0
NamesApart T U m = (a b : ℕ) → mem a (attrs_of T m) ≡ true → mem b (attrs_of T m) ≡ true → expanded_of U a ≡ expanded_of U b → expanded_of T a ≡ expanded_of T b

-- a number keeps its kids and attributes, and these their kinds; names go on differing
pub record KeepsFit (T U : Table) (m : ℕ) : Type 0 where
  pub kind : kind_of U m ≡ kind_of T m
  pub kids : kids_of U m ≡ kids_of T m
  pub attributes : attrs_of U m ≡ attrs_of T m
  pub kid_kinds : (k : ℕ) → mem k (kids_of T m) ≡ true → kind_of U k ≡ kind_of T k
  pub attribute_kinds : (a : ℕ) → mem a (attrs_of T m) ≡ true → kind_of U a ≡ kind_of T a
  pub attribute_names : NamesApart T U m
  pub some_text : kind_of T m ≡ Some Text → value_of U m ≢ []
  pub way : is_live T m ≡ true → ancestors U m ≡ ancestors T m

-- then it goes on fitting
pub fits-kept : (T U : Table) (m : ℕ) → KeepsFit T U m → Fits T m → Fits U m
fits-kept T U m same f =
    let kid : (k : ℕ) → mem k (kids_of U m) ≡ true → mem k (kids_of T m) ≡ true = λ k h. ap (mem k) (sym same.kids) ∙ h in
    let at : (a : ℕ) → mem a (attrs_of U m) ≡ true → mem a (attrs_of T m) ≡ true = λ a h. ap (mem a) (sym same.attributes) ∙ h in
    record {
      one_root = λ h. f.one_root (sym same.kind ∙ h);
      kid_kind = λ k h. ap can_be_kid (same.kid_kinds k (kid k h)) ∙ f.kid_kind k (kid k h);
      attribute_kind = λ a h. same.attribute_kinds a (at a h) ∙ f.attribute_kind a (at a h);
      holder_kind = λ k h. ap holds_kids same.kind ∙ f.holder_kind k (kid k h);
      owner_kind = λ a h. same.kind ∙ f.owner_kind a (at a h);
      names_differ = λ a b ha hb e. f.names_differ a b (at a ha) (at b hb) (same.attribute_names a b (at a ha) (at b hb) e);
      some_text = λ h. same.some_text (sym same.kind ∙ h);
      texts_apart = rw same.kids (texts-kept T U (kids_of T m) same.kid_kinds f.texts_apart);
      not_deep = λ h.
          let e : kind_of T m ≡ Some Element = sym same.kind ∙ h in
          subst (λ l. length l ≤ MAX_DEPTH) (sym (same.way (holder-live T m (ap holds_kids e)))) (f.not_deep e);
    }
