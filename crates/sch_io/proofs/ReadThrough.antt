-- Files that are read one after another.
use Rattle.std.proofs.Common.{◌≡◌, ℕ, inl, inr, List, [], ◌∷◌, ◌++◌, append_assoc, append-nil, refl, sym, ap, ap₂, ◌∙◌}
use Rattle.sch_io.specs.ShelfState.{ShelfState}
use Rattle.sch_io.specs.ReadThrough.{Extent, IsReadThrough, ReadsThrough, all_files, all_but_last, all_or_but_last}

-- no file was opened
pub nothing_through : (s : ShelfState) → ReadsThrough all_files s s
nothing_through s = record { opened = []; noted = sym (append-nil s.opened); ended = []; told = sym (append-nil s.ends); far = refl }

-- files that were read to their end stand before others
left_before : (opened ended others left : List (List ℕ)) → ended ≡ opened → ((last : List ℕ) × (others ≡ left ++ last ∷ [])) → ((last : List ℕ) × (opened ++ others ≡ (ended ++ left) ++ last ∷ []))
left_before opened ended others left all far = (
  far.0,
  ap₂ (λ (a b : List (List ℕ)). a ++ b) (sym all) far.1 ∙ sym (append_assoc ended left (far.0 ∷ [])),
)

before_others : (extent : Extent) (opened ended others left : List (List ℕ)) → ended ≡ opened → IsReadThrough extent others left → IsReadThrough extent (opened ++ others) (ended ++ left)
before_others all_files opened ended others left all far = ap₂ (λ (a b : List (List ℕ)). a ++ b) all far
before_others all_but_last opened ended others left all far = left_before opened ended others left all far
before_others all_or_but_last opened ended others left all (inl far) = inl (ap₂ (λ (a b : List (List ℕ)). a ++ b) all far)
before_others all_or_but_last opened ended others left all (inr far) = inr (left_before opened ended others left all far)

pub through_then : (extent : Extent) (a b c : ShelfState) → ReadsThrough all_files a b → ReadsThrough extent b c → ReadsThrough extent a c
through_then extent a b c one two = record {
  opened = one.opened ++ two.opened;
  noted = two.noted ∙ ap (λ (o : List (List ℕ)). o ++ two.opened) one.noted ∙ append_assoc a.opened one.opened two.opened;
  ended = one.ended ++ two.ended;
  told = two.told ∙ ap (λ (e : List (List ℕ)). e ++ two.ended) one.told ∙ append_assoc a.ends one.ended two.ended;
  far = before_others extent one.opened one.ended two.opened two.ended one.far two.far;
}

either_of : (extent : Extent) (opened ended : List (List ℕ)) → IsReadThrough extent opened ended → IsReadThrough all_or_but_last opened ended
either_of all_files opened ended far = inl far
either_of all_but_last opened ended far = inr far
either_of all_or_but_last opened ended far = far

pub one_of_both : (extent : Extent) (a b : ShelfState) → ReadsThrough extent a b → ReadsThrough all_or_but_last a b
one_of_both extent a b through = record {
  opened = through.opened;
  noted = through.noted;
  ended = through.ended;
  told = through.told;
  far = either_of extent through.opened through.ended through.far;
}

-- a file was opened and read to its end
pub read_through : (a b : ShelfState) (name : List ℕ) → b.opened ≡ a.opened ++ name ∷ [] → b.ends ≡ a.ends ++ name ∷ [] → ReadsThrough all_files a b
read_through a b name noted told = record { opened = name ∷ []; noted = noted; ended = name ∷ []; told = told; far = refl }

-- or not
pub left_unread : (a b : ShelfState) (name : List ℕ) → b.opened ≡ a.opened ++ name ∷ [] → b.ends ≡ a.ends → ReadsThrough all_but_last a b
left_unread a b name noted told = record { opened = name ∷ []; noted = noted; ended = []; told = told ∙ sym (append-nil a.ends); far = (name, refl) }
