-- A list from its end, place by place, and filters of its front.
use Rattle.std.proofs.Common.{◌≡◌, ℕ, zero, suc, ◌+◌, ◌-◌, ◌<◌, Bool, true, false, cond, List, [], ◌∷◌, ◌++◌, length, get_or, take, refl, sym, ap, ◌∙◌, arith, append-nil}
use Rattle.std.specs.Prelude.{filter}
use Rattle.std.proofs.lemmas.List.{get_or_append_left, get_or_push, length_push, take_more}
use Rattle.doc_axes.specs.Axes.{backwards}
use Rattle.doc_axes.proofs.SubLists.{filter-append}

pub length-backwards : (ns : List ℕ) → length (backwards ns) ≡ length ns
length-backwards [] = refl
length-backwards (n ∷ ns) = omega (arith, length_push (backwards ns) n, length-backwards ns)

-- the item at a place from the end
pub get-backwards : (ns : List ℕ) (k d : ℕ) → k < length ns → get_or (backwards ns) k d ≡ get_or ns (length ns - 1 - k) d
get-backwards [] k d below = absurd (omega (arith, below))
get-backwards (n ∷ ns) k d below = by (length ns - k) refl (get-backwards ns k d)
  where
    by : (left : ℕ) → length ns - k ≡ left → (k < length ns → get_or (backwards ns) k d ≡ get_or ns (length ns - 1 - k) d) →
        get_or (backwards ns ++ n ∷ []) k d ≡ get_or (n ∷ ns) (suc (length ns) - 1 - k) d
    by zero e before =
        let last : length (backwards ns) ≡ k = omega (arith, e, below, length-backwards ns) in
        let first : suc (length ns) - 1 - k ≡ 0 = omega (arith, e) in
        get_or_push (backwards ns) n d k last ∙ sym (ap (λ i. get_or (n ∷ ns) i d) first)
    by (suc left) e before =
        let inside : k < length (backwards ns) = omega (arith, e, length-backwards ns) in
        let next : suc (length ns) - 1 - k ≡ suc (length ns - 1 - k) = omega (arith, e) in
        get_or_append_left (backwards ns) (n ∷ []) d k inside ∙ before (omega (arith, e)) ∙ sym (ap (λ i. get_or (n ∷ ns) i d) next)

module _ (p : ℕ → Bool) (ns : List ℕ) (k n : ℕ) (below : k < length ns) (there : get_or ns k n ≡ n) where
  one_more : filter p (take (k + 1) ns) ≡ filter p (take k ns) ++ cond (p n) (n ∷ []) []
  one_more =
      ap (filter p) (take_more ns k n below ∙ ap (λ m. take k ns ++ m ∷ []) there)
      ∙ filter-append p (take k ns) (n ∷ [])

  -- one item more that passes, and one that doesn't
  pub passes_too : p n ≡ true → filter p (take (k + 1) ns) ≡ filter p (take k ns) ++ n ∷ []
  passes_too stays = one_more ∙ ap (λ b. filter p (take k ns) ++ cond b (n ∷ []) []) stays

  pub passes_not : p n ≡ false → filter p (take (k + 1) ns) ≡ filter p (take k ns)
  passes_not goes = one_more ∙ ap (λ b. filter p (take k ns) ++ cond b (n ∷ []) []) goes ∙ append-nil (filter p (take k ns))
