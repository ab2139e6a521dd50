-- Places in lists of numbers, and counts of those that pass a test.
use Rattle.std.proofs.Common.{◌≡◌, ◌≢◌, ℕ, ◌+◌, ◌<◌, suc, Bool, true, false, cond, List, [], ◌∷◌, length, take, drop, drop-cons, slice_index_or, ⊎_elim, refl, sym, ap, ◌∙◌, eqb, eqb-true, true≢false, arith}
use Rattle.std.specs.Prelude.{count_by, filter}
use Rattle.std.proofs.lemmas.Bool.{eqb-false}
use Rattle.std.proofs.lemmas.List.Sums.{sum_by-cons}
use Rattle.doc_table.proofs.ListLemmas.{eq_or}
use Rattle.doc_table.specs.Lists.{place_in}
use Rattle.doc_edits.proofs.NumberingLemmas.{place-head, place-tail}
use Rattle.edit_commands.proofs.MeetingLemmas.{kid-there}

module _ (n : ℕ) (ns : List ℕ) (i m : ℕ) (less : i < length ns) (is : m ≡ slice_index_or ns i m)
    (so_far : i + place_in n (drop i ns) ≡ place_in n ns) where
  there : drop i ns ≡ m ∷ drop (suc i) ns
  there = drop-cons ns i 0 less ∙ ap (λ k. k ∷ drop (suc i) ns) (sym (kid-there ns i m less is))

  -- the number stands here
  pub place-here : eqb n m ≡ true → i ≡ place_in n ns
  place-here same = omega (arith, so_far, ap (place_in n) there, place-head n m (drop (suc i) ns) (eqb-true n m same))

  -- it stands further on
  pub place-on : eqb n m ≡ false → (i + 1) + place_in n (drop (i + 1) ns) ≡ place_in n ns
  place-on other =
      let next : i + 1 ≡ suc i = omega arith in
      omega (arith, so_far, ap (place_in n) there, place-tail n m (drop (suc i) ns) (eqb-false n m other), ap (λ j. place_in n (drop j ns)) next)

-- of those that pass a test as many stand before one as before it in the whole list
module _ (test : ℕ → Bool) where
  counted : (x : ℕ) (xs : List ℕ) → count_by test (x ∷ xs) ≡ cond (test x) 1 0 + count_by test xs
  counted x xs = sum_by-cons (λ y. cond (test y) 1 0) x xs

  pub place-kept : (n : ℕ) (ns : List ℕ) → test n ≡ true → place_in n (filter test ns) ≡ count_by test (take (place_in n ns) ns)
  place-kept n [] pass = refl
  place-kept n (m ∷ ns) pass =
      ⊎_elim
      (λ (e : n ≡ m). here e (test m) (ap test (sym e) ∙ pass))
      (λ (ne : n ≢ m). further ne (place-kept n ns pass) (test m) refl)
      (eq_or n m)
    where
      here : n ≡ m → (b : Bool) → b ≡ true → place_in n (cond b (m ∷ filter test ns) (filter test ns)) ≡ count_by test (take (place_in n (m ∷ ns)) (m ∷ ns))
      here e false is = absurd (true≢false (sym is))
      here e true is = place-head n m (filter test ns) e ∙ sym (ap (λ k. count_by test (take k (m ∷ ns))) (place-head n m ns e))

      further : n ≢ m → place_in n (filter test ns) ≡ count_by test (take (place_in n ns) ns) → (b : Bool) → test m ≡ b →
          place_in n (cond b (m ∷ filter test ns) (filter test ns)) ≡ count_by test (take (place_in n (m ∷ ns)) (m ∷ ns))
      further ne rest true is =
          omega (
            arith,
            place-tail n m (filter test ns) ne,
            rest,
            ap (λ k. count_by test (take k (m ∷ ns))) (place-tail n m ns ne),
            counted m (take (place_in n ns) ns),
            ap {B = ℕ} (λ b. cond b 1 0) is,
          )
      further ne rest false is =
          omega (
            arith,
            rest,
            ap (λ k. count_by test (take k (m ∷ ns))) (place-tail n m ns ne),
            counted m (take (place_in n ns) ns),
            ap {B = ℕ} (λ b. cond b 1 0) is,
          )
