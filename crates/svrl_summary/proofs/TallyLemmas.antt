-- Tallies of several things, one after another.
use Rattle.std.proofs.Common.{◌∙◌, ◌≡◌, ℕ, ◌+◌, ◌<◌, List, length, take, slice_index_or, ap, sym}
use Rattle.std.proofs.lemmas.List.Sums.{sum_by_more}
use Rattle.svrl_summary.specs.Summary.{sum_of}
use Rattle.svrl_summary.specs.declared.tally.Tally.{Tally}

-- one more
pub sum-next : {A : Type 0} (tally : A → Tally) (xs : List A) (i : ℕ) (x : A) → x ≡ slice_index_or xs i x → i < length xs →
    (before after one : Tally) → before ≡ sum_of tally (take i xs) → one ≡ tally x →
    after.fired ≡ before.fired + one.fired → after.asserts ≡ before.asserts + one.asserts → after.reports ≡ before.reports + one.reports →
    after ≡ sum_of tally (take (i + 1) xs)
sum-next {A = A} tally xs i x is less before after one so own fired asserts reports = λ j. record { fired = fired_is j; asserts = asserts_is j; reports = reports_is j }
  where
    last : one ≡ tally (slice_index_or xs i x)
    last = own ∙ ap tally is

    fired_is : after.fired ≡ (sum_of tally (take (i + 1) xs)).fired
    fired_is =
        fired ∙ ap (λ (t : Tally). t.fired + one.fired) so ∙ ap (λ (t : Tally). (sum_of tally (take i xs)).fired + t.fired) last
        ∙ sym (sum_by_more (λ item. (tally item).fired) xs i x less)

    asserts_is : after.asserts ≡ (sum_of tally (take (i + 1) xs)).asserts
    asserts_is =
        asserts ∙ ap (λ (t : Tally). t.asserts + one.asserts) so ∙ ap (λ (t : Tally). (sum_of tally (take i xs)).asserts + t.asserts) last
        ∙ sym (sum_by_more (λ item. (tally item).asserts) xs i x less)

    reports_is : after.reports ≡ (sum_of tally (take (i + 1) xs)).reports
    reports_is =
        reports ∙ ap (λ (t : Tally). t.reports + one.reports) so ∙ ap (λ (t : Tally). (sum_of tally (take i xs)).reports + t.reports) last
        ∙ sym (sum_by_more (λ item. (tally item).reports) xs i x less)
