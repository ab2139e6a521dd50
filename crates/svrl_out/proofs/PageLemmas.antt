-- A text of which a front was written, and the rest stands on a page.
use Rattle.std.proofs.Common.{◌≡◌, ℕ, suc, ◌+◌, ◌<◌, List, ◌++◌, length, take, drop, slice_index_or, Result, Ok, Err, ap, sym, subst, ◌∙◌, append_assoc}
use Rattle.std.specs.List.{flat_map}
use Rattle.sch_io.specs.SinkLog.{SinkLog}
use Rattle.sch_io.specs.Wrote.{Wrote}
use Rattle.sch_io.specs.declared.error.Failed.{Failed as SinkFailed}
use Rattle.sch_io.proofs.Writes.{flat_map-next, flat_map-cut}
use Rattle.svrl_out.specs.declared.report.OutError.{OutError}
use Rattle.svrl_out.specs.declared.report.OutError.TheVariants.{Failed, Memory}
use Rattle.svrl_out.specs.Report.{Reported}
use Rattle.svrl_out.specs.inner.Pages.{Turned}
use Rattle.svrl_out.proofs.ReportLemmas.{reported_both, reported_err, reported_failed, reported_memory, reported_ok}

-- all of the text but what stands on the page was written
abbrev pub WrittenBut : SinkLog → SinkLog → List ℕ → List ℕ → Type 0
WrittenBut old new page text = (front : List ℕ) × (text ≡ front ++ page) × Reported old new front (Ok tt)

-- the page was written
pub but_done : {x : Unit {0}} {a b c : SinkLog} {page text : List ℕ} → WrittenBut a b page text → Wrote {E = SinkFailed} b c page (Ok x) → Reported a c text (Ok tt)
but_done {a = a} {c = c} so wrote = subst (λ (l : List ℕ). Reported a c l (Ok tt)) (sym so.1) (reported_both so.2 (reported_ok wrote))

-- the page was not written whole
pub but_failed : {e : SinkFailed} {a b c : SinkLog} {page text : List ℕ} (r : Result (Unit {0}) OutError) → r ≡ Err Failed → WrittenBut a b page text → Wrote {T = Unit {0}} b c page (Err e) → Reported a c text r
but_failed {a = a} {c = c} r is so wrote = subst (λ (l : List ℕ). Reported a c l r) (sym so.1) (reported_both so.2 (reported_err r is wrote))

module _ {A : Type 0} (f : A → List ℕ) (xs : List A) (i : ℕ) (x : A) (is : x ≡ slice_index_or xs i x) (less : i < length xs) where
  abbrev rest : List ℕ
  rest = flat_map f (drop (suc i) xs)

  -- memory ran out before an item was put on the page
  pub cut_by_memory : (a b : SinkLog) (page : List ℕ) (r : Result (Unit {0}) OutError) → r ≡ Err Memory → WrittenBut a b page (flat_map f (take i xs)) → Reported a b (flat_map f xs) r
  cut_by_memory a b page r memory so =
      let all : flat_map f xs ≡ so.0 ++ (page ++ (f x ++ rest)) =
      flat_map-cut f xs i x is less
      ∙ append_assoc (flat_map f (take i xs)) (f x) rest
      ∙ ap (λ (l : List ℕ). l ++ (f x ++ rest)) so.1
      ∙ append_assoc so.0 page (f x ++ rest) in
      subst (λ (l : List ℕ). Reported a b l r) (sym all) (reported_both so.2 (reported_memory (page ++ (f x ++ rest)) r memory))

  -- with one item more on the page it was not written whole
  pub cut_by_sink : {e : SinkFailed} (a b c : SinkLog) (page more : List ℕ) (r : Result (Unit {0}) OutError) → r ≡ Err Failed → WrittenBut a b page (flat_map f (take i xs)) → more ≡ page ++ f x → Wrote {T = Unit {0}} b c more (Err e) → Reported a c (flat_map f xs) r
  cut_by_sink a b c page more r failed so put wrote =
      let all : flat_map f xs ≡ so.0 ++ (more ++ rest) =
      flat_map-cut f xs i x is less
      ∙ ap (λ (l : List ℕ). (l ++ f x) ++ rest) so.1
      ∙ ap (λ (l : List ℕ). l ++ rest) (append_assoc so.0 page (f x) ∙ ap (λ (l : List ℕ). so.0 ++ l) (sym put))
      ∙ append_assoc so.0 more rest in
      subst (λ (l : List ℕ). Reported a c l r) (sym all) (reported_both so.2 (reported_failed rest r failed wrote))

  -- one item more was put on the page, of which a front was written
  pub but_next : (a b c : SinkLog) (page more after : List ℕ) → WrittenBut a b page (flat_map f (take i xs)) → more ≡ page ++ f x → Turned b c more after (Ok tt) → WrittenBut a c after (flat_map f (take (i + 1) xs))
  but_next a b c page more after so put turned =
      let all : flat_map f (take (i + 1) xs) ≡ (so.0 ++ turned.0) ++ after =
      flat_map-next f xs i x is less
      ∙ ap (λ (l : List ℕ). l ++ f x) so.1
      ∙ append_assoc so.0 page (f x)
      ∙ ap (λ (l : List ℕ). so.0 ++ l) (sym put ∙ turned.1)
      ∙ sym (append_assoc so.0 turned.0 after) in
      (so.0 ++ turned.0, all, reported_both so.2 (reported_ok turned.2))
