-- Checks one after another.
use Rattle.std.proofs.Common.{◌≡◌, ℕ, suc, ◌+◌, ◌<◌, List, ◌∷◌, length, drop, slice_index_or, Option, None, Some, Result, Err, sym, ap, ◌∙◌, subst, add-one}
use Rattle.std.specs.Option.{option_or}
use Rattle.std.specs.Prelude.{IsErrAnd}
use Rattle.std.proofs.Math.Seq.{drop-cons}
use Rattle.std.proofs.lemmas.Result.{err_from_is_err_and}
use Rattle.doc_tree.specs.Table.{Table}
use Rattle.svrl_read.specs.declared.fault.SvrlError.{SvrlError}
use Rattle.svrl_read.specs.declared.fault.SvrlError.TheVariants.{Fault, Memory}
use Rattle.svrl_read.specs.declared.fault.SvrlFault.{SvrlFault}
use Rattle.svrl_read.specs.FirstFault.{Ended, Refuses, ref_fault, refs_fault}

-- a check that ends well, and then another
pub ended_then : (a b : Option SvrlFault) (r : Result (Unit {0}) SvrlError) → a ≡ None → Ended b r → Ended (option_or a b) r
ended_then None b r none h = h
ended_then (Some f) b r none h = absurd (cc)

pub refuses_then : (a b : Option SvrlFault) (e : SvrlError) → a ≡ None → Refuses b e → Refuses (option_or a b) e
refuses_then None b e none h = h
refuses_then (Some f) b e none h = absurd (cc)

-- a check that ends with a fault, and nothing after it
pub refuses_stop : (a b : Option SvrlFault) (e : SvrlError) → Refuses a e → Refuses (option_or a b) e
refuses_stop None b (Fault f) h = absurd (cc)
refuses_stop (Some g) b (Fault f) h = h
refuses_stop a b Memory h = tt

-- a check that ends as an inner one did
pub ended_exit : (fault : Option SvrlFault) (e : SvrlError) (r : Result (Unit {0}) SvrlError) → IsErrAnd r (λ d. d ≡ e) → Refuses fault e → Ended fault r
ended_exit fault e r h refuses =
    let (d, is, same) = err_from_is_err_and r h in
    subst (λ s. Ended fault s) (sym (is ∙ ap Err same)) refuses

-- the kids from a place on
pub rest_at : (kids : List ℕ) (i kid : ℕ) → kid ≡ slice_index_or kids i kid → i < length kids → drop i kids ≡ kid ∷ drop (i + 1) kids
rest_at kids i kid is less =
    drop-cons kids i kid less
    ∙ ap (λ (k : ℕ). k ∷ drop (suc i) kids) (sym is)
    ∙ ap (λ (n : ℕ). kid ∷ drop n kids) (sym (add-one i))

-- the kids so far have no fault, nor has this one
pub refs_next : (T : Table) (kids : List ℕ) (i kid : ℕ) → kid ≡ slice_index_or kids i kid → i < length kids →
    refs_fault T kids ≡ refs_fault T (drop i kids) → ref_fault T kid ≡ None → refs_fault T kids ≡ refs_fault T (drop (i + 1) kids)
refs_next T kids i kid is less so_far none =
    so_far
    ∙ ap (refs_fault T) (rest_at kids i kid is less)
    ∙ ap (λ (f : Option SvrlFault). option_or f (refs_fault T (drop (i + 1) kids))) none

-- the kids so far have no fault, and this one has
pub refs_stop : (T : Table) (kids : List ℕ) (i kid : ℕ) (e : SvrlError) → kid ≡ slice_index_or kids i kid → i < length kids →
    refs_fault T kids ≡ refs_fault T (drop i kids) → Refuses (ref_fault T kid) e → Refuses (refs_fault T kids) e
refs_stop T kids i kid e is less so_far refuses =
    subst (λ (f : Option SvrlFault). Refuses f e) (sym (so_far ∙ ap (refs_fault T) (rest_at kids i kid is less)))
    (refuses_stop (ref_fault T kid) (refs_fault T (drop (i + 1) kids)) e refuses)

-- the same, as the steps of a chain of checks
pub ended_stop : (a b : Option SvrlFault) (e : SvrlError) (r : Result (Unit {0}) SvrlError) → Refuses a e → IsErrAnd r (λ d. d ≡ e) → Ended (option_or a b) r
ended_stop a b e r refuses is = ended_exit (option_or a b) e r is (refuses_stop a b e refuses)

pub ruleset checks = (ended_then, ended_stop)
