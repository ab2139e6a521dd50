-- The elements of a report taken in turn.
use Rattle.std.proofs.Common.{◌≡◌, ℕ, ◌+◌, ◌<◌, List, [], ◌∷◌, length, drop, slice_index_or, Option, None, refl, sym, ap, ◌∙◌, subst}
use Rattle.std.specs.Option.{option_or}
use Rattle.doc_tree.specs.Table.{Table, kids_of}
use Rattle.svrl_read.specs.declared.building.Builder.{Builder}
use Rattle.svrl_read.specs.declared.check.Place.{Place}
use Rattle.svrl_read.specs.declared.fault.SvrlError.{SvrlError}
use Rattle.svrl_read.specs.declared.fault.SvrlFault.{SvrlFault}
use Rattle.svrl_read.specs.declared.value.SvrlReport.{SvrlReport}
use Rattle.svrl_read.specs.declared.words.Word.{Word}
use Rattle.svrl_read.specs.FirstFault.{Refuses, kid_fault, kids_fault, place_behind}
use Rattle.svrl_read.specs.Places.{word_at}
use Rattle.svrl_read.specs.Value.{output_of}
use Rattle.svrl_read.specs.inner.Building.{HasRead, after, closed, place_of, report_then, with_pattern}
use Rattle.svrl_read.proofs.BuildingLemmas.{reads, reads_no_more, stands}
use Rattle.svrl_read.proofs.FaultLemmas.{refuses_stop, rest_at}

-- a fault, and none, where the place and the word are equal
pub refuses_at : (T : Table) (p q : Place) (n : ℕ) (v w : Option Word) (e : SvrlError) → p ≡ q → v ≡ w → Refuses (kid_fault T p n v) e → Refuses (kid_fault T q n w) e
refuses_at T p q n v w e same alike h =
    subst (λ (x : Option Word). Refuses (kid_fault T q n x) e) alike (subst (λ (x : Place). Refuses (kid_fault T x n v) e) same h)

pub none_at : (T : Table) (p q : Place) (n : ℕ) (v w : Option Word) → p ≡ q → v ≡ w → kid_fault T p n v ≡ None → kid_fault T q n w ≡ None
none_at T p q n v w same alike h =
    subst (λ (x : Option Word). kid_fault T q n x ≡ None) alike (subst (λ (x : Place). kid_fault T x n v ≡ None) same h)

pub read_none : (T : Table) (b : Builder) (kids : List ℕ) → HasRead T b b kids kids
read_none T b kids = record { no_fault = refl; read = refl }

-- the next element has no fault and is read
pub read_next : (T : Table) (first b next : Builder) (kids : List ℕ) (i kid : ℕ) → kid ≡ slice_index_or kids i kid → i < length kids →
    HasRead T first b kids (drop i kids) → kid_fault T (place_of b.pattern b.fired) kid (word_at T kid) ≡ None →
    next ≡ after T b kid (word_at T kid) → HasRead T first next kids (drop (i + 1) kids)
read_next T first b next kids i kid is less so_far none made =
    let rest = drop (i + 1) kids in
    let at : drop i kids ≡ kid ∷ rest = rest_at kids i kid is less in
    let place : Place = place_of b.pattern b.fired in
    subst (λ (n : Builder). HasRead T first n kids rest) (sym made) (record {
      no_fault =
          so_far.no_fault
          ∙ ap (kids_fault T place) at
          ∙ ap (λ (f : Option SvrlFault). option_or f (kids_fault T (place_behind place (word_at T kid)) rest)) none
          ∙ ap (λ (p : Place). kids_fault T p rest) (sym (stands T b kid (word_at T kid)));
      read = so_far.read ∙ ap (report_then T b) at ∙ reads T b kid rest;
    })

-- the next element has a fault
pub read_stop : (T : Table) (first b : Builder) (kids : List ℕ) (i kid : ℕ) (e : SvrlError) → kid ≡ slice_index_or kids i kid → i < length kids →
    HasRead T first b kids (drop i kids) → Refuses (kid_fault T (place_of b.pattern b.fired) kid (word_at T kid)) e →
    Refuses (kids_fault T (place_of first.pattern first.fired) kids) e
read_stop T first b kids i kid e is less so_far refuses =
    let rest = drop (i + 1) kids in
    let place : Place = place_of b.pattern b.fired in
    subst (λ (f : Option SvrlFault). Refuses f e) (sym (so_far.no_fault ∙ ap (kids_fault T place) (rest_at kids i kid is less)))
    (refuses_stop (kid_fault T place kid (word_at T kid)) (kids_fault T (place_behind place (word_at T kid)) rest) e refuses)

-- all elements are read: there is no fault
pub no_fault_left : (T : Table) (first b : Builder) (kids left : List ℕ) → left ≡ [] → HasRead T first b kids left →
    kids_fault T (place_of first.pattern first.fired) kids ≡ None
no_fault_left T first b kids left none so_far = so_far.no_fault ∙ ap (kids_fault T (place_of b.pattern b.fired)) none

-- and the report is whole
pub read_all : (T : Table) (first b : Builder) (kids left : List ℕ) → left ≡ [] → HasRead T first b kids left →
    with_pattern (closed b.pattern b.fired) b.report ≡ report_then T first kids
read_all T first b kids left none so_far = sym (reads_no_more T b) ∙ ap (report_then T b) (sym none) ∙ sym so_far.read

-- a report of which nothing is read but what it says of itself
pub starts : (T : Table) (n : ℕ) (report : SvrlReport) → report ≡ record (output_of T n) { prefixes = []; patterns = [] } →
    report_then T (record { report = report; pattern = None; fired = None }) (kids_of T n) ≡ output_of T n
starts T n report is = ap (λ (r : SvrlReport). report_then T (record { report = r; pattern = None; fired = None }) (kids_of T n)) is
