-- Writes one after another, for the proofs of callers.
--
-- A chain of writes with `?` proves by `#[tactic(auto, using(sch_io::proofs::Writes::writes))]`, and a loop of writes
-- over a list by `writes_all`, with `Wrote .. (flat_map f (take i xs)) (Ok tt)` as its invariant.
use Rattle.std.proofs.Common.{◌≡◌, ℕ, suc, ◌+◌, ◌<◌, ◌≤◌, List, [], ◌∷◌, ◌++◌, length, take, drop, slice_index_or, Option, Result, Ok, Err, MatchResult, OnErr, IsErr, Continue, refl, ap, sym, ◌∙◌, subst, add-one, append-nil, append_assoc, arith}
use Rattle.std.specs.List.{flat_map}
use Rattle.std.specs.Result.{result_from_control_flow}
use Rattle.std.proofs.KnownBytes.{Appends-trans, Appends-nil}
use Rattle.std.proofs.Math.Seq.{split_at, take-suc}
use Rattle.std.proofs.lemmas.Grind.{flat_map-append}
use Rattle.std.proofs.lemmas.List.{get_or_default}
use Rattle.sch_io.specs.Counts.{Rose, faults_after}
use Rattle.sch_io.specs.SinkLog.{SinkLog}
use Rattle.sch_io.specs.Wrote.{Appends, Wrote}
use Rattle.sch_io.proofs.Counting.{le-one_more, rose-one_more}

-- what a call appended
abbrev Grown : {T E : Type 0} → Option (List ℕ) → Option (List ℕ) → List ℕ → Result T E → Type 0
Grown a b text r = MatchResult r (λ _. Appends a b text) (λ _. (done left : List ℕ) × (text ≡ done ++ left) × Appends a b done)

-- nothing was to be written
pub wrote_nothing : {T E : Type 0} {a : SinkLog} (x : T) → Wrote {E = E} a a [] (Ok x)
wrote_nothing {a = a} x = record { counted = refl; grown = Appends-nil a.written }

-- the count of faults never falls, and it rose where the call failed
pub wrote_later : {T E : Type 0} {a b : SinkLog} {text : List ℕ} {r : Result T E} → Wrote a b text r → a.faults ≤ b.faults
wrote_later {T = T} {E = E} {a = a} {b = b} {r = r} wrote = by r wrote.counted
  where
    by : (r : Result T E) → b.faults ≡ faults_after r a.faults → a.faults ≤ b.faults
    by (Ok x) same = omega (arith, same)
    by (Err e) more = omega (arith, more, le-one_more a.faults)

pub wrote_rose : {T E : Type 0} {a b : SinkLog} {text : List ℕ} {r : Result T E} → Wrote a b text r → OnErr r (Rose a.faults b.faults)
wrote_rose {T = T} {E = E} {a = a} {b = b} {r = r} wrote = by r wrote.counted
  where
    by : (r : Result T E) → b.faults ≡ faults_after r a.faults → OnErr r (Rose a.faults b.faults)
    by (Ok x) same = tt
    by (Err e) more = omega (arith, more, rose-one_more a.faults)

grown_then : {T E : Type 0} (a b c : Option (List ℕ)) (front rest : List ℕ) (r : Result T E) → Appends a b front → Grown b c rest r → Grown a c (front ++ rest) r
grown_then a b c front rest (Ok x) p q = Appends-trans a b c front rest p q
grown_then a b c front rest (Err e) p q =
    (front ++ q.0, q.1, ap (λ l. front ++ l) q.2 ∙ sym (append_assoc front q.0 q.1), Appends-trans a b c front q.0 p q.3)

-- a text written whole, and then another
pub wrote_then : {T E T' E' : Type 0} {a b c : SinkLog} {front rest : List ℕ} {x : T} {r : Result T' E'} →
    Wrote {E = E} a b front (Ok x) → Wrote b c rest r → Wrote a c (front ++ rest) r
wrote_then {a = a} {b = b} {c = c} {front = front} {rest = rest} {r = r} first next = record {
  counted = next.counted ∙ ap (faults_after r) first.counted;
  grown = grown_then a.written b.written c.written front rest r first.grown next.grown;
}

counted_still : {T E T' E' : Type 0} (f g : ℕ) (call : Result T E) (r : Result T' E') → IsErr call → IsErr r → g ≡ faults_after call f → g ≡ faults_after r f
counted_still f g (Ok x) r failed is p = absurd (cc)
counted_still f g (Err e) (Ok x) failed is p = absurd (cc)
counted_still f g (Err e) (Err d) failed is p = p

grown_still : {T E T' E' : Type 0} (a b : Option (List ℕ)) (front rest : List ℕ) (call : Result T E) (r : Result T' E') → IsErr call → IsErr r → Grown a b front call → Grown a b (front ++ rest) r
grown_still a b front rest (Ok x) r failed is q = absurd (cc)
grown_still a b front rest (Err e) (Ok x) failed is q = absurd (cc)
grown_still a b front rest (Err e) (Err d) failed is q = (q.0, q.1 ++ rest, ap (λ l. l ++ rest) q.2 ∙ append_assoc q.0 q.1 rest, q.3)

-- a text that was not written whole, and nothing after it
pub wrote_stopped : {T E T' E' : Type 0} {a b : SinkLog} {front : List ℕ} {call : Result T E} {r : Result T' E'} (rest : List ℕ) →
    Wrote a b front call → IsErr call → IsErr r → Wrote a b (front ++ rest) r
wrote_stopped {a = a} {b = b} {front = front} {call = call} {r = r} rest first failed is = record {
  counted = counted_still a.faults b.faults call r failed is first.counted;
  grown = grown_still a.written b.written front rest call r failed is first.grown;
}

-- a text, and then another after a call with `?`
pub wrote_through : {T E T' E' : Type 0} {a b c : SinkLog} {front rest : List ℕ} {call : Result T E} {flow : _} {x : T} {r : Result T' E'} →
    Wrote a b front call → call ≡ result_from_control_flow flow → flow ≡ Continue x → Wrote b c rest r → Wrote a c (front ++ rest) r
wrote_through {T = T} {E = E} {a = a} {b = b} {front = front} first was goes next =
    let P : Result T E → Type 0 = λ call. Wrote a b front call in
    wrote_then (subst P (was ∙ ap result_from_control_flow goes) first) next

pub ruleset writes = (wrote_through, wrote_stopped)

-- what the items before a place give, with one item more
pub flat_map-next : {A B : Type 0} (f : A → List B) (xs : List A) (i : ℕ) (x : A) → x ≡ slice_index_or xs i x → i < length xs →
    flat_map f (take (i + 1) xs) ≡ flat_map f (take i xs) ++ f x
flat_map-next f xs i x is less =
    ap (flat_map f) (ap (λ (n : ℕ). take n xs) (add-one i) ∙ take-suc xs i x less)
    ∙ flat_map-append f (take i xs) (slice_index_or xs i x ∷ [])
    ∙ ap (λ l. flat_map f (take i xs) ++ l) (append-nil (f (slice_index_or xs i x)) ∙ ap f (sym is))

-- what the items before a place give, the item there, and those after it
pub flat_map-cut : {A B : Type 0} (f : A → List B) (xs : List A) (i : ℕ) (x : A) → x ≡ slice_index_or xs i x → i < length xs →
    flat_map f xs ≡ (flat_map f (take i xs) ++ f x) ++ flat_map f (drop (suc i) xs)
flat_map-cut f xs i x is less =
    ap (flat_map f) (split_at xs i x less)
    ∙ flat_map-append f (take i xs) (slice_index_or xs i x ∷ drop (suc i) xs)
    ∙ sym (append_assoc (flat_map f (take i xs)) (f (slice_index_or xs i x)) (flat_map f (drop (suc i) xs)))
    ∙ ap (λ (y : _). (flat_map f (take i xs) ++ f y) ++ flat_map f (drop (suc i) xs)) (sym is)

-- the items were written up to one, and that one
pub wrote_next : {A T T' E E' : Type 0} {a b c : SinkLog} {u : T} {v : T'} (f : A → List ℕ) (xs : List A) (i : ℕ) (x : A) →
    x ≡ slice_index_or xs i x → i < length xs →
    Wrote {E = E} a b (flat_map f (take i xs)) (Ok u) → Wrote {E = E'} b c (f x) (Ok v) → Wrote {E = E'} a c (flat_map f (take (i + 1) xs)) (Ok v)
wrote_next f xs i x is less first next = rw (flat_map-next f xs i x is less) (wrote_then first next)

-- the items were written up to one that was not written whole
pub wrote_cut : {A T T' E E' : Type 0} {a b c : SinkLog} {u : T} {e : E} (f : A → List ℕ) (xs : List A) (i : ℕ) (x : A) (result : Result T' E') →
    IsErr result → x ≡ slice_index_or xs i x → i < length xs →
    Wrote {E = E} a b (flat_map f (take i xs)) (Ok u) → Wrote {T = T} b c (f x) (Err e) → Wrote a c (flat_map f xs) result
wrote_cut f xs i x result fails is less first next =
    rw (flat_map-cut f xs i x is less) (wrote_stopped (flat_map f (drop (suc i) xs)) (wrote_then first next) refl fails)

-- the same, where the item is read with a default
pub wrote_cut_or : {A T T' E E' : Type 0} {a b c : SinkLog} {u : T} {e : E} (f : A → List ℕ) (xs : List A) (i : ℕ) (d : A) (result : Result T' E') →
    IsErr result → i < length xs →
    Wrote {E = E} a b (flat_map f (take i xs)) (Ok u) → Wrote {T = T} b c (f (slice_index_or xs i d)) (Err e) → Wrote a c (flat_map f xs) result
wrote_cut_or f xs i d result fails less first next =
    wrote_cut f xs i (slice_index_or xs i d) result fails (get_or_default xs i d (slice_index_or xs i d) less) less first next

pub ruleset writes_all = (wrote_next, wrote_cut, wrote_cut_or)
