-- Writing parts of a report one after another, where memory may run out between them.
use Rattle.std.proofs.Common.{◌≡◌, ℕ, zero, suc, ◌+◌, ◌<◌, List, [], ◌∷◌, ◌++◌, length, take, drop, slice_get, slice_index_or, IsSomeAnd, Option, Result, Ok, Err, MatchResult, refl, ap, sym, subst, ◌∙◌, arith, append_assoc}
use Rattle.std.specs.List.{flat_map, zip, enumerate_from}
use Rattle.std.specs.Option.{option_map_or}
use Rattle.std.proofs.KnownBytes.{Appends-trans, Appends-nil}
use Rattle.std.proofs.lemmas.List.FromFn.{get_or-enumerate_from}
use Rattle.std.proofs.lemmas.Option.{slice_get_read}
use Rattle.std.proofs.lemmas.Slice.Zip.{get_or-zip}
use Rattle.sch_io.specs.SinkLog.{SinkLog}
use Rattle.sch_io.specs.Wrote.{Wrote, Appends}
use Rattle.svrl_out.specs.declared.report.OutError.{OutError}
use Rattle.svrl_out.specs.declared.report.OutError.TheVariants.{Failed, Memory}
use Rattle.svrl_out.specs.Report.{Reported, faults_of_report}
use Rattle.sch_io.proofs.Writes.{flat_map-next, flat_map-cut}

-- what was written of a text
abbrev Grown : {E : Type 0} → Option (List ℕ) → Option (List ℕ) → List ℕ → Result (Unit {0}) E → Type 0
Grown old new text r = MatchResult r (λ _. Appends old new text) (λ _. (done left : List ℕ) × (text ≡ done ++ left) × Appends old new done)

grown_then : {E : Type 0} (a b c : Option (List ℕ)) (front rest : List ℕ) (r : Result (Unit {0}) E) → Appends a b front → Grown b c rest r → Grown a c (front ++ rest) r
grown_then a b c front rest (Ok x) p q = Appends-trans a b c front rest p q
grown_then a b c front rest (Err e) p q = (front ++ q.0, q.1, ap (λ l. front ++ l) q.2 ∙ sym (append_assoc front q.0 q.1), Appends-trans a b c front q.0 p q.3)

-- a part written whole, and then the rest
pub reported_then : {T E : Type 0} {a b c : SinkLog} {front rest : List ℕ} {x : T} {r : Result (Unit {0}) OutError} →
    Wrote {T = T} {E = E} a b front (Ok x) → Reported b c rest r → Reported a c (front ++ rest) r
reported_then {a = a} {b = b} {c = c} {front = front} {rest = rest} {x = x} {r = r} first next = record {
  counted = next.counted ∙ ap (faults_of_report r) first.counted;
  grown = grown_then a.written b.written c.written front rest r first.grown next.grown;
}

-- the same after another part of the report
pub reported_both : {a b c : SinkLog} {front rest : List ℕ} {x : Unit {0}} {r : Result (Unit {0}) OutError} →
    Reported a b front (Ok x) → Reported b c rest r → Reported a c (front ++ rest) r
reported_both {a = a} {b = b} {c = c} {front = front} {rest = rest} {x = x} {r = r} first next = record {
  counted = next.counted ∙ ap (faults_of_report r) first.counted;
  grown = grown_then a.written b.written c.written front rest r first.grown next.grown;
}

-- a part that was not written whole, for want of the sink, and nothing after it
pub reported_failed : {T E : Type 0} {a b : SinkLog} {front : List ℕ} {e : E} (rest : List ℕ) (r : Result (Unit {0}) OutError) → r ≡ Err Failed →
    Wrote {T = T} a b front (Err e) → Reported a b (front ++ rest) r
reported_failed {a = a} {b = b} {front = front} rest r is first =
    subst (Reported a b (front ++ rest)) (sym is) (record {
      counted = first.counted;
      grown = let q = first.grown in (q.0, q.1 ++ rest, ap (λ l. l ++ rest) q.2 ∙ append_assoc q.0 q.1 rest, q.3);
    })

-- a part of the report that stopped, and nothing after it
pub reported_stopped : {a b : SinkLog} {front : List ℕ} {e : OutError} (rest : List ℕ) (r : Result (Unit {0}) OutError) → r ≡ Err e →
    Reported a b front (Err e) → Reported a b (front ++ rest) r
reported_stopped {a = a} {b = b} {front = front} {e = e} rest r is first =
    subst (Reported a b (front ++ rest)) (sym is) (record {
      counted = first.counted;
      grown = let q = first.grown in (q.0, q.1 ++ rest, ap (λ l. l ++ rest) q.2 ∙ append_assoc q.0 q.1 rest, q.3);
    })

-- nothing was written, for want of memory
pub reported_memory : {a : SinkLog} (text : List ℕ) (r : Result (Unit {0}) OutError) → r ≡ Err Memory → Reported a a text r
reported_memory {a = a} text r is = subst (Reported a a text) (sym is) (record { counted = refl; grown = ([], text, refl, Appends-nil a.written) })

-- nothing was to be written
pub reported_nothing : {a : SinkLog} → Reported a a [] (Ok tt)
reported_nothing {a = a} = record { counted = refl; grown = Appends-nil a.written }

-- what a word says of the item at a place
pub at_place : {A B : Type 0} (f : A → B) (xs : List A) (i : ℕ) (x : A) (d : B) → x ≡ slice_index_or xs i x → i < length xs → option_map_or f (slice_get xs i) d ≡ f x
at_place f xs i x d is less = ap (λ (o : Option _). option_map_or f o d) (slice_get_read xs (length xs) i x refl less is)

-- an item of which something holds is there
pub some_within : {A : Type 0} (xs : List A) (i : ℕ) (P : A → Type 0) → IsSomeAnd (slice_get xs i) P → i < length xs
some_within [] i P holds = absurd holds
some_within (x ∷ xs) zero P holds = omega arith
some_within (x ∷ xs) (suc i) P holds = omega (arith, some_within xs i P holds)

-- what holds of the item at a place
pub some_holds : {A : Type 0} (xs : List A) (i : ℕ) (x : A) (P : A → Type 0) → x ≡ slice_index_or xs i x → IsSomeAnd (slice_get xs i) P → P x
some_holds xs i x P is holds = subst (λ (o : Option _). IsSomeAnd o P) (slice_get_read xs (length xs) i x refl (some_within xs i P holds) is) holds

-- the pair at a place of two lists side by side
pub pair_at : {A B : Type 0} (xs : List A) (ys : List B) (i : ℕ) (x : A) (y : B) → i < length xs → i < length ys → x ≡ slice_index_or xs i x → y ≡ slice_index_or ys i y → (x, y) ≡ slice_index_or (zip xs ys) i (x, y)
pair_at xs ys i x y less less_2 is is_2 = sym (get_or-zip xs ys i (x, y) less less_2 ∙ (ap (λ (a : _). (a, slice_index_or ys i y)) (sym is) ∙ ap (λ (b : _). (x, b)) (sym is_2)))

-- the numbered item at a place
pub numbered_at : {A : Type 0} (xs : List A) (i : ℕ) (x : A) → i < length xs → x ≡ slice_index_or xs i x → (i, x) ≡ slice_index_or (enumerate_from 0 xs) i (i, x)
numbered_at xs i x less is = sym (get_or-enumerate_from 0 xs i (i, x) less ∙ (ap (λ (n : ℕ). (n, slice_index_or xs i x)) (zero_add i) ∙ ap (λ (a : _). (i, a)) (sym is)))
  where
    zero_add : (n : ℕ) → 0 + n ≡ n
    zero_add n = omega arith

-- a part that was not written whole, for want of the sink
pub reported_err : {T E : Type 0} {a b : SinkLog} {text : List ℕ} {e : E} (r : Result (Unit {0}) OutError) → r ≡ Err Failed →
    Wrote {T = T} a b text (Err e) → Reported a b text r
reported_err {a = a} {b = b} {text = text} r is first = subst (Reported a b text) (sym is) (record { counted = first.counted; grown = first.grown })

-- a part that was written whole
pub reported_ok : {T E : Type 0} {a b : SinkLog} {text : List ℕ} {x : T} → Wrote {E = E} a b text (Ok x) → Reported a b text (Ok tt)
reported_ok first = record { counted = first.counted; grown = first.grown }

-- the items were told up to one that stopped
pub reported_cut : {A : Type 0} {a b c : SinkLog} {e : OutError} (f : A → List ℕ) (xs : List A) (i : ℕ) (x : A) (result : Result (Unit {0}) OutError) → result ≡ Err e → x ≡ slice_index_or xs i x → i < length xs →
    Reported a b (flat_map f (take i xs)) (Ok tt) → Reported b c (f x) (Err e) → Reported a c (flat_map f xs) result
reported_cut f xs i x result fails is less first next = rw (flat_map-cut f xs i x is less) (reported_stopped (flat_map f (drop (suc i) xs)) result fails (reported_both first next))

-- the items were told up to one, and that one
pub reported_next : {A : Type 0} {a b c : SinkLog} {u : Unit {0}} (f : A → List ℕ) (xs : List A) (i : ℕ) (x : A) → x ≡ slice_index_or xs i x → i < length xs →
    Reported a b (flat_map f (take i xs)) (Ok tt) → Reported b c (f x) (Ok u) → Reported a c (flat_map f (take (i + 1) xs)) (Ok u)
reported_next f xs i x is less first next = rw (flat_map-next f xs i x is less) (reported_both first next)
