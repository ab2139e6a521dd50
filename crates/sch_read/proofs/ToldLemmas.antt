-- Checks one after another.
use Rattle.std.proofs.Common.{◌≡◌, ℕ, true, List, [], ◌∷◌, ◌++◌, Option, None, Some, Result, Ok, Err, refl, sym, ap, ◌∙◌, append-nil, append_assoc, subst}
use Rattle.std.specs.List.{flat_map}
use Rattle.std.specs.Option.{option_or}
use Rattle.std.proofs.lemmas.Grind.{flat_map-append}
use Rattle.std.proofs.lemmas.Result.{err_from_is_err_and}
use Rattle.std.specs.Prelude.{IsErrAnd}
use Rattle.doc_tree.specs.Lists.{mem}
use Rattle.doc_tree.specs.Table.{Table}
use Rattle.doc_tree.proofs.ListLemmas.{mem-head, mem-tail}
use Rattle.sch_model.specs.declared.fault.SchemaError.{SchemaError}
use Rattle.sch_model.specs.declared.fault.SchemaError.TheVariants.{Fault, Memory}
use Rattle.sch_model.specs.declared.fault.SchemaFault.{SchemaFault}
use Rattle.sch_rules.specs.FirstBroken.{fault_at, fault_of, first_over, least}
use Rattle.sch_rules.specs.Keys.{Key, keys_at}
use Rattle.sch_read.specs.inner.Told.{IsRefusal, Refuses, Told}

or-assoc : {A : Type 0} (a b c : Option A) → option_or (option_or a b) c ≡ option_or a (option_or b c)
or-assoc None b c = refl
or-assoc (Some x) b c = refl

or-none : {A : Type 0} (a : Option A) → option_or a None ≡ a
or-none None = refl
or-none (Some x) = refl

-- rules in two parts
pub least-append : (n : ℕ) (xs ys : List (ℕ × Option (List ℕ))) → least n (xs ++ ys) ≡ option_or (least n xs) (least n ys)
least-append n [] ys = refl
least-append n (x ∷ xs) ys =
    ap (option_or (fault_of n x.0 x.1)) (least-append n xs ys) ∙ sym (or-assoc (fault_of n x.0 x.1) (least n xs) (least n ys))

pub refuses-some : (f : SchemaFault) (fault : Option SchemaFault) (e : SchemaError) → fault ≡ Some f → IsRefusal f e → Refuses fault (Err e)
refuses-some f fault (Fault g) is h = is ∙ ap Some (sym h)
refuses-some f fault Memory is h = tt

pub refuses-then : (a b : Option SchemaFault) (r : Result (Unit {0}) SchemaError) → a ≡ None → Refuses b r → Refuses (option_or a b) r
refuses-then None b r none h = h
refuses-then (Some f) b r none h = absurd (cc)

pub refuses-stop : (a b : Option SchemaFault) (e : SchemaError) → Refuses a (Err e) → Refuses (option_or a b) (Err e)
refuses-stop None b (Fault f) h = absurd (cc)
refuses-stop (Some g) b (Fault f) h = h
refuses-stop a b Memory h = tt

-- a check that ends as an inner one did
pub told-exit : {fault : Option SchemaFault} {keys old new : List Key} (e : SchemaError) (r : Result (Unit {0}) SchemaError) →
    IsErrAnd r (λ d. d ≡ e) → Refuses fault (Err e) → Told fault keys old new r
told-exit {fault} {keys} {old} {new} e r h refuses =
    let (d, is, same) = err_from_is_err_and r h in
    subst (λ s. Told fault keys old new s) (sym (is ∙ ap Err same)) (record { refuses = refuses; used = tt })

-- places in two parts
pub over-append : (T : Table) (taken : List Key) (xs ys : List ℕ) →
    first_over T taken (xs ++ ys) ≡ option_or (first_over T taken xs) (first_over T (taken ++ flat_map (keys_at T) xs) ys)
over-append T taken [] ys = ap (λ keys. first_over T keys ys) (sym (append-nil taken))
over-append T taken (x ∷ xs) ys =
    ap (option_or (fault_at T taken x)) (over-append T (taken ++ keys_at T x) xs ys
    ∙ ap (λ keys. option_or (first_over T (taken ++ keys_at T x) xs) (first_over T keys ys)) (append_assoc taken (keys_at T x) (flat_map (keys_at T) xs)))
    ∙ sym (or-assoc (fault_at T taken x) (first_over T (taken ++ keys_at T x) xs) (first_over T (taken ++ flat_map (keys_at T) (x ∷ xs)) ys))

-- the answer of a check of places
abbrev pub Checked : Table → List Key → List Key → List ℕ → Result (Unit {0}) SchemaError → Type 0
Checked T old new ns result = Told (first_over T old ns) (flat_map (keys_at T) ns) old new result

checked-cases : (T : Table) (a b c : List Key) (xs ys : List ℕ) (r : Result (Unit {0}) SchemaError) →
    Checked T a b xs (Ok tt) → Checked T b c ys r → Refuses (first_over T (a ++ flat_map (keys_at T) xs) ys) r →
    ((x : Unit {0}) → r ≡ Ok x → c ≡ b ++ flat_map (keys_at T) ys) → Checked T a c (xs ++ ys) r
checked-cases T a b c xs ys (Ok tt) first next refuses used = record {
  refuses = over-append T a xs ys ∙ refuses-then (first_over T a xs) (first_over T (a ++ flat_map (keys_at T) xs) ys) (Ok tt) first.refuses refuses;
  used =
      used tt refl
      ∙ ap (λ keys. keys ++ flat_map (keys_at T) ys) first.used
      ∙ append_assoc a (flat_map (keys_at T) xs) (flat_map (keys_at T) ys)
      ∙ ap (λ keys. a ++ keys) (sym (flat_map-append (keys_at T) xs ys));
}
checked-cases T a b c xs ys (Err (Fault f)) first next refuses used = record {
  refuses = over-append T a xs ys ∙ refuses-then (first_over T a xs) (first_over T (a ++ flat_map (keys_at T) xs) ys) (Err (Fault f)) first.refuses refuses;
  used = tt;
}
checked-cases T a b c xs ys (Err Memory) first next refuses used = record { refuses = tt; used = tt }

used-cases : (T : Table) (b c : List Key) (ys : List ℕ) (r : Result (Unit {0}) SchemaError) → Checked T b c ys r → (x : Unit {0}) → r ≡ Ok x → c ≡ b ++ flat_map (keys_at T) ys
used-cases T b c ys (Ok tt) next x e = next.used
used-cases T b c ys (Err e) next x is = absurd (cc)

pub checked-then : (T : Table) (a b c : List Key) (xs ys : List ℕ) (r : Result (Unit {0}) SchemaError) → Checked T a b xs (Ok tt) → Checked T b c ys r → Checked T a c (xs ++ ys) r
checked-then T a b c xs ys r first next =
    checked-cases T a b c xs ys r first next (rw (← first.used) next.refuses) (used-cases T b c ys r next)

pub checked-stop : (T : Table) (a b c : List Key) (xs ys : List ℕ) (e : SchemaError) → Checked T a b xs (Err e) → Checked T a c (xs ++ ys) (Err e)
checked-stop T a b c xs ys (Fault f) first = record {
  refuses = over-append T a xs ys ∙ refuses-stop (first_over T a xs) (first_over T (a ++ flat_map (keys_at T) xs) ys) (Fault f) first.refuses;
  used = tt;
}
checked-stop T a b c xs ys Memory first = record { refuses = tt; used = tt }

pub checked-none : (T : Table) (a : List Key) → Checked T a a [] (Ok tt)
checked-none T a = record { refuses = refl; used = sym (append-nil a) }

-- a place that was checked
pub checked-one : (T : Table) (a b : List Key) (n : ℕ) (r : Result (Unit {0}) SchemaError) → Told (fault_at T a n) (keys_at T n) a b r → Checked T a b (n ∷ []) r
checked-one T a b n r told =
    rw (or-none (fault_at T a n), append-nil (keys_at T n)) told

-- places at which no rule can be broken and no name is used
pub record IsQuiet (T : Table) (n : ℕ) : Type 0 where
  pub no_fault : (taken : List Key) → fault_at T taken n ≡ None
  pub no_key : keys_at T n ≡ []

pub checked-quiet : (T : Table) (a : List Key) (ns : List ℕ) → ((n : ℕ) → mem n ns ≡ true → IsQuiet T n) → Checked T a a ns (Ok tt)
checked-quiet T a [] quiet = checked-none T a
checked-quiet T a (n ∷ ns) quiet =
    let here = quiet n (mem-head n ns) in
    let one : Checked T a a (n ∷ []) (Ok tt) = record {
      refuses = or-none (fault_at T a n) ∙ here.no_fault a;
      used = sym (append-nil a) ∙ ap (λ keys. a ++ keys) (sym (append-nil (keys_at T n) ∙ here.no_key));
    } in
    checked-then T a a a (n ∷ []) ns (Ok tt) one (checked-quiet T a ns (λ m h. quiet m (mem-tail m n ns h)))
