-- Parts one after another.
use Rattle.std.proofs.Common.{◌≡◌, ◌⊎◌, inl, inr, ℕ, suc, Bool, true, false, List, [], ◌∷◌, ◌++◌, refl, sym, ap, ◌∙◌, subst, append_assoc, append-nil}
use Rattle.std.specs.Prelude.{Result, Ok, Err}
use Rattle.std.specs.List.{flat_map}
use Rattle.doc_tree.specs.Lines.{Line, closes, opens}
use Rattle.doc_tree.specs.Table.{Table, attrs_of, kids_of}
use Rattle.sch_include.specs.declared.fault.IncludeError.{IncludeError}
use Rattle.sch_include.specs.declared.fault.IncludeError.TheVariants as error
use Rattle.sch_include.specs.declared.fault.IncludeFault.{IncludeFault}
use Rattle.sch_include.specs.Includes.{is_include}
use Rattle.sch_include.specs.Parts.{Choice, InTurn, Part, Standing, Then, Told, followed_by}
use Rattle.sch_include.specs.Taking.{Walked}
use Rattle.sch_include.specs.inner.Joining.{Gives}

abbrev pub Outcome : Type 0
Outcome = Result (List Line) IncludeFault

abbrev pub Done : List Line → Outcome
Done told = Ok told

abbrev pub Fault : IncludeFault → Outcome
Fault fault = Err fault

pub ok-same : (a b : List Line) → Done a ≡ Done b → a ≡ b
ok-same a b h = cc

err≢ok : (e : IncludeFault) (a : List Line) → Fault e ≡ Done a → ⊥
err≢ok e a h = cc

followed-none : (P : Outcome → Type 0) (r : Outcome) → P r → P (followed_by [] r)
followed-none P (Ok more) h = h
followed-none P (Err fault) h = h

followed-twice : (a b : List Line) (r : Outcome) → followed_by (a ++ b) r ≡ followed_by a (followed_by b r)
followed-twice a b (Ok more) = ap Done (append_assoc a b more)
followed-twice a b (Err fault) = refl

more-ok : (told lines : List Line) (more : Outcome) → Done told ≡ followed_by lines more → (rest : List Line) × (more ≡ Ok rest) × (told ≡ lines ++ rest)
more-ok told lines (Ok rest) e = (rest, refl, ok-same told (lines ++ rest) e)
more-ok told lines (Err fault) e = absurd (err≢ok fault told (sym e))

-- the parts of some nodes, then those of more
pub in-turn-append : (part : ℕ → Part) (xs ys : List ℕ) (a b c : Standing) (told : List Line) (r : Outcome) → InTurn part xs a b (Ok told) → InTurn part ys b c r → InTurn part (xs ++ ys) a c (followed_by told r)
in-turn-append part [] ys a b c told r x y =
    subst (λ (l : List Line). InTurn part ys a c (followed_by l r)) (sym (ok-same told [] x.1))
    (subst (λ (s : Standing). InTurn part ys s c (followed_by [] r)) x.0 (followed-none (λ o. InTurn part ys b c o) r y))
in-turn-append part (n ∷ ns) ys a b c told r x y = by (λ between rest z. in-turn-append part ns ys between b c rest r z y) x.either
  where
    by : ((between : Standing) (rest : List Line) → InTurn part ns between b (Ok rest) → InTurn part (ns ++ ys) between c (followed_by rest r)) →
        ((fault : IncludeFault) × part n a b (Err fault) × (Done told ≡ Err fault))
        ⊎ ((between : Standing) × (lines : List Line) × (more : Outcome) × part n a between (Ok lines) × InTurn part ns between b more × (Done told ≡ followed_by lines more)) →
        Then (part n) (InTurn part (ns ++ ys)) a c (followed_by told r)
    by later (inl z) = absurd (err≢ok z.0 told (sym z.2))
    by later (inr z) =
        let m = more-ok told z.1 z.2 z.5 in
        record {
          either = inr (
            z.0,
            z.1,
            followed_by m.0 r,
            z.3,
            later z.0 m.0 (subst (λ (o : Outcome). InTurn part ns z.0 b o) m.1 z.4),
            ap (λ (l : List Line). followed_by l r) m.2 ∙ followed-twice z.1 m.0 r,
          );
        }

pub in-turn-one : (part : ℕ → Part) (n : ℕ) (a b : Standing) (told : List Line) → part n a b (Ok told) → InTurn part (n ∷ []) a b (Ok told)
in-turn-one part n a b told x = record { either = inr (b, told, Ok [], x, (refl, refl), ap Done (sym (append-nil told))) }

pub in-turn-stop : (part : ℕ → Part) (n : ℕ) (ns : List ℕ) (a b : Standing) (fault : IncludeFault) → part n a b (Err fault) → InTurn part (n ∷ ns) a b (Err fault)
in-turn-stop part n ns a b fault x = record { either = inl (fault, x, refl) }

-- a node that is no include, by its kids
pub gives-open : (taking : ℕ → Part) (T : Table) (levels n : ℕ) (a b : Standing) (told : List Line) (result : Result (Unit {0}) IncludeError) → is_include T n ≡ false →
    Gives (InTurn (Walked taking T levels) (kids_of T n)) a b told result → Gives (Walked taking T (suc levels) n) a b (flat_map (opens T) (n ∷ attrs_of T n) ++ (told ++ closes T n)) result
gives-open taking T levels n a b told (Ok done) isnt x =
    subst (λ (i : Bool). Choice i (taking n) (Then (Told (flat_map (opens T) (n ∷ attrs_of T n))) (Then (InTurn (Walked taking T levels) (kids_of T n)) (Told (closes T n)))) a b (Ok (flat_map (opens T) (n ∷ attrs_of T n) ++ (told ++ closes T n)))) (sym isnt)
    (record { either = inr (a, flat_map (opens T) (n ∷ attrs_of T n), Ok (told ++ closes T n), (refl, refl), record { either = inr (b, told, Ok (closes T n), x, (refl, refl), refl) }, refl) })
gives-open taking T levels n a b told (Err (error.Fault fault)) isnt x =
    subst (λ (i : Bool). Choice i (taking n) (Then (Told (flat_map (opens T) (n ∷ attrs_of T n))) (Then (InTurn (Walked taking T levels) (kids_of T n)) (Told (closes T n)))) a b (Err fault)) (sym isnt)
    (record { either = inr (a, flat_map (opens T) (n ∷ attrs_of T n), Err fault, (refl, refl), record { either = inl (fault, x, refl) }, refl) })
gives-open taking T levels n a b told (Err error.Memory) isnt x = tt

-- an include
pub gives-include : (taking : ℕ → Part) (T : Table) (levels n : ℕ) (a b : Standing) (told : List Line) (result : Result (Unit {0}) IncludeError) → is_include T n ≡ true →
    Gives (taking n) a b told result → Gives (Walked taking T (suc levels) n) a b told result
gives-include taking T levels n a b told (Ok done) is x =
    subst (λ (i : Bool). Choice i (taking n) (Then (Told (flat_map (opens T) (n ∷ attrs_of T n))) (Then (InTurn (Walked taking T levels) (kids_of T n)) (Told (closes T n)))) a b (Ok told)) (sym is) x
gives-include taking T levels n a b told (Err (error.Fault fault)) is x =
    subst (λ (i : Bool). Choice i (taking n) (Then (Told (flat_map (opens T) (n ∷ attrs_of T n))) (Then (InTurn (Walked taking T levels) (kids_of T n)) (Told (closes T n)))) a b (Err fault)) (sym is) x
gives-include taking T levels n a b told (Err error.Memory) is x = tt
