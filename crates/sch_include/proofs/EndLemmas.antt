-- Ends of the steps of a walk.
use Rattle.std.proofs.Common.{◌≡◌, ℕ, List, [], ◌∷◌, ◌++◌, refl, sym, ap, ◌∙◌, subst, append_assoc}
use Rattle.std.specs.Prelude.{Result, Ok, Err, IfErr, IsErrAnd, OnOk}
use Rattle.sch_io.specs.Files.{Files}
use Rattle.sch_io.specs.ReadThrough.{ReadsThrough}
use Rattle.sch_io.specs.ShelfState.{ShelfState}
use Rattle.doc_tree.specs.Table.{Contents}
use Rattle.sch_include.specs.declared.fault.IncludeError.{IncludeError}
use Rattle.sch_include.specs.declared.fault.IncludeError.TheVariants as error
use Rattle.sch_include.specs.declared.joiner.Joiner.{Joiner}
use Rattle.sch_include.specs.declared.source.OpenFile.{OpenFile}
use Rattle.sch_include.specs.Ends.{NamesLast, extent_of_including, faults_of_including, misses_of_including}
use Rattle.sch_include.specs.inner.Joining.{Shows, TakesFile, Walks, WalksFile, WalksKids}
use Rattle.sch_include.proofs.KidLemmas.{shows-memory}
use Rattle.sch_include.proofs.NodeLemmas.{walks-memory}

pub shows-end : (s : ShelfState) (a : List (List ℕ)) (r : Result (Unit {0}) IncludeError) → r ≡ Err error.Memory → Shows {T = Unit {0}} s s a a r
shows-end s a r is = subst (λ (o : Result (Unit {0}) IncludeError). Shows {T = Unit {0}} s s a a o) (sym is) (shows-memory s a)

-- the same of a file that was not opened
pub shows-unopened : (s : ShelfState) (a b : List (List ℕ)) (r : Result Contents IncludeError) → b ≡ a → IsErrAnd r (λ x. x ≡ error.Memory) → Shows {T = Contents} s s a b r
shows-unopened s a b (Ok tree) same h = absurd h
shows-unopened s a b (Err x) same h =
    subst (λ (names : List (List ℕ)). Shows {T = Contents} s s a names (Err x)) (sym same) (subst (λ (e : IncludeError). Shows {T = Contents} s s a a (Err e)) (sym h) (shows-memory s a))

-- and of one that was
pub shows-opened : (s t : ShelfState) (old new : List (List ℕ)) (name : List ℕ) (r : Result Contents IncludeError) → new ≡ old ++ name ∷ [] → t.files ≡ s.files → t.opened ≡ s.opened ++ name ∷ [] →
    t.misses ≡ misses_of_including r s.misses → t.faults ≡ faults_of_including r s.faults → IfErr r (NamesLast (s.opened ++ name ∷ [])) → ReadsThrough (extent_of_including r) s t →
    Shows {T = Contents} s t old new r
shows-opened s t old new name r more held opened misses faults named through = record {
  held = held;
  noted = λ base is.
      opened ∙ (ap (λ (names : List (List ℕ)). names ++ name ∷ []) is ∙ (append_assoc base old (name ∷ []) ∙ ap (λ (names : List (List ℕ)). base ++ names) (sym more)));
  later = (name ∷ [], more);
  misses = misses;
  faults = faults;
  last = subst (λ (names : List (List ℕ)). IfErr r (NamesLast names)) (sym opened) named;
  through = through;
}

pub walks-end : (old new : Joiner) (file : OpenFile) (n p : ℕ) (F : Files → Type 0) (r : Result (Unit {0}) IncludeError) → r ≡ Err error.Memory → Walks old new file n p r F
walks-end old new file n p F r is = subst (λ (o : Result (Unit {0}) IncludeError). Walks old new file n p o F) (sym is) (walks-memory old new file n p F)

-- what one call shows, then the next that failed
pub shows-passed : (s u : ShelfState) (a c : List (List ℕ)) (r : Result (Unit {0}) IncludeError) (x : IncludeError) → r ≡ Err x → Shows {T = Unit {0}} s u a c (Err x) → Shows {T = Unit {0}} s u a c r
shows-passed s u a c r x is h = subst (λ (o : Result (Unit {0}) IncludeError). Shows {T = Unit {0}} s u a c o) (sym is) h

pub kids-passed : (old new : Joiner) (file : OpenFile) (n : ℕ) (ns : List ℕ) (p : ℕ) (F : Files → Type 0) (r : Result (Unit {0}) IncludeError) (x : IncludeError) → r ≡ Err x → WalksKids old new file n ns p (Err x) F → WalksKids old new file n ns p r F
kids-passed old new file n ns p F r x is h = subst (λ (o : Result (Unit {0}) IncludeError). WalksKids old new file n ns p o F) (sym is) h

pub walks-passed : (old new : Joiner) (file : OpenFile) (n p : ℕ) (F : Files → Type 0) (r : Result (Unit {0}) IncludeError) (x : IncludeError) → r ≡ Err x → Walks old new file n p (Err x) F → Walks old new file n p r F
walks-passed old new file n p F r x is h = subst (λ (o : Result (Unit {0}) IncludeError). Walks old new file n p o F) (sym is) h

pub takes-passed : (old new : Joiner) (file : OpenFile) (n p : ℕ) (name : List ℕ) (F : Files → Type 0) (r : Result (Unit {0}) IncludeError) (x : IncludeError) → r ≡ Err x → TakesFile old new file n p name (Err x) F → TakesFile old new file n p name r F
takes-passed old new file n p name F r x is h = subst (λ (o : Result (Unit {0}) IncludeError). TakesFile old new file n p name o F) (sym is) h

pub file-passed : (old new : Joiner) (file : OpenFile) (p : ℕ) (F : Files → Type 0) (r : Result (Unit {0}) IncludeError) (x : IncludeError) → r ≡ Err x → WalksFile old new file p (Err x) F → WalksFile old new file p r F
file-passed old new file p F r x is h = subst (λ (o : Result (Unit {0}) IncludeError). WalksFile old new file p o F) (sym is) h

pub file-memory : (old new : Joiner) (file : OpenFile) (p : ℕ) (F : Files → Type 0) → WalksFile old new file p (Err error.Memory) F
file-memory old new file p F = record { told = []; gives = λ files are depth deep. tt; joins = λ ok. absurd (cc) }

pub on-ok : (r : Result (Unit {0}) IncludeError) (P : Type 0) → (r ≡ Ok tt → P) → OnOk r P
on-ok (Ok done) P h = h refl
on-ok (Err e) P h = tt

pub on-err : (r : Result (Unit {0}) IncludeError) (x : IncludeError) (P : Type 0) → r ≡ Err x → OnOk r P
on-err (Ok done) x P is = absurd (cc)
on-err (Err e) x P is = tt
