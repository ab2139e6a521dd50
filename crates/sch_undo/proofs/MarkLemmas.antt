-- Marks, one after another.
use Rattle.std.proofs.Common.{◌≡◌, ℕ, Bool, true, false, ◌||◌, List, [], ◌∷◌, map, Option, None, Some, refl, sym, ap, ap₂, ◌∙◌}
use Rattle.std.proofs.Math.Bool.{or-true}
use Rattle.std.specs.FinSet.{items}
use Rattle.std.specs.List.{list_any}
use Rattle.std.specs.Prelude.{if◌then◌else◌}
use Rattle.doc_tree.specs.cell.Cell.{Cell}
use Rattle.doc_tree.specs.cell.Cell.TheVariants.{Name}
use Rattle.doc_tree.specs.Table.{Table}
use Rattle.xp_outcome.specs.Recorded.{NamesSet, Recorded}
use Rattle.cover_laws.specs.Covering.{has_touched, has_touched_name, holds_touched, names_at}
use Rattle.edit_session.specs.Kept.{Kept}
use Rattle.edit_session.specs.Steps.{Marks, unless_touched}

any-none : {A : Type 0} (f : A → Bool) (xs : List A) → ((x : A) → f x ≡ false) → list_any f xs ≡ false
any-none f [] fails = refl
any-none f (x ∷ xs) fails = rw (fails x) (any-none f xs fails)

any-same : {A : Type 0} (f g : A → Bool) (xs : List A) → ((x : A) → f x ≡ g x) → list_any f xs ≡ list_any g xs
any-same f g [] same = refl
any-same f g (x ∷ xs) same = ap₂ (λ a b. a || b) (same x) (any-same f g xs same)

-- four tests in two orders
or-middle : (a b c d : Bool) → ((a || b) || (c || d)) ≡ ((a || c) || (b || d))
or-middle true b c d = refl
or-middle false true c d = sym (or-true c)
or-middle false false c d = refl

any-both : {A : Type 0} (f g : A → Bool) (xs : List A) → list_any (λ x. f x || g x) xs ≡ (list_any f xs || list_any g xs)
any-both f g [] = refl
any-both f g (x ∷ xs) = ap (λ b. (f x || g x) || b) (any-both f g xs) ∙ or-middle (f x) (g x) (list_any f xs) (list_any g xs)

-- where no name is touched
pub names-none : (T : Table) (touched : Cell → Bool) → ((n : ℕ) → touched (Name n) ≡ false) → (names : NamesSet) →
    has_touched_name T touched names ≡ false
names-none T touched keeps names =
    any-none (λ a. list_any touched (names_at T a)) (items names)
    (λ a. each _)
  where
    each : (ns : List ℕ) → list_any touched (map Name ns) ≡ false
    each [] = refl
    each (n ∷ ns) = rw (keeps n) (each ns)

-- where two touch
names-both : (T : Table) (first last : Cell → Bool) (names : NamesSet) → has_touched_name T (λ c. first c || last c) names ≡
    (has_touched_name T first names || has_touched_name T last names)
names-both T first last names =
    any-same (λ a. list_any (λ c. first c || last c) (names_at T a)) (λ a. list_any first (names_at T a) || list_any last (names_at T a)) (items names)
    (λ a. any-both first last (names_at T a))
    ∙ any-both (λ a. list_any first (names_at T a)) (λ a. list_any last (names_at T a)) (items names)

holds-both : (T U : Table) (first last : Cell → Bool) (held : Recorded) →
    has_touched_name U last held.names ≡ has_touched_name T last held.names →
    holds_touched T (λ c. first c || last c) held ≡ (holds_touched T first held || holds_touched U last held)
holds-both T U first last held same =
    ap₂ (λ a b. a || b) (any-both first last (items held.cells))
    (names-both T first last held.names ∙ ap (λ b. has_touched_name T first held.names || b) (sym same))
    ∙ or-middle (has_touched first held.cells) (has_touched last held.cells) (has_touched_name T first held.names) (has_touched_name U last held.names)

unless-none : (T : Table) (held : Option Recorded) → held ≡ unless_touched T (λ _. false) held
unless-none T None = refl
unless-none T (Some held) =
    ap (λ b. if b then None else Some held)
    (sym (ap₂ (λ a b. a || b) (any-none (λ _. false) (items held.cells) (λ c. refl)) (names-none T (λ _. false) (λ n. refl) held.names)))

unless-both : (T U : Table) (first last : Cell → Bool) → ((names : NamesSet) → has_touched_name U last names ≡ has_touched_name T last names) →
    (held : Option Recorded) → unless_touched U last (unless_touched T first held) ≡ unless_touched T (λ c. first c || last c) held
unless-both T U first last same None = refl
unless-both T U first last same (Some held) =
    by (holds_touched T first held) ∙ ap (λ b. if b then None else Some held) (sym (holds-both T U first last held (same held.names)))
  where
    by : (a : Bool) → unless_touched U last (if a then None else Some held) ≡ (if (a || holds_touched U last held) then None else Some held)
    by true = refl
    by false = refl

pub marks-none : (T : Table) (kept : Kept) → Marks T (λ _. false) kept kept
marks-none T kept = record { lets = refl; outcomes = λ p n. refl; reads = λ unit. unless-none T (kept.reads unit) }

-- where the later one touches the same names in both trees, marks are those of one that touches both
pub marks-then : (T U : Table) (first last : Cell → Bool) (old now new : Kept) →
    ((names : NamesSet) → has_touched_name U last names ≡ has_touched_name T last names) → Marks T first old now → Marks U last now new →
    Marks T (λ c. first c || last c) old new
marks-then T U first last old now new same before after = record {
  lets = after.lets ∙ before.lets;
  outcomes = λ p n. after.outcomes p n ∙ before.outcomes p n;
  reads = λ unit. after.reads unit ∙ (ap (unless_touched U last) (before.reads unit) ∙ unless-both T U first last same (old.reads unit));
}
