-- A walk over a schema, stretch by stretch: a stretch goes on with a value, or stops at a broken rule, and nothing after that is
-- looked at. A stretch is seen as what may come of it.
use Rattle.std.specs.Prelude.{◌≡◌, ◌⊎◌, Bool, true, false, List, [], ◌∷◌, Result, Ok, Err}
use Rattle.sch_model.specs.declared.fault.SchemaError.{SchemaError}
use Rattle.sch_model.specs.declared.fault.SchemaError.TheVariants.{Fault, Memory}
use Rattle.sch_model.specs.declared.fault.SchemaFault.{SchemaFault}

abbrev pub Stretch : Type 0 → Type 1
Stretch A = Result A SchemaFault → Type 0

-- the value is what comes of it
abbrev pub goes : {A : Type 0} → A → Stretch A
goes a r = r ≡ Ok a

-- the broken rule is
abbrev pub stops : {A : Type 0} → SchemaFault → Stretch A
stops f r = r ≡ Err f

-- a stretch, and where it goes on the next one
pub record Then {A B : Type 0} (first : Stretch A) (next : A → Stretch B) (r : Result B SchemaFault) : Type 0 where
  pub either : ((f : SchemaFault) × first (Err f) × (r ≡ Err f)) ⊎ ((a : A) × first (Ok a) × next a r)

-- a stretch that is not begun where a rule is broken
pub record Unless {A : Type 0} (is_broken : Bool) (f : SchemaFault) (m : Stretch A) (r : Result A SchemaFault) : Type 0 where
  pub either : ((is_broken ≡ true) × (r ≡ Err f)) ⊎ ((is_broken ≡ false) × m r)

-- each item in order
abbrev pub every : {A B : Type 0} → (A → Stretch B) → List A → Stretch (List B)
every act [] = goes []
every act (x ∷ xs) = Then (act x) (λ y. Then (every act xs) (λ ys. goes (y ∷ ys)))

-- each item in order, where an item changes what the later ones see
abbrev pub each : {S A B : Type 0} → (S → A → Stretch (S × B)) → S → List A → Stretch (S × List B)
each act s [] = goes (s, [])
each act s (x ∷ xs) = Then (act s x) (λ one. Then (each act one.0 xs) (λ more. goes (more.0, one.1 ∷ more.1)))

-- what is answered comes of the stretch; want of memory may be answered always
abbrev pub IsAnswered : {A : Type 0} → Stretch A → Result A SchemaError → Type 0
IsAnswered m (Ok a) = m (Ok a)
IsAnswered m (Err (Fault f)) = m (Err f)
IsAnswered m (Err Memory) = Unit {0}

pub record Answers {A : Type 0} (m : Stretch A) (result : Result A SchemaError) : Type 0 where
  pub given : IsAnswered m result
