-- Names that are used once.
use Rattle.std.proofs.Common.{◌≡◌, ℕ, Bool, true, false, ◌&&◌, ◌||◌, ◌==◌, cond, List, [], ◌∷◌, ◌++◌, None, Some, map, refl, sym, ap, ap₂, ◌∙◌, subst, append-nil, append_assoc}
use Rattle.std.specs.List.{AllByRecursion, IsDistinct, flat_map}
use Rattle.std.specs.Str.{bytes_eq}
use Rattle.std.proofs.lemmas.Bool.{and_right}
use Rattle.std.proofs.lemmas.List.Folds.{list_any-append}
use Rattle.std.proofs.lemmas.Slice.Eq.{bytes_eq-Decides}
use Rattle.sch_rules.specs.declared.named.Named.{Named}
use Rattle.sch_rules.specs.Keys.{Key, is_taken, kind_rank, same_key}
use Rattle.sch_rules.specs.Rules.{first_taken}
use Rattle.sch_flat_laws.specs.Readable.{Each}

-- each name is used before neither these nor those before it
abbrev pub AllNew : List Key → List Key → Type 0
AllNew taken [] = Unit {0}
AllNew taken (key ∷ keys) = (is_taken taken key ≡ false) × AllNew (taken ++ key ∷ []) keys

pub or_parts : (a b : Bool) → (a || b) ≡ false → (a ≡ false) × (b ≡ false)
or_parts true b h = absurd (cc)
or_parts false b h = (refl, h)

-- what is not used among more names is not used among fewer
taken-less : (taken more : List Key) (key : Key) → is_taken (taken ++ more) key ≡ false → is_taken taken key ≡ false
taken-less taken more key h = (or_parts (is_taken taken key) (is_taken more key) (sym (list_any-append (same_key key) taken more) ∙ h)).0

first-of : (taken more xs ys : List Key) → AllNew (taken ++ more) (xs ++ ys) → first_taken taken xs ≡ None
first-of taken more [] ys new = refl
first-of taken more (key ∷ xs) ys new =
    ap (λ (b : Bool). cond b (Some key.name) (first_taken taken xs)) (taken-less taken more key new.0)
    ∙ first-of taken (more ++ key ∷ []) xs ys (subst (λ (keys : List Key). AllNew keys (xs ++ ys)) (append_assoc taken more (key ∷ [])) new.1)

-- the first of new names are not used
pub new_first : (taken xs ys : List Key) → AllNew taken (xs ++ ys) → first_taken taken xs ≡ None
new_first taken xs ys new = first-of taken [] xs ys (subst (λ (keys : List Key). AllNew keys (xs ++ ys)) (sym (append-nil taken)) new)

pub new_rest : (taken xs ys : List Key) → AllNew taken (xs ++ ys) → AllNew (taken ++ xs) ys
new_rest taken [] ys new = subst (λ (keys : List Key). AllNew keys ys) (sym (append-nil taken)) new
new_rest taken (key ∷ xs) ys new = subst (λ (keys : List Key). AllNew keys ys) (append_assoc taken (key ∷ []) xs) (new_rest (taken ++ key ∷ []) xs ys new.1)

pub new_append : (taken xs ys : List Key) → AllNew taken xs → AllNew (taken ++ xs) ys → AllNew taken (xs ++ ys)
new_append taken [] ys first last = subst (λ (keys : List Key). AllNew keys ys) (append-nil taken) last
new_append taken (key ∷ xs) ys first last =
    (first.0, new_append (taken ++ key ∷ []) xs ys first.1 (subst (λ (keys : List Key). AllNew keys ys) (sym (append_assoc taken (key ∷ []) xs)) last))

-- a name of the whole schema
abbrev pub key_of : Named → List ℕ → Key
key_of kind name = record { kind = kind; within = 0; name = name }

abbrev pub keys_of_kind : Named → List (List ℕ) → List Key
keys_of_kind kind names = map (key_of kind) names

pub apart_sym : (x y : List ℕ) → bytes_eq x y ≡ false → bytes_eq y x ≡ false
apart_sym x y h = by (bytes_eq y x) refl
  where
    by : (b : Bool) → bytes_eq y x ≡ b → bytes_eq y x ≡ false
    by true e =
        let same : y ≡ x = (bytes_eq-Decides y x).0 e in
        let yes : bytes_eq x y ≡ true = (bytes_eq-Decides x y).1 (sym same) in
        absurd (cc)
    by false e = e

pub untaken_append : (a b : List Key) (key : Key) → is_taken a key ≡ false → is_taken b key ≡ false → is_taken (a ++ b) key ≡ false
untaken_append a b key h k = list_any-append (same_key key) a b ∙ ap₂ (λ x y. x || y) h k

-- names of one kind that differ
new-later : (kind : Named) (taken : List Key) (x : List ℕ) (names : List (List ℕ)) → Each (λ (name : List ℕ). is_taken taken (key_of kind name) ≡ false) names →
    AllByRecursion (λ (y : List ℕ). bytes_eq x y ≡ false) names → Each (λ (name : List ℕ). is_taken (taken ++ key_of kind x ∷ []) (key_of kind name) ≡ false) names
new-later kind taken x [] free differ = tt
new-later kind taken x (y ∷ names) free differ = (
  untaken_append taken (key_of kind x ∷ []) (key_of kind y) free.0
      (ap (λ (b : Bool). b || false) (and_right (kind_rank kind == kind_rank kind) (bytes_eq y x) (apart_sym x y differ.0))),
  new-later kind taken x names free.1 differ.1,
)

pub new_kind : (kind : Named) (taken : List Key) (names : List (List ℕ)) → Each (λ (name : List ℕ). is_taken taken (key_of kind name) ≡ false) names →
    IsDistinct bytes_eq names → AllNew taken (keys_of_kind kind names)
unfolding IsDistinct
new_kind kind taken [] free differ = tt
new_kind kind taken (x ∷ names) free differ =
    (free.0, new_kind kind (taken ++ key_of kind x ∷ []) names (new-later kind taken x names free.1 differ.0) differ.1)

-- names of another kind are none of it
pub other_kind : (kind other : Named) → (kind_rank kind == kind_rank other) ≡ false → (names : List (List ℕ)) (name : List ℕ) → is_taken (keys_of_kind other names) (key_of kind name) ≡ false
other_kind kind other differ [] name = refl
other_kind kind other differ (x ∷ names) name =
    ap (λ (b : Bool). (b && bytes_eq name x) || is_taken (keys_of_kind other names) (key_of kind name)) differ ∙ other_kind kind other differ names name

pub all_free : (kind : Named) (taken : List Key) → ((name : List ℕ) → is_taken taken (key_of kind name) ≡ false) → (names : List (List ℕ)) →
    Each (λ (name : List ℕ). is_taken taken (key_of kind name) ≡ false) names
all_free kind taken free [] = tt
all_free kind taken free (name ∷ names) = (free name, all_free kind taken free names)

pub keys_append : (kind : Named) (a b : List (List ℕ)) → keys_of_kind kind (a ++ b) ≡ keys_of_kind kind a ++ keys_of_kind kind b
keys_append kind [] b = refl
keys_append kind (name ∷ a) b = ap (λ l. key_of kind name ∷ l) (keys_append kind a b)

-- the names of items, one item after another
pub keys_over : {A : Type 0} (kind : Named) (names : A → List (List ℕ)) (xs : List A) → flat_map (λ (x : A). keys_of_kind kind (names x)) xs ≡ keys_of_kind kind (flat_map names xs)
keys_over kind names [] = refl
keys_over kind names (x ∷ xs) =
    ap (λ l. keys_of_kind kind (names x) ++ l) (keys_over kind names xs) ∙ sym (keys_append kind (names x) (flat_map names xs))

pub one_each : {A : Type 0} (name : A → List ℕ) (xs : List A) → flat_map (λ (x : A). name x ∷ []) xs ≡ map name xs
one_each name [] = refl
one_each name (x ∷ xs) = ap (λ l. name x ∷ l) (one_each name xs)
