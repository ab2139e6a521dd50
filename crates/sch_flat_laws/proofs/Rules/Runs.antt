-- Lists of which another list leaves some items out, and names that differ.
use Rattle.std.proofs.Common.{◌≡◌, ℕ, Bool, true, false, ◌&&◌, ◌==◌, ◌⊎◌, inl, inr, ⊎_elim, List, [], ◌∷◌, ◌++◌, refl, sym, ap, ◌∙◌, subst, append_assoc}
use Rattle.std.specs.List.{AllByRecursion, IsDistinct}
use Rattle.std.specs.Str.{bytes_eq}
use Rattle.std.proofs.lemmas.List.Folds.{list_any-append}
use Rattle.sch_rules.specs.declared.named.Named.{Named}
use Rattle.sch_rules.specs.Keys.{Key, is_taken, kind_rank, same_key}
use Rattle.sch_flat_laws.specs.Readable.{Each}
use Rattle.sch_flat_laws.proofs.Rules.KeyLemmas.{AllNew, apart_sym, key_of, keys_of_kind, or_parts}

-- the first list is the second with some items left out
abbrev pub Within : {A : Type 0} → List A → List A → Type 0
Within [] ys = Unit {0}
Within (x ∷ xs) [] = ⊥
Within (x ∷ xs) (y ∷ ys) = ((x ≡ y) × Within xs ys) ⊎ Within (x ∷ xs) ys

pub within_front : {A : Type 0} (xs more : List A) → Within xs (xs ++ more)
within_front [] more = tt
within_front (x ∷ xs) more = inl (refl, within_front xs more)

pub within_more : {A : Type 0} (xs ys more : List A) → Within xs ys → Within xs (ys ++ more)
within_more [] ys more h = tt
within_more (x ∷ xs) [] more h = absurd h
within_more (x ∷ xs) (y ∷ ys) more h =
    ⊎_elim (λ (same : (x ≡ y) × Within xs ys). inl (same.0, within_more xs ys more same.1)) (λ (rest : Within (x ∷ xs) ys). inr (within_more (x ∷ xs) ys more rest)) h

pub within_later : {A : Type 0} (xs before ys : List A) → Within xs ys → Within xs (before ++ ys)
within_later xs [] ys h = h
within_later [] (b ∷ before) ys h = tt
within_later (x ∷ xs) (b ∷ before) ys h = inr (within_later (x ∷ xs) before ys h)

pub within_both : {A : Type 0} (front xs back ys : List A) → Within front xs → Within back ys → Within (front ++ back) (xs ++ ys)
within_both [] xs back ys h k = within_later back xs ys k
within_both (a ∷ front) [] back ys h k = absurd h
within_both (a ∷ front) (x ∷ xs) back ys h k =
    ⊎_elim (λ (same : (a ≡ x) × Within front xs). inl (same.0, within_both front xs back ys same.1 k)) (λ (rest : Within (a ∷ front) xs). inr (within_both (a ∷ front) xs back ys rest k)) h

each_within : {A : Type 0} (P : A → Type 0) (xs ys : List A) → Within xs ys → Each P ys → Each P xs
each_within P [] ys h each = tt
each_within P (x ∷ xs) [] h each = absurd h
each_within P (x ∷ xs) (y ∷ ys) h each =
    ⊎_elim (λ (same : (x ≡ y) × Within xs ys). (subst P (sym same.0) each.0, each_within P xs ys same.1 each.1))
    (λ (rest : Within (x ∷ xs) ys). each_within P (x ∷ xs) ys rest each.1) h

-- names each of which is another than those after it
abbrev pub Differ : List Key → Type 0
Differ [] = Unit {0}
Differ (key ∷ keys) = Each (λ (later : Key). same_key later key ≡ false) keys × Differ keys

later-differ : (a b : List Key) (key : Key) (keys : List Key) → AllNew (a ++ key ∷ b) keys → Each (λ (later : Key). same_key later key ≡ false) keys
later-differ a b key [] new = tt
later-differ a b key (later ∷ keys) new =
    let parts = or_parts (is_taken a later) (is_taken (key ∷ b) later) (sym (list_any-append (same_key later) a (key ∷ b)) ∙ new.0) in
    let own = or_parts (same_key later key) (is_taken b later) parts.1 in
    (own.0, later-differ a (b ++ later ∷ []) key keys (subst (λ (l : List Key). AllNew l keys) (append_assoc a (key ∷ b) (later ∷ [])) new.1))

pub new_differ : (taken keys : List Key) → AllNew taken keys → Differ keys
new_differ taken [] new = tt
new_differ taken (key ∷ keys) new = (later-differ taken [] key keys new.1, new_differ (taken ++ key ∷ []) keys new.1)

pub differ_within : (xs ys : List Key) → Within xs ys → Differ ys → Differ xs
differ_within [] ys h differ = tt
differ_within (x ∷ xs) [] h differ = absurd h
differ_within (x ∷ xs) (y ∷ ys) h differ =
    ⊎_elim
    (λ (same : (x ≡ y) × Within xs ys). (
      subst (λ (key : Key). Each (λ (later : Key). same_key later key ≡ false) xs) (sym same.0) (each_within (λ (later : Key). same_key later y ≡ false) xs ys same.1 differ.0),
      differ_within xs ys same.1 differ.1,
    ))
    (λ (rest : Within (x ∷ xs) ys). differ_within (x ∷ xs) ys rest differ.1) h

-- names of one kind
differ-from : (kind : Named) → (kind_rank kind == kind_rank kind) ≡ true → (x : List ℕ) (names : List (List ℕ)) → Each (λ (later : Key). same_key later (key_of kind x) ≡ false) (keys_of_kind kind names) →
    AllByRecursion (λ (y : List ℕ). bytes_eq x y ≡ false) names
differ-from kind one x [] differ = tt
differ-from kind one x (y ∷ names) differ =
    (apart_sym y x (ap (λ (b : Bool). b && bytes_eq y x) (sym one) ∙ differ.0), differ-from kind one x names differ.1)

pub kind_distinct : (kind : Named) → (kind_rank kind == kind_rank kind) ≡ true → (names : List (List ℕ)) → Differ (keys_of_kind kind names) → IsDistinct bytes_eq names
unfolding IsDistinct
kind_distinct kind one [] differ = tt
kind_distinct kind one (x ∷ names) differ = (differ-from kind one x names differ.0, kind_distinct kind one names differ.1)
