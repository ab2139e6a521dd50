-- Ids as they are kept.
use Rattle.std.proofs.Common.{◌≡◌, ℕ, ◌+◌, ◌<◌, ◌≤◌, Bool, true, false, cond, ◌||◌, List, [], ◌∷◌, ◌++◌, map, length, take, slice_index_or, refl, sym, ap, ◌∙◌, string_bytes, String, Global}
use Rattle.std.specs.List.{flat_map, list_any}
use Rattle.std.specs.String.{string_eq}
use Rattle.std.specs.Str.{bytes_eq}
use Rattle.std.proofs.lemmas.List.Folds.{list_any-append}
use Rattle.std.proofs.lemmas.Slice.Eq.{bytes_eq-Decides}
use Rattle.indexmap.specs.IndexSet.{insert_key}
use Rattle.sch_references.specs.References.{is_among}
use Rattle.sch_references.specs.inner.KnownIds.{with_ids}
use Rattle.sch_references.proofs.WalkLemmas.{all_taken, flat_map-next}

pub with-nothing : (test : List ℕ → Bool) → with_ids test [] ≡ test
with-nothing test = λ t name. or-false (test name) t
  where
    or-false : (b : Bool) → (b || false) ≡ b
    or-false true = refl
    or-false false = refl

with-append : (test : List ℕ → Bool) (xs ys : List (List ℕ)) → with_ids test (xs ++ ys) ≡ with_ids (with_ids test xs) ys
with-append test xs ys = λ t name. by (test name) name t
  where
    by : (b : Bool) (name : List ℕ) → (b || is_among (xs ++ ys) name) ≡ ((b || is_among xs name) || is_among ys name)
    by true name = refl
    by false name = list_any-append (bytes_eq name) xs ys

-- a walk so far, one item more, and all items
pub among-next : (test : List ℕ → Bool) {A : Type 0} (g : A → List (List ℕ)) (xs : List A) (i : ℕ) (x : A) (now new : List (List ℕ)) → x ≡ slice_index_or xs i x → i < length xs →
    is_among now ≡ with_ids test (flat_map g (take i xs)) → is_among new ≡ with_ids (is_among now) (g x) → is_among new ≡ with_ids test (flat_map g (take (i + 1) xs))
among-next test g xs i x now new is less so_far here =
    here
    ∙ ap (λ known. with_ids known (g x)) so_far
    ∙ sym (with-append test (flat_map g (take i xs)) (g x))
    ∙ ap (with_ids test) (sym (flat_map-next g xs i x is less))

pub among-all : (test : List ℕ → Bool) {A : Type 0} (g : A → List (List ℕ)) (xs : List A) (i : ℕ) (now : List (List ℕ)) → length xs ≤ i → i ≤ length xs →
    is_among now ≡ with_ids test (flat_map g (take i xs)) → is_among now ≡ with_ids test (flat_map g xs)
among-all test g xs i now least most so_far = so_far ∙ ap (λ ys. with_ids test (flat_map g ys)) (all_taken xs i least most)

-- a name is found where one is kept with the same bytes
pub among-kept : (name : List ℕ) (keys : List (String Global)) → list_any (λ k. bytes_eq name (string_bytes k)) keys ≡ is_among (map string_bytes keys) name
among-kept name [] = refl
among-kept name (k ∷ keys) = ap (λ b. bytes_eq name (string_bytes k) || b) (among-kept name keys)

-- an id that is there already adds nothing
same-name : (name : List ℕ) (id : List ℕ) (ids : List (List ℕ)) → is_among ids id ≡ true → is_among ids name ≡ (is_among ids name || (bytes_eq name id || false))
same-name name id ids there = by (bytes_eq name id) (is_among ids name) refl refl
  where
    by : (a b : Bool) → bytes_eq name id ≡ a → is_among ids name ≡ b → b ≡ (b || (a || false))
    by a true e f = refl
    by false false e f = refl
    by true false e f = let same : name ≡ id = (bytes_eq-Decides name id).0 e in let h : is_among ids name ≡ true = rw same there in absurd (cc)

pub among-inserted : (key : String Global) (keys : List (String Global)) →
    is_among (map string_bytes (insert_key string_eq keys key)) ≡ with_ids (is_among (map string_bytes keys)) (string_bytes key ∷ [])
among-inserted key keys = λ t name. by name (list_any (string_eq key) keys) refl t
  where
    kept : list_any (string_eq key) keys ≡ is_among (map string_bytes keys) (string_bytes key)
    kept = among-kept (string_bytes key) keys

    mapped : map string_bytes (keys ++ key ∷ []) ≡ map string_bytes keys ++ string_bytes key ∷ []
    mapped = over keys
      where
        over : (keys : List (String Global)) → map string_bytes (keys ++ key ∷ []) ≡ map string_bytes keys ++ string_bytes key ∷ []
        over [] = refl
        over (k ∷ keys) = ap (λ l. string_bytes k ∷ l) (over keys)

    by : (name : List ℕ) (b : Bool) → list_any (string_eq key) keys ≡ b →
        is_among (map string_bytes (cond b keys (keys ++ key ∷ []))) name ≡ with_ids (is_among (map string_bytes keys)) (string_bytes key ∷ []) name
    by name true e = same-name name (string_bytes key) (map string_bytes keys) (sym kept ∙ e)
    by name false e = ap (λ ids. is_among ids name) mapped ∙ list_any-append (bytes_eq name) (map string_bytes keys) (string_bytes key ∷ [])
