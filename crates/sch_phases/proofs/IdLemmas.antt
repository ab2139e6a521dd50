-- Ids as they are kept.
use Rattle.std.proofs.Common.{◌≡◌, ℕ, ◌+◌, ◌<◌, ◌≤◌, length, drop, get_or, Bool, true, false, cond, ◌||◌, List, [], ◌∷◌, ◌++◌, refl, sym, ap, ◌∙◌, String, Global}
use Rattle.std.proofs.lemmas.List.{drop_all}
use Rattle.std.specs.List.{list_any}
use Rattle.std.specs.Str.{bytes_eq}
use Rattle.std.specs.String.{string_bytes, string_eq}
use Rattle.std.proofs.lemmas.List.Folds.{list_any-append}
use Rattle.std.proofs.lemmas.Slice.Eq.{bytes_eq-Decides}
use Rattle.indexmap.specs.IndexSet.{insert_key}
use Rattle.sch_base.proofs.Lists.{drop-at}
use Rattle.sch_model.specs.declared.parts.Active.{Active}
use Rattle.sch_phases.specs.Phases.{is_active}
use Rattle.sch_phases.specs.inner.Ids.{has_id}

-- an id that is there already adds nothing
pub id-inserted : (key : String Global) (keys : List (String Global)) (id : List ℕ) (b : Bool) →
    (has_id (insert_key string_eq keys key) id || b) ≡ (has_id keys id || (bytes_eq id (string_bytes key) || b))
id-inserted key keys id b = by (list_any (string_eq key) keys) refl
  where
    there : list_any (string_eq key) keys ≡ true → (h q : Bool) → has_id keys id ≡ h → bytes_eq id (string_bytes key) ≡ q → (h || b) ≡ (h || (q || b))
    there e true q eh eq = refl
    there e false false eh eq = refl
    there e false true eh eq =
        let same : id ≡ string_bytes key = (bytes_eq-Decides id (string_bytes key)).0 eq in
        let h : has_id keys id ≡ true = rw same e in
        absurd (cc)

    around : (h q : Bool) → ((h || (q || false)) || b) ≡ (h || (q || b))
    around true q = refl
    around false true = refl
    around false false = refl

    by : (c : Bool) → list_any (string_eq key) keys ≡ c → (has_id (cond c keys (keys ++ key ∷ [])) id || b) ≡ (has_id keys id || (bytes_eq id (string_bytes key) || b))
    by true e = there e (has_id keys id) (bytes_eq id (string_bytes key)) refl refl
    by false e =
        ap (λ h. h || b) (list_any-append (λ k. bytes_eq id (string_bytes k)) keys (key ∷ []))
        ∙ around (has_id keys id) (bytes_eq id (string_bytes key))

or-false : (b : Bool) → (b || false) ≡ b
or-false true = refl
or-false false = refl

-- a walk over what a phase names: one more, and all
pub ids-next : (key : String Global) (keys now : List (String Global)) (active : List Active) (i : ℕ) (a : Active) → i < length active → a ≡ get_or active i a →
    string_bytes key ≡ a.pattern → now ≡ insert_key string_eq keys key →
    ((id : List ℕ) → (has_id keys id || is_active (drop i active) id) ≡ is_active active id) →
    (id : List ℕ) → (has_id now id || is_active (drop (i + 1) active) id) ≡ is_active active id
ids-next key keys now active i a less is same inserted so_far id =
    ap (λ k. has_id k id || is_active (drop (i + 1) active) id) inserted
    ∙ id-inserted key keys id (is_active (drop (i + 1) active) id)
    ∙ ap (λ k. has_id keys id || (bytes_eq id k || is_active (drop (i + 1) active) id)) same
    ∙ ap (λ l. has_id keys id || is_active l id) (sym (drop-at active i a is less))
    ∙ so_far id

pub ids-all : (keys : List (String Global)) (active : List Active) (i : ℕ) → length active ≤ i →
    ((id : List ℕ) → (has_id keys id || is_active (drop i active) id) ≡ is_active active id) → has_id keys ≡ is_active active
ids-all keys active i least so_far =
    λ t id. (sym (or-false (has_id keys id)) ∙ ap (λ l. has_id keys id || is_active l id) (sym (drop_all i active least)) ∙ so_far id) t
