-- Rules that are found by their ids.
use Rattle.std.proofs.Common.{◌≡◌, ℕ, ◌+◌, ◌<◌, Bool, true, false, cond, not, ◌||◌, List, [], ◌∷◌, ◌++◌, Option, None, Some, map, length, refl, sym, ap, ap₂, ◌∙◌, subst, true≢false, arith, nat_lt, ltb-true, one-add, string_bytes, String, Global}
use Rattle.std.specs.Prelude.{IfSome}
use Rattle.std.specs.List.{list_any, position, position_or_len}
use Rattle.std.specs.Option.{option_to_list}
use Rattle.std.specs.String.{string_eq}
use Rattle.std.specs.Str.{bytes_eq}
use Rattle.std.proofs.lemmas.Slice.Eq.{bytes_eq-Decides}
use Rattle.indexmap.specs.IndexSet.{insert_key}
use Rattle.sch_model.specs.declared.raw.RawRule.{RawRule}
use Rattle.sch_references.specs.Extends.{is_id, is_named}
use Rattle.sch_references.specs.Placed.{IsPlaceOf}

-- the ids of the rules are the keys
abbrev pub Kept : List RawRule → List (String Global) → Type 0
Kept rules keys = map (λ rule. rule.id) rules ≡ map (λ id. Some (string_bytes id)) keys

pub named-kept : (name : List ℕ) (rules : List RawRule) (keys : List (String Global)) → Kept rules keys →
    list_any (λ k. bytes_eq name (string_bytes k)) keys ≡ is_named rules name
named-kept name [] [] h = refl
named-kept name [] (k ∷ keys) h = absurd (cc)
named-kept name (r ∷ rules) [] h = absurd (cc)
named-kept name (r ∷ rules) (k ∷ keys) h =
    let here : Some (string_bytes k) ≡ r.id = cc in
    let rest : Kept rules keys = cc in
    ap₂ (λ (o : Option (List ℕ)) (b : Bool). is_id name o || b) here (named-kept name rules keys rest)

map-push : {A B : Type 0} (f : A → B) (xs : List A) (x : A) → map f (xs ++ x ∷ []) ≡ map f xs ++ f x ∷ []
map-push f [] x = refl
map-push f (y ∷ xs) x = ap (λ l. f y ∷ l) (map-push f xs x)

-- a rule with a new id is kept beside the others
pub kept-push : {A : Type 0} (now : A → RawRule) (refs : List A) (ref : A) (keys : List (String Global)) (key : String Global) → Kept (map now refs) keys →
    (now ref).id ≡ Some (string_bytes key) → is_named (map now refs) (string_bytes key) ≡ false → Kept (map now (refs ++ ref ∷ [])) (insert_key string_eq keys key)
kept-push now refs ref keys key kept is new =
    by (list_any (string_eq key) keys) refl
  where
    by : (b : Bool) → list_any (string_eq key) keys ≡ b → map (λ rule. rule.id) (map now (refs ++ ref ∷ [])) ≡ map (λ id. Some (string_bytes id)) (cond b keys (keys ++ key ∷ []))
    by true e = absurd (true≢false (sym e ∙ named-kept (string_bytes key) (map now refs) keys kept ∙ new))
    by false e =
        ap (map (λ rule. rule.id)) (map-push now refs ref)
        ∙ map-push (λ rule. rule.id) (map now refs) (now ref)
        ∙ ap₂ (λ ids id. ids ++ id ∷ []) kept is
        ∙ sym (map-push (λ id. Some (string_bytes id)) keys key)

position-is : {A : Type 0} (test : A → Bool) (xs : List A) (i : ℕ) → position test xs ≡ Some i → (position_or_len test xs ≡ i) × (position_or_len test xs < length xs)
position-is test xs i h = by (nat_lt (position_or_len test xs) (length xs)) refl h
  where
    by : (t : Bool) → nat_lt (position_or_len test xs) (length xs) ≡ t → cond t (Some (position_or_len test xs)) None ≡ Some i → (position_or_len test xs ≡ i) × (position_or_len test xs < length xs)
    by true e h = ((cc), ltb-true (position_or_len test xs) (length xs) e)
    by false e h = absurd (cc)

first-place : (name : List ℕ) (rules : List RawRule) (keys : List (String Global)) → Kept rules keys →
    position_or_len (λ k. bytes_eq name (string_bytes k)) keys < length keys → IsPlaceOf rules name (position_or_len (λ k. bytes_eq name (string_bytes k)) keys)
first-place name rules [] kept less = absurd (omega arith)
first-place name [] (k ∷ keys) kept less = absurd (cc)
first-place name (r ∷ rules) (k ∷ keys) kept less =
    let here : r.id ≡ Some (string_bytes k) = cc in
    let rest : Kept rules keys = cc in
    by (position_or_len (λ k. bytes_eq name (string_bytes k)) keys) here (bytes_eq name (string_bytes k)) refl less (first-place name rules keys rest)
  where
    by : (after : ℕ) → r.id ≡ Some (string_bytes k) → (t : Bool) → bytes_eq name (string_bytes k) ≡ t → cond (not t) (1 + after) 0 < length (k ∷ keys) →
        (after < length keys → IsPlaceOf rules name after) → IsPlaceOf (r ∷ rules) name (cond (not t) (1 + after) 0)
    by after here true e less more =
        let same : name ≡ string_bytes k = (bytes_eq-Decides name (string_bytes k)).0 e in
        let named : is_id name r.id ≡ true = ap (is_id name) here ∙ e in
        record {
          within = omega arith;
          id = λ rule h. let it : r ≡ rule = (cc) in ap (λ (x : RawRule). x.id) (sym it) ∙ here ∙ ap Some (sym same);
          items = λ rule h. let it : r ≡ rule = (cc) in rw named (ap (λ (x : RawRule). x.items) it);
          first = refl;
        }
    by after here false e less more =
        let named : is_id name r.id ≡ false = ap (is_id name) here ∙ e in
        let place = more (omega (arith, less)) in
        rw one-add (record {
          within = omega (arith, place.within);
          id = λ rule h. place.id rule h;
          items = λ rule h. rw named (place.items rule h);
          first = rw named place.first;
        })

-- what a search by the id gives
pub found-place : (name : List ℕ) (rules : List RawRule) (keys : List (String Global)) (r : Option ℕ) → Kept rules keys →
    r ≡ position (λ k. bytes_eq name (string_bytes k)) keys → IfSome r (IsPlaceOf rules name)
found-place name rules keys None kept h = tt
found-place name rules keys (Some i) kept h =
    let p = position-is (λ k. bytes_eq name (string_bytes k)) keys i (sym h) in
    subst (IsPlaceOf rules name) p.0 (first-place name rules keys kept p.1)

-- none has a new id
pub not-named : (rules : List RawRule) (id : Option (List ℕ)) (name : List ℕ) → id ≡ Some name → list_any (is_named rules) (option_to_list id) ≡ false → is_named rules name ≡ false
not-named rules id name is h = by (is_named rules name) (rw is at h)
  where
    by : (b : Bool) → (b || false) ≡ false → b ≡ false
    by true h = h
    by false h = refl
