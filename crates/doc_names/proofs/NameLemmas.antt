-- Names spelled by the words of a table: they stay when words are added, and each stands once.
use Rattle.std.proofs.Common.{◌≡◌, ℕ, ◌<◌, ◌≤◌, suc, zero, Bool, true, false, ◌&&◌, bytes_eq, eqb, eqb-true, eq-eqb, true≢false, List, [], ◌∷◌, ◌++◌, map, length, take, get_or, slice_get, None, Some, refl, sym, ap, ap₂, subst, ◌∙◌, inl, inr, ⊎_elim, arith, length-append}
use Rattle.std.specs.Prelude.{Result, Ok, Err, OnErr}
use Rattle.std.specs.List.{list_any}
use Rattle.std.proofs.lemmas.Slice.Eq.{bytes_eq-Decides}
use Rattle.indexmap.specs.IndexSet.{insert_key}
use Rattle.doc_names.specs.declared.names.NameKey.{NameKey}
use Rattle.doc_names.specs.Name.{Name, no_name, numbered}
use Rattle.doc_names.specs.inner.Keys.{spelled, KeyIsBelow, KeysAreBelow, Extends, KeyOf}
use Rattle.doc_names.specs.Numbering.{EachOnce, Numbered}
use Rattle.doc_names.proofs.NumberLemmas.{get-front}
use Rattle.doc_names.proofs.NumberLemmas.{map-push, map-length, map-some, map-none}

-- the name with a number is the one that its key spells; a number past the end has none
pub numbered-some : (words : List (List ℕ)) (keys : List NameKey) (id : ℕ) (key : NameKey) → slice_get keys id ≡ Some key →
    numbered (map (spelled words) keys) id ≡ spelled words key
numbered-some words keys id key h = map-some (spelled words) keys id no_name key h

pub numbered-none : (words : List (List ℕ)) (keys : List NameKey) (id : ℕ) → slice_get keys id ≡ None →
    numbered (map (spelled words) keys) id ≡ no_name
numbered-none words keys id h = map-none (spelled words) keys id no_name h

pub extends-same : (before after : List (List ℕ)) → after ≡ before → Extends before after
extends-same before after e = record { kept = λ i h. ap (λ ws. get_or ws i []) e; longer = omega (arith, ap length e) }

pub numbered-extends : (before after : List (List ℕ)) (word : List ℕ) (number : ℕ) → Numbered before after word number → Extends before after
numbered-extends before after word number n =
    ⊎_elim (λ (e : after ≡ before). extends-same before after e)
    (λ (e : (after ≡ before ++ word ∷ []) × (number ≡ length before)). let r : Extends before after = record {
      kept = λ i h. ap (λ ws. get_or ws i []) e.0 ∙ get-front before word [] i (λ same. absurd (omega arith));
      longer = omega (arith, ap length e.0, length-append before (word ∷ []));
    } in r) n.added

pub extends-then : (a b c : List (List ℕ)) → Extends a b → Extends b c → Extends a c
extends-then a b c f g = record {
  kept = λ i h. g.kept i (omega (arith, f.longer)) ∙ f.kept i h;
  longer = omega (arith, f.longer, g.longer);
}

pub get-of : (ws : List (List ℕ)) (i : ℕ) (w : List ℕ) → slice_get ws i ≡ Some w → (i < length ws) × (get_or ws i [] ≡ w)
get-of [] i w h = absurd (cc)
get-of (v ∷ ws) zero w h = (omega arith, (cc))
get-of (v ∷ ws) (suc i) w h = let r = get-of ws i w h in (omega (arith, r.0), r.1)

spelled-same : (before after : List (List ℕ)) (key : NameKey) → Extends before after → KeyIsBelow (length before) key → spelled after key ≡ spelled before key
spelled-same before after key e k = rw (e.kept key.prefix k.prefix, e.kept key.local k.local, e.kept key.uri k.uri) refl

-- names stay when words are added
pub names-kept : (before after : List (List ℕ)) (keys : List NameKey) → Extends before after → KeysAreBelow (length before) keys → map (spelled after) keys ≡ map (spelled before) keys
names-kept before after [] e k = refl
names-kept before after (key ∷ keys) e k = ap₂ (λ x xs. x ∷ xs) (spelled-same before after key e k.0) (names-kept before after keys e k.1)

pub below-more : (n m : ℕ) (keys : List NameKey) → n ≤ m → KeysAreBelow n keys → KeysAreBelow m keys
below-more n m [] h k = tt
below-more n m (key ∷ keys) h k =
    (record { prefix = omega (arith, k.0.prefix); local = omega (arith, k.0.local); uri = omega (arith, k.0.uri) }, below-more n m keys h k.1)

pub below-push : (n : ℕ) (keys : List NameKey) (key : NameKey) → KeysAreBelow n keys → KeyIsBelow n key → KeysAreBelow n (keys ++ key ∷ [])
below-push n [] key k new = (new, tt)
below-push n (x ∷ keys) key k new = (k.0, below-push n keys key k.1 new)

pub below-taken : (n m : ℕ) (keys : List NameKey) → KeysAreBelow n keys → KeysAreBelow n (take m keys)
below-taken n zero keys k = tt
below-taken n (suc m) [] k = tt
below-taken n (suc m) (key ∷ keys) k = (k.0, below-taken n m keys k.1)

get-map : {A B : Type 0} (f : A → B) (xs : List A) (i : ℕ) (x : A) → slice_get xs i ≡ Some x → slice_get (map f xs) i ≡ Some (f x)
get-map f [] i x h = absurd (cc)
get-map f (y ∷ xs) zero x h = ap Some (let e : y ≡ x = (cc) in ap f e)
get-map f (y ∷ xs) (suc i) x h = get-map f xs i x h

-- a use of a key is a use of what it spells
pub numbered-map : {A B : Type 0} (f : A → B) (xs ys : List A) (x : A) (i : ℕ) → Numbered xs ys x i → Numbered (map f xs) (map f ys) (f x) i
numbered-map f xs ys x i n = record {
  given = get-map f ys i x n.given;
  added = ⊎_elim (λ (e : ys ≡ xs). inl (ap (map f) e))
      (λ (e : (ys ≡ xs ++ x ∷ []) × (i ≡ length xs)). inr (ap (map f) e.0 ∙ map-push f xs x, e.1 ∙ sym (map-length f xs))) n.added;
}

key-at : (words : List (List ℕ)) (keys : List NameKey) (i : ℕ) (name : Name) → KeysAreBelow (length words) keys → slice_get (map (spelled words) keys) i ≡ Some name →
    (key : NameKey) × ((slice_get keys i ≡ Some key) × (spelled words key ≡ name) × KeyIsBelow (length words) key)
key-at words [] i name k h = absurd (cc)
key-at words (key ∷ keys) zero name k h = (key, (refl, (cc), k.0))
key-at words (key ∷ keys) (suc i) name k h = key-at words keys i name k.1 h

get-some : (ws : List (List ℕ)) (i : ℕ) → i < length ws → slice_get ws i ≡ Some (get_or ws i [])
get-some [] i h = absurd (omega arith)
get-some (w ∷ ws) zero h = refl
get-some (w ∷ ws) (suc i) h = get-some ws i (omega arith)

word-number : (words : List (List ℕ)) (i j : ℕ) → EachOnce words → i < length words → j < length words → get_or words i [] ≡ get_or words j [] → i ≡ j
word-number words i j once hi hj e = once i j (get_or words i []) (get-some words i hi) (get-some words j hj ∙ ap Some (sym e))

-- two words are the same where their numbers are
same-word : (words : List (List ℕ)) (i j : ℕ) → EachOnce words → i < length words → j < length words → eqb i j ≡ bytes_eq (get_or words i []) (get_or words j [])
same-word words i j once hi hj = by (eqb i j) refl
  where
    v : List ℕ
    v = get_or words i []

    w : List ℕ
    w = get_or words j []

    by : (t : Bool) → eqb i j ≡ t → t ≡ bytes_eq v w
    by true e = sym ((bytes_eq-Decides v w).1 (ap (λ k. get_or words k []) (eqb-true i j e)))
    by false e = other (bytes_eq v w) refl
      where
        other : (t : Bool) → bytes_eq v w ≡ t → false ≡ t
        other true h = absurd (true≢false (sym (eq-eqb i j (word-number words i j once hi hj ((bytes_eq-Decides v w).0 h))) ∙ e))
        other false h = refl

-- so names are one expanded name where the numbers of their namespaces and local parts are
same-expanded : (words : List (List ℕ)) (a b : NameKey) → EachOnce words → KeyIsBelow (length words) a → KeyIsBelow (length words) b →
    (eqb a.uri b.uri && eqb a.local b.local) ≡ (bytes_eq (spelled words a).uri (spelled words b).uri && bytes_eq (spelled words a).local (spelled words b).local)
same-expanded words a b once ha hb = ap₂ (λ x y. x && y) (same-word words a.uri b.uri once ha.uri hb.uri) (same-word words a.local b.local once ha.local hb.local)

key-below : (n : ℕ) (keys : List NameKey) (i : ℕ) (key : NameKey) → KeysAreBelow n keys → slice_get keys i ≡ Some key → KeyIsBelow n key
key-below n [] i key k h = absurd (cc)
key-below n (x ∷ keys) zero key k h = let same : x ≡ key = (cc) in subst (KeyIsBelow n) same k.0
key-below n (x ∷ keys) (suc i) key k h = key-below n keys i key k.1 h

pub one-expanded : (words : List (List ℕ)) (keys : List NameKey) (i j : ℕ) (a b : NameKey) → EachOnce words → KeysAreBelow (length words) keys →
    slice_get keys i ≡ Some a → slice_get keys j ≡ Some b → (eqb a.uri b.uri && eqb a.local b.local) ≡
    (bytes_eq (numbered (map (spelled words) keys) i).uri (numbered (map (spelled words) keys) j).uri
    && bytes_eq (numbered (map (spelled words) keys) i).local (numbered (map (spelled words) keys) j).local)
one-expanded words keys i j a b once below at_i at_j =
    rw (numbered-some words keys i a at_i, numbered-some words keys j b at_j)
    (same-expanded words a b once (key-below (length words) keys i a below at_i) (key-below (length words) keys j b below at_j))

-- no name stands twice
pub names-once : (words : List (List ℕ)) (keys : List NameKey) → EachOnce words → EachOnce keys → KeysAreBelow (length words) keys → EachOnce (map (spelled words) keys)
names-once words keys once keys_once k i j name hi hj =
    let a = key-at words keys i name k hi in
    let b = key-at words keys j name k hj in
    let same : spelled words a.0 ≡ spelled words b.0 = a.1.1 ∙ sym b.1.1 in
    let prefix : a.0.prefix ≡ b.0.prefix = word-number words a.0.prefix b.0.prefix once a.1.2.prefix b.1.2.prefix (ap (λ n. n.prefix) same) in
    let local : a.0.local ≡ b.0.local = word-number words a.0.local b.0.local once a.1.2.local b.1.2.local (ap (λ n. n.local) same) in
    let uri : a.0.uri ≡ b.0.uri = word-number words a.0.uri b.0.uri once a.1.2.uri b.1.2.uri (ap (λ n. n.uri) same) in
    let key : a.0 ≡ b.0 = λ t. record { prefix = prefix t; local = local t; uri = uri t } in
    keys_once i j a.0 a.1.0 (b.1.0 ∙ ap Some (sym key))

-- a key of three words, each given its number while the words grow
pub key-of : (w0 w1 w2 w3 : List (List ℕ)) (prefix local uri : List ℕ) (p l u : ℕ) → Numbered w0 w1 prefix p → Numbered w1 w2 local l → Numbered w2 w3 uri u →
    KeyOf w3 (record { prefix = prefix; local = local; uri = uri }) (record { prefix = p; local = l; uri = u })
key-of w0 w1 w2 w3 prefix local uri p l u a b c =
    let f : Extends w1 w2 = numbered-extends w1 w2 local l b in
    let g : Extends w2 w3 = numbered-extends w2 w3 uri u c in
    let h : Extends w1 w3 = extends-then w1 w2 w3 f g in
    let x = get-of w1 p prefix a.given in
    let y = get-of w2 l local b.given in
    let z = get-of w3 u uri c.given in
    record {
      spells = rw (h.kept p x.0 ∙ x.1, g.kept l y.0 ∙ y.1, z.1) refl;
      is_below = record { prefix = omega (arith, x.0, h.longer); local = omega (arith, y.0, g.longer); uri = z.0 };
    }

pub below-insert : (n : ℕ) (eq : NameKey → NameKey → Bool) (keys : List NameKey) (key : NameKey) → KeysAreBelow n keys → KeyIsBelow n key → KeysAreBelow n (insert_key eq keys key)
below-insert n eq keys key k new = by (list_any (eq key) keys) refl
  where
    by : (t : Bool) → list_any (eq key) keys ≡ t → KeysAreBelow n (insert_key eq keys key)
    by true e = rw e k
    by false e = rw e (below-push n keys key k new)

-- a fact holds for an Err where it holds at all
pub on_err : {T E : Type 0} (r : Result T E) (P : Type 0) → P → OnErr r P
on_err (Ok x) P p = tt
on_err (Err e) P p = p
