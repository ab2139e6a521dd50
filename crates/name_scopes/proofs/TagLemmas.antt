-- Tests along lists of attributes.
use Rattle.std.proofs.Common.{◌≡◌, ◌≢◌, ℕ, ◌+◌, ◌<◌, suc, zero, Bool, true, false, cond, ◌&&◌, ◌||◌, List, [], ◌∷◌, ◌++◌, length, map, get_or, take, drop, slice_get, Some, refl, sym, ap, ap₂, ◌∙◌, subst, ⊎_elim, true≢false, arith, append-nil}
use Rattle.std.proofs.Math.Bool.{or-true, or-false}
use Rattle.std.proofs.lemmas.List.Folds.{list_any-append}
use Rattle.std.proofs.lemmas.Bool.{or_parts}
use Rattle.std.specs.List.{list_any, filter}
use Rattle.std.proofs.lemmas.List.{drop_more, take_more, take-append-drop}
use Rattle.std.proofs.lemmas.List.Elements.{filter-append}
use Rattle.doc_tree.specs.Numbering.{EachOnce, Numbered}
use Rattle.doc_tree.specs.Table.{Name}
use Rattle.doc_tree.specs.Scope.{Decl}
use Rattle.pyx_core.specs.declared.event.Attr.{Attr}
use Rattle.std.specs.Str.{bytes_eq}
use Rattle.std.proofs.lemmas.Slice.Eq.{bytes_eq-Decides}
use Rattle.name_scopes.specs.DocFaults.{has_pair, same_qname, same_expanded, expanded_attr}

-- two that are the same, in a list with one more at its end
module _ {X : Type 0} (same : X → X → Bool) where
  pub pair-more : (xs : List X) (x : X) → has_pair same (xs ++ x ∷ []) ≡ (has_pair same xs || list_any (λ a. same a x) xs)
  pair-more [] x = refl
  pair-more (y ∷ xs) x =
      ap₂ (λ a b. a || b) (list_any-append (same y) xs (x ∷ []) ∙ ap (λ b. list_any (same y) xs || b) (or-false (same y x))) (pair-more xs x)
      ∙ swap (list_any (same y) xs) (same y x) (has_pair same xs) (list_any (λ a. same a x) xs)
    where
      swap : (a b c d : Bool) → ((a || b) || (c || d)) ≡ ((a || c) || (b || d))
      swap true b c d = refl
      swap false true true d = refl
      swap false true false d = refl
      swap false false c d = refl

  pub pair-front : (xs ys : List X) → has_pair same xs ≡ true → has_pair same (xs ++ ys) ≡ true
  pair-front [] ys h = absurd (true≢false (sym h))
  pair-front (y ∷ xs) ys h = by (list_any (same y) xs) refl h (pair-front xs ys)
    where
      by : (t : Bool) → list_any (same y) xs ≡ t → (t || has_pair same xs) ≡ true → (has_pair same xs ≡ true → has_pair same (xs ++ ys) ≡ true) → (list_any (same y) (xs ++ ys) || has_pair same (xs ++ ys)) ≡ true
      by true e h rest = ap (λ b. b || has_pair same (xs ++ ys)) (list_any-append (same y) xs ys ∙ ap (λ b. b || list_any (same y) ys) e)
      by false e h rest = ap (λ b. list_any (same y) (xs ++ ys) || b) (rest h) ∙ or-true (list_any (same y) (xs ++ ys))

-- an item that passes has a place
pub record Passes {X : Type 0} (p : X → Bool) (xs : List X) : Type 0 where
  pub place : ℕ
  pub item : X
  pub stands : slice_get xs place ≡ Some item
  pub passes : p item ≡ true
  pub below : place < length xs

pub passing : {X : Type 0} (p : X → Bool) (xs : List X) → list_any p xs ≡ true → Passes p xs
passing p [] h = absurd (true≢false (sym h))
passing p (x ∷ xs) h = by (p x) refl h (passing p xs)
  where
    by : (t : Bool) → p x ≡ t → (t || list_any p xs) ≡ true → (list_any p xs ≡ true → Passes p xs) → Passes p (x ∷ xs)
    by true e h rest = record { place = 0; item = x; stands = refl; passes = e; below = omega arith }
    by false e h rest = let r : Passes p xs = rest h in record { place = suc r.place; item = r.item; stands = r.stands; passes = r.passes; below = omega (arith, r.below) }

pub passed : {X : Type 0} (p : X → Bool) (xs : List X) (i : ℕ) (x : X) → slice_get xs i ≡ Some x → p x ≡ true → list_any p xs ≡ true
passed p [] i x h k = absurd (cc)
passed p (y ∷ xs) zero x h k = ap (λ b. b || list_any p xs) (let e : y ≡ x = (cc) in ap p e ∙ k)
passed p (y ∷ xs) (suc i) x h k = ap (λ b. p y || b) (passed p xs i x h k) ∙ or-true (p y)

get-map : {X K : Type 0} (f : X → K) (xs : List X) (i : ℕ) (x : X) → slice_get xs i ≡ Some x → slice_get (map f xs) i ≡ Some (f x)
get-map f [] i x h = absurd (cc)
get-map f (y ∷ xs) zero x h = ap Some (let e : y ≡ x = (cc) in ap f e)
get-map f (y ∷ xs) (suc i) x h = get-map f xs i x h

pub record Mapped {X K : Type 0} (f : X → K) (xs : List X) (i : ℕ) (k : K) : Type 0 where
  pub item : X
  pub stands : slice_get xs i ≡ Some item
  pub is : f item ≡ k
  pub below : i < length xs

mapped : {X K : Type 0} (f : X → K) (xs : List X) (i : ℕ) (k : K) → slice_get (map f xs) i ≡ Some k → Mapped f xs i k
mapped f [] i k h = absurd (cc)
mapped f (y ∷ xs) zero k h = record { item = y; stands = refl; is = (cc); below = omega arith }
mapped f (y ∷ xs) (suc i) k h = let r : Mapped f xs i k = mapped f xs i k h in record { item = r.item; stands = r.stands; is = r.is; below = omega (arith, r.below) }

get-front : {K : Type 0} (xs : List K) (y : K) (i : ℕ) → i < length xs → slice_get (xs ++ y ∷ []) i ≡ slice_get xs i
get-front [] y i h = absurd (omega arith)
get-front (x ∷ xs) y zero h = refl
get-front (x ∷ xs) y (suc i) h = get-front xs y i (omega arith)

map-push : {X K : Type 0} (f : X → K) (xs : List X) (x : X) → map f (xs ++ x ∷ []) ≡ map f xs ++ f x ∷ []
map-push f [] x = refl
map-push f (y ∷ xs) x = ap (λ l. f y ∷ l) (map-push f xs x)

map-length : {X K : Type 0} (f : X → K) (xs : List X) → length (map f xs) ≡ length xs
map-length f [] = refl
map-length f (y ∷ xs) = ap suc (map-length f xs)

-- items whose keys are numbered in the order of first use: one is new where its number is that of the items before it
pub record IsNew {X K : Type 0} (key : X → K) (same : X → X → Bool) (xs : List X) (x : X) (after : List K) : Type 0 where
  pub keys : after ≡ map key (xs ++ x ∷ [])
  pub apart : has_pair same (xs ++ x ∷ []) ≡ false

module _ {X K : Type 0} (key : X → K) (same : X → X → Bool) (sound : (a b : X) → same a b ≡ true → key a ≡ key b) (complete : (a b : X) → key a ≡ key b → same a b ≡ true)
    (xs : List X) (x : X) (after : List K) (number : ℕ) (apart : has_pair same xs ≡ false) (numbered : Numbered (map key xs) after (key x) number) where
  had : after ≡ map key xs → list_any (λ a. same a x) xs ≡ true
  had e =
      let m : Mapped key xs number (key x) = mapped key xs number (key x) (subst (λ l. slice_get l number ≡ Some (key x)) e numbered.given) in
      passed (λ a. same a x) xs number m.item m.stands (complete m.item x m.is)

  had-below : after ≡ map key xs → number < length xs
  had-below e = let m : Mapped key xs number (key x) = mapped key xs number (key x) (subst (λ l. slice_get l number ≡ Some (key x)) e numbered.given) in m.below

  pub new-again : number ≢ length xs → has_pair same (xs ++ x ∷ []) ≡ true
  new-again ne = ⊎_elim
      (λ (e : after ≡ map key xs). pair-more same xs x ∙ (ap (λ b. has_pair same xs || b) (had e) ∙ or-true (has_pair same xs)))
      (λ (e : (after ≡ map key xs ++ key x ∷ []) × (number ≡ length (map key xs))). absurd (ne (e.1 ∙ map-length key xs)))
      numbered.added

  pub new-once : EachOnce after → number ≡ length xs → IsNew key same xs x after
  new-once once is = ⊎_elim
      (λ (e : after ≡ map key xs). absurd (let h : number < length xs = had-below e in omega arith))
      (λ (e : (after ≡ map key xs ++ key x ∷ []) × (number ≡ length (map key xs))). record {
        keys = e.0 ∙ sym (map-push key xs x);
        apart = pair-more same xs x ∙ ap₂ (λ a b. a || b) apart (none (list_any (λ a. same a x) xs) refl e.0);
      })
      numbered.added
    where
      none : (t : Bool) → list_any (λ a. same a x) xs ≡ t → after ≡ map key xs ++ key x ∷ [] → t ≡ false
      none false h e = refl
      none true h e =
          let p : Passes (λ a. same a x) xs = passing (λ a. same a x) xs h in
          let stands : slice_get after p.place ≡ Some (key x) =
          ap (λ l. slice_get l p.place) e ∙ (get-front (map key xs) (key x) p.place (omega (arith, p.below, map-length key xs))
          ∙ (get-map key xs p.place p.item p.stands ∙ ap Some (sound p.item x p.passes))) in
          let same_place : p.place ≡ number = once p.place number (key x) stands numbered.given in
          absurd (let b : p.place < length xs = p.below in omega arith)

-- the keys of attributes
abbrev pub qname_key : Attr → List ℕ
qname_key attr = attr.name

pub qname-sound : (a b : Attr) → same_qname a b ≡ true → qname_key a ≡ qname_key b
qname-sound a b h = (bytes_eq-Decides a.name b.name).0 h

pub qname-complete : (a b : Attr) → qname_key a ≡ qname_key b → same_qname a b ≡ true
qname-complete a b h = (bytes_eq-Decides a.name b.name).1 h

both : (a b : Bool) → (a && b) ≡ true → (a ≡ true) × (b ≡ true)
both true b h = (refl, h)
both false b h = absurd (true≢false (sym h))

pub expanded-sound : (scope : List Decl) (a b : Attr) → same_expanded scope a b ≡ true → expanded_attr scope a ≡ expanded_attr scope b
expanded-sound scope a b h =
    let t = both (bytes_eq (expanded_attr scope a).local (expanded_attr scope b).local) (bytes_eq (expanded_attr scope a).uri (expanded_attr scope b).uri) h in
    ap₂ (λ local uri. record { prefix = []; local = local; uri = uri }) ((bytes_eq-Decides (expanded_attr scope a).local (expanded_attr scope b).local).0 t.0)
    ((bytes_eq-Decides (expanded_attr scope a).uri (expanded_attr scope b).uri).0 t.1)

pub expanded-complete : (scope : List Decl) (a b : Attr) → expanded_attr scope a ≡ expanded_attr scope b → same_expanded scope a b ≡ true
expanded-complete scope a b h =
    ap₂ (λ x y. x && y) ((bytes_eq-Decides (expanded_attr scope a).local (expanded_attr scope b).local).1 (ap (λ (n : Name). n.local) h))
    ((bytes_eq-Decides (expanded_attr scope a).uri (expanded_attr scope b).uri).1 (ap (λ (n : Name). n.uri) h))

-- along a list of attributes

pub pair-within : {X : Type 0} (same : X → X → Bool) (xs : List X) (i : ℕ) (x : X) → i < length xs → x ≡ get_or xs i x → has_pair same (take i xs ++ x ∷ []) ≡ true → has_pair same xs ≡ true
pair-within same xs i x below is h =
    let front : take (i + 1) xs ≡ take i xs ++ x ∷ [] = take_more xs i x below ∙ ap (λ y. take i xs ++ y ∷ []) (sym is) in
    ap (has_pair same) (sym (take-append-drop (i + 1) xs)) ∙ pair-front same (take (i + 1) xs) (drop (i + 1) xs) (ap (has_pair same) front ∙ h)

pub one-more : {X : Type 0} (p : X → Bool) (x : X) (xs : List X) → p x ≡ true → filter p (x ∷ xs) ≡ x ∷ filter p xs
one-more p x xs h = ap (λ b. cond b (x ∷ filter p xs) (filter p xs)) h

pub one-less : {X : Type 0} (p : X → Bool) (x : X) (xs : List X) → p x ≡ false → filter p (x ∷ xs) ≡ filter p xs
one-less p x xs h = ap (λ b. cond b (x ∷ filter p xs) (filter p xs)) h

module _ {X : Type 0} (p : X → Bool) (xs : List X) (i : ℕ) (x : X) (below : i < length xs) (is : x ≡ get_or xs i x) where
  pub next : take (i + 1) xs ≡ take i xs ++ x ∷ []
  next = take_more xs i x below ∙ ap (λ y. take i xs ++ y ∷ []) (sym is)

  rest : drop i xs ≡ x ∷ drop (i + 1) xs
  rest = drop_more xs i x below ∙ ap (λ y. y ∷ drop (i + 1) xs) (sym is)

  pub kept-more : p x ≡ true → filter p (take (i + 1) xs) ≡ filter p (take i xs) ++ x ∷ []
  kept-more h = ap (filter p) next ∙ (filter-append p (take i xs) (x ∷ []) ∙ ap (λ l. filter p (take i xs) ++ l) (one-more p x [] h))

  pub kept-same : p x ≡ false → filter p (take (i + 1) xs) ≡ filter p (take i xs)
  kept-same h = ap (filter p) next ∙ (filter-append p (take i xs) (x ∷ []) ∙ (ap (λ l. filter p (take i xs) ++ l) (one-less p x [] h) ∙ append-nil (filter p (take i xs))))

  -- a pair among those kept so far and the next one is a pair among all that are kept
  pub pair-kept : (same : X → X → Bool) → p x ≡ true → has_pair same (filter p (take i xs) ++ x ∷ []) ≡ true → has_pair same (filter p xs) ≡ true
  pair-kept same h k =
      ap (λ l. has_pair same (filter p l)) (sym (take-append-drop (i + 1) xs))
      ∙ (ap (has_pair same) (filter-append p (take (i + 1) xs) (drop (i + 1) xs))
      ∙ pair-front same (filter p (take (i + 1) xs)) (filter p (drop (i + 1) xs)) (ap (has_pair same) (kept-more h) ∙ k))

  -- where none of those kept passes, this one doesn't
  pub kept-fails : (q : X → Bool) → list_any q (filter p xs) ≡ false → p x ≡ true → q x ≡ false
  kept-fails q none h =
      let split : list_any q (filter p xs) ≡ (list_any q (filter p (take i xs)) || list_any q (x ∷ filter p (drop (i + 1) xs))) =
      ap (λ l. list_any q (filter p l)) (sym (take-append-drop i xs))
      ∙ (ap (list_any q) (filter-append p (take i xs) (drop i xs) ∙ ap (λ l. filter p (take i xs) ++ l) (ap (filter p) rest ∙ one-more p x (drop (i + 1) xs) h))
      ∙ list_any-append q (filter p (take i xs)) (x ∷ filter p (drop (i + 1) xs))) in
      (or_parts (q x) (list_any q (filter p (drop (i + 1) xs))) (or_parts (list_any q (filter p (take i xs))) (list_any q (x ∷ filter p (drop (i + 1) xs))) (sym split ∙ none)).1).0
