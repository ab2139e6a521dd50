-- A forest with another, numbered anew, among the kids of one of its nodes.
use Rattle.std.proofs.Common.{◌≡◌, ℕ, ◌+◌, ◌≤◌, zero, suc, true, List, [], ◌∷◌, ◌++◌, length, map, take, drop, refl, sym, ap, ap₂, ◌∙◌, subst, ⊎_elim, arith, append-nil, append_assoc}
use Rattle.std.proofs.lemmas.List.{map-append, length-map}
use Rattle.doc_table.specs.Table.{Table, kids_of, attrs_of, is_live}
use Rattle.doc_table.specs.inner.Forest.{Forest, bare, tree, tops, flat, size, Whole}
use Rattle.doc_table.proofs.ListLemmas.{In}
use Rattle.doc_table.proofs.Paths.{Path, top, under, beside, plug, owner, elders, opened}
use Rattle.doc_table.proofs.Places.{NodePlace, AttributePlace, Place}
use Rattle.doc_table.proofs.Ways.{place-of}

-- a place among the kids of a node: the hole is all kids from there on
pub record Slot (B : Forest) (p : ℕ) (front back : List ℕ) : Type 0 where
  pub path : Path
  pub behind : Forest
  pub fills : plug path behind ≡ B
  pub owns : owner path ≡ p
  pub before : elders path ≡ front
  pub after : tops behind ≡ back

forward : (C : Path) (F : Forest) (k : ℕ) → k ≤ length (tops F) → Slot (plug C F) (owner C) (elders C ++ take k (tops F)) (drop k (tops F))
forward C F zero h = record { path = C; behind = F; fills = refl; owns = refl; before = sym (append-nil (elders C)); after = refl }
forward C bare (suc k) h = absurd (omega arith)
forward C (tree n ats kids rest) (suc k) h =
    let s : Slot (plug C (tree n ats kids rest)) (owner C) ((elders C ++ n ∷ []) ++ take k (tops rest)) (drop k (tops rest)) = forward (beside n ats kids C) rest k (omega (arith, h)) in
    record { path = s.path; behind = s.behind; fills = s.fills; owns = s.owns; before = s.before ∙ append_assoc (elders C) (n ∷ []) (take k (tops rest)); after = s.after }

-- each node that is no attribute has them
pub slot_of : (T : Table) (B : Forest) (p k : ℕ) → Whole T B → is_live T p ≡ true → ((q : ℕ) → In p (attrs_of T q) → ⊥) → k ≤ length (kids_of T p) →
    Slot B p (take k (kids_of T p)) (drop k (kids_of T p))
slot_of T B p k w live holds among =
    ⊎_elim
    (λ (e : p ≡ 0).
    let kids : tops B ≡ kids_of T p = sym (ap (kids_of T) e ∙ w.root.kids_are) in
    subst (λ q. Slot B q (take k (kids_of T p)) (drop k (kids_of T p))) (sym e)
    (subst (λ ks. Slot B 0 (take k ks) (drop k ks)) kids (forward top B k (subst (λ ks. k ≤ length ks) (sym kids) among))))
    (λ (place : Place B p). ⊎_elim
    (λ (at : NodePlace B p).
    let v : Whole T (plug at.path (tree p at.ats at.kids at.rest)) = subst (Whole T) (sym at.at) w in
    let kids : tops at.kids ≡ kids_of T p = sym (opened T at.path (tree p at.ats at.kids at.rest) v.root v.shows).1.0.kids_are in
    subst (λ F. Slot F p (take k (kids_of T p)) (drop k (kids_of T p))) at.at
    (subst (λ ks. Slot (plug at.path (tree p at.ats at.kids at.rest)) p (take k ks) (drop k ks)) kids
    (forward (under p at.ats at.rest at.path) at.kids k (subst (λ ks. k ≤ length ks) (sym kids) among))))
    (λ (at : AttributePlace B p).
    let v : Whole T (plug at.path (tree at.node at.ats at.kids at.rest)) = subst (Whole T) (sym at.at) w in
    absurd (holds at.node (rw (opened T at.path (tree at.node at.ats at.kids at.rest) v.root v.shows).1.0.attributes at.among)))
    place)
    (place-of T B w p live)

-- a forest numbered anew, with another behind it
abbrev pub moved : (ℕ → ℕ) → Forest → Forest → Forest
moved f bare F = F
moved f (tree n ats kids rest) F = tree (f n) (map f ats) (moved f kids bare) (moved f rest F)

pub tops-moved : (f : ℕ → ℕ) (C F : Forest) → tops (moved f C F) ≡ map f (tops C) ++ tops F
tops-moved f bare F = refl
tops-moved f (tree n ats kids rest) F = ap (λ l. f n ∷ l) (tops-moved f rest F)

pub size-moved : (f : ℕ → ℕ) (C F : Forest) → size (moved f C F) ≡ size C + size F
size-moved f bare F = omega arith
size-moved f (tree n ats kids rest) F = omega (arith, length-map ats f, size-moved f kids bare, size-moved f rest F)

regroup : (a b c d : List ℕ) → (a ++ (b ++ c)) ++ d ≡ a ++ (b ++ (c ++ d))
regroup a b c d = simp append_assoc

pub flat-moved : (f : ℕ → ℕ) (C F : Forest) → flat (moved f C F) ≡ map f (flat C) ++ flat F
flat-moved f bare F = refl
flat-moved f (tree n ats kids rest) F =
    let inner : flat (moved f kids bare) ≡ map f (flat kids) = flat-moved f kids bare ∙ append-nil (map f (flat kids)) in
    let spread : map f (ats ++ (flat kids ++ flat rest)) ≡ map f ats ++ (map f (flat kids) ++ map f (flat rest)) =
    map-append f ats (flat kids ++ flat rest) ∙ ap (λ l. map f ats ++ l) (map-append f (flat kids) (flat rest)) in
    ap (λ l. f n ∷ l) (ap₂ (λ a b. map f ats ++ (a ++ b)) inner (flat-moved f rest F)
    ∙ sym (ap (λ l. l ++ flat F) spread ∙ regroup (map f ats) (map f (flat kids)) (map f (flat rest)) (flat F)))
