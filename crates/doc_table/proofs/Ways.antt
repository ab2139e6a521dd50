-- The ways up to the root, and how they stay when a table grows.
use Rattle.std.proofs.Common.{◌≡◌, ◌≢◌, ℕ, ◌<◌, ◌≤◌, suc, zero, Bool, true, false, cond, [], ◌∷◌, ◌++◌, ◌⊎◌, length, Option, None, Some, is_some, refl, sym, ap, ◌∙◌, subst, inl, inr, ⊎_elim, true≢false, arith}
use Rattle.doc_table.specs.Table.{Table, Facts, entry_at, parent_at, parent_of, is_live}
use Rattle.doc_table.specs.Walks.{climb, ancestors, above}
use Rattle.doc_table.specs.inner.Forest.{Forest, tree, flat, Whole}
use Rattle.doc_table.proofs.ListLemmas.{In, In-cons, In-length, occurs-append, occurs-head}
use Rattle.doc_table.proofs.Paths.{Path, top, plug, owner, around, opened, chain-size, occurs-plug}
use Rattle.doc_table.proofs.Places.{NodePlace, AttributePlace, Place, find, attribute-parent, ancestors-node, ancestors-attribute}

-- a live number stands before the next one
pub live-below : (T : Table) (m : ℕ) → is_live T m ≡ true → m < length T
live-below [] m h = absurd (true≢false (sym h))
live-below (e ∷ T) zero h = omega arith
live-below (e ∷ T) (suc m) h = omega (arith, live-below T m h)

alive-live : (b : Bool) → 1 ≤ cond b 1 0 → b ≡ true
alive-live true h = refl
alive-live false h = absurd (omega arith)

live-alive : (b : Bool) → b ≡ true → 1 ≤ cond b 1 0
live-alive true h = omega arith
live-alive false h = absurd (true≢false (sym h))

has-entry : (o : Option Facts) (q : ℕ) → parent_at o ≡ Some q → is_some o ≡ true
has-entry None q h = absurd (cc)
has-entry (Some node) q h = refl

-- a number with a parent is live
pub parent-has : (T : Table) (m q : ℕ) → parent_of T m ≡ Some q → is_live T m ≡ true
parent-has T m q h = has-entry (entry_at T m) q h

-- no parent, no way up
pub climb-none : (T : Table) (steps : ℕ) (o : Option ℕ) → o ≡ None → climb T steps o ≡ []
climb-none T zero o e = refl
climb-none T (suc steps) o e = rw e refl

module _ (T : Table) (B : Forest) (w : Whole T B) where
  -- a number is live where it stands in the forest
  pub In-live : (m : ℕ) → In m (0 ∷ flat B) → is_live T m ≡ true
  In-live m h = alive-live (is_live T m) (omega (arith, h, w.once m))

  pub live-In : (m : ℕ) → is_live T m ≡ true → In m (0 ∷ flat B)
  live-In m h = omega (arith, live-alive (is_live T m) h, w.once m)

  pub place-of : (m : ℕ) → is_live T m ≡ true → (m ≡ 0) ⊎ Place B m
  place-of m h = ⊎_elim (λ (e : m ≡ 0). inl e) (λ (k : In m (flat B)). inr (find top B m k)) (In-cons m 0 (flat B) (live-In m h))

  in-place : (C : Path) (F : Forest) (m : ℕ) → plug C F ≡ B → In m (owner C ∷ (around C ++ flat F)) → is_live T m ≡ true
  in-place C F m at h = In-live m (subst (λ G. In m (0 ∷ flat G)) at (omega (arith, h, occurs-plug m C F)))

  -- a parent is live
  pub parent-live : (m q : ℕ) → parent_of T m ≡ Some q → is_live T q ≡ true
  parent-live m q up =
      ⊎_elim (λ (e : m ≡ 0). absurd (let none : parent_of T m ≡ None = ap (parent_of T) e ∙ w.root.no_parent in cc))
      (λ (place : Place B m). ⊎_elim
      (λ (at : NodePlace B m).
      let v : Whole T (plug at.path (tree m at.ats at.kids at.rest)) = subst (Whole T) (sym at.at) w in
      let up2 : parent_of T m ≡ Some (owner at.path) = (opened T at.path (tree m at.ats at.kids at.rest) v.root v.shows).1.0.parent in
      let same : owner at.path ≡ q = (cc) in
      subst (λ k. is_live T k ≡ true) same (in-place at.path (tree m at.ats at.kids at.rest) (owner at.path) at.at (occurs-head (owner at.path) _)))
      (λ (at : AttributePlace B m).
      let v : Whole T (plug at.path (tree at.node at.ats at.kids at.rest)) = subst (Whole T) (sym at.at) w in
      let up2 : parent_of T m ≡ Some at.node = attribute-parent T at.node at.ats m (opened T at.path (tree at.node at.ats at.kids at.rest) v.root v.shows).1.0.hold at.among in
      let same : at.node ≡ q = (cc) in
      subst (λ k. is_live T k ≡ true) same (in-place at.path (tree at.node at.ats at.kids at.rest) at.node at.at
      (simp occurs-append (omega (arith, occurs-head at.node [])))))
      place)
      (place-of m (parent-has T m q up))

  -- no way up is as long as there are numbers
  pub ancestors-short : (m : ℕ) → is_live T m ≡ true → length (ancestors T m) < length T
  ancestors-short m live =
      ⊎_elim (λ (e : m ≡ 0). rw (climb-none T (length T) (parent_of T m) (ap (parent_of T) e ∙ w.root.no_parent)) (omega (arith, w.few)))
      (λ (place : Place B m). ⊎_elim
      (λ (at : NodePlace B m).
      let v : Whole T (plug at.path (tree m at.ats at.kids at.rest)) = subst (Whole T) (sym at.at) w in
      rw (ancestors-node T at.path m at.ats at.kids at.rest v) (omega (arith, chain-size at.path (tree m at.ats at.kids at.rest), v.few)))
      (λ (at : AttributePlace B m).
      let v : Whole T (plug at.path (tree at.node at.ats at.kids at.rest)) = subst (Whole T) (sym at.at) w in
      rw (ancestors-attribute T at.path at.node at.ats at.kids at.rest m v at.among)
      (omega (arith, chain-size at.path (tree at.node at.ats at.kids at.rest), v.few, In-length m at.ats at.among)))
      place)
      (place-of m live)

-- more steps than a way up has make it no longer
pub climb-more : (T : Table) (steps : ℕ) (o : Option ℕ) → length (climb T steps o) < steps → climb T (suc steps) o ≡ climb T steps o
climb-more T zero o h = absurd (omega arith)
climb-more T (suc steps) None h = refl
climb-more T (suc steps) (Some q) h = ap (λ l. q ∷ l) (climb-more T steps (parent_of T q) (omega arith))

-- the way up stays where all parents but a new number's stay
pub climb-same : (T U : Table) (n : ℕ) → ((m : ℕ) → m ≢ n → parent_of U m ≡ parent_of T m) → ((m q : ℕ) → parent_of T m ≡ Some q → q ≢ n) →
    (steps : ℕ) (o : Option ℕ) → ((q : ℕ) → o ≡ Some q → q ≢ n) → climb U steps o ≡ climb T steps o
climb-same T U n same not_new zero o first = refl
climb-same T U n same not_new (suc steps) None first = refl
climb-same T U n same not_new (suc steps) (Some q) first =
    ap (λ l. q ∷ l) (ap (climb U steps) (same q (first q refl)) ∙ climb-same T U n same not_new steps (parent_of T q) (not_new q))

-- all on a way up are live
pub climb-live : (T : Table) (B : Forest) → Whole T B → (k steps : ℕ) (o : Option ℕ) → ((q : ℕ) → o ≡ Some q → is_live T q ≡ true) → In k (climb T steps o) → is_live T k ≡ true
climb-live T B w k zero o first h = absurd (omega arith)
climb-live T B w k (suc steps) None first h = absurd (omega arith)
climb-live T B w k (suc steps) (Some q) first h =
    ⊎_elim (λ (e : k ≡ q). ap (is_live T) e ∙ first q refl)
    (λ (g : In k (climb T steps (parent_of T q))). climb-live T B w k steps (parent_of T q) (parent-live T B w q) g)
    (In-cons k q (climb T steps (parent_of T q)) h)

pub above-live : (T : Table) (B : Forest) → Whole T B → (m k : ℕ) → is_live T m ≡ true → In k (above T m) → is_live T k ≡ true
above-live T B w m k live h =
    ⊎_elim (λ (e : k ≡ m). ap (is_live T) e ∙ live)
    (λ (g : In k (ancestors T m)). climb-live T B w k (length T) (parent_of T m) (parent-live T B w m) g)
    (In-cons k m (ancestors T m) h)
