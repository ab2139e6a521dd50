-- Where a number stands in a forest, and the hole at the end of all under a node.
use Rattle.std.proofs.Common.{◌≡◌, ◌≢◌, ℕ, ◌+◌, ◌≤◌, suc, zero, Bool, true, false, cond, List, [], ◌∷◌, ◌++◌, ◌⊎◌, length, Some, refl, sym, ap, ◌∙◌, subst, inl, inr, ⊎_elim, arith, append_assoc}
use Rattle.doc_table.specs.Lists.{occurs, last_or}
use Rattle.doc_table.specs.Table.{Table, parent_of, attrs_of, is_live}
use Rattle.doc_table.specs.Walks.{climb, ancestors, above, is_open}
use Rattle.doc_table.proofs.Telling.{order-flat}
use Rattle.doc_table.specs.inner.Forest.{Forest, bare, tree, tops, flat, size, ShowsAttributes, Whole, alive}
use Rattle.doc_table.proofs.ListLemmas.{In, In-cons, In-append, mem-In, occurs-append, occurs-head, last-In, last-front, append-empty_left, append-empty_right}
use Rattle.doc_table.proofs.Paths.{Path, top, under, beside, plug, owner, chain, lead, tail, Edge, Frame, flat-plug, opened, frame-climb, chain-size}

-- the number is a node's
pub record NodePlace (B : Forest) (m : ℕ) : Type 0 where
  pub path : Path
  pub ats : List ℕ
  pub kids : Forest
  pub rest : Forest
  pub at : plug path (tree m ats kids rest) ≡ B

-- the number is one of a node's attributes
pub record AttributePlace (B : Forest) (m : ℕ) : Type 0 where
  pub path : Path
  pub node : ℕ
  pub ats : List ℕ
  pub kids : Forest
  pub rest : Forest
  pub at : plug path (tree node ats kids rest) ≡ B
  pub among : In m ats

abbrev pub Place : Forest → ℕ → Type 0
Place B m = NodePlace B m ⊎ AttributePlace B m

pub find : (C : Path) (F : Forest) (m : ℕ) → In m (flat F) → Place (plug C F) m
find C bare m h = absurd (omega arith)
find C (tree n ats kids rest) m h =
    ⊎_elim (λ (e : m ≡ n). inl (record { path = C; ats = ats; kids = kids; rest = rest; at = ap (λ k. plug C (tree k ats kids rest)) e }))
    (λ (h1 : In m (ats ++ (flat kids ++ flat rest))).
    ⊎_elim (λ (a : In m ats). inr (record { path = C; node = n; ats = ats; kids = kids; rest = rest; at = refl; among = a }))
    (λ (h2 : In m (flat kids ++ flat rest)).
    ⊎_elim (λ (k : In m (flat kids)). find (under n ats rest C) kids m k)
    (λ (k : In m (flat rest)). find (beside n ats kids C) rest m k)
    (In-append m (flat kids) (flat rest) h2))
    (In-append m ats (flat kids ++ flat rest) h1))
    (In-cons m n (ats ++ (flat kids ++ flat rest)) h)

-- the hole after what fills a hole
abbrev pub past : Path → Forest → Path
past C bare = C
past C (tree n ats kids rest) = past (beside n ats kids C) rest

past-plug : (C : Path) (F : Forest) → plug (past C F) bare ≡ plug C F
past-plug C bare = refl
past-plug C (tree n ats kids rest) = past-plug (beside n ats kids C) rest

past-owner : (C : Path) (F : Forest) → owner (past C F) ≡ owner C
past-owner C bare = refl
past-owner C (tree n ats kids rest) = past-owner (beside n ats kids C) rest

past-edge : (C : Path) (F : Forest) → Edge C → Edge (past C F)
past-edge C bare e = e
past-edge C (tree n ats kids rest) e = past-edge (beside n ats kids C) rest e

-- the hole at the end of all, under a node
pub record Hole (B : Forest) (p : ℕ) : Type 0 where
  pub path : Path
  pub fills : plug path bare ≡ B
  pub edge : Edge path
  pub owns : owner path ≡ p

past-hole : (C : Path) (F : Forest) → Edge C → Hole (plug C F) (owner C)
past-hole C F e = record { path = past C F; fills = past-plug C F; edge = past-edge C F e; owns = past-owner C F }

-- each node of the way up from the end has such a hole
pub hole_of : (C : Path) (F : Forest) (p : ℕ) → Edge C → In p (chain C) → Hole (plug C F) p
hole_of top F p e h =
    ⊎_elim (λ (q : p ≡ 0). subst (Hole (plug top F)) (sym q) (past-hole top F e)) (λ (k : In p []). absurd (omega arith)) (In-cons p 0 [] h)
hole_of (under n ats rest C) F p e h =
    ⊎_elim (λ (q : p ≡ n). subst (Hole (plug (under n ats rest C) F)) (sym q) (past-hole (under n ats rest C) F e))
    (λ (k : In p (chain C)). hole_of C (tree n ats F rest) p e.1 k) (In-cons p n (chain C) h)
hole_of (beside n ats kids C) F p e h = hole_of C (tree n ats kids F) p e h

flat-bare : (F : Forest) → flat F ≡ [] → F ≡ bare
flat-bare bare h = refl
flat-bare (tree n ats kids rest) h = absurd (cc)

tail-edge : (C : Path) → tail C ≡ [] → Edge C
tail-edge top h = tt
tail-edge (under n ats rest C) h = (flat-bare rest (append-empty_left (flat rest) (tail C) h), tail-edge C (append-empty_right (flat rest) (tail C) h))
tail-edge (beside n ats kids C) h = tail-edge C h

module _ (T : Table) where
  -- the ways up from a place
  pub above-owner : (C : Path) (F : Forest) → Whole T (plug C F) → above T (owner C) ≡ chain C
  above-owner C F w = by C F (length T) w.few (opened T C F w.root w.shows).0
    where
      by : (C : Path) (F : Forest) (steps : ℕ) → 1 + size (plug C F) ≤ steps → Frame T C (tops F) → owner C ∷ climb T steps (parent_of T (owner C)) ≡ chain C
      by top F zero h r = absurd (omega arith)
      by top F (suc steps) h r = rw r.no_parent refl
      by (under n ats rest C) F steps h r = rw r.0.parent (ap (λ l. n ∷ l) (frame-climb T C (n ∷ tops rest) steps r.2 (omega (arith, chain-size C (tree n ats F rest)))))
      by (beside n ats kids C) F steps h r = by C (tree n ats kids F) steps h r.2

  pub ancestors-node : (C : Path) (m : ℕ) (ats : List ℕ) (kids rest : Forest) → Whole T (plug C (tree m ats kids rest)) → ancestors T m ≡ chain C
  ancestors-node C m ats kids rest w =
      let o = opened T C (tree m ats kids rest) w.root w.shows in
      rw o.1.0.parent (frame-climb T C (m ∷ tops rest) (length T) o.0 (omega (arith, chain-size C (tree m ats kids rest), w.few)))

pub attribute-parent : (T : Table) (n : ℕ) (ats : List ℕ) (a : ℕ) → ShowsAttributes T n ats → In a ats → parent_of T a ≡ Some n
attribute-parent T n [] a s h = absurd (omega arith)
attribute-parent T n (b ∷ ats) a s h =
    ⊎_elim (λ (e : a ≡ b). ap (parent_of T) e ∙ s.0) (λ (k : In a ats). attribute-parent T n ats a s.3 k) (In-cons a b ats h)

pub alive-one : (T : Table) (n : ℕ) → alive T n ≤ 1
alive-one T n = by (is_live T n)
  where
    by : (b : Bool) → cond b 1 0 ≤ 1
    by true = omega arith
    by false = omega arith

module _ (T : Table) where
  pub ancestors-attribute : (C : Path) (n : ℕ) (ats : List ℕ) (kids rest : Forest) (a : ℕ) → Whole T (plug C (tree n ats kids rest)) → In a ats → ancestors T a ≡ n ∷ chain C
  ancestors-attribute C n ats kids rest a w h =
      let o = opened T (under n ats rest C) kids w.root w.shows in
      rw (attribute-parent T n ats a o.0.0.hold h)
      (frame-climb T (under n ats rest C) (tops kids) (length T) o.0 (omega (arith, chain-size (under n ats rest C) kids, w.few)))

  -- nothing stands after the last number
  behind : (F : Forest) (x : ℕ) (front ys : List ℕ) → Whole T F → last_or 0 (flat F) ≡ x → flat F ≡ front ++ ys → occurs x ys + 1 ≤ occurs x (flat F) → ys ≡ []
  behind F x front ys w last e h =
      last-front 0 front ys (rw (subst (λ l. last_or 0 l ≡ x) e last) (omega (arith, w.once x, alive-one T x, h)))

  node_hole : (C : Path) (ats : List ℕ) (kids rest : Forest) (x p : ℕ) → Whole T (plug C (tree x ats kids rest)) → last_or 0 (flat (plug C (tree x ats kids rest))) ≡ x
      → In p (above T x) → Hole (plug C (tree x ats kids rest)) p
  node_hole C ats kids rest x p w last up =
      let split : flat (plug C (tree x ats kids rest)) ≡ (lead C ++ (x ∷ (ats ++ flat kids))) ++ (flat rest ++ tail C) = flat-plug C (tree x ats kids rest) ∙ simp append_assoc in
      let more : occurs x (flat rest ++ tail C) + 1 ≤ occurs x (flat (plug C (tree x ats kids rest))) = rw split (simp occurs-append (omega (arith, occurs-head x (ats ++ flat kids), occurs-append x ats (flat kids)))) in
      let none : flat rest ++ tail C ≡ [] = behind (plug C (tree x ats kids rest)) x _ (flat rest ++ tail C) w last split more in
      let edge : Edge (under x ats rest C) = (flat-bare rest (append-empty_left (flat rest) (tail C) none), tail-edge C (append-empty_right (flat rest) (tail C) none)) in
      hole_of (under x ats rest C) kids p edge (subst (λ l. In p (x ∷ l)) (ancestors-node T C x ats kids rest w) up)

  attribute_hole : (C : Path) (n : ℕ) (ats : List ℕ) (kids rest : Forest) (x p : ℕ) → Whole T (plug C (tree n ats kids rest)) → last_or 0 (flat (plug C (tree n ats kids rest))) ≡ x
      → In x ats → In p (above T x) → p ≢ x → Hole (plug C (tree n ats kids rest)) p
  attribute_hole C n ats kids rest x p w last among up ne =
      let split : flat (plug C (tree n ats kids rest)) ≡ (lead C ++ (n ∷ (ats ++ flat kids))) ++ (flat rest ++ tail C) = flat-plug C (tree n ats kids rest) ∙ simp append_assoc in
      let more : occurs x (flat rest ++ tail C) + 1 ≤ occurs x (flat (plug C (tree n ats kids rest))) = rw split (simp occurs-append (omega (arith, among))) in
      let none : flat rest ++ tail C ≡ [] = behind (plug C (tree n ats kids rest)) x _ (flat rest ++ tail C) w last split more in
      let edge : Edge (under n ats rest C) = (flat-bare rest (append-empty_left (flat rest) (tail C) none), tail-edge C (append-empty_right (flat rest) (tail C) none)) in
      let in_chain : In p (n ∷ chain C) = ⊎_elim (λ (e : p ≡ x). absurd (ne e)) (λ (k : In p (ancestors T x)). subst (In p) (ancestors-attribute C n ats kids rest x w among) k) (In-cons p x (ancestors T x) up) in
      hole_of (under n ats rest C) kids p edge in_chain

  last_hole : (B : Forest) (x p : ℕ) → Whole T B → last_or 0 (flat B) ≡ x → In p (above T x) → ((q : ℕ) → In p (attrs_of T q) → ⊥) → Hole B p
  last_hole B x p w last up holds =
      ⊎_elim (λ (e : x ≡ 0). hole_of top B p tt (subst (λ l. In p l) (above-owner T top B w) (subst (λ m. In p (above T m)) e up)))
      (λ (h : In x (flat B)). ⊎_elim
      (λ (place : NodePlace B x).
      subst (λ F. Whole T F → last_or 0 (flat F) ≡ x → Hole F p) place.at
      (λ v l. node_hole place.path place.ats place.kids place.rest x p v l up) w last)
      (λ (place : AttributePlace B x).
      subst (λ F. Whole T F → last_or 0 (flat F) ≡ x → Hole F p) place.at
      (λ v l. attribute_hole place.path place.node place.ats place.kids place.rest x p v l place.among up
      (λ e. holds place.node (rw (opened T place.path (tree place.node place.ats place.kids place.rest) v.root v.shows).1.0.attributes (rw e place.among)))) w last)
      (find top B x h))
      (In-cons x 0 (flat B) (subst (λ m. In m (0 ∷ flat B)) last (last-In 0 (flat B))))

  -- a node at or above the last one, and no attribute, has a hole at the end of all
  pub open_hole : (B : Forest) (p : ℕ) → Whole T B → is_open T p ≡ true → ((q : ℕ) → In p (attrs_of T q) → ⊥) → Hole B p
  open_hole B p w o holds =
      last_hole B (last_or 0 (flat B)) p w refl (mem-In p (above T (last_or 0 (flat B))) (rw (order-flat T B w) at o)) holds
