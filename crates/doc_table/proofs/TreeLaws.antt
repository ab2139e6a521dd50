-- What holds of every tree's table, as the laws say it.
use Rattle.std.proofs.Common.{◌≡◌, ◌≢◌, ℕ, ◌+◌, ◌≤◌, suc, zero, Bool, true, false, cond, List, [], ◌∷◌, ◌++◌, ◌⊎◌, length, Option, None, Some, is_some, refl, sym, ap, ap₂, ◌∙◌, subst, inl, inr, ⊎_elim, true≢false, arith, append-nil, append_assoc}
use Rattle.std.specs.List.{flat_map}
use Rattle.doc_table.specs.declared.kind.Kind.{Kind}
use Rattle.doc_table.specs.declared.kind.Kind.TheVariants.{Root, Element, Attribute, Text, Comment, Pi}
use Rattle.doc_table.specs.declared.limits.TheConstants.{MAX_DEPTH}
use Rattle.doc_table.specs.Lists.{mem, occurs, Distinct}
use Rattle.doc_table.specs.Table.{Table, Facts, Content, root, element, attribute, text, comment, instruction, entry_at, kids_at, attrs_at, kind_at, parent_of, kids_of, attrs_of, content_of, kind_of, is_live}
use Rattle.doc_table.specs.Walks.{walk, walked, ancestors, above, order, below, is_open, last_node, joined_text, characters_in}
use Rattle.doc_table.specs.Lines.{opens, closes}
use Rattle.doc_table.specs.Kinds.{holds_kids}
use Rattle.doc_table.specs.Laws.{WellFormed, Ordered, HasWaysUp, Walks}
use Rattle.doc_table.specs.inner.Forest.{Forest, bare, tree, tops, flat, size, Shows, ShowsAttributes, Whole}
use Rattle.doc_table.specs.inner.Sound.{Formed}
use Rattle.doc_table.proofs.ListLemmas.{In, In-mem, mem-In, In-cons, none-mem, occurs-append, occurs-head, mem-append, flat_map-nothing, flat_map-same, singles}
use Rattle.doc_table.proofs.Paths.{Path, top, under, beside, plug, owner, chain, lead, tail, elders, opened, frame-kids, occurs-plug, flat-plug, chain-size}
use Rattle.doc_table.proofs.Counts.{live-count, text-count}
use Rattle.doc_table.proofs.Below.{told_below}
use Rattle.doc_table.proofs.Telling.{told, told-flat, walk-shows, order-flat}
use Rattle.doc_table.proofs.Places.{NodePlace, AttributePlace, Place, above-owner, ancestors-node, ancestors-attribute, attribute-parent, alive-one}
use Rattle.doc_table.proofs.Ways.{live-below, live-In, place-of, parent-live, parent-has, climb-none}

tops-parent : (T : Table) (p k : ℕ) (F : Forest) → Shows T p F → In k (tops F) → parent_of T k ≡ Some p
tops-parent T p k bare s h = absurd (omega arith)
tops-parent T p k (tree n ats kids rest) s h =
    ⊎_elim (λ (e : k ≡ n). ap (parent_of T) e ∙ s.0.parent) (λ (g : In k (tops rest)). tops-parent T p k rest s.2 g) (In-cons k n (tops rest) h)

tops-flat : (k : ℕ) (F : Forest) → occurs k (tops F) ≤ occurs k (flat F)
tops-flat k bare = omega arith
tops-flat k (tree n ats kids rest) = simp occurs-append (omega (arith, tops-flat k rest))

attribute-holds : (T : Table) (n : ℕ) (ats : List ℕ) (a : ℕ) → ShowsAttributes T n ats → In a ats → (attrs_of T a ≡ []) × (kids_of T a ≡ [])
attribute-holds T n [] a s h = absurd (omega arith)
attribute-holds T n (b ∷ ats) a s h =
    ⊎_elim (λ (e : a ≡ b). let r : (attrs_of T a ≡ []) × (kids_of T a ≡ []) = (ap (attrs_of T) e ∙ s.1, ap (kids_of T) e ∙ s.2) in r)
    (λ (k : In a ats). attribute-holds T n ats a s.3 k) (In-cons a b ats h)

-- what hangs from a number, as a forest: nothing from a dead one
pub record Standing (T : Table) (m : ℕ) : Type 0 where
  ats : List ℕ
  under_it : Forest
  kids_are : kids_of T m ≡ tops under_it
  attributes : attrs_of T m ≡ ats
  hold : ShowsAttributes T m ats
  shows : Shows T m under_it
  once : (k : ℕ) → occurs k (ats ++ flat under_it) ≤ 1
  small : 1 + size under_it ≤ length T

module _ (T : Table) (B : Forest) (w : Whole T B) where
  bare-standing : (m : ℕ) → kids_of T m ≡ [] → attrs_of T m ≡ [] → Standing T m
  bare-standing m nokids noats = record {
    ats = [];
    under_it = bare;
    kids_are = nokids;
    attributes = noats;
    hold = tt;
    shows = tt;
    once = λ k. omega arith;
    small = omega (arith, w.few);
  }

  root-standing : Standing T 0
  root-standing = record {
    ats = [];
    under_it = B;
    kids_are = w.root.kids_are;
    attributes = w.root.no_attributes;
    hold = tt;
    shows = w.shows;
    once = λ k. omega (arith, w.once k, alive-one T k);
    small = w.few;
  }

  dead-standing : (m : ℕ) → is_live T m ≡ false → Standing T m
  dead-standing m dead = by (entry_at T m) refl
    where
      by : (o : Option Facts) → entry_at T m ≡ o → Standing T m
      by None e = bare-standing m (ap kids_at e) (ap attrs_at e)
      by (Some node) e = absurd (true≢false (sym (ap is_some e) ∙ dead))

node-standing : (T : Table) (C : Path) (m : ℕ) (ats : List ℕ) (kids rest : Forest) → Whole T (plug C (tree m ats kids rest)) → Standing T m
node-standing T C m ats kids rest w =
    let o = opened T C (tree m ats kids rest) w.root w.shows in
    record {
      ats = ats;
      under_it = kids;
      kids_are = o.1.0.kids_are;
      attributes = o.1.0.attributes;
      hold = o.1.0.hold;
      shows = o.1.1;
      once = λ k. omega (arith, w.once k, alive-one T k, occurs-append k ats (flat kids), simp occurs-append at (occurs-plug k (under m ats rest C) kids));
      small = omega (arith, w.few, chain-size C (tree m ats kids rest));
    }

module _ (T : Table) (B : Forest) (w : Whole T B) where
  standing : (m : ℕ) → Standing T m
  standing m = by (is_live T m) refl
    where
      by : (b : Bool) → is_live T m ≡ b → Standing T m
      by false dead = dead-standing T B w m dead
      by true live =
          ⊎_elim (λ (e : m ≡ 0). subst (Standing T) (sym e) (root-standing T B w))
          (λ (place : Place B m). ⊎_elim
          (λ (at : NodePlace B m). node-standing T at.path m at.ats at.kids at.rest (subst (Whole T) (sym at.at) w))
          (λ (at : AttributePlace B m).
          let v : Whole T (plug at.path (tree at.node at.ats at.kids at.rest)) = subst (Whole T) (sym at.at) w in
          let o = opened T at.path (tree at.node at.ats at.kids at.rest) v.root v.shows in
          let nothing : (attrs_of T m ≡ []) × (kids_of T m ≡ []) = attribute-holds T at.node at.ats m o.1.0.hold at.among in
          bare-standing T B w m nothing.1 nothing.0)
          place)
          (place-of T B w m live)

  kid-parent : (n k : ℕ) → mem k (kids_of T n) ≡ true → parent_of T k ≡ Some n
  kid-parent n k h = let s : Standing T n = standing n in tops-parent T n k s.under_it s.shows (subst (In k) s.kids_are (mem-In k (kids_of T n) h))

  attr-parent : (n a : ℕ) → mem a (attrs_of T n) ≡ true → parent_of T a ≡ Some n
  attr-parent n a h = let s : Standing T n = standing n in attribute-parent T n s.ats a s.hold (subst (In a) s.attributes (mem-In a (attrs_of T n) h))

  attr-holds : (n a : ℕ) → mem a (attrs_of T n) ≡ true → (attrs_of T a ≡ []) × (kids_of T a ≡ [])
  attr-holds n a h = let s : Standing T n = standing n in attribute-holds T n s.ats a s.hold (subst (In a) s.attributes (mem-In a (attrs_of T n) h))

  kids-once : (n : ℕ) → Distinct (kids_of T n)
  kids-once n k = let s : Standing T n = standing n in rw s.kids_are (omega (arith, tops-flat k s.under_it, s.once k, occurs-append k s.ats (flat s.under_it)))

  attributes-once : (n : ℕ) → Distinct (attrs_of T n)
  attributes-once n k = let s : Standing T n = standing n in rw s.attributes (omega (arith, s.once k, occurs-append k s.ats (flat s.under_it)))

  is-listed : (n p : ℕ) → parent_of T n ≡ Some p → mem n (attrs_of T p ++ kids_of T p) ≡ true
  is-listed n p up =
      ⊎_elim (λ (e : n ≡ 0). absurd (let none : parent_of T n ≡ None = ap (parent_of T) e ∙ w.root.no_parent in cc))
      (λ (place : Place B n). ⊎_elim
      (λ (at : NodePlace B n).
      let v : Whole T (plug at.path (tree n at.ats at.kids at.rest)) = subst (Whole T) (sym at.at) w in
      let o = opened T at.path (tree n at.ats at.kids at.rest) v.root v.shows in
      let up2 : parent_of T n ≡ Some (owner at.path) = o.1.0.parent in
      let same : owner at.path ≡ p = (cc) in
      let kids : kids_of T (owner at.path) ≡ elders at.path ++ (n ∷ tops at.rest) = frame-kids T at.path (n ∷ tops at.rest) o.0 in
      subst (λ q. mem n (attrs_of T q ++ kids_of T q) ≡ true) same
      (In-mem n (attrs_of T (owner at.path) ++ kids_of T (owner at.path))
      (rw kids (simp occurs-append (omega (arith, occurs-head n (tops at.rest)))))))
      (λ (at : AttributePlace B n).
      let v : Whole T (plug at.path (tree at.node at.ats at.kids at.rest)) = subst (Whole T) (sym at.at) w in
      let o = opened T at.path (tree at.node at.ats at.kids at.rest) v.root v.shows in
      let up2 : parent_of T n ≡ Some at.node = attribute-parent T at.node at.ats n o.1.0.hold at.among in
      let same : at.node ≡ p = (cc) in
      subst (λ q. mem n (attrs_of T q ++ kids_of T q) ≡ true) same
      (In-mem n (attrs_of T at.node ++ kids_of T at.node) (rw o.1.0.attributes (simp occurs-append (omega (arith, at.among))))))
      place)
      (place-of T B w n (parent-has T n p up))

  ancestors-at : (n p : ℕ) → parent_of T n ≡ Some p → ancestors T n ≡ p ∷ ancestors T p
  ancestors-at n p up =
      ⊎_elim (λ (e : n ≡ 0). absurd (let none : parent_of T n ≡ None = ap (parent_of T) e ∙ w.root.no_parent in cc))
      (λ (place : Place B n). ⊎_elim
      (λ (at : NodePlace B n).
      let v : Whole T (plug at.path (tree n at.ats at.kids at.rest)) = subst (Whole T) (sym at.at) w in
      let up2 : parent_of T n ≡ Some (owner at.path) = (opened T at.path (tree n at.ats at.kids at.rest) v.root v.shows).1.0.parent in
      let same : owner at.path ≡ p = (cc) in
      subst (λ q. ancestors T n ≡ q ∷ ancestors T q) same
      (ancestors-node T at.path n at.ats at.kids at.rest v ∙ sym (above-owner T at.path (tree n at.ats at.kids at.rest) v)))
      (λ (at : AttributePlace B n).
      let v : Whole T (plug at.path (tree at.node at.ats at.kids at.rest)) = subst (Whole T) (sym at.at) w in
      let up2 : parent_of T n ≡ Some at.node = attribute-parent T at.node at.ats n (opened T at.path (tree at.node at.ats at.kids at.rest) v.root v.shows).1.0.hold at.among in
      let same : at.node ≡ p = (cc) in
      subst (λ q. ancestors T n ≡ q ∷ ancestors T q) same
      (ancestors-attribute T at.path at.node at.ats at.kids at.rest n v at.among
      ∙ ap (λ l. at.node ∷ l) (sym (ancestors-node T at.path at.node at.ats at.kids at.rest v))))
      place)
      (place-of T B w n (parent-has T n p up))

  has-parent : (n : ℕ) → is_live T n ≡ true → n ≢ 0 → (p : ℕ) × (parent_of T n ≡ Some p)
  has-parent n live ne =
      ⊎_elim (λ (e : n ≡ 0). absurd (ne e))
      (λ (place : Place B n). ⊎_elim
      (λ (at : NodePlace B n).
      let v : Whole T (plug at.path (tree n at.ats at.kids at.rest)) = subst (Whole T) (sym at.at) w in
      let r : (p : ℕ) × (parent_of T n ≡ Some p) = (owner at.path, (opened T at.path (tree n at.ats at.kids at.rest) v.root v.shows).1.0.parent) in r)
      (λ (at : AttributePlace B n).
      let v : Whole T (plug at.path (tree at.node at.ats at.kids at.rest)) = subst (Whole T) (sym at.at) w in
      let r : (p : ℕ) × (parent_of T n ≡ Some p) =
      (at.node, attribute-parent T at.node at.ats n (opened T at.path (tree at.node at.ats at.kids at.rest) v.root v.shows).1.0.hold at.among) in r)
      place)
      (place-of T B w n live)

  chain-root : (C : Path) → In 0 (chain C)
  chain-root top = omega arith
  chain-root (under n ats rest C) = omega (arith, chain-root C)
  chain-root (beside n ats kids C) = chain-root C

  is-rooted : (n : ℕ) → is_live T n ≡ true → mem 0 (above T n) ≡ true
  is-rooted n live =
      In-mem 0 (above T n) (⊎_elim (λ (e : n ≡ 0). rw e (occurs-head 0 (ancestors T 0)))
      (λ (place : Place B n). ⊎_elim
      (λ (at : NodePlace B n).
      let v : Whole T (plug at.path (tree n at.ats at.kids at.rest)) = subst (Whole T) (sym at.at) w in
      rw (ancestors-node T at.path n at.ats at.kids at.rest v) (omega (arith, chain-root at.path)))
      (λ (at : AttributePlace B n).
      let v : Whole T (plug at.path (tree at.node at.ats at.kids at.rest)) = subst (Whole T) (sym at.at) w in
      rw (ancestors-attribute T at.path at.node at.ats at.kids at.rest n v at.among) (omega (arith, chain-root at.path)))
      place)
      (place-of T B w n live))

  in-order : (n : ℕ) → is_live T n ≡ mem n (order T)
  in-order n = by (is_live T n) refl
    where
      by : (b : Bool) → is_live T n ≡ b → b ≡ mem n (order T)
      by true e = sym (ap (mem n) (order-flat T B w) ∙ In-mem n (0 ∷ flat B) (live-In T B w n e))
      by false e = sym (ap (mem n) (order-flat T B w) ∙ none-mem n (0 ∷ flat B) (w.once n ∙ ap (λ b. cond b 1 0) e))

  order-once : Distinct (order T)
  order-once n = rw (order-flat T B w) (omega (arith, w.once n, alive-one T n))

  -- a way up goes on to the parent
  higher : (n p x : ℕ) → In n (ancestors T x) → (o : Option ℕ) → parent_of T x ≡ o
      → ((q : ℕ) → suc (length (ancestors T q)) ≡ length (ancestors T x) → In n (above T q) → In p (above T q)) → In p (above T x)
  higher n p x g None e rec = absurd (let none : ancestors T x ≡ [] = climb-none T (length T) (parent_of T x) e in let f : In n [] = subst (In n) none g in omega arith)
  higher n p x g (Some q) e rec =
      let more : ancestors T x ≡ q ∷ ancestors T q = ancestors-at x q e in
      let f : In p (above T q) = rec q (sym (ap length more)) (subst (In n) more g) in
      rw more (omega (arith, f))

  up-closed : (k n p x : ℕ) → length (ancestors T x) ≤ k → parent_of T n ≡ Some p → In n (above T x) → In p (above T x)
  up-closed zero n p x short up h =
      ⊎_elim (λ (e : n ≡ x). rw (ancestors-at x p (ap (parent_of T) (sym e) ∙ up)) (omega (arith, occurs-head p (ancestors T p))))
      (λ (g : In n (ancestors T x)). higher n p x g (parent_of T x) refl (λ q s r. absurd (omega arith)))
      (In-cons n x (ancestors T x) h)
  up-closed (suc k) n p x short up h =
      ⊎_elim (λ (e : n ≡ x). rw (ancestors-at x p (ap (parent_of T) (sym e) ∙ up)) (omega (arith, occurs-head p (ancestors T p))))
      (λ (g : In n (ancestors T x)). higher n p x g (parent_of T x) refl (λ q s r. up-closed k n p q (omega arith) up r))
      (In-cons n x (ancestors T x) h)

  open-upwards : (n p : ℕ) → is_open T n ≡ true → parent_of T n ≡ Some p → is_open T p ≡ true
  open-upwards n p h up =
      In-mem p (above T (last_node T)) (up-closed (length (ancestors T (last_node T))) n p (last_node T) (omega arith) up (mem-In n (above T (last_node T)) h))

module _ {A : Type 0} (tells closes : ℕ → List A) (T : Table) (B : Forest) (w : Whole T B) where
  unrolled : (m levels : ℕ) → Standing T m → 1 ≤ levels → levels ≡ length T →
      walk T tells closes levels m ≡ flat_map tells (m ∷ attrs_of T m) ++ (flat_map (λ kid. walk T tells closes (length T) kid) (kids_of T m) ++ closes m)
  unrolled m zero s h e = absurd (omega arith)
  unrolled m (suc levels) s h e =
      let inner : flat_map (λ kid. walk T tells closes levels kid) (tops s.under_it) ≡ told tells closes s.under_it =
      walk-shows tells closes T m levels s.under_it (omega (arith, s.small)) s.shows in
      let outer : flat_map (λ kid. walk T tells closes (length T) kid) (tops s.under_it) ≡ told tells closes s.under_it =
      walk-shows tells closes T m (length T) s.under_it (omega (arith, s.small)) s.shows in
      rw (s.kids_are, inner, outer) refl

  -- the walk from a node downwards: the node and its attributes, its kids, its end
  pub walked-at : (m : ℕ) → walked T tells closes m ≡ flat_map tells (m ∷ attrs_of T m) ++ (flat_map (walked T tells closes) (kids_of T m) ++ closes m)
  walked-at m = unrolled m (length T) (standing T B w m) (omega (arith, w.few)) refl

module _ (T : Table) (B : Forest) (w : Whole T B) where
  below-at : (n : ℕ) → below T n ≡ n ∷ (attrs_of T n ++ flat_map (below T) (kids_of T n))
  below-at n = walked-at (λ m. m ∷ []) (λ _. []) T B w n ∙ rw (singles (attrs_of T n)) (ap (λ l. n ∷ (attrs_of T n ++ l)) (append-nil (flat_map (below T) (kids_of T n))))

  below-attribute : (n a : ℕ) → mem a (attrs_of T n) ≡ true → below T a ≡ a ∷ []
  below-attribute n a h = let s = attr-holds T B w n a h in below-at a ∙ rw (s.0, s.1) refl

pub below-node : (T : Table) (C : Path) (m : ℕ) (ats : List ℕ) (kids rest : Forest) → Whole T (plug C (tree m ats kids rest)) → below T m ≡ m ∷ (ats ++ flat kids)
below-node T C m ats kids rest w =
    let o = opened T C (tree m ats kids rest) w.root w.shows in
    below-at T (plug C (tree m ats kids rest)) w m ∙ ap (λ l. m ∷ l) (ap₂ (λ l r. l ++ r) o.1.0.attributes
    (ap (flat_map (below T)) o.1.0.kids_are
    ∙ (walk-shows (λ k. k ∷ []) (λ _. []) T m (length T) kids (omega (arith, w.few, chain-size C (tree m ats kids rest))) o.1.1 ∙ told-flat kids)))

-- a list splits where a number stands
record Split (n : ℕ) (xs : List ℕ) : Type 0 where
  front : List ℕ
  back : List ℕ
  is : xs ≡ front ++ n ∷ back

split_at : (n : ℕ) (xs : List ℕ) → In n xs → Split n xs
split_at n [] h = absurd (omega arith)
split_at n (x ∷ xs) h =
    ⊎_elim (λ (e : n ≡ x). let r : Split n (x ∷ xs) = record { front = []; back = xs; is = ap (λ k. k ∷ xs) (sym e) } in r)
    (λ (g : In n xs). let s : Split n xs = split_at n xs g in let r : Split n (x ∷ xs) = record { front = x ∷ s.front; back = s.back; is = ap (λ l. x ∷ l) s.is } in r)
    (In-cons n x xs h)

arranged : (lead : List ℕ) (q : ℕ) (front : List ℕ) (n : ℕ) (back ats inner tail : List ℕ) → ats ≡ front ++ n ∷ back →
    lead ++ ((q ∷ (ats ++ inner)) ++ tail) ≡ (lead ++ (q ∷ front)) ++ ((n ∷ []) ++ (back ++ (inner ++ tail)))
arranged lead q front n back ats inner tail e = rw e (simp append_assoc)

module _ (T : Table) (B : Forest) (w : Whole T B) where
  -- a node and all below it stand together in document order
  below-in-order : (n : ℕ) → is_live T n ≡ true → (front back : List ℕ) × (order T ≡ front ++ (below T n ++ back))
  below-in-order n live =
      ⊎_elim
      (λ (e : n ≡ 0). let r : (front back : List ℕ) × (order T ≡ front ++ (below T n ++ back)) = ([], [], ap (below T) (sym e) ∙ sym (append-nil (below T n))) in r)
      (λ (place : Place B n). ⊎_elim
      (λ (at : NodePlace B n).
      let v : Whole T (plug at.path (tree n at.ats at.kids at.rest)) = subst (Whole T) (sym at.at) w in
      let eq : order T ≡ (0 ∷ lead at.path) ++ (below T n ++ (flat at.rest ++ tail at.path)) =
      order-flat T (plug at.path (tree n at.ats at.kids at.rest)) v
      ∙ ap (λ l. 0 ∷ l) (flat-plug at.path (tree n at.ats at.kids at.rest)
      ∙ ap (λ l. lead at.path ++ l) (rw (below-node T at.path n at.ats at.kids at.rest v) (ap (λ l. n ∷ l) (simp append_assoc)))) in
      let r : (front back : List ℕ) × (order T ≡ front ++ (below T n ++ back)) = (0 ∷ lead at.path, flat at.rest ++ tail at.path, eq) in r)
      (λ (at : AttributePlace B n).
      let v : Whole T (plug at.path (tree at.node at.ats at.kids at.rest)) = subst (Whole T) (sym at.at) w in
      let o = opened T at.path (tree at.node at.ats at.kids at.rest) v.root v.shows in
      let x : Split n at.ats = split_at n at.ats at.among in
      let one : below T n ≡ n ∷ [] = below-attribute T B w at.node n (In-mem n (attrs_of T at.node) (subst (In n) (sym o.1.0.attributes) at.among)) in
      let eq : order T ≡ (0 ∷ (lead at.path ++ (at.node ∷ x.front))) ++ (below T n ++ (x.back ++ ((flat at.kids ++ flat at.rest) ++ tail at.path))) =
      order-flat T (plug at.path (tree at.node at.ats at.kids at.rest)) v
      ∙ ap (λ l. 0 ∷ l) (flat-plug at.path (tree at.node at.ats at.kids at.rest)
      ∙ (arranged (lead at.path) at.node x.front n x.back at.ats (flat at.kids ++ flat at.rest) (tail at.path) x.is
      ∙ ap (λ l. (lead at.path ++ (at.node ∷ x.front)) ++ (l ++ (x.back ++ ((flat at.kids ++ flat at.rest) ++ tail at.path)))) (sym one))) in
      let r : (front back : List ℕ) × (order T ≡ front ++ (below T n ++ back)) = (0 ∷ (lead at.path ++ (at.node ∷ x.front)), x.back ++ ((flat at.kids ++ flat at.rest) ++ tail at.path), eq) in r)
      place)
      (place-of T B w n live)

attribute-silent : (o : Option Content) → kind_at o ≡ Some Attribute → characters_in o ≡ []
attribute-silent None h = refl
attribute-silent (Some root) h = refl
attribute-silent (Some (element _ _)) h = refl
attribute-silent (Some (attribute _ _)) h = refl
attribute-silent (Some (text _)) h = absurd (cc)
attribute-silent (Some (comment _)) h = refl
attribute-silent (Some (instruction _ _)) h = refl

holder-cases : (o : Option Kind) → holds_kids o ≡ true → (o ≡ Some Root) ⊎ (o ≡ Some Element)
holder-cases None h = absurd (true≢false (sym h))
holder-cases (Some Root) h = inl refl
holder-cases (Some Element) h = inr refl
holder-cases (Some Attribute) h = absurd (true≢false (sym h))
holder-cases (Some Text) h = absurd (true≢false (sym h))
holder-cases (Some Comment) h = absurd (true≢false (sym h))
holder-cases (Some Pi) h = absurd (true≢false (sym h))

module _ (T : Table) (f : Formed T) where
  -- a parent is the root or an element
  parent-kind : (n p : ℕ) → parent_of T n ≡ Some p → (kind_of T p ≡ Some Root) ⊎ (kind_of T p ≡ Some Element)
  parent-kind n p up =
      ⊎_elim (λ (h : mem n (attrs_of T p) ≡ true). inr ((f.fits p).owner_kind n h))
      (λ (h : mem n (kids_of T p) ≡ true). holder-cases (kind_of T p) ((f.fits p).holder_kind n h))
      (mem-append n (attrs_of T p) (kids_of T p) (is-listed T f.forest f.whole n p up))

  ancestors-bound : (n : ℕ) → length (ancestors T n) ≤ MAX_DEPTH + 1
  ancestors-bound n = by (parent_of T n) refl
    where
      by : (o : Option ℕ) → parent_of T n ≡ o → length (ancestors T n) ≤ MAX_DEPTH + 1
      by None e = rw (climb-none T (length T) (parent_of T n) e) (omega arith)
      by (Some p) e = rw (ancestors-at T f.forest f.whole n p e)
          (⊎_elim (λ (r : kind_of T p ≡ Some Root). rw (climb-none T (length T) (parent_of T p) (ap (parent_of T) ((f.fits p).one_root r) ∙ f.whole.root.no_parent)) (omega arith))
          (λ (l : kind_of T p ≡ Some Element). omega (arith, (f.fits p).not_deep l)) (parent-kind n p e))

  pub well-formed : WellFormed T
  well-formed = record {
    root_kind = f.root_kind;
    root_parent = f.whole.root.no_parent;
    one_root = λ n. (f.fits n).one_root;
    kid_parent = kid-parent T f.forest f.whole;
    attribute_parent = attr-parent T f.forest f.whole;
    is_listed = is-listed T f.forest f.whole;
    kids_once = kids-once T f.forest f.whole;
    attributes_once = attributes-once T f.forest f.whole;
    kid_kind = λ n. (f.fits n).kid_kind;
    attribute_kind = λ n. (f.fits n).attribute_kind;
    holder_kind = λ n. (f.fits n).holder_kind;
    owner_kind = λ n. (f.fits n).owner_kind;
    is_rooted = is-rooted T f.forest f.whole;
    names_differ = λ n. (f.fits n).names_differ;
    some_text = λ n. (f.fits n).some_text;
    texts_apart = λ n. (f.fits n).texts_apart;
    few_nodes = omega (arith, live-count T f.forest f.whole, f.few_nodes);
    few_numbers = f.few_numbers;
    not_deep = λ n. (f.fits n).not_deep;
    little_text = omega (arith, text-count T f.forest f.whole, f.little_text);
  }

  pub ordered : Ordered T
  ordered = record {
    live_in_order = in-order T f.forest f.whole;
    once = order-once T f.forest f.whole;
    root_first = (flat f.forest, order-flat T f.forest f.whole);
    made = λ n h. live-below T n (in-order T f.forest f.whole n ∙ h);
    below_at = below-at T f.forest f.whole;
    below_attribute = below-attribute T f.forest f.whole;
    below_in_order = below-in-order T f.forest f.whole;
  }

  pub ways-up : HasWaysUp T
  ways-up = record {
    parent_live = parent-live T f.forest f.whole;
    parent_holds = λ n p up. ⊎_elim (λ (e : kind_of T p ≡ Some Root). ap holds_kids e) (λ (e : kind_of T p ≡ Some Element). ap holds_kids e) (parent-kind n p up);
    kid_live = λ n k h. parent-has T k n (kid-parent T f.forest f.whole n k h);
    attribute_live = λ n a h. parent-has T a n (attr-parent T f.forest f.whole n a h);
    has_parent = has-parent T f.forest f.whole;
    ancestors_at = ancestors-at T f.forest f.whole;
    no_ancestors = λ n h. climb-none T (length T) (parent_of T n) h;
    ancestors_bound = ancestors-bound;
    open_upwards = open-upwards T f.forest f.whole;
  }

  pub walks : Walks T
  walks = record {
    lines_at = walked-at (opens T) (closes T) T f.forest f.whole;
    told_at = λ g n. told_below g T ordered n;
    text_at = λ n.
        walked-at (λ m. characters_in (content_of T m)) (λ _. []) T f.forest f.whole n
        ∙ rw (
          flat_map-same (λ m. characters_in (content_of T m)) (λ _. []) (attrs_of T n)
              (λ a h. attribute-silent (content_of T a) ((f.fits n).attribute_kind a (In-mem a (attrs_of T n) h))),
          flat_map-nothing {A = ℕ} (attrs_of T n),
        )
        (ap₂ (λ l r. l ++ r) (append-nil (characters_in (content_of T n))) (append-nil (flat_map (joined_text T) (kids_of T n))));
  }
