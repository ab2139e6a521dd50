-- Where an attribute or a piece comes, one comes to the node to which that one corresponds: what is new has the same lines.
use Rattle.std.proofs.Common.{◌≡◌, ◌≢◌, ℕ, ◌+◌, cond, eqb, zero, suc, true, List, [], ◌∷◌, ◌++◌, ◌⊎◌, length, map, take, drop, Some, refl, sym, ap, ap₂, ◌∙◌, inl, inr, subst, ⊎_elim, true≢false, arith, eq-eqb, ne_eqb}
use Rattle.std.specs.List.{flat_map}
use Rattle.std.proofs.lemmas.List.{map-append, take-append-drop}
use Rattle.doc_table.specs.declared.kind.Kind.TheVariants.{Root}
use Rattle.doc_table.specs.Kinds.{can_be_kid}
use Rattle.doc_table.specs.Lists.{occurs}
use Rattle.doc_table.specs.Table.{Name, Table, attrs_of, content_of, is_live, kids_of, kind_of}
use Rattle.doc_table.specs.Lines.{Line, first_lines, has_attribute, lines_at, lines_below, opens}
use Rattle.doc_table.specs.SameTree.{SameTree}
use Rattle.doc_table.specs.inner.Sound.{Formed}
use Rattle.doc_table.proofs.Appending.{holder-live}
use Rattle.doc_table.proofs.Forests.{formed-of}
use Rattle.doc_table.proofs.ListLemmas.{In, In-append, In-cons, In-mem, eq_or, occurs-append, occurs-head}
use Rattle.doc_table.proofs.TreeLaws.{ways-up, well-formed}
use Rattle.doc_table.proofs.Ways.{In-live, live-below}
use Rattle.doc_edits.specs.Changes.{gained, inserted}
use Rattle.doc_edits.specs.Fitting.{MayGain, MayTake}
use Rattle.doc_edits.proofs.InsertionLemmas.{kids-parent}
use Rattle.doc_edits.proofs.InsertionTreeLemmas.{insertion}
use Rattle.doc_undo_laws.proofs.Alongside.{Says, along, flat_map-moved, map-moved, same-tree}
use Rattle.doc_undo_laws.proofs.AttributesBack.{Beside, IsNode, gain-beside, gain-lines}
use Rattle.doc_undo_laws.proofs.PieceLines.{new-lines}
use Rattle.doc_undo_laws.proofs.Settling.{Stays, inserted-stays}
use Rattle.doc_iso_laws.specs.EditsMove.{AdditionsMove}
use Rattle.doc_iso_laws.proofs.MovedLemmas.{kind-moved, live-moved, root-moved}
use Rattle.tree_iso.specs.Renumbering.{Renumbers}

module _ (f : ℕ → ℕ) (T U : Table) (t : Formed T) (u : Formed U) (r : Renumbers f T U) where
  lines-moved : (ats : List ℕ) → flat_map (opens U) (map f ats) ≡ flat_map (opens T) ats
  lines-moved ats = flat_map-moved (opens U) (opens T) f ats (λ a h. ap (lines_at first_lines) (r.content a))

  node-moved : (m : ℕ) → IsNode T m → IsNode U (f m)
  node-moved m node = record { lives = live-moved f T U r m ∙ node.lives; other = λ h. node.other (sym (kind-moved f T U r m) ∙ h) }

  kid-node : (m k : ℕ) → In k (kids_of T m) → IsNode T k
  kid-node m k h =
      let kid : can_be_kid (kind_of T k) ≡ true = (well-formed T t).kid_kind m k (In-mem k (kids_of T m) h) in
      record { lives = (ways-up T t).kid_live m k (In-mem k (kids_of T m) h); other = λ e. true≢false (sym kid ∙ ap can_be_kid e) }

  root-node : IsNode T 0
  root-node = record {
    lives = In-live T t.forest t.whole 0 (occurs-head 0 _);
    other = λ e. absurd (let root : kind_of T 0 ≡ Some Root = t.root_kind in cc);
  }

  -- an attribute comes
  module _ (n : ℕ) (name : Name) (value : List ℕ) (may : MayGain T n name value) (may-moved : MayGain U (f n) name value) where
    abbrev G : Table
    G = gained T n name value

    abbrev H : Table
    H = gained U (f n) name value

    here : Beside T G n
    here = gain-beside T n name value t may

    there : Beside U H (f n)
    there = gain-beside U (f n) name value u may-moved

    owner-lines : flat_map (opens H) (attrs_of H (f n)) ≡ flat_map (opens G) (attrs_of G n)
    owner-lines =
        gain-lines U (f n) name value u may-moved
        ∙ (ap (λ (l : List Line). l ++ has_attribute name value ∷ []) (ap (flat_map (opens U)) (r.attributes n) ∙ lines-moved (attrs_of T n))
        ∙ sym (gain-lines T n name value t may))

    gain-says : (m : ℕ) → IsNode T m → Says f G H (IsNode T) m
    gain-says m node = record {
      content = there.content (f m) (node-moved m node) ∙ (r.content m ∙ sym (here.content m node));
      attributes = ⊎_elim (λ (e : m ≡ n). subst (λ k. flat_map (opens H) (attrs_of H (f k)) ≡ flat_map (opens G) (attrs_of G k)) (sym e) owner-lines)
          (λ (ne : m ≢ n). there.others (f m) (node-moved m node) (λ e. ne (r.apart m n e))
          ∙ (ap (flat_map (opens U)) (r.attributes m) ∙ (lines-moved (attrs_of T m) ∙ sym (here.others m node ne))))
          (eq_or m n);
      kids = there.kids (f m) (node-moved m node) ∙ (r.kids m ∙ ap (map f) (sym (here.kids m node)));
      inside = λ k h. kid-node m k (subst (In k) (here.kids m node) h);
    }

    pub gain-moves : SameTree G H
    gain-moves =
        same-tree f G H here.formed there.formed (root-moved f T U r t u)
        (along f G H here.formed there.formed (IsNode T) (λ m node. inr (gain-says m node)) 0 root-node)

  -- a piece comes
  module _ (P : Table) (p before : ℕ) (piece : Formed P) (may : MayTake T p before P) (may-moved : MayTake U (f p) before P) where
    abbrev V : Table
    V = inserted T p before P

    abbrev W : Table
    W = inserted U (f p) before P

    v : Formed V
    v = insertion T p before P t piece may

    w : Formed W
    w = insertion U (f p) before P u piece may-moved

    owner : is_live T p ≡ true
    owner = holder-live T p may.under

    owner-moved : is_live U (f p) ≡ true
    owner-moved = live-moved f T U r p ∙ owner

    -- the tops correspond
    abbrev g : ℕ → ℕ
    g m = cond (eqb m (length T)) (length U) (f m)

    g-new : g (length T) ≡ length U
    g-new = rw (eq-eqb (length T) (length T) refl) refl

    g-old : (m : ℕ) → is_live T m ≡ true → g m ≡ f m
    g-old m live = rw (ne_eqb m (length T) (λ e. absurd (omega (arith, e, live-below T m live)))) refl

    abbrev Among : ℕ → Type 0
    Among m = (m ≡ length T) ⊎ (is_live T m ≡ true)

    new-alike : lines_below W (g (length T)) ≡ lines_below V (length T)
    new-alike =
        ap (lines_below W) g-new
        ∙ (new-lines P piece U (f p) before may-moved.top owner-moved may-moved.one w ∙ sym (new-lines P piece T p before may.top owner may.one v))

    kid-live : (m k : ℕ) → In k (kids_of T m) → is_live T k ≡ true
    kid-live m k h = (ways-up T t).kid_live m k (In-mem k (kids_of T m) h)

    map-old : (ks : List ℕ) → ((k : ℕ) → In k ks → is_live T k ≡ true) → map f ks ≡ map g ks
    map-old ks live = map-moved f g ks (λ k h. sym (g-old k (live k h)))

    kids-owner : kids_of W (f p) ≡ map g (kids_of V p)
    kids-owner =
        kids-parent U P (f p) before owner-moved
        ∙ (ap (λ (ks : List ℕ). take before ks ++ length U ∷ drop before ks) (r.kids p ∙ map-old (kids_of T p) (λ k h. kid-live p k h))
        ∙ (ap₂ (λ (a b : List ℕ). a ++ length U ∷ b) (map-take before (kids_of T p)) (map-drop before (kids_of T p))
        ∙ (ap (λ (k : ℕ). map g (take before (kids_of T p)) ++ k ∷ map g (drop before (kids_of T p))) (sym g-new)
        ∙ (sym (map-append g (take before (kids_of T p)) (length T ∷ drop before (kids_of T p)))
        ∙ ap (map g) (sym (kids-parent T P p before owner))))))
      where
        map-take : (k : ℕ) (xs : List ℕ) → take k (map g xs) ≡ map g (take k xs)
        map-take zero xs = refl
        map-take (suc k) [] = refl
        map-take (suc k) (x ∷ xs) = ap (λ (l : List ℕ). g x ∷ l) (map-take k xs)

        map-drop : (k : ℕ) (xs : List ℕ) → drop k (map g xs) ≡ map g (drop k xs)
        map-drop zero xs = refl
        map-drop (suc k) [] = refl
        map-drop (suc k) (x ∷ xs) = map-drop k xs

    -- a kid of an old node is an old one, or the new top
    inside : (m k : ℕ) → is_live T m ≡ true → In k (kids_of V m) → Among k
    inside m k live h =
        ⊎_elim
        (λ (e : m ≡ p).
        let j : In k (take before (kids_of T p) ++ length T ∷ drop before (kids_of T p)) = subst (In k) (ap (kids_of V) e ∙ kids-parent T P p before owner) h in
        ⊎_elim (λ (a : In k (take before (kids_of T p))). let q : Among k = inr (kid-live p k (from-parts k a)) in q)
        (λ (b : In k (length T ∷ drop before (kids_of T p))). ⊎_elim (λ (e2 : k ≡ length T). let q : Among k = inl e2 in q)
        (λ (c : In k (drop before (kids_of T p))). let q : Among k = inr (kid-live p k (from-rest k c)) in q)
        (In-cons k (length T) (drop before (kids_of T p)) b))
        (In-append k (take before (kids_of T p)) (length T ∷ drop before (kids_of T p)) j))
        (λ (ne : m ≢ p). let q : Among k = inr (kid-live m k (subst (In k) ((inserted-stays T P p before owner m live).kids ne) h)) in q)
        (eq_or m p)
      where
        parts : (k : ℕ) → occurs k (take before (kids_of T p)) + occurs k (drop before (kids_of T p)) ≡ occurs k (kids_of T p)
        parts k = sym (occurs-append k (take before (kids_of T p)) (drop before (kids_of T p))) ∙ ap (occurs k) (take-append-drop before (kids_of T p))

        from-parts : (k : ℕ) → In k (take before (kids_of T p)) → In k (kids_of T p)
        from-parts k a = omega (arith, a, parts k)

        from-rest : (k : ℕ) → In k (drop before (kids_of T p)) → In k (kids_of T p)
        from-rest k a = omega (arith, a, parts k)

    old-says : (m : ℕ) → is_live T m ≡ true → Says g V W Among m
    old-says m live =
        let alive : is_live U (f m) ≡ true = live-moved f T U r m ∙ live in
        let here : Stays T V p m = inserted-stays T P p before owner m live in
        let there : Stays U W (f p) (f m) = inserted-stays U P (f p) before owner-moved (f m) alive in
        record {
          content = ap (content_of W) (g-old m live) ∙ (there.content ∙ (r.content m ∙ sym here.content));
          attributes = ap (λ k. flat_map (opens W) (attrs_of W k)) (g-old m live)
              ∙ (ap (flat_map (opens W)) (there.attributes ∙ r.attributes m)
              ∙ (flat_map-moved (opens W) (opens V) f (attrs_of T m) (λ a h. attribute-alike a ((ways-up T t).attribute_live m a (In-mem a (attrs_of T m) h)))
              ∙ ap (flat_map (opens V)) (sym here.attributes)));
          kids = ⊎_elim (λ (e : m ≡ p). ap (kids_of W) (g-old m live ∙ ap f e) ∙ (kids-owner ∙ ap (λ k. map g (kids_of V k)) (sym e)))
              (λ (ne : m ≢ p). ap (kids_of W) (g-old m live)
              ∙ (there.kids (λ e. ne (r.apart m p e)) ∙ (r.kids m ∙ (map-old (kids_of T m) (λ k h. kid-live m k h) ∙ ap (map g) (sym (here.kids ne))))))
              (eq_or m p);
          inside = λ k h. inside m k live h;
        }
      where
        attribute-alike : (a : ℕ) → is_live T a ≡ true → opens W (f a) ≡ opens V a
        attribute-alike a lives =
            ap (lines_at first_lines)
            ((inserted-stays U P (f p) before owner-moved (f a) (live-moved f T U r a ∙ lives)).content ∙ (r.content a ∙ sym (inserted-stays T P p before owner a lives).content))

    pub insertion-moves : SameTree V W
    insertion-moves =
        let root : is_live T 0 ≡ true = root-node.lives in
        let zero_among : Among 0 = inr root in
        same-tree g V W v w (g-old 0 root ∙ root-moved f T U r t u)
        (along g V W v w Among
        (λ m among. ⊎_elim (λ (e : m ≡ length T). inl (subst (λ k. lines_below W (g k) ≡ lines_below V k) (sym e) new-alike)) (λ (live : is_live T m ≡ true). inr (old-says m live)) among)
        0 zero_among)

pub additions-move : AdditionsMove
additions-move = record {
  gain = λ f T U n name value t u r may moved. gain-moves f T U (formed-of T t) (formed-of U u) r n name value may moved;
  insertion = λ f T U P p before t u piece r may moved. insertion-moves f T U (formed-of T t) (formed-of U u) r P p before (formed-of P piece) may moved;
}
