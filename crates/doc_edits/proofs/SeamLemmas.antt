-- Document order where new nodes come: its two parts, what stands round their seam, and the order with the new numbers.
use Rattle.std.proofs.Common.{◌≡◌, ℕ, true, List, [], ◌∷◌, ◌++◌, length, map, take, drop, Some, refl, sym, ap, ap₂, ◌∙◌, subst, ⊎_elim, true≢false, arith, append_assoc, append-nil}
use Rattle.std.specs.List.{flat_map}
use Rattle.std.proofs.lemmas.Grind.{flat_map-append}
use Rattle.std.proofs.lemmas.List.{append_cancel_left, take-append-drop}
use Rattle.doc_table.specs.Kinds.{holds_kids}
use Rattle.doc_table.specs.Laws.{Ordered, WellFormed}
use Rattle.doc_table.specs.Lists.{mem, occurs}
use Rattle.doc_table.specs.Table.{Name, Table, attrs_of, is_live, kids_of, kind_of, parent_of}
use Rattle.doc_table.specs.Walks.{below, order}
use Rattle.doc_table.specs.inner.Forest.{Forest, tree, tops, flat, Whole}
use Rattle.doc_table.specs.inner.Sound.{Formed}
use Rattle.doc_table.proofs.Appending.{holder-live}
use Rattle.doc_table.proofs.ListLemmas.{In, In-cons, In-mem, mem-In, mem-append, occurs-append, occurs-head, occurs-same}
use Rattle.doc_table.proofs.Paths.{Path, top, under, beside, plug, owner, elders, lead, tail, flat-plug, opened}
use Rattle.doc_table.proofs.Places.{NodePlace}
use Rattle.doc_table.proofs.Telling.{order-flat}
use Rattle.doc_table.proofs.TreeLaws.{below-node, ordered, ways-up, well-formed}
use Rattle.doc_edits.specs.Changes.{gained, given_number, inserted, nodes_in}
use Rattle.doc_edits.specs.Fitting.{MayGain, MayTake}
use Rattle.doc_edits.specs.inner.Ranking.{Seam}
use Rattle.doc_edits.proofs.GainLemmas.{gained-with_node, node-place, whole-gained}
use Rattle.doc_edits.proofs.GraftLemmas.{Slot, slot_of, moved, flat-moved}
use Rattle.doc_edits.proofs.InsertionLemmas.{nodes-flat, whole-inserted}
use Rattle.doc_edits.proofs.PruneLemmas.{Split, split_at}

-- what stands before a hole ends with the owner, its attributes, and all below its kids before the hole
record Leads (T : Table) (C : Path) : Type 0 where
  ahead : List ℕ
  is : 0 ∷ lead C ≡ ahead ++ (owner C ∷ (attrs_of T (owner C) ++ flat_map (below T) (elders C)))

leads : (T : Table) (C : Path) (F : Forest) → Whole T (plug C F) → Leads T C
leads T top F w = record { ahead = []; is = rw w.root.no_attributes refl }
leads T (under n ats rest C) F w =
    let o = opened T C (tree n ats F rest) w.root w.shows in
    record { ahead = 0 ∷ lead C; is = ap (λ l. (0 ∷ lead C) ++ (n ∷ l)) (sym (append-nil (attrs_of T n) ∙ o.1.0.attributes)) }
leads T (beside n ats kids C) F w =
    let l : Leads T C = leads T C (tree n ats kids F) w in
    let last : n ∷ (ats ++ flat kids) ≡ flat_map (below T) (n ∷ []) = sym (append-nil (below T n) ∙ below-node T C n ats kids F w) in
    record {
      ahead = l.ahead;
      is = ap₂ (λ a b. a ++ b) l.is last
          ∙ (append_assoc l.ahead (owner C ∷ (attrs_of T (owner C) ++ flat_map (below T) (elders C))) (flat_map (below T) (n ∷ []))
          ∙ ap (λ m. l.ahead ++ (owner C ∷ m))
          (append_assoc (attrs_of T (owner C)) (flat_map (below T) (elders C)) (flat_map (below T) (n ∷ []))
          ∙ ap (λ m. attrs_of T (owner C) ++ m) (sym (flat_map-append (below T) (elders C) (n ∷ [])))));
    }

-- an order with new numbers between its two parts
pub record Joined (T U : Table) (p before : ℕ) (new : List ℕ) : Type 0 where
  pub front : List ℕ
  pub back : List ℕ
  pub seam : Seam T p before front back
  pub after : order U ≡ front ++ (new ++ back)

-- a node that holds kids is no attribute
no-attribute : (T : Table) → Formed T → (p q : ℕ) → holds_kids (kind_of T p) ≡ true → In p (attrs_of T q) → ⊥
no-attribute T t p q holds h = true≢false (sym holds ∙ ap holds_kids ((t.fits q).attribute_kind p (In-mem p (attrs_of T q) h)))

-- with a piece
pub order-inserted : (T : Table) (p before : ℕ) (P : Table) → Formed T → Formed P → MayTake T p before P →
    Joined T (inserted T p before P) p before (map (given_number T P) (nodes_in P))
order-inserted T p before P t f m =
    let s : Slot t.forest p (take before (kids_of T p)) (drop before (kids_of T p)) =
    slot_of T t.forest p before t.whole (holder-live T p m.under) (λ q. no-attribute T t p q m.under) m.among in
    let w : Whole T (plug s.path s.behind) = subst (Whole T) (sym s.fills) t.whole in
    let one : tops f.forest ≡ m.top ∷ [] = sym f.whole.root.kids_are ∙ m.one in
    let front : elders s.path ≡ take before (kids_of T (owner s.path)) = s.before ∙ ap (λ q. take before (kids_of T q)) (sym s.owns) in
    let back : tops s.behind ≡ drop before (kids_of T (owner s.path)) = s.after ∙ ap (λ q. drop before (kids_of T q)) (sym s.owns) in
    let l : Leads T s.path = leads T s.path s.behind w in
    subst (λ q. Joined T (inserted T q before P) q before (map (given_number T P) (nodes_in P))) s.owns (record {
      front = 0 ∷ lead s.path;
      back = flat s.behind ++ tail s.path;
      seam = record {
        ahead = l.ahead;
        front_is = l.is ∙ ap (λ ks. l.ahead ++ (owner s.path ∷ (attrs_of T (owner s.path) ++ flat_map (below T) ks))) front;
        whole = order-flat T (plug s.path s.behind) w ∙ ap (λ l. 0 ∷ l) (flat-plug s.path s.behind);
      };
      after =
          order-flat (inserted T (owner s.path) before P) (plug s.path (moved (given_number T P) f.forest s.behind))
          (whole-inserted T P s.path s.behind before w f.forest f.whole (nodes-flat P f) m.top one front back)
          ∙ ap (λ l. 0 ∷ l) (flat-plug s.path (moved (given_number T P) f.forest s.behind)
          ∙ ap (λ l. lead s.path ++ l) (ap (λ l. l ++ tail s.path) (flat-moved (given_number T P) f.forest s.behind)
          ∙ (append_assoc (map (given_number T P) (flat f.forest)) (flat s.behind) (tail s.path)
          ∙ ap (λ l. map (given_number T P) l ++ (flat s.behind ++ tail s.path)) (sym (nodes-flat P f)))));
    })

-- with an attribute, which comes before all kids
pub order-gained : (T : Table) (n : ℕ) (name : Name) (value : List ℕ) → Formed T → MayGain T n name value → Joined T (gained T n name value) n 0 (length T ∷ [])
order-gained T n name value s may =
    let at : NodePlace s.forest n = node-place T n name value s may in
    let w : Whole T (plug (under n at.ats at.rest at.path) at.kids) = subst (Whole T) (sym at.at) s.whole in
    let l : Leads T (under n at.ats at.rest at.path) = leads T (under n at.ats at.rest at.path) at.kids w in
    subst (λ U. Joined T U n 0 (length T ∷ [])) (sym (gained-with_node T n name value)) (record {
      front = 0 ∷ lead (under n at.ats at.rest at.path);
      back = flat at.kids ++ tail (under n at.ats at.rest at.path);
      seam = record {
        ahead = l.ahead;
        front_is = l.is;
        whole = order-flat T (plug (under n at.ats at.rest at.path) at.kids) w ∙ ap (λ l. 0 ∷ l) (flat-plug (under n at.ats at.rest at.path) at.kids);
      };
      after = order-flat _ (plug at.path (tree n (at.ats ++ length T ∷ []) at.kids at.rest)) (whole-gained T at.path n name value at.ats at.kids at.rest w)
          ∙ ap (λ l. 0 ∷ l) (flat-plug at.path (tree n (at.ats ++ length T ∷ []) at.kids at.rest) ∙ simp append_assoc);
    })

-- two ways to part a list at a number that stands in it once
same-rest : (n : ℕ) (xs zs ys ws : List ℕ) → xs ++ n ∷ ys ≡ zs ++ n ∷ ws → occurs n xs ≡ 0 → occurs n zs ≡ 0 → ys ≡ ws
same-rest n [] [] ys ws e h k = (cc)
same-rest n [] (z ∷ zs) ys ws e h k =
    absurd (let same : n ≡ z = (cc) in let i : In n (z ∷ zs) = subst (λ m. In n (m ∷ zs)) same (occurs-head n zs) in omega arith)
same-rest n (x ∷ xs) [] ys ws e h k =
    absurd (let same : n ≡ x = (cc) in let i : In n (x ∷ xs) = subst (λ m. In n (m ∷ xs)) same (occurs-head n xs) in omega arith)
same-rest n (x ∷ xs) (z ∷ zs) ys ws e h k =
    let inner : xs ++ n ∷ ys ≡ zs ++ n ∷ ws = (cc) in same-rest n xs zs ys ws inner (omega (arith, h)) (omega (arith, k))

module _ (T : Table) (formed : Formed T) where
  ord : Ordered T
  ord = ordered T formed

  form : WellFormed T
  form = well-formed T formed

  pub one-rest : (n : ℕ) (xs zs ys ws : List ℕ) → order T ≡ xs ++ n ∷ ys → order T ≡ zs ++ n ∷ ws → ys ≡ ws
  one-rest n xs zs ys ws e f =
      same-rest n xs zs ys ws (sym e ∙ f)
      (omega (arith, ord.once n, ap (occurs n) e, occurs-append n xs (n ∷ ys), occurs-same n ys))
      (omega (arith, ord.once n, ap (occurs n) f, occurs-append n zs (n ∷ ws), occurs-same n ws))

  -- all below a node, by its kids up to one and from it on
  parted : (p before : ℕ) → below T p ≡ p ∷ ((attrs_of T p ++ flat_map (below T) (take before (kids_of T p))) ++ flat_map (below T) (drop before (kids_of T p)))
  parted p before =
      ord.below_at p
      ∙ ap (λ l. p ∷ l) (ap (λ ks. attrs_of T p ++ flat_map (below T) ks) (sym (take-append-drop before (kids_of T p)))
      ∙ (ap (λ l. attrs_of T p ++ l) (flat_map-append (below T) (take before (kids_of T p)) (drop before (kids_of T p)))
      ∙ sym (append_assoc (attrs_of T p) (flat_map (below T) (take before (kids_of T p))) (flat_map (below T) (drop before (kids_of T p))))))

  -- what stands behind the seam: all below the other kids, and what stands behind the node
  pub record Behind (p before : ℕ) (back : List ℕ) : Type 0 where
    pub front : List ℕ
    pub rest : List ℕ
    pub is : back ≡ flat_map (below T) (drop before (kids_of T p)) ++ rest
    pub whole : order T ≡ front ++ (below T p ++ rest)

  pub behind : (p before : ℕ) (front back : List ℕ) → is_live T p ≡ true → Seam T p before front back → Behind p before back
  behind p before front back live seam =
      let s = ord.below_in_order p live in
      let inner : List ℕ = attrs_of T p ++ flat_map (below T) (take before (kids_of T p)) in
      let more : List ℕ = flat_map (below T) (drop before (kids_of T p)) in
      let here : order T ≡ seam.ahead ++ p ∷ (inner ++ back) =
      seam.whole ∙ (ap (λ l. l ++ back) seam.front_is ∙ append_assoc seam.ahead (p ∷ inner) back) in
      let there : order T ≡ s.0 ++ p ∷ (inner ++ (more ++ s.1)) =
      s.2 ∙ ap (λ l. s.0 ++ l) (ap (λ l. l ++ s.1) (parted p before) ∙ ap (λ l. p ∷ l) (append_assoc inner more s.1)) in
      record {
        front = s.0;
        rest = s.1;
        is = append_cancel_left inner back (more ++ s.1) (one-rest p seam.ahead s.0 (inner ++ back) (inner ++ (more ++ s.1)) here there);
        whole = s.2;
      }

  -- there is a seam at each place
  pub some-seam : (p before : ℕ) → is_live T p ≡ true → (front back : List ℕ) × Seam T p before front back
  some-seam p before live =
      let s = ord.below_in_order p live in
      let inner : List ℕ = attrs_of T p ++ flat_map (below T) (take before (kids_of T p)) in
      let more : List ℕ = flat_map (below T) (drop before (kids_of T p)) in
      let seam : Seam T p before (s.0 ++ p ∷ inner) (more ++ s.1) = record {
        ahead = s.0;
        front_is = refl;
        whole = s.2 ∙ (ap (λ l. s.0 ++ l) (ap (λ l. l ++ s.1) (parted p before) ∙ ap (λ l. p ∷ l) (append_assoc inner more s.1)) ∙ sym (append_assoc s.0 (p ∷ inner) (more ++ s.1)));
      } in
      (s.0 ++ p ∷ inner, more ++ s.1, seam)

  -- upwards from a kid: the kids before and behind it, and what stands behind all below it
  pub record Above (n q : ℕ) (back : List ℕ) : Type 0 where
    pub elder : List ℕ
    pub younger : List ℕ
    pub kids : kids_of T q ≡ (elder ++ n ∷ []) ++ younger
    pub front : List ℕ
    pub rest : List ℕ
    pub whole : order T ≡ front ++ (below T q ++ rest)
    pub is : back ≡ flat_map (below T) younger ++ rest
    pub before : List ℕ
    pub here : order T ≡ before ++ n ∷ ((attrs_of T n ++ flat_map (below T) (kids_of T n)) ++ back)
    pub elders_before : (k : ℕ) → In k elder → In k before

  inside-all : (k : ℕ) (ks : List ℕ) → In k ks → In k (flat_map (below T) ks)
  inside-all k [] h = absurd (omega arith)
  inside-all k (x ∷ ks) h =
      ⊎_elim
      (λ (e : k ≡ x).
      let i : In k (below T x) = subst (λ m. In m (below T x)) (sym e) (rw (ord.below_at x) (occurs-head x _)) in
      omega (arith, i, occurs-append k (below T x) (flat_map (below T) ks)))
      (λ (g : In k ks). omega (arith, inside-all k ks g, occurs-append k (below T x) (flat_map (below T) ks)))
      (In-cons k x ks h)

  kid-of : (n q : ℕ) → parent_of T n ≡ Some q → holds_kids (kind_of T n) ≡ true → In n (kids_of T q)
  kid-of n q up holds =
      mem-In n (kids_of T q) (⊎_elim
      (λ (h : mem n (attrs_of T q) ≡ true). absurd (no-attribute T formed n q holds (mem-In n (attrs_of T q) h)))
      (λ (h : mem n (kids_of T q) ≡ true). h)
      (mem-append n (attrs_of T q) (kids_of T q) (form.is_listed n q up)))

  pub upwards : (n q : ℕ) (front back : List ℕ) → parent_of T n ≡ Some q → holds_kids (kind_of T n) ≡ true → order T ≡ front ++ (below T n ++ back) → Above n q back
  upwards n q front back up holds e =
      let s : Split n (kids_of T q) = split_at n (kids_of T q) (kid-of n q up holds) in
      let o = ord.below_in_order q ((ways-up T formed).parent_live n q up) in
      let inner : List ℕ = attrs_of T n ++ flat_map (below T) (kids_of T n) in
      let ahead : List ℕ = attrs_of T q ++ flat_map (below T) s.front in
      let more : List ℕ = flat_map (below T) s.back in
      let all : below T q ≡ q ∷ (ahead ++ (n ∷ (inner ++ more))) =
      ord.below_at q
      ∙ ap (λ l. q ∷ l) (ap (λ ks. attrs_of T q ++ flat_map (below T) ks) s.is
      ∙ (ap (λ l. attrs_of T q ++ l) (flat_map-append (below T) s.front (n ∷ s.back) ∙ ap (λ l. flat_map (below T) s.front ++ (l ++ more)) (ord.below_at n))
      ∙ sym (append_assoc (attrs_of T q) (flat_map (below T) s.front) (n ∷ (inner ++ more))))) in
      let here : order T ≡ front ++ n ∷ (inner ++ back) = e ∙ ap (λ l. front ++ (l ++ back)) (ord.below_at n) in
      let there : order T ≡ (o.0 ++ (q ∷ ahead)) ++ n ∷ (inner ++ (more ++ o.1)) =
      o.2 ∙ (ap (λ l. o.0 ++ (l ++ o.1)) all ∙ (ap (λ l. o.0 ++ (q ∷ l)) (append_assoc ahead (n ∷ (inner ++ more)) o.1 ∙ ap (λ l. ahead ++ (n ∷ l)) (append_assoc inner more o.1))
      ∙ sym (append_assoc o.0 (q ∷ ahead) (n ∷ (inner ++ (more ++ o.1)))))) in
      let is : back ≡ more ++ o.1 = append_cancel_left inner back (more ++ o.1) (one-rest n front (o.0 ++ (q ∷ ahead)) (inner ++ back) (inner ++ (more ++ o.1)) here there) in
      record {
        elder = s.front;
        younger = s.back;
        kids = s.is ∙ sym (append_assoc s.front (n ∷ []) s.back);
        front = o.0;
        rest = o.1;
        whole = o.2;
        is = is;
        before = o.0 ++ (q ∷ ahead);
        here = there ∙ ap (λ l. (o.0 ++ (q ∷ ahead)) ++ n ∷ (inner ++ l)) (sym is);
        elders_before = λ k h.
            omega (arith, inside-all k s.front h, occurs-append k o.0 (q ∷ ahead), occurs-append k (attrs_of T q) (flat_map (below T) s.front));
      }

  -- what stands behind all below a node has kids behind it
  pub younger-behind : (n q k : ℕ) (back : List ℕ) (a : Above n q back) → In k a.younger → In k ((attrs_of T n ++ flat_map (below T) (kids_of T n)) ++ back)
  younger-behind n q k back a h =
      omega (
        arith,
        inside-all k a.younger h,
        ap (occurs k) a.is,
        occurs-append k (flat_map (below T) a.younger) a.rest,
        occurs-append k (attrs_of T n ++ flat_map (below T) (kids_of T n)) back,
      )
