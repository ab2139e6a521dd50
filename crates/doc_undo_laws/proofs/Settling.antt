-- A tree in which a node's kids are others, with the same lines, and all else stays, is the same tree.
use Rattle.std.proofs.Common.{◌≡◌, ◌≢◌, ℕ, true, ◌⊎◌, map, Some, is_some, refl, sym, ap, ◌∙◌, inl, inr, subst, ⊎_elim, arith}
use Rattle.std.specs.List.{flat_map}
use Rattle.doc_table.specs.Lists.{occurs}
use Rattle.doc_table.specs.Table.{Table, attrs_of, content_of, is_live, kids_of, parent_of}
use Rattle.doc_table.specs.Walks.{below}
use Rattle.doc_table.specs.Lines.{first_lines, lines_at, lines_below, opens}
use Rattle.doc_table.specs.SameTree.{SameTree}
use Rattle.doc_table.specs.inner.Sound.{Formed}
use Rattle.doc_table.proofs.ListLemmas.{In, In-mem, eq_or, flat_map-same, occurs-head}
use Rattle.doc_table.proofs.TreeLaws.{ordered, well-formed}
use Rattle.doc_table.proofs.Ways.{In-live, parent-has}
use Rattle.doc_edits.specs.Changes.{inserted}
use Rattle.doc_edits.proofs.ClearLemmas.{live-kept, without-none}
use Rattle.doc_edits.proofs.InsertionLemmas.{IsOther, attributes-kept, content-kept, links-kept, old-other}
use Rattle.doc_edits.proofs.PruneLemmas.{none-in, not-both}
use Rattle.doc_edits.proofs.RemovalLemmas.{attributes-left, cutting, kids-left, live-owner, out, remaining, same-content}
use Rattle.doc_undo_laws.proofs.Alongside.{Says, along, live-content, map-fixed, same-tree}

-- a node stays as it was, but for the kids of one node
pub record Stays (T U : Table) (p m : ℕ) : Type 0 where
  pub content : content_of U m ≡ content_of T m
  pub attributes : attrs_of U m ≡ attrs_of T m
  pub kids : m ≢ p → kids_of U m ≡ kids_of T m

pub stays-on : (T U V : Table) (p m : ℕ) → Stays T U p m → Stays U V p m → Stays T V p m
stays-on T U V p m a b = record {
  content = b.content ∙ a.content;
  attributes = b.attributes ∙ a.attributes;
  kids = λ ne. b.kids ne ∙ a.kids ne;
}

pub stays-live : (T U : Table) (p m : ℕ) → Stays T U p m → is_live T m ≡ true → is_live U m ≡ true
stays-live T U p m s live = live-content U m ∙ (ap is_some s.content ∙ (sym (live-content T m) ∙ live))

-- a piece that comes under p
pub inserted-stays : (T P : Table) (p before : ℕ) → is_live T p ≡ true → (m : ℕ) → is_live T m ≡ true → Stays T (inserted T p before P) p m
inserted-stays T P p before live m here =
    let other : IsOther T P m = old-other T P p before live m here in
    record {
      content = content-kept T P p before live m other;
      attributes = attributes-kept T P p before live m other;
      kids = λ ne. (links-kept T P p before live m other ne).kids;
    }

-- a kid of p that goes
module _ (T : Table) (n p : ℕ) (t : Formed T) (up : parent_of T n ≡ Some p) (kid : In n (kids_of T p)) where
  abbrev R : Table
  R = remaining T n p t up

  pub gone-other : (m : ℕ) → is_live R m ≡ true → m ≢ n
  gone-other m live e = absurd (omega (arith, out T n p t up m live, subst (λ k. In k (below T n)) (sym e) (subst (In n) (sym ((ordered T t).below_at n)) (occurs-head n _))))

  pub owner-stays : is_live R p ≡ true
  owner-stays = live-kept T n p (below T n) (live-owner T n p t up) p (cutting T n p t up).apart ∙ live-owner T n p t up

  pub root-stays : is_live R 0 ≡ true
  root-stays = In-live R (cutting T n p t up).forest (cutting T n p t up).whole 0 (occurs-head 0 _)

  -- what hangs from what stays, but the node, stays
  pub stays-below : (m k : ℕ) → is_live R m ≡ true → k ≢ n → parent_of T k ≡ Some m → is_live R k ≡ true
  stays-below m k live ne hangs =
      let away : occurs k (below T n) ≡ 0 = none-in (occurs k (below T n)) (λ h. absurd (omega (arith, out T n p t up m live, (cutting T n p t up).within k m h ne hangs))) in
      live-kept T n p (below T n) (live-owner T n p t up) k away ∙ parent-has T k m hangs

  pub kid-stays : (m k : ℕ) → is_live R m ≡ true → k ≢ n → In k (kids_of T m) → is_live R k ≡ true
  kid-stays m k live ne h = stays-below m k live ne ((well-formed T t).kid_parent m k (In-mem k (kids_of T m) h))

  -- it is a kid of p alone
  pub kid-other : (m k : ℕ) → m ≢ p → In k (kids_of T m) → k ≢ n
  kid-other m k ne h e =
      let hangs : parent_of T n ≡ Some m = ap (parent_of T) (sym e) ∙ (well-formed T t).kid_parent m k (In-mem k (kids_of T m) h) in
      let same : p ≡ m = (cc) in
      ne (sym same)

  pub attribute-stays : (m a : ℕ) → is_live R m ≡ true → In a (attrs_of T m) → is_live R a ≡ true
  attribute-stays m a live h =
      stays-below m a live (λ e. not-both (well-formed T t) n p m kid (subst (λ k. In k (attrs_of T m)) e h)) ((well-formed T t).attribute_parent m a (In-mem a (attrs_of T m) h))

  pub removed-stays : (m : ℕ) → is_live R m ≡ true → Stays T R p m
  removed-stays m live =
      let away : occurs m (below T n) ≡ 0 = out T n p t up m live in
      record {
        content = same-content T n p t up m away;
        attributes = attributes-left T n p t up m away ∙ without-none n (attrs_of T m) (none-in (occurs n (attrs_of T m)) (λ h. not-both (well-formed T t) n p m kid h));
        kids = λ ne. kids-left T n p t up m away ∙ without-none n (kids_of T m) (none-in (occurs n (kids_of T m)) (λ h. kid-other m n ne h refl));
      }

-- what holds of the nodes that stay, and of the kids that are others
pub record Settled (f : ℕ → ℕ) (T U : Table) (p : ℕ) (Old New : ℕ → Type 0) : Type 0 where
  pub stays : (m : ℕ) → Old m → Stays T U p m
  pub fixed : (m : ℕ) → Old m → f m ≡ m
  pub down : (m k : ℕ) → Old m → m ≢ p → In k (kids_of T m) → Old k
  pub attributes : (m a : ℕ) → Old m → In a (attrs_of T m) → Old a
  pub kids : kids_of U p ≡ map f (kids_of T p)
  pub inside : (k : ℕ) → In k (kids_of T p) → New k ⊎ Old k
  pub alike : (k : ℕ) → New k → lines_below U (f k) ≡ lines_below T k
  pub root : Old 0

module _ (f : ℕ → ℕ) (T U : Table) (p : ℕ) (Old New : ℕ → Type 0) (t : Formed T) (u : Formed U) (s : Settled f T U p Old New) where
  abbrev Among : ℕ → Type 0
  Among m = New m ⊎ Old m

  old-says : (m : ℕ) → Old m → Says f T U Among m
  old-says m old =
      let stays : Stays T U p m = s.stays m old in
      let here : f m ≡ m = s.fixed m old in
      record {
        content = ap (content_of U) here ∙ stays.content;
        attributes = ap (λ k. flat_map (opens U) (attrs_of U k)) here
            ∙ (ap (flat_map (opens U)) stays.attributes ∙ flat_map-same (opens U) (opens T) (attrs_of T m) (λ a h. ap (lines_at first_lines) (s.stays a (s.attributes m a old h)).content));
        kids = ⊎_elim (λ (e : m ≡ p). ap (kids_of U) (here ∙ e) ∙ (s.kids ∙ ap (λ k. map f (kids_of T k)) (sym e)))
            (λ (ne : m ≢ p). ap (kids_of U) here ∙ (stays.kids ne ∙ sym (map-fixed f (kids_of T m) (λ k h. s.fixed k (s.down m k old ne h))))) (eq_or m p);
        inside = λ k h. ⊎_elim (λ (e : m ≡ p). s.inside k (subst (λ q. In k (kids_of T q)) e h)) (λ (ne : m ≢ p). let r : Among k = inr (s.down m k old ne h) in r) (eq_or m p);
      }

  pub settle : SameTree T U
  settle =
      let zero : Among 0 = inr s.root in
      same-tree f T U t u (s.fixed 0 s.root)
      (along f T U t u Among
      (λ m among. ⊎_elim (λ (new : New m). inl (s.alike m new)) (λ (old : Old m). inr (old-says m old)) among)
      0 zero)
