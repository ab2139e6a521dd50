-- A node between two texts went, and the texts became one: the left one says its own again, and then the node and the right one come back.
use Rattle.std.proofs.Common.{◌≡◌, ◌≢◌, ℕ, suc, ◌+◌, ◌≤◌, cond, eqb, true, List, [], ◌∷◌, ◌++◌, ◌⊎◌, length, map, take, drop, Some, is_some, refl, sym, ap, ap₂, ◌∙◌, inl, inr, subst, ⊎_elim, arith, append_assoc, eq-eqb, ne_eqb, length-append}
use Rattle.std.proofs.lemmas.List.{map-append}
use Rattle.doc_table.specs.Kinds.{is_text}
use Rattle.doc_table.specs.Laws.{TextsApart}
use Rattle.doc_table.specs.Lines.{lines, lines_below}
use Rattle.doc_table.specs.Lists.{occurs}
use Rattle.doc_table.specs.SameTree.{SameTree}
use Rattle.doc_table.specs.Table.{Table, attrs_of, is_live, kids_above, kids_of, kind_of, parent_of, value_at, value_of}
use Rattle.doc_table.specs.Walks.{below}
use Rattle.doc_table.specs.inner.Sound.{Formed}
use Rattle.doc_table.proofs.Forests.{formed-of}
use Rattle.doc_table.proofs.ListLemmas.{In, In-mem, eq_or, occurs-append, occurs-head}
use Rattle.doc_table.proofs.TreeLaws.{ways-up, well-formed}
use Rattle.doc_table.proofs.Ways.{live-below}
use Rattle.doc_edits.specs.Changes.{deleted, deleted_by, given_number, inserted, meeting, nodes_in, removed, said}
use Rattle.doc_edits.specs.Fitting.{MayTake}
use Rattle.doc_edits.proofs.ClearLemmas.{live-kept}
use Rattle.doc_edits.proofs.DeletionLemmas.{first-apart, meeting-on, second-apart}
use Rattle.doc_edits.proofs.InsertionLemmas.{kids-parent, nodes-flat, nodes-live, number-new}
use Rattle.doc_edits.proofs.InsertionTreeLemmas.{insertion}
use Rattle.doc_edits.proofs.RemovalLemmas.{live-owner, out, remaining, same-parent}
use Rattle.doc_undo_laws.specs.Undoing.{MergesAreUndone}
use Rattle.doc_undo_laws.proofs.Alongside.{live-content, map-fixed}
use Rattle.doc_undo_laws.proofs.ContentBack.{said-back}
use Rattle.doc_undo_laws.proofs.PieceLines.{ShowsPiece, new-lines, new-shown, piece-lines, top-number}
use Rattle.doc_undo_laws.proofs.Settling.{Settled, Stays, attribute-stays, gone-other, inserted-stays, owner-stays, removed-stays, root-stays, settle, stays-below, stays-live, stays-on}
use Rattle.doc_undo_laws.proofs.DeletionUndone.{is-rest, kid-up, kids-rest, listed, not-before, not-behind, put-at, rest-formed, without-it}

-- two numbers have come in the place of two others
abbrev both : ℕ → ℕ → ℕ → ℕ → ℕ → ℕ
both n a r b m = cond (eqb m n) a (cond (eqb m r) b m)

both-first : (n a r b : ℕ) → both n a r b n ≡ a
both-first n a r b = rw (eq-eqb n n refl) refl

both-second : (n a r b : ℕ) → r ≢ n → both n a r b r ≡ b
both-second n a r b ne = rw (ne_eqb r n ne, eq-eqb r r refl) refl

both-other : (n a r b m : ℕ) → m ≢ n → m ≢ r → both n a r b m ≡ m
both-other n a r b m ne nr = rw (ne_eqb m n ne, ne_eqb m r nr) refl

-- the texts beside a number meet where it goes
meets : (T : Table) (n l r : ℕ) (front back : List ℕ) → l ≢ n → ((k : ℕ) → In k front → k ≢ n) → is_text (kind_of T l) ≡ true → is_text (kind_of T r) ≡ true →
    meeting T n (front ++ l ∷ n ∷ r ∷ back) ≡ Some (record { left = l; right = r })
meets T n l r [] back left others tl tr = rw (eq-eqb n n refl, tl, tr) refl
meets T n l r (f ∷ []) back left others tl tr = meeting-on T n f l (n ∷ r ∷ back) left ∙ meets T n l r [] back left (λ k h. absurd (omega (arith, h))) tl tr
meets T n l r (f ∷ g ∷ front) back left others tl tr =
    meeting-on T n f g (front ++ l ∷ n ∷ r ∷ back) (others g (omega (arith, occurs-head g front)))
    ∙ meets T n l r (g ∷ front) back left (λ k h. others k (omega (arith, h))) tl tr

module _ (T P Q : Table) (n p l r : ℕ) (front back : List ℕ) (t : Formed T) (fp : Formed P) (fq : Formed Q) (kids : kids_of T p ≡ front ++ l ∷ n ∷ r ∷ back)
    (tl : is_text (kind_of T l) ≡ true) (tr : is_text (kind_of T r) ≡ true) where
  abbrev to_right : List ℕ
  to_right = front ++ l ∷ n ∷ []

  abbrev to_node : List ℕ
  to_node = front ++ l ∷ []

  once : (k : ℕ) → occurs k (kids_of T p) ≤ 1
  once = (well-formed T t).kids_once p

  split-right : kids_of T p ≡ to_right ++ r ∷ back
  split-right = kids ∙ sym (append_assoc front (l ∷ n ∷ []) (r ∷ back))

  split-node : kids_of T p ≡ to_node ++ n ∷ r ∷ back
  split-node = kids ∙ sym (append_assoc front (l ∷ []) (n ∷ r ∷ back))

  up : parent_of T n ≡ Some p
  up = (well-formed T t).kid_parent p n (In-mem n (kids_of T p) (listed n (kids_of T p) to_node (r ∷ back) once split-node))

  kid-right : In r (kids_of T p)
  kid-right = listed r (kids_of T p) to_right back once split-right

  apart-right : TextsApart T (to_right ++ back)
  apart-right = subst (TextsApart T) (without-it r (kids_of T p) to_right back once split-right) (first-apart T n p l r front back t up kids tl tr)

  pub up-right : parent_of T r ≡ Some p
  up-right = kid-up T P r p to_right back t fp split-right apart-right

  -- without the right text
  abbrev S : Table
  S = remaining T r p t up-right

  pub s : Formed S
  s = rest-formed T P r p to_right back t fp split-right apart-right

  kids-S : kids_of S p ≡ to_node ++ n ∷ back
  kids-S = kids-rest T P r p to_right back t fp split-right apart-right ∙ (append_assoc front (l ∷ n ∷ []) back ∙ sym (append_assoc front (l ∷ []) (n ∷ back)))

  once-S : (k : ℕ) → occurs k (kids_of S p) ≤ 1
  once-S = (well-formed S s).kids_once p

  kid-node : In n (kids_of S p)
  kid-node = listed n (kids_of S p) to_node back once-S kids-S

  apart-node : TextsApart S (to_node ++ back)
  apart-node = subst (TextsApart S) (without-it n (kids_of S p) to_node back once-S kids-S) (second-apart T n p l r front back t up kids tl tr)

  pub up-node : parent_of S n ≡ Some p
  up-node = kid-up S P n p to_node back s fp kids-S apart-node

  -- and without the node
  abbrev R : Table
  R = remaining S n p s up-node

  formed-R : Formed R
  formed-R = rest-formed S P n p to_node back s fp kids-S apart-node

  kids-R : kids_of R p ≡ to_node ++ back
  kids-R = kids-rest S P n p to_node back s fp kids-S apart-node

  is-R : removed (removed T r) n ≡ R
  is-R = ap (λ U. removed U n) (is-rest T P r p to_right back t fp split-right apart-right) ∙ is-rest S P n p to_node back s fp kids-S apart-node

  live-S : (m : ℕ) → is_live R m ≡ true → is_live S m ≡ true
  live-S m h = sym (live-kept S n p (below S n) (live-owner S n p s up-node) m (out S n p s up-node m h)) ∙ h

  stays-R : (m : ℕ) → is_live R m ≡ true → Stays T R p m
  stays-R m h = stays-on T S R p m (removed-stays T r p t up-right kid-right m (live-S m h)) (removed-stays S n p s up-node kid-node m h)

  owner-R : is_live R p ≡ true
  owner-R = owner-stays S n p s up-node kid-node

  -- which is what the left text leaves that says its own again
  left-live : is_live R l ≡ true
  left-live = (ways-up R formed-R).kid_live p l (In-mem l (kids_of R p) (rw kids-R (omega (arith, occurs-append l to_node back, occurs-append l front (l ∷ []), occurs-head l []))))

  left-other : (k : ℕ) → In k to_node → k ≢ n
  left-other k h = not-before n (kids_of T p) to_node (r ∷ back) once split-node k h

  is-met : deleted T n ≡ said R l (value_of T l ++ value_of T r)
  is-met =
      ap (λ o. deleted_by T n (meeting T n (kids_above T o))) up
      ∙ (ap (deleted_by T n) (ap (meeting T n) kids
      ∙ meets T n l r front back (left-other l (omega (arith, occurs-append l front (l ∷ []), occurs-head l []))) (λ k h. left-other k (omega (arith, h, occurs-append k front (l ∷ [])))) tl tr)
      ∙ ap (λ U. said U l (value_of T l ++ value_of T r)) is-R)

  pub is-left : said (deleted T n) l (value_of T l) ≡ R
  is-left =
      ap (λ U. said U l (value_of T l)) is-met
      ∙ (ap (λ v. said (said R l (value_of T l ++ value_of T r)) l v) (sym (ap value_at (stays-R l left-live).content))
      ∙ said-back R l (value_of T l ++ value_of T r))

  module _ (first second : ℕ) (is-first : first ≡ length to_node) (may-first : MayTake R p first P) (is-second : second ≡ suc first) (may-second : MayTake (inserted R p first P) p second Q)
      (same-node : lines P ≡ lines_below T n) (same-right : lines Q ≡ lines_below T r) where
    abbrev V : Table
    V = inserted R p first P

    v : Formed V
    v = insertion R p first P formed-R fp may-first

    abbrev W : Table
    W = inserted V p second Q

    w : Formed W
    w = insertion V p second Q v fq may-second

    live-V : (m : ℕ) → is_live R m ≡ true → is_live V m ≡ true
    live-V m h = stays-live R V p m (inserted-stays R P p first owner-R m h) h

    owner-V : is_live V p ≡ true
    owner-V = live-V p owner-R

    abbrev f : ℕ → ℕ
    f = both n (length R) r (length V)

    right-other : r ≢ n
    right-other e = not-behind n (kids_of T p) to_node (r ∷ back) once split-node r (occurs-head r back) e

    other-node : (m : ℕ) → is_live R m ≡ true → m ≢ n
    other-node m h = gone-other S n p s up-node kid-node m h

    other-right : (m : ℕ) → is_live R m ≡ true → m ≢ r
    other-right m h = gone-other T r p t up-right kid-right m (live-S m h)

    fixed : (m : ℕ) → is_live R m ≡ true → f m ≡ m
    fixed m h = both-other n (length R) r (length V) m (other-node m h) (other-right m h)

    stays : (m : ℕ) → is_live R m ≡ true → Stays T W p m
    stays m h =
        stays-on T R W p m (stays-R m h)
        (stays-on R V W p m (inserted-stays R P p first owner-R m h) (inserted-stays V Q p second owner-V m (live-V m h)))

    -- the kids
    kids-V : kids_of V p ≡ to_node ++ length R ∷ back
    kids-V =
        kids-parent R P p first owner-R
        ∙ (ap₂ (λ (k : ℕ) (ks : List ℕ). take k ks ++ length R ∷ drop k ks) is-first kids-R
        ∙ put-at to_node back (length R))

    long : second ≡ length (to_node ++ length R ∷ [])
    long = omega (arith, is-second, is-first, length-append to_node (length R ∷ []))

    kids-W : kids_of W p ≡ (to_node ++ length R ∷ []) ++ length V ∷ back
    kids-W =
        kids-parent V Q p second owner-V
        ∙ (ap₂ (λ (k : ℕ) (ks : List ℕ). take k ks ++ length V ∷ drop k ks) long (kids-V ∙ sym (append_assoc to_node (length R ∷ []) back))
        ∙ put-at (to_node ++ length R ∷ []) back (length V))

    fixed-front : map f to_node ≡ to_node
    fixed-front =
        map-fixed f to_node (λ k h. both-other n (length R) r (length V) k (left-other k h)
        (not-before r (kids_of T p) to_right back once split-right k (omega (arith, h, occurs-append k front (l ∷ []), occurs-append k front (l ∷ n ∷ [])))))

    fixed-back : map f back ≡ back
    fixed-back =
        map-fixed f back (λ k h. both-other n (length R) r (length V) k
        (not-behind n (kids_of T p) to_node (r ∷ back) once split-node k (omega (arith, h)))
        (not-behind r (kids_of T p) to_right back once split-right k h))

    kids-moved : map f (kids_of T p) ≡ to_node ++ length R ∷ length V ∷ back
    kids-moved =
        ap (map f) split-node
        ∙ (map-append f to_node (n ∷ r ∷ back)
        ∙ ap₂ (λ (a b : List ℕ). a ++ b) fixed-front
        (ap₂ (λ (a : ℕ) (b : List ℕ). a ∷ b) (both-first n (length R) r (length V))
        (ap₂ (λ (a : ℕ) (b : List ℕ). a ∷ b) (both-second n (length R) r (length V) right-other) fixed-back)))

    kids-are : kids_of W p ≡ map f (kids_of T p)
    kids-are = kids-W ∙ (append_assoc to_node (length R ∷ []) (length V ∷ back) ∙ sym kids-moved)

    -- the node that came back first stays when the text comes
    shown : (m : ℕ) → In m (nodes_in P) → ShowsPiece (given_number R P) P W m
    shown m h =
        let here : ShowsPiece (given_number R P) P V m = new-shown P fp R p first owner-R m h in
        let lives : is_live V (given_number R P m) ≡ true =
        live-content V (given_number R P m) ∙ (ap is_some here.content ∙ (sym (live-content P m) ∙ nodes-live P fp.forest fp.whole (nodes-flat P fp) m h)) in
        let stay : Stays V W p (given_number R P m) = inserted-stays V Q p second owner-V (given_number R P m) lives in
        let new : length R ≤ given_number R P m = (number-new R P m h).0 in
        record {
          content = stay.content ∙ here.content;
          attributes = stay.attributes ∙ here.attributes;
          kids = stay.kids (λ e. absurd (omega (arith, e, new, live-below R p owner-R))) ∙ here.kids;
        }

    node-lines : lines_below W (f n) ≡ lines_below T n
    node-lines =
        ap (lines_below W) (both-first n (length R) r (length V) ∙ sym (top-number P fp R may-first.top may-first.one))
        ∙ (piece-lines P fp (given_number R P) W may-first.top w may-first.one shown ∙ same-node)

    right-lines : lines_below W (f r) ≡ lines_below T r
    right-lines =
        ap (lines_below W) (both-second n (length R) r (length V) right-other)
        ∙ (new-lines Q fq V p second may-second.top owner-V may-second.one w ∙ same-right)

    -- what hangs from what stays
    stays-hanging : (m k : ℕ) → is_live R m ≡ true → k ≢ n → k ≢ r → parent_of T k ≡ Some m → is_live R k ≡ true
    stays-hanging m k h ne nr hangs =
        let lives : is_live S k ≡ true = stays-below T r p t up-right kid-right m k (live-S m h) nr hangs in
        stays-below S n p s up-node kid-node m k h ne (same-parent T r p t up-right k (out T r p t up-right k lives) ∙ hangs)

    inside : (k : ℕ) → In k (kids_of T p) → ((k ≡ n) ⊎ (k ≡ r)) ⊎ (is_live R k ≡ true)
    inside k h =
        ⊎_elim (λ (e : k ≡ n). inl (inl e))
        (λ (ne : k ≢ n). ⊎_elim (λ (e : k ≡ r). inl (inr e))
        (λ (nr : k ≢ r). inr (stays-hanging p k owner-R ne nr ((well-formed T t).kid_parent p k (In-mem k (kids_of T p) h)))) (eq_or k r)) (eq_or k n)

    down : (m k : ℕ) → is_live R m ≡ true → m ≢ p → In k (kids_of T m) → is_live R k ≡ true
    down m k h ne i =
        let hangs : parent_of T k ≡ Some m = (well-formed T t).kid_parent m k (In-mem k (kids_of T m) i) in
        let under : (j : ℕ) → parent_of T j ≡ Some p → k ≢ j = λ j e same. (let also : parent_of T k ≡ Some p = ap (parent_of T) same ∙ e in let one : m ≡ p = (cc) in ne one) in
        stays-hanging m k h (under n up) (under r up-right) hangs

    attributes : (m a : ℕ) → is_live R m ≡ true → In a (attrs_of T m) → is_live R a ≡ true
    attributes m a h i =
        let among : In a (attrs_of S m) = subst (In a) (sym (removed-stays T r p t up-right kid-right m (live-S m h)).attributes) i in
        attribute-stays S n p s up-node kid-node m a h among

    settled : Settled f T W p (λ m. is_live R m ≡ true) (λ m. (m ≡ n) ⊎ (m ≡ r))
    settled = record {
      stays = stays;
      fixed = fixed;
      down = down;
      attributes = attributes;
      kids = kids-are;
      inside = inside;
      alike = λ k new. ⊎_elim (λ (e : k ≡ n). subst (λ j. lines_below W (f j) ≡ lines_below T j) (sym e) node-lines)
          (λ (e : k ≡ r). subst (λ j. lines_below W (f j) ≡ lines_below T j) (sym e) right-lines) new;
      root = root-stays S n p s up-node kid-node;
    }

    pub merge-undone : SameTree T W
    merge-undone = settle f T W p (λ m. is_live R m ≡ true) (λ m. (m ≡ n) ⊎ (m ≡ r)) t w settled

pub merges-are-undone : MergesAreUndone
merges-are-undone T P Q n p left right front back form piece other kids tl tr same-node same-right may-first may-second =
    let t : Formed T = formed-of T form in
    let fp : Formed P = formed-of P piece in
    let fq : Formed Q = formed-of Q other in
    let D : Table = said (deleted T n) left (value_of T left) in
    let is : D ≡ R T P Q n p left right front back t fp fq kids tl tr = is-left T P Q n p left right front back t fp fq kids tl tr in
    subst (λ U. SameTree T (inserted (inserted U p (length front + 1) P) p (length front + 2) Q)) (sym is)
    (merge-undone T P Q n p left right front back t fp fq kids tl tr (length front + 1) (length front + 2)
    (sym (length-append front (left ∷ []))) (subst (λ U. MayTake U p (length front + 1) P) is may-first) (omega arith)
    (subst (λ U. MayTake (inserted U p (length front + 1) P) p (length front + 2) Q) is may-second) same-node same-right)
