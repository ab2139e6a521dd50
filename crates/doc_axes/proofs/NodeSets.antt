-- Node-sets put together.
use Rattle.std.proofs.Common.{◌≡◌, ◌≢◌, ℕ, ◌<◌, Bool, true, false, ◌||◌, List, [], ◌∷◌, ◌++◌, length, eqb, refl, sym, ap, ap₂, ◌∙◌, subst, true≢false, arith, append_assoc, append-nil, ne_eqb}
use Rattle.std.proofs.Math.Bool.{or_comm}
use Rattle.std.proofs.lemmas.List.{nil_from_length}
use Rattle.doc_tree.specs.Lists.{mem}
use Rattle.doc_tree.specs.Table.{Table, is_live}
use Rattle.doc_tree.specs.Walks.{order}
use Rattle.doc_tree.specs.Order.{is_before}
use Rattle.doc_tree.specs.Laws.{Ordered}
use Rattle.doc_tree.proofs.ListLemmas.{In, In-mem, mem-In, occurs-head}
use Rattle.doc_axes.specs.Sets.{in_order, IsNodeSet, union}
use Rattle.doc_axes.proofs.SubLists.{Sub, sub-one, filter-sub, filter-none, filter-same, mem-append_is}
use Rattle.doc_axes.proofs.Merging.{sub-filter, sub-in, sub-tail, heads_once, pair-cons, chained, pair_kept, pair_turned, kept}

-- a list of one number
pub one_alone : (n : ℕ) (rest xs : List ℕ) → xs ≡ n ∷ rest → length xs < 2 → xs ≡ n ∷ []
one_alone n rest xs e few = e ∙ ap (λ l. n ∷ l) (nil_from_length rest (omega (arith, few, ap length e)))

or-again : (b c d : Bool) → ((b || c) || d) ≡ ((b || c) || (b || d))
or-again true c d = refl
or-again false c d = refl

pub union_swap : (T : Table) (a b : List ℕ) → union T a b ≡ union T b a
union_swap T a b = filter-same (λ m. mem m a || mem m b) (λ m. mem m b || mem m a) (order T) (λ m h. or_comm (mem m a) (mem m b))

-- a node is among both where it is among one of them
pub union_of_both : (T : Table) (a b : List ℕ) → in_order T (a ++ b) ≡ union T a b
union_of_both T a b = filter-same (λ m. mem m (a ++ b)) (λ m. mem m a || mem m b) (order T) (λ m h. mem-append_is m a b)

module _ (T : Table) (ord : Ordered T) where
  set-sub : (a : List ℕ) → IsNodeSet T a → Sub a (order T)
  set-sub a e = subst (λ l. Sub l (order T)) (sym e) (sub-filter (λ m. mem m a) (order T))

  sub-set : (a : List ℕ) → Sub a (order T) → IsNodeSet T a
  sub-set a s = sym (filter-sub (λ m. mem m a) s ord.once (λ m h. refl))

  pub tail_set : (x : ℕ) (xs : List ℕ) → IsNodeSet T (x ∷ xs) → IsNodeSet T xs
  tail_set x xs e = sub-set xs (sub-tail (order T) x xs (set-sub (x ∷ xs) e))

  -- the live ones of some numbers are a node-set
  pub in_order_set : (xs : List ℕ) → IsNodeSet T (in_order T xs)
  in_order_set xs = sub-set (in_order T xs) (sub-filter (λ m. mem m xs) (order T))

  pub member_lives : (m : ℕ) (a : List ℕ) → IsNodeSet T a → In m a → is_live T m ≡ true
  member_lives m a e h = ord.live_in_order m ∙ In-mem m (order T) (sub-in m (set-sub a e) h)

  -- two node-sets that begin with one node
  pub union_both : (x y : ℕ) (xs ys : List ℕ) → IsNodeSet T (x ∷ xs) → IsNodeSet T (y ∷ ys) → x ≡ y → union T (x ∷ xs) (y ∷ ys) ≡ x ∷ union T xs ys
  union_both x y xs ys ea eb same = heads_once (order T) x y xs ys same ord.once (set-sub (x ∷ xs) ea) (set-sub (y ∷ ys) eb)

  union-kept : (x y : ℕ) (xs ys : List ℕ) → IsNodeSet T (x ∷ xs) → IsNodeSet T (y ∷ ys) → Sub (x ∷ y ∷ []) (order T) → union T (x ∷ xs) (y ∷ ys) ≡ x ∷ union T xs (y ∷ ys)
  union-kept x y xs ys ea eb r =
      filter-same (λ m. mem m (x ∷ xs) || mem m (y ∷ ys)) (λ m. mem m (x ∷ xs) || mem m (x ∷ y ∷ ys)) (order T) (λ m h. or-again (eqb m x) (mem m xs) (mem m (y ∷ ys)))
      ∙ heads_once (order T) x x xs (y ∷ ys) refl ord.once (set-sub (x ∷ xs) ea) (pair-cons (order T) x y ys ord.once r (set-sub (y ∷ ys) eb))

  -- the first set begins before the second
  pub union_first : (x y : ℕ) (xs ys : List ℕ) → IsNodeSet T (x ∷ xs) → IsNodeSet T (y ∷ ys) → is_before T x y ≡ true → union T (x ∷ xs) (y ∷ ys) ≡ x ∷ union T xs (y ∷ ys)
  union_first x y xs ys ea eb h = union-kept x y xs ys ea eb (pair_kept (order T) x y h)

  -- the second set begins before the first
  pub union_second : (x y : ℕ) (xs ys : List ℕ) → IsNodeSet T (x ∷ xs) → IsNodeSet T (y ∷ ys) → x ≢ y → is_before T x y ≡ false → union T (x ∷ xs) (y ∷ ys) ≡ y ∷ union T (x ∷ xs) ys
  union_second x y xs ys ea eb ne h =
      let hx : In x (order T) = sub-in x (set-sub (x ∷ xs) ea) (occurs-head x xs) in
      let hy : In y (order T) = sub-in y (set-sub (y ∷ ys) eb) (occurs-head y ys) in
      union_swap T (x ∷ xs) (y ∷ ys)
      ∙ (union-kept y x ys xs eb ea (pair_turned (order T) x y hx hy ne h)
      ∙ ap (λ l. y ∷ l) (union_swap T ys (x ∷ xs)))

  -- one of the sets is empty
  pub none_before : (a b : List ℕ) → IsNodeSet T b → a ≡ [] → union T a b ≡ a ++ b
  none_before a b eb none = ap (λ l. union T l b) none ∙ (sym eb ∙ ap (λ l. l ++ b) (sym none))

  pub none_behind : (a b : List ℕ) → IsNodeSet T a → b ≡ [] → union T a b ≡ a ++ b
  none_behind a b ea none = ap (union T a) none ∙ (union_swap T a [] ∙ (sym ea ∙ (sym (append-nil a) ∙ ap (λ l. a ++ l) (sym none))))

  -- the last of the first set stands before the first of the second
  pub union_behind : (front : List ℕ) (x y : ℕ) (ys : List ℕ) → IsNodeSet T (front ++ x ∷ []) → IsNodeSet T (y ∷ ys) → is_before T x y ≡ true →
      union T (front ++ x ∷ []) (y ∷ ys) ≡ (front ++ x ∷ []) ++ (y ∷ ys)
  union_behind front x y ys ea eb h =
      let r : Sub (x ∷ y ∷ ys) (order T) = pair-cons (order T) x y ys ord.once (pair_kept (order T) x y h) (set-sub (y ∷ ys) eb) in
      let s : Sub (front ++ x ∷ (y ∷ ys)) (order T) = chained (order T) front x (y ∷ ys) ord.once (set-sub (front ++ x ∷ []) ea) r in
      let k : Sub ((front ++ x ∷ []) ++ (y ∷ ys)) (order T) = subst (λ l. Sub l (order T)) (sym (append_assoc front (x ∷ []) (y ∷ ys))) s in
      filter-sub (λ m. mem m (front ++ x ∷ []) || mem m (y ∷ ys)) k ord.once (λ m g. sym (mem-append_is m (front ++ x ∷ []) (y ∷ ys)))

  -- the halves of a list, ordered apart
  pub halves : (xs ys : List ℕ) → union T (in_order T xs) (in_order T ys) ≡ in_order T (xs ++ ys)
  halves xs ys = filter-same (λ m. mem m (in_order T xs) || mem m (in_order T ys)) (λ m. mem m (xs ++ ys)) (order T)
      (λ m h. ap₂ (λ a b. a || b) (kept (λ q. mem q xs) m (order T) h) (kept (λ q. mem q ys) m (order T) h) ∙ sym (mem-append_is m xs ys))

  pub one_live : (n : ℕ) → is_live T n ≡ true → in_order T (n ∷ []) ≡ n ∷ []
  one_live n h = filter-sub (λ m. mem m (n ∷ [])) (sub-one n (order T) (mem-In n (order T) (sym (ord.live_in_order n) ∙ h))) ord.once (λ m g. refl)

  pub one_dead : (n : ℕ) → is_live T n ≡ false → in_order T (n ∷ []) ≡ []
  one_dead n h = filter-none (λ m. mem m (n ∷ [])) (order T)
      (λ m g. ap (λ b. b || false) (ne_eqb m n (λ e. absurd (true≢false (sym (In-mem m (order T) g) ∙ (ap (λ q. mem q (order T)) e ∙ (sym (ord.live_in_order n) ∙ h)))))))

  pub none_in_order : in_order T [] ≡ []
  none_in_order = filter-none (λ m. false) (order T) (λ m g. refl)

  -- a node-set, and a node that its last stands before
  pub set_more : (xs front : List ℕ) (x y : ℕ) → xs ≡ front ++ x ∷ [] → IsNodeSet T xs → is_live T y ≡ true → is_before T x y ≡ true → IsNodeSet T (xs ++ y ∷ [])
  set_more xs front x y e set live h =
      let ends : IsNodeSet T (front ++ x ∷ []) = subst (IsNodeSet T) e set in
      let both : union T (front ++ x ∷ []) (y ∷ []) ≡ (front ++ x ∷ []) ++ y ∷ [] = union_behind front x y [] ends (sym (one_live y live)) h in
      let k : Sub ((front ++ x ∷ []) ++ y ∷ []) (order T) =
      subst (λ l. Sub l (order T)) both (sub-filter (λ m. mem m (front ++ x ∷ []) || mem m (y ∷ [])) (order T)) in
      subst (λ l. IsNodeSet T (l ++ y ∷ [])) (sym e) (sub-set ((front ++ x ∷ []) ++ y ∷ []) k)
