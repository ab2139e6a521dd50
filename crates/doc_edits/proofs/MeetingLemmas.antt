-- The texts that meet by the place of the node between them, and the steps of a deletion.
use Rattle.std.proofs.Common.{◌≡◌, ◌≢◌, ℕ, ◌+◌, ◌-◌, ◌<◌, ◌≤◌, zero, suc, true, false, ◌&&◌, ◌⊎◌, List, [], ◌∷◌, ◌++◌, length, take, drop, get_or, Option, None, Some, is_some, refl, sym, ap, ap₂, ◌∙◌, subst, inl, inr, ⊎_elim, true≢false, arith, eq-eqb, length-append}
use Rattle.std.specs.Prelude.{if◌then◌else◌}
use Rattle.std.proofs.lemmas.List.{length-take-le}
use Rattle.doc_table.specs.Kinds.{can_be_kid, is_text}
use Rattle.doc_table.specs.Laws.{TextsApart, WellFormed}
use Rattle.doc_table.specs.Lists.{mem, occurs}
use Rattle.doc_table.specs.Table.{Facts, Table, attrs_of, content_at, entry_at, kids_above, kids_of, kind_at, kind_of, parent_of, value_of}
use Rattle.doc_table.specs.inner.Sound.{Formed}
use Rattle.doc_table.proofs.ListLemmas.{In, In-mem, mem-In, mem-append, occurs-append, occurs-head, occurs-same}
use Rattle.doc_table.proofs.TreeLaws.{ways-up, well-formed}
use Rattle.doc_table.proofs.Ways.{parent-has}
use Rattle.doc_edits.specs.Changes.{Meeting, meeting, removed, without}
use Rattle.doc_edits.specs.Fitting.{MayGo, MaySay}
use Rattle.doc_edits.proofs.ClearLemmas.{without-split}
use Rattle.doc_edits.proofs.DeletionLemmas.{Met, met, meeting-on, lone-apart, up-right, first, first-apart, first-formed, first-up, is-first, is-second, second-apart, may-say}

-- two numbers, if both are texts
abbrev pub pair_of : Table → ℕ → ℕ → Option Meeting
pair_of T l r = if is_text (kind_of T l) && is_text (kind_of T r) then Some (record { left = l; right = r }) else None

pub both-texts : (T : Table) (l r : ℕ) → (is_text (kind_of T l) && is_text (kind_of T r)) ≡ true → pair_of T l r ≡ Some (record { left = l; right = r })
both-texts T l r e = rw e refl

pub not-both-texts : (T : Table) (l r : ℕ) → (is_text (kind_of T l) && is_text (kind_of T r)) ≡ false → pair_of T l r ≡ None
not-both-texts T l r e = rw e refl

-- along a list of kids
module _ (T : Table) (n : ℕ) where
  other : (m : ℕ) (ms : List ℕ) → occurs n (m ∷ ms) ≡ 0 → m ≢ n
  other m ms h e = absurd (let k : 1 ≤ occurs n (m ∷ ms) = subst (λ j. 1 ≤ occurs n (j ∷ ms)) (sym e) (occurs-head n ms) in omega arith)

  -- none meet at a number that stands not behind the first
  meet-none : (x : ℕ) (ms : List ℕ) → occurs n ms ≡ 0 → meeting T n (x ∷ ms) ≡ None
  meet-none x [] h = refl
  meet-none x (m ∷ ms) h = meeting-on T n x m ms (other m ms h) ∙ meet-none m ms (omega (arith, h))

  -- nor at the last
  meet-end : (front : List ℕ) → occurs n front ≡ 0 → meeting T n (front ++ n ∷ []) ≡ None
  meet-end [] h = refl
  meet-end (x ∷ []) h = refl
  meet-end (x ∷ m ∷ front) h = meeting-on T n x m (front ++ n ∷ []) (other m front (omega (arith, h))) ∙ meet-end (m ∷ front) (omega (arith, h))

  -- at another the two beside it
  meet-between : (front : List ℕ) (r : ℕ) (back : List ℕ) (i : ℕ) → occurs n front ≡ 0 → i + 1 ≡ length front →
      meeting T n (front ++ (n ∷ r ∷ back)) ≡ pair_of T (get_or (front ++ (n ∷ r ∷ back)) i 0) r
  meet-between [] r back i h e = absurd (omega (arith, e))
  meet-between (x ∷ []) r back zero h e = rw (eq-eqb n n refl) refl
  meet-between (x ∷ []) r back (suc i) h e = absurd (omega (arith, e))
  meet-between (x ∷ m ∷ front) r back zero h e = absurd (omega (arith, e))
  meet-between (x ∷ m ∷ front) r back (suc i) h e =
      meeting-on T n x m (front ++ (n ∷ r ∷ back)) (other m front (omega (arith, h))) ∙ meet-between (m ∷ front) r back i (omega (arith, h)) (omega (arith, e))

-- what stands behind a number
get-behind : (front : List ℕ) (n r : ℕ) (back : List ℕ) (i : ℕ) → i ≡ length front + 1 → get_or (front ++ (n ∷ r ∷ back)) i 0 ≡ r
get-behind [] n r back zero e = absurd (omega (arith, e))
get-behind [] n r back (suc zero) e = refl
get-behind [] n r back (suc (suc i)) e = absurd (omega (arith, e))
get-behind (x ∷ front) n r back zero e = absurd (omega (arith, e))
get-behind (x ∷ front) n r back (suc i) e = get-behind front n r back i (omega (arith, e))

-- a kid hangs among the kids
pub kid-listed : (T : Table) (n p : ℕ) → Formed T → parent_of T n ≡ Some p → can_be_kid (kind_of T n) ≡ true → In n (kids_of T p)
kid-listed T n p formed up kid =
    let form : WellFormed T = well-formed T formed in
    mem-In n (kids_of T p) (⊎_elim
    (λ (h : mem n (attrs_of T p) ≡ true). absurd (true≢false (sym kid ∙ ap can_be_kid (form.attribute_kind p n h))))
    (λ (h : mem n (kids_of T p) ≡ true). h)
    (mem-append n (attrs_of T p) (kids_of T p) (form.is_listed n p up)))

-- a kid by its place
module _ (T : Table) (n p place : ℕ) (formed : Formed T) (short : place < length (kids_of T p)) (is : kids_of T p ≡ take place (kids_of T p) ++ n ∷ drop (suc place) (kids_of T p)) where
  abbrev front : List ℕ
  front = take place (kids_of T p)

  abbrev back : List ℕ
  back = drop (suc place) (kids_of T p)

  not-beside : occurs n front + occurs n back ≡ 0
  not-beside =
      omega (arith, (well-formed T formed).kids_once p n, ap (occurs n) is, occurs-append n front (n ∷ back), occurs-same n back)

  here : place ≡ length front
  here = sym (length-take-le place (kids_of T p) (omega (arith, short)))

  pub none-beside : (place ≡ 0) ⊎ (length (kids_of T p) ≤ place + 1) → meeting T n (kids_of T p) ≡ None
  none-beside edge = ap (meeting T n) is ∙ by front back not-beside (cases edge)
    where
      cases : (place ≡ 0) ⊎ (length (kids_of T p) ≤ place + 1) → (length front ≡ 0) ⊎ (length back ≡ 0)
      cases e =
          ⊎_elim (λ (h : place ≡ 0). inl (sym here ∙ h))
          (λ (h : length (kids_of T p) ≤ place + 1). inr (omega (arith, h, here, ap length is, length-append front (n ∷ back)))) e

      by : (front back : List ℕ) → occurs n front + occurs n back ≡ 0 → (length front ≡ 0) ⊎ (length back ≡ 0) → meeting T n (front ++ n ∷ back) ≡ None
      by [] back once e = meet-none T n n back (omega (arith, once))
      by (x ∷ front) [] once e = meet-end T n (x ∷ front) (omega (arith, once))
      by (x ∷ front) (r ∷ back) once e =
          absurd (⊎_elim (λ (h : length (x ∷ front) ≡ 0). let no : ⊥ = omega (arith, h) in no) (λ (h : length (r ∷ back) ≡ 0). let no : ⊥ = omega (arith, h) in no) e)

  pub pair-beside : (l r : ℕ) → 0 < place → place + 1 < length (kids_of T p) → l ≡ get_or (kids_of T p) (place - 1) 0 → r ≡ get_or (kids_of T p) (place + 1) 0 →
      meeting T n (kids_of T p) ≡ pair_of T l r
  pair-beside l r some more left_is right_is =
      by front back (kids_of T p) is not-beside here (omega (arith, more, here, ap length is, length-append front (n ∷ back))) left_is right_is
    where
      by : (front back xs : List ℕ) → xs ≡ front ++ n ∷ back → occurs n front + occurs n back ≡ 0 → place ≡ length front → 0 < length back
          → l ≡ get_or xs (place - 1) 0 → r ≡ get_or xs (place + 1) 0 → meeting T n xs ≡ pair_of T l r
      by front [] xs is once at_front some_back e f = absurd (omega (arith, some_back))
      by front (b ∷ back) xs is once at_front some_back e f =
          let right : r ≡ b = f ∙ (ap (λ ys. get_or ys (place + 1) 0) is ∙ get-behind front n b back (place + 1) (omega (arith, at_front))) in
          let left : l ≡ get_or (front ++ (n ∷ b ∷ back)) (place - 1) 0 = e ∙ ap (λ ys. get_or ys (place - 1) 0) is in
          ap (meeting T n) is
          ∙ (meet-between T n front b back (place - 1) (omega (arith, once)) (omega (arith, some, at_front))
          ∙ ap₂ (pair_of T) (sym left) (sym right))

-- a node without which no two texts meet may go
pub may-go : (T : Table) (n p : ℕ) → Formed T → parent_of T n ≡ Some p → TextsApart T (without n (kids_of T p)) → MayGo T n
may-go T n p formed up apart =
    let form : WellFormed T = well-formed T formed in
    record {
      lives = parent-has T n p up;
      below_root = λ e. absurd (let none : parent_of T n ≡ None = ap (parent_of T) e ∙ form.root_parent in cc);
      apart = λ before behind q is.
          let inside : 1 ≤ occurs n (kids_of T q) =
          omega (arith, ap (occurs n) is, occurs-append n before (n ∷ behind), occurs-head n behind) in
          let way : parent_of T n ≡ Some q = form.kid_parent q n (In-mem n (kids_of T q) inside) in
          let owner : p ≡ q = (cc) in
          let once : occurs n before + occurs n (n ∷ behind) ≤ 1 =
          omega (arith, form.kids_once q n, ap (occurs n) is, occurs-append n before (n ∷ behind)) in
          subst (TextsApart T)
          (ap (λ k. without n (kids_of T k)) owner
          ∙ (ap (without n) is
          ∙ without-split n before behind (omega (arith, once, occurs-same n behind)) (omega (arith, once, occurs-same n behind)))) apart;
    }

-- a kid hangs from a node
has-parent : (T : Table) (n : ℕ) → Formed T → can_be_kid (kind_of T n) ≡ true → (p : ℕ) × (parent_of T n ≡ Some p)
has-parent T n formed kid =
    (ways-up T formed).has_parent n (by (entry_at T n) kid)
    (λ e. absurd (true≢false (sym kid ∙ (ap (λ k. can_be_kid (kind_of T k)) e ∙ ap can_be_kid formed.root_kind))))
  where
    by : (o : Option Facts) → can_be_kid (kind_at (content_at o)) ≡ true → is_some o ≡ true
    by None h = absurd (true≢false (sym h))
    by (Some node) h = refl

-- it may go where no texts meet
pub lone_goes : (T : Table) (n : ℕ) → Formed T → can_be_kid (kind_of T n) ≡ true → meeting T n (kids_above T (parent_of T n)) ≡ None → MayGo T n
lone_goes T n formed kid none =
    let up = has-parent T n formed kid in
    may-go T n up.0 formed up.1 (lone-apart T n up.0 formed (ap (λ o. meeting T n (kids_above T o)) (sym up.1) ∙ none))

-- where two texts meet, the right one may go, then the node, and then the left one says both
pub record Steps (T : Table) (n l r : ℕ) : Type 0 where
  pub right_goes : MayGo T r
  pub node_goes : MayGo (removed T r) n
  pub left_says : MaySay (removed (removed T r) n) l (value_of T l ++ value_of T r)

steps-under : (T : Table) (n p l r : ℕ) → Formed T → parent_of T n ≡ Some p → meeting T n (kids_of T p) ≡ Some (record { left = l; right = r }) → Steps T n l r
steps-under T n p l r formed up meet =
    let m : Met T n (kids_of T p) (record { left = l; right = r }) = met T n (kids_of T p) (record { left = l; right = r }) meet in
    record {
      right_goes = may-go T r p formed (up-right T n p l r m.front m.back formed up m.is m.left_text m.right_text)
          (first-apart T n p l r m.front m.back formed up m.is m.left_text m.right_text);
      node_goes = subst (λ U. MayGo U n) (sym (is-first T n p l r m.front m.back formed up m.is m.left_text m.right_text))
          (may-go (first T n p l r m.front m.back formed up m.is m.left_text m.right_text) n p
          (first-formed T n p l r m.front m.back formed up m.is m.left_text m.right_text)
          (first-up T n p l r m.front m.back formed up m.is m.left_text m.right_text)
          (second-apart T n p l r m.front m.back formed up m.is m.left_text m.right_text));
      left_says = subst (λ U. MaySay U l (value_of T l ++ value_of T r)) (sym (is-second T n p l r m.front m.back formed up m.is m.left_text m.right_text))
          (may-say T n p l r m.front m.back formed up m.is m.left_text m.right_text);
    }

pub steps : (T : Table) (n l r : ℕ) → Formed T → meeting T n (kids_above T (parent_of T n)) ≡ Some (record { left = l; right = r }) → Steps T n l r
steps T n l r formed = by (parent_of T n) refl
  where
    by : (o : Option ℕ) → parent_of T n ≡ o → meeting T n (kids_above T o) ≡ Some (record { left = l; right = r }) → Steps T n l r
    by None up meet = absurd (cc)
    by (Some p) up meet = steps-under T n p l r formed up meet
