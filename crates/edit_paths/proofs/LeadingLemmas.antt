-- From the root down each step leads to the next node of the way.
use Rattle.std.proofs.Common.{◌≡◌, ◌≢◌, ℕ, ◌+◌, ◌-◌, ◌≤◌, zero, suc, Bool, true, false, cond, List, [], ◌∷◌, ◌++◌, ◌⊎◌, length, Option, None, Some, refl, sym, ap, ap₂, ◌∙◌, subst, inl, inr, ⊎_elim, is_some, true≢false, arith, length-append}
use Rattle.std.specs.Prelude.{filter, slice_get}
use Rattle.std.specs.List.{flat_map}
use Rattle.std.proofs.lemmas.List.Elements.{All-append}
use Rattle.doc_table.specs.declared.kind.Kind.{Kind}
use Rattle.doc_table.specs.declared.kind.Kind.TheVariants.{Root, Element, Attribute, Text, Comment, Pi}
use Rattle.doc_table.specs.declared.limits.TheConstants.{MAX_LIVE_NODES}
use Rattle.doc_table.specs.Kinds.{can_be_kid, holds_kids, is_kind}
use Rattle.doc_table.specs.Laws.{HasWaysUp, Ordered, WellFormed}
use Rattle.doc_table.specs.Lists.{mem, place_in}
use Rattle.doc_table.specs.Table.{Facts, Table, attrs_at, attrs_of, entry_at, is_live, kids_at, kids_of, kind_of, parent_of}
use Rattle.doc_table.specs.Walks.{ancestors, below}
use Rattle.doc_table.specs.inner.Sound.{Formed}
use Rattle.doc_table.proofs.Forests.{formed-of}
use Rattle.doc_table.proofs.ListLemmas.{In, In-cons, eq_or, mem-In, mem-append, occurs-head, occurs-other}
use Rattle.doc_table.proofs.TreeLaws.{ordered, ways-up}
use Rattle.doc_edits.proofs.NumberingLemmas.{place-head, place-short, place-tail}
use Rattle.edit_script.specs.WellFormed.{IsPath, IsStep, is_kid}
use Rattle.edit_script.specs.declared.command.PathStep.{PathStep}
use Rattle.edit_script.specs.declared.limits.TheConstants.{MAX_PLACE}
use Rattle.edit_commands.specs.Paths.{kids_of_kind, led_from, node_named}
use Rattle.edit_paths.specs.PathTo.{LeadsTo, PathsLead, path_to, step_to, steps_down}
use Rattle.edit_paths.proofs.PathsKept.{led-on}

-- lists: what passes a test is among what passes it, and stands at its place
module _ (test : ℕ → Bool) where
  In-filter : (n : ℕ) (xs : List ℕ) → In n xs → test n ≡ true → In n (filter test xs)
  In-filter n [] h pass = absurd (omega (arith, h))
  In-filter n (x ∷ xs) h pass = by (test x) refl (In-cons n x xs h) (λ k. In-filter n xs k pass)
    where
      by : (b : Bool) → test x ≡ b → (n ≡ x) ⊎ In n xs → (In n xs → In n (filter test xs)) → In n (cond b (x ∷ filter test xs) (filter test xs))
      by true e (inl same) rest = subst (λ k. In n (k ∷ filter test xs)) same (occurs-head n (filter test xs))
      by true e (inr more) rest = omega (arith, rest more)
      by false e (inl same) rest = absurd (true≢false (sym pass ∙ (ap test same ∙ e)))
      by false e (inr more) rest = rest more

  pub filter-short : (xs : List ℕ) → length (filter test xs) ≤ length xs
  filter-short [] = omega arith
  filter-short (x ∷ xs) = by (test x) (filter-short xs)
    where
      by : (b : Bool) → length (filter test xs) ≤ length xs → length (cond b (x ∷ filter test xs) (filter test xs)) ≤ suc (length xs)
      by true h = omega (arith, h)
      by false h = omega (arith, h)

get-placed : (n : ℕ) (xs : List ℕ) → In n xs → slice_get xs (place_in n xs) ≡ Some n
get-placed n [] h = absurd (omega (arith, h))
get-placed n (x ∷ xs) h =
    ⊎_elim (λ (e : n ≡ x). ap (slice_get (x ∷ xs)) (place-head n x xs e) ∙ ap Some (sym e))
    (λ (ne : n ≢ x). ap (slice_get (x ∷ xs)) (place-tail n x xs ne) ∙ get-placed n xs (omega (arith, h, occurs-other n x xs ne)))
    (eq_or n x)

-- a kid has a kind, and it is a kid's
record KidKind (o : Option Kind) : Type 0 where
  kind : Kind
  is : o ≡ Some kind
  kid : is_kid kind ≡ true
  same : is_kind kind o ≡ true

kid-kind : (o : Option Kind) → can_be_kid o ≡ true → KidKind o
kid-kind None h = absurd (cc)
kid-kind (Some Root) h = absurd (cc)
kid-kind (Some Element) h = record { kind = Element; is = refl; kid = refl; same = refl }
kid-kind (Some Attribute) h = absurd (cc)
kid-kind (Some Text) h = record { kind = Text; is = refl; kid = refl; same = refl }
kid-kind (Some Comment) h = record { kind = Comment; is = refl; kid = refl; same = refl }
kid-kind (Some Pi) h = record { kind = Pi; is = refl; kid = refl; same = refl }

one-step : (step : PathStep) → IsStep step → IsPath (step ∷ [])
one-step step is zero d h = is
one-step step is (suc k) d h = absurd (omega (arith, h))

module _ (T : Table) (form : WellFormed T) where
  tree : Formed T
  tree = formed-of T form

  ways : HasWaysUp T
  ways = ways-up T tree

  ord : Ordered T
  ord = ordered T tree

  more-below : (ks : List ℕ) → length ks ≤ length (flat_map (below T) ks)
  more-below [] = omega arith
  more-below (k ∷ ks) =
      omega (arith, more-below ks, length-append (below T k) (flat_map (below T) ks), ap length (ord.below_at k))

  -- a node has fewer attributes and kids than there may be nodes
  pub few-listed : (p : ℕ) → suc (length (attrs_of T p) + length (kids_of T p)) ≤ MAX_LIVE_NODES
  few-listed p = by (entry_at T p) refl
    where
      by : (o : Option Facts) → entry_at T p ≡ o → suc (length (attrs_of T p) + length (kids_of T p)) ≤ MAX_LIVE_NODES
      by None e = omega (arith, ap (λ x. length (attrs_at x)) e, ap (λ x. length (kids_at x)) e)
      by (Some node) e =
          let place = ord.below_in_order p (ap is_some e) in
          omega (
            arith,
            form.few_nodes,
            more-below (kids_of T p),
            ap length place.2,
            length-append place.0 (below T p ++ place.1),
            length-append (below T p) place.1,
            ap length (ord.below_at p),
            length-append (attrs_of T p) (flat_map (below T) (kids_of T p)),
          )

  leads : (n p : ℕ) → parent_of T n ≡ Some p → kind_of T n ≢ Some Attribute → LeadsTo T p (path_to T p) → LeadsTo T n (path_to T n)
  leads n p up other rest =
      let listed : mem n (kids_of T p) ≡ true =
      ⊎_elim (λ (a : mem n (attrs_of T p) ≡ true). absurd (other (form.attribute_kind p n a))) (λ (k : mem n (kids_of T p) ≡ true). k)
      (mem-append n (attrs_of T p) (kids_of T p) (form.is_listed n p up)) in
      let kind : KidKind (kind_of T n) = kid-kind (kind_of T n) (form.kid_kind p n listed) in
      let ks : List ℕ = kids_of_kind T p kind.kind in
      let among : In n ks = In-filter (λ k. is_kind kind.kind (kind_of T k)) n (kids_of T p) (mem-In n (kids_of T p) listed) kind.same in
      let step : PathStep = record { kind = kind.kind; index = suc (place_in n ks) } in
      let last : step_to T n (parent_of T n) (kind_of T n) ≡ step ∷ [] = ap₂ (step_to T n) up kind.is in
      let path : path_to T n ≡ path_to T p ++ step ∷ [] =
      ap₂ (λ (a b : List PathStep). a ++ b) (ap (steps_down T) (ways.ancestors_at n p up)) last in
      let short : suc (place_in n ks) ≤ MAX_PLACE =
      omega (arith, place-short n ks among, filter-short (λ k. is_kind kind.kind (kind_of T k)) (kids_of T p), few-listed p) in
      let less : suc (place_in n ks) - 1 ≡ place_in n ks = omega arith in
      let taken : slice_get ks (suc (place_in n ks) - 1) ≡ Some n = ap (slice_get ks) less ∙ get-placed n ks among in
      record {
        named = ap (node_named T) path
            ∙ (led-on T (Some 0) (path_to T p) (step ∷ [])
            ∙ (ap (λ o. led_from T o (step ∷ [])) rest.named ∙ ap (λ o. led_from T o []) taken));
        formed = subst IsPath (sym path) (All-append IsStep (path_to T p) (step ∷ []) rest.formed
            (one-step step (record { kind = kind.kid; place = record { low = omega arith; high = short } })));
      }

  holder-other : (p : ℕ) → holds_kids (kind_of T p) ≡ true → kind_of T p ≢ Some Attribute
  holder-other p holds e = true≢false (sym holds ∙ ap holds_kids e)

  at-root : LeadsTo T 0 (path_to T 0)
  at-root =
      let path : path_to T 0 ≡ [] =
      ap₂ (λ (a : List ℕ) (o : Option ℕ). steps_down T a ++ step_to T 0 o (kind_of T 0)) (ways.no_ancestors 0 form.root_parent) form.root_parent in
      record {
        named = ap (node_named T) path;
        formed = subst IsPath (sym path) (λ i d h. absurd (omega (arith, h)));
      }

  root-or : (n : ℕ) → (n ≢ 0 → LeadsTo T n (path_to T n)) → LeadsTo T n (path_to T n)
  root-or n below = ⊎_elim (λ (e : n ≡ 0). subst (λ m. LeadsTo T m (path_to T m)) (sym e) at-root) below (eq_or n 0)

  upwards : (k n : ℕ) → length (ancestors T n) ≤ k → is_live T n ≡ true → kind_of T n ≢ Some Attribute → LeadsTo T n (path_to T n)
  upwards zero n short live other =
      root-or n (λ ne. absurd (let up = ways.has_parent n live ne in omega (arith, short, ap length (ways.ancestors_at n up.0 up.1))))
  upwards (suc k) n short live other =
      root-or n (λ ne.
      let up = ways.has_parent n live ne in
      leads n up.0 up.1 other
      (upwards k up.0 (omega (arith, short, ap length (ways.ancestors_at n up.0 up.1))) (ways.parent_live n up.0 up.1) (holder-other up.0 (ways.parent_holds n up.0 up.1))))

pub paths-lead : PathsLead
paths-lead T n form live other = upwards T form (length (ancestors T n)) n (omega arith) live other
