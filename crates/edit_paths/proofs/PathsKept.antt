-- A path leads where it led, where kids stay all the way; and the step to a kid leads to it.
use Rattle.std.proofs.Common.{◌≡◌, ◌≢◌, ℕ, ◌+◌, ◌-◌, zero, suc, Bool, true, false, cond, List, [], ◌∷◌, ◌++◌, length, Option, None, Some, refl, sym, ap, ◌∙◌, subst, ⊎_elim, true≢false, arith, is_some, unwrap_or}
use Rattle.std.specs.Prelude.{count_by, filter, slice_get}
use Rattle.std.proofs.lemmas.List.Sums.{sum_by-cons}
use Rattle.doc_table.proofs.Forests.{formed-of}
use Rattle.doc_table.proofs.ListLemmas.{In, In-cons, In-mem, occurs-head}
use Rattle.doc_table.proofs.TreeLaws.{ways-up}
use Rattle.doc_edits.proofs.NumberingLemmas.{place-head, place-tail}
use Rattle.doc_edit_laws.proofs.InsertionOrderLemmas.{filter-same}
use Rattle.doc_tree.specs.kind.Kind.{Kind}
use Rattle.doc_tree.specs.Kinds.{is_kind}
use Rattle.doc_tree.specs.Laws.{HasWaysUp, WellFormed}
use Rattle.doc_tree.specs.Lists.{place_in}
use Rattle.doc_tree.specs.Table.{Table, kids_of, kind_of, parent_of}
use Rattle.doc_tree.specs.Walks.{ancestors}
use Rattle.edit_script.specs.declared.command.PathStep.{PathStep}
use Rattle.edit_commands.specs.Paths.{kids_of_kind, led_from, node_named}

-- what stands at a place of a list, or passes a test, is of the list
pub get-In : (xs : List ℕ) (i j : ℕ) → slice_get xs i ≡ Some j → In j xs
get-In [] i j e = absurd (true≢false (sym (ap is_some e)))
get-In (x ∷ xs) zero j e = subst (λ k. In k (x ∷ xs)) (ap (λ o. unwrap_or o 0) e) (occurs-head x xs)
get-In (x ∷ xs) (suc i) j e = omega (arith, get-In xs i j e)

pub filtered-In : (test : ℕ → Bool) (xs : List ℕ) (j : ℕ) → In j (filter test xs) → In j xs
filtered-In test [] j h = h
filtered-In test (x ∷ xs) j h = by (test x) h (filtered-In test xs j)
  where
    by : (b : Bool) → In j (cond b (x ∷ filter test xs) (filter test xs)) → (In j (filter test xs) → In j xs) → In j (x ∷ xs)
    by true k rest =
        ⊎_elim (λ (e : j ≡ x). subst (λ i. In i (x ∷ xs)) (sym e) (occurs-head x xs)) (λ (more : In j (filter test xs)). omega (arith, rest more)) (In-cons j x (filter test xs) k)
    by false k rest = omega (arith, rest k)

-- the kid to which a step leads
pub stepped-In : (T : Table) (m : ℕ) (step : PathStep) (j : ℕ) → slice_get (kids_of_kind T m step.kind) (step.index - 1) ≡ Some j → In j (kids_of T m)
stepped-In T m step j e =
    filtered-In (λ k. is_kind step.kind (kind_of T k)) (kids_of T m) j (get-In (kids_of_kind T m step.kind) (step.index - 1) j e)

none-led : (T : Table) (steps : List PathStep) → led_from T None steps ≡ None
none-led T [] = refl
none-led T (step ∷ steps) = refl

pub led-on : (T : Table) (o : Option ℕ) (front back : List PathStep) → led_from T o (front ++ back) ≡ led_from T (led_from T o front) back
led-on T None [] back = refl
led-on T None (step ∷ front) back = sym (none-led T back)
led-on T (Some n) [] back = refl
led-on T (Some n) (step ∷ front) back = led-on T (slice_get (kids_of_kind T n step.kind) (step.index - 1)) front back

-- a step more is a level more
module _ (T : Table) (form : WellFormed T) where
  ways : HasWaysUp T
  ways = ways-up T (formed-of T form)

  pub kid-up : (m k : ℕ) → In k (kids_of T m) → parent_of T k ≡ Some m
  kid-up m k h = form.kid_parent m k (In-mem k (kids_of T m) h)

  pub deeper : (steps : List PathStep) (m k : ℕ) → led_from T (Some m) steps ≡ Some k → length (ancestors T k) ≡ length (ancestors T m) + length steps
  deeper [] m k e = omega (arith, ap (λ o. length (ancestors T (unwrap_or o 0))) e)
  deeper (step ∷ steps) m k e = by (slice_get (kids_of_kind T m step.kind) (step.index - 1)) refl e (λ j h. deeper steps j k h)
    where
      by : (o : Option ℕ) → slice_get (kids_of_kind T m step.kind) (step.index - 1) ≡ o → led_from T o steps ≡ Some k →
          ((j : ℕ) → led_from T (Some j) steps ≡ Some k → length (ancestors T k) ≡ length (ancestors T j) + length steps) →
          length (ancestors T k) ≡ length (ancestors T m) + suc (length steps)
      by None g h rest = absurd (true≢false (sym (ap is_some (sym (none-led T steps) ∙ h))))
      by (Some j) g h rest = omega (arith, rest j h, ap length (ways.ancestors_at j m (kid-up m j (stepped-In T m step j g))))

-- where the kids of all nodes but p stay, and their kinds, a path to p leads to it
module _ (T U : Table) (form : WellFormed T) (p : ℕ) (Among : ℕ → Type 0)
    (kids : (m : ℕ) → Among m → m ≢ p → kids_of U m ≡ kids_of T m)
    (kinds : (m k : ℕ) → Among m → m ≢ p → In k (kids_of T m) → kind_of U k ≡ kind_of T k)
    (down : (m k : ℕ) → Among m → m ≢ p → In k (kids_of T m) → Among k) where
  pub led-kept : (steps : List PathStep) (m : ℕ) → Among m → led_from T (Some m) steps ≡ Some p → led_from U (Some m) steps ≡ Some p
  led-kept [] m among e = e
  led-kept (step ∷ steps) m among e = by (slice_get (kids_of_kind T m step.kind) (step.index - 1)) refl e (λ j a h. led-kept steps j a h)
    where
      ne : m ≢ p
      ne same = absurd (omega (arith, deeper T form (step ∷ steps) m p e, ap (λ k. length (ancestors T k)) same))

      same-kids : kids_of_kind U m step.kind ≡ kids_of_kind T m step.kind
      same-kids =
          ap (filter (λ k. is_kind step.kind (kind_of U k))) (kids m among ne)
          ∙ filter-same (λ k. is_kind step.kind (kind_of U k)) (λ k. is_kind step.kind (kind_of T k)) (kids_of T m) (λ k h. ap (is_kind step.kind) (kinds m k among ne h))

      by : (o : Option ℕ) → slice_get (kids_of_kind T m step.kind) (step.index - 1) ≡ o → led_from T o steps ≡ Some p →
          ((j : ℕ) → Among j → led_from T (Some j) steps ≡ Some p → led_from U (Some j) steps ≡ Some p) →
          led_from U (slice_get (kids_of_kind U m step.kind) (step.index - 1)) steps ≡ Some p
      by None g h rest = absurd (true≢false (sym (ap is_some (sym (none-led T steps) ∙ h))))
      by (Some j) g h rest =
          ap (λ ks. led_from U (slice_get ks (step.index - 1)) steps) same-kids
          ∙ (ap (λ o. led_from U o steps) g ∙ rest j (down m j among ne (stepped-In T m step j g)) h)

  pub path-kept : Among 0 → (path : List PathStep) → node_named T path ≡ Some p → node_named U path ≡ Some p
  path-kept among path e = led-kept path 0 among e

-- what passes a test stands behind those before it that do
module _ (test : ℕ → Bool) where
  pub placed : (n : ℕ) (front back : List ℕ) → test n ≡ true → slice_get (filter test (front ++ n ∷ back)) (count_by test front) ≡ Some n
  placed n [] back pass = rw pass refl
  placed n (x ∷ front) back pass =
      ap (slice_get (filter test ((x ∷ front) ++ n ∷ back))) (sum_by-cons (λ k. cond (test k) 1 0) x front) ∙ by (test x) (placed n front back pass)
    where
      by : (b : Bool) → slice_get (filter test (front ++ n ∷ back)) (count_by test front) ≡ Some n →
          slice_get (cond b (x ∷ filter test (front ++ n ∷ back)) (filter test (front ++ n ∷ back))) (cond b 1 0 + count_by test front) ≡ Some n
      by true h =
          let next : 1 + count_by test front ≡ suc (count_by test front) = omega arith in ap (slice_get (x ∷ filter test (front ++ n ∷ back))) next ∙ h
      by false h =
          let same : 0 + count_by test front ≡ count_by test front = omega arith in ap (slice_get (filter test (front ++ n ∷ back))) same ∙ h

  -- and so it is told by its place in the list
  pub place-counts : (n : ℕ) (front back : List ℕ) → test n ≡ true → ((k : ℕ) → In k front → k ≢ n) → place_in n (filter test (front ++ n ∷ back)) ≡ count_by test front
  place-counts n [] back pass others = rw pass (place-head n n (filter test back) refl)
  place-counts n (x ∷ front) back pass others =
      by (test x) (place-counts n front back pass (λ k h. others k (omega (arith, h)))) ∙ sym (sum_by-cons (λ k. cond (test k) 1 0) x front)
    where
      by : (b : Bool) → place_in n (filter test (front ++ n ∷ back)) ≡ count_by test front →
          place_in n (cond b (x ∷ filter test (front ++ n ∷ back)) (filter test (front ++ n ∷ back))) ≡ cond b 1 0 + count_by test front
      by true h =
          place-tail n x (filter test (front ++ n ∷ back)) (λ e. others x (occurs-head x front) (sym e)) ∙ omega (arith, h)
      by false h = omega (arith, h)

-- the step to a kid
pub step-leads : (U : Table) (p n : ℕ) (kind : Kind) (front back : List ℕ) → kids_of U p ≡ front ++ n ∷ back → is_kind kind (kind_of U n) ≡ true →
    led_from U (Some p) (record { kind = kind; index = suc (count_by (λ k. is_kind kind (kind_of U k)) front) } ∷ []) ≡ Some n
step-leads U p n kind front back list same =
    let less : suc (count_by (λ k. is_kind kind (kind_of U k)) front) - 1 ≡ count_by (λ k. is_kind kind (kind_of U k)) front = omega arith in
    ap (λ ks. led_from U (slice_get (filter (λ k. is_kind kind (kind_of U k)) ks) (suc (count_by (λ k. is_kind kind (kind_of U k)) front) - 1)) []) list
    ∙ (ap (λ i. led_from U (slice_get (filter (λ k. is_kind kind (kind_of U k)) (front ++ n ∷ back)) i) []) less
    ∙ ap (λ o. led_from U o []) (placed (λ k. is_kind kind (kind_of U k)) n front back same))
