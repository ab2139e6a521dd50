-- Elements of one expanded name: counted among siblings from the end, and as a tree grows.
use Rattle.std.proofs.Common.{◌≡◌, ◌≢◌, ℕ, zero, suc, ◌+◌, ◌<◌, ◌≤◌, Bool, true, false, cond, ◌&&◌, ◌||◌, eqb, eqb-true, eq-eqb, List, [], ◌∷◌, ◌++◌, length, take, drop, filter, Option, Some, slice_get, slice_index_or, bytes_eq, refl, sym, ap, ap₂, ◌∙◌, subst, ⊎_elim, ◌⊎◌, inl, inr, arith, length-append, length-set, set, true≢false}
use Rattle.std.proofs.lemmas.List.{append-nil}
use Rattle.std.proofs.lemmas.List.Elements.{filter-append}
use Rattle.std.specs.Prelude.{Result, Ok, Err, OnOk, OnErr}
use Rattle.std.specs.declared.alloc.AllocError.{AllocError}
use Rattle.doc_table.specs.inner.Parts.{Parts, table_of}
use Rattle.doc_table.specs.Declaring.{Declared}
use Rattle.doc_table.specs.Growth.{Grew, as_kid, leaf, with_link}
use Rattle.doc_table.specs.Kinds.{is_element}
use Rattle.doc_table.specs.Laws.{HasWaysUp, Ordered}
use Rattle.doc_table.specs.Lists.{mem}
use Rattle.doc_table.specs.Table.{Table, Content, root, element, attribute, text, comment, instruction, entry_at, kids_of, kind_at, name_at, name_of}
use Rattle.doc_tree.specs.Alike.{CountsAlike, is_element_called}
use Rattle.doc_tree.specs.NameTests.{named}
use Rattle.doc_tree.specs.declared.alike.TheConstants.{UNKNOWN}
use Rattle.doc_tree.specs.inner.Counted.{AreCounted, CountsBehind, CountsUnder, IsNoted, is_called}

-- Lists

pub split_at_item : (xs : List ℕ) (i k : ℕ) → i < length xs → k ≡ slice_index_or xs i k → xs ≡ take i xs ++ k ∷ drop (suc i) xs
split_at_item [] i k short is = absurd (omega arith)
split_at_item (x ∷ xs) zero k short is = ap (λ t. t ∷ xs) (sym is)
split_at_item (x ∷ xs) (suc i) k short is = ap (λ t. x ∷ t) (split_at_item xs i k (omega arith) is)

module _ (P : ℕ → Bool) where
  passing_first : (k : ℕ) (xs : List ℕ) → P k ≡ true → filter P (k ∷ xs) ≡ k ∷ filter P xs
  passing_first k xs h = ap (λ t. cond t (k ∷ filter P xs) (filter P xs)) h

  -- where none behind an item passes, those before it are counted, and the item
  counted_behind : (front back : List ℕ) (k : ℕ) → P k ≡ true → filter P back ≡ [] → length (filter P (front ++ k ∷ back)) ≡ length (filter P front) + 1
  counted_behind front back k h none =
      ap length (filter-append P front (k ∷ back)) ∙ (ap (λ t. length (filter P front ++ t)) (passing_first k back h ∙ ap (λ t. k ∷ t) none)
      ∙ length-append (filter P front) (k ∷ []))

  filter_same : (Q : ℕ → Bool) (xs : List ℕ) → ((k : ℕ) → mem k xs ≡ true → P k ≡ Q k) → filter P xs ≡ filter Q xs
  filter_same Q [] same = refl
  filter_same Q (x ∷ xs) same =
      ap₂ (λ b t. cond b (x ∷ t) t) (same x (ap (λ b. b || mem x xs) (eq-eqb x x refl))) (filter_same Q xs (λ k h. same k (more k h)))
    where
      more : (k : ℕ) → mem k xs ≡ true → mem k (x ∷ xs) ≡ true
      more k h = by (eqb k x) h
        where
          by : (b : Bool) → mem k xs ≡ true → (b || mem k xs) ≡ true
          by true h = refl
          by false h = h

in_front : (front back : List ℕ) (m k : ℕ) → mem k front ≡ true → mem k (front ++ m ∷ back) ≡ true
in_front [] back m k h = absurd (true≢false (sym h))
in_front (x ∷ front) back m k h = by (eqb k x) (in_front front back m k) h
  where
    by : (b : Bool) → (mem k front ≡ true → mem k (front ++ m ∷ back) ≡ true) → (b || mem k front) ≡ true → (b || mem k (front ++ m ∷ back)) ≡ true
    by true later h = refl
    by false later h = later h

in_middle : (front back : List ℕ) (m : ℕ) → mem m (front ++ m ∷ back) ≡ true
in_middle [] back m = ap (λ b. b || mem m back) (eq-eqb m m refl)
in_middle (x ∷ front) back m = by (eqb m x) (in_middle front back m)
  where
    by : (b : Bool) → mem m (front ++ m ∷ back) ≡ true → (b || mem m (front ++ m ∷ back)) ≡ true
    by true later = refl
    by false later = later

never_empty : (front back : List ℕ) (m : ℕ) → [] ≡ front ++ m ∷ back → ⊥
never_empty [] back m h = cc
never_empty (x ∷ front) back m h = cc

-- an item that isn't the last one stands among those before it
before_last : (xs front back : List ℕ) (n m : ℕ) → xs ++ n ∷ [] ≡ front ++ m ∷ back → m ≢ n → (rest : List ℕ) × (xs ≡ front ++ m ∷ rest)
before_last [] [] back n m h other = let same : n ≡ m = cc in absurd (other (sym same))
before_last [] (y ∷ front) back n m h other = let none : [] ≡ front ++ m ∷ back = cc in absurd (never_empty front back m none)
before_last (x ∷ xs) [] back n m h other = let same : x ≡ m = cc in (xs, ap (λ t. t ∷ xs) same)
before_last (x ∷ xs) (y ∷ front) back n m h other =
    let same : x ≡ y = cc in
    let tail : xs ++ n ∷ [] ≡ front ++ m ∷ back = cc in
    let r = before_last xs front back n m tail other in
    (r.0, ap₂ (λ t ts. t ∷ ts) same r.1)

-- what stands only at the end stands behind all others
all_before : (xs front back : List ℕ) (n : ℕ) → xs ++ n ∷ [] ≡ front ++ n ∷ back → (mem n xs ≡ true → ⊥) → front ≡ xs
all_before [] [] back n h fresh = refl
all_before [] (y ∷ front) back n h fresh = let none : [] ≡ front ++ n ∷ back = cc in absurd (never_empty front back n none)
all_before (x ∷ xs) [] back n h fresh = let same : x ≡ n = cc in absurd (fresh (subst (λ t. mem n (t ∷ xs) ≡ true) (sym same) (in_middle [] xs n)))
all_before (x ∷ xs) (y ∷ front) back n h fresh =
    let same : x ≡ y = cc in
    let tail : xs ++ n ∷ [] ≡ front ++ n ∷ back = cc in
    ap₂ (λ t ts. t ∷ ts) (sym same) (all_before xs front back n tail (λ h. fresh (more (eqb n x) h)))
  where
    more : (b : Bool) → mem n xs ≡ true → (b || mem n xs) ≡ true
    more true h = refl
    more false h = h

item_pushed : (xs : List ℕ) (x i y : ℕ) → slice_get (xs ++ x ∷ []) i ≡ Some y → (slice_get xs i ≡ Some y) ⊎ ((i ≡ length xs) × (x ≡ y))
item_pushed [] x zero y is = let same : x ≡ y = cc in inr (refl, same)
item_pushed [] x (suc i) y is = absurd (cc)
item_pushed (z ∷ xs) x zero y is = inl is
item_pushed (z ∷ xs) x (suc i) y is = ⊎_elim (λ (h : slice_get xs i ≡ Some y). inl h) (λ (h : (i ≡ length xs) × (x ≡ y)). inr (ap suc h.0, h.1)) (item_pushed xs x i y is)

short_get : (xs : List ℕ) (i y : ℕ) → slice_get xs i ≡ Some y → i < length xs
short_get [] i y h = absurd (cc)
short_get (x ∷ xs) zero y h = omega arith
short_get (x ∷ xs) (suc i) y h = omega (arith, short_get xs i y h)

-- Counted from the end

pub counted_from_end : (T : Table) (p : ℕ) (uri local kids : List ℕ) (i k count : ℕ) → kids ≡ kids_of T p → i < length kids → k ≡ slice_index_or kids i k →
    is_element_called T uri local k ≡ true → filter (is_element_called T uri local) (drop (suc i) kids) ≡ [] → CountsBehind T k count → count ≢ UNKNOWN →
    count ≡ length (filter (is_element_called T uri local) (kids_of T p))
counted_from_end T p uri local kids i k count are short is called none behind known =
    let parts : kids ≡ take i kids ++ k ∷ drop (suc i) kids = split_at_item kids i k short is in
    let those : kids_of T p ≡ take i kids ++ k ∷ drop (suc i) kids = sym are ∙ parts in
    behind known p (take i kids) (drop (suc i) kids) uri local those called
    ∙ (sym (counted_behind (is_element_called T uri local) (take i kids) (drop (suc i) kids) k called none)
    ∙ ap (λ t. length (filter (is_element_called T uri local) t)) (sym those))

-- As a tree grows

abbrev called_by : Option Content → List ℕ → List ℕ → Bool
called_by content uri local = is_element (kind_at content) && named (name_at content) (λ name. bytes_eq name.uri uri && bytes_eq name.local local)

called_new : (c : Content) (uri local : List ℕ) → called_by (Some c) uri local ≡ is_called c uri local
called_new root uri local = refl
called_new (element name decls) uri local = refl
called_new (attribute name value) uri local = refl
called_new (text characters) uri local = refl
called_new (comment characters) uri local = refl
called_new (instruction name characters) uri local = refl

called_comes : (c : Content) (n : ℕ) (uri local : List ℕ) → is_called c uri local ≡ true → as_kid c n ≡ n ∷ []
called_comes root n uri local h = absurd (true≢false (sym h))
called_comes (element name decls) n uri local h = refl
called_comes (attribute name value) n uri local h = absurd (true≢false (sym h))
called_comes (text characters) n uri local h = refl
called_comes (comment characters) n uri local h = refl
called_comes (instruction name characters) n uri local h = refl

as_kid_cases : (c : Content) (n : ℕ) → (as_kid c n ≡ []) ⊎ (as_kid c n ≡ n ∷ [])
as_kid_cases root n = inl refl
as_kid_cases (element name decls) n = inr refl
as_kid_cases (attribute name value) n = inl refl
as_kid_cases (text characters) n = inr refl
as_kid_cases (comment characters) n = inr refl
as_kid_cases (instruction name characters) n = inr refl

or_else : (i j : ℕ) → (i ≡ j) ⊎ (i ≢ j)
or_else i j = by (eqb i j) refl
  where
    by : (b : Bool) → eqb i j ≡ b → (i ≡ j) ⊎ (i ≢ j)
    by true e = inl (eqb-true i j e)
    by false e = inr (λ h. true≢false (sym (eq-eqb i j h) ∙ e))

module _ (T U : Table) (p n : ℕ) (c : Content) (grew : Grew T U p n c) (ordered : Ordered T) (ways : HasWaysUp T) where
  same_called : (uri local : List ℕ) (m : ℕ) → m ≢ n → is_element_called U uri local m ≡ is_element_called T uri local m
  same_called uri local m other = ap (λ o. called_by o uri local) (grew.same_content m other)

  -- the kids of nodes are older than the new one
  kid_is_older : (q k : ℕ) → mem k (kids_of T q) ≡ true → k ≢ n
  kid_is_older q k h same =
      let made : k < length T = ordered.made k (sym (ordered.live_in_order k) ∙ ways.kid_live q k h) in
      let is : n ≡ length T = grew.number in
      omega (arith, made, is, same)

  front_same : (uri local : List ℕ) (q m : ℕ) (front back : List ℕ) → kids_of T q ≡ front ++ m ∷ back →
      length (filter (is_element_called T uri local) front) ≡ length (filter (is_element_called U uri local) front)
  front_same uri local q m front back are =
      ap length (filter_same (is_element_called T uri local) (is_element_called U uri local) front
      (λ k h. sym (same_called uri local k (kid_is_older q k (ap (mem k) are ∙ in_front front back m k h)))))

  kids_same : (uri local : List ℕ) (q : ℕ) →
      length (filter (is_element_called T uri local) (kids_of T q)) ≡ length (filter (is_element_called U uri local) (kids_of T q))
  kids_same uri local q =
      ap length (filter_same (is_element_called T uri local) (is_element_called U uri local) (kids_of T q) (λ k h. sym (same_called uri local k (kid_is_older q k h))))

  -- an older node among the kids of a node was there before
  was_there : (q m : ℕ) (front back : List ℕ) → m ≢ n → kids_of U q ≡ front ++ m ∷ back → (rest : List ℕ) × (kids_of T q ≡ front ++ m ∷ rest)
  was_there q m front back other are = ⊎_elim new_one (λ (h : q ≢ n). ⊎_elim (under h) (λ (e : q ≢ p). (back, sym (grew.same_kids q h e) ∙ are)) (or_else q p)) (or_else q n)
    where
      new_one : q ≡ n → (rest : List ℕ) × (kids_of T q ≡ front ++ m ∷ rest)
      new_one h = absurd (never_empty front back m (sym (ap (kids_of U) h ∙ grew.no_kids) ∙ are))

      under : q ≢ n → q ≡ p → (rest : List ℕ) × (kids_of T q ≡ front ++ m ∷ rest)
      under h e = ⊎_elim plain linked (as_kid_cases c n)
        where
          at_p : kids_of T p ++ as_kid c n ≡ front ++ m ∷ back
          at_p = sym grew.parent_kids ∙ (ap (kids_of U) (sym e) ∙ are)

          plain : as_kid c n ≡ [] → (rest : List ℕ) × (kids_of T q ≡ front ++ m ∷ rest)
          plain none = (back, ap (kids_of T) e ∙ (sym (append-nil (kids_of T p)) ∙ (ap (λ t. kids_of T p ++ t) (sym none) ∙ at_p)))

          linked : as_kid c n ≡ n ∷ [] → (rest : List ℕ) × (kids_of T q ≡ front ++ m ∷ rest)
          linked one =
              let r = before_last (kids_of T p) front back n m (ap (λ t. kids_of T p ++ t) (sym one) ∙ at_p) other in
              (r.0, ap (kids_of T) e ∙ r.1)

  older_counts : (m count : ℕ) → m ≢ n → CountsAlike T m count → CountsAlike U m count
  older_counts m count other counts q front back uri local are called =
      let there = was_there q m front back other are in
      counts q front there.0 uri local there.1 (sym (same_called uri local m other) ∙ called) ∙ front_same uri local q m front there.0 there.1

  new_counts : (count : ℕ) → count ≢ UNKNOWN → CountsUnder T p c count → CountsAlike U n count
  new_counts count known under q front back uri local are called =
      let is : is_called c uri local ≡ true = sym (called_new c uri local) ∙ (ap (λ o. called_by o uri local) (sym grew.content) ∙ called) in
      let at_p : kids_of T p ++ n ∷ [] ≡ kids_of U p = ap (λ t. kids_of T p ++ t) (sym (called_comes c n uri local is)) ∙ sym grew.parent_kids in
      ⊎_elim new_one (λ (h : q ≢ n). ⊎_elim (at_parent is at_p) (elsewhere h) (or_else q p)) (or_else q n)
    where
      new_one : q ≡ n → count ≡ length (filter (is_element_called U uri local) front)
      new_one h = absurd (never_empty front back n (sym (ap (kids_of U) h ∙ grew.no_kids) ∙ are))

      elsewhere : q ≢ n → q ≢ p → count ≡ length (filter (is_element_called U uri local) front)
      elsewhere h e = absurd (kid_is_older q n (ap (mem n) (sym (grew.same_kids q h e) ∙ are) ∙ in_middle front back n) refl)

      at_parent : is_called c uri local ≡ true → kids_of T p ++ n ∷ [] ≡ kids_of U p → q ≡ p → count ≡ length (filter (is_element_called U uri local) front)
      at_parent is at_p e =
          let all : front ≡ kids_of T p = all_before (kids_of T p) front back n (at_p ∙ (ap (kids_of U) (sym e) ∙ are)) (λ h. kid_is_older p n h refl) in
          under known uri local is ∙ (kids_same uri local p ∙ ap (λ t. length (filter (is_element_called U uri local) t)) (sym all))

  longer : length U ≡ length T + 1
  longer =
      let link = with_link c (length T) (entry_at T p) in
      ap length grew.table ∙ (length-append (set T p link) (Some (leaf p c) ∷ []) ∙ ap (λ k. k + 1) (length-set T p link))

  pub counted_grown : (counts after : List ℕ) (count : ℕ) → AreCounted T counts → CountsUnder T p c count → IsNoted counts n count after → AreCounted U after
  counted_grown counts after count are under noted = ⊎_elim same pushed noted
    where
      older : (m k : ℕ) → slice_get counts m ≡ Some k → k ≢ UNKNOWN → CountsAlike U m k
      older m k at known =
          let short : m < length counts = short_get counts m k at in
          let is : n ≡ length T = grew.number in
          older_counts m k (λ e. omega (arith, short, are.few, is, e)) (are.each m k at known)

      same : after ≡ counts → AreCounted U after
      same e = subst (AreCounted U) (sym e) (record { few = omega (arith, are.few, longer); each = older })

      pushed : (after ≡ counts ++ count ∷ []) × (n ≡ length counts) → AreCounted U after
      pushed e = subst (AreCounted U) (sym e.0) (record { few = omega (arith, are.few, longer, length-append counts (count ∷ [])); each = λ m k at known. each m k at known (item_pushed counts count m k at) })
        where
          each : (m k : ℕ) → slice_get (counts ++ count ∷ []) m ≡ Some k → k ≢ UNKNOWN → (slice_get counts m ≡ Some k) ⊎ ((m ≡ length counts) × (count ≡ k)) → CountsAlike U m k
          each m k at known (inl h) = older m k h known
          each m k at known (inr h) =
              let is : n ≡ m = e.1 ∙ sym h.0 in
              subst (λ t. CountsAlike U t k) is (new_counts k known (subst (CountsUnder T p c) h.1 under))

-- a declaration changes neither kids nor names
counted_declared : (T U : Table) (n : ℕ) (decl : List ℕ × List ℕ) (counts : List ℕ) → Declared T U n decl → AreCounted T counts → AreCounted U counts
counted_declared T U n decl counts declared are = record {
  few = subst (λ t. length counts ≤ t) (sym declared.same_length) are.few;
  each = λ m k at known p front back uri local kids called.
      are.each m k at known p front back uri local (sym (declared.same_kids p) ∙ kids) (sym (same_called uri local m) ∙ called)
      ∙ ap length (filter_same (is_element_called T uri local) (is_element_called U uri local) front (λ j h. sym (same_called uri local j)));
}
  where
    same_name : (m : ℕ) → name_of U m ≡ name_of T m
    same_name m = ⊎_elim (λ (e : m ≡ n). ap (name_of U) e ∙ (declared.same_name ∙ ap (name_of T) (sym e))) (λ (e : m ≢ n). ap name_at (declared.same_content m e)) (or_else m n)

    same_called : (uri local : List ℕ) (m : ℕ) → is_element_called U uri local m ≡ is_element_called T uri local m
    same_called uri local m =
        ap₂ (λ kind name. is_element kind && named name (λ x. bytes_eq x.uri uri && bytes_eq x.local local)) (declared.same_kind m) (same_name m)

pub counted_after_declaring : (old new : Parts) (n : ℕ) (decl : List ℕ × List ℕ) (counts : List ℕ) (r : Result (Unit {0}) AllocError) →
    OnOk r (Declared (table_of old) (table_of new) n decl) → OnErr r (new ≡ old) → AreCounted (table_of old) counts → AreCounted (table_of new) counts
counted_after_declaring old new n decl counts (Ok done) declared same are = counted_declared (table_of old) (table_of new) n decl counts declared are
counted_after_declaring old new n decl counts (Err e) declared same are = subst (λ parts. AreCounted (table_of parts) counts) (sym same) are
