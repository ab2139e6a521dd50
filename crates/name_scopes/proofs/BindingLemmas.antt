-- Declarations in scope: how they are found, and how they come and go.
use Rattle.std.proofs.Common.{◌≡◌, ◌≢◌, ℕ, ◌+◌, ◌<◌, ◌≤◌, suc, zero, Bool, true, false, cond, eqb, List, [], ◌∷◌, ◌++◌, length, map, get_or, set, drop, slice_get, Option, None, Some, option_map, refl, sym, ap, ap₂, ◌∙◌, subst, ⊎_elim, true≢false, arith, eqb-true, eq-eqb, length-append, get_or-set_same, get_or-set_other}
use Rattle.std.specs.Prelude.{option_and_then, unwrap_or}
use Rattle.std.specs.Str.{bytes_eq}
use Rattle.std.proofs.lemmas.Slice.Eq.{bytes_eq-Decides}
use Rattle.std.proofs.lemmas.List.{get_or_past}
use Rattle.std.proofs.lemmas.Bool.{cases_lt}
use Rattle.doc_tree.specs.Numbering.{EachOnce, Numbered}
use Rattle.doc_tree.specs.Scope.{Decl, first_declared, namespace_in, xml_prefix, xmlns_prefix}
use Rattle.name_scopes.specs.declared.scope.Binding.{Binding}
use Rattle.name_scopes.specs.inner.Scope.{newest_first, bound, uri_of, nearest_at, Shadow, Bound}

pub newest-push : {A : Type 0} (xs : List A) (x : A) → newest_first (xs ++ x ∷ []) ≡ x ∷ newest_first xs
newest-push [] x = refl
newest-push (y ∷ xs) x = ap (λ l. l ++ y ∷ []) (newest-push xs x)

pub newest-twice : {A : Type 0} (xs : List A) → newest_first (newest_first xs) ≡ xs
newest-twice [] = refl
newest-twice (x ∷ xs) = newest-push (newest_first xs) x ∙ ap (λ l. x ∷ l) (newest-twice xs)

pub newest-length : {A : Type 0} (xs : List A) → length (newest_first xs) ≡ length xs
newest-length [] = refl
newest-length (x ∷ xs) = length-append (newest_first xs) (x ∷ []) ∙ omega (arith, newest-length xs)

get-end : {A : Type 0} (xs : List A) (x : A) (n : ℕ) → n ≡ length xs → slice_get (xs ++ x ∷ []) n ≡ Some x
get-end [] x n e = rw e refl
get-end (y ∷ xs) x zero e = absurd (omega arith)
get-end (y ∷ xs) x (suc n) e = get-end xs x n (omega arith)

get-front : {A : Type 0} (xs : List A) (x : A) (n : ℕ) → n < length xs → slice_get (xs ++ x ∷ []) n ≡ slice_get xs n
get-front [] x n h = absurd (omega arith)
get-front (y ∷ xs) x zero h = refl
get-front (y ∷ xs) x (suc n) h = get-front xs x n (omega arith)

get-index : (words : List (List ℕ)) (i : ℕ) (word : List ℕ) → slice_get words i ≡ Some word → get_or words i [] ≡ word
get-index [] i word h = absurd (cc)
get-index (x ∷ words) zero word h = cc
get-index (x ∷ words) (suc i) word h = get-index words i word h

index-get : (words : List (List ℕ)) (i : ℕ) → i < length words → slice_get words i ≡ Some (get_or words i [])
index-get [] i h = absurd (omega arith)
index-get (x ∷ words) zero h = refl
index-get (x ∷ words) (suc i) h = index-get words i (omega arith)

get-below : (words : List (List ℕ)) (i : ℕ) (word : List ℕ) → slice_get words i ≡ Some word → i < length words
get-below [] i word h = absurd (cc)
get-below (x ∷ words) zero word h = omega arith
get-below (x ∷ words) (suc i) word h = omega (arith, get-below words i word h)

-- words that grow by a use of one
pub record Grown (before after : List (List ℕ)) (word : List ℕ) (number : ℕ) : Type 0 where
  pub kept : (i : ℕ) → i < length before → get_or after i [] ≡ get_or before i []
  pub longer : length before ≤ length after
  pub below : number < length after
  pub is : get_or after number [] ≡ word

pub grown : (before after : List (List ℕ)) (word : List ℕ) (number : ℕ) → Numbered before after word number → Grown before after word number
grown before after word number n = record {
  kept = λ i h. ⊎_elim (λ (e : after ≡ before). ap (λ l. get_or l i []) e)
      (λ (e : (after ≡ before ++ word ∷ []) × (number ≡ length before)). ap (λ l. get_or l i []) e.0 ∙ front before word i h) n.added;
  longer = ⊎_elim (λ (e : after ≡ before). omega (arith, ap length e))
      (λ (e : (after ≡ before ++ word ∷ []) × (number ≡ length before)). omega (arith, ap length e.0, length-append before (word ∷ []))) n.added;
  below = get-below after number word n.given;
  is = get-index after number word n.given;
}
  where
    front : (xs : List (List ℕ)) (x : List ℕ) (i : ℕ) → i < length xs → get_or (xs ++ x ∷ []) i [] ≡ get_or xs i []
    front [] x i h = absurd (omega arith)
    front (y ∷ xs) x zero h = refl
    front (y ∷ xs) x (suc i) h = front xs x i (omega arith)

shadow-more : (n m : ℕ) (L : List Binding) → n ≤ m → Shadow n L → Shadow m L
shadow-more n m [] h s = tt
shadow-more n m (b ∷ L) h s = (omega (arith, s.0), s.1, shadow-more n m L h s.2)

-- the declarations stay where the words grow
bound-kept : (before after : List (List ℕ)) (L : List Binding) → ((i : ℕ) → i < length before → get_or after i [] ≡ get_or before i []) → Shadow (length before) L →
    map (bound after) L ≡ map (bound before) L
bound-kept before after [] same s = refl
bound-kept before after (b ∷ L) same s = ap₂ (λ word l. (word, b.uri) ∷ l) (same b.number s.0) (bound-kept before after L same s.2)

-- what is kept stays sound where the words grow, and where room is made
pub bound-grown : (before after : List (List ℕ)) (word : List ℕ) (number : ℕ) (items : List Binding) (latest more : List (Option ℕ)) → Numbered before after word number →
    ((i : ℕ) → get_or more i None ≡ get_or latest i None) → Bound before items latest → Bound after items more × (map (bound after) (newest_first items) ≡ map (bound before) (newest_first items))
bound-grown before after word number items latest more n same s =
    let g : Grown before after word number = grown before after word number n in (
      record {
        shadow = shadow-more (length before) (length after) (newest_first items) g.longer s.shadow;
        nearest = λ i. same i ∙ s.nearest i;
      },
      bound-kept before after (newest_first items) g.kept s.shadow,
    )

-- a declaration more
pub bound-more : (words : List (List ℕ)) (items : List Binding) (latest : List (Option ℕ)) (b : Binding) → Bound words items latest → b.number < length words → b.number < length latest →
    b.shadowed ≡ get_or latest b.number None → Bound words (items ++ b ∷ []) (set latest b.number (Some (length items)))
bound-more words items latest b s below room is = record {
  shadow = subst (Shadow (length words)) (sym (newest-push items b)) (below, is ∙ s.nearest b.number, s.shadow);
  nearest = λ k. subst (λ L. get_or (set latest b.number (Some (length items))) k None ≡ nearest_at L k) (sym (newest-push items b)) (at k);
}
  where
    at : (k : ℕ) → get_or (set latest b.number (Some (length items))) k None ≡ nearest_at (b ∷ newest_first items) k
    at k = by (eqb b.number k) refl
      where
        by : (t : Bool) → eqb b.number k ≡ t → get_or (set latest b.number (Some (length items))) k None ≡ cond t (Some (length (newest_first items))) (nearest_at (newest_first items) k)
        by true e = let same : b.number ≡ k = eqb-true b.number k e in subst (λ q. get_or (set latest b.number (Some (length items))) q None ≡ Some (length (newest_first items))) same
            (get_or-set_same latest b.number (Some (length items)) None room ∙ ap Some (sym (newest-length items)))
        by false e = get_or-set_other latest b.number k (Some (length items)) None (λ same. true≢false (sym (eq-eqb b.number k (sym same)) ∙ e)) ∙ s.nearest k

-- a declaration less
pub bound-less : (words : List (List ℕ)) (items : List Binding) (latest : List (Option ℕ)) (b : Binding) → Bound words (items ++ b ∷ []) latest → Bound words items (set latest b.number b.shadowed)
bound-less words items latest b s =
    let shadow : Shadow (length words) (b ∷ newest_first items) = subst (Shadow (length words)) (newest-push items b) s.shadow in
    record { shadow = shadow.2; nearest = λ k. at k shadow.1 }
  where
    was : (k : ℕ) → get_or latest k None ≡ nearest_at (b ∷ newest_first items) k
    was k = subst (λ L. get_or latest k None ≡ nearest_at L k) (newest-push items b) (s.nearest k)

    room : b.number < length latest
    room = by-length (get_or latest b.number None) refl
      where
        here : nearest_at (b ∷ newest_first items) b.number ≡ Some (length (newest_first items))
        here = rw (eq-eqb b.number b.number refl) refl

        by-length : (o : Option ℕ) → get_or latest b.number None ≡ o → b.number < length latest
        by-length o e = ⊎_elim (λ (h : b.number < length latest). h)
            (λ (h : length latest ≤ b.number). absurd (let past : get_or latest b.number None ≡ None = get_or_past latest b.number None h in let some : get_or latest b.number None ≡ Some (length (newest_first items)) = was b.number ∙ here in cc))
            (cases_lt b.number (length latest))

    at : (k : ℕ) → b.shadowed ≡ nearest_at (newest_first items) b.number → get_or (set latest b.number b.shadowed) k None ≡ nearest_at (newest_first items) k
    at k is = by (eqb b.number k) refl
      where
        by : (t : Bool) → eqb b.number k ≡ t → get_or (set latest b.number b.shadowed) k None ≡ nearest_at (newest_first items) k
        by true e = let same : b.number ≡ k = eqb-true b.number k e in subst (λ q. get_or (set latest b.number b.shadowed) q None ≡ nearest_at (newest_first items) q) same
            (get_or-set_same latest b.number b.shadowed None room ∙ is)
        by false e = get_or-set_other latest b.number k b.shadowed None (λ same. true≢false (sym (eq-eqb b.number k (sym same)) ∙ e)) ∙ (was k ∙ rw e refl)

-- a prefix that is no word is not declared
pub never-declared : (words : List (List ℕ)) (prefix : List ℕ) (L : List Binding) → ((i : ℕ) → slice_get words i ≢ Some prefix) → Shadow (length words) L → first_declared (map (bound words) L) prefix ≡ None
never-declared words prefix [] absent s = refl
never-declared words prefix (b ∷ L) absent s = by (bytes_eq (get_or words b.number []) prefix) refl (never-declared words prefix L absent s.2)
  where
    by : (t : Bool) → bytes_eq (get_or words b.number []) prefix ≡ t → first_declared (map (bound words) L) prefix ≡ None → cond t (Some b.uri) (first_declared (map (bound words) L) prefix) ≡ None
    by true e rest = absurd (absent b.number (index-get words b.number s.0 ∙ ap Some ((bytes_eq-Decides (get_or words b.number []) prefix).0 e)))
    by false e rest = rest

-- the nearest declaration of a word
module _ (words : List (List ℕ)) (prefix : List ℕ) (number : ℕ) (once : EachOnce words) (is : slice_get words number ≡ Some prefix) where
  same-word : (k : ℕ) → k < length words → bytes_eq (get_or words k []) prefix ≡ true → k ≡ number
  same-word k h e = once k number prefix (index-get words k h ∙ ap Some ((bytes_eq-Decides (get_or words k []) prefix).0 e)) is

  word-same : (k : ℕ) → k ≡ number → bytes_eq (get_or words k []) prefix ≡ true
  word-same k e = (bytes_eq-Decides (get_or words k []) prefix).1 (ap (λ i. get_or words i []) e ∙ get-index words number prefix is)

  nearest-short : (L : List Binding) (place : ℕ) → nearest_at L number ≡ Some place → place < length L
  nearest-short [] place h = absurd (cc)
  nearest-short (b ∷ L) place h = by (eqb b.number number) h (nearest-short L place)
    where
      by : (t : Bool) → cond t (Some (length L)) (nearest_at L number) ≡ Some place → (nearest_at L number ≡ Some place → place < length L) → place < suc (length L)
      by true e rest = let same : length L ≡ place = (cc) in omega arith
      by false e rest = omega (arith, rest e)

  pub nearest-declared : (L : List Binding) → Shadow (length words) L →
      first_declared (map (bound words) L) prefix ≡ option_and_then (λ place. option_map uri_of (slice_get (newest_first L) place)) (nearest_at L number)
  nearest-declared [] s = refl
  nearest-declared (b ∷ L) s = by (eqb b.number number) refl (bytes_eq (get_or words b.number []) prefix) refl (nearest-declared L s.2)
    where
      behind : (o : Option ℕ) → nearest_at L number ≡ o → option_and_then (λ place. option_map uri_of (slice_get (newest_first L) place)) o
          ≡ option_and_then (λ place. option_map uri_of (slice_get (newest_first L ++ b ∷ []) place)) o
      behind None e = refl
      behind (Some place) e = ap (option_map uri_of) (sym (get-front (newest_first L) b place (omega (arith, nearest-short L place e, newest-length L))))

      by : (t : Bool) → eqb b.number number ≡ t → (u : Bool) → bytes_eq (get_or words b.number []) prefix ≡ u →
          first_declared (map (bound words) L) prefix ≡ option_and_then (λ place. option_map uri_of (slice_get (newest_first L) place)) (nearest_at L number) →
          cond u (Some b.uri) (first_declared (map (bound words) L) prefix)
          ≡ option_and_then (λ place. option_map uri_of (slice_get (newest_first L ++ b ∷ []) place)) (cond t (Some (length L)) (nearest_at L number))
      by true e true f rest = ap (option_map uri_of) (sym (get-end (newest_first L) b (length L) (sym (newest-length L))))
      by true e false f rest = absurd (true≢false (sym (word-same b.number (eqb-true b.number number e)) ∙ f))
      by false e true f rest = absurd (true≢false (sym (eq-eqb b.number number (same-word b.number s.0 f)) ∙ e))
      by false e false f rest = rest ∙ behind (nearest_at L number) refl

-- the same, by the place that is kept
pub kept-declared : (words : List (List ℕ)) (items : List Binding) (latest : List (Option ℕ)) (prefix : List ℕ) (number : ℕ) → Bound words items latest → EachOnce words → slice_get words number ≡ Some prefix →
    (o : Option ℕ) → get_or latest number None ≡ o → first_declared (map (bound words) (newest_first items)) prefix ≡ option_and_then (λ place. option_map uri_of (slice_get items place)) o
kept-declared words items latest prefix number s once is o e =
    nearest-declared words prefix number once is (newest_first items) s.shadow
    ∙ ap₂ (λ xs o. option_and_then (λ place. option_map uri_of (slice_get xs place)) o) (newest-twice items) (sym (s.nearest number) ∙ e)

-- a number that has a place is that of a word
below-placed : (count : ℕ) (L : List Binding) (number place : ℕ) → Shadow count L → nearest_at L number ≡ Some place → number < count
below-placed count [] number place s h = absurd (cc)
below-placed count (b ∷ L) number place s h = by (eqb b.number number) refl h (below-placed count L number place s.2)
  where
    by : (t : Bool) → eqb b.number number ≡ t → cond t (Some (length L)) (nearest_at L number) ≡ Some place → (nearest_at L number ≡ Some place → number < count) → number < count
    by true e h rest = subst (λ n. n < count) (eqb-true b.number number e) s.0
    by false e h rest = rest h

-- the nearest declaration of a prefix, by a hint of its number
pub hinted-declared : (words : List (List ℕ)) (items : List Binding) (latest : List (Option ℕ)) (prefix : List ℕ) (number place : ℕ) → Bound words items latest → EachOnce words →
    get_or words number [] ≡ prefix → get_or latest number None ≡ Some place → first_declared (map (bound words) (newest_first items)) prefix ≡ option_map uri_of (slice_get items place)
hinted-declared words items latest prefix number place s once is e =
    let below : number < length words = below-placed (length words) (newest_first items) number place s.shadow (sym (s.nearest number) ∙ e) in
    kept-declared words items latest prefix number s once (index-get words number below ∙ ap Some is) (Some place) e

-- the default namespace
empty-xmlns : bytes_eq [] xmlns_prefix ≡ false
unfolding xmlns_prefix
empty-xmlns = refl

empty-xml : bytes_eq [] xml_prefix ≡ false
unfolding xml_prefix
empty-xml = refl

pub default-is : (scope : List Decl) (o : Option (List ℕ)) → first_declared scope [] ≡ o → namespace_in scope [] ≡ Some (unwrap_or o [])
default-is scope None e = rw (empty-xmlns, empty-xml, e) refl
default-is scope (Some uri) e = rw (empty-xmlns, empty-xml, e) refl

-- the nearest declaration goes
pub forgotten : (words : List (List ℕ)) (had items : List Binding) (b : Binding) → had ≡ items ++ b ∷ [] →
    map (bound words) (newest_first items) ≡ drop 1 (map (bound words) (newest_first had))
forgotten words had items b e = sym (ap (λ l. drop 1 (map (bound words) (newest_first l))) e ∙ ap (λ l. drop 1 (map (bound words) l)) (newest-push items b))

-- a declaration comes
pub declared-view : (before after : List (List ℕ)) (items more : List Binding) (b : Binding) (prefix uri : List ℕ) (now : List Decl) → more ≡ items ++ b ∷ [] → get_or after b.number [] ≡ prefix → b.uri ≡ uri →
    map (bound after) (newest_first items) ≡ map (bound before) (newest_first items) → map (bound before) (newest_first items) ≡ now → map (bound after) (newest_first more) ≡ (prefix, uri) ∷ now
declared-view before after items more b prefix uri now e is_prefix is_uri kept view =
    ap (λ l. map (bound after) (newest_first l)) e
    ∙ (ap (map (bound after)) (newest-push items b)
    ∙ (ap₂ (λ d l. d ∷ l) (ap₂ (λ p u. (p, u)) is_prefix is_uri) (kept ∙ view)))

pub drop-next : {A : Type 0} (n : ℕ) (xs : List A) → drop 1 (drop n xs) ≡ drop (n + 1) xs
drop-next n xs = by n xs ∙ ap (λ k. drop k xs) (let e : suc n ≡ n + 1 = omega arith in e)
  where
    by : {A : Type 0} (n : ℕ) (xs : List A) → drop 1 (drop n xs) ≡ drop (suc n) xs
    by zero xs = refl
    by (suc n) [] = refl
    by (suc n) (x ∷ xs) = by n xs

-- where nothing is declared
pub nothing-declared : (words : List (List ℕ)) (bindings : List Binding) (prefix : List ℕ) → length bindings ≡ 0 → first_declared (map (bound words) (newest_first bindings)) prefix ≡ None
nothing-declared words [] prefix none = refl
nothing-declared words (binding ∷ bindings) prefix none = absurd (omega (arith, none))
