-- The walk over what items stand for, from visit to visit.
use Rattle.std.proofs.Common.{◌≡◌, ℕ, ◌+◌, ◌<◌, ◌≤◌, ◌⊎◌, zero, suc, Bool, true, false, List, [], ◌∷◌, ◌++◌, length, map, drop, get_or, Option, None, Some, take, ◌||◌, ◌==◌, ne_eqb, true≢false, refl, sym, ap, ◌∙◌, append_assoc, append-nil, arith, inl, inr, ⊎_elim}
use Rattle.std.proofs.Math.Seq.{drop-cons}
use Rattle.std.proofs.Math.Numerals.{add-one}
use Rattle.std.proofs.lemmas.List.{drop_all, map-append}
use Rattle.std.proofs.lemmas.Bool.{and_parts, cases_lt}
use Rattle.std.proofs.lemmas.List.Folds.{list_all-append}
use Rattle.std.specs.List.{flat_map, list_all}
use Rattle.std.specs.Prelude.{slice_get, unwrap_or}
use Rattle.sch_model.specs.declared.parts.Assertion.{Assertion}
use Rattle.sch_model.specs.declared.parts.LetDecl.{LetDecl}
use Rattle.sch_model.specs.declared.raw.RawItem.{RawItem}
use Rattle.sch_model.specs.declared.raw.RawItem.TheVariants as item
use Rattle.sch_model.specs.declared.raw.RawRule.{RawRule}
use Rattle.sch_model.specs.Items.{extended_in}
use Rattle.sch_references.specs.Extends.{is_id, is_named, items_named}
use Rattle.sch_references.specs.Order.{extends_only, is_sorted}
use Rattle.sch_references.specs.Placed.{IsPlaceOf}
use Rattle.sch_expansion.specs.Flat.{assertion_in, let_in}
use Rattle.sch_expansion.specs.Stands.{replaced, stands_for}
use Rattle.sch_expansion.specs.inner.Walks.{IsInPlaceOf, IsReachedBy, Nothings, all_visits, are_none, expanded, extended_items, own_item, pending_items, pending_visits, told_at, told_rules, visits_for}
use Rattle.sch_expansion.proofs.LevelLemmas.{item-unnamed, sorted-replaced, sorted-visits}

-- an item and what it leads to
item-is : (rules : List RawRule) (its : RawItem) → replaced (stands_for rules) its ≡ own_item its ++ extended_items (stands_for rules) its
item-is rules (item.Let decl) = refl
item-is rules (item.Assertion assertion) = refl
item-is rules (item.Extends node name) = refl

-- a stretch that is next
pending-push : (rules : List RawRule) (pending : List (List RawItem)) (items : List RawItem) →
    pending_items rules (pending ++ items ∷ []) ≡ expanded rules items ++ pending_items rules pending
pending-push rules [] items = sym (append-nil (expanded rules items))
pending-push rules (first ∷ pending) items =
    ap (λ l. l ++ expanded rules first) (pending-push rules pending items)
    ∙ append_assoc (expanded rules items) (pending_items rules pending) (expanded rules first)

pub visits-push : (rules : List RawRule) (pending : List (List RawItem)) (items : List RawItem) →
    pending_visits rules (pending ++ items ∷ []) ≡ suc (all_visits (visits_for rules) items + pending_visits rules pending)
visits-push rules [] items = refl
visits-push rules (first ∷ pending) items = omega (arith, visits-push rules pending items)

-- an item is visited
pub pending-next : (rules : List RawRule) (pending : List (List RawItem)) (its : RawItem) (rest reached : List RawItem) → IsReachedBy rules its reached →
    pending_items rules (pending ++ (its ∷ rest) ∷ []) ≡ own_item its ++ pending_items rules ((pending ++ rest ∷ []) ++ reached ∷ [])
pending-next rules pending its rest reached by =
    pending-push rules pending (its ∷ rest)
    ∙ ap (λ l. (l ++ expanded rules rest) ++ pending_items rules pending) (item-is rules its ∙ ap (λ l. own_item its ++ l) (sym by.stands))
    ∙ append_assoc (own_item its ++ expanded rules reached) (expanded rules rest) (pending_items rules pending)
    ∙ append_assoc (own_item its) (expanded rules reached) (expanded rules rest ++ pending_items rules pending)
    ∙ ap (λ l. own_item its ++ (expanded rules reached ++ l)) (sym (pending-push rules pending rest))
    ∙ ap (λ l. own_item its ++ l) (sym (pending-push rules (pending ++ rest ∷ []) reached))

pub visits-next : (rules : List RawRule) (pending : List (List RawItem)) (its : RawItem) (rest reached : List RawItem) → IsReachedBy rules its reached →
    pending_visits rules ((pending ++ rest ∷ []) ++ reached ∷ []) < pending_visits rules (pending ++ (its ∷ rest) ∷ [])
visits-next rules pending its rest reached by =
    omega (arith, visits-push rules pending (its ∷ rest), visits-push rules (pending ++ rest ∷ []) reached, visits-push rules pending rest, by.visits)

pub visits-pop : (rules : List RawRule) (pending : List (List RawItem)) (items : List RawItem) → pending_visits rules pending < pending_visits rules (pending ++ items ∷ [])
visits-pop rules pending items = omega (arith, visits-push rules pending items)

lets-own : (its : RawItem) (more : List RawItem) → flat_map let_in (own_item its ++ more) ≡ let_in its ++ flat_map let_in more
lets-own (item.Let decl) more = refl
lets-own (item.Assertion assertion) more = refl
lets-own (item.Extends node name) more = refl

assertions-own : (its : RawItem) (more : List RawItem) → flat_map assertion_in (own_item its ++ more) ≡ assertion_in its ++ flat_map assertion_in more
assertions-own (item.Let decl) more = refl
assertions-own (item.Assertion assertion) more = refl
assertions-own (item.Extends node name) more = refl

-- what was taken, and what is still pending
pub lets-next : (f : LetDecl → LetDecl) (taken now : List LetDecl) (its : RawItem) (before after : List RawItem) → before ≡ own_item its ++ after →
    now ≡ taken ++ map f (let_in its) → now ++ map f (flat_map let_in after) ≡ taken ++ map f (flat_map let_in before)
lets-next f taken now its before after split pushed =
    ap (λ l. l ++ map f (flat_map let_in after)) pushed
    ∙ append_assoc taken (map f (let_in its)) (map f (flat_map let_in after))
    ∙ ap (λ l. taken ++ l) (sym (map-append f (let_in its) (flat_map let_in after)) ∙ ap (map f) (sym (lets-own its after) ∙ ap (flat_map let_in) (sym split)))

pub assertions-next : (f : Assertion → Assertion) (taken now : List Assertion) (its : RawItem) (before after : List RawItem) → before ≡ own_item its ++ after →
    now ≡ taken ++ map f (assertion_in its) → now ++ map f (flat_map assertion_in after) ≡ taken ++ map f (flat_map assertion_in before)
assertions-next f taken now its before after split pushed =
    ap (λ l. l ++ map f (flat_map assertion_in after)) pushed
    ∙ append_assoc taken (map f (assertion_in its)) (map f (flat_map assertion_in after))
    ∙ ap (λ l. taken ++ l) (sym (map-append f (assertion_in its) (flat_map assertion_in after)) ∙ ap (map f) (sym (assertions-own its after) ∙ ap (flat_map assertion_in) (sym split)))

-- an empty stretch
pub pending-pop : (rules : List RawRule) (pending : List (List RawItem)) (items : List RawItem) → length items ≡ 0 →
    pending_items rules (pending ++ items ∷ []) ≡ pending_items rules pending
pending-pop rules pending [] none = pending-push rules pending []
pending-pop rules pending (its ∷ items) none = absurd (cc)

-- in the place of an `extends`: the items of its rule
pub rule-in-place : (rules : List RawRule) (name : List ℕ) (place : ℕ) (rule : RawRule) → is_sorted [] rules ≡ true → IsPlaceOf rules name place →
    slice_get rules place ≡ Some rule → IsInPlaceOf rules name rule.items
rule-in-place rules name place rule sorted is at =
    let its : items_named rules name ≡ rule.items = is.items rule at in
    record {
      stands = sym (sorted-replaced rules sorted name ∙ ap (expanded rules) its);
      visits = (let e : visits_for rules name ≡ all_visits (visits_for rules) rule.items =
          sorted-visits rules sorted name ∙ ap (all_visits (visits_for rules)) its in omega (arith, e));
    }

-- none, where the rule stands for nothing, or there is none
pub none-in-place : (rules : List RawRule) (name : List ℕ) → stands_for rules name ≡ [] → IsInPlaceOf rules name []
none-in-place rules name none = record { stands = sym none; visits = omega arith }

pub unnamed-in-place : (rules : List RawRule) (name : List ℕ) → is_sorted [] rules ≡ true → is_named rules name ≡ false → IsInPlaceOf rules name []
unnamed-in-place rules name sorted none =
    none-in-place rules name (sorted-replaced rules sorted name ∙ ap (expanded rules) (item-unnamed rules name none))

-- whether there is no item
none-is : (items : List RawItem) → are_none items ≡ true → items ≡ []
none-is [] e = refl
none-is (its ∷ items) e = absurd (cc)

empty-none : (items : List RawItem) → (length items == 0) ≡ are_none items
empty-none [] = refl
empty-none (its ∷ items) = ne_eqb (length (its ∷ items)) 0 (omega arith)

none-front : (xs ys : List RawItem) → are_none xs ≡ false → are_none (xs ++ ys) ≡ false
none-front [] ys e = absurd (cc)
none-front (its ∷ xs) ys e = refl

-- what a table tells
some-at : {A : Type 0} (xs : List A) (place : ℕ) → place < length xs → (x : A) × (slice_get xs place ≡ Some x)
some-at [] place less = absurd (omega arith)
some-at (x ∷ xs) zero less = (x, refl)
some-at (x ∷ xs) (suc place) less = some-at xs place (omega arith)

is-told : (o : Option Bool) → unwrap_or o false ≡ true → o ≡ Some true
is-told None e = absurd (cc)
is-told (Some b) e = ap Some e

pub told-in-place : (rules : List RawRule) (table : List Bool) (name : List ℕ) (place : ℕ) → is_sorted [] rules ≡ true → Nothings rules table → IsPlaceOf rules name place →
    told_at table place ≡ true → IsInPlaceOf rules name []
told-in-place rules table name place sorted nothings is told =
    let at = some-at rules place is.within in
    none-in-place rules name
    (sorted-replaced rules sorted name ∙ ap (expanded rules) (is.items at.0 at.1)
    ∙ none-is (expanded rules at.0.items) (sym (nothings place true at.0 (is-told (slice_get table place) told) at.1)))

-- a name of a rule of which the table tells
named-more : (rules : List RawRule) (m n : ℕ) (name : List ℕ) → m ≤ n → is_named (take m rules) name ≡ true → is_named (take n rules) name ≡ true
named-more rules zero n name less is = absurd (cc)
named-more rules (suc m) zero name less is = absurd (omega (arith, less))
named-more [] (suc m) (suc n) name less is = is
named-more (rule ∷ rules) (suc m) (suc n) name less is = by (is_id name rule.id) is (named-more rules m n name (omega (arith, less)))
  where
    by : (b : Bool) → (b || is_named (take m rules) name) ≡ true → (is_named (take m rules) name ≡ true → is_named (take n rules) name ≡ true) → (b || is_named (take n rules) name) ≡ true
    by true e more = refl
    by false e more = more e

told-place : (rules : List RawRule) (table : List Bool) (name : List ℕ) (place : ℕ) → IsPlaceOf rules name place → is_named (told_rules rules table) name ≡ true → place < length table
told-place rules table name place is known = ⊎_elim
    (λ (less : place < length table). less)
    (λ (past : length table ≤ place). absurd (true≢false (sym (named-more rules (length table) place name past known) ∙ is.first)))
    (cases_lt place (length table))

some-items : (rules : List RawRule) (items : List RawItem) → are_none (expanded rules items) ≡ false → are_none items ≡ false
some-items rules [] e = absurd (cc)
some-items rules (its ∷ items) e = refl

-- in the place of an `extends` stands nothing just where it stands for nothing
pub something-in-place : (rules : List RawRule) (table : List Bool) (name : List ℕ) (place : ℕ) (rule : RawRule) → is_sorted [] rules ≡ true → Nothings rules table →
    IsPlaceOf rules name place → slice_get rules place ≡ Some rule → told_at table place ≡ false → is_named (told_rules rules table) name ≡ true →
    are_none rule.items ≡ are_none (stands_for rules name)
something-in-place rules table name place rule sorted nothings is at told known =
    let here = some-at table place (told-place rules table name place is known) in
    let says : here.0 ≡ false = sym (ap (λ o. unwrap_or o false) here.1) ∙ told in
    let none : are_none (expanded rules rule.items) ≡ false = sym (nothings place here.0 rule here.1 at) ∙ says in
    some-items rules rule.items none
    ∙ sym (ap are_none (sorted-replaced rules sorted name ∙ ap (expanded rules) (is.items rule at)) ∙ none)

pub nothing-in-place : (rules : List RawRule) (name : List ℕ) → IsInPlaceOf rules name [] → are_none [] ≡ are_none (stands_for rules name)
nothing-in-place rules name in_place = ap are_none in_place.stands

pub extended-nothing : (rules : List RawRule) (table : List Bool) (its : RawItem) (node : ℕ) (rule name : List ℕ) (items : List RawItem) → name ≡ rule → its ≡ item.Extends node rule →
    list_all (is_named (told_rules rules table)) (extended_in its) ≡ true →
    (is_named (told_rules rules table) name ≡ true → are_none items ≡ are_none (stands_for rules name)) → (length items == 0) ≡ are_none (replaced (stands_for rules) its)
extended-nothing rules table its node rule name items same is known nothing =
    let all : list_all (is_named (told_rules rules table)) (extended_in (item.Extends node rule)) ≡ true =
    sym (ap (λ it. list_all (is_named (told_rules rules table)) (extended_in it)) is) ∙ known in
    empty-none items
    ∙ nothing (ap (is_named (told_rules rules table)) same ∙ (and_parts (is_named (told_rules rules table) rule) true all).0)
    ∙ ap (λ n. are_none (stands_for rules n)) same
    ∙ sym (ap (λ it. are_none (replaced (stands_for rules) it)) is)

push-cases : (table : List Bool) (b t : Bool) (place : ℕ) → slice_get (table ++ b ∷ []) place ≡ Some t → (slice_get table place ≡ Some t) ⊎ ((place ≡ length table) × (b ≡ t))
push-cases [] b t zero e = inr (refl, (cc))
push-cases [] b t (suc place) e = absurd (cc)
push-cases (s ∷ table) b t zero e = inl e
push-cases (s ∷ table) b t (suc place) e =
    ⊎_elim (λ (h : slice_get table place ≡ Some t). inl h) (λ (h : (place ≡ length table) × (b ≡ t)). inr (ap suc h.0, h.1)) (push-cases table b t place e)

rule-same : (rules : List RawRule) (place : ℕ) (r q : RawRule) → slice_get rules place ≡ Some r → slice_get rules place ≡ Some q → r ≡ q
rule-same rules place r q er eq = cc

pub nothings-push : (rules : List RawRule) (table : List Bool) (b : Bool) (place : ℕ) (rule : RawRule) → Nothings rules table → length table ≡ place → slice_get rules place ≡ Some rule →
    b ≡ are_none (expanded rules rule.items) → Nothings rules (table ++ b ∷ [])
nothings-push rules table b place rule nothings long at here = λ p t r told is.
    ⊎_elim (λ (h : slice_get table p ≡ Some t). nothings p t r h is)
    (λ (h : (p ≡ length table) × (b ≡ t)).
    let same : r ≡ rule = rule-same rules place r rule (ap (slice_get rules) (sym (h.0 ∙ long)) ∙ is) at in
    sym h.1 ∙ here ∙ ap (λ q. are_none (expanded rules q.items)) (sym same))
    (push-cases table b t p told)

-- a rule extends rules before it alone, of which the table tells
sorted-at : (before rules : List RawRule) (place : ℕ) (rule : RawRule) → is_sorted before rules ≡ true → slice_get rules place ≡ Some rule →
    extends_only (before ++ take place rules) rule.items ≡ true
sorted-at before [] place rule sorted at = absurd (cc)
sorted-at before (r ∷ rules) zero rule sorted at =
    let same : r ≡ rule = cc in
    ap (λ l. extends_only l rule.items) (append-nil before) ∙ ap (λ q. extends_only before q.items) (sym same)
    ∙ (and_parts (extends_only before r.items) (is_sorted (before ++ r ∷ []) rules) sorted).0
sorted-at before (r ∷ rules) (suc place) rule sorted at =
    ap (λ l. extends_only l rule.items) (sym (append_assoc before (r ∷ []) (take place rules)))
    ∙ sorted-at (before ++ r ∷ []) rules place rule (and_parts (extends_only before r.items) (is_sorted (before ++ r ∷ []) rules) sorted).1 at

pub rule-known : (rules : List RawRule) (table : List Bool) (place : ℕ) (rule : RawRule) → is_sorted [] rules ≡ true → length table ≡ place → slice_get rules place ≡ Some rule →
    extends_only (told_rules rules table) rule.items ≡ true
rule-known rules table place rule sorted long at = ap (λ n. extends_only (take n rules) rule.items) long ∙ sorted-at [] rules place rule sorted at

pub item-known : (before : List RawRule) (items : List RawItem) (i : ℕ) (its : RawItem) → i < length items → its ≡ get_or items i its → extends_only before items ≡ true →
    list_all (is_named before) (extended_in its) ≡ true
item-known before [] i its less is known = absurd (omega arith)
item-known before (x ∷ items) zero its less is known =
    ap (λ it. list_all (is_named before) (extended_in it)) is
    ∙ (and_parts (list_all (is_named before) (extended_in x)) (extends_only before items) (sym (list_all-append (is_named before) (extended_in x) (flat_map extended_in items)) ∙ known)).0
item-known before (x ∷ items) (suc i) its less is known =
    item-known before items i its (omega (arith, less)) is
    (and_parts (list_all (is_named before) (extended_in x)) (extends_only before items) (sym (list_all-append (is_named before) (extended_in x) (flat_map extended_in items)) ∙ known)).1

-- items one after another
item-left : (items : List RawItem) (i : ℕ) (its : RawItem) → i < length items → its ≡ get_or items i its → drop i items ≡ its ∷ drop (i + 1) items
item-left items i its less is = drop-cons items i its less ∙ (λ j. sym is j ∷ drop (sym (add-one i) j) items)

pub nothing-next : (rules : List RawRule) (items : List RawItem) (i : ℕ) (its : RawItem) → i < length items → its ≡ get_or items i its → are_none (replaced (stands_for rules) its) ≡ true →
    expanded rules (drop i items) ≡ expanded rules (drop (i + 1) items)
nothing-next rules items i its less is none =
    ap (expanded rules) (item-left items i its less is) ∙ ap (λ l. l ++ expanded rules (drop (i + 1) items)) (none-is (replaced (stands_for rules) its) none)

pub something-next : (rules : List RawRule) (items : List RawItem) (i : ℕ) (its : RawItem) → i < length items → its ≡ get_or items i its → are_none (replaced (stands_for rules) its) ≡ false →
    are_none (expanded rules (drop i items)) ≡ false
something-next rules items i its less is some =
    ap (λ l. are_none (expanded rules l)) (item-left items i its less is) ∙ none-front (replaced (stands_for rules) its) (expanded rules (drop (i + 1) items)) some

pub nothing-left : (rules : List RawRule) (items : List RawItem) (i : ℕ) → length items ≤ i → expanded rules (drop i items) ≡ []
nothing-left rules items i least = ap (expanded rules) (drop_all i items least)

pub no-nothings : (rules : List RawRule) → Nothings rules []
no-nothings rules = λ place told rule says at. absurd (cc)

-- the stack of stretches, as it is kept
module _ {A : Type 0} (now : A → List RawItem) (rules : List RawRule) where
  stack-push : (stack was : List A) (stretch : A) → was ≡ stack ++ stretch ∷ [] → map now was ≡ map now stack ++ now stretch ∷ []
  stack-push stack was stretch e = ap (map now) e ∙ map-append now stack (stretch ∷ [])

  stack-top : (stack was : List A) (stretch : A) (items : List RawItem) → was ≡ stack ++ stretch ∷ [] → now stretch ≡ items → map now was ≡ map now stack ++ items ∷ []
  stack-top stack was stretch items e is = stack-push stack was stretch e ∙ ap (λ l. map now stack ++ l ∷ []) is

  pub visited-items : (stack was : List A) (stretch : A) (after : List (List RawItem)) (its : RawItem) (rest reached : List RawItem) → was ≡ stack ++ stretch ∷ [] →
      after ≡ (map now stack ++ rest ∷ []) ++ reached ∷ [] → now stretch ≡ its ∷ rest → IsReachedBy rules its reached →
      pending_items rules (map now was) ≡ own_item its ++ pending_items rules after
  visited-items stack was stretch after its rest reached popped pushed split by =
      ap (pending_items rules) (stack-top stack was stretch (its ∷ rest) popped split)
      ∙ pending-next rules (map now stack) its rest reached by
      ∙ ap (λ l. own_item its ++ pending_items rules l) (sym pushed)

  pub visited-fewer : (stack was : List A) (stretch : A) (after : List (List RawItem)) (its : RawItem) (rest reached : List RawItem) → was ≡ stack ++ stretch ∷ [] →
      after ≡ (map now stack ++ rest ∷ []) ++ reached ∷ [] → now stretch ≡ its ∷ rest → IsReachedBy rules its reached →
      pending_visits rules after < pending_visits rules (map now was)
  visited-fewer stack was stretch after its rest reached popped pushed split by =
      omega (
        arith,
        ap (pending_visits rules) (stack-top stack was stretch (its ∷ rest) popped split),
        visits-next rules (map now stack) its rest reached by,
        ap (pending_visits rules) pushed,
      )

  pub ended-items : (stack was : List A) (stretch : A) → was ≡ stack ++ stretch ∷ [] → length (now stretch) ≡ 0 → pending_items rules (map now was) ≡ pending_items rules (map now stack)
  ended-items stack was stretch popped none =
      ap (pending_items rules) (stack-push stack was stretch popped) ∙ pending-pop rules (map now stack) (now stretch) none

  pub ended-fewer : (stack was : List A) (stretch : A) → was ≡ stack ++ stretch ∷ [] → pending_visits rules (map now stack) < pending_visits rules (map now was)
  ended-fewer stack was stretch popped =
      omega (arith, visits-pop rules (map now stack) (now stretch), ap (pending_visits rules) (stack-push stack was stretch popped))
