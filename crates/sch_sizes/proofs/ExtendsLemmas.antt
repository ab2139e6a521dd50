-- What an `extends` amounts to: as it is looked up, and as it is meant.
use Rattle.std.proofs.Common.{arith, ◌≡◌, ℕ, zero, suc, ◌+◌, ◌<◌, Bool, true, false, cond, not, ◌&&◌, ◌||◌, List, [], ◌∷◌, ◌++◌, Option, Some, None, map, take, length, slice_get, refl, sym, ap, ap₂, ◌∙◌, subst, append-nil, append_assoc, add-one}
use Rattle.std.proofs.lemmas.List.{map-append}
use Rattle.std.specs.List.{flat_map, list_all, list_any}
use Rattle.std.proofs.lemmas.Bool.{and_parts, false≢true}
use Rattle.std.proofs.lemmas.Slice.Eq.{bytes_eq-Decides}
use Rattle.sch_model.specs.declared.raw.RawItem.{RawItem}
use Rattle.sch_model.specs.declared.raw.RawItem.TheVariants as item
use Rattle.sch_model.specs.declared.raw.RawPattern.{RawPattern}
use Rattle.sch_model.specs.declared.raw.RawRule.{RawRule}
use Rattle.sch_expansion.specs.Flat.{concrete_rules}
use Rattle.sch_expansion.specs.Stands.{ExtendsAreReplaced, replaced, stands_for}
use Rattle.sch_model.specs.Items.{extended_in}
use Rattle.sch_references.specs.Extends.{is_id, is_named, items_named}
use Rattle.sch_references.specs.Order.{IsOrderOf, extends_only, is_sorted}
use Rattle.sch_references.specs.Placed.{IsPlaceOf}
use Rattle.sch_sizes.specs.declared.amount.Amount.{Amount}
use Rattle.sch_sizes.specs.inner.Amounts.{cap, nothing, plus, sum_all}
use Rattle.sch_sizes.specs.inner.Sums.{amount_at, extends_some, is_extends, item_found, item_meant, items_found, items_meant, looked, pattern_found, pattern_meant, rule_found, rule_meant}
use Rattle.sch_sizes.specs.inner.Tables.{stands_amounts}
use Rattle.sch_sizes.specs.inner.Weights.{Weights}
use Rattle.sch_sizes.proofs.AmountLemmas.{cap-both, cap-cap, cap-nothing, cap_parts, sum-append, sum-filter, sum_same_cap}

-- a name is looked up by its place
pub looked-none : (amounts : List Amount) (ordered : List RawRule) (name : List ℕ) → is_named ordered name ≡ false → looked amounts ordered name ≡ nothing
looked-none [] ordered name none = refl
looked-none (amount ∷ amounts) [] name none = refl
looked-none (amount ∷ amounts) (rule ∷ ordered) name none = by (is_id name rule.id) none (looked-none amounts ordered name)
  where
    by : (b : Bool) → (b || is_named ordered name) ≡ false → (is_named ordered name ≡ false → looked amounts ordered name ≡ nothing) →
        cond b amount (looked amounts ordered name) ≡ nothing
    by true h rest = absurd (false≢true (sym h))
    by false h rest = rest h

pub looked-at : (amounts : List Amount) (ordered : List RawRule) (name : List ℕ) (place : ℕ) (rule : RawRule) →
    slice_get ordered place ≡ Some rule → is_id name rule.id ≡ true → is_named (take place ordered) name ≡ false → looked amounts ordered name ≡ amount_at amounts place
looked-at [] ordered name place rule here id first = refl
looked-at (amount ∷ amounts) [] name place rule here id first = absurd (cc)
looked-at (amount ∷ amounts) (other ∷ ordered) name zero rule here id first = let same : other ≡ rule = cc in
    subst (λ (r : RawRule). cond (is_id name r.id) amount (looked amounts ordered name) ≡ amount) (sym same)
    (ap (λ b. cond b amount (looked amounts ordered name)) id)
looked-at (amount ∷ amounts) (other ∷ ordered) name (suc place) rule here id first =
    by (is_id name other.id) first (looked-at amounts ordered name place rule here id)
  where
    by : (b : Bool) → (b || is_named (take place ordered) name) ≡ false → (is_named (take place ordered) name ≡ false → looked amounts ordered name ≡ amount_at amounts place) →
        cond b amount (looked amounts ordered name) ≡ amount_at amounts place
    by true h rest = absurd (false≢true (sym h))
    by false h rest = rest h

within_some : {A : Type 0} (xs : List A) (i : ℕ) → i < length xs → slice_get xs i ≡ None → ⊥
within_some [] i less none = omega arith
within_some (x ∷ xs) zero less none = absurd (cc)
within_some (x ∷ xs) (suc i) less none = within_some xs i (omega arith) none

pub looked-placed : (amounts : List Amount) (ordered : List RawRule) (name : List ℕ) (place : ℕ) → IsPlaceOf ordered name place →
    looked amounts ordered name ≡ amount_at amounts place
looked-placed amounts ordered name place placed = by (slice_get ordered place) refl
  where
    by : (found : Option RawRule) → slice_get ordered place ≡ found → looked amounts ordered name ≡ amount_at amounts place
    by None here = absurd (within_some ordered place placed.within here)
    by (Some rule) here =
        looked-at amounts ordered name place rule here
        (ap (is_id name) (placed.id rule here) ∙ (bytes_eq-Decides name name).1 refl) placed.first

-- the amounts of rules in front are those of the items that are named
pub looked-taken : (amount : List RawItem → Amount) (place : ℕ) (ordered : List RawRule) (name : List ℕ) → is_named (take place ordered) name ≡ true →
    looked (map (λ rule. amount rule.items) (take place ordered)) ordered name ≡ amount (items_named ordered name)
looked-taken amount zero ordered name named = absurd (false≢true named)
looked-taken amount (suc place) [] name named = absurd (false≢true named)
looked-taken amount (suc place) (rule ∷ ordered) name named = by (is_id name rule.id) named (looked-taken amount place ordered name)
  where
    by : (b : Bool) → (b || is_named (take place ordered) name) ≡ true →
        (is_named (take place ordered) name ≡ true → looked (map (λ r. amount r.items) (take place ordered)) ordered name ≡ amount (items_named ordered name)) →
        cond b (amount rule.items) (looked (map (λ r. amount r.items) (take place ordered)) ordered name) ≡ amount (cond b rule.items (items_named ordered name))
    by true h rest = refl
    by false h rest = rest h

pub looked-all : (amount : List RawItem → Amount) (ordered : List RawRule) (name : List ℕ) → amount [] ≡ nothing →
    looked (map (λ rule. amount rule.items) ordered) ordered name ≡ amount (items_named ordered name)
looked-all amount [] name none = sym none
looked-all amount (rule ∷ ordered) name none = by (is_id name rule.id) (looked-all amount ordered name none)
  where
    by : (b : Bool) → looked (map (λ r. amount r.items) ordered) ordered name ≡ amount (items_named ordered name) →
        cond b (amount rule.items) (looked (map (λ r. amount r.items) ordered) ordered name) ≡ amount (cond b rule.items (items_named ordered name))
    by true rest = refl
    by false rest = rest

-- in an order each rule extends only those before it
pub sorted-at : (before ordered : List RawRule) (place : ℕ) (rule : RawRule) → is_sorted before ordered ≡ true → slice_get ordered place ≡ Some rule →
    extends_only (before ++ take place ordered) rule.items ≡ true
sorted-at before [] place rule sorted here = absurd (cc)
sorted-at before (other ∷ ordered) zero rule sorted here =
    let same : other ≡ rule = cc in
    let first = (and_parts (extends_only before other.items) _ sorted).0 in
    subst (λ (r : RawRule). extends_only (before ++ []) r.items ≡ true) same
    (subst (λ (rs : List RawRule). extends_only rs other.items ≡ true) (sym (append-nil before)) first)
sorted-at before (other ∷ ordered) (suc place) rule sorted here =
    let rest = (and_parts (extends_only before other.items) _ sorted).1 in
    subst (λ (rs : List RawRule). extends_only rs rule.items ≡ true) (append_assoc before (other ∷ []) (take place ordered))
    (sorted-at (before ++ other ∷ []) ordered place rule rest here)

module _ (weights : Weights) (look : List ℕ → Amount) (stands : List ℕ → List RawItem) where
  -- items of which each name that counts is looked up right
  pub items_same : (counts : List ℕ → Bool) → ((name : List ℕ) → counts name ≡ true → cap (look name) ≡ cap (sum_all (item_meant weights) (stands name))) →
      (items : List RawItem) → list_all counts (flat_map extended_in items) ≡ true →
      cap (sum_all (item_found weights look) items) ≡ cap (items_meant weights stands items)
  items_same counts right [] all = refl
  items_same counts right (item.Let decl ∷ items) all =
      cap_parts (cap (weights.let_weight decl)) (sum_all (item_found weights look) items) (weights.let_weight decl) (items_meant weights stands items)
      (cap-cap (weights.let_weight decl)) (items_same counts right items all)
  items_same counts right (item.Assertion assertion ∷ items) all =
      cap_parts (cap (weights.assertion_weight assertion)) (sum_all (item_found weights look) items) (weights.assertion_weight assertion) (items_meant weights stands items)
      (cap-cap (weights.assertion_weight assertion)) (items_same counts right items all)
  items_same counts right (item.Extends node name ∷ items) all =
      let both = and_parts (counts name) _ all in
      cap_parts (look name) (sum_all (item_found weights look) items) (sum_all (item_meant weights) (stands name)) (items_meant weights stands items)
      (right name both.0) (items_same counts right items both.1)
      ∙ ap cap (sym (sum-append (item_meant weights) (stands name) (flat_map (replaced stands) items)))

  module _ (right : (name : List ℕ) → cap (look name) ≡ cap (sum_all (item_meant weights) (stands name))) where
    all_count : (names : List (List ℕ)) → list_all (λ name. true) names ≡ true
    all_count [] = refl
    all_count (name ∷ names) = all_count names

    items_right : (items : List RawItem) → cap (sum_all (item_found weights look) items) ≡ cap (items_meant weights stands items)
    items_right items = items_same (λ name. true) (λ name h. right name) items (all_count (flat_map extended_in items))

    rule_right : (rule : RawRule) → cap (rule_found weights look rule) ≡ cap (cond (not rule.is_abstract) (rule_meant weights stands rule) nothing)
    rule_right rule = by rule.is_abstract
      where
        by : (b : Bool) → cap (cond b nothing (cap (plus (cap (weights.rule_weight rule)) (items_found weights look rule.items)))) ≡
            cap (cond (not b) (rule_meant weights stands rule) nothing)
        by true = refl
        by false =
            cap-cap (plus (cap (weights.rule_weight rule)) (items_found weights look rule.items))
            ∙ cap_parts (cap (weights.rule_weight rule)) (items_found weights look rule.items) (weights.rule_weight rule) (items_meant weights stands rule.items)
            (cap-cap (weights.rule_weight rule)) (cap-cap (sum_all (item_found weights look) rule.items) ∙ items_right rule.items)

    -- a pattern of which each name is looked up right
    pub pattern_right : (pattern origin : RawPattern) → pattern_found weights look pattern origin ≡ cap (pattern_meant weights stands pattern origin)
    pattern_right pattern origin =
        let lets = sum_all (λ decl. cap (weights.let_weight decl)) origin.lets in
        let rules = sum_all (rule_found weights look) origin.rules in
        cap-both (weights.pattern_weight pattern) (plus (cap lets) (cap rules))
        ∙ cap_parts (weights.pattern_weight pattern) (plus (cap lets) (cap rules)) (weights.pattern_weight pattern)
        (plus (sum_all weights.let_weight origin.lets) (sum_all (rule_meant weights stands) (concrete_rules origin)))
        refl
        (cap_parts (cap lets) (cap rules) (sum_all weights.let_weight origin.lets) (sum_all (rule_meant weights stands) (concrete_rules origin))
        (cap-cap lets ∙ sum_same_cap (λ decl. cap (weights.let_weight decl)) weights.let_weight origin.lets (λ decl. cap-cap (weights.let_weight decl)))
        (cap-cap rules
        ∙ sum_same_cap (rule_found weights look) (λ rule. cond (not rule.is_abstract) (rule_meant weights stands rule) nothing) origin.rules rule_right
        ∙ ap cap (sym (sum-filter (rule_meant weights stands) (λ rule. not rule.is_abstract) origin.rules))))

-- the items before a place and the one there
take_suc-get : {A : Type 0} (xs : List A) (i : ℕ) (x : A) → slice_get xs i ≡ Some x → take (suc i) xs ≡ take i xs ++ x ∷ []
take_suc-get [] i x here = absurd (cc)
take_suc-get (y ∷ xs) zero x here = let same : y ≡ x = cc in ap (λ w. w ∷ []) same
take_suc-get (y ∷ xs) (suc i) x here = ap (λ l. y ∷ l) (take_suc-get xs i x here)

take-get : {A : Type 0} (xs : List A) (i : ℕ) (x : A) → slice_get xs i ≡ Some x → take (i + 1) xs ≡ take i xs ++ x ∷ []
take-get xs i x here = ap (λ n. take n xs) (add-one i) ∙ take_suc-get xs i x here

-- the amounts of abstract rules
module _ (weights : Weights) (all ordered : List RawRule) (order : IsOrderOf all ordered) (replacing : ExtendsAreReplaced all) where
  abbrev amount : List RawItem → Amount
  amount items = cap (items_meant weights (stands_for all) items)

  named_right : (name : List ℕ) → cap (amount (items_named ordered name)) ≡ cap (sum_all (item_meant weights) (stands_for all name))
  named_right name =
      cap-cap (items_meant weights (stands_for all) (items_named ordered name))
      ∙ ap (λ items. cap (items_meant weights (stands_for all) items)) (order.items name)
      ∙ ap (λ items. cap (sum_all (item_meant weights) items)) (sym (replacing name))

  -- one rule more
  pub next_amount : (place : ℕ) (rule : RawRule) (amounts : List Amount) → slice_get ordered place ≡ Some rule → amounts ≡ stands_amounts weights all (take place ordered) →
      items_found weights (looked amounts ordered) rule.items ≡ amount rule.items
  next_amount place rule amounts here so_far =
      items_same weights (looked amounts ordered) (stands_for all) (is_named (take place ordered))
      (λ name named. ap (λ table. cap (looked table ordered name)) so_far ∙ ap cap (looked-taken amount place ordered name named) ∙ named_right name)
      rule.items (sorted-at [] ordered place rule order.sorted here)

  pub next_amounts : (place : ℕ) (rule : RawRule) (amounts new : List Amount) (found : Amount) → slice_get ordered place ≡ Some rule →
      amounts ≡ stands_amounts weights all (take place ordered) → found ≡ items_found weights (looked amounts ordered) rule.items → new ≡ amounts ++ found ∷ [] →
      new ≡ stands_amounts weights all (take (place + 1) ordered)
  next_amounts place rule amounts new found here so_far found_is new_is =
      new_is
      ∙ ap₂ (λ xs x. xs ++ x ∷ []) so_far (found_is ∙ next_amount place rule amounts here so_far)
      ∙ sym (map-append (λ r. amount r.items) (take place ordered) (rule ∷ []))
      ∙ ap (stands_amounts weights all) (sym (take-get ordered place rule here))

  -- all of them
  pub looked_right : (amounts : List Amount) → amounts ≡ stands_amounts weights all ordered →
      (name : List ℕ) → cap (looked amounts ordered name) ≡ cap (sum_all (item_meant weights) (stands_for all name))
  looked_right amounts is name =
      ap (λ table. cap (looked table ordered name)) is ∙ ap cap (looked-all amount ordered name cap-nothing) ∙ named_right name

-- where no rule that counts has an `extends`, it makes no difference what is looked up
module _ (weights : Weights) (look other : List ℕ → Amount) where
  items_alone : (items : List RawItem) → list_any is_extends items ≡ false → sum_all (item_found weights look) items ≡ sum_all (item_found weights other) items
  items_alone [] none = refl
  items_alone (item.Let decl ∷ items) none = ap (plus (cap (weights.let_weight decl))) (items_alone items none)
  items_alone (item.Assertion assertion ∷ items) none = ap (plus (cap (weights.assertion_weight assertion))) (items_alone items none)
  items_alone (item.Extends node name ∷ items) none = absurd (false≢true (sym none))

  rules_alone : (rules : List RawRule) → list_any extends_some rules ≡ false → sum_all (rule_found weights look) rules ≡ sum_all (rule_found weights other) rules
  rules_alone [] none = refl
  rules_alone (rule ∷ rules) none =
      by rule.is_abstract (list_any is_extends rule.items) none (items_alone rule.items) (rules_alone rules)
    where
      by : (b x : Bool) → ((not b && x) || list_any extends_some rules) ≡ false →
          (x ≡ false → sum_all (item_found weights look) rule.items ≡ sum_all (item_found weights other) rule.items) →
          (list_any extends_some rules ≡ false → sum_all (rule_found weights look) rules ≡ sum_all (rule_found weights other) rules) →
          plus (cond b nothing (cap (plus (cap (weights.rule_weight rule)) (items_found weights look rule.items)))) (sum_all (rule_found weights look) rules) ≡
          plus (cond b nothing (cap (plus (cap (weights.rule_weight rule)) (items_found weights other rule.items)))) (sum_all (rule_found weights other) rules)
      by true x h here rest = ap (plus nothing) (rest h)
      by false true h here rest = absurd (false≢true (sym h))
      by false false h here rest = ap₂ plus (ap (λ s. cap (plus (cap (weights.rule_weight rule)) (cap s))) (here refl)) (rest h)

  pub pattern_alone : (pattern origin : RawPattern) → list_any extends_some origin.rules ≡ false →
      pattern_found weights look pattern origin ≡ pattern_found weights other pattern origin
  pattern_alone pattern origin none =
      ap (λ s. cap (plus (cap (weights.pattern_weight pattern)) (cap (plus (cap (sum_all (λ decl. cap (weights.let_weight decl)) origin.lets)) (cap s)))))
      (rules_alone origin.rules none)
