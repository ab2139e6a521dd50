-- What becomes of chains where an item is linked before others, or dropped.
use Rattle.std.proofs.Common.{◌≡◌, ◌≢◌, ◌∙◌, ℕ, zero, suc, ◌+◌, ◌<◌, ◌≤◌, List, [], ◌∷◌, ◌++◌, ◌⊎◌, length, slice_index_or, slice_get, Some, None, Result, Ok, Err, OnOk, OnErr, refl, sym, ap, subst, inl, inr, arith, add-one, get_or-set_same, get_or-set_other}
use Rattle.std.proofs.lemmas.Bool.{cases_eq}
use Rattle.std.proofs.lemmas.Bool.Decides.{nat_tests}
use Rattle.std.proofs.lemmas.Option.{slice_get_within}
use Rattle.std.proofs.lemmas.List.Elements.{Contains-append_left, Contains-push}
use Rattle.std.specs.List.{Contains}
use Rattle.cell_index.specs.declared.links.Link.{Link}
use Rattle.cell_index.specs.declared.chains.Chains.{Chains}
use Rattle.cell_index.specs.inner.Chains.{InChain, Keeps, PutsFirst, newest}
use Rattle.cell_index.specs.inner.Links.{IsLinked, here, before, earlier, link_at}

get_more : {X : Type 0} (xs ys : List X) (k : ℕ) (x : X) → slice_get xs k ≡ Some x → slice_get (xs ++ ys) k ≡ Some x
get_more [] ys k x is = absurd (cc)
get_more (y ∷ xs) ys zero x is = is
get_more (y ∷ xs) ys (suc k) x is = get_more xs ys k x is

get_last : {X : Type 0} (xs : List X) (x : X) → slice_get (xs ++ x ∷ []) (length xs) ≡ Some x
get_last [] x = refl
get_last (y ∷ xs) x = get_last xs x

-- a link stays where another comes
link_more : (links : List Link) (l : Link) (number : ℕ) (x : Link) → link_at links number ≡ Some x → link_at (links ++ l ∷ []) number ≡ Some x
link_more links l zero x at = absurd (cc)
link_more links l (suc place) x at = get_more links (l ∷ []) place x at

linked_more : (links : List Link) (l : Link) (item : ℕ) {number : ℕ} → IsLinked links item number → IsLinked (links ++ l ∷ []) item number
linked_more links l item (here number x at is) = here number x (link_more links l number x at) is
linked_more links l item (before number x at rest) = before number x (link_more links l number x at) (linked_more links l item rest)

-- a link has a number up to how many there are
link_within : (links : List Link) (number : ℕ) (x : Link) → link_at links number ≡ Some x → number ≤ length links
link_within links zero x at = omega arith
link_within links (suc place) x at = let below = slice_get_within links place x at in omega (arith, below)

linked_within : (links : List Link) (item : ℕ) {number : ℕ} → IsLinked links item number → number ≤ length links
linked_within links item (here number x at is) = link_within links number x at
linked_within links item (before number x at rest) = link_within links number x at

-- a link to an earlier one leads there
leads : (l : Link) (number : ℕ) → l.next < number → earlier l number ≡ l.next
leads l number below = grind (arith, nat_tests)

-- a new link leads to its item, and to the items behind it
item_linked : (links : List Link) (l : Link) (number : ℕ) → number ≡ length links + 1 → IsLinked (links ++ l ∷ []) l.item number
item_linked links l number is =
    subst (IsLinked (links ++ l ∷ []) l.item) (sym (is ∙ add-one (length links))) (here (suc (length links)) l (get_last links l) refl)

items_linked : (links : List Link) (l : Link) (item number : ℕ) → number ≡ length links + 1 → IsLinked links item l.next → IsLinked (links ++ l ∷ []) item number
items_linked links l item number is linked =
    let within = linked_within links item linked in
    let below : l.next < suc (length links) = omega (arith, within) in
    subst (IsLinked (links ++ l ∷ []) item) (sym (is ∙ add-one (length links)))
    (before (suc (length links)) l (get_last links l)
    (subst (IsLinked (links ++ l ∷ []) item) (sym (leads l (suc (length links)) below)) (linked_more links l item linked)))

module _ (old new : Chains) (key item : ℕ) (within : key < length old.heads.items) (adds : PutsFirst old new key item) where
  head_there : newest new key ≡ length old.links.items + 1
  head_there =
      ap (λ (heads : List ℕ). slice_index_or heads key 0) adds.heads
      ∙ get_or-set_same old.heads.items key (length old.links.items + 1) 0 within

  head_elsewhere : (k : ℕ) → k ≢ key → newest new k ≡ newest old k
  head_elsewhere k differ =
      ap (λ (heads : List ℕ). slice_index_or heads k 0) adds.heads
      ∙ get_or-set_other old.heads.items key k (length old.links.items + 1) 0 differ

  -- the item is in the chain of the key
  pub adds_item : InChain new key item
  adds_item = record {
    linked = subst (λ (links : List Link). IsLinked links item (newest new key)) (sym adds.links)
        (item_linked old.links.items (record { item = item; next = newest old key }) (newest new key) head_there);
  }

  -- and each item stays in its chain
  pub adds_keep : Keeps old new
  adds_keep k i was = elim (cases_eq k key) [
    | inl same ↦ record {
      linked = subst (λ (links : List Link). IsLinked links i (newest new k)) (sym adds.links)
          (items_linked old.links.items (record { item = item; next = newest old key }) i (newest new k)
          (ap (λ (place : ℕ). slice_index_or new.heads.items place 0) same ∙ head_there)
          (subst (IsLinked old.links.items i) (ap (λ (place : ℕ). slice_index_or old.heads.items place 0) same) was.linked));
    }
    | inr differ ↦ record {
      linked = subst (λ (links : List Link). IsLinked links i (newest new k)) (sym adds.links)
          (linked_more old.links.items (record { item = item; next = newest old key }) i
          (subst (IsLinked old.links.items i) (sym (head_elsewhere k differ)) was.linked));
    }
  ]

-- chains with the same links and heads
pub chains_alike : (old new : Chains) → ((place : ℕ) → slice_index_or new.heads.items place 0 ≡ slice_index_or old.heads.items place 0) → new.links.items ≡ old.links.items → Keeps old new
chains_alike old new heads links k i was = record {
  linked = subst (λ (all : List Link). IsLinked all i (newest new k)) (sym links) (subst (IsLinked old.links.items i) (sym (heads k)) was.linked);
}

-- where an item was added or not
pub keep_either : {A E : Type 0} (result : Result A E) (old mid new : Chains) (key item : ℕ) → key < length mid.heads.items → Keeps old mid →
    OnOk result (PutsFirst mid new key item) → OnErr result (new.heads ≡ mid.heads) → OnErr result (new.links.items ≡ mid.links.items) → Keeps old new
keep_either (Ok v) old mid new key item within keeps adds heads links = λ k i was. adds_keep mid new key item within adds k i (keeps k i was)
keep_either (Err e) old mid new key item within keeps adds heads links = λ k i was.
    chains_alike mid new (λ place. ap (λ h. slice_index_or h.items place 0) heads) links k i (keeps k i was)

pub item_added : {A E : Type 0} (result : Result A E) (mid new : Chains) (key item : ℕ) → key < length mid.heads.items →
    OnOk result (PutsFirst mid new key item) → OnOk result (InChain new key item)
item_added (Ok v) mid new key item within adds = adds_item mid new key item within adds
item_added (Err e) mid new key item within adds = tt

-- A walk along a chain

same_some : {A : Type 0} (a b : A) → Some a ≡ Some b → a ≡ b
same_some a b same = cc

-- the item of a link, and those that it leads to
linked_cases : (links : List Link) (item : ℕ) (link : Link) {number : ℕ} → link_at links number ≡ Some link → IsLinked links item number → (item ≡ link.item) ⊎ IsLinked links item (earlier link number)
linked_cases links item link at (here number l found is) = inl (sym (ap (λ (k : Link). k.item) (sym (same_some l link (sym found ∙ at))) ∙ is))
linked_cases links item link at (before number l found rest) = inr (subst (λ (k : Link). IsLinked links item (earlier k number)) (same_some l link (sym found ∙ at)) rest)

linked_none : (links : List Link) (item : ℕ) {number : ℕ} → link_at links number ≡ None → IsLinked links item number → ⊥
linked_none links item none (here number l found is) = cc
linked_none links item none (before number l found rest) = cc

-- one link more
pub walk_on : (links : List Link) (link : Link) (number : ℕ) (items more : List ℕ) (item : ℕ) → link_at links number ≡ Some link → more ≡ items ++ link.item ∷ [] →
    Contains items item ⊎ IsLinked links item number → Contains more item ⊎ IsLinked links item (earlier link number)
walk_on links link number items more item at is (inl was) = inl (subst (λ (all : List ℕ). Contains all item) (sym is) (Contains-append_left items (link.item ∷ []) item was))
walk_on links link number items more item at is (inr linked) = elim (linked_cases links item link at linked) [
  | inl same ↦ inl (subst (λ (all : List ℕ). Contains all item) (sym is) (subst (Contains (items ++ link.item ∷ [])) (sym same) (Contains-push items link.item)))
  | inr behind ↦ inr behind
]

-- and none is left
pub walk_ends : (links : List Link) (number : ℕ) (items : List ℕ) (item : ℕ) → link_at links number ≡ None → Contains items item ⊎ IsLinked links item number → Contains items item
walk_ends links number items item none (inl there) = there
walk_ends links number items item none (inr linked) = absurd (linked_none links item none linked)
