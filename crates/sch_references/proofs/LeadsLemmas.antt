-- Ways by `extends`.
use Rattle.std.proofs.Common.{◌≡◌, ◌⊎◌, ℕ, ◌≤◌, suc, zero, Bool, true, false, cond, not, ◌&&◌, ◌||◌, List, [], ◌∷◌, Some, length, filter, refl, sym, ap, ◌∙◌, subst, inl, inr, ⊎_elim, true≢false, arith}
use Rattle.std.specs.List.{flat_map, list_all, list_any}
use Rattle.std.specs.Str.{bytes_eq}
use Rattle.sch_model.specs.declared.raw.RawItem.{RawItem}
use Rattle.sch_model.specs.declared.raw.RawRule.{RawRule}
use Rattle.sch_references.specs.Cycles.{leads, leads_to}
use Rattle.sch_model.specs.Items.{extended_in}
use Rattle.sch_references.specs.Extends.{extended_by, is_id, is_named, items_named}
use Rattle.sch_references.specs.References.{is_among}
use Rattle.sch_references.specs.inner.Ways.{Each, Leads, Own, follows, is_followed}
use Rattle.sch_references.proofs.NamedLemmas.{bytes-turned, id-of, items-none, look-up, or-cases, or-left, or-right, same-bytes}

pub any-map : {A : Type 0} (p q : A → Bool) → ((x : A) → p x ≡ true → q x ≡ true) → (xs : List A) → list_any p xs ≡ true → list_any q xs ≡ true
any-map p q f [] h = h
any-map p q f (x ∷ xs) h =
    ⊎_elim
    (λ (a : p x ≡ true). or-left (q x) (list_any q xs) (f x a))
    (λ (b : list_any p xs ≡ true). or-right (q x) (list_any q xs) (any-map p q f xs b)) (or-cases (p x) (list_any p xs) h)

any-or : {A : Type 0} (C : Type 0) (p q : A → Bool) → ((x : A) → p x ≡ true → (q x ≡ true) ⊎ C) → (xs : List A) → list_any p xs ≡ true → (list_any q xs ≡ true) ⊎ C
any-or C p q f [] h = absurd (cc)
any-or C p q f (x ∷ xs) h =
    ⊎_elim
    (λ (a : p x ≡ true). ⊎_elim (λ (k : q x ≡ true). inl (or-left (q x) (list_any q xs) k)) (λ (k : C). inr k) (f x a))
    (λ (b : list_any p xs ≡ true). ⊎_elim (λ (k : list_any q xs ≡ true). inl (or-right (q x) (list_any q xs) k)) (λ (k : C). inr k) (any-or C p q f xs b))
    (or-cases (p x) (list_any p xs) h)

all-none : {A : Type 0} (p q : A → Bool) → ((x : A) → p x ≡ true → q x ≡ false) → (xs : List A) → list_all p xs ≡ true → list_any q xs ≡ false
all-none p q f [] h = refl
all-none p q f (x ∷ xs) h = by (p x) refl h (all-none p q f xs)
  where
    by : (a : Bool) → p x ≡ a → (a && list_all p xs) ≡ true → (list_all p xs ≡ true → list_any q xs ≡ false) → (q x || list_any q xs) ≡ false
    by true e h more = rw (f x e) (more h)
    by false e h more = absurd (cc)

pub leads-up : (rules : List RawRule) (k m : ℕ) (a b : List ℕ) → k ≤ m → leads rules k a b ≡ true → leads rules m a b ≡ true
leads-up rules zero zero a b l h = h
leads-up rules zero (suc m) a b l h = or-left (bytes_eq a b) _ h
leads-up rules (suc k) zero a b l h = absurd (omega arith)
leads-up rules (suc k) (suc m) a b l h =
    ⊎_elim
    (λ (e : bytes_eq a b ≡ true). or-left (bytes_eq a b) _ e)
    (λ (e : list_any (λ n. leads rules k n b) (extended_by rules a) ≡ true).
    or-right (bytes_eq a b) _ (any-map (λ n. leads rules k n b) (λ n. leads rules m n b) (λ n g. leads-up rules k m n b (omega (arith, l)) g) (extended_by rules a) e))
    (or-cases (bytes_eq a b) _ h)

-- one step more at the end
pub leads-then : (rules : List RawRule) (k : ℕ) (a b c : List ℕ) → leads rules k a b ≡ true → is_among (extended_by rules b) c ≡ true → leads rules (suc k) a c ≡ true
leads-then rules k a b c h step = by k h
  where
    first : (m : ℕ) (a : List ℕ) → bytes_eq a b ≡ true → list_any (λ n. leads rules m n c) (extended_by rules a) ≡ true
    first m a e =
        any-map (bytes_eq c) (λ n. leads rules m n c) (λ n g. leads-up rules 0 m n c (omega arith) (bytes-turned c n g)) (extended_by rules a)
        (subst (λ (x : List ℕ). is_among (extended_by rules x) c ≡ true) (sym (same-bytes a b e)) step)

    go : (k : ℕ) (a : List ℕ) → leads rules k a b ≡ true → leads rules (suc k) a c ≡ true
    go zero a h = or-right (bytes_eq a c) _ (first 0 a h)
    go (suc k) a h =
        ⊎_elim
        (λ (e : bytes_eq a b ≡ true). or-right (bytes_eq a c) _ (first (suc k) a e))
        (λ (e : list_any (λ n. leads rules k n b) (extended_by rules a) ≡ true).
        or-right (bytes_eq a c) _ (any-map (λ n. leads rules k n b) (λ n. leads rules (suc k) n c) (λ n g. go k n g) (extended_by rules a) e))
        (or-cases (bytes_eq a b) _ h)

    by : (k : ℕ) → leads rules k a b ≡ true → leads rules (suc k) a c ≡ true
    by k h = go k a h

-- ways are the same where names stand for the same items
pub leads-same : (rules others : List RawRule) → ((name : List ℕ) → items_named rules name ≡ items_named others name) → (k : ℕ) (a b : List ℕ) → leads rules k a b ≡ leads others k a b
leads-same rules others same zero a b = refl
leads-same rules others same (suc k) a b =
    λ t. bytes_eq a b || list_any (λ n. leads-same rules others same k n b t) (flat_map extended_in (same a t))

extended-none : (rules : List RawRule) (a : List ℕ) → is_named rules a ≡ false → extended_by rules a ≡ []
extended-none rules a h = ap (flat_map extended_in) (items-none rules a h)

pub leads-unknown : (rules : List RawRule) (k : ℕ) (a b : List ℕ) → is_named rules a ≡ false → bytes_eq a b ≡ false → leads rules k a b ≡ false
leads-unknown rules zero a b h ne = ne
leads-unknown rules (suc k) a b h ne = rw (ne, extended-none rules a h) refl

-- no way without a repetition is longer than there are rules
abbrev without : List RawRule → List ℕ → List RawRule
without rules a = filter (λ rule. not (is_id a rule.id)) rules

items-without : (rules : List RawRule) (a x : List ℕ) → bytes_eq x a ≡ false → items_named (without rules a) x ≡ items_named rules x
items-without [] a x ne = refl
items-without (r ∷ rules) a x ne = by (is_id a r.id) refl (items-without rules a x ne)
  where
    by : (b : Bool) → is_id a r.id ≡ b → items_named (without rules a) x ≡ items_named rules x →
        items_named (cond (not b) (r ∷ without rules a) (without rules a)) x ≡ cond (is_id x r.id) r.items (items_named rules x)
    by true e more =
        let other : is_id x r.id ≡ false = ap (is_id x) (id-of a r.id e) ∙ ne in
        rw other more
    by false e more = ap (cond (is_id x r.id) r.items) more

items-gone : (rules : List RawRule) (a : List ℕ) → items_named (without rules a) a ≡ []
items-gone [] a = refl
items-gone (r ∷ rules) a = by (is_id a r.id) refl (items-gone rules a)
  where
    by : (b : Bool) → is_id a r.id ≡ b → items_named (without rules a) a ≡ [] → items_named (cond (not b) (r ∷ without rules a) (without rules a)) a ≡ []
    by true e more = more
    by false e more = rw e more

without-length : (rules : List RawRule) (a : List ℕ) → length (without rules a) ≤ length rules
without-length [] a = omega arith
without-length (r ∷ rules) a = by (is_id a r.id) (without-length rules a)
  where
    by : (b : Bool) → length (without rules a) ≤ length rules → length (cond (not b) (r ∷ without rules a) (without rules a)) ≤ length (r ∷ rules)
    by true more = omega (arith, more)
    by false more = omega (arith, more)

without-less : (rules : List RawRule) (a : List ℕ) → is_named rules a ≡ true → suc (length (without rules a)) ≤ length rules
without-less [] a h = absurd (cc)
without-less (r ∷ rules) a h = by (is_id a r.id) h (without-less rules a)
  where
    by : (b : Bool) → (b || is_named rules a) ≡ true → (is_named rules a ≡ true → suc (length (without rules a)) ≤ length rules) →
        suc (length (cond (not b) (r ∷ without rules a) (without rules a))) ≤ length (r ∷ rules)
    by true h more = omega (arith, without-length rules a)
    by false h more = omega (arith, more h)

module _ (rules : List RawRule) (a b : List ℕ) where
  abbrev others : List RawRule
  others = without rules a

  -- a last visit of the first name
  abbrev Last : Type 0
  Last = (m : ℕ) × (list_any (λ n. leads others m n b) (extended_by rules a) ≡ true)

  last-visit : (k : ℕ) (x : List ℕ) → leads rules k x b ≡ true → (leads others k x b ≡ true) ⊎ Last
  last-visit zero x h = inl h
  last-visit (suc k) x h =
      ⊎_elim
      (λ (e : bytes_eq x b ≡ true). inl (or-left (bytes_eq x b) _ e))
      (λ (e : list_any (λ n. leads rules k n b) (extended_by rules x) ≡ true). ⊎_elim
      (λ (g : list_any (λ n. leads others k n b) (extended_by rules x) ≡ true). by (bytes_eq x a) refl g)
      (λ (g : Last). inr g) (any-or Last (λ n. leads rules k n b) (λ n. leads others k n b) (last-visit k) (extended_by rules x) e))
      (or-cases (bytes_eq x b) _ h)
    where
      by : (t : Bool) → bytes_eq x a ≡ t → list_any (λ n. leads others k n b) (extended_by rules x) ≡ true → (leads others (suc k) x b ≡ true) ⊎ Last
      by true e g = inr (k, subst (λ (y : List ℕ). list_any (λ n. leads others k n b) (extended_by rules y) ≡ true) (same-bytes x a e) g)
      by false e g =
          inl (or-right (bytes_eq x b) _ (subst (λ (its : List RawItem). list_any (λ n. leads others k n b) (flat_map extended_in its) ≡ true) (sym (items-without rules a x e)) g))

  none-left : (k : ℕ) → leads others k a b ≡ true → bytes_eq a b ≡ true
  none-left zero h = h
  none-left (suc k) h =
      ⊎_elim (λ (e : bytes_eq a b ≡ true). e)
      (λ (e : list_any (λ n. leads others k n b) (extended_by others a) ≡ true). absurd (true≢false (sym e ∙ ap (λ its. list_any (λ n. leads others k n b) (flat_map extended_in its)) (items-gone rules a))))
      (or-cases (bytes_eq a b) _ h)

  back : (k : ℕ) (x : List ℕ) → leads others k x b ≡ true → leads rules k x b ≡ true
  back zero x h = h
  back (suc k) x h =
      ⊎_elim (λ (e : bytes_eq x b ≡ true). or-left (bytes_eq x b) _ e)
      (λ (e : list_any (λ n. leads others k n b) (extended_by others x) ≡ true). by (bytes_eq x a) refl e (back k))
      (or-cases (bytes_eq x b) _ h)
    where
      by : (t : Bool) → bytes_eq x a ≡ t → list_any (λ n. leads others k n b) (extended_by others x) ≡ true →
          ((n : List ℕ) → leads others k n b ≡ true → leads rules k n b ≡ true) → leads rules (suc k) x b ≡ true
      by true e g more =
          absurd (true≢false (sym g ∙ ap (λ (y : List ℕ). list_any (λ n. leads others k n b) (extended_by others y)) (same-bytes x a e)
          ∙ ap (λ its. list_any (λ n. leads others k n b) (flat_map extended_in its)) (items-gone rules a)))
      by false e g more =
          or-right (bytes_eq x b) _ (any-map (λ n. leads others k n b) (λ n. leads rules k n b) more (extended_by rules x)
          (subst (λ (its : List RawItem). list_any (λ n. leads others k n b) (flat_map extended_in its) ≡ true) (items-without rules a x e) g))

  shorter-if : (is_named rules a ≡ true → (j : ℕ) (n : List ℕ) → leads others j n b ≡ true → leads others (length others) n b ≡ true) →
      (k : ℕ) → leads rules k a b ≡ true → leads rules (length rules) a b ≡ true
  shorter-if more k h =
      ⊎_elim
      (λ (g : leads others k a b ≡ true). leads-up rules 0 (length rules) a b (omega arith) (none-left k g))
      (λ (g : Last). by (is_named rules a) refl g.0 g.1)
      (last-visit k a h)
    where
      by : (t : Bool) → is_named rules a ≡ t → (j : ℕ) → list_any (λ n. leads others j n b) (extended_by rules a) ≡ true → leads rules (length rules) a b ≡ true
      by false e j g = absurd (true≢false (sym g ∙ ap (list_any (λ n. leads others j n b)) (extended-none rules a e)))
      by true e j g =
          leads-up rules (suc (length others)) (length rules) a b (without-less rules a e)
          (or-right (bytes_eq a b) _ (any-map (λ n. leads others j n b) (λ n. leads rules (length others) n b)
          (λ n p. back (length others) n (more e j n p)) (extended_by rules a) g))

shorter : (m : ℕ) (rules : List RawRule) (k : ℕ) (a b : List ℕ) → length rules ≤ m → leads rules k a b ≡ true → leads rules (length rules) a b ≡ true
shorter zero rules k a b fits h = shorter-if rules a b (λ named j n p. absurd (omega (arith, without-less rules a named))) k h
shorter (suc m) rules k a b fits h =
    shorter-if rules a b (λ named j n p. shorter m (without rules a) j n b (omega (arith, without-less rules a named)) p) k h

pub leads-all : (rules : List RawRule) (a b : List ℕ) → Leads rules a b → leads_to rules a b ≡ true
leads-all rules a b l = shorter (length rules) rules l.steps a b (omega arith) l.way

-- names that are closed lead to no other
pub closed-leads : (rules found : List RawRule) (id : List ℕ) → Each (λ rule. Own rules rule × (follows rules found id rule.items ≡ true)) found →
    (k : ℕ) (name : List ℕ) → is_named found name ≡ true → bytes_eq name id ≡ false → leads rules k name id ≡ false
closed-leads rules found id closed zero name there ne = ne
closed-leads rules found id closed (suc k) name there ne =
    let it = look-up (λ rule. Own rules rule × (follows rules found id rule.items ≡ true)) found name there closed in
    let same : name ≡ it.1.1.0.id = (let e : Some name ≡ Some it.1.1.0.id = sym it.1.0 ∙ it.1.1.0.is in cc) in
    let items : items_named rules name ≡ it.0.items = ap (items_named rules) same ∙ it.1.1.0.items in
    rw (ne, items) (all-none (is_followed rules found id) (λ n. leads rules k n id) (next (closed-leads rules found id closed k)) (flat_map extended_in it.0.items) it.1.1.1)
  where
    next : ((n : List ℕ) → is_named found n ≡ true → bytes_eq n id ≡ false → leads rules k n id ≡ false) → (n : List ℕ) → is_followed rules found id n ≡ true → leads rules k n id ≡ false
    next more n p = by (bytes_eq n id) (is_named rules n) (is_named found n) refl refl refl p
      where
        by : (a b c : Bool) → bytes_eq n id ≡ a → is_named rules n ≡ b → is_named found n ≡ c → (not a && (not b || c)) ≡ true → leads rules k n id ≡ false
        by true b c e f g h = absurd (cc)
        by false false c e f g h = leads-unknown rules k n id f e
        by false true true e f g h = more n g e
        by false true false e f g h = absurd (cc)
