-- Rules and their ids.
use Rattle.std.proofs.Common.{◌≡◌, ◌⊎◌, ℕ, ◌+◌, ◌≤◌, suc, Bool, true, false, cond, not, ◌||◌, List, [], ◌∷◌, ◌++◌, Option, None, Some, length, refl, sym, ap, ap₂, ◌∙◌, inl, inr, true≢false, arith, length-append}
use Rattle.std.specs.Str.{bytes_eq}
use Rattle.std.proofs.lemmas.List.Folds.{list_any-append}
use Rattle.std.proofs.lemmas.Slice.Eq.{bytes_eq-Decides}
use Rattle.sch_model.specs.declared.raw.RawItem.{RawItem}
use Rattle.sch_model.specs.declared.raw.RawRule.{RawRule}
use Rattle.sch_references.specs.Extends.{is_id, is_named, items_named}
use Rattle.sch_references.specs.inner.Firsts.{is_new, left, with_rule, with_rules}
use Rattle.sch_references.specs.inner.Ways.{Each}

pub same-bytes : (a b : List ℕ) → bytes_eq a b ≡ true → a ≡ b
same-bytes a b h = (bytes_eq-Decides a b).0 h

pub bytes-same : (a : List ℕ) → bytes_eq a a ≡ true
bytes-same a = (bytes_eq-Decides a a).1 refl

pub bytes-turned : (a b : List ℕ) → bytes_eq a b ≡ true → bytes_eq b a ≡ true
bytes-turned a b h = (bytes_eq-Decides b a).1 (sym (same-bytes a b h))

pub id-of : (name : List ℕ) (id : Option (List ℕ)) → is_id name id ≡ true → id ≡ Some name
id-of name None h = absurd (cc)
id-of name (Some id) h = ap Some (sym (same-bytes name id h))

pub or-left : (a b : Bool) → a ≡ true → (a || b) ≡ true
or-left true b h = refl
or-left false b h = absurd (cc)

pub or-right : (a b : Bool) → b ≡ true → (a || b) ≡ true
or-right true b h = refl
or-right false b h = h

pub or-cases : (a b : Bool) → (a || b) ≡ true → (a ≡ true) ⊎ (b ≡ true)
or-cases true b h = inl refl
or-cases false b h = inr h

pub named-front : (xs ys : List RawRule) (name : List ℕ) → is_named xs name ≡ true → is_named (xs ++ ys) name ≡ true
named-front xs ys name h = list_any-append (λ (rule : RawRule). is_id name rule.id) xs ys ∙ or-left (is_named xs name) (is_named ys name) h

pub named-end : (xs : List RawRule) (rule : RawRule) (name : List ℕ) → rule.id ≡ Some name → is_named (xs ++ rule ∷ []) name ≡ true
named-end xs rule name h =
    list_any-append (λ (rule : RawRule). is_id name rule.id) xs (rule ∷ [])
    ∙ or-right (is_named xs name) (is_id name rule.id || false) (or-left (is_id name rule.id) false (ap (is_id name) h ∙ bytes-same name))

or-none : (a : Bool) → (a || false) ≡ a
or-none true = refl
or-none false = refl

-- an id that is there already adds nothing
same-named : (xs : List RawRule) (id name : List ℕ) → is_named xs id ≡ true → is_named xs name ≡ (is_named xs name || bytes_eq name id)
same-named xs id name there = by (bytes_eq name id) (is_named xs name) refl refl
  where
    by : (a b : Bool) → bytes_eq name id ≡ a → is_named xs name ≡ b → b ≡ (b || a)
    by a true e f = refl
    by false false e f = refl
    by true false e f = let h : is_named xs name ≡ true = ap (is_named xs) (same-bytes name id e) ∙ there in absurd (cc)

pub named-with : (xs : List RawRule) (rule : RawRule) (name : List ℕ) → is_named (with_rule xs rule) name ≡ (is_named xs name || is_id name rule.id)
named-with xs rule name = over rule.id refl
  where
    by : (id : List ℕ) → rule.id ≡ Some id → (b : Bool) → is_named xs id ≡ b → is_named (cond (not b) (xs ++ rule ∷ []) xs) name ≡ (is_named xs name || bytes_eq name id)
    by id e true h = same-named xs id name h
    by id e false h =
        list_any-append (λ (rule : RawRule). is_id name rule.id) xs (rule ∷ [])
        ∙ ap (λ b. is_named xs name || b) (or-none (is_id name rule.id) ∙ ap (is_id name) e)

    over : (o : Option (List ℕ)) → rule.id ≡ o → is_named (cond (is_new xs o) (xs ++ rule ∷ []) xs) name ≡ (is_named xs name || is_id name o)
    over None e = sym (or-none (is_named xs name))
    over (Some id) e = by id e (is_named xs id) refl

pub items-front : (xs ys : List RawRule) (name : List ℕ) → is_named xs name ≡ true → items_named (xs ++ ys) name ≡ items_named xs name
items-front [] ys name h = absurd (cc)
items-front (x ∷ xs) ys name h = by (is_id name x.id) h (items-front xs ys name)
  where
    by : (b : Bool) → (b || is_named xs name) ≡ true → (is_named xs name ≡ true → items_named (xs ++ ys) name ≡ items_named xs name) →
        cond b x.items (items_named (xs ++ ys) name) ≡ cond b x.items (items_named xs name)
    by true h more = refl
    by false h more = more h

pub items-behind : (xs ys : List RawRule) (name : List ℕ) → is_named xs name ≡ false → items_named (xs ++ ys) name ≡ items_named ys name
items-behind [] ys name h = refl
items-behind (x ∷ xs) ys name h = by (is_id name x.id) h (items-behind xs ys name)
  where
    by : (b : Bool) → (b || is_named xs name) ≡ false → (is_named xs name ≡ false → items_named (xs ++ ys) name ≡ items_named ys name) →
        cond b x.items (items_named (xs ++ ys) name) ≡ items_named ys name
    by true h more = absurd (cc)
    by false h more = more h

pub items-none : (xs : List RawRule) (name : List ℕ) → is_named xs name ≡ false → items_named xs name ≡ []
items-none [] name h = refl
items-none (x ∷ xs) name h = by (is_id name x.id) h (items-none xs name)
  where
    by : (b : Bool) → (b || is_named xs name) ≡ false → (is_named xs name ≡ false → items_named xs name ≡ []) → cond b x.items (items_named xs name) ≡ []
    by true h more = absurd (cc)
    by false h more = more h

-- one more rule: the old, or the one at the end
pub with-cases : (xs : List RawRule) (rule : RawRule) (name : List ℕ) → rule.id ≡ Some name →
    ((with_rule xs rule ≡ xs) × (is_named xs name ≡ true)) ⊎ ((with_rule xs rule ≡ xs ++ rule ∷ []) × (is_named xs name ≡ false))
with-cases xs rule name is = by (is_named xs name) refl
  where
    by : (b : Bool) → is_named xs name ≡ b → ((with_rule xs rule ≡ xs) × (is_named xs name ≡ true)) ⊎ ((with_rule xs rule ≡ xs ++ rule ∷ []) × (is_named xs name ≡ false))
    by true e = inl (rw (is, e) refl, e)
    by false e = inr (rw (is, e) refl, e)

pub items-with : (xs : List RawRule) (rule : RawRule) (name : List ℕ) →
    items_named (with_rule xs rule) name ≡ cond (is_named xs name) (items_named xs name) (cond (is_id name rule.id) rule.items [])
items-with xs rule name = over rule.id refl
  where
    Goal : List RawRule → Type 0
    Goal ys = items_named ys name ≡ cond (is_named xs name) (items_named xs name) (cond (is_id name rule.id) rule.items [])

    same : (is_id name rule.id ≡ true → is_named xs name ≡ true) → items_named xs name ≡ cond (is_named xs name) (items_named xs name) (cond (is_id name rule.id) rule.items [])
    same there = by (is_named xs name) (is_id name rule.id) refl refl
      where
        by : (a b : Bool) → is_named xs name ≡ a → is_id name rule.id ≡ b → items_named xs name ≡ cond a (items_named xs name) (cond b rule.items [])
        by true b e f = refl
        by false true e f = let h = there f in absurd (cc)
        by false false e f = items-none xs name e

    pushed : items_named (xs ++ rule ∷ []) name ≡ cond (is_named xs name) (items_named xs name) (cond (is_id name rule.id) rule.items [])
    pushed = by (is_named xs name) refl
      where
        by : (a : Bool) → is_named xs name ≡ a → items_named (xs ++ rule ∷ []) name ≡ cond a (items_named xs name) (cond (is_id name rule.id) rule.items [])
        by true e = items-front xs (rule ∷ []) name e
        by false e = items-behind xs (rule ∷ []) name e

    over : (o : Option (List ℕ)) → rule.id ≡ o → items_named (cond (is_new xs o) (xs ++ rule ∷ []) xs) name ≡ cond (is_named xs name) (items_named xs name) (cond (is_id name rule.id) rule.items [])
    over None e = same (λ h. let k : is_id name None ≡ true = sym (ap (is_id name) e) ∙ h in absurd (cc))
    over (Some id) e = by (is_named xs id) refl
      where
        by : (b : Bool) → is_named xs id ≡ b → items_named (cond (not b) (xs ++ rule ∷ []) xs) name ≡ cond (is_named xs name) (items_named xs name) (cond (is_id name rule.id) rule.items [])
        by true h = same (λ k. ap (is_named xs) (same-bytes name id (sym (ap (is_id name) e) ∙ k)) ∙ h)
        by false h = pushed

-- the first uses stand for all
pub firsts-named : (xs rules : List RawRule) (name : List ℕ) → is_named (with_rules xs rules) name ≡ (is_named xs name || is_named rules name)
firsts-named xs [] name = sym (or-none (is_named xs name))
firsts-named xs (rule ∷ rules) name =
    firsts-named (with_rule xs rule) rules name
    ∙ ap (λ b. b || is_named rules name) (named-with xs rule name)
    ∙ by (is_named xs name) (is_id name rule.id)
  where
    by : (a b : Bool) → ((a || b) || is_named rules name) ≡ (a || (b || is_named rules name))
    by true b = refl
    by false b = refl

pub firsts-items : (xs rules : List RawRule) (name : List ℕ) → items_named (with_rules xs rules) name ≡ cond (is_named xs name) (items_named xs name) (items_named rules name)
firsts-items xs [] name = by (is_named xs name) refl
  where
    by : (a : Bool) → is_named xs name ≡ a → items_named xs name ≡ cond a (items_named xs name) []
    by true e = refl
    by false e = items-none xs name e
firsts-items xs (rule ∷ rules) name =
    firsts-items (with_rule xs rule) rules name
    ∙ ap₂ (λ (b : Bool) (its : List RawItem). cond b its (items_named rules name)) (named-with xs rule name) (items-with xs rule name)
    ∙ by (is_named xs name) (is_id name rule.id)
  where
    by : (a b : Bool) → cond (a || b) (cond a (items_named xs name) (cond b rule.items [])) (items_named rules name) ≡ cond a (items_named xs name) (cond b rule.items (items_named rules name))
    by true b = refl
    by false true = refl
    by false false = refl

length-with : (xs : List RawRule) (rule : RawRule) → length (with_rule xs rule) ≤ suc (length xs)
length-with xs rule = by (is_new xs rule.id)
  where
    by : (b : Bool) → length (cond b (xs ++ rule ∷ []) xs) ≤ suc (length xs)
    by true = omega (arith, length-append xs (rule ∷ []))
    by false = omega arith

pub firsts-length : (xs rules : List RawRule) → length (with_rules xs rules) ≤ length xs + length rules
firsts-length xs [] = omega arith
firsts-length xs (rule ∷ rules) = omega (arith, firsts-length (with_rule xs rule) rules, length-with xs rule)

-- what is left gets less
new-front : (xs ys : List RawRule) (id : Option (List ℕ)) → is_new (xs ++ ys) id ≡ true → is_new xs id ≡ true
new-front xs ys None h = h
new-front xs ys (Some id) h = by (is_named xs id) refl
  where
    by : (b : Bool) → is_named xs id ≡ b → not b ≡ true
    by true e = let there : is_named (xs ++ ys) id ≡ true = named-front xs ys id e in absurd (true≢false (sym h ∙ ap not there))
    by false e = refl

pub left-less : (w : List RawItem → ℕ) (rules xs ys : List RawRule) → left w rules (xs ++ ys) ≤ left w rules xs
left-less w [] xs ys = omega arith
left-less w (rule ∷ rules) xs ys = by (is_new (xs ++ ys) rule.id) (is_new xs rule.id) refl refl (left-less w rules xs ys)
  where
    by : (a b : Bool) → is_new (xs ++ ys) rule.id ≡ a → is_new xs rule.id ≡ b → left w rules (xs ++ ys) ≤ left w rules xs →
        cond a (w rule.items) 0 + left w rules (xs ++ ys) ≤ cond b (w rule.items) 0 + left w rules xs
    by true true e f more = omega (arith, more)
    by true false e f more = let h = new-front xs ys rule.id e in absurd (cc)
    by false true e f more = omega (arith, more)
    by false false e f more = omega (arith, more)

pub left-push : (w : List RawItem → ℕ) (rules xs : List RawRule) (rule : RawRule) (name : List ℕ) → rule.id ≡ Some name → is_named rules name ≡ true → is_named xs name ≡ false →
    left w rules (xs ++ rule ∷ []) + w (items_named rules name) ≤ left w rules xs
left-push w [] xs rule name is there fresh = absurd (cc)
left-push w (r ∷ rules) xs rule name is there fresh = by (is_id name r.id) refl there (left-push w rules xs rule name is)
  where
    by : (b : Bool) → is_id name r.id ≡ b → (b || is_named rules name) ≡ true →
        (is_named rules name ≡ true → is_named xs name ≡ false → left w rules (xs ++ rule ∷ []) + w (items_named rules name) ≤ left w rules xs) →
        cond (is_new (xs ++ rule ∷ []) r.id) (w r.items) 0 + left w rules (xs ++ rule ∷ []) + w (cond b r.items (items_named rules name)) ≤ cond (is_new xs r.id) (w r.items) 0 + left w rules xs
    by true e h more =
        let id : r.id ≡ Some name = id-of name r.id e in
        let old : is_new xs r.id ≡ true = ap (is_new xs) id ∙ ap not fresh in
        let new : is_new (xs ++ rule ∷ []) r.id ≡ false = ap (is_new (xs ++ rule ∷ [])) id ∙ ap not (named-end xs rule name is) in
        rw (old, new) (omega (arith, left-less w rules xs (rule ∷ [])))
    by false e h more = here (is_new (xs ++ rule ∷ []) r.id) (is_new xs r.id) refl refl (more h fresh)
      where
        here : (a b : Bool) → is_new (xs ++ rule ∷ []) r.id ≡ a → is_new xs r.id ≡ b → left w rules (xs ++ rule ∷ []) + w (items_named rules name) ≤ left w rules xs →
            cond a (w r.items) 0 + left w rules (xs ++ rule ∷ []) + w (items_named rules name) ≤ cond b (w r.items) 0 + left w rules xs
        here true true e f m = omega (arith, m)
        here true false e f m = let h = new-front xs (rule ∷ []) r.id e in absurd (cc)
        here false true e f m = omega (arith, m)
        here false false e f m = omega (arith, m)

pub left-all : (rules : List RawRule) → left (λ _. 1) rules [] ≤ length rules
left-all [] = omega arith
left-all (rule ∷ rules) = by (is_new [] rule.id) (left-all rules)
  where
    by : (b : Bool) → left (λ _. 1) rules [] ≤ length rules → cond b 1 0 + left (λ _. 1) rules [] ≤ length (rule ∷ rules)
    by true more = omega (arith, more)
    by false more = omega (arith, more)

-- the rule with a name among some
pub look-up : (P : RawRule → Type 0) (xs : List RawRule) (name : List ℕ) → is_named xs name ≡ true → Each P xs → (rule : RawRule) × ((rule.id ≡ Some name) × P rule)
look-up P [] name h each = absurd (cc)
look-up P (x ∷ xs) name h each = by (is_id name x.id) refl h (λ k. look-up P xs name k each.1)
  where
    by : (b : Bool) → is_id name x.id ≡ b → (b || is_named xs name) ≡ true → (is_named xs name ≡ true → (rule : RawRule) × ((rule.id ≡ Some name) × P rule)) →
        (rule : RawRule) × ((rule.id ≡ Some name) × P rule)
    by true e h more = (x, (id-of name x.id e, each.0))
    by false e h more = more h

pub each-push : {A : Type 0} (P : A → Type 0) (xs : List A) (x : A) → Each P xs → P x → Each P (xs ++ x ∷ [])
each-push P [] x each here = (here, tt)
each-push P (y ∷ xs) x each here = (each.0, each-push P xs x each.1 here)

pub each-map : {A : Type 0} (P Q : A → Type 0) → ((x : A) → P x → Q x) → (xs : List A) → Each P xs → Each Q xs
each-map P Q f [] each = tt
each-map P Q f (x ∷ xs) each = (f x each.0, each-map P Q f xs each.1)
