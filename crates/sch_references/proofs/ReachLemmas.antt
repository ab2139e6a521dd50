-- A search along `extends`, rule by rule.
use Rattle.std.proofs.Common.{◌≡◌, ℕ, ◌+◌, ◌<◌, ◌≤◌, suc, zero, Bool, true, false, not, ◌&&◌, ◌||◌, List, [], ◌∷◌, ◌++◌, Some, length, take, slice_get, slice_index_or, refl, sym, ap, ◌∙◌, subst, inl, inr, ⊎_elim, true≢false, arith, add-one, append_assoc, append-nil, length-append}
use Rattle.std.specs.Prelude.{Result, Ok, Err, OnOk}
use Rattle.std.specs.List.{flat_map, list_all, list_any}
use Rattle.std.specs.Str.{bytes_eq}
use Rattle.std.proofs.Math.Seq.{take-suc}
use Rattle.std.proofs.lemmas.List.{take-append-le}
use Rattle.std.proofs.lemmas.List.Folds.{list_any-append}
use Rattle.sch_model.specs.declared.raw.RawItem.{RawItem}
use Rattle.sch_model.specs.declared.raw.RawRule.{RawRule}
use Rattle.sch_references.specs.Cycles.{leads_to}
use Rattle.sch_model.specs.Items.{extended_in}
use Rattle.sch_references.specs.Extends.{is_named}
use Rattle.sch_references.specs.Placed.{IsPlaceOf}
use Rattle.sch_references.specs.References.{is_among}
use Rattle.sch_references.specs.inner.Firsts.{left, with_rule}
use Rattle.sch_references.specs.inner.Ways.{Adds, AddsAll, AddsRule, Each, Leads, Met, Own, Reached, follows, is_followed}
use Rattle.sch_references.proofs.LeadsLemmas.{closed-leads, leads-all, leads-then, leads-unknown}
use Rattle.sch_references.proofs.NamedLemmas.{bytes-same, bytes-turned, each-map, each-push, left-all, left-push, named-end, named-front, or-right, with-cases}
use Rattle.sch_references.proofs.WalkLemmas.{all_taken, flat_map-next}

pub any-flat_map : {A B : Type 0} (p : B → Bool) (g : A → List B) (xs : List A) → list_any (λ x. list_any p (g x)) xs ≡ list_any p (flat_map g xs)
any-flat_map p g [] = refl
any-flat_map p g (x ∷ xs) = ap (λ b. list_any p (g x) || b) (any-flat_map p g xs) ∙ sym (list_any-append p (g x) (flat_map g xs))

-- the rule at the place of a name is put at the end, or is there
pub adds-found : (rules found after : List RawRule) (name : List ℕ) (place : ℕ) (rule : RawRule) → is_named rules name ≡ true → IsPlaceOf rules name place → slice_get rules place ≡ Some rule →
    after ≡ with_rule found rule → Adds rules name found after
adds-found rules found after name place rule named at here is =
    let id : rule.id ≡ Some name = at.id rule here in
    ⊎_elim
    (λ (x : (with_rule found rule ≡ found) × (is_named found name ≡ true)).
    let r : Adds rules name found after = record { known = λ _. ap (λ ys. is_named ys name) (is ∙ x.0) ∙ x.1; added = inl (is ∙ x.0) } in r)
    (λ (x : (with_rule found rule ≡ found ++ rule ∷ []) × (is_named found name ≡ false)).
    let r : Adds rules name found after = record {
      known = λ _. ap (λ ys. is_named ys name) (is ∙ x.0) ∙ named-end found rule name id;
      added = inr (record { rule = rule; is = id; named = named; items = at.items rule here; fresh = x.1; pushed = is ∙ x.0 });
    } in r)
    (with-cases found rule name id)

pub adds-nothing : (rules found : List RawRule) (name : List ℕ) → is_named rules name ≡ false → Adds rules name found found
adds-nothing rules found name h = record { known = λ k. absurd (true≢false (sym k ∙ h)); added = inl refl }

pub adds-one : (rules before after : List RawRule) (name : List ℕ) → Adds rules name before after → AddsAll rules (name ∷ []) before after
adds-one rules before after name h = (after, (h, refl))

pub adds-then : (rules : List RawRule) (xs ys : List (List ℕ)) (a b c : List RawRule) → AddsAll rules xs a b → AddsAll rules ys b c → AddsAll rules (xs ++ ys) a c
adds-then rules [] ys a b c h k = subst (λ (x : List RawRule). AddsAll rules ys x c) h k
adds-then rules (x ∷ xs) ys a b c h k = (h.0, (h.1.0, adds-then rules xs ys h.0 b c h.1.1 k))

pub adds-next : (rules : List RawRule) (items : List RawItem) (i : ℕ) (item : RawItem) (a b c : List RawRule) → item ≡ slice_index_or items i item → i < length items →
    AddsAll rules (flat_map extended_in (take i items)) a b → AddsAll rules (extended_in item) b c → AddsAll rules (flat_map extended_in (take (i + 1) items)) a c
adds-next rules items i item a b c is less h k =
    subst (λ (names : List (List ℕ)). AddsAll rules names a c) (sym (flat_map-next extended_in items i item is less))
    (adds-then rules (flat_map extended_in (take i items)) (extended_in item) a b c h k)

pub adds-all : (rules : List RawRule) (items : List RawItem) (i : ℕ) (a b : List RawRule) → length items ≤ i → i ≤ length items →
    AddsAll rules (flat_map extended_in (take i items)) a b → AddsAll rules (flat_map extended_in items) a b
adds-all rules items i a b least most h = subst (λ (its : List RawItem). AddsAll rules (flat_map extended_in its) a b) (all_taken items i least most) h

-- what holds of all that were put at the end
adds-more : (rules : List RawRule) (name : List ℕ) (a b : List RawRule) → Adds rules name a b → (more : List RawRule) × (b ≡ a ++ more)
adds-more rules name a b h =
    ⊎_elim (λ (e : b ≡ a). ([], e ∙ sym (append-nil a))) (λ (e : AddsRule rules name a b). (e.rule ∷ [], e.pushed)) h.added

all-more : (rules : List RawRule) (names : List (List ℕ)) (a b : List RawRule) → AddsAll rules names a b → (more : List RawRule) × (b ≡ a ++ more)
all-more rules [] a b h = ([], h ∙ sym (append-nil a))
all-more rules (name ∷ names) a b h =
    let x = adds-more rules name a h.0 h.1.0 in
    let y = all-more rules names h.0 b h.1.1 in
    (x.0 ++ y.0, y.1 ∙ ap (λ (zs : List RawRule). zs ++ y.0) x.1 ∙ append_assoc a x.0 y.0)

adds-room : (rules : List RawRule) (name : List ℕ) (a b : List RawRule) → Adds rules name a b → length a + left (λ _. 1) rules a ≤ length rules → length b + left (λ _. 1) rules b ≤ length rules
adds-room rules name a b h room =
    ⊎_elim (λ (e : b ≡ a). rw e room)
    (λ (e : AddsRule rules name a b). rw e.pushed (omega (arith, room, length-append a (e.rule ∷ []), left-push (λ _. 1) rules a e.rule name e.is e.named e.fresh))) h.added

pub all-room : (rules : List RawRule) (names : List (List ℕ)) (a b : List RawRule) → AddsAll rules names a b → length a + left (λ _. 1) rules a ≤ length rules → length b + left (λ _. 1) rules b ≤ length rules
all-room rules [] a b h room = rw h room
all-room rules (name ∷ names) a b h room = all-room rules names h.0 b h.1.1 (adds-room rules name a h.0 h.1.0 room)

adds-met : (rules : List RawRule) (start name : List ℕ) (a b : List RawRule) → Adds rules name a b → Leads rules start name → Each (Met rules start) a → Each (Met rules start) b
adds-met rules start name a b h way each =
    ⊎_elim (λ (e : b ≡ a). subst (Each (Met rules start)) (sym e) each)
    (λ (e : AddsRule rules name a b). subst (Each (Met rules start)) (sym e.pushed)
    (each-push (Met rules start) a e.rule each (record { own = record { id = name; is = e.is; named = e.named; items = e.items }; way = way }))) h.added

all-met : (rules : List RawRule) (start : List ℕ) (names : List (List ℕ)) (a b : List RawRule) → AddsAll rules names a b → Each (Leads rules start) names → Each (Met rules start) a → Each (Met rules start) b
all-met rules start [] a b h ways each = subst (Each (Met rules start)) (sym h) each
all-met rules start (name ∷ names) a b h ways each = all-met rules start names h.0 b h.1.1 ways.1 (adds-met rules start name a h.0 h.1.0 ways.0 each)

kept-named : (a b more : List RawRule) (name : List ℕ) → b ≡ a ++ more → is_named a name ≡ true → is_named b name ≡ true
kept-named a b more name is h = ap (λ (xs : List RawRule). is_named xs name) is ∙ named-front a more name h

all-known : (rules : List RawRule) (names : List (List ℕ)) (a b : List RawRule) → AddsAll rules names a b → Each (λ name. is_named rules name ≡ true → is_named b name ≡ true) names
all-known rules [] a b h = tt
all-known rules (name ∷ names) a b h =
    let y = all-more rules names h.0 b h.1.1 in
    ((λ k. kept-named h.0 b y.0 name y.1 (h.1.0.known k)), all-known rules names h.0 b h.1.1)

each-in : (P : List ℕ → Type 0) (names : List (List ℕ)) → ((name : List ℕ) → is_among names name ≡ true → P name) → Each P names
each-in P [] f = tt
each-in P (n ∷ names) f =
    (f n (let e : bytes_eq n n ≡ true = bytes-same n in rw e refl), each-in P names (λ m h. f m (or-right (bytes_eq m n) (is_among names m) h)))

-- each name is followed
all-followed : (rules found : List RawRule) (id : List ℕ) (names : List (List ℕ)) → is_among names id ≡ false → Each (λ name. is_named rules name ≡ true → is_named found name ≡ true) names →
    list_all (is_followed rules found id) names ≡ true
all-followed rules found id [] h known = refl
all-followed rules found id (n ∷ names) h known =
    by (bytes_eq id n) (bytes_eq n id) (is_named rules n) (is_named found n) refl refl refl refl h (λ k. all-followed rules found id names k known.1)
  where
    by : (a b c d : Bool) → bytes_eq id n ≡ a → bytes_eq n id ≡ b → is_named rules n ≡ c → is_named found n ≡ d → (a || is_among names id) ≡ false →
        (is_among names id ≡ false → list_all (is_followed rules found id) names ≡ true) → ((not b && (not c || d)) && list_all (is_followed rules found id) names) ≡ true
    by true b c d e f g i h more = absurd (cc)
    by false true c d e f g i h more = absurd (true≢false (sym (bytes-turned n id f) ∙ e))
    by false false true true e f g i h more = more h
    by false false true false e f g i h more = absurd (true≢false (sym (known.0 g) ∙ i))
    by false false false d e f g i h more = more h

follows-kept : (rules a b more : List RawRule) (id : List ℕ) → b ≡ a ++ more → (names : List (List ℕ)) → list_all (is_followed rules a id) names ≡ true → list_all (is_followed rules b id) names ≡ true
follows-kept rules a b more id is [] h = refl
follows-kept rules a b more id is (n ∷ names) h =
    by (bytes_eq n id) (is_named rules n) (is_named a n) (is_named b n) refl refl h (follows-kept rules a b more id is names)
  where
    by : (p q r s : Bool) → is_named a n ≡ r → is_named b n ≡ s → ((not p && (not q || r)) && list_all (is_followed rules a id) names) ≡ true →
        (list_all (is_followed rules a id) names ≡ true → list_all (is_followed rules b id) names ≡ true) →
        ((not p && (not q || s)) && list_all (is_followed rules b id) names) ≡ true
    by true q r s e f h go = absurd (cc)
    by false true true true e f h go = go h
    by false true true false e f h go = absurd (true≢false (sym (kept-named a b more n is e) ∙ f))
    by false true false s e f h go = absurd (cc)
    by false false r s e f h go = go h

pub get-at : {A : Type 0} (xs : List A) (i : ℕ) (x d : A) → slice_get xs i ≡ Some x → slice_index_or xs i d ≡ x
get-at [] i x d h = absurd (cc)
get-at (y ∷ xs) zero x d h = cc
get-at (y ∷ xs) (suc i) x d h = get-at xs i x d h

pub each-at : {A : Type 0} (P : A → Type 0) (xs : List A) (i : ℕ) (x : A) → slice_get xs i ≡ Some x → Each P xs → P x
each-at P [] i x h each = absurd (cc)
each-at P (y ∷ xs) zero x h each = let e : y ≡ x = (cc) in subst P e each.0
each-at P (y ∷ xs) (suc i) x h each = each-at P xs i x h each.1

pub each-both : {A : Type 0} (P Q : A → Type 0) (xs : List A) → Each P xs → Each Q xs → Each (λ x. P x × Q x) xs
each-both P Q [] p q = tt
each-both P Q (x ∷ xs) p q = ((p.0, q.0), each-both P Q xs p.1 q.1)

-- the search begins
pub reach-start : (rules found : List RawRule) (name id : List ℕ) → Adds rules name [] found → Reached rules name id 0 found
reach-start rules found name id h = record {
  each = adds-met rules name name [] found h (record { steps = 0; way = bytes-same name }) tt;
  room = adds-room rules name [] found h (omega (arith, left-all rules));
  start = h.known;
  done = tt;
}

-- what the rule at hand extends is met from the start
extended-way : (rules : List RawRule) (start : List ℕ) (rule : RawRule) (name : List ℕ) → Met rules start rule → is_among (flat_map extended_in rule.items) name ≡ true → Leads rules start name
extended-way rules start rule name met h = record {
  steps = suc met.way.steps;
  way = leads-then rules met.way.steps start met.own.id name met.way.way
      (ap (λ (its : List RawItem). is_among (flat_map extended_in its) name) met.own.items ∙ h);
}

pub reach-next : (rules found after : List RawRule) (name id : List ℕ) (next : ℕ) (rule : RawRule) → Reached rules name id next found → next < length found → slice_get found next ≡ Some rule →
    is_among (flat_map extended_in rule.items) id ≡ false → AddsAll rules (flat_map extended_in rule.items) found after → Reached rules name id (next + 1) after
reach-next rules found after name id next rule r less at none h =
    let names = flat_map extended_in rule.items in
    let more = all-more rules names found after h in
    let met = each-at (Met rules name) found next rule at r.each in
    let taken : take (next + 1) after ≡ take next found ++ rule ∷ [] =
    ap (take (next + 1)) more.1 ∙ take-append-le (next + 1) found more.0 (omega arith) ∙ ap (λ (n : ℕ). take n found) (add-one next)
    ∙ take-suc found next rule less ∙ ap (λ x. take next found ++ x ∷ []) (get-at found next rule rule at) in
    record {
      each = all-met rules name names found after h (each-in (Leads rules name) names (λ n k. extended-way rules name rule n met k)) r.each;
      room = all-room rules names found after h r.room;
      start = λ k. kept-named found after more.0 name more.1 (r.start k);
      done = subst (Each (λ rule. follows rules after id rule.items ≡ true)) (sym taken)
          (each-push (λ rule. follows rules after id rule.items ≡ true) (take next found) rule
          (each-map (λ rule. follows rules found id rule.items ≡ true) (λ rule. follows rules after id rule.items ≡ true)
          (λ x k. follows-kept rules found after more.0 id more.1 (flat_map extended_in x.items) k) (take next found) r.done)
          (all-followed rules after id names none (all-known rules names found after h)));
    }

pub reach-found : (rules found : List RawRule) (name id : List ℕ) (next : ℕ) (rule : RawRule) → Reached rules name id next found → slice_get found next ≡ Some rule →
    is_among (flat_map extended_in rule.items) id ≡ true → leads_to rules name id ≡ true
reach-found rules found name id next rule r at h =
    leads-all rules name id (extended-way rules name rule id (each-at (Met rules name) found next rule at r.each) h)

pub reach-end : (rules found : List RawRule) (name id : List ℕ) (next : ℕ) → Reached rules name id next found → length found ≤ next → next ≤ length found → bytes_eq name id ≡ false → leads_to rules name id ≡ false
reach-end rules found name id next r least most ne = by (is_named rules name) refl
  where
    by : (b : Bool) → is_named rules name ≡ b → leads_to rules name id ≡ false
    by false e = leads-unknown rules (length rules) name id e ne
    by true e =
        closed-leads rules found id
        (each-both (Own rules) (λ rule. follows rules found id rule.items ≡ true) found
        (each-map (Met rules name) (Own rules) (λ rule met. met.own) found r.each)
        (subst (Each (λ rule. follows rules found id rule.items ≡ true)) (all_taken found next least most) r.done))
        (length rules) name (r.start e) ne

pub adds-found-ok : {E : Type 0} (result : Result (Unit {0}) E) (rules found after : List RawRule) (name : List ℕ) (place : ℕ) (rule : RawRule) → is_named rules name ≡ true → IsPlaceOf rules name place →
    slice_get rules place ≡ Some rule → OnOk result (after ≡ with_rule found rule) → OnOk result (Adds rules name found after)
adds-found-ok (Ok x) rules found after name place rule named at here is = adds-found rules found after name place rule named at here is
adds-found-ok (Err e) rules found after name place rule named at here is = tt

pub all-longer : (rules : List RawRule) (names : List (List ℕ)) (a b : List RawRule) → AddsAll rules names a b → length a ≤ length b
all-longer rules names a b h = let more = all-more rules names a b h in omega (arith, ap length more.1, length-append a more.0)
