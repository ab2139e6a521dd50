-- The search for an order, step by step.
use Rattle.std.proofs.Common.{◌≡◌, ◌⊎◌, ℕ, ◌+◌, ◌<◌, ◌≤◌, suc, Bool, true, false, not, ◌&&◌, ◌||◌, List, [], ◌∷◌, ◌++◌, Some, length, slice_get, take, add-one, refl, sym, ap, ◌∙◌, subst, inl, inr, ⊎_elim, true≢false, arith, append_assoc, append-nil, length-append, Bor}
use Rattle.std.specs.List.{flat_map, list_all}
use Rattle.std.specs.Str.{bytes_eq}
use Rattle.std.proofs.lemmas.Grind.{flat_map-append}
use Rattle.std.proofs.lemmas.List.Folds.{list_all-append, list_any-append}
use Rattle.sch_model.specs.declared.raw.RawItem.{RawItem}
use Rattle.sch_model.specs.declared.raw.RawRule.{RawRule}
use Rattle.sch_references.specs.Cycles.{leads}
use Rattle.sch_model.specs.Items.{extended_in}
use Rattle.sch_references.specs.Extends.{extended_by, is_id, is_named, items_named}
use Rattle.sch_references.specs.Placed.{IsPlaceOf}
use Rattle.sch_references.specs.References.{is_among}
use Rattle.sch_references.specs.declared.search.Frame.{Frame}
use Rattle.sch_references.specs.declared.search.Search.{Search}
use Rattle.sch_references.specs.inner.Firsts.{left, with_rule}
use Rattle.sch_references.specs.inner.Order.{Sorted, is_settled, is_sorted_among, settles}
use Rattle.sch_references.specs.inner.Sorting.{Busy, Chained, Followed, Idle, NextExtends, Visited, frames_work, is_open, next_name, work}
use Rattle.sch_references.specs.inner.Ways.{Cyclic, Each, Leads, Own}
use Rattle.sch_references.proofs.LeadsLemmas.{any-map}
use Rattle.sch_references.proofs.ReachLemmas.{get-at}
use Rattle.sch_references.proofs.WalkLemmas.{all_taken}
use Rattle.std.proofs.Math.Seq.{take-suc}
use Rattle.sch_references.proofs.NamedLemmas.{bytes-same, each-map, each-push, left-all, left-push, look-up, named-with, or-cases, or-left, or-right, same-bytes, with-cases}

pub settled-kept : (rules a b : List RawRule) → ((name : List ℕ) → is_named a name ≡ true → is_named b name ≡ true) → (names : List (List ℕ)) →
    list_all (is_settled rules a) names ≡ true → list_all (is_settled rules b) names ≡ true
settled-kept rules a b kept [] h = refl
settled-kept rules a b kept (n ∷ names) h = by (is_named rules n) (is_named a n) (is_named b n) refl refl h (settled-kept rules a b kept names)
  where
    by : (q r s : Bool) → is_named a n ≡ r → is_named b n ≡ s → ((not q || r) && list_all (is_settled rules a) names) ≡ true →
        (list_all (is_settled rules a) names ≡ true → list_all (is_settled rules b) names ≡ true) → ((not q || s) && list_all (is_settled rules b) names) ≡ true
    by true true true e f h more = more h
    by true true false e f h more = absurd (true≢false (sym (kept n e) ∙ f))
    by true false s e f h more = absurd (cc)
    by false r s e f h more = more h

followed-kept : (rules a b : List RawRule) → ((name : List ℕ) → is_named a name ≡ true → is_named b name ≡ true) → (frame : Frame) → Followed rules a frame → Followed rules b frame
followed-kept rules a b kept frame f = record {
  id = f.id;
  named = f.named;
  items = f.items;
  passed = f.passed;
  whole = f.whole;
  settled = settled-kept rules a b kept (flat_map extended_in f.passed) f.settled;
}

both-true : (a b : Bool) → a ≡ true → b ≡ true → (a && b) ≡ true
both-true true b h k = k
both-true false b h k = absurd (cc)

one-settled : (rules order : List RawRule) (name : List ℕ) → is_settled rules order name ≡ true → list_all (is_settled rules order) (name ∷ []) ≡ true
one-settled rules order name h = both-true (is_settled rules order name) true h refl

-- the next item is passed
pub busy-pass : (rules : List RawRule) (s : Search) (top : Frame) (item : RawItem) (rest : Bor (List RawItem)) → Busy rules s top → top.rest.now ≡ item ∷ rest.now →
    list_all (is_settled rules s.order) (extended_in item) ≡ true → Busy rules s (record { name = top.name; rule = top.rule; rest = rest })
busy-pass rules s top item rest b next settled = record {
  sorted = b.sorted;
  followed = record {
    id = b.followed.id;
    named = b.followed.named;
    items = b.followed.items;
    passed = b.followed.passed ++ item ∷ [];
    whole = b.followed.whole ∙ ap (λ (its : List RawItem). b.followed.passed ++ its) next ∙ sym (append_assoc b.followed.passed (item ∷ []) rest.now);
    settled =
        ap (list_all (is_settled rules s.order)) (flat_map-append extended_in b.followed.passed (item ∷ []) ∙ ap (λ (l : List (List ℕ)). flat_map extended_in b.followed.passed ++ l) (append-nil (extended_in item)))
        ∙ list_all-append (is_settled rules s.order) (flat_map extended_in b.followed.passed) (extended_in item)
        ∙ both-true (settles rules s.order b.followed.passed) _ b.followed.settled settled;
  };
  below = b.below;
  chain = b.chain;
  entered = b.entered;
}

pub pass-extends : (rules : List RawRule) (s : Search) (top : Frame) (rest : Bor (List RawItem)) (name : List ℕ) → Busy rules s top → NextExtends top rest.now name → is_settled rules s.order name ≡ true →
    Busy rules s (record { name = top.name; rule = top.rule; rest = rest })
pass-extends rules s top rest name b x settled =
    busy-pass rules s top x.item rest b x.next (ap (list_all (is_settled rules s.order)) x.is ∙ one-settled rules s.order name settled)

pub unknown-settled : (rules order : List RawRule) (name : List ℕ) → is_named rules name ≡ false → is_settled rules order name ≡ true
unknown-settled rules order name h = rw h refl

pub found-settled : (rules order : List RawRule) (name : List ℕ) → is_named order name ≡ true → is_settled rules order name ≡ true
found-settled rules order name h = or-right (not (is_named rules name)) (is_named order name) h

-- the topmost rule extends the name
extended-next : (rules order : List RawRule) (top : Frame) (rest : List RawItem) (name : List ℕ) → Followed rules order top → NextExtends top rest name → is_among (extended_by rules top.name.now) name ≡ true
extended-next rules order top rest name f x =
    ap (λ (its : List RawItem). is_among (flat_map extended_in its) name) (f.items ∙ f.whole ∙ ap (λ (its : List RawItem). f.passed ++ its) x.next)
    ∙ ap (λ (ns : List (List ℕ)). is_among ns name) (flat_map-append extended_in f.passed (x.item ∷ rest))
    ∙ list_any-append (bytes_eq name) (flat_map extended_in f.passed) (extended_in x.item ++ flat_map extended_in rest)
    ∙ or-right (is_among (flat_map extended_in f.passed) name) _
    (list_any-append (bytes_eq name) (extended_in x.item) (flat_map extended_in rest)
    ∙ or-left (is_among (extended_in x.item) name) _ (ap (λ (ns : List (List ℕ)). is_among ns name) x.is ∙ or-left (bytes_eq name name) false (bytes-same name)))

leads-first : (rules : List RawRule) (a n z : List ℕ) → is_among (extended_by rules a) n ≡ true → Leads rules n z → Leads rules a z
leads-first rules a n z h l = record {
  steps = suc l.steps;
  way = or-right (bytes_eq a z) _
      (any-map (bytes_eq n) (λ m. leads rules l.steps m z) (λ m e. subst (λ (x : List ℕ). leads rules l.steps x z ≡ true) (same-bytes n m e) l.way) (extended_by rules a) h);
}

next-open : (frames : List Frame) (z : List ℕ) → (is_open frames (next_name frames z) || bytes_eq (next_name frames z) z) ≡ true
next-open [] z = bytes-same z
next-open (f ∷ frames) z = or-left _ (bytes_eq f.name.now z) (or-left (bytes_eq f.name.now f.name.now) (is_open frames f.name.now) (bytes-same f.name.now))

open-leads : (rules : List RawRule) (frames : List Frame) (name z : List ℕ) → Chained rules frames z → (is_open frames name || bytes_eq name z) ≡ true → Leads rules name z
open-leads rules [] name z chain h = record { steps = 0; way = h }
open-leads rules (f ∷ frames) name z chain h =
    by (bytes_eq name f.name.now) refl h (open-leads rules frames name z chain.1) (open-leads rules frames (next_name frames z) z chain.1 (next-open frames z))
  where
    by : (b : Bool) → bytes_eq name f.name.now ≡ b → ((b || is_open frames name) || bytes_eq name z) ≡ true → ((is_open frames name || bytes_eq name z) ≡ true → Leads rules name z) →
        Leads rules (next_name frames z) z → Leads rules name z
    by true e h more next = subst (λ (x : List ℕ). Leads rules x z) (sym (same-bytes name f.name.now e)) (leads-first rules f.name.now (next_name frames z) z chain.0 next)
    by false e h more next = more h

neither : (a b : Bool) → (a ≡ true) ⊎ (b ≡ true) → a ≡ false → b ≡ true
neither a b h k = ⊎_elim (λ (x : a ≡ true). absurd (true≢false (sym x ∙ k))) (λ (x : b ≡ true). x) h

-- a rule that is entered and not left leads to the topmost one
pub busy-cycle : (rules : List RawRule) (s : Search) (top : Frame) (rest : List RawItem) (name : List ℕ) → Busy rules s top → NextExtends top rest name → is_named s.order name ≡ false → is_named s.entered name ≡ true → Cyclic rules
busy-cycle rules s top rest name b x missing there = record {
  name = top.name.now;
  next = name;
  named = b.followed.named;
  extended = extended-next rules s.order top rest name b.followed x;
  way = open-leads rules s.below.items name top.name.now b.chain (neither (is_named s.order name) _ (b.entered name there) missing);
}

chain-push : (rules : List RawRule) (frames : List Frame) (top : Frame) (name : List ℕ) → Chained rules frames top.name.now → is_among (extended_by rules top.name.now) name ≡ true → Chained rules (frames ++ top ∷ []) name
chain-push rules [] top name chain h = (h, tt)
chain-push rules (f ∷ []) top name chain h = (chain.0, (h, tt))
chain-push rules (f ∷ (g ∷ frames)) top name chain h = (chain.0, chain-push rules (g ∷ frames) top name chain.1 h)

chain-pop : (rules : List RawRule) (frames : List Frame) (top : Frame) (name : List ℕ) → Chained rules (frames ++ top ∷ []) name → Chained rules frames top.name.now
chain-pop rules [] top name chain = tt
chain-pop rules (f ∷ []) top name chain = (chain.0, tt)
chain-pop rules (f ∷ (g ∷ frames)) top name chain = (chain.0, chain-pop rules (g ∷ frames) top name chain.1)

open-end : (frames : List Frame) (top : Frame) (name : List ℕ) → is_open (frames ++ top ∷ []) name ≡ (is_open frames name || bytes_eq name top.name.now)
open-end frames top name = list_any-append (λ (f : Frame). bytes_eq name f.name.now) frames (top ∷ []) ∙ ap (λ b. is_open frames name || b) (none (bytes_eq name top.name.now))
  where
    none : (b : Bool) → (b || false) ≡ b
    none true = refl
    none false = refl

named-after : (entered : List RawRule) (rule : RawRule) (name n : List ℕ) → rule.id ≡ Some name → is_named (with_rule entered rule) n ≡ true → (is_named entered n ≡ true) ⊎ (bytes_eq n name ≡ true)
named-after entered rule name n id h =
    ⊎_elim (λ (x : is_named entered n ≡ true). inl x) (λ (x : is_id n rule.id ≡ true). inr (sym (ap (is_id n) id) ∙ x))
    (or-cases (is_named entered n) (is_id n rule.id) (sym (named-with entered rule n) ∙ h))

new-frame : (rules order : List RawRule) (place : ℕ) (frame : Frame) → is_named rules frame.name.now ≡ true → IsPlaceOf rules frame.name.now place → slice_get rules place ≡ Some frame.rule.now → frame.rest.now ≡ frame.rule.now.items →
    Followed rules order frame
new-frame rules order place frame named at here is = record {
  id = at.id frame.rule.now here;
  named = named;
  items = at.items frame.rule.now here;
  passed = [];
  whole = sym is;
  settled = refl;
}

-- a rule is entered from the topmost one
pub busy-enter : (rules : List RawRule) (s t : Search) (top frame : Frame) (rest : List RawItem) (place : ℕ) → Busy rules s top → NextExtends top rest frame.name.now → is_named rules frame.name.now ≡ true → IsPlaceOf rules frame.name.now place →
    slice_get rules place ≡ Some frame.rule.now → frame.rest.now ≡ frame.rule.now.items → t.order ≡ s.order → t.entered ≡ with_rule s.entered frame.rule.now → t.below.items ≡ s.below.items ++ top ∷ [] → Busy rules t frame
busy-enter rules s t top frame rest place b x named at here is order entered below = record {
  sorted = subst (Sorted rules) (sym order) b.sorted;
  followed = new-frame rules t.order place frame named at here is;
  below = subst (Each (Followed rules t.order)) (sym below)
      (subst (λ (o : List RawRule). Each (Followed rules o) (s.below.items ++ top ∷ [])) (sym order) (each-push (Followed rules s.order) s.below.items top b.below b.followed));
  chain = subst (λ (fs : List Frame). Chained rules fs frame.name.now) (sym below)
      (chain-push rules s.below.items top frame.name.now b.chain (extended-next rules s.order top rest frame.name.now b.followed x));
  entered = λ n h. ⊎_elim
      (λ (k : is_named s.entered n ≡ true). ⊎_elim
      (λ (l : is_named s.order n ≡ true). inl (ap (λ (o : List RawRule). is_named o n) order ∙ l))
      (λ (l : (is_open s.below.items n || bytes_eq n top.name.now) ≡ true).
      inr (or-left (is_open t.below.items n) (bytes_eq n frame.name.now) (ap (λ (fs : List Frame). is_open fs n) below ∙ open-end s.below.items top n ∙ l)))
      (b.entered n k))
      (λ (k : bytes_eq n frame.name.now ≡ true). inr (or-right (is_open t.below.items n) (bytes_eq n frame.name.now) k))
      (named-after s.entered frame.rule.now frame.name.now n (at.id frame.rule.now here) (sym (ap (λ (e : List RawRule). is_named e n) entered) ∙ h));
}

frames-end : (frames : List Frame) (top : Frame) → frames_work (frames ++ top ∷ []) ≡ frames_work frames + (length top.rest.now + 1)
frames-end [] top = omega arith
frames-end (f ∷ frames) top = omega (arith, frames-end frames top)

entered-left : (rules entered : List RawRule) (rule : RawRule) (name : List ℕ) → rule.id ≡ Some name → is_named rules name ≡ true → items_named rules name ≡ rule.items → is_named entered name ≡ false →
    left (λ items. length items + 2) rules (with_rule entered rule) + (length rule.items + 2) ≤ left (λ items. length items + 2) rules entered
entered-left rules entered rule name id named items fresh =
    ⊎_elim
    (λ (x : (with_rule entered rule ≡ entered) × (is_named entered name ≡ true)). absurd (true≢false (sym x.1 ∙ fresh)))
    (λ (x : (with_rule entered rule ≡ entered ++ rule ∷ []) × (is_named entered name ≡ false)).
    subst (λ (e : List RawRule). left (λ items. length items + 2) rules e + (length rule.items + 2) ≤ left (λ items. length items + 2) rules entered) (sym x.0)
    (omega (arith, left-push (λ items. length items + 2) rules entered rule name id named fresh, ap length items)))
    (with-cases entered rule name id)

pub enter-less : (rules : List RawRule) (s t : Search) (top frame : Frame) (place : ℕ) → is_named rules frame.name.now ≡ true → IsPlaceOf rules frame.name.now place →
    slice_get rules place ≡ Some frame.rule.now → frame.rest.now ≡ frame.rule.now.items → t.entered ≡ with_rule s.entered frame.rule.now → t.below.items ≡ s.below.items ++ top ∷ [] → is_named s.entered frame.name.now ≡ false →
    work rules t frame < work rules s top
enter-less rules s t top frame place named at here is entered below fresh =
    let l = entered-left rules s.entered frame.rule.now frame.name.now (at.id frame.rule.now here) named (at.items frame.rule.now here) fresh in
    rw (entered, below) (omega (arith, l, frames-end s.below.items top, ap length is))

-- the topmost rule is left
sorted-push : (rules before order : List RawRule) (rule : RawRule) → is_sorted_among rules before order ≡ true → settles rules (before ++ order) rule.items ≡ true → is_sorted_among rules before (order ++ rule ∷ []) ≡ true
sorted-push rules before [] rule h k =
    both-true (settles rules before rule.items) true (subst (λ (o : List RawRule). settles rules o rule.items ≡ true) (append-nil before) k) refl
sorted-push rules before (r ∷ order) rule h k = by (settles rules before r.items) refl h (λ g. sorted-push rules (before ++ r ∷ []) order rule g (subst (λ (o : List RawRule). settles rules o rule.items ≡ true) (sym (append_assoc before (r ∷ []) order)) k))
  where
    by : (a : Bool) → settles rules before r.items ≡ a → (a && is_sorted_among rules (before ++ r ∷ []) order) ≡ true →
        (is_sorted_among rules (before ++ r ∷ []) order ≡ true → is_sorted_among rules (before ++ r ∷ []) (order ++ rule ∷ []) ≡ true) →
        (a && is_sorted_among rules (before ++ r ∷ []) (order ++ rule ∷ [])) ≡ true
    by true e h more = more h
    by false e h more = absurd (cc)

all-settled : (rules order : List RawRule) (top : Frame) → Followed rules order top → top.rest.now ≡ [] → settles rules order top.rule.now.items ≡ true
all-settled rules order top f over =
    ap (settles rules order) (f.whole ∙ ap (λ (its : List RawItem). f.passed ++ its) over ∙ append-nil f.passed) ∙ f.settled

left-sorted : (rules order after : List RawRule) (top : Frame) → Sorted rules order → Followed rules order top → top.rest.now ≡ [] → after ≡ with_rule order top.rule.now → Sorted rules after
left-sorted rules order after top s f over is =
    ⊎_elim
    (λ (x : (with_rule order top.rule.now ≡ order) × (is_named order top.name.now ≡ true)). subst (Sorted rules) (sym (is ∙ x.0)) s)
    (λ (x : (with_rule order top.rule.now ≡ order ++ top.rule.now ∷ []) × (is_named order top.name.now ≡ false)). subst (Sorted rules) (sym (is ∙ x.0)) (record {
      sorted = sorted-push rules [] order top.rule.now s.sorted (all-settled rules order top f over);
      each = each-push (Own rules) order top.rule.now s.each (record { id = top.name.now; is = f.id; named = f.named; items = f.items });
      room = omega (arith, s.room, length-append order (top.rule.now ∷ []), left-push (λ _. 1) rules order top.rule.now top.name.now f.id f.named x.1);
    }))
    (with-cases order top.rule.now top.name.now f.id)

order-kept : (order after : List RawRule) (rule : RawRule) → after ≡ with_rule order rule → (name : List ℕ) → is_named order name ≡ true → is_named after name ≡ true
order-kept order after rule is name h = ap (λ (o : List RawRule). is_named o name) is ∙ named-with order rule name ∙ or-left (is_named order name) (is_id name rule.id) h

order-new : (order after : List RawRule) (rule : RawRule) (name n : List ℕ) → after ≡ with_rule order rule → rule.id ≡ Some name → bytes_eq n name ≡ true → is_named after n ≡ true
order-new order after rule name n is id h =
    ap (λ (o : List RawRule). is_named o n) is ∙ named-with order rule n ∙ or-right (is_named order n) (is_id n rule.id) (ap (is_id n) id ∙ h)

each-end : {A : Type 0} (P : A → Type 0) (xs : List A) (x : A) → Each P (xs ++ x ∷ []) → Each P xs × P x
each-end P [] x e = (tt, e.0)
each-end P (y ∷ xs) x e = let r = each-end P xs x e.1 in ((e.0, r.0), r.1)

pub busy-leave : (rules : List RawRule) (s t : Search) (top frame : Frame) → Busy rules s top → top.rest.now ≡ [] → t.order ≡ with_rule s.order top.rule.now → t.entered ≡ s.entered → s.below.items ≡ t.below.items ++ frame ∷ [] → Busy rules t frame
busy-leave rules s t top frame b over order entered below =
    let kept = order-kept s.order t.order top.rule.now order in
    let each = each-end (Followed rules s.order) t.below.items frame (subst (Each (Followed rules s.order)) below b.below) in
    record {
      sorted = left-sorted rules s.order t.order top b.sorted b.followed over order;
      followed = followed-kept rules s.order t.order kept frame each.1;
      below = each-map (Followed rules s.order) (Followed rules t.order) (followed-kept rules s.order t.order kept) t.below.items each.0;
      chain = chain-pop rules t.below.items frame top.name.now (subst (λ (fs : List Frame). Chained rules fs top.name.now) below b.chain);
      entered = λ n h. ⊎_elim
          (λ (l : is_named s.order n ≡ true). inl (kept n l))
          (λ (l : (is_open s.below.items n || bytes_eq n top.name.now) ≡ true). ⊎_elim
          (λ (m : is_open s.below.items n ≡ true). inr (sym (open-end t.below.items frame n) ∙ sym (ap (λ (fs : List Frame). is_open fs n) below) ∙ m))
          (λ (m : bytes_eq n top.name.now ≡ true). inl (order-new s.order t.order top.rule.now top.name.now n order b.followed.id m))
          (or-cases (is_open s.below.items n) (bytes_eq n top.name.now) l))
          (b.entered n (sym (ap (λ (e : List RawRule). is_named e n) entered) ∙ h));
    }

no-frames : (frames : List Frame) → length frames ≡ 0 → frames ≡ []
no-frames [] h = refl
no-frames (f ∷ frames) h = absurd (omega arith)

pub busy-end : (rules : List RawRule) (s t : Search) (top : Frame) → Busy rules s top → top.rest.now ≡ [] → t.order ≡ with_rule s.order top.rule.now → t.entered ≡ s.entered → length s.below.items ≡ 0 → length t.below.items ≡ 0 → Idle rules t
busy-end rules s t top b over order entered none after =
    let kept = order-kept s.order t.order top.rule.now order in
    record {
      sorted = left-sorted rules s.order t.order top b.sorted b.followed over order;
      closed = λ n h. ⊎_elim
          (λ (l : is_named s.order n ≡ true). kept n l)
          (λ (l : (is_open s.below.items n || bytes_eq n top.name.now) ≡ true).
          order-new s.order t.order top.rule.now top.name.now n order b.followed.id
          (sym (ap (λ (fs : List Frame). is_open fs n || bytes_eq n top.name.now) (no-frames s.below.items none)) ∙ l))
          (b.entered n (sym (ap (λ (e : List RawRule). is_named e n) entered) ∙ h));
      none = no-frames t.below.items after;
    }

pub leave-less : (rules : List RawRule) (s t : Search) (top frame : Frame) → t.entered ≡ s.entered → s.below.items ≡ t.below.items ++ frame ∷ [] → work rules t frame < work rules s top
leave-less rules s t top frame entered below = rw (entered, below) (omega (arith, frames-end t.below.items frame))

-- a visit begins
pub idle-enter : (rules : List RawRule) (s t : Search) (frame : Frame) (place : ℕ) → Idle rules s → is_named rules frame.name.now ≡ true → IsPlaceOf rules frame.name.now place →
    slice_get rules place ≡ Some frame.rule.now → frame.rest.now ≡ frame.rule.now.items → t.order ≡ s.order → t.entered ≡ with_rule s.entered frame.rule.now → t.below.items ≡ s.below.items → Busy rules t frame
idle-enter rules s t frame place i named at here is order entered below =
    let none = below ∙ i.none in
    record {
      sorted = subst (Sorted rules) (sym order) i.sorted;
      followed = new-frame rules t.order place frame named at here is;
      below = subst (Each (Followed rules t.order)) (sym none) tt;
      chain = subst (λ (fs : List Frame). Chained rules fs frame.name.now) (sym none) tt;
      entered = λ n h. ⊎_elim
          (λ (k : is_named s.entered n ≡ true). inl (ap (λ (o : List RawRule). is_named o n) order ∙ i.closed n k))
          (λ (k : bytes_eq n frame.name.now ≡ true). inr (or-right (is_open t.below.items n) (bytes_eq n frame.name.now) k))
          (named-after s.entered frame.rule.now frame.name.now n (at.id frame.rule.now here) (sym (ap (λ (e : List RawRule). is_named e n) entered) ∙ h));
    }

pub entered-kept : (entered after : List RawRule) (rule : RawRule) → after ≡ with_rule entered rule → (name : List ℕ) → is_named entered name ≡ true → is_named after name ≡ true
entered-kept entered after rule is name h = order-kept entered after rule is name h

pub entered-new : (entered after : List RawRule) (rule : RawRule) (name : List ℕ) → after ≡ with_rule entered rule → rule.id ≡ Some name → is_named after name ≡ true
entered-new entered after rule name is id = order-new entered after rule name name is id (bytes-same name)

pub idle-start : (rules : List RawRule) (s : Search) → s.order ≡ [] → s.entered ≡ [] → s.below.items ≡ [] → Idle rules s
idle-start rules s order entered none = record {
  sorted = subst (Sorted rules) (sym order) (record { sorted = refl; each = tt; room = omega (arith, left-all rules) });
  closed = λ n h. absurd (true≢false (sym h ∙ ap (λ (e : List RawRule). is_named e n) entered));
  none = none;
}

-- a rule was entered, if its id is known
abbrev pub Entered : List RawRule → List RawRule → RawRule → Type 0
Entered rules entered rule = (name : List ℕ) → rule.id ≡ Some name → is_named rules name ≡ true → is_named entered name ≡ true

pub sort-next : (rules : List RawRule) (s t : Search) (place : ℕ) (rule : RawRule) (b : Bool) → Each (Entered rules s.entered) (take place rules) → place < length rules → slice_get rules place ≡ Some rule →
    Visited rules t rule.id b → b ≡ true → ((name : List ℕ) → is_named s.entered name ≡ true → is_named t.entered name ≡ true) → Idle rules t × Each (Entered rules t.entered) (take (place + 1) rules)
sort-next rules s t place rule false each less at v h kept = absurd (cc)
sort-next rules s t place rule true each less at v h kept =
    let taken : take (place + 1) rules ≡ take place rules ++ rule ∷ [] =
    ap (λ (n : ℕ). take n rules) (add-one place) ∙ take-suc rules place rule less ∙ ap (λ x. take place rules ++ x ∷ []) (get-at rules place rule rule at) in (
      v.0,
      subst (Each (Entered rules t.entered)) (sym taken)
          (each-push (Entered rules t.entered) (take place rules) rule
          (each-map (Entered rules s.entered) (Entered rules t.entered) (λ x f n is named. kept n (f n is named)) (take place rules) each) v.1),
    )

pub sort-end : (rules : List RawRule) (s : Search) (place : ℕ) → Idle rules s → Each (Entered rules s.entered) (take place rules) → length rules ≤ place → place ≤ length rules →
    Sorted rules s.order × ((name : List ℕ) → is_named rules name ≡ true → is_named s.order name ≡ true)
sort-end rules s place idle each least most = (
  idle.sorted,
  λ n h. let it = look-up (Entered rules s.entered) rules n h (subst (Each (Entered rules s.entered)) (all_taken rules place least most) each) in
      idle.closed n (it.1.1 n it.1.0 h),
)
