-- The first broken rule, found place by place, is the first by the relation.
use Rattle.std.proofs.Common.{◌≡◌, ℕ, ◌≤◌, ◌⊎◌, Bool, true, false, cond, List, [], ◌∷◌, ◌++◌, Option, None, Some, refl, sym, ap, ◌∙◌, subst, inl, inr, ⊎_elim, arith, append-nil, append_assoc, lit≤}
use Rattle.std.specs.List.{flat_map}
use Rattle.std.specs.Option.{option_or}
use Rattle.doc_tree.specs.Lists.{mem, Distinct}
use Rattle.doc_tree.specs.Table.{Table}
use Rattle.doc_tree.specs.Walks.{order}
use Rattle.sch_model.specs.declared.fault.SchemaFault.{SchemaFault}
use Rattle.sch_rules.specs.Elements.{is_ignored}
use Rattle.sch_rules.specs.FirstBroken.{Broken, FirstAgrees, Gives, IsFirst, fault_at, first_broken, first_over, least}
use Rattle.sch_rules.specs.Keys.{Key, keys_at}
use Rattle.sch_rules.specs.Rules.{rules}
use Rattle.sch_rules.proofs.LeastLemmas.{IsLeast, Rise, least-none, least-some, one_name}
use Rattle.sch_rules.proofs.SplitLemmas.{Cuts, cuts, earlier, later, mem-beyond, mem-cut, not_before, same}

-- the rules stand by number
pub rise : (T : Table) (taken : List Key) (n : ℕ) → Rise 1 (rules T taken n)
rise T taken n = (lit≤ tt, (lit≤ tt, (lit≤ tt, (lit≤ tt, (lit≤ tt, (lit≤ tt, (lit≤ tt, (lit≤ tt, (lit≤ tt, tt)))))))))

-- what a fault at a place says
pub record IsFaultAt (T : Table) (taken : List Key) (n : ℕ) (f : SchemaFault) : Type 0 where
  pub counts : is_ignored T n ≡ false
  pub least : IsLeast n (rules T taken n) f

fault-cases : (T : Table) (taken : List Key) (n : ℕ) (f : SchemaFault) (b : Bool) → is_ignored T n ≡ b →
    cond b None (least n (rules T taken n)) ≡ Some f → IsFaultAt T taken n f
fault-cases T taken n f true e h = absurd (cc)
fault-cases T taken n f false e h = record { counts = e; least = least-some n 1 (rules T taken n) f (rise T taken n) h }

pub fault-some : (T : Table) (taken : List Key) (n : ℕ) (f : SchemaFault) → fault_at T taken n ≡ Some f → IsFaultAt T taken n f
fault-some T taken n f h = fault-cases T taken n f (is_ignored T n) refl h

pub fault-none : (T : Table) (taken : List Key) (n rule : ℕ) (name : List ℕ) → fault_at T taken n ≡ None → is_ignored T n ≡ false →
    Gives (rules T taken n) rule name → ⊥
fault-none T taken n rule name h counts g =
    let e : least n (rules T taken n) ≡ None = rw counts at h in
    least-none n rule name (rules T taken n) e g

-- the places before the first fault, and the fault
pub record Found (T : Table) (taken : List Key) (ns : List ℕ) (f : SchemaFault) : Type 0 where
  pub before : List ℕ
  pub after : List ℕ
  pub place : ns ≡ before ++ f.node ∷ after
  pub none : first_over T taken before ≡ None
  pub here : fault_at T (taken ++ flat_map (keys_at T) before) f.node ≡ Some f

found-cases : (T : Table) (taken : List Key) (n : ℕ) (ns : List ℕ) (f : SchemaFault) (o : Option SchemaFault) → fault_at T taken n ≡ o →
    (first_over T (taken ++ keys_at T n) ns ≡ Some f → Found T (taken ++ keys_at T n) ns f) →
    option_or o (first_over T (taken ++ keys_at T n) ns) ≡ Some f → Found T taken (n ∷ ns) f
found-cases T taken n ns f None e rest h =
    let r = rest h in
    record {
      before = n ∷ r.before;
      after = r.after;
      place = ap (λ l. n ∷ l) r.place;
      none = ap (λ o. option_or o (first_over T (taken ++ keys_at T n) r.before)) e ∙ r.none;
      here = subst (λ keys. fault_at T keys f.node ≡ Some f) (append_assoc taken (keys_at T n) (flat_map (keys_at T) r.before)) r.here;
    }
found-cases T taken n ns f (Some g) e rest h =
    let same : g ≡ f = cc in
    let at : fault_at T taken n ≡ Some f = e ∙ ap Some same in
    let node : f.node ≡ n = (fault-some T taken n f at).least.node in
    record {
      before = [];
      after = ns;
      place = ap (λ m. m ∷ ns) (sym node);
      none = refl;
      here =
          subst (λ m. fault_at T (taken ++ []) m ≡ Some f) (sym node) (subst (λ keys. fault_at T keys n ≡ Some f) (sym (append-nil taken)) at);
    }

pub found : (T : Table) (taken : List Key) (ns : List ℕ) (f : SchemaFault) → first_over T taken ns ≡ Some f → Found T taken ns f
found T taken [] f h = absurd (cc)
found T taken (n ∷ ns) f h = found-cases T taken n ns f (fault_at T taken n) refl (found T (taken ++ keys_at T n) ns f) h

-- where there is no fault, there is none at any place
or_none : {A : Type 0} (a b : Option A) → option_or a b ≡ None → (a ≡ None) × (b ≡ None)
or_none None b h = (refl, h)
or_none (Some x) b h = absurd (cc)

pub none-at : (T : Table) (taken : List Key) (before : List ℕ) (n : ℕ) (after : List ℕ) → first_over T taken (before ++ n ∷ after) ≡ None →
    fault_at T (taken ++ flat_map (keys_at T) before) n ≡ None
none-at T taken [] n after h =
    subst (λ keys. fault_at T keys n ≡ None) (sym (append-nil taken)) ((or_none (fault_at T taken n) (first_over T (taken ++ keys_at T n) after) h).0)
none-at T taken (m ∷ before) n after h =
    subst (λ keys. fault_at T keys n ≡ None) (append_assoc taken (keys_at T m) (flat_map (keys_at T) before))
    (none-at T (taken ++ keys_at T m) before n after ((or_none (fault_at T taken m) (first_over T (taken ++ keys_at T m) (before ++ n ∷ after)) h).1))

module _ (T : Table) where
  pub none_broken : first_broken T ≡ None → (rule n : ℕ) (name : List ℕ) → Broken T rule n name → ⊥
  none_broken h rule n name b =
      fault-none T (flat_map (keys_at T) b.before) n rule name (none-at T [] b.before n b.after (rw b.place at h)) b.counts b.gives

  pub is_first : (f : SchemaFault) → first_broken T ≡ Some f → IsFirst T f
  is_first f h =
      let at = found T [] (order T) f h in
      let here = fault-some T (flat_map (keys_at T) at.before) f.node f at.here in
      record {
        broken = record { before = at.before; after = at.after; place = at.place; counts = here.counts; gives = here.least.gives };
        no_other = λ rule n name other. others at here rule n name other (cuts at.before at.after other.before other.after f.node n (sym at.place ∙ other.place));
      }
    where
      others : (at : Found T [] (order T) f) → IsFaultAt T (flat_map (keys_at T) at.before) f.node f → (rule n : ℕ) (name : List ℕ) (other : Broken T rule n name) →
          Cuts at.before other.before f.node n → ((f.node ≡ n) × (f.rule ≤ rule)) ⊎ (mem f.node other.before ≡ true)
      others at here rule n name other (same s) =
          let before : at.before ≡ other.before = s.before in
          let node : f.node ≡ n = s.item in
          let gives : Gives (rules T (flat_map (keys_at T) at.before) f.node) rule name = rw (before, node) other.gives in
          inl (node, here.least.no_less rule name gives)
      others at here rule n name other (later b) = inr (mem-cut other.before at.before f.node b)
      others at here rule n name other (earlier b) =
          let before : at.before ≡ other.before ++ n ∷ b.more = b.is in
          let none : first_over T [] (other.before ++ n ∷ b.more) ≡ None = rw before at at.none in
          absurd (fault-none T (flat_map (keys_at T) other.before) n rule name (none-at T [] other.before n b.more none) other.counts other.gives)

  -- two first broken rules are the same
  pub one_first : Distinct (order T) → (f g : SchemaFault) → IsFirst T f → IsFirst T g → f ≡ g
  one_first once f g first other =
      ⊎_elim
      (λ (a : (f.node ≡ g.node) × (f.rule ≤ g.rule)).
      ⊎_elim (λ (b : (g.node ≡ f.node) × (g.rule ≤ f.rule)). equal a.0 (omega (arith, a.1, b.1)))
      (λ (b : mem g.node first.broken.before ≡ true).
      absurd (not_before first.broken.before first.broken.after f.node (rw first.broken.place at once) (rw a.0 b)))
      (other.no_other f.rule f.node f.name first.broken))
      (λ (a : mem f.node other.broken.before ≡ true).
      ⊎_elim (λ (b : (g.node ≡ f.node) × (g.rule ≤ f.rule)).
      absurd (not_before other.broken.before other.broken.after g.node (rw other.broken.place at once) (rw b.0 a)))
      (λ (b : mem g.node first.broken.before ≡ true). absurd (crossed a b (cuts first.broken.before first.broken.after other.broken.before other.broken.after f.node g.node (sym first.broken.place ∙ other.broken.place))))
      (other.no_other f.rule f.node f.name first.broken))
      (first.no_other g.rule g.node g.name other.broken)
    where
      same_before : f.node ≡ g.node → Cuts first.broken.before other.broken.before f.node g.node → first.broken.before ≡ other.broken.before
      same_before node (same s) = s.before
      same_before node (later b) =
          absurd (not_before other.broken.before other.broken.after g.node (rw other.broken.place at once) (rw (← node) (mem-cut other.broken.before first.broken.before f.node b)))
      same_before node (earlier b) =
          absurd (not_before first.broken.before first.broken.after f.node (rw first.broken.place at once) (rw node (mem-cut first.broken.before other.broken.before g.node b)))

      equal : f.node ≡ g.node → f.rule ≡ g.rule → f ≡ g
      equal node rule =
          let before : first.broken.before ≡ other.broken.before = same_before node (cuts first.broken.before first.broken.after other.broken.before other.broken.after f.node g.node (sym first.broken.place ∙ other.broken.place)) in
          let gives : Gives (rules T (flat_map (keys_at T) first.broken.before) f.node) f.rule g.name = rw (before, node, rule) other.broken.gives in
          let name : f.name ≡ g.name = one_name 1 f.rule f.name g.name (rules T (flat_map (keys_at T) first.broken.before) f.node) (rise T (flat_map (keys_at T) first.broken.before) f.node) first.broken.gives gives in
          let e : f ≡ g = λ t. record { rule = rule t; node = node t; name = name t } in e

      crossed : mem f.node other.broken.before ≡ true → mem g.node first.broken.before ≡ true → Cuts first.broken.before other.broken.before f.node g.node → ⊥
      crossed a b (same s) = not_before first.broken.before first.broken.after f.node (rw first.broken.place at once) (rw s.before a)
      crossed a b (later c) =
          not_before other.broken.before other.broken.after g.node (rw other.broken.place at once) (mem-beyond other.broken.before first.broken.before f.node g.node c b)
      crossed a b (earlier c) =
          not_before first.broken.before first.broken.after f.node (rw first.broken.place at once) (mem-beyond first.broken.before other.broken.before g.node f.node c a)

  pub is_found : Distinct (order T) → (f : SchemaFault) → IsFirst T f → first_broken T ≡ Some f
  is_found once f first = by (first_broken T) refl
    where
      by : (o : Option SchemaFault) → first_broken T ≡ o → first_broken T ≡ Some f
      by None e = absurd (none_broken e f.rule f.node f.name first.broken)
      by (Some g) e = e ∙ ap Some (one_first once g f (is_first g e) first)

  pub agrees : Distinct (order T) → FirstAgrees T
  agrees once = record { is_first = is_first; is_found = is_found once; none_broken = none_broken }
