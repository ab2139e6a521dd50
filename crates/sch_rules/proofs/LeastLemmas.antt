-- The least number among rules that stand by number.
use Rattle.std.proofs.Common.{◌≡◌, ℕ, suc, ◌≤◌, List, [], ◌∷◌, Option, None, Some, sym, ap, ◌∙◌, inl, inr, ⊎_elim, arith}
use Rattle.sch_model.specs.declared.fault.SchemaFault.{SchemaFault}
use Rattle.sch_rules.specs.FirstBroken.{Gives, least}

-- the numbers rise, from this one on
abbrev pub Rise : ℕ → List (ℕ × Option (List ℕ)) → Type 0
Rise k [] = Unit {0}
Rise k (r ∷ rs) = (k ≤ r.0) × Rise (suc r.0) rs

pub at_least : (k rule : ℕ) (name : List ℕ) (rs : List (ℕ × Option (List ℕ))) → Rise k rs → Gives rs rule name → k ≤ rule
at_least k rule name [] rise h = absurd h
at_least k rule name (r ∷ rs) rise h =
    ⊎_elim (λ (g : (r.0 ≡ rule) × (r.1 ≡ Some name)). omega (arith, rise.0, g.0))
    (λ (g : Gives rs rule name). omega (arith, rise.0, at_least (suc r.0) rule name rs rise.1 g)) h

-- each number gives one name
pub one_name : (k rule : ℕ) (a b : List ℕ) (rs : List (ℕ × Option (List ℕ))) → Rise k rs → Gives rs rule a → Gives rs rule b → a ≡ b
one_name k rule a b [] rise g h = absurd g
one_name k rule a b (r ∷ rs) rise g h =
    ⊎_elim
    (λ (p : (r.0 ≡ rule) × (r.1 ≡ Some a)).
    ⊎_elim (λ (q : (r.0 ≡ rule) × (r.1 ≡ Some b)). let e : Some a ≡ Some b = sym p.1 ∙ q.1 in cc)
    (λ (q : Gives rs rule b). absurd (omega (arith, p.0, at_least (suc r.0) rule b rs rise.1 q))) h)
    (λ (p : Gives rs rule a).
    ⊎_elim (λ (q : (r.0 ≡ rule) × (r.1 ≡ Some b)). absurd (omega (arith, q.0, at_least (suc r.0) rule a rs rise.1 p)))
    (λ (q : Gives rs rule b). one_name (suc r.0) rule a b rs rise.1 p q) h) g

-- what the least is: it stands at the place, its number gives its name, and no less number gives a name
pub record IsLeast (n : ℕ) (rs : List (ℕ × Option (List ℕ))) (f : SchemaFault) : Type 0 where
  pub node : f.node ≡ n
  pub gives : Gives rs f.rule f.name
  pub no_less : (rule : ℕ) (name : List ℕ) → Gives rs rule name → f.rule ≤ rule

least-cases : (n k rule : ℕ) (given : Option (List ℕ)) (rs : List (ℕ × Option (List ℕ))) (f : SchemaFault) → Rise (suc rule) rs →
    (least n rs ≡ Some f → IsLeast n rs f) → least n ((rule, given) ∷ rs) ≡ Some f → IsLeast n ((rule, given) ∷ rs) f
least-cases n k rule None rs f rise rest h =
    let l = rest h in
    record {
      node = l.node;
      gives = inr l.gives;
      no_less = λ other name g. ⊎_elim (λ (p : (rule ≡ other) × (None ≡ Some name)). absurd (let e : None ≡ Some name = p.1 in cc)) (λ (q : Gives rs other name). l.no_less other name q) g;
    }
least-cases n k rule (Some name) rs f rise rest h =
    let e : record { rule = rule; node = n; name = name } ≡ f = cc in
    record {
      node = ap (λ (g : SchemaFault). g.node) (sym e);
      gives = inl (ap (λ (g : SchemaFault). g.rule) e, ap (λ (g : SchemaFault). Some g.name) e);
      no_less = λ other its g.
          let same : rule ≡ f.rule = ap (λ (g : SchemaFault). g.rule) e in
          ⊎_elim (λ (p : (rule ≡ other) × (Some name ≡ Some its)). omega (arith, p.0, same))
          (λ (q : Gives rs other its). omega (arith, same, at_least (suc rule) other its rs rise q)) g;
    }

pub least-some : (n k : ℕ) (rs : List (ℕ × Option (List ℕ))) (f : SchemaFault) → Rise k rs → least n rs ≡ Some f → IsLeast n rs f
least-some n k [] f rise h = absurd (cc)
least-some n k (r ∷ rs) f rise h = least-cases n k r.0 r.1 rs f rise.1 (least-some n (suc r.0) rs f rise.1) h

none-cases : (n rule other : ℕ) (given : Option (List ℕ)) (name : List ℕ) (rs : List (ℕ × Option (List ℕ))) →
    (least n rs ≡ None → Gives rs other name → ⊥) → least n ((rule, given) ∷ rs) ≡ None → Gives ((rule, given) ∷ rs) other name → ⊥
none-cases n rule other None name rs rest h g =
    ⊎_elim (λ (p : (rule ≡ other) × (None ≡ Some name)). let e : None ≡ Some name = p.1 in cc) (λ (q : Gives rs other name). rest h q) g
none-cases n rule other (Some its) name rs rest h g = cc

pub least-none : (n rule : ℕ) (name : List ℕ) (rs : List (ℕ × Option (List ℕ))) → least n rs ≡ None → Gives rs rule name → ⊥
least-none n rule name [] h g = g
least-none n rule name (r ∷ rs) h g = none-cases n r.0 rule r.1 name rs (least-none n rule name rs) h g
