-- The first rule on sizes that is broken.
use Rattle.std.proofs.Common.{arith, ◌≡◌, ℕ, ◌-◌, ◌^◌, ◌<◌, ◌≤◌, Bool, true, false, not, nat_lt, List, [], ◌∷◌, Option, None, Some, min, refl}
use Rattle.std.specs.Prelude.{codes}
use Rattle.std.proofs.lemmas.Bool.Decides.{Decides-ltb, nat_tests}
use Rattle.sch_model.specs.declared.fault.SchemaFault.{SchemaFault}
use Rattle.sch_references.specs.Places.{first_among}
use Rattle.sch_rules.specs.Rules.{name_if}
use Rattle.sch_flat.specs.FlatSize.{capped}

-- by whether each rule is broken
abbrev pub first_by : ℕ → Bool → Bool → Bool → Bool → Option SchemaFault
first_by node a b c d = first_among (record {
  node = node;
  rules = (16, name_if a (codes "4096")) ∷ (17, name_if b (codes "16384")) ∷ (18, name_if c (codes "1024")) ∷ (19, name_if d (codes "16777216")) ∷ [];
} ∷ [])

abbrev pub fault : ℕ → ℕ → List ℕ → Option SchemaFault
fault rule node name = Some (record { rule = rule; node = node; name = name })

pub rule_16 : (node : ℕ) (a b c d : Bool) → a ≡ true → first_by node a b c d ≡ fault 16 node (codes "4096")
rule_16 node true b c d h = refl
rule_16 node false b c d h = absurd (cc)

pub rule_17 : (node : ℕ) (a b c d : Bool) → a ≡ false → b ≡ true → first_by node a b c d ≡ fault 17 node (codes "16384")
rule_17 node true b c d h k = absurd (cc)
rule_17 node false false c d h k = absurd (cc)
rule_17 node false true c d h k = refl

pub rule_18 : (node : ℕ) (a b c d : Bool) → a ≡ false → b ≡ false → c ≡ true → first_by node a b c d ≡ fault 18 node (codes "1024")
rule_18 node true b c d h k l = absurd (cc)
rule_18 node false true c d h k l = absurd (cc)
rule_18 node false false false d h k l = absurd (cc)
rule_18 node false false true d h k l = refl

pub rule_19 : (node : ℕ) (a b c d : Bool) → a ≡ false → b ≡ false → c ≡ false → d ≡ false → first_by node a b c (not d) ≡ fault 19 node (codes "16777216")
rule_19 node true b c d h k l m = absurd (cc)
rule_19 node false true c d h k l m = absurd (cc)
rule_19 node false false true d h k l m = absurd (cc)
rule_19 node false false false true h k l m = absurd (cc)
rule_19 node false false false false h k l m = refl

pub none_broken : (node : ℕ) (a b c d : Bool) → a ≡ false → b ≡ false → c ≡ false → d ≡ true → first_by node a b c (not d) ≡ None
none_broken node true b c d h k l m = absurd (cc)
none_broken node false true c d h k l m = absurd (cc)
none_broken node false false true d h k l m = absurd (cc)
none_broken node false false false false h k l m = absurd (cc)
none_broken node false false false true h k l m = refl

-- a count past its limit, and within it
less_min : (limit n m : ℕ) → limit < min n m → limit < n
less_min limit n m h = omega (arith, h)

most_min : (limit n m : ℕ) → min n m ≤ limit → limit < m → n ≤ limit
most_min limit n m h k = omega (arith, h, k)

not_less : (limit n : ℕ) → n ≤ limit → nat_lt limit n ≡ false
not_less limit n h = grind (arith, nat_tests)

pub above : (limit n count : ℕ) → count ≡ capped n → limit < count → nat_lt limit n ≡ true
above limit n count is less = (Decides-ltb limit n).1 (less_min limit n (2 ^ 64 - 1) (omega (arith, is, less)))

pub within : (limit n count : ℕ) → limit < 2 ^ 64 - 1 → count ≡ capped n → count ≤ limit → nat_lt limit n ≡ false
within limit n count small is most = not_less limit n (most_min limit n (2 ^ 64 - 1) (omega (arith, is, most)) small)
