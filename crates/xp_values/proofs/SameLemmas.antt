-- Node-sets are the same where their lists of nodes are.
use Rattle.std.proofs.Common.{◌≡◌, ℕ, Bool, true, false, List, [], nat_eq, refl, sym, ap, ◌∙◌}
use Rattle.std.specs.Cmp.Lexicographic.{same_text, other_text}
use lib.Pointwise.{pointwise}
use Rattle.xp_values.specs.declared.values.Value.{Value}
use Rattle.xp_values.specs.declared.values.Value.TheVariants.{NodeSet, Truth, Number, Chars}

nodes_in : Value → List ℕ
nodes_in (NodeSet nodes) = nodes
nodes_in (Truth truth) = []
nodes_in (Number number) = []
nodes_in (Chars text) = []

same_nodes : (xs ys : List ℕ) → NodeSet xs ≡ NodeSet ys → xs ≡ ys
unfolding nodes_in
same_nodes xs ys h = ap nodes_in h

pub node_sets_same : (xs ys : List ℕ) (same : Bool) (v w : Value) → (same ≡ true → xs ≡ ys) × (xs ≡ ys → same ≡ true) → v ≡ NodeSet xs → w ≡ NodeSet ys →
    (same ≡ true → v ≡ w) × (v ≡ w → same ≡ true)
node_sets_same xs ys same v w is left right =
    (λ h. left ∙ ap NodeSet (is.0 h) ∙ sym right, λ h. is.1 (same_nodes xs ys (sym left ∙ h ∙ right)))

-- lists that are compared item by item
pub lists_same : (xs ys : List ℕ) (same : Bool) → same ≡ pointwise nat_eq xs ys → (same ≡ true → xs ≡ ys) × (xs ≡ ys → same ≡ true)
lists_same xs ys true is = (λ _. same_text xs ys is, λ _. refl)
lists_same xs ys false is = (λ h. absurd (cc), λ h. absurd (other_text xs ys is h))
