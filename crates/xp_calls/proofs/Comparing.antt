-- Which string-values a comparison takes.
use Rattle.std.proofs.Common.{◌≡◌, ◌∙◌, ℕ, ap, refl, sym, List, [], ◌∷◌, ◌++◌, Option, None, Some, append-nil, true, false, if◌then◌else◌}
use Rattle.doc_tree.specs.Kinds.{holds_kids}
use Rattle.doc_tree.specs.Table.{Table, Content, root, element, attribute, text, comment, instruction, content_of, kind_at, kind_of, value_at, value_of}
use Rattle.doc_tree.specs.Walks.{string_value_in, string_value_of}
use Rattle.xp_tree.specs.declared.operators.Comparison.{Comparison}
use Rattle.xp_tree.specs.declared.operators.Comparison.TheVariants.{Eq, Ne, Lt, Le, Gt, Ge}
use Rattle.xp_values.specs.declared.values.Value.{Value}
use Rattle.xp_values.specs.declared.values.Value.TheVariants.{NodeSet, Truth, Number, Chars}
use Rattle.xp_values.specs.Comparisons.{compare, is_truth}
use Rattle.xp_meaning.specs.Conversions.{nodes_of, compared_nodes}

pub left_truth : (v w : Value) → is_truth v ≡ true → compared_nodes v w ≡ []
left_truth v w is = ap (λ b. if b then [] else (if is_truth w then [] else nodes_of v ++ nodes_of w)) is

pub right_truth : (v w : Value) → is_truth v ≡ false → is_truth w ≡ true → compared_nodes v w ≡ []
right_truth v w no_left is =
    ap (λ b. if b then [] else (if is_truth w then [] else nodes_of v ++ nodes_of w)) no_left ∙ ap (λ b. if b then [] else nodes_of v ++ nodes_of w) is

pub no_truth : (v w : Value) → is_truth v ≡ false → is_truth w ≡ false → compared_nodes v w ≡ nodes_of v ++ nodes_of w
no_truth v w no_left no_right =
    ap (λ b. if b then [] else (if is_truth w then [] else nodes_of v ++ nodes_of w)) no_left ∙ ap (λ b. if b then [] else nodes_of v ++ nodes_of w) no_right

-- beside a text, the nodes of the left side alone are compared
pub beside_text : (v : Value) (chars : List ℕ) → nodes_of v ≡ compared_nodes v (Chars chars)
beside_text (NodeSet ns) chars = sym (append-nil ns)
beside_text (Truth b) chars = refl
beside_text (Number n) chars = refl
beside_text (Chars s) chars = refl

-- a node-set is compared with a lone node as with its text
pub beside_node : (T : Table) (op : Comparison) (ns : List ℕ) (n : ℕ) → compare T op (NodeSet ns) (NodeSet (n ∷ [])) ≡ compare T op (NodeSet ns) (Chars (string_value_of T n))
beside_node T Eq ns n = refl
beside_node T Ne ns n = refl
beside_node T Lt ns n = refl
beside_node T Le ns n = refl
beside_node T Gt ns n = refl
beside_node T Ge ns n = refl

-- and where it has no kids, that is its value
pub lone_value : (T : Table) (op : Comparison) (ns : List ℕ) (n : ℕ) (v : Value) → nodes_of v ≡ n ∷ [] → holds_kids (kind_of T n) ≡ false →
    compare T op (NodeSet ns) v ≡ compare T op (NodeSet ns) (Chars (value_of T n))
lone_value T op ns n v lone kidless = ap (compare T op (NodeSet ns)) (is_set v lone) ∙ beside_node T op ns n ∙ ap (λ chars. compare T op (NodeSet ns) (Chars chars)) (own (content_of T n) kidless)
  where
    is_set : (v : Value) → nodes_of v ≡ n ∷ [] → v ≡ NodeSet (n ∷ [])
    is_set (NodeSet ms) is = ap NodeSet is
    is_set (Truth b) is = absurd (cc)
    is_set (Number x) is = absurd (cc)
    is_set (Chars s) is = absurd (cc)

    own : (o : Option Content) → holds_kids (kind_at o) ≡ false → string_value_in T n o ≡ value_at o
    own None kidless = refl
    own (Some root) kidless = absurd (cc)
    own (Some (element name decls)) kidless = absurd (cc)
    own (Some (attribute name value)) kidless = refl
    own (Some (text characters)) kidless = refl
    own (Some (comment characters)) kidless = refl
    own (Some (instruction name characters)) kidless = refl
