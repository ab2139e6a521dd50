-- What a predicate that is a truth keeps, and what the predicate of an attribute's name says (XPath 1.0, sections 2.4, 3.4 and 4.1).
use Rattle.std.proofs.Common.{◌≡◌, ℕ, ◌+◌, Bool, true, false, cond, if◌then◌else◌, ◌&&◌, ◌||◌, List, [], ◌∷◌, ◌++◌, Result, Ok, refl, ap, ◌∙◌}
use Rattle.std.specs.Prelude.{filter, bytes_eq}
use Rattle.doc_tree.specs.Laws.{Ordered}
use Rattle.doc_tree.specs.Table.{Table, is_live, name_of}
use Rattle.doc_axes.specs.Sets.{in_order}
use Rattle.doc_axes.proofs.NodeSets.{one_live}
use Rattle.xp_typed_tree.specs.declared.function.Function.TheVariants as functions
use Rattle.xp_typed_tree.specs.TypedTree.{TypedTree, conjunction, no_typed, typed}
use Rattle.xp_outcome.specs.Evaluation.{Evaluation, done, bind, behind, visit, visits, all_reading, gather}
use Rattle.xp_values.specs.declared.values.Value.{Value}
use Rattle.xp_values.specs.declared.values.Value.TheVariants.{Truth}
use Rattle.xp_values.specs.declared.values.EvalFault.{EvalFault}
use Rattle.xp_values.specs.Conversions.{to_truth}
use Rattle.xp_meaning.specs.declared.context.Context.{Context}
use Rattle.xp_meaning.specs.Conversions.{compare_in}
use Rattle.xp_meaning.specs.Names.{local_in, uri_in}
use Rattle.xp_meaning.specs.Paths.{Meaning, Step, chosen, step_at, step_from}
use Rattle.xp_meaning.specs.Reads.{taking}
use Rattle.xp_meaning.specs.Evaluation.{Lets, all_true, meaning}
use Rattle.xp_meaning.proofs.Answers.{answer_then, answer_visit}
use Rattle.location_texts.specs.StepTypes.{equation, is_named}

-- a predicate that is a truth at each node keeps those at which it holds
module _ (act : ℕ → ℕ → Evaluation EvalFault Value) (holds : ℕ → Bool) (truths : (i n : ℕ) → (act i n).answer ≡ Ok (Truth (holds n))) where
  pub chosen-answer : (i : ℕ) (ns : List ℕ) → (gather act chosen i ns).answer ≡ Ok (filter holds ns)
  unfolding done
  chosen-answer i [] = refl
  chosen-answer i (n ∷ ns) =
      answer_then (act i n) (λ v. bind (gather act chosen (i + 1) ns) (λ rest. done (chosen i n v ++ rest))) (Truth (holds n)) (truths i n)
      ∙ answer_then (gather act chosen (i + 1) ns) (λ rest. done (chosen i n (Truth (holds n)) ++ rest)) (filter holds ns) (chosen-answer (i + 1) ns)
      ∙ ap Ok (by (holds n))
    where
      by : (b : Bool) → chosen i n (Truth b) ++ filter holds ns ≡ cond b (n ∷ filter holds ns) (filter holds ns)
      by true = refl
      by false = refl

-- a step from one node to one other
pub from_one : (T : Table) → Ordered T → (s : Step) (current p n : ℕ) → is_live T n ≡ true → (step_at T s current p).answer ≡ Ok (n ∷ []) →
    (step_from T s current (p ∷ [])).answer ≡ Ok (n ∷ [])
unfolding done
from_one T ord s current p n live at =
    let gathered : Evaluation _ (List ℕ) = gather (λ _ k. step_at T s current k) (λ _ _ ms. ms) 1 (p ∷ []) in
    answer_then gathered (λ ms. done (in_order T ms)) (n ∷ [])
    (answer_then (step_at T s current p) (λ ms. bind (gather (λ _ k. step_at T s current k) (λ _ _ ks. ks) (1 + 1) []) (λ rest. done (ms ++ rest)))
    (n ∷ []) at
    ∙ answer_then (gather (λ _ k. step_at T s current k) (λ _ _ ks. ks) (1 + 1) []) (λ rest. done ((n ∷ []) ++ rest)) [] refl)
    ∙ ap Ok (one_live T ord n live)

-- ---- the predicate of a name

abbrev truth : Bool → Result Value EvalFault
truth b = Ok (Truth b)

-- of one text on either side of `=` there is one pair
one_pair : (b : Bool) → ((b || false) || false) ≡ b
one_pair true = refl
one_pair false = refl

local_equation : (T : Table) (L : Lets) (value : List ℕ) (c : Context) →
    (meaning T L (equation functions.LocalName value) c).answer ≡ truth (bytes_eq (local_in (name_of T c.node)) value)
unfolding visit visits all_reading bind behind done taking compare_in
local_equation T L value c = ap truth (one_pair (bytes_eq (local_in (name_of T c.node)) value))

uri_equation : (T : Table) (L : Lets) (value : List ℕ) (c : Context) →
    (meaning T L (equation functions.NamespaceUri value) c).answer ≡ truth (bytes_eq (uri_in (name_of T c.node)) value)
unfolding visit visits all_reading bind behind done taking compare_in
uri_equation T L value c = ap truth (one_pair (bytes_eq (uri_in (name_of T c.node)) value))

module _ (m k : Meaning) (c : Context) (a b : Bool) (is : (m c).answer ≡ truth a) (is_2 : (k c).answer ≡ truth b) where
  second_true : (all_true (k ∷ []) c).answer ≡ Ok b
  unfolding done
  second_true = answer_then (k c) (λ v. if to_truth v then all_true [] c else done false) (Truth b) is_2 ∙ by b
    where
      by : (t : Bool) → (if t then all_true [] c else done false).answer ≡ Ok t
      by true = refl
      by false = refl

  both_hold : (all_true (m ∷ k ∷ []) c).answer ≡ Ok (a && b)
  unfolding done
  both_hold = answer_then (m c) (λ v. if to_truth v then all_true (k ∷ []) c else done false) (Truth a) is ∙ by a
    where
      by : (t : Bool) → (if t then all_true (k ∷ []) c else done false).answer ≡ Ok (t && b)
      by true = second_true
      by false = refl

conjunction_answer : (T : Table) (L : Lets) (t u : TypedTree) (c : Context) (a b : Bool) → (meaning T L t c).answer ≡ truth a →
    (meaning T L u c).answer ≡ truth b →
    (meaning T L (conjunction (typed t (typed u no_typed))) c).answer ≡ truth (a && b)
unfolding done
conjunction_answer T L t u c a b is is_2 =
    answer_visit (bind (all_true (meaning T L t ∷ meaning T L u ∷ []) c) (λ holds. done (Truth holds)))
    ∙ answer_then (all_true (meaning T L t ∷ meaning T L u ∷ []) c) (λ holds. done (Truth holds)) (a && b)
    (both_hold (meaning T L t) (meaning T L u) c a b is is_2)

-- whether a node has both parts of a name
abbrev pub has_parts : Table → List ℕ → List ℕ → ℕ → Bool
has_parts T local uri n = bytes_eq (local_in (name_of T n)) local && bytes_eq (uri_in (name_of T n)) uri

pub named_answer : (T : Table) (L : Lets) (local uri : List ℕ) (c : Context) →
    (meaning T L (is_named local uri) c).answer ≡ Ok (Truth (has_parts T local uri c.node))
named_answer T L local uri c =
    conjunction_answer T L (equation functions.LocalName local) (equation functions.NamespaceUri uri) c
    (bytes_eq (local_in (name_of T c.node)) local) (bytes_eq (uri_in (name_of T c.node)) uri)
    (local_equation T L local c) (uri_equation T L uri c)
