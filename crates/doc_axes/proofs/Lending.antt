-- Lent nodes place by place, those behind some, and how many pass a test.
use Rattle.std.proofs.Common.{◌≡◌, ℕ, zero, suc, ◌+◌, ◌-◌, ◌<◌, ◌≤◌, Bool, true, false, cond, List, [], ◌∷◌, ◌++◌, Option, None, Some, append-nil, length, max, take, drop, get_or, refl, sym, ap, ap₂, ◌∙◌, subst, arith}
use Rattle.std.specs.Prelude.{IfSome, filter, if◌then◌else◌, slice_get}
use Rattle.std.proofs.lemmas.List.{append_assoc, drop_at, length-append, length-drop, length-take-le, take-append-drop, take_more}
use Rattle.std.proofs.Math.Seq.{take-add}
use Rattle.doc_tree.specs.Lists.{mem}
use Rattle.doc_tree.proofs.ListLemmas.{In-mem, mem-In, mem-head, mem-tail, occurs-append}
use Rattle.doc_tree.specs.declared.axes.Axis.{Axis}
use Rattle.doc_tree.specs.declared.axes.Axis.TheVariants.{PrecedingSibling}
use Rattle.doc_tree.specs.declared.axes.NodeTest.{NodeTest}
use Rattle.doc_tree.specs.declared.axes.NodeTest.TheVariants.{Named}
use Rattle.doc_tree.specs.Alike.{CountsAlike, is_element_called}
use Rattle.doc_tree.specs.Table.{Table, kids_of}
use Rattle.doc_tree.proofs.AlikeLemmas.{split_at_item}
use Rattle.doc_axes.specs.Axes.{backwards}
use Rattle.doc_axes.specs.NodeTests.{passes}
use Rattle.doc_axes.specs.Places.{node_at}
use Rattle.doc_axes.specs.inner.Lending.{AreFirstKids, lent_nodes}
use Rattle.doc_axes.specs.inner.Seeing.{EndsPassing}
use Rattle.doc_axes.specs.declared.lent.Lent.{Lent}
use Rattle.doc_axes.proofs.Backwards.{get-backwards, length-backwards}
use Rattle.doc_axes.proofs.SubLists.{backwards-append, filter-append, mem-same, occurs-backwards}

pub lent_length : (nodes : List ℕ) (from_end : Bool) → length (if from_end then backwards nodes else nodes) ≡ length nodes
lent_length nodes true = length-backwards nodes
lent_length nodes false = refl

pub lent_from_end : (nodes : List ℕ) (from_end : Bool) (k d : ℕ) → from_end ≡ true → k < length nodes → get_or nodes (length nodes - 1 - k) d ≡ d → get_or (if from_end then backwards nodes else nodes) k d ≡ d
lent_from_end nodes true k d is below there = get-backwards nodes k d below ∙ there
lent_from_end nodes false k d is below there = absurd (cc)

-- Those behind some

pub drop_backwards : (ns : List ℕ) (k : ℕ) → k ≤ length ns → backwards (take (length ns - k) ns) ≡ drop k (backwards ns)
drop_backwards ns k within =
    let left = length ns - k in
    let turned : backwards ns ≡ backwards (drop left ns) ++ backwards (take left ns) =
    ap backwards (sym (take-append-drop left ns)) ∙ backwards-append (take left ns) (drop left ns) in
    let size : length (backwards (drop left ns)) ≡ k = omega (arith, length-backwards (drop left ns), length-drop left ns, within) in
    sym (ap (drop k) turned ∙ drop_at (backwards (drop left ns)) (backwards (take left ns)) k size)

-- what stands behind some stands there
pub mem_behind : (m k : ℕ) (ns : List ℕ) → mem m (drop k ns) ≡ true → mem m ns ≡ true
mem_behind m k ns there =
    subst (λ l. mem m l ≡ true) (take-append-drop k ns)
    (In-mem m (take k ns ++ drop k ns) (omega (arith, mem-In m (drop k ns) there, occurs-append m (take k ns) (drop k ns))))

pub mem_lent : (m : ℕ) (nodes : List ℕ) (from_end : Bool) → mem m nodes ≡ mem m (if from_end then backwards nodes else nodes)
mem_lent m nodes true = mem-same m nodes (backwards nodes) (sym (occurs-backwards m nodes))
mem_lent m nodes false = refl

-- the node at a place is the same where more come behind those that reach to it, or none do
pub node_stays : (place : ℕ) (xs ys : List ℕ) → (length xs < max place 1 → ys ≡ []) → node_at place xs ≡ node_at place (xs ++ ys)
node_stays zero xs ys none = refl
node_stays (suc k) xs ys none = stays xs k (λ short. none (omega (arith, short)))
  where
    stays : (ns : List ℕ) (i : ℕ) → (length ns ≤ i → ys ≡ []) → slice_get ns i ≡ slice_get (ns ++ ys) i
    stays [] i short = ap (λ l. slice_get l i) (sym (short (omega arith)))
    stays (m ∷ ms) zero short = refl
    stays (m ∷ ms) (suc i) short = stays ms i (λ h. short (omega (arith, h)))

-- an item is the same whatever stands for a missing one
pub one_item : (xs : List ℕ) (k a b : ℕ) → k < length xs → get_or xs k a ≡ a → get_or xs k b ≡ b → a ≡ b
one_item [] k a b below is_a is_b = absurd (omega (arith, below))
one_item (x ∷ xs) zero a b below is_a is_b = sym is_a ∙ is_b
one_item (x ∷ xs) (suc k) a b below is_a is_b = one_item xs k a b (omega (arith, below)) is_a is_b

-- How many pass

module _ (p : ℕ → Bool) where
  pub count_backwards : (ns : List ℕ) → length (filter p (backwards ns)) ≡ length (filter p ns)
  count_backwards [] = refl
  count_backwards (n ∷ ns) =
      ap length (filter-append p (backwards ns) (n ∷ [])) ∙ length-append (filter p (backwards ns)) (filter p (n ∷ [])) ∙ by (p n) (count_backwards ns)
    where
      by : (b : Bool) → length (filter p (backwards ns)) ≡ length (filter p ns) →
          length (filter p (backwards ns)) + length (cond b (n ∷ []) []) ≡ length (cond b (n ∷ filter p ns) (filter p ns))
      by true same = omega (arith, same)
      by false same = omega (arith, same)

  pub count_lent : (nodes : List ℕ) (from_end : Bool) → length (filter p nodes) ≡ length (filter p (if from_end then backwards nodes else nodes))
  count_lent nodes true = sym (count_backwards nodes)
  count_lent nodes false = refl

  pub count_both : (xs ys : List ℕ) → length (filter p (xs ++ ys)) ≡ length (filter p xs) + length (filter p ys)
  count_both xs ys = ap length (filter-append p xs ys) ∙ length-append (filter p xs) (filter p ys)

  pub few_pass : (ns : List ℕ) → length (filter p ns) ≤ length ns
  few_pass [] = omega arith
  few_pass (n ∷ ns) = by (p n) (few_pass ns)
    where
      by : (b : Bool) → length (filter p ns) ≤ length ns → length (cond b (n ∷ filter p ns) (filter p ns)) ≤ suc (length ns)
      by true few = omega (arith, few)
      by false few = omega (arith, few)

  pub count_all : (ns : List ℕ) → ((m : ℕ) → mem m ns ≡ true → p m ≡ true) → length (filter p ns) ≡ length ns
  count_all [] all = refl
  count_all (n ∷ ns) all =
      ap (λ b. length (cond b (n ∷ filter p ns) (filter p ns))) (all n (mem-head n ns)) ∙ ap suc (count_all ns (λ m there. all m (mem-tail m n ns there)))

  pub count_one : (n : ℕ) (b : Bool) → p n ≡ b → length (filter p (n ∷ [])) ≡ cond b 1 0
  count_one n true is = ap (λ b. length (cond b (n ∷ []) [])) is
  count_one n false is = ap (λ b. length (cond b (n ∷ []) [])) is

-- after some of which it is known how many pass, one more and then some that all pass
pub count_run : (p : ℕ → Bool) (ns : List ℕ) (k n m : ℕ) (b : Bool) → k < length ns → n ≡ get_or ns k n → p n ≡ b → m ≤ length (drop (k + 1) ns) →
    ((x : ℕ) → mem x (take m (drop (k + 1) ns)) ≡ true → p x ≡ true) →
    length (filter p (take (k + (1 + m)) ns)) ≡ length (filter p (take k ns)) + (cond b 1 0 + m)
count_run p ns k n m b below is passes within all =
    let rest = drop (k + 1) ns in
    let cut : k + (1 + m) ≡ (k + 1) + m = omega arith in
    let parts : take (k + (1 + m)) ns ≡ (take k ns ++ n ∷ []) ++ take m rest =
    ap (λ i. take i ns) cut ∙ take-add (k + 1) m ns ∙ ap (λ l. l ++ take m rest) (take_more ns k n below ∙ ap (λ x. take k ns ++ x ∷ []) (sym is)) in
    let size : length (take m rest) ≡ m = length-take-le m rest within in
    ap (λ l. length (filter p l)) parts
    ∙ omega (arith, count_both p (take k ns ++ n ∷ []) (take m rest), count_both p (take k ns) (n ∷ []), count_one p n b passes, count_all p (take m rest) all, size)

-- elements with an exact name before one of them, as they are counted in a tree
pub counted_kids : (T : Table) (uri local : List ℕ) (p : ℕ) (kids back : List ℕ) (next n count : ℕ) → kids_of T p ≡ kids ++ back → 0 < next → next ≤ length kids →
    get_or (backwards kids) (next - 1) n ≡ n → CountsAlike T n count → is_element_called T uri local n ≡ true →
    count ≡ length (filter (is_element_called T uri local) (drop next (backwards kids)))
counted_kids T uri local p kids back next n count are some within there counts called =
    let i = length kids - next in
    let same : length kids - 1 - (next - 1) ≡ i = omega (arith, some, within) in
    let is : n ≡ get_or kids i n = sym there ∙ (get-backwards kids (next - 1) n (omega (arith, some, within)) ∙ ap (λ j. get_or kids j n) same) in
    let parts : kids ≡ take i kids ++ n ∷ drop (suc i) kids = split_at_item kids i n (omega (arith, some, within)) is in
    let those : kids_of T p ≡ take i kids ++ n ∷ (drop (suc i) kids ++ back) = are ∙ (ap (λ l. l ++ back) parts ∙ append_assoc (take i kids) (n ∷ drop (suc i) kids) back) in
    counts p (take i kids) (drop (suc i) kids ++ back) uri local those called
    ∙ (sym (count_backwards (is_element_called T uri local) (take i kids)) ∙ ap (λ l. length (filter (is_element_called T uri local) l)) (drop_backwards kids next within))

-- the same of what an axis goes over from the last
pub counted_behind_one : (T : Table) (axis : Axis) (node_test : NodeTest) (uri local : List ℕ) (lent : Lent) (next n count : ℕ) → axis ≡ PrecedingSibling → node_test ≡ Named uri local →
    AreFirstKids T lent → EndsPassing (passes T axis node_test) next (lent_nodes lent) → next ≤ length (lent_nodes lent) → get_or (lent_nodes lent) (next - 1) n ≡ n → CountsAlike T n count →
    count ≡ length (filter (passes T axis node_test) (drop next (lent_nodes lent)))
counted_behind_one T axis node_test uri local lent next n count is_axis is_test first ends within there counts =
    let nodes = lent.nodes.now in
    let turned : lent_nodes lent ≡ backwards nodes = ap (λ b. if b then backwards nodes else nodes) first.0 in
    let same : (k : ℕ) → passes T axis node_test k ≡ is_element_called T uri local k = λ k. ap₂ (λ a t. passes T a t k) is_axis is_test in
    let tests : passes T axis node_test ≡ is_element_called T uri local = λ i k. same k i in
    counted_kids T uri local first.1.0 nodes first.1.1.0 next n count first.1.1.1 ends.0 (omega (arith, within, lent_length nodes lent.from_end))
    (ap (λ l. get_or l (next - 1) n) (sym turned) ∙ there) counts (sym (same n) ∙ ends.1 n there)
    ∙ ap₂ (λ f l. length (filter f (drop next l))) (sym tests) (sym turned)

-- what follows from a value that may be missing
pub if_some : {X : Type 0} {P Q : X → Type 0} (o : Option X) → IfSome o P → ((x : X) → P x → Q x) → IfSome o Q
if_some None h f = tt
if_some (Some x) h f = f x h
