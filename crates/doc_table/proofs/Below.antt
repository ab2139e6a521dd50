-- What is told along document order, from a node downwards: for each caller that goes down a tree.
use Rattle.std.proofs.Common.{◌≡◌, ℕ, List, ◌++◌, ap, ◌∙◌}
use Rattle.std.specs.List.{flat_map}
use Rattle.std.proofs.lemmas.Grind.{flat_map-append}
use Rattle.sch_base.proofs.Lists.{flat_map-flat}
use Rattle.doc_table.specs.Table.{Table, kids_of, attrs_of}
use Rattle.doc_table.specs.Walks.{below}
use Rattle.doc_table.specs.Laws.{Ordered}

-- of a node, of its attributes, and of its kids in turn with all below them
pub told_below : {A : Type 0} (f : ℕ → List A) (T : Table) → Ordered T → (n : ℕ) →
    flat_map f (below T n) ≡ f n ++ (flat_map f (attrs_of T n) ++ flat_map (λ k. flat_map f (below T k)) (kids_of T n))
told_below f T ord n =
    ap (flat_map f) (ord.below_at n)
    ∙ ap (λ l. f n ++ l)
    (flat_map-append f (attrs_of T n) (flat_map (below T) (kids_of T n))
    ∙ ap (λ l. flat_map f (attrs_of T n) ++ l) (flat_map-flat f (below T) (kids_of T n)))
