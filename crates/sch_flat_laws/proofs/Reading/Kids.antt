-- Kids that tell what items say, one after another.
use Rattle.std.proofs.Common.{◌≡◌, ℕ, Bool, true, List, [], ◌∷◌, ◌++◌, refl, sym, ap, ◌∙◌, append_assoc}
use Rattle.std.specs.List.{flat_map, list_all}
use Rattle.std.proofs.lemmas.Bool.{and_parts}
use Rattle.doc_tree.specs.Lines.{Line}
use Rattle.doc_tree.specs.Table.{Table}
use Rattle.pyx_core.specs.declared.event.Event.{Event}
use Rattle.sch_flat_laws.proofs.Reading.Blocks.{Block, Inner, inner_append, inner_nil, no_block, split_blocks}
use Rattle.sch_flat_laws.proofs.Reading.EventBlocks.{Chunk, said, said_append}
use Rattle.sch_flat_laws.proofs.Reading.TreeBlocks.{told}

-- each of the nodes tells the lines of one item
abbrev pub Items : Table → List ℕ → Type 0
Items T [] = Unit {0}
Items T (k ∷ ks) = Block (told T k) × Items T ks

-- the nodes tell what these items say, in pairs
abbrev pub Pairs : {A : Type 0} → Table → (A → List Event) → List ℕ → List A → Type 0
Pairs T f [] [] = Unit {0}
Pairs T f [] (x ∷ xs) = ⊥
Pairs T f (k ∷ ks) [] = ⊥
Pairs T f (k ∷ ks) (x ∷ xs) = (told T k ≡ said (f x)) × Pairs T f ks xs

-- the nodes that tell what the items say, and those after them
pub record Taken {A : Type 0} (T : Table) (f : A → List Event) (xs : List A) (ks : List ℕ) (rest : List Line) : Type 0 where
  pub front : List ℕ
  pub back : List ℕ
  pub parts : ks ≡ front ++ back
  pub pairs : Pairs T f front xs
  pub left : flat_map (told T) back ≡ rest
  pub items : Items T back

pub items_inner : (T : Table) (ks : List ℕ) → Items T ks → Inner (flat_map (told T) ks)
items_inner T [] items = inner_nil
items_inner T (k ∷ ks) items = inner_append (told T k) (flat_map (told T) ks) items.0.inner (items_inner T ks items.1)

no-lines : (lines more : List Line) → Block lines → [] ≡ lines ++ more → ⊥
no-lines [] more block h = no_block block
no-lines (line ∷ lines) more block h = absurd (cc)

pub none_left : (T : Table) (ks : List ℕ) → Items T ks → flat_map (told T) ks ≡ [] → ks ≡ []
none_left T [] items h = refl
none_left T (k ∷ ks) items h = absurd (no-lines (told T k) (flat_map (told T) ks) items.0 (sym h))

-- those that tell what the items say, where each of these is one
pub take_if : {A : Type 0} (T : Table) (f : A → List Event) (ok : A → Bool) → ((x : A) → ok x ≡ true → Chunk (f x)) → (ks : List ℕ) → Items T ks →
    (xs : List A) → list_all ok xs ≡ true → (rest : List Line) → flat_map (told T) ks ≡ said (flat_map f xs) ++ rest → Taken T f xs ks rest
take_if T f ok chunk ks items [] good rest h = record { front = []; back = ks; parts = refl; pairs = tt; left = h; items = items }
take_if T f ok chunk [] items (x ∷ xs) good rest h =
    absurd (no-lines (said (f x)) (said (flat_map f xs) ++ rest) (chunk x (and_parts (ok x) (list_all ok xs) good).0).block
    (h ∙ ap (λ l. l ++ rest) (said_append (f x) (flat_map f xs)) ∙ append_assoc (said (f x)) (said (flat_map f xs)) rest))
take_if T f ok chunk (k ∷ ks) items (x ∷ xs) good rest h =
    let goods = and_parts (ok x) (list_all ok xs) good in
    let same : told T k ++ flat_map (told T) ks ≡ said (f x) ++ (said (flat_map f xs) ++ rest) =
    h ∙ ap (λ l. l ++ rest) (said_append (f x) (flat_map f xs)) ∙ append_assoc (said (f x)) (said (flat_map f xs)) rest in
    let split = split_blocks (told T k) (said (f x)) (flat_map (told T) ks) (said (flat_map f xs) ++ rest) items.0 (chunk x goods.0).block same in
    let taken = take_if T f ok chunk ks items.1 xs goods.1 rest split.1 in
    record {
      front = k ∷ taken.front;
      back = taken.back;
      parts = ap (λ l. k ∷ l) taken.parts;
      pairs = (split.0, taken.pairs);
      left = taken.left;
      items = taken.items;
    }

all-true : {A : Type 0} (xs : List A) → list_all (λ (x : A). true) xs ≡ true
all-true [] = refl
all-true (x ∷ xs) = all-true xs

pub take_pairs : {A : Type 0} (T : Table) (f : A → List Event) → ((x : A) → Chunk (f x)) → (ks : List ℕ) → Items T ks → (xs : List A) (rest : List Line) →
    flat_map (told T) ks ≡ said (flat_map f xs) ++ rest → Taken T f xs ks rest
take_pairs T f chunk ks items xs rest h = take_if T f (λ x. true) (λ x yes. chunk x) ks items xs (all-true xs) rest h
