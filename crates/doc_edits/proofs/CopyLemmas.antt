-- Copies of the nodes of a piece: the numbers that they get, and a list of them that grows.
use Rattle.std.proofs.Common.{◌≡◌, ◌≢◌, ℕ, ◌+◌, ◌<◌, ◌≤◌, zero, suc, List, [], ◌∷◌, ◌++◌, length, map, take, drop, get_or, set, Option, None, Some, sym, ap, ap₂, ◌∙◌, subst, ⊎_elim, arith, append-nil, append_assoc, length-append, get_or-set_same, get_or-set_other}
use Rattle.std.proofs.lemmas.List.{map-append, at_drop_more, take_more, get_or_append_left}
use Rattle.doc_table.specs.Table.{Name, numbered, no_name}
use Rattle.doc_table.specs.declared.node.Node.{Node}
use Rattle.doc_table.specs.Lists.{place_in}
use Rattle.doc_table.specs.inner.Kept.{NamesAreBelow, depth_at, rank_at}
use Rattle.doc_table.specs.inner.Views.{node_seen}
use Rattle.doc_table.proofs.ListLemmas.{eq_or}
use Rattle.doc_table.proofs.SoundLemmas.{names-more, table-kept}
use Rattle.doc_edits.specs.declared.copying.Placement.{Placement}
use Rattle.doc_edits.specs.Changes.{given}
use Rattle.doc_edits.specs.Keeping.{NamesGrow}
use Rattle.doc_edits.specs.inner.Copies.{AreCopies, IsCopy, NameIsKnown, number_in, depth_copied, rank_copied, rank_given}
use Rattle.doc_edits.proofs.NumberingLemmas.{place-head, place-tail}

-- a number is written at that of the node at a place; those behind it are written already
pub number-written : (numbers nodes : List ℕ) (j i first past x y : ℕ) → j ≡ i + 1 → i < length nodes → x ≡ get_or nodes i x → x < length numbers → y ≡ first + i →
    ((m : ℕ) → get_or numbers m past ≡ (first + j) + place_in m (drop j nodes)) → (m : ℕ) → get_or (set numbers x y) m past ≡ (first + i) + place_in m (drop i nodes)
number-written numbers nodes j i first past x y next here is room value behind m =
    let split : place_in m (drop i nodes) ≡ place_in m (x ∷ drop (i + 1) nodes) =
    at_drop_more (place_in m) nodes i x here ∙ ap (λ k. place_in m (k ∷ drop (i + 1) nodes)) (sym is) in
    ⊎_elim
    (λ (e : m ≡ x).
    ap (λ k. get_or (set numbers x y) k past) e
    ∙ (get_or-set_same numbers x y past room ∙ omega (arith, value, split, place-head m x (drop (i + 1) nodes) e)))
    (λ (ne : m ≢ x).
    get_or-set_other numbers x m y past ne
    ∙ (behind m ∙ omega (arith, next, split, place-tail m x (drop (i + 1) nodes) ne, ap (λ k. place_in m (drop k nodes)) next)))
    (eq_or m x)

-- names that grow
pub grows-same : (before after : List Name) → after ≡ before → NamesGrow before after
grows-same before after e = let more : List Name = [] in (more, e ∙ sym (append-nil before))

pub grows-then : (a b c : List Name) → NamesGrow a b → NamesGrow b c → NamesGrow a c
grows-then a b c f g = (f.0 ++ g.0, g.1 ∙ (ap (λ l. l ++ g.0) f.1 ∙ append_assoc a f.0 g.0))

pub grows-numbered : (before after : List Name) → NamesGrow before after → (id : ℕ) → id < length before → numbered after id ≡ numbered before id
grows-numbered before after g id h = ap (λ names. numbered names id) g.1 ∙ get_or_append_left before g.0 no_name id h

pub grows-longer : (before after : List Name) → NamesGrow before after → length before ≤ length after
grows-longer before after g = omega (arith, ap length g.1, length-append before g.0)

pub names-both : (count : ℕ) (nodes more : List (Option Node)) → NamesAreBelow count nodes → NamesAreBelow count more → NamesAreBelow count (nodes ++ more)
names-both count [] more h k = k
names-both count (None ∷ nodes) more h k = names-both count nodes more h k
names-both count (Some node ∷ nodes) more h k = (h.0, names-both count nodes more h.1 k)

pub name-one : (count : ℕ) (copy : Option Node) → NameIsKnown count copy → NamesAreBelow count (copy ∷ [])
name-one count None h = tt
name-one count (Some node) h = (h, tt)

-- the names of nodes, of which one changes
names-first : (count : ℕ) (o : Option Node) (nodes : List (Option Node)) → NamesAreBelow count (o ∷ nodes) → NameIsKnown count o × NamesAreBelow count nodes
names-first count None nodes h = (tt, h)
names-first count (Some node) nodes h = h

module _ (count : ℕ) (change : Option Node → Option Node) (stays : (o : Option Node) → NameIsKnown count o → NameIsKnown count (change o)) where
  pub names-changed : (nodes : List (Option Node)) (p : ℕ) → NamesAreBelow count nodes → NamesAreBelow count (set nodes p (change (get_or nodes p None)))
  names-changed [] p h = tt
  names-changed (o ∷ nodes) zero h =
      let k = names-first count o nodes h in names-both count (change o ∷ []) nodes (name-one count (change o) (stays o k.0)) k.1
  names-changed (o ∷ nodes) (suc p) h =
      let k = names-first count o nodes h in names-both count (o ∷ []) (set nodes p (change (get_or nodes p None))) (name-one count o k.0) (names-changed nodes p k.1)

-- one value more at the end of a list got by numbers
push : {A B : Type 0} (f : A → B) (g : ℕ → B) (xs : List A) (ms : List ℕ) (x : A) (m : ℕ) → map f xs ≡ map g ms → f x ≡ g m → map f (xs ++ x ∷ []) ≡ map g (ms ++ m ∷ [])
push f g xs ms x m h e = map-append f xs (x ∷ []) ∙ (ap₂ (λ l b. l ++ b ∷ []) h e ∙ sym (map-append g ms (m ∷ [])))

module _ (before after from : List Name) (places : Placement) (nodes : List (Option Node)) where
  -- one copy more
  copies-push : (ms : List ℕ) (m : ℕ) (copies : List (Option Node)) (copy : Option Node) → NamesGrow before after → AreCopies before from places nodes ms copies
      → IsCopy after from places (rank_given places m) (get_or nodes m None) copy → AreCopies after from places nodes (ms ++ m ∷ []) (copies ++ copy ∷ [])
  copies-push ms m copies copy grow are is = record {
    seen = push (node_seen after) (λ k. given (number_in places) places.parent (node_seen from (get_or nodes k None))) copies ms copy m
        (table-kept before after copies (grows-numbered before after grow) are.known ∙ are.seen) is.seen;
    known = names-both (length after) copies (copy ∷ []) (names-more (length before) (length after) copies (grows-longer before after grow) are.known) (name-one (length after) copy is.known);
    depths = push depth_at (λ k. depth_copied places (get_or nodes k None)) copies ms copy m are.depths is.depth;
    ranks = push rank_at (λ k. rank_copied (rank_given places k) (get_or nodes k None)) copies ms copy m are.ranks is.rank;
  }

  pub copies-more : (list : List ℕ) (i m : ℕ) (copies : List (Option Node)) (copy : Option Node) → i < length list → m ≡ get_or list i m → NamesGrow before after
      → AreCopies before from places nodes (take i list) copies → IsCopy after from places (rank_given places m) (get_or nodes m None) copy → AreCopies after from places nodes (take (i + 1) list) (copies ++ copy ∷ [])
  copies-more list i m copies copy h e grow are is =
      subst (λ ms. AreCopies after from places nodes ms (copies ++ copy ∷ [])) (ap (λ k. take i list ++ k ∷ []) e ∙ sym (take_more list i m h))
      (copies-push (take i list) m copies copy grow are is)
