-- Numbers of nodes: live ones, new ones, and their places in lists.
use Rattle.std.proofs.Common.{◌≡◌, ◌≢◌, ℕ, zero, suc, slice_get, ◌≤◌, ◌<◌, true, false, eqb, List, [], ◌∷◌, ◌++◌, length, Option, None, Some, is_some, ◌⊎◌, inl, inr, refl, sym, ap, ◌∙◌, true≢false, arith, eq-eqb, eqb-true}
use Rattle.std.proofs.lemmas.Bool.{or_cases}
use Rattle.std.proofs.Math.Bool.{or-true}
use Rattle.std.proofs.lemmas.List.{get_or_past}
use Rattle.std.proofs.lemmas.Option.{slice_get-get_or}
use Rattle.std.proofs.lemmas.Slice.Eq.{bytes_eq-Decides}
use Rattle.std.specs.Str.{bytes_eq}
use Rattle.doc_tree.specs.Numbering.{Numbered}
use Rattle.doc_tree.specs.kind.Kind.{Kind}
use Rattle.doc_tree.specs.Kinds.{holds_kids}
use Rattle.doc_tree.specs.Lists.{mem, last_or}
use Rattle.doc_tree.specs.Table.{Table, Facts, Name, Content, entry_at, content_at, content_of, kind_at, kind_of, is_live, no_name, numbered}

no-node : (T : Table) (n : ℕ) → length T ≤ n → is_live T n ≡ false
no-node T n h = ap (λ (node : Option Facts). is_some node) (get_or_past T n None h)

-- a live number is not the next one
pub is-old : (T : Table) (m n : ℕ) → is_live T m ≡ true → n ≡ length T → m ≢ n
is-old T m n live is e = true≢false (sym live ∙ no-node T m (omega arith))

entry-live : (node : Option Facts) (c : Content) → content_at node ≡ Some c → is_some node ≡ true
entry-live None c h = absurd (cc)
entry-live (Some node) c h = refl

pub content-live : (T : Table) (n : ℕ) (c : Content) → content_of T n ≡ Some c → is_live T n ≡ true
content-live T n c h = entry-live (entry_at T n) c h

kind-entry : (node : Option Facts) (k : Kind) → kind_at (content_at node) ≡ Some k → is_some node ≡ true
kind-entry None k h = absurd (cc)
kind-entry (Some node) k h = refl

pub kind-live : (T : Table) (n : ℕ) (k : Kind) → kind_of T n ≡ Some k → is_live T n ≡ true
kind-live T n k h = kind-entry (entry_at T n) k h

pub mem-first : (n : ℕ) (ms : List ℕ) → mem n (n ∷ ms) ≡ true
mem-first n ms = rw (eq-eqb n n refl) refl

pub mem-second : (n m : ℕ) (ms : List ℕ) → mem n (m ∷ n ∷ ms) ≡ true
mem-second n m ms = rw (eq-eqb n n refl) (or-true (eqb n m))

mem-later : (n m x : ℕ) (ms : List ℕ) → (mem n ms ≡ true) ⊎ (n ≡ m) → (mem n (x ∷ ms) ≡ true) ⊎ (n ≡ m)
mem-later n m x ms (inl h) = inl (rw h (or-true (eqb n x)))
mem-later n m x ms (inr e) = inr e

mem-push-at : (n m x : ℕ) (ms : List ℕ) → (mem n (ms ++ m ∷ []) ≡ true → (mem n ms ≡ true) ⊎ (n ≡ m)) →
    (eqb n x ≡ true) ⊎ (mem n (ms ++ m ∷ []) ≡ true) → (mem n (x ∷ ms) ≡ true) ⊎ (n ≡ m)
mem-push-at n m x ms more (inl e) = inl (rw e refl)
mem-push-at n m x ms more (inr h) = mem-later n m x ms (more h)

mem-one : (n m : ℕ) → (eqb n m ≡ true) ⊎ (false ≡ true) → (mem n [] ≡ true) ⊎ (n ≡ m)
mem-one n m (inl e) = inr (eqb-true n m e)
mem-one n m (inr e) = inl e

-- a number in a list with one more at its end is in the list or is that one
pub mem-push : (n m : ℕ) (ms : List ℕ) → mem n (ms ++ m ∷ []) ≡ true → (mem n ms ≡ true) ⊎ (n ≡ m)
mem-push n m [] h = mem-one n m (or_cases (eqb n m) false h)
mem-push n m (x ∷ ms) h = mem-push-at n m x ms (mem-push n m ms) (or_cases (eqb n x) (mem n (ms ++ m ∷ [])) h)

pub last-push : (d x : ℕ) (xs : List ℕ) → last_or d (xs ++ x ∷ []) ≡ x
last-push d x [] = refl
last-push d x (y ∷ xs) = last-push y x xs

pub mem-behind : (n m : ℕ) (ms : List ℕ) → mem n ms ≡ true → mem n (m ∷ ms) ≡ true
mem-behind n m ms h = rw h (or-true (eqb n m))

-- the name with a number
pub numbered-is : (names : List Name) (id : ℕ) (name : Name) → slice_get names id ≡ Some name → numbered names id ≡ name
numbered-is [] id name h = absurd (cc)
numbered-is (x ∷ names) zero name h = cc
numbered-is (x ∷ names) (suc id) name h = numbered-is names id name h

-- what holds kids is live
pub holder-live : (T : Table) (n : ℕ) → holds_kids (kind_of T n) ≡ true → is_live T n ≡ true
holder-live T n h = by (entry_at T n) h
  where
    by : (o : Option Facts) → holds_kids (kind_at (content_at o)) ≡ true → is_some o ≡ true
    by None e = absurd (true≢false (sym e))
    by (Some node) e = refl

-- a name in three parts
abbrev named : List ℕ → List ℕ → List ℕ → Name
named prefix local uri = record { prefix = prefix; local = local; uri = uri }

-- a name that has its number keeps it
pub numbered_again : (names : List Name) (id : ℕ) (prefix local uri : List ℕ) → id < length names →
    true ≡ bytes_eq (numbered names id).prefix prefix → true ≡ bytes_eq (numbered names id).local local → true ≡ bytes_eq (numbered names id).uri uri →
    Numbered names names (record { prefix = prefix; local = local; uri = uri }) id
numbered_again names id prefix local uri below same_prefix same_local same_uri =
    let had : Name = numbered names id in
    let is_prefix : had.prefix ≡ prefix = (bytes_eq-Decides had.prefix prefix).0 (sym same_prefix) in
    let is_local : had.local ≡ local = (bytes_eq-Decides had.local local).0 (sym same_local) in
    let is_uri : had.uri ≡ uri = (bytes_eq-Decides had.uri uri).0 (sym same_uri) in
    let is : had ≡ named prefix local uri =
    ap (λ p. named p had.local had.uri) is_prefix ∙ (ap (λ l. named prefix l had.uri) is_local ∙ ap (λ u. named prefix local u) is_uri) in
    record { given = slice_get-get_or names id no_name below ∙ ap Some is; added = inl refl }
