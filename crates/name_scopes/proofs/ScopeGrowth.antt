-- Nodes in scope, as the tree grows.
use Rattle.std.proofs.Common.{◌≡◌, ◌≢◌, ℕ, Bool, true, false, List, [], ◌∷◌, ◌++◌, Option, None, Some, is_some, refl, sym, ap, ap₂, ◌∙◌, subst, ⊎_elim, true≢false}
use Rattle.std.proofs.lemmas.Bool.{cases_eq}
use Rattle.std.specs.List.{flat_map}
use Rattle.doc_tree.specs.Lists.{mem}
use Rattle.doc_tree.specs.Table.{Table, Facts, Content, entry_at, content_at, decls_at, decls_in, decls_of, content_of, is_live}
use Rattle.doc_tree.specs.Walks.{above}
use Rattle.doc_tree.specs.Growth.{Grew}
use Rattle.doc_tree.specs.Scope.{Decl, scope_at, HasScopes}
use Rattle.doc_tree.specs.Declaring.{Declared}
use Rattle.name_scopes.specs.Fragments.{PieceInScope}
use Rattle.name_scopes.specs.Scoping.{ContentInScope}
use Rattle.name_scopes.specs.inner.Build.{NodeAround}
use Rattle.name_scopes.proofs.NumberLemmas.{is-old, mem-first, mem-behind}

flat_map-same : {A : Type 0} (f g : ℕ → List A) (xs : List ℕ) → ((n : ℕ) → mem n xs ≡ true → f n ≡ g n) → flat_map f xs ≡ flat_map g xs
flat_map-same f g [] same = refl
flat_map-same f g (x ∷ xs) same = ap₂ (λ l r. l ++ r) (same x (mem-first x xs)) (flat_map-same f g xs (λ n h. same n (mem-behind n x xs h)))

dead-content : (T : Table) (m : ℕ) → is_live T m ≡ false → content_of T m ≡ None
dead-content T m h = by (entry_at T m) h
  where
    by : (o : Option Facts) → is_some o ≡ false → content_at o ≡ None
    by None e = refl
    by (Some node) e = absurd (true≢false e)

module _ (T U : Table) (p n : ℕ) (c : Content) (grew : Grew T U p n c) (laws : HasScopes T) where
  above-same : (m : ℕ) → is_live T m ≡ true → flat_map (decls_of U) (above T m) ≡ scope_at T m
  above-same m live =
      flat_map-same (decls_of U) (decls_of T) (above T m)
      (λ k h. ap decls_at (grew.same_content k (is-old T k n (laws.way_live m k live h) grew.number)))

  pub scope-kept : (m : ℕ) → is_live T m ≡ true → scope_at U m ≡ scope_at T m
  scope-kept m live = ap (flat_map (decls_of U)) (grew.same_ways_up m live) ∙ above-same m live

  pub scope-new : is_live T p ≡ true → scope_at U n ≡ decls_in c ++ scope_at T p
  scope-new live = ap (flat_map (decls_of U)) grew.way_up ∙ ap₂ (λ (l r : List Decl). l ++ r) (ap decls_at grew.content) (above-same p live)

  -- the others stay in scope
  pub others-scoped : (around : List Decl) (m : ℕ) → m ≢ n → NodeAround around T m → NodeAround around U m
  others-scoped around m ne h = by (is_live T m) refl
    where
      by : (b : Bool) → is_live T m ≡ b → NodeAround around U m
      by true live = subst (λ (o : Option Content). ContentInScope (scope_at U m ++ around) o) (sym (grew.same_content m ne)) (subst (λ (s : List Decl). ContentInScope (s ++ around) (content_of T m)) (sym (scope-kept m live)) h)
      by false dead = subst (λ (o : Option Content). ContentInScope (scope_at U m ++ around) o) (sym (grew.same_content m ne ∙ dead-content T m dead)) tt

  -- and so does all, where the new node is in scope
  pub grown-scoped : (around : List Decl) → is_live T p ≡ true → PieceInScope around T → ContentInScope ((decls_in c ++ scope_at T p) ++ around) (Some c) → PieceInScope around U
  grown-scoped around live all here m = ⊎_elim
      (λ (e : m ≡ n). subst (NodeAround around U) (sym e) (subst (λ (o : Option Content). ContentInScope (scope_at U n ++ around) o) (sym grew.content) (subst (λ (s : List Decl). ContentInScope (s ++ around) (Some c)) (sym (scope-new live)) here)))
      (λ (ne : m ≢ n). others-scoped around m ne (all m))
      (cases_eq m n)

-- a declaration at an element that holds nothing leaves the others in scope
pub declared-scoped : (T U : Table) (n : ℕ) (d : Decl) → Declared T U n d → ((m : ℕ) → m ≢ n → scope_at U m ≡ scope_at T m) → (around : List Decl) (m : ℕ) → m ≢ n → NodeAround around T m → NodeAround around U m
declared-scoped T U n d more same around m ne h =
    subst (λ (o : Option Content). ContentInScope (scope_at U m ++ around) o) (sym (more.same_content m ne)) (subst (λ (s : List Decl). ContentInScope (s ++ around) (content_of T m)) (sym (same m ne)) h)
