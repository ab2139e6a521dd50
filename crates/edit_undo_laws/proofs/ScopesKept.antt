-- The declarations in scope stay along the ways up that stay.
use Rattle.std.proofs.Common.{◌≡◌, ℕ, ◌≤◌, zero, suc, true, List, ◌++◌, length, Option, None, Some, refl, sym, ap, ap₂, ◌∙◌, arith}
use Rattle.doc_table.proofs.DeclareLemmas.{has-scopes}
use Rattle.doc_table.proofs.TreeLaws.{ways-up}
use Rattle.doc_table.specs.Table.{Table, decls_of, is_live, parent_of}
use Rattle.doc_table.specs.Walks.{ancestors}
use Rattle.doc_table.specs.inner.Sound.{Formed}
use Rattle.doc_tree.specs.Laws.{HasWaysUp}
use Rattle.doc_tree.specs.Scope.{Decl, HasScopes, scope_at}

-- a number keeps its parent and declarations
pub record Keeps (T U : Table) (m : ℕ) : Type 0 where
  pub parent : parent_of U m ≡ parent_of T m
  pub decls : decls_of U m ≡ decls_of T m

module _ (T U : Table) (t : Formed T) (u : Formed U) (keeps : (m : ℕ) → is_live T m ≡ true → Keeps T U m) where
  ways : HasWaysUp T
  ways = ways-up T t

  here : HasScopes T
  here = has-scopes T t

  there : HasScopes U
  there = has-scopes U u

  step : (m : ℕ) → is_live T m ≡ true → (o : Option ℕ) → parent_of T m ≡ o →
      ((q : ℕ) → suc (length (ancestors T q)) ≡ length (ancestors T m) → is_live T q ≡ true → scope_at U q ≡ scope_at T q) → scope_at U m ≡ scope_at T m
  step m live None none rec =
      there.at_top m ((keeps m live).parent ∙ none) ∙ ((keeps m live).decls ∙ sym (here.at_top m none))
  step m live (Some q) up rec =
      let above : scope_at U q ≡ scope_at T q = rec q (sym (ap length (ways.ancestors_at m q up))) (ways.parent_live m q up) in
      there.under m q ((keeps m live).parent ∙ up) ∙ (ap₂ (λ (a b : List Decl). a ++ b) (keeps m live).decls above ∙ sym (here.under m q up))

  climb : (k m : ℕ) → length (ancestors T m) ≤ k → is_live T m ≡ true → scope_at U m ≡ scope_at T m
  climb zero m short live = step m live (parent_of T m) refl (λ q s l. absurd (omega (arith, s, short)))
  climb (suc k) m short live = step m live (parent_of T m) refl (λ q s l. climb k q (omega (arith, s, short)) l)

  -- where all keep them that live
  pub scope-kept : (m : ℕ) → is_live T m ≡ true → scope_at U m ≡ scope_at T m
  scope-kept m live = climb (length (ancestors T m)) m (omega arith) live
