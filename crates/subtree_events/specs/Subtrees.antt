-- The events of a node in scope are a fragment, which makes that node again (Namespaces in XML 1.0, section 6).
use Rattle.std.specs.Prelude.{◌≡◌, ℕ, true, false, List, [], ◌∷◌, length, sum_by, None, Some}
use Rattle.pyx_core.specs.declared.event.Event.{Event}
use Rattle.doc_tree.specs.Kinds.{can_be_kid}
use Rattle.doc_tree.specs.Laws.{WellFormed}
use Rattle.doc_tree.specs.Lines.{lines, lines_below}
use Rattle.doc_tree.specs.Scope.{scope_at}
use Rattle.doc_tree.specs.Table.{Table, kind_of, parent_of, value_of}
use Rattle.doc_tree.specs.Walks.{above, below}
use Rattle.name_scopes.specs.Fragments.{IsFragment, ScopedPiece, event_nodes, is_too_deep, names_fault, plain_text, some_tag, tag_doubles, tag_lacks_prefix}
use Rattle.name_scopes.specs.Scoping.{InScope}
use Rattle.subtree_events.specs.Events.{events_below}

-- what holds of the events of a node
pub record IsSubtree (T : Table) (n p : ℕ) (events : List Event) : Type 0 where
  pub fragment : IsFragment events
  pub names : names_fault events ≡ None
  -- its prefixes are in scope at its parent, its attributes have different names, and it is no deeper than it may be
  pub known : some_tag tag_lacks_prefix (scope_at T p ∷ []) events ≡ false
  pub apart : some_tag tag_doubles (scope_at T p ∷ []) events ≡ false
  pub shallow : is_too_deep (length (above T p)) events ≡ false
  pub nodes : sum_by event_nodes events ≡ length (below T n)
  pub text : sum_by plain_text events ≡ sum_by (λ m. length (value_of T m)) (below T n)
  -- a piece of them, where the same declarations are in scope around it, says what the node says
  pub again : (P : Table) → WellFormed P → ScopedPiece (scope_at T p) events P → lines P ≡ lines_below T n

abbrev pub SubtreesAreFragments : Type 0
SubtreesAreFragments = (T : Table) (n p : ℕ) → WellFormed T → InScope T → parent_of T n ≡ Some p → can_be_kid (kind_of T n) ≡ true → IsSubtree T n p (events_below T n)
