-- What a session keeps: its plan is sound with well typed rules, its tree is a document with the pair cap of the plan and no more live
-- nodes, and what is kept of its units is the state.
use Rattle.std.specs.Prelude.{◌≡◌, ℕ, ◌<◌, ◌≤◌, true, length}
use Rattle.doc_tree.specs.Kinds.{is_document}
use Rattle.doc_tree.specs.Walks.{order}
use Rattle.sch_compiled.specs.Soundness.{IsSound}
use Rattle.kept_units.specs.Locality.{RulesTyped}
use Rattle.kept_units.specs.Kept.{Keeps}
use Rattle.kept_units.specs.Keeping.{IsHeld, held_by, seen_in}
use Rattle.edit_session.specs.declared.session.Session.TheInside.{Inside}
use Rattle.edit_session.specs.Pairs.{pair_cap_for}
use Rattle.edit_session.specs.Standing.{Standing}

abbrev pub standing : Inside → Standing
standing session = record { plan = session.plan; tree = session.tree; kept = held_by session.kept }

pub record Stands (session : Inside) : Type 0 where
  pub sound : IsSound session.plan
  pub typed : (p : ℕ) → p < length session.plan.patterns → RulesTyped session.plan p
  pub document : is_document session.tree.nodes ≡ true
  pub cap : session.tree.pair_cap ≡ pair_cap_for session.plan
  pub within : length (order session.tree.nodes) ≤ session.tree.pair_cap
  pub held : IsHeld session.plan session.tree.nodes session.kept
  pub keeps : Keeps session.plan session.tree.nodes (seen_in session.kept)
