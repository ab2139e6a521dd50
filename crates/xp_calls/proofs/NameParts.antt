-- A part of the name of a node, which was read.
use Rattle.std.proofs.Common.{◌≡◌, ℕ, Option, Result, Ok, refl, subst}
use Rattle.doc_tree.specs.Table.{Name, Table}
use Rattle.xp_outcome.specs.Recorded.{Recorded, note_all}
use Rattle.xp_outcome.specs.Running.{Ran}
use Rattle.xp_outcome.proofs.Runs.{ran_all_reading, ran_moved}
use Rattle.xp_values.specs.Outcomes.{Gives}
use Rattle.xp_values.specs.declared.values.EvalError.{EvalError}
use Rattle.xp_values.specs.declared.values.Value.{Value}
use Rattle.xp_meaning.proofs.Exits.{ran_given}
use Rattle.xp_meaning.specs.Names.{name_at, of_name}
use Rattle.xp_meaning.specs.Reads.{name_read}
use Rattle.xp_meaning.specs.Results.{shown}

module _ (T : Table) (part : Option Name → Value) (held now : Recorded) (count : ℕ) where
  -- the name was read, and its part is the answer
  pub name_told : (m n : Option ℕ) (r : Result Value EvalError) → n ≡ m → now ≡ note_all held (name_read T n) → Gives r (Ok (part (name_at T n))) →
      Ran (of_name T m part) (shown r) held now count count
  name_told m n r same read gives =
      subst (λ k. Ran (of_name T k part) (shown r) held now count count) same
      (ran_all_reading (name_read T n) (ran_moved refl read refl refl (ran_given r (Ok (part (name_at T n))) (note_all held (name_read T n)) count gives)))
