-- What a unit read is of live nodes, where the nodes of the lets live that it read: the other lets may be left out.
use Rattle.std.proofs.Common.{◌≡◌, ◌∙◌, ℕ, zero, suc, ◌+◌, ◌≤◌, Bool, true, false, cond, List, [], ◌∷◌, length, Option, None, Some, Result, Ok, refl, sym, ap, subst, arith}
use Rattle.std.specs.Prelude.{slice_get}
use Rattle.std.specs.FinSet.{contains, items}
use Rattle.std.specs.List.{list_any, AllByRecursion as Each}
use Rattle.std.proofs.lemmas.Bool.{or_from}
use Rattle.doc_tree.specs.cell.Cell.{Cell}
use Rattle.doc_tree.specs.Table.{Table, is_live}
use Rattle.xp_outcome.specs.Evaluation.{cell, names_along}
use Rattle.xp_outcome.specs.Recorded.{LetSet, Recorded}
use Rattle.xp_outcome.specs.declared.names_along.NamesAlong.{NamesAlong}
use Rattle.xp_outcome.specs.Slots.{in_slot}
use Rattle.xp_values.specs.declared.values.EvalFault.{EvalFault}
use Rattle.xp_values.specs.declared.values.Value.{Value}
use Rattle.xp_meaning.specs.Conversions.{nodes_of}
use Rattle.xp_meaning.specs.Evaluation.{Lets}
use Rattle.xp_meaning_laws.specs.KnownReads.{IsLiveRead, LetsAreLive}
use Rattle.xp_locality_laws.specs.Locality.{Changed}
use Rattle.sch_compiled.specs.declared.parts.LetInForce.{LetInForce}
use Rattle.sch_compiled.specs.declared.plan.Plan.{Plan}
use Rattle.edit_costs.specs.Locality.{GivenLetsAreLocal}
use Rattle.edit_costs.specs.Units.{ValidationUnit, in_force, under, let_reads}
use Rattle.cover_laws.specs.Covering.{IsOfLive, holds_touched, names_at}
use Rattle.kept_state.specs.Kept.{IsTyped, IsUnit, LetsLive, noted, reads_under}
use Rattle.unit_live_laws.specs.LiveReads.{UnitsReadLiveCells}
use Rattle.kept_state.proofs.ReadLemmas.{each_of_list}
use Rattle.kept_state.proofs.UnitLemmas.{let_kept, same_reads, unit_same}

-- nothing was touched
abbrev pub nothing : Cell → Bool
nothing c = false

nothing_any : (xs : List Cell) → list_any nothing xs ≡ false
nothing_any [] = refl
nothing_any (x ∷ xs) = nothing_any xs

no_name_touched : (T : Table) (rest : List NamesAlong) → list_any (λ a. list_any nothing (names_at T a)) rest ≡ false
no_name_touched T [] = refl
no_name_touched T (a ∷ rest) =
    or_from (list_any nothing (names_at T a)) (list_any (λ x. list_any nothing (names_at T x)) rest) (nothing_any (names_at T a))
    (no_name_touched T rest)

pub nothing_touched : (T : Table) (held : Recorded) → holds_touched T nothing held ≡ false
nothing_touched T held =
    or_from (list_any nothing (items held.cells)) (list_any (λ a. list_any nothing (names_at T a)) (items held.names))
    (nothing_any (items held.cells)) (no_name_touched T (items held.names))

-- the outcomes of lets without those that fail a test, from a slot on
masked : (ℕ → Bool) → ℕ → Lets → Lets
masked p from [] = []
masked p from (x ∷ xs) = cond (p from) x None ∷ masked p (suc from) xs

masked-length : (p : ℕ → Bool) (from : ℕ) (L : Lets) → length (masked p from L) ≡ length L
unfolding masked
masked-length p from [] = refl
masked-length p from (x ∷ xs) = ap suc (masked-length p (suc from) xs)

cond-same : {A : Type 0} (b : Bool) (x : A) → x ≡ cond b x x
cond-same true x = refl
cond-same false x = refl

masked-slot : (p : ℕ → Bool) (from slot : ℕ) (L : Lets) → in_slot (masked p from L) slot ≡ cond (p (from + slot)) (in_slot L slot) None
unfolding masked
masked-slot p from slot [] = cond-same {A = Option (Result Value EvalFault)} (p (from + slot)) None
masked-slot p from zero (x ∷ xs) = let e : from ≡ from + 0 = omega arith in ap (λ (k : ℕ). cond (p k) x None) e
masked-slot p from (suc slot) (x ∷ xs) =
    let e : suc from + slot ≡ from + suc slot = omega arith in
    masked-slot p (suc from) slot xs ∙ ap (λ (k : ℕ). cond (p k) (in_slot xs slot) None) e

module _ (L : Lets) (lets : LetSet) where
  among : Lets
  among = masked (contains lets) 0 L

  among-length : length among ≡ length L
  unfolding among
  among-length = masked-length (contains lets) 0 L

  among-slot : (slot : ℕ) → in_slot among slot ≡ cond (contains lets slot) (in_slot L slot) None
  unfolding among
  among-slot slot = let e : 0 + slot ≡ slot = omega arith in masked-slot (contains lets) 0 slot L ∙ ap (λ (k : ℕ). cond (contains lets k) (in_slot L slot) None) e

  among-same : (slot : ℕ) → contains lets slot ≡ true → in_slot L slot ≡ in_slot among slot
  among-same slot there = sym (among-slot slot ∙ ap (λ b. cond b (in_slot L slot) None) there)

  -- the nodes of all those that are left live
  among-live : (T : Table) → LetsLive T L lets → LetsAreLive T among
  among-live T live slot v is = by (contains lets slot) refl (sym (among-slot slot) ∙ is)
    where
      by : (b : Bool) → contains lets slot ≡ b → cond b (in_slot L slot) None ≡ Some (Ok v) → Each (λ n. is_live T n ≡ true) (nodes_of v)
      by true there is = live slot there v is
      by false out is = absurd (cc)

module _ (local : GivenLetsAreLocal) (cells : UnitsReadLiveCells) (plan : Plan) (T : Table) (changed : Changed T T nothing) where
  let_cells : (M : Lets) → LetsAreLive T M → (o : Option LetInForce) → Each (IsLiveRead T) (let_reads T M o)
  let_cells M live None = tt
  let_cells M live (Some t) = cells.lets T M t.expr changed.before.ordered changed.before.ways_up live

  unit_cells : (M : Lets) → LetsAreLive T M → (unit : ValidationUnit) → IsUnit plan T unit → Each (IsLiveRead T) (reads_under plan T M unit)
  unit_cells M live (in_force slot) is = let_cells M live (slice_get plan.lets slot)
  unit_cells M live (under p n) is = cells.pairs plan T M p n changed.before.ordered changed.before.ways_up live is.1

  pub read_live : (L : Lets) (unit : ValidationUnit) → length L ≤ length plan.lets → IsUnit plan T unit → IsTyped plan unit →
      LetsLive T L (noted (reads_under plan T L unit)).lets → IsOfLive T (noted (reads_under plan T L unit))
  read_live L unit few is typed live = record {
    cells = λ c there. each_of_list (IsLiveRead T) (reads_under plan T L unit) each (cell c) there;
    names = λ a there. each_of_list (IsLiveRead T) (reads_under plan T L unit) each (names_along a.axis a.node) there;
  }
    where
      reads : reads_under plan T (among L (noted (reads_under plan T L unit)).lets) unit ≡ reads_under plan T L unit
      reads = same_reads plan T T L (among L (noted (reads_under plan T L unit)).lets) unit
          (unit_same local plan T T nothing changed L (among L (noted (reads_under plan T L unit)).lets) unit few
          (let e = among-length L (noted (reads_under plan T L unit)).lets in omega (arith, e, few)) is is typed
          (nothing_touched T (noted (reads_under plan T L unit)))
          (λ slot held. let_kept T T nothing L (among L (noted (reads_under plan T L unit)).lets) slot
          (among-same L (noted (reads_under plan T L unit)).lets slot held) (live slot held) (live slot held)))

      each : Each (IsLiveRead T) (reads_under plan T L unit)
      each = subst (Each (IsLiveRead T)) reads
          (unit_cells (among L (noted (reads_under plan T L unit)).lets) (among-live L (noted (reads_under plan T L unit)).lets T live) unit is)
