-- Kids checked in turn.
use Rattle.std.proofs.Common.{◌≡◌, ℕ, suc, ◌+◌, ◌<◌, ◌≤◌, true, List, [], ◌∷◌, ◌++◌, length, take, drop, slice_index_or, Ok, Err, sym, ap, ◌∙◌, subst, arith, add-one, append-nil, append_assoc}
use Rattle.std.specs.List.{flat_map}
use Rattle.std.proofs.Math.ListN.{take-append-drop}
use Rattle.std.proofs.Math.Seq.{drop-cons, take-length, take-suc}
use Rattle.std.proofs.lemmas.Grind.{flat_map-append}
use Rattle.sch_base.proofs.Lists.{flat_map-next, flat_map-cut}
use Rattle.doc_tree.specs.Table.{Table}
use Rattle.doc_tree.specs.Walks.{below}
use Rattle.sch_model.specs.declared.fault.SchemaError.{SchemaError}
use Rattle.sch_rules.specs.Keys.{Key}
use Rattle.sch_read.proofs.ToldLemmas.{Checked, checked-stop, checked-then}

pub kid-next : (T : Table) (a b c : List Key) (kids : List ℕ) (i kid : ℕ) → kid ≡ slice_index_or kids i kid → i < length kids →
    Checked T a b (flat_map (below T) (take i kids)) (Ok tt) → Checked T b c (below T kid) (Ok tt) → Checked T a c (flat_map (below T) (take (i + 1) kids)) (Ok tt)
kid-next T a b c kids i kid is less before here =
    subst (λ ns. Checked T a c ns (Ok tt)) (sym (flat_map-next (below T) kids i kid is less))
    (checked-then T a b c (flat_map (below T) (take i kids)) (below T kid) (Ok tt) before here)

pub kid-stop : (T : Table) (a b c : List Key) (kids : List ℕ) (i kid : ℕ) (e : SchemaError) → kid ≡ slice_index_or kids i kid → i < length kids →
    Checked T a b (flat_map (below T) (take i kids)) (Ok tt) → Checked T b c (below T kid) (Err e) → Checked T a c (flat_map (below T) kids) (Err e)
kid-stop T a b c kids i kid e is less before here =
    subst (λ ns. Checked T a c ns (Err e)) (sym (flat_map-cut (below T) kids i kid is less))
    (checked-stop T a c c (flat_map (below T) (take i kids) ++ below T kid) (flat_map (below T) (drop (suc i) kids)) e
    (checked-then T a b c (flat_map (below T) (take i kids)) (below T kid) (Err e) before here))
