-- A file that is read as watched expressions, or refused.
use Rattle.std.proofs.Common.{◌∙◌, ◌≡◌, ℕ, List, [], Option, None, Some, Result, Ok, Err, refl, ap, sym, subst}
use Rattle.xp_typed_tree.specs.TypedTree.{TypedTree}
use Rattle.watch_lines.specs.Watches.{WatchesAre}
use Rattle.watch_lines.specs.declared.fault.WatchFault.{WatchFault}
use Rattle.sch_stops.specs.declared.refusal.SchemaRefusal.TheVariants.{Watches}
use Rattle.sch_stops.specs.declared.watches.WatchesRefusal.{WatchesRefusal}
use Rattle.sch_stops.specs.declared.watches.WatchesRefusal.TheVariants.{TooLarge, Faulted}
use Rattle.sch_stops.specs.declared.stop.Stop.{Stop}
use Rattle.sch_stops.specs.declared.stop.Stop.TheVariants.{SchemaRefused}
use Rattle.sch_loading.specs.Loading.{Expressing}
use Rattle.sch_loading.specs.Reads.{EndsAs, extent_of_stop, extent_of_watches}
use Rattle.sch_loading.specs.inner.Refusing.{AllowsAll, IsInner, IsInside}

-- one that has too many bytes is refused
pub watches_too_large : (found : Option (List ℕ)) (stop : Stop) → ((bytes : List ℕ) → found ≡ Some bytes → ⊥) → stop ≡ SchemaRefused (Watches TooLarge) →
    EndsAs (Expressing found []) (λ (exprs : List TypedTree). exprs) (Err stop)
watches_too_large None stop none is = subst (λ (s : Stop). EndsAs (Expressing None []) (λ (exprs : List TypedTree). exprs) (Err s)) (sym is) (refl, refl)
watches_too_large (Some bytes) stop none is = absurd (none bytes refl)

-- the bytes are watched expressions
pub watches_loaded : (found : Option (List ℕ)) (bytes slice : List ℕ) (list : List TypedTree) → found ≡ Some bytes → slice ≡ bytes → WatchesAre slice (Ok list) →
    EndsAs (Expressing found []) (λ (exprs : List TypedTree). exprs) (Ok list)
watches_loaded found bytes slice list is same are =
    subst (λ (f : Option (List ℕ)). EndsAs (Expressing f []) (λ (exprs : List TypedTree). exprs) (Ok list)) (sym (is ∙ ap (λ (b : List ℕ). Some b) (sym same)))
    (refl, Ok list, are, refl)

-- or have a fault
pub watches_faulted : (found : Option (List ℕ)) (bytes slice : List ℕ) (fault : WatchFault) (stop : Stop) → found ≡ Some bytes → slice ≡ bytes → WatchesAre slice (Err fault) →
    stop ≡ SchemaRefused (Watches (Faulted fault)) → EndsAs (Expressing found []) (λ (exprs : List TypedTree). exprs) (Err stop)
watches_faulted found bytes slice fault stop is same are refused =
    subst (λ (s : Stop). EndsAs (Expressing found []) (λ (exprs : List TypedTree). exprs) (Err s)) (sym refused)
    (subst (λ (f : Option (List ℕ)). EndsAs (Expressing f []) (λ (exprs : List TypedTree). exprs) (Err (SchemaRefused (Watches (Faulted fault)))))
    (sym (is ∙ ap (λ (b : List ℕ). Some b) (sym same))) (refl, Err fault, are, refl))

-- neither is of the outside
pub watches_inside : (stop : Stop) (refusal : WatchesRefusal) → stop ≡ SchemaRefused (Watches refusal) → IsInside stop
watches_inside stop refusal is = subst IsInside (sym is) (record { unnamed = refl; usage = refl; missing = refl; read_fault = refl; write_fault = refl })

pub watches_inner : (stop : Stop) (refusal : WatchesRefusal) → stop ≡ SchemaRefused (Watches refusal) → AllowsAll (extent_of_watches refusal) → IsInner stop
watches_inner stop refusal is allows = record { inside = watches_inside stop refusal is; all_read = subst (λ (s : Stop). AllowsAll (extent_of_stop s)) (sym is) allows }
