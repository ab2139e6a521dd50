-- What lines say, and how they are read one after another.
use Rattle.std.proofs.Common.{◌≡◌, ◌∙◌, ℕ, ◌+◌, ◌<◌, ◌≤◌, nat_le, nat_lt, Bool, true, false, cond, List, [], ◌∷◌, length, Some, Result, Ok, Err, add-one, refl, sym, ap, ap₂, subst, arith}
use Rattle.std.specs.Bool.{MatchBool}
use Rattle.std.specs.List.{after_first, before_first}
use Rattle.std.proofs.lemmas.Bool.{le-ltb, lt-leb}
use Rattle.pyx_core.specs.LineTable.{is_space}
use Rattle.edit_script.specs.Script.{lines_of}
use Rattle.edit_script.specs.inner.Lines.{Cuts}
use Rattle.edit_script.specs.inner.Parts.{Parted}
use Rattle.xp_typed_tree.specs.TypedTree.{TypedTree}
use Rattle.xp_typed_tree.specs.declared.value_type.ValueType.{ValueType}
use Rattle.xp_types.specs.Scope.{Binding, Named, Scope, variable_of}
use Rattle.xp_types.specs.SlotsInScope.{AreVariables}
use Rattle.sch_base.specs.declared.limits.TheConstants.{MAX_EXPRESSION_BYTES}
use Rattle.watch_lines.specs.declared.reading.TheConstants.{MAX_WATCHES}
use Rattle.watch_lines.specs.declared.fault.WatchError.{WatchError}
use Rattle.watch_lines.specs.declared.fault.WatchError.TheVariants as errors
use Rattle.watch_lines.specs.declared.fault.WatchFault.{WatchFault}
use Rattle.watch_lines.specs.declared.fault.WatchKind.TheVariants.{BadWord, BadPrefix}
use Rattle.watch_lines.specs.declared.reading.Reading.{Reading}
use Rattle.watch_lines.specs.Faults.{IfFault}
use Rattle.watch_lines.specs.Watches.{JudgesText, LinesGive, WatchesAre, WatchSays, binds, binding_said, may_bind, namespace_said, plain_scope, watches}
use Rattle.watch_lines.specs.inner.Reading.{IsPlain, Passes, Stops}

-- where a test fails
pub match_false : (b : Bool) (P Q : Type 0) → b ≡ false → Q → MatchBool b P Q
match_false b P Q is holds = subst (λ (c : Bool). MatchBool c P Q) (sym is) holds

-- what follows from a file's fault
pub fault_so : (P Q : WatchFault → Type 0) → ((found : WatchFault) → P found → Q found) → (error : WatchError) → IfFault P error → IfFault Q error
fault_so P Q so (errors.Fault found) holds = so found holds
fault_so P Q so errors.Memory holds = tt

-- Prefixes

-- what is said by the parts of the text
bound_so : (bindings : List Binding) (text prefix uri : List ℕ) → Parted is_space text prefix uri → namespace_said bindings text ≡ binding_said bindings prefix uri
bound_so bindings text prefix uri parted =
    ap (λ (b : Bool). cond b (binding_said bindings (before_first is_space text) (after_first is_space text)) (Err BadWord)) parted.some
    ∙ ap₂ (binding_said bindings) parted.front_is parted.back_is

pub is_bound : (bindings : List Binding) (text prefix uri : List ℕ) → Parted is_space text prefix uri → may_bind bindings prefix uri ≡ true →
    Ok (binds (record { prefix = prefix; uri = uri })) ≡ namespace_said bindings text
is_bound bindings text prefix uri parted is =
    sym (bound_so bindings text prefix uri parted
    ∙ ap (λ (b : Bool). cond b (Ok (binds (record { prefix = prefix; uri = uri }))) (Err BadPrefix)) is)

-- Line after line

-- the lines in front of the one with a number were read
pub record Came (bytes : List ℕ) (number : ℕ) (rest : List ℕ) (reading : Reading) : Type 0 where
  pub plain : IsPlain reading.env
  pub on : (given : Result (List TypedTree) WatchFault) → LinesGive reading.env reading.list number (lines_of rest) given → WatchesAre bytes given
  pub few : number + length rest ≤ 1 + length bytes

pub came_first : (bytes : List ℕ) (reading : Reading) → reading.env ≡ plain_scope → reading.list ≡ [] → Came bytes 1 bytes reading
came_first bytes reading env list = record {
  plain = subst IsPlain (sym env) (record { outside = refl; none = refl });
  on = λ given so.
      subst (λ (before : List TypedTree). LinesGive plain_scope before 1 (lines_of bytes) given) list
      (subst (λ (S : Scope). LinesGive S reading.list 1 (lines_of bytes) given) env so);
  few = omega arith;
}

module _ (bytes : List ℕ) (number : ℕ) (rest line after : List ℕ) (old : Reading) (so_far : Came bytes number rest old) (cut : Cuts rest line after) where
  pub came_on : (new : Reading) → IsPlain new.env → Passes number line old new → Came bytes (number + 1) after new
  came_on new plain passes = record {
    plain = plain;
    on = λ given so. so_far.on given
        (subst (λ (lines : List (List ℕ)). LinesGive old.env old.list number lines given) (sym cut.lines)
        (passes (lines_of after) given (subst (λ (n : ℕ). LinesGive new.env new.list n (lines_of after) given) (add-one number) so)));
    few = omega (arith, so_far.few, cut.shorter);
  }

  pub came_stop : (found : WatchFault) → Stops number line old found → WatchesAre bytes (Err found)
  came_stop found stops =
      so_far.on (Err found) (subst (λ (lines : List (List ℕ)). LinesGive old.env old.list number lines (Err found)) (sym cut.lines) (stops (lines_of after)))

pub came_end : (bytes : List ℕ) (number : ℕ) (rest : List ℕ) (reading : Reading) → Came bytes number rest reading → lines_of rest ≡ [] →
    WatchesAre bytes (Ok reading.list)
came_end bytes number rest reading so_far none =
    so_far.on (Ok reading.list) (subst (λ (lines : List (List ℕ)). LinesGive reading.env reading.list number lines (Ok reading.list)) (sym none) refl)

-- Expressions

-- where no variable is in scope no slot is one of a variable
pub no_slots : (S : Scope) → S.variables ≡ [] → (slots : List (ℕ × ValueType)) → AreVariables S slots → slots ≡ []
no_slots S none [] named = refl
no_slots S none (s ∷ slots) named =
    let one = named.0.1 in
    let e : variable_of [] named.0.0 ≡ Some (record { slot = s.0; ty = s.1 }) = sym (ap (λ (vs : List Named). variable_of vs named.0.0) none) ∙ one in
    absurd (cc)

-- an expression of a text that isn't too long, behind not too many
pub watch_said : (S : Scope) (count : ℕ) (text : List ℕ) (t : TypedTree) → length text ≤ MAX_EXPRESSION_BYTES → count < MAX_WATCHES →
    JudgesText S text (Ok t) → WatchSays S count text (Ok (watches t))
watch_said S count text t short few judged =
    match_false (nat_lt MAX_EXPRESSION_BYTES (length text)) _ _ (le-ltb MAX_EXPRESSION_BYTES (length text) short)
    (match_false (nat_le MAX_WATCHES count) _ _ (lt-leb MAX_WATCHES count few) judged)
