-- Typing gives the trees of a pattern exactly where it has them by cases, and a fault exactly where that is the first.
use Rattle.std.proofs.Common.{◌≡◌, ℕ, Bool, true, false, Ok, Err, Some, List, [], ◌∷◌, ap, ◌∙◌}
use Rattle.xp_tree.specs.PatternTree.{PathTree, StepTree}
use Rattle.xp_tree.specs.declared.pattern.PatternStart.{PatternStart}
use Rattle.xp_tree.specs.declared.pattern.PatternStart.TheVariants as starts
use Rattle.xp_typed_tree.specs.TypedTree.{TypedPatternStepTree, TypedPathTree}
use Rattle.xp_types.specs.declared.faults.TypeKind.TheVariants as kinds
use Rattle.xp_types.specs.declared.faults.TypeFault.{TypeFault}
use Rattle.xp_types.specs.Scope.{Scope}
use Rattle.xp_types.specs.Terms.{pattern_axis}
use Rattle.xp_types.specs.inner.Typing.{resolved, all_typed, pattern_start, pattern_steps_typed, pattern_typing}
use Rattle.xp_types.specs.Places.{IsFirst}
use Rattle.xp_types.specs.TypeFaults.{TestFault, AllFault}
use Rattle.xp_types.specs.PatternTypes.{begins_at_root, PatternStepsHaveTypes, PatternHasType}
use Rattle.xp_types.specs.PatternFaults.{BeginningFault, PatternStepsFault, HasPatternFault}
use Rattle.xp_types.proofs.TermCases.{test-has, test-so}
use Rattle.xp_types.proofs.Giving.{after-value}
use Rattle.xp_types.proofs.Sound.{went, same}
use Rattle.xp_types.proofs.Cases.{all-have, all-so}
use Rattle.xp_types.proofs.FirstLemmas.{Meets, nothing, leaf, three, first-given}
use Rattle.xp_types.proofs.TermFaults.{told, test-meets}
use Rattle.xp_types.proofs.FaultCases.{all-meet}

begins : (start : PatternStart) (offset : ℕ) (b : Bool) → pattern_start start offset ≡ Ok b → begins_at_root start ≡ Some b
begins starts.Here offset b h = ap Some (same _ b h)
begins starts.Root offset b h = ap Some (same _ b h)
begins (starts.Id value) offset b h = absurd (cc)
begins (starts.Key name value) offset b h = absurd (cc)

begun : (start : PatternStart) (offset : ℕ) (b : Bool) → begins_at_root start ≡ Some b → pattern_start start offset ≡ Ok b
begun starts.Here offset b h = let e : false ≡ b = cc in ap Ok e
begun starts.Root offset b h = let e : true ≡ b = cc in ap Ok e
begun (starts.Id value) offset b h = absurd (cc)
begun (starts.Key name value) offset b h = absurd (cc)

pattern-steps-have : (S : Scope) (ss : List StepTree) (us : List TypedPatternStepTree) → pattern_steps_typed S ss ≡ Ok us → PatternStepsHaveTypes S ss us
pattern-steps-have S [] us h = same _ us h
pattern-steps-have S (s ∷ ss) us h =
    let a = went (resolved S s.test s.test_offset) _ us h in
    let b = went (all_typed S false s.predicates) _ us a.next in
    let k = went (pattern_steps_typed S ss) _ us b.next in
    (a.value, b.value, k.value, test-has S s.test s.test_offset a.value a.had, all-have S false s.predicates b.value b.had, pattern-steps-have S ss k.value k.had, same _ us k.next)

pub pattern-has : (S : Scope) (ps : List PathTree) (us : List TypedPathTree) → pattern_typing S ps ≡ Ok us → PatternHasType S ps us
pattern-has S [] us h = same _ us h
pattern-has S (p ∷ ps) us h =
    let a = went (pattern_start p.start p.offset) _ us h in
    let b = went (pattern_steps_typed S p.steps) _ us a.next in
    let k = went (pattern_typing S ps) _ us b.next in
    (a.value, b.value, k.value, begins p.start p.offset a.value a.had, pattern-steps-have S p.steps b.value b.had, pattern-has S ps k.value k.had, same _ us k.next)

pattern-steps-so : (S : Scope) (ss : List StepTree) (us : List TypedPatternStepTree) → PatternStepsHaveTypes S ss us → pattern_steps_typed S ss ≡ Ok us
pattern-steps-so S [] us h = ap Ok h
pattern-steps-so S (s ∷ ss) us h =
    after-value (resolved S s.test s.test_offset) _ h.0 (test-so S s.test s.test_offset h.0 h.3) ∙ after-value (all_typed S false s.predicates) _ h.1 (all-so S false s.predicates h.1 h.4)
    ∙ after-value (pattern_steps_typed S ss) _ h.2 (pattern-steps-so S ss h.2 h.5) ∙ ap Ok h.6

pub pattern-so : (S : Scope) (ps : List PathTree) (us : List TypedPathTree) → PatternHasType S ps us → pattern_typing S ps ≡ Ok us
pattern-so S [] us h = ap Ok h
pattern-so S (p ∷ ps) us h =
    after-value (pattern_start p.start p.offset) _ h.0 (begun p.start p.offset h.0 h.3) ∙ after-value (pattern_steps_typed S p.steps) _ h.1 (pattern-steps-so S p.steps h.1 h.4)
    ∙ after-value (pattern_typing S ps) _ h.2 (pattern-so S ps h.2 h.5) ∙ ap Ok h.6

-- ---- faults

beginning-meets : (start : PatternStart) (offset : ℕ) → Meets (pattern_start start offset) (BeginningFault start offset)
beginning-meets starts.Here offset = nothing false
beginning-meets starts.Root offset = nothing true
beginning-meets (starts.Id value) offset = leaf (pattern_start (starts.Id value) offset) (Unit {0}) (kinds.Refused _) offset (λ a h x. absurd (cc)) (λ f h. (tt, told _ f h))
beginning-meets (starts.Key name value) offset = leaf (pattern_start (starts.Key name value) offset) (Unit {0}) (kinds.Refused _) offset (λ a h x. absurd (cc)) (λ f h. (tt, told _ f h))

pattern-steps-meet : (S : Scope) (ss : List StepTree) → Meets (pattern_steps_typed S ss) (PatternStepsFault S ss)
pattern-steps-meet S [] = nothing []
pattern-steps-meet S (s ∷ ss) =
    three (resolved S s.test s.test_offset) (all_typed S false s.predicates) (pattern_steps_typed S ss) (λ n ps rest. record { join = s.join; axis = pattern_axis s.is_attribute; test = n; predicates = ps } ∷ rest)
    (TestFault S s.test s.test_offset) (AllFault S false s.predicates) (PatternStepsFault S ss)
    (test-meets S s.test s.test_offset) (all-meet S false s.predicates) (pattern-steps-meet S ss)

pub pattern-meets : (S : Scope) (ps : List PathTree) → Meets (pattern_typing S ps) (HasPatternFault S ps)
pattern-meets S [] = nothing []
pattern-meets S (p ∷ ps) =
    three (pattern_start p.start p.offset) (pattern_steps_typed S p.steps) (pattern_typing S ps) (λ from_root steps rest. record { from_root = from_root; steps = steps } ∷ rest)
    (BeginningFault p.start p.offset) (PatternStepsFault S p.steps) (HasPatternFault S ps)
    (beginning-meets p.start p.offset) (pattern-steps-meet S p.steps) (pattern-meets S ps)

pub pattern-fault-first : (S : Scope) (ps : List PathTree) (f : TypeFault) → pattern_typing S ps ≡ Err f → IsFirst (HasPatternFault S ps) f
pattern-fault-first S ps f h = (pattern-meets S ps).faulty f h

pub pattern-first-fault : (S : Scope) (ps : List PathTree) (f : TypeFault) → IsFirst (HasPatternFault S ps) f → pattern_typing S ps ≡ Err f
pattern-first-fault S ps f h = first-given (pattern_typing S ps) (HasPatternFault S ps) (pattern-meets S ps) f h
