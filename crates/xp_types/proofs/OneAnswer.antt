-- An expression, and so a match pattern, has one typed tree and no fault, or faults, of which one is the first.
use Rattle.std.proofs.Common.{◌≡◌, ◌⊎◌, Ok, Err, List, inl, inr, ⊎_elim, refl, sym, ◌∙◌}
use Rattle.xp_typed_tree.specs.TypedTree.{TypedTree, TypedPathTree}
use Rattle.xp_types.specs.declared.faults.TypeFault.{TypeFault}
use Rattle.xp_types.specs.inner.Checked.{Checked}
use Rattle.xp_types.specs.inner.Typing.{typing, pattern_typing}
use Rattle.xp_types.specs.Laws.{EachIsTypedOrRefused, TypedHaveNoFault, TypesAreUnique, FirstTypeFaultsAreUnique, EachPatternIsTypedOrRefused, TypedPatternsHaveNoFault, PatternTypesAreUnique, FirstPatternTypeFaultsAreUnique}
use Rattle.xp_types.proofs.Sound.{same}
use Rattle.xp_types.proofs.Cases.{has-type, typed-so}
use Rattle.xp_types.proofs.TermFaults.{told}
use Rattle.xp_types.proofs.FaultCases.{typing-meets, fault-first, first-fault}
use Rattle.xp_types.proofs.PatternCases.{pattern-has, pattern-so, pattern-meets, pattern-fault-first, pattern-first-fault}

decided : {A : Type 0} (m : Checked A) → ((a : A) × (m ≡ Ok a)) ⊎ ((f : TypeFault) × (m ≡ Err f))
decided (Ok a) = inl (a, refl)
decided (Err f) = inr (f, refl)

pub typed-or-refused : EachIsTypedOrRefused
typed-or-refused S e =
    ⊎_elim (λ (p : (t : TypedTree) × (typing S e ≡ Ok t)). inl (p.0, has-type S e p.0 p.1))
    (λ (p : (f : TypeFault) × (typing S e ≡ Err f)). inr (p.0, fault-first S e p.0 p.1)) (decided (typing S e))

pub no-fault : TypedHaveNoFault
no-fault S e t place f h k = (typing-meets S e).fine t (typed-so S e t h) place f k

pub one-type : TypesAreUnique
one-type S e t u h k = same t u (sym (typed-so S e t h) ∙ typed-so S e u k)

pub one-first : FirstTypeFaultsAreUnique
one-first S e f g h k = told {A = TypedTree} g f (sym (first-fault S e g k) ∙ first-fault S e f h)

pub pattern-typed-or-refused : EachPatternIsTypedOrRefused
pattern-typed-or-refused S ps =
    ⊎_elim (λ (p : (ts : List TypedPathTree) × (pattern_typing S ps ≡ Ok ts)). inl (p.0, pattern-has S ps p.0 p.1))
    (λ (p : (f : TypeFault) × (pattern_typing S ps ≡ Err f)). inr (p.0, pattern-fault-first S ps p.0 p.1)) (decided (pattern_typing S ps))

pub pattern-no-fault : TypedPatternsHaveNoFault
pattern-no-fault S ps ts place f h k = (pattern-meets S ps).fine ts (pattern-so S ps ts h) place f k

pub pattern-one-type : PatternTypesAreUnique
pattern-one-type S ps ts us h k = same ts us (sym (pattern-so S ps ts h) ∙ pattern-so S ps us k)

pub pattern-one-first : FirstPatternTypeFaultsAreUnique
pattern-one-first S ps f g h k = told {A = List TypedPathTree} g f (sym (pattern-first-fault S ps g k) ∙ pattern-first-fault S ps f h)
