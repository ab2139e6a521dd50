-- Kept names are the same where what is seen of them is.
use Rattle.std.proofs.Common.{◌≡◌, ◌||◌, ◌==◌, List, [], ◌∷◌, map, refl}
use Rattle.std.proofs.Common.{ap₂}
use Rattle.std.specs.List.{list_any}
use Rattle.sch_read.specs.declared.keys.KeptKey.{KeptKey}
use Rattle.sch_read.specs.contracts.keys.KeptKeyPartialEq.TheImpl.{eq-value}
use Rattle.sch_read.specs.inner.Kept.{key_seen}
use Rattle.sch_rules.specs.declared.named.Named.{Named}
use Rattle.sch_rules.specs.declared.named.Named.TheVariants.{Title, Prefix, Phase, Pattern, AbstractRule, Diagnostic, Property, Param}
use Rattle.sch_rules.specs.contracts.named.NamedPartialEq.TheImpl.{eq-value as kind_eq}
use Rattle.sch_rules.specs.Keys.{is_taken, kind_rank, same_key}

same_kind : (a b : Named) → kind_eq.it a b ≡ (kind_rank a == kind_rank b)
same_kind Title Title = refl
same_kind Title _ = refl
same_kind Prefix Prefix = refl
same_kind Prefix _ = refl
same_kind Phase Phase = refl
same_kind Phase _ = refl
same_kind Pattern Pattern = refl
same_kind Pattern _ = refl
same_kind AbstractRule AbstractRule = refl
same_kind AbstractRule _ = refl
same_kind Diagnostic Diagnostic = refl
same_kind Diagnostic _ = refl
same_kind Property Property = refl
same_kind Property _ = refl
same_kind Param Param = refl
same_kind Param _ = refl

kept-same : (a b : KeptKey) → eq-value.it a b ≡ same_key (key_seen a) (key_seen b)
kept-same a b = rw (same_kind a.kind b.kind) refl

pub taken-kept : (key : KeptKey) (keys : List KeptKey) → list_any (eq-value.it key) keys ≡ is_taken (map key_seen keys) (key_seen key)
taken-kept key [] = refl
taken-kept key (k ∷ keys) = ap₂ (λ a b. a || b) (kept-same key k) (taken-kept key keys)
