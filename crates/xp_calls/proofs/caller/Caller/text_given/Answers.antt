use Rattle.std.proofs.Common.{◌≡◌, refl}
use Rattle.xp_typed_tree.specs.WellTyped.{result_type}
use Rattle.xp_typed_tree.specs.declared.function.Function.{Function}
use Rattle.xp_typed_tree.specs.declared.function.Function.TheVariants as functions
use Rattle.xp_typed_tree.specs.declared.value_type.ValueType.TheVariants as types
use Rattle.xp_meaning.proofs.Exits.{ran_given}
use Rattle.xp_calls.proofs.caller.Caller.text_given.Goals as goal

-- the functions that give a text
no_other : (f : Function) → result_type f ≡ types.Chars → ¬ (f ≡ functions.LocalName) → ¬ (f ≡ functions.NamespaceUri) → ¬ (f ≡ functions.Name) → ¬ (f ≡ functions.String) → ¬ (f ≡ functions.Concat) → ¬ (f ≡ functions.SubstringBefore) → ¬ (f ≡ functions.SubstringAfter) → ¬ (f ≡ functions.Substring) → ¬ (f ≡ functions.NormalizeSpace) → ¬ (f ≡ functions.Translate) → ⊥
no_other functions.LocalName e other _ _ _ _ _ _ _ _ _ = other refl
no_other functions.NamespaceUri e _ other _ _ _ _ _ _ _ _ = other refl
no_other functions.Name e _ _ other _ _ _ _ _ _ _ = other refl
no_other functions.String e _ _ _ other _ _ _ _ _ _ = other refl
no_other functions.Concat e _ _ _ _ other _ _ _ _ _ = other refl
no_other functions.SubstringBefore e _ _ _ _ _ other _ _ _ _ = other refl
no_other functions.SubstringAfter e _ _ _ _ _ _ other _ _ _ = other refl
no_other functions.Substring e _ _ _ _ _ _ _ other _ _ = other refl
no_other functions.NormalizeSpace e _ _ _ _ _ _ _ _ other _ = other refl
no_other functions.Translate e _ _ _ _ _ _ _ _ _ other = other refl
no_other _ e _ _ _ _ _ _ _ _ _ _ = cc

pub unreachable-requires : goal.unreachable-requires
unreachable-requires g c =
    let d = c.in_default in
    absurd (no_other c.args.function c.requires d.not-LocalName d.not-NamespaceUri d.not-Name d.not-String d.not-Concat d.not-SubstringBefore d.not-SubstringAfter d.not-Substring d.not-NormalizeSpace d.not-Translate)

pub returns-in-LocalName : goal.returns-in-LocalName
returns-in-LocalName g c = rw c.in-LocalName.is (c.local_name.ensures _)

pub returns-in-NamespaceUri : goal.returns-in-NamespaceUri
returns-in-NamespaceUri g c = rw c.in-NamespaceUri.is (c.namespace_uri.ensures _)

pub returns-in-Name : goal.returns-in-Name
returns-in-Name g c = rw c.in-Name.is (c.name.ensures _)

pub returns-in-String : goal.returns-in-String
returns-in-String g c = rw c.in-String.is c.string.ensures

pub returns-in-Concat : goal.returns-in-Concat
returns-in-Concat g c = rw c.in-Concat.is (ran_given _ _ _ _ c.concat.ensures)

pub returns-in-SubstringBefore : goal.returns-in-SubstringBefore
returns-in-SubstringBefore g c = rw c.in-SubstringBefore.is (ran_given _ _ _ _ c.substring_before.ensures)

pub returns-in-SubstringAfter : goal.returns-in-SubstringAfter
returns-in-SubstringAfter g c = rw c.in-SubstringAfter.is (ran_given _ _ _ _ c.substring_after.ensures)

pub returns-in-Substring : goal.returns-in-Substring
returns-in-Substring g c = rw c.in-Substring.is (ran_given _ _ _ _ c.substring.ensures)

pub returns-in-NormalizeSpace : goal.returns-in-NormalizeSpace
returns-in-NormalizeSpace g c = rw c.in-NormalizeSpace.is c.normalize.ensures

pub returns-in-Translate : goal.returns-in-Translate
returns-in-Translate g c = rw c.in-Translate.is (ran_given _ _ _ _ c.translate.ensures)
