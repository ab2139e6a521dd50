-- Lines with too many fields.
use Rattle.std.proofs.Common.{◌≡◌, ℕ, true, List, Option, None, Some, Err, MatchOption, Bor, refl}
use Rattle.std.specs.Option.{is_some}
use Rattle.pyx_core.specs.LineTable.{is_space}
use Rattle.edit_script.specs.declared.fault.ScriptKind.TheVariants.{BadWord}
use Rattle.edit_script.specs.CommandLine.{delete_of, fields}
use Rattle.edit_script.specs.inner.Fields.{IsNotTwo}
use Rattle.edit_script.specs.inner.Parts.{Parted, Whole}
use Rattle.edit_script.proofs.PartLemmas.{SomePart, some_part}

-- what a search for a space finds
abbrev pub Split : List ℕ → Option (Bor (List ℕ) × Bor (List ℕ)) → Type 0
Split text found = MatchOption found (Whole is_space text) (λ parts. Parted is_space text parts.0.now parts.1.now)

more_by : (text front back : List ℕ) → Parted is_space text front back → SomePart (fields back) → delete_of (fields text) ≡ Err BadWord
more_by text front back cut some = rw (cut.parts, some.2) refl

pub delete_more : (text : List ℕ) (found : Option (Bor (List ℕ) × Bor (List ℕ))) → Split text found → is_some found ≡ true →
    delete_of (fields text) ≡ Err BadWord
delete_more text None is some = absurd (cc)
delete_more text (Some parts) is some = more_by text parts.0.now parts.1.now is (some_part is_space parts.1.now)

two_by : (text front middle second back : List ℕ) → Parted is_space text front second → Parted is_space second middle back →
    SomePart (fields back) → IsNotTwo text
two_by text front middle second back cut later some = record {
  insert = rw (cut.parts, later.parts, some.2) refl;
  unset = rw (cut.parts, later.parts, some.2) refl;
  rename = rw (cut.parts, later.parts, some.2) refl;
  rename_attr = λ first. rw (cut.parts, later.parts, some.2) refl;
}

pub two_more : (text front second : List ℕ) (found : Option (Bor (List ℕ) × Bor (List ℕ))) → Parted is_space text front second →
    Split second found → is_some found ≡ true → IsNotTwo text
two_more text front second None cut is some = absurd (cc)
two_more text front second (Some parts) cut is some =
    two_by text front parts.0.now second parts.1.now cut is (some_part is_space parts.1.now)
