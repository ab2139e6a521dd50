-- The first fault of a document as a report: of the first element in document order the first kind.
use Rattle.std.specs.Prelude.{◌≡◌, ℕ, List, [], ◌∷◌, Option, None, Some, Result, Ok, Err, codes}
use Rattle.std.specs.Option.{option_or}
use Rattle.doc_tree.specs.Table.{Table, kids_of}
use Rattle.svrl_read.specs.declared.fault.SvrlError.{SvrlError}
use Rattle.svrl_read.specs.declared.fault.SvrlError.TheVariants.{Fault, Memory}
use Rattle.svrl_read.specs.declared.fault.SvrlFault.{SvrlFault}
use Rattle.svrl_read.specs.declared.fault.SvrlKind.{SvrlKind}
use Rattle.svrl_read.specs.declared.fault.SvrlKind.TheVariants.{NotOutput, NoPattern, NoRule, NoAttribute}
use Rattle.svrl_read.specs.declared.words.Word.{Word}
use Rattle.svrl_read.specs.declared.words.Word.TheVariants as word
use Rattle.svrl_read.specs.declared.check.Place.{Place}
use Rattle.svrl_read.specs.declared.check.Place.TheVariants.{Outside, InPattern, InRule}
use Rattle.svrl_read.specs.Places.{document_element, said, word_at}

abbrev pub fault_at : ℕ → SvrlKind → Option SvrlFault
fault_at n kind = Some (record { kind = kind; node = n })

-- the want of an attribute that isn't said
abbrev pub unless_said : ℕ → List ℕ → Option (List ℕ) → Option SvrlFault
unless_said n name None = fault_at n (NoAttribute name)
unless_said n name (Some value) = None

-- the want of an attribute
abbrev pub lacks : Table → ℕ → List ℕ → Option SvrlFault
lacks T n name = unless_said n name (said T n name)

-- the fault of a reference; another element has none
abbrev pub ref_fault_as : Table → ℕ → Option Word → Option SvrlFault
ref_fault_as T n (Some word.Diagnostic) = lacks T n (codes "diagnostic")
ref_fault_as T n (Some word.Property) = lacks T n (codes "property")
ref_fault_as T n _ = None

abbrev pub ref_fault : Table → ℕ → Option SvrlFault
ref_fault T n = ref_fault_as T n (word_at T n)

-- the first fault of references
abbrev pub refs_fault : Table → List ℕ → Option SvrlFault
refs_fault T [] = None
refs_fault T (n ∷ kids) = option_or (ref_fault T n) (refs_fault T kids)

abbrev pub prefix_fault : Table → ℕ → Option SvrlFault
prefix_fault T n = option_or (lacks T n (codes "prefix")) (lacks T n (codes "uri"))

-- a fired rule stands in a pattern
abbrev pub rule_fault : Table → Place → ℕ → Option SvrlFault
rule_fault T Outside n = fault_at n NoPattern
rule_fault T InPattern n = lacks T n (codes "context")
rule_fault T InRule n = lacks T n (codes "context")

-- what is found has a location and a test; then come its references
abbrev pub found_fault : Table → ℕ → Option SvrlFault
found_fault T n = option_or (lacks T n (codes "location")) (option_or (lacks T n (codes "test")) (refs_fault T (kids_of T n)))

-- a finding stands in a fired rule of a pattern
abbrev pub finding_fault : Table → Place → ℕ → Option SvrlFault
finding_fault T Outside n = fault_at n NoPattern
finding_fault T InPattern n = fault_at n NoRule
finding_fault T InRule n = found_fault T n

-- the fault of an element that stands at a place of a report
abbrev pub kid_fault : Table → Place → ℕ → Option Word → Option SvrlFault
kid_fault T place n (Some word.Prefix) = prefix_fault T n
kid_fault T place n (Some word.Rule) = rule_fault T place n
kid_fault T place n (Some word.Assert) = finding_fault T place n
kid_fault T place n (Some word.Report) = finding_fault T place n
kid_fault T place n _ = None

-- a fired rule stands in the last pattern, if there is one
abbrev pub rule_place : Place → Place
rule_place Outside = Outside
rule_place InPattern = InRule
rule_place InRule = InRule

-- the place behind an element
abbrev pub place_behind : Place → Option Word → Place
place_behind place (Some word.Pattern) = InPattern
place_behind place (Some word.Rule) = rule_place place
place_behind place _ = place

-- the first fault of elements, the first of which stands at a place
abbrev pub kids_fault : Table → Place → List ℕ → Option SvrlFault
kids_fault T place [] = None
kids_fault T place (n ∷ kids) = option_or (kid_fault T place n (word_at T n)) (kids_fault T (place_behind place (word_at T n)) kids)

-- the first fault of a whole report
abbrev pub output_fault : Table → ℕ → Option Word → Option SvrlFault
output_fault T n (Some word.Output) = kids_fault T Outside (kids_of T n)
output_fault T n _ = fault_at n NotOutput

-- the first fault of a document
abbrev pub first_fault : Table → Option SvrlFault
first_fault T = output_fault T (document_element T) (word_at T (document_element T))

-- a refusal tells the fault that there is, or that there was no memory
abbrev pub Refuses : Option SvrlFault → SvrlError → Type 0
Refuses fault (Fault f) = fault ≡ Some f
Refuses fault Memory = Unit {0}

-- well where there is no fault, and else with the fault; for want of memory it may end without
abbrev pub Ended : Option SvrlFault → Result (Unit {0}) SvrlError → Type 0
Ended fault (Ok _) = fault ≡ None
Ended fault (Err error) = Refuses fault error
