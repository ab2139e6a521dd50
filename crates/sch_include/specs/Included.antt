-- The tree of a schema's file with each `include` of Schematron replaced by the document element of the file that it names
-- (ISO/IEC 19757-3, section 5.4.4), or the first fault on the way.
use Rattle.std.specs.Prelude.{◌≡◌, ℕ, ◌+◌, true, List, [], ◌∷◌, Result, Ok, Err, length}
use Rattle.sch_base.specs.declared.limits.TheConstants.{MAX_INCLUDE_DEPTH}
use Rattle.sch_io.specs.Files.{Files}
use Rattle.doc_tree.specs.InOrder.{IsInOrder}
use Rattle.doc_tree.specs.Kinds.{is_document}
use Rattle.doc_tree.specs.Laws.{WellFormed}
use Rattle.doc_tree.specs.Lines.{lines}
use Rattle.doc_tree.specs.Table.{AllLive, Table}
use Rattle.doc_tree.specs.Walks.{order, text_bytes}
use Rattle.sch_include.specs.declared.fault.IncludeFault.{IncludeFault}
use Rattle.sch_include.specs.declared.fault.IncludeKind.TheVariants.{Failed}
use Rattle.sch_include.specs.Parts.{Part, Standing}
use Rattle.sch_include.specs.Taking.{From, Opening, Reading, Source, Taking}

-- before anything is read
abbrev pub nothing : Standing
nothing = record { nodes = 0; text = 0; opened = [] }

-- the schema's own file as it is
abbrev pub whole_source : List ℕ → Table → Source
whole_source name T = record { tree = T; name = name; reading = name ∷ []; above = 0 }

abbrev pub as_it_is : Table → Standing → Standing
as_it_is T standing = record standing { nodes = length (order T); text = text_bytes T }

-- the schema's file from its root on; the file itself and, one inside another, so many includes may be read
abbrev pub WholeFile : Files → List ℕ → Table → Part
WholeFile files name T before after result =
    From (as_it_is T before) (Reading (Taking files (MAX_INCLUDE_DEPTH + 1)) (whole_source name T) 0) before after result

abbrev pub Schema : Files → List ℕ → Part
Schema files name = Opening files name (WholeFile files name)

-- a tree with numbers in document order and no others made, of a document
pub record IsNumberedDocument (T : Table) : Type 0 where
  pub well_formed : WellFormed T
  pub numbered : IsInOrder T
  pub all_live : AllLive T
  pub document : is_document T ≡ true

-- the tree that the file of a name gives, or the first fault; and the files that are opened for it, in their order
pub record Included (files : Files) (name : List ℕ) (opened : List (List ℕ)) (T : Table) : Type 0 where
  pub after : Standing
  pub gives : Schema files name nothing after (Ok (lines T))
  pub opens : after.opened ≡ opened
  pub document : IsNumberedDocument T

pub record Unincluded (files : Files) (name : List ℕ) (opened : List (List ℕ)) (fault : IncludeFault) : Type 0 where
  pub after : Standing
  pub stops : Schema files name nothing after (Err fault)
  pub opens : after.opened ≡ opened

abbrev pub Including : Files → List ℕ → List (List ℕ) → Result Table IncludeFault → Type 0
Including files name opened (Ok T) = Included files name opened T
Including files name opened (Err fault) = Unincluded files name opened fault

-- whether the outside failed
abbrev pub HasFailed : Result Table IncludeFault → Type 0
HasFailed (Ok T) = ⊥
HasFailed (Err fault) = fault.kind ≡ Failed

-- where the outside doesn't fail the files decide what comes of a schema's file, and which files are opened
abbrev pub OneInclusion : Type 0
OneInclusion = (files : Files) (name : List ℕ) (opened others : List (List ℕ)) (r s : Result Table IncludeFault) →
    Including files name opened r → Including files name others s → (HasFailed r → ⊥) → (HasFailed s → ⊥) → (r ≡ s) × (opened ≡ others)
