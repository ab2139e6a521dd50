-- What an include of a schema gives (ISO/IEC 19757-3, section 5.4.4): the document element of the file that it names, in which the
-- includes are replaced likewise, before anything that stands after it is read.
use Rattle.std.specs.Prelude.{◌≡◌, ◌⊎◌, ℕ, zero, suc, ◌+◌, ◌-◌, ◌<◌, ◌≤◌, nat_lt, Bool, ◌&&◌, List, [], ◌∷◌, ◌++◌, Option, None, Some, Result, Ok, Err, codes, length, sum_by, if◌then◌else◌}
use Rattle.std.specs.FinMap.{get}
use Rattle.std.specs.List.{flat_map, list_any}
use Rattle.std.specs.Str.{bytes_eq}
use Rattle.sch_base.specs.declared.limits.TheConstants.{MAX_INCLUDES, MAX_INCLUDE_DEPTH}
use Rattle.sch_io.specs.Files.{Files}
use Rattle.sch_io.specs.declared.reading.TheConstants.{MAX_FILE_BYTES}
use Rattle.doc_tree.specs.Kinds.{is_element}
use Rattle.doc_tree.specs.Lines.{Line, closes, opens}
use Rattle.doc_tree.specs.Table.{Table, attrs_of, kids_of, kind_of, value_of}
use Rattle.doc_tree.specs.Walks.{ancestors, below, order}
use Rattle.doc_tree.specs.limits.TheConstants.{MAX_DEPTH, MAX_LIVE_NODES, MAX_LIVE_TEXT_BYTES}
use Rattle.pyx_core.specs.Nesting.{bare}
use Rattle.pyx_core.specs.Reading.{events_of}
use Rattle.pyx_core.specs.declared.mode.Mode.TheVariants.{Document}
use Rattle.name_scopes.specs.DocFaults.{doc_fault}
use Rattle.name_scopes.specs.ScopedTree.{Scoped}
use Rattle.name_scopes.specs.declared.fault.DocFault.{DocFault}
use Rattle.sch_rules.specs.Attributes.{said}
use Rattle.sch_rules.specs.Elements.{document_element}
use Rattle.sch_include.specs.declared.fault.IncludeFault.{IncludeFault}
use Rattle.sch_include.specs.declared.fault.IncludeKind.{IncludeKind}
use Rattle.sch_include.specs.declared.fault.IncludeKind.TheVariants as kind
use Rattle.sch_include.specs.Includes.{file_named, has_fragment, has_scheme, is_include}
use Rattle.sch_include.specs.Parts.{Choice, InTurn, Part, Standing, Then, Told, With}

-- a file that is being read: its tree, its name, the names of all files that are being read, one inside another and this one last,
-- and how many elements of the others stand above its document element
pub record Source : Type 0 where
  pub tree : Table
  pub name : List ℕ
  pub reading : List (List ℕ)
  pub above : ℕ

abbrev pub fault_of : IncludeKind → List ℕ → IncludeFault
fault_of kind name = record { kind = kind; name = name }

-- what a file is as a tree: the tree of a document, or why it is none; the outside may fail at any file
pub data Loading (files : Files) (name : List ℕ) : Result Table IncludeFault → Type 0 where
  missing : get files name ≡ None → Loading files name (Err (fault_of kind.Missing name))
  failed : Loading files name (Err (fault_of kind.Failed name))
  too_large : (bytes : List ℕ) → get files name ≡ Some bytes → MAX_FILE_BYTES < length bytes →
      Loading files name (Err (fault_of kind.TooLarge name))
  faulty : (bytes : List ℕ) → get files name ≡ Some bytes → length bytes ≤ MAX_FILE_BYTES → (fault : DocFault) →
      doc_fault bytes ≡ Some fault → Loading files name (Err (fault_of (kind.Doc fault) name))
  loaded : (bytes : List ℕ) → get files name ≡ Some bytes → length bytes ≤ MAX_FILE_BYTES → doc_fault bytes ≡ None →
      (T : Table) → Scoped (bare (events_of Document bytes)) T → Loading files name (Ok T)

-- a file is opened; where it is a document the next part goes on with its tree
pub record Opening (files : Files) (name : List ℕ) (next : Table → Part) (before after : Standing) (result : Result (List Line) IncludeFault) : Type 0 where
  pub either : ((fault : IncludeFault) × Loading files name (Err fault) × (after ≡ record before { opened = before.opened ++ name ∷ [] })
      × (result ≡ Err fault))
      ⊎ ((T : Table) × Loading files name (Ok T) × next T (record before { opened = before.opened ++ name ∷ [] }) after result)

-- the file that an include names, or what refuses it before a file is opened
abbrev pub allowed_name : Source → Standing → List ℕ → Result (List ℕ) IncludeFault
allowed_name source standing name =
    if list_any (bytes_eq name) source.reading then Err (fault_of kind.Cycle name)
    else if nat_lt MAX_INCLUDE_DEPTH (length source.reading) then Err (fault_of kind.TooDeep name)
    else if nat_lt MAX_INCLUDES (length standing.opened) then Err (fault_of kind.TooMany name)
    else Ok name

abbrev pub named_by : Source → Standing → Option (List ℕ) → Result (List ℕ) IncludeFault
named_by source standing None = Err (fault_of kind.NoHref [])
named_by source standing (Some href) =
    if has_scheme href then Err (fault_of kind.Scheme href)
    else if has_fragment href then Err (fault_of kind.Fragment href)
    else allowed_name source standing (file_named source.name href)

abbrev pub included_name : Source → Standing → ℕ → Result (List ℕ) IncludeFault
included_name source standing n = named_by source standing (said source.tree n (codes "href"))

-- the bytes of text of a node and all below it
abbrev pub text_below : Table → ℕ → ℕ
text_below T n = sum_by (λ m. length (value_of T m)) (below T n)

-- how many elements stand above a node in the whole tree
abbrev pub elements_above : Source → ℕ → ℕ
elements_above source n = source.above + (length (ancestors source.tree n) - 1)

-- whether an element of the tree stands too deep where so many elements stand above its document element
abbrev pub is_too_deep : ℕ → Table → Bool
is_too_deep above T = list_any (λ n. is_element (kind_of T n) && nat_lt MAX_DEPTH (above + length (ancestors T n))) (order T)

-- the document element of a tree takes the place of a node
abbrev pub in_place_of : Source → ℕ → Table → Standing → Standing
in_place_of source n T standing = record standing {
  nodes = (standing.nodes + length (below T (document_element T))) - length (below source.tree n);
  text = (standing.text + text_below T (document_element T)) - text_below source.tree n;
}

-- the limits of trees, tested on the tree as it then stands
abbrev pub fitting : Source → ℕ → List ℕ → Table → Standing → Result Standing IncludeFault
fitting source n name T standing =
    if nat_lt MAX_LIVE_NODES (in_place_of source n T standing).nodes then Err (fault_of kind.TooManyNodes name)
    else if is_too_deep (elements_above source n) T then Err (fault_of kind.TreeTooDeep name)
    else if nat_lt MAX_LIVE_TEXT_BYTES (in_place_of source n T standing).text then Err (fault_of kind.TooMuchText name)
    else Ok (in_place_of source n T standing)

-- the file of an include
abbrev pub included_source : Source → ℕ → List ℕ → Table → Source
included_source source n name T =
    record { tree = T; name = name; reading = source.reading ++ name ∷ []; above = elements_above source n }

-- a part that begins with another standing
abbrev pub From : Standing → Part → Part
From standing part before after result = part standing after result

-- a node and all below it, so many levels deep, where an include gives way to its part
abbrev pub Walked : (ℕ → Part) → Table → ℕ → ℕ → Part
Walked taking T zero n = Told []
Walked taking T (suc levels) n = Choice (is_include T n) (taking n)
    (Then (Told (flat_map (opens T) (n ∷ attrs_of T n)))
    (Then (InTurn (Walked taking T levels) (kids_of T n)) (Told (closes T n))))

-- a node of a file and all below it, where an include gives what `taking` says of a file; no way down is longer than there are
-- numbers
abbrev pub Reading : (Source → ℕ → Part) → Source → ℕ → Part
Reading taking source n = Walked (taking source) source.tree (length source.tree) n

-- the file that an include names, put in its place
abbrev pub Placing : (Source → ℕ → Part) → Source → ℕ → List ℕ → Table → Part
Placing taking source n name T before after result =
    With (fitting source n name T before) (λ standing. From standing
    (Reading taking (included_source source n name T) (document_element T))) before after result

-- an include, where so many files may be read one inside another
abbrev pub Taking : Files → ℕ → Source → ℕ → Part
Taking files zero source n before after result = Told [] before after result
Taking files (suc depth) source n before after result =
    With (included_name source before n) (λ name. Opening files name (Placing (Taking files depth) source n name)) before after result
