-- What a joiner has put together, how its calls go on, and what they show of the outside.
use Rattle.std.specs.Prelude.{◌≡◌, ℕ, suc, ◌+◌, ◌-◌, ◌≤◌, nat_lt, true, false, if◌then◌else◌, List, [], ◌∷◌, ◌++◌, length, map, sum_by, Option, None, Some, Result, Ok, Err, IfErr}
use Rattle.std.specs.List.{flat_map, list_any}
use Rattle.std.specs.Str.{bytes_eq}
use Rattle.sch_base.specs.declared.limits.TheConstants.{MAX_INCLUDES, MAX_INCLUDE_DEPTH}
use Rattle.sch_io.specs.Files.{Files}
use Rattle.sch_io.specs.ReadThrough.{Extent, ReadsThrough, all_files, all_or_but_last}
use Rattle.sch_io.specs.ShelfState.{ShelfState}
use Rattle.doc_tree.specs.limits.TheConstants.{MAX_LIVE_NODES, MAX_LIVE_TEXT_BYTES}
use Rattle.doc_tree.specs.Growth.{ends_in_text}
use Rattle.doc_tree.specs.InOrder.{IsInOrder}
use Rattle.doc_tree.specs.Kinds.{can_be_kid, is_document, is_text}
use Rattle.doc_tree.specs.Laws.{WellFormed}
use Rattle.doc_tree.specs.Lines.{Line, lines}
use Rattle.doc_tree.specs.Table.{AllLive, Contents, Table, is_live, kids_of, kind_of, value_of}
use Rattle.doc_tree.specs.Walks.{above, ancestors, below, is_open, order, text_bytes}
use Rattle.name_scopes.specs.Scoping.{InScope}
use Rattle.sch_include.specs.declared.fault.IncludeError.{IncludeError}
use Rattle.sch_include.specs.declared.fault.IncludeError.TheVariants as error
use Rattle.sch_include.specs.declared.fault.IncludeFault.{IncludeFault}
use Rattle.sch_include.specs.declared.fault.IncludeKind.{IncludeKind}
use Rattle.sch_include.specs.declared.fault.IncludeKind.TheVariants as kind
use Rattle.sch_include.specs.declared.joiner.Joiner.{Joiner}
use Rattle.sch_include.specs.declared.joiner.Refusal.{Refusal}
use Rattle.sch_include.specs.declared.joiner.Refusal.TheVariants as refusal
use Rattle.sch_include.specs.declared.source.OpenFile.{OpenFile}
use Rattle.sch_include.specs.Ends.{NamesLast, extent_of_including, extent_with, faults_of_including, faults_with, misses_of_including, misses_with}
use Rattle.sch_include.specs.Included.{WholeFile}
use Rattle.sch_include.specs.Parts.{InTurn, Part, Standing}
use Rattle.sch_include.specs.Taking.{Loading, Opening, Placing, Reading, Source, Taking, Walked, fault_of, is_too_deep, text_below}
use Rattle.sch_rules.specs.Elements.{document_element}
use Rattle.sch_include.specs.inner.Deep.{is_deep_at}
use Rattle.sch_include.specs.inner.Growing.{Adds, Receives}

-- what holds of the tree of each file that is a document
pub record IsFile (T : Table) : Type 0 where
  pub in_scope : InScope T
  pub numbered : IsInOrder T
  pub all_live : AllLive T
  pub well_formed : WellFormed T
  pub document : is_document T ≡ true

-- a file's tree, or why it has none; want of memory comes at any time
abbrev pub Loads : Files → List ℕ → Result Contents Refusal → Type 0
Loads files name (Ok tree) = Loading files name (Ok tree.nodes)
Loads files name (Err (refusal.Kind kind)) = Loading files name (Err (fault_of kind name))
Loads files name (Err refusal.Memory) = Unit {0}

abbrev pub misses_of_loading : {T : Type 0} → Result T Refusal → ℕ → ℕ
misses_of_loading (Ok tree) before = before
misses_of_loading (Err (refusal.Kind kind)) before = misses_with kind before
misses_of_loading (Err refusal.Memory) before = before

abbrev pub faults_of_loading : {T : Type 0} → Result T Refusal → ℕ → ℕ
faults_of_loading (Ok tree) before = before
faults_of_loading (Err (refusal.Kind kind)) before = faults_with kind before
faults_of_loading (Err refusal.Memory) before = before

abbrev pub extent_of_loading : {T : Type 0} → Result T Refusal → Extent
extent_of_loading (Ok tree) = all_files
extent_of_loading (Err (refusal.Kind kind)) = extent_with kind
extent_of_loading (Err refusal.Memory) = all_or_but_last

abbrev pub LoadsFile : Files → List ℕ → Result Contents IncludeError → Type 0
LoadsFile files name (Ok tree) = Loading files name (Ok tree.nodes)
LoadsFile files name (Err (error.Fault fault)) = Loading files name (Err fault)
LoadsFile files name (Err error.Memory) = Unit {0}

-- the tree that a call left, where it has no error
abbrev pub with_tree : Result (Unit {0}) IncludeError → Contents → Result Contents IncludeError
with_tree (Ok done) tree = Ok tree
with_tree (Err refused) tree = Err refused

-- what a call shows of the outside, where these names were noted before it and after it
pub record Shows {T : Type 0} (before after : ShelfState) (old new : List (List ℕ)) (result : Result T IncludeError) : Type 0 where
  pub held : after.files ≡ before.files
  pub noted : (base : List (List ℕ)) → before.opened ≡ base ++ old → after.opened ≡ base ++ new
  pub later : (more : List (List ℕ)) × (new ≡ old ++ more)
  pub misses : after.misses ≡ misses_of_including result before.misses
  pub faults : after.faults ≡ faults_of_including result before.faults
  pub last : IfErr result (NamesLast after.opened)
  pub through : ReadsThrough (extent_of_including result) before after

abbrev pub standing_of : Joiner → Standing
standing_of joiner = record { nodes = joiner.nodes; text = joiner.text; opened = joiner.opened }

abbrev pub source_of : Joiner → OpenFile → Source
source_of joiner file = record { tree = file.tree.now.nodes; name = file.name.now; reading = joiner.reading.items; above = file.above }

-- a part gave these lines, or stopped at a fault; want of memory comes at any time
abbrev pub Gives : Part → Standing → Standing → List Line → Result (Unit {0}) IncludeError → Type 0
Gives part before after told (Ok done) = part before after (Ok told)
Gives part before after told (Err (error.Fault fault)) = part before after (Err fault)
Gives part before after told (Err error.Memory) = Unit {0}

-- what names a file, or that very fault; the copy of a name may want memory
abbrev pub IsNamed : Result (List ℕ) IncludeFault → Result (List ℕ) IncludeError → Type 0
IsNamed named (Ok name) = named ≡ Ok name
IsNamed named (Err (error.Fault fault)) = named ≡ Err fault
IsNamed named (Err error.Memory) = Unit {0}

-- that very fault; the copy of its name may want memory
abbrev pub IsFault : IncludeFault → IncludeError → Type 0
IsFault fault (error.Fault other) = other ≡ fault
IsFault fault error.Memory = Unit {0}

-- why a file of this name may not be read where these are read and those were opened
abbrev pub refused_kind : List (List ℕ) → List (List ℕ) → List ℕ → Option IncludeKind
refused_kind reading opened name =
    if list_any (bytes_eq name) reading then Some kind.Cycle
    else if nat_lt MAX_INCLUDE_DEPTH (length reading) then Some kind.TooDeep
    else if nat_lt MAX_INCLUDES (length opened) then Some kind.TooMany
    else None

-- the limit that a tree passes where the document element of another takes the place of a node
abbrev pub fit_fault : Table → ℕ → Table → ℕ → Standing → Option IncludeKind
fit_fault S n T above standing =
    if nat_lt MAX_LIVE_NODES ((standing.nodes + length (below T (document_element T))) - length (below S n)) then Some kind.TooManyNodes
    else if is_too_deep above T then Some kind.TreeTooDeep
    else if nat_lt MAX_LIVE_TEXT_BYTES ((standing.text + text_below T (document_element T)) - text_below S n) then Some kind.TooMuchText
    else None

-- no limit is passed, or the one that is passed is told with the name, for which no memory is wanted
abbrev pub IsJudged : Option IncludeKind → List ℕ → Result (Unit {0}) IncludeError → Type 0
IsJudged found name (Ok done) = found ≡ None
IsJudged found name (Err refused) = (passed : IncludeKind) × (found ≡ Some passed) × (refused ≡ error.Fault (fault_of passed name))

-- U is G with these lines more, those of a kid of p that has the kind of a node of T
pub record Joins (G U : Table) (p : ℕ) (T : Table) (n : ℕ) (told : List Line) : Type 0 where
  pub adds : Adds G U p p told
  pub kid : ℕ
  pub kids_are : kids_of U p ≡ kids_of G p ++ kid ∷ []
  pub kind_is : kind_of U kid ≡ kind_of T n

-- a node of a file, and all below it, may come under p
pub record CanWalk (joiner : Joiner) (file : OpenFile) (n p : ℕ) : Type 0 where
  pub is_file : IsFile file.tree.now.nodes
  pub lives : is_live file.tree.now.nodes n ≡ true
  pub kid : can_be_kid (kind_of file.tree.now.nodes n) ≡ true
  pub receives : Receives joiner.tree.nodes p
  pub apart : is_text (kind_of file.tree.now.nodes n) ≡ true → ends_in_text joiner.tree.nodes (kids_of joiner.tree.nodes p) ≡ false
  pub depth : length (above joiner.tree.nodes p) ≡ file.above + length (ancestors file.tree.now.nodes n)
  pub shallow : list_any (is_deep_at file.tree.now.nodes file.above) (order file.tree.now.nodes) ≡ false
  pub room : length (order joiner.tree.nodes) + length (below file.tree.now.nodes n) ≤ joiner.nodes
  pub few : joiner.nodes ≤ MAX_LIVE_NODES
  pub bytes : text_bytes joiner.tree.nodes + text_below file.tree.now.nodes n ≤ joiner.text
  pub little : joiner.text ≤ MAX_LIVE_TEXT_BYTES
  pub files : length joiner.reading.items ≤ MAX_INCLUDE_DEPTH + 1

-- what is still to come of the tree stays as much, a node and all below it left out
pub record Keeps (old new : Joiner) (file : OpenFile) (n : ℕ) : Type 0 where
  pub reading : new.reading.items ≡ old.reading.items
  pub nodes : new.nodes + (length (order old.tree.nodes) + length (below file.tree.now.nodes n)) ≡ old.nodes + length (order new.tree.nodes)
  pub few : new.nodes ≤ MAX_LIVE_NODES
  pub text : new.text + (text_bytes old.tree.nodes + text_below file.tree.now.nodes n) ≡ old.text + text_bytes new.tree.nodes
  pub little : new.text ≤ MAX_LIVE_TEXT_BYTES

-- a node of a file and all below it was walked: lines were told and the tree grew by them
pub record Walks (old new : Joiner) (file : OpenFile) (n p : ℕ) (result : Result (Unit {0}) IncludeError) (files_are : Files → Type 0) : Type 0 where
  pub told : List Line
  pub gives : (files : Files) → files_are files → (depth levels : ℕ) → depth + length old.reading.items ≡ MAX_INCLUDE_DEPTH + 2 → length (below file.tree.now.nodes n) ≤ levels →
      Gives (Walked (Taking files depth (source_of old file)) file.tree.now.nodes levels n) (standing_of old) (standing_of new) told result
  pub joins : result ≡ Ok tt → Joins old.tree.nodes new.tree.nodes p file.tree.now.nodes n told

-- the kids of a node of a file, and all below them, may come under p
pub record CanWalkKids (joiner : Joiner) (file : OpenFile) (n p : ℕ) : Type 0 where
  pub is_file : IsFile file.tree.now.nodes
  pub lives : is_live file.tree.now.nodes n ≡ true
  pub kind : kind_of joiner.tree.nodes p ≡ kind_of file.tree.now.nodes n
  pub last : is_open joiner.tree.nodes p ≡ true
  pub all_live : AllLive joiner.tree.nodes
  pub bare : kids_of joiner.tree.nodes p ≡ []
  pub depth : length (above joiner.tree.nodes p) ≡ file.above + suc (length (ancestors file.tree.now.nodes n))
  pub shallow : list_any (is_deep_at file.tree.now.nodes file.above) (order file.tree.now.nodes) ≡ false
  pub room : length (order joiner.tree.nodes) + length (flat_map (below file.tree.now.nodes) (kids_of file.tree.now.nodes n)) ≤ joiner.nodes
  pub few : joiner.nodes ≤ MAX_LIVE_NODES
  pub bytes : text_bytes joiner.tree.nodes + sum_by (λ m. length (value_of file.tree.now.nodes m)) (flat_map (below file.tree.now.nodes) (kids_of file.tree.now.nodes n)) ≤ joiner.text
  pub little : joiner.text ≤ MAX_LIVE_TEXT_BYTES
  pub files : length joiner.reading.items ≤ MAX_INCLUDE_DEPTH + 1

-- nodes of a file, and all below them, stand under p, which was bare: these lines were told
pub record JoinsKids (old new : Joiner) (T : Table) (ns : List ℕ) (p : ℕ) (told : List Line) : Type 0 where
  pub adds : Adds old.tree.nodes new.tree.nodes p p told
  pub kinds : map (kind_of new.tree.nodes) (kids_of new.tree.nodes p) ≡ map (kind_of T) ns
  pub reading : new.reading.items ≡ old.reading.items
  pub nodes : new.nodes + (length (order old.tree.nodes) + length (flat_map (below T) ns)) ≡ old.nodes + length (order new.tree.nodes)
  pub few : new.nodes ≤ MAX_LIVE_NODES
  pub text : new.text + (text_bytes old.tree.nodes + sum_by (λ m. length (value_of T m)) (flat_map (below T) ns)) ≡ old.text + text_bytes new.tree.nodes
  pub little : new.text ≤ MAX_LIVE_TEXT_BYTES

-- some of the kids of a node of a file were walked one after another
pub record WalksKids (old new : Joiner) (file : OpenFile) (n : ℕ) (ns : List ℕ) (p : ℕ) (result : Result (Unit {0}) IncludeError) (files_are : Files → Type 0) : Type 0 where
  pub told : List Line
  pub gives : (files : Files) → files_are files → (depth levels : ℕ) → depth + length old.reading.items ≡ MAX_INCLUDE_DEPTH + 2 → length (below file.tree.now.nodes n) ≤ suc levels →
      Gives (InTurn (Walked (Taking files depth (source_of old file)) file.tree.now.nodes levels) ns) (standing_of old) (standing_of new) told result
  pub joins : result ≡ Ok tt → JoinsKids old new file.tree.now.nodes ns p told

-- a file is read inside those that are being read
abbrev pub entered_source : Joiner → OpenFile → Source
entered_source joiner file = record { tree = file.tree.now.nodes; name = file.name.now; reading = joiner.reading.items ++ file.name.now ∷ []; above = file.above }

-- the document element of a file and all below it was walked
pub record WalksFile (old new : Joiner) (file : OpenFile) (p : ℕ) (result : Result (Unit {0}) IncludeError) (files_are : Files → Type 0) : Type 0 where
  pub told : List Line
  pub gives : (files : Files) → files_are files → (depth : ℕ) → suc depth + length old.reading.items ≡ MAX_INCLUDE_DEPTH + 2 →
      Gives (Reading (Taking files depth) (entered_source old file) (document_element file.tree.now.nodes)) (standing_of old) (standing_of new) told result
  pub joins : result ≡ Ok tt → Joins old.tree.nodes new.tree.nodes p file.tree.now.nodes (document_element file.tree.now.nodes) told

-- the file that an include names was taken
pub record TakesFile (old new : Joiner) (file : OpenFile) (n p : ℕ) (name : List ℕ) (result : Result (Unit {0}) IncludeError) (files_are : Files → Type 0) : Type 0 where
  pub told : List Line
  pub gives : (files : Files) → files_are files → (depth : ℕ) → suc depth + length old.reading.items ≡ MAX_INCLUDE_DEPTH + 2 →
      Gives (Opening files name (Placing (Taking files depth) (source_of old file) n name)) (standing_of old) (standing_of new) told result
  pub joins : result ≡ Ok tt → Joins old.tree.nodes new.tree.nodes p file.tree.now.nodes n told

-- the whole of a schema's own file was read from its root on
pub record ReadsWhole (old new : Joiner) (T : Table) (name : List ℕ) (result : Result (Unit {0}) IncludeError) (files_are : Files → Type 0) : Type 0 where
  pub gives : (files : Files) → files_are files → Gives (WholeFile files name T) (standing_of old) (standing_of new) (lines new.tree.nodes) result
