-- The files of a run: a schema's with its includes, a document's, a script's.
use Rattle.std.proofs.Common.{◌∙◌, ◌≡◌, ℕ, ◌<◌, ◌≤◌, inl, inr, length, Bool, true, false, List, [], ◌∷◌, ◌++◌, append-nil, if◌then◌else◌, IfErr, IfSome, Option, None, Some, Result, Ok, Err, refl, ap, sym, subst}
use Rattle.std.specs.FinMap.{get}
use Rattle.std.proofs.lemmas.Bool.{le-ltb, lt-ltb}
use Rattle.sch_io.specs.Counts.{one_more}
use Rattle.sch_io.specs.Files.{Files}
use Rattle.sch_io.specs.declared.reading.TheConstants.{MAX_FILE_BYTES}
use Rattle.sch_io.specs.ReadThrough.{Extent, ReadsThrough, all_files, all_but_last, all_or_but_last}
use Rattle.sch_io.specs.ShelfState.{ShelfState}
use Rattle.sch_io.proofs.ReadThrough.{left_unread, one_of_both, read_through}
use Rattle.pyx_core.specs.declared.mode.Mode.TheVariants.{Document}
use Rattle.pyx_core.specs.Nesting.{bare}
use Rattle.pyx_core.specs.Reading.{events_of}
use Rattle.doc_tree.specs.Table.{Contents, Table}
use Rattle.name_scopes.specs.DocFaults.{doc_fault}
use Rattle.name_scopes.specs.ScopedTree.{Scoped}
use Rattle.name_scopes.specs.declared.fault.DocFault.{DocFault}
use Rattle.sch_include.specs.declared.fault.IncludeError.{IncludeError}
use Rattle.sch_include.specs.declared.fault.IncludeError.TheVariants as include
use Rattle.sch_include.specs.declared.fault.IncludeFault.{IncludeFault}
use Rattle.sch_include.specs.declared.fault.IncludeKind.{IncludeKind}
use Rattle.sch_include.specs.declared.fault.IncludeKind.TheVariants as kind
use Rattle.sch_include.specs.Ends.{IsFirst, IsRead, extent_with, faults_with, is_of_file, misses_with}
use Rattle.sch_include.specs.Included.{Including}
use Rattle.sch_include.specs.Taking.{fault_of}
use Rattle.sch_words.specs.declared.status.Status.TheVariants as status
use Rattle.sch_stops.specs.declared.refusal.DocumentRefusal.{DocumentRefusal}
use Rattle.sch_stops.specs.declared.refusal.DocumentRefusal.TheVariants.{File}
use Rattle.sch_stops.specs.declared.refusal.FileRefusal.TheVariants.{TooLarge, Faulted}
use Rattle.sch_stops.specs.declared.refusal.ScriptRefusal.TheVariants as script
use Rattle.sch_stops.specs.declared.stop.Stop.{Stop}
use Rattle.sch_stops.specs.declared.stop.Stop.TheVariants.{DocumentRefused, ScriptRefused, Missing, ReadFault, Memory}
use Rattle.sch_loading.specs.Reads.{EndsAs, IsLastOf, Named, Opens, OpensAll, Reads, ReadsUpTo, extent_of_document, extent_of_stop, file, schema_file}
use Rattle.sch_loading.specs.Loading.{Fetching, Inclusion, Parsing, as_script, held_under}
use Rattle.sch_stops.specs.Output.{Output}
use Rattle.sch_stops.specs.Stops.{ByCause, counted_if, is_status, name_in, status_of}
use Rattle.sch_loading.specs.Stages.{Came, Is, Stage, goes, halts, unread}
use Rattle.sch_loading.specs.inner.Refusing.{AllowsAll, IsInner, IsInside, extent_of_found, stop_of}
use Rattle.sch_loading.proofs.PartLemmas.{all-first, none-first}

-- The file of a schema with its includes

-- what a stop of an include tells of the outside
record IsIncludeStop (k : IncludeKind) (stop : Stop) : Type 0 where
  usage : is_status status.Usage (status_of stop) ≡ false
  write_fault : is_status status.WriteFault (status_of stop) ≡ false
  misses : (count : ℕ) → misses_with k count ≡ counted_if (is_status status.Missing (status_of stop)) count
  faults : (count : ℕ) → faults_with k count ≡ counted_if (is_status status.ReadFault (status_of stop)) count

include_stop : (k : IncludeKind) (name : List ℕ) → IsIncludeStop k (stop_of k name)
include_stop kind.Missing name = record { usage = refl; write_fault = refl; misses = λ _. refl; faults = λ _. refl }
include_stop kind.Failed name = record { usage = refl; write_fault = refl; misses = λ _. refl; faults = λ _. refl }
include_stop kind.TooLarge name = record { usage = refl; write_fault = refl; misses = λ _. refl; faults = λ _. refl }
include_stop (kind.Doc fault) name = record { usage = refl; write_fault = refl; misses = λ _. refl; faults = λ _. refl }
include_stop _ name = record { usage = refl; write_fault = refl; misses = λ _. refl; faults = λ _. refl }

-- its name is of a file where the fault is of one
include_named : (P : List ℕ → Type 0) (k : IncludeKind) (name : List ℕ) → (is_of_file k ≡ true → P name) → IfSome (name_in (stop_of k name)) P
include_named P kind.Missing name holds = holds refl
include_named P kind.Failed name holds = holds refl
include_named P kind.TooLarge name holds = holds refl
include_named P (kind.Doc fault) name holds = holds refl
include_named P _ name holds = tt

-- and it stops the run at the same file
include_extent : (k : IncludeKind) (name : List ℕ) → extent_with k ≡ extent_of_stop (stop_of k name)
include_extent kind.Missing name = refl
include_extent kind.Failed name = refl
include_extent kind.TooLarge name = refl
include_extent (kind.Doc fault) name = refl
include_extent k name = refl

-- and as the files say
include_told : (files : Files) (schema : List ℕ) (opened : List (List ℕ)) (k : IncludeKind) (name : List ℕ) → Including files schema opened (Err (fault_of k name)) →
    ByCause (λ output. Inclusion files schema opened (halts output)) (λ failed. Inclusion files schema opened (unread failed)) ⊥ (Unit {0}) (stop_of k name)
include_told files schema opened kind.Missing name is = (Err (fault_of kind.Missing name), is, refl)
include_told files schema opened kind.Failed name is = (Err (fault_of kind.Failed name), is, refl)
include_told files schema opened kind.TooLarge name is = (Err (fault_of kind.TooLarge name), is, refl)
include_told files schema opened (kind.Doc fault) name is = (Err (fault_of (kind.Doc fault) name), is, refl)
include_told files schema opened k name is = (Err (fault_of k name), is, refl)

-- the files of a schema that was read
opens_all : (name : List ℕ) (opened : List (List ℕ)) → (opened ≡ [] → ⊥) → IsFirst name opened → OpensAll (schema_file name ∷ []) opened
opens_all name [] some first = absurd (some refl)
opens_all name (own ∷ more) some first = (more, [], refl, ap (λ (n : List ℕ). n ∷ more) first ∙ ap (λ (names : List (List ℕ)). name ∷ names) (sym (append-nil more)))

-- and of one that may not have been
opens_first : (name : List ℕ) (opened : List (List ℕ)) → IsFirst name opened → Opens (schema_file name ∷ []) opened
opens_first name [] first = none-first (schema_file name ∷ [])
opens_first name (own ∷ more) first =
    all-first (schema_file name ∷ []) (own ∷ more) (more, [], refl, ap (λ (n : List ℕ). n ∷ more) first ∙ ap (λ (names : List (List ℕ)). name ∷ names) (sym (append-nil more)))

-- a schema's tree was read
pub schema_loaded : (old new : ShelfState) (name : List ℕ) (tree : Contents) → IsRead old.files name old.opened new.opened (Ok tree) → new.files ≡ old.files →
    new.misses ≡ old.misses → new.faults ≡ old.faults → ReadsThrough all_files old new → Reads old new (schema_file name ∷ []) (λ files. Inclusion files name) (λ (t : Contents). t.nodes) (Ok tree)
schema_loaded old new name tree read held misses faults through = record {
  held = held;
  opened = read.opened;
  noted = read.noted;
  which = opens_all name read.opened (λ none. let clash : Ok tree ≡ Err include.Memory = read.some none in absurd (cc)) read.named_first;
  came = λ files is. (Ok tree.nodes, read.answered files is, refl);
  faults = faults;
  misses = misses;
  told = tt;
  no_usage = refl;
  no_write = refl;
  through = through;
}

-- its includes have a fault
pub schema_faulted : (old new : ShelfState) (name : List ℕ) (fault : IncludeFault) (stop : Stop) → stop ≡ stop_of fault.kind fault.name →
    IsRead old.files name old.opened new.opened (Err (include.Fault fault)) → new.files ≡ old.files →
    new.misses ≡ misses_with fault.kind old.misses → new.faults ≡ faults_with fault.kind old.faults → ReadsThrough (extent_with fault.kind) old new →
    Reads {B = Contents} old new (schema_file name ∷ []) (λ files. Inclusion files name) (λ t. t.nodes) (Err stop)
schema_faulted old new name fault stop is read held misses faults through =
    subst (λ (s : Stop). Reads {B = Contents} old new (schema_file name ∷ []) (λ files. Inclusion files name) (λ t. t.nodes) (Err s)) (sym is) (record {
      held = held;
      opened = read.opened;
      noted = read.noted;
      which = opens_first name read.opened read.named_first;
      came = λ files told. include_told files name read.opened fault.kind fault.name (read.answered files told);
      faults = faults ∙ (include_stop fault.kind fault.name).faults old.faults;
      misses = misses ∙ (include_stop fault.kind fault.name).misses old.misses;
      told = include_named (IsLastOf read.opened) fault.kind fault.name read.last;
      no_usage = (include_stop fault.kind fault.name).usage;
      no_write = (include_stop fault.kind fault.name).write_fault;
      through = subst (λ (extent : Extent). ReadsThrough extent old new) (include_extent fault.kind fault.name) through;
    })

-- memory ran out
pub schema_unread : (old new : ShelfState) (name : List ℕ) → IsRead old.files name old.opened new.opened (Err include.Memory) → new.files ≡ old.files →
    new.misses ≡ old.misses → new.faults ≡ old.faults → ReadsThrough all_or_but_last old new → Reads {B = Contents} old new (schema_file name ∷ []) (λ files. Inclusion files name) (λ t. t.nodes) (Err Memory)
schema_unread old new name read held misses faults through = record {
  held = held;
  opened = read.opened;
  noted = read.noted;
  which = opens_first name read.opened read.named_first;
  came = λ files told. tt;
  faults = faults;
  misses = misses;
  told = tt;
  no_usage = refl;
  no_write = refl;
  through = through;
}

-- A single file

-- the file was opened, and no other
one_file : (name : List ℕ) → OpensAll (file name ∷ []) (name ∷ [])
one_file name = ([], refl, refl)

module _ (old new : ShelfState) (name : List ℕ) (held : new.files ≡ old.files) (noted : new.opened ≡ old.opened ++ name ∷ []) where
  -- it was read whole
  pub file_read : (bytes : List ℕ) → new.ends ≡ old.ends ++ name ∷ [] → new.faults ≡ old.faults → new.misses ≡ old.misses →
      ((files : Files) → old.files ≡ Some files → (get files name ≡ Some bytes) × (length bytes ≤ MAX_FILE_BYTES)) →
      Reads old new (file name ∷ []) (λ files. Fetching files name MAX_FILE_BYTES) (λ (found : Option (List ℕ)). found) (Ok (Some bytes))
  file_read bytes ends faults misses told = record {
    held = held;
    opened = name ∷ [];
    noted = noted;
    which = one_file name;
    came = λ files is. (
      refl,
      inr (
          ap (λ (large : Bool). let came : Came (Option (List ℕ)) = goes (if large then None else Some bytes) in came) (sym (le-ltb MAX_FILE_BYTES (length bytes) (told files is).1))
          ∙ ap (held_under name MAX_FILE_BYTES) (sym (told files is).0)),
    );
    faults = faults;
    misses = misses;
    told = tt;
    no_usage = refl;
    no_write = refl;
    through = read_through old new name noted ends;
  }

  -- it has more bytes than a file may have
  pub file_large : new.ends ≡ old.ends → new.faults ≡ old.faults → new.misses ≡ old.misses →
      ((files : Files) → old.files ≡ Some files → (bytes : List ℕ) × (get files name ≡ Some bytes) × (MAX_FILE_BYTES < length bytes)) →
      ReadsUpTo all_but_last old new (file name ∷ []) (λ files. Fetching files name MAX_FILE_BYTES) (λ (found : Option (List ℕ)). found) (Ok None)
  file_large ends faults misses told = record {
    held = held;
    opened = name ∷ [];
    noted = noted;
    which = one_file name;
    came = λ files is.
        let at = told files is in (
          refl,
          inr (
              ap (λ (large : Bool). let came : Came (Option (List ℕ)) = goes (if large then None else Some at.0) in came) (sym (lt-ltb MAX_FILE_BYTES (length at.0) at.2))
              ∙ ap (held_under name MAX_FILE_BYTES) (sym at.1)),
        );
    faults = faults;
    misses = misses;
    told = tt;
    no_usage = refl;
    no_write = refl;
    through = left_unread old new name noted ends;
  }

  -- there is none of that name
  pub file_missing : new.ends ≡ old.ends → new.faults ≡ old.faults → new.misses ≡ one_more old.misses → ((files : Files) → old.files ≡ Some files → get files name ≡ None) →
      Reads {B = Option (List ℕ)} old new (file name ∷ []) (λ files. Fetching files name MAX_FILE_BYTES) (λ found. found) (Err (Missing name))
  file_missing ends faults misses told = record {
    held = held;
    opened = name ∷ [];
    noted = noted;
    which = all-first (file name ∷ []) (name ∷ []) (one_file name);
    came = λ files is. (refl, inr (ap (held_under name MAX_FILE_BYTES) (sym (told files is))));
    faults = faults;
    misses = misses;
    told = ([], refl);
    no_usage = refl;
    no_write = refl;
    through = left_unread old new name noted ends;
  }

  -- the outside failed
  pub file_failed : new.ends ≡ old.ends → new.faults ≡ one_more old.faults → new.misses ≡ old.misses →
      Reads {B = Option (List ℕ)} old new (file name ∷ []) (λ files. Fetching files name MAX_FILE_BYTES) (λ found. found) (Err (ReadFault name))
  file_failed ends faults misses = record {
    held = held;
    opened = name ∷ [];
    noted = noted;
    which = all-first (file name ∷ []) (name ∷ []) (one_file name);
    came = λ files is. (refl, inl refl);
    faults = faults;
    misses = misses;
    told = ([], refl);
    no_usage = refl;
    no_write = refl;
    through = left_unread old new name noted ends;
  }

  -- memory ran out
  pub file_unread : new.ends ≡ old.ends → new.faults ≡ old.faults → new.misses ≡ old.misses →
      Reads {B = Option (List ℕ)} old new (file name ∷ []) (λ files. Fetching files name MAX_FILE_BYTES) (λ found. found) (Err Memory)
  file_unread ends faults misses = record {
    held = held;
    opened = name ∷ [];
    noted = noted;
    which = all-first (file name ∷ []) (name ∷ []) (one_file name);
    came = λ files is. tt;
    faults = faults;
    misses = misses;
    told = tt;
    no_usage = refl;
    no_write = refl;
    through = one_of_both all_but_last old new (left_unread old new name noted ends);
  }

-- a file that was read whole, and one that has too many bytes
pub found_whole : {A : Type 0} (old new : ShelfState) (named : List Named) (stage : Files → Stage A) (value_of : Option (List ℕ) → A) (found : Option (List ℕ)) (bytes : List ℕ) → found ≡ Some bytes →
    ReadsUpTo (extent_of_found found) old new named stage value_of (Ok found) → Reads old new named stage value_of (Ok found)
found_whole old new named stage value_of found bytes is one = subst (λ (extent : Extent). ReadsUpTo extent old new named stage value_of (Ok found)) (ap extent_of_found is) one

pub found_large : {A : Type 0} (old new : ShelfState) (named : List Named) (stage : Files → Stage A) (value_of : Option (List ℕ) → A) (found : Option (List ℕ)) → ((bytes : List ℕ) → found ≡ Some bytes → ⊥) →
    ReadsUpTo (extent_of_found found) old new named stage value_of (Ok found) → ReadsUpTo all_but_last old new named stage value_of (Ok found)
found_large old new named stage value_of None none one = one
found_large old new named stage value_of (Some bytes) none one = absurd (none bytes refl)

pub found_none : {A : Type 0} (old new : ShelfState) (named : List Named) (stage : Files → Stage A) (value_of : Option (List ℕ) → A) (found : Option (List ℕ)) → found ≡ None →
    ReadsUpTo (extent_of_found found) old new named stage value_of (Ok found) → ReadsUpTo all_but_last old new named stage value_of (Ok found)
found_none old new named stage value_of found none one = subst (λ (extent : Extent). ReadsUpTo extent old new named stage value_of (Ok found)) (ap extent_of_found none) one

-- which stops the run there
pub stopped_there : (old new : ShelfState) (stop here : Stop) → stop ≡ here → ReadsThrough (extent_of_stop here) old new → ReadsThrough (extent_of_stop stop) old new
stopped_there old new stop here is through = subst (λ (s : Stop). ReadsThrough (extent_of_stop s) old new) (sym is) through

-- Documents

-- one that has too many bytes is refused
pub document_too_large : (found : Option (List ℕ)) (stop : Stop) → ((bytes : List ℕ) → found ≡ Some bytes → ⊥) → stop ≡ DocumentRefused (File TooLarge) →
    EndsAs (Parsing found []) (λ (tree : Contents). tree.nodes) (Err stop)
document_too_large None stop none is = subst (λ (s : Stop). EndsAs (Parsing None []) (λ (tree : Contents). tree.nodes) (Err s)) (sym is) (refl, refl)
document_too_large (Some bytes) stop none is = absurd (none bytes refl)

-- the bytes are a document
pub document_loaded : (found : Option (List ℕ)) (bytes slice : List ℕ) (tree : Contents) → found ≡ Some bytes → slice ≡ bytes → doc_fault slice ≡ None → Scoped (bare (events_of Document slice)) tree.nodes →
    EndsAs (Parsing found []) (λ (t : Contents). t.nodes) (Ok tree)
document_loaded found bytes slice tree is same sound scoped =
    subst (λ (f : Option (List ℕ)). EndsAs (Parsing f []) (λ (t : Contents). t.nodes) (Ok tree)) (sym (is ∙ ap (λ (b : List ℕ). Some b) (sym same)))
    (refl, Ok tree.nodes, record { sound = sound; scoped = scoped }, refl)

-- or have a fault
pub document_faulted : (found : Option (List ℕ)) (bytes slice : List ℕ) (fault : DocFault) (stop : Stop) → found ≡ Some bytes → slice ≡ bytes → doc_fault slice ≡ Some fault → stop ≡ DocumentRefused (File (Faulted fault)) →
    EndsAs (Parsing found []) (λ (t : Contents). t.nodes) (Err stop)
document_faulted found bytes slice fault stop is same faulty refused =
    subst (λ (s : Stop). EndsAs (Parsing found []) (λ (t : Contents). t.nodes) (Err s)) (sym refused)
    (subst (λ (f : Option (List ℕ)). EndsAs (Parsing f []) (λ (t : Contents). t.nodes) (Err (DocumentRefused (File (Faulted fault))))) (sym (is ∙ ap (λ (b : List ℕ). Some b) (sym same)))
    (refl, Err fault, faulty, refl))

-- neither is of the outside
pub document_inside : (stop : Stop) (refusal : DocumentRefusal) → stop ≡ DocumentRefused refusal → IsInside stop
document_inside stop refusal is = subst IsInside (sym is) (record { unnamed = refl; usage = refl; missing = refl; read_fault = refl; write_fault = refl })

pub document_inner : (stop : Stop) (refusal : DocumentRefusal) → stop ≡ DocumentRefused refusal → AllowsAll (extent_of_document refusal) → IsInner stop
document_inner stop refusal is allows = record { inside = document_inside stop refusal is; all_read = subst (λ (s : Stop). AllowsAll (extent_of_stop s)) (sym is) allows }

pub memory_inner : (stop : Stop) → stop ≡ Memory → IsInner stop
memory_inner stop is = subst IsInner (sym is) (record { inside = record { unnamed = refl; usage = refl; missing = refl; read_fault = refl; write_fault = refl }; all_read = tt })

-- Scripts

pub script_read : (found : Option (List ℕ)) (bytes : List ℕ) → found ≡ Some bytes → EndsAs (Is (as_script found) []) (λ (b : List ℕ). b) (Ok bytes)
script_read found bytes is = (refl, ap as_script (sym is))

pub script_too_long : (found : Option (List ℕ)) → found ≡ None → EndsAs (Is (as_script found) []) (λ (b : List ℕ). b) (Err (ScriptRefused script.TooLarge))
script_too_long found none = (refl, ap as_script (sym none))

pub script_inside : IsInside (ScriptRefused script.TooLarge)
script_inside = record { unnamed = refl; usage = refl; missing = refl; read_fault = refl; write_fault = refl }
