-- How the reading of a schema or a report is stopped.
use Rattle.std.specs.Prelude.{◌≡◌, ℕ, List, false, Option, None, Some, Result, Ok, Err}
use Rattle.sch_io.specs.ReadThrough.{Extent, all_files, all_but_last, all_or_but_last}
use Rattle.doc_tree.specs.Table.{Table}
use Rattle.sch_include.specs.declared.fault.IncludeKind.{IncludeKind}
use Rattle.sch_include.specs.declared.fault.IncludeKind.TheVariants as kind
use Rattle.sch_model.specs.declared.fault.SchemaError.{SchemaError}
use Rattle.sch_model.specs.declared.fault.SchemaError.TheVariants as error
use Rattle.svrl_read.specs.declared.fault.SvrlError.{SvrlError}
use Rattle.svrl_read.specs.declared.fault.SvrlError.TheVariants as svrl
use Rattle.sch_words.specs.declared.status.Status.TheVariants as status
use Rattle.sch_stops.specs.Stops.{ByCause, is_status, name_in, status_of}
use Rattle.sch_stops.specs.declared.refusal.FileRefusal.TheVariants as refusal
use Rattle.sch_stops.specs.declared.refusal.SchemaRefusal.TheVariants as schema
use Rattle.sch_stops.specs.declared.stop.Stop.{Stop}
use Rattle.sch_stops.specs.declared.stop.Stop.TheVariants.{SchemaRefused, Missing, ReadFault}
use Rattle.sch_loading.specs.Loading.{refused_report, refused_rule}
use Rattle.sch_loading.specs.Reads.{extent_of_stop}

-- what a stop tells is not of the outside: neither words nor files nor the output stopped the run, and no file is named
pub record IsInside (stop : Stop) : Type 0 where
  pub unnamed : name_in stop ≡ None
  pub usage : is_status status.Usage (status_of stop) ≡ false
  pub missing : is_status status.Missing (status_of stop) ≡ false
  pub read_fault : is_status status.ReadFault (status_of stop) ≡ false
  pub write_fault : is_status status.WriteFault (status_of stop) ≡ false

-- all files may have been read
abbrev pub AllowsAll : Extent → Type 0
AllowsAll all_files = Unit {0}
AllowsAll all_but_last = ⊥
AllowsAll all_or_but_last = Unit {0}

-- nor does it leave a file unread
pub record IsInner (stop : Stop) : Type 0 where
  pub inside : IsInside stop
  pub all_read : AllowsAll (extent_of_stop stop)

-- how far a file was read in which there may be too many bytes
abbrev pub extent_of_found : {T : Type 0} → Option T → Extent
extent_of_found None = all_but_last
extent_of_found (Some bytes) = all_files

abbrev pub extent_of_fetching : {T : Type 0} → Result (Option T) Stop → Extent
extent_of_fetching (Ok found) = extent_of_found found
extent_of_fetching (Err stop) = extent_of_stop stop

-- the stop of a run whose schema's includes have a fault
abbrev pub stop_of : IncludeKind → List ℕ → Stop
stop_of kind.Missing name = Missing name
stop_of kind.Failed name = ReadFault name
stop_of kind.TooLarge name = SchemaRefused (schema.File name refusal.TooLarge)
stop_of (kind.Doc fault) name = SchemaRefused (schema.File name (refusal.Faulted fault))
stop_of kind name = SchemaRefused (schema.Include kind name)

-- a stop of a run whose schema, with this tree, is refused for the error: it tells the broken rule, or memory ran out
abbrev pub IsRefusal : Table → SchemaError → Stop → Type 0
IsRefusal T (error.Fault fault) stop = ByCause (λ output. output ≡ refused_rule T fault) (λ _. ⊥) ⊥ (Unit {0}) stop
IsRefusal T error.Memory stop = ByCause (λ _. ⊥) (λ _. ⊥) ⊥ (Unit {0}) stop

-- the same of a run whose report, with this tree, is refused for the error
abbrev pub IsReportRefusal : Table → SvrlError → Stop → Type 0
IsReportRefusal T (svrl.Fault fault) stop = ByCause (λ output. output ≡ refused_report T fault) (λ _. ⊥) ⊥ (Unit {0}) stop
IsReportRefusal T svrl.Memory stop = ByCause (λ _. ⊥) (λ _. ⊥) ⊥ (Unit {0}) stop
