-- The whole of a schema's own file can be read to an end.
use Rattle.std.proofs.Common.{◌≡◌, inl, inr, ℕ, ◌+◌, List, [], ◌∷◌, length, Result, Ok, Err, refl, ap, arith}
use Rattle.sch_base.specs.declared.limits.TheConstants.{MAX_INCLUDE_DEPTH}
use Rattle.sch_io.specs.Files.{Files}
use Rattle.doc_table.specs.inner.Sound.{Formed}
use Rattle.doc_table.proofs.Forests.{formed-of}
use Rattle.doc_table.proofs.SoundLemmas.{sound_alone}
use Rattle.doc_table.proofs.TreeLaws.{ordered, ways-up, well-formed}
use Rattle.doc_tree.specs.Lines.{lines}
use Rattle.doc_tree.specs.Table.{Table, root_alone}
use Rattle.doc_tree.specs.Walks.{below}
use Rattle.name_scopes_laws.specs.Documents.{DocumentsHaveTrees}
use Rattle.sch_include.specs.declared.fault.IncludeError.{IncludeError}
use Rattle.sch_include.specs.declared.fault.IncludeError.TheVariants as error
use Rattle.sch_include.specs.declared.fault.IncludeFault.{IncludeFault}
use Rattle.sch_include.specs.Included.{HasFailed, Including, WholeFile, nothing}
use Rattle.sch_include.specs.Taking.{Loading, text_below}
use Rattle.sch_include.specs.inner.Joining.{CanWalkKids, Gives, IsFile, ReadsWhole, standing_of}
use Rattle.sch_include.proofs.TakeLemmas.{upto-length}
use Rattle.sch_include.proofs.WholeLemmas.{whole-can, whole-document, whole-reads}
use Rattle.sch_include_laws.specs.SomeInclusion.{SomeInclusion}
use Rattle.sch_include_laws.proofs.Walking.{IsEnd, Joiner, OpenFile, WentKids, all-walked, file-loaded, kids-walked, loaded-file, names_read, opened_file}

-- the end of a schema's file
abbrev Ends : Files → List ℕ → Type 0
Ends files name = (opened : List (List ℕ)) × (result : Result Table IncludeFault) × Including files name opened result × (HasFailed result → ⊥)

module _ (trees : DocumentsHaveTrees) (files : Files) (name : List ℕ) (T : Table) (loads : Loading files name (Ok T)) where
  is-file : IsFile T
  is-file = loaded-file files name T loads

  sound : Formed T
  sound = formed-of T is-file.well_formed

  abbrev file : OpenFile
  file = opened_file name T 0

  -- before and after the file is entered
  abbrev old : Joiner
  old = record {
    alloc = record { memory = record { seal = tt } };
    tree = root_alone;
    nodes = 0;
    text = 0;
    opened = name ∷ [];
    reading = names_read [] (omega arith);
  }

  abbrev entered : Joiner
  entered = record old { nodes = length (below T 0); text = text_below T 0; reading = names_read (name ∷ []) (omega arith) }

  can : CanWalkKids entered file 0 0
  can = whole-can old entered file refl refl refl refl refl is-file.well_formed (ordered T sound) is-file (ways-up T sound)

  kids : WentKids files entered file 0 0
  kids =
      kids-walked files (MAX_INCLUDE_DEPTH + 1) (length T) (all-walked trees files (MAX_INCLUDE_DEPTH + 1) (length T)) entered file 0 0 can (omega arith)
      (omega (arith, ap length is-file.numbered, upto-length (length T))) (sound_alone []).formed

  reads : ReadsWhole old kids.new T name kids.result (λ other. other ≡ files)
  reads = whole-reads old entered file refl refl refl refl refl is-file.well_formed (ordered T sound) kids.new (λ other. other ≡ files) kids.result kids.walks is-file.numbered refl

  whole-end : Ends files name
  whole-end = by kids.result refl kids.ends (reads.gives files refl)
    where
      by : (r : Result (Unit {0}) IncludeError) → kids.result ≡ r → IsEnd r → Gives (WholeFile files name T) (standing_of old) (standing_of kids.new) (lines kids.new.tree.nodes) r → Ends files name
      by (Ok done) ok ends gives = (
        kids.new.opened,
        Ok kids.new.tree.nodes,
        record {
          after = standing_of kids.new;
          gives = record { either = inr (T, loads, gives) };
          opens = refl;
          document = whole-document old entered file refl refl refl refl refl is-file.well_formed (ordered T sound) kids.new (λ other. other ≡ files) kids.result kids.walks
              is-file (well-formed kids.new.tree.nodes kids.formed) ok;
        },
        λ h. h,
      )
      by (Err (error.Fault fault)) stop ends gives =
          (kids.new.opened, Err fault, record { after = standing_of kids.new; stops = record { either = inr (T, loads, gives) }; opens = refl }, ends)
      by (Err error.Memory) stop ends gives = absurd ends

-- a file that is no tree
unopened : (files : Files) (name : List ℕ) (r : Result Table IncludeFault) → Loading files name r → (HasFailed r → ⊥) → DocumentsHaveTrees → Ends files name
unopened files name (Ok T) loads ends trees = whole-end trees files name T loads
unopened files name (Err fault) loads ends trees =
    (name ∷ [], Err fault, record { after = record nothing { opened = name ∷ [] }; stops = record { either = inl (fault, loads, refl, refl) }; opens = refl }, ends)

pub some-inclusion : DocumentsHaveTrees → SomeInclusion
some-inclusion trees files name = let found = file-loaded trees files name in unopened files name found.0 found.1 found.2 trees
