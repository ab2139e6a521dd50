-- A file without includes is its own tree with the includes replaced.
use Rattle.std.proofs.Common.{◌≡◌, inr, ℕ, zero, suc, ◌+◌, ◌≤◌, Bool, false, List, [], ◌∷◌, ◌++◌, length, None, Some, refl, sym, subst}
use Rattle.std.specs.Prelude.{Ok}
use Rattle.std.specs.FinMap.{get}
use Rattle.std.specs.List.{flat_map}
use Rattle.sch_base.specs.declared.limits.TheConstants.{MAX_INCLUDE_DEPTH}
use Rattle.sch_io.specs.Files.{Files}
use Rattle.sch_io.specs.declared.reading.TheConstants.{MAX_FILE_BYTES}
use Rattle.pyx_core.specs.declared.mode.Mode.TheVariants.{Document}
use Rattle.pyx_core.specs.Nesting.{bare}
use Rattle.pyx_core.specs.Reading.{events_of}
use Rattle.doc_tree.specs.Lines.{Line, closes, opens}
use Rattle.doc_tree.specs.Table.{Table, attrs_of, kids_of}
use Rattle.doc_tree.specs.Walks.{walk}
use Rattle.name_scopes.specs.DocFaults.{doc_fault}
use Rattle.name_scopes.specs.ScopedTree.{Scoped}
use Rattle.sch_include.specs.Included.{Included, as_it_is, nothing, whole_source}
use Rattle.sch_include.specs.Includes.{is_include}
use Rattle.sch_include.specs.Parts.{Choice, InTurn, Part, Standing, Then, Told}
use Rattle.sch_include.specs.Taking.{Taking, Walked, loaded}

-- no node is an include
abbrev pub HasNoInclude : Table → Type 0
HasNoInclude T = (n : ℕ) → is_include T n ≡ false

-- parts that read nothing, one after another
in-turn-plain : (part : ℕ → Part) (lines_of : ℕ → List Line) (standing : Standing) → ((n : ℕ) → part n standing standing (Ok (lines_of n))) → (ns : List ℕ) →
    InTurn part ns standing standing (Ok (flat_map lines_of ns))
in-turn-plain part lines_of standing one [] = (refl, refl)
in-turn-plain part lines_of standing one (n ∷ ns) =
    record { either = inr (standing, lines_of n, Ok (flat_map lines_of ns), one n, in-turn-plain part lines_of standing one ns, refl) }

-- a walk tells the lines of the tree
walked-plain : (taking : ℕ → Part) (T : Table) → HasNoInclude T → (standing : Standing) (levels n : ℕ) → Walked taking T levels n standing standing (Ok (walk T (opens T) (closes T) levels n))
walked-plain taking T none standing zero n = (refl, refl)
walked-plain taking T none standing (suc levels) n =
    let front : List Line = flat_map (opens T) (n ∷ attrs_of T n) in
    let kids : List Line = flat_map (λ kid. walk T (opens T) (closes T) levels kid) (kids_of T n) in
    subst (λ (b : Bool). Choice b (taking n) (Then (Told front) (Then (InTurn (Walked taking T levels) (kids_of T n)) (Told (closes T n)))) standing standing (Ok (front ++ (kids ++ closes T n))))
    (sym (none n)) (record {
      either = inr (
        standing,
        front,
        Ok (kids ++ closes T n),
        (refl, refl),
        record {
          either = inr (
            standing,
            kids,
            Ok (closes T n),
            in-turn-plain (Walked taking T levels) (λ kid. walk T (opens T) (closes T) levels kid) standing (walked-plain taking T none standing levels) (kids_of T n),
            (refl, refl),
            refl,
          );
        },
        refl,
      );
    })

pub included-plain : (files : Files) (name bytes : List ℕ) (T : Table) → get files name ≡ Some bytes → length bytes ≤ MAX_FILE_BYTES → doc_fault bytes ≡ None →
    Scoped (bare (events_of Document bytes)) T → HasNoInclude T → Included files name (name ∷ []) T
included-plain files name bytes T held short sound scoped none =
    let standing : Standing = as_it_is T (record nothing { opened = name ∷ [] }) in
    record {
      after = standing;
      gives = record {
        either = inr (
          T,
          loaded bytes held short sound T scoped,
          walked-plain (Taking files (MAX_INCLUDE_DEPTH + 1) (whole_source name T)) T none standing (length T) 0,
        );
      };
      opens = refl;
      document = record {
        well_formed = scoped.well_formed;
        numbered = scoped.numbered;
        all_live = scoped.all_live;
        document = scoped.document;
      };
    }
