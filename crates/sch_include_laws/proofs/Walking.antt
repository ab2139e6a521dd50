-- Each node of a file, and all below it, can be walked to an end.
use Rattle.std.proofs.Common.{◌≡◌, ℕ, zero, suc, ◌+◌, ◌-◌, ◌<◌, ◌≤◌, Bool, true, false, List, [], ◌∷◌, ◌++◌, length, take, slice_index_or, Option, None, Some, Result, Ok, Err, refl, sym, ap, ◌∙◌, subst, ⊎_elim, arith, length-append}
use denote.RawPtr.{null_ptr}
use Rattle.std.specs.Prelude.{◌^◌, codes, if◌then◌else◌}
use Rattle.std.specs.FinMap.{get}
use Rattle.std.proofs.lemmas.Bool.{cases_lt}
use Rattle.std.proofs.lemmas.List.{take_all}
use Rattle.sch_base.specs.declared.limits.TheConstants.{MAX_INCLUDE_DEPTH}
use Rattle.sch_io.specs.Files.{Files}
use Rattle.sch_io.specs.declared.reading.TheConstants.{MAX_FILE_BYTES}
use Rattle.doc_table.specs.inner.Sound.{Formed}
use Rattle.doc_table.proofs.Forests.{formed-of}
use Rattle.doc_table.proofs.TreeLaws.{ordered, ways-up}
use Rattle.doc_tree.specs.Laws.{HasWaysUp, Ordered, WellFormed}
use Rattle.doc_tree.specs.Table.{Contents, Table, kids_of}
use Rattle.doc_tree.specs.Walks.{ancestors, below}
use Rattle.name_scopes.specs.DocFaults.{doc_fault}
use Rattle.name_scopes.specs.declared.fault.DocFault.{DocFault}
use Rattle.name_scopes_laws.specs.Documents.{DocumentsHaveTrees}
use Rattle.sch_rules.specs.Attributes.{said}
use Rattle.sch_rules.specs.Elements.{document_element}
use Rattle.sch_include.specs.declared.fault.IncludeError.{IncludeError}
use Rattle.sch_include.specs.declared.fault.IncludeError.TheVariants as error
use Rattle.sch_include.specs.declared.fault.IncludeFault.{IncludeFault}
use Rattle.sch_include.specs.declared.fault.IncludeKind.{IncludeKind}
use Rattle.sch_include.specs.declared.fault.IncludeKind.TheVariants as kind
use Rattle.sch_include.specs.Included.{HasFailed}
use Rattle.sch_include.specs.Includes.{file_named, has_fragment, has_scheme, is_include}
use Rattle.sch_include.specs.Parts.{Standing}
use Rattle.sch_include.specs.Taking.{Loading, Source, allowed_name, fault_of, faulty, included_name, loaded, missing, named_by, text_below, too_large}
use Rattle.sch_include.specs.inner.Joining.{CanWalk, CanWalkKids, IsFile, Keeps, TakesFile, Walks, WalksFile, WalksKids, fit_fault, source_of, standing_of}
use Rattle.sch_include.proofs.FileLemmas.{Fitted, fitted-can, fitted-keeps, fitted-takes, node-shallow, unfit-takes, unopened-takes, above-include}
use Rattle.sch_include.proofs.KidLemmas.{kids-can, kids-more, kids-none, kids-stop}
use Rattle.sch_include.proofs.NodeLemmas.{kids-walk, node-keeps, node-walks, takes-node}
use Rattle.sch_include.proofs.TakeLemmas.{entered-can, file-keeps, file-walks, name-depth, refused-walks, take-walks, document-levels}
use Rattle.sch_include.proofs.WalkLemmas.{below-count, kid-bound}
use Rattle.sch_include_laws.proofs.Copying.{Copy, item-at, node-copy}

-- what a call takes, first and second
abbrev First : {A B : Type 0} → (A → B) → Type 0
First {A = A} f = A

abbrev Second : {A B C : Type 0} → (A → B → C) → Type 0
Second {B = B} f = B

-- a tree that grows, and a file that is read into it
abbrev pub Joiner : Type 0
Joiner = First standing_of

abbrev pub OpenFile : Type 0
OpenFile = Second source_of

abbrev Value : {A B : Type 0} → (A → B) → Type 0
Value {B = B} f = B

-- the names of the files that are being read
pub le-self : (n : ℕ) → n ≤ n
le-self n = omega arith

pub few-names : (n : ℕ) → n ≤ MAX_INCLUDE_DEPTH + 1 → n < 2 ^ 63
few-names n few = omega (arith, few)

abbrev pub names_read : (items : List (List ℕ)) → length items ≤ MAX_INCLUDE_DEPTH + 1 → Value (λ (joiner : Joiner). joiner.reading)
names_read items few = record {
  ptr = null_ptr;
  len = length items;
  cap = length items;
  alloc = record { memory = record { seal = tt } };
  items = items;
  ok = (refl, le-self (length items));
  small = few-names (length items) few;
}

one-more : (items : List (List ℕ)) (name : List ℕ) → length items ≤ MAX_INCLUDE_DEPTH → length (items ++ name ∷ []) ≤ MAX_INCLUDE_DEPTH + 1
one-more items name few = omega (arith, few, length-append items (name ∷ []))

-- a tree, or a fault that is not of the outside
abbrev pub IsEnd : Result (Unit {0}) IncludeError → Type 0
IsEnd (Ok done) = Unit {0}
IsEnd (Err (error.Fault fault)) = fault.kind ≡ kind.Failed → ⊥
IsEnd (Err error.Memory) = ⊥

-- Files

bytes-loaded : DocumentsHaveTrees → (files : Files) (name bytes : List ℕ) → get files name ≡ Some bytes → length bytes ≤ MAX_FILE_BYTES → (found : Option DocFault) → doc_fault bytes ≡ found →
    (r : Result Table IncludeFault) × Loading files name r × (HasFailed r → ⊥)
bytes-loaded trees files name bytes held small None is =
    let made = trees bytes is (omega (arith, small)) in
    (Ok made.0, loaded bytes held small is made.0 made.1, λ h. h)
bytes-loaded trees files name bytes held small (Some fault) is =
    (Err (fault_of (kind.Doc fault) name), faulty bytes held small fault is, λ (h : kind.Doc fault ≡ kind.Failed). cc)

held-loaded : DocumentsHaveTrees → (files : Files) (name : List ℕ) (held : Option (List ℕ)) → get files name ≡ held → (r : Result Table IncludeFault) × Loading files name r × (HasFailed r → ⊥)
held-loaded trees files name None is = (Err (fault_of kind.Missing name), missing is, λ (h : kind.Missing ≡ kind.Failed). cc)
held-loaded trees files name (Some bytes) is =
    ⊎_elim
    (λ (large : MAX_FILE_BYTES < length bytes). (Err (fault_of kind.TooLarge name), too_large bytes is large, λ (h : kind.TooLarge ≡ kind.Failed). cc))
    (λ (small : length bytes ≤ MAX_FILE_BYTES). bytes-loaded trees files name bytes is small (doc_fault bytes) refl)
    (cases_lt MAX_FILE_BYTES (length bytes))

-- what a file is as a tree, where the outside doesn't fail
pub file-loaded : DocumentsHaveTrees → (files : Files) (name : List ℕ) → (r : Result Table IncludeFault) × Loading files name r × (HasFailed r → ⊥)
file-loaded trees files name = held-loaded trees files name (get files name) refl

pub loaded-file : (files : Files) (name : List ℕ) (T : Table) → Loading files name (Ok T) → IsFile T
loaded-file files name T (loaded bytes held small sound _ scoped) = record {
  in_scope = scoped.in_scope;
  numbered = scoped.numbered;
  all_live = scoped.all_live;
  well_formed = scoped.well_formed;
  document = scoped.document;
}

-- what refuses a name, or a tree, is not of the outside
abbrev NotFailed : Result (List ℕ) IncludeFault → Type 0
NotFailed (Ok name) = Unit {0}
NotFailed (Err fault) = fault.kind ≡ kind.Failed → ⊥

name-not-failed : (source : Source) (standing : Standing) (said : Option (List ℕ)) → NotFailed (named_by source standing said)
name-not-failed source standing None = λ (h : kind.NoHref ≡ kind.Failed). cc
name-not-failed source standing (Some href) = by (has_scheme href) (has_fragment href)
  where
    allowed : (name : List ℕ) (a b c : Bool) → NotFailed (if a then Err (fault_of kind.Cycle name) else if b then Err (fault_of kind.TooDeep name) else if c then Err (fault_of kind.TooMany name) else Ok name)
    allowed name true b c = λ (h : kind.Cycle ≡ kind.Failed). cc
    allowed name false true c = λ (h : kind.TooDeep ≡ kind.Failed). cc
    allowed name false false true = λ (h : kind.TooMany ≡ kind.Failed). cc
    allowed name false false false = tt

    by : (a b : Bool) → NotFailed (if a then Err (fault_of kind.Scheme href) else if b then Err (fault_of kind.Fragment href) else allowed_name source standing (file_named source.name href))
    by true b = λ (h : kind.Scheme ≡ kind.Failed). cc
    by false true = λ (h : kind.Fragment ≡ kind.Failed). cc
    by false false = allowed (file_named source.name href) _ _ _

unfit-not-failed : (a b c : Bool) (found : IncludeKind) → (if a then Some kind.TooManyNodes else if b then Some kind.TreeTooDeep else if c then Some kind.TooMuchText else None) ≡ Some found → found ≡ kind.Failed → ⊥
unfit-not-failed true b c found is bad = let h : kind.TooManyNodes ≡ kind.Failed = cc in cc
unfit-not-failed false true c found is bad = let h : kind.TreeTooDeep ≡ kind.Failed = cc in cc
unfit-not-failed false false true found is bad = let h : kind.TooMuchText ≡ kind.Failed = cc in cc
unfit-not-failed false false false found is bad = cc

-- Nodes

pub record Went (files : Files) (old : Joiner) (file : OpenFile) (n p : ℕ) : Type 0 where
  pub new : Joiner
  pub result : Result (Unit {0}) IncludeError
  pub formed : Formed new.tree.nodes
  pub ends : IsEnd result
  pub keeps : result ≡ Ok tt → Keeps old new file n
  pub walks : Walks old new file n p result (λ other. other ≡ files)

pub record WentKids (files : Files) (old : Joiner) (file : OpenFile) (n p : ℕ) : Type 0 where
  pub new : Joiner
  pub result : Result (Unit {0}) IncludeError
  pub formed : Formed new.tree.nodes
  pub ends : IsEnd result
  pub walks : WalksKids old new file n (kids_of file.tree.now.nodes n) p result (λ other. other ≡ files)

-- a file's tree is one
file-formed : (T : Table) → IsFile T → Formed T
file-formed T is = formed-of T is.well_formed

-- a walk of a node, where so many files may still be read, one inside another, and the way down has at most so many levels
abbrev pub WalksAt : Files → ℕ → ℕ → Type 0
WalksAt files fuel levels = (old : Joiner) (file : OpenFile) (n p : ℕ) → Formed old.tree.nodes → CanWalk old file n p →
    fuel + length old.reading.items ≡ MAX_INCLUDE_DEPTH + 2 → length (below file.tree.now.nodes n) ≤ levels → Went files old file n p

-- the kids of a node, one after the other
module _ (files : Files) (fuel levels : ℕ) (walk : WalksAt files fuel levels) (old : Joiner) (file : OpenFile) (n p : ℕ) (can : CanWalkKids old file n p)
    (deep : fuel + length old.reading.items ≡ MAX_INCLUDE_DEPTH + 2) (room : length (below file.tree.now.nodes n) ≤ suc levels) where
  abbrev T : Table
  T = file.tree.now.nodes

  form : WellFormed T
  form = can.is_file.well_formed

  in_order : Ordered T
  in_order = ordered T (file-formed T can.is_file)

  ways : HasWaysUp T
  ways = ways-up T (file-formed T can.is_file)

  kids-on : (j i : ℕ) → i + j ≡ length (kids_of T n) → (mid : Joiner) → Formed mid.tree.nodes → WalksKids old mid file n (take i (kids_of T n)) p (Ok tt) (λ other. other ≡ files) → WentKids files old file n p
  kids-on zero i end mid formed was = record {
    new = mid;
    result = Ok tt;
    formed = formed;
    ends = tt;
    walks = subst (λ (ks : List ℕ). WalksKids old mid file n ks p (Ok tt) (λ other. other ≡ files)) (take_all i (kids_of T n) (omega (arith, end))) was;
  }
  kids-on (suc j) i end mid formed was =
      let less : i < length (kids_of T n) = omega (arith, end) in
      let at = item-at (kids_of T n) i less in
      let kid : ℕ = at.0 in
      let next : CanWalk mid file kid p = kids-can old mid file n p i kid (λ other. other ≡ files) can was at.1 less form in_order ways in
      let reading = (was.joins refl).reading in
      let went : Went files mid file kid p =
      walk mid file kid p formed next (ap (λ (names : List (List ℕ)). fuel + length names) reading ∙ deep)
      (omega (arith, room, below-count T in_order n, kid-bound T n i kid at.1 less)) in
      by less kid at.1 went (λ new sound more. kids-on j (i + 1) (omega (arith, end)) new sound more) went.result refl
    where
      by : i < length (kids_of T n) → (kid : ℕ) → kid ≡ slice_index_or (kids_of T n) i kid → (went : Went files mid file kid p) →
          ((new : Joiner) → Formed new.tree.nodes → WalksKids old new file n (take (i + 1) (kids_of T n)) p (Ok tt) (λ other. other ≡ files) → WentKids files old file n p) →
          (r : Result (Unit {0}) IncludeError) → went.result ≡ r → WentKids files old file n p
      by less kid is went further (Ok done) ok =
          further went.new went.formed
          (kids-more old mid file n p i kid (λ other. other ≡ files) can was is less form in_order ways went.new (λ other. other ≡ files) (λ other same. same) (ways-up mid.tree.nodes formed) (went.keeps ok)
          (subst (λ (r : Result (Unit {0}) IncludeError). Walks mid went.new file kid p r (λ other. other ≡ files)) ok went.walks))
      by less kid is went further (Err e) stop = record {
        new = went.new;
        result = Err e;
        formed = went.formed;
        ends = subst IsEnd stop went.ends;
        walks = kids-stop old mid file n p i kid (λ other. other ≡ files) can was is less form in_order ways went.new (λ other. other ≡ files) (λ other same. same) e
            (subst (λ (r : Result (Unit {0}) IncludeError). Walks mid went.new file kid p r (λ other. other ≡ files)) stop went.walks);
      }

  pub kids-walked : Formed old.tree.nodes → WentKids files old file n p
  kids-walked formed = kids-on (length (kids_of T n)) 0 (omega arith) old formed (kids-none old file n p (λ other. other ≡ files) can)

-- a node that is no include
node-walked : (files : Files) (fuel levels : ℕ) (walk : WalksAt files fuel levels) (old : Joiner) (file : OpenFile) (n p : ℕ) → Formed old.tree.nodes → (can : CanWalk old file n p) →
    fuel + length old.reading.items ≡ MAX_INCLUDE_DEPTH + 2 → length (below file.tree.now.nodes n) ≤ suc levels → is_include file.tree.now.nodes n ≡ false → Went files old file n p
node-walked files fuel levels walk old file n p formed can deep room isnt =
    let T : Table = file.tree.now.nodes in
    let in_order : Ordered T = ordered T (file-formed T can.is_file) in
    let copy : Copy old.tree.nodes p T n = node-copy old.tree.nodes p T n formed can.is_file.well_formed (takes-node old file n p can in_order (node-shallow old file n p can in_order)) in
    let tree : Contents = record old.tree { nodes = copy.0 } in
    let kids : WentKids files (record old { tree = tree }) file n copy.1 =
    kids-walked files fuel levels walk (record old { tree = tree }) file n copy.1 (kids-walk old file n p can in_order tree copy.1 copy.3) deep room copy.2 in
    record {
      new = kids.new;
      result = kids.result;
      formed = kids.formed;
      ends = kids.ends;
      keeps = node-keeps old file n p can in_order tree copy.1 copy.3 kids.new (λ other. other ≡ files) kids.result kids.walks;
      walks = node-walks old file n p can in_order tree copy.1 copy.3 kids.new (λ other. other ≡ files) kids.result kids.walks (ways-up kids.new.tree.nodes kids.formed) isnt;
    }

-- a file that was opened
abbrev pub opened_file : List ℕ → Table → ℕ → OpenFile
opened_file name T above = record {
  tree = record { ref_ptr = (0, 0); now = record { nodes = T; names = []; pair_cap = 0 } };
  name = record { ref_ptr = (0, 0); now = name };
  above = above;
}

-- an include
module _ (trees : DocumentsHaveTrees) (files : Files) (fuel : ℕ) (deeper : (levels : ℕ) → WalksAt files fuel levels) (old : Joiner) (file : OpenFile) (n p : ℕ) (formed : Formed old.tree.nodes)
    (can : CanWalk old file n p) (deep : suc fuel + length old.reading.items ≡ MAX_INCLUDE_DEPTH + 2) (is : is_include file.tree.now.nodes n ≡ true) where
  abbrev S : Table
  S = file.tree.now.nodes

  source-order : Ordered S
  source-order = ordered S (file-formed S can.is_file)

  source-ways : HasWaysUp S
  source-ways = ways-up S (file-formed S can.is_file)

  abbrev Named : List ℕ → Type 0
  Named name = included_name (source_of old file) (standing_of old) n ≡ Ok name

  refused : (fault : IncludeFault) → included_name (source_of old file) (standing_of old) n ≡ Err fault → Went files old file n p
  refused fault named = record {
    new = old;
    result = Err (error.Fault fault);
    formed = formed;
    ends = subst NotFailed named (name-not-failed (source_of old file) (standing_of old) (said S n (codes "href")));
    keeps = λ ok. absurd (cc);
    walks = refused-walks old file n p (error.Fault fault) (λ other. other ≡ files) can source-order is named;
  }

  -- the file that it names is opened
  abbrev opened-at : List ℕ → Joiner
  opened-at name = record old { opened = old.opened ++ name ∷ [] }

  abbrev above : ℕ
  above = (file.above + length (ancestors S n)) - 1

  taken : (name : List ℕ) (new : Joiner) (result : Result (Unit {0}) IncludeError) → Named name → Formed new.tree.nodes → IsEnd result → (result ≡ Ok tt → Keeps old new file n) →
      TakesFile old new file n p name result (λ other. other ≡ files) → Went files old file n p
  taken name new result named new_formed ends keeps takes = record {
    new = new;
    result = result;
    formed = new_formed;
    ends = ends;
    keeps = keeps;
    walks = take-walks old new file n p name result (λ other. other ≡ files) can source-order is named takes;
  }

  module _ (name : List ℕ) (named : Named name) where
    unread : (fault : IncludeFault) → Loading files name (Err fault) → (fault.kind ≡ kind.Failed → ⊥) → Went files old file n p
    unread fault loads ends =
        taken name (opened-at name) (Err (error.Fault fault)) named formed ends (λ ok. absurd (cc))
        (unopened-takes old (opened-at name) file n p name (error.Fault fault) (λ other. other ≡ files) (λ other same. subst (λ (f : Files). Loading f name (Err fault)) (sym same) loads) refl (λ _. refl))

    module _ (T : Table) (loads : Loading files name (Ok T)) where
      loads-so : (other : Files) → other ≡ files → Loading other name (Ok T)
      loads-so other same = subst (λ (f : Files). Loading f name (Ok T)) (sym same) loads

      is-file : IsFile T
      is-file = loaded-file files name T loads

      its-order : Ordered T
      its-order = ordered T (file-formed T is-file)

      its-ways : HasWaysUp T
      its-ways = ways-up T (file-formed T is-file)

      unfit : (found : IncludeKind) → Some found ≡ fit_fault S n T above (standing_of (opened-at name)) → (found ≡ kind.Failed → ⊥) → Went files old file n p
      unfit found fault ends =
          taken name (opened-at name) (Err (error.Fault (fault_of found name))) named formed ends (λ ok. absurd (cc))
          (unfit-takes old (opened-at name) file n p name T above (λ other. other ≡ files) loads-so refl refl (above-include old file n p can is can.is_file.well_formed source-ways (length (ancestors S n)) refl)
          (opened-at name) found refl fault)

      -- it takes the include's place
      abbrev placed : Joiner
      placed = record (opened-at name) {
        nodes = (old.nodes + length (below T (document_element T))) - length (below S n);
        text = (old.text + text_below T (document_element T)) - text_below S n;
      }

      abbrev entered : Joiner
      entered = record placed { reading = names_read (old.reading.items ++ name ∷ []) (one-more old.reading.items name (name-depth old file n name named)) }

      fits : None ≡ fit_fault S n T above (standing_of (opened-at name)) → Fitted old (opened-at name) placed file (opened_file name T above) n p
      fits none = record {
        can = can;
        is = is;
        formed = can.is_file.well_formed;
        ordered = source-order;
        ways = source-ways;
        same = refl;
        placed_is = refl;
        nodes = refl;
        text = refl;
        fits = none;
        above_is = refl;
        is_file = is-file;
        its_formed = is-file.well_formed;
        its_ordered = its-order;
        its_ways = its-ways;
      }

      fit : None ≡ fit_fault S n T above (standing_of (opened-at name)) → Went files old file n p
      fit none =
          let fitted = fits none in
          let included : OpenFile = opened_file name T above in
          let may : CanWalk entered included (document_element T) p =
          entered-can placed entered included p refl refl refl refl (name-depth old file n name named) (fitted-can old (opened-at name) placed file included n p fitted) in
          let went : Went files entered included (document_element T) p =
          deeper (length T) entered included (document_element T) p formed may (omega (arith, deep, length-append old.reading.items (name ∷ []))) (document-levels T is-file.well_formed its-order its-ways is-file.document is-file.numbered) in
          let left : Joiner = record went.new { reading = old.reading } in
          let walked : WalksFile placed left included p went.result (λ other. other ≡ files) =
          file-walks placed entered went.new included p refl refl refl refl refl is-file.well_formed its-order its-ways is-file (λ other. other ≡ files) went.result went.walks left refl refl refl refl in
          taken name left went.result named went.formed went.ends
          (λ ok. fitted-keeps old (opened-at name) placed file included n p fitted left
          (file-keeps placed entered went.new included p refl refl refl refl refl is-file.well_formed its-order its-ways is-file (λ other. other ≡ files) went.result went.walks (went.keeps ok) left refl refl refl refl))
          (fitted-takes old (opened-at name) placed file included n p fitted left name (λ other. other ≡ files) (λ other. other ≡ files) went.result walked (λ other same. same) loads-so refl refl)

      tree-taken : (found : Option IncludeKind) → fit_fault S n T above (standing_of (opened-at name)) ≡ found → Went files old file n p
      tree-taken None none = fit (sym none)
      tree-taken (Some found) fault = unfit found (sym fault) (unfit-not-failed _ _ _ found fault)

    file-taken : (r : Result Table IncludeFault) → Loading files name r → (HasFailed r → ⊥) → Went files old file n p
    file-taken (Ok T) loads ends = tree-taken T loads (fit_fault S n T above (standing_of (opened-at name))) refl
    file-taken (Err fault) loads ends = unread fault loads ends

  include-walked : Went files old file n p
  include-walked = by (included_name (source_of old file) (standing_of old) n) refl
    where
      by : (r : Result (List ℕ) IncludeFault) → included_name (source_of old file) (standing_of old) n ≡ r → Went files old file n p
      by (Err fault) named = refused fault named
      by (Ok name) named = let found = file-loaded trees files name in file-taken name named found.0 found.1 found.2

module _ (trees : DocumentsHaveTrees) (files : Files) where
  levels-walked : (fuel : ℕ) → ((levels : ℕ) → WalksAt files fuel levels) → (levels : ℕ) → WalksAt files (suc fuel) levels
  levels-walked fuel deeper zero old file n p formed can deep room =
      absurd (omega (arith, room, below-count file.tree.now.nodes (ordered file.tree.now.nodes (file-formed file.tree.now.nodes can.is_file)) n))
  levels-walked fuel deeper (suc levels) old file n p formed can deep room =
      by (λ file_old at m q sound may far wide. levels-walked fuel deeper levels file_old at m q sound may far wide) (is_include file.tree.now.nodes n) refl
    where
      by : WalksAt files (suc fuel) levels → (b : Bool) → is_include file.tree.now.nodes n ≡ b → Went files old file n p
      by lower true is = include-walked trees files fuel deeper old file n p formed can deep is
      by lower false is = node-walked files (suc fuel) levels lower old file n p formed can deep room is

  pub all-walked : (fuel levels : ℕ) → WalksAt files fuel levels
  all-walked zero levels old file n p formed can deep room = absurd (omega (arith, deep, can.files))
  all-walked (suc fuel) levels old file n p formed can deep room = levels-walked fuel (all-walked fuel) levels old file n p formed can deep room
