-- An include, and the file that it names.
use Rattle.std.proofs.Common.{◌≡◌, ℕ, zero, suc, ◌+◌, ◌-◌, ◌≤◌, Bool, true, false, List, [], ◌∷◌, ◌++◌, length, Option, None, Some, refl, sym, ap, ◌∙◌, subst, true≢false, arith, append-nil, length-append}
use Rattle.std.specs.Prelude.{Result, Ok, Err, ◌&&◌, ◌==◌, find, nat_lt, count_by, codes, if◌then◌else◌}
use Rattle.std.specs.List.{list_any}
use Rattle.std.specs.Str.{bytes_eq}
use Rattle.std.proofs.lemmas.Bool.{eqb-true, ltb-false}
use Rattle.sch_base.specs.declared.limits.TheConstants.{MAX_INCLUDES, MAX_INCLUDE_DEPTH}
use Rattle.sch_io.specs.Files.{Files}
use Rattle.doc_tree.proofs.ListLemmas.{mem-head, mem-tail}
use Rattle.doc_tree.specs.kind.Kind.{Kind}
use Rattle.doc_tree.specs.kind.Kind.TheVariants as kinds
use Rattle.doc_tree.specs.InOrder.{IsInOrder}
use Rattle.doc_tree.specs.Kinds.{is_document, is_element, is_text}
use Rattle.doc_tree.specs.Laws.{HasWaysUp, Ordered, WellFormed}
use Rattle.doc_tree.specs.Lines.{Line}
use Rattle.doc_tree.specs.Lists.{mem, upto}
use Rattle.doc_tree.specs.Table.{Contents, Table, is_live, kids_of, kind_of}
use Rattle.doc_tree.specs.Walks.{above, ancestors, below, order, text_bytes}
use Rattle.doc_tree.specs.Growth.{ends_in_text}
use Rattle.sch_io.specs.ReadThrough.{Extent, ReadsThrough, all_files}
use Rattle.sch_io.specs.ShelfState.{ShelfState}
use Rattle.sch_io.proofs.ReadThrough.{nothing_through}
use Rattle.sch_rules.specs.Attributes.{said}
use Rattle.sch_rules.specs.Elements.{document_element, first_or}
use Rattle.sch_include.specs.declared.fault.IncludeError.{IncludeError}
use Rattle.sch_include.specs.declared.fault.IncludeError.TheVariants as error
use Rattle.sch_include.specs.declared.fault.IncludeFault.{IncludeFault}
use Rattle.sch_include.specs.declared.fault.IncludeKind.{IncludeKind}
use Rattle.sch_include.specs.declared.fault.IncludeKind.TheVariants as kind
use Rattle.sch_include.specs.declared.joiner.Joiner.{Joiner}
use Rattle.sch_include.specs.declared.source.OpenFile.{OpenFile}
use Rattle.sch_include.specs.Ends.{extent_with, faults_with, is_of_file, misses_with}
use Rattle.sch_include.specs.inner.Growing.{Receives}
use Rattle.sch_include.specs.Includes.{file_named, has_fragment, has_scheme, is_include}
use Rattle.sch_include.specs.Parts.{Standing, With}
use Rattle.sch_include.specs.Taking.{Opening, Placing, Reading, Source, Taking, Walked, allowed_name, fault_of, included_name, named_by}
use Rattle.sch_include.specs.inner.Joining.{CanWalk, Gives, IsFile, IsNamed, Joins, Keeps, Shows, TakesFile, Walks, WalksFile, entered_source, source_of, standing_of}
use Rattle.sch_include.proofs.KidLemmas.{shows-memory}
use Rattle.sch_include.proofs.PartLemmas.{gives-include}
use Rattle.sch_include.proofs.WalkLemmas.{below-count}

abbrev Finished : Result (Unit {0}) IncludeError
Finished = Ok tt

-- the test of the limits
pub choose-none : (a b c : Bool) (x y z : IncludeKind) (name : List ℕ) (placed : Standing) → (if a then Some x else if b then Some y else if c then Some z else None) ≡ None →
    (if a then Err (fault_of x name) else if b then Err (fault_of y name) else if c then Err (fault_of z name) else Ok placed) ≡ Ok placed
choose-none true b c x y z name placed h = absurd (cc)
choose-none false true c x y z name placed h = absurd (cc)
choose-none false false true x y z name placed h = absurd (cc)
choose-none false false false x y z name placed h = refl

pub choose-some : (a b c : Bool) (x y z found : IncludeKind) (name : List ℕ) (placed : Standing) → (if a then Some x else if b then Some y else if c then Some z else None) ≡ Some found →
    (if a then Err (fault_of x name) else if b then Err (fault_of y name) else if c then Err (fault_of z name) else Ok placed) ≡ Err (fault_of found name)
choose-some true b c x y z found name placed h = let same : x ≡ found = (cc) in ap (λ (k : IncludeKind). Err (fault_of k name)) same
choose-some false true c x y z found name placed h = let same : y ≡ found = (cc) in ap (λ (k : IncludeKind). Err (fault_of k name)) same
choose-some false false true x y z found name placed h = let same : z ≡ found = (cc) in ap (λ (k : IncludeKind). Err (fault_of k name)) same
choose-some false false false x y z found name placed h = absurd (cc)

pub chosen-none : (a b c : Bool) (x y z : IncludeKind) → (if a then Some x else if b then Some y else if c then Some z else None) ≡ None → (a ≡ false) × (b ≡ false) × (c ≡ false)
chosen-none true b c x y z h = absurd (cc)
chosen-none false true c x y z h = absurd (cc)
chosen-none false false true x y z h = absurd (cc)
chosen-none false false false x y z h = (refl, refl, refl)

-- a name that was allowed
allowed-depth : (source : Source) (standing : Standing) (name found : List ℕ) → allowed_name source standing name ≡ Ok found → length source.reading ≤ MAX_INCLUDE_DEPTH
allowed-depth source standing name found h = ltb-false MAX_INCLUDE_DEPTH (length source.reading) (by (list_any (bytes_eq name) source.reading) (nat_lt MAX_INCLUDE_DEPTH (length source.reading)) (nat_lt MAX_INCLUDES (length standing.opened)) h)
  where
    by : (a b c : Bool) → (if a then Err (fault_of kind.Cycle name) else if b then Err (fault_of kind.TooDeep name) else if c then Err (fault_of kind.TooMany name) else Ok name) ≡ Ok found → b ≡ false
    by true b c h = absurd (cc)
    by false true c h = absurd (cc)
    by false false c h = refl

named-depth : (source : Source) (standing : Standing) (said : Option (List ℕ)) (found : List ℕ) → named_by source standing said ≡ Ok found → length source.reading ≤ MAX_INCLUDE_DEPTH
named-depth source standing None found h = absurd (cc)
named-depth source standing (Some href) found h = by (has_scheme href) (has_fragment href) h
  where
    by : (a b : Bool) → (if a then Err (fault_of kind.Scheme href) else if b then Err (fault_of kind.Fragment href) else allowed_name source standing (file_named source.name href)) ≡ Ok found → length source.reading ≤ MAX_INCLUDE_DEPTH
    by true b h = absurd (cc)
    by false true h = absurd (cc)
    by false false h = allowed-depth source standing (file_named source.name href) found h

-- an element that is found
found-mem : (p : ℕ → Bool) (xs : List ℕ) (x : ℕ) → find p xs ≡ Some x → mem x xs ≡ true
found-mem p [] x h = absurd (cc)
found-mem p (y ∷ ys) x h = by (p y) h (found-mem p ys x)
  where
    by : (b : Bool) → (if b then Some y else find p ys) ≡ Some x → (find p ys ≡ Some x → mem x ys ≡ true) → mem x (y ∷ ys) ≡ true
    by true e rest = let same : y ≡ x = (cc) in subst (λ (k : ℕ). mem k (y ∷ ys) ≡ true) same (mem-head y ys)
    by false e rest = mem-tail x y ys (rest e)

found-is : (p : ℕ → Bool) (xs : List ℕ) (x : ℕ) → find p xs ≡ Some x → p x ≡ true
found-is p [] x h = absurd (cc)
found-is p (y ∷ ys) x h = by (p y) refl h (found-is p ys x)
  where
    by : (b : Bool) → p y ≡ b → (if b then Some y else find p ys) ≡ Some x → (find p ys ≡ Some x → p x ≡ true) → p x ≡ true
    by true is e rest = let same : y ≡ x = (cc) in subst (λ (k : ℕ). p k ≡ true) same is
    by false is e rest = rest e

none-counted : (p : ℕ → Bool) (xs : List ℕ) → find p xs ≡ None → count_by p xs ≡ 0
none-counted p [] h = refl
none-counted p (y ∷ ys) h = by (p y) refl h (none-counted p ys)
  where
    by : (b : Bool) → p y ≡ b → (if b then Some y else find p ys) ≡ None → (find p ys ≡ None → count_by p ys ≡ 0) → count_by p (y ∷ ys) ≡ 0
    by true is e rest = absurd (cc)
    by false is e rest = rw is (rest e)

pub and-left : (a b : Bool) → (a && b) ≡ true → a ≡ true
and-left true b h = refl
and-left false b h = h

pub element-is : (k : Option Kind) → is_element k ≡ true → k ≡ Some kinds.Element
element-is None h = absurd (true≢false (sym h))
element-is (Some kinds.Root) h = absurd (true≢false (sym h))
element-is (Some kinds.Element) h = refl
element-is (Some kinds.Attribute) h = absurd (true≢false (sym h))
element-is (Some kinds.Text) h = absurd (true≢false (sym h))
element-is (Some kinds.Comment) h = absurd (true≢false (sym h))
element-is (Some kinds.Pi) h = absurd (true≢false (sym h))

-- the document element of a document
record Document (T : Table) (n : ℕ) : Type 0 where
  element : kind_of T n ≡ Some kinds.Element
  among : mem n (kids_of T 0) ≡ true

document-at : (T : Table) → is_document T ≡ true → Document T (document_element T)
document-at T h = by (find (λ k. is_element (kind_of T k)) (kids_of T 0)) refl
  where
    by : (o : Option ℕ) → find (λ k. is_element (kind_of T k)) (kids_of T 0) ≡ o → Document T (first_or 0 o)
    by None e =
        let one : count_by (λ k. is_element (kind_of T k)) (kids_of T 0) ≡ 1 = eqb-true (count_by (λ k. is_element (kind_of T k)) (kids_of T 0)) 1 (and-left (count_by (λ k. is_element (kind_of T k)) (kids_of T 0) == 1) (count_by (λ k. is_text (kind_of T k)) (kids_of T 0) == 0) h) in
        absurd (omega (arith, one, none-counted (λ k. is_element (kind_of T k)) (kids_of T 0) e))
    by (Some k) e = record { element = element-is (kind_of T k) (found-is (λ k. is_element (kind_of T k)) (kids_of T 0) k e); among = found-mem (λ k. is_element (kind_of T k)) (kids_of T 0) k e }

pub upto-length : (n : ℕ) → length (upto n) ≡ n
upto-length zero = refl
upto-length (suc n) = length-append (upto n) (n ∷ []) ∙ (ap (λ (m : ℕ). m + 1) (upto-length n) ∙ omega arith)

module _ (T : Table) (formed : WellFormed T) (ordered : Ordered T) (ways : HasWaysUp T) (document : is_document T ≡ true) where
  pub document-kind : kind_of T (document_element T) ≡ Some kinds.Element
  document-kind = (document-at T document).element

  pub document-lives : is_live T (document_element T) ≡ true
  document-lives = ways.kid_live 0 (document_element T) (document-at T document).among

  pub document-depth : length (ancestors T (document_element T)) ≡ 1
  document-depth =
      ap length (ways.ancestors_at (document_element T) 0 (formed.kid_parent 0 (document_element T) (document-at T document).among)) ∙ ap (λ (ms : List ℕ). suc (length ms)) (ways.no_ancestors 0 formed.root_parent)

  pub document-levels : IsInOrder T → length (below T (document_element T)) ≤ length T
  document-levels numbered =
      let at = ordered.below_in_order (document_element T) document-lives in
      omega (arith, ap length numbered, upto-length (length T), ap length at.2, length-append at.0 (below T (document_element T) ++ at.1), length-append (below T (document_element T)) at.1)

-- a fault that names no file
abbrev NamesNone : Result (List ℕ) IncludeFault → Type 0
NamesNone (Ok name) = Unit {0}
NamesNone (Err fault) = is_of_file fault.kind ≡ false

names-none : (source : Source) (standing : Standing) (said : Option (List ℕ)) → NamesNone (named_by source standing said)
names-none source standing None = refl
names-none source standing (Some href) = by (has_scheme href) (has_fragment href) (file_named source.name href)
  where
    allowed : (name : List ℕ) (a b c : Bool) → NamesNone (if a then Err (fault_of kind.Cycle name) else if b then Err (fault_of kind.TooDeep name) else if c then Err (fault_of kind.TooMany name) else Ok name)
    allowed name true b c = refl
    allowed name false true c = refl
    allowed name false false true = refl
    allowed name false false false = tt

    by : (a b : Bool) (name : List ℕ) → NamesNone (if a then Err (fault_of kind.Scheme href) else if b then Err (fault_of kind.Fragment href) else allowed_name source standing name)
    by true b name = refl
    by false true name = refl
    by false false name = allowed name (list_any (bytes_eq name) source.reading) (nat_lt MAX_INCLUDE_DEPTH (length source.reading)) (nat_lt MAX_INCLUDES (length standing.opened))

misses-none : (k : IncludeKind) (before : ℕ) → is_of_file k ≡ false → (misses_with k before ≡ before) × (faults_with k before ≡ before)
misses-none kind.NoHref before h = (refl, refl)
misses-none kind.Scheme before h = (refl, refl)
misses-none kind.Fragment before h = (refl, refl)
misses-none kind.Cycle before h = (refl, refl)
misses-none kind.TooDeep before h = (refl, refl)
misses-none kind.TooMany before h = (refl, refl)
misses-none kind.Missing before h = absurd (true≢false h)
misses-none kind.Failed before h = absurd (true≢false h)
misses-none kind.TooLarge before h = (refl, refl)
misses-none (kind.Doc fault) before h = (refl, refl)
misses-none kind.TooManyNodes before h = (refl, refl)
misses-none kind.TreeTooDeep before h = (refl, refl)
misses-none kind.TooMuchText before h = (refl, refl)

extent-none : (k : IncludeKind) → is_of_file k ≡ false → extent_with k ≡ all_files
extent-none kind.NoHref h = refl
extent-none kind.Scheme h = refl
extent-none kind.Fragment h = refl
extent-none kind.Cycle h = refl
extent-none kind.TooDeep h = refl
extent-none kind.TooMany h = refl
extent-none kind.Missing h = absurd (true≢false h)
extent-none kind.Failed h = absurd (true≢false h)
extent-none kind.TooLarge h = absurd (true≢false h)
extent-none (kind.Doc fault) h = refl
extent-none kind.TooManyNodes h = refl
extent-none kind.TreeTooDeep h = refl
extent-none kind.TooMuchText h = refl

-- the limits name no miss and no failure of the outside, and a file that was read
pub fit-kind : (a b c : Bool) (found : IncludeKind) → (if a then Some kind.TooManyNodes else if b then Some kind.TreeTooDeep else if c then Some kind.TooMuchText else None) ≡ Some found → (before : ℕ) →
    (misses_with found before ≡ before) × (faults_with found before ≡ before) × (extent_with found ≡ all_files)
fit-kind true b c found h before = let same : found ≡ kind.TooManyNodes = (cc) in rw same (refl, refl, refl)
fit-kind false true c found h before = let same : found ≡ kind.TreeTooDeep = (cc) in rw same (refl, refl, refl)
fit-kind false false true found h before = let same : found ≡ kind.TooMuchText = (cc) in rw same (refl, refl, refl)
fit-kind false false false found h before = absurd (cc)

-- an include that was refused shows nothing
pub shows-refused : (source : Source) (standing : Standing) (n : ℕ) (s : ShelfState) (a : List (List ℕ)) (e : IncludeError) → IsNamed (included_name source standing n) (Err e) → Shows {T = Unit {0}} s s a a (Err e)
shows-refused source standing n s a error.Memory h = shows-memory s a
shows-refused source standing n s a (error.Fault fault) h =
    let kind_is : is_of_file fault.kind ≡ false = subst NamesNone h (names-none source standing (said source.tree n (codes "href"))) in
    record {
      held = refl;
      noted = λ base was. was;
      later = ([], sym (append-nil a));
      misses = sym (misses-none fault.kind s.misses kind_is).0;
      faults = sym (misses-none fault.kind s.faults kind_is).1;
      last = λ of_file. absurd (true≢false (sym of_file ∙ kind_is));
      through = subst (λ (extent : Extent). ReadsThrough extent s s) (sym (extent-none fault.kind kind_is)) (nothing_through s);
    }

taking-gives : (files : Files) (depth : ℕ) (source : Source) (n : ℕ) (a b : Standing) (told : List Line) (result : Result (Unit {0}) IncludeError) (name : List ℕ) → included_name source a n ≡ Ok name →
    Gives (Opening files name (Placing (Taking files depth) source n name)) a b told result → Gives (Taking files (suc depth) source n) a b told result
taking-gives files depth source n a b told (Ok done) name e x =
    subst (λ (v : Result (List ℕ) IncludeFault). With v (λ name. Opening files name (Placing (Taking files depth) source n name)) a b (Ok told)) (sym e) x
taking-gives files depth source n a b told (Err (error.Fault fault)) name e x =
    subst (λ (v : Result (List ℕ) IncludeFault). With v (λ name. Opening files name (Placing (Taking files depth) source n name)) a b (Err fault)) (sym e) x
taking-gives files depth source n a b told (Err error.Memory) name e x = tt

taking-stops : (files : Files) (depth : ℕ) (source : Source) (n : ℕ) (a : Standing) (e : IncludeError) → IsNamed (included_name source a n) (Err e) → Gives (Taking files (suc depth) source n) a a [] (Err e)
taking-stops files depth source n a (error.Fault fault) h =
    subst (λ (v : Result (List ℕ) IncludeFault). With v (λ name. Opening files name (Placing (Taking files depth) source n name)) a a (Err fault)) (sym h) (refl, refl)
taking-stops files depth source n a error.Memory h = tt

-- an include is walked as its part says
include-walks : (old new : Joiner) (file : OpenFile) (n p : ℕ) (told : List Line) (result : Result (Unit {0}) IncludeError) (F : Files → Type 0) → CanWalk old file n p → Ordered file.tree.now.nodes → is_include file.tree.now.nodes n ≡ true →
    ((files : Files) → F files → (depth : ℕ) → suc depth + length old.reading.items ≡ MAX_INCLUDE_DEPTH + 2 → Gives (Taking files (suc depth) (source_of old file) n) (standing_of old) (standing_of new) told result) →
    (result ≡ Ok tt → Joins old.tree.nodes new.tree.nodes p file.tree.now.nodes n told) → Walks old new file n p result F
include-walks old new file n p told result F can ordered is gives joins = record {
  told = told;
  gives = λ files are depth levels deep room.
      let some : levels ≡ suc (levels - 1) = omega (arith, room, below-count file.tree.now.nodes ordered n) in
      let more : depth ≡ suc (depth - 1) = omega (arith, deep, can.files) in
      subst (λ (l : ℕ). Gives (Walked (Taking files depth (source_of old file)) file.tree.now.nodes l n) (standing_of old) (standing_of new) told result) (sym some)
      (gives-include (Taking files depth (source_of old file)) file.tree.now.nodes (levels - 1) n (standing_of old) (standing_of new) told result is
      (subst (λ (d : ℕ). Gives (Taking files d (source_of old file) n) (standing_of old) (standing_of new) told result) (sym more)
      (gives files are (depth - 1) (omega (arith, deep, can.files)))));
  joins = joins;
}

pub take-walks : (old new : Joiner) (file : OpenFile) (n p : ℕ) (name : List ℕ) (result : Result (Unit {0}) IncludeError) (F : Files → Type 0) → CanWalk old file n p → Ordered file.tree.now.nodes → is_include file.tree.now.nodes n ≡ true →
    included_name (source_of old file) (standing_of old) n ≡ Ok name → TakesFile old new file n p name result F → Walks old new file n p result F
take-walks old new file n p name result F can ordered is named takes =
    include-walks old new file n p takes.told result F can ordered is
    (λ files are depth deep. taking-gives files depth (source_of old file) n (standing_of old) (standing_of new) takes.told result name named (takes.gives files are depth deep)) takes.joins

pub refused-walks : (old : Joiner) (file : OpenFile) (n p : ℕ) (e : IncludeError) (F : Files → Type 0) → CanWalk old file n p → Ordered file.tree.now.nodes → is_include file.tree.now.nodes n ≡ true →
    IsNamed (included_name (source_of old file) (standing_of old) n) (Err e) → Walks old old file n p (Err e) F
refused-walks old file n p e F can ordered is refused =
    include-walks old old file n p [] (Err e) F can ordered is
    (λ files are depth deep. taking-stops files depth (source_of old file) n (standing_of old) e refused) (λ ok. absurd (cc))

pub name-depth : (old : Joiner) (file : OpenFile) (n : ℕ) (name : List ℕ) → included_name (source_of old file) (standing_of old) n ≡ Ok name → length old.reading.items ≤ MAX_INCLUDE_DEPTH
name-depth old file n name h = named-depth (source_of old file) (standing_of old) (said file.tree.now.nodes n (codes "href")) name h

-- the document element of a file that was entered
pub entered-can : (old entered : Joiner) (file : OpenFile) (p : ℕ) → entered.tree ≡ old.tree → entered.nodes ≡ old.nodes → entered.text ≡ old.text → entered.reading.items ≡ old.reading.items ++ file.name.now ∷ [] →
    length old.reading.items ≤ MAX_INCLUDE_DEPTH → CanWalk old file (document_element file.tree.now.nodes) p → CanWalk entered file (document_element file.tree.now.nodes) p
entered-can old entered file p tree nodes text reading few can = record {
  is_file = can.is_file;
  lives = can.lives;
  kid = can.kid;
  receives = subst (λ (t : Contents). Receives t.nodes p) (sym tree) can.receives;
  apart = subst (λ (t : Contents). is_text (kind_of file.tree.now.nodes (document_element file.tree.now.nodes)) ≡ true → ends_in_text t.nodes (kids_of t.nodes p) ≡ false) (sym tree) can.apart;
  depth = ap (λ (t : Contents). length (above t.nodes p)) tree ∙ can.depth;
  shallow = can.shallow;
  room = omega (arith, can.room, ap (λ (t : Contents). length (order t.nodes)) tree, nodes);
  few = omega (arith, can.few, nodes);
  bytes = omega (arith, can.bytes, ap (λ (t : Contents). text_bytes t.nodes) tree, text);
  little = omega (arith, can.little, text);
  files = omega (arith, ap length reading, length-append old.reading.items (file.name.now ∷ []), few);
}

module _ (old entered new : Joiner) (file : OpenFile) (p : ℕ) (tree : entered.tree ≡ old.tree) (nodes : entered.nodes ≡ old.nodes) (text : entered.text ≡ old.text) (opened : entered.opened ≡ old.opened)
    (reading : entered.reading.items ≡ old.reading.items ++ file.name.now ∷ []) (formed : WellFormed file.tree.now.nodes) (ordered : Ordered file.tree.now.nodes) (ways : HasWaysUp file.tree.now.nodes)
    (is_file : IsFile file.tree.now.nodes) (F : Files → Type 0) (result : Result (Unit {0}) IncludeError) (walks : Walks entered new file (document_element file.tree.now.nodes) p result F) where
  file-gives : (files : Files) → F files → (depth : ℕ) → suc depth + length old.reading.items ≡ MAX_INCLUDE_DEPTH + 2 →
      Gives (Reading (Taking files depth) (entered_source old file) (document_element file.tree.now.nodes)) (standing_of old) (standing_of new) walks.told result
  file-gives files are depth deep =
      subst (λ (names : List (List ℕ)). Gives (Walked (Taking files depth (record { tree = file.tree.now.nodes; name = file.name.now; reading = names; above = file.above })) file.tree.now.nodes (length file.tree.now.nodes) (document_element file.tree.now.nodes)) (standing_of old) (standing_of new) walks.told result) reading
      (subst (λ (standing : Standing). Gives (Walked (Taking files depth (source_of entered file)) file.tree.now.nodes (length file.tree.now.nodes) (document_element file.tree.now.nodes)) standing (standing_of new) walks.told result) same
      (walks.gives files are depth (length file.tree.now.nodes) (omega (arith, deep, ap length reading, length-append old.reading.items (file.name.now ∷ []))) (document-levels file.tree.now.nodes formed ordered ways is_file.document is_file.numbered)))
    where
      same : standing_of entered ≡ standing_of old
      same = ap (λ (n : ℕ). record { nodes = n; text = entered.text; opened = entered.opened }) nodes
          ∙ (ap (λ (t : ℕ). record { nodes = old.nodes; text = t; opened = entered.opened }) text ∙ ap (λ (o : List (List ℕ)). record { nodes = old.nodes; text = old.text; opened = o }) opened)

  -- a file stopped it
  pub file-stops : (e : IncludeError) → result ≡ Err e → WalksFile old new file p result F
  file-stops e is = record { told = walks.told; gives = file-gives; joins = λ ok. absurd (ok≢err (sym ok ∙ is)) }
    where
      ok≢err : {e : IncludeError} → Finished ≡ Err e → ⊥
      ok≢err h = cc

  -- a file was walked, and is left
  pub file-walks : (left : Joiner) → left.tree ≡ new.tree → left.nodes ≡ new.nodes → left.text ≡ new.text → left.opened ≡ new.opened → WalksFile old left file p result F
  file-walks left left_tree left_nodes left_text left_opened = record {
    told = walks.told;
    gives = λ files are depth deep.
        subst (λ (standing : Standing). Gives (Reading (Taking files depth) (entered_source old file) (document_element file.tree.now.nodes)) (standing_of old) standing walks.told result) (sym same) (file-gives files are depth deep);
    joins = λ ok. subst (λ (t : Contents). Joins t.nodes left.tree.nodes p file.tree.now.nodes (document_element file.tree.now.nodes) walks.told) tree
        (subst (λ (t : Contents). Joins entered.tree.nodes t.nodes p file.tree.now.nodes (document_element file.tree.now.nodes) walks.told) (sym left_tree) (walks.joins ok));
  }
    where
      same : standing_of left ≡ standing_of new
      same = ap (λ (n : ℕ). record { nodes = n; text = left.text; opened = left.opened }) left_nodes
          ∙ (ap (λ (t : ℕ). record { nodes = new.nodes; text = t; opened = left.opened }) left_text ∙ ap (λ (o : List (List ℕ)). record { nodes = new.nodes; text = new.text; opened = o }) left_opened)

  pub file-keeps : Keeps entered new file (document_element file.tree.now.nodes) → (left : Joiner) → left.tree ≡ new.tree → left.nodes ≡ new.nodes → left.text ≡ new.text → left.reading.items ≡ old.reading.items → Keeps old left file (document_element file.tree.now.nodes)
  file-keeps keeps left left_tree left_nodes left_text left_reading = record {
    reading = left_reading;
    nodes = omega (arith, keeps.nodes, nodes, left_nodes, ap (λ (t : Contents). length (order t.nodes)) tree, ap (λ (t : Contents). length (order t.nodes)) left_tree);
    few = omega (arith, keeps.few, left_nodes);
    text = omega (arith, keeps.text, text, left_text, ap (λ (t : Contents). text_bytes t.nodes) tree, ap (λ (t : Contents). text_bytes t.nodes) left_tree);
    little = omega (arith, keeps.little, left_text);
  }
