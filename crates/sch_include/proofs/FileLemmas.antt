-- A file takes the place of an include.
use Rattle.std.proofs.Common.{◌≡◌, ◌≢◌, inl, inr, ℕ, suc, ◌+◌, ◌-◌, ◌≤◌, true, false, List, [], ◌∷◌, ◌++◌, length, None, Some, refl, sym, ap, ap₂, ◌∙◌, subst, true≢false, arith}
use Rattle.std.specs.Prelude.{Result, Ok, Err, nat_lt, codes}
use Rattle.std.proofs.lemmas.Bool.{ltb-false}
use Rattle.sch_base.specs.declared.limits.TheConstants.{MAX_INCLUDE_DEPTH}
use Rattle.sch_io.specs.Files.{Files}
use Rattle.sch_io.specs.ReadThrough.{Extent, ReadsThrough, all_files}
use Rattle.sch_io.specs.ShelfState.{ShelfState}
use Rattle.doc_tree.specs.kind.Kind.TheVariants as kinds
use Rattle.doc_tree.specs.Kinds.{can_be_kid, is_element, is_text}
use Rattle.doc_tree.specs.Laws.{HasWaysUp, Ordered, WellFormed}
use Rattle.doc_tree.specs.limits.TheConstants.{MAX_DEPTH, MAX_LIVE_NODES, MAX_LIVE_TEXT_BYTES}
use Rattle.doc_tree.specs.Lines.{Line}
use Rattle.doc_tree.specs.Table.{Contents, Table, is_live, kind_of}
use Rattle.doc_tree.specs.Walks.{above, ancestors, below, order, text_bytes}
use Rattle.sch_rules.specs.Elements.{document_element}
use Rattle.sch_include.specs.declared.fault.IncludeError.{IncludeError}
use Rattle.sch_include.specs.declared.fault.IncludeError.TheVariants as error
use Rattle.sch_include.specs.declared.fault.IncludeFault.{IncludeFault}
use Rattle.sch_include.specs.declared.fault.IncludeKind.{IncludeKind}
use Rattle.sch_include.specs.declared.fault.IncludeKind.TheVariants as kind
use Rattle.sch_include.specs.declared.joiner.Joiner.{Joiner}
use Rattle.sch_include.specs.declared.source.OpenFile.{OpenFile}
use Rattle.sch_include.specs.inner.Growing.{Receives}
use Rattle.sch_include.specs.Ends.{extent_with, faults_with, misses_with}
use Rattle.sch_include.specs.Includes.{is_include}
use Rattle.sch_include.specs.Parts.{Standing, With}
use Rattle.doc_tree.specs.NameTests.{has_name}
use Rattle.sch_rules.specs.Words.{schematron}
use Rattle.std.specs.Prelude.{IsErrAnd, OnOk}
use Rattle.sch_include.specs.inner.Deep.{is_deep_at}
use Rattle.sch_include.specs.Taking.{Loading, From, Opening, Placing, Reading, Source, Taking, elements_above, fault_of, fitting, in_place_of, included_source, is_too_deep, text_below}
use Rattle.sch_include.specs.inner.Joining.{CanWalk, Gives, IsFile, Joins, Keeps, LoadsFile, Shows, TakesFile, WalksFile, entered_source, fit_fault, source_of, standing_of}
use Rattle.sch_include.proofs.NodeLemmas.{deep-bound, none-is}
use Rattle.sch_include.proofs.TakeLemmas.{and-left, choose-none, choose-some, chosen-none, document-depth, document-kind, document-lives, element-is, fit-kind}

-- an element of a file stands below some node, and not too deep
pub element-kind : (T : Table) (n : ℕ) → is_include T n ≡ true → kind_of T n ≡ Some kinds.Element
element-kind T n is = element-is (kind_of T n) (and-left (is_element (kind_of T n)) (has_name T n schematron (codes "include")) is)

pub element-depth : (T : Table) (n : ℕ) → WellFormed T → HasWaysUp T → is_live T n ≡ true → kind_of T n ≡ Some kinds.Element → 1 ≤ length (ancestors T n)
element-depth T n formed ways live is =
    let other : n ≢ 0 = λ zero. root≢element (sym formed.root_kind ∙ (ap (kind_of T) (sym zero) ∙ is)) in
    let up = ways.has_parent n live other in
    omega (arith, ap length (ways.ancestors_at n up.0 up.1))
  where
    root≢element : Some kinds.Root ≡ Some kinds.Element → ⊥
    root≢element h = cc

-- what is known where a file takes the place of an include
module _ (old placed : Joiner) (file included : OpenFile) (n p : ℕ) (can : CanWalk old file n p) (is : is_include file.tree.now.nodes n ≡ true)
    (formed : WellFormed file.tree.now.nodes) (ordered : Ordered file.tree.now.nodes) (ways : HasWaysUp file.tree.now.nodes)
    (tree : placed.tree ≡ old.tree) (reading : placed.reading.items ≡ old.reading.items)
    (nodes : placed.nodes ≡ (old.nodes + length (below included.tree.now.nodes (document_element included.tree.now.nodes))) - length (below file.tree.now.nodes n))
    (text : placed.text ≡ (old.text + text_below included.tree.now.nodes (document_element included.tree.now.nodes)) - text_below file.tree.now.nodes n)
    (above_is : included.above ≡ (file.above + length (ancestors file.tree.now.nodes n)) - 1) (is_file : IsFile included.tree.now.nodes) where
  above-elements : included.above ≡ elements_above (source_of old file) n
  above-elements = above_is ∙ omega (arith, element-depth file.tree.now.nodes n formed ways can.lives (element-kind file.tree.now.nodes n is))

  -- the limits are tested as they are defined
  module _ (standing : Standing) (standing_nodes : standing.nodes ≡ old.nodes) (standing_text : standing.text ≡ old.text) (fits : fit_fault file.tree.now.nodes n included.tree.now.nodes included.above standing ≡ None) where
    tests : (nat_lt MAX_LIVE_NODES ((standing.nodes + length (below included.tree.now.nodes (document_element included.tree.now.nodes))) - length (below file.tree.now.nodes n)) ≡ false)
        × (is_too_deep included.above included.tree.now.nodes ≡ false)
        × (nat_lt MAX_LIVE_TEXT_BYTES ((standing.text + text_below included.tree.now.nodes (document_element included.tree.now.nodes)) - text_below file.tree.now.nodes n) ≡ false)
    tests = chosen-none (nat_lt MAX_LIVE_NODES ((standing.nodes + length (below included.tree.now.nodes (document_element included.tree.now.nodes))) - length (below file.tree.now.nodes n)))
        (is_too_deep included.above included.tree.now.nodes)
        (nat_lt MAX_LIVE_TEXT_BYTES ((standing.text + text_below included.tree.now.nodes (document_element included.tree.now.nodes)) - text_below file.tree.now.nodes n)) kind.TooManyNodes kind.TreeTooDeep kind.TooMuchText fits

    few : placed.nodes ≤ MAX_LIVE_NODES
    few = subst (λ (m : ℕ). m ≤ MAX_LIVE_NODES) (ap (λ (m : ℕ). (m + length (below included.tree.now.nodes (document_element included.tree.now.nodes))) - length (below file.tree.now.nodes n)) standing_nodes ∙ sym nodes)
        (ltb-false MAX_LIVE_NODES ((standing.nodes + length (below included.tree.now.nodes (document_element included.tree.now.nodes))) - length (below file.tree.now.nodes n)) tests.0)

    little : placed.text ≤ MAX_LIVE_TEXT_BYTES
    little = subst (λ (m : ℕ). m ≤ MAX_LIVE_TEXT_BYTES) (ap (λ (m : ℕ). (m + text_below included.tree.now.nodes (document_element included.tree.now.nodes)) - text_below file.tree.now.nodes n) standing_text ∙ sym text)
        (ltb-false MAX_LIVE_TEXT_BYTES ((standing.text + text_below included.tree.now.nodes (document_element included.tree.now.nodes)) - text_below file.tree.now.nodes n) tests.2)

    placed-can : WellFormed included.tree.now.nodes → Ordered included.tree.now.nodes → HasWaysUp included.tree.now.nodes → CanWalk placed included (document_element included.tree.now.nodes) p
    placed-can its_formed its_ordered its_ways =
        let element : kind_of included.tree.now.nodes (document_element included.tree.now.nodes) ≡ Some kinds.Element = document-kind included.tree.now.nodes its_formed its_ordered its_ways is_file.document in
        record {
          is_file = is_file;
          lives = document-lives included.tree.now.nodes its_formed its_ordered its_ways is_file.document;
          kid = ap can_be_kid element;
          receives = subst (λ (t : Contents). Receives t.nodes p) (sym tree) can.receives;
          apart = λ is_text_kid. absurd (true≢false (sym is_text_kid ∙ ap is_text element));
          depth = ap (λ (t : Contents). length (above t.nodes p)) tree ∙ (can.depth
              ∙ omega (arith, above_is, element-depth file.tree.now.nodes n formed ways can.lives (element-kind file.tree.now.nodes n is), document-depth included.tree.now.nodes its_formed its_ordered its_ways is_file.document));
          shallow = tests.1;
          room = omega (arith, can.room, ap (λ (t : Contents). length (order t.nodes)) tree, nodes);
          few = few;
          bytes = omega (arith, can.bytes, ap (λ (t : Contents). text_bytes t.nodes) tree, text);
          little = little;
          files = subst (λ (names : List (List ℕ)). length names ≤ MAX_INCLUDE_DEPTH + 1) (sym reading) can.files;
        }

  placed-keeps : (new : Joiner) → Keeps placed new included (document_element included.tree.now.nodes) → Keeps old new file n
  placed-keeps new keeps = record {
    reading = keeps.reading ∙ reading;
    nodes = omega (arith, keeps.nodes, nodes, can.room, ap (λ (t : Contents). length (order t.nodes)) tree);
    few = keeps.few;
    text = omega (arith, keeps.text, text, can.bytes, ap (λ (t : Contents). text_bytes t.nodes) tree);
    little = keeps.little;
  }

  placed-joins : (new : Joiner) (told : List Line) → WellFormed included.tree.now.nodes → Ordered included.tree.now.nodes → HasWaysUp included.tree.now.nodes → Joins placed.tree.nodes new.tree.nodes p included.tree.now.nodes (document_element included.tree.now.nodes) told → Joins old.tree.nodes new.tree.nodes p file.tree.now.nodes n told
  placed-joins new told its_formed its_ordered its_ways joins =
      let same : Joins old.tree.nodes new.tree.nodes p included.tree.now.nodes (document_element included.tree.now.nodes) told = subst (λ (t : Contents). Joins t.nodes new.tree.nodes p included.tree.now.nodes (document_element included.tree.now.nodes) told) tree joins in
      record {
        adds = same.adds;
        kid = same.kid;
        kids_are = same.kids_are;
        kind_is = same.kind_is ∙ (document-kind included.tree.now.nodes its_formed its_ordered its_ways is_file.document ∙ sym (element-kind file.tree.now.nodes n is));
      }

-- a file was opened
abbrev with_opened : Standing → List ℕ → Standing
with_opened standing name = record standing { opened = standing.opened ++ name ∷ [] }

opened-standing : (old new : Joiner) (name : List ℕ) → new ≡ record old { opened = new.opened } → new.opened ≡ old.opened ++ name ∷ [] → standing_of new ≡ with_opened (standing_of old) name
opened-standing old new name same opened = ap standing_of same ∙ ap (λ (names : List (List ℕ)). record { nodes = old.nodes; text = old.text; opened = names }) opened

opened-gives : (files : Files) (depth : ℕ) (source : Source) (n : ℕ) (name : List ℕ) (T : Table) (a b placed : Standing) (told : List Line) (result : Result (Unit {0}) IncludeError) → Loading files name (Ok T) →
    fitting source n name T (with_opened a name) ≡ Ok placed → Gives (Reading (Taking files depth) (included_source source n name T) (document_element T)) placed b told result →
    Gives (Opening files name (Placing (Taking files depth) source n name)) a b told result
opened-gives files depth source n name T a b placed told (Ok done) loads fits x =
    record { either = inr (T, loads, subst (λ (v : Result Standing IncludeFault). With v (λ standing. From standing (Reading (Taking files depth) (included_source source n name T) (document_element T))) (with_opened a name) b (Ok told)) (sym fits) x) }
opened-gives files depth source n name T a b placed told (Err (error.Fault fault)) loads fits x =
    record { either = inr (T, loads, subst (λ (v : Result Standing IncludeFault). With v (λ standing. From standing (Reading (Taking files depth) (included_source source n name T) (document_element T))) (with_opened a name) b (Err fault)) (sym fits) x) }
opened-gives files depth source n name T a b placed told (Err error.Memory) loads fits x = tt

abbrev Unread : IncludeError → Result Contents IncludeError
Unread e = Err e

abbrev Read : Contents → Result Contents IncludeError
Read tree = Ok tree

pub read≢memory : (tree : Contents) → Read tree ≡ Err error.Memory → ⊥
read≢memory tree h = cc

-- a file that is no tree
pub unopened-takes : (old new : Joiner) (file : OpenFile) (n p : ℕ) (name : List ℕ) (e : IncludeError) (F : Files → Type 0) → ((files : Files) → F files → LoadsFile files name (Err e)) → new ≡ record old { opened = new.opened } →
    ((Unread e ≡ Err error.Memory → ⊥) → new.opened ≡ old.opened ++ name ∷ []) → TakesFile old new file n p name (Err e) F
unopened-takes old new file n p name error.Memory F loads same opened = record { told = []; gives = λ files are depth deep. tt; joins = λ ok. absurd (cc) }
unopened-takes old new file n p name (error.Fault fault) F loads same opened = record {
  told = [];
  gives = λ files are depth deep. record { either = inl (fault, loads files are, opened-standing old new name same (opened (λ h. cc)), refl) };
  joins = λ ok. absurd (cc);
}

module _ (old opened : Joiner) (file : OpenFile) (n p : ℕ) (name : List ℕ) (T : Table) (above_new : ℕ) (F : Files → Type 0) (loads : (files : Files) → F files → Loading files name (Ok T))
    (same : opened ≡ record old { opened = opened.opened }) (noted : opened.opened ≡ old.opened ++ name ∷ []) (above_is : above_new ≡ elements_above (source_of old file) n) where
  placing : Standing → Result Standing IncludeFault
  placing standing = fitting (source_of old file) n name T standing

  fitting-at : fitting (source_of old file) n name T (standing_of opened) ≡ fitting (source_of old file) n name T (with_opened (standing_of old) name)
  fitting-at = ap (fitting (source_of old file) n name T) (opened-standing old opened name same noted)

  -- a file that doesn't fit
  pub unfit-takes : (after : Joiner) (found : IncludeKind) → after ≡ opened → Some found ≡ fit_fault file.tree.now.nodes n T above_new (standing_of opened) → TakesFile old after file n p name (Err (error.Fault (fault_of found name))) F
  unfit-takes after found kept fault = record {
    told = [];
    gives = λ files are depth deep. record {
      either = inr (
        T,
        loads files are,
        subst (λ (v : Result Standing IncludeFault). With v (λ standing. From standing (Reading (Taking files depth) (included_source (source_of old file) n name T) (document_element T))) (with_opened (standing_of old) name) (standing_of after) (Err (fault_of found name)))
            (sym (sym fitting-at ∙ stops)) (ap standing_of kept ∙ opened-standing old opened name same noted, refl),
      );
    };
    joins = λ ok. absurd (cc);
  }
    where
      stops : fitting (source_of old file) n name T (standing_of opened) ≡ Err (fault_of found name)
      stops = choose-some (nat_lt MAX_LIVE_NODES ((opened.nodes + length (below T (document_element T))) - length (below file.tree.now.nodes n)))
          (is_too_deep (elements_above (source_of old file) n) T)
          (nat_lt MAX_LIVE_TEXT_BYTES ((opened.text + text_below T (document_element T)) - text_below file.tree.now.nodes n))
          kind.TooManyNodes kind.TreeTooDeep kind.TooMuchText found name (in_place_of (source_of old file) n T (standing_of opened))
          (ap (λ (d : ℕ). fit_fault file.tree.now.nodes n T d (standing_of opened)) (sym above_is) ∙ sym fault)

  -- a file that fits, and was walked
  fit-takes : (placed new : Joiner) (included : OpenFile) (result : Result (Unit {0}) IncludeError) → fit_fault file.tree.now.nodes n T above_new (standing_of opened) ≡ None → included.tree.now.nodes ≡ T → included.name.now ≡ name → included.above ≡ above_new →
      placed ≡ record opened { nodes = placed.nodes; text = placed.text } → placed.nodes ≡ (opened.nodes + length (below T (document_element T))) - length (below file.tree.now.nodes n) →
      placed.text ≡ (opened.text + text_below T (document_element T)) - text_below file.tree.now.nodes n →
      (walks : WalksFile placed new included p result F) → (result ≡ Ok tt → Joins old.tree.nodes new.tree.nodes p file.tree.now.nodes n walks.told) → TakesFile old new file n p name result F
  fit-takes placed new included result fits tree_is name_is its_above placed_is nodes_are text_is walks joins = record {
    told = walks.told;
    gives = λ files are depth deep.
        opened-gives files depth (source_of old file) n name T (standing_of old) (standing_of new) (standing_of placed) walks.told result (loads files are) (sym fitting-at ∙ (goes ∙ ap Ok (sym standing_is)))
        (subst (λ (source : Source). Gives (Reading (Taking files depth) source (document_element source.tree)) (standing_of placed) (standing_of new) walks.told result) source_is
        (walks.gives files are depth (ap (λ (names : List (List ℕ)). suc depth + length names) reading_is ∙ deep)));
    joins = joins;
  }
    where
      goes : fitting (source_of old file) n name T (standing_of opened) ≡ Ok (in_place_of (source_of old file) n T (standing_of opened))
      goes = choose-none (nat_lt MAX_LIVE_NODES ((opened.nodes + length (below T (document_element T))) - length (below file.tree.now.nodes n)))
          (is_too_deep (elements_above (source_of old file) n) T)
          (nat_lt MAX_LIVE_TEXT_BYTES ((opened.text + text_below T (document_element T)) - text_below file.tree.now.nodes n))
          kind.TooManyNodes kind.TreeTooDeep kind.TooMuchText name (in_place_of (source_of old file) n T (standing_of opened))
          (ap (λ (d : ℕ). fit_fault file.tree.now.nodes n T d (standing_of opened)) (sym above_is) ∙ fits)

      standing_is : standing_of placed ≡ in_place_of (source_of old file) n T (standing_of opened)
      standing_is = ap standing_of placed_is ∙ ap₂ (λ (a b : ℕ). record { nodes = a; text = b; opened = opened.opened }) nodes_are text_is

      reading_is : placed.reading.items ≡ old.reading.items
      reading_is = ap (λ (j : Joiner). j.reading.items) placed_is ∙ ap (λ (j : Joiner). j.reading.items) same

      source_is : entered_source placed included ≡ included_source (source_of old file) n name T
      source_is = ap (λ (t : Table). record { tree = t; name = included.name.now; reading = placed.reading.items ++ included.name.now ∷ []; above = included.above }) tree_is
          ∙ (ap₂ (λ (m : List ℕ) (names : List (List ℕ)). record { tree = T; name = m; reading = names ++ m ∷ []; above = included.above }) name_is reading_is
          ∙ ap (λ (d : ℕ). record { tree = T; name = name; reading = old.reading.items ++ name ∷ []; above = d }) (its_above ∙ above_is))

-- an error that is passed on
pub is-err : (r : Result (Unit {0}) IncludeError) (x : IncludeError) → IsErrAnd r (λ e. e ≡ x) → r ≡ Err x
is-err (Ok done) x h = absurd h
is-err (Err e) x h = ap (λ (f : IncludeError). Err f) h

-- that tells a limit which is passed
pub judged-err : (r : Result (Unit {0}) IncludeError) (x y : IncludeError) → IsErrAnd r (λ e. e ≡ x) → x ≡ y → r ≡ Err y
judged-err r x y h same = is-err r x h ∙ ap (λ (f : IncludeError). Err f) same

pub node-shallow : (joiner : Joiner) (file : OpenFile) (n p : ℕ) → CanWalk joiner file n p → Ordered file.tree.now.nodes → is_element (kind_of file.tree.now.nodes n) ≡ true → file.above + length (ancestors file.tree.now.nodes n) ≤ MAX_DEPTH
node-shallow joiner file n p can ordered is =
    deep-bound file.tree.now.nodes file.above n (element-is (kind_of file.tree.now.nodes n) is)
    (none-is (is_deep_at file.tree.now.nodes file.above) (order file.tree.now.nodes) n can.shallow (sym (ordered.live_in_order n) ∙ can.lives))

-- where a file's document element stands in the whole tree
pub above-include : (old : Joiner) (file : OpenFile) (n p : ℕ) → CanWalk old file n p → is_include file.tree.now.nodes n ≡ true → WellFormed file.tree.now.nodes → HasWaysUp file.tree.now.nodes →
    (depth : ℕ) → depth ≡ length (ancestors file.tree.now.nodes n) → (file.above + depth) - 1 ≡ elements_above (source_of old file) n
above-include old file n p can is formed ways depth depth_is = omega (arith, depth_is, element-depth file.tree.now.nodes n formed ways can.lives (element-kind file.tree.now.nodes n is))

-- a file that was opened and fits in the place of an include
pub record Fitted (old opened placed : Joiner) (file included : OpenFile) (n p : ℕ) : Type 0 where
  pub can : CanWalk old file n p
  pub is : is_include file.tree.now.nodes n ≡ true
  pub formed : WellFormed file.tree.now.nodes
  pub ordered : Ordered file.tree.now.nodes
  pub ways : HasWaysUp file.tree.now.nodes
  pub same : opened ≡ record old { opened = opened.opened }
  pub placed_is : placed ≡ record opened { nodes = placed.nodes; text = placed.text }
  pub nodes : placed.nodes ≡ (opened.nodes + length (below included.tree.now.nodes (document_element included.tree.now.nodes))) - length (below file.tree.now.nodes n)
  pub text : placed.text ≡ (opened.text + text_below included.tree.now.nodes (document_element included.tree.now.nodes)) - text_below file.tree.now.nodes n
  pub fits : None ≡ fit_fault file.tree.now.nodes n included.tree.now.nodes included.above (standing_of opened)
  pub above_is : included.above ≡ (file.above + length (ancestors file.tree.now.nodes n)) - 1
  pub is_file : IsFile included.tree.now.nodes
  pub its_formed : WellFormed included.tree.now.nodes
  pub its_ordered : Ordered included.tree.now.nodes
  pub its_ways : HasWaysUp included.tree.now.nodes

module _ (old opened placed : Joiner) (file included : OpenFile) (n p : ℕ) (fitted : Fitted old opened placed file included n p) where
  kept_nodes : opened.nodes ≡ old.nodes
  kept_nodes = ap (λ (j : Joiner). j.nodes) fitted.same

  kept_text : opened.text ≡ old.text
  kept_text = ap (λ (j : Joiner). j.text) fitted.same

  kept_tree : placed.tree ≡ old.tree
  kept_tree = ap (λ (j : Joiner). j.tree) fitted.placed_is ∙ ap (λ (j : Joiner). j.tree) fitted.same

  kept_reading : placed.reading.items ≡ old.reading.items
  kept_reading = ap (λ (j : Joiner). j.reading.items) fitted.placed_is ∙ ap (λ (j : Joiner). j.reading.items) fitted.same

  counted : placed.nodes ≡ (old.nodes + length (below included.tree.now.nodes (document_element included.tree.now.nodes))) - length (below file.tree.now.nodes n)
  counted = fitted.nodes ∙ ap (λ (m : ℕ). (m + length (below included.tree.now.nodes (document_element included.tree.now.nodes))) - length (below file.tree.now.nodes n)) kept_nodes

  weighed : placed.text ≡ (old.text + text_below included.tree.now.nodes (document_element included.tree.now.nodes)) - text_below file.tree.now.nodes n
  weighed = fitted.text ∙ ap (λ (m : ℕ). (m + text_below included.tree.now.nodes (document_element included.tree.now.nodes)) - text_below file.tree.now.nodes n) kept_text

  pub fitted-can : CanWalk placed included (document_element included.tree.now.nodes) p
  fitted-can =
      placed-can old placed file included n p fitted.can fitted.is fitted.formed fitted.ordered fitted.ways kept_tree kept_reading counted weighed fitted.above_is fitted.is_file
      (standing_of opened) kept_nodes kept_text (sym fitted.fits) fitted.its_formed fitted.its_ordered fitted.its_ways

  pub fitted-keeps : (new : Joiner) → Keeps placed new included (document_element included.tree.now.nodes) → Keeps old new file n
  fitted-keeps = placed-keeps old placed file included n p fitted.can fitted.is fitted.formed fitted.ordered fitted.ways kept_tree kept_reading counted weighed fitted.above_is fitted.is_file

  module _ (new : Joiner) (name : List ℕ) (F G : Files → Type 0) (result : Result (Unit {0}) IncludeError) (walks : WalksFile placed new included p result G) (later : (files : Files) → F files → G files) where
    abbrev earlier : WalksFile placed new included p result F
    earlier = record { told = walks.told; gives = λ files are. walks.gives files (later files are); joins = walks.joins }

    pub fitted-takes : ((files : Files) → F files → Loading files name (Ok included.tree.now.nodes)) → opened.opened ≡ old.opened ++ name ∷ [] → included.name.now ≡ name → TakesFile old new file n p name result F
    fitted-takes loads noted name_is =
        fit-takes old opened file n p name included.tree.now.nodes included.above F loads fitted.same noted
        (above-elements old placed file included n p fitted.can fitted.is fitted.formed fitted.ordered fitted.ways kept_tree kept_reading counted weighed fitted.above_is fitted.is_file)
        placed new included result (sym fitted.fits) refl name_is refl fitted.placed_is fitted.nodes fitted.text earlier
        (λ ok. placed-joins old placed file included n p fitted.can fitted.is fitted.formed fitted.ordered fitted.ways kept_tree kept_reading counted weighed fitted.above_is fitted.is_file
        new walks.told fitted.its_formed fitted.its_ordered fitted.its_ways (walks.joins ok))

-- want of memory
pub takes-memory : (old new : Joiner) (file : OpenFile) (n p : ℕ) (name : List ℕ) (F : Files → Type 0) → TakesFile old new file n p name (Err error.Memory) F
takes-memory old new file n p name F = record { told = []; gives = λ files are depth deep. tt; joins = λ ok. absurd (cc) }

-- what an error shows is the same whatever was wanted
pub shows-error : {A B : Type 0} (s u : ShelfState) (a c : List (List ℕ)) (e : IncludeError) → Shows {T = A} s u a c (Err e) → Shows {T = B} s u a c (Err e)
shows-error s u a c (error.Fault fault) h = record { held = h.held; noted = h.noted; later = h.later; misses = h.misses; faults = h.faults; last = h.last; through = h.through }
shows-error s u a c error.Memory h = record { held = h.held; noted = h.noted; later = h.later; misses = h.misses; faults = h.faults; last = h.last; through = h.through }

-- a limit that a tree passes is no miss, and no fault of the outside
pub unfit-kind : (S : Table) (n : ℕ) (T : Table) (above : ℕ) (standing : Standing) (found : IncludeKind) → Some found ≡ fit_fault S n T above standing → (before : ℕ) →
    (misses_with found before ≡ before) × (faults_with found before ≡ before) × (extent_with found ≡ all_files)
unfit-kind S n T above standing found fault =
    fit-kind (nat_lt MAX_LIVE_NODES ((standing.nodes + length (below T (document_element T))) - length (below S n))) (is_too_deep above T)
    (nat_lt MAX_LIVE_TEXT_BYTES ((standing.text + text_below T (document_element T)) - text_below S n)) found (sym fault)

-- a file was opened, and a limit refused it
pub shows-unfit : {A : Type 0} (s u : ShelfState) (a b c : List (List ℕ)) (x : A) (found : IncludeKind) (name told : List ℕ) → Shows {T = A} s u a b (Ok x) → c ≡ b → u.opened ≡ s.opened ++ name ∷ [] → told ≡ name →
    ((before : ℕ) → (misses_with found before ≡ before) × (faults_with found before ≡ before) × (extent_with found ≡ all_files)) → Shows {T = Unit {0}} s u a c (Err (error.Fault (fault_of found told)))
shows-unfit s u a b c x found name told one same noted told_is kind_is = record {
  held = one.held;
  noted = λ base was. one.noted base was ∙ ap (λ (l : List (List ℕ)). base ++ l) (sym same);
  later = (one.later.0, same ∙ one.later.1);
  misses = one.misses ∙ sym (kind_is s.misses).0;
  faults = one.faults ∙ sym (kind_is s.faults).1;
  last = λ of_file. (s.opened, noted ∙ ap (λ (l : List ℕ). s.opened ++ l ∷ []) (sym told_is));
  through = subst (λ (extent : Extent). ReadsThrough extent s u) (sym (kind_is s.misses).2) one.through;
}

pub on-then : (r : Result (Unit {0}) IncludeError) (P Q : Type 0) → (P → Q) → OnOk r P → OnOk r Q
on-then (Ok done) P Q f h = f h
on-then (Err e) P Q f h = tt
