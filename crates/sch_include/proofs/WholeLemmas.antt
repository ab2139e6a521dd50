-- The whole of a schema's own file, from its root on; and what reading it shows.
use Rattle.std.proofs.Common.{◌≡◌, ◌⊎◌, inl, inr, ℕ, zero, suc, ◌+◌, ◌-◌, Bool, true, false, cond, List, [], ◌∷◌, ◌++◌, length, map, Option, None, Some, refl, sym, ap, ap₂, ◌∙◌, subst, arith, append_assoc, append-nil}
use Rattle.std.specs.Prelude.{Result, Ok, Err, IsErrAnd, ◌&&◌, ◌==◌, codes, count_by}
use Rattle.std.specs.List.{flat_map, list_any}
use Rattle.std.proofs.lemmas.List.{same_from_push}
use Rattle.std.proofs.lemmas.List.Folds.{fold-map}
use Rattle.sch_base.specs.declared.limits.TheConstants.{MAX_INCLUDE_DEPTH}
use Rattle.sch_io.specs.Files.{Files}
use Rattle.sch_io.specs.ReadThrough.{ReadsThrough, all_files}
use Rattle.sch_io.specs.ShelfState.{ShelfState}
use Rattle.sch_io.proofs.ReadThrough.{nothing_through, one_of_both}
use Rattle.doc_tree.proofs.ListLemmas.{mem-head}
use Rattle.doc_tree.specs.InOrder.{IsInOrder}
use Rattle.doc_tree.specs.kind.Kind.{Kind}
use Rattle.doc_tree.specs.kind.Kind.TheVariants as kinds
use Rattle.doc_tree.specs.Kinds.{is_document, is_element, is_text}
use Rattle.doc_tree.specs.Laws.{HasWaysUp, Ordered, WellFormed}
use Rattle.doc_tree.specs.Lines.{Line, closes, first_lines, last_lines, lines, lines_at, opens}
use Rattle.doc_tree.specs.Lists.{mem}
use Rattle.doc_tree.specs.NameTests.{has_name}
use Rattle.doc_tree.specs.Table.{AllLive, Content, Contents, Table, attribute, attrs_of, comment, content_of, element, instruction, is_live, kids_of, kind_at, kind_of, root, root_alone, text}
use Rattle.doc_tree.specs.Walks.{above, below, is_open, order, text_bytes}
use Rattle.sch_rules.specs.Words.{schematron}
use Rattle.sch_include.specs.declared.fault.IncludeError.{IncludeError}
use Rattle.sch_include.specs.declared.fault.IncludeError.TheVariants as error
use Rattle.sch_include.specs.declared.fault.IncludeFault.{IncludeFault}
use Rattle.sch_include.specs.declared.joiner.Joiner.{Joiner}
use Rattle.sch_include.specs.declared.source.OpenFile.{OpenFile}
use Rattle.sch_include.specs.Ends.{IsAnswered, IsFirst, IsRead, NamesLast, extent_of_including, faults_of_including, misses_of_including}
use Rattle.sch_include.specs.Included.{IsNumberedDocument, WholeFile, as_it_is, nothing, whole_source}
use Rattle.sch_include.specs.Includes.{is_include}
use Rattle.sch_include.specs.Parts.{Part, Standing}
use Rattle.sch_include.specs.Taking.{Source, Taking, Walked, text_below}
use Rattle.sch_include.specs.inner.Deep.{is_deep_at}
use Rattle.sch_include.specs.inner.Growing.{Adds}
use Rattle.sch_include.specs.inner.Joining.{CanWalkKids, Gives, IsFile, LoadsFile, ReadsWhole, Shows, WalksKids, source_of, standing_of}
use Rattle.sch_include.proofs.KidLemmas.{shows-then}
use Rattle.sch_include.proofs.PartLemmas.{gives-open}
use Rattle.sch_include.proofs.TakeLemmas.{element-is, upto-length}
use Rattle.sch_include.proofs.WalkLemmas.{below-count, shallow-none, shallow-one, text-count}

-- the root holds no attribute, is no include, and tells no line
root-lines : (c : Option Content) → kind_at c ≡ Some kinds.Root → (lines_at first_lines c ≡ []) × (lines_at last_lines c ≡ [])
root-lines None h = absurd (cc)
root-lines (Some root) h = (refl, refl)
root-lines (Some (element name decls)) h = absurd (cc)
root-lines (Some (attribute name value)) h = absurd (cc)
root-lines (Some (text characters)) h = absurd (cc)
root-lines (Some (comment characters)) h = absurd (cc)
root-lines (Some (instruction name characters)) h = absurd (cc)

module _ (T : Table) (formed : WellFormed T) where
  root-attributes : attrs_of T 0 ≡ []
  root-attributes = by (attrs_of T 0) refl
    where
      root≢element : Some kinds.Root ≡ Some kinds.Element → ⊥
      root≢element h = cc

      by : (ns : List ℕ) → attrs_of T 0 ≡ ns → ns ≡ []
      by [] e = refl
      by (a ∷ ns) e = absurd (root≢element (sym formed.root_kind ∙ formed.owner_kind 0 a (ap (mem a) e ∙ mem-head a ns)))

  root-no-include : is_include T 0 ≡ false
  root-no-include = ap (λ (k : Option Kind). is_element k && has_name T 0 schematron (codes "include")) formed.root_kind

  root-opens : flat_map (opens T) (0 ∷ attrs_of T 0) ≡ []
  root-opens = ap (λ (ns : List ℕ). flat_map (opens T) (0 ∷ ns)) root-attributes ∙ (append-nil (opens T 0) ∙ (root-lines (content_of T 0) formed.root_kind).0)

  root-tells : (told : List Line) → flat_map (opens T) (0 ∷ attrs_of T 0) ++ (told ++ closes T 0) ≡ told
  root-tells told = ap₂ (λ (a b : List Line). a ++ (told ++ b)) root-opens (root-lines (content_of T 0) formed.root_kind).1 ∙ append-nil told

  -- no element of a tree stands too deep in it
  tree-shallow : (ns : List ℕ) → list_any (is_deep_at T 0) ns ≡ false
  tree-shallow [] = refl
  tree-shallow (n ∷ ns) = rw (one (is_element (kind_of T n)) refl) (tree-shallow ns)
    where
      one : (b : Bool) → is_element (kind_of T n) ≡ b → is_deep_at T 0 n ≡ false
      one true e = shallow-one T n 0 (omega (arith, formed.not_deep n (element-is (kind_of T n) e)))
      one false e = shallow-none T n 0 e

root-lives : (T : Table) → Ordered T → is_live T 0 ≡ true
root-lives T ordered = ordered.live_in_order 0 ∙ (ap (mem 0) ordered.root_first.1 ∙ mem-head 0 ordered.root_first.0)

-- kinds of the root's kids decide whether a tree is a document
count-kinds : (p : Option Kind → Bool) (f : ℕ → Option Kind) (ns : List ℕ) → count_by (λ k. p (f k)) ns ≡ count_by p (map f ns)
count-kinds p f ns = sym (fold-map (λ a k. a + cond (p k) 1 0) f 0 ns)

same-count : (p : Option Kind → Bool) (U T : Table) → map (kind_of U) (kids_of U 0) ≡ map (kind_of T) (kids_of T 0) → count_by (λ k. p (kind_of U k)) (kids_of U 0) ≡ count_by (λ k. p (kind_of T k)) (kids_of T 0)
same-count p U T kinds = count-kinds p (kind_of U) (kids_of U 0) ∙ (ap (count_by p) kinds ∙ sym (count-kinds p (kind_of T) (kids_of T 0)))

document-alike : (U T : Table) → map (kind_of U) (kids_of U 0) ≡ map (kind_of T) (kids_of T 0) → is_document T ≡ true → is_document U ≡ true
document-alike U T kinds is = ap₂ (λ (a b : ℕ). (a == 1) && (b == 0)) (same-count is_element U T kinds) (same-count is_text U T kinds) ∙ is

alone-lives : AllLive root_alone.nodes
alone-lives zero h = refl
alone-lives (suc n) h = absurd (omega arith)

-- what was told is the whole of a tree that was the root alone
added-lines : (U : Table) (told : List Line) → Adds root_alone.nodes U 0 0 told → lines U ≡ told
added-lines U told adds = adds.read_on [] refl ∙ (ap (λ (ends : List Line). told ++ ends) (adds.keeps 0 refl).closing ∙ append-nil told)

gives-told : (part : Part) (a b : Standing) (told other : List Line) (result : Result (Unit {0}) IncludeError) → (result ≡ Ok tt → told ≡ other) → Gives part a b told result → Gives part a b other result
gives-told part a b told other (Ok done) same h = subst (λ (ls : List Line). part a b (Ok ls)) (same refl) h
gives-told part a b told other (Err (error.Fault fault)) same h = h
gives-told part a b told other (Err error.Memory) same h = tt

module _ (old entered : Joiner) (file : OpenFile) (tree : entered.tree ≡ root_alone) (nodes : entered.nodes ≡ length (below file.tree.now.nodes 0)) (text : entered.text ≡ text_below file.tree.now.nodes 0)
    (reading : entered.reading.items ≡ file.name.now ∷ []) (above_is : file.above ≡ 0) (formed : WellFormed file.tree.now.nodes) (ordered : Ordered file.tree.now.nodes) where
  -- the root's kids may come below the root alone
  pub whole-can : IsFile file.tree.now.nodes → HasWaysUp file.tree.now.nodes → CanWalkKids entered file 0 0
  whole-can is_file ways = record {
    is_file = is_file;
    lives = root-lives file.tree.now.nodes ordered;
    kind = ap (λ (t : Contents). kind_of t.nodes 0) tree ∙ sym formed.root_kind;
    last = ap (λ (t : Contents). is_open t.nodes 0) tree;
    all_live = subst (λ (t : Contents). AllLive t.nodes) (sym tree) alone-lives;
    bare = ap (λ (t : Contents). kids_of t.nodes 0) tree;
    depth = ap (λ (t : Contents). length (above t.nodes 0)) tree ∙ omega (arith, above_is, ap length (ways.no_ancestors 0 formed.root_parent));
    shallow = ap (λ (d : ℕ). list_any (is_deep_at file.tree.now.nodes d) (order file.tree.now.nodes)) above_is ∙ tree-shallow file.tree.now.nodes formed (order file.tree.now.nodes);
    room = let alone : length (order entered.tree.nodes) ≡ 1 = ap (λ (t : Contents). length (order t.nodes)) tree in omega (arith, nodes, below-count file.tree.now.nodes ordered 0);
    few = omega (arith, nodes, formed.few_nodes);
    bytes = let alone : text_bytes entered.tree.nodes ≡ 0 = ap (λ (t : Contents). text_bytes t.nodes) tree in omega (arith, text, text-count file.tree.now.nodes ordered 0);
    little = omega (arith, text, formed.little_text);
    files = omega (arith, ap length reading);
  }

  module _ (new : Joiner) (F : Files → Type 0) (result : Result (Unit {0}) IncludeError) (kids : WalksKids entered new file 0 (kids_of file.tree.now.nodes 0) 0 result F) where
    alone-joins : result ≡ Ok tt → Adds root_alone.nodes new.tree.nodes 0 0 kids.told
    alone-joins ok = subst (λ (t : Contents). Adds t.nodes new.tree.nodes 0 0 kids.told) tree (kids.joins ok).adds

    -- the tree is a document with its numbers in order
    pub whole-document : IsFile file.tree.now.nodes → WellFormed new.tree.nodes → result ≡ Ok tt → IsNumberedDocument new.tree.nodes
    whole-document is_file its_formed ok = record {
      well_formed = its_formed;
      numbered = (alone-joins ok).numbered refl;
      all_live = (alone-joins ok).all_live;
      document = document-alike new.tree.nodes file.tree.now.nodes (kids.joins ok).kinds is_file.document;
    }

    -- the file was read from its root on
    pub whole-reads : IsInOrder file.tree.now.nodes → entered.opened ≡ old.opened → ReadsWhole old new file.tree.now.nodes file.name.now result F
    whole-reads numbered opened = record {
      gives = λ files are.
          subst (λ (source : Source). Gives (Walked (Taking files (MAX_INCLUDE_DEPTH + 1) source) file.tree.now.nodes (length file.tree.now.nodes) 0) (as_it_is file.tree.now.nodes (standing_of old)) (standing_of new) (lines new.tree.nodes) result) source_is
          (subst (λ (standing : Standing). Gives (Walked (Taking files (MAX_INCLUDE_DEPTH + 1) (source_of entered file)) file.tree.now.nodes (length file.tree.now.nodes) 0) standing (standing_of new) (lines new.tree.nodes) result) standing_is
          (gives-told (Walked (Taking files (MAX_INCLUDE_DEPTH + 1) (source_of entered file)) file.tree.now.nodes (length file.tree.now.nodes) 0) (standing_of entered) (standing_of new) (flat_map (opens file.tree.now.nodes) (0 ∷ attrs_of file.tree.now.nodes 0) ++ (kids.told ++ closes file.tree.now.nodes 0)) (lines new.tree.nodes) result
          (λ ok. root-tells file.tree.now.nodes formed kids.told ∙ sym (added-lines new.tree.nodes kids.told (alone-joins ok)))
          (subst (λ (levels : ℕ). Gives (Walked (Taking files (MAX_INCLUDE_DEPTH + 1) (source_of entered file)) file.tree.now.nodes levels 0) (standing_of entered) (standing_of new) (flat_map (opens file.tree.now.nodes) (0 ∷ attrs_of file.tree.now.nodes 0) ++ (kids.told ++ closes file.tree.now.nodes 0)) result) (sym some)
          (gives-open (Taking files (MAX_INCLUDE_DEPTH + 1) (source_of entered file)) file.tree.now.nodes (length file.tree.now.nodes - 1) 0 (standing_of entered) (standing_of new) kids.told result (root-no-include file.tree.now.nodes formed)
          (kids.gives files are (MAX_INCLUDE_DEPTH + 1) (length file.tree.now.nodes - 1) (omega (arith, ap length reading)) (omega (arith, some, count)))))));
    }
      where
        count : length (below file.tree.now.nodes 0) ≡ length file.tree.now.nodes
        count = ap length numbered ∙ upto-length (length file.tree.now.nodes)

        some : length file.tree.now.nodes ≡ suc (length file.tree.now.nodes - 1)
        some = omega (arith, count, below-count file.tree.now.nodes ordered 0)

        standing_is : standing_of entered ≡ as_it_is file.tree.now.nodes (standing_of old)
        standing_is = ap (λ (n : ℕ). record { nodes = n; text = entered.text; opened = entered.opened }) nodes
            ∙ ap₂ (λ (t : ℕ) (names : List (List ℕ)). record { nodes = length (order file.tree.now.nodes); text = t; opened = names }) text opened

        source_is : source_of entered file ≡ whole_source file.name.now file.tree.now.nodes
        source_is = ap₂ (λ (names : List (List ℕ)) (d : ℕ). record { tree = file.tree.now.nodes; name = file.name.now; reading = names; above = d }) reading above_is

-- the root has the number 0
pub at-root : (entered new : Joiner) (file : OpenFile) (n p : ℕ) (F : Files → Type 0) (result : Result (Unit {0}) IncludeError) → n ≡ 0 → p ≡ 0 → WalksKids entered new file n (kids_of file.tree.now.nodes n) p result F →
    WalksKids entered new file 0 (kids_of file.tree.now.nodes 0) 0 result F
at-root entered new file n p F result n_is p_is h =
    subst (λ (m : ℕ). WalksKids entered new file m (kids_of file.tree.now.nodes m) 0 result F) n_is (subst (λ (q : ℕ). WalksKids entered new file n (kids_of file.tree.now.nodes n) q result F) p_is h)

pub whole-passed : (old new : Joiner) (T : Table) (name : List ℕ) (F : Files → Type 0) (result : Result (Unit {0}) IncludeError) (e : IncludeError) → result ≡ Err e → ReadsWhole old new T name (Err e) F → ReadsWhole old new T name result F
whole-passed old new T name F result e is h = subst (λ (r : Result (Unit {0}) IncludeError). ReadsWhole old new T name r F) (sym is) h

-- the end of a list is that of what stands behind another
last-cut : (name : List ℕ) (names : List (List ℕ)) → (front : List (List ℕ)) × (end : List ℕ) × (name ∷ names ≡ front ++ end ∷ [])
last-cut name [] = ([], name, refl)
last-cut name (next ∷ names) = let at = last-cut next names in (name ∷ at.0, at.1, ap (λ (l : List (List ℕ)). name ∷ l) at.2)

names-last : (old : List (List ℕ)) (name : List ℕ) (names : List (List ℕ)) (e : IncludeError) → NamesLast (old ++ name ∷ names) e → NamesLast (name ∷ names) e
names-last old name names error.Memory h = tt
names-last old name names (error.Fault fault) h = λ of_file.
    let at = last-cut name names in
    let was = h of_file in
    let same = same_from_push (old ++ at.0) was.0 at.1 fault.name (append_assoc old at.0 (at.1 ∷ []) ∙ (ap (λ (l : List (List ℕ)). old ++ l) (sym at.2) ∙ was.1)) in
    (at.0, at.2 ∙ ap (λ (end : List ℕ). at.0 ++ end ∷ []) same.1)

-- the answers of a call that reads a schema
abbrev Read : Contents → Result Contents IncludeError
Read tree = Ok tree

abbrev Unread : IncludeError → Result Contents IncludeError
Unread e = Err e

some≢none : {A : Type 0} (name : List ℕ) (names : List (List ℕ)) → name ∷ names ≡ [] → A
some≢none name names h = absurd (cc)

pub read-passed : (s u : ShelfState) (name : List ℕ) (result : Result Contents IncludeError) (e : IncludeError) → result ≡ Err e → IsRead s.files name s.opened u.opened (Err e) → IsRead s.files name s.opened u.opened result
read-passed s u name result e is h = subst (λ (r : Result Contents IncludeError). IsRead s.files name s.opened u.opened r) (sym is) h

pub tree-read : (tree : Contents) → Read tree ≡ Err error.Memory → ⊥
tree-read tree h = cc

-- an error that is passed on
pub is-unread : (result : Result Contents IncludeError) (e : IncludeError) → IsErrAnd result (λ x. x ≡ e) → result ≡ Err e
is-unread (Ok tree) e h = absurd h
is-unread (Err x) e h = ap Unread h

-- how far the files of a call that failed were read
pub through-passed : {T : Type 0} (s u : ShelfState) (result : Result T IncludeError) (e : IncludeError) → result ≡ Err e → ReadsThrough (extent_of_including {T = T} (Err e)) s u → ReadsThrough (extent_of_including result) s u
through-passed {T} s u result e is h = subst (λ (r : Result T IncludeError). ReadsThrough (extent_of_including r) s u) (sym is) h

pub through-memory : (s : ShelfState) (result : Result Contents IncludeError) → result ≡ Err error.Memory → ReadsThrough (extent_of_including result) s s
through-memory s result is = through-passed s s result error.Memory is (one_of_both all_files s s (nothing_through s))

-- no file was opened before
module _ (s t : ShelfState) (name : List ℕ) (start : List (List ℕ)) (none : start ≡ []) where
  at-start : s.opened ≡ s.opened ++ start
  at-start = sym (ap (λ (names : List (List ℕ)). s.opened ++ names) none ∙ append-nil s.opened)

  one-opened : (opened : List (List ℕ)) → opened ≡ start ++ name ∷ [] → opened ≡ name ∷ []
  one-opened opened noted = noted ∙ ap (λ (names : List (List ℕ)). names ++ name ∷ []) none

  -- the schema's own file was not read
  pub read-unopened : (opened : List (List ℕ)) (e : IncludeError) → Shows {T = Contents} s t start opened (Err e) → (opened ≡ start) ⊎ (opened ≡ start ++ name ∷ []) → ((Unread e ≡ Err error.Memory → ⊥) → opened ≡ start ++ name ∷ []) →
      ((files : Files) → s.files ≡ Some files → LoadsFile files name (Err e)) → IsRead s.files name s.opened t.opened (Err e)
  read-unopened opened error.Memory shows once noted loads = record {
    opened = opened;
    noted = shows.noted s.opened at-start;
    named_first = first once;
    some = λ nothing. refl;
    last = tt;
    answered = λ files are. tt;
  }
    where
      first : (opened ≡ start) ⊎ (opened ≡ start ++ name ∷ []) → IsFirst name opened
      first (inl same) = subst (IsFirst name) (sym (same ∙ none)) tt
      first (inr more) = subst (IsFirst name) (sym (one-opened opened more)) refl
  read-unopened opened (error.Fault fault) shows once noted loads = record {
    opened = name ∷ [];
    noted = all;
    named_first = refl;
    some = λ nothing. some≢none name [] nothing;
    last = names-last s.opened name [] (error.Fault fault) (subst (λ (names : List (List ℕ)). NamesLast names (error.Fault fault)) all shows.last);
    answered = λ files are. record { after = record nothing { opened = name ∷ [] }; stops = record { either = inl (fault, loads files are, refl, refl) }; opens = refl };
  }
    where
      all : t.opened ≡ s.opened ++ name ∷ []
      all = shows.noted s.opened at-start ∙ ap (λ (names : List (List ℕ)). s.opened ++ names) (one-opened opened (noted (λ h. cc)))

  -- the schema's own file was opened, and what it includes is read
  module _ (u : ShelfState) (tree : Contents) (old new : Joiner) (opened : old.opened ≡ start ++ name ∷ []) (one : Shows {T = Contents} s t start old.opened (Ok tree)) where
    all-opened : (later : (more : List (List ℕ)) × (new.opened ≡ old.opened ++ more)) → new.opened ≡ name ∷ later.0
    all-opened later = later.1 ∙ ap (λ (names : List (List ℕ)). names ++ later.0) (one-opened old.opened opened)

    all-noted : (result : Result (Unit {0}) IncludeError) (two : Shows {T = Unit {0}} t u old.opened new.opened result) → u.opened ≡ s.opened ++ name ∷ two.later.0
    all-noted result two = two.noted s.opened (one.noted s.opened at-start) ∙ ap (λ (names : List (List ℕ)). s.opened ++ names) (all-opened two.later)

    whole-file : (files : Files) (result : Result (List Line) IncludeFault) → WholeFile files name tree.nodes (standing_of old) (standing_of new) result → WholeFile files name tree.nodes (record nothing { opened = name ∷ [] }) (standing_of new) result
    whole-file files result h = subst (λ (names : List (List ℕ)). WholeFile files name tree.nodes (record nothing { opened = names }) (standing_of new) result) (one-opened old.opened opened) h

    pub counted-stopped : (e : IncludeError) → Shows {T = Unit {0}} t u old.opened new.opened (Err e) → (result : Result (Unit {0}) IncludeError) → result ≡ Err e →
        (u.misses ≡ misses_of_including result s.misses) × (u.faults ≡ faults_of_including result s.faults) × ReadsThrough (extent_of_including result) s u
    counted-stopped e two result is =
        let both : Shows {T = Unit {0}} s u start new.opened (Err e) = shows-then s t u start old.opened new.opened tree (Err e) one two in
        subst (λ (r : Result (Unit {0}) IncludeError). (u.misses ≡ misses_of_including r s.misses) × (u.faults ≡ faults_of_including r s.faults) × ReadsThrough (extent_of_including r) s u) (sym is)
        (both.misses, both.faults, both.through)

    module _ (loads : (files : Files) → s.files ≡ Some files → LoadsFile files name (Ok tree)) where
      pub read-stopped : (e : IncludeError) → Shows {T = Unit {0}} t u old.opened new.opened (Err e) → ReadsWhole old new tree.nodes name (Err e) (λ files. t.files ≡ Some files) → IsRead s.files name s.opened u.opened (Err e)
      read-stopped e two reads = record {
        opened = name ∷ two.later.0;
        noted = all-noted (Err e) two;
        named_first = refl;
        some = λ nothing. some≢none name two.later.0 nothing;
        last = names-last s.opened name two.later.0 e (subst (λ (names : List (List ℕ)). NamesLast names e) (all-noted (Err e) two) two.last);
        answered = λ files are. answer e files are (reads.gives files (one.held ∙ are));
      }
        where
          answer : (x : IncludeError) (files : Files) → s.files ≡ Some files → Gives (WholeFile files name tree.nodes) (standing_of old) (standing_of new) (lines new.tree.nodes) (Err x) → IsAnswered files name (name ∷ two.later.0) (Err x)
          answer error.Memory files are h = tt
          answer (error.Fault fault) files are h = record {
            after = standing_of new;
            stops = record { either = inr (tree.nodes, loads files are, whole-file files (Err fault) h) };
            opens = all-opened two.later;
          }

      pub read-through : Shows {T = Unit {0}} t u old.opened new.opened (Ok tt) → ReadsWhole old new tree.nodes name (Ok tt) (λ files. t.files ≡ Some files) → IsNumberedDocument new.tree.nodes → IsRead s.files name s.opened u.opened (Ok new.tree)
      read-through two reads document = record {
        opened = name ∷ two.later.0;
        noted = all-noted (Ok tt) two;
        named_first = refl;
        some = λ nothing. some≢none name two.later.0 nothing;
        last = tt;
        answered = λ files are. record {
          after = standing_of new;
          gives = record { either = inr (tree.nodes, loads files are, whole-file files (Ok (lines new.tree.nodes)) (reads.gives files (one.held ∙ are))) };
          opens = all-opened two.later;
          document = document;
        };
      }
