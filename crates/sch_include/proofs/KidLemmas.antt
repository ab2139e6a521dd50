-- The kids of a node of a file, walked one after another.
use Rattle.std.proofs.Common.{◌≡◌, ℕ, suc, ◌+◌, ◌<◌, ◌≤◌, Bool, true, false, List, [], ◌∷◌, ◌++◌, length, map, take, drop, slice_index_or, Option, None, Some, refl, sym, ap, ap₂, ◌∙◌, subst, true≢false, arith, append_assoc, append-nil}
use Rattle.std.specs.Prelude.{Result, Ok, Err, ◌&&◌}
use Rattle.std.proofs.lemmas.List.{map-append}
use Rattle.sch_base.proofs.Lists.{cut-at, take-next}
use Rattle.sch_base.specs.declared.limits.TheConstants.{MAX_INCLUDE_DEPTH}
use Rattle.sch_io.specs.Files.{Files}
use Rattle.sch_io.specs.ReadThrough.{all_files}
use Rattle.sch_io.specs.ShelfState.{ShelfState}
use Rattle.sch_io.proofs.ReadThrough.{nothing_through, one_of_both, through_then}
use Rattle.doc_tree.proofs.ListLemmas.{mem-head, mem-tail}
use Rattle.doc_tree.specs.Growth.{ends_in_text}
use Rattle.doc_tree.specs.kind.Kind.{Kind}
use Rattle.doc_tree.specs.Kinds.{holds_kids, is_text}
use Rattle.doc_tree.specs.Laws.{HasWaysUp, Ordered, TextsApart, WellFormed}
use Rattle.doc_tree.specs.Lines.{Line, closing}
use Rattle.doc_tree.specs.Lists.{mem}
use Rattle.doc_tree.specs.Table.{Table, is_live, kids_of, kind_at, kind_of}
use Rattle.doc_tree.specs.Walks.{below}
use Rattle.name_scopes.proofs.NumberLemmas.{kind-live}
use Rattle.sch_include.specs.declared.fault.IncludeError.{IncludeError}
use Rattle.sch_include.specs.declared.fault.IncludeError.TheVariants as error
use Rattle.sch_include.specs.declared.joiner.Joiner.{Joiner}
use Rattle.sch_include.specs.declared.source.OpenFile.{OpenFile}
use Rattle.sch_include.specs.Ends.{extent_of_including, faults_of_including, misses_of_including}
use Rattle.sch_include.specs.Parts.{InTurn, Part, Standing}
use Rattle.sch_include.specs.Taking.{Source, Taking, Walked}
use Rattle.sch_include.specs.inner.Growing.{Adds}
use Rattle.sch_include.specs.inner.Growing as growing
use Rattle.sch_include.specs.inner.Joining.{CanWalk, CanWalkKids, Gives, Joins, JoinsKids, Keeps, Shows, Walks, WalksKids, source_of, standing_of}
use Rattle.sch_include.proofs.GrowLemmas.{adds-then}
use Rattle.sch_include.proofs.PartLemmas.{in-turn-append, in-turn-one, in-turn-stop}
use Rattle.sch_include.proofs.WalkLemmas.{below-count, kid-bound, kid-count, kid-depth, kid-here, kid-lives, kid-text, kid-text-bound}

-- what one call shows, then the next
pub shows-then : {A B : Type 0} (s t u : ShelfState) (a b c : List (List ℕ)) (x : A) (result : Result B IncludeError) → Shows {T = A} s t a b (Ok x) → Shows {T = B} t u b c result → Shows {T = B} s u a c result
shows-then s t u a b c x result one two = record {
  held = two.held ∙ one.held;
  noted = λ base was. two.noted base (one.noted base was);
  later = (one.later.0 ++ two.later.0, two.later.1 ∙ (ap (λ (l : List (List ℕ)). l ++ two.later.0) one.later.1 ∙ append_assoc a one.later.0 two.later.0));
  misses = subst (λ (m : ℕ). u.misses ≡ misses_of_including result m) one.misses two.misses;
  faults = subst (λ (m : ℕ). u.faults ≡ faults_of_including result m) one.faults two.faults;
  last = two.last;
  through = through_then (extent_of_including result) s t u one.through two.through;
}

pub shows-none : (s : ShelfState) (a : List (List ℕ)) → Shows {T = Unit {0}} s s a a (Ok tt)
shows-none s a = record { held = refl; noted = λ base was. was; later = ([], sym (append-nil a)); misses = refl; faults = refl; last = tt; through = nothing_through s }

pub shows-memory : {A : Type 0} (s : ShelfState) (a : List (List ℕ)) → Shows {T = A} s s a a (Err error.Memory)
shows-memory s a = record { held = refl; noted = λ base was. was; later = ([], sym (append-nil a)); misses = refl; faults = refl; last = tt; through = one_of_both all_files s s (nothing_through s) }

-- kinds decide whether nodes end in a text
ends-alike : (U T : Table) (ms ns : List ℕ) → map (kind_of U) ms ≡ map (kind_of T) ns → ends_in_text U ms ≡ ends_in_text T ns
ends-alike U T [] [] h = refl
ends-alike U T [] (n ∷ ns) h = absurd (cc)
ends-alike U T (m ∷ ms) [] h = absurd (cc)
ends-alike U T (m ∷ []) (n ∷ []) h = let same : kind_of U m ≡ kind_of T n = (cc) in ap is_text same
ends-alike U T (m ∷ []) (n ∷ k ∷ ns) h = absurd (cc)
ends-alike U T (m ∷ k ∷ ms) (n ∷ []) h = absurd (cc)
ends-alike U T (m ∷ k ∷ ms) (n ∷ l ∷ ns) h = let same : map (kind_of U) (k ∷ ms) ≡ map (kind_of T) (l ∷ ns) = (cc) in ends-alike U T (k ∷ ms) (l ∷ ns) same

left-false : (a b : Bool) → (a && b) ≡ false → b ≡ true → a ≡ false
left-false true b h e = absurd (true≢false (sym e ∙ h))
left-false false b h e = refl

apart-at : (T : Table) (ns : List ℕ) (k : ℕ) (rest : List ℕ) → TextsApart T (ns ++ k ∷ rest) → is_text (kind_of T k) ≡ true → ends_in_text T ns ≡ false
apart-at T [] k rest h e = refl
apart-at T (n ∷ []) k rest h e = left-false (is_text (kind_of T n)) (is_text (kind_of T k)) h.0 e
apart-at T (n ∷ m ∷ ms) k rest h e = apart-at T (m ∷ ms) k rest h.1 e

same-map : (f g : ℕ → Option Kind) (ms : List ℕ) → ((m : ℕ) → mem m ms ≡ true → f m ≡ g m) → map f ms ≡ map g ms
same-map f g [] h = refl
same-map f g (m ∷ ms) h = ap₂ (λ (k : Option Kind) (ks : List (Option Kind)). k ∷ ks) (h m (mem-head m ms)) (same-map f g ms (λ k among. h k (mem-tail k m ms among)))

holder-kind : (k : Option Kind) → holds_kids k ≡ true → (kind : Kind) × (k ≡ Some kind)
holder-kind None h = absurd (true≢false (sym h))
holder-kind (Some kind) h = (kind, refl)

gives-result : (part : Part) (a b : Standing) (told : List Line) (result : Result (Unit {0}) IncludeError) → result ≡ Ok tt → Gives part a b told result → part a b (Ok told)
gives-result part a b told (Ok done) e h = h
gives-result part a b told (Err f) e h = absurd (cc)

-- no kid yet
pub kids-none : (joiner : Joiner) (file : OpenFile) (n p : ℕ) (F : Files → Type 0) → CanWalkKids joiner file n p → WalksKids joiner joiner file n [] p (Ok tt) F
kids-none joiner file n p F can = record {
  told = [];
  gives = λ files are depth levels deep room. (refl, refl);
  joins = λ done. record {
    adds = record {
      all_live = can.all_live;
      numbered = λ was. was;
      stays_open = can.last;
      read_on = λ before was. was ∙ ap (λ (ls : List Line). ls ++ closing joiner.tree.nodes p) (sym (append-nil before));
      keeps = λ m live. record { lives = live; content = refl; parent = refl; above = refl; closing = refl };
      same_kids = λ m live ne. refl;
    };
    kinds = ap (map (kind_of joiner.tree.nodes)) can.bare;
    reading = refl;
    nodes = omega arith;
    few = can.few;
    text = omega arith;
    little = can.little;
  };
}

module _ (old mid : Joiner) (file : OpenFile) (n p i kid : ℕ) (F : Files → Type 0) (can : CanWalkKids old file n p)
    (was : WalksKids old mid file n (take i (kids_of file.tree.now.nodes n)) p (Ok tt) F)
    (is : kid ≡ slice_index_or (kids_of file.tree.now.nodes n) i kid) (less : i < length (kids_of file.tree.now.nodes n))
    (formed : WellFormed file.tree.now.nodes) (ordered : Ordered file.tree.now.nodes) (ways : HasWaysUp file.tree.now.nodes) where
  joins : JoinsKids old mid file.tree.now.nodes (take i (kids_of file.tree.now.nodes n)) p was.told
  joins = was.joins refl

  here : mem kid (kids_of file.tree.now.nodes n) ≡ true
  here = kid-here file.tree.now.nodes n i kid is less

  cut : kids_of file.tree.now.nodes n ≡ (take i (kids_of file.tree.now.nodes n)) ++ kid ∷ drop (suc i) (kids_of file.tree.now.nodes n)
  cut = cut-at (kids_of file.tree.now.nodes n) i kid is less

  holds : holds_kids (kind_of old.tree.nodes p) ≡ true
  holds = ap holds_kids can.kind ∙ formed.holder_kind n kid here

  live : is_live old.tree.nodes p ≡ true
  live = let at = holder-kind (kind_of old.tree.nodes p) holds in kind-live old.tree.nodes p at.0 at.1

  kept : growing.Keeps old.tree.nodes mid.tree.nodes p
  kept = joins.adds.keeps p live

  -- the next kid may come
  pub kids-can : CanWalk mid file kid p
  kids-can = record {
    is_file = can.is_file;
    lives = kid-lives file.tree.now.nodes n i kid is less ways;
    kid = formed.kid_kind n kid here;
    receives = record { holder = ap (λ c. holds_kids (kind_at c)) kept.content ∙ holds; last = joins.adds.stays_open; all_live = joins.adds.all_live };
    apart = λ text. ends-alike mid.tree.nodes file.tree.now.nodes (kids_of mid.tree.nodes p) (take i (kids_of file.tree.now.nodes n)) joins.kinds ∙ apart-at file.tree.now.nodes (take i (kids_of file.tree.now.nodes n)) kid (drop (suc i) (kids_of file.tree.now.nodes n)) (subst (TextsApart file.tree.now.nodes) cut (formed.texts_apart n)) text;
    depth = ap length kept.above ∙ (can.depth ∙ ap (λ (d : ℕ). file.above + d) (sym (kid-depth file.tree.now.nodes n i kid is less ways formed)));
    shallow = can.shallow;
    room = omega (arith, can.room, joins.nodes, kid-bound file.tree.now.nodes n i kid is less);
    few = joins.few;
    bytes = omega (arith, can.bytes, joins.text, kid-text-bound file.tree.now.nodes n i kid is less);
    little = joins.little;
    files = subst (λ (names : List (List ℕ)). length names ≤ MAX_INCLUDE_DEPTH + 1) (sym joins.reading) can.files;
  }

  same_source : source_of mid file ≡ source_of old file
  same_source = ap (λ (names : List (List ℕ)). record { tree = file.tree.now.nodes; name = file.name.now; reading = names; above = file.above }) joins.reading

  kid-levels : (levels : ℕ) → length (below file.tree.now.nodes n) ≤ suc levels → length (below file.tree.now.nodes kid) ≤ levels
  kid-levels levels h = omega (arith, h, below-count file.tree.now.nodes ordered n, kid-bound file.tree.now.nodes n i kid is less)

  module _ (new : Joiner) (G : Files → Type 0) (same : (files : Files) → F files → G files) where
    kid-gives : (result : Result (Unit {0}) IncludeError) (walks : Walks mid new file kid p result G) (files : Files) → F files → (depth levels : ℕ) → depth + length old.reading.items ≡ MAX_INCLUDE_DEPTH + 2 → length (below file.tree.now.nodes n) ≤ suc levels →
        Gives (Walked (Taking files depth (source_of old file)) file.tree.now.nodes levels kid) (standing_of mid) (standing_of new) walks.told result
    kid-gives result walks files are depth levels deep room =
        subst (λ (source : Source). Gives (Walked (Taking files depth source) file.tree.now.nodes levels kid) (standing_of mid) (standing_of new) walks.told result) same_source
        (walks.gives files (same files are) depth levels (ap (λ (names : List (List ℕ)). depth + length names) joins.reading ∙ deep) (kid-levels levels room))

    -- one more kid
    pub kids-more : HasWaysUp mid.tree.nodes → Keeps mid new file kid → Walks mid new file kid p (Ok tt) G → WalksKids old new file n (take (i + 1) (kids_of file.tree.now.nodes n)) p (Ok tt) F
    kids-more mids keeps walks =
        let one : Joins mid.tree.nodes new.tree.nodes p file.tree.now.nodes kid walks.told = walks.joins refl in
        let front : take (i + 1) (kids_of file.tree.now.nodes n) ≡ (take i (kids_of file.tree.now.nodes n)) ++ kid ∷ [] = take-next (kids_of file.tree.now.nodes n) i kid is less in
        record {
          told = was.told ++ walks.told;
          gives = λ files are depth levels deep room.
              subst (λ (ms : List ℕ). InTurn (Walked (Taking files depth (source_of old file)) file.tree.now.nodes levels) ms (standing_of old) (standing_of new) (Ok (was.told ++ walks.told))) (sym front)
              (in-turn-append (Walked (Taking files depth (source_of old file)) file.tree.now.nodes levels) (take i (kids_of file.tree.now.nodes n)) (kid ∷ []) (standing_of old) (standing_of mid) (standing_of new) was.told (Ok walks.told)
              (was.gives files are depth levels deep room)
              (in-turn-one (Walked (Taking files depth (source_of old file)) file.tree.now.nodes levels) kid (standing_of mid) (standing_of new) walks.told (kid-gives (Ok tt) walks files are depth levels deep room)));
          joins = λ ok. record {
            adds = adds-then old.tree.nodes mid.tree.nodes new.tree.nodes p p p was.told walks.told joins.adds one.adds (λ m lives ne. ne);
            kinds =
                ap (map (kind_of new.tree.nodes)) one.kids_are
                ∙ (map-append (kind_of new.tree.nodes) (kids_of mid.tree.nodes p) (one.kid ∷ [])
                ∙ (ap₂ (λ (ks : List (Option Kind)) (k : Option Kind). ks ++ k ∷ [])
                (same-map (kind_of new.tree.nodes) (kind_of mid.tree.nodes) (kids_of mid.tree.nodes p) (λ m among. ap kind_at (one.adds.keeps m (mids.kid_live p m among)).content) ∙ joins.kinds) one.kind_is
                ∙ (sym (map-append (kind_of file.tree.now.nodes) (take i (kids_of file.tree.now.nodes n)) (kid ∷ [])) ∙ ap (map (kind_of file.tree.now.nodes)) (sym front))));
            reading = keeps.reading ∙ joins.reading;
            nodes = omega (arith, keeps.nodes, joins.nodes, kid-count file.tree.now.nodes n i kid is less);
            few = keeps.few;
            text = omega (arith, keeps.text, joins.text, kid-text file.tree.now.nodes n i kid is less);
            little = keeps.little;
          };
        }

    -- a kid stopped it
    pub kids-stop : (e : IncludeError) → Walks mid new file kid p (Err e) G → WalksKids old new file n (kids_of file.tree.now.nodes n) p (Err e) F
    kids-stop error.Memory walks = record { told = []; gives = λ files are depth levels deep room. tt; joins = λ ok. absurd (cc) }
    kids-stop (error.Fault fault) walks = record {
      told = [];
      gives = λ files are depth levels deep room.
          subst (λ (ms : List ℕ). InTurn (Walked (Taking files depth (source_of old file)) file.tree.now.nodes levels) ms (standing_of old) (standing_of new) (Err fault)) (sym cut)
          (in-turn-append (Walked (Taking files depth (source_of old file)) file.tree.now.nodes levels) (take i (kids_of file.tree.now.nodes n)) (kid ∷ drop (suc i) (kids_of file.tree.now.nodes n)) (standing_of old) (standing_of mid) (standing_of new) was.told (Err fault)
          (was.gives files are depth levels deep room)
          (in-turn-stop (Walked (Taking files depth (source_of old file)) file.tree.now.nodes levels) kid (drop (suc i) (kids_of file.tree.now.nodes n)) (standing_of mid) (standing_of new) fault (kid-gives (Err (error.Fault fault)) walks files are depth levels deep room)));
      joins = λ ok. absurd (cc);
    }
