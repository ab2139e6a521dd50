-- A node of a file that is no include: its copy, and its kids below it.
use Rattle.std.proofs.Common.{◌≡◌, ℕ, suc, ◌+◌, ◌-◌, ◌≤◌, ◌||◌, Bool, true, false, List, [], ◌∷◌, ◌++◌, length, Option, Some, refl, sym, ap, ap₂, ◌∙◌, subst, true≢false, arith, append_assoc}
use Rattle.std.specs.Prelude.{Result, Ok, Err, ◌&&◌, ◌==◌, nat_lt}
use Rattle.std.specs.List.{flat_map, list_any}
use Rattle.std.proofs.lemmas.Bool.{eqb-true, ltb-false}
use Rattle.sch_io.specs.Files.{Files}
use Rattle.doc_tree.specs.Kinds.{is_element}
use Rattle.doc_tree.specs.kind.Kind.{Kind}
use Rattle.doc_tree.specs.kind.Kind.TheVariants as kind
use Rattle.doc_tree.specs.Laws.{HasWaysUp, Ordered}
use Rattle.doc_tree.specs.limits.TheConstants.{MAX_DEPTH}
use Rattle.doc_tree.specs.Lines.{Line, closes, closing, last_lines, lines_at, opens}
use Rattle.doc_tree.specs.Lists.{mem}
use Rattle.doc_tree.specs.Table.{Contents, Table, attrs_of, is_live, kids_of, kind_at, kind_of}
use Rattle.doc_tree.specs.Walks.{ancestors}
use Rattle.name_scopes.proofs.NumberLemmas.{content-live}
use Rattle.sch_include.specs.declared.fault.IncludeError.{IncludeError}
use Rattle.sch_include.specs.declared.fault.IncludeError.TheVariants as error
use Rattle.sch_include.specs.declared.joiner.Joiner.{Joiner}
use Rattle.sch_include.specs.declared.source.OpenFile.{OpenFile}
use Rattle.sch_include.specs.Includes.{is_include}
use Rattle.sch_include.specs.Taking.{Taking, Walked}
use Rattle.sch_include.specs.inner.Deep.{is_deep_at}
use Rattle.sch_include.specs.inner.Growing.{Adds, Copied, Starts, TakesCopy, own_text}
use Rattle.sch_include.specs.inner.Growing as growing
use Rattle.sch_include.specs.inner.Joining.{CanWalk, CanWalkKids, Gives, Joins, JoinsKids, Keeps, Walks, WalksKids, source_of, standing_of}
use Rattle.sch_include.proofs.GrowLemmas.{adds-close, adds-then, live-apart}
use Rattle.sch_include.proofs.PartLemmas.{gives-open}
use Rattle.sch_include.proofs.WalkLemmas.{below-count, text-count}

-- what no node of a list is
or-left : (a b : Bool) → (a || b) ≡ false → a ≡ false
or-left true b h = absurd (true≢false h)
or-left false b h = refl

or-right : (a b : Bool) → (a || b) ≡ false → b ≡ false
or-right true b h = absurd (true≢false h)
or-right false b h = h

pub none-is : (p : ℕ → Bool) (ns : List ℕ) (n : ℕ) → list_any p ns ≡ false → mem n ns ≡ true → p n ≡ false
none-is p [] n h among = absurd (true≢false (sym among))
none-is p (m ∷ ns) n h among = by (n == m) refl among (none-is p ns n (or-right (p m) (list_any p ns) h))
  where
    by : (b : Bool) → (n == m) ≡ b → (b || mem n ns) ≡ true → (mem n ns ≡ true → p n ≡ false) → p n ≡ false
    by true e there rest = ap p (eqb-true n m e) ∙ or-left (p m) (list_any p ns) h
    by false e there rest = rest there

pub deep-bound : (T : Table) (d n : ℕ) → kind_of T n ≡ Some kind.Element → is_deep_at T d n ≡ false → d + length (ancestors T n) ≤ MAX_DEPTH
deep-bound T d n is h = ltb-false MAX_DEPTH (d + length (ancestors T n)) (ap (λ (k : Option Kind). is_element k && nat_lt MAX_DEPTH (d + length (ancestors T n))) (sym is) ∙ h)

module _ (joiner : Joiner) (file : OpenFile) (n p : ℕ) (can : CanWalk joiner file n p) (ordered : Ordered file.tree.now.nodes) where
  -- a node of a file may be copied
  pub takes-node : (is_element (kind_of file.tree.now.nodes n) ≡ true → file.above + length (ancestors file.tree.now.nodes n) ≤ MAX_DEPTH) → TakesCopy joiner.tree.nodes p file.tree.now.nodes n
  takes-node shallow = record {
    receives = can.receives;
    kid = can.kid;
    apart = can.apart;
    shallow = λ is. omega (arith, shallow is, can.depth);
    room = omega (arith, can.room, can.few, below-count file.tree.now.nodes ordered n);
    little = omega (arith, can.bytes, can.little, text-count file.tree.now.nodes ordered n);
  }

  module _ (tree : Contents) (k : ℕ) (copied : Copied joiner.tree.nodes tree.nodes p k file.tree.now.nodes n) where
    start : Starts joiner.tree.nodes tree.nodes p k copied.content (flat_map (opens file.tree.now.nodes) (n ∷ attrs_of file.tree.now.nodes n)) (suc (length (attrs_of file.tree.now.nodes n))) (own_text file.tree.now.nodes n)
    start = copied.starts

    -- its kids may come below the copy
    pub kids-walk : CanWalkKids (record joiner { tree = tree }) file n k
    kids-walk = record {
      is_file = can.is_file;
      lives = can.lives;
      kind = ap kind_at (start.content_is ∙ sym copied.content_is);
      last = start.adds.stays_open;
      all_live = start.adds.all_live;
      bare = start.no_kid;
      depth = ap length start.above ∙ omega (arith, can.depth);
      shallow = can.shallow;
      room = omega (arith, can.room, start.counted, below-count file.tree.now.nodes ordered n);
      few = can.few;
      bytes = omega (arith, can.bytes, start.bytes, text-count file.tree.now.nodes ordered n);
      little = can.little;
      files = can.files;
    }

    module _ (new : Joiner) (F : Files → Type 0) (result : Result (Unit {0}) IncludeError) (kids : WalksKids (record joiner { tree = tree }) new file n (kids_of file.tree.now.nodes n) k result F) where
      node-joins : HasWaysUp new.tree.nodes → result ≡ Ok tt → Joins joiner.tree.nodes new.tree.nodes p file.tree.now.nodes n (flat_map (opens file.tree.now.nodes) (n ∷ attrs_of file.tree.now.nodes n) ++ (kids.told ++ closes file.tree.now.nodes n))
      node-joins ways ok =
          let more : JoinsKids (record joiner { tree = tree }) new file.tree.now.nodes (kids_of file.tree.now.nodes n) k kids.told = kids.joins ok in
          let lives : is_live tree.nodes k ≡ true = content-live tree.nodes k copied.content start.content_is in
          let stays : growing.Keeps tree.nodes new.tree.nodes k = more.adds.keeps k lives in
          let parent-stays : growing.Keeps joiner.tree.nodes tree.nodes p = start.adds.keeps p start.under in
          let parent-still : growing.Keeps tree.nodes new.tree.nodes p = more.adds.keeps p parent-stays.lives in
          let ends : closing new.tree.nodes k ≡ closes file.tree.now.nodes n ++ closing new.tree.nodes p =
          stays.closing ∙ (start.closing ∙ ap₂ (λ (a b : List Line). a ++ b) (ap (lines_at last_lines) (sym copied.content_is)) (sym (parent-still.closing ∙ parent-stays.closing))) in
          record {
            adds = subst (λ (told : List Line). Adds joiner.tree.nodes new.tree.nodes p p told) (append_assoc (flat_map (opens file.tree.now.nodes) (n ∷ attrs_of file.tree.now.nodes n)) kids.told (closes file.tree.now.nodes n))
                (adds-close joiner.tree.nodes new.tree.nodes p k (flat_map (opens file.tree.now.nodes) (n ∷ attrs_of file.tree.now.nodes n) ++ kids.told) (closes file.tree.now.nodes n)
                (adds-then joiner.tree.nodes tree.nodes new.tree.nodes p k k (flat_map (opens file.tree.now.nodes) (n ∷ attrs_of file.tree.now.nodes n)) kids.told start.adds more.adds (λ m live ne. live-apart joiner.tree.nodes k m start.new live))
                ends (stays.parent ∙ start.parent) ways);
            kid = k;
            kids_are = more.adds.same_kids p parent-stays.lives (live-apart joiner.tree.nodes k p start.new start.under) ∙ start.kid;
            kind_is = ap kind_at (stays.content ∙ (start.content_is ∙ sym copied.content_is));
          }

      -- the node was walked
      pub node-walks : HasWaysUp new.tree.nodes → is_include file.tree.now.nodes n ≡ false → Walks joiner new file n p result F
      node-walks ways isnt = record {
        told = flat_map (opens file.tree.now.nodes) (n ∷ attrs_of file.tree.now.nodes n) ++ (kids.told ++ closes file.tree.now.nodes n);
        gives = λ files are depth levels deep room.
            let some : levels ≡ suc (levels - 1) = omega (arith, room, below-count file.tree.now.nodes ordered n) in
            subst (λ (l : ℕ). Gives (Walked (Taking files depth (source_of joiner file)) file.tree.now.nodes l n) (standing_of joiner) (standing_of new) (flat_map (opens file.tree.now.nodes) (n ∷ attrs_of file.tree.now.nodes n) ++ (kids.told ++ closes file.tree.now.nodes n)) result) (sym some)
            (gives-open (Taking files depth (source_of joiner file)) file.tree.now.nodes (levels - 1) n (standing_of joiner) (standing_of new) kids.told result isnt
            (kids.gives files are depth (levels - 1) deep (omega (arith, room, below-count file.tree.now.nodes ordered n))));
        joins = node-joins ways;
      }

      -- what is still to come stays
      pub node-keeps : result ≡ Ok tt → Keeps joiner new file n
      node-keeps ok =
          let more : JoinsKids (record joiner { tree = tree }) new file.tree.now.nodes (kids_of file.tree.now.nodes n) k kids.told = kids.joins ok in
          record {
            reading = more.reading;
            nodes = omega (arith, more.nodes, start.counted, below-count file.tree.now.nodes ordered n);
            few = more.few;
            text = omega (arith, more.text, start.bytes, text-count file.tree.now.nodes ordered n);
            little = more.little;
          }

-- want of memory
pub walks-memory : (old new : Joiner) (file : OpenFile) (n p : ℕ) (F : Files → Type 0) → Walks old new file n p (Err error.Memory) F
walks-memory old new file n p F = record { told = []; gives = λ files are depth levels deep room. tt; joins = λ ok. absurd (cc) }
