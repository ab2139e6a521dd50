-- The kept nodes without some of them, and the counts then.
use Rattle.std.proofs.Common.{◌≡◌, ◌≢◌, ℕ, ◌+◌, ◌-◌, ◌<◌, ◌≤◌, zero, suc, true, List, [], ◌∷◌, ◌++◌, length, get_or, set, take, drop, Option, None, Some, refl, sym, ap, ap₂, ◌∙◌, subst, ⊎_elim, arith, append-nil, append_assoc}
use Rattle.std.specs.List.{flat_map}
use Rattle.std.proofs.lemmas.Grind.{flat_map-append}
use Rattle.std.proofs.lemmas.List.{map-set, set-get_or, set_comm, take_more, take-append-drop, get_or-set_other}
use Rattle.std.proofs.Math.Seq.{drop-cons, take-length}
use Rattle.doc_table.specs.declared.node.Node.{Node}
use Rattle.doc_table.specs.Lists.{mem, occurs, Distinct}
use Rattle.doc_table.specs.Table.{Table, Name, entry_at, kids_at, attrs_at, kids_of, attrs_of, value_in, is_live}
use Rattle.doc_table.specs.Walks.{below}
use Rattle.doc_table.specs.inner.Parts.{Parts, table_of}
use Rattle.doc_table.specs.inner.Sound.{Formed, table_sum, text_in}
use Rattle.doc_table.specs.inner.Views.{content_seen, node_seen, table_seen}
use Rattle.doc_table.proofs.ListLemmas.{In, In-mem, mem-In, mem-get, occurs-append, occurs-head, occurs-other, eq_or}
use Rattle.doc_table.proofs.SoundLemmas.{seen-entry}
use Rattle.doc_table.proofs.TreeLaws.{ordered, ways-up}
use Rattle.doc_edits.specs.Changes.{cleared}
use Rattle.doc_edits.specs.inner.Removing.{Counted, HasBranch, Clears, emptied}
use Rattle.doc_edits.proofs.ClearLemmas.{cleared-kept, sum-taken}

-- two entries are set to the same in any order
set-both : {A : Type 0} (xs : List A) (m n : ℕ) (v : A) → set (set xs m v) n v ≡ set (set xs n v) m v
set-both xs m n v =
    ⊎_elim (λ (e : m ≡ n). ap₂ (λ i j. set (set xs i v) j v) e (sym e)) (λ (ne : m ≢ n). set_comm xs m n v v ne) (eq_or m n)

emptied-set : (ns : List ℕ) (nodes : List (Option Node)) (n : ℕ) → emptied ns (set nodes n None) ≡ set (emptied ns nodes) n None
emptied-set [] nodes n = refl
emptied-set (m ∷ ns) nodes n = ap (λ l. set l m None) (emptied-set ns nodes n) ∙ set-both (emptied ns nodes) n m None

pub emptied-behind : (ms ns : List ℕ) (nodes : List (Option Node)) → emptied (ms ++ ns) nodes ≡ emptied ns (emptied ms nodes)
emptied-behind [] ns nodes = refl
emptied-behind (m ∷ ms) ns nodes = ap (λ l. set l m None) (emptied-behind ms ns nodes) ∙ sym (emptied-set ns (emptied ms nodes) m)

pub emptied-kept : (ns : List ℕ) (nodes : List (Option Node)) (m : ℕ) → occurs m ns ≡ 0 → get_or (emptied ns nodes) m None ≡ get_or nodes m None
emptied-kept [] nodes m h = refl
emptied-kept (n ∷ ns) nodes m h =
    get_or-set_other (emptied ns nodes) n m None None
    (λ e. absurd (let k : In m (n ∷ ns) = subst (λ j. In m (j ∷ ns)) e (occurs-head m ns) in omega arith))
    ∙ emptied-kept ns nodes m (omega (arith, h))

none-set : (nodes : List (Option Node)) (n : ℕ) → get_or (set nodes n None) n None ≡ None
none-set [] n = refl
none-set (o ∷ nodes) zero = refl
none-set (o ∷ nodes) (suc n) = none-set nodes n

pub emptied-gone : (ns : List ℕ) (nodes : List (Option Node)) (m : ℕ) → In m ns → get_or (emptied ns nodes) m None ≡ None
emptied-gone [] nodes m h = absurd (omega arith)
emptied-gone (n ∷ ns) nodes m h =
    ⊎_elim (λ (e : m ≡ n). ap (λ k. get_or (set (emptied ns nodes) n None) k None) e ∙ none-set (emptied ns nodes) n)
    (λ (ne : m ≢ n). get_or-set_other (emptied ns nodes) n m None None ne ∙ emptied-gone ns nodes m (omega (arith, h, occurs-other m n ns ne)))
    (eq_or m n)

-- what the nodes without some show
pub seen-set : (names : List Name) (nodes : List (Option Node)) (n : ℕ) (o : Option Node) → table_seen names (set nodes n o) ≡ set (table_seen names nodes) n (node_seen names o)
seen-set names nodes n o = map-set (node_seen names) nodes n o

pub seen-emptied : (names : List Name) (ns : List ℕ) (nodes : List (Option Node)) → table_seen names (emptied ns nodes) ≡ cleared ns (table_seen names nodes)
seen-emptied names [] nodes = refl
seen-emptied names (n ∷ ns) nodes = seen-set names (emptied ns nodes) n None ∙ ap (λ l. set l n None) (seen-emptied names ns nodes)

-- where no node was, none is less
pub nothing-taken : (names : List Name) (nodes after : List (Option Node)) (live bytes most n : ℕ) → after ≡ set nodes n None → get_or nodes n None ≡ None
    → Counted (record { nodes = nodes; names = names; live = live; text_bytes = bytes; pair_cap = most })
    → Counted (record { nodes = after; names = names; live = live; text_bytes = bytes; pair_cap = most })
nothing-taken names nodes after live bytes most n is none c =
    let same : after ≡ nodes = is ∙ (ap (set nodes n) (sym none) ∙ set-get_or nodes n None) in
    rw same c

-- counts without a node that was
pub record Taken (names : List Name) (after : List (Option Node)) (live bytes most text : ℕ) : Type 0 where
  pub some : 1 ≤ live
  pub enough : text ≤ bytes
  pub counted : Counted (record { nodes = after; names = names; live = live - 1; text_bytes = bytes - text; pair_cap = most })

pub one-taken : (names : List Name) (nodes after : List (Option Node)) (live bytes most n : ℕ) (node : Node) (text : List ℕ) → after ≡ set nodes n None → get_or nodes n None ≡ Some node
    → value_in (content_seen names node.content) ≡ text
    → Counted (record { nodes = nodes; names = names; live = live; text_bytes = bytes; pair_cap = most }) → Taken names after live bytes most (length text)
one-taken names nodes after live bytes most n node text is was value c =
    let here : entry_at (table_seen names nodes) n ≡ node_seen names (Some node) = seen-entry names nodes n ∙ ap (node_seen names) was in
    let less : table_seen names after ≡ set (table_seen names nodes) n None = ap (table_seen names) is ∙ seen-set names nodes n None in
    record {
      some = omega (arith, c.live_is, sum-taken (λ _. 1) (table_seen names nodes) n _ here);
      enough = omega (arith, c.bytes_is, sum-taken text_in (table_seen names nodes) n _ here, ap length value);
      counted = record {
        live_is = omega (arith, c.live_is, sum-taken (λ _. 1) (table_seen names nodes) n _ here, ap (table_sum (λ _. 1)) less);
        bytes_is = omega (arith, c.bytes_is, sum-taken text_in (table_seen names nodes) n _ here, ap length value, ap (table_sum text_in) less);
      };
    }

-- all taken up to one, and that one too
pub one-more : (ns : List ℕ) (i n : ℕ) (old now after : List (Option Node)) → i < length ns → n ≡ get_or ns i n → now ≡ emptied (take i ns) old → after ≡ set now n None
    → after ≡ emptied (take (i + 1) ns) old
one-more ns i n old now after h is e f =
    f ∙ (ap (λ l. set l n None) e
    ∙ (sym (emptied-behind (take i ns) (n ∷ []) old)
    ∙ ap (λ l. emptied l old) (ap (λ k. take i ns ++ k ∷ []) is ∙ sym (take_more ns i n h))))

-- a table in which a node and its attributes are taken, and all below so many of its kids
abbrev pub front_of : Table → ℕ → ℕ → List ℕ
front_of T n i = n ∷ (attrs_of T n ++ flat_map (below T) (take i (kids_of T n)))

pub record ClearedSoFar (old now : Parts) (n i : ℕ) : Type 0 where
  pub counted : Counted now
  pub less : now.live + 1 ≤ old.live
  pub names : now.names ≡ old.names
  pub cap : now.pair_cap ≡ old.pair_cap
  pub nodes : (T : Table) → HasBranch T (table_of old) n → now.nodes ≡ emptied (front_of T n i) old.nodes

-- the numbers below a node stand once
below-once : (T : Table) (n : ℕ) → Formed T → is_live T n ≡ true → Distinct (below T n)
below-once T n formed live m =
    let s = (ordered T formed).below_in_order n live in
    omega (arith, (ordered T formed).once m, ap (occurs m) s.2, occurs-append m s.0 (below T n ++ s.1), occurs-append m (below T n) s.1)

-- all below a node in three parts: up to a kid, that kid with all below it, and the rest
kid-parts : (T : Table) (n i kid : ℕ) → Formed T → i < length (kids_of T n) → kid ≡ get_or (kids_of T n) i kid → (back : List ℕ) × (below T n ≡ front_of T n i ++ (below T kid ++ back))
kid-parts T n i kid formed h is =
    let split : kids_of T n ≡ take i (kids_of T n) ++ (kid ∷ drop (suc i) (kids_of T n)) =
    sym (take-append-drop i (kids_of T n)) ∙ ap (λ l. take i (kids_of T n) ++ l) (drop-cons (kids_of T n) i kid h ∙ ap (λ k. k ∷ drop (suc i) (kids_of T n)) (sym is)) in
    let told : flat_map (below T) (kids_of T n) ≡ flat_map (below T) (take i (kids_of T n)) ++ (below T kid ++ flat_map (below T) (drop (suc i) (kids_of T n))) =
    ap (flat_map (below T)) split ∙ flat_map-append (below T) (take i (kids_of T n)) (kid ∷ drop (suc i) (kids_of T n)) in (
      flat_map (below T) (drop (suc i) (kids_of T n)),
      (ordered T formed).below_at n
          ∙ ap (λ l. n ∷ l) (ap (λ l. attrs_of T n ++ l) told ∙ sym (append_assoc (attrs_of T n) (flat_map (below T) (take i (kids_of T n))) (below T kid ++ flat_map (below T) (drop (suc i) (kids_of T n))))),
    )

-- so far, where the node itself and its attributes are taken
pub none-yet : (T : Table) (n : ℕ) (attributes : List ℕ) (old taken now : List (Option Node)) → attributes ≡ attrs_of T n → taken ≡ set old n None → now ≡ emptied attributes taken
    → now ≡ emptied (front_of T n 0) old
none-yet T n attributes old taken now is e f =
    f ∙ (ap (emptied attributes) e
    ∙ (emptied-set attributes old n
    ∙ ap (λ l. set (emptied l old) n None) (is ∙ sym (append-nil (attrs_of T n)))))

-- the entry of the node is the one of the table of a tree
branch-entry : (T : Table) (names : List Name) (nodes : List (Option Node)) (n : ℕ) → HasBranch T (table_seen names nodes) n → entry_at T n ≡ node_seen names (get_or nodes n None)
branch-entry T names nodes n b =
    sym (b.same n (In-mem n (below T n) (subst (In n) (sym ((ordered T b.formed).below_at n)) (occurs-head n _)))) ∙ seen-entry names nodes n

-- then a kid has its own branch yet
kid-branch : (T : Table) (names : List Name) (old now : List (Option Node)) (n i kid : ℕ) → HasBranch T (table_seen names old) n → i < length (kids_of T n)
    → kid ≡ get_or (kids_of T n) i kid → now ≡ emptied (front_of T n i) old → HasBranch T (table_seen names now) kid
kid-branch T names old now n i kid b h is e =
    let parts = kid-parts T n i kid b.formed h is in
    let listed : mem kid (kids_of T n) ≡ true = subst (λ k. mem k (kids_of T n) ≡ true) (sym is) (mem-get (kids_of T n) i kid h) in
    record {
      formed = b.formed;
      lives = (ways-up T b.formed).kid_live n kid listed;
      same = λ m inside.
          let once : occurs m (front_of T n i) + (occurs m (below T kid) + occurs m parts.0) ≤ 1 =
          omega (
            arith,
            below-once T n b.formed b.lives m,
            ap (occurs m) parts.1,
            occurs-append m (front_of T n i) (below T kid ++ parts.0),
            occurs-append m (below T kid) parts.0,
          ) in
          let among : In m (below T n) =
          omega (
            arith,
            mem-In m (below T kid) inside,
            ap (occurs m) parts.1,
            occurs-append m (front_of T n i) (below T kid ++ parts.0),
            occurs-append m (below T kid) parts.0,
          ) in
          ap (λ l. entry_at (table_seen names l) m) e
          ∙ (ap (λ U. entry_at U m) (seen-emptied names (front_of T n i) old)
          ∙ (cleared-kept (front_of T n i) (table_seen names old) m (omega (arith, once, mem-In m (below T kid) inside))
          ∙ b.same m (In-mem m (below T n) among)));
    }

-- so far, with one kid more
pub kid-more : (T : Table) (old now new : Parts) (n i kid : ℕ) → HasBranch T (table_of old) n → now.names ≡ old.names → i < length (kids_of T n) → kid ≡ get_or (kids_of T n) i kid
    → now.nodes ≡ emptied (front_of T n i) old.nodes → Clears now new kid → new.nodes ≡ emptied (front_of T n (i + 1)) old.nodes
kid-more T old now new n i kid b names h is e clears =
    clears T (subst (λ ns. HasBranch T (table_seen ns now.nodes) kid) (sym names) (kid-branch T old.names old.nodes now.nodes n i kid b h is e))
    ∙ (ap (emptied (below T kid)) e
    ∙ (sym (emptied-behind (front_of T n i) (below T kid) old.nodes)
    ∙ ap (λ l. emptied (n ∷ l) old.nodes)
    (append_assoc (attrs_of T n) (flat_map (below T) (take i (kids_of T n))) (below T kid)
    ∙ ap (λ l. attrs_of T n ++ l)
    (ap (λ l. flat_map (below T) (take i (kids_of T n)) ++ l) (sym (append-nil (below T kid)))
    ∙ (sym (flat_map-append (below T) (take i (kids_of T n)) (kid ∷ []))
    ∙ ap (flat_map (below T)) (ap (λ k. take i (kids_of T n) ++ k ∷ []) is ∙ sym (take_more (kids_of T n) i kid h)))))))

-- at last all below the node
pub all-kids : (T : Table) (n : ℕ) → Formed T → front_of T n (length (kids_of T n)) ≡ below T n
all-kids T n formed = ap (λ l. n ∷ (attrs_of T n ++ flat_map (below T) l)) (take-length (kids_of T n)) ∙ sym ((ordered T formed).below_at n)

-- a kept node has the attributes and kids of the one in the table of a tree
pub branch-kids : (T : Table) (old : Parts) (n : ℕ) (node : Node) → HasBranch T (table_of old) n → Some node ≡ get_or old.nodes n None → kids_of T n ≡ node.kids
branch-kids T old n node b was = ap kids_at (branch-entry T old.names old.nodes n b ∙ ap (node_seen old.names) (sym was))

pub branch-attributes : (T : Table) (old : Parts) (n : ℕ) (node : Node) → HasBranch T (table_of old) n → Some node ≡ get_or old.nodes n None → attrs_of T n ≡ node.attributes
branch-attributes T old n node b was = ap attrs_at (branch-entry T old.names old.nodes n b ∙ ap (node_seen old.names) (sym was))
