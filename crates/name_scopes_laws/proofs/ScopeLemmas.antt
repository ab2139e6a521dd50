-- Scopes stay along the ways up that stay, and what comes has the scope of its place.
use Rattle.std.proofs.Common.{◌≡◌, ◌≢◌, ℕ, ◌≤◌, zero, suc, Bool, true, false, List, [], ◌∷◌, ◌++◌, length, Option, None, Some, is_some, refl, sym, ap, ap₂, ◌∙◌, subst, ⊎_elim, true≢false, arith, append-nil, append_assoc}
use Rattle.std.specs.List.{flat_map}
use Rattle.std.proofs.lemmas.Str.{IsUtf8-nil, chars-nil}
use Rattle.pyx_core.specs.Nesting.{of_chars}
use Rattle.pyx_core.proofs.TextLemmas.{made_of, of_chars_append}
use Rattle.doc_table.specs.declared.kind.Kind.TheVariants.{Root}
use Rattle.doc_table.specs.Table.{Content, Facts, Name, Table, attribute, comment, content_at, content_of, decls_at, decls_of, element, entry_at, instruction, is_live, kids_above, kind_at, parent_at, parent_of, root, text, value_at, value_of}
use Rattle.doc_table.specs.Walks.{ancestors, below}
use Rattle.doc_table.specs.Kinds.{holds_kids}
use Rattle.doc_table.specs.inner.Forest.{Forest, Whole}
use Rattle.doc_table.specs.inner.Sound.{Formed}
use Rattle.doc_table.proofs.Appending.{holder-live}
use Rattle.doc_table.proofs.ListLemmas.{In, eq_or}
use Rattle.doc_table.proofs.Forests.{formed-of}
use Rattle.doc_table.proofs.TreeLaws.{ways-up, well-formed}
use Rattle.doc_table.proofs.Ways.{climb-none, parent-live}
use Rattle.doc_tree.specs.Scope.{Decl, scope_at}
use Rattle.doc_edits.specs.Changes.{with_text, saying, said, removed, removed_from, Meeting, meeting, deleted, deleted_by, gained, nodes_in, given_number, given_parent, inserted}
use Rattle.doc_edits.specs.Keeping.{SayingsKeepTrees, DeletionsKeepTrees, GainsKeepTrees, InsertionsKeepTrees}
use Rattle.doc_edits.proofs.ClearLemmas.{cut}
use Rattle.doc_edits.proofs.PruneLemmas.{Cut, cut_at}
use Rattle.doc_edits.proofs.InsertionLemmas.{IsNew, IsOther, new-or, given-parent, given-lifted, given-content, lifted, nodes-flat, nodes-once, nodes-live, nodes-other, parent-kept, content-kept, old-other, entry-new}
use Rattle.doc_edits.proofs.InsertionWayLemmas.{ancestors-up, inside}
use Rattle.name_scopes.specs.Fragments.{PieceInScope}
use Rattle.name_scopes.specs.Scoping.{AttributeInScope, ContentInScope, InScope, NodeInScope}
use Rattle.name_scopes_laws.specs.Scopes.{AdditionsKeepScope, DeletionsKeepScope, SayingsKeepScope}
use Rattle.doc_edits.proofs.RemainderLemmas.{Stays, stays-cut, stays-both, said-live, said-parent, said-decls, before-new, gained-parent, gained-content, gained-new}

-- the scope at a node: its declarations, and the scope at its parent
pub scope-under : (T : Table) (B : Forest) → Whole T B → (n p : ℕ) → parent_of T n ≡ Some p → scope_at T n ≡ decls_of T n ++ scope_at T p
scope-under T B w n p up = ap (λ l. decls_of T n ++ flat_map (decls_of T) l) (ancestors-up T B w n p up)

scope-top : (T : Table) (n : ℕ) → parent_of T n ≡ None → scope_at T n ≡ decls_of T n
scope-top T n none =
    ap (λ l. decls_of T n ++ flat_map (decls_of T) l) (climb-none T (length T) (parent_of T n) none) ∙ append-nil (decls_of T n)

-- a number keeps its parent and declarations
pub record Keeps (T U : Table) (m : ℕ) : Type 0 where
  pub parent : parent_of U m ≡ parent_of T m
  pub decls : decls_of U m ≡ decls_of T m

module _ (T U : Table) (B G : Forest) (w : Whole T B) (v : Whole U G) (keeps : (m : ℕ) → is_live T m ≡ true → Keeps T U m) where
  scope-step : (m : ℕ) → is_live T m ≡ true → (o : Option ℕ) → parent_of T m ≡ o
      → ((q : ℕ) → suc (length (ancestors T q)) ≡ length (ancestors T m) → is_live T q ≡ true → scope_at U q ≡ scope_at T q) → scope_at U m ≡ scope_at T m
  scope-step m live None none rec =
      let k : Keeps T U m = keeps m live in scope-top U m (k.parent ∙ none) ∙ (k.decls ∙ sym (scope-top T m none))
  scope-step m live (Some q) up rec =
      let k : Keeps T U m = keeps m live in
      let there : scope_at U q ≡ scope_at T q = rec q (sym (ap length (ancestors-up T B w m q up))) (parent-live T B w m q up) in
      scope-under U G v m q (k.parent ∙ up) ∙ (ap₂ (λ (a b : List Decl). a ++ b) k.decls there ∙ sym (scope-under T B w m q up))

  scope-climb : (k m : ℕ) → length (ancestors T m) ≤ k → is_live T m ≡ true → scope_at U m ≡ scope_at T m
  scope-climb zero m short live = scope-step m live (parent_of T m) refl (λ q s l. absurd (omega (arith, s, short)))
  scope-climb (suc k) m short live = scope-step m live (parent_of T m) refl (λ q s l. scope-climb k q (omega (arith, s, short)) l)

  -- where all do that live, the scopes stay
  pub same-scope : (m : ℕ) → is_live T m ≡ true → scope_at U m ≡ scope_at T m
  same-scope m live = scope-climb (length (ancestors T m)) m (omega arith) live

-- a node is in scope by its scope and its content
pub placed : (U : Table) (m : ℕ) (scope : List Decl) (content : Option Content) → scope_at U m ≡ scope → content_of U m ≡ content → ContentInScope scope content → NodeInScope U m
placed U m scope content is holds h =
    subst (λ (s : List Decl). ContentInScope s (content_of U m)) (sym is) (subst (λ (o : Option Content). ContentInScope scope o) (sym holds) h)

dead-content : (T : Table) (m : ℕ) → is_live T m ≡ false → content_of T m ≡ None
dead-content T m h = by (entry_at T m) h
  where
    by : (o : Option Facts) → is_some o ≡ false → content_at o ≡ None
    by None e = refl
    by (Some node) e = absurd (true≢false e)

-- a dead number is in scope; so all is, where what lives is
living : (U : Table) (m : ℕ) → (is_live U m ≡ true → NodeInScope U m) → NodeInScope U m
living U m lives = by (is_live U m) refl
  where
    by : (b : Bool) → is_live U m ≡ b → NodeInScope U m
    by true live = lives live
    by false dead = placed U m (scope_at U m) None refl (dead-content U m dead) tt

-- a number with the content that it had stays in scope, where it keeps its scope or is dead
pub kept-scoped : (T U : Table) (m : ℕ) → content_of U m ≡ content_of T m → (is_live T m ≡ true → scope_at U m ≡ scope_at T m) → NodeInScope T m → NodeInScope U m
kept-scoped T U m content same h = by (is_live T m) refl
  where
    by : (b : Bool) → is_live T m ≡ b → NodeInScope U m
    by true live = placed U m (scope_at T m) (content_of T m) (same live) content h
    by false dead = placed U m (scope_at U m) None refl (content ∙ dead-content T m dead) tt

-- another text, which is made of Chars, is in scope where the old one was
module _ (scope : List Decl) (new : List ℕ) (made : of_chars new ≡ true) where
  saying-scoped : (c : Content) → ContentInScope scope (Some c) → ContentInScope scope (Some (saying new c))
  saying-scoped root h = tt
  saying-scoped (element name decls) h = h
  saying-scoped (attribute name value) h = record { named = h.named; namespace = h.namespace; no_declaration = h.no_declaration; made = made }
  saying-scoped (text _) h = made
  saying-scoped (comment _) h = made
  saying-scoped (instruction name body) h = record { no_prefix = h.no_prefix; no_namespace = h.no_namespace; named = h.named; made = made }

  with-text-scoped : (o : Option Facts) → ContentInScope scope (content_at o) → ContentInScope scope (content_at (with_text new o))
  with-text-scoped None h = tt
  with-text-scoped (Some node) h = saying-scoped node.content h

  said-scoped : (T : Table) (n m : ℕ) → ContentInScope scope (content_of T m) → ContentInScope scope (content_of (said T n new) m)
  said-scoped [] n m h = h
  said-scoped (e ∷ T) zero zero h = with-text-scoped e h
  said-scoped (e ∷ T) zero (suc m) h = h
  said-scoped (e ∷ T) (suc n) zero h = h
  said-scoped (e ∷ T) (suc n) (suc m) h = said-scoped T n m h

said-keeps : (new : List ℕ) (T : Table) (n m : ℕ) → Keeps T (said T n new) m
said-keeps new T n m = record { parent = said-parent new T n m; decls = said-decls new T n m }

pub sayings-keep-scope : SayingsKeepTrees → SayingsKeepScope
sayings-keep-scope sayings T n new form scoped may made m =
    let formed : Formed T = formed-of T form in
    let after : Formed (said T n new) = formed-of (said T n new) (sayings T n new form may) in
    living (said T n new) m (λ live.
    placed (said T n new) m (scope_at T m) (content_of (said T n new) m)
    (same-scope T (said T n new) formed.forest after.forest formed.whole after.whole (λ k l. said-keeps new T n k) m (sym (said-live new T n m) ∙ live)) refl
    (said-scoped (scope_at T m) new made T n m (scoped m)))

-- what stays of a removal
removal-scoped : (T : Table) (n : ℕ) → Formed T → InScope T → InScope (removed T n)
removal-scoped T n formed scoped = by (parent_of T n) refl
  where
    by : (o : Option ℕ) → parent_of T n ≡ o → InScope (removed_from T n o)
    by None e m = scoped m
    by (Some p) up m =
        let c : Cut T n p = cut_at T n p formed up in
        living (cut T n p (below T n)) m (λ live.
        let back : (k : ℕ) → is_live (cut T n p (below T n)) k ≡ true → Keeps (cut T n p (below T n)) T k =
        λ k l. let s : Stays T (cut T n p (below T n)) k = stays-cut T n p (below T n) k l in record { parent = sym s.parent; decls = sym (ap decls_at s.content) } in
        placed (cut T n p (below T n)) m (scope_at T m) (content_of T m)
        (sym (same-scope (cut T n p (below T n)) T c.forest formed.forest c.whole formed.whole back m live))
        (stays-cut T n p (below T n) m live).content (scoped m))

-- each text of a tree in scope is made of Chars
empty-made : of_chars [] ≡ true
empty-made = made_of [] IsUtf8-nil (rw chars-nil refl)

pub value-made : (T : Table) → InScope T → (n : ℕ) → of_chars (value_of T n) ≡ true
value-made T scoped n = by (scope_at T n) (content_of T n) (scoped n)
  where
    by : (scope : List Decl) (o : Option Content) → ContentInScope scope o → of_chars (value_at o) ≡ true
    by scope None h = empty-made
    by scope (Some root) h = empty-made
    by scope (Some (element _ _)) h = empty-made
    by scope (Some (attribute _ _)) h = h.made
    by scope (Some (text _)) h = h
    by scope (Some (comment _)) h = h
    by scope (Some (instruction _ _)) h = h.made

-- two nodes are removed, and a third one says a text that is made of Chars
module _ (T : Table) (n r l : ℕ) (new : List ℕ) (made : of_chars new ≡ true) (formed : Formed T) (scoped : InScope T) where
  abbrev rest : Table
  rest = removed (removed T r) n

  abbrev merged : Table
  merged = said rest l new

  stays-rest : (m : ℕ) → is_live merged m ≡ true → Stays T rest m
  stays-rest m live = stays-both T r n m (sym (said-live new rest l m) ∙ live)

  keeps-back : (m : ℕ) → is_live merged m ≡ true → Keeps merged T m
  keeps-back m live =
      let s : Stays T rest m = stays-rest m live in
      let k : Keeps rest merged m = said-keeps new rest l m in
      record { parent = sym (k.parent ∙ s.parent); decls = sym (k.decls ∙ ap decls_at s.content) }

  merged-scoped : Formed merged → InScope merged
  merged-scoped after m =
      living merged m (λ live.
      placed merged m (scope_at T m) (content_of merged m)
      (sym (same-scope merged T after.forest formed.forest after.whole formed.whole keeps-back m live)) refl
      (said-scoped (scope_at T m) new made rest l m
      (subst (λ (o : Option Content). ContentInScope (scope_at T m) o) (sym (stays-rest m live).content) (scoped m))))

deletion-scoped : DeletionsKeepTrees → (T : Table) (n : ℕ) → Formed T → InScope T → InScope (deleted_by T n (meeting T n (kids_above T (parent_of T n))))
deletion-scoped deletions T n formed scoped = by (meeting T n (kids_above T (parent_of T n))) (formed-of (deleted T n) (deletions T n (well-formed T formed)))
  where
    by : (o : Option Meeting) → Formed (deleted_by T n o) → InScope (deleted_by T n o)
    by None after = removal-scoped T n formed scoped
    by (Some texts) after =
        merged-scoped T n texts.right texts.left (value_of T texts.left ++ value_of T texts.right)
        (of_chars_append (value_of T texts.left) (value_of T texts.right) (value-made T scoped texts.left) (value-made T scoped texts.right))
        formed scoped after

pub deletions-keep-scope : DeletionsKeepTrees → DeletionsKeepScope
deletions-keep-scope deletions = record {
  deletion = λ T n form. deletion-scoped deletions T n (formed-of T form);
  removal = λ T n form. removal-scoped T n (formed-of T form);
}

-- an attribute more
module _ (T : Table) (n : ℕ) (name : Name) (value : List ℕ) where
  gained-keeps : (m : ℕ) → is_live T m ≡ true → Keeps T (gained T n name value) m
  gained-keeps m live = record {
    parent = gained-parent T n name value m (before-new T m live);
    decls = ap decls_at (gained-content T n name value m (before-new T m live));
  }

  gained-scoped : is_live T n ≡ true → Formed T → Formed (gained T n name value) → InScope T → AttributeInScope (scope_at T n) name value → InScope (gained T n name value)
  gained-scoped lives formed after scoped here m =
      let same : (k : ℕ) → is_live T k ≡ true → scope_at (gained T n name value) k ≡ scope_at T k =
      λ k live. same-scope T (gained T n name value) formed.forest after.forest formed.whole after.whole gained-keeps k live in
      ⊎_elim
      (λ (e : m ≡ length T).
      subst (NodeInScope (gained T n name value)) (sym e)
      (placed (gained T n name value) (length T) (scope_at T n) (Some (attribute name value))
      (scope-under (gained T n name value) after.forest after.whole (length T) n (ap parent_at (gained-new T n name value))
      ∙ (ap (λ (o : Option Facts). decls_at (content_at o) ++ scope_at (gained T n name value) n) (gained-new T n name value) ∙ same n lives))
      (ap content_at (gained-new T n name value)) here))
      (λ (ne : m ≢ length T). kept-scoped T (gained T n name value) m (gained-content T n name value m ne) (same m) (scoped m))
      (eq_or m (length T))

-- the root declares nothing
root-decls : (o : Option Content) → kind_at o ≡ Some Root → decls_at o ≡ []
root-decls None h = refl
root-decls (Some root) h = refl
root-decls (Some (element _ _)) h = absurd (cc)
root-decls (Some (attribute _ _)) h = refl
root-decls (Some (text _)) h = refl
root-decls (Some (comment _)) h = refl
root-decls (Some (instruction _ _)) h = refl

module _ (T P : Table) (p before : ℕ) (live : is_live T p ≡ true) (t : Formed T) (f : Formed P) (u : Formed (inserted T p before P)) where
  abbrev U : Table
  U = inserted T p before P

  abbrev number : ℕ → ℕ
  number = given_number T P

  inserted-keeps : (m : ℕ) → is_live T m ≡ true → Keeps T U m
  inserted-keeps m alive = record {
    parent = parent-kept T P p before live m (old-other T P p before live m alive);
    decls = ap decls_at (content-kept T P p before live m (old-other T P p before live m alive));
  }

  scope-old : (m : ℕ) → is_live T m ≡ true → scope_at U m ≡ scope_at T m
  scope-old m alive = same-scope T U t.forest u.forest t.whole u.whole inserted-keeps m alive

  content-new : (m : ℕ) → In m (nodes_in P) → content_of U (number m) ≡ content_of P m
  content-new m h = ap content_at (entry-new T P p before live m h) ∙ given-content number p (entry_at P m)

  parent-new : (m q : ℕ) → In m (nodes_in P) → parent_of P m ≡ Some q → parent_of U (number m) ≡ Some (lifted number p q)
  parent-new m q h up =
      ap parent_at (entry-new T P p before live m h)
      ∙ (given-parent number p (entry_at P m) ∙ (ap (given_parent number p) up ∙ given-lifted number p q))

  -- the scope of a new node: that in the piece, and around it that of the node under which the piece comes
  abbrev Around : ℕ → Type 0
  Around m = scope_at U (number m) ≡ scope_at P m ++ scope_at T p

  around-step : (m q : ℕ) → In m (nodes_in P) → parent_of P m ≡ Some q → (suc (length (ancestors P q)) ≡ length (ancestors P m) → In q (nodes_in P) → Around q) → Around m
  around-step m zero h up rec =
      let at_root : scope_at P 0 ≡ [] = scope-top P 0 f.whole.root.no_parent ∙ root-decls (content_of P 0) f.root_kind in
      let here : scope_at P m ≡ decls_of P m =
      scope-under P f.forest f.whole m 0 up ∙ (ap (λ (l : List Decl). decls_of P m ++ l) at_root ∙ append-nil (decls_of P m)) in
      scope-under U u.forest u.whole (number m) p (parent-new m 0 h up)
      ∙ ap₂ (λ (a b : List Decl). a ++ b) (ap decls_at (content-new m h) ∙ sym here) (scope-old p live)
  around-step m (suc q) h up rec =
      let alive : is_live P (suc q) ≡ true = (ways-up P f).parent_live m (suc q) up in
      let next = (ways-up P f).has_parent (suc q) alive (λ e. absurd (omega (arith, e))) in
      let there : Around (suc q) = rec (sym (ap length (ancestors-up P f.forest f.whole m (suc q) up))) (inside P f (suc q) next.0 next.1) in
      scope-under U u.forest u.whole (number m) (number (suc q)) (parent-new m (suc q) h up)
      ∙ (ap₂ (λ (a b : List Decl). a ++ b) (ap decls_at (content-new m h)) there
      ∙ (sym (append_assoc (decls_of P m) (scope_at P (suc q)) (scope_at T p))
      ∙ ap (λ (l : List Decl). l ++ scope_at T p) (sym (scope-under P f.forest f.whole m (suc q) up))))

  around-climb : (k m : ℕ) → length (ancestors P m) ≤ k → In m (nodes_in P) → Around m
  around-climb zero m short h =
      let up = (ways-up P f).has_parent m (nodes-live P f.forest f.whole (nodes-flat P f) m h) (nodes-other P f.forest f.whole (nodes-flat P f) m h) in
      around-step m up.0 h up.1 (λ s g. absurd (omega (arith, s, short)))
  around-climb (suc k) m short h =
      let up = (ways-up P f).has_parent m (nodes-live P f.forest f.whole (nodes-flat P f) m h) (nodes-other P f.forest f.whole (nodes-flat P f) m h) in
      around-step m up.0 h up.1 (λ s g. around-climb k up.0 (omega (arith, s, short)) g)

  inserted-scoped : InScope T → PieceInScope (scope_at T p) P → InScope U
  inserted-scoped scoped piece m =
      ⊎_elim
      (λ (new : IsNew T P m).
      subst (NodeInScope U) (sym new.is)
      (placed U (number new.number) (scope_at P new.number ++ scope_at T p) (content_of P new.number)
      (around-climb (length (ancestors P new.number)) new.number (omega arith) new.here)
      (content-new new.number new.here) (piece new.number)))
      (λ (other : IsOther T P m). kept-scoped T U m (content-kept T P p before live m other) (scope-old m) (scoped m))
      (new-or T P (nodes-once P f.forest f.whole (nodes-flat P f)) m)

pub additions-keep-scope : GainsKeepTrees → InsertionsKeepTrees → AdditionsKeepScope
additions-keep-scope gains insertions = record {
  gain = λ T n name value form scoped may here.
      gained-scoped T n name value (holder-live T n (ap holds_kids may.under)) (formed-of T form) (formed-of (gained T n name value) (gains T n name value form may)) scoped here;
  insertion = λ T p before P t f scoped may piece.
      inserted-scoped T P p before (holder-live T p may.under) (formed-of T t) (formed-of P f) (formed-of (inserted T p before P) (insertions T p before P t f may)) scoped piece;
}
