-- What is left of each node where another one is removed, says another text or gets an attribute.
use Rattle.std.proofs.Common.{◌≡◌, ◌≢◌, ℕ, ◌<◌, ◌≤◌, true, List, [], ◌∷◌, ◌⊎◌, length, Option, None, Some, is_some, refl, sym, ap, ◌∙◌, inl, inr, ⊎_elim, true≢false, arith, length-append}
use Rattle.std.proofs.lemmas.Bool.{cases_lt}
use Rattle.std.proofs.lemmas.List.{get_or_append_left, get_or_past}
use Rattle.doc_table.specs.Growth.{leaf}
use Rattle.doc_table.specs.Lists.{occurs}
use Rattle.doc_table.specs.Table.{Table, Facts, Name, Content, root, element, attribute, text, comment, instruction, entry_at, parent_at, kids_at, content_at, kind_at, decls_at, kind_in, decls_in, parent_of, kids_of, content_of, kind_of, decls_of, is_live}
use Rattle.doc_table.specs.Walks.{below}
use Rattle.doc_table.proofs.ListLemmas.{eq_or, get-last}
use Rattle.doc_table.proofs.Ways.{live-below}
use Rattle.doc_edits.specs.Changes.{changed_at, with_text, saying, said, without, without_link, removed, removed_from, with_attribute, gained}
use Rattle.doc_edits.proofs.ClearLemmas.{cut, cleared-kept, entry-gone}
use Rattle.doc_edits.proofs.PruneLemmas.{none-in}
use Rattle.doc_edits.proofs.TableLemmas.{changed-here, changed-length, changed-other, changed-word}

-- what a link less leaves of an entry
unlink-live : (n : ℕ) (o : Option Facts) → is_some (without_link n o) ≡ is_some o
unlink-live n None = refl
unlink-live n (Some node) = refl

unlink-parent : (n : ℕ) (o : Option Facts) → parent_at (without_link n o) ≡ parent_at o
unlink-parent n None = refl
unlink-parent n (Some node) = refl

unlink-content : (n : ℕ) (o : Option Facts) → content_at (without_link n o) ≡ content_at o
unlink-content n None = refl
unlink-content n (Some node) = refl

unlink-kids : (n : ℕ) (o : Option Facts) → kids_at (without_link n o) ≡ without n (kids_at o)
unlink-kids n None = refl
unlink-kids n (Some node) = refl

-- a node that lives on has the parent and the content that it had
pub record Stays (T U : Table) (m : ℕ) : Type 0 where
  pub live : is_live T m ≡ true
  pub parent : parent_of U m ≡ parent_of T m
  pub content : content_of U m ≡ content_of T m

module _ (T : Table) (n p : ℕ) (gone : List ℕ) (m : ℕ) (lives : is_live (cut T n p gone) m ≡ true) where
  out : occurs m gone ≡ 0
  out = none-in (occurs m gone) (λ h. true≢false (sym lives ∙ ap is_some (entry-gone T n p gone m h)))

  entry-left : entry_at (cut T n p gone) m ≡ entry_at (changed_at p (without_link n) T) m
  entry-left = cleared-kept gone (changed_at p (without_link n) T) m out

  live-before : is_live T m ≡ true
  live-before = sym (changed-word is_some (without_link n) (unlink-live n) T p m) ∙ (ap is_some (sym entry-left) ∙ lives)

  pub stays-cut : Stays T (cut T n p gone) m
  stays-cut = record {
    live = live-before;
    parent = ap parent_at entry-left ∙ changed-word parent_at (without_link n) (unlink-parent n) T p m;
    content = ap content_at entry-left ∙ changed-word content_at (without_link n) (unlink-content n) T p m;
  }

  -- its kids are as before, or they are so but for the one that went
  kids-cut : (kids_of (cut T n p gone) m ≡ kids_of T m) ⊎ ((p ≡ m) × (kids_of (cut T n p gone) m ≡ without n (kids_of T m)))
  kids-cut =
      ⊎_elim
      (λ (e : p ≡ m).
      let here : entry_at (changed_at p (without_link n) T) m ≡ without_link n (entry_at T m) =
      ap (λ q. entry_at (changed_at q (without_link n) T) m) e ∙ changed-here T m (without_link n) live-before in
      let both : (p ≡ m) × (kids_of (cut T n p gone) m ≡ without n (kids_of T m)) = (e, ap kids_at entry-left ∙ (ap kids_at here ∙ unlink-kids n (entry_at T m))) in
      inr both)
      (λ (ne : p ≢ m). inl (ap kids_at (entry-left ∙ changed-other T p (without_link n) m (λ e. ne (sym e)))))
      (eq_or p m)

pub stays-removed : (T : Table) (n m : ℕ) → is_live (removed T n) m ≡ true → Stays T (removed T n) m
stays-removed T n m = by (parent_of T n)
  where
    by : (o : Option ℕ) → is_live (removed_from T n o) m ≡ true → Stays T (removed_from T n o) m
    by None lives = record { live = lives; parent = refl; content = refl }
    by (Some p) lives = stays-cut T n p (below T n) m lives

-- so it is where two are removed
pub stays-both : (T : Table) (r n m : ℕ) → is_live (removed (removed T r) n) m ≡ true → Stays T (removed (removed T r) n) m
stays-both T r n m lives =
    let second : Stays (removed T r) (removed (removed T r) n) m = stays-removed (removed T r) n m lives in
    let first : Stays T (removed T r) m = stays-removed T r m second.live in
    record { live = first.live; parent = second.parent ∙ first.parent; content = second.content ∙ first.content }

-- the kids of a node that lives on
abbrev pub KidsLeft : Table → Table → ℕ → ℕ → Type 0
KidsLeft T U n m = (kids_of U m ≡ kids_of T m) ⊎ ((parent_of T n ≡ Some m) × (kids_of U m ≡ without n (kids_of T m)))

pub kids-removed : (T : Table) (n m : ℕ) → is_live (removed T n) m ≡ true → KidsLeft T (removed T n) n m
kids-removed T n m = by (parent_of T n) refl
  where
    by : (o : Option ℕ) → parent_of T n ≡ o → is_live (removed_from T n o) m ≡ true → KidsLeft T (removed_from T n o) n m
    by None e lives = inl refl
    by (Some p) e lives =
        ⊎_elim (λ (same : kids_of (cut T n p (below T n)) m ≡ kids_of T m). inl same)
        (λ (less : (p ≡ m) × (kids_of (cut T n p (below T n)) m ≡ without n (kids_of T m))).
        let both : (parent_of T n ≡ Some m) × (kids_of (cut T n p (below T n)) m ≡ without n (kids_of T m)) = (e ∙ ap Some less.0, less.1) in inr both)
        (kids-cut T n p (below T n) m lives)

-- another text changes neither links nor kinds nor declarations
module _ (new : List ℕ) where
  text-live : (o : Option Facts) → is_some (with_text new o) ≡ is_some o
  text-live None = refl
  text-live (Some node) = refl

  text-parent : (o : Option Facts) → parent_at (with_text new o) ≡ parent_at o
  text-parent None = refl
  text-parent (Some node) = refl

  text-kids : (o : Option Facts) → kids_at (with_text new o) ≡ kids_at o
  text-kids None = refl
  text-kids (Some node) = refl

  saying-kind : (c : Content) → kind_in (saying new c) ≡ kind_in c
  saying-kind root = refl
  saying-kind (element _ _) = refl
  saying-kind (attribute _ _) = refl
  saying-kind (text _) = refl
  saying-kind (comment _) = refl
  saying-kind (instruction _ _) = refl

  text-kind : (o : Option Facts) → kind_at (content_at (with_text new o)) ≡ kind_at (content_at o)
  text-kind None = refl
  text-kind (Some node) = ap Some (saying-kind node.content)

  saying-decls : (c : Content) → decls_in (saying new c) ≡ decls_in c
  saying-decls root = refl
  saying-decls (element _ _) = refl
  saying-decls (attribute _ _) = refl
  saying-decls (text _) = refl
  saying-decls (comment _) = refl
  saying-decls (instruction _ _) = refl

  text-decls : (o : Option Facts) → decls_at (content_at (with_text new o)) ≡ decls_at (content_at o)
  text-decls None = refl
  text-decls (Some node) = saying-decls node.content

  module _ (T : Table) (n m : ℕ) where
    pub said-live : is_live (said T n new) m ≡ is_live T m
    said-live = changed-word is_some (with_text new) text-live T n m

    pub said-parent : parent_of (said T n new) m ≡ parent_of T m
    said-parent = changed-word parent_at (with_text new) text-parent T n m

    pub said-kids : kids_of (said T n new) m ≡ kids_of T m
    said-kids = changed-word kids_at (with_text new) text-kids T n m

    pub said-kind : kind_of (said T n new) m ≡ kind_of T m
    said-kind = changed-word (λ o. kind_at (content_at o)) (with_text new) text-kind T n m

    pub said-decls : decls_of (said T n new) m ≡ decls_of T m
    said-decls = changed-word (λ o. decls_at (content_at o)) (with_text new) text-decls T n m

-- an attribute more, which gets the next number, leaves the others as they are, but for the list of its element
link-parent : (a : ℕ) (o : Option Facts) → parent_at (with_attribute a o) ≡ parent_at o
link-parent a None = refl
link-parent a (Some node) = refl

link-kids : (a : ℕ) (o : Option Facts) → kids_at (with_attribute a o) ≡ kids_at o
link-kids a None = refl
link-kids a (Some node) = refl

link-content : (a : ℕ) (o : Option Facts) → content_at (with_attribute a o) ≡ content_at o
link-content a None = refl
link-content a (Some node) = refl

pub before-new : (T : Table) (m : ℕ) → is_live T m ≡ true → m ≢ length T
before-new T m live e = absurd (omega (arith, live-below T m live, e))

module _ (T : Table) (n : ℕ) (name : Name) (value : List ℕ) where
  abbrev linked : Table
  linked = changed_at n (with_attribute (length T)) T

  linked-length : length linked ≡ length T
  linked-length = changed-length T n (with_attribute (length T))

  gained-word : {A : Type 0} (f : Option Facts → A) → ((o : Option Facts) → f (with_attribute (length T) o) ≡ f o) → (m : ℕ) → m ≢ length T →
      f (entry_at (gained T n name value) m) ≡ f (entry_at T m)
  gained-word f stays m ne =
      ⊎_elim
      (λ (h : m < length T).
      ap f (get_or_append_left linked (Some (leaf n (attribute name value)) ∷ []) None m (omega (arith, h, linked-length)))
      ∙ changed-word f (with_attribute (length T)) stays T n m)
      (λ (h : length T ≤ m).
      ap f (get_or_past (gained T n name value) m None
      (omega (arith, h, ne, linked-length, length-append linked (Some (leaf n (attribute name value)) ∷ [])))
      ∙ sym (get_or_past T m None h)))
      (cases_lt m (length T))

  pub gained-parent : (m : ℕ) → m ≢ length T → parent_of (gained T n name value) m ≡ parent_of T m
  gained-parent m ne = gained-word parent_at (link-parent (length T)) m ne

  pub gained-kids : (m : ℕ) → m ≢ length T → kids_of (gained T n name value) m ≡ kids_of T m
  gained-kids m ne = gained-word kids_at (link-kids (length T)) m ne

  pub gained-content : (m : ℕ) → m ≢ length T → content_of (gained T n name value) m ≡ content_of T m
  gained-content m ne = gained-word content_at (link-content (length T)) m ne

  pub gained-new : entry_at (gained T n name value) (length T) ≡ Some (leaf n (attribute name value))
  gained-new = get-last linked (Some (leaf n (attribute name value))) None (length T) (sym linked-length)
