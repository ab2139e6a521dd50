-- Paths to a place in a forest: what stands round a hole, and the forest with the hole filled.
use Rattle.std.proofs.Common.{◌≡◌, ℕ, ◌+◌, ◌≤◌, suc, zero, List, [], ◌∷◌, ◌++◌, length, Some, refl, sym, ap, ◌∙◌, arith, append_assoc, append-nil}
use Rattle.doc_table.specs.Lists.{occurs}
use Rattle.doc_table.specs.Table.{Table, parent_of, kids_of, attrs_of}
use Rattle.doc_table.specs.Walks.{climb}
use Rattle.doc_table.specs.inner.Forest.{Forest, bare, tree, tops, flat, size, Shows, ShowsNode, ShowsRoot, ShowsAttributes, Whole, alive}
use Rattle.doc_table.proofs.ListLemmas.{In, occurs-append, occurs-head}

-- the hole is all the root's kids; all kids of a node, of which come its attributes and later siblings; or all later
-- siblings of a node, of which come its attributes and kids
pub data Path : Type 0 where
  top : Path
  under : ℕ → List ℕ → Forest → Path → Path
  beside : ℕ → List ℕ → Forest → Path → Path

-- the forest with the hole filled
abbrev pub plug : Path → Forest → Forest
plug top F = F
plug (under n ats rest C) F = plug C (tree n ats F rest)
plug (beside n ats kids C) F = plug C (tree n ats kids F)

-- the node whose kids the hole ends
abbrev pub owner : Path → ℕ
owner top = 0
owner (under n ats rest C) = n
owner (beside n ats kids C) = owner C

-- the owner and all above it
abbrev pub chain : Path → List ℕ
chain top = 0 ∷ []
chain (under n ats rest C) = n ∷ chain C
chain (beside n ats kids C) = chain C

-- the owner's kids before the hole
abbrev pub elders : Path → List ℕ
elders top = []
elders (under n ats rest C) = []
elders (beside n ats kids C) = elders C ++ n ∷ []

-- all numbers before the hole, and all after it
abbrev pub lead : Path → List ℕ
lead top = []
lead (under n ats rest C) = lead C ++ (n ∷ ats)
lead (beside n ats kids C) = lead C ++ (n ∷ (ats ++ flat kids))

abbrev pub tail : Path → List ℕ
tail top = []
tail (under n ats rest C) = flat rest ++ tail C
tail (beside n ats kids C) = tail C

-- all numbers outside the hole but the owner
abbrev pub around : Path → List ℕ
around top = []
around (under n ats rest C) = ats ++ (flat rest ++ (owner C ∷ around C))
around (beside n ats kids C) = n ∷ (ats ++ (flat kids ++ around C))

-- nothing stands after the hole
abbrev pub Edge : Path → Type 0
Edge top = Unit {0}
Edge (under n ats rest C) = (rest ≡ bare) × Edge C
Edge (beside n ats kids C) = Edge C

-- what stands round the hole is shown by the table, where the hole has these tops
abbrev pub Frame : Table → Path → List ℕ → Type 0
Frame T top ks = ShowsRoot T ks
Frame T (under n ats rest C) ks = ShowsNode T (owner C) n ats ks × Shows T (owner C) rest × Frame T C (n ∷ tops rest)
Frame T (beside n ats kids C) ks = ShowsNode T (owner C) n ats (tops kids) × Shows T n kids × Frame T C (n ∷ ks)

pub flat-plug : (C : Path) (F : Forest) → flat (plug C F) ≡ lead C ++ (flat F ++ tail C)
flat-plug top F = sym (append-nil (flat F))
flat-plug (under n ats rest C) F = simp (flat-plug C (tree n ats F rest), append_assoc)
flat-plug (beside n ats kids C) F = simp (flat-plug C (tree n ats kids F), append_assoc)

-- how often a number stands in the filled forest, counted from the hole
pub occurs-plug : (m : ℕ) (C : Path) (F : Forest) → occurs m (0 ∷ flat (plug C F)) ≡ occurs m (owner C ∷ (around C ++ flat F))
occurs-plug m top F = refl
occurs-plug m (under n ats rest C) F = occurs-plug m C (tree n ats F rest) ∙ simp occurs-append (omega arith)
occurs-plug m (beside n ats kids C) F = occurs-plug m C (tree n ats kids F) ∙ simp occurs-append (omega arith)

pub size-plug : (C : Path) (F G : Forest) → size (plug C F) + size G ≡ size (plug C G) + size F
size-plug top F G = omega arith
size-plug (under n ats rest C) F G = omega (arith, size-plug C (tree n ats F rest) (tree n ats G rest))
size-plug (beside n ats kids C) F G = omega (arith, size-plug C (tree n ats kids F) (tree n ats kids G))

-- no way up is longer than what stands outside the hole
pub chain-size : (C : Path) (F : Forest) → length (chain C) + size F ≤ 1 + size (plug C F)
chain-size top F = omega arith
chain-size (under n ats rest C) F = omega (arith, chain-size C (tree n ats F rest))
chain-size (beside n ats kids C) F = omega (arith, chain-size C (tree n ats kids F))

module _ (T : Table) where
  -- a table that shows the filled forest shows what stands round the hole, and what fills it
  pub opened : (C : Path) (F : Forest) → ShowsRoot T (tops (plug C F)) → Shows T 0 (plug C F) → Frame T C (tops F) × Shows T (owner C) F
  opened top F r s = (r, s)
  opened (under n ats rest C) F r s = let o = opened C (tree n ats F rest) r s in ((o.1.0, o.1.2, o.0), o.1.1)
  opened (beside n ats kids C) F r s = let o = opened C (tree n ats kids F) r s in ((o.1.0, o.1.1, o.0), o.1.2)

  pub closed : (C : Path) (F : Forest) → Frame T C (tops F) → Shows T (owner C) F → ShowsRoot T (tops (plug C F)) × Shows T 0 (plug C F)
  closed top F r s = (r, s)
  closed (under n ats rest C) F r s = closed C (tree n ats F rest) r.2 (r.0, s, r.1)
  closed (beside n ats kids C) F r s = closed C (tree n ats kids F) r.2 (r.0, r.1, s)

  -- the owner's kids are those before the hole and those in it
  pub frame-kids : (C : Path) (ks : List ℕ) → Frame T C ks → kids_of T (owner C) ≡ elders C ++ ks
  frame-kids top ks r = r.kids_are
  frame-kids (under n ats rest C) ks r = r.0.kids_are
  frame-kids (beside n ats kids C) ks r = frame-kids C (n ∷ ks) r.2 ∙ sym (append_assoc (elders C) (n ∷ []) ks)

  -- the way up from the owner
  pub frame-climb : (C : Path) (ks : List ℕ) (steps : ℕ) → Frame T C ks → length (chain C) ≤ steps → climb T steps (Some (owner C)) ≡ chain C
  frame-climb top ks zero r h = absurd (omega arith)
  frame-climb top ks (suc zero) r h = refl
  frame-climb top ks (suc (suc steps)) r h = rw r.no_parent refl
  frame-climb (under n ats rest C) ks zero r h = absurd (omega arith)
  frame-climb (under n ats rest C) ks (suc steps) r h = rw r.0.parent (ap (λ l. n ∷ l) (frame-climb C (n ∷ tops rest) steps r.2 (omega arith)))
  frame-climb (beside n ats kids C) ks steps r h = frame-climb C (n ∷ ks) steps r.2 h

-- a number has the same parent, attributes and kids in two tables
pub record SameLinks (T U : Table) (m : ℕ) : Type 0 where
  pub parent : parent_of U m ≡ parent_of T m
  pub attributes : attrs_of U m ≡ attrs_of T m
  pub kids : kids_of U m ≡ kids_of T m

module _ (T U : Table) where
  pub attributes-kept : (p : ℕ) (ats : List ℕ) → ((m : ℕ) → In m ats → SameLinks T U m) → ShowsAttributes T p ats → ShowsAttributes U p ats
  attributes-kept p [] same s = tt
  attributes-kept p (a ∷ ats) same s =
      let here : SameLinks T U a = same a (occurs-head a ats) in
      (here.parent ∙ s.0, here.attributes ∙ s.1, here.kids ∙ s.2, attributes-kept p ats (λ m h. same m (omega (arith, h))) s.3)

  node-kept : (p n : ℕ) (ats ks : List ℕ) → SameLinks T U n → ((m : ℕ) → In m ats → SameLinks T U m) → ShowsNode T p n ats ks → ShowsNode U p n ats ks
  node-kept p n ats ks here same s = record {
    parent = here.parent ∙ s.parent;
    attributes = here.attributes ∙ s.attributes;
    kids_are = here.kids ∙ s.kids_are;
    hold = attributes-kept n ats same s.hold;
  }

  -- a forest whose numbers keep their links stays shown
  pub shows-kept : (p : ℕ) (F : Forest) → ((m : ℕ) → In m (flat F) → SameLinks T U m) → Shows T p F → Shows U p F
  shows-kept p bare same s = tt
  shows-kept p (tree n ats kids rest) same s = (
    node-kept p n ats (tops kids) (same n (occurs-head n _)) (λ m h. same m (simp occurs-append (omega (arith, h)))) s.0,
    shows-kept n kids (λ m h. same m (simp occurs-append (omega (arith, h)))) s.1,
    shows-kept p rest (λ m h. same m (simp occurs-append (omega (arith, h)))) s.2,
  )

  -- the frame of a hole whose tops change: all round it keep their links, and the owner its parent and attributes
  pub reframed : (C : Path) (ks new : List ℕ) → Frame T C ks → parent_of U (owner C) ≡ parent_of T (owner C) → attrs_of U (owner C) ≡ attrs_of T (owner C)
      → ((m : ℕ) → In m (around C) → SameLinks T U m) → kids_of U (owner C) ≡ elders C ++ new → Frame U C new
  reframed top ks new r up ats same kids = record { no_parent = up ∙ r.no_parent; no_attributes = ats ∙ r.no_attributes; kids_are = kids }
  reframed (under n here rest C) ks new r up ats same kids =
      let owns : SameLinks T U (owner C) = same (owner C) (simp occurs-append (omega (arith, occurs-head (owner C) (around C)))) in (
        record {
          parent = up ∙ r.0.parent;
          attributes = ats ∙ r.0.attributes;
          kids_are = kids;
          hold = attributes-kept n here (λ m h. same m (simp occurs-append (omega (arith, h)))) r.0.hold;
        },
        shows-kept (owner C) rest (λ m h. same m (simp occurs-append (omega (arith, h)))) r.1,
        reframed C (n ∷ tops rest) (n ∷ tops rest) r.2 owns.parent owns.attributes (λ m h. same m (simp occurs-append (omega (arith, h))))
            (owns.kids ∙ frame-kids T C (n ∷ tops rest) r.2),
      )
  reframed (beside n here kids C) ks new r up ats same kids_are = (
    node-kept (owner C) n here (tops kids) (same n (occurs-head n _)) (λ m h. same m (simp occurs-append (omega (arith, h)))) r.0,
    shows-kept n kids (λ m h. same m (simp occurs-append (omega (arith, h)))) r.1,
    reframed C (n ∷ ks) (n ∷ new) r.2 up ats (λ m h. same m (simp occurs-append (omega (arith, h))))
        (kids_are ∙ append_assoc (elders C) (n ∷ []) new),
  )

  -- a whole table whose hole is filled anew
  pub replaced : (C : Path) (F G : Forest) → Whole T (plug C F) → parent_of U (owner C) ≡ parent_of T (owner C) → attrs_of U (owner C) ≡ attrs_of T (owner C)
      → ((m : ℕ) → In m (around C) → SameLinks T U m) → kids_of U (owner C) ≡ elders C ++ tops G → Shows U (owner C) G
      → ((m : ℕ) → occurs m (owner C ∷ (around C ++ flat G)) ≡ alive U m) → 1 + size (plug C G) ≤ length U → Whole U (plug C G)
  replaced C F G w up ats same kids shows once few =
      let o = opened T C F w.root w.shows in
      let frame : Frame U C (tops G) = reframed C (tops F) (tops G) o.0 up ats same kids in
      let c = closed U C G frame shows in
      record { root = c.0; shows = c.1; once = λ m. occurs-plug m C G ∙ once m; few = few }
