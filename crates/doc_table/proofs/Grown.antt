-- What a walk tells of a grown table, and its ways up.
use Rattle.std.proofs.Common.{◌≡◌, ◌≢◌, ℕ, ◌≤◌, suc, true, List, [], ◌∷◌, ◌++◌, ◌⊎◌, length, Some, refl, sym, ap, ◌∙◌, subst, inl, inr, ⊎_elim, arith, append_assoc, append-nil}
use Rattle.std.specs.List.{flat_map}
use Rattle.std.proofs.Common.{ap₂}
use Rattle.std.proofs.lemmas.List.{append_cancel_right}
use Rattle.std.proofs.lemmas.List.Concat.{flat_map-append}
use Rattle.doc_table.specs.declared.kind.Kind.TheVariants.{Root, Element}
use Rattle.doc_table.specs.Lists.{occurs}
use Rattle.doc_table.specs.Table.{Table, Content, root, element, attribute, text, comment, instruction, parent_of, kids_of, kind_of, is_live}
use Rattle.doc_table.specs.Walks.{walked, climb, ancestors}
use Rattle.doc_table.specs.Growth.{with_node, as_kid, as_attribute, FitsUnder}
use Rattle.doc_table.specs.inner.Forest.{Forest, bare, tree, flat, Whole}
use Rattle.doc_table.proofs.ListLemmas.{In, occurs-append, occurs-head, flat_map-same, append-empty_left, append-empty_right}
use Rattle.doc_table.proofs.Paths.{Path, top, under, beside, plug, owner, chain, around, elders, Edge, opened, frame-kids, occurs-plug}
use Rattle.doc_table.proofs.Telling.{told, told_lead, walked-edge, walked-leaf, walked-whole, told-same}
use Rattle.doc_table.proofs.Places.{ancestors-node, ancestors-attribute}
use Rattle.doc_table.proofs.Ways.{parent-live, ancestors-short, climb-more, climb-same, In-live}
use Rattle.doc_table.proofs.Growing.{KidGrown, AttributeGrown, whole-kid, whole-attribute, owner-live, parent-kept, length-grown, old-number}

pub some-top : (xs ys : List ℕ) (n : ℕ) → (xs ++ n ∷ []) ++ ys ≡ [] → ⊥
some-top xs ys n h = let e : xs ++ n ∷ [] ≡ [] = append-empty_left (xs ++ n ∷ []) ys h in let f : n ∷ [] ≡ [] = append-empty_right xs (n ∷ []) e in cc

attribute-grown : (T : Table) (C : Path) (c : Content) → Whole T (plug C bare) → Edge C → kind_of T 0 ≡ Some Root → kind_of T (owner C) ≡ Some Element → kids_of T (owner C) ≡ []
    → as_kid c (length T) ≡ [] → as_attribute c (length T) ≡ length T ∷ [] → AttributeGrown T C c
attribute-grown T top c w e root_kind kind nokids nokid attr = absurd (cc)
attribute-grown T (under n ats rest D) c w e root_kind kind nokids nokid attr =
    record {
      no_kid = nokid;
      is_attribute = attr;
      ats = ats;
      upper = D;
      is = ap (λ F. under n ats F D) e.0;
      whole = whole-attribute T D n ats c (subst (λ F. Whole T (plug D (tree n ats bare F))) e.0 w) nokid attr;
    }
attribute-grown T (beside n ats kids D) c w e root_kind kind nokids nokid attr =
    absurd (some-top (elders D) [] n (sym (frame-kids T (beside n ats kids D) [] (opened T (beside n ats kids D) bare w.root w.shows).0) ∙ nokids))

-- the new node has a place
pub grown_place : (T : Table) (C : Path) (c : Content) → Whole T (plug C bare) → Edge C → kind_of T 0 ≡ Some Root → FitsUnder T (owner C) c → KidGrown T C c ⊎ AttributeGrown T C c
grown_place T C root w e root_kind fits = absurd fits
grown_place T C (element name decls) w e root_kind fits = inl (record { is_kid = refl; no_attribute = refl; whole = whole-kid T C (element name decls) w refl refl })
grown_place T C (attribute name value) w e root_kind fits = inr (attribute-grown T C (attribute name value) w e root_kind fits.under fits.no_kid refl refl)
grown_place T C (text characters) w e root_kind fits = inl (record { is_kid = refl; no_attribute = refl; whole = whole-kid T C (text characters) w refl refl })
grown_place T C (comment characters) w e root_kind fits = inl (record { is_kid = refl; no_attribute = refl; whole = whole-kid T C (comment characters) w refl refl })
grown_place T C (instruction name characters) w e root_kind fits = inl (record { is_kid = refl; no_attribute = refl; whole = whole-kid T C (instruction name characters) w refl refl })

-- the forest of the grown table
pub grown_whole : (T : Table) (C : Path) (c : Content) → KidGrown T C c ⊎ AttributeGrown T C c → (G : Forest) × Whole (with_node T (owner C) c) G
grown_whole T C c place = ⊎_elim (λ (k : KidGrown T C c). let r : (G : Forest) × Whole (with_node T (owner C) c) G = (plug C (tree (length T) [] bare bare), k.whole) in r)
    (λ (a : AttributeGrown T C c). let r : (G : Forest) × Whole (with_node T (owner C) c) G = (plug a.upper (tree (owner C) (a.ats ++ length T ∷ []) bare bare), a.whole) in r) place

-- the way up from the new node
pub grown_way : (T : Table) (C : Path) (c : Content) → KidGrown T C c ⊎ AttributeGrown T C c → ancestors (with_node T (owner C) c) (length T) ≡ chain C
grown_way T C c place = ⊎_elim (λ (k : KidGrown T C c). ancestors-node (with_node T (owner C) c) C (length T) [] bare bare k.whole)
    (λ (a : AttributeGrown T C c).
    ancestors-attribute (with_node T (owner C) c) a.upper (owner C) (a.ats ++ length T ∷ []) bare bare (length T) a.whole
    (omega (arith, occurs-append (length T) a.ats (length T ∷ []), occurs-head (length T) []))
    ∙ sym (ap chain a.is)) place

chain-around : (C : Path) (m : ℕ) → occurs m (chain C) ≤ occurs m (owner C ∷ around C)
chain-around top m = omega arith
chain-around (under n ats rest C) m = simp occurs-append (omega (arith, chain-around C m))
chain-around (beside n ats kids C) m = simp occurs-append (omega (arith, chain-around C m))

lead-more : {A : Type 0} (tells closes : ℕ → List A) (p : ℕ) (ats : List ℕ) (n : ℕ) (D : Path) →
    told_lead tells closes (under p (ats ++ n ∷ []) bare D) ≡ told_lead tells closes (under p ats bare D) ++ tells n
lead-more tells closes p ats n D =
    ap (λ l. told_lead tells closes D ++ l) (flat_map-append tells (p ∷ ats) (n ∷ []) ∙ ap (λ l. flat_map tells (p ∷ ats) ++ l) (append-nil (tells n)))
    ∙ sym (append_assoc (told_lead tells closes D) (flat_map tells (p ∷ ats)) (tells n))

module _ {A : Type 0} (T : Table) (C : Path) (c : Content) where
  -- what a walk tells of the grown table
  grown-told : (tells closes : ℕ → List A) → Edge C → (as_attribute c (length T) ≡ length T ∷ [] → closes (length T) ≡ []) → KidGrown T C c ⊎ AttributeGrown T C c →
      walked (with_node T (owner C) c) tells closes 0 ≡ ((tells 0 ++ told_lead tells closes C) ++ tells (length T)) ++ (closes (length T) ++ flat_map closes (chain C))
  grown-told tells closes e quiet place = ⊎_elim
      (λ (k : KidGrown T C c). walked-leaf tells closes (with_node T (owner C) c) C (length T) e k.whole)
      (λ (a : AttributeGrown T C c).
      let edge : Edge (under (owner C) a.ats bare a.upper) = subst Edge a.is e in
      let outer : Path = under (owner C) (a.ats ++ length T ∷ []) bare a.upper in
      let eq : walked (with_node T (owner C) c) tells closes 0 ≡ (tells 0 ++ told_lead tells closes outer) ++ flat_map closes (owner C ∷ chain a.upper) =
      walked-edge tells closes (with_node T (owner C) c) outer (refl, edge.1) a.whole in
      let lead : told_lead tells closes outer ≡ told_lead tells closes C ++ tells (length T) =
      lead-more tells closes (owner C) a.ats (length T) a.upper ∙ sym (ap (λ D. told_lead tells closes D ++ tells (length T)) a.is) in
      let front : tells 0 ++ told_lead tells closes outer ≡ (tells 0 ++ told_lead tells closes C) ++ tells (length T) =
      ap (λ l. tells 0 ++ l) lead ∙ sym (append_assoc (tells 0) (told_lead tells closes C) (tells (length T))) in
      let back : closes (length T) ++ flat_map closes (chain C) ≡ flat_map closes (owner C ∷ chain a.upper) =
      ap (λ l. l ++ flat_map closes (chain C)) (quiet a.is_attribute) ∙ ap (λ D. flat_map closes (chain D)) a.is in
      eq ∙ ap₂ (λ l r. l ++ r) front (sym back))
      place

  -- a walk grows by what the new node tells, before all that is closed at the end
  pub walk-grown : (tells closes more ends : ℕ → List A) → Edge C → Whole T (plug C bare) → (as_attribute c (length T) ≡ length T ∷ [] → ends (length T) ≡ [])
      → KidGrown T C c ⊎ AttributeGrown T C c → ((m : ℕ) → m ≢ length T → tells m ≡ more m) → ((m : ℕ) → m ≢ length T → closes m ≡ ends m)
      → (before : List A) → walked T tells closes 0 ≡ before ++ flat_map closes (chain C)
      → walked (with_node T (owner C) c) more ends 0 ≡ (before ++ more (length T)) ++ (ends (length T) ++ flat_map ends (chain C))
  walk-grown tells closes more ends e w quiet place same_tells same_closes before read =
      let live : is_live T (owner C) ≡ true = owner-live T C bare w in
      let old : (m : ℕ) → In m (0 ∷ flat (plug C bare)) → m ≢ length T = λ m h. old-number T (owner C) c live m (In-live T (plug C bare) w m h) in
      let zero_old : 0 ≢ length T = old 0 (occurs-head 0 (flat (plug C bare))) in
      let inner : (m : ℕ) → In m (flat (plug C bare)) → m ≢ length T = λ m h. old m (omega (arith, h)) in
      let middle : told tells closes (plug C bare) ≡ told more ends (plug C bare) =
      told-same tells closes more ends (plug C bare) (λ m h. same_tells m (inner m h)) (λ m h. same_closes m (inner m h)) in
      let whole : walked T tells closes 0 ≡ walked T more ends 0 =
      walked-whole tells closes T (plug C bare) w
      ∙ (ap₂ (λ l r. l ++ r) (same_tells 0 zero_old) (ap₂ (λ l r. l ++ r) middle (same_closes 0 zero_old)) ∙ sym (walked-whole more ends T (plug C bare) w)) in
      let ways : flat_map closes (chain C) ≡ flat_map ends (chain C) =
      flat_map-same closes ends (chain C) (λ m h. same_closes m (old m (omega (arith, h, chain-around C m, occurs-plug m C bare, occurs-append m (around C) [])))) in
      let cut : before ≡ more 0 ++ told_lead more ends C =
      append_cancel_right before (more 0 ++ told_lead more ends C) (flat_map ends (chain C))
      (ap (λ l. before ++ l) (sym ways) ∙ (sym read ∙ (whole ∙ walked-edge more ends T C e w))) in
      grown-told more ends e quiet place ∙ ap (λ l. (l ++ more (length T)) ++ (ends (length T) ++ flat_map ends (chain C))) (sym cut)

-- the ways up of old numbers stay
pub way-kept : (T : Table) (p : ℕ) (c : Content) (B : Forest) → is_live T p ≡ true → Whole T B → (m : ℕ) → is_live T m ≡ true → ancestors (with_node T p c) m ≡ ancestors T m
way-kept T p c B live w m alive =
    let new_parents : (k q : ℕ) → parent_of T k ≡ Some q → q ≢ length T = λ k q up. old-number T p c live q (parent-live T B w k q up) in
    let first : climb (with_node T p c) (length (with_node T p c)) (parent_of (with_node T p c) m) ≡ climb (with_node T p c) (suc (length T)) (parent_of T m) =
    ap₂ (climb (with_node T p c)) (length-grown T p c live) (parent-kept T p c live m (old-number T p c live m alive)) in
    first
    ∙ (climb-same T (with_node T p c) (length T) (parent-kept T p c live) new_parents (suc (length T)) (parent_of T m) (new_parents m)
    ∙ climb-more T (length T) (parent_of T m) (ancestors-short T B w m alive))
