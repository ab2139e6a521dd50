-- What a walk tells, said of the forest: from the table to the forest, and round a hole.
use Rattle.std.proofs.Common.{◌≡◌, ℕ, ◌+◌, ◌≤◌, suc, zero, List, [], ◌∷◌, ◌++◌, length, refl, sym, ap, ◌∙◌, arith, append_assoc, append-nil}
use Rattle.std.specs.List.{flat_map}
use Rattle.doc_table.specs.Table.{Table}
use Rattle.doc_table.specs.Walks.{walk, walked, order}
use Rattle.doc_table.specs.inner.Forest.{Forest, bare, tree, tops, flat, size, Shows, ShowsRoot, Whole}
use Rattle.doc_table.proofs.ListLemmas.{In, occurs-append, occurs-head, flat_map-same, singles}
use Rattle.doc_table.proofs.Paths.{Path, top, under, beside, plug, chain, Edge}

-- what a walk tells of a forest
abbrev pub told : {A : Type 0} → (ℕ → List A) → (ℕ → List A) → Forest → List A
told tells closes bare = []
told tells closes (tree n ats kids rest) = (flat_map tells (n ∷ ats) ++ (told tells closes kids ++ closes n)) ++ told tells closes rest

-- what is told before a hole, and after it
abbrev pub told_lead : {A : Type 0} → (ℕ → List A) → (ℕ → List A) → Path → List A
told_lead tells closes top = []
told_lead tells closes (under n ats rest C) = told_lead tells closes C ++ flat_map tells (n ∷ ats)
told_lead tells closes (beside n ats kids C) = told_lead tells closes C ++ (flat_map tells (n ∷ ats) ++ (told tells closes kids ++ closes n))

abbrev pub told_tail : {A : Type 0} → (ℕ → List A) → (ℕ → List A) → Path → List A
told_tail tells closes top = []
told_tail tells closes (under n ats rest C) = closes n ++ (told tells closes rest ++ told_tail tells closes C)
told_tail tells closes (beside n ats kids C) = told_tail tells closes C

module _ {A : Type 0} (tells closes : ℕ → List A) where
  pub told-plug : (C : Path) (F : Forest) → told tells closes (plug C F) ≡ told_lead tells closes C ++ (told tells closes F ++ told_tail tells closes C)
  told-plug top F = sym (append-nil (told tells closes F))
  told-plug (under n ats rest C) F = told-plug C (tree n ats F rest) ∙ simp append_assoc
  told-plug (beside n ats kids C) F = told-plug C (tree n ats kids F) ∙ simp append_assoc

  -- after a hole at the end of all, what is open is closed
  pub told-edge : (C : Path) → Edge C → told_tail tells closes C ++ closes 0 ≡ flat_map closes (chain C)
  told-edge top e = sym (append-nil (closes 0))
  told-edge (under n ats rest C) e =
      rw e.0 (append_assoc (closes n) (told_tail tells closes C) (closes 0) ∙ ap (λ l. closes n ++ l) (told-edge C e.1))
  told-edge (beside n ats kids C) e = told-edge C e

  -- a walk with levels enough tells the forest that the table shows
  pub walk-shows : (T : Table) (p levels : ℕ) (F : Forest) → size F ≤ levels → Shows T p F →
      flat_map (λ kid. walk T tells closes levels kid) (tops F) ≡ told tells closes F
  walk-shows T p levels bare h s = refl
  walk-shows T p zero (tree n ats kids rest) h s = absurd (omega arith)
  walk-shows T p (suc levels) (tree n ats kids rest) h s =
      let below : flat_map (λ kid. walk T tells closes levels kid) (tops kids) ≡ told tells closes kids = walk-shows T n levels kids (omega arith) s.1 in
      let after : flat_map (λ kid. walk T tells closes (suc levels) kid) (tops rest) ≡ told tells closes rest = walk-shows T p (suc levels) rest (omega arith) s.2 in
      rw (s.0.attributes, s.0.kids_are, below, after) refl

  root-walk : (T : Table) (B : Forest) (levels : ℕ) → 1 + size B ≤ levels → ShowsRoot T (tops B) → Shows T 0 B →
      walk T tells closes levels 0 ≡ tells 0 ++ (told tells closes B ++ closes 0)
  root-walk T B zero h r s = absurd (omega arith)
  root-walk T B (suc levels) h r s = rw (r.no_attributes, r.kids_are, walk-shows T 0 levels B (omega arith) s, append-nil (tells 0)) refl

  -- the walk through the whole table
  pub walked-whole : (T : Table) (B : Forest) → Whole T B → walked T tells closes 0 ≡ tells 0 ++ (told tells closes B ++ closes 0)
  walked-whole T B w = root-walk T B (length T) w.few w.root w.shows

  -- the walk through a table with a hole at its end
  pub walked-edge : (T : Table) (C : Path) → Edge C → Whole T (plug C bare) → walked T tells closes 0 ≡ (tells 0 ++ told_lead tells closes C) ++ flat_map closes (chain C)
  walked-edge T C e w =
      walked-whole T (plug C bare) w
      ∙ rw (told-plug C bare) (simp append_assoc (ap (λ l. tells 0 ++ (told_lead tells closes C ++ l)) (told-edge C e)))

  -- the walk through a table with one leaf more at its end
  pub walked-leaf : (T : Table) (C : Path) (n : ℕ) → Edge C → Whole T (plug C (tree n [] bare bare)) →
      walked T tells closes 0 ≡ ((tells 0 ++ told_lead tells closes C) ++ tells n) ++ (closes n ++ flat_map closes (chain C))
  walked-leaf T C n e w =
      walked-whole T (plug C (tree n [] bare bare)) w
      ∙ rw (told-plug C (tree n [] bare bare)) (simp (append_assoc, append-nil) (ap (λ l. tells 0 ++ (told_lead tells closes C ++ (tells n ++ (closes n ++ l)))) (told-edge C e)))

module _ {A : Type 0} (tells closes others ends : ℕ → List A) where
  -- two walks that agree on the numbers of a forest tell the same
  pub told-same : (F : Forest) → ((m : ℕ) → In m (flat F) → tells m ≡ others m) → ((m : ℕ) → In m (flat F) → closes m ≡ ends m) →
      told tells closes F ≡ told others ends F
  told-same bare same close = refl
  told-same (tree n ats kids rest) same close =
      let front : flat_map tells (n ∷ ats) ≡ flat_map others (n ∷ ats) = flat_map-same tells others (n ∷ ats) (λ m h. same m (simp occurs-append (omega (arith, h)))) in
      let end : closes n ≡ ends n = close n (occurs-head n _) in
      let inner : told tells closes kids ≡ told others ends kids = told-same kids (λ m h. same m (simp occurs-append (omega (arith, h)))) (λ m h. close m (simp occurs-append (omega (arith, h)))) in
      let after : told tells closes rest ≡ told others ends rest = told-same rest (λ m h. same m (simp occurs-append (omega (arith, h)))) (λ m h. close m (simp occurs-append (omega (arith, h)))) in
      rw (front, end, inner, after) refl

pub told-flat : (F : Forest) → told (λ m. m ∷ []) (λ _. []) F ≡ flat F
told-flat bare = refl
told-flat (tree n ats kids rest) = rw (singles ats, told-flat kids, told-flat rest) (ap (λ l. n ∷ l) (ap (λ l. (ats ++ l) ++ flat rest) (append-nil (flat kids)) ∙ append_assoc ats (flat kids) (flat rest)))

-- document order is the root, then the numbers of the forest
pub order-flat : (T : Table) (B : Forest) → Whole T B → order T ≡ 0 ∷ flat B
order-flat T B w = walked-whole (λ m. m ∷ []) (λ _. []) T B w ∙ rw (told-flat B) (ap (λ l. 0 ∷ l) (append-nil (flat B)))
