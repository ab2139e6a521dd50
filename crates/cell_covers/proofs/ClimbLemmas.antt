-- Ways up, and which nodes of a set they meet: the highest of these has none above it.
use Rattle.std.proofs.Common.{◌≡◌, ℕ, ◌<◌, ◌≤◌, ◌==◌, zero, suc, Bool, true, false, List, [], ◌∷◌, length, Option, None, Some, refl, sym, ap, ◌∙◌, subst, ⊎_elim, arith}
use Rattle.std.proofs.lemmas.Bool.{eq-eqb, eqb-true, false≢true, or_cases, or_left, or_right}
use Rattle.doc_tree.specs.Laws.{HasWaysUp}
use Rattle.doc_tree.specs.Lists.{mem}
use Rattle.doc_tree.specs.Table.{Table, parent_of}
use Rattle.doc_tree.specs.Walks.{above, ancestors}
use Rattle.cell_covers.specs.inner.Dropping.{meets}

pub mem-first : (n : ℕ) (ns : List ℕ) → mem n (n ∷ ns) ≡ true
mem-first n ns = or_left (n == n) (mem n ns) (eq-eqb n n refl)

pub mem-behind : (n m : ℕ) (ns : List ℕ) → mem n ns ≡ true → mem n (m ∷ ns) ≡ true
mem-behind n m ns h = or_right (n == m) (mem n ns) h

-- a node that some of a list meet is one of it
pub met : (nodes set : List ℕ) → meets nodes set ≡ true → (n : ℕ) × (mem n nodes ≡ true) × (mem n set ≡ true)
met [] set h = absurd (false≢true h)
met (m ∷ ms) set h =
    ⊎_elim (λ (g : mem m set ≡ true). (m, mem-first m ms, g))
    (λ (g : meets ms set ≡ true). let more = met ms set g in (more.0, mem-behind more.0 m ms more.1, more.2))
    (or_cases (mem m set) (meets ms set) h)

pub meets-at : (n : ℕ) (nodes set : List ℕ) → mem n nodes ≡ true → mem n set ≡ true → meets nodes set ≡ true
meets-at n [] set h there = absurd (false≢true h)
meets-at n (m ∷ ms) set h there =
    ⊎_elim (λ (g : (n == m) ≡ true). or_left (mem m set) (meets ms set) (subst (λ (k : ℕ). mem k set ≡ true) (eqb-true n m g) there))
    (λ (g : mem n ms ≡ true). or_right (mem m set) (meets ms set) (meets-at n ms set g there))
    (or_cases (n == m) (mem n ms) h)

-- a node above another is higher, and what is above it is above the other
pub record Higher (T : Table) (b n : ℕ) : Type 0 where
  pub shorter : length (ancestors T b) < length (ancestors T n)
  pub over : (a : ℕ) → mem a (above T b) ≡ true → mem a (ancestors T n) ≡ true

module _ (T : Table) (ways : HasWaysUp T) where
  higher_by : (steps n b : ℕ) → length (ancestors T n) ≤ steps → mem b (ancestors T n) ≡ true → Higher T b n
  higher_by zero n b short h = by (ancestors T n) refl
    where
      by : (way : List ℕ) → ancestors T n ≡ way → Higher T b n
      by [] e = absurd (false≢true (sym (ap (mem b) e) ∙ h))
      by (q ∷ up) e = absurd (omega (arith, short, ap length e))
  higher_by (suc steps) n b short h = by (parent_of T n) refl (λ q. higher_by steps q b)
    where
      by : (o : Option ℕ) → parent_of T n ≡ o → ((q : ℕ) → length (ancestors T q) ≤ steps → mem b (ancestors T q) ≡ true → Higher T b q) → Higher T b n
      by None e more = absurd (false≢true (sym (ap (mem b) (ways.no_ancestors n e)) ∙ h))
      by (Some q) e more =
          let way : ancestors T n ≡ q ∷ ancestors T q = ways.ancestors_at n q e in
          let long : length (ancestors T n) ≡ suc (length (ancestors T q)) = ap length way in
          ⊎_elim (λ (g : (b == q) ≡ true).
          let same : b ≡ q = eqb-true b q g in
          record {
            shorter = omega (arith, long, ap (λ (k : ℕ). length (ancestors T k)) same);
            over = λ a k. ap (mem a) way ∙ subst (λ (m : ℕ). mem a (above T m) ≡ true) same k;
          })
          (λ (g : mem b (ancestors T q) ≡ true).
          let up : Higher T b q = more q (omega (arith, short, long)) g in
          record {
            shorter = omega (arith, long, up.shorter);
            over = λ a k. ap (mem a) way ∙ mem-behind a q (ancestors T q) (up.over a k);
          })
          (or_cases (b == q) (mem b (ancestors T q)) (sym (ap (mem b) way) ∙ h))

  pub higher : (n b : ℕ) → mem b (ancestors T n) ≡ true → Higher T b n
  higher n b h = higher_by (length (ancestors T n)) n b (omega arith) h

  -- what is above a node that is the other or above it
  pub above-over : (n b a : ℕ) → mem b (above T n) ≡ true → mem a (above T b) ≡ true → mem a (above T n) ≡ true
  above-over n b a h k =
      ⊎_elim (λ (g : (b == n) ≡ true). subst (λ (m : ℕ). mem a (above T m) ≡ true) (eqb-true b n g) k)
      (λ (g : mem b (ancestors T n) ≡ true). mem-behind a n (ancestors T n) ((higher n b g).over a k))
      (or_cases (b == n) (mem b (ancestors T n)) h)

  -- of the nodes of a set at and above one of it the highest has none above it
  pub record Highest (set : List ℕ) (n : ℕ) : Type 0 where
    pub node : ℕ
    pub there : mem node set ≡ true
    pub at : mem node (above T n) ≡ true
    pub none_above : meets (ancestors T node) set ≡ false

  highest_by : (set : List ℕ) (steps n : ℕ) → length (ancestors T n) ≤ steps → mem n set ≡ true → Highest set n
  highest_by set zero n short there = by (meets (ancestors T n) set) refl
    where
      by : (b : Bool) → meets (ancestors T n) set ≡ b → Highest set n
      by false e = record { node = n; there = there; at = mem-first n (ancestors T n); none_above = e }
      by true e =
          let one = met (ancestors T n) set e in
          let up : Higher T one.0 n = higher n one.0 one.1 in
          absurd (omega (arith, short, up.shorter))
  highest_by set (suc steps) n short there = by (meets (ancestors T n) set) refl (λ a. highest_by set steps a)
    where
      by : (b : Bool) → meets (ancestors T n) set ≡ b → ((a : ℕ) → length (ancestors T a) ≤ steps → mem a set ≡ true → Highest set a) → Highest set n
      by false e more = record { node = n; there = there; at = mem-first n (ancestors T n); none_above = e }
      by true e more =
          let one = met (ancestors T n) set e in
          let up : Higher T one.0 n = higher n one.0 one.1 in
          let top : Highest set one.0 = more one.0 (omega (arith, short, up.shorter)) one.2 in
          record { node = top.node; there = top.there; at = mem-behind top.node n (ancestors T n) (up.over top.node top.at); none_above = top.none_above }

  pub highest : (set : List ℕ) (n : ℕ) → mem n set ≡ true → Highest set n
  highest set n there = highest_by set (length (ancestors T n)) n (omega arith) there
