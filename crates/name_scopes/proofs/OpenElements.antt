-- The open elements of a tree under way: what stands on the way up, and how it stays as the tree grows.
use Rattle.std.proofs.Common.{◌≡◌, ◌≢◌, ℕ, ◌+◌, ◌≤◌, suc, Bool, true, false, cond, List, [], ◌∷◌, ◌++◌, length, set, Option, Some, count_by, refl, sym, ap, ap₂, ◌∙◌, subst, arith, length-append, length-set}
use Rattle.std.proofs.lemmas.List.Sums.{sum_by-cons, sum_by-append}
use Rattle.doc_tree.specs.kind.Kind.{Kind}
use Rattle.doc_tree.specs.kind.Kind.TheVariants.{Root, Element}
use Rattle.doc_tree.specs.Lists.{mem}
use Rattle.doc_tree.specs.Table.{Table, Content, root, entry_at, kind_at, kind_in, decls_at, kind_of, kids_of, is_live}
use Rattle.doc_tree.specs.Walks.{above, ancestors}
use Rattle.doc_tree.specs.Growth.{Grew, as_kid, with_link}
use Rattle.doc_tree.specs.Kinds.{holds_kids, is_element, is_text}
use Rattle.doc_tree.specs.Laws.{HasWaysUp, WellFormed}
use Rattle.doc_tree.specs.Scope.{Decl, scope_at, HasScopes}
use Rattle.doc_tree.specs.Declaring.{Declared}
use Rattle.name_scopes.specs.DocFaults.{in_scope}
use Rattle.name_scopes.specs.inner.Build.{IsInnermost, AreOpen, Tops}
use Rattle.name_scopes.proofs.NumberLemmas.{is-old, content-live, kind-live, mem-first, mem-behind}

pub open-live : (T : Table) (names : List (List ℕ)) (scopes : List (List Decl)) (n : ℕ) → AreOpen T names scopes n → is_live T n ≡ true
open-live T [] [] n way = content-live T n _ way.content
open-live T [] (decls ∷ scopes) n way = absurd way
open-live T (name ∷ names) [] n way = absurd way
open-live T (name ∷ names) (decls ∷ scopes) n way = content-live T n _ way.1.0.content

pub open-holds : (T : Table) (names : List (List ℕ)) (scopes : List (List Decl)) (n : ℕ) → AreOpen T names scopes n → holds_kids (kind_of T n) ≡ true
open-holds T [] [] n way = ap (λ c. holds_kids (kind_at c)) way.content
open-holds T [] (decls ∷ scopes) n way = absurd way
open-holds T (name ∷ names) [] n way = absurd way
open-holds T (name ∷ names) (decls ∷ scopes) n way = ap (λ c. holds_kids (kind_at c)) way.1.0.content

-- open elements stay open, where a node comes under the innermost one
pub open-stays : (T U : Table) (p n : ℕ) (c : Content) → Grew T U p n c → HasWaysUp T →
    (names : List (List ℕ)) (scopes : List (List Decl)) (m : ℕ) → length (ancestors T m) ≤ length (ancestors T p) → AreOpen T names scopes m → AreOpen U names scopes m
open-stays T U p n c grew ways [] [] m short way =
    let old : m ≢ n = is-old T m n (content-live T m root way.content) grew.number in
    record {
      number = way.number;
      content = grew.same_content m old ∙ way.content;
      no_parent = grew.same_parent m old ∙ way.no_parent;
    }
open-stays T U p n c grew ways [] (decls ∷ scopes) m short way = absurd way
open-stays T U p n c grew ways (name ∷ names) [] m short way = absurd way
open-stays T U p n c grew ways (name ∷ names) (decls ∷ scopes) m short way =
    let q : ℕ = way.0 in
    let kid : IsInnermost T name decls q m = way.1.0 in
    let old : m ≢ n = is-old T m n (content-live T m _ kid.content) grew.number in
    let old_parent : q ≢ n = is-old T q n (ways.parent_live m q kid.under) grew.number in
    let longer : length (ancestors T m) ≡ length (q ∷ ancestors T q) = ap (λ (ms : List ℕ). length ms) (ways.ancestors_at m q kid.under) in
    let apart : q ≢ p = λ e. absurd (let same : length (ancestors T q) ≡ length (ancestors T p) = ap (λ m. length (ancestors T m)) e in omega arith) in (
      q,
      (
        record {
          name = kid.name;
          spelled = kid.spelled;
          content = grew.same_content m old ∙ kid.content;
          under = grew.same_parent m old ∙ kid.under;
          elder = kid.elder;
          last = grew.same_kids q old_parent apart ∙ kid.last;
        },
        open-stays T U p n c grew ways names scopes q (omega arith) way.1.1,
      ),
    )

-- and where the innermost one declares something, those round it stay
pub open-round : (T U : Table) (n : ℕ) (d : Decl) → Declared T U n d → HasWaysUp T →
    (names : List (List ℕ)) (scopes : List (List Decl)) (m : ℕ) → length (ancestors T m) + 1 ≤ length (ancestors T n) → AreOpen T names scopes m → AreOpen U names scopes m
open-round T U n d more ways [] [] m short way =
    let other : m ≢ n = λ e. absurd (let same : length (ancestors T m) ≡ length (ancestors T n) = ap (λ m. length (ancestors T m)) e in omega arith) in
    record {
      number = way.number;
      content = more.same_content m other ∙ way.content;
      no_parent = more.same_parent m ∙ way.no_parent;
    }
open-round T U n d more ways [] (decls ∷ scopes) m short way = absurd way
open-round T U n d more ways (name ∷ names) [] m short way = absurd way
open-round T U n d more ways (name ∷ names) (decls ∷ scopes) m short way =
    let q : ℕ = way.0 in
    let kid : IsInnermost T name decls q m = way.1.0 in
    let other : m ≢ n = λ e. absurd (let same : length (ancestors T m) ≡ length (ancestors T n) = ap (λ m. length (ancestors T m)) e in omega arith) in
    let longer : length (ancestors T m) ≡ length (q ∷ ancestors T q) = ap (λ (ms : List ℕ). length ms) (ways.ancestors_at m q kid.under) in (
      q,
      (
        record {
          name = kid.name;
          spelled = kid.spelled;
          content = more.same_content m other ∙ kid.content;
          under = more.same_parent m ∙ kid.under;
          elder = kid.elder;
          last = more.same_kids q ∙ kid.last;
        },
        open-round T U n d more ways names scopes q (omega arith) way.1.1,
      ),
    )

-- the open elements are not the root
pub open-apart : (T : Table) (names : List (List ℕ)) (scopes : List (List Decl)) (n : ℕ) → WellFormed T → names ≢ [] → AreOpen T names scopes n → n ≢ 0
open-apart T [] scopes n formed some way e = some refl
open-apart T (name ∷ names) [] n formed some way e = absurd way
open-apart T (name ∷ names) (decls ∷ scopes) n formed some way e =
    let kind : kind_of T n ≡ Some Element = ap kind_at way.1.0.content in
    let zero_kind : kind_of T n ≡ Some Root = subst (λ (m : ℕ). kind_of T m ≡ Some Root) (sym e) formed.root_kind in
    cc

-- where none is open, the place is the root
pub open-root : (T : Table) (scopes : List (List Decl)) (n : ℕ) → AreOpen T [] scopes n → (n ≡ 0) × (scopes ≡ [])
open-root T [] n way = (way.number, refl)
open-root T (decls ∷ scopes) n way = absurd way

-- the declarations in scope are those of the open elements
pub open-scope : (T : Table) (names : List (List ℕ)) (scopes : List (List Decl)) (n : ℕ) → HasScopes T → AreOpen T names scopes n → scope_at T n ≡ in_scope scopes
open-scope T [] [] n laws way = laws.at_top n way.no_parent ∙ ap decls_at way.content
open-scope T [] (decls ∷ scopes) n laws way = absurd way
open-scope T (name ∷ names) [] n laws way = absurd way
open-scope T (name ∷ names) (decls ∷ scopes) n laws way =
    laws.under n way.0 way.1.0.under ∙ ap₂ (λ (l r : List Decl). l ++ r) (ap decls_at way.1.0.content) (open-scope T names scopes way.0 laws way.1.1)

-- the depth is the number of open elements
pub open-depth : (T : Table) (names : List (List ℕ)) (scopes : List (List Decl)) (n : ℕ) → HasWaysUp T → AreOpen T names scopes n → length (above T n) ≡ suc (length scopes)
open-depth T [] [] n ways way = ap (λ (ms : List ℕ). suc (length ms)) (ways.no_ancestors n way.no_parent)
open-depth T [] (decls ∷ scopes) n ways way = absurd way
open-depth T (name ∷ names) [] n ways way = absurd way
open-depth T (name ∷ names) (decls ∷ scopes) n ways way =
    ap (λ (ms : List ℕ). suc (length ms)) (ways.ancestors_at n way.0 way.1.0.under) ∙ ap suc (open-depth T names scopes way.0 ways way.1.1)

-- a grown table has one number more
pub grown-length : (T U : Table) (p n : ℕ) (c : Content) → Grew T U p n c → length U ≡ suc (length T)
grown-length T U p n c grew =
    ap (λ (t : Table). length t) grew.table ∙ (length-append (set T p (with_link c (length T) (entry_at T p))) _ ∙ omega (arith, length-set T p (with_link c (length T) (entry_at T p))))

-- counts along the root's kids

plus : (b c : Bool) (n : ℕ) → b ≡ c → n + cond b 1 0 ≡ n + cond c 1 0
plus b c n e = let f : Bool → ℕ = λ b. n + cond b 1 0 in ap f e

count-same : (f g : ℕ → Bool) (xs : List ℕ) → ((k : ℕ) → mem k xs ≡ true → f k ≡ g k) → count_by f xs ≡ count_by g xs
count-same f g [] same = refl
count-same f g (x ∷ xs) same =
    sum_by-cons (λ k. cond (f k) 1 0) x xs
    ∙ (ap₂ (λ a b. a + b) (ap (λ b. cond b 1 0) (same x (mem-first x xs))) (count-same f g xs (λ k h. same k (mem-behind k x xs h)))
    ∙ sym (sum_by-cons (λ k. cond (g k) 1 0) x xs))

module _ (T U : Table) (p n : ℕ) (c : Content) (grew : Grew T U p n c) (ways : HasWaysUp T) (formed : WellFormed T) where
  -- the root's kids keep their kinds
  kids-count : (g : Option Kind → Bool) → count_by (λ k. g (kind_of U k)) (kids_of T 0) ≡ count_by (λ k. g (kind_of T k)) (kids_of T 0)
  kids-count g = count-same (λ k. g (kind_of U k)) (λ k. g (kind_of T k)) (kids_of T 0)
      (λ k h. ap (λ o. g (kind_at o)) (grew.same_content k (is-old T k n (ways.kid_live 0 k h) grew.number)))

  root-live : is_live T 0 ≡ true
  root-live = kind-live T 0 Root formed.root_kind

  pub kids-stay : p ≢ 0 → kids_of U 0 ≡ kids_of T 0
  kids-stay apart = grew.same_kids 0 (is-old T 0 n root-live grew.number) (λ e. apart (sym e))

  pub tops-apart : (begun : Bool) → p ≢ 0 → Tops begun T → Tops begun U
  tops-apart begun apart top = record {
    elements = ap (count_by (λ k. is_element (kind_of U k))) (kids-stay apart) ∙ (kids-count is_element ∙ top.elements);
    no_text = ap (count_by (λ k. is_text (kind_of U k))) (kids-stay apart) ∙ (kids-count is_text ∙ top.no_text);
  }

  -- and a node under the root counts by its kind
  root-count : (g : Option Kind → Bool) → p ≡ 0 → as_kid c n ≡ n ∷ [] →
      count_by (λ k. g (kind_of U k)) (kids_of U 0) ≡ count_by (λ k. g (kind_of T k)) (kids_of T 0) + cond (g (Some (kind_in c))) 1 0
  root-count g at kid =
      let kids : kids_of U 0 ≡ kids_of T 0 ++ n ∷ [] = subst (λ (m : ℕ). kids_of U m ≡ kids_of T m ++ as_kid c n) at grew.parent_kids ∙ ap (λ (l : List ℕ). kids_of T 0 ++ l) kid in
      ap (count_by (λ k. g (kind_of U k))) kids
      ∙ (sum_by-append (λ k. cond (g (kind_of U k)) 1 0) (kids_of T 0) (n ∷ [])
      ∙ ap₂ (λ a b. a + b) (kids-count g) (sum_by-cons (λ k. cond (g (kind_of U k)) 1 0) n [] ∙ (ap (λ o. cond (g (kind_at o)) 1 0 + 0) grew.content ∙ omega arith)))

  pub tops-other : (begun : Bool) → p ≡ 0 → as_kid c n ≡ n ∷ [] → is_element (Some (kind_in c)) ≡ false → is_text (Some (kind_in c)) ≡ false → Tops begun T → Tops begun U
  tops-other begun at kid no_element no_text top = record {
    elements = root-count is_element at kid ∙ (plus (is_element (Some (kind_in c))) false (count_by (λ k. is_element (kind_of T k)) (kids_of T 0)) no_element ∙ (omega arith ∙ top.elements));
    no_text = root-count is_text at kid ∙ (plus (is_text (Some (kind_in c))) false (count_by (λ k. is_text (kind_of T k)) (kids_of T 0)) no_text ∙ (omega arith ∙ top.no_text));
  }

  pub tops-first : p ≡ 0 → as_kid c n ≡ n ∷ [] → is_element (Some (kind_in c)) ≡ true → is_text (Some (kind_in c)) ≡ false → Tops false T → Tops true U
  tops-first at kid is_one no_text top = record {
    elements = root-count is_element at kid ∙ (plus (is_element (Some (kind_in c))) true (count_by (λ k. is_element (kind_of T k)) (kids_of T 0)) is_one ∙ omega (arith, top.elements));
    no_text = root-count is_text at kid ∙ (plus (is_text (Some (kind_in c))) false (count_by (λ k. is_text (kind_of T k)) (kids_of T 0)) no_text ∙ (omega arith ∙ top.no_text));
  }

pub tops-declared : (T U : Table) (n : ℕ) (d : Decl) (begun : Bool) → Declared T U n d → Tops begun T → Tops begun U
tops-declared T U n d begun more top = record {
  elements = ap (count_by (λ k. is_element (kind_of U k))) (more.same_kids 0)
      ∙ (count-same (λ k. is_element (kind_of U k)) (λ k. is_element (kind_of T k)) (kids_of T 0) (λ k h. ap is_element (more.same_kind k)) ∙ top.elements);
  no_text = ap (count_by (λ k. is_text (kind_of U k))) (more.same_kids 0)
      ∙ (count-same (λ k. is_text (kind_of U k)) (λ k. is_text (kind_of T k)) (kids_of T 0) (λ k h. ap is_text (more.same_kind k)) ∙ top.no_text);
}
