-- What a tree under way tells, as it grows.
use Rattle.std.proofs.Common.{◌≡◌, ℕ, ◌+◌, ◌≤◌, Bool, true, false, List, [], ◌∷◌, ◌++◌, length, Some, refl, sym, ap, ap₂, ◌∙◌, subst, arith, append_assoc}
use Rattle.std.specs.List.{flat_map}
use Rattle.doc_tree.specs.kind.Kind.TheVariants.{Element}
use Rattle.doc_tree.specs.Lists.{upto}
use Rattle.doc_tree.specs.Table.{Table, Name, Content, element, kind_at, value_in, kind_of, kids_of, attrs_of, parent_of, is_live}
use Rattle.doc_tree.specs.Walks.{above, ancestors, order, text_bytes}
use Rattle.doc_tree.specs.Lines.{Line, starts, declares, ends, closes, closing, first_lines, last_lines, lines_at}
use Rattle.doc_tree.specs.Growth.{Grew, ends_in_text}
use Rattle.doc_tree.specs.Kinds.{is_text}
use Rattle.doc_tree.specs.Laws.{HasWaysUp}
use Rattle.doc_tree.specs.Scope.{Decl}
use Rattle.doc_tree.specs.Declaring.{Declared, DeclaredLast}
use Rattle.name_scopes.specs.QNames.{as_written}
use Rattle.name_scopes.specs.ScopedTree.{written}
use Rattle.name_scopes.specs.inner.Build.{Receives, IsInnermost, AreOpen, Tops, Says}
use Rattle.name_scopes.proofs.NumberLemmas.{mem-first, mem-second, last-push}
use Rattle.name_scopes.proofs.OpenElements.{open-live, open-holds, open-stays, open-round, grown-length, tops-declared}

-- a node may come under the innermost open element
pub tells-receives : (told : List Line) (names : List (List ℕ)) (scopes : List (List Decl)) (begun : Bool) (text : ℕ) (T : Table) (n : ℕ) →
    Says told names scopes begun text T n → Receives T n
tells-receives told names scopes begun text T n tells = record {
  holder = open-holds T names scopes n tells.way;
  last = tells.last;
  all_live = tells.all_live;
}

pub grown-numbers : (T U : Table) (p n : ℕ) (c : Content) → Grew T U p n c → order T ≡ upto (length T) → order U ≡ upto (length U)
grown-numbers T U p n c grew was =
    grew.last_in_order ∙ (ap₂ (λ (l : List ℕ) k. l ++ k ∷ []) was grew.number ∙ sym (ap upto (grown-length T U p n c grew)))

grown-text : (T U : Table) (p n : ℕ) (c : Content) (text : ℕ) → Grew T U p n c → text_bytes T ≤ text → text_bytes U ≤ text + length (value_in c)
grown-text T U p n c text grew h = omega (arith, grew.more_text, h)

-- a node that opens nothing: the tree tells its lines more
pub tells-leaf : (T U : Table) (p n : ℕ) (c : Content) (told : List Line) (names : List (List ℕ)) (scopes : List (List Decl)) (begun : Bool) (text : ℕ) →
    Grew T U p n c → HasWaysUp T → last_lines c ≡ [] → Tops begun U →
    Says told names scopes begun text T p → Says (told ++ first_lines c) names scopes begun (text + length (value_in c)) U p
tells-leaf T U p n c told names scopes begun text grew ways leaf top tells =
    let live : is_live T p ≡ true = open-live T names scopes p tells.way in
    let ends_are : closing U n ≡ closing U p =
    grew.new_closing ∙ ap (λ (ls : List Line). ls ++ closing T p) leaf ∙ sym (grew.same_closing p live) in
    record {
      lines_are = grew.read_on told tells.lines_are ∙ ap (λ (ls : List Line). (told ++ first_lines c) ++ ls) ends_are;
      all_live = grew.all_live;
      last = grew.stays_open p (mem-second p n (ancestors T p));
      way = open-stays T U p n c grew ways names scopes p (omega arith) tells.way;
      top = top;
      numbered_so = grown-numbers T U p n c grew tells.numbered_so;
      little = grown-text T U p n c text grew tells.little;
    }

-- an element more is open
pub tells-element : (T U : Table) (p n : ℕ) (qname : List ℕ) (name : Name) (told : List Line) (names : List (List ℕ)) (scopes : List (List Decl)) (begun : Bool) (text : ℕ) →
    Grew T U p n (element name []) → HasWaysUp T → as_written name ≡ written qname → Tops true U →
    Says told names scopes begun text T p → Says (told ++ starts name ∷ []) (qname ∷ names) ([] ∷ scopes) true text U n
tells-element T U p n qname name told names scopes begun text grew ways spelled top tells = record {
  lines_are = grew.read_on told tells.lines_are;
  all_live = grew.all_live;
  last = grew.stays_open n (mem-first n (above T p));
  way = (
    p,
    (
      record {
        name = name;
        spelled = spelled;
        content = grew.content;
        under = grew.parent;
        elder = kids_of T p;
        last = grew.parent_kids;
      },
      open-stays T U p n _ grew ways names scopes p (omega arith) tells.way,
    ),
  );
  top = top;
  numbered_so = grown-numbers T U p n _ grew tells.numbered_so;
  little = omega (arith, grown-text T U p n _ text grew tells.little);
}

-- the innermost element declares something more
pub tells-declared : (T U : Table) (n : ℕ) (d : Decl) (qname : List ℕ) (decls : List Decl) (told : List Line) (names : List (List ℕ)) (scopes : List (List Decl)) (begun : Bool) (text : ℕ) →
    Declared T U n d → HasWaysUp T → kids_of T n ≡ [] → attrs_of T n ≡ [] →
    Says told (qname ∷ names) (decls ∷ scopes) begun text T n → Says (told ++ declares d ∷ []) (qname ∷ names) ((decls ++ d ∷ []) ∷ scopes) begun text U n
tells-declared T U n d qname decls told names scopes begun text more ways no_kid no_attribute tells =
    let at : DeclaredLast T U n d = more.while_last no_kid no_attribute in
    let q : ℕ = tells.way.0 in
    let kid : IsInnermost T qname decls q n = tells.way.1.0 in
    let longer : length (ancestors T n) ≡ length (q ∷ ancestors T q) = ap (λ (ms : List ℕ). length ms) (ways.ancestors_at n q kid.under) in
    record {
      lines_are = at.read_on told tells.last tells.lines_are;
      all_live = more.all_live tells.all_live;
      last = more.same_open n ∙ tells.last;
      way = (
        q,
        (
          record {
            name = kid.name;
            spelled = kid.spelled;
            content = more.content kid.name decls kid.content;
            under = more.same_parent n ∙ kid.under;
            elder = kid.elder;
            last = more.same_kids q ∙ kid.last;
          },
          open-round T U n d more ways names scopes q (omega arith) tells.way.1.1,
        ),
      );
      top = tops-declared T U n d begun more tells.top;
      numbered_so = more.same_order ∙ (tells.numbered_so ∙ sym (ap upto more.same_length));
      little = omega (arith, more.same_text, tells.little);
    }

-- what kids with one more at the end end in
pub ends-in-one : (T : Table) (elder : List ℕ) (n : ℕ) → ends_in_text T (elder ++ n ∷ []) ≡ is_text (kind_of T n)
ends-in-one T [] n = refl
ends-in-one T (x ∷ elder) n = ap (λ (m : ℕ). is_text (kind_of T m)) (last-push x n elder)

-- the innermost element ends
pub record Ended (T : Table) (p q : ℕ) (qname : List ℕ) (told : List Line) (names : List (List ℕ)) (scopes : List (List Decl)) (begun : Bool) (text : ℕ) : Type 0 where
  pub name : Name
  pub spelled : as_written name ≡ written qname
  pub tells : Says (told ++ ends name ∷ []) names scopes begun text T q
  pub behind : ends_in_text T (kids_of T q) ≡ false

pub tells-end : (T : Table) (p q : ℕ) (qname : List ℕ) (decls : List Decl) (told : List Line) (names : List (List ℕ)) (scopes : List (List Decl)) (begun : Bool) (text : ℕ) →
    HasWaysUp T → parent_of T p ≡ Some q → Says told (qname ∷ names) (decls ∷ scopes) begun text T p → Ended T p q qname told names scopes begun text
tells-end T p q qname decls told names scopes begun text ways under tells =
    let kid : IsInnermost T qname decls tells.way.0 p = tells.way.1.0 in
    let is : tells.way.0 ≡ q = let up : parent_of T p ≡ Some tells.way.0 = kid.under in cc in
    let closed : closes T p ≡ ends kid.name ∷ [] = ap (lines_at last_lines) kid.content in
    let step : closing T p ≡ (ends kid.name ∷ []) ++ closing T q =
    ap (λ (ms : List ℕ). closes T p ++ flat_map (closes T) ms) (ways.ancestors_at p q under)
    ∙ ap (λ (ls : List Line). ls ++ closing T q) closed in
    let kind : kind_of T p ≡ Some Element = ap kind_at kid.content in
    let kids : kids_of T q ≡ kid.elder ++ p ∷ [] = subst (λ (m : ℕ). kids_of T m ≡ kid.elder ++ p ∷ []) is kid.last in
    record {
      name = kid.name;
      spelled = kid.spelled;
      tells = record {
        lines_are = tells.lines_are ∙ ap (λ (ls : List Line). told ++ ls) step
            ∙ sym (append_assoc told (ends kid.name ∷ []) (closing T q));
        all_live = tells.all_live;
        last = ways.open_upwards p q tells.last under;
        way = subst (λ (m : ℕ). AreOpen T names scopes m) is tells.way.1.1;
        top = tells.top;
        numbered_so = tells.numbered_so;
        little = tells.little;
      };
      behind = ap (ends_in_text T) kids ∙ ends-in-one T kid.elder p ∙ ap is_text kind;
    }
