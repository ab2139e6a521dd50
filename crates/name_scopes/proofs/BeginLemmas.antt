-- An element begins: from its node, what it declares and its attributes to the whole.
use Rattle.std.proofs.Common.{◌≡◌, ◌≢◌, ℕ, ◌+◌, Bool, true, false, List, [], ◌∷◌, ◌++◌, length, map, sum_by, Some, refl, sym, ap, ap₂, ◌∙◌, subst, ⊎_elim, arith, append_assoc, length-append}
use Rattle.std.proofs.lemmas.Bool.{cases_eq}
use Rattle.std.specs.List.{flat_map}
use Rattle.pyx_core.specs.declared.event.Attr.{Attr}
use Rattle.pyx_core.specs.Nesting.{is_name}
use Rattle.doc_tree.specs.Table.{Table, element, kind_at, decls_at, decls_of, kids_of, content_of, is_live}
use Rattle.doc_tree.specs.Walks.{above, ancestors, order}
use Rattle.doc_tree.specs.Lines.{Line, starts, declares}
use Rattle.doc_tree.specs.Growth.{Grew}
use Rattle.doc_tree.specs.Kinds.{holds_kids}
use Rattle.doc_tree.specs.Laws.{HasWaysUp, WellFormed}
use Rattle.doc_tree.specs.Scope.{Decl, scope_at, HasScopes}
use Rattle.name_scopes.specs.Declarations.{declarations, plain_attrs}
use Rattle.name_scopes.specs.Fragments.{PieceInScope}
use Rattle.name_scopes.specs.Scoping.{ContentInScope}
use Rattle.name_scopes.specs.inner.Build.{Receives, Tops, Says, DeclaresAll, AttributesAll, Begins, NodeAround, element_name, scoped_line, value_bytes}
use Rattle.name_scopes.proofs.NumberLemmas.{mem-first}
use Rattle.name_scopes.proofs.OpenElements.{kids-stay, tops-apart, tops-first}
use Rattle.name_scopes.proofs.ScopeGrowth.{scope-new, others-scoped}
use Rattle.name_scopes.proofs.TellLemmas.{tells-element}
use Rattle.name_scopes.proofs.TagFacts.{AreAttrs, TagIsGood, element-scoped}

module _ (T U V : Table) (p n : ℕ) (scope : List Decl) (name : List ℕ) (attrs : List Attr) (grew : Grew T U p n (element (element_name scope name) [])) (decls : DeclaresAll U V n (declarations attrs)) where
  pub begun-content : content_of V n ≡ Some (element (element_name scope name) (declarations attrs))
  begun-content = decls.content (element_name scope name) grew.content

  pub begun-receives : Receives V n
  begun-receives = record {
    holder = ap (λ c. holds_kids (kind_at c)) begun-content;
    last = decls.same_open ∙ grew.stays_open n (mem-first n (above T p));
    all_live = decls.all_live grew.all_live;
  }

  module _ (laws : HasScopes T) (live : is_live T p ≡ true) where
    pub begun-scope : scope_at V n ≡ declarations attrs ++ scope_at T p
    begun-scope =
        let none : decls_of U n ≡ [] = ap decls_at grew.content in
        let outer : flat_map (decls_of U) (ancestors U n) ≡ scope_at T p =
        ap (λ (l : List Decl). l ++ flat_map (decls_of U) (ancestors U n)) (sym none) ∙ scope-new T U p n _ grew laws live in
        ap₂ (λ (l r : List Decl). l ++ r) decls.decls_are (decls.upper ∙ outer)

    begun-around : (around : List Decl) → scope ≡ declarations attrs ++ (scope_at T p ++ around) → scope ≡ scope_at V n ++ around
    begun-around around is = is ∙ (sym (append_assoc (declarations attrs) (scope_at T p) around) ∙ ap (λ (s : List Decl). s ++ around) (sym begun-scope))

    begun-scoped : (around : List Decl) → scope ≡ declarations attrs ++ (scope_at T p ++ around) → is_name name ≡ true → AreAttrs attrs → TagIsGood scope name attrs → PieceInScope around T → PieceInScope around V
    begun-scoped around is named ok good all m = ⊎_elim
        (λ (e : m ≡ n). subst (NodeAround around V) (sym e)
        (subst (λ o. ContentInScope (scope_at V n ++ around) o) (sym begun-content)
        (subst (λ (s : List Decl). ContentInScope s (Some (element (element_name scope name) (declarations attrs)))) (begun-around around is) (element-scoped scope name attrs named ok good))))
        (λ (ne : m ≢ n). decls.others around m ne (others-scoped T U p n _ grew laws around m ne (all m)))
        (cases_eq m n)

    -- the whole
    pub begun : (W : Table) → AttributesAll V W n scope attrs → HasWaysUp T → WellFormed T → is_name name ≡ true → AreAttrs attrs → TagIsGood scope name attrs → Begins T W p n scope name attrs
    begun W more ways formed named ok good = record {
      tells = λ told names scopes begun text some none tells.
          let top : Tops true U = by begun some none tells.top in
          let t1 : Says (told ++ starts (element_name scope name) ∷ []) (name ∷ names) ([] ∷ scopes) true text U n =
          tells-element T U p n name (element_name scope name) told names scopes begun text grew ways refl top tells in
          let t2 : Says ((told ++ starts (element_name scope name) ∷ []) ++ map declares (declarations attrs)) (name ∷ names) (declarations attrs ∷ scopes) true text V n =
          decls.tells (told ++ starts (element_name scope name) ∷ []) name names scopes true text t1 in
          let t3 = more.tells ((told ++ starts (element_name scope name) ∷ []) ++ map declares (declarations attrs)) (name ∷ names) (declarations attrs ∷ scopes) true text t2 in
          subst (λ (ls : List Line). Says ls (name ∷ names) (declarations attrs ∷ scopes) true (text + sum_by value_bytes attrs) W n)
          (append_assoc (told ++ starts (element_name scope name) ∷ []) (map declares (declarations attrs)) (map (scoped_line scope) (plain_attrs attrs))
          ∙ append_assoc told (starts (element_name scope name) ∷ []) (map declares (declarations attrs) ++ map (scoped_line scope) (plain_attrs attrs))) t3;
      scoped = λ around is all. more.scoped around (begun-around around is) (begun-scoped around is named ok good all);
      no_kid = more.no_kid;
      counted = omega (arith, more.counted, ap length decls.same_order, ap length grew.last_in_order, length-append (order T) (n ∷ []));
      more_text = omega (arith, more.more_text, decls.same_text, grew.more_text);
      top_kids = λ apart. more.top_kids ∙ (decls.top_kids ∙ kids-stay T U p n _ grew ways formed apart);
      first_kid = λ at. more.top_kids ∙ (decls.top_kids ∙ subst (λ (m : ℕ). kids_of U m ≡ kids_of T m ++ n ∷ []) at grew.parent_kids);
    }
      where
        by : (begun : Bool) → (begun ≡ true → p ≢ 0) → (begun ≡ false → p ≡ 0) → Tops begun T → Tops true U
        by true some none top = tops-apart T U p n _ grew ways formed true (some refl) top
        by false some none top = tops-first T U p n _ grew ways formed (none refl) refl refl refl top
