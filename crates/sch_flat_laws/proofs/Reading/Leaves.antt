-- Elements that hold nothing, as they are read.
use Rattle.std.proofs.Common.{◌≡◌, ℕ, Bool, true, cond, List, [], ◌∷◌, ◌++◌, Option, Some, map, refl, ap, ◌∙◌}
use Rattle.std.specs.List.{flat_map}
use Rattle.std.specs.Prelude.{codes}
use Rattle.std.specs.Option.{option_map_or}
use Rattle.doc_tree.specs.Kinds.{can_be_kid}
use Rattle.doc_tree.specs.Laws.{HasWaysUp, Walks, WellFormed}
use Rattle.doc_tree.specs.Scope.{HasScopes, xmlns_prefix}
use Rattle.doc_tree.specs.Table.{Table, kids_of, kind_of, parent_of}
use Rattle.name_scopes.specs.Scoping.{InScope}
use Rattle.pyx_core.specs.declared.event.Event.{Event}
use Rattle.sch_model.specs.declared.parts.Active.{Active}
use Rattle.sch_model.specs.declared.parts.LetDecl.{LetDecl}
use Rattle.sch_model.specs.declared.parts.Ns.{Ns}
use Rattle.sch_rules.specs.declared.word.Word.{Word}
use Rattle.sch_rules.specs.declared.word.Word.TheVariants as word
use Rattle.sch_rules.specs.Elements.{word_at}
use Rattle.sch_rules.specs.RawSchema.{active_of, let_of, ns_of, read_if}
use Rattle.sch_rules.specs.Words.{is_word, word_of}
use Rattle.sch_flat.specs.FlatDocument.{active_events, let_events, ns_events}
use Rattle.sch_model.specs.Placeless.{placeless_active, placeless_let, placeless_ns}
use Rattle.sch_flat_laws.proofs.Reading.EventBlocks.{holds_nil, said}
use Rattle.sch_flat_laws.proofs.Reading.Kids.{Items, Pairs}
use Rattle.sch_flat_laws.proofs.Reading.Places.{Place, read_element}
use Rattle.sch_flat_laws.proofs.Reading.TreeBlocks.{told}

-- kids of a node
abbrev pub AreKids : Table → ℕ → List ℕ → Type 0
AreKids T n [] = Unit {0}
AreKids T n (k ∷ ks) = ((parent_of T k ≡ Some n) × (can_be_kid (kind_of T k) ≡ true) × Items T (kids_of T k)) × AreKids T n ks

-- a node that is read under this word, and the same thing but for its place
pub record ReadAs {A : Type 0} (T : Table) (w : Word) (read : ℕ → A) (forget : A → A) (k : ℕ) (x : A) : Type 0 where
  pub word : word_at T k ≡ Some w
  pub same : forget (read k) ≡ forget x

text-of : (value : Option (List ℕ)) → List ℕ
text-of value = option_map_or (λ text. text) value []

module _ (T : Table) (formed : WellFormed T) (ways : HasWaysUp T) (walks : Walks T) (scopes : HasScopes T) (in_scope : InScope T) where
  pub let_read : (p k : ℕ) (decl : LetDecl) → Place T p → parent_of T k ≡ Some p → can_be_kid (kind_of T k) ≡ true → Items T (kids_of T k) →
      told T k ≡ said (let_events decl) → ReadAs T word.Let (let_of T) placeless_let k decl
  unfolding xmlns_prefix word_of
  let_read p k decl place up kid items same =
      let r = read_element T formed ways walks scopes in_scope p k (codes "let") ((codes "name", Some decl.name) ∷ (codes "value", Some decl.value) ∷ []) [] place up kid items holds_nil refl same in
      record { word = r.word; same = rw (r.says (codes "name"), r.says (codes "value")) refl }

  pub ns_read : (p k : ℕ) (ns : Ns) → Place T p → parent_of T k ≡ Some p → can_be_kid (kind_of T k) ≡ true → Items T (kids_of T k) →
      told T k ≡ said (ns_events ns) → ReadAs T word.Ns (ns_of T) placeless_ns k ns
  unfolding xmlns_prefix word_of
  ns_read p k ns place up kid items same =
      let r = read_element T formed ways walks scopes in_scope p k (codes "ns") ((codes "prefix", Some ns.prefix) ∷ (codes "uri", Some ns.uri) ∷ []) [] place up kid items holds_nil refl same in
      record { word = r.word; same = rw (r.says (codes "prefix"), r.says (codes "uri")) refl }

  pub active_read : (p k : ℕ) (active : Active) → Place T p → parent_of T k ≡ Some p → can_be_kid (kind_of T k) ≡ true → Items T (kids_of T k) →
      told T k ≡ said (active_events active) → ReadAs T word.Active (active_of T) placeless_active k active
  unfolding xmlns_prefix word_of
  active_read p k active place up kid items same =
      let r = read_element T formed ways walks scopes in_scope p k (codes "active") ((codes "pattern", Some active.pattern) ∷ []) [] place up kid items holds_nil refl same in
      record { word = r.word; same = rw (r.says (codes "pattern")) refl }

-- each of the nodes is read so
abbrev pub AllRead : {A : Type 0} → Table → Word → (ℕ → A) → (A → A) → List ℕ → List A → Type 0
AllRead T w read forget [] [] = Unit {0}
AllRead T w read forget [] (x ∷ xs) = ⊥
AllRead T w read forget (k ∷ ks) [] = ⊥
AllRead T w read forget (k ∷ ks) (x ∷ xs) = ReadAs T w read forget k x × AllRead T w read forget ks xs

pub all_read : {A : Type 0} (T : Table) (w : Word) (read : ℕ → A) (forget : A → A) (f : A → List Event) (p : ℕ) →
    ((k : ℕ) (x : A) → parent_of T k ≡ Some p → can_be_kid (kind_of T k) ≡ true → Items T (kids_of T k) → told T k ≡ said (f x) → ReadAs T w read forget k x) →
    (ks : List ℕ) (xs : List A) → AreKids T p ks → Pairs T f ks xs → AllRead T w read forget ks xs
all_read T w read forget f p each [] [] kids pairs = tt
all_read T w read forget f p each [] (x ∷ xs) kids pairs = absurd pairs
all_read T w read forget f p each (k ∷ ks) [] kids pairs = absurd pairs
all_read T w read forget f p each (k ∷ ks) (x ∷ xs) kids pairs =
    (each k x kids.0.0 kids.0.1 kids.0.2 pairs.0, all_read T w read forget f p each ks xs kids.1 pairs.1)

-- those that are read under the word give the things but for their places
pub read_all : {A : Type 0} (T : Table) (w : Word) (read : ℕ → A) (forget : A → A) → is_word w (Some w) ≡ true → (ks : List ℕ) (xs : List A) → AllRead T w read forget ks xs →
    map forget (flat_map (read_if T w read) ks) ≡ map forget xs
read_all T w read forget is [] [] all = refl
read_all T w read forget is [] (x ∷ xs) all = absurd all
read_all T w read forget is (k ∷ ks) [] all = absurd all
read_all T w read forget is (k ∷ ks) (x ∷ xs) all =
    ap (λ (b : Bool). map forget (cond b (read k ∷ []) [] ++ flat_map (read_if T w read) ks)) (ap (is_word w) all.0.word ∙ is)
    ∙ ap (λ y. y ∷ map forget (flat_map (read_if T w read) ks)) all.0.same
    ∙ ap (λ l. forget x ∷ l) (read_all T w read forget is ks xs all.1)
