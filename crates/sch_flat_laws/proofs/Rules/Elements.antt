-- Elements at which no rule is broken.
use Rattle.std.proofs.Common.{◌≡◌, ℕ, Bool, true, false, not, ◌&&◌, ◌||◌, ◌==◌, cond, List, [], ◌∷◌, ◌++◌, Option, None, Some, eqb-true, refl, sym, ap, ◌∙◌, subst}
use Rattle.std.specs.List.{flat_map, list_all}
use Rattle.std.specs.Option.{is_some}
use Rattle.std.specs.Prelude.{codes, option_and_then, option_map}
use Rattle.doc_table.proofs.ListLemmas.{mem-head, mem-tail}
use Rattle.doc_tree.specs.kind.Kind.TheVariants as kind
use Rattle.doc_tree.specs.Kinds.{can_be_kid}
use Rattle.doc_tree.specs.Laws.{HasWaysUp, Ordered, Walks, WellFormed}
use Rattle.doc_tree.specs.Lists.{mem}
use Rattle.doc_tree.specs.Scope.{HasScopes}
use Rattle.doc_tree.specs.Table.{Content, Name, Table, attribute, attrs_of, comment, content_of, element, instruction, is_root, kids_of, kind_at, kind_of, parent_of, root, text}
use Rattle.doc_tree.specs.Walks.{below}
use Rattle.name_scopes.specs.Scoping.{InScope}
use Rattle.pyx_core.specs.declared.event.Event.{Event}
use Rattle.sch_rules.specs.declared.word.Word.{Word}
use Rattle.sch_rules.specs.declared.word.Word.TheVariants as word
use Rattle.sch_rules.specs.Attributes.{is_true, said as said_at}
use Rattle.sch_rules.specs.Elements.{element_name, is_at_top, local_at, local_in, word_above, word_at}
use Rattle.sch_rules.specs.Keys.{Key, keys_of}
use Rattle.sch_rules.specs.Rules.{mixed, other_binding, unsupported}
use Rattle.sch_rules.specs.Words.{holds, is_word, may_hold, required, word_of}
use Rattle.sch_flat_laws.specs.Readable.{Each}
use Rattle.sch_flat_laws.proofs.Reading.Attributes.{given_in}
use Rattle.sch_flat_laws.proofs.Reading.EventBlocks.{said}
use Rattle.sch_flat_laws.proofs.Reading.Kids.{Items, Pairs, none_left}
use Rattle.sch_flat_laws.proofs.Reading.Leaves.{AreKids}
use Rattle.sch_flat_laws.proofs.Reading.Messages.{counts_under}
use Rattle.sch_flat_laws.proofs.Reading.Places.{Place, Read}
use Rattle.sch_flat_laws.proofs.Reading.TreeBlocks.{told}
use Rattle.sch_flat_laws.proofs.Rules.Forms.{AllForms, none_missing, well_formed}
use Rattle.sch_flat_laws.proofs.Rules.Sound.{Clean, Sound, clean_append, clean_as, clean_nil, plain_node, sound_as}

root-word : (content : Option Content) → kind_at content ≡ Some kind.Root → option_and_then word_of (local_in (element_name content)) ≡ None
root-word None h = absurd (cc)
root-word (Some root) h = refl
root-word (Some (element its decls)) h = absurd (cc)
root-word (Some (attribute its value)) h = absurd (cc)
root-word (Some (text characters)) h = absurd (cc)
root-word (Some (comment characters)) h = absurd (cc)
root-word (Some (instruction its body)) h = absurd (cc)

attribute-name : (content : Option Content) → kind_at content ≡ Some kind.Attribute → element_name content ≡ None
attribute-name None h = absurd (cc)
attribute-name (Some root) h = absurd (cc)
attribute-name (Some (element its decls)) h = absurd (cc)
attribute-name (Some (attribute its value)) h = refl
attribute-name (Some (text characters)) h = absurd (cc)
attribute-name (Some (comment characters)) h = absurd (cc)
attribute-name (Some (instruction its body)) h = absurd (cc)

-- what the rules want of an element with these attributes in an element with another word, beside its forms and kids
pub record Fits (attributes : List (List ℕ × Option (List ℕ))) (w above : Word) : Type 0 where
  pub held : holds above w ≡ true
  pub no_schema : is_word word.Schema (Some w) ≡ false
  pub concrete : is_true (given_in attributes (codes "abstract")) ≡ false
  pub all_given : list_all (λ (name : List ℕ). is_some (given_in attributes name)) (required w false) ≡ true

-- an element in another
pub record Inside (T : Table) (n : ℕ) (above : Word) : Type 0 where
  pub parent : ℕ
  pub up : parent_of T n ≡ Some parent
  pub word : word_at T parent ≡ Some above

module _ (T : Table) (formed : WellFormed T) (ordered : Ordered T) (ways : HasWaysUp T) (walks : Walks T) (scopes : HasScopes T) (in_scope : InScope T) where
  below-top : (n : ℕ) (above : Word) → Inside T n above → is_at_top T n ≡ false
  below-top n above inside = ap is_root inside.up ∙ by (inside.parent == 0) refl
    where
      by : (b : Bool) → (inside.parent == 0) ≡ b → (inside.parent == 0) ≡ false
      by true e =
          let at : word_at T 0 ≡ Some above = subst (λ m. word_at T m ≡ Some above) (eqb-true inside.parent 0 e) inside.word in
          let none : None ≡ Some above = sym (root-word (content_of T 0) formed.root_kind) ∙ at in
          absurd (cc)
      by false e = e

  -- it breaks no rule
  pub sound_inside : (n : ℕ) (local : List ℕ) (attributes : List (List ℕ × Option (List ℕ))) (held : List Event) (w above : Word) →
      Read T n local attributes held → Inside T n above → word_at T n ≡ Some w → Fits attributes w above → AllForms T n w attributes →
      unsupported T n (Some w) ≡ None → mixed T n (Some w) ≡ None → Sound T n
  sound_inside n local attributes held w above r inside is fits forms supported unmixed =
      let at = below-top n above inside in
      let over : word_above T n ≡ Some above = ap (option_and_then (word_at T)) inside.up ∙ inside.word in
      sound_as T n w r.place.counts is (record {
        top = ap (λ (b : Bool). cond (b && not (is_word word.Schema (Some w))) (option_map (λ (name : Name). name.local) (element_name (content_of T n))) None) at;
        binding = ap (λ (b : Bool). cond b (other_binding (said_at T n (codes "queryBinding"))) None) fits.no_schema;
        placed = ap (λ (b : Bool). cond (not (b || may_hold (word_above T n) (Some w))) (local_at T n) None) at
            ∙ ap (λ (v : Option Word). cond (not (may_hold v (Some w))) (local_at T n) None) over
            ∙ ap (λ (b : Bool). cond (not b) (local_at T n) None) fits.held;
        supported = supported;
        given = none_missing T n w attributes r.says fits.concrete fits.all_given;
        formed = well_formed T n w attributes r.own r.plain forms;
        unmixed = unmixed;
      })

  -- the attributes of an element break no rule
  clean-attributes : (n : ℕ) → Place T n → (attrs : List ℕ) → ((a : ℕ) → mem a attrs ≡ true → mem a (attrs_of T n) ≡ true) → Clean T attrs []
  clean-attributes n place [] within = clean_nil T
  clean-attributes n place (a ∷ attrs) within =
      let member = within a (mem-head a attrs) in
      clean_append T (a ∷ []) attrs [] []
      (plain_node T a (counts_under T formed ordered ways walks scopes in_scope n a place (formed.attribute_parent n a member)) (attribute-name (content_of T a) (formed.attribute_kind n a member)))
      (clean-attributes n place attrs (λ b h. within b (mem-tail b a attrs h)))

  -- an element, its attributes and what it holds
  pub clean_element : (n : ℕ) (w : Word) (own keys : List Key) → Place T n → Sound T n → word_at T n ≡ Some w → keys_of T n (Some w) ≡ own →
      Clean T (flat_map (below T) (kids_of T n)) keys → Clean T (below T n) (own ++ keys)
  clean_element n w own keys place sound is used kids =
      subst (λ l. Clean T l (own ++ keys)) (sym (ordered.below_at n))
      (clean_append T (n ∷ []) (attrs_of T n ++ flat_map (below T) (kids_of T n)) own keys
      (clean_as T n w own sound is used)
      (clean_append T (attrs_of T n) (flat_map (below T) (kids_of T n)) [] keys (clean-attributes n place (attrs_of T n) (λ a h. h)) kids))

  -- an element that holds nothing
  pub clean_empty : (n : ℕ) → Items T (kids_of T n) → flat_map (told T) (kids_of T n) ≡ [] → Clean T (flat_map (below T) (kids_of T n)) []
  clean_empty n items none = subst (λ l. Clean T (flat_map (below T) l) []) (sym (none_left T (kids_of T n) items none)) (clean_nil T)

-- a kid that tells what an item says, and all below it
abbrev pub CleanKid : {A : Type 0} → Table → ℕ → (A → List Event) → (A → List Key) → ℕ → A → Type 0
CleanKid T p f keys k x =
    parent_of T k ≡ Some p → can_be_kid (kind_of T k) ≡ true → Items T (kids_of T k) → told T k ≡ said (f x) → Clean T (below T k) (keys x)

pub clean_kids : {A : Type 0} (T : Table) (ok : A → Type 0) (f : A → List Event) (keys : A → List Key) (p : ℕ) →
    ((k : ℕ) (x : A) → ok x → CleanKid T p f keys k x) → (ks : List ℕ) (xs : List A) → Each ok xs → AreKids T p ks → Pairs T f ks xs →
    Clean T (flat_map (below T) ks) (flat_map keys xs)
clean_kids T ok f keys p each [] [] good kids pairs = clean_nil T
clean_kids T ok f keys p each [] (x ∷ xs) good kids pairs = absurd pairs
clean_kids T ok f keys p each (k ∷ ks) [] good kids pairs = absurd pairs
clean_kids T ok f keys p each (k ∷ ks) (x ∷ xs) good kids pairs =
    clean_append T (below T k) (flat_map (below T) ks) (keys x) (flat_map keys xs)
    (each k x good.0 kids.0.0 kids.0.1 kids.0.2 pairs.0)
    (clean_kids T ok f keys p each ks xs good.1 kids.1 pairs.1)

-- kids that use no names
abbrev pub uses_none : {A : Type 0} → A → List Key
uses_none x = []

no-keys : {A : Type 0} (xs : List A) → flat_map (uses_none {A = A}) xs ≡ []
no-keys [] = refl
no-keys (x ∷ xs) = no-keys xs

pub clean_quiet : {A : Type 0} (T : Table) (ok : A → Type 0) (f : A → List Event) (p : ℕ) →
    ((k : ℕ) (x : A) → ok x → CleanKid T p f (uses_none {A = A}) k x) → (ks : List ℕ) (xs : List A) → Each ok xs → AreKids T p ks → Pairs T f ks xs →
    Clean T (flat_map (below T) ks) []
clean_quiet {A} T ok f p each ks xs good kids pairs =
    subst (Clean T (flat_map (below T) ks)) (no-keys xs) (clean_kids T ok f (uses_none {A = A}) p each ks xs good kids pairs)
