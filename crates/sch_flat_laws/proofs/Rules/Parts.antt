-- The parts of a schema without patterns: no rule is broken at them.
use Rattle.std.proofs.Common.{◌≡◌, ℕ, Bool, true, false, not, ◌||◌, List, [], ◌∷◌, ◌++◌, Option, Some, refl, sym, ap, ◌∙◌, subst, append-nil}
use Rattle.std.specs.List.{flat_map, list_all}
use Rattle.std.specs.Prelude.{codes}
use Rattle.std.specs.Str.{bytes_eq}
use Rattle.std.specs.Option.{option_map_or}
use Rattle.std.proofs.lemmas.Bool.{and_parts}
use Rattle.std.proofs.lemmas.Grind.{flat_map-append}
use Rattle.doc_tree.specs.Kinds.{can_be_kid}
use Rattle.doc_tree.specs.Laws.{HasWaysUp, Ordered, Walks, WellFormed}
use Rattle.doc_tree.specs.Scope.{HasScopes, xmlns_prefix}
use Rattle.doc_tree.specs.Table.{Table, content_of, kids_of, kind_of, parent_of}
use Rattle.doc_tree.specs.Walks.{below}
use Rattle.name_scopes.specs.Scoping.{InScope}
use Rattle.sch_base.specs.Names.{is_ncname}
use Rattle.sch_model.specs.declared.parts.Active.{Active}
use Rattle.sch_model.specs.declared.parts.LetDecl.{LetDecl}
use Rattle.sch_model.specs.declared.parts.Ns.{Ns}
use Rattle.sch_model.specs.declared.parts.Part.{Part}
use Rattle.sch_model.specs.declared.parts.Part.TheVariants.{Chars, ValueOf, Name}
use Rattle.sch_model.specs.declared.parts.Phase.{Phase}
use Rattle.sch_rules.specs.declared.named.Named.TheVariants as named
use Rattle.sch_rules.specs.declared.word.Word.{Word}
use Rattle.sch_rules.specs.declared.word.Word.TheVariants as word
use Rattle.sch_rules.specs.Attributes.{said as said_at}
use Rattle.sch_rules.specs.Elements.{element_name, word_at}
use Rattle.sch_rules.specs.Keys.{Key, keys_for}
use Rattle.sch_rules.specs.Rules.{has_bad_form, is_bad_binding}
use Rattle.sch_rules.specs.Words.{holds, word_of}
use Rattle.sch_flat.specs.FlatDocument.{active_events, let_events, ns_events, part_events, phase_events}
use Rattle.sch_model.specs.Placeless.{is_some_part}
use Rattle.sch_flat_laws.specs.Readable.{Each}
use Rattle.sch_flat_laws.proofs.Reading.Document.{are_kids, kid_items}
use Rattle.sch_flat_laws.proofs.Reading.EventBlocks.{active_chunk, holds_all, holds_append, holds_nil, let_chunk, said, said_append}
use Rattle.sch_flat_laws.proofs.Reading.Kids.{none_left, take_if, take_pairs}
use Rattle.sch_flat_laws.proofs.Reading.Leaves.{AreKids}
use Rattle.sch_flat_laws.proofs.Reading.Messages.{below_text, counts_under, part_chunk, text_node}
use Rattle.sch_flat_laws.proofs.Reading.Places.{Place, Read, read_element}
use Rattle.sch_flat_laws.proofs.Reading.Schema.{kids_parts}
use Rattle.sch_flat_laws.proofs.Reading.TreeBlocks.{told}
use Rattle.sch_flat_laws.specs.Allowed.{AllowedLet, AllowedNs, AllowedPhase, IsName}
use Rattle.sch_flat_laws.proofs.Rules.Elements.{CleanKid, clean_element, clean_empty, clean_quiet, sound_inside, uses_none}
use Rattle.sch_flat_laws.proofs.Rules.Forms.{free_form}
use Rattle.sch_flat_laws.proofs.Rules.KeyLemmas.{key_of}
use Rattle.sch_flat_laws.proofs.Rules.Sound.{Clean, clean_append, plain_node}

-- the name that a phase and a prefix use
abbrev pub ns_names : Ns → List Key
ns_names ns = key_of named.Prefix ns.prefix ∷ []

abbrev pub phase_names : Phase → List Key
phase_names phase = key_of named.Phase phase.id ∷ []

-- an NCName has the form of one
pub name_form : (value : List ℕ) → IsName value → (not (is_ncname value) || false) ≡ false
name_form value name = ap (λ (b : Bool). not b || false) name

some-uri : (uri : List ℕ) → (uri ≡ [] → ⊥) → bytes_eq uri [] ≡ false
some-uri [] some = absurd (some refl)
some-uri (byte ∷ uri) some = refl

-- all below two runs of kids
pub below_parts : (T : Table) (kids xs ys : List ℕ) → kids ≡ xs ++ ys → flat_map (below T) kids ≡ flat_map (below T) xs ++ flat_map (below T) ys
below_parts T kids xs ys are = ap (flat_map (below T)) are ∙ flat_map-append (below T) xs ys

pub no_rule : {A : Type 0} (xs : List A) → Each (λ (x : A). Unit {0}) xs
no_rule [] = tt
no_rule (x ∷ xs) = (tt, no_rule xs)

pub each_true : {A : Type 0} (p : A → Bool) (xs : List A) → list_all p xs ≡ true → Each (λ (x : A). p x ≡ true) xs
each_true p [] h = tt
each_true p (x ∷ xs) h = let parts = and_parts (p x) (list_all p xs) h in (parts.0, each_true p xs parts.1)

module _ (T : Table) (formed : WellFormed T) (ordered : Ordered T) (ways : HasWaysUp T) (walks : Walks T) (scopes : HasScopes T) (in_scope : InScope T) where
  pub let_clean : (p : ℕ) (above : Word) → Place T p → word_at T p ≡ Some above → holds above word.Let ≡ true → (k : ℕ) (decl : LetDecl) → AllowedLet decl →
      CleanKid T p let_events (uses_none {A = LetDecl}) k decl
  unfolding xmlns_prefix word_of
  let_clean p above place is held k decl ok up kid items same =
      let attributes : List (List ℕ × Option (List ℕ)) = (codes "name", Some decl.name) ∷ (codes "value", Some decl.value) ∷ [] in
      let r = read_element T formed ways walks scopes in_scope p k (codes "let") attributes [] place up kid items holds_nil refl same in
      let sound = sound_inside T formed ordered ways walks scopes in_scope k (codes "let") attributes [] word.Let above r (record { parent = p; up = up; word = is }) r.word
      (record { held = held; no_schema = refl; concrete = refl; all_given = refl }) (name_form decl.name ok, (refl, tt)) refl refl in
      clean_element T formed ordered ways walks scopes in_scope k word.Let [] [] r.place sound r.word refl (clean_empty T formed ordered ways walks scopes in_scope k items r.kids)

  pub ns_clean : (p : ℕ) → Place T p → word_at T p ≡ Some word.Schema → (k : ℕ) (ns : Ns) → AllowedNs ns → CleanKid T p ns_events ns_names k ns
  unfolding xmlns_prefix word_of
  ns_clean p place is k ns ok up kid items same =
      let attributes : List (List ℕ × Option (List ℕ)) = (codes "prefix", Some ns.prefix) ∷ (codes "uri", Some ns.uri) ∷ [] in
      let r = read_element T formed ways walks scopes in_scope p k (codes "ns") attributes [] place up kid items holds_nil refl same in
      let prefix : has_bad_form T k word.Ns (codes "prefix") ns.prefix ≡ false =
      ap (λ (b : Bool). not b || is_bad_binding ns.prefix (option_map_or (λ (value : List ℕ). value) (said_at T k (codes "uri")) [])) ok.prefix
      ∙ ap (λ (v : Option (List ℕ)). is_bad_binding ns.prefix (option_map_or (λ (value : List ℕ). value) v [])) (r.says (codes "uri"))
      ∙ ok.binding in
      let uri : has_bad_form T k word.Ns (codes "uri") ns.uri ≡ false = ap (λ (b : Bool). b || false) (some-uri ns.uri ok.uri) in
      let sound = sound_inside T formed ordered ways walks scopes in_scope k (codes "ns") attributes [] word.Ns word.Schema r (record { parent = p; up = up; word = is }) r.word
      (record { held = refl; no_schema = refl; concrete = refl; all_given = refl }) (prefix, (uri, tt)) refl refl in
      clean_element T formed ordered ways walks scopes in_scope k word.Ns (ns_names ns) [] r.place sound r.word (ap (keys_for named.Prefix 0) (r.says (codes "prefix")))
      (clean_empty T formed ordered ways walks scopes in_scope k items r.kids)

  pub active_clean : (p : ℕ) → Place T p → word_at T p ≡ Some word.Phase → (k : ℕ) (active : Active) → Unit {0} → CleanKid T p active_events (uses_none {A = Active}) k active
  unfolding xmlns_prefix word_of
  active_clean p place is k active ok up kid items same =
      let attributes : List (List ℕ × Option (List ℕ)) = (codes "pattern", Some active.pattern) ∷ [] in
      let r = read_element T formed ways walks scopes in_scope p k (codes "active") attributes [] place up kid items holds_nil refl same in
      let sound = sound_inside T formed ordered ways walks scopes in_scope k (codes "active") attributes [] word.Active word.Phase r (record { parent = p; up = up; word = is }) r.word
      (record { held = refl; no_schema = refl; concrete = refl; all_given = refl }) (refl, tt) refl refl in
      clean_element T formed ordered ways walks scopes in_scope k word.Active [] [] r.place sound r.word refl (clean_empty T formed ordered ways walks scopes in_scope k items r.kids)

  pub phase_clean : (p : ℕ) → Place T p → word_at T p ≡ Some word.Schema → (k : ℕ) (phase : Phase) → AllowedPhase phase → CleanKid T p phase_events phase_names k phase
  unfolding xmlns_prefix word_of
  phase_clean p place is k phase ok up kid items same =
      let attributes : List (List ℕ × Option (List ℕ)) = (codes "id", Some phase.id) ∷ [] in
      let lets = flat_map let_events phase.lets in
      let actives = flat_map active_events phase.active in
      let r = read_element T formed ways walks scopes in_scope p k (codes "phase") attributes (lets ++ actives) place up kid items
      (holds_append lets actives (holds_all let_events let_chunk phase.lets) (holds_all active_events active_chunk phase.active)) refl same in
      let t1 = take_pairs T let_events let_chunk (kids_of T k) items phase.lets (said actives) (r.kids ∙ said_append lets actives) in
      let t2 = take_pairs T active_events active_chunk t1.back t1.items phase.active [] (t1.left ∙ sym (append-nil (said actives))) in
      let are : kids_of T k ≡ t1.front ++ t2.front =
      t1.parts ∙ ap (λ l. t1.front ++ l) (t2.parts ∙ ap (λ l. t2.front ++ l) (none_left T t2.back t2.items t2.left) ∙ append-nil t2.front) in
      let split = kids_parts T k t1.front t2.front (subst (AreKids T k) are (are_kids T formed ways walks scopes in_scope k)) in
      let first = clean_quiet T AllowedLet let_events k (let_clean k word.Phase r.place r.word refl) t1.front phase.lets ok.lets split.0 t1.pairs in
      let last = clean_quiet T (λ (x : Active). Unit {0}) active_events k (active_clean k r.place r.word) t2.front phase.active (no_rule phase.active) split.1 t2.pairs in
      let sound = sound_inside T formed ordered ways walks scopes in_scope k (codes "phase") attributes (lets ++ actives) word.Phase word.Schema r (record { parent = p; up = up; word = is }) r.word
      (record { held = refl; no_schema = refl; concrete = refl; all_given = refl }) (name_form phase.id ok.id, tt) refl refl in
      clean_element T formed ordered ways walks scopes in_scope k word.Phase (phase_names phase) [] r.place sound r.word (ap (keys_for named.Phase 0) (r.says (codes "id")))
      (subst (λ l. Clean T l []) (sym (below_parts T (kids_of T k) t1.front t2.front are)) (clean_append T (flat_map (below T) t1.front) (flat_map (below T) t2.front) [] [] first last))

  -- a text
  pub text_clean : (p k : ℕ) (byte : ℕ) (characters : List ℕ) → Place T p → parent_of T k ≡ Some p → can_be_kid (kind_of T k) ≡ true →
      told T k ≡ said (part_events (Chars (byte ∷ characters))) → Clean T (below T k) []
  text_clean p k byte characters place up kid same =
      let content = text_node T formed ordered ways walks scopes in_scope k (byte ∷ characters) (content_of T k) refl same kid in
      subst (λ l. Clean T l []) (sym (below_text T formed ordered ways walks scopes in_scope k (byte ∷ characters) content))
      (plain_node T k (counts_under T formed ordered ways walks scopes in_scope p k place up) (ap element_name content))

  -- a part of a message
  pub part_clean : (p : ℕ) (above : Word) → Place T p → word_at T p ≡ Some above → holds above word.ValueOf ≡ true → holds above word.Name ≡ true →
      (k : ℕ) (part : Part) → is_some_part part ≡ true → CleanKid T p part_events (uses_none {A = Part}) k part
  unfolding xmlns_prefix word_of
  part_clean p above place is value name k (Chars []) some up kid items same = absurd (cc)
  part_clean p above place is value name k (Chars (byte ∷ characters)) some up kid items same = text_clean p k byte characters place up kid same
  part_clean p above place is value name k (ValueOf node select) some up kid items same =
      let attributes : List (List ℕ × Option (List ℕ)) = (codes "select", Some select) ∷ [] in
      let r = read_element T formed ways walks scopes in_scope p k (codes "value-of") attributes [] place up kid items holds_nil refl same in
      let sound = sound_inside T formed ordered ways walks scopes in_scope k (codes "value-of") attributes [] word.ValueOf above r (record { parent = p; up = up; word = is }) r.word
      (record { held = value; no_schema = refl; concrete = refl; all_given = refl }) (refl, tt) refl refl in
      clean_element T formed ordered ways walks scopes in_scope k word.ValueOf [] [] r.place sound r.word refl (clean_empty T formed ordered ways walks scopes in_scope k items r.kids)
  part_clean p above place is value name k (Name node path) some up kid items same =
      let attributes : List (List ℕ × Option (List ℕ)) = (codes "path", path) ∷ [] in
      let r = read_element T formed ways walks scopes in_scope p k (codes "name") attributes [] place up kid items holds_nil refl same in
      let sound = sound_inside T formed ordered ways walks scopes in_scope k (codes "name") attributes [] word.Name above r (record { parent = p; up = up; word = is }) r.word
      (record { held = name; no_schema = refl; concrete = refl; all_given = refl }) (free_form T k word.Name (codes "path") (λ value. refl) path, tt) refl refl in
      clean_element T formed ordered ways walks scopes in_scope k word.Name [] [] r.place sound r.word refl (clean_empty T formed ordered ways walks scopes in_scope k items r.kids)

  -- what an element with a message holds
  pub message_clean : (n : ℕ) (w : Word) (local : List ℕ) (attributes : List (List ℕ × Option (List ℕ))) (message : List Part) →
      Read T n local attributes (flat_map part_events message) → word_at T n ≡ Some w → holds w word.ValueOf ≡ true → holds w word.Name ≡ true →
      list_all is_some_part message ≡ true → Clean T (flat_map (below T) (kids_of T n)) []
  message_clean n w local attributes message r is value name some =
      let items = kid_items T formed ways walks scopes in_scope n in
      let taken = take_if T part_events is_some_part part_chunk (kids_of T n) items message some [] (r.kids ∙ sym (append-nil (said (flat_map part_events message)))) in
      let are : kids_of T n ≡ taken.front = taken.parts ∙ ap (λ l. taken.front ++ l) (none_left T taken.back taken.items taken.left) ∙ append-nil taken.front in
      subst (λ l. Clean T (flat_map (below T) l) []) (sym are)
      (clean_quiet T (λ (x : Part). is_some_part x ≡ true) part_events n (part_clean n w r.place is value name) taken.front message (each_true is_some_part message some)
      (subst (AreKids T n) are (are_kids T formed ways walks scopes in_scope n)) taken.pairs)
