-- The names that are read of a document that breaks no rule have their forms.
use Rattle.std.proofs.Common.{◌≡◌, ℕ, Bool, true, false, not, ◌||◌, cond, List, [], ◌∷◌, ◌++◌, Option, None, Some, refl}
use Rattle.std.specs.List.{flat_map}
use Rattle.std.specs.Option.{option_to_list}
use Rattle.std.specs.Prelude.{codes}
use Rattle.std.specs.Str.{bytes_eq}
use Rattle.doc_table.proofs.ListLemmas.{mem-head, mem-tail}
use Rattle.doc_tree.specs.Laws.{HasWaysUp, Ordered, WellFormed}
use Rattle.doc_tree.specs.Lists.{mem}
use Rattle.doc_tree.specs.Table.{Table, kids_of}
use Rattle.sch_base.specs.Names.{is_ncname}
use Rattle.sch_model.specs.declared.raw.RawItem.{RawItem}
use Rattle.sch_model.specs.declared.raw.RawItem.TheVariants as item
use Rattle.sch_model.specs.declared.raw.RawPattern.{RawPattern}
use Rattle.sch_model.specs.declared.raw.RawRule.{RawRule}
use Rattle.sch_model.specs.declared.raw.RawSchema.{RawSchema}
use Rattle.sch_rules.specs.declared.word.Word.{Word}
use Rattle.sch_rules.specs.declared.word.Word.TheVariants as word
use Rattle.sch_rules.specs.Attributes.{said, said_text}
use Rattle.sch_rules.specs.Elements.{word_at}
use Rattle.sch_rules.specs.FirstBroken.{first_broken}
use Rattle.sch_rules.specs.Rules.{is_bad_binding}
use Rattle.sch_rules.specs.RawSchema.{diagnostic_of, item_at, item_of, let_of, notes_at, ns_of, pattern_of, phase_of, read_if, read_kids, rule_of}
use Rattle.sch_rules.specs.Words.{is_word}
use Rattle.sch_references.specs.Extends.{abstract_rules}
use Rattle.sch_expansion.specs.Flat.{flat_schema, let_in, let_with, rule_with}
use Rattle.sch_flat_laws.specs.Readable.{Each}
use Rattle.sch_flat_laws.specs.Allowed.{AllowedDiagnostic, AllowedLet, AllowedNs, AllowedPattern, AllowedPhase, AllowedRule, IsName}
use Rattle.sch_flat_laws.proofs.Reading.Notes.{Notes, diagnostics, group_of, note_of, properties}
use Rattle.sch_flat_laws.proofs.Rules.Counting.{Counted, held, kid_counted}
use Rattle.sch_flat_laws.proofs.Rules.KeyLemmas.{or_parts}
use Rattle.sch_flat_laws.proofs.Rules.Saying.{form_said, present}
use Rattle.sch_flat_laws.proofs.Rules.Sound.{each_append}
use Rattle.sch_flat_laws.proofs.Rules.Standing.{HoldsIn, abstract_hold, each_map, each_to, lets_hold, patterns_hold, rules_hold}
use Rattle.sch_flat_laws.proofs.Rules.Unbroken.{Held}
use Rattle.sch_flat_laws.proofs.Rules.WordLemmas.{the_word}

not-not : (b : Bool) → not b ≡ false → b ≡ true
not-not true h = refl
not-not false h = absurd (cc)

-- a text of this form is an NCName
named-by : (b rest : Bool) → (not b || rest) ≡ false → b ≡ true
named-by b rest h = not-not b (or_parts (not b) rest h).0

some-text : (text : List ℕ) → bytes_eq text [] ≡ false → text ≡ [] → ⊥
some-text [] h e = cc
some-text (byte ∷ text) h e = cc

-- an item and a pattern whose names have their forms
abbrev AllowedItem : RawItem → Type 0
AllowedItem (item.Let decl) = AllowedLet decl
AllowedItem (item.Assertion assertion) = Unit {0}
AllowedItem (item.Extends node name) = Unit {0}

pub record AllowedRaw (pattern : RawPattern) : Type 0 where
  pub id : Each IsName (option_to_list pattern.id)
  pub lets : Each AllowedLet pattern.lets
  pub rules : Each (HoldsIn AllowedItem) pattern.rules

rule-stands : (change : List ℕ → List ℕ) (rule : RawRule) (items : List RawItem) → HoldsIn AllowedItem rule → Each AllowedItem items → AllowedRule (rule_with change rule items)
rule-stands change rule items own h = each_map AllowedLet (let_with change) (flat_map let_in items) (lets_hold AllowedItem AllowedLet (λ decl is. is) items h)

pub patterns_stand : (schema : RawSchema) → Each AllowedRaw schema.patterns → Each AllowedPattern (flat_schema schema).patterns
patterns_stand schema each =
    let rules = abstract_hold AllowedItem schema (each_to AllowedRaw (λ (pattern : RawPattern). Each (HoldsIn AllowedItem) pattern.rules) (λ pattern h. h.rules) schema.patterns each) in
    patterns_hold schema AllowedRaw AllowedPattern (λ change. Unit {0})
    (λ change pattern origin any own its. record {
      id = own.id;
      lets = each_map AllowedLet (let_with change) origin.lets its.lets;
      rules = rules_hold AllowedItem (abstract_rules schema) rules change (HoldsIn AllowedItem) AllowedRule (λ rule h. h) (rule-stands change) origin.rules its.rules;
    })
    (λ pattern own. record { id = own.id; lets = tt; rules = tt }) tt (λ pattern own. tt) each

module _ (T : Table) (formed : WellFormed T) (ordered : Ordered T) (ways : HasWaysUp T) (none : first_broken T ≡ None) where
  at : (k : ℕ) (w : Word) → Counted T k → word_at T k ≡ Some w → Held T k (Some w)
  at k w counted is = held T formed ordered ways none k w counted.live counted.counts is

  -- what is read of each kid
  pub each_kid : {A : Type 0} (w : Word) (read : ℕ → A) (P : A → Type 0) (n : ℕ) → Counted T n → ((k : ℕ) → Counted T k → word_at T k ≡ Some w → P (read k)) →
      (ks : List ℕ) → ((k : ℕ) → mem k ks ≡ true → mem k (kids_of T n) ≡ true) → Each P (flat_map (read_if T w read) ks)
  each_kid w read P n counted each [] within = tt
  each_kid w read P n counted each (k ∷ ks) within = by (is_word w (word_at T k)) refl (each_kid w read P n counted each ks (λ j h. within j (mem-tail j k ks h)))
    where
      by : (b : Bool) → is_word w (word_at T k) ≡ b → Each P (flat_map (read_if T w read) ks) → Each P (cond b (read k ∷ []) [] ++ flat_map (read_if T w read) ks)
      by true e rest =
          let is = the_word w (word_at T k) e in
          (each k (kid_counted T formed ordered ways none n k w counted (within k (mem-head k ks)) is) is, rest)
      by false e rest = rest

  let-allowed : (k : ℕ) → Counted T k → word_at T k ≡ Some word.Let → AllowedLet (let_of T k)
  let-allowed k counted is =
      let h = at k word.Let counted is in
      let name = present T k (codes "name") (codes "value" ∷ []) h.given in
      named-by _ false (form_said T k word.Let (codes "name") (said_text T k (codes "name")) h.formed name.says)

  pub lets_allowed : (n : ℕ) → Counted T n → Each AllowedLet (read_kids T word.Let (let_of T) n)
  lets_allowed n counted = each_kid word.Let (let_of T) AllowedLet n counted let-allowed (kids_of T n) (λ k h. h)

  ns-allowed : (k : ℕ) → Counted T k → word_at T k ≡ Some word.Ns → AllowedNs (ns_of T k)
  ns-allowed k counted is =
      let h = at k word.Ns counted is in
      let prefix = present T k (codes "prefix") (codes "uri" ∷ []) h.given in
      let uri = present T k (codes "uri") [] prefix.others in
      let form = form_said T k word.Ns (codes "prefix") (said_text T k (codes "prefix")) h.formed prefix.says in
      let bound = is_bad_binding (said_text T k (codes "prefix")) (said_text T k (codes "uri")) in
      let namespace = form_said T k word.Ns (codes "uri") (said_text T k (codes "uri")) h.formed uri.says in
      record {
        prefix = named-by (is_ncname (said_text T k (codes "prefix"))) bound form;
        uri = some-text (said_text T k (codes "uri")) (or_parts (bytes_eq (said_text T k (codes "uri")) []) false namespace).0;
        binding = (or_parts (not (is_ncname (said_text T k (codes "prefix")))) bound form).1;
      }

  pub ns_allowed : (n : ℕ) → Counted T n → Each AllowedNs (read_kids T word.Ns (ns_of T) n)
  ns_allowed n counted = each_kid word.Ns (ns_of T) AllowedNs n counted ns-allowed (kids_of T n) (λ k h. h)

  phase-allowed : (k : ℕ) → Counted T k → word_at T k ≡ Some word.Phase → AllowedPhase (phase_of T k)
  phase-allowed k counted is =
      let h = at k word.Phase counted is in
      let id = present T k (codes "id") [] h.given in
      record {
        id = named-by _ false (form_said T k word.Phase (codes "id") (said_text T k (codes "id")) h.formed id.says);
        lets = lets_allowed k counted;
      }

  pub phases_allowed : (n : ℕ) → Counted T n → Each AllowedPhase (read_kids T word.Phase (phase_of T) n)
  phases_allowed n counted = each_kid word.Phase (phase_of T) AllowedPhase n counted phase-allowed (kids_of T n) (λ k h. h)

  -- the lets of a rule
  item-allowed : (k : ℕ) (w : Option Word) → (word_at T k ≡ w) → (word_at T k ≡ Some word.Let → AllowedLet (let_of T k)) → Each AllowedItem (item_of T k w)
  item-allowed k (Some word.Let) is allowed = (allowed is, tt)
  item-allowed k (Some word.Assert) is allowed = (tt, tt)
  item-allowed k (Some word.Report) is allowed = (tt, tt)
  item-allowed k (Some word.Extends) is allowed = (tt, tt)
  item-allowed k _ is allowed = tt

  items-allowed : (n : ℕ) → Counted T n → (ks : List ℕ) → ((k : ℕ) → mem k ks ≡ true → mem k (kids_of T n) ≡ true) → Each AllowedItem (flat_map (item_at T) ks)
  items-allowed n counted [] within = tt
  items-allowed n counted (k ∷ ks) within =
      each_append AllowedItem (item_at T k) (flat_map (item_at T) ks)
      (item-allowed k (word_at T k) refl (λ is. let-allowed k (kid_counted T formed ordered ways none n k word.Let counted (within k (mem-head k ks)) is) is))
      (items-allowed n counted ks (λ j h. within j (mem-tail j k ks h)))

  rule-allowed : (k : ℕ) → Counted T k → word_at T k ≡ Some word.Rule → HoldsIn AllowedItem (rule_of T k)
  rule-allowed k counted is = items-allowed k counted (kids_of T k) (λ j h. h)

  pattern-allowed : (k : ℕ) → Counted T k → word_at T k ≡ Some word.Pattern → AllowedRaw (pattern_of T k)
  pattern-allowed k counted is =
      let h = at k word.Pattern counted is in
      record {
        id = by (said T k (codes "id")) (λ value says. named-by _ false (form_said T k word.Pattern (codes "id") value h.formed says));
        lets = lets_allowed k counted;
        rules = each_kid word.Rule (rule_of T) (HoldsIn AllowedItem) k counted rule-allowed (kids_of T k) (λ j h. h);
      }
    where
      by : (id : Option (List ℕ)) → ((value : List ℕ) → id ≡ Some value → IsName value) → Each IsName (option_to_list id)
      by None name = tt
      by (Some value) name = (name value refl, tt)

  pub patterns_allowed : (n : ℕ) → Counted T n → Each AllowedRaw (read_kids T word.Pattern (pattern_of T) n)
  patterns_allowed n counted = each_kid word.Pattern (pattern_of T) AllowedRaw n counted pattern-allowed (kids_of T n) (λ j h. h)

  note-allowed : (kind : Notes) (k : ℕ) → Counted T k → word_at T k ≡ Some (note_of kind) → AllowedDiagnostic (diagnostic_of T k)
  note-allowed diagnostics k counted is =
      let h = at k word.Diagnostic counted is in
      let id = present T k (codes "id") [] h.given in
      named-by _ false (form_said T k word.Diagnostic (codes "id") (said_text T k (codes "id")) h.formed id.says)
  note-allowed properties k counted is =
      let h = at k word.Property counted is in
      let id = present T k (codes "id") [] h.given in
      named-by _ false (form_said T k word.Property (codes "id") (said_text T k (codes "id")) h.formed id.says)

  notes-in : (kind : Notes) (n : ℕ) → Counted T n → (ks : List ℕ) → ((k : ℕ) → mem k ks ≡ true → mem k (kids_of T n) ≡ true) →
      Each AllowedDiagnostic (flat_map (notes_at T (group_of kind) (note_of kind)) ks)
  notes-in kind n counted [] within = tt
  notes-in kind n counted (k ∷ ks) within =
      each_append AllowedDiagnostic (notes_at T (group_of kind) (note_of kind) k) (flat_map (notes_at T (group_of kind) (note_of kind)) ks) (by (is_word (group_of kind) (word_at T k)) refl)
      (notes-in kind n counted ks (λ j h. within j (mem-tail j k ks h)))
    where
      by : (b : Bool) → is_word (group_of kind) (word_at T k) ≡ b → Each AllowedDiagnostic (cond b (read_kids T (note_of kind) (diagnostic_of T) k) [])
      by true e =
          let is = the_word (group_of kind) (word_at T k) e in
          each_kid (note_of kind) (diagnostic_of T) AllowedDiagnostic k (kid_counted T formed ordered ways none n k (group_of kind) counted (within k (mem-head k ks)) is) (note-allowed kind) (kids_of T k) (λ j h. h)
      by false e = tt

  pub notes_allowed : (kind : Notes) (n : ℕ) → Counted T n → Each AllowedDiagnostic (flat_map (notes_at T (group_of kind) (note_of kind)) (kids_of T n))
  notes_allowed kind n counted = notes-in kind n counted (kids_of T n) (λ k h. h)
