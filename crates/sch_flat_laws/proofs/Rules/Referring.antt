-- References that name what is there, in a schema, in its expansion, and in what is read of its document.
use Rattle.std.proofs.Common.{◌≡◌, ℕ, Bool, true, false, not, ◌||◌, cond, List, [], ◌∷◌, ◌++◌, Option, None, Some, map, refl, sym, ap, ap₂, ◌∙◌, subst}
use Rattle.std.specs.List.{flat_map}
use Rattle.std.specs.Option.{option_to_list}
use Rattle.std.specs.Prelude.{codes, filter}
use Rattle.std.specs.Str.{bytes_eq}
use Rattle.sch_model.specs.Placeless.{placeless_active, placeless_diagnostic, placeless_item, placeless_pattern, placeless_phase, placeless_rule, placeless_schema}
use Rattle.sch_model.specs.declared.fault.SchemaFault.{SchemaFault}
use Rattle.sch_model.specs.declared.flat.FlatPattern.{FlatPattern}
use Rattle.sch_model.specs.declared.flat.FlatRule.{FlatRule}
use Rattle.sch_model.specs.declared.parts.Active.{Active}
use Rattle.sch_model.specs.declared.parts.Assertion.{Assertion}
use Rattle.sch_model.specs.declared.parts.Diagnostic.{Diagnostic}
use Rattle.sch_model.specs.declared.parts.LetDecl.{LetDecl}
use Rattle.sch_model.specs.declared.parts.Phase.{Phase}
use Rattle.sch_model.specs.declared.raw.RawItem.{RawItem}
use Rattle.sch_model.specs.declared.raw.RawItem.TheVariants as item
use Rattle.sch_model.specs.declared.raw.RawPattern.{RawPattern}
use Rattle.sch_model.specs.declared.raw.RawRule.{RawRule}
use Rattle.sch_model.specs.declared.raw.RawSchema.{RawSchema}
use Rattle.sch_rules.specs.FirstBroken.{least}
use Rattle.sch_rules.specs.Rules.{name_if}
use Rattle.sch_references.specs.Extends.{abstract_rules}
use Rattle.sch_references.specs.Places.{Place, earlier, first_among, precedes}
use Rattle.sch_references.specs.References.{Known, active_place, concrete_id, first_unknown, is_among, item_places, known_in, pattern_places, phase_places, reference_places, rule_places, unknown_origin, unknown_phase}
use Rattle.sch_expansion.specs.Flat.{assertion_with, flat_pattern, flat_schema}
use Rattle.sch_flat_laws.specs.Expansion.{raw_of, raw_pattern, raw_rule}
use Rattle.sch_flat_laws.specs.Readable.{Each}
use Rattle.sch_flat_laws.proofs.Rules.Forgotten.{same_over}
use Rattle.sch_flat_laws.proofs.Rules.Sound.{each_append, least_none}
use Rattle.sch_flat_laws.proofs.Rules.Standing.{HoldsIn, abstract_hold, assertions_hold, each_map, each_over, each_to, flat_id, patterns_hold, rules_hold}
use Rattle.sch_flat_laws.proofs.Rules.Unbroken.{each_none}

-- no rule of a place is broken
abbrev pub NoneGiven : List (ℕ × Option (List ℕ)) → Type 0
NoneGiven rules = Each (λ (r : ℕ × Option (List ℕ)). r.1 ≡ None) rules

abbrev Unbroken : Place → Type 0
Unbroken place = NoneGiven place.rules

earlier-none : (a b : Option SchemaFault) → earlier a b ≡ None → (a ≡ None) × (b ≡ None)
earlier-none None b h = (refl, h)
earlier-none (Some f) None h = absurd (cc)
earlier-none (Some f) (Some g) h = by (precedes g f) h
  where
    by : (b : Bool) → cond b (Some g) (Some f) ≡ None → (Some f ≡ None) × (Some g ≡ None)
    by true h = absurd (cc)
    by false h = absurd (cc)

pub none_given : (places : List Place) → first_among places ≡ None → Each (λ (place : Place). NoneGiven place.rules) places
none_given [] h = tt
none_given (place ∷ places) h =
    let parts = earlier-none (least place.node place.rules) (first_among places) h in
    (each_none place.node place.rules parts.0, none_given places parts.1)

pub none_among : (places : List Place) → Each (λ (place : Place). NoneGiven place.rules) places → first_among places ≡ None
none_among [] h = refl
none_among (place ∷ places) h = ap₂ earlier (least_none place.node place.rules h.0) (none_among places h.1)

pub names_over : {A B : Type 0} (f : A → List ℕ) (g : B → List ℕ) (forget : B → A) → ((x : B) → f (forget x) ≡ g x) → (xs : List B) → map f (map forget xs) ≡ map g xs
names_over f g forget same [] = refl
names_over f g forget same (x ∷ xs) = ap₂ (λ l m. l ∷ m) (same x) (names_over f g forget same xs)

-- what holds of each, part by part
pub forget_each : {A : Type 0} (P : A → Type 0) (forget : A → A) → ((x : A) → P x → P (forget x)) → (xs : List A) → Each P xs → Each P (map forget xs)
forget_each P forget to [] h = tt
forget_each P forget to (x ∷ xs) h = (to x h.0, forget_each P forget to xs h.1)

pub recall_each : {A : Type 0} (P : A → Type 0) (forget : A → A) → ((x : A) → P (forget x) → P x) → (xs : List A) → Each P (map forget xs) → Each P xs
recall_each P forget from [] h = tt
recall_each P forget from (x ∷ xs) h = (from x h.0, recall_each P forget from xs h.1)

each-parts : {A : Type 0} (P : A → Type 0) (xs ys : List A) → Each P (xs ++ ys) → Each P xs × Each P ys
each-parts P [] ys h = (tt, h)
each-parts P (x ∷ xs) ys h = let rest = each-parts P xs ys h.1 in ((h.0, rest.0), rest.1)

each-apart : {A B : Type 0} (P : B → Type 0) (f : A → List B) (xs : List A) → Each P (flat_map f xs) → Each (λ (x : A). Each P (f x)) xs
each-apart P f [] h = tt
each-apart P f (x ∷ xs) h = let parts = each-parts P (f x) (flat_map f xs) h in (parts.0, each-apart P f xs parts.1)

each-behind : {A B : Type 0} (P : B → Type 0) (f : A → B) (xs : List A) → Each P (map f xs) → Each (λ (x : A). P (f x)) xs
each-behind P f [] h = tt
each-behind P f (x ∷ xs) h = (h.0, each-behind P f xs h.1)

-- names of what is there
abbrev IsThere : List (List ℕ) → List ℕ → Type 0
IsThere ids name = is_among ids name ≡ true

unnamed : (b : Bool) (name : List ℕ) → name_if (not b) name ≡ None → b ≡ true
unnamed true name h = refl
unnamed false name h = absurd (cc)

named : (b : Bool) (name : List ℕ) → b ≡ true → name_if (not b) name ≡ None
named true name h = refl
named false name h = absurd (cc)

-- a default phase that is all patterns, or there
abbrev PhaseIsThere : List (List ℕ) → Option (List ℕ) → Type 0
PhaseIsThere ids None = Unit {0}
PhaseIsThere ids (Some name) = (bytes_eq name (codes "#ALL") || is_among ids name) ≡ true

-- the ids of diagnostics, and those of properties
abbrev NoteIds : Type 0
NoteIds = List (List ℕ) × List (List ℕ)

abbrev NamesThere : NoteIds → Assertion → Type 0
NamesThere ids a = Each (IsThere ids.0) a.diagnostics × Each (IsThere ids.1) a.properties

abbrev ItemRefers : NoteIds → RawItem → Type 0
ItemRefers ids (item.Let decl) = Unit {0}
ItemRefers ids (item.Assertion a) = NamesThere ids a
ItemRefers ids (item.Extends node name) = Unit {0}

-- the same where nothing is extended
abbrev PlainRefers : NoteIds → RawItem → Type 0
PlainRefers ids (item.Let decl) = Unit {0}
PlainRefers ids (item.Assertion a) = NamesThere ids a
PlainRefers ids (item.Extends node name) = ⊥

record PatternRefers (ids : NoteIds) (pattern : RawPattern) : Type 0 where
  origin : pattern.is_a ≡ None
  rules : Each (HoldsIn (PlainRefers ids)) pattern.rules

abbrev ActiveRefers : List (List ℕ) → Phase → Type 0
ActiveRefers ids phase = Each (λ (a : Active). IsThere ids a.pattern) phase.active

-- a schema without instances and `extends` that refers to these ids of phases, patterns, diagnostics and properties alone
record RefersTo (phases actives : List (List ℕ)) (notes : NoteIds) (schema : RawSchema) : Type 0 where
  head : PhaseIsThere phases schema.head.default_phase
  active : Each (ActiveRefers actives) schema.phases
  patterns : Each (PatternRefers notes) schema.patterns

abbrev phase-ids : RawSchema → List (List ℕ)
phase-ids schema = map (λ (phase : Phase). phase.id) schema.phases

abbrev pattern-ids : RawSchema → List (List ℕ)
pattern-ids schema = flat_map concrete_id schema.patterns

abbrev ids-of : List Diagnostic → List (List ℕ)
ids-of notes = map (λ (note : Diagnostic). note.id) notes

abbrev note-ids : RawSchema → NoteIds
note-ids schema = (ids-of schema.diagnostics, ids-of schema.properties)

pub record Referred (schema : RawSchema) : Type 0 where
  to : RefersTo (phase-ids schema) (pattern-ids schema) (note-ids schema) schema

names-known : (ids names : List (List ℕ)) → Each (IsThere ids) names → first_unknown (is_among ids) names ≡ None
names-known ids [] h = refl
names-known ids (name ∷ names) h = ap (λ (b : Bool). cond b (first_unknown (is_among ids) names) (Some name)) h.0 ∙ names-known ids names h.1

names-there : (ids names : List (List ℕ)) → first_unknown (is_among ids) names ≡ None → Each (IsThere ids) names
names-there ids [] h = tt
names-there ids (name ∷ names) h = by (is_among ids name) refl h (λ k. names-there ids names k)
  where
    by : (b : Bool) → is_among ids name ≡ b → cond b (first_unknown (is_among ids) names) (Some name) ≡ None →
        (first_unknown (is_among ids) names ≡ None → Each (IsThere ids) names) → Each (IsThere ids) (name ∷ names)
    by true e h rest = (e, rest h)
    by false e h rest = absurd (cc)

-- such a schema breaks no rule on its references
module _ (schema : RawSchema) where
  abbrev known : Known
  known = known_in schema

  phase-known : (name : Option (List ℕ)) → PhaseIsThere (phase-ids schema) name → unknown_phase known name ≡ None
  phase-known None h = refl
  phase-known (Some name) h = by (bytes_eq name (codes "#ALL")) (is_among (phase-ids schema) name) h
    where
      by : (b there : Bool) → (b || there) ≡ true → cond b None (name_if (not there) name) ≡ None
      by true there h = refl
      by false there h = named there name h

  item-known : (rules : List RawRule) (rule : RawRule) (x : RawItem) → PlainRefers (note-ids schema) x → Each Unbroken (item_places known rules rule x)
  item-known rules rule (item.Let decl) h = tt
  item-known rules rule (item.Assertion a) h = ((names-known (ids-of schema.diagnostics) a.diagnostics h.0, (names-known (ids-of schema.properties) a.properties h.1, tt)), tt)
  item-known rules rule (item.Extends node name) h = absurd h

  rule-known : (rules : List RawRule) (rule : RawRule) → HoldsIn (PlainRefers (note-ids schema)) rule → Each Unbroken (rule_places known rules rule)
  rule-known rules rule h =
      each_over Unbroken (item_places known rules rule) rule.items
      (each_to (PlainRefers (note-ids schema)) (λ (x : RawItem). Each Unbroken (item_places known rules rule x)) (item-known rules rule) rule.items h)

  pattern-known : (rules : List RawRule) (pattern : RawPattern) → PatternRefers (note-ids schema) pattern → Each Unbroken (pattern_places known rules pattern)
  pattern-known rules pattern h = (
    (ap (unknown_origin known) h.origin, tt),
    each_over Unbroken (rule_places known rules) pattern.rules
        (each_to (HoldsIn (PlainRefers (note-ids schema))) (λ (rule : RawRule). Each Unbroken (rule_places known rules rule)) (rule-known rules) pattern.rules h.rules),
  )

  active-known : (a : Active) → IsThere (pattern-ids schema) a.pattern → Unbroken (active_place known a)
  active-known a h = (named (is_among (pattern-ids schema) a.pattern) a.pattern h, tt)

  phase-kept : (phase : Phase) → ActiveRefers (pattern-ids schema) phase → Each Unbroken (phase_places known phase)
  phase-kept phase h =
      each_map Unbroken (active_place known) phase.active
      (each_to (λ (a : Active). IsThere (pattern-ids schema) a.pattern) (λ (a : Active). Unbroken (active_place known a)) active-known phase.active h)

  pub referred_none : Referred schema → first_among (reference_places schema) ≡ None
  referred_none h =
      none_among (reference_places schema) (
        (phase-known schema.head.default_phase h.to.head, tt),
        each_append Unbroken (flat_map (phase_places known) schema.phases) (flat_map (pattern_places known (abstract_rules schema)) schema.patterns)
            (each_over Unbroken (phase_places known) schema.phases
            (each_to (ActiveRefers (pattern-ids schema)) (λ (phase : Phase). Each Unbroken (phase_places known phase)) phase-kept schema.phases h.to.active))
            (each_over Unbroken (pattern_places known (abstract_rules schema)) schema.patterns
            (each_to (PatternRefers (note-ids schema)) (λ (pattern : RawPattern). Each Unbroken (pattern_places known (abstract_rules schema) pattern)) (pattern-known (abstract_rules schema)) schema.patterns h.to.patterns)),
      )

-- what a schema refers to where it breaks no rule on its references
module _ (schema : RawSchema) where
  abbrev known-here : Known
  known-here = known_in schema

  phase-there : (name : Option (List ℕ)) → unknown_phase known-here name ≡ None → PhaseIsThere (phase-ids schema) name
  phase-there None h = tt
  phase-there (Some name) h = by (bytes_eq name (codes "#ALL")) (is_among (phase-ids schema) name) h
    where
      by : (b there : Bool) → cond b None (name_if (not there) name) ≡ None → (b || there) ≡ true
      by true there h = refl
      by false there h = unnamed there name h

  item-there : (rules : List RawRule) (rule : RawRule) (x : RawItem) → Each Unbroken (item_places known-here rules rule x) → ItemRefers (note-ids schema) x
  item-there rules rule (item.Let decl) h = tt
  item-there rules rule (item.Assertion a) h = (names-there (ids-of schema.diagnostics) a.diagnostics h.0.0, names-there (ids-of schema.properties) a.properties h.0.1.0)
  item-there rules rule (item.Extends node name) h = tt

  rule-there : (rules : List RawRule) (rule : RawRule) → Each Unbroken (rule_places known-here rules rule) → HoldsIn (ItemRefers (note-ids schema)) rule
  rule-there rules rule h =
      each_to (λ (x : RawItem). Each Unbroken (item_places known-here rules rule x)) (ItemRefers (note-ids schema)) (item-there rules rule) rule.items
      (each-apart Unbroken (item_places known-here rules rule) rule.items h)

  abbrev RawRefers : RawPattern → Type 0
  RawRefers pattern = Each (HoldsIn (ItemRefers (note-ids schema))) pattern.rules

  pattern-there : (rules : List RawRule) (pattern : RawPattern) → Each Unbroken (pattern_places known-here rules pattern) → RawRefers pattern
  pattern-there rules pattern h =
      each_to (λ (rule : RawRule). Each Unbroken (rule_places known-here rules rule)) (HoldsIn (ItemRefers (note-ids schema))) (rule-there rules) pattern.rules
      (each-apart Unbroken (rule_places known-here rules) pattern.rules h.1)

  phase-refers : (phase : Phase) → Each Unbroken (phase_places known-here phase) → ActiveRefers (pattern-ids schema) phase
  phase-refers phase h =
      each_to (λ (a : Active). Unbroken (active_place known-here a)) (λ (a : Active). IsThere (pattern-ids schema) a.pattern)
      (λ a is. unnamed (is_among (pattern-ids schema) a.pattern) a.pattern is.0) phase.active
      (each-behind Unbroken (active_place known-here) phase.active h)

  -- its expansion, as its document says it
  abbrev FlatRefers : FlatPattern → Type 0
  FlatRefers pattern = Each (λ (rule : FlatRule). Each (NamesThere (note-ids schema)) rule.assertions) pattern.rules

  flat-refers : Each RawRefers schema.patterns → Each FlatRefers (flat_schema schema).patterns
  flat-refers each =
      patterns_hold schema RawRefers FlatRefers (λ change. Unit {0})
      (λ change pattern origin any own its.
      rules_hold (ItemRefers (note-ids schema)) (abstract_rules schema) (abstract_hold (ItemRefers (note-ids schema)) schema each) change (HoldsIn (ItemRefers (note-ids schema)))
      (λ (rule : FlatRule). Each (NamesThere (note-ids schema)) rule.assertions) (λ rule h. h)
      (λ rule items own h. each_map (NamesThere (note-ids schema)) (assertion_with change) _ (assertions_hold (ItemRefers (note-ids schema)) (NamesThere (note-ids schema)) (λ a is. is) items h))
      origin.rules its)
      (λ pattern own. tt) tt (λ pattern own. tt) each

  plain-lets : (lets : List LetDecl) → Each (PlainRefers (note-ids schema)) (map (λ decl. item.Let decl) lets)
  plain-lets [] = tt
  plain-lets (decl ∷ lets) = (tt, plain-lets lets)

  plain-rule : (rule : FlatRule) → Each (NamesThere (note-ids schema)) rule.assertions → HoldsIn (PlainRefers (note-ids schema)) (raw_rule rule)
  plain-rule rule h =
      each_append (PlainRefers (note-ids schema)) (map (λ decl. item.Let decl) rule.lets) (map (λ assertion. item.Assertion assertion) rule.assertions) (plain-lets rule.lets)
      (each_map (PlainRefers (note-ids schema)) (λ assertion. item.Assertion assertion) rule.assertions h)

  plain-pattern : (pattern : FlatPattern) → FlatRefers pattern → PatternRefers (note-ids schema) (raw_pattern pattern)
  plain-pattern pattern h = record {
    origin = refl;
    rules = each_map (HoldsIn (PlainRefers (note-ids schema))) raw_rule pattern.rules
        (each_to (λ (rule : FlatRule). Each (NamesThere (note-ids schema)) rule.assertions) (λ (rule : FlatRule). HoldsIn (PlainRefers (note-ids schema)) (raw_rule rule)) plain-rule pattern.rules h);
  }

  abbrev kept : List RawPattern → List RawPattern
  kept patterns = filter (λ (pattern : RawPattern). not pattern.is_abstract) patterns

  kept-ids : (patterns : List RawPattern) → flat_map concrete_id (map raw_pattern (map (flat_pattern schema) (kept patterns))) ≡ flat_map concrete_id patterns
  kept-ids [] = refl
  kept-ids (x ∷ patterns) = by x.is_abstract (kept-ids patterns)
    where
      by : (b : Bool) → flat_map concrete_id (map raw_pattern (map (flat_pattern schema) (kept patterns))) ≡ flat_map concrete_id patterns →
          flat_map concrete_id (map raw_pattern (map (flat_pattern schema) (cond (not b) (x ∷ kept patterns) (kept patterns)))) ≡ cond b [] (option_to_list x.id) ++ flat_map concrete_id patterns
      by true rest = rest
      by false rest = ap₂ (λ id l. option_to_list id ++ l) (flat_id schema x) rest

  pub referred_still : first_among (reference_places schema) ≡ None → Referred (raw_of (flat_schema schema))
  referred_still none =
      let each = none_given (reference_places schema) none in
      let rules = abstract_rules schema in
      let parts = each-parts Unbroken (flat_map (phase_places known-here) schema.phases) (flat_map (pattern_places known-here rules) schema.patterns) each.1 in
      let raw = each_to (λ (pattern : RawPattern). Each Unbroken (pattern_places known-here rules pattern)) RawRefers (pattern-there rules) schema.patterns
      (each-apart Unbroken (pattern_places known-here rules) schema.patterns parts.1) in
      record {
        to = subst (λ ids. RefersTo (phase-ids schema) ids (note-ids schema) (raw_of (flat_schema schema))) (sym (kept-ids schema.patterns)) (record {
          head = phase-there schema.head.default_phase each.0.0;
          active = each_to (λ (phase : Phase). Each Unbroken (phase_places known-here phase)) (ActiveRefers (pattern-ids schema)) phase-refers schema.phases
              (each-apart Unbroken (phase_places known-here) schema.phases parts.0);
          patterns = each_map (PatternRefers (note-ids schema)) raw_pattern (flat_schema schema).patterns
              (each_to FlatRefers (λ (pattern : FlatPattern). PatternRefers (note-ids schema) (raw_pattern pattern)) plain-pattern (flat_schema schema).patterns (flat-refers raw));
        });
      }

-- places are of no account
module _ (ids : NoteIds) where
  forget-item : (x : RawItem) → PlainRefers ids x → PlainRefers ids (placeless_item x)
  forget-item (item.Let decl) h = tt
  forget-item (item.Assertion a) h = h
  forget-item (item.Extends node name) h = h

  recall-item : (x : RawItem) → PlainRefers ids (placeless_item x) → PlainRefers ids x
  recall-item (item.Let decl) h = tt
  recall-item (item.Assertion a) h = h
  recall-item (item.Extends node name) h = h

  forget-pattern : (pattern : RawPattern) → PatternRefers ids pattern → PatternRefers ids (placeless_pattern pattern)
  forget-pattern pattern h = record {
    origin = h.origin;
    rules = forget_each (HoldsIn (PlainRefers ids)) placeless_rule (λ (rule : RawRule) is. forget_each (PlainRefers ids) placeless_item forget-item rule.items is) pattern.rules h.rules;
  }

  recall-pattern : (pattern : RawPattern) → PatternRefers ids (placeless_pattern pattern) → PatternRefers ids pattern
  recall-pattern pattern h = record {
    origin = h.origin;
    rules = recall_each (HoldsIn (PlainRefers ids)) placeless_rule (λ (rule : RawRule) is. recall_each (PlainRefers ids) placeless_item recall-item rule.items is) pattern.rules h.rules;
  }

module _ (ids : List (List ℕ)) where
  forget-phase : (phase : Phase) → ActiveRefers ids phase → ActiveRefers ids (placeless_phase phase)
  forget-phase phase h = forget_each (λ (a : Active). IsThere ids a.pattern) placeless_active (λ a is. is) phase.active h

  recall-phase : (phase : Phase) → ActiveRefers ids (placeless_phase phase) → ActiveRefers ids phase
  recall-phase phase h = recall_each (λ (a : Active). IsThere ids a.pattern) placeless_active (λ a is. is) phase.active h

module _ (schema : RawSchema) where
  abbrev forgotten : RawSchema
  forgotten = placeless_schema schema

  same-phases : phase-ids forgotten ≡ phase-ids schema
  same-phases = names_over (λ (x : Phase). x.id) (λ (x : Phase). x.id) placeless_phase (λ x. refl) schema.phases

  same-patterns : pattern-ids forgotten ≡ pattern-ids schema
  same-patterns = same_over concrete_id placeless_pattern (λ x. refl) schema.patterns

  same-ids : (notes : List Diagnostic) → ids-of (map placeless_diagnostic notes) ≡ ids-of notes
  same-ids notes = names_over (λ (x : Diagnostic). x.id) (λ (x : Diagnostic). x.id) placeless_diagnostic (λ x. refl) notes

  same-notes : note-ids forgotten ≡ note-ids schema
  same-notes = λ t. (same-ids schema.diagnostics t, same-ids schema.properties t)

  forget-all : (phases patterns : List (List ℕ)) (notes : NoteIds) → RefersTo phases patterns notes schema → RefersTo phases patterns notes forgotten
  forget-all phases patterns notes h = record {
    head = h.head;
    active = forget_each (ActiveRefers patterns) placeless_phase (forget-phase patterns) schema.phases h.active;
    patterns = forget_each (PatternRefers notes) placeless_pattern (forget-pattern notes) schema.patterns h.patterns;
  }

  recall-all : (phases patterns : List (List ℕ)) (notes : NoteIds) → RefersTo phases patterns notes forgotten → RefersTo phases patterns notes schema
  recall-all phases patterns notes h = record {
    head = h.head;
    active = recall_each (ActiveRefers patterns) placeless_phase (recall-phase patterns) schema.phases h.active;
    patterns = recall_each (PatternRefers notes) placeless_pattern (recall-pattern notes) schema.patterns h.patterns;
  }

  pub referred_forgets : Referred schema → Referred forgotten
  referred_forgets h =
      let all = forget-all (phase-ids schema) (pattern-ids schema) (note-ids schema) h.to in
      let with_phases = subst (λ l. RefersTo l (pattern-ids schema) (note-ids schema) forgotten) (sym same-phases) all in
      let with_patterns = subst (λ l. RefersTo (phase-ids forgotten) l (note-ids schema) forgotten) (sym same-patterns) with_phases in
      record { to = subst (λ l. RefersTo (phase-ids forgotten) (pattern-ids forgotten) l forgotten) (sym same-notes) with_patterns }

  pub referred_recalls : Referred forgotten → Referred schema
  referred_recalls h =
      let with_phases = subst (λ l. RefersTo l (pattern-ids forgotten) (note-ids forgotten) forgotten) same-phases h.to in
      let with_patterns = subst (λ l. RefersTo (phase-ids schema) l (note-ids forgotten) forgotten) same-patterns with_phases in
      record { to = recall-all (phase-ids schema) (pattern-ids schema) (note-ids schema) (subst (λ l. RefersTo (phase-ids schema) (pattern-ids schema) l forgotten) same-notes with_patterns) }
