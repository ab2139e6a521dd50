-- The document of what is read is made of Chars.
use Rattle.std.proofs.Common.{◌≡◌, ℕ, Bool, true, false, not, cond, find, List, [], ◌∷◌, ◌++◌, Option, None, Some, map, refl, ◌∙◌}
use Rattle.std.specs.List.{flat_map, list_all}
use Rattle.std.specs.Prelude.{codes, filter, option_map}
use Rattle.std.proofs.lemmas.Bool.{and_from}
use Rattle.std.proofs.lemmas.List.Folds.{list_all-append}
use Rattle.doc_tree.specs.Table.{Table, content_of, kids_of}
use Rattle.doc_tree.specs.Walks.{below, characters_in}
use Rattle.pyx_core.proofs.TextLemmas.{of_chars_append}
use Rattle.pyx_core.specs.declared.event.Attr.{Attr}
use Rattle.pyx_core.specs.declared.event.Event.{Event}
use Rattle.pyx_core.specs.Nesting.{of_chars}
use Rattle.sch_model.specs.declared.flat.FlatPattern.{FlatPattern}
use Rattle.sch_model.specs.declared.flat.FlatRule.{FlatRule}
use Rattle.sch_model.specs.declared.parts.Assertion.{Assertion}
use Rattle.sch_model.specs.declared.parts.Diagnostic.{Diagnostic}
use Rattle.sch_model.specs.declared.parts.LetDecl.{LetDecl}
use Rattle.sch_model.specs.declared.parts.Part.{Part}
use Rattle.sch_model.specs.declared.parts.Part.TheVariants.{Chars, ValueOf, Name}
use Rattle.sch_model.specs.declared.raw.RawItem.{RawItem}
use Rattle.sch_model.specs.declared.raw.RawItem.TheVariants as item
use Rattle.sch_model.specs.declared.raw.RawPattern.{RawPattern}
use Rattle.sch_model.specs.declared.raw.RawRule.{RawRule}
use Rattle.sch_model.specs.declared.raw.RawSchema.{RawSchema}
use Rattle.sch_rules.specs.declared.word.Word.{Word}
use Rattle.sch_rules.specs.declared.word.Word.TheVariants as word
use Rattle.sch_rules.specs.Attributes.{said, said_text}
use Rattle.sch_rules.specs.Elements.{document_element, is_ignored, word_above, word_at}
use Rattle.sch_rules.specs.RawSchema.{active_of, assertion_of, chars_before, chars_part, counted_text, diagnostic_of, holds_text, ids_in, item_at, item_of, joined, let_of, message_of, notes_at, ns_of, own_part, param_of, part_at, pattern_of, phase_of, raw_schema, read_kids, rule_of, text_at, title_of}
use Rattle.sch_rules.specs.Words.{is_word}
use Rattle.sch_references.specs.Extends.{abstract_rules}
use Rattle.sch_expansion.specs.Flat.{assertion_in, assertion_with, bare_pattern, flat_rule, flat_schema, let_in, let_with, part_with, pattern_from, rule_with, text_or_empty}
use Rattle.sch_flat.specs.FlatDocument.{active_events, assertion_attributes, assertion_events, assertion_name, characters, diagnostics_events, element, flat_events, held_events, let_events, note_events, notes_events, ns_events, only_given, part_events, pattern_events, phase_events, rule_attributes, rule_events, title_events}
use Rattle.sch_texts.specs.Ids.{id_list, spaced}
use Rattle.sch_flat_laws.specs.FlatText.{is_made}
use Rattle.sch_flat_laws.specs.Readable.{Each}
use Rattle.sch_flat_laws.specs.Accepted.{MadeOfChars}
use Rattle.sch_flat_laws.proofs.Rules.Filling.{MadeParam, filled_made}
use Rattle.sch_flat_laws.proofs.Rules.MadeTexts.{Made, MadeIfAny, made_binding, made_characters, made_flat, made_ids, made_namespace, made_nil, made_said, made_text}
use Rattle.sch_flat_laws.proofs.Rules.Readable.{each_read}
use Rattle.sch_flat_laws.proofs.Rules.Sound.{each_append}
use Rattle.sch_flat_laws.proofs.Rules.Standing.{HoldsIn, abstract_hold, assertions_hold, each_map, each_to, lets_hold, patterns_hold, rules_hold}

-- events with values and texts made of Chars
abbrev pub MadeEvents : List Event → Type 0
MadeEvents events = list_all is_made events ≡ true

made-append : (xs ys : List Event) → MadeEvents xs → MadeEvents ys → MadeEvents (xs ++ ys)
made-append xs ys h k = list_all-append is_made xs ys ∙ and_from (list_all is_made xs) (list_all is_made ys) h k

made-over : {A : Type 0} (f : A → List Event) (xs : List A) → Each (λ (x : A). MadeEvents (f x)) xs → MadeEvents (flat_map f xs)
made-over f [] h = refl
made-over f (x ∷ xs) h = made-append (f x) (flat_map f xs) h.0 (made-over f xs h.1)

abbrev AllGiven : List (List ℕ × Option (List ℕ)) → Type 0
AllGiven attributes = Each (λ (a : List ℕ × Option (List ℕ)). MadeIfAny a.1) attributes

made-given : (attributes : List (List ℕ × Option (List ℕ))) → AllGiven attributes → list_all (λ (attr : Attr). of_chars attr.value) (only_given attributes) ≡ true
made-given [] h = refl
made-given ((name, None) ∷ attributes) h = made-given attributes h.1
made-given ((name, Some value) ∷ attributes) h = and_from (of_chars value) _ h.0 (made-given attributes h.1)

made-element : (name : List ℕ) (attributes : List (List ℕ × Option (List ℕ))) (held : List Event) → AllGiven attributes → MadeEvents held → MadeEvents (element name attributes held)
made-element name attributes held given h =
    and_from (list_all (λ (attr : Attr). of_chars attr.value) (only_given attributes)) _ (made-given attributes given) (made-append held _ h refl)

made-chars : (text : List ℕ) → Made text → MadeEvents (characters text)
made-chars [] h = refl
made-chars (byte ∷ text) h = and_from (of_chars (byte ∷ text)) true h refl

-- parts of messages
abbrev MadePart : Part → Type 0
MadePart (Chars text) = Made text
MadePart (ValueOf node select) = Made select
MadePart (Name node path) = MadeIfAny path

part-made : (part : Part) → MadePart part → MadeEvents (part_events part)
part-made (Chars text) h = made-chars text h
part-made (ValueOf node select) h = made-element (codes "sch:value-of") ((codes "select", Some select) ∷ []) [] (h, tt) refl
part-made (Name node path) h = made-element (codes "sch:name") ((codes "path", path) ∷ []) [] (h, tt) refl

parts-made : (parts : List Part) → Each MadePart parts → Each (λ (part : Part). MadeEvents (part_events part)) parts
parts-made [] h = tt
parts-made (part ∷ parts) h = (part-made part h.0, parts-made parts h.1)

made-before : (text : List ℕ) (parts : List Part) → Made text → Each MadePart parts → Each MadePart (chars_before text parts)
made-before text [] own h = (own, tt)
made-before text (Chars more ∷ parts) own h = (of_chars_append text more own h.0, h.1)
made-before text (ValueOf node select ∷ parts) own h = (own, h)
made-before text (Name node path ∷ parts) own h = (own, h)

made-joined : (parts : List Part) → Each MadePart parts → Each MadePart (joined parts)
made-joined [] h = tt
made-joined (Chars text ∷ parts) h = made-before text (joined parts) h.0 (made-joined parts h.1)
made-joined (ValueOf node select ∷ parts) h = (h.0, made-joined parts h.1)
made-joined (Name node path ∷ parts) h = (h.0, made-joined parts h.1)

made-part : (text : List ℕ) → Made text → Each MadePart (chars_part text)
made-part [] h = tt
made-part (byte ∷ text) h = (h, tt)

each-if : {A : Type 0} (P : A → Type 0) (b : Bool) (xs ys : List A) → Each P xs → Each P ys → Each P (cond b xs ys)
each-if P true xs ys h k = h
each-if P false xs ys h k = k

text-if : (b : Bool) (text : List ℕ) → Made text → Made (cond b text [])
text-if true text h = h
text-if false text h = made_nil

none-if : (b : Bool) (text : List ℕ) → Made text → Made (cond b [] text)
none-if true text h = made_nil
none-if false text h = h

-- parts whose texts are made of Chars
abbrev MadeLet : LetDecl → Type 0
MadeLet decl = Made decl.name × Made decl.value

pub record MadeAssertion (a : Assertion) : Type 0 where
  pub id : MadeIfAny a.id
  pub test : Made a.test
  pub subject : MadeIfAny a.subject
  pub role : MadeIfAny a.role
  pub flag : MadeIfAny a.flag
  pub ids : MadeIfAny (id_list a.diagnostics)
  pub properties : MadeIfAny (id_list a.properties)
  pub message : Each MadePart a.message

abbrev MadeItem : RawItem → Type 0
MadeItem (item.Let decl) = MadeLet decl
MadeItem (item.Assertion assertion) = MadeAssertion assertion
MadeItem (item.Extends node name) = Unit {0}

pub record MadeRule (rule : RawRule) : Type 0 where
  pub id : MadeIfAny rule.id
  pub context : MadeIfAny rule.context
  pub subject : MadeIfAny rule.subject
  pub role : MadeIfAny rule.role
  pub flag : MadeIfAny rule.flag
  pub items : Each MadeItem rule.items

pub record MadePattern (pattern : RawPattern) : Type 0 where
  pub id : MadeIfAny pattern.id
  pub params : Each MadeParam pattern.params
  pub lets : Each MadeLet pattern.lets
  pub rules : Each MadeRule pattern.rules

-- a change that keeps texts so
abbrev Keeps : (List ℕ → List ℕ) → Type 0
Keeps change = (text : List ℕ) → Made text → Made (change text)

module _ (change : List ℕ → List ℕ) (keeps : Keeps change) where
  path-with : (path : Option (List ℕ)) → MadeIfAny path → MadeIfAny (option_map change path)
  path-with None h = tt
  path-with (Some path) h = keeps path h

  part-with : (part : Part) → MadePart part → MadePart (part_with change part)
  part-with (Chars text) h = h
  part-with (ValueOf node select) h = keeps select h
  part-with (Name node path) h = path-with path h

  let-with : (decl : LetDecl) → MadeLet decl → MadeEvents (let_events (let_with change decl))
  let-with decl h = made-element (codes "sch:let") ((codes "name", Some decl.name) ∷ (codes "value", Some (change decl.value)) ∷ []) [] (h.0, (keeps decl.value h.1, tt)) refl

  lets-with : (lets : List LetDecl) → Each MadeLet lets → MadeEvents (flat_map let_events (map (let_with change) lets))
  lets-with lets h =
      made-over let_events (map (let_with change) lets)
      (each_map (λ (x : LetDecl). MadeEvents (let_events x)) (let_with change) lets
      (each_to MadeLet (λ (x : LetDecl). MadeEvents (let_events (let_with change x))) let-with lets h))

  message-with : (parts : List Part) → Each MadePart parts → MadeEvents (flat_map part_events (map (part_with change) parts))
  message-with parts h =
      made-over part_events (map (part_with change) parts)
      (each_map (λ (x : Part). MadeEvents (part_events x)) (part_with change) parts
      (each_to MadePart (λ (x : Part). MadeEvents (part_events (part_with change x))) (λ x is. part-made (part_with change x) (part-with x is)) parts h))

  assertion-with : (a : Assertion) → MadeAssertion a → MadeEvents (assertion_events (assertion_with change a))
  assertion-with a h =
      made-element (assertion_name a.report) (assertion_attributes (assertion_with change a)) (flat_map part_events (map (part_with change) a.message))
      (h.id, (keeps a.test h.test, (path-with a.subject h.subject, (h.role, (h.flag, (h.ids, (h.properties, tt)))))))
      (message-with a.message h.message)

  context-with : (context : Option (List ℕ)) → MadeIfAny context → Made (change (text_or_empty context))
  context-with None h = keeps [] made_nil
  context-with (Some context) h = keeps context h

  rule-with : (rule : RawRule) (items : List RawItem) → MadeRule rule → Each MadeItem items → MadeEvents (rule_events (rule_with change rule items))
  rule-with rule items own h =
      let assertions = map (assertion_with change) (flat_map assertion_in items) in
      made-element (codes "sch:rule") (rule_attributes (rule_with change rule items))
      (flat_map let_events (map (let_with change) (flat_map let_in items)) ++ flat_map assertion_events assertions)
      (own.id, (context-with rule.context own.context, (path-with rule.subject own.subject, (own.role, (own.flag, tt)))))
      (made-append (flat_map let_events (map (let_with change) (flat_map let_in items))) (flat_map assertion_events assertions)
      (lets-with (flat_map let_in items) (lets_hold MadeItem MadeLet (λ decl is. is) items h))
      (made-over assertion_events assertions
      (each_map (λ (x : Assertion). MadeEvents (assertion_events x)) (assertion_with change) (flat_map assertion_in items)
      (assertions_hold MadeItem (λ (x : Assertion). MadeEvents (assertion_events (assertion_with change x))) assertion-with items h))))

  pattern-with : (rules : List RawRule) → Each (HoldsIn MadeItem) rules → (pattern origin : RawPattern) → MadePattern pattern → MadePattern origin →
      MadeEvents (pattern_events (pattern_from rules change pattern origin))
  pattern-with rules h pattern origin own its =
      let flat = map (flat_rule rules change) (filter (λ (rule : RawRule). not rule.is_abstract) origin.rules) in
      made-element (codes "sch:pattern") ((codes "id", pattern.id) ∷ []) (flat_map let_events (map (let_with change) origin.lets) ++ flat_map rule_events flat) (own.id, tt)
      (made-append (flat_map let_events (map (let_with change) origin.lets)) (flat_map rule_events flat) (lets-with origin.lets its.lets)
      (made-over rule_events flat
      (rules_hold MadeItem rules h change MadeRule (λ (x : FlatRule). MadeEvents (rule_events x)) (λ rule is. is.items) rule-with origin.rules its.rules)))

bare-made : (pattern : RawPattern) → MadePattern pattern → MadeEvents (pattern_events (bare_pattern pattern))
bare-made pattern h = made-element (codes "sch:pattern") ((codes "id", pattern.id) ∷ []) [] (h.id, tt) refl

patterns-made : (schema : RawSchema) → Each MadePattern schema.patterns → Each (λ (x : FlatPattern). MadeEvents (pattern_events x)) (flat_schema schema).patterns
patterns-made schema each =
    let rules = abstract_hold MadeItem schema
    (each_to MadePattern (λ (pattern : RawPattern). Each (HoldsIn MadeItem) pattern.rules) (λ pattern h. each_to MadeRule (HoldsIn MadeItem) (λ rule is. is.items) pattern.rules h.rules) schema.patterns each) in
    patterns_hold schema MadePattern (λ (x : FlatPattern). MadeEvents (pattern_events x)) Keeps
    (λ change pattern origin keeps own its. pattern-with change keeps (abstract_rules schema) rules pattern origin own its)
    bare-made (λ text h. h) (λ pattern own. filled_made pattern.params own.params) each

module _ (T : Table) (made : MadeOfChars T) where
  text-made : (n : ℕ) → Made (text_at T n)
  text-made n = text-if (holds_text (word_above T n)) (characters_in (content_of T n)) (made_characters T made n)

  part-at-made : (n : ℕ) → Each MadePart (part_at T n)
  part-at-made n =
      each-if MadePart (is_ignored T n) [] (own_part T n) tt
      (each-if MadePart (is_word word.ValueOf (word_at T n)) (ValueOf n (said_text T n (codes "select")) ∷ []) _ (made_text T made n (codes "select"), tt)
      (each-if MadePart (is_word word.Name (word_at T n)) (Name n (said T n (codes "path")) ∷ []) (chars_part (text_at T n)) (made_said T made n (codes "path"), tt)
      (made-part (text_at T n) (text-made n))))

  all-parts-made : (ns : List ℕ) → Each MadePart (flat_map (part_at T) ns)
  all-parts-made [] = tt
  all-parts-made (n ∷ ns) = each_append MadePart (part_at T n) (flat_map (part_at T) ns) (part-at-made n) (all-parts-made ns)

  parts-made-of : (n : ℕ) → Each MadePart (message_of T n)
  parts-made-of n = made-joined (flat_map (part_at T) (below T n)) (all-parts-made (below T n))

  message-made : (n : ℕ) → MadeEvents (flat_map part_events (message_of T n))
  message-made n = made-over part_events (message_of T n) (parts-made (message_of T n) (parts-made-of n))

  title-made : (n : ℕ) → Made (title_of T n)
  title-made n = made_flat (counted_text T) (λ k. none-if (is_ignored T k) (text_at T k) (text-made k)) (below T n)

  ns-made : (n : ℕ) → MadeEvents (ns_events (ns_of T n))
  ns-made n = made-element (codes "sch:ns") ((codes "prefix", Some (said_text T n (codes "prefix"))) ∷ (codes "uri", Some (said_text T n (codes "uri"))) ∷ []) [] (made_text T made n (codes "prefix"), (made_text T made n (codes "uri"), tt)) refl

  let-made : (n : ℕ) → MadeEvents (let_events (let_of T n))
  let-made n = made-element (codes "sch:let") ((codes "name", Some (said_text T n (codes "name"))) ∷ (codes "value", Some (said_text T n (codes "value"))) ∷ []) [] (made_text T made n (codes "name"), (made_text T made n (codes "value"), tt)) refl

  active-made : (n : ℕ) → MadeEvents (active_events (active_of T n))
  active-made n = made-element (codes "sch:active") ((codes "pattern", Some (said_text T n (codes "pattern"))) ∷ []) [] (made_text T made n (codes "pattern"), tt) refl

  lets-made : (n : ℕ) → MadeEvents (flat_map let_events (read_kids T word.Let (let_of T) n))
  lets-made n = made-over let_events (read_kids T word.Let (let_of T) n) (each_read T word.Let (let_of T) (λ (x : LetDecl). MadeEvents (let_events x)) let-made (kids_of T n))

  phase-made : (n : ℕ) → MadeEvents (phase_events (phase_of T n))
  phase-made n =
      let actives = read_kids T word.Active (active_of T) n in
      made-element (codes "sch:phase") ((codes "id", Some (said_text T n (codes "id"))) ∷ [])
      (flat_map let_events (read_kids T word.Let (let_of T) n) ++ flat_map active_events actives) (made_text T made n (codes "id"), tt)
      (made-append (flat_map let_events (read_kids T word.Let (let_of T) n)) (flat_map active_events actives) (lets-made n)
      (made-over active_events actives (each_read T word.Active (active_of T) (λ x. MadeEvents (active_events x)) active-made (kids_of T n))))

  ids-made : (ids : List (List ℕ)) → Made (spaced ids) → MadeIfAny (id_list ids)
  ids-made [] h = tt
  ids-made (id ∷ ids) h = h

  assertion-made : (report : Bool) (n : ℕ) → MadeAssertion (assertion_of T report n)
  assertion-made report n = record {
    id = made_said T made n (codes "id");
    test = made_text T made n (codes "test");
    subject = made_said T made n (codes "subject");
    role = made_said T made n (codes "role");
    flag = made_said T made n (codes "flag");
    ids = ids-made (ids_in (said_text T n (codes "diagnostics"))) (made_ids (said_text T n (codes "diagnostics")) (made_text T made n (codes "diagnostics")));
    properties = ids-made (ids_in (said_text T n (codes "properties"))) (made_ids (said_text T n (codes "properties")) (made_text T made n (codes "properties")));
    message = parts-made-of n;
  }

  -- what rules hold
  let-texts : (n : ℕ) → MadeLet (let_of T n)
  let-texts n = (made_text T made n (codes "name"), made_text T made n (codes "value"))

  item-made : (k : ℕ) (w : Option Word) → Each MadeItem (item_of T k w)
  item-made k (Some word.Let) = (let-texts k, tt)
  item-made k (Some word.Assert) = (assertion-made false k, tt)
  item-made k (Some word.Report) = (assertion-made true k, tt)
  item-made k (Some word.Extends) = (tt, tt)
  item-made k _ = tt

  items-made : (ks : List ℕ) → Each MadeItem (flat_map (item_at T) ks)
  items-made [] = tt
  items-made (k ∷ ks) = each_append MadeItem (item_at T k) (flat_map (item_at T) ks) (item-made k (word_at T k)) (items-made ks)

  rule-made : (n : ℕ) → MadeRule (rule_of T n)
  rule-made n = record {
    id = made_said T made n (codes "id");
    context = made_said T made n (codes "context");
    subject = made_said T made n (codes "subject");
    role = made_said T made n (codes "role");
    flag = made_said T made n (codes "flag");
    items = items-made (kids_of T n);
  }

  pattern-made : (n : ℕ) → MadePattern (pattern_of T n)
  pattern-made n = record {
    id = made_said T made n (codes "id");
    params = each_read T word.Param (param_of T) MadeParam (λ k. made_text T made k (codes "value")) (kids_of T n);
    lets = each_read T word.Let (let_of T) MadeLet let-texts (kids_of T n);
    rules = each_read T word.Rule (rule_of T) MadeRule rule-made (kids_of T n);
  }

  -- diagnostics or properties, by the names of their elements
  note-made : (name : List ℕ) (n : ℕ) → MadeEvents (note_events name (diagnostic_of T n))
  note-made name n = made-element name ((codes "id", Some (said_text T n (codes "id"))) ∷ []) (flat_map part_events (message_of T n)) (made_text T made n (codes "id"), tt) (message-made n)

  notes-each : (name : List ℕ) (group note : Word) (ks : List ℕ) → Each (λ (x : Diagnostic). MadeEvents (note_events name x)) (flat_map (notes_at T group note) ks)
  notes-each name group note [] = tt
  notes-each name group note (k ∷ ks) =
      each_append (λ (x : Diagnostic). MadeEvents (note_events name x)) (notes_at T group note k) (flat_map (notes_at T group note) ks)
      (each-if (λ (x : Diagnostic). MadeEvents (note_events name x)) (is_word group (word_at T k)) (read_kids T note (diagnostic_of T) k) []
      (each_read T note (diagnostic_of T) (λ (x : Diagnostic). MadeEvents (note_events name x)) (note-made name) (kids_of T k)) tt)
      (notes-each name group note ks)

  notes-made : (group name : List ℕ) (ds : List Diagnostic) → Each (λ (x : Diagnostic). MadeEvents (note_events name x)) ds → MadeEvents (notes_events group name ds)
  notes-made group name [] h = refl
  notes-made group name (d ∷ ds) h = made-element group [] (flat_map (note_events name) (d ∷ ds)) tt (made-over (note_events name) (d ∷ ds) h)

  head-title-made : (found : Option ℕ) → MadeEvents (title_events (option_map (title_of T) found))
  head-title-made None = refl
  head-title-made (Some n) = made-element (codes "sch:title") [] (characters (title_of T n)) tt (made-chars (title_of T n) (title-made n))

  pub document_made : MadeEvents (flat_events (flat_schema (raw_schema T)))
  document_made =
      let d = document_element T in
      let schema = flat_schema (raw_schema T) in
      made-element (codes "sch:schema")
      ((codes "xmlns:sch", Some (codes "http://purl.oclc.org/dsdl/schematron"))
      ∷ (codes "queryBinding", Some (codes "xslt"))
      ∷ (codes "schemaVersion", said T d (codes "schemaVersion"))
      ∷ (codes "defaultPhase", said T d (codes "defaultPhase")) ∷ [])
      (held_events schema)
      (made_namespace, (made_binding, (made_said T made d (codes "schemaVersion"), (made_said T made d (codes "defaultPhase"), tt))))
      (made-append (title_events schema.head.title) _ (head-title-made (find (λ k. is_word word.Title (word_at T k)) (kids_of T d)))
      (made-append (flat_map ns_events schema.ns) _ (made-over ns_events schema.ns (each_read T word.Ns (ns_of T) (λ x. MadeEvents (ns_events x)) ns-made (kids_of T d)))
      (made-append (flat_map let_events schema.lets) _ (lets-made d)
      (made-append (flat_map phase_events schema.phases) _ (made-over phase_events schema.phases (each_read T word.Phase (phase_of T) (λ x. MadeEvents (phase_events x)) phase-made (kids_of T d)))
      (made-append (flat_map pattern_events schema.patterns) _
      (made-over pattern_events schema.patterns (patterns-made (raw_schema T) (each_read T word.Pattern (pattern_of T) MadePattern pattern-made (kids_of T d))))
      (made-append (diagnostics_events schema.diagnostics) _
      (notes-made (codes "sch:diagnostics") (codes "sch:diagnostic") schema.diagnostics (notes-each (codes "sch:diagnostic") word.Diagnostics word.Diagnostic (kids_of T d)))
      (notes-made (codes "sch:properties") (codes "sch:property") schema.properties (notes-each (codes "sch:property") word.Properties word.Property (kids_of T d)))))))))
