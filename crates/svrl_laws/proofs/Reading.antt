-- What the document of a report says.
use Rattle.std.proofs.Common.{◌≡◌, ℕ, Bool, true, false, cond, List, [], ◌∷◌, ◌++◌, Option, None, Some, find, refl, sym, ap, ◌∙◌, subst, append-nil}
use Rattle.std.specs.List.{flat_map}
use Rattle.std.specs.Option.{option_or}
use Rattle.std.specs.Prelude.{codes}
use Rattle.std.proofs.lemmas.Grind.{flat_map-append}
use Rattle.doc_table.proofs.ListLemmas.{mem-head}
use Rattle.doc_tree.specs.kind.Kind.TheVariants as kind
use Rattle.doc_tree.specs.Kinds.{can_be_kid, holds_kids}
use Rattle.doc_tree.specs.Laws.{HasWaysUp, Ordered, Walks, WellFormed}
use Rattle.doc_tree.specs.Lists.{mem}
use Rattle.doc_tree.specs.Scope.{HasScopes, scope_at, xmlns_prefix}
use Rattle.doc_tree.specs.Table.{Table, Content, text, content_of, kids_of, kind_at, kind_of, parent_of}
use Rattle.doc_tree.specs.Walks.{characters_in, joined_text, string_value_in, string_value_of}
use Rattle.name_scopes.specs.ScopedTree.{Scoped}
use Rattle.name_scopes.specs.Scoping.{InScope}
use Rattle.pyx_core.specs.declared.event.Event.{Event}
use Rattle.sch_model.specs.declared.parts.Part.TheVariants.{Chars}
use Rattle.sch_model.specs.Placeless.{is_some_part}
use Rattle.sch_flat.specs.FlatDocument.{characters, element, part_events}
use Rattle.sch_flat_laws.proofs.Reading.Document.{are_kids, kid_items}
use Rattle.sch_flat_laws.proofs.Reading.EventBlocks.{Chunk, Holds, chunk_element, holds_all, holds_append, holds_characters, holds_nil, said as told_by, said_append}
use Rattle.sch_flat_laws.proofs.Reading.Kids.{Items, Pairs, none_left, take_if, take_pairs}
use Rattle.sch_flat_laws.proofs.Reading.Leaves.{AreKids}
use Rattle.sch_flat_laws.proofs.Reading.Messages.{part_chunk, text_node}
use Rattle.sch_flat_laws.proofs.Reading.Schema.{kids_parts}
use Rattle.sch_flat_laws.proofs.Reading.TreeBlocks.{told}
use Rattle.svrl_read.specs.declared.check.Place.{Place}
use Rattle.svrl_read.specs.declared.check.Place.TheVariants.{Outside, InPattern, InRule}
use Rattle.svrl_read.specs.declared.fault.SvrlFault.{SvrlFault}
use Rattle.svrl_read.specs.declared.value.Fired.{Fired}
use Rattle.svrl_read.specs.declared.value.Prefix.{Prefix}
use Rattle.svrl_read.specs.declared.value.Ref.{Ref}
use Rattle.svrl_read.specs.declared.value.SvrlFinding.{SvrlFinding}
use Rattle.svrl_read.specs.declared.value.SvrlPattern.{SvrlPattern}
use Rattle.svrl_read.specs.declared.value.SvrlReport.{SvrlReport}
use Rattle.svrl_read.specs.declared.words.Word.{Word}
use Rattle.svrl_read.specs.declared.words.Word.TheVariants as word
use Rattle.svrl_read.specs.FirstFault.{found_fault, kid_fault, kids_fault, lacks, output_fault, place_behind, prefix_fault, ref_fault_as, refs_fault}
use Rattle.svrl_read.specs.Lines.{finding_attributes, finding_name, rule_attributes}
use Rattle.svrl_read.specs.Places.{said, word_at}
use Rattle.svrl_read.specs.Value.{finding_of, findings_as, findings_before, message_in, output_of, patterns_as, patterns_in, prefix_at, prefix_of, prefixes_as, ref_at, ref_of, refs_as, rule_of, rules_as, rules_before}
use Rattle.svrl_read.specs.Words.{is_text, word_of}
use Rattle.svrl_laws.specs.ReadBack.{Says}
use Rattle.svrl_laws.specs.ReportEvents.{Item, a_prefix, a_pattern, a_rule, a_finding, held_of, item_events, items_of, message_events, ref_by, ref_events, report_events, texts_of}
use Rattle.svrl_laws.proofs.Items.{Stand, findings, patterns, prefixes, rules, say_report}
use Rattle.svrl_laws.proofs.Places.{Read, found, read_element, svrl_scope, taken_both, taken_whole}

-- words of what there are two of
abbrev finding_word : Bool → Word
finding_word assertion = cond assertion word.Assert word.Report

abbrev ref_word : Bool → Word
ref_word property = cond property word.Property word.Diagnostic

abbrev ref_attribute : Bool → List ℕ
ref_attribute property = cond property (codes "property") (codes "diagnostic")

-- a report with these prefixes and patterns
abbrev report_as : SvrlReport → List Prefix → List SvrlPattern → SvrlReport
report_as report prefixes patterns = record report { prefixes = prefixes; patterns = patterns }

-- items are blocks of lines
text_chunk : (name : List ℕ) (given : List (List ℕ × Option (List ℕ))) (characters_are : List ℕ) →
    Chunk (element name given (characters characters_are))
text_chunk name given held = chunk_element name _ (characters held) (holds_characters held)

ref_chunk : (reference : Ref) → Chunk (ref_events reference)
ref_chunk reference = by reference.property
  where
    by : (b : Bool) →
        Chunk (ref_by b reference)
    by true = text_chunk (codes "svrl:property-reference") ((codes "property", Some reference.name) ∷ []) reference.body
    by false = text_chunk (codes "svrl:diagnostic-reference") ((codes "diagnostic", Some reference.name) ∷ []) reference.body

message_chunk : (message : List ℕ) → Chunk (message_events message)
message_chunk message = text_chunk (codes "svrl:text") [] message

texts_hold : (finding : SvrlFinding) → Holds (texts_of finding)
texts_hold finding =
    holds_append (flat_map ref_events finding.refs) (message_events finding.message) (holds_all ref_events ref_chunk finding.refs)
    (record { inner = (message_chunk finding.message).block.inner })

item_chunk : (item : Item) → Chunk (item_events item)
item_chunk (a_prefix prefix) = chunk_element (codes "svrl:ns-prefix-in-attribute-values") _ [] holds_nil
item_chunk (a_pattern id) = chunk_element (codes "svrl:active-pattern") _ [] holds_nil
item_chunk (a_rule fired) = chunk_element (codes "svrl:fired-rule") _ [] holds_nil
item_chunk (a_finding finding) = chunk_element (finding_name finding.assertion) _ (texts_of finding) (texts_hold finding)

held_holds : (report : SvrlReport) → Holds (held_of report)
held_holds report = holds_all item_events item_chunk (items_of report)

-- what an item says of its element
record SaysPrefix (T : Table) (k : ℕ) (prefix : Prefix) : Type 0 where
  pub word : word_at T k ≡ Some word.Prefix
  pub value : prefix_of T k ≡ prefix
  pub good : prefix_fault T k ≡ None

record SaysPattern (T : Table) (k : ℕ) (id : Option (List ℕ)) : Type 0 where
  pub word : word_at T k ≡ Some word.Pattern
  pub value : said T k (codes "id") ≡ id

record SaysRule (T : Table) (k : ℕ) (fired : Fired) : Type 0 where
  pub word : word_at T k ≡ Some word.Rule
  pub value : (held : List SvrlFinding) → rule_of T k held ≡ record fired { findings = held }
  pub good : lacks T k (codes "context") ≡ None

record SaysFinding (T : Table) (k : ℕ) (b : Bool) (finding : SvrlFinding) : Type 0 where
  pub word : word_at T k ≡ Some (finding_word b)
  pub value : finding_of T b k ≡ record finding { assertion = b }
  pub good : found_fault T k ≡ None

record SaysRef (T : Table) (k : ℕ) (b : Bool) (reference : Ref) : Type 0 where
  pub word : word_at T k ≡ Some (ref_word b)
  pub value : ref_of T b (ref_attribute b) k ≡ record reference { property = b }
  pub good : lacks T k (ref_attribute b) ≡ None

abbrev SaysItem : Table → ℕ → Item → Type 0
SaysItem T k (a_prefix prefix) = SaysPrefix T k prefix
SaysItem T k (a_pattern id) = SaysPattern T k id
SaysItem T k (a_rule fired) = SaysRule T k fired
SaysItem T k (a_finding finding) = SaysFinding T k finding.assertion finding

abbrev SayItems : Table → List ℕ → List Item → Type 0
SayItems T [] [] = Unit {0}
SayItems T [] (item ∷ items) = ⊥
SayItems T (k ∷ ks) [] = ⊥
SayItems T (k ∷ ks) (item ∷ items) = SaysItem T k item × SayItems T ks items

-- findings of both words
finding_is_prefix : (T : Table) (k : ℕ) (b : Bool) → prefixes_as T k (Some (finding_word b)) ≡ []
finding_is_prefix T k true = refl
finding_is_prefix T k false = refl

finding_is_finding : (T : Table) (k : ℕ) (b : Bool) (behind : List SvrlFinding) →
    findings_as T k (Some (finding_word b)) behind ≡ finding_of T b k ∷ behind
finding_is_finding T k true behind = refl
finding_is_finding T k false behind = refl

finding_is_rule : (T : Table) (k : ℕ) (b : Bool) (held : List SvrlFinding) (behind : List Fired) →
    rules_as T k (Some (finding_word b)) held behind ≡ behind
finding_is_rule T k true held behind = refl
finding_is_rule T k false held behind = refl

finding_is_pattern : (T : Table) (k : ℕ) (b : Bool) (held : List Fired) (behind : List SvrlPattern) →
    patterns_as T k (Some (finding_word b)) held behind ≡ behind
finding_is_pattern T k true held behind = refl
finding_is_pattern T k false held behind = refl

finding_fault_as : (T : Table) (k : ℕ) (b : Bool) → kid_fault T InRule k (Some (finding_word b)) ≡ found_fault T k
finding_fault_as T k true = refl
finding_fault_as T k false = refl

finding_place : (b : Bool) → place_behind InRule (Some (finding_word b)) ≡ InRule
finding_place true = refl
finding_place false = refl

-- what the elements say together
prefixes_said : (T : Table) (ks : List ℕ) (items : List Item) → SayItems T ks items → flat_map (prefix_at T) ks ≡ prefixes items
prefixes_said T [] [] say = refl
prefixes_said T [] (item ∷ items) say = absurd say
prefixes_said T (k ∷ ks) [] say = absurd say
prefixes_said T (k ∷ ks) (a_prefix prefix ∷ items) say =
    ap (λ (w : Option Word). prefixes_as T k w ++ flat_map (prefix_at T) ks) say.0.word
    ∙ ap (λ (p : Prefix). p ∷ flat_map (prefix_at T) ks) say.0.value
    ∙ ap (λ (l : List Prefix). prefix ∷ l) (prefixes_said T ks items say.1)
prefixes_said T (k ∷ ks) (a_pattern id ∷ items) say =
    ap (λ (w : Option Word). prefixes_as T k w ++ flat_map (prefix_at T) ks) say.0.word ∙ prefixes_said T ks items say.1
prefixes_said T (k ∷ ks) (a_rule fired ∷ items) say =
    ap (λ (w : Option Word). prefixes_as T k w ++ flat_map (prefix_at T) ks) say.0.word ∙ prefixes_said T ks items say.1
prefixes_said T (k ∷ ks) (a_finding finding ∷ items) say =
    ap (λ (w : Option Word). prefixes_as T k w ++ flat_map (prefix_at T) ks) say.0.word
    ∙ ap (λ (l : List Prefix). l ++ flat_map (prefix_at T) ks) (finding_is_prefix T k finding.assertion)
    ∙ prefixes_said T ks items say.1

findings_said : (T : Table) (ks : List ℕ) (items : List Item) → SayItems T ks items → findings_before T ks ≡ findings items
findings_said T [] [] say = refl
findings_said T [] (item ∷ items) say = absurd say
findings_said T (k ∷ ks) [] say = absurd say
findings_said T (k ∷ ks) (a_prefix prefix ∷ items) say =
    ap (λ (w : Option Word). findings_as T k w (findings_before T ks)) say.0.word ∙ findings_said T ks items say.1
findings_said T (k ∷ ks) (a_pattern id ∷ items) say = ap (λ (w : Option Word). findings_as T k w (findings_before T ks)) say.0.word
findings_said T (k ∷ ks) (a_rule fired ∷ items) say = ap (λ (w : Option Word). findings_as T k w (findings_before T ks)) say.0.word
findings_said T (k ∷ ks) (a_finding finding ∷ items) say =
    ap (λ (w : Option Word). findings_as T k w (findings_before T ks)) say.0.word
    ∙ finding_is_finding T k finding.assertion (findings_before T ks)
    ∙ ap (λ (f : SvrlFinding). f ∷ findings_before T ks) say.0.value
    ∙ ap (λ (l : List SvrlFinding). finding ∷ l) (findings_said T ks items say.1)

rules_said : (T : Table) (ks : List ℕ) (items : List Item) → SayItems T ks items → rules_before T ks ≡ rules items
rules_said T [] [] say = refl
rules_said T [] (item ∷ items) say = absurd say
rules_said T (k ∷ ks) [] say = absurd say
rules_said T (k ∷ ks) (a_prefix prefix ∷ items) say =
    ap (λ (w : Option Word). rules_as T k w (findings_before T ks) (rules_before T ks)) say.0.word ∙ rules_said T ks items say.1
rules_said T (k ∷ ks) (a_pattern id ∷ items) say = ap (λ (w : Option Word). rules_as T k w (findings_before T ks) (rules_before T ks)) say.0.word
rules_said T (k ∷ ks) (a_rule fired ∷ items) say =
    ap (λ (w : Option Word). rules_as T k w (findings_before T ks) (rules_before T ks)) say.0.word
    ∙ ap (λ (f : Fired). f ∷ rules_before T ks) (say.0.value (findings_before T ks))
    ∙ ap (λ (l : List SvrlFinding). record fired { findings = l } ∷ rules_before T ks) (findings_said T ks items say.1)
    ∙ ap (λ (l : List Fired). record fired { findings = findings items } ∷ l) (rules_said T ks items say.1)
rules_said T (k ∷ ks) (a_finding finding ∷ items) say =
    ap (λ (w : Option Word). rules_as T k w (findings_before T ks) (rules_before T ks)) say.0.word
    ∙ finding_is_rule T k finding.assertion (findings_before T ks) (rules_before T ks)
    ∙ rules_said T ks items say.1

patterns_said : (T : Table) (ks : List ℕ) (items : List Item) → SayItems T ks items → patterns_in T ks ≡ patterns items
patterns_said T [] [] say = refl
patterns_said T [] (item ∷ items) say = absurd say
patterns_said T (k ∷ ks) [] say = absurd say
patterns_said T (k ∷ ks) (a_prefix prefix ∷ items) say =
    ap (λ (w : Option Word). patterns_as T k w (rules_before T ks) (patterns_in T ks)) say.0.word ∙ patterns_said T ks items say.1
patterns_said T (k ∷ ks) (a_pattern id ∷ items) say =
    ap (λ (w : Option Word). patterns_as T k w (rules_before T ks) (patterns_in T ks)) say.0.word
    ∙ ap (λ (i : Option (List ℕ)). record { id = i; fired = rules_before T ks } ∷ patterns_in T ks) say.0.value
    ∙ ap (λ (l : List Fired). record { id = id; fired = l } ∷ patterns_in T ks) (rules_said T ks items say.1)
    ∙ ap (λ (l : List SvrlPattern). record { id = id; fired = rules items } ∷ l) (patterns_said T ks items say.1)
patterns_said T (k ∷ ks) (a_rule fired ∷ items) say =
    ap (λ (w : Option Word). patterns_as T k w (rules_before T ks) (patterns_in T ks)) say.0.word ∙ patterns_said T ks items say.1
patterns_said T (k ∷ ks) (a_finding finding ∷ items) say =
    ap (λ (w : Option Word). patterns_as T k w (rules_before T ks) (patterns_in T ks)) say.0.word
    ∙ finding_is_pattern T k finding.assertion (rules_before T ks) (patterns_in T ks)
    ∙ patterns_said T ks items say.1

-- one element without fault, and those behind it
fault_behind : (T : Table) (place : Place) (k : ℕ) (ks : List ℕ) (w : Option Word) → word_at T k ≡ w → kid_fault T place k w ≡ None →
    kids_fault T (place_behind place w) ks ≡ None → kids_fault T place (k ∷ ks) ≡ None
fault_behind T place k ks w is good rest =
    ap (λ (v : Option Word). option_or (kid_fault T place k v) (kids_fault T (place_behind place v) ks)) is
    ∙ ap (λ (f : Option SvrlFault). option_or f (kids_fault T (place_behind place w) ks)) good
    ∙ rest

none_said : (T : Table) (place : Place) (ks : List ℕ) (items : List Item) → SayItems T ks items → Stand place items → kids_fault T place ks ≡ None
none_said T place [] [] say stand = refl
none_said T place [] (item ∷ items) say stand = absurd say
none_said T place (k ∷ ks) [] say stand = absurd say
none_said T Outside (k ∷ ks) (a_prefix prefix ∷ items) say stand =
    fault_behind T Outside k ks (Some word.Prefix) say.0.word say.0.good (none_said T Outside ks items say.1 stand)
none_said T InPattern (k ∷ ks) (a_prefix prefix ∷ items) say stand =
    fault_behind T InPattern k ks (Some word.Prefix) say.0.word say.0.good (none_said T InPattern ks items say.1 stand)
none_said T InRule (k ∷ ks) (a_prefix prefix ∷ items) say stand =
    fault_behind T InRule k ks (Some word.Prefix) say.0.word say.0.good (none_said T InRule ks items say.1 stand)
none_said T Outside (k ∷ ks) (a_pattern id ∷ items) say stand =
    fault_behind T Outside k ks (Some word.Pattern) say.0.word refl (none_said T InPattern ks items say.1 stand)
none_said T InPattern (k ∷ ks) (a_pattern id ∷ items) say stand =
    fault_behind T InPattern k ks (Some word.Pattern) say.0.word refl (none_said T InPattern ks items say.1 stand)
none_said T InRule (k ∷ ks) (a_pattern id ∷ items) say stand =
    fault_behind T InRule k ks (Some word.Pattern) say.0.word refl (none_said T InPattern ks items say.1 stand)
none_said T Outside (k ∷ ks) (a_rule fired ∷ items) say stand = absurd stand
none_said T InPattern (k ∷ ks) (a_rule fired ∷ items) say stand =
    fault_behind T InPattern k ks (Some word.Rule) say.0.word say.0.good (none_said T InRule ks items say.1 stand)
none_said T InRule (k ∷ ks) (a_rule fired ∷ items) say stand =
    fault_behind T InRule k ks (Some word.Rule) say.0.word say.0.good (none_said T InRule ks items say.1 stand)
none_said T Outside (k ∷ ks) (a_finding finding ∷ items) say stand = absurd stand
none_said T InPattern (k ∷ ks) (a_finding finding ∷ items) say stand = absurd stand
none_said T InRule (k ∷ ks) (a_finding finding ∷ items) say stand =
    fault_behind T InRule k ks (Some (finding_word finding.assertion)) say.0.word (finding_fault_as T k finding.assertion ∙ say.0.good)
    (ap (λ (p : Place). kids_fault T p ks) (finding_place finding.assertion) ∙ none_said T InRule ks items say.1 stand)

-- references side by side
abbrev SayRefs : Table → List ℕ → List Ref → Type 0
SayRefs T [] [] = Unit {0}
SayRefs T [] (reference ∷ refs) = ⊥
SayRefs T (k ∷ ks) [] = ⊥
SayRefs T (k ∷ ks) (reference ∷ refs) = SaysRef T k reference.property reference × SayRefs T ks refs

ref_is : (T : Table) (k : ℕ) (b : Bool) → refs_as T k (Some (ref_word b)) ≡ ref_of T b (ref_attribute b) k ∷ []
ref_is T k true = refl
ref_is T k false = refl

ref_lacks : (T : Table) (k : ℕ) (b : Bool) → ref_fault_as T k (Some (ref_word b)) ≡ lacks T k (ref_attribute b)
ref_lacks T k true = refl
ref_lacks T k false = refl

ref_no_text : (b : Bool) → is_text (Some (ref_word b)) ≡ false
ref_no_text true = refl
ref_no_text false = refl

refs_said : (T : Table) (ks : List ℕ) (refs : List Ref) → SayRefs T ks refs → flat_map (ref_at T) ks ≡ refs
refs_said T [] [] say = refl
refs_said T [] (reference ∷ refs) say = absurd say
refs_said T (k ∷ ks) [] say = absurd say
refs_said T (k ∷ ks) (reference ∷ refs) say =
    ap (λ (w : Option Word). refs_as T k w ++ flat_map (ref_at T) ks) say.0.word
    ∙ ap (λ (l : List Ref). l ++ flat_map (ref_at T) ks) (ref_is T k reference.property)
    ∙ ap (λ (r : Ref). r ∷ flat_map (ref_at T) ks) say.0.value
    ∙ ap (λ (l : List Ref). reference ∷ l) (refs_said T ks refs say.1)

refs_good : (T : Table) (ks more : List ℕ) (refs : List Ref) → SayRefs T ks refs → refs_fault T (ks ++ more) ≡ refs_fault T more
refs_good T [] more [] say = refl
refs_good T [] more (reference ∷ refs) say = absurd say
refs_good T (k ∷ ks) more [] say = absurd say
refs_good T (k ∷ ks) more (reference ∷ refs) say =
    ap (λ (w : Option Word). option_or (ref_fault_as T k w) (refs_fault T (ks ++ more))) say.0.word
    ∙ ap (λ (f : Option SvrlFault). option_or f (refs_fault T (ks ++ more))) (ref_lacks T k reference.property ∙ say.0.good)
    ∙ refs_good T ks more refs say.1

texts_behind : (T : Table) (ks more : List ℕ) (refs : List Ref) → SayRefs T ks refs →
    find (λ k. is_text (word_at T k)) (ks ++ more) ≡ find (λ k. is_text (word_at T k)) more
texts_behind T [] more [] say = refl
texts_behind T [] more (reference ∷ refs) say = absurd say
texts_behind T (k ∷ ks) more [] say = absurd say
texts_behind T (k ∷ ks) more (reference ∷ refs) say =
    ap (λ (b : Bool). cond b (Some k) (find (λ k. is_text (word_at T k)) (ks ++ more))) (ap is_text say.0.word ∙ ref_no_text reference.property)
    ∙ texts_behind T ks more refs say.1

no-members : (xs : List ℕ) → ((x : ℕ) → mem x xs ≡ true → ⊥) → xs ≡ []
no-members [] h = refl
no-members (x ∷ xs) h = absurd (h x (mem-head x xs))

no-holder : holds_kids (Some kind.Text) ≡ true → ⊥
no-holder h = absurd (cc)

-- the kids of a finding that says its references and its message
record SaysTexts (T : Table) (k : ℕ) (finding : SvrlFinding) : Type 0 where
  pub refs : List ℕ
  pub message : ℕ
  pub are : kids_of T k ≡ refs ++ message ∷ []
  pub say : SayRefs T refs finding.refs
  pub word : word_at T message ≡ Some word.Text
  pub value : string_value_of T message ≡ finding.message

module _ (T : Table) (formed : WellFormed T) (ordered : Ordered T) (ways : HasWaysUp T) (walks : Walks T) (scopes : HasScopes T) (in_scope : InScope T) where
  -- an element that holds a text
  text_alone : (k : ℕ) (held : List ℕ) → content_of T k ≡ Some (text held) → joined_text T k ≡ held
  text_alone k held is =
      let kids : kids_of T k ≡ [] = no-members (kids_of T k) (λ a h. no-holder (ap holds_kids (sym (ap kind_at is)) ∙ formed.holder_kind k a h)) in
      walks.text_at k
      ∙ ap (λ (c : Option Content). characters_in c ++ flat_map (joined_text T) (kids_of T k)) is
      ∙ ap (λ (l : List ℕ). held ++ flat_map (joined_text T) l) kids
      ∙ append-nil held

  below-element : (k : ℕ) (local : List ℕ) (given : List (List ℕ × Option (List ℕ))) (held : List Event) → Read T k local given held →
      string_value_of T k ≡ flat_map (joined_text T) (kids_of T k)
  below-element k local given held r =
      ap (string_value_in T k) r.content ∙ walks.text_at k
      ∙ ap (λ (c : Option Content). characters_in c ++ flat_map (joined_text T) (kids_of T k)) r.content

  one-text : (byte : ℕ) (held : List ℕ) (ks : List ℕ) (p : ℕ) → AreKids T p ks → Pairs T part_events ks (Chars (byte ∷ held) ∷ []) →
      flat_map (joined_text T) ks ≡ byte ∷ held
  one-text byte held [] p kids pairs = absurd pairs
  one-text byte held (k ∷ j ∷ ks) p kids pairs = absurd pairs.1
  one-text byte held (k ∷ []) p kids pairs =
      let content = text_node T formed ordered ways walks scopes in_scope k (byte ∷ held) (content_of T k) refl pairs.0 kids.0.1 in
      append-nil (joined_text T k) ∙ text_alone k (byte ∷ held) content

  string_is : (k : ℕ) (local : List ℕ) (given : List (List ℕ × Option (List ℕ))) (held : List ℕ) → Items T (kids_of T k) →
      Read T k local given (characters held) →
      string_value_of T k ≡ held
  string_is k local given [] items r =
      below-element k local given [] r ∙ ap (flat_map (joined_text T)) (none_left T (kids_of T k) items r.kids)
  string_is k local given (byte ∷ held) items r =
      let taken = take_if T part_events is_some_part part_chunk (kids_of T k) items (Chars (byte ∷ held) ∷ []) refl [] r.kids in
      let are : kids_of T k ≡ taken.front = taken_whole taken in
      below-element k local given (characters (byte ∷ held)) r
      ∙ ap (flat_map (joined_text T)) are
      ∙ one-text byte held taken.front k (subst (AreKids T k) are (are_kids T formed ways walks scopes in_scope k)) taken.pairs

  -- a reference, and references
  ref_read : (p k : ℕ) (b : Bool) (reference : Ref) → scope_at T p ≡ svrl_scope → parent_of T k ≡ Some p → can_be_kid (kind_of T k) ≡ true →
      Items T (kids_of T k) →
      told T k ≡ told_by (ref_by b reference) →
      SaysRef T k b reference
  unfolding xmlns_prefix word_of
  ref_read p k true reference place up kid items same =
      let given : List (List ℕ × Option (List ℕ)) = (codes "property", Some reference.name) ∷ [] in
      let r = read_element T formed ways walks scopes in_scope p k (codes "property-reference") given (characters reference.body) place up kid items
      (holds_characters reference.body) refl same in
      record {
        word = r.word;
        value = rw (r.says (codes "property"), string_is k (codes "property-reference") given reference.body items r) refl;
        good = rw (r.says (codes "property")) refl;
      }
  ref_read p k false reference place up kid items same =
      let given : List (List ℕ × Option (List ℕ)) = (codes "diagnostic", Some reference.name) ∷ [] in
      let r = read_element T formed ways walks scopes in_scope p k (codes "diagnostic-reference") given (characters reference.body) place up kid items
      (holds_characters reference.body) refl same in
      record {
        word = r.word;
        value = rw (r.says (codes "diagnostic"), string_is k (codes "diagnostic-reference") given reference.body items r) refl;
        good = rw (r.says (codes "diagnostic")) refl;
      }

  refs_read : (p : ℕ) → scope_at T p ≡ svrl_scope → (ks : List ℕ) (refs : List Ref) → AreKids T p ks → Pairs T ref_events ks refs → SayRefs T ks refs
  refs_read p place [] [] kids pairs = tt
  refs_read p place [] (reference ∷ refs) kids pairs = absurd pairs
  refs_read p place (k ∷ ks) [] kids pairs = absurd pairs
  refs_read p place (k ∷ ks) (reference ∷ refs) kids pairs =
      (ref_read p k reference.property reference place kids.0.0 kids.0.1 kids.0.2 pairs.0, refs_read p place ks refs kids.1 pairs.1)

  -- what is in a finding
  texts-with : (k : ℕ) (finding : SvrlFinding) → scope_at T k ≡ svrl_scope → (front back : List ℕ) → kids_of T k ≡ front ++ back →
      AreKids T k (front ++ back) →
      Pairs T ref_events front finding.refs → Pairs T message_events back (finding.message ∷ []) → SaysTexts T k finding
  unfolding xmlns_prefix word_of
  texts-with k finding place front [] are kids refs pairs = absurd pairs
  texts-with k finding place front (j ∷ i ∷ back) are kids refs pairs = absurd pairs.1
  texts-with k finding place front (j ∷ []) are kids refs pairs =
      let parts = kids_parts T k front (j ∷ []) kids in
      let its = parts.1.0 in
      let r = read_element T formed ways walks scopes in_scope k j (codes "text") [] (characters finding.message) place its.0 its.1 its.2
      (holds_characters finding.message) refl pairs.0 in
      record {
        refs = front;
        message = j;
        are = are;
        say = refs_read k place front finding.refs parts.0 refs;
        word = r.word;
        value = string_is j (codes "text") [] finding.message its.2 r;
      }

  texts_read : (k : ℕ) (finding : SvrlFinding) → scope_at T k ≡ svrl_scope → Items T (kids_of T k) →
      flat_map (told T) (kids_of T k) ≡ told_by (texts_of finding) →
      SaysTexts T k finding
  texts_read k finding place items same =
      let t1 = take_pairs T ref_events ref_chunk (kids_of T k) items finding.refs (told_by (message_events finding.message))
      (same ∙ said_append (flat_map ref_events finding.refs) (message_events finding.message)) in
      let t2 = take_pairs T message_events message_chunk t1.back t1.items (finding.message ∷ []) []
      (t1.left ∙ ap told_by (sym (append-nil (message_events finding.message))) ∙ sym (append-nil (told_by (message_events finding.message ++ [])))) in
      let are : kids_of T k ≡ t1.front ++ t2.front = taken_both t1 t2 in
      texts-with k finding place t1.front t2.front are (subst (AreKids T k) are (are_kids T formed ways walks scopes in_scope k)) t1.pairs t2.pairs

  finding-value : (k : ℕ) (local : List ℕ) (b : Bool) (finding : SvrlFinding) → Read T k local (finding_attributes finding) (texts_of finding) →
      SaysTexts T k finding →
      finding_of T b k ≡ record finding { assertion = b }
  finding-value k local b finding r texts =
      let refs : flat_map (ref_at T) (kids_of T k) ≡ finding.refs =
      ap (flat_map (ref_at T)) texts.are
      ∙ flat_map-append (ref_at T) texts.refs (texts.message ∷ [])
      ∙ ap (λ (w : Option Word). flat_map (ref_at T) texts.refs ++ (refs_as T texts.message w ++ [])) texts.word
      ∙ append-nil (flat_map (ref_at T) texts.refs)
      ∙ refs_said T texts.refs finding.refs texts.say in
      let message : message_in T (find (λ j. is_text (word_at T j)) (kids_of T k)) ≡ finding.message =
      ap (λ (l : List ℕ). message_in T (find (λ j. is_text (word_at T j)) l)) texts.are
      ∙ ap (message_in T) (texts_behind T texts.refs (texts.message ∷ []) finding.refs texts.say)
      ∙ ap (λ (w : Option Word). message_in T (cond (is_text w) (Some texts.message) None)) texts.word
      ∙ texts.value in
      rw (r.says (codes "id"), r.says (codes "location"), r.says (codes "role"), r.says (codes "flag"), r.says (codes "test"), refs, message) refl

  finding-good : (k : ℕ) (local : List ℕ) (finding : SvrlFinding) → Read T k local (finding_attributes finding) (texts_of finding) →
      SaysTexts T k finding → found_fault T k ≡ None
  finding-good k local finding r texts =
      let refs : refs_fault T (kids_of T k) ≡ None =
      ap (refs_fault T) texts.are
      ∙ refs_good T texts.refs (texts.message ∷ []) finding.refs texts.say
      ∙ ap (λ (w : Option Word). option_or (ref_fault_as T texts.message w) None) texts.word in
      rw (r.says (codes "location"), r.says (codes "test"), refs) refl

  finding_read : (p k : ℕ) (b : Bool) (finding : SvrlFinding) → scope_at T p ≡ svrl_scope → parent_of T k ≡ Some p → can_be_kid (kind_of T k) ≡ true →
      Items T (kids_of T k) →
      told T k ≡ told_by (element (finding_name b) (finding_attributes finding) (texts_of finding)) → SaysFinding T k b finding
  unfolding xmlns_prefix word_of
  finding_read p k true finding place up kid items same =
      let r = read_element T formed ways walks scopes in_scope p k (codes "failed-assert") (finding_attributes finding)
      (texts_of finding) place up kid items (texts_hold finding) refl same in
      let texts = texts_read k finding r.scope items r.kids in
      record {
        word = r.word;
        value = finding-value k (codes "failed-assert") true finding r texts;
        good = finding-good k (codes "failed-assert") finding r texts;
      }
  finding_read p k false finding place up kid items same =
      let r = read_element T formed ways walks scopes in_scope p k (codes "successful-report") (finding_attributes finding)
      (texts_of finding) place up kid items (texts_hold finding) refl same in
      let texts = texts_read k finding r.scope items r.kids in
      record {
        word = r.word;
        value = finding-value k (codes "successful-report") false finding r texts;
        good = finding-good k (codes "successful-report") finding r texts;
      }

  item_read : (p k : ℕ) (item : Item) → scope_at T p ≡ svrl_scope → parent_of T k ≡ Some p → can_be_kid (kind_of T k) ≡ true → Items T (kids_of T k) →
      told T k ≡ told_by (item_events item) → SaysItem T k item
  unfolding xmlns_prefix word_of
  item_read p k (a_prefix prefix) place up kid items same =
      let r = read_element T formed ways walks scopes in_scope p k (codes "ns-prefix-in-attribute-values")
      ((codes "prefix", Some prefix.prefix) ∷ (codes "uri", Some prefix.uri) ∷ []) [] place up kid items holds_nil refl same in
      record {
        word = r.word;
        value = rw (r.says (codes "prefix"), r.says (codes "uri")) refl;
        good = rw (r.says (codes "prefix"), r.says (codes "uri")) refl;
      }
  item_read p k (a_pattern id) place up kid items same =
      let r = read_element T formed ways walks scopes in_scope p k (codes "active-pattern")
      ((codes "id", id) ∷ []) [] place up kid items holds_nil refl same in
      record { word = r.word; value = r.says (codes "id") }
  item_read p k (a_rule fired) place up kid items same =
      let r = read_element T formed ways walks scopes in_scope p k (codes "fired-rule")
      (rule_attributes fired) [] place up kid items holds_nil refl same in
      record {
        word = r.word;
        value = λ held. rw (r.says (codes "id"), r.says (codes "context"), r.says (codes "role"), r.says (codes "flag")) refl;
        good = rw (r.says (codes "context")) refl;
      }
  item_read p k (a_finding finding) place up kid items same = finding_read p k finding.assertion finding place up kid items same

  items_read : (p : ℕ) → scope_at T p ≡ svrl_scope → (ks : List ℕ) (items : List Item) → AreKids T p ks → Pairs T item_events ks items →
      SayItems T ks items
  items_read p place [] [] kids pairs = tt
  items_read p place [] (item ∷ items) kids pairs = absurd pairs
  items_read p place (k ∷ ks) [] kids pairs = absurd pairs
  items_read p place (k ∷ ks) (item ∷ items) kids pairs =
      (item_read p k item place kids.0.0 kids.0.1 kids.0.2 pairs.0, items_read p place ks items kids.1 pairs.1)

  pub whole : (report : SvrlReport) → Scoped (report_events report) T → Says T report
  unfolding xmlns_prefix word_of
  whole report scoped =
      let f = found T formed ways walks scopes in_scope held_holds report scoped in
      let d = f.node in
      let r = f.read in
      let taken = take_pairs T item_events item_chunk (kids_of T d) (kid_items T formed ways walks scopes in_scope d) (items_of report) []
      (r.kids ∙ sym (append-nil (told_by (held_of report)))) in
      let are : kids_of T d ≡ taken.front = taken_whole taken in
      let say = items_read d r.scope taken.front (items_of report)
      (subst (AreKids T d) are (are_kids T formed ways walks scopes in_scope d)) taken.pairs in
      let its = say_report report in
      let value : output_of T d ≡ report =
      rw (r.says (codes "title"), r.says (codes "phase"), r.says (codes "schemaVersion"))
      (ap (λ (l : List ℕ). report_as report (flat_map (prefix_at T) l) (patterns_in T l)) are
      ∙ ap (λ (l : List Prefix). report_as report l (patterns_in T taken.front)) (prefixes_said T taken.front (items_of report) say ∙ its.its_prefixes)
      ∙ ap (report_as report report.prefixes) (patterns_said T taken.front (items_of report) say ∙ its.its_patterns)) in
      record {
        no_fault =
            ap (λ (n : ℕ). output_fault T n (word_at T n)) f.is
            ∙ ap (output_fault T d) r.word
            ∙ ap (kids_fault T Outside) are
            ∙ none_said T Outside taken.front (items_of report) say its.stand;
        value = ap (output_of T) f.is ∙ value;
      }
