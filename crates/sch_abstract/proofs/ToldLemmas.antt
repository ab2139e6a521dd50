-- What is told of an element follows from the document, the element and the rule.
use Rattle.std.proofs.Common.{◌≡◌, ℕ, ◌==◌, Bool, true, false, cond, List, [], ◌∷◌, ◌++◌, Option, None, Some, codes, refl, sym, ap, ◌∙◌, subst, inl, inr, ◌⊎◌, ⊎_elim, lit≤}
use Rattle.std.specs.List.{flat_map}
use Rattle.std.specs.Option.{option_map_or, option_or}
use Rattle.doc_tree.specs.Table.{Table, kids_of}
use Rattle.sch_model.specs.declared.fault.SchemaFault.{SchemaFault}
use Rattle.sch_model.specs.declared.flat.FlatSchema.{FlatSchema}
use Rattle.sch_model.specs.declared.parts.Phase.{Phase}
use Rattle.sch_model.specs.declared.raw.RawItem.{RawItem}
use Rattle.sch_model.specs.declared.raw.RawItem.TheVariants as item
use Rattle.sch_model.specs.declared.raw.RawPattern.{RawPattern}
use Rattle.sch_model.specs.declared.raw.RawRule.{RawRule}
use Rattle.sch_model.specs.declared.raw.RawSchema.{RawSchema}
use Rattle.sch_rules.specs.declared.word.Word.{Word}
use Rattle.sch_rules.specs.declared.word.Word.TheVariants as word
use Rattle.sch_rules.specs.Attributes.{said, said_text}
use Rattle.sch_rules.specs.Elements.{document_element, word_at}
use Rattle.sch_rules.specs.FirstBroken.{Gives}
use Rattle.sch_rules.specs.RawSchema.{active_of, assertion_of, ids_in, item_at, item_of, pattern_of, phase_of, raw_schema, read_if, read_kids, rule_of}
use Rattle.sch_rules.specs.Rules.{name_if}
use Rattle.sch_rules.specs.Words.{is_word}
use Rattle.sch_rules.proofs.LeastLemmas.{Rise, one_name}
use Rattle.sch_expansion.specs.Flat.{flat_schema}
use Rattle.sch_references.specs.Cycles.{leads_back}
use Rattle.sch_references.specs.Extends.{abstract_rules}
use Rattle.sch_references.specs.Places.{BrokenAmong, IsFirstAmong, NoneBroken, Place, first_among}
use Rattle.sch_references.specs.References.{Known, active_place, assertion_place, cyclic_rule, extends_place, head_place, item_places, known_in, origin_place, pattern_places, phase_places, places_with, reference_places, rule_places, unknown_diagnostic, unknown_origin, unknown_pattern, unknown_phase, unknown_property, unknown_rule}
use Rattle.sch_references.proofs.FirstLemmas.{Rising, Single, first-found, first-nothing, first-some, none-broken, rising-append, rising-flat_map}
use Rattle.sch_references.proofs.WalkLemmas.{flat_map-one}
use Rattle.sch_sizes.specs.Sizes.{size_places, size_rules}
use Rattle.sch_abstract.specs.FirstFault.{FirstFaultAgrees, IsFirstFault, first_fault}

-- the rules of each place stand by number
rising-item : (known : Known) (rules : List RawRule) (rule : RawRule) (its : RawItem) → Rising (item_places known rules rule its)
rising-item known rules rule (item.Let _) = tt
rising-item known rules rule (item.Assertion _) = ((lit≤ tt, (lit≤ tt, tt)), tt)
rising-item known rules rule (item.Extends _ _) = ((lit≤ tt, (lit≤ tt, tt)), tt)

rising-rule : (known : Known) (rules : List RawRule) (rule : RawRule) → Rising (rule_places known rules rule)
rising-rule known rules rule = rising-flat_map (item_places known rules rule) (rising-item known rules rule) rule.items

rising-pattern : (known : Known) (rules : List RawRule) (pattern : RawPattern) → Rising (pattern_places known rules pattern)
rising-pattern known rules pattern = ((lit≤ tt, tt), rising-flat_map (rule_places known rules) (rising-rule known rules) pattern.rules)

rising-phase : (known : Known) (phase : Phase) → Rising (phase_places known phase)
rising-phase known phase =
    subst Rising (flat_map-one (active_place known) phase.active)
    (rising-flat_map (λ active. active_place known active ∷ []) (λ active. ((lit≤ tt, tt), tt)) phase.active)

rising-references : (schema : RawSchema) → Rising (reference_places schema)
rising-references schema =
    let known = known_in schema in let rules = abstract_rules schema in (
      (lit≤ tt, tt),
      rising-append (flat_map (phase_places known) schema.phases) (flat_map (pattern_places known rules) schema.patterns)
          (rising-flat_map (phase_places known) (rising-phase known) schema.phases) (rising-flat_map (pattern_places known rules) (rising-pattern known rules) schema.patterns),
    )

rise-sizes : (schema : FlatSchema) → Rise 1 (size_rules schema)
rise-sizes schema = (lit≤ tt, (lit≤ tt, (lit≤ tt, (lit≤ tt, tt))))

-- what an option holds, and nothing where it holds none
abbrev or_empty : Option (List ℕ) → List ℕ
or_empty text = option_map_or (λ its. its) text []

held-some : (o : Option (List ℕ)) (name : List ℕ) → o ≡ Some name → name ≡ or_empty o
held-some o name h = subst (λ p. name ≡ or_empty p) (sym h) refl

name-if : (b : Bool) (its name : List ℕ) → name_if b its ≡ Some name → name ≡ its
name-if true its name h = held-some (Some its) name h
name-if false its name h = let e : None ≡ Some name = h in absurd (cc)

origin-name : (known : Known) (o : Option (List ℕ)) (name : List ℕ) → unknown_origin known o ≡ Some name → name ≡ or_empty o
origin-name known None name h = let e : None ≡ Some name = h in absurd (cc)
origin-name known (Some its) name h = name-if _ its name h

module _ (T : Table) (known : Known) (rules : List RawRule) where
  -- the name that a rule can tell of an element
  abbrev told_name : ℕ → ℕ → List ℕ
  told_name rule n =
      cond (rule == 12) (or_empty (said T n (codes "is-a")))
      (cond (rule == 13) (or_empty (unknown_pattern known (active_of T n)))
      (cond (rule == 14) (or_empty (unknown_phase known (said T n (codes "defaultPhase"))))
      (cond (rule == 15) (or_empty (unknown_diagnostic known (ids_in (said_text T n (codes "diagnostics")))))
      (cond (rule == 32) (or_empty (unknown_property known (ids_in (said_text T n (codes "properties")))))
      (said_text T n (codes "rule"))))))

  abbrev AllTold : List Place → Type 0
  AllTold places = (rule n : ℕ) (name : List ℕ) → BrokenAmong places rule n name → name ≡ told_name rule n

  told-append : (xs ys : List Place) → AllTold xs → AllTold ys → AllTold (xs ++ ys)
  told-append [] ys h k = k
  told-append (x ∷ xs) ys h k = λ rule n name b. ⊎_elim
      (λ (y : (x.node ≡ n) × Gives x.rules rule name). h rule n name (inl y))
      (λ (y : BrokenAmong (xs ++ ys) rule n name). told-append xs ys (λ r m s z. h r m s (inr z)) k rule n name y) b

  told-kids : {A : Type 0} (g : A → List Place) (w : Word) (read : ℕ → A) → ((n : ℕ) → AllTold (g (read n))) → (ns : List ℕ) → AllTold (flat_map g (flat_map (read_if T w read) ns))
  told-kids g w read h [] = λ rule n name b. absurd b
  told-kids g w read h (n ∷ ns) = by (told-kids g w read h ns) (is_word w (word_at T n))
    where
      by : AllTold (flat_map g (flat_map (read_if T w read) ns)) → (b : Bool) → AllTold (flat_map g (cond b (read n ∷ []) [] ++ flat_map (read_if T w read) ns))
      by more true = told-append (g (read n)) (flat_map g (flat_map (read_if T w read) ns)) (h n) more
      by more false = more

  -- a place of one rule
  told-one : (number n : ℕ) (told : Option (List ℕ)) → ((name : List ℕ) → told ≡ Some name → name ≡ told_name number n) → AllTold (record { node = n; rules = (number, told) ∷ [] } ∷ [])
  told-one number n told is = λ rule m name b. ⊎_elim
      (λ (x : (n ≡ m) × Gives ((number, told) ∷ []) rule name). ⊎_elim
      (λ (y : (number ≡ rule) × (told ≡ Some name)). subst (λ r. name ≡ told_name r m) y.0 (subst (λ k. name ≡ told_name number k) x.0 (is name y.1)))
      (λ (z : ⊥). absurd z) x.1)
      (λ (z : ⊥). absurd z) b

  -- a place of two rules
  told-two : (number after n : ℕ) (told other : Option (List ℕ)) → ((name : List ℕ) → told ≡ Some name → name ≡ told_name number n) →
      ((name : List ℕ) → other ≡ Some name → name ≡ told_name after n) → AllTold (record { node = n; rules = (number, told) ∷ (after, other) ∷ [] } ∷ [])
  told-two number after n told other is also = λ rule m name b. ⊎_elim
      (λ (x : (n ≡ m) × Gives ((number, told) ∷ (after, other) ∷ []) rule name). ⊎_elim
      (λ (y : (number ≡ rule) × (told ≡ Some name)). told-one number n told is rule m name (inl (x.0, inl y)))
      (λ (z : Gives ((after, other) ∷ []) rule name). told-one after n other also rule m name (inl (x.0, z))) x.1)
      (λ (z : ⊥). absurd z) b

  told-active : (n : ℕ) → AllTold (active_place known (active_of T n) ∷ [])
  told-active n = told-one 13 n (unknown_pattern known (active_of T n)) (λ name h. held-some (unknown_pattern known (active_of T n)) name h)

  told-head : (n : ℕ) → AllTold (record { node = n; rules = (14, unknown_phase known (said T n (codes "defaultPhase"))) ∷ [] } ∷ [])
  told-head n = told-one 14 n (unknown_phase known (said T n (codes "defaultPhase"))) (λ name h. held-some (unknown_phase known (said T n (codes "defaultPhase"))) name h)

  told-assertion : (report : Bool) (n : ℕ) → AllTold (assertion_place known (assertion_of T report n) ∷ [])
  told-assertion report n =
      let diagnostics = unknown_diagnostic known (ids_in (said_text T n (codes "diagnostics"))) in
      let properties = unknown_property known (ids_in (said_text T n (codes "properties"))) in
      told-two 15 32 n diagnostics properties (λ name h. held-some diagnostics name h) (λ name h. held-some properties name h)

  told-origin : (n : ℕ) → AllTold (origin_place known (pattern_of T n) ∷ [])
  told-origin n = told-one 12 n (unknown_origin known (said T n (codes "is-a"))) (λ name h. origin-name known (said T n (codes "is-a")) name h)

  told-extends : (rule : RawRule) (n : ℕ) → AllTold (extends_place known rules rule n (said_text T n (codes "rule")) ∷ [])
  told-extends rule n =
      let its = said_text T n (codes "rule") in
      told-two 10 11 n (unknown_rule known its) (cyclic_rule rules rule its) (λ name h. name-if _ its name h) (λ name h. name-if (leads_back rules rule its) its name h)

  told-items : (rule : RawRule) (ns : List ℕ) → AllTold (flat_map (item_places known rules rule) (flat_map (item_at T) ns))
  told-items rule [] = λ number n name b. absurd b
  told-items rule (n ∷ ns) = by (told-items rule ns) (word_at T n)
    where
      more : List Place
      more = flat_map (item_places known rules rule) (flat_map (item_at T) ns)

      by : AllTold more → (w : Option Word) → AllTold (flat_map (item_places known rules rule) (item_of T n w ++ flat_map (item_at T) ns))
      by later (Some word.Let) = later
      by later (Some word.Assert) = told-append (assertion_place known (assertion_of T false n) ∷ []) more (told-assertion false n) later
      by later (Some word.Report) = told-append (assertion_place known (assertion_of T true n) ∷ []) more (told-assertion true n) later
      by later (Some word.Extends) = told-append (extends_place known rules rule n (said_text T n (codes "rule")) ∷ []) more (told-extends rule n) later
      by later _ = later

  told-rule : (n : ℕ) → AllTold (rule_places known rules (rule_of T n))
  told-rule n = told-items (rule_of T n) (kids_of T n)

  told-pattern : (n : ℕ) → AllTold (pattern_places known rules (pattern_of T n))
  told-pattern n = told-append (origin_place known (pattern_of T n) ∷ []) (flat_map (rule_places known rules) (pattern_of T n).rules) (told-origin n)
      (told-kids (rule_places known rules) word.Rule (rule_of T) told-rule (kids_of T n))

  told-phase : (n : ℕ) → AllTold (phase_places known (phase_of T n))
  told-phase n =
      subst AllTold (flat_map-one (active_place known) (read_kids T word.Active (active_of T) n))
      (told-kids (λ active. active_place known active ∷ []) word.Active (active_of T) told-active (kids_of T n))

  told-places : AllTold (places_with known rules (raw_schema T))
  told-places =
      let d = document_element T in
      let phases = flat_map (phase_places known) (read_kids T word.Phase (phase_of T) d) in
      let patterns = flat_map (pattern_places known rules) (read_kids T word.Pattern (pattern_of T) d) in
      told-append (head_place known (raw_schema T).head ∷ []) (phases ++ patterns) (told-head d)
      (told-append phases patterns (told-kids (phase_places known) word.Phase (phase_of T) told-phase (kids_of T d))
      (told-kids (pattern_places known rules) word.Pattern (pattern_of T) told-pattern (kids_of T d)))

pub single-references : (T : Table) → Single (reference_places (raw_schema T))
single-references T rule n a b h k =
    let known = known_in (raw_schema T) in let rules = abstract_rules (raw_schema T) in
    told-places T known rules rule n a h ∙ sym (told-places T known rules rule n b k)

pub single-sizes : (schema : RawSchema) → Single (size_places schema)
single-sizes schema rule n a b h k =
    let rules = size_rules (flat_schema schema) in
    ⊎_elim
    (λ (x : (schema.head.node ≡ n) × Gives (size_rules (flat_schema schema)) rule a). ⊎_elim
    (λ (y : (schema.head.node ≡ n) × Gives (size_rules (flat_schema schema)) rule b). one_name 1 rule a b rules (rise-sizes (flat_schema schema)) x.1 y.1)
    (λ (z : ⊥). absurd z) k)
    (λ (z : ⊥). absurd z) h

-- the first of two lists of places
module _ (schema : RawSchema) (single : Single (reference_places schema)) where
  abbrev refs : List Place
  refs = reference_places schema

  abbrev sizes : List Place
  sizes = size_places schema

  rising-sizes : Rising sizes
  rising-sizes = (rise-sizes (flat_schema schema), tt)

  is_first : (f : SchemaFault) → first_fault schema ≡ Some f → IsFirstFault schema f
  is_first f h = by (first_among refs) refl h
    where
      by : (o : Option SchemaFault) → first_among refs ≡ o → option_or o (first_among sizes) ≡ Some f → IsFirstFault schema f
      by None e h = inr (none-broken refs e, first-some sizes f rising-sizes h)
      by (Some g) e h = inl (first-some refs f (rising-references schema) (e ∙ h))

  is_found : (f : SchemaFault) → IsFirstFault schema f → first_fault schema ≡ Some f
  is_found f h =
      ⊎_elim
      (λ (x : IsFirstAmong refs f). ap (λ o. option_or o (first_among sizes)) (first-found refs (rising-references schema) single f x))
      (λ (x : NoneBroken refs × IsFirstAmong sizes f).
      ap (λ o. option_or o (first_among sizes)) (first-nothing refs (rising-references schema) x.0)
      ∙ first-found sizes rising-sizes (single-sizes schema) f x.1) h

  none_broken : first_fault schema ≡ None → NoneBroken refs × NoneBroken sizes
  none_broken h = by (first_among refs) refl h
    where
      by : (o : Option SchemaFault) → first_among refs ≡ o → option_or o (first_among sizes) ≡ None → NoneBroken refs × NoneBroken sizes
      by None e h = (none-broken refs e, none-broken sizes h)
      by (Some g) e h = absurd (cc)

  pub agrees : FirstFaultAgrees schema
  agrees = record { is_first = is_first; is_found = is_found; none_broken = none_broken }
