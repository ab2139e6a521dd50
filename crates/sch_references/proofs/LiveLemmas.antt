-- The rules on names are broken at live nodes alone, where a schema is what a document says.
use Rattle.std.proofs.Common.{◌≡◌, ℕ, ◌<◌, ◌≤◌, Bool, true, false, cond, List, [], ◌∷◌, ◌++◌, Option, None, Some, codes, map, refl, sym, ◌∙◌, subst, inl, inr, ⊎_elim}
use Rattle.std.proofs.lemmas.Bool.{lt-ltb, ltb-true}
use Rattle.std.specs.List.{flat_map}
use Rattle.std.specs.Prelude.{find, is_some, option_and_then, option_map}
use Rattle.doc_tree.specs.InOrder.{OrderIsByNumber}
use Rattle.doc_tree.specs.Order.{is_before}
use Rattle.doc_tree.specs.Table.{Facts, Table, attrs_at, content_at, entry_at, is_live, kids_of, value_of}
use Rattle.sch_model.specs.declared.raw.RawRule.{RawRule}
use Rattle.sch_rules.specs.Attributes.{is_called}
use Rattle.sch_rules.specs.Elements.{document_element, element_name, local_in, word_at}
use Rattle.sch_rules.specs.FirstBroken.{Gives}
use Rattle.sch_rules.specs.RawSchema.{active_of, head_of, item_at, item_of, pattern_of, phase_of, raw_schema, read_if, read_kids, rule_of}
use Rattle.sch_rules.specs.Words.{is_word, word_of}
use Rattle.sch_rules.specs.declared.word.Word.{Word}
use Rattle.sch_rules.specs.declared.word.Word.TheVariants as word
use Rattle.sch_references.specs.Extends.{abstract_rules}
use Rattle.sch_references.specs.InDocumentOrder.{FirstInOrder, IsFirstInOrder}
use Rattle.sch_references.specs.Places.{BrokenAmong, IsFirstAmong, Place}
use Rattle.sch_references.specs.References.{Known, active_place, head_place, item_places, known_in, pattern_places, phase_places, reference_places, rule_places, unknown_phase}
use Rattle.sch_references.specs.inner.Ways.{Each}
use Rattle.sch_references.proofs.CheckLemmas.{each-flat}

-- an element of a schema lives
read-live : (word : Word) (entry : Option Facts) → is_word word (option_and_then word_of (local_in (element_name (content_at entry)))) ≡ true → is_some entry ≡ true
read-live word None h = absurd (cc)
read-live word (Some facts) h = refl

word-live : (its : Word) (entry : Option Facts) → option_and_then word_of (local_in (element_name (content_at entry))) ≡ Some its → is_some entry ≡ true
word-live its None h = absurd (cc)
word-live its (Some facts) h = refl

-- a node with an attribute lives
said-live : (T : Table) (known : Known) (entry : Option Facts) (name : List ℕ) →
    unknown_phase known (option_map (value_of T) (find (is_called T (codes "defaultPhase")) (attrs_at entry))) ≡ Some name → is_some entry ≡ true
said-live T known None name h = absurd (cc)
said-live T known (Some facts) name h = refl

module _ (T : Table) where
  -- rules are broken at live nodes alone
  AllLive : List Place → Type 0
  AllLive places = (rule n : ℕ) (name : List ℕ) → BrokenAmong places rule n name → is_live T n ≡ true

  none-live : AllLive []
  unfolding AllLive
  none-live rule n name b = absurd b

  more-live : (place : Place) (places : List Place) → is_live T place.node ≡ true → AllLive places → AllLive (place ∷ places)
  unfolding AllLive
  more-live place places lives more rule n name b = ⊎_elim
      (λ (x : (place.node ≡ n) × Gives place.rules rule name). subst (λ m. is_live T m ≡ true) x.0 lives)
      (λ (y : BrokenAmong places rule n name). more rule n name y)
      b

  both-live : (xs ys : List Place) → AllLive xs → AllLive ys → AllLive (xs ++ ys)
  unfolding AllLive
  both-live [] ys h k = k
  both-live (x ∷ xs) ys h k = λ rule n name b. ⊎_elim
      (λ (here : (x.node ≡ n) × Gives x.rules rule name). h rule n name (inl here))
      (λ (there : BrokenAmong (xs ++ ys) rule n name). both-live xs ys (λ r m its c. h r m its (inr c)) k rule n name there)
      b

  flat-live : {A : Type 0} (g : A → List Place) (xs : List A) → Each (λ x. AllLive (g x)) xs → AllLive (flat_map g xs)
  flat-live g [] h = none-live
  flat-live g (x ∷ xs) h = both-live (g x) (flat_map g xs) h.0 (flat-live g xs h.1)

  map-live : {A : Type 0} (g : A → Place) (xs : List A) → Each (λ x. is_live T (g x).node ≡ true) xs → AllLive (map g xs)
  map-live g [] h = none-live
  map-live g (x ∷ xs) h = more-live (g x) (map g xs) h.0 (map-live g xs h.1)

  each-of : {A : Type 0} (P : A → Type 0) → ((x : A) → P x) → (xs : List A) → Each P xs
  each-of P h [] = tt
  each-of P h (x ∷ xs) = (h x, each-of P h xs)

  -- what is read of kids is read of live ones
  each-read : {A : Type 0} (P : A → Type 0) (word : Word) (read : ℕ → A) → ((n : ℕ) → is_live T n ≡ true → P (read n)) → (n : ℕ) → Each P (read_kids T word read n)
  each-read P word read h n = each-flat P (read_if T word read) (kids_of T n) (each-of (λ k. Each P (read_if T word read k)) one (kids_of T n))
    where
      one : (k : ℕ) → Each P (read_if T word read k)
      one k = by (is_word word (word_at T k)) refl
        where
          by : (b : Bool) → is_word word (word_at T k) ≡ b → Each P (cond b (read k ∷ []) [])
          by true e = (h k (read-live word (entry_at T k) e), tt)
          by false e = tt

  module _ (known : Known) (rules : List RawRule) where
    phase-live : (n : ℕ) → AllLive (phase_places known (phase_of T n))
    phase-live n = map-live (active_place known) (phase_of T n).active
        (each-read (λ active. is_live T active.node ≡ true) word.Active (active_of T) (λ m lives. lives) n)

    items-live : (rule : RawRule) (n : ℕ) (its : Option Word) → word_at T n ≡ its → Each (λ it. AllLive (item_places known rules rule it)) (item_of T n its)
    items-live rule n (Some word.Let) e = (none-live, tt)
    items-live rule n (Some word.Assert) e = (more-live _ [] (word-live word.Assert (entry_at T n) e) none-live, tt)
    items-live rule n (Some word.Report) e = (more-live _ [] (word-live word.Report (entry_at T n) e) none-live, tt)
    items-live rule n (Some word.Extends) e = (more-live _ [] (word-live word.Extends (entry_at T n) e) none-live, tt)
    items-live rule n _ e = tt

    rule-live : (n : ℕ) → AllLive (rule_places known rules (rule_of T n))
    rule-live n = flat-live (item_places known rules (rule_of T n)) (rule_of T n).items
        (each-flat (λ it. AllLive (item_places known rules (rule_of T n) it)) (item_at T) (kids_of T n)
        (each-of (λ k. Each (λ it. AllLive (item_places known rules (rule_of T n) it)) (item_at T k)) (λ k. items-live (rule_of T n) k (word_at T k) refl) (kids_of T n)))

    pattern-live : (n : ℕ) → is_live T n ≡ true → AllLive (pattern_places known rules (pattern_of T n))
    pattern-live n lives = more-live _ (flat_map (rule_places known rules) (pattern_of T n).rules) lives
        (flat-live (rule_places known rules) (pattern_of T n).rules
        (each-read (λ rule. AllLive (rule_places known rules rule)) word.Rule (rule_of T) (λ m _. rule-live m) n))

    parts-live : (n : ℕ) → AllLive (flat_map (phase_places known) (read_kids T word.Phase (phase_of T) n) ++ flat_map (pattern_places known rules) (read_kids T word.Pattern (pattern_of T) n))
    parts-live n = both-live _ _
        (flat-live (phase_places known) (read_kids T word.Phase (phase_of T) n)
        (each-read (λ phase. AllLive (phase_places known phase)) word.Phase (phase_of T) (λ m _. phase-live m) n))
        (flat-live (pattern_places known rules) (read_kids T word.Pattern (pattern_of T) n)
        (each-read (λ pattern. AllLive (pattern_places known rules pattern)) word.Pattern (pattern_of T) pattern-live n))

    places-live : (n : ℕ) → AllLive (head_place known (head_of T n)
        ∷ (flat_map (phase_places known) (read_kids T word.Phase (phase_of T) n) ++ flat_map (pattern_places known rules) (read_kids T word.Pattern (pattern_of T) n)))
    unfolding AllLive
    places-live n rule m name b = ⊎_elim
        (λ (x : (n ≡ m) × Gives ((14, unknown_phase known (head_of T n).default_phase) ∷ []) rule name).
        ⊎_elim
        (λ (its : (14 ≡ rule) × (unknown_phase known (head_of T n).default_phase ≡ Some name)).
        subst (λ k. is_live T k ≡ true) x.0 (said-live T known (entry_at T n) name its.1))
        (λ (none : ⊥). absurd none) x.1)
        (λ (y : BrokenAmong (flat_map (phase_places known) (read_kids T word.Phase (phase_of T) n) ++ flat_map (pattern_places known rules) (read_kids T word.Pattern (pattern_of T) n)) rule m name).
        parts-live n rule m name y)
        b

  broken-live : (rule n : ℕ) (name : List ℕ) → BrokenAmong (reference_places (raw_schema T)) rule n name → is_live T n ≡ true
  unfolding AllLive
  broken-live = places-live (known_in (raw_schema T)) (abstract_rules (raw_schema T)) (document_element T)

-- the first by number is the first in document order
pub first-in-order : OrderIsByNumber → FirstInOrder
first-in-order by T ordered f = (
  λ (first : IsFirstAmong (reference_places (raw_schema T)) f). record {
    broken = first.broken;
    no_other = λ rule n name b. ⊎_elim
        (λ (x : f.node < n). inl (by T ordered f.node n (broken-live T rule n name b) ∙ lt-ltb f.node n x))
        (λ (y : (f.node ≡ n) × (f.rule ≤ rule)). inr y)
        (first.no_other rule n name b);
  },
  λ (first : IsFirstInOrder T (reference_places (raw_schema T)) f). record {
    broken = first.broken;
    no_other = λ rule n name b. ⊎_elim
        (λ (x : is_before T f.node n ≡ true). inl (ltb-true f.node n (sym (by T ordered f.node n (broken-live T rule n name b)) ∙ x)))
        (λ (y : (f.node ≡ n) × (f.rule ≤ rule)). inr y)
        (first.no_other rule n name b);
  },
)
