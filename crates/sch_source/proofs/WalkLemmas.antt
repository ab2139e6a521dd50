-- What is read of a node and all below it.
use Rattle.std.proofs.Common.{◌≡◌, ℕ, true, false, Bool, cond, List, [], ◌∷◌, ◌++◌, Option, None, Some, refl, ap, ◌∙◌, append-nil}
use Rattle.std.specs.List.{flat_map}
use Rattle.std.proofs.lemmas.Grind.{flat_map-append}
use Rattle.sch_base.proofs.Lists.{flat_map-flat}
use Rattle.doc_tree.specs.kind.Kind.TheVariants.{Attribute}
use Rattle.doc_tree.specs.Laws.{Ordered, WellFormed}
use Rattle.doc_tree.specs.Lists.{mem}
use Rattle.doc_tree.specs.Order.{Nested}
use Rattle.doc_tree.specs.Table.{Table, Content, root, element, attribute, text, comment, instruction, attrs_of, content_of, kids_of, kind_at, kind_of, is_live}
use Rattle.doc_tree.specs.Walks.{below, characters_in}
use Rattle.doc_tree.proofs.ListLemmas.{mem-head, mem-tail}
use Rattle.sch_model.specs.declared.parts.Part.{Part}
use Rattle.sch_rules.specs.Elements.{is_foreign, is_ignored, word_at}
use Rattle.sch_rules.specs.RawSchema.{chars_part, counted_text, holds_text, own_part, part_at, text_at}
use Rattle.sch_rules.specs.Elements.{word_above}
use Rattle.sch_source.proofs.PlaceLemmas.{cond-same, ignored-inside, inside, no_element}

flat_map-quiet : {A : Type 0} (f : ℕ → List A) (ns : List ℕ) → ((m : ℕ) → mem m ns ≡ true → f m ≡ []) → flat_map f ns ≡ []
flat_map-quiet f [] quiet = refl
flat_map-quiet f (n ∷ ns) quiet =
    ap (λ l. l ++ flat_map f ns) (quiet n (mem-head n ns)) ∙ flat_map-quiet f ns (λ m h. quiet m (mem-tail m n ns h))

-- what is read of attributes, and of what stands in an element of another namespace, is nothing
pub record IsSilent {A : Type 0} (T : Table) (f : ℕ → List A) : Type 0 where
  pub attribute : (a : ℕ) → kind_of T a ≡ Some Attribute → f a ≡ []
  pub ignored : (n : ℕ) → is_ignored T n ≡ true → f n ≡ []

pub told-foreign : {A : Type 0} (T : Table) → Ordered T → Nested T → (f : ℕ → List A) → IsSilent T f → (n : ℕ) → is_live T n ≡ true → is_foreign T n ≡ true →
    flat_map f (below T n) ≡ f n
told-foreign T ordered nested f silent n live foreign =
    ap (flat_map f) (ordered.below_at n)
    ∙ ap (λ l. f n ++ l) (flat_map-quiet f (inside T ordered nested n) (λ m h. silent.ignored m (ignored-inside T ordered nested n m live foreign h)))
    ∙ append-nil (f n)

pub told-kids : {A : Type 0} (T : Table) → Ordered T → WellFormed T → (f : ℕ → List A) → IsSilent T f → (n : ℕ) →
    flat_map f (below T n) ≡ f n ++ flat_map (λ kid. flat_map f (below T kid)) (kids_of T n)
told-kids T ordered formed f silent n =
    ap (flat_map f) (ordered.below_at n)
    ∙ ap (λ l. f n ++ l) (
    flat_map-append f (attrs_of T n) (flat_map (below T) (kids_of T n))
    ∙ ap (λ l. l ++ flat_map f (flat_map (below T) (kids_of T n))) (flat_map-quiet f (attrs_of T n) (λ a h. silent.attribute a (formed.attribute_kind n a h)))
    ∙ flat_map-flat f (below T) (kids_of T n))

no_characters : (T : Table) (n : ℕ) → kind_of T n ≡ Some Attribute → characters_in (content_of T n) ≡ []
no_characters T n is = by (content_of T n) is
  where
    by : (content : Option Content) → kind_at content ≡ Some Attribute → characters_in content ≡ []
    by None is = refl
    by (Some root) is = refl
    by (Some (element name decls)) is = refl
    by (Some (attribute name value)) is = refl
    by (Some (text characters)) is = absurd (cc)
    by (Some (comment characters)) is = refl
    by (Some (instruction name body)) is = refl

no_text : (T : Table) (n : ℕ) → kind_of T n ≡ Some Attribute → text_at T n ≡ []
no_text T n is =
    ap (λ (characters : List ℕ). cond (holds_text (word_above T n)) characters []) (no_characters T n is) ∙ cond-same (holds_text (word_above T n)) []

no_word : (T : Table) (n : ℕ) → kind_of T n ≡ Some Attribute → word_at T n ≡ None
no_word T n is = rw (no_element T n is) refl

no_part : (T : Table) (n : ℕ) → kind_of T n ≡ Some Attribute → own_part T n ≡ []
no_part T n is = rw (no_word T n is) (ap chars_part (no_text T n is))

pub silent-parts : (T : Table) → IsSilent T (part_at T)
silent-parts T = record {
  attribute = λ a is. ap (λ (parts : List Part). cond (is_ignored T a) [] parts) (no_part T a is) ∙ cond-same (is_ignored T a) [];
  ignored = λ n is. ap (λ (b : Bool). cond b [] (own_part T n)) is;
}

pub silent-text : (T : Table) → IsSilent T (counted_text T)
silent-text T = record {
  attribute = λ a is. ap (λ (text : List ℕ). cond (is_ignored T a) [] text) (no_text T a is) ∙ cond-same (is_ignored T a) [];
  ignored = λ n is. ap (λ (b : Bool). cond b [] (text_at T n)) is;
}

pub own-part : (T : Table) (n : ℕ) → is_ignored T n ≡ false → part_at T n ≡ own_part T n
own-part T n counts = ap (λ (b : Bool). cond b [] (own_part T n)) counts

pub own-text : (T : Table) (n : ℕ) → is_ignored T n ≡ false → counted_text T n ≡ text_at T n
own-text T n counts = ap (λ (b : Bool). cond b [] (text_at T n)) counts
