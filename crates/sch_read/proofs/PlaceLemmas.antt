-- Places at which no rule can be broken: attributes, and what stands in an element of another namespace.
use Rattle.std.proofs.Common.{◌≡◌, ℕ, suc, ◌+◌, ◌≤◌, Bool, true, false, cond, ◌||◌, List, [], ◌∷◌, ◌++◌, length, Option, None, Some, Result, Ok, refl, sym, ap, ◌∙◌, subst, arith, eqb, eqb-true, true≢false}
use Rattle.std.specs.List.{flat_map, list_any}
use Rattle.doc_tree.specs.kind.Kind.TheVariants.{Attribute}
use Rattle.doc_tree.specs.Laws.{HasWaysUp, Ordered, WellFormed}
use Rattle.doc_tree.specs.Lists.{mem, occurs}
use Rattle.doc_tree.specs.Order.{Nested}
use Rattle.doc_tree.specs.Table.{Table, Content, root, element, attribute, text, comment, instruction, attrs_of, content_of, kids_of, kind_at, kind_of, is_live}
use Rattle.doc_tree.specs.Walks.{above, ancestors, below, order}
use Rattle.doc_tree.proofs.ListLemmas.{In-mem, mem-In, occurs-append, occurs-same}
use Rattle.sch_rules.specs.Elements.{element_name, is_foreign, is_ignored, word_at}
use Rattle.sch_rules.specs.FirstBroken.{fault_at, least}
use Rattle.sch_rules.specs.Keys.{Key, keys_at}
use Rattle.sch_rules.specs.Rules.{rules}
use Rattle.sch_model.specs.declared.fault.SchemaError.{SchemaError}
use Rattle.sch_read.specs.inner.Told.{Told}
use Rattle.sch_read.proofs.ToldLemmas.{Checked, IsQuiet, checked-one, checked-quiet, checked-then}
use Rattle.sch_source.proofs.PlaceLemmas.{cond-same, ignored-inside, inside, no_element}

pub quiet-attribute : (T : Table) (n : ℕ) → kind_of T n ≡ Some Attribute → IsQuiet T n
quiet-attribute T n is = record { no_fault = no_fault; no_key = no_key }
  where
    none : element_name (content_of T n) ≡ None
    none = no_element T n is

    no_word : word_at T n ≡ None
    no_word = rw none refl

    no_rule : (taken : List Key) → least n (rules T taken n) ≡ None
    no_rule taken = rw (no_word, none) (rw (cond-same {A = Option (List ℕ)} _ None) refl)

    no_fault : (taken : List Key) → fault_at T taken n ≡ None
    no_fault taken = rw (no_rule taken) (cond-same (is_ignored T n) None)

    no_key : keys_at T n ≡ []
    no_key = rw no_word (cond-same (is_ignored T n) [])

pub quiet-ignored : (T : Table) (n : ℕ) → is_ignored T n ≡ true → IsQuiet T n
quiet-ignored T n is = record { no_fault = λ taken. rw is refl; no_key = rw is refl }

module _ (T : Table) (ordered : Ordered T) (nested : Nested T) where
  pub below-foreign : (a b : List Key) (n : ℕ) → is_live T n ≡ true → is_foreign T n ≡ true →
      Told (fault_at T a n) (keys_at T n) a b (Ok tt) → Checked T a b (below T n) (Ok tt)
  below-foreign a b n live foreign told =
      subst (λ ns. Checked T a b ns (Ok tt)) (sym (ordered.below_at n))
      (checked-then T a b b (n ∷ []) (inside T ordered nested n) (Ok tt) (checked-one T a b n (Ok tt) told)
      (checked-quiet T b (inside T ordered nested n) (λ m h. quiet-ignored T m (ignored-inside T ordered nested n m live foreign h))))

  pub below-kids : WellFormed T → (a b c : List Key) (n : ℕ) (r : Result (Unit {0}) SchemaError) →
      Told (fault_at T a n) (keys_at T n) a b (Ok tt) → Checked T b c (flat_map (below T) (kids_of T n)) r → Checked T a c (below T n) r
  below-kids formed a b c n r told next =
      subst (λ ns. Checked T a c ns r) (sym (ordered.below_at n))
      (checked-then T a b c (n ∷ []) (inside T ordered nested n) r (checked-one T a b n (Ok tt) told)
      (checked-then T b b c (attrs_of T n) (flat_map (below T) (kids_of T n)) r
      (checked-quiet T b (attrs_of T n) (λ m h. quiet-attribute T m (formed.attribute_kind n m h))) next))
