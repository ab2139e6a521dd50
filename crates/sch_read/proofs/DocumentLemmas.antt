-- The document element of a document that breaks no rule.
use Rattle.std.proofs.Common.{◌≡◌, ℕ, Bool, true, false, cond, not, ◌&&◌, List, [], ◌∷◌, ◌++◌, Option, None, Some, find, refl, ap, ◌∙◌, inl, subst}
use Rattle.std.specs.List.{flat_map, list_any}
use Rattle.std.specs.Prelude.{option_and_then, option_map}
use Rattle.std.specs.Str.{bytes_eq}
use Rattle.doc_tree.specs.kind.Kind.TheVariants.{Root}
use Rattle.doc_tree.specs.Kinds.{is_element}
use Rattle.doc_tree.specs.Laws.{HasWaysUp, Ordered, WellFormed}
use Rattle.doc_tree.specs.Lists.{mem}
use Rattle.doc_tree.specs.Table.{Content, Name, Table, attribute, attrs_of, comment, content_of, element, instruction, is_live, is_root, kids_of, kind_at, kind_of, parent_of, root, text}
use Rattle.doc_tree.specs.Walks.{below}
use Rattle.doc_tree.proofs.ListLemmas.{mem-head, mem-tail}
use Rattle.sch_rules.specs.Elements.{document_element, element_name, first_or, is_at_top, is_foreign, is_ignored, is_other_name, local_in, word_at}
use Rattle.sch_rules.specs.FirstBroken.{Broken}
use Rattle.sch_rules.specs.Rules.{wrong_document}
use Rattle.sch_rules.specs.Words.{schematron, word_of}
use Rattle.sch_source.specs.Counts.{Counts, Stands}
use Rattle.sch_source.proofs.ListLemmas.{found-mem}
use Rattle.sch_source.proofs.PlaceLemmas.{stands_below}

-- the root is no element
root_not_foreign : (T : Table) → kind_of T 0 ≡ Some Root → is_foreign T 0 ≡ false
root_not_foreign T is = by (content_of T 0) is
  where
    by : (content : Option Content) → kind_at content ≡ Some Root → is_other_name (element_name content) ≡ false
    by None is = refl
    by (Some root) is = refl
    by (Some (element name decls)) is = absurd (cc)
    by (Some (attribute name value)) is = refl
    by (Some (text characters)) is = refl
    by (Some (comment characters)) is = refl
    by (Some (instruction name body)) is = refl

-- an element of another namespace has a name, and is no element of the schema
pub record IsOther (name : Option Name) : Type 0 where
  pub its : Name
  pub is : name ≡ Some its
  pub no_word : option_and_then word_of (local_in name) ≡ None

other_name : (name : Option Name) → is_other_name name ≡ true → IsOther name
other_name None h = absurd (cc)
other_name (Some name) h = record { its = name; is = refl; no_word = by (bytes_eq name.uri schematron) h }
  where
    by : (b : Bool) → not b ≡ true → option_and_then word_of (cond b (Some name.local) None) ≡ None
    by true h = absurd (cc)
    by false h = refl

module _ (T : Table) (formed : WellFormed T) (ordered : Ordered T) (ways : HasWaysUp T) where
  root_live : is_live T 0 ≡ true
  root_live = let first = ordered.root_first in ordered.live_in_order 0 ∙ (ap (mem 0) first.1 ∙ mem-head 0 first.0)

  root_ignored : is_ignored T 0 ≡ false
  root_ignored = ap (list_any (is_foreign T)) (ways.no_ancestors 0 formed.root_parent)

  root_counts : Counts T 0
  root_counts = record { stands = record { lives = root_live; counts = root_ignored }; own = root_not_foreign T formed.root_kind }

  -- a document element of another namespace breaks the first rule
  foreign_broken : (d : ℕ) → Stands T d → mem d (kids_of T 0) ≡ true → is_foreign T d ≡ true → (name : List ℕ) × Broken T 1 d name
  foreign_broken d stands member foreign =
      let other = other_name (element_name (content_of T d)) foreign in
      let at = ordered.below_in_order d stands.lives in
      let up : parent_of T d ≡ Some 0 = formed.kid_parent 0 d member in
      let top : is_at_top T d ≡ true = ap is_root up in
      let given : wrong_document T d (word_at T d) ≡ Some other.its.local =
      ap (wrong_document T d) other.no_word
      ∙ ap (λ (b : Bool). cond (b && true) (option_map (λ (n : Name). n.local) (element_name (content_of T d))) None) top
      ∙ ap (option_map (λ (n : Name). n.local)) other.is in (
        other.its.local,
        record {
          before = at.0;
          after = (attrs_of T d ++ flat_map (below T) (kids_of T d)) ++ at.1;
          place = at.2 ∙ ap (λ l. at.0 ++ (l ++ at.1)) (ordered.below_at d);
          counts = stands.counts;
          gives = inl (refl, given);
        },
      )

  pub document_counts : ((rule n : ℕ) (name : List ℕ) → Broken T rule n name → ⊥) → Counts T (document_element T)
  document_counts none = by (find (λ k. is_element (kind_of T k)) (kids_of T 0)) refl
    where
      own : (d : ℕ) → Stands T d → mem d (kids_of T 0) ≡ true → (b : Bool) → is_foreign T d ≡ b → is_foreign T d ≡ false
      own d stands member true e = let broken = foreign_broken d stands member e in absurd (none 1 d broken.0 broken.1)
      own d stands member false e = e

      by : (o : Option ℕ) → find (λ k. is_element (kind_of T k)) (kids_of T 0) ≡ o → Counts T (first_or 0 o)
      by None e = root_counts
      by (Some d) e =
          let member = found-mem (λ k. is_element (kind_of T k)) (kids_of T 0) d e in
          let at = stands_below T formed ways 0 d member in
          let stands : Stands T d = record { lives = at.lives; counts = at.counts root_ignored (root_counts.own) } in
          record { stands = stands; own = own d stands member (is_foreign T d) refl }
