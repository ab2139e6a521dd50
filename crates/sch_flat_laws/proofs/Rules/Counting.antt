-- Elements of a schema that count.
use Rattle.std.proofs.Common.{◌≡◌, ℕ, Bool, true, false, not, ◌&&◌, ◌||◌, cond, find, List, [], ◌∷◌, Option, None, Some, is_some, refl, sym, ap, ◌∙◌, subst}
use Rattle.std.specs.List.{list_any}
use Rattle.std.specs.Prelude.{option_and_then, option_map}
use Rattle.std.specs.Str.{bytes_eq}
use Rattle.doc_table.proofs.ListLemmas.{mem-head, mem-tail}
use Rattle.doc_tree.specs.kind.Kind.{Kind}
use Rattle.doc_tree.specs.kind.Kind.TheVariants as kind
use Rattle.doc_tree.specs.Kinds.{is_element}
use Rattle.doc_tree.specs.Laws.{HasWaysUp, Ordered, WellFormed}
use Rattle.doc_tree.specs.Lists.{mem}
use Rattle.doc_tree.specs.Table.{Content, Facts, Name, Table, attribute, comment, content_at, content_of, element, entry_at, instruction, is_live, is_root, kids_of, kind_at, kind_of, parent_of, root, text}
use Rattle.doc_tree.specs.Walks.{order}
use Rattle.sch_rules.specs.declared.word.Word.{Word}
use Rattle.sch_rules.specs.declared.word.Word.TheVariants as word
use Rattle.sch_rules.specs.Elements.{document_element, element_name, first_or, is_at_top, is_foreign, is_ignored, is_other_name, local_in, word_at}
use Rattle.sch_rules.specs.FirstBroken.{first_broken}
use Rattle.sch_rules.specs.Words.{is_word, schematron, word_of}
use Rattle.sch_flat_laws.proofs.Rules.Unbroken.{Held, held_at}

-- a node whose kids count
pub record Counted (T : Table) (n : ℕ) : Type 0 where
  pub live : is_live T n ≡ true
  pub counts : is_ignored T n ≡ false
  pub own : is_foreign T n ≡ false

live-kind : (entry : Option Facts) (its : Kind) → kind_at (content_at entry) ≡ Some its → is_some entry ≡ true
live-kind None its h = absurd (cc)
live-kind (Some facts) its h = refl

root-own : (content : Option Content) → kind_at content ≡ Some kind.Root → is_other_name (element_name content) ≡ false
root-own None h = absurd (cc)
root-own (Some root) h = refl
root-own (Some (element its decls)) h = absurd (cc)
root-own (Some (attribute its value)) h = absurd (cc)
root-own (Some (text characters)) h = absurd (cc)
root-own (Some (comment characters)) h = absurd (cc)
root-own (Some (instruction its body)) h = absurd (cc)

-- a name that is that of an element of a schema is of its namespace
own-name : (name : Option Name) (w : Word) → option_and_then word_of (local_in name) ≡ Some w → is_other_name name ≡ false
own-name None w h = refl
own-name (Some name) w h = by (bytes_eq name.uri schematron) h
  where
    by : (b : Bool) → option_and_then word_of (cond b (Some name.local) None) ≡ Some w → not b ≡ false
    by true h = refl
    by false h = absurd (cc)

-- so is the name of a document element that breaks no rule
top-name : (name : Option Name) →
    cond (true && not (is_word word.Schema (option_and_then word_of (local_in name)))) (option_map (λ (x : Name). x.local) name) None ≡ None → is_other_name name ≡ false
top-name None h = refl
top-name (Some name) h = by (bytes_eq name.uri schematron) h
  where
    by : (b : Bool) → cond (true && not (is_word word.Schema (option_and_then word_of (cond b (Some name.local) None)))) (Some name.local) None ≡ None → not b ≡ false
    by true h = refl
    by false h = absurd (cc)

find-mem : (p : ℕ → Bool) (ks : List ℕ) (k : ℕ) → find p ks ≡ Some k → mem k ks ≡ true
find-mem p [] k h = absurd (cc)
find-mem p (j ∷ ks) k h = by (p j) h (find-mem p ks k)
  where
    by : (b : Bool) → cond b (Some j) (find p ks) ≡ Some k → (find p ks ≡ Some k → mem k ks ≡ true) → mem k (j ∷ ks) ≡ true
    by true h rest = let same : j ≡ k = cc in subst (λ (m : ℕ). mem m (j ∷ ks) ≡ true) same (mem-head j ks)
    by false h rest = mem-tail k j ks (rest h)

module _ (T : Table) (formed : WellFormed T) (ordered : Ordered T) (ways : HasWaysUp T) (none : first_broken T ≡ None) where
  pub held : (n : ℕ) (w : Word) → is_live T n ≡ true → is_ignored T n ≡ false → word_at T n ≡ Some w → Held T n (Some w)
  held n w live counts is =
      subst (Held T n) is (held_at T [] (order T) none n (sym (ordered.live_in_order n) ∙ live) counts)

  -- a kid that is an element of a schema
  counts-below : (n k : ℕ) → Counted T n → parent_of T k ≡ Some n → is_ignored T k ≡ false
  counts-below n k counted up =
      ap (list_any (is_foreign T)) (ways.ancestors_at k n up) ∙ ap (λ (b : Bool). b || is_ignored T n) counted.own ∙ counted.counts

  pub kid_counted : (n k : ℕ) (w : Word) → Counted T n → mem k (kids_of T n) ≡ true → word_at T k ≡ Some w → Counted T k
  kid_counted n k w counted member is = record {
    live = ways.kid_live n k member;
    counts = counts-below n k counted (formed.kid_parent n k member);
    own = own-name (element_name (content_of T k)) w is;
  }

  root-counted : Counted T 0
  root-counted = record {
    live = live-kind (entry_at T 0) kind.Root formed.root_kind;
    counts = ap (list_any (is_foreign T)) (ways.no_ancestors 0 formed.root_parent);
    own = root-own (content_of T 0) formed.root_kind;
  }

  top-counted : (k : ℕ) → mem k (kids_of T 0) ≡ true → Counted T k
  top-counted k member =
      let up = formed.kid_parent 0 k member in
      let live = ways.kid_live 0 k member in
      let counts = counts-below 0 k root-counted up in
      let rules = held_at T [] (order T) none k (sym (ordered.live_in_order k) ∙ live) counts in
      let top : is_at_top T k ≡ true = ap is_root up in
      record {
        live = live;
        counts = counts;
        own = top-name (element_name (content_of T k))
            (ap (λ (b : Bool). cond (b && not (is_word word.Schema (word_at T k))) (option_map (λ (x : Name). x.local) (element_name (content_of T k))) None) (sym top) ∙ rules.top);
      }

  pub document_counted : Counted T (document_element T)
  document_counted = by (find (λ k. is_element (kind_of T k)) (kids_of T 0)) refl
    where
      by : (found : Option ℕ) → find (λ k. is_element (kind_of T k)) (kids_of T 0) ≡ found → Counted T (first_or 0 found)
      by None e = root-counted
      by (Some k) e = top-counted k (find-mem (λ k. is_element (kind_of T k)) (kids_of T 0) k e)
