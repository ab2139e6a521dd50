-- What a renumbering of a tree keeps: lists without a number, texts that stay apart, and what stands below a node.
use Rattle.std.proofs.Common.{◌≡◌, ◌≢◌, ℕ, Bool, ◌&&◌, List, [], ◌∷◌, map, is_some, refl, sym, ap, ap₂, ◌∙◌, ⊎_elim}
use Rattle.std.specs.Prelude.{option_map}
use Rattle.doc_table.specs.Kinds.{is_text}
use Rattle.doc_table.specs.Laws.{TextsApart}
use Rattle.doc_table.specs.Lists.{occurs}
use Rattle.doc_table.specs.Table.{Table, attrs_of, content_of, is_live, kids_of, kind_at, kind_of, parent_of}
use Rattle.doc_table.specs.Walks.{below}
use Rattle.doc_table.specs.inner.Sound.{Formed}
use Rattle.doc_table.proofs.ListLemmas.{eq_or}
use Rattle.doc_table.proofs.TreeLaws.{well-formed}
use Rattle.doc_edits.specs.Changes.{without}
use Rattle.doc_edits.proofs.ClearLemmas.{without-head, without-tail}
use Rattle.doc_edits.proofs.NumberingLemmas.{occurs-map_same}
use Rattle.doc_undo_laws.proofs.Alongside.{below-along, live-content}
use Rattle.tree_iso.specs.Renumbering.{Renumbers}

-- of the number itself
pub record MovesAt (f : ℕ → ℕ) (T U : Table) (m : ℕ) : Type 0 where
  pub content : content_of U (f m) ≡ content_of T m
  pub parent : parent_of U (f m) ≡ option_map f (parent_of T m)
  pub kids : kids_of U (f m) ≡ map f (kids_of T m)
  pub attributes : attrs_of U (f m) ≡ map f (attrs_of T m)

module _ (f : ℕ → ℕ) (apart : (a b : ℕ) → f a ≡ f b → a ≡ b) where
  pub without-moved : (n : ℕ) (ks : List ℕ) → without (f n) (map f ks) ≡ map f (without n ks)
  without-moved n [] = refl
  without-moved n (k ∷ ks) =
      ⊎_elim (λ (e : n ≡ k). without-head (f n) (f k) (map f ks) (ap f e) ∙ (without-moved n ks ∙ sym (ap (map f) (without-head n k ks e))))
      (λ (ne : n ≢ k). without-tail (f n) (f k) (map f ks) (λ e. ne (apart n k e)) ∙ (ap (λ (l : List ℕ). f k ∷ l) (without-moved n ks) ∙ sym (ap (map f) (without-tail n k ks ne))))
      (eq_or n k)

  pub occurs-moved : (m : ℕ) (xs : List ℕ) → occurs (f m) (map f xs) ≡ occurs m xs
  occurs-moved m xs = occurs-map_same f m xs (λ k h e. apart k m e)

module _ (f : ℕ → ℕ) (T U : Table) (r : Renumbers f T U) where
  pub kind-moved : (n : ℕ) → kind_of U (f n) ≡ kind_of T n
  kind-moved n = ap kind_at (r.content n)

  pub live-moved : (n : ℕ) → is_live U (f n) ≡ is_live T n
  live-moved n = live-content U (f n) ∙ (ap is_some (r.content n) ∙ sym (live-content T n))

  pub texts-moved : (xs : List ℕ) → TextsApart T xs → TextsApart U (map f xs)
  texts-moved [] h = tt
  texts-moved (x ∷ []) h = tt
  texts-moved (x ∷ y ∷ xs) h = (ap₂ (λ (a b : Bool). a && b) (ap is_text (kind-moved x)) (ap is_text (kind-moved y)) ∙ h.0, texts-moved (y ∷ xs) h.1)

  module _ (t : Formed T) (u : Formed U) where
    pub root-moved : f 0 ≡ 0
    root-moved = (well-formed U u).one_root (f 0) (kind-moved 0 ∙ t.root_kind)

    pub below-moved : (n : ℕ) → below U (f n) ≡ map f (below T n)
    below-moved n = below-along f T U t u r.attributes r.kids n

-- trees all of whose numbers move
pub renumbers-of : (f : ℕ → ℕ) (T U : Table) → Formed T → Formed U → ((a b : ℕ) → f a ≡ f b → a ≡ b) → f 0 ≡ 0 → ((m : ℕ) → MovesAt f T U m) → Renumbers f T U
renumbers-of f T U t u apart root moves = record {
  apart = apart;
  in_order = ap (below U) (sym root) ∙ below-along f T U t u (λ n. (moves n).attributes) (λ n. (moves n).kids) 0;
  content = λ n. (moves n).content;
  parent = λ n. (moves n).parent;
  kids = λ n. (moves n).kids;
  attributes = λ n. (moves n).attributes;
}
