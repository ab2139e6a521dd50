-- The lines of a node and all below it are those of one item.
use Rattle.std.proofs.Common.{arith, ◌≡◌, ℕ, zero, suc, ◌+◌, ◌≤◌, true, List, [], ◌∷◌, ◌++◌, length, map, Option, None, Some, refl, sym, ap, ◌∙◌, subst, append-nil}
use Rattle.std.specs.List.{flat_map, list_all}
use Rattle.std.proofs.lemmas.Bool.{and_from}
use Rattle.std.proofs.lemmas.List.Folds.{list_all-append}
use Rattle.doc_table.proofs.ListLemmas.{mem-head, mem-tail}
use Rattle.doc_tree.specs.kind.Kind.TheVariants as kind
use Rattle.doc_tree.specs.Kinds.{can_be_kid, holds_kids}
use Rattle.doc_tree.specs.Laws.{HasWaysUp, Walks, WellFormed}
use Rattle.doc_tree.specs.limits.TheConstants.{MAX_DEPTH}
use Rattle.doc_tree.specs.Lines.{Line, declares, closes, first_lines, last_lines, lines_at, lines_below, opens}
use Rattle.doc_tree.specs.Lists.{mem}
use Rattle.doc_tree.specs.Scope.{Decl}
use Rattle.doc_tree.specs.Table.{Table, Content, root, element, attribute, text, comment, instruction, attrs_of, content_of, kids_of, kind_at, kind_of}
use Rattle.doc_tree.specs.Walks.{ancestors}
use Rattle.name_scopes.specs.ScopedTree.{unscoped}
use Rattle.sch_flat_laws.proofs.Reading.Blocks.{Block, Inner, attributes_quiet, comment_block, element_block, inner_append, inner_nil, instruction_block, is_attribute, is_quiet, text_block}

-- what a node and all below it tell, namespaces left out
abbrev pub told : Table → ℕ → List Line
told T n = map unscoped (lines_below T n)

pub map_append : {A B : Type 0} (f : A → B) (xs ys : List A) → map f (xs ++ ys) ≡ map f xs ++ map f ys
map_append f [] ys = refl
map_append f (x ∷ xs) ys = ap (λ l. f x ∷ l) (map_append f xs ys)

pub map_flat : {A B C : Type 0} (f : B → C) (g : A → List B) (xs : List A) → map f (flat_map g xs) ≡ flat_map (λ x. map f (g x)) xs
map_flat f g [] = refl
map_flat f g (x ∷ xs) = map_append f (g x) (flat_map g xs) ∙ ap (λ l. map f (g x) ++ l) (map_flat f g xs)

no-members : (xs : List ℕ) → ((x : ℕ) → mem x xs ≡ true → ⊥) → xs ≡ []
no-members [] h = refl
no-members (x ∷ xs) h = absurd (h x (mem-head x xs))

-- what an element's attributes tell
abbrev pub attributes_told : Table → ℕ → List Line
attributes_told T n = map unscoped (flat_map (opens T) (attrs_of T n))

pub quiet_decls : (decls : List Decl) → list_all is_quiet (map unscoped (map declares decls)) ≡ true
unfolding is_quiet
quiet_decls [] = refl
quiet_decls (d ∷ ds) = quiet_decls ds

module _ (T : Table) (formed : WellFormed T) (ways : HasWaysUp T) (walks : Walks T) where
  pub told_at : (n : ℕ) →
      told T n ≡ (map unscoped (opens T n) ++ attributes_told T n) ++ (flat_map (told T) (kids_of T n) ++ map unscoped (closes T n))
  told_at n =
      ap (map unscoped) (walks.lines_at n)
      ∙ map_append unscoped (opens T n ++ flat_map (opens T) (attrs_of T n)) (flat_map (lines_below T) (kids_of T n) ++ closes T n)
      ∙ ap (λ l. l ++ map unscoped (flat_map (lines_below T) (kids_of T n) ++ closes T n))
      (map_append unscoped (opens T n) (flat_map (opens T) (attrs_of T n)))
      ∙ ap (λ l. (map unscoped (opens T n) ++ attributes_told T n) ++ l)
      (map_append unscoped (flat_map (lines_below T) (kids_of T n)) (closes T n)
      ∙ ap (λ l. l ++ map unscoped (closes T n)) (map_flat unscoped (lines_below T) (kids_of T n)))

  one-attribute : (content : Option Content) → kind_at content ≡ Some kind.Attribute → list_all is_attribute (map unscoped (lines_at first_lines content)) ≡ true
  unfolding is_attribute
  one-attribute None h = absurd (cc)
  one-attribute (Some root) h = absurd (cc)
  one-attribute (Some (element name decls)) h = absurd (cc)
  one-attribute (Some (attribute name value)) h = refl
  one-attribute (Some (text characters)) h = absurd (cc)
  one-attribute (Some (comment characters)) h = absurd (cc)
  one-attribute (Some (instruction name body)) h = absurd (cc)

  quiet-append : (xs ys : List Line) → list_all is_quiet xs ≡ true → list_all is_quiet ys ≡ true → list_all is_quiet (xs ++ ys) ≡ true
  quiet-append xs ys h k = list_all-append is_quiet xs ys ∙ and_from (list_all is_quiet xs) (list_all is_quiet ys) h k

  plain-attributes : (n : ℕ) (attrs : List ℕ) → ((a : ℕ) → mem a attrs ≡ true → mem a (attrs_of T n) ≡ true) →
      list_all is_attribute (map unscoped (flat_map (opens T) attrs)) ≡ true
  plain-attributes n [] within = refl
  plain-attributes n (a ∷ attrs) within =
      ap (list_all is_attribute) (map_append unscoped (opens T a) (flat_map (opens T) attrs))
      ∙ list_all-append is_attribute (map unscoped (opens T a)) (map unscoped (flat_map (opens T) attrs))
      ∙ and_from _ _ (one-attribute (content_of T a) (formed.attribute_kind n a (within a (mem-head a attrs))))
      (plain-attributes n attrs (λ b h. within b (mem-tail b a attrs h)))

  pub plain_attributes : (n : ℕ) → list_all is_attribute (attributes_told T n) ≡ true
  plain_attributes n = plain-attributes n (attrs_of T n) (λ a h. h)

  pub quiet_attributes : (n : ℕ) → list_all is_quiet (attributes_told T n) ≡ true
  quiet_attributes n = attributes_quiet (attributes_told T n) (plain_attributes n)

  inner-kids : (n : ℕ) → ((k : ℕ) → mem k (kids_of T n) ≡ true → Block (told T k)) → (kids : List ℕ) →
      ((k : ℕ) → mem k kids ≡ true → mem k (kids_of T n) ≡ true) → Inner (flat_map (told T) kids)
  inner-kids n each [] within = inner_nil
  inner-kids n each (k ∷ kids) within =
      inner_append (told T k) (flat_map (told T) kids) (each k (within k (mem-head k kids))).inner
      (inner-kids n each kids (λ b h. within b (mem-tail b k kids h)))

  -- a leaf tells its own line
  leaf-told : (n : ℕ) (content : Content) → content_of T n ≡ Some content → (kind_of T n ≡ Some kind.Element → ⊥) → (holds_kids (kind_of T n) ≡ true → ⊥) →
      told T n ≡ map unscoped (first_lines content) ++ map unscoped (last_lines content)
  leaf-told n content is no_attrs no_kids =
      let attrs : attrs_of T n ≡ [] = no-members (attrs_of T n) (λ a h. no_attrs (formed.owner_kind n a h)) in
      let kids : kids_of T n ≡ [] = no-members (kids_of T n) (λ k h. no_kids (formed.holder_kind n k h)) in
      told_at n
      ∙ ap (λ l. (map unscoped (opens T n) ++ map unscoped (flat_map (opens T) l)) ++ (flat_map (told T) (kids_of T n) ++ map unscoped (closes T n))) attrs
      ∙ ap (λ l. (map unscoped (opens T n) ++ []) ++ (flat_map (told T) l ++ map unscoped (closes T n))) kids
      ∙ ap (λ l. l ++ map unscoped (closes T n)) (append-nil (map unscoped (opens T n)))
      ∙ ap (λ (c : Option Content). map unscoped (lines_at first_lines c) ++ map unscoped (lines_at last_lines c)) is

  node-block : (n : ℕ) (content : Option Content) → content_of T n ≡ content → can_be_kid (kind_at content) ≡ true →
      ((k : ℕ) → mem k (kids_of T n) ≡ true → Block (told T k)) → Block (told T n)
  node-block n None is kid each = absurd (cc)
  node-block n (Some root) is kid each = absurd (cc)
  node-block n (Some (attribute name value)) is kid each = absurd (cc)
  node-block n (Some (element name decls)) is kid each =
      subst Block
      (sym (told_at n
      ∙ ap (λ (c : Option Content). (map unscoped (lines_at first_lines c) ++ attributes_told T n)
      ++ (flat_map (told T) (kids_of T n) ++ map unscoped (lines_at last_lines c))) is))
      (element_block _ _ (map unscoped (map declares decls) ++ attributes_told T n) (flat_map (told T) (kids_of T n))
      (quiet-append (map unscoped (map declares decls)) (attributes_told T n) (quiet_decls decls) (quiet_attributes n))
      (inner-kids n each (kids_of T n) (λ k h. h)))
  node-block n (Some (text characters)) is kid each =
      subst Block (sym (leaf-told n (text characters) is (λ h. absurd (cc)) (λ h. absurd (cc)))) (text_block characters)
  node-block n (Some (comment characters)) is kid each =
      subst Block (sym (leaf-told n (comment characters) is (λ h. absurd (cc)) (λ h. absurd (cc)))) (comment_block characters)
  node-block n (Some (instruction name body)) is kid each =
      subst Block (sym (leaf-told n (instruction name body) is (λ h. absurd (cc)) (λ h. absurd (cc)))) (instruction_block _ body)

  tree-block : (m n : ℕ) → MAX_DEPTH + 2 ≤ length (ancestors T n) + m → can_be_kid (kind_of T n) ≡ true → Block (told T n)
  tree-block zero n bound kid = absurd (omega (arith, bound, ways.ancestors_bound n))
  tree-block (suc m) n bound kid = node-block n (content_of T n) refl kid
      (λ k h. tree-block m k (omega (arith, bound, ap length (ways.ancestors_at k n (formed.kid_parent n k h)))) (formed.kid_kind n k h))

  -- a kid tells the lines of one item
  pub kid_block : (n k : ℕ) → mem k (kids_of T n) ≡ true → Block (told T k)
  kid_block n k h = tree-block (MAX_DEPTH + 2) k (omega arith) (formed.kid_kind n k h)
