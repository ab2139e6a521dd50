-- Lines that belong together: those of one item, an element with all that it holds or a leaf.
use Rattle.std.proofs.Common.{◌≡◌, ℕ, zero, suc, Bool, true, false, List, [], ◌∷◌, ◌++◌, refl, sym, ap, ◌∙◌, append_assoc}
use Rattle.std.specs.List.{flat_map, list_all}
use Rattle.std.proofs.lemmas.Bool.{and_parts}
use Rattle.std.proofs.lemmas.List.{append_cancel_right}
use Rattle.doc_tree.specs.Lines.{Line, starts, declares, has_attribute, ends, has_text, has_comment, has_instruction}
use Rattle.doc_tree.specs.Table.{Name}

-- what comes after the item that is open so many elements deep
unfoldable pub rest_after : ℕ → List Line → List Line
rest_after depth [] = []
rest_after depth (starts name ∷ lines) = rest_after (suc depth) lines
rest_after depth (declares decl ∷ lines) = rest_after depth lines
rest_after depth (has_attribute name value ∷ lines) = rest_after depth lines
rest_after zero (ends name ∷ lines) = lines
rest_after (suc zero) (ends name ∷ lines) = lines
rest_after (suc (suc depth)) (ends name ∷ lines) = rest_after (suc depth) lines
rest_after zero (has_text text ∷ lines) = lines
rest_after (suc depth) (has_text text ∷ lines) = rest_after (suc depth) lines
rest_after zero (has_comment text ∷ lines) = lines
rest_after (suc depth) (has_comment text ∷ lines) = rest_after (suc depth) lines
rest_after zero (has_instruction name body ∷ lines) = lines
rest_after (suc depth) (has_instruction name body ∷ lines) = rest_after (suc depth) lines

-- whether a line is of a declaration or an attribute
unfoldable pub is_quiet : Line → Bool
is_quiet (starts name) = false
is_quiet (declares decl) = true
is_quiet (has_attribute name value) = true
is_quiet (ends name) = false
is_quiet (has_text text) = false
is_quiet (has_comment text) = false
is_quiet (has_instruction name body) = false

unfoldable pub is_attribute : Line → Bool
is_attribute (starts name) = false
is_attribute (declares decl) = false
is_attribute (has_attribute name value) = true
is_attribute (ends name) = false
is_attribute (has_text text) = false
is_attribute (has_comment text) = false
is_attribute (has_instruction name body) = false

pub attributes_quiet : (lines : List Line) → list_all is_attribute lines ≡ true → list_all is_quiet lines ≡ true
unfolding is_attribute is_quiet
attributes_quiet [] h = refl
attributes_quiet (starts name ∷ lines) h = absurd (cc)
attributes_quiet (declares decl ∷ lines) h = absurd (cc)
attributes_quiet (has_attribute name value ∷ lines) h = attributes_quiet lines h
attributes_quiet (ends name ∷ lines) h = absurd (cc)
attributes_quiet (has_text text ∷ lines) h = absurd (cc)
attributes_quiet (has_comment text ∷ lines) h = absurd (cc)
attributes_quiet (has_instruction name body ∷ lines) h = absurd (cc)

-- whether no such line comes first
unfoldable pub is_loud : List Line → Bool
is_loud [] = true
is_loud (starts name ∷ lines) = true
is_loud (declares decl ∷ lines) = false
is_loud (has_attribute name value ∷ lines) = false
is_loud (ends name ∷ lines) = true
is_loud (has_text text ∷ lines) = true
is_loud (has_comment text ∷ lines) = true
is_loud (has_instruction name body ∷ lines) = true

-- whole items, in an element
pub record Inner (lines : List Line) : Type 0 where
  pub within : (depth : ℕ) (later : List Line) → rest_after (suc depth) (lines ++ later) ≡ rest_after (suc depth) later
  pub loud : (later : List Line) → is_loud later ≡ true → is_loud (lines ++ later) ≡ true

-- one item
pub record Block (lines : List Line) : Type 0 where
  pub top : (later : List Line) → rest_after 0 (lines ++ later) ≡ later
  pub inner : Inner lines
  pub first : (later : List Line) → is_loud (lines ++ later) ≡ true

pub inner_nil : Inner []
inner_nil = record { within = λ depth later. refl; loud = λ later h. h }

pub inner_append : (xs ys : List Line) → Inner xs → Inner ys → Inner (xs ++ ys)
inner_append xs ys first last = record {
  within = λ depth later.
      ap (rest_after (suc depth)) (append_assoc xs ys later) ∙ first.within depth (ys ++ later) ∙ last.within depth later;
  loud = λ later h. ap is_loud (append_assoc xs ys later) ∙ first.loud (ys ++ later) (last.loud later h);
}

pub inner_flat : {A : Type 0} (f : A → List Line) → ((x : A) → Inner (f x)) → (xs : List A) → Inner (flat_map f xs)
inner_flat f each [] = inner_nil
inner_flat f each (x ∷ xs) = inner_append (f x) (flat_map f xs) (each x) (inner_flat f each xs)

quiet-within : (lines : List Line) → list_all is_quiet lines ≡ true → (depth : ℕ) (later : List Line) →
    rest_after (suc depth) (lines ++ later) ≡ rest_after (suc depth) later
unfolding rest_after is_quiet
quiet-within [] h depth later = refl
quiet-within (starts name ∷ lines) h depth later = absurd (cc)
quiet-within (declares decl ∷ lines) h depth later = quiet-within lines h depth later
quiet-within (has_attribute name value ∷ lines) h depth later = quiet-within lines h depth later
quiet-within (ends name ∷ lines) h depth later = absurd (cc)
quiet-within (has_text text ∷ lines) h depth later = absurd (cc)
quiet-within (has_comment text ∷ lines) h depth later = absurd (cc)
quiet-within (has_instruction name body ∷ lines) h depth later = absurd (cc)

-- an element
pub element_block : (name last : Name) (head inside : List Line) → list_all is_quiet head ≡ true → Inner inside →
    Block (starts name ∷ (head ++ (inside ++ ends last ∷ [])))
unfolding rest_after is_loud
element_block name last head inside quiet inner = record {
  top = λ later. at 0 later;
  inner = record { within = λ depth later. at (suc depth) later; loud = λ later h. refl };
  first = λ later. refl;
}
  where
    at : (depth : ℕ) (later : List Line) →
        rest_after (suc depth) ((head ++ (inside ++ ends last ∷ [])) ++ later) ≡ rest_after (suc depth) (ends last ∷ later)
    at depth later =
        ap (rest_after (suc depth)) (append_assoc head (inside ++ ends last ∷ []) later)
        ∙ quiet-within head quiet depth ((inside ++ ends last ∷ []) ++ later)
        ∙ ap (rest_after (suc depth)) (append_assoc inside (ends last ∷ []) later)
        ∙ inner.within depth (ends last ∷ later)

pub text_block : (text : List ℕ) → Block (has_text text ∷ [])
unfolding rest_after is_loud
text_block text = record { top = λ later. refl; inner = record { within = λ depth later. refl; loud = λ later h. refl }; first = λ later. refl }

pub comment_block : (text : List ℕ) → Block (has_comment text ∷ [])
unfolding rest_after is_loud
comment_block text = record { top = λ later. refl; inner = record { within = λ depth later. refl; loud = λ later h. refl }; first = λ later. refl }

pub instruction_block : (name : Name) (body : List ℕ) → Block (has_instruction name body ∷ [])
unfolding rest_after is_loud
instruction_block name body = record { top = λ later. refl; inner = record { within = λ depth later. refl; loud = λ later h. refl }; first = λ later. refl }

-- an item has lines
pub no_block : Block [] → ⊥
unfolding rest_after
no_block block = let h : [] ≡ has_text [] ∷ [] = block.top (has_text [] ∷ []) in absurd (cc)

-- items that come first are told apart by their lines
pub split_blocks : (xs ys more later : List Line) → Block xs → Block ys → xs ++ more ≡ ys ++ later → (xs ≡ ys) × (more ≡ later)
split_blocks xs ys more later first other same =
    let rest : more ≡ later = sym (first.top more) ∙ ap (rest_after 0) same ∙ other.top later in
    (append_cancel_right xs ys more (same ∙ ap (λ l. ys ++ l) (sym rest)), rest)

loud-quiet : (line : Line) (lines : List Line) → is_quiet line ≡ true → is_loud (line ∷ lines) ≡ true → ⊥
unfolding is_quiet is_loud
loud-quiet (starts name) lines q l = absurd (cc)
loud-quiet (declares decl) lines q l = absurd (cc)
loud-quiet (has_attribute name value) lines q l = absurd (cc)
loud-quiet (ends name) lines q l = absurd (cc)
loud-quiet (has_text text) lines q l = absurd (cc)
loud-quiet (has_comment text) lines q l = absurd (cc)
loud-quiet (has_instruction name body) lines q l = absurd (cc)

-- what comes before the first item of an element
pub split_quiet : (xs ys more later : List Line) → list_all is_quiet xs ≡ true → list_all is_quiet ys ≡ true → is_loud more ≡ true → is_loud later ≡ true →
    xs ++ more ≡ ys ++ later → (xs ≡ ys) × (more ≡ later)
split_quiet [] [] more later qx qy lx ly same = (refl, same)
split_quiet [] (y ∷ ys) more later qx qy lx ly same =
    absurd (loud-quiet y (ys ++ later) (and_parts (is_quiet y) (list_all is_quiet ys) qy).0 (ap is_loud (sym same) ∙ lx))
split_quiet (x ∷ xs) [] more later qx qy lx ly same =
    absurd (loud-quiet x (xs ++ more) (and_parts (is_quiet x) (list_all is_quiet xs) qx).0 (ap is_loud same ∙ ly))
split_quiet (x ∷ xs) (y ∷ ys) more later qx qy lx ly same =
    let head : x ≡ y = cc in
    let rest : xs ++ more ≡ ys ++ later = cc in
    let parts = split_quiet xs ys more later (and_parts (is_quiet x) (list_all is_quiet xs) qx).1 (and_parts (is_quiet y) (list_all is_quiet ys) qy).1 lx ly rest in
    (cc, parts.1)
