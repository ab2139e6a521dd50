-- Messages, as they are read.
use Rattle.std.proofs.Common.{◌≡◌, ℕ, Bool, true, false, ◌||◌, cond, List, [], ◌∷◌, ◌++◌, Option, None, Some, map, refl, sym, ap, ◌∙◌, subst, append-nil}
use Rattle.std.specs.List.{flat_map, list_all, list_any}
use Rattle.std.specs.Prelude.{codes, option_and_then}
use Rattle.std.proofs.lemmas.Bool.{and_parts}
use Rattle.std.proofs.lemmas.Grind.{flat_map-append}
use Rattle.doc_table.proofs.ListLemmas.{mem-head, mem-tail}
use Rattle.doc_tree.specs.kind.Kind.TheVariants as kind
use Rattle.doc_tree.specs.Kinds.{can_be_kid, holds_kids}
use Rattle.doc_tree.specs.Laws.{HasWaysUp, Ordered, Walks, WellFormed}
use Rattle.doc_tree.specs.Lines.{has_text}
use Rattle.doc_tree.specs.Lists.{mem}
use Rattle.doc_tree.specs.Scope.{HasScopes, xmlns_prefix}
use Rattle.doc_tree.specs.Table.{Table, Content, root, element, attribute, text, comment, instruction, attrs_of, content_of, kids_of, kind_at, kind_of, parent_of}
use Rattle.doc_tree.specs.Walks.{below, characters_in}
use Rattle.name_scopes.specs.Scoping.{InScope}
use Rattle.sch_model.specs.declared.parts.Part.{Part}
use Rattle.sch_model.specs.declared.parts.Part.TheVariants.{Chars, ValueOf, Name}
use Rattle.sch_rules.specs.declared.word.Word.{Word}
use Rattle.sch_rules.specs.declared.word.Word.TheVariants as word
use Rattle.sch_rules.specs.Attributes.{said as said_at, said_text}
use Rattle.sch_rules.specs.Elements.{element_name, is_foreign, is_ignored, local_in, word_above, word_at}
use Rattle.sch_rules.specs.RawSchema.{chars_before, chars_part, holds_text, joined, message_of, own_part, part_at, text_at}
use Rattle.sch_rules.specs.Words.{has_text as has_text_word, is_word, word_of}
use Rattle.sch_flat.specs.FlatDocument.{characters, only_given, part_events}
use Rattle.sch_flat_laws.specs.Joined.{are_joined}
use Rattle.sch_model.specs.Placeless.{is_some_part, placeless_part}
use Rattle.sch_flat_laws.proofs.Reading.Blocks.{text_block}
use Rattle.sch_flat_laws.proofs.Reading.Document.{are_kids, kid_items}
use Rattle.sch_flat_laws.proofs.Reading.Elements.{told_as}
use Rattle.sch_flat_laws.proofs.Reading.EventBlocks.{Chunk, chunk_element, holds_nil, said}
use Rattle.sch_flat_laws.proofs.Reading.Kids.{Items, Pairs, none_left, take_if}
use Rattle.sch_flat_laws.proofs.Reading.Leaves.{AreKids}
use Rattle.sch_flat_laws.proofs.Reading.Places.{Place, Read, read_element}
use Rattle.sch_flat_laws.proofs.Reading.TreeBlocks.{told}

pub part_chunk : (part : Part) → is_some_part part ≡ true → Chunk (part_events part)
part_chunk (Chars []) h = absurd (cc)
part_chunk (Chars (byte ∷ characters)) h = record { block = text_block (byte ∷ characters) }
part_chunk (ValueOf node select) h = chunk_element (codes "sch:value-of") (only_given ((codes "select", Some select) ∷ [])) [] holds_nil
part_chunk (Name node path) h = chunk_element (codes "sch:name") (only_given ((codes "path", path) ∷ [])) [] holds_nil

-- parts that are joined stay so
joined-stays : (parts : List Part) → are_joined false parts ≡ true → joined parts ≡ parts
joined-stays [] h = refl
joined-stays (ValueOf n select ∷ parts) h = ap (λ l. ValueOf n select ∷ l) (joined-stays parts h)
joined-stays (Name n path ∷ parts) h = ap (λ l. Name n path ∷ l) (joined-stays parts h)
joined-stays (Chars characters ∷ []) h = refl
joined-stays (Chars characters ∷ Chars more ∷ parts) h = absurd (cc)
joined-stays (Chars characters ∷ ValueOf n select ∷ parts) h = ap (λ l. Chars characters ∷ ValueOf n select ∷ l) (joined-stays parts h)
joined-stays (Chars characters ∷ Name n path ∷ parts) h = ap (λ l. Chars characters ∷ Name n path ∷ l) (joined-stays parts h)

before-forgets : (characters : List ℕ) (parts : List Part) → chars_before characters (map placeless_part parts) ≡ map placeless_part (chars_before characters parts)
before-forgets characters [] = refl
before-forgets characters (Chars more ∷ parts) = refl
before-forgets characters (ValueOf n select ∷ parts) = refl
before-forgets characters (Name n path ∷ parts) = refl

joined-forgets : (parts : List Part) → joined (map placeless_part parts) ≡ map placeless_part (joined parts)
joined-forgets [] = refl
joined-forgets (Chars characters ∷ parts) = ap (chars_before characters) (joined-forgets parts) ∙ before-forgets characters (joined parts)
joined-forgets (ValueOf n select ∷ parts) = ap (λ l. ValueOf 0 select ∷ l) (joined-forgets parts)
joined-forgets (Name n path ∷ parts) = ap (λ l. Name 0 path ∷ l) (joined-forgets parts)

pub map_append : {A B : Type 0} (f : A → B) (xs ys : List A) → map f (xs ++ ys) ≡ map f xs ++ map f ys
map_append f [] ys = refl
map_append f (x ∷ xs) ys = ap (λ l. f x ∷ l) (map_append f xs ys)

no-members : (xs : List ℕ) → ((x : ℕ) → mem x xs ≡ true → ⊥) → xs ≡ []
no-members [] h = refl
no-members (x ∷ xs) h = absurd (h x (mem-head x xs))

pub either_nothing : (b : Bool) → cond {A = List ℕ} b [] [] ≡ []
either_nothing true = refl
either_nothing false = refl

-- what a node without a word gives
plain-part : (T : Table) (n : ℕ) (characters : List ℕ) → is_ignored T n ≡ false → word_at T n ≡ None → text_at T n ≡ characters → part_at T n ≡ chars_part characters
plain-part T n characters counts none is =
    ap (λ b. cond b [] (own_part T n)) counts
    ∙ ap (λ w. cond (is_word word.ValueOf w) (ValueOf n (option_text T n) ∷ []) (cond (is_word word.Name w) (Name n (said_at T n (codes "path")) ∷ []) (chars_part (text_at T n)))) none
    ∙ ap chars_part is
  where
    option_text : Table → ℕ → List ℕ
    option_text T n = said_text T n (codes "select")

module _ (T : Table) (formed : WellFormed T) (ordered : Ordered T) (ways : HasWaysUp T) (walks : Walks T) (scopes : HasScopes T) (in_scope : InScope T) where
  -- below an element of the schema everything counts
  pub counts_under : (n k : ℕ) → Place T n → parent_of T k ≡ Some n → is_ignored T k ≡ false
  counts_under n k place up =
      ap (list_any (is_foreign T)) (ways.ancestors_at k n up) ∙ ap (λ b. b || is_ignored T n) place.own ∙ place.counts

  attribute-word : (content : Option Content) → kind_at content ≡ Some kind.Attribute → option_and_then word_of (local_in (element_name content)) ≡ None
  attribute-word None h = absurd (cc)
  attribute-word (Some root) h = absurd (cc)
  attribute-word (Some (element its decls)) h = absurd (cc)
  attribute-word (Some (attribute its value)) h = refl
  attribute-word (Some (text characters)) h = absurd (cc)
  attribute-word (Some (comment characters)) h = absurd (cc)
  attribute-word (Some (instruction its body)) h = absurd (cc)

  pub attribute_text : (content : Option Content) → kind_at content ≡ Some kind.Attribute → characters_in content ≡ []
  attribute_text None h = absurd (cc)
  attribute_text (Some root) h = absurd (cc)
  attribute_text (Some (element its decls)) h = absurd (cc)
  attribute_text (Some (attribute its value)) h = refl
  attribute_text (Some (text characters)) h = absurd (cc)
  attribute_text (Some (comment characters)) h = absurd (cc)
  attribute_text (Some (instruction its body)) h = absurd (cc)

  silent-attribute : (n a : ℕ) → Place T n → mem a (attrs_of T n) ≡ true → part_at T a ≡ []
  silent-attribute n a place member =
      let its = formed.attribute_kind n a member in
      plain-part T a [] (counts_under n a place (formed.attribute_parent n a member)) (attribute-word (content_of T a) its)
      (ap (λ l. cond (holds_text (word_above T a)) l []) (attribute_text (content_of T a) its) ∙ either_nothing (holds_text (word_above T a)))

  silent-attributes : (n : ℕ) (attrs : List ℕ) → Place T n → ((a : ℕ) → mem a attrs ≡ true → mem a (attrs_of T n) ≡ true) → flat_map (part_at T) attrs ≡ []
  silent-attributes n [] place within = refl
  silent-attributes n (a ∷ attrs) place within =
      ap (λ l. l ++ flat_map (part_at T) attrs) (silent-attribute n a place (within a (mem-head a attrs)))
      ∙ silent-attributes n attrs place (λ b h. within b (mem-tail b a attrs h))

  -- what is read of an element and all below it
  read-below : (n : ℕ) → Place T n → flat_map (part_at T) (below T n) ≡ part_at T n ++ flat_map (part_at T) (flat_map (below T) (kids_of T n))
  read-below n place =
      ap (flat_map (part_at T)) (ordered.below_at n)
      ∙ ap (λ l. part_at T n ++ l) (flat_map-append (part_at T) (attrs_of T n) (flat_map (below T) (kids_of T n))
      ∙ ap (λ l. l ++ flat_map (part_at T) (flat_map (below T) (kids_of T n))) (silent-attributes n (attrs_of T n) place (λ a h. h)))

  -- a text
  pub text_node : (k : ℕ) (characters : List ℕ) (content : Option Content) → content_of T k ≡ content → told T k ≡ has_text characters ∷ [] → can_be_kid (kind_at content) ≡ true →
      content_of T k ≡ Some (text characters)
  text_node k characters None is same kid = absurd (cc)
  text_node k characters (Some root) is same kid = absurd (cc)
  text_node k characters (Some (element its decls)) is same kid = let e = sym (told_as T formed ways walks k _ is) ∙ same in absurd (cc)
  text_node k characters (Some (attribute its value)) is same kid = absurd (cc)
  text_node k characters (Some (text own)) is same kid =
      let e = sym (told_as T formed ways walks k (Some (text own)) is) ∙ same in
      let alike : own ≡ characters = cc in is ∙ ap (λ l. Some (text l)) alike
  text_node k characters (Some (comment own)) is same kid = let e = sym (told_as T formed ways walks k _ is) ∙ same in absurd (cc)
  text_node k characters (Some (instruction its body)) is same kid = let e = sym (told_as T formed ways walks k _ is) ∙ same in absurd (cc)

  pub below_text : (k : ℕ) (characters : List ℕ) → content_of T k ≡ Some (text characters) → below T k ≡ k ∷ []
  below_text k characters is =
      let kind_is : kind_of T k ≡ Some kind.Text = ap kind_at is in
      let attrs : attrs_of T k ≡ [] = no-members (attrs_of T k) (λ a h. no-element (sym kind_is ∙ formed.owner_kind k a h)) in
      let kids : kids_of T k ≡ [] = no-members (kids_of T k) (λ a h. no-holder (ap holds_kids (sym kind_is) ∙ formed.holder_kind k a h)) in
      ordered.below_at k ∙ ap (λ l. k ∷ (l ++ flat_map (below T) (kids_of T k))) attrs ∙ ap (λ l. k ∷ flat_map (below T) l) kids
    where
      no-element : Some kind.Text ≡ Some kind.Element → ⊥
      no-element h = absurd (cc)

      no-holder : holds_kids (Some kind.Text) ≡ true → ⊥
      no-holder h = absurd (cc)

  -- the parts that kids are
  kid-part : (n k : ℕ) (w : Word) (part : Part) → is_some_part part ≡ true → Place T n → word_at T n ≡ Some w → has_text_word w ≡ true →
      parent_of T k ≡ Some n → can_be_kid (kind_of T k) ≡ true → Items T (kids_of T k) → told T k ≡ said (part_events part) →
      map placeless_part (flat_map (part_at T) (below T k)) ≡ placeless_part part ∷ []
  unfolding xmlns_prefix word_of
  kid-part n k w (Chars []) some place is holds up kid items same = absurd (cc)
  kid-part n k w (Chars (byte ∷ characters)) some place is holds up kid items same =
      let content = text_node k (byte ∷ characters) (content_of T k) refl same kid in
      let above : word_above T k ≡ Some w = ap (option_and_then (word_at T)) up ∙ is in
      ap (λ l. map placeless_part (flat_map (part_at T) l)) (below_text k (byte ∷ characters) content)
      ∙ ap (λ l. map placeless_part (l ++ []))
      (plain-part T k (byte ∷ characters) (counts_under n k place up) (ap (λ (c : Option Content). option_and_then word_of (local_in (element_name c))) content)
      (ap (λ v. cond (holds_text v) (characters_in (content_of T k)) []) above ∙ ap (λ b. cond b (characters_in (content_of T k)) []) holds ∙ ap characters_in content))
  kid-part n k w (ValueOf node select) some place is holds up kid items same =
      let r = read_element T formed ways walks scopes in_scope n k (codes "value-of") ((codes "select", Some select) ∷ []) [] place up kid items holds_nil refl same in
      let own : part_at T k ≡ ValueOf k select ∷ [] = rw (r.place.counts, r.word, r.says (codes "select")) refl in
      ap (map placeless_part)
      (read-below k r.place
      ∙ ap (λ l. part_at T k ++ flat_map (part_at T) (flat_map (below T) l)) (none_left T (kids_of T k) items r.kids)
      ∙ append-nil (part_at T k)
      ∙ own)
  kid-part n k w (Name node path) some place is holds up kid items same =
      let r = read_element T formed ways walks scopes in_scope n k (codes "name") ((codes "path", path) ∷ []) [] place up kid items holds_nil refl same in
      let own : part_at T k ≡ Name k path ∷ [] = rw (r.place.counts, r.word, r.says (codes "path")) refl in
      ap (map placeless_part)
      (read-below k r.place
      ∙ ap (λ l. part_at T k ++ flat_map (part_at T) (flat_map (below T) l)) (none_left T (kids_of T k) items r.kids)
      ∙ append-nil (part_at T k)
      ∙ own)

  kid-parts : (n : ℕ) (w : Word) → Place T n → word_at T n ≡ Some w → has_text_word w ≡ true → (ks : List ℕ) (parts : List Part) → list_all is_some_part parts ≡ true →
      AreKids T n ks → Pairs T part_events ks parts → map placeless_part (flat_map (part_at T) (flat_map (below T) ks)) ≡ map placeless_part parts
  kid-parts n w place is holds [] [] some kids pairs = refl
  kid-parts n w place is holds [] (x ∷ xs) some kids pairs = absurd pairs
  kid-parts n w place is holds (k ∷ ks) [] some kids pairs = absurd pairs
  kid-parts n w place is holds (k ∷ ks) (x ∷ xs) some kids pairs =
      let s = and_parts (is_some_part x) (list_all is_some_part xs) some in
      ap (map placeless_part) (flat_map-append (part_at T) (below T k) (flat_map (below T) ks))
      ∙ map_append placeless_part (flat_map (part_at T) (below T k)) (flat_map (part_at T) (flat_map (below T) ks))
      ∙ ap (λ l. l ++ map placeless_part (flat_map (part_at T) (flat_map (below T) ks))) (kid-part n k w x s.0 place is holds kids.0.0 kids.0.1 kids.0.2 pairs.0)
      ∙ ap (λ l. placeless_part x ∷ l) (kid-parts n w place is holds ks xs s.1 kids.1 pairs.1)

  -- the message of an element that holds one
  pub message_read : (n : ℕ) (w : Word) (local : List ℕ) (attributes : List (List ℕ × Option (List ℕ))) (message : List Part) →
      Read T n local attributes (flat_map part_events message) → word_at T n ≡ Some w → has_text_word w ≡ true → part_at T n ≡ [] →
      list_all is_some_part message ≡ true → are_joined false message ≡ true → map placeless_part (message_of T n) ≡ map placeless_part message
  message_read n w local attributes message r is holds silent some apart =
      let items = kid_items T formed ways walks scopes in_scope n in
      let taken = take_if T part_events is_some_part part_chunk (kids_of T n) items message some [] (r.kids ∙ sym (append-nil (said (flat_map part_events message)))) in
      let are : kids_of T n ≡ taken.front = taken.parts ∙ ap (λ l. taken.front ++ l) (none_left T taken.back taken.items taken.left) ∙ append-nil taken.front in
      sym (joined-forgets (flat_map (part_at T) (below T n)))
      ∙ ap (λ l. joined (map placeless_part l)) (read-below n r.place ∙ ap (λ l. l ++ flat_map (part_at T) (flat_map (below T) (kids_of T n))) silent
      ∙ ap (λ l. flat_map (part_at T) (flat_map (below T) l)) are)
      ∙ ap joined (kid-parts n w r.place is holds taken.front message some (subst (AreKids T n) are (are_kids T formed ways walks scopes in_scope n)) taken.pairs)
      ∙ joined-forgets message
      ∙ ap (map placeless_part) (joined-stays message apart)
