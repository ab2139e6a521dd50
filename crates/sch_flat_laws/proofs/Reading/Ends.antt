-- The title, the diagnostics and the properties of a schema, as they are read.
use Rattle.std.proofs.Common.{◌≡◌, ℕ, Bool, true, false, cond, List, [], ◌∷◌, ◌++◌, Some, map, find, refl, sym, ap, ◌∙◌, subst, append-nil}
use Rattle.std.specs.List.{flat_map}
use Rattle.std.specs.Prelude.{codes, option_and_then}
use Rattle.std.proofs.lemmas.Grind.{flat_map-append}
use Rattle.doc_table.proofs.ListLemmas.{mem-head, mem-tail}
use Rattle.doc_tree.specs.Kinds.{can_be_kid}
use Rattle.doc_tree.specs.Laws.{HasWaysUp, Ordered, Walks, WellFormed}
use Rattle.doc_tree.specs.Lists.{mem}
use Rattle.doc_tree.specs.Scope.{HasScopes, xmlns_prefix}
use Rattle.doc_tree.specs.Table.{Table, attrs_of, content_of, kids_of, kind_of, parent_of}
use Rattle.doc_tree.specs.Walks.{below, characters_in}
use Rattle.name_scopes.specs.Scoping.{InScope}
use Rattle.sch_model.specs.declared.parts.Diagnostic.{Diagnostic}
use Rattle.sch_model.specs.declared.parts.Part.TheVariants.{Chars}
use Rattle.sch_rules.specs.declared.word.Word.{Word}
use Rattle.sch_rules.specs.declared.word.Word.TheVariants as word
use Rattle.sch_rules.specs.Elements.{is_ignored, word_above, word_at}
use Rattle.sch_rules.specs.RawSchema.{counted_text, diagnostic_of, holds_text, notes_at, read_if, read_kids, text_at, title_of}
use Rattle.sch_rules.specs.Words.{is_word, word_of}
use Rattle.sch_flat.specs.FlatDocument.{characters, note_events, part_events}
use Rattle.sch_model.specs.Placeless.{is_some_part, placeless_diagnostic}
use Rattle.sch_flat_laws.specs.Readable.{Each, ReadableDiagnostic}
use Rattle.sch_flat_laws.proofs.Reading.Document.{are_kids, notes_element, notes_hold, some_list, title_element}
use Rattle.sch_flat_laws.proofs.Reading.EventBlocks.{holds_characters, holds_some, note_chunk, part_holds, said}
use Rattle.sch_flat_laws.proofs.Reading.Kids.{Items, Pairs, none_left, take_if, take_pairs}
use Rattle.sch_flat_laws.proofs.Reading.Leaves.{AreKids}
use Rattle.sch_flat_laws.proofs.Reading.Messages.{attribute_text, below_text, counts_under, either_nothing, message_read, part_chunk, text_node}
use Rattle.sch_flat_laws.proofs.Reading.Notes.{Notes, group_local, group_of, known, note_local, note_name, note_of}
use Rattle.sch_flat_laws.proofs.Reading.Places.{Place, read_element}
use Rattle.sch_flat_laws.proofs.Reading.Rules.{ReadTo, read_to_all, silent_element}
use Rattle.sch_flat_laws.proofs.Reading.Schema.{AllWords}
use Rattle.sch_flat_laws.proofs.Reading.TreeBlocks.{told}

map-same : {A : Type 0} (xs : List A) → map (λ (x : A). x) xs ≡ xs
map-same [] = refl
map-same (x ∷ xs) = ap (λ l. x ∷ l) (map-same xs)

-- elements that are no title are not found as one, and those that hold no notes of a kind give none
pub not_found : (T : Table) (w : Word) → is_word word.Title (Some w) ≡ false → (ks more : List ℕ) → AllWords T w ks →
    find (λ k. is_word word.Title (word_at T k)) (ks ++ more) ≡ find (λ k. is_word word.Title (word_at T k)) more
not_found T w differs [] more all = refl
not_found T w differs (k ∷ ks) more all =
    ap (λ (b : Bool). cond b (Some k) (find (λ k. is_word word.Title (word_at T k)) (ks ++ more))) (ap (is_word word.Title) all.0 ∙ differs)
    ∙ not_found T w differs ks more all.1

pub no_notes_at : (T : Table) (kind : Notes) (w : Word) → is_word (group_of kind) (Some w) ≡ false → (ks : List ℕ) → AllWords T w ks → flat_map (notes_at T (group_of kind) (note_of kind)) ks ≡ []
no_notes_at T kind w differs [] all = refl
no_notes_at T kind w differs (k ∷ ks) all =
    ap (λ (b : Bool). cond b (read_kids T (note_of kind) (diagnostic_of T) k) [] ++ flat_map (notes_at T (group_of kind) (note_of kind)) ks) (ap (is_word (group_of kind)) all.0 ∙ differs)
    ∙ no_notes_at T kind w differs ks all.1

counted-none : (T : Table) (n : ℕ) → is_ignored T n ≡ false → characters_in (content_of T n) ≡ [] → counted_text T n ≡ []
counted-none T n counts blank =
    ap (λ b. cond b [] (text_at T n)) counts ∙ ap (λ l. cond (holds_text (word_above T n)) l []) blank ∙ either_nothing (holds_text (word_above T n))

module _ (T : Table) (formed : WellFormed T) (ordered : Ordered T) (ways : HasWaysUp T) (walks : Walks T) (scopes : HasScopes T) (in_scope : InScope T) where
  note-read : (kind : Notes) (p k : ℕ) (d : Diagnostic) → ReadableDiagnostic d → Place T p → parent_of T k ≡ Some p → can_be_kid (kind_of T k) ≡ true → Items T (kids_of T k) →
      told T k ≡ said (note_events (note_name kind) d) → ReadTo T (note_of kind) (diagnostic_of T) placeless_diagnostic (λ (x : Diagnostic). x) k d
  unfolding xmlns_prefix
  note-read kind p k d good place up kid items same =
      let its = known kind in
      let r = read_element T formed ways walks scopes in_scope p k (note_local kind) ((codes "id", Some d.id) ∷ []) (flat_map part_events d.message) place up kid items
      (holds_some part_events part_holds d.message) refl same in
      let is : word_at T k ≡ Some (note_of kind) = r.word ∙ its.note in
      let silent = silent_element T k (note_of kind) r.place.counts is its.no_value its.no_name r.blank in
      let message = message_read T formed ordered ways walks scopes in_scope k (note_of kind) (note_local kind) ((codes "id", Some d.id) ∷ []) d.message r is its.text silent good.some good.joined in
      record { word = is; same = rw (r.says (codes "id"), message) refl }

  notes-in : (kind : Notes) (p k : ℕ) (ds : List Diagnostic) → Each ReadableDiagnostic ds → Place T p → parent_of T k ≡ Some p → can_be_kid (kind_of T k) ≡ true → Items T (kids_of T k) →
      told T k ≡ said (notes_element kind ds) → map placeless_diagnostic (notes_at T (group_of kind) (note_of kind) k) ≡ map placeless_diagnostic ds
  notes-in kind p k ds good place up kid items same =
      let its = known kind in
      let events = note_events (note_name kind) in
      let r = read_element T formed ways walks scopes in_scope p k (group_local kind) [] (flat_map events ds) place up kid items (notes_hold kind ds) refl same in
      let taken = take_pairs T events (note_chunk (note_name kind)) (kids_of T k) items ds [] (r.kids ∙ sym (append-nil (said (flat_map events ds)))) in
      let are : kids_of T k ≡ taken.front = taken.parts ∙ ap (λ l. taken.front ++ l) (none_left T taken.back taken.items taken.left) ∙ append-nil taken.front in
      let word_is : is_word (group_of kind) (word_at T k) ≡ true = ap (is_word (group_of kind)) (r.word ∙ its.group) ∙ its.own_group in
      ap (λ (b : Bool). map placeless_diagnostic (cond b (read_kids T (note_of kind) (diagnostic_of T) k) [])) word_is
      ∙ ap (λ l. map placeless_diagnostic (flat_map (read_if T (note_of kind) (diagnostic_of T)) l)) are
      ∙ read_to_all T (note_of kind) (diagnostic_of T) placeless_diagnostic (λ (x : Diagnostic). x) ReadableDiagnostic events k its.own_note
      (λ j x ok. note-read kind k j x ok r.place) taken.front ds good (subst (AreKids T k) are (are_kids T formed ways walks scopes in_scope k)) taken.pairs
      ∙ ap (map placeless_diagnostic) (map-same ds)

  pub notes_read : (kind : Notes) (p : ℕ) (ks : List ℕ) (ds : List Diagnostic) → Each ReadableDiagnostic ds → Place T p → AreKids T p ks → Pairs T (notes_element kind) ks (some_list ds) →
      map placeless_diagnostic (flat_map (notes_at T (group_of kind) (note_of kind)) ks) ≡ map placeless_diagnostic ds
  notes_read kind p [] [] good place kids pairs = refl
  notes_read kind p (k ∷ ks) [] good place kids pairs = absurd pairs
  notes_read kind p [] (d ∷ ds) good place kids pairs = absurd pairs
  notes_read kind p (k ∷ []) (d ∷ ds) good place kids pairs =
      ap (map placeless_diagnostic) (append-nil (notes_at T (group_of kind) (note_of kind) k))
      ∙ notes-in kind p k (d ∷ ds) good place kids.0.0 kids.0.1 kids.0.2 pairs.0
  notes_read kind p (k ∷ j ∷ ks) (d ∷ ds) good place kids pairs = absurd pairs.1

  -- a title
  counted-attributes : (n : ℕ) (attrs : List ℕ) → Place T n → ((a : ℕ) → mem a attrs ≡ true → mem a (attrs_of T n) ≡ true) → flat_map (counted_text T) attrs ≡ []
  counted-attributes n [] place within = refl
  counted-attributes n (a ∷ attrs) place within =
      let member = within a (mem-head a attrs) in
      ap (λ l. l ++ flat_map (counted_text T) attrs)
      (counted-none T a (counts_under T formed ordered ways walks scopes in_scope n a place (formed.attribute_parent n a member))
      (attribute_text T formed ordered ways walks scopes in_scope (content_of T a) (formed.attribute_kind n a member)))
      ∙ counted-attributes n attrs place (λ b h. within b (mem-tail b a attrs h))

  title-below : (n : ℕ) → Place T n → characters_in (content_of T n) ≡ [] → title_of T n ≡ flat_map (counted_text T) (flat_map (below T) (kids_of T n))
  title-below n place blank =
      ap (flat_map (counted_text T)) (ordered.below_at n)
      ∙ ap (λ l. l ++ flat_map (counted_text T) (attrs_of T n ++ flat_map (below T) (kids_of T n))) (counted-none T n place.counts blank)
      ∙ flat_map-append (counted_text T) (attrs_of T n) (flat_map (below T) (kids_of T n))
      ∙ ap (λ l. l ++ flat_map (counted_text T) (flat_map (below T) (kids_of T n))) (counted-attributes n (attrs_of T n) place (λ a h. h))

  one-text : (n : ℕ) (byte : ℕ) (text : List ℕ) → Place T n → word_at T n ≡ Some word.Title → (ks : List ℕ) → AreKids T n ks → Pairs T part_events ks (Chars (byte ∷ text) ∷ []) →
      flat_map (counted_text T) (flat_map (below T) ks) ≡ byte ∷ text
  one-text n byte text place is [] kids pairs = absurd pairs
  one-text n byte text place is (k ∷ j ∷ ks) kids pairs = absurd pairs.1
  one-text n byte text place is (k ∷ []) kids pairs =
      let content = text_node T formed ordered ways walks scopes in_scope k (byte ∷ text) (content_of T k) refl pairs.0 kids.0.1 in
      let above : word_above T k ≡ Some word.Title = ap (option_and_then (word_at T)) kids.0.0 ∙ is in
      ap (λ l. flat_map (counted_text T) (l ++ [])) (below_text T formed ordered ways walks scopes in_scope k (byte ∷ text) content)
      ∙ append-nil (counted_text T k)
      ∙ ap (λ b. cond b [] (text_at T k)) (counts_under T formed ordered ways walks scopes in_scope n k place kids.0.0)
      ∙ ap (λ v. cond (holds_text v) (characters_in (content_of T k)) []) above
      ∙ ap characters_in content

  pub title_read : (p k : ℕ) (title : List ℕ) → Place T p → parent_of T k ≡ Some p → can_be_kid (kind_of T k) ≡ true → Items T (kids_of T k) →
      told T k ≡ said (title_element title) → title_of T k ≡ title
  unfolding xmlns_prefix word_of
  title_read p k [] place up kid items same =
      let r = read_element T formed ways walks scopes in_scope p k (codes "title") [] [] place up kid items (holds_characters []) refl same in
      title-below k r.place r.blank ∙ ap (λ l. flat_map (counted_text T) (flat_map (below T) l)) (none_left T (kids_of T k) items r.kids)
  title_read p k (byte ∷ text) place up kid items same =
      let r = read_element T formed ways walks scopes in_scope p k (codes "title") [] (characters (byte ∷ text)) place up kid items (holds_characters (byte ∷ text)) refl same in
      let taken = take_if T part_events is_some_part part_chunk (kids_of T k) items (Chars (byte ∷ text) ∷ []) refl [] r.kids in
      let are : kids_of T k ≡ taken.front = taken.parts ∙ ap (λ l. taken.front ++ l) (none_left T taken.back taken.items taken.left) ∙ append-nil taken.front in
      title-below k r.place r.blank
      ∙ ap (λ l. flat_map (counted_text T) (flat_map (below T) l)) are
      ∙ one-text k byte text r.place r.word taken.front (subst (AreKids T k) are (are_kids T formed ways walks scopes in_scope k)) taken.pairs
