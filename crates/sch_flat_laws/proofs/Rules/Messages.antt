-- No text of a message that is read is empty.
use Rattle.std.proofs.Common.{◌≡◌, ℕ, Bool, true, false, cond, List, [], ◌∷◌, refl, ◌∙◌}
use Rattle.std.specs.List.{flat_map, list_all}
use Rattle.std.specs.Prelude.{codes}
use Rattle.std.proofs.lemmas.Bool.{and_from}
use Rattle.std.proofs.lemmas.List.Folds.{list_all-append}
use Rattle.doc_tree.specs.Table.{Table}
use Rattle.doc_tree.specs.Walks.{below}
use Rattle.sch_model.specs.declared.parts.Part.{Part}
use Rattle.sch_model.specs.declared.parts.Part.TheVariants.{Chars, ValueOf, Name}
use Rattle.sch_rules.specs.declared.word.Word.TheVariants as word
use Rattle.sch_rules.specs.Attributes.{said, said_text}
use Rattle.sch_rules.specs.Elements.{is_ignored, word_at}
use Rattle.sch_rules.specs.RawSchema.{chars_before, chars_part, joined, message_of, own_part, part_at, text_at}
use Rattle.sch_rules.specs.Words.{is_word}
use Rattle.sch_model.specs.Placeless.{is_some_part}

some-chars : (characters : List ℕ) → list_all is_some_part (chars_part characters) ≡ true
some-chars [] = refl
some-chars (byte ∷ characters) = refl

some-if : (b : Bool) (xs ys : List Part) → list_all is_some_part xs ≡ true → list_all is_some_part ys ≡ true → list_all is_some_part (cond b xs ys) ≡ true
some-if true xs ys h k = h
some-if false xs ys h k = k

some-part : (T : Table) (n : ℕ) → list_all is_some_part (part_at T n) ≡ true
some-part T n =
    some-if (is_ignored T n) [] (own_part T n) refl
    (some-if (is_word word.ValueOf (word_at T n)) (ValueOf n (said_text T n (codes "select")) ∷ []) _ refl
    (some-if (is_word word.Name (word_at T n)) (Name n (said T n (codes "path")) ∷ []) (chars_part (text_at T n)) refl (some-chars (text_at T n))))

some-parts : (T : Table) (ns : List ℕ) → list_all is_some_part (flat_map (part_at T) ns) ≡ true
some-parts T [] = refl
some-parts T (n ∷ ns) =
    list_all-append is_some_part (part_at T n) (flat_map (part_at T) ns) ∙ and_from _ _ (some-part T n) (some-parts T ns)

some-before : (byte : ℕ) (characters : List ℕ) (parts : List Part) → list_all is_some_part parts ≡ true → list_all is_some_part (chars_before (byte ∷ characters) parts) ≡ true
some-before byte characters [] h = refl
some-before byte characters (Chars [] ∷ parts) h = absurd (cc)
some-before byte characters (Chars (b ∷ more) ∷ parts) h = h
some-before byte characters (ValueOf n select ∷ parts) h = h
some-before byte characters (Name n path ∷ parts) h = h

some-joined : (parts : List Part) → list_all is_some_part parts ≡ true → list_all is_some_part (joined parts) ≡ true
some-joined [] h = refl
some-joined (Chars [] ∷ parts) h = absurd (cc)
some-joined (Chars (byte ∷ characters) ∷ parts) h = some-before byte characters (joined parts) (some-joined parts h)
some-joined (ValueOf n select ∷ parts) h = some-joined parts h
some-joined (Name n path ∷ parts) h = some-joined parts h

pub some_message : (T : Table) (n : ℕ) → list_all is_some_part (message_of T n) ≡ true
some_message T n = some-joined (flat_map (part_at T) (below T n)) (some-parts T (below T n))
