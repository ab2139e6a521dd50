-- Kids of nodes that count.
use Rattle.std.proofs.Common.{◌≡◌, ℕ, ◌<◌, Bool, true, false, cond, not, refl, List, length, slice_index_or, Option, None, Some}
use Rattle.doc_tree.specs.Laws.{HasWaysUp, WellFormed}
use Rattle.doc_tree.specs.Lists.{mem}
use Rattle.doc_tree.specs.Table.{Table, Name, kids_of}
use Rattle.std.specs.Prelude.{option_and_then}
use Rattle.std.specs.Str.{bytes_eq}
use Rattle.doc_tree.specs.Table.{content_of}
use Rattle.sch_rules.specs.declared.word.Word.{Word}
use Rattle.sch_rules.specs.Elements.{element_name, is_other_name, local_in, word_at}
use Rattle.sch_rules.specs.Words.{is_word, schematron, word_of}
use Rattle.sch_source.specs.Counts.{Counts, Stands}
use Rattle.sch_source.proofs.ListLemmas.{mem-at}
use Rattle.sch_source.proofs.PlaceLemmas.{stands_below}

pub kid_counts : (T : Table) → WellFormed T → HasWaysUp T → (n kid : ℕ) → Counts T n → mem kid (kids_of T n) ≡ true → Stands T kid
kid_counts T formed ways n kid counts member =
    let below = stands_below T formed ways n kid member in
    record { lives = below.lives; counts = below.counts counts.stands.counts counts.own }

pub kid_stands : (T : Table) → WellFormed T → HasWaysUp T → (n i kid : ℕ) (kids : List ℕ) → Counts T n → kids ≡ kids_of T n → kid ≡ slice_index_or kids i kid → i < length kids →
    Stands T kid
kid_stands T formed ways n i kid kids counts are is less =
    kid_counts T formed ways n kid counts (rw are at (mem-at kids i kid is less))

name-cases : (name : Option Name) (w : Word) → is_word w (option_and_then word_of (local_in name)) ≡ true → is_other_name name ≡ false
name-cases None w h = absurd (cc)
name-cases (Some name) w h = by (bytes_eq name.uri schematron) refl h
  where
    by : (b : Bool) → bytes_eq name.uri schematron ≡ b → is_word w (option_and_then word_of (cond b (Some name.local) None)) ≡ true → not b ≡ false
    by true e h = refl
    by false e h = absurd (cc)

-- an element of the schema is none of another namespace
pub word_counts : (T : Table) (n : ℕ) (w : Word) → Stands T n → is_word w (word_at T n) ≡ true → Counts T n
word_counts T n w stands is = record { stands = stands; own = name-cases (element_name (content_of T n)) w is }
