-- The first attribute that has not its form, attribute by attribute.
use Rattle.std.proofs.Common.{◌≡◌, ℕ, suc, ◌+◌, ◌<◌, List, length, drop, slice_index_or, sym, ap, ◌∙◌, add-one}
use Rattle.std.proofs.Math.Seq.{drop-cons}
use Rattle.std.specs.Option.{option_or}
use Rattle.doc_tree.specs.Table.{Table, name_of, value_of}
use Rattle.sch_rules.specs.declared.word.Word.{Word}
use Rattle.sch_rules.specs.Rules.{bad_attribute, first_bad}

pub bad-next : (T : Table) (n : ℕ) (word : Word) (attrs : List ℕ) (i a : ℕ) → a ≡ slice_index_or attrs i a → i < length attrs →
    first_bad T n word (drop i attrs) ≡ option_or (bad_attribute T n word (name_of T a) (value_of T a)) (first_bad T n word (drop (i + 1) attrs))
bad-next T n word attrs i a is less =
    ap (first_bad T n word) (drop-cons attrs i a less)
    ∙ ap (λ (b : ℕ). option_or (bad_attribute T n word (name_of T b) (value_of T b)) (first_bad T n word (drop (suc i) attrs))) (sym is)
    ∙ ap (λ (k : ℕ). option_or (bad_attribute T n word (name_of T a) (value_of T a)) (first_bad T n word (drop k attrs))) (sym (add-one i))
