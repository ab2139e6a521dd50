-- A word that is found has its number; a new one is put at the end.
use Rattle.std.proofs.Common.{refl, sym, ◌∙◌, inl}
use Rattle.doc_names.proofs.WordLemmas.{word-searched, word-inserted, word-once}
use Rattle.doc_names.proofs.words.WordTable.number.Goals as goal

pub returns-in-Some-clause-numbered : goal.returns-in-Some-clause-numbered
returns-in-Some-clause-numbered c = record {
  given = rw (← c.self.view_is) (word-searched c.args.word.now c.self.inside.words.keys c.in-Some.number (sym c.get_index_of.ensures.index ∙ c.in-Some.is));
  added = inl refl;
}

pub invariant_of-self-2 : goal.invariant_of-self-2
invariant_of-self-2 c =
    rw c.in_ok-number.ensures.keys (word-once c.in_ok-from_str.field-0 c.self.inside.words.keys c.self.invariant)

pub returns-clause-numbered : goal.returns-clause-numbered
returns-clause-numbered c =
    rw (← c.self.view_is, c.in_ok-number.ensures.keys, c.in_ok-number.ensures.index, ← c.in_ok-from_str.ensures.ok)
    (word-inserted c.in_ok-from_str.field-0 c.self.inside.words.keys)
