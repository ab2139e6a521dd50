-- A renumbering sends kids to kids in their order, so that nodes are apart where kids of theirs at one place are.
use Rattle.std.proofs.Common.{ℕ, ◌<◌, length, get_or, sym, ap, ◌∙◌}
use Rattle.std.proofs.lemmas.List.{get_or-map}
use Rattle.doc_table.specs.Table.{Table, kids_of}
use Rattle.tree_same.specs.Alike.{AreApart}

pub apart-kid : (T U : Table) (n m i d other : ℕ) → i < length (kids_of T n) → AreApart T U (get_or (kids_of T n) i d) (get_or (kids_of U m) i other) → AreApart T U n m
apart-kid T U n m i d other few apart f r e =
    apart f r (sym (ap (λ k. get_or (kids_of U k) i other) (sym e) ∙ (ap (λ ns. get_or ns i other) (r.kids n) ∙ get_or-map f (kids_of T n) i d other few)))
