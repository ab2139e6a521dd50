-- Ranks rise along document order, in which both nodes stand.
use Rattle.std.proofs.Common.{◌≡◌, ℕ, true, get_or, None, sym, ap₂, ◌∙◌, ltb}
use Rattle.doc_table.specs.Table.{is_live}
use Rattle.doc_table.specs.Walks.{order}
use Rattle.doc_table.specs.inner.Kept.{rank_at}
use Rattle.doc_table.specs.inner.Parts.{table_of}
use Rattle.doc_table.proofs.ListLemmas.{In, mem-In}
use Rattle.doc_table.proofs.Rising.{before-by}
use Rattle.doc_table.proofs.TreeLaws.{ordered}
use Rattle.doc_table.proofs.bare.Bare.is_before.Goals as goal

pub returns : goal.returns
returns c =
    let stands : (n : ℕ) → is_live (table_of c.args.self.now) n ≡ true → In n (order (table_of c.args.self.now)) =
    λ n lives. mem-In n (order (table_of c.args.self.now)) (sym ((ordered (table_of c.args.self.now) c.requires.sound.formed).live_in_order n) ∙ lives) in
    ap₂ ltb c.rank.ensures c.rank-2.ensures
    ∙ before-by (λ n. rank_at (get_or c.args.self.now.nodes n None)) (order (table_of c.args.self.now)) 0 _ c.args.a c.args.b c.requires.sound.ranks
    (stands c.args.a c.requires.a_lives) (stands c.args.b c.requires.b_lives)
