-- There are no more numbers than may be made.
use Rattle.std.proofs.Common.{◌≡◌, length, ap, ◌∙◌, sym, arith}
use Rattle.doc_table.specs.inner.Parts.{table_of}
use Rattle.doc_table.proofs.SoundLemmas.{seen-length}
use Rattle.doc_table.proofs.bare.Bare.numbers_made.Goals as goal

made : (c : goal.After-len) → c.len.result ≡ length (table_of c.args.self.now)
made c = c.len.ensures ∙ (c.self.inside.nodes.ok.0 ∙ (sym (seen-length c.self.inside.names c.self.inside.nodes.items) ∙ ap (λ parts. length (table_of parts)) c.self.view_is))

pub overflow_cast-result : goal.overflow_cast-result
overflow_cast-result c = omega (arith, made c, c.laws.ensures.well_formed.few_numbers)

pub returns : goal.returns
returns c = made c
