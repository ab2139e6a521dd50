-- A sound table with a declaration more is sound.
use Rattle.std.proofs.Common.{ap₂}
use Rattle.std.specs.Prelude.{OnOk}
use Rattle.doc_table.specs.inner.Sound.{Sound}
use Rattle.doc_table.specs.inner.Parts.{table_of}
use Rattle.doc_table.specs.Declaring.{Declared}
use Rattle.doc_table.specs.inner.Views.{table_seen}
use Rattle.doc_table.proofs.KeptDeclLemmas.{declared-or-not}
use Rattle.doc_table.proofs.bare.Bare.append_decl.Goals as goal

outcome : (c : goal.After-declare) →
    Sound c.declare.new.nodes.items c.self.inside.names c.self.inside.live c.self.inside.text_bytes
    × OnOk c.declare.result (Declared (table_of c.args.self.now) (table_seen c.self.inside.names c.declare.new.nodes.items) c.args.element (c.args.prefix.now, c.args.uri.now))
outcome c =
    declared-or-not c.args.self.now c.self.inside.names c.self.inside.nodes.items c.declare.new.nodes.items c.self.inside.live c.self.inside.text_bytes c.self.inside.pair_cap c.args.element
    (c.in_ok-copy.field-0, c.in_ok-copy-2.field-0) (c.args.prefix.now, c.args.uri.now) c.declare.result c.self.view_is
    (ap₂ (λ prefix uri. (prefix, uri)) c.in_ok-copy.ensures c.in_ok-copy-2.ensures) c.declare.ensures.declared c.declare.ensures.unchanged c.requires.sound c.requires.under

pub returns-clause-sound : goal.returns-clause-sound
returns-clause-sound c = (outcome c).0

pub returns-clause-declared : goal.returns-clause-declared
returns-clause-declared c = (outcome c).1
