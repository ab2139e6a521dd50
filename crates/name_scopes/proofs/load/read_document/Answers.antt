-- No event was taken yet.
use Rattle.name_scopes.proofs.LoadStart.{loads-none}
use Rattle.name_scopes.proofs.LoadSteps.{stands-first}
use Rattle.name_scopes.proofs.load.read_document.Goals as goal

pub take_document-requires-clause-ready : goal.take_document-requires-clause-ready
take_document-requires-clause-ready c = stands-first c.args.bytes.now c.new-reader.result c.args.loader.now c.events_nest.ensures c.requires.little c.new-reader.ensures (loads-none c.args.loader.now c.requires.new)
