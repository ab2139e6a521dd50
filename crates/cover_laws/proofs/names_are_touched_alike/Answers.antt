-- Only where a node is renamed is a name touched, and that leaves all axes as they are.
use Rattle.cover_laws.proofs.NameLemmas.{names-alike, told-alike}
use Rattle.cover_laws.proofs.names_are_touched_alike.Goals as goal

pub returns-clause-names : goal.returns-clause-names
returns-clause-names c T U touched axis n form edit = names-alike T form U touched axis n edit

pub returns-clause-held : goal.returns-clause-held
returns-clause-held c T U touched held form edit = told-alike T form U touched held edit
