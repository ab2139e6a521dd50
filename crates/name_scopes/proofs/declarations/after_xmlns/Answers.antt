-- A name that starts otherwise has nothing behind `xmlns`.
use Rattle.std.proofs.Common.{sym, ◌∙◌, true≢false}
use Rattle.name_scopes.proofs.declarations.after_xmlns.Goals as goal

pub returns-then-starts_otherwise : goal.returns-then-starts_otherwise
returns-then-starts_otherwise c = λ rest is. true≢false (sym c.if-starts_otherwise.true ∙ c.starts_otherwise.ensures rest is)
