use Rattle.xp_meaning_laws.proofs.Agreeing.{meaning_needs_slots_alone}
use Rattle.xp_meaning_laws.proofs.meaning_needs_slots_alone.Goals as goal

pub returns : goal.returns
returns c = meaning_needs_slots_alone
