use Rattle.xp_print_laws.proofs.Again.{derived-again}
use Rattle.xp_print_laws.proofs.laws.printed_tokens_derive_the_same.Goals as goal

pub returns : goal.returns
returns c = derived-again
