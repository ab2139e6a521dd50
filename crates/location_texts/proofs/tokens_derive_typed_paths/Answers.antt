use Rattle.location_texts.proofs.Derivations.{tokens_derive}
use Rattle.location_texts.proofs.tokens_derive_typed_paths.Goals as goal

pub returns : goal.returns
returns c = tokens_derive
