use Rattle.location_texts.proofs.Readings.{texts_have_tokens}
use Rattle.location_texts.proofs.texts_have_their_tokens.Goals as goal

pub returns : goal.returns
returns c = texts_have_tokens
