-- A message, read from the left.
use Rattle.std.specs.Prelude.{◌≡◌, List, [], ◌++◌, string_bytes}
use Rattle.sch_model.specs.declared.parts.Part.{Part}
use Rattle.sch_source.specs.declared.message.Message.{Message}
use Rattle.sch_rules.specs.RawSchema.{chars_part, joined}

-- the parts where these follow
abbrev pub message_with : Message → List Part → List Part
message_with message rest = message.parts ++ joined (chars_part (string_bytes message.text) ++ rest)

-- these parts were read
pub record ReadsOn (old new : Message) (parts : List Part) : Type 0 where
  pub goes_on : (rest : List Part) → message_with old (parts ++ rest) ≡ message_with new rest

-- the characters at the end are a part
pub record IsFlushed (old new : Message) : Type 0 where
  pub parts : new.parts ≡ old.parts ++ chars_part (string_bytes old.text)
  pub no_text : string_bytes new.text ≡ []
