-- Messages, part by part.
use Rattle.std.proofs.Common.{◌≡◌, ℕ, List, [], ◌∷◌, ◌++◌, refl, sym, ap, ◌∙◌, append-nil, append_assoc, string_bytes}
use Rattle.sch_model.specs.declared.parts.Part.{Part}
use Rattle.sch_source.specs.declared.message.Message.{Message}
use Rattle.sch_source.specs.inner.Messages.{IsFlushed, ReadsOn, message_with}
use Rattle.sch_rules.specs.RawSchema.{chars_part, joined}

pub reads-then : {a b c : Message} {xs ys : List Part} → ReadsOn a b xs → ReadsOn b c ys → ReadsOn a c (xs ++ ys)
reads-then {a} {b} {c} {xs} {ys} first next = record {
  goes_on = λ rest. ap (message_with a) (append_assoc xs ys rest) ∙ first.goes_on (ys ++ rest) ∙ next.goes_on rest;
}

pub reads-none : (a : Message) → ReadsOn a a []
reads-none a = record { goes_on = λ rest. refl }

joined-chars : (characters : List ℕ) → joined (chars_part characters ++ []) ≡ chars_part characters
joined-chars [] = refl
joined-chars (c ∷ characters) = refl

pub message-end : (a b c : Message) (parts : List Part) → a.parts ≡ [] → string_bytes a.text ≡ [] → ReadsOn a b parts → IsFlushed b c → c.parts ≡ joined parts
message-end a b c parts no_parts no_text reads flushed =
    flushed.parts
    ∙ ap (λ l. b.parts ++ l) (sym (joined-chars (string_bytes b.text)))
    ∙ sym (reads.goes_on [])
    ∙ ap (λ (before : List Part). before ++ joined (chars_part (string_bytes a.text) ++ (parts ++ []))) no_parts
    ∙ ap (λ (text : List ℕ). joined (chars_part text ++ (parts ++ []))) no_text
    ∙ ap joined (append-nil parts)
