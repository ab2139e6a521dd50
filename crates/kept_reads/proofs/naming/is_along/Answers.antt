-- No far axis is one of the others.
use Rattle.std.proofs.Common.{◌∙◌, ap, sym}
use Rattle.std.proofs.lemmas.Bool.{false≢true}
use Rattle.read_index.specs.Names.{is_far}
use Rattle.kept_reads.proofs.naming.is_along.Goals as goal

pub returns-in-Attribute : goal.returns-in-Attribute
returns-in-Attribute c = absurd (false≢true (sym (ap is_far c.in-Attribute.is) ∙ c.requires.far))

pub returns-in-Child : goal.returns-in-Child
returns-in-Child c = absurd (false≢true (sym (ap is_far c.in-Child.is) ∙ c.requires.far))

pub returns-in-Descendant : goal.returns-in-Descendant
returns-in-Descendant c = absurd (false≢true (sym (ap is_far c.in-Descendant.is) ∙ c.requires.far))

pub returns-in-DescendantOrSelf : goal.returns-in-DescendantOrSelf
returns-in-DescendantOrSelf c = absurd (false≢true (sym (ap is_far c.in-DescendantOrSelf.is) ∙ c.requires.far))

pub returns-in-FollowingSibling : goal.returns-in-FollowingSibling
returns-in-FollowingSibling c = absurd (false≢true (sym (ap is_far c.in-FollowingSibling.is) ∙ c.requires.far))

pub returns-in-PrecedingSibling : goal.returns-in-PrecedingSibling
returns-in-PrecedingSibling c = absurd (false≢true (sym (ap is_far c.in-PrecedingSibling.is) ∙ c.requires.far))
