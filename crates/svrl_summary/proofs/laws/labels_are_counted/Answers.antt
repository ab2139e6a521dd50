-- Each label is put in its place, once more.
use Rattle.svrl_summary.proofs.CountLemmas.{labels-are-counted}
use Rattle.svrl_summary.proofs.laws.labels_are_counted.Goals as goal

pub returns : goal.returns
returns c = labels-are-counted
