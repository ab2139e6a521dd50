use Rattle.xp_lexicon.specs.inner.Scanning.{with_local, without_local}
use Rattle.xp_lexicon.proofs.name.after_qname.Goals as goal

pub returns-in-Some-after_local : goal.returns-in-Some-after_local
returns-in-Some-after_local c = record {
  middle = c.in-Some.rest.now;
  first = c.in-Some.ensures;
  second = with_local c.in-Some.rest.now c.in-Some-after_local.end.now c.in-Some-after_local.ensures;
}

pub returns-in-None-after_local : goal.returns-in-None-after_local
returns-in-None-after_local c = record {
  middle = c.in-Some.rest.now;
  first = c.in-Some.ensures;
  second = without_local c.in-Some.rest.now c.in-None-after_local.ensures;
}
