use Rattle.std.proofs.Common.{lit<, Some, None}
use Rattle.std.proofs.lemmas.Str.Pattern.{strip_prefix_char}
use Rattle.xp_lexicon.specs.inner.Scanning.{with_point, without_point}
use Rattle.xp_lexicon.proofs.number.after_digits.Goals as goal

pub returns-in-Some : goal.returns-in-Some
returns-in-Some c = record {
  middle = c.after_run-rest.result.now;
  digits = c.after_run-rest.ensures;
  second = with_point c.after_run-rest.result.now c.in-Some.fraction.now c.after_run.result.now
      (strip_prefix_char 46 c.after_run-rest.result.now (Some c.in-Some.fraction) c.in-Some.ensures.cases (lit< tt)) c.after_run.ensures;
}

pub returns-in-None : goal.returns-in-None
returns-in-None c = record {
  middle = c.after_run-rest.result.now;
  digits = c.after_run-rest.ensures;
  second = without_point c.after_run-rest.result.now (strip_prefix_char 46 c.after_run-rest.result.now None c.in-None.ensures.cases (lit< tt));
}
