-- The entry was put; where no memory is found the node is still stale.
use Rattle.std.proofs.Common.{◌≡◌, ◌∙◌, ℕ, true, Some, is_none, slice_set, refl, ap}
use Rattle.std.proofs.lemmas.Result.{on_err_weaker, on_ok_weaker}
use Rattle.sch_compiled.specs.Findings.{OutcomeTable, outcome_at}
use Rattle.kept_reads.specs.Reads.{reads_at}
use Rattle.kept_units.proofs.EvaluatingLemmas.{alone_set, entries_empty, entry_set}
use Rattle.kept_units.proofs.kept_units.KeptUnits.put_pair.Goals as goal

pub returns-in-Ok-clause-puts : goal.returns-in-Ok-clause-puts
returns-in-Ok-clause-puts c = on_ok_weaker c.put-in-Ok.result
    (λ puts. record {
      found = c.in-Ok.ensures.puts;
      entries = puts.entries ∙ ap (λ (place : ℕ). slice_set c.args.self.now.reads.entries place (Some c.args.held)) c.place-place.ensures.value;
    })
    c.put-in-Ok.ensures.puts

pub returns-in-Ok-clause-cut : goal.returns-in-Ok-clause-cut
returns-in-Ok-clause-cut c =
    let entries = c.args.self.now.reads.entries in
    let stale : is_none (reads_at entries c.place-place.result) ≡ true =
    ap (λ (place : ℕ). is_none (reads_at entries place)) c.place-place.ensures.value ∙ c.requires.stale in
    on_err_weaker c.put-in-Ok.result
    (λ empties. record {
      others = c.in-Ok.ensures.puts.others;
      entries = entries_empty entries c.put-in-Ok.new.self.entries c.place-place.result empties.entries c.place-place.ensures.within stale;
    })
    c.put-in-Ok.ensures.empties

pub returns-in-Ok-clause-alone : goal.returns-in-Ok-clause-alone
returns-in-Ok-clause-alone c =
    let entries = c.args.self.now.reads.entries in
    let stale : is_none (reads_at entries c.place-place.result) ≡ true =
    ap (λ (place : ℕ). is_none (reads_at entries place)) c.place-place.ensures.value ∙ c.requires.stale in
    alone_set c.place-place.result c.args.self.now c.put.new.self c.put-in-Ok.new.self c.in-Ok.ensures.puts.patterns
    (entry_set c.put-in-Ok.result c.place-place.result c.args.held c.args.self.now.reads c.put-in-Ok.new.self c.put-in-Ok.ensures.puts
    c.put-in-Ok.ensures.empties) stale

pub returns-in-Err-clause-cut : goal.returns-in-Err-clause-cut
returns-in-Err-clause-cut c =
    record { others = λ q k apart. ap (λ (table : OutcomeTable). outcome_at table q k) c.in-Err.ensures.unchanged; entries = λ place. refl }

pub returns-in-Err-clause-alone : goal.returns-in-Err-clause-alone
returns-in-Err-clause-alone c = record {
  lets = refl;
  let_reads = refl;
  patterns = ap (λ (table : OutcomeTable). table.patterns) c.in-Err.ensures.unchanged;
  places = refl;
  blocks = refl;
  stays = λ place had. had;
}
