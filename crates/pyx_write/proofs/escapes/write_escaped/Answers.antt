use Rattle.std.proofs.Common.{arith, ◌∙◌, ◌+◌}
use Rattle.pyx_write.proofs.Runs.{run_written, run_stopped, escape_written, escape_stopped, plain_more, plain_none, last_run}
use Rattle.pyx_write.proofs.escapes.write_escaped.Goals as goal
use Rattle.pyx_write.proofs.escapes.write_escaped.Goals.{in-Some+in_ok-write_all+in_ok-write_all-2, in_default}

pub returns-in_err-write_all : goal.returns-in_err-write_all
returns-in_err-write_all g c =
    rw (← c.as_bytes-bytes.ensures.value)
    (run_stopped c.as_bytes-bytes.result.now c.loop-at.start c.loop-at.at c.loop-at.invariant.plain c.loop-at.invariant.wrote c.in_err-write_all.ensures c.from_residual.ensures.0)

pub returns-in_err-write_all-2 : goal.returns-in_err-write_all-2
returns-in_err-write_all-2 g c =
    rw (← c.as_bytes-bytes.ensures.value)
    (escape_stopped c.as_bytes-bytes.result.now c.loop-at.at c.loop-at-test.true (c.as_bytes.ensures.value ∙ c.in-Some.ensures)
    (run_written {z = tt} c.as_bytes-bytes.result.now c.loop-at.start c.loop-at.at c.loop-at.invariant.plain c.loop-at.invariant.wrote c.in_ok-write_all.ensures)
    c.in_err-write_all-2.ensures c.from_residual-in_err-write_all-2.ensures.0)

pub loop-at-preserved : goal.loop-at-preserved
loop-at-preserved g c =
    elim c.match-escape.branch [
      | in-Some+in_ok-write_all+in_ok-write_all-2 w ↦
          rw (w.start-is, w.sink-is) (record {
            within = omega arith;
            plain = plain_none c.as_bytes-bytes.result.now (c.loop-at.at + 1);
            wrote = escape_written c.as_bytes-bytes.result.now c.loop-at.at c.loop-at-test.true (w.as_bytes.ensures.value ∙ w.in-Some.ensures)
                (run_written {z = tt} c.as_bytes-bytes.result.now c.loop-at.start c.loop-at.at c.loop-at.invariant.plain c.loop-at.invariant.wrote w.in_ok-write_all.ensures)
                w.in_ok-write_all-2.ensures;
          })
      | in_default w ↦
          rw (w.start-is, w.sink-is) (record {
            within = omega arith;
            plain = plain_more c.as_bytes-bytes.result.now c.loop-at.start c.loop-at.at c.loop-at.invariant.within c.loop-at-test.true w.in_default.ensures c.loop-at.invariant.plain;
            wrote = c.loop-at.invariant.wrote;
          })
    ]

pub returns : goal.returns
returns g c =
    rw (← c.as_bytes-bytes.ensures.value)
    (last_run c.as_bytes-bytes.result.now c.loop-at.start c.loop-at.at (omega arith) c.loop-at.invariant.plain c.loop-at.invariant.wrote c.write_all-2.ensures)
