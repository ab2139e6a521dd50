-- The unit is forgotten, and then kept.
use Rattle.std.proofs.Common.{◌∙◌, List, length, Option, None, is_none, ap, arith, get_or-set_same, length-set}
use Rattle.xp_outcome.specs.Recorded.{Recorded}
use Rattle.kept_reads.specs.Reads.{reads_at}
use Rattle.kept_reads.specs.inner.LetsRead.{slots_of}
use Rattle.kept_reads.proofs.EntryLemmas.{put_err, put_ok}
use Rattle.kept_reads.proofs.entries.Entries.put.Goals as goal

pub keep-requires-clause-within : goal.keep-requires-clause-within
keep-requires-clause-within c = omega (arith, c.requires, ap length c.forget.ensures, length-set c.args.self.now c.args.place None)

pub keep-requires-clause-stale : goal.keep-requires-clause-stale
keep-requires-clause-stale c =
    ap (λ (entries : List (Option Recorded)). reads_at entries c.args.place) c.forget.ensures
    ∙ get_or-set_same c.args.self.now c.args.place None None c.requires

pub keep-requires-clause-known : goal.keep-requires-clause-known
keep-requires-clause-known c = ap is_none c.in_ok-lets.ensures

pub returns-clause-puts : goal.returns-clause-puts
returns-clause-puts c =
    put_ok c.keep.result c.args.self.now c.forget.new.self c.keep.new.self c.args.place c.cells.result.now c.names.result.now c.lets-slots.result.now
    (slots_of c.in_ok-lets.lets) c.settle_many.new.reads c.args.reads
    c.forget.ensures c.keep.ensures.kept c.in_ok-lets.ensures c.cells.ensures c.names.ensures c.lets-slots.ensures c.settle_many.ensures

pub returns-clause-forgets : goal.returns-clause-forgets
returns-clause-forgets c = put_err c.keep.result c.forget.new.self c.keep.new.self _ c.forget.ensures c.keep.ensures.unchanged
