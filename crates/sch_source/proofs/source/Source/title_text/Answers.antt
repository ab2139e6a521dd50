-- A title is a kid of the schema.
use Rattle.std.proofs.Common.{sym}
use Rattle.sch_source.proofs.CountLemmas.{kid_counts}
use Rattle.sch_source.proofs.ListLemmas.{found-mem}
use Rattle.sch_source.proofs.source.Source.title_text.Goals as goal

pub title-requires : goal.title-requires
title-requires c =
    kid_counts c.args.self.now.tree.now.nodes c.laws.ensures.well_formed c.laws.ensures.ways_up c.args.n c.in-Some.title c.requires
    (found-mem _ _ c.in-Some.title (sym c.in-Some.ensures))
