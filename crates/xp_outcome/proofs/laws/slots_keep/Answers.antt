use Rattle.xp_outcome.proofs.SlotLemmas.{put_there, others_stay, kept_below, cut_above, put_undone, kept_whole}
use Rattle.xp_outcome.proofs.laws.slots_keep.Goals as goal

pub returns : goal.returns
returns g c = record { put = put_there; others = others_stay; kept = kept_below; cut = cut_above; undone = put_undone; whole = kept_whole }
