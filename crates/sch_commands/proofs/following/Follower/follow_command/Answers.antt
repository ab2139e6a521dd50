-- The command is refused, or makes another document of it.
use Rattle.std.proofs.Common.{◌∙◌, ap, refl, subst, sym}
use Rattle.doc_tree.specs.Table.{Contents}
use Rattle.edit_script.specs.Script.{script_left}
use Rattle.sch_commands.specs.inner.Followers.{IsReady, in_front_of, place_of}
use Rattle.sch_commands.specs.inner.Sessions.{Document}
use Rattle.sch_commands.proofs.EndLemmas.{on_ok}
use Rattle.sch_commands.proofs.FollowLemmas.{command_edited, command_undone, costs_edited, ready_after, ready_undone}
use Rattle.sch_commands.proofs.StepLemmas.{ahead_edited, ahead_none, costed_undone, costed_whole}
use Rattle.sch_commands.proofs.following.Follower.follow_command.Goals as goal

pub returns-in-Ok-clause-goes : goal.returns-in-Ok-clause-goes
returns-in-Ok-clause-goes g c =
    let document = g.F.Followed.document in
    command_edited (place_of (document c.args.followed.now) c.args.self.now) (place_of (document c.write_edited.new.followed) c.write_edited.new.self) c.args.command.now (document c.edit.new.self) _ _
    c.write_edited.result c.requires.ready.cap c.in-Ok.ensures.within c.in-Ok.ensures.edited c.in-Ok.ensures.telling
    c.write_edited.ensures.wrote c.write_edited.ensures.telling c.write_edited.ensures.tree c.write_edited.ensures.number (ap script_left c.write_edited.ensures.script) c.write_edited.ensures.seen

pub returns-in-Ok-clause-ready : goal.returns-in-Ok-clause-ready
returns-in-Ok-clause-ready g c =
    let document = g.F.Followed.document in
    let at = place_of (document c.args.followed.now) c.args.self.now in
    let later = place_of (document c.write_edited.new.followed) c.write_edited.new.self in
    on_ok (IsReady later) c.write_edited.result
    (ready_after at later c.args.command.now c.requires.ready
    (ap (λ (tree : Contents). tree.pair_cap) c.write_edited.ensures.tree ∙ c.in-Ok.ensures.cap) (c.write_edited.ensures.telling ∙ c.in-Ok.ensures.telling) c.write_edited.ensures.number (ap script_left c.write_edited.ensures.script)
    (costs_edited (document c.args.followed.now) (document c.edit.new.self) (document c.write_edited.new.followed) c.args.command.now (script_left c.args.self.now.script) (script_left c.write_edited.new.self.script) c.one_edit.ensures
    c.requires.ready.cap c.in-Ok.ensures.within c.in-Ok.ensures.edited c.in-Ok.ensures.telling c.write_edited.ensures.telling c.write_edited.ensures.tree (ap script_left c.write_edited.ensures.script) c.requires.ready.costs))

pub returns-in-Ok-clause-costed : goal.returns-in-Ok-clause-costed
returns-in-Ok-clause-costed g c =
    let document = g.F.Followed.document in
    costed_whole (place_of (document c.args.followed.now) c.args.self.now) (place_of (document c.write_edited.new.followed) c.write_edited.new.self) c.args.command.now (document c.edit.new.self) _ _
    c.write_edited.result c.requires.ready.cap c.in-Ok.ensures.within c.in-Ok.ensures.edited c.in-Ok.ensures.telling (c.in-Ok.ensures.dirty c.requires.fresh)
    c.write_edited.ensures.telling c.write_edited.ensures.tree (ap script_left c.write_edited.ensures.script) c.write_edited.ensures.seen c.write_edited.ensures.rose

pub returns-in-Ok-clause-at_most : goal.returns-in-Ok-clause-at_most
returns-in-Ok-clause-at_most g c =
    let document = g.F.Followed.document in
    ahead_edited (place_of (document c.args.followed.now) c.args.self.now) c.args.command.now (document c.edit.new.self) _ _ c.one_edit.ensures c.requires.ready.cap c.in-Ok.ensures.within c.in-Ok.ensures.edited
    c.in-Ok.ensures.telling (c.in-Ok.ensures.dirty c.requires.fresh) c.requires.ready.costs c.write_edited.ensures.at_most

pub returns-in-Err-clause-goes : goal.returns-in-Err-clause-goes
returns-in-Err-clause-goes g c =
    let document = g.F.Followed.document in
    let same = ap document c.in-Err.ensures.unchanged in
    command_undone (place_of (document c.args.followed.now) c.args.self.now) _ c.args.command.now c.in-Err.error _ _ c.write_undone.result c.requires.ready.cap c.in-Err.ensures.refused c.write_undone.ensures
    c.in-Err.ensures.telling (ap (λ (s : Document). s.tree.nodes) same) refl refl refl

pub returns-in-Err-clause-ready : goal.returns-in-Err-clause-ready
returns-in-Err-clause-ready g c =
    let document = g.F.Followed.document in
    ready_undone (place_of (document c.args.followed.now) c.args.self.now) _ c.args.command.now c.in-Err.error _ _ c.write_undone.result c.requires.ready c.in-Err.ensures.refused c.write_undone.ensures
    (ap document c.in-Err.ensures.unchanged) refl refl

pub returns-in-Err-clause-fresh : goal.returns-in-Err-clause-fresh
returns-in-Err-clause-fresh g c =
    on_ok (g.F.Followed.is_evaluated c.edit.new.self) c.write_undone.result (subst g.F.Followed.is_evaluated (sym c.in-Err.ensures.unchanged) c.requires.fresh)

pub returns-in-Err-clause-at_most : goal.returns-in-Err-clause-at_most
returns-in-Err-clause-at_most g c = ahead_none (in_front_of c.args.command.now (place_of (g.F.Followed.document c.args.followed.now) c.args.self.now)) _ c.requires.ready.costs

pub returns-in-Err-clause-costed : goal.returns-in-Err-clause-costed
returns-in-Err-clause-costed g c =
    let document = g.F.Followed.document in
    costed_undone (place_of (document c.args.followed.now) c.args.self.now) _ c.args.command.now c.in-Err.error _ _ c.write_undone.result _ c.requires.ready.cap c.in-Err.ensures.refused c.write_undone.ensures
    c.in-Err.ensures.telling (ap (λ (s : Document). s.tree.nodes) (ap document c.in-Err.ensures.unchanged)) refl refl
