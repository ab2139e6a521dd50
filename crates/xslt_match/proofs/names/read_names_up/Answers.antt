use Rattle.std.proofs.Common.{◌≡◌, ◌≤◌, ◌∙◌, true, arith, length, map, subst, sym}
use Rattle.std.proofs.lemmas.List.{length-map}
use Rattle.xp_typed_tree.specs.TypedView.{pattern_step_seen}
use Rattle.xp_outcome.specs.Recorded.{note_all}
use Rattle.xslt_match.specs.Names.{HoldsNames, step_names}
use Rattle.xslt_match.specs.inner.Named.{all_named}
use Rattle.xslt_match.proofs.Recording.{covered, held_now, holds_fewer, holds_read, ran_covered, recorded}
use Rattle.xslt_match.proofs.names.read_names_up.Goals as goal

pub returns-then-not-named-clause-named : goal.returns-then-not-named-clause-named
returns-then-not-named-clause-named c =
    holds_read c.args.tree.now.nodes c.args.n c.args.levels.now c.read_step_names.result (c.read_step_names.ensures 0) c.requires.held

pub returns-in_ok-read_step_names-clause-named : goal.returns-in_ok-read_step_names-clause-named
returns-in_ok-read_step_names-clause-named c =
    let T = c.args.tree.now.nodes in
    let ss = map pattern_step_seen c.args.path_steps.now in
    let all : all_named ss ≡ true = sym c.requires.named ∙ c.if-not-named.false in
    subst (HoldsNames T c.args.n (length c.args.path_steps.now)) (sym (recorded (step_names T c.args.n ss) (c.in_ok-read_step_names.ensures 0)))
    (subst (λ levels. HoldsNames T c.args.n levels (note_all c.args.reads.now (step_names T c.args.n ss)))
    (length-map c.args.path_steps.now pattern_step_seen) (held_now T c.args.n ss c.args.reads.now all))

pub returns-else-levels-path_steps-clause-ran : goal.returns-else-levels-path_steps-clause-ran
returns-else-levels-path_steps-clause-ran c = λ count.
    let T = c.args.tree.now.nodes in
    let ss = map pattern_step_seen c.args.path_steps.now in
    let all : all_named ss ≡ true = sym c.requires.named ∙ c.if-not-named.false in
    let enough : length ss ≤ c.args.levels.now = omega (arith, c.if-levels-path_steps.false, length-map c.args.path_steps.now pattern_step_seen) in
    ran_covered (step_names T c.args.n ss) c.args.reads.now count
    (covered T c.args.n ss c.args.reads.now all (holds_fewer T c.args.n c.args.levels.now (length ss) c.args.reads.now enough c.requires.held))
