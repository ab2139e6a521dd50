-- What a run counts.
use Rattle.std.proofs.Common.{◌∙◌, ◌≡◌, ℕ, ◌+◌, ◌≤◌, inr, Bool, true, false, List, IfErr, IfOk, IfSome, OnOk, Option, None, Some, Result, Ok, Err, refl, ap, sym, subst, arith, true≢false}
use Rattle.sch_io.specs.SinkLog.{SinkLog}
use Rattle.doc_tree.specs.Table.{Contents, Table}
use Rattle.doc_tree.specs.declared.refusal.EditRefusal.{EditRefusal}
use Rattle.edit_script.specs.Script.{Script, nothing, onto, script_of}
use Rattle.edit_script.specs.declared.command.Command.{Command as Edit}
use Rattle.edit_command_laws.specs.OneEdit.{OneEdit}
use Rattle.edit_commands.specs.Commands.{IsEdited, RefusesCommand, command_refusal}
use Rattle.edit_commands.specs.declared.refusal.ApplyError.{ApplyError}
use Rattle.edit_commands.specs.declared.refusal.ApplyError.TheVariants as apply
use Rattle.sch_undo.specs.shown.Shown.{Shown}
use Rattle.sch_undo.specs.shown.Shown.TheVariants.{Clean, Findings, Fault}
use Rattle.sch_stops.specs.declared.stop.Stop.{Stop}
use Rattle.sch_stops.specs.declared.stop.Stop.TheVariants.{Usage, SchemaRefused, DocumentRefused, ScriptRefused, Missing, ReadFault, WriteFault, Memory}
use Rattle.sch_commands.specs.Telling.{Telling, edit_cost}
use Rattle.sch_commands.specs.Behaviours.{StatesCost}
use Rattle.sch_commands.specs.Following.{then_shown}
use Rattle.sch_commands.specs.Steps.{CountsBy}
use Rattle.sch_commands.specs.Carried.{status_of_end}
use Rattle.sch_commands.specs.inner.Counts.{CostOn, CountsAhead, CountsAlong, CountsOn, IsCosted, RoseFor}
use Rattle.sch_commands.specs.inner.Followers.{IsUndone, Place, in_front_of}
use Rattle.sch_commands.specs.inner.Scripts.{EditsCost, at_the_end, of_edited, of_refused}
use Rattle.sch_commands.specs.inner.Sessions.{Document, HasCost, IsUnevaluated, LeavesDirty}
use Rattle.sch_commands.specs.inner.Writing.{IsOfWriting}
use Rattle.sch_commands.proofs.AloneLemmas.{cost-alone}
use Rattle.sch_commands.proofs.CarryLemmas.{uncounted}
use Rattle.sch_commands.proofs.CostLemmas.{costs_same, past_edited}
use Rattle.sch_commands.proofs.EndLemmas.{on_ok}
use Rattle.sch_commands.proofs.FollowLemmas.{next_command, refusal_under}

-- Faults among what is shown

abbrev faulty : Shown → Bool
faulty Fault = true
faulty Clean = false
faulty Findings = false

no_fault : (s : Shown) → faulty s ≡ false → s ≡ Fault → ⊥
no_fault s differs is = true≢false (sym (ap faulty is) ∙ differs)

not_before : (s next : Shown) → (then_shown s next ≡ Fault → ⊥) → s ≡ Fault → ⊥
not_before Fault next whole is = whole refl
not_before Clean next whole is = no_fault Clean refl is
not_before Findings next whole is = no_fault Findings refl is

not_next : (s next : Shown) → (then_shown s next ≡ Fault → ⊥) → next ≡ Fault → ⊥
not_next Fault next whole is = whole refl
not_next Clean next whole is = whole is
not_next Findings next whole is = whole is

-- Amounts

pub rose_is : (a b before after : ℕ) (seen : Shown) → a ≡ b → RoseFor a before after seen → RoseFor b before after seen
rose_is a b before after seen is = subst (λ (n : ℕ). RoseFor n before after seen) is

cost_is : (telling : Telling) (T : Table) (script : Script) (a b : ℕ) → a ≡ b → EditsCost telling T script a → EditsCost telling T script b
cost_is telling T script a b is = subst (EditsCost telling T script) is

-- one state more
pub rose_then : (first more start before after : ℕ) (seen next later : Shown) → later ≡ then_shown seen next → RoseFor more before after next → RoseFor first start before seen →
    RoseFor (first + more) start after later
rose_then first more start before after seen next later is rose was = record {
  at_most =
      let a : before ≤ start + first = was.at_most in
      let b : after ≤ before + more = rose.at_most in
      omega (arith, a, b);
  exactly = λ whole.
      let a : before ≡ start + first = was.exactly (not_before seen next (λ e. whole (is ∙ e))) in
      let b : after ≡ before + more = rose.exactly (not_next seen next (λ e. whole (is ∙ e))) in
      omega (arith, a, b);
}

-- Commands

-- an accepted command costs the visits of what it left dirty
pub costed_edited : (at later : Place) (command : Edit) (session : Document) (before after : ℕ) → at.session.tree.pair_cap ≡ at.session.telling.pair_cap →
    command_refusal at.session.tree command ≡ None → IsEdited at.session.tree.nodes command session.tree.nodes →
    session.telling ≡ at.session.telling → LeavesDirty at.session command session →
    later.session.telling ≡ session.telling → later.session.tree ≡ session.tree → later.script ≡ at.script → later.seen ≡ then_shown at.seen (session.telling.shows session.tree.nodes) →
    RoseFor (session.next) before after (session.telling.shows session.tree.nodes) → IsCosted (in_front_of command at) later before after
costed_edited at later command session before after cap none makes telling dirty tellings trees scripts seen rose = record {
  cost = edit_cost at.session.telling at.session.tree.nodes command session.tree.nodes;
  led = λ rest costs. of_edited at.session.tree.nodes session.tree.nodes command at.script rest (refusal_under at.session.telling at.session.tree command cap ∙ none) makes
      (costs_same later.session.telling at.session.telling later.session.tree.nodes session.tree.nodes later.script at.script rest (tellings ∙ telling) (ap (λ (tree : Contents). tree.nodes) trees) scripts costs);
  rose = λ first start was. rose_then first (edit_cost at.session.telling at.session.tree.nodes command session.tree.nodes) start before after at.seen (session.telling.shows session.tree.nodes) later.seen seen
      (rose_is (session.next) (edit_cost at.session.telling at.session.tree.nodes command session.tree.nodes) before after (session.telling.shows session.tree.nodes)
      dirty rose) was;
}

-- where it is written whole
pub costed_whole : (at later : Place) (command : Edit) (session : Document) (before after : ℕ) (result : Result (Unit {0}) Stop) → at.session.tree.pair_cap ≡ at.session.telling.pair_cap →
    command_refusal at.session.tree command ≡ None → IsEdited at.session.tree.nodes command session.tree.nodes →
    session.telling ≡ at.session.telling → LeavesDirty at.session command session →
    later.session.telling ≡ session.telling → later.session.tree ≡ session.tree → later.script ≡ at.script → OnOk result (later.seen ≡ then_shown at.seen (session.telling.shows session.tree.nodes)) →
    OnOk result (RoseFor (session.next) before after (session.telling.shows session.tree.nodes)) → OnOk result (IsCosted (in_front_of command at) later before after)
costed_whole at later command session before after (Ok done) cap none makes telling dirty tellings trees scripts seen rose =
    costed_edited at later command session before after cap none makes telling dirty tellings trees scripts seen rose
costed_whole at later command session before after (Err stop) cap none makes telling dirty tellings trees scripts seen rose = tt

-- a refused command costs none
pub costed_refused : (at later : Place) (command : Edit) (reason : EditRefusal) (count : ℕ) → at.session.tree.pair_cap ≡ at.session.telling.pair_cap →
    command_refusal at.session.tree command ≡ Some reason → later.session.telling ≡ at.session.telling → later.session.tree.nodes ≡ at.session.tree.nodes → later.script ≡ at.script → later.seen ≡ at.seen →
    IsCosted (in_front_of command at) later count count
costed_refused at later command reason count cap some tellings trees scripts seen = record {
  cost = 0;
  led = λ rest costs.
      let same : rest ≡ 0 + rest = omega arith in
      cost_is at.session.telling at.session.tree.nodes (onto command at.script) rest (0 + rest) same
      (of_refused at.session.tree.nodes command reason at.script rest (refusal_under at.session.telling at.session.tree command cap ∙ some)
      (costs_same later.session.telling at.session.telling later.session.tree.nodes at.session.tree.nodes later.script at.script rest tellings trees scripts costs));
  rose = λ first start was.
      let same : first ≡ first + 0 = omega arith in
      rose_is first (first + 0) start count later.seen same (subst (RoseFor first start count) (sym seen) was);
}

-- one that is not done leads no further, or costs none
pub costed_undone : (at later : Place) (command : Edit) (error : ApplyError) (old new : SinkLog) (result : Result (Unit {0}) Stop) (count : ℕ) → at.session.tree.pair_cap ≡ at.session.telling.pair_cap →
    RefusesCommand at.session.tree command error → IsUndone at.number error old new result →
    later.session.telling ≡ at.session.telling → later.session.tree.nodes ≡ at.session.tree.nodes → later.script ≡ at.script → later.seen ≡ at.seen →
    OnOk result (IsCosted (in_front_of command at) later count count)
costed_undone at later command (apply.Refused reason) old new result count cap some undone tellings trees scripts seen =
    on_ok (IsCosted (in_front_of command at) later count count) result (costed_refused at later command reason count cap some tellings trees scripts seen)
costed_undone at later command apply.Memory old new result count cap some undone tellings trees scripts seen =
    subst (λ (r : Result (Unit {0}) Stop). OnOk r (IsCosted (in_front_of command at) later count count)) (sym undone.0) tt

-- what comes of a command counts at most the visits of what is to come: where it is accepted
pub ahead_edited : (at : Place) (command : Edit) (session : Document) (before after : ℕ) → OneEdit → at.session.tree.pair_cap ≡ at.session.telling.pair_cap →
    command_refusal at.session.tree command ≡ None → IsEdited at.session.tree.nodes command session.tree.nodes →
    session.telling ≡ at.session.telling → LeavesDirty at.session command session →
    HasCost at.session (onto command at.script) → after ≤ before + session.next → CountsAhead (in_front_of command at) before after
ahead_edited at command session before after one_edit cap none makes telling dirty costs at_most =
    let free = refusal_under at.session.telling at.session.tree command cap ∙ none in
    let rest = past_edited at.session.telling one_edit at.session.tree.nodes session.tree.nodes command at.script free makes costs in
    let first : session.next ≡ edit_cost at.session.telling at.session.tree.nodes command session.tree.nodes = dirty in (
      edit_cost at.session.telling at.session.tree.nodes command session.tree.nodes + rest.0,
      of_edited at.session.tree.nodes session.tree.nodes command at.script rest.0 free makes rest.1,
      omega (arith, at_most, first),
    )

-- The commands one after another

pub not_costed : (at : Place) (count : ℕ) → IsCosted at at count count
not_costed at count = record {
  cost = 0;
  led = λ rest costs.
      let same : rest ≡ 0 + rest = omega arith in
      cost_is at.session.telling at.session.tree.nodes at.script rest (0 + rest) same costs;
  rose = λ first start was.
      let same : first ≡ first + 0 = omega arith in
      rose_is first (first + 0) start count at.seen same was;
}

pub costed_on : (a b c : Place) (before mid after : ℕ) → IsCosted a b before mid → IsCosted b c mid after → IsCosted a c before after
costed_on a b c before mid after first next = record {
  cost = first.cost + next.cost;
  led = λ rest costs.
      let same : first.cost + (next.cost + rest) ≡ (first.cost + next.cost) + rest = omega arith in
      cost_is a.session.telling a.session.tree.nodes a.script (first.cost + (next.cost + rest)) ((first.cost + next.cost) + rest) same (first.led (next.cost + rest) (next.led rest costs));
  rose = λ amount start was.
      let same : (amount + first.cost) + next.cost ≡ amount + (first.cost + next.cost) = omega arith in
      rose_is ((amount + first.cost) + next.cost) (amount + (first.cost + next.cost)) start after c.seen same (next.rose (amount + first.cost) start (first.rose amount start was));
}

-- the place in front of the next command is the one that was come to
pub costed_to_next : (earlier later : Place) (rest : Script) (next : Option Edit) (command : Edit) (before after : ℕ) → next ≡ Some command → IfSome next (λ c. later.script ≡ onto c rest) →
    IsCosted earlier later before after → IsCosted earlier (in_front_of command (record later { script = rest })) before after
costed_to_next earlier later rest next command before after is says costed = record {
  cost = costed.cost;
  led = λ more costs. costed.led more (costs_same later.session.telling later.session.telling later.session.tree.nodes later.session.tree.nodes (onto command rest) later.script more refl refl
      (sym (next_command next command later.script rest is says)) costs);
  rose = costed.rose;
}

-- what a script costs whose end was come to
all_cost : (earlier later : Place) (before after first : ℕ) (costed : IsCosted earlier later before after) → EditsCost later.session.telling later.session.tree.nodes later.script 0 → CostOn earlier first (first + costed.cost)
all_cost earlier later before after first costed none =
    let same : costed.cost + 0 ≡ costed.cost = omega arith in
    (costed.cost, cost_is earlier.session.telling earlier.session.tree.nodes earlier.script (costed.cost + 0) costed.cost same (costed.led 0 none), refl)

pub rest_counts : (earlier later : Place) (before after : ℕ) → IsCosted earlier later before after → later.script ≡ nothing → CountsOn earlier before after (Ok later.seen)
rest_counts earlier later before after costed none = λ first start was.
    let costs = all_cost earlier later before after first costed (subst (λ (s : Script). EditsCost later.session.telling later.session.tree.nodes s 0) (sym none) (at_the_end later.session.tree.nodes)) in
    (first + costed.cost, costs, costed.rose first start was)

-- what counts at most the visits of what is to come
pub ahead_none : (at : Place) (count : ℕ) → HasCost at.session at.script → CountsAhead at count count
ahead_none at count costs = (costs.0, costs.1, omega arith)

-- also behind what was done
pub ahead_on : (earlier later : Place) (before mid after : ℕ) → IsCosted earlier later before mid → CountsAhead later mid after → CountsAhead earlier before after
ahead_on earlier later before mid after costed ahead =
    let rose = costed.rose 0 before (record { at_most = omega arith; exactly = λ whole. omega arith }) in
    let so_far : mid ≤ before + (0 + costed.cost) = rose.at_most in
    let more : after ≤ mid + ahead.0 = ahead.2 in
    (costed.cost + ahead.0, costed.led ahead.0 ahead.1, omega (arith, so_far, more))

-- the rest is stopped
pub ahead_stops : (at : Place) (before after : ℕ) (stop : Stop) (result : Result Shown Stop) → result ≡ Err stop → CountsAhead at before after → CountsOn at before after result
ahead_stops at before after stop result is ahead = subst (CountsOn at before after) (sym is) (λ first start was.
    let so_far : before ≤ start + first = was.at_most in
    let more : after ≤ before + ahead.0 = ahead.2 in
    (first + ahead.0, (ahead.0, ahead.1, refl), omega (arith, so_far, more)))

-- The whole

pub along_as : (A B : ℕ → Type 0) (before after : ℕ) (result : Result Shown Stop) → ((cost : ℕ) → A cost → B cost) → CountsAlong A before after result → CountsAlong B before after result
along_as A B before after (Ok seen) gives counts = (counts.0, gives counts.0 counts.1, counts.2)
along_as A B before after (Err stop) gives counts = (counts.0, gives counts.0 counts.1, counts.2)

-- by the status of the run, which stops where it writes
pub along_by : (costs : ℕ → Type 0) (before after : ℕ) (result : Result Shown Stop) → IfErr result IsOfWriting → CountsAlong costs before after result → CountsBy costs (status_of_end result) before after
along_by costs before after (Ok Clean) writing counts = (counts.0, counts.1, counts.2.exactly (no_fault Clean refl))
along_by costs before after (Ok Findings) writing counts = (counts.0, counts.1, counts.2.exactly (no_fault Findings refl))
along_by costs before after (Ok Fault) writing counts = (counts.0, counts.1, counts.2.at_most)
along_by costs before after (Err (ScriptRefused refusal)) writing counts = inr counts
along_by costs before after (Err WriteFault) writing counts = inr counts
along_by costs before after (Err Memory) writing counts = inr counts
along_by costs before after (Err Usage) writing counts = absurd (true≢false (sym writing.writes))
along_by costs before after (Err (SchemaRefused refusal)) writing counts = absurd (true≢false (sym writing.writes))
along_by costs before after (Err (DocumentRefused refusal)) writing counts = absurd (true≢false (sym writing.writes))
along_by costs before after (Err (Missing name)) writing counts = absurd (true≢false (sym writing.writes))
along_by costs before after (Err (ReadFault name)) writing counts = absurd (true≢false (sym writing.writes))

-- the first state costs the visits of all units
pub state_counts : (telling : Telling) (T : Table) (before after : ℕ) (result : Result Shown Stop) → IfErr result IsOfWriting →
    IfOk result (RoseFor (telling.first_cost T) before after) → after ≤ before + telling.first_cost T → CountsBy (λ cost. cost ≡ telling.first_cost T) (status_of_end result) before after
state_counts telling T before after result writing rose at_most = along_by (λ cost. cost ≡ telling.first_cost T) before after result writing (by result rose)
  where
    by : (result : Result Shown Stop) → IfOk result (RoseFor (telling.first_cost T) before after) → CountsAlong (λ cost. cost ≡ telling.first_cost T) before after result
    by (Ok seen) rose = (telling.first_cost T, refl, rose)
    by (Err stop) rose = (telling.first_cost T, refl, at_most)

-- the first state of a script does not come to its end
pub first_counts : (session : Document) (bytes : List ℕ) (before after : ℕ) (stop : Stop) (result : Result Shown Stop) → result ≡ Err stop → IsUnevaluated session →
    HasCost session (script_of bytes) → after ≤ before + session.next → CountsAlong (StatesCost session.telling 0 session.tree.nodes bytes) before after result
first_counts session bytes before after stop result is none costs at_most = subst (CountsAlong (StatesCost session.telling 0 session.tree.nodes bytes) before after) (sym is)
    (let first : session.next ≡ session.telling.first_cost session.tree.nodes = none in
    (session.telling.first_cost session.tree.nodes + costs.0, (costs.0, cost-alone session.telling session.tree.nodes (script_of bytes) costs.0 costs.1, refl), omega (arith, at_most, first)))

-- the states, the first of which was written
pub states_count : (session : Document) (bytes : List ℕ) (first : Place) (before mid after : ℕ) (result : Result Shown Stop) → IsUnevaluated session →
    first.session.telling ≡ session.telling → first.session.tree ≡ session.tree → first.script ≡ script_of bytes →
    RoseFor (session.next) before mid first.seen → CountsOn first mid after result → CountsAlong (StatesCost session.telling 0 session.tree.nodes bytes) before after result
states_count session bytes first before mid after result none tellings trees scripts rose counts =
    along_as (CostOn first (session.next)) (StatesCost session.telling 0 session.tree.nodes bytes) before after result
    (λ cost costs. (
      costs.0,
      cost-alone session.telling session.tree.nodes (script_of bytes) costs.0
          (costs_same first.session.telling session.telling first.session.tree.nodes session.tree.nodes first.script (script_of bytes) costs.0 tellings (ap (λ (tree : Contents). tree.nodes) trees) scripts costs.1),
      costs.2 ∙ ap (λ (n : ℕ). n + costs.0) none,
    ))
    (counts (session.next) before rose)

-- The words

-- what makes no visits counts none
pub none_counted : (count : ℕ) (result : Result Shown Stop) → CountsBy (λ cost. cost ≡ 0) (status_of_end result) count count
none_counted count (Ok Clean) = (0, refl, omega arith)
none_counted count (Ok Findings) = (0, refl, omega arith)
none_counted count (Ok Fault) = (0, refl, omega arith)
none_counted count (Err stop) = uncounted (λ cost. cost ≡ 0) count stop
