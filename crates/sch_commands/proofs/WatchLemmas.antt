-- What is written of watched expressions, and what that costs.
use Rattle.std.proofs.Common.{◌∙◌, ◌≡◌, ℕ, Bool, true, false, List, [], ◌∷◌, filter, IfOk, Result, Ok, Err, refl, ap, sym, subst}
use Rattle.std.specs.List.{list_any}
use Rattle.sch_io.specs.SinkLog.{SinkLog}
use Rattle.doc_tree.specs.Table.{Contents, Table}
use Rattle.edit_script.specs.declared.command.Command.{Command}
use Rattle.edit_commands.specs.Touched.{touched_by}
use Rattle.sch_undo.specs.shown.Shown.{Shown}
use Rattle.sch_undo.specs.shown.Shown.TheVariants.{Fault}
use Rattle.xp_typed_tree.specs.TypedTree.{TypedTree}
use Rattle.xp_watch.specs.Costs.{Raised, cost_of, has_fault}
use Rattle.xp_watch.specs.Kept.{IsFresh, is_stale, stale_watches}
use Rattle.xp_watch.specs.Watched.{dirty_watches, watches_of}
use Rattle.xp_watch.specs.Watching.{Watching}
use Rattle.watch_out.specs.Lines.{shows_fault}
use Rattle.svrl_out.specs.Report.{Reported}
use Rattle.svrl_out.specs.declared.report.OutError.{OutError}
use Rattle.svrl_out.specs.declared.report.OutError.TheVariants as out
use Rattle.sch_stops.specs.declared.stop.Stop.{Stop}
use Rattle.sch_loading.specs.Reads.{EndsAs}
use Rattle.sch_loading.specs.Stages.{Is, goes}
use Rattle.sch_commands.specs.Behaviours.{watched_on}
use Rattle.sch_commands.specs.Telling.{shown_of}
use Rattle.sch_commands.specs.inner.Counts.{RoseFor}
use Rattle.sch_commands.specs.inner.Followers.{watched_by}
use Rattle.sch_commands.specs.inner.Sessions.{IsUnevaluated, IsWatched, LeavesDirty, document_watched, stale_cost}
use Rattle.sch_commands.specs.inner.Writing.{WroteText, of_out}
use Rattle.sch_commands.proofs.EndLemmas.{fault_writing, memory_writing}

-- The document

-- a document that was opened with watched expressions
pub opened_with : (list : List TypedTree) (tree : Contents) (watch : Watching) → watch.expressions ≡ list → watch.tree.nodes ≡ tree.nodes →
    EndsAs (Is (goes (watched_on list tree.nodes)) []) watched_by (Ok watch)
opened_with list tree watch exprs nodes =
    (refl, ap (λ (l : List TypedTree). goes (watched_on l watch.tree.nodes)) exprs ∙ ap (λ (T : Table). goes (watched_on list T)) nodes)

-- all of which are stale
all-pass : (P : ℕ → Bool) (ks : List ℕ) → ((k : ℕ) → P k ≡ true) → filter P ks ≡ ks
all-pass P [] all = refl
all-pass P (k ∷ ks) all = let rest : filter P ks ≡ ks = all-pass P ks all in let here : P k ≡ true = all k in rw (here, rest) refl

pub unevaluated-watched : (watch : Watching) → ((k : ℕ) → is_stale watch.kept k ≡ true) → IsUnevaluated (document_watched watch)
unevaluated-watched watch stale = ap (cost_of watch.tree.nodes watch.expressions) (all-pass (is_stale watch.kept) (watches_of watch.expressions) stale)

-- a refresh leaves none stale
pub refreshed-as : (before after : Watching) → after.tree ≡ before.tree → after.expressions ≡ before.expressions → IsFresh before.tree.nodes before.expressions after.kept → IsWatched after
refreshed-as before after trees exprs fresh =
    subst (λ (e : List TypedTree). IsFresh after.tree.nodes e after.kept) (sym exprs) (subst (λ (tree : Contents). IsFresh tree.nodes before.expressions after.kept) (sym trees) fresh)

-- a command leaves the dirty ones stale
pub watches-dirty : (before : Watching) (command : Command) (after : Watching) → after.expressions ≡ before.expressions →
    stale_watches after.kept before.expressions ≡ dirty_watches before.tree.nodes (touched_by before.tree.nodes command) before.expressions →
    LeavesDirty (document_watched before) command (document_watched after)
watches-dirty before command after exprs dirty =
    ap (λ (e : List TypedTree). cost_of after.tree.nodes e (stale_watches after.kept e)) exprs ∙ ap (cost_of after.tree.nodes before.expressions) dirty

-- What it costs

-- where none of all has a fault none of some has
some-next : (f P : ℕ → Bool) (k : ℕ) (ks : List ℕ) (p : Bool) → P k ≡ p → (b : Bool) → f k ≡ b → list_any f (k ∷ ks) ≡ false →
    (list_any f ks ≡ false → list_any f (filter P ks) ≡ false) → list_any f (filter P (k ∷ ks)) ≡ false
some-next f P k ks p is true fails none rest = absurd (let clash : true ≡ false = rw fails at none in cc)
some-next f P k ks true is false passes none rest =
    let behind : list_any f (filter P ks) ≡ false = rest (rw passes at none) in rw (is, passes, behind) refl
some-next f P k ks false is false passes none rest =
    let behind : list_any f (filter P ks) ≡ false = rest (rw passes at none) in rw (is, behind) refl

some-any : (f P : ℕ → Bool) (ks : List ℕ) → list_any f ks ≡ false → list_any f (filter P ks) ≡ false
some-any f P [] none = refl
some-any f P (k ∷ ks) none = some-next f P k ks (P k) refl (f k) refl none (some-any f P ks)

not-shown : (b : Bool) → (shown_of b ≡ Fault → ⊥) → b ≡ false
not-shown true whole = absurd (whole refl)
not-shown false whole = refl

pub rose-watching : (watch : Watching) (before after : ℕ) (result : Result Shown Stop) → IfOk result (λ last. last ≡ shown_of (shows_fault watch.tree.nodes watch.expressions)) →
    Raised watch.tree.nodes watch.expressions (stale_watches watch.kept watch.expressions) before after → IfOk result (RoseFor (stale_cost watch) before after)
rose-watching watch before after (Ok last) shows raised = record {
  at_most = raised.at_most;
  exactly = λ whole. raised.exactly (some-any (has_fault watch.tree.nodes watch.expressions) (is_stale watch.kept) (watches_of watch.expressions)
      (not-shown (shows_fault watch.tree.nodes watch.expressions) (λ is. whole (shows ∙ is))));
}
rose-watching watch before after (Err stop) shows raised = tt

-- Texts

-- what was told whole
pub given_written : (old new : SinkLog) (text : List ℕ) (last : Shown) → Reported old new text (Ok tt) → WroteText {A = Shown} old new text (Ok last)
given_written old new text last wrote = record { told = wrote.grown; writing = tt; faults = wrote.counted }

-- and what was not
pub given_stopped : (old new : SinkLog) (text : List ℕ) (error : OutError) (result : Result Shown Stop) (stop : Stop) → result ≡ Err stop → stop ≡ of_out error →
    Reported old new text (Err error) → WroteText old new text result
given_stopped old new text out.Failed result stop is says wrote = subst (λ (r : Result Shown Stop). WroteText old new text r) (sym (is ∙ ap Err says)) (record {
  told = wrote.grown;
  writing = fault_writing;
  faults = wrote.counted;
})
given_stopped old new text out.Memory result stop is says wrote = subst (λ (r : Result Shown Stop). WroteText old new text r) (sym (is ∙ ap Err says)) (record {
  told = wrote.grown;
  writing = memory_writing;
  faults = wrote.counted;
})
