-- What a run shows behind an undo, and of a document that was saved.
use Rattle.std.proofs.Common.{◌≡◌, ◌⊎◌, inl, inr, ℕ, suc, ◌+◌, ◌*◌, ◌<◌, Bool, true, false, List, [], ◌∷◌, ◌++◌, length, take, Option, None, Some, Result, Ok, Err, refl, sym, ap, ap₂, ◌∙◌, subst, subst₂, arith, le-ltb, nat_lt, if◌then◌else◌}
use Rattle.std.specs.FinMap.{get}
use Rattle.sch_base.specs.declared.limits.TheConstants.{MAX_PAIRS}
use Rattle.sch_io.specs.Files.{Files}
use Rattle.sch_io.specs.declared.reading.TheConstants.{MAX_FILE_BYTES}
use Rattle.doc_tree.specs.Kinds.{is_document}
use Rattle.doc_tree.specs.Laws.{WellFormed}
use Rattle.doc_tree.specs.Table.{Table}
use Rattle.doc_tree.specs.declared.refusal.EditRefusal.{EditRefusal}
use Rattle.doc_tree.specs.declared.refusal.EditRefusal.TheVariants.{IdsSpent}
use Rattle.doc_tree.specs.limits.TheConstants.{MAX_NODE_NUMBERS}
use Rattle.doc_write.specs.TreeText.{tree_text}
use Rattle.name_scopes.specs.RoundTrip.{TextComesBack}
use Rattle.name_scopes.specs.ScopedTree.{OneTree}
use Rattle.name_scopes.specs.declared.fault.DocFault.{DocFault}
use Rattle.name_scopes_laws.specs.Documents.{DocumentsHaveTrees}
use Rattle.edit_script.specs.Undos as item
use Rattle.edit_script.specs.declared.command.Command.{Command}
use Rattle.edit_script.specs.declared.limits.TheConstants.{MAX_SCRIPT_BYTES}
use Rattle.edit_commands.specs.Commands.{IsEdited, command_refusal}
use Rattle.edit_command_laws.specs.OneEdit.{OneEdit}
use Rattle.edit_command_laws.specs.TreesKept.{EditsKeepTrees}
use Rattle.edit_iso_laws.proofs.InTurnLemmas.{kept-in-turn}
use Rattle.sch_cli.specs.Pairs.{has_too_many_pairs}
use Rattle.sch_cli.specs.State.{state_text}
use Rattle.sch_cli.specs.shown.Shown.{Shown}
use Rattle.sch_compiled.specs.declared.plan.Plan.{Plan}
use Rattle.sch_include.specs.Included.{OneInclusion}
use Rattle.sch_plan.specs.OnePlan.{OnePlan}
use Rattle.state_iso_laws.specs.States.{SameTreesShowTheSame, SavedDocumentsShowTheSame, ShowTheSame}
use Rattle.sch_words.specs.Commands.{follow, validate}
use Rattle.sch_stops.specs.EditLines.{edit_line, refused_line, undo_line}
use Rattle.sch_stops.specs.Output.{Output}
use Rattle.sch_loading.specs.Documents.{IsParsed}
use Rattle.sch_loading.specs.Loading.{Fetching, Loading, Parsing, Planning, Scripting, as_script, held_under, parsed}
use Rattle.sch_loading.specs.Stages.{Is, Then, goes, halt_if, halts, unread}
use Rattle.sch_loading.proofs.StageLemmas.{goes-first, through}
use Rattle.sch_cli.specs.Behaviours.{Any, IsWhole, Opening, OpeningAll, Scripted, States, Treed, Treeing, too_many_pairs, tree_under}
use Rattle.sch_cli.specs.Following.{Earlier, Follows, IsTakenBack, earlier_of, edits, items_of, lacks_numbers, refuses, then_shown, undoes}
use Rattle.sch_cli.specs.Output.{ended, in_front, state}
use Rattle.sch_cli.specs.Telling.{Telling, by_plan, under}
use Rattle.sch_cli_laws.proofs.OneOutput.{one-opening}
use Rattle.sch_cli.proofs.ScriptCases.{refused-or-none}
use Rattle.sch_cli_laws.specs.Undone.{RunsUndone, SavedDocumentsValidateAlike, UndoneAtOnce, UndosShowTheSame, WritesUndone}

-- An undo

-- the commands that take an edit back keep a tree
pub undos-same : EditsKeepTrees → SameTreesShowTheSame → UndosShowTheSame
undos-same keeps same plan T U back form document earlier taken =
    let kept = kept-in-turn keeps (under (by_plan plan) T) (under (by_plan plan) U) back.commands form document taken.done in
    same plan back.tree U earlier kept.0 taken.same

module _ (telling : Telling) (undos : ℕ) where
  -- what is written for a command that is done, or refused
  record EditedFirst (T : Table) (backs : List Earlier) (number : ℕ) (seen : Shown) (command : Command) (rest : item.Items) (output : Output) : Type 0 where
    made : Table
    free : command_refusal (under telling T) command ≡ None
    makes : IsEdited T command made
    later : Output
    follows : Follows telling undos made (take undos (earlier_of T command ∷ backs)) (number + 1) (then_shown seen (telling.shows made)) rest later
    is : output ≡ in_front (edit_line number ++ telling.text made) later

  record RefusedFirst (T : Table) (number : ℕ) (command : Command) (output : Output) : Type 0 where
    reason : EditRefusal
    refused : command_refusal (under telling T) command ≡ Some reason
    later : Output
    is : output ≡ in_front (refused_line number reason) later

  edit-first : (T : Table) (backs : List Earlier) (number : ℕ) (seen : Shown) (command : Command) (rest : item.Items) (output : Output) →
      Follows telling undos T backs number seen (item.edits command rest) output → EditedFirst T backs number seen command rest output ⊎ RefusedFirst T number command output
  edit-first T backs number seen command rest _ (refuses _ _ _ _ _ reason _ output some follows) =
      inr (record { reason = reason; refused = some; later = output; is = refl })
  edit-first T backs number seen command rest _ (edits _ U _ _ _ _ _ output free makes follows) =
      inl (record { made = U; free = free; makes = makes; later = output; follows = follows; is = refl })

  -- what is written for an undo that is done, or lacks numbers
  record UndoneFirst (T : Table) (back : Earlier) (number : ℕ) (output : Output) : Type 0 where
    made : Table
    taken : IsTakenBack telling T back made
    later : Output
    is : output ≡ in_front (undo_line number ++ telling.text made) later

  record LackingFirst (T : Table) (back : Earlier) (number : ℕ) (output : Output) : Type 0 where
    less : MAX_NODE_NUMBERS < length T + back.numbers
    later : Output
    is : output ≡ in_front (refused_line number IdsSpent) later

  undo-first : (T : Table) (back : Earlier) (backs : List Earlier) (number : ℕ) (seen : Shown) (rest : item.Items) (output : Output) →
      Follows telling undos T (back ∷ backs) number seen (item.undoes rest) output → UndoneFirst T back number output ⊎ LackingFirst T back number output
  undo-first T back backs number seen rest _ (undoes _ U _ _ _ _ _ output taken follows) = inl (record { made = U; taken = taken; later = output; is = refl })
  undo-first T back backs number seen rest _ (lacks_numbers _ _ _ _ _ _ output less follows) = inr (record { less = less; later = output; is = refl })

-- an edit that is undone at once: the text behind the undo is that from before the edit
module _ (keeps : EditsKeepTrees) (same : SameTreesShowTheSame) (plan : Plan) (T : Table) (form : WellFormed T) (document : is_document T ≡ true) where
  before-again : (U : Table) (command : Command) (number : ℕ) (output : Output) → command_refusal (under (by_plan plan) T) command ≡ None → IsEdited T command U →
      (undos : ℕ) (first : UndoneFirst (by_plan plan) undos U (earlier_of T command) number output) → output.out ≡ (undo_line number ++ state_text plan T) ++ first.later.out
  before-again U command number output free makes undos first =
      let kept = keeps (under (by_plan plan) T) command U form document free makes in
      let shows : ShowTheSame plan T first.made = undos-same keeps same plan U first.made (earlier_of T command) kept.0 kept.1 form first.taken in
      ap (λ (o : Output). o.out) first.is ∙ ap (λ (text : List ℕ). (undo_line number ++ text) ++ first.later.out) (sym shows.text)

pub at-once : OneEdit → EditsKeepTrees → SameTreesShowTheSame → UndoneAtOnce
at-once one keeps same plan undos T U backs number seen command rest output form document free makes enough follows =
    by (edit-first (by_plan plan) (suc undos) T backs number seen command (item.undoes rest) output follows)
  where
    then-by : (first : EditedFirst (by_plan plan) (suc undos) T backs number seen command (item.undoes rest) output) → first.made ≡ U →
        UndoneFirst (by_plan plan) (suc undos) first.made (earlier_of T command) (number + 1) first.later
        ⊎ LackingFirst (by_plan plan) (suc undos) first.made (earlier_of T command) (number + 1) first.later →
        (more : List ℕ) × (output.out ≡ (edit_line number ++ state_text plan U) ++ ((undo_line (number + 1) ++ state_text plan T) ++ more))
    then-by first trees (inl second) = (
      second.later.out,
      ap (λ (o : Output). o.out) first.is ∙ ap (λ (X : Table). (edit_line number ++ state_text plan X) ++ first.later.out) trees
          ∙ ap (λ (text : List ℕ). (edit_line number ++ state_text plan U) ++ text)
          (before-again keeps same plan T form document first.made command (number + 1) first.later first.free first.makes (suc undos) second),
    )
    then-by first trees (inr second) = absurd (omega (arith, second.less, enough, ap length trees))

    by : EditedFirst (by_plan plan) (suc undos) T backs number seen command (item.undoes rest) output ⊎ RefusedFirst (by_plan plan) (suc undos) T number command output →
        (more : List ℕ) × (output.out ≡ (edit_line number ++ state_text plan U) ++ ((undo_line (number + 1) ++ state_text plan T) ++ more))
    by (inl first) =
        then-by first (one T first.made U command first.makes makes)
        (undo-first (by_plan plan) (suc undos) first.made (earlier_of T command) (take undos backs) (number + 1) (then_shown seen ((by_plan plan).shows first.made)) rest first.later first.follows)
    by (inr first) = absurd (refused-or-none first.refused free)

-- A run

goes-same : {A : Type 0} (a b : A) → goes a ≡ goes b → a ≡ b
goes-same a b h = cc

-- no halt goes on
no-halt : {A : Type 0} (value : A) (output : Output) → goes value ≡ halts output → ⊥
no-halt value output h = cc

-- the tree of a document
abbrev IsTree : Table → Type 0
IsTree T = WellFormed T × (is_document T ≡ true)

parsed-tree : (bytes : List ℕ) (T : Table) (r : Result Table DocFault) → IsParsed bytes r → goes T ≡ parsed r → IsTree T
parsed-tree bytes T (Ok U) is came = let same : U ≡ T = sym (goes-same T U came) in subst IsTree same (is.scoped.well_formed, is.scoped.document)
parsed-tree bytes T (Err fault) is came = absurd (no-halt T _ came)

loaded-tree : (found : Option (List ℕ)) (opened : List (List ℕ)) (T : Table) → Parsing found opened (goes T) → IsTree T
loaded-tree None opened T stage = absurd (no-halt T _ stage.1)
loaded-tree (Some bytes) opened T stage = parsed-tree bytes T stage.1 stage.2 stage.3

module _ (files : Files) where
  -- a document that is made ready has a tree
  under-plan : (few : Bool) (plan : Plan) (T : Table) (treed : Treed) → goes treed ≡ halt_if few too_many_pairs (tree_under plan T) → treed ≡ tree_under plan T
  under-plan true plan T treed came = absurd (no-halt treed too_many_pairs came)
  under-plan false plan T treed came = goes-same treed (tree_under plan T) came

  ready-tree : (phase schema document : List ℕ) (opened : List (List ℕ)) (treed : Treed) → Opening files phase schema document opened (goes treed) → IsTree treed.tree
  ready-tree phase schema document opened treed stages =
      let planned = through (Planning files phase schema) (λ plan. Treeing files plan document) opened treed stages in
      let loaded = through (Loading files document) (λ T. Is (halt_if (has_too_many_pairs planned.value T) too_many_pairs (tree_under planned.value T))) planned.after treed planned.goes_on in
      let fetched = through (Fetching files document MAX_FILE_BYTES) Parsing loaded.before loaded.value loaded.begins in
      let is : treed ≡ tree_under planned.value loaded.value = under-plan (has_too_many_pairs planned.value loaded.value) planned.value loaded.value treed loaded.goes_on.1 in
      subst (λ (at : Treed). IsTree at.tree) (sym is) (loaded-tree fetched.value fetched.after loaded.value fetched.goes_on)

  -- the bytes of a script are those of its file
  held-bytes : (bytes found : List ℕ) (long : Bool) (read : Option (List ℕ)) → goes read ≡ goes (if long then None else Some bytes) → goes found ≡ as_script read → found ≡ bytes
  held-bytes bytes found long None held came = absurd (no-halt found _ came)
  held-bytes bytes found true (Some other) held came = absurd (let clash : Some other ≡ None = goes-same (Some other) None held in cc)
  held-bytes bytes found false (Some other) held came =
      let first : found ≡ other = goes-same found other came in
      let second : Some other ≡ Some bytes = goes-same (Some other) (Some bytes) held in
      cc

  script-bytes : (name bytes : List ℕ) → get files name ≡ Some bytes → (opened : List (List ℕ)) (found : List ℕ) → Scripting files name opened (goes found) → found ≡ bytes
  script-bytes name bytes held opened found stages =
      let fetched = through (Fetching files name MAX_SCRIPT_BYTES) (λ read. Is (as_script read)) opened found stages in
      by fetched.value fetched.begins.1 fetched.goes_on.1
    where
      by : (read : Option (List ℕ)) → (goes read ≡ unread name) ⊎ (goes read ≡ held_under name MAX_SCRIPT_BYTES (get files name)) → goes found ≡ as_script read → found ≡ bytes
      by read (inl failed) came = absurd (cc)
      by read (inr had) came =
          held-bytes bytes found (nat_lt MAX_SCRIPT_BYTES (length bytes)) read (had ∙ ap (held_under name MAX_SCRIPT_BYTES) held) came

-- what is written behind the first state
module _ (keeps : EditsKeepTrees) (same : SameTreesShowTheSame) (plan : Plan) (T : Table) (form : WellFormed T) (document : is_document T ≡ true) where
  writes-undone : (undos : ℕ) (seen : Shown) (command : Command) (rest : item.Items) (output : Output) →
      Follows (by_plan plan) (suc undos) T [] 1 seen (item.edits command (item.undoes rest)) output → WritesUndone (state_text plan T) output.out
  writes-undone undos seen command rest output follows =
      by (edit-first (by_plan plan) (suc undos) T [] 1 seen command (item.undoes rest) output follows)
    where
      then-by : (first : EditedFirst (by_plan plan) (suc undos) T [] 1 seen command (item.undoes rest) output) →
          UndoneFirst (by_plan plan) (suc undos) first.made (earlier_of T command) 2 first.later ⊎ LackingFirst (by_plan plan) (suc undos) first.made (earlier_of T command) 2 first.later →
          WritesUndone (state_text plan T) output.out
      then-by first (inl second) =
          inl (
            state_text plan first.made,
            second.later.out,
            ap (λ (o : Output). o.out) first.is
                ∙ ap (λ (text : List ℕ). (edit_line 1 ++ state_text plan first.made) ++ text)
                (before-again keeps same plan T form document first.made command 2 first.later first.free first.makes (suc undos) second),
          )
      then-by first (inr second) =
          inr (inl (
            state_text plan first.made,
            second.later.out,
            ap (λ (o : Output). o.out) first.is
                ∙ ap (λ (text : List ℕ). (edit_line 1 ++ state_text plan first.made) ++ text) (ap (λ (o : Output). o.out) second.is),
          ))

      by : EditedFirst (by_plan plan) (suc undos) T [] 1 seen command (item.undoes rest) output ⊎ RefusedFirst (by_plan plan) (suc undos) T 1 command output →
          WritesUndone (state_text plan T) output.out
      by (inl first) =
          then-by first (undo-first (by_plan plan) (suc undos) first.made (earlier_of T command) (take undos []) 2 (then_shown seen ((by_plan plan).shows first.made)) rest first.later first.follows)
      by (inr first) = inr (inr (first.reason, first.later.out, ap (λ (o : Output). o.out) first.is))

-- a validation that comes to its end, and the document that it made ready
record Validated (files : Files) (phase schema document : List ℕ) (output : Output) : Type 0 where
  opened : List (List ℕ)
  at : Treed
  opens : Opening files phase schema document opened (goes at)
  is : output ≡ state at.plan at.tree

was-validated : (files : Files) (phase schema document : List ℕ) (output : Output) → IsWhole (validate phase schema document) files output → Validated files phase schema document output
was-validated files phase schema document output whole =
    let found = through (Opening files phase schema document) (λ at. Any (λ (o : Output). o ≡ state at.plan at.tree)) whole.0 output whole.1 in
    record { opened = found.before; at = found.value; opens = found.begins; is = goes-same output found.goes_on.1 found.goes_on.3 ∙ found.goes_on.2 }

-- and a script that was followed to its end
record Followed (files : Files) (undos : ℕ) (phase schema document script : List ℕ) (output : Output) : Type 0 where
  opened : List (List ℕ)
  at : Treed
  opens : Opening files phase schema document opened (goes at)
  read : List (List ℕ)
  bytes : List ℕ
  reads : Scripting files script read (goes bytes)
  states : States (by_plan at.plan) undos at.tree bytes output

abbrev scripted : Treed → List ℕ → Scripted
scripted treed bytes = record { treed = treed; script = bytes }

abbrev StatesOf : ℕ → Output → Scripted → Type 0
StatesOf undos output at = States (by_plan at.treed.plan) undos at.treed.tree at.script output

was-followed : (files : Files) (undos : ℕ) (phase schema document script : List ℕ) (output : Output) → IsWhole (follow undos phase schema document script) files output →
    Followed files undos phase schema document script output
was-followed files undos phase schema document script output whole =
    let all = through (OpeningAll files phase schema document script) (λ at. Any (λ (o : Output). StatesOf undos o at)) whole.0 output whole.1 in
    let treed = through (Opening files phase schema document) (λ at. Then (Scripting files script) (λ bytes. Is (goes (scripted at bytes)))) all.before all.value all.begins in
    let read = through (Scripting files script) (λ bytes. Is (goes (scripted treed.value bytes))) treed.after all.value treed.goes_on in
    let there : StatesOf undos output all.value = subst (λ (o : Output). StatesOf undos o all.value) (sym (goes-same output all.goes_on.1 all.goes_on.3)) all.goes_on.2 in
    record {
      opened = treed.before;
      at = treed.value;
      opens = treed.begins;
      read = read.before;
      bytes = read.value;
      reads = read.begins;
      states = subst (StatesOf undos output) (goes-same all.value (scripted treed.value read.value) read.goes_on.1) there;
    }

-- behind the first state of a document
states-undone : EditsKeepTrees → SameTreesShowTheSame → (at : Treed) → IsTree at.tree → (undos : ℕ) (bytes : List ℕ) (command : Command) (rest : item.Items) (output : Output) →
    items_of (suc undos) bytes ≡ item.edits command (item.undoes rest) → StatesOf (suc undos) output (scripted at bytes) →
    (behind : List ℕ) × WritesUndone (state_text at.plan at.tree) behind × (output.out ≡ state_text at.plan at.tree ++ behind)
states-undone keeps same at tree undos bytes command rest output items states =
    let follows : Follows (by_plan at.plan) (suc undos) at.tree [] 1 ((by_plan at.plan).shows at.tree) (item.edits command (item.undoes rest)) states.0 =
    subst (λ (its : item.Items). Follows (by_plan at.plan) (suc undos) at.tree [] 1 ((by_plan at.plan).shows at.tree) its states.0) items states.1 in (
      states.0.out,
      writes-undone keeps same at.plan at.tree tree.0 tree.1 undos ((by_plan at.plan).shows at.tree) command rest states.0 follows,
      ap (λ (o : Output). o.out) states.2,
    )

pub runs-undone : OneTree → OneInclusion → OnePlan → OneEdit → EditsKeepTrees → SameTreesShowTheSame → RunsUndone
runs-undone one_tree one_inclusion one_plan one_edit keeps same files undos phase schema document script bytes command rest validated followed held items first second =
    let once : Validated files phase schema document validated = was-validated files phase schema document validated first in
    let then_on : Followed files (suc undos) phase schema document script followed = was-followed files (suc undos) phase schema document script followed second in
    let same_tree : then_on.at ≡ once.at =
    goes-same then_on.at once.at
    (one-opening one_tree one_inclusion one_plan one_edit files phase schema document then_on.opened once.opened (goes then_on.at) (goes once.at) then_on.opens once.opens tt tt).1 in
    let same_bytes : then_on.bytes ≡ bytes = script-bytes files script bytes held then_on.read then_on.bytes then_on.reads in
    let states : StatesOf (suc undos) followed (scripted once.at bytes) = subst₂ (λ (at : Treed) (read : List ℕ). StatesOf (suc undos) followed (scripted at read)) same_tree same_bytes then_on.states in
    let tree : IsTree once.at.tree = ready-tree files phase schema document once.opened once.at once.opens in
    let text : state_text once.at.plan once.at.tree ≡ validated.out = ap (λ (o : Output). o.out) (sym once.is) in
    subst (λ (t : List ℕ). (behind : List ℕ) × WritesUndone t behind × (followed.out ≡ t ++ behind)) text (states-undone keeps same once.at tree undos bytes command rest followed items states)

-- A saved document

pub saved-alike : DocumentsHaveTrees → TextComesBack → SavedDocumentsShowTheSame → SavedDocumentsValidateAlike
saved-alike trees back saved files phase schema name opened plan T form scoped document planning held short few =
    let comes = back T form scoped document in
    let U = trees (tree_text T) comes.good short in
    let alike = saved T U.0 form scoped document U.1 in
    let fits : nat_lt MAX_FILE_BYTES (length (tree_text T)) ≡ false = le-ltb MAX_FILE_BYTES (length (tree_text T)) short in
    let fetching : Fetching files name MAX_FILE_BYTES (name ∷ []) (goes (Some (tree_text T))) =
    (refl, inr (sym (ap (held_under name MAX_FILE_BYTES) held ∙ ap (λ (long : Bool). goes (if long then None else Some (tree_text T))) fits))) in
    let loading : Loading files name (name ∷ []) (goes U.0) =
    goes-first (Fetching files name MAX_FILE_BYTES) Parsing (name ∷ []) [] (Some (tree_text T)) (goes U.0) fetching (refl, Ok U.0, record { sound = comes.good; scoped = U.1 }, refl) in
    let pairs : has_too_many_pairs plan U.0 ≡ false = ap (λ (count : ℕ). nat_lt MAX_PAIRS (length plan.patterns * count)) alike.0 ∙ few in
    let treeing : Treeing files plan name (name ∷ []) (goes (tree_under plan U.0)) =
    goes-first (Loading files name) (λ X. Is (halt_if (has_too_many_pairs plan X) too_many_pairs (tree_under plan X))) (name ∷ []) [] U.0 (goes (tree_under plan U.0)) loading
    (refl, sym (ap (λ (many : Bool). halt_if many too_many_pairs (tree_under plan U.0)) pairs)) in
    let opening : Opening files phase schema name (opened ++ name ∷ []) (goes (tree_under plan U.0)) =
    goes-first (Planning files phase schema) (λ p. Treeing files p name) opened (name ∷ []) plan (goes (tree_under plan U.0)) planning treeing in
    let shows : ShowTheSame plan T U.0 = alike.1 plan in
    let is : state plan T ≡ state plan U.0 = ap₂ ended shows.text shows.shown in (
      (opened ++ name ∷ []) ++ [],
      goes-first (Opening files phase schema name) (λ at. Any (λ (o : Output). o ≡ state at.plan at.tree)) (opened ++ name ∷ []) [] (tree_under plan U.0) (goes (state plan T)) opening
          (refl, state plan T, is, refl),
    )
