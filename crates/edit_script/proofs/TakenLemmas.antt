-- What was taken of a script gives the command that was read.
use Rattle.std.proofs.Common.{◌≡◌, ℕ, suc, ◌+◌, Bool, true, false, List, [], ◌∷◌, ◌++◌, length, None, Some, Ok, Err, arith, refl, sym, ◌∙◌, ap, append-nil, append_assoc, length-append}
use Rattle.sch_base.specs.Lists.{is_nil}
use Rattle.edit_script.specs.CommandLine.{command_line}
use Rattle.edit_script.specs.declared.command.Command.TheVariants.{Insert}
use Rattle.edit_script.specs.declared.command.PathStep.{PathStep}
use Rattle.edit_script.specs.declared.command.Said.TheVariants.{Whole, Opening}
use Rattle.edit_script.specs.declared.fault.ScriptFault.{ScriptFault}
use Rattle.edit_script.specs.declared.fault.ScriptKind.{ScriptKind}
use Rattle.edit_script.specs.declared.payload.Insertion.{Insertion}
use Rattle.edit_script.specs.declared.reader.Taken.{Taken}
use Rattle.edit_script.specs.Script.{Takes, fault_at, is_piece, joined, left_from, lines_of, onto, opened_in, piece_of, script_at, script_left, stops}
use Rattle.edit_script.specs.WellFormed.{IsPiece}
use Rattle.edit_script.specs.inner.Lines.{Reaches}
use Rattle.edit_script.specs.inner.Payload.{Inserted, IsPayload, Refuses, Stops}
use Rattle.edit_script.specs.inner.Reader.{Breaks, IsTaken}

-- Inserts

-- a piece that was read of the fragment
pub inserted : (number : ℕ) (bytes text : List ℕ) (count : ℕ) (done : Insertion) → IsPayload bytes text count done.rest.now → is_piece text ≡ true → done.piece ≡ piece_of text → IsPiece done.piece →
    done.number ≡ number + count + 2 → Inserted number bytes done
inserted number bytes text count done found good piece formed next = record {
  taken = found.taken;
  front = found.front;
  number_is = omega (arith, found.more_is, next);
  script = λ path at more.
      let is : is_piece (joined found.lines) ≡ true = ap is_piece (sym found.text_is) ∙ good in
      let made : piece_of (joined found.lines) ≡ done.piece = ap piece_of (sym found.text_is) ∙ sym piece in
      let behind : suc number + suc count ≡ done.number = omega (arith, next) in
      found.script (opened_in number path at) (suc number) more
      ∙ rw is
      (ap (λ events. onto (Insert path at events) (script_at None (suc number + suc count) more)) made
      ∙ ap (λ n. onto (Insert path at done.piece) (script_at None n more)) behind);
  formed = formed;
  few = omega (arith, found.few, next);
}

-- a fragment that isn't one
pub insert_stops : (number : ℕ) (bytes text : List ℕ) (count : ℕ) (rest : List ℕ) (fault : ScriptFault) → IsPayload bytes text count rest → Refuses number text count fault → Stops number bytes fault
insert_stops number bytes text count rest fault found refused = λ path at.
    let is : is_piece (joined found.lines) ≡ false = ap is_piece (sym found.text_is) ∙ refused.broken in
    ap (script_at (Some (opened_in number path at)) (suc number)) found.front
    ∙ found.script (opened_in number path at) (suc number) (lines_of rest)
    ∙ rw (is, sym found.text_is, sym found.count_is) (ap stops (sym refused.fault))

-- Commands

module _ (number : ℕ) (line rest : List ℕ) (some : is_nil line ≡ false) where
  -- a line that is a command
  pub whole_taken : (done : Taken) → command_line line ≡ Ok (Whole done.command) → done.number ≡ number + 1 → done.rest.now ≡ rest → IsTaken number line rest done
  whole_taken done says next left = record {
    taken = [];
    front = ap lines_of (sym left);
    number_is = omega (arith, next);
    script = λ more.
        let is : suc number ≡ done.number = omega (arith, next) in
        rw (some, says) (ap (λ n. onto done.command (script_at None n more)) is);
    few = omega (arith, next, ap length left);
  }

  -- a line that opens an insert
  pub insert_taken : (path : List PathStep) (at : ℕ) (read : Insertion) (done : Taken) → command_line line ≡ Ok (Opening path at) → Inserted number rest read → done.command ≡ Insert path at read.piece →
      done.number ≡ read.number → done.rest.now ≡ read.rest.now → IsTaken number line rest done
  insert_taken path at read done says inserted command next left = record {
    taken = inserted.taken;
    front = inserted.front ∙ ap (λ bytes. inserted.taken ++ lines_of bytes) (sym left);
    number_is = next ∙ inserted.number_is;
    script = λ more.
        rw (some, says)
        (inserted.script path at more
        ∙ ap (λ c. onto c (script_at None read.number more)) (sym command)
        ∙ ap (λ n. onto done.command (script_at None n more)) (sym next));
    few = omega (arith, inserted.few, next, ap length left);
  }

  pub insert_breaks : (path : List PathStep) (at : ℕ) (found : ScriptFault) → command_line line ≡ Ok (Opening path at) → Stops number rest found → Breaks number line rest found
  insert_breaks path at found says stop = rw (some, says) (stop path at)

  -- a line that is none
  pub line_breaks : (kind : ScriptKind) (found : ScriptFault) → command_line line ≡ Err kind → found ≡ fault_at number kind → Breaks number line rest found
  line_breaks kind found says is = rw (some, says) (ap stops (sym is))

-- The script

module _ (from : ℕ) (bytes : List ℕ) (number : ℕ) (line rest : List ℕ) (reached : Reaches from bytes number line rest) where
  pub next_taken : (done : Taken) (faulted : Bool) → IsTaken number line rest done →
      Takes done.command (left_from from bytes faulted) (left_from done.number done.rest.now faulted)
  next_taken done faulted took = record {
    taken = reached.empty ++ line ∷ took.taken;
    front = reached.lines ∙ ap (λ l. reached.empty ++ line ∷ l) took.front ∙ sym (append_assoc reached.empty (line ∷ took.taken) (lines_of done.rest.now));
    number = omega (arith, took.number_is, reached.number_is, length-append reached.empty (line ∷ took.taken));
    alone = reached.script (line ∷ took.taken) ∙ ap (λ l. script_at None number (line ∷ l)) (sym (append-nil took.taken)) ∙ took.script [];
    faulted = refl;
  }

  pub next_command : (done : Taken) (faulted : Bool) → IsTaken number line rest done →
      script_left (left_from from bytes faulted) ≡ onto done.command (script_left (left_from done.number done.rest.now faulted))
  next_command done faulted took =
      ap (script_at None from) reached.lines
      ∙ reached.script (line ∷ lines_of rest)
      ∙ ap (λ l. script_at None number (line ∷ l)) took.front
      ∙ took.script (lines_of done.rest.now)

  pub next_stops : (found : ScriptFault) (faulted : Bool) → Breaks number line rest found → script_left (left_from from bytes faulted) ≡ stops found
  next_stops found faulted breaks = ap (script_at None from) reached.lines ∙ reached.script (line ∷ lines_of rest) ∙ breaks
