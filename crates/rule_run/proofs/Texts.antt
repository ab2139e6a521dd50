-- Texts of values, and texts that are joined.
use Rattle.std.proofs.Common.{◌≡◌, ℕ, List, Option, Result, Ok, Err, ◌+◌, sym, ◌∙◌, ap, subst, drop, length, get_or, ◌<◌, ◌≤◌}
use Rattle.std.specs.Result.{IsErrAnd}
use Rattle.xp_outcome.specs.Evaluation.{Evaluation, done, given, all_reading, bind}
use Rattle.xp_outcome.specs.Recorded.{Recorded}
use Rattle.xp_outcome.specs.Running.{Ran}
use Rattle.xp_outcome.proofs.Outcomes.{bind_assoc, bind_alike, bind-all_reading, bind-done, bind-right}
use Rattle.xp_outcome.proofs.Runs.{next_item, no_item}
use Rattle.doc_tree.specs.QNames.{written_in}
use Rattle.doc_tree.specs.Table.{Table}
use Rattle.xp_values.specs.declared.values.Value.{Value}
use Rattle.xp_values.specs.declared.values.Value.TheVariants.{Chars}
use Rattle.xp_values.specs.declared.values.EvalError.{EvalError}
use Rattle.xp_values.specs.declared.values.EvalFault.{EvalFault}
use Rattle.xp_values.specs.Texts.{concat}
use Rattle.xp_meaning.specs.Conversions.{as_wanted, text_in}
use Rattle.xp_meaning.specs.declared.want.Want.TheVariants.{AsText}
use Rattle.xp_meaning.specs.Evaluation.{Lets}
use Rattle.xp_meaning.specs.Functions.{text_of}
use Rattle.xp_meaning.specs.Names.{name_at, of_name}
use Rattle.xp_meaning.specs.Reads.{name_read}
use Rattle.xp_meaning.specs.Results.{shown, stop_of}
use Rattle.sch_compiled.specs.declared.parts.PlanPart.{PlanPart}
use Rattle.sch_units.specs.Messages.{joined, part_text, written_name}
use Rattle.rule_run.specs.inner.Joining.{with_text}

-- the text that a value was converted to
pub text_taken : (T : Table) (v : Value) → text_in T v ≡ bind (as_wanted T AsText v) (λ w. done (text_of w))
text_taken T v =
    sym (bind_assoc (text_in T v) (λ s. done (Chars s)) (λ w. done (text_of w))
    ∙ bind_alike (text_in T v) _ _ (λ s. bind-done {F = EvalFault} (Chars s) (λ w. done (text_of w)))
    ∙ bind-right (text_in T v))

-- the text of a value that is a name as it is written
pub name_taken : (T : Table) (n : Option ℕ) → written_name T n ≡ bind (of_name T n (λ name. Chars (written_in name))) (λ w. done (text_of w))
name_taken T n =
    sym (bind-all_reading (name_read T n) (done (Chars (written_in (name_at T n)))) (λ w. done (text_of w))
    ∙ ap (λ m. all_reading (name_read T n) m) (bind-done {F = EvalFault} (Chars (written_in (name_at T n))) (λ w. done (text_of w))))

-- a loop that joins parts: the next part, and the end
module _ (T : Table) (L : Lets) (n : ℕ) (parts : List PlanPart) (i : ℕ) (text : List ℕ) where
  joined-next : (part : PlanPart) → i < length parts → part ≡ get_or parts i part →
      joined T L n text (drop i parts)
      ≡ bind (part_text T L n part) (λ s. bind (given (concat text s)) (λ more. joined T L n more (drop (i + 1) parts)))
  joined-next part below is = ap (joined T L n text) (next_item parts i part below is)

  pub joined-part : (part : PlanPart) → i < length parts → part ≡ get_or parts i part →
      joined T L n text (drop i parts)
      ≡ bind (bind (part_text T L n part) (λ s. given (concat text s))) (λ more. joined T L n more (drop (i + 1) parts))
  joined-part part below is =
      joined-next part below is ∙ sym (bind_assoc (part_text T L n part) (λ s. given (concat text s)) (λ more. joined T L n more (drop (i + 1) parts)))

  pub joined-end : length parts ≤ i → joined T L n text (drop i parts) ≡ done text
  joined-end past = ap (joined T L n text) (no_item parts i past)

-- `?` hands on an error of evaluation, whatever text the call left
pub exit_text : {m : Evaluation EvalFault (List ℕ)} {held now : Recorded} {before after : ℕ} (text : List ℕ) (r : Result (Unit {0}) EvalError) (e : EvalError) →
    IsErrAnd r (λ d. d ≡ e) → Ran m (Err (stop_of e)) held now before after → Ran m (shown (with_text r text)) held now before after
exit_text text (Ok v) e h ran = absurd h
exit_text {m} {held} {now} {before} {after} text (Err d) e h ran = subst (λ x. Ran m (Err (stop_of x)) held now before after) (sym h) ran
