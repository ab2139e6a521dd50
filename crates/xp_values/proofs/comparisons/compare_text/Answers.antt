-- What is compared by numbers.
use Rattle.std.proofs.Common.{◌≡◌, true, sym, subst}
use Rattle.xp_values.specs.Comparisons.{is_order}
use Rattle.xp_values.specs.Outcomes.{Gives}
use Rattle.xp_values.proofs.TextCompareLemmas.{truth_by_number, text_by_number, lone_by_number}
use Rattle.xp_values.proofs.comparisons.compare_text.Goals as goal
use Rattle.xp_values.proofs.comparisons.compare_text.Goals.{in_default-via-in-Truth+else-not-is_order, in_default-via-in-Chars+else-not-is_order-2, in_default-via-in_default}

pub returns-in_default : goal.returns-in_default
returns-in_default c = elim c.in_default.branch [
  | in_default-via-in-Truth+else-not-is_order w ↦
      let ordered : is_order c.args.op ≡ true = (cc) in
      subst (λ m. Gives c.number_compared.result m) (sym (truth_by_number c.args.tree.now.nodes c.args.op c.args.a.now _ c.args.text.now ordered w.in-Truth.is)) c.number_compared.ensures
  | in_default-via-in-Chars+else-not-is_order-2 w ↦
      let ordered : is_order c.args.op ≡ true = (cc) in
      subst (λ m. Gives c.number_compared.result m) (sym (text_by_number c.args.tree.now.nodes c.args.op c.args.a.now _ c.args.text.now ordered w.in-Chars.is)) c.number_compared.ensures
  | in_default-via-in_default w ↦
      subst (λ m. Gives c.number_compared.result m) (sym (lone_by_number c.args.tree.now.nodes c.args.op c.args.a.now _ c.args.text.now w.in_default.is)) c.number_compared.ensures
]
