-- The answers of evaluations that follow one another.
use Rattle.std.proofs.Common.{◌≡◌, Ok, refl, ap}
use Rattle.xp_outcome.specs.Evaluation.{Evaluation, behind, follow, bind, visit}

-- after an answer the answer is the next one's
pub answer_then : {F A B : Type 0} (m : Evaluation F A) (next : A → Evaluation F B) (v : A) → m.answer ≡ Ok v → (bind m next).answer ≡ (next v).answer
unfolding bind behind
answer_then m next v is = ap (λ a. (follow a next).answer) is

pub answer_visit : {F A : Type 0} (m : Evaluation F A) → (visit m).answer ≡ m.answer
unfolding visit behind
answer_visit m = refl
