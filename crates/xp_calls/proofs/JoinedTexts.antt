-- Texts joined one after another, within the limit or past it.
use Rattle.std.proofs.Common.{◌≡◌, ℕ, ◌+◌, ◌<◌, ◌≤◌, Bool, true, false, cond, List, ◌++◌, length, drop, get_or, flat_map, refl, sym, ◌∙◌, ap, append_assoc, append-nil, length-append, Ok, Err, nat_le, arith}
use Rattle.std.proofs.lemmas.Bool.{leb-true, le-leb}
use Rattle.sch_base.specs.declared.limits.TheConstants.{MAX_TEXT_BYTES}
use Rattle.xp_outcome.proofs.Runs.{next_item, no_item}
use Rattle.xp_values.specs.declared.values.Value.{Value}
use Rattle.xp_values.specs.declared.values.EvalFault.TheVariants.{TextLimit}
use Rattle.xp_values.specs.Texts.{limited}
use Rattle.xp_meaning.specs.Functions.{text_of}

module _ (vs : List Value) (had : List ℕ) (i : ℕ) (v : Value) (below : i < length vs) (is : v ≡ get_or vs i v)
    (rest : flat_map text_of vs ≡ had ++ flat_map text_of (drop i vs)) where
  -- one text more
  pub joined_more : flat_map text_of vs ≡ (had ++ text_of v) ++ flat_map text_of (drop (i + 1) vs)
  joined_more =
      rest ∙ ap (λ ws. had ++ flat_map text_of ws) (next_item vs i v below is)
      ∙ sym (append_assoc had (text_of v) (flat_map text_of (drop (i + 1) vs)))

  too_long : MAX_TEXT_BYTES < length had + length (text_of v) → MAX_TEXT_BYTES < length (flat_map text_of vs)
  too_long past =
      let all : length (flat_map text_of vs) ≡ length ((had ++ text_of v) ++ flat_map text_of (drop (i + 1) vs)) = ap length joined_more in
      let behind : length ((had ++ text_of v) ++ flat_map text_of (drop (i + 1) vs)) ≡ length (had ++ text_of v) + length (flat_map text_of (drop (i + 1) vs)) =
      length-append (had ++ text_of v) (flat_map text_of (drop (i + 1) vs)) in
      let front : length (had ++ text_of v) ≡ length had + length (text_of v) = length-append had (text_of v) in
      omega (arith, all, behind, front, past)

  -- past the limit
  pub joined_past : MAX_TEXT_BYTES < length had + length (text_of v) → limited (flat_map text_of vs) ≡ Err TextLimit
  joined_past past = by (nat_le (length (flat_map text_of vs)) MAX_TEXT_BYTES) refl
    where
      by : (b : Bool) → nat_le (length (flat_map text_of vs)) MAX_TEXT_BYTES ≡ b → cond b (Ok (flat_map text_of vs)) (Err TextLimit) ≡ Err TextLimit
      by true e = absurd (omega (arith, too_long past, leb-true _ _ e))
      by false e = refl

-- the end
pub joined_end : (vs : List Value) (had : List ℕ) (i : ℕ) → flat_map text_of vs ≡ had ++ flat_map text_of (drop i vs) → length vs ≤ i → length had ≤ MAX_TEXT_BYTES →
    limited (flat_map text_of vs) ≡ Ok had
joined_end vs had i rest past small =
    let is : flat_map text_of vs ≡ had = rest ∙ ap (λ ws. had ++ flat_map text_of ws) (no_item vs i past) ∙ append-nil had in
    ap limited is ∙ ap (λ b. cond b (Ok had) (Err TextLimit)) (le-leb _ _ small)
