use Rattle.std.proofs.Common.{◌≡◌, sym, ap, length, ◌∙◌, arith, drop}
use Rattle.std.proofs.lemmas.Bool.{eqb-false}
use Rattle.sch_expansion.proofs.FillLemmas.{split-front, kept-whole}
use Rattle.sch_expansion.proofs.filling.Filling.next_piece.Goals as goal

pub returns-in-Some-2 : goal.returns-in-Some-2
returns-in-Some-2 c =
    let cases = c.in-Some.ensures.cases in
    let some : length c.in-Some.front.now ≡ 0 → ⊥ = eqb-false (length c.in-Some.front.now) 0 (sym c.is_empty.ensures ∙ c.if-is_empty.false) in
    record {
      filled = split-front c.args.self.now c.args.text.now c.in-Some.front.now c.range_from.result.now cases.0 cases.1 c.utf8.text cases.2 cases.3
          (omega (arith, cases.5, cases.7, cases.2.1.ends))
          (c.range_from.ensures.value ∙ ap (λ n. drop n c.args.text.now) cases.6);
      placed = tt;
      shorter = omega (arith, some, c.range_from.ensures.len);
    }

pub returns-in-None-2 : goal.returns-in-None-2
returns-in-None-2 c =
    let some : length c.args.text.now ≡ 0 → ⊥ = eqb-false (length c.args.text.now) 0 (sym c.if-is_empty-2.ensures) in
    record {
      filled = kept-whole c.args.self.now c.args.text.now c.utf8.text c.in-None.ensures.cases;
      placed = tt;
      shorter = omega (arith, some);
    }
