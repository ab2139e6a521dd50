use Rattle.std.proofs.Common.{◌≡◌, ◌++◌, sym, ap, length, ◌∙◌, arith, length-append}
use Rattle.std.specs.Prelude.{chars, encode_utf8_all}
use Rattle.std.proofs.lemmas.List.{append_cancel_right}
use Rattle.sch_expansion.specs.Filled.{filled}
use Rattle.sch_texts.specs.Names.{longest_name}
use Rattle.sch_expansion.specs.Pieces.{value_at}
use Rattle.sch_expansion.proofs.FillLemmas.{dollar-goes, dollar-stays}
use Rattle.sch_expansion.proofs.PlaceLemmas.{param-none, param-some}
use Rattle.sch_expansion.proofs.filling.Filling.dollar_piece.Goals as goal

pub returns-in-Some : goal.returns-in-Some
returns-in-Some c =
    let has = param-some c.args.self.now 0 c.in-Some.place c.before-2.result.now (sym c.place.ensures ∙ c.in-Some.is) in
    let name : encode_utf8_all (longest_name (chars c.args.behind.now)) ≡ c.before-2.result.now =
    append_cancel_right _ _ c.after_name-rest.result.now (sym c.after_name-rest.ensures.bytes ∙ c.before-2.ensures) in
    let place : c.in-Some.place ≡ has.behind = omega (arith, has.is) in
    record {
      filled = dollar-goes c.args.self.now c.args.behind.now c.after_name-rest.result.now c.before-2.result.now (value_at c.args.self.now has.behind)
          c.after_name-rest.ensures name has.value
          ∙ ap (λ n. value_at c.args.self.now n ++ filled c.args.self.now c.after_name-rest.result.now) (sym place);
      placed = omega (arith, has.within, place);
      shorter = omega (arith, ap length c.before-2.ensures, length-append c.before-2.result.now c.after_name-rest.result.now);
    }

pub returns-in-None : goal.returns-in-None
returns-in-None c =
    let name : encode_utf8_all (longest_name (chars c.args.behind.now)) ≡ c.before-2.result.now =
    append_cancel_right _ _ c.after_name-rest.result.now (sym c.after_name-rest.ensures.bytes ∙ c.before-2.ensures) in
    record {
      filled = dollar-stays c.args.self.now c.args.behind.now c.before-2.result.now name
          (param-none c.args.self.now 0 c.before-2.result.now (sym c.place.ensures ∙ c.in-None.is));
      placed = tt;
      shorter = omega arith;
    }
