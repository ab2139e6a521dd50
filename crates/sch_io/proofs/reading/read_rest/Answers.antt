-- Each read adds to the bytes; the end, the limit and the failures are told as they come.
use Rattle.std.proofs.Common.{◌≡◌, ℕ, ◌+◌, ◌∙◌, List, length, take, refl, ap, ap₂, arith, length-append}
use Rattle.std.proofs.lemmas.List.{length-take-le}
use Rattle.std.proofs.lemmas.Result.{err_from_is_err_and}
use Rattle.std.proofs.KnownBytes.{Consumes-trans}
use Rattle.sch_io.specs.Counts.{one_more}
use Rattle.sch_io.specs.Ends.{told_end}
use Rattle.sch_io.proofs.EndLemmas.{unended}
use Rattle.sch_io.proofs.Rest.{told_failed, told_memory, told_whole, told_large}
use Rattle.sch_io.proofs.reading.read_rest.Goals as goal

pub returns-in_err-n : goal.returns-in_err-n
returns-in_err-n g c =
    let p = err_from_is_err_and c.from_residual.result c.from_residual.ensures.1 in
    rw (p.1, p.2) (record {
      told = told_failed _;
      counted = tt;
      at_end = tt;
      ends = c.in_err-n.ensures.ends ∙ c.reading.invariant.ends;
      too_large = ((λ is. absurd (cc)), (λ more. absurd (omega (arith, c.in_err-n.ensures.counted))));
      held = c.in_err-n.ensures.held ∙ c.reading.invariant.held;
      noted = c.in_err-n.ensures.noted ∙ c.reading.invariant.noted;
      present = λ is. absurd (cc);
      faults = c.in_err-n.ensures.faults ∙ ap one_more c.reading.invariant.faults;
      misses = c.in_err-n.ensures.misses ∙ c.reading.invariant.misses;
    })

pub returns-then-n-eq0 : goal.returns-then-n-eq0
returns-then-n-eq0 g c =
    let ends = c.in_ok-n.ensures.bytes.1 c.if-n-eq0.true (omega arith) in
    record {
      told = rw c.of.ensures
          (told_whole _ _ _ _ _ _ c.if-n-eq0.true c.reading.invariant.given c.in_ok-n.ensures.bytes.0 ends c.reading.invariant.within);
      counted = omega (arith, c.in_ok-n.ensures.counted, ap length c.of.ensures);
      at_end = ends;
      ends = (rw c.if-n-eq0.true at c.in_ok-n.ensures.ends) ∙ ap₂ (λ (o e : List (List ℕ)). told_end o e) c.reading.invariant.noted c.reading.invariant.ends;
      too_large = ((λ is. absurd (cc)), (λ more. absurd (omega (arith, c.in_ok-n.ensures.counted))));
      held = c.in_ok-n.ensures.held ∙ c.reading.invariant.held;
      noted = c.in_ok-n.ensures.noted ∙ c.reading.invariant.noted;
      present = λ is. absurd (cc);
      faults = c.in_ok-n.ensures.faults ∙ c.reading.invariant.faults;
      misses = c.in_ok-n.ensures.misses ∙ c.reading.invariant.misses;
    }

pub returns-then-n-len : goal.returns-then-n-len
returns-then-n-len g c =
    let taken = length-take-le c.in_ok-n.n c.read.new.buf c.in_ok-n.ensures.bound.0 in
    record {
      told = told_large _ _ _ _ _ c.reading.invariant.given c.in_ok-n.ensures.bytes.0
          (omega (arith, taken, c.reading.bytes.ok.0));
      counted = tt;
      at_end = tt;
      ends = c.in_ok-n.ensures.ends ∙ unended c.in_ok-n.n (g.S.Shelf.state c.reading.shelf).opened (g.S.Shelf.state c.reading.shelf).ends (omega arith) ∙ c.reading.invariant.ends;
      too_large = ((λ is. omega (arith, c.in_ok-n.ensures.counted, c.reading.bytes.ok.0)), (λ more. refl));
      held = c.in_ok-n.ensures.held ∙ c.reading.invariant.held;
      noted = c.in_ok-n.ensures.noted ∙ c.reading.invariant.noted;
      present = λ is. absurd (cc);
      faults = c.in_ok-n.ensures.faults ∙ c.reading.invariant.faults;
      misses = c.in_ok-n.ensures.misses ∙ c.reading.invariant.misses;
    }

pub returns-in_err-extend_from_slice : goal.returns-in_err-extend_from_slice
returns-in_err-extend_from_slice g c =
    let p = err_from_is_err_and c.from_residual-in_err-extend_from_slice.result c.from_residual-in_err-extend_from_slice.ensures.1 in
    rw (p.1, p.2) (record {
      told = told_memory _;
      counted = tt;
      at_end = tt;
      ends = c.in_ok-n.ensures.ends ∙ unended c.in_ok-n.n (g.S.Shelf.state c.reading.shelf).opened (g.S.Shelf.state c.reading.shelf).ends (omega arith) ∙ c.reading.invariant.ends;
      too_large = ((λ is. absurd (cc)), (λ more. absurd (omega (arith, c.in_ok-n.ensures.counted, c.reading.bytes.ok.0))));
      held = c.in_ok-n.ensures.held ∙ c.reading.invariant.held;
      noted = c.in_ok-n.ensures.noted ∙ c.reading.invariant.noted;
      present = λ is. absurd (cc);
      faults = c.in_ok-n.ensures.faults ∙ c.reading.invariant.faults;
      misses = c.in_ok-n.ensures.misses ∙ c.reading.invariant.misses;
    })

pub reading-preserved : goal.reading-preserved
reading-preserved g c =
    let taken = length-take-le c.in_ok-n.n c.read.new.buf c.in_ok-n.ensures.bound.0 in
    let longer : length c.extend_from_slice.new.self.items ≡ length c.reading.bytes.items + length (take c.in_ok-n.n c.read.new.buf) =
    ap length c.in_ok-extend_from_slice.ensures.items ∙ length-append c.reading.bytes.items (take c.in_ok-n.n c.read.new.buf) in
    record {
      within = omega (arith, longer, taken, c.reading.bytes.ok.0);
      given = rw c.in_ok-extend_from_slice.ensures.items
          (Consumes-trans _ _ _ _ _ c.reading.invariant.given c.in_ok-n.ensures.bytes.0);
      counted = omega (arith, c.in_ok-n.ensures.counted, longer, taken, c.reading.bytes.ok.0);
      ends = c.in_ok-n.ensures.ends ∙ unended c.in_ok-n.n (g.S.Shelf.state c.reading.shelf).opened (g.S.Shelf.state c.reading.shelf).ends (omega arith) ∙ c.reading.invariant.ends;
      held = c.in_ok-n.ensures.held ∙ c.reading.invariant.held;
      noted = c.in_ok-n.ensures.noted ∙ c.reading.invariant.noted;
      faults = c.in_ok-n.ensures.faults ∙ c.reading.invariant.faults;
      misses = c.in_ok-n.ensures.misses ∙ c.reading.invariant.misses;
    }
