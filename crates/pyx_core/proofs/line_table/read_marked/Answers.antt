-- Two marks begin a line of characters, and three one that is skipped.
use Rattle.std.proofs.Common.{◌≡◌, ⊎_elim, refl}
use Rattle.std.specs.Prelude.{◌⊎◌}
use Rattle.pyx_core.proofs.line_table.read_marked.Goals as goal

pub returns-in-45 : goal.returns-in-45
returns-in-45 c =
    ⊎_elim (λ (is : c.args.mark ≡ 45). rw is c.read_chars.ensures) (λ (is : c.args.mark ≡ 91). rw is c.read_chars.ensures) c.in-45.is

pub returns-in-D : goal.returns-in-D
returns-in-D c =
    ⊎_elim (λ (is : c.args.mark ≡ 68). rw is refl)
    (λ (is : (c.args.mark ≡ 78) ⊎ (c.args.mark ≡ 85)). ⊎_elim (λ (is : c.args.mark ≡ 78). rw is refl)
    (λ (is : c.args.mark ≡ 85). rw is refl) is)
    c.in-D.is
