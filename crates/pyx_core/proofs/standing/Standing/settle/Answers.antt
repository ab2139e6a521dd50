-- Each line leaves its traces.
use Rattle.std.proofs.Common.{◌≡◌, length, vec_len, ◌∷◌, [], ◌++◌, ◌∙◌, ap, refl, arith}
use Rattle.pyx_core.specs.Before.{open_names}
use Rattle.pyx_core.proofs.StandingLemmas.{settles, popped}
use Rattle.pyx_core.proofs.standing.Standing.settle.Goals as goal

pub returns-in_ok-open_name-in-Start : goal.returns-in_ok-open_name-in-Start
returns-in_ok-open_name-in-Start c = λ mode taken before reads number named.
    let item = c.has_item_after-self.ensures mode taken before reads in
    rw c.in-Start.is (settles _ mode taken before _ c.start.result reads.mode_is
    (c.in_ok-open_name-in-Start.ensures.opened ∙ ap (λ l. l ++ c.in-Start.name ∷ []) reads.opened)
    (rw c.in-Start.is at named) (rw c.in-Start.is at item) (rw number at (c.start.ensures taken _ _ reads.told)))

pub returns-in-Attribute : goal.returns-in-Attribute
returns-in-Attribute c = λ mode taken before reads number named.
    let item = c.has_item_after-self.ensures mode taken before reads in
    rw c.in-Attribute.is (settles _ mode taken before _ c.attribute.result reads.mode_is reads.opened
    (rw c.in-Attribute.is at named) (rw c.in-Attribute.is at item) (c.attribute.ensures taken _ _ reads.told))

pub returns-in-End : goal.returns-in-End
returns-in-End c = λ mode taken before reads number named.
    let count : vec_len c.args.self.now.opened ≡ length c.args.self.now.opened.items = omega (arith, c.args.self.now.opened.ok.0) in
    let item = c.has_item_after-self.ensures mode taken before reads in
    rw c.in-End.is (settles _ mode taken before _ c.whole.result reads.mode_is
    (popped c.args.self.now.opened.items c.pop.new.self.items _ (open_names before) reads.opened count c.pop.ensures.rest)
    (rw c.in-End.is at named) (rw c.in-End.is at item) (rw number at (c.whole.ensures taken _ _ reads.told)))

pub returns-in-Chars : goal.returns-in-Chars
returns-in-Chars c = λ mode taken before reads number named.
    let item = c.has_item_after-self.ensures mode taken before reads in
    let outside = c.is_outside-is_outside.ensures mode taken before reads in
    let text = c.kept-kept.ensures ∙ rw outside refl in
    rw c.in-Chars.is (settles _ mode taken before _ c.text.result reads.mode_is reads.opened
    (rw c.in-Chars.is at named) (rw c.in-Chars.is at item) (rw (number, text) at (c.text.ensures taken _ _ reads.told)))

pub returns-in-Pi : goal.returns-in-Pi
returns-in-Pi c = λ mode taken before reads number named.
    let item = c.has_item_after-self.ensures mode taken before reads in
    rw c.in-Pi.is (settles _ mode taken before _ c.whole-in-Pi.result reads.mode_is reads.opened
    (rw c.in-Pi.is at named) (rw c.in-Pi.is at item) (rw number at (c.whole-in-Pi.ensures taken _ _ reads.told)))

pub returns-in-Comment : goal.returns-in-Comment
returns-in-Comment c = λ mode taken before reads number named.
    let item = c.has_item_after-self.ensures mode taken before reads in
    rw c.in-Comment.is (settles _ mode taken before _ c.whole-in-Comment.result reads.mode_is reads.opened
    (rw c.in-Comment.is at named) (rw c.in-Comment.is at item) (rw number at (c.whole-in-Comment.ensures taken _ _ reads.told)))
