use Rattle.std.proofs.Common.{◌∙◌, ap, map, refl, sym}
use Rattle.std.specs.Prelude.{slice_get}
use Rattle.std.proofs.lemmas.Option.{slice_get_read}
use Rattle.xp_typed_tree.specs.TypedView.{path_seen, pattern_step_seen}
use Rattle.xslt_match.specs.inner.Named.{all_named}
use Rattle.xslt_match.proofs.kept.KeptSteps.all_named.Goals as goal

pub returns-in-Some : goal.returns-in-Some
returns-in-Some c = λ C L ps kept placed.
    (kept.paths c.args.at.now.number (path_seen c.args.at.now.path.now) c.in-Some.known.now placed.there
    (ap (λ ks. slice_get ks c.args.at.now.number) (sym c.deref.ensures.value)
    ∙ slice_get_read c.deref.result.now _ c.args.at.now.number c.in-Some.known.now refl c.in-Some.ensures.lookup.3.0 c.in-Some.ensures.lookup.1)).named

pub returns-in-None : goal.returns-in-None
returns-in-None c = λ C L ps kept placed. c.all_named.ensures ∙ ap (λ ss. all_named (map pattern_step_seen ss)) c.deref-in-None.ensures.value
