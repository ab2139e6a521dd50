use Rattle.std.proofs.Common.{subst}
use Rattle.std.proofs.lemmas.Option.{IfSome_then}
use Rattle.xslt_match.specs.inner.Refused.{PathsRefuse}
use Rattle.xslt_match.proofs.Classes.{refuses_alike}
use Rattle.xslt_match.proofs.refusing.refused_levels.Goals as goal

pub returns : goal.returns
returns c =
    IfSome_then c.levels_of_paths.result c.levels_of_paths.ensures (λ levels paths.
    refuses_alike c.args.tree.now c.args.n c.args.pattern.now levels (subst (λ ps. PathsRefuse c.args.tree.now ps c.args.n levels) c.paths.ensures.paths paths))
