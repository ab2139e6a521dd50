-- What covers a covering cell covers what that one does.
use Rattle.std.proofs.Common.{subst}
use Rattle.doc_table.proofs.Forests.{formed-of}
use Rattle.doc_table.proofs.TreeLaws.{ways-up}
use Rattle.cover_laws.specs.Covering.{Alike}
use Rattle.cover_laws.proofs.AlikeLemmas.{compose-alike, dropped-alike, same-alike}
use Rattle.cover_laws.proofs.sets_are_alike.Goals as goal

pub returns-clause-equal : goal.returns-clause-equal
returns-clause-equal c T held reads same = subst (Alike T held) same (same-alike T held)

pub returns-clause-composes : goal.returns-clause-composes
returns-clause-composes c T held between reads form = compose-alike T form (ways-up T (formed-of T form)) held between reads

pub returns-clause-covered : goal.returns-clause-covered
returns-clause-covered c T held reads stays form = dropped-alike T form (ways-up T (formed-of T form)) held reads stays
