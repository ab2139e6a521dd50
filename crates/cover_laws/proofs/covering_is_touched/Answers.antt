-- What an edit touches it touches upwards.
use Rattle.doc_table.proofs.Forests.{formed-of}
use Rattle.doc_table.proofs.TreeLaws.{ways-up}
use Rattle.cover_laws.proofs.CoverLemmas.{covering-touched}
use Rattle.cover_laws.proofs.covering_is_touched.Goals as goal

pub returns : goal.returns
returns c T U touched d e form edit = covering-touched T form (ways-up T (formed-of T form)) U touched d e edit
