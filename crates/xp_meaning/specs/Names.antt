-- The names of nodes (XPath 1.0, section 4.1).
use Rattle.std.specs.Prelude.{ℕ, List, [], Option, None, Some}
use Rattle.doc_tree.specs.Table.{Table, Name, name_of}
use Rattle.xp_outcome.specs.Evaluation.{Evaluation, all_reading, done}
use Rattle.xp_values.specs.declared.values.EvalFault.{EvalFault}
use Rattle.xp_meaning.specs.Reads.{name_read}

abbrev pub local_in : Option Name → List ℕ
local_in None = []
local_in (Some name) = name.local

abbrev pub uri_in : Option Name → List ℕ
uri_in None = []
uri_in (Some name) = name.uri

-- the name of a node; none for no node, and for a node without a name
abbrev pub name_at : Table → Option ℕ → Option Name
name_at T None = None
name_at T (Some n) = name_of T n

-- a part of the name of a node, which is read
abbrev pub of_name : {A : Type 0} → Table → Option ℕ → (Option Name → A) → Evaluation EvalFault A
of_name T n part = all_reading (name_read T n) (done (part (name_at T n)))
