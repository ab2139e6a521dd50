-- Names as they are written, and the names that a table has numbered (Namespaces in XML 1.0).
use Rattle.std.specs.Prelude.{ℕ, List, [], slice_index_or}

-- a name as it is written, with its namespace, which is empty where it has none
pub record Name : Type 0 where
  pub prefix : List ℕ
  pub local : List ℕ
  pub uri : List ℕ

-- an expanded name: the namespace and the local part (Namespaces in XML 1.0, section 2.1)
abbrev pub expanded : Name → List ℕ × List ℕ
expanded name = (name.uri, name.local)

abbrev pub no_name : Name
no_name = record { prefix = []; local = []; uri = [] }

-- the name with a number, among those that a table has numbered
abbrev pub numbered : List Name → ℕ → Name
numbered names id = slice_index_or names id no_name
