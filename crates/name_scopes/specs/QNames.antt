-- Qualified names: a prefix and a local part (Namespaces in XML 1.0, section 4).
use Rattle.std.specs.Prelude.{ℕ, List, [], if◌then◌else◌}
use Rattle.std.specs.List.{list_any, before_first, after_first}
use Rattle.sch_base.specs.Names.{is_colon}
use Rattle.doc_tree.specs.Table.{Name}

-- the part in front of the first colon, which is empty where there is none
abbrev pub prefix_part : List ℕ → List ℕ
prefix_part qname = if list_any is_colon qname then before_first is_colon qname else []

-- the part after it
abbrev pub local_part : List ℕ → List ℕ
local_part qname = if list_any is_colon qname then after_first is_colon qname else qname

-- the name that a QName spells, in a namespace
abbrev pub name_in_namespace : List ℕ → List ℕ → Name
name_in_namespace qname uri = record { prefix = prefix_part qname; local = local_part qname; uri = uri }

-- the name as it is written, its namespace left out
abbrev pub as_written : Name → Name
as_written name = record { prefix = name.prefix; local = name.local; uri = [] }

-- a name without a prefix, in no namespace: that of a processing instruction is its target
abbrev pub unprefixed : List ℕ → Name
unprefixed local = record { prefix = []; local = local; uri = [] }
