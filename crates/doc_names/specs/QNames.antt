-- Qualified names as they are written (Namespaces in XML 1.0, section 4).
use Rattle.std.specs.Prelude.{ℕ, List, [], ◌∷◌, ◌++◌, Option, None, Some}
use Rattle.doc_names.specs.Name.{Name}

-- the QName of a prefix and a local part: a colon between them, where there is a prefix
abbrev pub spelled_name : List ℕ → List ℕ → List ℕ
spelled_name [] local = local
spelled_name (b ∷ prefix) local = (b ∷ prefix) ++ 58 ∷ local

-- the QName of a name
abbrev pub qname_of : Name → List ℕ
qname_of name = spelled_name name.prefix name.local

-- the QName of a name, where there is one
abbrev pub written_in : Option Name → List ℕ
written_in None = []
written_in (Some name) = qname_of name
