-- Tables whose numbers are in document order, with no others made: what follows from that.
use Rattle.std.specs.Prelude.{◌≡◌, ℕ, true, nat_lt, length}
use Rattle.doc_table.specs.Lists.{upto}
use Rattle.doc_table.specs.Table.{Table, is_live}
use Rattle.doc_table.specs.Walks.{order}
use Rattle.doc_table.specs.Order.{is_before}
use Rattle.doc_table.specs.Lines.{lines}
use Rattle.doc_table.specs.Laws.{WellFormed}

-- the numbers from 0 on are the live nodes in document order
abbrev pub IsInOrder : Table → Type 0
IsInOrder T = order T ≡ upto (length T)

-- a node stands before another in document order exactly where its number is less
abbrev pub OrderIsByNumber : Type 0
OrderIsByNumber = (T : Table) → IsInOrder T → (a b : ℕ) → is_live T b ≡ true → is_before T a b ≡ nat_lt a b

-- its lines tell all of such a table, the numbers too
abbrev pub OneTable : Type 0
OneTable = (T U : Table) → WellFormed T → WellFormed U → IsInOrder T → IsInOrder U → lines T ≡ lines U → T ≡ U
