-- What watched expressions give, in lines: instructions in PYX.
use Rattle.std.specs.Prelude.{ℕ, ◌+◌, Bool, List, [], ◌++◌, length, codes, Result, Ok, Err, slice_get}
use Rattle.std.specs.Fmt.{decimal}
use Rattle.std.specs.List.{flat_map, list_any}
use Rattle.std.specs.Option.{option_map_or}
use Rattle.pyx_write.specs.Written.{pi_line}
use Rattle.doc_tree.specs.Table.{Table}
use Rattle.doc_axes.specs.Sets.{in_order}
use Rattle.doc_locations.specs.Locations.{location_of}
use Rattle.xp_typed_tree.specs.TypedTree.{TypedTree}
use Rattle.xp_values.specs.Conversions.{number_text, truth_text}
use Rattle.xp_values.specs.FaultNames.{fault_name}
use Rattle.xp_values.specs.declared.values.EvalFault.{EvalFault}
use Rattle.xp_values.specs.declared.values.Value.{Value}
use Rattle.xp_values.specs.declared.values.Value.TheVariants.{NodeSet, Truth, Number, Chars}
use Rattle.xp_watch.specs.Costs.{has_fault}
use Rattle.xp_watch.specs.Watched.{watched, watches_of}

-- the line of a watch: its number, counted from 1, what kind of thing it gave, and the text of that
abbrev pub watch_line : ℕ → List ℕ → List ℕ → List ℕ
watch_line number kind text = pi_line (codes "watch") (decimal number ++ (codes " " ++ (kind ++ (codes " " ++ text))))

-- how many nodes there are
abbrev pub count_line : ℕ → ℕ → List ℕ
count_line number count = watch_line number (codes "nodes") (decimal count)

-- where a node is found
abbrev pub at_line : Table → ℕ → List ℕ
at_line T n = pi_line (codes "at") (location_of T n)

-- a node-set: how many nodes it has, and where each is found, in document order
abbrev pub node_lines : Table → ℕ → List ℕ → List ℕ
node_lines T number nodes = count_line number (length nodes) ++ flat_map (at_line T) (in_order T nodes)

-- the lines of a watch, by the value that it gave or the fault that it met
abbrev pub value_lines : Table → ℕ → Result Value EvalFault → List ℕ
value_lines T number (Ok (NodeSet nodes)) = node_lines T number nodes
value_lines T number (Ok (Truth truth)) = watch_line number (codes "truth") (truth_text truth)
value_lines T number (Ok (Number value)) = watch_line number (codes "number") (number_text value)
value_lines T number (Ok (Chars text)) = watch_line number (codes "text") text
value_lines T number (Err fault) = watch_line number (codes "fault") (fault_name fault)

-- the lines of a watch over a tree, by its number from 0
abbrev pub watch_lines : Table → List TypedTree → ℕ → List ℕ
watch_lines T exprs k = option_map_or (λ expr. value_lines T (k + 1) (watched T expr).answer) (slice_get exprs k) []

-- the text of a state: the lines of each watch in order
abbrev pub watch_text : Table → List TypedTree → List ℕ
watch_text T exprs = flat_map (watch_lines T exprs) (watches_of exprs)

-- whether one of them is the line of a fault
abbrev pub shows_fault : Table → List TypedTree → Bool
shows_fault T exprs = list_any (has_fault T exprs) (watches_of exprs)
