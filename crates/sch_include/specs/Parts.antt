-- The parts of a schema that is read from its files: each gives lines of the whole tree and goes on, or stops at a fault, and
-- nothing after that is read. A part is seen as what may come of it.
use Rattle.std.specs.Prelude.{◌≡◌, ◌⊎◌, ℕ, Bool, true, false, List, [], ◌∷◌, ◌++◌, Result, Ok, Err}
use Rattle.doc_tree.specs.Lines.{Line}
use Rattle.sch_include.specs.declared.fault.IncludeFault.{IncludeFault}

-- what is known on the way: how many nodes, and bytes of text, the tree has as it stands, in which the includes that are not taken
-- yet are elements; and which files were opened, in their order
pub record Standing : Type 0 where
  pub nodes : ℕ
  pub text : ℕ
  pub opened : List (List ℕ)

abbrev pub Part : Type 1
Part = Standing → Standing → Result (List Line) IncludeFault → Type 0

-- these lines, and nothing is read
abbrev pub Told : List Line → Part
Told lines before after result = (after ≡ before) × (result ≡ Ok lines)

-- this fault, and nothing is read
abbrev pub Stopped : IncludeFault → Part
Stopped fault before after result = (after ≡ before) × (result ≡ Err fault)

-- lines, then those of a later part
abbrev pub followed_by : List Line → Result (List Line) IncludeFault → Result (List Line) IncludeFault
followed_by lines (Ok more) = Ok (lines ++ more)
followed_by lines (Err fault) = Err fault

-- a part, and where it goes on the next one
pub record Then (first next : Part) (before after : Standing) (result : Result (List Line) IncludeFault) : Type 0 where
  pub either : ((fault : IncludeFault) × first before after (Err fault) × (result ≡ Err fault))
      ⊎ ((between : Standing) × (lines : List Line) × (more : Result (List Line) IncludeFault)
      × first before between (Ok lines) × next between after more × (result ≡ followed_by lines more))

-- a part for each node, in order
abbrev pub InTurn : (ℕ → Part) → List ℕ → Part
InTurn part [] = Told []
InTurn part (n ∷ ns) = Then (part n) (InTurn part ns)

-- one part or another
abbrev pub Choice : Bool → Part → Part → Part
Choice true first second = first
Choice false first second = second

-- a part that rests on a value, which may be refused
abbrev pub With : {A : Type 0} → Result A IncludeFault → (A → Part) → Part
With (Ok value) part = part value
With (Err fault) part = Stopped fault
