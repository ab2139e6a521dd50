-- What is read as one part of an expression is read as each looser part.
use Rattle.std.proofs.Common.{◌≡◌, ℕ, ◌≤◌, ◌<◌, true, Some, List, refl, arith}
use Rattle.xp_tree.specs.Tree.{Tree, chain, negated, path, filtered, variable, literal, number, call, no_steps, no_operands, no_trees}
use Rattle.xp_tree.specs.declared.terms.Level.{Level}
use Rattle.xp_tree.specs.declared.terms.Level.TheVariants as level
use Rattle.xp_grammar.specs.declared.token.Placed.{Placed}
use Rattle.xp_grammar.specs.Grammar.{tighter, no_sign, IsChain, chained, IsOperand, tighter_chain, signed, one_path, no_more, IsPath, from_filter, no_more_steps, no_predicate, IsFilter, filter, IsPrimary}
use Rattle.xp_print.specs.Printed.{binding, binding_of, is_base, is_path_base}

-- the tokens are read as the tightest part that such an expression can be
abbrev pub Reads : Tree → ℕ → ℕ → List Placed → List Placed → Tree → Type 0
Reads (chain n offset first rest) limit d s u f = IsChain limit n d s u f
Reads (negated offset count e) limit d s u f = IsOperand limit level.Prod d s u f
Reads (path offset start steps) limit d s u f = IsPath limit d s u f
Reads (filtered offset base predicates) limit d s u f = IsFilter limit d s u f
Reads _ limit d s u f = IsPrimary limit d s u f

pub single : {limit : ℕ} {n : Level} {d : ℕ} {s u : List Placed} {f : Tree} → IsOperand limit n d s u f → IsChain limit n d s u f
single {limit} {n} {d} {s} {u} {f} D = chained n d s u u f no_operands D (no_more n d u)

unsigned : {limit d : ℕ} {s u : List Placed} {f : Tree} → d ≤ limit → IsChain limit level.Union d s u f → IsOperand limit level.Prod d s u f
unsigned {limit} {d} {s} {u} {f} room D = signed d 0 s s u f (no_sign s) (omega (arith, room)) D

looser : {limit : ℕ} (n inner : Level) {d : ℕ} {s u : List Placed} {f : Tree} → tighter n ≡ Some inner → IsChain limit inner d s u f → IsChain limit n d s u f
looser n inner {d} {s} {u} {f} is D = single (tighter_chain n inner d s u f is D)

from_or : {limit d : ℕ} {s u : List Placed} {f : Tree} → IsChain limit level.Or d s u f → (n : Level) → binding n ≤ 0 → IsChain limit n d s u f
from_or D level.Or le = D
from_or D _ le = absurd (omega (arith, le))

from_and : {limit d : ℕ} {s u : List Placed} {f : Tree} → IsChain limit level.And d s u f → (n : Level) → binding n ≤ 1 → IsChain limit n d s u f
from_and D level.And le = D
from_and D n le = from_or (looser level.Or level.And refl D) n (omega (arith, le))

from_equal : {limit d : ℕ} {s u : List Placed} {f : Tree} → IsChain limit level.Equal d s u f → (n : Level) → binding n ≤ 2 → IsChain limit n d s u f
from_equal D level.Equal le = D
from_equal D n le = from_and (looser level.And level.Equal refl D) n (omega (arith, le))

from_rel : {limit d : ℕ} {s u : List Placed} {f : Tree} → IsChain limit level.Rel d s u f → (n : Level) → binding n ≤ 3 → IsChain limit n d s u f
from_rel D level.Rel le = D
from_rel D n le = from_equal (looser level.Equal level.Rel refl D) n (omega (arith, le))

from_sum : {limit d : ℕ} {s u : List Placed} {f : Tree} → IsChain limit level.Sum d s u f → (n : Level) → binding n ≤ 4 → IsChain limit n d s u f
from_sum D level.Sum le = D
from_sum D n le = from_rel (looser level.Rel level.Sum refl D) n (omega (arith, le))

from_prod : {limit d : ℕ} {s u : List Placed} {f : Tree} → IsChain limit level.Prod d s u f → (n : Level) → binding n ≤ 6 → IsChain limit n d s u f
from_prod D level.Prod le = D
from_prod D n le = from_sum (looser level.Sum level.Prod refl D) n (omega (arith, le))

from_union : {limit d : ℕ} {s u : List Placed} {f : Tree} → d ≤ limit → IsChain limit level.Union d s u f → (n : Level) → IsChain limit n d s u f
from_union room D level.Union = D
from_union room D n = from_prod (single (unsigned room D)) n (omega arith)

from_level : {limit d : ℕ} {s u : List Placed} {f : Tree} (m : Level) → d ≤ limit → IsChain limit m d s u f → (n : Level) → binding n ≤ binding m → IsChain limit n d s u f
from_level level.Or room D n le = from_or D n le
from_level level.And room D n le = from_and D n le
from_level level.Equal room D n le = from_equal D n le
from_level level.Rel room D n le = from_rel D n le
from_level level.Sum room D n le = from_sum D n le
from_level level.Prod room D n le = from_prod D n (omega (arith, le))
from_level level.Union room D n le = from_union room D n

-- ---- paths

path-of-filter : {limit d : ℕ} {s u : List Placed} {f : Tree} → IsFilter limit d s u f → IsPath limit d s u f
path-of-filter {limit} {d} {s} {u} {f} D = from_filter d s u u f no_steps D (no_more_steps d u)

filter-of-primary : {limit d : ℕ} {s u : List Placed} {f : Tree} → IsPrimary limit d s u f → IsFilter limit d s u f
filter-of-primary {limit} {d} {s} {u} {f} D = filter d s u u f no_trees D (no_predicate d u)

pub path-of-primary : {limit d : ℕ} {s u : List Placed} {f : Tree} → IsPrimary limit d s u f → IsPath limit d s u f
path-of-primary D = path-of-filter (filter-of-primary D)

chain-of-path : {limit d : ℕ} {s u : List Placed} {f : Tree} → d ≤ limit → IsPath limit d s u f → (n : Level) → IsChain limit n d s u f
chain-of-path {limit} {d} {s} {u} {f} room D n = from_union room (single (one_path d s u f D)) n

pub chain-of-primary : {limit d : ℕ} {s u : List Placed} {f : Tree} → d ≤ limit → IsPrimary limit d s u f → (n : Level) → IsChain limit n d s u f
chain-of-primary room D n = chain-of-path room (path-of-primary D) n

-- ---- an expression as a chain, an operand, a base

pub as_primary : (e : Tree) {limit d : ℕ} {s u : List Placed} {f : Tree} → is_base e ≡ true → Reads e limit d s u f → IsPrimary limit d s u f
as_primary (variable offset name) is D = D
as_primary (literal offset value) is D = D
as_primary (number offset digits) is D = D
as_primary (call offset name args) is D = D
as_primary (chain n offset first rest) is D = absurd (cc)
as_primary (negated offset count e) is D = absurd (cc)
as_primary (path offset start steps) is D = absurd (cc)
as_primary (filtered offset base predicates) is D = absurd (cc)

pub as_filter : (e : Tree) {limit d : ℕ} {s u : List Placed} {f : Tree} → is_path_base e ≡ true → Reads e limit d s u f → IsFilter limit d s u f
as_filter (variable offset name) is D = filter-of-primary D
as_filter (literal offset value) is D = filter-of-primary D
as_filter (number offset digits) is D = filter-of-primary D
as_filter (call offset name args) is D = filter-of-primary D
as_filter (filtered offset base predicates) is D = D
as_filter (chain n offset first rest) is D = absurd (cc)
as_filter (negated offset count e) is D = absurd (cc)
as_filter (path offset start steps) is D = absurd (cc)

pub as_chain : (e : Tree) {limit d : ℕ} {s u : List Placed} {f : Tree} (n : Level) → binding n ≤ binding_of e → d ≤ limit →
    Reads e limit d s u f → IsChain limit n d s u f
as_chain (chain m offset first rest) n le room D = from_level m room D n le
as_chain (negated offset count e) n le room D = from_prod (single D) n le
as_chain (path offset start steps) n le room D = chain-of-path room D n
as_chain (filtered offset base predicates) n le room D = chain-of-path room (path-of-filter D) n
as_chain (variable offset name) n le room D = chain-of-primary room D n
as_chain (literal offset value) n le room D = chain-of-primary room D n
as_chain (number offset digits) n le room D = chain-of-primary room D n
as_chain (call offset name args) n le room D = chain-of-primary room D n

as_path : (e : Tree) {limit d : ℕ} {s u : List Placed} {f : Tree} → 7 < binding_of e → Reads e limit d s u f → IsPath limit d s u f
as_path (path offset start steps) lt D = D
as_path (filtered offset base predicates) lt D = path-of-filter D
as_path (variable offset name) lt D = path-of-primary D
as_path (literal offset value) lt D = path-of-primary D
as_path (number offset digits) lt D = path-of-primary D
as_path (call offset name args) lt D = path-of-primary D
as_path (chain m offset first rest) lt D = absurd (no_chain m lt)
  where
    no_chain : (m : Level) → 7 < binding m → ⊥
    no_chain level.Or lt = omega (arith, lt)
    no_chain _ lt = omega (arith, lt)
as_path (negated offset count e) lt D = absurd (omega (arith, lt))

prod-operand : (e : Tree) {limit d : ℕ} {s u : List Placed} {f : Tree} → 5 < binding_of e → d ≤ limit →
    Reads e limit d s u f → IsOperand limit level.Prod d s u f
prod-operand (negated offset count e) lt room D = D
prod-operand (chain level.Union offset first rest) lt room D = unsigned room D
prod-operand (chain level.Or offset first rest) lt room D = absurd (omega (arith, lt))
prod-operand (chain level.And offset first rest) lt room D = absurd (omega (arith, lt))
prod-operand (chain level.Equal offset first rest) lt room D = absurd (omega (arith, lt))
prod-operand (chain level.Rel offset first rest) lt room D = absurd (omega (arith, lt))
prod-operand (chain level.Sum offset first rest) lt room D = absurd (omega (arith, lt))
prod-operand (chain level.Prod offset first rest) lt room D = absurd (omega (arith, lt))
prod-operand e lt room D = unsigned room (as_chain e level.Union (omega (arith, lt)) room D)

operand-of-chain : {limit d : ℕ} {s u : List Placed} {f : Tree} (n inner : Level) → tighter n ≡ Some inner → IsChain limit inner d s u f → IsOperand limit n d s u f
operand-of-chain {limit} {d} {s} {u} {f} n inner is D = tighter_chain n inner d s u f is D

pub as_operand : (e : Tree) {limit d : ℕ} {s u : List Placed} {f : Tree} (n : Level) → binding n < binding_of e → d ≤ limit →
    Reads e limit d s u f → IsOperand limit n d s u f
as_operand e level.Or lt room D = operand-of-chain level.Or level.And refl (as_chain e level.And lt room D)
as_operand e level.And lt room D = operand-of-chain level.And level.Equal refl (as_chain e level.Equal lt room D)
as_operand e level.Equal lt room D = operand-of-chain level.Equal level.Rel refl (as_chain e level.Rel lt room D)
as_operand e level.Rel lt room D = operand-of-chain level.Rel level.Sum refl (as_chain e level.Sum lt room D)
as_operand e level.Sum lt room D = operand-of-chain level.Sum level.Prod refl (as_chain e level.Prod lt room D)
as_operand e level.Prod lt room D = prod-operand e lt room D
as_operand e {limit} {d} {s} {u} {f} level.Union lt room D = one_path d s u f (as_path e lt D)

pub operand-of-primary : {limit d : ℕ} {s u : List Placed} {f : Tree} (n : Level) → d ≤ limit → IsPrimary limit d s u f → IsOperand limit n d s u f
operand-of-primary level.Or room D = operand-of-chain level.Or level.And refl (chain-of-primary room D level.And)
operand-of-primary level.And room D = operand-of-chain level.And level.Equal refl (chain-of-primary room D level.Equal)
operand-of-primary level.Equal room D = operand-of-chain level.Equal level.Rel refl (chain-of-primary room D level.Rel)
operand-of-primary level.Rel room D = operand-of-chain level.Rel level.Sum refl (chain-of-primary room D level.Sum)
operand-of-primary level.Sum room D = operand-of-chain level.Sum level.Prod refl (chain-of-primary room D level.Prod)
operand-of-primary level.Prod room D = unsigned room (chain-of-primary room D level.Union)
operand-of-primary {limit} {d} {s} {u} {f} level.Union room D = one_path d s u f (path-of-primary D)
