-- Writing attributes one after another.
use Rattle.std.proofs.Common.{◌≡◌, ℕ, ◌+◌, ◌<◌, List, [], ◌∷◌, ◌++◌, length, take, slice_index_or, Result, Ok, Err, IsErr, refl, ap}
use Rattle.std.specs.List.{flat_map}
use Rattle.sch_io.specs.SinkLog.{SinkLog}
use Rattle.sch_io.specs.Wrote.{Wrote}
use Rattle.sch_io.proofs.Writes as writes
use Rattle.pyx_core.specs.declared.event.Attr.{Attr}
use Rattle.pyx_core.specs.Written.{attr_line, attr_lines}

abbrev line_of : Attr → List ℕ
line_of attr = attr_line attr.name attr.value

each_line : (attrs : List Attr) → attr_lines attrs ≡ flat_map line_of attrs
each_line [] = refl
each_line (attr ∷ attrs) = ap (λ l. line_of attr ++ l) (each_line attrs)

pub wrote_cut : {T T' E E' : Type 0} {a b c : SinkLog} {u : T} {e : E} (xs : List Attr) (i : ℕ) (x : Attr) (result : Result T' E') →
    IsErr result → x ≡ slice_index_or xs i x → i < length xs →
    Wrote {E = E} a b (attr_lines (take i xs)) (Ok u) → Wrote {T = T} b c (attr_line x.name x.value) (Err e) → Wrote a c (attr_lines xs) result
wrote_cut xs i x result fails is less first next =
    rw (each_line xs) (writes.wrote_cut line_of xs i x result fails is less (rw (each_line (take i xs)) at first) next)

pub wrote_next : {T T' E E' : Type 0} {a b c : SinkLog} {u : T} {v : T'} (xs : List Attr) (i : ℕ) (x : Attr) →
    x ≡ slice_index_or xs i x → i < length xs →
    Wrote {E = E} a b (attr_lines (take i xs)) (Ok u) → Wrote {E = E'} b c (attr_line x.name x.value) (Ok v) →
    Wrote {E = E'} a c (attr_lines (take (i + 1) xs)) (Ok v)
wrote_next xs i x is less first next =
    rw (each_line (take (i + 1) xs)) (writes.wrote_next line_of xs i x is less (rw (each_line (take i xs)) at first) next)
