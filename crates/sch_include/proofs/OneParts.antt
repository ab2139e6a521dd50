-- Each part of a schema gives one result where the outside doesn't fail.
use Rattle.std.proofs.Common.{◌≡◌, ◌⊎◌, inl, inr, ℕ, zero, suc, ◌+◌, Bool, true, false, List, [], ◌∷◌, ◌++◌, length, refl, sym, ap, ap₂, ◌∙◌, subst, arith}
use Rattle.std.specs.Prelude.{Result, Ok, Err}
use Rattle.std.specs.List.{flat_map}
use Rattle.sch_base.specs.declared.limits.TheConstants.{MAX_INCLUDE_DEPTH}
use Rattle.sch_io.specs.Files.{Files}
use Rattle.doc_tree.specs.InOrder.{OneTable}
use Rattle.doc_tree.specs.Lines.{Line, closes, lines, opens}
use Rattle.doc_tree.specs.Table.{Table, attrs_of, kids_of}
use Rattle.pyx_core.specs.Nesting.{bare}
use Rattle.pyx_core.specs.Reading.{events_of}
use Rattle.pyx_core.specs.declared.mode.Mode.TheVariants.{Document}
use Rattle.name_scopes.specs.ScopedTree.{OneTree, Scoped}
use Rattle.sch_rules.specs.Elements.{document_element}
use Rattle.sch_include.specs.declared.fault.IncludeFault.{IncludeFault}
use Rattle.sch_include.specs.declared.fault.IncludeKind.TheVariants as kind
use Rattle.sch_include.specs.Included.{HasFailed, OneInclusion, Schema, WholeFile, as_it_is, nothing, whole_source}
use Rattle.sch_include.specs.Includes.{is_include}
use Rattle.sch_include.specs.Parts.{Choice, InTurn, Part, Standing, Stopped, Then, Told, With, followed_by}
use Rattle.sch_include.specs.Taking.{From, Loading, Opening, Placing, Reading, Source, Taking, Walked, failed, faulty, fitting, included_name, included_source, loaded, missing, too_large}

-- whether a part stopped because the outside failed
abbrev Failing : Result (List Line) IncludeFault → Type 0
Failing (Ok told) = ⊥
Failing (Err fault) = fault.kind ≡ kind.Failed

-- the part gives one result
abbrev IsOne : Part → Type 0
IsOne part = (before a b : Standing) (r s : Result (List Line) IncludeFault) → part before a r → part before b s → (Failing r → ⊥) → (Failing s → ⊥) → (r ≡ s) × (a ≡ b)

told-one : (told : List Line) → IsOne (Told told)
told-one told before a b r s x y nr ns = (x.1 ∙ sym y.1, x.0 ∙ sym y.0)

stopped-one : (fault : IncludeFault) → IsOne (Stopped fault)
stopped-one fault before a b r s x y nr ns = (x.1 ∙ sym y.1, x.0 ∙ sym y.0)

-- results of parts and of files
abbrev Done : {A : Type 0} → A → Result A IncludeFault
Done x = Ok x

abbrev Fault : {A : Type 0} → IncludeFault → Result A IncludeFault
Fault e = Err e

err≢ok : {A : Type 0} (e : IncludeFault) (x : A) → Fault {A = A} e ≡ Done x → ⊥
err≢ok e x h = cc

ok-same : {A : Type 0} (x y : A) → Done x ≡ Done y → x ≡ y
ok-same x y h = cc

err-same : (A : Type 0) (x y : IncludeFault) → Fault {A = A} x ≡ Fault {A = A} y → x ≡ y
err-same A x y h = cc

followed-fails : (told : List Line) (more : Result (List Line) IncludeFault) → (Failing (followed_by told more) → ⊥) → Failing more → ⊥
followed-fails told (Ok later) n h = h
followed-fails told (Err fault) n h = n h

module _ (first next : Part) (one : IsOne first) (two : IsOne next) where
  then-by : (before a b : Standing) (r s : Result (List Line) IncludeFault)
      → ((fault : IncludeFault) × first before a (Err fault) × (r ≡ Err fault)) ⊎ ((between : Standing) × (told : List Line) × (more : Result (List Line) IncludeFault) × first before between (Ok told) × next between a more × (r ≡ followed_by told more))
      → ((fault : IncludeFault) × first before b (Err fault) × (s ≡ Err fault)) ⊎ ((between : Standing) × (told : List Line) × (more : Result (List Line) IncludeFault) × first before between (Ok told) × next between b more × (s ≡ followed_by told more))
      → (Failing r → ⊥) → (Failing s → ⊥) → (r ≡ s) × (a ≡ b)
  then-by before a b r s (inl x) (inl y) nr ns =
      let same = one before a b (Err x.0) (Err y.0) x.1 y.1 (λ h. nr (subst Failing (sym x.2) h)) (λ h. ns (subst Failing (sym y.2) h)) in
      (x.2 ∙ (same.0 ∙ sym y.2), same.1)
  then-by before a b r s (inl x) (inr y) nr ns =
      absurd (err≢ok x.0 y.1 (one before a y.0 (Err x.0) (Ok y.1) x.1 y.3 (λ h. nr (subst Failing (sym x.2) h)) (λ h. h)).0)
  then-by before a b r s (inr x) (inl y) nr ns =
      absurd (err≢ok y.0 x.1 (sym (one before x.0 b (Ok x.1) (Err y.0) x.3 y.1 (λ h. h) (λ h. ns (subst Failing (sym y.2) h))).0))
  then-by before a b r s (inr x) (inr y) nr ns =
      let same = one before x.0 y.0 (Ok x.1) (Ok y.1) x.3 y.3 (λ h. h) (λ h. h) in
      let rest = two y.0 a b x.2 y.2 (subst (λ (m : Standing). next m a x.2) same.1 x.4) y.4
      (followed-fails x.1 x.2 (λ h. nr (subst Failing (sym x.5) h))) (followed-fails y.1 y.2 (λ h. ns (subst Failing (sym y.5) h))) in
      (x.5 ∙ (ap₂ followed_by (ok-same x.1 y.1 same.0) rest.0 ∙ sym y.5), rest.1)

  then-one : IsOne (Then first next)
  then-one before a b r s x y nr ns = then-by before a b r s x.either y.either nr ns

in-turn-one : (part : ℕ → Part) → ((n : ℕ) → IsOne (part n)) → (ns : List ℕ) → IsOne (InTurn part ns)
in-turn-one part one [] = told-one []
in-turn-one part one (n ∷ ns) = then-one (part n) (InTurn part ns) (one n) (in-turn-one part one ns)

choice-one : (b : Bool) (first second : Part) → IsOne first → IsOne second → IsOne (Choice b first second)
choice-one true first second one two = one
choice-one false first second one two = two

with-one : {A : Type 0} (value : Result A IncludeFault) (part : A → Part) → ((a : A) → IsOne (part a)) → IsOne (With value part)
with-one (Ok value) part one = one value
with-one (Err fault) part one = stopped-one fault

walked-one : (taking : ℕ → Part) → ((n : ℕ) → IsOne (taking n)) → (T : Table) (levels n : ℕ) → IsOne (Walked taking T levels n)
walked-one taking one T zero n = told-one []
walked-one taking one T (suc levels) n =
    let kids : IsOne (InTurn (Walked taking T levels) (kids_of T n)) = in-turn-one (Walked taking T levels) (walked-one taking one T levels) (kids_of T n) in
    let front : List Line = flat_map (opens T) (n ∷ attrs_of T n) in
    choice-one (is_include T n) (taking n) (Then (Told front) (Then (InTurn (Walked taking T levels) (kids_of T n)) (Told (closes T n)))) (one n)
    (then-one (Told front) (Then (InTurn (Walked taking T levels) (kids_of T n)) (Told (closes T n))) (told-one front)
    (then-one (InTurn (Walked taking T levels) (kids_of T n)) (Told (closes T n)) kids (told-one (closes T n))))

-- a file is one tree, or has one fault
loading-one : OneTree → (files : Files) (name : List ℕ) (r s : Result Table IncludeFault) → Loading files name r → Loading files name s → (HasFailed r → ⊥) → (HasFailed s → ⊥) → r ≡ s
loading-one tree files name _ _ (failed) y nr ns = absurd (nr refl)
loading-one tree files name _ _ x (failed) nr ns = absurd (ns refl)
loading-one tree files name _ _ (missing a) (missing b) nr ns = refl
loading-one tree files name _ _ (missing a) (too_large c b less) nr ns = absurd (cc)
loading-one tree files name _ _ (missing a) (faulty c b less f e) nr ns = absurd (cc)
loading-one tree files name _ _ (missing a) (loaded c b less e T h) nr ns = absurd (cc)
loading-one tree files name _ _ (too_large d a more) (missing b) nr ns = absurd (cc)
loading-one tree files name _ _ (too_large d a more) (too_large c b less) nr ns = refl
loading-one tree files name _ _ (too_large d a more) (faulty c b less f e) nr ns = let same : length d ≡ length c = (cc) in absurd (omega arith)
loading-one tree files name _ _ (too_large d a more) (loaded c b less e T h) nr ns = let same : length d ≡ length c = (cc) in absurd (omega arith)
loading-one tree files name _ _ (faulty d a few g i) (missing b) nr ns = absurd (cc)
loading-one tree files name _ _ (faulty d a few g i) (too_large c b less) nr ns = let same : length d ≡ length c = (cc) in absurd (omega arith)
loading-one tree files name _ _ (faulty d a few g i) (faulty c b less f e) nr ns = cc
loading-one tree files name _ _ (faulty d a few g i) (loaded c b less e T h) nr ns = absurd (cc)
loading-one tree files name _ _ (loaded d a few i U k) (missing b) nr ns = absurd (cc)
loading-one tree files name _ _ (loaded d a few i U k) (too_large c b less) nr ns = let same : length d ≡ length c = (cc) in absurd (omega arith)
loading-one tree files name _ _ (loaded d a few i U k) (faulty c b less f e) nr ns = absurd (cc)
loading-one tree files name _ _ (loaded d a few i U k) (loaded c b less e T h) nr ns =
    let same : c ≡ d = (cc) in
    ap Ok (tree (bare (events_of Document d)) U T k (subst (λ (bytes : List ℕ). Scoped (bare (events_of Document bytes)) T) same h))

module _ (tree : OneTree) (files : Files) where
  opening-by : (name : List ℕ) (next : Table → Part) → ((T : Table) → IsOne (next T)) → (before a b : Standing) (r s : Result (List Line) IncludeFault) →
      ((fault : IncludeFault) × Loading files name (Err fault) × (a ≡ record before { opened = before.opened ++ name ∷ [] }) × (r ≡ Err fault)) ⊎ ((T : Table) × Loading files name (Ok T) × next T (record before { opened = before.opened ++ name ∷ [] }) a r) →
      ((fault : IncludeFault) × Loading files name (Err fault) × (b ≡ record before { opened = before.opened ++ name ∷ [] }) × (s ≡ Err fault)) ⊎ ((T : Table) × Loading files name (Ok T) × next T (record before { opened = before.opened ++ name ∷ [] }) b s) →
      (Failing r → ⊥) → (Failing s → ⊥) → (r ≡ s) × (a ≡ b)
  opening-by name next one before a b r s (inl x) (inl y) nr ns =
      let same : x.0 ≡ y.0 = err-same Table x.0 y.0 (loading-one tree files name (Err x.0) (Err y.0) x.1 y.1 (λ h. nr (subst Failing (sym x.3) h)) (λ h. ns (subst Failing (sym y.3) h))) in
      (x.3 ∙ (ap Err same ∙ sym y.3), x.2 ∙ sym y.2)
  opening-by name next one before a b r s (inl x) (inr y) nr ns =
      absurd (err≢ok x.0 y.0 (loading-one tree files name (Err x.0) (Ok y.0) x.1 y.1 (λ h. nr (subst Failing (sym x.3) h)) (λ h. h)))
  opening-by name next one before a b r s (inr x) (inl y) nr ns =
      absurd (err≢ok y.0 x.0 (loading-one tree files name (Err y.0) (Ok x.0) y.1 x.1 (λ h. ns (subst Failing (sym y.3) h)) (λ h. h)))
  opening-by name next one before a b r s (inr x) (inr y) nr ns =
      let same : x.0 ≡ y.0 = ok-same x.0 y.0 (loading-one tree files name (Ok x.0) (Ok y.0) x.1 y.1 (λ h. h) (λ h. h)) in
      one y.0 (record before { opened = before.opened ++ name ∷ [] }) a b r s (subst (λ (T : Table). next T (record before { opened = before.opened ++ name ∷ [] }) a r) same x.2) y.2 nr ns

  opening-one : (name : List ℕ) (next : Table → Part) → ((T : Table) → IsOne (next T)) → IsOne (Opening files name next)
  opening-one name next one before a b r s x y nr ns = opening-by name next one before a b r s x.either y.either nr ns

  from-one : (standing : Standing) (part : Part) → IsOne part → IsOne (From standing part)
  from-one standing part one before a b r s x y nr ns = one standing a b r s x y nr ns

  reading-one : (taking : Source → ℕ → Part) → ((source : Source) (n : ℕ) → IsOne (taking source n)) → (source : Source) (n : ℕ) → IsOne (Reading taking source n)
  reading-one taking one source n = walked-one (taking source) (one source) source.tree (length source.tree) n

  placing-one : (taking : Source → ℕ → Part) → ((source : Source) (n : ℕ) → IsOne (taking source n)) → (source : Source) (n : ℕ) (name : List ℕ) (T : Table) → IsOne (Placing taking source n name T)
  placing-one taking one source n name T before a b r s x y nr ns =
      with-one (fitting source n name T before) (λ standing. From standing (Reading taking (included_source source n name T) (document_element T)))
      (λ standing. from-one standing (Reading taking (included_source source n name T) (document_element T)) (reading-one taking one (included_source source n name T) (document_element T)))
      before a b r s x y nr ns

  taking-one : (depth : ℕ) (source : Source) (n : ℕ) → IsOne (Taking files depth source n)
  taking-one zero source n before a b r s x y nr ns = told-one [] before a b r s x y nr ns
  taking-one (suc depth) source n before a b r s x y nr ns =
      with-one (included_name source before n) (λ name. Opening files name (Placing (Taking files depth) source n name))
      (λ name. opening-one name (Placing (Taking files depth) source n name) (placing-one (Taking files depth) (taking-one depth) source n name))
      before a b r s x y nr ns

  schema-one : (name : List ℕ) → IsOne (Schema files name)
  schema-one name =
      opening-one name (WholeFile files name) (λ T before a b r s x y nr ns.
      from-one (as_it_is T before) (Reading (Taking files (MAX_INCLUDE_DEPTH + 1)) (whole_source name T) 0)
      (reading-one (Taking files (MAX_INCLUDE_DEPTH + 1)) (taking-one (MAX_INCLUDE_DEPTH + 1)) (whole_source name T) 0) before a b r s x y nr ns)

pub inclusion-one : OneTree → OneTable → OneInclusion
inclusion-one tree table files name opened others (Ok T) (Ok U) x y nr ns =
    let same = schema-one tree files name nothing x.after y.after (Ok (lines T)) (Ok (lines U)) x.gives y.gives (λ h. h) (λ h. h) in (
      ap Ok (table T U x.document.well_formed y.document.well_formed x.document.numbered y.document.numbered (ok-same (lines T) (lines U) same.0)),
      sym x.opens ∙ (ap (λ (standing : Standing). standing.opened) same.1 ∙ y.opens),
    )
inclusion-one tree table files name opened others (Ok T) (Err f) x y nr ns =
    absurd (err≢ok f (lines T) (sym (schema-one tree files name nothing x.after y.after (Ok (lines T)) (Err f) x.gives y.stops (λ h. h) ns).0))
inclusion-one tree table files name opened others (Err f) (Ok T) x y nr ns =
    absurd (err≢ok f (lines T) (schema-one tree files name nothing x.after y.after (Err f) (Ok (lines T)) x.stops y.gives nr (λ h. h)).0)
inclusion-one tree table files name opened others (Err f) (Err g) x y nr ns =
    let same = schema-one tree files name nothing x.after y.after (Err f) (Err g) x.stops y.stops nr ns in
    (ap Err (err-same (List Line) f g same.0), sym x.opens ∙ (ap (λ (standing : Standing). standing.opened) same.1 ∙ y.opens))
