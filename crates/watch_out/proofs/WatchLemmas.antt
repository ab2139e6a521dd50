-- Watches told one after another.
use Rattle.std.proofs.Common.{◌≡◌, ◌∙◌, ◌⊎◌, inl, inr, ℕ, ◌+◌, ◌<◌, ◌≤◌, Bool, true, false, ◌||◌, List, [], length, take, slice_get, slice_index_or, is_none, is_some, IfOk, Option, None, Some, Result, Ok, Err, refl, sym, ap, subst, arith, true≢false}
use Rattle.std.specs.List.{list_any}
use Rattle.std.proofs.lemmas.List.FromFn.{get_or-range_with_len, length-range_with_len}
use Rattle.std.proofs.lemmas.List.Folds.{list_any_at, list_any_more}
use Rattle.std.proofs.lemmas.Option.{slice_get_cases}
use Rattle.std.specs.Option.{option_map_or}
use Rattle.std.specs.Result.{is_err}
use Rattle.sch_io.specs.SinkLog.{SinkLog}
use Rattle.doc_tree.specs.Laws.{Ordered, WellFormed}
use Rattle.doc_tree.specs.Lists.{mem}
use Rattle.doc_tree.specs.Table.{Facts, Table, content_at, entry_at, is_live, kind_at}
use Rattle.doc_tree.specs.kind.Kind.TheVariants.{Root}
use Rattle.doc_tree.specs.Walks.{order}
use Rattle.doc_axes.specs.Sets.{IsNodeSet}
use Rattle.xp_meaning.specs.Laws.{IsProper, ValuesAreProper}
use Rattle.xp_typed_tree.specs.TypedTree.{TypedTree}
use Rattle.xp_values.specs.declared.values.EvalFault.{EvalFault}
use Rattle.xp_values.specs.declared.values.Value.{Value}
use Rattle.svrl_out.specs.Report.{Reported}
use Rattle.svrl_out.specs.declared.report.OutError.{OutError}
use Rattle.svrl_out.proofs.ToldLemmas.{mem-filter}
use Rattle.xp_watch.specs.Costs.{has_fault}
use Rattle.xp_watch.specs.Kept.{IsFresh, Kept, is_stale}
use Rattle.xp_watch.specs.Watched.{root_alone, watched, watches_of}
use Rattle.watch_out.specs.Lines.{value_lines, watch_lines}

-- the watch with a number is at that place
pub number_at : (exprs : List TypedTree) (k : ℕ) → k < length exprs → k ≡ slice_index_or (watches_of exprs) k k
number_at exprs k less = sym (get_or-range_with_len 0 (length exprs) k k less ∙ zero_add k)
  where
    zero_add : (n : ℕ) → 0 + n ≡ n
    zero_add n = omega arith

pub number_within : (exprs : List TypedTree) (k : ℕ) → k < length exprs → k < length (watches_of exprs)
number_within exprs k less = subst (λ (n : ℕ). k < n) (sym (length-range_with_len 0 (length exprs))) less

-- and is of an expression
pub expr_at : (exprs : List TypedTree) (k : ℕ) → k < length exprs → (expr : TypedTree) × (slice_get exprs k ≡ Some expr)
expr_at exprs k less = by (slice_get_cases exprs k).1
  where
    by : ((x : TypedTree) × (k < length exprs) × (slice_get exprs k ≡ Some x) × (slice_index_or exprs k x ≡ x)) ⊎ ((length exprs ≤ k) × (slice_get exprs k ≡ None)) →
        (expr : TypedTree) × (slice_get exprs k ≡ Some expr)
    by (inl found) = (found.0, found.2)
    by (inr past) = let no : ⊥ = omega (arith, less, past.0) in absurd no

-- none is stale
pub not_stale : (T : Table) (exprs : List TypedTree) (kept : Kept) (k : ℕ) → IsFresh T exprs kept → k < length exprs → (length exprs ≤ k) ⊎ (is_stale kept k ≡ true) → ⊥
not_stale T exprs kept k fresh less (inl past) = omega (arith, less, past)
not_stale T exprs kept k fresh less (inr stale) =
    let at = expr_at exprs k less in
    let done = fresh k at.0 at.1 in
    true≢false (sym stale ∙ ap is_none done.is)

-- a node of a kind lives
some_kind : (entry : Option Facts) → kind_at (content_at entry) ≡ Some Root → is_some entry ≡ true
some_kind None is = absurd (let clash : None ≡ Some Root = is in cc)
some_kind (Some facts) is = refl

-- no let has a value
abbrev no_lets : List (Option (Result Value EvalFault))
no_lets = []

-- what an expression gives is a value whose nodes are a node-set
pub proper_given : (T : Table) → ValuesAreProper T → WellFormed T → (expr : TypedTree) (given : Result Value EvalFault) → given ≡ (watched T expr).answer → IfOk given (IsProper T)
proper_given T proper formed expr (Ok v) is =
    let live : is_live T 0 ≡ true = root_live T formed in
    proper no_lets expr root_alone v (λ place v' is'. absurd (no_let place v' is')) live live (sym is)
  where
    root_live : (T : Table) → WellFormed T → is_live T 0 ≡ true
    root_live T formed = some_kind (entry_at T 0) formed.root_kind

    no_let : (place : ℕ) (v : Value) → slice_index_or no_lets place None ≡ Some (Ok v) → ⊥
    no_let place v is = cc
proper_given T proper formed expr (Err fault) is = tt

-- the nodes of a node-set live
pub set_live : (T : Table) (nodes : List ℕ) → Ordered T → IsNodeSet T nodes → (n : ℕ) → mem n nodes ≡ true → is_live T n ≡ true
set_live T nodes ordered set n there = ordered.live_in_order n ∙ mem-filter n (λ m. mem m nodes) (order T) (sym (ap (mem n) set) ∙ there)

-- what is told of the value of a watch is told of the watch
pub lines_of : (old new : SinkLog) (T : Table) (exprs : List TypedTree) (k : ℕ) (expr : TypedTree) (given : Result Value EvalFault) (result : Result (Unit {0}) OutError) → slice_get exprs k ≡ Some expr →
    given ≡ (watched T expr).answer → (number : ℕ) → number ≡ k + 1 → Reported old new (value_lines T number given) result → Reported old new (watch_lines T exprs k) result
lines_of old new T exprs k expr given result is same number numbered =
    subst (λ (text : List ℕ). Reported old new text result)
    (ap (λ (n : ℕ). value_lines T n given) numbered ∙ ap (value_lines T (k + 1)) same ∙ sym (ap (λ (o : Option TypedTree). option_map_or (λ e. value_lines T (k + 1) (watched T e).answer) o []) is))

-- and whether it meets a fault
pub fault_of : (T : Table) (exprs : List TypedTree) (k : ℕ) (expr : TypedTree) (given : Result Value EvalFault) → slice_get exprs k ≡ Some expr → given ≡ (watched T expr).answer →
    is_err given ≡ has_fault T exprs k
fault_of T exprs k expr given is same =
    ap is_err same ∙ sym (ap (λ (o : Option TypedTree). option_map_or (λ e. is_err (watched T e).answer) o false) is)

-- one watch more has no fault
pub none_more : (f : ℕ → Bool) (exprs : List TypedTree) (k : ℕ) (b : Bool) → k < length exprs → list_any f (take k (watches_of exprs)) ≡ false → b ≡ f k → b ≡ false →
    list_any f (take (k + 1) (watches_of exprs)) ≡ false
none_more f exprs k b less none is passes =
    list_any_more f (watches_of exprs) k k (number_within exprs k less)
    ∙ ap (λ (c : Bool). c || f (slice_index_or (watches_of exprs) k k)) none
    ∙ ap f (sym (number_at exprs k less)) ∙ sym is ∙ passes

-- or has one, as then all have
pub some_at : (f : ℕ → Bool) (exprs : List TypedTree) (k : ℕ) (b : Bool) → k < length exprs → b ≡ f k → b ≡ true → list_any f (watches_of exprs) ≡ true
some_at f exprs k b less is fails =
    list_any_at f (watches_of exprs) k k (number_within exprs k less) (ap f (sym (number_at exprs k less)) ∙ sym is ∙ fails)
