-- Steps of path patterns that were read, and where they stop.
use Rattle.std.proofs.Common.{◌≡◌, ℕ, ◌<◌, ◌≤◌, Bool, true, false, List, [], ◌∷◌, ◌++◌, length, map, Option, None, Some, refl, sym, ◌∙◌, ap, subst, arith, append-nil}
use Rattle.std.specs.Prelude.{Result, MatchResult, Vec}
use Rattle.std.specs.declared.alloc.Global.{Global}
use Rattle.std.proofs.lemmas.Result.{MatchResult-weaker}
use Rattle.sch_base.specs.declared.limits.TheConstants.{MAX_NESTING}
use Rattle.xp_tree.specs.Tree.{Tree, no_trees}
use Rattle.xp_tree.specs.declared.expr.Expr.{Expr}
use Rattle.xp_tree.specs.declared.terms.Level.TheVariants as level
use Rattle.xp_tree.specs.declared.terms.AxisName.{AxisName}
use Rattle.xp_tree.specs.declared.terms.AxisName.TheVariants as axis
use Rattle.xp_tree.specs.declared.terms.StepTest.{StepTest}
use Rattle.xp_tree.specs.declared.pattern.Join.{Join}
use Rattle.xp_tree.specs.declared.pattern.Join.TheVariants as join
use Rattle.xp_tree.specs.declared.pattern.PatternStep.{PatternStep}
use Rattle.xp_tree.specs.PatternTree.{StepTree, pattern_step_of}
use Rattle.xp_grammar.specs.declared.token.Placed.{Placed}
use Rattle.xp_grammar.specs.declared.token.Token.{Token}
use Rattle.xp_grammar.specs.declared.token.Token.TheVariants as token
use Rattle.xp_grammar.specs.Parts.{offset_at}
use Rattle.xp_grammar.specs.Grammar.{IsAxis, no_axis, at_sign, named_axis, IsTest, no_predicate}
use Rattle.xp_grammar.specs.inner.Machine.{Mode, want, need_test, type_open, type_inner, type_close, test_turn, turn}
use Rattle.xp_parse.specs.declared.stop.Stop.{Stop}
use Rattle.xp_parse.specs.declared.stop.Stop.TheVariants as stop
use Rattle.xp_parse.specs.inner.Places.{IsFirst, Took, Refused, NotAt}
use Rattle.xp_parse.specs.inner.Parsing.{EnclosedFails, too_deep, inside_fails, left_open, OperandFails, ChainRead, PredicatesSoFar, IsTestMode, TestStops, stops_here, stops_behind, TestFails}
use Rattle.xp_parse.proofs.Failing.{took_shorter, took_here, first_token, none_but_colons}
use Rattle.xp_parse.proofs.Paths.{fresh_start}
use Rattle.xp_grammar.specs.PatternGrammar.{pattern_axis, step_tree, IsStepPattern, step_pattern, IsRelative, relative, IsMoreSteps, no_more_steps, slash_steps, double_slash_steps}
use Rattle.xp_grammar.specs.inner.PatternMachine.{TestPart, colons, test, opened, inner, close, mode_of, Place, want_step, behind_step, in_test, inside, first_place, place_of, test_move, named_axis_turn, axis_turn, union_turn, slash_turn, bracket_turn, behind_turn, pattern_turn, pattern_load, pattern_halt}
use Rattle.xp_grammar.proofs.Runs.{step_over}
use Rattle.xp_grammar.proofs.PatternDrives.{test_begins, step_begins, drive_test, bracket_over, drive_predicates, drive_step, TakesSlash, slash_at_call, slash_at_step, over_slash, over_double}
use Rattle.xp_parse.specs.inner.PatternReading.{StuckAt, FailsAt, IsClosedAt, closed_call, closed_step, IsEndedAt, TestedFound, StepFound, StepsFound, TookJoin, NoJoin, MoreStepsFound, StepsReached}
use Rattle.xp_parse.proofs.PlaceFails.{stuck_beyond, fails_beyond, took_over, first_at, refused_at, Alike, alike_fails}
use Rattle.xp_parse.proofs.Insides.{inside_stuck, inside_unclosed}

-- predicates
over_predicates : (s here : List Placed) (found : List Expr) → PredicatesSoFar MAX_NESTING 0 s here found →
    pattern_halt MAX_NESTING behind_step s ≡ pattern_halt MAX_NESTING behind_step here
over_predicates s here found so = drive_predicates MAX_NESTING (so.extends here no_trees (no_predicate 0 here)) refl

into_predicate : (s here m : List Placed) (found : List Expr) → PredicatesSoFar MAX_NESTING 0 s here found → Took token.OpenBracket here m →
    pattern_halt MAX_NESTING behind_step s ≡ pattern_halt MAX_NESTING (inside (want true 0 false) []) m
into_predicate s here m found so t =
    over_predicates s here found so ∙ ap (pattern_halt MAX_NESTING behind_step) t.is ∙ bracket_over MAX_NESTING t.placed m (omega arith) t.token

predicate_fails : (s here m u : List Placed) (found : List Expr) (why : Stop) → PredicatesSoFar MAX_NESTING 0 s here found →
    Took token.OpenBracket here m → OperandFails MAX_NESTING level.Or 1 m u why → FailsAt MAX_NESTING behind_step s u why
predicate_fails s here m u found why so t f = record {
  stuck = λ nm.
      stuck_beyond MAX_NESTING behind_step (inside (want true 0 false) []) s m u why (into_predicate s here m found so t)
      (inside_stuck 63 (want true 0 false) m u why nm
      (λ k one. (f.from true 0 false (fresh_start level.Or m (λ x. tt))).stuck nm k one));
}

predicate_unclosed : (s here m v u : List Placed) (found : List Expr) (x : Tree) (why : Stop) → PredicatesSoFar MAX_NESTING 0 s here found →
    Took token.OpenBracket here m → ChainRead MAX_NESTING level.Or 1 m v x → Refused token.CloseBracket v u why → FailsAt MAX_NESTING behind_step s u why
predicate_unclosed s here m v u found x why so t r q = record {
  stuck = λ _.
      let there : StuckAt MAX_NESTING behind_step s v stop.Unexpected =
      stuck_beyond MAX_NESTING behind_step (inside (want true 0 false) []) s m v stop.Unexpected (into_predicate s here m found so t)
      (inside_unclosed 63 m v x r q.not_at) in
      subst (λ w. StuckAt MAX_NESTING behind_step s u w) (sym q.why_is) (subst (λ y. StuckAt MAX_NESTING behind_step s y stop.Unexpected) (sym q.kept) there);
}

pub predicates_stop : (s here u : List Placed) (found : List Expr) (why : Stop) → PredicatesSoFar MAX_NESTING 0 s here found →
    IsFirst token.OpenBracket here → EnclosedFails MAX_NESTING 0 token.CloseBracket here u why → FailsAt MAX_NESTING behind_step s u why
predicates_stop s here u found why so f (too_deep over kept is) = absurd (omega (arith, over))
predicates_stop s here u found why so f (inside_fails p m is room x) =
    predicate_fails s here m u found why so (took_here token.OpenBracket here p m f is) x
predicates_stop s here u found why so f (left_open p m v e is room r q) =
    predicate_unclosed s here m v u found e why so (took_here token.OpenBracket here p m f is) r q

-- node tests
part_of : (m : Mode) → IsTestMode m → (part : TestPart) × (mode_of part ≡ m)
part_of need_test is = (test, refl)
part_of (type_open t) is = (opened t, refl)
part_of (type_inner t) is = (inner t, refl)
part_of type_close is = (close, refl)
part_of _ is = absurd is

place_of_part : (part : TestPart) → place_of (mode_of part) ≡ in_test part
place_of_part colons = refl
place_of_part test = refl
place_of_part (opened t) = refl
place_of_part (inner t) = refl
place_of_part close = refl

stopped_mode : (m : Mode) (s u : List Placed) → TestStops m s u → IsTestMode m
stopped_mode _ _ _ (stops_here m u is none) = is
stopped_mode _ _ _ (stops_behind m m' p s u is turns more) = is

part_stops : (m : Mode) (s u : List Placed) → TestStops m s u → (part : TestPart) → mode_of part ≡ m → StuckAt MAX_NESTING (in_test part) s u stop.Unexpected
unfolding pattern_load
part_stops _ _ _ (stops_here m u is none) part same = record {
  place = in_test part;
  reaches = refl;
  cause = record {
    at_end = λ _. tt;
    at_token = λ p rest e. ap (λ y. test_move (turn y [] p.token)) same ∙ ap test_move ((none []).at_token p rest e);
  };
}
part_stops _ _ _ (stops_behind m m' p s u is turns more) part same =
    let (next, there) = part_of m' (stopped_mode m' s u more) in
    let leads : pattern_turn (in_test part) p.token ≡ Some (in_test next) =
    ap (λ y. test_move (turn y [] p.token)) same ∙ ap test_move (turns [])
    ∙ ap (λ y. Some (place_of y)) (sym there) ∙ ap Some (place_of_part next) in
    stuck_beyond MAX_NESTING (in_test part) (in_test next) (p ∷ s) s u stop.Unexpected
    (step_over MAX_NESTING (in_test part) p s (in_test next) p.token refl leads (omega arith))
    (part_stops m' s u more next there)

pub test_fails : (s u : List Placed) (why : Stop) → TestFails need_test s u why → FailsAt MAX_NESTING (in_test test) s u why
test_fails s u why x = record {
  stuck = λ nm.
      let y = x.stops nm in
      subst (λ w. StuckAt MAX_NESTING (in_test test) s u w) (sym y.0) (part_stops need_test s u y.1 test refl);
}

pub behind_test_fails : (s m u : List Placed) (it : StepTest) (why : Stop) → IsTest s m it → FailsAt MAX_NESTING behind_step m u why → FailsAt MAX_NESTING (in_test test) s u why
behind_test_fails s m u it why D f = fails_beyond MAX_NESTING (in_test test) behind_step s m u why (drive_test MAX_NESTING D (in_test test) test_begins) f

-- a node test behind its axis, as a step
step_of_test : (j : Join) (offset : ℕ) (is_attribute : Bool) (x : AxisName) (s t u : List Placed) (it : PatternStep) → IsAxis s t x →
    pattern_axis x ≡ Some is_attribute → length t ≤ length s → offset ≡ offset_at s → TestedFound MAX_NESTING j offset is_attribute t u it → StepFound MAX_NESTING j s u it
step_of_test j offset is_attribute x s t u it A known le at r = record {
  derives =
      let seen : pattern_step_of it ≡ step_tree j (offset_at s) is_attribute r.test (offset_at t) r.predicates =
      r.is ∙ ap (λ o. step_tree j o is_attribute r.test (offset_at t) r.predicates) at in
      subst (λ y. IsStepPattern MAX_NESTING j s u y) (sym seen) (step_pattern j s t r.behind u x is_attribute r.test r.predicates A known r.tests r.derives);
  closed = r.closed;
  shorter = let y = r.shorter in omega (arith, y, le);
}

step_result : (j : Join) (offset : ℕ) (is_attribute : Bool) (x : AxisName) (s t u : List Placed) (out : Result PatternStep Stop) → IsAxis s t x →
    pattern_axis x ≡ Some is_attribute → length t ≤ length s → offset ≡ offset_at s →
    ((why : Stop) → FailsAt MAX_NESTING (in_test test) t u why → FailsAt MAX_NESTING want_step s u why) →
    MatchResult out (TestedFound MAX_NESTING j offset is_attribute t u) (FailsAt MAX_NESTING (in_test test) t u) →
    MatchResult out (StepFound MAX_NESTING j s u) (FailsAt MAX_NESTING want_step s u)
step_result j offset is_attribute x s t u out A known le at fails h =
    MatchResult-weaker out h (λ it r. step_of_test j offset is_attribute x s t u it A known le at r) (λ why f. fails why f)

pub at_step : (j : Join) (offset : ℕ) (s t u : List Placed) (out : Result PatternStep Stop) → Took token.At s t → offset ≡ offset_at s →
    MatchResult out (TestedFound MAX_NESTING j offset true t u) (FailsAt MAX_NESTING (in_test test) t u) →
    MatchResult out (StepFound MAX_NESTING j s u) (FailsAt MAX_NESTING want_step s u)
unfolding pattern_load
at_step j offset s t u out o at h =
    step_result j offset true axis.Attribute s t u out (subst (λ l. IsAxis l t axis.Attribute) (sym o.is) (at_sign o.placed t o.token)) refl
    (let x = took_shorter token.At s t o in omega (arith, x)) at
    (λ why f. fails_beyond MAX_NESTING want_step (in_test test) s t u why (took_over MAX_NESTING want_step s t token.At (in_test test) o refl (omega arith)) f) h

over_axis : (x : AxisName) (is_attribute : Bool) (s m : List Placed) → Took (token.Axis x) s m → pattern_axis x ≡ Some is_attribute →
    pattern_halt MAX_NESTING want_step s ≡ pattern_halt MAX_NESTING (in_test colons) m
unfolding pattern_load
over_axis x is_attribute s m o known = took_over MAX_NESTING want_step s m (token.Axis x) (in_test colons) o (ap named_axis_turn known) (omega arith)

over_colons : (s m : List Placed) → Took token.DoubleColon s m → pattern_halt MAX_NESTING (in_test colons) s ≡ pattern_halt MAX_NESTING (in_test test) m
unfolding pattern_load
over_colons s m o = took_over MAX_NESTING (in_test colons) s m token.DoubleColon (in_test test) o refl (omega arith)

pub axis_step : (j : Join) (offset : ℕ) (is_attribute : Bool) (x : AxisName) (s m t u : List Placed) (out : Result PatternStep Stop) →
    Took (token.Axis x) s m → pattern_axis x ≡ Some is_attribute → Took token.DoubleColon m t → offset ≡ offset_at s →
    MatchResult out (TestedFound MAX_NESTING j offset is_attribute t u) (FailsAt MAX_NESTING (in_test test) t u) →
    MatchResult out (StepFound MAX_NESTING j s u) (FailsAt MAX_NESTING want_step s u)
axis_step j offset is_attribute x s m t u out o known q at h =
    step_result j offset is_attribute x s t u out
    (subst (λ l. IsAxis l t x) (sym (o.is ∙ ap (λ l. o.placed ∷ l) q.is)) (named_axis o.placed q.placed t x o.token q.token)) known
    (let a = took_shorter (token.Axis x) s m o in let b = took_shorter token.DoubleColon m t q in omega (arith, a, b)) at
    (λ why f. fails_beyond MAX_NESTING want_step (in_test test) s t u why (over_axis x is_attribute s m o known ∙ over_colons m t q) f) h

pub axis_refused : (x : AxisName) (s : List Placed) → IsFirst (token.Axis x) s → None ≡ pattern_axis x → FailsAt MAX_NESTING want_step s s stop.Unexpected
axis_refused x s f none = first_at MAX_NESTING want_step s (token.Axis x) f (ap named_axis_turn (sym none))

pub axis_no_colons : (x : AxisName) (is_attribute : Bool) (s m u : List Placed) (why : Stop) → Took (token.Axis x) s m →
    pattern_axis x ≡ Some is_attribute → Refused token.DoubleColon m u why → FailsAt MAX_NESTING want_step s u why
axis_no_colons x is_attribute s m u why o known r =
    fails_beyond MAX_NESTING want_step (in_test colons) s m u why (over_axis x is_attribute s m o known)
    (refused_at MAX_NESTING (in_test colons) m u token.DoubleColon why r tt (λ y differs. ap test_move (none_but_colons [] y differs)))

no_axis_turn : (t : Token) → (t ≡ token.At → ⊥) → ((x : AxisName) → t ≡ token.Axis x → ⊥) → axis_turn t ≡ None
no_axis_turn token.At a b = absurd (a refl)
no_axis_turn (token.Axis x) a b = absurd (b x refl)
no_axis_turn _ a b = refl

pub first_none : (a : Option Place) → first_place a None ≡ a
first_none None = refl
first_none (Some a) = refl

child_alike : (s : List Placed) (t : Token) → IsFirst t s → (t ≡ token.At → ⊥) → ((x : AxisName) → t ≡ token.Axis x → ⊥) →
    Alike want_step (in_test test) s
child_alike s t f no_at no_axis_here = record {
  at_end = λ _. tt;
  at_token = λ p rest is.
      let token_is : p.token ≡ t = first_token t s f p rest is in
      let none : axis_turn p.token ≡ None = ap axis_turn token_is ∙ no_axis_turn t no_at no_axis_here in
      ap (first_place (test_move (test_turn [] p.token))) none ∙ first_none (test_move (test_turn [] p.token));
}

pub child_step : (j : Join) (offset : ℕ) (s u : List Placed) (t : Token) (out : Result PatternStep Stop) → IsFirst t s → (t ≡ token.At → ⊥) →
    ((x : AxisName) → t ≡ token.Axis x → ⊥) → offset ≡ offset_at s →
    MatchResult out (TestedFound MAX_NESTING j offset false s u) (FailsAt MAX_NESTING (in_test test) s u) →
    MatchResult out (StepFound MAX_NESTING j s u) (FailsAt MAX_NESTING want_step s u)
child_step j offset s u t out f no_at no_axis_here at h =
    step_result j offset false axis.Child s s u out (no_axis s) refl (omega arith) at
    (λ why x. alike_fails MAX_NESTING want_step (in_test test) s u why (child_alike s t f no_at no_axis_here) x) h

-- steps behind others
takes_of : (a : Place) (s : List Placed) → IsClosedAt a s → TakesSlash a
takes_of _ _ (closed_call s) = slash_at_call
takes_of _ _ (closed_step s closed) = slash_at_step

over_join : (a : Place) (j : Join) (here m : List Placed) → IsClosedAt a here → TookJoin j here m → pattern_halt MAX_NESTING a here ≡ pattern_halt MAX_NESTING want_step m
over_join a join.Slash here m closed t = ap (pattern_halt MAX_NESTING a) t.is ∙ over_slash MAX_NESTING a t.placed m (takes_of a here closed) t.token
over_join a join.DoubleSlash here m closed t = ap (pattern_halt MAX_NESTING a) t.is ∙ over_double MAX_NESTING a t.placed m (takes_of a here closed) t.token
over_join a join.Nothing here m closed t = absurd t

pub join_shorter : (j : Join) (s m : List Placed) → TookJoin j s m → length m < length s
join_shorter join.Slash s m t = took_shorter token.Slash s m t
join_shorter join.DoubleSlash s m t = took_shorter token.DoubleSlash s m t
join_shorter join.Nothing s m t = absurd t

pub steps_start : (a : Place) (s : List Placed) (found : List PatternStep) → IsClosedAt a s → StepsReached MAX_NESTING a found s s found
steps_start a s found closed = record {
  extends = λ v more D. record { steps = more; derives = D; are = refl };
  ending = a;
  closed = closed;
  at_step = λ e. e;
  shorter = omega arith;
  halts = refl;
}

pub steps_fail : (a : Place) (s here m u : List Placed) (first before : List PatternStep) (j : Join) (why : Stop) →
    StepsReached MAX_NESTING a first s here before → TookJoin j here m → FailsAt MAX_NESTING want_step m u why → FailsAt MAX_NESTING a s u why
steps_fail a s here m u first before j why so t f =
    fails_beyond MAX_NESTING a want_step s m u why (so.halts ∙ over_join so.ending j here m so.closed t) f

pub map_snoc : {A B : Type 0} (f : A → B) (xs : List A) (x : A) (ys : List B) → map f (xs ++ x ∷ []) ++ ys ≡ map f xs ++ f x ∷ ys
map_snoc f [] x ys = refl
map_snoc f (z ∷ zs) x ys = ap (λ t. f z ∷ t) (map_snoc f zs x ys)

joined : (j : Join) (here m w : List Placed) (ss : List StepTree) → TookJoin j here m → IsRelative MAX_NESTING j m w ss → IsMoreSteps MAX_NESTING here w ss
joined join.Slash here m w ss t D = subst (λ l. IsMoreSteps MAX_NESTING l w ss) (sym t.is) (slash_steps t.placed m w ss t.token D)
joined join.DoubleSlash here m w ss t D = subst (λ l. IsMoreSteps MAX_NESTING l w ss) (sym t.is) (double_slash_steps t.placed m w ss t.token D)
joined join.Nothing here m w ss t D = absurd t

pub steps_more : (a : Place) (s here m v : List Placed) (first before all : List PatternStep) (j : Join) (it : PatternStep) →
    StepsReached MAX_NESTING a first s here before → TookJoin j here m → StepFound MAX_NESTING j m v it → all ≡ before ++ it ∷ [] → StepsReached MAX_NESTING a first s v all
steps_more a s here m v first before all j it so t r grown = record {
  extends = λ w more D.
      let x = so.extends w (pattern_step_of it ∷ more) (joined j here m w (pattern_step_of it ∷ more) t (relative j m v w (pattern_step_of it) more r.derives D)) in
      record {
        steps = x.steps;
        derives = x.derives;
        are = ap (λ f. map pattern_step_of f ++ more) grown ∙ map_snoc pattern_step_of before it more ∙ x.are;
      };
  ending = behind_step;
  closed = closed_step v r.closed;
  at_step = λ _. refl;
  shorter = let x = so.shorter in let y = r.shorter in let z = join_shorter j here m t in omega (arith, x, y, z);
  halts = so.halts ∙ over_join so.ending j here m so.closed t ∙ drive_step MAX_NESTING r.derives want_step step_begins;
}

no_slash : (t : Token) → (t ≡ token.Slash → ⊥) → (t ≡ token.DoubleSlash → ⊥) → slash_turn t ≡ None
no_slash token.Slash a b = absurd (a refl)
no_slash token.DoubleSlash a b = absurd (b refl)
no_slash _ a b = refl

no_bracket : (t : Token) → (t ≡ token.OpenBracket → ⊥) → bracket_turn t ≡ None
no_bracket token.OpenBracket a = absurd (a refl)
no_bracket _ a = refl

ended_steps : (a : Place) (s : List Placed) → IsClosedAt a s → NotAt token.Slash s → NotAt token.DoubleSlash s → IsEndedAt a s
ended_steps _ _ (closed_call s) a b = record {
  ends = λ x. x;
  settled = λ p rest is. ap (λ o. first_place o (union_turn p.token)) (no_slash p.token (a p rest is) (b p rest is));
  union = refl;
}
ended_steps _ _ (closed_step s closed) a b = record {
  ends = λ x. x;
  settled = λ p rest is.
      ap (λ o. first_place o (behind_turn p.token)) (no_bracket p.token (closed p rest is))
      ∙ ap (λ o. first_place o (union_turn p.token)) (no_slash p.token (a p rest is) (b p rest is));
  union = refl;
}

pub steps_found : (a : Place) (s here u : List Placed) (first all : List PatternStep) → StepsReached MAX_NESTING a first s here all → NoJoin here u →
    MoreStepsFound MAX_NESTING a first s u all
steps_found a s here u first all so t =
    let x = so.extends here [] (no_more_steps here) in
    subst (λ v. MoreStepsFound MAX_NESTING a first s v all) (sym t.kept) (record {
      steps = x.steps;
      derives = x.derives;
      are = sym (append-nil (map pattern_step_of all)) ∙ x.are;
      ending = so.ending;
      ended = ended_steps so.ending here so.closed t.no_slash t.no_double_slash;
      at_step = so.at_step;
      shorter = so.shorter;
      halts = so.halts;
    })

pub steps_of_more : (j : Join) (s m u : List Placed) (it : PatternStep) (none found : List PatternStep) (out : Result (Vec PatternStep Global) Stop) →
    StepFound MAX_NESTING j s m it → none ≡ [] → found ≡ none ++ it ∷ [] →
    MatchResult out (λ all. MoreStepsFound MAX_NESTING behind_step found m u all.items) (FailsAt MAX_NESTING behind_step m u) →
    MatchResult out (λ all. StepsFound MAX_NESTING j s u all.items) (FailsAt MAX_NESTING want_step s u)
steps_of_more j s m u it none found out r empty grown h =
    let over : pattern_halt MAX_NESTING want_step s ≡ pattern_halt MAX_NESTING behind_step m = drive_step MAX_NESTING r.derives want_step step_begins in
    let one : found ≡ it ∷ [] = grown ∙ ap (λ l. l ++ it ∷ []) empty in
    MatchResult-weaker out h
    (λ all x. record {
      derives =
          subst (λ y. IsRelative MAX_NESTING j s u y) (sym (x.are ∙ ap (λ l. map pattern_step_of l ++ x.steps) one))
          (relative j s m u (pattern_step_of it) x.steps r.derives x.derives);
      ended = subst (λ b. IsEndedAt b u) (x.at_step refl) x.ended;
      shorter = let y = r.shorter in let z = x.shorter in omega (arith, y, z);
      halts = over ∙ x.halts ∙ ap (λ b. pattern_halt MAX_NESTING b u) (x.at_step refl);
    })
    (λ why f. fails_beyond MAX_NESTING want_step behind_step s m u why over f)
