-- Path patterns that were read, and where they stop.
use Rattle.std.proofs.Common.{◌≡◌, ℕ, true, false, List, [], ◌∷◌, ◌++◌, map, None, refl, sym, ◌∙◌, ap, subst, arith, append-nil}
use Rattle.std.specs.Prelude.{Result, MatchResult, Vec}
use Rattle.std.specs.declared.alloc.Global.{Global}
use Rattle.std.proofs.lemmas.Result.{MatchResult-weaker}
use Rattle.sch_base.specs.declared.limits.TheConstants.{MAX_NESTING}
use Rattle.xp_tree.specs.declared.terms.Level.TheVariants as level
use Rattle.xp_tree.specs.declared.terms.Operator.{Operator}
use Rattle.xp_tree.specs.declared.terms.Operator.TheVariants as operator
use Rattle.xp_tree.specs.declared.pattern.Join.{Join}
use Rattle.xp_tree.specs.declared.pattern.Join.TheVariants as join
use Rattle.xp_tree.specs.declared.pattern.PathPattern.{PathPattern}
use Rattle.xp_tree.specs.declared.pattern.PatternStart.{PatternStart}
use Rattle.xp_tree.specs.declared.pattern.PatternStart.TheVariants as start
use Rattle.xp_tree.specs.declared.pattern.PatternStep.{PatternStep}
use Rattle.xp_tree.specs.PatternTree.{StepTree, pattern_step_of, path_pattern_of}
use Rattle.xp_grammar.specs.declared.token.Placed.{Placed}
use Rattle.xp_grammar.specs.declared.token.Token.{Token}
use Rattle.xp_grammar.specs.declared.token.Token.TheVariants as token
use Rattle.xp_grammar.specs.Parts.{offset_at, level_of}
use Rattle.xp_parse.specs.declared.stop.Stop.{Stop}
use Rattle.xp_parse.specs.inner.Places.{IsFirst, Took, IsOperatorOf, NoOperatorOf, is_step_token, is_at_step}
use Rattle.xp_parse.proofs.Failing.{took_shorter}
use Rattle.xp_grammar.specs.PatternGrammar.{path_tree, IsRelative, relative, IsPathPattern, root_alone, from_root, from_anywhere, from_here, from_id_key, IsPattern, pattern, IsMorePaths, no_more_paths, more_paths}
use Rattle.xp_grammar.specs.inner.PatternMachine.{Place, want_path, want_step, behind_root, behind_call, behind_step, first_place, step_turn, union_turn, pattern_load, pattern_halt}
use Rattle.xp_grammar.proofs.PatternDrives.{BeginsStep, path_begins, step_begins, root_begins, drive_step, drive_id_key, path_slash, path_double}
use Rattle.xp_parse.specs.inner.PatternReading.{FailsAt, IsStepPlace, IsEndedAt, StepsFound, MoreStepsFound, CallFound, PathFound, MorePathsFound, PatternFound, PathsReached}
use Rattle.xp_parse.proofs.PlaceFails.{fails_beyond, took_over, step_fails}
use Rattle.xp_parse.proofs.PathSteps.{first_none, map_snoc}

-- the tree of a path pattern by its parts
tree_is : (it : PathPattern) (o : ℕ) (b : PatternStart) (ss : List StepTree) → it.offset ≡ o → it.start ≡ b →
    map pattern_step_of it.steps.items ≡ ss → path_pattern_of it ≡ path_tree o b ss
tree_is it o b ss at begins are =
    ap (λ x. path_tree x it.start (map pattern_step_of it.steps.items)) at
    ∙ ap (λ x. path_tree o x (map pattern_step_of it.steps.items)) begins
    ∙ ap (path_tree o b) are

over_first : (s m : List Placed) → Took token.Slash s m → pattern_halt MAX_NESTING want_path s ≡ pattern_halt MAX_NESTING behind_root m
over_first s m t = ap (pattern_halt MAX_NESTING want_path) t.is ∙ path_slash MAX_NESTING t.placed m t.token

over_double_first : (s m : List Placed) → Took token.DoubleSlash s m → pattern_halt MAX_NESTING want_path s ≡ pattern_halt MAX_NESTING want_step m
over_double_first s m t = ap (pattern_halt MAX_NESTING want_path) t.is ∙ path_double MAX_NESTING t.placed m t.token

-- tokens with which no step begins
no_step : (t : Token) → is_step_token t ≡ false → step_turn t ≡ None
no_step token.Dot h = refl
no_step token.DoubleDot h = refl
no_step token.At h = absurd (cc)
no_step (token.Axis a) h = absurd (cc)
no_step token.Star h = absurd (cc)
no_step (token.PrefixStar p) h = absurd (cc)
no_step (token.Name n) h = absurd (cc)
no_step (token.NodeType t) h = absurd (cc)
no_step _ h = refl

ended_root : (s : List Placed) → is_at_step s ≡ false → IsEndedAt behind_root s
ended_root s none = record {
  ends = λ x. x;
  settled = λ p rest is.
      let no_it : is_step_token p.token ≡ false = sym (ap is_at_step is) ∙ none in
      ap (λ o. first_place o (union_turn p.token)) (no_step p.token no_it);
  union = refl;
}

pub root_found : (s m : List Placed) (it : PathPattern) → Took token.Slash s m → is_at_step m ≡ false → it.offset ≡ offset_at s →
    it.start ≡ start.Root → it.steps.items ≡ [] → PathFound MAX_NESTING s m it
root_found s m it t none at begins empty = record {
  derives =
      let seen : path_pattern_of it ≡ path_tree t.placed.offset start.Root [] =
      tree_is it t.placed.offset start.Root [] (at ∙ ap offset_at t.is) begins (ap (map pattern_step_of) empty) in
      subst (λ y. IsPathPattern MAX_NESTING s m y) (sym seen)
      (subst (λ l. IsPathPattern MAX_NESTING l m (path_tree t.placed.offset start.Root [])) (sym t.is) (root_alone t.placed m t.token));
  ending = behind_root;
  ended = ended_root m none;
  shorter = took_shorter token.Slash s m t;
  halts = over_first s m t;
}

-- steps where other tokens may stand
no_union_turn : (t : Token) → is_step_token t ≡ true → union_turn t ≡ None
no_union_turn (token.Operator o) h = absurd (cc)
no_union_turn _ h = refl

root_steps : (s : List Placed) → is_at_step s ≡ true → IsStepPlace behind_root s
root_steps s begins = record {
  at_end = λ none. let bad : false ≡ true = sym (ap is_at_step none) ∙ begins in absurd (cc);
  at_token = λ p rest is.
      let it : is_step_token p.token ≡ true = sym (ap is_at_step is) ∙ begins in
      ap (first_place (step_turn p.token)) (no_union_turn p.token it) ∙ first_none (step_turn p.token);
}

pub root_fails : (s m u : List Placed) (why : Stop) → Took token.Slash s m → is_at_step m ≡ true → FailsAt MAX_NESTING want_step m u why →
    FailsAt MAX_NESTING want_path s u why
root_fails s m u why t begins f =
    fails_beyond MAX_NESTING want_path behind_root s m u why (over_first s m t) (step_fails MAX_NESTING behind_root m u why (root_steps m begins) f)

pub anywhere_fails : (s m u : List Placed) (why : Stop) → Took token.DoubleSlash s m → FailsAt MAX_NESTING want_step m u why → FailsAt MAX_NESTING want_path s u why
anywhere_fails s m u why t f = fails_beyond MAX_NESTING want_path want_step s m u why (over_double_first s m t) f

-- where steps derive, they drive the machine alike
relative_alike : {j : Join} {s u : List Placed} {ss : List StepTree} → IsRelative MAX_NESTING j s u ss → (a : Place) → BeginsStep a →
    pattern_halt MAX_NESTING a s ≡ pattern_halt MAX_NESTING want_step s
relative_alike (relative j s m u it rest D T) a begins = drive_step MAX_NESTING D a begins ∙ sym (drive_step MAX_NESTING D want_step step_begins)

pub root_steps_found : (s m u : List Placed) (it : PathPattern) → Took token.Slash s m → it.offset ≡ offset_at s → it.start ≡ start.Root →
    StepsFound MAX_NESTING join.Slash m u it.steps.items → PathFound MAX_NESTING s u it
root_steps_found s m u it t at begins r = record {
  derives =
      let ss : List StepTree = map pattern_step_of it.steps.items in
      let seen : path_pattern_of it ≡ path_tree t.placed.offset start.Root ss =
      tree_is it t.placed.offset start.Root ss (at ∙ ap offset_at t.is) begins refl in
      subst (λ y. IsPathPattern MAX_NESTING s u y) (sym seen)
      (subst (λ l. IsPathPattern MAX_NESTING l u (path_tree t.placed.offset start.Root ss)) (sym t.is) (from_root t.placed m u ss t.token r.derives));
  ending = behind_step;
  ended = r.ended;
  shorter = let a = took_shorter token.Slash s m t in let b = r.shorter in omega (arith, a, b);
  halts = over_first s m t ∙ relative_alike r.derives behind_root root_begins ∙ r.halts;
}

pub anywhere_found : (s m u : List Placed) (it : PathPattern) → Took token.DoubleSlash s m → it.offset ≡ offset_at s → it.start ≡ start.Root →
    StepsFound MAX_NESTING join.DoubleSlash m u it.steps.items → PathFound MAX_NESTING s u it
anywhere_found s m u it t at begins r = record {
  derives =
      let ss : List StepTree = map pattern_step_of it.steps.items in
      let seen : path_pattern_of it ≡ path_tree t.placed.offset start.Root ss =
      tree_is it t.placed.offset start.Root ss (at ∙ ap offset_at t.is) begins refl in
      subst (λ y. IsPathPattern MAX_NESTING s u y) (sym seen)
      (subst (λ l. IsPathPattern MAX_NESTING l u (path_tree t.placed.offset start.Root ss)) (sym t.is) (from_anywhere t.placed m u ss t.token r.derives));
  ending = behind_step;
  ended = r.ended;
  shorter = let a = took_shorter token.DoubleSlash s m t in let b = r.shorter in omega (arith, a, b);
  halts = over_double_first s m t ∙ r.halts;
}

pub here_found : (s u : List Placed) (it : PathPattern) → it.offset ≡ offset_at s → it.start ≡ start.Here →
    StepsFound MAX_NESTING join.Nothing s u it.steps.items → PathFound MAX_NESTING s u it
here_found s u it at begins r = record {
  derives =
      let ss : List StepTree = map pattern_step_of it.steps.items in
      subst (λ y. IsPathPattern MAX_NESTING s u y) (sym (tree_is it (offset_at s) start.Here ss at begins refl)) (from_here s u ss r.derives);
  ending = behind_step;
  ended = r.ended;
  shorter = r.shorter;
  halts = relative_alike r.derives want_path path_begins ∙ r.halts;
}

pub call_fails : (s m u : List Placed) (b : PatternStart) (why : Stop) → CallFound MAX_NESTING s m b → FailsAt MAX_NESTING behind_call m u why → FailsAt MAX_NESTING want_path s u why
call_fails s m u b why r f = fails_beyond MAX_NESTING want_path behind_call s m u why (drive_id_key MAX_NESTING r.derives) f

pub call_path_found : (s m u : List Placed) (it : PathPattern) (none : List PatternStep) → CallFound MAX_NESTING s m it.start → it.offset ≡ offset_at s →
    none ≡ [] → MoreStepsFound MAX_NESTING behind_call none m u it.steps.items → PathFound MAX_NESTING s u it
call_path_found s m u it none r at empty x = record {
  derives =
      subst (λ y. IsPathPattern MAX_NESTING s u y)
      (sym (tree_is it (offset_at s) it.start x.steps at refl (x.are ∙ ap (λ l. map pattern_step_of l ++ x.steps) empty)))
      (from_id_key s m u it.start x.steps r.derives x.derives);
  ending = x.ending;
  ended = x.ended;
  shorter = let a = r.shorter in let b = x.shorter in omega (arith, a, b);
  halts = drive_id_key MAX_NESTING r.derives ∙ x.halts;
}

-- path patterns behind others
union_only : (o : Operator) → level_of o ≡ level.Union → o ≡ operator.Union
union_only operator.Union is = refl
union_only operator.Or is = absurd (cc)
union_only operator.And is = absurd (cc)
union_only operator.Equal is = absurd (cc)
union_only operator.NotEqual is = absurd (cc)
union_only operator.Less is = absurd (cc)
union_only operator.AtMost is = absurd (cc)
union_only operator.Greater is = absurd (cc)
union_only operator.AtLeast is = absurd (cc)
union_only operator.Plus is = absurd (cc)
union_only operator.Minus is = absurd (cc)
union_only operator.Times is = absurd (cc)
union_only operator.Div is = absurd (cc)
union_only operator.Mod is = absurd (cc)

pub union_first : (s : List Placed) (o : Operator) → IsOperatorOf level.Union o s → IsFirst (token.Operator operator.Union) s
union_first s o x = record {
  placed = x.first.placed;
  rest = x.first.rest;
  is = x.first.is;
  token = x.first.token ∙ ap token.Operator (union_only o x.level);
}

over_union : (a : Place) (s m : List Placed) → IsEndedAt a s → Took (token.Operator operator.Union) s m →
    pattern_halt MAX_NESTING a s ≡ pattern_halt MAX_NESTING want_path m
unfolding pattern_load
over_union a s m ended t = took_over MAX_NESTING a s m (token.Operator operator.Union) want_path t ended.union (omega arith)

pub paths_start : (a : Place) (s : List Placed) (found : List PathPattern) → IsEndedAt a s → PathsReached MAX_NESTING a found s s found
paths_start a s found ended = record {
  extends = λ v more D. record { paths = more; derives = D; are = refl };
  ending = a;
  ended = ended;
  shorter = omega arith;
  halts = refl;
}

pub paths_fail : (a : Place) (s here m u : List Placed) (first before : List PathPattern) (why : Stop) → PathsReached MAX_NESTING a first s here before →
    Took (token.Operator operator.Union) here m → FailsAt MAX_NESTING want_path m u why → FailsAt MAX_NESTING a s u why
paths_fail a s here m u first before why so t f =
    fails_beyond MAX_NESTING a want_path s m u why (so.halts ∙ over_union so.ending here m so.ended t) f

pub paths_more : (a : Place) (s here m v : List Placed) (first before all : List PathPattern) (it : PathPattern) → PathsReached MAX_NESTING a first s here before →
    Took (token.Operator operator.Union) here m → PathFound MAX_NESTING m v it → all ≡ before ++ it ∷ [] → PathsReached MAX_NESTING a first s v all
paths_more a s here m v first before all it so t r grown = record {
  extends = λ w more D.
      let one : IsMorePaths MAX_NESTING (t.placed ∷ m) w (path_pattern_of it ∷ more) =
      more_paths t.placed m w (path_pattern_of it ∷ more) t.token (pattern m v w (path_pattern_of it) more r.derives D) in
      let x = so.extends w (path_pattern_of it ∷ more) (subst (λ l. IsMorePaths MAX_NESTING l w (path_pattern_of it ∷ more)) (sym t.is) one) in
      record {
        paths = x.paths;
        derives = x.derives;
        are = ap (λ f. map path_pattern_of f ++ more) grown ∙ map_snoc path_pattern_of before it more ∙ x.are;
      };
  ending = r.ending;
  ended = r.ended;
  shorter = let x = so.shorter in let y = r.shorter in let z = took_shorter (token.Operator operator.Union) here m t in omega (arith, x, y, z);
  halts = so.halts ∙ over_union so.ending here m so.ended t ∙ r.halts;
}

pub paths_found : (a : Place) (s here : List Placed) (first all : List PathPattern) → PathsReached MAX_NESTING a first s here all →
    NoOperatorOf level.Union here → MorePathsFound MAX_NESTING a first s here all
paths_found a s here first all so none =
    let x = so.extends here [] (no_more_paths here) in
    record {
      paths = x.paths;
      derives = x.derives;
      are = sym (append-nil (map path_pattern_of all)) ∙ x.are;
      ending = so.ending;
      ended = so.ended;
      no_union = λ p rest is at. none p rest operator.Union is at refl;
      halts = so.halts;
    }

pub pattern_of_paths : (s m u : List Placed) (it : PathPattern) (none found : List PathPattern) (out : Result (Vec PathPattern Global) Stop) →
    (r : PathFound MAX_NESTING s m it) → none ≡ [] → found ≡ none ++ it ∷ [] →
    MatchResult out (λ all. MorePathsFound MAX_NESTING r.ending found m u all.items) (FailsAt MAX_NESTING r.ending m u) →
    MatchResult out (λ all. PatternFound MAX_NESTING s u all.items) (FailsAt MAX_NESTING want_path s u)
pattern_of_paths s m u it none found out r empty grown h =
    let one : found ≡ it ∷ [] = grown ∙ ap (λ l. l ++ it ∷ []) empty in
    MatchResult-weaker out h
    (λ all x. record {
      derives =
          subst (λ y. IsPattern MAX_NESTING s u y) (sym (x.are ∙ ap (λ l. map path_pattern_of l ++ x.paths) one))
          (pattern s m u (path_pattern_of it) x.paths r.derives x.derives);
      ending = x.ending;
      ended = x.ended;
      no_union = x.no_union;
      halts = r.halts ∙ x.halts;
    })
    (λ why f. fails_beyond MAX_NESTING want_path r.ending s m u why r.halts f)
