-- Paths and steps that were read, and where they stop.
use Rattle.std.proofs.Common.{◌≡◌, ℕ, suc, ◌<◌, ◌≤◌, ◌⊎◌, Bool, true, false, List, [], ◌∷◌, ◌++◌, length, None, refl, sym, ◌∙◌, ap, subst, inl, inr, arith}
use Rattle.std.specs.Prelude.{Result, MatchResult, Vec}
use Rattle.std.specs.declared.alloc.Global.{Global}
use Rattle.std.proofs.lemmas.Result.{MatchResult-weaker}
use Rattle.xp_tree.specs.declared.terms.Level.{Level}
use Rattle.xp_tree.specs.declared.terms.Level.TheVariants as level
use Rattle.xp_tree.specs.declared.terms.Operator.{Operator}
use Rattle.xp_tree.specs.declared.terms.AxisName.{AxisName}
use Rattle.xp_tree.specs.declared.terms.AxisName.TheVariants as axis
use Rattle.xp_tree.specs.declared.terms.StepTest.{StepTest}
use Rattle.xp_tree.specs.declared.terms.StepTest.TheVariants as test
use Rattle.xp_tree.specs.declared.expr.Expr.{Expr}
use Rattle.xp_tree.specs.declared.expr.Step.{Step}
use Rattle.xp_tree.specs.Tree as trees
use Rattle.xp_tree.specs.Tree.{Tree, Steps, Trees, path, filtered, root, no_steps, step, no_trees, tree}
use Rattle.xp_tree.specs.View.{tree_of, step_of, steps_seen, trees_seen}
use Rattle.xp_grammar.specs.declared.token.Placed.{Placed}
use Rattle.xp_grammar.specs.declared.token.Token.{Token}
use Rattle.xp_grammar.specs.declared.token.NodeType.{NodeType}
use Rattle.xp_grammar.specs.declared.token.Token.TheVariants as token
use Rattle.xp_grammar.specs.Parts.{offset_at, level_of, with_steps, with_predicates, everywhere}
use Rattle.xp_grammar.specs.Grammar.{IsAxis, no_axis, at_sign, named_axis, IsTest, IsChain, IsPath, root_alone, from_root, from_anywhere, from_here, from_filter, IsSteps, dot_step, parent_step, tested_step, IsMoreSteps, no_more_steps, slash_steps, double_slash_steps, IsPredicates, no_predicate, predicate, IsFilter, filter}
use Rattle.xp_grammar.specs.inner.Machine.{Bracket, in_predicate, Ending, full, bare, at_root, Mode, want, need_step, need_test, need_colons, type_open, after, Move, turn, end_turn, step_turn, slash_turn, predicate_turn, first_of_two, load, halt, IsPending}
use Rattle.xp_grammar.proofs.Steps.{step_on, TakesTests, TakesSteps, test_takes, root_takes, want_takes}
use Rattle.xp_grammar.proofs.Drives.{drive_test, drive_predicates, drive_filter, drive_primary, plus_zero}
use Rattle.xp_parse.specs.declared.stop.Stop.{Stop}
use Rattle.xp_parse.specs.declared.stop.Stop.TheVariants as stop
use Rattle.xp_parse.specs.inner.Places.{IsFirst, Took, Refused, NotAt, is_step_token, is_at_step, is_slash, is_at_slash}
use Rattle.xp_parse.specs.inner.Parsing.{EnclosedRead, EnclosedFails, too_deep, inside_fails, left_open, rank, Quiet, Settled, Stuck, Fails, FreshSign, Fresh, OperandFails, ChainRead, PathRead, steps_onto, StepsRead, IsClosed, MoreStepsRead, StepRead, TestedRead, PredicatesRead, PrimaryRead, FilterRead, TookNone, Leads, StepsSoFar, trees_onto, PredicatesSoFar}
use Rattle.xp_parse.proofs.Failing.{took_shorter, took_here, took_on, stuck_after, stuck_over, stuck_not_at, none_but_colons}
use Rattle.xp_parse.proofs.Chains.{fails_after}

-- every operator is looser than a path
rank_small : (n : Level) → rank n < 7
rank_small level.Or = omega arith
rank_small level.And = omega arith
rank_small level.Equal = omega arith
rank_small level.Rel = omega arith
rank_small level.Sum = omega arith
rank_small level.Prod = omega arith
rank_small level.Union = omega arith

pub all_quiet : (s : List Placed) → Quiet 7 s
all_quiet s p rest o is at = rank_small (level_of o)

-- tokens with which no step begins
pub no_step_turn : (k : List Bracket) (t : Token) → is_step_token t ≡ false → step_turn k t ≡ None
no_step_turn k token.Dot h = absurd (cc)
no_step_turn k token.DoubleDot h = absurd (cc)
no_step_turn k token.At h = absurd (cc)
no_step_turn k (token.Axis a) h = absurd (cc)
no_step_turn k token.Star h = absurd (cc)
no_step_turn k (token.PrefixStar p) h = absurd (cc)
no_step_turn k (token.Name n) h = absurd (cc)
no_step_turn k (token.NodeType t) h = absurd (cc)
no_step_turn k _ h = refl

pub settled_root : (s : List Placed) → is_at_step s ≡ false → Settled at_root s
settled_root s none p rest is k =
    let no_it : is_step_token p.token ≡ false = sym (ap is_at_step is) ∙ none in
    ap (λ o. first_of_two o (end_turn k p.token)) (no_step_turn k p.token no_it)

-- a step begins alike in each mode that takes steps
same_at : (limit : ℕ) (m : Mode) → TakesSteps m → (k : List Bracket) (p : Placed) (s : List Placed) (t : Token) →
    p.token ≡ t → is_step_token t ≡ true → length k ≤ limit → halt limit m k (p ∷ s) ≡ halt limit need_step k (p ∷ s)
unfolding load
same_at limit m takes k p s token.Dot is yes_it room =
    let mv : Move = record { mode = after bare; stack = k } in
    step_on limit m k p s mv token.Dot is (takes.dot k) room ∙ sym (step_on limit need_step k p s mv token.Dot is refl room)
same_at limit m takes k p s token.DoubleDot is yes_it room =
    let mv : Move = record { mode = after bare; stack = k } in
    step_on limit m k p s mv token.DoubleDot is (takes.parent k) room ∙ sym (step_on limit need_step k p s mv token.DoubleDot is refl room)
same_at limit m takes k p s token.At is yes_it room =
    let mv : Move = record { mode = need_test; stack = k } in
    step_on limit m k p s mv token.At is (takes.at_sign k) room ∙ sym (step_on limit need_step k p s mv token.At is refl room)
same_at limit m takes k p s (token.Axis a) is yes_it room =
    let mv : Move = record { mode = need_colons; stack = k } in
    step_on limit m k p s mv (token.Axis a) is (takes.axis k a) room ∙ sym (step_on limit need_step k p s mv (token.Axis a) is refl room)
same_at limit m takes k p s token.Star is yes_it room =
    let mv : Move = record { mode = after full; stack = k } in
    step_on limit m k p s mv token.Star is (takes.tests.star k) room ∙ sym (step_on limit need_step k p s mv token.Star is refl room)
same_at limit m takes k p s (token.PrefixStar x) is yes_it room =
    let mv : Move = record { mode = after full; stack = k } in
    step_on limit m k p s mv (token.PrefixStar x) is (takes.tests.prefix k x) room ∙ sym (step_on limit need_step k p s mv (token.PrefixStar x) is refl room)
same_at limit m takes k p s (token.Name x) is yes_it room =
    let mv : Move = record { mode = after full; stack = k } in
    step_on limit m k p s mv (token.Name x) is (takes.tests.name k x) room ∙ sym (step_on limit need_step k p s mv (token.Name x) is refl room)
same_at limit m takes k p s (token.NodeType x) is yes_it room =
    let mv : Move = record { mode = type_open x; stack = k } in
    step_on limit m k p s mv (token.NodeType x) is (takes.tests.node k x) room ∙ sym (step_on limit need_step k p s mv (token.NodeType x) is refl room)
same_at limit m takes k p s _ is yes_it room = absurd (cc)

pub as_step : (limit : ℕ) (m : Mode) → TakesSteps m → (k : List Bracket) (s : List Placed) → is_at_step s ≡ true → length k ≤ limit →
    halt limit m k s ≡ halt limit need_step k s
as_step limit m takes k [] yes_it room = absurd (cc)
as_step limit m takes k (p ∷ s) yes_it room = same_at limit m takes k p s p.token refl yes_it room

-- a path that is `/` alone
over_slash : (limit : ℕ) (b : Bool) (j : ℕ) (c : Bool) (k : List Bracket) (s u : List Placed) → Took token.Slash s u → length k ≤ limit →
    halt limit (want b j c) k s ≡ halt limit (after at_root) k u
unfolding load
over_slash limit b j c k s u t room = took_on limit (want b j c) k s u token.Slash (record { mode = after at_root; stack = k }) t refl room

over_double : (limit : ℕ) (b : Bool) (j : ℕ) (c : Bool) (k : List Bracket) (s u : List Placed) → Took token.DoubleSlash s u → length k ≤ limit →
    halt limit (want b j c) k s ≡ halt limit need_step k u
unfolding load
over_double limit b j c k s u t room = took_on limit (want b j c) k s u token.DoubleSlash (record { mode = need_step; stack = k }) t refl room

pub placed_at : (t : Token) (s u : List Placed) (r : Took t s u) (offset : ℕ) → offset ≡ offset_at s → offset ≡ r.placed.offset
placed_at t s u r offset at = at ∙ ap offset_at r.is

pub root_read : (limit d offset : ℕ) (s u : List Placed) (e : Tree) (steps : List Step) → d ≤ limit → Took token.Slash s u →
    is_at_step u ≡ false → offset ≡ offset_at s → steps ≡ [] → e ≡ path offset root (steps_seen steps) → PathRead limit d s u e
root_read limit d offset s u e steps room t none at empty is =
    let seen : e ≡ path t.placed.offset root no_steps =
    is ∙ ap (λ ss. path offset root (steps_seen ss)) empty ∙ ap (λ o. path o root no_steps) (placed_at token.Slash s u t offset at) in
    record {
      derives = subst (λ y. IsPath limit d s u y) (sym seen)
          (subst (λ l. IsPath limit d l u (path t.placed.offset root no_steps)) (sym t.is) (root_alone d t.placed u t.token));
      reads = record {
        ending = at_root;
        settled = settled_root u none;
        quiet = all_quiet u;
        shorter = took_shorter token.Slash s u t;
        halts = λ b j c k deep. over_slash limit b j c k s u t (omega (arith, room, deep));
      };
    }

pub root_fails : (limit d : ℕ) (s m u : List Placed) (why : Stop) → d ≤ limit → Took token.Slash s m → is_at_step m ≡ true →
    Fails limit need_step d m u why → OperandFails limit level.Union d s u why
root_fails limit d s m u why room t at f = record {
  from = λ b j c fresh.
      fails_after limit (want b j c) need_step d s m u why
      (λ k deep. over_slash limit b j c k s m t (omega (arith, room, deep)) ∙ as_step limit (after at_root) root_takes k m at (omega (arith, room, deep))) f;
}

pub root_steps_read : (limit d offset : ℕ) (s m u : List Placed) (e : Tree) (before all : List Step) → d ≤ limit → Took token.Slash s m →
    is_at_step m ≡ true → offset ≡ offset_at s → before ≡ [] → (r : StepsRead limit d before m u all) →
    e ≡ path offset root (steps_seen all) → PathRead limit d s u e
root_steps_read limit d offset s m u e before all room t at_step at empty r is =
    let seen : e ≡ path t.placed.offset root r.steps =
    is ∙ ap (path offset root) (r.are ∙ ap (λ ss. steps_onto ss r.steps) empty) ∙ ap (λ o. path o root r.steps) (placed_at token.Slash s m t offset at) in
    record {
      derives = subst (λ y. IsPath limit d s u y) (sym seen)
          (subst (λ l. IsPath limit d l u (path t.placed.offset root r.steps)) (sym t.is) (from_root d t.placed m u r.steps t.token r.derives));
      reads = record {
        ending = r.ending;
        settled = r.settled;
        quiet = all_quiet u;
        shorter = let a = took_shorter token.Slash s m t in let b = r.shorter in omega (arith, a, b);
        halts = λ b j c k deep. over_slash limit b j c k s m t (omega (arith, room, deep))
            ∙ as_step limit (after at_root) root_takes k m at_step (omega (arith, room, deep)) ∙ r.halts k deep;
      };
    }

pub anywhere_fails : (limit d : ℕ) (s m u : List Placed) (why : Stop) → d ≤ limit → Took token.DoubleSlash s m →
    Fails limit need_step d m u why → OperandFails limit level.Union d s u why
anywhere_fails limit d s m u why room t f = record {
  from = λ b j c fresh.
      fails_after limit (want b j c) need_step d s m u why (λ k deep. over_double limit b j c k s m t (omega (arith, room, deep))) f;
}

pub anywhere_read : (limit d offset : ℕ) (s m u : List Placed) (e : Tree) (before all : List Step) (it : Step) → d ≤ limit → Took token.DoubleSlash s m →
    offset ≡ offset_at s → before ≡ it ∷ [] → ((rest : Steps) → step_of it rest ≡ everywhere offset rest) →
    (r : StepsRead limit d before m u all) → e ≡ path offset root (steps_seen all) → PathRead limit d s u e
anywhere_read limit d offset s m u e before all it room t at one seen r is =
    let o : offset ≡ t.placed.offset = placed_at token.DoubleSlash s m t offset at in
    let steps_are : steps_seen all ≡ everywhere offset r.steps = r.are ∙ ap (λ ss. steps_onto ss r.steps) one ∙ seen r.steps in
    let same : e ≡ path t.placed.offset root (everywhere t.placed.offset r.steps) =
    is ∙ ap (path offset root) steps_are ∙ ap (λ x. path x root (everywhere x r.steps)) o in
    record {
      derives = subst (λ y. IsPath limit d s u y) (sym same)
          (subst (λ l. IsPath limit d l u (path t.placed.offset root (everywhere t.placed.offset r.steps))) (sym t.is)
          (from_anywhere d t.placed m u r.steps t.token r.derives));
      reads = record {
        ending = r.ending;
        settled = r.settled;
        quiet = all_quiet u;
        shorter = let a = took_shorter token.DoubleSlash s m t in let b = r.shorter in omega (arith, a, b);
        halts = λ b j c k deep. over_double limit b j c k s m t (omega (arith, room, deep)) ∙ r.halts k deep;
      };
    }

pub here_fails : (limit d : ℕ) (s u : List Placed) (why : Stop) → d ≤ limit → is_at_step s ≡ true →
    Fails limit need_step d s u why → OperandFails limit level.Union d s u why
here_fails limit d s u why room at f = record {
  from = λ b j c fresh.
      fails_after limit (want b j c) need_step d s s u why
      (λ k deep. as_step limit (want b j c) (want_takes b j c) k s at (omega (arith, room, deep))) f;
}

pub here_read : (limit d offset : ℕ) (s u : List Placed) (e : Tree) (before all : List Step) → d ≤ limit → is_at_step s ≡ true →
    offset ≡ offset_at s → before ≡ [] → (r : StepsRead limit d before s u all) → e ≡ path offset trees.here (steps_seen all) → PathRead limit d s u e
here_read limit d offset s u e before all room at_step at empty r is =
    let seen : e ≡ path (offset_at s) trees.here r.steps =
    is ∙ ap (path offset trees.here) (r.are ∙ ap (λ ss. steps_onto ss r.steps) empty) ∙ ap (λ o. path o trees.here r.steps) at in
    record {
      derives = subst (λ y. IsPath limit d s u y) (sym seen) (from_here d s u r.steps r.derives);
      reads = record {
        ending = r.ending;
        settled = r.settled;
        quiet = all_quiet u;
        shorter = r.shorter;
        halts = λ b j c k deep. as_step limit (want b j c) (want_takes b j c) k s at_step (omega (arith, room, deep)) ∙ r.halts k deep;
      };
    }

pub filter_fails : (limit d : ℕ) (s m u : List Placed) (x : Tree) (why : Stop) → d ≤ limit → FilterRead limit d s m x →
    Fails limit (after full) d m u why → OperandFails limit level.Union d s u why
filter_fails limit d s m u x why room r f = record {
  from = λ b j c fresh.
      fails_after limit (want b j c) (after full) d s m u why (λ k deep. drive_filter limit r.derives b j c k deep (omega (arith, room, deep))) f;
}

-- tokens that don't go on with a step
no_slash_turn : (k : List Bracket) (t : Token) → (t ≡ token.Slash → ⊥) → (t ≡ token.DoubleSlash → ⊥) → slash_turn k t ≡ None
no_slash_turn k token.Slash a b = absurd (a refl)
no_slash_turn k token.DoubleSlash a b = absurd (b refl)
no_slash_turn k _ a b = refl

no_predicate_turn : (k : List Bracket) (t : Token) → (t ≡ token.OpenBracket → ⊥) → predicate_turn k t ≡ None
no_predicate_turn k token.OpenBracket a = absurd (a refl)
no_predicate_turn k _ a = refl

pub settled_of : (e : Ending) (s : List Placed) → IsClosed e s → NotAt token.Slash s → NotAt token.DoubleSlash s → Settled e s
settled_of full s closed a b p rest is k =
    ap (λ o. first_of_two o (first_of_two (slash_turn k p.token) (end_turn k p.token))) (no_predicate_turn k p.token (closed p rest is))
    ∙ ap (λ o. first_of_two o (end_turn k p.token)) (no_slash_turn k p.token (a p rest is) (b p rest is))
settled_of bare s closed a b p rest is k =
    ap (λ o. first_of_two o (end_turn k p.token)) (no_slash_turn k p.token (a p rest is) (b p rest is))
settled_of at_root s closed a b p rest is k = absurd closed

not_at_slash : (t : Token) (s : List Placed) → is_slash t ≡ true → is_at_slash s ≡ false → NotAt t s
not_at_slash t s yes_it none p rest is at =
    let bad : false ≡ true = sym none ∙ ap is_at_slash is ∙ ap is_slash at ∙ yes_it in absurd (cc)

slash_token : (t : Token) → is_slash t ≡ true → (t ≡ token.Slash → ⊥) → (t ≡ token.DoubleSlash → ⊥) → ⊥
slash_token token.Slash yes_it a b = a refl
slash_token token.DoubleSlash yes_it a b = b refl
slash_token _ yes_it a b = absurd (cc)

slash_first : (s : List Placed) → is_at_slash s ≡ true → NotAt token.Slash s → NotAt token.DoubleSlash s → ⊥
slash_first [] yes_it a b = absurd (cc)
slash_first (p ∷ s) yes_it a b = slash_token p.token yes_it (a p s refl) (b p s refl)

-- an expression that is no path, with no steps behind it
pub filter_alone_read : (limit d : ℕ) (s m : List Placed) (x : Tree) → d ≤ limit → FilterRead limit d s m x → is_at_slash m ≡ false → PathRead limit d s m x
filter_alone_read limit d s m x room f none = record {
  derives = from_filter d s m m x no_steps f.derives (no_more_steps d m);
  reads = record {
    ending = full;
    settled = settled_of full m f.closed (not_at_slash token.Slash m refl none) (not_at_slash token.DoubleSlash m refl none);
    quiet = all_quiet m;
    shorter = f.shorter;
    halts = λ b j c k deep. drive_filter limit f.derives b j c k deep (omega (arith, room, deep));
  };
}

-- where a slash stands, steps were read
steps_there : (limit d : ℕ) (s u : List Placed) (ss : Steps) → IsSteps limit d s u ss → (offset : ℕ) (x : Tree) → path offset (trees.from x) ss ≡ with_steps offset x ss
steps_there limit d _ _ _ (dot_step _ _ _ _ _ _ _) offset x = refl
steps_there limit d _ _ _ (parent_step _ _ _ _ _ _ _) offset x = refl
steps_there limit d _ _ _ (tested_step _ _ _ _ _ _ _ _ _ _ _ _ _ _) offset x = refl

more_steps_there : (limit d : ℕ) (m u : List Placed) (ss : Steps) → IsMoreSteps limit d m u ss → NotAt token.Slash u → NotAt token.DoubleSlash u →
    is_at_slash m ≡ true → (offset : ℕ) (x : Tree) → path offset (trees.from x) ss ≡ with_steps offset x ss
more_steps_there limit d _ _ _ (no_more_steps _ m) a b slash offset x = absurd (slash_first m slash a b)
more_steps_there limit d _ _ _ (slash_steps _ p m u ss is D) a b slash offset x = steps_there limit d m u ss D offset x
more_steps_there limit d _ _ _ (double_slash_steps _ p m u ss is D) a b slash offset x = refl

pub filter_path_read : (limit d offset : ℕ) (s m u : List Placed) (x boxed e : Tree) (before all : List Step) → d ≤ limit → FilterRead limit d s m x →
    is_at_slash m ≡ true → offset ≡ offset_at s → before ≡ [] → (r : MoreStepsRead limit d full before m u all) → boxed ≡ x →
    e ≡ path offset (trees.from boxed) (steps_seen all) → PathRead limit d s u e
filter_path_read limit d offset s m u x boxed e before all room f slash at empty r same is = record {
  derives =
      let seen : e ≡ with_steps (offset_at s) x r.steps =
      is ∙ ap (λ b. path offset (trees.from b) (steps_seen all)) same ∙ ap (path offset (trees.from x)) (r.are ∙ ap (λ ss. steps_onto ss r.steps) empty)
      ∙ ap (λ o. path o (trees.from x) r.steps) at ∙ more_steps_there limit d m u r.steps r.derives r.no_slash r.no_double_slash slash (offset_at s) x in
      subst (λ y. IsPath limit d s u y) (sym seen) (from_filter d s m u x r.steps f.derives r.derives);
  reads = record {
    ending = r.ending;
    settled = r.settled;
    quiet = all_quiet u;
    shorter = let a = f.shorter in let b = r.shorter in omega (arith, a, b);
    halts = λ b j c k deep. drive_filter limit f.derives b j c k deep (omega (arith, room, deep)) ∙ r.halts k deep;
  };
}

pub base_fails : (limit d : ℕ) (s m u : List Placed) (x : Tree) (why : Stop) → d ≤ limit → PrimaryRead limit d s m x →
    Fails limit (after full) d m u why → OperandFails limit level.Union d s u why
base_fails limit d s m u x why room r f = record {
  from = λ b j c fresh.
      fails_after limit (want b j c) (after full) d s m u why (λ k deep. drive_primary limit r.derives b j c k deep (omega (arith, room, deep))) f;
}

-- a primary expression without predicates
pub bare_filter_read : (limit d : ℕ) (s m : List Placed) (x : Tree) → PrimaryRead limit d s m x → NotAt token.OpenBracket m → FilterRead limit d s m x
bare_filter_read limit d s m x r none = record {
  derives = filter d s m m x no_trees r.derives (no_predicate d m);
  closed = none;
  shorter = r.shorter;
}

-- where a bracket opens, predicates were read
predicates_there : (limit d : ℕ) (m u : List Placed) (ts : Trees) → IsPredicates limit d m u ts → NotAt token.OpenBracket u → IsFirst token.OpenBracket m →
    (offset : ℕ) (x : Tree) → filtered offset x ts ≡ with_predicates offset x ts
predicates_there limit d _ _ _ (no_predicate _ m) closed f offset x = absurd (closed f.placed f.rest f.is f.token)
predicates_there limit d _ _ _ (predicate _ _ _ _ _ _ _ _ _ _ _ _ _) closed f offset x = refl

pub filter_read : (limit d offset : ℕ) (s m u : List Placed) (x boxed e : Tree) (found : List Expr) → PrimaryRead limit d s m x → IsFirst token.OpenBracket m →
    offset ≡ offset_at s → PredicatesRead limit d m u found → boxed ≡ x → e ≡ filtered offset boxed (trees_seen found) → FilterRead limit d s u e
filter_read limit d offset s m u x boxed e found r opens at ps same is = record {
  derives =
      let seen : e ≡ with_predicates (offset_at s) x (trees_seen found) =
      is ∙ ap (λ b. filtered offset b (trees_seen found)) same ∙ ap (λ o. filtered o x (trees_seen found)) at
      ∙ predicates_there limit d m u (trees_seen found) ps.derives ps.closed opens (offset_at s) x in
      subst (λ y. IsFilter limit d s u y) (sym seen) (filter d s m u x (trees_seen found) r.derives ps.derives);
  closed = ps.closed;
  shorter = let a = r.shorter in let b = ps.shorter in omega (arith, a, b);
}

-- steps
pub steps_start : (limit d : ℕ) (e : Ending) (s : List Placed) (found : List Step) → IsClosed e s → StepsSoFar limit d e found s s found
steps_start limit d e s found closed = record {
  extends = λ v ss D. record { steps = ss; derives = D; are = refl };
  ending = e;
  closed = closed;
  shorter = omega arith;
  halts = λ k deep. refl;
}

snoc_steps : (found : List Step) (it : Step) (ss : Steps) → steps_onto (found ++ it ∷ []) ss ≡ steps_onto found (step_of it ss)
snoc_steps [] it ss = refl
snoc_steps (x ∷ xs) it ss = ap (step_of x) (snoc_steps xs it ss)

onto_seen : (found : List Step) → steps_onto found no_steps ≡ steps_seen found
onto_seen [] = refl
onto_seen (x ∷ xs) = ap (step_of x) (onto_seen xs)

-- a slash behind a step that is closed
slash_on : (limit : ℕ) (e : Ending) (k : List Bracket) (s m : List Placed) → IsClosed e s → Took token.Slash s m → length k ≤ limit →
    halt limit (after e) k s ≡ halt limit need_step k m
unfolding load
slash_on limit full k s m closed t room = took_on limit (after full) k s m token.Slash (record { mode = need_step; stack = k }) t refl room
slash_on limit bare k s m closed t room = took_on limit (after bare) k s m token.Slash (record { mode = need_step; stack = k }) t refl room
slash_on limit at_root k s m closed t room = absurd closed

double_on : (limit : ℕ) (e : Ending) (k : List Bracket) (s m : List Placed) → IsClosed e s → Took token.DoubleSlash s m → length k ≤ limit →
    halt limit (after e) k s ≡ halt limit need_step k m
unfolding load
double_on limit full k s m closed t room = took_on limit (after full) k s m token.DoubleSlash (record { mode = need_step; stack = k }) t refl room
double_on limit bare k s m closed t room = took_on limit (after bare) k s m token.DoubleSlash (record { mode = need_step; stack = k }) t refl room
double_on limit at_root k s m closed t room = absurd closed

lead_on : (limit : ℕ) (e : Ending) (k : List Bracket) (s m : List Placed) (before behind : List Step) → IsClosed e s →
    Leads s m before behind true → length k ≤ limit → halt limit (after e) k s ≡ halt limit need_step k m
lead_on limit e k s m before behind closed (inl t) room = slash_on limit e k s m closed t.took room
lead_on limit e k s m before behind closed (inr t) room = double_on limit e k s m closed t.took room

pub more_steps_fail : (limit d : ℕ) (e : Ending) (s here m u : List Placed) (first before behind : List Step) (why : Stop) → d ≤ limit →
    StepsSoFar limit d e first s here before → Leads here m before behind true → Fails limit need_step d m u why → Fails limit (after e) d s u why
more_steps_fail limit d e s here m u first before behind why room so t f =
    fails_after limit (after e) need_step d s m u why
    (λ k deep. so.halts k deep ∙ lead_on limit so.ending k here m before behind so.closed t (omega (arith, room, deep))) f

pub lead_shorter : (s m : List Placed) (before behind : List Step) → Leads s m before behind true → length m < length s
lead_shorter s m before behind (inl t) = took_shorter token.Slash s m t.took
lead_shorter s m before behind (inr t) = took_shorter token.DoubleSlash s m t.took

-- a step behind a slash, as steps before others
led : (limit d : ℕ) (here m v w : List Placed) (before behind : List Step) (it : Step) (ss : Steps) → Leads here m before behind true →
    ((w : List Placed) (ss : Steps) → IsMoreSteps limit d v w ss → IsSteps limit d m w (step_of it ss)) → IsMoreSteps limit d v w ss →
    (more : Steps) × IsMoreSteps limit d here w more × (steps_onto behind (step_of it ss) ≡ steps_onto before more)
led limit d here m v w before behind it ss (inl t) extends D = (
  step_of it ss,
  subst (λ l. IsMoreSteps limit d l w (step_of it ss)) (sym t.took.is) (slash_steps d t.took.placed m w (step_of it ss) t.took.token (extends w ss D)),
  ap (λ f. steps_onto f (step_of it ss)) t.found,
)
led limit d here m v w before behind it ss (inr t) extends D = (
  everywhere t.took.placed.offset (step_of it ss),
  subst (λ l. IsMoreSteps limit d l w (everywhere t.took.placed.offset (step_of it ss))) (sym t.took.is)
      (double_slash_steps d t.took.placed m w (step_of it ss) t.took.token (extends w ss D)),
  ap (λ f. steps_onto f (step_of it ss)) t.found ∙ snoc_steps before t.it (step_of it ss)
      ∙ ap (steps_onto before) (t.is (step_of it ss) ∙ ap (λ o. everywhere o (step_of it ss)) (ap offset_at t.took.is)),
)

pub steps_more : (limit d : ℕ) (e : Ending) (s here m v : List Placed) (first before behind all : List Step) (it : Step) → d ≤ limit →
    StepsSoFar limit d e first s here before → Leads here m before behind true → StepRead limit d m v it → all ≡ behind ++ it ∷ [] →
    StepsSoFar limit d e first s v all
steps_more limit d e s here m v first before behind all it room so t r grown = record {
  extends = λ w ss D.
      let (more, M, same) = led limit d here m v w before behind it ss t r.derives D in
      let x = so.extends w more M in
      record {
        steps = x.steps;
        derives = x.derives;
        are = ap (λ f. steps_onto f ss) grown ∙ snoc_steps behind it ss ∙ same ∙ x.are;
      };
  ending = r.ending;
  closed = r.closed;
  shorter = let a = so.shorter in let b = r.shorter in let c = lead_shorter here m before behind t in omega (arith, a, b, c);
  halts = λ k deep. so.halts k deep ∙ lead_on limit so.ending k here m before behind so.closed t (omega (arith, room, deep)) ∙ r.halts k deep;
}

pub more_steps_read : (limit d : ℕ) (e : Ending) (s here u : List Placed) (first before all : List Step) →
    StepsSoFar limit d e first s here before → TookNone here u before all → MoreStepsRead limit d e first s u all
more_steps_read limit d e s here u first before all so t =
    let x = so.extends here no_steps (no_more_steps d here) in
    subst (λ v. MoreStepsRead limit d e first s v all) (sym t.kept) (record {
      steps = x.steps;
      derives = x.derives;
      are = sym (onto_seen all) ∙ ap (λ f. steps_onto f no_steps) t.found ∙ x.are;
      ending = so.ending;
      settled = settled_of so.ending here so.closed t.no_slash t.no_double_slash;
      no_slash = t.no_slash;
      no_double_slash = t.no_double_slash;
      shorter = so.shorter;
      halts = so.halts;
    })

pub steps_read : (limit d : ℕ) (s m u : List Placed) (before behind : List Step) (it : Step) (r : StepRead limit d s m it) →
    behind ≡ before ++ it ∷ [] → (out : Result (Vec Step Global) Stop) →
    MatchResult out (λ all. MoreStepsRead limit d r.ending behind m u all.items) (Fails limit (after r.ending) d m u) →
    MatchResult out (λ all. StepsRead limit d before s u all.items) (Fails limit need_step d s u)
steps_read limit d s m u before behind it r grown out h = MatchResult-weaker out h
    (λ all x. record {
      steps = step_of it x.steps;
      derives = r.derives u x.steps x.derives;
      are = x.are ∙ ap (λ f. steps_onto f x.steps) grown ∙ snoc_steps before it x.steps;
      ending = x.ending;
      settled = x.settled;
      shorter = let a = r.shorter in let b = x.shorter in omega (arith, a, b);
      halts = λ k deep. r.halts k deep ∙ x.halts k deep;
    })
    (λ why f. fails_after limit need_step (after r.ending) d s m u why r.halts f)

-- one step
pub dot_read : (limit d offset : ℕ) (s u : List Placed) (it : Step) → d ≤ limit → Took token.Dot s u → offset ≡ offset_at s →
    ((rest : Steps) → step_of it rest ≡ step offset axis.SelfNode test.Node offset no_trees rest) → StepRead limit d s u it
unfolding load
dot_read limit d offset s u it room t at is = record {
  derives = λ v ss D.
      let o : offset ≡ t.placed.offset = placed_at token.Dot s u t offset at in
      subst (λ y. IsSteps limit d s v y) (sym (is ss ∙ ap (λ x. step x axis.SelfNode test.Node x no_trees ss) o))
      (subst (λ l. IsSteps limit d l v (step t.placed.offset axis.SelfNode test.Node t.placed.offset no_trees ss)) (sym t.is)
      (dot_step d t.placed u v ss t.token D));
  ending = bare;
  closed = tt;
  shorter = took_shorter token.Dot s u t;
  halts = λ k deep. took_on limit need_step k s u token.Dot (record { mode = after bare; stack = k }) t refl (omega (arith, room, deep));
}

pub parent_read : (limit d offset : ℕ) (s u : List Placed) (it : Step) → d ≤ limit → Took token.DoubleDot s u → offset ≡ offset_at s →
    ((rest : Steps) → step_of it rest ≡ step offset axis.Parent test.Node offset no_trees rest) → StepRead limit d s u it
unfolding load
parent_read limit d offset s u it room t at is = record {
  derives = λ v ss D.
      let o : offset ≡ t.placed.offset = placed_at token.DoubleDot s u t offset at in
      subst (λ y. IsSteps limit d s v y) (sym (is ss ∙ ap (λ x. step x axis.Parent test.Node x no_trees ss) o))
      (subst (λ l. IsSteps limit d l v (step t.placed.offset axis.Parent test.Node t.placed.offset no_trees ss)) (sym t.is)
      (parent_step d t.placed u v ss t.token D));
  ending = bare;
  closed = tt;
  shorter = took_shorter token.DoubleDot s u t;
  halts = λ k deep. took_on limit need_step k s u token.DoubleDot (record { mode = after bare; stack = k }) t refl (omega (arith, room, deep));
}

-- a node test behind its axis
tested_on : (limit d offset : ℕ) (a : AxisName) (s t u : List Placed) (it : Step) (m : Mode) → d ≤ limit → IsAxis s t a → length t ≤ length s →
    TakesTests m → ((k : List Bracket) → length k ≡ d → halt limit need_step k s ≡ halt limit m k t) → offset ≡ offset_at s →
    TestedRead limit d offset a t u it → StepRead limit d s u it
tested_on limit d offset a s t u it m room A le tests to at r = record {
  derives = λ v ss D.
      subst (λ y. IsSteps limit d s v y) (sym (r.is ss ∙ ap (λ o. step o a r.test (offset_at t) r.predicates ss) at))
      (tested_step d s t r.behind u v a r.test r.predicates ss A r.tests r.derives D);
  ending = full;
  closed = r.closed;
  shorter = let x = r.shorter in omega (arith, x, le);
  halts = λ k deep.
      let fits : length k ≤ limit = omega (arith, room, deep) in
      to k deep ∙ drive_test limit r.tests m tests k fits ∙ drive_predicates limit r.derives k deep fits;
}

pub tested_steps : (limit d offset : ℕ) (a : AxisName) (s t u : List Placed) (m : Mode) (out : Result Step Stop) → d ≤ limit → IsAxis s t a → length t ≤ length s →
    TakesTests m → ((k : List Bracket) → length k ≡ d → halt limit need_step k s ≡ halt limit m k t) →
    ((u : List Placed) (why : Stop) → Fails limit need_test d t u why → Fails limit m d t u why) → offset ≡ offset_at s →
    MatchResult out (TestedRead limit d offset a t u) (Fails limit need_test d t u) →
    MatchResult out (StepRead limit d s u) (Fails limit need_step d s u)
tested_steps limit d offset a s t u m out room A le tests to same at h = MatchResult-weaker out h
    (λ it r. tested_on limit d offset a s t u it m room A le tests to at r)
    (λ why f. fails_after limit need_step m d s t u why to (same u why f))

pub at_steps : (limit d offset : ℕ) (s t u : List Placed) (out : Result Step Stop) → d ≤ limit → Took token.At s t → offset ≡ offset_at s →
    MatchResult out (TestedRead limit d offset axis.Attribute t u) (Fails limit need_test d t u) →
    MatchResult out (StepRead limit d s u) (Fails limit need_step d s u)
unfolding load
at_steps limit d offset s t u out room o at h =
    tested_steps limit d offset axis.Attribute s t u need_test out room
    (subst (λ l. IsAxis l t axis.Attribute) (sym o.is) (at_sign o.placed t o.token))
    (let x = took_shorter token.At s t o in omega (arith, x)) test_takes
    (λ k deep. took_on limit need_step k s t token.At (record { mode = need_test; stack = k }) o refl (omega (arith, room, deep)))
    (λ u why f. f) at h

pub axis_steps : (limit d offset : ℕ) (a : AxisName) (s m t u : List Placed) (out : Result Step Stop) → d ≤ limit → Took (token.Axis a) s m →
    Took token.DoubleColon m t → offset ≡ offset_at s →
    MatchResult out (TestedRead limit d offset a t u) (Fails limit need_test d t u) →
    MatchResult out (StepRead limit d s u) (Fails limit need_step d s u)
unfolding load
axis_steps limit d offset a s m t u out room o q at h =
    tested_steps limit d offset a s t u need_test out room
    (subst (λ l. IsAxis l t a) (sym (o.is ∙ ap (λ l. o.placed ∷ l) q.is)) (named_axis o.placed q.placed t a o.token q.token))
    (let x = took_shorter (token.Axis a) s m o in let y = took_shorter token.DoubleColon m t q in omega (arith, x, y)) test_takes
    (λ k deep. took_on limit need_step k s m (token.Axis a) (record { mode = need_colons; stack = k }) o refl (omega (arith, room, deep))
    ∙ took_on limit need_colons k m t token.DoubleColon (record { mode = need_test; stack = k }) q refl (omega (arith, room, deep)))
    (λ u why f. f) at h

-- the token is a node test, or begins one
pub data IsTestToken : Token → Type 0 where
  a_star : IsTestToken token.Star
  a_prefix : (p : List ℕ) → IsTestToken (token.PrefixStar p)
  a_name : (n : List ℕ) → IsTestToken (token.Name n)
  a_type : (t : NodeType) → IsTestToken (token.NodeType t)

test_same : (limit : ℕ) (k : List Bracket) (p : Placed) (s : List Placed) (t : Token) → IsTestToken t → p.token ≡ t → length k ≤ limit →
    halt limit need_step k (p ∷ s) ≡ halt limit need_test k (p ∷ s)
unfolding load
test_same limit k p s _ a_star is room =
    let mv : Move = record { mode = after full; stack = k } in
    step_on limit need_step k p s mv token.Star is refl room ∙ sym (step_on limit need_test k p s mv token.Star is refl room)
test_same limit k p s _ (a_prefix x) is room =
    let mv : Move = record { mode = after full; stack = k } in
    step_on limit need_step k p s mv (token.PrefixStar x) is refl room ∙ sym (step_on limit need_test k p s mv (token.PrefixStar x) is refl room)
test_same limit k p s _ (a_name x) is room =
    let mv : Move = record { mode = after full; stack = k } in
    step_on limit need_step k p s mv (token.Name x) is refl room ∙ sym (step_on limit need_test k p s mv (token.Name x) is refl room)
test_same limit k p s _ (a_type x) is room =
    let mv : Move = record { mode = type_open x; stack = k } in
    step_on limit need_step k p s mv (token.NodeType x) is refl room ∙ sym (step_on limit need_test k p s mv (token.NodeType x) is refl room)

pub child_steps : (limit d offset : ℕ) (s u : List Placed) (t : Token) (out : Result Step Stop) → d ≤ limit → IsFirst t s → IsTestToken t → offset ≡ offset_at s →
    MatchResult out (TestedRead limit d offset axis.Child s u) (Fails limit need_test d s u) →
    MatchResult out (StepRead limit d s u) (Fails limit need_step d s u)
child_steps limit d offset s u t out room f is at h =
    tested_steps limit d offset axis.Child s s u need_test out room (no_axis s) (omega arith) test_takes
    (λ k deep. ap (halt limit need_step k) f.is ∙ test_same limit k f.placed f.rest t is f.token (omega (arith, room, deep)) ∙ sym (ap (halt limit need_test k) f.is))
    (λ u why f. f) at h

pub test_fails : (limit d : ℕ) (s m u : List Placed) (it : StepTest) (why : Stop) → d ≤ limit → IsTest s m it →
    Fails limit (after full) d m u why → Fails limit need_test d s u why
test_fails limit d s m u it why room D f =
    fails_after limit need_test (after full) d s m u why (λ k deep. drive_test limit D need_test test_takes k (omega (arith, room, deep))) f

-- predicates
pub predicates_start : (limit d : ℕ) (s : List Placed) (found : List Expr) → found ≡ [] → PredicatesSoFar limit d s s found
predicates_start limit d s found none = record {
  extends = λ v ts D. subst (λ f. IsPredicates limit d s v (trees_onto f ts)) (sym none) D;
  shorter = omega arith;
}

pub snoc_trees : (found : List Expr) (e : Expr) (ts : Trees) → trees_onto (found ++ e ∷ []) ts ≡ trees_onto found (tree (tree_of e) ts)
snoc_trees [] e ts = refl
snoc_trees (x ∷ xs) e ts = ap (tree (tree_of x)) (snoc_trees xs e ts)

pub onto_trees : (found : List Expr) → trees_onto found no_trees ≡ trees_seen found
onto_trees [] = refl
onto_trees (x ∷ xs) = ap (tree (tree_of x)) (onto_trees xs)

over_predicates : (limit d : ℕ) (s here : List Placed) (found : List Expr) (k : List Bracket) → d ≤ limit → PredicatesSoFar limit d s here found → length k ≡ d →
    halt limit (after full) k s ≡ halt limit (after full) k here
over_predicates limit d s here found k room so deep =
    drive_predicates limit (so.extends here no_trees (no_predicate d here)) k deep (omega (arith, room, deep))

predicates_too_nested : (limit d : ℕ) (s here : List Placed) (found : List Expr) → d ≤ limit → limit ≤ d → PredicatesSoFar limit d s here found →
    IsFirst token.OpenBracket here → Fails limit (after full) d s here stop.TooNested
unfolding load
predicates_too_nested limit d s here found room over so f =
    fails_after limit (after full) (after full) d s here here stop.TooNested (λ k deep. over_predicates limit d s here found k room so deep)
    (record { stuck = λ nm k deep. stuck_over limit (after full) k here token.OpenBracket (record { mode = want true 0 false; stack = in_predicate ∷ k }) f refl (omega (arith, over, deep)) })

bracket_on : (limit : ℕ) (k : List Bracket) (s m : List Placed) → Took token.OpenBracket s m → suc (length k) ≤ limit →
    halt limit (after full) k s ≡ halt limit (want true 0 false) (in_predicate ∷ k) m
unfolding load
bracket_on limit k s m t room =
    took_on limit (after full) k s m token.OpenBracket (record { mode = want true 0 false; stack = in_predicate ∷ k }) t refl (plus_zero _ _ room)

pub fresh_start : (n : Level) (s : List Placed) → ((t : List Placed) → FreshSign n true t) → Fresh n true false s
fresh_start n s h = record { sign = h s; closes = λ x. absurd (cc) }

predicate_fails : (limit d : ℕ) (s here m u : List Placed) (found : List Expr) (why : Stop) → suc d ≤ limit → PredicatesSoFar limit d s here found →
    Took token.OpenBracket here m → OperandFails limit level.Or (suc d) m u why → Fails limit (after full) d s u why
predicate_fails limit d s here m u found why room so t f = record {
  stuck = λ nm k deep.
      let fits : suc (length k) ≤ limit = omega (arith, room, deep) in
      stuck_after limit (after full) (want true 0 false) k (in_predicate ∷ k) s m u why
      (over_predicates limit d s here found k (omega (arith, room)) so deep ∙ bracket_on limit k here m t fits)
      ((f.from true 0 false (fresh_start level.Or m (λ t. tt))).stuck nm (in_predicate ∷ k) (ap suc deep));
}

-- a bracket that isn't closed
pub no_operator : (s : List Placed) → Quiet 0 s → (p : Placed) (rest : List Placed) → s ≡ p ∷ rest → (o : Operator) → p.token ≡ token.Operator o → ⊥
no_operator s quiet p rest is o at = let bad = quiet p rest o is at in absurd (omega (arith, bad))

unclosed_predicate : (k : List Bracket) (x : Token) → (x ≡ token.CloseBracket → ⊥) → ((o : Operator) → x ≡ token.Operator o → ⊥) →
    end_turn (in_predicate ∷ k) x ≡ None
unclosed_predicate k token.CloseBracket a b = absurd (a refl)
unclosed_predicate k (token.Operator o) a b = absurd (b o refl)
unclosed_predicate k _ a b = refl

pub stuck_unclosed : (limit : ℕ) (e : Ending) (k : List Bracket) (s : List Placed) (t : Token) → Settled e s → Quiet 0 s → NotAt t s →
    IsPending (after e) k → ((x : Token) → (x ≡ t → ⊥) → ((o : Operator) → x ≡ token.Operator o → ⊥) → end_turn k x ≡ None) →
    Stuck limit (after e) k s s stop.Unexpected
stuck_unclosed limit e k s t settled quiet not_at pending none = record {
  mode = after e;
  stack = k;
  reaches = refl;
  cause = record {
    at_end = λ _. pending;
    at_token = λ p rest is. settled p rest is k ∙ none p.token (not_at p rest is) (no_operator s quiet p rest is);
  };
}

pub refused_as : (limit : ℕ) (m : Mode) (k : List Bracket) (s u : List Placed) (t : Token) (why : Stop) → Refused t s u why →
    Stuck limit m k s s stop.Unexpected → Stuck limit m k s u why
refused_as limit m k s u t why r x =
    subst (λ w. Stuck limit m k s u w) (sym r.why_is) (subst (λ v. Stuck limit m k s v stop.Unexpected) (sym r.kept) x)

predicate_unclosed : (limit d : ℕ) (s here m v u : List Placed) (found : List Expr) (x : Tree) (why : Stop) → suc d ≤ limit →
    PredicatesSoFar limit d s here found → Took token.OpenBracket here m → ChainRead limit level.Or (suc d) m v x →
    Refused token.CloseBracket v u why → Fails limit (after full) d s u why
predicate_unclosed limit d s here m v u found x why room so t r q = record {
  stuck = λ nm k deep.
      let fits : suc (length k) ≤ limit = omega (arith, room, deep) in
      stuck_after limit (after full) (after r.reads.ending) k (in_predicate ∷ k) s v u why
      (over_predicates limit d s here found k (omega (arith, room)) so deep ∙ bracket_on limit k here m t fits
      ∙ r.reads.halts true 0 false (in_predicate ∷ k) (ap suc deep))
      (refused_as limit (after r.reads.ending) (in_predicate ∷ k) v u token.CloseBracket why q
      (stuck_unclosed limit r.reads.ending (in_predicate ∷ k) v token.CloseBracket r.reads.settled r.reads.quiet q.not_at tt (unclosed_predicate k)));
}

predicates_on : (limit d : ℕ) (s here m v w : List Placed) (found all : List Expr) (e : Expr) → suc d ≤ limit →
    PredicatesSoFar limit d s here found → Took token.OpenBracket here m → ChainRead limit level.Or (suc d) m v (tree_of e) →
    Took token.CloseBracket v w → all ≡ found ++ e ∷ [] → PredicatesSoFar limit d s w all
predicates_on limit d s here m v w found all e room so t r q grown = record {
  extends = λ y ts D.
      let inner : IsChain limit level.Or (suc d) m (q.placed ∷ w) (tree_of e) =
      subst (λ l. IsChain limit level.Or (suc d) m l (tree_of e)) q.is r.derives in
      let one : IsPredicates limit d (t.placed ∷ m) y (tree (tree_of e) ts) =
      predicate d t.placed q.placed m w y (tree_of e) ts t.token room inner q.token D in
      let from_here : IsPredicates limit d here y (tree (tree_of e) ts) = subst (λ l. IsPredicates limit d l y (tree (tree_of e) ts)) (sym t.is) one in
      subst (λ x. IsPredicates limit d s y x) (sym (ap (λ f. trees_onto f ts) grown ∙ snoc_trees found e ts)) (so.extends y (tree (tree_of e) ts) from_here);
  shorter =
      let a = so.shorter in let b = took_shorter token.OpenBracket here m t in let c = r.reads.shorter in
      let g = took_shorter token.CloseBracket v w q in omega (arith, a, b, c, g);
}

pub predicates_more : (limit d : ℕ) (s here u : List Placed) (found all : List Expr) (e : Expr) → PredicatesSoFar limit d s here found →
    IsFirst token.OpenBracket here → EnclosedRead limit d token.CloseBracket here u (tree_of e) → all ≡ found ++ e ∷ [] → PredicatesSoFar limit d s u all
predicates_more limit d s here u found all e so f r grown =
    predicates_on limit d s here r.inner r.behind u found all e r.room so (took_here token.OpenBracket here r.opening r.inner f r.is) r.read r.closed grown

pub predicates_stop : (limit d : ℕ) (s here u : List Placed) (found : List Expr) (why : Stop) → d ≤ limit → PredicatesSoFar limit d s here found →
    IsFirst token.OpenBracket here → EnclosedFails limit d token.CloseBracket here u why → Fails limit (after full) d s u why
predicates_stop limit d s here u found why room so f (too_deep over kept is) =
    subst (λ w. Fails limit (after full) d s u w) (sym is) (subst (λ v. Fails limit (after full) d s v stop.TooNested) (sym kept)
    (predicates_too_nested limit d s here found room over so f))
predicates_stop limit d s here u found why room so f (inside_fails p m is fits x) =
    predicate_fails limit d s here m u found why fits so (took_here token.OpenBracket here p m f is) x
predicates_stop limit d s here u found why room so f (left_open p m v e is fits r q) =
    predicate_unclosed limit d s here m v u found e why fits so (took_here token.OpenBracket here p m f is) r q

pub predicates_read : (limit d : ℕ) (s here : List Placed) (found : List Expr) → PredicatesSoFar limit d s here found → NotAt token.OpenBracket here →
    PredicatesRead limit d s here found
predicates_read limit d s here found so none = record {
  derives = subst (λ x. IsPredicates limit d s here x) (onto_trees found) (so.extends here no_trees (no_predicate d here));
  closed = none;
  shorter = so.shorter;
}

-- an axis without its colons
pub axis_fails : (limit d : ℕ) (a : AxisName) (s m u : List Placed) (why : Stop) → d ≤ limit → Took (token.Axis a) s m →
    Refused token.DoubleColon m u why → Fails limit need_step d s u why
unfolding load
axis_fails limit d a s m u why room o r = record {
  stuck = λ nm k deep.
      stuck_after limit need_step need_colons k k s m u why
      (took_on limit need_step k s m (token.Axis a) (record { mode = need_colons; stack = k }) o refl (omega (arith, room, deep)))
      (stuck_not_at limit need_colons k m u token.DoubleColon why r tt (none_but_colons k));
}

pub no_step_begins : (k : List Bracket) (t : Token) → (t ≡ token.Dot → ⊥) → (t ≡ token.DoubleDot → ⊥) → (t ≡ token.At → ⊥) →
    ((a : AxisName) → t ≡ token.Axis a → ⊥) → (t ≡ token.Star → ⊥) → ((x : List ℕ) → t ≡ token.PrefixStar x → ⊥) →
    ((x : List ℕ) → t ≡ token.Name x → ⊥) → ((x : NodeType) → t ≡ token.NodeType x → ⊥) → turn need_step k t ≡ None
no_step_begins k token.Dot a b c d e f g h = absurd (a refl)
no_step_begins k token.DoubleDot a b c d e f g h = absurd (b refl)
no_step_begins k token.At a b c d e f g h = absurd (c refl)
no_step_begins k (token.Axis x) a b c d e f g h = absurd (d x refl)
no_step_begins k token.Star a b c d e f g h = absurd (e refl)
no_step_begins k (token.PrefixStar x) a b c d e f g h = absurd (f x refl)
no_step_begins k (token.Name x) a b c d e f g h = absurd (g x refl)
no_step_begins k (token.NodeType x) a b c d e f g h = absurd (h x refl)
no_step_begins k _ a b c d e f g h = refl

pub test_token : (t : Token) → (t ≡ token.Star) ⊎ (((x : List ℕ) × (t ≡ token.PrefixStar x)) ⊎ (((x : List ℕ) × (t ≡ token.Name x)) ⊎ ((x : NodeType) × (t ≡ token.NodeType x)))) →
    IsTestToken t
test_token t (inl e) = subst IsTestToken (sym e) a_star
test_token t (inr (inl (x, e))) = subst IsTestToken (sym e) (a_prefix x)
test_token t (inr (inr (inl (x, e)))) = subst IsTestToken (sym e) (a_name x)
test_token t (inr (inr (inr (x, e)))) = subst IsTestToken (sym e) (a_type x)
