-- Node tests that were read.
use Rattle.std.proofs.Common.{◌≡◌, ℕ, ◌≤◌, List, [], ◌∷◌, length, None, refl, sym, ◌∙◌, ap, subst, arith}
use Rattle.xp_tree.specs.declared.terms.StepTest.{StepTest}
use Rattle.xp_tree.specs.declared.terms.StepTest.TheVariants as test
use Rattle.xp_grammar.specs.declared.token.Placed.{Placed}
use Rattle.xp_grammar.specs.declared.token.Token.{Token}
use Rattle.xp_grammar.specs.declared.token.NodeType.{NodeType}
use Rattle.xp_grammar.specs.declared.token.NodeType.TheVariants as node_type
use Rattle.xp_grammar.specs.declared.token.Token.TheVariants as token
use Rattle.xp_grammar.specs.Parts.{name_test, type_test}
use Rattle.xp_grammar.specs.Grammar.{IsTest, star_test, prefix_test, named_test, typed_test, target_test}
use Rattle.xp_grammar.specs.inner.Machine.{Bracket, Mode, need_test, type_open, type_inner, type_close, moves, turn, load, IsPending}
use Rattle.xp_grammar.proofs.Steps.{step_on}
use Rattle.xp_parse.specs.declared.stop.Stop.{Stop}
use Rattle.xp_parse.specs.declared.stop.Stop.TheVariants as stop
use Rattle.xp_parse.specs.inner.Places.{IsFirst, Took, Refused}
use Rattle.xp_parse.specs.inner.Parsing.{IsNoMemory, Stuck, Fails, TestRead, TypeRead, TargetRead, IsTestMode, TestStops, stops_here, stops_behind, TestFails}
use Rattle.std.specs.Prelude.{Result, MatchResult}
use Rattle.std.proofs.lemmas.Result.{MatchResult-weaker}
use Rattle.xp_parse.proofs.Failing.{took_shorter, first_token, no_end, stuck_after, none_but_open, none_but_close, none_in_type}

pub target_none : (s u : List Placed) → Took token.CloseParen s u → TargetRead s u test.Pi
target_none s u r = record {
  tests = λ p q is opens. subst (λ t. IsTest (p ∷ q ∷ t) u test.Pi) (sym r.is) (typed_test p q r.placed u node_type.Pi is opens r.token);
  shorter = took_shorter token.CloseParen s u r;
}

pub target_some : (s m u : List Placed) (target : List ℕ) → Took (token.Literal target) s m → Took token.CloseParen m u →
    TargetRead s u (test.PiNamed target)
target_some s m u target l r = record {
  tests = λ p q is opens. subst (λ t. IsTest (p ∷ q ∷ t) u (test.PiNamed target)) (sym (l.is ∙ ap (λ t. l.placed ∷ t) r.is))
      (target_test p q l.placed r.placed u target is opens l.token r.token);
  shorter = let a = took_shorter (token.Literal target) s m l in let b = took_shorter token.CloseParen m u r in omega (arith, a, b);
}

-- a node test stops at once
pub stops_at_end : (m : Mode) (s : List Placed) → s ≡ [] → IsTestMode m → ((k : List Bracket) → IsPending m k) →
    (stop.Unexpected ≡ stop.Unexpected) × TestStops m s s
stops_at_end m s none is pending =
    (refl, stops_here m s is (λ k. record { at_end = λ _. pending k; at_token = λ p rest e. absurd (no_end p rest s e none) }))

pub stops_at_first : (m : Mode) (s : List Placed) (t : Token) → IsFirst t s → IsTestMode m → ((k : List Bracket) → turn m k t ≡ None) →
    (stop.Unexpected ≡ stop.Unexpected) × TestStops m s s
stops_at_first m s t f is none = (
  refl,
  stops_here m s is (λ k. record {
    at_end = λ e. absurd (no_end f.placed f.rest s f.is e);
    at_token = λ p rest e. ap (turn m k) (first_token t s f p rest e) ∙ none k;
  }),
)

refused_here : (m : Mode) (s u : List Placed) (t : Token) (why : Stop) → Refused t s u why → IsTestMode m →
    ((k : List Bracket) → IsPending m k) → ((k : List Bracket) (x : Token) → (x ≡ t → ⊥) → turn m k x ≡ None) →
    (why ≡ stop.Unexpected) × TestStops m s u
refused_here m s u t why r is pending none = (
  r.why_is,
  subst (λ v. TestStops m s v) (sym r.kept)
      (stops_here m s is (λ k. record { at_end = λ _. pending k; at_token = λ p rest e. none k p.token (r.not_at p rest e) })),
)

-- a node test stops behind a token
took_stops : (m m' : Mode) (t : Token) (s v u : List Placed) → Took t s v → IsTestMode m →
    ((k : List Bracket) → turn m k t ≡ moves m' k) → TestStops m' v u → TestStops m s u
took_stops m m' t s v u o is turns more =
    subst (λ l. TestStops m l u) (sym o.is) (stops_behind m m' o.placed v u is (λ k. ap (turn m k) o.token ∙ turns k) more)

test_mode : (m : Mode) (s u : List Placed) → TestStops m s u → IsTestMode m
test_mode _ _ _ (stops_here m u is none) = is
test_mode _ _ _ (stops_behind m m' p s u is turns more) = is

test_load : (m : Mode) (k : List Bracket) → IsTestMode m → load m k ≡ length k
unfolding load
test_load need_test k is = refl
test_load (type_open t) k is = refl
test_load (type_inner t) k is = refl
test_load type_close k is = refl
test_load _ k is = absurd is

-- where a node test stops, the machine stops
pub test_stuck : (limit : ℕ) (m : Mode) (s u : List Placed) → TestStops m s u → (k : List Bracket) → length k ≤ limit →
    Stuck limit m k s u stop.Unexpected
test_stuck limit _ _ _ (stops_here m u is none) k room = record { mode = m; stack = k; reaches = refl; cause = none k }
test_stuck limit _ _ _ (stops_behind m m' p s u is turns more) k room =
    let fits : load m' k ≤ limit = omega (arith, test_load m' k (test_mode m' s u more), room) in
    stuck_after limit m m' k k (p ∷ s) s u stop.Unexpected
    (step_on limit m k p s (record { mode = m'; stack = k }) p.token refl (turns k) fits)
    (test_stuck limit m' s u more k room)

pub test_refused : (limit : ℕ) (m : Mode) (d : ℕ) (s u : List Placed) (why : Stop) → d ≤ limit → TestFails m s u why → Fails limit m d s u why
test_refused limit m d s u why room x = record {
  stuck = λ nm k deep.
      let y = x.stops nm in
      subst (λ w. Stuck limit m k s u w) (sym y.0) (test_stuck limit m s u y.1 k (omega (arith, room, deep)));
}

pub target_unclosed : (s m u : List Placed) (target : List ℕ) (why : Stop) → Took (token.Literal target) s m →
    Refused token.CloseParen m u why → TestFails (type_inner node_type.Pi) s u why
target_unclosed s m u target why l r = record {
  stops = λ _.
      let x = refused_here type_close m u token.CloseParen why r tt (λ k. tt) none_but_close in
      (x.0, took_stops (type_inner node_type.Pi) type_close (token.Literal target) s m u l tt (λ k. refl) x.1);
}

pub typed_of : (t : NodeType) (s m u : List Placed) → Took token.OpenParen s m → Took token.CloseParen m u →
    TypeRead t s u (type_test t)
typed_of t s m u o r = record {
  tests = λ p is. subst (λ x. IsTest (p ∷ x) u (type_test t)) (sym (o.is ∙ ap (λ x. o.placed ∷ x) r.is))
      (typed_test p o.placed r.placed u t is o.token r.token);
  shorter = let a = took_shorter token.OpenParen s m o in let b = took_shorter token.CloseParen m u r in omega (arith, a, b);
}

pub typed_pi : (s m u : List Placed) (it : StepTest) → Took token.OpenParen s m → TargetRead m u it → TypeRead node_type.Pi s u it
typed_pi s m u it o r = record {
  tests = λ p is. subst (λ x. IsTest (p ∷ x) u it) (sym o.is) (r.tests p o.placed is o.token);
  shorter = let a = took_shorter token.OpenParen s m o in let b = r.shorter in omega (arith, a, b);
}

pub typed_pi_fails : (s m u : List Placed) (why : Stop) → Took token.OpenParen s m →
    TestFails (type_inner node_type.Pi) m u why → TestFails (type_open node_type.Pi) s u why
typed_pi_fails s m u why o x = record {
  stops = λ nm.
      let y = x.stops nm in
      (y.0, took_stops (type_open node_type.Pi) (type_inner node_type.Pi) token.OpenParen s m u o tt (λ k. refl) y.1);
}

pub typed_unopened : (t : NodeType) (s u : List Placed) (why : Stop) → Refused token.OpenParen s u why → TestFails (type_open t) s u why
typed_unopened t s u why r = record { stops = λ _. refused_here (type_open t) s u token.OpenParen why r tt (λ k. tt) (none_but_open t) }

pub typed_unclosed : (t : NodeType) (s m u : List Placed) (why : Stop) → (t ≡ node_type.Pi → ⊥) → Took token.OpenParen s m →
    Refused token.CloseParen m u why → TestFails (type_open t) s u why
typed_unclosed t s m u why no_pi o r = record {
  stops = λ _.
      let x = refused_here (type_inner t) m u token.CloseParen why r tt (λ k. tt) (λ k y no_it. none_in_type t k y no_pi no_it) in
      (x.0, took_stops (type_open t) (type_inner t) token.OpenParen s m u o tt (λ k. refl) x.1);
}

pub typed_by_pi : (t : NodeType) (r : Result StepTest Stop) (s m u : List Placed) → t ≡ node_type.Pi → Took token.OpenParen s m →
    MatchResult r (TargetRead m u) (TestFails (type_inner node_type.Pi) m u) →
    MatchResult r (TypeRead t s u) (TestFails (type_open t) s u)
typed_by_pi t r s m u is o h =
    let Q : NodeType → Type 0 = λ x. MatchResult r (TypeRead x s u) (TestFails (type_open x) s u) in
    subst Q (sym is) (MatchResult-weaker r h (λ it x. typed_pi s m u it o x) (λ why x. typed_pi_fails s m u why o x))

pub star_read : (s u : List Placed) → Took token.Star s u → TestRead s u test.Star
star_read s u r = record {
  tests = subst (λ t. IsTest t u test.Star) (sym r.is) (star_test r.placed u r.token);
  shorter = took_shorter token.Star s u r;
}

-- want of memory is no failure of a node test
no_memory_fails : (s u : List Placed) (why : Stop) → why ≡ stop.Memory → TestFails need_test s u why
no_memory_fails s u why is = record { stops = λ nm. absurd (subst IsNoMemory is nm) }

pub prefix_read : (r : Result StepTest Stop) (s u : List Placed) (prefix : List ℕ) →
    MatchResult r (λ it. it ≡ test.InPrefix prefix) (λ why. why ≡ stop.Memory) → Took (token.PrefixStar prefix) s u →
    MatchResult r (TestRead s u) (TestFails need_test s u)
prefix_read r s u prefix h o = MatchResult-weaker r h
    (λ it is. record {
      tests = subst (λ i. IsTest s u i) (sym is) (subst (λ t. IsTest t u (test.InPrefix prefix)) (sym o.is) (prefix_test o.placed u prefix o.token));
      shorter = took_shorter (token.PrefixStar prefix) s u o;
    })
    (no_memory_fails s u)

pub name_read : (r : Result StepTest Stop) (s u : List Placed) (name : List ℕ) →
    MatchResult r (λ it. it ≡ name_test name) (λ why. why ≡ stop.Memory) → Took (token.Name name) s u →
    MatchResult r (TestRead s u) (TestFails need_test s u)
name_read r s u name h o = MatchResult-weaker r h
    (λ it is. record {
      tests = subst (λ i. IsTest s u i) (sym is) (subst (λ t. IsTest t u (name_test name)) (sym o.is) (named_test o.placed u name o.token));
      shorter = took_shorter (token.Name name) s u o;
    })
    (no_memory_fails s u)

pub node_read : (t : NodeType) (r : Result StepTest Stop) (s m u : List Placed) → Took (token.NodeType t) s m →
    MatchResult r (TypeRead t m u) (TestFails (type_open t) m u) →
    MatchResult r (TestRead s u) (TestFails need_test s u)
node_read t r s m u o h = MatchResult-weaker r h
    (λ it x. record {
      tests = subst (λ y. IsTest y u it) (sym o.is) (x.tests o.placed o.token);
      shorter = let a = took_shorter (token.NodeType t) s m o in let b = x.shorter in omega (arith, a, b);
    })
    (λ why x. record {
      stops = λ nm.
          let y = x.stops nm in
          (y.0, took_stops need_test (type_open t) (token.NodeType t) s m u o tt (λ k. refl) y.1);
    })

pub no_test : (k : List Bracket) (x : Token) → (x ≡ token.Star → ⊥) → ((p : List ℕ) → x ≡ token.PrefixStar p → ⊥) →
    ((n : List ℕ) → x ≡ token.Name n → ⊥) → ((t : NodeType) → x ≡ token.NodeType t → ⊥) → turn need_test k x ≡ None
no_test k token.Star a b c d = absurd (a refl)
no_test k (token.PrefixStar p) a b c d = absurd (b p refl)
no_test k (token.Name n) a b c d = absurd (c n refl)
no_test k (token.NodeType t) a b c d = absurd (d t refl)
no_test k _ a b c d = refl
