-- How an expression is judged by its text: the text has a first fault, or spells a tree, which has a type or a first fault.
use Rattle.std.specs.Prelude.{List, ℕ, Result, Ok, Err}
use Rattle.sch_base.specs.declared.limits.TheConstants.{MAX_NESTING}
use Rattle.xp_tree.specs.Tree.{Tree}
use Rattle.xp_grammar.specs.declared.fault.SyntaxFault.{SyntaxFault}
use Rattle.xp_typed_tree.specs.TypedTree.{TypedTree}
use Rattle.xp_syntax.specs.Syntax.{IsSyntaxFault, Spells}
use Rattle.xp_types.specs.HasType.{HasType}
use Rattle.xp_types.specs.Scope.{Scope}
use Rattle.xp_types.specs.TypeFaults.{IsFirstTypeFault}
use Rattle.xp_types.specs.declared.faults.TypeFault.{TypeFault}
use Rattle.watch_lines.specs.Watches.{JudgesText, TypesTree}
use Rattle.watch_lines.specs.declared.fault.WatchKind.{WatchKind}
use Rattle.watch_lines.specs.declared.fault.WatchKind.TheVariants.{BadChar, BadWord, BadPrefix, TooLong, TooMany, Syntax, Types}

pub data IsTyped (S : Scope) (e : Tree) : Result TypedTree WatchKind → Type 0 where
  has_type : (t : TypedTree) → HasType S e t → IsTyped S e (Ok t)
  has_fault : (f : TypeFault) → IsFirstTypeFault S e f → IsTyped S e (Err (Types f))

pub is-typed : (S : Scope) (e : Tree) (r : Result TypedTree WatchKind) → TypesTree S e r → IsTyped S e r
is-typed S e (Ok t) h = has_type t h
is-typed S e (Err (Types f)) h = has_fault f h
is-typed S e (Err BadChar) h = absurd h
is-typed S e (Err BadWord) h = absurd h
is-typed S e (Err BadPrefix) h = absurd h
is-typed S e (Err TooLong) h = absurd h
is-typed S e (Err TooMany) h = absurd h
is-typed S e (Err (Syntax f)) h = absurd h

pub data IsJudged (S : Scope) (text : List ℕ) : Result TypedTree WatchKind → Type 0 where
  misspelled : (f : SyntaxFault) → IsSyntaxFault MAX_NESTING text f.kind f.offset → IsJudged S text (Err (Syntax f))
  spelled : (e : Tree) (r : Result TypedTree WatchKind) → Spells MAX_NESTING text e → IsTyped S e r → IsJudged S text r

pub is-judged : (S : Scope) (text : List ℕ) (r : Result TypedTree WatchKind) → JudgesText S text r → IsJudged S text r
is-judged S text (Err (Syntax f)) h = misspelled f h
is-judged S text (Ok t) h = spelled h.0 (Ok t) h.1 (is-typed S h.0 (Ok t) h.2)
is-judged S text (Err (Types f)) h = spelled h.0 (Err (Types f)) h.1 (is-typed S h.0 (Err (Types f)) h.2)
is-judged S text (Err BadChar) h = absurd h.2
is-judged S text (Err BadWord) h = absurd h.2
is-judged S text (Err BadPrefix) h = absurd h.2
is-judged S text (Err TooLong) h = absurd h.2
is-judged S text (Err TooMany) h = absurd h.2
