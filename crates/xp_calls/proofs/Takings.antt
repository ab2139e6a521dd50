-- String-values taken one after another.
use Rattle.std.proofs.Common.{◌≡◌, ℕ, suc, ◌+◌, List, [], ◌∷◌, ◌++◌, map, length, sym, ◌∙◌, ap, arith, Result, Ok, Err}
use Rattle.doc_tree.specs.Table.{Table}
use Rattle.xp_outcome.specs.Evaluation.{Read, Evaluation, done, behind, bind, visit, visits, reading, all_reading}
use Rattle.xp_outcome.proofs.Outcomes.{behind-behind, behind-nothing, bind-all_reading, bind-visits, bind-done}
use Rattle.xp_outcome.specs.Recorded.{Recorded}
use Rattle.xp_outcome.specs.Running.{Stop, Ran}
use Rattle.xp_outcome.proofs.Runs.{ran_alike, ran_stop, ran_bind}
use Rattle.xp_meaning.specs.Reads.{text_read, taking}

same_count : (k : ℕ) → 0 + suc k ≡ 0 + (1 + (0 + k))
same_count k = omega arith

module _ {F A : Type 0} (T : Table) where
  pub taking_none : (m : Evaluation F A) → taking T [] m ≡ m
  unfolding taking all_reading visits
  taking_none m = behind-nothing (behind [] 0 m) ∙ behind-nothing m

  pub taking_more : (n : ℕ) (ns : List ℕ) (m : Evaluation F A) → taking T (n ∷ ns) m ≡ reading (text_read T n) (visit (taking T ns m))
  unfolding taking all_reading visits visit reading
  taking_more n ns m =
      let rs : List Read = map (text_read T) ns in
      behind-behind (text_read T n ∷ rs) [] 0 (suc (length ns)) m
      ∙ ap (λ k. behind (text_read T n ∷ (rs ++ [])) k m) (same_count (length ns))
      ∙ sym (behind-behind (text_read T n ∷ []) ([] ++ (rs ++ [])) 0 (1 + (0 + length ns)) m)
      ∙ ap (λ o. behind (text_read T n ∷ []) 0 o) (sym (behind-behind [] (rs ++ []) 1 (0 + length ns) m))
      ∙ ap (λ o. behind (text_read T n ∷ []) 0 (behind [] 1 o)) (sym (behind-behind rs [] 0 (length ns) m))

  pub bind-taking : {B : Type 0} (ns : List ℕ) (m : Evaluation F A) (next : A → Evaluation F B) → bind (taking T ns m) next ≡ taking T ns (bind m next)
  unfolding taking
  bind-taking ns m next =
      bind-all_reading (map (text_read T) ns) (visits (length ns) m) next ∙ ap (λ o. all_reading (map (text_read T) ns) o) (bind-visits (length ns) m next)

-- what is taken, and then the rest
pub taking_then : {F A : Type 0} (T : Table) (ns : List ℕ) (m : Evaluation F A) → taking T ns m ≡ bind (taking T ns (done {F = F} {A = Unit {0}} tt)) (λ _. m)
taking_then {F} {A} T ns m =
    ap (λ (o : Evaluation F A). taking T ns o) (sym (bind-done {F = F} {A = Unit {0}} tt (λ _. m))) ∙ sym (bind-taking T ns (done {F = F} {A = Unit {0}} tt) (λ _. m))

module _ {F A : Type 0} (T : Table) (ns ms : List ℕ) (m : Evaluation F A) (same : ms ≡ ns) {held now : Recorded} {before mid : ℕ} where
  -- the taking stopped
  pub taken_err : (e : Stop F) → Ran (taking T ms (done {F = F} {A = Unit {0}} tt)) (Err e) held now before mid → Ran (taking T ns m) (Err e) held now before mid
  taken_err e h = ran_alike (ap (λ ks. taking T ks m) (sym same) ∙ taking_then T ms m) (ran_stop (λ _. m) e h)

  -- the taking was done, and then the rest
  pub taken_ok : {u : Unit {0}} {r : Result A (Stop F)} {later : Recorded} {after : ℕ} → Ran (taking T ms (done {F = F} {A = Unit {0}} tt)) (Ok u) held now before mid →
      Ran m r now later mid after → Ran (taking T ns m) r held later before after
  taken_ok {u} h rest = ran_alike (ap (λ ks. taking T ks m) (sym same) ∙ taking_then T ms m) (ran_bind (λ _. m) {v = u} h rest)

-- what is taken of two lists
pub taking-append : {F A : Type 0} (T : Table) (ns ms : List ℕ) (m : Evaluation F A) → taking T (ns ++ ms) m ≡ taking T ns (taking T ms m)
taking-append T [] ms m = sym (taking_none T (taking T ms m))
taking-append T (n ∷ ns) ms m =
    taking_more T n (ns ++ ms) m ∙ ap (λ o. reading (text_read T n) (visit o)) (taking-append T ns ms m) ∙ sym (taking_more T n ns (taking T ms m))
