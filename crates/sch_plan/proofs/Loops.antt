-- What the loops over lists keep: whoever walks the rest has walked the whole.
use Rattle.std.proofs.Common.{◌≡◌, ℕ, List, [], ◌∷◌, ◌++◌, ◌+◌, ◌<◌, ◌≤◌, length, drop, get_or, Result, Ok, Err, refl, sym, ap, ◌∙◌, subst, inl, inr, append_assoc, append-nil, suc, arith}
use Rattle.std.proofs.lemmas.List.{drop_all}
use Rattle.std.proofs.Math.Seq.{drop-cons}
use Rattle.std.proofs.Math.Numerals.{add-one}
use Rattle.sch_model.specs.declared.fault.SchemaError.{SchemaError}
use Rattle.sch_model.specs.declared.fault.SchemaError.TheVariants.{Fault, Memory}
use Rattle.sch_model.specs.declared.fault.SchemaFault.{SchemaFault}
use Rattle.sch_phases.specs.Walk.{Answers, Stretch, Then, each, every, goes}

pub nothing-left : {A : Type 0} (xs : List A) → length xs ≡ 0 → xs ≡ []
nothing-left [] e = refl
nothing-left (x ∷ xs) e = absurd (cc)

-- one item fewer is left
pub one-fewer : {A : Type 0} (xs more : List A) (x : A) (m n : ℕ) → xs ≡ x ∷ more → n + 1 ≡ m → m ≡ length xs → n ≡ length more
one-fewer xs more x m n is less long = let e : length xs ≡ suc (length more) = ap length is in omega (arith, e, less, long)

-- the item at a place, and those after it
pub drop-at : {A : Type 0} (xs : List A) (i : ℕ) (x : A) → i < length xs → x ≡ get_or xs i x → drop i xs ≡ x ∷ drop (i + 1) xs
drop-at xs i x less is = drop-cons xs i x less ∙ (λ j. sym is j ∷ drop (sym (add-one i) j) xs)

pub none-left : {A : Type 0} (xs : List A) (i : ℕ) → length xs ≤ i → length (drop i xs) ≡ 0
none-left xs i least = ap length (drop_all i xs least)

pub record EveryLeft {A B : Type 0} (act : A → Stretch B) (all : List A) (done : List B) (rest : List A) : Type 0 where
  pub whole : (r : Result (List B) SchemaFault) → Then (every act rest) (λ ys. goes (done ++ ys)) r → every act all r

module _ {A B : Type 0} (act : A → Stretch B) (all : List A) where
  pub every_begin : EveryLeft act all [] all
  every_begin = record { whole = begin }
    where
      begin : (r : Result (List B) SchemaFault) → Then (every act all) (λ ys. goes ([] ++ ys)) r → every act all r
      begin r h = elim h.either [ inl g ↦ subst (every act all) (sym g.2) g.1 | inr g ↦ subst (every act all) (sym g.2) g.1 ]

  every_next : (done : List B) (x : A) (rest : List A) (y : B) → EveryLeft act all done (x ∷ rest) → act x (Ok y) → EveryLeft act all (done ++ y ∷ []) rest
  every_next done x rest y left here = record { whole = λ r h. left.whole r (onto r h) }
    where
      onto : (r : Result (List B) SchemaFault) → Then (every act rest) (λ ys. goes ((done ++ y ∷ []) ++ ys)) r →
          Then (Then (act x) (λ z. Then (every act rest) (λ ys. goes (z ∷ ys)))) (λ ys. goes (done ++ ys)) r
      onto r h = elim h.either [
        | inl g ↦ record { either = inl (g.0, record { either = inr (y, here, record { either = inl (g.0, g.1, refl) }) }, g.2) }
        | inr g ↦ record { either = inr (y ∷ g.0, record { either = inr (y, here, record { either = inr (g.0, g.1, refl) }) }, g.2 ∙ ap Ok (append_assoc done (y ∷ []) g.0)) }
      ]

  every_stop : (done : List B) (x : A) (rest : List A) (f : SchemaFault) → EveryLeft act all done (x ∷ rest) → act x (Err f) → every act all (Err f)
  every_stop done x rest f left here = left.whole (Err f) (record { either = inl (f, record { either = inl (f, here, refl) }, refl) })

  -- one more
  pub every_go : (items more : List A) (x : A) (done now : List B) (y : B) → EveryLeft act all done items → items ≡ x ∷ more → Answers (act x) (Ok y) →
      now ≡ done ++ y ∷ [] → EveryLeft act all now more
  every_go items more x done now y left is here pushed =
      subst (λ l. EveryLeft act all l more) (sym pushed) (every_next done x more y (subst (EveryLeft act all done) is left) here.given)

  -- none, with what is left as it is
  pub every_same : (items more : List A) (done now : List B) → EveryLeft act all done items → items ≡ more → now ≡ done → EveryLeft act all now more
  every_same items more done now left is same = subst (λ l. EveryLeft act all l more) (sym same) (subst (EveryLeft act all done) is left)

  -- an item stopped
  pub every_refused : (items more : List A) (x : A) (done : List B) (e : SchemaError) → EveryLeft act all done items → items ≡ x ∷ more → Answers (act x) (Err e) →
      Answers (every act all) (Err e)
  every_refused items more x done (Fault f) left is here = record { given = every_stop done x more f (subst (EveryLeft act all done) is left) here.given }
  every_refused items more x done Memory left is here = record { given = tt }

  -- nothing is left
  pub every_end : (items : List A) (done : List B) → EveryLeft act all done items → length items ≡ 0 → Answers (every act all) (Ok done)
  every_end items done left none =
      let at_end : EveryLeft act all done [] = subst (EveryLeft act all done) (nothing-left items none) left in
      record { given = at_end.whole (Ok done) (record { either = inr ([], refl, ap Ok (sym (append-nil done))) }) }

pub record EachLeft {S A B : Type 0} (act : S → A → Stretch (S × B)) (first : S) (all : List A) (s : S) (done : List B) (rest : List A) : Type 0 where
  pub whole : (r : Result (S × List B) SchemaFault) → Then (each act s rest) (λ more. goes (more.0, done ++ more.1)) r → each act first all r

module _ {S A B : Type 0} (act : S → A → Stretch (S × B)) (first : S) (all : List A) where
  pub each_begin : EachLeft act first all first [] all
  each_begin = record { whole = begin }
    where
      begin : (r : Result (S × List B) SchemaFault) → Then (each act first all) (λ more. goes (more.0, [] ++ more.1)) r → each act first all r
      begin r h = elim h.either [ inl g ↦ subst (each act first all) (sym g.2) g.1 | inr g ↦ subst (each act first all) (sym g.2) g.1 ]

  each_next : (s : S) (done : List B) (x : A) (rest : List A) (t : S) (y : B) → EachLeft act first all s done (x ∷ rest) → act s x (Ok (t, y)) →
      EachLeft act first all t (done ++ y ∷ []) rest
  each_next s done x rest t y left here = record { whole = λ r h. left.whole r (onto r h) }
    where
      onto : (r : Result (S × List B) SchemaFault) → Then {A = S × List B} {B = S × List B} (each act t rest) (λ more. goes (more.0, (done ++ y ∷ []) ++ more.1)) r →
          Then {A = S × List B} {B = S × List B} (Then {A = S × B} {B = S × List B} (act s x) (λ one. Then {A = S × List B} {B = S × List B} (each act one.0 rest) (λ more. goes (more.0, one.1 ∷ more.1)))) (λ more. goes (more.0, done ++ more.1)) r
      onto r h = elim h.either [
        | inl g ↦ record { either = inl (g.0, record { either = inr ((t, y), here, record { either = inl (g.0, g.1, refl) }) }, g.2) }
        | inr g ↦ record { either = inr ((g.0.0, y ∷ g.0.1), record { either = inr ((t, y), here, record { either = inr (g.0, g.1, refl) }) }, g.2 ∙ ap (λ l. Ok (g.0.0, l)) (append_assoc done (y ∷ []) g.0.1)) }
      ]

  each_stop : (s : S) (done : List B) (x : A) (rest : List A) (f : SchemaFault) → EachLeft act first all s done (x ∷ rest) → act s x (Err f) → each act first all (Err f)
  each_stop s done x rest f left here = left.whole (Err f) (record { either = inl (f, record { either = inl (f, here, refl) }, refl) })

  -- one more
  pub each_go : (items more : List A) (x : A) (s t : S) (done now : List B) (y : B) → EachLeft act first all s done items → items ≡ x ∷ more → Answers (act s x) (Ok (t, y)) →
      now ≡ done ++ y ∷ [] → EachLeft act first all t now more
  each_go items more x s t done now y left is here pushed =
      subst (λ l. EachLeft act first all t l more) (sym pushed) (each_next s done x more t y (subst (EachLeft act first all s done) is left) here.given)

  -- an item stopped
  pub each_refused : (items more : List A) (x : A) (s : S) (done : List B) (e : SchemaError) → EachLeft act first all s done items → items ≡ x ∷ more → Answers (act s x) (Err e) →
      Answers (each act first all) (Err e)
  each_refused items more x s done (Fault f) left is here = record { given = each_stop s done x more f (subst (EachLeft act first all s done) is left) here.given }
  each_refused items more x s done Memory left is here = record { given = tt }

  -- nothing is left
  pub each_end : (items : List A) (s : S) (done : List B) → EachLeft act first all s done items → length items ≡ 0 → Answers (each act first all) (Ok (s, done))
  each_end items s done left none =
      let at_end : EachLeft act first all s done [] = subst (EachLeft act first all s done) (nothing-left items none) left in
      record { given = at_end.whole (Ok (s, done)) (record { either = inr ((s, []), refl, ap (λ l. Ok (s, l)) (sym (append-nil done))) }) }
