-- Words are put in first; a key that is put in has its number, and so has its name.
use Rattle.doc_names.proofs.NameLemmas.{names-kept, below-more, below-insert, numbered-map, on_err}
use Rattle.doc_names.proofs.NumberLemmas.{inserted, inserted-once}
use Rattle.std.proofs.Common.{◌≡◌, ℕ, Bool, List, map, map-id, sym, ap, ◌∙◌, refl, eqb, ◌&&◌, true, false, true≢false, eqb-true, eq-eqb}
use Rattle.doc_names.specs.declared.names.NameKey.{NameKey}
use Rattle.doc_names.specs.contracts.names.NameKeyPartialEq.TheImpl.{eq-value}
use Rattle.doc_names.specs.inner.Keys.{spelled}
use Rattle.doc_names.proofs.names.NameTable.number.Goals as goal

both : (a b : Bool) → (a && b) ≡ true → (a ≡ true) × (b ≡ true)
both true b h = (refl, h)
both false b h = absurd (true≢false (sym h))

-- keys are equal where their numbers are
sound : (a x : NameKey) → eq-value.it a x ≡ true → x ≡ a
sound a x h =
    let p = both (eqb a.prefix x.prefix) (eqb a.local x.local && eqb a.uri x.uri) h in
    let q = both (eqb a.local x.local) (eqb a.uri x.uri) p.1 in
    let prefix : a.prefix ≡ x.prefix = eqb-true a.prefix x.prefix p.0 in
    let local : a.local ≡ x.local = eqb-true a.local x.local q.0 in
    let uri : a.uri ≡ x.uri = eqb-true a.uri x.uri q.1 in
    sym (let e : a ≡ x = λ t. record { prefix = prefix t; local = local t; uri = uri t } in e)

complete : (a x : NameKey) → x ≡ a → eq-value.it a x ≡ true
complete a x e =
    let prefix : eqb a.prefix x.prefix ≡ true = eq-eqb a.prefix x.prefix (ap (λ k. k.prefix) (sym e)) in
    let local : eqb a.local x.local ≡ true = eq-eqb a.local x.local (ap (λ k. k.local) (sym e)) in
    let uri : eqb a.uri x.uri ≡ true = eq-eqb a.uri x.uri (ap (λ k. k.uri) (sym e)) in
    rw (prefix, local, uri) refl

pub invariant_of-self : goal.invariant_of-self
invariant_of-self c = (c.self.invariant.0, below-more _ _ c.self.inside.keys.keys c.key_of.ensures.extended.longer c.self.invariant.1)

pub returns-in_err-key-clause-unchanged : goal.returns-in_err-key-clause-unchanged
returns-in_err-key-clause-unchanged c =
    on_err _ _ (names-kept c.self.inside.words c.key_of.new.words c.self.inside.keys.keys c.key_of.ensures.extended c.self.invariant.1 ∙ c.self.view_is)

pub invariant_of-self-in_err-index : goal.invariant_of-self-in_err-index
invariant_of-self-in_err-index c =
    rw c.in_err-index.ensures.err (c.self.invariant.0, below-more _ _ c.self.inside.keys.keys c.key_of.ensures.extended.longer c.self.invariant.1)

pub returns-in_err-index-clause-unchanged : goal.returns-in_err-index-clause-unchanged
returns-in_err-index-clause-unchanged c =
    on_err _ _ (ap (map (spelled c.key_of.new.words)) c.in_err-index.ensures.err
    ∙ (names-kept c.self.inside.words c.key_of.new.words c.self.inside.keys.keys c.key_of.ensures.extended c.self.invariant.1 ∙ c.self.view_is))

pub invariant_of-self-2 : goal.invariant_of-self-2
invariant_of-self-2 c =
    let keys : List NameKey = c.self.inside.keys.keys in
    let once = inserted-once eq-value.it (λ (k : NameKey). k) c.in_ok-key.key (sound c.in_ok-key.key) (complete c.in_ok-key.key) keys in
    rw c.in_ok-index.ensures.keys (
      rw (map-id keys, map-id _) at once c.self.invariant.0,
      below-insert _ eq-value.it keys c.in_ok-key.key (below-more _ _ keys c.key_of.ensures.extended.longer c.self.invariant.1) c.in_ok-key.ensures.spells.is_below,
    )

pub returns-clause-numbered : goal.returns-clause-numbered
returns-clause-numbered c =
    let keys : List NameKey = c.self.inside.keys.keys in
    let words : List (List ℕ) = c.key_of.new.words in
    let put = inserted eq-value.it (λ (k : NameKey). k) c.in_ok-key.key (sound c.in_ok-key.key) (complete c.in_ok-key.key) keys in
    let key_put = rw (map-id keys, map-id _) at put in
    let name_put = numbered-map (spelled words) keys _ c.in_ok-key.key _ key_put in
    let old : map (spelled words) keys ≡ c.args.self.now = names-kept c.self.inside.words words keys c.key_of.ensures.extended c.self.invariant.1 ∙ c.self.view_is in
    rw (c.from_index.ensures, c.in_ok-index.ensures.index, c.in_ok-index.ensures.keys, ← c.in_ok-key.ensures.spells.spells, ← old) name_put
