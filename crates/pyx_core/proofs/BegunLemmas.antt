-- Facts on the events that are kept.
use Rattle.std.proofs.Common.{◌≡◌, List, [], ◌∷◌, ◌++◌, None, Result, Ok, Err, sym, ◌∙◌, ap, append_assoc}
use Rattle.std.proofs.lemmas.List.{append-nil}
use Rattle.pyx_core.specs.declared.begun.Events.{Events}
use Rattle.pyx_core.specs.declared.event.Located.{Located}
use Rattle.pyx_core.specs.Fronts.{IsFront}
use Rattle.pyx_core.specs.inner.Begun.{shown, Puts, Collected, Goes}

-- a front of the events is a front of more of them
pub front_longer : (front done : List Located) (more again : List Located) → IsFront front (done ++ more) →
    IsFront front (done ++ (more ++ again))
front_longer front done more again is = record {
  later = is.later ++ again;
  is = sym (append_assoc done more again) ∙ (ap (λ l. l ++ again) is.is ∙ append_assoc front is.later again);
}

pub front_more : (front done again : List Located) → IsFront front done → IsFront front (done ++ again)
front_more front done again is = record {
  later = is.later ++ again;
  is = ap (λ l. l ++ again) is.is ∙ append_assoc front is.later again;
}

pub front_of : (front done more : List Located) → front ≡ done → IsFront front (done ++ more)
front_of front done more is = record { later = more; is = ap (λ l. l ++ more) (sym is) }

pub front_all : (front done : List Located) → front ≡ done → IsFront front done
front_all front done is = record { later = []; is = sym is ∙ sym (append-nil front) }

-- one event more after those completed
pub goes_put : {T E : Type 0} (mid new : Events) (taken done more : List Located) (one : Located) (result : Result T E) →
    Collected mid taken (done ++ more) None → shown new.begun ≡ None →
    Puts mid.waiting.items new.waiting.items (one ∷ []) result → Goes new taken done (more ++ one ∷ []) None result
goes_put mid new taken done more one (Ok x) tells begun puts = record {
  completed = ap (λ l. taken ++ l) puts ∙ (sym (append_assoc taken mid.waiting.items (one ∷ []))
      ∙ (ap (λ l. l ++ one ∷ []) tells.completed ∙ append_assoc done more (one ∷ [])));
  begun_is = begun;
}
goes_put mid new taken done more one (Err e) tells begun puts = record {
  later = one ∷ [];
  is = sym (append_assoc done more (one ∷ [])) ∙ ap (λ l. l ++ one ∷ []) (sym tells.completed ∙ ap (λ l. taken ++ l) (sym puts));
}
