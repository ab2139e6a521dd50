-- What a history shows can be coded.
use Rattle.std.specs.Prelude.{ℕ, List, refl}
use Rattle.std.specs.Coded.{Coded, code_by, coded_list, coded_ℕ, coded×}
use Rattle.edit_session.specs.Standing.{Standing}
use Rattle.undo_entries.specs.declared.entry.Entry.{Entry}
use Rattle.sch_undo.specs.Remembered.{Remembered}

abbrev pub remembered_code : Coded Standing → Coded Entry → Coded Remembered
remembered_code s e =
    code_by (Standing × (List Entry × ℕ)) (coded× s (coded× (coded_list e) coded_ℕ)) (λ h. (h.session, (h.entries, h.depth)))
    (λ p. record { session = p.0; entries = p.1.0; depth = p.1.1 }) (λ _. refl)
