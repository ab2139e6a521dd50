-- What a shelf in memory shows.
use Rattle.std.specs.Prelude.{ℕ, List, Option, refl}
use Rattle.std.specs.Coded.{Coded, code_by, coded×, coded_list, coded_option, coded_ℕ}
use Rattle.std.specs.FinMap as map
use Rattle.sch_io.specs.Calls.{CallPlan}
use Rattle.sch_io.specs.Files.{Files}

-- the files held, what is left of the open one, how many of its bytes were read; the names that were opened, and of the
-- files whose end was told; how many bytes a read gives at most, where a number is set; the calls, and the faults and
-- misses so far
pub record Shelved : Type 0 where
  pub files : Files
  pub rest : List ℕ
  pub taken : ℕ
  pub opened : List (List ℕ)
  pub ends : List (List ℕ)
  pub most : Option ℕ
  pub calls : CallPlan
  pub faults : ℕ
  pub misses : ℕ

abbrev calls_code : Coded CallPlan
calls_code = code_by (ℕ × List ℕ) (coded× coded_ℕ (coded_list coded_ℕ)) (λ c. (c.made, c.failing)) (λ p. record { made = p.0; failing = p.1 }) (λ _. refl)

-- it is stored as the tuple of its fields
abbrev pub shelved_code : Coded Shelved
shelved_code =
    code_by (Files × (List ℕ × (ℕ × (List (List ℕ) × (List (List ℕ) × (Option ℕ × (CallPlan × (ℕ × ℕ))))))))
    (coded× (map.code (coded_list coded_ℕ) (coded_list coded_ℕ)) (coded× (coded_list coded_ℕ) (coded× coded_ℕ (coded× (coded_list (coded_list coded_ℕ)) (coded× (coded_list (coded_list coded_ℕ)) (coded× (coded_option coded_ℕ) (coded× calls_code (coded× coded_ℕ coded_ℕ))))))))
    (λ s. (s.files, (s.rest, (s.taken, (s.opened, (s.ends, (s.most, (s.calls, (s.faults, s.misses)))))))))
    (λ p. record { files = p.0; rest = p.1.0; taken = p.1.1.0; opened = p.1.1.1.0; ends = p.1.1.1.1.0; most = p.1.1.1.1.1.0; calls = p.1.1.1.1.1.1.0; faults = p.1.1.1.1.1.1.1.0; misses = p.1.1.1.1.1.1.1.1 })
    (λ _. refl)
