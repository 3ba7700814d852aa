-- Which calls of a store or a sink in memory fail.
use Rattle.std.specs.Prelude.{◌≡◌, ℕ, ◌+◌, ◌-◌, ◌^◌, min, List, Bool, ◌==◌}
use Rattle.std.specs.List.{list_any}
use Rattle.or_host.specs.declared.schedule.Schedule.{Schedule}

-- no call yet, no fault, and these calls will fail
pub record IsStart (fail : List ℕ) (s : Schedule) : Type 0 where
  pub fail_is : s.fail.items ≡ fail
  pub no_call : s.calls ≡ 0
  pub no_fault : s.faults ≡ 0

-- the number of the next call, which stands still at 2^64 - 1
abbrev pub next_call : Schedule → ℕ
next_call s = min (s.calls + 1) (2 ^ 64 - 1)

-- whether the next call is to fail
abbrev pub fails_next : Schedule → Bool
fails_next s = list_any (λ n. n == next_call s) s.fail.items

-- one call later
pub record IsNextCall (old new : Schedule) : Type 0 where
  pub calls : new.calls ≡ next_call old
  pub fail : new.fail.items ≡ old.fail.items
