-- What stands under the keys of a configuration, by kinds of values.
use Rattle.std.specs.Prelude.{◌==◌, ℕ, ℤ, pos, negsuc, ◌%◌, Bool, List, Result, Ok, Err, if◌then◌else◌}
use Rattle.std.specs.List.{list_any}
use Rattle.toml_keys.specs.Fault.{◌>>=◌}
use Rattle.toml_keys.specs.Keys.{Section, has_key, out_of_range, number_under, text_under}
use Rattle.sram_plan.specs.declared.fault.ConfigFault.{ConfigFault}
use Rattle.sram_plan.specs.Config.{is_file_text, is_output_name}

abbrev pub natural : ℤ → ℕ
natural (pos n) = n
natural (negsuc n) = 0

-- a whole number from low to high
abbrev pub natural_under : ℕ → ℕ → Section ConfigFault → List ℕ → Result ℕ ConfigFault
natural_under low high s key = number_under (pos low) (pos high) s key >>= λ z. Ok (natural z)

-- a value that is allowed
abbrev pub allowed : {X : Type 0} → Bool → X → Section ConfigFault → List ℕ → Result X ConfigFault
allowed is_allowed x s key = if is_allowed then Ok x else Err (out_of_range s key)

-- one of these numbers
unfoldable pub listed_under : List ℕ → Section ConfigFault → List ℕ → Result ℕ ConfigFault
listed_under values s key = natural_under 0 4294967295 s key >>= λ n. allowed (list_any (λ v. v == n) values) n s key

-- the same, or this number where the key isn't there
abbrev pub listed_or : ℕ → List ℕ → Section ConfigFault → List ℕ → Result ℕ ConfigFault
listed_or absent values s key = if has_key s key then listed_under values s key else Ok absent

-- a number that divides another, or that number where the key isn't there
unfoldable pub divisor_under : ℕ → Section ConfigFault → List ℕ → Result ℕ ConfigFault
divisor_under whole s key = natural_under 1 whole s key >>= λ n. allowed (whole % n == 0) n s key

abbrev pub divisor_or_whole : ℕ → Section ConfigFault → List ℕ → Result ℕ ConfigFault
divisor_or_whole whole s key = if has_key s key then divisor_under whole s key else Ok whole

-- a text that files may be named by
unfoldable pub file_text_under : Section ConfigFault → List ℕ → Result (List ℕ) ConfigFault
file_text_under s key = text_under s key >>= λ text. allowed (is_file_text text) text s key

-- a text that subcircuits may be named by
unfoldable pub output_name_under : Section ConfigFault → List ℕ → Result (List ℕ) ConfigFault
output_name_under s key = text_under s key >>= λ text. allowed (is_output_name text) text s key
