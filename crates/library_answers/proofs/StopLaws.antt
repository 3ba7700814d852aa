-- Where reading stops at a record, the bytes have a fault.
use Rattle.std.proofs.Common.{◌≡◌, ◌≢◌, ◌⊎◌, inl, inr, ℕ, ◌+◌, ◌-◌, ◌*◌, List, length, drop, Option, Some, None, refl, arith}
use Rattle.std.proofs.lemmas.Bool.{cases_lt, cases_eq}
use Rattle.std.proofs.lemmas.Option.{same_Some}
use Rattle.gds_records.specs.declared.code.TheConstants.{XY}
use Rattle.gds_records.specs.declared.error.Demand.{Demand}
use Rattle.gds_records.specs.declared.error.Demand.TheVariants.{Plain, Units, Outline, Transform, Track, NewName}
use Rattle.gds_records.specs.declared.error.Fault.{Fault}
use Rattle.gds_records.specs.declared.error.Fault.TheVariants.{BadRecord, NotInPlace, Unmet}
use Rattle.gds_records.specs.Bytes.{records_of, length_in}
use Rattle.gds_library.specs.declared.fault.GdsFault.TheVariants as fault
use Rattle.gds_library.specs.FirstFault.{IsCutShort}
use Rattle.gds_library.specs.ReadFault.{wanted_before, Miscounts, unmet_fault_of}
use Rattle.gds_library.proofs.StandLaws.{Stuck}
use Rattle.gds_library.proofs.NamedLaws.{at_short, at_unformed, at_miscounted, at_misplaced, at_unmet}
use Rattle.library_answers.specs.LibraryAnswers.{HasLibraryAnswer}

-- bytes are cut short or aren't
short_or_not : (rest : List ℕ) → IsCutShort rest ⊎ (IsCutShort rest → ⊥)
short_or_not rest = elim (cases_lt (length rest) 4) [
  | inl few ↦ inl (inl few)
  | inr four ↦ elim (cases_lt (length rest) (length_in rest)) [
    | inl less ↦ inl (inr less)
    | inr all ↦ inr (λ short. elim short [ inl few ↦ omega (arith, four, few) | inr less ↦ omega (arith, all, less) ])
  ]
]

-- a record has another number of points than is wanted or hasn't
miscounts_or_not : (wanted : Option ℕ) (code size : ℕ) → Miscounts wanted code size ⊎ (Miscounts wanted code size → ⊥)
miscounts_or_not None code size = inr (λ m. let none : None ≡ Some m.count = m.is in absurd cc)
miscounts_or_not (Some count) code size = elim (cases_eq code XY) [
  | inr other ↦ inr (λ m. other m.named)
  | inl named ↦ elim (cases_eq size (8 * count + 4)) [
    | inr other ↦ inl (record { count = count; named = named; is = refl; other = other })
    | inl same ↦ inr (λ m. let one = same_Some count m.count m.is in m.other (omega (arith, same, one)))
  ]
]

unmet_stays : (at code : ℕ) (d : Demand) → unmet_fault_of at code d ≢ fault.Memory
unmet_stays at code Plain = λ e. absurd cc
unmet_stays at code Units = λ e. absurd cc
unmet_stays at code Outline = λ e. absurd cc
unmet_stays at code Transform = λ e. absurd cc
unmet_stays at code Track = λ e. absurd cc
unmet_stays at code NewName = λ e. absurd cc

module _ (bytes : List ℕ) (left code : ℕ) where
  abbrev rest : List ℕ
  rest = drop (length bytes - left) bytes

  abbrev IsMiscounted : Type 0
  IsMiscounted = Miscounts (wanted_before left None (records_of bytes)) code (length_in rest)

  unformed_here : Stuck bytes left code BadRecord → IsCutShort rest ⊎ (IsCutShort rest → ⊥) → HasLibraryAnswer bytes
  unformed_here s (inl short) = inr (fault.Truncated (length bytes - left), (λ e. absurd cc), at_short bytes left code BadRecord s short)
  unformed_here s (inr long) = inr (fault.BadRecord (length bytes - left) code, (λ e. absurd cc), at_unformed bytes left code s long)

  misplaced_here : Stuck bytes left code NotInPlace → IsMiscounted ⊎ (IsMiscounted → ⊥) → HasLibraryAnswer bytes
  misplaced_here s (inl m) =
      inr (fault.BadRecord (length bytes - left) code, (λ e. absurd cc), at_miscounted bytes left code NotInPlace s (λ e. absurd cc) m)
  misplaced_here s (inr right) = inr (fault.NotInPlace (length bytes - left) code, (λ e. absurd cc), at_misplaced bytes left code s right)

  unmet_here : (d : Demand) → Stuck bytes left code (Unmet d) → IsMiscounted ⊎ (IsMiscounted → ⊥) → HasLibraryAnswer bytes
  unmet_here d s (inl m) =
      inr (fault.BadRecord (length bytes - left) code, (λ e. absurd cc), at_miscounted bytes left code (Unmet d) s (λ e. absurd cc) m)
  unmet_here d s (inr right) =
      inr (unmet_fault_of (length bytes - left) code d, unmet_stays (length bytes - left) code d, at_unmet bytes left code d s right)

  pub stuck_answer : (k : Fault) → Stuck bytes left code k → HasLibraryAnswer bytes
  stuck_answer BadRecord s = unformed_here s (short_or_not rest)
  stuck_answer NotInPlace s = misplaced_here s (miscounts_or_not (wanted_before left None (records_of bytes)) code (length_in rest))
  stuck_answer (Unmet d) s = unmet_here d s (miscounts_or_not (wanted_before left None (records_of bytes)) code (length_in rest))
