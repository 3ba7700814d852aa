-- The reader's result on the records of some bytes, as a library or a fault of the bytes.
use Rattle.std.proofs.Common.{◌≡◌, inl, inr, ℕ, zero, suc, ◌-◌, ◌≤◌, ◌^◌, List, [], ◌∷◌, length, Result, Ok, Err, refl, sym, ap, ◌∙◌, arith}
use Rattle.gds_records.specs.declared.error.RecordError.{RecordError}
use Rattle.gds_records.specs.declared.error.RecordError.TheVariants.{Short, At, Memory}
use Rattle.gds_records.specs.Record.{StreamRecord}
use Rattle.gds_records.specs.Bytes.{AreBytes, records_of}
use Rattle.gds_records.proofs.BytesLaws.{few_records}
use Rattle.gds_records.proofs.FileLaws.{is_spelled}
use Rattle.gds_records.proofs.SpellingLaws.{splits}
use Rattle.gds_library.specs.declared.fault.GdsFault.TheVariants as fault
use Rattle.gds_library.specs.declared.library.Library.{Library}
use Rattle.gds_library.specs.Grammar.{library}
use Rattle.gds_library.specs.ReadLibrary.{library_at}
use Rattle.gds_library.specs.ReadFault.{SkipsZeros, IsZeroNever}
use Rattle.gds_library.proofs.LibraryLaws.{library_part}
use Rattle.gds_library.proofs.StandLaws.{stuck}
use Rattle.gds_library.proofs.NamedLaws.{at_end, at_trailing, all_zero}
use Rattle.library_answers.specs.LibraryAnswers.{HasLibraryAnswer, LibraryAnswersAreThere}
use Rattle.library_answers.proofs.StopLaws.{stuck_answer}

-- what follows the zero bytes
record Tail (bytes : List ℕ) : Type 0 where
  tail : List ℕ
  skips : SkipsZeros bytes tail
  never : IsZeroNever tail

after_zeros : (bytes : List ℕ) → Tail bytes
after_zeros [] = record { tail = []; skips = record { zeros = []; parts = refl; zero = tt }; never = tt }
after_zeros (zero ∷ bytes) =
    let t = after_zeros bytes in
    let parts = ap (λ (l : List ℕ). 0 ∷ l) t.skips.parts in
    record { tail = t.tail; skips = record { zeros = 0 ∷ t.skips.zeros; parts = parts; zero = (refl, t.skips.zero) }; never = t.never }
after_zeros (suc n ∷ bytes) =
    record { tail = suc n ∷ bytes; skips = record { zeros = []; parts = refl; zero = tt }; never = λ e. omega (arith, e) }

module _ (bytes : List ℕ) (are : AreBytes bytes) (fits : length bytes ≤ 2 ^ 64) where
  -- a library was read, and these bytes are left
  after_library : (lib : Library) (rest : List ℕ) → AreBytes rest → library_at (records_of bytes) ≡ Ok (lib, records_of rest)
      → (tail : List ℕ) → SkipsZeros rest tail → IsZeroNever tail → HasLibraryAnswer bytes
  after_library lib rest some is [] skips never =
      inl (lib, is_spelled library library_at bytes rest lib library_part are fits is (all_zero rest [] skips refl))
  after_library lib rest some is (b ∷ more) skips never =
      inr (
        fault.TrailingBytes (length bytes - length (b ∷ more)),
        (λ e. absurd cc),
        at_trailing bytes rest (b ∷ more) lib are some fits is skips never (omega arith),
      )

  -- the records that are left are those of the bytes that are left
  library_answer : (lib : Library) (es : List StreamRecord) → library_at (records_of bytes) ≡ Ok (lib, es) → HasLibraryAnswer bytes
  library_answer lib es is =
      let few = few_records bytes in
      let t = library_part.takes (records_of bytes) lib es (omega (arith, few, fits)) is in
      let s = splits bytes t.front es are t.formed t.parts in
      let same : Ok (lib, es) ≡ Ok (lib, records_of s.rest) = ap (λ (left : List StreamRecord). Ok (lib, left)) (sym s.records) in
      let z = after_zeros s.rest in
      after_library lib s.rest s.are (is ∙ same) z.tail z.skips z.never

  answer_by : (read : Result (Library × List StreamRecord) RecordError) → library_at (records_of bytes) ≡ read → HasLibraryAnswer bytes
  answer_by (Ok r) is = library_answer r.0 r.1 is
  answer_by (Err Short) is = inr (fault.Truncated (length bytes), (λ e. absurd cc), at_end bytes are fits is)
  answer_by (Err (At left code k)) is = stuck_answer bytes left code k (stuck bytes left code k are fits is)
  answer_by (Err Memory) is =
      let few = few_records bytes in
      library_part.stops (records_of bytes) Memory (omega (arith, few, fits)) is (HasLibraryAnswer bytes)

pub library_answers_are_there : LibraryAnswersAreThere
library_answers_are_there bytes are fits = answer_by bytes are fits (library_at (records_of bytes)) refl
