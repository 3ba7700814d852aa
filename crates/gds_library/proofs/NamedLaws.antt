-- Each fault by its name.
use Rattle.std.proofs.Common.{◌≡◌, ◌⊎◌, inl, inr, ◌↔◌, ℕ, ◌+◌, ◌-◌, ◌/◌, ◌%◌, ◌<◌, ◌≤◌, List, [], ◌∷◌, ◌++◌, length, drop, Bool, true, false, cond, leb, Option, Some, None, Ok, Err, refl, sym, ap, subst, ◌∙◌, arith}
use Rattle.std.proofs.lemmas.List.{length-append, append-nil}
use Rattle.std.proofs.lemmas.Bool.{le-leb, leb-false, lt-leb}
use borrow.Author.Tests.{leb-true}
use Rattle.gds_records.specs.declared.error.Demand.{Demand}
use Rattle.gds_records.specs.declared.error.Demand.TheVariants.{Plain, Units, Outline, Transform, Track, NewName}
use Rattle.gds_records.specs.declared.error.Fault.{Fault}
use Rattle.gds_records.specs.declared.error.Fault.TheVariants.{BadRecord, NotInPlace, Unmet}
use Rattle.gds_records.specs.declared.error.RecordError.TheVariants.{Short}
use Rattle.gds_records.specs.Record.{StreamRecord, is_formed, AreFormed}
use Rattle.gds_records.specs.Bytes.{AreBytes, AreZero, record_bytes, records_bytes, records_of, byte_length, record_size, length_in, code_in, cut}
use Rattle.gds_records.specs.Spelling.{IsAtEnd, all_count}
use Rattle.gds_records.proofs.BytesLaws.{all_left, few_records, one_more, some_cut}
use Rattle.gds_records.proofs.SpellingLaws.{Splits, splits, IsFirst, formed_whole, taken_bytes}
use Rattle.gds_records.proofs.PartLaws.{Any, room}
use Rattle.gds_library.specs.declared.fault.GdsFault.{GdsFault}
use Rattle.gds_library.specs.declared.fault.GdsFault.TheVariants as fault
use Rattle.gds_library.specs.declared.library.Library.{Library}
use Rattle.gds_library.specs.Grammar.{library, Spells}
use Rattle.gds_library.specs.ReadLibrary.{library_at}
use Rattle.gds_library.specs.FirstFault.{IsCutShort, IsMissized, wanted_after, points_wanted, HasWrongCount, IsUnmet, IsNextRecord, IsBad, IsFaultOf, IsRefused}
use Rattle.gds_library.specs.ReadFault.{wanted_before, Miscounts, unmet_fault_of, SkipsZeros, IsZeroNever}
use Rattle.gds_library.proofs.LibraryLaws.{library_part}
use Rattle.gds_library.proofs.StandLaws.{Stuck, begun}

-- the length of a whole record
length_of_record : (n : ℕ) (l : List ℕ) → length_in ((n / 256) ∷ (n % 256) ∷ l) ≡ n
length_of_record n l = omega arith

whole_length : (rest : List ℕ) (e : StreamRecord) (after : List ℕ) → IsFirst rest e after → e.whole ≡ true
    → length_in rest ≡ length e.content + 4
whole_length rest e after first whole = ap length_in (first.whole whole)
    ∙ length_of_record (length e.content + 4) ((e.code / 256) ∷ (e.code % 256) ∷ (e.content ++ after))

-- a whole record isn't cut short
not_short : (rest : List ℕ) (e : StreamRecord) (after : List ℕ) → IsFirst rest e after → e.whole ≡ true
    → IsCutShort rest → ⊥
not_short rest e after first whole (inl less) =
    let size : length rest ≡ length (record_bytes e ++ after) = ap length (first.whole whole) in
    let sum : length (record_bytes e ++ after) ≡ length (record_bytes e) + length after =
    length-append (record_bytes e) after in
    omega (arith, size, sum, less)
not_short rest e after first whole (inr less) = let f = first.fits whole in omega (arith, f.1, less)

long_enough : (rest : List ℕ) → (IsCutShort rest → ⊥) → 4 ≤ length rest
long_enough rest off = at (leb 4 (length rest)) refl where
  at : (b : Bool) → leb 4 (length rest) ≡ b → 4 ≤ length rest
  at true is = leb-true 4 (length rest) is
  at false is = absurd (off (inl (leb-false 4 (length rest) is)))

-- the code of a record that isn't cut short
code_there : (rest : List ℕ) (e : StreamRecord) (after : List ℕ) (code : ℕ) → IsFirst rest e after → e.code ≡ code
    → (IsCutShort rest → ⊥) → code ≡ code_in rest
code_there rest e after code first named off = sym named ∙ first.code (long_enough rest off)

pub at_short : (bytes : List ℕ) (left code : ℕ) (k : Fault) (s : Stuck bytes left code k)
    → IsCutShort (drop (length bytes - left) bytes) → IsFaultOf (fault.Truncated (length bytes - left)) bytes
at_short bytes left code k s short = (s.done, s.rest, s.stands, subst IsCutShort s.dropped short)

by_whole : (b : Bool) (rest : List ℕ) (done : List StreamRecord) (e : StreamRecord) (after : List ℕ)
    → IsFirst rest e after → (IsCutShort rest → ⊥) → is_formed e ≡ false → e.whole ≡ b
    → IsMissized rest ⊎ ((x : StreamRecord) × IsBad rest done x)
by_whole true rest done e after first off bad whole = inr (e, (after, first.whole whole, whole, inl bad))
by_whole false rest done e after first off bad broken = elim (first.broken broken) [
  | inl a ↦ absurd (off (inl a))
  | inr b ↦ elim b [ inl c ↦ absurd (off (inr c)) | inr d ↦ inl d ]
]

pub at_unformed : (bytes : List ℕ) (left code : ℕ) (s : Stuck bytes left code BadRecord)
    → (IsCutShort (drop (length bytes - left) bytes) → ⊥) → IsFaultOf (fault.BadRecord (length bytes - left) code) bytes
at_unformed bytes left code s off =
    let here : IsCutShort s.rest → ⊥ = λ short. off (subst IsCutShort (sym s.dropped) short) in (
      s.done,
      s.rest,
      s.stands,
      here,
      code_there s.rest s.e s.after code s.first s.named here,
      by_whole s.e.whole
          s.rest s.done s.e s.after s.first here (s.unformed refl) refl,
    )

-- how many points are wanted there
positive : (d : StreamRecord) → d.whole ≡ true → 0 < record_size d
positive d whole = subst (λ (w : Bool). 0 < cond w (length d.content + 4) (length d.content)) (sym whole) (omega arith)

longer : (done es : List StreamRecord) → byte_length es ≤ byte_length (done ++ es)
unfolding byte_length
longer [] es = omega arith
longer (d ∷ done) es = let h = longer done es in omega (arith, h)

wanted_there : (left : ℕ) (now : Option ℕ) (done : List StreamRecord) (e : StreamRecord) (after : List StreamRecord)
    → AreFormed done → byte_length (e ∷ after) ≡ left
    → wanted_before left now (done ++ e ∷ after) ≡ points_wanted now done
unfolding byte_length
wanted_there left now [] e after formed size = let yes : leb (byte_length (e ∷ after)) left ≡ true =
    le-leb _ _ (omega (arith, size)) in rw yes refl
wanted_there left now (d ∷ done) e after formed size =
    let some = positive d (formed_whole d formed.0) in
    let more = longer done (e ∷ after) in
    let off : leb (byte_length (d ∷ (done ++ e ∷ after))) left ≡ false =
    lt-leb _ left (omega (arith, some, more, size)) in
    ap (λ b. cond b now (wanted_before left (wanted_after now d.code) (done ++ e ∷ after))) off
    ∙ wanted_there left (wanted_after now d.code) done e after formed.1 size

-- the count is as it is tested
pub counts : (bytes : List ℕ) (left code : ℕ) (k : Fault) (s : Stuck bytes left code k) → (k ≡ BadRecord → ⊥)
    → Miscounts (wanted_before left None (records_of bytes)) code (length_in (drop (length bytes - left) bytes))
    ↔ HasWrongCount s.done s.e
counts bytes left code k s off =
    let whole = formed_whole s.e (s.formed off) in
    let size : length_in (drop (length bytes - left) bytes) ≡ length s.e.content + 4 = ap length_in s.dropped
    ∙ whole_length s.rest s.e s.after s.first whole in
    let wanted : wanted_before left None (records_of bytes) ≡ points_wanted None s.done =
    ap (wanted_before left None) s.records
    ∙ wanted_there left None s.done s.e (records_of s.after) s.stands.formed s.size in (
      λ m. record {
        count = m.count;
        code = s.named ∙ m.named;
        wanted = sym wanted ∙ m.is;
        other = λ e. m.other (omega (arith, size, e));
      },
      λ h. record {
        count = h.count;
        named = sym s.named ∙ h.code;
        is = wanted ∙ h.wanted;
        other = λ e. h.other (omega (arith, size, e));
      },
    )

-- a record that is formed and bad all the same
bad_there : (bytes : List ℕ) (left code : ℕ) (k : Fault) (s : Stuck bytes left code k) → (k ≡ BadRecord → ⊥)
    → HasWrongCount s.done s.e ⊎ IsUnmet Plain s.done s.e → IsFaultOf (fault.BadRecord (length bytes - left) code) bytes
bad_there bytes left code k s off why =
    let whole = formed_whole s.e (s.formed off) in
    let here = not_short s.rest s.e s.after s.first whole in (
      s.done,
      s.rest,
      s.stands,
      here,
      code_there s.rest s.e s.after code s.first s.named here,
      inr
          (s.e, (s.after, s.first.whole whole, whole, inr why)),
    )

pub at_miscounted : (bytes : List ℕ) (left code : ℕ) (k : Fault) (s : Stuck bytes left code k) → (k ≡ BadRecord → ⊥)
    → Miscounts (wanted_before left None (records_of bytes)) code (length_in (drop (length bytes - left) bytes))
    → IsFaultOf (fault.BadRecord (length bytes - left) code) bytes
at_miscounted bytes left code k s off m = bad_there bytes left code k s off (inl ((counts bytes left code k s off).0 m))

next_there : (bytes : List ℕ) (left code : ℕ) (k : Fault) (s : Stuck bytes left code k) → (k ≡ BadRecord → ⊥)
    → (Miscounts (wanted_before left None (records_of bytes)) code (length_in (drop (length bytes - left) bytes)) → ⊥)
    → IsNextRecord s.rest s.done s.e
next_there bytes left code k s off right = record {
  after = s.after;
  parts = s.first.whole (formed_whole s.e (s.formed off));
  formed = s.formed off;
  counted = λ h. right ((counts bytes left code k s off).1 h);
}

pub at_misplaced : (bytes : List ℕ) (left code : ℕ) (s : Stuck bytes left code NotInPlace)
    → (Miscounts (wanted_before left None (records_of bytes)) code (length_in (drop (length bytes - left) bytes)) → ⊥)
    → IsFaultOf (fault.NotInPlace (length bytes - left) code) bytes
at_misplaced bytes left code s right = (
  s.done,
  s.rest,
  s.e,
  s.stands,
  next_there bytes left code NotInPlace s (λ e. absurd cc) right,
  sym s.named,
  s.misplaced refl,
)

pub at_unmet : (bytes : List ℕ) (left code : ℕ) (d : Demand) (s : Stuck bytes left code (Unmet d))
    → (Miscounts (wanted_before left None (records_of bytes)) code (length_in (drop (length bytes - left) bytes)) → ⊥)
    → IsFaultOf (unmet_fault_of (length bytes - left) code d) bytes
at_unmet bytes left code Plain s right =
    bad_there bytes left code (Unmet Plain) s (λ e. absurd cc) (inr (s.unmet Plain refl))
at_unmet bytes left code Units s right = (
  s.done,
  s.rest,
  s.e,
  s.stands,
  next_there bytes left code (Unmet Units) s (λ e. absurd cc) right,
  s.unmet Units
      refl,
)
at_unmet bytes left code Outline s right = (
  s.done,
  s.rest,
  s.e,
  s.stands,
  next_there bytes left code (Unmet Outline) s (λ e. absurd cc) right,
  s.unmet
      Outline refl,
)
at_unmet bytes left code Transform s right = (
  s.done,
  s.rest,
  s.e,
  s.stands,
  next_there bytes left code (Unmet Transform) s (λ e. absurd cc) right,
  s.unmet
      Transform refl,
)
at_unmet bytes left code Track s right = (
  s.done,
  s.rest,
  s.e,
  s.stands,
  next_there bytes left code (Unmet Track) s (λ e. absurd cc) right,
  s.unmet Track
      refl,
)
at_unmet bytes left code NewName s right = (
  s.done,
  s.rest,
  s.e,
  s.stands,
  next_there bytes left code (Unmet NewName) s (λ e. absurd cc) right,
  s.unmet
      NewName refl,
)

-- what no library is, is refused
pub refused : (f : GdsFault) (bytes : List ℕ) → ((lib : Library) → Spells bytes lib → ⊥) → IsRefused f bytes
refused (fault.Truncated at) bytes h = h
refused (fault.BadRecord at code) bytes h = h
refused (fault.NotInPlace at code) bytes h = h
refused (fault.BadUnits at) bytes h = h
refused (fault.NotManhattan at) bytes h = h
refused (fault.BadTransform at) bytes h = h
refused (fault.BadPath at) bytes h = h
refused (fault.TrailingBytes at) bytes h = h
refused (fault.Twice at) bytes h = h
refused fault.Memory bytes h = tt

-- the records end where one is wanted
short_at : (bytes : List ℕ) (s : Splits bytes (records_of bytes) []) → (c : Option (StreamRecord × List ℕ))
    → cut s.rest ≡ c → s.rest ≡ []
short_at bytes s None cuts = none_cut s.rest cuts where
  none_cut : (rest : List ℕ) → cut rest ≡ None → rest ≡ []
  none_cut [] is = refl
  none_cut (b ∷ rest) is = absurd (some_cut b rest is)
short_at bytes s (Some p) cuts = let both : p.0 ∷ records_of p.1 ≡ [] = sym (one_more s.rest p.0 p.1 cuts)
    ∙ s.records in absurd cc

pub at_end : (bytes : List ℕ) → AreBytes bytes → length bytes ≤ room → library_at (records_of bytes) ≡ Err Short
    → IsFaultOf (fault.Truncated (length bytes)) bytes
at_end bytes are fits is =
    let b = library_part.stops (records_of bytes) Short (let few = few_records bytes in omega (arith, few)) is in
    let s = splits bytes (records_of bytes) [] are b.formed (sym (append-nil (records_of bytes))) in
    let none : s.rest ≡ [] = short_at bytes s (cut s.rest) refl in
    let parts : bytes ≡ records_bytes (records_of bytes) ++ [] = s.parts
    ∙ ap (λ l. records_bytes (records_of bytes) ++ l) none in (
      records_of bytes,
      [],
      record {
        parts = parts;
        offset = ap length (parts ∙ append-nil (records_bytes (records_of bytes)));
        formed = b.formed;
        begun = begun Any all_count (records_of bytes) tt b.begun;
        open_end = λ lib s. b.dead all_count tt lib IsAtEnd s;
      },
      inl (omega arith),
    )

-- a byte that isn't zero after the library
pub at_trailing : (bytes rest tail : List ℕ) (lib : Library) → AreBytes bytes → AreBytes rest → length bytes ≤ room
    → library_at (records_of bytes) ≡ Ok (lib, records_of rest) → SkipsZeros rest tail
    → IsZeroNever tail → 0 < length tail → IsFaultOf (fault.TrailingBytes (length bytes - length tail)) bytes
at_trailing bytes rest [] lib are some fits is skips off left = absurd (omega arith)
at_trailing bytes rest (b ∷ more) lib are some fits is skips off left =
    let t = library_part.takes (records_of bytes) lib (records_of rest)
    (let few = few_records bytes in omega (arith, few)) is in
    let parts : bytes ≡ records_bytes t.front ++ (skips.zeros ++ b ∷ more) =
    taken_bytes bytes rest t.front are some t.formed t.parts ∙ ap (λ l. records_bytes t.front ++ l) skips.parts in
    let whole : length bytes ≡ length (records_bytes t.front ++ (skips.zeros ++ b ∷ more)) = ap length parts in
    let first : length (records_bytes t.front ++ (skips.zeros ++ b ∷ more))
    ≡ length (records_bytes t.front) + length (skips.zeros ++ b ∷ more) =
    length-append (records_bytes t.front) (skips.zeros ++ b ∷ more) in
    let second : length (skips.zeros ++ b ∷ more) ≡ length skips.zeros + length (b ∷ more) =
    length-append skips.zeros (b ∷ more) in
    let place : length (records_bytes t.front ++ skips.zeros) ≡ length (records_bytes t.front) + length skips.zeros =
    length-append (records_bytes t.front) skips.zeros in (
      t.front,
      skips.zeros,
      b,
      more,
      parts,
      omega (arith, whole, first, second, place),
      t.formed,
      (lib, subst (library lib all_count IsAtEnd) (append-nil t.front) (t.spelled all_count IsAtEnd [] refl)),
      skips.zero,
      off,
    )

-- the tail is no longer than the bytes
pub tail_fits : (bytes rest tail : List ℕ) (lib : Library) → length bytes ≤ room
    → library_at (records_of bytes) ≡ Ok (lib, records_of rest) → SkipsZeros rest tail → length tail ≤ length bytes
tail_fits bytes rest tail lib fits is skips =
    let t = library_part.takes (records_of bytes) lib (records_of rest)
    (let few = few_records bytes in omega (arith, few)) is in
    let more = longer t.front (records_of rest) in
    let all : byte_length (records_of bytes) ≡ byte_length (t.front ++ records_of rest) = ap byte_length t.parts in
    let size : length rest ≡ length (skips.zeros ++ tail) = ap length skips.parts in
    let sum : length (skips.zeros ++ tail) ≡ length skips.zeros + length tail = length-append skips.zeros tail in
    omega (arith, more, all, size, sum, all_left bytes, all_left rest)

-- nothing of the tail is zero, where there is a tail
pub not_zero : (rest tail : List ℕ) → SkipsZeros rest tail → IsZeroNever tail → 0 < length tail → AreZero rest → ⊥
not_zero rest [] skips off left zeros = omega arith
not_zero rest (b ∷ more) skips off left zeros =
    off (zero_after skips.zeros b more (subst AreZero skips.parts zeros)) where
      zero_after : (zeros : List ℕ) (b : ℕ) (more : List ℕ) → AreZero (zeros ++ b ∷ more) → b ≡ 0
      zero_after [] b more are = are.0
      zero_after (z ∷ zeros) b more are = zero_after zeros b more are.1

pub all_zero : (rest tail : List ℕ) → SkipsZeros rest tail → tail ≡ [] → AreZero rest
all_zero rest tail skips none =
    subst AreZero (sym (skips.parts ∙ ap (λ l. skips.zeros ++ l) none ∙ append-nil skips.zeros)) skips.zero
