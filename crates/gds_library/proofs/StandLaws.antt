-- Where reading stops, the first fault stands.
use Rattle.std.proofs.Common.{◌≡◌, ℕ, ◌+◌, ◌-◌, ◌≤◌, List, [], ◌∷◌, ◌++◌, length, drop, true, false, Option, Some, None, Err, refl, sym, ap, subst, ◌∙◌, append_assoc, arith}
use Rattle.std.proofs.lemmas.List.{length-append, append-nil}
use Rattle.std.proofs.Math.Seq.{drop-append_seam}
use Rattle.gds_records.specs.declared.error.Demand.{Demand}
use Rattle.gds_records.specs.declared.error.Fault.{Fault}
use Rattle.gds_records.specs.declared.error.Fault.TheVariants.{BadRecord, NotInPlace, Unmet}
use Rattle.gds_records.specs.declared.error.RecordError.TheVariants.{At}
use Rattle.gds_records.specs.Record.{StreamRecord, is_formed}
use Rattle.gds_records.specs.Bytes.{AreBytes, records_bytes, records_of, byte_length, cut}
use Rattle.gds_records.specs.Part.{Judge}
use Rattle.gds_records.specs.Spelling.{IsAtEnd, all_count}
use Rattle.gds_records.proofs.BytesLaws.{all_left, few_records, none_left, one_more}
use Rattle.gds_records.proofs.SpellingLaws.{Splits, splits, IsFirst, first_of}
use Rattle.gds_records.proofs.PartLaws.{Begins, Any, Without, IsDead, CountsFor, Why, IsStuck, room}
use Rattle.gds_records.proofs.FileLaws.{all_counted, read_alone}
use Rattle.gds_library.specs.declared.library.Library.{Library}
use Rattle.gds_library.specs.Grammar.{library}
use Rattle.gds_library.specs.ReadLibrary.{library_at}
use Rattle.gds_library.specs.FirstFault.{IsBegun, Stands, IsUnmet}
use Rattle.gds_library.proofs.LibraryLaws.{library_part}

-- what a part of a whole file begins, a library begins
pub begun : (J : Judge → Type 0) (judge : Judge) (done : List StreamRecord) → J judge → Begins J library done
    → IsBegun judge done
begun J judge done j b = (b.more ++ [], b.x, b.goes judge IsAtEnd [] j refl)

not_begun : (k : Fault) (judge : Judge) (done : List StreamRecord) (e : StreamRecord) → CountsFor k judge
    → ((more : List StreamRecord) → IsDead (CountsFor k) library (done ++ e ∷ more)) → IsBegun judge (done ++ e ∷ [])
    → ⊥
not_begun k judge done e j dead b =
    dead b.0 judge j b.1 IsAtEnd (subst (library b.1 judge IsAtEnd) (append_assoc done (e ∷ []) b.0) b.2)

-- records that a library is could go on, whatever follows
no_library : (done : List StreamRecord) (e : StreamRecord) (after : List StreamRecord) (k : Fault) (lib : Library)
    → length done ≤ room → ((more : List StreamRecord) → IsDead (CountsFor k) library (done ++ e ∷ more))
    → library lib all_count IsAtEnd done → ⊥
no_library done e after k lib fits dead s =
    let alone = read_alone library library_at done lib library_part fits s (library_at done) refl in
    let t = library_part.takes done lib [] fits alone in
    let more : library lib all_count (λ l. Unit {0}) (done ++ e ∷ after) =
    subst (λ (front : List StreamRecord). library lib all_count (λ l. Unit {0}) (front ++ e ∷ after))
    (sym (t.parts ∙ append-nil t.front)) (t.spelled all_count (λ l. Unit {0}) (e ∷ after) tt) in
    dead after all_count (all_counted k) lib (λ l. Unit {0}) more

-- the bytes where reading stops at a record
pub record Stuck (bytes : List ℕ) (left code : ℕ) (k : Fault) : Type 0 where
  pub done : List StreamRecord
  pub e : StreamRecord
  pub after : List ℕ
  pub rest : List ℕ
  pub records : records_of bytes ≡ done ++ e ∷ records_of after
  pub size : byte_length (e ∷ records_of after) ≡ left
  pub left_is : left ≤ length bytes
  pub named : e.code ≡ code
  pub first : IsFirst rest e after
  pub dropped : drop (length bytes - left) bytes ≡ rest
  pub stands : Stands bytes done rest (length bytes - left)
  pub unformed : k ≡ BadRecord → is_formed e ≡ false
  pub formed : (k ≡ BadRecord → ⊥) → is_formed e ≡ true
  pub misplaced : k ≡ NotInPlace → (judge : Judge) → IsBegun judge (done ++ e ∷ []) → ⊥
  pub unmet : (d : Demand) → k ≡ Unmet d → IsUnmet d done e

unformed_is : (k : Fault) (done : List StreamRecord) (e : StreamRecord) → Why library done e k → k ≡ BadRecord
    → is_formed e ≡ false
unformed_is BadRecord done e w is = w.0
unformed_is NotInPlace done e w is = absurd cc
unformed_is (Unmet d) done e w is = absurd cc

formed_is : (k : Fault) (done : List StreamRecord) (e : StreamRecord) → Why library done e k → (k ≡ BadRecord → ⊥)
    → is_formed e ≡ true
formed_is BadRecord done e w off = absurd (off refl)
formed_is NotInPlace done e w off = w.0
formed_is (Unmet d) done e w off = w.0

misplaced_is : (k : Fault) (done : List StreamRecord) (e : StreamRecord)
    → ((more : List StreamRecord) → IsDead (CountsFor k) library (done ++ e ∷ more)) → k ≡ NotInPlace
    → (judge : Judge) → IsBegun judge (done ++ e ∷ []) → ⊥
misplaced_is BadRecord done e dead is = absurd cc
misplaced_is NotInPlace done e dead is = λ judge. not_begun NotInPlace judge done e tt dead
misplaced_is (Unmet d) done e dead is = absurd cc

unmet_at : (done : List StreamRecord) (e : StreamRecord) (d : Demand)
    → ((more : List StreamRecord) → IsDead (CountsFor (Unmet d)) library (done ++ e ∷ more))
    → Why library done e (Unmet d) → IsUnmet d done e
unmet_at done e d dead w = record {
  without = λ judge j. begun (Without d) judge (done ++ e ∷ []) j w.1;
  alone = λ judge j. not_begun (Unmet d) judge done e j dead;
}

unmet_is : (k : Fault) (done : List StreamRecord) (e : StreamRecord)
    → ((more : List StreamRecord) → IsDead (CountsFor k) library (done ++ e ∷ more)) → Why library done e k
    → (d : Demand) → k ≡ Unmet d → IsUnmet d done e
unmet_is BadRecord done e dead w d is = absurd cc
unmet_is NotInPlace done e dead w d is = absurd cc
unmet_is (Unmet c) done e dead w d is = let same : c ≡ d = cc in
    subst (λ (x : Demand). IsUnmet x done e) same (unmet_at done e c dead w)

head_same : (x y : StreamRecord) (xs ys : List StreamRecord) → ◌≡◌ {A = List StreamRecord} (x ∷ xs) (y ∷ ys)
    → (x ≡ y) × (xs ≡ ys)
head_same x y xs ys is = (cc, cc)

-- what remains after the records before it
record Remains (bytes : List ℕ) (left : ℕ) (done : List StreamRecord) (s : List ℕ) : Type 0 where
  left_is : left ≤ length bytes
  at_is : length bytes - left ≡ length (records_bytes done)
  dropped : drop (length bytes - left) bytes ≡ s

remains : (bytes : List ℕ) (left : ℕ) (done es : List StreamRecord) (s : Splits bytes done es) → byte_length es ≡ left
    → Remains bytes left done s.rest
remains bytes left done es s place =
    let size : length s.rest ≡ left = sym (all_left s.rest) ∙ ap byte_length s.records ∙ place in
    let whole : length bytes ≡ length (records_bytes done ++ s.rest) = ap length s.parts in
    let sum : length (records_bytes done ++ s.rest) ≡ length (records_bytes done) + length s.rest =
    length-append (records_bytes done) s.rest in
    let at : length bytes - left ≡ length (records_bytes done) = omega (arith, size, whole, sum) in
    record {
      left_is = omega (arith, size, whole, sum);
      at_is = at;
      dropped = ap (λ n. drop n bytes) at ∙ ap (drop (length (records_bytes done))) s.parts
          ∙ drop-append_seam (records_bytes done) s.rest;
    }

fewer : (bytes : List ℕ) (done es : List StreamRecord) → length bytes ≤ room → records_of bytes ≡ done ++ es
    → length done ≤ room
fewer bytes done es fits parts =
    let all : length (records_of bytes) ≡ length (done ++ es) = ap length parts in
    let sum : length (done ++ es) ≡ length done + length es = length-append done es in
    let few = few_records bytes in
    omega (arith, all, sum, few)

stuck_at : (bytes : List ℕ) (left code : ℕ) (k : Fault) → length bytes ≤ room
    → (b : IsStuck library (records_of bytes) left code k) (s : Splits bytes b.done (b.e ∷ b.after))
    → (c : Option (StreamRecord × List ℕ)) → cut s.rest ≡ c → Stuck bytes left code k
stuck_at bytes left code k fits b s None cuts = let both : b.e ∷ b.after ≡ [] = sym s.records
    ∙ none_left s.rest cuts in absurd cc
stuck_at bytes left code k fits b s (Some p) cuts =
    let same = head_same p.0 b.e (records_of p.1) b.after (sym (one_more s.rest p.0 p.1 cuts) ∙ s.records) in
    let r = remains bytes left b.done (b.e ∷ b.after) s b.place in
    record {
      done = b.done;
      e = b.e;
      after = p.1;
      rest = s.rest;
      records = b.parts ∙ ap (λ (l : List StreamRecord). b.done ++ b.e ∷ l) (sym same.1);
      size = ap (λ (l : List StreamRecord). byte_length (b.e ∷ l)) same.1 ∙ b.place;
      left_is = r.left_is;
      named = b.named;
      first = subst (λ (e : StreamRecord). IsFirst s.rest e p.1) same.0 (first_of s.rest p.0 p.1 s.are cuts);
      dropped = r.dropped;
      stands = record {
        parts = s.parts;
        offset = r.at_is;
        formed = b.formed;
        begun = begun Any all_count b.done tt b.begun;
        open_end = λ lib. no_library b.done b.e b.after k lib (fewer bytes b.done (b.e ∷ b.after) fits b.parts) b.dead;
      };
      unformed = unformed_is k b.done b.e b.why;
      formed = formed_is k b.done b.e b.why;
      misplaced = misplaced_is k b.done b.e b.dead;
      unmet = unmet_is k b.done b.e b.dead b.why;
    }

pub stuck : (bytes : List ℕ) (left code : ℕ) (k : Fault) → AreBytes bytes → length bytes ≤ room
    → library_at (records_of bytes) ≡ Err (At left code k) → Stuck bytes left code k
stuck bytes left code k are fits is =
    let b = library_part.stops (records_of bytes) (At left code k) (let few = few_records bytes in omega (arith, few))
    is in
    let s = splits bytes b.done (b.e ∷ b.after) are b.formed b.parts in
    stuck_at bytes left code k fits b s (cut s.rest) refl
