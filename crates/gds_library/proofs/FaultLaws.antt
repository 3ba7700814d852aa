-- What stands where reading stops.
use Rattle.std.proofs.Common.{◌≡◌, ℕ, ◌<◌, ◌≤◌, List, [], ◌∷◌, ◌++◌, length, true, false, cond, leb, Option, Some, None, refl, sym, ap, ◌∙◌, append_assoc, arith}
use Rattle.std.proofs.lemmas.Bool.{le-leb, lt-leb}
use Rattle.gds_records.specs.Record.{StreamRecord}
use Rattle.gds_records.specs.Bytes.{AreZero, records_of, byte_length, cut}
use Rattle.gds_records.proofs.BytesLaws.{one_more, none_left, all_left}
use Rattle.gds_library.specs.FirstFault.{wanted_after}
use Rattle.gds_library.specs.ReadFault.{wanted_before, SkipsZeros}

here_at : (left : ℕ) (now : Option ℕ) (es : List StreamRecord) → byte_length es ≤ left → wanted_before left now es ≡ now
here_at left now [] le = refl
here_at left now (e ∷ es) le = let yes : leb (byte_length (e ∷ es)) left ≡ true = le-leb _ _ le in rw yes refl

-- so many bytes are left
pub wanted_here : (left : ℕ) (now : Option ℕ) (rest : List ℕ) → length rest ≤ left
    → wanted_before left now (records_of rest) ≡ now
wanted_here left now rest le = here_at left now (records_of rest) (let all = all_left rest in omega (arith, all))

-- one record more
pub wanted_next : (left : ℕ) (now : Option ℕ) (rest after : List ℕ) (e : StreamRecord) → cut rest ≡ Some (e, after)
    → left < length rest
    → wanted_before left now (records_of rest) ≡ wanted_before left (wanted_after now e.code) (records_of after)
wanted_next left now rest after e is lt =
    let more : records_of rest ≡ e ∷ records_of after = one_more rest e after is in
    let all : byte_length (e ∷ records_of after) ≡ length rest = ap byte_length (sym more) ∙ all_left rest in
    let no_end : leb (byte_length (e ∷ records_of after)) left ≡ false = lt-leb _ _ (omega (arith, all)) in
    ap (wanted_before left now) more
    ∙ ap (λ b. cond b now (wanted_before left (wanted_after now e.code) (records_of after))) no_end

pub wanted_nowhere : (left : ℕ) (now : Option ℕ) (rest : List ℕ) → cut rest ≡ None
    → wanted_before left now (records_of rest) ≡ now
wanted_nowhere left now rest is = ap (wanted_before left now) (none_left rest is)

more_zeros : (zeros : List ℕ) → AreZero zeros → AreZero (zeros ++ 0 ∷ [])
more_zeros [] are = (refl, tt)
more_zeros (z ∷ zeros) are = (are.0, more_zeros zeros are.1)

pub skips_more : (bytes tail others : List ℕ) (first : ℕ) → tail ≡ first ∷ others → first ≡ 0 → SkipsZeros bytes tail
    → SkipsZeros bytes others
skips_more bytes tail others first is none s = record {
  zeros = s.zeros ++ 0 ∷ [];
  parts = s.parts ∙ ap (λ l. s.zeros ++ l) (is ∙ ap (λ n. n ∷ others) none)
      ∙ sym (append_assoc s.zeros (0 ∷ []) others);
  zero = more_zeros s.zeros s.zero;
}
