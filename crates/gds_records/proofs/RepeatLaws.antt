-- Items one after the other, up to a record.
use Rattle.std.proofs.Common.{◌≡◌, inl, inr, ℕ, zero, suc, ◌+◌, ◌<◌, ◌≤◌, List, [], ◌∷◌, ◌++◌, length, true, eqb, Ok, Err, refl, ap, subst, arith}
use Rattle.std.proofs.lemmas.Bool.{eqb-true, eqb-false}
use Rattle.std.proofs.lemmas.List.{length-append}
use Rattle.gds_records.specs.Record.{StreamRecord}
use Rattle.gds_records.specs.Part.{Rest, Judge, Part, ◌▸◌, any, repeated_after}
use Rattle.gds_records.specs.declared.error.Demand.TheVariants.{Plain}
use Rattle.gds_records.specs.declared.error.RecordError.{RecordError}
use Rattle.gds_records.specs.declared.error.RecordError.TheVariants.{Short}
use Rattle.gds_records.specs.Reading.{Reader, any_at, as_value, then_at, done_at, until_at}
use Rattle.gds_records.proofs.PartLaws.{Begins, Any, IsDead, IsStop, IsTaken, room, IsPart}
use Rattle.gds_records.proofs.CaseLaws.{IsCase, as_ok, as_err, case_begins, case_taken, case_stops, Heads, Others, heads_carry, others_carry, picked}
use Rattle.gds_records.proofs.JoinLaws.{Joined, join_taken, join_stops_first, join_stops_second, Leaf, leaf_part, HasForm, Nothing, any_part, AreOther, other_others, other_heads, value_heads, heads_others, then_ok, then_err}

-- items up to a record of this code
abbrev pub Until : {X : Type 0} → (List X → X → Part) → ℕ → List X → List X → Part
Until P code before xs = repeated_after P before xs ▸ any code

until_end_back : {X : Type 0} (P : List X → X → Part) (code : ℕ) (before : List X)
    → ((seen : List X) → AreOther code (P seen))
    → (xs : List X) (judge : Judge) (K : Rest) (l : List StreamRecord) → Heads code l
    → Until P code before xs judge K l → (u : Unit {0}) × ([] ≡ xs) × (any code ▸ Leaf u) judge K l
until_end_back P code before other [] judge K l h s = (tt, refl, s)
until_end_back P code before other (x ∷ xs) judge K l h s =
    absurd (other_heads code l (other before x judge (Until P code (before ++ x ∷ []) xs judge K) l s) h)

until_more_back : {X : Type 0} (P : List X → X → Part) (code : ℕ) (before : List X)
    → (xs : List X) (judge : Judge) (K : Rest) (l : List StreamRecord) → Others code l
    → Until P code before xs judge K l
    → (z : X × List X) × (z.0 ∷ z.1 ≡ xs) × Joined (P before) (λ x. Until P code (before ++ x ∷ [])) z judge K l
until_more_back P code before [] judge K l o s =
    absurd (heads_others code l (value_heads Plain code Nothing tt judge K l s) o)
until_more_back P code before (x ∷ xs) judge K l o s = ((x, xs), refl, s)

until_end : {X : Type 0} (P : List X → X → Part) (code : ℕ) (before : List X)
    → ((seen : List X) → AreOther code (P seen))
    → IsCase (Heads code) (λ (u : Unit {0}). []) (λ u. any code ▸ Leaf u) (Until P code before)
until_end {X} P code before other = record {
  into = λ u judge K l s. s;
  back = until_end_back P code before other;
  good = λ u judge K l s. value_heads Plain code Nothing tt judge K l s;
  carry = heads_carry code;
}

until_more : {X : Type 0} (P : List X → X → Part) (code : ℕ) (before : List X)
    → ((seen : List X) → AreOther code (P seen))
    → IsCase (Others code) (λ (z : X × List X). z.0 ∷ z.1) (Joined (P before) (λ x. Until P code (before ++ x ∷ [])))
    (Until P code before)
until_more {X} P code before other = record {
  into = λ z judge K l s. s;
  back = until_more_back P code before;
  good = λ z judge K l s. other_others code l
      (other before z.0 judge (Until P code (before ++ z.0 ∷ []) z.1 judge K) l s);
  carry = others_carry code;
}

-- a part that isn't empty takes a record
front_some : {X : Type 0} (P : X → Part) (code : ℕ) → AreOther code P → (x : X) (front : List StreamRecord)
    → P x (λ demand. true) (λ l. Unit {0}) (front ++ []) → 0 < length front
front_some P code other x [] s = absurd (other x _ _ [] s)
front_some P code other x (e ∷ front) s = omega arith

pub shorter : {X : Type 0} (P : X → Part) (code : ℕ) → AreOther code P
    → (rs : List StreamRecord) (x : X) (rest : List StreamRecord) → IsTaken P rs x rest → length rest < length rs
shorter P code other rs x rest t =
    let some = front_some P code other x t.front (t.spelled (λ demand. true) (λ l. Unit {0}) [] tt) in
    let size : length rs ≡ length (t.front ++ rest) = ap length t.parts in
    let whole : length (t.front ++ rest) ≡ length t.front + length rest = length-append t.front rest in
    omega (arith, some, size, whole)

end_part : (code : ℕ) → HasForm code → IsPart (λ u. any code ▸ Leaf u) (any_at code done_at)
end_part code form = any_part code Leaf done_at form leaf_part

until_live : {X : Type 0} (P : List X → X → Part) (code : ℕ) (before : List X) → HasForm code
    → ((seen : List X) → AreOther code (P seen)) → Begins Any (Until P code before) []
until_live P code before form other =
    case_begins (Heads code) (λ u. []) (λ u. any code ▸ Leaf u) (Until P code before) (until_end P code before other)
    Any [] (end_part code form).live

until_empty : {X : Type 0} (P : List X → X → Part) (code : ℕ) (before : List X)
    → ((seen : List X) → AreOther code (P seen)) → IsDead Any (Until P code before) []
until_empty P code before other judge j [] K s = s
until_empty P code before other judge j (x ∷ xs) K s =
    other before x judge (Until P code (before ++ x ∷ []) xs judge K) [] s

pub until_takes : {X : Type 0} (P : List X → X → Part) (p : List X → Reader X) (code : ℕ) → HasForm code
    → ((seen : List X) → AreOther code (P seen))
    → ((seen : List X) → length seen < room → IsPart (P seen) (p seen))
    → (n : ℕ) (before : List X) (rs : List StreamRecord) (xs : List X) (rest : List StreamRecord)
    → length before + length rs ≤ room → until_at p code n before rs ≡ Ok (xs, rest)
    → IsTaken (Until P code before) rs xs rest
unfolding until_at
until_takes P p code form other parts zero before rs xs rest fits is = absurd cc
until_takes P p code form other parts (suc n) before [] xs rest fits is = absurd cc
until_takes {X} P p code form other parts (suc n) before (e ∷ rs) xs rest fits is =
    let more : X → Reader (List X) = λ x. until_at p code n (before ++ x ∷ []) in
    elim (picked (eqb e.code code) (as_value (λ u. []) (any_at code done_at (e ∷ rs)))
    (as_value (λ z. z.0 ∷ z.1) (then_at (p before (e ∷ rs)) more)) (Ok (xs, rest)) is) [
      | inl h ↦
          let g = as_ok (λ (u : Unit {0}). []) (any_at code done_at (e ∷ rs)) xs rest h.1 in
          case_taken (Heads code) (λ u. []) (λ u. any code ▸ Leaf u) (Until P code before)
          (until_end P code before other) (e ∷ rs) g.0 xs rest g.1
          ((end_part code form).takes (e ∷ rs) g.0 rest (omega arith) g.2)
      | inr h ↦
          let g = as_ok (λ (z : X × List X). z.0 ∷ z.1) (then_at (p before (e ∷ rs)) more) xs rest h.1 in
          let w = then_ok (p before (e ∷ rs)) more g.0 rest g.2 in
          let t = (parts before (omega arith)).takes (e ∷ rs) g.0.0 w.0 (omega arith) w.1 in
          let less = shorter (P before) code (other before) (e ∷ rs) g.0.0 w.0 t in
          let u = until_takes P p code form other parts n (before ++ g.0.0 ∷ []) w.0 g.0.1 rest
          (omega (arith, less, length-append before (g.0.0 ∷ []))) w.2 in
          case_taken (Others code) (λ z. z.0 ∷ z.1) (Joined (P before) (λ x. Until P code (before ++ x ∷ [])))
          (Until P code before) (until_more P code before other) (e ∷ rs) g.0 xs rest g.1
          (join_taken (P before) (λ x. Until P code (before ++ x ∷ [])) (e ∷ rs) g.0.0 w.0 g.0.1 rest t u)
    ]

pub until_stops : {X : Type 0} (P : List X → X → Part) (p : List X → Reader X) (code : ℕ) → HasForm code
    → ((seen : List X) → AreOther code (P seen))
    → ((seen : List X) → length seen < room → IsPart (P seen) (p seen))
    → (n : ℕ) (before : List X) (rs : List StreamRecord) (s : RecordError) → length rs ≤ n
    → length before + length rs ≤ room → until_at p code n before rs ≡ Err s → IsStop (Until P code before) rs s
unfolding until_at
until_stops P p code form other parts zero before [] s le fits is =
    let same : Short ≡ s = cc in
    subst (IsStop (Until P code before) []) same
    (record { formed = tt; begun = until_live P code before form other; dead = until_empty P code before other })
until_stops P p code form other parts zero before (e ∷ rs) s le fits is = absurd (omega arith)
until_stops P p code form other parts (suc n) before [] s le fits is =
    let same : Short ≡ s = cc in
    subst (IsStop (Until P code before) []) same
    (record { formed = tt; begun = until_live P code before form other; dead = until_empty P code before other })
until_stops {X} P p code form other parts (suc n) before (e ∷ rs) s le fits is =
    let more : X → Reader (List X) = λ x. until_at p code n (before ++ x ∷ []) in
    let Q : X → List X → Part = λ x. Until P code (before ++ x ∷ []) in
    elim (picked (eqb e.code code) (as_value (λ u. []) (any_at code done_at (e ∷ rs)))
    (as_value (λ z. z.0 ∷ z.1) (then_at (p before (e ∷ rs)) more)) (Err s) is) [
      | inl h ↦
          case_stops (Heads code) (λ u. []) (λ u. any code ▸ Leaf u) (Until P code before)
          (until_end P code before other) (e ∷ rs) s (eqb-true _ _ h.0)
          ((end_part code form).stops (e ∷ rs) s (omega arith)
          (as_err (λ (u : Unit {0}). []) (any_at code done_at (e ∷ rs)) s h.1))
      | inr h ↦
          case_stops (Others code) (λ z. z.0 ∷ z.1) (Joined (P before) Q) (Until P code before)
          (until_more P code before other) (e ∷ rs) s (eqb-false _ _ h.0)
          (elim (then_err (p before (e ∷ rs)) more s
          (as_err (λ (z : X × List X). z.0 ∷ z.1) (then_at (p before (e ∷ rs)) more) s h.1)) [
            | inl first ↦ join_stops_first (P before) Q (e ∷ rs) s
                (λ x. until_live P code (before ++ x ∷ []) form other)
                ((parts before (omega arith)).stops (e ∷ rs) s (omega arith) first)
            | inr second ↦
                let t = (parts before (omega arith)).takes (e ∷ rs) second.0 second.1 (omega arith) second.2 in
                let less = shorter (P before) code (other before) (e ∷ rs) second.0 second.1 t in
                join_stops_second (P before) Q (e ∷ rs) second.0 second.1 s t
                (until_stops P p code form other parts n (before ++ second.0 ∷ []) second.1 s (omega (arith, less))
                (omega (arith, less, length-append before (second.0 ∷ []))) second.3)
          ])
    ]

pub until_part : {X : Type 0} (P : List X → X → Part) (p : List X → Reader X) (code : ℕ) → HasForm code
    → ((seen : List X) → AreOther code (P seen))
    → ((seen : List X) → length seen < room → IsPart (P seen) (p seen))
    → IsPart (Until P code []) (λ rs. until_at p code (length rs) [] rs)
until_part P p code form other parts = record {
  takes = λ rs x rest fits is. until_takes P p code form other parts (length rs) [] rs x rest (omega arith) is;
  stops = λ rs s fits is. until_stops P p code form other parts (length rs) [] rs s (omega arith) (omega arith) is;
  live = until_live P code [] form other;
}
