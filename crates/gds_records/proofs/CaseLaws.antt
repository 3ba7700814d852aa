-- Parts that are told apart by their first record, and other forms of their values.
use Rattle.std.proofs.Common.{◌≡◌, ◌⊎◌, inl, inr, ℕ, ◌≤◌, List, [], ◌∷◌, ◌++◌, length, Bool, true, false, eqb, Result, Ok, Err, refl, ap, subst, ◌∙◌, cond}
use Rattle.std.proofs.lemmas.Bool.{eqb-true, eqb-false}
use Rattle.gds_records.specs.Record.{StreamRecord}
use Rattle.gds_records.specs.Part.{through, Rest, Judge, Part}
use Rattle.gds_records.specs.declared.error.Fault.{Fault}
use Rattle.gds_records.specs.declared.error.Fault.TheVariants.{BadRecord, NotInPlace, Unmet}
use Rattle.gds_records.specs.declared.error.RecordError.{RecordError}
use Rattle.gds_records.specs.declared.error.RecordError.TheVariants.{Short, At, Memory}
use Rattle.gds_records.specs.Reading.{Reader, as_value, fork_at}
use Rattle.gds_records.proofs.PartLaws.{Begins, Any, Without, IsDead, CountsFor, Why, IsStop, IsTaken, room, IsPart}

-- A is P where the list is good, which its first record decides
pub record IsCase {X Z : Type 0} (Good : List StreamRecord → Type 0) (i : X → Z) (A : X → Part) (P : Z → Part) : Type
    1 where
  pub into : (x : X) (judge : Judge) (K : Rest) (l : List StreamRecord) → A x judge K l → P (i x) judge K l
  pub back : (z : Z) (judge : Judge) (K : Rest) (l : List StreamRecord) → Good l → P z judge K l
      → (x : X) × (i x ≡ z) × A x judge K l
  pub good : (x : X) (judge : Judge) (K : Rest) (l : List StreamRecord) → A x judge K l → Good l
  pub carry : (done : List StreamRecord) (e : StreamRecord) (after more : List StreamRecord)
      → Good (done ++ e ∷ after) → Good (done ++ e ∷ more)

pub as_ok : {X Z : Type 0} (f : X → Z) (r : Result (X × List StreamRecord) RecordError) (z : Z)
    (rest : List StreamRecord) → as_value f r ≡ Ok (z, rest) → (x : X) × (f x ≡ z) × (r ≡ Ok (x, rest))
as_ok {X} {Z} f (Ok r) z rest is =
    let e : ◌≡◌ {A = Z × List StreamRecord} (f r.0, r.1) (z, rest) = cc in
    (r.0, ap (λ (p : Z × List StreamRecord). p.0) e, ap (λ (p : Z × List StreamRecord). Ok (r.0, p.1)) e)
as_ok f (Err s) z rest is = absurd cc

pub as_err : {X Z : Type 0} (f : X → Z) (r : Result (X × List StreamRecord) RecordError) (s : RecordError)
    → as_value f r ≡ Err s → r ≡ Err s
as_err f (Ok r) s is = absurd cc
as_err f (Err t) s is = cc

pub case_begins : {X Z : Type 0} (Good : List StreamRecord → Type 0) (i : X → Z) (A : X → Part) (P : Z → Part)
    → IsCase Good i A P
    → (J : Judge → Type 0) (done : List StreamRecord) → Begins J A done → Begins J P done
case_begins Good i A P c J done b =
    record {
      x = i b.x;
      more = b.more;
      goes = λ judge K tail j k. c.into b.x judge K (done ++ (b.more ++ tail)) (b.goes judge K tail j k);
    }

case_dead : {X Z : Type 0} (Good : List StreamRecord → Type 0) (i : X → Z) (A : X → Part) (P : Z → Part)
    → IsCase Good i A P
    → (J : Judge → Type 0) (l : List StreamRecord) → Good l → IsDead J A l → IsDead J P l
case_dead Good i A P c J l good dead judge j z K s = let b = c.back z judge K l good s in dead judge j b.0 K b.2

case_why : {X Z : Type 0} (Good : List StreamRecord → Type 0) (i : X → Z) (A : X → Part) (P : Z → Part)
    → IsCase Good i A P
    → (done : List StreamRecord) (e : StreamRecord) (k : Fault) → Why A done e k → Why P done e k
case_why Good i A P c done e BadRecord w = (w.0, case_begins Good i A P c Any done w.1)
case_why Good i A P c done e NotInPlace w = (w.0, case_begins Good i A P c Any done w.1)
case_why Good i A P c done e (Unmet n) w = (w.0, case_begins Good i A P c (Without n) (done ++ e ∷ []) w.1)

pub case_taken : {X Z : Type 0} (Good : List StreamRecord → Type 0) (i : X → Z) (A : X → Part) (P : Z → Part)
    → IsCase Good i A P
    → (rs : List StreamRecord) (x : X) (z : Z) (rest : List StreamRecord) → i x ≡ z → IsTaken A rs x rest
    → IsTaken P rs z rest
case_taken {X} {Z} Good i A P c rs x z rest is t = subst (λ (v : Z). IsTaken P rs v rest) is (record {
  front = t.front;
  parts = t.parts;
  formed = t.formed;
  spelled = λ judge K tail k. c.into x judge K (t.front ++ tail) (t.spelled judge K tail k);
  closed = λ judge K tail y s.
      let whole = t.spelled judge (λ r. Unit {0}) tail tt in
      let b = c.back y judge K (t.front ++ tail) (c.good x judge (λ r. Unit {0}) (t.front ++ tail) whole) s in
      let u = t.closed judge K tail b.0 b.2 in
      (ap i u.0 ∙ b.1, u.1);
})

pub case_stops : {X Z : Type 0} (Good : List StreamRecord → Type 0) (i : X → Z) (A : X → Part) (P : Z → Part)
    → IsCase Good i A P
    → (rs : List StreamRecord) (s : RecordError) → Good rs → IsStop A rs s → IsStop P rs s
case_stops Good i A P c rs Short good b =
    record {
      formed = b.formed;
      begun = case_begins Good i A P c Any rs b.begun;
      dead = case_dead Good i A P c Any rs good b.dead;
    }
case_stops Good i A P c rs Memory good b = b
case_stops Good i A P c rs (At left code k) good b = record {
  e = b.e;
  after = b.after;
  place = b.place;
  named = b.named;
  done = b.done;
  parts = b.parts;
  formed = b.formed;
  begun = case_begins Good i A P c Any b.done b.begun;
  dead = λ more. case_dead Good i A P c (CountsFor k) (b.done ++ b.e ∷ more)
      (c.carry b.done b.e b.after more (subst Good b.parts good)) (b.dead more);
  why = case_why Good i A P c b.done b.e k b.why;
}

-- a part under another form of its values
abbrev pub Whatever : List StreamRecord → Type 0
Whatever l = Unit {0}

pub same_part : {X Z : Type 0} (i : X → Z) (A : X → Part) (P : Z → Part) (a : Reader X) → IsCase Whatever i A P
    → IsPart A a → IsPart P (λ rs. as_value i (a rs))
same_part {X} {Z} i A P a c p = record {
  takes = λ rs z rest fits is. let b = as_ok i (a rs) z rest is in
      case_taken Whatever i A P c rs b.0 z rest b.1 (p.takes rs b.0 rest fits b.2);
  stops = λ rs s fits is. case_stops Whatever i A P c rs s tt (p.stops rs s fits (as_err i (a rs) s is));
  live = case_begins Whatever i A P c Any [] p.live;
}

pub through_part : {X Z : Type 0} (i : X → Z) (P : X → Part) (p : Reader X) → IsPart P p
    → IsPart (through i P) (λ rs. as_value i (p rs))
through_part i P p part = same_part i P (through i P) p
    (record {
      into = λ x judge K l s. (x, refl, s);
      back = λ z judge K l good s. s;
      good = λ x judge K l s. tt;
      carry = λ done e after more g. tt;
    }) part

-- the next record has this code
abbrev pub Heads : ℕ → List StreamRecord → Type 0
Heads code [] = ⊥
Heads code (e ∷ rs) = e.code ≡ code

abbrev pub Others : ℕ → List StreamRecord → Type 0
Others code [] = Unit {0}
Others code (e ∷ rs) = e.code ≡ code → ⊥

pub heads_carry : (code : ℕ) (done : List StreamRecord) (e : StreamRecord) (after more : List StreamRecord)
    → Heads code (done ++ e ∷ after) → Heads code (done ++ e ∷ more)
heads_carry code [] e after more h = h
heads_carry code (d ∷ done) e after more h = h

pub others_carry : (code : ℕ) (done : List StreamRecord) (e : StreamRecord) (after more : List StreamRecord)
    → Others code (done ++ e ∷ after) → Others code (done ++ e ∷ more)
others_carry code [] e after more h = h
others_carry code (d ∷ done) e after more h = h

pub picked : {R : Type 0} (b : Bool) (x y z : R) → cond b x y ≡ z → ((b ≡ true) × (x ≡ z)) ⊎ ((b ≡ false) × (y ≡ z))
picked true x y z is = inl (refl, is)
picked false x y z is = inr (refl, is)

fork_takes : {X Y Z : Type 0} (code : ℕ) (i : X → Z) (k : Y → Z) (A : X → Part) (B : Y → Part) (P : Z → Part)
    (a : Reader X) (b : Reader Y)
    → IsCase (Heads code) i A P → IsCase (Others code) k B P → IsPart A a → IsPart B b
    → (rs : List StreamRecord) (z : Z) (rest : List StreamRecord) → length rs ≤ room
    → fork_at code i k a b rs ≡ Ok (z, rest) → IsTaken P rs z rest
unfolding fork_at
fork_takes code i k A B P a b left right p q [] z rest fits is =
    let g = as_ok k (b []) z rest is in
    case_taken (Others code) k B P right [] g.0 z rest g.1 (q.takes [] g.0 rest fits g.2)
fork_takes code i k A B P a b left right p q (e ∷ rs) z rest fits is =
    elim (picked (eqb e.code code) (as_value i (a (e ∷ rs))) (as_value k (b (e ∷ rs))) (Ok (z, rest)) is) [
      | inl h ↦ let g = as_ok i (a (e ∷ rs)) z rest h.1 in
          case_taken (Heads code) i A P left (e ∷ rs) g.0 z rest g.1 (p.takes (e ∷ rs) g.0 rest fits g.2)
      | inr h ↦ let g = as_ok k (b (e ∷ rs)) z rest h.1 in
          case_taken (Others code) k B P right (e ∷ rs) g.0 z rest g.1 (q.takes (e ∷ rs) g.0 rest fits g.2)
    ]

fork_stops : {X Y Z : Type 0} (code : ℕ) (i : X → Z) (k : Y → Z) (A : X → Part) (B : Y → Part) (P : Z → Part)
    (a : Reader X) (b : Reader Y)
    → IsCase (Heads code) i A P → IsCase (Others code) k B P → IsPart A a → IsPart B b
    → (rs : List StreamRecord) (s : RecordError) → length rs ≤ room → fork_at code i k a b rs ≡ Err s → IsStop P rs s
unfolding fork_at
fork_stops code i k A B P a b left right p q [] s fits is =
    case_stops (Others code) k B P right [] s tt (q.stops [] s fits (as_err k (b []) s is))
fork_stops {X} {Y} {Z} code i k A B P a b left right p q (e ∷ rs) s fits is =
    elim (picked (eqb e.code code) (as_value i (a (e ∷ rs))) (as_value k (b (e ∷ rs))) (Err s) is) [
      | inl h ↦ case_stops (Heads code) i A P left (e ∷ rs) s (eqb-true _ _ h.0)
          (p.stops (e ∷ rs) s fits (as_err i (a (e ∷ rs)) s h.1))
      | inr h ↦ case_stops (Others code) k B P right (e ∷ rs) s (eqb-false _ _ h.0)
          (q.stops (e ∷ rs) s fits (as_err k (b (e ∷ rs)) s h.1))
    ]

-- two ways, told apart by the next record's code
pub fork_part : {X Y Z : Type 0} (code : ℕ) (i : X → Z) (k : Y → Z) (A : X → Part) (B : Y → Part) (P : Z → Part)
    (a : Reader X) (b : Reader Y)
    → IsCase (Heads code) i A P → IsCase (Others code) k B P → IsPart A a → IsPart B b → IsPart P (fork_at code i k a b)
fork_part code i k A B P a b left right p q = record {
  takes = fork_takes code i k A B P a b left right p q;
  stops = fork_stops code i k A B P a b left right p q;
  live = case_begins (Heads code) i A P left Any [] p.live;
}
