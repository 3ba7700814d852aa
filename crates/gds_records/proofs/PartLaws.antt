-- A part and a reader that belong together.
use Rattle.std.proofs.Common.{◌≡◌, inl, inr, ℕ, ◌≤◌, ◌^◌, List, [], ◌∷◌, ◌++◌, length, Bool, true, false, eqb, Option, Some, None, Result, Ok, Err, refl, sym, ap, subst, ◌∙◌, arith}
use Rattle.std.proofs.lemmas.Bool.{eqb-true, eq-eqb}
use Rattle.gds_records.specs.Record.{StreamRecord, record_of, is_formed, AreFormed}
use Rattle.gds_records.specs.Part.{Rest, Judge, Part, ◌▸◌, IsRight, value}
use Rattle.gds_records.specs.declared.error.Demand.{Demand}
use Rattle.gds_records.specs.declared.error.Fault.{Fault}
use Rattle.gds_records.specs.declared.error.Fault.TheVariants.{BadRecord, NotInPlace, Unmet}
use Rattle.gds_records.specs.declared.error.RecordError.{RecordError}
use Rattle.gds_records.specs.declared.error.RecordError.TheVariants.{Short, At, Memory}
use Rattle.gds_records.specs.Bytes.{byte_length}
use Rattle.gds_records.specs.Reading.{Reader, taking, with_value, on_value, choose, next_at, meant, meant_at, taken_at, value_at, then_at}

-- these records can be completed, under the judges of J
pub record Begins {X : Type 0} (J : Judge → Type 0) (P : X → Part) (done : List StreamRecord) : Type 1 where
  pub x : X
  pub more : List StreamRecord
  pub goes : (judge : Judge) (K : Rest) (tail : List StreamRecord) → J judge → K tail
      → P x judge K (done ++ (more ++ tail))

abbrev pub Any : Judge → Type 0
Any judge = Unit {0}

abbrev pub Without : Demand → Judge → Type 0
Without n judge = judge n ≡ false

-- no part begins so
abbrev pub IsDead : {X : Type 0} → (Judge → Type 0) → (X → Part) → List StreamRecord → Type 1
IsDead {X} J P rs = (judge : Judge) → J judge → (x : X) (K : Rest) → P x judge K rs → ⊥

abbrev pub CountsFor : Fault → Judge → Type 0
CountsFor BadRecord judge = Unit {0}
CountsFor NotInPlace judge = Unit {0}
CountsFor (Unmet n) judge = judge n ≡ true

abbrev pub Why : {X : Type 0} → (X → Part) → List StreamRecord → StreamRecord → Fault → Type 1
Why P done e BadRecord = (is_formed e ≡ false) × Begins Any P done
Why P done e NotInPlace = (is_formed e ≡ true) × Begins Any P done
Why P done e (Unmet n) = (is_formed e ≡ true) × Begins (Without n) P (done ++ e ∷ [])

pub record IsStuck {X : Type 0} (P : X → Part) (rs : List StreamRecord) (left code : ℕ) (fault : Fault) : Type 1 where
  pub e : StreamRecord
  pub after : List StreamRecord
  pub place : byte_length (e ∷ after) ≡ left
  pub named : e.code ≡ code
  pub done : List StreamRecord
  pub parts : rs ≡ done ++ e ∷ after
  pub formed : AreFormed done
  pub begun : Begins Any P done
  pub dead : (more : List StreamRecord) → IsDead (CountsFor fault) P (done ++ e ∷ more)
  pub why : Why P done e fault

pub record IsShort {X : Type 0} (P : X → Part) (rs : List StreamRecord) : Type 1 where
  pub formed : AreFormed rs
  pub begun : Begins Any P rs
  pub dead : IsDead Any P rs

abbrev pub IsStop : {X : Type 0} → (X → Part) → List StreamRecord → RecordError → Type 1
IsStop P rs Short = IsShort P rs
IsStop P rs (At left code fault) = IsStuck P rs left code fault
IsStop P rs Memory = (A : Type 0) → A

pub record IsTaken {X : Type 0} (P : X → Part) (rs : List StreamRecord) (x : X) (rest : List StreamRecord) : Type 1
  where
    pub front : List StreamRecord
    pub parts : rs ≡ front ++ rest
    pub formed : AreFormed front
    pub spelled : (judge : Judge) (K : Rest) (tail : List StreamRecord) → K tail → P x judge K (front ++ tail)
    pub closed : (judge : Judge) (K : Rest) (tail : List StreamRecord) (y : X) → P y judge K (front ++ tail)
        → (x ≡ y) × K tail

-- so many records at most
abbrev pub room : ℕ
room = 2 ^ 64

pub record IsPart {X : Type 0} (P : X → Part) (read : Reader X) : Type 1 where
  pub takes : (rs : List StreamRecord) (x : X) (rest : List StreamRecord) → length rs ≤ room → read rs ≡ Ok (x, rest)
      → IsTaken P rs x rest
  pub stops : (rs : List StreamRecord) (s : RecordError) → length rs ≤ room → read rs ≡ Err s → IsStop P rs s
  pub live : Begins Any P []

-- which data means which value
pub record IsMeaning {X : Type 0} (code : ℕ) (V : X → List ℕ → Type 0) (f : List ℕ → Option X) : Type 0 where
  pub gives : (content : List ℕ) (x : X) → f content ≡ Some x → V x content
  pub only : (content : List ℕ) (x : X) → V x content → f content ≡ Some x
  pub content : List ℕ
  pub x : X
  pub formed : is_formed (record_of true code content) ≡ true
  pub has : V x content

-- how a record was taken
pub data Step {R : Type 0} (formed placed : Bool) (a b c r : R) : Type 0 where
  unformed : formed ≡ false → a ≡ r → Step formed placed a b c r
  misplaced : formed ≡ true → placed ≡ false → b ≡ r → Step formed placed a b c r
  stands : formed ≡ true → placed ≡ true → c ≡ r → Step formed placed a b c r

step_of : {R : Type 0} (formed placed : Bool) (a b c r : R) → choose formed placed a b c ≡ r
    → Step formed placed a b c r
step_of false placed a b c r is = unformed refl is
step_of true false a b c r is = misplaced refl refl is
step_of true true a b c r is = stands refl refl is

pub with_ok : {X Y : Type 0} (x : X) (r : Result (Y × List StreamRecord) RecordError) (z : X × Y)
    (rest : List StreamRecord) → with_value x r ≡ Ok (z, rest) → (r ≡ Ok (z.1, rest)) × (x ≡ z.0)
with_ok {X} {Y} x (Ok r) z rest is =
    let e : ◌≡◌ {A = (X × Y) × List StreamRecord} ((x, r.0), r.1) (z, rest) = cc in
    (ap (λ (p : (X × Y) × List StreamRecord). Ok (p.0.1, p.1)) e, ap (λ (p : (X × Y) × List StreamRecord). p.0.0) e)
with_ok x (Err s) z rest is = absurd cc

pub with_err : {X Y : Type 0} (x : X) (r : Result (Y × List StreamRecord) RecordError) (s : RecordError)
    → with_value x r ≡ Err s → r ≡ Err s
with_err x (Ok r) s is = absurd cc
with_err x (Err t) s is = cc

-- a value and what follows it
abbrev pub Valued : {X Y : Type 0} → Demand → ℕ → (X → List ℕ → Type 0) → (X → Y → Part) → X × Y → Part
Valued demand code V Q p = value demand code V p.0 ▸ Q p.0 p.1

grow : {X Y : Type 0} (demand : Demand) (code : ℕ) (V : X → List ℕ → Type 0) (Q : X → Y → Part) (J : Judge → Type 0)
    (e : StreamRecord) (x : X) (done : List StreamRecord)
    → is_formed e ≡ true → e.code ≡ code → ((judge : Judge) → J judge → IsRight demand V x judge e.content)
    → Begins J (Q x) done → Begins J (Valued demand code V Q) (e ∷ done)
grow demand code V Q J e x done formed placed right b = record {
  x = (x, b.x);
  more = b.more;
  goes = λ judge K tail j k. (formed, placed, right judge j, b.goes judge K tail j k);
}

-- a judge that counts less
weaken : {X : Type 0} (P : X → Part) (J : Judge → Type 0) (done : List StreamRecord) → Begins Any P done
    → Begins J P done
weaken P J done b = record { x = b.x; more = b.more; goes = λ judge K tail j k. b.goes judge K tail tt k }

-- the value that the data means is the only one
sole : {X : Type 0} (code : ℕ) (V : X → List ℕ → Type 0) (f : List ℕ → Option X) (m : IsMeaning code V f)
    (demand : Demand) (judge : Judge) (content : List ℕ) (x y : X)
    → f content ≡ Some x → IsRight demand V y judge content → x ≡ y
sole {X} code V f m demand judge content x y is (inl has) =
    let e : Some x ≡ Some y = sym is ∙ m.only content y has in cc
sole {X} code V f m demand judge content x y is (inr h) = absurd (h.1 x (m.gives content x is))

value_taken : {X Y : Type 0} (demand : Demand) (code : ℕ) (V : X → List ℕ → Type 0) (f : List ℕ → Option X)
    (Q : X → Y → Part) (q : X → Reader Y)
    → IsMeaning code V f → ((x : X) (content : List ℕ) → V x content → IsPart (Q x) (q x))
    → (e : StreamRecord) (rs : List StreamRecord) (z : X × Y) (rest : List StreamRecord) → is_formed e ≡ true
    → e.code ≡ code
    → (o : Option X) → f e.content ≡ o → length rs ≤ room → on_value demand e rs q o ≡ Ok (z, rest)
    → IsTaken (Valued demand code V Q) (e ∷ rs) z rest
value_taken demand code V f Q q m parts e rs z rest formed placed None is fits goes = absurd cc
value_taken {X} {Y} demand code V f Q q m parts e rs z rest formed placed (Some x) is fits goes =
    let w = with_ok x (q x rs) z rest goes in
    let has : V x e.content = m.gives e.content x is in
    let t : IsTaken (Q x) rs z.1 rest = (parts x e.content has).takes rs z.1 rest fits w.0 in
    subst (λ (v : X). IsTaken (Valued demand code V Q) (e ∷ rs) (v, z.1) rest) w.1 (record {
      front = e ∷ t.front;
      parts = ap (λ (l : List StreamRecord). e ∷ l) t.parts;
      formed = (formed, t.formed);
      spelled = λ judge K tail k. (formed, placed, inl has, t.spelled judge K tail k);
      closed = λ judge K tail y s.
          let same : x ≡ y.0 = sole code V f m demand judge e.content x y.0 is s.2 in
          let u = t.closed judge K tail y.1 (subst (λ (v : X). Q v y.1 judge K (t.front ++ tail)) (sym same) s.3) in
          (λ i. (same i, u.0 i), u.1);
    })

same_choice : {X Y : Type 0} (demand : Demand) (code : ℕ) (f : List ℕ → Option X) (q : X → Reader Y)
    (e : StreamRecord) (rs : List StreamRecord) (formed placed : Bool) (o : Option X)
    → f e.content ≡ o
    → then_at (meant_at demand f (choose formed placed (Err (At (byte_length (e ∷ rs)) e.code BadRecord))
    (Err (At (byte_length (e ∷ rs)) e.code NotInPlace)) (Ok (taking (byte_length (e ∷ rs)) e.code e.content, rs)))) q
    ≡ choose formed placed (Err (At (byte_length (e ∷ rs)) e.code BadRecord))
    (Err (At (byte_length (e ∷ rs)) e.code NotInPlace)) (on_value demand e rs q o)
same_choice demand code f q e rs false placed o is = refl
same_choice demand code f q e rs true false o is = refl
same_choice demand code f q e rs true true None is =
    ap (λ p. then_at (meant demand (taking (byte_length (e ∷ rs)) e.code e.content) rs p) q) is
same_choice demand code f q e rs true true (Some x) is =
    ap (λ p. then_at (meant demand (taking (byte_length (e ∷ rs)) e.code e.content) rs p) q) is

same_value : {X Y : Type 0} (demand : Demand) (code : ℕ) (f : List ℕ → Option X) (q : X → Reader Y) (e : StreamRecord)
    (rs : List StreamRecord)
    → value_at demand code f q (e ∷ rs)
    ≡ choose (is_formed e) (eqb e.code code) (Err (At (byte_length (e ∷ rs)) e.code BadRecord))
    (Err (At (byte_length (e ∷ rs)) e.code NotInPlace)) (on_value demand e rs q (f e.content))
unfolding value_at taken_at next_at
same_value demand code f q e rs = same_choice demand code f q e rs (is_formed e) (eqb e.code code) (f e.content) refl

value_takes : {X Y : Type 0} (demand : Demand) (code : ℕ) (V : X → List ℕ → Type 0) (f : List ℕ → Option X)
    (Q : X → Y → Part) (q : X → Reader Y)
    → IsMeaning code V f → ((x : X) (content : List ℕ) → V x content → IsPart (Q x) (q x))
    → (rs : List StreamRecord) (z : X × Y) (rest : List StreamRecord) → length rs ≤ room
    → value_at demand code f q rs ≡ Ok (z, rest) → IsTaken (Valued demand code V Q) rs z rest
unfolding value_at taken_at next_at
value_takes demand code V f Q q m parts [] z rest fits is = absurd cc
value_takes {X} {Y} demand code V f Q q m parts (e ∷ rs) z rest fits is =
    elim (step_of (is_formed e) (eqb e.code code) _ _ _ _ (sym (same_value demand code f q e rs) ∙ is)) [
      | unformed a b ↦ absurd cc
      | misplaced a b c ↦ absurd cc
      | stands formed placed goes ↦ value_taken demand code V f Q q m parts e rs z rest formed (eqb-true _ _ placed)
          (f e.content) refl (omega arith) goes
    ]

-- what stands first where a value is wanted
value_live : {X Y : Type 0} (demand : Demand) (code : ℕ) (V : X → List ℕ → Type 0) (f : List ℕ → Option X)
    (Q : X → Y → Part) (q : X → Reader Y)
    → IsMeaning code V f → ((x : X) (content : List ℕ) → V x content → IsPart (Q x) (q x))
    → Begins Any (Valued demand code V Q) []
value_live demand code V f Q q m parts =
    let b = grow demand code V Q Any (record_of true code m.content) m.x [] m.formed refl (λ judge j. inl m.has)
    (parts m.x m.content m.has).live in
    record { x = b.x; more = record_of true code m.content ∷ b.more; goes = b.goes }

later_why : {X Y : Type 0} (demand : Demand) (code : ℕ) (V : X → List ℕ → Type 0) (Q : X → Y → Part)
    (e : StreamRecord) (x : X) (done : List StreamRecord) (bad : StreamRecord) (k : Fault)
    → is_formed e ≡ true → e.code ≡ code → V x e.content → Why (Q x) done bad k
    → Why (Valued demand code V Q) (e ∷ done) bad k
later_why demand code V Q e x done bad BadRecord formed placed has w =
    (w.0, grow demand code V Q Any e x done formed placed (λ judge j. inl has) w.1)
later_why demand code V Q e x done bad NotInPlace formed placed has w =
    (w.0, grow demand code V Q Any e x done formed placed (λ judge j. inl has) w.1)
later_why demand code V Q e x done bad (Unmet n) formed placed has w =
    (w.0, grow demand code V Q (Without n) e x (done ++ bad ∷ []) formed placed (λ judge j. inl has) w.1)

-- stuck after the value
later : {X Y : Type 0} (demand : Demand) (code : ℕ) (V : X → List ℕ → Type 0) (f : List ℕ → Option X) (Q : X → Y → Part)
    → IsMeaning code V f → (e : StreamRecord) (x : X) → is_formed e ≡ true → e.code ≡ code → f e.content ≡ Some x
    → (rs : List StreamRecord) (s : RecordError) → IsStop (Q x) rs s → IsStop (Valued demand code V Q) (e ∷ rs) s
later {X} {Y} demand code V f Q m e x formed placed is rs Short b = record {
  formed = (formed, b.formed);
  begun = grow demand code V Q Any e x rs formed placed (λ judge j. inl (m.gives e.content x is)) b.begun;
  dead = λ judge j y K s. b.dead judge j y.1 K
      (subst (λ (v : X). Q v y.1 judge K rs) (sym (sole code V f m demand judge e.content x y.0 is s.2)) s.3);
}
later {X} {Y} demand code V f Q m e x formed placed is rs Memory b = b
later {X} {Y} demand code V f Q m e x formed placed is rs (At left c k) b = record {
  e = b.e;
  after = b.after;
  place = b.place;
  named = b.named;
  done = e ∷ b.done;
  parts = ap (λ (l : List StreamRecord). e ∷ l) b.parts;
  formed = (formed, b.formed);
  begun = grow demand code V Q Any e x b.done formed placed (λ judge j. inl (m.gives e.content x is)) b.begun;
  dead = λ more judge j y K s. b.dead more judge j y.1 K
      (subst (λ (v : X). Q v y.1 judge K (b.done ++ b.e ∷ more))
      (sym (sole code V f m demand judge e.content x y.0 is s.2)) s.3);
  why = later_why demand code V Q e x b.done b.e k formed placed (m.gives e.content x is) b.why;
}

value_stopped : {X Y : Type 0} (demand : Demand) (code : ℕ) (V : X → List ℕ → Type 0) (f : List ℕ → Option X)
    (Q : X → Y → Part) (q : X → Reader Y)
    → IsMeaning code V f → ((x : X) (content : List ℕ) → V x content → IsPart (Q x) (q x))
    → (e : StreamRecord) (rs : List StreamRecord) (s : RecordError) → is_formed e ≡ true → e.code ≡ code
    → (o : Option X) → f e.content ≡ o → length rs ≤ room → on_value demand e rs q o ≡ Err s
    → IsStop (Valued demand code V Q) (e ∷ rs) s
value_stopped demand code V f Q q m parts e rs s formed placed (Some x) is fits goes =
    later demand code V f Q m e x formed placed is rs s
    ((parts x e.content (m.gives e.content x is)).stops rs s fits (with_err x (q x rs) s goes))
value_stopped {X} {Y} demand code V f Q q m parts e rs s formed placed None is fits goes =
    let same : At (byte_length (e ∷ rs)) e.code (Unmet demand) ≡ s = cc in
    let unfit : (y : X) → V y e.content → ⊥ = λ y has. let both : None ≡ Some y = sym is ∙ m.only e.content y has in
    absurd cc in
    subst (IsStop (Valued demand code V Q) (e ∷ rs)) same (record {
      e = e;
      after = rs;
      place = refl;
      named = refl;
      done = [];
      parts = refl;
      formed = tt;
      begun = value_live demand code V f Q q m parts;
      dead = λ more judge j y K s.
          elim s.2 [
            | inl has ↦ unfit y.0 has
            | inr h ↦ let both : true ≡ false = sym j ∙ h.0 in absurd cc
          ];
      why = (
        formed,
        grow demand code V Q (Without demand) e m.x [] formed placed (λ judge j. inr (j, unfit))
            (weaken (Q m.x) (Without demand) [] (parts m.x m.content m.has).live),
      );
    })

value_stops : {X Y : Type 0} (demand : Demand) (code : ℕ) (V : X → List ℕ → Type 0) (f : List ℕ → Option X)
    (Q : X → Y → Part) (q : X → Reader Y)
    → IsMeaning code V f → ((x : X) (content : List ℕ) → V x content → IsPart (Q x) (q x))
    → (rs : List StreamRecord) (s : RecordError) → length rs ≤ room → value_at demand code f q rs ≡ Err s
    → IsStop (Valued demand code V Q) rs s
unfolding value_at taken_at next_at
value_stops demand code V f Q q m parts [] s fits is =
    let same : Short ≡ s = cc in
    subst (IsStop (Valued demand code V Q) []) same
    (record { formed = tt; begun = value_live demand code V f Q q m parts; dead = λ judge j y K s. s })
value_stops {X} {Y} demand code V f Q q m parts (e ∷ rs) s fits is =
    elim (step_of (is_formed e) (eqb e.code code) _ _ _ _ (sym (same_value demand code f q e rs) ∙ is)) [
      | unformed a b ↦
          let same : At (byte_length (e ∷ rs)) e.code BadRecord ≡ s = cc in
          subst (IsStop (Valued demand code V Q) (e ∷ rs)) same (record {
            e = e;
            after = rs;
            place = refl;
            named = refl;
            done = [];
            parts = refl;
            formed = tt;
            begun = value_live demand code V f Q q m parts;
            dead = λ more judge j y K s. let both : true ≡ false = sym s.0 ∙ a in absurd cc;
            why = (a, value_live demand code V f Q q m parts);
          })
      | misplaced a b c ↦
          let same : At (byte_length (e ∷ rs)) e.code NotInPlace ≡ s = cc in
          subst (IsStop (Valued demand code V Q) (e ∷ rs)) same (record {
            e = e;
            after = rs;
            place = refl;
            named = refl;
            done = [];
            parts = refl;
            formed = tt;
            begun = value_live demand code V f Q q m parts;
            dead = λ more judge j y K s. let both : true ≡ false = sym (eq-eqb _ _ s.1) ∙ b in absurd cc;
            why = (a, value_live demand code V f Q q m parts);
          })
      | stands formed placed goes ↦ value_stopped demand code V f Q q m parts e rs s formed (eqb-true _ _ placed)
          (f e.content) refl (omega arith) goes
    ]

pub value_part : {X Y : Type 0} (demand : Demand) (code : ℕ) (V : X → List ℕ → Type 0) (f : List ℕ → Option X)
    (Q : X → Y → Part) (q : X → Reader Y)
    → IsMeaning code V f → ((x : X) (content : List ℕ) → V x content → IsPart (Q x) (q x))
    → IsPart (Valued demand code V Q) (value_at demand code f q)
value_part demand code V f Q q m parts =
    record {
      takes = value_takes demand code V f Q q m parts;
      stops = value_stops demand code V f Q q m parts;
      live = value_live demand code V f Q q m parts;
    }
