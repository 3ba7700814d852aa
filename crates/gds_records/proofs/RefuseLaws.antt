-- Records that have a place in the order and are refused there.
use Rattle.std.proofs.Common.{◌≡◌, inl, inr, ℕ, ◌≤◌, List, [], ◌∷◌, length, Bool, true, false, eqb, cond, Ok, Err, refl, sym, subst, ◌∙◌}
use Rattle.std.proofs.lemmas.Bool.{eqb-true, eqb-false}
use Rattle.gds_records.specs.Record.{StreamRecord, record_of, is_formed}
use Rattle.gds_records.specs.Part.{Part, ◌▸◌, ◌or◌, refused}
use Rattle.gds_records.specs.declared.error.Demand.{Demand}
use Rattle.gds_records.specs.declared.error.Fault.TheVariants.{BadRecord, NotInPlace, Unmet}
use Rattle.gds_records.specs.declared.error.RecordError.{RecordError}
use Rattle.gds_records.specs.declared.error.RecordError.TheVariants.{At}
use Rattle.gds_records.specs.Bytes.{byte_length}
use Rattle.gds_records.specs.Reading.{Reader, choose, taking, next_at, refusal, refuse_at}
use Rattle.gds_records.proofs.PartLaws.{Begins, Any, Without, IsStop, IsTaken, room, IsPart}
use Rattle.gds_records.proofs.CaseLaws.{IsCase, case_begins, case_taken, case_stops, picked, Others, others_carry}
use Rattle.gds_records.proofs.JoinLaws.{AreOther, other_others, heads_others, value_heads}

abbrev pub Refusing : {X : Type 0} → Demand → ℕ → (X → Part) → (X → Part) → X → Part
Refusing demand code R A x = (refused demand code ▸ R x) or A x

abbrev pub Never : Unit {0} → List ℕ → Type 0
Never u content = ⊥

stays : {X : Type 0} (demand : Demand) (code : ℕ) (R A : X → Part) → AreOther code A
    → IsCase (Others code) (λ x. x) A (Refusing demand code R A)
stays demand code R A other = record {
  into = λ x judge K l s. inr s;
  back = λ z judge K l good s. elim s [
    | inl a ↦ absurd
        (heads_others code l (value_heads demand code Never tt judge (R z judge K) l a) good)
    | inr b ↦ (z, refl, b)
  ];
  good = λ x judge K l s. other_others code l (other x judge K l s);
  carry = others_carry code;
}

-- a record that has the code is refused, or is none of the table
choice : {X : Type 0} (demand : Demand) (formed placed : Bool) (left c : ℕ) (content : List ℕ)
    (rs : List StreamRecord) → placed ≡ true
    → refusal {X = X} demand (choose formed placed (Err (At left c BadRecord)) (Err (At left c NotInPlace))
    (Ok (taking left c content, rs)))
    ≡ cond formed (Err (At left c (Unmet demand))) (Err (At left c BadRecord))
choice demand false placed left c content rs is = refl
choice demand true true left c content rs is = refl
choice demand true false left c content rs is = absurd cc

refuse_takes : {X : Type 0} (demand : Demand) (code : ℕ) (R A : X → Part) (a : Reader X) → AreOther code A → IsPart A a
    → (rs : List StreamRecord) (x : X) (rest : List StreamRecord) → length rs ≤ room
    → refuse_at demand code a rs ≡ Ok (x, rest) → IsTaken (Refusing demand code R A) rs x rest
unfolding refuse_at next_at
refuse_takes demand code R A a other p [] x rest fits is =
    case_taken (Others code) (λ y. y) A (Refusing demand code R A) (stays demand code R A other) [] x x rest refl
    (p.takes [] x rest fits is)
refuse_takes {X} demand code R A a other p (e ∷ rs) x rest fits is =
    elim (picked (eqb e.code code) (refusal demand (next_at code (e ∷ rs))) (a (e ∷ rs)) (Ok (x, rest)) is) [
      | inl h ↦ elim (picked (is_formed e) (Err (At (byte_length (e ∷ rs)) e.code (Unmet demand)))
          (Err (At (byte_length (e ∷ rs)) e.code BadRecord)) (Ok (x, rest))
          (sym (choice demand (is_formed e) (eqb e.code code) (byte_length (e ∷ rs)) e.code e.content rs h.0) ∙ h.1)) [
            | inl g ↦ absurd (cc (g.1))
            | inr g ↦ absurd (cc (g.1))
          ]
      | inr h ↦ case_taken (Others code) (λ y. y) A (Refusing demand code R A) (stays demand code R A other) (e ∷ rs)
          x x rest refl (p.takes (e ∷ rs) x rest fits h.1)
    ]

refuse_stops : {X : Type 0} (demand : Demand) (code : ℕ) (R A : X → Part) (a : Reader X) → AreOther code A
    → Begins (Without demand) R [] → IsPart A a
    → (rs : List StreamRecord) (s : RecordError) → length rs ≤ room → refuse_at demand code a rs ≡ Err s
    → IsStop (Refusing demand code R A) rs s
unfolding refuse_at next_at
refuse_stops demand code R A a other loose p [] s fits is =
    case_stops (Others code) (λ y. y) A (Refusing demand code R A) (stays demand code R A other) [] s tt
    (p.stops [] s fits is)
refuse_stops {X} demand code R A a other loose p (e ∷ rs) s fits is =
    elim (picked (eqb e.code code) (refusal demand (next_at code (e ∷ rs))) (a (e ∷ rs)) (Err s) is) [
      | inl h ↦
          let placed : e.code ≡ code = eqb-true _ _ h.0 in
          elim (picked (is_formed e) (Err (At (byte_length (e ∷ rs)) e.code (Unmet demand)))
          (Err (At (byte_length (e ∷ rs)) e.code BadRecord)) (Err s)
          (sym (choice demand (is_formed e) (eqb e.code code) (byte_length (e ∷ rs)) e.code e.content rs h.0) ∙ h.1)) [
            | inl g ↦
                let same : At (byte_length (e ∷ rs)) e.code (Unmet demand) ≡ s = cc (g.1) in
                subst (IsStop (Refusing demand code R A) (e ∷ rs)) same (record {
                  e = e;
                  after = rs;
                  place = refl;
                  named = refl;
                  done = [];
                  parts = refl;
                  formed = tt;
                  begun = case_begins (Others code) (λ y. y) A (Refusing demand code R A)
                      (stays demand code R A other) Any [] p.live;
                  dead = λ more judge j x K t. elim t [
                    | inl u ↦ elim u.2 [
                      | inl v ↦ v
                      | inr w ↦ let both : ◌≡◌ {A = Bool} true false = sym j ∙ w.0 in
                          absurd cc
                    ]
                    | inr b ↦ other x judge K (e ∷ more) b placed
                  ];
                  why = (
                    g.0,
                    record {
                      x = loose.x;
                      more = loose.more;
                      goes = λ judge K tail j k. inl (g.0, placed, inr (j, λ u v. v), loose.goes judge K tail j k);
                    },
                  );
                })
            | inr g ↦
                let same : At (byte_length (e ∷ rs)) e.code BadRecord ≡ s = cc (g.1) in
                let begun = case_begins (Others code) (λ y. y) A (Refusing demand code R A)
                (stays demand code R A other) Any [] p.live in
                subst (IsStop (Refusing demand code R A) (e ∷ rs)) same (record {
                  e = e;
                  after = rs;
                  place = refl;
                  named = refl;
                  done = [];
                  parts = refl;
                  formed = tt;
                  begun = begun;
                  dead = λ more judge j x K t. elim t [
                    | inl u ↦ let both : ◌≡◌ {A = Bool} true false = sym u.0 ∙ g.0 in absurd cc
                    | inr b ↦ other x judge K (e ∷ more) b placed
                  ];
                  why = (g.0, begun);
                })
          ]
      | inr h ↦ case_stops (Others code) (λ y. y) A (Refusing demand code R A) (stays demand code R A other) (e ∷ rs)
          s (eqb-false _ _ h.0) (p.stops (e ∷ rs) s fits h.1)
    ]

pub refuse_part : {X : Type 0} (demand : Demand) (code : ℕ) (R A : X → Part) (a : Reader X) → AreOther code A
    → Begins (Without demand) R [] → IsPart A a
    → IsPart (Refusing demand code R A) (refuse_at demand code a)
refuse_part demand code R A a other loose p = record {
  takes = refuse_takes demand code R A a other p;
  stops = refuse_stops demand code R A a other loose p;
  live = case_begins (Others code) (λ y. y) A (Refusing demand code R A) (stays demand code R A other) Any [] p.live;
}

pub refused_live : {X : Type 0} (demand : Demand) (code : ℕ) (content : List ℕ) (Q : X → Part)
    → is_formed (record_of true code content) ≡ true
    → Begins (Without demand) Q [] → Begins (Without demand) (λ x. refused demand code ▸ Q x) []
refused_live demand code content Q formed b = record {
  x = b.x;
  more = record_of true code content ∷ b.more;
  goes = λ judge K tail j k. (formed, refl, inr (j, λ u v. v), b.goes judge K tail j k);
}

pub loosely : {X : Type 0} (demand : Demand) (P : X → Part) → Begins Any P [] → Begins (Without demand) P []
loosely demand P b = record { x = b.x; more = b.more; goes = λ judge K tail j k. b.goes judge K tail tt k }
