-- Values that may be left out, and what each part begins with.
use Rattle.std.proofs.Common.{◌≡◌, inl, inr, ℕ, List, [], ◌∷◌, true, Option, Some, refl, sym, ◌∙◌}
use Rattle.gds_records.specs.Record.{StreamRecord, record_of, is_formed}
use Rattle.gds_records.specs.Part.{Rest, Judge, Part, ◌▸◌, value, any, maybe, ◌or◌, nothing}
use Rattle.gds_records.specs.Values.{Means, int16_of, string_of}
use Rattle.gds_records.specs.declared.error.Demand.{Demand}
use Rattle.gds_records.specs.declared.error.Demand.TheVariants.{Plain}
use Rattle.gds_records.specs.Reading.{Reader, as_value, value_at, value_or, identity}
use Rattle.gds_records.proofs.PartLaws.{IsPart, IsMeaning, Valued, value_part}
use Rattle.gds_records.proofs.CaseLaws.{same_part, Heads, Others, heads_carry, others_carry, fork_part}
use Rattle.gds_records.proofs.JoinLaws.{AreOther, IsOther, other_others, other_heads, heads_others, value_heads}

-- a code that is another
pub heads_other : (code d : ℕ) (l : List StreamRecord) → (code ≡ d → ⊥) → Heads code l → IsOther d l
heads_other code d [] ne h = h
heads_other code d (e ∷ l) ne h = λ same. ne (sym h ∙ same)

pub value_other : {X Y : Type 0} (demand : Demand) (code d : ℕ) (V : X → List ℕ → Type 0) (Q : X → Y → Part)
    → (code ≡ d → ⊥) → AreOther d (Valued demand code V Q)
value_other demand code d V Q ne z judge K l s =
    heads_other code d l ne (value_heads demand code V z.0 judge (Q z.0 z.1 judge K) l s)

pub any_heads : (code : ℕ) (judge : Judge) (K : Rest) (l : List StreamRecord) → any code judge K l → Heads code l
any_heads code judge K l s = value_heads Plain code (λ (u : Unit {0}) content. Unit {0}) tt judge K l s

pub any_other : {Y : Type 0} (code d : ℕ) (Q : Y → Part) → (code ≡ d → ⊥) → AreOther d (λ y. any code ▸ Q y)
any_other code d Q ne z judge K l s = heads_other code d l ne (any_heads code judge (Q z judge K) l s)

pub maybe_other : {Y : Type 0} (code d : ℕ) (Q : Y → Part) → (code ≡ d → ⊥) → AreOther d Q
    → AreOther d (λ y. maybe code ▸ Q y)
maybe_other code d Q ne other z judge K l s = elim s [
  | inl a ↦ heads_other code d l ne (any_heads code judge (Q z judge K) l a)
  | inr b ↦ other z judge K l b
]

-- what data means by a function
pub meaning : {X : Type 0} (code : ℕ) (f : List ℕ → Option X) (content : List ℕ) (x : X)
    → is_formed (record_of true code content) ≡ true → f content ≡ Some x → IsMeaning code (Means f) f
meaning code f content x formed has =
    record { gives = λ d y e. e; only = λ d y e. e; content = content; x = x; formed = formed; has = has }

pub int16_meaning : (code : ℕ) → is_formed (record_of true code (0 ∷ 0 ∷ [])) ≡ true
    → IsMeaning code (Means int16_of) int16_of
int16_meaning code formed = meaning code int16_of (0 ∷ 0 ∷ []) _ formed refl

pub text_meaning : (code : ℕ) → is_formed (record_of true code (65 ∷ 65 ∷ [])) ≡ true
    → IsMeaning code (Means string_of) string_of
text_meaning code formed = meaning code string_of (65 ∷ 65 ∷ []) (65 ∷ 65 ∷ []) formed refl

-- a value that may be left out
pub optional_part : {X Y : Type 0} (demand : Demand) (code : ℕ) (V : X → List ℕ → Type 0) (f : List ℕ → Option X)
    (d : X) (Q R : Y → Part) (q r : Reader Y)
    → IsMeaning code V f → AreOther code R → IsPart Q q → IsPart R r
    → IsPart (λ (z : X × Y). (value demand code V z.0 ▸ Q z.1) or (nothing (z.0 ≡ d) ▸ R z.1))
    (value_or demand code f d q r)
optional_part {X} {Y} demand code V f d Q R q r m other present absent =
    fork_part code identity (λ (y : Y). (d, y)) (Valued demand code V (λ x. Q)) R
    (λ (z : X × Y). (value demand code V z.0 ▸ Q z.1) or (nothing (z.0 ≡ d) ▸ R z.1))
    (value_at demand code f (λ x. q)) r
    (record {
      into = λ z judge K l s. inl s;
      back = λ z judge K l good s. elim s [
        | inl a ↦ (z, refl, a)
        | inr b ↦ absurd (other_heads code l (other z.1 judge K l b.1) good)
      ];
      good = λ z judge K l s. value_heads demand code V z.0 judge (Q z.1 judge K) l s;
      carry = heads_carry code;
    })
    (record {
      into = λ y judge K l s. inr (refl, s);
      back = λ z judge K l good s. elim s [
        | inl a ↦ absurd
            (heads_others code l (value_heads demand code V z.0 judge (Q z.1 judge K) l a) good)
        | inr b ↦ (z.1, (λ i. (sym b.0 i, z.1)), b.1)
      ];
      good = λ y judge K l s. other_others code l (other y judge K l s);
      carry = others_carry code;
    })
    (value_part demand code V f (λ x. Q) (λ x. q) m (λ x content v. present)) absent

-- one form of values for another
pub renamed : {X Z : Type 0} (i : X → Z) (j : Z → X) → ((z : Z) → i (j z) ≡ z)
    → (A : X → Part) (P : Z → Part) (a : Reader X)
    → ((x : X) (judge : Judge) (K : Rest) (l : List StreamRecord) → A x judge K l → P (i x) judge K l)
    → ((z : Z) (judge : Judge) (K : Rest) (l : List StreamRecord) → P z judge K l → A (j z) judge K l)
    → IsPart A a → IsPart P (λ rs. as_value i (a rs))
renamed i j round A P a into back p = same_part i A P a
    (record {
      into = into;
      back = λ z judge K l good s. (j z, round z, back z judge K l s);
      good = λ x judge K l s. tt;
      carry = λ done e after more g. tt;
    }) p

-- two codes at one place
pub clash : {X : Type 0} (a b : ℕ) (l : List StreamRecord) → (a ≡ b → ⊥) → Heads a l → Heads b l → X
clash a b [] ne h k = absurd h
clash a b (e ∷ l) ne h k = absurd (ne (sym h ∙ k))

pub apart : (code d : ℕ) (l : List StreamRecord) → (code ≡ d → ⊥) → Heads code l → Others d l
apart code d l ne h = other_others d l (heads_other code d l ne h)
