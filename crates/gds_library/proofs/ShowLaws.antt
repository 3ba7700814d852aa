-- What follows where a part stands: a fact, and that the rest stands after it.
use Rattle.std.proofs.Common.{◌≡◌, inl, inr, ℕ, List, [], ◌∷◌, ◌++◌, true, false, subst}
use Rattle.std.proofs.lemmas.Bool.{and_parts}
use Rattle.gds_records.specs.declared.error.Demand.{Demand}
use Rattle.gds_records.specs.declared.error.Demand.TheVariants.{Plain}
use Rattle.gds_records.specs.Record.{StreamRecord, is_formed, form_of, has_form}
use Rattle.gds_records.specs.Part.{Rest, Part, ◌▸◌, value, any, maybe, ◌or◌, nothing, refused, maybe_refused, through, repeated_after}
use Rattle.gds_records.specs.Spelling.{all_count}
use Rattle.gds_library.proofs.SoundLaws.{AreSound, IsData}

-- a fact, and a rest of the records
pub record Found (F : Type 0) (K : Rest) : Type 0 where
  pub fact : F
  pub rest : List StreamRecord
  pub sound : AreSound rest
  pub holds : K rest

-- the fact holds wherever the part stands
pub record Shows (P : Part) (F : Type 0) : Type 1 where
  pub found : (K : Rest) (rs : List StreamRecord) → AreSound rs → P all_count K rs → Found F K

pub as_fact : {F G : Type 0} (P : Part) → (F → G) → Shows P F → Shows P G
as_fact P f p = record {
  found = λ K rs s h. let a = p.found K rs s h in
      record { fact = f a.fact; rest = a.rest; sound = a.sound; holds = a.holds };
}

pub both : {F G : Type 0} (P Q : Part) → Shows P F → Shows Q G → Shows (P ▸ Q) (F × G)
both P Q p q = record {
  found = λ K rs s h.
      let a = p.found (Q all_count K) rs s h in
      let b = q.found K a.rest a.sound a.holds in
      record { fact = (a.fact, b.fact); rest = b.rest; sound = b.sound; holds = b.holds };
}

pub past : {G : Type 0} (P Q : Part) → Shows P (Unit {0}) → Shows Q G → Shows (P ▸ Q) G
past {G} P Q p q = as_fact (P ▸ Q) (λ (h : Unit {0} × G). h.1) (both P Q p q)

pub before : {F : Type 0} (P Q : Part) → Shows P F → Shows Q (Unit {0}) → Shows (P ▸ Q) F
before {F} P Q p q = as_fact (P ▸ Q) (λ (h : F × Unit {0}). h.0) (both P Q p q)

formed_data : (e : StreamRecord) (code : ℕ) → is_formed e ≡ true → e.code ≡ code
    → has_form (form_of code) e.content ≡ true
unfolding is_formed
formed_data e code formed is = subst (λ c. has_form (form_of c) e.content ≡ true) is
    (and_parts e.whole (has_form (form_of e.code) e.content) formed).1

value_at : {X F : Type 0} (demand : Demand) (code : ℕ) (V : X → List ℕ → Type 0) (x : X)
    → ((content : List ℕ) → IsData code content → V x content → F)
    → (K : Rest) (rs : List StreamRecord) → AreSound rs → value demand code V x all_count K rs → Found F K
value_at demand code V x f K [] s h = absurd h
value_at demand code V x f K (e ∷ rs) s h = elim h.2 [
  | inl v ↦ record {
    fact = f e.content
        (record { bytes = s.0.bytes; size = s.0.size; form = formed_data e code h.0 h.1 }) v;
    rest = rs;
    sound = s.1;
    holds = h.3;
  }
  | inr off ↦ absurd (let bad : true ≡ false = off.0 in cc)
]

pub shown : {X F : Type 0} (demand : Demand) (code : ℕ) (V : X → List ℕ → Type 0) (x : X)
    → ((content : List ℕ) → IsData code content → V x content → F) → Shows (value demand code V x) F
shown demand code V x f = record { found = value_at demand code V x f }

pub passed : {X : Type 0} (demand : Demand) (code : ℕ) (V : X → List ℕ → Type 0) (x : X)
    → Shows (value demand code V x) (Unit {0})
passed demand code V x = shown demand code V x (λ content d v. tt)

pub passed_any : (code : ℕ) → Shows (any code) (Unit {0})
passed_any code = passed Plain code (λ (u : Unit {0}) content. Unit {0}) tt

stays : {F : Type 0} (K : Rest) (rs : List StreamRecord) → AreSound rs → K rs → F → Found F K
stays K rs s h f = record { fact = f; rest = rs; sound = s; holds = h }

pub either : {F : Type 0} (P Q : Part) → Shows P F → Shows Q F → Shows (P or Q) F
either P Q p q = record {
  found = λ K rs s h. elim h [
    | inl a ↦ p.found K rs s a
    | inr b ↦ q.found K rs s b
  ];
}

pub none_shown : {D F : Type 0} → (D → F) → Shows (nothing D) F
none_shown f = record { found = λ K rs s h. stays K rs s h.1 (f h.0) }

pub passed_maybe : (code : ℕ) → Shows (maybe code) (Unit {0})
passed_maybe code = record {
  found = λ K rs s h. elim h [
    | inl a ↦ (passed_any code).found K rs s a
    | inr b ↦ stays K rs s b tt
  ];
}

pub never : {F : Type 0} (demand : Demand) (code : ℕ) → Shows (refused demand code) F
never demand code = shown demand code (λ (u : Unit {0}) content. ⊥) tt (λ content d v. absurd v)

pub passed_refused : (demand : Demand) (code : ℕ) → Shows (maybe_refused demand code) (Unit {0})
passed_refused demand code = record {
  found = λ K rs s h. elim h [
    | inl a ↦ (never demand code).found K rs s a
    | inr b ↦ stays K rs s b tt
  ];
}

pub by_case : {X Z F : Type 0} (i : X → Z) (P : X → Part) (z : Z) → ((x : X) → i x ≡ z → Shows (P x) F)
    → Shows (through i P z) F
by_case i P z f = record { found = λ K rs s h. (f h.0 h.1).found K rs s h.2 }

-- of each item, after those before it
abbrev pub EachAfter : {X : Type 0} → (List X → X → Type 0) → List X → List X → Type 0
EachAfter F before [] = Unit {0}
EachAfter F before (x ∷ xs) = F before x × EachAfter F (before ++ x ∷ []) xs

pub each_shown : {X : Type 0} (P : List X → X → Part) (F : List X → X → Type 0)
    → ((before : List X) (x : X) → Shows (P before x) (F before x))
    → (xs before : List X) → Shows (repeated_after P before xs) (EachAfter F before xs)
each_shown P F f [] before = record { found = λ K rs s h. stays K rs s h tt }
each_shown P F f (x ∷ xs) before =
    record {
      found = (both (P before x) (repeated_after P (before ++ x ∷ []) xs) (f before x)
          (each_shown P F f xs (before ++ x ∷ []))).found;
    }
