-- Parts that are read step by step.
use Rattle.std.proofs.Common.{◌≡◌, ◌⊎◌, inl, inr, ℕ, List, [], ◌∷◌, Bool, true, false, cond, Option, Result, Ok, Err, refl, sym, ap, ◌∙◌, arith}
use Rattle.gds_records.specs.Record.{StreamRecord, is_formed}
use Rattle.gds_records.specs.Part.{Rest, Judge, Part, ◌▸◌, value, any, maybe, ◌or◌, nothing}
use Rattle.gds_records.specs.declared.error.Demand.{Demand}
use Rattle.gds_records.specs.declared.error.RecordError.{RecordError}
use Rattle.gds_records.specs.declared.code.TheConstants.{ELFLAGS, PLEX}
use Rattle.gds_records.specs.Reading.{Reader, Taking, as_value, value_at, any_at, maybe_at, fork_at, refuse_at, value_or, identity, has_next, next_at, skip_at, taken_at, with_value, then_at, past, refusal, done_at, or_at, bar_at, begin_at}
use Rattle.gds_records.proofs.PartLaws.{IsPart, IsMeaning, Begins, Without, Valued, value_part}
use Rattle.gds_records.proofs.CaseLaws.{same_part, Heads, Others, heads_carry, others_carry, fork_part}
use Rattle.gds_records.proofs.JoinLaws.{equal_part, HasForm, any_part, AreOther, Leaf, leaf_part, other_others, other_heads, heads_others, maybe_part, value_heads, Joined, as_same}
use Rattle.gds_records.proofs.ChoiceLaws.{optional_part, maybe_other, heads_other}
use Rattle.gds_records.proofs.RefuseLaws.{Refusing, refuse_part}

pub with_as : {X Y : Type 0} (x : X) (r : Result (Y × List StreamRecord) RecordError)
    → with_value x r ≡ as_value (λ y. (x, y)) r
with_as x (Ok r) = refl
with_as x (Err s) = refl

pub as_as : {X Y Z : Type 0} (f : Y → Z) (g : X → Y) (r : Result (X × List StreamRecord) RecordError)
    → as_value f (as_value g r) ≡ as_value (λ x. f (g x)) r
as_as f g (Ok r) = refl
as_as f g (Err s) = refl

pub past_past : {X Y Z : Type 0} (r : Result (X × List StreamRecord) RecordError) (f : Reader Y) (q : Reader Z)
    → past (past r f) q ≡ past r (λ rs. past (f rs) q)
past_past (Ok r) f q = refl
past_past (Err s) f q = refl

pub past_second : {X Y : Type 0} (r : Result (X × List StreamRecord) RecordError) (q : Reader Y)
    → as_value (λ (z : X × Y). z.1) (then_at r (λ x. q)) ≡ past r q
past_second (Ok r) q = ap (as_value (λ z. z.1)) (with_as r.0 (q r.1)) ∙ as_as (λ z. z.1) (λ y. (r.0, y)) (q r.1)
    ∙ as_same (q r.1)
past_second (Err s) q = refl

or_choice : {X Y : Type 0} (demand : Demand) (code : ℕ) (f : List ℕ → Option X) (d : X) (q : Reader Y)
    (rs : List StreamRecord) (b : Bool)
    → cond b (as_value identity (value_at demand code f (λ x. q) rs)) (as_value (λ y. (d, y)) (q rs))
    ≡ then_at (cond b (taken_at demand code f rs) (Ok (d, rs))) (λ x. q)
unfolding value_at
or_choice demand code f d q rs true = as_same (value_at demand code f (λ x. q) rs)
or_choice demand code f d q rs false = sym (with_as d (q rs))

same_or : {X Y : Type 0} (demand : Demand) (code : ℕ) (f : List ℕ → Option X) (d : X) (q : Reader Y)
    (rs : List StreamRecord)
    → value_or demand code f d q q rs ≡ then_at (or_at demand code f d rs) (λ x. q)
unfolding fork_at or_at
same_or demand code f d q rs = or_choice demand code f d q rs (has_next code rs)

-- a value that may be left out
pub or_part : {X Y : Type 0} (demand : Demand) (code : ℕ) (V : X → List ℕ → Type 0) (f : List ℕ → Option X) (d : X)
    (Q : Y → Part) (q : Reader Y)
    → IsMeaning code V f → AreOther code Q → IsPart Q q
    → IsPart (λ (z : X × Y). (value demand code V z.0 ▸ Q z.1) or (nothing (z.0 ≡ d) ▸ Q z.1))
    (λ rs. then_at (or_at demand code f d rs) (λ x. q))
or_part demand code V f d Q q m other p =
    equal_part _ (value_or demand code f d q q) (λ rs. then_at (or_at demand code f d rs) (λ x. q))
    (same_or demand code f d q) (optional_part demand code V f d Q Q q q m other p p)

-- data that has one meaning, and may be left out
pub maybe_value_part : {Y : Type 0} (demand : Demand) (code : ℕ) (V : Unit {0} → List ℕ → Type 0)
    (f : List ℕ → Option (Unit {0})) (Q : Y → Part) (q : Reader Y)
    → IsMeaning code V f → AreOther code Q → IsPart Q q
    → IsPart (λ (y : Y). (value demand code V tt ▸ Q y) or (nothing (Unit {0}) ▸ Q y))
    (λ rs. past (or_at demand code f tt rs) q)
maybe_value_part {Y} demand code V f Q q m other p =
    equal_part (λ (y : Y). (value demand code V tt ▸ Q y) or (nothing (Unit {0}) ▸ Q y))
    (λ rs. as_value (λ (z : Unit {0} × Y). z.1) (then_at (or_at demand code f tt rs) (λ u. q)))
    (λ rs. past (or_at demand code f tt rs) q)
    (λ rs. past_second (or_at demand code f tt rs) q)
    (same_part (λ (z : Unit {0} × Y). z.1)
    (λ (z : Unit {0} × Y). (value demand code V z.0 ▸ Q z.1) or (nothing (z.0 ≡ tt) ▸ Q z.1))
    (λ (y : Y). (value demand code V tt ▸ Q y) or (nothing (Unit {0}) ▸ Q y)) _
    (record {
      into = λ z judge K l s. elim s [ inl a ↦ inl a | inr b ↦ inr (tt, b.1) ];
      back = λ y judge K l good s. ((tt, y), refl, elim s [ inl a ↦ inl a | inr b ↦ inr (refl, b.1) ]);
      good = λ z judge K l s. tt;
      carry = λ done e after more g. tt;
    })
    (or_part demand code V f tt Q q m other p))

bar_choice : {X : Type 0} (demand : Demand) (code : ℕ) (a : Reader X) (rs : List StreamRecord) (b : Bool)
    (r : Result (Taking × List StreamRecord) RecordError)
    → cond b (refusal demand r) (a rs) ≡ past (cond b (refusal {X = Unit {0}} demand r) (Ok (tt, rs))) a
bar_choice demand code a rs true (Ok r) = refl
bar_choice demand code a rs true (Err s) = refl
bar_choice demand code a rs false r = refl

same_bar : {X : Type 0} (demand : Demand) (code : ℕ) (a : Reader X) (rs : List StreamRecord)
    → refuse_at demand code a rs ≡ past (bar_at demand code rs) a
unfolding refuse_at bar_at
same_bar demand code a rs = bar_choice demand code a rs (has_next code rs) (next_at code rs)

-- a record that is refused where it could stand
pub bar_part : {X : Type 0} (demand : Demand) (code : ℕ) (R A : X → Part) (a : Reader X) → AreOther code A
    → Begins (Without demand) R [] → IsPart A a
    → IsPart (Refusing demand code R A) (λ rs. past (bar_at demand code rs) a)
bar_part demand code R A a other loose p =
    equal_part (Refusing demand code R A) (refuse_at demand code a) (λ rs. past (bar_at demand code rs) a)
    (same_bar demand code a) (refuse_part demand code R A a other loose p)

same_begin : {Y : Type 0} (code : ℕ) (q : Reader Y) (rs : List StreamRecord)
    → any_at code (maybe_at ELFLAGS (maybe_at PLEX q)) rs ≡ past (begin_at code rs) q
unfolding begin_at
same_begin code q rs = sym (past_past (next_at code rs) (λ rs. past (skip_at ELFLAGS rs) (skip_at PLEX)) q
    ∙ ap (past (next_at code rs)) (λ i rs. past_past (skip_at ELFLAGS rs) (skip_at PLEX) q i))

-- the record that begins an element, then [ELFLAGS] [PLEX]
pub begin_part : {Y : Type 0} (code : ℕ) (Q : Y → Part) (q : Reader Y) → HasForm code → AreOther ELFLAGS Q
    → AreOther PLEX Q → IsPart Q q
    → IsPart (λ y. any code ▸ maybe ELFLAGS ▸ maybe PLEX ▸ Q y) (λ rs. past (begin_at code rs) q)
unfolding is_formed
begin_part code Q q form flags plex p =
    equal_part (λ y. any code ▸ maybe ELFLAGS ▸ maybe PLEX ▸ Q y) (any_at code (maybe_at ELFLAGS (maybe_at PLEX q)))
    (λ rs. past (begin_at code rs) q) (same_begin code q)
    (any_part code (λ y. maybe ELFLAGS ▸ maybe PLEX ▸ Q y) (maybe_at ELFLAGS (maybe_at PLEX q)) form
    (maybe_part ELFLAGS (λ y. maybe PLEX ▸ Q y) (maybe_at PLEX q) (record { content = 0 ∷ 0 ∷ []; formed = refl })
    (maybe_other PLEX ELFLAGS Q (λ e. absurd (omega arith)) flags)
    (maybe_part PLEX Q q (record { content = 0 ∷ 0 ∷ 0 ∷ 0 ∷ []; formed = refl }) plex p)))

-- the one or the other
abbrev pub Either : {X Y : Type 0} → (X → Part) → (Y → Part) → X ⊎ Y → Part
Either A B (inl x) = A x
Either A B (inr y) = B y

either_left : {X Y : Type 0} (code : ℕ) (A : X → Part) (B : Y → Part) → AreOther code B
    → (z : X ⊎ Y) (judge : Judge) (K : Rest) (l : List StreamRecord)
    → Heads code l → Either A B z judge K l → (x : X) × (inl x ≡ z) × A x judge K l
either_left code A B other (inl x) judge K l h s = (x, refl, s)
either_left code A B other (inr y) judge K l h s = absurd (other_heads code l (other y judge K l s) h)

either_right : {X Y : Type 0} (code : ℕ) (A : X → Part) (B : Y → Part)
    → ((x : X) (judge : Judge) (K : Rest) (l : List StreamRecord) → A x judge K l → Heads code l)
    → (z : X ⊎ Y) (judge : Judge) (K : Rest) (l : List StreamRecord)
    → Others code l → Either A B z judge K l → (y : Y) × (inr y ≡ z) × B y judge K l
either_right code A B heads (inl x) judge K l o s = absurd (heads_others code l (heads x judge K l s) o)
either_right code A B heads (inr y) judge K l o s = (y, refl, s)

-- what begins with this code, or what begins with others
pub either_part : {X Y : Type 0} (code : ℕ) (A : X → Part) (B : Y → Part) (a : Reader X) (b : Reader Y)
    → ((x : X) (judge : Judge) (K : Rest) (l : List StreamRecord) → A x judge K l → Heads code l) → AreOther code B
    → IsPart A a → IsPart B b
    → IsPart (Either A B) (fork_at code inl inr a b)
either_part code A B a b heads other p q = fork_part code inl inr A B (Either A B) a b
    (record {
      into = λ x judge K l s. s;
      back = λ z judge K l good s. either_left code A B other z judge K l good s;
      good = heads;
      carry = heads_carry code;
    })
    (record {
      into = λ y judge K l s. s;
      back = λ z judge K l good s. either_right code A B heads z judge K l good s;
      good = λ y judge K l s. other_others code l (other y judge K l s);
      carry = others_carry code;
    }) p q

first_of : {X : Type 0} (r : Result (X × List StreamRecord) RecordError)
    → as_value (λ (z : X × Unit {0}). z.0) (then_at r (λ x. done_at)) ≡ r
first_of (Ok r) = refl
first_of (Err s) = refl

-- a value alone
pub taken_part : {X : Type 0} (demand : Demand) (code : ℕ) (V : X → List ℕ → Type 0) (f : List ℕ → Option X)
    → IsMeaning code V f → IsPart (value demand code V) (taken_at demand code f)
unfolding value_at
taken_part {X} demand code V f m =
    equal_part (value demand code V)
    (λ rs. as_value (λ (z : X × Unit {0}). z.0) (then_at (taken_at demand code f rs) (λ x. done_at)))
    (taken_at demand code f) (λ rs. first_of (taken_at demand code f rs))
    (same_part (λ (z : X × Unit {0}). z.0) (Valued demand code V (λ x. Leaf)) (value demand code V) _
    (record {
      into = λ z judge K l s. s;
      back = λ x judge K l good s. ((x, tt), refl, s);
      good = λ z judge K l s. tt;
      carry = λ done e after more g. tt;
    })
    (value_part demand code V f (λ x. Leaf) (λ x. done_at) m (λ x content has. leaf_part)))

-- what a part begins with
pub value_begins : {X : Type 0} (demand : Demand) (code d : ℕ) (V : X → List ℕ → Type 0) → (code ≡ d → ⊥)
    → AreOther d (value demand code V)
value_begins demand code d V ne x judge K l s = heads_other code d l ne (value_heads demand code V x judge K l s)

pub join_begins : {X Y : Type 0} (d : ℕ) (P : X → Part) (Q : X → Y → Part) → AreOther d P → AreOther d (Joined P Q)
join_begins d P Q other z judge K l s = other z.0 judge (Q z.0 z.1 judge K) l s

pub either_begins : {X Y : Type 0} (d : ℕ) (A : X → Part) (B : Y → Part) → AreOther d A → AreOther d B
    → AreOther d (Either A B)
either_begins d A B a b (inl x) judge K l s = a x judge K l s
either_begins d A B a b (inr y) judge K l s = b y judge K l s

abbrev pub either_of : {X Y Z : Type 0} → (X → Z) → (Y → Z) → X ⊎ Y → Z
either_of f g (inl x) = f x
either_of f g (inr y) = g y

fork_choice : {X Y Z W : Type 0} (h : W → Z) (g : X → W) (f : Y → Z) (a : Reader X) (b : Reader Y)
    (r : Result (Z × List StreamRecord) RecordError) (rs : List StreamRecord) (n : Bool) → r ≡ as_value f (b rs)
    → cond n (as_value h (as_value g (a rs))) (as_value identity r)
    ≡ as_value (either_of (λ x. h (g x)) f) (cond n (as_value inl (a rs)) (as_value inr (b rs)))
fork_choice h g f a b r rs true is = as_as h g (a rs) ∙ sym (as_as (either_of (λ x. h (g x)) f) inl (a rs))
fork_choice h g f a b r rs false is = as_same r ∙ is ∙ sym (as_as (either_of (λ x. h (g x)) f) inr (b rs))

-- a fork whose ways give one kind of value is one whose ways are kept apart
pub same_fork : {X Y Z W : Type 0} (code : ℕ) (h : W → Z) (g : X → W) (f : Y → Z) (a : Reader X) (b : Reader Y)
    (r : Reader Z) → ((rs : List StreamRecord) → r rs ≡ as_value f (b rs)) → (rs : List StreamRecord)
    → fork_at code h identity (λ l. as_value g (a l)) r rs
    ≡ as_value (either_of (λ x. h (g x)) f) (fork_at code inl inr a b rs)
unfolding fork_at
same_fork code h g f a b r is rs = fork_choice h g f a b (r rs) rs (has_next code rs) (is rs)
