-- Parts that are made of others, one after the other.
use Rattle.std.proofs.Common.{◌≡◌, ◌⊎◌, inl, inr, ℕ, ◌+◌, ◌≤◌, List, [], ◌∷◌, ◌++◌, length, Bool, true, false, eqb, Some, Result, Ok, Err, refl, sym, ap, subst, ◌∙◌, append_assoc, arith, cond}
use Rattle.std.proofs.lemmas.List.{length-append}
use Rattle.gds_records.specs.Record.{StreamRecord, record_of, is_formed, AreFormed}
use Rattle.gds_records.specs.Part.{Rest, Judge, Part, ◌▸◌, value, any, maybe}
use Rattle.gds_records.specs.declared.error.Demand.{Demand}
use Rattle.gds_records.specs.declared.error.Demand.TheVariants.{Plain}
use Rattle.gds_records.specs.declared.error.Fault.{Fault}
use Rattle.gds_records.specs.declared.error.Fault.TheVariants.{BadRecord, NotInPlace, Unmet}
use Rattle.gds_records.specs.declared.error.RecordError.{RecordError}
use Rattle.gds_records.specs.declared.error.RecordError.TheVariants.{Short, At, Memory}
use Rattle.gds_records.specs.Reading.{Reader, Taking, with_value, meant_at, value_at, any_at, as_value, fork_at, then_at, done_at, past, next_at, skip_at, identity, taken_at, maybe_at}
use Rattle.gds_records.proofs.PartLaws.{Begins, Any, Without, IsDead, CountsFor, Why, IsStop, IsTaken, room, IsPart, with_ok, with_err, Valued, value_part}
use Rattle.gds_records.proofs.CaseLaws.{Heads, Others, fork_part, heads_carry, others_carry, same_part}

-- one part after another
abbrev pub Joined : {X Y : Type 0} → (X → Part) → (X → Y → Part) → X × Y → Part
Joined P Q z = P z.0 ▸ Q z.0 z.1

pub formed_both : (xs ys : List StreamRecord) → AreFormed xs → AreFormed ys → AreFormed (xs ++ ys)
formed_both [] ys f g = g
formed_both (x ∷ xs) ys f g = (f.0, formed_both xs ys f.1 g)

pub join_taken : {X Y : Type 0} (P : X → Part) (Q : X → Y → Part) (rs : List StreamRecord) (x : X)
    (mid : List StreamRecord) (y : Y) (rest : List StreamRecord)
    → IsTaken P rs x mid → IsTaken (Q x) mid y rest → IsTaken (Joined P Q) rs (x, y) rest
join_taken {X} {Y} P Q rs x mid y rest t u = record {
  front = t.front ++ u.front;
  parts = t.parts ∙ ap (λ (l : List StreamRecord). t.front ++ l) u.parts ∙ sym (append_assoc t.front u.front rest);
  formed = formed_both t.front u.front t.formed u.formed;
  spelled = λ judge K tail k. subst (P x judge (Q x y judge K)) (sym (append_assoc t.front u.front tail))
      (t.spelled judge (Q x y judge K) (u.front ++ tail) (u.spelled judge K tail k));
  closed = λ judge K tail z s.
      let a = t.closed judge (Q z.0 z.1 judge K) (u.front ++ tail) z.0
      (subst (P z.0 judge (Q z.0 z.1 judge K)) (append_assoc t.front u.front tail) s) in
      let b = u.closed judge K tail z.1 (subst (λ (v : X). Q v z.1 judge K (u.front ++ tail)) (sym a.0) a.1) in
      (λ i. (a.0 i, b.0 i), b.1);
}

-- what is begun in the first part goes on into the second
join_first : {X Y : Type 0} (P : X → Part) (Q : X → Y → Part) (J : Judge → Type 0) (done : List StreamRecord)
    → ((x : X) → Begins Any (Q x) []) → Begins J P done → Begins J (Joined P Q) done
join_first P Q J done live b = record {
  x = (b.x, (live b.x).x);
  more = b.more ++ (live b.x).more;
  goes = λ judge K tail j k.
      subst (λ (l : List StreamRecord). P b.x judge (Q b.x (live b.x).x judge K) (done ++ l))
      (sym (append_assoc b.more (live b.x).more tail))
      (b.goes judge (Q b.x (live b.x).x judge K) ((live b.x).more ++ tail) j ((live b.x).goes judge K tail tt k));
}

join_second : {X Y : Type 0} (P : X → Part) (Q : X → Y → Part) (J : Judge → Type 0) (rs : List StreamRecord) (x : X)
    (mid done : List StreamRecord)
    → (t : IsTaken P rs x mid) → Begins J (Q x) done → Begins J (Joined P Q) (t.front ++ done)
join_second P Q J rs x mid done t b = record {
  x = (x, b.x);
  more = b.more;
  goes = λ judge K tail j k.
      subst (P x judge (Q x b.x judge K)) (sym (append_assoc t.front done (b.more ++ tail)))
      (t.spelled judge (Q x b.x judge K) (done ++ (b.more ++ tail)) (b.goes judge K tail j k));
}

join_first_why : {X Y : Type 0} (P : X → Part) (Q : X → Y → Part) (done : List StreamRecord) (e : StreamRecord)
    (k : Fault) → ((x : X) → Begins Any (Q x) []) → Why P done e k → Why (Joined P Q) done e k
join_first_why P Q done e BadRecord live w = (w.0, join_first P Q Any done live w.1)
join_first_why P Q done e NotInPlace live w = (w.0, join_first P Q Any done live w.1)
join_first_why P Q done e (Unmet n) live w = (w.0, join_first P Q (Without n) (done ++ e ∷ []) live w.1)

pub join_stops_first : {X Y : Type 0} (P : X → Part) (Q : X → Y → Part) (rs : List StreamRecord) (s : RecordError)
    → ((x : X) → Begins Any (Q x) []) → IsStop P rs s → IsStop (Joined P Q) rs s
join_stops_first P Q rs Short live b =
    record {
      formed = b.formed;
      begun = join_first P Q Any rs live b.begun;
      dead = λ judge j z K s. b.dead judge j z.0 (Q z.0 z.1 judge K) s;
    }
join_stops_first P Q rs Memory live b = b
join_stops_first P Q rs (At left code k) live b = record {
  e = b.e;
  after = b.after;
  place = b.place;
  named = b.named;
  done = b.done;
  parts = b.parts;
  formed = b.formed;
  begun = join_first P Q Any b.done live b.begun;
  dead = λ more judge j z K s. b.dead more judge j z.0 (Q z.0 z.1 judge K) s;
  why = join_first_why P Q b.done b.e k live b.why;
}

join_dead : {X Y : Type 0} (P : X → Part) (Q : X → Y → Part) (J : Judge → Type 0) (rs : List StreamRecord) (x : X)
    (mid l : List StreamRecord)
    → (t : IsTaken P rs x mid) → IsDead J (Q x) l → IsDead J (Joined P Q) (t.front ++ l)
join_dead {X} P Q J rs x mid l t dead judge j z K s =
    let a = t.closed judge (Q z.0 z.1 judge K) l z.0 s in
    dead judge j z.1 K (subst (λ (v : X). Q v z.1 judge K l) (sym a.0) a.1)

join_second_why : {X Y : Type 0} (P : X → Part) (Q : X → Y → Part) (rs : List StreamRecord) (x : X)
    (mid done : List StreamRecord) (t : IsTaken P rs x mid) (e : StreamRecord) (k : Fault)
    → Why (Q x) done e k → Why (Joined P Q) (t.front ++ done) e k
join_second_why P Q rs x mid done t e BadRecord w = (w.0, join_second P Q Any rs x mid done t w.1)
join_second_why P Q rs x mid done t e NotInPlace w = (w.0, join_second P Q Any rs x mid done t w.1)
join_second_why P Q rs x mid done t e (Unmet n) w = (
  w.0,
  subst (Begins (Without n) (Joined P Q)) (sym (append_assoc t.front done (e ∷ [])))
      (join_second P Q (Without n) rs x mid (done ++ e ∷ []) t w.1),
)

pub join_stops_second : {X Y : Type 0} (P : X → Part) (Q : X → Y → Part) (rs : List StreamRecord) (x : X)
    (mid : List StreamRecord) (s : RecordError)
    → IsTaken P rs x mid → IsStop (Q x) mid s → IsStop (Joined P Q) rs s
join_stops_second P Q rs x mid Short t b = record {
  formed = subst AreFormed (sym t.parts) (formed_both t.front mid t.formed b.formed);
  begun = subst (Begins Any (Joined P Q)) (sym t.parts) (join_second P Q Any rs x mid mid t b.begun);
  dead = subst (IsDead Any (Joined P Q)) (sym t.parts) (join_dead P Q Any rs x mid mid t b.dead);
}
join_stops_second P Q rs x mid Memory t b = b
join_stops_second P Q rs x mid (At left code k) t b = record {
  e = b.e;
  after = b.after;
  place = b.place;
  named = b.named;
  done = t.front ++ b.done;
  parts = t.parts ∙ ap (λ (l : List StreamRecord). t.front ++ l) b.parts
      ∙ sym (append_assoc t.front b.done (b.e ∷ b.after));
  formed = formed_both t.front b.done t.formed b.formed;
  begun = join_second P Q Any rs x mid b.done t b.begun;
  dead = λ more. subst (IsDead (CountsFor k) (Joined P Q)) (sym (append_assoc t.front b.done (b.e ∷ more)))
      (join_dead P Q (CountsFor k) rs x mid (b.done ++ b.e ∷ more) t (b.dead more));
  why = join_second_why P Q rs x mid b.done t b.e k b.why;
}

-- no record
abbrev pub Leaf : Unit {0} → Part
Leaf u judge K = K

leaf_taken : (rs : List StreamRecord) → IsTaken Leaf rs tt rs
leaf_taken rs = record {
  front = [];
  parts = refl;
  formed = tt;
  spelled = λ judge K tail k. k;
  closed = λ judge K tail y s. (refl, s);
}

pub leaf_part : IsPart Leaf done_at
leaf_part = record {
  takes = λ rs x rest fits is.
      let e : ◌≡◌ {A = Unit {0} × List StreamRecord} (tt, rs) (x, rest) = cc in
      subst (λ (l : List StreamRecord). IsTaken Leaf rs tt l) (ap (λ (p : Unit {0} × List StreamRecord). p.1) e)
      (leaf_taken rs);
  stops = λ rs s fits is. absurd cc;
  live = record { x = tt; more = []; goes = λ judge K tail j k. k };
}

-- a code that has a record
pub record HasForm (code : ℕ) : Type 0 where
  pub content : List ℕ
  pub formed : is_formed (record_of true code content) ≡ true

abbrev pub Nothing : Unit {0} → List ℕ → Type 0
Nothing u content = Unit {0}

-- one reader for another
pub equal_part : {X : Type 0} (P : X → Part) (a b : Reader X) → ((rs : List StreamRecord) → a rs ≡ b rs) → IsPart P a
    → IsPart P b
equal_part P a b e p = record {
  takes = λ rs x rest fits is. p.takes rs x rest fits (e rs ∙ is);
  stops = λ rs s fits is. p.stops rs s fits (e rs ∙ is);
  live = p.live;
}

as_second : {X Y : Type 0} (x : X) (r : Result (Y × List StreamRecord) RecordError)
    → as_value (λ (p : X × Y). p.1) (with_value x r) ≡ r
as_second x (Ok r) = refl
as_second x (Err s) = refl

pub as_same : {X : Type 0} (r : Result (X × List StreamRecord) RecordError) → as_value identity r ≡ r
as_same (Ok r) = refl
as_same (Err s) = refl

past_as : {X Z Y : Type 0} (f : X → Z) (q : Reader Y) (r : Result (X × List StreamRecord) RecordError)
    → past r q ≡ past (as_value f r) q
past_as f q (Ok r) = refl
past_as f q (Err s) = refl

same_any_step : {Y : Type 0} (q : Reader Y) (r : Result (Taking × List StreamRecord) RecordError)
    → as_value (λ (p : Unit {0} × Y). p.1) (then_at (meant_at Plain (λ content. Some tt) r) (λ (u : Unit {0}). q))
    ≡ past r q
same_any_step q (Err s) = refl
same_any_step q (Ok r) = as_second tt (q r.1)

same_any : {Y : Type 0} (code : ℕ) (q : Reader Y) (rs : List StreamRecord)
    → as_value (λ (p : Unit {0} × Y). p.1) (value_at Plain code (λ content. Some tt) (λ (u : Unit {0}). q) rs)
    ≡ any_at code q rs
unfolding value_at taken_at
same_any code q rs = same_any_step q (next_at code rs)

abbrev skip_choice : Bool → ℕ → Reader (Unit {0})
skip_choice b code rs = cond b (as_value (λ e. tt) (next_at code rs)) (Ok (tt, rs))

same_choose : {Y : Type 0} (code : ℕ) (q : Reader Y) (rs : List StreamRecord) (b : Bool)
    → cond b (as_value identity (any_at code q rs)) (as_value identity (q rs)) ≡ past (skip_choice b code rs) q
same_choose code q rs true = as_same (any_at code q rs) ∙ past_as (λ e. tt) q (next_at code rs)
same_choose code q rs false = as_same (q rs)

same_maybe : {Y : Type 0} (code : ℕ) (q : Reader Y) (rs : List StreamRecord)
    → fork_at code identity identity (any_at code q) q rs ≡ maybe_at code q rs
unfolding fork_at skip_at
same_maybe code q [] = as_same (q [])
same_maybe code q (e ∷ rs) = same_choose code q (e ∷ rs) (eqb e.code code)

pub any_part : {Y : Type 0} (code : ℕ) (Q : Y → Part) (q : Reader Y) → HasForm code → IsPart Q q
    → IsPart (λ y. any code ▸ Q y) (any_at code q)
any_part {Y} code Q q form p =
    equal_part (λ y. any code ▸ Q y)
    (λ rs. as_value (λ (p : Unit {0} × Y). p.1) (value_at Plain code (λ content. Some tt) (λ (u : Unit {0}). q) rs))
    (any_at code q) (same_any code q)
    (same_part (λ (z : Unit {0} × Y). z.1) (Valued Plain code Nothing (λ u. Q)) (λ y. any code ▸ Q y)
    (value_at Plain code (λ content. Some tt) (λ u. q))
    (record {
      into = λ x judge K l s. s;
      back = λ z judge K l good s. ((tt, z), refl, s);
      good = λ x judge K l s. tt;
      carry = λ done e after more g. tt;
    })
    (value_part Plain code Nothing (λ content. Some tt) (λ u. Q) (λ u. q)
    (record {
      gives = λ content x is. tt;
      only = λ content x v. refl;
      content = form.content;
      x = tt;
      formed = form.formed;
      has = tt;
    })
    (λ x content v. p)))

-- a part that begins with another code
abbrev pub IsOther : ℕ → List StreamRecord → Type 0
IsOther code [] = ⊥
IsOther code (e ∷ rs) = e.code ≡ code → ⊥

abbrev pub AreOther : {X : Type 0} → ℕ → (X → Part) → Type 1
AreOther {X} code P = (x : X) (judge : Judge) (K : Rest) (l : List StreamRecord) → P x judge K l → IsOther code l

pub other_others : (code : ℕ) (l : List StreamRecord) → IsOther code l → Others code l
other_others code [] o = tt
other_others code (e ∷ l) o = o

pub other_heads : (code : ℕ) (l : List StreamRecord) → IsOther code l → Heads code l → ⊥
other_heads code [] o h = h
other_heads code (e ∷ l) o h = o h

pub value_heads : {X : Type 0} (demand : Demand) (code : ℕ) (V : X → List ℕ → Type 0) (x : X) (judge : Judge)
    (K : Rest) (l : List StreamRecord) → value demand code V x judge K l → Heads code l
value_heads demand code V x judge K [] s = s
value_heads demand code V x judge K (e ∷ l) s = s.1

pub heads_others : (code : ℕ) (l : List StreamRecord) → Heads code l → Others code l → ⊥
heads_others code [] h o = h
heads_others code (e ∷ l) h o = o h

-- a record that may be left out
pub maybe_part : {Y : Type 0} (code : ℕ) (Q : Y → Part) (q : Reader Y) → HasForm code → AreOther code Q → IsPart Q q
    → IsPart (λ y. maybe code ▸ Q y) (maybe_at code q)
maybe_part {Y} code Q q form other p =
    equal_part (λ y. maybe code ▸ Q y) (fork_at code identity identity (any_at code q) q) (maybe_at code q)
    (same_maybe code q)
    (fork_part code identity identity (λ y. any code ▸ Q y) Q (λ y. maybe code ▸ Q y) (any_at code q) q
    (record {
      into = λ x judge K l s. inl s;
      back = λ z judge K l good s. elim s [
        | inl a ↦ (z, refl, a)
        | inr b ↦ absurd (other_heads code l (other z judge K l b) good)
      ];
      good = λ x judge K l s. value_heads Plain code Nothing tt judge (Q x judge K) l s;
      carry = heads_carry code;
    })
    (record {
      into = λ x judge K l s. inr s;
      back = λ z judge K l good s. elim s [
        | inl a ↦ absurd
            (heads_others code l (value_heads Plain code Nothing tt judge (Q z judge K) l a) good)
        | inr b ↦ (z, refl, b)
      ];
      good = λ x judge K l s. other_others code l (other x judge K l s);
      carry = others_carry code;
    })
    (any_part code Q q form p) p)

pub then_ok : {X Y : Type 0} (r : Result (X × List StreamRecord) RecordError) (q : X → Reader Y) (z : X × Y)
    (rest : List StreamRecord) → then_at r q ≡ Ok (z, rest)
    → (mid : List StreamRecord) × (r ≡ Ok (z.0, mid)) × (q z.0 mid ≡ Ok (z.1, rest))
then_ok (Err s) q z rest is = absurd cc
then_ok {X} {Y} (Ok r) q z rest is =
    let w = with_ok r.0 (q r.0 r.1) z rest is in
    (r.1, ap (λ (v : X). Ok (v, r.1)) w.1, subst (λ (v : X). q v r.1 ≡ Ok (z.1, rest)) w.1 w.0)

pub then_err : {X Y : Type 0} (r : Result (X × List StreamRecord) RecordError) (q : X → Reader Y) (s : RecordError)
    → then_at r q ≡ Err s
    → (r ≡ Err s) ⊎ ((x : X) × (mid : List StreamRecord) × (r ≡ Ok (x, mid)) × (q x mid ≡ Err s))
then_err (Err t) q s is = inl cc
then_err (Ok r) q s is = inr (r.0, r.1, refl, with_err r.0 (q r.0 r.1) s is)

no_more : {X : Type 0} (P : X → Part) (rs : List StreamRecord) (x : X) (rest : List StreamRecord)
    → IsTaken P rs x rest → length rs ≤ room → length rest ≤ room
no_more P rs x rest t fits =
    let size : length rs ≡ length (t.front ++ rest) = ap length t.parts in
    let whole : length (t.front ++ rest) ≡ length t.front + length rest = length-append t.front rest in
    omega (arith, size, whole)

pub join_part : {X Y : Type 0} (P : X → Part) (Q : X → Y → Part) (p : Reader X) (q : X → Reader Y) → IsPart P p
    → ((x : X) → IsPart (Q x) (q x))
    → IsPart (Joined P Q) (λ rs. then_at (p rs) q)
join_part {X} {Y} P Q p q first second = record {
  takes = λ rs z rest fits is.
      let w = then_ok (p rs) q z rest is in
      let t = first.takes rs z.0 w.0 fits w.1 in
      join_taken P Q rs z.0 w.0 z.1 rest t ((second z.0).takes w.0 z.1 rest (no_more P rs z.0 w.0 t fits) w.2);
  stops = λ rs s fits is. elim (then_err (p rs) q s is) [
    | inl a ↦ join_stops_first P Q rs s (λ x. (second x).live) (first.stops rs s fits a)
    | inr b ↦
        let t = first.takes rs b.0 b.1 fits b.2 in
        join_stops_second P Q rs b.0 b.1 s t ((second b.0).stops b.1 s (no_more P rs b.0 b.1 t fits) b.3)
  ];
  live = join_first P Q Any [] (λ x. (second x).live) first.live;
}
