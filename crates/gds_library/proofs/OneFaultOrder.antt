-- In the records of a library each XY has the points that are wanted there, and ENDLIB stands last and nowhere else.
use Rattle.std.proofs.Common.{◌≡◌, ◌≢◌, ◌⊎◌, inl, inr, ℕ, ◌*◌, List, [], ◌∷◌, ◌++◌, length, Bool, true, false, cond, eqb, Option, Some, None, refl, sym, subst, ◌∙◌}
use Rattle.std.proofs.lemmas.Bool.{eq-eqb}
use Rattle.gds_records.specs.declared.code.TheConstants.{ENDLIB, SREF, AREF, TEXT, XY, ENDEL}
use Rattle.gds_records.specs.declared.error.Demand.{Demand}
use Rattle.gds_records.specs.declared.error.Demand.TheVariants as demand
use Rattle.gds_records.specs.Record.{StreamRecord}
use Rattle.gds_records.specs.Part.{Rest, Part, ◌▸◌, value, any, maybe, ◌or◌, nothing, maybe_refused, repeated_after}
use Rattle.gds_records.specs.Spelling.{IsAtEnd, all_count}
use Rattle.gds_library.specs.FirstFault.{wanted_after}

-- an XY of so many points, where their number is fixed
abbrev pub IsCounted : Option ℕ → ℕ → List ℕ → Type 0
IsCounted now code content = (count : ℕ) → code ≡ XY → now ≡ Some count → length content ≡ 8 * count

-- each XY has the points that are wanted, and ENDLIB stands last and nowhere else
abbrev pub IsOrderly : Option ℕ → Rest
IsOrderly now [] = ⊥
IsOrderly now (e ∷ rs) = IsCounted now e.code e.content
    × (((e.code ≡ ENDLIB) × (rs ≡ [])) ⊎ ((e.code ≢ ENDLIB) × IsOrderly (wanted_after now e.code) rs))

-- the part stands before what is orderly, and the whole is
pub record Turns (P : Part) (now next : Option ℕ) : Type 1 where
  pub turns : (K : Rest) (rs : List StreamRecord) → ((l : List StreamRecord) → K l → IsOrderly next l)
      → P all_count K rs → IsOrderly now rs

-- the part stands last
pub record Closes (P : Part) (now : Option ℕ) : Type 1 where
  pub closes : (rs : List StreamRecord) → P all_count IsAtEnd rs → IsOrderly now rs

-- one part and then another
pub on : {P Q : Part} {now mid next : Option ℕ} → Turns P now mid → Turns Q mid next → Turns (P ▸ Q) now next
on {P} {Q} p q = record { turns = λ K rs k s. p.turns (Q all_count K) rs (λ l h. q.turns K l k h) s }

-- a part, and one that stands last
pub until : {P Q : Part} {now mid : Option ℕ} → Turns P now mid → Closes Q mid → Closes (P ▸ Q) now
until {P} {Q} p q = record { closes = λ rs s. p.turns (Q all_count IsAtEnd) rs (λ l h. q.closes l h) s }

-- one part or another
pub either : {P Q : Part} {now next : Option ℕ} → Turns P now next → Turns Q now next → Turns (P or Q) now next
either p q = record { turns = λ K rs k s. elim s [ inl a ↦ p.turns K rs k a | inr b ↦ q.turns K rs k b ] }

-- no record
pub none : {D : Type 0} (now : Option ℕ) → Turns (nothing D) now now
none now = record { turns = λ K rs k s. k rs s.1 }

-- what a record is for the order: another than ENDLIB, and what is wanted after it
pub record Moves (code : ℕ) (now next : Option ℕ) : Type 0 where
  pub last : eqb code ENDLIB ≡ false
  pub wanted : wanted_after now code ≡ next

-- a code that isn't another
not_code : (code c d : ℕ) → eqb c d ≡ false → code ≡ c → code ≢ d
not_code code c d off is same = let both : true ≡ false = sym (eq-eqb c d (sym is ∙ same)) ∙ off in absurd cc

at_value : {X : Type 0} (demand : Demand) (code : ℕ) (V : X → List ℕ → Type 0) (x : X) (now next : Option ℕ)
    → Moves code now next → ((content : List ℕ) → V x content → IsCounted now code content)
    → (K : Rest) (rs : List StreamRecord) → ((l : List StreamRecord) → K l → IsOrderly next l)
    → value demand code V x all_count K rs → IsOrderly now rs
at_value demand code V x now next m counted K [] k s = absurd s
at_value demand code V x now next m counted K (e ∷ rs) k s = (
  λ count named wanted. elim s.2 [
    | inl v ↦ counted e.content v count (sym s.1 ∙ named) wanted
    | inr off ↦ absurd (let bad : true ≡ false = off.0 in cc)
  ],
  inr (
    not_code e.code code ENDLIB m.last s.1,
    subst (λ c. IsOrderly (wanted_after now c) rs) (sym s.1)
        (subst (λ (n : Option ℕ). IsOrderly n rs) (sym m.wanted) (k rs s.3)),
  ),
)

-- a record whose data is counted
pub counts : {X : Type 0} (demand : Demand) (code : ℕ) (V : X → List ℕ → Type 0) (x : X) (now next : Option ℕ)
    → Moves code now next → ((content : List ℕ) → V x content → IsCounted now code content)
    → Turns (value demand code V x) now next
counts demand code V x now next m counted = record { turns = at_value demand code V x now next m counted }

-- a record that is no XY
pub moves : {X : Type 0} (demand : Demand) (code : ℕ) (V : X → List ℕ → Type 0) (x : X) (now next : Option ℕ)
    → Moves code now next → eqb code XY ≡ false → Turns (value demand code V x) now next
moves demand code V x now next m off =
    counts demand code V x now next m (λ content v count named. absurd (not_code code code XY off refl named))

-- neither an XY nor a record that changes what is wanted
abbrev pub is_idle : ℕ → Bool
is_idle code =
    cond (eqb code SREF) false (cond (eqb code TEXT) false
    (cond (eqb code AREF) false (cond (eqb code ENDEL) false
    (cond (eqb code ENDLIB) false (cond (eqb code XY) false true)))))

record Idle (code : ℕ) : Type 0 where
  moves : (now : Option ℕ) → Moves code now now
  other : eqb code XY ≡ false

idle_at : (code : ℕ) (a b c d e f : Bool) → eqb code SREF ≡ a → eqb code TEXT ≡ b → eqb code AREF ≡ c
    → eqb code ENDEL ≡ d → eqb code ENDLIB ≡ e → eqb code XY ≡ f
    → cond a false (cond b false (cond c false (cond d false (cond e false (cond f false true))))) ≡ true → Idle code
idle_at code true b c d e f ia ib ic id ie if_xy is = absurd cc
idle_at code false true c d e f ia ib ic id ie if_xy is = absurd cc
idle_at code false false true d e f ia ib ic id ie if_xy is = absurd cc
idle_at code false false false true e f ia ib ic id ie if_xy is = absurd cc
idle_at code false false false false true f ia ib ic id ie if_xy is = absurd cc
idle_at code false false false false false true ia ib ic id ie if_xy is = absurd cc
idle_at code false false false false false false ia ib ic id ie if_xy is =
    record { moves = λ now. record { last = ie; wanted = rw (ia, ib, ic, id) refl }; other = if_xy }

idle : (code : ℕ) → is_idle code ≡ true → Idle code
idle code is = idle_at code _ _ _ _ _ _ refl refl refl refl refl refl is

-- records that change nothing
pub rests : {X : Type 0} (demand : Demand) (code : ℕ) (V : X → List ℕ → Type 0) (x : X) (now : Option ℕ)
    → is_idle code ≡ true → Turns (value demand code V x) now now
rests demand code V x now is = let i = idle code is in moves demand code V x now now (i.moves now) i.other

pub any_rests : (code : ℕ) (now : Option ℕ) → is_idle code ≡ true → Turns (any code) now now
any_rests code now is = rests demand.Plain code (λ (u : Unit {0}) content. Unit {0}) tt now is

pub any_moves : (code : ℕ) (now next : Option ℕ) → Moves code now next → eqb code XY ≡ false → Turns (any code) now next
any_moves code now next m off = moves demand.Plain code (λ (u : Unit {0}) content. Unit {0}) tt now next m off

pub maybe_rests : (code : ℕ) (now : Option ℕ) → is_idle code ≡ true → Turns (maybe code) now now
maybe_rests code now is = let a = any_rests code now is in
    record { turns = λ K rs k s. elim s [ inl h ↦ a.turns K rs k h | inr h ↦ k rs h ] }

pub refused_rests : (demand : Demand) (code : ℕ) (now : Option ℕ) → is_idle code ≡ true
    → Turns (maybe_refused demand code) now now
refused_rests demand code now is =
    let a = rests demand code (λ (u : Unit {0}) content. ⊥) tt now is in
    record { turns = λ K rs k s. elim s [ inl h ↦ a.turns K rs k h | inr h ↦ k rs h ] }

-- an XY of any number of points
pub free : {X : Type 0} (demand : Demand) (V : X → List ℕ → Type 0) (x : X) → Turns (value demand XY V x) None None
free demand V x = counts demand XY V x None None (record { last = refl; wanted = refl })
    (λ content v count named wanted. absurd cc)

-- items one after the other, where each turns alike
pub each_turns : {X : Type 0} (P : List X → X → Part) (now : Option ℕ)
    → ((before : List X) (x : X) → Turns (P before x) now now) → (xs before : List X)
    → Turns (repeated_after P before xs) now now
each_turns P now p [] before = record { turns = λ K rs k s. k rs s }
each_turns P now p (x ∷ xs) before =
    record { turns = (on (p before x) (each_turns P now p xs (before ++ x ∷ []))).turns }
