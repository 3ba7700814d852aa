-- References, arrays and labels, with their readers.
use Rattle.std.proofs.Common.{◌≡◌, inl, inr, ℕ, ℤ, List, [], ◌∷◌, Bool, true, false, cond, Result, Ok, Err, refl, sym, ap, ◌∙◌, arith}
use Rattle.or_geom.specs.declared.shape.Point.{Point}
use Rattle.or_geom.specs.declared.place.Orient.{Orient}
use Rattle.or_geom.specs.declared.place.Orient.TheVariants.{R0, R90, R180, R270, MX, MX90, MX180, MX270}
use Rattle.gds_records.specs.declared.code.TheConstants.{SREF, AREF, TEXT, TEXTTYPE, WIDTH, XY, SNAME, COLROW, PRESENTATION, STRING, STRANS, MAG, ANGLE, PATHTYPE, ELFLAGS, PLEX}
use Rattle.gds_records.specs.declared.error.Demand.TheVariants as demand
use Rattle.gds_records.specs.declared.error.RecordError.{RecordError}
use Rattle.gds_records.specs.Record.{StreamRecord, is_formed}
use Rattle.gds_records.specs.Part.{Rest, Judge, Part, ◌▸◌, value, any, maybe, ◌or◌, nothing}
use Rattle.gds_records.specs.Values.{Means, string_of, point_of}
use Rattle.gds_records.specs.Reading.{Reader, Taking, as_value, taken_at, value_at, then_at, past, with_value, any_at, maybe_at, skip_at, or_at, fork_at, has_next, next_at, identity}
use Rattle.gds_records.proofs.PartLaws.{IsPart, value_part}
use Rattle.gds_records.proofs.CaseLaws.{fork_part, heads_carry, others_carry}
use Rattle.gds_records.proofs.JoinLaws.{join_part, equal_part, HasForm, any_part, maybe_part, AreOther, value_heads, other_heads, other_others, heads_others, as_same}
use Rattle.gds_records.proofs.ChoiceLaws.{meaning, text_meaning, value_other, maybe_other, any_heads, heads_other}
use Rattle.gds_records.proofs.StepLaws.{taken_part, begin_part, or_part, maybe_value_part, value_begins, join_begins, with_as, past_past}
use Rattle.gds_library.specs.declared.library.Prop.{Prop}
use Rattle.gds_library.specs.declared.transform.Turn.{Turn}
use Rattle.gds_library.specs.declared.transform.Turn.TheVariants.{Zero, Quarter, Half, ThreeQuarters}
use Rattle.gds_library.specs.Values.{mirror_of, upright_of, turn_of, is_mirrored, turn_in, counts_of, Lattice, IsLattice}
use Rattle.gds_library.specs.Grammar.{begin, layered, end, orientation, turn_dropped, element}
use Rattle.gds_library.specs.ReadElements.{layers_at, properties_at, named_at, orient_of, as_orient, turn_at, orient_at, place_at, as_sref, lattice_of, as_aref, skip_turn_at, style_at, as_text}
use Rattle.gds_library.proofs.PropertyLaws.{bare, layers_part, properties_part}
use Rattle.gds_library.proofs.LatticeLaws.{lattice_meaning, some_counts}

named_part : (code : ℕ) → HasForm code
    → IsPart (λ n. begin code ▸ value demand.Plain SNAME (Means string_of) n) (named_at code)
unfolding named_at is_formed
named_part code form =
    begin_part code (value demand.Plain SNAME (Means string_of)) (taken_at demand.Plain SNAME string_of) form
    (value_begins demand.Plain SNAME ELFLAGS (Means string_of) (λ e. absurd (omega arith)))
    (value_begins demand.Plain SNAME PLEX (Means string_of) (λ e. absurd (omega arith)))
    (taken_part demand.Plain SNAME (Means string_of) string_of (text_meaning SNAME refl))

-- what may follow a turn begins with none of its records
record IsAfterTurn {Y : Type 0} (Q : Y → Part) : Type 1 where
  strans : AreOther STRANS Q
  mag : AreOther MAG Q
  angle : AreOther ANGLE Q

abbrev Angled : {Y : Type 0} → (Y → Part) → Turn × Y → Part
Angled Q z = (value demand.Transform ANGLE (Means turn_of) z.0 ▸ Q z.1) or (nothing (z.0 ≡ Zero) ▸ Q z.1)

abbrev Upright : {Y : Type 0} → (Y → Part) → Turn × Y → Part
Upright Q z = (value demand.Transform MAG (Means upright_of) tt ▸ Angled Q z) or (nothing (Unit {0}) ▸ Angled Q z)

abbrev Mirrored : {Y : Type 0} → (Y → Part) → Bool × (Turn × Y) → Part
Mirrored Q z = value demand.Transform STRANS (Means mirror_of) z.0 ▸ Upright Q z.1

abbrev Placed : {Y : Type 0} → (Y → Part) → Orient × Y → Part
Placed Q z = orientation z.0 ▸ Q z.1

abbrev angled_at : {Y : Type 0} → Reader Y → Reader (Turn × Y)
angled_at q rs = then_at (or_at demand.Transform ANGLE turn_of Zero rs) (λ t. q)

abbrev upright_at : {Y : Type 0} → Reader Y → Reader (Turn × Y)
upright_at q rs = past (or_at demand.Transform MAG upright_of tt rs) (angled_at q)

abbrev mirrored_at : {Y : Type 0} → Reader Y → Reader (Bool × (Turn × Y))
mirrored_at q rs = then_at (taken_at demand.Transform STRANS mirror_of rs) (λ m. upright_at q)

angled_other : {Y : Type 0} (d : ℕ) (Q : Y → Part) → (ANGLE ≡ d → ⊥) → AreOther d Q → AreOther d (Angled Q)
angled_other d Q ne other z judge K l s = elim s [
  | inl a ↦ heads_other ANGLE d l ne (value_heads demand.Transform ANGLE (Means turn_of) z.0 judge (Q z.1 judge K) l a)
  | inr b ↦ other z.1 judge K l b.1
]

mirrored_part : {Y : Type 0} (Q : Y → Part) (q : Reader Y) → IsAfterTurn Q → IsPart Q q
    → IsPart (Mirrored Q) (mirrored_at q)
unfolding is_formed
mirrored_part {Y} Q q after p =
    join_part (value demand.Transform STRANS (Means mirror_of)) (λ m. Upright Q) _ _
    (taken_part demand.Transform STRANS (Means mirror_of) mirror_of
    (meaning STRANS mirror_of (0 ∷ 0 ∷ []) false refl refl))
    (λ m. maybe_value_part demand.Transform MAG (Means upright_of) upright_of (Angled Q) (angled_at q)
    (meaning MAG upright_of (0x41 ∷ 0x10 ∷ 0 ∷ 0 ∷ 0 ∷ 0 ∷ 0 ∷ 0 ∷ []) tt refl refl)
    (angled_other MAG Q (λ e. absurd (omega arith)) after.mag)
    (or_part demand.Transform ANGLE (Means turn_of) turn_of Zero Q q
    (meaning ANGLE turn_of (0 ∷ 0 ∷ 0 ∷ 0 ∷ 0 ∷ 0 ∷ 0 ∷ 0 ∷ []) Zero refl refl) after.angle p))

into_turned : {Y : Type 0} (Q : Y → Part) (m : Bool) (t : Turn) (y : Y) (judge : Judge) (K : Rest)
    (l : List StreamRecord) → Mirrored Q (m, (t, y)) judge K l → Placed Q (orient_of m t, y) judge K l
into_turned Q false Zero y judge K l s = inl s
into_turned Q false Quarter y judge K l s = inl s
into_turned Q false Half y judge K l s = inl s
into_turned Q false ThreeQuarters y judge K l s = inl s
into_turned Q true Zero y judge K l s = inl s
into_turned Q true Quarter y judge K l s = inl s
into_turned Q true Half y judge K l s = inl s
into_turned Q true ThreeQuarters y judge K l s = inl s

round : (o : Orient) → orient_of (is_mirrored o) (turn_in o) ≡ o
round R0 = refl
round R90 = refl
round R180 = refl
round R270 = refl
round MX = refl
round MX90 = refl
round MX180 = refl
round MX270 = refl

abbrev with_orient : {Y : Type 0} → Bool × (Turn × Y) → Orient × Y
with_orient z = (orient_of z.0 z.1.0, z.1.1)

abbrev unturned : {Y : Type 0} → Y → Orient × Y
unturned y = (R0, y)

last_turn : {Y : Type 0} (m : Bool) (t : Turn) (r : Result (Y × List StreamRecord) RecordError)
    → with_value (orient_of m t) r ≡ as_value with_orient (with_value m (with_value t r))
last_turn m t (Ok r) = refl
last_turn m t (Err s) = refl

after_angle : {Y : Type 0} (q : Reader Y) (m : Bool) (r : Result (Turn × List StreamRecord) RecordError)
    → then_at (as_value as_orient (with_value m r)) (λ o. q) ≡ as_value with_orient (with_value m (then_at r (λ t. q)))
after_angle q m (Ok r) = last_turn m r.0 (q r.1)
after_angle q m (Err s) = refl

after_mag : {Y : Type 0} (q : Reader Y) (m : Bool) (r : Result (Unit {0} × List StreamRecord) RecordError)
    → then_at (as_value as_orient (with_value m (past r (or_at demand.Transform ANGLE turn_of Zero)))) (λ o. q)
    ≡ as_value with_orient (with_value m (past r (angled_at q)))
after_mag q m (Ok r) = after_angle q m (or_at demand.Transform ANGLE turn_of Zero r.1)
after_mag q m (Err s) = refl

after_mirror : {Y : Type 0} (q : Reader Y) (r : Result (Bool × List StreamRecord) RecordError)
    → then_at (as_value as_orient (then_at r (λ m. turn_at))) (λ o. q)
    ≡ as_value with_orient (then_at r (λ m. upright_at q))
unfolding turn_at
after_mirror q (Ok r) = after_mag q r.0 (or_at demand.Transform MAG upright_of tt r.1)
after_mirror q (Err s) = refl

choice : {Y : Type 0} (q : Reader Y) (rs : List StreamRecord) (b : Bool)
    → cond b (as_value with_orient (mirrored_at q rs)) (as_value unturned (q rs))
    ≡ then_at (cond b (as_value as_orient (then_at (taken_at demand.Transform STRANS mirror_of rs) (λ m. turn_at)))
    (Ok (R0, rs))) (λ o. q)
choice q rs true = sym (after_mirror q (taken_at demand.Transform STRANS mirror_of rs))
choice q rs false = sym (with_as R0 (q rs))

same_turned : {Y : Type 0} (q : Reader Y) (rs : List StreamRecord)
    → fork_at STRANS with_orient unturned (mirrored_at q) q rs ≡ then_at (orient_at rs) (λ o. q)
unfolding fork_at orient_at
same_turned q rs = choice q rs (has_next STRANS rs)

-- [STRANS [MAG] [ANGLE]] before what begins otherwise
turned_part : {Y : Type 0} (Q : Y → Part) (q : Reader Y) → IsAfterTurn Q → IsPart Q q
    → IsPart (Placed Q) (λ rs. then_at (orient_at rs) (λ o. q))
turned_part {Y} Q q after p =
    equal_part (Placed Q) (fork_at STRANS with_orient unturned (mirrored_at q) q)
    (λ rs. then_at (orient_at rs) (λ o. q)) (same_turned q)
    (fork_part STRANS with_orient unturned (Mirrored Q) Q (Placed Q) (mirrored_at q) q
    (record {
      into = λ z judge K l s. into_turned Q z.0 z.1.0 z.1.1 judge K l s;
      back = λ z judge K l good s. elim s [
        | inl a ↦ ((is_mirrored z.0, (turn_in z.0, z.1)), (λ i. (round z.0 i, z.1)), a)
        | inr b ↦ absurd (other_heads STRANS l (after.strans z.1 judge K l b.1) good)
      ];
      good = λ z judge K l s. value_heads demand.Transform STRANS (Means mirror_of) z.0 judge (Upright Q z.1 judge K)
          l s;
      carry = heads_carry STRANS;
    })
    (record {
      into = λ y judge K l s. inr (refl, s);
      back = λ z judge K l good s. elim s [
        | inl a ↦ absurd (heads_others STRANS l
            (value_heads demand.Transform STRANS (Means mirror_of) (is_mirrored z.0) judge _ l a) good)
        | inr b ↦ (z.1, (λ i. (sym b.0 i, z.1)), b.1)
      ];
      good = λ y judge K l s. other_others STRANS l (after.strans y judge K l s);
      carry = others_carry STRANS;
    })
    (mirrored_part Q q after p) p)

after_xy : {Y : Type 0} (Q : Y → Part) → ((d : ℕ) → (XY ≡ d → ⊥) → AreOther d Q) → IsAfterTurn Q
after_xy Q other = record {
  strans = other STRANS (λ e. absurd (omega arith));
  mag = other MAG (λ e. absurd (omega arith));
  angle = other ANGLE (λ e. absurd (omega arith));
}

point_part : IsPart (value demand.Plain XY (Means point_of)) (taken_at demand.Plain XY point_of)
unfolding is_formed
point_part = taken_part demand.Plain XY (Means point_of) point_of
    (meaning XY point_of (0 ∷ 0 ∷ 0 ∷ 0 ∷ 0 ∷ 0 ∷ 0 ∷ 0 ∷ []) _ refl refl)

place_part : IsPart (Placed (value demand.Plain XY (Means point_of))) place_at
unfolding place_at
place_part =
    turned_part (value demand.Plain XY (Means point_of)) (taken_at demand.Plain XY point_of)
    (after_xy (value demand.Plain XY (Means point_of)) (λ d ne. value_begins demand.Plain XY d (Means point_of) ne))
    point_part

pub sref_part : IsPart (λ z. element (as_sref z))
    (λ rs. then_at (named_at SREF rs) (λ n rs. then_at (place_at rs) (λ p. properties_at)))
unfolding is_formed
sref_part =
    join_part (λ n. begin SREF ▸ value demand.Plain SNAME (Means string_of) n)
    (λ n z. Placed (value demand.Plain XY (Means point_of)) z.0 ▸ end z.1) _ _ (named_part SREF (bare SREF refl))
    (λ n. join_part (Placed (value demand.Plain XY (Means point_of))) (λ p. end) _ _ place_part (λ p. properties_part))

-- COLROW XY, and the end
abbrev Arrayed : ℤ × ℤ → Lattice × List Prop → Part
Arrayed counts z = value demand.Transform XY (IsLattice counts) z.0 ▸ end z.1

abbrev Counted : (ℤ × ℤ) × (Lattice × List Prop) → Part
Counted z = value demand.Transform COLROW (Means counts_of) z.0 ▸ Arrayed z.0 z.1

abbrev pub counted_at : Reader ((ℤ × ℤ) × (Lattice × List Prop))
counted_at rs = then_at (taken_at demand.Transform COLROW counts_of rs)
    (λ counts rs. then_at (taken_at demand.Transform XY (lattice_of counts) rs) (λ g. properties_at))

arrayed_part : (counts : ℤ × ℤ) (content : List ℕ) → Means counts_of counts content
    → IsPart (Arrayed counts) (λ rs. then_at (taken_at demand.Transform XY (lattice_of counts) rs) (λ g. properties_at))
arrayed_part counts content has =
    let some = some_counts counts content has in
    join_part (value demand.Transform XY (IsLattice counts)) (λ g. end) _ _
    (taken_part demand.Transform XY (IsLattice counts) (lattice_of counts) (lattice_meaning counts some.0 some.1))
    (λ g. properties_part)

counted_part : IsPart Counted counted_at
unfolding value_at is_formed
counted_part =
    value_part demand.Transform COLROW (Means counts_of) counts_of Arrayed
    (λ counts rs. then_at (taken_at demand.Transform XY (lattice_of counts) rs) (λ g. properties_at))
    (meaning COLROW counts_of (0 ∷ 1 ∷ 0 ∷ 1 ∷ []) _ refl refl) arrayed_part

counted_other : (d : ℕ) → (COLROW ≡ d → ⊥) → AreOther d Counted
counted_other d ne = value_other demand.Transform COLROW d (Means counts_of) Arrayed ne

pub aref_part : IsPart (λ z. element (as_aref z))
    (λ rs. then_at (named_at AREF rs) (λ n rs. then_at (orient_at rs) (λ o. counted_at)))
unfolding is_formed
aref_part =
    join_part (λ n. begin AREF ▸ value demand.Plain SNAME (Means string_of) n) (λ n. Placed Counted) _ _
    (named_part AREF (bare AREF refl))
    (λ n. turned_part Counted counted_at
    (record {
      strans = counted_other STRANS (λ e. absurd (omega arith));
      mag = counted_other MAG (λ e. absurd (omega arith));
      angle = counted_other ANGLE (λ e. absurd (omega arith));
    })
    counted_part)

-- how a label is drawn
abbrev Unstyled : {Y : Type 0} → (Y → Part) → Y → Part
Unstyled Q y = turn_dropped ▸ Q y

skip_choice : {Y : Type 0} (q : Reader Y) (rs : List StreamRecord) (b : Bool)
    (r : Result (Taking × List StreamRecord) RecordError)
    → cond b (as_value identity (past r (λ rs. past (skip_at MAG rs) (λ rs. past (skip_at ANGLE rs) q))))
    (as_value identity (q rs))
    ≡ past (cond b (past r (λ rs. past (skip_at MAG rs) (skip_at ANGLE))) (Ok (tt, rs))) q
skip_choice q rs true (Ok r) = as_same _ ∙ sym (past_past (skip_at MAG r.1) (skip_at ANGLE) q)
skip_choice q rs true (Err s) = refl
skip_choice q rs false r = as_same (q rs)

same_skip : {Y : Type 0} (q : Reader Y) (rs : List StreamRecord)
    → fork_at STRANS identity identity (any_at STRANS (maybe_at MAG (maybe_at ANGLE q))) q rs ≡ past (skip_turn_at rs) q
unfolding fork_at skip_turn_at
same_skip q rs = skip_choice q rs (has_next STRANS rs) (next_at STRANS rs)

unstyled_part : {Y : Type 0} (Q : Y → Part) (q : Reader Y) → IsAfterTurn Q → IsPart Q q
    → IsPart (Unstyled Q) (λ rs. past (skip_turn_at rs) q)
unfolding is_formed
unstyled_part {Y} Q q after p =
    equal_part (Unstyled Q) (fork_at STRANS identity identity (any_at STRANS (maybe_at MAG (maybe_at ANGLE q))) q)
    (λ rs. past (skip_turn_at rs) q) (same_skip q)
    (fork_part STRANS identity identity (λ y. any STRANS ▸ maybe MAG ▸ maybe ANGLE ▸ Q y) Q (Unstyled Q)
    (any_at STRANS (maybe_at MAG (maybe_at ANGLE q))) q
    (record {
      into = λ y judge K l s. inl s;
      back = λ y judge K l good s. elim s [
        | inl a ↦ (y, refl, a)
        | inr b ↦ absurd (other_heads STRANS l (after.strans y judge K l b.1) good)
      ];
      good = λ y judge K l s. any_heads STRANS judge _ l s;
      carry = heads_carry STRANS;
    })
    (record {
      into = λ y judge K l s. inr (tt, s);
      back = λ y judge K l good s. elim s [
        | inl a ↦ absurd (heads_others STRANS l (any_heads STRANS judge _ l a) good)
        | inr b ↦ (y, refl, b.1)
      ];
      good = λ y judge K l s. other_others STRANS l (after.strans y judge K l s);
      carry = others_carry STRANS;
    })
    (any_part STRANS (λ y. maybe MAG ▸ maybe ANGLE ▸ Q y) (maybe_at MAG (maybe_at ANGLE q))
    (record { content = 0 ∷ 0 ∷ []; formed = refl })
    (maybe_part MAG (λ y. maybe ANGLE ▸ Q y) (maybe_at ANGLE q)
    (record { content = 0 ∷ 0 ∷ 0 ∷ 0 ∷ 0 ∷ 0 ∷ 0 ∷ 0 ∷ []; formed = refl })
    (maybe_other ANGLE MAG Q (λ e. absurd (omega arith)) after.mag)
    (maybe_part ANGLE Q q (record { content = 0 ∷ 0 ∷ 0 ∷ 0 ∷ 0 ∷ 0 ∷ 0 ∷ 0 ∷ []; formed = refl }) after.angle p)))
    p)

abbrev Labelled : Point × (List ℕ × List Prop) → Part
Labelled z = value demand.Plain XY (Means point_of) z.0 ▸ value demand.Plain STRING (Means string_of) z.1.0 ▸ end z.1.1

abbrev pub labelled_at : Reader (Point × (List ℕ × List Prop))
labelled_at rs = then_at (taken_at demand.Plain XY point_of rs)
    (λ p rs. then_at (taken_at demand.Plain STRING string_of rs) (λ s. properties_at))

labelled_part : IsPart Labelled labelled_at
unfolding is_formed
labelled_part =
    join_part (value demand.Plain XY (Means point_of))
    (λ p z. value demand.Plain STRING (Means string_of) z.0 ▸ end z.1) _ _ point_part
    (λ p. join_part (value demand.Plain STRING (Means string_of)) (λ s. end) _ _
    (taken_part demand.Plain STRING (Means string_of) string_of (text_meaning STRING refl)) (λ s. properties_part))

labelled_other : (d : ℕ) → (XY ≡ d → ⊥) → AreOther d Labelled
labelled_other d ne = join_begins d (value demand.Plain XY (Means point_of))
    (λ p z. value demand.Plain STRING (Means string_of) z.0 ▸ end z.1)
    (value_begins demand.Plain XY d (Means point_of) ne)

unstyled_other : (d : ℕ) → (STRANS ≡ d → ⊥) → (XY ≡ d → ⊥) → AreOther d (Unstyled Labelled)
unstyled_other d strans xy z judge K l s = elim s [
  | inl a ↦ heads_other STRANS d l strans (any_heads STRANS judge _ l a)
  | inr b ↦ labelled_other d xy z judge K l b.1
]

same_style : {Y : Type 0} (q : Reader Y) (rs : List StreamRecord)
    → maybe_at PRESENTATION (maybe_at PATHTYPE (maybe_at WIDTH (λ rs. past (skip_turn_at rs) q))) rs
    ≡ past (style_at rs) q
unfolding style_at
same_style q rs =
    sym (past_past (skip_at PRESENTATION rs)
    (λ rs. past (skip_at PATHTYPE rs) (λ rs. past (skip_at WIDTH rs) skip_turn_at)) q
    ∙ ap (past (skip_at PRESENTATION rs))
    (λ i rs. past_past (skip_at PATHTYPE rs) (λ rs. past (skip_at WIDTH rs) skip_turn_at) q i)
    ∙ ap (past (skip_at PRESENTATION rs))
    (λ i rs. past (skip_at PATHTYPE rs) (λ rs. past_past (skip_at WIDTH rs) skip_turn_at q i)))

abbrev Styled : Point × (List ℕ × List Prop) → Part
Styled z = maybe PRESENTATION ▸ maybe PATHTYPE ▸ maybe WIDTH ▸ Unstyled Labelled z

styled_part : IsPart Styled (λ rs. past (style_at rs) labelled_at)
unfolding is_formed
styled_part =
    let after = after_xy Labelled labelled_other in
    let unstyled = unstyled_part Labelled labelled_at after labelled_part in
    let wide = maybe_part WIDTH (Unstyled Labelled) (λ rs. past (skip_turn_at rs) labelled_at)
    (record { content = 0 ∷ 0 ∷ 0 ∷ 0 ∷ []; formed = refl })
    (unstyled_other WIDTH (λ e. absurd (omega arith)) (λ e. absurd (omega arith))) unstyled in
    let kind = maybe_part PATHTYPE (λ z. maybe WIDTH ▸ Unstyled Labelled z)
    (maybe_at WIDTH (λ rs. past (skip_turn_at rs) labelled_at)) (record { content = 0 ∷ 0 ∷ []; formed = refl })
    (maybe_other WIDTH PATHTYPE (Unstyled Labelled) (λ e. absurd (omega arith))
    (unstyled_other PATHTYPE (λ e. absurd (omega arith)) (λ e. absurd (omega arith)))) wide in
    equal_part Styled (maybe_at PRESENTATION
    (maybe_at PATHTYPE (maybe_at WIDTH (λ rs. past (skip_turn_at rs) labelled_at))))
    (λ rs. past (style_at rs) labelled_at) (same_style labelled_at)
    (maybe_part PRESENTATION (λ z. maybe PATHTYPE ▸ maybe WIDTH ▸ Unstyled Labelled z)
    (maybe_at PATHTYPE (maybe_at WIDTH (λ rs. past (skip_turn_at rs) labelled_at)))
    (record { content = 0 ∷ 0 ∷ []; formed = refl })
    (maybe_other PATHTYPE PRESENTATION (λ z. maybe WIDTH ▸ Unstyled Labelled z) (λ e. absurd (omega arith))
    (maybe_other WIDTH PRESENTATION (Unstyled Labelled) (λ e. absurd (omega arith))
    (unstyled_other PRESENTATION (λ e. absurd (omega arith)) (λ e. absurd (omega arith))))) kind)

pub text_part : IsPart (λ z. element (as_text z))
    (λ rs. then_at (layers_at TEXT TEXTTYPE rs) (λ lt rs. past (style_at rs) labelled_at))
unfolding is_formed
text_part = join_part (λ lt. layered TEXT TEXTTYPE lt.0 lt.1) (λ lt. Styled) _ _
    (layers_part TEXT TEXTTYPE (bare TEXT refl) refl) (λ lt. styled_part)
