-- Boundaries, paths and what is dropped, with their readers.
use Rattle.std.proofs.Common.{◌≡◌, inl, inr, ℕ, ℤ, pos, List, [], ◌∷◌, refl, arith}
use Rattle.or_geom.specs.declared.shape.Point.{Point}
use Rattle.gds_records.specs.declared.code.TheConstants.{BOUNDARY, PATH, LAYER, DATATYPE, WIDTH, XY, PATHTYPE, BGNEXTN, ENDEXTN, ELFLAGS, PLEX}
use Rattle.gds_records.specs.declared.error.Demand.TheVariants as demand
use Rattle.gds_records.specs.Record.{is_formed}
use Rattle.gds_records.specs.Part.{Part, ◌▸◌, value, any, ◌or◌, nothing, refused, maybe_refused}
use Rattle.gds_records.specs.Values.{Means}
use Rattle.gds_records.specs.Reading.{Reader, as_value, identity, taken_at, then_at, past, any_at, bar_at}
use Rattle.gds_records.proofs.PartLaws.{IsPart, Begins, Without}
use Rattle.gds_records.proofs.JoinLaws.{join_part, equal_part, HasForm, any_part, AreOther, value_heads, as_same}
use Rattle.gds_records.proofs.ChoiceLaws.{meaning, renamed, any_other, heads_other}
use Rattle.gds_records.proofs.RefuseLaws.{Refusing, Never, refused_live, loosely}
use Rattle.gds_records.proofs.StepLaws.{taken_part, begin_part, bar_part, or_part, value_begins, join_begins}
use Rattle.gds_library.specs.Values.{IsOutline, IsSpine, path_kind_of, width_of}
use Rattle.gds_library.specs.Grammar.{begin, layered, end, spine, element, dropped_rest}
use Rattle.gds_library.specs.ReadElements.{layers_at, properties_at, outline_of, as_boundary, spine_of, drawn_at, wide_at, spine_at, track_at, as_path, dropped_at}
use Rattle.gds_library.proofs.PropertyLaws.{bare, layers_part, properties_part}
use Rattle.gds_library.proofs.ValueLaws.{outline_meaning, spine_meaning}

pub boundary_part : IsPart (λ z. element (as_boundary z))
    (λ rs. then_at (layers_at BOUNDARY DATATYPE rs)
    (λ ld rs. then_at (taken_at demand.Outline XY outline_of rs) (λ points. properties_at)))
unfolding is_formed
boundary_part =
    join_part (λ ld. layered BOUNDARY DATATYPE ld.0 ld.1) (λ ld z. value demand.Outline XY IsOutline z.0 ▸ end z.1) _
    _ (layers_part BOUNDARY DATATYPE (bare BOUNDARY refl) refl)
    (λ ld. join_part (value demand.Outline XY IsOutline) (λ points. end) _ _
    (taken_part demand.Outline XY IsOutline outline_of outline_meaning) (λ points. properties_part))

-- XY of a path with a width
abbrev Late : List Point → Part
Late points = maybe_refused demand.Track ENDEXTN ▸ value demand.Track XY IsSpine points

abbrev Drawn : List Point → Part
Drawn points = maybe_refused demand.Track BGNEXTN ▸ Late points

points_part : IsPart (value demand.Track XY IsSpine) (taken_at demand.Track XY spine_of)
points_part = taken_part demand.Track XY IsSpine spine_of spine_meaning

abbrev late_at : Reader (List Point)
late_at rs = past (bar_at demand.Track ENDEXTN rs) (taken_at demand.Track XY spine_of)

late_part : IsPart Late late_at
late_part =
    bar_part demand.Track ENDEXTN (value demand.Track XY IsSpine) (value demand.Track XY IsSpine)
    (taken_at demand.Track XY spine_of) (value_begins demand.Track XY ENDEXTN IsSpine (λ e. absurd (omega arith)))
    (loosely demand.Track (value demand.Track XY IsSpine) points_part.live) points_part

refused_other : {X : Type 0} (code d : ℕ) (R A : X → Part) → (code ≡ d → ⊥) → AreOther d A
    → AreOther d (Refusing demand.Track code R A)
refused_other code d R A ne other x judge K l s = elim s [
  | inl a ↦ heads_other code d l ne (value_heads demand.Track code Never tt judge (R x judge K) l a)
  | inr b ↦ other x judge K l b
]

drawn_part : IsPart Drawn drawn_at
unfolding drawn_at
drawn_part =
    bar_part demand.Track BGNEXTN Late Late _
    (refused_other ENDEXTN BGNEXTN (value demand.Track XY IsSpine) (value demand.Track XY IsSpine)
    (λ e. absurd (omega arith)) (value_begins demand.Track XY BGNEXTN IsSpine (λ e. absurd (omega arith))))
    (loosely demand.Track Late late_part.live) late_part

abbrev Wide : ℤ × List Point → Part
Wide z = value demand.Track WIDTH (Means width_of) z.0 ▸ Drawn z.1

wide_part : IsPart Wide wide_at
unfolding wide_at is_formed
wide_part =
    join_part (value demand.Track WIDTH (Means width_of)) (λ w. Drawn) _ _
    (taken_part demand.Track WIDTH (Means width_of) width_of
    (meaning WIDTH width_of (0 ∷ 0 ∷ 0 ∷ 2 ∷ []) _ refl refl)) (λ w. drawn_part)

wide_other : (d : ℕ) → (WIDTH ≡ d → ⊥) → AreOther d Wide
wide_other d ne = join_begins d (value demand.Track WIDTH (Means width_of)) (λ w. Drawn)
    (value_begins demand.Track WIDTH d (Means width_of) ne)

-- a path without a width: refused at XY, or before it
abbrev Done : ℤ × List Point → Part
Done z judge K = K

abbrev Bare : ℤ × List Point → Part
Bare z = refused demand.Track XY

abbrev Longer : ℤ × List Point → Part
Longer z = maybe_refused demand.Track ENDEXTN ▸ refused demand.Track XY

bare_live : Begins (Without demand.Track) Bare []
unfolding is_formed
bare_live = refused_live demand.Track XY (0 ∷ 0 ∷ 0 ∷ 0 ∷ 0 ∷ 0 ∷ 0 ∷ 0 ∷ []) Done refl
    (record { x = (pos 2, []); more = []; goes = λ judge K tail j k. k })

longer_live : Begins (Without demand.Track) Longer []
longer_live = record {
  x = bare_live.x;
  more = bare_live.more;
  goes = λ judge K tail j k. inr (bare_live.goes judge K tail j k);
}

done_live : Begins (Without demand.Track) Done []
done_live = record { x = (pos 2, []); more = []; goes = λ judge K tail j k. k }

abbrev Narrow : ℤ × List Point → Part
Narrow = Refusing demand.Track XY Done Wide

abbrev Narrower : ℤ × List Point → Part
Narrower = Refusing demand.Track ENDEXTN Bare Narrow

narrow_other : (d : ℕ) → (XY ≡ d → ⊥) → (WIDTH ≡ d → ⊥) → AreOther d Narrow
narrow_other d xy width = refused_other XY d Done Wide xy (wide_other d width)

narrower_other : (d : ℕ) → (ENDEXTN ≡ d → ⊥) → (XY ≡ d → ⊥) → (WIDTH ≡ d → ⊥) → AreOther d Narrower
narrower_other d late xy width = refused_other ENDEXTN d Bare Narrow late (narrow_other d xy width)

abbrev narrow_at : Reader (ℤ × List Point)
narrow_at rs = past (bar_at demand.Track XY rs) wide_at

narrow_part : IsPart Narrow narrow_at
narrow_part = bar_part demand.Track XY Done Wide wide_at (wide_other XY (λ e. absurd (omega arith))) done_live wide_part

abbrev narrower_at : Reader (ℤ × List Point)
narrower_at rs = past (bar_at demand.Track ENDEXTN rs) narrow_at

narrower_part : IsPart Narrower narrower_at
narrower_part = bar_part demand.Track ENDEXTN Bare Narrow _
    (narrow_other ENDEXTN (λ e. absurd (omega arith)) (λ e. absurd (omega arith))) bare_live narrow_part

abbrev longer_at : Reader (ℤ × List Point)
longer_at rs = past (bar_at demand.Track BGNEXTN rs) narrower_at

abbrev Spine : ℤ × List Point → Part
Spine z = spine z.0 z.1

spine_part : IsPart Spine spine_at
unfolding spine_at
spine_part = equal_part Spine (λ rs. as_value identity (longer_at rs)) spine_at (λ rs. as_same (longer_at rs))
    (renamed identity (λ z. z) (λ z. refl) (Refusing demand.Track BGNEXTN Longer Narrower) Spine longer_at
    (λ z judge K l s. elim s [
      | inl a ↦ inr (inl a)
      | inr b ↦ elim b [ inl c ↦ inr (inr (inl c)) | inr d ↦ elim d [ inl e ↦ inr (inr (inr e)) | inr f ↦ inl f ] ]
    ])
    (λ z judge K l s. elim s [
      | inl f ↦ inr (inr (inr f))
      | inr b ↦ elim b [ inl a ↦ inl a | inr c ↦ elim c [ inl d ↦ inr (inl d) | inr e ↦ inr (inr (inl e)) ] ]
    ])
    (bar_part demand.Track BGNEXTN Longer Narrower _
    (narrower_other BGNEXTN (λ e. absurd (omega arith)) (λ e. absurd (omega arith)) (λ e. absurd (omega arith)))
    longer_live narrower_part))

abbrev Track : ℤ × (ℤ × List Point) → Part
Track z = (value demand.Track PATHTYPE (Means path_kind_of) z.0 ▸ Spine z.1) or (nothing (z.0 ≡ pos 0) ▸ Spine z.1)

spine_other : (d : ℕ) → (BGNEXTN ≡ d → ⊥) → (ENDEXTN ≡ d → ⊥) → (XY ≡ d → ⊥) → (WIDTH ≡ d → ⊥) → AreOther d Spine
spine_other d first late xy width z judge K l s = elim s [
  | inl a ↦ wide_other d width z judge K l a
  | inr b ↦ elim b [
    | inl c ↦ heads_other BGNEXTN d l first (value_heads demand.Track BGNEXTN Never tt judge (Longer z judge K) l c)
    | inr c ↦ elim c [
      | inl e ↦ heads_other ENDEXTN d l late (value_heads demand.Track ENDEXTN Never tt judge (Bare z judge K) l e)
      | inr f ↦ heads_other XY d l xy (value_heads demand.Track XY Never tt judge K l f)
    ]
  ]
]

track_part : IsPart Track track_at
unfolding track_at is_formed
track_part =
    or_part demand.Track PATHTYPE (Means path_kind_of) path_kind_of (pos 0) Spine spine_at
    (meaning PATHTYPE path_kind_of (0 ∷ 0 ∷ []) (pos 0) refl refl)
    (spine_other PATHTYPE (λ e. absurd (omega arith)) (λ e. absurd (omega arith)) (λ e. absurd (omega arith))
    (λ e. absurd (omega arith))) spine_part

pub path_part : IsPart (λ z. element (as_path z))
    (λ rs. then_at (layers_at PATH DATATYPE rs) (λ ld rs. then_at (track_at rs) (λ track. properties_at)))
unfolding is_formed
path_part =
    join_part (λ ld. layered PATH DATATYPE ld.0 ld.1) (λ ld z. Track z.0 ▸ end z.1) _ _
    (layers_part PATH DATATYPE (bare PATH refl) refl)
    (λ ld. join_part Track (λ track. end) _ _ track_part (λ track. properties_part))

-- NODE and BOX
pub dropped_part : (code second : ℕ) → HasForm code → HasForm second
    → IsPart (λ props. begin code ▸ dropped_rest second props) (dropped_at code second)
unfolding dropped_at is_formed
dropped_part code second form also =
    begin_part code (dropped_rest second) (any_at LAYER (any_at second (any_at XY properties_at))) form
    (any_other LAYER ELFLAGS (λ props. any second ▸ any XY ▸ end props) (λ e. absurd (omega arith)))
    (any_other LAYER PLEX (λ props. any second ▸ any XY ▸ end props) (λ e. absurd (omega arith)))
    (any_part LAYER (λ props. any second ▸ any XY ▸ end props) (any_at second (any_at XY properties_at))
    (record { content = 0 ∷ 0 ∷ []; formed = refl })
    (any_part second (λ props. any XY ▸ end props) (any_at XY properties_at) also
    (any_part XY end properties_at (record { content = 0 ∷ 0 ∷ 0 ∷ 0 ∷ 0 ∷ 0 ∷ 0 ∷ 0 ∷ []; formed = refl })
    properties_part)))
