-- Elements of all kinds, told apart by their first records.
use Rattle.std.proofs.Common.{◌≡◌, ◌⊎◌, inl, inr, ℕ, ℤ, List, [], ◌∷◌, length, ◌<◌, ◌≤◌, Bool, true, false, cond, Option, Some, None, Ok, Err, refl, sym, arith}
use Rattle.or_geom.specs.declared.shape.Point.{Point}
use Rattle.or_geom.specs.declared.place.Orient.{Orient}
use Rattle.gds_records.specs.declared.code.TheConstants.{BOUNDARY, PATH, SREF, AREF, TEXT, DATATYPE, XY, NODE, TEXTTYPE, NODETYPE, BOX, BOXTYPE, ENDSTR}
use Rattle.gds_records.specs.declared.error.Demand.TheVariants as demand
use Rattle.gds_records.specs.declared.error.RecordError.TheVariants.{Short}
use Rattle.gds_records.specs.Record.{StreamRecord, is_formed}
use Rattle.gds_records.specs.Part.{Rest, Judge, Part, ◌▸◌, repeated, any}
use Rattle.gds_records.specs.Reading.{Reader, as_value, taken_at, then_at, past, fork_at, identity, next_at, begin_at, has_next}
use Rattle.gds_records.proofs.PartLaws.{IsPart, room}
use Rattle.gds_records.proofs.CaseLaws.{same_part}
use Rattle.gds_records.proofs.JoinLaws.{equal_part, AreOther}
use Rattle.gds_records.proofs.RepeatLaws.{until_part, shorter}
use Rattle.gds_records.proofs.ChoiceLaws.{any_heads, heads_other}
use Rattle.gds_records.proofs.StepLaws.{Either, either_part, either_begins, either_of, same_fork, as_as}
use Rattle.gds_library.specs.declared.library.Prop.{Prop}
use Rattle.gds_library.specs.declared.library.Element.{Element}
use Rattle.gds_library.specs.declared.library.Element.TheVariants.{Boundary, Path, Sref, Aref, Text}
use Rattle.gds_library.specs.Values.{Lattice}
use Rattle.gds_library.specs.Grammar.{begin, dropped_rest, element, item}
use Rattle.gds_library.specs.ReadElements.{layers_at, properties_at, outline_of, as_boundary, track_at, as_path, named_at, place_at, as_sref, orient_at, as_aref, style_at, as_text, boundary_at, path_at, sref_at, aref_at, text_at, dropped_at, nothing_kept, some, unkept_at, reference_at, item_at}
use Rattle.gds_library.specs.ReadLibrary.{items_at}
use Rattle.gds_library.proofs.PropertyLaws.{bare}
use Rattle.gds_library.proofs.ElementLaws.{boundary_part, path_part, dropped_part}
use Rattle.gds_library.proofs.ReferenceLaws.{sref_part, aref_part, text_part, counted_at, labelled_at}

abbrev BoundaryParts : Type 0
BoundaryParts = (ℤ × ℤ) × (List Point × List Prop)

abbrev PathParts : Type 0
PathParts = (ℤ × ℤ) × ((ℤ × (ℤ × List Point)) × List Prop)

abbrev SrefParts : Type 0
SrefParts = List ℕ × ((Orient × Point) × List Prop)

abbrev ArefParts : Type 0
ArefParts = List ℕ × (Orient × ((ℤ × ℤ) × (Lattice × List Prop)))

abbrev TextParts : Type 0
TextParts = (ℤ × ℤ) × (Point × (List ℕ × List Prop))

-- the kinds that come last, and those before
abbrev Unkept : List Prop ⊎ List Prop → Part
Unkept = Either (λ props. begin NODE ▸ dropped_rest NODETYPE props) (λ props. begin BOX ▸ dropped_rest BOXTYPE props)

abbrev FromText : TextParts ⊎ (List Prop ⊎ List Prop) → Part
FromText = Either (λ z. element (as_text z)) Unkept

abbrev FromAref : ArefParts ⊎ (TextParts ⊎ (List Prop ⊎ List Prop)) → Part
FromAref = Either (λ z. element (as_aref z)) FromText

abbrev FromSref : SrefParts ⊎ (ArefParts ⊎ (TextParts ⊎ (List Prop ⊎ List Prop))) → Part
FromSref = Either (λ z. element (as_sref z)) FromAref

abbrev FromPath : PathParts ⊎ (SrefParts ⊎ (ArefParts ⊎ (TextParts ⊎ (List Prop ⊎ List Prop)))) → Part
FromPath = Either (λ z. element (as_path z)) FromSref

abbrev AllParts : Type 0
AllParts = BoundaryParts ⊎ (PathParts ⊎ (SrefParts ⊎ (ArefParts ⊎ (TextParts ⊎ (List Prop ⊎ List Prop)))))

abbrev All : AllParts → Part
All = Either (λ z. element (as_boundary z)) FromPath

-- their readers
abbrev boundary_parts_at : Reader BoundaryParts
boundary_parts_at rs = then_at (layers_at BOUNDARY DATATYPE rs)
    (λ ld rs. then_at (taken_at demand.Outline XY outline_of rs) (λ points. properties_at))

abbrev path_parts_at : Reader PathParts
path_parts_at rs = then_at (layers_at PATH DATATYPE rs) (λ ld rs. then_at (track_at rs) (λ track. properties_at))

abbrev sref_parts_at : Reader SrefParts
sref_parts_at rs = then_at (named_at SREF rs) (λ n rs. then_at (place_at rs) (λ p. properties_at))

abbrev aref_parts_at : Reader ArefParts
aref_parts_at rs = then_at (named_at AREF rs) (λ n rs. then_at (orient_at rs) (λ o. counted_at))

abbrev text_parts_at : Reader TextParts
text_parts_at rs = then_at (layers_at TEXT TEXTTYPE rs) (λ lt rs. past (style_at rs) labelled_at)

abbrev unkept_parts_at : Reader (List Prop ⊎ List Prop)
unkept_parts_at = fork_at NODE inl inr (dropped_at NODE NODETYPE) (dropped_at BOX BOXTYPE)

abbrev from_text_at : Reader (TextParts ⊎ (List Prop ⊎ List Prop))
from_text_at = fork_at TEXT inl inr text_parts_at unkept_parts_at

abbrev from_aref_at : Reader (ArefParts ⊎ (TextParts ⊎ (List Prop ⊎ List Prop)))
from_aref_at = fork_at AREF inl inr aref_parts_at from_text_at

abbrev from_sref_at : Reader (SrefParts ⊎ (ArefParts ⊎ (TextParts ⊎ (List Prop ⊎ List Prop))))
from_sref_at = fork_at SREF inl inr sref_parts_at from_aref_at

abbrev from_path_at : Reader (PathParts ⊎ (SrefParts ⊎ (ArefParts ⊎ (TextParts ⊎ (List Prop ⊎ List Prop)))))
from_path_at = fork_at PATH inl inr path_parts_at from_sref_at

abbrev all_at : Reader AllParts
all_at = fork_at BOUNDARY inl inr boundary_parts_at from_path_at

-- a part that begins with this record, and so with no other
begins : {X : Type 0} (code d : ℕ) (Q : X → Part) → (code ≡ d → ⊥) → AreOther d (λ x. begin code ▸ Q x)
begins code d Q ne x judge K l s = heads_other code d l ne (any_heads code judge _ l s)

unkept_other : (d : ℕ) → (NODE ≡ d → ⊥) → (BOX ≡ d → ⊥) → AreOther d Unkept
unkept_other d node box =
    either_begins d (λ props. begin NODE ▸ dropped_rest NODETYPE props)
    (λ props. begin BOX ▸ dropped_rest BOXTYPE props) (begins NODE d (dropped_rest NODETYPE) node)
    (begins BOX d (dropped_rest BOXTYPE) box)

text_other : (d : ℕ) → (TEXT ≡ d → ⊥) → AreOther d (λ z. element (as_text z))
text_other d ne z judge K l s = heads_other TEXT d l ne (any_heads TEXT judge _ l s)

aref_other : (d : ℕ) → (AREF ≡ d → ⊥) → AreOther d (λ z. element (as_aref z))
aref_other d ne z judge K l s = heads_other AREF d l ne (any_heads AREF judge _ l s)

sref_other : (d : ℕ) → (SREF ≡ d → ⊥) → AreOther d (λ z. element (as_sref z))
sref_other d ne z judge K l s = heads_other SREF d l ne (any_heads SREF judge _ l s)

path_other : (d : ℕ) → (PATH ≡ d → ⊥) → AreOther d (λ z. element (as_path z))
path_other d ne z judge K l s = heads_other PATH d l ne (any_heads PATH judge _ l s)

boundary_other : (d : ℕ) → (BOUNDARY ≡ d → ⊥) → AreOther d (λ z. element (as_boundary z))
boundary_other d ne z judge K l s = heads_other BOUNDARY d l ne (any_heads BOUNDARY judge _ l s)

from_text_other : (d : ℕ) → (TEXT ≡ d → ⊥) → (NODE ≡ d → ⊥) → (BOX ≡ d → ⊥) → AreOther d FromText
from_text_other d text node box =
    either_begins d (λ z. element (as_text z)) Unkept (text_other d text) (unkept_other d node box)

from_aref_other : (d : ℕ) → (AREF ≡ d → ⊥) → (TEXT ≡ d → ⊥) → (NODE ≡ d → ⊥) → (BOX ≡ d → ⊥) → AreOther d FromAref
from_aref_other d aref text node box =
    either_begins d (λ z. element (as_aref z)) FromText (aref_other d aref) (from_text_other d text node box)

from_sref_other : (d : ℕ) → (SREF ≡ d → ⊥) → (AREF ≡ d → ⊥) → (TEXT ≡ d → ⊥) → (NODE ≡ d → ⊥) → (BOX ≡ d → ⊥)
    → AreOther d FromSref
from_sref_other d sref aref text node box =
    either_begins d (λ z. element (as_sref z)) FromAref (sref_other d sref) (from_aref_other d aref text node box)

from_path_other : (d : ℕ) → (PATH ≡ d → ⊥) → (SREF ≡ d → ⊥) → (AREF ≡ d → ⊥) → (TEXT ≡ d → ⊥) → (NODE ≡ d → ⊥)
    → (BOX ≡ d → ⊥) → AreOther d FromPath
from_path_other d path sref aref text node box =
    either_begins d (λ z. element (as_path z)) FromSref (path_other d path) (from_sref_other d sref aref text node box)

unkept_part : IsPart Unkept unkept_parts_at
unfolding is_formed
unkept_part =
    either_part NODE (λ props. begin NODE ▸ dropped_rest NODETYPE props)
    (λ props. begin BOX ▸ dropped_rest BOXTYPE props) (dropped_at NODE NODETYPE) (dropped_at BOX BOXTYPE)
    (λ props judge K l s. any_heads NODE judge _ l s)
    (begins BOX NODE (dropped_rest BOXTYPE) (λ e. absurd (omega arith)))
    (dropped_part NODE NODETYPE (bare NODE refl) (record { content = 0 ∷ 0 ∷ []; formed = refl }))
    (dropped_part BOX BOXTYPE (bare BOX refl) (record { content = 0 ∷ 0 ∷ []; formed = refl }))

from_text_part : IsPart FromText from_text_at
from_text_part =
    either_part TEXT (λ z. element (as_text z)) Unkept text_parts_at unkept_parts_at
    (λ z judge K l s. any_heads TEXT judge _ l s)
    (unkept_other TEXT (λ e. absurd (omega arith)) (λ e. absurd (omega arith))) text_part unkept_part

from_aref_part : IsPart FromAref from_aref_at
from_aref_part =
    either_part AREF (λ z. element (as_aref z)) FromText aref_parts_at from_text_at
    (λ z judge K l s. any_heads AREF judge _ l s)
    (from_text_other AREF (λ e. absurd (omega arith)) (λ e. absurd (omega arith)) (λ e. absurd (omega arith)))
    aref_part from_text_part

from_sref_part : IsPart FromSref from_sref_at
from_sref_part =
    either_part SREF (λ z. element (as_sref z)) FromAref sref_parts_at from_aref_at
    (λ z judge K l s. any_heads SREF judge _ l s)
    (from_aref_other SREF (λ e. absurd (omega arith)) (λ e. absurd (omega arith)) (λ e. absurd (omega arith))
    (λ e. absurd (omega arith))) sref_part from_aref_part

from_path_part : IsPart FromPath from_path_at
from_path_part =
    either_part PATH (λ z. element (as_path z)) FromSref path_parts_at from_sref_at
    (λ z judge K l s. any_heads PATH judge _ l s)
    (from_sref_other PATH (λ e. absurd (omega arith)) (λ e. absurd (omega arith)) (λ e. absurd (omega arith))
    (λ e. absurd (omega arith)) (λ e. absurd (omega arith))) path_part from_sref_part

all_part : IsPart All all_at
all_part =
    either_part BOUNDARY (λ z. element (as_boundary z)) FromPath boundary_parts_at from_path_at
    (λ z judge K l s. any_heads BOUNDARY judge _ l s)
    (from_path_other BOUNDARY (λ e. absurd (omega arith)) (λ e. absurd (omega arith)) (λ e. absurd (omega arith))
    (λ e. absurd (omega arith)) (λ e. absurd (omega arith)) (λ e. absurd (omega arith)))
    boundary_part from_path_part

-- what is kept of each
abbrev as_unkept : List Prop ⊎ List Prop → Option Element
as_unkept = either_of nothing_kept nothing_kept

abbrev as_from_text : TextParts ⊎ (List Prop ⊎ List Prop) → Option Element
as_from_text = either_of (λ z. some (as_text z)) as_unkept

abbrev as_from_aref : ArefParts ⊎ (TextParts ⊎ (List Prop ⊎ List Prop)) → Option Element
as_from_aref = either_of (λ z. some (as_aref z)) as_from_text

abbrev as_from_sref : SrefParts ⊎ (ArefParts ⊎ (TextParts ⊎ (List Prop ⊎ List Prop))) → Option Element
as_from_sref = either_of (λ z. some (as_sref z)) as_from_aref

abbrev as_from_path : PathParts ⊎ (SrefParts ⊎ (ArefParts ⊎ (TextParts ⊎ (List Prop ⊎ List Prop)))) → Option Element
as_from_path = either_of (λ z. some (as_path z)) as_from_sref

abbrev as_item : AllParts → Option Element
as_item = either_of (λ z. some (as_boundary z)) as_from_path

unkept_choice : (a b : Reader (List Prop)) (rs : List StreamRecord) (n : Bool)
    → cond n (as_value nothing_kept (a rs)) (as_value nothing_kept (b rs))
    ≡ as_value as_unkept (cond n (as_value inl (a rs)) (as_value inr (b rs)))
unkept_choice a b rs true = sym (as_as as_unkept inl (a rs))
unkept_choice a b rs false = sym (as_as as_unkept inr (b rs))

same_unkept : (rs : List StreamRecord) → unkept_at rs ≡ as_value as_unkept (unkept_parts_at rs)
unfolding unkept_at fork_at
same_unkept rs = unkept_choice (dropped_at NODE NODETYPE) (dropped_at BOX BOXTYPE) rs (has_next NODE rs)

same_text : (rs : List StreamRecord)
    → fork_at TEXT some identity text_at unkept_at rs ≡ as_value as_from_text (from_text_at rs)
unfolding text_at
same_text = same_fork TEXT some as_text as_unkept text_parts_at unkept_parts_at unkept_at same_unkept

same_aref : (rs : List StreamRecord)
    → fork_at AREF some identity aref_at (fork_at TEXT some identity text_at unkept_at) rs
    ≡ as_value as_from_aref (from_aref_at rs)
unfolding aref_at
same_aref = same_fork AREF some as_aref as_from_text aref_parts_at from_text_at
    (fork_at TEXT some identity text_at unkept_at) same_text

same_reference : (rs : List StreamRecord) → reference_at rs ≡ as_value as_from_sref (from_sref_at rs)
unfolding reference_at sref_at
same_reference = same_fork SREF some as_sref as_from_aref sref_parts_at from_aref_at
    (fork_at AREF some identity aref_at (fork_at TEXT some identity text_at unkept_at)) same_aref

same_path : (rs : List StreamRecord)
    → fork_at PATH some identity path_at reference_at rs ≡ as_value as_from_path (from_path_at rs)
unfolding path_at
same_path = same_fork PATH some as_path as_from_sref path_parts_at from_sref_at reference_at same_reference

same_item : (rs : List StreamRecord) → as_value as_item (all_at rs) ≡ item_at rs
unfolding item_at boundary_at
same_item rs = sym (same_fork BOUNDARY some as_boundary as_from_path boundary_parts_at from_path_at
    (fork_at PATH some identity path_at reference_at) same_path rs)

into_item : (z : AllParts) (judge : Judge) (K : Rest) (l : List StreamRecord) → All z judge K l
    → item (as_item z) judge K l
into_item (inl z) judge K l s = s
into_item (inr (inl z)) judge K l s = s
into_item (inr (inr (inl z))) judge K l s = s
into_item (inr (inr (inr (inl z)))) judge K l s = s
into_item (inr (inr (inr (inr (inl z))))) judge K l s = s
into_item (inr (inr (inr (inr (inr (inl props)))))) judge K l s = (props, refl, inl s)
into_item (inr (inr (inr (inr (inr (inr props)))))) judge K l s = (props, refl, inr s)

item_back : (z : Option Element) (judge : Judge) (K : Rest) (l : List StreamRecord) → item z judge K l
    → (x : AllParts) × (as_item x ≡ z) × All x judge K l
item_back (Some (Boundary layer datatype points props)) judge K l s =
    (inl ((layer, datatype), (points, props)), refl, s)
item_back (Some (Path layer datatype kind width points props)) judge K l s =
    (inr (inl ((layer, datatype), ((kind, (width, points)), props))), refl, s)
item_back (Some (Sref name place props)) judge K l s =
    (inr (inr (inl (name, ((place.orient, place.at), props)))), refl, s)
item_back (Some (Aref name place columns rows across down props)) judge K l s =
    (inr (inr (inr (inl (name, (place.orient, ((columns, rows), ((place.at, (across, down)), props))))))), refl, s)
item_back (Some (Text layer texttype at string props)) judge K l s =
    (inr (inr (inr (inr (inl ((layer, texttype), (at, (string, props))))))), refl, s)
item_back None judge K l s = elim s.2 [
  | inl a ↦ (inr (inr (inr (inr (inr (inl s.0))))), refl, a)
  | inr b ↦ (inr (inr (inr (inr (inr (inr s.0))))), refl, b)
]

pub item_part : IsPart item item_at
item_part = equal_part item (λ rs. as_value as_item (all_at rs)) item_at same_item
    (same_part as_item All item all_at
    (record {
      into = into_item;
      back = λ z judge K l good s. item_back z judge K l s;
      good = λ z judge K l s. tt;
      carry = λ done e after more g. tt;
    })
    all_part)

item_other : (seen : List (Option Element)) → AreOther ENDSTR item
item_other seen z judge K l s =
    let b = item_back z judge K l s in
    either_begins ENDSTR (λ z. element (as_boundary z)) FromPath (boundary_other ENDSTR (λ e. absurd (omega arith)))
    (from_path_other ENDSTR (λ e. absurd (omega arith)) (λ e. absurd (omega arith)) (λ e. absurd (omega arith))
    (λ e. absurd (omega arith)) (λ e. absurd (omega arith)) (λ e. absurd (omega arith))) b.0 judge K l b.2

abbrev pub Items : List (Option Element) → Part
Items items = repeated item items ▸ any ENDSTR

pub items_part : IsPart Items items_at
unfolding items_at is_formed
items_part = until_part (λ seen. item) (λ seen. item_at) ENDSTR (bare ENDSTR refl) item_other (λ seen lt. item_part)

-- for the loop over the elements
pub item_shrinks : (seen : List (Option Element)) → length seen < room
    → (rs : List StreamRecord) (x : Option Element) (rest : List StreamRecord) → length rs ≤ room
    → item_at rs ≡ Ok (x, rest) → length rest < length rs
item_shrinks seen lt rs x rest fits is =
    shorter item ENDSTR (item_other seen) rs x rest (item_part.takes rs x rest fits is)

pub item_empty : (seen : List (Option Element)) → item_at [] ≡ Err Short
unfolding item_at reference_at unkept_at dropped_at fork_at begin_at next_at
item_empty seen = refl
