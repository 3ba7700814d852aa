-- Properties, layers and what begins an element.
use Rattle.std.proofs.Common.{ℤ, ◌≡◌, ℕ, ◌<◌, ◌≤◌, List, [], ◌∷◌, length, Ok, Err, refl, arith, true}
use Rattle.gds_records.specs.declared.code.TheConstants.{LAYER, ENDEL, PROPATTR, PROPVALUE, ELFLAGS, PLEX}
use Rattle.gds_records.specs.declared.error.Demand.TheVariants as demand
use Rattle.gds_records.specs.declared.error.RecordError.TheVariants.{Short}
use Rattle.gds_records.specs.Record.{StreamRecord, record_of, is_formed}
use Rattle.gds_records.specs.Part.{◌▸◌, value}
use Rattle.gds_records.specs.Values.{Means, int16_of, string_of}
use Rattle.gds_records.specs.Reading.{taken_at, next_at}
use Rattle.gds_records.proofs.PartLaws.{IsPart, room}
use Rattle.gds_records.proofs.JoinLaws.{join_part, HasForm, AreOther}
use Rattle.gds_records.proofs.RepeatLaws.{until_part, shorter}
use Rattle.gds_records.proofs.ChoiceLaws.{int16_meaning, text_meaning, renamed}
use Rattle.gds_records.proofs.StepLaws.{taken_part, begin_part, value_begins}
use Rattle.gds_library.specs.declared.library.Prop.{Prop}
use Rattle.gds_library.specs.Grammar.{begin, layered, property, end}
use Rattle.gds_library.specs.ReadElements.{layers_at, as_property, property_at, properties_at}

-- a code without data
pub bare : (code : ℕ) → is_formed (record_of true code []) ≡ true → HasForm code
bare code formed = record { content = []; formed = formed }

pub layers_part : (code second : ℕ) → HasForm code → is_formed (record_of true second (0 ∷ 0 ∷ [])) ≡ true
    → IsPart (λ (z : ℤ × ℤ). layered code second z.0 z.1) (layers_at code second)
unfolding layers_at is_formed
layers_part code second form formed =
    join_part (λ l. begin code ▸ value demand.Plain LAYER (Means int16_of) l)
    (λ l k. value demand.Plain second (Means int16_of) k) _ _
    (begin_part code (λ l. value demand.Plain LAYER (Means int16_of) l) _ form
    (value_begins demand.Plain LAYER ELFLAGS (Means int16_of) (λ e. absurd (omega arith)))
    (value_begins demand.Plain LAYER PLEX (Means int16_of) (λ e. absurd (omega arith)))
    (taken_part demand.Plain LAYER (Means int16_of) int16_of (int16_meaning LAYER refl)))
    (λ l. taken_part demand.Plain second (Means int16_of) int16_of (int16_meaning second formed))

property_part : IsPart property property_at
unfolding property_at is_formed
property_part =
    renamed as_property (λ p. (p.attr, p.value)) (λ p. refl)
    (λ (z : ℤ × List ℕ). value demand.Plain PROPATTR (Means int16_of) z.0
    ▸ value demand.Plain PROPVALUE (Means string_of) z.1) property _
    (λ x judge K l s. s) (λ z judge K l s. s)
    (join_part (value demand.Plain PROPATTR (Means int16_of)) (λ a. value demand.Plain PROPVALUE (Means string_of)) _ _
    (taken_part demand.Plain PROPATTR (Means int16_of) int16_of (int16_meaning PROPATTR refl))
    (λ a. taken_part demand.Plain PROPVALUE (Means string_of) string_of (text_meaning PROPVALUE refl)))

property_other : (seen : List Prop) → AreOther ENDEL property
property_other seen p judge K l s =
    value_begins demand.Plain PROPATTR ENDEL (Means int16_of) (λ e. absurd (omega arith)) p.attr judge
    (value demand.Plain PROPVALUE (Means string_of) p.value judge K) l s

pub properties_part : IsPart end properties_at
unfolding properties_at is_formed
properties_part = until_part (λ seen. property) (λ seen. property_at) ENDEL (bare ENDEL refl) property_other
    (λ seen lt. property_part)

-- for the loop over the properties
pub property_shrinks : (seen : List Prop) → length seen < room
    → (rs : List StreamRecord) (x : Prop) (rest : List StreamRecord) → length rs ≤ room
    → property_at rs ≡ Ok (x, rest) → length rest < length rs
property_shrinks seen lt rs x rest fits is =
    shorter property ENDEL (property_other seen) rs x rest (property_part.takes rs x rest fits is)

pub property_empty : (seen : List Prop) → property_at [] ≡ Err Short
unfolding property_at taken_at next_at
property_empty seen = refl
