-- Structures and the library, with their readers.
use Rattle.std.proofs.Common.{◌≡◌, ◌≢◌, ℕ, ◌<◌, ◌≤◌, List, [], ◌∷◌, ◌++◌, length, Bool, true, false, cond, ◌||◌, Option, Some, None, Ok, Err, refl, sym, ap, subst, ◌∙◌, arith}
use Rattle.std.proofs.lemmas.Slice.Eq.{bytes_eq-Decides}
use Rattle.std.proofs.lemmas.Bool.{or_parts}
use Rattle.std.specs.List.{AllByRecursion}
use Rattle.std.specs.Str.{bytes_eq}
use Rattle.or_geom.proofs.NameLaws.{other_name}
use Rattle.gds_records.specs.declared.code.TheConstants.{HEADER, BGNLIB, LIBNAME, UNITS, ENDLIB, BGNSTR, STRNAME, ENDSTR, REFLIBS, FONTS, GENERATIONS, ATTRTABLE}
use Rattle.gds_records.specs.declared.error.Demand.TheVariants as demand
use Rattle.gds_records.specs.declared.error.RecordError.TheVariants.{Short}
use Rattle.gds_records.specs.Record.{StreamRecord, is_formed, unpadded}
use Rattle.gds_records.specs.Part.{Part, ◌▸◌, value, any, maybe, through, repeated_after, repeated}
use Rattle.gds_records.specs.Values.{Means, string_of}
use Rattle.gds_records.specs.Reading.{Reader, taken_at, then_at, past, any_at, maybe_at, skip_at, next_at}
use Rattle.gds_records.proofs.PartLaws.{IsPart, IsMeaning, room}
use Rattle.gds_records.proofs.CaseLaws.{through_part}
use Rattle.gds_records.proofs.JoinLaws.{join_part, equal_part, any_part, maybe_part, AreOther}
use Rattle.gds_records.proofs.RepeatLaws.{until_part, shorter}
use Rattle.gds_records.proofs.ChoiceLaws.{meaning, text_meaning, renamed, maybe_other, any_heads, heads_other}
use Rattle.gds_records.proofs.StepLaws.{taken_part, value_begins, join_begins, past_past}
use Rattle.gds_records.proofs.FileLaws.{is_only}
use Rattle.gds_library.specs.declared.library.Element.{Element}
use Rattle.gds_library.specs.declared.library.Structure.{Structure}
use Rattle.gds_library.specs.Values.{units_of}
use Rattle.gds_library.specs.Grammar.{item, kept_elements, IsNewText, structure, library}
use Rattle.gds_library.specs.ReadLibrary.{items_at, elements_at, is_taken, new_text_of, as_structure, structure_at, structures_at, skip_tables_at, as_library, library_at, LibrariesAreUnique}
use Rattle.gds_library.proofs.PropertyLaws.{bare}
use Rattle.gds_library.proofs.ItemLaws.{Items, items_part}
use Rattle.gds_library.proofs.FreshLaws.{fresh_name}

-- what is left where a test lets a text through
tested : (b : Bool) (text x : List ℕ) → cond b None (Some text) ≡ Some x → (b ≡ false) × (text ≡ x)
tested true text x is = absurd cc
tested false text x is = (refl, cc)

-- a name that is new, as the test finds it
all_new : (text : List ℕ) (before : List Structure) → is_taken before text ≡ false
    → AllByRecursion (λ (s : Structure). s.name ≢ text) before
all_new text [] is = tt
all_new text (s ∷ before) is =
    let d = bytes_eq-Decides text s.name in
    let parts = or_parts (bytes_eq text s.name) (is_taken before text) is in
    (λ e. (let both : true ≡ false = sym (d.1 (sym e)) ∙ parts.0 in absurd cc), all_new text before parts.1)

new_all : (text : List ℕ) (before : List Structure) → AllByRecursion (λ (s : Structure). s.name ≢ text) before
    → is_taken before text ≡ false
new_all text [] h = refl
new_all text (s ∷ before) h =
    let off : bytes_eq text s.name ≡ false = other_name text s.name (λ e. h.0 (sym e)) in
    rw off (new_all text before h.1)

new_gives : (before : List Structure) (content : List ℕ) (x : List ℕ) → new_text_of before content ≡ Some x
    → IsNewText before x content
new_gives before content x is =
    let t = tested (is_taken before (unpadded content)) (unpadded content) x is in (
      ap (λ (t : List ℕ). Some t) t.1,
      subst (λ (t : List ℕ). AllByRecursion (λ (s : Structure). s.name ≢ t) before)
          t.1 (all_new (unpadded content) before t.0),
    )

new_only : (before : List Structure) (content : List ℕ) (x : List ℕ) → IsNewText before x content
    → new_text_of before content ≡ Some x
new_only before content x h =
    let e : unpadded content ≡ x = cc (h.0) in
    let none : is_taken before (unpadded content) ≡ false =
    new_all (unpadded content) before
    (subst (λ (t : List ℕ). AllByRecursion (λ (s : Structure). s.name ≢ t) before) (sym e) h.1) in
    ap (λ (b : Bool). cond b None (Some (unpadded content))) none ∙ h.0

new_meaning : (before : List Structure) → length before < room
    → IsMeaning STRNAME (IsNewText before) (new_text_of before)
new_meaning before lt =
    let f = fresh_name before lt in
    record {
      gives = new_gives before;
      only = new_only before;
      content = f.name;
      x = f.name;
      formed = f.formed;
      has = (f.text, f.other);
    }

-- the names after one more structure
pub is_taken-append : (before : List Structure) (s : Structure) (text : List ℕ)
    → is_taken (before ++ s ∷ []) text ≡ (bytes_eq text s.name || is_taken before text)
is_taken-append [] s text = refl
is_taken-append (b ∷ before) s text = ap (λ t. bytes_eq text b.name || t) (is_taken-append before s text)
    ∙ swapped (bytes_eq text b.name) (bytes_eq text s.name) (is_taken before text) where
      swapped : (a b c : Bool) → (a || (b || c)) ≡ (b || (a || c))
      swapped true true c = refl
      swapped true false c = refl
      swapped false true c = refl
      swapped false false c = refl

-- what is kept of elements one after the other
pub kept_elements-append : (xs ys : List (Option Element))
    → kept_elements (xs ++ ys) ≡ kept_elements xs ++ kept_elements ys
kept_elements-append [] ys = refl
kept_elements-append (None ∷ xs) ys = kept_elements-append xs ys
kept_elements-append (Some e ∷ xs) ys = ap (λ (l : List Element). e ∷ l) (kept_elements-append xs ys)

abbrev Elements : List Element → Part
Elements es = through kept_elements (repeated item) es ▸ any ENDSTR

elements_part : IsPart Elements elements_at
unfolding elements_at
elements_part = through_part kept_elements Items items_at items_part

abbrev dates : List ℕ
dates = 0 ∷ 0 ∷ 0 ∷ 0 ∷ 0 ∷ 0 ∷ 0 ∷ 0 ∷ 0 ∷ 0 ∷ 0 ∷ 0 ∷ 0 ∷ 0 ∷ 0 ∷ 0 ∷ 0 ∷ 0 ∷ 0 ∷ 0 ∷ 0 ∷ 0 ∷ 0 ∷ 0 ∷ []

abbrev Named : List Structure → List ℕ × List Element → Part
Named before z = value demand.NewName STRNAME (IsNewText before) z.0 ▸ Elements z.1

abbrev named_elements_at : List Structure → Reader (List ℕ × List Element)
named_elements_at before rs = then_at (taken_at demand.NewName STRNAME (new_text_of before) rs) (λ n. elements_at)

pub structure_part : (before : List Structure) → length before < room → IsPart (structure before) (structure_at before)
unfolding structure_at is_formed
structure_part before lt =
    renamed as_structure (λ s. (s.name, s.elements)) (λ s. refl) (λ z. any BGNSTR ▸ Named before z) (structure before)
    (any_at BGNSTR (named_elements_at before)) (λ x judge K l s. s) (λ z judge K l s. s)
    (any_part BGNSTR (Named before) (named_elements_at before) (record { content = dates; formed = refl })
    (join_part (value demand.NewName STRNAME (IsNewText before)) (λ n. Elements) _ _
    (taken_part demand.NewName STRNAME (IsNewText before) (new_text_of before) (new_meaning before lt))
    (λ n. elements_part)))

structure_other : (seen : List Structure) → AreOther ENDLIB (structure seen)
structure_other seen z judge K l s =
    heads_other BGNSTR ENDLIB l (λ e. absurd (omega arith)) (any_heads BGNSTR judge _ l s)

abbrev Structures : List Structure → Part
Structures ss = repeated_after structure [] ss ▸ any ENDLIB

structures_part : IsPart Structures structures_at
unfolding structures_at is_formed
structures_part = until_part structure structure_at ENDLIB (bare ENDLIB refl) structure_other structure_part

-- for the loop over the structures
pub structure_shrinks : (seen : List Structure) → length seen < room
    → (rs : List StreamRecord) (x : Structure) (rest : List StreamRecord) → length rs ≤ room
    → structure_at seen rs ≡ Ok (x, rest) → length rest < length rs
structure_shrinks seen lt rs x rest fits is =
    shorter (structure seen) ENDLIB (structure_other seen) rs x rest ((structure_part seen lt).takes rs x rest fits is)

pub structure_empty : (seen : List Structure) → structure_at seen [] ≡ Err Short
unfolding structure_at next_at
structure_empty seen = refl

abbrev Measured : Unit {0} × List Structure → Part
Measured z = value demand.Units UNITS (Means units_of) z.0 ▸ Structures z.1

abbrev measured_at : Reader (Unit {0} × List Structure)
measured_at rs = then_at (taken_at demand.Units UNITS units_of rs) (λ u. structures_at)

abbrev units : List ℕ
units = 0x3E ∷ 0x41 ∷ 0x89 ∷ 0x37 ∷ 0x4B ∷ 0xC6 ∷ 0xA7 ∷ 0xF0 ∷ 0x39 ∷ 0x44 ∷ 0xB8 ∷ 0x2F ∷ 0xA0 ∷ 0x9B ∷ 0x5A ∷ 0x54
    ∷ []

measured_part : IsPart Measured measured_at
unfolding is_formed
measured_part =
    join_part (value demand.Units UNITS (Means units_of)) (λ u. Structures) _ _
    (taken_part demand.Units UNITS (Means units_of) units_of (meaning UNITS units_of units tt refl refl))
    (λ u. structures_part)

measured_other : (d : ℕ) → (UNITS ≡ d → ⊥) → AreOther d Measured
measured_other d ne = join_begins d (value demand.Units UNITS (Means units_of)) (λ u. Structures)
    (value_begins demand.Units UNITS d (Means units_of) ne)

-- [REFLIBS] [FONTS] [ATTRTABLE] [GENERATIONS]
abbrev Tabled : Unit {0} × List Structure → Part
Tabled z = maybe REFLIBS ▸ maybe FONTS ▸ maybe ATTRTABLE ▸ maybe GENERATIONS ▸ Measured z

same_tables : {Y : Type 0} (q : Reader Y) (rs : List StreamRecord)
    → maybe_at REFLIBS (maybe_at FONTS (maybe_at ATTRTABLE (maybe_at GENERATIONS q))) rs ≡ past (skip_tables_at rs) q
unfolding skip_tables_at
same_tables q rs =
    sym (past_past (skip_at REFLIBS rs)
    (λ rs. past (skip_at FONTS rs) (λ rs. past (skip_at ATTRTABLE rs) (skip_at GENERATIONS))) q
    ∙ ap (past (skip_at REFLIBS rs))
    (λ i rs. past_past (skip_at FONTS rs) (λ rs. past (skip_at ATTRTABLE rs) (skip_at GENERATIONS)) q i)
    ∙ ap (past (skip_at REFLIBS rs))
    (λ i rs. past (skip_at FONTS rs) (λ rs. past_past (skip_at ATTRTABLE rs) (skip_at GENERATIONS) q i)))

tabled_part : IsPart Tabled (λ rs. past (skip_tables_at rs) measured_at)
unfolding is_formed
tabled_part =
    let generations = maybe_part GENERATIONS Measured measured_at (record { content = 0 ∷ 0 ∷ []; formed = refl })
    (measured_other GENERATIONS (λ e. absurd (omega arith))) measured_part in
    let attributes = maybe_part ATTRTABLE (λ z. maybe GENERATIONS ▸ Measured z) (maybe_at GENERATIONS measured_at)
    (bare ATTRTABLE refl)
    (maybe_other GENERATIONS ATTRTABLE Measured (λ e. absurd (omega arith))
    (measured_other ATTRTABLE (λ e. absurd (omega arith)))) generations in
    let fonts = maybe_part FONTS (λ z. maybe ATTRTABLE ▸ maybe GENERATIONS ▸ Measured z)
    (maybe_at ATTRTABLE (maybe_at GENERATIONS measured_at)) (bare FONTS refl)
    (maybe_other ATTRTABLE FONTS (λ z. maybe GENERATIONS ▸ Measured z) (λ e. absurd (omega arith))
    (maybe_other GENERATIONS FONTS Measured (λ e. absurd (omega arith))
    (measured_other FONTS (λ e. absurd (omega arith))))) attributes in
    equal_part Tabled (maybe_at REFLIBS (maybe_at FONTS (maybe_at ATTRTABLE (maybe_at GENERATIONS measured_at))))
    (λ rs. past (skip_tables_at rs) measured_at) (same_tables measured_at)
    (maybe_part REFLIBS (λ z. maybe FONTS ▸ maybe ATTRTABLE ▸ maybe GENERATIONS ▸ Measured z)
    (maybe_at FONTS (maybe_at ATTRTABLE (maybe_at GENERATIONS measured_at))) (bare REFLIBS refl)
    (maybe_other FONTS REFLIBS (λ z. maybe ATTRTABLE ▸ maybe GENERATIONS ▸ Measured z) (λ e. absurd (omega arith))
    (maybe_other ATTRTABLE REFLIBS (λ z. maybe GENERATIONS ▸ Measured z) (λ e. absurd (omega arith))
    (maybe_other GENERATIONS REFLIBS Measured (λ e. absurd (omega arith))
    (measured_other REFLIBS (λ e. absurd (omega arith)))))) fonts)

abbrev Titled : List ℕ × (Unit {0} × List Structure) → Part
Titled z = value demand.Plain LIBNAME (Means string_of) z.0 ▸ Tabled z.1

abbrev titled_at : Reader (List ℕ × (Unit {0} × List Structure))
titled_at rs = then_at (taken_at demand.Plain LIBNAME string_of rs) (λ n rs. past (skip_tables_at rs) measured_at)

pub library_part : IsPart library library_at
unfolding library_at is_formed
library_part =
    renamed as_library (λ lib. (lib.name, (tt, lib.structs))) (λ lib. refl) (λ z. any HEADER ▸ any BGNLIB ▸ Titled z)
    library (any_at HEADER (any_at BGNLIB titled_at)) (λ x judge K l s. s) (λ z judge K l s. s)
    (any_part HEADER (λ z. any BGNLIB ▸ Titled z) (any_at BGNLIB titled_at)
    (record { content = 0 ∷ 0 ∷ []; formed = refl })
    (any_part BGNLIB Titled titled_at (record { content = dates; formed = refl })
    (join_part (value demand.Plain LIBNAME (Means string_of)) (λ n. Tabled) _ _
    (taken_part demand.Plain LIBNAME (Means string_of) string_of (text_meaning LIBNAME refl)) (λ n. tabled_part))))

pub libraries_are_unique : LibrariesAreUnique
libraries_are_unique bytes a b fits s t = is_only library library_at bytes a b library_part fits s t
