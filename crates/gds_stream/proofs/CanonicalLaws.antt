-- The bytes that are written of a library spell it, with its boundaries turned.
use Rattle.std.proofs.Common.{◌≡◌, ◌≢◌, ℕ, suc, ◌<◌, List, [], ◌∷◌, ◌++◌, length, map, get_or, Option, Some, refl, sym, ap, subst, arith}
use Rattle.std.proofs.lemmas.List.{append-nil}
use Rattle.std.specs.Prelude.{flat_map}
use Rattle.std.specs.List.{AllByRecursion, AllPairs}
use Rattle.gds_records.specs.declared.code.TheConstants.{HEADER, BGNLIB, LIBNAME, UNITS, ENDLIB, BGNSTR, STRNAME, ENDSTR, REFLIBS, FONTS, ATTRTABLE, GENERATIONS}
use Rattle.gds_records.specs.declared.error.Demand.TheVariants as demand
use Rattle.gds_records.specs.Record.{is_formed}
use Rattle.gds_records.specs.Part.{value, any, maybe, through, repeated, repeated_after}
use Rattle.gds_records.specs.Spelling.{all_count, IsAtEnd}
use Rattle.gds_records.specs.Values.{Means, string_of}
use Rattle.gds_library.specs.declared.library.Element.{Element}
use Rattle.gds_library.specs.declared.library.Structure.{Structure}
use Rattle.gds_library.specs.declared.library.Library.{Library}
use Rattle.gds_library.specs.Values.{units_of}
use Rattle.gds_library.specs.Grammar.{item, kept_elements, IsNewText, structure, library, Spells}
use Rattle.gds_library.specs.Writable.{IsWritableElement, IsWritableCell, IsWritable}
use Rattle.gds_stream.specs.Written.{HasShortNumbers, AreShortNumbers}
use Rattle.gds_stream.specs.Turned.{turned_element, turned_structure, turned_library}
use Rattle.gds_records.specs.Writing.{text_bytes, record_with}
use Rattle.gds_stream.specs.Canonical.{version, no_dates, nanometres, element_records, structure_records, library_records, canonical}
use Rattle.gds_stream.proofs.WrittenValues.{text_bytes_back}
use Rattle.gds_stream.proofs.SpelledLaws.{IsSpelled, one_value, one_any, followed, left_out, text, plain_text, both_hold, element_spelled}

-- {element}

abbrev kept_item : Element → Option Element
kept_item e = Some (turned_element e)

all_kept : (es : List Element) → kept_elements (map kept_item es) ≡ map turned_element es
all_kept [] = refl
all_kept (e ∷ es) = ap (λ (l : List Element). turned_element e ∷ l) (all_kept es)

items_spelled : (before : List (Option Element)) (es : List Element) → AllByRecursion (λ e. IsWritableElement e × HasShortNumbers e) es
    → IsSpelled (repeated_after (λ before. item) before (map kept_item es)) (flat_map element_records es)
items_spelled before [] all = record { formed = tt; order = λ K rs k. k }
items_spelled before (e ∷ es) all =
    followed (item (kept_item e)) (repeated_after (λ before. item) (before ++ kept_item e ∷ []) (map kept_item es)) (element_records e) (flat_map element_records es)
    (element_spelled e all.0.0 all.0.1) (items_spelled (before ++ kept_item e ∷ []) es all.1)

elements_spelled : (es : List Element) → AllByRecursion IsWritableElement es → AllByRecursion HasShortNumbers es
    → IsSpelled (through kept_elements (repeated item) (map turned_element es)) (flat_map element_records es)
elements_spelled es w n =
    let items = items_spelled [] es (both_hold IsWritableElement HasShortNumbers es w n) in
    record { formed = items.formed; order = λ K rs k. (map kept_item es, all_kept es, items.order K rs k) }

-- structures whose names differ

structure_spelled : (before : List Structure) (s : Structure) → IsWritableCell s → AreShortNumbers s
    → AllByRecursion (λ (b : Structure). b.name ≢ s.name) before
    → IsSpelled (structure before (turned_structure s)) (structure_records s)
unfolding is_formed
structure_spelled before s w n differ =
    followed (any BGNSTR) _ (record_with BGNSTR no_dates ∷ []) _ (one_any BGNSTR no_dates refl)
    (followed (value demand.NewName STRNAME (IsNewText before) s.name) _ (record_with STRNAME (text_bytes s.name) ∷ []) _
    (text demand.NewName STRNAME (IsNewText before) s.name refl w.name (ap (λ (l : List ℕ). Some l) (text_bytes_back s.name w.name).string, differ))
    (followed (through kept_elements (repeated item) (map turned_element s.elements)) (any ENDSTR) (flat_map element_records s.elements) (record_with ENDSTR [] ∷ [])
    (elements_spelled s.elements w.elements n) (one_any ENDSTR [] refl)))

-- the first name differs from those of the others
each_differs : (s : Structure) (ss : List Structure)
    → ((k : ℕ) → k < length ss → s.name ≢ (get_or ss k s).name) → AllByRecursion (λ (b : Structure). s.name ≢ b.name) ss
each_differs s [] f = tt
each_differs s (b ∷ ss) f = (f 0 (omega arith), each_differs s ss (λ k lt. f (suc k) (omega (arith, lt))))

first_differs : (s : Structure) (ss : List Structure) → AllPairs (λ (a b : Structure). a.name ≢ b.name) (s ∷ ss)
    → AllByRecursion (λ (b : Structure). s.name ≢ b.name) ss
first_differs s ss pairs = each_differs s ss (λ k lt. pairs 0 (suc k) s (omega arith) (omega (arith, lt)))

others_differ : (s : Structure) (ss : List Structure) → AllPairs (λ (a b : Structure). a.name ≢ b.name) (s ∷ ss)
    → AllPairs (λ (a b : Structure). a.name ≢ b.name) ss
others_differ s ss pairs i j d lt within = pairs (suc i) (suc j) d (omega (arith, lt)) (omega (arith, within))

-- what stands before differs from each that follows
abbrev AreNew : List Structure → List Structure → Type 0
AreNew before ss = AllByRecursion (λ (s : Structure). AllByRecursion (λ (b : Structure). b.name ≢ s.name) before) ss

one_more : (name : List ℕ) (before : List Structure) (b : Structure) → AllByRecursion (λ (b : Structure). b.name ≢ name) before
    → b.name ≢ name → AllByRecursion (λ (b : Structure). b.name ≢ name) (before ++ b ∷ [])
one_more name [] b all other = (other, tt)
one_more name (c ∷ before) b all other = (all.0, one_more name before b all.1 other)

still_new : (before : List Structure) (s : Structure) (ss : List Structure) → AreNew before ss
    → AllByRecursion (λ (b : Structure). s.name ≢ b.name) ss → AreNew (before ++ turned_structure s ∷ []) ss
still_new before s [] new differ = tt
still_new before s (t ∷ ts) new differ =
    (one_more t.name before (turned_structure s) new.0 differ.0, still_new before s ts new.1 differ.1)

structures_spelled : (before ss : List Structure) → AreNew before ss → AllPairs (λ (a b : Structure). a.name ≢ b.name) ss
    → AllByRecursion IsWritableCell ss → AllByRecursion AreShortNumbers ss
    → IsSpelled (repeated_after structure before (map turned_structure ss)) (flat_map structure_records ss)
structures_spelled before [] new pairs w n = record { formed = tt; order = λ K rs k. k }
structures_spelled before (s ∷ ss) new pairs w n =
    followed (structure before (turned_structure s)) (repeated_after structure (before ++ turned_structure s ∷ []) (map turned_structure ss))
    (structure_records s) (flat_map structure_records ss) (structure_spelled before s w.0 n.0 new.0)
    (structures_spelled (before ++ turned_structure s ∷ []) ss (still_new before s ss new.1 (first_differs s ss pairs)) (others_differ s ss pairs) w.1 n.1)

all_new : (ss : List Structure) → AreNew [] ss
all_new [] = tt
all_new (s ∷ ss) = (tt, all_new ss)

library_spelled : (lib : Library) → IsWritable lib → AllByRecursion AreShortNumbers lib.structs
    → IsSpelled (library (turned_library lib)) (library_records lib)
unfolding is_formed
library_spelled lib w n =
    followed (any HEADER) _ (record_with HEADER version ∷ []) _ (one_any HEADER version refl)
    (followed (any BGNLIB) _ (record_with BGNLIB no_dates ∷ []) _ (one_any BGNLIB no_dates refl)
    (followed (value demand.Plain LIBNAME (Means string_of) lib.name) _ (record_with LIBNAME (text_bytes lib.name) ∷ []) _ (plain_text LIBNAME lib.name refl w.name)
    (followed (maybe REFLIBS) _ [] _ (left_out REFLIBS)
    (followed (maybe FONTS) _ [] _ (left_out FONTS)
    (followed (maybe ATTRTABLE) _ [] _ (left_out ATTRTABLE)
    (followed (maybe GENERATIONS) _ [] _ (left_out GENERATIONS)
    (followed (value demand.Units UNITS (Means units_of) tt) _ (record_with UNITS nanometres ∷ []) _ (one_value demand.Units UNITS (Means units_of) tt nanometres refl refl)
    (followed (repeated_after structure [] (map turned_structure lib.structs)) (any ENDLIB) (flat_map structure_records lib.structs) (record_with ENDLIB [] ∷ [])
    (structures_spelled [] lib.structs (all_new lib.structs) w.names w.cells n) (one_any ENDLIB [] refl)))))))))

-- what is written of a library spells it
pub canonical_spells : (lib : Library) → IsWritable lib → AllByRecursion AreShortNumbers lib.structs → Spells (canonical lib) (turned_library lib)
canonical_spells lib w n =
    let s = library_spelled lib w n in
    record {
      records = library_records lib;
      zeros = [];
      parts = sym (append-nil (canonical lib));
      formed = s.formed;
      order = subst (library (turned_library lib) all_count IsAtEnd) (append-nil (library_records lib)) (s.order IsAtEnd [] refl);
      zero = tt;
    }
