-- A written text holds no foreign byte.
use Rattle.std.proofs.Common.{◌≡◌, ℕ, ◌+◌, List, [], ◌∷◌, ◌++◌, length, Bool, true, false, cond, not, ◌==◌, nat_lt, position, map, Option, Some, None, refl, ap, ◌∙◌, arith}
use Rattle.std.specs.Prelude.{flat_map}
use Rattle.std.specs.List.{AllByRecursion, position_or_len}
use borrow.Author.Tests.{ltb-true}
use Rattle.netlist.specs.declared.deck.Subckt.{Subckt}
use Rattle.netlist.specs.declared.deck.Instance.{Instance}
use Rattle.spice_text.specs.Deck.{is_text_byte, unless_foreign, deck_after, start}
use Rattle.spice_text.specs.WrittenText.{gap, count_after, words_text, instance_text, begin_text, end_text, subckt_text, deck_text}
use Rattle.spice_text.specs.Writable.{IsNameByte, IsName, IsWritableInstance, IsWritableSubckt, AreWritable, subckt_name}
use Rattle.spice_text.specs.ReadBack.{IsReadAs}
use Rattle.spice_text.proofs.WrittenLines.{Read}
use Rattle.spice_text.proofs.WrittenWords.{all_of, byte_text}
use Rattle.spice_text.proofs.WrittenNames.{differ_once}
use Rattle.spice_text.proofs.WrittenDeck.{deck_goes, all_names}

abbrev pub IsPlainText : List ℕ → Type 0
IsPlainText bytes = AllByRecursion (λ b. is_text_byte b ≡ true) bytes

pub both_plain : (xs ys : List ℕ) → IsPlainText xs → IsPlainText ys → IsPlainText (xs ++ ys)
both_plain [] ys f g = g
both_plain (x ∷ xs) ys f g = (f.0, both_plain xs ys f.1 g)

name_plain : (name : List ℕ) → IsName name → IsPlainText name
name_plain name h = all_of IsNameByte (λ b. is_text_byte b ≡ true) byte_text name h.bytes

gap_plain : (count : ℕ) → IsPlainText (gap count)
gap_plain count = at (count == 0) (count == 12) where
  at : (u v : Bool) → IsPlainText (cond u [] (cond v (10 ∷ 43 ∷ 32 ∷ []) (32 ∷ [])))
  at true v = tt
  at false true = (refl, (refl, (refl, tt)))
  at false false = (refl, tt)

words_plain : (words : List (List ℕ)) (count : ℕ) → AllByRecursion IsPlainText words → IsPlainText (words_text count words)
words_plain [] count h = (refl, tt)
words_plain (word ∷ words) count h = both_plain (gap count ++ word) (words_text (count_after count) words) (both_plain (gap count) word (gap_plain count) h.0) (words_plain words (count_after count) h.1)

names_plain : (names : List (List ℕ)) → AllByRecursion IsName names → AllByRecursion IsPlainText names
names_plain names h = all_of IsName IsPlainText name_plain names h

instances_plain : (instances : List Instance) → AllByRecursion IsWritableInstance instances → IsPlainText (flat_map instance_text instances)
instances_plain [] h = tt
instances_plain (i ∷ instances) h =
    both_plain (instance_text i) (flat_map instance_text instances) (words_plain (i.name ∷ (i.nodes ++ i.of ∷ [])) 0 (names_plain (i.name ∷ (i.nodes ++ i.of ∷ [])) (h.0.name, all_names i.nodes i.of h.0.nodes h.0.refers)))
    (instances_plain instances h.1)

subckt_plain : (s : Subckt) → IsWritableSubckt s → IsPlainText (subckt_text s)
subckt_plain s w =
    both_plain (begin_text s) (flat_map instance_text s.instances ++ end_text s)
    (words_plain ((46 ∷ 83 ∷ 85 ∷ 66 ∷ 67 ∷ 75 ∷ 84 ∷ []) ∷ s.name ∷ s.ports) 0 ((refl, (refl, (refl, (refl, (refl, (refl, (refl, tt))))))), names_plain (s.name ∷ s.ports) (w.name, w.ports)))
    (both_plain (flat_map instance_text s.instances) (end_text s) (instances_plain s.instances w.instances)
    (words_plain ((46 ∷ 69 ∷ 78 ∷ 68 ∷ 83 ∷ []) ∷ s.name ∷ []) 0 ((refl, (refl, (refl, (refl, (refl, tt))))), names_plain (s.name ∷ []) (w.name, tt))))

pub deck_plain : (subckts : List Subckt) → AllByRecursion IsWritableSubckt subckts → IsPlainText (deck_text subckts)
deck_plain [] h = tt
deck_plain (s ∷ subckts) h = both_plain (subckt_text s) (deck_text subckts) (subckt_plain s h.0) (deck_plain subckts h.1)

abbrev pub is_foreign : ℕ → Bool
is_foreign b = not (is_text_byte b)

no_place : (bytes : List ℕ) → IsPlainText bytes → position_or_len is_foreign bytes ≡ length bytes
no_place [] h = refl
no_place (b ∷ bytes) h = ap (λ v. cond (not (not v)) (1 + position_or_len is_foreign bytes) 0) h.0 ∙ ap (λ k. 1 + k) (no_place bytes h.1) ∙ more where
  more : 1 + length bytes ≡ length (b ∷ bytes)
  more = omega arith

pub no_foreign : (bytes : List ℕ) → IsPlainText bytes → position is_foreign bytes ≡ None
no_foreign bytes h = at (nat_lt (position_or_len is_foreign bytes) (length bytes)) refl where
  at : (v : Bool) → nat_lt (position_or_len is_foreign bytes) (length bytes) ≡ v → cond v (Some (position_or_len is_foreign bytes)) None ≡ None
  at true is = let low = ltb-true (position_or_len is_foreign bytes) (length bytes) is in let same = no_place bytes h in absurd (omega arith)
  at false is = refl

-- the written text is the deck of the same subcircuits
pub written_is_read : (subckts : List Subckt) → AreWritable subckts → IsReadAs subckts (deck_text subckts)
written_is_read subckts w =
    let bytes = deck_text subckts in
    ap (λ (place : Option ℕ). unless_foreign place (deck_after (length bytes) start (Read 1 0 bytes))) (no_foreign bytes (deck_plain subckts w.each)) ∙ deck_goes subckts (length bytes) 1 0 [] w.each (differ_once (map subckt_name subckts) w.differ)
