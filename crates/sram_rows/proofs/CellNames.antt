-- The names of cells that were read can be written.
use Rattle.std.proofs.Common.{◌≡◌, ◌≢◌, ℕ, zero, suc, ◌<◌, ◌≤◌, List, [], ◌∷◌, map, length, get_or, refl, sym, ap, subst, ◌∙◌, arith}
use Rattle.std.specs.List.{AllByRecursion}
use Rattle.std.specs.Char.{to_ascii_lowercase}
use Rattle.std.proofs.lemmas.List.{length-map}
use Rattle.netlist.specs.declared.deck.Subckt.{Subckt}
use Rattle.spice_text.specs.Words.{lower}
use Rattle.spice_text.specs.Writable.{IsNameByte, lowered_subckt}
use Rattle.spice_text.specs.ReadDecks.{IsReadableName}
use Rattle.spice_text.proofs.ReadDecks.{decks_are_lowered, subckt_names_are_readable}
use Rattle.spice_netlist.specs.Resolved.{names_of}
use Rattle.sram_rows.specs.Writing.{CellsAreNames}
use Rattle.sram_rows.proofs.FindLaws.{spot}

-- names of a deck in lower case
lowered_names : (ss : List Subckt) → names_of ss ≡ map (λ s. s.name) (map lowered_subckt ss)
lowered_names [] = refl
lowered_names (s ∷ ss) = ap (λ (l : List (List ℕ)). lower s.name ∷ l) (lowered_names ss)

all_at : (P : List ℕ → Type 0) (ss : List Subckt) (k : ℕ) → AllByRecursion (λ s. P s.name) ss → k < length ss → P (get_or (map (λ s. s.name) ss) k [])
all_at P [] k all lt = absurd (omega arith)
all_at P (s ∷ ss) zero all lt = all.0
all_at P (s ∷ ss) (suc k) all lt = all_at P ss k all.1 (omega arith)

bytes_are : (n : List ℕ) → AllByRecursion (λ b. (33 ≤ b) × (b ≤ 126)) n → AllByRecursion (λ b. b ≢ 61) (lower n) → AllByRecursion IsNameByte n
bytes_are [] printed other = tt
bytes_are (b ∷ n) printed other = (record { above = printed.0.0; below = printed.0.1; other = λ e. other.0 (ap to_ascii_lowercase e) }, bytes_are n printed.1 other.1)

pub cells_are_names : CellsAreNames
cells_are_names bytes d name r read has printed =
    let s = spot (lower name) (names_of d.subckts) 0 has.index has.there in
    let same : names_of d.subckts ≡ map (λ s. s.name) d.subckts = lowered_names d.subckts ∙ ap (map (λ (t : Subckt). t.name)) (decks_are_lowered bytes d read) in
    let long = length-map d.subckts (λ (t : Subckt). lower t.name) in
    let within = s.within in
    let lt : s.at < length d.subckts = omega (arith, long, within) in
    let is : get_or (map (λ (t : Subckt). t.name) d.subckts) s.at [] ≡ lower name = ap (λ (l : List (List ℕ)). get_or l s.at []) (sym same) ∙ s.name in
    let readable : IsReadableName (lower name) = subst IsReadableName is (all_at IsReadableName d.subckts s.at (subckt_names_are_readable bytes d read) lt) in
    let low = length-map name to_ascii_lowercase in
    let some = readable.some in
    record { some = omega (arith, low, some); bytes = bytes_are name printed readable.other }
