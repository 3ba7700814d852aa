-- Subcircuits after a deck's bytes.
use Rattle.std.proofs.Common.{◌≡◌, ℕ, zero, suc, ◌+◌, List, [], ◌∷◌, ◌++◌, length, take, Bool, true, false, cond, not, position, map, filter, Option, Some, None, Ok, refl, ap, subst, ◌∙◌, arith}
use Rattle.std.proofs.lemmas.List.{append-nil}
use Rattle.std.specs.List.{position_or_len}
use Rattle.netlist.specs.declared.deck.Deck.{Deck}
use Rattle.netlist.specs.declared.deck.Subckt.{Subckt}
use Rattle.spice_text.specs.Lines.{TextLine, is_lf, pieces, numbered_lines}
use Rattle.spice_text.specs.LogicalLines.{counts, join}
use Rattle.spice_text.specs.Deck.{deck_after, start, is_text_byte, unless_foreign, deck}
use Rattle.spice_text.specs.WrittenText.{deck_text}
use Rattle.spice_text.specs.Writable.{subckt_name}
use Rattle.spice_text.specs.Appended.{with_lf, appended, AppendedIsRead}
use Rattle.spice_text.specs.Subcircuits.{DeckSoFar, name_of}
use Rattle.spice_text.proofs.LineLaws.{nowhere}
use Rattle.spice_text.proofs.WrittenLines.{Read}
use Rattle.spice_text.proofs.WrittenNames.{no_repeat}
use Rattle.spice_text.proofs.WrittenDeck.{between, deck_apart, deck_goes}
use Rattle.spice_text.proofs.WrittenBytes.{IsPlainText, both_plain, deck_plain, is_foreign, no_foreign}
use Rattle.spice_text.proofs.AppendedState.{Ends, split_deck}
use Rattle.spice_text.proofs.AppendedLines.{ended, NoLf, ended_pieces, pieces_no_lf, front_no_lf, cut_at, ended_lf, same_lines, join_append, cut_lines}

-- a text that is read holds no foreign byte
by_byte : (v : Bool) (n m : ℕ) → cond (not (not v)) (1 + n) 0 ≡ suc m → (v ≡ true) × (n ≡ m)
by_byte true n m e = (refl, omega (arith, e))
by_byte false n m e = absurd (omega (arith, e))

length_suc : (b : ℕ) (bytes : List ℕ) → length (b ∷ bytes) ≡ suc (length bytes)
length_suc b bytes = refl

all_plain : (bytes : List ℕ) → position_or_len is_foreign bytes ≡ length bytes → IsPlainText bytes
all_plain [] e = tt
all_plain (b ∷ bytes) e = let h = by_byte (is_text_byte b) (position_or_len is_foreign bytes) (length bytes) (e ∙ length_suc b bytes) in (h.0, all_plain bytes h.1)

taken_plain : (n : ℕ) (bytes : List ℕ) → IsPlainText bytes → IsPlainText (take n bytes)
taken_plain zero bytes h = tt
taken_plain (suc n) [] h = tt
taken_plain (suc n) (b ∷ bytes) h = (h.0, taken_plain n bytes h.1)

with_lf_plain : (bytes : List ℕ) → IsPlainText bytes → IsPlainText (with_lf bytes)
with_lf_plain [] h = tt
with_lf_plain (b ∷ []) h = elim (is_lf b) as (λ v. IsPlainText (cond v (b ∷ []) (b ∷ 10 ∷ []))) [ true ↦ (h.0, tt) | false ↦ (h.0, (refl, tt)) ]
with_lf_plain (b ∷ c ∷ bytes) h = (h.0, with_lf_plain (c ∷ bytes) h.1)

-- what a deck's text gives
pub record IsRead (bytes : List ℕ) (d : Deck) : Type 0 where
  pub plain : IsPlainText bytes
  pub given : deck_after (length bytes) start (Read 1 0 bytes) ≡ Ok d

by_foreign : (place : Option ℕ) (bytes : List ℕ) (d : Deck) → position is_foreign bytes ≡ place → unless_foreign place (deck_after (length bytes) start (Read 1 0 bytes)) ≡ Ok d → IsRead bytes d
by_foreign None bytes d is e = record { plain = all_plain bytes (nowhere is_foreign bytes is); given = e }
by_foreign (Some place) bytes d is e = absurd cc

pub is_read : (bytes : List ℕ) (d : Deck) → deck bytes ≡ Ok d → IsRead bytes d
is_read bytes d e = by_foreign (position is_foreign bytes) bytes d refl e

-- the lines that are read stand in the bytes that are used
pub record Front (bytes : List ℕ) (used : ℕ) (lines : List TextLine) : Type 0 where
  pub parts : List (List ℕ)
  pub is : with_lf (take used bytes) ≡ ended parts
  pub no_lf : NoLf parts
  pub same : join (filter counts (numbered_lines 1 0 parts)) ≡ lines

take_all : (bytes : List ℕ) → take (length bytes) bytes ≡ bytes
take_all [] = refl
take_all (b ∷ bytes) = ap (λ (l : List ℕ). b ∷ l) (take_all bytes)

take_front : (xs ys : List ℕ) → take (length xs) (xs ++ ys) ≡ xs
take_front [] ys = refl
take_front (x ∷ xs) ys = ap (λ (l : List ℕ). x ∷ l) (take_front xs ys)

front_of : (rest : List TextLine) (bytes : List ℕ) (used : ℕ) (front : List TextLine) → Read 1 0 bytes ≡ front ++ rest → Ends (length bytes) rest used → Front bytes used front
front_of [] bytes used front e ends =
    let s = same_lines (pieces is_lf bytes) bytes refl (pieces_no_lf bytes) in
    record {
      parts = s.lines;
      is = ap (λ n. with_lf (take n bytes)) ends ∙ ap with_lf (take_all bytes) ∙ s.is;
      no_lf = s.no_lf;
      same = ap join (s.same 1 0) ∙ e ∙ (append-nil front);
    }
front_of (line ∷ rest) bytes used front e ends =
    let c = cut_lines (pieces is_lf bytes) 1 0 front line rest e in
    let at = cut_at c.before c.first c.after bytes c.parts in
    let place : used ≡ length (ended c.before) = let there = c.place in omega (arith, ends, there) in
    record {
      parts = c.before;
      is = (λ i. with_lf (take (place i) (at.is i))) ∙ ap with_lf (take_front (ended c.before) at.rest) ∙ ended_lf c.before;
      no_lf = front_no_lf c.before (c.first ∷ c.after) (subst NoLf c.parts (pieces_no_lf bytes));
      same = c.lines;
    }

last_state : (r : DeckSoFar) (done : List Subckt) → r.current ≡ None → r.done ≡ done → r ≡ between done
last_state r done none is = λ i. record { done = is i; current = none i }

-- what is written after a deck's bytes is read after the deck
pub appended_is_read : AppendedIsRead
appended_is_read bytes d subckts e w new =
    let read = is_read bytes d e in
    let s = split_deck (Read 1 0 bytes) (length bytes) start d read.given in
    let f = front_of s.rest bytes d.used s.front s.parts s.ends in
    let text = deck_text subckts in
    let all = appended d bytes subckts in
    let size = length all in
    let j = join_append f.parts 1 0 text (deck_apart subckts w.each) in
    let lines : Read 1 0 all ≡ s.front ++ Read j.number j.before text =
    ap (λ (front : List ℕ). Read 1 0 (front ++ text)) f.is ∙ ap (λ (ps : List (List ℕ)). join (filter counts (numbered_lines 1 0 ps))) (ended_pieces f.parts text f.no_lf) ∙ j.is ∙ ap (λ (ls : List TextLine). ls ++ Read j.number j.before text) f.same in
    let plain : IsPlainText all = both_plain (with_lf (take d.used bytes)) text (with_lf_plain (take d.used bytes) (taken_plain d.used bytes read.plain)) (deck_plain subckts w.each) in
    ap (λ (place : Option ℕ). unless_foreign place (deck_after size start (Read 1 0 all))) (no_foreign all plain) ∙ ap (deck_after size start) lines ∙ s.go size (Read j.number j.before text)
    ∙ ap (λ (r : DeckSoFar). deck_after size r (Read j.number j.before text)) (last_state s.last d.subckts s.none s.done)
    ∙ deck_goes subckts size j.number j.before d.subckts w.each (no_repeat (map subckt_name subckts) (map name_of d.subckts) new w.differ)
