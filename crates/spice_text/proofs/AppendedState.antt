-- Where reading stands when a deck's lines are read.
use Rattle.std.proofs.Common.{◌≡◌, ℕ, List, [], ◌∷◌, ◌++◌, Bool, true, false, cond, Option, Some, None, Result, Ok, Err, refl, ap, subst, ◌∙◌}
use Rattle.netlist.specs.declared.deck.Deck.{Deck}
use Rattle.spice_text.specs.declared.fault.SpiceFault.{SpiceFault}
use Rattle.spice_text.specs.Lines.{TextLine}
use Rattle.spice_text.specs.Statements.{statement_of}
use Rattle.spice_text.specs.Subcircuits.{BegunSubckt, DeckSoFar}
use Rattle.spice_text.specs.Steps.{step, stops}
use Rattle.spice_text.specs.Deck.{finished, then_lines, deck_after}

-- how many bytes are used where these lines are not read
abbrev pub Ends : ℕ → List TextLine → ℕ → Type 0
Ends size [] used = used ≡ size
Ends size (line ∷ lines) used = used ≡ line.before

-- the lines that are read, and how they leave the subcircuits
pub record Split (size : ℕ) (r : DeckSoFar) (lines : List TextLine) (d : Deck) : Type 0 where
  pub front : List TextLine
  pub rest : List TextLine
  pub last : DeckSoFar
  pub parts : lines ≡ front ++ rest
  pub go : (size : ℕ) (more : List TextLine) → deck_after size r (front ++ more) ≡ deck_after size last more
  pub none : last.current ≡ None
  pub done : last.done ≡ d.subckts
  pub ends : Ends size rest d.used

stopped : (current : Option BegunSubckt) (size used : ℕ) (r : DeckSoFar) (rest : List TextLine) (d : Deck) → r.current ≡ current → finished used r.done current ≡ Ok d → Ends size rest used → Split size r rest d
stopped (Some o) size used r rest d e is ends = absurd cc
stopped None size used r rest d e is ends =
    let same : record { subckts = r.done; used = used } ≡ d = cc in
    record {
      front = [];
      rest = rest;
      last = r;
      parts = refl;
      go = λ size more. refl;
      none = e;
      done = ap (λ (d : Deck). d.subckts) same;
      ends = subst (Ends size rest) (ap (λ (d : Deck). d.used) same) ends;
    }

one_more : (size : ℕ) (r r2 : DeckSoFar) (line : TextLine) (lines : List TextLine) (d : Deck) → stops r.current (statement_of line.text) ≡ false → step r line (statement_of line.text) ≡ Ok r2 → Split size r2 lines d → Split size r (line ∷ lines) d
one_more size r r2 line lines d off is s = record {
  front = line ∷ s.front;
  rest = s.rest;
  last = s.last;
  parts = ap (λ (ls : List TextLine). line ∷ ls) s.parts;
  go = λ size more.
      ap (λ v. cond v (finished line.before r.done r.current) (then_lines (λ q. deck_after size q (s.front ++ more)) (step r line (statement_of line.text)))) off
      ∙ ap (then_lines (λ q. deck_after size q (s.front ++ more))) is ∙ s.go size more;
  none = s.none;
  done = s.done;
  ends = s.ends;
}

by_step : (a : Result DeckSoFar SpiceFault) (size : ℕ) (r : DeckSoFar) (line : TextLine) (lines : List TextLine) (d : Deck) → stops r.current (statement_of line.text) ≡ false → step r line (statement_of line.text) ≡ a
    → then_lines (λ q. deck_after size q lines) a ≡ Ok d → ((r2 : DeckSoFar) → deck_after size r2 lines ≡ Ok d → Split size r2 lines d) → Split size r (line ∷ lines) d
by_step (Err e) size r line lines d off is given next = absurd cc
by_step (Ok r2) size r line lines d off is given next = one_more size r r2 line lines d off is (next r2 given)

by_stop : (v : Bool) (size : ℕ) (r : DeckSoFar) (line : TextLine) (lines : List TextLine) (d : Deck) → stops r.current (statement_of line.text) ≡ v
    → cond v (finished line.before r.done r.current) (then_lines (λ q. deck_after size q lines) (step r line (statement_of line.text))) ≡ Ok d
    → ((r2 : DeckSoFar) → deck_after size r2 lines ≡ Ok d → Split size r2 lines d) → Split size r (line ∷ lines) d
by_stop true size r line lines d off given next = stopped r.current size line.before r (line ∷ lines) d refl given refl
by_stop false size r line lines d off given next = by_step (step r line (statement_of line.text)) size r line lines d off refl given next

pub split_deck : (lines : List TextLine) (size : ℕ) (r : DeckSoFar) (d : Deck) → deck_after size r lines ≡ Ok d → Split size r lines d
split_deck [] size r d is = stopped r.current size size r [] d refl is refl
split_deck (line ∷ lines) size r d is = by_stop (stops r.current (statement_of line.text)) size r line lines d refl is (λ r2 is. split_deck lines size r2 d is)
