-- No text is refused for want of memory.
use Rattle.std.proofs.Common.{◌≡◌, ℕ, List, [], ◌∷◌, length, map, Bool, true, false, cond, Option, Some, None, Result, Ok, Err, ap}
use Rattle.std.specs.Prelude.{not, position}
use Rattle.netlist.specs.declared.deck.Deck.{Deck}
use Rattle.netlist.specs.declared.deck.Subckt.{Subckt}
use Rattle.spice_text.specs.declared.fault.SpiceFault.{SpiceFault}
use Rattle.spice_text.specs.declared.fault.SpiceFault.TheVariants as fault
use Rattle.spice_text.specs.Deck.{deck, deck_after, finished, is_text_byte, start, then_lines, unless_foreign}
use Rattle.spice_text.specs.Lines.{TextLine, lines_of}
use Rattle.spice_text.specs.LogicalLines.{logical_lines}
use Rattle.spice_text.specs.Statements.{LineMeaning, statement_of}
use Rattle.spice_text.specs.Statements as says
use Rattle.spice_text.specs.Steps.{inside, outside, step, step_at, stops}
use Rattle.spice_text.specs.Subcircuits.{BegunSubckt, DeckSoFar, begun, closed_by, has_repeat, instance_added, instance_of, map_ok, name_of, opened}
use Rattle.spice_text.specs.Subcircuits.{own_name, with_closed, with_current, with_instance}
use Rattle.spice_text.specs.Words.{is_among}

-- it isn't refused so
abbrev pub Lasts : {X : Type 0} → Result X SpiceFault → Type 0
Lasts result = result ≡ Err fault.Memory → ⊥

lasts_if : {X : Type 0} (test : Bool) (a b : Result X SpiceFault) → Lasts a → Lasts b → Lasts (cond test a b)
lasts_if true a b by_a by_b = by_a
lasts_if false a b by_a by_b = by_b

lasts_mapped : {X Y : Type 0} (f : X → Y) (result : Result X SpiceFault) → Lasts result → Lasts (map_ok f result)
lasts_mapped f (Ok x) lasts e = absurd (cc)
lasts_mapped {X} f (Err g) lasts e = let same : g ≡ fault.Memory = cc in lasts (ap (λ (h : SpiceFault). Err h) same)

begun_lasts : (done : List Subckt) (line : ℕ) (words : List (List ℕ)) → Lasts (begun done line words)
begun_lasts done line [] = λ e. absurd (cc)
begun_lasts done line (name ∷ ports) =
    let twice : Result DeckSoFar SpiceFault = Err (fault.Duplicate line) in
    let new : Result DeckSoFar SpiceFault = Ok (record { done = done; current = Some (opened line name ports) }) in
    lasts_if (is_among name (map name_of done)) twice (cond (has_repeat [] ports) twice new) (λ e. absurd (cc))
    (lasts_if (has_repeat [] ports) twice new (λ e. absurd (cc)) (λ e. absurd (cc)))

added_lasts : (o : BegunSubckt) (line : ℕ) (words : List (List ℕ)) → Lasts (instance_added o line words)
added_lasts o line [] = λ e. absurd (cc)
added_lasts o line (name ∷ []) = λ e. absurd (cc)
added_lasts o line (name ∷ word ∷ words) =
    let twice : Result BegunSubckt SpiceFault = Err (fault.Duplicate line) in
    let new : Result BegunSubckt SpiceFault = Ok (with_instance o (instance_of name word words)) in
    lasts_if (is_among name (map own_name o.subckt.instances)) twice new (λ e. absurd (cc)) (λ e. absurd (cc))

outside_lasts : (d : DeckSoFar) (line : ℕ) (meaning : LineMeaning) → Lasts (outside d line meaning)
outside_lasts d line says.Refused e = absurd (cc)
outside_lasts d line (says.Begin words) e = begun_lasts d.done line words e
outside_lasts d line (says.End words) e = absurd (cc)
outside_lasts d line says.Continuation e = absurd (cc)
outside_lasts d line says.Stop e = absurd (cc)
outside_lasts d line says.Command e = absurd (cc)
outside_lasts d line (says.Instance words) e = absurd (cc)
outside_lasts d line says.Other e = absurd (cc)

inside_lasts : (d : DeckSoFar) (o : BegunSubckt) (line : TextLine) (meaning : LineMeaning) → Lasts (inside d o line meaning)
inside_lasts d o line says.Refused e = absurd (cc)
inside_lasts d o line (says.Begin words) e = absurd (cc)
inside_lasts d o line (says.End words) e =
    let closed : Result DeckSoFar SpiceFault = Ok (with_closed d o) in
    let open_still : Result DeckSoFar SpiceFault = Err (fault.Unclosed line.number) in
    lasts_if (closed_by words o.subckt.name) closed open_still (λ f. absurd (cc)) (λ f. absurd (cc)) e
inside_lasts d o line says.Continuation e = absurd (cc)
inside_lasts d o line says.Stop e = absurd (cc)
inside_lasts d o line says.Command e = absurd (cc)
inside_lasts d o line (says.Instance words) e = lasts_mapped (with_current d) (instance_added o line.number words) (added_lasts o line.number words) e
inside_lasts d o line says.Other e = absurd (cc)

step_lasts : (at : Option BegunSubckt) (d : DeckSoFar) (line : TextLine) (meaning : LineMeaning) → Lasts (step_at at d line meaning)
step_lasts None d line meaning = outside_lasts d line.number meaning
step_lasts (Some o) d line meaning = inside_lasts d o line meaning

finished_lasts : (used : ℕ) (done : List Subckt) (current : Option BegunSubckt) → Lasts (finished used done current)
finished_lasts used done None e = absurd (cc)
finished_lasts used done (Some o) e = absurd (cc)

lines_last : (next : DeckSoFar → Result Deck SpiceFault) (result : Result DeckSoFar SpiceFault) → Lasts result → ((d : DeckSoFar) → Lasts (next d))
    → Lasts (then_lines next result)
lines_last next (Ok d) lasts each = each d
lines_last next (Err g) lasts each = λ e. let same : g ≡ fault.Memory = cc in lasts (ap (λ (h : SpiceFault). Err h) same)

after_lasts : (size : ℕ) (d : DeckSoFar) (lines : List TextLine) → Lasts (deck_after size d lines)
after_lasts size d [] = finished_lasts size d.done d.current
after_lasts size d (line ∷ lines) =
    let stopped = finished line.before d.done d.current in
    let goes_on = then_lines (λ next. deck_after size next lines) (step d line (statement_of line.text)) in
    lasts_if (stops d.current (statement_of line.text)) stopped goes_on (finished_lasts line.before d.done d.current)
    (lines_last (λ next. deck_after size next lines) (step d line (statement_of line.text)) (step_lasts d.current d line (statement_of line.text))
    (λ next. after_lasts size next lines))

foreign_lasts : (found : Option ℕ) (result : Result Deck SpiceFault) → Lasts result → Lasts (unless_foreign found result)
foreign_lasts None result lasts = lasts
foreign_lasts (Some index) result lasts = λ e. absurd (cc)

pub deck_lasts : (text : List ℕ) → Lasts (deck text)
deck_lasts text =
    foreign_lasts (position (λ b. not (is_text_byte b)) text) (deck_after (length text) start (logical_lines (lines_of text)))
    (after_lasts (length text) start (logical_lines (lines_of text)))
