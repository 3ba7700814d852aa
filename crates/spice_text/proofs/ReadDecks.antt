-- Every deck that is read has its names in lower case, and can be written but for lines that are kept and names with CR.
use Rattle.std.proofs.Common.{◌≡◌, ◌≢◌, inl, inr, ℕ, ◌<◌, List, [], ◌∷◌, length, Bool, true, false, cond, ◌==◌, map, Option, Some, None, Result, Ok, Err, refl, sym, ap, subst, ◌∙◌, arith, eq-eqb}
use Rattle.std.specs.List.{AllByRecursion}
use Rattle.std.proofs.lemmas.Bool.{eqb-true, or_parts}
use Rattle.netlist.specs.declared.deck.Deck.{Deck}
use Rattle.netlist.specs.declared.deck.Instance.{Instance}
use Rattle.netlist.specs.declared.deck.Subckt.{Subckt}
use Rattle.spice_text.specs.declared.fault.SpiceFault.{SpiceFault}
use Rattle.spice_text.specs.Lines.{TextLine, lines_of}
use Rattle.spice_text.specs.LogicalLines.{logical_lines, starts_with}
use Rattle.spice_text.specs.Words.{lower, is_nonempty, is_assignment}
use Rattle.spice_text.specs.Statements.{statement_of}
use Rattle.spice_text.specs.Subcircuits.{BegunSubckt, DeckSoFar, name_of, own_name, has_repeat}
use Rattle.spice_text.specs.Steps.{step, stops}
use Rattle.spice_text.specs.Deck.{finished, then_lines, deck_after, start, deck}
use Rattle.spice_text.specs.Writable.{IsNameByte, IsName, BeginsWithX, Differ, IsWritableInstance, instance_name, IsWritableSubckt, subckt_name, lowered_instance, lowered_subckt}
use Rattle.spice_text.specs.ReadDecks.{HasNoReturn, IsInstanceWithoutReturns, IsOfNames, DecksAreWritable, DecksAreLowered, IsReadableName, SubcktNamesAreReadable}
use Rattle.spice_text.proofs.TestLaws.{once_differ}
use Rattle.spice_text.proofs.AppendedText.{is_read}
use Rattle.spice_text.proofs.ReadWords.{IsLineByte, IsReadLine, lines_read, IsWordByte, IsReadName, name_low, names_low}
use Rattle.spice_text.proofs.ReadState.{statement_read, IsReadInstance, IsReadSubckt, IsReadTo, IsReadSoFar, read_step}

-- what is known of a deck
pub record IsReadDeck (d : Deck) : Type 0 where
  pub subckts : AllByRecursion IsReadSubckt d.subckts
  pub once : has_repeat [] (map name_of d.subckts) ≡ false

ended : (current : Option BegunSubckt) (used : ℕ) (done : List Subckt) (d : Deck) → IsReadTo current done → finished used done current ≡ Ok d → IsReadDeck d
ended (Some o) used done d h is = absurd cc
ended None used done d h is = let same : record { subckts = done; used = used } ≡ d = cc in subst IsReadDeck same (record { subckts = h.subckts; once = h.once })

by_step : (a : Result DeckSoFar SpiceFault) (size : ℕ) (r : DeckSoFar) (line : TextLine) (lines : List TextLine) (d : Deck) → IsReadLine line → IsReadSoFar r
    → step r line (statement_of line.text) ≡ a → then_lines (λ q. deck_after size q lines) a ≡ Ok d
    → ((q : DeckSoFar) → IsReadSoFar q → deck_after size q lines ≡ Ok d → IsReadDeck d) → IsReadDeck d
by_step (Err e) size r line lines d own h is given next = absurd cc
by_step (Ok q) size r line lines d own h is given next =
    next q (read_step r.current (statement_of line.text) r.done line q (statement_read line.text own) h is) given

by_stop : (v : Bool) (size : ℕ) (r : DeckSoFar) (line : TextLine) (lines : List TextLine) (d : Deck) → IsReadLine line → IsReadSoFar r
    → cond v (finished line.before r.done r.current) (then_lines (λ q. deck_after size q lines) (step r line (statement_of line.text))) ≡ Ok d
    → ((q : DeckSoFar) → IsReadSoFar q → deck_after size q lines ≡ Ok d → IsReadDeck d) → IsReadDeck d
by_stop true size r line lines d own h given next = ended r.current line.before r.done d h given
by_stop false size r line lines d own h given next = by_step (step r line (statement_of line.text)) size r line lines d own h refl given next

after_read : (lines : List TextLine) (size : ℕ) (r : DeckSoFar) (d : Deck) → AllByRecursion IsReadLine lines → IsReadSoFar r → deck_after size r lines ≡ Ok d → IsReadDeck d
after_read [] size r d all h is = ended r.current size r.done d h is
after_read (line ∷ lines) size r d all h is =
    by_stop (stops r.current (statement_of line.text)) size r line lines d all.0 h is (λ q h is. after_read lines size q d all.1 h is)

deck_read : (bytes : List ℕ) (d : Deck) → deck bytes ≡ Ok d → IsReadDeck d
deck_read bytes d e =
    let read = is_read bytes d e in
    after_read (logical_lines (lines_of bytes)) (length bytes) start d (lines_read bytes read.plain) (record { subckts = tt; once = refl; last = tt }) read.given

-- names in lower case
instances_low : (is : List Instance) → AllByRecursion IsReadInstance is → map lowered_instance is ≡ is
instances_low [] all = refl
instances_low (i ∷ is) all = λ k. record { name = name_low i.name all.0.name k; nodes = names_low i.nodes all.0.nodes k; of = name_low i.of all.0.refers k } ∷ instances_low is all.1 k

subckts_low : (ss : List Subckt) → AllByRecursion IsReadSubckt ss → map lowered_subckt ss ≡ ss
subckts_low [] all = refl
subckts_low (s ∷ ss) all =
    λ k. record { name = name_low s.name all.0.name k; ports = names_low s.ports all.0.ports k; instances = instances_low s.instances all.0.instances k; raw = s.raw } ∷ subckts_low ss all.1 k

pub decks_are_lowered : DecksAreLowered
decks_are_lowered bytes d e = let read = deck_read bytes d e in subckts_low d.subckts read.subckts

-- names without CR
name_byte : (b : ℕ) → IsWordByte b → b ≢ 13 → (b == 61) ≡ false → IsNameByte b
name_byte b h off plain = at h.0.0 where
  apart : (c : ℕ) → (b == c) ≡ false → b ≢ c
  apart c e same = let is = eq-eqb b c same in let both : true ≡ false = sym is ∙ e in absurd cc

  at : IsLineByte b → IsNameByte b
  at (inl range) =
      let space = apart 32 (or_parts (b == 32) (b == 9) h.1).0 in
      record { above = omega (arith, range.0, space); below = range.1; other = apart 61 plain }
  at (inr (inl tab)) = absurd (apart 9 (or_parts (b == 32) (b == 9) h.1).1 tab)
  at (inr (inr return)) = absurd (off return)

name_bytes : (name : List ℕ) → AllByRecursion IsWordByte name → HasNoReturn name → is_assignment name ≡ false → AllByRecursion IsNameByte name
name_bytes [] all off plain = tt
name_bytes (b ∷ name) all off plain =
    let parts = or_parts (b == 61) (is_assignment name) plain in
    (name_byte b all.0 off.0 parts.0, name_bytes name all.1 off.1 parts.1)

some_length : (name : List ℕ) → is_nonempty name ≡ true → 0 < length name
some_length [] is = absurd cc
some_length (b ∷ name) is = omega arith

is_name : (name : List ℕ) → IsReadName name → HasNoReturn name → IsName name
is_name name h off = record { some = some_length name h.word.some; bytes = name_bytes name h.word.bytes off h.plain }

-- names without =
no_assignment : (name : List ℕ) → is_assignment name ≡ false → AllByRecursion (λ b. b ≢ 61) name
no_assignment [] plain = tt
no_assignment (b ∷ name) plain =
    let parts = or_parts (b == 61) (is_assignment name) plain in
    ((λ same. let is = eq-eqb b 61 same in let both : true ≡ false = sym is ∙ parts.0 in absurd cc), no_assignment name parts.1)

readable : (ss : List Subckt) → AllByRecursion IsReadSubckt ss → AllByRecursion (λ s. IsReadableName s.name) ss
readable [] all = tt
readable (s ∷ ss) all = (record { some = some_length s.name all.0.name.word.some; other = no_assignment s.name all.0.name.plain }, readable ss all.1)

pub subckt_names_are_readable : SubcktNamesAreReadable
subckt_names_are_readable bytes d e = let read = deck_read bytes d e in readable d.subckts read.subckts

two_all : {X : Type 0} (P Q R : X → Type 0) → ((x : X) → P x → Q x → R x) → (xs : List X) → AllByRecursion P xs → AllByRecursion Q xs → AllByRecursion R xs
two_all P Q R f [] p q = tt
two_all P Q R f (x ∷ xs) p q = (f x p.0 q.0, two_all P Q R f xs p.1 q.1)

begins : (name : List ℕ) → starts_with 120 name ≡ true → BeginsWithX name
begins [] is = absurd cc
begins (b ∷ name) is = inl (eqb-true b 120 is)

writable_instance : (i : Instance) → IsReadInstance i → IsInstanceWithoutReturns i → IsWritableInstance i
writable_instance i h off = record {
  name = is_name i.name h.name off.name;
  begins = begins i.name h.begins;
  nodes = two_all IsReadName HasNoReturn IsName is_name i.nodes h.nodes off.nodes;
  refers = is_name i.of h.refers off.refers;
}

-- names that stand there once differ
differ : (names low : List (List ℕ)) → low ≡ names → has_repeat [] names ≡ false → Differ low
differ names low same once = (once_differ low [] (ap (has_repeat []) same ∙ once)).1

own_low : (is : List Instance) → AllByRecursion IsReadInstance is → map instance_name is ≡ map own_name is
own_low [] all = refl
own_low (i ∷ is) all = λ k. name_low i.name all.0.name k ∷ own_low is all.1 k

subckts_named : (ss : List Subckt) → AllByRecursion IsReadSubckt ss → map subckt_name ss ≡ map name_of ss
subckts_named [] all = refl
subckts_named (s ∷ ss) all = λ k. name_low s.name all.0.name k ∷ subckts_named ss all.1 k

writable : (s : Subckt) → IsReadSubckt s → IsOfNames s → IsWritableSubckt s
writable s h off = record {
  name = is_name s.name h.name off.name;
  ports = two_all IsReadName HasNoReturn IsName is_name s.ports h.ports off.ports;
  ports_differ = differ s.ports (map lower s.ports) (names_low s.ports h.ports) h.ports_once;
  instances = two_all IsReadInstance IsInstanceWithoutReturns IsWritableInstance writable_instance s.instances h.instances off.instances;
  instances_differ = differ (map own_name s.instances) (map instance_name s.instances) (own_low s.instances h.instances) h.instances_once;
  no_raw = off.no_raw;
}

pub decks_are_writable : DecksAreWritable
decks_are_writable bytes d e off =
    let read = deck_read bytes d e in
    record {
      each = two_all IsReadSubckt IsOfNames IsWritableSubckt writable d.subckts read.subckts off;
      differ = differ (map name_of d.subckts) (map subckt_name d.subckts) (subckts_named d.subckts read.subckts) read.once;
    }
