-- What a line of read words does to subcircuits that were read.
use Rattle.std.proofs.Common.{◌≡◌, ℕ, List, [], ◌∷◌, ◌++◌, Bool, true, false, cond, ◌||◌, map, Option, Some, None, Ok, refl, sym, ap, ◌∙◌, append_assoc}
use Rattle.std.specs.List.{AllByRecursion}
use Rattle.std.specs.Str.{bytes_eq}
use Rattle.std.proofs.lemmas.List.{append-nil, map-append}
use Rattle.std.specs.Prelude.{codes}
use Rattle.spice_text.proofs.PassLaws.{ok, passed, two_tests, one_pass, mapped_test}
use Rattle.netlist.specs.declared.deck.Instance.{Instance}
use Rattle.netlist.specs.declared.deck.Subckt.{Subckt}
use Rattle.spice_text.specs.declared.fault.SpiceFault.TheVariants as fault
use Rattle.spice_text.specs.Lines.{TextLine}
use Rattle.spice_text.specs.LogicalLines.{starts_with}
use Rattle.spice_text.specs.Words.{words_of, lower, before_assignment, is_among, but_last, last_word}
use Rattle.spice_text.specs.Statements.{LineMeaning, meaning_of, statement_of}
use Rattle.spice_text.specs.Statements as says
use Rattle.spice_text.specs.Subcircuits.{BegunSubckt, DeckSoFar, name_of, own_name, has_repeat, opened, instance_of, with_instance, instance_added, kept_raw, closed_by, with_current, map_ok}
use Rattle.spice_text.specs.Steps.{step}
use Rattle.spice_text.proofs.WrittenNames.{once_parts}
use Rattle.spice_text.proofs.ReadWords.{IsLineText, IsReadWord, words_read, IsReadName, names_read}

-- what is known of the words of a line
abbrev pub BeginsLow : List (List ℕ) → Type 0
BeginsLow [] = Unit {0}
BeginsLow (name ∷ words) = starts_with 120 name ≡ true

abbrev pub IsReadStatement : LineMeaning → Type 0
IsReadStatement says.Refused = Unit {0}
IsReadStatement (says.Begin words) = AllByRecursion IsReadName words
IsReadStatement (says.End words) = Unit {0}
IsReadStatement says.Stop = Unit {0}
IsReadStatement says.Command = Unit {0}
IsReadStatement (says.Instance words) = AllByRecursion IsReadName words × BeginsLow words
IsReadStatement says.Continuation = Unit {0}
IsReadStatement says.Other = Unit {0}

begins_low : (first : List ℕ) (others : List (List ℕ)) (v : Bool) → starts_with 120 first ≡ true → BeginsLow (cond v [] (first ∷ before_assignment others))
begins_low first others true is = tt
begins_low first others false is = is

-- whichever test of the first word passes first
module _ (first : List ℕ) (others : List (List ℕ)) (all : AllByRecursion IsReadWord (first ∷ others)) where
  by_tests : (a b c d e f : Bool) → (f ≡ true → starts_with 120 first ≡ true)
      → IsReadStatement (cond a says.Refused (cond b (says.Begin (before_assignment others)) (cond c (says.End others) (
      cond d says.Stop (cond e says.Command (cond f (says.Instance (before_assignment (first ∷ others))) says.Other))))))
  by_tests true b c d e f x = tt
  by_tests false true c d e f x = names_read others all.1
  by_tests false false true d e f x = tt
  by_tests false false false true e f x = tt
  by_tests false false false false true f x = tt
  by_tests false false false false false true x = (names_read (first ∷ others) all, begins_low first others _ (x refl))
  by_tests false false false false false false x = tt

meaning_read : (words : List (List ℕ)) → AllByRecursion IsReadWord words → IsReadStatement (meaning_of words)
meaning_read [] all = tt
meaning_read (first ∷ others) all =
    by_tests first others all (bytes_eq first (codes ".global") || bytes_eq first (codes ".include")) (bytes_eq first (codes ".subckt")) (bytes_eq first (codes ".ends"))
    (bytes_eq first (codes ".end")) (starts_with 46 first) (starts_with 120 first) (λ is. is)

pub statement_read : (text : List ℕ) → IsLineText text → IsReadStatement (statement_of text)
statement_read text h = at (starts_with 43 text) where
  at : (v : Bool) → IsReadStatement (cond v says.Continuation (meaning_of (words_of (lower text))))
  at true = tt
  at false = meaning_read (words_of (lower text)) (words_read text h)

-- a subcircuit that was read, but for its other lines
pub record IsReadInstance (i : Instance) : Type 0 where
  pub name : IsReadName i.name
  pub begins : starts_with 120 i.name ≡ true
  pub nodes : AllByRecursion IsReadName i.nodes
  pub refers : IsReadName i.of

pub record IsReadSubckt (s : Subckt) : Type 0 where
  pub name : IsReadName s.name
  pub ports : AllByRecursion IsReadName s.ports
  pub ports_once : has_repeat [] s.ports ≡ false
  pub instances : AllByRecursion IsReadInstance s.instances
  pub instances_once : has_repeat [] (map own_name s.instances) ≡ false

-- the subcircuit that hasn't ended has a new name
abbrev pub IsReadCurrent : List Subckt → Option BegunSubckt → Type 0
IsReadCurrent done None = Unit {0}
IsReadCurrent done (Some o) = IsReadSubckt o.subckt × (is_among o.subckt.name (map name_of done) ≡ false)

-- what the lines so far gave
pub record IsReadTo (current : Option BegunSubckt) (done : List Subckt) : Type 0 where
  pub subckts : AllByRecursion IsReadSubckt done
  pub once : has_repeat [] (map name_of done) ≡ false
  pub last : IsReadCurrent done current

abbrev pub IsReadSoFar : DeckSoFar → Type 0
IsReadSoFar r = IsReadTo r.current r.done

-- a name more, which is new
once_more : (x : List ℕ) (names seen : List (List ℕ)) → has_repeat seen names ≡ false → is_among x (seen ++ names) ≡ false → has_repeat seen (names ++ x ∷ []) ≡ false
once_more x [] seen once new = ap (λ v. cond v true false) (ap (is_among x) (sym (append-nil seen)) ∙ new)
once_more x (n ∷ names) seen once new =
    let parts = once_parts n seen names once in
    ap (λ v. cond v true (has_repeat (seen ++ n ∷ []) (names ++ x ∷ []))) parts.0
    ∙ once_more x names (seen ++ n ∷ []) parts.1 (ap (is_among x) (append_assoc seen (n ∷ []) names) ∙ new)

one_more : {X : Type 0} (P : X → Type 0) (xs : List X) (x : X) → AllByRecursion P xs → P x → AllByRecursion P (xs ++ x ∷ [])
one_more P [] x all h = (h, tt)
one_more P (y ∷ xs) x all h = (all.0, one_more P xs x all.1 h)

but_last_read : (words : List (List ℕ)) → AllByRecursion IsReadName words → AllByRecursion IsReadName (but_last words)
but_last_read [] all = tt
but_last_read (w ∷ []) all = tt
but_last_read (w ∷ next ∷ words) all = (all.0, but_last_read (next ∷ words) all.1)

last_read : (w : List ℕ) (words : List (List ℕ)) → AllByRecursion IsReadName (w ∷ words) → IsReadName (last_word w words)
last_read w [] all = all.0
last_read w (next ∷ words) all = last_read next words all.1

subckt_begun : (line : ℕ) (name : List ℕ) (ports : List (List ℕ)) → IsReadName name → AllByRecursion IsReadName ports → has_repeat [] ports ≡ false
    → IsReadSubckt (opened line name ports).subckt
subckt_begun line name ports n p once = record { name = n; ports = p; ports_once = once; instances = tt; instances_once = refl }

with_instance_read : (o : BegunSubckt) (i : Instance) → IsReadSubckt o.subckt → IsReadInstance i → is_among i.name (map own_name o.subckt.instances) ≡ false
    → IsReadSubckt (with_instance o i).subckt
with_instance_read o i h h_i new = record {
  name = h.name;
  ports = h.ports;
  ports_once = h.ports_once;
  instances = one_more IsReadInstance o.subckt.instances i h.instances h_i;
  instances_once =
      ap (has_repeat []) (map-append own_name o.subckt.instances (i ∷ []))
      ∙ once_more i.name (map own_name o.subckt.instances) [] h.instances_once new;
}

raw_read : (o : BegunSubckt) (text : List ℕ) → IsReadSubckt o.subckt → IsReadSubckt (kept_raw o text).subckt
raw_read o text h = record { name = h.name; ports = h.ports; ports_once = h.ports_once; instances = h.instances; instances_once = h.instances_once }

-- the subcircuit that hasn't ended becomes another of its name
module _ (done : List Subckt) (o : BegunSubckt) (h : IsReadTo (Some o) done) where
  goes_on : (other : BegunSubckt) → other.subckt.name ≡ o.subckt.name → IsReadSubckt other.subckt → IsReadTo (Some other) done
  goes_on other named is = record {
    subckts = h.subckts;
    once = h.once;
    last = (is, ap (λ (name : List ℕ). is_among name (map name_of done)) named ∙ h.last.1);
  }

  instance_read : (words : List (List ℕ)) (line : TextLine) (r2 : DeckSoFar) → AllByRecursion IsReadName words → BeginsLow words
      → map_ok (with_current (record { done = done; current = Some o })) (instance_added o line.number words) ≡ Ok r2 → IsReadSoFar r2
  instance_read [] line r2 all x is = absurd cc
  instance_read (name ∷ []) line r2 all x is = absurd cc
  instance_read (name ∷ w ∷ words) line r2 all x is =
      mapped_test IsReadSoFar (is_among name (map own_name o.subckt.instances)) (fault.Duplicate line.number) (record { done = done; current = Some o }) r2
      (with_instance o (instance_of name w words))
      (λ new. goes_on (with_instance o (instance_of name w words)) refl
      (with_instance_read o (instance_of name w words) h.last.0
      (record { name = all.0; begins = x; nodes = but_last_read (w ∷ words) all.1; refers = last_read w words all.1 }) new))
      is

  kept_read : (text : List ℕ) (r2 : DeckSoFar) → ok (record { done = done; current = Some (kept_raw o text) }) ≡ Ok r2 → IsReadSoFar r2
  kept_read text r2 is =
      passed IsReadSoFar (record { done = done; current = Some (kept_raw o text) }) r2 (goes_on (kept_raw o text) refl (raw_read o text h.last.0)) is

  ended_read : IsReadTo None (done ++ o.subckt ∷ [])
  ended_read = record {
    subckts = one_more IsReadSubckt done o.subckt h.subckts h.last.0;
    once = ap (has_repeat []) (map-append name_of done (o.subckt ∷ [])) ∙ once_more o.subckt.name (map name_of done) [] h.once h.last.1;
    last = tt;
  }

pub read_step : (current : Option BegunSubckt) (st : LineMeaning) (done : List Subckt) (line : TextLine) (r2 : DeckSoFar) → IsReadStatement st → IsReadTo current done
    → step (record { done = done; current = current }) line st ≡ Ok r2 → IsReadSoFar r2
read_step None says.Refused done line r2 w h is = absurd cc
read_step None (says.Begin []) done line r2 w h is = absurd cc
read_step None (says.Begin (name ∷ ports)) done line r2 w h is =
    two_tests IsReadSoFar (is_among name (map name_of done)) (has_repeat [] ports) (fault.Duplicate line.number)
    (record { done = done; current = Some (opened line.number name ports) }) r2
    (λ new once. record { subckts = h.subckts; once = h.once; last = (subckt_begun line.number name ports w.0 w.1 once, new) }) is
read_step None (says.End words) done line r2 w h is = absurd cc
read_step None says.Stop done line r2 w h is = passed IsReadSoFar (record { done = done; current = None }) r2 h is
read_step None says.Command done line r2 w h is = passed IsReadSoFar (record { done = done; current = None }) r2 h is
read_step None (says.Instance words) done line r2 w h is = absurd cc
read_step None says.Continuation done line r2 w h is = absurd cc
read_step None says.Other done line r2 w h is = absurd cc
read_step (Some o) says.Refused done line r2 w h is = absurd cc
read_step (Some o) (says.Begin words) done line r2 w h is = absurd cc
read_step (Some o) (says.End words) done line r2 w h is =
    one_pass IsReadSoFar (closed_by words o.subckt.name) (fault.Unclosed line.number) (record { done = done ++ o.subckt ∷ []; current = None }) r2 (ended_read done o h) is
read_step (Some o) says.Stop done line r2 w h is = kept_read done o h line.text r2 is
read_step (Some o) says.Command done line r2 w h is = kept_read done o h line.text r2 is
read_step (Some o) (says.Instance words) done line r2 w h is = instance_read done o h words line r2 w.0 w.1 is
read_step (Some o) says.Continuation done line r2 w h is = absurd cc
read_step (Some o) says.Other done line r2 w h is = kept_read done o h line.text r2 is
