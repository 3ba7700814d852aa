-- What the reader's own types stand for.
use Rattle.std.specs.Prelude.{◌≡◌, ℕ, List, ◌∷◌, Bool, false, if◌then◌else◌, map, Option, Some, None, IfSome, codes, ◌||◌}
use Rattle.netlist.specs.declared.deck.Deck.{Deck}
use Rattle.std.specs.Str.{bytes_eq}
use Rattle.spice_text.specs.declared.statement.Keyword.{Keyword}
use Rattle.spice_text.specs.declared.statement.Keyword.TheVariants as word
use Rattle.spice_text.specs.declared.statement.Statement.{Statement}
use Rattle.spice_text.specs.declared.statement.Statement.TheVariants as read
use Rattle.spice_text.specs.declared.subcircuit.OpenSubckt.{OpenSubckt}
use Rattle.spice_text.specs.declared.subcircuit.Reading.{Reading}
use Rattle.spice_text.specs.LogicalLines.{starts_with}
use Rattle.spice_text.specs.Words.{is_among}
use Rattle.spice_text.specs.Statements.{LineMeaning}
use Rattle.spice_text.specs.Statements as says
use Rattle.spice_text.specs.Subcircuits.{BegunSubckt, DeckSoFar, name_of, own_name, closed_by, with_closed}

-- what a statement says
abbrev pub said : Statement → LineMeaning
said read.Refused = says.Refused
said (read.Begin words) = says.Begin words
said (read.End words) = says.End words
said read.Stop = says.Stop
said read.Command = says.Command
said (read.Instance words) = says.Instance words
said read.Continuation = says.Continuation
said read.Other = says.Other

-- the kind of a first word
abbrev pub keyword_of : List ℕ → Keyword
keyword_of first =
    if bytes_eq first (codes ".global") || bytes_eq first (codes ".include") then word.Refused else (
    if bytes_eq first (codes ".subckt") then word.Subckt else (
    if bytes_eq first (codes ".ends") then word.Ends else (
    if bytes_eq first (codes ".end") then word.End else (
    if starts_with 46 first then word.Command else (
    if starts_with 120 first then word.Instance else word.Other)))))

abbrev pub begun_of : OpenSubckt → BegunSubckt
begun_of o = record { line = o.line; subckt = o.subckt }

abbrev pub current_of : Option OpenSubckt → Option BegunSubckt
current_of None = None
current_of (Some o) = Some (begun_of o)

abbrev pub so_far : Reading → DeckSoFar
so_far r = record { done = r.done; current = current_of r.current }

-- the deck of what was read, where the text ends after so many bytes
abbrev pub deck_of : Reading → ℕ → Deck
deck_of r used = record { subckts = r.done; used = used }

-- whether an `.ENDS` with these words behind it ends the open subcircuit
abbrev pub is_ended_by : Option BegunSubckt → List (List ℕ) → Bool
is_ended_by None words = false
is_ended_by (Some o) words = closed_by words o.subckt.name

abbrev pub closed_at : Option BegunSubckt → DeckSoFar → DeckSoFar
closed_at None d = d
closed_at (Some o) d = with_closed d o

-- the open subcircuit, where there is one, is done
abbrev pub closed : DeckSoFar → DeckSoFar
closed d = closed_at d.current d

-- the set of an open subcircuit has the names of its instances
abbrev pub HasInstanceNames : OpenSubckt → Type 0
HasInstanceNames o = o.instances ≡ map own_name o.subckt.instances

-- the sets have the names of what was read
pub record HasNames (r : Reading) : Type 0 where
  pub done : (name : List ℕ) → is_among name r.names ≡ is_among name (map name_of r.done)
  pub current : IfSome r.current HasInstanceNames
