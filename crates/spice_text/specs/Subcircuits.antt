-- Subcircuits as they are read line by line.
use Rattle.std.specs.Prelude.{ℕ, List, [], ◌∷◌, ◌++◌, Bool, true, false, if◌then◌else◌, map, Option, Some, None, Result, Ok, Err}
use Rattle.std.specs.Str.{bytes_eq}
use Rattle.netlist.specs.declared.deck.Instance.{Instance}
use Rattle.netlist.specs.declared.deck.Subckt.{Subckt}
use Rattle.spice_text.specs.declared.fault.SpiceFault.{SpiceFault}
use Rattle.spice_text.specs.declared.fault.SpiceFault.TheVariants as fault
use Rattle.spice_text.specs.Words.{is_among, but_last, last_word}

-- a subcircuit that has begun, and the number of the line with its `.SUBCKT`
pub record BegunSubckt : Type 0 where
  pub line : ℕ
  pub subckt : Subckt

-- the subcircuits of the lines so far: those that have ended, and the one that hasn't
pub record DeckSoFar : Type 0 where
  pub done : List Subckt
  pub current : Option BegunSubckt

abbrev pub name_of : Subckt → List ℕ
name_of s = s.name

abbrev pub own_name : Instance → List ℕ
own_name i = i.name

-- a name stands among those before it or among the ones seen
abbrev pub has_repeat : List (List ℕ) → List (List ℕ) → Bool
has_repeat seen [] = false
has_repeat seen (name ∷ names) = if is_among name seen then true else has_repeat (seen ++ name ∷ []) names

abbrev pub opened : ℕ → List ℕ → List (List ℕ) → BegunSubckt
opened line name ports = record { line = line; subckt = record { name = name; ports = ports; instances = []; raw = [] } }

-- a `.SUBCKT` with these words behind it, after these subcircuits
abbrev pub begun : List Subckt → ℕ → List (List ℕ) → Result DeckSoFar SpiceFault
begun done line [] = Err (fault.BadLine line)
begun done line (name ∷ ports) =
    if is_among name (map name_of done) then Err (fault.Duplicate line) else (
    if has_repeat [] ports then Err (fault.Duplicate line) else Ok (record { done = done; current = Some (opened line name ports) }))

abbrev pub instance_of : List ℕ → List ℕ → List (List ℕ) → Instance
instance_of name word words = record { name = name; nodes = but_last (word ∷ words); of = last_word word words }

abbrev pub with_instance : BegunSubckt → Instance → BegunSubckt
with_instance o instance = record {
  line = o.line;
  subckt = record { name = o.subckt.name; ports = o.subckt.ports; instances = o.subckt.instances ++ instance ∷ []; raw = o.subckt.raw };
}

-- an instance with these words: its name, its nodes, and the name of its subcircuit
abbrev pub instance_added : BegunSubckt → ℕ → List (List ℕ) → Result BegunSubckt SpiceFault
instance_added o line [] = Err (fault.BadLine line)
instance_added o line (name ∷ []) = Err (fault.BadLine line)
instance_added o line (name ∷ word ∷ words) =
    if is_among name (map own_name o.subckt.instances) then Err (fault.Duplicate line) else Ok (with_instance o (instance_of name word words))

-- a line that is kept as it stands
abbrev pub kept_raw : BegunSubckt → List ℕ → BegunSubckt
kept_raw o text = record {
  line = o.line;
  subckt = record { name = o.subckt.name; ports = o.subckt.ports; instances = o.subckt.instances; raw = o.subckt.raw ++ text ∷ [] };
}

-- an `.ENDS` with these words behind it ends the subcircuit of this name
abbrev pub closed_by : List (List ℕ) → List ℕ → Bool
closed_by [] name = true
closed_by (word ∷ words) name = bytes_eq word name

abbrev pub with_current : DeckSoFar → BegunSubckt → DeckSoFar
with_current d o = record { done = d.done; current = Some o }

abbrev pub with_closed : DeckSoFar → BegunSubckt → DeckSoFar
with_closed d o = record { done = d.done ++ o.subckt ∷ []; current = None }

abbrev pub map_ok : {X Y : Type 0} → (X → Y) → Result X SpiceFault → Result Y SpiceFault
map_ok f (Ok x) = Ok (f x)
map_ok f (Err e) = Err e
