-- What can be written, as tests.
use Rattle.std.specs.Prelude.{ℕ, List, [], ◌∷◌, Bool, true, false, ◌&&◌, ◌||◌, not, nat_le, ◌==◌, map}
use Rattle.std.specs.List.{list_all}
use Rattle.netlist.specs.declared.deck.Subckt.{Subckt}
use Rattle.netlist.specs.declared.deck.Instance.{Instance}
use Rattle.spice_text.specs.Words.{is_nonempty, lower}
use Rattle.spice_text.specs.Subcircuits.{has_repeat}
use Rattle.spice_text.specs.Writable.{instance_name, subckt_name}

abbrev pub is_name_byte : ℕ → Bool
is_name_byte b = nat_le 33 b && (nat_le b 126 && not (b == 61))

abbrev pub is_name : List ℕ → Bool
is_name name = is_nonempty name && list_all is_name_byte name

abbrev pub begins_with_x : List ℕ → Bool
begins_with_x [] = false
begins_with_x (b ∷ bytes) = (b == 120) || (b == 88)

abbrev pub is_instance : Instance → Bool
is_instance i = is_name i.name && (begins_with_x i.name && (list_all is_name i.nodes && is_name i.of))

abbrev pub is_empty : List (List ℕ) → Bool
is_empty [] = true
is_empty (line ∷ lines) = false

-- it has no other lines, and its names are names
abbrev pub has_only_names : Subckt → Bool
has_only_names s = is_empty s.raw && (is_name s.name && (list_all is_name s.ports && list_all is_instance s.instances))

abbrev pub is_writable : Subckt → Bool
is_writable s = has_only_names s && (not (has_repeat [] (map lower s.ports)) && not (has_repeat [] (map instance_name s.instances)))

abbrev pub are_writable : List Subckt → Bool
are_writable subckts = list_all is_writable subckts && not (has_repeat [] (map subckt_name subckts))
