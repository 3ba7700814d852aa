-- How names are spelled.
use Rattle.std.specs.Prelude.{ℕ, List}
use Rattle.sram_netlist.specs.Names.{with_number, with_numbers, with_index}
use Rattle.port_lists.specs.declared.names.Spelling.{Spelling}
use Rattle.port_lists.specs.declared.names.Spelling.TheVariants.{Word, Numbered, NumberedTwice, Indexed}

abbrev pub spelled : Spelling → List ℕ
spelled (Word text) = text.now
spelled (Numbered letters number) = with_number letters.now number
spelled (NumberedTwice letters first second) = with_numbers letters.now first second
spelled (Indexed letters index) = with_index letters.now index
