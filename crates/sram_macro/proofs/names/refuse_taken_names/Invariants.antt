use Rattle.std.proofs.Common.{◌≡◌, length}
use Rattle.port_lists.specs.Held.{held_of}
use Rattle.sram_macro.specs.Macro.{names_of_macro}
use Rattle.sram_macro.specs.Names.{first_taken}
use Rattle.sram_macro.proofs.names.refuse_taken_names.Given as goal

-- none of the names before is taken
abbrev pub invariant-loop-first : goal.invariant-loop-first
invariant-loop-first l = first_taken l.kit (names_of_macro l.kit l.plan (held_of l.contents) l.name) ≡ first_taken l.kit l.rest

abbrev pub decreases-loop-first : goal.decreases-loop-first
decreases-loop-first l = length l.rest
