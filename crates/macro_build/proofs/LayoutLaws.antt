-- The layout that is written is the stated one, and its view covers it.
use Rattle.std.proofs.Common.{◌≡◌, ℕ, ◌≤◌, ◌^◌, List, length, Some, sym, subst, ◌∙◌}
use Rattle.std.specs.Prelude.{slice_index}
use Rattle.std.proofs.lemmas.Option.{same_Some}
use Rattle.gds_library.specs.Grammar.{Spells}
use Rattle.gds_stream.specs.Turned.{turned_library}
use Rattle.written_layout.specs.SameFlat.{WritingKeepsFlat}
use Rattle.tech_rules.specs.declared.tech.Wire.{Wire}
use Rattle.sram_netlist.specs.Numbers.{ArePlanNumbers}
use Rattle.sram_plan.specs.declared.numbers.Plan.{Plan}
use Rattle.sram_plan.specs.PlanNumbers.{numbers_of, organization}
use Rattle.sram_rows.specs.Rows.{RowsEqualNetlist}
use Rattle.leaf_tables.specs.declared.kit.Kit.{Kit}
use Rattle.leaf_tables.specs.Kits.{IsKit}
use Rattle.port_lists.specs.Held.{Held}
use Rattle.port_lists.specs.Held.Held.{Stored, Fixed}
use Rattle.sram_macro.specs.declared.assembly.Macro.{Macro}
use Rattle.sram_macro.specs.Leaves.{HasCellsFor, IsHeld}
use Rattle.sram_macro.specs.Macro.{IsMacro, macro_bits}
use Rattle.sram_macro.specs.Stated.{MacrosAreStated}
use Rattle.view_cover.specs.Bits.{AreBitsInside}
use Rattle.view_cover.specs.Cover.{LefCoversLayout}
use Rattle.view_cover.proofs.BitLaws.{fixed_inside, stored_inside}
use Rattle.macro_build.specs.Built.{IsSoundMacro}
use Rattle.macro_build.specs.Written.{SpellCoveredLayout, SpellSoundLayout}
use Rattle.sram_macro.proofs.MemoryLaws.{netlist_of}

-- what the bytes spell is flat as the macro that was checked, which is the stated layout
pub spells_sound : WritingKeepsFlat → MacrosAreStated → RowsEqualNetlist → (kit : Kit) (plan : Plan) (held : Held) (name : List ℕ) (m : Macro) (bytes : List ℕ) → IsKit kit → ArePlanNumbers (numbers_of plan) → IsHeld kit plan held → IsSoundMacro kit plan held name m
    → length bytes ≤ 2 ^ 64 → Spells bytes (turned_library m.lib) → SpellSoundLayout kit plan held name bytes
spells_sound keeps stated law kit plan held name m bytes is_kit numbers is_held s few spelled = record {
  some = (turned_library m.lib, spelled);
  each = λ lib is.
      let same = keeps kit.tech.layers m.lib lib bytes name s.clean.is.writable few spelled is in
      record {
        lists = s.lists;
        flat = (same.lists s.lists).1 s.clean.flat;
        stated = (stated kit plan held name m is_kit numbers is_held s.clean.is s.lists s.clean.flat).stated;
        clean = s.clean.reported;
        labels = s.labels;
        nets = s.are.nets;
        rows = s.rows;
        netlist = (netlist_of law kit plan held name m numbers s.clean.is).rows s.rows s.are.netlist;
        alike = s.alike;
      };
}

-- the cells of its bits stand in the places of bitcells
bits_inside : (kit : Kit) (wire : Wire) (plan : Plan) (held : Held) → IsKit kit → kit.tech.wire ≡ Some wire → HasCellsFor kit held → AreBitsInside kit wire (organization plan) (macro_bits kit plan held)
bits_inside kit wire plan Stored k wired cells = stored_inside kit wire (organization plan) k wired
bits_inside kit wire plan (Fixed words) k wired cells = fixed_inside kit wire (organization plan) words k wired cells

-- and the boxes of its view cover it
pub spells_covered : WritingKeepsFlat → MacrosAreStated → LefCoversLayout → (kit : Kit) (plan : Plan) (held : Held) (name : List ℕ) (m : Macro) (bytes : List ℕ) → IsKit kit → ArePlanNumbers (numbers_of plan) → IsHeld kit plan held → IsMacro kit plan held name m
    → length bytes ≤ 2 ^ 64 → Spells bytes (turned_library m.lib) → SpellCoveredLayout kit name m.view bytes
spells_covered keeps stated covers kit plan held name m bytes is_kit numbers is_held is few spelled lib lists read flat wire metal s wired below on there =
    let same = keeps kit.tech.layers m.lib lib bytes name is.writable few spelled read in
    let viewed = stated kit plan held name m is_kit numbers is_held is lists ((same.lists lists).0 flat) in
    let at = viewed.stated in
    let one = same_Some wire at.wire (sym wired ∙ at.wired) in
    covers kit at.wire (organization plan) (macro_bits kit plan held) at.tracks at.floorplan m.view is_kit at.wired (bits_inside kit at.wire plan held is_kit at.wired is_held.cells) viewed.wide at.stands viewed.view_of metal s below
    (subst (λ (w : Wire). s.layer ≡ slice_index w.metals metal) one on) ((at.are.shapes s).0 there)
