-- The zone of a bank's instance, and where it lies in a small memory.
use Rattle.std.specs.Prelude.{◌≡◌, ◌⊎◌, ℕ, ◌+◌, ◌*◌, ℤ, pos, ◌+ℤ◌, ◌≤ℤ◌}
use Rattle.sram_netlist.specs.Organization.{columns_of, words_per_row}
use Rattle.macro_layout.specs.Places.{Floorplan, bank_x, columns_x}
use Rattle.good_places.specs.Leaves.{Zone}
use Rattle.kit_nets.specs.StatedParts.{Source}
use Rattle.seen_pairs.specs.Counterpart.{right_by}

-- So far right, the zone of bank b lies in the other memory's bank. It is the bank's first part, or at least a unit behind the beginning of its columns; and as far from
-- the end of the bank as here, or at least two units.
pub record IsZoneAnchored (s : Source) (g : Floorplan) (word : ℕ) (b m unit : ℕ) (zone : Zone) (dx : ℤ) : Type 0 where
  pub dx_is : dx ≡ right_by s.plan s.kit s.floorplan g b m
  pub from : bank_x s.floorplan b s.floorplan.row_x ≤ℤ zone.left
  pub to : zone.right ≤ℤ bank_x s.floorplan b s.floorplan.bank_width
  pub from_there : bank_x g b g.row_x ≤ℤ (zone.left +ℤ dx)
  pub to_there : (zone.right +ℤ dx) ≤ℤ bank_x g b g.bank_width
  pub left : (m ≡ 0) ⊎ ((bank_x g b (columns_x s.plan s.kit g) +ℤ pos unit) ≤ℤ (zone.left +ℤ dx))
  pub right : (columns_of s.plan ≡ word * words_per_row s.plan + m * words_per_row s.plan) ⊎ (((zone.right +ℤ dx) +ℤ (pos unit +ℤ pos unit)) ≤ℤ bank_x g b g.bank_width)
