-- A technology has its tables or one first fault of them.
use Rattle.std.specs.Prelude.{◌≡◌, ◌≢◌}
use Rattle.tech_rules.specs.declared.tech.Tech.{Tech}
use Rattle.role_tables.specs.declared.fault.TableFault.{TableFault}
use Rattle.role_tables.specs.declared.fault.TableFault.TheVariants.{Memory}
use Rattle.role_tables.specs.Table.{HasTables}
use Rattle.role_tables.specs.Fault.{IsTableFault}

-- two faults of the tables are one, out of memory aside
abbrev pub TableFaultsAreUnique : Type 0
TableFaultsAreUnique = (tech : Tech) (f g : TableFault)
    → f ≢ Memory → g ≢ Memory → IsTableFault tech f → IsTableFault tech g → f ≡ g

-- and there is none where each role has its table
abbrev pub TableFaultsExcludeTables : Type 0
TableFaultsExcludeTables = (tech : Tech) (f : TableFault) → f ≢ Memory → IsTableFault tech f → HasTables tech → ⊥
