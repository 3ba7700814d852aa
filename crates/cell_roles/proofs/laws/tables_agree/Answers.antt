use Rattle.std.proofs.Common.{refl}
use Rattle.cell_roles.specs.declared.role.Role.TheVariants.{Bitcell, Precharge, Mux, Tie, Sense, Write, RowNand2, RowNand3, Driver, Nand2, Nand3, Inv, Dff, Delay}
use Rattle.cell_roles.proofs.laws.tables_agree.Goals as goal

pub returns : goal.returns
returns c Bitcell = refl
returns c Precharge = refl
returns c Mux = refl
returns c Tie = refl
returns c Sense = refl
returns c Write = refl
returns c RowNand2 = refl
returns c RowNand3 = refl
returns c Driver = refl
returns c Nand2 = refl
returns c Nand3 = refl
returns c Inv = refl
returns c Dff = refl
returns c Delay = refl
