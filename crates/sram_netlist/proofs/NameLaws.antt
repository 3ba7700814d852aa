-- The nets of leaf instances have names of their own.
use Rattle.sram_netlist.specs.Nets.{Control, Din, D, WlenB, WlenAt, SenB, SenAt, WenB, WenAt, Lo, Ro}
use Rattle.sram_netlist.specs.Netlist.{enable_count}
use Rattle.sram_netlist.specs.Laws.{NetsNamed}
use Rattle.sram_netlist.proofs.Bounds.{written_fits}

pub nets_named : NetsNamed
nets_named plan (Control s) h = tt
nets_named plan (Din i) h = written_fits plan.write_size plan.word_size i h
nets_named plan (D i) h = written_fits plan.write_size plan.word_size i h
nets_named plan (WlenB b) h = h.0
nets_named plan (WlenAt b) h = h.0
nets_named plan (SenB b) h = h.0
nets_named plan (SenAt b) h = h.0
nets_named plan (WenB b m) h = (h.0.0, written_fits plan.write_size (enable_count plan.masks) m h.0.1)
nets_named plan (WenAt b m) h = (h.0.0, written_fits plan.write_size (enable_count plan.masks) m h.0.1)
nets_named plan (Lo b i) h = (h.0, h.1.0)
nets_named plan (Ro b i) h = (h.0, h.1.0)
nets_named plan x h = h
