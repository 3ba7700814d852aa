use Rattle.std.proofs.Common.{◌≡◌, ◌++◌}
use Rattle.std.specs.Prelude.{flat_map}
use Rattle.std.specs.List.{range_with_len}
use Rattle.macro_views.specs.Verilog.{mask_text}
use Rattle.macro_views.proofs.verilog.write_masks.Given as goal

abbrev pub invariant-loop-mask : goal.invariant-loop-mask
invariant-loop-mask l = l.out.items ≡ l.initial.out.items ++ flat_map (mask_text l.plan.write_size) (range_with_len 0 l.mask)
