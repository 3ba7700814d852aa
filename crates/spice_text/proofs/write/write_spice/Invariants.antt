use Rattle.std.proofs.Common.{◌≡◌, ◌++◌, drop}
use Rattle.std.specs.Prelude.{flat_map}
use Rattle.spice_text.specs.WrittenText.{subckt_text, deck_text}
use Rattle.spice_text.proofs.write.write_spice.Given as goal

abbrev pub invariant-loop-subckt : goal.invariant-loop-subckt
invariant-loop-subckt l = record {
  text : l.writer.text.items ++ flat_map subckt_text (drop l.subckt-index l.subckts) ≡ deck_text l.subckts;
  begun : l.writer.count ≡ 0;
}
