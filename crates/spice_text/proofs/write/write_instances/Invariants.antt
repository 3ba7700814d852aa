use Rattle.std.proofs.Common.{◌≡◌, ◌++◌, drop}
use Rattle.std.specs.Prelude.{flat_map}
use Rattle.spice_text.specs.WrittenText.{instance_text}
use Rattle.spice_text.proofs.write.write_instances.Given as goal

abbrev pub invariant-loop-instance : goal.invariant-loop-instance
invariant-loop-instance l = record {
  text : l.writer.text.items ++ flat_map instance_text (drop l.instance-index l.instances) ≡ l.initial.writer.text.items ++ flat_map instance_text l.instances;
  begun : l.writer.count ≡ 0;
}
