-- A choice more.
use Rattle.std.proofs.Common.{w64, to_z, of_z, arith}
use Rattle.std.proofs.lemmas.Int.{to_z-of_z}
use Rattle.port_lists.proofs.TabulateLaws.{grown_as, all_of}
use Rattle.bank_layout.specs.BankTaps.{choice_tap}
use Rattle.bank_layout.proofs.taps.add_choice_taps.Goals as goal

pub loop-choice-preserved : goal.loop-choice-preserved
loop-choice-preserved c = grown_as _ _ _ _ c.loop-choice.choice (choice_tap c.args.wire.now (to_z w64 (of_z w64 c.args.low)) c.args.first c.args.tracks.now) c.loop-choice.invariant c.in_ok-push.ensures.items c.choice_tap.ensures

pub returns : goal.returns
returns c = all_of _ _ c.loop-choice.choice c.args.count (choice_tap c.args.wire.now c.args.low c.args.first c.args.tracks.now) (rw (to_z-of_z w64 c.args.low c.ranges.low) at c.loop-choice.invariant) (omega arith)
