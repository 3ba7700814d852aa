use Rattle.std.proofs.Common.{[], ◌∷◌}
use Rattle.gds_records.specs.declared.code.TheConstants.{STRANS, ANGLE}
use Rattle.gds_records.specs.Writing.{record_with}
use Rattle.gds_stream.proofs.AppendLaws.{one_added, one_more_added}
use Rattle.gds_stream.proofs.write.write_turn.Goals as goal

pub returns : goal.returns
returns c =
    one_more_added _ _ _ (record_with STRANS c.args.strans ∷ []) (record_with ANGLE c.args.angle)
    (one_added _ _ (record_with STRANS c.args.strans) c.in_ok-append_record.ensures) c.in_ok-append_record-2.ensures
