use Rattle.std.proofs.Common.{◌*◌, length, sym}
use Rattle.gds_records.specs.declared.code.TheConstants.{XY}
use Rattle.gds_records.specs.Writing.{points_bytes}
use Rattle.gds_stream.proofs.WrittenValues.{points_length}
use Rattle.gds_stream.proofs.AppendLaws.{headed}
use Rattle.gds_stream.proofs.write.write_points.Goals as goal

pub returns : goal.returns
returns c =
    headed _ _ _ XY (8 * length c.args.points.now) (points_bytes c.args.points.now) (sym (points_length c.args.points.now))
    c.in_ok-append_head.ensures c.in_ok-append_points.ensures
