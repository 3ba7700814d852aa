use Rattle.std.proofs.Common.{arith, ℤ, subst, sym}
use Rattle.std.specs.Int.{w16}
use Rattle.std.proofs.lemmas.Int.{ints, to_z-of_z}
use Rattle.gds_records.specs.Values.{IsShort}
use Rattle.gds_library.specs.Values.{displaced}
use Rattle.gds_stream.proofs.writable.is_array.Goals as goal

pub returns : goal.returns
returns c =
    let columns = to_z-of_z w16 c.args.columns c.ranges.columns in
    let rows = to_z-of_z w16 c.args.rows c.ranges.rows in (
      λ yes. record {
        some_columns = omega (arith, ints);
        few_columns = omega (arith, ints);
        some_rows = omega (arith, ints);
        few_rows = omega (arith, ints);
        at = c.is_short.ensures.0 c.if-not-is_short.false;
        by_columns =
            subst (λ (n : ℤ). IsShort (displaced c.args.place.at n c.args.across)) columns
            (c.is_displaced_short.ensures.0 c.if-not-is_displaced_short.false);
        by_rows =
            subst (λ (n : ℤ). IsShort (displaced c.args.place.at n c.args.down)) rows
            (c.is_displaced_short-2.ensures.0 yes);
      },
      λ w. c.is_displaced_short-2.ensures.1
          (subst (λ (n : ℤ). IsShort (displaced c.args.place.at n c.args.down)) (sym rows) w.by_rows),
    )
