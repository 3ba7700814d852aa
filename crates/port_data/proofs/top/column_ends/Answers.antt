-- Those of a tie, or of a multiplexer.
use Rattle.std.proofs.Common.{◌∙◌}
use Rattle.port_data.proofs.PortLaws.{tie_bl, tie_br, mux_blo, mux_bro}
use Rattle.port_data.proofs.FormulaLaws.{kept, ends_of_ties, ends_of_muxes}
use Rattle.port_data.proofs.top.column_ends.Goals as goal

pub returns-then-col_bits-eq0-clause-is : goal.returns-then-col_bits-eq0-clause-is
returns-then-col_bits-eq0-clause-is c = ends_of_ties c.args.col_bits _ _ _ c.if-col_bits-eq0.true (kept c.pin_left.result c.pin_left.ensures.near ∙ c.pin_left.ensures.is 0 3 tie_bl) (kept c.pin_left-then-col_bits-eq0.result c.pin_left-then-col_bits-eq0.ensures.near ∙ c.pin_left-then-col_bits-eq0.ensures.is 1 3 tie_br)

pub returns-clause-is : goal.returns-clause-is
returns-clause-is c = ends_of_muxes c.args.col_bits _ _ _ c.if-col_bits-eq0.false (kept c.pin_left-2.result c.pin_left-2.ensures.near ∙ c.pin_left-2.ensures.is 2 3 mux_blo) (kept c.pin_left-3.result c.pin_left-3.ensures.near ∙ c.pin_left-3.ensures.is 3 3 mux_bro)
