-- The words of a row are those of the organisation.
use Rattle.std.proofs.Common.{◌∷◌, ℕ, ◌/◌, ◌%◌, ap, ◌∙◌}
use Rattle.std.specs.Prelude.{codes}
use Rattle.cell_roles.specs.Roles.{supplies}
use Rattle.cell_roles.specs.declared.role.Role.TheVariants.{Mux}
use Rattle.sram_netlist.specs.Names.{with_number}
use Rattle.sram_plan.specs.PlanNumbers.{numbers_of}
use Rattle.sram_deck.specs.Deck.{subckt_instance}
use Rattle.port_lists.specs.Cells.{cell_in}
use Rattle.port_lists.proofs.NumberLaws.{words_are}
use Rattle.port_data.proofs.subckt.multiplexer.Goals as goal

pub returns : goal.returns
returns c =
    c.in_ok-leaf_instance.ensures
    ∙ ap (λ (words : ℕ). subckt_instance (with_number (codes "xm") c.args.column)
    (with_number (codes "bl") c.args.column ∷ with_number (codes "br") c.args.column ∷ with_number (codes "lo") (c.args.column / words) ∷ with_number (codes "ro") (c.args.column / words)
    ∷ with_number (codes "sel") (c.args.column % words) ∷ supplies) (cell_in c.args.roles.now Mux))
    (words_are (numbers_of c.args.plan.now) c.requires)
