use Rattle.std.proofs.Common.{◌≡◌, ◌∙◌, List, ℕ, Some, sym, subst}
use Rattle.netlist.specs.declared.deck.Subckt.{Subckt}
use Rattle.spice_text.specs.Words.{lower}
use Rattle.leaf_tables.specs.Leaves.{subckt_named}
use Rattle.leaf_tables.proofs.leaf.check_ports.Goals as goal

pub returns-clause-fault : goal.returns-clause-fault
returns-clause-fault c =
    let s = c.in-Some.subckt.now in (
      c.in-Ok-role_text.ensures,
      record {
        subckt = s;
        there = subst (λ (subckts : List Subckt). subckt_named subckts (lower c.args.cell.now) ≡ Some s) c.as_slice.ensures
            (subst (λ (name : List ℕ). subckt_named c.as_slice.result.now name ≡ Some s) c.in-Ok.ensures (sym c.in-Some.ensures));
        differ = λ e. let same = c.if-are_ports.ensures.1 (c.as_slice-2.ensures ∙ (e ∙ sym c.ports.ensures)) in absurd cc;
      },
    )
