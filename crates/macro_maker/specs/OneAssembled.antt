-- A kit and a plan have one such answer under a name.
use Rattle.std.specs.Prelude.{◌≡◌, ℕ, List, Result, Ok, Err}
use Rattle.std.proofs.Common.{sym, ap, ◌∙◌}
use Rattle.gds_library.specs.declared.library.Library.{Library}
use Rattle.netlist.specs.declared.deck.Deck.{Deck}
use Rattle.leaf_tables.specs.declared.kit.Kit.{Kit}
use Rattle.leaf_tables.specs.declared.part.PartFault.{PartFault}
use Rattle.leaf_tables.specs.Kits.{IsKit}
use Rattle.port_lists.specs.Held.Held.{Stored}
use Rattle.sram_plan.specs.declared.numbers.Plan.{Plan}
use Rattle.sram_macro.specs.declared.assembly.Macro.{Macro}
use Rattle.macro_laws.proofs.OneMacroLaws.{one_macro}
use Rattle.macro_laws.proofs.OnePartLaws.{one_part_fault, no_part_fault}
use Rattle.macro_maker.specs.Assembled.{IsAssembled}

pub one_assembled : (kit : Kit) (plan : Plan) (name : List ℕ) (a b : Result (Library × Deck) PartFault) → IsKit kit → IsAssembled kit plan name a → IsAssembled kit plan name b → a ≡ b
one_assembled kit plan name (Ok a) (Ok b) is p q =
    let same : p.0 ≡ q.0 = one_macro kit plan Stored name p.0 q.0 is p.1 q.1 in
    ap (λ (made : Library × Deck). Ok made) (p.2 ∙ (ap (λ (m : Macro). (m.lib, m.deck)) same ∙ sym q.2))
one_assembled kit plan name (Ok a) (Err g) is p q = absurd (no_part_fault kit plan Stored name g p.0 is q.0 q.1 p.1)
one_assembled kit plan name (Err f) (Ok b) is p q = absurd (no_part_fault kit plan Stored name f q.0 is p.0 p.1 q.1)
one_assembled kit plan name (Err f) (Err g) is p q = ap (λ (fault : PartFault). Err fault) (one_part_fault kit plan Stored name f g is p.0 q.0 p.1 q.1)
