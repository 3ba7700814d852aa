-- What a maker answers that gives up on macros of more than 32 rows.
use Rattle.std.specs.Prelude.{◌≡◌, ◌⊎◌, ◌<◌, ◌≤◌, ℕ, List, Result, Err, codes}
use Rattle.std.proofs.Common.{inl, inr, sym, ◌∙◌, arith}
use Rattle.gds_library.specs.declared.library.Library.{Library}
use Rattle.netlist.specs.declared.deck.Deck.{Deck}
use Rattle.leaf_tables.specs.declared.kit.Kit.{Kit}
use Rattle.leaf_tables.specs.declared.part.PartFault.{PartFault}
use Rattle.leaf_tables.specs.declared.part.PartFault.TheVariants as part_fault
use Rattle.leaf_tables.specs.Kits.{IsKit}
use Rattle.sram_plan.specs.declared.numbers.Plan.{Plan}
use Rattle.macro_maker.specs.Assembled.{IsAssembled}
use Rattle.macro_maker.specs.OneAssembled.{one_assembled}

-- an answer of this kind
abbrev pub Made : Type 0
Made = Result (Library × Deck) PartFault

-- up to 32 rows what is assembled, and above that the sense cell is too wide
abbrev pub IsShortAnswer : Kit → Plan → List ℕ → Made → Type 0
IsShortAnswer kit plan name answer = ((plan.rows ≤ 32) × IsAssembled kit plan name answer) ⊎ ((32 < plan.rows) × (answer ≡ Err (part_fault.SliceTooNarrow (codes "sense"))))

pub one_short_answer : (kit : Kit) (plan : Plan) (name : List ℕ) (a b : Made) → IsKit kit → IsShortAnswer kit plan name a → IsShortAnswer kit plan name b → a ≡ b
one_short_answer kit plan name a b is (inl (few, p)) (inl (also, q)) = one_assembled kit plan name a b is p q
one_short_answer kit plan name a b is (inl (few, p)) (inr (many, q)) = absurd (omega (arith, few, many))
one_short_answer kit plan name a b is (inr (many, p)) (inl (few, q)) = absurd (omega (arith, few, many))
one_short_answer kit plan name a b is (inr (many, p)) (inr (also, q)) = p ∙ sym q
