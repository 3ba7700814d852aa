-- A kit has one answer.
use Rattle.std.proofs.Common.{◌≡◌, Option, Some, None, refl, sym, ap, ◌∙◌}
use Rattle.leaf_tables.specs.declared.kit.Kit.{Kit}
use Rattle.kit_check.specs.declared.weak.Weak.{Weak}
use Rattle.kit_check.specs.Good.{IsWeakness}
use Rattle.command_steps.specs.Once.{IsOnce}
use Rattle.command_steps.proofs.OnceLaws.{on_gives}
use Rattle.macro_maker.specs.Assembled.{IsAssembled}
use Rattle.kit_command.specs.WeakLines.{weak_reply, IsKitReplied, IsKitAnswered}

-- what is found is what exactly that is
one_weakness : (kit : Kit) (found other : Option Weak) → IsWeakness IsAssembled kit found → IsWeakness IsAssembled kit other → found ≡ other
one_weakness kit None other p q = sym (q.none.1 (p.none.0 refl))
one_weakness kit (Some weak) other p q = sym ((q.some weak).1 ((p.some weak).0 refl))

pub on_kit_answered : (kit : Kit) → IsOnce (IsKitAnswered kit)
on_kit_answered kit = on_gives (IsKitReplied kit) (λ a b p q. p.2 ∙ (ap weak_reply (one_weakness kit p.0 q.0 p.1 q.1) ∙ sym q.2))
