-- What is answered of a kit: the line of its first weakness, or no line where it is good.
use Rattle.std.specs.Prelude.{◌≡◌, ℕ, List, [], ◌∷◌, Option, Some, None, Result, codes}
use Rattle.std.specs.Fmt.{decimal, signed_decimal}
use Rattle.leaf_tables.specs.declared.kit.Kit.{Kit}
use Rattle.kit_check.specs.declared.weak.Weak.{Weak}
use Rattle.kit_check.specs.declared.weak.Weak.TheVariants.{Layer, Joint, Reach, Pin, Window}
use Rattle.kit_check.specs.Good.{IsWeakness}
use Rattle.reply_lines.specs.declared.refusal.Refusal.{Refusal}
use Rattle.reply_lines.specs.declared.reply.Reply.{Reply}
use Rattle.reply_lines.specs.Lines.{reply_line}
use Rattle.command_steps.specs.Outcome.{WithoutRefusal}
use Rattle.macro_maker.specs.Assembled.{IsAssembled}

-- `Weak`, what the kit is weak in, and its fields in order
abbrev pub weak_words : Weak → List (List ℕ)
weak_words (Layer rule) = codes "Weak" ∷ (codes "Layer" ∷ (decimal rule ∷ []))
weak_words (Joint connect) = codes "Weak" ∷ (codes "Joint" ∷ (decimal connect ∷ []))
weak_words (Reach reach) = codes "Weak" ∷ (codes "Reach" ∷ (signed_decimal reach ∷ []))
weak_words (Pin role pin) = codes "Weak" ∷ (codes "Pin" ∷ (role ∷ (pin ∷ [])))
weak_words (Window word_size write_size wpr rows banks fault) =
    codes "Weak" ∷ (codes "Window" ∷ (decimal word_size ∷ (decimal write_size ∷ (decimal wpr ∷ (decimal rows ∷ (decimal banks ∷ (decimal fault ∷ [])))))))

-- status 0 and nothing where there is none, else status 1 and its line
abbrev pub weak_reply : Option Weak → Reply
weak_reply None = record { status = 0; lines = [] }
weak_reply (Some weak) = record { status = 1; lines = reply_line (weak_words weak) ∷ [] }

-- the first weakness of the kit as macros are assembled of it, if there is one
abbrev pub IsKitReplied : Kit → Reply → Type 0
IsKitReplied kit reply = (found : Option Weak) × IsWeakness IsAssembled kit found × (reply ≡ weak_reply found)

-- that, and no refusal
abbrev pub IsKitAnswered : Kit → Result Reply Refusal → Type 0
IsKitAnswered kit = WithoutRefusal (IsKitReplied kit)
