-- That a step of the work has one outcome, where no read fails and memory lasts.
use Rattle.std.specs.Prelude.{◌≡◌, ◌<◌, Result, Ok, Err}
use Rattle.reply_lines.specs.Statuses.{refusal_status}
use Rattle.reply_lines.specs.declared.refusal.Refusal.{Refusal}

-- neither a failed read nor want of memory
abbrev pub IsLow : Refusal → Type 0
IsLow refusal = refusal_status refusal < 4

-- an outcome that leaves nothing open: a value, or such a refusal
abbrev pub IsDecided : {X : Type 0} → Result X Refusal → Type 0
IsDecided (Ok x) = Unit {0}
IsDecided (Err refusal) = IsLow refusal

-- at most one such outcome has P
abbrev pub IsOnce : {X : Type 0} → (Result X Refusal → Type 0) → Type 0
IsOnce {X} P = (a b : Result X Refusal) → IsDecided a → IsDecided b → P a → P b → a ≡ b
