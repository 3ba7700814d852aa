-- What a step of the work ends with: a value, or a refusal that ends the work.
use Rattle.std.specs.Prelude.{◌≡◌, ◌⊎◌, ℕ, List, Bool, false, Option, Some, None, Result, Ok, Err}
use Rattle.reply_lines.specs.declared.refusal.Refusal.{Refusal}
use Rattle.reply_lines.specs.declared.refusal.Refusal.TheVariants.{ReadFailed}
use Rattle.reply_lines.specs.Statuses.{is_memory, is_read_failure, is_usage}

-- a value that has Q, and no refusal
abbrev pub WithoutRefusal : {X : Type 0} → (X → Type 0) → Result X Refusal → Type 0
WithoutRefusal Q (Ok x) = Q x
WithoutRefusal Q (Err refusal) = ⊥

-- a value that has Q, or the refusal of a fault that has P
abbrev pub ValueOrFault : {X F : Type 0} → (X → Type 0) → (F → Type 0) → (F → Refusal) → Result X Refusal → Type 0
ValueOrFault Q P say (Ok x) = Q x
ValueOrFault {X} {F} Q P say (Err refusal) = (fault : F) × P fault × (refusal ≡ say fault)

-- one step and then the next over its value, unless the first ends the work
abbrev pub Then : {X Y : Type 0} → (Result X Refusal → Type 0) → (X → Result Y Refusal → Type 0) → Result Y Refusal → Type 0
Then {X} {Y} first next (Ok y) = (x : X) × first (Ok x) × next x (Ok y)
Then {X} {Y} first next (Err refusal) = first (Err refusal) ⊎ ((x : X) × first (Ok x) × next x (Err refusal))

-- the outcome has P, unless memory ran out
abbrev pub UnlessMemory : {X : Type 0} → (Result X Refusal → Type 0) → Result X Refusal → Type 0
UnlessMemory P (Ok x) = P (Ok x)
UnlessMemory P (Err refusal) = is_memory refusal ≡ false → P (Err refusal)

-- a file couldn't be read
abbrev pub is_read_failed : {X : Type 0} → Result X Refusal → Bool
is_read_failed (Ok x) = false
is_read_failed (Err refusal) = is_read_failure refusal

-- the file that couldn't be read
abbrev pub unread_name : Refusal → Option (List ℕ)
unread_name (ReadFailed name) = Some name
unread_name other = None

abbrev pub unread_in : {X : Type 0} → Result X Refusal → Option (List ℕ)
unread_in (Ok x) = None
unread_in (Err refusal) = unread_name refusal

-- the words are no form
abbrev pub is_usage_outcome : {X : Type 0} → Result X Refusal → Bool
is_usage_outcome (Ok x) = false
is_usage_outcome (Err refusal) = is_usage refusal
