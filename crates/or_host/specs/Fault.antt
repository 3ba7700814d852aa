-- Counts of faults and of calls, and what an answer says of them.
use Rattle.std.specs.Prelude.{◌≡◌, ℕ, ◌+◌, ◌-◌, ◌^◌, ◌<◌, ◌≤◌, List, Bool, true, false, Option, Some, None}

-- A fault rose: the count is higher than before, unless it is saturated at 2^64 - 1.
abbrev pub Rose : ℕ → ℕ → Type 0
Rose before now = now < 2 ^ 64 - 1 → before < now

-- So many calls were made: the count is higher by this number, unless it is saturated at 2^64 - 1.
abbrev pub RoseBy : ℕ → ℕ → ℕ → Type 0
RoseBy calls before now = now < 2 ^ 64 - 1 → now ≡ before + calls

-- A call that failed raised the count, unless it is saturated, and any other call left it. It stays below 2^64.
pub record HasCause (before now : ℕ) (failed : Bool) : Type 0 where
  pub later : before ≤ now
  pub rose : failed ≡ true → Rose before now
  pub kept : failed ≡ false → now ≡ before
  pub fits : before < 2 ^ 64 → now < 2 ^ 64

-- this name is told, or none is
abbrev pub IsNameTold : Option (List ℕ) → List ℕ → Type 0
IsNameTold None name = Unit {0}
IsNameTold (Some told) name = told ≡ name

-- The name of the last call that failed: where a call of this name failed now, it is this name, or no longer told; else it stays.
abbrev pub NamesLast : Option (List ℕ) → Option (List ℕ) → Option (List ℕ) → Type 0
NamesLast None before now = now ≡ before
NamesLast (Some name) before now = IsNameTold now name

-- the name of a call that failed
abbrev pub name_if : Bool → List ℕ → Option (List ℕ)
name_if true name = Some name
name_if false name = None
