-- A function's answer and the one that a definition gives.
use Rattle.std.specs.Prelude.{◌≡◌, Result, Ok, Err}
use Rattle.spice_text.specs.declared.fault.SpiceFault.{SpiceFault}
use Rattle.spice_text.specs.declared.fault.SpiceFault.TheVariants as fault

-- the fault is the one that is given, or out of memory
abbrev pub IsSpiceFault : {Y : Type 0} → SpiceFault → Result Y SpiceFault → Type 0
IsSpiceFault fault.Memory given = Unit {0}
IsSpiceFault (fault.NotAscii at) given = given ≡ Err (fault.NotAscii at)
IsSpiceFault (fault.OutsideSubckt line) given = given ≡ Err (fault.OutsideSubckt line)
IsSpiceFault (fault.Unclosed line) given = given ≡ Err (fault.Unclosed line)
IsSpiceFault (fault.Duplicate line) given = given ≡ Err (fault.Duplicate line)
IsSpiceFault (fault.Refused line) given = given ≡ Err (fault.Refused line)
IsSpiceFault (fault.BadLine line) given = given ≡ Err (fault.BadLine line)

-- a function returned what stands for what is given here, or ran out of memory
abbrev pub IsSpiceAnswer : {X Y : Type 0} → (X → Y) → Result X SpiceFault → Result Y SpiceFault → Type 0
IsSpiceAnswer view (Ok x) given = given ≡ Ok (view x)
IsSpiceAnswer view (Err f) given = IsSpiceFault f given
