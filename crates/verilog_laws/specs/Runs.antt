-- What a module does with the commands of a memory.
use Rattle.std.specs.Prelude.{◌≡◌, List, [], ◌∷◌, if◌then◌else◌, Some, None, codes, bytes_eq}
use Rattle.memory_laws.specs.Run.{MemoryCommand, bit_of}
use Rattle.verilog_modules.specs.Tree.{Module, Rising, Falling}
use Rattle.verilog_modules.specs.Meaning.{ModuleState, InputBits, IsEdge}

-- the ports while a command stands at them
abbrev pub command_inputs : MemoryCommand → InputBits
command_inputs c x i =
    if bytes_eq x (codes "csb0") then Some c.csb else (
    if bytes_eq x (codes "web0") then Some c.web else (
    if bytes_eq x (codes "wmask0") then Some (c.wmask i) else (
    if bytes_eq x (codes "addr0") then Some (bit_of c.addr i) else (
    if bytes_eq x (codes "din0") then Some (c.din i) else None))))

-- the clock rises and falls under the command; while it stays low nothing changes
pub record IsModuleCycle (m : Module) (s : ModuleState) (c : MemoryCommand) (end : ModuleState) : Type 0 where
  pub mid : ModuleState
  pub rise : IsEdge m Rising (codes "clk0") (command_inputs c) s mid
  pub fall : IsEdge m Falling (codes "clk0") (command_inputs c) mid end

-- a list of commands leads through these states
abbrev pub IsModuleRun : Module → ModuleState → List MemoryCommand → List ModuleState → ModuleState → Type 0
IsModuleRun m s [] ends end = (ends ≡ []) × (end ≡ s)
IsModuleRun m s (c ∷ cs) [] end = ⊥
IsModuleRun m s (c ∷ cs) (e ∷ ends) end = IsModuleCycle m s c e × IsModuleRun m e cs ends end
