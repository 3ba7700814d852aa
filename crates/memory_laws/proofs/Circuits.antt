-- Circuits that are the same at each instance have the same phases and runs.
use Rattle.std.proofs.Common.{◌≡◌, Bool, true, false, List, [], ◌∷◌, sym, subst, ◌∙◌, ap, inl, inr}
use Rattle.sram_netlist.specs.Nets.{Net}
use Rattle.sram_netlist.specs.Instances.{LeafInstance}
use Rattle.cell_roles.specs.declared.role.Role.TheVariants.{Dff}
use Rattle.cell_roles.specs.declared.leaf_role.LeafRole.TheVariants.{Common}
use Rattle.cell_roles.specs.Acts.{Drive, Act}
use Rattle.memory_laws.specs.Phase.{Circuit, State, PortInputs, Gives, DrivesNet, JoinsNets, InGroup, AreJoinedThrough, HasNone, IsDriven, IsPair, IsPhase, act_at, bits}
use Rattle.memory_laws.specs.Run.{MemoryCommand, IsCycle, IsStartState, IsCommandRun, port_values}

pub record SameCircuit (c d : Circuit) : Type 0 where
  pub there : (leaf : LeafInstance) → c.has leaf → d.has leaf
  pub back : (leaf : LeafInstance) → d.has leaf → c.has leaf
  pub knows : (x : Net) → c.knows x → d.knows x
  pub known : (x : Net) → d.knows x → c.knows x
  pub drives : (leaf : LeafInstance) → c.has leaf → c.drives leaf ≡ d.drives leaf
  pub joins : (leaf : LeafInstance) → c.has leaf → c.joins leaf ≡ d.joins leaf
  pub acts : (s : State) (v : Net → Bool) (leaf : LeafInstance) → c.has leaf → act_at c s v leaf ≡ act_at d s v leaf
  pub bits : (s : State) (leaf : LeafInstance) → c.has leaf → bits (c.role leaf) s leaf ≡ bits (d.role leaf) s leaf
  pub flops : (leaf : LeafInstance) → c.has leaf → d.role leaf ≡ Common Dff → c.role leaf ≡ Common Dff
  pub flops_back : (leaf : LeafInstance) → c.has leaf → c.role leaf ≡ Common Dff → d.role leaf ≡ Common Dff

pub flipped : (c d : Circuit) → SameCircuit c d → SameCircuit d c
flipped c d h = record {
  there = h.back;
  back = h.there;
  knows = h.known;
  known = h.knows;
  drives = λ leaf t. sym (h.drives leaf (h.back leaf t));
  joins = λ leaf t. sym (h.joins leaf (h.back leaf t));
  acts = λ s v leaf t. sym (h.acts s v leaf (h.back leaf t));
  bits = λ s leaf t. sym (h.bits s leaf (h.back leaf t));
  flops = λ leaf t. h.flops_back leaf (h.back leaf t);
  flops_back = λ leaf t. h.flops leaf (h.back leaf t);
}

drives_same : (c d : Circuit) → SameCircuit c d → (s : State) (v : Net → Bool) (x : Net) (a : Drive) → DrivesNet c s v x a → DrivesNet d s v x a
drives_same c d h s v x a g = record {
  leaf = g.leaf;
  there = h.there g.leaf g.there;
  driven = subst (λ (ys : List Net). IsDriven x a ys (act_at d s v g.leaf).drives) (h.drives g.leaf g.there) (subst (λ (t : Act). IsDriven x a (c.drives g.leaf) t.drives) (h.acts s v g.leaf g.there) g.driven);
}

gives_same : (c d : Circuit) → SameCircuit c d → (s : State) (i : PortInputs) (v : Net → Bool) (x : Net) (a : Drive) → Gives c s i v x a → Gives d s i v x a
gives_same c d h s i v x a (inl e) = inl e
gives_same c d h s i v x a (inr g) = inr (drives_same c d h s v x a g)

joins_same : (c d : Circuit) → SameCircuit c d → (s : State) (v : Net → Bool) (x y : Net) → JoinsNets c s v x y → JoinsNets d s v x y
joins_same c d h s v x y g = record {
  leaf = g.leaf;
  there = h.there g.leaf g.there;
  pair = subst (λ (ys : List (Net × Net)). IsPair x y ys (act_at d s v g.leaf).joins) (h.joins g.leaf g.there) (subst (λ (t : Act). IsPair x y (c.joins g.leaf) t.joins) (h.acts s v g.leaf g.there) g.pair);
}

linked_same : (c d : Circuit) → SameCircuit c d → (s : State) (v : Net → Bool) (x : Net) (zs : List Net) (y : Net) → AreJoinedThrough c s v x zs y → AreJoinedThrough d s v x zs y
linked_same c d h s v x [] y e = e
linked_same c d h s v x (z ∷ zs) y e = (joins_same c d h s v x z e.0, linked_same c d h s v z zs y e.1)

group_same : (c d : Circuit) → SameCircuit c d → (s : State) (v : Net → Bool) (x y : Net) → InGroup c s v x y → InGroup d s v x y
group_same c d h s v x y g = record { through = g.through; linked = linked_same c d h s v x g.through y g.linked }

none_same : (c d : Circuit) → SameCircuit c d → (s : State) (i : PortInputs) (v : Net → Bool) (level : Bool → Drive) (x : Net) → HasNone d s i v level x → HasNone c s i v level x
none_same c d h s i v level x none y b g e = none y b (group_same c d h s v x y g) (gives_same c d h s i v y (level b) e)

pub phase_same : (c d : Circuit) → SameCircuit c d → (s : State) (i : PortInputs) (v : Net → Bool) (next : State) → IsPhase c s i v next → IsPhase d s i v next
phase_same c d h s i v next ph =
    let f = flipped c d h in
    record {
      strong = λ x y b g e. ph.strong x y b (group_same d c f s v x y g) (gives_same d c f s i v y _ e);
      weak = λ x y b g none e. ph.weak x y b (group_same d c f s v x y g) (none_same c d h s i v _ x none) (gives_same d c f s i v y _ e);
      charge = λ x y known g none weak. ph.charge x y (h.known x known) (group_same d c f s v x y g) (none_same c d h s i v _ x none) (none_same c d h s i v _ x weak);
      stored = λ leaf there. sym (h.bits next leaf (h.back leaf there)) ∙ ph.stored leaf (h.back leaf there) ∙ ap (λ (t : Act). t.next) (h.acts s v leaf (h.back leaf there));
      charges = λ x known. ph.charges x (h.known x known);
    }

abbrev pub command_same : (c d : Circuit) → SameCircuit c d → (s : State) (o : MemoryCommand) (v : Net → Bool) (end : State) → IsCycle c s o v end → IsCycle d s o v end
command_same c d h s o v end run = record {
  first = run.first;
  second = run.second;
  s1 = run.s1;
  s2 = run.s2;
  fetch = phase_same c d h s (port_values true o) run.first run.s1 run.fetch;
  select = phase_same c d h run.s1 (port_values false o) run.second run.s2 run.select;
  finish = phase_same c d h run.s2 (port_values false o) v end run.finish;
}

pub start_same : (c d : Circuit) → SameCircuit c d → (s : State) → IsStartState c s → IsStartState d s
start_same c d h s start leaf there e = start leaf (h.back leaf there) (h.flops leaf (h.back leaf there) e)

pub run_same : (c d : Circuit) → SameCircuit c d → (s : State) (cs : List MemoryCommand) (vs : List (Net → Bool)) (end : State) → IsCommandRun c s cs vs end → IsCommandRun d s cs vs end
run_same c d h s [] vs end run = run
run_same c d h s (o ∷ cs) [] end run = run
run_same c d h s (o ∷ cs) (v ∷ vs) end run = (run.0, command_same c d h s o v run.0 run.1, run_same c d h run.0 cs vs end run.2)
