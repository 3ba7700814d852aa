-- Instances of a macro that stand, moved, in a window show their nets there.
use Rattle.std.proofs.Common.{◌≡◌, ◌⊎◌, ◌↔◌, inl, inr, ℕ, zero, suc, ◌<◌, ℤ, ◌++◌, map, length, refl, sym, ap, subst, ◌∙◌, arith}
use Rattle.or_geom.specs.declared.shape.Shape.{Shape}
use Rattle.cell_roles.specs.declared.role.Role.{Role}
use Rattle.cell_roles.specs.Roles.{role_ports}
use Rattle.cell_hierarchy.specs.Plain.{FlatLists}
use Rattle.sram_netlist.specs.Organization.{Organization}
use Rattle.sram_netlist.specs.Instances.{LogicCell, LeafInstance, Clki, Csd, Wed, Csi, Wei, Wln, Wli, Wrn, Wri, Rdn, Rdi, Dlay, Senn, Seni, Ad, Ai, Dd, Dm, Pn, Pi, Ln, Li, Kn, Ki, Gn, Gi, BitAt, NandAt, DriverAt, PrechargeAt, WriteAt, SenseAt, MuxAt, TieAt, LogicAt}
use Rattle.sram_netlist.specs.Netlist.{role, ports, row_gate, gate_of, bank_input, mask_input}
use Rattle.moved_nets.specs.Moved.{IsLike, slice_net, slice_leaf, IsInSlices, Moves, logic_net, moved_cell, MovesAsMask}
use Rattle.moved_nets.proofs.SliceLaws.{slices_move}
use Rattle.moved_nets.proofs.LogicLaws.{logic_moves}
use Rattle.good_nets.specs.Parts.{StandsIn}
use Rattle.kit_nets.specs.Bound.{BindsForPort}
use Rattle.kit_nets.specs.StatedParts.{Source, Standing, stated_parts}
use Rattle.kit_nets.specs.StandIns.{AreAkin, StandsMoved}

-- a moved instance has the role of its stand-in
slice_role : (plan small : Organization) (k : ℕ) (leaf : LeafInstance) → IsLike plan small → IsInSlices leaf → role plan (slice_leaf plan k leaf) ≡ role small leaf
slice_role plan small k (BitAt b r c) like is = refl
slice_role plan small k (NandAt b r) like is = ap row_gate (sym like.groups)
slice_role plan small k (DriverAt b r) like is = refl
slice_role plan small k (PrechargeAt b c) like is = refl
slice_role plan small k (WriteAt b i) like is = refl
slice_role plan small k (SenseAt b i) like is = refl
slice_role plan small k (MuxAt b c) like is = refl
slice_role plan small k (TieAt b c) like is = refl
slice_role plan small k (LogicAt (Dd i)) like is = refl
slice_role plan small k (LogicAt cell) like is = elsewhere cell is where
  elsewhere : (cell : LogicCell) → IsInSlices (LogicAt cell) → role plan (slice_leaf plan k (LogicAt cell)) ≡ role small (LogicAt cell)
  elsewhere (Dd i) is = refl
  elsewhere cell is = absurd is

-- the gate of a write enable has so many inputs in both
inputs_sized : (plan small : Organization) (n pm sm bank m m' : ℕ) (sw : ℕ) → ((pm ≡ 0) × (sm ≡ 0)) ⊎ ((0 < pm) × (0 < sm) × (sw ≡ 1)) → length (bank_input plan n bank ++ mask_input pm m) ≡ length (bank_input small n bank ++ mask_input sm m')
inputs_sized plan small zero zero zero bank m m' sw masks = refl
inputs_sized plan small (suc n) zero zero bank m m' sw masks = refl
inputs_sized plan small n zero (suc sm) bank m m' sw (inl none) = absurd cc
inputs_sized plan small n zero (suc sm) bank m m' sw (inr some) = absurd (omega (arith, some.0))
inputs_sized plan small n (suc pm) zero bank m m' sw (inl none) = absurd cc
inputs_sized plan small n (suc pm) zero bank m m' sw (inr some) = absurd (omega (arith, some.1))
inputs_sized plan small zero (suc pm) (suc sm) bank m m' sw masks = refl
inputs_sized plan small (suc n) (suc pm) (suc sm) bank m m' sw masks = refl

pub logic_same_role : (plan small : Organization) (v : Moves) (cell : LogicCell) → IsLike plan small → role plan (LogicAt (moved_cell v cell)) ≡ role small (LogicAt cell)
logic_same_role plan small v Clki like = refl
logic_same_role plan small v Csd like = refl
logic_same_role plan small v Wed like = refl
logic_same_role plan small v Csi like = refl
logic_same_role plan small v Wei like = refl
logic_same_role plan small v Wln like = refl
logic_same_role plan small v Wli like = refl
logic_same_role plan small v Wrn like = refl
logic_same_role plan small v Wri like = refl
logic_same_role plan small v Rdn like = refl
logic_same_role plan small v Rdi like = refl
logic_same_role plan small v Dlay like = refl
logic_same_role plan small v Senn like = refl
logic_same_role plan small v Seni like = refl
logic_same_role plan small v (Ad i) like = refl
logic_same_role plan small v (Ai i) like = refl
logic_same_role plan small v (Dd i) like = refl
logic_same_role plan small v (Dm m) like = refl
logic_same_role plan small v (Pn o b k) like = refl
logic_same_role plan small v (Pi o b k) like = refl
logic_same_role plan small v (Ln bank) like = refl
logic_same_role plan small v (Li bank) like = refl
logic_same_role plan small v (Kn bank) like = refl
logic_same_role plan small v (Ki bank) like = refl
logic_same_role plan small v (Gn bank m) like =
    let sized = inputs_sized plan small plan.bank_bits plan.masks small.masks bank (v.of_bank bank m) m small.write_size like.masks in
    let more = sized ∙ ap (λ (n : ℕ). length (bank_input small n bank ++ mask_input small.masks m)) (sym like.bank_bits) in
    ap (λ (n : ℕ). gate_of (suc n)) more
logic_same_role plan small v (Gi bank m) like = refl

module _ (s w : Source) (akin : AreAkin s w) where
  -- where roles are the same, so are cells and labels
  bound_too : (r q : Role) → r ≡ q → (port : ℕ) (inner : Shape) → BindsForPort (s.lists r) (role_ports r) port inner ↔ BindsForPort (w.lists q) (role_ports q) port inner
  bound_too r q same port inner = (
    λ b. subst (λ (x : Role). BindsForPort (w.lists x) (role_ports x) port inner) same (subst (λ (l : FlatLists). BindsForPort l (role_ports r) port inner) (sym (akin.cells r)) b),
    λ b. subst (λ (l : FlatLists). BindsForPort l (role_ports r) port inner) (akin.cells r) (subst (λ (x : Role). BindsForPort (w.lists x) (role_ports x) port inner) (sym same) b),
  )

  cell_too : (r q : Role) → r ≡ q → (w.lists q).shapes ≡ (s.lists r).shapes
  cell_too r q same = ap (λ (x : Role). (w.lists x).shapes) (sym same) ∙ ap (λ (l : FlatLists). l.shapes) (akin.cells r)

  -- An instance of a bank, or a data flip-flop, is shown by the one that stands k slices before it.
  pub slice_stands_in : (k : ℕ) (dx dy : ℤ) (i : Standing s) (j : Standing w) → IsInSlices j.leaf → i.leaf ≡ slice_leaf s.plan k j.leaf → StandsMoved s w dx dy i j → StandsIn (stated_parts s) (stated_parts w) (slice_net s.plan k) dx dy i j
  slice_stands_in k dx dy i j inside is moved =
      let same = ap (role s.plan) is ∙ slice_role s.plan w.plan k j.leaf akin.plans inside in
      record {
        cell = cell_too (role s.plan i.leaf) (role w.plan j.leaf) same;
        bound = bound_too (role s.plan i.leaf) (role w.plan j.leaf) same;
        ports = ap (ports s.plan) is ∙ slices_move s.plan w.plan k j.leaf akin.plans inside;
        place = moved;
      }

  -- A cell of the logic row is shown by the one that it is moved from.
  pub logic_stands_in : (v : Moves) (dx dy : ℤ) (i : Standing s) (j : Standing w) (cell : LogicCell) → j.leaf ≡ LogicAt cell → MovesAsMask v cell → i.leaf ≡ LogicAt (moved_cell v cell) → StandsMoved s w dx dy i j → StandsIn (stated_parts s) (stated_parts w) (logic_net v) dx dy i j
  logic_stands_in v dx dy i j cell there moves is moved =
      let same = ap (role s.plan) is ∙ (logic_same_role s.plan w.plan v cell akin.plans ∙ ap (role w.plan) (sym there)) in
      record {
        cell = cell_too (role s.plan i.leaf) (role w.plan j.leaf) same;
        bound = bound_too (role s.plan i.leaf) (role w.plan j.leaf) same;
        ports = ap (ports s.plan) is ∙ (logic_moves s.plan w.plan v cell akin.plans moves ∙ ap (λ (leaf : LeafInstance). map (logic_net v) (ports w.plan leaf)) (sym there));
        place = moved;
      }
