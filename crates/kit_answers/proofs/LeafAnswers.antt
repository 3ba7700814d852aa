-- The cell of a role is a leaf, or has a first fault.
use Rattle.std.proofs.Common.{◌≡◌, ◌≢◌, ◌⊎◌, inl, inr, ℕ, List, [], ◌∷◌, Option, Some, None, Bool, true, false, cond, refl, ap, subst, ◌∙◌}
use Rattle.std.specs.Prelude.{option_map}
use Rattle.std.specs.List.{find}
use Rattle.std.specs.Str.{bytes_eq}
use Rattle.std.proofs.lemmas.Bool.{cases_Bool}
use Rattle.or_geom.specs.Gathering.{SomeHas}
use Rattle.or_geom.proofs.NameLaws.{same_name}
use Rattle.cell_roles.specs.declared.leaf_role.LeafRole.{LeafRole}
use Rattle.cell_roles.specs.declared.leaf_role.LeafRole.TheVariants.{Common}
use Rattle.cell_roles.specs.declared.role.Role.{Role}
use Rattle.cell_roles.specs.LeafRoles.{leaf_role_name, leaf_role_ports, pin_role}
use Rattle.cell_roles.specs.Roles.{all_roles}
use Rattle.netlist.specs.declared.deck.Subckt.{Subckt}
use Rattle.spice_text.specs.Words.{lower}
use Rattle.tech_rules.specs.declared.tech.RoleName.{RoleName}
use Rattle.tech_rules.specs.declared.tech.Tech.{Tech}
use Rattle.cell_hierarchy.specs.Plain.{FlatLists}
use Rattle.role_tables.specs.Table.{NamesCell}
use Rattle.leaf_shapes.specs.declared.fault.PinFault.{PinFault}
use Rattle.leaf_shapes.specs.declared.fault.PinFault.TheVariants as pin_fault
use Rattle.leaf_shapes.specs.declared.fit.CellSize.{CellSize}
use Rattle.leaf_shapes.specs.declared.pins.LeafPin.{LeafPin}
use Rattle.leaf_shapes.specs.Demands.{role_demands}
use Rattle.leaf_shapes.specs.Pins.{AreLeafPins, IsPinFault}
use Rattle.leaf_tables.specs.declared.fault.KitFault.{KitFault}
use Rattle.leaf_tables.specs.declared.fault.KitFault.TheVariants as kit_fault
use Rattle.leaf_tables.specs.declared.kit.Leaf.{Leaf}
use Rattle.leaf_tables.specs.Leaves.{AreLeaves, HasLeaf, HasPorts, IsFirstLeafFault, IsFlatCell, IsLeaf, IsLeafFault, IsSizedCell, LeafSource}
use Rattle.leaf_tables.specs.Leaves.{cell_named_for, drawing_in, subckt_named}
use Rattle.kit_answers.proofs.CellAnswers.{FlatListsOrFault}
use Rattle.kit_answers.proofs.DecidingLaws.{all_given, all_or_first, decide_lists, decide_text}
use Rattle.kit_answers.proofs.OutlineAnswers.{outline_or_none}
use Rattle.kit_answers.proofs.PinAnswers.{pins_or_fault}

-- an entry of this name is found
entry_found : (entries : List RoleName) (name : List ℕ) → SomeHas (λ (entry : RoleName). entry.role ≡ name) entries
    → (entry : RoleName) × (find (λ (e : RoleName). bytes_eq e.role name) entries ≡ Some entry)
entry_found [] name h = absurd h
entry_found (x ∷ xs) name h = elim (cases_Bool (bytes_eq x.role name)) [
  | inl same ↦ (x, ap (λ (b : Bool). cond b (Some x) (find (λ (e : RoleName). bytes_eq e.role name) xs)) same)
  | inr other ↦
      let found = entry_found xs name (later h other) in
      (found.0, ap (λ (b : Bool). cond b (Some x) (find (λ (e : RoleName). bytes_eq e.role name) xs)) other ∙ found.1)
]
  where
    later : SomeHas (λ (entry : RoleName). entry.role ≡ name) (x ∷ xs) → bytes_eq x.role name ≡ false
        → SomeHas (λ (entry : RoleName). entry.role ≡ name) xs
    later (inl here) other =
        let same : bytes_eq x.role name ≡ true = subst (λ (n : List ℕ). bytes_eq x.role n ≡ true) here (same_name x.role) in absurd (cc)
    later (inr there) other = there

-- so a role that has a cell has its name
cell_named : (tech : Tech) (role : LeafRole) → NamesCell tech role → (cell : List ℕ) × (cell_named_for tech.roles role ≡ Some cell)
cell_named tech role named =
    let found = entry_found tech.roles (leaf_role_name role) named in
    (found.0.cell, ap (option_map (λ (entry : RoleName). entry.cell)) found.1)

module _ (source : LeafSource) (role : LeafRole) where
  abbrev pub LeafFault : Type 0
  LeafFault = (fault : KitFault) × (fault ≢ kit_fault.Memory) × IsLeafFault source role fault

  abbrev pub LeafOrFault : Type 0
  LeafOrFault = HasLeaf source role ⊎ LeafFault

  -- the pins of a cell that is sized and wired
  by_pins : (cell : List ℕ) (lists : FlatLists) (size : CellSize) → IsSizedCell source role cell lists size → HasPorts source.subckts role cell
      → ((pins : List LeafPin) × AreLeafPins (drawing_in source size lists) (role_demands (pin_role role)) pins)
      ⊎
      ((fault : PinFault) × (fault ≢ pin_fault.Memory) × IsPinFault (drawing_in source size lists) (role_demands (pin_role role)) fault)
      → LeafOrFault
  by_pins cell lists size sized ports (inl pins) =
      inl (
        record { width = size.width; height = size.height; pins = pins.0 },
        record { cell = cell; lists = lists; sized = sized; ports = ports; pins = pins.1 },
      )
  by_pins cell lists size sized ports (inr (pin_fault.PinMissing pin, some, is)) =
      inr (
        kit_fault.PinMissing (leaf_role_name role) pin,
        λ e. absurd (cc),
        (refl, record { cell = cell; lists = lists; size = size; sized = sized; ports = ports; is = is }),
      )
  by_pins cell lists size sized ports (inr (pin_fault.PinLayer pin, some, is)) =
      inr (
        kit_fault.PinLayer (leaf_role_name role) pin,
        λ e. absurd (cc),
        (refl, record { cell = cell; lists = lists; size = size; sized = sized; ports = ports; is = is }),
      )
  by_pins cell lists size sized ports (inr (pin_fault.EdgePin pin, some, is)) =
      inr (
        kit_fault.EdgePin (leaf_role_name role) pin,
        λ e. absurd (cc),
        (refl, record { cell = cell; lists = lists; size = size; sized = sized; ports = ports; is = is }),
      )
  by_pins cell lists size sized ports (inr (pin_fault.Memory, some, is)) = absurd (some refl)

  -- the subcircuit of a cell that is sized
  by_subckt : (cell : List ℕ) (lists : FlatLists) (size : CellSize) → IsSizedCell source role cell lists size → (found : Option Subckt)
      → subckt_named source.subckts (lower cell) ≡ found → LeafOrFault
  by_subckt cell lists size sized None e =
      inr (
        kit_fault.UnknownSubckt (lower cell),
        λ f. absurd
            (cc),
        record { cell = cell; lists = lists; size = size; sized = sized; is = record { is = refl; none = e } },
      )
  by_subckt cell lists size sized (Some subckt) e = elim (decide_lists decide_text subckt.ports (leaf_role_ports role)) [
    | inl ports ↦
        by_pins cell lists size sized (record { subckt = subckt; there = e; ports = ports })
        (pins_or_fault (drawing_in source size lists) (role_demands (pin_role role)))
    | inr differ ↦ inr (
      kit_fault.PortsDiffer (leaf_role_name role),
      λ f. absurd (cc),
      (refl, record { cell = cell; lists = lists; size = size; sized = sized; is = record { subckt = subckt; there = e; differ = differ } }),
    )
  ]

  -- the outline of a cell that is flat
  by_outline : (cell : List ℕ) (lists : FlatLists) → IsFlatCell source role cell lists → LeafOrFault
  by_outline cell lists flat = elim (outline_or_none source.wire source.tech.outline lists.shapes) [
    | inl size ↦ by_subckt cell lists size.0 (record { flat = flat; outline = size.1 }) (subckt_named source.subckts (lower cell)) refl
    | inr none ↦
        inr (kit_fault.Outline (leaf_role_name role), λ e. absurd (cc), (refl, record { cell = cell; lists = lists; flat = flat; none = none }))
  ]

  by_cell : (cell : List ℕ) → cell_named_for source.tech.roles role ≡ Some cell → FlatListsOrFault source.tech.layers source.structs cell
      → LeafOrFault
  by_cell cell plays (inl lists) = by_outline cell lists.0 (record { plays = plays; flat = lists.1 })
  by_cell cell plays (inr fault) =
      inr (kit_fault.Flatten fault.0, λ e. absurd (cc), record { cell = cell; plays = plays; some = fault.1; is = fault.2 })

  pub leaf_or_fault : ((top : List ℕ) → FlatListsOrFault source.tech.layers source.structs top) → NamesCell source.tech role → LeafOrFault
  leaf_or_fault flat named = let cell = cell_named source.tech role named in by_cell cell.0 cell.1 (flat cell.0)

-- each role has its leaf, or the first that hasn't has a fault
pub leaves_or_fault : (source : LeafSource) → ((top : List ℕ) → FlatListsOrFault source.tech.layers source.structs top)
    → ((role : Role) → NamesCell source.tech (Common role))
    → ((leaves : List Leaf) × AreLeaves source leaves) ⊎ ((fault : KitFault) × (fault ≢ kit_fault.Memory) × IsFirstLeafFault source fault)
leaves_or_fault source flat named =
    elim
    (all_or_first (λ (r : Role). HasLeaf source (Common r)) (λ (r : Role). LeafFault source (Common r)) all_roles
    (λ k r there. leaf_or_fault source (Common r) flat (named r))) [
      | inl all ↦
          (let given = all_given (λ (r : Role). IsLeaf source (Common r)) all_roles all in inl
          (given.0, record { sized = given.1.sized; each = given.1.each }))
      | inr first ↦
          inr
          (first.bad.0, first.bad.1, record { place = first.place; role = first.item; there = first.there; is = first.bad.2; before = first.before })
    ]
