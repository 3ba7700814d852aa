-- The layout of a kit takes the sides and the demanded pins of its leaf cells.
use Rattle.std.proofs.Common.{◌≡◌, ℕ, zero, suc, ◌+◌, List, [], ◌∷◌, Option, Some, refl, sym, subst, arith}
use Rattle.std.specs.List.{position_or_len}
use Rattle.std.specs.Prelude.{slice_get}
use Rattle.cell_roles.specs.declared.role.Role.{Role}
use Rattle.cell_roles.specs.declared.role.Role.TheVariants.{Bitcell, Precharge, Mux, Tie, Sense, Write, RowNand2, RowNand3, Driver, Nand2, Nand3, Inv, Dff, Delay}
use Rattle.leaf_shapes.specs.declared.demand.Metal.{Metal}
use Rattle.leaf_shapes.specs.declared.demand.Metal.TheVariants.{M1, M2, M3, M4}
use Rattle.leaf_shapes.specs.declared.fit.Fit.{Fit}
use Rattle.leaf_shapes.specs.Demands.{PinDemand, draw, role_demands}
use Rattle.leaf_tables.specs.declared.kit.Kit.{Kit}
use Rattle.leaf_tables.specs.Kits.{IsKit}
use Rattle.floorplan.specs.Demanded.{asks_for, metal_number, IsDemandOf}
use Rattle.floorplan.specs.LayoutOfKit.{layout_kit}
use Rattle.floorplan.proofs.DemandLaws.{seven_in_kit, pin_is}
use Rattle.view_cover.proofs.RoleLaws.{width_is, height_is}
use Rattle.joined_nets.proofs.WireNetLaws.{place_below}
use Rattle.kit_nets.specs.LaidKit.{IsLaidBy}
use Rattle.kit_nets.specs.RolePins.{metal_place, IsDemand}

-- Each demand of a role is the first for its pin and metal.

abbrev AreFirst : List PinDemand → ℕ → List PinDemand → Type 0
AreFirst all k [] = Unit {0}
AreFirst all k (d ∷ ds) = (position_or_len (asks_for d.pin d.metal) all ≡ k) × AreFirst all (suc k) ds

first_at : (all : List PinDemand) (k : ℕ) (ds : List PinDemand) (j : ℕ) (d : PinDemand) → AreFirst all k ds → slice_get ds j ≡ Some d → position_or_len (asks_for d.pin d.metal) all ≡ k + j
first_at all k [] j d are h = absurd cc
first_at all k (e ∷ ds) zero d are h =
    let same : e ≡ d = some_same e d h in
    let here = subst (λ (x : PinDemand). position_or_len (asks_for x.pin x.metal) all ≡ k) same are.0 in
    omega (arith, here)
  where
    some_same : (x y : PinDemand) → ◌≡◌ {A = Option PinDemand} (Some x) (Some y) → x ≡ y
    some_same x y e = cc
first_at all k (e ∷ ds) (suc j) d are h = let later = first_at all (suc k) ds j d are.1 h in omega (arith, later)

all_first : (role : Role) → AreFirst (role_demands role) 0 (role_demands role)
all_first Bitcell = (refl, (refl, (refl, (refl, (refl, tt)))))
all_first Precharge = (refl, (refl, (refl, (refl, (refl, tt)))))
all_first Mux = (refl, (refl, (refl, (refl, (refl, (refl, (refl, tt)))))))
all_first Tie = (refl, (refl, (refl, (refl, (refl, (refl, tt))))))
all_first Sense = (refl, (refl, (refl, (refl, (refl, (refl, tt))))))
all_first Write = (refl, (refl, (refl, (refl, (refl, (refl, tt))))))
all_first RowNand2 = (refl, (refl, (refl, (refl, (refl, tt)))))
all_first RowNand3 = (refl, (refl, (refl, (refl, (refl, (refl, tt))))))
all_first Driver = (refl, (refl, (refl, (refl, (refl, tt)))))
all_first Nand2 = (refl, (refl, (refl, (refl, (refl, tt)))))
all_first Nand3 = (refl, (refl, (refl, (refl, (refl, (refl, tt))))))
all_first Inv = (refl, (refl, (refl, (refl, tt))))
all_first Dff = (refl, (refl, (refl, (refl, (refl, tt)))))
all_first Delay = (refl, (refl, (refl, (refl, tt))))

one_metal : (on : Metal) → metal_number on ≡ metal_place on
one_metal M1 = refl
one_metal M2 = refl
one_metal M3 = refl
one_metal M4 = refl

demand_of : (role : Role) (port : ℕ) (on : Metal) (fit : Fit) (d : IsDemand role port on fit) → IsDemandOf role port (metal_place on) d.place
demand_of role port on fit d = record {
  name = d.name;
  named = d.named;
  on = on;
  number = one_metal on;
  first = (let at = first_at (role_demands role) 0 (role_demands role) d.place (draw d.name on fit) (all_first role) d.there in omega (arith, at));
  there = place_below (role_demands role) d.place (draw d.name on fit) d.there;
}

-- So the layout is laid by the kit.
pub laid_by_kit : (kit : Kit) → IsKit kit → IsLaidBy kit (layout_kit kit)
laid_by_kit kit is = record {
  pin = λ role leaf there port on fit d pin at. pin_is kit is (seven_in_kit kit is) role leaf there d.place pin at port (metal_place on) (demand_of role port on fit d);
  width = λ role leaf there. sym (width_is kit is role leaf there);
  height = λ role leaf there. sym (height_is kit is role leaf there);
}
